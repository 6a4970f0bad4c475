-- The last read of a run: what is kept record by record is what the rule says. Assumes nothing.
--     read_to         what the records taken have read, the last that reads deciding
--     last_read      it is the rule's
--     last_one       which has one number
use mathlib.Core.Path.{◌≡◌, refl, sym, ap, ◌∙◌, subst}
use mathlib.Core.Bool.{Bool, true, false, false≢true}
use mathlib.Core.List.{List}
use Prim.Native.Nat.{ℕ, suc, ◌<◌}
use native.Mathlib.Decide.{dec_lt, ℕ_discrete}
use native.Mathlib.Omega.{arith}
use Rattle.buffers.specs.declared.sources.Source.{Source}
use Rattle.buffers.specs.declared.sources.Source.TheVariants as source
use Rattle.buffers.specs.Sources.{source_number, read_after}
use Rattle.state.specs.declared.State.{State}
use Rattle.engine.specs.Readings.{read_by, ReadFrom}
use Rattle.engine.proofs.Readings.{read_told, read_one}
use Rattle.runlog.specs.Rule.{record_of, Taken, none, more, ReadAt, Blind, LastRead, never, last}

module _ (log : List ℕ) where
  unfoldable pub read_to : {k : ℕ} {s : State} → Taken log k s → Source
  read_to none = source.Nothing
  read_to (more k s t p w r e) = read_after (read_to p) (read_by s (record_of log k).choice)

  -- ---- the rule, of where the value came from
  data From (k : ℕ) (v : Source) : Type 0 where
    unread : v ≡ source.Nothing → ((i : ℕ) → i < k → Blind log i) → From k v
    read : (i : ℕ) → (v ≡ source.Nothing → ⊥) → i < k → ReadAt log i v → ((j : ℕ) → i < j → j < k → Blind log j) → From k v

  -- one record more that reads nothing
  blinder : {k : ℕ} (P : ℕ → Type 0) → ((j : ℕ) → P j → j < k → Blind log j) → Blind log k → (j : ℕ) → P j → j < suc k → Blind log j
  blinder {k} P f z j h l = go (ℕ_discrete j k)
    where
      go : Dec (j ≡ k) → Blind log j
      go (yes e) = subst (Blind log) (sym e) z
      go (no n) = f j h (omega arith)

  spared : {k : ℕ} {v : Source} → Blind log k → From k v → From (suc k) v
  spared {k} z (unread e f) = unread e (λ i l. blinder (λ j. Unit {0}) (λ j u. f j) z i tt l)
  spared {k} z (read i n l a f) = read i n (omega arith) a (λ j h m. blinder (λ j. i < j) f z j h m)

  newest : (k : ℕ) (v : Source) → (v ≡ source.Nothing → ⊥) → ReadAt log k v → From (suc k) v
  newest k v n a = read k n (omega arith) a (λ j h l. absurd (omega arith))

  apart : {A : Type 0} (b : Source → Bool) {v w : Source} → b v ≡ true → b w ≡ false → v ≡ w → A
  apart b x y e = absurd (false≢true (sym y ∙ sym (ap b e) ∙ x))

  abbrev reads : Source → Bool
  reads source.Nothing = false
  reads source.Memory = true
  reads (source.Own i) = true

  next : (k : ℕ) (v u : Source) → ReadAt log k u → From k v → From (suc k) (read_after v u)
  next k v source.Nothing a f = spared a f
  next k v source.Memory a f = newest k source.Memory (λ e. apart reads refl refl e) a
  next k v (source.Own i) a f = newest k (source.Own i) (λ e. apart reads refl refl e) a

  from : {k : ℕ} {s : State} (p : Taken log k s) → From k (read_to p)
  unfolding read_to
  from none = unread refl (λ i l. absurd (omega arith))
  from (more k s t p w r e) =
      next k (read_to p) (read_by s (record_of log k).choice) (record { state = s; taken = p; read = read_told s (record_of log k).choice t e }) (from p)

  pub last_read : {k : ℕ} {s : State} (p : Taken log k s) → LastRead log k (source_number (read_to p))
  last_read {k} p = go (read_to p) (from p)
    where
      go : (v : Source) → From k v → LastRead log k (source_number v)
      go v (unread e f) = never (ap source_number e) f
      go v (read i n l a f) = last i v refl n l a f

  -- ---- it has one number, where the states of a run are one
  module _ (same : (k : ℕ) (s t : State) → Taken log k s → Taken log k t → s ≡ t) where
    one_read : {i : ℕ} {v w : Source} → ReadAt log i v → ReadAt log i w → v ≡ w
    one_read {i} {v} {w} a b =
        let c = (record_of log i).choice in
        read_one b.state c v w (subst (λ (s : State). ReadFrom s c v) (same i a.state b.state a.taken b.taken) a.read) b.read

    pub last_one : {k x y : ℕ} → LastRead log k x → LastRead log k y → x ≡ y
    last_one (never e f) (never g h) = e ∙ sym g
    last_one (never e f) (last i v g n l a h) = absurd (n (one_read a (f i l)))
    last_one (last i v g n l a h) (never e f) = absurd (n (one_read a (f i l)))
    last_one {k} {x} {y} (last i v g n l a h) (last j w d z m b f) = go (dec_lt i j) (dec_lt j i)
      where
        go : Dec (i < j) → Dec (j < i) → x ≡ y
        go (yes q) r = absurd (z (one_read b (h j q m)))
        go (no q) (yes r) = absurd (n (one_read a (f i r l)))
        go (no q) (no r) =
            let e : i ≡ j = omega arith in
            g ∙ ap source_number (one_read (subst (λ (k : ℕ). ReadAt log k v) e a) b) ∙ sym d
