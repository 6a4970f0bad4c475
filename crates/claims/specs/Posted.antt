-- The system's handshake phase and its type, told by where the collector stands. Assumes nothing.
use Rattle.std.specs.Prelude.{◌≡◌, Bool, false, List, [], ◌∷◌, ◌⊎◌, ℕ, eqb, leb}
use Rattle.base.specs.Pick.{pick}
use Rattle.state.specs.declared.Handshake.{Handshake}
use Rattle.state.specs.declared.Handshake.TheVariants as hand
use Rattle.state.specs.declared.RoundType.{RoundType}
use Rattle.state.specs.declared.RoundType.TheVariants as round
use Rattle.state.specs.declared.State.{State}
use Rattle.state.specs.Codes.{row1_round, row3_round, row4_round, row5_round, row6_round, row6_take, row8_take, raise_stage}
use Rattle.state.specs.States.{next_of, process_of}
use Rattle.formed.specs.Fits.{among_of, round_places}
use Rattle.claims.specs.Runs.{Always}

-- ---- the phase
-- the system's handshake phase when the collector comes to a place
abbrev pub coming_of : ℕ → Handshake
coming_of place =
    pick (leb place row1_round) hand.IdleMarkSweep
    (pick (leb place row3_round) hand.Idle
    (pick (leb place row4_round) hand.IdleInit
    (pick (leb place row5_round) hand.InitMark
    (pick (leb place row6_round) hand.Mark
    hand.IdleMarkSweep))))

-- "the system's handshake phase advances for no-op and roots": in the rounds of rows 1, 3, 4, 5 and 6
abbrev pub advancing_rounds : List ℕ
advancing_rounds = row1_round ∷ row3_round ∷ row4_round ∷ row5_round ∷ row6_round ∷ []

-- once the type is set it has advanced
abbrev pub posted_of : ℕ → ℕ → Handshake
posted_of place stage = pick (among_of place advancing_rounds) (pick (leb raise_stage stage) (next_of (coming_of place)) (coming_of place)) (coming_of place)

-- the system's handshake phase is the one that the collector's place and stage tell
abbrev pub Posted : State → Type 0
Posted s = s.system.phase ≡ posted_of (process_of s 0).place (process_of s 0).stage

-- after any choices
abbrev pub RunPosted : Type 0
RunPosted = Always Posted

-- ---- the type
-- what is known of the type: it is a certain one, or it is roots or work
pub data Asked : Type 0 where
  only : RoundType → Asked
  roots_or_work : Asked

abbrev pub Allows : Asked → RoundType → Type 0
Allows (Asked.only t) k = k ≡ t
Allows Asked.roots_or_work k = (k ≡ round.Roots) ⊎ (k ≡ round.Work)

-- when the collector comes to a place: at row 1 the opening's ("type roots") or row 6's or 8's; then no-op, up to row
-- 6's round; at a take its round's; elsewhere row 6's or 8's
abbrev pub coming_asked : ℕ → Asked
coming_asked place =
    pick (leb place row1_round) Asked.roots_or_work
    (pick (leb place row6_round) (Asked.only round.Noop)
    (pick (leb place row6_take) (Asked.only round.Roots)
    (pick (eqb place row8_take) (Asked.only round.Work)
    Asked.roots_or_work)))

-- rows 1, 3, 4 and 5 "no-op round", row 6 "roots round", row 8 "work round"
abbrev pub round_type : ℕ → RoundType
round_type place = pick (leb place row5_round) round.Noop (pick (leb place row6_round) round.Roots round.Work)

-- a round raises or polls
abbrev pub busy_of : ℕ → ℕ → Bool
busy_of place stage = pick (among_of place round_places) (leb raise_stage stage) false

-- "fence; set type ..; raise ..; poll": once it is set it is the round's
abbrev pub asked_of : ℕ → ℕ → Asked
asked_of place stage = pick (busy_of place stage) (Asked.only (round_type place)) (coming_asked place)

-- the type is one that the collector's place and stage tell
abbrev pub Typed : State → Type 0
Typed s = Allows (asked_of (process_of s 0).place (process_of s 0).stage) s.system.kind

-- after any choices
abbrev pub RunTyped : Type 0
RunTyped = Always Typed
