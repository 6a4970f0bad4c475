-- A verdict and its cell or mutator have numbers that tell any two apart. Assumes nothing.
use Rattle.std.proofs.Common.{◌≡◌, refl}
use Rattle.std.specs.Prelude.{[], ◌∷◌, get_or}
use Rattle.base.specs.Answers.{TellsApart}
use Rattle.base.proofs.Answers.{undone}
use Rattle.verdict.specs.declared.Verdict.{Verdict}
use Rattle.verdict.specs.declared.Verdict.TheVariants as verdict
use Rattle.verdict.specs.Judged.{Finding, told}

-- back from the numbers: the verdicts stand in the order of theirs, from 0 on
abbrev verdict_at : Finding → Verdict
verdict_at k = get_or (verdict.Sound ∷ verdict.Loose k.number ∷ verdict.BlackToWhite k.number ∷ verdict.Handshake k.number ∷ verdict.Malformed ∷ []) k.verdict verdict.Sound

verdict_back : (v : Verdict) → verdict_at (told v) ≡ v
verdict_back verdict.Sound = refl
verdict_back (verdict.Loose c) = refl
verdict_back (verdict.BlackToWhite c) = refl
verdict_back (verdict.Handshake p) = refl
verdict_back verdict.Malformed = refl

pub told_apart : TellsApart told
told_apart = undone told verdict_at verdict_back
