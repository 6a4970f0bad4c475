-- B13: verdict 2's own words, "a black cell has a memory field naming a white one", never. Assumes nothing.
use Rattle.state.specs.declared.State.{State}
use Rattle.verdict.specs.Colours.{BlackToWhite}
use Rattle.verdict.specs.Judged.{None}

abbrev pub Tricolour : State → Type 0
Tricolour s = None (BlackToWhite s)
