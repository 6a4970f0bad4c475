-- The setters of a process and of the state. Assumes nothing.
--     at_law, noting_law, leaving_law, marking_law, listing_law, shaking_law     of a process
--     with_memory_law, with_hands_law                                            of the state
--     with_process_here, -there, -leaves, -past                                  of one of its processes
use mathlib.Core.Path.{refl, ap}
use mathlib.Core.List.{List}
use lib.ListN.{length-set}
use lib.Seq.{get_or-set_same, get_or-set_other, set_out}
use Rattle.state.specs.declared.Process.{Process}
use Rattle.state.specs.States.{no_process}
use Rattle.state.specs.SetterLaws.{AtLaw, NotingLaw, LeavingLaw, MarkingLaw, ListingLaw, ShakingLaw, WithMemoryLaw, WithHandsLaw, WithProcessHere, WithProcessThere, WithProcessLeaves, WithProcessPast}

pub at_law : AtLaw
at_law k j q = (refl, refl, (refl, refl, refl, refl), refl, (refl, refl, refl, refl), (refl, refl), refl)

pub noting_law : NotingLaw
noting_law x f y old q = ((refl, refl), refl, refl, refl, refl, refl, (refl, refl, refl, refl), (refl, refl), refl)

pub leaving_law : LeavingLaw
leaving_law l q = ((refl, refl), (refl, refl, refl, refl), refl, (refl, refl, refl, refl), (refl, refl), refl)

pub marking_law : MarkingLaw
marking_law c l b g q = ((refl, refl), (refl, refl, refl, refl), refl, refl, refl, refl, refl, (refl, refl), refl)

pub listing_law : ListingLaw
listing_law w o q = ((refl, refl), (refl, refl, refl, refl), refl, (refl, refl, refl, refl), refl, refl, refl)

pub shaking_law : ShakingLaw
shaking_law a i h q = ((refl, refl), (refl, refl, refl, refl), refl, (refl, refl, refl, refl), (refl, refl), refl, refl, refl)

pub with_memory_law : WithMemoryLaw
with_memory_law s m = (refl, refl, refl)

pub with_hands_law : WithHandsLaw
with_hands_law s h = (refl, refl, refl)

pub with_process_here : WithProcessHere
with_process_here s p q l = get_or-set_same s.procs p q no_process l

pub with_process_there : WithProcessThere
with_process_there s p o q n = get_or-set_other s.procs p o q no_process n

pub with_process_leaves : WithProcessLeaves
with_process_leaves s p q = (refl, refl, length-set s.procs p q)

pub with_process_past : WithProcessPast
with_process_past s p q l = ap (λ (qs : List Process). record { memory = s.memory; procs = qs; system = s.system }) (set_out s.procs p q l)
