-- The setters of memory. Assumes nothing.
--     with_used_law, with_marks_law, with_field0_law, with_field1_law      of the cells
--     with_sense_law, with_alloc_sense_law, with_phase_law                 of the senses and the phase
--     with_lock_law, with_buffers_law                                      of the lock and the buffers
--     with_buffer_here, -there, -leaves, -past                             of one buffer
use mathlib.Core.Path.{refl, ap}
use lib.ListN.{length-set}
use lib.Seq.{get_or-set_same, get_or-set_other, set_out}
use Rattle.memory.specs.Memories.{with_buffers, no_buffer}
use Rattle.memory.specs.SetterLaws.{WithUsedLaw, WithMarksLaw, WithField0Law, WithField1Law, WithSenseLaw, WithAllocSenseLaw, WithPhaseLaw, WithLockLaw, WithBuffersLaw, WithBufferHere, WithBufferThere, WithBufferLeaves, WithBufferPast}

pub with_used_law : WithUsedLaw
with_used_law m s = (refl, refl, refl, refl, (refl, refl), (refl, refl, refl), refl, refl)

pub with_marks_law : WithMarksLaw
with_marks_law m bs = (refl, refl, refl, refl, (refl, refl), (refl, refl, refl), refl, refl)

pub with_field0_law : WithField0Law
with_field0_law m vs = (refl, refl, refl, refl, (refl, refl), (refl, refl, refl), refl, refl)

pub with_field1_law : WithField1Law
with_field1_law m vs = (refl, refl, refl, refl, (refl, refl), (refl, refl, refl), refl, refl)

pub with_sense_law : WithSenseLaw
with_sense_law m b = (refl, refl, refl, (refl, refl), (refl, refl, refl, refl), refl, refl)

pub with_alloc_sense_law : WithAllocSenseLaw
with_alloc_sense_law m b = (refl, refl, refl, (refl, refl), (refl, refl, refl, refl), refl, refl)

pub with_phase_law : WithPhaseLaw
with_phase_law m p = (refl, refl, refl, (refl, refl), (refl, refl, refl, refl), refl, refl)

pub with_lock_law : WithLockLaw
with_lock_law m k = (refl, (refl, refl), (refl, refl, refl, refl), (refl, refl, refl), refl)

pub with_buffers_law : WithBuffersLaw
with_buffers_law m bs = (refl, (refl, refl), (refl, refl, refl, refl), (refl, refl, refl), refl)

pub with_buffer_here : WithBufferHere
with_buffer_here m p b l = get_or-set_same m.buffers p b no_buffer l

pub with_buffer_there : WithBufferThere
with_buffer_there m p o b n = get_or-set_other m.buffers p o b no_buffer n

pub with_buffer_leaves : WithBufferLeaves
with_buffer_leaves m p b = ((refl, refl), (refl, refl, refl, refl), (refl, refl, refl), refl, length-set m.buffers p b)

pub with_buffer_past : WithBufferPast
with_buffer_past m p b l = ap (with_buffers m) (set_out m.buffers p b l)
