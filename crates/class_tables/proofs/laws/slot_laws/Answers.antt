use Rattle.class_tables.proofs.SlotLaws.{slot_derived, slots_differ}
use Rattle.class_tables.proofs.laws.slot_laws.Goals as goal

pub returns-clause-derived : goal.returns-clause-derived
returns-clause-derived g c = λ classes d b s name e h. slot_derived classes d b e name s h

pub returns-clause-distinct : goal.returns-clause-distinct
returns-clause-distinct g c = λ classes d s name other h k. slots_differ classes d s name other h k
