use Rattle.st_unit_rules.proofs.declared_names.DimensionLaws.{room-none, room-within, room-past, array_depth-Elementary, array_depth-Enumeration, array_depth-Structure, array_depth-Instance, array_depth-Reference, array_depth-Interface}
use Rattle.st_unit_rules.proofs.declared_names.dimensions.+has_fewer_dimensions.Goals as goal

pub returns-then-most-gt1 : goal.returns-then-most-gt1
returns-then-most-gt1 t c = room-within _ _ _ _ _ _ _ c.in-Array.is c.get.ensures c.if-most-gt1.true c.has_fewer_dimensions.ensures

pub returns-else-most-gt1 : goal.returns-else-most-gt1
returns-else-most-gt1 t c = room-past _ _ _ _ _ c.in-Array.is c.if-most-gt1.false

pub returns-in-Elementary : goal.returns-in-Elementary
returns-in-Elementary t c = room-none _ _ _ c.in-Elementary.is (array_depth-Elementary _)

pub returns-in-Enumeration : goal.returns-in-Enumeration
returns-in-Enumeration t c = room-none _ _ _ c.in-Enumeration.is (array_depth-Enumeration _)

pub returns-in-Structure : goal.returns-in-Structure
returns-in-Structure t c = room-none _ _ _ c.in-Structure.is (array_depth-Structure _)

pub returns-in-Instance : goal.returns-in-Instance
returns-in-Instance t c = room-none _ _ _ c.in-Instance.is (array_depth-Instance _)

pub returns-in-Reference : goal.returns-in-Reference
returns-in-Reference t c = room-none _ _ _ c.in-Reference.is (array_depth-Reference _)

pub returns-in-Interface : goal.returns-in-Interface
returns-in-Interface t c = room-none _ _ _ c.in-Interface.is (array_depth-Interface _)
