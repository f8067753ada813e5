use Rattle.type_resolution.proofs.written_types.FoundLaws.{value-untold, value-told}
use Rattle.type_resolution.proofs.written_types.values.told_value.Goals as goal

pub returns-then-not-names_are_told : goal.returns-then-not-names_are_told
returns-then-not-names_are_told c = value-untold _ _ _ _ c.names_are_told.ensures c.if-not-names_are_told.true

pub returns : goal.returns
returns c = value-told _ _ _ _ _ c.names_are_told.ensures c.if-not-names_are_told.false c.in_ok-constant.ensures.number
