use Rattle.st_tree.specs.Expression.{expression_of}
use Rattle.type_resolution.proofs.written_types.FoundLaws.{bound-untold, bound-told, value-told}
use Rattle.type_resolution.proofs.written_types.values.bound_value.Goals as goal

pub returns-then-not-names_are_told : goal.returns-then-not-names_are_told
returns-then-not-names_are_told c = bound-untold c.args.s.now (expression_of c.args.e.now) _ c.names_are_told.ensures c.if-not-names_are_told.true

pub returns : goal.returns
returns c =
    bound-told c.args.s.now (expression_of c.args.e.now) _ _ _ c.in_ok-constant.ensures.told
    (value-told _ _ _ _ _ c.names_are_told.ensures c.if-not-names_are_told.false c.in_ok-constant.ensures.number) c.if_number.ensures
