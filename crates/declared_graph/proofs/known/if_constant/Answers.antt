use Rattle.std.proofs.Common.{true, false, sym, ◌∙◌}
use Rattle.st_unit_rules.specs.declaration_list.Listed.{declared_as}
use Rattle.declared_graph.proofs.PlaceLaws.{constant_told}
use Rattle.declared_graph.proofs.known.if_constant.Goals as goal

pub returns-then-is_constant : goal.returns-then-is_constant
returns-then-is_constant c = constant_told c.args.place (declared_as c.args.declared.now) true (sym c.if-is_constant.true ∙ c.is_constant.ensures)

pub returns-else-is_constant : goal.returns-else-is_constant
returns-else-is_constant c = constant_told c.args.place (declared_as c.args.declared.now) false (sym c.if-is_constant.false ∙ c.is_constant.ensures)
