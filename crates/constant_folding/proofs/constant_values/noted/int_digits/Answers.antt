use Rattle.std.proofs.Common.{ap, ◌∙◌}
use Rattle.st_tree.specs.Expression.{expression_of, expression_of-Int}
use Rattle.constant_folding.proofs.constant_values.noted.int_digits.Goals as goal

pub returns-in-Int : goal.returns-in-Int
returns-in-Int c = (c.in-Int.field-0, ap expression_of c.in-Int.is ∙ expression_of-Int c.in-Int.field-0 c.in-Int.digits)
