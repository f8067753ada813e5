use Rattle.std.proofs.Common.{refl, ap, ◌∙◌}
use Rattle.st_tree.specs.Expression.{argument_of, argument_of-Positional, argument_of-Input}
use Rattle.codegen_parts.specs.Steps.{room_code}
use Rattle.codegen_parts.proofs.CodeLaws.{adds_nothing}
use Rattle.codegen_parts.proofs.calls.emit_room.Goals as goal

pub returns-in-Positional : goal.returns-in-Positional
returns-in-Positional c =
    adds_nothing (λ z. room_code c.args.line c.args.block c.args.free z) c.args.cells.now.items _ _ (ap argument_of c.in-Positional.is ∙ argument_of-Positional c.in-Positional.field-0) refl

pub returns-in-Input : goal.returns-in-Input
returns-in-Input c =
    adds_nothing (λ z. room_code c.args.line c.args.block c.args.free z) c.args.cells.now.items _ _ (ap argument_of c.in-Input.is ∙ argument_of-Input c.in-Input.field-0 c.in-Input.field-1 c.in-Input.field-2) refl
