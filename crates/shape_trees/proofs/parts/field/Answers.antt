use Rattle.std.proofs.Common.{sym, ap, ◌∙◌, option_map}
use Rattle.shape_trees.specs.declared.shape.Field.{Field}
use Rattle.shape_trees.specs.Shape.{shape_of}
use Rattle.shape_trees.proofs.NumberLaws.{field_numbered}
use Rattle.shape_trees.proofs.PartLaws.{fields_get}
use Rattle.shape_trees.proofs.parts.field.Goals as goal

pub returns-in-Some-clause-field : goal.returns-in-Some-clause-field
returns-in-Some-clause-field c = sym (fields_get c.args.fields.now c.args.number ∙ ap (option_map (λ (f : Field). shape_of f.shape)) (sym c.in-Some.ensures.value))

pub returns-in-Some-clause-numbered : goal.returns-in-Some-clause-numbered
returns-in-Some-clause-numbered c = λ p h. field_numbered p c.args.fields.now c.args.number c.in-Some.field.now h (sym c.in-Some.ensures.value)

pub returns-in-None-clause-field : goal.returns-in-None-clause-field
returns-in-None-clause-field c = sym (fields_get c.args.fields.now c.args.number ∙ ap (option_map (λ (f : Field). shape_of f.shape)) (sym c.in-None.ensures.value))
