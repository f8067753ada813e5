use Rattle.std.proofs.Common.{sym, ap, ◌∙◌, option_map}
use Rattle.st_change.specs.From.{by_name}
use Rattle.shape_trees.specs.declared.shape.Field.{Field}
use Rattle.change_names.proofs.change_paths.NumberLaws.{name_at}
use Rattle.change_names.proofs.change_paths.ways.way_to.Goals as goal

pub returns-in-Some : goal.returns-in-Some
returns-in-Some c = sym (ap (option_map by_name) (name_at c.args.fields.now c.args.number ∙ ap (option_map (λ (f : Field). f.variable.name.now)) (sym c.in-Some.ensures.value)))

pub returns-in-None : goal.returns-in-None
returns-in-None c = sym (ap (option_map by_name) (name_at c.args.fields.now c.args.number ∙ ap (option_map (λ (f : Field). f.variable.name.now)) (sym c.in-None.ensures.value)))
