use Rattle.std.proofs.Common.{option_map}
use Rattle.change_names.proofs.change_paths.NumberLaws.{structure_pairs_there, class_pairs_there}
use Rattle.change_names.proofs.change_paths.turns.pairs.Goals as goal

pub returns-in-Structure : goal.returns-in-Structure
returns-in-Structure c =
    structure_pairs_there c.args.c.now c.requires.is_change c.args.shape.now c.requires.numbered c.deref.result.now (option_map (λ t. t.now) c.table_at.result)
    c.in-Structure.n c.in-Structure.field-1 c.in-Structure.field-2 c.in-Structure.is c.deref.ensures.value c.table_at.ensures

pub returns-in-Instance : goal.returns-in-Instance
returns-in-Instance c =
    class_pairs_there c.args.c.now c.requires.is_change c.args.shape.now c.requires.numbered c.deref-in-Instance.result.now (option_map (λ t. t.now) c.table_at-in-Instance.result)
    c.in-Instance.k c.in-Instance.field-1 c.in-Instance.field-2 c.in-Instance.is c.deref-in-Instance.ensures.value c.table_at-in-Instance.ensures
