use Rattle.change_names.proofs.change_paths.NumberLaws.{structure_there, class_there}
use Rattle.change_names.proofs.change_paths.ways.number_of.Goals as goal

pub returns-in-Structure : goal.returns-in-Structure
returns-in-Structure c =
    structure_there c.args.c.now c.requires.is_change c.args.of c.args.shape.now c.requires.numbered c.numbers-numbers.result.now c.numbers-numbers.ensures c.args.name.now c.deref.result.now c.number_by.result
    c.in-Structure.n c.in-Structure.field-1 c.in-Structure.field-2 c.in-Structure.is c.deref.ensures.value c.number_by.ensures

pub returns-in-Instance : goal.returns-in-Instance
returns-in-Instance c =
    class_there c.args.c.now c.requires.is_change c.args.of c.args.shape.now c.requires.numbered c.numbers-numbers.result.now c.numbers-numbers.ensures c.args.name.now c.deref-in-Instance.result.now c.number_by-in-Instance.result
    c.in-Instance.k c.in-Instance.field-1 c.in-Instance.field-2 c.in-Instance.is c.deref-in-Instance.ensures.value c.number_by-in-Instance.ensures
