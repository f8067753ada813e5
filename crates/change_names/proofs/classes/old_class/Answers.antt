use Rattle.std.proofs.Common.{true, false, sym, ◌∙◌}
use Rattle.st_values.specs.Program.{class_at}
use Rattle.st_values.specs.View.{program_of}
use Rattle.change_names.proofs.ClassLaws.{unnamed, not_there, found_there}
use Rattle.change_names.proofs.classes.old_class.Goals as goal

pub returns-in_default : goal.returns-in_default
returns-in_default c = λ k e. absurd (unnamed k (class_at (program_of c.args.new.now.program.now) c.args.class) c.in_default.ensures e)

pub returns-in_default-class_number : goal.returns-in_default-class_number
returns-in_default-class_number c = λ k e.
    not_there c.args.old.now.tables.now c.args.old.now.program.now c.requires.old_side.tables k (class_at (program_of c.args.new.now.program.now) c.args.class) c.in-Some.name.now c.in-Some.ensures e c.in_default-class_number.ensures

pub returns-then-is_same_sort : goal.returns-then-is_same_sort
returns-then-is_same_sort c = λ k e.
    found_there c.args.old.now.tables.now c.args.old.now.program.now c.requires.old_side.tables k (class_at (program_of c.args.new.now.program.now) c.args.class) c.in-Some.name.now c.in-Some.ensures e
    c.in-Some-class_number.found true c.in-Some-class_number.ensures (λ x f. sym c.if-is_same_sort.true ∙ c.is_same_sort.ensures k x e f)

pub returns-else-is_same_sort : goal.returns-else-is_same_sort
returns-else-is_same_sort c = λ k e.
    found_there c.args.old.now.tables.now c.args.old.now.program.now c.requires.old_side.tables k (class_at (program_of c.args.new.now.program.now) c.args.class) c.in-Some.name.now c.in-Some.ensures e
    c.in-Some-class_number.found false c.in-Some-class_number.ensures (λ x f. sym c.if-is_same_sort.false ∙ c.is_same_sort.ensures k x e f)
