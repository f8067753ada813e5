use Rattle.change_names.proofs.ClassLaws.{sort_is, sorts_then, sorts_else}
use Rattle.change_names.proofs.classes.is_same_sort.Goals as goal

pub returns-then-is_of_program : goal.returns-then-is_of_program
returns-then-is_of_program c = λ k x e f.
    sorts_then _ _ _ _ (sort_is c.args.new.now.program.now c.args.class k c.is_of_program.result c.is_of_program.ensures e)
    (sort_is c.args.old.now.program.now c.args.found x c.is_of_program-then-is_of_program.result c.is_of_program-then-is_of_program.ensures f) c.if-is_of_program.true

pub returns-else-is_of_program : goal.returns-else-is_of_program
returns-else-is_of_program c = λ k x e f.
    sorts_else _ _ _ _ (sort_is c.args.new.now.program.now c.args.class k c.is_of_program.result c.is_of_program.ensures e)
    (sort_is c.args.old.now.program.now c.args.found x c.is_of_program-else-is_of_program.result c.is_of_program-else-is_of_program.ensures f) c.if-is_of_program.false
