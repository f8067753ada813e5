use Rattle.st_values.specs.View.{program_of, region_of}
use Rattle.value_trees.specs.Value.{members_of}
use Rattle.change_carry.proofs.StoreLaws.{RegionsLeft}
use Rattle.change_carry.proofs.store.carry_store.Given as goal

abbrev pub invariant-loop-k : goal.invariant-loop-k
invariant-loop-k l = RegionsLeft (program_of l.c.old.program.now) (program_of l.c.new.program.now) l.keeping (members_of l.before) (program_of l.c.new.program.now).regions (members_of l.fn.held) (members_of l.held) l.k
