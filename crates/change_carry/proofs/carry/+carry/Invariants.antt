use Rattle.st_values.specs.View.{program_of}
use Rattle.shape_trees.specs.Shape.{shape_of}
use Rattle.value_trees.specs.Value.{members_of}
use Rattle.change_carry.specs.Private.Parts.{elements_of, part_named, parts_of}
use Rattle.change_carry.proofs.CarryLaws.{ItemsLeft, MembersLeft}
use Rattle.change_carry.proofs.carry.+carry.Given as goal

abbrev pub invariant-carry_items-loop-k : goal.invariant-carry_items-loop-k
invariant-carry_items-loop-k l = ItemsLeft (program_of l.c.old.program.now) (program_of l.c.new.program.now) l.keeping (shape_of l.of) (elements_of l.before) l.low l.fn.items l.items l.k l.index

abbrev pub invariant-carry_parts-loop-k : goal.invariant-carry_parts-loop-k
invariant-carry_parts-loop-k l = MembersLeft (program_of l.c.old.program.now) (program_of l.c.new.program.now) l.keeping l.names (part_named (parts_of l.before)) l.fields (members_of l.fn.members) (members_of l.members) l.k
