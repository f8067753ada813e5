use Rattle.std.proofs.Common.{◌≡◌, take}
use Rattle.value_trees.proofs.copies.+copy.Given as goal

-- what was copied so far
abbrev pub invariant-copy_items-loop-item : goal.invariant-copy_items-loop-item
invariant-copy_items-loop-item l = l.found ≡ take l.item-index l.items

abbrev pub invariant-copy_members-loop-member : goal.invariant-copy_members-loop-member
invariant-copy_members-loop-member l = l.found ≡ take l.member-index l.members
