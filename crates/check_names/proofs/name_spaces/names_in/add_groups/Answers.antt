use Rattle.std.proofs.Common.{refl}
use Rattle.st_rules.proofs.ListLaws.{left_next, left_end}
use Rattle.st_unit_rules.specs.NameRules.{field_names}
use Rattle.check_names.specs.name_spaces.NamesIn.{names_of}
use Rattle.check_names.proofs.name_spaces.names_in.add_groups.Goals as goal

pub loop-group-preserved : goal.loop-group-preserved
loop-group-preserved c =
    left_next (field_names) c.args.groups.now c.loop-group.group-index c.group-item.result (names_of c.loop-group.list.items) _ (c.group-item.result.names) _
    c.loop-group-test.true c.group-item.is refl (rw c.as_slice.ensures at c.in_ok-add_all.ensures) c.loop-group.invariant

pub returns : goal.returns
returns c = left_end (field_names) c.args.groups.now c.loop-group.group-index (names_of c.loop-group.list.items) _ refl c.loop-group-test.false c.loop-group.invariant
