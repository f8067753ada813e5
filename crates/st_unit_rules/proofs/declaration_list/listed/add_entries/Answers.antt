use Rattle.std.proofs.Common.{◌∷◌, [], map, refl}
use Rattle.st_rules.proofs.ListLaws.{left_next, left_end}
use Rattle.st_unit_rules.specs.declared_names.Declarations.{an_entry}
use Rattle.st_unit_rules.specs.declaration_list.Listed.{declared_as}
use Rattle.st_unit_rules.proofs.declaration_list.listed.add_entries.Goals as goal

pub loop-entry-preserved : goal.loop-entry-preserved
loop-entry-preserved c =
    left_next (map an_entry) c.args.entries.now c.loop-entry.entry-index c.entry-item.result (map declared_as c.loop-entry.list.items) _ (an_entry c.entry-item.result ∷ []) _
    c.loop-entry-test.true c.entry-item.is refl c.in_ok-add.ensures c.loop-entry.invariant

pub returns : goal.returns
returns c = left_end (map an_entry) c.args.entries.now c.loop-entry.entry-index (map declared_as c.loop-entry.list.items) _ refl c.loop-entry-test.false c.loop-entry.invariant
