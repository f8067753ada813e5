use Rattle.std.proofs.Common.{◌∷◌, [], map, refl}
use Rattle.st_rules.proofs.ListLaws.{left_next, left_end}
use Rattle.st_unit_rules.specs.declared_names.Declarations.{a_global}
use Rattle.st_unit_rules.specs.declaration_list.Listed.{declared_as}
use Rattle.st_unit_rules.specs.declaration_list.Written.{global_of}
use Rattle.st_unit_rules.proofs.declaration_list.listed.add_globals.Goals as goal

pub loop-name-preserved : goal.loop-name-preserved
loop-name-preserved c =
    left_next (λ ws. map a_global (map global_of ws)) c.args.names.now c.loop-name.name-index c.name-item.result (map declared_as c.loop-name.list.items) _ (a_global (global_of c.name-item.result) ∷ []) _
    c.loop-name-test.true c.name-item.is refl c.in_ok-add.ensures c.loop-name.invariant

pub returns : goal.returns
returns c = left_end (λ ws. map a_global (map global_of ws)) c.args.names.now c.loop-name.name-index (map declared_as c.loop-name.list.items) _ refl c.loop-name-test.false c.loop-name.invariant
