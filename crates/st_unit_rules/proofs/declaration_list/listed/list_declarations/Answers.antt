use Rattle.std.proofs.Common.{map, refl}
use Rattle.std.specs.Prelude.{flat_map}
use Rattle.st_rules.proofs.ListLaws.{left_next, left_end}
use Rattle.st_unit_rules.specs.declared_names.Declarations.{declarations_of, declarations}
use Rattle.st_unit_rules.specs.declaration_list.Listed.{declared_as}
use Rattle.st_unit_rules.proofs.declaration_list.listed.list_declarations.Goals as goal

pub loop-decl-preserved : goal.loop-decl-preserved
loop-decl-preserved c =
    left_next (flat_map declarations_of) c.args.decls.now c.loop-decl.decl-index c.decl-item.result (map declared_as c.loop-decl.list.items) _ (declarations_of c.decl-item.result) _
    c.loop-decl-test.true c.decl-item.is refl c.in_ok-add_declaration.ensures c.loop-decl.invariant

pub returns : goal.returns
unfolding declarations
returns c = left_end (flat_map declarations_of) c.args.decls.now c.loop-decl.decl-index (map declared_as c.loop-decl.list.items) _ refl c.loop-decl-test.false c.loop-decl.invariant
