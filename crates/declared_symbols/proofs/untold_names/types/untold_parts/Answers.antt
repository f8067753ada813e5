use Rattle.std.proofs.Common.{map, refl}
use Rattle.st_unit_rules.specs.declared_names.Declarations.{entries_in}
use Rattle.declared_symbols.specs.untold_names.Untold.{untold_parts}
use Rattle.declared_symbols.proofs.untold_names.StepLaws.{split_next, split_ended, parts_split}
use Rattle.declared_symbols.proofs.untold_names.types.untold_parts.Goals as goal

pub loop-decl-preserved : goal.loop-decl-preserved
loop-decl-preserved c =
    split_next (λ ds. map (λ t. untold_parts t.body) (entries_in ds)) parts_split c.args.decls.now c.loop-decl.decl-index c.decl-item.result c.loop-decl.list _ c.loop-decl-test.true c.decl-item.is c.in_ok-add_parts.ensures
    c.loop-decl.invariant

pub returns : goal.returns
returns c = split_ended (λ ds. map (λ t. untold_parts t.body) (entries_in ds)) refl c.args.decls.now c.loop-decl.decl-index c.loop-decl.list c.loop-decl-test.false c.loop-decl.invariant
