use Rattle.std.proofs.Common.{refl}
use Rattle.declared_symbols.specs.untold_names.Untold.{untold_types}
use Rattle.declared_symbols.proofs.untold_names.StepLaws.{split_next, split_ended, types_split}
use Rattle.declared_symbols.proofs.untold_names.types.untold_types.Goals as goal

pub loop-decl-preserved : goal.loop-decl-preserved
loop-decl-preserved c =
    split_next untold_types types_split c.args.decls.now c.loop-decl.decl-index c.decl-item.result c.loop-decl.list _ c.loop-decl-test.true c.decl-item.is c.in_ok-add_types.ensures c.loop-decl.invariant

pub returns : goal.returns
returns c = split_ended untold_types refl c.args.decls.now c.loop-decl.decl-index c.loop-decl.list c.loop-decl-test.false c.loop-decl.invariant
