use Rattle.std.proofs.Common.{ap}
use Rattle.check_classes.proofs.class_limit_rules.LimitLaws.{measured, same_classes, own_chain, all_limits}
use Rattle.check_classes.proofs.class_limit_rules.limits.class_limit_fault.Goals as goal

pub counts_fault-requires-clause-sizes : goal.counts_fault-requires-clause-sizes
counts_fault-requires-clause-sizes c = measured _ _ c.args.tables.now.decls c.args.class c.sizes-sizes.ensures c.requires.scope

pub counts_fault-requires-clause-classes : goal.counts_fault-requires-clause-classes
counts_fault-requires-clause-classes c = same_classes _ c.args.tables.now _ c.args.class c.class_tables-classes.ensures c.requires.scope

pub counts_fault-requires-clause-chain : goal.counts_fault-requires-clause-chain
counts_fault-requires-clause-chain c = own_chain _ _ c.args.tables.now.decls c.args.class c.requires.chain c.requires.scope

pub depths_fault-requires : goal.depths_fault-requires
depths_fault-requires c = measured _ _ c.args.tables.now.decls c.args.class c.sizes-sizes.ensures c.requires.scope

pub returns : goal.returns
returns c =
    all_limits c.args.tables.now.decls c.args.s.now c.args.place c.args.class c.args.decl.now _ _ _ _ _ (ap (λ u. u.decls) c.class_tables-classes.ensures) (ap (λ u. u.decls) c.graph-graph.ensures) c.in_ok-counts.ensures c.in_ok-depths.ensures c.earlier.ensures
