use Rattle.std.proofs.Common.{ap}
use Rattle.check_classes.proofs.class_rules.PartLaws.{own_scope, own_chain, broken_is}
use Rattle.check_classes.proofs.class_rules.classes.broken_by.Goals as goal

pub class_limit_fault-requires-clause-scope : goal.class_limit_fault-requires-clause-scope
class_limit_fault-requires-clause-scope c = own_scope c.args.tables.now.decls c.args.number _ c.requires.scope

pub class_limit_fault-requires-clause-chain : goal.class_limit_fault-requires-clause-chain
class_limit_fault-requires-clause-chain c = own_chain c.args.tables.now.decls c.args.number _ _ _ c.requires.scope c.in_ok-list.ensures c.as_slice-chain.ensures.value

pub returns : goal.returns
returns c =
    let d = c.args.tables.now.decls in
    let above = own_chain d c.args.number _ _ _ c.requires.scope c.in_ok-list.ensures c.as_slice-chain.ensures.value in
    broken_is d c.args.place c.args.number c.args.class.now _ _ _ _ _ _ _ _ c.requires.scope c.as_slice-modifiers.ensures c.word_twice-words.ensures (c.in_ok-names.ensures _ c.args.number c.requires.names above) (ap (λ u. u.decls) c.class_tables-classes.ensures)
    (c.class_fault-bases.ensures _ c.requires.signatures) (ap (λ u. u.decls) c.interface_tables-interfaces.ensures) (c.concrete_class_fault-concrete.ensures _ c.requires.signatures) c.as_slice-members.ensures c.in_ok-written.ensures.names c.as_slice-declared.ensures.value c.in_ok-cycles.ensures c.in_ok-limits.ensures
