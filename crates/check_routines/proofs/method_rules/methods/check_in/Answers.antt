use Rattle.check_routines.proofs.method_rules.MethodLaws.{method_in}
use Rattle.check_routines.proofs.method_rules.methods.check_in.Goals as goal

pub returns : goal.returns
returns c =
    method_in _ c.args.parts.now.graph.now.decls c.args.s.now c.args.method.now _ _ _ _ _ _ _ _ _ c.as_slice-written.ensures c.as_slice-sections.ensures c.as_slice-body.ensures c.word_twice-twice.ensures c.in_ok-names.ensures c.in_ok-modifiers.ensures c.in_ok-name.ensures c.in_ok-found.ensures
    c.earlier-words.ensures c.method_of.ensures
