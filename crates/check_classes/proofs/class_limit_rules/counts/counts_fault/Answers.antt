use Rattle.check_classes.proofs.class_limit_rules.CountLaws.{counts_found}
use Rattle.check_classes.proofs.class_limit_rules.counts.counts_fault.Goals as goal

pub returns : goal.returns
returns c =
    counts_found c.args.classes.now.decls c.args.s.now c.args.class c.args.decl.now _ _ _ _ _ _ _ _ _ _ _ c.requires.classes c.requires.chain c.as_slice-members.ensures c.in_ok-count.ensures c.methods_fault-methods.ensures c.in_ok-parameters.ensures c.body_values-values.ensures c.too_many_locals-locals.ensures
    c.too_many_bases-bases.ensures c.earlier.ensures c.earlier-2.ensures c.earlier-3.ensures
