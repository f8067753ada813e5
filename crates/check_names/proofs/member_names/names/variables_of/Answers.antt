use Rattle.st_unit_rules.specs.NameRules.{variable_texts}
use Rattle.check_names.proofs.member_names.OwnLaws.{held_next}
use Rattle.check_names.proofs.member_names.names.variables_of.Goals as goal

pub loop-decl-preserved : goal.loop-decl-preserved
loop-decl-preserved c =
    held_next variable_texts c.loop-decl.list.items c.add_variables.new.list.items c.args.decls.now c.loop-decl.decl-index c.decl-item.result c.loop-decl-test.true c.decl-item.is (λ cs h. c.in_ok-add_variables.ensures cs h) c.loop-decl.invariant
