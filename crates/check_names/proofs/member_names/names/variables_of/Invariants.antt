use Rattle.st_unit_rules.specs.NameRules.{variable_texts}
use Rattle.check_names.proofs.member_names.OwnLaws.{HeldTo}
use Rattle.check_names.proofs.member_names.names.variables_of.Given as goal

abbrev pub invariant-loop-decl : goal.invariant-loop-decl
invariant-loop-decl l = HeldTo variable_texts l.list.items l.decls l.decl-index
