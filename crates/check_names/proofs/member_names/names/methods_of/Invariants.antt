use Rattle.st_rules.specs.Classes.{method_names}
use Rattle.check_names.proofs.member_names.OwnLaws.{HeldTo}
use Rattle.check_names.proofs.member_names.names.methods_of.Given as goal

abbrev pub invariant-loop-decl : goal.invariant-loop-decl
invariant-loop-decl l = HeldTo method_names l.list.items l.decls l.decl-index
