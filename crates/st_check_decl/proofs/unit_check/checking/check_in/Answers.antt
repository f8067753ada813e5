use Rattle.std.proofs.Common.{subst}
use Rattle.st_rules.specs.Classes.{classes_in}
use Rattle.check_names.specs.member_names.Known.{Knows}
use Rattle.st_check_decl.proofs.unit_check.checking.check_in.Goals as goal

pub check_beside-requires-clause-names : goal.check_beside-requires-clause-names
check_beside-requires-clause-names c = subst (λ xs. Knows c.in_ok-names.names (classes_in xs)) c.as_slice-decls.ensures c.in_ok-names.ensures
