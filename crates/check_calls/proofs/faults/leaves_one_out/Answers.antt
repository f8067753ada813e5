use Rattle.std.proofs.Common.{ap, ◌∙◌}
use Rattle.std.specs.Prelude.{not, ◌&&◌}
use Rattle.st_rules.specs.declared.names.DeclaredVariable.{DeclaredVariable}
use Rattle.st_rules.specs.Calls.{is_in_out_sort}
use Rattle.check_calls.specs.Parameters.{parameters_of}
use Rattle.check_calls.proofs.MatchingLaws.{any_same}
use Rattle.check_calls.proofs.faults.leaves_one_out.Goals as goal

pub returns : goal.returns
returns c = c.any_left_out-missing.ensures ∙ any_same _ _ (λ (v : DeclaredVariable). ap (λ t. is_in_out_sort v.sort && not t) (c.in_ok-inputs.ensures v.name)) (parameters_of c.args.parameters.now)
