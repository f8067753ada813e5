use Rattle.std.proofs.Common.{◌++◌, sym, ap, ◌∙◌}
use Rattle.st_rules.specs.Faults.{least}
use Rattle.st_rules.specs.Calls.{names_among, head_names, unknown_or_repeated}
use Rattle.check_calls.specs.declared.heads.Head.{Head}
use Rattle.check_calls.specs.Heads.{head}
use Rattle.check_calls.specs.Parameters.{parameters_of}
use Rattle.check_calls.proofs.faults.one_argument.Goals as goal

pub returns-in_ok-given-in-Input : goal.returns-in_ok-given-in-Input
returns-in_ok-given-in-Input c = λ earlier h. record {
  fault_is = (c.in_ok-given-in-Input.ensures earlier h).fault_is ∙ ap (λ (x : Head). least (unknown_or_repeated (parameters_of c.args.parameters.now) earlier (head x))) (sym c.in-Input.is);
  are_seen = λ q. (c.in_ok-given-in-Input.ensures earlier h).are_seen q ∙ ap (λ (x : Head). names_among q (earlier ++ head_names (head x))) (sym c.in-Input.is);
}

pub returns-in_ok-taken-in-Output : goal.returns-in_ok-taken-in-Output
returns-in_ok-taken-in-Output c = λ earlier h. record {
  fault_is = (c.in_ok-taken-in-Output.ensures earlier h).fault_is ∙ ap (λ (x : Head). least (unknown_or_repeated (parameters_of c.args.parameters.now) earlier (head x))) (sym c.in-Output.is);
  are_seen = λ q. (c.in_ok-taken-in-Output.ensures earlier h).are_seen q ∙ ap (λ (x : Head). names_among q (earlier ++ head_names (head x))) (sym c.in-Output.is);
}
