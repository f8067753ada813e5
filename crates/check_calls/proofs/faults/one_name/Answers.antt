use Rattle.std.proofs.Common.{sym, ap, ◌∙◌}
use Rattle.std.specs.Prelude.{◌||◌}
use Rattle.plc_text.specs.Words.{same}
use Rattle.plc_text.specs.declared.code.Code.TheVariants.{E09}
use Rattle.st_rules.specs.Faults.{least, when}
use Rattle.check_calls.proofs.MatchingLaws.{among_more}
use Rattle.check_calls.proofs.faults.one_name.Goals as goal

pub returns : goal.returns
returns c = λ earlier h. record {
  fault_is = c.when.ensures ∙ ap (λ b. least (when b E09 c.args.line)) (c.is_unknown_or_repeated-bad.ensures earlier h);
  are_seen = λ q. c.in_ok-add.ensures q ∙ ap (λ t. same c.args.name.now q || t) (h q) ∙ sym (among_more q c.args.name.now earlier);
}
