use Rattle.std.proofs.Common.{ap, sym, ◌∙◌}
use Rattle.st_rules.specs.Faults.{least}
use Rattle.st_rules.specs.Calls.{matched_type, output_unsuited}
use Rattle.check_nodes.specs.Slots.{lent}
use Rattle.check_nodes.proofs.given.taken_fault.Goals as goal

pub returns-in-Some : goal.returns-in-Some
unfolding matched_type
returns-in-Some c = c.output_fault.ensures ∙ ap (λ m. least (output_unsuited c.args.s.now c.args.line (matched_type (lent m)) c.args.told.now)) (sym c.in-Some.is)

pub returns-in-None : goal.returns-in-None
unfolding matched_type output_unsuited
returns-in-None c = ap (λ m. least (output_unsuited c.args.s.now c.args.line (matched_type (lent m)) c.args.told.now)) (sym c.in-None.is)
