use Rattle.std.proofs.Common.{ap, sym, ◌∙◌, Some}
use Rattle.check_calls.specs.Matching.{matched_of}
use Rattle.check_nodes.specs.Slots.{bare, used}
use Rattle.check_nodes.proofs.slots.slot_of.Goals as goal

pub returns-in_ok-kind-in-Some : goal.returns-in_ok-kind-in-Some
returns-in_ok-kind-in-Some c =
    let m = c.in-Some.m in
    ap (λ k. Some (m.number, bare m.parameter.now.sort k)) c.in_ok-kind-in-Some.ensures ∙ ap (λ m. used (matched_of m)) (sym c.in-Some.is)

pub returns-in-None : goal.returns-in-None
returns-in-None c = ap (λ m. used (matched_of m)) (sym c.in-None.is)
