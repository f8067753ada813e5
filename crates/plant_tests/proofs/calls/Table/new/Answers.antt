use Rattle.std.proofs.Common.{◌≡◌, ℕ, List, length, ◌∙◌, ap, arith, rules}
use Rattle.std.specs.Map.{values_of}
use Rattle.std.specs.Arc.{arc_value}
use Rattle.plant_tests.proofs.CallLaws.{new_table}
use Rattle.plant_tests.proofs.calls.Table.new.Goals as goal

pub invariant_of-result : goal.invariant_of-result
invariant_of-result g c =
    let ours : arc_value c.in_ok-ours.ours ≡ arc_value c.args.plays = search rules in
    let texts : arc_value c.in_ok-texts.texts ≡ arc_value c.args.sources = search rules in
    let size : c.len.result ≡ length (arc_value c.args.plays) = c.len.ensures ∙ ap length c.deref.ensures in
    new_table g.P.Controlled.meaning g.met.P.Controlled.frames _ _ _ _ _ _ _ _ c.in_ok-core.ensures c.in_ok-claims.ensures (omega (arith, size)) c.requires.whole.right ours (ap (λ (x : List (List ℕ × List ℕ)). values_of x) texts)
