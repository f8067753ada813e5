use Rattle.std.proofs.Common.{◌≡◌, ◌<◌, ℕ, List, length, Some, ◌∙◌, ap, sym, subst}
use Rattle.std.specs.Arc.{arc_value}
use Rattle.plant_rules.specs.History.{Past, state_of, Denies}
use Rattle.plant_core.specs.Answers.{denial_of}
use Rattle.plant_tests.proofs.CallLaws.{readied, text_ready, denied_by}
use Rattle.plant_tests.proofs.calls.Table.prepare.Goals as goal

pub at-requires : goal.at-requires
at-requires g c =
    let all : c.len.result ≡ length (arc_value c.self.inside.sources) = c.len.ensures.len ∙ ap length c.deref-else-version.ensures in
    let low : c.args.source < length (arc_value c.self.inside.sources) = subst (λ (n : ℕ). c.args.source < n) all c.if-source-len.false in
    subst (λ (x : List (List ℕ × List ℕ)). c.args.source < length x) (sym c.deref-3.ensures) low

pub invariant_of-self : goal.invariant_of-self
invariant_of-self g c =
    readied g.P.Controlled.meaning g.met.P.Controlled.frames _ _ _ _ _ _ (text_ready g.P.Controlled.meaning _ _ _ _ _ _ _ c.self.view_is c.requires c.self.invariant.sources-are c.deref-3.ensures c.at.ensures ∙ ap Some (sym c.in-Ok.ensures.ok.1)) (c.in-Ok.ensures.ok.0 ∙ (c.deref-2.ensures ∙ c.loaded-2.ensures)) c.in-Ok.ensures.ok.2 c.self.invariant

pub refuse-requires : goal.refuse-requires
refuse-requires g c =
    λ i. subst (λ (z : Past _). Denies g.P.Controlled.meaning z.script (state_of g.P.Controlled.meaning z) c.args.play (denial_of c.in-Err.why)) c.self.view_is (denied_by g.P.Controlled.meaning c.in-Err.why c.deref-2.result.now c.at.result.now c.self.inside.core.script (state_of g.P.Controlled.meaning c.self.inside.core) c.args.play c.in-Err.ensures.err (c.deref-2.ensures ∙ c.loaded-2.ensures) (text_ready g.P.Controlled.meaning _ _ _ _ _ _ _ c.self.view_is c.requires c.self.invariant.sources-are c.deref-3.ensures c.at.ensures))
