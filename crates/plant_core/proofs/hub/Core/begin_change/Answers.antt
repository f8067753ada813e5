use Rattle.std.proofs.Common.{sym, subst}
use Rattle.plant_rules.specs.History.{state_of}
use Rattle.plant_core.proofs.CauseLaws.{at_once}
use Rattle.plant_rules.specs.Meaning.{Whole}
use Rattle.plant_core.proofs.hub.Core.begin_change.Goals as goal

pub returns-in-None-clause-whole : goal.returns-in-None-clause-whole
returns-in-None-clause-whole g c =
    let k = at_once _ _ _ _ _ c.self.view_is c.self.invariant in
    subst (λ z. Whole (g.P.Controlled.meaning.fit z) (g.P.Controlled.meaning.region_total z) c.quiet.result.regions) (sym c.quiet.ensures.old)
    (subst (λ z. Whole (g.P.Controlled.meaning.fit (state_of g.P.Controlled.meaning c.args.self.now).version) (g.P.Controlled.meaning.region_total (state_of g.P.Controlled.meaning c.args.self.now).version) z) (sym c.quiet.ensures.regions) k.holds.sound.whole)
