use Rattle.std.proofs.Common.{◌<◌, ◌∙◌, ap, sym, subst, ℕ}
use Rattle.plant_core.proofs.CauseLaws.{at_once, status_low, status_is}
use Rattle.plant_core.specs.Stage.{stage_of}
use Rattle.plant_core.proofs.hub.Core.is_idle.Goals as goal

pub index-requires : goal.index-requires
index-requires g c =
    let k = at_once _ _ _ _ _ c.self.view_is c.self.invariant in
    let l = c.self.inside.status.ok in
    subst (λ (n : ℕ). c.args.play < n) (sym l.0) (status_low _ _ _ _ _ k c.requires)

pub returns-in-Idle : goal.returns-in-Idle
returns-in-Idle g c =
    let k = at_once _ _ _ _ _ c.self.view_is c.self.invariant in
    sym (status_is _ _ _ _ _ _ k c.requires c.index.ensures) ∙ ap stage_of c.in-Idle.is
