use Rattle.std.proofs.Common.{◌≡◌, ◌≤◌, sym, subst, length, false}
use Rattle.plant_rules.specs.History.{at_play, is_change}
use Rattle.plant_core.proofs.CauseLaws.{at_once, place_low}
use Rattle.plant_core.proofs.hub.Core.able.Goals as goal

pub place_of_task-place-requires : goal.place_of_task-place-requires
place_of_task-place-requires g c =
    record { from = c.requires.from; to = subst (λ z. c.args.play ≤ length z.script.plays) (sym c.self.view_is) c.requires.to; task = subst (λ z. is_change (at_play g.P.Controlled.meaning z.script c.args.play) ≡ false) (sym c.self.view_is) c.requires.task }

pub name-requires : goal.name-requires
name-requires g c =
    let k = at_once _ _ _ _ _ c.self.view_is c.self.invariant in
    (place_low _ _ _ _ _ _ k c.place_of_task-place.ensures).2
