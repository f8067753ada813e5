use Rattle.std.proofs.Common.{◌∙◌, ap, arith}
use Rattle.std.proofs.lemmas.List.{map-append, length-map}
use Rattle.plant_rules.specs.History.{wanted}
use Rattle.plant_rules.proofs.plant_history.Running.{idle_done}
use Rattle.plant_core.proofs.Stages.{onward}
use Rattle.plant_core.proofs.Events.{kept_wanted}
use Rattle.plant_core.proofs.CauseLaws.{at_once, room_of, version_is, view_more}
use Rattle.plant_core.proofs.hub.Core.note_wanted.Goals as goal

pub push_reserved-requires : goal.push_reserved-requires
push_reserved-requires g c =
    let room = room_of _ _ _ _ _ _ _ c.self.view_is c.self.invariant c.requires.0.idle-is idle_done in
    let r = rw length-map at room.1 in
    let l = c.self.inside.events.ok in
    omega (arith, r, l)

pub invariant_of-self : goal.invariant_of-self
invariant_of-self g c =
    rw (c.push_reserved.ensures.items, c.push_reserved.ensures.capacity, map-append)
    (onward _ _ _ _ _ _ _ _ _ c.self.view_is c.self.invariant
    (λ k. kept_wanted _ g.P.Controlled.meaning g.met.P.Controlled.frames _ _ _ _ _ k (c.requires.0, c.requires.1, c.requires.2, c.of-version.ensures ∙ version_is _ _ _ _ _ k c.deref.ensures)))

pub returns : goal.returns
returns g c =
    let k = at_once _ _ _ _ _ c.self.view_is c.self.invariant in
    rw (c.push_reserved.ensures.items, map-append) (view_more _ _ _ _ _ _ c.self.view_is (ap wanted (c.of-version.ensures ∙ version_is _ _ _ _ _ k c.deref.ensures)))
