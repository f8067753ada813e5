use Rattle.std.proofs.Common.{◌∙◌, ap, sym, arith}
use Rattle.std.proofs.lemmas.List.{map-append, length-map}
use Rattle.plant_rules.specs.History.{under_way, quieted}
use Rattle.plant_rules.proofs.plant_history.Running.{idle_done}
use Rattle.plant_core.proofs.Stages.{onward}
use Rattle.plant_core.proofs.Events.{kept_quieted, all_home}
use Rattle.plant_core.proofs.CauseLaws.{at_once, room_of, view_more, spare_there, some_of, is_some, some_is, of_some}
use Rattle.plant_core.proofs.hub.Core.quiet.Goals as goal

pub push_reserved-requires : goal.push_reserved-requires
push_reserved-requires g c =
    let room = room_of _ _ _ _ _ _ _ c.self.view_is c.self.invariant (let k = at_once _ _ _ _ _ c.self.view_is c.self.invariant in (k.holds.sound.waits _ _ c.requires.wish).0) idle_done in
    let r = rw length-map at room.1 in
    let l = c.self.inside.events.ok in
    omega (arith, r, l)

pub take_some-nothing-requires : goal.take_some-nothing-requires
take_some-nothing-requires g c =
    is_some _ _ (spare_there _ _ _ _ _ _ (at_once _ _ _ _ _ c.self.view_is c.self.invariant) c.requires.wish).1

pub take_some-old-requires : goal.take_some-old-requires
take_some-old-requires g c =
    some_of _ _ _ (spare_there _ _ _ _ _ _ (at_once _ _ _ _ _ c.self.view_is c.self.invariant) c.requires.wish).0

pub invariant_of-self : goal.invariant_of-self
invariant_of-self g c =
    let k0 = at_once _ _ _ _ _ c.self.view_is c.self.invariant in
    let empty = some_is _ _ _ c.take_some-nothing.ensures.value (spare_there _ _ _ _ _ _ k0 c.requires.wish).1 in
    rw (c.push_reserved.ensures.items, c.push_reserved.ensures.capacity, c.take_some-old.ensures.after, c.take_some-nothing.ensures.after, c.replace-regions.ensures.after, empty, map-append)
    (onward _ _ _ _ _ _ _ _ _ c.self.view_is c.self.invariant
    (λ k. kept_quieted _ g.P.Controlled.meaning g.met.P.Controlled.frames _ _ _ _ _ _ k (ap (under_way c.args.play c.args.who) (c.of-again.ensures ∙ sym c.of-taken.ensures))
    (c.requires.wish, c.requires.none, c.of-taken.ensures ∙ (c.replace-regions.ensures.value ∙ all_home _ g.P.Controlled.meaning g.met.P.Controlled.frames _ _ _ _ k c.requires.wish c.requires.none))))

pub returns-clause-event : goal.returns-clause-event
returns-clause-event g c =
    rw (c.push_reserved.ensures.items, map-append) (view_more _ _ _ _ _ _ c.self.view_is (ap quieted c.of-taken.ensures))

pub returns-clause-regions : goal.returns-clause-regions
returns-clause-regions g c =
    c.replace-regions.ensures.value ∙ all_home _ g.P.Controlled.meaning g.met.P.Controlled.frames _ _ _ _ (at_once _ _ _ _ _ c.self.view_is c.self.invariant) c.requires.wish c.requires.none

pub returns-clause-old : goal.returns-clause-old
returns-clause-old g c =
    of_some _ _ _ _ (spare_there _ _ _ _ _ _ (at_once _ _ _ _ _ c.self.view_is c.self.invariant) c.requires.wish).0 c.take_some-old.ensures.value
