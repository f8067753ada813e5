use Rattle.std.proofs.Common.{◌<◌, ◌∙◌, ap, sym, subst, ℕ, arith}
use Rattle.std.proofs.lemmas.List.{map-append, length-map}
use Rattle.plant_rules.specs.History.{state_of, resumed}
use Rattle.plant_rules.proofs.plant_history.Running.{idle_done}
use Rattle.plant_core.proofs.Stages.{onward}
use Rattle.plant_core.proofs.Events.{kept_resumed}
use Rattle.plant_core.proofs.CauseLaws.{at_once, room_of, version_is, view_more, home_empty, changing_idle, entry_play, follows_resumed}
use Rattle.plant_core.proofs.hub.Core.resume.Goals as goal

pub push_reserved-requires : goal.push_reserved-requires
push_reserved-requires g c =
    let room = room_of _ _ _ _ _ _ _ c.self.view_is c.self.invariant (let k = at_once _ _ _ _ _ c.self.view_is c.self.invariant in changing_idle _ _ _ _ _ _ _ _ k c.changing-play.ensures c.requires.under) idle_done in
    let r = rw length-map at room.1 in
    let l = c.self.inside.events.ok in
    omega (arith, r, l)

pub push_reserved-requires-2 : goal.push_reserved-requires-2
push_reserved-requires-2 g c =
    let room = room_of _ _ _ _ _ _ _ c.self.view_is c.self.invariant (let k = at_once _ _ _ _ _ c.self.view_is c.self.invariant in changing_idle _ _ _ _ _ _ _ _ k c.changing-play.ensures c.requires.under) idle_done in
    let r = room.0 in
    let l = c.self.inside.stock.entries.ok in
    omega (arith, r, l)

pub index_mut-requires : goal.index_mut-requires
index_mut-requires g c =
    let low = (entry_play _ _ _ _ _ _ _ c.self.view_is c.self.invariant (let k = at_once _ _ _ _ _ c.self.view_is c.self.invariant in changing_idle _ _ _ _ _ _ _ _ k c.changing-play.ensures c.requires.under) idle_done).2 in
    let l = c.self.inside.status.ok in
    subst (λ (n : ℕ). c.changing-play.result < n) (sym l.0) low

pub mark-requires : goal.mark-requires
mark-requires g c =
    let x = entry_play _ _ _ _ _ _ _ c.self.view_is c.self.invariant (let k = at_once _ _ _ _ _ c.self.view_is c.self.invariant in changing_idle _ _ _ _ _ _ _ _ k c.changing-play.ensures c.requires.under) idle_done in
    record { from = x.0; to = x.1 }

pub invariant_of-self : goal.invariant_of-self
invariant_of-self g c =
    rw (c.push_reserved-2.ensures.items, c.push_reserved-2.ensures.capacity, c.push_reserved.ensures.items, c.push_reserved.ensures.capacity, c.mark.ensures, c.of-seen.ensures, c.replace-nothing.ensures.after, map-append)
    (onward _ _ _ _ _ _ _ _ _ c.self.view_is c.self.invariant
    (λ k. kept_resumed _ g.P.Controlled.meaning g.met.P.Controlled.frames _ _ _ _ _ _ _ _ _ k (c.version-version.ensures.number ∙ ap g.P.Controlled.meaning.number (version_is _ _ _ _ _ k c.deref.ensures)) c.requires.old (k.holds.sound.changes _ _ _ c.requires.under).2 (c.replace-nothing.ensures.value ∙ home_empty _ _ _ _ _ _ _ k c.requires.under) (follows_resumed g.P.Controlled.meaning c.args.self.now.script (state_of g.P.Controlled.meaning c.args.self.now) _ _ _ _ _ c.changing-play.ensures c.requires.under c.requires.refused)))

pub returns : goal.returns
returns g c =
    rw (c.push_reserved.ensures.items, c.mark.ensures, map-append, c.changing-play.ensures) (view_more _ _ _ _ _ _ c.self.view_is (ap resumed c.of-seen.ensures))
