use Rattle.std.proofs.Common.{◌≡◌, ◌<◌, ◌∙◌, ap, sym, subst, refl, ℕ, length, arith}
use Rattle.std.proofs.lemmas.List.{map-append, length-map}
use Rattle.std.specs.Arc.{arc_value}
use Rattle.plant_rules.specs.History.{state_of}
use Rattle.plant_rules.proofs.plant_history.Running.{idle_done}
use Rattle.plant_core.proofs.Stages.{onward}
use Rattle.plant_core.proofs.Events.{kept_changed}
use Rattle.plant_core.proofs.CauseLaws.{at_once, room_of, version_is, view_more, home_empty, changing_idle, entry_play, follows_changed}
use Rattle.plant_core.proofs.TaskLaws.{renewed_as}
use Rattle.plant_core.proofs.hub.Core.finish_change.Goals as goal

pub push_reserved-requires : goal.push_reserved-requires
push_reserved-requires g c =
    let room = room_of _ _ _ _ _ _ _ c.self.view_is c.self.invariant (let k = at_once _ _ _ _ _ c.self.view_is c.self.invariant in changing_idle _ _ _ _ _ _ _ _ k c.changing-play.ensures c.requires.under) idle_done in
    let r = rw length-map at room.1 in
    let l = c.self.inside.events.ok in
    omega (arith, r, l)

pub push_reserved-requires-2 : goal.push_reserved-requires-2
push_reserved-requires-2 g c =
    let room = room_of _ _ _ _ _ _ _ c.self.view_is c.self.invariant (let k = at_once _ _ _ _ _ c.self.view_is c.self.invariant in changing_idle _ _ _ _ _ _ _ _ k c.changing-play.ensures c.requires.under) idle_done in
    let r = room.0 in
    let l = c.self.inside.stock.entries.ok in
    omega (arith, r, l)

pub index_mut-requires : goal.index_mut-requires
index_mut-requires g c =
    let low = (entry_play _ _ _ _ _ _ _ c.self.view_is c.self.invariant (let k = at_once _ _ _ _ _ c.self.view_is c.self.invariant in changing_idle _ _ _ _ _ _ _ _ k c.changing-play.ensures c.requires.under) idle_done).2 in
    let l = c.self.inside.status.ok in
    subst (λ (n : ℕ). c.changing-play.result < n) (sym l.0) low

pub mark-requires : goal.mark-requires
mark-requires g c =
    let x = entry_play _ _ _ _ _ _ _ c.self.view_is c.self.invariant (let k = at_once _ _ _ _ _ c.self.view_is c.self.invariant in changing_idle _ _ _ _ _ _ _ _ k c.changing-play.ensures c.requires.under) idle_done in
    record { from = x.0; to = x.1 }

pub renew-requires : goal.renew-requires
renew-requires g c =
    let k = at_once _ _ _ _ _ c.self.view_is c.self.invariant in
    record { all = ap (λ v. length v.items) c.replace-since.ensures.value ∙ k.holds.since-are.total }

pub invariant_of-self : goal.invariant_of-self
invariant_of-self g c =
    let more : c.version-number.result ≡ g.P.Controlled.meaning.number (arc_value c.args.done.next.loaded) = c.version-number.ensures.number ∙ ap g.P.Controlled.meaning.number c.deref-2.ensures in
    rw (c.push_reserved-2.ensures.items, c.push_reserved-2.ensures.capacity, c.push_reserved.ensures.items, c.push_reserved.ensures.capacity, c.mark.ensures, c.of-seen.ensures, c.deref-3.ensures, c.of-contents.ensures, c.replace-nothing.ensures.after, map-append)
    (onward _ _ _ _ _ _ _ _ _ c.self.view_is c.self.invariant
    (λ k. kept_changed _ g.P.Controlled.meaning g.met.P.Controlled.frames _ _ _ _ _ _ _ _ _ _ _ _ _ k (c.version-version.ensures.number ∙ ap g.P.Controlled.meaning.number (version_is _ _ _ _ _ k c.deref.ensures)) more c.requires.supplied.same
    (c.replace-nothing.ensures.value ∙ home_empty _ _ _ _ _ _ _ k c.requires.under) c.requires.supplied.kits-are
    (follows_changed g.P.Controlled.meaning c.args.self.now.script (state_of g.P.Controlled.meaning c.args.self.now) _ _ _ _ _ _ c.changing-play.ensures c.requires.under c.requires.next)
    c.release.ensures
    (renewed_as _ _ _ _ _ _ _ _ _ _ _ c.renew.ensures (version_is _ _ _ _ _ k c.deref-4.ensures) c.deref-5.ensures (ap (λ v. v.items) c.replace-since.ensures.value))))

pub returns : goal.returns
returns g c =
    rw (c.push_reserved.ensures.items, c.mark.ensures, map-append, c.of-seen.ensures, c.deref-3.ensures, c.of-contents.ensures, c.changing-play.ensures) (view_more _ _ _ _ _ _ c.self.view_is refl)
