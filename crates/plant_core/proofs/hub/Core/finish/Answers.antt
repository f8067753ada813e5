use Rattle.std.proofs.Common.{◌≡◌, ◌<◌, ◌∙◌, ap, sym, subst, refl, ℕ, List, arith}
use Rattle.std.proofs.lemmas.List.{map-append, length-map}
use Rattle.std.specs.Arc.{arc_value}
use Rattle.plant_rules.specs.Meaning.{Rising}
use Rattle.plant_rules.specs.History.{finished}
use Rattle.plant_rules.proofs.plant_history.Running.{done_open}
use Rattle.plant_core.specs.plant_moves.Moves.{MayMove}
use Rattle.plant_core.proofs.Stages.{onward}
use Rattle.plant_core.proofs.CycleLaws.{finished_others, kept_ended, spare_again}
use Rattle.plant_core.proofs.CauseLaws.{at_once, room_of, version_is, view_more, may_come, task_there, entry_play, open_no_change, place_low, held_ended, moved_by}
use Rattle.plant_core.proofs.hub.Core.finish.Goals as goal

pub push_reserved-requires : goal.push_reserved-requires
push_reserved-requires g c =
    let room = room_of _ _ _ _ _ _ _ c.self.view_is c.self.invariant c.requires.ran.open-is (λ z. done_open _ _ _ (sym z)) in
    let r = rw length-map at room.1 in
    let l = c.self.inside.events.ok in
    omega (arith, r, l)

pub push_reserved-requires-2 : goal.push_reserved-requires-2
push_reserved-requires-2 g c =
    let room = room_of _ _ _ _ _ _ _ c.self.view_is c.self.invariant c.requires.ran.open-is (λ z. done_open _ _ _ (sym z)) in
    let r = room.0 in
    let l = c.self.inside.stock.entries.ok in
    omega (arith, r, l)

pub index_mut-requires : goal.index_mut-requires
index_mut-requires g c =
    let low = (entry_play _ _ _ _ _ _ _ c.self.view_is c.self.invariant c.requires.ran.open-is (λ z. done_open _ _ _ (sym z))).2 in
    let l = c.self.inside.status.ok in
    subst (λ (n : ℕ). c.args.ran.play < n) (sym l.0) low

pub mark-requires : goal.mark-requires
mark-requires g c =
    let x = entry_play _ _ _ _ _ _ _ c.self.view_is c.self.invariant c.requires.ran.open-is (λ z. done_open _ _ _ (sym z)) in
    record { from = x.0; to = x.1 }

pub place_of_task-place-requires : goal.place_of_task-place-requires
place_of_task-place-requires g c =
    let x = entry_play _ _ _ _ _ _ _ c.self.view_is c.self.invariant c.requires.ran.open-is (λ z. done_open _ _ _ (sym z)) in
    record { from = x.0; to = x.1; task = open_no_change _ _ _ _ _ _ _ _ _ c.self.view_is c.self.invariant c.requires.ran.open-is }

pub move_all-requires : goal.move_all-requires
move_all-requires g c =
    let ws : c.writes.result.now ≡ g.P.Controlled.meaning.writes (arc_value c.args.ran.kit.shared) c.args.ran.task = c.writes.ensures ∙ ap (λ z. g.P.Controlled.meaning.writes z c.args.ran.task) c.deref-2.ensures in
    let x = may_come _ g.P.Controlled.meaning g.met.P.Controlled.frames _ _ _ _ _ _ _ _ _ _ _ (at_once _ _ _ _ _ c.self.view_is c.self.invariant) c.requires.ran in
    record { rising = subst (λ (z : List ℕ). Rising z) (sym ws) x.0; may = subst (λ (z : List ℕ). MayMove z c.args.ran.kit.carrier c.self.inside.stock.regions) (sym ws) x.1 }

pub hold-requires : goal.hold-requires
hold-requires g c =
    (place_low _ _ _ _ _ _ (at_once _ _ _ _ _ c.self.view_is c.self.invariant) c.place_of_task-place.ensures).0

pub put_kit-requires : goal.put_kit-requires
put_kit-requires g c =
    task_there _ g.P.Controlled.meaning g.met.P.Controlled.frames _ _ _ _ _ _ (at_once _ _ _ _ _ c.self.view_is c.self.invariant) c.requires.ran.open-is

pub invariant_of-self : goal.invariant_of-self
invariant_of-self g c =
    let ws : c.writes.result.now ≡ g.P.Controlled.meaning.writes (arc_value c.args.ran.kit.shared) c.args.ran.task = c.writes.ensures ∙ ap (λ z. g.P.Controlled.meaning.writes z c.args.ran.task) c.deref-2.ensures in
    let moved = moved_by _ _ _ _ _ _ ws c.move_all.ensures in
    rw (c.push_reserved-2.ensures.items, c.push_reserved-2.ensures.capacity, c.push_reserved.ensures.items, c.push_reserved.ensures.capacity, c.mark.ensures, c.of-seen.ensures, c.answer_in-answer.ensures, c.put_kit.ensures, map-append)
    (onward _ _ _ _ _ _ _ _ _ c.self.view_is c.self.invariant
    (λ k. kept_ended _ g.P.Controlled.meaning g.met.P.Controlled.frames _ _ _ _ _ _ _ _ _ _ _ _ _ _ _ _ k c.requires.ran (c.version-version.ensures.number ∙ ap g.P.Controlled.meaning.number (version_is _ _ _ _ _ k c.deref.ensures)) moved
    record { same = refl; works = c.requires.work; spare = spare_again g.P.Controlled.meaning g.met.P.Controlled.frames _ _ _ _ _ _ _ _ _ _ _ _ _ _ (subst g.P.Controlled.meaning.right (sym c.requires.ran.of-is) k.holds.sound.right) c.requires.ran moved }
    (held_ended _ _ _ _ _ _ _ _ k c.place_of_task-place.ensures c.hold.ensures)))

pub returns-clause-event : goal.returns-clause-event
returns-clause-event g c = rw (c.push_reserved.ensures.items, c.mark.ensures, map-append) (view_more _ _ _ _ _ _ c.self.view_is (ap finished c.of-seen.ensures))

pub returns-clause-others : goal.returns-clause-others
returns-clause-others g c = finished_others g.P.Controlled.meaning g.met.P.Controlled.frames _ _ _ _ _ _ _ (returns-clause-event g c) c.requires.ran.open-is
