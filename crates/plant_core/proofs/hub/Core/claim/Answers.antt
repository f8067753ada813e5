use Rattle.std.proofs.Common.{◌≡◌, ◌<◌, ◌≤◌, ◌∙◌, ap, sym, subst, refl, ℕ, List, length, Some, arith}
use Rattle.std.proofs.lemmas.List.{map-append, length-map}
use Rattle.std.specs.Arc.{arc_value}
use Rattle.plant_rules.specs.Meaning.{Rising}
use Rattle.plant_rules.specs.History.{at_play, open_by, now_of, input_of, begun}
use Rattle.plant_rules.proofs.plant_history.Running.{idle_done}
use Rattle.plant_core.proofs.Stages.{onward}
use Rattle.plant_core.proofs.CycleLaws.{kept_begun}
use Rattle.plant_core.proofs.CauseLaws.{at_once, room_of, view_more, kit_there, kit_good, ready_of, claimed_of, entry_play, take_by, taken_by}
use Rattle.plant_core.proofs.hub.Core.claim.Goals as goal

pub take_kit-kit-requires : goal.take_kit-kit-requires
take_kit-kit-requires g c =
    kit_there _ g.P.Controlled.meaning g.met.P.Controlled.frames _ _ _ _ (at_once _ _ _ _ _ c.self.view_is c.self.invariant) c.requires

pub footprint-requires : goal.footprint-requires
footprint-requires g c =
    let k = at_once _ _ _ _ _ c.self.view_is c.self.invariant in
    let fine = kit_good _ g.P.Controlled.meaning g.met.P.Controlled.frames _ _ _ _ _ k c.requires c.take_kit-kit.ensures.value in
    let ready = ready_of _ g.P.Controlled.meaning g.met.P.Controlled.frames _ _ _ _ (arc_value c.take_kit-kit.result.shared) _ k c.requires fine.same fine.spare in
    subst (λ (z : _). c.args.task < g.P.Controlled.meaning.tasks z) (sym c.deref.ensures) ready.below

pub writes-requires : goal.writes-requires
writes-requires g c =
    let k = at_once _ _ _ _ _ c.self.view_is c.self.invariant in
    let fine = kit_good _ g.P.Controlled.meaning g.met.P.Controlled.frames _ _ _ _ _ k c.requires c.take_kit-kit.ensures.value in
    let ready = ready_of _ g.P.Controlled.meaning g.met.P.Controlled.frames _ _ _ _ (arc_value c.take_kit-kit.result.shared) _ k c.requires fine.same fine.spare in
    subst (λ (z : _). c.args.task < g.P.Controlled.meaning.tasks z) (sym c.deref-2.ensures) ready.below

pub take_images-requires : goal.take_images-requires
take_images-requires g c =
    let k = at_once _ _ _ _ _ c.self.view_is c.self.invariant in
    let fine = kit_good _ g.P.Controlled.meaning g.met.P.Controlled.frames _ _ _ _ _ k c.requires c.take_kit-kit.ensures.value in
    let ready = ready_of _ g.P.Controlled.meaning g.met.P.Controlled.frames _ _ _ _ (arc_value c.take_kit-kit.result.shared) _ k c.requires fine.same fine.spare in
    let rs : c.footprint.result.now ≡ g.P.Controlled.meaning.reads (arc_value c.take_kit-kit.result.shared) c.args.task = c.footprint.ensures ∙ ap (λ z. g.P.Controlled.meaning.reads z c.args.task) c.deref.ensures in
    let ws : c.writes.result.now ≡ g.P.Controlled.meaning.writes (arc_value c.take_kit-kit.result.shared) c.args.task = c.writes.ensures ∙ ap (λ z. g.P.Controlled.meaning.writes z c.args.task) c.deref-2.ensures in
    record {
      reads = subst (λ (z : List ℕ). Rising z) (sym rs) ready.reads;
      writes = subst (λ (z : List ℕ). Rising z) (sym ws) ready.writes;
      may = take_by _ _ _ _ _ _ rs ws ready.may;
    }

pub play-requires : goal.play-requires
play-requires g c =
    let x = entry_play _ _ _ _ _ _ _ c.self.view_is c.self.invariant c.requires.next.idle-is idle_done in
    record { from = x.0; to = x.1 }

pub moment_in-now-requires : goal.moment_in-now-requires
moment_in-now-requires g c =
    let k = at_once _ _ _ _ _ c.self.view_is c.self.invariant in
    let played : at_play g.P.Controlled.meaning c.args.self.now.script c.args.play ≡ Some c.play.result.now = ap (λ z. at_play g.P.Controlled.meaning z.script c.args.play) (sym c.self.view_is) ∙ c.play.ensures in
    subst (λ o. length (input_of o) ≤ 256) played (k.fixed.inputs c.args.play)

pub index_mut-requires : goal.index_mut-requires
index_mut-requires g c =
    let low = (entry_play _ _ _ _ _ _ _ c.self.view_is c.self.invariant c.requires.next.idle-is idle_done).2 in
    let l = c.self.inside.status.ok in
    subst (λ (n : ℕ). c.args.play < n) (sym l.0) low

pub push_reserved-requires : goal.push_reserved-requires
push_reserved-requires g c =
    let room = room_of _ _ _ _ _ _ _ c.self.view_is c.self.invariant c.requires.next.idle-is idle_done in
    let r = rw length-map at room.1 in
    let l = c.self.inside.events.ok in
    omega (arith, r, l)

pub invariant_of-self : goal.invariant_of-self
invariant_of-self g c =
    let k = at_once _ _ _ _ _ c.self.view_is c.self.invariant in
    let fine = kit_good _ g.P.Controlled.meaning g.met.P.Controlled.frames _ _ _ _ _ k c.requires c.take_kit-kit.ensures.value in
    let same : c.of-version.result.value ≡ arc_value c.take_kit-kit.result.shared = c.of-version.ensures ∙ c.deref-3.ensures in
    let rs : c.footprint.result.now ≡ g.P.Controlled.meaning.reads c.of-version.result.value c.args.task = c.footprint.ensures ∙ ap (λ z. g.P.Controlled.meaning.reads z c.args.task) (c.deref.ensures ∙ sym same) in
    let ws : c.writes.result.now ≡ g.P.Controlled.meaning.writes c.of-version.result.value c.args.task = c.writes.ensures ∙ ap (λ z. g.P.Controlled.meaning.writes z c.args.task) (c.deref-2.ensures ∙ sym same) in
    rw (c.push_reserved.ensures.items, c.push_reserved.ensures.capacity, c.take_kit-kit.ensures.after, map-append)
    (onward _ _ _ _ _ _ _ _ _ c.self.view_is c.self.invariant
    (λ kept. kept_begun _ g.P.Controlled.meaning g.met.P.Controlled.frames _ _ _ _ _ _ _ _ _ _ _ kept c.requires (same ∙ fine.same) c.of-taken.ensures (ap (open_by c.args.who c.args.task) c.of-again.ensures) (taken_by _ _ _ _ _ _ _ _ rs ws c.take_images.ensures)))

pub returns-clause-event : goal.returns-clause-event
returns-clause-event g c =
    let k = at_once _ _ _ _ _ c.self.view_is c.self.invariant in
    let fine = kit_good _ g.P.Controlled.meaning g.met.P.Controlled.frames _ _ _ _ _ k c.requires c.take_kit-kit.ensures.value in
    rw (c.push_reserved.ensures.items, map-append) (view_more _ _ _ _ _ _ c.self.view_is (ap (λ z. begun c.args.task z c.of-taken.result.value) (c.of-version.ensures ∙ c.deref-3.ensures) ∙ ap (begun c.args.task (arc_value c.take_kit-kit.result.shared)) c.of-taken.ensures))

pub returns-clause-claim : goal.returns-clause-claim
returns-clause-claim g c =
    let k = at_once _ _ _ _ _ c.self.view_is c.self.invariant in
    let fine = kit_good _ g.P.Controlled.meaning g.met.P.Controlled.frames _ _ _ _ _ k c.requires c.take_kit-kit.ensures.value in
    let rs : c.footprint.result.now ≡ g.P.Controlled.meaning.reads (arc_value c.take_kit-kit.result.shared) c.args.task = c.footprint.ensures ∙ ap (λ z. g.P.Controlled.meaning.reads z c.args.task) c.deref.ensures in
    let ws : c.writes.result.now ≡ g.P.Controlled.meaning.writes (arc_value c.take_kit-kit.result.shared) c.args.task = c.writes.ensures ∙ ap (λ z. g.P.Controlled.meaning.writes z c.args.task) c.deref-2.ensures in
    let played : at_play g.P.Controlled.meaning c.args.self.now.script c.args.play ≡ Some c.play.result.now = ap (λ z. at_play g.P.Controlled.meaning z.script c.args.play) (sym c.self.view_is) ∙ c.play.ensures in
    claimed_of _ g.P.Controlled.meaning g.met.P.Controlled.frames _ _ _ _ _ _ _ _ _ _ k c.requires fine.same fine.spare (taken_by _ _ _ _ _ _ _ _ rs ws c.take_images.ensures)
    (c.moment_in-now.ensures.moment.0 ∙ ap now_of (sym played)) (c.moment_in-now.ensures.moment.1 ∙ ap input_of (sym played)) c.moment_in-now.ensures.timely

pub returns-clause-work : goal.returns-clause-work
returns-clause-work g c =
    let k = at_once _ _ _ _ _ c.self.view_is c.self.invariant in
    let fine = kit_good _ g.P.Controlled.meaning g.met.P.Controlled.frames _ _ _ _ _ k c.requires c.take_kit-kit.ensures.value in
    (refl, subst (λ (z : _). g.P.Controlled.ready z c.args.task c.take_kit-kit.result.work) (sym fine.same) fine.works)
