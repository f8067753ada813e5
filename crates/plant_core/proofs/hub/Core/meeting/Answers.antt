use Rattle.std.proofs.Common.{◌≡◌, ◌<◌, ◌∙◌, ap, sym, subst, ℕ, List}
use Rattle.plant_rules.specs.Meaning.{Rising}
use Rattle.plant_rules.specs.History.{state_of}
use Rattle.plant_core.proofs.CauseLaws.{at_once, version_is, meets_found}
use Rattle.plant_core.proofs.hub.Core.meeting.Goals as goal

pub footprint-requires : goal.footprint-requires
footprint-requires g c =
    let k = at_once _ _ _ _ _ c.self.view_is c.self.invariant in
    subst (λ z. c.args.task < g.P.Controlled.meaning.tasks z) (sym (version_is _ _ _ _ _ k c.deref.ensures)) c.requires.task

pub writes-requires : goal.writes-requires
writes-requires g c =
    let k = at_once _ _ _ _ _ c.self.view_is c.self.invariant in
    subst (λ z. c.args.task < g.P.Controlled.meaning.tasks z) (sym (version_is _ _ _ _ _ k c.deref-2.ensures)) c.requires.task

pub footprint-requires-2 : goal.footprint-requires-2
footprint-requires-2 g c =
    let k = at_once _ _ _ _ _ c.self.view_is c.self.invariant in
    subst (λ z. c.args.other < g.P.Controlled.meaning.tasks z) (sym (version_is _ _ _ _ _ k c.deref-3.ensures)) c.requires.other

pub writes-requires-2 : goal.writes-requires-2
writes-requires-2 g c =
    let k = at_once _ _ _ _ _ c.self.view_is c.self.invariant in
    subst (λ z. c.args.other < g.P.Controlled.meaning.tasks z) (sym (version_is _ _ _ _ _ k c.deref-4.ensures)) c.requires.other

pub first_meeting-requires : goal.first_meeting-requires
first_meeting-requires g c =
    let k = at_once _ _ _ _ _ c.self.view_is c.self.invariant in
    let right = k.holds.sound.right in
    let rs : c.footprint.result.now ≡ g.P.Controlled.meaning.reads (state_of g.P.Controlled.meaning c.args.self.now).version c.args.task = c.footprint.ensures ∙ ap (λ z. g.P.Controlled.meaning.reads z c.args.task) (version_is _ _ _ _ _ k c.deref.ensures) in
    let ws : c.writes.result.now ≡ g.P.Controlled.meaning.writes (state_of g.P.Controlled.meaning c.args.self.now).version c.args.task = c.writes.ensures ∙ ap (λ z. g.P.Controlled.meaning.writes z c.args.task) (version_is _ _ _ _ _ k c.deref-2.ensures) in
    let os : c.footprint-2.result.now ≡ g.P.Controlled.meaning.reads (state_of g.P.Controlled.meaning c.args.self.now).version c.args.other = c.footprint-2.ensures ∙ ap (λ z. g.P.Controlled.meaning.reads z c.args.other) (version_is _ _ _ _ _ k c.deref-3.ensures) in
    let xs : c.writes-2.result.now ≡ g.P.Controlled.meaning.writes (state_of g.P.Controlled.meaning c.args.self.now).version c.args.other = c.writes-2.ensures ∙ ap (λ z. g.P.Controlled.meaning.writes z c.args.other) (version_is _ _ _ _ _ k c.deref-4.ensures) in
    record {
      reads = subst (λ (z : List ℕ). Rising z) (sym rs) (g.met.P.Controlled.frames.reads-rising _ _ right c.requires.task);
      writes = subst (λ (z : List ℕ). Rising z) (sym ws) (g.met.P.Controlled.frames.writes-rising _ _ right c.requires.task);
      other_reads = subst (λ (z : List ℕ). Rising z) (sym os) (g.met.P.Controlled.frames.reads-rising _ _ right c.requires.other);
      other_writes = subst (λ (z : List ℕ). Rising z) (sym xs) (g.met.P.Controlled.frames.writes-rising _ _ right c.requires.other);
    }

pub returns : goal.returns
returns g c =
    let k = at_once _ _ _ _ _ c.self.view_is c.self.invariant in
    let rs : c.footprint.result.now ≡ g.P.Controlled.meaning.reads (state_of g.P.Controlled.meaning c.args.self.now).version c.args.task = c.footprint.ensures ∙ ap (λ z. g.P.Controlled.meaning.reads z c.args.task) (version_is _ _ _ _ _ k c.deref.ensures) in
    let ws : c.writes.result.now ≡ g.P.Controlled.meaning.writes (state_of g.P.Controlled.meaning c.args.self.now).version c.args.task = c.writes.ensures ∙ ap (λ z. g.P.Controlled.meaning.writes z c.args.task) (version_is _ _ _ _ _ k c.deref-2.ensures) in
    let os : c.footprint-2.result.now ≡ g.P.Controlled.meaning.reads (state_of g.P.Controlled.meaning c.args.self.now).version c.args.other = c.footprint-2.ensures ∙ ap (λ z. g.P.Controlled.meaning.reads z c.args.other) (version_is _ _ _ _ _ k c.deref-3.ensures) in
    let xs : c.writes-2.result.now ≡ g.P.Controlled.meaning.writes (state_of g.P.Controlled.meaning c.args.self.now).version c.args.other = c.writes-2.ensures ∙ ap (λ z. g.P.Controlled.meaning.writes z c.args.other) (version_is _ _ _ _ _ k c.deref-4.ensures) in
    meets_found g.P.Controlled.meaning g.met.P.Controlled.frames c.args.self.now.script (state_of g.P.Controlled.meaning c.args.self.now) k.holds.sound _ _ _ _ _ _ _ c.if-not-is_open.ensures rs ws os xs c.first_meeting.ensures
