use Rattle.std.proofs.Common.{◌≡◌, ◌<◌, ◌+◌, ◌^◌, ℕ, suc, ◌∙◌, ap, sym, refl, subst, length}
use Rattle.plant_rules.specs.History.{Past, Script, State, with_event, denied}
use Rattle.plant_core.specs.Answers.{denial_of}
use Rattle.core_plays.proofs.RestLaws.{one_more_version, denied_by, after_denial, denied_at}
use Rattle.core_plays.proofs.plays.make_change.Goals as goal

pub prepare-requires : goal.prepare-requires
prepare-requires g c =
    let m = g.P.Controlled.meaning in
    let v = c.wish_for-wish.new.core in
    let room = one_more_version m g.met.P.Controlled.frames v c.args.core.now 0 c.args.done c.requires.may c.wish_for-wish.ensures.same c.is_lawful.ensures.legal c.wish_for-wish.ensures.stands in
    subst (λ (x : g.row.P.Denot). m.number x + 1 < 2 ^ 32) (sym (c.deref-2.ensures ∙ c.loaded-2.ensures)) room

pub refuse-requires-clause-why : goal.refuse-requires-clause-why
refuse-requires-clause-why g c =
    let m = g.P.Controlled.meaning in
    let v = c.wish_for-wish.new.core in
    λ i. denied_at m c.in-Err.why c.deref-2.result.now c.args.text.now c.args.core.now v c.args.done c.wish_for-wish.result.play c.in-Err.ensures.err (c.deref-2.ensures ∙ c.loaded-2.ensures) c.wish_for-wish.ensures.same c.requires.text c.wish_for-wish.ensures.wish

pub returns-in-Ok-refuse-clause-rest : goal.returns-in-Ok-refuse-clause-rest
returns-in-Ok-refuse-clause-rest g c =
    let m = g.P.Controlled.meaning in
    let v = c.wish_for-wish.new.core in
    let script = c.wish_for-wish.ensures.same.2 in
    after_denial m v c.refuse.new.self 0 c.args.done _ (denial_of c.in-Err.why)
    (subst (λ (p : ℕ). c.refuse.new.self ≡ with_event v 0 p (denied (denial_of c.in-Err.why))) c.wish_for-wish.ensures.wish c.in-Ok-refuse.ensures.ok.1)
    (subst (λ (z : Script). c.args.done < length z.plays) (sym script) c.requires.there) c.wish_for-wish.ensures.stands
