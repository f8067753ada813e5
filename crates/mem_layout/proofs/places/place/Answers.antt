use Rattle.std.proofs.Common.{◌≡◌, ◌∷◌, suc, refl, sym, ◌∙◌, subst}
use Rattle.mem_layout.specs.Private.Place.{Leading}
use Rattle.mem_layout.proofs.PlaceLaws.{no_steps, leading_room, leading_on, leading_none, leading_last}
use Rattle.mem_layout.proofs.places.place.Goals as goal

pub returns-in_err-more : goal.returns-in_err-more
returns-in_err-more c = λ p n sh f r h s.
    let cut : c.steps.left.now ≡ c.in-Some.step.now ∷ c.in-Some.behind.now = c.in-Some.ensures.cases.0 in
    let g = subst (λ l. Leading p (suc n) sh c.args.steps.now l c.steps.at.now c.steps.offset) cut (c.steps.invariant p n sh f r h s) in
    c.from_residual.ensures ∙ leading_none p n sh c.args.steps.now c.in-Some.behind.now c.in-Some.step.now c.steps.at.now c.steps.offset g (c.in_err-more.ensures p n g.shape f r g.unfolds g.small)

pub returns-in_err-offset : goal.returns-in_err-offset
returns-in_err-offset c = λ p n sh f r h s.
    let cut : c.steps.left.now ≡ c.in-Some.step.now ∷ c.in-Some.behind.now = c.in-Some.ensures.cases.0 in
    let g = subst (λ l. Leading p (suc n) sh c.args.steps.now l c.steps.at.now c.steps.offset) cut (c.steps.invariant p n sh f r h s) in
    absurd (c.in_err-offset.ensures (leading_room p n sh c.args.steps.now c.in-Some.behind.now c.in-Some.step.now c.steps.at.now c.steps.offset (c.in_ok-more.more, c.in_ok-more.next.now) g (c.in_ok-more.ensures p n g.shape f r g.unfolds g.small)))

pub steps-preserved : goal.steps-preserved
steps-preserved c = λ p n sh f r h s.
    let cut : c.steps.left.now ≡ c.in-Some.step.now ∷ c.in-Some.behind.now = c.in-Some.ensures.cases.0 in
    let g = subst (λ l. Leading p (suc n) sh c.args.steps.now l c.steps.at.now c.steps.offset) cut (c.steps.invariant p n sh f r h s) in
    subst (Leading p (suc n) sh c.args.steps.now c.in-Some.behind.now c.in_ok-more.next.now) (sym c.in_ok-offset.ensures.1)
    (leading_on p n sh c.args.steps.now c.in-Some.behind.now c.in-Some.step.now c.steps.at.now c.steps.offset (c.in_ok-more.more, c.in_ok-more.next.now) c.in_ok-more.next.now g (c.in_ok-more.ensures p n g.shape f r g.unfolds g.small) refl)

pub returns : goal.returns
returns c = λ p n sh f r h s.
    leading_last p (suc n) sh c.args.steps.now c.steps.left.now c.steps.at.now c.steps.offset (no_steps c.steps.left.now c.in_default.ensures.cases) (c.steps.invariant p n sh f r h s)
