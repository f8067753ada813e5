use Rattle.std.proofs.Common.{rules, ◌≡◌, ℕ, ◌-◌, ◌<◌, ◌≤◌, suc, true, false, List, sym, ap, ◌∙◌, subst, arith}
use Rattle.default_values.specs.worth_steps.Steps.{count_at, pass_all_told, takes_steps, field_kinds}
use Rattle.default_values.specs.worth_steps.Private.Rounds.{IsRound}
use Rattle.default_values.proofs.worth_steps.RoundLaws.{noted_before, takes_more, noted}
use Rattle.default_values.proofs.worth_steps.rounds.try_one.Goals as goal

pub returns-then-count_at-ne-TOO_MANY-clause-round : goal.returns-then-count_at-ne-TOO_MANY-clause-round
returns-then-count_at-ne-TOO_MANY-clause-round c = λ unit entries most kinds r.
    let other : count_at c.args.structures.now c.args.number ≡ 67 → ⊥ = λ e. omega (arith, c.if-count_at-ne-TOO_MANY.true, c.count_at.ensures, e) in
    noted_before unit entries c.args.structures.now c.args.steps c.args.number most r c.requires.within other

pub returns-then-parts_fit-clause-round : goal.returns-then-parts_fit-clause-round
returns-then-parts_fit-clause-round c = λ unit entries most kinds r.
    let some = c.requires.some in
    let high : count_at c.args.structures.now c.args.number ≡ 67 = omega (arith, c.if-count_at-ne-TOO_MANY.false, c.count_at.ensures) in
    let below : c.args.steps - 1 < c.args.steps = omega (arith, some) in
    let low : c.args.steps - 1 ≤ 66 = omega (arith, most) in
    let yes : true ≡ pass_all_told (takes_steps unit entries (c.args.steps - 1)) (field_kinds unit entries c.args.number) =
    sym c.if-parts_fit.true ∙ c.parts_fit.ensures unit entries c.args.steps r.exact below low ∙ ap (pass_all_told (takes_steps unit entries (c.args.steps - 1))) kinds in
    subst (λ (xs : List ℕ). IsRound unit entries xs c.args.steps (suc c.args.number)) (sym c.note.ensures)
    (noted unit entries c.args.structures.now c.args.steps c.args.number most r c.requires.within high some yes)

pub returns-else-parts_fit-clause-round : goal.returns-else-parts_fit-clause-round
returns-else-parts_fit-clause-round c = λ unit entries most kinds r.
    let some = c.requires.some in
    let high : count_at c.args.structures.now c.args.number ≡ 67 = omega (arith, c.if-count_at-ne-TOO_MANY.false, c.count_at.ensures) in
    let below : c.args.steps - 1 < c.args.steps = omega (arith, some) in
    let low : c.args.steps - 1 ≤ 66 = omega (arith, most) in
    let fails : false ≡ pass_all_told (takes_steps unit entries (c.args.steps - 1)) (field_kinds unit entries c.args.number) =
    sym c.if-parts_fit.false ∙ c.parts_fit.ensures unit entries c.args.steps r.exact below low ∙ ap (pass_all_told (takes_steps unit entries (c.args.steps - 1))) kinds in
    takes_more unit entries c.args.structures.now c.args.steps c.args.number most r c.requires.within high some fails
