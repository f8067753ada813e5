use Rattle.std.proofs.Common.{rules, ◌≡◌, ◌++◌, ◌∷◌, ◌-◌, length, take, drop, reverse, arith, sym, ap, subst, ◌∙◌, length-drop}
use Rattle.std.proofs.lemmas.List.{take-append-drop}
use Rattle.stack_code.specs.declared.op.Kind.TheVariants.{Num, Addr}
use Rattle.stack_code.specs.Validity.{IsCall}
use Rattle.stack_code.specs.valid_code.Private.Calls.{IsAmong}
use Rattle.stack_code.proofs.valid_code.SplitLaws.{when_ok, no_number}
use Rattle.stack_code.proofs.valid_code.calls.is_call.Goals as goal

pub returns-in-Num : goal.returns-in-Num
returns-in-Num c =
    let kinds = c.args.kinds.now in
    let m = length kinds - 1 - c.args.n in
    let front : c.split_at.result.0.now ≡ take m kinds = c.split_at.ensures.front in
    let back : c.split_at.result.1.now ≡ drop m kinds = c.split_at.ensures.back in
    let cut : c.split_at.result.1.now ≡ Num ∷ c.in-Some.args.now = search rules in
    let parts : kinds ≡ c.split_at.result.0.now ++ Num ∷ c.in-Some.args.now = sym (take-append-drop m kinds) ∙ ap (λ l. l ++ drop m kinds) (sym front) ∙ ap (λ l. c.split_at.result.0.now ++ l) (sym back ∙ cut) in
    let size : length (drop m kinds) ≡ length (Num ∷ c.in-Some.args.now) = ap length (sym back ∙ cut) in
    let count : length c.in-Some.args.now ≡ c.args.n = omega (arith, size, length-drop m kinds, c.if-n-kinds.false) in
    λ ks s. (λ t. absurd (cc), λ l. absurd (no_number c.args.code.now c.args.routine.now c.args.at c.args.n kinds (λ k. IsAmong k ks) c.split_at.result.0.now c.in-Some.args.now count parts l))

pub returns-in-Addr : goal.returns-in-Addr
returns-in-Addr c =
    let kinds = c.args.kinds.now in
    let m = length kinds - 1 - c.args.n in
    let front : c.split_at.result.0.now ≡ take m kinds = c.split_at.ensures.front in
    let back : c.split_at.result.1.now ≡ drop m kinds = c.split_at.ensures.back in
    let cut : c.split_at.result.1.now ≡ Addr ∷ c.in-Some.args.now = search rules in
    let parts : kinds ≡ c.split_at.result.0.now ++ Addr ∷ c.in-Some.args.now = sym (take-append-drop m kinds) ∙ ap (λ l. l ++ drop m kinds) (sym front) ∙ ap (λ l. c.split_at.result.0.now ++ l) (sym back ∙ cut) in
    let size : length (drop m kinds) ≡ length (Addr ∷ c.in-Some.args.now) = ap length (sym back ∙ cut) in
    let count : length c.in-Some.args.now ≡ c.args.n = omega (arith, size, length-drop m kinds, c.if-n-kinds.false) in
    when_ok c.is_call_of.result c.is_call_of.ensures (λ b e ks s.
    let both = e ks s in (
      λ t. subst (λ n. IsCall c.args.code.now c.args.routine.now c.args.at n (reverse kinds) (λ k. IsAmong k ks)) count (subst (λ l. IsCall c.args.code.now c.args.routine.now c.args.at (length c.in-Some.args.now) (reverse l) (λ k. IsAmong k ks)) (sym parts) (both.0 t)),
      λ l. both.1 (subst (λ n. IsCall c.args.code.now c.args.routine.now c.args.at n (reverse (c.split_at.result.0.now ++ Addr ∷ c.in-Some.args.now)) (λ k. IsAmong k ks)) (sym count) (subst (λ x. IsCall c.args.code.now c.args.routine.now c.args.at c.args.n (reverse x) (λ k. IsAmong k ks)) parts l)),
    ))
