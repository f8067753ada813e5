use Rattle.std.proofs.Common.{◌≡◌, ◌<◌, sym, ap, ◌∙◌, subst, refl, arith, length, below_more}
use Rattle.std.specs.Prelude.{Some, slice_get, get_or}
use Rattle.std.proofs.lemmas.Option.{slice_get_within, slice_get-get_or}
use Rattle.stack_code.specs.declared.code.RoutineCode.{RoutineCode}
use Rattle.stack_code.specs.Validity.{IsValidRoutine}
use Rattle.stack_code.proofs.valid_code.validity.are_valid_routines.Goals as goal

pub numbers-preserved : goal.numbers-preserved
numbers-preserved c =
    let code = c.args.code.now in
    let k = c.numbers.k in
    let r = c.index-as_slice-k.result in
    let lt : k < length code.routines = omega (arith, c.numbers-test.true, c.len-k-end.ensures) in
    let found : r ≡ get_or code.routines k r = c.index-as_slice-k.is ∙ ap (λ xs. get_or xs k r) c.as_slice.ensures in
    let there : slice_get code.routines k ≡ Some r = slice_get-get_or code.routines k r lt ∙ ap Some (sym found) in (
      c.in_ok-is_valid_routine.ensures.known,
      below_more (λ k. (r : RoutineCode) → slice_get code.routines k ≡ Some r → IsValidRoutine code r) c.numbers.k c.numbers.invariant.1
          (λ r e. (let same : c.index-as_slice-k.result ≡ r = (let both : Some c.index-as_slice-k.result ≡ Some r = sym there ∙ e in cc) in
          subst (IsValidRoutine code) same (c.in_ok-is_valid_routine.ensures.valid.0 c.if-not-branch.false))),
    )

pub returns : goal.returns
returns c = (λ t k r e. (let lt = slice_get_within c.args.code.now.routines k r e in c.numbers.invariant.1 k (omega (arith, lt, c.numbers-test.false, c.len-k-end.ensures)) r e), λ all. refl)
