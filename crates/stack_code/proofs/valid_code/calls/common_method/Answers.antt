use Rattle.std.proofs.Common.{◌≡◌, suc, ◌∷◌, ◌++◌, [], drop, ap, sym, ◌∙◌, ◌+◌, get_or, arith}
use Rattle.std.proofs.Math.Seq.{drop-cons}
use Rattle.stack_code.specs.valid_code.Private.Calls.{methods_of, with_some, in_slot_of}
use Rattle.stack_code.proofs.valid_code.CallLaws.{with_some_append}
use Rattle.stack_code.proofs.valid_code.calls.common_method.Goals as goal

pub classes-preserved : goal.classes-preserved
classes-preserved c =
    let code = c.args.code.now in
    let classes = c.args.classes.now in
    let i = c.classes.class-index in
    let o = in_slot_of code (get_or classes i 0) c.args.slot in
    let ks = c.classes.invariant.0 in
    let next : i + 1 ≡ suc i = omega arith in
    let cut : drop i classes ≡ get_or classes i 0 ∷ drop (i + 1) classes = drop-cons classes i 0 c.classes-test.true ∙ ap (λ n. get_or classes i 0 ∷ drop n classes) (sym next) in
    (ks ++ with_some o [], with_some_append o ks (methods_of code (drop (i + 1) classes) c.args.slot) ∙ ap (λ l. ks ++ methods_of code l c.args.slot) (sym cut) ∙ c.classes.invariant.1, c.with_method-common.ensures ks c.classes.invariant.2)
