use Rattle.std.proofs.Common.{◌++◌, [], subst, sym, ◌∙◌}
use Rattle.stack_code.specs.valid_code.Private.Calls.{Shares, with_some}
use Rattle.stack_code.proofs.valid_code.calls.with_method.Goals as goal

pub returns-in-Some : goal.returns-in-Some
returns-in-Some c =
    λ ks s. subst (λ o. Shares c.args.code.now (ks ++ with_some o []) c.with_routine.result) (sym (c.in_slot.ensures ∙ c.in-Some.is)) (c.with_routine.ensures ks s)
