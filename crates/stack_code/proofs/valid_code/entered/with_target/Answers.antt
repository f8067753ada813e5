use Rattle.std.proofs.Common.{rules, ◌≡◌, ◌++◌, [], subst, sym, ◌∙◌}
use Rattle.std.specs.Prelude.{Some}
use Rattle.std.specs.HashMap.{get}
use Rattle.stack_code.specs.valid_code.Private.Calls.{Shares, with_some}
use Rattle.stack_code.specs.valid_code.Private.Tables.{same_implemented}
use Rattle.stack_code.proofs.valid_code.entered.with_target.Goals as goal

pub returns-in-Some : goal.returns-in-Some
returns-in-Some c =
    let t = c.args.entry in
    let is : get same_implemented c.args.implementations.now (t.class, (t.interface, t.method)) ≡ Some c.in-Some.routine.now = search rules in
    λ ks s. subst (λ o. Shares c.args.code.now (ks ++ with_some o []) c.with_routine.result) (sym is ∙ c.requires t.class t.interface t.method) (c.with_routine.ensures ks s)
