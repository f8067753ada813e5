use Rattle.std.proofs.Common.{Some, None, ap, ◌∙◌}
use Rattle.program_tables.specs.Routine.{routine_of}
use Rattle.program_tables.specs.declared.routine.RoutineId.TheVariants as id
use Rattle.reference_hooks.specs.Private.Hooks.{when_of}
use Rattle.reference_hooks.proofs.HookLaws.{own_found}
use Rattle.reference_hooks.proofs.tables.own_hook.Goals as goal

pub returns-in-None : goal.returns-in-None
returns-in-None c = own_found (when_of c.args.when) c.args.program.now c.args.class c.members_at.result.now None c.members_at.ensures c.in-None.ensures

pub returns-in_ok-place-in-Some : goal.returns-in_ok-place-in-Some
returns-in_ok-place-in-Some c =
    ap (λ k. Some (routine_of c.args.program.now (id.Method c.args.class k))) c.in_ok-place-in-Some.ensures
    ∙ own_found (when_of c.args.when) c.args.program.now c.args.class c.members_at.result.now (Some c.in-Some.k) c.members_at.ensures c.in-Some.ensures
