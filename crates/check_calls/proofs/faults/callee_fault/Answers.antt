use Rattle.std.proofs.Common.{◌++◌, [], List, sym, ap, ◌∙◌}
use Rattle.std.specs.Prelude.{if◌then◌else◌}
use Rattle.st_rules.specs.declared.names.DeclaredVariable.{DeclaredVariable}
use Rattle.st_rules.specs.Faults.{least}
use Rattle.st_rules.specs.Calls.{matching_faults, callee_parameters, super_call_in_a_method, has_parameters}
use Rattle.check_places.proofs.Joins.{joined}
use Rattle.check_calls.specs.Callee.{called}
use Rattle.check_calls.specs.Heads.{heads_told}
use Rattle.check_calls.specs.Private.Faults.{own_callee_faults}
use Rattle.check_calls.proofs.FaultParts.{callee_parts}
use Rattle.check_calls.proofs.faults.callee_fault.Goals as goal

pub returns : goal.returns
returns c =
    let own = own_callee_faults c.args.s.now c.args.line c.args.on_super (called c.args.c) (heads_told c.args.heads.now) in
    let in_method = super_call_in_a_method c.args.s.now c.args.line (called c.args.c) in
    joined _ _ _ (own ++ in_method) (if has_parameters c.args.s.now (called c.args.c) then matching_faults c.args.line (callee_parameters c.args.s.now (called c.args.c)) (heads_told c.args.heads.now) else [])
    c.earlier-whole.ensures
    (joined _ _ _ own in_method c.earlier-of_callee.ensures (c.own_fault-own.ensures c.args.s.now) c.in_ok-in_method.ensures)
    (c.in_ok-arguments.ensures c.args.s.now ∙ ap (λ (ps : List DeclaredVariable). least (if has_parameters c.args.s.now (called c.args.c) then matching_faults c.args.line ps (heads_told c.args.heads.now) else [])) c.requires)
    ∙ sym (ap least (callee_parts c.args.s.now c.args.line c.args.on_super (called c.args.c) (heads_told c.args.heads.now)))
