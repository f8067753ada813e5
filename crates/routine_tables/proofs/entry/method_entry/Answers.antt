use Rattle.std.proofs.Common.{ap, sym, ◌∙◌, Some, None, ◌≡◌}
use Rattle.program_tables.specs.st_initial.Variables.{variables_of}
use Rattle.program_tables.specs.Routine.{method_at}
use Rattle.routine_tables.specs.Parameters.{parameters_of}
use Rattle.routine_tables.specs.Private.Declared as declared
use Rattle.routine_tables.proofs.EntryLaws.{method_parameters, method_locals, no_method_parameters, no_method_locals}
use Rattle.routine_tables.proofs.entry.method_entry.Goals as goal

pub returns-in_ok-entry-in-Some-clause-parameters : goal.returns-in_ok-entry-in-Some-clause-parameters
returns-in_ok-entry-in-Some-clause-parameters c =
    let m = c.in-Some.m.now in
    let e : method_at c.args.program.now.classes c.args.class c.args.place ≡ Some m = ap (λ ds. method_at ds c.args.class c.args.place) (sym c.as_slice.ensures) ∙ c.in-Some.ensures in
    c.in_ok-entry-in-Some.ensures.parameters ∙ ap (declared.parameters m.name.text m.result) c.as_slice-in-Some.ensures ∙ method_parameters c.args.program.now c.args.class c.args.place m e

pub returns-in_ok-entry-in-Some-clause-locals : goal.returns-in_ok-entry-in-Some-clause-locals
returns-in_ok-entry-in-Some-clause-locals c =
    let m = c.in-Some.m.now in
    let e : method_at c.args.program.now.classes c.args.class c.args.place ≡ Some m = ap (λ ds. method_at ds c.args.class c.args.place) (sym c.as_slice.ensures) ∙ c.in-Some.ensures in
    c.in_ok-entry-in-Some.ensures.locals ∙ ap (declared.locals m.name.text m.result) c.as_slice-in-Some.ensures ∙ method_locals c.args.program.now c.args.class c.args.place m e

pub returns-in-None-clause-parameters : goal.returns-in-None-clause-parameters
returns-in-None-clause-parameters c =
    let e : method_at c.args.program.now.classes c.args.class c.args.place ≡ None = ap (λ ds. method_at ds c.args.class c.args.place) (sym c.as_slice.ensures) ∙ c.in-None.ensures in
    ap parameters_of c.nothing.ensures.parameters ∙ no_method_parameters c.args.program.now c.args.class c.args.place e

pub returns-in-None-clause-locals : goal.returns-in-None-clause-locals
returns-in-None-clause-locals c =
    let e : method_at c.args.program.now.classes c.args.class c.args.place ≡ None = ap (λ ds. method_at ds c.args.class c.args.place) (sym c.as_slice.ensures) ∙ c.in-None.ensures in
    ap variables_of c.nothing.ensures.locals ∙ no_method_locals c.args.program.now c.args.class c.args.place e
