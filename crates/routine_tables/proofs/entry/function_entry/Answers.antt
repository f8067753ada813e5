use Rattle.std.proofs.Common.{ap, sym, ◌∙◌}
use Rattle.program_tables.specs.st_initial.Variables.{variables_of}
use Rattle.routine_tables.specs.Parameters.{parameters_of}
use Rattle.routine_tables.specs.Private.Declared as declared
use Rattle.routine_tables.proofs.EntryLaws.{function_parameters, function_locals, no_function_parameters, no_function_locals}
use Rattle.routine_tables.proofs.entry.function_entry.Goals as goal

pub returns-in_ok-entry-in-Some-clause-parameters : goal.returns-in_ok-entry-in-Some-clause-parameters
returns-in_ok-entry-in-Some-clause-parameters c =
    let f = c.in-Some.f.now in
    c.in_ok-entry-in-Some.ensures.parameters ∙ ap (declared.parameters f.name.text f.result) c.as_slice.ensures ∙ function_parameters c.args.program.now c.args.number f (sym c.in-Some.ensures.value)

pub returns-in_ok-entry-in-Some-clause-locals : goal.returns-in_ok-entry-in-Some-clause-locals
returns-in_ok-entry-in-Some-clause-locals c =
    let f = c.in-Some.f.now in
    c.in_ok-entry-in-Some.ensures.locals ∙ ap (declared.locals f.name.text f.result) c.as_slice.ensures ∙ function_locals c.args.program.now c.args.number f (sym c.in-Some.ensures.value)

pub returns-in-None-clause-parameters : goal.returns-in-None-clause-parameters
returns-in-None-clause-parameters c = ap parameters_of c.nothing.ensures.parameters ∙ no_function_parameters c.args.program.now c.args.number (sym c.in-None.ensures.value)

pub returns-in-None-clause-locals : goal.returns-in-None-clause-locals
returns-in-None-clause-locals c = ap variables_of c.nothing.ensures.locals ∙ no_function_locals c.args.program.now c.args.number (sym c.in-None.ensures.value)
