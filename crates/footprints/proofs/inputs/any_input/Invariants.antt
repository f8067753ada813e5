use Rattle.std.proofs.Common.{◌≡◌, drop}
use Rattle.program_tables.specs.st_initial.Variables.{variables_of}
use Rattle.footprints.specs.Private.Inputs.{any_input}
use Rattle.footprints.proofs.inputs.any_input.Given as goal

abbrev pub invariant-loop-variable : goal.invariant-loop-variable
invariant-loop-variable l = any_input (variables_of (drop l.variable-index l.variables)) ≡ any_input (variables_of l.variables)
