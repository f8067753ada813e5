-- The plans of routines: where the locals of each begin.
use Rattle.st_values.specs.Program.{Routine, Program}
use Rattle.st_meaning.specs.st_frame.Promise.Declarations.{scope_of}
use Rattle.code_rules.specs.Plan.{Tables, Plan, plan_of}

-- of one that a call enters: behind the address of the block
abbrev pub called_plan : Program → Tables → Routine → Plan
called_plan p tables x = plan_of p tables (scope_of x) 8
