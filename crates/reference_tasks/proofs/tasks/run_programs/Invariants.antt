use Rattle.std.proofs.Common.{◌≡◌, drop}
use Rattle.st_values.specs.View.{program_of}
use Rattle.run_state.specs.State.{base_of, state_of}
use Rattle.reference_tasks.specs.Private.Programs.{in_order}
use Rattle.reference_tasks.proofs.tasks.run_programs.Given as goal

-- the programs that are left do from here what all did from the beginning
abbrev pub invariant-loop-region : goal.invariant-loop-region
invariant-loop-region l =
    (in_order (program_of l.on.tables.now) l.room (drop l.region-index l.programs) l.line (state_of l.m) ≡ in_order (program_of l.on.tables.now) l.room l.programs l.line (state_of l.fn.m)) × (base_of l.m ≡ base_of l.fn.m)
