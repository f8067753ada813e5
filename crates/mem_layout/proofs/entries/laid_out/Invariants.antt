use Rattle.std.proofs.Common.{◌≡◌, ℕ, Some, drop}
use Rattle.st_values.specs.Program.{Program}
use Rattle.st_values.specs.Shape.{Fields, fields_by, shape_within}
use Rattle.program_tables.specs.st_initial.Variables.{variables_of}
use Rattle.mem_layout.specs.Private.Table.{AreTables, start}
use Rattle.mem_layout.specs.Private.Entry.{Going}
use Rattle.mem_layout.proofs.entries.laid_out.Given as goal

abbrev pub invariant-loop-variable : goal.invariant-loop-variable
invariant-loop-variable l = (p : Program) (n : ℕ) (fs : Fields) → AreTables p l.tables → fields_by (shape_within p n) (variables_of l.variables) ≡ Some fs → Going p n (start l.class) fs (variables_of (drop l.variable-index l.variables)) l.laid
