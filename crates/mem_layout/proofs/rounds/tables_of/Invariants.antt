use Rattle.std.proofs.Common.{◌≡◌, length}
use Rattle.st_values.specs.View.{program_of}
use Rattle.mem_layout.specs.Private.Table.{AreTables, Reach}
use Rattle.mem_layout.proofs.rounds.tables_of.Given as goal

abbrev pub invariant-loop-depth : goal.invariant-loop-depth
invariant-loop-depth l =
    record {
      structures : length l.tables.structures ≡ length l.members.structures;
      classes : length l.tables.classes ≡ length l.members.classes;
      sound : AreTables (program_of l.program) l.tables;
      reach : Reach (program_of l.program) l.depth l.tables;
    }
