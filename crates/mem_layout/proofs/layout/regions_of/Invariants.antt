use Rattle.std.proofs.Common.{List, ◌++◌, drop}
use Rattle.std.specs.Prelude.{map}
use Rattle.st_values.specs.Program.{Program}
use Rattle.st_values.specs.View.{region_of}
use Rattle.mem_layout.specs.Layout.{AllHaveShapes}
use Rattle.mem_layout.specs.declared.layout.Region.{Region}
use Rattle.mem_layout.specs.Private.Table.{AreTables, Reach}
use Rattle.mem_layout.specs.Private.Regions.{AreRegions}
use Rattle.mem_layout.proofs.layout.regions_of.Given as goal

abbrev pub invariant-loop-decl : goal.invariant-loop-decl
invariant-loop-decl l = (p : Program) → AreTables p l.tables → Reach p 65 l.tables → AllHaveShapes p (map region_of l.decls) → (rest : List Region) → AreRegions p (map region_of (drop l.decl-index l.decls)) rest → AreRegions p (map region_of l.decls) (l.regions ++ rest)
