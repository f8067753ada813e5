-- The tables that a search goes by are those of one program.
use Rattle.std.specs.Prelude.{◌≡◌}
use Rattle.st_values.specs.View.{program_of}
use Rattle.body_uses.specs.Uses.{Knows}
use Rattle.footprints.specs.reached_routines.Conformers.{AreConformers}
use Rattle.footprints.specs.declared.reached_routines.search.Sources.{Sources}

pub record Serves (s : Sources) : Type 0 where
  pub known : Knows s.callables
  pub same : s.callables.tables.now ≡ s.program.now
  pub conformers : AreConformers (program_of s.callables.tables.now) s.conformers.now
