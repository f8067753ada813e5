-- What all that runs may rest on: what is promised of one program.
use Rattle.st_values.specs.Program.{Program}
use Rattle.st_meaning.specs.st_frame.OutputPlaces.{OutputsPlaced}
use Rattle.st_meaning.specs.st_frame.Promise.Programs.{ProgramIs}
use Rattle.st_change.specs.StoreLaws.{HooksAre}
use Rattle.mem_layout.specs.loaded_meaning.Sized.{IsSized}
use Rattle.mem_layout.specs.loaded_meaning.Outputs.{OutputsAre}
use Rattle.mem_layout.specs.store_bytes.InitialLaws.{StartsInRange}

pub record KeepsPromise (p : Program) : Type 0 where
  -- its declarations, calls and bodies are right
  pub program : ProgramIs p
  -- its hooks take the flags that they are given
  pub hooks : HooksAre p
  -- what it lays out is small and few
  pub sized : IsSized p
  -- its outputs end within the image, and no two of them share a bit
  pub outputs : OutputsAre p
  -- its regions begin with values of their types
  pub starts : StartsInRange p
  -- the outputs of its functions and methods are locals, those of its bodies variables of the class
  pub placed : OutputsPlaced p
