-- Ports that are added one after another.
use Rattle.std.specs.Prelude.{◌≡◌, ℕ, Bool, max, List, [], ◌∷◌, ◌++◌, filter}
use Rattle.st_values.specs.Program.{Program}
use Rattle.st_meaning.specs.ProcessImage.{Located, is_shown, covered}
use Rattle.task_ports.specs.declared.ports.Port.{Port}
use Rattle.task_ports.specs.TaskPorts.{IsAt, AllAt, ArePorts, is_latched}

-- the port of a variable that passes a test is added
pub record Takes (p : Program) (f : Located → Bool) (l : Located) (old new : List Port) : Type 0 where
  pub ports : IsAt p l → (xs : List Port) × (new ≡ old ++ xs) × ArePorts p xs (filter f (l ∷ []))

-- those of the variables so far, and what is left makes them those of all
pub record Taken (p : Program) (f : Located → Bool) (all left : List Located) (xs : List Port) : Type 0 where
  pub at : AllAt p all → AllAt p left
  pub whole : AllAt p all → (ys : List Port) → ArePorts p ys (filter f left) → ArePorts p (xs ++ ys) (filter f all)

pub record Collecting (p : Program) (fs : List ℕ) (all left : List Located) (inputs outputs : List Port) (end : ℕ) : Type 0 where
  pub latched : Taken p (is_latched fs) all left inputs
  pub shown : Taken p (is_shown fs) all left outputs
  pub covers : max end (covered left fs) ≡ covered all fs
