-- What inputs and outputs do to images, they do to the store that the images show.
use Rattle.std.specs.Prelude.{◌≡◌, ℕ, Bool, List, Option}
use Rattle.st_values.specs.Program.{Program}
use Rattle.st_values.specs.Value.{Store}
use Rattle.st_values.specs.Shape.{region_shape}
use Rattle.st_rules.specs.Chains.{is_among}
use Rattle.st_meaning.specs.ProcessImage.{located_of, latch, collect, output_byte}
use Rattle.mem_layout.specs.store_bytes.Spells.{Shows}
use Rattle.task_ports.specs.declared.ports.Port.{Port}
use Rattle.task_ports.specs.Ports.{PortsFit, latched, collected_byte, collected, EndsWithin}
use Rattle.task_ports.specs.TaskPorts.{AreTaskPorts}

abbrev pub held : List ℕ → ℕ → Bool
held fs r = is_among r fs

-- of a task with this footprint and these ports, on images that show a store on the footprint
pub record PortLaws (p : Program) (fs : List ℕ) (inputs outputs : List Port) (end : ℕ) : Type 0 where
  -- each port lies within its region, and each output ends within the bytes
  pub inputs_fit : (images : List (Option (List ℕ))) (s : Store) → Shows (region_shape p) (held fs) images s → PortsFit images inputs
  pub outputs_fit : (images : List (Option (List ℕ))) (s : Store) → Shows (region_shape p) (held fs) images s → PortsFit images outputs
  pub within : EndsWithin end outputs
  -- inputs take the values that the meaning gives them, and the bytes of the outputs are the meaning's
  pub latches : (input : List ℕ) (images : List (Option (List ℕ))) (s : Store) → Shows (region_shape p) (held fs) images s → Shows (region_shape p) (held fs) (latched inputs input images) (latch (located_of p) fs input s)
  pub byte : (images : List (Option (List ℕ))) (s : Store) (b : ℕ) → Shows (region_shape p) (held fs) images s → collected_byte outputs images b ≡ output_byte (located_of p) fs s b
  pub collects : (images : List (Option (List ℕ))) (s : Store) → Shows (region_shape p) (held fs) images s → collected outputs end images ≡ collect (located_of p) fs s

abbrev pub AllPortLaws : Type 0
AllPortLaws = (p : Program) (fs : List ℕ) (inputs outputs : List Port) (end : ℕ) → AreTaskPorts p fs inputs outputs end → PortLaws p fs inputs outputs end
