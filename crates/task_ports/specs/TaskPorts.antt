-- The ports of a task: its inputs and its outputs, in the order of the text.
use Rattle.std.specs.Prelude.{◌≡◌, ℕ, ◌^◌, Bool, ◌&&◌, List, [], ◌∷◌, filter, Some}
use Rattle.st_tree.specs.declared.address.Area.TheVariants as area
use Rattle.st_tree.specs.Address.{width_of, bit_of}
use Rattle.st_values.specs.Program.{Program}
use Rattle.st_values.specs.Shape.{Elementary, region_shape, path_shape}
use Rattle.st_rules.specs.Chains.{is_among}
use Rattle.st_meaning.specs.ProcessImage.{Located, located_of, is_in, is_shown, first_byte, covered}
use Rattle.mem_layout.specs.Layout.{RegionsHaveShapes}
use Rattle.mem_layout.specs.store_bytes.Place.{place_of}
use Rattle.task_ports.specs.declared.ports.Port.{Port}

-- where a variable with an address lies, and what its address says
pub record IsPort (p : Program) (x : Port) (l : Located) : Type 0 where
  pub region : x.region ≡ l.path.region
  pub elem : x.elem ≡ l.elem
  pub first : x.first ≡ first_byte l.address
  pub width : x.width ≡ width_of l.address
  pub weight : x.weight ≡ 2 ^ bit_of l.address
  pub place : place_of (region_shape p) l.path ≡ Some (record { offset = x.offset; shape = Elementary l.elem })

-- one by one
abbrev pub ArePorts : Program → List Port → List Located → Type 0
ArePorts p [] [] = Unit {0}
ArePorts p (x ∷ xs) (l ∷ ls) = IsPort p x l × ArePorts p xs ls
ArePorts p _ _ = ⊥

-- an input in these regions
abbrev pub is_latched : List ℕ → Located → Bool
is_latched fs l = is_in area.Input l && is_among l.path.region fs

-- the inputs and outputs in these regions among variables with addresses, and the end of the outputs
pub record ArePortsAmong (p : Program) (ls : List Located) (fs : List ℕ) (inputs outputs : List Port) (end : ℕ) : Type 0 where
  pub latched : ArePorts p inputs (filter (is_latched fs) ls)
  pub shown : ArePorts p outputs (filter (is_shown fs) ls)
  pub ends : end ≡ covered ls fs

-- those of a task with this footprint
abbrev pub AreTaskPorts : Program → List ℕ → List Port → List Port → ℕ → Type 0
AreTaskPorts p fs inputs outputs end = ArePortsAmong p (located_of p) fs inputs outputs end

-- types of regions can be laid out, and a number of the kind stands at the path
pub record IsAt (p : Program) (l : Located) : Type 0 where
  pub shapes : RegionsHaveShapes p
  pub number : path_shape p l.path ≡ Some (Elementary l.elem)

abbrev pub AllAt : Program → List Located → Type 0
AllAt p [] = Unit {0}
AllAt p (l ∷ ls) = IsAt p l × AllAt p ls
