-- Old names of regions, by tables.
use Rattle.std.specs.Prelude.{◌≡◌, ℕ, if◌then◌else◌, List, Option}
use Rattle.st_values.specs.Program.{Region}
use Rattle.st_change.specs.From.{globals_in, instances_in}
use Rattle.program_tables.specs.declared.st_initial.variables.Variable as held
use Rattle.program_tables.specs.st_initial.Variables.{variables_of}
use Rattle.change_names.specs.declared.change_pairs.regions.Known.{Known}
use Rattle.change_names.specs.declared.change_pairs.regions.Placed.{Placed}
use Rattle.change_names.specs.change_pairs.Places.{found_in, Finds, first_where}
use Rattle.change_names.specs.change_pairs.Variables.{has_name}
use Rattle.change_names.specs.change_pairs.Private.Variables.{has_mark, from_by, same_by}

-- what is known of the names of regions
pub record AreKnown (new old : List Region) (k : Known) : Type 0 where
  pub own : variables_of k.globals.items ≡ globals_in new
  pub old_globals : List held.Variable
  pub are_globals : variables_of old_globals ≡ globals_in old
  pub old_instances : List held.Variable
  pub are_instances : variables_of old_instances ≡ instances_in old
  pub has_global : Finds k.declared (λ name. first_where (has_name name) old_globals)
  pub has_marks : Finds k.marks (λ name. first_where (has_mark name) k.globals.items)
  pub has_instance : Finds k.instances (λ name. first_where (has_name name) old_instances)

abbrev pub region_by : Known → Placed → Option (List ℕ)
region_by k x = if x.program then same_by (found_in k.instances) x.variable else from_by (found_in k.declared) (found_in k.marks) k.globals.items x.variable
