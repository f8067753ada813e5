-- The graph of what instances and structures hold.
use Rattle.std.specs.Prelude.{ℕ, List, ◌++◌, map, filter_map}
use Rattle.program_tables.specs.declared.st_initial.members.Members.{Members}
use Rattle.program_tables.specs.declared.st_initial.variables.Variable as code
use Rattle.program_tables.specs.st_initial.Variables.{variables_of}
use Rattle.st_values.specs.Program.{Variable}
use Rattle.region_instances.specs.declared.held.Counts.{Counts}
use Rattle.region_instances.specs.Private.Held.{node_of}

abbrev pub nodes_of : Counts → List Variable → List ℕ
nodes_of counts vs = filter_map (λ v. node_of counts v.kind) vs

abbrev pub nodes_in : Counts → List code.Variable → List ℕ
nodes_in counts vs = nodes_of counts (variables_of vs)

abbrev pub lists_of : Counts → Members → List (List ℕ)
lists_of counts m = map (nodes_in counts) m.classes ++ map (nodes_in counts) m.structures
