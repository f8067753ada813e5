-- The code's regions as the meaning's.
use Rattle.std.specs.Prelude.{List, map}
use Rattle.program_tables.specs.st_initial.Variables.{variable_of}
use Rattle.st_values.specs.Program.{Region}
use Rattle.change_names.specs.declared.change_pairs.regions.Placed.{Placed}

abbrev pub region_of : Placed → Region
region_of x = record { program = x.program; variable = variable_of x.variable }

abbrev pub regions_of : List Placed → List Region
regions_of xs = map region_of xs
