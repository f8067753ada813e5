-- A value is put into a region, and the one that stood there comes out.
use Rattle.std.specs.Prelude.{◌≡◌, Option, Some, None, Result, Ok, Err}
use Rattle.st_tree.specs.declared.path.Path.{Path}
use Rattle.st_values.specs.Value.{Value, Store, put}
use Rattle.value_trees.specs.declared.value.Value.{Value as CodeValue}
use Rattle.value_trees.specs.Value.{value_of}

-- what stood there can be put back
abbrev pub RegionPut : Option CodeValue → Store → Path → Value → Store → Type 0
RegionPut (Some old) before q new after = (put before q new ≡ Some after) × (put after q (value_of old) ≡ Some before)
RegionPut None before q new after = (put before q new ≡ None) × (after ≡ before)

-- the value that came out
abbrev pub OkValue : Result CodeValue CodeValue → Option CodeValue
OkValue (Ok v) = Some v
OkValue (Err v) = None
