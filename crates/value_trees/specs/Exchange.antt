-- A value is put in another's place.
use Rattle.std.specs.Prelude.{◌≡◌, List, Some, None, Result, Ok, Err}
use Rattle.st_tree.specs.declared.path.Step.{Step}
use Rattle.st_values.specs.Value.{Value, value_at, value_with}
use Rattle.value_trees.specs.declared.value.Value.{Value as CodeValue}
use Rattle.value_trees.specs.Value.{value_of}

-- The old value comes back, and the new one stands there; or the steps lead nowhere, all is as before, and the new one comes back.
abbrev pub Exchanged : Result CodeValue CodeValue → Value → List Step → Value → Value → Type 0
Exchanged (Ok old) v ss new after = (value_at v ss ≡ Some (value_of old)) × (value_with v ss new ≡ Some after)
Exchanged (Err back) v ss new after = (value_at v ss ≡ None) × (value_with v ss new ≡ None) × (after ≡ v) × (value_of back ≡ new)
