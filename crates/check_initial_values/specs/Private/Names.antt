-- Names in lists.
use Rattle.std.specs.Prelude.{ℕ, List, ◌++◌, Option}
use Rattle.st_types.specs.declared.st_type.StType.{StType}
use Rattle.st_rules.specs.Faults.{Faults}
use Rattle.st_rules.specs.Scope.{Scope}
use Rattle.st_unit_rules.specs.Initials.{given_by, field_not_found, field_named_twice, field_out_of_access}

-- what a name breaks by itself, where a list is for a type and these names stand before it
abbrev pub name_faults : Scope → Option StType → ℕ → List (List ℕ) → List ℕ → Faults
name_faults s t line before name =
    let g = given_by s t name in
    field_not_found line g ++ field_named_twice line before name ++ field_out_of_access s line g
