-- Which tasks a checked program can hold.
use Rattle.std.specs.Prelude.{ℕ, nat_lt, Bool, true, ◌&&◌, List, Option, Some, None}
use Rattle.st_tree.specs.declared.configuration.TaskSpec.{TaskSpec}
use Rattle.st_tree.specs.declared.unit.Decl.{Decl}
use Rattle.st_unit_rules.specs.Checked.{setting_value}
use Rattle.st_unit_rules.specs.ConfigurationRules.{is_interval, is_priority}

-- there is no value, or one of 32 bits
abbrev pub fits_32_bits : Option ℕ → Bool
fits_32_bits None = true
fits_32_bits (Some n) = nat_lt n 4_294_967_296

-- the settings that count
abbrev pub values_fit : List (Decl ℕ) → TaskSpec → Bool
values_fit decls t = fits_32_bits (setting_value decls is_interval t.settings) && fits_32_bits (setting_value decls is_priority t.settings)
