-- Parts of expressions one by one.
use Rattle.std.specs.Prelude.{ℕ, if◌then◌else◌}
use Rattle.plc_text.specs.declared.code.Code.TheVariants.{E05}
use Rattle.st_tree.specs.Expression.{Argument, Positional, Input, Output, Arguments, Selectors}
use Rattle.st_tree.specs.declared.expression.Root.{Root}
use Rattle.st_rules.specs.Expressions.{is_conversion}
use Rattle.st_rules.specs.Faults.{Faults, at}
use Rattle.st_rules.specs.Scope.{Scope}
use Rattle.st_unit_rules.specs.declared_names.Constants.{no_constant_part, no_constant_place, no_constant_argument}

abbrev pub place_part : Scope → (Root ℕ × Selectors ℕ) → Faults
place_part s p = no_constant_place s p.0 p.1

abbrev pub call_part : Scope → ℕ → (Root ℕ × Selectors ℕ) → Arguments ℕ → Faults
call_part s l p xs = if is_conversion s p.0 p.1 then no_constant_argument s xs else at E05 l

abbrev pub argument_part : Scope → Argument ℕ → Faults
argument_part s (Positional e) = no_constant_part s e
argument_part s (Input l name e) = no_constant_part s e
argument_part s (Output l name k r ss) = no_constant_place s r ss
