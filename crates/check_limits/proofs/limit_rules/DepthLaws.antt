-- How deep a type is, where it was told.
use Rattle.std.proofs.Common.{◌≡◌, ℕ, Bool, false, List, Option, Some, None, refl, sym, ap, ◌∙◌}
use Rattle.std.specs.Prelude.{◌||◌, ◌&&◌, not}
use Rattle.plc_text.specs.declared.code.Code.{Code}
use Rattle.plc_text.specs.declared.code.Code.TheVariants.{E16}
use Rattle.st_types.specs.declared.st_type.StType.{StType}
use Rattle.st_tree.specs.declared.type_spec.TypeSpec.{TypeSpec}
use Rattle.st_rules.specs.Faults.{least, when}
use Rattle.st_rules.specs.Scope.{Scope}
use Rattle.st_unit_rules.specs.declared_names.Declarations.{Declaration}
use Rattle.st_unit_rules.specs.declared_names.WrittenTypes.{type_written}
use Rattle.st_unit_rules.specs.Limits.{most_steps, has_depth, is_too_deep, has_many_dimensions, is_endless}
use Rattle.check_limits.specs.declared.limit_rules.depths.Within.{Within}
use Rattle.check_limits.specs.declared.limit_rules.depths.Within.TheVariants as within
use Rattle.check_limits.specs.limit_rules.Depths.{depth_faults}
use Rattle.check_limits.specs.limit_rules.Private.Depths.{has_more}

-- ---- by where a type is written

module _ (s : Scope) (w : Within) (t : StType) where
  pub more_in_entry : w ≡ within.Entry → is_too_deep s t ≡ has_more w s (Some t)
  more_in_entry h = sym (ap (λ v. has_more v s (Some t)) h)

  pub more_in_variable : w ≡ within.Variable → (has_many_dimensions (Some t) || is_too_deep s t) ≡ has_more w s (Some t)
  more_in_variable h = sym (ap (λ v. has_more v s (Some t)) h)

  pub more_in_program : w ≡ within.Program → has_depth s most_steps t ≡ has_more w s (Some t)
  more_in_program h = sym (ap (λ v. has_more v s (Some t)) h)

pub none_more : (w : Within) (s : Scope) → false ≡ has_more w s None
none_more within.Entry s = refl
none_more within.Variable s = refl
none_more within.Program s = refl

by_place : (w : Within) (s : Scope) (ds : List Declaration) (line : ℕ) (t : TypeSpec ℕ) → when (has_more w s (type_written s t) && not (is_endless s ds t)) E16 line ≡ depth_faults w s ds line t
by_place within.Entry s ds line t = refl
by_place within.Variable s ds line t = refl
by_place within.Program s ds line t = refl

pub depth_told : (w : Within) (s : Scope) (ds : List Declaration) (line : ℕ) (t : TypeSpec ℕ) (told : Option StType) (more endless both : Bool) (r : Option (Code × ℕ)) → told ≡ type_written s t → more ≡ has_more w s told
    → endless ≡ is_endless s ds t → both ≡ (more && not endless) → r ≡ least (when both E16 line) → r ≡ least (depth_faults w s ds line t)
depth_told w s ds line t told more endless both r h m e k f =
    f ∙ ap (λ (b : Bool). least (when b E16 line)) (k ∙ ap (λ (b : Bool). b && not endless) (m ∙ ap (has_more w s) h) ∙ ap (λ (b : Bool). has_more w s (type_written s t) && not b) e)
    ∙ ap least (by_place w s ds line t)
