-- A type that is told from its text is told alike where more is told.
use Rattle.std.proofs.Common.{◌≡◌, ℕ, ℤ, Bool, true, false, List, [], ◌∷◌, Option, Some, None, refl, sym, ap, ◌∙◌}
use Rattle.std.specs.Prelude.{option_and_then, option_map, if◌then◌else◌}
use Rattle.st_types.specs.declared.st_type.StType.{StType}
use Rattle.st_tree.specs.declared.type_spec.Bounds.{Bounds}
use Rattle.st_tree.specs.declared.type_spec.SimpleSpec.{SimpleSpec}
use Rattle.st_tree.specs.declared.type_spec.SimpleSpec.TheVariants as spec
use Rattle.st_tree.specs.declared.type_spec.TypeSpec.{TypeSpec}
use Rattle.st_tree.specs.Initial.{Initial, Value, initial_of}
use Rattle.st_tree.specs.Expression.{expression_of}
use Rattle.st_rules.specs.declared.asked.Asked.TheVariants.{Wanted}
use Rattle.st_rules.specs.declared.names.DeclaredNames.{DeclaredNames}
use Rattle.st_rules.specs.declared.names.DeclaredVariable.{DeclaredVariable}
use Rattle.st_rules.specs.Scope.{Scope}
use Rattle.st_rules.specs.Expressions.{reference_to}
use Rattle.st_unit_rules.specs.declared_names.Constants.{told_value}
use Rattle.st_unit_rules.specs.declared_names.WrittenTypes.{array_of, named_type, bound_value, element_written, arrays_of, dimensions, type_written}
use Rattle.st_unit_rules.specs.declared_names.Variables.{Written, may_be_constant, constant_target, value_given, constant_of}
use Rattle.resolution_order.specs.told_laws.ToldLaws.{NoLess, MeansNoLess}
use Rattle.resolution_order.proofs.told_laws.Heart.{more, Lookups, value-stays, bound-stays}

pub no-less : (a b : Option StType) → ((t : StType) → a ≡ Some t → b ≡ Some t) → NoLess a b
no-less None b f = tt
no-less (Some t) b f = f t refl

pub tells : (a b : Option StType) (t : StType) → NoLess a b → a ≡ Some t → b ≡ Some t
tells None b t h e = cc
tells (Some u) b t h e = h ∙ e

array-parts : (a b : Option ℤ) (c : Option StType) (t : StType) → array_of a b c ≡ Some t → (l : ℤ) × (h : ℤ) × (u : StType) × (a ≡ Some l) × (b ≡ Some h) × (c ≡ Some u)
array-parts (Some l) (Some h) (Some u) t e = (l, h, u, refl, refl, refl)
array-parts (Some l) (Some h) None t e = absurd (cc)
array-parts (Some l) None c t e = absurd (cc)
array-parts None b c t e = absurd (cc)

module _ (s : Scope) (names : DeclaredNames) (locals : List DeclaredVariable) (look : Lookups s names locals) (kinds : (name : List ℕ) → NoLess (named_type s name) (named_type (more s names locals) name)) where
  reference-stays : (o p : Option StType) (t : StType) → NoLess o p → option_and_then reference_to o ≡ Some t → option_and_then reference_to p ≡ Some t
  reference-stays None p t h e = absurd (cc)
  reference-stays (Some u) p t h e = ap (λ x. option_and_then reference_to x) h ∙ e

  element-stays : (x : SimpleSpec ℕ) (t : StType) → element_written s x ≡ Some t → element_written (more s names locals) x ≡ Some t
  element-stays (spec.Elementary l e) t h = h
  element-stays (spec.Named l name) t h = tells (named_type s name) (named_type (more s names locals) name) t (kinds name) h
  element-stays (spec.Reference l k name) t h = reference-stays (named_type s name) (named_type (more s names locals) name) t (kinds name) h

  arrays-stay : (bs : List (Bounds ℕ)) (x : SimpleSpec ℕ) (t : StType) → arrays_of s bs (element_written s x) ≡ Some t → arrays_of (more s names locals) bs (element_written (more s names locals) x) ≡ Some t
  arrays-stay [] x t h = element-stays x t h
  arrays-stay (b ∷ bs) x t h =
      let p = array-parts (bound_value s (expression_of b.low)) (bound_value s (expression_of b.high)) (arrays_of s bs (element_written s x)) t h in
      let low : bound_value (more s names locals) (expression_of b.low) ≡ bound_value s (expression_of b.low) = bound-stays s names locals look (expression_of b.low) p.0 p.3 ∙ sym p.3 in
      let high : bound_value (more s names locals) (expression_of b.high) ≡ bound_value s (expression_of b.high) = bound-stays s names locals look (expression_of b.high) p.1 p.4 ∙ sym p.4 in
      let inner : arrays_of (more s names locals) bs (element_written (more s names locals) x) ≡ arrays_of s bs (element_written s x) = arrays-stay bs x p.2 p.5 ∙ sym p.5 in
      ap (λ o. array_of o (bound_value (more s names locals) (expression_of b.high)) (arrays_of (more s names locals) bs (element_written (more s names locals) x))) low
      ∙ ap (λ o. array_of (bound_value s (expression_of b.low)) o (arrays_of (more s names locals) bs (element_written (more s names locals) x))) high
      ∙ ap (λ o. array_of (bound_value s (expression_of b.low)) (bound_value s (expression_of b.high)) o) inner
      ∙ h

  pub written-stays : (x : TypeSpec ℕ) → NoLess (type_written s x) (type_written (more s names locals) x)
  unfolding type_written
  written-stays x = no-less (type_written s x) (type_written (more s names locals) x) (arrays-stay (dimensions x) x.element)

  -- ---- values of constants

  if-some : (b : Bool) (o : Option ℤ) (z : ℤ) → (if b then o else None) ≡ Some z → (b ≡ true) × (o ≡ Some z)
  if-some true o z h = (refl, h)
  if-some false o z h = absurd (cc)

  given-stays : (t : StType) (i : Option (Initial ℕ)) (z : ℤ) → value_given s t i ≡ Some z → value_given (more s names locals) t i ≡ Some z
  given-stays t None z h = absurd (cc)
  given-stays t (Some (Value e)) z h =
      let p = if-some (may_be_constant t) (told_value s (Wanted t) e) z h in
      ap (λ b. if b then told_value (more s names locals) (Wanted t) e else None) p.0 ∙ value-stays s names locals look (Wanted t) e z p.1
  given-stays t (Some x) z h = absurd (cc)

  constant-stays : (o p : Option StType) (i : Option (Initial ℕ)) (z : ℤ) → NoLess o p → option_and_then (λ t. value_given s t i) o ≡ Some z → option_and_then (λ t. value_given (more s names locals) t i) p ≡ Some z
  constant-stays None p i z h e = absurd (cc)
  constant-stays (Some t) p i z h e = ap (λ o. option_and_then (λ u. value_given (more s names locals) u i) o) h ∙ given-stays t i z e

  means : (a b : Option ℤ) → ((z : ℤ) → a ≡ Some z → b ≡ Some z) → MeansNoLess (constant_target a) (constant_target b)
  means None b f = tt
  means (Some z) b f = ap constant_target (f z refl)

  pub target-stays : (w : Written) → MeansNoLess (constant_target (constant_of s w)) (constant_target (constant_of (more s names locals) w))
  target-stays w =
      means (constant_of s w) (constant_of (more s names locals) w) λ z.
      constant-stays (type_written s w.item.kind) (type_written (more s names locals) w.item.kind) (option_map initial_of w.item.initial) z (written-stays w.item.kind)
