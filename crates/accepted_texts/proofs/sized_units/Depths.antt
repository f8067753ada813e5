-- Of a type that is within the limits all values are counted.
use Rattle.std.proofs.Common.{◌≡◌, ◌<◌, ℕ, zero, suc, ℤ, Bool, true, false, List, [], ◌∷◌, Option, Some, None, refl, sym, ap, ◌∙◌, subst, inl, inr, arith}
use Rattle.std.specs.Prelude.{not, ◌&&◌, ◌||◌, if◌then◌else◌}
use Rattle.std.specs.List.{list_any}
use Rattle.std.proofs.lemmas.Bool.{ltb-true}
use Rattle.plc_text.specs.declared.code.Code.TheVariants.{E16}
use Rattle.st_types.specs.declared.st_type.StType.{StType, out-StType, roll-StType, roll-out-StType}
use Rattle.st_types.specs.declared.st_type.StType.TheVariants as type
use Rattle.st_types.specs.declared.st_type.StType.TheOpen.{StType-F}
use Rattle.st_tree.specs.declared.type_spec.TypeSpec.{TypeSpec}
use Rattle.st_tree.specs.declared.unit.Decl.{Decl}
use Rattle.st_rules.specs.Faults.{when}
use Rattle.st_rules.specs.Scope.{Scope}
use Rattle.st_rules.proofs.Booleans.{true≢false, either, or-first, or-second, or-neither, both, and-both}
use Rattle.st_unit_rules.specs.declared_names.Declarations.{declarations}
use Rattle.st_unit_rules.specs.declared_names.WrittenTypes.{array_depth, type_written}
use Rattle.st_unit_rules.proofs.declared_names.DimensionLaws.{array_depth-Array, array_depth-Elementary, array_depth-Enumeration, array_depth-Structure, array_depth-Instance, array_depth-Reference, array_depth-Interface}
use Rattle.st_unit_rules.specs.Limits.{contents, is_composite, has_many_dimensions, has_depth, has_depth_told, is_too_deep, is_endless, too_deep, variable_too_deep, values_within, values_of}
use Rattle.st_unit_rules.specs.UnitRefusal.{BreaksNothing}
use Rattle.accepted_texts.proofs.unfolding_laws.CycleLaws.{not_when, not_deep}

not_true : (b : Bool) → (b ≡ true → ⊥) → b ≡ false
not_true true f = absurd (f refl)
not_true false f = refl

never : (b : Bool) → (b && false) ≡ false
never true = refl
never false = refl

pub type_is : (t : StType) (o : StType-F StType) → out-StType t ≡ o → t ≡ roll-StType o
type_is t o e = sym (roll-out-StType t) ∙ ap roll-StType e

module _ (s : Scope) where
  any_less : (f g : StType → Bool) → ((t : StType) → f t ≡ true → g t ≡ true) → (ts : List StType) → list_any f ts ≡ true → list_any g ts ≡ true
  any_less f g h [] e = e
  any_less f g h (t ∷ ts) e = elim (either (f t) (list_any f ts) e) [
    | inl p ↦ or-first (g t) (list_any g ts) (h t p)
    | inr p ↦ or-second (g t) (list_any g ts) (any_less f g h ts p)
  ]

  -- a type of so many steps has one fewer too
  less_deep : (n : ℕ) (t : StType) → has_depth s (suc n) t ≡ true → has_depth s n t ≡ true
  less_deep zero t h = (both (is_composite s (out-StType t)) (list_any (has_depth s zero) (contents s (out-StType t))) h).0
  less_deep (suc n) t h =
      let b = both (is_composite s (out-StType t)) (list_any (has_depth s (suc n)) (contents s (out-StType t))) h in
      and-both (is_composite s (out-StType t)) (list_any (has_depth s n) (contents s (out-StType t))) b.0 (any_less (has_depth s (suc n)) (has_depth s n) (less_deep n) (contents s (out-StType t)) b.1)

  none_within : (n : ℕ) (t x : StType) → t ≡ x → array_depth x ≡ 0 → n < array_depth t → ⊥
  none_within n t x q z h = let a = ap array_depth q in omega (arith, a, z, h)

  record IsArray (t : StType) : Type 0 where
    low : ℤ
    high : ℤ
    element : StType
    is : out-StType t ≡ StType-F.Array low high element
    depth : array_depth t ≡ suc (array_depth element)

  an_array : (t : StType) (o : StType-F StType) → out-StType t ≡ o → 0 < array_depth t → IsArray t
  an_array t (StType-F.Array low high of) e h =
      record { low = low; high = high; element = of; is = e; depth = ap array_depth (type_is t (StType-F.Array low high of) e ∙ type.rolls-Array low high of) ∙ array_depth-Array low high of }
  an_array t (StType-F.Elementary k) e h = absurd (none_within 0 t (type.Elementary k) (type_is t (StType-F.Elementary k) e ∙ type.rolls-Elementary k) (array_depth-Elementary k) h)
  an_array t (StType-F.Enumeration k) e h = absurd (none_within 0 t (type.Enumeration k) (type_is t (StType-F.Enumeration k) e ∙ type.rolls-Enumeration k) (array_depth-Enumeration k) h)
  an_array t (StType-F.Structure k) e h = absurd (none_within 0 t (type.Structure k) (type_is t (StType-F.Structure k) e ∙ type.rolls-Structure k) (array_depth-Structure k) h)
  an_array t (StType-F.Instance k) e h = absurd (none_within 0 t (type.Instance k) (type_is t (StType-F.Instance k) e ∙ type.rolls-Instance k) (array_depth-Instance k) h)
  an_array t (StType-F.Reference k) e h = absurd (none_within 0 t (type.Reference k) (type_is t (StType-F.Reference k) e ∙ type.rolls-Reference k) (array_depth-Reference k) h)
  an_array t (StType-F.Interface k) e h = absurd (none_within 0 t (type.Interface k) (type_is t (StType-F.Interface k) e ∙ type.rolls-Interface k) (array_depth-Interface k) h)

  -- each dimension is a step
  dimensions_deep : (n : ℕ) (t : StType) → n < array_depth t → has_depth s n t ≡ true
  dimensions_deep zero t h = ap (is_composite s) (an_array t (out-StType t) refl h).is
  dimensions_deep (suc n) t h =
      let a = an_array t (out-StType t) refl (omega (arith, h)) in
      let d = a.depth in
      let inner = dimensions_deep n a.element (omega (arith, h, d)) in
      ap (λ o. is_composite s o && list_any (has_depth s n) (contents s o)) a.is ∙ or-first (has_depth s n a.element) false inner

  many_deep : (o : Option StType) → has_many_dimensions o ≡ true → has_depth_told s 64 o ≡ true
  many_deep None h = h
  many_deep (Some t) h = dimensions_deep 64 t (ltb-true 64 (array_depth t) h)

  -- all values of a type are counted
  abbrev pub Counts : Option StType → Type 0
  Counts o = (t : StType) → o ≡ Some t → values_of s o ≡ values_within s 66 t

  all_counted : (t : StType) → has_many_dimensions (Some t) ≡ false → is_too_deep s t ≡ false → values_of s (Some t) ≡ values_within s 66 t
  unfolding values_of
  all_counted t m d = ap (λ b. if b then 0 else values_within s 66 t) (or-neither (has_many_dimensions (Some t)) (is_too_deep s t) m d)

  pub counts : (o : Option StType) → has_many_dimensions o ≡ false → has_depth_told s 65 o ≡ false → Counts o
  counts o m d t e = ap (values_of s) e ∙ all_counted t (subst (λ x. has_many_dimensions x ≡ false) e m) (subst (λ x. has_depth_told s 65 x ≡ false) e d)

  -- so where it has one step fewer than may be
  pub counts_below : (o : Option StType) → has_depth_told s 64 o ≡ false → Counts o
  counts_below o d =
      counts o (not_true (has_many_dimensions o) (λ m. true≢false (sym (many_deep o m) ∙ d))) (not_true (has_depth_told s 65 o) (λ k. true≢false (sym (deeper o k) ∙ d)))
    where
      deeper : (x : Option StType) → has_depth_told s 65 x ≡ true → has_depth_told s 64 x ≡ true
      deeper None h = h
      deeper (Some t) h = less_deep 64 t h

  -- the type of a global is within both limits
  pub few_dimensions : (decls : List (Decl ℕ)) → BreaksNothing decls → (line : ℕ) (t : TypeSpec ℕ) → variable_too_deep s (declarations decls) 64 line t ≡ [] → has_many_dimensions (type_written s t) ≡ false
  few_dimensions decls good line t h = by (has_many_dimensions (type_written s t)) (is_endless s (declarations decls) t) refl refl
    where
      by : (m e : Bool) → has_many_dimensions (type_written s t) ≡ m → is_endless s (declarations decls) t ≡ e → has_many_dimensions (type_written s t) ≡ false
      by false e p q = p
      by true true p q =
          let deep = has_depth_told s 64 (type_written s t) in
          let none : too_deep s (declarations decls) 63 line t ≡ [] = ap (λ z. when (deep && not z) E16 line) q ∙ ap (λ z. when z E16 line) (never deep) in
          absurd (true≢false (sym (many_deep (type_written s t) p) ∙ not_deep decls good s 63 line t none))
      by true false p q =
          let many = has_many_dimensions (type_written s t) in
          let deep = has_depth_told s 65 (type_written s t) in
          let none = not_when ((many || deep) && not (is_endless s (declarations decls) t)) E16 line h in
          absurd (true≢false (sym (and-both (many || deep) (not (is_endless s (declarations decls) t)) (or-first many deep p) (ap not q)) ∙ none))
