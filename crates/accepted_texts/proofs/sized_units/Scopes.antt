-- What is counted of a type is the same in all scopes of a unit.
use Rattle.std.proofs.Common.{◌≡◌, ℕ, zero, suc, ◌+◌, ◌*◌, Bool, List, [], ◌∷◌, ◌++◌, map, max, Option, Some, None, refl, sym, ap, ◌∙◌}
use Rattle.std.specs.Prelude.{◌-ℤ◌, ◌&&◌, ◌||◌, if◌then◌else◌, flat_map, filter, slice_get}
use Rattle.std.specs.List.{list_any}
use Rattle.st_types.specs.declared.st_type.StType.{StType, out-StType}
use Rattle.st_types.specs.declared.st_type.StType.TheOpen.{StType-F}
use Rattle.st_rules.specs.declared.names.DeclaredField.{DeclaredField}
use Rattle.st_rules.specs.declared.names.DeclaredVariable.{DeclaredVariable}
use Rattle.st_rules.specs.Classes.{chain}
use Rattle.st_rules.specs.Scope.{Scope, parts_of, field_list, variables_of, is_of_instance}
use Rattle.st_unit_rules.specs.Limits.{sum_of, kinds_told, field_kinds, variable_kinds, contents, is_composite, has_depth, has_many_dimensions, is_too_deep, level_values, values_within, values_of}
use Rattle.st_unit_rules.specs.Worth.{count_to}
use Rattle.accepted_texts.proofs.unfolding_laws.DeclaredLaws.{parts_in, variables_in_class}
use Rattle.accepted_texts.proofs.sized_units.Depths.{Counts}

any_same : {X : Type 0} (f g : X → Bool) → ((x : X) → f x ≡ g x) → (xs : List X) → list_any f xs ≡ list_any g xs
any_same f g e [] = refl
any_same f g e (x ∷ xs) = ap (λ b. b || list_any f xs) (e x) ∙ ap (λ b. g x || b) (any_same f g e xs)

module _ (s : Scope) (c : Option ℕ) (m : Bool) (ls : List DeclaredVariable) where
  -- the same unit, in another class, in a routine or not, with other locals
  abbrev pub elsewhere : Scope
  elsewhere = record s { class = c; in_method = m; locals = ls }

  kinds_same : (os : List (Option StType)) → kinds_told elsewhere os ≡ kinds_told s os
  kinds_same [] = refl
  kinds_same (None ∷ os) = kinds_same os
  kinds_same (Some t ∷ os) = ap (λ ts. t ∷ ts) (kinds_same os)

  pub parts_same : (n : ℕ) → parts_of elsewhere n ≡ parts_of s n
  unfolding parts_in
  parts_same n = let one : parts_of elsewhere n ≡ parts_in (slice_get s.names.parts n) = refl in let two : parts_in (slice_get s.names.parts n) ≡ parts_of s n = refl in one ∙ two

  fields_same : (n : ℕ) → field_kinds elsewhere n ≡ field_kinds s n
  fields_same n = kinds_same (map (λ (f : DeclaredField). f.kind) (field_list (parts_of elsewhere n))) ∙ ap (λ p. kinds_told s (map (λ (f : DeclaredField). f.kind) (field_list p))) (parts_same n)

  pub variables_same : (k : ℕ) → variables_of elsewhere k ≡ variables_of s k
  unfolding variables_in_class
  variables_same k = let one : variables_of elsewhere k ≡ variables_in_class (slice_get s.names.classes k) = refl in let two : variables_in_class (slice_get s.names.classes k) ≡ variables_of s k = refl in one ∙ two

  pub all_variables_same : (ks : List ℕ) → flat_map (variables_of elsewhere) ks ≡ flat_map (variables_of s) ks
  all_variables_same [] = refl
  all_variables_same (k ∷ ks) = ap (λ vs. vs ++ flat_map (variables_of elsewhere) ks) (variables_same k) ∙ ap (λ vs. variables_of s k ++ vs) (all_variables_same ks)

  instance_same : (k : ℕ) → variable_kinds elsewhere k ≡ variable_kinds s k
  instance_same k =
      kinds_same (map (λ (v : DeclaredVariable). v.kind) (filter is_of_instance (flat_map (variables_of elsewhere) (chain s.classes k))))
      ∙ ap (λ vs. kinds_told s (map (λ (v : DeclaredVariable). v.kind) (filter is_of_instance vs))) (all_variables_same (chain s.classes k))

  contents_same : (o : StType-F StType) → contents elsewhere o ≡ contents s o
  contents_same (StType-F.Structure n) = fields_same n
  contents_same (StType-F.Instance k) = instance_same k
  contents_same (StType-F.Array low high of) = refl
  contents_same (StType-F.Elementary e) = refl
  contents_same (StType-F.Enumeration n) = refl
  contents_same (StType-F.Reference k) = refl
  contents_same (StType-F.Interface k) = refl

  composite_same : (o : StType-F StType) → is_composite elsewhere o ≡ is_composite s o
  composite_same (StType-F.Structure n) = refl
  composite_same (StType-F.Instance k) = refl
  composite_same (StType-F.Array low high of) = refl
  composite_same (StType-F.Elementary e) = refl
  composite_same (StType-F.Enumeration n) = refl
  composite_same (StType-F.Reference k) = refl
  composite_same (StType-F.Interface k) = refl

  pub depth_same : (n : ℕ) (t : StType) → has_depth elsewhere n t ≡ has_depth s n t
  depth_same zero t = composite_same (out-StType t)
  depth_same (suc n) t =
      ap (λ b. b && list_any (has_depth elsewhere n) (contents elsewhere (out-StType t))) (composite_same (out-StType t))
      ∙ (ap (λ ts. is_composite s (out-StType t) && list_any (has_depth elsewhere n) ts) (contents_same (out-StType t))
      ∙ ap (λ b. is_composite s (out-StType t) && b) (any_same (has_depth elsewhere n) (has_depth s n) (depth_same n) (contents s (out-StType t))))

  sums_same : (f g : StType → ℕ) → ((t : StType) → f t ≡ g t) → (ts : List StType) → sum_of elsewhere (map f ts) ≡ sum_of s (map g ts)
  sums_same f g e [] = refl
  sums_same f g e (t ∷ ts) = ap (λ k. k + sum_of elsewhere (map f ts)) (e t) ∙ ap (λ k. g t + k) (sums_same f g e ts)

  level_same : (f g : StType → ℕ) → ((t : StType) → f t ≡ g t) → (o : StType-F StType) → level_values elsewhere f o ≡ level_values s g o
  level_same f g e (StType-F.Array low high of) = ap (λ k. count_to (high -ℤ low) * k) (e of)
  level_same f g e (StType-F.Structure n) = ap (λ ts. max 1 (sum_of elsewhere (map f ts))) (fields_same n) ∙ ap (max 1) (sums_same f g e (field_kinds s n))
  level_same f g e (StType-F.Instance k) = ap (λ ts. suc (sum_of elsewhere (map f ts))) (instance_same k) ∙ ap suc (sums_same f g e (variable_kinds s k))
  level_same f g e (StType-F.Elementary k) = refl
  level_same f g e (StType-F.Enumeration n) = refl
  level_same f g e (StType-F.Reference k) = refl
  level_same f g e (StType-F.Interface k) = refl

  values_same : (n : ℕ) (t : StType) → values_within elsewhere n t ≡ values_within s n t
  values_same zero t = refl
  values_same (suc n) t = level_same (values_within elsewhere n) (values_within s n) (values_same n) (out-StType t)

  pub all_values_same : (o : Option StType) → values_of elsewhere o ≡ values_of s o
  unfolding values_of
  all_values_same None = refl
  all_values_same (Some t) =
      ap (λ b. if has_many_dimensions (Some t) || b then 0 else values_within elsewhere 66 t) (depth_same 65 t)
      ∙ ap (λ k. if has_many_dimensions (Some t) || is_too_deep s t then 0 else k) (values_same 66 t)

  -- so all that is counted here is counted there
  pub counts_there : (o : Option StType) → Counts elsewhere o → Counts s o
  counts_there o h t e = sym (all_values_same o) ∙ (h t e ∙ values_same 66 t)
