-- Depths of the items of sections, and of a result.
use Rattle.std.proofs.Common.{◌≡◌, ℕ, Bool, true, false, List, [], ◌∷◌, ◌++◌, Option, Some, refl, sym, ap, ◌∙◌}
use Rattle.std.specs.Prelude.{not, if◌then◌else◌, filter, flat_map}
use Rattle.std.proofs.lemmas.Grind.{flat_map-append}
use Rattle.plc_text.specs.declared.code.Code.{Code}
use Rattle.st_tree.specs.declared.declaration.Item.{Item}
use Rattle.st_tree.specs.declared.declaration.Section.{Section}
use Rattle.st_tree.specs.declared.type_spec.TypeSpec.{TypeSpec}
use Rattle.st_tree.specs.declared.unit.Decl.{Decl}
use Rattle.st_rules.specs.Faults.{least}
use Rattle.st_rules.specs.Scope.{Scope, is_external}
use Rattle.st_unit_rules.specs.declared_names.Declarations.{declarations}
use Rattle.st_unit_rules.specs.declared_names.WrittenTypes.{type_written}
use Rattle.st_unit_rules.specs.DeclarationRules.{item_too_deep, items_in, result_too_deep}
use Rattle.st_unit_rules.specs.Limits.{most_steps, variable_too_deep}
use Rattle.check_limits.specs.declared.limit_rules.depths.Within.{Within}
use Rattle.check_limits.specs.limit_rules.Depths.{depth_faults}
use Rattle.check_limits.specs.declared.type_sizes.sizes.TypeSizes.{TypeSizes}
use Rattle.check_limits.specs.type_sizes.Sizes.{Measures}
use Rattle.check_declared_variables.specs.declared.type_rules.types.CheckedType.{CheckedType}
use Rattle.check_declared_variables.specs.type_rules.Types.{ChecksType}
use Rattle.check_routines.specs.depth_rules.Private.Depths.{section_too_deep}

-- section by section, but externals
pub by_section : (decls : List (Decl ℕ)) (s : Scope) (xs : List (Section ℕ)) → flat_map (section_too_deep decls s) xs ≡ flat_map (item_too_deep decls s) (items_in (filter (λ x. not (is_external x.sort)) xs))
by_section decls s [] = refl
by_section decls s (x ∷ xs) = at (is_external x.sort) (by_section decls s xs)
  where
    at : (b : Bool) → flat_map (section_too_deep decls s) xs ≡ flat_map (item_too_deep decls s) (items_in (filter (λ x. not (is_external x.sort)) xs))
        → (if b then [] else flat_map (item_too_deep decls s) x.items) ++ flat_map (section_too_deep decls s) xs
        ≡ flat_map (item_too_deep decls s) (items_in (if not b then x ∷ filter (λ x. not (is_external x.sort)) xs else filter (λ x. not (is_external x.sort)) xs))
    at true h = h
    at false h = ap (λ fs. flat_map (item_too_deep decls s) x.items ++ fs) h ∙ sym (flat_map-append (item_too_deep decls s) x.items (items_in (filter (λ x. not (is_external x.sort)) xs)))

-- a section that is none of externals
pub section_found : (decls : List (Decl ℕ)) (s : Scope) (x : Section ℕ) (items : List (Item ℕ)) (external : Bool) (f : Option (Code × ℕ)) → external ≡ is_external x.sort → external ≡ false → items ≡ x.items → f ≡ least (flat_map (item_too_deep decls s) items)
    → f ≡ least (section_too_deep decls s x)
section_found decls s x items external f e h i g =
    g ∙ ap (λ (xs : List (Item ℕ)). least (flat_map (item_too_deep decls s) xs)) i ∙ sym (ap (λ (b : Bool). least (if b then [] else flat_map (item_too_deep decls s) x.items)) (sym e ∙ h))

-- a type by what is found out about it
pub depth_found : (decls : List (Decl ℕ)) (s : Scope) (sizes : TypeSizes) (within : Within) (line : ℕ) (t : TypeSpec ℕ) (found : CheckedType) (f : Option (Code × ℕ)) → Measures sizes s → ChecksType found s t
    → ((u : Scope) → Measures sizes u → found.kind ≡ type_written u t → f ≡ least (depth_faults within u (declarations decls) line t)) → f ≡ least (depth_faults within s (declarations decls) line t)
depth_found decls s sizes within line t found f m c h = h s m c.kind

module _ (decls : List (Decl ℕ)) (s : Scope) (line : ℕ) (o : Option (TypeSpec ℕ)) where
  pub there : (t : TypeSpec ℕ) (f : Option (Code × ℕ)) → o ≡ Some t → f ≡ least (variable_too_deep s (declarations decls) most_steps line t) → f ≡ least (result_too_deep decls s line o)
  there t f h e = e ∙ sym (ap (λ x. least (result_too_deep decls s line x)) h)
