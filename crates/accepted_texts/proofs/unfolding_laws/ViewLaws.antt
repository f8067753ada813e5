-- The types that a checked text shows of its variables and fields are those that were written, where they could be told.
use Rattle.std.proofs.Common.{◌≡◌, ℕ, Bool, true, false, List, [], ◌∷◌, Option, None, sym, ap, subst}
use Rattle.std.specs.Prelude.{if◌then◌else◌, not, ◌&&◌, flat_map}
use Rattle.st_types.specs.declared.st_type.StType.{StType}
use Rattle.st_tree.specs.declared.declaration.FieldGroup.{FieldGroup}
use Rattle.st_tree.specs.declared.declaration.Item.{Item}
use Rattle.st_tree.specs.declared.declaration.Section.{Section}
use Rattle.st_tree.specs.declared.declaration.SectionSort.{SectionSort}
use Rattle.st_tree.specs.declared.declaration.SectionSort.TheVariants as sort
use Rattle.st_tree.specs.declared.marks.Marks.{Marks}
use Rattle.st_tree.specs.declared.name.Name.{Name}
use Rattle.st_tree.specs.declared.program.Note.{Note}
use Rattle.st_tree.specs.declared.type_spec.ArraySpec.{ArraySpec}
use Rattle.st_tree.specs.declared.type_spec.SimpleSpec.{SimpleSpec}
use Rattle.st_tree.specs.declared.type_spec.SimpleSpec.TheVariants as spec
use Rattle.st_tree.specs.declared.type_spec.TypeSpec.{TypeSpec}
use Rattle.st_rules.specs.Expressions.{told}
use Rattle.st_rules.specs.Modifiers.{is_constant}
use Rattle.st_rules.specs.Scope.{Scope, is_external, is_instance_sort}
use Rattle.st_unit_rules.specs.declared_names.Variables.{Written, item_written, section_written, sections_written, is_kept_written}
use Rattle.st_unit_rules.specs.declared_names.WrittenTypes.{element_written, arrays_of, type_written}
use Rattle.st_unit_rules.specs.Checked.{Each, TypedElement, TypedArrays, TypedSpec, TypedItem, TypedSection, TypedGroup}
use Rattle.st_values.specs.Program.{Variable}
use Rattle.st_values.specs.View.{kind_written, kind_of, named_variables, items_in, sorted_items, variables_in, is_kept, those, group_variables, groups_in}
use Rattle.resolution_order.specs.told_laws.ToldLaws.{Every}
use Rattle.accepted_texts.proofs.unfolding_laws.ListLaws.{every_append, every_front, every_back, every_means, every_map, every_flat, every_passing}

module _ (s : Scope) where
  element_shown : (x : SimpleSpec ℕ) (y : SimpleSpec Note) → TypedElement s x y → kind_written [] y ≡ told (element_written s x)
  element_shown (spec.Elementary l e) y h = ap (kind_written []) h
  element_shown (spec.Named l name) y h = ap (kind_written []) h
  element_shown (spec.Reference l k name) y h = ap (kind_written []) h

  arrays_shown : (x : SimpleSpec ℕ) (y : SimpleSpec Note) → TypedElement s x y → (as' : List (ArraySpec ℕ)) (bs : List (ArraySpec Note)) → TypedArrays s x as' bs
      → kind_written bs y ≡ told (arrays_of s (flat_map (λ a. a.bounds) as') (element_written s x))
  arrays_shown x y h [] [] k = element_shown x y h
  arrays_shown x y h (a ∷ as') (b ∷ bs) k = ap (λ (n : Note). n.kind) k.0
  arrays_shown x y h [] (b ∷ bs) k = absurd k
  arrays_shown x y h (a ∷ as') [] k = absurd k

  pub kind_shown : (t : TypeSpec ℕ) (u : TypeSpec Note) → TypedSpec s t u → kind_of u ≡ told (type_written s t)
  unfolding type_written
  kind_shown t u h = arrays_shown t.element u.element h.element t.arrays u.arrays h.arrays

-- where what is said of the written types says something of the noted ones
module _ (s : Scope) (P : Option StType → Type 0) (R : StType → Type 0) (means : (t : TypeSpec ℕ) → P (type_written s t) → R (told (type_written s t))) where
  shown : (t : TypeSpec ℕ) (u : TypeSpec Note) → TypedSpec s t u → P (type_written s t) → R (kind_of u)
  shown t u h k = subst R (sym (kind_shown s t u h)) (means t k)

  abbrev pub Shows : Variable → Type 0
  Shows v = R v.kind

  abbrev pub ShowsIfKept : Variable → Type 0
  ShowsIfKept v = is_kept v.sort ≡ true → R v.kind

  abbrev pub SaysIfKept : Written → Type 0
  SaysIfKept w = is_kept_written w ≡ true → P (type_written s w.item.kind)

  -- ---- fields

  group_shown : (g : FieldGroup ℕ) (h : FieldGroup Note) → TypedSpec s g.kind h.kind → (ns : List Name) → Every (λ (n : Name). P (type_written s g.kind)) ns → Every Shows (group_variables h ns)
  group_shown g h w [] k = tt
  group_shown g h w (n ∷ ns) k = (shown g.kind h.kind w k.0, group_shown g h w ns k.1)

  pub groups_shown : (gs : List (FieldGroup ℕ)) (hs : List (FieldGroup Note)) → Each (TypedGroup s) gs hs → Every (λ (g : FieldGroup ℕ). Every (λ (n : Name). P (type_written s g.kind)) g.names) gs → Every Shows (groups_in hs)
  groups_shown [] [] w k = tt
  groups_shown [] (h ∷ hs) w k = absurd w
  groups_shown (g ∷ gs) [] w k = absurd w
  groups_shown (g ∷ gs) (h ∷ hs) w k =
      every_append Shows (group_variables h h.names) (groups_in hs)
      (subst (λ ns. Every Shows (group_variables h ns)) (sym w.0.names) (group_shown g h w.0.kind g.names k.0))
      (groups_shown gs hs w.1 k.1)

  -- ---- variables of sections of one sort

  module _ (so : SectionSort) (kept : Bool) (only : is_kept so ≡ true → kept ≡ true) where
    abbrev Says : Item ℕ → Type 0
    Says x = Every (λ (n : Name). kept ≡ true → P (type_written s x.kind)) x.names

    item_shown : (x : Item ℕ) (y : Item Note) → TypedSpec s x.kind y.kind → (m : Marks) (ns : List Name) → Every (λ (n : Name). kept ≡ true → P (type_written s x.kind)) ns → Every ShowsIfKept (named_variables so y m ns)
    item_shown x y w m [] k = tt
    item_shown x y w m (n ∷ ns) k = (λ q. shown x.kind y.kind w (k.0 (only q)), item_shown x y w (record m { renamed_from = None }) ns k.1)

    items_shown : (xs : List (Item ℕ)) (ys : List (Item Note)) → Each (TypedItem s) xs ys → Every Says xs → Every ShowsIfKept (items_in so ys)
    items_shown [] [] w k = tt
    items_shown [] (y ∷ ys) w k = absurd w
    items_shown (x ∷ xs) [] w k = absurd w
    items_shown (x ∷ xs) (y ∷ ys) w k =
        every_append ShowsIfKept (named_variables so y y.marks y.names) (items_in so ys)
        (subst (λ ns. Every ShowsIfKept (named_variables so y y.marks ns)) (sym w.0.names) (item_shown x y w.0.kind y.marks x.names k.0))
        (items_shown xs ys w.1 k.1)

  -- ---- sections

  abbrev SaysIn : Bool → SectionSort → Item ℕ → Type 0
  SaysIn m so x = Every (λ (n : Name). (is_instance_sort so && not (m && not (is_external so))) ≡ true → P (type_written s x.kind)) x.names

  sorted_shown : (m : Bool) (so : SectionSort) (xs : List (Item ℕ)) (ys : List (Item Note)) → Each (TypedItem s) xs ys → Every (SaysIn m so) xs → Every ShowsIfKept (if m then [] else sorted_items so ys)
  sorted_shown true so xs ys w k = tt
  sorted_shown false sort.Var xs ys w k = items_shown sort.Var true (λ q. q) xs ys w k
  sorted_shown false sort.Input xs ys w k = items_shown sort.Input true (λ q. q) xs ys w k
  sorted_shown false sort.Output xs ys w k = items_shown sort.Output true (λ q. q) xs ys w k
  sorted_shown false sort.InOut xs ys w k = items_shown sort.InOut false (λ q. q) xs ys w k
  sorted_shown false sort.Temp xs ys w k = items_shown sort.Temp false (λ q. q) xs ys w k
  sorted_shown false sort.Global xs ys w k = items_shown sort.Global false (λ q. q) xs ys w k
  sorted_shown false sort.External xs ys w k = tt

  section_says : (x : Section ℕ) → Every SaysIfKept (section_written x) → Every (SaysIn (is_constant x.modifiers) x.sort) x.items
  section_says x h =
      every_means (λ item. Every SaysIfKept (item_written x item)) (SaysIn (is_constant x.modifiers) x.sort) (λ item k. every_map SaysIfKept _ item.names k) x.items
      (every_flat SaysIfKept (item_written x) x.items h)

  section_shown : (x : Section ℕ) (y : Section Note) → TypedSection s x y → Every SaysIfKept (section_written x) → Every ShowsIfKept (if is_constant y.modifiers then [] else sorted_items y.sort y.items)
  section_shown x y w h =
      subst (λ ms. Every ShowsIfKept (if is_constant ms then [] else sorted_items y.sort y.items)) (sym w.modifiers)
      (subst (λ so. Every ShowsIfKept (if is_constant x.modifiers then [] else sorted_items so y.items)) (sym w.sort)
      (sorted_shown (is_constant x.modifiers) x.sort x.items y.items w.items (section_says x h)))

  sections_shown : (xs : List (Section ℕ)) (ys : List (Section Note)) → Each (TypedSection s) xs ys → Every SaysIfKept (sections_written xs) → Every ShowsIfKept (variables_in ys)
  sections_shown [] [] w k = tt
  sections_shown [] (y ∷ ys) w k = absurd w
  sections_shown (x ∷ xs) [] w k = absurd w
  sections_shown (x ∷ xs) (y ∷ ys) w k =
      every_append ShowsIfKept (if is_constant y.modifiers then [] else sorted_items y.sort y.items) (variables_in ys)
      (section_shown x y w.0 (every_front SaysIfKept (section_written x) (sections_written xs) k))
      (sections_shown xs ys w.1 (every_back SaysIfKept (section_written x) (sections_written xs) k))

  -- the variables that an instance keeps
  pub kept_shown : (xs : List (Section ℕ)) (ys : List (Section Note)) → Each (TypedSection s) xs ys → Every SaysIfKept (sections_written xs) → Every Shows (those is_kept (variables_in ys))
  kept_shown xs ys w k = every_passing Shows (λ v. is_kept v.sort) (variables_in ys) (sections_shown xs ys w k)
