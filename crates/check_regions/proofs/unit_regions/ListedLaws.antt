-- Regions, declaration by declaration.
use Rattle.std.proofs.Common.{◌≡◌, ℕ, ◌+◌, ◌<◌, ◌≤◌, Bool, true, false, List, [], ◌∷◌, ◌++◌, drop, length, get_or, map, refl, sym, ap, ◌∙◌, append-nil}
use Rattle.std.specs.Prelude.{flat_map, not, ◌&&◌, ◌||◌}
use Rattle.std.specs.List.{list_any}
use Rattle.std.proofs.lemmas.List.Folds.{list_any-append}
use Rattle.st_tree.specs.declared.declaration.Item.{Item}
use Rattle.st_tree.specs.declared.declaration.Section.{Section}
use Rattle.st_tree.specs.declared.declaration.TypeDecl.{TypeDecl}
use Rattle.st_tree.specs.declared.unit.Decl.{Decl}
use Rattle.st_tree.specs.declared.unit.Decl.TheVariants as declaration
use Rattle.st_rules.proofs.ListLaws.{drop-at, drop-end}
use Rattle.st_unit_rules.specs.declared_names.Declarations.{Declaration, Region, an_entry, declarations, declarations_of, globals_of_item, globals_of_section, instances_of, is_configuration, is_first_configuration, regions_of}
use Rattle.st_unit_rules.specs.declared_names.Variables.{Written, item_written}
use Rattle.st_unit_rules.specs.Checked.{regions_from, unit_regions}
use Rattle.check_regions.specs.declared.unit_regions.listed.UnitRegion.{UnitRegion}
use Rattle.check_regions.specs.unit_regions.Listed.{region_as}
use Rattle.check_regions.specs.unit_regions.Private.Listed.{declares_configuration}

assoc : {A : Type 0} (ms ks bs rs : List A) → ms ++ (ks ++ bs) ++ rs ≡ ms ++ (ks ++ (bs ++ rs))
assoc ms ks bs rs = two ms (ks ++ bs) rs ∙ ap (λ xs. ms ++ xs) (two ks bs rs)
  where
    two : {A : Type 0} (xs ys zs : List A) → xs ++ ys ++ zs ≡ xs ++ (ys ++ zs)
    two [] ys zs = refl
    two (x ∷ xs) ys zs = ap (λ ws. x ∷ ws) (two xs ys zs)

-- ---- configurations

no_entries : (ts : List (TypeDecl ℕ)) → list_any is_configuration (map an_entry ts) ≡ false
no_entries [] = refl
no_entries (t ∷ ts) = no_entries ts

no_item : (s : Section ℕ) (item : Item ℕ) (first : Bool) (ws : List Written) → list_any is_configuration (globals_of_item s item first ws) ≡ false
no_item s item first [] = refl
no_item s item first (w ∷ ws) = no_item s item false ws

no_items : (s : Section ℕ) (items : List (Item ℕ)) → list_any is_configuration (flat_map (λ item. globals_of_item s item true (item_written s item)) items) ≡ false
no_items s [] = refl
no_items s (x ∷ xs) = list_any-append is_configuration (globals_of_item s x true (item_written s x)) _ ∙ ap (λ b. b || list_any is_configuration (flat_map (λ item. globals_of_item s item true (item_written s item)) xs)) (no_item s x true (item_written s x)) ∙ no_items s xs

pub configured : (d : Decl ℕ) → list_any is_configuration (declarations_of d) ≡ declares_configuration d
configured (declaration.Types l ts) = no_entries ts
configured (declaration.Globals s) = no_items s s.items
configured (declaration.Interface i) = refl
configured (declaration.Class c) = refl
configured (declaration.Function f) = refl
configured (declaration.Program p) = refl
configured (declaration.Configuration c) = refl

still_first : (earlier : List Declaration) (d : Decl ℕ) → is_first_configuration (earlier ++ declarations_of d) ≡ (is_first_configuration earlier && not (declares_configuration d))
still_first earlier d = ap not (list_any-append is_configuration earlier (declarations_of d)) ∙ ap (λ b. not (list_any is_configuration earlier || b)) (configured d) ∙ by (list_any is_configuration earlier) (declares_configuration d)
  where
    by : (a b : Bool) → not (a || b) ≡ (not a && not b)
    by true b = refl
    by false b = refl

-- ---- the loop over the declarations of the text

-- the regions that were listed, and those of what is left, are all
pub record Listed (decls : List (Decl ℕ)) (list : List UnitRegion) (i : ℕ) (first : Bool) : Type 0 where
  pub earlier : List Declaration
  pub first-is : first ≡ is_first_configuration earlier
  pub rest : map region_as list ++ regions_from decls earlier (drop i decls) ≡ unit_regions decls

pub begun : (decls : List (Decl ℕ)) → Listed decls [] 0 true
begun decls = record { earlier = []; first-is = refl; rest = refl }

pub next : (decls : List (Decl ℕ)) (list more : List UnitRegion) (i : ℕ) (first after : Bool) (d : Decl ℕ) → i < length decls → d ≡ get_or decls i d →
    Listed decls list i first →
    map region_as more ≡ map region_as list ++ (flat_map regions_of (declarations_of d) ++ instances_of first d) →
    after ≡ (first && not (declares_configuration d)) →
    Listed decls more (i + 1) after
next decls list more i first after d l e t new is = record {
  earlier = t.earlier ++ declarations_of d;
  first-is = is ∙ ap (λ b. b && not (declares_configuration d)) t.first-is ∙ sym (still_first t.earlier d);
  rest =
      ap (λ xs. xs ++ behind) (new ∙ ap (λ b. map region_as list ++ (own ++ instances_of b d)) t.first-is)
      ∙ assoc (map region_as list) own (instances_of (is_first_configuration t.earlier) d) behind
      ∙ ap (λ ds. map region_as list ++ regions_from decls t.earlier ds) (sym (drop-at decls i d l e))
      ∙ t.rest;
}
  where
    own : List Region
    own = flat_map regions_of (declarations_of d)

    behind : List Region
    behind = regions_from decls (t.earlier ++ declarations_of d) (drop (i + 1) decls)

pub ended : (decls : List (Decl ℕ)) (list : List UnitRegion) (i : ℕ) (first : Bool) → length decls ≤ i → Listed decls list i first → map region_as list ≡ unit_regions decls
ended decls list i first l t = sym (append-nil (map region_as list)) ∙ ap (λ ds. map region_as list ++ regions_from decls t.earlier ds) (sym (drop-end decls i l)) ∙ t.rest

-- ---- one declaration of the text

one_is : (d : Decl ℕ) → declarations (d ∷ []) ≡ declarations_of d
unfolding declarations
one_is d = append-nil (declarations_of d)

pub single : (xs : List Declaration) (d : Decl ℕ) (ds : List (Decl ℕ)) → xs ≡ declarations ds → ds ≡ d ∷ [] → xs ≡ declarations_of d
single xs d ds e f = e ∙ ap declarations f ∙ one_is d

pub joined : {A : Type 0} (new mid old ks bs : List A) → new ≡ mid ++ bs → mid ≡ old ++ ks → new ≡ old ++ (ks ++ bs)
joined new mid old ks bs e f = e ∙ ap (λ xs. xs ++ bs) f ∙ two old ks bs
  where
    two : {A : Type 0} (xs ys zs : List A) → xs ++ ys ++ zs ≡ xs ++ (ys ++ zs)
    two [] ys zs = refl
    two (x ∷ xs) ys zs = ap (λ ws. x ∷ ws) (two xs ys zs)
