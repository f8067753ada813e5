-- What is told of types, globals and classes, by the declarations one by one.
use Rattle.std.proofs.Common.{◌≡◌, ℕ, zero, suc, ◌+◌, Bool, true, false, List, [], ◌∷◌, ◌++◌, map, length, Option, Some, None, refl, sym, ap, subst, ◌∙◌, arith}
use Rattle.std.specs.Prelude.{filter, flat_map, option_map, slice_get}
use Rattle.std.specs.Option.{is_some}
use Rattle.std.proofs.lemmas.List.{append-nil}
use Rattle.std.proofs.lemmas.List.Elements.{filter-append}
use Rattle.std.proofs.lemmas.Option.{slice_get-map}
use Rattle.st_types.specs.declared.st_type.StType.TheVariants as type
use Rattle.st_tree.specs.declared.declaration.ClassDecl.{ClassDecl}
use Rattle.st_tree.specs.declared.declaration.InterfaceDecl.{InterfaceDecl}
use Rattle.st_tree.specs.declared.declaration.Item.{Item}
use Rattle.st_tree.specs.declared.declaration.Section.{Section}
use Rattle.st_tree.specs.declared.declaration.TypeBody.{TypeBody}
use Rattle.st_tree.specs.declared.declaration.TypeBody.TheVariants as body
use Rattle.st_tree.specs.declared.declaration.TypeDecl.{TypeDecl}
use Rattle.st_tree.specs.declared.unit.Decl.{Decl}
use Rattle.st_tree.specs.declared.unit.Decl.TheVariants as declaration
use Rattle.st_rules.specs.declared.names.DeclaredType.{DeclaredType}
use Rattle.st_rules.specs.declared.names.DeclaredGlobal.{DeclaredGlobal}
use Rattle.st_rules.specs.declared.names.DeclaredGlobal.TheVariants as global
use Rattle.st_rules.specs.declared.names.DeclaredNames.{DeclaredNames}
use Rattle.st_rules.specs.Classes.{classes_in}
use Rattle.st_rules.specs.Numbered.{each_numbered}
use Rattle.st_unit_rules.specs.declared_names.Variables.{Written, item_written, section_written, sections_written, constant_target, constant_of, declared_with}
use Rattle.st_unit_rules.specs.declared_names.Declarations.{Declaration, an_entry, a_global, an_interface, a_class, a_function, a_program, a_configuration, globals_of_item, globals_of_section, configuration_globals, declarations_of, declarations, is_entry, is_class, is_interface}
use Rattle.st_unit_rules.specs.declared_names.UnitNames.{unit_scope, entry_kind, entries_declared, types_declared, class_declared, variables_declared, region_count, globals_from, names_from}
use Rattle.resolution_order.proofs.told_laws.Tells.{pick}
use Rattle.resolution_order.specs.told_places.PlaceLaws.{is_type, is_global_or_function, number_before, entry_can_be_told}
use Rattle.resolution_order.proofs.told_places.Places.{among, Paired, paired-append}

-- ---- globals among the declarations

abbrev pub IsGlobalOf : Declaration → Written → Type 0
IsGlobalOf (a_global g) w = g.written ≡ w
IsGlobalOf d w = ⊥

item-globals : (s : Section ℕ) (item : Item ℕ) (first : Bool) (ws : List Written) → Paired IsGlobalOf (globals_of_item s item first ws) ws
item-globals s item first [] = tt
item-globals s item first (w ∷ ws) = (refl, item-globals s item false ws)

paired-flat : {A X Y : Type 0} (R : X → Y → Type 0) (f : A → List X) (g : A → List Y) → ((x : A) → Paired R (f x) (g x)) → (xs : List A) → Paired R (flat_map f xs) (flat_map g xs)
paired-flat R f g h [] = tt
paired-flat R f g h (x ∷ xs) = paired-append R (f x) (g x) (flat_map f xs) (flat_map g xs) (h x) (paired-flat R f g h xs)

section-globals : (s : Section ℕ) → Paired IsGlobalOf (globals_of_section s) (section_written s)
section-globals s = paired-flat IsGlobalOf (λ item. globals_of_item s item true (item_written s item)) (item_written s) (λ item. item-globals s item true (item_written s item)) s.items

sections-globals : (ss : List (Section ℕ)) → Paired IsGlobalOf (flat_map globals_of_section ss) (sections_written ss)
sections-globals ss = paired-flat IsGlobalOf globals_of_section section_written section-globals ss

alone-globals : (s : Section ℕ) → Paired IsGlobalOf (globals_of_section s) (sections_written (s ∷ []))
alone-globals s = subst (λ ws. Paired IsGlobalOf (globals_of_section s) ws) (sym (append-nil (section_written s))) (section-globals s)

globals-pass : (gs : List Declaration) (ws : List Written) → Paired IsGlobalOf gs ws → filter is_global_or_function gs ≡ gs
globals-pass [] [] h = refl
globals-pass (a_global g ∷ gs) (w ∷ ws) h = ap (λ xs. a_global g ∷ xs) (globals-pass gs ws h.1)
globals-pass [] (w ∷ ws) h = absurd h
globals-pass (d ∷ gs) [] h = absurd h
globals-pass (an_entry t ∷ gs) (w ∷ ws) h = absurd h.0
globals-pass (an_interface i ∷ gs) (w ∷ ws) h = absurd h.0
globals-pass (a_class c ∷ gs) (w ∷ ws) h = absurd h.0
globals-pass (a_function f ∷ gs) (w ∷ ws) h = absurd h.0
globals-pass (a_program p ∷ gs) (w ∷ ws) h = absurd h.0
globals-pass (a_configuration c ∷ gs) (w ∷ ws) h = absurd h.0

no-class : (gs : List Declaration) (ws : List Written) → Paired IsGlobalOf gs ws → filter is_class gs ≡ []
no-class [] [] h = refl
no-class (a_global g ∷ gs) (w ∷ ws) h = no-class gs ws h.1
no-class [] (w ∷ ws) h = absurd h
no-class (d ∷ gs) [] h = absurd h
no-class (an_entry t ∷ gs) (w ∷ ws) h = absurd h.0
no-class (an_interface i ∷ gs) (w ∷ ws) h = absurd h.0
no-class (a_class c ∷ gs) (w ∷ ws) h = absurd h.0
no-class (a_function f ∷ gs) (w ∷ ws) h = absurd h.0
no-class (a_program p ∷ gs) (w ∷ ws) h = absurd h.0
no-class (a_configuration c ∷ gs) (w ∷ ws) h = absurd h.0

-- ---- classes

no-entry-class : (ts : List (TypeDecl ℕ)) → filter is_class (map an_entry ts) ≡ []
no-entry-class [] = refl
no-entry-class (t ∷ ts) = no-entry-class ts

behind : {X : Type 0} (test : X → Bool) (xs ys zs : List X) → filter test xs ≡ [] → filter test ys ≡ zs → filter test (xs ++ ys) ≡ zs
behind test xs ys zs h k = filter-append test xs ys ∙ ap (λ ms. ms ++ filter test ys) h ∙ k

pub classes-are : (ds : List (Decl ℕ)) → filter is_class (declarations ds) ≡ map a_class (classes_in ds)
unfolding declarations
classes-are [] = refl
classes-are (declaration.Types l ts ∷ ds) = behind is_class (map an_entry ts) (flat_map declarations_of ds) (map a_class (classes_in ds)) (no-entry-class ts) (classes-are ds)
classes-are (declaration.Globals s ∷ ds) = behind is_class (globals_of_section s) (flat_map declarations_of ds) (map a_class (classes_in ds)) (no-class (globals_of_section s) (section_written s) (section-globals s)) (classes-are ds)
classes-are (declaration.Interface i ∷ ds) = classes-are ds
classes-are (declaration.Class c ∷ ds) = ap (λ xs. a_class c ∷ xs) (classes-are ds)
classes-are (declaration.Function f ∷ ds) = classes-are ds
classes-are (declaration.Program p ∷ ds) = classes-are ds
classes-are (declaration.Configuration c ∷ ds) =
    behind is_class (flat_map globals_of_section (configuration_globals c)) (flat_map declarations_of ds) (map a_class (classes_in ds))
    (no-class (flat_map globals_of_section (configuration_globals c)) (sections_written (configuration_globals c)) (sections-globals (configuration_globals c))) (classes-are ds)

class-of : (o : Option (ClassDecl ℕ)) (d : ClassDecl ℕ) → option_map a_class o ≡ Some (a_class d) → o ≡ Some d
class-of None d h = absurd (cc)
class-of (Some c) d h = let e : c ≡ d = cc in ap Some e

pub class-among : (decls : List (Decl ℕ)) (place : ℕ) (d : ClassDecl ℕ) → slice_get (declarations decls) place ≡ Some (a_class d) → slice_get (classes_in decls) (number_before is_class (declarations decls) place) ≡ Some d
class-among decls place d h =
    let p = number_before is_class (declarations decls) place in
    class-of (slice_get (classes_in decls) p) d (sym (slice_get-map a_class (classes_in decls) p) ∙ sym (ap (λ xs. slice_get xs p) (classes-are decls)) ∙ among is_class (declarations decls) place (a_class d) h refl)

pub class-number : (decls : List (Decl ℕ)) (c : ℕ) (d : ClassDecl ℕ) → slice_get (classes_in decls) c ≡ Some d → slice_get (filter is_class (declarations decls)) c ≡ Some (a_class d)
class-number decls c d h = ap (λ xs. slice_get xs c) (classes-are decls) ∙ slice_get-map a_class (classes_in decls) c ∙ ap (λ o. option_map a_class o) h

true-or-false : (b : Bool) → b ≡ true → b ≡ false → ⊥
true-or-false b t f = cc

module _ (decls : List (Decl ℕ)) (a : DeclaredNames) where
  -- ---- types

  pub type_of_declaration : ℕ → ℕ → ℕ → Declaration → DeclaredType
  type_of_declaration n c i (an_entry t) = record { name = t.name.text; kind = entry_kind decls a n t.body }
  type_of_declaration n c i (a_class d) = record { name = d.name.text; kind = Some (type.Instance c) }
  type_of_declaration n c i (an_interface d) = record { name = d.name.text; kind = Some (type.Interface i) }
  type_of_declaration n c i d = record { name = []; kind = None }

  pub kind-of-entry : (n c i : ℕ) (t : TypeDecl ℕ) → (type_of_declaration n c i (an_entry t)).kind ≡ entry_kind decls a n t.body
  unfolding type_of_declaration
  kind-of-entry n c i t = refl

  pub kind-of-class : (n c i : ℕ) (d : ClassDecl ℕ) → (type_of_declaration n c i (a_class d)).kind ≡ Some (type.Instance c)
  unfolding type_of_declaration
  kind-of-class n c i d = refl

  pub kind-of-interface : (n c i : ℕ) (d : InterfaceDecl ℕ) → (type_of_declaration n c i (an_interface d)).kind ≡ Some (type.Interface i)
  unfolding type_of_declaration
  kind-of-interface n c i d = refl

  abbrev flat : ℕ → ℕ → ℕ → List Declaration → List DeclaredType
  flat n c i [] = []
  flat n c i (an_entry t ∷ ds) = type_of_declaration n c i (an_entry t) ∷ flat (suc n) c i ds
  flat n c i (a_class d ∷ ds) = type_of_declaration n c i (a_class d) ∷ flat n (suc c) i ds
  flat n c i (an_interface d ∷ ds) = type_of_declaration n c i (an_interface d) ∷ flat n c (suc i) ds
  flat n c i (d ∷ ds) = flat n c i ds

  flat-entries : (n c i : ℕ) (ts : List (TypeDecl ℕ)) (ds : List Declaration) → entries_declared decls a n ts ++ flat (n + length ts) c i ds ≡ flat n c i (map an_entry ts ++ ds)
  unfolding type_of_declaration
  flat-entries n c i [] ds = let e : n + 0 ≡ n = omega arith in ap (λ m. flat m c i ds) e
  flat-entries n c i (t ∷ ts) ds =
      let e : n + suc (length ts) ≡ suc n + length ts = omega arith in
      ap (λ xs. type_of_declaration n c i (an_entry t) ∷ xs) (ap (λ m. entries_declared decls a (suc n) ts ++ flat m c i ds) e ∙ flat-entries (suc n) c i ts ds)

  flat-globals : (n c i : ℕ) (gs : List Declaration) (ws : List Written) (ds : List Declaration) → Paired IsGlobalOf gs ws → flat n c i (gs ++ ds) ≡ flat n c i ds
  flat-globals n c i [] [] ds h = refl
  flat-globals n c i (a_global g ∷ gs) (w ∷ ws) ds h = flat-globals n c i gs ws ds h.1
  flat-globals n c i [] (w ∷ ws) ds h = absurd h
  flat-globals n c i (d ∷ gs) [] ds h = absurd h
  flat-globals n c i (an_entry t ∷ gs) (w ∷ ws) ds h = absurd h.0
  flat-globals n c i (an_interface x ∷ gs) (w ∷ ws) ds h = absurd h.0
  flat-globals n c i (a_class x ∷ gs) (w ∷ ws) ds h = absurd h.0
  flat-globals n c i (a_function f ∷ gs) (w ∷ ws) ds h = absurd h.0
  flat-globals n c i (a_program p ∷ gs) (w ∷ ws) ds h = absurd h.0
  flat-globals n c i (a_configuration x ∷ gs) (w ∷ ws) ds h = absurd h.0

  types-flat : (n c i : ℕ) (ds : List (Decl ℕ)) → types_declared decls a n c i ds ≡ flat n c i (declarations ds)
  unfolding declarations type_of_declaration
  types-flat n c i [] = refl
  types-flat n c i (declaration.Types l ts ∷ ds) = ap (λ xs. entries_declared decls a n ts ++ xs) (types-flat (n + length ts) c i ds) ∙ flat-entries n c i ts (flat_map declarations_of ds)
  types-flat n c i (declaration.Globals s ∷ ds) = types-flat n c i ds ∙ sym (flat-globals n c i (globals_of_section s) (section_written s) (flat_map declarations_of ds) (section-globals s))
  types-flat n c i (declaration.Interface d ∷ ds) = ap (λ xs. type_of_declaration n c i (an_interface d) ∷ xs) (types-flat n c (suc i) ds)
  types-flat n c i (declaration.Class d ∷ ds) = ap (λ xs. type_of_declaration n c i (a_class d) ∷ xs) (types-flat n (suc c) i ds)
  types-flat n c i (declaration.Function f ∷ ds) = types-flat n c i ds
  types-flat n c i (declaration.Program p ∷ ds) = types-flat n c i ds
  types-flat n c i (declaration.Configuration x ∷ ds) =
      types-flat n c i ds ∙ sym (flat-globals n c i (flat_map globals_of_section (configuration_globals x)) (sections_written (configuration_globals x)) (flat_map declarations_of ds) (sections-globals (configuration_globals x)))

  same-type : (n m c k i j : ℕ) (d e : Declaration) → n ≡ m → c ≡ k → i ≡ j → Some d ≡ Some e → Some (type_of_declaration n c i d) ≡ Some (type_of_declaration m k j e)
  same-type n m c k i j d e p q r s = let t : d ≡ e = cc in cc

  other : (d e : Declaration) → Some d ≡ Some e → is_type d ≡ false → is_type e ≡ true → ⊥
  other d e s f t = let u : d ≡ e = cc in let v : is_type d ≡ is_type e = ap is_type u in cc

  type-flat-at : (n c i : ℕ) (ds : List Declaration) (place : ℕ) (d : Declaration) (m k j : ℕ) → slice_get ds place ≡ Some d → is_type d ≡ true
      → m ≡ n + number_before is_entry ds place → k ≡ c + number_before is_class ds place → j ≡ i + number_before is_interface ds place
      → slice_get (flat n c i ds) (number_before is_type ds place) ≡ Some (type_of_declaration m k j d)
  type-flat-at n c i [] place d m k j h t p q r = absurd (cc)
  type-flat-at n c i (an_entry x ∷ ds) zero d m k j h t p q r = same-type n m c k i j (an_entry x) d (omega arith) (omega arith) (omega arith) h
  type-flat-at n c i (a_class x ∷ ds) zero d m k j h t p q r = same-type n m c k i j (a_class x) d (omega arith) (omega arith) (omega arith) h
  type-flat-at n c i (an_interface x ∷ ds) zero d m k j h t p q r = same-type n m c k i j (an_interface x) d (omega arith) (omega arith) (omega arith) h
  type-flat-at n c i (a_global x ∷ ds) zero d m k j h t p q r = absurd (other (a_global x) d h refl t)
  type-flat-at n c i (a_function x ∷ ds) zero d m k j h t p q r = absurd (other (a_function x) d h refl t)
  type-flat-at n c i (a_program x ∷ ds) zero d m k j h t p q r = absurd (other (a_program x) d h refl t)
  type-flat-at n c i (a_configuration x ∷ ds) zero d m k j h t p q r = absurd (other (a_configuration x) d h refl t)
  type-flat-at n c i (an_entry x ∷ ds) (suc place) d m k j h t p q r = type-flat-at (suc n) c i ds place d m k j h t (omega arith) q r
  type-flat-at n c i (a_class x ∷ ds) (suc place) d m k j h t p q r = type-flat-at n (suc c) i ds place d m k j h t p (omega arith) r
  type-flat-at n c i (an_interface x ∷ ds) (suc place) d m k j h t p q r = type-flat-at n c (suc i) ds place d m k j h t p q (omega arith)
  type-flat-at n c i (a_global x ∷ ds) (suc place) d m k j h t p q r = type-flat-at n c i ds place d m k j h t p q r
  type-flat-at n c i (a_function x ∷ ds) (suc place) d m k j h t p q r = type-flat-at n c i ds place d m k j h t p q r
  type-flat-at n c i (a_program x ∷ ds) (suc place) d m k j h t p q r = type-flat-at n c i ds place d m k j h t p q r
  type-flat-at n c i (a_configuration x ∷ ds) (suc place) d m k j h t p q r = type-flat-at n c i ds place d m k j h t p q r

  -- the type of the declaration at a place stands behind those of the types before it
  pub type-at : (place : ℕ) (d : Declaration) → slice_get (declarations decls) place ≡ Some d → is_type d ≡ true
      → slice_get (names_from decls a).types (number_before is_type (declarations decls) place)
      ≡ Some (type_of_declaration (number_before is_entry (declarations decls) place) (number_before is_class (declarations decls) place) (number_before is_interface (declarations decls) place) d)
  unfolding names_from
  type-at place d h t =
      ap (λ ts. slice_get ts (number_before is_type (declarations decls) place)) (types-flat 0 0 0 decls)
      ∙ type-flat-at 0 0 0 (declarations decls) place d _ _ _ h t (omega arith) (omega arith) (omega arith)

  abbrev pub can_be_told : Declaration → Bool
  can_be_told (an_entry t) = entry_can_be_told decls a t.body
  can_be_told (a_class d) = true
  can_be_told (an_interface d) = true
  can_be_told d = false

  abbrev pub TypeLike : Declaration → DeclaredType → Type 0
  TypeLike d t = is_some t.kind ≡ true → can_be_told d ≡ true

  entry-like : (n : ℕ) (b : TypeBody ℕ) → is_some (entry_kind decls a n b) ≡ true → entry_can_be_told decls a b ≡ true
  entry-like n (body.Alias t) h = h
  entry-like n (body.Enumeration ns) h = refl
  entry-like n (body.Structure gs) h = refl

  flat-like : (n c i : ℕ) (ds : List Declaration) → Paired TypeLike (filter is_type ds) (flat n c i ds)
  unfolding type_of_declaration
  flat-like n c i [] = tt
  flat-like n c i (an_entry t ∷ ds) = ((λ h. entry-like n t.body h), flat-like (suc n) c i ds)
  flat-like n c i (a_class d ∷ ds) = ((λ h. refl), flat-like n (suc c) i ds)
  flat-like n c i (an_interface d ∷ ds) = ((λ h. refl), flat-like n c (suc i) ds)
  flat-like n c i (a_global x ∷ ds) = flat-like n c i ds
  flat-like n c i (a_function x ∷ ds) = flat-like n c i ds
  flat-like n c i (a_program x ∷ ds) = flat-like n c i ds
  flat-like n c i (a_configuration x ∷ ds) = flat-like n c i ds

  pub types-like : Paired TypeLike (filter is_type (declarations decls)) (names_from decls a).types
  unfolding names_from
  types-like = subst (λ ts. Paired TypeLike (filter is_type (declarations decls)) ts) (sym (types-flat 0 0 0 decls)) (flat-like 0 0 0 (declarations decls))

  -- ---- globals

  abbrev pub GlobalLike : Declaration → DeclaredGlobal → Type 0
  GlobalLike (a_global g) (global.Variable v) =
      (v.constant ≡ (g.written).constant)
      × ((g.written).constant ≡ true → v ≡ declared_with (unit_scope decls a) (constant_target (constant_of (unit_scope decls a) g.written)) g.written)
  GlobalLike (a_function f) (global.Function k r) = Unit {0}
  GlobalLike d g = ⊥

  variables-like : (r : ℕ) (gs : List Declaration) (ws : List Written) → Paired IsGlobalOf gs ws → Paired GlobalLike gs (variables_declared decls a r ws)
  variables-like r [] [] h = tt
  variables-like r (a_global g ∷ gs) (w ∷ ws) h =
      subst (λ x. Paired GlobalLike (a_global g ∷ gs) (variables_declared decls a r (x ∷ ws))) h.0
      (pick (Paired GlobalLike (a_global g ∷ gs)) (g.written).constant _ _
      (λ e. ((refl, (λ t. refl)), variables-like r gs ws h.1))
      (λ e. ((refl, (λ t. absurd (true-or-false (g.written).constant t e))), variables-like (suc r) gs ws h.1)))
  variables-like r [] (w ∷ ws) h = absurd h
  variables-like r (d ∷ gs) [] h = absurd h
  variables-like r (an_entry t ∷ gs) (w ∷ ws) h = absurd h.0
  variables-like r (an_interface i ∷ gs) (w ∷ ws) h = absurd h.0
  variables-like r (a_class c ∷ gs) (w ∷ ws) h = absurd h.0
  variables-like r (a_function f ∷ gs) (w ∷ ws) h = absurd h.0
  variables-like r (a_program p ∷ gs) (w ∷ ws) h = absurd h.0
  variables-like r (a_configuration c ∷ gs) (w ∷ ws) h = absurd h.0

  filtered : (gs ds : List Declaration) (hs : List DeclaredGlobal) (ks : List DeclaredGlobal) → filter is_global_or_function gs ≡ gs → Paired GlobalLike gs hs → Paired GlobalLike (filter is_global_or_function ds) ks
      → Paired GlobalLike (filter is_global_or_function (gs ++ ds)) (hs ++ ks)
  filtered gs ds hs ks e h k =
      subst (λ xs. Paired GlobalLike xs (hs ++ ks)) (sym (filter-append is_global_or_function gs ds ∙ ap (λ xs. xs ++ filter is_global_or_function ds) e))
      (paired-append GlobalLike gs hs (filter is_global_or_function ds) ks h k)

  no-global : (ts : List (TypeDecl ℕ)) (ds : List Declaration) → filter is_global_or_function (map an_entry ts ++ ds) ≡ filter is_global_or_function ds
  no-global [] ds = refl
  no-global (t ∷ ts) ds = no-global ts ds

  globals-like-from : (r k : ℕ) (ds : List (Decl ℕ)) → Paired GlobalLike (filter is_global_or_function (declarations ds)) (globals_from decls a r k ds)
  unfolding declarations
  globals-like-from r k [] = tt
  globals-like-from r k (declaration.Types l ts ∷ ds) = subst (λ xs. Paired GlobalLike xs (globals_from decls a r k ds)) (sym (no-global ts (flat_map declarations_of ds))) (globals-like-from r k ds)
  globals-like-from r k (declaration.Globals s ∷ ds) =
      filtered (globals_of_section s) (flat_map declarations_of ds) (variables_declared decls a r (sections_written (s ∷ []))) (globals_from decls a (r + region_count decls a (sections_written (s ∷ []))) k ds)
      (globals-pass (globals_of_section s) (section_written s) (section-globals s)) (variables-like r (globals_of_section s) (sections_written (s ∷ [])) (alone-globals s))
      (globals-like-from (r + region_count decls a (sections_written (s ∷ []))) k ds)
  globals-like-from r k (declaration.Interface d ∷ ds) = globals-like-from r k ds
  globals-like-from r k (declaration.Class d ∷ ds) = globals-like-from r k ds
  globals-like-from r k (declaration.Function f ∷ ds) = (tt, globals-like-from r (suc k) ds)
  globals-like-from r k (declaration.Program p ∷ ds) = globals-like-from r k ds
  globals-like-from r k (declaration.Configuration c ∷ ds) =
      let gs = flat_map globals_of_section (configuration_globals c) in
      let ws = sections_written (configuration_globals c) in
      filtered gs (flat_map declarations_of ds) (variables_declared decls a r ws) (globals_from decls a (r + (region_count decls a ws + length c.instances)) k ds)
      (globals-pass gs ws (sections-globals (configuration_globals c))) (variables-like r gs ws (sections-globals (configuration_globals c)))
      (globals-like-from (r + (region_count decls a ws + length c.instances)) k ds)

  pub globals-like : Paired GlobalLike (filter is_global_or_function (declarations decls)) (names_from decls a).globals
  unfolding names_from
  globals-like = globals-like-from 0 0 decls

  -- ---- classes

  class-numbered : (n c m : ℕ) (ds : List (ClassDecl ℕ)) (d : ClassDecl ℕ) → slice_get ds c ≡ Some d → m ≡ n + c → slice_get (each_numbered (λ c d. class_declared decls a c d ∷ []) n ds) c ≡ Some (class_declared decls a m d)
  class-numbered n c m [] d h e = absurd (cc)
  class-numbered n zero m (x ∷ ds) d h e =
      let f : n ≡ m = omega arith in
      let g : x ≡ d = cc in
      ap (λ k. Some (class_declared decls a k x)) f ∙ ap (λ y. Some (class_declared decls a m y)) g
  class-numbered n (suc c) m (x ∷ ds) d h e = class-numbered (suc n) c m ds d h (omega arith)

  pub class-at : (place : ℕ) (d : ClassDecl ℕ) → slice_get (declarations decls) place ≡ Some (a_class d)
      → slice_get (names_from decls a).classes (number_before is_class (declarations decls) place) ≡ Some (class_declared decls a (number_before is_class (declarations decls) place) d)
  unfolding names_from
  class-at place d h = class-numbered 0 (number_before is_class (declarations decls) place) (number_before is_class (declarations decls) place) (classes_in decls) d (class-among decls place d h) (omega arith)
