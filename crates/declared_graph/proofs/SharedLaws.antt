-- Names of one item stand together, the first of them marked so, and need the same.
use Rattle.std.proofs.Common.{◌≡◌, ℕ, Bool, true, false, List, [], ◌∷◌, ◌++◌, Option, Some, None, map, refl, sym, ap, ◌∙◌, subst}
use Rattle.std.specs.Prelude.{flat_map, option_map, if◌then◌else◌}
use Rattle.st_tree.specs.declared.declaration.Item.{Item}
use Rattle.st_tree.specs.declared.declaration.Section.{Section}
use Rattle.st_tree.specs.declared.name.Name.{Name}
use Rattle.st_tree.specs.declared.unit.Decl.{Decl}
use Rattle.st_tree.specs.declared.unit.Decl.TheVariants as declaration
use Rattle.st_rules.proofs.Booleans.{true≢false}
use Rattle.st_unit_rules.specs.declared_names.Variables.{Written, item_written}
use Rattle.st_unit_rules.specs.declared_names.Declarations.{Declaration, Global, an_entry, a_global, a_configuration, globals_of_item, globals_of_section, declarations_of, declarations, configuration_globals}
use Rattle.st_unit_rules.specs.Cycles.{needed, inner_needed}
use Rattle.st_unit_rules.specs.declaration_list.Written.{written_in, names_from, names_in_item, names_in_section, names_in_sections}
use Rattle.declared_graph.specs.Private.Shared.{Shares, is_first}

module _ {X : Type 0} (first : X → Bool) (Same : X → X → Type 0) where
  -- an item is the first of those that share, or shares with the one before it
  data Joins (before : Option X) (x : X) : Type 0 where
    opens : first x ≡ true → Joins before x
    joins : (b : X) → before ≡ Some b → Same b x → Joins before x

  abbrev Follows : Option X → List X → Type 0
  Follows before [] = Unit {0}
  Follows before (x ∷ xs) = Joins before x × Follows (Some x) xs

  -- they follow whatever stands before them
  record Open (xs : List X) : Type 0 where
    follows : (before : Option X) → Follows before xs

  follow_append : (xs ys : List X) (before : Option X) → Follows before xs → Open ys → Follows before (xs ++ ys)
  follow_append [] ys before f o = o.follows before
  follow_append (x ∷ xs) ys before f o = (f.0, follow_append xs ys (Some x) f.1 o)

  open_append : (xs ys : List X) → Open xs → Open ys → Open (xs ++ ys)
  open_append xs ys f g = record { follows = λ before. follow_append xs ys before (f.follows before) g }

  open_none : Open []
  open_none = record { follows = λ before. tt }

  open_one : (x : X) → first x ≡ true → Open (x ∷ [])
  open_one x e = record { follows = λ before. (opens e, tt) }

  open_flat : {Y : Type 0} (g : Y → List X) → ((y : Y) → Open (g y)) → (ys : List Y) → Open (flat_map g ys)
  open_flat g h [] = open_none
  open_flat g h (y ∷ ys) = open_append (g y) (flat_map g ys) (h y) (open_flat g h ys)

  open_map : {Y : Type 0} (g : Y → X) → ((y : Y) → first (g y) ≡ true) → (ys : List Y) → Open (map g ys)
  open_map g h [] = open_none
  open_map g h (y ∷ ys) = open_append (g y ∷ []) (map g ys) (open_one (g y) (h y)) (open_map g h ys)

  -- so they share what any function gives that gives the same to those that share
  module _ {Z : Type 0} (v : Z → X) (f : X → List ℕ) (even : (a b : X) → Same a b → f a ≡ f b) where
    shared : (zs : List Z) (before : Option X) → Follows before (map v zs) → Shares (option_map f before) (map (λ z. first (v z)) zs) (map (λ z. if first (v z) then f (v z) else []) zs) (map (λ z. f (v z)) zs)
    shared [] before h = tt
    shared (z ∷ zs) before h = of (first (v z)) refl (shared zs (Some (v z)) h.1)
      where
        joined : first (v z) ≡ false → Joins before (v z) → option_map f before ≡ Some (f (v z))
        joined e (opens t) = absurd (true≢false (sym t ∙ e))
        joined e (joins b is same) = ap (option_map f) is ∙ ap Some (even b (v z) same)

        of : (b : Bool) → first (v z) ≡ b → Shares (Some (f (v z))) (map (λ z. first (v z)) zs) (map (λ z. if first (v z) then f (v z) else []) zs) (map (λ z. f (v z)) zs)
            → Shares (option_map f before) (b ∷ map (λ z. first (v z)) zs) ((if b then f (v z) else []) ∷ map (λ z. if first (v z) then f (v z) else []) zs) (f (v z) ∷ map (λ z. f (v z)) zs)
        of true e rest = (refl, rest)
        of false e rest = (joined e h.0, rest)

-- ---- declarations

SameNeeds : Declaration → Declaration → Type 0
SameNeeds a b = (us : List Declaration) → needed us (Some a) ≡ needed us (Some b)

one_global : Section ℕ → Item ℕ → Bool → Name → Declaration
one_global s item first n = a_global (record { section = s; item = item; written = written_in s item n; first = first })

item_follows : (s : Section ℕ) (item : Item ℕ) (ns : List Name) (n : Name) (first : Bool) → Follows is_first SameNeeds (Some (one_global s item first n)) (globals_of_item s item false (map (written_in s item) ns))
unfolding SameNeeds one_global
item_follows s item [] n first = tt
item_follows s item (m ∷ ns) n first = (joins (one_global s item first n) refl (λ us. refl), item_follows s item ns m false)

item_opens : (s : Section ℕ) (item : Item ℕ) (ns : List Name) → Open is_first SameNeeds (globals_of_item s item true (map (written_in s item) ns))
unfolding SameNeeds one_global
item_opens s item [] = open_none is_first SameNeeds
item_opens s item (n ∷ ns) = record { follows = λ before. (opens refl, item_follows s item ns n true) }

section_opens : (s : Section ℕ) → Open is_first SameNeeds (globals_of_section s)
section_opens s = open_flat is_first SameNeeds (λ item. globals_of_item s item true (item_written s item)) (λ item. item_opens s item item.names) s.items

declaration_opens : (d : Decl ℕ) → Open is_first SameNeeds (declarations_of d)
declaration_opens (declaration.Types l ts) = open_map is_first SameNeeds an_entry (λ t. refl) ts
declaration_opens (declaration.Globals s) = section_opens s
declaration_opens (declaration.Interface i) = open_one is_first SameNeeds _ refl
declaration_opens (declaration.Class c) = open_one is_first SameNeeds _ refl
declaration_opens (declaration.Function f) = open_one is_first SameNeeds _ refl
declaration_opens (declaration.Program p) = open_one is_first SameNeeds _ refl
declaration_opens (declaration.Configuration c) =
    open_append is_first SameNeeds (a_configuration c ∷ []) (flat_map globals_of_section (configuration_globals c)) (open_one is_first SameNeeds (a_configuration c) refl)
    (open_flat is_first SameNeeds globals_of_section section_opens (configuration_globals c))

unit_follows : (decls : List (Decl ℕ)) → Follows is_first SameNeeds None (declarations decls)
unfolding declarations
unit_follows decls = (open_flat is_first SameNeeds declarations_of declaration_opens decls).follows None

pub unit_shares : {Z : Type 0} (v : Z → Declaration) (zs : List Z) (us : List Declaration) (decls : List (Decl ℕ)) → map v zs ≡ declarations decls
    → Shares None (map (λ z. is_first (v z)) zs) (map (λ z. if is_first (v z) then needed us (Some (v z)) else []) zs) (map (λ z. needed us (Some (v z))) zs)
unfolding SameNeeds
unit_shares v zs us decls e =
    shared is_first SameNeeds v (λ d. needed us (Some d)) (λ a b h. h us) zs None (subst (λ (ds : List Declaration). Follows is_first SameNeeds None ds) (sym e) (unit_follows decls))

-- ---- variables of a class or a routine

is_first_name : Global → Bool
is_first_name g = g.first

SameInner : Global → Global → Type 0
SameInner a b = (us : List Written) → inner_needed us (Some a.written) ≡ inner_needed us (Some b.written)

one_name : Section ℕ → Item ℕ → Bool → Name → Global
one_name s item first n = record { section = s; item = item; written = written_in s item n; first = first }

name_follows : (s : Section ℕ) (item : Item ℕ) (ns : List Name) (n : Name) (first : Bool) → Follows is_first_name SameInner (Some (one_name s item first n)) (names_from s item false (map (written_in s item) ns))
unfolding SameInner one_name is_first_name
name_follows s item [] n first = tt
name_follows s item (m ∷ ns) n first = (joins (one_name s item first n) refl (λ us. refl), name_follows s item ns m false)

name_opens : (s : Section ℕ) (item : Item ℕ) (ns : List Name) → Open is_first_name SameInner (names_from s item true (map (written_in s item) ns))
unfolding SameInner one_name is_first_name
name_opens s item [] = open_none is_first_name SameInner
name_opens s item (n ∷ ns) = record { follows = λ before. (opens refl, name_follows s item ns n true) }

names_follow : (ss : List (Section ℕ)) → Follows is_first_name SameInner None (names_in_sections ss)
names_follow ss = (open_flat is_first_name SameInner names_in_section (λ s. open_flat is_first_name SameInner (names_in_item s) (λ item. name_opens s item item.names) s.items) ss).follows None

pub names_share : {Z : Type 0} (v : Z → Global) (zs : List Z) (us : List Written) (ss : List (Section ℕ)) → map v zs ≡ names_in_sections ss
    → Shares None (map (λ z. (v z).first) zs) (map (λ z. if (v z).first then inner_needed us (Some (v z).written) else []) zs) (map (λ z. inner_needed us (Some (v z).written)) zs)
unfolding SameInner is_first_name
names_share v zs us ss e =
    shared is_first_name SameInner v (λ g. inner_needed us (Some g.written)) (λ a b h. h us) zs None (subst (λ (gs : List Global). Follows is_first_name SameInner None gs) (sym e) (names_follow ss))
