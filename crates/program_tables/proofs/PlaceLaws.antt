-- What a table of places finds is the first of the name that passes.
use Rattle.std.proofs.Common.{◌≡◌, ◌<◌, ℕ, zero, suc, ◌+◌, Bool, true, false, List, [], ◌∷◌, ◌++◌, Option, Some, None, refl, sym, ap, ◌∙◌, subst, arith, add-one, map, take, length, get_or}
use Rattle.std.specs.Prelude.{◌&&◌, if◌then◌else◌, option_map, option_and_then, slice_get, filter_map}
use Rattle.std.specs.List.{cons_option}
use Rattle.plc_text.specs.Words.{same}
use Rattle.st_tree.specs.declared.declaration.ClassDecl.{ClassDecl}
use Rattle.st_tree.specs.declared.declaration.InterfaceDecl.{InterfaceDecl}
use Rattle.st_tree.specs.declared.name.Used.{Used}
use Rattle.st_tree.specs.declared.program.Note.{Note}
use Rattle.st_rules.specs.Named.{first_place}
use Rattle.st_rules.specs.Classes.{class_named}
use Rattle.st_rules.specs.Interfaces.{interface_named, interfaces_named}
use Rattle.st_rules.proofs.Booleans.{none≢some}
use Rattle.st_rules.proofs.ListLaws.{take-at}
use Rattle.program_tables.specs.Private.Places.{Table, found_in, first_from, IsTableOf, class_name, interface_name, is_method, method_name, AreMemberTables}
use Rattle.program_tables.specs.Private.Bases.{base_by, named_by, implemented_by, extended_by}
use Rattle.program_tables.specs.Private.Tables.{bases_in, implemented_in, extended_in}

module _ {X : Type 0} (name_of : X → List ℕ) (test : X → Bool) where
  further : (b : Bool) (i : ℕ) (o p : Option ℕ) → o ≡ option_map suc p → (if b then Some (i + 1) else o) ≡ option_map suc (if b then Some i else p)
  further true i o p h = ap Some (add-one i)
  further false i o p h = h

  pub shifted : (i : ℕ) (xs : List X) (name : List ℕ) → first_from name_of test (i + 1) xs name ≡ option_map suc (first_from name_of test i xs name)
  shifted i [] name = refl
  shifted i (x ∷ xs) name = further (test x && same (name_of x) name) i _ _ (shifted (i + 1) xs name)

module _ {X : Type 0} (name_of : X → List ℕ) where
  placed_at : (b : Bool) (i : ℕ) (o : Option ℕ) → ◌≡◌ {A = Option ℕ} (if b then Some i else option_map (λ k. (i + 1) + k) o) (option_map (λ k. i + k) (if b then Some 0 else option_map suc o))
  placed_at true i o = let e : i ≡ i + 0 = omega arith in ap Some e
  placed_at false i None = refl
  placed_at false i (Some k) = let e : (i + 1) + k ≡ i + suc k = omega arith in ap Some e

  -- where all pass, it is the first place of the name
  pub placed : (i : ℕ) (xs : List X) (name : List ℕ) → first_from name_of (λ x. true) i xs name ≡ option_map (λ k. i + k) (first_place name (map name_of xs))
  placed i [] name = refl
  placed i (x ∷ xs) name =
      ap (λ o. if same (name_of x) name then Some i else o) (placed (i + 1) xs name) ∙ placed_at (same (name_of x) name) i (first_place name (map name_of xs))

pub from_zero : (o : Option ℕ) → option_map (λ k. 0 + k) o ≡ o
from_zero None = refl
from_zero (Some k) = let e : 0 + k ≡ k = omega arith in ap Some e

pub class_found : (table : Table) (classes : List (ClassDecl Note)) → IsTableOf class_name (λ d. true) 0 table classes → (name : List ℕ) → found_in table name ≡ class_named classes name
class_found table classes is name = is.finds name ∙ placed class_name 0 classes name ∙ from_zero (first_place name (map class_name classes))

pub interface_found : (table : Table) (interfaces : List (InterfaceDecl Note)) → IsTableOf interface_name (λ d. true) 0 table interfaces → (name : List ℕ) → found_in table name ≡ interface_named interfaces name
interface_found table interfaces is name = is.finds name ∙ placed interface_name 0 interfaces name ∙ from_zero (first_place name (map interface_name interfaces))

-- ---- what declarations name

map_same : {X Y : Type 0} (f g : X → Y) → ((x : X) → f x ≡ g x) → (xs : List X) → map f xs ≡ map g xs
map_same f g h [] = refl
map_same f g h (x ∷ xs) = ap (λ y. y ∷ map f xs) (h x) ∙ ap (λ ys. g x ∷ ys) (map_same f g h xs)

filter_map_same : {X Y : Type 0} (f g : X → Option Y) → ((x : X) → f x ≡ g x) → (xs : List X) → filter_map f xs ≡ filter_map g xs
filter_map_same f g h [] = refl
filter_map_same f g h (x ∷ xs) = ap (λ o. cons_option o (filter_map f xs)) (h x) ∙ ap (λ ys. cons_option (g x) ys) (filter_map_same f g h xs)

base_same : (table : Table) (classes : List (ClassDecl Note)) → ((name : List ℕ) → found_in table name ≡ class_named classes name) → (o : Option (Used Note)) → option_and_then (λ b. found_in table b.text) o ≡ option_and_then (λ b. class_named classes b.text) o
base_same table classes f None = refl
base_same table classes f (Some b) = f b.text

pub bases_are : (table : Table) (classes : List (ClassDecl Note)) → IsTableOf class_name (λ d. true) 0 table classes → map (base_by table) classes ≡ bases_in classes classes
bases_are table classes is = map_same _ _ (λ d. base_same table classes (class_found table classes is) d.base) classes

named_are : (table : Table) (interfaces : List (InterfaceDecl Note)) → IsTableOf interface_name (λ d. true) 0 table interfaces → (names : List (Used Note)) → named_by table names ≡ interfaces_named interfaces names
named_are table interfaces is names = filter_map_same _ _ (λ u. interface_found table interfaces is u.text) names

pub implemented_are : (table : Table) (interfaces : List (InterfaceDecl Note)) (classes : List (ClassDecl Note)) → IsTableOf interface_name (λ d. true) 0 table interfaces → map (implemented_by table) classes ≡ implemented_in interfaces classes
implemented_are table interfaces classes is = map_same _ _ (λ d. named_are table interfaces is d.interfaces) classes

pub extended_are : (table : Table) (interfaces : List (InterfaceDecl Note)) → IsTableOf interface_name (λ d. true) 0 table interfaces → map (extended_by table) interfaces ≡ extended_in interfaces interfaces
extended_are table interfaces is = map_same _ _ (λ d. named_are table interfaces is d.bases) interfaces

-- ---- tables of the methods of classes

tables_push : (ts : List Table) (ds : List (ClassDecl Note)) (t : Table) (d : ClassDecl Note) → AreMemberTables ts ds → IsTableOf method_name is_method 0 t d.members → AreMemberTables (ts ++ t ∷ []) (ds ++ d ∷ [])
tables_push [] [] t d h k = (k, tt)
tables_push [] (z ∷ ds) t d h k = absurd h
tables_push (x ∷ ts) [] t d h k = absurd h
tables_push (x ∷ ts) (z ∷ ds) t d h k = (h.0, tables_push ts ds t d h.1 k)

pub tables_more : (ts new : List Table) (ds : List (ClassDecl Note)) (i : ℕ) (t : Table) (d : ClassDecl Note) → i < length ds → d ≡ get_or ds i d → AreMemberTables ts (take i ds) → IsTableOf method_name is_method 0 t d.members → new ≡ ts ++ t ∷ []
    → AreMemberTables new (take (i + 1) ds)
tables_more ts new ds i t d h e a k p =
    subst (λ (z : List (ClassDecl Note)). AreMemberTables new z) (sym (take-at ds i d h e)) (subst (λ (z : List Table). AreMemberTables z (take i ds ++ d ∷ [])) (sym p) (tables_push ts (take i ds) t d a k))

pub table_at : (ts : List Table) (ds : List (ClassDecl Note)) (n : ℕ) (d : ClassDecl Note) → AreMemberTables ts ds → slice_get ds n ≡ Some d → (t : Table) × (slice_get ts n ≡ Some t) × IsTableOf method_name is_method 0 t d.members
table_at [] [] n d h e = absurd (none≢some e)
table_at [] (z ∷ ds) n d h e = absurd h
table_at (x ∷ ts) [] n d h e = absurd h
table_at (x ∷ ts) (z ∷ ds) zero d h e = let q : z ≡ d = cc in (x, refl, subst (λ (y : ClassDecl Note). IsTableOf method_name is_method 0 x y.members) q h.0)
table_at (x ∷ ts) (z ∷ ds) (suc n) d h e = table_at ts ds n d h.1 e

pub no_table_at : (ts : List Table) (ds : List (ClassDecl Note)) (n : ℕ) → AreMemberTables ts ds → slice_get ds n ≡ None → slice_get ts n ≡ None
no_table_at [] [] n h e = refl
no_table_at [] (z ∷ ds) n h e = absurd h
no_table_at (x ∷ ts) [] n h e = absurd h
no_table_at (x ∷ ts) (z ∷ ds) zero h e = absurd (none≢some (sym e))
no_table_at (x ∷ ts) (z ∷ ds) (suc n) h e = no_table_at ts ds n h.1 e
