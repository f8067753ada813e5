-- The names of declarations, and the rows that are made of them.
use Rattle.std.proofs.Common.{◌≡◌, ℕ, suc, ◌+◌, ◌<◌, ◌≤◌, Bool, List, [], ◌∷◌, ◌++◌, Option, length, map, drop, take, get_or, refl, sym, ap, ◌∙◌, subst}
use Rattle.std.specs.Map.{keys_of}
use Rattle.std.specs.Prelude.{flat_map, if◌then◌else◌, is_some, option_and_then, unwrap_or, slice_get}
use Rattle.std.specs.List.{list_any}
use Rattle.std.proofs.lemmas.List.{length-map}
use Rattle.std.proofs.Common.{append_assoc, append-nil}
use Rattle.st_tree.specs.declared.declaration.ClassDecl.{ClassDecl}
use Rattle.st_tree.specs.declared.declaration.InterfaceDecl.{InterfaceDecl}
use Rattle.st_tree.specs.declared.declaration.Member.{Member}
use Rattle.st_tree.specs.declared.declaration.Member.TheVariants as member
use Rattle.st_tree.specs.declared.declaration.Method.{Method}
use Rattle.st_tree.specs.declared.unit.Decl.{Decl}
use Rattle.st_tree.specs.declared.unit.Decl.TheVariants as declaration
use Rattle.st_rules.specs.Named.{first_place}
use Rattle.st_rules.specs.Modifiers.{is_abstract, is_final, is_override, method_access}
use Rattle.st_rules.specs.declared.modifiers.Access.{Access}
use Rattle.st_rules.specs.Signatures.{is_hook}
use Rattle.st_rules.specs.ClassRules.{is_block, is_statement, is_in_out_section}
use Rattle.st_rules.specs.Classes.{classes_in, methods_in, method_names}
use Rattle.st_rules.specs.Interfaces.{interfaces_in}
use Rattle.st_rules.proofs.Booleans.{none≢some}
use Rattle.st_rules.proofs.ListLaws.{drop-at, take-at, take-end}
use Rattle.class_rows.specs.declared.unit_names.UnitNames.{UnitNames}
use Rattle.class_rows.specs.declared.rows.MethodRow.{MethodRow}
use Rattle.class_rows.specs.declared.rows.ClassRow.{ClassRow}
use Rattle.class_rows.specs.declared.rows.UnitRows.{UnitRows}
use Rattle.class_rows.specs.UnitNames.{with_new, all_names}
use Rattle.class_rows.specs.Index.{Indexes}
use Rattle.class_rows.specs.UnitNames.{class_names, interface_names, HasClasses, HasInterfaces}
use Rattle.class_rows.specs.Rows.{method_row, method_rows, places_of, class_row, interface_row, AreRows}
use Rattle.class_rows.specs.Private.Added.{AddsRows}

abbrev pub names_from : {A : Type 0} → List (List ℕ) → List (Member A) → List (List ℕ)
names_from names members = with_new names (map (λ m. m.name.text) (methods_in members))

pub new-append : (names xs ys : List (List ℕ)) → with_new names (xs ++ ys) ≡ with_new (with_new names xs) ys
new-append names [] ys = refl
new-append names (x ∷ xs) ys = new-append (if is_some (first_place x names) then names else names ++ x ∷ []) xs ys

-- ---- names of declarations

methods-append : {A : Type 0} (classes : List (ClassDecl A)) (class : ClassDecl A) → flat_map method_names (classes ++ class ∷ []) ≡ flat_map method_names classes ++ method_names class
methods-append [] class = append-nil (method_names class)
methods-append (c ∷ cs) class = ap (λ ns. method_names c ++ ns) (methods-append cs class) ∙ sym (append_assoc (method_names c) (flat_map method_names cs) (method_names class))

map-append : {X Y : Type 0} (f : X → Y) (xs : List X) (x : X) → map f (xs ++ x ∷ []) ≡ map f xs ++ f x ∷ []
map-append f [] x = refl
map-append f (y ∷ ys) x = ap (λ zs. f y ∷ zs) (map-append f ys x)

length-one_more : {X : Type 0} (xs : List X) (x : X) → length (xs ++ x ∷ []) ≡ suc (length xs)
length-one_more [] x = refl
length-one_more (y ∷ ys) x = ap (λ n. suc n) (length-one_more ys x)

module _ {A : Type 0} (old new : UnitNames) where
  pub class_added : (class : ClassDecl A) →
      ((names : List (List ℕ)) → Indexes old.classes names → old.class_count ≡ length names → Indexes new.classes (names ++ class.name.text ∷ [])) →
      keys_of new.methods ≡ names_from (keys_of old.methods) class.members → new.class_count ≡ suc old.class_count →
      (classes : List (ClassDecl A)) → HasClasses old classes → HasClasses new (classes ++ class ∷ [])
  class_added class noted numbered counted classes has = record {
    methods = numbered ∙ ap (λ ns. with_new ns (method_names class)) has.methods ∙ sym (new-append [] (flat_map method_names classes) (method_names class)) ∙ ap (with_new []) (sym (methods-append classes class));
    places = subst (Indexes new.classes) (sym (map-append (λ (c : ClassDecl A). c.name.text) classes class)) (noted (class_names classes) has.places (has.count ∙ sym (length-map classes (λ (c : ClassDecl A). c.name.text))));
    count = counted ∙ ap (λ n. suc n) has.count ∙ sym (length-one_more classes class);
  }

  pub interface_added : (interface : InterfaceDecl A) →
      ((names : List (List ℕ)) → Indexes old.interfaces names → old.interface_count ≡ length names → Indexes new.interfaces (names ++ interface.name.text ∷ [])) →
      new.interface_count ≡ suc old.interface_count →
      (interfaces : List (InterfaceDecl A)) → HasInterfaces old interfaces → HasInterfaces new (interfaces ++ interface ∷ [])
  interface_added interface noted counted interfaces has = record {
    places = subst (Indexes new.interfaces) (sym (map-append (λ (i : InterfaceDecl A). i.name.text) interfaces interface)) (noted (interface_names interfaces) has.places (has.count ∙ sym (length-map interfaces (λ (i : InterfaceDecl A). i.name.text))));
    count = counted ∙ ap (λ n. suc n) has.count ∙ sym (length-one_more interfaces interface);
  }

  pub classes_stay : (classes : List (ClassDecl A)) → new.methods ≡ old.methods → new.classes ≡ old.classes → new.class_count ≡ old.class_count → HasClasses old classes → HasClasses new classes
  classes_stay classes m c n has = record {
    methods = ap keys_of m ∙ has.methods;
    places = subst (λ (x : List (List ℕ × ℕ)). Indexes x (class_names classes)) (sym c) has.places;
    count = n ∙ has.count;
  }

  pub interfaces_stay : (interfaces : List (InterfaceDecl A)) → new.interfaces ≡ old.interfaces → new.interface_count ≡ old.interface_count → HasInterfaces old interfaces → HasInterfaces new interfaces
  interfaces_stay interfaces i n has = record {
    places = subst (λ (x : List (List ℕ × ℕ)). Indexes x (interface_names interfaces)) (sym i) has.places;
    count = n ∙ has.count;
  }

-- ---- declarations one by one

pub classes-append : {A : Type 0} (ds es : List (Decl A)) → classes_in (ds ++ es) ≡ classes_in ds ++ classes_in es
classes-append [] es = refl
classes-append (declaration.Class c ∷ ds) es = ap (λ cs. c ∷ cs) (classes-append ds es)
classes-append (declaration.Types l t ∷ ds) es = classes-append ds es
classes-append (declaration.Globals s ∷ ds) es = classes-append ds es
classes-append (declaration.Interface i ∷ ds) es = classes-append ds es
classes-append (declaration.Function f ∷ ds) es = classes-append ds es
classes-append (declaration.Program p ∷ ds) es = classes-append ds es
classes-append (declaration.Configuration c ∷ ds) es = classes-append ds es

pub interfaces-append : {A : Type 0} (ds es : List (Decl A)) → interfaces_in (ds ++ es) ≡ interfaces_in ds ++ interfaces_in es
interfaces-append [] es = refl
interfaces-append (declaration.Interface i ∷ ds) es = ap (λ is. i ∷ is) (interfaces-append ds es)
interfaces-append (declaration.Types l t ∷ ds) es = interfaces-append ds es
interfaces-append (declaration.Globals s ∷ ds) es = interfaces-append ds es
interfaces-append (declaration.Class c ∷ ds) es = interfaces-append ds es
interfaces-append (declaration.Function f ∷ ds) es = interfaces-append ds es
interfaces-append (declaration.Program p ∷ ds) es = interfaces-append ds es
interfaces-append (declaration.Configuration c ∷ ds) es = interfaces-append ds es

module _ {A : Type 0} (ds : List (Decl A)) (i : ℕ) (d : Decl A) (l : i < length ds) (e : d ≡ get_or ds i d) where
  pub classes-next : classes_in (take i ds) ++ classes_in (d ∷ []) ≡ classes_in (take (i + 1) ds)
  classes-next = sym (ap classes_in (take-at ds i d l e) ∙ classes-append (take i ds) (d ∷ []))

  pub interfaces-next : interfaces_in (take i ds) ++ interfaces_in (d ∷ []) ≡ interfaces_in (take (i + 1) ds)
  interfaces-next = sym (ap interfaces_in (take-at ds i d l e) ∙ interfaces-append (take i ds) (d ∷ []))

pub no_classes : {A : Type 0} (names : UnitNames) → names.methods ≡ [] → names.classes ≡ [] → names.class_count ≡ 0 → HasClasses {A = A} names []
no_classes names m c n = record {
  methods = ap keys_of m;
  places = record {
    found = λ name k p. absurd (none≢some (ap (λ (ps : List (List ℕ × ℕ)). slice_get (keys_of ps) p.0) (sym c) ∙ p.1));
    missing = λ name h. refl;
  };
  count = n;
}

pub no_interfaces : {A : Type 0} (names : UnitNames) → names.interfaces ≡ [] → names.interface_count ≡ 0 → HasInterfaces {A = A} names []
no_interfaces names i n = record {
  places = record {
    found = λ name k p. absurd (none≢some (ap (λ (ps : List (List ℕ × ℕ)). slice_get (keys_of ps) p.0) (sym i) ∙ p.1));
    missing = λ name h. refl;
  };
  count = n;
}

-- what adds nothing
pub no_more_classes : {A : Type 0} (names : UnitNames) (classes : List (ClassDecl A)) → HasClasses names classes → HasClasses names (classes ++ [])
no_more_classes names classes h = subst (HasClasses names) (sym (append-nil classes)) h

pub no_more_interfaces : {A : Type 0} (names : UnitNames) (interfaces : List (InterfaceDecl A)) → HasInterfaces names interfaces → HasInterfaces names (interfaces ++ [])
no_more_interfaces names interfaces h = subst (HasInterfaces names) (sym (append-nil interfaces)) h

pub ruleset no_names_more = (no_more_classes, no_more_interfaces)

module _ {A : Type 0} (names : UnitNames) (ds : List (Decl A)) (i : ℕ) where
  pub classes_step : (d : Decl A) → i < length ds → d ≡ get_or ds i d → HasClasses names (classes_in (take i ds) ++ classes_in (d ∷ [])) → HasClasses names (classes_in (take (i + 1) ds))
  classes_step d l e h = subst (HasClasses names) (classes-next ds i d l e) h

  pub interfaces_step : (d : Decl A) → i < length ds → d ≡ get_or ds i d → HasInterfaces names (interfaces_in (take i ds) ++ interfaces_in (d ∷ [])) → HasInterfaces names (interfaces_in (take (i + 1) ds))
  interfaces_step d l e h = subst (HasInterfaces names) (interfaces-next ds i d l e) h

  pub classes_end : length ds ≤ i → HasClasses names (classes_in (take i ds)) → HasClasses names (classes_in ds)
  classes_end l h = subst (λ (xs : List (Decl A)). HasClasses names (classes_in xs)) (take-end ds i l) h

  pub interfaces_end : length ds ≤ i → HasInterfaces names (interfaces_in (take i ds)) → HasInterfaces names (interfaces_in ds)
  interfaces_end l h = subst (λ (xs : List (Decl A)). HasInterfaces names (interfaces_in xs)) (take-end ds i l) h

-- ---- rows

pub no_row : {X : Type 0} (xs : List X) → xs ≡ xs ++ []
no_row xs = sym (append-nil xs)

method-rows-cons : {A : Type 0} (names : List (List ℕ)) (m : Member A) (ms : List (Member A)) → method_rows names (m ∷ ms) ≡ method_rows names (m ∷ []) ++ method_rows names ms
method-rows-cons names (member.Method m) ms = refl
method-rows-cons names (member.Section s) ms = refl

pub method_rows_step : {A : Type 0} (names : List (List ℕ)) (made new : List MethodRow) (members : List (Member A)) (i : ℕ) (m : Member A) → i < length members → m ≡ get_or members i m →
    new ≡ made ++ method_rows names (m ∷ []) → made ++ method_rows names (drop i members) ≡ method_rows names members → new ++ method_rows names (drop (i + 1) members) ≡ method_rows names members
method_rows_step names made new members i m l e n h =
    ap (λ xs. xs ++ method_rows names (drop (i + 1) members)) n ∙ append_assoc made (method_rows names (m ∷ [])) (method_rows names (drop (i + 1) members))
    ∙ ap (λ xs. made ++ xs) (sym (method-rows-cons names m (drop (i + 1) members)) ∙ ap (method_rows names) (sym (drop-at members i m l e))) ∙ h

pub method-row-is : {A : Type 0} (names : List (List ℕ)) (method : Method A) (n : ℕ) (access : Access) (a f o h s : Bool) →
    n ≡ unwrap_or (first_place method.name.text names) 0 → access ≡ method_access method.modifiers → a ≡ is_abstract method.modifiers → f ≡ is_final method.modifiers → o ≡ is_override method.modifiers →
    h ≡ is_hook method.name.text → s ≡ list_any is_statement method.body →
    ◌≡◌ {A = MethodRow} (record { line = method.line; name = n; access = access; is_abstract = a; is_final = f; is_override = o; is_hook = h; has_statements = s }) (method_row names method)
method-row-is names method n access a f o h s p q r t u v w = cc

pub class-row-is : {A : Type 0} (names classes interfaces : List (List ℕ)) (class : ClassDecl A) (b a f i x : Bool) (base : Option ℕ) (implemented : List ℕ) (methods : List MethodRow) →
    b ≡ is_block class → a ≡ is_abstract class.modifiers → f ≡ is_final class.modifiers → i ≡ list_any is_in_out_section class.members → x ≡ is_some class.base →
    base ≡ option_and_then (λ base. first_place base.text classes) class.base → implemented ≡ places_of interfaces class.interfaces → methods ≡ method_rows names class.members →
    ◌≡◌ {A = ClassRow} (record { line = class.line; is_block = b; is_abstract = a; is_final = f; has_in_outs = i; has_extends = x; base = base; implemented = implemented; methods = methods }) (class_row names classes interfaces class)
class-row-is names classes interfaces class b a f i x base implemented methods p q r s w t u v = cc

abbrev rows_for : {A : Type 0} → List (Decl A) → ClassDecl A → ClassRow
rows_for ds = class_row (all_names (classes_in ds)) (class_names (classes_in ds)) (interface_names (interfaces_in ds))

-- the rows of the first declarations
pub record RowsTo {A : Type 0} (ds : List (Decl A)) (i : ℕ) (made : UnitRows) : Type 0 where
  pub class_rows : made.classes ≡ map (rows_for ds) (classes_in (take i ds))
  pub interface_rows : made.interfaces ≡ map (interface_row (interface_names (interfaces_in ds))) (interfaces_in (take i ds))

map-both : {X Y : Type 0} (f : X → Y) (xs ys : List X) → map f xs ++ map f ys ≡ map f (xs ++ ys)
map-both f [] ys = refl
map-both f (x ∷ xs) ys = ap (λ zs. f x ∷ zs) (map-both f xs ys)

module _ {A : Type 0} (ds : List (Decl A)) where
  pub rows_start : (made : UnitRows) → made.classes ≡ [] → made.interfaces ≡ [] → RowsTo ds 0 made
  rows_start made c i = record { class_rows = c; interface_rows = i }

  pub rows_step : (i : ℕ) (d : Decl A) → i < length ds → d ≡ get_or ds i d → (made new : UnitRows) → RowsTo ds i made → AddsRows (classes_in ds) (interfaces_in ds) d made new → RowsTo ds (i + 1) new
  rows_step i d l e made new to adds = record {
    class_rows = adds.class_rows ∙ ap (λ xs. xs ++ map (rows_for ds) (classes_in (d ∷ []))) to.class_rows ∙ map-both (rows_for ds) (classes_in (take i ds)) (classes_in (d ∷ [])) ∙ ap (map (rows_for ds)) (classes-next ds i d l e);
    interface_rows = adds.interface_rows ∙ ap (λ xs. xs ++ map (interface_row (interface_names (interfaces_in ds))) (interfaces_in (d ∷ []))) to.interface_rows
        ∙ map-both (interface_row (interface_names (interfaces_in ds))) (interfaces_in (take i ds)) (interfaces_in (d ∷ [])) ∙ ap (map (interface_row (interface_names (interfaces_in ds)))) (interfaces-next ds i d l e);
  }

  pub rows_end : (i : ℕ) (made : UnitRows) → length ds ≤ i → RowsTo ds i made → AreRows (classes_in ds) (interfaces_in ds) made
  rows_end i made l to = record {
    class_rows = to.class_rows ∙ ap (λ xs. map (rows_for ds) (classes_in xs)) (take-end ds i l);
    interface_rows = to.interface_rows ∙ ap (λ xs. map (interface_row (interface_names (interfaces_in ds))) (interfaces_in xs)) (take-end ds i l);
  }
