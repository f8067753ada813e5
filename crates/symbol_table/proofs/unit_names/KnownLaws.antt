-- Lists that items give one after the other, and what a unit declares.
use Rattle.std.proofs.Common.{◌≡◌, ℕ, ◌+◌, ◌<◌, ◌≤◌, Bool, true, false, List, [], ◌∷◌, ◌++◌, map, drop, length, get_or, Option, refl, sym, ap, ◌∙◌, append-nil}
use Rattle.std.specs.Prelude.{if◌then◌else◌, filter}
use Rattle.std.proofs.lemmas.List.{append_assoc, map-append}
use Rattle.st_tree.specs.declared.declaration.Member.{Member}
use Rattle.st_tree.specs.declared.declaration.Member.TheVariants as member
use Rattle.st_tree.specs.declared.declaration.TypeDecl.{TypeDecl}
use Rattle.st_tree.specs.declared.unit.Decl.{Decl}
use Rattle.st_tree.specs.declared.unit.Decl.TheVariants as declaration
use Rattle.st_rules.specs.declared.names.DeclaredVariable.{DeclaredVariable}
use Rattle.st_rules.specs.Calls.{is_parameter}
use Rattle.st_rules.specs.Modifiers.{method_access, is_abstract}
use Rattle.st_tree.specs.declared.declaration.Modifier.{Modifier}
use Rattle.st_tree.specs.declared.declaration.Section.{Section}
use Rattle.st_tree.specs.declared.type_spec.TypeSpec.{TypeSpec}
use Rattle.st_rules.specs.declared.names.DeclaredType.{DeclaredType}
use Rattle.st_rules.specs.declared.names.TypeParts.{TypeParts}
use Rattle.st_rules.specs.declared.names.DeclaredClass.{DeclaredClass}
use Rattle.st_rules.specs.declared.names.DeclaredRoutine.{DeclaredRoutine}
use Rattle.st_rules.specs.declared.names.DeclaredGlobal.{DeclaredGlobal}
use Rattle.st_rules.specs.Classes.{classes_in, methods_in}
use Rattle.st_rules.specs.Interfaces.{interfaces_in}
use Rattle.st_rules.proofs.ListLaws.{drop-at, drop-end}
use Rattle.st_unit_rules.specs.declared_names.Declarations.{entries_in}
use Rattle.st_unit_rules.specs.declared_names.UnitNames.{types_declared, parts_declared, method_declared, interface_declared, globals_from, names_from, locals_of, result_written, routine_declared}
use Rattle.type_resolution.specs.told_locals.Around.{scope_around}
use Rattle.type_resolution.specs.declared.told_locals.around.Around.{Around}
use Rattle.symbol_table.specs.declared.unit_names.known.Known.{Known}
use Rattle.symbol_table.specs.unit_names.Private.Known.{within, decls_of, names_of, classes_from}

module _ {X Y : Type 0} (gives : List X → List Y) where
  pub split_next : ((x : X) (xs : List X) → gives (x ∷ xs) ≡ gives (x ∷ []) ++ gives xs) → (xs : List X) (i : ℕ) (x : X) (old new : List Y) → i < length xs → x ≡ get_or xs i x → new ≡ old ++ gives (x ∷ [])
      → old ++ gives (drop i xs) ≡ gives xs → new ++ gives (drop (i + 1) xs) ≡ gives xs
  split_next split xs i x old new h e f k =
      ap (λ ys. ys ++ gives (drop (i + 1) xs)) f
      ∙ append_assoc old (gives (x ∷ [])) (gives (drop (i + 1) xs))
      ∙ ap (λ ys. old ++ ys) (sym (split x (drop (i + 1) xs)))
      ∙ ap (λ ys. old ++ gives ys) (sym (drop-at xs i x h e))
      ∙ k

  pub split_ended : gives [] ≡ [] → (xs : List X) (i : ℕ) (old : List Y) → length xs ≤ i → old ++ gives (drop i xs) ≡ gives xs → old ≡ gives xs
  split_ended none xs i old h k = sym (append-nil old) ∙ ap (λ ys. old ++ ys) (sym none) ∙ ap (λ ys. old ++ gives ys) (sym (drop-end xs i h)) ∙ k

pub methods_split : (k : Known) (c : ℕ) (m : Member ℕ) (ms : List (Member ℕ))
    → map (method_declared (decls_of k) (names_of k) c) (methods_in (m ∷ ms)) ≡ map (method_declared (decls_of k) (names_of k) c) (methods_in (m ∷ [])) ++ map (method_declared (decls_of k) (names_of k) c) (methods_in ms)
methods_split k c (member.Method m) ms = refl
methods_split k c (member.Section s) ms = refl

pub parts_split : (k : Known) (d : Decl ℕ) (ds : List (Decl ℕ))
    → map (λ t. parts_declared (decls_of k) (names_of k) t.body) (entries_in (d ∷ ds)) ≡ map (λ t. parts_declared (decls_of k) (names_of k) t.body) (entries_in (d ∷ [])) ++ map (λ t. parts_declared (decls_of k) (names_of k) t.body) (entries_in ds)
parts_split k (declaration.Types l ts) ds =
    map-append (λ (t : TypeDecl ℕ). parts_declared (decls_of k) (names_of k) t.body) ts (entries_in ds)
    ∙ ap (λ xs. map (λ (t : TypeDecl ℕ). parts_declared (decls_of k) (names_of k) t.body) xs ++ map (λ (t : TypeDecl ℕ). parts_declared (decls_of k) (names_of k) t.body) (entries_in ds)) (sym (append-nil ts))
parts_split k (declaration.Class c) ds = refl
parts_split k (declaration.Interface i) ds = refl
parts_split k (declaration.Globals s) ds = refl
parts_split k (declaration.Function f) ds = refl
parts_split k (declaration.Program p) ds = refl
parts_split k (declaration.Configuration c) ds = refl

pub interfaces_split : (k : Known) (d : Decl ℕ) (ds : List (Decl ℕ))
    → map (interface_declared (decls_of k) (names_of k)) (interfaces_in (d ∷ ds)) ≡ map (interface_declared (decls_of k) (names_of k)) (interfaces_in (d ∷ [])) ++ map (interface_declared (decls_of k) (names_of k)) (interfaces_in ds)
interfaces_split k (declaration.Types l ts) ds = refl
interfaces_split k (declaration.Class c) ds = refl
interfaces_split k (declaration.Interface i) ds = refl
interfaces_split k (declaration.Globals s) ds = refl
interfaces_split k (declaration.Function f) ds = refl
interfaces_split k (declaration.Program p) ds = refl
interfaces_split k (declaration.Configuration c) ds = refl

pub parameters_split : (v : DeclaredVariable) (vs : List DeclaredVariable) → filter is_parameter (v ∷ vs) ≡ filter is_parameter (v ∷ []) ++ filter is_parameter vs
parameters_split v vs = at (is_parameter v)
  where
    at : (b : Bool) → (if b then v ∷ filter is_parameter vs else filter is_parameter vs) ≡ (if b then v ∷ [] else []) ++ filter is_parameter vs
    at true = refl
    at false = refl

-- all that is declared
pub all_declared : (k : Known) (ds : List (Decl ℕ)) (types : List DeclaredType) (parts : List TypeParts) (classes : List DeclaredClass) (interfaces : List (List DeclaredRoutine)) (globals : List DeclaredGlobal) → ds ≡ decls_of k
    → types ≡ types_declared (decls_of k) (names_of k) 0 0 0 ds → parts ≡ map (λ t. parts_declared (decls_of k) (names_of k) t.body) (entries_in ds) → classes ≡ classes_from k 0 (classes_in ds)
    → interfaces ≡ map (interface_declared (decls_of k) (names_of k)) (interfaces_in ds) → globals ≡ globals_from (decls_of k) (names_of k) 0 0 ds
    → record { types = types; parts = parts; classes = classes; interfaces = interfaces; globals = globals } ≡ names_from (decls_of k) (names_of k)
unfolding names_from
all_declared k ds types parts classes interfaces globals e t p c i g = whole
  where
    types-are : types ≡ types_declared (decls_of k) (names_of k) 0 0 0 (decls_of k)
    types-are = t ∙ ap (types_declared (decls_of k) (names_of k) 0 0 0) e

    parts-are : parts ≡ map (λ x. parts_declared (decls_of k) (names_of k) x.body) (entries_in (decls_of k))
    parts-are = p ∙ ap (λ xs. map (λ (x : TypeDecl ℕ). parts_declared (decls_of k) (names_of k) x.body) (entries_in xs)) e

    classes-are : classes ≡ classes_from k 0 (classes_in (decls_of k))
    classes-are = c ∙ ap (λ xs. classes_from k 0 (classes_in xs)) e

    interfaces-are : interfaces ≡ map (interface_declared (decls_of k) (names_of k)) (interfaces_in (decls_of k))
    interfaces-are = i ∙ ap (λ xs. map (interface_declared (decls_of k) (names_of k)) (interfaces_in xs)) e

    globals-are : globals ≡ globals_from (decls_of k) (names_of k) 0 0 (decls_of k)
    globals-are = g ∙ ap (globals_from (decls_of k) (names_of k) 0 0) e

    whole : record { types = types; parts = parts; classes = classes; interfaces = interfaces; globals = globals } ≡ names_from (decls_of k) (names_of k)
    whole = λ j. record { types = types-are j; parts = parts-are j; classes = classes-are j; interfaces = interfaces-are j; globals = globals-are j }

-- ---- routines

module _ (a : Around) (name : List ℕ) (result : Option (TypeSpec ℕ)) (ss : List (Section ℕ)) (vs : List DeclaredVariable) (e : vs ≡ locals_of (scope_around a) name result ss) where
  pub routine_is : (modifiers : List Modifier) (r : DeclaredRoutine) → r.name ≡ name → r.access ≡ method_access modifiers → r.abstract_method ≡ is_abstract modifiers → r.outcome ≡ result_written (within a vs) result
      → r.parameters ≡ filter is_parameter vs → r ≡ routine_declared (scope_around a) name modifiers result ss
  routine_is modifiers r n c b o p =
      let out : r.outcome ≡ result_written (within a (locals_of (scope_around a) name result ss)) result = o ∙ ap (λ ws. result_written (within a ws) result) e in
      let parts : r.parameters ≡ filter is_parameter (locals_of (scope_around a) name result ss) = p ∙ ap (filter is_parameter) e in
      λ i. record { name = n i; access = c i; abstract_method = b i; outcome = out i; parameters = parts i }
