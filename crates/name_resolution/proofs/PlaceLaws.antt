-- What a table of places finds is the first of the name that passes.
use Rattle.std.proofs.Common.{◌≡◌, ℕ, suc, ◌+◌, Bool, true, false, List, [], ◌∷◌, Option, Some, None, refl, sym, ap, ◌∙◌, add-one, arith}
use Rattle.std.specs.Prelude.{◌&&◌, ◌||◌, if◌then◌else◌, filter, option_map, option_and_then, slice_get}
use Rattle.plc_text.specs.Words.{same}
use Rattle.st_rules.specs.Named.{first_place}
use Rattle.st_rules.specs.declared.names.DeclaredField.{DeclaredField}
use Rattle.st_rules.specs.declared.names.DeclaredGlobal.{DeclaredGlobal}
use Rattle.st_rules.specs.declared.names.DeclaredGlobal.TheVariants as global
use Rattle.std.specs.Option.{is_some}
use Rattle.std.specs.List.{list_any}
use Rattle.st_rules.specs.Scope.{first_named, field_from, is_global_variable, global_name}
use Rattle.name_resolution.specs.Private.Places.{Table, found_in, first_from, IsTableOf, is_variable, numbered_at}

module _ {X : Type 0} (name_of : X → List ℕ) (test : X → Bool) where
  further : (b : Bool) (i : ℕ) (o p : Option ℕ) → o ≡ option_map suc p → (if b then Some (i + 1) else o) ≡ option_map suc (if b then Some i else p)
  further true i o p h = ap Some (add-one i)
  further false i o p h = h

  shifted : (i : ℕ) (xs : List X) (name : List ℕ) → first_from name_of test (i + 1) xs name ≡ option_map suc (first_from name_of test i xs name)
  shifted i [] name = refl
  shifted i (x ∷ xs) name = further (test x && same (name_of x) name) i _ _ (shifted (i + 1) xs name)

  behind : (x : X) (xs : List X) (o : Option ℕ) → option_and_then (slice_get (x ∷ xs)) (option_map suc o) ≡ option_and_then (slice_get xs) o
  behind x xs None = refl
  behind x xs (Some n) = refl

  here : (b q : Bool) (x : X) (xs : List X) (name : List ℕ) (o : Option ℕ) → same (name_of x) name ≡ q → option_and_then (slice_get xs) o ≡ first_named name_of name (filter test xs)
      → option_and_then (slice_get (x ∷ xs)) (if b && q then Some 0 else option_map suc o) ≡ first_named name_of name (if b then x ∷ filter test xs else filter test xs)
  here true true x xs name o e h = sym (ap (λ c. if c then Some x else first_named name_of name (filter test xs)) e)
  here true false x xs name o e h = behind x xs o ∙ h ∙ sym (ap (λ c. if c then Some x else first_named name_of name (filter test xs)) e)
  here false q x xs name o e h = behind x xs o ∙ h

  pub first_passing : (xs : List X) (name : List ℕ) → option_and_then (slice_get xs) (first_from name_of test 0 xs name) ≡ first_named name_of name (filter test xs)
  first_passing [] name = refl
  first_passing (x ∷ xs) name =
      ap (λ o. option_and_then (slice_get (x ∷ xs)) (if test x && same (name_of x) name then Some 0 else o)) (shifted 0 xs name)
      ∙ here (test x) (same (name_of x) name) x xs name (first_from name_of test 0 xs name) refl (first_passing xs name)

  pub found_passing : (table : Table) (xs : List X) (name : List ℕ) (o : Option ℕ) → IsTableOf name_of test table xs → o ≡ found_in table name → option_and_then (slice_get xs) o ≡ first_named name_of name (filter test xs)
  found_passing table xs name o is e = ap (option_and_then (slice_get xs)) (e ∙ is.finds name) ∙ first_passing xs name

module _ {X : Type 0} (name_of : X → List ℕ) where
  pub all_pass : (xs : List X) → filter (λ x. true) xs ≡ xs
  all_pass [] = refl
  all_pass (x ∷ xs) = ap (λ ys. x ∷ ys) (all_pass xs)

  -- a table of all finds the first of the name
  pub found_first : (table : Table) (xs : List X) (name : List ℕ) (o : Option ℕ) → IsTableOf name_of (λ x. true) table xs → o ≡ found_in table name → option_and_then (slice_get xs) o ≡ first_named name_of name xs
  found_first table xs name o is e = found_passing name_of (λ x. true) table xs name o is e ∙ ap (first_named name_of name) (all_pass xs)

-- ---- values of enumerations

place_is : (ns : List (List ℕ)) (name : List ℕ) → first_from (λ n. n) (λ n. true) 0 ns name ≡ first_place name ns
place_is [] name = refl
place_is (n ∷ ns) name = ap (λ o. if same n name then Some 0 else o) (shifted (λ n. n) (λ n. true) 0 ns name ∙ ap (option_map suc) (place_is ns name))

pub found_place : (table : Table) (ns : List (List ℕ)) (name : List ℕ) (o : Option ℕ) → IsTableOf (λ n. n) (λ n. true) table ns → o ≡ found_in table name → o ≡ first_place name ns
found_place table ns name o is e = e ∙ is.finds name ∙ place_is ns name

-- ---- fields of structures

abbrev pub numbered_field : ℕ → List DeclaredField → Option ℕ → Option (ℕ × DeclaredField)
numbered_field j fs o = option_and_then (λ k. option_map (λ f. (j + k, f)) (slice_get fs k)) o

behind_field : (j : ℕ) (f : DeclaredField) (fs : List DeclaredField) (o : Option ℕ) → numbered_field j (f ∷ fs) (option_map suc o) ≡ numbered_field (suc j) fs o
behind_field j f fs None = refl
behind_field j f fs (Some k) = ap (λ n. option_map (λ g. (n, g)) (slice_get fs k)) (let e : j + suc k ≡ suc j + k = omega arith in e)

field_here : (b : Bool) (j : ℕ) (f : DeclaredField) (fs : List DeclaredField) (o : Option ℕ) (p : Option (ℕ × DeclaredField)) → numbered_field (suc j) fs o ≡ p
    → numbered_field j (f ∷ fs) (if b then Some 0 else option_map suc o) ≡ (if b then Some (j, f) else p)
field_here true j f fs o p h = ap (λ n. Some (n, f)) (let e : j + 0 ≡ j = omega arith in e)
field_here false j f fs o p h = behind_field j f fs o ∙ h

field_is : (j : ℕ) (fs : List DeclaredField) (name : List ℕ) → numbered_field j fs (first_from (λ f. f.name) (λ f. true) 0 fs name) ≡ field_from j name fs
field_is j [] name = refl
field_is j (f ∷ fs) name =
    ap (λ o. numbered_field j (f ∷ fs) (if same f.name name then Some 0 else o)) (shifted (λ g. g.name) (λ g. true) 0 fs name)
    ∙ field_here (same f.name name) j f fs (first_from (λ g. g.name) (λ g. true) 0 fs name) (field_from (suc j) name fs) (field_is (suc j) fs name)

pub found_field : (table : Table) (fs : List DeclaredField) (name : List ℕ) (o : Option ℕ) → IsTableOf (λ f. f.name) (λ f. true) table fs → o ≡ found_in table name
    → option_and_then (numbered_at fs) o ≡ field_from 0 name fs
found_field table fs name o is e =
    ap (option_and_then (numbered_at fs)) (e ∙ is.finds name)
    ∙ at (first_from (λ f. f.name) (λ f. true) 0 fs name)
    ∙ field_is 0 fs name
  where
    at : (p : Option ℕ) → option_and_then (numbered_at fs) p ≡ numbered_field 0 fs p
    at None = refl
    at (Some k) = ap (λ n. option_map (λ f. (n, f)) (slice_get fs k)) (let e : k ≡ 0 + k = omega arith in e)

-- ---- variables among the globals

variable_here : (g : DeclaredGlobal) (name : List ℕ) → is_global_variable name g ≡ (is_variable g && same (global_name g) name)
variable_here (global.Variable v) name = refl
variable_here (global.Function k r) name = refl

some_there : (b : Bool) (i : ℕ) (o : Option ℕ) (t : Bool) → t ≡ is_some o → (b || t) ≡ is_some (if b then Some i else o)
some_there true i o t h = refl
some_there false i o t h = h

variable_among : (i : ℕ) (gs : List DeclaredGlobal) (name : List ℕ) → list_any (is_global_variable name) gs ≡ is_some (first_from global_name is_variable i gs name)
variable_among i [] name = refl
variable_among i (g ∷ gs) name =
    ap (λ b. b || list_any (is_global_variable name) gs) (variable_here g name)
    ∙ some_there (is_variable g && same (global_name g) name) i (first_from global_name is_variable (i + 1) gs name) (list_any (is_global_variable name) gs) (variable_among (i + 1) gs name)

pub found_variable : (table : Table) (gs : List DeclaredGlobal) (name : List ℕ) (o : Option ℕ) → IsTableOf global_name is_variable table gs → o ≡ found_in table name → is_some o ≡ list_any (is_global_variable name) gs
found_variable table gs name o is e = ap is_some (e ∙ is.finds name) ∙ sym (variable_among 0 gs name)
