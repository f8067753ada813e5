-- The numbers in the parts of a shape.
use Rattle.std.proofs.Common.{◌≡◌, ℕ, zero, suc, ℤ, Bool, true, false, List, [], ◌∷◌, map, Option, Some, None, refl, sym, ap, ap₂, ◌∙◌, Bor}
use Rattle.std.proofs.lemmas.Slice.Eq.{bytes_eq-Decides}
use Rattle.std.specs.Prelude.{◌&&◌, option_map, slice_get}
use Rattle.plc_text.specs.Words.{same}
use Rattle.st_values.specs.Program.{Program, class_at, class_variables}
use Rattle.st_values.specs.Shape.{same_names}
use Rattle.program_tables.specs.st_initial.Variables.{fields_at}
use Rattle.shape_trees.specs.declared.shape.Shape.{Shape as CodeShape}
use Rattle.shape_trees.specs.declared.shape.Shape.TheVariants as code
use Rattle.shape_trees.specs.declared.shape.Field.{Field as CodeField}
use Rattle.shape_trees.specs.Numbers.{names_of, is_called, names_in, is_numbered, is_named_numbered, are_numbered, number-Array, number-Structure, number-Instance, named-is}

pub front : (a b : Bool) → (a && b) ≡ true → a ≡ true
front true b e = refl
front false b e = absurd cc

pub back : (a b : Bool) → (a && b) ≡ true → b ≡ true
back true b e = e
back false b e = absurd cc

is_the_name : (o : Option (List ℕ)) (name : List ℕ) → is_called o name ≡ true → o ≡ Some name
is_the_name None name e = absurd cc
is_the_name (Some n) name e = ap Some ((bytes_eq-Decides n name).0 e)

are_the_names : (ns ms : List (List ℕ)) → same_names ns ms ≡ true → ns ≡ ms
are_the_names [] [] e = refl
are_the_names [] (m ∷ ms) e = absurd cc
are_the_names (n ∷ ns) [] e = absurd cc
are_the_names (n ∷ ns) (m ∷ ms) e = ap₂ (λ (x : List ℕ) (xs : List (List ℕ)). x ∷ xs) ((bytes_eq-Decides n m).0 (front (same n m) (same_names ns ms) e)) (are_the_names ns ms (back (same n m) (same_names ns ms) e))

abbrev pub field_names : List CodeField → List (List ℕ)
field_names fs = map (λ f. f.variable.name.now) fs

module _ (p : Program) where
  pub names_are : (fs : List CodeField) → names_in (map (is_named_numbered p) fs) ≡ field_names fs
  names_are [] = refl
  names_are (f ∷ fs) = ap₂ (λ (n : List ℕ) (ns : List (List ℕ)). n ∷ ns) (ap (λ x. x.0) (named-is p f)) (names_are fs)

  -- the name and the fields that a number has
  pub record Numbers (o : Option (List ℕ)) (own : List (List ℕ)) (name : List ℕ) (fs : List CodeField) : Type 0 where
    pub called : o ≡ Some name
    pub names : field_names fs ≡ own
    pub below : are_numbered p fs ≡ true

  numbers_by : (o : Option (List ℕ)) (own : List (List ℕ)) (name : List ℕ) (fs : List CodeField) → ((is_called o name && same_names own (names_in (map (is_named_numbered p) fs))) && are_numbered p fs) ≡ true → Numbers o own name fs
  numbers_by o own name fs h =
      let tests = front (is_called o name && same_names own (names_in (map (is_named_numbered p) fs))) (are_numbered p fs) h in
      record {
        called = is_the_name o name (front (is_called o name) (same_names own (names_in (map (is_named_numbered p) fs))) tests);
        names = sym (are_the_names own (names_in (map (is_named_numbered p) fs)) (back (is_called o name) (same_names own (names_in (map (is_named_numbered p) fs))) tests) ∙ names_are fs);
        below = back (is_called o name && same_names own (names_in (map (is_named_numbered p) fs))) (are_numbered p fs) h;
      }

  pub structure_numbers : (n : ℕ) (name : Bor (List ℕ)) (fs : List CodeField) → is_numbered p (code.Structure n name fs) ≡ true → Numbers (option_map (λ t. t.name) (slice_get p.types n)) (names_of (fields_at p n)) name.now fs
  structure_numbers n name fs h = numbers_by (option_map (λ t. t.name) (slice_get p.types n)) (names_of (fields_at p n)) name.now fs (sym (number-Structure p n name fs) ∙ h)

  pub class_numbers : (c : ℕ) (name : Bor (List ℕ)) (fs : List CodeField) → is_numbered p (code.Instance c name fs) ≡ true → Numbers (option_map (λ k. k.name) (class_at p c)) (names_of (class_variables p c)) name.now fs
  class_numbers c name fs h = numbers_by (option_map (λ k. k.name) (class_at p c)) (names_of (class_variables p c)) name.now fs (sym (number-Instance p c name fs) ∙ h)

  pub element_numbered : (low : ℤ) (n : ℕ) (sh : CodeShape) → is_numbered p (code.Array low n sh) ≡ true → is_numbered p sh ≡ true
  element_numbered low n sh h = sym (number-Array p low n sh) ∙ h

  pub field_numbered : (fs : List CodeField) (k : ℕ) (f : CodeField) → are_numbered p fs ≡ true → slice_get fs k ≡ Some f → is_numbered p f.shape ≡ true
  field_numbered [] k f h e = absurd cc
  field_numbered (x ∷ fs) zero f h e =
      let s : x ≡ f = cc in
      ap (λ (y : CodeField). is_numbered p y.shape) (sym s) ∙ sym (ap (λ y. y.1) (named-is p x)) ∙ front (is_named_numbered p x).1 (are_numbered p fs) h
  field_numbered (x ∷ fs) (suc k) f h e = field_numbered fs k f (back (is_named_numbered p x).1 (are_numbered p fs) h) e
