-- Tables of the variables that declarations have.
use Rattle.std.proofs.Common.{◌≡◌, ◌≤◌, ◌<◌, ℕ, zero, suc, ◌+◌, ◌-◌, List, [], ◌∷◌, ◌++◌, length, get_or, Some, None, refl, sym, ap, ◌∙◌, subst, arith, inl, inr, ◌⊎◌}
use Rattle.std.specs.Prelude.{slice_get, reverse}
use Rattle.std.proofs.lemmas.Option.{slice_get_past, slice_get_read}
use Rattle.std.proofs.lemmas.List.{length-append, length-map}
use Rattle.st_tree.specs.declared.program.Program.{Program as CheckedProgram}
use Rattle.st_values.specs.Program.{Variable, own_variables, class_variables}
use Rattle.st_values.specs.View.{program_of, type_entry}
use Rattle.program_tables.specs.declared.st_initial.variables.Variable as held
use Rattle.program_tables.specs.st_initial.Variables.{variables_of, fields_at}
use Rattle.program_tables.specs.st_initial.Members.{items_at, list_at}
use Rattle.program_tables.proofs.ClassLaws.{only, program_climbs}
use Rattle.program_tables.proofs.st_initial.VariableLaws.{fields_there}

-- these are the first lists
pub record FirstLists (all : List (List held.Variable)) (n : ℕ) (of : ℕ → List Variable) : Type 0 where
  pub long : length all ≡ n
  pub each : (k : ℕ) → k < n → list_at all k ≡ of k

pub no_lists : (of : ℕ → List Variable) → FirstLists [] 0 of
no_lists of = record { long = refl; each = λ k h. absurd (omega arith) }

at_end : {A : Type 0} (xs : List A) (x : A) → slice_get (xs ++ x ∷ []) (length xs) ≡ Some x
at_end [] x = refl
at_end (y ∷ xs) x = at_end xs x

before_end : {A : Type 0} (xs ys : List A) (k : ℕ) → k < length xs → slice_get (xs ++ ys) k ≡ slice_get xs k
before_end [] ys k h = absurd (omega arith)
before_end (x ∷ xs) ys zero h = refl
before_end (x ∷ xs) ys (suc k) h = before_end xs ys k (omega arith)

pub one_list : (all : List (List held.Variable)) (n : ℕ) (of : ℕ → List Variable) (vs : List held.Variable) → FirstLists all n of → variables_of vs ≡ of n → FirstLists (all ++ vs ∷ []) (n + 1) of
one_list all n of vs f e =
    let l = f.long in
    let m : length all + 1 ≡ n + 1 = omega (arith, l) in
    record { long = length-append all (vs ∷ []) ∙ m; each = λ k h. by k h (split k h) }
  where
    split : (k : ℕ) → k < n + 1 → (k < n) ⊎ (k ≡ n)
    split k h = less k n (omega arith)
      where
        less : (a b : ℕ) → a ≤ b → (a < b) ⊎ (a ≡ b)
        less zero zero h = inr refl
        less zero (suc b) h = inl (omega arith)
        less (suc a) zero h = absurd (omega arith)
        less (suc a) (suc b) h = elim (less a b (omega arith)) [ inl p ↦ inl (omega arith) | inr p ↦ inr (ap suc p) ]

    by : (k : ℕ) → k < n + 1 → (k < n) ⊎ (k ≡ n) → list_at (all ++ vs ∷ []) k ≡ of k
    by k h (inl p) = let l = f.long in let q : k < length all = omega (arith, l) in ap (λ o. variables_of (items_at o)) (before_end all (vs ∷ []) k q) ∙ f.each k p
    by k h (inr p) =
        let q : k ≡ length all = p ∙ sym f.long in
        ap (λ j. list_at (all ++ vs ∷ []) j) q ∙ ap (λ o. variables_of (items_at o)) (at_end all vs) ∙ e ∙ ap of (sym p)

-- the same where the list is the one of a number that is equal
pub next_list : (all new : List (List held.Variable)) (n k : ℕ) (of : ℕ → List Variable) (vs ws : List held.Variable) → FirstLists all n of → k ≡ n → variables_of ws ≡ of k → vs ≡ ws → new ≡ all ++ vs ∷ [] → FirstLists new (n + 1) of
next_list all new n k of vs ws f e h q p = subst (λ (xs : List (List held.Variable)). FirstLists xs (n + 1) of) (sym p) (one_list all n of vs f (ap variables_of q ∙ h ∙ ap of e))

-- and all of them where there are no more
pub all_lists : (all : List (List held.Variable)) (n : ℕ) (of : ℕ → List Variable) → FirstLists all n of → ((k : ℕ) → n ≤ k → of k ≡ []) → (k : ℕ) → list_at all k ≡ of k
all_lists all n of f none k = by (split k n)
  where
    split : (a b : ℕ) → (a < b) ⊎ (b ≤ a)
    split zero zero = inr (omega arith)
    split zero (suc b) = inl (omega arith)
    split (suc a) zero = inr (omega arith)
    split (suc a) (suc b) = elim (split a b) [ inl p ↦ inl (omega arith) | inr p ↦ inr (omega arith) ]

    by : (k < n) ⊎ (n ≤ k) → list_at all k ≡ of k
    by (inl p) = f.each k p
    by (inr p) = let l = f.long in let q : length all ≤ k = omega (arith, l) in ap (λ o. variables_of (items_at o)) (slice_get_past all k q) ∙ sym (none k p)

module _ (p : CheckedProgram) where
  pub no_fields_past : (k : ℕ) → length p.types ≤ k → fields_at (program_of p) k ≡ []
  no_fields_past k h = fields_there p k None (slice_get_past p.types k h)

  pub no_variables_past : (k : ℕ) → length p.classes + length p.programs ≤ k → class_variables (program_of p) k ≡ []
  unfolding class_variables
  no_variables_past k h =
      let a : length p.classes ≤ k = omega arith in
      let b : length p.programs ≤ k - length p.classes = omega arith in
      ap (λ cs. own_variables (program_of p) (reverse cs)) (program_climbs p k a ∙ ap (only k) (slice_get_past p.programs (k - length p.classes) b))

-- ---- how many there are

pub count_types : (p : CheckedProgram) → length (program_of p).types ≡ length p.types
count_types p = length-map p.types type_entry

-- ---- looking up

pub list_within : (all : List (List held.Variable)) (k : ℕ) (vs : List held.Variable) → k < length all → vs ≡ get_or all k vs → variables_of vs ≡ list_at all k
list_within all k vs h e = sym (ap (λ o. variables_of (items_at o)) (slice_get_read all (length all) k vs refl h e))

pub list_past : (all : List (List held.Variable)) (k : ℕ) → length all ≤ k → [] ≡ list_at all k
list_past all k h = sym (ap (λ o. variables_of (items_at o)) (slice_get_past all k h))
