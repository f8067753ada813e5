-- A table of a list is filled from the end of the list.
use Rattle.std.proofs.Common.{◌≡◌, ◌≤◌, ◌<◌, ℕ, ◌+◌, ◌-◌, Bool, true, false, List, ◌∷◌, length, get_or, drop, Option, Some, None, refl, sym, ap, ◌∙◌, arith}
use Rattle.std.specs.Prelude.{if◌then◌else◌, option_map, slice_get}
use Rattle.std.proofs.lemmas.Option.{slice_get-get_or}
use Rattle.plc_text.specs.Words.{same}
use Rattle.st_tree.specs.declared.initial.FieldInit.{FieldInit}
use Rattle.st_tree.specs.declared.program.Note.{Note}
use Rattle.st_tree.specs.Initial.{Initial, initial_of, field_of, fields_of, field_of-name, field_of-value}
use Rattle.st_rules.proofs.ListLaws.{drop-at, drop-end}
use Rattle.st_values.specs.Initial.{given_for}
use Rattle.initial_trees.specs.Private.Given.{Table, found_in, given_at, Finds}

module _ (fields : List (FieldInit Note)) where
  -- what the list gives from place i on is in the table
  pub record FromHere (i : ℕ) (table : Table) : Type 0 where
    pub within : i ≤ length fields
    pub finds : (n : List ℕ) → given_at fields (found_in table n) ≡ given_for n (fields_of (drop i fields))

  pub from_end : (i : ℕ) (table : Table) → i ≡ length fields → ((n : List ℕ) → found_in table n ≡ None) → FromHere i table
  from_end i table e h = record {
    within = omega (arith, e);
    finds = λ n. ap (given_at fields) (h n) ∙ sym (ap (λ fs. given_for n (fields_of fs)) (drop-end fields i (omega (arith, e))));
  }

  here : (b : Bool) (k : ℕ) (x : FieldInit Note) (o : Option ℕ) → slice_get fields k ≡ Some x → given_at fields (if b then Some k else o) ≡ (if b then Some (initial_of x.value) else given_at fields o)
  here true k x o e = ap (option_map (λ (f : FieldInit Note). initial_of f.value)) e
  here false k x o e = refl

  first_is : (k : ℕ) (x : FieldInit Note) (n : List ℕ) → k < length fields → x ≡ get_or fields k x → given_for n (fields_of (drop k fields)) ≡ (if same x.name n then Some (initial_of x.value) else given_for n (fields_of (drop (k + 1) fields)))
  first_is k x n l is =
      ap (λ fs. given_for n (fields_of fs)) (drop-at fields k x l is)
      ∙ ap (λ m. if same m n then Some (field_of x).2 else given_for n (fields_of (drop (k + 1) fields))) (field_of-name x)
      ∙ ap (λ v. if same x.name n then Some v else given_for n (fields_of (drop (k + 1) fields))) (field_of-value x)

  pub from_next : (i : ℕ) (table new : Table) (x : FieldInit Note) → 0 < i → x ≡ get_or fields (i - 1) x → FromHere i table → ((n : List ℕ) → found_in new n ≡ (if same (get_or fields (i - 1) x).name n then Some (i - 1) else found_in table n)) → FromHere (i - 1) new
  from_next i table new x h is so_far put =
      let w = so_far.within in
      record { within = omega (arith, w); finds = λ n. at n }
    where
      at : (n : List ℕ) → given_at fields (found_in new n) ≡ given_for n (fields_of (drop (i - 1) fields))
      at n =
          let w = so_far.within in
          let e : (i - 1) + 1 ≡ i = omega (arith, h) in
          let l : i - 1 < length fields = omega (arith, h, w) in
          ap (given_at fields) (put n ∙ ap (λ (y : FieldInit Note). if same y.name n then Some (i - 1) else found_in table n) (sym is))
          ∙ here (same x.name n) (i - 1) x (found_in table n) (slice_get-get_or fields (i - 1) x l ∙ ap Some (sym is))
          ∙ ap (λ o. if same x.name n then Some (initial_of x.value) else o) (so_far.finds n ∙ sym (ap (λ m. given_for n (fields_of (drop m fields))) e))
          ∙ sym (first_is (i - 1) x n l is)

  pub from_all : (i : ℕ) (table : Table) → i ≡ 0 → FromHere i table → Finds table fields
  from_all i table e so_far = record { by = λ n. so_far.finds n ∙ ap (λ m. given_for n (fields_of (drop m fields))) e }
