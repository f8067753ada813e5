-- What lists of initial values give.
use Rattle.std.proofs.Common.{◌≡◌, ◌≤◌, ◌<◌, ℕ, zero, suc, ◌+◌, ◌-◌, true, false, List, [], ◌∷◌, ◌++◌, length, get_or, take, drop, Some, None, refl, sym, ap, ◌∙◌, arith, append_assoc, append-nil}
use Rattle.std.specs.Borrow.{Bor}
use Rattle.std.specs.Prelude.{if◌then◌else◌, replicate}
use Rattle.std.proofs.lemmas.List.{take-append-le, length-map}
use Rattle.plc_text.specs.Words.{same}
use Rattle.st_tree.specs.declared.initial.FieldInit.{FieldInit}
use Rattle.st_tree.specs.declared.initial.Init.{Init}
use Rattle.st_tree.specs.declared.initial.Part.{Part as CodePart}
use Rattle.st_tree.specs.declared.program.Note.{Note}
use Rattle.st_tree.specs.Initial.{Initial, Part, One, Repeated, Parts, part_then, initial_of, part_of, parts_of, field_of, fields_of, field_of-name, field_of-value}
use Rattle.st_rules.proofs.ListLaws.{drop-at, drop-end, take-end}
use Rattle.st_values.specs.Initial.{given_for, listed}
use Rattle.program_tables.specs.st_initial.Given.{inits_of}
use Rattle.program_tables.specs.st_initial.Private.Given.{part_gives}

-- ---- the field of a name

module _ (name : List ℕ) (fields : List (FieldInit Note)) (i : ℕ) where
  abbrev pub FieldSought : Type 0
  FieldSought = given_for name (fields_of (drop i fields)) ≡ given_for name (fields_of fields)

  next_is : (x : FieldInit Note) → i < length fields → x ≡ get_or fields i x → FieldSought
      → (if same x.name name then Some (initial_of x.value) else given_for name (fields_of (drop (i + 1) fields))) ≡ given_for name (fields_of fields)
  next_is x h e left =
      sym (ap (λ fs. given_for name (fields_of fs)) (drop-at fields i x h e)
      ∙ ap (λ n. if same n name then Some (field_of x).2 else given_for name (fields_of (drop (i + 1) fields))) (field_of-name x)
      ∙ ap (λ v. if same x.name name then Some v else given_for name (fields_of (drop (i + 1) fields))) (field_of-value x))
      ∙ left

  pub field_found : (x : FieldInit Note) → i < length fields → x ≡ get_or fields i x → FieldSought → same x.name name ≡ true → Some (initial_of x.value) ≡ given_for name (fields_of fields)
  field_found x h e left t = sym (ap (λ b. if b then Some (initial_of x.value) else given_for name (fields_of (drop (i + 1) fields))) t) ∙ next_is x h e left

  pub field_next : (x : FieldInit Note) → i < length fields → x ≡ get_or fields i x → FieldSought → same x.name name ≡ false → given_for name (fields_of (drop (i + 1) fields)) ≡ given_for name (fields_of fields)
  field_next x h e left t = sym (ap (λ b. if b then Some (initial_of x.value) else given_for name (fields_of (drop (i + 1) fields))) t) ∙ next_is x h e left

  pub field_missing : length fields ≤ i → FieldSought → None ≡ given_for name (fields_of fields)
  field_missing h left = sym (ap (λ fs. given_for name (fields_of fs)) (drop-end fields i h)) ∙ left

-- ---- values that are repeated

module _ {A : Type 0} where
  -- as many as there may be
  pub full : (limit : ℕ) (xs ys : List A) → limit ≤ length xs → length xs ≤ limit → take limit (xs ++ ys) ≡ xs
  full limit xs ys h k = take-append-le limit xs ys h ∙ take-end xs limit k

  pub short : (limit : ℕ) (xs : List A) → length xs ≤ limit → take limit (xs ++ []) ≡ xs
  short limit xs h = ap (take limit) (append-nil xs) ∙ take-end xs limit h

  pub once_more : (xs : List A) (x : A) (left : ℕ) → 0 < left → (xs ++ x ∷ []) ++ replicate (left - 1) x ≡ xs ++ replicate left x
  once_more xs x left h =
      let e : suc (left - 1) ≡ left = omega arith in
      append_assoc xs (x ∷ []) (replicate (left - 1) x) ∙ ap (λ n. xs ++ replicate n x) e

  take_in : (n : ℕ) (xs ys : List A) → take n (take n xs ++ ys) ≡ take n (xs ++ ys)
  take_in zero xs ys = refl
  take_in (suc n) [] ys = refl
  take_in (suc n) (x ∷ xs) ys = ap (λ zs. x ∷ zs) (take_in n xs ys)

  -- what is cut off does not come back
  pub take_both : (n : ℕ) (xs ys zs ts : List A) → ts ≡ take n (xs ++ ys) → take n (ts ++ zs) ≡ take n (xs ++ (ys ++ zs))
  take_both n xs ys zs ts e = ap (λ t. take n (t ++ zs)) e ∙ take_in n (xs ++ ys) zs ∙ ap (take n) (append_assoc xs ys zs)

-- ---- parts

one_part : (p : Part Note) (ps : Parts Note) → listed (part_then p ps) ≡ part_gives p ++ listed ps
one_part (One i) ps = refl
one_part (Repeated line count i) ps = refl

pub next_part : (p : CodePart Note) (ps : List (CodePart Note)) → listed (parts_of (p ∷ ps)) ≡ part_gives (part_of p) ++ listed (parts_of ps)
next_part p ps = one_part (part_of p) (parts_of ps)

-- one part more
pub parts_step : (limit : ℕ) (ps : List (CodePart Note)) (i : ℕ) (p : CodePart Note) (xs ys t : List (Initial Note)) → i < length ps → p ≡ get_or ps i p → ys ≡ take limit (xs ++ part_gives (part_of p)) → take limit (xs ++ listed (parts_of (drop i ps))) ≡ t
    → take limit (ys ++ listed (parts_of (drop (i + 1) ps))) ≡ t
parts_step limit ps i p xs ys t h e is left =
    take_both limit xs (part_gives (part_of p)) (listed (parts_of (drop (i + 1) ps))) ys is
    ∙ ap (λ zs. take limit (xs ++ zs)) (sym (ap (λ qs. listed (parts_of qs)) (drop-at ps i p h e) ∙ next_part p (drop (i + 1) ps))) ∙ left

-- no more than there may be
pub inits_long : (limit : ℕ) (is : List (Bor (Init Note))) (xs : List (Initial Note)) → inits_of is ≡ take limit xs → length is ≤ limit
inits_long limit is xs e =
    let a : length (inits_of is) ≡ length is = length-map is (λ i. initial_of i.now) in
    let b : length (inits_of is) ≡ length (take limit xs) = ap length e in
    let c = taken limit xs in
    omega (arith, a, b, c)
  where
    taken : (n : ℕ) (ys : List (Initial Note)) → length (take n ys) ≤ n
    taken zero ys = omega arith
    taken (suc n) [] = omega arith
    taken (suc n) (y ∷ ys) = let l = taken n ys in omega (arith, l)
