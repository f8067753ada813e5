-- A name stands in one enumeration alone where the first that has it is the last.
use Rattle.std.proofs.Common.{◌≡◌, ◌≤◌, ℕ, zero, suc, ◌+◌, nat_eq, Bool, true, false, List, [], ◌∷◌, ◌++◌, Option, Some, None, refl, sym, ap, ◌∙◌, arith, add-one}
use Rattle.std.specs.Prelude.{if◌then◌else◌, option_map, option_and_then, ◌||◌}
use Rattle.std.specs.List.{list_any}
use Rattle.std.proofs.lemmas.Bool.{eqb-true, eq-eqb}
use Rattle.plc_text.specs.Words.{same}
use Rattle.st_rules.specs.declared.names.TypeParts.{TypeParts}
use Rattle.st_rules.specs.Named.{first_place}
use Rattle.st_rules.specs.Numbered.{each_numbered}
use Rattle.st_rules.specs.Scope.{Meant, an_enumerator, value_names, value_named, only_enumerator}
use Rattle.name_resolution.specs.Private.Places.{items_at}
use Rattle.name_resolution.specs.Private.Enumerators.{has_value, first_having, last_having, lone}

no_some : {X : Type 0} {x : X} → None ≡ Some x → ⊥
no_some h = cc

no_none : {X : Type 0} {x : X} → Some x ≡ None → ⊥
no_none h = cc

same_some : {X : Type 0} {x y : X} → Some x ≡ Some y → x ≡ y
same_some h = cc

true-false : true ≡ false → ⊥
true-false h = cc

differ : (m n : ℕ) → (m ≡ n → ⊥) → nat_eq m n ≡ false
differ m n h = at (nat_eq m n) refl
  where
    at : (b : Bool) → nat_eq m n ≡ b → nat_eq m n ≡ false
    at true e = absurd (h (eqb-true m n e))
    at false e = e

placed_at : (b : Bool) (o : Option ℕ) (r : Bool) → (b || r) ≡ true → (r ≡ true → (k : ℕ) × (o ≡ Some k)) → (k : ℕ) × ((if b then Some 0 else option_map suc o) ≡ Some k)
placed_at true o r h f = (0, refl)
placed_at false o r h f = let p = f h in (suc p.0, ap (option_map suc) p.1)

unplaced_at : (b : Bool) (o : Option ℕ) (r : Bool) → (b || r) ≡ false → (r ≡ false → o ≡ None) → (if b then Some 0 else option_map suc o) ≡ None
unplaced_at true o r h f = absurd (true-false h)
unplaced_at false o r h f = ap (option_map suc) (f h)

-- the values of the part of this number, where the list begins at number i
abbrev names_from : ℕ → List TypeParts → ℕ → List (List ℕ)
names_from i [] n = []
names_from i (p ∷ ps) n = if nat_eq n i then value_names p else names_from (i + 1) ps n

names_there : (i n : ℕ) (ps : List TypeParts) → names_from i ps (i + n) ≡ items_at value_names ps n
names_there i n [] = refl
names_there i zero (p ∷ ps) = ap (λ b. if b then value_names p else names_from (i + 1) ps (i + 0)) (eq-eqb (i + 0) i (omega arith))
names_there i (suc n) (p ∷ ps) =
    ap (λ b. if b then value_names p else names_from (i + 1) ps (i + suc n)) (differ (i + suc n) i (λ e. omega arith))
    ∙ ap (names_from (i + 1) ps) (let e : i + suc n ≡ i + 1 + n = omega arith in e) ∙ names_there (i + 1) n ps

module _ (name : List ℕ) where
  -- a name has a place where it is among the names
  placed : (ns : List (List ℕ)) → list_any (λ n. same n name) ns ≡ true → (k : ℕ) × (first_place name ns ≡ Some k)
  placed [] h = absurd (true-false (sym h))
  placed (n ∷ ns) h = placed_at (same n name) (first_place name ns) (list_any (λ m. same m name) ns) h (placed ns)

  unplaced : (ns : List (List ℕ)) → list_any (λ n. same n name) ns ≡ false → first_place name ns ≡ None
  unplaced [] h = refl
  unplaced (n ∷ ns) h = unplaced_at (same n name) (first_place name ns) (list_any (λ m. same m name) ns) h (unplaced ns)

  abbrev those : ℕ → List TypeParts → List (ℕ × ℕ)
  those i ps = each_numbered (value_named name) i ps

  abbrev one : ℕ → Option ℕ → List (ℕ × ℕ)
  one i None = []
  one i (Some k) = (i, k) ∷ []

  one_is : (i : ℕ) (p : TypeParts) → value_named name i p ≡ one i (first_place name (value_names p))
  one_is i p = refl

  first_later : (i : ℕ) (ps : List TypeParts) (n : ℕ) → first_having i ps name ≡ Some n → i ≤ n
  first_later i [] n h = absurd (no_some h)
  first_later i (p ∷ ps) n h = at (has_value name p) h (first_later (i + 1) ps n)
    where
      at : (b : Bool) → (if b then Some i else first_having (i + 1) ps name) ≡ Some n → (first_having (i + 1) ps name ≡ Some n → i + 1 ≤ n) → i ≤ n
      at true h f = let e = same_some h in omega arith
      at false h f = let e = f h in omega arith

  last_kept : (before : Option ℕ) (i : ℕ) (ps : List TypeParts) → first_having i ps name ≡ None → last_having before i ps name ≡ before
  last_kept before i [] h = refl
  last_kept before i (p ∷ ps) h = at (has_value name p) h (last_kept before (i + 1) ps)
    where
      at : (b : Bool) → (if b then Some i else first_having (i + 1) ps name) ≡ None → (first_having (i + 1) ps name ≡ None → last_having before (i + 1) ps name ≡ before) → last_having (if b then Some i else before) (i + 1) ps name ≡ before
      at true h f = absurd (no_none h)
      at false h f = f h

  abbrev Later : ℕ → Option ℕ → Type 0
  Later i o = (m : ℕ) × (o ≡ Some m) × (i ≤ m)

  last_stays : (i j : ℕ) (ps : List TypeParts) (before : Option ℕ) → i ≤ j → Later i before → Later i (last_having before j ps name)
  last_stays i j [] before l h = h
  last_stays i j (p ∷ ps) before l h = last_stays i (j + 1) ps (if has_value name p then Some j else before) (omega arith) (at (has_value name p))
    where
      at : (b : Bool) → Later i (if b then Some j else before)
      at true = (j, refl, l)
      at false = h

  last_later : (before : Option ℕ) (i : ℕ) (ps : List TypeParts) (n : ℕ) → first_having i ps name ≡ Some n → Later i (last_having before i ps name)
  last_later before i [] n h = absurd (no_some h)
  last_later before i (p ∷ ps) n h = at (has_value name p) h (last_later before (i + 1) ps n)
    where
      wider : (o : Option ℕ) → Later (i + 1) o → Later i o
      wider o h = let l = h.2 in (h.0, h.1, omega (arith, l))

      at : (b : Bool) → (if b then Some i else first_having (i + 1) ps name) ≡ Some n → (first_having (i + 1) ps name ≡ Some n → Later (i + 1) (last_having before (i + 1) ps name)) → Later i (last_having (if b then Some i else before) (i + 1) ps name)
      at true h f = last_stays i (i + 1) ps (Some i) (omega arith) (i, refl, omega arith)
      at false h f = wider _ (f h)

  none_having : (i : ℕ) (ps : List TypeParts) → first_having i ps name ≡ None → those i ps ≡ []
  none_having i [] h = refl
  none_having i (p ∷ ps) h = at (has_value name p) refl h (none_having (i + 1) ps)
    where
      at : (b : Bool) → has_value name p ≡ b → (if b then Some i else first_having (i + 1) ps name) ≡ None → (first_having (i + 1) ps name ≡ None → those (i + 1) ps ≡ []) → those i (p ∷ ps) ≡ []
      at true e h f = absurd (no_none h)
      at false e h f = ap (λ o. one i o ++ those (suc i) ps) (unplaced (value_names p) e) ∙ ap (λ n. those n ps) (sym (add-one i)) ∙ f h

  -- what the bare name means, from the one enumeration that has it
  abbrev meant_from : ℕ → List TypeParts → Option ℕ → Option Meant
  meant_from i ps o = option_and_then (λ n. option_map (an_enumerator n) (first_place name (names_from i ps n))) o

  -- further on in the list the numbers are greater
  meant_later : (i : ℕ) (p : TypeParts) (ps : List TypeParts) (o : Option ℕ) → ((n : ℕ) → o ≡ Some n → i + 1 ≤ n) → meant_from (i + 1) ps o ≡ meant_from i (p ∷ ps) o
  meant_later i p ps None h = refl
  meant_later i p ps (Some n) h =
      ap (λ b. option_map (an_enumerator n) (first_place name (if b then value_names p else names_from (i + 1) ps n))) (sym (differ n i (λ e. let l = h n refl in omega (arith, l, e))))

  lone_some : (o p : Option ℕ) (n : ℕ) → lone o p ≡ Some n → o ≡ Some n
  lone_some None p n h = absurd (no_some h)
  lone_some (Some m) None n h = absurd (no_some h)
  lone_some (Some m) (Some k) n h = at (nat_eq m k) h
    where
      at : (b : Bool) → (if b then Some m else None) ≡ Some n → Some m ≡ Some n
      at true h = h
      at false h = absurd (no_some h)

  without : (i : ℕ) (p : TypeParts) (ps : List TypeParts) → has_value name p ≡ false → those i (p ∷ ps) ≡ those (i + 1) ps
  without i p ps e = ap (λ o. one i o ++ those (suc i) ps) (unplaced (value_names p) e) ∙ ap (λ n. those n ps) (sym (add-one i))

  with_one : (i : ℕ) (p : TypeParts) (ps : List TypeParts) (k : ℕ) → first_place name (value_names p) ≡ Some k → those i (p ∷ ps) ≡ (i, k) ∷ those (i + 1) ps
  with_one i p ps k e = ap (λ o. one i o ++ those (suc i) ps) e ∙ ap (λ n. (i, k) ∷ those n ps) (sym (add-one i))

  some_having : (i : ℕ) (ps : List TypeParts) (n : ℕ) → first_having i ps name ≡ Some n → (x : ℕ × ℕ) × (xs : List (ℕ × ℕ)) × (those i ps ≡ x ∷ xs)
  some_having i [] n h = absurd (no_some h)
  some_having i (p ∷ ps) n h = at (has_value name p) refl h (some_having (i + 1) ps n)
    where
      at : (b : Bool) → has_value name p ≡ b → (if b then Some i else first_having (i + 1) ps name) ≡ Some n
          → (first_having (i + 1) ps name ≡ Some n → (x : ℕ × ℕ) × (xs : List (ℕ × ℕ)) × (those (i + 1) ps ≡ x ∷ xs)) → (x : ℕ × ℕ) × (xs : List (ℕ × ℕ)) × (those i (p ∷ ps) ≡ x ∷ xs)
      at true e h f = let k = placed (value_names p) e in ((i, k.0), those (i + 1) ps, with_one i p ps k.0 k.1)
      at false e h f = let r = f h in (r.0, r.1, without i p ps e ∙ r.2)

  -- where the first part has the name: alone, or not
  first_alone : (i : ℕ) (p : TypeParts) (ps : List TypeParts) → has_value name p ≡ true → (o : Option ℕ) → first_having (i + 1) ps name ≡ o
      → only_enumerator (those i (p ∷ ps)) ≡ meant_from i (p ∷ ps) (lone (Some i) (last_having (Some i) (i + 1) ps name))
  first_alone i p ps e None h =
      let k = placed (value_names p) e in
      ap only_enumerator (with_one i p ps k.0 k.1 ∙ ap (λ xs. (i, k.0) ∷ xs) (none_having (i + 1) ps h))
      ∙ ap (option_map (an_enumerator i)) (sym k.1)
      ∙ ap (λ b. option_map (an_enumerator i) (first_place name (if b then value_names p else names_from (i + 1) ps i))) (sym (eq-eqb i i refl))
      ∙ ap (λ b. meant_from i (p ∷ ps) (if b then Some i else None)) (sym (eq-eqb i i refl))
      ∙ ap (λ o. meant_from i (p ∷ ps) (lone (Some i) o)) (sym (last_kept (Some i) (i + 1) ps h))
  first_alone i p ps e (Some n) h =
      let k = placed (value_names p) e in
      let r = some_having (i + 1) ps n h in
      let m = last_later (Some i) (i + 1) ps n h in
      ap only_enumerator (with_one i p ps k.0 k.1 ∙ ap (λ xs. (i, k.0) ∷ xs) r.2)
      ∙ ap (λ b. meant_from i (p ∷ ps) (if b then Some i else None)) (sym (differ i m.0 (λ q. let l = m.2 in omega (arith, l, q))))
      ∙ ap (λ o. meant_from i (p ∷ ps) (lone (Some i) o)) (sym m.1)

  only_lone : (i : ℕ) (ps : List TypeParts) → only_enumerator (those i ps) ≡ meant_from i ps (lone (first_having i ps name) (last_having None i ps name))
  only_lone i [] = refl
  only_lone i (p ∷ ps) = at (has_value name p) refl (only_lone (i + 1) ps)
    where
      at : (b : Bool) → has_value name p ≡ b → only_enumerator (those (i + 1) ps) ≡ meant_from (i + 1) ps (lone (first_having (i + 1) ps name) (last_having None (i + 1) ps name))
          → only_enumerator (those i (p ∷ ps)) ≡ meant_from i (p ∷ ps) (lone (if b then Some i else first_having (i + 1) ps name) (last_having (if b then Some i else None) (i + 1) ps name))
      at true e f = first_alone i p ps e (first_having (i + 1) ps name) refl
      at false e f =
          ap only_enumerator (without i p ps e) ∙ f
          ∙ meant_later i p ps (lone (first_having (i + 1) ps name) (last_having None (i + 1) ps name)) (λ n h. first_later (i + 1) ps n (lone_some _ _ n h))

  from_start : (ps : List TypeParts) (o : Option ℕ) → meant_from 0 ps o ≡ option_and_then (λ n. option_map (an_enumerator n) (first_place name (items_at value_names ps n))) o
  from_start ps None = refl
  from_start ps (Some n) = ap (λ ns. option_map (an_enumerator n) (first_place name ns)) (ap (names_from 0 ps) (let e : n ≡ 0 + n = omega arith in e) ∙ names_there 0 n ps)

  pub enumerator_alone : (ps : List TypeParts) → only_enumerator (each_numbered (value_named name) 0 ps)
      ≡ option_and_then (λ n. option_map (an_enumerator n) (first_place name (items_at value_names ps n))) (lone (first_having 0 ps name) (last_having None 0 ps name))
  enumerator_alone ps = only_lone 0 ps ∙ from_start ps (lone (first_having 0 ps name) (last_having None 0 ps name))
