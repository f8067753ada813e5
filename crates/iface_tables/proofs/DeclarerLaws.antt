-- The method that a way upward comes to, by the methods of a name, is the one that the rules look up.
use Rattle.std.proofs.Common.{◌≡◌, ℕ, zero, suc, ◌+◌, ◌-◌, ◌<◌, ◌≤◌, Bool, true, false, List, [], ◌∷◌, ◌++◌, Option, Some, None, map, refl, sym, ap, ◌∙◌, arith}
use Rattle.std.specs.Prelude.{nat_eq, ◌&&◌, ◌||◌, slice_get, option_map, option_and_then, is_some, if◌then◌else◌, length}
use Rattle.std.specs.List.{list_any}
use Rattle.std.proofs.lemmas.Bool.{eqb-true, eq-eqb}
use Rattle.plc_text.specs.Words.{same}
use Rattle.st_tree.specs.declared.declaration.InterfaceDecl.{InterfaceDecl}
use Rattle.st_tree.specs.declared.unit.Unit.{Unit}
use Rattle.st_rules.specs.declared.ids.PrototypeId.{PrototypeId}
use Rattle.st_rules.specs.Named.{first_place}
use Rattle.st_rules.specs.Numbered.{each_numbered, any_numbered}
use Rattle.st_rules.specs.Chains.{◌or_else◌}
use Rattle.st_rules.specs.Interfaces.{interfaces_in, extended, extends, prototype_names, prototype_id, own_prototype, declares, has_prototype, first_with, prototype_within, interface_lookup}
use Rattle.class_tables.proofs.BridgeLaws.{get-map}
use Rattle.iface_tables.specs.Private.Declarers.{Table, id_if, ids_of, ids_named, first_of, has_one, method_within, method_named}
use Rattle.iface_tables.specs.Private.Tables.{AreTables}

-- ---- the first by interface

or_none : {X : Type 0} (o : Option X) → (o or_else None) ≡ o
or_none None = refl
or_none (Some x) = refl

module _ (test : ℕ → Bool) (name : List ℕ) where
  -- the first of an interface that passes and declares the name, where the first interface has number n
  abbrev scan : ℕ → List (List (List ℕ)) → Option PrototypeId
  scan n [] = None
  scan n (names ∷ rest) = (if test n then option_map (prototype_id n) (first_place name names) else None) or_else scan (suc n) rest

  shifted : (n m : ℕ) (o : Option ℕ) → option_map (λ k. prototype_id n (m + k)) (option_map suc o) ≡ option_map (λ k. prototype_id n (suc m + k)) o
  shifted n m None = refl
  shifted n m (Some k) = ap (λ j. Some (prototype_id n j)) (let e : m + suc k ≡ suc m + k = omega arith in e)

  passing_at : (n m : ℕ) (xs : List (List ℕ)) (o : Option ℕ) (rest : List PrototypeId) (b : Bool) → test n ≡ true → first_of test (each_numbered (id_if name n) (suc m) xs ++ rest) ≡ (option_map (λ k. prototype_id n (suc m + k)) o or_else first_of test rest)
      → first_of test (((if b then prototype_id n m ∷ [] else []) ++ each_numbered (id_if name n) (suc m) xs) ++ rest) ≡ (option_map (λ k. prototype_id n (m + k)) (if b then Some 0 else option_map suc o) or_else first_of test rest)
  passing_at n m xs o rest true t h = ap (λ b. if b then Some (prototype_id n m) else first_of test (each_numbered (id_if name n) (suc m) xs ++ rest)) t ∙ ap (λ j. Some (prototype_id n j)) (let z : m ≡ m + 0 = omega arith in z)
  passing_at n m xs o rest false t h = h ∙ ap (λ o. o or_else first_of test rest) (sym (shifted n m o))

  passing : (n : ℕ) → test n ≡ true → (m : ℕ) (names : List (List ℕ)) (rest : List PrototypeId) → first_of test (each_numbered (id_if name n) m names ++ rest) ≡ (option_map (λ k. prototype_id n (m + k)) (first_place name names) or_else first_of test rest)
  passing n t m [] rest = refl
  passing n t m (x ∷ xs) rest = passing_at n m xs (first_place name xs) rest (same x name) t (passing n t (suc m) xs rest)

  failing_at : (n m : ℕ) (xs : List (List ℕ)) (rest : List PrototypeId) (b : Bool) → test n ≡ false → first_of test (each_numbered (id_if name n) (suc m) xs ++ rest) ≡ first_of test rest
      → first_of test (((if b then prototype_id n m ∷ [] else []) ++ each_numbered (id_if name n) (suc m) xs) ++ rest) ≡ first_of test rest
  failing_at n m xs rest true t h = ap (λ b. if b then Some (prototype_id n m) else first_of test (each_numbered (id_if name n) (suc m) xs ++ rest)) t ∙ h
  failing_at n m xs rest false t h = h

  failing : (n : ℕ) → test n ≡ false → (m : ℕ) (names : List (List ℕ)) (rest : List PrototypeId) → first_of test (each_numbered (id_if name n) m names ++ rest) ≡ first_of test rest
  failing n t m [] rest = refl
  failing n t m (x ∷ xs) rest = failing_at n m xs rest (same x name) t (failing n t (suc m) xs rest)

  from_zero : (n : ℕ) (o : Option ℕ) → option_map (λ k. prototype_id n (0 + k)) o ≡ option_map (prototype_id n) o
  from_zero n None = refl
  from_zero n (Some k) = ap (λ j. Some (prototype_id n j)) (let e : 0 + k ≡ k = omega arith in e)

  scanned_at : (n : ℕ) (names : List (List ℕ)) (rest : List PrototypeId) (o : Option PrototypeId) (b : Bool) → test n ≡ b → first_of test rest ≡ o
      → first_of test (ids_of name n names ++ rest) ≡ ((if b then option_map (prototype_id n) (first_place name names) else None) or_else o)
  scanned_at n names rest o true e h = passing n e 0 names rest ∙ ap (λ p. p or_else first_of test rest) (from_zero n (first_place name names)) ∙ ap (λ o. option_map (prototype_id n) (first_place name names) or_else o) h
  scanned_at n names rest o false e h = failing n e 0 names rest ∙ h

  scanned : (n : ℕ) (ps : List (List (List ℕ))) → first_of test (each_numbered (ids_of name) n ps) ≡ scan n ps
  scanned n [] = refl
  scanned n (names ∷ rest) = scanned_at n names (each_numbered (ids_of name) (suc n) rest) (scan (suc n) rest) (test n) refl (scanned (suc n) rest)

  none_scanned : (n : ℕ) (ps : List (List (List ℕ))) → ((k : ℕ) → n ≤ k → test k ≡ false) → scan n ps ≡ None
  none_scanned n [] h = refl
  none_scanned n (names ∷ rest) h =
      ap (λ b. (if b then option_map (prototype_id n) (first_place name names) else None) or_else scan (suc n) rest) (h n (let l : n ≤ n = omega arith in l))
      ∙ none_scanned (suc n) rest (λ k l. h k (let e : n ≤ k = omega (arith, l) in e))

not_eq : (m n : ℕ) → (m ≡ n → ⊥) → nat_eq m n ≡ false
not_eq m n h = at (nat_eq m n) refl
  where
    at : (b : Bool) → nat_eq m n ≡ b → nat_eq m n ≡ false
    at true e = absurd (h (eqb-true m n e))
    at false e = e

-- the interface's own
own_scanned : (name : List ℕ) (n d : ℕ) (ps : List (List (List ℕ))) → scan (λ j. nat_eq j (n + d)) name n ps ≡ option_map (prototype_id (n + d)) (option_and_then (first_place name) (slice_get ps d))
own_scanned name n d [] = refl
own_scanned name n zero (names ∷ rest) =
    ap (λ b. (if b then option_map (prototype_id n) (first_place name names) else None) or_else scan (λ j. nat_eq j (n + 0)) name (suc n) rest) (eq-eqb n (n + 0) (let e : n ≡ n + 0 = omega arith in e))
    ∙ ap (λ o. option_map (prototype_id n) (first_place name names) or_else o) (none_scanned (λ j. nat_eq j (n + 0)) name (suc n) rest (λ k l. not_eq k (n + 0) (λ e. omega (arith, l, e))))
    ∙ or_none (option_map (prototype_id n) (first_place name names))
    ∙ ap (λ j. option_map (prototype_id j) (first_place name names)) (let e : n ≡ n + 0 = omega arith in e)
own_scanned name n (suc d) (names ∷ rest) =
    ap (λ b. (if b then option_map (prototype_id n) (first_place name names) else None) or_else scan (λ j. nat_eq j (n + suc d)) name (suc n) rest) (not_eq n (n + suc d) (λ e. omega (arith, e)))
    ∙ ap (λ j. scan (λ i. nat_eq i j) name (suc n) rest) e ∙ own_scanned name (suc n) d rest ∙ ap (λ j. option_map (prototype_id j) (option_and_then (first_place name) (slice_get rest d))) (sym e)
  where
    e : n + suc d ≡ suc n + d
    e = omega arith

own_found : (name : List ℕ) (i : ℕ) (ps : List (List (List ℕ))) → scan (λ j. nat_eq j i) name 0 ps ≡ option_map (prototype_id i) (option_and_then (first_place name) (slice_get ps i))
own_found name i ps =
    ap (λ k. scan (λ j. nat_eq j k) name 0 ps) (sym e) ∙ own_scanned name 0 i ps ∙ ap (λ k. option_map (prototype_id k) (option_and_then (first_place name) (slice_get ps i))) e
  where
    e : 0 + i ≡ i
    e = omega arith

first_same : (f g : ℕ → Bool) → ((k : ℕ) → f k ≡ g k) → (ks : List ℕ) → first_with f ks ≡ first_with g ks
first_same f g h [] = refl
first_same f g h (k ∷ ks) = ap (λ b. if b then Some k else first_with f ks) (h k) ∙ ap (λ o. if g k then Some k else o) (first_same f g h ks)

then_same : {X Y : Type 0} (f g : X → Option Y) → ((x : X) → f x ≡ g x) → (o : Option X) → option_and_then f o ≡ option_and_then g o
then_same f g h None = refl
then_same f g h (Some x) = h x

module _ (interfaces : List (InterfaceDecl ℕ)) (name : List ℕ) where
  own_there : (i : ℕ) → option_map (prototype_id i) (option_and_then (first_place name) (slice_get (map prototype_names interfaces) i)) ≡ own_prototype interfaces name i
  own_there i = ap (λ o. option_map (prototype_id i) (option_and_then (first_place name) o)) (get-map prototype_names interfaces i) ∙ at (slice_get interfaces i)
    where
      at : (o : Option (InterfaceDecl ℕ)) → option_map (prototype_id i) (option_and_then (first_place name) (option_map prototype_names o)) ≡ option_map (prototype_id i) (option_and_then (λ interface. first_place name (prototype_names interface)) o)
      at None = refl
      at (Some interface) = refl

  -- ---- what has one

  none_there : (t r : Bool) → r ≡ ((t && false) || r)
  none_there true r = refl
  none_there false r = refl

  joined : (t b : Bool) (o : Option ℕ) (r all : Bool) → all ≡ ((t && is_some o) || r) → (if b then (t || all) else all) ≡ ((t && is_some (if b then Some 0 else option_map suc o)) || r)
  joined true true o r all h = refl
  joined false true o r all h = h
  joined t false None r all h = h
  joined t false (Some k) r all h = h

  module _ (test : ℕ → Bool) where
    abbrev of_id : PrototypeId → Bool
    of_id id = test id.interface

    with_id : (n m : ℕ) (b : Bool) (ys rest : List PrototypeId) → list_any of_id (((if b then prototype_id n m ∷ [] else []) ++ ys) ++ rest) ≡ (if b then (test n || list_any of_id (ys ++ rest)) else list_any of_id (ys ++ rest))
    with_id n m true ys rest = refl
    with_id n m false ys rest = refl

    any_own : (n m : ℕ) (names : List (List ℕ)) (rest : List PrototypeId) → list_any of_id (each_numbered (id_if name n) m names ++ rest) ≡ ((test n && is_some (first_place name names)) || list_any of_id rest)
    any_own n m [] rest = none_there (test n) (list_any of_id rest)
    any_own n m (x ∷ xs) rest =
        with_id n m (same x name) (each_numbered (id_if name n) (suc m) xs) rest
        ∙ joined (test n) (same x name) (first_place name xs) (list_any of_id rest) (list_any of_id (each_numbered (id_if name n) (suc m) xs ++ rest)) (any_own n (suc m) xs rest)

    any_named : (n : ℕ) (is : List (InterfaceDecl ℕ)) → list_any of_id (each_numbered (ids_of name) n (map prototype_names is)) ≡ any_numbered (λ j interface. test j && declares name interface) n is
    any_named n [] = refl
    any_named n (i ∷ is) =
        any_own n 0 (prototype_names i) (each_numbered (ids_of name) (suc n) (map prototype_names is))
        ∙ ap (λ b. (test n && declares name i) || b) (any_named (suc n) is)

  -- ---- what is meant

  abbrev ids : List PrototypeId
  ids = ids_named (map prototype_names interfaces) name

  own_is : (i : ℕ) → first_of (λ j. nat_eq j i) ids ≡ own_prototype interfaces name i
  own_is i = scanned (λ j. nat_eq j i) name 0 (map prototype_names interfaces) ∙ own_found name i (map prototype_names interfaces) ∙ own_there i

  has_same : (i : ℕ) → has_one interfaces ids i ≡ has_prototype interfaces name i
  has_same i = any_named (extends interfaces i) 0 interfaces

  within_same : (n i : ℕ) → method_within interfaces ids n i ≡ prototype_within interfaces name n i
  within_same zero i = refl
  within_same (suc n) i =
      ap (λ o. o or_else option_and_then (method_within interfaces ids n) (first_with (has_one interfaces ids) (extended interfaces i))) (own_is i)
      ∙ ap (λ o. own_prototype interfaces name i or_else option_and_then (method_within interfaces ids n) o) (first_same (has_one interfaces ids) (has_prototype interfaces name) has_same (extended interfaces i))
      ∙ ap (λ o. own_prototype interfaces name i or_else o)
      (then_same (method_within interfaces ids n) (prototype_within interfaces name n) (λ k. within_same n k) (first_with (has_prototype interfaces name) (extended interfaces i)))

  pub looked_up : (i : ℕ) → method_within interfaces ids (length interfaces) i ≡ interface_lookup interfaces i name
  unfolding interface_lookup
  looked_up i = within_same (length interfaces) i

pub method_found : (unit : Unit) (prototypes : List (List (List ℕ))) (table : Table) → AreTables unit prototypes table → (i : ℕ) (name : List ℕ) → method_named unit table i name ≡ interface_lookup (interfaces_in unit.decls) i name
method_found unit prototypes table t i name =
    ap (λ ids. method_within (interfaces_in unit.decls) ids (length (interfaces_in unit.decls)) i) (t.declarers name ∙ ap (λ ps. ids_named ps name) t.names) ∙ looked_up (interfaces_in unit.decls) name i

-- ---- the way upward, one interface after the other

pub within_next : (interfaces : List (InterfaceDecl ℕ)) (ids : List PrototypeId) (k i : ℕ) → 0 < k
    → method_within interfaces ids k i ≡ (first_of (λ j. nat_eq j i) ids or_else option_and_then (method_within interfaces ids (k - 1)) (first_with (has_one interfaces ids) (extended interfaces i)))
within_next interfaces ids zero i h = absurd (omega arith)
within_next interfaces ids (suc k) i h =
    let e : suc k - 1 ≡ k = omega arith in
    ap (λ n. first_of (λ j. nat_eq j i) ids or_else option_and_then (method_within interfaces ids n) (first_with (has_one interfaces ids) (extended interfaces i))) (sym e)
