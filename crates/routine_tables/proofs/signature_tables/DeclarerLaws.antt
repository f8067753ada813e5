-- The method that a way upward comes to has the parameters that the meaning looks up.
use Rattle.std.proofs.Common.{◌≡◌, ◌≤◌, ◌<◌, ℕ, zero, suc, ◌+◌, ◌-◌, Bool, true, false, List, [], ◌∷◌, ◌++◌, length, Option, Some, None, map, refl, sym, ap, ◌∙◌, arith, inl, inr}
use Rattle.std.specs.Prelude.{nat_eq, nat_lt, ◌&&◌, ◌||◌, is_some, slice_get, option_map, option_and_then, unwrap_or, flat_map, filter_map, if◌then◌else◌}
use Rattle.std.specs.List.{list_any, cons_option}
use Rattle.std.proofs.lemmas.Bool.{eqb-true, eq-eqb}
use Rattle.std.proofs.lemmas.List.Folds.{list_any-append}
use Rattle.std.proofs.lemmas.Slice.Eq.{bytes_eq-Decides}
use Rattle.plc_text.specs.Words.{same}
use Rattle.st_tree.specs.declared.declaration.InterfaceDecl.{InterfaceDecl}
use Rattle.st_tree.specs.declared.declaration.Prototype.{Prototype}
use Rattle.st_tree.specs.declared.program.Note.{Note}
use Rattle.st_tree.specs.declared.program.Program.{Program as CheckedProgram}
use Rattle.st_rules.specs.declared.ids.PrototypeId.{PrototypeId}
use Rattle.st_rules.specs.Named.{first_place}
use Rattle.st_rules.specs.Numbered.{any_numbered}
use Rattle.st_rules.specs.Chains.{is_among, ◌or_else◌}
use Rattle.st_rules.specs.Interfaces.{interfaces_named, extended, extends, prototype_names, prototype_id, prototype_at, own_prototype, declares, has_prototype, first_with, prototype_within, interface_lookup}
use Rattle.st_rules.proofs.Booleans.{none≢some, true≢false, or-first, or-second}
use Rattle.st_rules.proofs.InterfaceLaws.{extended_within}
use Rattle.st_values.specs.Program.{Parameter, Signature, Interface}
use Rattle.st_values.specs.View.{signature_of, meant_in, interfaces_from, program_of}
use Rattle.st_meaning.specs.st_frame.Use as use_words
use Rattle.st_meaning.specs.st_frame.Use.{interface_parameters}
use Rattle.program_tables.specs.Interfaces.{is_extended}
use Rattle.program_tables.proofs.RoutineLaws.{below}
use Rattle.routine_tables.specs.declared.signature_tables.declarers.Declared.{Declared}
use Rattle.routine_tables.specs.declared.signature_tables.tables.SignatureTables.{SignatureTables}
use Rattle.routine_tables.specs.signature_tables.Private.Declarers.{Signed, signed_one, signed, declared_in, all_named, named_from, first_of, has_one, given_within}
use Rattle.routine_tables.specs.signature_tables.Tables.{Declares}

-- ---- what is noted

pub signed_more : (xs : List Declared) (d : Declared) (m : Prototype Note) (b : Bool) (i : ℕ) → signed_one d ≡ (i, (signature_of m).parameters)
    → signed (xs ++ (if b then d ∷ [] else [])) ≡ signed xs ++ (if b then (i, (signature_of m).parameters) ∷ [] else [])
signed_more [] d m true i h = ap (λ s. s ∷ []) h
signed_more [] d m false i h = refl
signed_more (x ∷ xs) d m b i h = ap (λ s. signed_one x ∷ s) (signed_more xs d m b i h)

-- ---- the first of a name

abbrev first_signed : List ℕ → List Signature → Option (List Parameter)
first_signed name [] = None
first_signed name (m ∷ ms) = if same m.name name then Some m.parameters else first_signed name ms

signed_is : (name : List ℕ) (ms : List Signature) → use_words.signed ms name ≡ unwrap_or (first_signed name ms) []
signed_is name [] = refl
signed_is name (m ∷ ms) = at (same m.name name) (signed_is name ms)
  where
    at : (b : Bool) → use_words.signed ms name ≡ unwrap_or (first_signed name ms) [] → (if b then m.parameters else use_words.signed ms name) ≡ unwrap_or (if b then Some m.parameters else first_signed name ms) []
    at true h = refl
    at false h = h

-- ---- the first by interface

abbrev methods_first : List ℕ → InterfaceDecl Note → Option (List Parameter)
methods_first name d = first_signed name (map signature_of d.methods)

first_append : (test : ℕ → Bool) (xs ys : List Signed) → first_of test (xs ++ ys) ≡ (first_of test xs or_else first_of test ys)
first_append test [] ys = refl
first_append test (m ∷ ms) ys = at (test m.0) (first_append test ms ys)
  where
    at : (b : Bool) → first_of test (ms ++ ys) ≡ (first_of test ms or_else first_of test ys)
        → (if b then Some m.1 else first_of test (ms ++ ys)) ≡ ((if b then Some m.1 else first_of test ms) or_else first_of test ys)
    at true h = refl
    at false h = h

module _ (test : ℕ → Bool) (name : List ℕ) where
  -- the first of an interface that passes and declares the name, where the first interface has number n
  abbrev scan : ℕ → List (InterfaceDecl Note) → Option (List Parameter)
  scan n [] = None
  scan n (d ∷ ds) = (if test n then methods_first name d else None) or_else scan (suc n) ds

  passing : (n : ℕ) → test n ≡ true → (ms : List (Prototype Note)) → first_of test (all_named name n ms) ≡ first_signed name (map signature_of ms)
  passing n t [] = refl
  passing n t (m ∷ ms) = at (same m.name.text name) (passing n t ms)
    where
      at : (b : Bool) → first_of test (all_named name n ms) ≡ first_signed name (map signature_of ms)
          → first_of test ((if b then (n, (signature_of m).parameters) ∷ [] else []) ++ all_named name n ms) ≡ (if b then Some (signature_of m).parameters else first_signed name (map signature_of ms))
      at true h = ap (λ b. if b then Some (signature_of m).parameters else first_of test (all_named name n ms)) t
      at false h = h

  failing : (n : ℕ) → test n ≡ false → (ms : List (Prototype Note)) → first_of test (all_named name n ms) ≡ None
  failing n t [] = refl
  failing n t (m ∷ ms) = at (same m.name.text name) (failing n t ms)
    where
      at : (b : Bool) → first_of test (all_named name n ms) ≡ None → first_of test ((if b then (n, (signature_of m).parameters) ∷ [] else []) ++ all_named name n ms) ≡ None
      at true h = ap (λ b. if b then Some (signature_of m).parameters else first_of test (all_named name n ms)) t ∙ h
      at false h = h

  scanned : (n : ℕ) (ds : List (InterfaceDecl Note)) → first_of test (named_from name n ds) ≡ scan n ds
  scanned n [] = refl
  scanned n (d ∷ ds) =
      first_append test (all_named name n d.methods) (named_from name (suc n) ds)
      ∙ ap (λ o. o or_else first_of test (named_from name (suc n) ds)) (one (test n) refl)
      ∙ ap (λ o. (if test n then methods_first name d else None) or_else o) (scanned (suc n) ds)
    where
      one : (b : Bool) → test n ≡ b → first_of test (all_named name n d.methods) ≡ (if b then methods_first name d else None)
      one true t = passing n t d.methods
      one false t = failing n t d.methods

  none_scanned : (n : ℕ) (ds : List (InterfaceDecl Note)) → ((k : ℕ) → n ≤ k → test k ≡ false) → scan n ds ≡ None
  none_scanned n [] h = refl
  none_scanned n (d ∷ ds) h =
      ap (λ b. (if b then methods_first name d else None) or_else scan (suc n) ds) (h n (let l : n ≤ n = omega arith in l))
      ∙ none_scanned (suc n) ds (λ k l. h k (let e : n ≤ k = omega (arith, l) in e))

not_eq : (m n : ℕ) → (m ≡ n → ⊥) → nat_eq m n ≡ false
not_eq m n h = at (nat_eq m n) refl
  where
    at : (b : Bool) → nat_eq m n ≡ b → nat_eq m n ≡ false
    at true e = absurd (h (eqb-true m n e))
    at false e = e

or_none : {X : Type 0} (o : Option X) → (o or_else None) ≡ o
or_none None = refl
or_none (Some x) = refl

-- the interface's own
own_scanned : (name : List ℕ) (n d : ℕ) (ds : List (InterfaceDecl Note)) → scan (λ j. nat_eq j (n + d)) name n ds ≡ option_and_then (methods_first name) (slice_get ds d)
own_scanned name n d [] = refl
own_scanned name n zero (x ∷ xs) =
    ap (λ b. (if b then methods_first name x else None) or_else scan (λ j. nat_eq j (n + 0)) name (suc n) xs) (eq-eqb n (n + 0) (let e : n ≡ n + 0 = omega arith in e))
    ∙ ap (λ o. methods_first name x or_else o) (none_scanned (λ j. nat_eq j (n + 0)) name (suc n) xs (λ k l. not_eq k (n + 0) (λ e. omega (arith, l, e))))
    ∙ or_none (methods_first name x)
own_scanned name n (suc d) (x ∷ xs) =
    ap (λ b. (if b then methods_first name x else None) or_else scan (λ j. nat_eq j (n + suc d)) name (suc n) xs) (not_eq n (n + suc d) (λ e. omega (arith, e)))
    ∙ ap (λ j. scan (λ i. nat_eq i j) name (suc n) xs) e ∙ own_scanned name (suc n) d xs
  where
    e : n + suc d ≡ suc n + d
    e = omega arith

own_found : (name : List ℕ) (i : ℕ) (ds : List (InterfaceDecl Note)) → scan (λ j. nat_eq j i) name 0 ds ≡ option_and_then (methods_first name) (slice_get ds i)
own_found name i ds = ap (λ k. scan (λ j. nat_eq j k) name 0 ds) (sym e) ∙ own_scanned name 0 i ds
  where
    e : 0 + i ≡ i
    e = omega arith

-- ---- a method by its place

abbrev names_of : List (Prototype Note) → List (List ℕ)
names_of ms = map (λ m. m.name.text) ms

abbrev given_by : Prototype Note → List Parameter
given_by m = (signature_of m).parameters

some_same : {X : Type 0} (x y : X) → Some x ≡ Some y → x ≡ y
some_same x y e = cc

place_is : (name : List ℕ) (ms : List (Prototype Note)) → first_signed name (map signature_of ms) ≡ option_and_then (λ k. option_map given_by (slice_get ms k)) (first_place name (names_of ms))
place_is name [] = refl
place_is name (m ∷ ms) = at (same m.name.text name) (place_is name ms)
  where
    behind : (o : Option ℕ) → option_and_then (λ k. option_map given_by (slice_get ms k)) o ≡ option_and_then (λ k. option_map given_by (slice_get (m ∷ ms) k)) (option_map suc o)
    behind None = refl
    behind (Some k) = refl

    at : (b : Bool) → first_signed name (map signature_of ms) ≡ option_and_then (λ k. option_map given_by (slice_get ms k)) (first_place name (names_of ms))
        → (if b then Some (given_by m) else first_signed name (map signature_of ms)) ≡ option_and_then (λ k. option_map given_by (slice_get (m ∷ ms) k)) (if b then Some 0 else option_map suc (first_place name (names_of ms)))
    at true h = refl
    at false h = h ∙ behind (first_place name (names_of ms))

-- a method of a name
abbrev IsNamed : List ℕ → Option (Prototype Note) → Type 0
IsNamed name o = (m : Prototype Note) × (o ≡ Some m) × (same m.name.text name ≡ true)

placed : (name : List ℕ) (ms : List (Prototype Note)) (k : ℕ) → first_place name (names_of ms) ≡ Some k → IsNamed name (slice_get ms k)
placed name [] k e = absurd (none≢some e)
placed name (m ∷ ms) k e = at (λ j f. placed name ms j f) (same m.name.text name) refl (first_place name (names_of ms)) refl e
  where
    at : ((j : ℕ) → first_place name (names_of ms) ≡ Some j → IsNamed name (slice_get ms j)) → (b : Bool) → same m.name.text name ≡ b → (o : Option ℕ) → first_place name (names_of ms) ≡ o
        → (if b then Some 0 else option_map suc o) ≡ Some k → IsNamed name (slice_get (m ∷ ms) k)
    at h true s o f g = (m, ap (slice_get (m ∷ ms)) (sym (some_same 0 k g)), s)
    at h false s None f g = absurd (none≢some g)
    at h false s (Some j) f g = let r = h j f in (r.0, ap (slice_get (m ∷ ms)) (sym (some_same (suc j) k g)) ∙ r.1, r.2)

-- ---- what a name means

module _ (is : List (InterfaceDecl Note)) where
  abbrev parameters_at : PrototypeId → Option (List Parameter)
  parameters_at id = option_map given_by (prototype_at is id)

  module _ (name : List ℕ) where
    own_meant : (i : ℕ) → option_and_then (methods_first name) (slice_get is i) ≡ option_and_then parameters_at (own_prototype is name i)
    own_meant i = at (slice_get is i) refl
      where
        behind : (d : InterfaceDecl Note) → slice_get is i ≡ Some d → (o : Option ℕ) → option_and_then (λ k. option_map given_by (slice_get d.methods k)) o ≡ option_and_then parameters_at (option_map (prototype_id i) o)
        behind d e None = refl
        behind d e (Some k) = sym (ap (λ q. option_map given_by (option_and_then (λ (x : InterfaceDecl Note). slice_get x.methods k) q)) e)

        at : (o : Option (InterfaceDecl Note)) → slice_get is i ≡ o → option_and_then (methods_first name) o ≡ option_and_then parameters_at (option_map (prototype_id i) (option_and_then (λ x. first_place name (prototype_names x)) o))
        at None e = refl
        at (Some d) e = place_is name d.methods ∙ behind d e (first_place name (prototype_names d))

    own_there : (i : ℕ) (id : PrototypeId) → own_prototype is name i ≡ Some id → IsNamed name (prototype_at is id)
    own_there i id e = at (slice_get is i) refl e
      where
        in_it : (d : InterfaceDecl Note) → slice_get is i ≡ Some d → (o : Option ℕ) → first_place name (prototype_names d) ≡ o → option_map (prototype_id i) o ≡ Some id → IsNamed name (prototype_at is id)
        in_it d f None h g = absurd (none≢some g)
        in_it d f (Some k) h g =
            let r = placed name d.methods k h in
            (r.0, ap (prototype_at is) (sym (some_same (prototype_id i k) id g)) ∙ ap (option_and_then (λ (x : InterfaceDecl Note). slice_get x.methods k)) f ∙ r.1, r.2)

        at : (o : Option (InterfaceDecl Note)) → slice_get is i ≡ o → option_map (prototype_id i) (option_and_then (λ x. first_place name (prototype_names x)) o) ≡ Some id → IsNamed name (prototype_at is id)
        at None f g = absurd (none≢some g)
        at (Some d) f g = in_it d f (first_place name (prototype_names d)) refl g

    within_there : (n i : ℕ) (id : PrototypeId) → prototype_within is name n i ≡ Some id → IsNamed name (prototype_at is id)
    within_there zero i id e = absurd (none≢some e)
    within_there (suc n) i id e = at (λ k g. within_there n k id g) (own_prototype is name i) refl (first_with (has_prototype is name) (extended is i)) e
      where
        at : ((k : ℕ) → prototype_within is name n k ≡ Some id → IsNamed name (prototype_at is id)) → (o : Option PrototypeId) → own_prototype is name i ≡ o → (k : Option ℕ)
            → (o or_else option_and_then (prototype_within is name n) k) ≡ Some id → IsNamed name (prototype_at is id)
        at h (Some x) f k g = own_there i id (f ∙ g)
        at h None f None g = absurd (none≢some g)
        at h None f (Some k) g = h k g

    or_then : (a b : Option PrototypeId) → ((id : PrototypeId) → a ≡ Some id → IsNamed name (prototype_at is id))
        → option_and_then parameters_at (a or_else b) ≡ (option_and_then parameters_at a or_else option_and_then parameters_at b)
    or_then None b h = refl
    or_then (Some id) b h = let r = h id refl in ap (option_map given_by) r.1 ∙ sym (ap (λ o. option_map given_by o or_else option_and_then parameters_at b) r.1)

-- ---- what has one

and_none : (t : Bool) → (t && false) ≡ false
and_none true = refl
and_none false = refl

joined : (t b : Bool) (o : Option ℕ) (all : Bool) → all ≡ (t && is_some o) → (if b then (t || all) else all) ≡ (t && is_some (if b then Some 0 else option_map suc o))
joined true true o all h = refl
joined false true o all h = h
joined t false None all h = h
joined t false (Some k) all h = h

module _ (name : List ℕ) where
  module _ (test : ℕ → Bool) where
    abbrev of_signed : Signed → Bool
    of_signed m = test m.0

    with_one : (n : ℕ) (x : List Parameter) (b : Bool) (ys : List Signed) → list_any of_signed ((if b then (n, x) ∷ [] else []) ++ ys) ≡ (if b then (test n || list_any of_signed ys) else list_any of_signed ys)
    with_one n x true ys = refl
    with_one n x false ys = refl

    any_method : (n : ℕ) (ms : List (Prototype Note)) → list_any of_signed (all_named name n ms) ≡ (test n && is_some (first_place name (names_of ms)))
    any_method n [] = sym (and_none (test n))
    any_method n (m ∷ ms) =
        with_one n (given_by m) (same m.name.text name) (all_named name n ms)
        ∙ joined (test n) (same m.name.text name) (first_place name (names_of ms)) (list_any of_signed (all_named name n ms)) (any_method n ms)

    any_named : (n : ℕ) (ds : List (InterfaceDecl Note)) → list_any of_signed (named_from name n ds) ≡ any_numbered (λ j d. test j && declares name d) n ds
    any_named n [] = refl
    any_named n (d ∷ ds) =
        list_any-append of_signed (all_named name n d.methods) (named_from name (suc n) ds)
        ∙ ap (λ b. b || list_any of_signed (named_from name (suc n) ds)) (any_method n d.methods)
        ∙ ap (λ b. (test n && declares name d) || b) (any_named (suc n) ds)

  numbered_same : (f g : ℕ → Bool) (n : ℕ) (ds : List (InterfaceDecl Note)) → ((k : ℕ) → n ≤ k → k < n + length ds → f k ≡ g k)
      → any_numbered (λ j d. f j && declares name d) n ds ≡ any_numbered (λ j d. g j && declares name d) n ds
  numbered_same f g n [] h = refl
  numbered_same f g n (d ∷ ds) h =
      ap (λ b. (b && declares name d) || any_numbered (λ j d. f j && declares name d) (suc n) ds) (h n (let l : n ≤ n = omega arith in l) (let l : n < n + suc (length ds) = omega arith in l))
      ∙ ap (λ b. (g n && declares name d) || b) (numbered_same f g (suc n) ds (λ k l u. h k (let e : n ≤ k = omega (arith, l) in e) (let e : k < n + suc (length ds) = omega (arith, u) in e)))

is_below : (a b : ℕ) → a < b → nat_lt a b ≡ true
is_below a b l = elim (below a b) [
  | inl h ↦ h.1
  | inr h ↦ let k = h.0 in absurd (omega (arith, l, k))
]

first_same : (f g : ℕ → Bool) (ks : List ℕ) → ((k : ℕ) → is_among k ks ≡ true → f k ≡ g k) → first_with f ks ≡ first_with g ks
first_same f g [] h = refl
first_same f g (k ∷ ks) h =
    ap (λ b. if b then Some k else first_with f ks) (h k (or-first (nat_eq k k) (is_among k ks) (eq-eqb k k refl)))
    ∙ ap (λ o. if g k then Some k else o) (first_same f g ks (λ j e. h j (or-second (nat_eq j k) (is_among j ks) e)))

then_through : {X Y Z : Type 0} (f : X → Option Z) (g : X → Option Y) (h : Y → Option Z) → ((x : X) → f x ≡ option_and_then h (g x)) → (o : Option X) → option_and_then f o ≡ option_and_then h (option_and_then g o)
then_through f g h e None = refl
then_through f g h e (Some x) = e x

-- ---- the way upward comes to what is meant

module _ (is : List (InterfaceDecl Note)) (name : List ℕ) where
  abbrev all : List Signed
  all = named_from name 0 is

  own_part : (i : ℕ) → first_of (λ j. nat_eq j i) all ≡ option_and_then (methods_first name) (slice_get is i)
  own_part i = scanned (λ j. nat_eq j i) name 0 is ∙ own_found name i is

  has_same : (i : ℕ) → i < length is → has_one is all i ≡ has_prototype is name i
  has_same i l = any_named name (is_extended is i) 0 is ∙ numbered_same name (is_extended is i) (extends is i) 0 is within
    where
      within : (k : ℕ) → 0 ≤ k → k < 0 + length is → is_extended is i k ≡ extends is i k
      within k z u =
          ap (λ b. if b then (if nat_lt k (length is) then extends is i k else false) else false) (is_below i (length is) l)
          ∙ ap (λ b. if b then extends is i k else false) (is_below k (length is) (let v : k < length is = omega (arith, u) in v))

  given_same : (n i : ℕ) → given_within is all n i ≡ option_and_then (parameters_at is) (prototype_within is name n i)
  given_same zero i = refl
  given_same (suc n) i =
      ap (λ o. o or_else option_and_then (given_within is all n) (first_with (has_one is all) (extended is i))) (own_part i ∙ own_meant is name i)
      ∙ ap (λ o. option_and_then (parameters_at is) (own_prototype is name i) or_else option_and_then (given_within is all n) o)
      (first_same (has_one is all) (has_prototype is name) (extended is i) (λ k e. has_same k ((extended_within is).within i k e).1))
      ∙ ap (λ o. option_and_then (parameters_at is) (own_prototype is name i) or_else o)
      (then_through (given_within is all n) (prototype_within is name n) (parameters_at is) (λ k. given_same n k) (first_with (has_prototype is name) (extended is i)))
      ∙ sym (or_then is name (own_prototype is name i) (option_and_then (prototype_within is name n) (first_with (has_prototype is name) (extended is i))) (own_there is name i))

  none_past : (n i : ℕ) → slice_get is i ≡ None → given_within is all n i ≡ None
  none_past zero i e = refl
  none_past (suc n) i e =
      ap (λ o. o or_else option_and_then (given_within is all n) (first_with (has_one is all) (extended is i))) (own_part i ∙ ap (option_and_then (methods_first name)) e)
      ∙ ap (λ o. option_and_then (given_within is all n) (first_with (has_one is all) (unwrap_or (option_map (λ (d : InterfaceDecl Note). interfaces_named is d.bases) o) []))) e

-- ---- what names mean in an interface

module _ (is : List (InterfaceDecl Note)) (i : ℕ) where
  meant_is : (q : List ℕ) → meant_in is i q ≡ option_map signature_of (option_and_then (prototype_at is) (prototype_within is q (length is) i))
  unfolding interface_lookup
  meant_is q = refl

  meant_name : (q : List ℕ) (s : Signature) → meant_in is i q ≡ Some s → same s.name q ≡ true
  meant_name q s e = at (prototype_within is q (length is) i) refl (sym (meant_is q) ∙ e)
    where
      at : (o : Option PrototypeId) → prototype_within is q (length is) i ≡ o → option_map signature_of (option_and_then (prototype_at is) o) ≡ Some s → same s.name q ≡ true
      at None f g = absurd (none≢some g)
      at (Some id) f g =
          let r = within_there is q (length is) i id f in
          ap (λ (x : Signature). same x.name q) (some_same s (signature_of r.0) (sym g ∙ ap (option_map signature_of) r.1)) ∙ r.2

  module _ (name : List ℕ) where
    abbrev given_here : Option (List Parameter)
    given_here = option_map (λ (s : Signature). s.parameters) (meant_in is i name)

    given_is : given_here ≡ option_and_then (parameters_at is) (prototype_within is name (length is) i)
    given_is = ap (option_map (λ (s : Signature). s.parameters)) (meant_is name) ∙ at (prototype_within is name (length is) i)
      where
        there : (o : Option (Prototype Note)) → option_map (λ (s : Signature). s.parameters) (option_map signature_of o) ≡ option_map given_by o
        there None = refl
        there (Some m) = refl

        at : (o : Option PrototypeId) → option_map (λ (s : Signature). s.parameters) (option_map signature_of (option_and_then (prototype_at is) o)) ≡ option_and_then (parameters_at is) o
        at None = refl
        at (Some id) = there (prototype_at is id)

    abbrev is_name : List ℕ → Bool
    is_name q = same q name

    either_none : {X : Type 0} (b : Bool) (o : Option X) → o ≡ None → (if b then o else None) ≡ o
    either_none true o e = refl
    either_none false o e = sym e

    listed : (qs : List (List ℕ)) → first_signed name (filter_map (meant_in is i) qs) ≡ (if list_any is_name qs then given_here else None)
    listed [] = refl
    listed (q ∷ qs) = at (meant_in is i q) refl (same q name) refl (listed qs)
      where
        as_here : same q name ≡ true → meant_in is i name ≡ meant_in is i q
        as_here e = ap (meant_in is i) (sym ((bytes_eq-Decides q name).0 e))

        at : (o : Option Signature) → meant_in is i q ≡ o → (b : Bool) → same q name ≡ b → first_signed name (filter_map (meant_in is i) qs) ≡ (if list_any is_name qs then given_here else None)
            → first_signed name (cons_option o (filter_map (meant_in is i) qs)) ≡ (if (b || list_any is_name qs) then given_here else None)
        at None e true f h = h ∙ either_none (list_any is_name qs) given_here (ap (option_map (λ (s : Signature). s.parameters)) (as_here f ∙ e))
        at None e false f h = h
        at (Some s) e true f h =
            ap (λ b. if b then Some s.parameters else first_signed name (filter_map (meant_in is i) qs)) (ap (λ t. same t name) ((bytes_eq-Decides s.name q).0 (meant_name q s e)) ∙ f)
            ∙ sym (ap (option_map (λ (x : Signature). x.parameters)) (as_here f ∙ e))
        at (Some s) e false f h = ap (λ b. if b then Some s.parameters else first_signed name (filter_map (meant_in is i) qs)) (ap (λ t. same t name) ((bytes_eq-Decides s.name q).0 (meant_name q s e)) ∙ f) ∙ h

    in_methods : (ms : List (Prototype Note)) (k : ℕ) (m : Prototype Note) → slice_get ms k ≡ Some m → same m.name.text name ≡ true → list_any is_name (names_of ms) ≡ true
    in_methods [] k m e s = absurd (none≢some e)
    in_methods (x ∷ ms) zero m e s = or-first (same x.name.text name) (list_any is_name (names_of ms)) (ap (λ (y : Prototype Note). same y.name.text name) (some_same x m e) ∙ s)
    in_methods (x ∷ ms) (suc k) m e s = or-second (same x.name.text name) (list_any is_name (names_of ms)) (in_methods ms k m e s)

    in_interfaces : (ds : List (InterfaceDecl Note)) (j : ℕ) (d : InterfaceDecl Note) → slice_get ds j ≡ Some d → list_any is_name (prototype_names d) ≡ true → list_any is_name (flat_map prototype_names ds) ≡ true
    in_interfaces [] j d e h = absurd (none≢some e)
    in_interfaces (x ∷ ds) zero d e h =
        list_any-append is_name (prototype_names x) (flat_map prototype_names ds)
        ∙ or-first (list_any is_name (prototype_names x)) (list_any is_name (flat_map prototype_names ds)) (ap (λ (y : InterfaceDecl Note). list_any is_name (prototype_names y)) (some_same x d e) ∙ h)
    in_interfaces (x ∷ ds) (suc j) d e h =
        list_any-append is_name (prototype_names x) (flat_map prototype_names ds)
        ∙ or-second (list_any is_name (prototype_names x)) (list_any is_name (flat_map prototype_names ds)) (in_interfaces ds j d e h)

    among_all : (id : PrototypeId) (m : Prototype Note) → prototype_at is id ≡ Some m → same m.name.text name ≡ true → list_any is_name (flat_map prototype_names is) ≡ true
    among_all id m e s = at (slice_get is id.interface) refl e
      where
        at : (o : Option (InterfaceDecl Note)) → slice_get is id.interface ≡ o → option_and_then (λ (x : InterfaceDecl Note). slice_get x.methods id.method) o ≡ Some m → list_any is_name (flat_map prototype_names is) ≡ true
        at None f g = absurd (none≢some g)
        at (Some d) f g = in_interfaces is id.interface d f (in_methods d.methods id.method m g s)

    in_any : (b : Bool) → list_any is_name (flat_map prototype_names is) ≡ b → given_here ≡ (if b then given_here else None)
    in_any true e = refl
    in_any false e = given_is ∙ at (prototype_within is name (length is) i) refl
      where
        at : (o : Option PrototypeId) → prototype_within is name (length is) i ≡ o → option_and_then (parameters_at is) o ≡ None
        at None f = refl
        at (Some id) f = let r = within_there is name (length is) i id f in absurd (true≢false (sym (among_all id r.0 r.1 r.2) ∙ e))

    first_meant : first_signed name (filter_map (meant_in is i) (flat_map prototype_names is)) ≡ option_and_then (parameters_at is) (prototype_within is name (length is) i)
    first_meant = listed (flat_map prototype_names is) ∙ sym (in_any (list_any is_name (flat_map prototype_names is)) refl) ∙ given_is

-- ---- the interface

abbrev interface_made : List (InterfaceDecl Note) → ℕ → InterfaceDecl Note → Interface
interface_made is k d = record { name = d.name.text; methods = filter_map (meant_in is k) (flat_map prototype_names is) }

interface_at : (is : List (InterfaceDecl Note)) (n i : ℕ) (ds : List (InterfaceDecl Note)) → slice_get (interfaces_from is n ds) i ≡ option_map (interface_made is (n + i)) (slice_get ds i)
interface_at is n i [] = refl
interface_at is n zero (d ∷ ds) = ap (λ k. Some (interface_made is k d)) (let e : n ≡ n + 0 = omega arith in e)
interface_at is n (suc i) (d ∷ ds) = interface_at is (suc n) i ds ∙ ap (λ k. option_map (interface_made is k) (slice_get ds i)) (let e : suc n + i ≡ n + suc i = omega arith in e)

interface_there : (is : List (InterfaceDecl Note)) (i : ℕ) → slice_get (interfaces_from is 0 is) i ≡ option_map (interface_made is i) (slice_get is i)
interface_there is i = interface_at is 0 i is ∙ ap (λ k. option_map (interface_made is k) (slice_get is i)) (let e : 0 + i ≡ i = omega arith in e)

module _ (is : List (InterfaceDecl Note)) (i : ℕ) (name : List ℕ) where
  looked_at : (o : Option (InterfaceDecl Note)) → slice_get is i ≡ o → unwrap_or (given_within is (named_from name 0 is) (length is) i) [] ≡ interface_parameters (option_map (interface_made is i) o) name
  looked_at None e = ap (λ o. unwrap_or o []) (none_past is name (length is) i e)
  looked_at (Some d) e =
      ap (λ o. unwrap_or o []) (given_same is name (length is) i ∙ sym (first_meant is i name))
      ∙ sym (signed_is name (filter_map (meant_in is i) (flat_map prototype_names is)))

  pub looked_up : unwrap_or (given_within is (named_from name 0 is) (length is) i) [] ≡ interface_parameters (slice_get (interfaces_from is 0 is) i) name
  looked_up = looked_at (slice_get is i) refl ∙ sym (ap (λ o. interface_parameters o name) (interface_there is i))

-- ---- what the tables give

module _ (p : CheckedProgram) (t : SignatureTables) (is : Declares p t) (i : ℕ) (name : List ℕ) (methods : List Declared) (noted : methods ≡ declared_in t.methods name) where
  abbrev sought : List Parameter
  sought = interface_parameters (slice_get (program_of p).interfaces i) name

  abbrev met : Option (List Parameter)
  met = given_within p.interfaces (signed methods) t.interfaces i

  is_sought : unwrap_or met [] ≡ sought
  is_sought =
      ap (λ n. unwrap_or (given_within p.interfaces (signed methods) n i) []) is.count
      ∙ ap (λ ms. unwrap_or (given_within p.interfaces ms (length p.interfaces) i) []) (ap signed noted ∙ is.methods name)
      ∙ looked_up p.interfaces i name

  pub found_is : (found : List Parameter) → met ≡ Some found → found ≡ sought
  found_is found e = sym (ap (λ o. unwrap_or o []) e) ∙ is_sought

  pub none_is : met ≡ None → [] ≡ sought
  none_is e = sym (ap (λ o. unwrap_or o []) e) ∙ is_sought

-- ---- the way upward, one interface after the other

pub within_next : (is : List (InterfaceDecl Note)) (ms : List Signed) (k i : ℕ) → 0 < k
    → given_within is ms k i ≡ (first_of (λ j. nat_eq j i) ms or_else option_and_then (given_within is ms (k - 1)) (first_with (has_one is ms) (extended is i)))
within_next is ms zero i h = absurd (omega arith)
within_next is ms (suc k) i h =
    let e : suc k - 1 ≡ k = omega arith in
    ap (λ n. first_of (λ j. nat_eq j i) ms or_else option_and_then (given_within is ms n) (first_with (has_one is ms) (extended is i))) (sym e)
