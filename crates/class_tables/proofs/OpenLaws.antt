-- Whether a class has an abstract method, by the number of names that mean one.
use Rattle.std.proofs.Common.{◌≡◌, ℕ, zero, suc, ◌<◌, Bool, true, false, List, [], ◌∷◌, Option, Some, None, length, refl, sym, ap, ◌∙◌, arith, nat_eq, ◌⊎◌, inl, inr}
use Rattle.std.specs.Prelude.{not, if◌then◌else◌, slice_get, option_map, unwrap_or}
use Rattle.std.specs.List.{list_any}
use Rattle.std.proofs.lemmas.Bool.{eqb-true, eq-eqb}
use Rattle.st_tree.specs.declared.declaration.ClassDecl.{ClassDecl}
use Rattle.st_tree.specs.declared.declaration.InterfaceDecl.{InterfaceDecl}
use Rattle.st_tree.specs.declared.declaration.Method.{Method}
use Rattle.st_rules.specs.declared.ids.MethodId.{MethodId}
use Rattle.st_rules.specs.Named.{first_place}
use Rattle.st_rules.specs.Numbered.{passes_if_there}
use Rattle.st_rules.specs.Chains.{is_among, nearest, ◌or_else◌}
use Rattle.st_rules.specs.Classes.{methods_in, method_names, chain, lookup}
use Rattle.st_rules.specs.InterfaceRules.{means_abstract, declares_one, has_abstract_method}
use Rattle.st_rules.proofs.Booleans.{cases, none≢some, some-same, true≢false, false≢true, either, or-first, or-second, any-parts, any-among, Among}
use Rattle.st_rules.proofs.ClassLaws.{first_place_within}
use Rattle.class_rows.specs.declared.unit_names.UnitNames.{UnitNames}
use Rattle.class_rows.specs.declared.rows.UnitRows.{UnitRows}
use Rattle.class_rows.specs.UnitNames.{all_names}
use Rattle.class_tables.specs.declared.absorb.State.{State}
use Rattle.class_tables.specs.declared.settle.Settled.{Settled}
use Rattle.class_tables.specs.Slots.{names_at}
use Rattle.class_tables.specs.Private.Store.{entry_of}
use Rattle.class_tables.specs.Private.Chain.{chain_in}
use Rattle.class_tables.specs.Private.Absorb.{first_number, tally, one_if, numbers_of, own_in, methods_at, lookup_in, is_abstract_row, is_abstract_entry}
use Rattle.class_tables.specs.Private.Settle.{IsSettled}
use Rattle.class_tables.specs.Private.Tables.{AreTables}
use Rattle.class_tables.specs.Private.Found as found
use Rattle.class_tables.proofs.AbsorbLaws.{tally_has}
use Rattle.class_tables.proofs.BridgeLaws.{In, number, all_in, get-map, numbers-at, chain-same, lookup-same, abstract-same}
use Rattle.class_tables.proofs.TableLaws.{no_state, no_abstract}

tally_some : (f : ℕ → Bool) (count : ℕ) → (tally f count ≡ 0 → ⊥) → (n : ℕ) × (n < count) × (f n ≡ true)
tally_some f zero h = absurd (h refl)
tally_some f (suc m) h = at (cases (f m)) (tally_some f m)
  where
    at : (f m ≡ true) ⊎ (f m ≡ false) → ((tally f m ≡ 0 → ⊥) → (n : ℕ) × (n < m) × (f n ≡ true)) → (n : ℕ) × (n < suc m) × (f n ≡ true)
    at (inl p) r = (m, (let l : m < suc m = omega arith in l), p)
    at (inr p) r =
        let one : one_if (f m) ≡ 0 = ap one_if p in
        let q = r (λ z. h (omega (arith, one, z))) in
        (q.0, (let l = q.1 in let k : q.0 < suc m = omega (arith, l) in k), q.2)

nearest_some : {X : Type 0} (has : ℕ → Option X) (cs : List ℕ) (x : X) → nearest has cs ≡ Some x → (d : ℕ) × (is_among d cs ≡ true) × (has d ≡ Some x)
nearest_some has [] x h = absurd (none≢some h)
nearest_some has (c ∷ cs) x h = at (has c) refl h (nearest_some has cs x)
  where
    at : (o : Option _) → has c ≡ o → (o or_else nearest has cs) ≡ Some x → (nearest has cs ≡ Some x → (d : ℕ) × (is_among d cs ≡ true) × (has d ≡ Some x)) → (d : ℕ) × (is_among d (c ∷ cs) ≡ true) × (has d ≡ Some x)
    at None e q r = let p = r q in (p.0, or-second (nat_eq p.0 c) (is_among p.0 cs) p.1, p.2)
    at (Some y) e q r = (c, or-first (nat_eq c c) (is_among c cs) (eq-eqb c c refl), e ∙ q)

number_there : (n : ℕ) (ns : List ℕ) (k : ℕ) → first_number n ns ≡ Some k → slice_get ns k ≡ Some n
number_there n [] k h = absurd (none≢some h)
number_there n (m ∷ ms) k h = at (cases (nat_eq m n)) (first_number n ms) refl h (number_there n ms)
  where
    at : (nat_eq m n ≡ true) ⊎ (nat_eq m n ≡ false) → (o : Option ℕ) → first_number n ms ≡ o → (if nat_eq m n then Some 0 else option_map (λ k. suc k) (first_number n ms)) ≡ Some k →
        ((j : ℕ) → first_number n ms ≡ Some j → slice_get ms j ≡ Some n) → slice_get (m ∷ ms) k ≡ Some n
    at (inl p) o e q r =
        let z : 0 ≡ k = some-same (sym (ap (λ b. if b then Some 0 else option_map (λ k. suc k) (first_number n ms)) p) ∙ q) in
        ap (slice_get (m ∷ ms)) (sym z) ∙ ap Some (eqb-true m n p)
    at (inr p) None e q r = absurd (none≢some (sym (ap (λ b. if b then Some 0 else option_map (λ k. suc k) (first_number n ms)) p ∙ ap (option_map (λ k. suc k)) e) ∙ q))
    at (inr p) (Some j) e q r =
        let z : suc j ≡ k = some-same (sym (ap (λ b. if b then Some 0 else option_map (λ k. suc k) (first_number n ms)) p ∙ ap (option_map (λ k. suc k)) e) ∙ q) in
        ap (slice_get (m ∷ ms)) (sym z) ∙ r j e

any_there : {X : Type 0} (test : X → Bool) (xs : List X) → list_any test xs ≡ true → (k : ℕ) × (x : X) × (slice_get xs k ≡ Some x) × (test x ≡ true)
any_there test [] h = absurd (false≢true h)
any_there test (x ∷ xs) h = at (either (test x) (list_any test xs) h) (any_there test xs)
  where
    at : (test x ≡ true) ⊎ (list_any test xs ≡ true) → (list_any test xs ≡ true → (k : ℕ) × (y : _) × (slice_get xs k ≡ Some y) × (test y ≡ true)) → (k : ℕ) × (y : _) × (slice_get (x ∷ xs) k ≡ Some y) × (test y ≡ true)
    at (inl p) r = (0, x, refl, p)
    at (inr p) r = let q = r p in (suc q.0, q.1, q.2, q.3)

there_any : {X : Type 0} (test : X → Bool) (xs : List X) (k : ℕ) (x : X) → slice_get xs k ≡ Some x → test x ≡ true → list_any test xs ≡ true
there_any test [] k x h t = absurd (none≢some h)
there_any test (y ∷ ys) zero x h t = or-first (test y) (list_any test ys) (ap test (some-same h) ∙ t)
there_any test (y ∷ ys) (suc k) x h t = or-second (test y) (list_any test ys) (there_any test ys k x h t)

module _ {A : Type 0} (classes : List (ClassDecl A)) (interfaces : List (InterfaceDecl A)) (names : UnitNames) (rows : UnitRows) (settled : Settled) (reach : List (List ℕ))
    (t : AreTables classes interfaces names rows settled reach) where
  means-row : (c n : ℕ) (name : List ℕ) → first_place name (all_names classes) ≡ Some n → is_abstract_row rows.classes (lookup_in rows.classes c n) ≡ means_abstract classes c name
  means-row c n name e = ap (is_abstract_row rows.classes) (lookup-same classes interfaces rows t.are_rows name n e c) ∙ abstract-same classes interfaces rows t.are_rows (lookup classes c name)

  -- a class declares a method of that name
  record Declared (d n : ℕ) : Type 0 where
    name : List ℕ
    place : first_place name (all_names classes) ≡ Some n
    class : ClassDecl A
    there : slice_get classes d ≡ Some class
    number_in : ℕ
    method : Method A
    is : slice_get (methods_in class.members) number_in ≡ Some method
    named : method.name.text ≡ name

  declares : (d n : ℕ) → Declared d n → (test : List ℕ → Bool) → ((name : List ℕ) → first_place name (all_names classes) ≡ Some n → test name ≡ true) → declares_one classes test d ≡ true
  declares d n p test h =
      ap (passes_if_there (λ class. list_any (λ m. test m.name.text) (methods_in class.members))) p.there
      ∙ there_any (λ m. test m.name.text) (methods_in (p.class).members) p.number_in p.method p.is (ap test p.named ∙ h p.name p.place)

  declared : (d n k : ℕ) → slice_get (numbers_of (methods_at rows.classes d)) k ≡ Some n → Declared d n
  declared d n k h = at (slice_get classes d) refl (sym (get-map (number (all_names classes)) (names_at classes d) k) ∙ sym (ap (λ ns. slice_get ns k) (numbers-at classes interfaces rows t.are_rows d)) ∙ h)
    where
      in_class : (class : ClassDecl A) → slice_get classes d ≡ Some class → (o : Option (Method A)) → slice_get (methods_in class.members) k ≡ o → option_map (number (all_names classes)) (option_map (λ (m : Method A). m.name.text) o) ≡ Some n → Declared d n
      in_class class e None f g = absurd (none≢some g)
      in_class class e (Some m) f g =
          let p : In m.name.text (all_names classes) = all_in classes d class e k m.name.text (get-map (λ (m : Method A). m.name.text) (methods_in class.members) k ∙ ap (option_map (λ (m : Method A). m.name.text)) f) in
          record {
            name = m.name.text;
            place = p.1 ∙ ap Some (sym (ap (λ o. unwrap_or o 0) p.1) ∙ some-same g);
            class = class;
            there = e;
            number_in = k;
            method = m;
            is = f;
            named = refl;
          }

      at : (o : Option (ClassDecl A)) → slice_get classes d ≡ o → option_map (number (all_names classes)) (slice_get (unwrap_or (option_map method_names o) []) k) ≡ Some n → Declared d n
      at None e g = absurd (none≢some g)
      at (Some class) e g =
          in_class class e (slice_get (methods_in class.members) k) refl (ap (option_map (number (all_names classes))) (sym (get-map (λ (m : Method A). m.name.text) (methods_in class.members) k)) ∙ g)

  module _ (c : ℕ) (s : State) (f : found.state_at settled c ≡ Some s) where
    abbrev test : ℕ → Bool
    test n = is_abstract_entry (entry_of settled.store s.methods n)

    settled_c : IsSettled rows.classes (length (all_names classes)) settled.store c s
    settled_c = t.states.settled c s f

    by_row : (n : ℕ) → n < length (all_names classes) → test n ≡ is_abstract_row rows.classes (lookup_in rows.classes c n)
    by_row n l = settled_c.holds.kinds n l

    from_number : (n : ℕ) → is_abstract_row rows.classes (lookup_in rows.classes c n) ≡ true → has_abstract_method classes c ≡ true
    unfolding lookup_in
    from_number n h = at (nearest (own_in rows.classes n) (chain_in rows.classes c)) refl h
      where
        own : (d : ℕ) (id : MethodId) (o : Option ℕ) → first_number n (numbers_of (methods_at rows.classes d)) ≡ o → option_map (λ m. record { class = d; method = m }) o ≡ Some id → Declared d n
        own d id None e g = absurd (none≢some g)
        own d id (Some k) e g = declared d n k (number_there n (numbers_of (methods_at rows.classes d)) k e)

        at : (o : Option MethodId) → nearest (own_in rows.classes n) (chain_in rows.classes c) ≡ o → is_abstract_row rows.classes o ≡ true → has_abstract_method classes c ≡ true
        at None e g = absurd (false≢true g)
        at (Some id) e g =
            let p = nearest_some (own_in rows.classes n) (chain_in rows.classes c) id e in
            any-among (declares_one classes (means_abstract classes c)) (chain classes c) p.0 (ap (is_among p.0) (sym (chain-same classes interfaces rows t.are_rows c)) ∙ p.1)
            (declares p.0 n (own p.0 id (first_number n (numbers_of (methods_at rows.classes p.0))) refl p.2) (means_abstract classes c) (λ name q. sym (means-row c n name q) ∙ h))

    to_abstract : (s.abstracts ≡ 0 → ⊥) → has_abstract_method classes c ≡ true
    to_abstract h =
        let open_is : s.abstracts ≡ tally test (length (all_names classes)) = settled_c.holds.abstracts in
        let p = tally_some test (length (all_names classes)) (λ z. h (open_is ∙ z)) in
        from_number p.0 (sym (by_row p.0 p.1) ∙ p.2)

    from_abstract : has_abstract_method classes c ≡ true → s.abstracts ≡ 0 → ⊥
    from_abstract h z = at (slice_get classes part.number) refl part.passes
      where
        part : Among (declares_one classes (means_abstract classes c)) (chain classes c)
        part = any-parts (declares_one classes (means_abstract classes c)) (chain classes c) h

        at : (o : Option (ClassDecl A)) → slice_get classes part.number ≡ o → passes_if_there (λ class. list_any (λ m. means_abstract classes c m.name.text) (methods_in class.members)) o ≡ true → ⊥
        at None e g = false≢true g
        at (Some class) e g =
            let m = any_there (λ (m : Method A). means_abstract classes c m.name.text) (methods_in class.members) g in
            let p : In (m.1).name.text (all_names classes) = all_in classes part.number class e m.0 (m.1).name.text (get-map (λ (m : Method A). m.name.text) (methods_in class.members) m.0 ∙ ap (option_map (λ (m : Method A). m.name.text)) m.2) in
            let l = first_place_within (m.1).name.text (all_names classes) p.0 p.1 in
            let is : test p.0 ≡ true = by_row p.0 l ∙ means-row c p.0 (m.1).name.text p.1 ∙ m.3 in
            let one : one_if (test p.0) ≡ 1 = ap one_if is in
            let many = tally_has test p.0 (length (all_names classes)) l in
            let open_is : s.abstracts ≡ tally test (length (all_names classes)) = settled_c.holds.abstracts in
            omega (arith, one, many, open_is, z)

    pub abstract_some : not (nat_eq s.abstracts 0) ≡ has_abstract_method classes c
    abstract_some = at (cases (nat_eq s.abstracts 0))
      where
        at : (nat_eq s.abstracts 0 ≡ true) ⊎ (nat_eq s.abstracts 0 ≡ false) → not (nat_eq s.abstracts 0) ≡ has_abstract_method classes c
        at (inl p) = ap not p ∙ none (cases (has_abstract_method classes c))
          where
            none : (has_abstract_method classes c ≡ true) ⊎ (has_abstract_method classes c ≡ false) → false ≡ has_abstract_method classes c
            none (inl q) = absurd (from_abstract q (eqb-true s.abstracts 0 p))
            none (inr q) = sym q
        at (inr p) = ap not p ∙ sym (to_abstract (λ z. true≢false (sym (eq-eqb s.abstracts 0 z) ∙ p)))

  pub abstract_found : (c : ℕ) → found.has_abstract settled c ≡ has_abstract_method classes c
  abstract_found c = at (found.state_at settled c) refl
    where
      at : (o : Option State) → found.state_at settled c ≡ o → passes_if_there (λ (s : State). not (nat_eq s.abstracts 0)) o ≡ has_abstract_method classes c
      at (Some s) e = abstract_some c s e
      at None e = sym (no_abstract classes interfaces c (no_state classes interfaces names rows settled reach t c e))
