-- The bases of a class before a cycle, by its chain.
use Rattle.std.proofs.Common.{◌≡◌, ◌<◌, ◌≤◌, ℕ, zero, suc, Bool, true, false, List, [], ◌∷◌, Option, Some, None, refl, sym, ap, ◌∙◌, length, get_or, subst, arith, nat_eq, ◌⊎◌, inl, inr}
use Rattle.std.specs.Prelude.{◌||◌, ◌&&◌, not, slice_get}
use Rattle.std.specs.List.{list_any}
use Rattle.std.specs.Option.{option_to_list}
use Rattle.std.proofs.lemmas.Bool.{eqb-true, eq-eqb}
use Rattle.plc_text.specs.declared.code.Code.{Code}
use Rattle.plc_text.specs.declared.code.Code.TheVariants.{E16}
use Rattle.st_tree.specs.declared.declaration.ClassDecl.{ClassDecl}
use Rattle.st_rules.specs.Chains.{is_among, leads_within, IsAbove, directly, further, Leads, itself, onward}
use Rattle.st_rules.specs.Classes.{base_of, chain}
use Rattle.st_rules.specs.ClassRules as rules
use Rattle.st_rules.specs.Faults.{least, when}
use Rattle.st_rules.specs.Numbered.{passes_if_there}
use Rattle.st_rules.proofs.Booleans.{false≢true, none≢some, some-same, cases, either, or-first, same-tests}
use Rattle.st_rules.proofs.ChainLaws.{above_through}
use Rattle.st_rules.proofs.ClassLaws.{bases_within, chain_law, cycle_law, chain-base_law, chain-top_law}
use Rattle.st_rules.proofs.LeadsLaws.{IsWithin, leads_decided}
use Rattle.st_unit_rules.specs.Cycles.{lies_on_cycle}
use Rattle.st_unit_rules.specs.Limits.{most_steps, has_way, bases_of, too_many_bases}

among_one : (o : Option ℕ) (k : ℕ) → is_among k (option_to_list o) ≡ true → o ≡ Some k
among_one None k h = absurd (false≢true h)
among_one (Some b) k h = elim (either (nat_eq k b) (is_among k []) h) [ inl p ↦ ap Some (sym (eqb-true k b p)) | inr p ↦ absurd (false≢true p) ]

one_among : (o : Option ℕ) (k : ℕ) → o ≡ Some k → is_among k (option_to_list o) ≡ true
one_among o k e = ap (λ p. is_among k (option_to_list p)) e ∙ or-first (nat_eq k k) false (eq-eqb k k refl)

pub there : (xs : List ℕ) (i k : ℕ) → i < length xs → ((d : ℕ) → k ≡ get_or xs i d) → slice_get xs i ≡ Some k
there [] i k l e = absurd (omega arith)
there (x ∷ xs) zero k l e = ap Some (sym (e 0))
there (x ∷ xs) (suc i) k l e = there xs i k (omega arith) e

pub past_end : (xs : List ℕ) (i : ℕ) → length xs ≤ i → slice_get xs i ≡ None
past_end [] i l = refl
past_end (x ∷ xs) zero l = absurd (omega arith)
past_end (x ∷ xs) (suc i) l = past_end xs i (omega arith)

or_none : (b : Bool) → (b || false) ≡ b
or_none true = refl
or_none false = refl

and_all : (b : Bool) → (b && true) ≡ b
and_all true = refl
and_all false = refl

index_among : (xs : List ℕ) (n k : ℕ) → slice_get xs n ≡ Some k → is_among k xs ≡ true
index_among [] n k e = absurd (none≢some e)
index_among (x ∷ xs) zero k e = or-first (nat_eq k x) (is_among k xs) (eq-eqb k x (sym (some-same e)))
index_among (x ∷ xs) (suc n) k e = at (nat_eq k x) (index_among xs n k e)
  where
    at : (b : Bool) → is_among k xs ≡ true → (b || is_among k xs) ≡ true
    at true h = refl
    at false h = h

module _ (classes : List (ClassDecl ℕ)) where
  abbrev on : ℕ → Bool
  on c = rules.lies_on_cycle classes c

  -- a class that is there and lies on no cycle
  abbrev is_free : Option ℕ → Bool
  is_free None = false
  is_free (Some k) = not (on k)

  -- ---- what stands above a class on a cycle

  next_on : (c b : ℕ) → base_of classes c ≡ Some b → on c ≡ true → on b ≡ true
  next_on c b e h = (cycle_law classes b).1 (turned ((cycle_law classes c).0 h))
    where
      turned : IsAbove (base_of classes) c c → IsAbove (base_of classes) b b
      turned (directly c x f) = let q : c ≡ b = some-same (sym f ∙ e) in subst (λ (y : ℕ). IsAbove (base_of classes) y y) q (directly c x f)
      turned (further c x d f r) =
          let q : x ≡ b = some-same (sym f ∙ e) in
          above_through (base_of classes) (length classes) (bases_within classes) b c b (directly c b e) (subst (λ (y : ℕ). IsAbove (base_of classes) c y) q r)

  above_on : (k c : ℕ) → IsAbove (base_of classes) k c → on c ≡ true → on k ≡ true
  above_on k _ (directly c b e) h = next_on c b e h
  above_on k _ (further c b d e r) h = above_on d b r (next_on c b e h)

  none_free : (n c : ℕ) → on c ≡ true → is_free (slice_get (chain classes c) n) ≡ false
  none_free n c h = at (slice_get (chain classes c) n) refl
    where
      at : (o : Option ℕ) → slice_get (chain classes c) n ≡ o → is_free o ≡ false
      at None e = refl
      at (Some k) e = ap not (elim ((chain_law classes c k).0 (index_among (chain classes c) n k e)) [ inl p ↦ ap on p ∙ h | inr p ↦ above_on k c p h ])

  -- ---- cycles by steps and by chains

  within : IsWithin (bases_of classes) (length classes)
  within = record { within = λ i k h. (bases_within classes).within i k (among_one (base_of classes i) k h) }

  up : (i j : ℕ) → Leads (bases_of classes) i j → (j ≡ i) ⊎ IsAbove (base_of classes) j i
  up _ _ (itself i) = inl refl
  up _ _ (onward i k j e r) =
      let f : base_of classes i ≡ Some k = among_one (base_of classes i) k e in
      inr (elim (up k j r) [ inl p ↦ subst (λ (x : ℕ). IsAbove (base_of classes) x i) (sym p) (directly i k f) | inr p ↦ further i k j f p ])

  down : (j i : ℕ) → IsAbove (base_of classes) j i → Leads (bases_of classes) i j
  down _ _ (directly c b e) = onward c b b (one_among (base_of classes c) b e) (itself b)
  down _ _ (further c b d e r) = onward c b d (one_among (base_of classes c) b e) (down d b r)

  leads_is : (b k : ℕ) → leads_within (bases_of classes) (length classes) b k ≡ is_among k (chain classes b)
  leads_is b k =
      let d = leads_decided (bases_of classes) (length classes) within b k in
      same-tests _ _ (λ h. (chain_law classes b k).1 (up b k (d.0 h)))
      (λ h. d.1 (elim ((chain_law classes b k).0 h) [ inl p ↦ subst (λ (x : ℕ). Leads (bases_of classes) b x) (sym p) (itself b) | inr p ↦ down k b p ]))

  cycle_is : (k : ℕ) → lies_on_cycle (bases_of classes) (length classes) k ≡ on k
  cycle_is k = at (base_of classes k)
    where
      at : (o : Option ℕ) → list_any (λ j. leads_within (bases_of classes) (length classes) j k) (option_to_list o) ≡ passes_if_there (λ b. is_among k (chain classes b)) o
      at None = refl
      at (Some b) = or_none _ ∙ leads_is b k

  -- ---- ways

  abbrev way : ℕ → ℕ → Bool
  way n c = has_way (bases_of classes) (length classes) n c

  abbrev goes : ℕ → ℕ → Bool
  goes n k = not (lies_on_cycle (bases_of classes) (length classes) k) && way n k

  chain_first : (c : ℕ) → slice_get (chain classes c) 0 ≡ Some c
  unfolding chain
  chain_first c = refl

  -- one step up
  goes_first : (b : ℕ) → goes 0 b ≡ is_free (slice_get (chain classes b) 0)
  goes_first b = and_all _ ∙ ap not (cycle_is b) ∙ sym (ap is_free (chain_first b))

  goes_more : (n b : ℕ) → way (suc n) b ≡ is_free (slice_get (chain classes b) (suc n)) → goes (suc n) b ≡ is_free (slice_get (chain classes b) (suc n))
  goes_more n b h = ap (λ (x : Bool). not x && way (suc n) b) (cycle_is b) ∙ at (cases (on b))
    where
      at : (on b ≡ true) ⊎ (on b ≡ false) → (not (on b) && way (suc n) b) ≡ is_free (slice_get (chain classes b) (suc n))
      at (inl p) = ap (λ (x : Bool). not x && way (suc n) b) p ∙ sym (none_free (suc n) b p)
      at (inr p) = ap (λ (x : Bool). not x && way (suc n) b) p ∙ h

  step : (n c : ℕ) (o : Option ℕ) → base_of classes c ≡ o → ((b : ℕ) → goes n b ≡ is_free (slice_get (chain classes b) n)) → way (suc n) c ≡ is_free (slice_get (chain classes c) (suc n))
  step n c None e f = ap (λ (p : Option ℕ). list_any (goes n) (option_to_list p)) e ∙ sym (ap (λ (xs : List ℕ). is_free (slice_get xs (suc n))) (chain-top_law classes c e))
  step n c (Some b) e f = ap (λ (p : Option ℕ). list_any (goes n) (option_to_list p)) e ∙ or_none (goes n b) ∙ f b ∙ at (cases (on c))
    where
      at : (on c ≡ true) ⊎ (on c ≡ false) → is_free (slice_get (chain classes b) n) ≡ is_free (slice_get (chain classes c) (suc n))
      at (inl p) = none_free n b (next_on c b e p) ∙ sym (none_free (suc n) c p)
      at (inr p) = sym (ap (λ (xs : List ℕ). is_free (slice_get xs (suc n))) (chain-base_law classes c b e p))

  way_is : (n c : ℕ) → way (suc n) c ≡ is_free (slice_get (chain classes c) (suc n))
  way_is zero c = step zero c (base_of classes c) refl goes_first
  way_is (suc n) c = step (suc n) c (base_of classes c) refl (λ b. goes_more n b (way_is n b))

  -- ---- the rule

  module _ (line c : ℕ) (above : List ℕ) (q : above ≡ chain classes c) where
    told : (o : Option ℕ) → slice_get above 65 ≡ o → least (when (is_free o) E16 line) ≡ least (too_many_bases line classes c)
    told o e = ap (λ (b : Bool). least (when b E16 line)) (sym (way_is most_steps c ∙ ap (λ (xs : List ℕ). is_free (slice_get xs 65)) (sym q) ∙ ap is_free e))

    pub bases_there : (k : ℕ) (cycle free : Bool) (r : Option (Code × ℕ)) → slice_get above 65 ≡ Some k → cycle ≡ rules.lies_on_cycle classes k → free ≡ not cycle → r ≡ least (when free E16 line) → r ≡ least (too_many_bases line classes c)
    bases_there k cycle free r e h n f = f ∙ ap (λ (b : Bool). least (when b E16 line)) (n ∙ ap not h) ∙ told (Some k) e

    pub bases_end : slice_get above 65 ≡ None → None ≡ least (too_many_bases line classes c)
    bases_end e = told None e
