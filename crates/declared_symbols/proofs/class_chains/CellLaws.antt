-- Cells one by one, and the chains that they make.
use Rattle.std.proofs.Common.{◌≡◌, ℕ, zero, suc, ◌+◌, Bool, true, false, List, [], ◌∷◌, ◌++◌, Option, Some, None, length, refl, sym, ap, arith, ◌∙◌, ◌⊎◌, inl, inr, subst, nat_eq}
use Rattle.std.specs.Prelude.{slice_get, replicate, ◌||◌}
use Rattle.std.proofs.lemmas.Bool.{eqb-true}
use Rattle.std.proofs.lemmas.Option.{slice_get_within}
use Rattle.st_tree.specs.declared.declaration.ClassDecl.{ClassDecl}
use Rattle.st_rules.specs.Chains.{is_among, climb}
use Rattle.st_rules.specs.Classes.{base_of, chain}
use Rattle.st_rules.specs.Numbered.{passes_if_there}
use Rattle.st_rules.proofs.Booleans.{none≢some, some-same}
use Rattle.st_rules.proofs.ChainLaws.{chain-base}
use Rattle.st_rules.proofs.ClassLaws.{bases_within, any_law}
use Rattle.declared_symbols.specs.declared.class_chains.cells.Cell.{Cell}
use Rattle.declared_symbols.specs.class_chains.Cells.{Precedes, Lists, ended, onward, SameClasses, HasChain, AreChains}
use Rattle.declared_symbols.specs.class_chains.Private.Grows.{Grows}
use Rattle.declared_symbols.specs.class_chains.Private.Known.{AreKnown}
use Rattle.declared_symbols.proofs.class_chains.SameLaws.{Distinct, climb_distinct, same_classes}

pub same_self : (xs : List ℕ) → SameClasses xs xs
same_self xs = record { totals = λ f. refl; any = λ p. refl }

same_through : (xs ys zs : List ℕ) → SameClasses xs ys → SameClasses ys zs → SameClasses xs zs
same_through xs ys zs a b = record { totals = λ f. a.totals f ∙ b.totals f; any = λ p. a.any p ∙ b.any p }

same_pushed : (x : ℕ) (xs ys : List ℕ) → SameClasses xs ys → SameClasses (x ∷ xs) (x ∷ ys)
same_pushed x xs ys a = record { totals = λ f. ap (λ n. f x + n) (a.totals f); any = λ p. ap (λ b. p x || b) (a.any p) }

-- ---- cells that grow

get_stays : {X : Type 0} (xs ys : List X) (i : ℕ) (x : X) → slice_get xs i ≡ Some x → slice_get (xs ++ ys) i ≡ Some x
get_stays [] ys i x e = absurd (none≢some e)
get_stays (y ∷ xs) ys zero x e = e
get_stays (y ∷ xs) ys (suc i) x e = get_stays xs ys i x e

pub get_last : {X : Type 0} (xs : List X) (x : X) → slice_get (xs ++ x ∷ []) (length xs) ≡ Some x
get_last [] x = refl
get_last (y ∷ xs) x = get_last xs x

lists_stay : (cells more : List Cell) (o : Option ℕ) (xs : List ℕ) → Lists cells o xs → Lists (cells ++ more) o xs
lists_stay cells more _ _ ended = ended
lists_stay cells more _ _ (onward i cell xs e p l) = onward i cell xs (get_stays cells more i cell e) p (lists_stay cells more cell.behind xs l)

pub grows_self : (cells : List Cell) → Grows cells cells
grows_self cells = record { stays = λ o xs l. l }

pub grows_through : (a b c : List Cell) → Grows a b → Grows b c → Grows a c
grows_through a b c g h = record { stays = λ o xs l. h.stays o xs (g.stays o xs l) }

pub grows_pushed : (cells more : List Cell) (cell : Cell) → more ≡ cells ++ cell ∷ [] → Grows cells more
grows_pushed cells more cell e = record { stays = λ o xs l. subst (λ (cs : List Cell). Lists cs o xs) (sym e) (lists_stay cells (cell ∷ []) o xs l) }

precedes : (cells : List Cell) (o : Option ℕ) (xs : List ℕ) → Lists cells o xs → Precedes o (length cells)
precedes cells _ _ ended = tt
precedes cells _ _ (onward i cell xs e p l) = slice_get_within cells i cell e

pub listed_next : (cells more : List Cell) (class : ℕ) (behind : Option ℕ) (i : ℕ) → i ≡ length cells → more ≡ cells ++ record { class = class; behind = behind } ∷ []
    → (xs : List ℕ) → Lists cells behind xs → Lists more (Some i) (class ∷ xs)
listed_next cells more class behind i n e xs l =
    let cell : Cell = record { class = class; behind = behind } in
    subst (λ (cs : List Cell). Lists cs (Some i) (class ∷ xs)) (sym e)
    (subst (λ (j : ℕ). Lists (cells ++ cell ∷ []) (Some j) (class ∷ xs)) (sym n)
    (onward (length cells) cell xs (get_last cells cell) (precedes cells behind xs l) (lists_stay cells (cell ∷ []) behind xs l)))

-- ---- chains of classes

module _ (classes : List (ClassDecl ℕ)) where
  chain_grows : (cells more : List Cell) (c i : ℕ) → Grows cells more → HasChain cells classes c i → HasChain more classes c i
  chain_grows cells more c i g h = record { list = h.list; lists = g.stays (Some i) h.list h.lists; same = h.same }

  pub known_grows : (cells more : List Cell) (firsts : List (Option ℕ)) → Grows cells more → AreKnown cells classes firsts → AreKnown more classes firsts
  known_grows cells more firsts g k = record { each = λ c i e. chain_grows cells more c i g (k.each c i e) }

  chain_is_distinct : (c : ℕ) → Distinct (chain classes c)
  unfolding chain
  chain_is_distinct c = climb_distinct (base_of classes) (suc (length classes)) [] (Some c)

  among_base : (c b x : ℕ) → base_of classes c ≡ Some b → is_among x (chain classes c) ≡ (nat_eq x c || is_among x (chain classes b))
  among_base c b x e = any_law classes (nat_eq x) c ∙ ap (λ o. nat_eq x c || passes_if_there (λ b. is_among x (chain classes b)) o) e

  -- on a cycle the chain of a class has what that of its base has
  round : (c b : ℕ) → base_of classes c ≡ Some b → is_among c (chain classes b) ≡ true → SameClasses (chain classes b) (chain classes c)
  round c b e r = same_classes (chain classes b) (chain classes c) (chain_is_distinct b) (chain_is_distinct c) (λ x. sym (among_base c b x e ∙ at x (nat_eq x c) refl))
    where
      at : (x : ℕ) (t : Bool) → nat_eq x c ≡ t → (t || is_among x (chain classes b)) ≡ is_among x (chain classes b)
      at x true q = sym (ap (λ y. is_among y (chain classes b)) (eqb-true x c q) ∙ r)
      at x false q = refl

  pub comes_round_chain : (cells : List Cell) (c b i : ℕ) (t : Bool) → base_of classes c ≡ Some b → t ≡ is_among c (chain classes b) → t ≡ true → HasChain cells classes b i → HasChain cells classes c i
  comes_round_chain cells c b i t e q h k = record { list = k.list; lists = k.lists; same = same_through k.list (chain classes b) (chain classes c) k.same (round c b e (sym q ∙ h)) }

  chain_on : (c b : ℕ) → base_of classes c ≡ Some b → is_among c (chain classes b) ≡ false → chain classes c ≡ c ∷ chain classes b
  unfolding chain
  chain_on c b e h = chain-base (base_of classes) (length classes) (bases_within classes) c b e h

  pub pushed_chain : (cells more : List Cell) (c b i j : ℕ) (t : Bool) → base_of classes c ≡ Some b → t ≡ is_among c (chain classes b) → t ≡ false
      → ((xs : List ℕ) → Lists cells (Some i) xs → Lists more (Some j) (c ∷ xs)) → HasChain cells classes b i → HasChain more classes c j
  pushed_chain cells more c b i j t e q h f k = record {
    list = c ∷ k.list;
    lists = f k.list k.lists;
    same = subst (λ (ys : List ℕ). SameClasses (c ∷ k.list) ys) (sym (chain_on c b e (sym q ∙ h))) (same_pushed c k.list (chain classes b) k.same);
  }

  pub walked_chain : (cells : List Cell) (c i n : ℕ) (o : Option ℕ) (xs : List ℕ) → o ≡ Some i → n ≡ length classes → xs ≡ climb (base_of classes) (n + 1) [] (Some c) → Lists cells o xs → HasChain cells classes c i
  unfolding chain
  walked_chain cells c i n o xs q e w l =
      let m : n + 1 ≡ suc (length classes) = omega arith in
      record {
        list = xs;
        lists = subst (λ (p : Option ℕ). Lists cells p xs) q l;
        same = subst (λ (ys : List ℕ). SameClasses xs ys) (w ∙ ap (λ k. climb (base_of classes) k [] (Some c)) m) (same_self xs);
      }

  empty : (cells : List Cell) (xs : List ℕ) → Lists cells None xs → xs ≡ []
  empty cells _ ended = refl

  none_walked : (n c : ℕ) → climb (base_of classes) (n + 1) [] (Some c) ≡ [] → ⊥
  none_walked n c e = let m : n + 1 ≡ suc n = omega arith in let f : c ∷ climb (base_of classes) n (c ∷ []) (base_of classes c) ≡ [] = sym (ap (λ k. climb (base_of classes) k [] (Some c)) m) ∙ e in cc

  pub not_walked : (cells : List Cell) (c n : ℕ) (o : Option ℕ) (xs : List ℕ) → o ≡ None → xs ≡ climb (base_of classes) (n + 1) [] (Some c) → Lists cells o xs → ⊥
  not_walked cells c n o xs q w l = none_walked n c (sym w ∙ empty cells xs (subst (λ (p : Option ℕ). Lists cells p xs) q l))

  -- ---- what is known

  none_there : (n c i : ℕ) → slice_get (replicate n None) c ≡ Some (Some i) → ⊥
  none_there zero c i e = none≢some e
  none_there (suc n) zero i e = none≢some (some-same e)
  none_there (suc n) (suc c) i e = none_there n c i e

  pub known_begun : (cells : List Cell) (firsts : List (Option ℕ)) (n : ℕ) → firsts ≡ replicate n None → AreKnown cells classes firsts
  known_begun cells firsts n e = record { each = λ c i h. absurd (none_there n c i (sym (ap (λ fs. slice_get fs c) e) ∙ h)) }

  pub known_put : (cells : List Cell) (firsts more : List (Option ℕ)) (class first : ℕ) → ((c i : ℕ) → slice_get more c ≡ Some (Some i) → ((c ≡ class) × (i ≡ first)) ⊎ (slice_get firsts c ≡ Some (Some i)))
      → HasChain cells classes class first → AreKnown cells classes firsts → AreKnown cells classes more
  known_put cells firsts more class first f h k = record { each = λ c i e. at c i (f c i e) }
    where
      at : (c i : ℕ) → ((c ≡ class) × (i ≡ first)) ⊎ (slice_get firsts c ≡ Some (Some i)) → HasChain cells classes c i
      at c i (inl p) = subst (λ (d : ℕ). HasChain cells classes d i) (sym p.0) (subst (λ (j : ℕ). HasChain cells classes class j) (sym p.1) h)
      at c i (inr p) = k.each c i p

  -- so many first cells were found
  pub record FirstsTo (cells : List Cell) (firsts : List ℕ) (n : ℕ) : Type 0 where
    pub long : length firsts ≡ n
    pub each : (c i : ℕ) → slice_get firsts c ≡ Some i → HasChain cells classes c i

  pub firsts_begun : (cells : List Cell) → FirstsTo cells [] 0
  firsts_begun cells = record { long = refl; each = λ c i e. absurd (none≢some e) }

  get_pushed : (xs : List ℕ) (x c i : ℕ) → slice_get (xs ++ x ∷ []) c ≡ Some i → ((c ≡ length xs) × (i ≡ x)) ⊎ (slice_get xs c ≡ Some i)
  get_pushed [] x zero i e = inl (refl, sym (some-same e))
  get_pushed [] x (suc c) i e = absurd (none≢some e)
  get_pushed (y ∷ xs) x zero i e = inr e
  get_pushed (y ∷ xs) x (suc c) i e = elim (get_pushed xs x c i e) [ inl p ↦ inl (ap (λ n. suc n) p.0, p.1) | inr p ↦ inr p ]

  length_pushed : (xs : List ℕ) (x : ℕ) → length (xs ++ x ∷ []) ≡ suc (length xs)
  length_pushed [] x = refl
  length_pushed (y ∷ xs) x = ap (λ n. suc n) (length_pushed xs x)

  pub firsts_next : (cells more : List Cell) (firsts longer : List ℕ) (n first : ℕ) → Grows cells more → longer ≡ firsts ++ first ∷ [] → HasChain more classes n first → FirstsTo cells firsts n → FirstsTo more longer (n + 1)
  firsts_next cells more firsts longer n first g e h t = record {
    long = (let m : suc n ≡ n + 1 = omega arith in ap length e ∙ length_pushed firsts first ∙ ap (λ k. suc k) t.long ∙ m);
    each = λ c i q. at c i (get_pushed firsts first c i (sym (ap (λ fs. slice_get fs c) e) ∙ q));
  }
    where
      at : (c i : ℕ) → ((c ≡ length firsts) × (i ≡ first)) ⊎ (slice_get firsts c ≡ Some i) → HasChain more classes c i
      at c i (inl p) = subst (λ (d : ℕ). HasChain more classes d i) (sym (p.0 ∙ t.long)) (subst (λ (j : ℕ). HasChain more classes n j) (sym p.1) h)
      at c i (inr p) = chain_grows cells more c i g (t.each c i p)

  pub firsts_ended : (cells : List Cell) (firsts : List ℕ) (n : ℕ) → FirstsTo cells firsts n → AreChains cells classes firsts
  firsts_ended cells firsts n t = record { each = t.each }
