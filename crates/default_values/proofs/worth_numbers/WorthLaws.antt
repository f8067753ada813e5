-- Two worths are the same exactly where their numbers are.
use Rattle.std.proofs.Common.{◌≡◌, ℕ, zero, suc, ℤ, Bool, true, false, ◌&&◌, List, [], ◌∷◌, ◌++◌, Some, refl, sym, ap, ◌∙◌, true≢false, ◌⊎◌, inl, inr, subst, nat_eq}
use Rattle.std.specs.Prelude.{replicate}
use Rattle.std.proofs.lemmas.Bool.{cases_Bool, eq-eqb, eqb-true}
use Rattle.std.proofs.lemmas.Bool.Decides.{Decides-int_eq}
use Rattle.st_rules.proofs.Booleans.{some-same}
use Rattle.st_unit_rules.specs.Worth.{Worth, a_number, nothing_held, some_parts, Worths, no_worths, worth_then, same_worth, same_worths}
use Rattle.default_values.specs.declared.worth_numbers.node.Node.{Node}
use Rattle.default_values.specs.declared.worth_numbers.node.Node.TheVariants.{Number, Held, Parts, End, Run}
use Rattle.default_values.specs.worth_numbers.Numbers.{IsAt, IsApart, IsListOf, ended, run, IsWhole, HasWorth, AreWorths}
use Rattle.default_values.specs.worth_numbers.Private.Nodes.{AreDistinct}

-- ---- runs

pub record Split (c d x y : ℕ) (xs ys : List ℕ) : Type 0 where
  pub count : c ≡ d
  pub first : x ≡ y
  pub behind : xs ≡ ys

clash : (x y : ℕ) (xs ys : List ℕ) → x ≡ y → IsApart x xs → xs ≡ y ∷ ys → ⊥
clash x y [] ys e a h = cc
clash x y (z ∷ xs) ys e a h = a (cc)

-- runs that are the same list are the same
split : (c d x y : ℕ) (xs ys : List ℕ) → IsApart x xs → IsApart y ys → x ∷ (replicate c x ++ xs) ≡ y ∷ (replicate d y ++ ys) → Split c d x y xs ys
split zero zero x y xs ys a b h = record { count = refl; first = cc; behind = cc }
split zero (suc d) x y xs ys a b h = let e : x ≡ y = cc in let t : xs ≡ y ∷ (replicate d y ++ ys) = cc in absurd (clash x y xs (replicate d y ++ ys) e a t)
split (suc c) zero x y xs ys a b h = let e : y ≡ x = cc in let t : ys ≡ x ∷ (replicate c x ++ xs) = cc in absurd (clash y x ys (replicate c x ++ xs) e b t)
split (suc c) (suc d) x y xs ys a b h =
    let t : x ∷ (replicate c x ++ xs) ≡ y ∷ (replicate d y ++ ys) = cc in
    let s = split c d x y xs ys a b t in
    record { count = ap suc s.count; first = s.first; behind = s.behind }

-- ---- lists

module _ (nodes : List Node) where
  one_node : (k : ℕ) (n m : Node) → IsAt nodes k n → IsAt nodes k m → n ≡ m
  one_node k n m p q = some-same (sym p ∙ q)

  -- a number is that of one list
  one_list : (k : ℕ) (xs ys : List ℕ) → IsListOf nodes k xs → IsListOf nodes k ys → xs ≡ ys
  one_list k _ _ (ended _ p) (ended _ q) = refl
  one_list k _ _ (ended _ p) (run _ d y rest ys zs q l b f) = let h : End ≡ Run (suc d) y rest = one_node k End (Run (suc d) y rest) p q in absurd (cc)
  one_list k _ _ (run _ c x rest xs zs p l a e) (ended _ q) = let h : End ≡ Run (suc c) x rest = one_node k End (Run (suc c) x rest) q p in absurd (cc)
  one_list k _ _ (run _ c x rest xs us p l a e) (run _ d y last ys vs q m b f) =
      let h : Run (suc c) x rest ≡ Run (suc d) y last = one_node k (Run (suc c) x rest) (Run (suc d) y last) p q in
      let n : c ≡ d = cc in
      let i : x ≡ y = cc in
      let j : rest ≡ last = cc in
      let t : xs ≡ ys = one_list rest xs ys l (subst (λ (z : ℕ). IsListOf nodes z ys) (sym j) m) in
      e ∙ (λ k. replicate (suc (n k)) (i k) ++ t k) ∙ sym f

  module _ (d : AreDistinct nodes) where
    -- a list has one number
    one_number : (j k : ℕ) (us vs : List ℕ) → us ≡ vs → IsListOf nodes j us → IsListOf nodes k vs → j ≡ k
    one_number j k _ _ w (ended _ p) (ended _ q) = d j k End p q
    one_number j k _ _ w (ended _ p) (run _ e y rest ys zs q l b f) = let h : [] ≡ y ∷ (replicate e y ++ ys) = w ∙ f in absurd (cc)
    one_number j k _ _ w (run _ c x rest xs zs p l a e) (ended _ q) = let h : x ∷ (replicate c x ++ xs) ≡ [] = sym e ∙ w in absurd (cc)
    one_number j k _ _ w (run _ c x rest xs us p l a e) (run _ n y last ys vs q m b f) =
        let s = split c n x y xs ys a b (sym e ∙ w ∙ f) in
        let r : rest ≡ last = one_number rest last xs ys s.behind l m in
        d j k (Run (suc c) x rest) p (subst (λ (z : Node). IsAt nodes k z) (sym (λ i. Run (suc (s.count i)) (s.first i) (r i))) q)

    mutual
      -- a worth has one number
      one_number_each : (v w : Worth) (a b : ℕ) → HasWorth nodes a v → HasWorth nodes b w → same_worth v w ≡ true → a ≡ b
      one_number_each (a_number y) (a_number z) a b h k t =
          let e : y ≡ z = (Decides-int_eq y z).0 t in d a b (Number y) h (subst (λ (x : ℤ). IsAt nodes b (Number x)) (sym e) k)
      one_number_each nothing_held nothing_held a b h k t = d a b Held h k
      one_number_each (some_parts vs) (some_parts ws) a b h k t =
          let e : h.parts ≡ k.parts = one_number_list vs ws h.parts k.parts h.each k.each t in
          let l : h.list ≡ k.list = one_number h.list k.list h.parts k.parts e h.lists k.lists in
          d a b (Parts h.list) h.at (subst (λ (x : ℕ). IsAt nodes b (Parts x)) (sym l) k.at)
      one_number_each (a_number y) nothing_held a b h k t = absurd (true≢false (sym t))
      one_number_each (a_number y) (some_parts ws) a b h k t = absurd (true≢false (sym t))
      one_number_each nothing_held (a_number y) a b h k t = absurd (true≢false (sym t))
      one_number_each nothing_held (some_parts ws) a b h k t = absurd (true≢false (sym t))
      one_number_each (some_parts vs) (a_number y) a b h k t = absurd (true≢false (sym t))
      one_number_each (some_parts vs) nothing_held a b h k t = absurd (true≢false (sym t))

      one_number_list : (vs ws : Worths) (xs ys : List ℕ) → AreWorths nodes xs vs → AreWorths nodes ys ws → same_worths vs ws ≡ true → xs ≡ ys
      one_number_list no_worths no_worths [] [] h k t = refl
      one_number_list no_worths no_worths (x ∷ xs) ys h k t = absurd h
      one_number_list no_worths no_worths [] (y ∷ ys) h k t = absurd k
      one_number_list no_worths (worth_then w ws) xs ys h k t = absurd (true≢false (sym t))
      one_number_list (worth_then v vs) no_worths xs ys h k t = absurd (true≢false (sym t))
      one_number_list (worth_then v vs) (worth_then w ws) [] ys h k t = absurd h
      one_number_list (worth_then v vs) (worth_then w ws) (x ∷ xs) [] h k t = absurd k
      one_number_list (worth_then v vs) (worth_then w ws) (x ∷ xs) (y ∷ ys) h k t =
          let b = both (same_worth v w) (same_worths vs ws) t in
          let p : x ≡ y = one_number_each v w x y h.0 k.0 b.0 in
          let q : xs ≡ ys = one_number_list vs ws xs ys h.1 k.1 b.1 in
          (λ i. p i ∷ q i)
        where
          both : (a b : Bool) → (a && b) ≡ true → (a ≡ true) × (b ≡ true)
          both true b h = (refl, h)
          both false b h = absurd (true≢false (sym h))

  mutual
    -- a number is that of one worth
    one_worth : (v w : Worth) (a : ℕ) → HasWorth nodes a v → HasWorth nodes a w → same_worth v w ≡ true
    one_worth (a_number y) (a_number z) a h k = let e : Number y ≡ Number z = one_node a (Number y) (Number z) h k in let f : y ≡ z = cc in (Decides-int_eq y z).1 f
    one_worth nothing_held nothing_held a h k = refl
    one_worth (some_parts vs) (some_parts ws) a h k =
        let e : Parts h.list ≡ Parts k.list = one_node a (Parts h.list) (Parts k.list) h.at k.at in
        let f : h.list ≡ k.list = cc in
        let g : h.parts ≡ k.parts = one_list h.list h.parts k.parts h.lists (subst (λ (z : ℕ). IsListOf nodes z k.parts) (sym f) k.lists) in
        one_worths vs ws h.parts h.each (subst (λ (zs : List ℕ). AreWorths nodes zs ws) (sym g) k.each)
    one_worth (a_number y) nothing_held a h k = let e : Number y ≡ Held = one_node a (Number y) Held h k in absurd (cc)
    one_worth (a_number y) (some_parts ws) a h k = let e : Number y ≡ Parts k.list = one_node a (Number y) (Parts k.list) h k.at in absurd (cc)
    one_worth nothing_held (a_number y) a h k = let e : Held ≡ Number y = one_node a Held (Number y) h k in absurd (cc)
    one_worth nothing_held (some_parts ws) a h k = let e : Held ≡ Parts k.list = one_node a Held (Parts k.list) h k.at in absurd (cc)
    one_worth (some_parts vs) (a_number y) a h k = let e : Parts h.list ≡ Number y = one_node a (Parts h.list) (Number y) h.at k in absurd (cc)
    one_worth (some_parts vs) nothing_held a h k = let e : Parts h.list ≡ Held = one_node a (Parts h.list) Held h.at k in absurd (cc)

    one_worths : (vs ws : Worths) (xs : List ℕ) → AreWorths nodes xs vs → AreWorths nodes xs ws → same_worths vs ws ≡ true
    one_worths no_worths no_worths xs h k = refl
    one_worths no_worths (worth_then w ws) [] h k = absurd k
    one_worths no_worths (worth_then w ws) (x ∷ xs) h k = absurd h
    one_worths (worth_then v vs) no_worths [] h k = absurd h
    one_worths (worth_then v vs) no_worths (x ∷ xs) h k = absurd k
    one_worths (worth_then v vs) (worth_then w ws) [] h k = absurd h
    one_worths (worth_then v vs) (worth_then w ws) (x ∷ xs) h k =
        ap (λ b. b && same_worths vs ws) (one_worth v w x h.0 k.0) ∙ one_worths vs ws xs h.1 k.1

  pub same_number : AreDistinct nodes → (v w : Worth) (a b : ℕ) → HasWorth nodes a v → HasWorth nodes b w → nat_eq a b ≡ same_worth v w
  same_number d v w a b h k =
      elim (cases_Bool (nat_eq a b)) [
        | inl y ↦ y ∙ sym (one_worth v w a h (subst (λ (c : ℕ). HasWorth nodes c w) (sym (eqb-true a b y)) k))
        | inr n ↦ elim (cases_Bool (same_worth v w)) [
          | inl t ↦ absurd (true≢false (sym (eq-eqb a b (one_number_each d v w a b h k t)) ∙ n))
          | inr f ↦ n ∙ sym f
        ]
      ]
