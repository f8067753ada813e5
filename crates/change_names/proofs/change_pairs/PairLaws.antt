-- What tables of pairs tell is what the definitions search.
use Rattle.std.proofs.Common.{◌≡◌, ℕ, suc, Bool, true, false, List, [], ◌∷◌, Option, Some, None, refl, sym, ap, ◌∙◌}
use Rattle.std.proofs.Math.Dec.{eqb-suc-zero, eqb-zero-suc, eqb-suc-suc}
use Rattle.std.specs.Prelude.{if◌then◌else◌, is_some, option_map, slice_get}
use Rattle.plc_text.specs.Words.{same}
use Rattle.st_change.proofs.Settled.{same_self}
use Rattle.st_change.specs.From.{is_name, comes_from, unless_later, old_name, or_this, new_name}
use Rattle.change_names.specs.declared.change_pairs.sources.Pair.{Pair}
use Rattle.change_names.specs.change_pairs.Pairs.{pair_of, pairs_of}
use Rattle.change_names.specs.change_pairs.Places.{Table, found_in, first_where, or_here, last_where}
use Rattle.change_names.specs.change_pairs.Private.Variables.{is_pair_of, AreTables, from_at, named_at, is_at, unless_by}
use Rattle.change_names.specs.change_pairs.Private.Variables as words

-- ---- old names

abbrev last_of : List Pair → List ℕ → Option ℕ
last_of ps o = last_where (words.comes_from o) ps

any_here : (o : Option ℕ) (b : Bool) → is_some (or_here o b) ≡ (if b then true else is_some o)
any_here (Some k) true = refl
any_here (Some k) false = refl
any_here None true = refl
any_here None false = refl

comes_is : (ps : List Pair) (o : List ℕ) → is_some (last_of ps o) ≡ comes_from (pairs_of ps) o
comes_is [] o = refl
comes_is (a ∷ ps) o =
    any_here (last_of ps o) (words.comes_from o a)
    ∙ ap (λ b. if words.comes_from o a then true else b) (comes_is ps o)

-- a place further on is not the first
not_first : (l : Option ℕ) (o : List ℕ) → (if is_at (or_here l true) 0 then Some o else None) ≡ (if is_some l then None else Some o)
not_first None o = refl
not_first (Some k) o = ap (λ b. if b then Some o else None) (eqb-suc-zero k)

-- and what stands at one is where it was
as_behind : (l : Option ℕ) (b : Bool) (k : ℕ) → is_at (or_here l b) (suc k) ≡ is_at l k
as_behind (Some m) b k = eqb-suc-suc m k
as_behind None true k = eqb-zero-suc k
as_behind None false k = refl

abbrev by_place : List Pair → Option ℕ → Option (List ℕ)
by_place ps None = None
by_place ps (Some k) = unless_by (last_of ps) (from_at ps k) k

first_comes : (a : Pair) (ps : List Pair) (f : Option (List ℕ)) → option_map (λ t. t.now) a.from ≡ f → unless_by (last_of (a ∷ ps)) f 0 ≡ unless_later (pairs_of ps) f
first_comes a ps None e = refl
first_comes a ps (Some o) e =
    ap (λ b. if is_at (or_here (last_of ps o) b) 0 then Some o else None) (ap (λ g. is_name g o) e ∙ same_self o)
    ∙ not_first (last_of ps o) o
    ∙ ap (λ b. if b then None else Some o) (comes_is ps o)

later_comes : (a : Pair) (ps : List Pair) (k : ℕ) (f : Option (List ℕ)) → unless_by (last_of (a ∷ ps)) f (suc k) ≡ unless_by (last_of ps) f k
later_comes a ps k None = refl
later_comes a ps k (Some o) = ap (λ b. if b then Some o else None) (as_behind (last_of ps o) (words.comes_from o a) k)

place_behind : (a : Pair) (ps : List Pair) (o : Option ℕ) → by_place (a ∷ ps) (option_map suc o) ≡ by_place ps o
place_behind a ps None = refl
place_behind a ps (Some k) = later_comes a ps k (from_at ps k)

old_is : (ps : List Pair) (n : List ℕ) → by_place ps (first_where (is_pair_of n) ps) ≡ old_name (pairs_of ps) n
old_is [] n = refl
old_is (a ∷ ps) n = at (old_is ps n) (same a.name.now n)
  where
    at : by_place ps (first_where (is_pair_of n) ps) ≡ old_name (pairs_of ps) n → (b : Bool) → by_place (a ∷ ps) (if b then Some 0 else option_map suc (first_where (is_pair_of n) ps)) ≡ (if b then unless_later (pairs_of ps) (option_map (λ t. t.now) a.from) else old_name (pairs_of ps) n)
    at f true = first_comes a ps (option_map (λ t. t.now) a.from) refl
    at f false = place_behind a ps (first_where (is_pair_of n) ps) ∙ f

-- ---- new names

abbrev named_by : List Pair → Option ℕ → Option (List ℕ)
named_by ps None = None
named_by ps (Some k) = named_at ps k

module _ {X : Type 0} (test : X → Bool) where
  there : (xs : List X) (k : ℕ) → last_where test xs ≡ Some k → (x : X) × (slice_get xs k ≡ Some x)
  there [] k e = absurd cc
  there (x ∷ xs) k e = at (λ m h. there xs m h) (last_where test xs) refl (test x) e
    where
      at : ((m : ℕ) → last_where test xs ≡ Some m → (y : X) × (slice_get xs m ≡ Some y)) → (l : Option ℕ) → last_where test xs ≡ l → (b : Bool) → or_here l b ≡ Some k → (y : X) × (slice_get (x ∷ xs) k ≡ Some y)
      at f (Some m) h b d =
          let y = f m h in
          let s : suc m ≡ k = cc in
          (y.0, ap (slice_get (x ∷ xs)) (sym s) ∙ y.1)
      at f None h true d = let s : 0 ≡ k = cc in (x, ap (slice_get (x ∷ xs)) (sym s))
      at f None h false d = absurd cc

new_is : (ps : List Pair) (o : List ℕ) → named_by ps (last_of ps o) ≡ new_name (pairs_of ps) o
new_is [] o = refl
new_is (a ∷ ps) o = at (new_is ps o) (last_of ps o) refl (words.comes_from o a) refl
  where
    at : named_by ps (last_of ps o) ≡ new_name (pairs_of ps) o → (l : Option ℕ) → last_of ps o ≡ l → (b : Bool) → is_name (option_map (λ t. t.now) a.from) o ≡ b → named_by (a ∷ ps) (or_here l b) ≡ or_this (new_name (pairs_of ps) o) (pair_of a) o
    at f (Some m) h b d =
        let y = there (words.comes_from o) ps m h in
        let e : named_at ps m ≡ Some y.0.name.now = ap (option_map (λ x. x.name.now)) y.1 in
        let n : new_name (pairs_of ps) o ≡ Some y.0.name.now = sym f ∙ ap (named_by ps) h ∙ e in
        e ∙ sym (ap (λ q. or_this q (pair_of a) o) n)
    at f None h true d =
        let n : new_name (pairs_of ps) o ≡ None = sym f ∙ ap (named_by ps) h in
        sym (ap (λ q. or_this q (pair_of a) o) n ∙ ap (λ b. if b then Some a.name.now else None) d)
    at f None h false d =
        let n : new_name (pairs_of ps) o ≡ None = sym f ∙ ap (named_by ps) h in
        sym (ap (λ q. or_this q (pair_of a) o) n ∙ ap (λ b. if b then Some a.name.now else None) d)

-- ---- the tables

module _ (ps : List Pair) (names sources : Table) (is : AreTables ps names sources) where
  by_found : (o w : Option ℕ) → o ≡ w → by_place ps o ≡ by_place ps w
  by_found o w e = ap (by_place ps) e

  pub none_old : (n : List ℕ) → None ≡ found_in names n → None ≡ old_name (pairs_of ps) n
  none_old n e = ap (by_place ps) (e ∙ is.first.by n) ∙ old_is ps n

  pub some_old : (n : List ℕ) (k : ℕ) (r : Option (List ℕ)) → Some k ≡ found_in names n → r ≡ unless_by (found_in sources) (from_at ps k) k → r ≡ old_name (pairs_of ps) n
  some_old n k r e h = h ∙ as_found (from_at ps k) ∙ ap (by_place ps) (e ∙ is.first.by n) ∙ old_is ps n
    where
      as_found : (f : Option (List ℕ)) → unless_by (found_in sources) f k ≡ unless_by (last_of ps) f k
      as_found None = refl
      as_found (Some o) = ap (λ l. if is_at l k then Some o else None) (is.last.by o)

  pub none_new : (o : List ℕ) → None ≡ found_in sources o → None ≡ new_name (pairs_of ps) o
  none_new o e = ap (named_by ps) (e ∙ is.last.by o) ∙ new_is ps o

  pub some_new : (o : List ℕ) (k : ℕ) (r : Option (List ℕ)) → Some k ≡ found_in sources o → r ≡ named_at ps k → r ≡ new_name (pairs_of ps) o
  some_new o k r e h = h ∙ ap (named_by ps) (e ∙ is.last.by o) ∙ new_is ps o
