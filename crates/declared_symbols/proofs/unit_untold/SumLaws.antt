-- Sums from cell to cell, and what they leave for the bases of a class.
use Rattle.std.proofs.Common.{◌≡◌, ℕ, zero, suc, ◌+◌, ◌-◌, ◌<◌, ◌≤◌, Bool, List, [], ◌∷◌, ◌++◌, Option, Some, None, map, drop, length, get_or, refl, sym, ap, ◌∙◌, subst, arith, ◌⊎◌, inl, inr}
use Rattle.std.specs.Prelude.{filter, flat_map, slice_get}
use Rattle.std.proofs.lemmas.List.{length-append}
use Rattle.std.proofs.lemmas.List.Elements.{filter-append}
use Rattle.std.proofs.lemmas.Option.{slice_get_within}
use Rattle.st_tree.specs.declared.declaration.ClassDecl.{ClassDecl}
use Rattle.st_tree.specs.declared.unit.Decl.{Decl}
use Rattle.st_rules.specs.Classes.{classes_in, chain}
use Rattle.st_rules.proofs.Booleans.{none≢some, some-same}
use Rattle.st_unit_rules.specs.declared_names.Variables.{Written, sections_written, sections_in, is_kept_written, is_body_written}
use Rattle.declared_symbols.specs.declared.class_chains.cells.Cell.{Cell}
use Rattle.declared_symbols.specs.class_chains.Cells.{Lists, ended, onward, Precedes, total, SameClasses, HasChain, AreChains}
use Rattle.declared_symbols.specs.untold_names.Untold.{declared_by, declared_above}
use Rattle.declared_symbols.specs.declared.unit_untold.counts.Counts.{Counts}
use Rattle.declared_symbols.specs.unit_untold.Private.Counts.{nothing, both, less, own_in, own_counts, count_in, count_there, count_behind, count_at, sum_of, AreTotals, AreSums, kept_above, body_above}
use Rattle.declared_symbols.proofs.unit_untold.CountLaws.{kept_counted, body_counted}

-- ---- cell by cell

pub record TotalsTo (own : List Counts) (cells : List Cell) (totals : List Counts) (n : ℕ) : Type 0 where
  pub long : length totals ≡ n
  pub each : (i : ℕ) (xs : List ℕ) → i < n → Lists cells (Some i) xs → count_there totals i ≡ sum_of own xs

length_pushed : (xs : List Counts) (x : Counts) → length (xs ++ x ∷ []) ≡ suc (length xs)
length_pushed [] x = refl
length_pushed (y ∷ xs) x = ap (λ n. suc n) (length_pushed xs x)

there_still : (totals : List Counts) (x : Counts) (i : ℕ) → i < length totals → count_there (totals ++ x ∷ []) i ≡ count_there totals i
there_still [] x i l = absurd (omega arith)
there_still (y ∷ totals) x zero l = refl
there_still (y ∷ totals) x (suc i) l = there_still totals x i (omega arith)

there_last : (totals : List Counts) (x : Counts) → count_there (totals ++ x ∷ []) (length totals) ≡ x
there_last [] x = refl
there_last (y ∷ totals) x = there_last totals x

get_there : {X : Type 0} (xs : List X) (i : ℕ) (x : X) → i < length xs → x ≡ get_or xs i x → slice_get xs i ≡ Some x
get_there [] i x l e = absurd (omega arith)
get_there (y ∷ xs) zero x l e = ap Some (sym e)
get_there (y ∷ xs) (suc i) x l e = get_there xs i x (omega arith) e

pub get_same : {X : Type 0} (xs : List X) (i : ℕ) (d e : X) → i < length xs → get_or xs i d ≡ get_or xs i e
get_same [] i d e l = absurd (omega arith)
get_same (x ∷ xs) zero d e l = refl
get_same (x ∷ xs) (suc i) d e l = get_same xs i d e (omega arith)

earlier_or_last : (i n : ℕ) → i < n + 1 → (i < n) ⊎ (i ≡ n)
earlier_or_last zero zero l = inr refl
earlier_or_last zero (suc n) l = inl (omega arith)
earlier_or_last (suc i) zero l = absurd (omega arith)
earlier_or_last (suc i) (suc n) l = elim (earlier_or_last i n (omega arith)) [ inl p ↦ inl (omega arith) | inr p ↦ inr (ap (λ m. suc m) p) ]

module _ (own : List Counts) (cells : List Cell) where
  pub totals_begun : TotalsTo own cells [] 0
  totals_begun = record { long = refl; each = λ i xs l h. absurd (omega arith) }

  behind : (totals : List Counts) (n : ℕ) (o : Option ℕ) (xs : List ℕ) → TotalsTo own cells totals n → Precedes o n → Lists cells o xs → count_behind totals o ≡ sum_of own xs
  behind totals n None _ t p ended = refl
  behind totals n (Some i) xs t p l = t.each i xs p l

  at_last : (totals : List Counts) (n : ℕ) (cell : Cell) (i : ℕ) (xs : List ℕ) → TotalsTo own cells totals n → slice_get cells n ≡ Some cell → i ≡ n → Lists cells (Some i) xs → count_at own totals cell ≡ sum_of own xs
  at_last totals n cell _ _ t e q (onward i other xs f p l) =
      let same : other ≡ cell = some-same (sym f ∙ ap (slice_get cells) q ∙ e) in
      let before : Precedes cell.behind n = subst (λ (m : ℕ). Precedes cell.behind m) q (subst (λ (c : Cell). Precedes c.behind i) same p) in
      let rest : Lists cells cell.behind xs = subst (λ (c : Cell). Lists cells c.behind xs) same l in
      ap (λ x. both (count_there own cell.class) x) (behind totals n cell.behind xs t before rest) ∙ ap (λ (c : Cell). both (count_there own c.class) (sum_of own xs)) (sym same)

  pub totals_next : (totals more : List Counts) (n : ℕ) (cell : Cell) (x : Counts) → n < length cells → cell ≡ get_or cells n cell → more ≡ totals ++ x ∷ [] → x ≡ count_at own totals cell → TotalsTo own cells totals n → TotalsTo own cells more (n + 1)
  totals_next totals more n cell x l e q f t = record {
    long = (let m : suc n ≡ n + 1 = omega arith in ap length q ∙ length_pushed totals x ∙ ap (λ k. suc k) t.long ∙ m);
    each = λ i xs b h. ap (λ zs. count_there zs i) q ∙ at i xs h (earlier_or_last i n b);
  }
    where
      at : (i : ℕ) (xs : List ℕ) → Lists cells (Some i) xs → (i < n) ⊎ (i ≡ n) → count_there (totals ++ x ∷ []) i ≡ sum_of own xs
      at i xs h (inl p) = there_still totals x i (subst (λ (m : ℕ). i < m) (sym t.long) p) ∙ t.each i xs p h
      at i xs h (inr p) = ap (count_there (totals ++ x ∷ [])) (p ∙ sym t.long) ∙ there_last totals x ∙ f ∙ at_last totals n cell i xs t (get_there cells n cell l e) p h

  pub totals_ended : (totals : List Counts) (n : ℕ) → length cells ≤ n → TotalsTo own cells totals n → AreTotals own cells totals
  totals_ended totals n l t = record { each = λ i xs h. t.each i xs (within i xs h) h }
    where
      within : (i : ℕ) (xs : List ℕ) → Lists cells (Some i) xs → i < n
      within _ _ (onward i cell xs e p b) = let w = slice_get_within cells i cell e in omega (arith, w, l)

-- ---- what is left for the bases

-- what classes declare, counted by any test
module _ (decls : List (Decl ℕ)) (test : Written → Bool) where
  pub count : ℕ → ℕ
  count b = length (filter test (declared_by decls (slice_get (classes_in decls) b)))

  all_counted : (xs : List ℕ) → length (filter test (flat_map (λ b. declared_by decls (slice_get (classes_in decls) b)) xs)) ≡ total count xs
  unfolding count
  all_counted [] = refl
  all_counted (x ∷ xs) =
      let here = declared_by decls (slice_get (classes_in decls) x) in
      let rest = flat_map (λ b. declared_by decls (slice_get (classes_in decls) b)) xs in
      ap length (filter-append test here rest) ∙ length-append (filter test here) (filter test rest) ∙ ap (λ n. length (filter test here) + n) (all_counted xs)

  chain_counted : (c : ℕ) → total count (chain (classes_in decls) c) ≡ count c + total count (drop 1 (chain (classes_in decls) c))
  unfolding chain
  chain_counted c = refl

  left : (n m k : ℕ) → n ≡ m + k → n - m ≡ k
  left n m k e = omega arith

  -- the first cell sums up the chain of the class, the class with it
  pub above_counted : (f : ℕ → ℕ) (c : ℕ) (xs : List ℕ) (n : ℕ) → ((b : ℕ) → f b ≡ count b) → n ≡ total f xs → SameClasses xs (chain (classes_in decls) c) → n - f c ≡ length (filter test (declared_above decls c))
  above_counted f c xs n e h s =
      left n (f c) (length (filter test (declared_above decls c)))
      (h ∙ s.totals f ∙ by_count (chain (classes_in decls) c) ∙ chain_counted c ∙ ap (λ k. k + total count (drop 1 (chain (classes_in decls) c))) (sym (e c))
      ∙ ap (λ k. f c + k) (sym (all_counted (drop 1 (chain (classes_in decls) c)))))
    where
      by_count : (ys : List ℕ) → total f ys ≡ total count ys
      by_count [] = refl
      by_count (y ∷ ys) = ap (λ k. k + total f ys) (e y) ∙ ap (λ k. count y + k) (by_count ys)

kept_sum : (own : List Counts) (xs : List ℕ) → (sum_of own xs).kept ≡ total (λ b. (count_there own b).kept) xs
kept_sum own [] = refl
kept_sum own (x ∷ xs) = ap (λ n. (count_there own x).kept + n) (kept_sum own xs)

body_sum : (own : List Counts) (xs : List ℕ) → (sum_of own xs).body ≡ total (λ b. (count_there own b).body) xs
body_sum own [] = refl
body_sum own (x ∷ xs) = ap (λ n. (count_there own x).body + n) (body_sum own xs)

-- what a class declares by itself, by its number
module _ (decls : List (Decl ℕ)) where
  own_kept : (ds : List (ClassDecl ℕ)) (b : ℕ) → (count_there (map own_counts ds) b).kept ≡ length (filter is_kept_written (declared_by decls (slice_get ds b)))
  own_kept [] b = refl
  own_kept (d ∷ ds) zero = kept_counted nothing (sections_written (sections_in d.members)) ∙ plain (length (filter is_kept_written (sections_written (sections_in d.members))))
    where
      plain : (n : ℕ) → 0 + n ≡ n
      plain n = omega arith
  own_kept (d ∷ ds) (suc b) = own_kept ds b

  own_body : (ds : List (ClassDecl ℕ)) (b : ℕ) → (count_there (map own_counts ds) b).body ≡ length (filter is_body_written (declared_by decls (slice_get ds b)))
  own_body [] b = refl
  own_body (d ∷ ds) zero = body_counted nothing (sections_written (sections_in d.members)) ∙ plain (length (filter is_body_written (sections_written (sections_in d.members))))
    where
      plain : (n : ℕ) → 0 + n ≡ n
      plain n = omega arith
  own_body (d ∷ ds) (suc b) = own_body ds b

  pub are_sums : (own : List Counts) (cells : List Cell) (totals : List Counts) (firsts : List ℕ) → own ≡ own_in decls → AreTotals own cells totals → AreChains cells (classes_in decls) firsts → AreSums decls own totals firsts
  unfolding count
  are_sums own cells totals firsts e t a = record {
    kept = λ c i h.
        let x = a.each c i h in
        above_counted decls is_kept_written (λ b. (count_there own b).kept) c x.list (count_there totals i).kept (λ b. ap (λ xs. (count_there xs b).kept) e ∙ own_kept (classes_in decls) b)
        (ap (λ z. z.kept) (t.each i x.list x.lists) ∙ kept_sum own x.list) x.same;
    body = λ c i h.
        let x = a.each c i h in
        above_counted decls is_body_written (λ b. (count_there own b).body) c x.list (count_there totals i).body (λ b. ap (λ xs. (count_there xs b).body) e ∙ own_body (classes_in decls) b)
        (ap (λ z. z.body) (t.each i x.list x.lists) ∙ body_sum own x.list) x.same;
  }

-- the same of what is lent
pub lent_sums : (decls : List (Decl ℕ)) (own mine other : List Counts) (cells those : List Cell) (totals sums : List Counts) (firsts starts : List ℕ) → mine ≡ own → those ≡ cells → other ≡ own → sums ≡ totals → starts ≡ firsts → own ≡ own_in decls
    → AreTotals mine those totals → AreChains cells (classes_in decls) firsts → AreSums decls other sums starts
lent_sums decls own mine other cells those totals sums firsts starts a b c d f e t h =
    let here : AreTotals own cells totals = subst (λ (x : List Counts). AreTotals x cells totals) a (subst (λ (y : List Cell). AreTotals mine y totals) b t) in
    let all : AreSums decls own totals firsts = are_sums decls own cells totals firsts e here h in
    subst (λ (x : List Counts). AreSums decls x sums starts) (sym c)
    (subst (λ (y : List Counts). AreSums decls own y starts) (sym d) (subst (λ (z : List ℕ). AreSums decls own totals z) (sym f) all))
