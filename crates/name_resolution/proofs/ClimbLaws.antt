-- Tables of the variables of classes, by the number of the class.
use Rattle.std.proofs.Common.{◌≡◌, ◌<◌, ℕ, zero, suc, ◌+◌, Bool, List, [], ◌∷◌, ◌++◌, Option, Some, None, refl, sym, ap, ◌∙◌, length, subst, take, get_or, add-one}
use Rattle.std.proofs.Math.Seq.{take-suc}
use Rattle.std.specs.Prelude.{slice_get}
use Rattle.name_resolution.specs.Private.Places.{Table, IsTableOf, AreTables, items_at}

pub taken_one : {X : Type 0} (xs : List X) (i : ℕ) (x : X) → i < length xs → x ≡ get_or xs i x → take (i + 1) xs ≡ take i xs ++ x ∷ []
taken_one xs i x h e = ap (λ n. take n xs) (add-one i) ∙ take-suc xs i x h ∙ ap (λ y. take i xs ++ y ∷ []) (sym e)

module _ {X Y : Type 0} (name_of : X → List ℕ) (test : X → Bool) (items_of : Y → List X) where
  no_table : (t : Table) → ◌≡◌ {A = Option Table} None (Some t) → ⊥
  no_table t e = cc

  same_table : (t u : Table) → Some t ≡ Some u → t ≡ u
  same_table t u e = cc

  pub table_at : (ts : List Table) (ys : List Y) (n : ℕ) (t : Table) → AreTables name_of test items_of ts ys → slice_get ts n ≡ Some t → IsTableOf name_of test t (items_at items_of ys n)
  table_at [] [] n t h e = absurd (no_table t e)
  table_at [] (y ∷ ys) n t h e = absurd h
  table_at (x ∷ ts) [] n t h e = absurd h
  table_at (x ∷ ts) (y ∷ ys) zero t h e = subst (λ (z : Table). IsTableOf name_of test z (items_of y)) (same_table x t e) h.0
  table_at (x ∷ ts) (y ∷ ys) (suc n) t h e = table_at ts ys n t h.1 e

  pub no_table_at : (ts : List Table) (ys : List Y) (n : ℕ) → AreTables name_of test items_of ts ys → slice_get ts n ≡ None → items_at items_of ys n ≡ []
  no_table_at [] [] n h e = refl
  no_table_at [] (y ∷ ys) n h e = absurd h
  no_table_at (x ∷ ts) [] n h e = absurd h
  no_table_at (x ∷ ts) (y ∷ ys) zero h e = absurd (no_table x (sym e))
  no_table_at (x ∷ ts) (y ∷ ys) (suc n) h e = no_table_at ts ys n h.1 e

  tables_push : (ts : List Table) (ys : List Y) (t : Table) (y : Y) → AreTables name_of test items_of ts ys → IsTableOf name_of test t (items_of y) → AreTables name_of test items_of (ts ++ t ∷ []) (ys ++ y ∷ [])
  tables_push [] [] t y h k = (k, tt)
  tables_push [] (z ∷ ys) t y h k = absurd h
  tables_push (x ∷ ts) [] t y h k = absurd h
  tables_push (x ∷ ts) (z ∷ ys) t y h k = (h.0, tables_push ts ys t y h.1 k)

  pub tables_more : (ts new : List Table) (ys done : List Y) (t : Table) (y : Y) → AreTables name_of test items_of ts done → IsTableOf name_of test t (items_of y) → new ≡ ts ++ t ∷ [] → ys ≡ done ++ y ∷ [] → AreTables name_of test items_of new ys
  tables_more ts new ys done t y a k p q =
      subst (λ (z : List Y). AreTables name_of test items_of new z) (sym q) (subst (λ (z : List Table). AreTables name_of test items_of z (done ++ y ∷ [])) (sym p) (tables_push ts done t y a k))
