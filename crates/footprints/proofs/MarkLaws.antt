-- A number more in a set in rising order.
use Rattle.std.proofs.Common.{◌≡◌, ℕ, List, [], ◌∷◌, refl, sym, subst, ◌⊎◌, inl, inr, ⊎_elim}
use Rattle.std.specs.BTreeSet.{insert_key}
use Rattle.std.specs.Ordering.{nat_cmp, match_ordering}
use Rattle.std.specs.declared.cmp.Ordering.{Ordering}
use Rattle.std.specs.declared.cmp.Ordering.TheVariants.{Less, Equal, Greater}
use Rattle.std.proofs.lemmas.Cmp.{ranked}
use Rattle.st_meaning.specs.st_frame.Footprint.{Has}
use Rattle.footprints.specs.Private.Puts.{Puts, Via}
use Rattle.footprints.proofs.PutLaws.{puts_as}

abbrev placed : Ordering → ℕ → ℕ → List ℕ → List ℕ
placed o k x xs = match_ordering o (k ∷ x ∷ xs) (x ∷ xs) (x ∷ insert_key nat_cmp xs k)

stays : (xs : List ℕ) (k r : ℕ) → Has xs r → Has (insert_key nat_cmp xs k) r
stays [] k r h = absurd h
stays (x ∷ xs) k r h = by (nat_cmp k x) (stays xs k r) h
  where
    by : (o : Ordering) → (Has xs r → Has (insert_key nat_cmp xs k) r) → (r ≡ x) ⊎ Has xs r → Has (placed o k x xs) r
    by Less f h = inr h
    by Equal f h = h
    by Greater f h = ⊎_elim (λ e. inl e) (λ g. inr (f g)) h

comes : (xs : List ℕ) (k r : ℕ) → Has (insert_key nat_cmp xs k) r → Has xs r ⊎ (r ≡ k)
comes [] k r h = ⊎_elim (λ e. inr e) (λ n. absurd n) h
comes (x ∷ xs) k r h = by (nat_cmp k x) (comes xs k r) h
  where
    by : (o : Ordering) → (Has (insert_key nat_cmp xs k) r → Has xs r ⊎ (r ≡ k)) → Has (placed o k x xs) r → ((r ≡ x) ⊎ Has xs r) ⊎ (r ≡ k)
    by Less f h = ⊎_elim (λ e. inr e) (λ g. inl g) h
    by Equal f h = inl h
    by Greater f h = ⊎_elim (λ e. inl (inl e)) (λ g. ⊎_elim (λ l. inl (inr l)) (λ e. inr e) (f g)) h

there : (xs : List ℕ) (k : ℕ) → Has (insert_key nat_cmp xs k) k
there [] k = inl refl
there (x ∷ xs) k = by (nat_cmp k x) refl (there xs k)
  where
    by : (o : Ordering) → nat_cmp k x ≡ o → Has (insert_key nat_cmp xs k) k → Has (placed o k x xs) k
    by Less e h = inl refl
    by Equal e h = inl (ranked k x Equal (sym e))
    by Greater e h = inr h

pub inserted : (old new : List ℕ) (k : ℕ) → new ≡ insert_key nat_cmp old k → Puts (λ r. r ≡ k) old new
inserted old new k e =
    subst (λ z. Puts (λ r. r ≡ k) old z) (sym e)
    (record {
      kept = stays old k;
      only = comes old k;
      all = λ r q. inl (subst (λ z. Has (insert_key nat_cmp old k) z) (sym q) (there old k));
    })

-- the regions of a list, one by one
pub list_put : (list a b : List ℕ) → Puts (Via list (λ x r. r ≡ x)) a b → Puts (Has list) a b
list_put list a b h = puts_as (λ r v. subst (Has list) (sym v.2) v.1) (λ r l. (r, l, refl)) h
