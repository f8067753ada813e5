-- What is put one after the other.
use Rattle.std.proofs.Common.{◌≡◌, ℕ, List, [], ◌∷◌, length, refl, subst, ◌⊎◌, inl, inr, ⊎_elim, arith}
use Rattle.st_meaning.specs.st_frame.Footprint.{Has}
use Rattle.footprints.specs.Private.Puts.{Puts, Via, Takes}

pub no_items : {A : Type 0} (xs : List A) → length xs ≡ 0 → xs ≡ []
no_items [] h = refl
no_items (x ∷ xs) h = absurd (omega arith)

-- what is put can be said in other words
pub puts_as : {P Q : ℕ → Type 0} {a b : List ℕ} → ((r : ℕ) → P r → Q r) → ((r : ℕ) → Q r → P r) → Puts P a b → Puts Q a b
puts_as to from h = record {
  kept = h.kept;
  only = λ r k. ⊎_elim (λ o. inl o) (λ q. inr (to r q)) (h.only r k);
  all = λ r q. ⊎_elim (λ l. inl l) (λ n. absurd n) (h.all r (from r q));
}

pub puts_nothing : (P : ℕ → Type 0) (a : List ℕ) → ((r : ℕ) → P r → ⊥) → Puts P a a
puts_nothing P a h = record { kept = λ r k. k; only = λ r k. inl k; all = λ r q. absurd (h r q) }

-- all of it is there already
pub puts_known : (P : ℕ → Type 0) (a : List ℕ) → ((r : ℕ) → P r → Has a r) → Puts P a a
puts_known P a h = record { kept = λ r k. k; only = λ r k. inl k; all = λ r q. inl (h r q) }

pub put_there : (P : ℕ → Type 0) (a b : List ℕ) → Puts P a b → (r : ℕ) → P r → Has b r
put_there P a b h r q = ⊎_elim (λ l. l) (λ n. absurd n) (h.all r q)

-- ---- items one after the other

module _ {A : Type 0} (F : A → ℕ → Type 0) where
  pub begun : (xs : List A) (a : List ℕ) → Takes F xs xs a a
  begun xs a = record {
    within = λ x h. h;
    puts = record { kept = λ r k. k; only = λ r k. inl k; all = λ r q. inr q };
  }

  next_of : (whole behind : List A) (x : A) (a b c : List ℕ) → Takes F whole (x ∷ behind) a b → Puts (F x) b c → Takes F whole behind a c
  next_of whole behind x a b c t s = record {
    within = λ y h. t.within y (inr h);
    puts = record {
      kept = λ r k. s.kept r (t.puts.kept r k);
      only = λ r k. ⊎_elim (λ o. t.puts.only r o) (λ f. inr (x, t.within x (inl refl), f)) (s.only r k);
      all = λ r q. ⊎_elim (λ l. inl (s.kept r l)) (λ v. last r v) (t.puts.all r q);
    };
  }
    where
      last : (r : ℕ) → Via (x ∷ behind) F r → Has c r ⊎ Via behind F r
      last r v = ⊎_elim (λ e. inl (put_there (F x) b c s r (subst (λ y. F y r) e v.2))) (λ h. inr (v.0, h, v.2)) v.1

  pub next : (whole left behind : List A) (x : A) (a b c : List ℕ) → left ≡ x ∷ behind → Takes F whole left a b → Puts (F x) b c → Takes F whole behind a c
  next whole left behind x a b c e t s = next_of whole behind x a b c (subst (λ l. Takes F whole l a b) e t) s

  pub ended : (whole left : List A) (a b : List ℕ) → left ≡ [] → Takes F whole left a b → Puts (Via whole F) a b
  ended whole left a b e t = record {
    kept = t.puts.kept;
    only = t.puts.only;
    all = λ r q. ⊎_elim (λ l. inl l) (λ v. absurd (subst (λ l. Has l v.0) e v.1)) (t.puts.all r q);
  }
