-- Images that move, one after another.
use Rattle.std.proofs.Common.{◌≡◌, ℕ, ◌<◌, ◌≤◌, ◌+◌, List, [], ◌∷◌, length, None, slice_set, refl, ◌∙◌, ap, ⊎_elim, inl, inr, arith, length-set, subst, drop, get_or, add-one, drop-cons}
use Rattle.std.proofs.Math.ListN.{drop_of_length-le}
use Rattle.std.proofs.lemmas.List.{get_or-set_other, get_or-set_same}
use Rattle.plant_rules.specs.Meaning.{Contents, bytes_at, Has, Rising}
use Rattle.plant_core.specs.plant_moves.Moves.{Moved, MayMove}

pub moved_one : (r : ℕ) (a b a' b' : Contents) → MayMove (r ∷ []) a b → a' ≡ slice_set a r None → b' ≡ slice_set b r (bytes_at a r) → Moved (r ∷ []) a b a' b'
moved_one r a b a' b' may e f =
    let fits = may r (inl refl) in
    record {
      from-length = ap length e ∙ length-set a r None;
      to-length = ap length f ∙ length-set b r (bytes_at a r);
      gone = λ q h. rw (⊎_elim (λ i. i) absurd h) (ap (λ z. bytes_at z r) e ∙ get_or-set_same a r None None fits.0);
      here = λ q h. rw (⊎_elim (λ i. i) absurd h) (ap (λ z. bytes_at z r) f ∙ get_or-set_same b r (bytes_at a r) None fits.1);
      from-rest = λ q out. ap (λ z. bytes_at z q) e ∙ get_or-set_other a r q None None (λ i. out (inl i));
      to-rest = λ q out. ap (λ z. bytes_at z q) f ∙ get_or-set_other b r q (bytes_at a r) None (λ i. out (inl i));
    }

pub moved_cons : (r : ℕ) (rest : List ℕ) {a b a' b' f t : Contents} → (Has rest r → ⊥) → Moved (r ∷ []) a b a' b' → Moved rest a' b' f t → Moved (r ∷ rest) a b f t
moved_cons r rest {a} {b} {a'} {b'} {f} {t} out one more =
    record {
      from-length = more.from-length ∙ one.from-length;
      to-length = more.to-length ∙ one.to-length;
      gone = λ q h. ⊎_elim (λ i. rw i (more.from-rest r out ∙ one.gone r (inl refl))) (λ k. more.gone q k) h;
      here = λ q h. ⊎_elim (λ i. rw i (more.to-rest r out ∙ one.here r (inl refl)))
          (λ k. more.here q k ∙ one.from-rest q (λ w. ⊎_elim (λ i. out (subst (λ (z : ℕ). Has rest z) i k)) absurd w)) h;
      from-rest = λ q no. more.from-rest q (λ k. no (inr k)) ∙ one.from-rest q (λ w. no (⊎_elim (λ i. inl i) absurd w));
      to-rest = λ q no. more.to-rest q (λ k. no (inr k)) ∙ one.to-rest q (λ w. no (⊎_elim (λ i. inl i) absurd w));
    }

pub moved_none : (a b : Contents) → Moved [] a b a b
moved_none a b = record { from-length = refl; to-length = refl; gone = λ q h. absurd h; here = λ q h. absurd h; from-rest = λ q h. refl; to-rest = λ q h. refl }

-- a region stands once among regions that rise
pub once_of : (x : ℕ) (xs : List ℕ) → Rising (x ∷ xs) → Has xs x → ⊥
once_of x xs rising h = let k = rising.0 x h in omega (arith, k)

-- what is left to move
pub record Going (rs rest : List ℕ) (a b c d : Contents) : Type 0 where
  pub rising : Rising rest
  pub may : MayMove rest c d
  pub onward : (f t : Contents) → Moved rest c d f t → Moved rs a b f t

pub going_on : (rs rest : List ℕ) (r : ℕ) (a b c d c' d' : Contents) → Going rs (r ∷ rest) a b c d → Moved (r ∷ []) c d c' d' → Going rs rest a b c' d'
going_on rs rest r a b c d c' d' g one =
    record {
      rising = g.rising.1;
      may = λ q h. let fits = g.may q (inr h) in
          let apart : Has (r ∷ []) q → ⊥ = λ w. ⊎_elim (λ i. once_of r rest g.rising (subst (λ (z : ℕ). Has rest z) i h)) absurd w in
          (let l = one.from-length in rw l fits.0, let l = one.to-length in rw l fits.1, one.to-rest q apart ∙ fits.2);
      onward = λ f t m. g.onward f t (moved_cons r rest (once_of r rest g.rising) one m);
    }

pub gone_all : (rs : List ℕ) (a b c d : Contents) → Going rs [] a b c d → Moved rs a b c d
gone_all rs a b c d g = g.onward c d (moved_none c d)

pub going_at : (rs : List ℕ) (i : ℕ) (a b c d : Contents) → i < length rs → Going rs (drop i rs) a b c d → Going rs (get_or rs i 0 ∷ drop (i + 1) rs) a b c d
going_at rs i a b c d h g =
    let e : drop i rs ≡ get_or rs i 0 ∷ drop (i + 1) rs = rw add-one (drop-cons rs i 0 h) in
    subst (λ (z : List ℕ). Going rs z a b c d) e g

pub going_step : (rs : List ℕ) (i : ℕ) (a b c d c' d' : Contents) → i < length rs → Going rs (drop i rs) a b c d
    → c' ≡ slice_set c (get_or rs i 0) None → d' ≡ slice_set d (get_or rs i 0) (bytes_at c (get_or rs i 0)) → Going rs (drop (i + 1) rs) a b c' d'
going_step rs i a b c d c' d' h g e f =
    let k = going_at rs i a b c d h g in
    going_on rs (drop (i + 1) rs) (get_or rs i 0) a b c d c' d' k (moved_one (get_or rs i 0) c d c' d' (λ q w. ⊎_elim (λ j. rw j (k.may (get_or rs i 0) (inl refl))) absurd w) e f)

pub going_end : (rs : List ℕ) (i : ℕ) (a b c d : Contents) → length rs ≤ i → Going rs (drop i rs) a b c d → Moved rs a b c d
going_end rs i a b c d h g = let e = drop_of_length-le rs h in gone_all rs a b c d (subst (λ (z : List ℕ). Going rs z a b c d) e g)

pub going_begun : (rs : List ℕ) (a b : Contents) → Rising rs → MayMove rs a b → Going rs rs a b a b
going_begun rs a b rising may = record { rising = rising; may = may; onward = λ f t m. m }
