-- Images that are copied one after another, and what a claim takes.
use Rattle.std.proofs.Common.{◌≡◌, ℕ, ◌<◌, ◌≤◌, ◌+◌, ◌-◌, List, [], ◌∷◌, ◌++◌, length, Option, None, slice_set, slice_range, refl, sym, ◌∙◌, ap, ⊎_elim, ◌⊎◌, inl, inr, arith, length-set, subst, take, drop, get_or, add-one, drop-cons}
use Rattle.std.proofs.Math.ListN.{drop_of_length-le}
use Rattle.std.proofs.Math.Seq.{take-length}
use Rattle.std.proofs.lemmas.List.{get_or-set_other, get_or-set_same, take_all, append-nil}
use mathlib.Core.Logic.{dite}
use native.Mathlib.Decide.{ℕ_discrete}
use Rattle.mem_image.specs.Image.{replaced}
use Rattle.plant_rules.specs.Meaning.{Contents, bytes_at, Has, Rising}
use Rattle.plant_core.specs.plant_moves.Moves.{Moved, Copied, MayCopy, CanCopy, or_stay, Taken, MayTake}
use Rattle.plant_core.proofs.plant_moves.Movings.{once_of}

pub has? : (rs : List ℕ) (r : ℕ) → Has rs r ⊎ (Has rs r → ⊥)
has? [] r = inr (λ h. h)
has? (x ∷ xs) r = dite (ℕ_discrete r x) (λ e. inl (inl e)) (λ ne. ⊎_elim (λ h. inl (inr h)) (λ out. inr (λ h. ⊎_elim ne out h)) (has? xs r))

next_of : (rs : List ℕ) (i : ℕ) → i < length rs → drop i rs ≡ get_or rs i 0 ∷ drop (i + 1) rs
next_of rs i h = rw add-one (drop-cons rs i 0 h)

copied_none : (a c : Contents) → Copied [] a c c
copied_none a c = record { total = refl; here = λ r h. absurd h; others = λ r h. refl }

copied_cons : (r : ℕ) (rest : List ℕ) {a c d f : Contents} → (Has rest r → ⊥) → Copied (r ∷ []) a c d → Copied rest a d f → Copied (r ∷ rest) a c f
copied_cons r rest {a} {c} {d} {f} out one more =
    record {
      total = more.total ∙ one.total;
      here = λ q h. ⊎_elim (λ i. more.others q (λ k. out (subst (λ (z : ℕ). Has rest z) i k)) ∙ one.here q (inl i))
          (λ k. more.here q k ∙ ap (or_stay (bytes_at a q)) (one.others q (λ w. ⊎_elim (λ i. out (subst (λ (z : ℕ). Has rest z) i k)) absurd w))) h;
      others = λ q no. more.others q (λ k. no (inr k)) ∙ one.others q (λ w. no (⊎_elim (λ i. inl i) absurd w));
    }

pub record Copying (rs rest : List ℕ) (a c d : Contents) : Type 0 where
  pub rising : Rising rest
  pub may : MayCopy rest a d
  pub onward : (f : Contents) → Copied rest a d f → Copied rs a c f

copying_at : (rs : List ℕ) (i : ℕ) (a c d : Contents) → i < length rs → Copying rs (drop i rs) a c d → Copying rs (get_or rs i 0 ∷ drop (i + 1) rs) a c d
copying_at rs i a c d h g = subst (λ (z : List ℕ). Copying rs z a c d) (next_of rs i h) g

pub copying_one : (rs : List ℕ) (i : ℕ) (a c d : Contents) → i < length rs → Copying rs (drop i rs) a c d
    → (get_or rs i 0 < length a) × (get_or rs i 0 < length d) × CanCopy (bytes_at a (get_or rs i 0)) (bytes_at d (get_or rs i 0))
copying_one rs i a c d h g = (copying_at rs i a c d h g).may (get_or rs i 0) (inl refl)

copied_one : (r : ℕ) (a c c' : Contents) → r < length c → c' ≡ slice_set c r (or_stay (bytes_at a r) (bytes_at c r)) → Copied (r ∷ []) a c c'
copied_one r a c c' h e =
    let x = or_stay (bytes_at a r) (bytes_at c r) in
    record {
      total = ap length e ∙ length-set c r x;
      here = λ q w. rw (⊎_elim (λ i. i) absurd w) (ap (λ z. bytes_at z r) e ∙ get_or-set_same c r x None h);
      others = λ q out. ap (λ z. bytes_at z q) e ∙ get_or-set_other c r q x None (λ i. out (inl i));
    }

pub copying_step : (rs : List ℕ) (i : ℕ) (a c d d' : Contents) → i < length rs → Copying rs (drop i rs) a c d
    → d' ≡ slice_set d (get_or rs i 0) (or_stay (bytes_at a (get_or rs i 0)) (bytes_at d (get_or rs i 0))) → Copying rs (drop (i + 1) rs) a c d'
copying_step rs i a c d d' h g e =
    let r = get_or rs i 0 in
    let rest = drop (i + 1) rs in
    let k = copying_at rs i a c d h g in
    let one = copied_one r a d d' (k.may r (inl refl)).1 e in
    let apart = once_of r rest k.rising in
    record {
      rising = k.rising.1;
      may = λ q w.
          let fits = k.may q (inr w) in
          let same = one.others q (λ z. ⊎_elim (λ j. apart (subst (λ (y : ℕ). Has rest y) j w)) absurd z) in
          (fits.0, (let l = one.total in rw l fits.1), subst (λ (z : Option (List ℕ)). CanCopy (bytes_at a q) z) (sym same) fits.2);
      onward = λ f m. k.onward f (copied_cons r rest apart one m);
    }

pub copying_begun : (rs : List ℕ) (a c : Contents) → Rising rs → MayCopy rs a c → Copying rs rs a c c
copying_begun rs a c rising may = record { rising = rising; may = may; onward = λ f m. m }

pub copying_end : (rs : List ℕ) (i : ℕ) (a c d : Contents) → length rs ≤ i → Copying rs (drop i rs) a c d → Copied rs a c d
copying_end rs i a c d h g = let e = drop_of_length-le rs h in let k : Copying rs [] a c d = subst (λ (z : List ℕ). Copying rs z a c d) e g in k.onward d (copied_none a d)

-- an image that is written over from its beginning to its end
pub whole_copy : (old part : List ℕ) → length old ≡ length part → replaced old 0 (slice_range part 0 (0 + length part)) ≡ part
unfolding replaced
whole_copy old part e =
    let all : 0 + length part - 0 ≡ length part = omega arith in
    let same : slice_range part 0 (0 + length part) ≡ part = ap (λ n. take n (drop 0 part)) all ∙ take-length part in
    let none : drop (0 + length part) old ≡ [] = drop_of_length-le old (omega (arith, e)) in
    rw (same, none) (take_all (length old) (part ++ []) (rw append-nil (omega (arith, e))) ∙ append-nil part)

-- what may be copied once what is written has moved
pub may_copy : (reads writes : List ℕ) (home carrier home' c : Contents) → MayTake reads writes home carrier → Moved writes home carrier home' c → MayCopy reads home' c
may_copy reads writes home carrier home' c may moved r h =
    ⊎_elim
    (λ w. let k = may.moves r w in (let l = moved.from-length in rw l k.0, let l = moved.to-length in rw l k.1, subst (λ (z : Option (List ℕ)). CanCopy z (bytes_at c r)) (sym (moved.gone r w)) tt))
    (λ out. let k = may.copies r h out in
    (let l = moved.from-length in rw l k.0, let l = moved.to-length in rw l k.1, subst (λ (z : Option (List ℕ)). CanCopy z (bytes_at c r)) (sym (moved.from-rest r out ∙ k.2.from-is)) (k.2.target, moved.to-rest r out ∙ k.2.to-is, k.2.same)))
    (has? writes r)

-- a claim is a move of what is written and a copy of what is only read
pub taken_of : (reads writes : List ℕ) (home carrier home' c carrier' : Contents) → MayTake reads writes home carrier → Moved writes home carrier home' c → Copied reads home' c carrier' → Taken reads writes home carrier home' carrier'
taken_of reads writes home carrier home' c carrier' may moved copied =
    record {
      home-total = moved.from-length;
      total = copied.total ∙ moved.to-length;
      gone = moved.gone;
      here = λ r h. copied.here r h ∙ ⊎_elim
          (λ w. ap (λ z. or_stay z (bytes_at c r)) (moved.gone r w) ∙ moved.here r w)
          (λ out. let k = may.copies r h out in ap (λ z. or_stay z (bytes_at c r)) (moved.from-rest r out ∙ k.2.from-is) ∙ sym k.2.from-is)
          (has? writes r);
      rest = moved.from-rest;
      others = λ r out. copied.others r out ∙ moved.to-rest r (λ w. out (may.within r w));
    }
