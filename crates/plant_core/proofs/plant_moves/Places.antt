-- What stands at a place of a table after one image was moved or copied.
use Rattle.std.proofs.Common.{◌≡◌, ℕ, ◌<◌, List, length, Option, None, Some, slice_get, slice_set, sym, ◌∙◌, ap, subst, length-set}
use Rattle.std.proofs.lemmas.List.{get_or-set_same, set-get_or, set-set}
use Rattle.std.proofs.lemmas.Option.{get_or_from_slice_get, slice_get-get_or}
use Rattle.plant_rules.specs.Meaning.{Contents, bytes_at}
use Rattle.plant_core.specs.plant_moves.Moves.{CanCopy, or_stay}

some_same : {A : Type 0} (a b : A) → Some a ≡ Some b → a ≡ b
some_same a b e = cc

none_some : {A : Type 0} (a : A) → None ≡ Some a → ⊥
none_some a e = cc

pub nothing_moved : (a b : Contents) (r : ℕ) → slice_get a r ≡ Some None → bytes_at b r ≡ None → b ≡ slice_set b r (bytes_at a r)
nothing_moved a b r e f = sym (ap (λ o. slice_set b r o) (get_or_from_slice_get a r None None e ∙ sym f) ∙ set-get_or b r None)

pub nothing_copied : (a b : Contents) (r : ℕ) → slice_get a r ≡ Some None → b ≡ slice_set b r (or_stay (bytes_at a r) (bytes_at b r))
nothing_copied a b r e = sym (ap (λ o. slice_set b r (or_stay o (bytes_at b r))) (get_or_from_slice_get a r None None e) ∙ set-get_or b r None)

can_copy : (a b : Contents) (r : ℕ) (o : Option (List ℕ)) (source : List ℕ) → CanCopy (bytes_at a r) (bytes_at b r) → slice_get a r ≡ Some (Some source) → slice_get b r ≡ Some o → CanCopy (Some source) o
can_copy a b r o source can e f =
    subst (λ z. CanCopy (Some source) z) (get_or_from_slice_get b r o None f) (subst (λ z. CanCopy z (bytes_at b r)) (get_or_from_slice_get a r (Some source) None e) can)

pub as_long : (a b : Contents) (r : ℕ) (image source : List ℕ) → CanCopy (bytes_at a r) (bytes_at b r) → slice_get a r ≡ Some (Some source) → slice_get b r ≡ Some (Some image) → length image ≡ length source
as_long a b r image source can e f = let k = can_copy a b r (Some image) source can e f in ap length (some_same image k.0 k.1) ∙ k.2

pub not_away : (a b : Contents) (r : ℕ) (source : List ℕ) → CanCopy (bytes_at a r) (bytes_at b r) → slice_get a r ≡ Some (Some source) → slice_get b r ≡ Some None → ⊥
not_away a b r source can e f = let k = can_copy a b r None source can e f in none_some k.0 k.1

pub emptied : (b b' : Contents) (r : ℕ) → r < length b → b' ≡ slice_set b r None → slice_get b' r ≡ Some None
emptied b b' r h e = rw e (slice_get-get_or (slice_set b r None) r None (rw length-set h) ∙ ap Some (get_or-set_same b r None None h))

pub put_over : (a b b' b'' : Contents) (r : ℕ) (image source : List ℕ) → slice_get a r ≡ Some (Some source) → b' ≡ slice_set b r None → b'' ≡ slice_set b' r (Some image) → image ≡ source
    → b'' ≡ slice_set b r (or_stay (bytes_at a r) (bytes_at b r))
put_over a b b' b'' r image source e f g same =
    g ∙ (ap (λ z. slice_set z r (Some image)) f ∙ (set-set b r None (Some image) ∙ ap (λ o. slice_set b r o) (ap Some same ∙ sym (ap (λ z. or_stay z (bytes_at b r)) (get_or_from_slice_get a r (Some source) None e)))))
