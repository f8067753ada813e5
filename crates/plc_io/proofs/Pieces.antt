-- Lemmas on lists that are handed out or read in pieces.
use Rattle.std.proofs.Common.{◌≡◌, ℕ, ◌+◌, ◌-◌, ◌≤◌, List, ◌++◌, Option, sym, ap, ◌∙◌, length, take, drop, subst, arith, take-append-drop}
use Rattle.std.proofs.lemmas.List.{take-take, drop-take, take_at, drop-drop, take_rest}
use Rattle.std.proofs.KnownBytes.{Appends-trans}
use Rattle.std.specs.Io.KnownBytes.{Appends}

-- the first elements, and then some more
take_in_two : (i n : ℕ) (xs : List ℕ) → take (i + n) xs ≡ take i xs ++ take n (drop i xs)
take_in_two i n xs =
    let shorter : i ≤ i + n = omega arith in
    sym (take-append-drop i (take (i + n) xs)) ∙ ap (λ front. front ++ drop i (take (i + n) xs)) (take-take i (i + n) xs shorter)
    ∙ ap (λ back. take i xs ++ back) (drop-take i n xs)

-- a piece of what is left that is taken after the first elements
pub taken_next : (old mid new : Option (List ℕ)) (xs : List ℕ) (i n : ℕ) → Appends old mid (take i xs) → Appends mid new (take n (take (length xs - i) (drop i xs)))
    → Appends old new (take (i + n) xs)
taken_next old mid new xs i n p q =
    let piece : take n (take (length xs - i) (drop i xs)) ≡ take n (drop i xs) = ap (take n) (take_rest xs i) in
    subst (Appends old new) (ap (λ back. take i xs ++ back) piece ∙ sym (take_in_two i n xs)) (Appends-trans old mid new (take i xs) _ p q)

-- a piece of what is left that is read into the front of a buffer
pub read_front : (xs buf piece : List ℕ) (i n : ℕ) → piece ≡ take n (take (length xs - i) (drop i xs)) → length piece ≡ n
    → drop i xs ≡ take n (piece ++ drop n buf) ++ drop (i + n) xs
read_front xs buf piece i n e len =
    let front : take n (drop i xs) ≡ piece = sym (e ∙ ap (take n) (take_rest xs i)) in
    sym (take-append-drop n (drop i xs))
    ∙ ap (λ head. head ++ drop n (drop i xs)) (front ∙ sym (take_at piece (drop n buf) n len))
    ∙ ap (λ tail. take n (piece ++ drop n buf) ++ tail) (drop-drop n i xs)
