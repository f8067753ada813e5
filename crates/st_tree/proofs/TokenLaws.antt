-- A text is one chain of longest pieces.
use Rattle.std.proofs.Common.{◌≡◌, ℕ, ◌<◌, List, [], ◌∷◌, length, refl, sym, ap, subst, ◌∙◌, inl, inr, arith}
use Rattle.std.proofs.lemmas.Bool.{both_ways, cases_lt}
use Rattle.st_tree.specs.Token.{Token, IsPiece, IsChain, IsBad, Lexes, Tokens, BadAfter, tokens_between}

no_longer : (text : List ℕ) (start p q : ℕ) → IsPiece text start p → IsPiece text start q → p < q → ⊥
no_longer text start p q one other less = both_ways _ (one.longest q less other.within) other.fits

-- two longest pieces at one place are one
pub one_piece : (text : List ℕ) (start p q : ℕ) → IsPiece text start p → IsPiece text start q → p ≡ q
one_piece text start p q one other = elim (cases_lt p q) [
  | inl less ↦ absurd (no_longer text start p q one other less)
  | inr more ↦ elim (cases_lt q p) [
    | inl less ↦ absurd (no_longer text start q p other one less)
    | inr less ↦ omega arith
  ]
]

-- no piece begins at a place
abbrev pub Stops : List ℕ → ℕ → Type 0
Stops text place = (end : ℕ) → IsPiece text place end → ⊥

pub end_stops : (text : List ℕ) → Stops text (length text)
end_stops text end piece = absurd (omega (arith, piece.some, piece.within))

pub bad_stops : (text : List ℕ) (place : ℕ) → IsBad text place → Stops text place
bad_stops text place bad end piece = both_ways _ (bad.no-piece end piece.some piece.within) piece.fits

-- two chains up to places where no piece begins are one
pub one_chain : (text : List ℕ) (start a b : ℕ) (ps qs : List ℕ) → Stops text a → Stops text b → IsChain text start ps a → IsChain text start qs b → (ps ≡ qs) × (a ≡ b)
one_chain text start a b [] [] s t e f = (refl, sym e ∙ f)
one_chain text start a b [] (q ∷ qs) s t e (piece, chain) = absurd (s q (subst (λ (x : ℕ). IsPiece text x q) e piece))
one_chain text start a b (p ∷ ps) [] s t (piece, chain) f = absurd (t p (subst (λ (x : ℕ). IsPiece text x p) f piece))
one_chain text start a b (p ∷ ps) (q ∷ qs) s t (piece, chain) (other, more) =
    let same : p ≡ q = one_piece text start p q piece other in
    let rest = one_chain text p a b ps qs s t chain (subst (λ (x : ℕ). IsChain text x qs b) (sym same) more) in
    (let tails : ps ≡ qs = rest.0 in cc, rest.1)

pub one_lexed : (text : List ℕ) (start a b : ℕ) (ts us : List Token) → Stops text a → Stops text b → Lexes text start ts a → Lexes text start us b → (ts ≡ us) × (a ≡ b)
one_lexed text start a b ts us s t one other =
    let same = one_chain text start a b one.ends other.ends s t one.chain other.chain in
    (one.tokens-are ∙ ap (tokens_between text start) same.0 ∙ sym other.tokens-are, same.1)

pub one_tokens : (text : List ℕ) (ts us : List Token) → Tokens text ts → Tokens text us → ts ≡ us
one_tokens text ts us one other = (one_lexed text 0 _ _ ts us (end_stops text) (end_stops text) one other).0

pub one_bad : (text : List ℕ) (p q : ℕ) (ts us : List Token) → BadAfter text ts p → BadAfter text us q → (p ≡ q) × (ts ≡ us)
one_bad text p q ts us (one, bad) (other, worse) =
    let same = one_lexed text 0 p q ts us (bad_stops text p bad) (bad_stops text q worse) one other in
    (same.1, same.0)

pub never_both : (text : List ℕ) (ts us : List Token) (p : ℕ) → Tokens text ts → BadAfter text us p → ⊥
never_both text ts us p whole (some, bad) =
    let same = (one_lexed text 0 (length text) p ts us (end_stops text) (bad_stops text p bad) whole some).1 in
    omega (arith, bad.within, same)
