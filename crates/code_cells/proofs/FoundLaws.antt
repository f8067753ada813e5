-- Kinds of one more cell.
use Rattle.std.proofs.Common.{◌≡◌, ℕ, zero, suc, ◌+◌, ◌<◌, List, [], ◌∷◌, ◌++◌, length, take, map, reverse, get_or, option_map, refl, sym, ap, ◌∙◌, add-one}
use Rattle.std.specs.Prelude.{slice_get}
use Rattle.std.proofs.lemmas.List.{reverse-append}
use Rattle.std.proofs.Math.Seq.{take-suc}
use Rattle.stack_code.specs.declared.op.Kind.{Kind}
use Rattle.stack_code.specs.declared.op.Kind.TheVariants.{Num}
use Rattle.code_cells.specs.declared.cell.Cell.{Cell}
use Rattle.code_cells.specs.declared.cell.Cell.TheVariants.{Does as does, Skips as skips, SkipsAt0 as skips_at_0, Returns as returns, ReturnsAt0 as returns_at_0}
use Rattle.code_cells.specs.Found.{Stream, before, kinds_or_none, then_found, found, from, ended, all_found}
use Rattle.code_cells.specs.Private.Changes.{seen}

-- lists as the stream that they are
abbrev pub stream : List (List Kind) → Stream
stream [] = ended
stream (ks ∷ ms) = then_found ks (stream ms)

pub all_found_stream : (cs : List Cell) → stream (all_found cs ended) ≡ from cs ended
all_found_stream [] = refl
all_found_stream (c ∷ cs) = ap (then_found (found c (from cs ended))) (all_found_stream cs)

at_stream : (ms : List (List Kind)) (n : ℕ) → option_map reverse (slice_get ms n) ≡ stream (map reverse ms) n
at_stream [] n = refl
at_stream (ks ∷ ms) zero = refl
at_stream (ks ∷ ms) (suc n) = at_stream ms n

pub seen_is : (xs : List (List Kind)) (n : ℕ) → seen xs n ≡ stream (map reverse (reverse xs)) n
seen_is xs n = at_stream (reverse xs) n

found_same : (c : Cell) (s t : Stream) → ((n : ℕ) → s n ≡ t n) → found c s ≡ found c t
found_same (does o line) s t h = ap (λ x. before o (kinds_or_none x)) (h 0)
found_same (skips n line) s t h = ap kinds_or_none (h n)
found_same (skips_at_0 n line) s t h = ap (λ x. Num ∷ kinds_or_none x) (h 0)
found_same (returns n line) s t h = ap kinds_or_none (h 0)
found_same (returns_at_0 n line) s t h = ap (λ x. Num ∷ kinds_or_none x) (h 0)

pub one_more : (cells : List Cell) (i : ℕ) (d : Cell) (kinds lent new : List (List Kind)) (one : List Kind) → i < length cells → lent ≡ kinds → reverse one ≡ found (get_or cells i d) (seen lent) → new ≡ kinds ++ one ∷ [] → map reverse (reverse kinds) ≡ all_found (reverse (take i cells)) ended
    → map reverse (reverse new) ≡ all_found (reverse (take (i + 1) cells)) ended
one_more cells i d kinds lent new one l q g p inv =
    let f : reverse one ≡ found (get_or cells i d) (seen kinds) = g ∙ ap (λ ks. found (get_or cells i d) (seen ks)) q in
    let x = get_or cells i d in
    let rest = reverse (take i cells) in
    let whole : reverse (take (i + 1) cells) ≡ x ∷ rest = ap (λ n. reverse (take n cells)) (add-one i) ∙ ap reverse (take-suc cells i d l) ∙ reverse-append (take i cells) (x ∷ []) in
    let same : found x (seen kinds) ≡ found x (from rest ended) = found_same x (seen kinds) (from rest ended) (λ n. seen_is kinds n ∙ ap (λ ms. stream ms n) inv ∙ ap (λ s. s n) (all_found_stream rest)) in
    ap (λ xs. map reverse (reverse xs)) p ∙ ap (map reverse) (reverse-append kinds (one ∷ []))
    ∙ ap (λ ks. ks ∷ map reverse (reverse kinds)) (f ∙ same) ∙ ap (λ ms. found x (from rest ended) ∷ ms) inv ∙ sym (ap (λ cs. all_found cs ended) whole)
