-- Chains of pieces, step by step.
use Rattle.std.proofs.Common.{◌≡◌, ℕ, ◌+◌, ◌-◌, ◌<◌, ◌≤◌, cond, List, [], ◌∷◌, ◌++◌, length, take, drop, get_or, refl, sym, ap, subst, ◌∙◌, Option, None, Some, length-drop, Bool, true, arith}
use Rattle.std.proofs.lemmas.Bool.{cond-true, cond-false, eq-eqb, ne_eqb}
use Rattle.std.proofs.lemmas.List.{drop-drop, drop-take, take-take, take-append-drop, drop_more, get_or-take, get_or-drop, take_rest}
use Rattle.std.proofs.lemmas.Str.{IsCharBoundary-before_ascii, IsCharBoundary-after_ascii}
use Rattle.std.specs.Str.{IsAscii, IsUtf8, IsCharBoundary}
use Rattle.plc_text.specs.Text.{folded}
use Rattle.plc_text.specs.Words.{begins, is_blank}
use Rattle.st_tree.specs.Reads.{terminal_of}
use Rattle.st_lexer.proofs.PieceLaws.{blank_piece}
use Rattle.std.specs.List.{slice_range, cons_option}
use Rattle.std.proofs.lemmas.List.Sums.{sum_by-append}
use Rattle.std.specs.Option.{option_map}
use Rattle.plc_text.specs.Lines.{line_of}
use Rattle.std.specs.Bool.{◌==◌}
use Rattle.st_tree.specs.declared.terminal.Terminal.{Terminal}
use Rattle.st_tree.specs.declared.token.TokenKind.{TokenKind}
use Rattle.st_tree.specs.Pieces.{is_piece}
use Rattle.st_tree.specs.Token.{Token, IsPiece, IsChain, Lexes, token_at, tokens_between, piece_kind}
use Rattle.st_lexer.specs.Private.Piece.{IsLongestFront, BeginsPiece, BeginsToken, line_feeds}

slice_front : (text : List ℕ) (p n : ℕ) → slice_range text p (p + n) ≡ take n (drop p text)
slice_front text p n = let e : p + n - p ≡ n = omega arith in ap (λ k. take k (drop p text)) e

fits_front : (text : List ℕ) (p n : ℕ) → is_piece (slice_range text p (p + n)) (drop (p + n) text) ≡ is_piece (take n (drop p text)) (drop n (drop p text))
fits_front text p n = ap (λ s. is_piece s (drop (p + n) text)) (slice_front text p n) ∙ ap (is_piece (take n (drop p text))) (sym (drop-drop n p text))

pub piece_from_front : (text : List ℕ) (p n : ℕ) → p ≤ length text → 0 < n → IsLongestFront is_piece (drop p text) n → IsPiece text p (p + n)
piece_from_front text p n before some front = record {
  some = omega arith;
  within = omega (arith, front.within, length-drop p text);
  fits = fits_front text p n ∙ front.passes some;
  longest = λ further past within.
      (let e : further ≡ p + (further - p) = omega arith in
      ap (λ k. is_piece (slice_range text p k) (drop k text)) e ∙ fits_front text p (further - p)
      ∙ front.longest (further - p) (omega arith) (omega (arith, length-drop p text)));
}

pub nothing : (text : List ℕ) (p : ℕ) → Lexes text p [] p
nothing text p = record { ends = []; chain = refl; tokens-are = refl }

chain_join : (text : List ℕ) (a b c : ℕ) (ps qs : List ℕ) → IsChain text a ps b → IsChain text b qs c → IsChain text a (ps ++ qs) c
chain_join text a b c [] qs e chain = subst (λ (x : ℕ). IsChain text x qs c) (sym e) chain
chain_join text a b c (p ∷ ps) qs (piece, chain) more = (piece, chain_join text p b c ps qs chain more)

cons_option-append : {X : Type 0} (o : Option X) (xs ys : List X) → cons_option o (xs ++ ys) ≡ cons_option o xs ++ ys
cons_option-append None xs ys = refl
cons_option-append (Some x) xs ys = refl

tokens_join : (text : List ℕ) (a b c : ℕ) (ps qs : List ℕ) → IsChain text a ps b → tokens_between text a (ps ++ qs) ≡ tokens_between text a ps ++ tokens_between text b qs
tokens_join text a b c [] qs e = ap (λ x. tokens_between text x qs) e
tokens_join text a b c (p ∷ ps) qs (piece, chain) =
    ap (cons_option (token_at text a p)) (tokens_join text p b c ps qs chain)
    ∙ cons_option-append (token_at text a p) (tokens_between text p ps) (tokens_between text b qs)

pub join : (text : List ℕ) (a b c : ℕ) (ts us : List Token) → Lexes text a ts b → Lexes text b us c → Lexes text a (ts ++ us) c
join text a b c ts us one other = record {
  ends = one.ends ++ other.ends;
  chain = chain_join text a b c one.ends other.ends one.chain other.chain;
  tokens-are = ap (λ xs. xs ++ us) one.tokens-are ∙ ap (λ xs. tokens_between text a one.ends ++ xs) other.tokens-are ∙ sym (tokens_join text a b c one.ends other.ends one.chain);
}

one_piece : (text : List ℕ) (p e : ℕ) (o : Option Token) → IsPiece text p e → token_at text p e ≡ o → Lexes text p (cons_option o []) e
one_piece text p e o piece is = record { ends = e ∷ []; chain = (piece, refl); tokens-are = ap (λ x. cons_option x []) (sym is) }

-- one piece more that is passed over
pub passes : (text : List ℕ) (a p e : ℕ) → Lexes text a [] p → IsPiece text p e → piece_kind (slice_range text p e) ≡ None → Lexes text a [] e
passes text a p e before piece kind = join text a p e [] [] before (one_piece text p e None piece (ap (λ k. option_map (λ kind. record { kind = kind; text = slice_range text p e; span = record { start = p; end = e }; line = line_of text p }) k) kind))

-- a step of the lexer, at a place p

pub piece_is : (text : List ℕ) (p n : ℕ) (kind : Option TokenKind) → p ≤ length text → BeginsPiece (drop p text) n kind → IsPiece text p (p + n)
piece_is text p n kind before piece = piece_from_front text p n before piece.some piece.front

kind_there : (text : List ℕ) (p n : ℕ) (kind : Option TokenKind) → BeginsPiece (drop p text) n kind → piece_kind (slice_range text p (p + n)) ≡ kind
kind_there text p n kind piece = ap piece_kind (slice_front text p n) ∙ piece.kind-is

-- a piece more that is passed over
pub passed_step : (text : List ℕ) (from p n : ℕ) → p ≤ length text → Lexes text from [] p → BeginsPiece (drop p text) n None → Lexes text from [] (p + n)
passed_step text from p n before lexed piece = passes text from p (p + n) lexed (piece_is text p n None before piece) (kind_there text p n None piece)

-- a token
pub token_step : (text shown : List ℕ) (p n line : ℕ) (kind : TokenKind) (terminal : Option Terminal) → p ≤ length text → BeginsToken (drop p text) n kind terminal → line ≡ line_of text p → shown ≡ take n (drop p text) → Lexes text p (record { kind = kind; text = shown; span = record { start = p; end = p + n }; line = line } ∷ []) (p + n)
token_step text shown p n line kind terminal before begins l s =
    one_piece text p (p + n) (Some (record { kind = kind; text = shown; span = record { start = p; end = p + n }; line = line })) (piece_is text p n (Some kind) before begins.piece)
    (ap (λ k. option_map (λ kind. record { kind = kind; text = slice_range text p (p + n); span = record { start = p; end = p + n }; line = line_of text p }) k) (kind_there text p n (Some kind) begins.piece)
    ∙ ap (λ t. Some (record { kind = kind; text = t; span = record { start = p; end = p + n }; line = line_of text p })) (slice_front text p n ∙ sym s)
    ∙ ap (λ x. Some (record { kind = kind; text = shown; span = record { start = p; end = p + n }; line = x })) (sym l))

take-add : (p n : ℕ) (text : List ℕ) → take (p + n) text ≡ take p text ++ take n (drop p text)
take-add p n text =
    sym (take-append-drop p (take (p + n) text))
    ∙ ap (λ xs. xs ++ drop p (take (p + n) text)) (take-take p (p + n) text (omega arith))
    ∙ ap (λ xs. take p text ++ xs) (drop-take p n text)

-- the line behind n bytes with so many line feeds
pub line_step : (text : List ℕ) (p n line feeds : ℕ) → line ≡ line_of text p → feeds ≡ line_feeds (take n (drop p text)) → line + feeds ≡ line_of text (p + n)
line_step text p n line feeds l f =
    let whole : line_feeds (take (p + n) text) ≡ line_feeds (take p text) + line_feeds (take n (drop p text)) =
    ap line_feeds (take-add p n text) ∙ sum_by-append (λ byte. cond (byte == 10) 1 0) (take p text) (take n (drop p text)) in
    omega (arith, whole, f, l)

-- ---- a token within the text

ascii_within : (text : List ℕ) (p n k : ℕ) → IsAscii (take n (drop p text)) → k < n → get_or text (p + k) 0 < 128
ascii_within text p n k ascii less =
    let e : get_or (take n (drop p text)) k 0 ≡ get_or text (p + k) 0 = get_or-take n (drop p text) k 0 less ∙ get_or-drop p text k 0 in
    rw (sym e) (ascii k)

pub start_boundary : (text : List ℕ) (p n : ℕ) (kind : TokenKind) (terminal : Option Terminal) → p ≤ length text → BeginsToken (drop p text) n kind terminal → IsCharBoundary text p
start_boundary text p n kind terminal before begins =
    let e : p + 0 ≡ p = omega arith in
    IsCharBoundary-before_ascii text p (omega (arith, begins.piece.some, begins.piece.front.within, length-drop p text))
    (rw e at (ascii_within text p n 0 begins.ascii begins.piece.some))

pub end_boundary : (text : List ℕ) (p n : ℕ) (kind : TokenKind) (terminal : Option Terminal) → IsUtf8 text → p ≤ length text → BeginsToken (drop p text) n kind terminal → IsCharBoundary text (p + n)
end_boundary text p n kind terminal utf8 before begins =
    let some : 0 < n = begins.piece.some in
    let e : p + (n - 1) + 1 ≡ p + n = omega arith in
    rw e at (IsCharBoundary-after_ascii text (p + (n - 1)) utf8 (omega (arith, begins.piece.front.within, length-drop p text)) (ascii_within text p n (n - 1) begins.ascii (omega arith)))

pub shown_there : (text : List ℕ) (p n : ℕ) → slice_range text p (p + n) ≡ take n (drop p text)
shown_there text p n = slice_front text p n

pub told_there : (text shown : List ℕ) (p n : ℕ) (kind : TokenKind) (terminal : Option Terminal) → BeginsToken (drop p text) n kind terminal → shown ≡ slice_range text p (p + n) → terminal ≡ terminal_of kind (folded shown)
told_there text shown p n kind terminal begins s = begins.terminal-is ∙ ap (λ t. terminal_of kind (folded t)) (sym (s ∙ slice_front text p n))

-- ---- a step over white space

begins_drop : (test : ℕ → Bool) (text : List ℕ) (p : ℕ) → p < length text → begins test (drop p text) ≡ test (get_or text p 0)
begins_drop test text p less = ap (begins test) (drop_more text p 0 less)

pub blank_step : (text : List ℕ) (from p : ℕ) → p < length text → is_blank (get_or text p 0) ≡ true → Lexes text from [] p → Lexes text from [] (p + 1)
blank_step text from p less blank lexed = passed_step text from p 1 (omega arith) lexed (blank_piece (drop p text) (begins_drop is_blank text p less ∙ blank))

feed_there : (text : List ℕ) (p : ℕ) → p < length text → line_feeds (take 1 (drop p text)) ≡ cond (get_or text p 0 == 10) 1 0
feed_there text p less = ap (λ xs. line_feeds (take 1 xs)) (drop_more text p 0 less) ∙ count (get_or text p 0)
  where
    count : (c : ℕ) → line_feeds (c ∷ []) ≡ cond (c == 10) 1 0
    count c = omega arith

pub feed_step : (text : List ℕ) (p line : ℕ) → p < length text → get_or text p 0 ≡ 10 → line ≡ line_of text p → line + 1 ≡ line_of text (p + 1)
feed_step text p line less e l = line_step text p 1 line 1 l (sym (feed_there text p less ∙ cond-true (get_or text p 0 == 10) 1 0 (eq-eqb (get_or text p 0) 10 e)))

pub no_feed_step : (text : List ℕ) (p line : ℕ) → p < length text → (get_or text p 0 ≡ 10 → ⊥) → line ≡ line_of text p → line ≡ line_of text (p + 1)
no_feed_step text p line less other l =
    (let e : line ≡ line + 0 = omega arith in e)
    ∙ line_step text p 1 line 0 l (sym (feed_there text p less ∙ cond-false (get_or text p 0 == 10) 1 0 (ne_eqb (get_or text p 0) 10 other)))

-- ---- one piece after the other, where the code has the text's bytes

pub rest_is : (text bytes : List ℕ) (p : ℕ) → bytes ≡ text → take (length bytes - p) (drop p bytes) ≡ drop p text
rest_is text bytes p e = take_rest bytes p ∙ ap (drop p) e

pub on_rest : (text bytes : List ℕ) (p : ℕ) (P : List ℕ → Type 0) → bytes ≡ text → P (take (length bytes - p) (drop p bytes)) → P (drop p text)
on_rest text bytes p P e h = subst P (rest_is text bytes p e) h

pub chain_within : (text : List ℕ) (a b : ℕ) (ends : List ℕ) → IsChain text a ends b → a ≤ length text → (a ≤ b) × (b ≤ length text)
chain_within text a b [] e room = (omega arith, omega arith)
chain_within text a b (p ∷ ends) (piece, chain) room = let rest = chain_within text p b ends chain piece.within in (omega (arith, piece.some), rest.1)

pub passed_on : (text bytes : List ℕ) (from p n q r : ℕ) → bytes ≡ text → p ≤ length text → Lexes text from [] p → BeginsPiece (take (length bytes - p) (drop p bytes)) n None → q ≡ p + n → Lexes bytes q [] r → Lexes text from [] r
passed_on text bytes from p n q r e before lexed piece at more =
    join text from (p + n) r [] [] (passed_step text from p n before lexed (on_rest text bytes p (λ rest. BeginsPiece rest n None) e piece))
    (subst (λ (k : ℕ). Lexes text k [] r) at (subst (λ (t : List ℕ). Lexes t q [] r) e more))

pub further : (text bytes : List ℕ) (p n q r : ℕ) → bytes ≡ text → p < length text → BeginsPiece (take (length bytes - p) (drop p bytes)) n None → q ≡ p + n → Lexes bytes q [] r → r ≤ length bytes → length text - r < length text - p
further text bytes p n q r e before piece at more room =
    let piece' : BeginsPiece (drop p text) n None = on_rest text bytes p (λ rest. BeginsPiece rest n None) e piece in
    let within : q ≤ length bytes = omega (arith, ap length e, at, piece'.front.within, length-drop p text) in
    let ahead = chain_within bytes q r more.ends more.chain within in
    omega (arith, ap length e, at, piece'.some, ahead.0)

pub token_after : (text : List ℕ) (from p q : ℕ) (t : Token) → Lexes text from [] p → Lexes text p (t ∷ []) q → Lexes text from (t ∷ []) q
token_after text from p q t before lexed = join text from p q [] (t ∷ []) before lexed

pub same_line : (text bytes : List ℕ) (p n line : ℕ) → bytes ≡ text → line ≡ line_of text p → line_feeds (take n (take (length bytes - p) (drop p bytes))) ≡ 0 → line ≡ line_of text (p + n)
same_line text bytes p n line e l none =
    (let same : line ≡ line + 0 = omega arith in same)
    ∙ line_step text p n line 0 l (sym (on_rest text bytes p (λ rest. line_feeds (take n rest) ≡ 0) e none))
