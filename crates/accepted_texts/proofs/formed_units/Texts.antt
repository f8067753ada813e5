-- Tokens are formed and at most as many as the bytes of their text, so what a text reads as is formed.
use Rattle.std.proofs.Common.{◌≡◌, ◌≤◌, ◌<◌, ℕ, zero, suc, ◌+◌, ◌-◌, List, [], ◌∷◌, ◌++◌, map, length, take, drop, length-drop, Option, Some, None, refl, sym, ap, ◌∙◌, subst, arith}
use Rattle.std.specs.List.{slice_range, cons_option}
use Rattle.std.specs.Option.{option_map}
use Rattle.plc_text.specs.Text.{folded}
use Rattle.plc_text.specs.Lines.{line_of}
use Rattle.st_tree.specs.declared.terminal.Terminal.{Terminal}
use Rattle.st_tree.specs.declared.terminal.Terminal.TheVariants as x
use Rattle.st_tree.specs.declared.token.TokenKind.{TokenKind}
use Rattle.st_tree.specs.declared.token.TokenKind.TheVariants as token
use Rattle.st_tree.specs.declared.marks.Marks.{Marks}
use Rattle.st_tree.specs.declared.unit.Decl.{Decl}
use Rattle.st_tree.specs.declared.unit.Unit.{Unit as ProgramText}
use Rattle.st_tree.specs.Token.{Token, Tokens, piece_kind, IsPiece, IsChain, tokens_between}
use Rattle.st_tree.specs.Reads.{terminal_of, no_marks, with_mark, either_way, lexemes_behind, lexemes}
use Rattle.st_tree.specs.Grammar.{Lexeme}
use Rattle.st_tree.specs.Declarations.{Derives}
use Rattle.st_tree.proofs.TableLaws.{no_keyword, no_symbol}
use Rattle.accepted_texts.specs.formed_units.Formed.{NotEmpty, IsFormed, FormedAddress, FormedToken, AreFormed, FormedLaws}
use Rattle.accepted_texts.proofs.formed_units.Gives.{Fine}
use Rattle.accepted_texts.proofs.formed_units.Addresses.{piece_formed}
use Rattle.accepted_texts.proofs.formed_units.Declarations.{derived}

some_taken : {X : Type 0} (n : ℕ) (xs : List X) → 0 < n → 0 < length xs → NotEmpty (take n xs)
some_taken zero xs h k = absurd (omega (arith, h))
some_taken (suc n) [] h k = absurd (omega (arith, k))
some_taken (suc n) (x ∷ xs) h k = tt

piece_some : (text : List ℕ) (start end : ℕ) → IsPiece text start end → NotEmpty (slice_range text start end)
piece_some text start end h =
    let a = h.some in
    let b = h.within in
    let c = length-drop start text in
    some_taken (end - start) (drop start text) (omega (arith, a)) (omega (arith, a, b, c))

record SomeTokens (ts : List Token) (n : ℕ) : Type 0 where
  formed : AreFormed ts
  few : length ts ≤ n

with_one : (text : List ℕ) (start end : ℕ) (o : Option TokenKind) (ts : List Token) (n : ℕ) → piece_kind (slice_range text start end) ≡ o → NotEmpty (slice_range text start end) → SomeTokens ts n
    → SomeTokens (cons_option (option_map (λ kind. record { kind = kind; text = slice_range text start end; span = record { start = start; end = end }; line = line_of text start }) o) ts) (suc n)
with_one text start end None ts n e h k = let f = k.few in record { formed = k.formed; few = omega (arith, f) }
with_one text start end (Some kind) ts n e h k =
    let f = k.few in
    record { formed = (record { some = h; address = λ q. piece_formed (slice_range text start end) (e ∙ ap Some q) }, k.formed); few = omega (arith, f) }

between : (text : List ℕ) (start stop : ℕ) (ends : List ℕ) → IsChain text start ends stop → SomeTokens (tokens_between text start ends) (length ends) × (start + length ends ≤ stop)
between text start stop [] h = (record { formed = tt; few = omega arith }, omega (arith, h))
between text start stop (end ∷ ends) h =
    let rest = between text end stop ends h.1 in
    let a = h.0.some in
    let b = rest.1 in
    (with_one text start end (piece_kind (slice_range text start end)) (tokens_between text end ends) (length ends) refl (piece_some text start end h.0) rest.0, omega (arith, a, b))

tokens_formed : (text : List ℕ) (tokens : List Token) → Tokens text tokens → AreFormed tokens × (length tokens ≤ length text)
tokens_formed text tokens h =
    let r = between text 0 (length text) h.ends h.chain in
    let k = subst (λ ts. SomeTokens ts (length h.ends)) (sym h.tokens-are) r.0 in
    let f = k.few in
    let b = r.1 in
    (k.formed, omega (arith, f, b))

folded_some : (text : List ℕ) → NotEmpty text → NotEmpty (folded text)
folded_some [] h = h
folded_some (c ∷ cs) h = tt

-- nothing but an address is one to the grammar
kind_is_address : (k : TokenKind) (text : List ℕ) → terminal_of k text ≡ Some x.Address → k ≡ token.Address
kind_is_address token.Address text e = refl
kind_is_address token.Keyword text e = absurd (no_keyword text x.Address refl e)
kind_is_address token.Symbol text e = absurd (no_symbol text x.Address refl e)
kind_is_address token.Word text e = cc
kind_is_address token.Int text e = cc
kind_is_address token.Time text e = cc
kind_is_address token.Mark text e = cc

module _ (most : ℕ) where
  either_fine : (o : Option Terminal) (t : Token) (m : Marks) (as' bs : List Lexeme) (n : ℕ) → terminal_of t.kind (folded t.text) ≡ o → FormedToken t → Fine n as' → Fine n bs → Fine (suc n) (either_way o t m as' bs)
  either_fine None t m as' bs n e h f g = let l = f.1 in (f.0, omega (arith, l))
  either_fine (Some s) t m as' bs n e h f g =
      let l = g.1 in
      ((record { some = folded_some t.text h.some; address = λ q. h.address (kind_is_address t.kind (folded t.text) (e ∙ ap Some q)) }, g.0), omega (arith, l))

  lexemes_fine : (m : Marks) (ts : List Token) → AreFormed ts → Fine (length ts) (lexemes_behind m ts)
  lexemes_fine m [] h = (tt, omega arith)
  lexemes_fine m (t ∷ ts) h =
      either_fine (terminal_of t.kind (folded t.text)) t m (lexemes_behind (with_mark m t.text) ts) (lexemes_behind no_marks ts) (length ts) refl h.0 (lexemes_fine (with_mark m t.text) ts h.1) (lexemes_fine no_marks ts h.1)

  formed : (tokens : List Token) (unit : ProgramText) → AreFormed tokens → length tokens ≤ most → Derives (lexemes tokens) unit → IsFormed most unit.decls
  formed tokens unit h l d =
      let f = lexemes_fine no_marks tokens h in
      let k = f.1 in
      derived most unit.decls (lexemes tokens) [] (f.0, omega (arith, k, l)) d

  changed_formed : (f : Token → Token) → ((t : Token) → ((f t).kind ≡ t.kind) × ((f t).text ≡ t.text)) → (ts : List Token) → AreFormed ts → AreFormed (map f ts) × (length (map f ts) ≡ length ts)
  changed_formed f e [] h = (tt, refl)
  changed_formed f e (t ∷ ts) h =
      let r = changed_formed f e ts h.1 in
      let one : FormedToken (f t) = record {
        some = subst (λ (z : List ℕ). NotEmpty z) (sym (e t).1) h.0.some;
        address = λ q. subst (λ (z : List ℕ). FormedAddress (folded z)) (sym (e t).1) (h.0.address (sym (e t).0 ∙ q));
      } in
      ((one, r.0), ap suc r.1)

  formed_joined : (ds es : List (Decl ℕ)) → IsFormed most ds → IsFormed most es → IsFormed most (ds ++ es)
  formed_joined [] es h k = k
  formed_joined (d ∷ ds) es h k = (h.0, formed_joined ds es h.1 k)

pub formed_laws : FormedLaws
formed_laws = record {
  tokens = tokens_formed;
  formed = formed;
  text = λ most text tokens unit t l d. let r = tokens_formed text tokens t in let b = r.1 in formed most tokens unit r.0 (omega (arith, b, l)) d;
  changed = λ most text tokens f unit e t l d.
      let r = tokens_formed text tokens t in
      let b = r.1 in
      let c = changed_formed most f e tokens r.0 in
      let q = c.1 in
      formed most (map f tokens) unit c.0 (omega (arith, b, l, q)) d;
  joined = formed_joined;
}
