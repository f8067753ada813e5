-- The tokens of a source, one after another.
use Rattle.std.proofs.Common.{◌≡◌, ℕ, ◌-◌, ◌<◌, ◌≤◌, List, [], ◌∷◌, ◌++◌, length, map, sym, ap, subst, ◌∙◌, arith}
use Rattle.std.proofs.lemmas.List.{map_push, append-nil}
use Rattle.plc_text.specs.Lines.{line_of}
use Rattle.plc_text.specs.declared.code.Code.TheVariants as codes
use Rattle.plc_text.specs.declared.denied.Denied.{Denied}
use Rattle.plc_text.specs.declared.denied.Denied.TheVariants.{Refused, NoMemory}
use Rattle.st_tree.specs.Token.{Token, IsChain, IsBad, Lexes, BadAfter, tokens_between}
use Rattle.st_tree.specs.Headings.{declaration_before}
use Rattle.st_lexer.specs.declared.token.Token.{Token as Lexed}
use Rattle.st_lexer.specs.Token.{token_view}
use Rattle.st_lexer.specs.Source.{OnRefused, Says, SaysBad}
use Rattle.st_lexer.proofs.LexLaws.{join, chain_within}

-- a token takes a place
pub forward : (text : List ℕ) (p q : ℕ) (t : Token) (ts : List Token) → Lexes text p (t ∷ ts) q → (p < q) × (q ≤ length text)
forward text p q t ts lexed = with_ends lexed.ends lexed.chain lexed.tokens-are
  where
    with_ends : (ends : List ℕ) → IsChain text p ends q → t ∷ ts ≡ tokens_between text p ends → (p < q) × (q ≤ length text)
    with_ends [] e h = cc
    with_ends (e ∷ ends) (piece, chain) h = let rest = chain_within text e q ends chain piece.within in (omega (arith, piece.some), rest.1)

pub smaller : (text source : List ℕ) (p q : ℕ) (t : Token) → source ≡ text → Lexes source p (t ∷ []) q → length text - q < length text - p
smaller text source p q t e lexed = let ahead = forward source p q t [] lexed in omega (arith, ap length e, ahead.0, ahead.1)

-- one token more
pub found_more : (text source : List ℕ) (p q : ℕ) (items more : List Lexed) (t : Lexed) → source ≡ text → Lexes text 0 (map token_view items) p → Lexes source p (token_view t ∷ []) q → more ≡ items ++ t ∷ [] → Lexes text 0 (map token_view more) q
found_more text source p q items more t e before lexed m =
    let ts : map token_view more ≡ map token_view items ++ token_view t ∷ [] = ap (map token_view) m ∙ map_push token_view items t in
    subst (λ (x : List Token). Lexes text 0 x q) (sym ts)
    (join text 0 p q (map token_view items) (token_view t ∷ []) before (subst (λ (s : List ℕ). Lexes s p (token_view t ∷ []) q) e lexed))

-- nothing more
found_last : (text source : List ℕ) (p q : ℕ) (ts : List Token) → source ≡ text → Lexes text 0 ts p → Lexes source p [] q → Lexes text 0 ts q
found_last text source p q ts e before lexed =
    subst (λ (x : List Token). Lexes text 0 x q) (append-nil ts)
    (join text 0 p q ts [] before (subst (λ (s : List ℕ). Lexes s p [] q) e lexed))

pub found_all : (text source : List ℕ) (p q : ℕ) (ts : List Token) → source ≡ text → Lexes text 0 ts p → Lexes source p [] q → q ≡ length source → Lexes text 0 ts (length text)
found_all text source p q ts e before lexed end = subst (λ (x : ℕ). Lexes text 0 ts x) (end ∙ ap length e) (found_last text source p q ts e before lexed)

pub found_bad : (text source : List ℕ) (p q : ℕ) (ts : List Token) → source ≡ text → Lexes text 0 ts p → Lexes source p [] q → IsBad source q → BadAfter text ts q
found_bad text source p q ts e before lexed bad = (found_last text source p q ts e before lexed, subst (λ (s : List ℕ). IsBad s q) e bad)

pub says_bad : (text : List ℕ) (ts : List Token) (place at line : ℕ) (name : List ℕ) (denied : Denied) (P : Type 0) → BadAfter text ts place → name ≡ declaration_before ts → at ≡ place → line ≡ line_of text at → OnRefused denied (λ refusal. Says refusal codes.E01 name line) → OnRefused denied (λ refusal. P → SaysBad text refusal)
says_bad text ts place at line name (Refused refusal) P bad n a l says = λ _. record {
  before = ts;
  place = place;
  bad = bad;
  says = record { code-is = says.code-is; declaration-is = says.declaration-is ∙ n; line-is = says.line-is ∙ l ∙ ap (line_of text) a };
}
says_bad text ts place at line name NoMemory P bad n a l says = tt
