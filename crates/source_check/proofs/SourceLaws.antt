-- A source that is accepted, and one that is refused.
use Rattle.std.proofs.Common.{◌⊎◌, inl, inr, ℕ, zero, suc, ◌<◌, ◌≤◌, List, length, Result, Ok, Err, sym, subst, arith}
use Rattle.std.specs.Prelude.{codes, IfOk, IfErr}
use Rattle.plc_text.specs.Lines.{line_of}
use Rattle.plc_text.specs.declared.code.Code.{Code}
use Rattle.plc_text.specs.declared.code.Code.TheVariants.{E01, E16}
use Rattle.plc_text.specs.declared.denied.Denied.{Denied}
use Rattle.plc_text.specs.declared.denied.Denied.TheVariants.{Refused, NoMemory}
use Rattle.plc_text.specs.declared.refusal.Refusal.{Refusal}
use Rattle.st_tree.specs.declared.program.Program.{Program}
use Rattle.st_tree.specs.declared.unit.Unit.{Unit as ProgramText}
use Rattle.st_tree.specs.Headings.{declaration_before}
use Rattle.st_tree.specs.Reads.{lexemes}
use Rattle.st_tree.specs.Token.{Token, Tokens}
use Rattle.st_lexer.specs.Source as lexer
use Rattle.st_parser_decl.specs.Law.{UnitNoneDeep}
use Rattle.st_parser_decl.specs.Reading as reading
use Rattle.st_prelude.specs.Prelude.{HasPrelude}
use Rattle.accepted_texts.specs.st_accepted.Accepted.{Accepted, IsUnit, RefusedFor, most_bytes, too_long, bad_place, no_unit, bad_unit}
use Rattle.st_unit_rules.specs.Checked.{IsChecked}
use Rattle.st_unit_rules.specs.RefusalLaws.{IsGood}
use Rattle.st_unit_rules.specs.UnitRefusal.{UnitRefusal}
use Rattle.st_check_decl.specs.unit_check.Checking.{OnRefused}
use Rattle.accepted_texts.specs.st_accepted.Judge.{IsRefusal}

module _ (prelude text : List ℕ) where
  abbrev Its : Refusal → Type 0
  Its r = IsRefusal prelude text r

  -- by the words of the lexer
  said : (r : Refusal) (code : Code) (declaration : List ℕ) (line : ℕ) → lexer.Says r code declaration line → RefusedFor prelude text code declaration line → Its r
  said r code declaration line s h =
      subst (λ (l : ℕ). RefusedFor prelude text r.code r.declaration l) (sym s.line-is)
      (subst (λ (d : List ℕ). RefusedFor prelude text r.code d line) (sym s.declaration-is) (subst (λ (c : Code). RefusedFor prelude text c declaration line) (sym s.code-is) h))

  bad_said : (r : Refusal) → length text ≤ most_bytes → lexer.SaysBad text r → Its r
  bad_said r l s = said r E01 (declaration_before s.before) (line_of text s.place) s.says (bad_place l s.before s.place s.bad)

  long_or_not : (n m : ℕ) → (n ≤ m) ⊎ (m < n)
  long_or_not zero m = inl (omega arith)
  long_or_not (suc n) zero = inr (omega arith)
  long_or_not (suc n) (suc m) = elim (long_or_not n m) [ inl p ↦ inl (omega (arith, p)) | inr p ↦ inr (omega (arith, p)) ]

  pub no_tokens : (e : Denied) → lexer.OnRefused e (λ r. most_bytes < length text → lexer.Says r E16 (codes "-") 1) → lexer.OnRefused e (λ r. length text ≤ most_bytes → lexer.SaysBad text r) → OnRefused e Its
  no_tokens NoMemory h k = tt
  no_tokens (Refused r) h k = by (long_or_not (length text) most_bytes)
    where
      by : (length text ≤ most_bytes) ⊎ (most_bytes < length text) → Its r
      by (inl l) = bad_said r l (k l)
      by (inr g) = said r E16 (codes "-") 1 (h g) (too_long g)

  module _ (ts : List Token) (fits : length text ≤ most_bytes) (tokens : Tokens text ts) where
    pub not_parsed : (e : Denied) → lexer.OnRefused e (reading.Says text (lexemes ts)) → OnRefused e Its
    not_parsed NoMemory h = tt
    not_parsed (Refused r) h = no_unit fits ts tokens h

    pub is_unit : (unit whole : ProgramText) → UnitNoneDeep (lexemes ts) unit → HasPrelude prelude unit whole → IsUnit prelude text whole
    is_unit unit whole reads h = record { fits = fits; tokens = ts; tokens-are = tokens; unit = unit; reads = reads; with_prelude = h }

  module _ (whole : ProgramText) (is : IsUnit prelude text whole) where
    pub not_good : (e : Denied) → OnRefused e (λ r. UnitRefusal whole.decls r.code r.declaration r.line) → OnRefused e Its
    not_good NoMemory h = tt
    not_good (Refused r) h = bad_unit whole is h

    pub is_accepted : (p : Program) → IsGood whole.decls × IsChecked whole.decls p → Accepted prelude text p
    is_accepted p h = record { whole = whole; is_unit = is; good = h.0; checked = h.1 }

    pub accepted_so : (r : Result Program Denied) → IfOk r (λ p. IsGood whole.decls × IsChecked whole.decls p) → IfOk r (λ p. Accepted prelude text p)
    accepted_so (Ok p) h = is_accepted p h
    accepted_so (Err e) h = tt

    pub refused_so : (r : Result Program Denied) → IfErr r (λ e. OnRefused e (λ r'. UnitRefusal whole.decls r'.code r'.declaration r'.line)) → IfErr r (λ e. OnRefused e Its)
    refused_so (Ok p) h = tt
    refused_so (Err e) h = not_good e h
