-- A source has one reading, so it is refused for one thing, and not when it is accepted.
use Rattle.std.proofs.Common.{◌≡◌, ◌<◌, ◌≤◌, ℕ, false, List, ◌++◌, map, length, refl, sym, ap, ◌∙◌, subst, arith}
use Rattle.plc_text.specs.Lines.{line_of}
use Rattle.plc_text.specs.Code.{is_e17}
use Rattle.plc_text.specs.declared.code.Code.{Code}
use Rattle.plc_text.specs.declared.code.Code.TheVariants as code
use Rattle.st_tree.specs.declared.program.Program.{Program}
use Rattle.st_tree.specs.declared.unit.Unit.{Unit as ProgramText}
use Rattle.st_tree.specs.Declarations.{Derives}
use Rattle.st_tree.specs.Grammar.{Lexeme}
use Rattle.st_tree.specs.Headings.{declaration_before, declaration_of}
use Rattle.st_tree.specs.NoUnit.{IsRefusedAt, line_at, IsRefused}
use Rattle.st_tree.specs.Reads.{lexemes}
use Rattle.st_tree.specs.Token.{Token, Tokens, BadAfter}
use Rattle.st_tree.proofs.TokenLaws as token_law
use Rattle.st_parser_decl.proofs.Units as u
use Rattle.st_parser_decl.proofs.Stopping as s
use Rattle.st_prelude.specs.Prelude.{without_line, IsPrelude}
use Rattle.st_unit_rules.specs.Checked.{IsChecked}
use Rattle.st_unit_rules.specs.UnitRefusal.{UnitRefusal}
use Rattle.st_unit_rules.proofs.RefusalLaws as r
use Rattle.st_unit_rules.proofs.refusal_codes.RefusalCodes.{refusal_codes}
use Rattle.accepted_texts.proofs.st_accepted.Decided.{one_or_other}
use Rattle.accepted_texts.proofs.st_accepted.OneChecked.{one_checked}
use Rattle.accepted_texts.specs.st_accepted.Accepted.{most_bytes, IsUnit, Accepted, RefusedFor, too_long, bad_place, no_unit, bad_unit}
use Rattle.accepted_texts.specs.st_accepted.AcceptedLaws.{AcceptedLaws}

too_much : (n : ℕ) → n ≤ most_bytes → most_bytes < n → ⊥
too_much n h k = omega arith

module _ (prelude text : List ℕ) where
  same_tokens : (ts us : List Token) → Tokens text ts → Tokens text us → ts ≡ us
  same_tokens ts us h k = token_law.one_tokens text ts us h k

  -- the lexemes are a unit for both readings
  same_unit : (a b : ProgramText) (x : IsUnit prelude text a) (y : IsUnit prelude text b) → x.unit ≡ y.unit
  same_unit a b x y =
      u.one_unit (lexemes x.tokens) x.unit y.unit x.reads.derived
      (subst (λ ts. Derives (lexemes ts) y.unit) (sym (same_tokens x.tokens y.tokens x.tokens-are y.tokens-are)) y.reads.derived)

  same_prelude : (a b : ProgramText) → IsPrelude prelude a → IsPrelude prelude b → a ≡ b
  same_prelude a b x y =
      u.one_unit (lexemes (map without_line x.tokens)) a b x.derived
      (subst (λ ts. Derives (lexemes (map without_line ts)) b) (sym (token_law.one_tokens prelude x.tokens y.tokens x.tokens-are y.tokens-are)) y.derived)

  same_decls : (a b : ProgramText) → IsUnit prelude text a → IsUnit prelude text b → a.decls ≡ b.decls
  same_decls a b x y =
      x.with_prelude.before
      ∙ ap (λ p. p.decls ++ x.unit.decls) (same_prelude x.with_prelude.prelude y.with_prelude.prelude x.with_prelude.is-prelude y.with_prelude.is-prelude)
      ∙ ap (λ v. y.with_prelude.prelude.decls ++ v.decls) (same_unit a b x y)
      ∙ sym y.with_prelude.before

  refused_unit : (a : ProgramText) (code : Code) (declaration : List ℕ) (line : ℕ) (x : IsUnit prelude text a) (ts : List Token) → Tokens text ts → IsRefused text (lexemes ts) code declaration line → ⊥
  refused_unit a code declaration line x ts h k =
      s.never_both (lexemes x.tokens) x.unit code k.place x.reads
      (subst (λ us. IsRefusedAt code (lexemes us) k.place) (same_tokens ts x.tokens h x.tokens-are) k.refused)

  one_program : (p q : Program) → Accepted prelude text p → Accepted prelude text q → p ≡ q
  one_program p q a b = one_checked b.whole.decls p q (subst (λ ds. IsChecked ds p) (same_decls a.whole b.whole a.is_unit b.is_unit) a.checked) b.checked

  never_both : (p : Program) (code : Code) (declaration : List ℕ) (line : ℕ) → Accepted prelude text p → RefusedFor prelude text code declaration line → ⊥
  never_both p _ _ _ a (too_long h) = too_much (length text) a.is_unit.fits h
  never_both p _ _ _ a (bad_place h before place b) = token_law.never_both text a.is_unit.tokens before place a.is_unit.tokens-are b
  never_both p code declaration line a (no_unit h ts t k) = refused_unit a.whole code declaration line a.is_unit ts t k
  never_both p code declaration line a (bad_unit whole x k) =
      r.not_both a.whole.decls code declaration line a.good (subst (λ ds. UnitRefusal ds code declaration line) (same_decls whole a.whole x a.is_unit) k)

  abbrev pub Same : Code → Code → List ℕ → List ℕ → ℕ → ℕ → Type 0
  Same code code' declaration declaration' line line' = (code ≡ code') × (declaration ≡ declaration') × (line ≡ line')

  both_bad : (ts us : List Token) (p q : ℕ) → BadAfter text ts p → BadAfter text us q → (declaration_before ts ≡ declaration_before us) × (line_of text p ≡ line_of text q)
  both_bad ts us p q h k = let e = token_law.one_bad text p q ts us h k in (ap declaration_before e.1, ap (line_of text) e.0)

  both_refused : (ts : List Lexeme) (code code' : Code) (declaration declaration' : List ℕ) (line line' : ℕ) → IsRefused text ts code declaration line → IsRefused text ts code' declaration' line' → Same code code' declaration declaration' line line'
  both_refused ts code code' declaration declaration' line line' a b =
      let e = s.one_refusal ts code code' a.place b.place a.refused b.refused in
      (e.0, a.declaration-is ∙ ap (λ q. declaration_of q ts) e.1 ∙ sym b.declaration-is, a.line-is ∙ ap (line_at text ts) e.1 ∙ sym b.line-is)

  one_refusal : (code code' : Code) (declaration declaration' : List ℕ) (line line' : ℕ) → RefusedFor prelude text code declaration line → RefusedFor prelude text code' declaration' line' → Same code code' declaration declaration' line line'
  one_refusal _ _ _ _ _ _ (too_long h) (too_long k) = (refl, refl, refl)
  one_refusal _ _ _ _ _ _ (too_long h) (bad_place f before place b) = absurd (too_much (length text) f h)
  one_refusal _ _ _ _ _ _ (too_long h) (no_unit f ts t k) = absurd (too_much (length text) f h)
  one_refusal _ _ _ _ _ _ (too_long h) (bad_unit whole x k) = absurd (too_much (length text) x.fits h)
  one_refusal _ _ _ _ _ _ (bad_place f before place b) (too_long h) = absurd (too_much (length text) f h)
  one_refusal _ _ _ _ _ _ (bad_place f before place b) (bad_place g before' place' c) = let e = both_bad before before' place place' b c in (refl, e.0, e.1)
  one_refusal _ _ _ _ _ _ (bad_place f before place b) (no_unit g ts t k) = absurd (token_law.never_both text ts before place t b)
  one_refusal _ _ _ _ _ _ (bad_place f before place b) (bad_unit whole x k) = absurd (token_law.never_both text x.tokens before place x.tokens-are b)
  one_refusal _ _ _ _ _ _ (no_unit f ts t k) (too_long h) = absurd (too_much (length text) f h)
  one_refusal _ _ _ _ _ _ (no_unit f ts t k) (bad_place g before place b) = absurd (token_law.never_both text ts before place t b)
  one_refusal code code' declaration declaration' line line' (no_unit f ts t k) (no_unit g us v l) =
      both_refused (lexemes ts) code code' declaration declaration' line line' k (subst (λ ws. IsRefused text (lexemes ws) code' declaration' line') (same_tokens us ts v t) l)
  one_refusal code _ declaration _ line _ (no_unit f ts t k) (bad_unit whole x l) = absurd (refused_unit whole code declaration line x ts t k)
  one_refusal _ _ _ _ _ _ (bad_unit whole x l) (too_long h) = absurd (too_much (length text) x.fits h)
  one_refusal _ _ _ _ _ _ (bad_unit whole x l) (bad_place g before place b) = absurd (token_law.never_both text x.tokens before place x.tokens-are b)
  one_refusal _ code' _ declaration' _ line' (bad_unit whole x l) (no_unit f ts t k) = absurd (refused_unit whole code' declaration' line' x ts t k)
  one_refusal code code' declaration declaration' line line' (bad_unit whole x k) (bad_unit whole' y l) =
      r.one whole.decls code code' declaration declaration' line line' k (subst (λ ds. UnitRefusal ds code' declaration' line') (sym (same_decls whole whole' x y)) l)

  -- ---- codes

  at_code : (c : Code) (ts : List Lexeme) (p : ℕ) → IsRefusedAt c ts p → is_e17 c ≡ false
  at_code code.E01 ts p h = refl
  at_code code.E02 ts p h = refl
  at_code code.E03 ts p h = refl
  at_code code.E04 ts p h = refl
  at_code code.E05 ts p h = refl
  at_code code.E06 ts p h = refl
  at_code code.E07 ts p h = refl
  at_code code.E08 ts p h = refl
  at_code code.E09 ts p h = refl
  at_code code.E10 ts p h = refl
  at_code code.E11 ts p h = refl
  at_code code.E12 ts p h = refl
  at_code code.E13 ts p h = refl
  at_code code.E14 ts p h = refl
  at_code code.E15 ts p h = refl
  at_code code.E16 ts p h = refl
  at_code code.E17 ts p h = absurd h

  no_hook : (code : Code) (declaration : List ℕ) (line : ℕ) → RefusedFor prelude text code declaration line → is_e17 code ≡ false
  no_hook _ _ _ (too_long h) = refl
  no_hook _ _ _ (bad_place f before place b) = refl
  no_hook code _ _ (no_unit f ts t k) = at_code code (lexemes ts) k.place k.refused
  no_hook code declaration line (bad_unit whole x k) = refusal_codes.refusals whole.decls code declaration line k

pub accepted_laws : AcceptedLaws
accepted_laws = record { one_program = one_program; never_both = never_both; one_refusal = one_refusal; one_or_other = one_or_other; no_hook = no_hook }
