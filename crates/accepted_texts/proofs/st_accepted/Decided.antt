-- Every text is accepted or refused: it has tokens or a first bad place, its lexemes are a unit or are refused, and a unit is good or bad.
use Rattle.std.proofs.Common.{◌≡◌, ◌⊎◌, inl, inr, ◌<◌, ◌≤◌, ◌+◌, ℕ, zero, suc, true, false, Bool, codes, List, [], ◌∷◌, ◌++◌, length, drop, refl, subst, arith}
use Rattle.std.specs.List.{slice_range}
use Rattle.std.proofs.lemmas.Bool.{cases_lt, cases_Bool}
use Rattle.plc_text.specs.Lines.{line_of}
use Rattle.plc_text.specs.declared.code.Code.{Code}
use Rattle.plc_text.specs.declared.code.Code.TheVariants as code
use Rattle.st_tree.specs.declared.program.Program.{Program}
use Rattle.st_tree.specs.declared.unit.Unit.{Unit as ProgramText}
use Rattle.st_tree.specs.Headings.{declaration_before, declaration_of}
use Rattle.st_tree.specs.NoUnit.{line_at}
use Rattle.st_tree.specs.Pieces.{is_piece}
use Rattle.st_tree.specs.Reads.{lexemes}
use Rattle.st_tree.specs.Token.{Token, IsPiece, IsChain, IsBad, Tokens, tokens_between}
use Rattle.st_parser_decl.specs.Law.{UnitNoneDeep, IsAnswered}
use Rattle.st_parser_decl.proofs.Stopping.{answered}
use Rattle.st_prelude.specs.Prelude.{IsPrelude}
use Rattle.st_unit_rules.proofs.RefusalLaws.{refusal_laws}
use Rattle.accepted_texts.proofs.told_units.Program.{has-program}
use Rattle.accepted_texts.specs.st_accepted.Accepted.{most_bytes, IsUnit, Accepted, RefusedFor, too_long, bad_place, no_unit, bad_unit}

-- ---- tokens

module _ (text : List ℕ) where
  abbrev fits : ℕ → ℕ → Bool
  fits start end = is_piece (slice_range text start end) (drop end text)

  -- no piece from here ends behind n
  abbrev NoneBehind : ℕ → ℕ → Type 0
  NoneBehind start n = (further : ℕ) → n < further → further ≤ length text → fits start further ≡ false

  none_more : (start n : ℕ) → fits start (suc n) ≡ false → NoneBehind start (suc n) → NoneBehind start n
  none_more start n unfit none further less within = elim (cases_lt (suc n) further) [
    | inl behind ↦ none further behind within
    | inr from ↦ let same : suc n ≡ further = omega arith in subst (λ k. fits start k ≡ false) same unfit
  ]

  -- the longest piece from here that ends at n or before, or there is none
  longest : (start n : ℕ) → n ≤ length text → NoneBehind start n → ((end : ℕ) × IsPiece text start end) ⊎ NoneBehind start start
  longest start zero le none = inr (λ end some within. none end (omega arith) within)
  longest start (suc n) le none = elim (cases_lt start (suc n)) [
    | inl more ↦ elim (cases_Bool (fits start (suc n))) [
      | inl fit ↦ inl (suc n, record { some = more; within = le; fits = fit; longest = none })
      | inr unfit ↦ longest start n (omega arith) (none_more start n unfit none)
    ]
    | inr from ↦ inr (λ end some within. none end (omega arith) within)
  ]

  abbrev Chained : ℕ → Type 0
  Chained start = (ends : List ℕ) × IsChain text start ends (length text)

  abbrev Broken : ℕ → Type 0
  Broken start = (ends : List ℕ) × (place : ℕ) × IsChain text start ends place × IsBad text place

  -- the longest piece from here, and what stands behind it
  behind : (start : ℕ) → start < length text → ((end : ℕ) → start < end → end ≤ length text → Chained end ⊎ Broken end) → ((end : ℕ) × IsPiece text start end) ⊎ NoneBehind start start → Chained start ⊎ Broken start
  behind start less onward (inl piece) = elim (onward piece.0 piece.1.some piece.1.within) [
    | inl whole ↦ inl (piece.0 ∷ whole.0, (piece.1, whole.1))
    | inr bad ↦ inr (piece.0 ∷ bad.0, bad.1, (piece.1, bad.2), bad.3)
  ]
  behind start less onward (inr none) = inr ([], start, refl, record { within = less; no-piece = none })

  chained : (left start : ℕ) → start ≤ length text → length text ≤ start + left → Chained start ⊎ Broken start
  chained zero start le most = inl ([], omega arith)
  chained (suc left) start le most = elim (cases_lt start (length text)) [
    | inl less ↦ behind start less (λ end some within. chained left end within (omega arith)) (longest start (length text) (omega arith) (λ further more within. absurd (omega arith)))
    | inr from ↦ inl ([], omega arith)
  ]

-- ---- units

module _ (prelude text : List ℕ) (blocks : ProgramText) (read : IsPrelude prelude blocks) (short : length text ≤ most_bytes) where
  abbrev Decided : Type 0
  Decided = ((p : Program) × Accepted prelude text p) ⊎ ((code : Code) × (declaration : List ℕ) × (line : ℕ) × RefusedFor prelude text code declaration line)

  module _ (ts : List Token) (tokens : Tokens text ts) where
    abbrev whole : ProgramText → ProgramText
    whole unit = record { decls = blocks.decls ++ unit.decls }

    is_unit : (unit : ProgramText) → UnitNoneDeep (lexemes ts) unit → IsUnit prelude text (whole unit)
    is_unit unit reads = record { fits = short; tokens = ts; tokens-are = tokens; unit = unit; reads = reads; with_prelude = record { prelude = blocks; is-prelude = read; before = refl } }

    judged : (unit : ProgramText) → UnitNoneDeep (lexemes ts) unit → Decided
    judged unit reads = elim (refusal_laws.decided (whole unit).decls) [
      | inl good ↦ let has = has-program (whole unit).decls in inl (has.program, record { whole = whole unit; is_unit = is_unit unit reads; good = good; checked = has.checked })
      | inr bad ↦ inr (bad.0, bad.1, bad.2, bad_unit (whole unit) (is_unit unit reads) bad.3)
    ]

    parsed : IsAnswered (lexemes ts) → Decided
    parsed (inl unit) = judged unit.0 unit.1
    parsed (inr (inl stop)) =
        inr (code.E02, declaration_of stop.0 (lexemes ts), line_at text (lexemes ts) stop.0, no_unit short ts tokens (record { place = stop.0; refused = stop.1; declaration-is = refl; line-is = refl }))
    parsed (inr (inr deep)) =
        inr (code.E03, declaration_of deep.0 (lexemes ts), line_at text (lexemes ts) deep.0, no_unit short ts tokens (record { place = deep.0; refused = deep.1; declaration-is = refl; line-is = refl }))

  read_on : Chained text 0 ⊎ Broken text 0 → Decided
  read_on (inl all) = parsed (tokens_between text 0 all.0) (record { ends = all.0; chain = all.1; tokens-are = refl }) (answered (lexemes (tokens_between text 0 all.0)))
  read_on (inr bad) =
      let before : List Token = tokens_between text 0 bad.0 in
      inr (code.E01, declaration_before before, line_of text bad.1, bad_place short before bad.1 (record { ends = bad.0; chain = bad.2; tokens-are = refl }, bad.3))

pub one_or_other : (prelude text : List ℕ) (blocks : ProgramText) → IsPrelude prelude blocks
    → ((p : Program) × Accepted prelude text p) ⊎ ((code : Code) × (declaration : List ℕ) × (line : ℕ) × RefusedFor prelude text code declaration line)
one_or_other prelude text blocks read = elim (cases_lt most_bytes (length text)) [
  | inl more ↦ inr (code.E16, codes "-", 1, too_long more)
  | inr short ↦ read_on prelude text blocks read short (chained text (length text) 0 (omega arith) (omega arith))
]
