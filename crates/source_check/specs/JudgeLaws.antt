-- The language judges: one program or one refusal, and each program keeps what all that runs may rest on.
use Rattle.std.proofs.Common.{◌≡◌, ℕ, List, false, Option, Some, None, is_some, refl, sym, ap, ◌∙◌, subst}
use mathlib.Core.Bool.{Bool-set}
use Rattle.plc_text.specs.Code.{is_e17}
use Rattle.plc_text.specs.declared.code.Code.{Code}
use Rattle.plc_text.specs.declared.fault.FaultKind.{FaultKind}
use Rattle.plc_text.specs.declared.refusal.Refusal.{Refusal}
use Rattle.st_values.specs.Program.{Program}
use Rattle.st_values.specs.View.{program_of}
use Rattle.st_change.specs.Laws.{Judges}
use Rattle.st_tree.specs.declared.program.Program.{Program as CheckedProgram}
use Rattle.st_prelude.specs.Blocks.{standard_blocks}
use Rattle.console_command.specs.Checker.{IsKept}
use Rattle.accepted_texts.specs.st_accepted.Accepted.{Accepted}
use Rattle.accepted_texts.proofs.st_accepted.AcceptedLaws.{accepted_laws}
use Rattle.accepted_texts.specs.st_accepted.Judge.{IsRefusal}
use Rattle.accepted_texts.proofs.unfolding_laws.UnfoldingLaws.{unfolding_laws}
use Rattle.accepted_texts.proofs.sized_units.Whole.{sized_unit_laws}
use Rattle.accepted_texts.specs.st_accepted.Judge.{IsAcceptedAs}

-- ---- refusals with the same parts

module _ (declaration : List ℕ) (line : ℕ) where
  abbrev refusal_with : (code : Code) (kind : Option FaultKind) → is_some kind ≡ is_e17 code → Refusal
  refusal_with code kind w = record { code = code; declaration = declaration; line = line; kind = kind; kind_with_e17 = w }

  same_kind : (c c' : Code) (k k' : Option FaultKind) (w : is_some k ≡ is_e17 c) (w' : is_some k' ≡ is_e17 c') → c ≡ c' → k ≡ k' → refusal_with c k w ≡ refusal_with c' k' w'
  same_kind c c' k k' w w' e f =
      subst (λ d. (v : is_some k' ≡ is_e17 d) → refusal_with c k w ≡ refusal_with d k' v) e
      (subst (λ l. (v : is_some l ≡ is_e17 c) → refusal_with c k w ≡ refusal_with c l v) f (λ v. ap (refusal_with c k) (Bool-set _ _ w v)))
      w'

same_refusal : (r s : Refusal) → r.code ≡ s.code → r.declaration ≡ s.declaration → r.line ≡ s.line → r.kind ≡ s.kind → r ≡ s
same_refusal r s c d l k =
    ap (λ x. refusal_with x r.line r.code r.kind r.kind_with_e17) d
    ∙ ap (λ x. refusal_with s.declaration x r.code r.kind r.kind_with_e17) l
    ∙ same_kind s.declaration s.line r.code s.code r.kind s.kind r.kind_with_e17 s.kind_with_e17 c k

-- ---- the judge

-- what is not there
no_kind : (k : Option FaultKind) → is_some k ≡ false → k ≡ None
no_kind None e = refl
no_kind (Some k) e = absurd (cc)

module _ (prelude : List ℕ) where
  plain : {text : List ℕ} (r : Refusal) → IsRefusal prelude text r → is_some r.kind ≡ false
  plain {text} r h = r.kind_with_e17 ∙ accepted_laws.no_hook prelude text r.code r.declaration r.line h

  one_program : (text : List ℕ) (p q : Program) → IsAcceptedAs prelude text p → IsAcceptedAs prelude text q → p ≡ q
  one_program text p q a b = sym a.seen ∙ ap program_of (accepted_laws.one_program prelude text a.program b.program a.accepted b.accepted) ∙ b.seen

  one_refusal : (text : List ℕ) (r s : Refusal) → IsRefusal prelude text r → IsRefusal prelude text s → r ≡ s
  one_refusal text r s h k =
      let e = accepted_laws.one_refusal prelude text r.code s.code r.declaration s.declaration r.line s.line h k in
      same_refusal r s e.0 e.1 e.2 (no_kind r.kind (plain r h) ∙ sym (no_kind s.kind (plain s k)))

  not_both : (text : List ℕ) (p : Program) (r : Refusal) → IsAcceptedAs prelude text p → IsRefusal prelude text r → ⊥
  not_both text p r a k = accepted_laws.never_both prelude text a.program r.code r.declaration r.line a.accepted k

  pub judges : Judges (IsAcceptedAs prelude) (IsRefusal prelude)
  judges = record { one_program = one_program; one_refusal = one_refusal; not_both = not_both }

  pub one_checked : (text : List ℕ) (p q : CheckedProgram) → Accepted prelude text p → Accepted prelude text q → p ≡ q
  one_checked text p q a b = accepted_laws.one_program prelude text p q a b

  pub seen : (text : List ℕ) (p : CheckedProgram) → Accepted prelude text p → IsAcceptedAs prelude text (program_of p)
  seen text p a = record { program = p; accepted = a; seen = refl }

pub kept : (text : List ℕ) (p : Program) → IsAcceptedAs standard_blocks text p → IsKept p
kept text p a =
    subst IsKept a.seen
    (record {
      unfolds = record { shapes = unfolding_laws.regions a.accepted.whole.decls a.program a.accepted.good a.accepted.checked };
      sized = sized_unit_laws.accepted text a.program a.accepted;
      outputs = sized_unit_laws.accepted_outputs text a.program a.accepted;
    })
