-- A refusal is determined by its parts.
use Rattle.std.proofs.Common.{◌≡◌, ℕ, List, Option, Some, None, refl, ap, ◌∙◌}
use Rattle.std.specs.Prelude.{is_some}
use mathlib.Core.Bool.{Bool-set}
use Rattle.plc_text.specs.Code.{is_e17}
use Rattle.plc_text.specs.declared.code.Code.{Code}
use Rattle.plc_text.specs.declared.code.Code.TheVariants.{E17}
use Rattle.plc_text.specs.declared.fault.FaultKind.{FaultKind}
use Rattle.plc_text.specs.declared.refusal.Refusal.{Refusal}
use Rattle.cycle_journal.specs.Private.Candidate.{refusal_of}

abbrev refusal_with : (code : Code) → List ℕ → ℕ → (kind : Option FaultKind) → is_some kind ≡ is_e17 code → Refusal
refusal_with code declaration line kind p = record { code = code; declaration = declaration; line = line; kind = kind; kind_with_e17 = p }

some_refusal : (code : Code) (declaration : List ℕ) (line : ℕ) (kind : Option FaultKind) → is_some kind ≡ is_e17 code
    → (p : is_some kind ≡ is_e17 code) × (refusal_of code declaration line kind ≡ Some (refusal_with code declaration line kind p))
unfolding refusal_of
some_refusal E17 declaration line (Some kind) p = (refl, refl)
some_refusal E17 declaration line None p = absurd cc
some_refusal _ declaration line (Some kind) p = absurd cc
some_refusal _ declaration line None p = (refl, refl)

pub refusal_of-some : (code : Code) (declaration : List ℕ) (line : ℕ) (kind : Option FaultKind) (p : is_some kind ≡ is_e17 code)
    → refusal_of code declaration line kind ≡ Some (refusal_with code declaration line kind p)
refusal_of-some code declaration line kind p =
    let found = some_refusal code declaration line kind p in
    found.1 ∙ ap (λ (q : is_some kind ≡ is_e17 code). Some (refusal_with code declaration line kind q)) (Bool-set (is_some kind) (is_e17 code) found.0 p)

pub refusal_again : (r : Refusal) → refusal_of r.code r.declaration r.line r.kind ≡ Some r
refusal_again r = refusal_of-some r.code r.declaration r.line r.kind r.kind_with_e17
