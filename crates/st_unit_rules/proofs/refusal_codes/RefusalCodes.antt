-- No refusal of a unit has the code E17.
use Rattle.std.proofs.Common.{◌≡◌, ℕ, false, List, [], Option, Some, None, refl, subst}
use Rattle.std.specs.Prelude.{MatchOption, slice_get}
use Rattle.plc_text.specs.declared.code.Code.{Code}
use Rattle.plc_text.specs.Code.{is_e17}
use Rattle.st_tree.specs.declared.unit.Decl.{Decl}
use Rattle.st_rules.specs.Faults.{Faults, Breaks, BreaksFirst, least}
use Rattle.st_rules.proofs.Booleans.{none≢some, some-same}
use Rattle.st_rules.proofs.FaultLaws.{least_breaks_first}
use Rattle.st_unit_rules.specs.declared_names.Declarations.{Placed, placed}
use Rattle.st_unit_rules.specs.DeclarationRules.{declaration_faults}
use Rattle.st_unit_rules.specs.UnitRefusal.{UnitRefusal, first_bad, no_configuration, faults_of, faults_at}
use Rattle.st_unit_rules.specs.refusal_codes.RefusalCodes.{RefusalCodes}
use Rattle.st_unit_rules.proofs.refusal_codes.FaultWords.{Usual, none, usual}
use Rattle.st_unit_rules.proofs.refusal_codes.DeclarationCodes.{declaration_faults_usual}

-- the least of what is broken is broken
least_broken : (fs : Faults) (o : Option (Code × ℕ)) (code : Code) (line : ℕ) → MatchOption o (fs ≡ []) (λ f. BreaksFirst fs f.0 f.1) → o ≡ Some (code, line) → Breaks fs code line
least_broken fs None code line h e = absurd (none≢some e)
least_broken fs (Some f) code line h e = subst (λ (g : Code × ℕ). Breaks fs g.0 g.1) (some-same e) h.broken

module _ (decls : List (Decl ℕ)) where
  placed_usual : (i : ℕ) (o : Option Placed) → Usual (faults_of decls i o)
  placed_usual i None = none
  placed_usual i (Some x) = declaration_faults_usual decls i x

  refused : (code : Code) (declaration : List ℕ) (line : ℕ) → UnitRefusal decls code declaration line → is_e17 code ≡ false
  refused code declaration line (first_bad f) = usual (faults_at decls f.place) code line (placed_usual f.place (slice_get (placed decls) f.place)) f.breaks.broken
  refused code declaration line (no_configuration n e) = refl

pub refusal_codes : RefusalCodes
refusal_codes = record {
  codes = λ decls i x code line e. usual (declaration_faults decls i x) code line (declaration_faults_usual decls i x)
      (least_broken (declaration_faults decls i x) (least (declaration_faults decls i x)) code line (least_breaks_first (declaration_faults decls i x)) e);
  refusals = refused;
}
