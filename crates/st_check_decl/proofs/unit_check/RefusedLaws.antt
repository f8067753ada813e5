-- A refusal by what is bad.
use Rattle.std.proofs.Common.{◌≡◌, ℕ, false, List, sym, subst}
use Rattle.plc_text.specs.Code.{is_e17}
use Rattle.plc_text.specs.declared.code.Code.{Code}
use Rattle.plc_text.specs.declared.refusal.Refusal.{Refusal}
use Rattle.st_tree.specs.declared.unit.Decl.{Decl}
use Rattle.st_check_decl.specs.declared.checked_declarations.so_far.Bad.{Bad}
use Rattle.st_check_decl.specs.declared.checked_declarations.so_far.Bad.TheVariants as bad
use Rattle.st_unit_rules.proofs.refusal_codes.RefusalCodes.{refusal_codes}
use Rattle.st_unit_rules.specs.UnitRefusal.{IsFirstBad, UnitRefusal, first_bad}
use Rattle.st_check_decl.specs.unit_check.Private.Refused.{IfRule, IsRefusal}

module _ (decls : List (Decl ℕ)) (b : Bad) (declaration : List ℕ) (code : Code) (line : ℕ) (is : b ≡ bad.Rule declaration code line) (h : IfRule b (IsFirstBad decls)) where
  first : IsFirstBad decls code declaration line
  first = subst (λ (x : Bad). IfRule x (IsFirstBad decls)) is h

  -- no rule of a unit has the code E17
  pub not_e17 : is_e17 code ≡ false
  not_e17 = refusal_codes.refusals decls code declaration line (first_bad first)

  pub refuses : (r : Refusal) → IsRefusal r code declaration line → UnitRefusal decls r.code r.declaration r.line
  refuses r k = first_bad (subst (λ (l : ℕ). IsFirstBad decls r.code r.declaration l) (sym k.line-is) (subst (λ (d : List ℕ). IsFirstBad decls r.code d line) (sym k.declaration-is) (subst (λ (c : Code). IsFirstBad decls c declaration line) (sym k.code-is) first)))
