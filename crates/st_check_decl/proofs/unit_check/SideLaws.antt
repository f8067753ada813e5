-- What a unit is checked by is of that unit.
use Rattle.std.proofs.Common.{◌≡◌, ℕ, List, [], None, false, sym, ap, ◌∙◌, subst}
use Rattle.std.specs.Prelude.{Result, IfErr, IfOk}
use Rattle.plc_text.specs.declared.denied.Denied.{Denied}
use Rattle.st_tree.specs.declared.program.Program.{Program}
use Rattle.st_tree.specs.declared.unit.Decl.{Decl}
use Rattle.st_tree.specs.declared.unit.Unit.{Unit as ProgramText}
use Rattle.st_rules.specs.Classes.{classes_in}
use Rattle.check_names.specs.member_names.Known.{Knows}
use Rattle.default_values.specs.numbered_signatures.Signatures.{Tells}
use Rattle.check_configurations.specs.program_instances.Programs.{HasPrograms}
use Rattle.st_unit_rules.specs.Checked.{IsChecked}
use Rattle.st_unit_rules.specs.DeclarationRules.{signatures}
use Rattle.st_unit_rules.specs.RefusalLaws.{IsGood}
use Rattle.st_unit_rules.specs.UnitRefusal.{UnitRefusal}
use Rattle.symbol_table.specs.unit_tables.Scopes.{scope_in}
use Rattle.st_check_decl.specs.declared.unit_check.side.CheckSide.{CheckSide}
use Rattle.st_check_decl.specs.unit_check.Checking.{OnRefused}
use Rattle.st_check_decl.specs.unit_check.Private.Side.{ServesUnit}

pub serves : (x : CheckSide) (u : ProgramText) → x.tables.now ≡ u → x.scope.now ≡ scope_in x.tables.now.decls None false [] → HasPrograms x.programs.now x.tables.now.decls → Knows x.classes.names.now (classes_in u.decls)
    → Tells x.classes.signatures.now.worths x.classes.signatures.now.signatures (signatures x.tables.now.decls) → x.heights.now ≡ u → ServesUnit x
serves x u e s p k t h = record {
  scope = s;
  programs = p;
  names = subst (λ (xs : List (Decl ℕ)). Knows x.classes.names.now (classes_in xs)) (ap (λ (v : ProgramText). v.decls) (sym e)) k;
  signatures-are = t;
  heights = h ∙ sym e;
}

-- what is answered of the declarations is answered of the unit that lends them
module _ (ds : List (Decl ℕ)) (u : ProgramText) (lent : ds ≡ u.decls) where
  pub good_of : (r : Result Program Denied) → IfOk r (λ p. IsGood ds × IsChecked ds p) → IfOk r (λ p. IsGood u.decls × IsChecked u.decls p)
  good_of r h = subst (λ (xs : List (Decl ℕ)). IfOk r (λ p. IsGood xs × IsChecked xs p)) lent h

  pub refused_of : (r : Result Program Denied) → IfErr r (λ e. OnRefused e (λ x. UnitRefusal ds x.code x.declaration x.line)) → IfErr r (λ e. OnRefused e (λ x. UnitRefusal u.decls x.code x.declaration x.line))
  refused_of r h = subst (λ (xs : List (Decl ℕ)). IfErr r (λ e. OnRefused e (λ x. UnitRefusal xs x.code x.declaration x.line))) lent h
