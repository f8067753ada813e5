-- A name that means a constant means a number of its type, in every scope of a good unit that is formed.
use Rattle.std.proofs.Common.{◌≡◌, ℕ, Bool, true, false, List, Option, Some, None, sym, ap, ◌∙◌, subst}
use Rattle.std.specs.Prelude.{option_map, option_and_then, if◌then◌else◌}
use Rattle.st_types.specs.declared.st_type.StType.{StType}
use Rattle.st_tree.specs.declared.program.Program.{Program as Checked}
use Rattle.st_tree.specs.declared.program.Target.{Target}
use Rattle.st_tree.specs.declared.program.Target.TheVariants as target
use Rattle.st_tree.specs.declared.declaration.Section.{Section}
use Rattle.st_tree.specs.declared.type_spec.TypeSpec.{TypeSpec}
use Rattle.st_tree.specs.declared.unit.Decl.{Decl}
use Rattle.st_rules.specs.declared.ids.MethodId.{MethodId}
use Rattle.st_rules.specs.declared.names.DeclaredVariable.{DeclaredVariable}
use Rattle.st_rules.specs.Chains.{◌or_else◌}
use Rattle.st_rules.specs.Classes.{lookup}
use Rattle.st_rules.specs.Expressions.{value_target}
use Rattle.st_rules.specs.Scope.{Scope, Meant, a_variable, a_method, entry, sought, meaning_behind, enumerator_meaning, global_named}
use Rattle.st_rules.proofs.Booleans.{false≢true}
use Rattle.st_unit_rules.specs.Checked.{IsChecked}
use Rattle.st_unit_rules.specs.declared_names.Constants.{is_told, is_constant_meaning}
use Rattle.st_unit_rules.specs.declared_names.UnitNames.{unit_names, unit_scope}
use Rattle.st_unit_rules.specs.UnitRefusal.{BreaksNothing}
use Rattle.st_values.specs.Program.{Program}
use Rattle.st_values.specs.View.{program_of}
use Rattle.accepted_texts.specs.formed_units.Formed.{IsFormed}
use Rattle.accepted_texts.specs.told_units.Told.{AllTold, WrittenIn}
use Rattle.accepted_texts.proofs.told_units.TypeLaws.{HasItsType}
use Rattle.place_laws.specs.Agrees.{ConstantIs}
use Rattle.constant_laws.proofs.Constants.{MeantFits, ScopeFits}
use Rattle.initial_laws.proofs.Knowing.{all_told, some_told}
use Rattle.constant_laws.proofs.Scopes.{Sound, scope_fits, scope_types}
use Rattle.constant_laws.proofs.Steps.{entry_values, unit_sound, written_sound}
use Rattle.constant_laws.proofs.Whole.{told_one}

-- a constant with its type
abbrev pub IsRight : Program → DeclaredVariable → Type 0
IsRight p v = (t : StType) × (v.kind ≡ Some t) × ConstantIs p v.target t

module _ (p : Program) where
  module _ (s : Scope) where
    no_method : (o : Option MethodId) (rest : Option Meant) (c : Option ℕ) (v : DeclaredVariable) → (option_map a_method o or_else rest) ≡ Some (a_variable c v) → rest ≡ Some (a_variable c v)
    no_method None rest c v e = e
    no_method (Some id) rest c v e = absurd (cc)

    behind_call : (k : Option ℕ) (f : ℕ → Option MethodId) (rest : Option Meant) (c : Option ℕ) (v : DeclaredVariable) → (option_and_then (λ j. option_map a_method (f j)) k or_else rest) ≡ Some (a_variable c v) → rest ≡ Some (a_variable c v)
    behind_call None f rest c v e = e
    behind_call (Some j) f rest c v e = no_method (f j) rest c v e

    -- where a call stands a variable is meant as elsewhere
    same_meaning : (called : Bool) (name : List ℕ) (c : Option ℕ) (v : DeclaredVariable) (o : Option (Option ℕ × DeclaredVariable)) → meaning_behind s called name o ≡ Some (a_variable c v) → meaning_behind s false name o ≡ Some (a_variable c v)
    same_meaning false name c v o e = e
    same_meaning true name c v (Some x) e = e
    same_meaning true name c v None e = behind_call s.class (λ j. lookup s.classes j name) (global_named name s.names.globals or_else enumerator_meaning s name) c v e

    meant : (called : Bool) (name : List ℕ) (c : Option ℕ) (v : DeclaredVariable) → sought s called name ≡ Some (a_variable c v) → sought s false name ≡ Some (a_variable c v)
    unfolding sought
    meant called name c v e = same_meaning called name c v (entry s name) e

    value_told : (b : Bool) (x : Target) → b ≡ true → is_told (if b then x else target.Nothing) ≡ true → is_told x ≡ true
    value_told true x e h = h
    value_told false x e h = absurd (false≢true e)

    pub constant_is : Sound p s → AllTold s → (called : Bool) (name : List ℕ) (c : Option ℕ) (v : DeclaredVariable) → sought s called name ≡ Some (a_variable c v) → v.constant ≡ true → IsRight p v
    constant_is sound all called name c v e k =
        let q = meant called name c v e in
        let told = all.names name (ap (is_constant_meaning s) q ∙ k) in
        let one = value_told v.constant v.target k (sym (ap (λ o. is_told (value_target o)) q) ∙ told) in
        let has : HasItsType (Some (a_variable c v)) = subst HasItsType q ((scope_types p s sound).each name) in
        let t = some_told v.kind (has k one) in
        let fits : MeantFits p (Some (a_variable c v)) = subst (MeantFits p) e ((scope_fits p s sound).each called name) in
        (t.0, t.1, told_one p t.0 v.target one (fits k t.0 t.1))

module _ (most : ℕ) (decls : List (Decl ℕ)) (p : Checked) (fine : IsFormed most decls) (good : BreaksNothing decls) (checked : IsChecked decls p) where
  pub unit_constants : (called : Bool) (name : List ℕ) (c : Option ℕ) (v : DeclaredVariable) → sought (unit_scope decls (unit_names decls)) called name ≡ Some (a_variable c v) → v.constant ≡ true → IsRight (program_of p) v
  unit_constants called name c v e k =
      constant_is (program_of p) (unit_scope decls (unit_names decls)) (unit_sound (program_of p) decls (entry_values decls p checked)) (all_told most decls p fine good checked).unit called name c v e k

  pub scope_constants : (s : Scope) (o : Option (TypeSpec ℕ)) (ss : List (Section ℕ)) → WrittenIn decls s o ss → (called : Bool) (name : List ℕ) (c : Option ℕ) (v : DeclaredVariable) → sought s called name ≡ Some (a_variable c v) → v.constant ≡ true → IsRight (program_of p) v
  scope_constants s o ss w called name c v e k =
      constant_is (program_of p) s (written_sound (program_of p) decls (entry_values decls p checked) s o ss w) ((all_told most decls p fine good checked).scopes s o ss w) called name c v e k

  -- what else a name means, and the values of enumerations
  pub unit_fits : ScopeFits (program_of p) (unit_scope decls (unit_names decls))
  unit_fits = scope_fits (program_of p) (unit_scope decls (unit_names decls)) (unit_sound (program_of p) decls (entry_values decls p checked))

  pub written_fits : (s : Scope) (o : Option (TypeSpec ℕ)) (ss : List (Section ℕ)) → WrittenIn decls s o ss → ScopeFits (program_of p) s
  written_fits s o ss w = scope_fits (program_of p) s (written_sound (program_of p) decls (entry_values decls p checked) s o ss w)
