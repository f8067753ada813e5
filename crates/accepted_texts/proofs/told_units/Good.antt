-- In a unit that breaks no rule nothing needs itself, and so all is told.
use Rattle.std.proofs.Common.{◌≡◌, ℕ, false, List, [], ◌++◌, Option, Some, None, refl, sym, ap, ◌∙◌}
use Rattle.std.specs.Prelude.{slice_get, option_map}
use Rattle.std.proofs.lemmas.Option.{slice_get-map}
use Rattle.st_tree.specs.declared.declaration.Section.{Section}
use Rattle.st_tree.specs.declared.type_spec.TypeSpec.{TypeSpec}
use Rattle.st_tree.specs.declared.unit.Decl.{Decl}
use Rattle.st_tree.specs.Statement.{statements_of}
use Rattle.st_rules.specs.Scope.{Scope}
use Rattle.st_rules.specs.Statements.{body_faults}
use Rattle.plc_text.specs.declared.code.Code.TheVariants.{E06}
use Rattle.st_rules.specs.Faults.{when}
use Rattle.st_rules.proofs.Booleans.{none≢some}
use Rattle.st_unit_rules.specs.declared_names.Declarations.{Declaration, Placed, declarations, placed, heading_line}
use Rattle.st_unit_rules.specs.declared_names.UnitNames.{unit_names, method_scope, function_scope, prototype_scope, program_scope}
use Rattle.st_unit_rules.specs.declared_names.Variables.{Written, sections_written, sections_in}
use Rattle.st_unit_rules.specs.Cycles.{contains_itself, cycle_faults, inner_cycles}
use Rattle.st_unit_rules.specs.DeclarationRules.{routine_faults, parameter_limits, local_limits, program_limits}
use Rattle.st_unit_rules.specs.NameRules.{local_name_faults, word_twice, space_faults, section_names}
use Rattle.st_unit_rules.specs.UnitRefusal.{BreaksNothing}
use Rattle.st_unit_rules.specs.VariableRules.{Home, of_routine, of_prototype, of_program, sections_faults, result_faults}
use Rattle.accepted_texts.proofs.unfolding_laws.CycleLaws.{none_in, none_there, all_placed}
use Rattle.st_unit_rules.specs.Cycles.{needs_itself, needs_inner}
use Rattle.accepted_texts.specs.told_units.Told.{WrittenIn, in_class, in_method, in_function, in_prototype, in_program, IsFormedUnit, AllIsTold, ToldUnitLaws}
use Rattle.accepted_texts.proofs.told_units.Free as free
use Rattle.accepted_texts.proofs.told_units.Program.{has-program}
use Rattle.accepted_texts.proofs.told_units.Law.{NothingNeedsItself, all-is-told, function-rules, program-rules, prototype-rules, method-rules}
use Rattle.accepted_texts.proofs.told_units.Whole.{class-rules, class-cycles}

module _ (decls : List (Decl ℕ)) (good : BreaksNothing decls) where
  by-rule : (i : ℕ) (d : Declaration) → slice_get (declarations decls) i ≡ Some d → (line : ℕ) × (when (contains_itself (declarations decls) i) E06 line ++ when (needs_itself (declarations decls) i) E06 line ≡ [])
  unfolding cycle_faults
  by-rule i d e = by (slice_get (placed decls) i) refl (sym (slice_get-map (λ (x : Placed). x.declaration) (placed decls) i) ∙ ap (λ xs. slice_get xs i) (all_placed decls) ∙ e)
    where
      by : (o : Option Placed) → slice_get (placed decls) i ≡ o → option_map (λ (x : Placed). x.declaration) o ≡ Some d → (line : ℕ) × (when (contains_itself (declarations decls) i) E06 line ++ when (needs_itself (declarations decls) i) E06 line ≡ [])
      by None q h = absurd (none≢some h)
      by (Some x) q h = (heading_line x.declaration, (none_there decls good i x q).0)

  inner-by : (ws : List Written) → inner_cycles ws ≡ [] → (i : ℕ) → needs_inner ws i ≡ false
  unfolding inner_cycles
  inner-by ws h i = free.inner-free ws h i

  routine-cycles : (s : Scope) (h : Home) (line : ℕ) (name : List ℕ) (result : Option (TypeSpec ℕ)) (ss : List (Section ℕ)) (text : _) → routine_faults decls s h line name result ss text ≡ [] → inner_cycles (sections_written ss) ≡ []
  routine-cycles s h line name result ss text f =
      let ab = sections_faults s h ss ++ result_faults s line result in
      let c = inner_cycles (sections_written ss) in
      let d = parameter_limits decls s line result ss in
      let e = local_limits decls s line in
      (none_in ab c (none_in (ab ++ c) d (none_in (ab ++ c ++ d) e (none_in (ab ++ c ++ d ++ e) (body_faults s (statements_of text)) f).0).0).0).1

  inner : (s : Scope) (r : Option (TypeSpec ℕ)) (ss : List (Section ℕ)) → WrittenIn decls s r ss → (i : ℕ) → needs_inner (sections_written ss) i ≡ false
  inner _ _ _ (in_class c d e) = let r = class-rules decls good c d e in inner-by (sections_written (sections_in d.members)) (class-cycles decls r.0 c d r.1)
  inner _ _ _ (in_method c d k m e t) =
      let s = method_scope decls (unit_names decls) c m in
      let z = routine_faults decls s of_routine m.line m.name.text m.result m.sections m.body in
      inner-by (sections_written m.sections) (routine-cycles s of_routine m.line m.name.text m.result m.sections m.body (none_in (word_twice m.line m.modifiers ++ local_name_faults m.name.text m.sections) z (method-rules decls good c d k m e t)).1)
  inner _ _ _ (in_function i x f e q) =
      let s = function_scope decls (unit_names decls) f in
      let z = routine_faults decls s of_routine f.line f.name.text f.result f.sections f.body in
      inner-by (sections_written f.sections) (routine-cycles s of_routine f.line f.name.text f.result f.sections f.body (none_in (local_name_faults f.name.text f.sections) z (function-rules decls good i x f e q)).1)
  inner _ _ _ (in_prototype i x d k m e q t) =
      let s = prototype_scope decls (unit_names decls) m in
      let ab = sections_faults s of_prototype m.sections ++ result_faults s m.line m.result in
      let c = inner_cycles (sections_written m.sections) in
      inner-by (sections_written m.sections) (none_in ab c (none_in (ab ++ c) (parameter_limits decls s m.line m.result m.sections) (prototype-rules decls good i x d k m e q t)).0).1
  inner _ _ _ (in_program i x p e q) =
      let s = program_scope decls (unit_names decls) p in
      let za = space_faults (section_names p.sections) ++ sections_faults s of_program p.sections in
      let b = inner_cycles (sections_written p.sections) in
      let c = program_limits decls s p in
      inner-by (sections_written p.sections) (none_in za b (none_in (za ++ b) c (none_in (za ++ b ++ c) (body_faults s (statements_of p.body)) (program-rules decls good i x p e q)).0).0).1

  nothing : NothingNeedsItself decls
  nothing = record { declared = free.declared-free (declarations decls) by-rule; inner = inner }

  the-law : IsFormedUnit decls → AllIsTold decls
  the-law formed = all-is-told decls good nothing formed

pub told_unit_laws : ToldUnitLaws
told_unit_laws = record { all_is_told = the-law; has_program = has-program }
