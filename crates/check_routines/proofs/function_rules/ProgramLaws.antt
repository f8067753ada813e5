-- A program from its parts, and in the scope with its variables.
use Rattle.std.proofs.Common.{◌≡◌, ℕ, false, List, [], ◌++◌, Option, None, refl, sym, ap, ◌∙◌, subst, map}
use Rattle.std.specs.Prelude.{◌-◌, filter, flat_map}
use Rattle.plc_text.specs.declared.code.Code.{Code}
use Rattle.st_tree.specs.declared.declaration.ProgramDecl.{ProgramDecl}
use Rattle.st_tree.specs.declared.declaration.Section.{Section}
use Rattle.st_tree.specs.declared.name.Name.{Name}
use Rattle.st_tree.specs.declared.program.Note.{Note}
use Rattle.st_tree.specs.declared.statement.Stmt.{Stmt}
use Rattle.st_tree.specs.declared.unit.Decl.{Decl}
use Rattle.st_tree.specs.Statement.{statements_of}
use Rattle.st_rules.specs.declared.names.DeclaredVariable.{DeclaredVariable}
use Rattle.st_rules.specs.Faults.{Faults, least, earlier}
use Rattle.st_rules.specs.Scope.{Scope}
use Rattle.st_rules.specs.Statements.{body_faults}
use Rattle.st_rules.proofs.FaultLaws.{least-append, earlier-assoc}
use Rattle.st_unit_rules.specs.declared_names.Declarations.{declarations}
use Rattle.st_unit_rules.specs.declared_names.UnitNames.{unit_names, unit_scope, program_locals, program_scope}
use Rattle.st_unit_rules.specs.declared_names.Variables.{is_kept_written, is_body_written, sections_written}
use Rattle.st_unit_rules.specs.declared.declaration_list.written.WrittenName.{WrittenName}
use Rattle.st_unit_rules.specs.declaration_list.Written.{global_of, names_in_sections}
use Rattle.st_unit_rules.specs.Checked.{Each, TypedBody, TypedSection, TypedProgram}
use Rattle.st_unit_rules.specs.Cycles.{inner_cycles}
use Rattle.st_unit_rules.specs.DeclarationRules.{item_too_deep, program_limits, program_faults}
use Rattle.st_unit_rules.specs.Limits.{most_steps, too_deep}
use Rattle.st_unit_rules.specs.NameRules.{space_faults, section_names}
use Rattle.st_unit_rules.specs.VariableRules.{of_program, sections_faults}
use Rattle.check_initial_values.proofs.Parts.{joined}
use Rattle.check_declared_variables.specs.declared.variable_rules.sections.CheckedSections.{CheckedSections}
use Rattle.check_declared_variables.specs.variable_rules.Sections.{ChecksSections}
use Rattle.check_routines.specs.declared.routine_rules.bodies.FoundBody.{FoundBody}
use Rattle.check_routines.specs.routine_rules.Bodies.{FindsBody}
use Rattle.symbol_table.specs.unit_tables.Scopes.{scope_in}
use Rattle.check_routines.specs.declared.function_rules.programs.CheckedProgram.{CheckedProgram}
use Rattle.check_routines.specs.function_rules.Programs.{ChecksProgram}
use Rattle.check_routines.specs.function_rules.Private.Programs.{cycles_and_limits, IsProgram, program_faults_in, ProgramIn}
use Rattle.check_routines.proofs.function_rules.FunctionLaws.{none_behind}

-- ---- limits

module _ (decls : List (Decl ℕ)) (s : Scope) (p : ProgramDecl ℕ) where
  abbrev kept_in : List (Section ℕ) → Faults
  kept_in ss = flat_map (λ w. too_deep s (declarations decls) (most_steps - 1) p.line w.item.kind) (filter is_kept_written (sections_written ss))

  abbrev of_body_in : List (Section ℕ) → Faults
  of_body_in ss = flat_map (λ w. item_too_deep decls s w.item) (filter is_body_written (sections_written ss))

  pub limits_found : (written : List (Section ℕ)) (list names : List WrittenName) (cycles deep inner both r : Option (Code × ℕ)) → names ≡ list → written ≡ p.sections → map global_of list ≡ names_in_sections written
      → ((ss : List (Section ℕ)) → map global_of names ≡ names_in_sections ss → cycles ≡ least (inner_cycles (sections_written ss)))
      → ((ss : List (Section ℕ)) → map global_of names ≡ names_in_sections ss → deep ≡ least (kept_in ss)) → ((ss : List (Section ℕ)) → map global_of names ≡ names_in_sections ss → inner ≡ least (of_body_in ss))
      → both ≡ earlier deep inner → r ≡ earlier cycles both → r ≡ least (cycles_and_limits decls s p)
  limits_found written list names cycles deep inner both r q z u c k b e i =
      let g : map global_of names ≡ names_in_sections p.sections = ap (map global_of) q ∙ u ∙ ap names_in_sections z in
      joined r cycles both (inner_cycles (sections_written p.sections)) (program_limits decls s p) i (c p.sections g) (joined both deep inner (kept_in p.sections) (of_body_in p.sections) e (k p.sections g) (b p.sections g))

-- ---- a program

again : (xs ys zs ws vs : Faults) → least (xs ++ ys ++ zs ++ ws ++ vs) ≡ earlier (earlier (earlier (least xs) (least ys)) (least (zs ++ ws))) (least vs)
again xs ys zs ws vs =
    least-append (xs ++ ys ++ zs ++ ws) vs
    ∙ ap (λ o. earlier o (least vs)) (least-append (xs ++ ys ++ zs) ws
    ∙ ap (λ o. earlier o (least ws)) (least-append (xs ++ ys) zs ∙ ap (λ o. earlier o (least zs)) (least-append xs ys))
    ∙ sym (earlier-assoc (earlier (least xs) (least ys)) (least zs) (least ws))
    ∙ ap (earlier (earlier (least xs) (least ys))) (sym (least-append zs ws)))

pub program_in : (c : CheckedProgram) (decls : List (Decl ℕ)) (s : Scope) (p : ProgramDecl ℕ) (list lent : List Name) (own : Name) (names limits : Option (Code × ℕ)) (found : CheckedSections) (text : FoundBody) (xs : List (Section ℕ)) (ys : List (Stmt ℕ)) → xs ≡ p.sections → ys ≡ p.body → list ≡ section_names xs → lent ≡ list
    → names ≡ least (space_faults lent) → limits ≡ least (cycles_and_limits decls s p) → own ≡ p.name → ChecksSections found s of_program xs → FindsBody text s ys → IsProgram c p.line own names found limits text → ProgramIn c decls s p
program_in c decls s p list lent own names limits found text xs ys x y q m n l o g k w =
    let f : ChecksSections found s of_program p.sections = subst (λ (zs : List (Section ℕ)). ChecksSections found s of_program zs) x g in
    let b : FindsBody text s p.body = subst (λ (zs : List (Stmt ℕ)). FindsBody text s zs) y k in
    record {
      least =
          w.least
          ∙ ap (λ x. earlier (earlier (earlier x found.least) limits) text.least) (n ∙ ap (λ ns. least (space_faults ns)) (m ∙ q ∙ ap section_names x))
          ∙ ap (λ x. earlier (earlier (earlier (least (space_faults (section_names p.sections))) x) limits) text.least) f.least
          ∙ ap (λ x. earlier (earlier (earlier (least (space_faults (section_names p.sections))) (least (sections_faults s of_program p.sections))) x) text.least) l
          ∙ ap (earlier (earlier (earlier (least (space_faults (section_names p.sections))) (least (sections_faults s of_program p.sections))) (least (cycles_and_limits decls s p)))) b.least
          ∙ sym (again (space_faults (section_names p.sections)) (sections_faults s of_program p.sections) (inner_cycles (sections_written p.sections)) (program_limits decls s p) (body_faults s (statements_of p.body)));
      line = w.line;
      name = w.name ∙ o;
      sections = subst (λ (xs : List (Section Note)). Each (TypedSection s) p.sections xs) (sym w.sections) f.trees;
      body = λ h. subst (λ (ys : List (Stmt Note)). TypedBody s p.body ys) (sym w.body) (b.body (none_behind (earlier (earlier names found.least) limits) text.least (sym w.least ∙ h)));
    }

pub program_scope_is : (decls : List (Decl ℕ)) (p : ProgramDecl ℕ) → scope_in decls None false (program_locals (scope_in decls None false []) p.sections) ≡ program_scope decls (unit_names decls) p
unfolding program_scope
program_scope_is decls p = refl

in_scope : (c : CheckedProgram) (decls : List (Decl ℕ)) (p : ProgramDecl ℕ) → ProgramIn c decls (program_scope decls (unit_names decls) p) p → ChecksProgram c decls p
in_scope c decls p i = record {
  least = i.least;
  tree = λ h. record { line = i.line; name = i.name; sections = i.sections; body = i.body h };
}

pub program_checks : (c : CheckedProgram) (decls own : List (Decl ℕ)) (p : ProgramDecl ℕ) (s : Scope) (vs us : List DeclaredVariable) (xs : List (Section ℕ)) → own ≡ decls → xs ≡ p.sections → vs ≡ program_locals (scope_in decls None false []) xs → us ≡ vs → s ≡ scope_in decls None false us
    → ProgramIn c own s p → ChecksProgram c decls p
program_checks c decls own p s vs us xs d a v u e i =
    let t : s ≡ program_scope decls (unit_names decls) p = e ∙ ap (scope_in decls None false) (u ∙ v ∙ ap (program_locals (scope_in decls None false [])) a) ∙ program_scope_is decls p in
    in_scope c decls p (subst (λ (z : Scope). ProgramIn c decls z p) t (subst (λ (ds : List (Decl ℕ)). ProgramIn c ds s p) d i))
