-- A routine from its parts.
use Rattle.std.proofs.Common.{◌≡◌, ℕ, List, [], ◌++◌, Option, Some, None, refl, sym, ap, ◌∙◌, subst, map, length}
use Rattle.std.specs.Prelude.{not, filter, flat_map}
use Rattle.plc_text.specs.declared.code.Code.{Code}
use Rattle.st_tree.specs.declared.declaration.Section.{Section}
use Rattle.st_tree.specs.declared.program.Note.{Note}
use Rattle.st_tree.specs.declared.statement.Stmt.{Stmt}
use Rattle.st_tree.specs.declared.type_spec.TypeSpec.{TypeSpec}
use Rattle.st_tree.specs.declared.unit.Decl.{Decl}
use Rattle.st_tree.specs.Statement.{statements_of}
use Rattle.st_rules.specs.declared.names.DeclaredVariable.{DeclaredVariable}
use Rattle.st_rules.specs.Faults.{Faults, least, earlier}
use Rattle.st_rules.specs.Scope.{Scope, is_external}
use Rattle.st_rules.specs.Statements.{body_faults, typed_statements}
use Rattle.st_rules.proofs.FaultLaws.{least-append, earlier-assoc}
use Rattle.st_check_expr.specs.declared.broken.Broken.{Broken}
use Rattle.st_check_expr.specs.declared.broken.Broken.TheVariants.{Rule, NoMemory}
use Rattle.st_check_expr.specs.Broken.{Reports}
use Rattle.st_unit_rules.specs.declared_names.Declarations.{Global}
use Rattle.st_unit_rules.specs.declared_names.Variables.{Written, is_parameter_written, sections_written}
use Rattle.st_unit_rules.specs.declared.declaration_list.written.WrittenName.{WrittenName}
use Rattle.st_unit_rules.specs.declaration_list.Written.{global_of, written_of, names_in_sections}
use Rattle.st_unit_rules.specs.Checked.{Each, IfThere, TypedBody, TypedSection, TypedSpec}
use Rattle.st_unit_rules.specs.Cycles.{inner_cycles}
use Rattle.st_unit_rules.specs.DeclarationRules.{item_too_deep, items_in, result_too_deep, count_parameters, parameter_limits, is_local, local_limits, routine_faults}
use Rattle.st_unit_rules.specs.Limits.{too_many_parameters, too_many_locals, all_values}
use Rattle.st_unit_rules.specs.VariableRules.{Home, sections_faults, result_faults}
use Rattle.check_limits.specs.declared.type_sizes.sizes.TypeSizes.{TypeSizes}
use Rattle.check_limits.specs.type_sizes.Sizes.{Measures}
use Rattle.check_initial_values.proofs.Parts.{joined}
use Rattle.check_declared_variables.specs.declared.variable_rules.results.CheckedResult.{CheckedResult}
use Rattle.check_declared_variables.specs.declared.variable_rules.sections.CheckedSections.{CheckedSections}
use Rattle.check_declared_variables.specs.variable_rules.Results.{ChecksResult}
use Rattle.check_declared_variables.specs.variable_rules.Sections.{ChecksSections}
use Rattle.check_routines.specs.declared.routine_rules.routines.CheckedRoutine.{CheckedRoutine}
use Rattle.check_routines.specs.declared.routine_rules.bodies.FoundBody.{FoundBody}
use Rattle.check_routines.specs.declared.routine_rules.variables.CheckedVariables.{CheckedVariables}
use Rattle.check_routines.specs.routine_rules.Routines.{ChecksRoutine}
use Rattle.check_routines.specs.routine_rules.Variables.{variables_faults, ChecksVariables}
use Rattle.check_routines.specs.routine_rules.Private.Limits.{cycles_and_limits}
use Rattle.check_routines.specs.routine_rules.Bodies.{FindsBody}
use Rattle.check_routines.specs.routine_rules.Private.Bodies.{IsRefused}
use Rattle.check_routines.specs.routine_rules.Private.Routines.{IsRoutine}
use Rattle.check_routines.specs.routine_rules.Private.Variables.{AreVariables}
use Rattle.check_routines.proofs.routine_rules.FirstLaws.{first_is_least}

-- ---- limits

module _ (decls : List (Decl ℕ)) (s : Scope) (line : ℕ) (spec : Option (TypeSpec ℕ)) (sections : List (Section ℕ)) where
  pub limits_found : (list names : List WrittenName) (cycles many items deep inner behind r : Option (Code × ℕ)) → names ≡ list → map global_of list ≡ names_in_sections sections → map written_of list ≡ sections_written sections
      → ((ss : List (Section ℕ)) → map global_of names ≡ names_in_sections ss → cycles ≡ least (inner_cycles (sections_written ss)))
      → many ≡ least (too_many_parameters line (length (filter is_parameter_written (map written_of names))))
      → items ≡ least (flat_map (item_too_deep decls s) (items_in (filter (λ x. not (is_external x.sort)) sections))) → deep ≡ least (result_too_deep decls s line spec)
      → inner ≡ earlier many items → behind ≡ earlier inner deep → r ≡ earlier cycles behind → r ≡ least (cycles_and_limits decls s line spec sections)
  limits_found list names cycles many items deep inner behind r n g w c m i d e f h =
      joined r cycles behind (inner_cycles (sections_written sections)) (parameter_limits decls s line spec sections) h (c sections (ap (map global_of) n ∙ g))
      (joined behind inner deep (too_many_parameters line (count_parameters sections) ++ flat_map (item_too_deep decls s) (items_in (filter (λ x. not (is_external x.sort)) sections))) (result_too_deep decls s line spec) f
      (joined inner many items (too_many_parameters line (count_parameters sections)) (flat_map (item_too_deep decls s) (items_in (filter (λ x. not (is_external x.sort)) sections))) e
      (m ∙ ap (λ ws. least (too_many_parameters line (length (filter is_parameter_written ws)))) (ap (map written_of) n ∙ w)) i)
      d)

-- ---- sections and results

again : (xs ys zs ws : Faults) → least (xs ++ ys ++ zs ++ ws) ≡ earlier (earlier (least xs) (least ys)) (least (zs ++ ws))
again xs ys zs ws =
    least-append (xs ++ ys ++ zs) ws
    ∙ ap (λ o. earlier o (least ws)) (least-append (xs ++ ys) zs ∙ ap (λ o. earlier o (least zs)) (least-append xs ys))
    ∙ sym (earlier-assoc (earlier (least xs) (least ys)) (least zs) (least ws))
    ∙ ap (earlier (earlier (least xs) (least ys))) (sym (least-append zs ws))

pub variables_check : (c : CheckedVariables) (decls : List (Decl ℕ)) (s : Scope) (home : Home) (line : ℕ) (spec : Option (TypeSpec ℕ)) (sections : List (Section ℕ)) (found : CheckedSections) (kind : CheckedResult) (limits : Option (Code × ℕ))
    → ChecksSections found s home sections → ChecksResult kind s line spec → limits ≡ least (cycles_and_limits decls s line spec sections) → AreVariables c found kind limits → ChecksVariables c decls s home line spec sections
variables_check c decls s home line spec sections found kind limits f g l w = record {
  least = w.least
      ∙ ap (λ o. earlier (earlier o kind.least) limits) f.least
      ∙ ap (λ o. earlier (earlier (least (sections_faults s home sections)) o) limits) g.least
      ∙ ap (earlier (earlier (least (sections_faults s home sections)) (least (result_faults s line spec)))) l
      ∙ sym (again (sections_faults s home sections) (result_faults s line spec) (inner_cycles (sections_written sections)) (parameter_limits decls s line spec sections));
  result = subst (λ (o : Option (TypeSpec Note)). IfThere (TypedSpec s) spec o) (sym w.result) g.result;
  trees = subst (λ (xs : List (Section Note)). Each (TypedSection s) sections xs) (sym w.sections) f.trees;
}

-- ---- routines

none_behind : (a b : Option (Code × ℕ)) → earlier a b ≡ None → b ≡ None
none_behind None b h = h
none_behind (Some x) None h = absurd (cc h)
none_behind (Some x) (Some y) h = absurd (cc h)

pub routine_checks : (c : CheckedRoutine) (decls : List (Decl ℕ)) (s : Scope) (home : Home) (line : ℕ) (spec : Option (TypeSpec ℕ)) (sections : List (Section ℕ)) (text : List (Stmt ℕ)) (variables : CheckedVariables) (sizes : TypeSizes)
    (locals : List DeclaredVariable) (many : Option (Code × ℕ)) (found : FoundBody) → locals ≡ s.locals → Measures sizes s → ChecksVariables variables decls s home line spec sections
    → ((t : Scope) → Measures sizes t → many ≡ least (too_many_locals line (all_values t (filter is_local locals)))) → FindsBody found s text → IsRoutine c variables many found → ChecksRoutine c decls s home line spec sections text
routine_checks c decls s home line spec sections text variables sizes locals many found e m f k b w = record {
  least = λ name.
      joined c.least (earlier variables.least many) found.least (variables_faults decls s home line spec sections ++ local_limits decls s line) (body_faults s (statements_of text)) w.least
      (joined (earlier variables.least many) variables.least many (variables_faults decls s home line spec sections) (local_limits decls s line) refl f.least
      (k s m ∙ ap (λ vs. least (too_many_locals line (all_values s (filter is_local vs)))) e))
      b.least;
  result = subst (λ (o : Option (TypeSpec Note)). IfThere (TypedSpec s) spec o) (sym w.result) f.result;
  trees = subst (λ (xs : List (Section Note)). Each (TypedSection s) sections xs) (sym w.sections) f.trees;
  body = λ h. subst (λ (ys : List (Stmt Note)). TypedBody s text ys) (sym w.body) (b.body (none_behind (earlier variables.least many) found.least (sym w.least ∙ h)));
}

-- ---- bodies

module _ (c : FoundBody) (s : Scope) (text : List (Stmt ℕ)) where
  pub body_good : (t : List (Stmt Note)) → (body_faults s (statements_of text) ≡ []) × (statements_of t ≡ typed_statements s (statements_of text)) → c.least ≡ None → c.body ≡ t → FindsBody c s text
  body_good t p l b = record {
    least = l ∙ sym (ap least p.0);
    body = λ h. subst (λ (ys : List (Stmt Note)). TypedBody s text ys) (sym b) p.1;
  }

  pub body_bad : (b : Broken) → Reports b (body_faults s (statements_of text)) → IsRefused c.least b → FindsBody c s text
  body_bad (Rule code line) f l = record {
    least = l ∙ first_is_least (body_faults s (statements_of text)) code line f;
    body = λ h. absurd (some_is_none (code, line) (sym l ∙ h));
  }
    where
      some_is_none : (x : Code × ℕ) → Some x ≡ None → ⊥
      some_is_none x h = cc h
  body_bad NoMemory f l = absurd l

pub refused_is : (o : Option (Code × ℕ)) (b : Broken) (code : Code) (line : ℕ) → b ≡ Rule code line → o ≡ Some (code, line) → IsRefused o b
refused_is o b code line h l = subst (λ (x : Broken). IsRefused o x) (sym h) l
