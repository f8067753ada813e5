-- The scopes of methods, functions, bodies of blocks and programs, each with what its text is seen as.
use Rattle.std.proofs.Common.{◌≡◌, ℕ, ◌+◌, Bool, true, false, List, [], length, Option, Some, None, refl, sym, ap, ◌∙◌, subst, arith}
use Rattle.std.specs.Prelude.{filter, slice_get}
use Rattle.st_types.specs.declared.st_type.StType.{StType}
use Rattle.st_tree.specs.declared.declaration.ClassDecl.{ClassDecl}
use Rattle.st_tree.specs.declared.declaration.FunctionDecl.{FunctionDecl}
use Rattle.st_tree.specs.declared.declaration.ProgramDecl.{ProgramDecl}
use Rattle.st_tree.specs.declared.declaration.Section.{Section}
use Rattle.st_tree.specs.declared.program.Note.{Note}
use Rattle.st_tree.specs.declared.program.Program.{Program as Checked}
use Rattle.st_tree.specs.declared.type_spec.TypeSpec.{TypeSpec}
use Rattle.st_tree.specs.declared.unit.Decl.{Decl}
use Rattle.st_tree.specs.Statement.{statements_of}
use Rattle.st_rules.specs.declared.ids.MethodId.{MethodId}
use Rattle.st_rules.specs.declared.names.DeclaredVariable.{DeclaredVariable}
use Rattle.st_rules.specs.Classes.{classes_in}
use Rattle.st_rules.specs.ClassRules.{class_faults}
use Rattle.st_rules.specs.Scope.{Scope, variable_named, is_external, is_instance_sort, is_body_sort}
use Rattle.st_rules.proofs.Booleans.{none≢some, some-same, true≢false}
use Rattle.st_unit_rules.specs.declared_names.Declarations.{functions_in, programs_in}
use Rattle.st_unit_rules.specs.declared_names.UnitNames.{unit_names, unit_scope, class_scope, method_scope, function_scope, program_scope}
use Rattle.st_unit_rules.specs.declared_names.Variables.{Written, sections_written, result_declared, result_count, locals_declared, is_parameter_written, routine_locals}
use Rattle.st_unit_rules.specs.declared_names.WrittenTypes.{type_written}
use Rattle.st_unit_rules.specs.Checked.{Each, TypedFunction, TypedProgram, IsChecked}
use Rattle.st_unit_rules.specs.DeclarationRules.{signatures}
use Rattle.st_unit_rules.specs.UnitRefusal.{BreaksNothing}
use Rattle.st_unit_rules.specs.Worth.{same_worth}
use Rattle.st_values.specs.Program as seen
use Rattle.st_values.specs.Program.{Variable, class_variables}
use Rattle.st_values.specs.View.{is_kept, is_of_body, those, variables_in, method_of, function_of, class_of, program_of}
use Rattle.st_meaning.specs.st_frame.Promise.Names.{Scope as Around, NameIs}
use Rattle.st_meaning.specs.st_frame.Promise.Declarations.{scope_of}
use Rattle.resolution_order.specs.told_laws.ToldLaws.{Every}
use Rattle.resolution_order.proofs.told_laws.LocalTelling.{local_laws}
use Rattle.accepted_texts.specs.formed_units.Formed.{IsFormed}
use Rattle.accepted_texts.specs.told_units.Told.{IsToldVariable, in_program, AllIsTold}
use Rattle.accepted_texts.proofs.unfolding_laws.ListLaws.{every_append, from_long}
use Rattle.accepted_texts.proofs.unfolding_laws.ChainLaws.{program_seen}
use Rattle.accepted_texts.proofs.told_units.Inner.{locals-rows, members-rows}
use Rattle.accepted_texts.proofs.sized_units.Kept.{program_variables}
use Rattle.accepted_texts.proofs.sized_units.Variables.{all_of}
use Rattle.class_laws.proofs.Above.{NoCycle}
use Rattle.place_laws.specs.Agrees.{HasPlace, Agrees}
use Rattle.scope_laws.specs.Agreement.{HasNumbers, MeetsInterfaces}
use Rattle.name_laws.proofs.Found.{MethodShown}
use Rattle.name_laws.proofs.PlaceTypes.{KindFine, ToldFine, written_fine, rows_fine}
use Rattle.name_laws.proofs.Members.{body_locals}
use Rattle.name_laws.proofs.Routines.{kind_seen, local_placed}
use Rattle.name_laws.proofs.Rows.{From, outside, MemberRow, members_seen, found_named}
use Rattle.scope_laws.proofs.Scopes.{agrees}
use Rattle.name_laws.proofs.Stands.{sections_inside, program_stands}
use Rattle.scope_laws.proofs.Texts.{method_text, function_text}

all_from : (vs : List Variable) → From vs vs 0
all_from vs = record { by = λ j v e. let z : 0 + j ≡ j = omega arith in ap (slice_get vs) z ∙ e }

module _ (most : ℕ) (decls : List (Decl ℕ)) (p : Checked) (checked : IsChecked decls p) (well : IsFormed most decls) (good : BreaksNothing decls) (all : AllIsTold decls) (free : NoCycle p)
    (rules_good : (c : ℕ) → class_faults same_worth (classes_in decls) (signatures decls) c ≡ []) (meets : MeetsInterfaces decls p)
  where
    abbrev pp : seen.Program
    pp = program_of p

    -- the types of locals
    result_fine : (s : Scope) (own : List ℕ) (o : Option (TypeSpec ℕ)) → ((t : TypeSpec ℕ) → ToldFine decls p checked good all (type_written s t)) → Every (KindFine decls p checked good all) (result_declared s own o)
    result_fine s own None h = tt
    result_fine s own (Some t) h = (h t, tt)

    text_fine : (s : Scope) (own : List ℕ) (o : Option (TypeSpec ℕ)) (ss : List (Section ℕ)) → ((t : TypeSpec ℕ) → ToldFine decls p checked good all (type_written s t)) → routine_locals s own o ss ≡ s.locals → Every (KindFine decls p checked good all) s.locals
    unfolding routine_locals
    text_fine s own o ss h e =
        let ws = sections_written ss in
        subst (Every (KindFine decls p checked good all)) e
        (every_append (KindFine decls p checked good all) (result_declared s own o) (locals_declared s o ss) (result_fine s own o h)
        (rows_fine decls p checked good all s h ws (locals_declared s o ss) (locals-rows s (result_count s o) (result_count s o + length (filter is_parameter_written ws)) ws)))

    -- ---- methods

    pub method_agrees : (id : MethodId) (x : MethodShown decls p checked id) → HasNumbers pp (method_scope decls (unit_names decls) id.class x.method) → Agrees (method_scope decls (unit_names decls) id.class x.method) pp (scope_of (method_of id.class x.shown))
    unfolding method_scope
    method_agrees id x n =
        let m = x.method in
        let y = x.shown in
        let h = x.typed in
        let s = method_scope decls (unit_names decls) id.class m in
        let t = method_text most decls well good all id.class id.method x.class m x.class_there x.there in
        agrees most decls p checked well good all free rules_good meets (Some id.class) true s.locals (scope_of (method_of id.class y))
        (λ k e. subst (λ c. Rattle.accepted_texts.proofs.unfolding_laws.NumberLaws.IsClass decls c) (some-same e) (record { item = x.class; there = x.class_there })) (λ k e. e) t.told_all (text_fine s m.name.text m.result m.sections (written_fine decls p checked good all (Some id.class) true s.locals) t.settled)
        (local_placed pp s (Some id.class) y.line y.name.text m.name.text m.result y.result m.sections y.sections (statements_of y.body) t.settled t.told_all t.outcome t.inside h.result h.sections t.few (scope_of (method_of id.class y)) refl)
        (λ e. absurd (true≢false e)) n

    -- ---- functions

    pub function_agrees : (k : ℕ) (f : FunctionDecl ℕ) (y : FunctionDecl Note) → slice_get (functions_in decls) k ≡ Some f → TypedFunction decls f y → HasNumbers pp (function_scope decls (unit_names decls) f) → Agrees (function_scope decls (unit_names decls) f) pp (scope_of (function_of y))
    unfolding function_scope
    function_agrees k f y e h n =
        let s = function_scope decls (unit_names decls) f in
        let t = function_text most decls well good all k f e in
        agrees most decls p checked well good all free rules_good meets None false s.locals (scope_of (function_of y)) (λ j q. absurd (none≢some q)) (λ j q. absurd (none≢some q)) t.told_all
        (text_fine s f.name.text f.result f.sections (written_fine decls p checked good all None false s.locals) t.settled)
        (local_placed pp s None y.line y.name.text f.name.text f.result y.result f.sections y.sections (statements_of y.body) t.settled t.told_all t.outcome t.inside h.result h.sections t.few (scope_of (function_of y)) refl)
        (λ q j r. absurd (none≢some r)) n

    -- ---- bodies of classes

    pub body_agrees : (c : ℕ) (d : ClassDecl ℕ) (y : ClassDecl Note) → slice_get (classes_in decls) c ≡ Some d → HasNumbers pp (class_scope decls (unit_names decls) c) → Agrees (class_scope decls (unit_names decls) c) pp (scope_of (class_of p.classes p.interfaces c y).body)
    body_agrees c d y e n =
        agrees most decls p checked well good all free rules_good meets (Some c) false [] (scope_of (class_of p.classes p.interfaces c y).body)
        (λ k q. subst (λ z. Rattle.accepted_texts.proofs.unfolding_laws.NumberLaws.IsClass decls z) (some-same q) (record { item = d; there = e })) (λ k q. q) tt tt (λ name v q. absurd (none≢some q)) (λ q k r. ap (body_locals decls p checked) (some-same r)) n

    -- ---- programs

    classes_long : length p.classes ≡ length (classes_in decls)
    classes_long = from_long _ 0 (classes_in decls) p.classes checked.classes

    module _ (i : ℕ) (d : ProgramDecl ℕ) (y : ProgramDecl Note) (there : slice_get (programs_in decls) i ≡ Some d) (shown : slice_get p.programs i ≡ Some y) (typed : TypedProgram decls d y) where
      abbrev number : ℕ
      number = length p.classes + i

      abbrev s : Scope
      s = program_scope decls (unit_names decls) d

      abbrev own : List Variable
      own = those is_kept (variables_in y.sections)

      abbrev bodies : List Variable
      bodies = those is_of_body (variables_in y.sections)

      own_are : class_variables pp number ≡ own
      own_are =
          let k = program_seen p i y shown in
          program_variables pp number k.0 k.1 k.2.chain ∙ k.2.own

      program_rows : Each (MemberRow s (class_variables pp number) bodies) (sections_written d.sections) s.locals
      unfolding program_scope
      program_rows =
          let x = program_stands most decls well i d there in
          let outer = unit_scope decls (unit_names decls) in
          subst (Each (MemberRow s (class_variables pp number) bodies) (sections_written d.sections)) (local_laws.program outer d.sections).settled
          (members_seen s (class_variables pp number) bodies 0 0 (sections_written d.sections) (variables_in y.sections) (sections_inside d.sections x.formed.sections) (all_of s d.sections y.sections typed.sections)
          (subst (λ vs. From vs own 0) (sym own_are) (all_from own)) (all_from bodies))

      program_told : Every IsToldVariable s.locals
      program_told = let x = program_stands most decls well i d there in all.locals s None d.sections (in_program x.place x.item d x.there x.is)

      program_fine : Every (KindFine decls p checked good all) s.locals
      unfolding program_scope
      program_fine =
          let outer = unit_scope decls (unit_names decls) in
          subst (Every (KindFine decls p checked good all)) (local_laws.program outer d.sections).settled
          (rows_fine decls p checked good all s (written_fine decls p checked good all None false s.locals) (sections_written d.sections) _ (members-rows s 0 0 (sections_written d.sections)))

      -- the text as it is seen
      abbrev around : Around
      around = record { this = Some number; locals = bodies }

      program_placed : (n : List ℕ) (v : DeclaredVariable) → variable_named n s.locals ≡ Some v → is_external v.sort ≡ false → v.constant ≡ false → (t : StType) → v.kind ≡ Some t → NameIs pp around v.target t × HasPlace v.target
      program_placed n v e x c t q =
          let r = found_named (MemberRow s (class_variables pp number) bodies) n (sections_written d.sections) s.locals v program_rows e in
          by r.0 r.1 (is_instance_sort (r.0).sort) (is_body_sort (r.0).sort) refl refl
        where
          by : (w : Written) → MemberRow s (class_variables (program_of p) number) bodies w v → (a b : Bool) → is_instance_sort w.sort ≡ a → is_body_sort w.sort ≡ b → NameIs (program_of p) around v.target t × HasPlace v.target
          by w r true b i j =
              let z = r.variable (sym r.row.1 ∙ c) i in
              subst (λ h. NameIs (program_of p) around h t × HasPlace h) (sym z.1) ((z.2.variable, z.2.there, kind_seen (program_of p) s w z.2.variable t z.2.of (sym r.row.2 ∙ q)), tt)
          by w r false true i j =
              let z = r.local (sym r.row.1 ∙ c) j in
              subst (λ h. NameIs (program_of p) around h t × HasPlace h) (sym z.1) ((z.2.variable, z.2.there, kind_seen (program_of p) s w z.2.variable t z.2.of (sym r.row.2 ∙ q)), tt)
          by w r false false i j = absurd (true≢false (sym (outside w.sort r.inside i j) ∙ (ap is_external (sym r.row.4) ∙ x)))

      pub program_agrees : HasNumbers pp s → Agrees s pp around
      unfolding program_scope
      program_agrees n = agrees most decls p checked well good all free rules_good meets None false s.locals around (λ j q. absurd (none≢some q)) (λ j q. absurd (none≢some q)) program_told program_fine program_placed (λ q j r. absurd (none≢some r)) n
