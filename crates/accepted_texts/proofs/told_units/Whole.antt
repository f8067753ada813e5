-- In a unit that breaks no rule, where no declaration and no constant needs itself, all is told.
use Rattle.std.proofs.Common.{◌≡◌, ℕ, zero, suc, ◌+◌, Bool, true, false, List, [], ◌∷◌, ◌++◌, map, length, Option, Some, None, refl, sym, ap, ◌∙◌, subst, arith}
use Rattle.std.specs.Prelude.{if◌then◌else◌, flat_map, filter, slice_get}
use Rattle.std.specs.Option.{is_some}
use Rattle.std.specs.List.{list_any}
use Rattle.st_tree.specs.declared.declaration.ClassDecl.{ClassDecl}
use Rattle.st_tree.specs.declared.declaration.FunctionDecl.{FunctionDecl}
use Rattle.st_tree.specs.declared.declaration.Method.{Method}
use Rattle.st_tree.specs.declared.declaration.ProgramDecl.{ProgramDecl}
use Rattle.st_tree.specs.declared.declaration.Prototype.{Prototype}
use Rattle.st_tree.specs.declared.declaration.Section.{Section}
use Rattle.st_tree.specs.declared.declaration.TypeDecl.{TypeDecl}
use Rattle.st_tree.specs.declared.statement.Stmt.{Stmt}
use Rattle.st_tree.specs.declared.type_spec.TypeSpec.{TypeSpec}
use Rattle.st_tree.specs.declared.unit.Decl.{Decl}
use Rattle.st_tree.specs.declared.unit.Decl.TheVariants as declaration
use Rattle.st_tree.specs.Statement.{statements_of}
use Rattle.st_rules.specs.declared.names.DeclaredNames.{DeclaredNames}
use Rattle.st_rules.specs.declared.names.DeclaredType.{DeclaredType}
use Rattle.st_rules.specs.declared.names.DeclaredGlobal.TheVariants as global
use Rattle.st_rules.specs.declared.names.DeclaredVariable.{DeclaredVariable}
use Rattle.st_rules.specs.Chains.{leads_within}
use Rattle.st_rules.specs.Classes.{classes_in, base_of, methods_in}
use Rattle.st_rules.specs.Scope.{Scope}
use Rattle.st_rules.specs.Statements.{body_faults}
use Rattle.st_rules.proofs.Booleans.{none≢some, some-same}
use Rattle.st_unit_rules.specs.declared_names.Declarations.{Declaration, an_entry, a_global, an_interface, a_class, a_function, a_program, a_configuration, Global, Placed, Region, declarations, place_each, placed, placed_from, is_class, number_among, globals_of_section, configuration_globals}
use Rattle.st_unit_rules.specs.declared_names.UnitNames.{unit_names, unit_scope, class_scope, outer_scope, method_scope, function_scope, prototype_scope, program_scope, locals_of, program_locals, names_from, class_declared}
use Rattle.st_unit_rules.specs.declared_names.Variables.{Written, sections_written, sections_in}
use Rattle.st_unit_rules.specs.Cycles.{inner_cycles}
use Rattle.st_unit_rules.specs.DeclarationRules.{routine_faults, parameter_limits, local_limits, function_faults, method_faults, class_home, class_declaration_faults, sort_faults, prototype_faults, program_faults, program_limits}
use Rattle.st_unit_rules.specs.NameRules.{local_name_faults, word_twice, space_faults, section_names}
use Rattle.st_unit_rules.specs.UnitRefusal.{BreaksNothing}
use Rattle.st_unit_rules.specs.VariableRules.{Home, of_routine, of_program, of_prototype, sections_faults, result_faults}
use Rattle.resolution_order.specs.told_laws.ToldLaws.{Every}
use Rattle.accepted_texts.proofs.unfolding_laws.ListLaws.{every_back, every_at, every_from}
use Rattle.accepted_texts.proofs.unfolding_laws.CycleLaws.{none_in, none_there}
use Rattle.st_unit_rules.specs.Cycles.{needs_itself, needs_inner}
use Rattle.accepted_texts.proofs.told_units.Names.{IsToldType}
use Rattle.accepted_texts.proofs.told_units.Meant.{ClassesHave, name-means}
use Rattle.accepted_texts.proofs.told_units.Inner.{IsWellWritten, members-rows}
use Rattle.accepted_texts.proofs.told_units.Sections.{sections-good}
use Rattle.accepted_texts.proofs.told_units.ScopeLaws.{values-have-types}
use Rattle.accepted_texts.proofs.told_units.Unit as unit
use Rattle.accepted_texts.proofs.told_units.Classes.{bases, IsGoodClass, classes-told, classes-have}
use Rattle.accepted_texts.specs.told_units.Formed.{IsFormedResult, IsFormedDeclaration}
use Rattle.accepted_texts.specs.told_units.Told.{IsToldVariable, AllTold}
use Rattle.accepted_texts.proofs.told_units.Locals.{all-told, rows-told, routine-told, locals-told, program-told, variables-told}
use Rattle.accepted_texts.proofs.told_units.UnitRows.{AreGlobals, sections-globals, section-globals, KindOf, GlobalOf, types-rows}
use Rattle.accepted_texts.proofs.told_units.Rows.{rows-every}
use Rattle.accepted_texts.proofs.told_units.Written.{item-parts}
use Rattle.st_tree.specs.declared.declaration.Item.{Item}
use Rattle.st_rules.specs.Scope.{global_named}
use Rattle.st_rules.specs.Expressions.{value_target}
use Rattle.st_unit_rules.specs.declared_names.Constants.{is_told, is_constant_meaning}
use Rattle.st_unit_rules.specs.declared_names.Variables.{constant_of}
use Rattle.st_unit_rules.specs.declared_names.WrittenTypes.{type_written}
use Rattle.st_unit_rules.specs.Cycles.{is_type}
use Rattle.st_unit_rules.specs.VariableRules.{of_globals}

-- ---- the number of a class among all

-- each, with its number
abbrev pub EveryNumbered : {X : Type 0} → (ℕ → X → Type 0) → ℕ → List X → Type 0
EveryNumbered P n [] = Unit {0}
EveryNumbered P n (x ∷ xs) = P n x × EveryNumbered P (suc n) xs

pub numbered-at : {X : Type 0} (P : ℕ → X → Type 0) (n : ℕ) (xs : List X) (i : ℕ) (x : X) → EveryNumbered P n xs → slice_get xs i ≡ Some x → P (n + i) x
numbered-at P n [] i x h e = absurd (none≢some e)
numbered-at P n (y ∷ ys) zero x h e = let z : n ≡ n + 0 = omega arith in subst (λ k. P k x) z (subst (P n) (some-same e) h.0)
numbered-at P n (y ∷ ys) (suc i) x h e = let z : suc n + i ≡ n + suc i = omega arith in subst (λ k. P k x) z (numbered-at P (suc n) ys i x h.1 e)

abbrev count : List Declaration → ℕ
count ds = length (filter is_class ds)

count-append : (ds es : List Declaration) → count (ds ++ es) ≡ count ds + count es
count-append [] es = let z : count es ≡ 0 + count es = omega arith in z
count-append (d ∷ ds) es = by (count-append ds es) (is_class d)
  where
    by : count (ds ++ es) ≡ count ds + count es → (b : Bool) → length (if b then d ∷ filter is_class (ds ++ es) else filter is_class (ds ++ es)) ≡ length (if b then d ∷ filter is_class ds else filter is_class ds) + count es
    by k true = omega (arith, k)
    by k false = k

count-none : (ds : List Declaration) → Every (λ d. is_class d ≡ false) ds → count ds ≡ 0
count-none [] h = refl
count-none (d ∷ ds) h = ap (λ b. length (if b then d ∷ filter is_class ds else filter is_class ds)) h.0 ∙ count-none ds h.1

pub globals-none : (ds : List Declaration) (ws : List Written) → AreGlobals ds ws → Every (λ d. is_class d ≡ false) ds
globals-none [] [] h = tt
globals-none (a_global g ∷ ds) (w ∷ ws) h = (refl, globals-none ds ws h.1)
globals-none [] (w ∷ ws) h = tt
globals-none (a_global g ∷ ds) [] h = absurd h
globals-none (d ∷ ds) ws h = absurd h

pub entries-none : (ts : List (TypeDecl ℕ)) → Every (λ d. is_class d ≡ false) (map an_entry ts)
entries-none [] = tt
entries-none (t ∷ ts) = (refl, entries-none ts)

module _ (P : Placed → Type 0) where
  pub record ClassPlaced (c : ℕ) (d : ClassDecl ℕ) : Type 0 where
    pub place : Placed
    pub is : place.declaration ≡ a_class d
    pub number : number_among is_class place ≡ c
    pub has : P place

  passed : (e : List Declaration) (b : List (List ℕ)) (r : List Region) (es : List Declaration) (rest : List Placed) (xs : List (ClassDecl ℕ)) → Every (λ d. is_class d ≡ false) es
      → EveryNumbered ClassPlaced (count (e ++ es)) xs → EveryNumbered ClassPlaced (count e) xs
  passed e b r es rest xs h k =
      let a = count-append e es in
      let n = count-none es h in
      let q : count (e ++ es) ≡ count e = omega (arith, a, n) in
      subst (λ m. EveryNumbered ClassPlaced m xs) q k

  pub classes-placed : (e : List Declaration) (b : List (List ℕ)) (r : List Region) (ds : List (Decl ℕ)) → Every P (placed_from e b r ds) → EveryNumbered ClassPlaced (count e) (classes_in ds)
  classes-placed e b r [] h = tt
  classes-placed e b r (declaration.Class d ∷ ds) h =
      let a = count-append e (a_class d ∷ []) in
      let q : count (e ++ a_class d ∷ []) ≡ suc (count e) = omega (arith, a) in
      (record { place = _; is = refl; number = refl; has = h.0 }, subst (λ m. EveryNumbered ClassPlaced m (classes_in ds)) q (classes-placed (e ++ a_class d ∷ []) _ _ ds h.1))
  classes-placed e b r (declaration.Types l ts ∷ ds) h =
      passed e b r (map an_entry ts) [] (classes_in ds) (entries-none ts) (classes-placed (e ++ map an_entry ts) _ _ ds (every_back P (place_each e b r (map an_entry ts)) _ h))
  classes-placed e b r (declaration.Globals s ∷ ds) h =
      passed e b r (globals_of_section s) [] (classes_in ds) (globals-none (globals_of_section s) _ (section-globals s)) (classes-placed (e ++ globals_of_section s) _ _ ds (every_back P (place_each e b r (globals_of_section s)) _ h))
  classes-placed e b r (declaration.Interface d ∷ ds) h = passed e b r (an_interface d ∷ []) [] (classes_in ds) (refl, tt) (classes-placed (e ++ an_interface d ∷ []) _ _ ds h.1)
  classes-placed e b r (declaration.Function d ∷ ds) h = passed e b r (a_function d ∷ []) [] (classes_in ds) (refl, tt) (classes-placed (e ++ a_function d ∷ []) _ _ ds h.1)
  classes-placed e b r (declaration.Program d ∷ ds) h = passed e b r (a_program d ∷ []) [] (classes_in ds) (refl, tt) (classes-placed (e ++ a_program d ∷ []) _ _ ds h.1)
  classes-placed e b r (declaration.Configuration c ∷ ds) h =
      let es = a_configuration c ∷ flat_map globals_of_section (configuration_globals c) in
      passed e b r es [] (classes_in ds) (refl, globals-none (flat_map globals_of_section (configuration_globals c)) _ (sections-globals (configuration_globals c)))
      (classes-placed (e ++ es) _ _ ds (every_back P (place_each e b r es) _ h))

module _ (decls : List (Decl ℕ)) where
  -- what the rules of a class say of its sections and its methods
  abbrev pub ClassRules : ℕ → ClassDecl ℕ → Type 0
  ClassRules c d = (i : ℕ) × (class_declaration_faults decls i c d ≡ [])

  pub class-rules : BreaksNothing decls → (c : ℕ) (d : ClassDecl ℕ) → slice_get (classes_in decls) c ≡ Some d → ClassRules c d
  unfolding placed
  class-rules good c d e =
      let P = λ (x : Placed). (i : ℕ) × (sort_faults decls i x x.declaration ≡ []) in
      let all : Every P (placed decls) = every_from P (placed decls) (λ i x q. (i, (none_there decls good i x q).1)) in
      let r = numbered-at (ClassPlaced P) 0 (classes_in decls) c d (classes-placed P [] [] [] decls all) e in
      let z : 0 + c ≡ c = omega arith in
      ((r.has).0, subst (λ k. class_declaration_faults decls (r.has).0 k d ≡ []) (r.number ∙ z) (none_in (class_declaration_faults decls (r.has).0 (number_among is_class r.place) d) _ (sym (ap (sort_faults decls (r.has).0 r.place) r.is) ∙ (r.has).1)).0)

  pub class-methods : (i c : ℕ) (d : ClassDecl ℕ) → class_declaration_faults decls i c d ≡ [] → flat_map (method_faults decls c) (methods_in d.members) ≡ []
  class-methods i c d f =
      let bodies = none_in _ _ f in
      let limits = none_in _ _ bodies.0 in
      (none_in _ (flat_map (method_faults decls c) (methods_in d.members)) limits.0).1

  pub class-cycles : (i c : ℕ) (d : ClassDecl ℕ) → class_declaration_faults decls i c d ≡ [] → inner_cycles (sections_written (sections_in d.members)) ≡ []
  class-cycles i c d f =
      let bodies = none_in _ _ f in
      let limits = none_in _ _ bodies.0 in
      let methods = none_in _ (flat_map (method_faults decls c) (methods_in d.members)) limits.0 in
      (none_in _ (inner_cycles (sections_written (sections_in d.members))) methods.0).1

  -- ---- the law

  abbrev pub here : Scope
  here = unit_scope decls (unit_names decls)

  module _ (good : BreaksNothing decls) (well : Every IsFormedDeclaration (declarations decls)) (free : (i : ℕ) → needs_itself (declarations decls) i ≡ false) where
    pub types : (name : List ℕ) → IsToldType (unit_scope decls (unit_names decls)) name
    types = unit.each-type decls good well free

    pub globals : (name : List ℕ) → is_constant_meaning (unit_scope decls (unit_names decls)) (global_named name (unit_names decls).globals) ≡ true → is_told (value_target (global_named name (unit_names decls).globals)) ≡ true
    globals = unit.each-global decls good well free

    pub unit-told : AllTold (unit_scope decls (unit_names decls))
    unit-told = all-told (unit_scope decls (unit_names decls)) (unit.unit-types decls) types (unit.each-constant decls good well free)

    abbrev pub Known : Declaration → Type 0
    Known d = unit.IsTold decls (Some d) × unit.IsGood decls d × IsFormedDeclaration d

    pub known : Every Known (declarations decls)
    known =
        every_from Known (declarations decls)
        (λ i d e. (subst (unit.IsTold decls) e (unit.all-told decls good well free i), every_at (unit.IsGood decls) (declarations decls) i d (unit.all-good decls good) e, every_at IsFormedDeclaration (declarations decls) i d well e))

    type-row : (d : Declaration) (t : DeclaredType) → KindOf decls (unit_names decls) d t → Known d → is_some t.kind ≡ true
    type-row d t r k = unit.kind-told decls d t r k.0

    -- every type that the unit declares
    pub types-told : Every (λ (t : DeclaredType). is_some t.kind ≡ true) (unit_names decls).types
    unfolding names_from declarations
    types-told =
        subst (λ (n : DeclaredNames). Every (λ (t : DeclaredType). is_some t.kind ≡ true) n.types) (unit.fixed decls)
        (rows-every is_type (λ (t : DeclaredType). t.name) (KindOf decls (unit_names decls)) Known (λ (t : DeclaredType). is_some t.kind ≡ true) type-row (declarations decls) (names_from decls (unit_names decls)).types
        (types-rows decls (unit_names decls) 0 0 0 decls) known)

    -- every global with its type, and every global constant with its value
    pub global-told : (g : Global) (v : DeclaredVariable) → GlobalOf decls (unit_names decls) (a_global g) (global.Variable v) → Known (a_global g) → IsToldVariable v
    global-told g v r k =
        let item = k.1.0 in
        let p = item-parts here (unit.unit-types decls) of_globals g.section g.item k.1.2 in (
          ap is_some (r.1 ∙ ap (λ (x : Item ℕ). type_written here x.kind) item) ∙ unit-told.written g.item.kind k.2.0 p.kind,
          λ c. let q = sym r.0 ∙ c in ap is_told (r.2 q) ∙ unit.target-there decls (constant_of here g.written) (k.0 q).1,
        )

    -- ---- scopes without a class

    pub no-class : (vs : List DeclaredVariable) (name : List ℕ) → ClassesHave (record (unit_scope decls (unit_names decls)) { locals = vs }) globals None name
    no-class vs name = record { own = λ c q v e. absurd (none≢some q); bases = λ c q d m n v e. absurd (none≢some q) }

    module _ (s : Scope) where
      routine-rules : (h : Home) (line : ℕ) (name : List ℕ) (result : Option (TypeSpec ℕ)) (ss : List (Section ℕ)) (text : List (Stmt ℕ)) → routine_faults decls s h line name result ss text ≡ [] → (sections_faults s h ss ≡ []) × (result_faults s line result ≡ [])
      routine-rules h line name result ss text f =
          let a = sections_faults s h ss in
          let b = result_faults s line result in
          let c = inner_cycles (sections_written ss) in
          let d = parameter_limits decls s line result ss in
          let e = local_limits decls s line in
          let g = body_faults s (statements_of text) in
          none_in a b (none_in (a ++ b) c (none_in (a ++ b ++ c) d (none_in (a ++ b ++ c ++ d) e (none_in (a ++ b ++ c ++ d ++ e) g f).0).0).0).0

    module _ (f : FunctionDecl ℕ) (rules : function_faults decls f ≡ []) (own : (i : ℕ) → needs_inner (sections_written f.sections) i ≡ false)
        (formed : Every (IsWellWritten (record (unit_scope decls (unit_names decls)) { locals = locals_of (unit_scope decls (unit_names decls)) f.name.text f.result f.sections })) (sections_written f.sections))
      where
        pub unfolded : (sections_faults (record (unit_scope decls (unit_names decls)) { locals = locals_of (unit_scope decls (unit_names decls)) f.name.text f.result f.sections }) of_routine f.sections ≡ [])
            × (result_faults (record (unit_scope decls (unit_names decls)) { locals = locals_of (unit_scope decls (unit_names decls)) f.name.text f.result f.sections }) f.line f.result ≡ [])
        unfolding function_scope
        unfolded = routine-rules (function_scope decls (unit_names decls) f) of_routine f.line f.name.text f.result f.sections f.body (none_in (local_name_faults f.name.text f.sections) (routine_faults decls (function_scope decls (unit_names decls) f) of_routine f.line f.name.text f.result f.sections f.body) rules).1

        -- a function: its scope, and each of its locals
        pub function-told : AllTold (function_scope decls (unit_names decls) f)
        unfolding function_scope
        function-told = routine-told here types (unit.tells decls) globals no-class of_routine f.sections own f.name.text f.result unfolded.0 (f.line, unfolded.1) formed

        pub function-locals : IsFormedResult f.result → Every IsToldVariable (locals_of here f.name.text f.result f.sections)
        function-locals x = locals-told here types (unit.tells decls) globals no-class of_routine f.sections own f.name.text f.result unfolded.0 (f.line, unfolded.1) formed x

    -- a method of an interface
    module _ (m : Prototype ℕ) (rules : prototype_faults decls m ≡ []) (own : (i : ℕ) → needs_inner (sections_written m.sections) i ≡ false)
        (formed : Every (IsWellWritten (record (unit_scope decls (unit_names decls)) { locals = locals_of (unit_scope decls (unit_names decls)) m.name.text m.result m.sections })) (sections_written m.sections))
      where
        pub prototype-parts : (sections_faults (record (unit_scope decls (unit_names decls)) { locals = locals_of (unit_scope decls (unit_names decls)) m.name.text m.result m.sections }) of_prototype m.sections ≡ [])
            × (result_faults (record (unit_scope decls (unit_names decls)) { locals = locals_of (unit_scope decls (unit_names decls)) m.name.text m.result m.sections }) m.line m.result ≡ [])
        unfolding prototype_scope
        prototype-parts =
            let s = prototype_scope decls (unit_names decls) m in
            let a = sections_faults s of_prototype m.sections in
            let b = result_faults s m.line m.result in
            let c = inner_cycles (sections_written m.sections) in
            none_in a b (none_in (a ++ b) c (none_in (a ++ b ++ c) (parameter_limits decls s m.line m.result m.sections) rules).0).0

        pub prototype-told : AllTold (prototype_scope decls (unit_names decls) m)
        unfolding prototype_scope
        prototype-told = routine-told here types (unit.tells decls) globals no-class of_prototype m.sections own m.name.text m.result prototype-parts.0 (m.line, prototype-parts.1) formed

        pub prototype-locals : IsFormedResult m.result → Every IsToldVariable (locals_of here m.name.text m.result m.sections)
        prototype-locals x = locals-told here types (unit.tells decls) globals no-class of_prototype m.sections own m.name.text m.result prototype-parts.0 (m.line, prototype-parts.1) formed x

    -- a program
    module _ (p : ProgramDecl ℕ) (rules : program_faults decls p ≡ []) (own : (i : ℕ) → needs_inner (sections_written p.sections) i ≡ false)
        (formed : Every (IsWellWritten (record (unit_scope decls (unit_names decls)) { locals = program_locals (unit_scope decls (unit_names decls)) p.sections })) (sections_written p.sections))
      where
        pub program-part : sections_faults (record (unit_scope decls (unit_names decls)) { locals = program_locals (unit_scope decls (unit_names decls)) p.sections }) of_program p.sections ≡ []
        unfolding program_scope
        program-part =
            let s = program_scope decls (unit_names decls) p in
            let z = space_faults (section_names p.sections) in
            let a = sections_faults s of_program p.sections in
            let b = inner_cycles (sections_written p.sections) in
            let c = program_limits decls s p in
            let d = body_faults s (statements_of p.body) in
            (none_in z a (none_in (z ++ a) b (none_in (z ++ a ++ b) c (none_in (z ++ a ++ b ++ c) d rules).0).0).0).1

        pub program-all : AllTold (program_scope decls (unit_names decls) p)
        unfolding program_scope
        program-all = program-told here types (unit.tells decls) globals no-class of_program p.sections own program-part formed

        pub program-variables : Every IsToldVariable (program_locals here p.sections)
        program-variables = variables-told here types (unit.tells decls) globals no-class of_program p.sections own program-part formed

    -- ---- classes

    module _ (wells : (c : ℕ) (d : ClassDecl ℕ) → slice_get (classes_in decls) c ≡ Some d → Every (IsWellWritten (class_scope decls (unit_names decls) c)) (sections_written (sections_in d.members)))
        (inner : (c : ℕ) (d : ClassDecl ℕ) → slice_get (classes_in decls) c ≡ Some d → (i : ℕ) → needs_inner (sections_written (sections_in d.members)) i ≡ false)
        (above : (c : ℕ) → list_any (λ k. leads_within (bases (base_of (classes_in decls))) (length (classes_in decls)) k c) (bases (base_of (classes_in decls)) c) ≡ false)
      where
        pub class-parts : (i c : ℕ) (d : ClassDecl ℕ) → class_declaration_faults decls i c d ≡ [] → (sections_faults (class_scope decls (unit_names decls) c) (class_home decls d.sort) (sections_in d.members) ≡ []) × (flat_map (method_faults decls c) (methods_in d.members) ≡ [])
        class-parts i c d f =
            let bodies = none_in _ _ f in
            let limits = none_in _ _ bodies.0 in
            let methods = none_in _ (flat_map (method_faults decls c) (methods_in d.members)) limits.0 in
            let cycles = none_in _ _ methods.0 in
            let sections = none_in _ (sections_faults (class_scope decls (unit_names decls) c) (class_home decls d.sort) (sections_in d.members)) cycles.0 in
            (sections.1, methods.1)

        pub class-good : (c : ℕ) (d : ClassDecl ℕ) → slice_get (classes_in decls) c ≡ Some d → IsGoodClass decls types globals (unit.tells decls) c d
        class-good c d e = let r = class-rules good c d e in record { rules = (class-parts r.0 c d r.1).0; well = wells c d e; free = inner c d e }

        pub have : (c : ℕ) (d : ClassDecl ℕ) → slice_get (classes_in decls) c ≡ Some d → (m : Bool) (vs : List DeclaredVariable) (name : List ℕ) → ClassesHave (record (unit_scope decls (unit_names decls)) { class = Some c; in_method = m; locals = vs }) globals (Some c) name
        have c d e m vs name = classes-have decls types globals (unit.tells decls) class-good above c d e m vs name

        -- a class: its scope, and each of its variables
        pub class-told : (c : ℕ) (d : ClassDecl ℕ) → slice_get (classes_in decls) c ≡ Some d → AllTold (class_scope decls (unit_names decls) c)
        class-told c d e =
            all-told (class_scope decls (unit_names decls) c) (values-have-types (class_scope decls (unit_names decls) c) (unit.tells decls) tt) types
            (λ name. name-means (class_scope decls (unit_names decls) c) globals name (λ v q. absurd (none≢some q)) (have c d e false [] name))

        pub class-variables : (c : ℕ) (d : ClassDecl ℕ) → slice_get (classes_in decls) c ≡ Some d → Every IsToldVariable (class_declared decls (unit_names decls) c d).variables
        class-variables c d e =
            let s = class_scope decls (unit_names decls) c in
            let g = class-good c d e in
            rows-told s (sections_written (sections_in d.members)) (class_declared decls (unit_names decls) c d).variables (members-rows s _ _ (sections_written (sections_in d.members))) (class-told c d e)
            (sections-good s (values-have-types s (unit.tells decls) tt) (class_home decls d.sort) (sections_in d.members) g.rules) g.well (classes-told decls types globals (unit.tells decls) class-good above c d e)

        -- a method
        module _ (c : ℕ) (d : ClassDecl ℕ) (e : slice_get (classes_in decls) c ≡ Some d) (m : Method ℕ) (rules : method_faults decls c m ≡ []) (own : (i : ℕ) → needs_inner (sections_written m.sections) i ≡ false)
            (formed : Every (IsWellWritten (record (outer_scope decls (unit_names decls) (Some c)) { locals = locals_of (outer_scope decls (unit_names decls) (Some c)) m.name.text m.result m.sections })) (sections_written m.sections))
          where
            pub method-parts : (sections_faults (record (outer_scope decls (unit_names decls) (Some c)) { locals = locals_of (outer_scope decls (unit_names decls) (Some c)) m.name.text m.result m.sections }) of_routine m.sections ≡ [])
                × (result_faults (record (outer_scope decls (unit_names decls) (Some c)) { locals = locals_of (outer_scope decls (unit_names decls) (Some c)) m.name.text m.result m.sections }) m.line m.result ≡ [])
            unfolding method_scope
            method-parts =
                let s = method_scope decls (unit_names decls) c m in
                let r = routine_faults decls s of_routine m.line m.name.text m.result m.sections m.body in
                routine-rules s of_routine m.line m.name.text m.result m.sections m.body (none_in (word_twice m.line m.modifiers ++ local_name_faults m.name.text m.sections) r rules).1

            pub method-told : AllTold (method_scope decls (unit_names decls) c m)
            unfolding method_scope
            method-told = routine-told (outer_scope decls (unit_names decls) (Some c)) types (unit.tells decls) globals (have c d e true) of_routine m.sections own m.name.text m.result method-parts.0 (m.line, method-parts.1) formed

            pub method-locals : IsFormedResult m.result → Every IsToldVariable (locals_of (outer_scope decls (unit_names decls) (Some c)) m.name.text m.result m.sections)
            method-locals x = locals-told (outer_scope decls (unit_names decls) (Some c)) types (unit.tells decls) globals (have c d e true) of_routine m.sections own m.name.text m.result method-parts.0 (m.line, method-parts.1) formed x
