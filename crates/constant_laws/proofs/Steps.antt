-- What is told of constants are numbers of their types, however many steps have told it.
use Rattle.std.proofs.Common.{◌≡◌, ◌<◌, ℕ, zero, suc, ◌+◌, Bool, true, false, List, [], ◌∷◌, map, length, Option, Some, None, refl, sym, ap, ◌∙◌, subst, arith}
use Rattle.std.specs.Prelude.{pos, option_map, option_and_then, if◌then◌else◌, slice_get}
use Rattle.std.proofs.lemmas.Option.{slice_get-map}
use Rattle.st_types.specs.declared.st_type.StType.{StType}
use Rattle.st_types.specs.declared.st_type.StType.TheVariants as type
use Rattle.st_types.specs.declared.st_type.StType.TheOpen.{StType-F}
use Rattle.st_tree.specs.declared.declaration.ClassDecl.{ClassDecl}
use Rattle.st_tree.specs.declared.declaration.Section.{Section}
use Rattle.st_tree.specs.declared.declaration.TypeBody.{TypeBody}
use Rattle.st_tree.specs.declared.declaration.TypeBody.TheVariants as body
use Rattle.st_tree.specs.declared.declaration.TypeDecl.{TypeDecl}
use Rattle.st_tree.specs.declared.name.Name.{Name}
use Rattle.st_tree.specs.declared.program.Note.{Note}
use Rattle.st_tree.specs.declared.program.Program.{Program as Checked}
use Rattle.st_tree.specs.declared.program.Target.{Target}
use Rattle.st_tree.specs.declared.program.Target.TheVariants as target
use Rattle.st_tree.specs.declared.type_spec.TypeSpec.{TypeSpec}
use Rattle.st_tree.specs.declared.unit.Decl.{Decl}
use Rattle.st_tree.specs.declared.unit.Decl.TheVariants as declaration
use Rattle.st_tree.specs.Expression.{Expression}
use Rattle.st_tree.specs.Initial.{Initial, Value, Array, Fields, initial_of}
use Rattle.st_rules.specs.declared.asked.Asked.TheVariants.{Wanted}
use Rattle.st_rules.specs.declared.names.DeclaredVariable.{DeclaredVariable}
use Rattle.st_rules.specs.declared.names.DeclaredClass.{DeclaredClass}
use Rattle.st_rules.specs.declared.names.DeclaredGlobal.{DeclaredGlobal}
use Rattle.st_rules.specs.declared.names.DeclaredGlobal.TheVariants as global
use Rattle.st_rules.specs.declared.names.DeclaredNames.{DeclaredNames}
use Rattle.st_rules.specs.declared.names.TypeParts.{TypeParts}
use Rattle.st_rules.specs.declared.names.TypeParts.TheVariants as parts
use Rattle.st_rules.specs.Classes.{classes_in}
use Rattle.st_rules.specs.Faults.{Faults}
use Rattle.st_rules.specs.Numbered.{each_numbered}
use Rattle.st_rules.specs.Signatures.{is_parameter_sort}
use Rattle.st_rules.specs.Scope.{Scope, value_names, is_instance_sort, is_body_sort}
use Rattle.st_rules.proofs.Booleans.{none≢some, some-same, true≢false}
use Rattle.st_unit_rules.specs.declared_names.Constants.{Outcome, comes_to, divides_by_zero, cannot_be_told, constant_value, if_none, told_value, value_faults, names_are_told}
use Rattle.st_unit_rules.specs.declared_names.Declarations.{configuration_globals, entries_in}
use Rattle.st_unit_rules.specs.declared_names.Variables.{Written, sections_written, sections_in, may_be_constant, value_given, constant_target, constant_of, declared_with, declared_each, member_targets, members_declared, local_targets, result_declared, locals_declared, routine_locals}
use Rattle.st_unit_rules.specs.declared_names.UnitNames.{forgotten, forgotten_class, forgotten_parts, forgotten_global, constants_written, told_locals, locals_of, program_locals, unit_scope, class_scope, outer_scope, method_scope, function_scope, prototype_scope, program_scope, class_declared, parts_declared, variables_declared, region_count, globals_from, names_from, no_names, names_told, steps_needed, unit_names}
use Rattle.st_unit_rules.specs.Checked.{TypedEntry, TypedTypeBody, IsChecked}
use Rattle.st_values.specs.Program.{Program}
use Rattle.st_values.specs.Shape.{Enumeration, shape_by, shape_within, simple_shape, values_of}
use Rattle.st_values.specs.Value.{◌>>=◌}
use Rattle.st_values.specs.View.{program_of, type_body, type_entry}
use Rattle.st_meaning.specs.st_frame.Promise.Types.{NumberIs}
use Rattle.resolution_order.specs.told_laws.ToldLaws.{Every, TellsKind, TellsKinds}
use Rattle.resolution_order.proofs.told_laws.Tells.{pick, one-append, members-tell, routine-tells, told-tells, names-tell, forgotten-tell}
use Rattle.accepted_texts.specs.told_units.Told.{WrittenIn, in_class, in_method, in_function, in_prototype, in_program}
use Rattle.accepted_texts.proofs.unfolding_laws.ListLaws.{if_there, each_get}
use Rattle.constant_laws.proofs.Numbers.{OutcomeOf, constant_number}
use Rattle.constant_laws.proofs.Constants.{ConstantFits, ValueFits, wanted_value}
use Rattle.constant_laws.proofs.Scopes.{GlobalFits, HaveValues, NamesFit, Sound, scope_fits, scope_types}

mapped_get : {X Y : Type 0} (f : X → Y) (xs : List X) (i : ℕ) (y : Y) → slice_get (map f xs) i ≡ Some y → (x : X) × (slice_get xs i ≡ Some x) × (y ≡ f x)
mapped_get f [] i y e = absurd (none≢some e)
mapped_get f (x ∷ xs) zero y e = (x, refl, sym (some-same e))
mapped_get f (x ∷ xs) (suc i) y e = mapped_get f xs i y e

module _ (p : Program) where
  -- ---- one constant

  module _ (s : Scope) (h : Sound p s) where
    value_or_none : (t : StType) (e : Expression ℕ) → may_be_constant t ≡ true → (fs : Faults) (x : Outcome) → (fs ≡ [] → OutcomeOf p t x) → ConstantFits p t (constant_target (if_none fs x))
    value_or_none t e m [] (comes_to z) g = constant_number p t z m (g refl)
    value_or_none t e m [] (divides_by_zero l) g = tt
    value_or_none t e m [] cannot_be_told g = tt
    value_or_none t e m (f ∷ fs) x g = tt

    told_fits : (t : StType) (e : Expression ℕ) → may_be_constant t ≡ true → ConstantFits p t (constant_target (told_value s (Wanted t) e))
    unfolding told_value
    told_fits t e m = by (names_are_told s e) refl
      where
        by : (b : Bool) → names_are_told s e ≡ b → ConstantFits p t (constant_target (if b then if_none (value_faults s (Wanted t) e) (constant_value s (Wanted t) e) else None))
        by true q = value_or_none t e m (value_faults s (Wanted t) e) (constant_value s (Wanted t) e) (λ f. wanted_value p s (scope_types p s h) (scope_fits p s h) t e q f)
        by false q = tt

    given_fits : (t : StType) (i : Option (Initial ℕ)) → ConstantFits p t (constant_target (value_given s t i))
    given_fits t (Some (Value e)) = by (may_be_constant t) refl
      where
        by : (b : Bool) → may_be_constant t ≡ b → ConstantFits p t (constant_target (if b then told_value s (Wanted t) e else None))
        by true m = told_fits t e m
        by false m = tt
    given_fits t (Some (Array l ps)) = tt
    given_fits t (Some (Fields l fs)) = tt
    given_fits t None = tt

    constant_fits : (w : Written) → ValueFits p (declared_with s (constant_target (constant_of s w)) w)
    constant_fits w c t e = subst (λ o. ConstantFits p t (constant_target (option_and_then (λ u. value_given s u (option_map initial_of w.item.initial)) o))) (sym e) (given_fits t (option_map initial_of w.item.initial))

    no_constant : (w : Written) (x : Target) → w.constant ≡ false → ValueFits p (declared_with s x w)
    no_constant w x f c = absurd (true≢false (sym c ∙ f))

    -- ---- variables of classes and routines

    abbrev Fit : Written → List Written → List Target → Type 0
    Fit w ws ts = Every (ValueFits p) (declared_each s ts (w ∷ ws))

    pub members_fit : (k l : ℕ) (ws : List Written) → Every (ValueFits p) (declared_each s (member_targets s k l ws) ws)
    members_fit k l [] = tt
    members_fit k l (w ∷ ws) =
        pick (Fit w ws) w.constant _ _ (λ e. (constant_fits w, members_fit k l ws)) λ e.
        pick (Fit w ws) (is_instance_sort w.sort) _ _ (λ i. (no_constant w (target.Variable k) e, members_fit (suc k) l ws)) λ i.
        pick (Fit w ws) (is_body_sort w.sort) _ _ (λ b. (no_constant w (target.Local l) e, members_fit k (suc l) ws)) λ b.
        (no_constant w target.Nothing e, members_fit k l ws)

    locals_fit : (a b : ℕ) (ws : List Written) → Every (ValueFits p) (declared_each s (local_targets s a b ws) ws)
    locals_fit a b [] = tt
    locals_fit a b (w ∷ ws) =
        pick (Fit w ws) w.constant _ _ (λ e. (constant_fits w, locals_fit a b ws)) λ e.
        pick (Fit w ws) (is_parameter_sort w.sort) _ _ (λ i. (no_constant w (target.Local a) e, locals_fit (suc a) b ws)) λ i.
        pick (Fit w ws) (is_instance_sort w.sort) _ _ (λ i. (no_constant w (target.Local b) e, locals_fit a (suc b) ws)) λ i.
        pick (Fit w ws) (is_body_sort w.sort) _ _ (λ i. (no_constant w (target.Local b) e, locals_fit a (suc b) ws)) λ i.
        (no_constant w target.Nothing e, locals_fit a b ws)

    result_fits : (name : List ℕ) (result : Option (TypeSpec ℕ)) → Every (ValueFits p) (result_declared s name result)
    result_fits name None = tt
    result_fits name (Some t) = ((λ c. absurd (true≢false (sym c))), tt)

    routine_fits : (name : List ℕ) (result : Option (TypeSpec ℕ)) (ss : List (Section ℕ)) → Every (ValueFits p) (routine_locals s name result ss)
    unfolding routine_locals
    routine_fits name result ss = one-append (ValueFits p) (result_declared s name result) (locals_declared s result ss) (result_fits name result) (locals_fit _ _ (sections_written ss))

  -- ---- what is told of locals, step by step

  forgotten_fits : (vs : List DeclaredVariable) → Every (ValueFits p) (map forgotten vs)
  forgotten_fits [] = tt
  forgotten_fits (v ∷ vs) = ((λ c t e. absurd (none≢some e)), forgotten_fits vs)

  module _ (s : Scope) (tells : TellsKinds s.names) (names : NamesFit p s.names) (gives : Scope → List DeclaredVariable) (told : (t : Scope) → Every TellsKind (gives t)) (fit : (t : Scope) → Sound p t → Every (ValueFits p) (gives t)) where
    steps_fit : (k : ℕ) → Every (ValueFits p) (told_locals s gives k)
    steps_fit zero = forgotten_fits (gives s)
    steps_fit (suc k) = fit (record s { locals = told_locals s gives k }) (record { tells = tells; locals_tell = told-tells s gives told k; names = names; locals = steps_fit k })

    pub with_locals : (k : ℕ) → Sound p (record s { locals = told_locals s gives k })
    with_locals k = record { tells = tells; locals_tell = told-tells s gives told k; names = names; locals = steps_fit k }

  module _ (s : Scope) (tells : TellsKinds s.names) (names : NamesFit p s.names) where
    pub routine_sound : (name : List ℕ) (result : Option (TypeSpec ℕ)) (ss : List (Section ℕ)) → Sound p (record s { locals = locals_of s name result ss })
    unfolding locals_of
    routine_sound name result ss = with_locals s tells names (λ t. routine_locals t name result ss) (λ t. routine-tells t name result ss) (λ t h. routine_fits t h name result ss) (suc (length (constants_written ss)))

    pub program_sound : (ss : List (Section ℕ)) → Sound p (record s { locals = program_locals s ss })
    unfolding program_locals
    program_sound ss = with_locals s tells names (λ t. members_declared t 0 0 ss) (λ t. members-tell t 0 0 (sections_written ss)) (λ t h. members_fit t h 0 0 (sections_written ss)) (suc (length (constants_written ss)))

  -- ---- all names

  abbrev AreValues : List (Decl ℕ) → Type 0
  AreValues decls = (n : ℕ) (t : TypeDecl ℕ) (k : ℕ) → slice_get (entries_in decls) n ≡ Some t → k < length (value_names (parts_declared decls (no_names decls) t.body)) → NumberIs p (type.Enumeration n) (pos k)

  module _ (decls : List (Decl ℕ)) (values : AreValues decls) where
    -- the values of an enumeration do not depend on what is told
    same_values : (a : DeclaredNames) (b : TypeBody ℕ) → value_names (parts_declared decls a b) ≡ value_names (parts_declared decls (no_names decls) b)
    same_values a (body.Alias t) = refl
    same_values a (body.Enumeration ns) = refl
    same_values a (body.Structure gs) = refl

    forgotten_values : (t : TypeParts) → value_names (forgotten_parts t) ≡ value_names t
    forgotten_values parts.Nothing = refl
    forgotten_values (parts.Values names) = refl
    forgotten_values (parts.Fields fields) = refl

    parts_fit : (a : DeclaredNames) → HaveValues p (map (λ (t : TypeDecl ℕ). parts_declared decls a t.body) (entries_in decls))
    parts_fit a n t k e h =
        let x = mapped_get (λ (u : TypeDecl ℕ). parts_declared decls a u.body) (entries_in decls) n t e in
        values n x.0 k x.1 (subst (λ ns. k < length ns) (ap value_names x.2 ∙ same_values a (x.0).body) h)

    forgotten_parts_fit : (ts : List TypeParts) → HaveValues p ts → HaveValues p (map forgotten_parts ts)
    forgotten_parts_fit ts v n t k e h =
        let x = mapped_get forgotten_parts ts n t e in
        v n x.0 k x.1 (subst (λ ns. k < length ns) (ap value_names x.2 ∙ forgotten_values x.0) h)

    module _ (a : DeclaredNames) (tells : TellsKinds a) (fit : NamesFit p a) where
      unit_here : Sound p (unit_scope decls a)
      unit_here = record { tells = tells; locals_tell = tt; names = fit; locals = tt }

      class_here : (c : ℕ) → Sound p (class_scope decls a c)
      class_here c = record { tells = tells; locals_tell = tt; names = fit; locals = tt }

      classes_fit : (c : ℕ) (ds : List (ClassDecl ℕ)) → Every (λ (x : DeclaredClass). Every (ValueFits p) x.variables) (each_numbered (λ c d. class_declared decls a c d ∷ []) c ds)
      classes_fit c [] = tt
      classes_fit c (d ∷ ds) = (members_fit (class_scope decls a c) (class_here c) _ _ (sections_written (sections_in d.members)), classes_fit (suc c) ds)

      variables_fit : (r : ℕ) (ws : List Written) → Every (GlobalFits p) (variables_declared decls a r ws)
      variables_fit r [] = tt
      variables_fit r (w ∷ ws) =
          pick (Every (GlobalFits p)) w.constant _ _ (λ e. (constant_fits (unit_scope decls a) unit_here w, variables_fit r ws)) λ e.
          (no_constant (unit_scope decls a) unit_here w (target.Region r) e, variables_fit (suc r) ws)

      globals_fit : (r k : ℕ) (ds : List (Decl ℕ)) → Every (GlobalFits p) (globals_from decls a r k ds)
      globals_fit r k [] = tt
      globals_fit r k (declaration.Globals s ∷ ds) =
          one-append (GlobalFits p) (variables_declared decls a r (sections_written (s ∷ []))) (globals_from decls a (r + region_count decls a (sections_written (s ∷ []))) k ds)
          (variables_fit r (sections_written (s ∷ []))) (globals_fit (r + region_count decls a (sections_written (s ∷ []))) k ds)
      globals_fit r k (declaration.Function f ∷ ds) = (tt, globals_fit r (suc k) ds)
      globals_fit r k (declaration.Configuration c ∷ ds) =
          one-append (GlobalFits p) (variables_declared decls a r (sections_written (configuration_globals c)))
          (globals_from decls a (r + (region_count decls a (sections_written (configuration_globals c)) + length c.instances)) k ds)
          (variables_fit r (sections_written (configuration_globals c))) (globals_fit (r + (region_count decls a (sections_written (configuration_globals c)) + length c.instances)) k ds)
      globals_fit r k (d ∷ ds) = globals_fit r k ds

      next_fit : NamesFit p (names_from decls a)
      unfolding names_from
      next_fit = record { classes = classes_fit 0 (classes_in decls); globals = globals_fit 0 0 decls; values = parts_fit a }

    forgotten_classes : (cs : List DeclaredClass) → Every (λ (c : DeclaredClass). Every (ValueFits p) c.variables) (map forgotten_class cs)
    forgotten_classes [] = tt
    forgotten_classes (c ∷ cs) = (forgotten_fits c.variables, forgotten_classes cs)

    forgotten_globals : (gs : List DeclaredGlobal) → Every (GlobalFits p) (map forgotten_global gs)
    forgotten_globals [] = tt
    forgotten_globals (global.Variable v ∷ gs) = ((λ c t e. absurd (none≢some e)), forgotten_globals gs)
    forgotten_globals (global.Function k r ∷ gs) = (tt, forgotten_globals gs)

    first_parts : HaveValues p (names_from decls (no_names decls)).parts
    unfolding names_from
    first_parts = parts_fit (no_names decls)

    record Right (a : DeclaredNames) : Type 0 where
      tells : TellsKinds a
      fit : NamesFit p a

    told_right : (k : ℕ) → Right (names_told decls k)
    told_right zero =
        let a = names_from decls (no_names decls) in
        record { tells = forgotten-tell a; fit = record { classes = forgotten_classes a.classes; globals = forgotten_globals a.globals; values = forgotten_parts_fit a.parts first_parts } }
    told_right (suc k) = let r = told_right k in record { tells = names-tell decls (names_told decls k); fit = next_fit (names_told decls k) r.tells r.fit }

    unit_right : Right (unit_names decls)
    unfolding unit_names
    unit_right = told_right (suc (suc (steps_needed decls)))

    -- ---- every scope of the unit

    pub unit_sound : Sound p (unit_scope decls (unit_names decls))
    unit_sound = unit_here (unit_names decls) unit_right.tells unit_right.fit

    pub class_sound : (c : ℕ) → Sound p (class_scope decls (unit_names decls) c)
    class_sound c = class_here (unit_names decls) unit_right.tells unit_right.fit c

    pub written_sound : (s : Scope) (o : Option (TypeSpec ℕ)) (ss : List (Section ℕ)) → WrittenIn decls s o ss → Sound p s
    unfolding method_scope function_scope prototype_scope program_scope
    written_sound _ _ _ (in_class c d e) = class_sound c
    written_sound _ _ _ (in_method c d k m e f) = routine_sound (outer_scope decls (unit_names decls) (Some c)) unit_right.tells unit_right.fit m.name.text m.result m.sections
    written_sound _ _ _ (in_function i x f e q) = routine_sound (unit_scope decls (unit_names decls)) unit_right.tells unit_right.fit f.name.text f.result f.sections
    written_sound _ _ _ (in_prototype i x d k m e q f) = routine_sound (unit_scope decls (unit_names decls)) unit_right.tells unit_right.fit m.name.text m.result m.sections
    written_sound _ _ _ (in_program i x d e q) = program_sound (unit_scope decls (unit_names decls)) unit_right.tells unit_right.fit d.sections

-- ---- enumerations of a checked unit

module _ (decls : List (Decl ℕ)) (p : Checked) (checked : IsChecked decls p) where
  shaped : (n : ℕ) (t : TypeDecl ℕ) (k : ℕ) (y : TypeDecl Note) → slice_get p.types n ≡ Some y → (a : TypeBody ℕ) (b : TypeBody Note) → y.body ≡ b → TypedTypeBody decls a b → k < length (value_names (parts_declared decls (no_names decls) a))
      → NumberIs (program_of p) (type.Enumeration n) (pos k)
  shaped n t k y e (body.Alias u) b q h l = let z : k < 0 = l in absurd (omega (arith, z))
  shaped n t k y e (body.Structure gs) b q h l = let z : k < 0 = l in absurd (omega (arith, z))
  shaped n t k y e (body.Enumeration ns) (body.Alias u) q h l = absurd h
  shaped n t k y e (body.Enumeration ns) (body.Structure gs) q h l = absurd h
  shaped n t k y e (body.Enumeration ns) (body.Enumeration ms) q h l =
      let pp = program_of p in
      let there : slice_get pp.types n ≡ Some (type_entry y) = slice_get-map type_entry p.types n ∙ ap (option_map type_entry) e in
      let names = map (λ (x : Name). x.text) ms in
      let values : values_of (type_entry y).body ≡ Some names = ap (λ x. values_of (type_body x)) q in
      let sh = Enumeration y.name.text names in
      let made : simple_shape pp (StType-F.Enumeration n) ≡ Some sh =
      ap (λ o. o >>= λ x. values_of x.body >>= λ vs. Some (Enumeration x.name vs)) there ∙ ap (λ o. o >>= λ vs. Some (Enumeration y.name.text vs)) values in
      (sh, ap (shape_by pp (shape_within pp 64)) (type.outs-Enumeration n) ∙ made, (k, refl, subst (λ xs. k < length (map (λ (x : Name). x.text) xs)) (sym h) l))

  pub entry_values : AreValues (program_of p) decls
  entry_values n t k e l =
      let y = if_there (TypedEntry decls) (slice_get (entries_in decls) n) (slice_get p.types n) t e (each_get (TypedEntry decls) (entries_in decls) p.types n checked.types) in
      shaped n t k y.0 y.1 t.body (y.0).body refl (y.2).body l
