-- The locals of a call have no more values than the rules count of them.
use Rattle.std.proofs.Common.{◌≡◌, ◌≤◌, ℕ, zero, suc, ◌+◌, Bool, true, false, List, [], ◌∷◌, ◌++◌, map, length, Option, Some, None, refl, sym, ap, ◌∙◌, subst, inl, inr, arith, ltb-false}
use Rattle.std.specs.Prelude.{◌⊎◌, if◌then◌else◌, not, ◌&&◌, nat_lt, filter, flat_map, slice_get}
use Rattle.std.specs.Option.{is_some}
use Rattle.std.proofs.lemmas.List.{map-append}
use Rattle.std.proofs.lemmas.List.Concat.{flat_map-append}
use Rattle.std.proofs.lemmas.List.Elements.{filter-append}
use Rattle.std.proofs.lemmas.Option.{slice_get-map}
use Rattle.plc_text.specs.declared.code.Code.TheVariants.{E16}
use Rattle.st_types.specs.declared.st_type.StType.{StType}
use Rattle.st_tree.specs.declared.declaration.ClassDecl.{ClassDecl}
use Rattle.st_tree.specs.declared.declaration.FunctionDecl.{FunctionDecl}
use Rattle.st_tree.specs.declared.declaration.InterfaceDecl.{InterfaceDecl}
use Rattle.st_tree.specs.declared.declaration.Item.{Item}
use Rattle.st_tree.specs.declared.declaration.Member.{Member}
use Rattle.st_tree.specs.declared.declaration.Member.TheVariants as member
use Rattle.st_tree.specs.declared.declaration.Method.{Method}
use Rattle.st_tree.specs.declared.declaration.ProgramDecl.{ProgramDecl}
use Rattle.st_tree.specs.declared.declaration.Section.{Section}
use Rattle.st_tree.specs.declared.declaration.SectionSort.{SectionSort}
use Rattle.st_tree.specs.declared.declaration.SectionSort.TheVariants as sort
use Rattle.st_tree.specs.declared.program.Note.{Note}
use Rattle.st_tree.specs.declared.program.Program.{Program}
use Rattle.st_tree.specs.declared.statement.Stmt.{Stmt}
use Rattle.st_tree.specs.declared.type_spec.TypeSpec.{TypeSpec}
use Rattle.st_tree.specs.declared.unit.Decl.{Decl}
use Rattle.st_tree.specs.declared.unit.Decl.TheVariants as declaration
use Rattle.st_rules.specs.declared.names.DeclaredVariable.{DeclaredVariable}
use Rattle.st_rules.specs.Classes.{classes_in, methods_in}
use Rattle.st_rules.specs.Expressions.{told}
use Rattle.st_rules.specs.Scope.{Scope, is_external}
use Rattle.st_rules.proofs.Booleans.{some-same}
use Rattle.st_unit_rules.specs.declared_names.Declarations.{Declaration, an_entry, a_global, an_interface, a_class, a_function, a_program, a_configuration, Placed, declarations, declarations_of, globals_of_section, configuration_globals, placed, functions_in}
use Rattle.st_unit_rules.specs.declared_names.UnitNames.{unit_names, unit_scope, outer_scope, function_scope, method_scope, locals_of}
use Rattle.st_unit_rules.specs.declared_names.Variables.{Written, item_written, section_written, sections_written, declares_constants, routine_locals, result_declared, locals_declared, result_count, is_parameter_written}
use Rattle.st_unit_rules.specs.declared_names.WrittenTypes.{type_written}
use Rattle.st_unit_rules.specs.Checked.{Each, IfThere, TypedSpec, TypedSection, TypedMember, TypedMethod, TypedFunction, TypedClass, IsChecked}
use Rattle.st_unit_rules.specs.DeclarationRules.{items_in, is_local, item_too_deep, result_too_deep, parameter_limits, local_limits, routine_faults}
use Rattle.st_unit_rules.specs.Limits as limits
use Rattle.st_unit_rules.specs.Limits.{sum_of, variable_values, all_values, variable_too_deep}
use Rattle.st_unit_rules.specs.UnitRefusal.{BreaksNothing}
use Rattle.st_unit_rules.specs.VariableRules.{of_routine}
use Rattle.st_values.specs.Program as seen
use Rattle.st_values.specs.Program.{Variable, Routine, a_program, Class, class_at}
use Rattle.st_values.specs.Shape.{Shape, shape_of}
use Rattle.st_values.specs.View.{kind_of, those, negated, is_parameter, variables_in, result_of, function_of, method_of, class_of, classes_from, programs_from, program_of}
use Rattle.st_values.proofs.ShapeLaws.{mapped_some}
use Rattle.st_meaning.specs.Call.{is_in_out}
use Rattle.st_meaning.specs.st_frame.Footprint.{Has}
use Rattle.resolution_order.specs.told_laws.ToldLaws.{Every}
use Rattle.resolution_order.proofs.told_laws.LocalTelling.{local_laws}
use Rattle.accepted_texts.proofs.unfolding_laws.ListLaws.{every_append, every_back, every_at, every_from, every_one, every_means, every_mapped, every_joined, every_passing, if_found, each_get, from_get}
use Rattle.accepted_texts.proofs.unfolding_laws.CycleLaws.{none_in, none_of_each, not_when, variable_not_deep, all_placed}
use Rattle.accepted_texts.proofs.unfolding_laws.ViewLaws.{kind_shown}
use Rattle.accepted_texts.proofs.unfolding_laws.DeclaredLaws.{scope}
use Rattle.accepted_texts.specs.told_units.Told.{IsToldVariable, WrittenIn, in_function, in_method, AllIsTold}
use Rattle.accepted_texts.proofs.told_units.Inner.{AreRows, locals-rows}
use Rattle.accepted_texts.proofs.told_units.Law.{function-rules, method-rules}
use Rattle.accepted_texts.specs.sized_units.Locals.{shape_values, local_values, values_of_locals}
use Rattle.accepted_texts.proofs.sized_units.Counted.{counted}
use Rattle.accepted_texts.proofs.sized_units.Depths.{Counts, counts, few_dimensions}
use Rattle.accepted_texts.proofs.sized_units.Kept.{EnumerationsAreFew, keeps}
use Rattle.accepted_texts.proofs.sized_units.Regions.{sum_append}
use Rattle.accepted_texts.proofs.sized_units.Scopes.{elsewhere, all_values_same, counts_there}
use Rattle.accepted_texts.proofs.sized_units.Sound.{Sound, ToldSound, written_sound, unit_sound}
use Rattle.accepted_texts.proofs.sized_units.Told.{parts_are_told}
use Rattle.accepted_texts.proofs.sized_units.Variables.{IsOf, is_variable, no_items, all_of}

either_small : (a b : Bool) (x y : ℕ) → a ≡ b → x ≤ y → (if a then 1 else x) ≤ (if b then 1 else y)
either_small true true x y e h = omega arith
either_small false false x y e h = h
either_small true false x y e h = cc
either_small false true x y e h = cc

pub in_out_same : (s : Scope) (so : SectionSort) → is_in_out so ≡ limits.is_in_out s so
in_out_same s sort.InOut = refl
in_out_same s sort.Var = refl
in_out_same s sort.Input = refl
in_out_same s sort.Output = refl
in_out_same s sort.Temp = refl
in_out_same s sort.Global = refl
in_out_same s sort.External = refl

pub all_values_append : (s : Scope) (xs ys : List DeclaredVariable) → all_values s (xs ++ ys) ≡ all_values s xs + all_values s ys
all_values_append s xs ys = ap (sum_of s) (map-append (variable_values s) xs ys) ∙ sum_append s (map (variable_values s) xs) (map (variable_values s) ys)

module _ (p : seen.Program) where
  pub locals_append : (xs ys : List Variable) → values_of_locals p (xs ++ ys) ≡ values_of_locals p xs + values_of_locals p ys
  locals_append [] ys = omega arith
  locals_append (x ∷ xs) ys = let k = locals_append xs ys in omega (arith, k)

  -- those of some sorts, and the others
  locals_split : (test : SectionSort → Bool) (vs : List Variable) → values_of_locals p (those test vs) + values_of_locals p (those (negated test) vs) ≡ values_of_locals p vs
  locals_split test [] = omega arith
  locals_split test (v ∷ vs) = by (test v.sort) (locals_split test vs)
    where
      by : (b : Bool) → values_of_locals p (those test vs) + values_of_locals p (those (negated test) vs) ≡ values_of_locals p vs
          → values_of_locals p (if b then v ∷ those test vs else those test vs) + values_of_locals p (if (if b then false else true) then v ∷ those (negated test) vs else those (negated test) vs) ≡ local_values p v + values_of_locals p vs
      by true k = omega (arith, k)
      by false k = omega (arith, k)

module _ (decls : List (Decl ℕ)) (p : Program) (checked : IsChecked decls p) (good : BreaksNothing decls) (all : AllIsTold decls) (few : EnumerationsAreFew decls) where
  abbrev pp : seen.Program
  pp = program_of p

  abbrev unit : Scope
  unit = scope decls []

  module _ (c : Option ℕ) (m : Bool) (ls : List DeclaredVariable) where
    abbrev s : Scope
    s = elsewhere unit c m ls

    -- the type is told and within the limits
    pub record LocalFine (t : TypeSpec ℕ) : Type 0 where
      pub told_there : is_some (type_written s t) ≡ true
      pub counts_all : Counts s (type_written s t)

    abbrev pub WrittenFine : Written → Type 0
    WrittenFine w = LocalFine w.item.kind

    abbrev pub written_values : Written → ℕ
    written_values w = if limits.is_in_out s w.sort then 1 else limits.values_of s (type_written s w.item.kind)

    shape_small : (u k : StType) → Sound decls u → Counts s (Some u) → k ≡ u → shape_values (shape_of pp k) ≤ limits.values_of s (Some u)
    shape_small u k g h e = subst (λ z. shape_values (shape_of pp z) ≤ limits.values_of s (Some u)) (sym e) (by (shape_of pp u) refl)
      where
        by : (o : Option Shape) → shape_of pp u ≡ o → shape_values o ≤ limits.values_of s (Some u)
        by None q = omega arith
        by (Some sh) q =
            let v = (counted unit pp (Sound decls) (keeps decls p checked good (parts_are_told decls all) few []) 65 u sh g q).values in
            let e1 = all_values_same unit c m ls (Some u) in
            let e2 = counts_there unit c m ls (Some u) h u refl in
            omega (arith, v, e1, e2)

    type_small : (t : TypeSpec ℕ) (k : StType) → LocalFine t → k ≡ told (type_written s t) → shape_values (shape_of pp k) ≤ limits.values_of s (type_written s t)
    unfolding told
    type_small t k f e = by (type_written s t) (written_sound decls s t (unit_sound decls)) f.told_there f.counts_all e
      where
        by : (o : Option StType) → ToldSound decls o → is_some o ≡ true → Counts s o → k ≡ told o → shape_values (shape_of pp k) ≤ limits.values_of s o
        by None g i h q = cc
        by (Some u) g i h q = shape_small u k g h q

    one_small : (v : Variable) (w : Written) → IsOf s v w → WrittenFine w → local_values pp v ≤ written_values w
    one_small v w h f = either_small (is_in_out v.sort) (limits.is_in_out s w.sort) _ _ (in_out_same s v.sort ∙ ap (limits.is_in_out s) h.sort) (type_small w.item.kind v.kind f h.kind)

    pub all_small : (vs : List Variable) (ws : List Written) → Each (IsOf s) vs ws → Every WrittenFine ws → values_of_locals pp vs ≤ sum_of s (map written_values ws)
    all_small [] [] h f = omega arith
    all_small [] (w ∷ ws) h f = absurd h
    all_small (v ∷ vs) [] h f = absurd h
    all_small (v ∷ vs) (w ∷ ws) h f = let a = one_small v w h.0 f.0 in let k = all_small vs ws h.1 f.1 in omega (arith, a, k)

    -- ---- what is counted of declared locals

    pub rows_values : (test : Written → Bool) (pass : DeclaredVariable → Bool) → ((w : Written) (v : DeclaredVariable) → v.constant ≡ w.constant → v.sort ≡ w.sort → test w ≡ pass v)
        → (ws : List Written) (vs : List DeclaredVariable) → AreRows s ws vs → sum_of s (map written_values (filter test ws)) ≡ all_values s (filter pass vs)
    rows_values test pass f [] [] r = refl
    rows_values test pass f [] (v ∷ vs) r = absurd r
    rows_values test pass f (w ∷ ws) [] r = absurd r
    rows_values test pass f (w ∷ ws) (v ∷ vs) r = by (test w) (pass v) (f w v (r.0).1 (r.0).4) one (rows_values test pass f ws vs r.1)
      where
        one : written_values w ≡ variable_values s v
        one = ap (λ z. if limits.is_in_out s z then 1 else limits.values_of s (type_written s w.item.kind)) (sym (r.0).4) ∙ ap (λ o. if limits.is_in_out s v.sort then 1 else limits.values_of s o) (sym (r.0).2)

        by : (a b : Bool) → a ≡ b → written_values w ≡ variable_values s v → sum_of s (map written_values (filter test ws)) ≡ all_values s (filter pass vs)
            → sum_of s (map written_values (if a then w ∷ filter test ws else filter test ws)) ≡ all_values s (if b then v ∷ filter pass vs else filter pass vs)
        by true true e i k = omega (arith, i, k)
        by false false e i k = k
        by true false e i k = cc
        by false true e i k = cc

    pub rows_told : (ws : List Written) (vs : List DeclaredVariable) → AreRows s ws vs → Every IsToldVariable vs → Every (λ (w : Written). is_some (type_written s w.item.kind) ≡ true) ws
    rows_told [] [] r h = tt
    rows_told [] (v ∷ vs) r h = absurd r
    rows_told (w ∷ ws) [] r h = absurd r
    rows_told (w ∷ ws) (v ∷ vs) r h = (sym (ap is_some (r.0).2) ∙ (h.0).0, rows_told ws vs r.1 h.1)

    -- ---- what is within the limits

    pub type_counts : (line : ℕ) (t : TypeSpec ℕ) → variable_too_deep s (declarations decls) 64 line t ≡ [] → Counts s (type_written s t)
    type_counts line t h = counts s (type_written s t) (few_dimensions s decls good line t h) (variable_not_deep decls good s 64 line t h)

    abbrev pub CountsWritten : Written → Type 0
    CountsWritten w = Counts s (type_written s w.item.kind)

    item_counts : (x : Section ℕ) (items : List (Item ℕ)) → flat_map (item_too_deep decls s) items ≡ [] → Every CountsWritten (flat_map (item_written x) items)
    item_counts x items h =
        every_joined CountsWritten (item_written x) items
        (every_means (λ item. item_too_deep decls s item ≡ []) (λ item. Every CountsWritten (item_written x item))
        (λ item e. every_mapped CountsWritten _ item.names (every_one _ (λ n. type_counts _ item.kind e) item.names)) items (none_of_each (item_too_deep decls s) items h))

    abbrev inside : Section ℕ → Bool
    inside x = not (is_external x.sort)

    sections_count : (ss : List (Section ℕ)) → flat_map (item_too_deep decls s) (items_in (filter inside ss)) ≡ [] → Every CountsWritten (filter is_variable (sections_written ss))
    sections_count [] h = tt
    sections_count (x ∷ ss) h = subst (Every CountsWritten) (sym (filter-append is_variable (section_written x) (sections_written ss))) (by (inside x) refl (sections_count ss) h)
      where
        none : (b : Bool) → (b && false) ≡ false
        none true = refl
        none false = refl

        by : (b : Bool) → inside x ≡ b → (flat_map (item_too_deep decls s) (items_in (filter inside ss)) ≡ [] → Every CountsWritten (filter is_variable (sections_written ss)))
            → flat_map (item_too_deep decls s) (items_in (if b then x ∷ filter inside ss else filter inside ss)) ≡ [] → Every CountsWritten (filter is_variable (section_written x) ++ filter is_variable (sections_written ss))
        by false e f k =
            let q = no_items s x (ap (λ z. not (declares_constants x) && z) e ∙ none (not (declares_constants x))) x.items in
            subst (λ us. Every CountsWritten (us ++ filter is_variable (sections_written ss))) (sym q) (f k)
        by true e f k =
            let n = none_in (flat_map (item_too_deep decls s) x.items) (flat_map (item_too_deep decls s) (items_in (filter inside ss))) (sym (flat_map-append (item_too_deep decls s) x.items (items_in (filter inside ss))) ∙ k) in
            every_append CountsWritten (filter is_variable (section_written x)) (filter is_variable (sections_written ss))
            (every_passing CountsWritten is_variable (section_written x) (every_means CountsWritten (λ w. is_variable w ≡ true → CountsWritten w) (λ w i q. i) (section_written x) (item_counts x x.items n.0)))
            (f n.1)

    pub both_fine : (us : List Written) → Every (λ (w : Written). is_some (type_written s w.item.kind) ≡ true) us → Every CountsWritten us → Every WrittenFine us
    both_fine [] h k = tt
    both_fine (w ∷ us) h k = (record { told_there = h.0; counts_all = k.0 }, both_fine us h.1 k.1)

    -- ---- a routine

    result_small : (name other : List ℕ) (o : Option (TypeSpec ℕ)) (q : Option (TypeSpec Note)) → IfThere (TypedSpec s) o q → ((t : TypeSpec ℕ) → o ≡ Some t → LocalFine t) → values_of_locals pp (result_of name q) ≤ all_values s (filter is_local (result_declared s other o))
    result_small name other None None h f = omega arith
    result_small name other None (Some u) h f = absurd h
    result_small name other (Some t) None h f = absurd h
    result_small name other (Some t) (Some u) h f =
        let k = type_small t (kind_of u) (f t refl) (kind_shown s t u h) in
        let left : values_of_locals pp (result_of name (Some u)) ≡ shape_values (shape_of pp (kind_of u)) + 0 = refl in
        let right : all_values s (filter is_local (result_declared s other (Some t))) ≡ limits.values_of s (type_written s t) + 0 = refl in
        omega (arith, k, left, right)

    same_tests : (w : Written) (v : DeclaredVariable) → v.constant ≡ w.constant → v.sort ≡ w.sort → is_variable w ≡ is_local v
    same_tests w v a b = ap (λ z. not z && not (is_external w.sort)) (sym a) ∙ ap (λ z. not v.constant && not (is_external z)) (sym b)

    routine_small : (line : ℕ) (name other : List ℕ) (result : Option (TypeSpec ℕ)) (shown : Option (TypeSpec Note)) (ss : List (Section ℕ)) (ys : List (Section Note)) → routine_locals s other result ss ≡ ls → Every IsToldVariable ls
        → ((t : TypeSpec ℕ) → result ≡ Some t → is_some (type_written s t) ≡ true) → parameter_limits decls s line result ss ≡ [] → local_limits decls s line ≡ [] → IfThere (TypedSpec s) result shown → Each (TypedSection s) ss ys
        → values_of_locals pp (result_of name shown ++ (those is_parameter (variables_in ys) ++ those (negated is_parameter) (variables_in ys))) ≤ 1024
    unfolding routine_locals
    routine_small line name other result shown ss ys settled told_all outcome deep most typed sections =
        let vs = variables_in ys in
        let ws = sections_written ss in
        let first = result_declared s other result in
        let rest = locals_declared s result ss in
        let rows = locals-rows s (result_count s result) (result_count s result + length (filter is_parameter_written ws)) ws in
        let both_told : Every IsToldVariable (first ++ rest) = subst (Every IsToldVariable) (sym settled) told_all in
        let told_ws = rows_told ws rest rows (every_back IsToldVariable first rest both_told) in
        let but_result = none_in _ (result_too_deep decls s line result) deep in
        let items = none_in _ (flat_map (item_too_deep decls s) (items_in (filter inside ss))) but_result.0 in
        let counted_ws = sections_count ss items.1 in
        let fine = both_fine (filter is_variable ws) (every_passing (λ (w : Written). is_some (type_written s w.item.kind) ≡ true) is_variable ws (every_means (λ (w : Written). is_some (type_written s w.item.kind) ≡ true) (λ (w : Written). is_variable w ≡ true → is_some (type_written s w.item.kind) ≡ true) (λ w i q. i) ws told_ws)) counted_ws in
        let a = all_small vs (filter is_variable ws) (all_of s ss ys sections) fine in
        let b = rows_values is_variable is_local same_tests ws rest rows in
        let r = result_small name other result shown typed (λ t e. record { told_there = outcome t e; counts_all = type_counts line t (result_deep result t e but_result.1) }) in
        let sum = ap (λ us. all_values s (filter is_local us)) (sym settled) ∙ (ap (all_values s) (filter-append is_local first rest) ∙ all_values_append s (filter is_local first) (filter is_local rest)) in
        let bound = ltb-false 1024 (all_values s (filter is_local ls)) (not_when (nat_lt 1024 (all_values s (filter is_local ls))) E16 line most) in
        let d = locals_append pp (result_of name shown) (those is_parameter vs ++ those (negated is_parameter) vs) in
        let e = locals_append pp (those is_parameter vs) (those (negated is_parameter) vs) in
        let f = locals_split pp is_parameter vs in
        omega (arith, a, b, r, sum, bound, d, e, f)
      where
        result_deep : (o : Option (TypeSpec ℕ)) (t : TypeSpec ℕ) → o ≡ Some t → result_too_deep decls s line o ≡ [] → variable_too_deep s (declarations decls) 64 line t ≡ []
        result_deep None t e h = cc
        result_deep (Some u) t e h = subst (λ z. variable_too_deep s (declarations decls) 64 line z ≡ []) (some-same e) h

  -- ---- functions

  record FunctionAt (f : FunctionDecl ℕ) : Type 0 where
    place : ℕ
    placed_there : Placed
    at_place : slice_get (placed decls) place ≡ Some placed_there
    is_function : placed_there.declaration ≡ a_function f

  abbrev OfFunction : Declaration → Type 0
  OfFunction (a_function f) = FunctionAt f
  OfFunction _ = Unit {0}

  function_place : (i : ℕ) (x : Placed) (d : Declaration) → slice_get (placed decls) i ≡ Some x → x.declaration ≡ d → OfFunction d
  function_place i x (a_function f) e q = record { place = i; placed_there = x; at_place = e; is_function = q }
  function_place i x (an_entry t) e q = tt
  function_place i x (a_global g) e q = tt
  function_place i x (an_interface d) e q = tt
  function_place i x (a_class d) e q = tt
  function_place i x (a_program d) e q = tt
  function_place i x (a_configuration d) e q = tt

  functions_from : (ds : List (Decl ℕ)) → Every OfFunction (flat_map declarations_of ds) → Every FunctionAt (functions_in ds)
  functions_from [] h = tt
  functions_from (declaration.Function f ∷ ds) h = (h.0, functions_from ds h.1)
  functions_from (declaration.Types l ts ∷ ds) h = functions_from ds (every_back OfFunction (map an_entry ts) (flat_map declarations_of ds) h)
  functions_from (declaration.Globals x ∷ ds) h = functions_from ds (every_back OfFunction (globals_of_section x) (flat_map declarations_of ds) h)
  functions_from (declaration.Interface d ∷ ds) h = functions_from ds h.1
  functions_from (declaration.Class d ∷ ds) h = functions_from ds h.1
  functions_from (declaration.Program d ∷ ds) h = functions_from ds h.1
  functions_from (declaration.Configuration c ∷ ds) h = functions_from ds (every_back OfFunction (flat_map globals_of_section (configuration_globals c)) (flat_map declarations_of ds) h.1)

  functions_at : Every FunctionAt (functions_in decls)
  unfolding declarations
  functions_at =
      functions_from decls
      (subst (Every OfFunction) (all_placed decls)
      (every_mapped OfFunction (λ (x : Placed). x.declaration) (placed decls) (every_from (λ (x : Placed). OfFunction x.declaration) (placed decls) (λ i x e. function_place i x x.declaration e refl))))

  -- what the rules of a routine say of its limits
  record Limited (z : Scope) (line : ℕ) (result : Option (TypeSpec ℕ)) (ss : List (Section ℕ)) : Type 0 where
    depths : parameter_limits decls z line result ss ≡ []
    number : local_limits decls z line ≡ []

  limited : (z : Scope) (line : ℕ) (name : List ℕ) (result : Option (TypeSpec ℕ)) (ss : List (Section ℕ)) (text : List (Stmt ℕ)) → routine_faults decls z of_routine line name result ss text ≡ [] → Limited z line result ss
  limited z line name result ss text h =
      let but_body = none_in _ _ h in
      let number = none_in _ (local_limits decls z line) but_body.0 in
      let depths = none_in _ (parameter_limits decls z line result ss) number.0 in
      record { depths = depths.1; number = number.1 }

  function_small : (f : FunctionDecl ℕ) (y : FunctionDecl Note) → FunctionAt f → TypedFunction decls f y → values_of_locals pp (function_of y).locals ≤ 1024
  unfolding function_scope
  function_small f y at typed =
      let outer = unit_scope decls (unit_names decls) in
      let own = locals_of outer f.name.text f.result f.sections in
      let rules = function-rules decls good at.place at.placed_there f at.at_place at.is_function in
      let limit = limited (function_scope decls (unit_names decls) f) f.line f.name.text f.result f.sections f.body (none_in _ (routine_faults decls (function_scope decls (unit_names decls) f) of_routine f.line f.name.text f.result f.sections f.body) rules).1 in
      let written = in_function at.place at.placed_there f at.at_place at.is_function in
      routine_small None false own f.line y.name.text f.name.text f.result y.result f.sections y.sections
      (local_laws.routine outer f.name.text f.result f.sections).settled
      (all.locals (function_scope decls (unit_names decls) f) f.result f.sections written)
      (λ t e. all.outcomes (function_scope decls (unit_names decls) f) t f.sections (subst (λ o. WrittenIn decls (function_scope decls (unit_names decls) f) o f.sections) e written))
      limit.depths limit.number typed.result typed.sections

  pub functions_small : (k : ℕ) (r : Routine) → slice_get pp.functions k ≡ Some r → values_of_locals pp r.locals ≤ 1024
  functions_small k r e =
      let y = mapped_some function_of (slice_get p.functions k) r (sym (slice_get-map function_of p.functions k) ∙ e) in
      let f = if_found (TypedFunction decls) (slice_get (functions_in decls) k) (slice_get p.functions k) y.0 y.1 (each_get (TypedFunction decls) (functions_in decls) p.functions k checked.functions) in
      subst (λ (z : Routine). values_of_locals pp z.locals ≤ 1024) y.2 (function_small f.0 y.0 (every_at FunctionAt (functions_in decls) k f.0 functions_at f.1) f.2)

  -- ---- methods

  method_small : (c j : ℕ) (d : ClassDecl ℕ) (m : Method ℕ) (y : Method Note) → slice_get (classes_in decls) c ≡ Some d → slice_get (methods_in d.members) j ≡ Some m → TypedMethod decls c m y → values_of_locals pp (method_of c y).locals ≤ 1024
  unfolding method_scope
  method_small c j d m y e f typed =
      let outer = outer_scope decls (unit_names decls) (Some c) in
      let own = locals_of outer m.name.text m.result m.sections in
      let rules = method-rules decls good c d j m e f in
      let limit = limited (method_scope decls (unit_names decls) c m) m.line m.name.text m.result m.sections m.body (none_in _ (routine_faults decls (method_scope decls (unit_names decls) c m) of_routine m.line m.name.text m.result m.sections m.body) rules).1 in
      let written = in_method c d j m e f in
      routine_small (Some c) true own m.line y.name.text m.name.text m.result y.result m.sections y.sections
      (local_laws.routine outer m.name.text m.result m.sections).settled
      (all.locals (method_scope decls (unit_names decls) c m) m.result m.sections written)
      (λ t q. all.outcomes (method_scope decls (unit_names decls) c m) t m.sections (subst (λ o. WrittenIn decls (method_scope decls (unit_names decls) c m) o m.sections) q written))
      limit.depths limit.number typed.result typed.sections

  methods_typed : (c : ℕ) (xs : List (Member ℕ)) (ys : List (Member Note)) → Each (TypedMember decls c) xs ys → Each (TypedMethod decls c) (methods_in xs) (methods_in ys)
  methods_typed c [] [] h = tt
  methods_typed c [] (y ∷ ys) h = absurd h
  methods_typed c (x ∷ xs) [] h = absurd h
  methods_typed c (member.Section x ∷ xs) (member.Section y ∷ ys) h = methods_typed c xs ys h.1
  methods_typed c (member.Method x ∷ xs) (member.Method y ∷ ys) h = (h.0, methods_typed c xs ys h.1)
  methods_typed c (member.Section x ∷ xs) (member.Method y ∷ ys) h = absurd h.0
  methods_typed c (member.Method x ∷ xs) (member.Section y ∷ ys) h = absurd h.0

-- ---- what a class is seen as

has_mapped : {X Y : Type 0} (f : X → Y) (xs : List X) (y : Y) → Has (map f xs) y → (j : ℕ) × (x : X) × (slice_get xs j ≡ Some x) × (f x ≡ y)
has_mapped f [] y h = absurd h
has_mapped f (x ∷ xs) y (inl e) = (0, x, refl, sym e)
has_mapped f (x ∷ xs) y (inr h) = let r = has_mapped f xs y h in (suc r.0, r.1, r.2, r.3)

pub record SeenClass (classes : List (ClassDecl Note)) (interfaces : List (InterfaceDecl Note)) (n : ℕ) (ds : List (ClassDecl Note)) (i : ℕ) (k : Class) : Type 0 where
  pub decl : ClassDecl Note
  pub there : slice_get ds i ≡ Some decl
  pub is : class_of classes interfaces (n + i) decl ≡ k

pub record SeenProgram (k : Class) : Type 0 where
  pub marked : k.sort ≡ a_program
  pub none : k.methods ≡ []

program_seen : (n : ℕ) (ds : List (ProgramDecl Note)) (i : ℕ) (k : Class) → slice_get (programs_from n ds) i ≡ Some k → SeenProgram k
program_seen n [] i k e = cc
program_seen n (d ∷ ds) zero k e = subst SeenProgram (some-same e) (record { marked = refl; none = refl })
program_seen n (d ∷ ds) (suc i) k e = program_seen (suc n) ds i k e

pub class_or_program : (classes : List (ClassDecl Note)) (interfaces : List (InterfaceDecl Note)) (n : ℕ) (ds : List (ClassDecl Note)) (l : ℕ) (ps : List (ProgramDecl Note)) (i : ℕ) (k : Class)
    → slice_get (classes_from classes interfaces n ds ++ programs_from l ps) i ≡ Some k → SeenClass classes interfaces n ds i k ⊎ SeenProgram k
class_or_program classes interfaces n [] l ps i k e = inr (program_seen l ps i k e)
class_or_program classes interfaces n (d ∷ ds) l ps zero k e =
    let z : n + 0 ≡ n = omega arith in
    inl (record { decl = d; there = refl; is = ap (λ j. class_of classes interfaces j d) z ∙ some-same e })
class_or_program classes interfaces n (d ∷ ds) l ps (suc i) k e = elim (class_or_program classes interfaces (suc n) ds l ps i k e) [
  | inl h ↦ let z : n + suc i ≡ suc n + i = omega arith in inl (record { decl = h.decl; there = h.there; is = ap (λ j. class_of classes interfaces j h.decl) z ∙ h.is })
  | inr h ↦ inr h
]

module _ (decls : List (Decl ℕ)) (p : Program) (checked : IsChecked decls p) (good : BreaksNothing decls) (all : AllIsTold decls) (few : EnumerationsAreFew decls) where
  class_methods : (c : ℕ) (k : Class) (r : Routine) → SeenClass p.classes p.interfaces 0 p.classes c k → Has k.methods r → values_of_locals (program_of p) r.locals ≤ 1024
  class_methods c k r h i =
      let z : 0 + c ≡ c = omega arith in
      let d = if_found (TypedClass decls (0 + c)) (slice_get (classes_in decls) c) (slice_get p.classes c) h.decl h.there (from_get (TypedClass decls) 0 (classes_in decls) p.classes c checked.classes) in
      let typed : TypedClass decls c d.0 h.decl = subst (λ n. TypedClass decls n d.0 h.decl) z d.2 in
      let seen_methods : Has (map (method_of c) (methods_in h.decl.members)) r = subst (λ n. Has (map (method_of n) (methods_in h.decl.members)) r) z (subst (λ (y : Class). Has y.methods r) (sym h.is) i) in
      let y = has_mapped (method_of c) (methods_in h.decl.members) r seen_methods in
      let m = if_found (TypedMethod decls c) (slice_get (methods_in d.0.members) y.0) (slice_get (methods_in h.decl.members) y.0) y.1 y.2 (each_get (TypedMethod decls c) (methods_in d.0.members) (methods_in h.decl.members) y.0 (methods_typed decls p checked good all few c d.0.members h.decl.members typed.members)) in
      subst (λ (x : Routine). values_of_locals (program_of p) x.locals ≤ 1024) y.3 (method_small decls p checked good all few c y.0 d.0 m.0 y.1 d.1 m.1 m.2)

  pub methods_small : (c : ℕ) (k : Class) (r : Routine) → class_at (program_of p) c ≡ Some k → Has k.methods r → values_of_locals (program_of p) r.locals ≤ 1024
  methods_small c k r e h = elim (class_or_program p.classes p.interfaces 0 p.classes (length p.classes) p.programs c k e) [
    | inl q ↦ class_methods c k r q h
    | inr q ↦ absurd (subst (λ rs. Has rs r) q.none h)
  ]
