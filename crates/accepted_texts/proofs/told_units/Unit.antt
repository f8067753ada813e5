-- In a unit that breaks no rule, where no declaration lies on a cycle of needs, all types and all global constants are told.
use Rattle.std.proofs.Common.{◌≡◌, ℕ, ◌+◌, Bool, true, false, List, [], ◌∷◌, ◌++◌, map, length, Option, Some, None, refl, sym, ap, ◌∙◌, subst, arith}
use Rattle.std.specs.Prelude.{if◌then◌else◌, flat_map, filter_map, option_map, option_and_then, slice_get}
use Rattle.std.specs.Option.{is_some}
use Rattle.st_tree.specs.declared.declaration.Item.{Item}
use Rattle.st_tree.specs.declared.declaration.Section.{Section}
use Rattle.st_tree.specs.declared.declaration.TypeBody.{TypeBody}
use Rattle.st_tree.specs.declared.declaration.TypeBody.TheVariants as body
use Rattle.st_tree.specs.declared.declaration.TypeDecl.{TypeDecl}
use Rattle.st_tree.specs.declared.program.Target.TheVariants as target
use Rattle.st_tree.specs.declared.type_spec.TypeSpec.{TypeSpec}
use Rattle.st_tree.specs.declared.unit.Decl.{Decl}
use Rattle.st_tree.specs.declared.unit.Decl.TheVariants as declaration
use Rattle.st_tree.specs.Initial.{initial_of}
use Rattle.st_rules.specs.declared.names.DeclaredType.{DeclaredType}
use Rattle.st_rules.specs.declared.names.DeclaredGlobal.{DeclaredGlobal}
use Rattle.st_rules.specs.declared.names.DeclaredGlobal.TheVariants as global
use Rattle.st_rules.specs.declared.names.DeclaredNames.{DeclaredNames}
use Rattle.st_rules.specs.declared.names.DeclaredVariable.{DeclaredVariable}
use Rattle.st_rules.specs.Chains.{is_among, ◌or_else◌}
use Rattle.st_rules.specs.Scope.{Scope, a_function, sought, type_named, first_named, global_name, global_meaning, global_named, enumerator_meaning, only_enumerator}
use Rattle.st_rules.specs.Expressions.{value_target}
use Rattle.st_unit_rules.specs.declared_names.Constants.{is_told, is_constant_meaning}
use Rattle.st_unit_rules.specs.declared_names.Declarations.{Declaration, an_entry, a_global, an_interface, a_class, a_function, a_program, a_configuration, Global, Placed, Region, declarations, declarations_of, globals_of_item, globals_of_section, configuration_globals, item_line, placed}
use Rattle.st_unit_rules.specs.declared_names.UnitNames.{unit_names, unit_scope, entry_kind, names_from}
use Rattle.st_unit_rules.specs.declared_names.Variables.{Written, item_written, constant_target, constant_of, declares_constants}
use Rattle.st_unit_rules.specs.declared_names.WrittenTypes.{type_written, type_faults}
use Rattle.st_unit_rules.specs.Cycles.{types_named, constant_place, type_place, is_type, is_global_or_function, place_from}
use Rattle.st_unit_rules.specs.DeclarationRules.{type_body_faults, global_faults, sort_faults, item_too_deep}
use Rattle.st_unit_rules.specs.NameRules.{space_faults, part_names}
use Rattle.st_unit_rules.specs.UnitRefusal.{BreaksNothing}
use Rattle.st_unit_rules.specs.VariableRules.{of_globals, item_faults, bad_constant, initial_if_given}
use Rattle.resolution_order.specs.told_laws.ToldLaws.{Every, TellsKinds}
use Rattle.resolution_order.proofs.told_laws.Telling.{told_laws}
use Rattle.resolution_order.proofs.told_laws.Tells.{names-tell}
use Rattle.accepted_texts.proofs.unfolding_laws.ListLaws.{every_at, every_front, every_back, every_append, every_one, every_from, every_means, every_mapped, every_flat, every_joined}
use Rattle.accepted_texts.proofs.unfolding_laws.CycleLaws.{none_in, all_placed, none_there}
use Rattle.st_unit_rules.specs.Cycles.{Named, alone, before_dot, before_hash, named_in_bounds, named_in_value, element_names, needed_for, needed_by_type, needed_by_value, needed_by_body, needed, needed_at, needs_itself, own_values}
use Rattle.declared_graph.specs.Private.Known.{constant_if}
use Rattle.declared_graph.proofs.PlaceLaws.{constant_is}
use Rattle.declared_graph.proofs.BoundLaws.{needed_within}
use Rattle.accepted_texts.specs.told_units.Formed.{IsFormedType, IsFormedInitial, IsFormedBody, IsFormedDeclaration}
use Rattle.accepted_texts.specs.told_units.Told.{IsToldName}
use Rattle.accepted_texts.proofs.told_units.Names.{IsToldType, IsToldNamed}
use Rattle.accepted_texts.proofs.told_units.Written.{written-told, constant-told, item-parts, is-there}
use Rattle.accepted_texts.proofs.told_units.Acyclic.{all_of}
use Rattle.accepted_texts.proofs.told_units.Rows.{Row, row-found, added-first, among_front, among_back, by-name, by-needs}
use Rattle.accepted_texts.proofs.told_units.UnitRows.{KindOf, GlobalOf, types-rows, globals-rows}
use Rattle.accepted_texts.proofs.told_units.ScopeLaws.{values-have-types}
use Rattle.accepted_texts.proofs.told_units.TypeLaws.{ValuesHaveTypes}

module _ (decls : List (Decl ℕ)) where
  abbrev pub told_names : DeclaredNames
  told_names = unit_names decls

  abbrev pub unit : Scope
  unit = unit_scope decls (unit_names decls)

  -- ---- what is known of each declaration

  abbrev pub IsGoodGlobal : Global → Type 0
  IsGoodGlobal g = (g.written.item ≡ g.item) × (g.written.constant ≡ declares_constants g.section) × (item_faults unit of_globals g.section g.item ≡ [])

  abbrev pub IsGood : Declaration → Type 0
  IsGood (an_entry t) = type_body_faults decls t.name.text t.body ≡ []
  IsGood (a_global g) = IsGoodGlobal g
  IsGood _ = Unit {0}

  -- ---- what is told of each declaration

  abbrev pub IsToldBody : TypeBody ℕ → Type 0
  IsToldBody (body.Alias t) = is_some (type_written unit t) ≡ true
  IsToldBody _ = Unit {0}

  abbrev pub IsTold : Option Declaration → Type 0
  IsTold (Some (an_entry t)) = IsToldBody t.body
  IsTold (Some (a_global g)) = g.written.constant ≡ true → (is_some (type_written unit g.item.kind) ≡ true) × (is_some (constant_of unit g.written) ≡ true)
  IsTold _ = Unit {0}

  -- ---- the rows of all names

  pub fixed : names_from decls (unit_names decls) ≡ unit_names decls
  fixed = told_laws.settled decls

  type-row : (name : List ℕ) (d : DeclaredType) → type_named name (unit_names decls).types ≡ Some d → Row is_type (λ (t : DeclaredType). t.name) (KindOf decls (unit_names decls)) (declarations decls) 0 name d
  unfolding names_from declarations
  type-row name d e =
      row-found is_type (λ (t : DeclaredType). t.name) (KindOf decls (unit_names decls)) (declarations decls) (names_from decls (unit_names decls)).types 0 name d (types-rows decls (unit_names decls) 0 0 0 decls)
      (ap (λ (n : DeclaredNames). type_named name n.types) fixed ∙ e)

  global-row : (name : List ℕ) (g : DeclaredGlobal) → first_named global_name name (unit_names decls).globals ≡ Some g → Row is_global_or_function global_name (GlobalOf decls (unit_names decls)) (declarations decls) 0 name g
  unfolding names_from declarations
  global-row name g e =
      row-found is_global_or_function global_name (GlobalOf decls (unit_names decls)) (declarations decls) (names_from decls (unit_names decls)).globals 0 name g (globals-rows decls (unit_names decls) 0 0 decls)
      (ap (λ (n : DeclaredNames). first_named global_name name n.globals) fixed ∙ e)

  pub tells : TellsKinds (unit_names decls)
  tells = subst TellsKinds fixed (names-tell decls (unit_names decls))

  pub unit-types : ValuesHaveTypes (unit_scope decls (unit_names decls))
  unit-types = values-have-types (unit_scope decls (unit_names decls)) tells tt

  -- ---- from declarations to names

  abbrev P : ℕ → Type 0
  P k = IsTold (slice_get (declarations decls) k)

  at-place : (k : ℕ) (o : Option Declaration) → slice_get (declarations decls) k ≡ o → IsTold (slice_get (declarations decls) k) → IsTold o
  at-place k o e h = subst IsTold e h

  body-kind : (n : ℕ) (b : TypeBody ℕ) → IsToldBody b → is_some (entry_kind decls (unit_names decls) n b) ≡ true
  body-kind n (body.Alias t) h = h
  body-kind n (body.Enumeration ns) h = refl
  body-kind n (body.Structure gs) h = refl

  pub kind-told : (x : Declaration) (d : DeclaredType) → KindOf decls (unit_names decls) x d → IsTold (Some x) → is_some d.kind ≡ true
  kind-told (an_entry t) d k h = ap is_some k.1 ∙ body-kind k.0 t.body h
  kind-told (a_class c) d k h = k
  kind-told (an_interface c) d k h = k
  kind-told _ d k h = absurd k

  from-zero : (o : Option ℕ) (k : ℕ) → o ≡ Some (0 + k) → o ≡ Some k
  from-zero o k e = let z : 0 + k ≡ k = omega arith in e ∙ ap Some z

  told-type : (name : List ℕ) → ((k : ℕ) → type_place (declarations decls) name ≡ Some k → IsTold (slice_get (declarations decls) k)) → IsToldType (unit_scope decls (unit_names decls)) name
  told-type name h d e =
      let r = type-row name d e in
      kind-told r.declaration d r.row (at-place r.place (Some r.declaration) r.there (h r.place (from-zero _ r.place r.found)))

  pub target-there : (o : Option _) → is_some o ≡ true → is_told (constant_target o) ≡ true
  target-there None h = absurd (cc)
  target-there (Some z) h = refl

  -- what a bare name means in the scope of the unit
  global-told : (name : List ℕ) (x : Declaration) (v : DeclaredVariable) → GlobalOf decls (unit_names decls) x (global.Variable v) → v.constant ≡ true → IsTold (Some x) → is_told (if v.constant then v.target else target.Nothing) ≡ true
  global-told name (a_global g) v k c h =
      let q = sym k.0 ∙ c in
      ap (λ b. is_told (if b then v.target else target.Nothing)) c ∙ ap is_told (k.2 q) ∙ target-there (constant_of unit g.written) (h q).1
  global-told name (an_entry t) v k c h = absurd k
  global-told name (an_interface t) v k c h = absurd k
  global-told name (a_class t) v k c h = absurd k
  global-told name (a_function t) v k c h = absurd k
  global-told name (a_program t) v k c h = absurd k
  global-told name (a_configuration t) v k c h = absurd k

  constant-there : (name : List ℕ) (place : ℕ) (x : Declaration) (v : DeclaredVariable) → GlobalOf decls (unit_names decls) x (global.Variable v) → v.constant ≡ true → slice_get (declarations decls) place ≡ Some x
      → place_from is_global_or_function name 0 (declarations decls) ≡ Some place → constant_place (declarations decls) name ≡ Some place
  constant-there name place (a_global g) v k c t f =
      constant_is (declarations decls) name
      ∙ ap (λ o. option_and_then (λ i. constant_if i (slice_get (declarations decls) i)) o) f
      ∙ ap (constant_if place) t
      ∙ ap (λ b. if b then Some place else None) (sym k.0 ∙ c)
  constant-there name place (an_entry t) v k c e f = absurd k
  constant-there name place (an_interface t) v k c e f = absurd k
  constant-there name place (a_class t) v k c e f = absurd k
  constant-there name place (a_function t) v k c e f = absurd k
  constant-there name place (a_program t) v k c e f = absurd k
  constant-there name place (a_configuration t) v k c e f = absurd k

  enumerated : (xs : List (ℕ × ℕ)) → is_constant_meaning unit (only_enumerator xs) ≡ true → is_told (value_target (only_enumerator xs)) ≡ true
  enumerated [] h = absurd (cc)
  enumerated (x ∷ []) h = refl
  enumerated (x ∷ (y ∷ xs)) h = absurd (cc)

  told-name : (name : List ℕ) → ((k : ℕ) → constant_place (declarations decls) name ≡ Some k → IsTold (slice_get (declarations decls) k)) → IsToldName (unit_scope decls (unit_names decls)) name
  unfolding sought
  told-name name h c = by (first_named global_name name (unit_names decls).globals) refl c
    where
      by : (o : Option DeclaredGlobal) → first_named global_name name (unit_names decls).globals ≡ o → is_constant_meaning unit (option_map global_meaning o or_else enumerator_meaning unit name) ≡ true
          → is_told (value_target (option_map global_meaning o or_else enumerator_meaning unit name)) ≡ true
      by None e m = enumerated _ m
      by (Some (global.Variable v)) e m =
          let r = global-row name (global.Variable v) e in
          global-told name r.declaration v r.row m (at-place r.place (Some r.declaration) r.there (h r.place (constant-there name r.place r.declaration v r.row m r.there (from-zero _ r.place r.found))))
      by (Some (global.Function k r)) e m = absurd (cc)

  -- ---- one declaration whose needs are told

  abbrev ToldFor : List ℕ → Type 0
  ToldFor needs = (k : ℕ) → is_among k needs ≡ true → IsTold (slice_get (declarations decls) k)

  for-type : (name : List ℕ) → ToldFor (types_named (declarations decls) (name ∷ [])) → IsToldType (unit_scope decls (unit_names decls)) name
  for-type name h = told-type name (λ k e. h k (added-first k (type_place (declarations decls) name) [] e))

  for-name : (name : List ℕ) → ToldFor (filter_map (constant_place (declarations decls)) (name ∷ [])) → IsToldName (unit_scope decls (unit_names decls)) name
  for-name name h = told-name name (λ k e. h k (added-first k (constant_place (declarations decls) name) [] e))

  types-told : (names : List (List ℕ)) → ToldFor (types_named (declarations decls) names) → Every (IsToldType (unit_scope decls (unit_names decls))) names
  types-told names h =
      every_means (λ name. (k : ℕ) → type_place (declarations decls) name ≡ Some k → IsTold (slice_get (declarations decls) k)) (IsToldType (unit_scope decls (unit_names decls))) told-type names
      (by-name (λ k. IsTold (slice_get (declarations decls) k)) (type_place (declarations decls)) names h)

  front-told : (xs ys : List ℕ) → ToldFor (xs ++ ys) → ToldFor xs
  front-told xs ys h k m = h k (among_front k xs ys m)

  back-told : (xs ys : List ℕ) → ToldFor (xs ++ ys) → ToldFor ys
  back-told xs ys h k m = h k (among_back k xs ys m)

  named-told : (x : Named) → ToldFor (needed_for (declarations decls) x) → IsToldNamed (unit_scope decls (unit_names decls)) x
  named-told (alone name) h = for-name name h
  named-told (before_dot name) h =
      let a = filter_map (constant_place (declarations decls)) (name ∷ []) in
      let b = types_named (declarations decls) (name ∷ []) in
      (for-name name (front-told a b h), for-type name (back-told a b h))
  named-told (before_hash l name) h = for-type name h

  all-named : (xs : List Named) → ToldFor (flat_map (needed_for (declarations decls)) xs) → Every (IsToldNamed (unit_scope decls (unit_names decls))) xs
  all-named xs h = by-needs (λ k. IsTold (slice_get (declarations decls) k)) (needed_for (declarations decls)) (IsToldNamed (unit_scope decls (unit_names decls))) named-told xs h

  type-step : (t : TypeSpec ℕ) → IsFormedType t → type_faults unit t ≡ [] → ToldFor (needed_by_type (declarations decls) t) → is_some (type_written unit t) ≡ true
  type-step t w f h =
      let a = types_named (declarations decls) (element_names t.element) in
      let b = flat_map (needed_for (declarations decls)) (named_in_bounds t) in
      written-told unit unit-types t w (all-named (named_in_bounds t) (back-told a b h)) (types-told (element_names t.element) (front-told a b h)) f

  body-step : (name : List ℕ) (b : TypeBody ℕ) → IsFormedBody b → type_body_faults decls name b ≡ [] → ToldFor (needed_by_body (declarations decls) b) → IsToldBody b
  body-step name (body.Alias t) w f h = type-step t w (none_in (type_faults unit t) (own_values name t) f).0 h
  body-step name (body.Enumeration ns) w f h = tt
  body-step name (body.Structure gs) w f h = tt

  abbrev Facts : ℕ → Item ℕ → Type 0
  Facts line y =
      (is_some (type_written unit y.kind) ≡ true)
      × IsFormedInitial (option_map initial_of y.initial)
      × Every (IsToldNamed unit) (named_in_value (option_map initial_of y.initial))
      × (bad_constant line (type_written unit y.kind) (option_map initial_of y.initial) ≡ [])
      × (initial_if_given unit (type_written unit y.kind) (option_map initial_of y.initial) ≡ [])

  by-facts : (line : ℕ) (x : Written) → Facts line x.item → is_some (constant_of unit x) ≡ true
  by-facts line x f =
      let t = is-there (type_written unit x.item.kind) f.0 in
      constant-told unit unit-types line x t.0 t.1 f.1 f.2 f.3 f.4

  global-step : (g : Global) → IsGoodGlobal g → IsFormedDeclaration (a_global g) → ToldFor (needed (declarations decls) (Some (a_global g))) → IsTold (Some (a_global g))
  global-step g good w h c =
      let i = option_map initial_of g.item.initial in
      let a = needed_by_type (declarations decls) g.item.kind in
      let b = needed_by_value (declarations decls) i in
      let k : ToldFor (a ++ b) = subst (λ (x : Bool). ToldFor (if x then a ++ b else [])) c h in
      let p = item-parts unit unit-types of_globals g.section g.item good.2 in
      let t = type-step g.item.kind w.0 p.kind (front-told a b k) in
      let v = back-told a b k in
      let d = sym good.1 ∙ c in
      let bad = sym (ap (λ q. if q then bad_constant (item_line g.item) (type_written unit g.item.kind) i else []) d) ∙ p.constant in
      let facts : Facts (item_line g.item) g.item = (t, w.1, all-named (named_in_value i) v, bad, p.initial) in
      (t, by-facts (item_line g.item) g.written (subst (Facts (item_line g.item)) (sym good.0) facts))

  step : (o : Option Declaration) → ((d : Declaration) → o ≡ Some d → IsGood d × IsFormedDeclaration d) → ToldFor (needed (declarations decls) o) → IsTold o
  step None g h = tt
  step (Some (an_entry t)) g h = let q = g (an_entry t) refl in body-step t.name.text t.body q.1 q.0 h
  step (Some (a_global x)) g h = let q = g (a_global x) refl in global-step x q.0 q.1 h
  step (Some (an_interface x)) g h = tt
  step (Some (a_class x)) g h = tt
  step (Some (a_function x)) g h = tt
  step (Some (a_program x)) g h = tt
  step (Some (a_configuration x)) g h = tt

  -- ---- nothing is broken

  module _ (good : BreaksNothing decls) where
    abbrev IsFirstGood : Declaration → Type 0
    IsFirstGood (an_entry t) = type_body_faults decls t.name.text t.body ≡ []
    IsFirstGood (a_global g) = g.first ≡ true → item_faults unit of_globals g.section g.item ≡ []
    IsFirstGood _ = Unit {0}

    first-of : (before : List Region) (g : Global) → global_faults decls before g ≡ [] → g.first ≡ true → item_faults unit of_globals g.section g.item ≡ []
    first-of before g h q =
        let front = none_in _ _ h in
        let own = none_in _ _ front.0 in
        let first : item_faults unit of_globals g.section g.item ++ item_too_deep decls unit g.item ≡ [] = sym (ap (λ b. if b then item_faults unit of_globals g.section g.item ++ item_too_deep decls unit g.item else []) q) ∙ own.1 in
        (none_in (item_faults unit of_globals g.section g.item) (item_too_deep decls unit g.item) first).0

    sort-good : (i : ℕ) (x : Placed) (d : Declaration) → sort_faults decls i x d ≡ [] → IsFirstGood d
    sort-good i x (an_entry t) h = (none_in (space_faults (part_names t.body)) (type_body_faults decls t.name.text t.body) (none_in (space_faults (part_names t.body) ++ type_body_faults decls t.name.text t.body) _ h).0).1
    sort-good i x (a_global g) h = first-of x.regions g h
    sort-good i x _ h = tt

    firsts-good : Every IsFirstGood (declarations decls)
    firsts-good =
        subst (Every IsFirstGood) (all_placed decls)
        (every_mapped IsFirstGood (λ (x : Placed). x.declaration) (placed decls)
        (every_from (λ (x : Placed). IsFirstGood x.declaration) (placed decls) (λ i x e. sort-good i x x.declaration (none_there decls good i x e).1)))

    abbrev IsOf : Section ℕ → Item ℕ → Written → Type 0
    IsOf s item w = (w.item ≡ item) × (w.constant ≡ declares_constants s)

    items-good : (s : Section ℕ) (item : Item ℕ) (b : Bool) (ws : List Written) → Every (IsOf s item) ws → item_faults unit of_globals s item ≡ [] → Every IsGood (globals_of_item s item b ws)
    items-good s item b [] h f = tt
    items-good s item b (w ∷ ws) h f = (((h.0).0, (h.0).1, f), items-good s item false ws h.1 f)

    by-first : (s : Section ℕ) (item : Item ℕ) (ws : List Written) → Every (IsOf s item) ws → Every IsFirstGood (globals_of_item s item true ws) → Every IsGood (globals_of_item s item true ws)
    by-first s item [] h k = tt
    by-first s item (w ∷ ws) h k = items-good s item true (w ∷ ws) h (k.0 refl)

    section-good : (s : Section ℕ) → Every IsFirstGood (globals_of_section s) → Every IsGood (globals_of_section s)
    section-good s h =
        let globals = λ (item : Item ℕ). globals_of_item s item true (item_written s item) in
        every_joined IsGood globals s.items
        (every_means (λ item. Every IsFirstGood (globals item)) (λ item. Every IsGood (globals item))
        (λ item k. by-first s item (item_written s item) (every_mapped (IsOf s item) _ item.names (every_one _ (λ n. (refl, refl)) item.names)) k) s.items
        (every_flat IsFirstGood globals s.items h))

    entries-good : (ts : List (TypeDecl ℕ)) → Every IsFirstGood (map an_entry ts) → Every IsGood (map an_entry ts)
    entries-good [] h = tt
    entries-good (t ∷ ts) h = (h.0, entries-good ts h.1)

    decl-good : (d : Decl ℕ) → Every IsFirstGood (declarations_of d) → Every IsGood (declarations_of d)
    decl-good (declaration.Types l ts) h = entries-good ts h
    decl-good (declaration.Globals s) h = section-good s h
    decl-good (declaration.Interface d) h = (tt, tt)
    decl-good (declaration.Class d) h = (tt, tt)
    decl-good (declaration.Function d) h = (tt, tt)
    decl-good (declaration.Program d) h = (tt, tt)
    decl-good (declaration.Configuration c) h = (
      tt,
      every_joined IsGood globals_of_section (configuration_globals c)
          (every_means (λ s. Every IsFirstGood (globals_of_section s)) (λ s. Every IsGood (globals_of_section s)) section-good (configuration_globals c)
          (every_flat IsFirstGood globals_of_section (configuration_globals c) h.1)),
    )

    decls-good : (ds : List (Decl ℕ)) → Every IsFirstGood (flat_map declarations_of ds) → Every IsGood (flat_map declarations_of ds)
    decls-good [] h = tt
    decls-good (d ∷ ds) h =
        every_append IsGood (declarations_of d) (flat_map declarations_of ds) (decl-good d (every_front IsFirstGood (declarations_of d) (flat_map declarations_of ds) h))
        (decls-good ds (every_back IsFirstGood (declarations_of d) (flat_map declarations_of ds) h))

    pub all-good : Every IsGood (declarations decls)
    unfolding declarations
    all-good = decls-good decls firsts-good

    -- ---- the law: entries of TYPE and global constants

    module _ (well : Every IsFormedDeclaration (declarations decls)) (free : (i : ℕ) → needs_itself (declarations decls) i ≡ false) where
      pub all-told : (i : ℕ) → IsTold (slice_get (declarations decls) i)
      all-told i =
          all_of (needed_at (declarations decls)) (length (declarations decls)) (needed_within (declarations decls)) free (λ k. IsTold (slice_get (declarations decls) k))
          (λ k h. step (slice_get (declarations decls) k) (λ d e. (every_at IsGood (declarations decls) k d all-good e, every_at IsFormedDeclaration (declarations decls) k d well e)) h) i

      -- each type by name, and each constant by name, in the scope of the unit
      pub each-type : (name : List ℕ) → IsToldType (unit_scope decls (unit_names decls)) name
      each-type name = told-type name (λ k e. all-told k)

      pub each-constant : (name : List ℕ) → IsToldName (unit_scope decls (unit_names decls)) name
      each-constant name = told-name name (λ k e. all-told k)

      pub each-global : (name : List ℕ) → is_constant_meaning unit (global_named name (unit_names decls).globals) ≡ true → is_told (value_target (global_named name (unit_names decls).globals)) ≡ true
      each-global name c = by (first_named global_name name (unit_names decls).globals) refl c
        where
          by : (o : Option DeclaredGlobal) → first_named global_name name (unit_names decls).globals ≡ o → is_constant_meaning unit (option_map global_meaning o) ≡ true → is_told (value_target (option_map global_meaning o)) ≡ true
          by None e m = absurd (cc)
          by (Some (global.Variable v)) e m =
              let r = global-row name (global.Variable v) e in
              global-told name r.declaration v r.row m (at-place r.place (Some r.declaration) r.there (all-told r.place))
          by (Some (global.Function k r)) e m = absurd (cc)
