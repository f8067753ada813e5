-- What is told of a unit's names, forgotten again, is the names alone.
use Rattle.std.proofs.Common.{◌≡◌, ℕ, suc, ◌+◌, Bool, true, false, List, [], ◌∷◌, ◌++◌, map, length, Option, Some, None, refl, sym, ap, ◌∙◌, arith}
use Rattle.std.specs.Prelude.{if◌then◌else◌, ◌&&◌, not, filter, flat_map}
use Rattle.st_tree.specs.declared.declaration.ClassDecl.{ClassDecl}
use Rattle.st_tree.specs.declared.declaration.FieldGroup.{FieldGroup}
use Rattle.st_tree.specs.declared.declaration.InterfaceDecl.{InterfaceDecl}
use Rattle.st_tree.specs.declared.declaration.Modifier.{Modifier}
use Rattle.st_tree.specs.declared.declaration.Section.{Section}
use Rattle.st_tree.specs.declared.declaration.SectionSort.{SectionSort}
use Rattle.st_tree.specs.declared.declaration.SectionSort.TheVariants as sort
use Rattle.st_tree.specs.declared.declaration.TypeBody.{TypeBody}
use Rattle.st_tree.specs.declared.declaration.TypeBody.TheVariants as body
use Rattle.st_tree.specs.declared.declaration.TypeDecl.{TypeDecl}
use Rattle.st_tree.specs.declared.program.Target.{Target}
use Rattle.st_tree.specs.declared.program.Target.TheVariants as target
use Rattle.st_tree.specs.declared.type_spec.TypeSpec.{TypeSpec}
use Rattle.st_tree.specs.declared.unit.Decl.{Decl}
use Rattle.st_tree.specs.declared.unit.Decl.TheVariants as declaration
use Rattle.st_rules.specs.declared.names.DeclaredVariable.{DeclaredVariable}
use Rattle.st_rules.specs.declared.names.DeclaredClass.{DeclaredClass}
use Rattle.st_rules.specs.declared.names.DeclaredGlobal.{DeclaredGlobal}
use Rattle.st_rules.specs.declared.names.DeclaredGlobal.TheVariants as global
use Rattle.st_rules.specs.declared.names.TypeParts.TheVariants as parts
use Rattle.st_rules.specs.declared.names.DeclaredNames.{DeclaredNames}
use Rattle.st_rules.specs.Classes.{classes_in, methods_in}
use Rattle.st_rules.specs.Interfaces.{interfaces_in}
use Rattle.st_rules.specs.Modifiers.{method_access, is_abstract}
use Rattle.st_rules.specs.Numbered.{each_numbered}
use Rattle.st_rules.specs.Signatures.{is_parameter_sort}
use Rattle.st_rules.specs.Scope.{Scope, is_instance_sort, is_body_sort}
use Rattle.st_rules.specs.Calls.{is_parameter}
use Rattle.st_unit_rules.specs.declared_names.Variables.{Written, sections_written, sections_in, is_parameter_written, is_kept_written, is_body_written, constant_target, constant_of, declared_with, declared_each, member_targets, local_targets, routine_locals}
use Rattle.st_unit_rules.specs.declared_names.Declarations.{configuration_globals, entries_in}
use Rattle.st_unit_rules.specs.declared_names.UnitNames.{forgotten, forgotten_target, forgotten_outcome, forgotten_routine, forgotten_class, forgotten_type, forgotten_field, forgotten_parts, forgotten_global, forgotten_names, told_locals, constants_written, locals_of, result_written, routine_declared, unit_scope, class_scope, outer_scope, entries_declared, types_declared, group_declared, parts_declared, class_declared, method_declared, prototype_declared, interface_declared, variables_declared, region_count, globals_from, names_from}
use Rattle.declared_symbols.specs.untold_names.Untold.{untold_variable, member_target, number_behind, untold_members, untold_parameters, untold_outcome, first_parameter, untold_routine, untold_method, untold_prototype, untold_type, untold_field, untold_types, untold_group, untold_parts, untold_class, untold_variables, regions_of, untold_globals, declared_above, untold_names, UntoldLaws}

map-append : {X Y : Type 0} (f : X → Y) (xs ys : List X) → map f (xs ++ ys) ≡ map f xs ++ map f ys
map-append f [] ys = refl
map-append f (x ∷ xs) ys = ap (λ zs. f x ∷ zs) (map-append f xs ys)

map-map : {X Y Z : Type 0} (f : Y → Z) (g : X → Y) (h : X → Z) → ((x : X) → f (g x) ≡ h x) → (xs : List X) → map f (map g xs) ≡ map h xs
map-map f g h e [] = refl
map-map f g h e (x ∷ xs) = ap (λ z. z ∷ map f (map g xs)) (e x) ∙ ap (λ zs. h x ∷ zs) (map-map f g h e xs)

both-same : {X : Type 0} (b : Bool) (x x' y y' : X) → (b ≡ true → x ≡ x') → (b ≡ false → y ≡ y') → (if b then x else y) ≡ (if b then x' else y')
both-same true x x' y y' f g = f refl
both-same false x x' y y' f g = g refl

through : {X Y : Type 0} (f : X → Y) (b : Bool) (x y : X) → f (if b then x else y) ≡ (if b then f x else f y)
through f true x y = refl
through f false x y = refl

-- ---- variables

-- numbered by the sort
by_sort : ℕ → ℕ → List Written → List DeclaredVariable
by_sort k l [] = []
by_sort k l (w ∷ ws) =
    if w.constant then untold_variable target.Nothing w ∷ by_sort k l ws
    else if is_instance_sort w.sort then untold_variable (target.Variable k) w ∷ by_sort (suc k) l ws
    else if is_body_sort w.sort then untold_variable (target.Local l) w ∷ by_sort k (suc l) ws
    else untold_variable target.Nothing w ∷ by_sort k l ws

one-sort : (c : Bool) (s : SectionSort) (k l : ℕ) (f : Target → DeclaredVariable) (rest : ℕ → ℕ → List DeclaredVariable)
    → (if c then f target.Nothing ∷ rest k l else if is_instance_sort s then f (target.Variable k) ∷ rest (suc k) l else if is_body_sort s then f (target.Local l) ∷ rest k (suc l) else f target.Nothing ∷ rest k l)
    ≡ (f (if is_instance_sort s && not c then target.Variable k else if is_body_sort s && not c then target.Local l else target.Nothing)
    ∷ rest (number_behind (is_instance_sort s && not c) k) (number_behind (is_body_sort s && not c) l))
one-sort true sort.Var k l f rest = refl
one-sort true sort.Input k l f rest = refl
one-sort true sort.Output k l f rest = refl
one-sort true sort.InOut k l f rest = refl
one-sort true sort.Temp k l f rest = refl
one-sort true sort.External k l f rest = refl
one-sort true sort.Global k l f rest = refl
one-sort false sort.Var k l f rest = refl
one-sort false sort.Input k l f rest = refl
one-sort false sort.Output k l f rest = refl
one-sort false sort.InOut k l f rest = refl
one-sort false sort.Temp k l f rest = refl
one-sort false sort.External k l f rest = refl
one-sort false sort.Global k l f rest = refl

by-sort-is : (k l : ℕ) (ws : List Written) → by_sort k l ws ≡ untold_members k l ws
unfolding by_sort
by-sort-is k l [] = refl
by-sort-is k l (w ∷ ws) =
    one-sort w.constant w.sort k l (λ t. untold_variable t w) (λ m n. by_sort m n ws)
    ∙ ap (λ vs. untold_variable (member_target k l w) w ∷ vs) (by-sort-is (number_behind (is_kept_written w) k) (number_behind (is_body_written w) l) ws)

no-value : (b : Bool) (t : Target) → b ≡ true → forgotten_target b t ≡ target.Nothing
no-value true t e = refl
no-value false t e = absurd (cc)

its-number : (b : Bool) (t : Target) → b ≡ false → forgotten_target b t ≡ t
its-number false t e = refl
its-number true t e = absurd (cc)

module _ (s : Scope) where
  constant-is : (w : Written) (t : Target) → w.constant ≡ true → forgotten (declared_with s t w) ≡ untold_variable target.Nothing w
  constant-is w t e = ap (λ x. untold_variable x w) (no-value w.constant t e)

  variable-is : (w : Written) (t : Target) → w.constant ≡ false → forgotten (declared_with s t w) ≡ untold_variable t w
  variable-is w t e = ap (λ x. untold_variable x w) (its-number w.constant t e)

  Forgets : Written → List Written → List Target → List DeclaredVariable
  Forgets w ws ts = map forgotten (declared_each s ts (w ∷ ws))

  sorted-are : (k l : ℕ) (ws : List Written) → map forgotten (declared_each s (member_targets s k l ws) ws) ≡ by_sort k l ws
  unfolding Forgets by_sort
  sorted-are k l [] = refl
  sorted-are k l (w ∷ ws) =
      through (Forgets w ws) w.constant _ _
      ∙ both-same w.constant _ (untold_variable target.Nothing w ∷ by_sort k l ws) _ _
      (λ e. ap (λ v. v ∷ map forgotten (declared_each s (member_targets s k l ws) ws)) (constant-is w (constant_target (constant_of s w)) e) ∙ ap (λ vs. untold_variable target.Nothing w ∷ vs) (sorted-are k l ws))
      (λ e.
      through (Forgets w ws) (is_instance_sort w.sort) _ _
      ∙ both-same (is_instance_sort w.sort) _ (untold_variable (target.Variable k) w ∷ by_sort (suc k) l ws) _ _
      (λ i. ap (λ v. v ∷ map forgotten (declared_each s (member_targets s (suc k) l ws) ws)) (variable-is w (target.Variable k) e) ∙ ap (λ vs. untold_variable (target.Variable k) w ∷ vs) (sorted-are (suc k) l ws))
      (λ i.
      through (Forgets w ws) (is_body_sort w.sort) _ _
      ∙ both-same (is_body_sort w.sort) _ (untold_variable (target.Local l) w ∷ by_sort k (suc l) ws) _ (untold_variable target.Nothing w ∷ by_sort k l ws)
      (λ b. ap (λ v. v ∷ map forgotten (declared_each s (member_targets s k (suc l) ws) ws)) (variable-is w (target.Local l) e) ∙ ap (λ vs. untold_variable (target.Local l) w ∷ vs) (sorted-are k (suc l) ws))
      (λ b. ap (λ v. v ∷ map forgotten (declared_each s (member_targets s k l ws) ws)) (variable-is w target.Nothing e) ∙ ap (λ vs. untold_variable target.Nothing w ∷ vs) (sorted-are k l ws))))

  members-are : (k l : ℕ) (ws : List Written) → map forgotten (declared_each s (member_targets s k l ws) ws) ≡ untold_members k l ws
  members-are k l ws = sorted-are k l ws ∙ by-sort-is k l ws

  -- ---- parameters

  Given : Written → List Written → List Target → List DeclaredVariable
  Given w ws ts = map forgotten (filter is_parameter (declared_each s ts (w ∷ ws)))

  rest : List Target → List Written → List DeclaredVariable
  rest ts ws = map forgotten (filter is_parameter (declared_each s ts ws))

  passed : (w : Written) (ws : List Written) (t : Target) (ts : List Target) (p : ℕ) → is_parameter_written w ≡ false → rest ts ws ≡ untold_parameters p ws → Given w ws (t ∷ ts) ≡ untold_parameters p (w ∷ ws)
  unfolding Given rest
  passed w ws t ts p e h =
      ap (λ b. map forgotten (if b then declared_with s t w ∷ filter is_parameter (declared_each s ts ws) else filter is_parameter (declared_each s ts ws))) e
      ∙ h
      ∙ sym (ap (λ b. if b then untold_variable (target.Local p) w ∷ untold_parameters (suc p) ws else untold_parameters p ws) e)

  taken : (w : Written) (ws : List Written) (ts : List Target) (p : ℕ) → is_parameter_written w ≡ true → w.constant ≡ false → rest ts ws ≡ untold_parameters (suc p) ws → Given w ws (target.Local p ∷ ts) ≡ untold_parameters p (w ∷ ws)
  unfolding Given rest
  taken w ws ts p e c h =
      ap (λ b. map forgotten (if b then declared_with s (target.Local p) w ∷ filter is_parameter (declared_each s ts ws) else filter is_parameter (declared_each s ts ws))) e
      ∙ ap (λ v. v ∷ map forgotten (filter is_parameter (declared_each s ts ws))) (variable-is w (target.Local p) c)
      ∙ ap (λ vs. untold_variable (target.Local p) w ∷ vs) h
      ∙ sym (ap (λ b. if b then untold_variable (target.Local p) w ∷ untold_parameters (suc p) ws else untold_parameters p ws) e)

  choose : {X Y : Type 0} (f : X → Y) (b : Bool) (x y : X) (z : Y) → (b ≡ true → f x ≡ z) → (b ≡ false → f y ≡ z) → f (if b then x else y) ≡ z
  choose f true x y z h k = h refl
  choose f false x y z h k = k refl

  no-parameter : (b c : Bool) → c ≡ true → (b && not c) ≡ false
  no-parameter true true e = refl
  no-parameter false c e = refl
  no-parameter true false e = absurd (cc)

  pub parameters-are : (p q : ℕ) (ws : List Written) → map forgotten (filter is_parameter (declared_each s (local_targets s p q ws) ws)) ≡ untold_parameters p ws
  unfolding Given rest
  parameters-are p q [] = refl
  parameters-are p q (w ∷ ws) =
      choose (Given w ws) w.constant _ _ (untold_parameters p (w ∷ ws))
      (λ e. passed w ws (constant_target (constant_of s w)) (local_targets s p q ws) p (no-parameter (is_parameter_sort w.sort) w.constant e) (parameters-are p q ws))
      (λ e.
      choose (Given w ws) (is_parameter_sort w.sort) _ _ (untold_parameters p (w ∷ ws))
      (λ g. taken w ws (local_targets s (suc p) q ws) p (ap (λ b. b && not w.constant) g ∙ ap (λ b. not b) e) e (parameters-are (suc p) q ws))
      (λ g.
      let none : is_parameter_written w ≡ false = ap (λ b. b && not w.constant) g in
      choose (Given w ws) (is_instance_sort w.sort) _ _ (untold_parameters p (w ∷ ws)) (λ i. passed w ws (target.Local q) (local_targets s p (suc q) ws) p none (parameters-are p (suc q) ws))
      (λ i. choose (Given w ws) (is_body_sort w.sort) _ _ (untold_parameters p (w ∷ ws)) (λ b. passed w ws (target.Local q) (local_targets s p (suc q) ws) p none (parameters-are p (suc q) ws))
      (λ b. passed w ws target.Nothing (local_targets s p q ws) p none (parameters-are p q ws)))))

  locals-are : (name : List ℕ) (result : Option (TypeSpec ℕ)) (ss : List (Section ℕ)) → map forgotten (filter is_parameter (routine_locals s name result ss)) ≡ untold_parameters (first_parameter result) (sections_written ss)
  unfolding routine_locals
  locals-are name None ss = parameters-are 0 _ (sections_written ss)
  locals-are name (Some t) ss = parameters-are 1 _ (sections_written ss)

locals-of-are : (s : Scope) (name : List ℕ) (result : Option (TypeSpec ℕ)) (ss : List (Section ℕ)) → map forgotten (filter is_parameter (locals_of s name result ss)) ≡ untold_parameters (first_parameter result) (sections_written ss)
unfolding locals_of
locals-of-are s name result ss = locals-are (record s { locals = told_locals s (λ t. routine_locals t name result ss) (length (constants_written ss)) }) name result ss

outcome-is : (s : Scope) (result : Option (TypeSpec ℕ)) → forgotten_outcome (result_written s result) ≡ untold_outcome result
outcome-is s None = refl
outcome-is s (Some t) = refl

routine-is : (s : Scope) (name : List ℕ) (modifiers : List Modifier) (result : Option (TypeSpec ℕ)) (ss : List (Section ℕ)) → forgotten_routine (routine_declared s name modifiers result ss) ≡ untold_routine name modifiers result ss
routine-is s name modifiers result ss =
    let o = outcome-is (record s { locals = locals_of s name result ss }) result in
    let p = locals-of-are s name result ss in
    λ i. record { name = name; access = method_access modifiers; abstract_method = is_abstract modifiers; outcome = o i; parameters = p i }

-- ---- all names

module _ (decls : List (Decl ℕ)) (a : DeclaredNames) where
  entries-are : (n : ℕ) (ts : List (TypeDecl ℕ)) → map forgotten_type (entries_declared decls a n ts) ≡ map (λ t. untold_type t.name) ts
  entries-are n [] = refl
  entries-are n (t ∷ ts) = ap (λ xs. untold_type t.name ∷ xs) (entries-are (suc n) ts)

  types-are : (n c i : ℕ) (ds : List (Decl ℕ)) → map forgotten_type (types_declared decls a n c i ds) ≡ untold_types ds
  types-are n c i [] = refl
  types-are n c i (declaration.Types l ts ∷ ds) =
      map-append forgotten_type (entries_declared decls a n ts) (types_declared decls a (n + length ts) c i ds)
      ∙ ap (λ xs. xs ++ map forgotten_type (types_declared decls a (n + length ts) c i ds)) (entries-are n ts)
      ∙ ap (λ xs. map (λ t. untold_type t.name) ts ++ xs) (types-are (n + length ts) c i ds)
  types-are n c i (declaration.Class d ∷ ds) = ap (λ xs. untold_type d.name ∷ xs) (types-are n (suc c) i ds)
  types-are n c i (declaration.Interface d ∷ ds) = ap (λ xs. untold_type d.name ∷ xs) (types-are n c (suc i) ds)
  types-are n c i (declaration.Globals s ∷ ds) = types-are n c i ds
  types-are n c i (declaration.Function f ∷ ds) = types-are n c i ds
  types-are n c i (declaration.Program p ∷ ds) = types-are n c i ds
  types-are n c i (declaration.Configuration x ∷ ds) = types-are n c i ds

  group-is : (g : FieldGroup ℕ) → map forgotten_field (group_declared decls a g) ≡ untold_group g
  group-is g = map-map forgotten_field _ untold_field (λ n. refl) g.names

  groups-are : (gs : List (FieldGroup ℕ)) → map forgotten_field (flat_map (group_declared decls a) gs) ≡ flat_map untold_group gs
  groups-are [] = refl
  groups-are (g ∷ gs) =
      map-append forgotten_field (group_declared decls a g) (flat_map (group_declared decls a) gs)
      ∙ ap (λ xs. xs ++ map forgotten_field (flat_map (group_declared decls a) gs)) (group-is g)
      ∙ ap (λ xs. untold_group g ++ xs) (groups-are gs)

  parts-are : (b : TypeBody ℕ) → forgotten_parts (parts_declared decls a b) ≡ untold_parts b
  parts-are (body.Alias t) = refl
  parts-are (body.Enumeration ns) = refl
  parts-are (body.Structure gs) = ap parts.Fields (groups-are gs)

  class-is : (c : ℕ) (d : ClassDecl ℕ) → forgotten_class (class_declared decls a c d) ≡ untold_class (length (filter is_kept_written (declared_above decls c))) (length (filter is_body_written (declared_above decls c))) d
  class-is c d =
      let v = members-are (class_scope decls a c) (length (filter is_kept_written (declared_above decls c))) (length (filter is_body_written (declared_above decls c))) (sections_written (sections_in d.members)) in
      let m = map-map forgotten_routine (method_declared decls a c) untold_method (λ m. routine-is (outer_scope decls a (Some c)) m.name.text m.modifiers m.result m.sections) (methods_in d.members) in
      λ i. record { sort = d.sort; variables = v i; methods = m i }

  classes-are : (c : ℕ) (ds : List (ClassDecl ℕ)) → map forgotten_class (each_numbered (λ c d. class_declared decls a c d ∷ []) c ds)
      ≡ each_numbered (λ c d. untold_class (length (filter is_kept_written (declared_above decls c))) (length (filter is_body_written (declared_above decls c))) d ∷ []) c ds
  classes-are c [] = refl
  classes-are c (d ∷ ds) =
      let rest : List DeclaredClass = each_numbered (λ c d. untold_class (length (filter is_kept_written (declared_above decls c))) (length (filter is_body_written (declared_above decls c))) d ∷ []) (suc c) ds in
      ap (λ x. x ∷ map forgotten_class (each_numbered (λ c d. class_declared decls a c d ∷ []) (suc c) ds)) (class-is c d)
      ∙ ap (λ xs. untold_class (length (filter is_kept_written (declared_above decls c))) (length (filter is_body_written (declared_above decls c))) d ∷ xs) (classes-are (suc c) ds)

  interface-is : (d : InterfaceDecl ℕ) → map forgotten_routine (interface_declared decls a d) ≡ map untold_prototype d.methods
  interface-is d = map-map forgotten_routine (prototype_declared decls a) untold_prototype (λ m. routine-is (unit_scope decls a) m.name.text [] m.result m.sections) d.methods

  one-global : (c : Bool) (r : ℕ) (f : Target → DeclaredGlobal) (rest : ℕ → List DeclaredGlobal)
      → (if c then f target.Nothing ∷ rest r else f (target.Region r) ∷ rest (suc r)) ≡ (f (if c then target.Nothing else target.Region r) ∷ rest (number_behind (not c) r))
  one-global true r f rest = refl
  one-global false r f rest = refl

  variables-are : (r : ℕ) (ws : List Written) → map forgotten_global (variables_declared decls a r ws) ≡ untold_variables r ws
  variables-are r [] = refl
  variables-are r (w ∷ ws) =
      through (λ gs. map forgotten_global gs) w.constant _ _
      ∙ both-same w.constant _ (global.Variable (untold_variable target.Nothing w) ∷ untold_variables r ws) _ (global.Variable (untold_variable (target.Region r) w) ∷ untold_variables (suc r) ws)
      (λ e. ap (λ v. global.Variable v ∷ map forgotten_global (variables_declared decls a r ws)) (constant-is (unit_scope decls a) w (constant_target (constant_of (unit_scope decls a) w)) e)
      ∙ ap (λ gs. global.Variable (untold_variable target.Nothing w) ∷ gs) (variables-are r ws))
      (λ e. ap (λ v. global.Variable v ∷ map forgotten_global (variables_declared decls a (suc r) ws)) (variable-is (unit_scope decls a) w (target.Region r) e)
      ∙ ap (λ gs. global.Variable (untold_variable (target.Region r) w) ∷ gs) (variables-are (suc r) ws))
      ∙ one-global w.constant r (λ t. global.Variable (untold_variable t w)) (λ n. untold_variables n ws)

  counted-one : (b : Bool) (r : ℕ) (w : Written) (ws : List Written) (m : ℕ → ℕ) → r + length ws ≡ m r → suc r + length ws ≡ m (suc r)
      → r + length (if (if b then false else true) then w ∷ ws else ws) ≡ m (number_behind (not b) r)
  counted-one true r w ws m h k = h
  counted-one false r w ws m h k = let e : r + suc (length ws) ≡ suc r + length ws = omega arith in e ∙ k

  counted : (r : ℕ) (ws : List Written) → r + region_count decls a ws ≡ regions_of r ws
  counted r [] = omega arith
  counted r (w ∷ ws) = counted-one w.constant r w (filter (λ x. if x.constant then false else true) ws) (λ n. regions_of n ws) (counted r ws) (counted (suc r) ws)

  globals-are : (r k : ℕ) (ds : List (Decl ℕ)) → map forgotten_global (globals_from decls a r k ds) ≡ untold_globals r k ds
  globals-are r k [] = refl
  globals-are r k (declaration.Globals s ∷ ds) =
      let ws = sections_written (s ∷ []) in
      map-append forgotten_global (variables_declared decls a r ws) (globals_from decls a (r + region_count decls a ws) k ds)
      ∙ ap (λ xs. xs ++ map forgotten_global (globals_from decls a (r + region_count decls a ws) k ds)) (variables-are r ws)
      ∙ ap (λ xs. untold_variables r ws ++ xs) (globals-are (r + region_count decls a (sections_written (s ∷ []))) k ds)
      ∙ ap (λ n. untold_variables r ws ++ untold_globals n k ds) (counted r ws)
  globals-are r k (declaration.Function f ∷ ds) =
      ap (λ x. global.Function k x ∷ map forgotten_global (globals_from decls a r (suc k) ds)) (routine-is (unit_scope decls a) f.name.text [] f.result f.sections)
      ∙ ap (λ xs. global.Function k (untold_routine f.name.text [] f.result f.sections) ∷ xs) (globals-are r (suc k) ds)
  globals-are r k (declaration.Configuration c ∷ ds) =
      let ws = sections_written (configuration_globals c) in
      let e : r + (region_count decls a ws + length c.instances) ≡ regions_of r ws + length c.instances = let h : r + region_count decls a ws ≡ regions_of r ws = counted r ws in omega arith in
      map-append forgotten_global (variables_declared decls a r ws) (globals_from decls a (r + (region_count decls a ws + length c.instances)) k ds)
      ∙ ap (λ xs. xs ++ map forgotten_global (globals_from decls a (r + (region_count decls a ws + length c.instances)) k ds)) (variables-are r ws)
      ∙ ap (λ xs. untold_variables r ws ++ xs) (globals-are (r + (region_count decls a (sections_written (configuration_globals c)) + length c.instances)) k ds)
      ∙ ap (λ n. untold_variables r ws ++ untold_globals n k ds) e
  globals-are r k (declaration.Types l ts ∷ ds) = globals-are r k ds
  globals-are r k (declaration.Class d ∷ ds) = globals-are r k ds
  globals-are r k (declaration.Interface d ∷ ds) = globals-are r k ds
  globals-are r k (declaration.Program p ∷ ds) = globals-are r k ds

  names-are : forgotten_names (names_from decls a) ≡ untold_names decls
  unfolding names_from untold_names
  names-are =
      let t = types-are 0 0 0 decls in
      let p = map-map forgotten_parts (λ t. parts_declared decls a t.body) (λ t. untold_parts t.body) (λ t. parts-are t.body) (entries_in decls) in
      let c = classes-are 0 (classes_in decls) in
      let m = map-map (λ ms. map forgotten_routine ms) (interface_declared decls a) (λ d. map untold_prototype d.methods) interface-is (interfaces_in decls) in
      let g = globals-are 0 0 decls in
      λ i. record { types = t i; parts = p i; classes = c i; interfaces = m i; globals = g i }

pub untold_laws : UntoldLaws
untold_laws = record { names = names-are }
