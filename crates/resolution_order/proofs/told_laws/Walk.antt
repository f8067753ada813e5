-- What is told from texts in two scopes is alike where types and constants are. K says how two kinds are alike, T how what two constants
-- mean is, R how two scopes are.
use Rattle.std.proofs.Common.{◌≡◌, ℕ, zero, suc, ◌+◌, Bool, true, false, List, [], ◌∷◌, ◌++◌, map, length, Option, Some, None, refl, ap, ◌∙◌}
use Rattle.std.specs.Prelude.{if◌then◌else◌, ◌&&◌, not, flat_map}
use Rattle.st_types.specs.declared.st_type.StType.{StType}
use Rattle.st_types.specs.declared.st_type.StType.TheVariants as type
use Rattle.st_tree.specs.declared.declaration.ClassDecl.{ClassDecl}
use Rattle.st_tree.specs.declared.declaration.FieldGroup.{FieldGroup}
use Rattle.st_tree.specs.declared.declaration.InterfaceDecl.{InterfaceDecl}
use Rattle.st_tree.specs.declared.declaration.Modifier.{Modifier}
use Rattle.st_tree.specs.declared.declaration.Section.{Section}
use Rattle.st_tree.specs.declared.declaration.TypeBody.{TypeBody}
use Rattle.st_tree.specs.declared.declaration.TypeBody.TheVariants as body
use Rattle.st_tree.specs.declared.declaration.TypeDecl.{TypeDecl}
use Rattle.st_tree.specs.declared.program.Target.{Target}
use Rattle.st_tree.specs.declared.program.Target.TheVariants as target
use Rattle.st_tree.specs.declared.type_spec.TypeSpec.{TypeSpec}
use Rattle.st_tree.specs.declared.unit.Decl.{Decl}
use Rattle.st_tree.specs.declared.unit.Decl.TheVariants as declaration
use Rattle.st_rules.specs.declared.names.DeclaredVariable.{DeclaredVariable}
use Rattle.st_rules.specs.declared.names.DeclaredNames.{DeclaredNames}
use Rattle.st_rules.specs.Classes.{classes_in, methods_in}
use Rattle.st_rules.specs.Interfaces.{interfaces_in}
use Rattle.st_rules.specs.Numbered.{each_numbered}
use Rattle.st_rules.specs.Signatures.{is_parameter_sort}
use Rattle.st_rules.specs.Scope.{Scope, is_instance_sort, is_body_sort}
use Rattle.st_rules.specs.Calls.{is_parameter}
use Rattle.st_unit_rules.specs.declared_names.WrittenTypes.{type_written}
use Rattle.st_unit_rules.specs.declared_names.Variables.{Written, sections_written, sections_in, constant_target, constant_of, declared_with, declared_each, member_targets, local_targets, result_declared, locals_declared, routine_locals}
use Rattle.st_unit_rules.specs.declared_names.Declarations.{configuration_globals, entries_in}
use Rattle.st_unit_rules.specs.declared_names.UnitNames.{forgotten, forgotten_target, told_locals, constants_written, locals_of, result_written, routine_declared, unit_scope, class_scope, entry_kind, entries_declared, types_declared, group_declared, parts_declared, class_declared, method_declared, prototype_declared, interface_declared, variables_declared, region_count, globals_from, names_from}
use Rattle.resolution_order.specs.told_laws.ToldLaws.{Each, Every, AlikeTarget, AlikeVariable, AlikeOutcome, AlikeRoutine, AlikeClass, AlikeType, AlikeField, AlikeParts, AlikeGlobal, Alike, TellsKind}
use Rattle.resolution_order.proofs.told_laws.Lookups.{filter-is}
use Rattle.resolution_order.proofs.told_laws.Tells.{routine-tells, told-tells, locals-of-tell}

pub each-append : {X : Type 0} (R : X → X → Type 0) (xs ys xs' ys' : List X) → Each R xs ys → Each R xs' ys' → Each R (xs ++ xs') (ys ++ ys')
each-append R [] [] xs' ys' h k = k
each-append R (x ∷ xs) (y ∷ ys) xs' ys' h k = (h.0, each-append R xs ys xs' ys' h.1 k)
each-append R [] (y ∷ ys) xs' ys' h k = absurd h
each-append R (x ∷ xs) [] xs' ys' h k = absurd h

pub each-map : {X Y : Type 0} (R : Y → Y → Type 0) (f g : X → Y) → ((x : X) → R (f x) (g x)) → (xs : List X) → Each R (map f xs) (map g xs)
each-map R f g h [] = tt
each-map R f g h (x ∷ xs) = (h x, each-map R f g h xs)

each-flat : {X Y : Type 0} (R : Y → Y → Type 0) (f g : X → List Y) → ((x : X) → Each R (f x) (g x)) → (xs : List X) → Each R (flat_map f xs) (flat_map g xs)
each-flat R f g h [] = tt
each-flat R f g h (x ∷ xs) = each-append R (f x) (g x) (flat_map f xs) (flat_map g xs) (h x) (each-flat R f g h xs)

pick : {X : Type 0} (P : X → X → Type 0) (b : Bool) (x x' y y' : X) → (b ≡ true → P x x') → P y y' → P (if b then x else y) (if b then x' else y')
pick P true x x' y y' f h = f refl
pick P false x x' y y' f h = h

module _
    (K : Option StType → Option StType → Type 0)
    (T : Target → Target → Type 0)
    (R : Scope → Scope → Type 0)
    (same-kind : (o : Option StType) → K o o)
    (same-target : (t : Target) → T t t)
    (kinds : (s t : Scope) → R s t → (x : TypeSpec ℕ) → K (type_written s x) (type_written t x))
    (values : (s t : Scope) → R s t → (w : Written) → T (constant_target (constant_of s w)) (constant_target (constant_of t w)))
    (within : (s t : Scope) (vs ws : List DeclaredVariable) → R s t → Each (AlikeVariable K T) vs ws → Every TellsKind vs → R (record s { locals = vs }) (record t { locals = ws }))
  where
    target-alike : (b : Bool) (t : Target) → AlikeTarget K T b t t
    target-alike true t = same-target t
    target-alike false t = refl

    constant-alike : (b : Bool) (t u : Target) → b ≡ true → T t u → AlikeTarget K T b t u
    constant-alike true t u e h = h
    constant-alike false t u e h = absurd (cc)

    forgotten-meant : (b c : Bool) (t u : Target) → b ≡ c → AlikeTarget K T b t u → AlikeTarget K T b (forgotten_target b t) (forgotten_target c u)
    forgotten-meant true true t u e h = same-target target.Nothing
    forgotten-meant false false t u e h = h
    forgotten-meant true false t u e h = absurd (cc)
    forgotten-meant false true t u e h = absurd (cc)

    forgotten-alike : (vs ws : List DeclaredVariable) → Each (AlikeVariable K T) vs ws → Each (AlikeVariable K T) (map forgotten vs) (map forgotten ws)
    forgotten-alike [] [] h = tt
    forgotten-alike (v ∷ vs) (w ∷ ws) h = (
      record {
        name = (h.0).name;
        sort = (h.0).sort;
        constant = (h.0).constant;
        access = (h.0).access;
        located_input = (h.0).located_input;
        kind = same-kind None;
        meant = forgotten-meant v.constant w.constant v.target w.target (h.0).constant (h.0).meant;
      },
      forgotten-alike vs ws h.1,
    )
    forgotten-alike [] (w ∷ ws) h = absurd h
    forgotten-alike (v ∷ vs) [] h = absurd h

    -- ---- in two scopes

    module _ (s t : Scope) (r : R s t) where
      declared-alike : (w : Written) (x y : Target) → AlikeTarget K T w.constant x y → AlikeVariable K T (declared_with s x w) (declared_with t y w)
      declared-alike w x y h = record { name = refl; sort = refl; constant = refl; access = refl; located_input = refl; kind = kinds s t r w.item.kind; meant = h }

      value-alike : (w : Written) → w.constant ≡ true → AlikeVariable K T (declared_with s (constant_target (constant_of s w)) w) (declared_with t (constant_target (constant_of t w)) w)
      value-alike w e = declared-alike w (constant_target (constant_of s w)) (constant_target (constant_of t w)) (constant-alike w.constant _ _ e (values s t r w))

      plain-alike : (w : Written) (x : Target) → AlikeVariable K T (declared_with s x w) (declared_with t x w)
      plain-alike w x = declared-alike w x x (target-alike w.constant x)

      abbrev Rows : Written → List Written → List Target → List Target → Type 0
      Rows w ws xs ys = Each (AlikeVariable K T) (declared_each s xs (w ∷ ws)) (declared_each t ys (w ∷ ws))

      pub members-alike : (k l : ℕ) (ws : List Written) → Each (AlikeVariable K T) (declared_each s (member_targets s k l ws) ws) (declared_each t (member_targets t k l ws) ws)
      members-alike k l [] = tt
      members-alike k l (w ∷ ws) =
          pick (Rows w ws) w.constant _ _ _ _ (λ e. (value-alike w e, members-alike k l ws))
          (pick (Rows w ws) (is_instance_sort w.sort) _ _ _ _ (λ e. (plain-alike w (target.Variable k), members-alike (suc k) l ws))
          (pick (Rows w ws) (is_body_sort w.sort) _ _ _ _ (λ e. (plain-alike w (target.Local l), members-alike k (suc l) ws))
          (plain-alike w target.Nothing, members-alike k l ws)))

      locals-alike : (p q : ℕ) (ws : List Written) → Each (AlikeVariable K T) (declared_each s (local_targets s p q ws) ws) (declared_each t (local_targets t p q ws) ws)
      locals-alike p q [] = tt
      locals-alike p q (w ∷ ws) =
          pick (Rows w ws) w.constant _ _ _ _ (λ e. (value-alike w e, locals-alike p q ws))
          (pick (Rows w ws) (is_parameter_sort w.sort) _ _ _ _ (λ e. (plain-alike w (target.Local p), locals-alike (suc p) q ws))
          (pick (Rows w ws) (is_instance_sort w.sort) _ _ _ _ (λ e. (plain-alike w (target.Local q), locals-alike p (suc q) ws))
          (pick (Rows w ws) (is_body_sort w.sort) _ _ _ _ (λ e. (plain-alike w (target.Local q), locals-alike p (suc q) ws))
          (plain-alike w target.Nothing, locals-alike p q ws))))

      result-alike : (name : List ℕ) (result : Option (TypeSpec ℕ)) → Each (AlikeVariable K T) (result_declared s name result) (result_declared t name result)
      result-alike name None = tt
      result-alike name (Some x) = (record { name = refl; sort = refl; constant = refl; access = refl; located_input = refl; kind = kinds s t r x; meant = refl }, tt)

      pub routine-alike : (name : List ℕ) (result : Option (TypeSpec ℕ)) (ss : List (Section ℕ)) → Each (AlikeVariable K T) (routine_locals s name result ss) (routine_locals t name result ss)
      unfolding routine_locals
      routine-alike name result ss =
          each-append (AlikeVariable K T) (result_declared s name result) (result_declared t name result) (locals_declared s result ss) (locals_declared t result ss)
          (result-alike name result) (locals-alike _ _ (sections_written ss))

      outcome-alike : (result : Option (TypeSpec ℕ)) → AlikeOutcome K T (result_written s result) (result_written t result)
      outcome-alike None = tt
      outcome-alike (Some x) = kinds s t r x

      told-alike : (gives : Scope → List DeclaredVariable) → ((u v : Scope) → R u v → Each (AlikeVariable K T) (gives u) (gives v)) → ((u : Scope) → Every TellsKind (gives u)) → (k : ℕ)
          → Each (AlikeVariable K T) (told_locals s gives k) (told_locals t gives k)
      told-alike gives alike tells zero = forgotten-alike (gives s) (gives t) (alike s t r)
      told-alike gives alike tells (suc k) =
          alike (record s { locals = told_locals s gives k }) (record t { locals = told_locals t gives k })
          (within s t (told_locals s gives k) (told_locals t gives k) r (told-alike gives alike tells k) (told-tells s gives tells k))

    locals-of-alike : (s t : Scope) → R s t → (name : List ℕ) (result : Option (TypeSpec ℕ)) (ss : List (Section ℕ)) → Each (AlikeVariable K T) (locals_of s name result ss) (locals_of t name result ss)
    unfolding locals_of
    locals-of-alike s t r name result ss =
        told-alike s t r (λ u. routine_locals u name result ss) (λ u v q. routine-alike u v q name result ss) (λ u. routine-tells u name result ss) (suc (length (constants_written ss)))

    parameter-alike : (v w : DeclaredVariable) → AlikeVariable K T v w → is_parameter v ≡ is_parameter w
    parameter-alike v w h = ap (λ x. is_parameter_sort x && not v.constant) h.sort ∙ ap (λ b. is_parameter_sort w.sort && not b) h.constant

    declared-routine : (s t : Scope) → R s t → (name : List ℕ) (modifiers : List Modifier) (result : Option (TypeSpec ℕ)) (ss : List (Section ℕ))
        → AlikeRoutine K T (routine_declared s name modifiers result ss) (routine_declared t name modifiers result ss)
    declared-routine s t r name modifiers result ss = record {
      name = refl;
      access = refl;
      abstract_method = refl;
      outcome = outcome-alike (record s { locals = locals_of s name result ss }) (record t { locals = locals_of t name result ss }) (within s t (locals_of s name result ss) (locals_of t name result ss) r (locals-of-alike s t r name result ss) (locals-of-tell s name result ss)) result;
      parameters = filter-is (AlikeVariable K T) is_parameter parameter-alike (locals_of s name result ss) (locals_of t name result ss) (locals-of-alike s t r name result ss);
    }

    -- ---- all names

    module _ (decls : List (Decl ℕ)) (a b : DeclaredNames)
        (at : (c : Option ℕ) (m : Bool) → R (record (unit_scope decls a) { class = c; in_method = m }) (record (unit_scope decls b) { class = c; in_method = m }))
      where
        entry-alike : (n : ℕ) (x : TypeBody ℕ) → K (entry_kind decls a n x) (entry_kind decls b n x)
        entry-alike n (body.Alias t) = kinds (unit_scope decls a) (unit_scope decls b) (at None false) t
        entry-alike n (body.Enumeration ns) = same-kind (Some (type.Enumeration n))
        entry-alike n (body.Structure gs) = same-kind (Some (type.Structure n))

        entries-alike : (n : ℕ) (ts : List (TypeDecl ℕ)) → Each (AlikeType K T) (entries_declared decls a n ts) (entries_declared decls b n ts)
        entries-alike n [] = tt
        entries-alike n (t ∷ ts) = (record { name = refl; kind = entry-alike n t.body }, entries-alike (suc n) ts)

        types-alike : (n c i : ℕ) (ds : List (Decl ℕ)) → Each (AlikeType K T) (types_declared decls a n c i ds) (types_declared decls b n c i ds)
        types-alike n c i [] = tt
        types-alike n c i (declaration.Types l ts ∷ ds) =
            each-append (AlikeType K T) (entries_declared decls a n ts) (entries_declared decls b n ts) (types_declared decls a (n + length ts) c i ds) (types_declared decls b (n + length ts) c i ds)
            (entries-alike n ts) (types-alike (n + length ts) c i ds)
        types-alike n c i (declaration.Class d ∷ ds) = (record { name = refl; kind = same-kind (Some (type.Instance c)) }, types-alike n (suc c) i ds)
        types-alike n c i (declaration.Interface d ∷ ds) = (record { name = refl; kind = same-kind (Some (type.Interface i)) }, types-alike n c (suc i) ds)
        types-alike n c i (d ∷ ds) = types-alike n c i ds

        group-alike : (g : FieldGroup ℕ) → Each (AlikeField K T) (group_declared decls a g) (group_declared decls b g)
        group-alike g = each-map (AlikeField K T) _ _ (λ n. record { name = refl; kind = kinds (unit_scope decls a) (unit_scope decls b) (at None false) g.kind }) g.names

        parts-alike : (x : TypeBody ℕ) → AlikeParts K T (parts_declared decls a x) (parts_declared decls b x)
        parts-alike (body.Alias t) = tt
        parts-alike (body.Enumeration ns) = refl
        parts-alike (body.Structure gs) = each-flat (AlikeField K T) (group_declared decls a) (group_declared decls b) group-alike gs

        class-alike : (c : ℕ) (d : ClassDecl ℕ) → AlikeClass K T (class_declared decls a c d) (class_declared decls b c d)
        class-alike c d = record {
          sort = refl;
          variables = members-alike (class_scope decls a c) (class_scope decls b c) (at (Some c) false) _ _ (sections_written (sections_in d.members));
          methods = each-map (AlikeRoutine K T) (method_declared decls a c) (method_declared decls b c) (λ m. declared-routine _ _ (at (Some c) true) m.name.text m.modifiers m.result m.sections) (methods_in d.members);
        }

        classes-alike : (c : ℕ) (ds : List (ClassDecl ℕ)) → Each (AlikeClass K T) (each_numbered (λ c d. class_declared decls a c d ∷ []) c ds) (each_numbered (λ c d. class_declared decls b c d ∷ []) c ds)
        classes-alike c [] = tt
        classes-alike c (d ∷ ds) = (class-alike c d, classes-alike (suc c) ds)

        interface-alike : (d : InterfaceDecl ℕ) → Each (AlikeRoutine K T) (interface_declared decls a d) (interface_declared decls b d)
        interface-alike d = each-map (AlikeRoutine K T) (prototype_declared decls a) (prototype_declared decls b) (λ m. declared-routine _ _ (at None false) m.name.text [] m.result m.sections) d.methods

        variables-alike : (r : ℕ) (ws : List Written) → Each (AlikeGlobal K T) (variables_declared decls a r ws) (variables_declared decls b r ws)
        variables-alike r [] = tt
        variables-alike r (w ∷ ws) =
            pick (Each (AlikeGlobal K T)) w.constant _ _ _ _ (λ e. (value-alike (unit_scope decls a) (unit_scope decls b) (at None false) w e, variables-alike r ws))
            (plain-alike (unit_scope decls a) (unit_scope decls b) (at None false) w (target.Region r), variables-alike (suc r) ws)

        globals-alike : (r k : ℕ) (ds : List (Decl ℕ)) → Each (AlikeGlobal K T) (globals_from decls a r k ds) (globals_from decls b r k ds)
        globals-alike r k [] = tt
        globals-alike r k (declaration.Globals s ∷ ds) =
            each-append (AlikeGlobal K T) (variables_declared decls a r (sections_written (s ∷ []))) (variables_declared decls b r (sections_written (s ∷ []))) _ _
            (variables-alike r (sections_written (s ∷ []))) (globals-alike (r + region_count decls a (sections_written (s ∷ []))) k ds)
        globals-alike r k (declaration.Function f ∷ ds) = ((refl, declared-routine _ _ (at None false) f.name.text [] f.result f.sections), globals-alike r (suc k) ds)
        globals-alike r k (declaration.Configuration c ∷ ds) =
            each-append (AlikeGlobal K T) (variables_declared decls a r (sections_written (configuration_globals c))) (variables_declared decls b r (sections_written (configuration_globals c))) _ _
            (variables-alike r (sections_written (configuration_globals c))) (globals-alike (r + (region_count decls a (sections_written (configuration_globals c)) + length c.instances)) k ds)
        globals-alike r k (d ∷ ds) = globals-alike r k ds

        pub names-alike : Alike K T (names_from decls a) (names_from decls b)
        unfolding names_from
        names-alike = record {
          types = types-alike 0 0 0 decls;
          parts = each-map (AlikeParts K T) _ _ (λ t. parts-alike t.body) (entries_in decls);
          classes = classes-alike 0 (classes_in decls);
          interfaces = each-map (Each (AlikeRoutine K T)) (interface_declared decls a) (interface_declared decls b) interface-alike (interfaces_in decls);
          globals = globals-alike 0 0 decls;
        }
