-- The value of a constant is told only with its type, in all that is told from texts.
use Rattle.std.proofs.Common.{◌≡◌, ℕ, zero, suc, ◌+◌, ℤ, Bool, true, false, List, [], ◌∷◌, ◌++◌, map, length, Option, Some, None, refl}
use Rattle.std.specs.Prelude.{option_and_then, if◌then◌else◌}
use Rattle.std.specs.Option.{is_some}
use Rattle.st_types.specs.declared.st_type.StType.{StType}
use Rattle.st_tree.specs.declared.declaration.ClassDecl.{ClassDecl}
use Rattle.st_tree.specs.declared.declaration.Section.{Section}
use Rattle.st_tree.specs.declared.program.Target.{Target}
use Rattle.st_tree.specs.declared.program.Target.TheVariants as target
use Rattle.st_tree.specs.declared.type_spec.TypeSpec.{TypeSpec}
use Rattle.st_tree.specs.declared.unit.Decl.{Decl}
use Rattle.st_tree.specs.declared.unit.Decl.TheVariants as declaration
use Rattle.st_rules.specs.declared.names.DeclaredVariable.{DeclaredVariable}
use Rattle.st_rules.specs.declared.names.DeclaredClass.{DeclaredClass}
use Rattle.st_rules.specs.declared.names.DeclaredGlobal.{DeclaredGlobal}
use Rattle.st_rules.specs.declared.names.DeclaredGlobal.TheVariants as global
use Rattle.st_rules.specs.declared.names.DeclaredNames.{DeclaredNames}
use Rattle.st_rules.specs.Classes.{classes_in}
use Rattle.st_rules.specs.Numbered.{each_numbered}
use Rattle.st_rules.specs.Signatures.{is_parameter_sort}
use Rattle.st_rules.specs.Scope.{Scope, is_instance_sort, is_body_sort}
use Rattle.st_unit_rules.specs.declared_names.Constants.{is_told}
use Rattle.st_unit_rules.specs.declared_names.WrittenTypes.{type_written}
use Rattle.st_unit_rules.specs.declared_names.Variables.{Written, sections_written, sections_in, constant_target, constant_of, declared_with, declared_each, member_targets, local_targets, result_declared, locals_declared, routine_locals}
use Rattle.st_unit_rules.specs.declared_names.Declarations.{configuration_globals}
use Rattle.st_unit_rules.specs.declared_names.UnitNames.{forgotten, forgotten_target, forgotten_class, forgotten_global, constants_written, told_locals, locals_of, unit_scope, class_scope, class_declared, variables_declared, region_count, globals_from, names_from, forgotten_names}
use Rattle.resolution_order.specs.told_laws.ToldLaws.{Every, TellsKind, TellsGlobalKind, TellsKinds}

pub pick : {X : Type 0} (P : X → Type 0) (b : Bool) (x y : X) → (b ≡ true → P x) → (b ≡ false → P y) → P (if b then x else y)
pick P true x y f g = f refl
pick P false x y f g = g refl

pub one-append : {X : Type 0} (P : X → Type 0) (xs ys : List X) → Every P xs → Every P ys → Every P (xs ++ ys)
one-append P [] ys h k = k
one-append P (x ∷ xs) ys h k = (h.0, one-append P xs ys h.1 k)

-- what is written is a value only where the type is told
typed-value : (o : Option StType) (f : StType → Option ℤ) → is_told (constant_target (option_and_then f o)) ≡ true → is_some o ≡ true
typed-value None f h = absurd (cc)
typed-value (Some t) f h = refl

value-tells : (s : Scope) (w : Written) → TellsKind (declared_with s (constant_target (constant_of s w)) w)
value-tells s w c h = typed-value (type_written s w.item.kind) _ h

no-constant : (s : Scope) (w : Written) (t : Target) → w.constant ≡ false → TellsKind (declared_with s t w)
no-constant s w t e c h = absurd (cc)

forgotten-tells : (v : DeclaredVariable) → TellsKind (forgotten v)
forgotten-tells v c h = absurd (none v.constant v.target c h)
  where
    none : (b : Bool) (t : Target) → b ≡ true → is_told (forgotten_target b t) ≡ true → ⊥
    none true t c h = cc
    none false t c h = cc

all-forgotten : (vs : List DeclaredVariable) → Every TellsKind (map forgotten vs)
all-forgotten [] = tt
all-forgotten (v ∷ vs) = (forgotten-tells v, all-forgotten vs)

-- ---- variables of classes and routines

module _ (s : Scope) where
  abbrev Tells : Written → List Written → List Target → Type 0
  Tells w ws ts = Every TellsKind (declared_each s ts (w ∷ ws))

  pub members-tell : (k l : ℕ) (ws : List Written) → Every TellsKind (declared_each s (member_targets s k l ws) ws)
  members-tell k l [] = tt
  members-tell k l (w ∷ ws) =
      pick (Tells w ws) w.constant _ _ (λ e. (value-tells s w, members-tell k l ws)) λ e.
      pick (Tells w ws) (is_instance_sort w.sort) _ _ (λ i. (no-constant s w (target.Variable k) e, members-tell (suc k) l ws)) λ i.
      pick (Tells w ws) (is_body_sort w.sort) _ _ (λ b. (no-constant s w (target.Local l) e, members-tell k (suc l) ws)) λ b.
      (no-constant s w target.Nothing e, members-tell k l ws)

  locals-tell : (p q : ℕ) (ws : List Written) → Every TellsKind (declared_each s (local_targets s p q ws) ws)
  locals-tell p q [] = tt
  locals-tell p q (w ∷ ws) =
      pick (Tells w ws) w.constant _ _ (λ e. (value-tells s w, locals-tell p q ws)) λ e.
      pick (Tells w ws) (is_parameter_sort w.sort) _ _ (λ i. (no-constant s w (target.Local p) e, locals-tell (suc p) q ws)) λ i.
      pick (Tells w ws) (is_instance_sort w.sort) _ _ (λ i. (no-constant s w (target.Local q) e, locals-tell p (suc q) ws)) λ i.
      pick (Tells w ws) (is_body_sort w.sort) _ _ (λ b. (no-constant s w (target.Local q) e, locals-tell p (suc q) ws)) λ b.
      (no-constant s w target.Nothing e, locals-tell p q ws)

  result-tells : (name : List ℕ) (result : Option (TypeSpec ℕ)) → Every TellsKind (result_declared s name result)
  result-tells name None = tt
  result-tells name (Some t) = ((λ c h. absurd (cc)), tt)

  pub routine-tells : (name : List ℕ) (result : Option (TypeSpec ℕ)) (ss : List (Section ℕ)) → Every TellsKind (routine_locals s name result ss)
  unfolding routine_locals
  routine-tells name result ss = one-append TellsKind (result_declared s name result) (locals_declared s result ss) (result-tells name result) (locals-tell _ _ (sections_written ss))

  pub told-tells : (gives : Scope → List DeclaredVariable) → ((t : Scope) → Every TellsKind (gives t)) → (k : ℕ) → Every TellsKind (told_locals s gives k)
  told-tells gives h zero = all-forgotten (gives s)
  told-tells gives h (suc k) = h (record s { locals = told_locals s gives k })

pub locals-of-tell : (s : Scope) (name : List ℕ) (result : Option (TypeSpec ℕ)) (ss : List (Section ℕ)) → Every TellsKind (locals_of s name result ss)
unfolding locals_of
locals-of-tell s name result ss = told-tells s (λ t. routine_locals t name result ss) (λ t. routine-tells t name result ss) (suc (length (constants_written ss)))

-- ---- all names

module _ (decls : List (Decl ℕ)) (a : DeclaredNames) where
  classes-tell : (c : ℕ) (ds : List (ClassDecl ℕ)) → Every (λ c. Every TellsKind c.variables) (each_numbered (λ c d. class_declared decls a c d ∷ []) c ds)
  classes-tell c [] = tt
  classes-tell c (d ∷ ds) = (members-tell (class_scope decls a c) _ _ (sections_written (sections_in d.members)), classes-tell (suc c) ds)

  variables-tell : (r : ℕ) (ws : List Written) → Every TellsGlobalKind (variables_declared decls a r ws)
  variables-tell r [] = tt
  variables-tell r (w ∷ ws) =
      pick (Every TellsGlobalKind) w.constant _ _ (λ e. (value-tells (unit_scope decls a) w, variables-tell r ws)) λ e.
      (no-constant (unit_scope decls a) w (target.Region r) e, variables-tell (suc r) ws)

  globals-tell : (r k : ℕ) (ds : List (Decl ℕ)) → Every TellsGlobalKind (globals_from decls a r k ds)
  globals-tell r k [] = tt
  globals-tell r k (declaration.Globals s ∷ ds) =
      one-append TellsGlobalKind (variables_declared decls a r (sections_written (s ∷ []))) (globals_from decls a (r + region_count decls a (sections_written (s ∷ []))) k ds)
      (variables-tell r (sections_written (s ∷ []))) (globals-tell (r + region_count decls a (sections_written (s ∷ []))) k ds)
  globals-tell r k (declaration.Function f ∷ ds) = (tt, globals-tell r (suc k) ds)
  globals-tell r k (declaration.Configuration c ∷ ds) =
      one-append TellsGlobalKind (variables_declared decls a r (sections_written (configuration_globals c)))
      (globals_from decls a (r + (region_count decls a (sections_written (configuration_globals c)) + length c.instances)) k ds)
      (variables-tell r (sections_written (configuration_globals c))) (globals-tell (r + (region_count decls a (sections_written (configuration_globals c)) + length c.instances)) k ds)
  globals-tell r k (d ∷ ds) = globals-tell r k ds

  pub names-tell : TellsKinds (names_from decls a)
  unfolding names_from
  names-tell = record { classes = classes-tell 0 (classes_in decls); globals = globals-tell 0 0 decls }

forgotten-classes : (cs : List DeclaredClass) → Every (λ c. Every TellsKind c.variables) (map forgotten_class cs)
forgotten-classes [] = tt
forgotten-classes (c ∷ cs) = (all-forgotten c.variables, forgotten-classes cs)

forgotten-globals : (gs : List DeclaredGlobal) → Every TellsGlobalKind (map forgotten_global gs)
forgotten-globals [] = tt
forgotten-globals (global.Variable v ∷ gs) = (forgotten-tells v, forgotten-globals gs)
forgotten-globals (global.Function k r ∷ gs) = (tt, forgotten-globals gs)

pub forgotten-tell : (a : DeclaredNames) → TellsKinds (forgotten_names a)
forgotten-tell a = record { classes = forgotten-classes a.classes; globals = forgotten-globals a.globals }
