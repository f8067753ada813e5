-- What is told from more is no less; the names of a unit do not hang on what is told of them.
use Rattle.std.proofs.Common.{◌≡◌, ℕ, zero, suc, Bool, true, false, List, [], ◌∷◌, map, Option, Some, None, refl, sym, ap, subst}
use Rattle.std.specs.Option.{is_some}
use Rattle.st_types.specs.declared.st_type.StType.{StType}
use Rattle.st_tree.specs.declared.declaration.Section.{Section}
use Rattle.st_tree.specs.declared.program.Target.{Target}
use Rattle.st_tree.specs.declared.program.Target.TheVariants as target
use Rattle.st_tree.specs.declared.type_spec.TypeSpec.{TypeSpec}
use Rattle.st_tree.specs.declared.unit.Decl.{Decl}
use Rattle.st_rules.specs.declared.signature.ResultType.{ResultType}
use Rattle.st_rules.specs.declared.signature.ResultType.TheVariants as outcome
use Rattle.st_rules.specs.declared.names.DeclaredVariable.{DeclaredVariable}
use Rattle.st_rules.specs.declared.names.DeclaredRoutine.{DeclaredRoutine}
use Rattle.st_rules.specs.declared.names.DeclaredClass.{DeclaredClass}
use Rattle.st_rules.specs.declared.names.DeclaredField.{DeclaredField}
use Rattle.st_rules.specs.declared.names.DeclaredType.{DeclaredType}
use Rattle.st_rules.specs.declared.names.DeclaredGlobal.{DeclaredGlobal}
use Rattle.st_rules.specs.declared.names.DeclaredGlobal.TheVariants as global
use Rattle.st_rules.specs.declared.names.TypeParts.{TypeParts}
use Rattle.st_rules.specs.declared.names.TypeParts.TheVariants as parts
use Rattle.st_rules.specs.declared.names.DeclaredNames.{DeclaredNames}
use Rattle.st_rules.specs.Scope.{Scope}
use Rattle.st_unit_rules.specs.declared_names.Constants.{is_told}
use Rattle.st_unit_rules.specs.declared_names.WrittenTypes.{type_written}
use Rattle.st_unit_rules.specs.declared_names.Variables.{Written, sections_written, constant_target, constant_of, members_declared, routine_locals}
use Rattle.st_unit_rules.specs.declared_names.UnitNames.{forgotten, forgotten_target, forgotten_outcome, forgotten_routine, forgotten_class, forgotten_type, forgotten_field, forgotten_parts, forgotten_global, forgotten_names, names_from, names_told, no_names}
use Rattle.resolution_order.specs.told_laws.ToldLaws.{Each, Every, AlikeTarget, AlikeVariable, AlikeOutcome, AlikeRoutine, AlikeClass, AlikeType, AlikeField, AlikeParts, AlikeGlobal, Alike, NoLess, MeansNoLess, TellsNoLess, TellsKind, TellsGlobalKind, TellsKinds}
use Rattle.resolution_order.proofs.told_laws.Basis.{VariableBasis, GlobalBasis, ClassBasis, PartsBasis, BasisNoLess}
use Rattle.resolution_order.proofs.told_laws.Heart.{more}
use Rattle.resolution_order.proofs.told_laws.Types.{written-stays, target-stays}
use Rattle.resolution_order.proofs.told_laws.Lookups.{lookups, kinds-stay}
use Rattle.resolution_order.proofs.told_laws.Tells.{names-tell, forgotten-tell}
use Rattle.resolution_order.proofs.told_laws.Walk.{members-alike, routine-alike, names-alike}

-- ---- lists

pub each-of : {X : Type 0} (R S : X → X → Type 0) → ((x y : X) → R x y → S x y) → (xs ys : List X) → Each R xs ys → Each S xs ys
each-of R S f [] [] h = tt
each-of R S f (x ∷ xs) (y ∷ ys) h = (f x y h.0, each-of R S f xs ys h.1)
each-of R S f [] (y ∷ ys) h = absurd h
each-of R S f (x ∷ xs) [] h = absurd h

pub each-with : {X : Type 0} (R : X → X → Type 0) (P : X → Type 0) (S : X → X → Type 0) → ((x y : X) → R x y → P x → S x y) → (xs ys : List X) → Each R xs ys → Every P xs → Each S xs ys
each-with R P S f [] [] h p = tt
each-with R P S f (x ∷ xs) (y ∷ ys) h p = (f x y h.0 p.0, each-with R P S f xs ys h.1 p.1)
each-with R P S f [] (y ∷ ys) h p = absurd h
each-with R P S f (x ∷ xs) [] h p = absurd h

-- ---- kinds and targets

pub same-kind : (o : Option StType) → NoLess o o
same-kind None = tt
same-kind (Some t) = refl

pub same-target : (t : Target) → MeansNoLess t t
same-target target.Nothing = tt
same-target t = refl

kind-is : (o p : Option StType) → NoLess o p → is_some o ≡ true → p ≡ o
kind-is None p h e = absurd (cc)
kind-is (Some t) p h e = h

target-is : (b : Bool) (t u : Target) → AlikeTarget NoLess MeansNoLess b t u → is_told t ≡ true → u ≡ t
target-is true (target.Constant z) u h e = h
target-is true (target.Enumerator k) u h e = h
target-is false t u h e = sym h
target-is true t u h e = absurd (cc)

-- ---- types and constants

pub variable-basis : (v w : DeclaredVariable) → AlikeVariable NoLess MeansNoLess v w → TellsKind v → VariableBasis v w
variable-basis v w h k = record {
  name = h.name;
  sort = h.sort;
  constant = h.constant;
  access = h.access;
  located_input = h.located_input;
  told = λ c t. same c t;
}
  where
    same : v.constant ≡ true → is_told v.target ≡ true → w ≡ v
    same c t =
        let n = sym h.name in
        let s = sym h.sort in
        let b = sym h.constant in
        let a = sym h.access in
        let l = sym h.located_input in
        let o = kind-is v.kind w.kind h.kind (k c t) in
        let m = target-is v.constant v.target w.target h.meant t in
        λ i. record { name = n i; sort = s i; constant = b i; access = a i; located_input = l i; kind = o i; target = m i }

global-basis : (g h : DeclaredGlobal) → AlikeGlobal NoLess MeansNoLess g h → TellsGlobalKind g → GlobalBasis g h
global-basis (global.Variable v) (global.Variable w) h k = variable-basis v w h k
global-basis (global.Function k r) (global.Function j q) h t = (h.1).name
global-basis (global.Variable v) (global.Function j q) h k = absurd h
global-basis (global.Function k r) (global.Variable w) h t = absurd h

parts-basis : (p q : TypeParts) → AlikeParts NoLess MeansNoLess p q → PartsBasis p q
parts-basis parts.Nothing parts.Nothing h = refl
parts-basis (parts.Values ns) (parts.Values ms) h = h
parts-basis (parts.Fields fs) (parts.Fields gs) h = refl
parts-basis parts.Nothing (parts.Values ms) h = absurd h
parts-basis parts.Nothing (parts.Fields gs) h = absurd h
parts-basis (parts.Values ns) parts.Nothing h = absurd h
parts-basis (parts.Values ns) (parts.Fields gs) h = absurd h
parts-basis (parts.Fields fs) parts.Nothing h = absurd h
parts-basis (parts.Fields fs) (parts.Values ms) h = absurd h

pub basis-of : (a b : DeclaredNames) → TellsKinds a → TellsNoLess a b → BasisNoLess a b
basis-of a b k h = record {
  types = h.types;
  parts = each-of (AlikeParts NoLess MeansNoLess) PartsBasis parts-basis a.parts b.parts h.parts;
  classes =
      each-with (AlikeClass NoLess MeansNoLess) (λ c. Every TellsKind c.variables) ClassBasis
      (λ c d e p. each-with (AlikeVariable NoLess MeansNoLess) TellsKind VariableBasis variable-basis c.variables d.variables e.variables p) a.classes b.classes h.classes k.classes;
  globals = each-with (AlikeGlobal NoLess MeansNoLess) TellsGlobalKind GlobalBasis global-basis a.globals b.globals h.globals k.globals;
}

-- ---- scopes

-- the second tells the types and constants that the first tells, and is the same else
pub record Follows (s t : Scope) : Type 0 where
  pub same : t ≡ more s t.names t.locals
  pub basis : BasisNoLess s.names t.names
  pub mine : Each VariableBasis s.locals t.locals

follows-kinds : (s t : Scope) → Follows s t → (x : TypeSpec ℕ) → NoLess (type_written s x) (type_written t x)
follows-kinds s t f x =
    subst (λ u. NoLess (type_written s x) (type_written u x)) (sym f.same)
    (written-stays s t.names t.locals (lookups s t.names t.locals f.basis f.mine) (kinds-stay s t.names t.locals f.basis f.mine) x)

follows-values : (s t : Scope) → Follows s t → (w : Written) → MeansNoLess (constant_target (constant_of s w)) (constant_target (constant_of t w))
follows-values s t f w =
    subst (λ u. MeansNoLess (constant_target (constant_of s w)) (constant_target (constant_of u w))) (sym f.same)
    (target-stays s t.names t.locals (lookups s t.names t.locals f.basis f.mine) (kinds-stay s t.names t.locals f.basis f.mine) w)

follows-within : (s t : Scope) (vs ws : List DeclaredVariable) → Follows s t → Each (AlikeVariable NoLess MeansNoLess) vs ws → Every TellsKind vs → Follows (record s { locals = vs }) (record t { locals = ws })
follows-within s t vs ws f h k = record {
  same = ap {A = Scope} {B = Scope} (λ u. record u { locals = ws }) f.same;
  basis = f.basis;
  mine = each-with (AlikeVariable NoLess MeansNoLess) TellsKind VariableBasis variable-basis vs ws h k;
}

pub routine-follows : (s t : Scope) → Follows s t → (name : List ℕ) (result : Option (TypeSpec ℕ)) (ss : List (Section ℕ)) → Each (AlikeVariable NoLess MeansNoLess) (routine_locals s name result ss) (routine_locals t name result ss)
routine-follows = routine-alike NoLess MeansNoLess Follows same-kind same-target follows-kinds follows-values follows-within

pub members-follow : (s t : Scope) → Follows s t → (k l : ℕ) (ss : List (Section ℕ)) → Each (AlikeVariable NoLess MeansNoLess) (members_declared s k l ss) (members_declared t k l ss)
members-follow s t f k l ss = members-alike NoLess MeansNoLess Follows same-kind same-target follows-kinds follows-values follows-within s t f k l (sections_written ss)

-- from more types and constants no less is told
pub basis-next : (decls : List (Decl ℕ)) (a b : DeclaredNames) → BasisNoLess a b → TellsNoLess (names_from decls a) (names_from decls b)
basis-next decls a b h =
    names-alike NoLess MeansNoLess Follows same-kind same-target follows-kinds follows-values follows-within decls a b
    λ c m. record { same = refl; basis = h; mine = tt }

pub next : (decls : List (Decl ℕ)) (a b : DeclaredNames) → TellsKinds a → TellsNoLess a b → TellsNoLess (names_from decls a) (names_from decls b)
next decls a b k h = basis-next decls a b (basis-of a b k h)

-- ---- the names alone

abbrev pub AnyKind : Option StType → Option StType → Type 0
AnyKind o p = Unit {0}

abbrev pub AnyTarget : Target → Target → Type 0
AnyTarget t u = Unit {0}

abbrev pub AnyScope : Scope → Scope → Type 0
AnyScope s t = Unit {0}

pub same-names : (decls : List (Decl ℕ)) (a b : DeclaredNames) → Alike AnyKind AnyTarget (names_from decls a) (names_from decls b)
same-names decls a b = names-alike AnyKind AnyTarget AnyScope (λ o. tt) (λ t. tt) (λ s t r x. tt) (λ s t r w. tt) (λ s t vs ws r h k. tt) decls a b (λ c m. tt)

pub routine-names : (s t : Scope) (name : List ℕ) (result : Option (TypeSpec ℕ)) (ss : List (Section ℕ)) → Each (AlikeVariable AnyKind AnyTarget) (routine_locals s name result ss) (routine_locals t name result ss)
routine-names s t = routine-alike AnyKind AnyTarget AnyScope (λ o. tt) (λ t. tt) (λ s t r x. tt) (λ s t r w. tt) (λ s t vs ws r h k. tt) s t tt

pub member-names : (s t : Scope) (k l : ℕ) (ss : List (Section ℕ)) → Each (AlikeVariable AnyKind AnyTarget) (members_declared s k l ss) (members_declared t k l ss)
member-names s t k l ss = members-alike AnyKind AnyTarget AnyScope (λ o. tt) (λ t. tt) (λ s t r x. tt) (λ s t r w. tt) (λ s t vs ws r h k. tt) s t tt k l (sections_written ss)

forgotten-means : (b : Bool) (t u : Target) → AlikeTarget AnyKind AnyTarget b t u → AlikeTarget NoLess MeansNoLess b (forgotten_target b t) u
forgotten-means true t u h = tt
forgotten-means false t u h = h

pub forgotten-variable : (v w : DeclaredVariable) → AlikeVariable AnyKind AnyTarget v w → AlikeVariable NoLess MeansNoLess (forgotten v) w
forgotten-variable v w h = record {
  name = h.name;
  sort = h.sort;
  constant = h.constant;
  access = h.access;
  located_input = h.located_input;
  kind = tt;
  meant = forgotten-means v.constant v.target w.target h.meant;
}

pub each-forgotten : {X : Type 0} (R S : X → X → Type 0) (f : X → X) → ((x y : X) → R x y → S (f x) y) → (xs ys : List X) → Each R xs ys → Each S (map f xs) ys
each-forgotten R S f step [] [] h = tt
each-forgotten R S f step (x ∷ xs) (y ∷ ys) h = (step x y h.0, each-forgotten R S f step xs ys h.1)
each-forgotten R S f step [] (y ∷ ys) h = absurd h
each-forgotten R S f step (x ∷ xs) [] h = absurd h

forgotten-result : (r q : ResultType) → AlikeOutcome AnyKind AnyTarget r q → AlikeOutcome NoLess MeansNoLess (forgotten_outcome r) q
forgotten-result outcome.Nothing outcome.Nothing h = tt
forgotten-result (outcome.Written t) (outcome.Written u) h = tt
forgotten-result outcome.Nothing (outcome.Written u) h = absurd h
forgotten-result (outcome.Written t) outcome.Nothing h = absurd h

forgotten-of-routine : (r q : DeclaredRoutine) → AlikeRoutine AnyKind AnyTarget r q → AlikeRoutine NoLess MeansNoLess (forgotten_routine r) q
forgotten-of-routine r q h = record {
  name = h.name;
  access = h.access;
  abstract_method = h.abstract_method;
  outcome = forgotten-result r.outcome q.outcome h.outcome;
  parameters = each-forgotten (AlikeVariable AnyKind AnyTarget) (AlikeVariable NoLess MeansNoLess) forgotten forgotten-variable r.parameters q.parameters h.parameters;
}

forgotten-of-class : (c d : DeclaredClass) → AlikeClass AnyKind AnyTarget c d → AlikeClass NoLess MeansNoLess (forgotten_class c) d
forgotten-of-class c d h = record {
  sort = h.sort;
  variables = each-forgotten (AlikeVariable AnyKind AnyTarget) (AlikeVariable NoLess MeansNoLess) forgotten forgotten-variable c.variables d.variables h.variables;
  methods = each-forgotten (AlikeRoutine AnyKind AnyTarget) (AlikeRoutine NoLess MeansNoLess) forgotten_routine forgotten-of-routine c.methods d.methods h.methods;
}

forgotten-of-type : (t u : DeclaredType) → AlikeType AnyKind AnyTarget t u → AlikeType NoLess MeansNoLess (forgotten_type t) u
forgotten-of-type t u h = record { name = h.name; kind = tt }

forgotten-of-field : (f g : DeclaredField) → AlikeField AnyKind AnyTarget f g → AlikeField NoLess MeansNoLess (forgotten_field f) g
forgotten-of-field f g h = record { name = h.name; kind = tt }

forgotten-of-parts : (p q : TypeParts) → AlikeParts AnyKind AnyTarget p q → AlikeParts NoLess MeansNoLess (forgotten_parts p) q
forgotten-of-parts parts.Nothing parts.Nothing h = tt
forgotten-of-parts (parts.Values ns) (parts.Values ms) h = h
forgotten-of-parts (parts.Fields fs) (parts.Fields gs) h = each-forgotten (AlikeField AnyKind AnyTarget) (AlikeField NoLess MeansNoLess) forgotten_field forgotten-of-field fs gs h
forgotten-of-parts parts.Nothing (parts.Values ms) h = absurd h
forgotten-of-parts parts.Nothing (parts.Fields gs) h = absurd h
forgotten-of-parts (parts.Values ns) parts.Nothing h = absurd h
forgotten-of-parts (parts.Values ns) (parts.Fields gs) h = absurd h
forgotten-of-parts (parts.Fields fs) parts.Nothing h = absurd h
forgotten-of-parts (parts.Fields fs) (parts.Values ms) h = absurd h

forgotten-of-global : (g h : DeclaredGlobal) → AlikeGlobal AnyKind AnyTarget g h → AlikeGlobal NoLess MeansNoLess (forgotten_global g) h
forgotten-of-global (global.Variable v) (global.Variable w) h = forgotten-variable v w h
forgotten-of-global (global.Function k r) (global.Function j q) h = (h.0, forgotten-of-routine r q h.1)
forgotten-of-global (global.Variable v) (global.Function j q) h = absurd h
forgotten-of-global (global.Function k r) (global.Variable w) h = absurd h

-- of what is forgotten nothing is told
pub forgotten-less : (a b : DeclaredNames) → Alike AnyKind AnyTarget a b → TellsNoLess (forgotten_names a) b
forgotten-less a b h = record {
  types = each-forgotten (AlikeType AnyKind AnyTarget) (AlikeType NoLess MeansNoLess) forgotten_type forgotten-of-type a.types b.types h.types;
  parts = each-forgotten (AlikeParts AnyKind AnyTarget) (AlikeParts NoLess MeansNoLess) forgotten_parts forgotten-of-parts a.parts b.parts h.parts;
  classes = each-forgotten (AlikeClass AnyKind AnyTarget) (AlikeClass NoLess MeansNoLess) forgotten_class forgotten-of-class a.classes b.classes h.classes;
  interfaces =
      each-forgotten (Each (AlikeRoutine AnyKind AnyTarget)) (Each (AlikeRoutine NoLess MeansNoLess)) (λ ms. map forgotten_routine ms)
      (λ rs qs e. each-forgotten (AlikeRoutine AnyKind AnyTarget) (AlikeRoutine NoLess MeansNoLess) forgotten_routine forgotten-of-routine rs qs e) a.interfaces b.interfaces h.interfaces;
  globals = each-forgotten (AlikeGlobal AnyKind AnyTarget) (AlikeGlobal NoLess MeansNoLess) forgotten_global forgotten-of-global a.globals b.globals h.globals;
}

-- ---- step by step

pub step-tells : (decls : List (Decl ℕ)) (k : ℕ) → TellsKinds (names_told decls k)
step-tells decls zero = forgotten-tell (names_from decls (no_names decls))
step-tells decls (suc k) = names-tell decls (names_told decls k)

pub grows : (decls : List (Decl ℕ)) (k : ℕ) → TellsNoLess (names_told decls k) (names_told decls (suc k))
grows decls zero = forgotten-less (names_from decls (no_names decls)) (names_from decls (names_told decls zero)) (same-names decls (no_names decls) (names_told decls zero))
grows decls (suc k) = next decls (names_told decls k) (names_told decls (suc k)) (step-tells decls k) (grows decls k)
