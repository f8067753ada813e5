-- More told tells no less: what a unit says of its names, found from more that is told, is no less, so that what can be told may be told one
-- by one and in any order.
use Rattle.std.specs.Prelude.{◌≡◌, ℕ, suc, Bool, true, false, List, [], ◌∷◌, Option, Some, None}
use Rattle.std.specs.Option.{is_some}
use Rattle.st_types.specs.declared.st_type.StType.{StType}
use Rattle.st_tree.specs.declared.program.Target.{Target}
use Rattle.st_tree.specs.declared.program.Target.TheVariants as target
use Rattle.st_tree.specs.declared.unit.Decl.{Decl}
use Rattle.st_rules.specs.declared.signature.ResultType.{ResultType}
use Rattle.st_rules.specs.declared.signature.ResultType.TheVariants as outcome
use Rattle.st_rules.specs.declared.names.DeclaredVariable.{DeclaredVariable}
use Rattle.st_rules.specs.declared.names.DeclaredRoutine.{DeclaredRoutine}
use Rattle.st_rules.specs.declared.names.DeclaredClass.{DeclaredClass}
use Rattle.st_rules.specs.declared.names.DeclaredField.{DeclaredField}
use Rattle.st_rules.specs.declared.names.DeclaredType.{DeclaredType}
use Rattle.st_rules.specs.declared.names.DeclaredGlobal.{DeclaredGlobal}
use Rattle.st_rules.specs.declared.names.DeclaredGlobal.TheVariants as global
use Rattle.st_rules.specs.declared.names.TypeParts.{TypeParts}
use Rattle.st_rules.specs.declared.names.TypeParts.TheVariants as parts
use Rattle.st_rules.specs.declared.names.DeclaredNames.{DeclaredNames}
use Rattle.st_unit_rules.specs.declared_names.Constants.{is_told}
use Rattle.st_unit_rules.specs.declared_names.UnitNames.{names_from, names_told, unit_names}

-- ---- names that are the same in the same places

-- the same number of items, and each as is said of it and of the one in its place
abbrev pub Each : {X : Type 0} → (X → X → Type 0) → List X → List X → Type 0
Each R [] [] = Unit {0}
Each R (x ∷ xs) (y ∷ ys) = R x y × Each R xs ys
Each R _ _ = ⊥

-- two that say the same of each name, but for the kinds, which are as K says, and for what constants mean, which is as T says
module _ (K : Option StType → Option StType → Type 0) (T : Target → Target → Type 0) where
  abbrev pub AlikeTarget : Bool → Target → Target → Type 0
  AlikeTarget true t u = T t u
  AlikeTarget false t u = t ≡ u

  pub record AlikeVariable (v w : DeclaredVariable) : Type 0 where
    pub name : v.name ≡ w.name
    pub sort : v.sort ≡ w.sort
    pub constant : v.constant ≡ w.constant
    pub access : v.access ≡ w.access
    pub located_input : v.located_input ≡ w.located_input
    pub kind : K v.kind w.kind
    pub meant : AlikeTarget v.constant v.target w.target

  abbrev pub AlikeOutcome : ResultType → ResultType → Type 0
  AlikeOutcome outcome.Nothing outcome.Nothing = Unit {0}
  AlikeOutcome (outcome.Written t) (outcome.Written u) = K t u
  AlikeOutcome _ _ = ⊥

  pub record AlikeRoutine (r q : DeclaredRoutine) : Type 0 where
    pub name : r.name ≡ q.name
    pub access : r.access ≡ q.access
    pub abstract_method : r.abstract_method ≡ q.abstract_method
    pub outcome : AlikeOutcome r.outcome q.outcome
    pub parameters : Each AlikeVariable r.parameters q.parameters

  pub record AlikeClass (c d : DeclaredClass) : Type 0 where
    pub sort : c.sort ≡ d.sort
    pub variables : Each AlikeVariable c.variables d.variables
    pub methods : Each AlikeRoutine c.methods d.methods

  pub record AlikeType (t u : DeclaredType) : Type 0 where
    pub name : t.name ≡ u.name
    pub kind : K t.kind u.kind

  pub record AlikeField (f g : DeclaredField) : Type 0 where
    pub name : f.name ≡ g.name
    pub kind : K f.kind g.kind

  abbrev pub AlikeParts : TypeParts → TypeParts → Type 0
  AlikeParts parts.Nothing parts.Nothing = Unit {0}
  AlikeParts (parts.Values ns) (parts.Values ms) = ns ≡ ms
  AlikeParts (parts.Fields fs) (parts.Fields gs) = Each AlikeField fs gs
  AlikeParts _ _ = ⊥

  abbrev pub AlikeGlobal : DeclaredGlobal → DeclaredGlobal → Type 0
  AlikeGlobal (global.Variable v) (global.Variable w) = AlikeVariable v w
  AlikeGlobal (global.Function k r) (global.Function j q) = (k ≡ j) × AlikeRoutine r q
  AlikeGlobal _ _ = ⊥

  pub record Alike (a b : DeclaredNames) : Type 0 where
    pub types : Each AlikeType a.types b.types
    pub parts : Each AlikeParts a.parts b.parts
    pub classes : Each AlikeClass a.classes b.classes
    pub interfaces : Each (Each AlikeRoutine) a.interfaces b.interfaces
    pub globals : Each AlikeGlobal a.globals b.globals

-- ---- telling no less

-- what the first tells, the second tells as well
abbrev pub NoLess : Option StType → Option StType → Type 0
NoLess None u = Unit {0}
NoLess (Some t) u = u ≡ Some t

abbrev pub MeansNoLess : Target → Target → Type 0
MeansNoLess target.Nothing u = Unit {0}
MeansNoLess t u = u ≡ t

-- the same names, of which the second tells all that the first tells
abbrev pub TellsNoLess : DeclaredNames → DeclaredNames → Type 0
TellsNoLess = Alike NoLess MeansNoLess

-- ---- constants

-- each item is as is said
abbrev pub Every : {X : Type 0} → (X → Type 0) → List X → Type 0
Every P [] = Unit {0}
Every P (x ∷ xs) = P x × Every P xs

-- the value of a constant is told only with its type
abbrev pub TellsKind : DeclaredVariable → Type 0
TellsKind v = v.constant ≡ true → is_told v.target ≡ true → is_some v.kind ≡ true

abbrev pub TellsGlobalKind : DeclaredGlobal → Type 0
TellsGlobalKind (global.Variable v) = TellsKind v
TellsGlobalKind (global.Function k r) = Unit {0}

pub record TellsKinds (a : DeclaredNames) : Type 0 where
  pub classes : Every (λ c. Every TellsKind c.variables) a.classes
  pub globals : Every TellsGlobalKind a.globals

-- ---- the laws

pub record ToldLaws : Type 0 where
  -- a value is told with its type, whatever was told before
  pub kinds : (decls : List (Decl ℕ)) (a : DeclaredNames) → TellsKinds (names_from decls a)
  -- what is told from more is no less
  pub next : (decls : List (Decl ℕ)) (a b : DeclaredNames) → TellsKinds a → TellsNoLess a b → TellsNoLess (names_from decls a) (names_from decls b)
  -- each step tells no less than the one before
  pub grows : (decls : List (Decl ℕ)) (k : ℕ) → TellsNoLess (names_told decls k) (names_told decls (suc k))
  -- a step more tells nothing more
  pub settled : (decls : List (Decl ℕ)) → names_from decls (unit_names decls) ≡ unit_names decls
