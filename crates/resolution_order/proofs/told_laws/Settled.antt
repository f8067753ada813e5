-- Each step tells a type or a constant more, or none ever after: so what a unit says of its names is settled after as many steps as it has
-- types and constants to tell.
use Rattle.std.proofs.Common.{◌≡◌, ℕ, zero, suc, ◌+◌, ◌≤◌, Bool, true, false, List, [], ◌∷◌, ◌++◌, length, Option, Some, None, refl, sym, ap, ◌∙◌, arith}
use Rattle.std.specs.Prelude.{if◌then◌else◌, filter, flat_map}
use Rattle.std.proofs.lemmas.List.{length-append}
use Rattle.std.proofs.lemmas.List.Elements.{filter-append}
use Rattle.st_types.specs.declared.st_type.StType.{StType}
use Rattle.st_tree.specs.declared.declaration.ClassDecl.{ClassDecl}
use Rattle.st_tree.specs.declared.declaration.TypeDecl.{TypeDecl}
use Rattle.st_tree.specs.declared.program.Target.{Target}
use Rattle.st_tree.specs.declared.program.Target.TheVariants as target
use Rattle.st_tree.specs.declared.unit.Decl.{Decl}
use Rattle.st_tree.specs.declared.unit.Decl.TheVariants as declaration
use Rattle.st_rules.specs.declared.signature.ResultType.{ResultType}
use Rattle.st_rules.specs.declared.signature.ResultType.TheVariants as outcome
use Rattle.st_rules.specs.declared.names.DeclaredVariable.{DeclaredVariable}
use Rattle.st_rules.specs.declared.names.DeclaredRoutine.{DeclaredRoutine}
use Rattle.st_rules.specs.declared.names.DeclaredClass.{DeclaredClass}
use Rattle.st_rules.specs.declared.names.DeclaredField.{DeclaredField}
use Rattle.st_rules.specs.declared.names.DeclaredType.{DeclaredType}
use Rattle.st_rules.specs.declared.names.DeclaredGlobal.{DeclaredGlobal}
use Rattle.st_rules.specs.declared.names.DeclaredGlobal.TheVariants as global
use Rattle.st_rules.specs.declared.names.TypeParts.{TypeParts}
use Rattle.st_rules.specs.declared.names.TypeParts.TheVariants as parts
use Rattle.st_rules.specs.declared.names.DeclaredNames.{DeclaredNames}
use Rattle.st_rules.specs.Classes.{classes_in}
use Rattle.st_rules.specs.Numbered.{each_numbered}
use Rattle.st_rules.specs.Scope.{Scope, is_instance_sort, is_body_sort}
use Rattle.st_unit_rules.specs.declared_names.Constants.{is_told}
use Rattle.st_unit_rules.specs.declared_names.Variables.{Written, sections_written, sections_in, constant_target, constant_of, declared_with, declared_each, member_targets}
use Rattle.st_unit_rules.specs.declared_names.Declarations.{configuration_globals, entries_in, globals_declared}
use Rattle.st_unit_rules.specs.declared_names.UnitNames.{constants_written, unit_scope, class_scope, entry_kind, entries_declared, types_declared, class_declared, variables_declared, region_count, globals_from, names_from, names_told, steps_needed, unit_names}
use Rattle.resolution_order.specs.told_laws.ToldLaws.{Each, Every, AlikeTarget, AlikeVariable, AlikeOutcome, AlikeRoutine, AlikeClass, AlikeType, AlikeField, AlikeParts, AlikeGlobal, NoLess, MeansNoLess, TellsNoLess, TellsKind, TellsGlobalKind, TellsKinds}
use Rattle.resolution_order.proofs.told_laws.Basis.{VariableBasis, GlobalBasis, ClassBasis, PartsBasis, BasisNoLess}
use Rattle.resolution_order.proofs.told_laws.Tells.{names-tell}
use Rattle.resolution_order.proofs.told_laws.Rounds.{after, settles}
use Rattle.resolution_order.proofs.told_laws.Next.{each-with, variable-basis, basis-of, basis-next, next, grows, step-tells}

-- ---- sums

unfoldable pub tally : {X : Type 0} → (X → ℕ) → List X → ℕ
tally f [] = 0
tally f (x ∷ xs) = f x + tally f xs

pub tally-append : {X : Type 0} (f : X → ℕ) (xs ys : List X) → tally f (xs ++ ys) ≡ tally f xs + tally f ys
unfolding tally
tally-append f [] ys = omega arith
tally-append f (x ∷ xs) ys = let h : tally f (xs ++ ys) ≡ tally f xs + tally f ys = tally-append f xs ys in omega arith

pub tally-less : {X : Type 0} (R : X → X → Type 0) (f : X → ℕ) → ((x y : X) → R x y → f y ≤ f x) → (xs ys : List X) → Each R xs ys → tally f ys ≤ tally f xs
unfolding tally
tally-less R f less [] [] h = omega arith
tally-less R f less (x ∷ xs) (y ∷ ys) h =
    let a : f y ≤ f x = less x y h.0 in
    let b : tally f ys ≤ tally f xs = tally-less R f less xs ys h.1 in
    omega arith
tally-less R f less [] (y ∷ ys) h = absurd h
tally-less R f less (x ∷ xs) [] h = absurd h

-- where the sums are the same, so are the parts
pub tally-back : {X : Type 0} (R S : X → X → Type 0) (f : X → ℕ) → ((x y : X) → R x y → f y ≤ f x) → ((x y : X) → R x y → f x ≤ f y → S y x)
    → (xs ys : List X) → Each R xs ys → tally f xs ≤ tally f ys → Each S ys xs
unfolding tally
tally-back R S f less back [] [] h e = tt
tally-back R S f less back (x ∷ xs) (y ∷ ys) h e =
    let a : f y ≤ f x = less x y h.0 in
    let b : tally f ys ≤ tally f xs = tally-less R f less xs ys h.1 in
    (back x y h.0 (omega arith), tally-back R S f less back xs ys h.1 (omega arith))
tally-back R S f less back [] (y ∷ ys) h e = absurd h
tally-back R S f less back (x ∷ xs) [] h e = absurd h

-- both hold of each
pub both-of : {X : Type 0} (R : X → X → Type 0) (P : X → Type 0) (xs ys : List X) → Each R xs ys → Every P xs → Each (λ x y. R x y × P x) xs ys
both-of R P xs ys h p = each-with R P (λ x y. R x y × P x) (λ x y r q. (r, q)) xs ys h p

-- ---- how much is not told

untold_kind : Option StType → ℕ
untold_kind None = 1
untold_kind (Some t) = 0

untold_type : DeclaredType → ℕ
untold_type t = untold_kind t.kind

unfoldable pub untold_value : Bool → Bool → ℕ
untold_value true false = 1
untold_value true true = 0
untold_value false told = 0

unfoldable pub untold_variable : DeclaredVariable → ℕ
untold_variable v = untold_value v.constant (is_told v.target)

untold_class : DeclaredClass → ℕ
untold_class c = tally untold_variable c.variables

untold_global : DeclaredGlobal → ℕ
untold_global (global.Variable v) = untold_variable v
untold_global (global.Function k r) = 0

untold : DeclaredNames → ℕ
untold a = tally untold_type a.types + (tally untold_global a.globals + tally untold_class a.classes)

kind-less : (o p : Option StType) → NoLess o p → untold_kind p ≤ untold_kind o
unfolding untold_kind
kind-less None None h = omega arith
kind-less None (Some t) h = omega arith
kind-less (Some t) (Some u) h = omega arith
kind-less (Some t) None h = absurd (cc)

kind-back : (o p : Option StType) → NoLess o p → untold_kind o ≤ untold_kind p → NoLess p o
unfolding untold_kind
kind-back o None h e = tt
kind-back (Some t) (Some u) h e = sym h
kind-back None (Some u) h e = absurd (omega arith)

type-less : (t u : DeclaredType) → AlikeType NoLess MeansNoLess t u → untold_type u ≤ untold_type t
unfolding untold_type
type-less t u h = kind-less t.kind u.kind h.kind

type-back : (t u : DeclaredType) → AlikeType NoLess MeansNoLess t u → untold_type t ≤ untold_type u → AlikeType NoLess MeansNoLess u t
unfolding untold_type
type-back t u h e = record { name = sym h.name; kind = kind-back t.kind u.kind h.kind e }

value-less : (b c : Bool) (t u : Target) → b ≡ c → AlikeTarget NoLess MeansNoLess b t u → untold_value c (is_told u) ≤ untold_value b (is_told t)
unfolding untold_value
value-less false false t u e h = omega arith
value-less true true target.Nothing u e h = below (is_told u)
  where
    below : (b : Bool) → untold_value true b ≤ 1
    below true = omega arith
    below false = omega arith
value-less true true t u e h = let q : untold_value true (is_told u) ≡ untold_value true (is_told t) = ap (λ x. untold_value true (is_told x)) h in omega (arith, q)
value-less true false t u e h = absurd (cc)
value-less false true t u e h = absurd (cc)

pub variable-less : (v w : DeclaredVariable) → AlikeVariable NoLess MeansNoLess v w → untold_variable w ≤ untold_variable v
unfolding untold_variable
variable-less v w h = value-less v.constant w.constant v.target w.target h.constant h.meant

-- what is told of the second was told of the first
value-back : (b c : Bool) (t u : Bool) → b ≡ c → untold_value b t ≤ untold_value c u → c ≡ true → u ≡ true → (b ≡ true) × (t ≡ true)
unfolding untold_value
value-back true true true u e h c t = (refl, refl)
value-back true true false true e h c t = absurd (omega arith)
value-back true true false false e h c t = absurd (cc)
value-back b false t u e h c k = absurd (cc)
value-back false true t u e h c k = absurd (cc)

pub variable-back : (v w : DeclaredVariable) → AlikeVariable NoLess MeansNoLess v w × TellsKind v → untold_variable v ≤ untold_variable w → VariableBasis w v
unfolding untold_variable
variable-back v w h e =
    let b = variable-basis v w h.0 h.1 in
    record {
      name = sym b.name;
      sort = sym b.sort;
      constant = sym b.constant;
      access = sym b.access;
      located_input = sym b.located_input;
      told = λ c t. let q = value-back v.constant w.constant (is_told v.target) (is_told w.target) b.constant e c t in sym (b.told q.0 q.1);
    }

global-less : (g h : DeclaredGlobal) → AlikeGlobal NoLess MeansNoLess g h × TellsGlobalKind g → untold_global h ≤ untold_global g
unfolding untold_global
global-less (global.Variable v) (global.Variable w) h = variable-less v w h.0
global-less (global.Function k r) (global.Function j q) h = omega arith
global-less (global.Variable v) (global.Function j q) h = absurd h.0
global-less (global.Function k r) (global.Variable w) h = absurd h.0

global-back : (g h : DeclaredGlobal) → AlikeGlobal NoLess MeansNoLess g h × TellsGlobalKind g → untold_global g ≤ untold_global h → GlobalBasis h g
unfolding untold_global
global-back (global.Variable v) (global.Variable w) h e = variable-back v w h e
global-back (global.Function k r) (global.Function j q) h e = sym (h.0.1).name
global-back (global.Variable v) (global.Function j q) h e = absurd h.0
global-back (global.Function k r) (global.Variable w) h e = absurd h.0

class-less : (c d : DeclaredClass) → AlikeClass NoLess MeansNoLess c d × Every TellsKind c.variables → untold_class d ≤ untold_class c
unfolding untold_class
class-less c d h = tally-less (AlikeVariable NoLess MeansNoLess) untold_variable variable-less c.variables d.variables (h.0).variables

class-back : (c d : DeclaredClass) → AlikeClass NoLess MeansNoLess c d × Every TellsKind c.variables → untold_class c ≤ untold_class d → ClassBasis d c
unfolding untold_class
class-back c d h e =
    tally-back (λ v w. AlikeVariable NoLess MeansNoLess v w × TellsKind v) VariableBasis untold_variable (λ v w q. variable-less v w q.0) variable-back c.variables d.variables
    (both-of (AlikeVariable NoLess MeansNoLess) TellsKind c.variables d.variables (h.0).variables h.1) e

-- ---- where as much is told, the same is

each-back : {X : Type 0} (R S : X → X → Type 0) → ((x y : X) → R x y → S y x) → (xs ys : List X) → Each R xs ys → Each S ys xs
each-back R S f [] [] h = tt
each-back R S f (x ∷ xs) (y ∷ ys) h = (f x y h.0, each-back R S f xs ys h.1)
each-back R S f [] (y ∷ ys) h = absurd h
each-back R S f (x ∷ xs) [] h = absurd h

less : (a b : DeclaredNames) → TellsKinds a → TellsNoLess a b → untold b ≤ untold a
unfolding untold
less a b k h =
    let x : tally untold_type b.types ≤ tally untold_type a.types = tally-less (AlikeType NoLess MeansNoLess) untold_type type-less a.types b.types h.types in
    let y : tally untold_global b.globals ≤ tally untold_global a.globals =
    tally-less (λ g h. AlikeGlobal NoLess MeansNoLess g h × TellsGlobalKind g) untold_global global-less a.globals b.globals (both-of (AlikeGlobal NoLess MeansNoLess) TellsGlobalKind a.globals b.globals h.globals k.globals) in
    let z : tally untold_class b.classes ≤ tally untold_class a.classes =
    tally-less (λ c d. AlikeClass NoLess MeansNoLess c d × Every TellsKind c.variables) untold_class class-less a.classes b.classes (both-of (AlikeClass NoLess MeansNoLess) (λ c. Every TellsKind c.variables) a.classes b.classes h.classes k.classes) in
    omega arith

back : (a b : DeclaredNames) → TellsKinds a → TellsNoLess a b → untold a ≤ untold b → BasisNoLess b a
unfolding untold
back a b k h e =
    let gs = both-of (AlikeGlobal NoLess MeansNoLess) TellsGlobalKind a.globals b.globals h.globals k.globals in
    let cs = both-of (AlikeClass NoLess MeansNoLess) (λ c. Every TellsKind c.variables) a.classes b.classes h.classes k.classes in
    let x : tally untold_type b.types ≤ tally untold_type a.types = tally-less (AlikeType NoLess MeansNoLess) untold_type type-less a.types b.types h.types in
    let y : tally untold_global b.globals ≤ tally untold_global a.globals = tally-less (λ g h. AlikeGlobal NoLess MeansNoLess g h × TellsGlobalKind g) untold_global global-less a.globals b.globals gs in
    let z : tally untold_class b.classes ≤ tally untold_class a.classes = tally-less (λ c d. AlikeClass NoLess MeansNoLess c d × Every TellsKind c.variables) untold_class class-less a.classes b.classes cs in
    record {
      types = tally-back (AlikeType NoLess MeansNoLess) (AlikeType NoLess MeansNoLess) untold_type type-less type-back a.types b.types h.types (omega arith);
      parts = each-back PartsBasis PartsBasis (λ p q e. sym e) a.parts b.parts (basis-of a b k h).parts;
      classes = tally-back (λ c d. AlikeClass NoLess MeansNoLess c d × Every TellsKind c.variables) ClassBasis untold_class class-less class-back a.classes b.classes cs (omega arith);
      globals = tally-back (λ g h. AlikeGlobal NoLess MeansNoLess g h × TellsGlobalKind g) GlobalBasis untold_global global-less global-back a.globals b.globals gs (omega arith);
    }

-- ---- where each tells no less than the other, they are the same

pub each-equal : {X : Type 0} (R : X → X → Type 0) → ((x y : X) → R x y → R y x → x ≡ y) → (xs ys : List X) → Each R xs ys → Each R ys xs → xs ≡ ys
each-equal R f [] [] h k = refl
each-equal R f (x ∷ xs) (y ∷ ys) h k = ap (λ z. z ∷ xs) (f x y h.0 k.0) ∙ ap (λ zs. y ∷ zs) (each-equal R f xs ys h.1 k.1)
each-equal R f [] (y ∷ ys) h k = absurd h
each-equal R f (x ∷ xs) [] h k = absurd h

kind-equal : (o p : Option StType) → NoLess o p → NoLess p o → o ≡ p
kind-equal None None h k = refl
kind-equal None (Some t) h k = k
kind-equal (Some t) p h k = sym h

meant-equal : (t u : Target) → MeansNoLess t u → MeansNoLess u t → t ≡ u
meant-equal target.Nothing target.Nothing h k = refl
meant-equal target.Nothing u h k = k
meant-equal t u h k = sym h

target-equal : (b c : Bool) (t u : Target) → b ≡ c → AlikeTarget NoLess MeansNoLess b t u → AlikeTarget NoLess MeansNoLess c u t → t ≡ u
target-equal false c t u e h k = h
target-equal true true t u e h k = meant-equal t u h k
target-equal true false t u e h k = absurd (cc)

pub variable-equal : (v w : DeclaredVariable) → AlikeVariable NoLess MeansNoLess v w → AlikeVariable NoLess MeansNoLess w v → v ≡ w
variable-equal v w h k =
    let n = h.name in
    let s = h.sort in
    let b = h.constant in
    let a = h.access in
    let l = h.located_input in
    let o = kind-equal v.kind w.kind h.kind k.kind in
    let m = target-equal v.constant w.constant v.target w.target h.constant h.meant k.meant in
    λ i. record { name = n i; sort = s i; constant = b i; access = a i; located_input = l i; kind = o i; target = m i }

outcome-equal : (r q : ResultType) → AlikeOutcome NoLess MeansNoLess r q → AlikeOutcome NoLess MeansNoLess q r → r ≡ q
outcome-equal outcome.Nothing outcome.Nothing h k = refl
outcome-equal (outcome.Written t) (outcome.Written u) h k = ap outcome.Written (kind-equal t u h k)
outcome-equal outcome.Nothing (outcome.Written u) h k = absurd h
outcome-equal (outcome.Written t) outcome.Nothing h k = absurd h

routine-equal : (r q : DeclaredRoutine) → AlikeRoutine NoLess MeansNoLess r q → AlikeRoutine NoLess MeansNoLess q r → r ≡ q
routine-equal r q h k =
    let n = h.name in
    let a = h.access in
    let b = h.abstract_method in
    let o = outcome-equal r.outcome q.outcome h.outcome k.outcome in
    let p = each-equal (AlikeVariable NoLess MeansNoLess) variable-equal r.parameters q.parameters h.parameters k.parameters in
    λ i. record { name = n i; access = a i; abstract_method = b i; outcome = o i; parameters = p i }

class-equal : (c d : DeclaredClass) → AlikeClass NoLess MeansNoLess c d → AlikeClass NoLess MeansNoLess d c → c ≡ d
class-equal c d h k =
    let s = h.sort in
    let v = each-equal (AlikeVariable NoLess MeansNoLess) variable-equal c.variables d.variables h.variables k.variables in
    let m = each-equal (AlikeRoutine NoLess MeansNoLess) routine-equal c.methods d.methods h.methods k.methods in
    λ i. record { sort = s i; variables = v i; methods = m i }

type-equal : (t u : DeclaredType) → AlikeType NoLess MeansNoLess t u → AlikeType NoLess MeansNoLess u t → t ≡ u
type-equal t u h k =
    let n = h.name in
    let o = kind-equal t.kind u.kind h.kind k.kind in
    λ i. record { name = n i; kind = o i }

field-equal : (f g : DeclaredField) → AlikeField NoLess MeansNoLess f g → AlikeField NoLess MeansNoLess g f → f ≡ g
field-equal f g h k =
    let n = h.name in
    let o = kind-equal f.kind g.kind h.kind k.kind in
    λ i. record { name = n i; kind = o i }

parts-equal : (p q : TypeParts) → AlikeParts NoLess MeansNoLess p q → AlikeParts NoLess MeansNoLess q p → p ≡ q
parts-equal parts.Nothing parts.Nothing h k = refl
parts-equal (parts.Values ns) (parts.Values ms) h k = ap parts.Values h
parts-equal (parts.Fields fs) (parts.Fields gs) h k = ap parts.Fields (each-equal (AlikeField NoLess MeansNoLess) field-equal fs gs h k)
parts-equal parts.Nothing (parts.Values ms) h k = absurd h
parts-equal parts.Nothing (parts.Fields gs) h k = absurd h
parts-equal (parts.Values ns) parts.Nothing h k = absurd h
parts-equal (parts.Values ns) (parts.Fields gs) h k = absurd h
parts-equal (parts.Fields fs) parts.Nothing h k = absurd h
parts-equal (parts.Fields fs) (parts.Values ms) h k = absurd h

global-equal : (g h : DeclaredGlobal) → AlikeGlobal NoLess MeansNoLess g h → AlikeGlobal NoLess MeansNoLess h g → g ≡ h
global-equal (global.Variable v) (global.Variable w) h k = ap global.Variable (variable-equal v w h k)
global-equal (global.Function n r) (global.Function m q) h k = ap (λ x. global.Function x r) h.0 ∙ ap (λ x. global.Function m x) (routine-equal r q h.1 k.1)
global-equal (global.Variable v) (global.Function m q) h k = absurd h
global-equal (global.Function n r) (global.Variable w) h k = absurd h

pub names-equal : (a b : DeclaredNames) → TellsNoLess a b → TellsNoLess b a → a ≡ b
names-equal a b h k =
    let t = each-equal (AlikeType NoLess MeansNoLess) type-equal a.types b.types h.types k.types in
    let p = each-equal (AlikeParts NoLess MeansNoLess) parts-equal a.parts b.parts h.parts k.parts in
    let c = each-equal (AlikeClass NoLess MeansNoLess) class-equal a.classes b.classes h.classes k.classes in
    let m = each-equal (Each (AlikeRoutine NoLess MeansNoLess)) (λ rs qs. each-equal (AlikeRoutine NoLess MeansNoLess) routine-equal rs qs) a.interfaces b.interfaces h.interfaces k.interfaces in
    let g = each-equal (AlikeGlobal NoLess MeansNoLess) global-equal a.globals b.globals h.globals k.globals in
    λ i. record { types = t i; parts = p i; classes = c i; interfaces = m i; globals = g i }

-- where a step tells no type and no constant anew, the next tells nothing anew
stays : (decls : List (Decl ℕ)) (a b : DeclaredNames) → TellsKinds a → TellsNoLess a b → untold a ≤ untold b → names_from decls a ≡ names_from decls b
stays decls a b k h e = names-equal (names_from decls a) (names_from decls b) (next decls a b k h) (basis-next decls b a (back a b k h e))

-- ---- how much there is to tell

pick : {X Y : Type 0} (P : X → Y → Type 0) (b : Bool) (x x' : X) (y y' : Y) → (b ≡ true → P x y) → (b ≡ false → P x' y') → P (if b then x else x') (if b then y else y')
pick P true x x' y y' f g = f refl
pick P false x x' y y' f g = g refl

pick-left : {X : Type 0} (P : X → Type 0) (b : Bool) (x y : X) → P x → P y → P (if b then x else y)
pick-left P true x y h k = h
pick-left P false x y h k = k

value-at-most : (b t : Bool) → untold_value b t ≤ 1
unfolding untold_value
value-at-most true true = omega arith
value-at-most true false = omega arith
value-at-most false t = omega arith

value-of-none : (b t : Bool) → b ≡ false → untold_value b t ≡ 0
unfolding untold_value
value-of-none false t e = refl
value-of-none true t e = absurd (cc)

variable-at-most : (s : Scope) (x : Target) (w : Written) → untold_variable (declared_with s x w) ≤ 1
unfolding untold_variable
variable-at-most s x w = value-at-most w.constant (is_told x)

plain-has-none : (s : Scope) (x : Target) (w : Written) → w.constant ≡ false → untold_variable (declared_with s x w) ≡ 0
unfolding untold_variable
plain-has-none s x w e = value-of-none w.constant (is_told x) e

kind-at-most : (o : Option StType) → untold_kind o ≤ 1
unfolding untold_kind
kind-at-most None = omega arith
kind-at-most (Some t) = omega arith

abbrev constants : List Written → List Written
constants ws = filter (λ w. w.constant) ws

module _ (s : Scope) where
  abbrev MemberRows : Written → List Written → List Target → List Written → Type 0
  MemberRows w ws xs vs = tally untold_variable (declared_each s xs (w ∷ ws)) ≤ length vs

  members-at-most : (k l : ℕ) (ws : List Written) → tally untold_variable (declared_each s (member_targets s k l ws) ws) ≤ length (constants ws)
  unfolding tally
  members-at-most k l [] = omega arith
  members-at-most k l (w ∷ ws) =
      pick (MemberRows w ws) w.constant _ _ (w ∷ constants ws) (constants ws)
      (λ e. let a : untold_variable (declared_with s (constant_target (constant_of s w)) w) ≤ 1 = variable-at-most s (constant_target (constant_of s w)) w in
      let b : tally untold_variable (declared_each s (member_targets s k l ws) ws) ≤ length (constants ws) = members-at-most k l ws in
      omega arith)
      λ e.
      pick-left (λ xs. MemberRows w ws xs (constants ws)) (is_instance_sort w.sort) _ _
      (let a : untold_variable (declared_with s (target.Variable k) w) ≡ 0 = plain-has-none s (target.Variable k) w e in
      let b : tally untold_variable (declared_each s (member_targets s (suc k) l ws) ws) ≤ length (constants ws) = members-at-most (suc k) l ws in
      omega arith)
      (pick-left (λ xs. MemberRows w ws xs (constants ws)) (is_body_sort w.sort) _ _
      (let a : untold_variable (declared_with s (target.Local l) w) ≡ 0 = plain-has-none s (target.Local l) w e in
      let b : tally untold_variable (declared_each s (member_targets s k (suc l) ws) ws) ≤ length (constants ws) = members-at-most k (suc l) ws in
      omega arith)
      (let a : untold_variable (declared_with s target.Nothing w) ≡ 0 = plain-has-none s target.Nothing w e in
      let b : tally untold_variable (declared_each s (member_targets s k l ws) ws) ≤ length (constants ws) = members-at-most k l ws in
      omega arith))

module _ (decls : List (Decl ℕ)) (a : DeclaredNames) where
  entries-at-most : (n : ℕ) (ts : List (TypeDecl ℕ)) → tally untold_type (entries_declared decls a n ts) ≤ length ts
  unfolding tally untold_type
  entries-at-most n [] = omega arith
  entries-at-most n (t ∷ ts) =
      let x : untold_kind (entry_kind decls a n t.body) ≤ 1 = kind-at-most (entry_kind decls a n t.body) in
      let y : tally untold_type (entries_declared decls a (suc n) ts) ≤ length ts = entries-at-most (suc n) ts in
      omega arith

  types-at-most : (n c i : ℕ) (ds : List (Decl ℕ)) → tally untold_type (types_declared decls a n c i ds) ≤ length (entries_in ds)
  unfolding tally untold_type untold_kind
  types-at-most n c i [] = omega arith
  types-at-most n c i (declaration.Types l ts ∷ ds) =
      let x : tally untold_type (entries_declared decls a n ts) ≤ length ts = entries-at-most n ts in
      let y : tally untold_type (types_declared decls a (n + length ts) c i ds) ≤ length (entries_in ds) = types-at-most (n + length ts) c i ds in
      let z = tally-append untold_type (entries_declared decls a n ts) (types_declared decls a (n + length ts) c i ds) in
      let w = length-append ts (entries_in ds) in
      omega arith
  types-at-most n c i (declaration.Class d ∷ ds) = let y : tally untold_type (types_declared decls a n (suc c) i ds) ≤ length (entries_in ds) = types-at-most n (suc c) i ds in omega arith
  types-at-most n c i (declaration.Interface d ∷ ds) = let y : tally untold_type (types_declared decls a n c (suc i) ds) ≤ length (entries_in ds) = types-at-most n c (suc i) ds in omega arith
  types-at-most n c i (d ∷ ds) = types-at-most n c i ds

  class-at-most : (c : ℕ) (d : ClassDecl ℕ) → untold_class (class_declared decls a c d) ≤ length (constants_written (sections_in d.members))
  unfolding untold_class
  class-at-most c d = members-at-most (class_scope decls a c) _ _ (sections_written (sections_in d.members))

  classes-at-most : (c : ℕ) (ds : List (ClassDecl ℕ)) → tally untold_class (each_numbered (λ c d. class_declared decls a c d ∷ []) c ds) ≤ length (flat_map (λ d. constants_written (sections_in d.members)) ds)
  unfolding tally
  classes-at-most c [] = omega arith
  classes-at-most c (d ∷ ds) =
      let x : untold_class (class_declared decls a c d) ≤ length (constants_written (sections_in d.members)) = class-at-most c d in
      let y : tally untold_class (each_numbered (λ c d. class_declared decls a c d ∷ []) (suc c) ds) ≤ length (flat_map (λ d. constants_written (sections_in d.members)) ds) = classes-at-most (suc c) ds in
      let z = length-append (constants_written (sections_in d.members)) (flat_map (λ d. constants_written (sections_in d.members)) ds) in
      omega arith

  abbrev GlobalRows : List DeclaredGlobal → List Written → Type 0
  GlobalRows gs vs = tally untold_global gs ≤ length vs

  variables-at-most : (r : ℕ) (ws : List Written) → tally untold_global (variables_declared decls a r ws) ≤ length (constants ws)
  unfolding tally untold_global
  variables-at-most r [] = omega arith
  variables-at-most r (w ∷ ws) =
      pick GlobalRows w.constant _ _ (w ∷ constants ws) (constants ws)
      (λ e. let x : untold_variable (declared_with (unit_scope decls a) (constant_target (constant_of (unit_scope decls a) w)) w) ≤ 1 = variable-at-most (unit_scope decls a) (constant_target (constant_of (unit_scope decls a) w)) w in
      let y : tally untold_global (variables_declared decls a r ws) ≤ length (constants ws) = variables-at-most r ws in
      omega arith)
      λ e. let x : untold_variable (declared_with (unit_scope decls a) (target.Region r) w) ≡ 0 = plain-has-none (unit_scope decls a) (target.Region r) w e in
      let y : tally untold_global (variables_declared decls a (suc r) ws) ≤ length (constants ws) = variables-at-most (suc r) ws in
      omega arith

  -- globals of one declaration, and those behind them
  joined-at-most : (gs hs : List DeclaredGlobal) (vs ws : List Written) → tally untold_global gs ≤ length (constants vs) → tally untold_global hs ≤ length (constants ws) → tally untold_global (gs ++ hs) ≤ length (constants (vs ++ ws))
  joined-at-most gs hs vs ws h k =
      let x = tally-append untold_global gs hs in
      let y : length (constants (vs ++ ws)) ≡ length (constants vs) + length (constants ws) = ap length (filter-append (λ w. w.constant) vs ws) ∙ length-append (constants vs) (constants ws) in
      omega arith

  globals-at-most : (r k : ℕ) (ds : List (Decl ℕ)) → tally untold_global (globals_from decls a r k ds) ≤ length (constants (flat_map globals_declared ds))
  unfolding tally untold_global
  globals-at-most r k [] = omega arith
  globals-at-most r k (declaration.Globals s ∷ ds) =
      joined-at-most (variables_declared decls a r (sections_written (s ∷ []))) (globals_from decls a (r + region_count decls a (sections_written (s ∷ []))) k ds) (sections_written (s ∷ [])) (flat_map globals_declared ds)
      (variables-at-most r (sections_written (s ∷ []))) (globals-at-most (r + region_count decls a (sections_written (s ∷ []))) k ds)
  globals-at-most r k (declaration.Function f ∷ ds) = let y : tally untold_global (globals_from decls a r (suc k) ds) ≤ length (constants (flat_map globals_declared ds)) = globals-at-most r (suc k) ds in omega arith
  globals-at-most r k (declaration.Configuration c ∷ ds) =
      joined-at-most (variables_declared decls a r (sections_written (configuration_globals c))) (globals_from decls a (r + (region_count decls a (sections_written (configuration_globals c)) + length c.instances)) k ds)
      (sections_written (configuration_globals c)) (flat_map globals_declared ds)
      (variables-at-most r (sections_written (configuration_globals c))) (globals-at-most (r + (region_count decls a (sections_written (configuration_globals c)) + length c.instances)) k ds)
  globals-at-most r k (d ∷ ds) = globals-at-most r k ds

  at-most : untold (names_from decls a) ≤ steps_needed decls
  unfolding untold names_from
  at-most =
      let x : tally untold_type (types_declared decls a 0 0 0 decls) ≤ length (entries_in decls) = types-at-most 0 0 0 decls in
      let y : tally untold_global (globals_from decls a 0 0 decls) ≤ length (constants (flat_map globals_declared decls)) = globals-at-most 0 0 decls in
      let z : tally untold_class (each_numbered (λ c d. class_declared decls a c d ∷ []) 0 (classes_in decls)) ≤ length (flat_map (λ d. constants_written (sections_in d.members)) (classes_in decls)) = classes-at-most 0 (classes_in decls) in
      omega arith

-- ---- step by step

told-after : (decls : List (Decl ℕ)) (m : ℕ) → after (names_from decls) m (names_told decls (suc (suc zero))) ≡ names_told decls (suc (suc m))
unfolding after
told-after decls zero = refl
told-after decls (suc m) = ap (names_from decls) (told-after decls m)

pub settled : (decls : List (Decl ℕ)) → names_from decls (unit_names decls) ≡ unit_names decls
unfolding unit_names
settled decls =
    let e = told-after decls (steps_needed decls) in
    sym (ap (names_from decls) e)
    ∙ settles (names_from decls) TellsKinds TellsNoLess untold (names-tell decls) (next decls) less (stays decls)
    (steps_needed decls) (names_told decls (suc zero)) (step-tells decls (suc zero)) (grows decls (suc zero)) (at-most decls (names_told decls zero))
    ∙ e
