-- What is told one by one stays below what the unit says of its names, and is all of it once no more can be told.
use Rattle.std.proofs.Common.{◌≡◌, ℕ, zero, suc, true, false, List, [], ◌∷◌, Option, Some, None, refl, sym, ap, subst, ◌∙◌}
use Rattle.std.specs.Prelude.{slice_get}
use Rattle.std.specs.Option.{is_some}
use Rattle.st_types.specs.declared.st_type.StType.{StType}
use Rattle.st_tree.specs.declared.program.Target.{Target}
use Rattle.st_tree.specs.declared.unit.Decl.{Decl}
use Rattle.st_rules.specs.declared.names.DeclaredVariable.{DeclaredVariable}
use Rattle.st_rules.specs.declared.names.DeclaredClass.{DeclaredClass}
use Rattle.st_rules.specs.declared.names.DeclaredType.{DeclaredType}
use Rattle.st_rules.specs.declared.names.DeclaredGlobal.{DeclaredGlobal}
use Rattle.st_rules.specs.declared.names.DeclaredGlobal.TheVariants as global
use Rattle.st_rules.specs.declared.names.DeclaredNames.{DeclaredNames}
use Rattle.st_unit_rules.specs.declared_names.Constants.{is_told}
use Rattle.st_unit_rules.specs.declared_names.UnitNames.{names_from, names_told, unit_names, steps_needed, no_names}
use Rattle.resolution_order.specs.told_laws.ToldLaws.{Each, Every, AlikeTarget, AlikeVariable, AlikeClass, AlikeType, AlikeGlobal, NoLess, MeansNoLess, TellsNoLess, TellsKind, TellsGlobalKind, ToldLaws}
use Rattle.resolution_order.proofs.told_laws.Basis.{VariableBasis, GlobalBasis, ClassBasis, PartsBasis, BasisNoLess}
use Rattle.st_rules.specs.Telling.{changed_at, type_told, variable_told, global_told, member_told, with_type, with_global, with_member}
use Rattle.resolution_order.specs.told_laws.TellingLaws.{Sound, NoTypeLeft, NoValueLeft, NoGlobalLeft, NothingLeft, TellingLaws}
use Rattle.resolution_order.proofs.told_laws.Types.{tells}
use Rattle.resolution_order.proofs.told_laws.Tells.{names-tell}
use Rattle.resolution_order.proofs.told_laws.Next.{variable-basis, basis-of, basis-next, next, grows, step-tells, forgotten-less, same-names}
use Rattle.resolution_order.proofs.told_laws.Settled.{names-equal, settled}

-- ---- one more is told

-- what can be told from what is told so far is so in the unit
pub from-below : (decls : List (Decl ℕ)) (a : DeclaredNames) → Sound decls a → TellsNoLess (names_from decls a) (unit_names decls)
from-below decls a s = subst (λ b. TellsNoLess (names_from decls a) b) (settled decls) (next decls a (unit_names decls) s.kinds s.below)

pub changed-is : {X : Type 0} (R : X → X → Type 0) (f : X → X) (d : X) → ((x u : X) → R x u → R d u → R (f x) u) → (i : ℕ) (xs ns us : List X) → Each R xs us → Each R ns us → slice_get ns i ≡ Some d
    → Each R (changed_at f i xs) us
changed-is R f d step i [] ns us h k e = h
changed-is R f d step zero (x ∷ xs) (n ∷ ns) (u ∷ us) h k e =
    let same : n ≡ d = cc in
    (step x u h.0 (subst (λ y. R y u) same k.0), h.1)
changed-is R f d step (suc i) (x ∷ xs) (n ∷ ns) (u ∷ us) h k e = (h.0, changed-is R f d step i xs ns us h.1 k.1 e)
changed-is R f d step i (x ∷ xs) [] us h k e = absurd (cc)
changed-is R f d step i (x ∷ xs) (n ∷ ns) [] h k e = absurd h

pub one-changed : {X : Type 0} (P : X → Type 0) (f : X → X) → ((x : X) → P x → P (f x)) → (i : ℕ) (xs : List X) → Every P xs → Every P (changed_at f i xs)
one-changed P f step i [] h = tt
one-changed P f step zero (x ∷ xs) h = (step x h.0, h.1)
one-changed P f step (suc i) (x ∷ xs) h = (h.0, one-changed P f step i xs h.1)

-- what may be told of one may be told of another one
module _ {X : Type 0} (R : X → X → Type 0) (f : X → X) (step : (x y u : X) → R x u → R (f y) u → R (f x) u) where
  pub both-changed : (n : ℕ) (xs ys us : List X) → Each R xs us → Each R (changed_at f n ys) us → Each R (changed_at f n xs) us
  both-changed n [] ys us h k = h
  both-changed n (x ∷ xs) ys [] h k = absurd h
  both-changed zero (x ∷ xs) [] (u ∷ us) h k = absurd k
  both-changed zero (x ∷ xs) (y ∷ ys) (u ∷ us) h k = (step x y u h.0 k.0, h.1)
  both-changed (suc n) (x ∷ xs) [] (u ∷ us) h k = absurd k
  both-changed (suc n) (x ∷ xs) (y ∷ ys) (u ∷ us) h k = (h.0, both-changed n xs ys us h.1 k.1)

pub variable-step : (k : StType) (m : Target) (x y u : DeclaredVariable) → AlikeVariable NoLess MeansNoLess x u → AlikeVariable NoLess MeansNoLess (variable_told k m y) u → AlikeVariable NoLess MeansNoLess (variable_told k m x) u
variable-step k m x y u h t = record {
  name = h.name;
  sort = h.sort;
  constant = h.constant;
  access = h.access;
  located_input = h.located_input;
  kind = t.kind;
  meant = subst (λ b. AlikeTarget NoLess MeansNoLess b m u.target) (t.constant ∙ sym h.constant) t.meant;
}

told-type : (d : DeclaredType) (t : StType) → d.kind ≡ Some t → (x u : DeclaredType) → AlikeType NoLess MeansNoLess x u → AlikeType NoLess MeansNoLess d u → AlikeType NoLess MeansNoLess (type_told t x) u
told-type d t e x u h k = record { name = h.name; kind = tells d.kind u.kind t k.kind e }

pub told-variable : (v : DeclaredVariable) (t : StType) → v.kind ≡ Some t → (x u : DeclaredVariable) → AlikeVariable NoLess MeansNoLess x u → AlikeVariable NoLess MeansNoLess v u
    → AlikeVariable NoLess MeansNoLess (variable_told t v.target x) u
told-variable v t e x u h k = record {
  name = h.name;
  sort = h.sort;
  constant = h.constant;
  access = h.access;
  located_input = h.located_input;
  kind = tells v.kind u.kind t k.kind e;
  meant = subst (λ b. AlikeTarget NoLess MeansNoLess b v.target u.target) (k.constant ∙ sym h.constant) k.meant;
}

told-global : (v : DeclaredVariable) (t : StType) → v.kind ≡ Some t → (x u : DeclaredGlobal) → AlikeGlobal NoLess MeansNoLess x u → AlikeGlobal NoLess MeansNoLess (global.Variable v) u
    → AlikeGlobal NoLess MeansNoLess (global_told t v.target x) u
told-global v t e (global.Variable x) (global.Variable u) h k = told-variable v t e x u h k
told-global v t e (global.Function n r) u h k = h
told-global v t e (global.Variable x) (global.Function n r) h k = absurd h

told-member : (d : DeclaredClass) (i : ℕ) (v : DeclaredVariable) (t : StType) → slice_get d.variables i ≡ Some v → v.kind ≡ Some t → (x u : DeclaredClass) → AlikeClass NoLess MeansNoLess x u → AlikeClass NoLess MeansNoLess d u
    → AlikeClass NoLess MeansNoLess (member_told i t v.target x) u
told-member d i v t g e x u h k = record {
  sort = h.sort;
  variables = changed-is (AlikeVariable NoLess MeansNoLess) (variable_told t v.target) v (told-variable v t e) i x.variables d.variables u.variables h.variables k.variables g;
  methods = h.methods;
}

tells-global : (t : StType) (meant : Target) (g : DeclaredGlobal) → TellsGlobalKind g → TellsGlobalKind (global_told t meant g)
tells-global t meant (global.Variable v) h = λ c k. refl
tells-global t meant (global.Function n r) h = tt

begun : (decls : List (Decl ℕ)) → Sound decls (names_told decls zero)
unfolding unit_names
begun decls = record {
  kinds = step-tells decls zero;
  below = forgotten-less (names_from decls (no_names decls)) (names_from decls (names_told decls (suc (steps_needed decls)))) (same-names decls (no_names decls) (names_told decls (suc (steps_needed decls))));
}

type-next : (decls : List (Decl ℕ)) (a : DeclaredNames) (i : ℕ) (d : DeclaredType) (t : StType) → Sound decls a → slice_get (names_from decls a).types i ≡ Some d → d.kind ≡ Some t → Sound decls (with_type a i t)
type-next decls a i d t s g e =
    let b = s.below in
    record {
      kinds = record { classes = (s.kinds).classes; globals = (s.kinds).globals };
      below = record {
        types = changed-is (AlikeType NoLess MeansNoLess) (type_told t) d (told-type d t e) i a.types (names_from decls a).types (unit_names decls).types b.types (from-below decls a s).types g;
        parts = b.parts;
        classes = b.classes;
        interfaces = b.interfaces;
        globals = b.globals;
      };
    }

global-next : (decls : List (Decl ℕ)) (a : DeclaredNames) (i : ℕ) (v : DeclaredVariable) (t : StType) → Sound decls a → slice_get (names_from decls a).globals i ≡ Some (global.Variable v) → v.kind ≡ Some t
    → Sound decls (with_global a i t v.target)
global-next decls a i v t s g e =
    let b = s.below in
    record {
      kinds = record { classes = (s.kinds).classes; globals = one-changed TellsGlobalKind (global_told t v.target) (tells-global t v.target) i a.globals (s.kinds).globals };
      below = record {
        types = b.types;
        parts = b.parts;
        classes = b.classes;
        interfaces = b.interfaces;
        globals = changed-is (AlikeGlobal NoLess MeansNoLess) (global_told t v.target) (global.Variable v) (told-global v t e) i a.globals (names_from decls a).globals (unit_names decls).globals b.globals (from-below decls a s).globals g;
      };
    }

member-next : (decls : List (Decl ℕ)) (a : DeclaredNames) (c i : ℕ) (d : DeclaredClass) (v : DeclaredVariable) (t : StType) → Sound decls a
    → slice_get (names_from decls a).classes c ≡ Some d → slice_get d.variables i ≡ Some v → v.kind ≡ Some t → Sound decls (with_member a c i t v.target)
member-next decls a c i d v t s g w e =
    let b = s.below in
    record {
      kinds = record {
        classes =
            one-changed (λ x. Every TellsKind x.variables) (member_told i t v.target) (λ x h. one-changed TellsKind (variable_told t v.target) (λ y k. λ n m. refl) i x.variables h) c a.classes (s.kinds).classes;
        globals = (s.kinds).globals;
      };
      below = record {
        types = b.types;
        parts = b.parts;
        classes = changed-is (AlikeClass NoLess MeansNoLess) (member_told i t v.target) d (told-member d i v t w e) c a.classes (names_from decls a).classes (unit_names decls).classes b.classes (from-below decls a s).classes g;
        interfaces = b.interfaces;
        globals = b.globals;
      };
    }

-- ---- nothing is left

module _ {X : Type 0} (R Q S : X → X → Type 0) (P : X → Type 0) (step : (x y u : X) → R x u → R y u → Q x y → P x → P y → S y x) where
  pub each-three : (xs ys us : List X) → Each R xs us → Each R ys us → Each Q xs ys → Every P xs → Every P ys → Each S ys xs
  each-three [] [] us h k q p o = tt
  each-three (x ∷ xs) (y ∷ ys) (u ∷ us) h k q p o = (step x y u h.0 k.0 q.0 p.0 o.0, each-three xs ys us h.1 k.1 q.1 p.1 o.1)
  each-three (x ∷ xs) (y ∷ ys) [] h k q p o = absurd h
  each-three [] (y ∷ ys) us h k q p o = absurd q
  each-three (x ∷ xs) [] us h k q p o = absurd q

always : {X : Type 0} (xs : List X) → Every (λ x. Unit {0}) xs
always [] = tt
always (x ∷ xs) = (tt, always xs)

kind-left : (o p q : Option StType) → NoLess o q → NoLess p q → (is_some p ≡ true → is_some o ≡ true) → NoLess p o
kind-left o None q h k f = tt
kind-left (Some t) (Some u) q h k f = sym h ∙ k
kind-left None (Some u) q h k f = let e : false ≡ true = f refl in absurd (cc)

type-left : (t n u : DeclaredType) → AlikeType NoLess MeansNoLess t u → AlikeType NoLess MeansNoLess n u → NoTypeLeft t n → Unit {0} → Unit {0} → AlikeType NoLess MeansNoLess n t
type-left t n u h k f p o = record { name = k.name ∙ sym h.name; kind = kind-left t.kind n.kind u.kind h.kind k.kind f }

pub value-left : (v n u : DeclaredVariable) → AlikeVariable NoLess MeansNoLess v u → AlikeVariable NoLess MeansNoLess n u → NoValueLeft v n → TellsKind v → TellsKind n → VariableBasis n v
value-left v n u h k f p o =
    let x = variable-basis v u h p in
    let y = variable-basis n u k o in
    record {
      name = k.name ∙ sym h.name;
      sort = k.sort ∙ sym h.sort;
      constant = k.constant ∙ sym h.constant;
      access = k.access ∙ sym h.access;
      located_input = k.located_input ∙ sym h.located_input;
      told = λ c t. sym (x.told (h.constant ∙ sym k.constant ∙ c) (f c t)) ∙ y.told c t;
    }

global-left : (g n u : DeclaredGlobal) → AlikeGlobal NoLess MeansNoLess g u → AlikeGlobal NoLess MeansNoLess n u → NoGlobalLeft g n → TellsGlobalKind g → TellsGlobalKind n → GlobalBasis n g
global-left (global.Variable v) (global.Variable n) (global.Variable u) h k f p o = value-left v n u h k f p o
global-left (global.Function i r) (global.Function j q) (global.Function m w) h k f p o = (k.1).name ∙ sym (h.1).name
global-left (global.Variable v) n (global.Function m w) h k f p o = absurd h
global-left (global.Function i r) n (global.Variable u) h k f p o = absurd h
global-left (global.Variable v) (global.Function j q) (global.Variable u) h k f p o = absurd k
global-left (global.Function i r) (global.Variable n) (global.Function m w) h k f p o = absurd k

class-left : (c n u : DeclaredClass) → AlikeClass NoLess MeansNoLess c u → AlikeClass NoLess MeansNoLess n u → Each NoValueLeft c.variables n.variables → Every TellsKind c.variables → Every TellsKind n.variables → ClassBasis n c
class-left c n u h k f p o = each-three (AlikeVariable NoLess MeansNoLess) NoValueLeft VariableBasis TellsKind value-left c.variables n.variables u.variables h.variables k.variables f p o

each-joined : {X : Type 0} (R : X → X → Type 0) → ((x y u : X) → R x u → R y u → R y x) → (xs ys us : List X) → Each R xs us → Each R ys us → Each R ys xs
each-joined R step [] [] us h k = tt
each-joined R step (x ∷ xs) (y ∷ ys) (u ∷ us) h k = (step x y u h.0 k.0, each-joined R step xs ys us h.1 k.1)
each-joined R step [] (y ∷ ys) [] h k = absurd k
each-joined R step [] (y ∷ ys) (u ∷ us) h k = absurd h
each-joined R step (x ∷ xs) ys [] h k = absurd h
each-joined R step (x ∷ xs) [] (u ∷ us) h k = absurd k

-- the types and constants that can be told are told
left-basis : (decls : List (Decl ℕ)) (a : DeclaredNames) → Sound decls a → NothingLeft a (names_from decls a) → BasisNoLess (names_from decls a) a
left-basis decls a s f =
    let n = names_from decls a in
    let u = unit_names decls in
    let k = from-below decls a s in
    record {
      types = each-three (AlikeType NoLess MeansNoLess) NoTypeLeft (AlikeType NoLess MeansNoLess) (λ x. Unit {0}) type-left a.types n.types u.types (s.below).types k.types f.types (always a.types) (always n.types);
      parts = each-joined PartsBasis (λ p q r h k. k ∙ sym h) a.parts n.parts u.parts (basis-of a u s.kinds s.below).parts (basis-of n u (names-tell decls a) k).parts;
      classes = each-three (AlikeClass NoLess MeansNoLess) (λ c d. Each NoValueLeft c.variables d.variables) ClassBasis (λ c. Every TellsKind c.variables) class-left a.classes n.classes u.classes (s.below).classes k.classes f.classes (s.kinds).classes (names-tell decls a).classes;
      globals = each-three (AlikeGlobal NoLess MeansNoLess) NoGlobalLeft GlobalBasis TellsGlobalKind global-left a.globals n.globals u.globals (s.below).globals k.globals f.globals (s.kinds).globals (names-tell decls a).globals;
    }

-- ---- one after the other

pub each-then : {X : Type 0} (R : X → X → Type 0) → ((x y z : X) → R x y → R y z → R x z) → (xs ys zs : List X) → Each R xs ys → Each R ys zs → Each R xs zs
each-then R step [] [] [] h k = tt
each-then R step (x ∷ xs) (y ∷ ys) (z ∷ zs) h k = (step x y z h.0 k.0, each-then R step xs ys zs h.1 k.1)
each-then R step [] [] (z ∷ zs) h k = absurd k
each-then R step [] (y ∷ ys) zs h k = absurd h
each-then R step (x ∷ xs) [] zs h k = absurd h
each-then R step (x ∷ xs) (y ∷ ys) [] h k = absurd k

kind-then : (o p q : Option StType) → NoLess o p → NoLess p q → NoLess o q
kind-then None p q h k = tt
kind-then (Some t) p q h k = tells p q t k h

type-then : (t u w : DeclaredType) → AlikeType NoLess MeansNoLess t u → AlikeType NoLess MeansNoLess u w → AlikeType NoLess MeansNoLess t w
type-then t u w h k = record { name = h.name ∙ k.name; kind = kind-then t.kind u.kind w.kind h.kind k.kind }

pub variable-then : (u v w : DeclaredVariable) → VariableBasis u v → VariableBasis v w → VariableBasis u w
variable-then u v w h k = record {
  name = h.name ∙ k.name;
  sort = h.sort ∙ k.sort;
  constant = h.constant ∙ k.constant;
  access = h.access ∙ k.access;
  located_input = h.located_input ∙ k.located_input;
  told = λ c t.
      let e : v ≡ u = h.told c t in
      k.told (ap (λ x. x.constant) e ∙ c) (ap (λ x. is_told x.target) e ∙ t) ∙ e;
}

global-then : (f g h : DeclaredGlobal) → GlobalBasis f g → GlobalBasis g h → GlobalBasis f h
global-then (global.Variable u) (global.Variable v) (global.Variable w) p q = variable-then u v w p q
global-then (global.Function i r) (global.Function j s) (global.Function k t) p q = p ∙ q
global-then (global.Variable u) (global.Variable v) (global.Function k t) p q = absurd q
global-then (global.Variable u) (global.Function j s) h p q = absurd p
global-then (global.Function i r) (global.Variable v) h p q = absurd p
global-then (global.Function i r) (global.Function j s) (global.Variable w) p q = absurd q

basis-then : (a b c : DeclaredNames) → BasisNoLess a b → BasisNoLess b c → BasisNoLess a c
basis-then a b c h k = record {
  types = each-then (AlikeType NoLess MeansNoLess) type-then a.types b.types c.types h.types k.types;
  parts = each-then PartsBasis (λ p q r e f. e ∙ f) a.parts b.parts c.parts h.parts k.parts;
  classes = each-then ClassBasis (λ p q r. each-then VariableBasis variable-then p.variables q.variables r.variables) a.classes b.classes c.classes h.classes k.classes;
  globals = each-then GlobalBasis global-then a.globals b.globals c.globals h.globals k.globals;
}

-- each step stays below what no more can be told from
stays-below : (decls : List (Decl ℕ)) (a : DeclaredNames) → BasisNoLess (names_from decls a) a → (k : ℕ) → BasisNoLess (names_told decls k) a
stays-below decls a h zero =
    basis-then (names_told decls zero) (names_from decls a) a
    (basis-of (names_told decls zero) (names_from decls a) (step-tells decls zero) (forgotten-less (names_from decls (no_names decls)) (names_from decls a) (same-names decls (no_names decls) a)))
    h
stays-below decls a h (suc k) =
    basis-then (names_told decls (suc k)) (names_from decls a) a
    (basis-of (names_told decls (suc k)) (names_from decls a) (step-tells decls (suc k)) (basis-next decls (names_told decls k) a (stays-below decls a h k)))
    h

all-below : (decls : List (Decl ℕ)) (a : DeclaredNames) → BasisNoLess (names_from decls a) a → BasisNoLess (unit_names decls) a
unfolding unit_names
all-below decls a h = stays-below decls a h (suc (suc (steps_needed decls)))

ended : (decls : List (Decl ℕ)) (a : DeclaredNames) → Sound decls a → NothingLeft a (names_from decls a) → names_from decls a ≡ unit_names decls
ended decls a s f =
    let h = left-basis decls a s f in
    names-equal (names_from decls a) (unit_names decls) (from-below decls a s)
    (subst (λ b. TellsNoLess b (names_from decls a)) (settled decls) (basis-next decls (unit_names decls) a (all-below decls a h)))

pub told_laws : ToldLaws
told_laws = record { kinds = names-tell; next = next; grows = grows; settled = settled }

pub telling_laws : TellingLaws
telling_laws = record { begun = begun; type_next = type-next; global_next = global-next; member_next = member-next; ended = ended }
