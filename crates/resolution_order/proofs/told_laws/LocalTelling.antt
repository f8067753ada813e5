-- The locals of a routine or a program, told step by step and one by one.
use Rattle.std.proofs.Common.{◌≡◌, ℕ, zero, suc, ◌+◌, ◌≤◌, Bool, true, false, List, [], ◌∷◌, map, length, Option, Some, None, refl, sym, ap, subst, ◌∙◌, arith}
use Rattle.std.specs.Prelude.{if◌then◌else◌, filter, slice_get}
use Rattle.st_types.specs.declared.st_type.StType.{StType}
use Rattle.st_tree.specs.declared.declaration.Section.{Section}
use Rattle.st_tree.specs.declared.program.Target.{Target}
use Rattle.st_tree.specs.declared.type_spec.TypeSpec.{TypeSpec}
use Rattle.st_rules.specs.declared.names.DeclaredVariable.{DeclaredVariable}
use Rattle.st_rules.specs.declared.names.DeclaredGlobal.{DeclaredGlobal}
use Rattle.st_rules.specs.declared.names.DeclaredGlobal.TheVariants as global
use Rattle.st_rules.specs.declared.names.DeclaredNames.{DeclaredNames}
use Rattle.st_rules.specs.Scope.{Scope}
use Rattle.st_unit_rules.specs.declared_names.Constants.{is_told}
use Rattle.st_unit_rules.specs.declared_names.Variables.{Written, sections_written, declared_each, member_targets, members_declared, result_declared, locals_declared, routine_locals}
use Rattle.st_unit_rules.specs.declared_names.UnitNames.{forgotten, told_locals, constants_written, locals_of, program_locals}
use Rattle.resolution_order.specs.told_laws.ToldLaws.{Each, Every, AlikeVariable, AlikeType, NoLess, MeansNoLess, TellsKind}
use Rattle.resolution_order.proofs.told_laws.Basis.{VariableBasis, GlobalBasis, ClassBasis, PartsBasis, BasisNoLess}
use Rattle.st_rules.specs.Telling.{variable_told}
use Rattle.resolution_order.specs.told_laws.TellingLaws.{NoValueLeft}
use Rattle.resolution_order.specs.told_laws.LocalLaws.{with_local, SoundLocals, TellsAll, LocalLaws}
use Rattle.resolution_order.proofs.told_laws.Tells.{routine-tells, members-tell, told-tells}
use Rattle.resolution_order.proofs.told_laws.Next.{each-with, same-kind, variable-basis, Follows, routine-follows, members-follow, AnyKind, AnyTarget, routine-names, member-names, each-forgotten, forgotten-variable}
use Rattle.resolution_order.proofs.told_laws.Rounds.{after, settles}
use Rattle.resolution_order.proofs.told_laws.Settled.{tally, tally-append, tally-less, tally-back, both-of, untold_value, untold_variable, variable-less, variable-back, each-equal, variable-equal}
use Rattle.resolution_order.proofs.told_laws.Telling.{changed-is, one-changed, both-changed, variable-step, told-variable, value-left, each-three, each-then, variable-then}

-- ---- a scope whose other names stay

each-itself : {X : Type 0} (R : X → X → Type 0) → ((x : X) → R x x) → (xs : List X) → Each R xs xs
each-itself R h [] = tt
each-itself R h (x ∷ xs) = (h x, each-itself R h xs)

variable-itself : (v : DeclaredVariable) → VariableBasis v v
variable-itself v = record { name = refl; sort = refl; constant = refl; access = refl; located_input = refl; told = λ c t. refl }

global-itself : (g : DeclaredGlobal) → GlobalBasis g g
global-itself (global.Variable v) = variable-itself v
global-itself (global.Function k r) = refl

names-itself : (a : DeclaredNames) → BasisNoLess a a
names-itself a = record {
  types = each-itself (AlikeType NoLess MeansNoLess) (λ t. record { name = refl; kind = same-kind t.kind }) a.types;
  parts = each-itself PartsBasis (λ p. refl) a.parts;
  classes = each-itself ClassBasis (λ c. each-itself VariableBasis variable-itself c.variables) a.classes;
  globals = each-itself GlobalBasis global-itself a.globals;
}

follows-locals : (s : Scope) (vs ws : List DeclaredVariable) → Each VariableBasis vs ws → Follows (record s { locals = vs }) (record s { locals = ws })
follows-locals s vs ws h = record { same = refl; basis = names-itself s.names; mine = h }

-- ---- constants

constant_one : DeclaredVariable → ℕ
constant_one v = untold_value v.constant false

one-at-most : (b t : Bool) → untold_value b t ≤ untold_value b false
unfolding untold_value
one-at-most true true = omega arith
one-at-most true false = omega arith
one-at-most false t = omega arith

untold-at-most : (vs : List DeclaredVariable) → tally untold_variable vs ≤ tally constant_one vs
unfolding tally untold_variable constant_one
untold-at-most [] = omega arith
untold-at-most (v ∷ vs) =
    let x : untold_value v.constant (is_told v.target) ≤ untold_value v.constant false = one-at-most v.constant (is_told v.target) in
    let y : tally untold_variable vs ≤ tally constant_one vs = untold-at-most vs in
    omega arith

abbrev constants : List Written → List Written
constants ws = filter (λ w. w.constant) ws

counted : (b : Bool) (w : Written) (ws : List Written) (n : ℕ) → n ≤ length ws → untold_value b false + n ≤ length (if b then w ∷ ws else ws)
unfolding untold_value
counted true w ws n h = omega arith
counted false w ws n h = omega arith

-- as many as are written, whatever they mean
each-at-most : (s : Scope) (ts : List Target) (ws : List Written) → tally constant_one (declared_each s ts ws) ≤ length (constants ws)
unfolding tally constant_one
each-at-most s [] ws = omega arith
each-at-most s (t ∷ ts) [] = omega arith
each-at-most s (t ∷ ts) (w ∷ ws) = counted w.constant w (constants ws) (tally constant_one (declared_each s ts ws)) (each-at-most s ts ws)

result-has-none : (s : Scope) (name : List ℕ) (result : Option (TypeSpec ℕ)) → tally constant_one (result_declared s name result) ≡ 0
unfolding tally constant_one untold_value
result-has-none s name None = refl
result-has-none s name (Some t) = omega arith

routine-at-most : (s : Scope) (name : List ℕ) (result : Option (TypeSpec ℕ)) (ss : List (Section ℕ)) → tally constant_one (routine_locals s name result ss) ≤ length (constants_written ss)
unfolding routine_locals
routine-at-most s name result ss =
    let x = result-has-none s name result in
    let y : tally constant_one (locals_declared s result ss) ≤ length (constants_written ss) = each-at-most s _ (sections_written ss) in
    let z = tally-append constant_one (result_declared s name result) (locals_declared s result ss) in
    omega arith

members-at-most : (s : Scope) (k l : ℕ) (ss : List (Section ℕ)) → tally constant_one (members_declared s k l ss) ≤ length (constants_written ss)
members-at-most s k l ss = each-at-most s (member_targets s k l (sections_written ss)) (sections_written ss)

forgotten-as-many : (vs : List DeclaredVariable) → tally constant_one (map forgotten vs) ≡ tally constant_one vs
unfolding tally constant_one
forgotten-as-many [] = refl
forgotten-as-many (v ∷ vs) = ap (λ n. untold_value v.constant false + n) (forgotten-as-many vs)

-- ---- step by step

abbrev NoLessOf : List DeclaredVariable → List DeclaredVariable → Type 0
NoLessOf vs ws = Each (AlikeVariable NoLess MeansNoLess) vs ws

abbrev BasisOf : List DeclaredVariable → List DeclaredVariable → Type 0
BasisOf vs ws = Each VariableBasis vs ws

abbrev Kinds : List DeclaredVariable → Type 0
Kinds vs = Every TellsKind vs

basis-from : (vs ws : List DeclaredVariable) → Kinds vs → NoLessOf vs ws → BasisOf vs ws
basis-from vs ws k h = each-with (AlikeVariable NoLess MeansNoLess) TellsKind VariableBasis variable-basis vs ws h k

untold : List DeclaredVariable → ℕ
untold vs = tally untold_variable vs

less : (vs ws : List DeclaredVariable) → Kinds vs → NoLessOf vs ws → untold ws ≤ untold vs
unfolding untold
less vs ws k h = tally-less (AlikeVariable NoLess MeansNoLess) untold_variable variable-less vs ws h

back : (vs ws : List DeclaredVariable) → Kinds vs → NoLessOf vs ws → untold vs ≤ untold ws → BasisOf ws vs
unfolding untold
back vs ws k h e =
    tally-back (λ v w. AlikeVariable NoLess MeansNoLess v w × TellsKind v) VariableBasis untold_variable (λ v w q. variable-less v w q.0) variable-back vs ws
    (both-of (AlikeVariable NoLess MeansNoLess) TellsKind vs ws h k) e

locals-equal : (vs ws : List DeclaredVariable) → NoLessOf vs ws → NoLessOf ws vs → vs ≡ ws
locals-equal vs ws h k = each-equal (AlikeVariable NoLess MeansNoLess) variable-equal vs ws h k

module _
    (s : Scope) (gives : Scope → List DeclaredVariable) (most : ℕ)
    (alike : (t u : Scope) → Follows t u → NoLessOf (gives t) (gives u))
    (names : (t u : Scope) → Each (AlikeVariable AnyKind AnyTarget) (gives t) (gives u))
    (tells-kinds : (t : Scope) → Kinds (gives t))
    (at-most : (t : Scope) → tally constant_one (gives t) ≤ most)
  where
    abbrev round : List DeclaredVariable → List DeclaredVariable
    round vs = gives (record s { locals = vs })

    basis-next : (vs ws : List DeclaredVariable) → BasisOf vs ws → NoLessOf (round vs) (round ws)
    basis-next vs ws h = alike (record s { locals = vs }) (record s { locals = ws }) (follows-locals s vs ws h)

    next : (vs ws : List DeclaredVariable) → Kinds vs → NoLessOf vs ws → NoLessOf (round vs) (round ws)
    next vs ws k h = basis-next vs ws (basis-from vs ws k h)

    stays : (vs ws : List DeclaredVariable) → Kinds vs → NoLessOf vs ws → untold vs ≤ untold ws → round vs ≡ round ws
    stays vs ws k h e = locals-equal (round vs) (round ws) (next vs ws k h) (basis-next ws vs (back vs ws k h e))

    step-tells : (k : ℕ) → Kinds (told_locals s gives k)
    step-tells k = told-tells s gives tells-kinds k

    first-below : (t : Scope) → NoLessOf (told_locals s gives zero) (gives t)
    first-below t = each-forgotten (AlikeVariable AnyKind AnyTarget) (AlikeVariable NoLess MeansNoLess) forgotten forgotten-variable (gives s) (gives t) (names s t)

    first-at-most : untold (told_locals s gives zero) ≤ most
    unfolding untold
    first-at-most =
        let x = untold-at-most (map forgotten (gives s)) in
        let y = forgotten-as-many (gives s) in
        let z = at-most s in
        omega arith

    told-after : (m : ℕ) → after round m (round (told_locals s gives zero)) ≡ told_locals s gives (suc m)
    unfolding after
    told-after zero = refl
    told-after (suc m) = ap round (told-after m)

    settled : round (told_locals s gives (suc most)) ≡ told_locals s gives (suc most)
    settled =
        let e = told-after most in
        sym (ap round e)
        ∙ settles round Kinds NoLessOf untold (λ vs. tells-kinds (record s { locals = vs })) next less stays most (told_locals s gives zero) (step-tells zero) (first-below (record s { locals = told_locals s gives zero })) first-at-most
        ∙ e

    -- ---- one by one

    abbrev all : List DeclaredVariable
    all = told_locals s gives (suc most)

    from-below : (vs : List DeclaredVariable) → SoundLocals vs all → NoLessOf (round vs) all
    from-below vs h = subst (λ ws. NoLessOf (round vs) ws) settled (next vs all h.kinds h.below)

    begun : SoundLocals (map forgotten (gives s)) all
    begun = record { kinds = step-tells zero; below = first-below (record s { locals = told_locals s gives most }) }

    next-told : (vs : List DeclaredVariable) (i : ℕ) (v : DeclaredVariable) (t : StType) → SoundLocals vs all → slice_get (round vs) i ≡ Some v → v.kind ≡ Some t → SoundLocals (with_local vs i t v.target) all
    next-told vs i v t h g e = record {
      kinds = one-changed TellsKind (variable_told t v.target) (λ y k. λ n m. refl) i vs h.kinds;
      below = changed-is (AlikeVariable NoLess MeansNoLess) (variable_told t v.target) v (told-variable v t e) i vs (round vs) all h.below (from-below vs h) g;
    }

    left-basis : (vs : List DeclaredVariable) → SoundLocals vs all → Each NoValueLeft vs (round vs) → BasisOf (round vs) vs
    left-basis vs h f = each-three (AlikeVariable NoLess MeansNoLess) NoValueLeft VariableBasis TellsKind value-left vs (round vs) all h.below (from-below vs h) f h.kinds (tells-kinds (record s { locals = vs }))

    stays-below : (vs : List DeclaredVariable) → BasisOf (round vs) vs → (k : ℕ) → BasisOf (told_locals s gives k) vs
    stays-below vs h zero =
        each-then VariableBasis variable-then (told_locals s gives zero) (round vs) vs (basis-from (told_locals s gives zero) (round vs) (step-tells zero) (first-below (record s { locals = vs }))) h
    stays-below vs h (suc k) =
        each-then VariableBasis variable-then (told_locals s gives (suc k)) (round vs) vs
        (basis-from (told_locals s gives (suc k)) (round vs) (step-tells (suc k)) (basis-next (told_locals s gives k) vs (stays-below vs h k))) h

    ended : (vs : List DeclaredVariable) → SoundLocals vs all → Each NoValueLeft vs (round vs) → round vs ≡ all
    ended vs h f =
        locals-equal (round vs) all (from-below vs h)
        (subst (λ ws. NoLessOf ws (round vs)) settled (basis-next all vs (stays-below vs (left-basis vs h f) (suc most))))

    tells-all : TellsAll round (map forgotten (gives s)) all
    tells-all = record {
      begun = begun;
      next = next-told;
      round = λ vs h. record { kinds = tells-kinds (record s { locals = vs }); below = from-below vs h };
      ended = ended;
      settled = settled;
    }

-- what may be told of a local may be told whatever else is told
pub again : (vs us all : List DeclaredVariable) (i : ℕ) (t : StType) (meant : Target) → SoundLocals us all → SoundLocals (with_local vs i t meant) all → SoundLocals (with_local us i t meant) all
again vs us all i t meant h k = record {
  kinds = one-changed TellsKind (variable_told t meant) (λ v e. λ f g. refl) i us h.kinds;
  below = both-changed (AlikeVariable NoLess MeansNoLess) (variable_told t meant) (variable-step t meant) i us vs all h.below k.below;
}

-- ---- routines and programs

routine-tells-all : (s : Scope) (name : List ℕ) (result : Option (TypeSpec ℕ)) (ss : List (Section ℕ))
    → TellsAll (λ vs. routine_locals (record s { locals = vs }) name result ss) (map forgotten (routine_locals s name result ss)) (locals_of s name result ss)
unfolding locals_of
routine-tells-all s name result ss =
    tells-all s (λ t. routine_locals t name result ss) (length (constants_written ss))
    (λ t u f. routine-follows t u f name result ss) (λ t u. routine-names t u name result ss) (λ t. routine-tells t name result ss) (λ t. routine-at-most t name result ss)

program-tells-all : (s : Scope) (ss : List (Section ℕ))
    → TellsAll (λ vs. members_declared (record s { locals = vs }) 0 0 ss) (map forgotten (members_declared s 0 0 ss)) (program_locals s ss)
unfolding program_locals
program-tells-all s ss =
    tells-all s (λ t. members_declared t 0 0 ss) (length (constants_written ss))
    (λ t u f. members-follow t u f 0 0 ss) (λ t u. member-names t u 0 0 ss) (λ t. members-tell t 0 0 (sections_written ss)) (λ t. members-at-most t 0 0 ss)

pub local_laws : LocalLaws
local_laws = record { routine = routine-tells-all; program = program-tells-all }
