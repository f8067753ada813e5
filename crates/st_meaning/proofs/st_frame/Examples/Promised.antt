-- A program that keeps all that the checker promises, so the laws that ask for it are not empty: a class, one that is derived from it and
-- overrides its method by way of SUPER, and a program that takes a reference and calls through it.
--   CLASS A VAR n : INT; END_VAR METHOD m : INT VAR_INPUT x : INT; END_VAR n := n + x; m := n; END_METHOD END_CLASS
--   CLASS B EXTENDS A METHOD OVERRIDE m : INT VAR_INPUT x : INT; END_VAR m := SUPER.m(x := x); END_METHOD END_CLASS
--   PROGRAM P VAR b1 : B; r : REF_TO A; y AT %QW0 : INT; END_VAR r := REF(b1); y := r^.m(x := 1); END_PROGRAM
use Rattle.std.proofs.Common.{◌≡◌, ◌⊎◌, ◌<◌, ℕ, zero, suc, pos, Bool, true, false, List, [], ◌∷◌, length, Some, None, refl, sym, ap, ◌∙◌, subst, arith, inl, inr}
use Rattle.std.specs.Prelude.{codes, if◌then◌else◌, ◌||◌, nat_eq, slice_get, IsTrue}
use Rattle.std.proofs.lemmas.Bool.{eqb-true}
use Rattle.plc_text.specs.Words.{same}
use Rattle.st_types.specs.declared.elem.Elem.TheVariants as elem
use Rattle.st_types.specs.declared.st_type.StType.{StType, out-StType}
use Rattle.st_types.specs.declared.st_type.StType.TheVariants as type
use Rattle.st_types.specs.Widening.{itself}
use Rattle.st_tree.specs.declared.declaration.SectionSort.TheVariants as sort
use Rattle.st_tree.specs.declared.expression.Operator.TheVariants as operator
use Rattle.st_tree.specs.declared.program.Note.{Note}
use Rattle.st_tree.specs.declared.program.Target.TheVariants as target
use Rattle.st_tree.specs.Expression.{Expression, arguments}
use Rattle.st_rules.specs.Chains.{is_among, ◌or_else◌}
use Rattle.st_values.specs.Program.{Variable, Parameter, Routine, Class, Program, class_at, class_number, chain_of, class_variables, conforms, lookup, body_of}
use Rattle.st_types.specs.Range.{Fits}
use Rattle.st_values.specs.Shape.{Elementary, Reference, Instance, no_fields, field_then, shape_of, path_shape}
use Rattle.st_meaning.specs.st_frame.Footprint.{Has, Enters, by_number, by_class, by_text, by_body, by_base}
use Rattle.st_meaning.specs.ProcessImage.{Located, located_of}
use Rattle.st_meaning.specs.Enter.{programs_of}
use Rattle.st_meaning.specs.st_frame.Use.{Called, a_method_of, a_method_from}
use Rattle.st_meaning.specs.st_frame.Promise.Types.{same_type, wider_path}
use Rattle.st_meaning.specs.st_frame.Promise.Calls.{HasInstance, Answers, ResultIs}
use Rattle.st_meaning.specs.st_frame.Promise.Expressions.{ArgumentsAre}
use Rattle.st_meaning.specs.st_frame.Promise.Declarations.{Each, VariableFits, LocalIs, AreApart, RoutineIs, scope_of}
use Rattle.st_meaning.specs.st_frame.Promise.Programs.{Above, EndsWith, ProgramIs, TaskRegionIs}
use Rattle.st_meaning.proofs.st_frame.OfTypes.{bit_fits}
use Rattle.st_meaning.proofs.Builder.{int, lit, var, op, ref, dot, caret, arg, send, send_super, set, variable, own, located, method, no_body, class, program_class, global, instance_of, task}

abbrev n : Variable
n = own (codes "N") int

abbrev x : Variable
x = variable sort.Input (codes "X") int None

abbrev first : Routine
first =
    method (codes "M") 1 (Some 0) int (x ∷ [])
    (set 1 int (target.Variable 0) (op int (var int (target.Variable 0)) operator.Plus (var int (target.Local 1))) ∷ set 1 int (target.Local 0) (var int (target.Variable 0)) ∷ [])

abbrev second : Routine
second = method (codes "M") 2 (Some 1) int (x ∷ []) (set 2 int (target.Local 0) (send_super int (type.Instance 0) (dot int (target.Method 0) (codes "M") ∷ []) (arg 0 (var int (target.Local 1)) ∷ [])) ∷ [])

abbrev b1 : Variable
b1 = own (codes "B1") (type.Instance 1)

abbrev r : Variable
r = own (codes "R") (type.Reference 0)

abbrev y : Variable
y = located (codes "Y") int (codes "%QW0")

abbrev a_class : Class
a_class = class (codes "A") 0 [] [] (n ∷ []) (first ∷ [])

abbrev b_class : Class
b_class = class (codes "B") 1 (0 ∷ []) [] [] (second ∷ [])

abbrev p_class : Class
p_class =
    program_class (codes "P") 2 (b1 ∷ r ∷ y ∷ [])
    (set 3 (type.Reference 0) (target.Variable 1) (ref (type.Reference 1) (type.Instance 1) (target.Variable 0) [])
    ∷ set 4 int (target.Variable 2) (send int (type.Reference 0) (target.Variable 1) (caret (type.Instance 0) ∷ dot int (target.Method 0) (codes "M") ∷ []) (arg 0 (lit int (codes "1")) ∷ []))
    ∷ [])

abbrev sample : Program
sample = record {
  types = [];
  classes = a_class ∷ b_class ∷ p_class ∷ [];
  interfaces = [];
  functions = [];
  regions = global (own (codes "G") int) ∷ instance_of (codes "P1") 2 ∷ [];
  tasks = task (codes "MAIN") (1 ∷ []) ∷ [];
}

-- ---- classes

only_one : (m d : ℕ) → is_among d (m ∷ []) ≡ true → d ≡ m
only_one m d h = by (nat_eq d m) refl h
  where
    by : (b : Bool) → nat_eq d m ≡ b → (b || false) ≡ true → d ≡ m
    by true e h = eqb-true d m e
    by false e h = cc

one_of_two : (m k d : ℕ) → is_among d (m ∷ k ∷ []) ≡ true → (d ≡ m) ⊎ (d ≡ k)
one_of_two m k d h = by (nat_eq d m) refl h
  where
    by : (b : Bool) → nat_eq d m ≡ b → (b || is_among d (k ∷ [])) ≡ true → (d ≡ m) ⊎ (d ≡ k)
    by true e h = inl (eqb-true d m e)
    by false e h = inr (only_one k d h)

numbered : (c : ℕ) (k : Class) → class_at sample c ≡ Some k → class_number sample k.name ≡ Some c
unfolding class_number
numbered zero k e = let d : a_class ≡ k = cc in subst (λ z. class_number sample z.name ≡ Some 0) d refl
numbered (suc zero) k e = let d : b_class ≡ k = cc in subst (λ z. class_number sample z.name ≡ Some 1) d refl
numbered (suc (suc zero)) k e = let d : p_class ≡ k = cc in subst (λ z. class_number sample z.name ≡ Some 2) d refl
numbered (suc (suc (suc c))) k e = cc

itself_conforms : (c : ℕ) (k : Class) → class_at sample c ≡ Some k → IsTrue (conforms sample c (type.Instance c))
unfolding conforms
itself_conforms zero k e = refl
itself_conforms (suc zero) k e = refl
itself_conforms (suc (suc zero)) k e = refl
itself_conforms (suc (suc (suc c))) k e = cc

-- what the base conforms to the derived class does
from_base : (t : StType) → IsTrue (conforms sample 0 t) → IsTrue (conforms sample 1 t)
unfolding conforms
from_base (type.Instance d) h = let e = only_one 0 d h in subst (λ z. is_among z (1 ∷ 0 ∷ []) ≡ true) (sym e) refl
from_base (type.Reference d) h = let e = only_one 0 d h in subst (λ z. is_among z (1 ∷ 0 ∷ []) ≡ true) (sym e) refl
from_base (type.Interface i) h = cc
from_base t h = cc

above : (c d : ℕ) → IsTrue (conforms sample c (type.Instance d)) → (c ≡ d) ⊎ ((c ≡ 1) × (d ≡ 0))
unfolding conforms
above zero d h = inl (sym (only_one 0 d h))
above (suc zero) d h = elim (one_of_two 1 0 d h) [ inl e ↦ inl (sym e) | inr e ↦ inr (refl, e) ]
above (suc (suc zero)) d h = inl (sym (only_one 2 d h))
above (suc (suc (suc c))) d h = cc

upward : (c d : ℕ) (t : StType) → IsTrue (conforms sample c (type.Instance d)) → IsTrue (conforms sample d t) → IsTrue (conforms sample c t)
upward c d t h k =
    elim (above c d h) [
      | inl e ↦ subst (λ z. IsTrue (conforms sample z t)) (sym e) k
      | inr e ↦ subst (λ z. IsTrue (conforms sample z t)) (sym e.0) (from_base t (subst (λ z. IsTrue (conforms sample z t)) e.1 k))
    ]

same_variables : class_variables sample 0 ≡ class_variables sample 1
unfolding class_variables
same_variables = refl

variables_above : (c d k : ℕ) (v : Variable) → IsTrue (conforms sample c (type.Instance d)) → slice_get (class_variables sample d) k ≡ Some v → slice_get (class_variables sample c) k ≡ Some v
variables_above c d k v h e =
    elim (above c d h) [
      | inl q ↦ subst (λ z. slice_get (class_variables sample z) k ≡ Some v) (sym q) e
      | inr q ↦ subst (λ z. slice_get (class_variables sample z) k ≡ Some v) (sym q.0) (ap (λ vs. slice_get vs k) (sym same_variables) ∙ subst (λ z. slice_get (class_variables sample z) k ≡ Some v) q.1 e)
    ]

bases : (c d : ℕ) → is_among d (chain_of (class_at sample c)) ≡ true → d < length sample.classes
bases zero d h = let e = only_one 0 d h in omega (arith, e)
bases (suc zero) d h = elim (one_of_two 1 0 d h) [ inl e ↦ omega (arith, e) | inr e ↦ omega (arith, e) ]
bases (suc (suc zero)) d h = let e = only_one 2 d h in omega (arith, e)
bases (suc (suc (suc c))) d h = cc

chains : (c d : ℕ) → IsTrue (conforms sample c (type.Instance d)) → EndsWith sample c d
chains c d h =
    elim (above c d h) [
      | inl q ↦ subst (λ z. EndsWith sample c z) q ([], refl)
      | inr q ↦ subst (λ z. EndsWith sample z d) (sym q.0) (subst (λ z. EndsWith sample 1 z) (sym q.1) (1 ∷ [], refl))
    ]

-- ---- methods

found_first : (b : Bool) (m : Routine) → ((if b then Some first else None) or_else None) ≡ Some m → first ≡ m
found_first true m e = cc
found_first false m e = cc

found_second : (b : Bool) (m : Routine) → ((if b then Some second else None) or_else ((if b then Some first else None) or_else None)) ≡ Some m → second ≡ m
found_second true m e = cc
found_second false m e = cc

-- the method of a class
abbrev Found : ℕ → Routine → Type 0
Found c m = ((c ≡ 0) × (first ≡ m)) ⊎ ((c ≡ 1) × (second ≡ m))

found : (c : ℕ) (name : List ℕ) (m : Routine) → lookup sample c name ≡ Some m → Found c m
unfolding lookup
found zero name m e = inl (refl, found_first (same (codes "M") name) m e)
found (suc zero) name m e = inr (refl, found_second (same (codes "M") name) m e)
found (suc (suc zero)) name m e = cc
found (suc (suc (suc c))) name m e = cc

methods_above : (c : ℕ) (name : List ℕ) (m : Routine) → lookup sample c name ≡ Some m → Above sample c m.class
unfolding conforms
methods_above c name m e =
    elim (found c name m e) [
      | inl h ↦ subst (λ z. Above sample z m.class) (sym h.0) (subst (λ z. Above sample 0 z.class) h.1 refl)
      | inr h ↦ subst (λ z. Above sample z m.class) (sym h.0) (subst (λ z. Above sample 1 z.class) h.1 refl)
    ]

-- ---- what calls enter

through : (k : Called) (t : StType) (name : List ℕ) (m : Routine) → Enters sample k m → k ≡ a_method_of t name → (c : ℕ) × IsTrue (conforms sample c t) × (lookup sample c name ≡ Some m)
through k t name m (by_class {t = u} {name = o} c h e) q =
    let a : u ≡ t = cc in
    let b : o ≡ name = cc in
    (c, subst (λ z. IsTrue (conforms sample c z)) a h, subst (λ z. lookup sample c z ≡ Some m) b e)
through k t name m (by_number e) q = cc
through k t name m (by_text e) q = cc
through k t name m (by_body c h e) q = cc
through k t name m (by_base e) q = cc

by_super : (k : Called) (d : ℕ) (name : List ℕ) (m : Routine) → Enters sample k m → k ≡ a_method_from d name → lookup sample d name ≡ Some m
by_super k d name m (by_text {d = f} {name = o} e) q =
    let a : f ≡ d = cc in
    let b : o ≡ name = cc in
    subst (λ z. lookup sample z name ≡ Some m) a (subst (λ z. lookup sample f z ≡ Some m) b e)
by_super k d name m (by_number e) q = cc
by_super k d name m (by_class c h e) q = cc
by_super k d name m (by_body c h e) q = cc
by_super k d name m (by_base e) q = cc

-- ---- routines

local_is : LocalIs sample (variable sort.Var (codes "M") int None)
unfolding out-StType denote.Hole.Carrier.out
local_is = λ e. (Elementary elem.Int, refl, bit_fits elem.Int 0 (omega arith), refl)

input_is : LocalIs sample x
unfolding out-StType denote.Hole.Carrier.out
input_is = λ e. (Elementary elem.Int, refl, bit_fits elem.Int 0 (omega arith), refl)

abbrev result : Variable
result = variable sort.Var (codes "M") int None

none_apart : AreApart []
none_apart = record { by = λ i j q m e f h. cc }

one_apart : (o : Parameter) → AreApart (o ∷ [])
one_apart o = record { by = by }
  where
    by : (i j : ℕ) (q m : Parameter) → slice_get (o ∷ []) i ≡ Some q → slice_get (o ∷ []) j ≡ Some m → q.to ≡ m.to → i ≡ j
    by zero zero q m e f h = refl
    by zero (suc j) q m e f h = cc
    by (suc i) j q m e f h = cc

first_is : RoutineIs sample first
unfolding class_variables
first_is = record {
  locals = (local_is, (input_is, tt));
  parameters = ((x, refl, refl, λ e. tt, λ e. tt), tt);
  apart = one_apart _;
  body = (
    (((n, refl, refl), tt, refl), tt, (((n, refl, refl), tt, refl), (((x, refl, refl), tt, refl), (elem.Int, elem.Int, elem.Int, refl, refl, refl, itself, itself), refl)), same_type),
    ((((result, refl, refl), tt, refl), tt, ((n, refl, refl), tt, refl), same_type), tt),
  );
}

-- what is asked of a routine that a call with x enters
abbrev Fine : Routine → Expression Note → Called → Routine → Type 0
Fine from e k m = Answers sample k (λ y. ResultIs y int × ArgumentsAre sample (scope_of from) y first.parameters first.parameters (arguments (arg 0 e ∷ []))) m

first_fine : Fine second (var int (target.Local 1)) (a_method_from 0 (codes "M")) first
unfolding lookup
first_fine = record {
  rest = [];
  begins = refl;
  few = omega arith;
  suits = ((result, refl, refl, refl), (((x, refl, refl), tt, refl), (x, refl, λ h. cc, λ h. same_type), tt));
}

second_is : RoutineIs sample second
unfolding conforms lookup
second_is = record {
  locals = (local_is, (input_is, tt));
  parameters = ((x, refl, refl, λ e. tt, λ e. tt), tt);
  apart = one_apart _;
  body = (
    (
      ((result, refl, refl), tt, refl),
      tt,
      (
        tt,
        (
          ((1, 0, refl, refl, refl), tt),
          tt,
          record { by = λ m e l. subst (Fine second (var int (target.Local 1)) (a_method_from 0 (codes "M"))) (entered m (by_super (a_method_from 0 (codes "M")) 0 (codes "M") m e refl)) first_fine; found = (first, refl) },
          ((((x, refl, refl), tt, refl), (refl, λ h. tt), tt), (refl, tt)),
        ),
      ),
      same_type,
    ),
    tt,
  );
}
  where
    entered : (m : Routine) → lookup sample 0 (codes "M") ≡ Some m → first ≡ m
    entered m e = cc

one_fits : Fits elem.Int (pos 1)
one_fits = bit_fits elem.Int 1 (omega arith)

called : (m : Routine) (c : ℕ) → Found c m → Fine p_class.body (lit int (codes "1")) (a_method_of (type.Instance 0) (codes "M")) m
unfolding lookup
called m c (inl h) =
    subst (Fine p_class.body (lit int (codes "1")) (a_method_of (type.Instance 0) (codes "M"))) h.1
    (record { rest = []; begins = refl; few = omega arith; suits = ((result, refl, refl, refl), ((elem.Int, refl, one_fits), (x, refl, λ e. cc, λ e. same_type), tt)) })
called m c (inr h) =
    subst (Fine p_class.body (lit int (codes "1")) (a_method_of (type.Instance 0) (codes "M"))) h.1
    (record { rest = []; begins = refl; few = omega arith; suits = ((result, refl, refl, refl), ((elem.Int, refl, one_fits), (x, refl, λ e. cc, λ e. same_type), tt)) })

derived_conforms : (c : ℕ) → IsTrue (conforms sample c (type.Reference 1)) → IsTrue (conforms sample c (type.Reference 0))
unfolding conforms
derived_conforms zero h = cc
derived_conforms (suc zero) h = refl
derived_conforms (suc (suc zero)) h = cc
derived_conforms (suc (suc (suc c))) h = cc

all_found : (c : ℕ) → HasInstance sample c → IsTrue (conforms sample c (type.Instance 0)) → (m : Routine) × (lookup sample c (codes "M") ≡ Some m)
unfolding conforms lookup
all_found zero i h = (first, refl)
all_found (suc zero) i h = (second, refl)
all_found (suc (suc zero)) i h = cc
all_found (suc (suc (suc c))) i h = cc

program_is : RoutineIs sample p_class.body
unfolding class_variables lookup
program_is = record {
  locals = tt;
  parameters = tt;
  apart = none_apart;
  body = (
    (((r, refl, refl), tt, refl), tt, ((b1, refl, refl), tt, (1, refl, refl)), wider_path tt tt (record { by = derived_conforms })),
    (
      (
        ((y, refl, refl), tt, refl),
        tt,
        (
          tt,
          (
            ((r, refl, refl), (refl, tt)),
            tt,
            record {
              by = λ m e l. let a = through (a_method_of (type.Instance 0) (codes "M")) (type.Instance 0) (codes "M") m e refl in called m a.0 (found a.0 (codes "M") m a.2);
              found = ((first, refl), all_found);
            },
            (((elem.Int, refl, one_fits), (refl, λ e. cc), tt), (refl, tt)),
          ),
        ),
        same_type,
      ),
      tt,
    ),
  );
}

methods_are : (c : ℕ) (name : List ℕ) (m : Routine) → lookup sample c name ≡ Some m → RoutineIs sample m
methods_are c name m e = elim (found c name m e) [ inl h ↦ subst (RoutineIs sample) h.1 first_is | inr h ↦ subst (RoutineIs sample) h.1 second_is ]

-- ---- bodies

empty_is : (name : List ℕ) (c : ℕ) → RoutineIs sample (no_body name c)
empty_is name c = record { locals = tt; parameters = tt; apart = none_apart; body = tt }

bodies_own : (c : ℕ) (m : Routine) → body_of sample c ≡ Some m → m.class ≡ Some c
bodies_own zero m e = let d : no_body (codes "A") 0 ≡ m = cc in subst (λ z. z.class ≡ Some 0) d refl
bodies_own (suc zero) m e = let d : no_body (codes "B") 1 ≡ m = cc in subst (λ z. z.class ≡ Some 1) d refl
bodies_own (suc (suc zero)) m e = let d : p_class.body ≡ m = cc in subst (λ z. z.class ≡ Some 2) d refl
bodies_own (suc (suc (suc c))) m e = cc

bodies_are : (c : ℕ) (m : Routine) → body_of sample c ≡ Some m → RoutineIs sample m
bodies_are zero m e = let d : no_body (codes "A") 0 ≡ m = cc in subst (RoutineIs sample) d (empty_is (codes "A") 0)
bodies_are (suc zero) m e = let d : no_body (codes "B") 1 ≡ m = cc in subst (RoutineIs sample) d (empty_is (codes "B") 1)
bodies_are (suc (suc zero)) m e = let d : p_class.body ≡ m = cc in subst (RoutineIs sample) d program_is
bodies_are (suc (suc (suc c))) m e = cc

-- ---- regions and tasks

shape_of_program : shape_of sample (type.Instance 2)
    ≡ Some (Instance 2 (codes "P") (field_then b1 (Instance 1 (codes "B") (field_then n (Elementary elem.Int) no_fields)) (field_then r (Reference 0 (codes "A")) (field_then y (Elementary elem.Int) no_fields))))
unfolding class_variables out-StType denote.Hole.Carrier.out
shape_of_program = refl

zero_fits : Fits elem.Int (pos 0)
zero_fits = bit_fits elem.Int 0 (omega arith)

global_fits : VariableFits sample (own (codes "G") int)
unfolding out-StType denote.Hole.Carrier.out
global_fits = (Elementary elem.Int, refl, zero_fits)

regions_fit : Each (λ z. VariableFits sample z.variable) sample.regions
regions_fit = (global_fits, ((Instance 2 (codes "P") _, shape_of_program, ((zero_fits, tt), (tt, (zero_fits, tt)))), tt))

located_is : (z : Located) → Has (located_of sample) z → path_shape sample z.path ≡ Some (Elementary z.elem)
unfolding class_variables out-StType denote.Hole.Carrier.out
located_is z (inl e) = subst (λ w. path_shape sample w.path ≡ Some (Elementary w.elem)) (sym e) refl
located_is z (inr h) = absurd h

tasks_are : (t q : ℕ) → Has (programs_of sample t) q → TaskRegionIs sample q
tasks_are zero q (inl e) = subst (TaskRegionIs sample) (sym e) (record { region = instance_of (codes "P1") 2; class = 2; text = p_class; there = refl; marked = refl; kind = refl; class_there = refl; sort = refl })
tasks_are zero q (inr h) = absurd h
tasks_are (suc t) q h = absurd h

pub promised : ProgramIs sample
promised = record {
  numbered = numbered;
  itself = itself_conforms;
  upward = upward;
  variables_above = variables_above;
  bases = bases;
  chains = chains;
  methods_above = methods_above;
  methods = methods_are;
  bodies_own = bodies_own;
  bodies = bodies_are;
  functions = λ k m e. cc;
  few = omega arith;
  regions = regions_fit;
  located = located_is;
  tasks = tasks_are;
}
