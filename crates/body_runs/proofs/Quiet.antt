-- What calls nothing leaves the state as it is.
use Rattle.std.proofs.Common.{◌≡◌, ℕ, zero, suc, ℤ, pos, negsuc, Bool, true, false, Option, Some, None, refl, ap, ◌∙◌}
use Rattle.std.specs.Prelude.{if◌then◌else◌, ◌&&◌}
use Rattle.plc_text.specs.declared.fault.FaultKind.{FaultKind}
use Rattle.plc_text.specs.declared.fault.FaultKind.TheVariants as fault
use Rattle.st_types.specs.declared.elem.Elem.{Elem}
use Rattle.st_types.specs.declared.st_type.StType.{StType}
use Rattle.st_types.specs.declared.st_type.StType.TheVariants as type
use Rattle.plc_num.specs.Arithmetic.{quotient, remainder}
use Rattle.st_tree.specs.declared.expression.Operator.{Operator}
use Rattle.st_tree.specs.declared.expression.Root.{Root}
use Rattle.st_tree.specs.declared.program.Note.{Note}
use Rattle.st_tree.specs.declared.program.Target.{Target}
use Rattle.st_tree.specs.Expression.{Expression, Int, Typed, Time, True, False, Null, Place, Call, Enumerator, Ref, Now, Paren, Not, Negate, Chain, Expressions, no_expressions, expression_then, Selector, Field, Index, Selectors, no_selectors, selector_then, Positional, Input, Output, Arguments, no_arguments, argument_then, Tails, no_tails, tail_then}
use Rattle.st_tree.specs.declared.expression.Operator.TheVariants as operator
use Rattle.st_tree.specs.declared.expression.Root.TheVariants as root
use Rattle.st_tree.specs.declared.program.Target.TheVariants as target
use Rattle.st_tree.specs.Expression as tree
use Rattle.st_values.specs.Program.{Program}
use Rattle.st_values.specs.Value.{Value, member}
use Rattle.st_meaning.specs.State.{Spot, in_store, in_frame, Frame, State, Outcome, Done, Fault, Run, go_on, ◌>>=◌, gives, fails, some_or, moment, region_value, frame_at, frame_value, local_value, own_in, own, local_spot_in, local_spot, read}
use Rattle.st_meaning.specs.Operation.{number_in, divided, operation}
use Rattle.st_meaning.specs.Place.{named_spot, root_spot, held_spot, followed, instance_of, part_named}
use Rattle.st_meaning.specs.Call.{Callee, a_conversion, callee_of, Enter, call_value}
use Rattle.st_meaning.specs.Expression.{place_value, name_value, operated, placed, along, selected, indexed, value, chained, operand, place}
use Rattle.code_rules.specs.Code.{is_conversion, way_is_quiet, step_is_quiet, are_quiet, is_quiet, tails_are_quiet, operand_is_quiet}

pub record Quiet {A : Type 0} (m : Run A) : Type 0 where
  pub by : (line : ℕ) (s : State) (a : A) (t : State) → m line s ≡ Done a t → s ≡ t

abbrev state_of : {A : Type 0} → State → Outcome A → State
state_of s (Done a t) = t
state_of s (Fault k line) = s

then_quiet : {A B : Type 0} (m : Run A) (f : A → Run B) → Quiet m → ((a : A) → Quiet (f a)) → Quiet (m >>= f)
then_quiet {A = A} {B = B} m f h k = record { by = λ line s b t e. go line s b t (m line s) refl e }
  where
    go : (line : ℕ) (s : State) (b : B) (t : State) (o : Outcome A) → m line s ≡ o → go_on o (λ a. f a line) ≡ Done b t → s ≡ t
    go line s b t (Done a u) e q = h.by line s a u e ∙ (k a).by line u b t q
    go line s b t (Fault x y) e q = cc

gives_quiet : {A : Type 0} (a : A) → Quiet (gives a)
gives_quiet a = record { by = λ line s b t e. ap (state_of s) e }

fails_quiet : {A : Type 0} (k : FaultKind) → Quiet (fails {A = A} k)
fails_quiet {A = A} k = record { by = λ line s a t e. none k line s a t e }
  where
    none : (k : FaultKind) (line : ℕ) (s : State) (a : A) (t : State) → Fault k line ≡ Done a t → s ≡ t
    none k line s a t e = cc

some_quiet : {A : Type 0} (k : FaultKind) (o : Option A) → Quiet (some_or k o)
some_quiet k None = fails_quiet k
some_quiet k (Some a) = gives_quiet a

moment_quiet : Quiet moment
moment_quiet = record { by = λ line s b t e. ap (state_of s) e }

region_quiet : (r : ℕ) → Quiet (region_value r)
region_quiet r = record { by = λ line s a t e. (some_quiet fault.Null (member s.store r)).by line s a t e }

local_quiet : (d n : ℕ) → Quiet (local_value d n)
local_quiet d n = record { by = λ line s a t e. (some_quiet fault.Null (frame_value (frame_at s.frames d) n)).by line s a t e }

own_quiet : Quiet own
own_quiet = record { by = λ line s a t e. (some_quiet fault.Null (own_in s.frames)).by line s a t e }

local_spot_quiet : (n : ℕ) → Quiet (local_spot n)
local_spot_quiet n = record { by = λ line s a t e. (some_quiet fault.Null (local_spot_in s.frames n)).by line s a t e }

if_quiet : {A : Type 0} (b : Bool) (m n : Run A) → Quiet m → Quiet n → Quiet (if b then m else n)
if_quiet true m n h k = h
if_quiet false m n h k = k

ruleset steps = (then_quiet, gives_quiet, fails_quiet, some_quiet, moment_quiet, region_quiet, local_quiet, own_quiet, local_spot_quiet, if_quiet)

read_quiet : (spot : Spot) → Quiet (read spot)
read_quiet (in_store q) = search steps
read_quiet (in_frame d n ss) = search steps

named_quiet : (t : Target) → Quiet (named_spot t)
named_quiet (target.Local n) = search steps
named_quiet (target.Region r) = search steps
named_quiet (target.Variable k) = search steps
named_quiet (target.Method m) = search steps
named_quiet target.Nothing = search steps
named_quiet (target.Field k) = search steps
named_quiet (target.Function k) = search steps
named_quiet target.Conversion = search steps
named_quiet (target.Parameter k) = search steps
named_quiet (target.Enumerator k) = search steps
named_quiet (target.Constant z) = search steps

root_quiet : (r : Root Note) → Quiet (root_spot r)
root_quiet (root.Name a name) = named_quiet a.target
root_quiet (root.This a) = search steps
root_quiet (root.Super a) = search steps

held_quiet : (spot : Spot) → Quiet (held_spot spot)
held_quiet spot = search (steps, read_quiet) depth 12

followed_quiet : (t : StType) (spot : Spot) → Quiet (followed t spot)
followed_quiet (type.Instance c) spot = search steps
followed_quiet t spot = held_quiet spot

instance_quiet : (t : StType) (spot : Spot) → Quiet (instance_of t spot)
instance_quiet (type.Interface i) spot = held_quiet spot
instance_quiet t spot = search steps

part_quiet : (t : StType) (spot : Spot) (x : Target) → Quiet (part_named t spot x)
part_quiet t spot (target.Field k) = search steps
part_quiet t spot (target.Variable k) = search steps
part_quiet t spot (target.Method m) = instance_quiet t spot
part_quiet t spot target.Nothing = search steps
part_quiet t spot (target.Local n) = search steps
part_quiet t spot (target.Region r) = search steps
part_quiet t spot (target.Function k) = search steps
part_quiet t spot target.Conversion = search steps
part_quiet t spot (target.Parameter k) = search steps
part_quiet t spot (target.Enumerator k) = search steps
part_quiet t spot (target.Constant z) = search steps

divided_quiet : (f : Elem → ℤ → ℤ → ℤ) (e : Elem) (a b : ℤ) → Quiet (divided f e a b)
divided_quiet f e a (pos zero) = search steps
divided_quiet f e a (pos (suc n)) = search steps
divided_quiet f e a (negsuc n) = search steps

operation_quiet : (o : Operator) (e : Elem) (x y : Value) → Quiet (operation o e x y)
operation_quiet operator.Plus e x y = search steps
operation_quiet operator.Minus e x y = search steps
operation_quiet operator.Times e x y = search steps
operation_quiet operator.Divide e x y = divided_quiet quotient e (number_in x) (number_in y)
operation_quiet operator.Modulo e x y = divided_quiet remainder e (number_in x) (number_in y)
operation_quiet operator.And e x y = search steps
operation_quiet operator.Or e x y = search steps
operation_quiet operator.Xor e x y = search steps
operation_quiet operator.AndThen e x y = search steps
operation_quiet operator.OrElse e x y = search steps
operation_quiet operator.Equal e x y = search steps
operation_quiet operator.Differs e x y = search steps
operation_quiet operator.Less e x y = search steps
operation_quiet operator.Greater e x y = search steps
operation_quiet operator.AtMost e x y = search steps
operation_quiet operator.AtLeast e x y = search steps

operated_quiet : (o : Operator) (t : StType) (x : Value) (right : Run Value) → Quiet right → Quiet (operated o t x right)
operated_quiet o t x right h = search (steps, operation_quiet) depth 12

place_value_quiet : (t : StType) (m : Run Spot) → Quiet m → Quiet (place_value t m)
place_value_quiet (type.Instance c) m h = search steps
place_value_quiet t m h = search (steps, read_quiet)

name_value_quiet : (x : Target) (t : StType) (m : Run Spot) → Quiet m → Quiet (name_value x t m)
name_value_quiet (target.Constant z) t m h = search steps
name_value_quiet (target.Enumerator k) t m h = search steps
name_value_quiet x t m h = place_value_quiet t m h

placed_quiet : (r : Root Note) (m : StType → Spot → Run Spot) → ((t : StType) (spot : Spot) → Quiet (m t spot)) → Quiet (placed r m)
placed_quiet r m h = search (steps, root_quiet) depth 12

both_hold : (a b : Bool) → (a && b) ≡ true → (a ≡ true) × (b ≡ true)
both_hold true true e = (refl, refl)
both_hold true false e = cc
both_hold false b e = cc

conversion_quiet : (c : Callee) (t : StType) (operand_value : Run Value) (called : Run Frame) → is_conversion c ≡ true → Quiet operand_value → Quiet (call_value c t operand_value called)
conversion_quiet a_conversion t operand_value called e h = search steps depth 12
conversion_quiet c t operand_value called e h = cc

module _ (p : Program) (enter : Enter) where
  mutual
    along_quiet : (ss : Selectors Note) → way_is_quiet ss ≡ true → (t : StType) (spot : Spot) → Quiet (along p enter ss t spot)
    along_quiet no_selectors e t spot = search steps
    along_quiet (selector_then x ss) e t spot =
        let b = both_hold (step_is_quiet x) (way_is_quiet ss) e in
        let h = selected_quiet x b.0 t spot in
        let k = along_quiet ss b.1 in
        search steps depth 12

    selected_quiet : (x : Selector Note) → step_is_quiet x ≡ true → (t : StType) (spot : Spot) → Quiet (selected p enter x t spot)
    selected_quiet (Field a name) e t spot = part_quiet t spot a.target
    selected_quiet (Index a es) e t spot = indexed_quiet es e t spot
    selected_quiet (tree.Target a) e t spot = followed_quiet t spot

    indexed_quiet : (es : Expressions Note) → are_quiet es ≡ true → (t : StType) (spot : Spot) → Quiet (indexed p enter es t spot)
    indexed_quiet no_expressions e t spot = search steps
    indexed_quiet (expression_then x es) e t spot =
        let b = both_hold (is_quiet x) (are_quiet es) e in
        let h = value_quiet x b.0 in
        let k = indexed_quiet es b.1 in
        search steps depth 14

    value_quiet : (x : Expression Note) → is_quiet x ≡ true → Quiet (value p enter x)
    value_quiet (Int a digits) e = search steps
    value_quiet (Typed a k literal) e = search steps
    value_quiet (Time a text) e = search steps
    value_quiet (True a) e = search steps
    value_quiet (False a) e = search steps
    value_quiet (Null a) e = search steps
    value_quiet (Place a r ss) e = name_value_quiet a.target a.kind _ (placed_quiet r _ (along_quiet ss e))
    value_quiet (Call a r ss xs) e =
        let b = both_hold (is_conversion (callee_of r ss)) (operand_is_quiet xs) e in
        conversion_quiet (callee_of r ss) a.kind _ _ b.0 (operand_quiet xs b.1)
    value_quiet (Enumerator a t b name) e = search steps
    value_quiet (Ref a r ss) e = let h = placed_quiet r (along p enter ss) (along_quiet ss e) in search steps
    value_quiet (Now a) e = search steps
    value_quiet (Paren a x) e = value_quiet x e
    value_quiet (Not a x) e = let h = value_quiet x e in search steps
    value_quiet (Negate a x) e = let h = value_quiet x e in search steps
    value_quiet (Chain a x ts) e =
        let b = both_hold (is_quiet x) (tails_are_quiet ts) e in
        let h = value_quiet x b.0 in
        let k = chained_quiet ts b.1 in
        search steps depth 12

    chained_quiet : (ts : Tails Note) → tails_are_quiet ts ≡ true → (v : Value) → Quiet (chained p enter v ts)
    chained_quiet no_tails e v = search steps
    chained_quiet (tail_then a o x ts) e v =
        let b = both_hold (is_quiet x) (tails_are_quiet ts) e in
        let h = value_quiet x b.0 in
        let k = chained_quiet ts b.1 in
        search (steps, operated_quiet) depth 14

    operand_quiet : (xs : Arguments Note) → operand_is_quiet xs ≡ true → Quiet (operand p enter xs)
    operand_quiet no_arguments e = cc
    operand_quiet (argument_then (Positional x) xs) e = value_quiet x e
    operand_quiet (argument_then (Input a name x) xs) e = cc
    operand_quiet (argument_then (Output a name b r ss) xs) e = cc

  -- finding a place
  pub place_quiet : (r : Root Note) (ss : Selectors Note) → way_is_quiet ss ≡ true → Quiet (place p enter r ss)
  place_quiet r ss e = placed_quiet r _ (along_quiet ss e)
