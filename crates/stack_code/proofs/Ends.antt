-- Each run of valid code ends: how far a state is from its end.
use Rattle.std.proofs.Common.{◌≡◌, ℕ, ℤ, zero, suc, pos, ◌+◌, ◌-◌, ◌*◌, ◌^◌, ◌≤◌, ◌<◌, List, [], ◌∷◌, ◌++◌, length, replicate, Bool, true, false, Option, Some, None, refl, sym, ap, subst, ◌∙◌, arith, ⊎_elim, length-append}
use Rattle.std.specs.Prelude.{slice_get, take, nat_lt, if◌then◌else◌, unsigned_abs}
use Rattle.std.specs.Ordering.{int_eq}
use Rattle.std.proofs.lemmas.Option.{slice_get_within}
use Rattle.std.proofs.lemmas.Nat.{mul-le, pow-add}
use Rattle.std.proofs.Math.Nat.{pow-succ', pow-zero, one-le-pow}
use Rattle.std.proofs.lemmas.List.{length-set, length-take-le}
use Rattle.std.proofs.lemmas.Bool.{ltb-true}
use Rattle.st_types.specs.declared.elem.Elem.{Elem}
use Rattle.plc_text.specs.declared.fault.FaultKind.TheVariants as fault
use Rattle.stack_code.specs.declared.memory.Space.{Space}
use Rattle.stack_code.specs.declared.memory.Space.TheVariants.{Regions, Locals}
use Rattle.stack_code.specs.declared.memory.Address.{Address}
use Rattle.stack_code.specs.declared.memory.Word.{Word}
use Rattle.stack_code.specs.declared.machine.Frame.{Frame}
use Rattle.stack_code.specs.declared.machine.Ending.TheVariants.{Ended, Stuck, Broken}
use Rattle.plc_num.specs.Wrapping.{wrapped}
use Rattle.plc_num.specs.Arithmetic.{quotient, remainder}
use Rattle.st_types.specs.declared.elem.Elem.TheVariants as kind
use Rattle.stack_code.specs.declared.op.Kind.{Kind}
use Rattle.stack_code.specs.declared.op.Op.{Op}
use Rattle.stack_code.specs.declared.op.Op.TheVariants as op
use Rattle.stack_code.specs.declared.code.Body.{Body}
use Rattle.stack_code.specs.declared.code.RoutineCode.{RoutineCode}
use Rattle.stack_code.specs.declared.code.MachineCode.{MachineCode}
use Rattle.stack_code.specs.Steps.{Step, Goes, Stops, ◌>>=◌, some_or_stuck, faults}
use Rattle.stack_code.specs.Memory.{Memory, image_at, with_image, read, write, copy, kept, moved}
use Rattle.stack_code.specs.Machine.{Config, limit, number, address, reference, any, operands, not_null, element, divided, not_zero, class_at, if_conforms, target_of, with_one, with_two, method_of, on, on_memory, onward, jumps, depth, spend, leave, enters, with_arguments, act, step, follow, exec, begun, body_begun, hook_begun, spent, flag}
use Rattle.stack_code.specs.Validity as v
use Rattle.stack_code.proofs.Sound.{Typed, Sound, step_sound, cell_of, then_sound, some_calm, arguments_calm, Calm}
use Rattle.stack_code.specs.Validity.{kinds_at, IsValid, IsForward, Finishes, BodiesFinish, HooksFinish}

-- one digit of the distance: what is left of a routine, and nothing before a TICK, which pays itself
abbrev pub height : Option Op → ℕ → ℕ
height None rest = rest + 1
height (Some op.Tick) rest = 0
height (Some _) rest = rest + 1

abbrev pub height_in : Option RoutineCode → ℕ → ℕ
height_in None pc = 0
height_in (Some r) pc = height (slice_get r.ops pc) (length r.ops - pc)

abbrev pub digit : MachineCode → Frame → ℕ
digit code f = height_in (slice_get code.routines f.routine) f.next

abbrev pub longest : List RoutineCode → ℕ
longest [] = 0
longest (r ∷ rs) = length r.ops + longest rs

abbrev pub radix : MachineCode → ℕ
radix code = longest code.routines + 2

-- the number with these digits, the innermost call's last
abbrev pub digits : MachineCode → ℕ → List Frame → ℕ
digits code b [] = 0
digits code b (f ∷ fs) = digit code f + b * digits code b fs

abbrev pub rank : MachineCode → Config → ℕ
rank code c = c.ticks * radix code ^ 65 + digits code (radix code) (c.here ∷ c.around) * radix code ^ (64 - length c.around)

-- the calls around have their locals, and are few enough
pub record Deep (c : Config) : Type 0 where
  pub tall : length c.around < length c.memory.locals
  pub few : length c.around ≤ 64

height_most : (o : Option Op) (r : ℕ) → height o r ≤ r + 1
height_most None r = omega arith
height_most (Some op.Tick) r = omega arith
height_most (Some (op.Push n)) r = omega arith
height_most (Some op.Null) r = omega arith
height_most (Some op.Drop) r = omega arith
height_most (Some (op.Local n)) r = omega arith
height_most (Some (op.This n)) r = omega arith
height_most (Some (op.Region i n)) r = omega arith
height_most (Some (op.Offset n)) r = omega arith
height_most (Some (op.Index lo hi size)) r = omega arith
height_most (Some op.Deref) r = omega arith
height_most (Some (op.Load e)) r = omega arith
height_most (Some (op.Store e)) r = omega arith
height_most (Some op.LoadRef) r = omega arith
height_most (Some op.StoreRef) r = omega arith
height_most (Some (op.Copy n)) r = omega arith
height_most (Some (op.Add e)) r = omega arith
height_most (Some (op.Div e)) r = omega arith
height_most (Some op.Lt) r = omega arith
height_most (Some (op.Jump to)) r = omega arith
height_most (Some (op.JumpF to)) r = omega arith
height_most (Some (op.Call k n)) r = omega arith
height_most (Some (op.CallM c s n)) r = omega arith
height_most (Some (op.Ret n)) r = omega arith
height_most (Some op.End) r = omega arith
height_most (Some op.Dup) r = omega arith
height_most (Some (op.Sub e)) r = omega arith
height_most (Some (op.Mul e)) r = omega arith
height_most (Some (op.Mod e)) r = omega arith
height_most (Some (op.Neg e)) r = omega arith
height_most (Some (op.AddC e)) r = omega arith
height_most (Some op.Eq) r = omega arith
height_most (Some op.Ne) r = omega arith
height_most (Some op.Le) r = omega arith
height_most (Some op.Gt) r = omega arith
height_most (Some op.Ge) r = omega arith
height_most (Some op.Same) r = omega arith
height_most (Some (op.And e)) r = omega arith
height_most (Some (op.Or e)) r = omega arith
height_most (Some (op.Xor e)) r = omega arith
height_most (Some (op.Not e)) r = omega arith
height_most (Some (op.Conv e f)) r = omega arith
height_most (Some op.NoZero) r = omega arith
height_most (Some (op.CallI i m n)) r = omega arith
height_most (Some (op.Try t)) r = omega arith
height_most (Some op.Now) r = omega arith

longest_most : (rs : List RoutineCode) (k : ℕ) (r : RoutineCode) → slice_get rs k ≡ Some r → length r.ops ≤ longest rs
longest_most [] k r e = absurd (cc)
longest_most (x ∷ rs) zero r e = let same : x ≡ r = cc in omega (arith, ap (λ y. length y.ops) same)
longest_most (x ∷ rs) (suc k) r e = omega (arith, longest_most rs k r e)

digit_below : (code : MachineCode) (f : Frame) → digit code f < radix code
digit_below code f = by (slice_get code.routines f.routine) refl
  where
    by : (o : Option RoutineCode) → slice_get code.routines f.routine ≡ o → height_in o f.next < radix code
    by None e = omega arith
    by (Some r) e = omega (arith, height_most (slice_get r.ops f.next) (length r.ops - f.next), longest_most code.routines f.routine r e)

power_more : (b k : ℕ) → b ^ (k + 1) ≡ b * b ^ k
power_more b k = let e : k + 1 ≡ suc k = omega arith in ap (λ n. b ^ n) e ∙ pow-succ' b k

power_some : (b k : ℕ) → 0 < b → 0 < b ^ k
power_some b k h = one-le-pow k b h

digits_below : (code : MachineCode) (fs : List Frame) → digits code (radix code) fs < radix code ^ length fs
digits_below code [] = let e = pow-zero (radix code) in omega (arith, e)
digits_below code (f ∷ fs) =
    let b = radix code in
    let V = digits code b fs in
    let P = b ^ length fs in
    let more : V + 1 ≤ P = (let h = digits_below code fs in omega arith) in
    let scaled : b * (V + 1) ≤ b * P = mul-le b (V + 1) b P (omega arith) more in
    let e : b ^ length (f ∷ fs) ≡ b * P = pow-succ' b (length fs) in
    omega (arith, digit_below code f, scaled, e)

-- the same calls around, and a lower digit
lower_digit : (T h h' X E : ℕ) → h' < h → 0 < E → T + (h' + X) * E < T + (h + X) * E
lower_digit T h h' X E lt some =
    let most : (h' + X + 1) * E ≤ (h + X) * E = mul-le (h' + X + 1) E (h + X) E (omega arith) (omega arith) in omega arith

-- a return: the inner digit goes
lower_return : (T h X b E : ℕ) → 0 < h → 0 < E → T + X * (b * E) < T + (h + b * X) * E
lower_return T h X b E some room =
    let most : (b * X + 1) * E ≤ (h + b * X) * E = mul-le (b * X + 1) E (h + b * X) E (omega arith) (omega arith) in
    let same : X * (b * E) ≡ (b * X) * E = grind arith in
    omega arith

-- a call: the digit falls, and an inner one comes
lower_call : (T h hn h0 V b E : ℕ) → hn < h → h0 < b → 0 < E → T + (h0 + b * (hn + V)) * E < T + (h + V) * (b * E)
lower_call T h hn h0 V b E lt small room =
    let step : b * (hn + 1) ≤ b * h = mul-le b (hn + 1) b h (omega arith) (omega arith) in
    let fall : h0 + b * (hn + V) + 1 ≤ b * (h + V) = grind arith in
    let most : (h0 + b * (hn + V) + 1) * E ≤ (b * (h + V)) * E = mul-le (h0 + b * (hn + V) + 1) E (b * (h + V)) E fall (omega arith) in
    let same : (h + V) * (b * E) ≡ (b * (h + V)) * E = grind arith in
    omega arith

-- a TICK: whatever comes after it
lower_tick : (t B X X' : ℕ) → X' < B → t * B + X' < suc t * B + X
lower_tick t B X X' small = let e : suc t * B ≡ t * B + B = grind arith in omega arith

abbrev pub On : {A : Type 0} → (A → Type 0) → Step A → Type 0
On P (Goes a) = P a
On P (Stops e) = Unit {0}

then_on : {A B : Type 0} (P : A → Type 0) (Q : B → Type 0) (s : Step A) (f : A → Step B) → On P s → ((a : A) → P a → On Q (f a)) → On Q (s >>= f)
then_on P Q (Goes a) f p h = h a p
then_on P Q (Stops e) f p h = tt

then_any : {A B : Type 0} (Q : B → Type 0) (s : Step A) (f : A → Step B) → ((a : A) → On Q (f a)) → On Q (s >>= f)
then_any Q (Goes a) f h = h a
then_any Q (Stops e) f h = tt

abbrev Same : Memory → Memory → Type 0
Same m m' = length m'.locals ≡ length m.locals

with_image_same : (t : Space) (m : Memory) (i : ℕ) (image : List ℕ) → Same m (with_image t m i image)
with_image_same Regions m i image = refl
with_image_same Locals m i image = length-set m.locals i image

write_same : (e : Elem) (m : Memory) (a : Address) (n : ℤ) → On (Same m) (write e m a n)
write_same e m a n = then_any (Same m) (image_at m a _) _ (λ image. with_image_same a.space m a.index _)

copy_same : (n : ℕ) (m : Memory) (a b : Address) → On (Same m) (copy n m a b)
copy_same n m a b = then_any (Same m) (image_at m a n) _ (λ x. then_any (Same m) (image_at m b n) _ (λ y. with_image_same b.space m b.index _))

pub record Lower (code : MachineCode) (c c' : Config) : Type 0 where
  pub falls : rank code c' < rank code c
  pub deep : Deep c'

digit_most : (code : MachineCode) (f : Frame) (r : RoutineCode) → slice_get code.routines f.routine ≡ Some r → digit code f ≤ length r.ops - f.next + 1
digit_most code f r is = omega (arith, ap (λ o. height_in o f.next) is, height_most (slice_get r.ops f.next) (length r.ops - f.next))

module _ (code : MachineCode) (now : ℕ) (c : Config) (r : RoutineCode) (deep : Deep c) (is : slice_get code.routines c.here.routine ≡ Some r) (within : c.here.next < length r.ops) where
  -- the digit falls, with the same calls around
  falls_to : (to : ℕ) (m : Memory) (ws : List Word) (h : ℕ) → digit code c.here ≡ h → digit code (record c.here { next = to }) < h → Same c.memory m
      → Lower code c (record { here = record c.here { next = to }; words = ws; around = c.around; memory = m; ticks = c.ticks })
  falls_to to m ws h e lt same =
      let b = radix code in
      let E = b ^ (64 - length c.around) in
      let room : 0 < E = power_some b (64 - length c.around) (omega arith) in
      let low = lower_digit (c.ticks * b ^ 65) h (digit code (record c.here { next = to })) (b * digits code b c.around) E lt room in
      let back : c.ticks * b ^ 65 + (h + b * digits code b c.around) * E ≡ rank code c = ap (λ n. c.ticks * b ^ 65 + (n + b * digits code b c.around) * E) (sym e) in
      record { falls = subst (λ n. rank code (record { here = record c.here { next = to }; words = ws; around = c.around; memory = m; ticks = c.ticks }) < n) back low; deep = record { tall = omega (arith, deep.tall, same); few = deep.few } }

  module _ (o : Op) (cell : slice_get r.ops c.here.next ≡ Some o) where
    here_is : digit code c.here ≡ height (Some o) (length r.ops - c.here.next)
    here_is = ap (λ x. height_in x c.here.next) is ∙ ap (λ x. height x (length r.ops - c.here.next)) cell

    -- to the next instruction
    straight : (m : Memory) (ws : List Word) → height (Some o) (length r.ops - c.here.next) ≡ length r.ops - c.here.next + 1 → Same c.memory m → On (Lower code c) (on_memory c ws m)
    straight m ws h same = falls_to (c.here.next + 1) m ws _ (here_is ∙ h) (omega (arith, digit_most code (onward c.here) r is)) same

    jumps_low : (to : ℕ) (ws : List Word) → height (Some o) (length r.ops - c.here.next) ≡ length r.ops - c.here.next + 1 → IsForward r c.here.next to → On (Lower code c) (jumps c to ws)
    jumps_low to ws h way =
        falls_to to c.memory ws _ (here_is ∙ h)
        (⊎_elim (λ lt. omega (arith, digit_most code (record c.here { next = to }) r is))
        (λ tick. omega (arith, ap (λ x. height_in x to) is ∙ ap (λ x. height x (length r.ops - to)) tick)) way)
        refl

    enter_low : (k : ℕ) (routine : RoutineCode) (own : Option Address) (args ws : List Word) (line : ℕ) → height (Some o) (length r.ops - c.here.next) ≡ length r.ops - c.here.next + 1
        → (b : Bool) → nat_lt (depth c) limit ≡ b
        → On (Lower code c) (if b then (with_arguments 0 args (replicate routine.locals 0) >>= λ image.
        Goes (record { here = record { routine = k; next = 0; own = own }; words = ws; around = onward c.here ∷ c.around; memory = record c.memory { locals = c.memory.locals ++ image ∷ [] }; ticks = c.ticks })) else faults fault.Depth line)
    enter_low k routine own args ws line h false e = tt
    enter_low k routine own args ws line h true e =
        then_any (Lower code c) (with_arguments 0 args (replicate routine.locals 0)) _ (λ image.
        let b = radix code in
        let n = length c.around in
        let few : depth c < 64 = ltb-true (depth c) limit e in
        let less : n < 64 = omega (arith, deep.tall) in
        let E = b ^ (64 - suc n) in
        let power : b ^ (64 - n) ≡ b * E = (let s : 64 - n ≡ suc (64 - suc n) = omega arith in ap (λ i. b ^ i) s) ∙ pow-succ' b (64 - suc n) in
        let V = b * digits code b c.around in
        let new : Frame = record { routine = k; next = 0; own = own } in
        let room : 0 < E = power_some b (64 - suc n) (omega arith) in
        let low = lower_call (c.ticks * b ^ 65) (digit code c.here) (digit code (onward c.here)) (digit code new) V b E (omega (arith, digit_most code (onward c.here) r is, here_is ∙ h)) (digit_below code new) room in
        record {
          falls = subst (λ x. c.ticks * b ^ 65 + (digit code new + b * (digit code (onward c.here) + V)) * E < c.ticks * b ^ 65 + (digit code c.here + V) * x) (sym power) low;
          deep = record { tall = omega (arith, deep.tall, length-append c.memory.locals (image ∷ [])); few = omega arith };
        })

    enters_low : (k : ℕ) (own : Option Address) (args ws : List Word) (line : ℕ) → height (Some o) (length r.ops - c.here.next) ≡ length r.ops - c.here.next + 1 → On (Lower code c) (enters code k own args ws line c)
    enters_low k own args ws line h = then_any (Lower code c) (some_or_stuck (slice_get code.routines k)) _ (λ routine. enter_low k routine own args ws line h (nat_lt (depth c) limit) refl)

    leave_low : (fs : List Frame) → c.around ≡ fs → height (Some o) (length r.ops - c.here.next) ≡ length r.ops - c.here.next + 1 → On (Lower code c) (leave c fs)
    leave_low [] e h = tt
    leave_low (f ∷ fs) e h =
        let b = radix code in
        let n = length fs in
        let size : length c.around ≡ suc n = ap length e in
        let E = b ^ (64 - suc n) in
        let X = digit code f + b * digits code b fs in
        let power : b ^ (64 - n) ≡ b * E = (let s : 64 - n ≡ suc (64 - suc n) = omega (arith, deep.few) in ap (λ i. b ^ i) s) ∙ pow-succ' b (64 - suc n) in
        let room : 0 < E = power_some b (64 - suc n) (omega arith) in
        let low = lower_return (c.ticks * b ^ 65) (digit code c.here) X b E (omega (arith, here_is ∙ h)) room in
        let here : rank code c ≡ c.ticks * b ^ 65 + (digit code c.here + b * X) * E = ap (λ l. c.ticks * b ^ 65 + digits code b (c.here ∷ l) * b ^ (64 - length l)) e in
        record {
          falls = subst (λ x. c.ticks * b ^ 65 + X * x < rank code c) (sym power) (subst (λ x. c.ticks * b ^ 65 + X * (b * E) < x) (sym here) low);
          deep = record { tall = omega (arith, deep.tall, length-take-le (length c.memory.locals - 1) c.memory.locals (omega arith)); few = omega (arith, deep.few) };
        }

    spend_low : (line t : ℕ) → c.ticks ≡ t → On (Lower code c) (spend c line t)
    spend_low line zero e = tt
    spend_low line (suc t) e =
        let b = radix code in
        let n = length c.around in
        let E = b ^ (64 - n) in
        let X' = digits code b (onward c.here ∷ c.around) in
        let most : X' + 1 ≤ b ^ suc n = (let h = digits_below code (onward c.here ∷ c.around) in omega arith) in
        let all : b ^ 65 ≡ b ^ suc n * E = (let s : 65 ≡ suc n + (64 - n) = omega (arith, deep.few) in ap (λ i. b ^ i) s) ∙ pow-add b (suc n) (64 - n) in
        let room : 0 < E = power_some b (64 - n) (omega arith) in
        let scaled : (X' + 1) * E ≤ b ^ suc n * E = mul-le (X' + 1) E (b ^ suc n) E most (omega arith) in
        let small : X' * E < b ^ 65 = omega arith in
        let low = lower_tick t (b ^ 65) (digits code b (c.here ∷ c.around) * E) (X' * E) small in
        record { falls = subst (λ x. t * b ^ 65 + X' * E < x * b ^ 65 + digits code b (c.here ∷ c.around) * E) (sym e) low; deep = record { tall = deep.tall; few = deep.few } }

  one_low : (o : Op) → slice_get r.ops c.here.next ≡ Some o → (f : ℤ → ℤ) → height (Some o) (length r.ops - c.here.next) ≡ length r.ops - c.here.next + 1 → On (Lower code c) (with_one f c)
  one_low o cell f h = then_any (Lower code c) (number c.words) _ (λ a. straight o cell c.memory _ h refl)

  two_low : (o : Op) → slice_get r.ops c.here.next ≡ Some o → (f : ℤ → ℤ → ℤ) → height (Some o) (length r.ops - c.here.next) ≡ length r.ops - c.here.next + 1 → On (Lower code c) (with_two f c)
  two_low o cell f h = then_any (Lower code c) (number c.words) _ (λ b. then_any (Lower code c) (number b.1) _ (λ a. straight o cell c.memory _ h refl))

  act_low : (o : Op) (line : ℕ) (ks : List Kind) → slice_get r.ops c.here.next ≡ Some o → v.IsFine code r c.here.next o ks → On (Lower code c) (act code now o line c)
  act_low (op.Push n) line ks cell l = straight (op.Push n) cell c.memory _ refl refl
  act_low op.Null line ks cell l = straight op.Null cell c.memory _ refl refl
  act_low op.Drop line ks cell l = then_any (Lower code c) (any c.words) _ (λ w. straight op.Drop cell c.memory _ refl refl)
  act_low op.Dup line ks cell l = then_any (Lower code c) (any c.words) _ (λ w. straight op.Dup cell c.memory _ refl refl)
  act_low (op.Local n) line ks cell l = straight (op.Local n) cell c.memory _ refl refl
  act_low (op.This n) line ks cell l = then_any (Lower code c) (some_or_stuck c.here.own) _ (λ own. then_any (Lower code c) (moved own n) _ (λ a. straight (op.This n) cell c.memory _ refl refl))
  act_low (op.Region i n) line ks cell l = straight (op.Region i n) cell c.memory _ refl refl
  act_low (op.Offset n) line ks cell l = then_any (Lower code c) (address c.words) _ (λ a. then_any (Lower code c) (moved a.0 n) _ (λ b. straight (op.Offset n) cell c.memory _ refl refl))
  act_low (op.Index lo hi size) line ks cell l =
      then_any (Lower code c) (number c.words) _ (λ i. then_any (Lower code c) (address i.1) _ (λ a. then_any (Lower code c) (element a.0 lo hi size i.0 line) _ (λ b. straight (op.Index lo hi size) cell c.memory _ refl refl)))
  act_low op.Deref line ks cell l = then_any (Lower code c) (reference c.words) _ (λ w. then_any (Lower code c) (not_null w.0 line) _ (λ a. straight op.Deref cell c.memory _ refl refl))
  act_low (op.Load e) line ks cell l = then_any (Lower code c) (address c.words) _ (λ a. then_any (Lower code c) (read e c.memory a.0) _ (λ n. straight (op.Load e) cell c.memory _ refl refl))
  act_low (op.Store e) line ks cell l =
      then_any (Lower code c) (address c.words) _ (λ a. then_any (Lower code c) (number a.1) _ (λ n.
      then_on (Same c.memory) (Lower code c) (write e c.memory a.0 (wrapped e n.0)) _ (write_same e c.memory a.0 (wrapped e n.0)) (λ m same. straight (op.Store e) cell m _ refl same)))
  act_low op.LoadRef line ks cell l = then_any (Lower code c) (address c.words) _ (λ a. then_any (Lower code c) (read kind.Ulint c.memory a.0) _ (λ n. straight op.LoadRef cell c.memory _ refl refl))
  act_low op.StoreRef line ks cell l =
      then_any (Lower code c) (address c.words) _ (λ a. then_any (Lower code c) (reference a.1) _ (λ w. then_any (Lower code c) (kept w.0) _ (λ n.
      then_on (Same c.memory) (Lower code c) (write kind.Ulint c.memory a.0 n) _ (write_same kind.Ulint c.memory a.0 n) (λ m same. straight op.StoreRef cell m _ refl same))))
  act_low (op.Copy n) line ks cell l =
      then_any (Lower code c) (address c.words) _ (λ a. then_any (Lower code c) (address a.1) _ (λ b.
      then_on (Same c.memory) (Lower code c) (copy n c.memory b.0 a.0) _ (copy_same n c.memory b.0 a.0) (λ m same. straight (op.Copy n) cell m _ refl same)))
  act_low (op.Add e) line ks cell l = two_low (op.Add e) cell _ refl
  act_low (op.Sub e) line ks cell l = two_low (op.Sub e) cell _ refl
  act_low (op.Mul e) line ks cell l = two_low (op.Mul e) cell _ refl
  act_low (op.Div e) line ks cell l =
      then_any (Lower code c) (number c.words) _ (λ b. then_any (Lower code c) (number b.1) _ (λ a. then_any (Lower code c) (divided (wrapped e b.0) (quotient e (wrapped e a.0) (wrapped e b.0)) line) _ (λ q. straight (op.Div e) cell c.memory _ refl refl)))
  act_low (op.Mod e) line ks cell l =
      then_any (Lower code c) (number c.words) _ (λ b. then_any (Lower code c) (number b.1) _ (λ a. then_any (Lower code c) (divided (wrapped e b.0) (remainder e (wrapped e a.0) (wrapped e b.0)) line) _ (λ q. straight (op.Mod e) cell c.memory _ refl refl)))
  act_low (op.Neg e) line ks cell l = one_low (op.Neg e) cell _ refl
  act_low (op.AddC e) line ks cell l = then_any (Lower code c) (number c.words) _ (λ b. then_any (Lower code c) (number b.1) _ (λ a. straight (op.AddC e) cell c.memory _ refl refl))
  act_low op.Eq line ks cell l = two_low op.Eq cell _ refl
  act_low op.Ne line ks cell l = two_low op.Ne cell _ refl
  act_low op.Lt line ks cell l = two_low op.Lt cell _ refl
  act_low op.Le line ks cell l = two_low op.Le cell _ refl
  act_low op.Gt line ks cell l = two_low op.Gt cell _ refl
  act_low op.Ge line ks cell l = two_low op.Ge cell _ refl
  act_low op.Same line ks cell l = then_any (Lower code c) (reference c.words) _ (λ b. then_any (Lower code c) (reference b.1) _ (λ a. straight op.Same cell c.memory _ refl refl))
  act_low (op.And e) line ks cell l = two_low (op.And e) cell _ refl
  act_low (op.Or e) line ks cell l = two_low (op.Or e) cell _ refl
  act_low (op.Xor e) line ks cell l = two_low (op.Xor e) cell _ refl
  act_low (op.Not e) line ks cell l = one_low (op.Not e) cell _ refl
  act_low (op.Conv e f) line ks cell l = one_low (op.Conv e f) cell _ refl
  act_low op.NoZero line ks cell l = then_any (Lower code c) (number c.words) _ (λ n. then_any (Lower code c) (not_zero n.0 line) _ (λ w. straight op.NoZero cell c.memory _ refl refl))
  act_low (op.Jump to) line ks cell l = jumps_low (op.Jump to) cell to c.words refl l.1
  act_low (op.JumpF to) line ks cell l = then_any (Lower code c) (number c.words) _ (λ n. by (int_eq n.0 (pos 0)) n.1)
    where
      by : (b : Bool) (ws : List Word) → On (Lower code c) (if b then jumps c to ws else on c ws)
      by true ws = jumps_low (op.JumpF to) cell to ws refl l.2
      by false ws = straight (op.JumpF to) cell c.memory ws refl refl
  act_low op.Tick line ks cell l = spend_low op.Tick cell line c.ticks refl
  act_low (op.Call k n) line ks cell l = then_any (Lower code c) (operands n c.words) _ (λ w. enters_low (op.Call k n) cell k w.0 w.1 w.2 line refl)
  act_low (op.CallM target s n) line ks cell l =
      then_any (Lower code c) (operands n c.words) _ (λ w. then_any (Lower code c) (some_or_stuck w.0) _ (λ own. then_any (Lower code c) (class_at c.memory own) _ (λ class.
      then_any (Lower code c) (method_of code target s class) _ (λ k. enters_low (op.CallM target s n) cell k w.0 w.1 w.2 line refl))))
  act_low (op.CallI i m n) line ks cell l =
      then_any (Lower code c) (operands n c.words) _ (λ w. then_any (Lower code c) (some_or_stuck w.0) _ (λ own. then_any (Lower code c) (class_at c.memory own) _ (λ class.
      then_any (Lower code c) (target_of code i m class) _ (λ k. enters_low (op.CallI i m n) cell k w.0 w.1 w.2 line refl))))
  act_low (op.Try target) line ks cell l = then_any (Lower code c) (reference c.words) _ (λ w. then_any (Lower code c) (if_conforms code target c.memory w.0) _ (λ a. straight (op.Try target) cell c.memory _ refl refl))
  act_low (op.Ret n) line ks cell l = leave_low (op.Ret n) cell c.around refl refl
  act_low op.End line ks cell l = tt
  act_low op.Now line ks cell l = straight op.Now cell c.memory _ refl refl

pub step_low : (code : MachineCode) (now : ℕ) → IsValid code → (c : Config) → Typed code c → Deep c → On (Lower code c) (step code now c)
step_low code now valid c t deep =
    let ok = valid.routines c.here.routine t.r t.is in
    let cell = cell_of code t.r c.here.next t.ks ok t.finds in
    rw (t.is, cell.2, cell.3) (act_low code now c t.r deep t.is (slice_get_within t.r.ops c.here.next cell.0 cell.2) cell.0 cell.1 t.ks cell.2 (ok.each c.here.next cell.0 t.ks cell.2 t.finds))

pub finishes : (code : MachineCode) (now : ℕ) → IsValid code → (n : ℕ) (c : Config) → Typed code c → Deep c → rank code c < n → Finishes (λ count. exec code now count c)
finishes code now valid zero c t deep h = absurd (omega arith)
finishes code now valid (suc n) c t deep h = by (λ c' t' d' h'. finishes code now valid n c' t' d' h') (step code now c) refl (step_sound code now valid c t) (step_low code now valid c t deep)
  where
    by : ((c' : Config) → Typed code c' → Deep c' → rank code c' < n → Finishes (λ count. exec code now count c')) → (s : Step Config) → step code now c ≡ s → Sound code s → On (Lower code c) s → Finishes (λ count. exec code now count c)
    by again (Goes c') e sound low =
        let more = again c' sound low.deep (omega (arith, low.falls)) in
        record { count = suc more.count; ending = more.ending; left = more.left; ends = ap (λ s. follow s c.memory.regions (exec code now more.count)) e ∙ more.ends; sound = more.sound }
    by again (Stops Broken) e sound low = absurd sound
    by again (Stops Stuck) e sound low = record { count = 1; ending = Stuck; left = c.memory.regions; ends = ap (λ s. follow s c.memory.regions (exec code now 0)) e; sound = λ x. absurd (cc) }
    by again (Stops (Ended o)) e sound low = record { count = 1; ending = Ended o; left = c.memory.regions; ends = ap (λ s. follow s c.memory.regions (exec code now 0)) e; sound = λ x. absurd (cc) }

-- a run that begins well, or does not begin for a good reason, finishes
pub starts : (code : MachineCode) (now : ℕ) → IsValid code → (regions : List (Option (List ℕ))) (s : Step Config) → Sound code s → On Deep s → Finishes (λ count. follow s regions (exec code now count))
starts code now valid regions (Goes c) sound deep = finishes code now valid (rank code c + 1) c sound deep (omega arith)
starts code now valid regions (Stops Broken) sound deep = absurd sound
starts code now valid regions (Stops Stuck) sound deep = record { count = 0; ending = Stuck; left = regions; ends = refl; sound = λ x. absurd (cc) }
starts code now valid regions (Stops (Ended o)) sound deep = record { count = 0; ending = Ended o; left = regions; ends = refl; sound = λ x. absurd (cc) }

body_sound : (code : MachineCode) → IsValid code → (regions : List (Option (List ℕ))) (entry ticks : ℕ) → Sound code (body_begun code regions entry ticks)
body_sound code valid regions entry ticks = then_sound code _ _ (some_calm (slice_get code.bodies entry)) (λ body. by body (slice_get code.routines body.routine) refl)
  where
    by : (body : Body) (o : Option RoutineCode) → slice_get code.routines body.routine ≡ o
        → Sound code (some_or_stuck o >>= λ routine. Goes (begun body.routine routine (Some (record { space = Regions; index = body.region; offset = 0 })) (replicate routine.locals 0 ∷ []) regions ticks))
    by body None e = tt
    by body (Some r) e = record { r = r; ks = []; rest = []; is = e; finds = (valid.routines body.routine r e).start; shows = refl; waits = refl }

body_deep : (code : MachineCode) (regions : List (Option (List ℕ))) (entry ticks : ℕ) → On Deep (body_begun code regions entry ticks)
body_deep code regions entry ticks = then_any Deep (some_or_stuck (slice_get code.bodies entry)) _ (λ body. then_any Deep (some_or_stuck (slice_get code.routines body.routine)) _ (λ routine. record { tall = omega arith; few = omega arith }))

pub bodies_finish : BodiesFinish
bodies_finish code valid regions entry now ticks = starts code now valid regions (body_begun code regions entry ticks) (body_sound code valid regions entry ticks) (body_deep code regions entry ticks)

spent_calm : (line ticks : ℕ) → Calm (spent line ticks)
spent_calm line zero = tt
spent_calm line (suc n) = tt

hook_sound : (code : MachineCode) → IsValid code → (regions : List (Option (List ℕ))) (k : ℕ) (own : Address) (first second : Bool) (ticks : ℕ) → Sound code (hook_begun code regions k own first second ticks)
hook_sound code valid regions k own first second ticks = by (slice_get code.routines k) refl
  where
    by : (o : Option RoutineCode) → slice_get code.routines k ≡ o
        → Sound code (some_or_stuck o >>= λ routine. spent routine.line ticks >>= λ left. with_arguments 0 (take (length routine.args) (flag first ∷ flag second ∷ [])) (replicate routine.locals 0) >>= λ image.
        Goes (begun k routine (Some own) ([] ∷ image ∷ []) regions left))
    by None e = tt
    by (Some r) e =
        then_sound code (spent r.line ticks) _ (spent_calm r.line ticks) (λ left. then_sound code _ _ (arguments_calm 0 (take (length r.args) (flag first ∷ flag second ∷ [])) (replicate r.locals 0)) (λ image.
        record { r = r; ks = []; rest = []; is = e; finds = (valid.routines k r e).start; shows = refl; waits = refl }))

hook_deep : (code : MachineCode) (regions : List (Option (List ℕ))) (k : ℕ) (own : Address) (first second : Bool) (ticks : ℕ) → On Deep (hook_begun code regions k own first second ticks)
hook_deep code regions k own first second ticks =
    then_any Deep (some_or_stuck (slice_get code.routines k)) _ (λ routine. then_any Deep (spent routine.line ticks) _ (λ left.
    then_any Deep (with_arguments 0 (take (length routine.args) (flag first ∷ flag second ∷ [])) (replicate routine.locals 0)) _ (λ image. record { tall = omega arith; few = omega arith })))

pub hooks_finish : HooksFinish
hooks_finish code valid regions k own first second ticks = starts code 0 valid regions (hook_begun code regions k own first second ticks) (hook_sound code valid regions k own first second ticks) (hook_deep code regions k own first second ticks)
