-- What the machine does: a run of the body of a program instance, and of a hook.
use Rattle.std.specs.Prelude.{ℕ, zero, suc, ◌+◌, ◌-◌, ◌*◌, ◌++◌, ℤ, pos, ◌+ℤ◌, ◌-ℤ◌, Bool, true, false, not, List, [], ◌∷◌, length, replicate, take, drop, reverse, Option, Some, None, slice_get, nat_lt, nat_le, nat_eq, unsigned_abs, int_lt, int_le, ◌&&◌, ◌≡◌, if◌then◌else◌}
use Rattle.std.specs.Ordering.{int_eq}
use Rattle.std.specs.List.{list_any}
use Rattle.st_types.specs.declared.elem.Elem.{Elem}
use Rattle.st_types.specs.declared.elem.Elem.TheVariants as kind
use Rattle.plc_num.specs.Wrapping.{wrapped}
use Rattle.plc_num.specs.Arithmetic.{sum, difference, product, quotient, remainder}
use Rattle.plc_num.specs.Bits.{conjunction, disjunction, exclusive_disjunction, complement}
use Rattle.plc_num.specs.Conversion.{converted}
use Rattle.plc_text.specs.declared.fault.FaultKind.TheVariants as fault
use Rattle.mem_image.specs.Image.{written}
use Rattle.stack_code.specs.declared.memory.Space.TheVariants.{Regions, Locals}
use Rattle.stack_code.specs.declared.memory.Address.{Address}
use Rattle.stack_code.specs.declared.memory.Word.{Word}
use Rattle.stack_code.specs.declared.memory.Word.TheVariants as word
use Rattle.stack_code.specs.declared.machine.Frame.{Frame}
use Rattle.stack_code.specs.declared.machine.Outcome.{Outcome}
use Rattle.stack_code.specs.declared.machine.Outcome.TheVariants as outcome
use Rattle.stack_code.specs.declared.machine.Ending.{Ending}
use Rattle.stack_code.specs.declared.machine.Ending.TheVariants.{Ended, Stuck}
use Rattle.stack_code.specs.declared.op.Op.{Op}
use Rattle.stack_code.specs.declared.op.Op.TheVariants as op
use Rattle.stack_code.specs.declared.code.RoutineCode.{RoutineCode}
use Rattle.stack_code.specs.declared.code.InterfaceTarget.{InterfaceTarget}
use Rattle.stack_code.specs.declared.code.MachineCode.{MachineCode}
use Rattle.stack_code.specs.Steps.{Step, Goes, Stops, ◌>>=◌, faults, stuck, broken, some_or_stuck, some_or_broken, asks}
use Rattle.stack_code.specs.Memory.{Memory, read, write, copy, kept, reference_of, moved, same_reference}

-- the innermost call, its operand words with the top first, the calls around it with the innermost first
pub record Config : Type 0 where
  pub here : Frame
  pub words : List Word
  pub around : List Frame
  pub memory : Memory
  pub ticks : ℕ

-- the most calls that are open at once
abbrev pub limit : ℕ
limit = 64

-- how many calls are open: there are locals for each, and below them those of the program's body
abbrev pub depth : Config → ℕ
depth c = length c.memory.locals - 1

-- the operand on top, and those below
abbrev pub number : List Word → Step (ℤ × List Word)
number ((word.Number v) ∷ ws) = Goes (v, ws)
number _ = broken

abbrev pub address : List Word → Step (Address × List Word)
address ((word.Address a) ∷ ws) = Goes (a, ws)
address (word.Null ∷ ws) = stuck
address _ = broken

abbrev pub reference : List Word → Step (Word × List Word)
reference ((word.Number v) ∷ ws) = broken
reference (w ∷ ws) = Goes (w, ws)
reference [] = broken

abbrev pub any : List Word → Step (Word × List Word)
any (w ∷ ws) = Goes (w, ws)
any [] = broken

abbrev pub instance_in : Word → Step (Option Address)
instance_in (word.Address a) = Goes (Some a)
instance_in word.Null = Goes None
instance_in (word.Number v) = broken

abbrev pub instance : List Word → Step (Option Address × List Word)
instance (w ∷ ws) = do
  own ← instance_in w
  Goes (own, ws)
instance [] = broken

-- the n argument words, the last one on top, and the words below
abbrev pub arguments : ℕ → List Word → Step (List Word × List Word)
arguments n ws = if nat_le n (length ws) then Goes (reverse (take n ws), drop n ws) else broken

-- the instance below n argument words, these words, and the words below
abbrev pub operands : ℕ → List Word → Step (Option Address × List Word × List Word)
operands n ws = do
  args ← arguments n ws
  own ← instance args.1
  Goes (own.0, args.0, own.1)

-- locals with the argument words, each in its eight bytes from the i-th on
abbrev pub with_arguments : ℕ → List Word → List ℕ → Step (List ℕ)
with_arguments i [] image = Goes image
with_arguments i (w ∷ ws) image = do
  v ← kept w
  room ← asks (nat_le (8 * i + 8) (length image)) image
  with_arguments (suc i) ws (written kind.Ulint room (8 * i) v)

abbrev pub onward : Frame → Frame
onward f = record f { next = f.next + 1 }

-- goes on with these words, and with this memory
abbrev pub on : Config → List Word → Step Config
on c ws = Goes (record c { here = onward c.here; words = ws })

abbrev pub on_memory : Config → List Word → Memory → Step Config
on_memory c ws m = Goes (record c { here = onward c.here; words = ws; memory = m })

abbrev pub jumps : Config → ℕ → List Word → Step Config
jumps c to ws = Goes (record c { here = record c.here { next = to }; words = ws })

-- pops a number and pushes what becomes of it
abbrev pub with_one : (ℤ → ℤ) → Config → Step Config
with_one f c = do
  a ← number c.words
  on c (word.Number (f a.0) ∷ a.1)

-- pops a, b and pushes what becomes of them
abbrev pub with_two : (ℤ → ℤ → ℤ) → Config → Step Config
with_two f c = do
  b ← number c.words
  a ← number b.1
  on c (word.Number (f a.0 b.0) ∷ a.1)

abbrev pub truth : Bool → ℤ
truth true = pos 1
truth false = pos 0

-- whether the sum of two values of a kind has to be wrapped
abbrev pub has_carry : Elem → ℤ → ℤ → Bool
has_carry e a b = not (int_eq (sum e a b) (a +ℤ b))

abbrev pub not_null : Word → ℕ → Step Word
not_null word.Null line = faults fault.Null line
not_null w line = Goes w

abbrev pub not_zero : ℤ → ℕ → Step ℤ
not_zero v line = if int_eq v (pos 0) then faults fault.Step line else Goes v

-- how far an index lies above the lower bound
abbrev pub index_from : ℤ → ℤ → ℤ → ℕ → Step ℕ
index_from lo hi i line = if int_le lo i && int_le i hi then Goes (unsigned_abs (i -ℤ lo)) else faults fault.Index line

-- the element with that index
abbrev pub element : Address → ℤ → ℤ → ℕ → ℤ → ℕ → Step Address
element a lo hi size i line = do
  n ← index_from lo hi i line
  moved a (n * size)

-- what a division by a number gives, where it is not 0
abbrev pub divided : ℤ → ℤ → ℕ → Step ℤ
divided b result line = if int_eq b (pos 0) then faults fault.Divide line else Goes result

abbrev pub spend : Config → ℕ → ℕ → Step Config
spend c line zero = faults fault.Watchdog line
spend c line (suc n) = Goes (record c { here = onward c.here; ticks = n })

-- back to the caller
abbrev pub leave : Config → List Frame → Step Config
leave c [] = Stops (Ended (outcome.Done c.ticks))
leave c (f ∷ fs) = Goes (record c { here = f; around = fs; memory = record c.memory { locals = take (length c.memory.locals - 1) c.memory.locals } })

-- enters a routine on an instance, with argument words, over the words of the calls around
abbrev pub enter : ℕ → RoutineCode → Option Address → List Word → List Word → ℕ → Config → Step Config
enter k routine own args below line c =
    if nat_lt (depth c) limit
    then (do
      image ← with_arguments 0 args (replicate routine.locals 0)
      Goes (record {
        here = record { routine = k; next = 0; own = own };
        words = below;
        around = onward c.here ∷ c.around;
        memory = record c.memory { locals = c.memory.locals ++ image ∷ [] };
        ticks = c.ticks;
      }))
    else faults fault.Depth line

-- the routine of the first entry for the class, the interface and the method
abbrev pub first_target : List InterfaceTarget → ℕ → ℕ → ℕ → Option ℕ
first_target [] class i m = None
first_target (t ∷ ts) class i m = if nat_eq t.class class && nat_eq t.interface i && nat_eq t.method m then Some t.routine else first_target ts class i m

-- the class of the instance at an address: the number in its first eight bytes
abbrev pub class_at : Memory → Address → Step ℕ
class_at m a = do
  class ← read kind.Ulint m a
  Goes (unsigned_abs class)

module _ (code : MachineCode) where
  abbrev pub enters : ℕ → Option Address → List Word → List Word → ℕ → Config → Step Config
  enters k own args below line c = do
    routine ← some_or_stuck (slice_get code.routines k)
    enter k routine own args below line c

  abbrev pub conforms : ℕ → ℕ → Bool
  conforms class target = list_any (λ p. nat_eq p.class class && nat_eq p.target target) code.conforms

  -- the routine in the slot of the class
  abbrev pub in_slot : ℕ → ℕ → Step ℕ
  in_slot class s = do
    slots ← some_or_stuck (slice_get code.slots class)
    slot ← some_or_stuck (slice_get slots s)
    some_or_stuck slot

  -- the same, where the class conforms to the target
  abbrev pub method_of : ℕ → ℕ → ℕ → Step ℕ
  method_of target s class = do
    conformer ← asks (conforms class target) class
    in_slot conformer s

  -- the routine by which the class implements the method of the interface
  abbrev pub target_of : ℕ → ℕ → ℕ → Step ℕ
  target_of i m class = some_or_stuck (first_target code.targets class i m)

  -- the reference where its instance conforms, else NULL
  abbrev pub if_conforms : ℕ → Memory → Word → Step Word
  if_conforms target m (word.Address a) = do
    class ← class_at m a
    Goes (if conforms class target then word.Address a else word.Null)
  if_conforms target m w = Goes w

  -- the instruction at a place of a routine, and its line
  abbrev pub cell_in : ℕ → RoutineCode → Step (Op × ℕ)
  cell_in next routine = do
    o ← some_or_broken (slice_get routine.ops next)
    line ← some_or_broken (slice_get routine.lines next)
    Goes (o, line)

  -- those where a call stands
  abbrev pub cell_at : Frame → Step (Op × ℕ)
  cell_at f = do
    routine ← some_or_broken (slice_get code.routines f.routine)
    cell_in f.next routine

module _ (code : MachineCode) (now : ℕ) where
  abbrev pub act : Op → ℕ → Config → Step Config
  act (op.Push n) line c = on c (word.Number n ∷ c.words)
  act op.Null line c = on c (word.Null ∷ c.words)
  act op.Drop line c = do
    w ← any c.words
    on c w.1
  act op.Dup line c = do
    w ← any c.words
    on c (w.0 ∷ w.0 ∷ w.1)
  act (op.Local n) line c = on c (word.Address (record { space = Locals; index = depth c; offset = n }) ∷ c.words)
  act (op.This n) line c = do
    own ← some_or_stuck c.here.own
    a ← moved own n
    on c (word.Address a ∷ c.words)
  act (op.Region r n) line c = on c (word.Address (record { space = Regions; index = r; offset = n }) ∷ c.words)
  act (op.Offset n) line c = do
    a ← address c.words
    b ← moved a.0 n
    on c (word.Address b ∷ a.1)
  act (op.Index lo hi size) line c = do
    i ← number c.words
    a ← address i.1
    b ← element a.0 lo hi size i.0 line
    on c (word.Address b ∷ a.1)
  act op.Deref line c = do
    w ← reference c.words
    a ← not_null w.0 line
    on c (a ∷ w.1)
  act (op.Load e) line c = do
    a ← address c.words
    v ← read e c.memory a.0
    on c (word.Number v ∷ a.1)
  act (op.Store e) line c = do
    a ← address c.words
    v ← number a.1
    m ← write e c.memory a.0 (wrapped e v.0)
    on_memory c v.1 m
  act op.LoadRef line c = do
    a ← address c.words
    v ← read kind.Ulint c.memory a.0
    on c (reference_of v ∷ a.1)
  act op.StoreRef line c = do
    a ← address c.words
    w ← reference a.1
    v ← kept w.0
    m ← write kind.Ulint c.memory a.0 v
    on_memory c w.1 m
  act (op.Copy n) line c = do
    target ← address c.words
    source ← address target.1
    m ← copy n c.memory source.0 target.0
    on_memory c source.1 m
  act (op.Add e) line c = with_two (λ a b. sum e (wrapped e a) (wrapped e b)) c
  act (op.Sub e) line c = with_two (λ a b. difference e (wrapped e a) (wrapped e b)) c
  act (op.Mul e) line c = with_two (λ a b. product e (wrapped e a) (wrapped e b)) c
  act (op.Div e) line c = do
    b ← number c.words
    a ← number b.1
    q ← divided (wrapped e b.0) (quotient e (wrapped e a.0) (wrapped e b.0)) line
    on c (word.Number q ∷ a.1)
  act (op.Mod e) line c = do
    b ← number c.words
    a ← number b.1
    r ← divided (wrapped e b.0) (remainder e (wrapped e a.0) (wrapped e b.0)) line
    on c (word.Number r ∷ a.1)
  act (op.Neg e) line c = with_one (λ a. difference e (pos 0) (wrapped e a)) c
  act (op.AddC e) line c = do
    b ← number c.words
    a ← number b.1
    on c (word.Number (truth (has_carry e (wrapped e a.0) (wrapped e b.0))) ∷ word.Number (sum e (wrapped e a.0) (wrapped e b.0)) ∷ a.1)
  act op.Eq line c = with_two (λ a b. truth (int_eq a b)) c
  act op.Ne line c = with_two (λ a b. truth (not (int_eq a b))) c
  act op.Lt line c = with_two (λ a b. truth (int_lt a b)) c
  act op.Le line c = with_two (λ a b. truth (int_le a b)) c
  act op.Gt line c = with_two (λ a b. truth (int_lt b a)) c
  act op.Ge line c = with_two (λ a b. truth (int_le b a)) c
  act op.Same line c = do
    b ← reference c.words
    a ← reference b.1
    on c (word.Number (truth (same_reference a.0 b.0)) ∷ a.1)
  act (op.And e) line c = with_two (λ a b. conjunction e (wrapped e a) (wrapped e b)) c
  act (op.Or e) line c = with_two (λ a b. disjunction e (wrapped e a) (wrapped e b)) c
  act (op.Xor e) line c = with_two (λ a b. exclusive_disjunction e (wrapped e a) (wrapped e b)) c
  act (op.Not e) line c = with_one (λ a. complement e (wrapped e a)) c
  act (op.Conv e f) line c = with_one (λ a. converted f (wrapped e a)) c
  act op.NoZero line c = do
    v ← number c.words
    w ← not_zero v.0 line
    on c (word.Number w ∷ v.1)
  act (op.Jump to) line c = jumps c to c.words
  act (op.JumpF to) line c = do
    v ← number c.words
    if int_eq v.0 (pos 0) then jumps c to v.1 else on c v.1
  act op.Tick line c = spend c line c.ticks
  act (op.Call k n) line c = do
    w ← operands n c.words
    enters code k w.0 w.1 w.2 line c
  act (op.CallM target s n) line c = do
    w ← operands n c.words
    own ← some_or_stuck w.0
    class ← class_at c.memory own
    k ← method_of code target s class
    enters code k w.0 w.1 w.2 line c
  act (op.CallI i m n) line c = do
    w ← operands n c.words
    own ← some_or_stuck w.0
    class ← class_at c.memory own
    k ← target_of code i m class
    enters code k w.0 w.1 w.2 line c
  act (op.Try target) line c = do
    w ← reference c.words
    a ← if_conforms code target c.memory w.0
    on c (a ∷ w.1)
  act op.Now line c = on c (word.Number (pos now) ∷ c.words)
  act (op.Ret n) line c = leave c c.around
  act op.End line c = Stops (Ended (outcome.Done c.ticks))

  abbrev pub step : Config → Step Config
  step c = do
    cell ← cell_at code c.here
    act cell.0 cell.1 c

-- what a run comes to, with the regions then
pub data Result : Type 0 where
  Unfinished : Result
  Ends : Ending → List (Option (List ℕ)) → Result

-- an instruction that stops the run has written nothing
abbrev pub follow : Step Config → List (Option (List ℕ)) → (Config → Result) → Result
follow (Goes c) regions go = go c
follow (Stops e) regions go = Ends e regions

-- at most n instructions
abbrev pub exec : MachineCode → ℕ → ℕ → Config → Result
exec code now zero c = Unfinished
exec code now (suc n) c = follow (step code now c) c.memory.regions (exec code now n)

-- the state in which a run of a routine on an instance begins
abbrev pub begun : ℕ → RoutineCode → Option Address → List (List ℕ) → List (Option (List ℕ)) → ℕ → Config
begun k routine own locals regions ticks = record {
  here = record { routine = k; next = 0; own = own };
  words = [];
  around = [];
  memory = record { regions = regions; locals = locals };
  ticks = ticks;
}

-- a run enters the routine of a body with offset 0 of its region as the own instance
abbrev pub body_begun : MachineCode → List (Option (List ℕ)) → ℕ → ℕ → Step Config
body_begun code regions entry ticks = do
  body ← some_or_stuck (slice_get code.bodies entry)
  routine ← some_or_stuck (slice_get code.routines body.routine)
  Goes (begun body.routine routine (Some (record { space = Regions; index = body.region; offset = 0 })) (replicate routine.locals 0 ∷ []) regions ticks)

-- at most n instructions of the body at that place of `bodies`, at a moment, with so many ticks
abbrev pub machine : MachineCode → List (Option (List ℕ)) → ℕ → ℕ → ℕ → ℕ → Result
machine code regions entry now ticks n = follow (body_begun code regions entry ticks) regions (exec code now n)

abbrev pub flag : Bool → Word
flag b = word.Number (truth b)

abbrev pub spent : ℕ → ℕ → Step ℕ
spent line zero = faults fault.Watchdog line
spent line (suc n) = Goes n

-- a hook spends a tick, and is the first open call, with as many of the flags as its routine has arguments
abbrev pub hook_begun : MachineCode → List (Option (List ℕ)) → ℕ → Address → Bool → Bool → ℕ → Step Config
hook_begun code regions k own first second ticks = do
  routine ← some_or_stuck (slice_get code.routines k)
  left ← spent routine.line ticks
  image ← with_arguments 0 (take (length routine.args) (flag first ∷ flag second ∷ [])) (replicate routine.locals 0)
  Goes (begun k routine (Some own) ([] ∷ image ∷ []) regions left)

-- at most n instructions of a hook on an instance, at moment 0
abbrev pub hook : MachineCode → List (Option (List ℕ)) → ℕ → Address → Bool → Bool → ℕ → ℕ → Result
hook code regions k own first second ticks n = follow (hook_begun code regions k own first second ticks) regions (exec code 0 n)

-- the outcome of a run, with the regions' bytes that it leaves
pub record Gives (run : ℕ → Result) (outcome : Outcome) (left : List (Option (List ℕ))) : Type 0 where
  pub count : ℕ
  pub ends : run count ≡ Ends (Ended outcome) left

abbrev pub IsStuck : (ℕ → Result) → Type 0
IsStuck run = (count : ℕ) × (left : List (Option (List ℕ))) × (run count ≡ Ends Stuck left)

-- however many instructions are asked for, a run ends in one way
abbrev pub HasOneResult : (ℕ → Result) → Type 0
HasOneResult run = (m n : ℕ) (e f : Ending) (x y : List (Option (List ℕ))) → run m ≡ Ends e x → run n ≡ Ends f y → (e ≡ f) × (x ≡ y)
