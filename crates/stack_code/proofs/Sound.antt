-- Valid code never misses an operand, meets one of the wrong kind, or leaves its routine.
use Rattle.std.proofs.Common.{◌≡◌, ℕ, ℤ, zero, suc, pos, ◌+◌, ◌<◌, List, [], ◌∷◌, ◌++◌, length, take, drop, reverse, map, Bool, true, false, Option, Some, None, refl, sym, ap, ◌∙◌, arith, append_assoc, length-append}
use Rattle.std.specs.Prelude.{slice_get, nat_le, nat_lt, if◌then◌else◌, unsigned_abs}
use Rattle.std.specs.Ordering.{int_eq}
use Rattle.std.proofs.lemmas.Option.{slice_get_within, slice_get-get_or}
use Rattle.stack_code.specs.declared.memory.Address.{Address}
use Rattle.stack_code.specs.declared.memory.Word.{Word}
use Rattle.stack_code.specs.declared.memory.Word.TheVariants as word
use Rattle.stack_code.specs.declared.machine.Frame.{Frame}
use Rattle.stack_code.specs.declared.machine.Ending.TheVariants.{Ended, Stuck, Broken}
use Rattle.stack_code.specs.declared.op.Kind.{Kind}
use Rattle.stack_code.specs.declared.op.Kind.TheVariants.{Num, Addr}
use Rattle.stack_code.specs.declared.op.Op.{Op}
use Rattle.stack_code.specs.declared.op.Op.TheVariants as op
use Rattle.stack_code.specs.declared.code.RoutineCode.{RoutineCode}
use Rattle.stack_code.specs.declared.code.MachineCode.{MachineCode}
use Rattle.std.proofs.Common.{get_or, negsuc, replicate}
use Rattle.std.specs.Prelude.{◌-ℤ◌, ◌&&◌, int_le, nat_eq}
use Rattle.std.proofs.Math.Seq.{drop-append_seam}
use Rattle.std.proofs.lemmas.List.{length-map, drop-map}
use Rattle.std.proofs.lemmas.Bool.{le-leb}
use Rattle.st_types.specs.declared.elem.Elem.{Elem}
use Rattle.st_types.specs.declared.elem.Elem.TheVariants as kind
use Rattle.plc_num.specs.Arithmetic.{quotient}
use Rattle.plc_num.specs.Wrapping.{wrapped}
use Rattle.plc_text.specs.declared.fault.FaultKind.TheVariants as fault
use Rattle.stack_code.specs.declared.memory.Space.{Space}
use Rattle.stack_code.specs.declared.memory.Space.TheVariants.{Regions, Locals}
use Rattle.stack_code.specs.Steps.{Step, Goes, Stops, ◌>>=◌, some_or_stuck, asks, faults, broken}
use Rattle.stack_code.specs.Memory.{Memory, there, image_in, image_at, read, write, copy, kept, address_kept, reference_of, address_of, moved}
use Rattle.stack_code.specs.Machine.{Config, limit, number, address, reference, any, instance, operands, with_arguments, on, on_memory, onward, jumps, depth, element, divided, not_null, not_zero, class_at, if_conforms, first_target, with_one, with_two, spend, leave, enter, enters, conforms, in_slot, act, step}
use Rattle.stack_code.specs.Validity as v
use Rattle.stack_code.specs.Validity.{pop, pop_any, kinds_at, Leads, kind_of, IsValid, IsValidRoutine}

-- what the calls around wait with: each finds the results, and its own operands below
abbrev pub Pending : MachineCode → RoutineCode → List Frame → List Kind → Type 0
Pending code r [] rest = rest ≡ []
Pending code r (f ∷ fs) rest = (caller : RoutineCode) × (ks : List Kind) × (more : List Kind) × (slice_get code.routines f.routine ≡ Some caller)
    × (kinds_at caller f.next ≡ Some (reverse r.rets ++ ks)) × (rest ≡ ks ++ more) × Pending code caller fs more

-- the operands are of the kinds that the code names
pub record Typed (code : MachineCode) (c : Config) : Type 0 where
  pub r : RoutineCode
  pub ks : List Kind
  pub rest : List Kind
  pub is : slice_get code.routines c.here.routine ≡ Some r
  pub finds : kinds_at r c.here.next ≡ Some ks
  pub shows : map kind_of c.words ≡ ks ++ rest
  pub waits : Pending code r c.around rest

-- goes on with such operands, or stops as it may
abbrev pub Sound : MachineCode → Step Config → Type 0
Sound code (Goes c) = Typed code c
Sound code (Stops Broken) = ⊥
Sound code (Stops Stuck) = Unit {0}
Sound code (Stops (Ended o)) = Unit {0}

abbrev pub Calm : {A : Type 0} → Step A → Type 0
Calm (Stops Broken) = ⊥
Calm (Stops Stuck) = Unit {0}
Calm (Stops (Ended o)) = Unit {0}
Calm (Goes a) = Unit {0}

pub then_sound : {A : Type 0} (code : MachineCode) (s : Step A) (f : A → Step Config) → Calm s → ((a : A) → Sound code (f a)) → Sound code (s >>= f)
then_sound code (Goes a) f calm h = h a
then_sound code (Stops Broken) f calm h = absurd calm
then_sound code (Stops Stuck) f calm h = tt
then_sound code (Stops (Ended o)) f calm h = tt

then_calm : {A B : Type 0} (s : Step A) (f : A → Step B) → Calm s → ((a : A) → Calm (f a)) → Calm (s >>= f)
then_calm (Goes a) f calm h = h a
then_calm (Stops Broken) f calm h = absurd calm
then_calm (Stops Stuck) f calm h = tt
then_calm (Stops (Ended o)) f calm h = tt

pub some_calm : {A : Type 0} (o : Option A) → Calm (some_or_stuck o)
some_calm None = tt
some_calm (Some a) = tt

asks_calm : {A : Type 0} (b : Bool) (a : A) → Calm (asks b a)
asks_calm true a = tt
asks_calm false a = tt

number_sound : (code : MachineCode) (ws : List Word) (ks rest out : List Kind) (g : List Kind → Option (List Kind)) (f : ℤ × List Word → Step Config) → v.◌>>=◌ (pop Num ks) g ≡ Some out → map kind_of ws ≡ ks ++ rest
    → ((n : ℤ) (ws' : List Word) (ks' : List Kind) → g ks' ≡ Some out → map kind_of ws' ≡ ks' ++ rest → Sound code (f (n, ws'))) → Sound code (number ws >>= f)
number_sound code ws [] rest out g f e m h = absurd (cc)
number_sound code ws (Addr ∷ ks) rest out g f e m h = absurd (cc)
number_sound code [] (Num ∷ ks) rest out g f e m h = absurd (cc)
number_sound code ((word.Number n) ∷ ws) (Num ∷ ks) rest out g f e m h = h n ws ks e (cc)
number_sound code ((word.Address a) ∷ ws) (Num ∷ ks) rest out g f e m h = absurd (cc)
number_sound code (word.Null ∷ ws) (Num ∷ ks) rest out g f e m h = absurd (cc)

address_sound : (code : MachineCode) (ws : List Word) (ks rest out : List Kind) (g : List Kind → Option (List Kind)) (f : Address × List Word → Step Config) → v.◌>>=◌ (pop Addr ks) g ≡ Some out → map kind_of ws ≡ ks ++ rest
    → ((a : Address) (ws' : List Word) (ks' : List Kind) → g ks' ≡ Some out → map kind_of ws' ≡ ks' ++ rest → Sound code (f (a, ws'))) → Sound code (address ws >>= f)
address_sound code ws [] rest out g f e m h = absurd (cc)
address_sound code ws (Num ∷ ks) rest out g f e m h = absurd (cc)
address_sound code [] (Addr ∷ ks) rest out g f e m h = absurd (cc)
address_sound code ((word.Number n) ∷ ws) (Addr ∷ ks) rest out g f e m h = absurd (cc)
address_sound code ((word.Address a) ∷ ws) (Addr ∷ ks) rest out g f e m h = h a ws ks e (cc)
address_sound code (word.Null ∷ ws) (Addr ∷ ks) rest out g f e m h = tt

reference_sound : (code : MachineCode) (ws : List Word) (ks rest out : List Kind) (g : List Kind → Option (List Kind)) (f : Word × List Word → Step Config) → v.◌>>=◌ (pop Addr ks) g ≡ Some out → map kind_of ws ≡ ks ++ rest
    → ((w : Word) (ws' : List Word) (ks' : List Kind) → kind_of w ≡ Addr → g ks' ≡ Some out → map kind_of ws' ≡ ks' ++ rest → Sound code (f (w, ws'))) → Sound code (reference ws >>= f)
reference_sound code ws [] rest out g f e m h = absurd (cc)
reference_sound code ws (Num ∷ ks) rest out g f e m h = absurd (cc)
reference_sound code [] (Addr ∷ ks) rest out g f e m h = absurd (cc)
reference_sound code ((word.Number n) ∷ ws) (Addr ∷ ks) rest out g f e m h = absurd (cc)
reference_sound code ((word.Address a) ∷ ws) (Addr ∷ ks) rest out g f e m h = h (word.Address a) ws ks refl e (cc)
reference_sound code (word.Null ∷ ws) (Addr ∷ ks) rest out g f e m h = h word.Null ws ks refl e (cc)

any_sound : (code : MachineCode) (ws : List Word) (ks rest out : List Kind) (g : List Kind → Option (List Kind)) (f : Word × List Word → Step Config) → v.◌>>=◌ (pop_any ks) g ≡ Some out → map kind_of ws ≡ ks ++ rest
    → ((w : Word) (ws' : List Word) (ks' : List Kind) → g ks' ≡ Some out → map kind_of ws' ≡ ks' ++ rest → Sound code (f (w, ws'))) → Sound code (any ws >>= f)
any_sound code ws [] rest out g f e m h = absurd (cc)
any_sound code [] (k ∷ ks) rest out g f e m h = absurd (cc)
any_sound code (w ∷ ws) (k ∷ ks) rest out g f e m h = h w ws ks e (cc)

address_kept_calm : (s : Space) (n : ℕ) → Calm (address_kept s n)
address_kept_calm Regions n = asks_calm _ _
address_kept_calm Locals n = tt

kept_calm : (w : Word) → Calm (kept w)
kept_calm (word.Number n) = tt
kept_calm (word.Address a) = address_kept_calm a.space _
kept_calm word.Null = tt

pub arguments_calm : (i : ℕ) (ws : List Word) (image : List ℕ) → Calm (with_arguments i ws image)
arguments_calm i [] image = tt
arguments_calm i (w ∷ ws) image = then_calm (kept w) _ (kept_calm w) (λ n. then_calm _ _ (asks_calm _ image) (λ room. arguments_calm (suc i) ws _))

image_calm : (m : Memory) (a : Address) (n : ℕ) → Calm (image_at m a n)
image_calm m a n = then_calm (image_in a.space m a.index) _ (in_calm a.space) (λ image. asks_calm _ image)
  where
    there_calm : (o : Option (Option (List ℕ))) → Calm (there o)
    there_calm None = tt
    there_calm (Some image) = some_calm image

    in_calm : (t : Space) → Calm (image_in t m a.index)
    in_calm Regions = there_calm (slice_get m.regions a.index)
    in_calm Locals = some_calm (slice_get m.locals a.index)

read_calm : (e : Elem) (m : Memory) (a : Address) → Calm (read e m a)
read_calm e m a = then_calm _ _ (image_calm m a _) (λ image. tt)

write_calm : (e : Elem) (m : Memory) (a : Address) (n : ℤ) → Calm (write e m a n)
write_calm e m a n = then_calm _ _ (image_calm m a _) (λ image. tt)

copy_calm : (n : ℕ) (m : Memory) (a b : Address) → Calm (copy n m a b)
copy_calm n m a b = then_calm _ _ (image_calm m a n) (λ x. then_calm _ _ (image_calm m b n) (λ y. tt))

element_calm : (a : Address) (lo hi : ℤ) (size : ℕ) (i : ℤ) (line : ℕ) → Calm (element a lo hi size i line)
element_calm a lo hi size i line = then_calm _ _ (found (int_le lo i && int_le i hi)) (λ n. asks_calm _ _)
  where
    found : (b : Bool) → Calm (if b then Goes (unsigned_abs (i -ℤ lo)) else faults fault.Index line)
    found true = tt
    found false = tt

moved_calm : (a : Address) (n : ℕ) → Calm (moved a n)
moved_calm a n = asks_calm _ _

divided_calm : (b result : ℤ) (line : ℕ) → Calm (divided b result line)
divided_calm b result line = found (int_eq b (pos 0))
  where
    found : (t : Bool) → Calm (if t then faults fault.Divide line else Goes result)
    found true = tt
    found false = tt

not_zero_calm : (n : ℤ) (line : ℕ) → Calm (not_zero n line)
not_zero_calm n line = found (int_eq n (pos 0))
  where
    found : (t : Bool) → Calm (if t then faults fault.Step line else Goes n)
    found true = tt
    found false = tt

class_calm : (m : Memory) (a : Address) → Calm (class_at m a)
class_calm m a = then_calm (read kind.Ulint m a) _ (read_calm kind.Ulint m a) (λ class. tt)

-- the kind on top stands there twice
doubled_sound : (code : MachineCode) (ws : List Word) (ks rest out : List Kind) (f : Word × List Word → Step Config) → v.doubled ks ≡ Some out → map kind_of ws ≡ ks ++ rest
    → ((w : Word) (ws' : List Word) (ks' : List Kind) → Some (kind_of w ∷ kind_of w ∷ ks') ≡ Some out → map kind_of ws' ≡ ks' ++ rest → Sound code (f (w, ws'))) → Sound code (any ws >>= f)
doubled_sound code ws [] rest out f e m h = absurd (cc)
doubled_sound code [] (k ∷ ks) rest out f e m h = absurd (cc)
doubled_sound code (w ∷ ws) (k ∷ ks) rest out f e m h = h w ws ks (let same : kind_of w ≡ k = cc in rw same e) (cc)

if_conforms_sound : (code : MachineCode) (target : ℕ) (m : Memory) (w : Word) (f : Word → Step Config) → kind_of w ≡ Addr → ((a : Word) → kind_of a ≡ Addr → Sound code (f a)) → Sound code (if_conforms code target m w >>= f)
if_conforms_sound code target m (word.Number n) f k h = absurd (cc)
if_conforms_sound code target m (word.Address a) f k h =
    joined (then_sound code (class_at m a) _ (class_calm m a) (λ class. by (conforms code class target)))
  where
    by : (b : Bool) → Sound code (f (if b then word.Address a else word.Null))
    by true = h (word.Address a) refl
    by false = h word.Null refl

    joined : Sound code (class_at m a >>= λ class. f (if conforms code class target then word.Address a else word.Null)) → Sound code ((class_at m a >>= λ class. Goes (if conforms code class target then word.Address a else word.Null)) >>= f)
    joined s = over (class_at m a) s
      where
        over : (s : Step ℕ) → Sound code (s >>= λ class. f (if conforms code class target then word.Address a else word.Null)) → Sound code ((s >>= λ class. Goes (if conforms code class target then word.Address a else word.Null)) >>= f)
        over (Goes class) t = t
        over (Stops e) t = t
if_conforms_sound code target m word.Null f k h = h word.Null refl

not_null_sound : (code : MachineCode) (w : Word) (line : ℕ) (f : Word → Step Config) → kind_of w ≡ Addr → ((a : Word) → kind_of a ≡ Addr → Sound code (f a)) → Sound code (not_null w line >>= f)
not_null_sound code (word.Number n) line f k h = absurd (cc)
not_null_sound code (word.Address a) line f k h = h (word.Address a) refl
not_null_sound code word.Null line f k h = tt

reference_kept_kind : (n : ℤ) → kind_of (reference_of n) ≡ Addr
reference_kept_kind (negsuc n) = refl
reference_kept_kind (pos n) = by (nat_eq n 0)
  where
    by : (b : Bool) → kind_of (if b then word.Null else word.Address (address_of n)) ≡ Addr
    by true = refl
    by false = refl

slot_calm : (code : MachineCode) (class s : ℕ) → Calm (in_slot code class s)
slot_calm code class s = then_calm (some_or_stuck (slice_get code.slots class)) _ (some_calm _) (λ slots. then_calm (some_or_stuck (slice_get slots s)) _ (some_calm _) (λ slot. some_calm slot))

if_goes : {A : Type 0} (b : Bool) (a : A) (x : A) → (if b then Goes a else broken) ≡ Goes x → (b ≡ true) × (a ≡ x)
if_goes true a x e = (refl, (cc))
if_goes false a x e = absurd (cc)

-- the operands of a call
operands_sound : (code : MachineCode) (n : ℕ) (ws : List Word) (args below rest : List Kind) (f : Option Address × List Word × List Word → Step Config) → length args ≡ n → map kind_of ws ≡ (args ++ Addr ∷ below) ++ rest
    → ((own : Option Address) (taken ws' : List Word) → map kind_of ws' ≡ below ++ rest → Sound code (f (own, taken, ws'))) → Sound code (operands n ws >>= f)
operands_sound code n ws args below rest f count m h =
    let size : length ws ≡ length args + (1 + length below) + length rest =
    sym (length-map ws kind_of) ∙ ap length m ∙ omega (arith, length-append (args ++ Addr ∷ below) rest, length-append args (Addr ∷ below)) in
    let enough : nat_le n (length ws) ≡ true = le-leb n (length ws) (omega arith) in
    let cut : map kind_of (drop n ws) ≡ Addr ∷ (below ++ rest) =
    sym (drop-map kind_of n ws) ∙ ap (drop n) m ∙ ap (λ k. drop k ((args ++ Addr ∷ below) ++ rest)) (sym count) ∙ ap (drop (length args)) (append_assoc args (Addr ∷ below) rest) ∙ drop-append_seam args (Addr ∷ (below ++ rest)) in
    rw enough (below_sound (drop n ws) cut)
  where
    below_sound : (us : List Word) → map kind_of us ≡ Addr ∷ (below ++ rest) → Sound code ((instance us >>= λ own. Goes (own.0, reverse (take n ws), own.1)) >>= f)
    below_sound [] e = absurd (cc)
    below_sound ((word.Number k) ∷ us) e = absurd (cc)
    below_sound ((word.Address a) ∷ us) e = h (Some a) (reverse (take n ws)) us (cc)
    below_sound (word.Null ∷ us) e = h None (reverse (take n ws)) us (cc)

module _ (code : MachineCode) (now : ℕ) (valid : IsValid code) (c : Config) (r : RoutineCode) (ks rest : List Kind)
    (is : slice_get code.routines c.here.routine ≡ Some r) (finds : kinds_at r c.here.next ≡ Some ks) (shows : map kind_of c.words ≡ ks ++ rest) (waits : Pending code r c.around rest) where
  lands : (m : Memory) (ws : List Word) (X out : List Kind) → kinds_at r (c.here.next + 1) ≡ Some out → Some X ≡ Some out → map kind_of ws ≡ X ++ rest → Sound code (on_memory c ws m)
  lands m ws X out f e s = record { r = r; ks = X; rest = rest; is = is; finds = f ∙ sym e; shows = s; waits = waits }

  pushes : (w : Word) (ws : List Word) (k : Kind) (X out : List Kind) → kind_of w ≡ k → kinds_at r (c.here.next + 1) ≡ Some out → Some (k ∷ X) ≡ Some out → map kind_of ws ≡ X ++ rest → Sound code (on c (w ∷ ws))
  pushes w ws k X out kind f e s = lands c.memory (w ∷ ws) (k ∷ X) out f e (rw (kind, s) refl)

  jumps_sound : (to : ℕ) (ws : List Word) (X out : List Kind) → kinds_at r to ≡ Some out → Some X ≡ Some out → map kind_of ws ≡ X ++ rest → Sound code (jumps c to ws)
  jumps_sound to ws X out f e s = record { r = r; ks = X; rest = rest; is = is; finds = f ∙ sym e; shows = s; waits = waits }

  -- a call of routine k leaves the results on what is below
  enters_sound : (k : ℕ) (own : Option Address) (taken ws : List Word) (below : List Kind) (line : ℕ) → map kind_of ws ≡ below ++ rest
      → ((routine : RoutineCode) → slice_get code.routines k ≡ Some routine → Leads r (Some (reverse routine.rets ++ below)) (c.here.next + 1)) → Sound code (enters code k own taken ws line c)
  enters_sound k own taken ws below line s leads = by (slice_get code.routines k) refl
    where
      inside : (routine : RoutineCode) → slice_get code.routines k ≡ Some routine → (b : Bool)
          → Sound code (if b then (with_arguments 0 taken (replicate routine.locals 0) >>= λ image.
          Goes (record { here = record { routine = k; next = 0; own = own }; words = ws; around = onward c.here ∷ c.around; memory = record c.memory { locals = c.memory.locals ++ image ∷ [] }; ticks = c.ticks })) else faults fault.Depth line)
      inside routine e false = tt
      inside routine e true =
          let l = leads routine e in
          then_sound code _ _ (arguments_calm 0 taken _) (λ image. record {
            r = routine;
            ks = [];
            rest = below ++ rest;
            is = e;
            finds = (valid.routines k routine e).start;
            shows = s;
            waits = (r, below, rest, is, l.finds ∙ sym l.leaves, refl, waits);
          })

      by : (o : Option RoutineCode) → slice_get code.routines k ≡ o → Sound code (some_or_stuck o >>= λ routine. enter k routine own taken ws line c)
      by None e = tt
      by (Some routine) e = inside routine e (nat_lt (depth c) limit)

  leaves_sound : (fs : List Frame) → ks ≡ reverse r.rets → Pending code r fs rest → Sound code (leave c fs)
  leaves_sound [] e p = tt
  leaves_sound (f ∷ fs) e p =
      record { r = p.0; ks = reverse r.rets ++ p.1; rest = p.2; is = p.3; finds = p.4; shows = shows ∙ rw (e, p.5) (sym (append_assoc (reverse r.rets) p.1 p.2)); waits = p.6 }

  spend_sound : (line : ℕ) (t : ℕ) (X out : List Kind) → kinds_at r (c.here.next + 1) ≡ Some out → Some X ≡ Some out → map kind_of c.words ≡ X ++ rest → Sound code (spend c line t)
  spend_sound line zero X out f e s = tt
  spend_sound line (suc n) X out f e s = record { r = r; ks = X; rest = rest; is = is; finds = f ∙ sym e; shows = s; waits = waits }

  one_sound : (f : ℤ → ℤ) → Leads r (v.after_one ks) (c.here.next + 1) → Sound code (with_one f c)
  one_sound f l = number_sound code c.words ks rest l.ks _ _ l.leaves shows (λ a ws ks' e s. pushes (word.Number (f a)) ws Num ks' l.ks refl l.finds e s)

  two_sound : (f : ℤ → ℤ → ℤ) → Leads r (v.after_two ks) (c.here.next + 1) → Sound code (with_two f c)
  two_sound f l =
      number_sound code c.words ks rest l.ks _ _ l.leaves shows (λ b ws ks' e s. number_sound code ws ks' rest l.ks _ _ e s (λ a ws2 ks2 e2 s2. pushes (word.Number (f a b)) ws2 Num ks2 l.ks refl l.finds e2 s2))

  pub act_sound : (o : Op) (line : ℕ) → v.IsFine code r c.here.next o ks → Sound code (act code now o line c)
  act_sound (op.Push n) line l = pushes (word.Number n) c.words Num ks l.ks refl l.finds l.leaves shows
  act_sound op.Null line l = pushes word.Null c.words Addr ks l.ks refl l.finds l.leaves shows
  act_sound op.Drop line l = any_sound code c.words ks rest l.ks _ _ l.leaves shows (λ w ws ks' e s. lands c.memory ws ks' l.ks l.finds e s)
  act_sound op.Dup line l =
      doubled_sound code c.words ks rest l.ks _ l.leaves shows (λ w ws ks' e s. lands c.memory (w ∷ w ∷ ws) (kind_of w ∷ kind_of w ∷ ks') l.ks l.finds e (rw s refl))
  act_sound (op.Local n) line l = pushes _ c.words Addr ks l.ks refl l.finds l.leaves shows
  act_sound (op.This n) line l = then_sound code _ _ (some_calm c.here.own) (λ own. then_sound code (moved own n) _ (moved_calm own n) (λ a. pushes (word.Address a) c.words Addr ks l.ks refl l.finds l.leaves shows))
  act_sound (op.Region i n) line l = pushes _ c.words Addr ks l.ks refl l.finds l.leaves shows
  act_sound (op.Offset n) line l = address_sound code c.words ks rest l.ks _ _ l.leaves shows (λ a ws ks' e s. then_sound code (moved a n) _ (moved_calm a n) (λ b. pushes (word.Address b) ws Addr ks' l.ks refl l.finds e s))
  act_sound (op.Index lo hi size) line l =
      number_sound code c.words ks rest l.ks _ _ l.leaves shows (λ i ws ks' e s.
      address_sound code ws ks' rest l.ks _ _ e s (λ a ws2 ks2 e2 s2.
      then_sound code _ _ (element_calm a lo hi size i line) (λ b. pushes (word.Address b) ws2 Addr ks2 l.ks refl l.finds e2 s2)))
  act_sound op.Deref line l =
      reference_sound code c.words ks rest l.ks _ _ l.leaves shows (λ w ws ks' k e s. not_null_sound code w line _ k (λ a ka. pushes a ws Addr ks' l.ks ka l.finds e s))
  act_sound (op.Load e') line l =
      address_sound code c.words ks rest l.ks _ _ l.leaves shows (λ a ws ks' e s. then_sound code _ _ (read_calm e' c.memory a) (λ n. pushes (word.Number n) ws Num ks' l.ks refl l.finds e s))
  act_sound (op.Store e') line l =
      address_sound code c.words ks rest l.ks _ _ l.leaves shows (λ a ws ks' e s.
      number_sound code ws ks' rest l.ks _ _ e s (λ n ws2 ks2 e2 s2. then_sound code _ _ (write_calm e' c.memory a _) (λ m. lands m ws2 ks2 l.ks l.finds e2 s2)))
  act_sound op.LoadRef line l =
      address_sound code c.words ks rest l.ks _ _ l.leaves shows (λ a ws ks' e s. then_sound code _ _ (read_calm kind.Ulint c.memory a) (λ n. pushes (reference_of n) ws Addr ks' l.ks (reference_kept_kind n) l.finds e s))
  act_sound op.StoreRef line l =
      address_sound code c.words ks rest l.ks _ _ l.leaves shows (λ a ws ks' e s.
      reference_sound code ws ks' rest l.ks _ _ e s (λ w ws2 ks2 k e2 s2. then_sound code _ _ (kept_calm w) (λ n. then_sound code _ _ (write_calm kind.Ulint c.memory a n) (λ m. lands m ws2 ks2 l.ks l.finds e2 s2))))
  act_sound (op.Copy n) line l =
      address_sound code c.words ks rest l.ks _ _ l.leaves shows (λ a ws ks' e s.
      address_sound code ws ks' rest l.ks _ _ e s (λ b ws2 ks2 e2 s2. then_sound code _ _ (copy_calm n c.memory b a) (λ m. lands m ws2 ks2 l.ks l.finds e2 s2)))
  act_sound (op.Add e') line l = two_sound _ l
  act_sound (op.Sub e') line l = two_sound _ l
  act_sound (op.Mul e') line l = two_sound _ l
  act_sound (op.Div e') line l =
      number_sound code c.words ks rest l.ks _ _ l.leaves shows (λ b ws ks' e s. number_sound code ws ks' rest l.ks _ _ e s (λ a ws2 ks2 e2 s2.
      then_sound code (divided (wrapped e' b) _ line) _ (divided_calm (wrapped e' b) _ line) (λ q. pushes (word.Number q) ws2 Num ks2 l.ks refl l.finds e2 s2)))
  act_sound (op.Mod e') line l =
      number_sound code c.words ks rest l.ks _ _ l.leaves shows (λ b ws ks' e s. number_sound code ws ks' rest l.ks _ _ e s (λ a ws2 ks2 e2 s2.
      then_sound code (divided (wrapped e' b) _ line) _ (divided_calm (wrapped e' b) _ line) (λ q. pushes (word.Number q) ws2 Num ks2 l.ks refl l.finds e2 s2)))
  act_sound (op.Neg e') line l = one_sound _ l
  act_sound (op.AddC e') line l =
      number_sound code c.words ks rest l.ks _ _ l.leaves shows (λ b ws ks' e s. number_sound code ws ks' rest l.ks _ _ e s (λ a ws2 ks2 e2 s2.
      lands c.memory _ (Num ∷ Num ∷ ks2) l.ks l.finds e2 (rw s2 refl)))
  act_sound op.Eq line l = two_sound _ l
  act_sound op.Ne line l = two_sound _ l
  act_sound op.Lt line l = two_sound _ l
  act_sound op.Le line l = two_sound _ l
  act_sound op.Gt line l = two_sound _ l
  act_sound op.Ge line l = two_sound _ l
  act_sound op.Same line l =
      reference_sound code c.words ks rest l.ks _ _ l.leaves shows (λ b ws ks' kb e s. reference_sound code ws ks' rest l.ks _ _ e s (λ a ws2 ks2 ka e2 s2. pushes _ ws2 Num ks2 l.ks refl l.finds e2 s2))
  act_sound (op.And e') line l = two_sound _ l
  act_sound (op.Or e') line l = two_sound _ l
  act_sound (op.Xor e') line l = two_sound _ l
  act_sound (op.Not e') line l = one_sound _ l
  act_sound (op.Conv e' f) line l = one_sound _ l
  act_sound op.NoZero line l =
      number_sound code c.words ks rest l.ks _ _ l.leaves shows (λ n ws ks' e s. then_sound code (not_zero n line) _ (not_zero_calm n line) (λ w. pushes (word.Number w) ws Num ks' l.ks refl l.finds e s))
  act_sound (op.Jump to) line l = jumps_sound to c.words ks l.0.ks l.0.finds l.0.leaves shows
  act_sound (op.JumpF to) line l =
      number_sound code c.words ks rest l.0.ks _ _ l.0.leaves shows (λ n ws ks' e s. by (int_eq n (pos 0)) ws ks' e s)
    where
      by : (b : Bool) (ws : List Word) (ks' : List Kind) → Some ks' ≡ Some l.0.ks → map kind_of ws ≡ ks' ++ rest → Sound code (if b then jumps c to ws else on c ws)
      by true ws ks' e s = jumps_sound to ws ks' l.0.ks l.0.finds e s
      by false ws ks' e s = lands c.memory ws ks' l.1.ks l.1.finds (e ∙ sym l.0.leaves ∙ l.1.leaves) s
  act_sound op.Tick line l = spend_sound line c.ticks ks l.ks l.finds l.leaves shows
  act_sound (op.Call k n) line l =
      operands_sound code n c.words l.args l.below rest _ l.count (shows ∙ ap (λ x. x ++ rest) l.finds) (λ own taken ws s.
      enters_sound k own taken ws l.below line s (λ routine e. (l.enters k routine refl e).1))
  act_sound (op.CallM target sl n) line l =
      operands_sound code n c.words l.args l.below rest _ l.count (shows ∙ ap (λ x. x ++ rest) l.finds) (λ own taken ws s.
      then_sound code _ _ (some_calm own) (λ a.
      then_sound code (class_at c.memory a) _ (class_calm c.memory a) (λ class. by class own taken ws s (conforms code class target) refl)))
    where
      found : (class : ℕ) (own : Option Address) (taken ws : List Word) → map kind_of ws ≡ l.below ++ rest → conforms code class target ≡ true → (s : Step ℕ) → in_slot code class sl ≡ s → Calm s
          → Sound code (s >>= λ k. enters code k own taken ws line c)
      found class own taken ws m conf (Goes k) e calm = enters_sound k own taken ws l.below line m (λ routine is'. (l.enters k routine (class, conf, e) is').1)
      found class own taken ws m conf (Stops Broken) e calm = absurd calm
      found class own taken ws m conf (Stops Stuck) e calm = tt
      found class own taken ws m conf (Stops (Ended o)) e calm = tt

      by : (class : ℕ) (own : Option Address) (taken ws : List Word) → map kind_of ws ≡ l.below ++ rest → (b : Bool) → conforms code class target ≡ b
          → Sound code ((asks b class >>= λ conformer. in_slot code conformer sl) >>= λ k. enters code k own taken ws line c)
      by class own taken ws m false e = tt
      by class own taken ws m true e = found class own taken ws m e (in_slot code class sl) refl (slot_calm code class sl)
  act_sound (op.CallI i m n) line l =
      operands_sound code n c.words l.args l.below rest _ l.count (shows ∙ ap (λ x. x ++ rest) l.finds) (λ own taken ws s.
      then_sound code _ _ (some_calm own) (λ a.
      then_sound code (class_at c.memory a) _ (class_calm c.memory a) (λ class. found class own taken ws s (first_target code.targets class i m) refl)))
    where
      found : (class : ℕ) (own : Option Address) (taken ws : List Word) → map kind_of ws ≡ l.below ++ rest → (o : Option ℕ) → first_target code.targets class i m ≡ o
          → Sound code (some_or_stuck o >>= λ k. enters code k own taken ws line c)
      found class own taken ws s None e = tt
      found class own taken ws s (Some k) e = enters_sound k own taken ws l.below line s (λ routine is'. (l.enters k routine (class, ap some_or_stuck e) is').1)
  act_sound (op.Try target) line l =
      reference_sound code c.words ks rest l.ks _ _ l.leaves shows (λ w ws ks' k e s. if_conforms_sound code target c.memory w _ k (λ a ka. pushes a ws Addr ks' l.ks ka l.finds e s))
  act_sound (op.Ret n) line l = leaves_sound c.around l.0 waits
  act_sound op.End line l = tt
  act_sound op.Now line l = pushes _ c.words Num ks l.ks refl l.finds l.leaves shows

-- a address with a list has an instruction and a line
pub cell_of : (code : MachineCode) (r : RoutineCode) (pc : ℕ) (ks : List Kind) → IsValidRoutine code r → kinds_at r pc ≡ Some ks → (o : Op) × (line : ℕ) × (slice_get r.ops pc ≡ Some o) × (slice_get r.lines pc ≡ Some line)
cell_of code r pc ks ok e =
    let lt : pc < length r.kinds = within (slice_get r.kinds pc) refl e in
    (get_or r.ops pc op.Null, get_or r.lines pc 0, slice_get-get_or r.ops pc op.Null (omega (arith, ok.lists)), slice_get-get_or r.lines pc 0 (omega (arith, ok.lists, ok.lines)))
  where
    within : (o : _) → slice_get r.kinds pc ≡ o → v.listed o ≡ Some ks → pc < length r.kinds
    within None is e = absurd (cc)
    within (Some x) is e = slice_get_within r.kinds pc x is

pub step_sound : (code : MachineCode) (now : ℕ) → IsValid code → (c : Config) → Typed code c → Sound code (step code now c)
step_sound code now valid c t =
    let ok = valid.routines c.here.routine t.r t.is in
    let cell = cell_of code t.r c.here.next t.ks ok t.finds in
    rw (t.is, cell.2, cell.3) (act_sound code now valid c t.r t.ks t.rest t.is t.finds t.shows t.waits cell.0 cell.1 (ok.each c.here.next cell.0 t.ks cell.2 t.finds))
