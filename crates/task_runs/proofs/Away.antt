-- What a run of the machine does where some regions are away, it does where they are there, and leaves them as they are.
use Rattle.std.proofs.Common.{◌≡◌, ◌≢◌, ℕ, zero, suc, ◌+◌, ◌-◌, ℤ, pos, Bool, true, false, List, [], ◌∷◌, ◌++◌, length, Option, Some, None, refl, sym, ap, ◌∙◌, subst, arith}
use Rattle.std.specs.Prelude.{if◌then◌else◌, slice_get, slice_set, slice_range, nat_eq, nat_lt, nat_le, not, take, replicate, int_lt, int_le}
use Rattle.std.specs.Ordering.{int_eq}
use Rattle.plc_text.specs.declared.fault.FaultKind.TheVariants as fault
use Rattle.plc_num.specs.Wrapping.{wrapped}
use Rattle.plc_num.specs.Arithmetic.{sum, difference, product, quotient, remainder}
use Rattle.plc_num.specs.Bits.{conjunction, disjunction, exclusive_disjunction, complement}
use Rattle.plc_num.specs.Conversion.{converted}
use Rattle.mem_image.specs.Image.{written, replaced}
use Rattle.std.proofs.lemmas.Bool.{eqb-true, eq-eqb}
use Rattle.st_types.specs.declared.elem.Elem.{Elem}
use Rattle.st_types.specs.declared.elem.Elem.TheVariants as kind
use Rattle.st_types.specs.Elem.{bytes}
use Rattle.mem_layout.proofs.store_bytes.Store.{get_set_same, get_set_other}
use Rattle.stack_code.specs.declared.code.MachineCode.{MachineCode}
use Rattle.stack_code.specs.declared.code.RoutineCode.{RoutineCode}
use Rattle.stack_code.specs.declared.machine.Ending.{Ending}
use Rattle.stack_code.specs.declared.machine.Ending.TheVariants.{Ended, Stuck, Broken}
use Rattle.stack_code.specs.declared.machine.Frame.{Frame}
use Rattle.stack_code.specs.declared.machine.Outcome.{Outcome}
use Rattle.stack_code.specs.declared.machine.Outcome.TheVariants as outcome
use Rattle.stack_code.specs.declared.memory.Address.{Address}
use Rattle.stack_code.specs.declared.memory.Space.{Space}
use Rattle.stack_code.specs.declared.memory.Space.TheVariants.{Regions, Locals}
use Rattle.stack_code.specs.declared.memory.Word.{Word}
use Rattle.stack_code.specs.declared.memory.Word.TheVariants as word
use Rattle.stack_code.specs.declared.op.Op.{Op}
use Rattle.stack_code.specs.declared.op.Op.TheVariants as op
use Rattle.stack_code.specs.Memory.{Memory, image_at, image_in, holds, there, with_image, read, copy, kept, moved, reference_of, same_reference}
use Rattle.stack_code.specs.Steps.{Step, Goes, Stops, ◌>>=◌, some_or_stuck, faults}
use Rattle.stack_code.specs.Machine.{Config, Gives, Ends, act, step, exec, follow, on, on_memory, jumps, number, address, reference, any, operands, enter, enters, with_arguments, class_at, if_conforms, method_of, target_of, leave, spend, cell_at, depth, limit, body_begun, hook_begun, machine, hook, Result}
use Rattle.task_runs.specs.Task.{BodiesRun, all_done, one_done, one_faults}
use Rattle.stack_code.specs.Machine as m

abbrev Images : Type 0
Images = List (Option (List ℕ))

abbrev pub IsAway : List (Option (List ℕ)) → ℕ → Type 0
IsAway few r = (image : List ℕ) → slice_get few r ≡ Some (Some image) → ⊥

-- what is there in the one is there in the other
pub record More (few many : List (Option (List ℕ))) : Type 0 where
  pub by : (r : ℕ) (image : List ℕ) → slice_get few r ≡ Some (Some image) → slice_get many r ≡ Some (Some image)

-- both go on, and what is away in the first stays in the second
pub record Follows (few few' many many' : List (Option (List ℕ))) : Type 0 where
  pub more : More few' many'
  pub long : length many' ≡ length many
  pub away : (r : ℕ) → IsAway few r → IsAway few' r × (slice_get many' r ≡ slice_get many r)

length_set : (xs : Images) (i : ℕ) (x : Option (List ℕ)) → length (slice_set xs i x) ≡ length xs
length_set [] i x = refl
length_set (y ∷ xs) zero x = refl
length_set (y ∷ xs) (suc i) x = ap suc (length_set xs i x)

same_follows : (few many : Images) → More few many → Follows few few many many
same_follows few many more = record { more = more; long = refl; away = λ r h. (h, refl) }

then_follows : (few few' few'' many many' many'' : Images) → Follows few few' many many' → Follows few' few'' many' many'' → Follows few few'' many many''
then_follows few few' few'' many many' many'' a b = record {
  more = b.more;
  long = b.long ∙ a.long;
  away = λ r h. let x = a.away r h in let y = b.away r x.0 in (y.0, y.1 ∙ x.1);
}

-- what is not stuck is the same
abbrev Sub : {A : Type 0} → Step A → Step A → Type 0
Sub (Goes a) y = y ≡ Goes a
Sub (Stops (Ended o)) y = y ≡ Stops (Ended o)
Sub (Stops Stuck) y = Unit {0}
Sub (Stops Broken) y = Unit {0}

sub_same : {A : Type 0} (x : Step A) → Sub x x
sub_same (Goes a) = refl
sub_same (Stops (Ended o)) = refl
sub_same (Stops Stuck) = tt
sub_same (Stops Broken) = tt

sub_bind : {A B : Type 0} (x y : Step A) (f g : A → Step B) → Sub x y → ((a : A) → Sub (f a) (g a)) → Sub (x >>= f) (y >>= g)
sub_bind (Goes a) y f g h k = subst (λ z. Sub (f a) (z >>= g)) (sym h) (k a)
sub_bind (Stops (Ended o)) y f g h k = ap (λ z. z >>= g) h
sub_bind (Stops Stuck) y f g h k = tt
sub_bind (Stops Broken) y f g h k = tt

abbrev on_regions : Config → Images → Config
on_regions c many = record c { memory = record c.memory { regions = many } }

abbrev with_regions : Memory → Images → Memory
with_regions x many = record x { regions = many }

-- the same step, where more is there
abbrev Matches : Images → Images → Step Config → Step Config → Type 0
Matches few many (Goes c) y = (many' : Images) × (y ≡ Goes (on_regions c many')) × Follows few c.memory.regions many many'
Matches few many (Stops (Ended o)) y = y ≡ Stops (Ended o)
Matches few many (Stops Stuck) y = Unit {0}
Matches few many (Stops Broken) y = Unit {0}

then_matches : {A : Type 0} (few many : Images) (x y : Step A) (f g : A → Step Config) → Sub x y → ((a : A) → Matches few many (f a) (g a)) → Matches few many (x >>= f) (y >>= g)
then_matches few many (Goes a) y f g h k = subst (λ z. Matches few many (f a) (z >>= g)) (sym h) (k a)
then_matches few many (Stops (Ended o)) y f g h k = ap (λ z. z >>= g) h
then_matches few many (Stops Stuck) y f g h k = tt
then_matches few many (Stops Broken) y f g h k = tt

goes_once : {A : Type 0} {a b : A} → Some a ≡ Some b → a ≡ b
goes_once e = cc

module _ (few many : Images) (more : More few many) where
  -- after the same words
  abbrev words_then : {A : Type 0} (x : Step A) (f g : A → Step Config) → ((a : A) → Matches few many (f a) (g a)) → Matches few many (x >>= f) (x >>= g)
  words_then x f g k = then_matches few many x x f g (sub_same x) k

  -- nothing is written
  abbrev goes_on : (c : Config) → c.memory.regions ≡ few → Matches few many (Goes c) (Goes (on_regions c many))
  goes_on c e = (many, refl, subst (λ z. Follows few z many many) (sym e) (same_follows few many more))

  -- ---- the memory

  image_sub : (x : Memory) (a : Address) (n : ℕ) → x.regions ≡ few → Sub (image_at x a n) (image_at (with_regions x many) a n)
  image_sub x a n e = sub_bind (image_in a.space x a.index) (image_in a.space (with_regions x many) a.index) (λ image. holds image a n) (λ image. holds image a n) (by a.space) (λ image. sub_same (holds image a n))
    where
      there_sub : (o : Option (Option (List ℕ))) → slice_get few a.index ≡ o → Sub (there o) (there (slice_get many a.index))
      there_sub None h = tt
      there_sub (Some None) h = tt
      there_sub (Some (Some image)) h = ap there (more.by a.index image h)

      by : (s : Space) → Sub (image_in s x a.index) (image_in s (with_regions x many) a.index)
      by Regions = there_sub (slice_get x.regions a.index) (sym (ap (λ (l : Images). slice_get l a.index) e))
      by Locals = sub_same (image_in Locals x a.index)

  read_sub : (e : Elem) (x : Memory) (a : Address) → x.regions ≡ few → Sub (read e x a) (read e (with_regions x many) a)
  read_sub e x a h = sub_bind (image_at x a (bytes e)) (image_at (with_regions x many) a (bytes e)) _ _ (image_sub x a (bytes e) h) (λ image. refl)

  class_sub : (x : Memory) (a : Address) → x.regions ≡ few → Sub (class_at x a) (class_at (with_regions x many) a)
  class_sub x a h = sub_bind (read kind.Ulint x a) (read kind.Ulint (with_regions x many) a) _ _ (read_sub kind.Ulint x a h) (λ v. refl)

  -- an image is replaced
  put_there : (s : Space) (x : Memory) (i : ℕ) (new old : List ℕ) (c : Config) (ws : List Word) → x.regions ≡ few → image_in s x i ≡ Goes old → Matches few many (on_memory c ws (with_image s x i new)) (on_memory (on_regions c many) ws (with_image s (with_regions x many) i new))
  put_there Locals x i new old c ws e h = (many, refl, subst (λ z. Follows few z many many) (sym e) (same_follows few many more))
  put_there Regions x i new old c ws e h =
      let here = was_there (slice_get x.regions i) h in
      let in_few : slice_get few i ≡ Some (Some old) = ap (λ (l : Images). slice_get l i) (sym e) ∙ here in
      let in_many = more.by i old in_few in (
        slice_set many i (Some new),
        refl,
        subst (λ z. Follows few (slice_set z i (Some new)) many (slice_set many i (Some new))) (sym e)
            (record {
              more = record { by = λ r image g. set_by r image (nat_eq i r) refl in_few in_many g };
              long = length_set many i (Some new);
              away = λ r h. let other : r ≢ i = λ z. h old (ap (slice_get few) z ∙ in_few) in (λ image g. h image (sym (get_set_other few i r (Some new) other) ∙ g), get_set_other many i r (Some new) other);
            }),
      )
    where
      was_there : (o : Option (Option (List ℕ))) → there o ≡ Goes old → o ≡ Some (Some old)
      was_there None g = cc
      was_there (Some None) g = cc
      was_there (Some (Some image)) g = cc

      clash : true ≡ false → ⊥
      clash e = cc

      set_by : (r : ℕ) (image : List ℕ) (b : Bool) → nat_eq i r ≡ b → slice_get few i ≡ Some (Some old) → slice_get many i ≡ Some (Some old) → slice_get (slice_set few i (Some new)) r ≡ Some (Some image) → slice_get (slice_set many i (Some new)) r ≡ Some (Some image)
      set_by r image true t f l g =
          let same : i ≡ r = eqb-true i r t in
          subst (λ j. slice_get (slice_set many i (Some new)) j ≡ Some (Some image)) same
          (get_set_same many i (Some new) (Some old) l ∙ (sym (get_set_same few i (Some new) (Some old) f) ∙ (ap (slice_get (slice_set few i (Some new))) same ∙ g)))
      set_by r image false t f l g =
          let other : r ≢ i = λ z. absurd (clash (sym (eq-eqb i r (sym z)) ∙ t)) in
          get_set_other many i r (Some new) other ∙ more.by r image (sym (get_set_other few i r (Some new) other) ∙ g)

  -- the same, where the new image is made of the old one
  put_sub : (a : Address) (n : ℕ) (new : List ℕ → List ℕ) (x : Memory) (c : Config) (ws : List Word) → x.regions ≡ few
      → Matches few many ((image_at x a n >>= λ image. Goes (with_image a.space x a.index (new image))) >>= λ y. on_memory c ws y) ((image_at (with_regions x many) a n >>= λ image. Goes (with_image a.space (with_regions x many) a.index (new image))) >>= λ y. on_memory (on_regions c many) ws y)
  put_sub a n new x c ws e = by (image_in a.space x a.index) refl (image_in a.space (with_regions x many) a.index) (in_sub a.space)
    where
      there_sub : (o : Option (Option (List ℕ))) → slice_get few a.index ≡ o → Sub (there o) (there (slice_get many a.index))
      there_sub None h = tt
      there_sub (Some None) h = tt
      there_sub (Some (Some image)) h = ap there (more.by a.index image h)

      in_sub : (s : Space) → Sub (image_in s x a.index) (image_in s (with_regions x many) a.index)
      in_sub Regions = there_sub (slice_get x.regions a.index) (sym (ap (λ (l : Images). slice_get l a.index) e))
      in_sub Locals = sub_same (image_in Locals x a.index)

      held : (image old : List ℕ) (b : Bool) → image_in a.space x a.index ≡ Goes old → Matches few many (((if b then Goes image else Stops Stuck) >>= λ image. Goes (with_image a.space x a.index (new image))) >>= λ y. on_memory c ws y) (((if b then Goes image else Stops Stuck) >>= λ image. Goes (with_image a.space (with_regions x many) a.index (new image))) >>= λ y. on_memory (on_regions c many) ws y)
      held image old true h = put_there a.space x a.index (new image) old c ws e h
      held image old false h = tt

      by : (y : Step (List ℕ)) → image_in a.space x a.index ≡ y → (z : Step (List ℕ)) → Sub y z
          → Matches few many (((y >>= λ image. holds image a n) >>= λ image. Goes (with_image a.space x a.index (new image))) >>= λ y. on_memory c ws y) (((z >>= λ image. holds image a n) >>= λ image. Goes (with_image a.space (with_regions x many) a.index (new image))) >>= λ y. on_memory (on_regions c many) ws y)
      by (Goes image) h z s = subst (λ z. Matches few many ((holds image a n >>= λ image. Goes (with_image a.space x a.index (new image))) >>= λ y. on_memory c ws y) (((z >>= λ image. holds image a n) >>= λ image. Goes (with_image a.space (with_regions x many) a.index (new image))) >>= λ y. on_memory (on_regions c many) ws y)) (sym s) (held image image (nat_le (a.offset + n) (length image)) h)
      by (Stops (Ended o)) h z s = ap (λ z. ((z >>= λ image. holds image a n) >>= λ image. Goes (with_image a.space (with_regions x many) a.index (new image))) >>= λ y. on_memory (on_regions c many) ws y) s
      by (Stops Stuck) h z s = tt
      by (Stops Broken) h z s = tt

  copy_sub : (n : ℕ) (source target : Address) (x : Memory) (c : Config) (ws : List Word) → x.regions ≡ few
      → Matches few many (copy n x source target >>= λ y. on_memory c ws y) (copy n (with_regions x many) source target >>= λ y. on_memory (on_regions c many) ws y)
  copy_sub n source target x c ws e = by (image_at x source n) (image_at (with_regions x many) source n) (image_sub x source n e)
    where
      by : (y z : Step (List ℕ)) → Sub y z
          → Matches few many ((y >>= λ here. image_at x target n >>= λ there. Goes (with_image target.space x target.index (replaced there target.offset (slice_range here source.offset (source.offset + n))))) >>= λ y. on_memory c ws y)
          ((z >>= λ here. image_at (with_regions x many) target n >>= λ there. Goes (with_image target.space (with_regions x many) target.index (replaced there target.offset (slice_range here source.offset (source.offset + n))))) >>= λ y. on_memory (on_regions c many) ws y)
      by (Goes here) z s =
          subst (λ z. Matches few many ((image_at x target n >>= λ there. Goes (with_image target.space x target.index (replaced there target.offset (slice_range here source.offset (source.offset + n))))) >>= λ y. on_memory c ws y)
          ((z >>= λ here. image_at (with_regions x many) target n >>= λ there. Goes (with_image target.space (with_regions x many) target.index (replaced there target.offset (slice_range here source.offset (source.offset + n))))) >>= λ y. on_memory (on_regions c many) ws y)) (sym s)
          (put_sub target n (λ there. replaced there target.offset (slice_range here source.offset (source.offset + n))) x c ws e)
      by (Stops (Ended o)) z s = ap (λ z. (z >>= λ here. image_at (with_regions x many) target n >>= λ there. Goes (with_image target.space (with_regions x many) target.index (replaced there target.offset (slice_range here source.offset (source.offset + n))))) >>= λ y. on_memory (on_regions c many) ws y) s
      by (Stops Stuck) z s = tt
      by (Stops Broken) z s = tt

  -- ---- calls and returns

  entered : (code : MachineCode) (k : ℕ) (own : Option Address) (args below : List Word) (line : ℕ) (c : Config) → c.memory.regions ≡ few → Matches few many (enters code k own args below line c) (enters code k own args below line (on_regions c many))
  entered code k own args below line c e = words_then (some_or_stuck (slice_get code.routines k)) (λ routine. enter k routine own args below line c) (λ routine. enter k routine own args below line (on_regions c many)) (λ routine. by routine (nat_lt (depth c) limit))
    where
      by : (routine : RoutineCode) (b : Bool)
          → Matches few many (if b then (with_arguments 0 args (replicate routine.locals 0) >>= λ image. Goes (record { here = record { routine = k; next = 0; own = own }; words = below; around = m.onward c.here ∷ c.around; memory = record c.memory { locals = c.memory.locals ++ image ∷ [] }; ticks = c.ticks })) else faults fault.Depth line)
          (if b then (with_arguments 0 args (replicate routine.locals 0) >>= λ image. Goes (record { here = record { routine = k; next = 0; own = own }; words = below; around = m.onward c.here ∷ c.around; memory = record (with_regions c.memory many) { locals = c.memory.locals ++ image ∷ [] }; ticks = c.ticks })) else faults fault.Depth line)
      by routine true = words_then (with_arguments 0 args (replicate routine.locals 0)) _ _ (λ image. goes_on (record { here = record { routine = k; next = 0; own = own }; words = below; around = m.onward c.here ∷ c.around; memory = record c.memory { locals = c.memory.locals ++ image ∷ [] }; ticks = c.ticks }) e)
      by routine false = refl

  left_so : (c : Config) (fs : List Frame) → c.memory.regions ≡ few → Matches few many (leave c fs) (leave (on_regions c many) fs)
  left_so c [] e = refl
  left_so c (f ∷ fs) e = goes_on (record c { here = f; around = fs; memory = record c.memory { locals = take (length c.memory.locals - 1) c.memory.locals } }) e

  spent_so : (c : Config) (line n : ℕ) → c.memory.regions ≡ few → Matches few many (spend c line n) (spend (on_regions c many) line n)
  spent_so c line zero e = refl
  spent_so c line (suc n) e = goes_on (record c { here = m.onward c.here; ticks = n }) e

  conforms_sub : (code : MachineCode) (t : ℕ) (x : Memory) (w : Word) → x.regions ≡ few → Sub (if_conforms code t x w) (if_conforms code t (with_regions x many) w)
  conforms_sub code t x (word.Address a) e = sub_bind (class_at x a) (class_at (with_regions x many) a) _ _ (class_sub x a e) (λ class. refl)
  conforms_sub code t x word.Null e = refl
  conforms_sub code t x (word.Number v) e = refl

  -- ---- one instruction

  module _ (code : MachineCode) (now : ℕ) (line : ℕ) (c : Config) (e : c.memory.regions ≡ few) where
    -- words alone
    on_words : (ws : List Word) → Matches few many (on c ws) (on (on_regions c many) ws)
    on_words ws = goes_on (record c { here = m.onward c.here; words = ws }) e

    one : (f : ℤ → ℤ) → Matches few many (m.with_one f c) (m.with_one f (on_regions c many))
    one f = words_then (number c.words) _ _ (λ a. on_words (word.Number (f a.0) ∷ a.1))

    two : (f : ℤ → ℤ → ℤ) → Matches few many (m.with_two f c) (m.with_two f (on_regions c many))
    two f = words_then (number c.words) _ _ (λ b. words_then (number b.1) _ _ (λ a. on_words (word.Number (f a.0 b.0) ∷ a.1)))

    jumped : (to : ℕ) (ws : List Word) → Matches few many (jumps c to ws) (jumps (on_regions c many) to ws)
    jumped to ws = goes_on (record c { here = record c.here { next = to }; words = ws }) e

    acts : (o : Op) → Matches few many (act code now o line c) (act code now o line (on_regions c many))
    acts (op.Push n) = on_words (word.Number n ∷ c.words)
    acts op.Null = on_words (word.Null ∷ c.words)
    acts op.Drop = words_then (any c.words) _ _ (λ w. on_words w.1)
    acts op.Dup = words_then (any c.words) _ _ (λ w. on_words (w.0 ∷ w.0 ∷ w.1))
    acts (op.Local n) = on_words (word.Address (record { space = Locals; index = depth c; offset = n }) ∷ c.words)
    acts (op.This n) = words_then (some_or_stuck c.here.own) _ _ (λ own. words_then (moved own n) _ _ (λ a. on_words (word.Address a ∷ c.words)))
    acts (op.Region r n) = on_words (word.Address (record { space = Regions; index = r; offset = n }) ∷ c.words)
    acts (op.Offset n) = words_then (address c.words) _ _ (λ a. words_then (moved a.0 n) _ _ (λ b. on_words (word.Address b ∷ a.1)))
    acts (op.Index lo hi size) = words_then (number c.words) _ _ (λ i. words_then (address i.1) _ _ (λ a. words_then (m.element a.0 lo hi size i.0 line) _ _ (λ b. on_words (word.Address b ∷ a.1))))
    acts op.Deref = words_then (reference c.words) _ _ (λ w. words_then (m.not_null w.0 line) _ _ (λ a. on_words (a ∷ w.1)))
    acts (op.Load k) = words_then (address c.words) _ _ (λ a. then_matches few many (read k c.memory a.0) (read k (with_regions c.memory many) a.0) _ _ (read_sub k c.memory a.0 e) (λ v. on_words (word.Number v ∷ a.1)))
    acts (op.Store k) = words_then (address c.words) _ _ (λ a. words_then (number a.1) _ _ (λ v. put_sub a.0 (bytes k) (λ image. written k image a.0.offset (wrapped k v.0)) c.memory c v.1 e))
    acts op.LoadRef = words_then (address c.words) _ _ (λ a. then_matches few many (read kind.Ulint c.memory a.0) (read kind.Ulint (with_regions c.memory many) a.0) _ _ (read_sub kind.Ulint c.memory a.0 e) (λ v. on_words (reference_of v ∷ a.1)))
    acts op.StoreRef = words_then (address c.words) _ _ (λ a. words_then (reference a.1) _ _ (λ w. words_then (kept w.0) _ _ (λ v. put_sub a.0 (bytes kind.Ulint) (λ image. written kind.Ulint image a.0.offset v) c.memory c w.1 e)))
    acts (op.Copy n) = words_then (address c.words) _ _ (λ target. words_then (address target.1) _ _ (λ source. copy_sub n source.0 target.0 c.memory c source.1 e))
    acts (op.Add k) = two (λ a b. sum k (wrapped k a) (wrapped k b))
    acts (op.Sub k) = two (λ a b. difference k (wrapped k a) (wrapped k b))
    acts (op.Mul k) = two (λ a b. product k (wrapped k a) (wrapped k b))
    acts (op.Div k) = words_then (number c.words) _ _ (λ b. words_then (number b.1) _ _ (λ a. words_then (m.divided (wrapped k b.0) (quotient k (wrapped k a.0) (wrapped k b.0)) line) _ _ (λ q. on_words (word.Number q ∷ a.1))))
    acts (op.Mod k) = words_then (number c.words) _ _ (λ b. words_then (number b.1) _ _ (λ a. words_then (m.divided (wrapped k b.0) (remainder k (wrapped k a.0) (wrapped k b.0)) line) _ _ (λ q. on_words (word.Number q ∷ a.1))))
    acts (op.Neg k) = one (λ a. difference k (pos 0) (wrapped k a))
    acts (op.AddC k) = words_then (number c.words) _ _ (λ b. words_then (number b.1) _ _ (λ a. on_words (word.Number (m.truth (m.has_carry k (wrapped k a.0) (wrapped k b.0))) ∷ word.Number (sum k (wrapped k a.0) (wrapped k b.0)) ∷ a.1)))
    acts op.Eq = two (λ a b. m.truth (int_eq a b))
    acts op.Ne = two (λ a b. m.truth (not (int_eq a b)))
    acts op.Lt = two (λ a b. m.truth (int_lt a b))
    acts op.Le = two (λ a b. m.truth (int_le a b))
    acts op.Gt = two (λ a b. m.truth (int_lt b a))
    acts op.Ge = two (λ a b. m.truth (int_le b a))
    acts op.Same = words_then (reference c.words) _ _ (λ b. words_then (reference b.1) _ _ (λ a. on_words (word.Number (m.truth (same_reference a.0 b.0)) ∷ a.1)))
    acts (op.And k) = two (λ a b. conjunction k (wrapped k a) (wrapped k b))
    acts (op.Or k) = two (λ a b. disjunction k (wrapped k a) (wrapped k b))
    acts (op.Xor k) = two (λ a b. exclusive_disjunction k (wrapped k a) (wrapped k b))
    acts (op.Not k) = one (λ a. complement k (wrapped k a))
    acts (op.Conv k f) = one (λ a. converted f (wrapped k a))
    acts op.NoZero = words_then (number c.words) _ _ (λ v. words_then (m.not_zero v.0 line) _ _ (λ w. on_words (word.Number w ∷ v.1)))
    acts (op.Jump to) = jumped to c.words
    acts (op.JumpF to) = words_then (number c.words) _ _ (λ v. either_way (int_eq v.0 (pos 0)) v.1)
      where
        either_way : (b : Bool) (ws : List Word) → Matches few many (if b then jumps c to ws else on c ws) (if b then jumps (on_regions c many) to ws else on (on_regions c many) ws)
        either_way true ws = jumped to ws
        either_way false ws = on_words ws
    acts op.Tick = spent_so c line c.ticks e
    acts (op.Call k n) = words_then (operands n c.words) _ _ (λ w. entered code k w.0 w.1 w.2 line c e)
    acts (op.CallM t s n) = words_then (operands n c.words) _ _ (λ w. words_then (some_or_stuck w.0) _ _ (λ own. then_matches few many (class_at c.memory own) (class_at (with_regions c.memory many) own) _ _ (class_sub c.memory own e) (λ class. words_then (method_of code t s class) _ _ (λ k. entered code k w.0 w.1 w.2 line c e))))
    acts (op.CallI i t n) = words_then (operands n c.words) _ _ (λ w. words_then (some_or_stuck w.0) _ _ (λ own. then_matches few many (class_at c.memory own) (class_at (with_regions c.memory many) own) _ _ (class_sub c.memory own e) (λ class. words_then (target_of code i t class) _ _ (λ k. entered code k w.0 w.1 w.2 line c e))))
    acts (op.Try t) = words_then (reference c.words) _ _ (λ w. then_matches few many (if_conforms code t c.memory w.0) (if_conforms code t (with_regions c.memory many) w.0) _ _ (conforms_sub code t c.memory w.0 e) (λ a. on_words (a ∷ w.1)))
    acts op.Now = on_words (word.Number (pos now) ∷ c.words)
    acts (op.Ret n) = left_so c c.around e
    acts op.End = refl

  steps : (code : MachineCode) (now : ℕ) (c : Config) → c.memory.regions ≡ few → Matches few many (step code now c) (step code now (on_regions c many))
  steps code now c e = words_then (cell_at code c.here) (λ cell. act code now cell.0 cell.1 c) (λ cell. act code now cell.0 cell.1 (on_regions c many)) (λ cell. acts code now cell.1 c e cell.0)

-- ---- runs

-- a run that ends, and how it leaves the regions
record Ended_so (few many : Images) (o : Outcome) (left : Images) (run : Result) : Type 0 where
  left' : Images
  ends : run ≡ Ends (Ended o) left'
  follows : Follows few left many left'

ends_once : {a b : Ending} {x y : Images} → Ends a x ≡ Ends b y → (a ≡ b) × (x ≡ y)
ends_once e = (cc, cc)

runs : (code : MachineCode) (now n : ℕ) (c : Config) (many : Images) (o : Outcome) (left : Images) → More c.memory.regions many → exec code now n c ≡ Ends (Ended o) left → Ended_so c.memory.regions many o left (exec code now n (on_regions c many))
runs code now zero c many o left more e = cc
runs code now (suc n) c many o left more e = by (step code now c) (step code now (on_regions c many)) (steps c.memory.regions many more code now c refl) e (λ c' many' more' g. runs code now n c' many' o left more' g)
  where
    by : (x y : Step Config) → Matches c.memory.regions many x y → follow x c.memory.regions (exec code now n) ≡ Ends (Ended o) left
        → ((c' : Config) (many' : Images) → More c'.memory.regions many' → exec code now n c' ≡ Ends (Ended o) left → Ended_so c'.memory.regions many' o left (exec code now n (on_regions c' many')))
        → Ended_so c.memory.regions many o left (follow y many (exec code now n))
    by (Goes c') y h g again =
        let r = again c' h.0 h.2.more g in
        record { left' = r.left'; ends = ap (λ z. follow z many (exec code now n)) h.1 ∙ r.ends; follows = then_follows c.memory.regions c'.memory.regions left many h.0 r.left' h.2 r.follows }
    by (Stops (Ended x)) y h g again =
        let d = ends_once g in
        record { left' = many; ends = ap (λ z. follow z many (exec code now n)) h ∙ ap (λ z. Ends z many) d.0; follows = subst (λ z. Follows c.memory.regions z many many) d.1 (same_follows c.memory.regions many more) }
    by (Stops Stuck) y h g again = absurd (no_end (ends_once g).0)
      where
        no_end : Stuck ≡ Ended o → ⊥
        no_end e = cc
    by (Stops Broken) y h g again = absurd (no_end (ends_once g).0)
      where
        no_end : Broken ≡ Ended o → ⊥
        no_end e = cc

-- a run from its beginning
from_begin : (code : MachineCode) (now n : ℕ) (few many : Images) (x y : Step Config) (o : Outcome) (left : Images) → More few many → Matches few many x y → follow x few (exec code now n) ≡ Ends (Ended o) left → Ended_so few many o left (follow y many (exec code now n))
from_begin code now n few many (Goes c) y o left more h g =
    let r = runs code now n c h.0 o left h.2.more g in
    record { left' = r.left'; ends = ap (λ z. follow z many (exec code now n)) h.1 ∙ r.ends; follows = then_follows few c.memory.regions left many h.0 r.left' h.2 r.follows }
from_begin code now n few many (Stops (Ended x)) y o left more h g =
    let d = ends_once g in
    record { left' = many; ends = ap (λ z. follow z many (exec code now n)) h ∙ ap (λ z. Ends z many) d.0; follows = subst (λ z. Follows few z many many) d.1 (same_follows few many more) }
from_begin code now n few many (Stops Stuck) y o left more h g = absurd (no_end (ends_once g).0)
  where
    no_end : Stuck ≡ Ended o → ⊥
    no_end e = cc
from_begin code now n few many (Stops Broken) y o left more h g = absurd (no_end (ends_once g).0)
  where
    no_end : Broken ≡ Ended o → ⊥
    no_end e = cc

-- a run of a body, and of a hook
pub record Left (run : ℕ → Result) (few many : List (Option (List ℕ))) (o : Outcome) (left : List (Option (List ℕ))) : Type 0 where
  pub left' : List (Option (List ℕ))
  pub gives : Gives run o left'
  pub follows : Follows few left many left'

pub body_left : (code : MachineCode) (entry now ticks : ℕ) (few many : List (Option (List ℕ))) (o : Outcome) (left : List (Option (List ℕ))) → More few many → Gives (machine code few entry now ticks) o left → Left (machine code many entry now ticks) few many o left
body_left code entry now ticks few many o left more g =
    let r = from_begin code now g.count few many (body_begun code few entry ticks) (body_begun code many entry ticks) o left more
    (words_then few many more (some_or_stuck (slice_get code.bodies entry)) _ _ (λ body. words_then few many more (some_or_stuck (slice_get code.routines body.routine)) _ _ (λ routine. (many, refl, same_follows few many more)))) g.ends in
    record { left' = r.left'; gives = record { count = g.count; ends = r.ends }; follows = r.follows }

pub hook_left : (code : MachineCode) (k : ℕ) (own : Address) (first second : Bool) (ticks : ℕ) (few many : List (Option (List ℕ))) (o : Outcome) (left : List (Option (List ℕ))) → More few many → Gives (hook code few k own first second ticks) o left → Left (hook code many k own first second ticks) few many o left
hook_left code k own first second ticks few many o left more g =
    let r = from_begin code 0 g.count few many (hook_begun code few k own first second ticks) (hook_begun code many k own first second ticks) o left more
    (words_then few many more (some_or_stuck (slice_get code.routines k)) _ _ (λ routine. words_then few many more (m.spent routine.line ticks) _ _ (λ n. words_then few many more (with_arguments 0 (take (length routine.args) (m.flag first ∷ m.flag second ∷ [])) (replicate routine.locals 0)) _ _ (λ image. (many, refl, same_follows few many more))))) g.ends in
    record { left' = r.left'; gives = record { count = g.count; ends = r.ends }; follows = r.follows }

-- the runs of a task's bodies
pub record BodiesLeft (code : MachineCode) (now : ℕ) (entries : List ℕ) (few many : List (Option (List ℕ))) (ticks : ℕ) (o : Outcome) (left : List (Option (List ℕ))) : Type 0 where
  pub left' : List (Option (List ℕ))
  pub run : BodiesRun code now entries many ticks o left'
  pub follows : Follows few left many left'

pub bodies_left : (code : MachineCode) (now : ℕ) (entries : List ℕ) (few many : List (Option (List ℕ))) (ticks : ℕ) (o : Outcome) (left : List (Option (List ℕ))) → More few many → BodiesRun code now entries few ticks o left → BodiesLeft code now entries few many ticks o left
bodies_left code now [] few many ticks o left more all_done = record { left' = many; run = all_done; follows = same_follows few many more }
bodies_left code now (entry ∷ entries) few many ticks o left more (one_done {n = n} {left = between} g h) =
    let a = body_left code entry now ticks few many (outcome.Done n) between more g in
    let b = bodies_left code now entries between a.left' n o left a.follows.more h in
    record { left' = b.left'; run = one_done a.gives b.run; follows = then_follows few between left many a.left' b.left' a.follows b.follows }
bodies_left code now (entry ∷ entries) few many ticks o left more (one_faults {f = f} g) =
    let a = body_left code entry now ticks few many (outcome.Fault f) left more g in
    record { left' = a.left'; run = one_faults a.gives; follows = a.follows }

-- ---- the regions of a footprint alone

abbrev pub alone : (ℕ → Bool) → ℕ → List (Option (List ℕ)) → List (Option (List ℕ))
alone is_there i [] = []
alone is_there i (x ∷ xs) = (if is_there i then x else None) ∷ alone is_there (suc i) xs

alone_at : (is_there : ℕ → Bool) (i : ℕ) (xs : Images) (r : ℕ) (image : List ℕ) → slice_get (alone is_there i xs) r ≡ Some (Some image) → (is_there (i + r) ≡ true) × (slice_get xs r ≡ Some (Some image))
alone_at is_there i [] r image e = cc
alone_at is_there i (x ∷ xs) zero image e = let z : i ≡ i + 0 = omega arith in subst (λ j. (is_there j ≡ true) × (Some x ≡ Some (Some image))) z (by (is_there i) refl e)
  where
    by : (b : Bool) → is_there i ≡ b → Some (if b then x else None) ≡ Some (Some image) → (is_there i ≡ true) × (Some x ≡ Some (Some image))
    by true t g = (t, g)
    by false t g = cc
alone_at is_there i (x ∷ xs) (suc r) image e = let h = alone_at is_there (suc i) xs r image e in let z : suc i + r ≡ i + suc r = omega arith in (subst (λ j. is_there j ≡ true) z h.0, h.1)

pub at_alone : (is_there : ℕ → Bool) (i : ℕ) (xs : Images) (r : ℕ) (x : Option (List ℕ)) → is_there (i + r) ≡ true → slice_get xs r ≡ Some x → slice_get (alone is_there i xs) r ≡ Some x
at_alone is_there i [] r x t e = cc
at_alone is_there i (y ∷ xs) zero x t e = let z : i + 0 ≡ i = omega arith in ap (λ b. Some (if b then y else None)) (subst (λ j. is_there j ≡ true) z t) ∙ e
at_alone is_there i (y ∷ xs) (suc r) x t e = let z : i + suc r ≡ suc i + r = omega arith in at_alone is_there (suc i) xs r x (subst (λ j. is_there j ≡ true) z t) e

pub alone_more : (is_there : ℕ → Bool) (xs : List (Option (List ℕ))) → More (alone is_there 0 xs) xs
alone_more is_there xs = record { by = λ r image e. (alone_at is_there 0 xs r image e).1 }

pub others_away : (is_there : ℕ → Bool) (xs : List (Option (List ℕ))) (r : ℕ) → is_there r ≡ false → IsAway (alone is_there 0 xs) r
others_away is_there xs r t image e = let h = alone_at is_there 0 xs r image e in let z : 0 + r ≡ r = omega arith in clash (sym (subst (λ j. is_there j ≡ true) z h.0) ∙ t)
  where
    clash : true ≡ false → ⊥
    clash e = cc
