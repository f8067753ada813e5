-- What stands in the locals of a routine that is entered: initial values, and what is given.
use Rattle.std.proofs.Common.{◌≡◌, ◌≢◌, ◌≤◌, ◌<◌, ◌⊎◌, ℕ, zero, suc, ◌+◌, ◌-◌, ◌*◌, ◌^◌, ℤ, pos, negsuc, Bool, true, false, List, [], ◌∷◌, ◌++◌, length, Option, Some, None, refl, sym, ap, ◌∙◌, subst, arith, inl, inr, ⊎_elim, length-append}
use Rattle.std.specs.Prelude.{if◌then◌else◌, slice_get, slice_set, slice_range, nat_eq, replicate, not}
use Rattle.std.proofs.lemmas.Bool.{lt-ltb, eqb-true, eq-eqb}
use Rattle.std.proofs.lemmas.List.{length-replicate}
use Rattle.std.proofs.Math.Nat.{suc-mul}
use Rattle.mem_image.specs.Image.{replaced, written, bytes_of, value_at as number_at}
use Rattle.mem_image.proofs.PartLaws.{length-range, length-replaced, range_of_range, range_of_zeros}
use Rattle.stack_code.specs.Memory.{image_at, copy as copy_bytes, Memory, read as read_bytes, write as write_bytes, reference_of, moved, kept}
use Rattle.memory_access.proofs.Copies.{keeps_there, spelled_there}
use Rattle.code_rules.specs.Places.{bytes_of as bytes_of_type, is_large, kind_in, width, size_in, local_offset, locals_end, of_parameter, of_mask, result_place, field_offset}
use Rattle.memory_access.proofs.NumberKinds.{KindIs}
use Rattle.shown_memory.proofs.Locals.{spelled_number, number_size, end_above, slot_moved, slot_given, offset_above, offset_below}
use Rattle.mem_layout.specs.store_bytes.StoreLaws.{IsNumber, Keeps as KeepsBytes, IsAddress}
use Rattle.st_types.specs.declared.elem.Elem.{Elem}
use Rattle.st_types.specs.Elem.{bytes, bits}
use Rattle.st_types.specs.Range.{Fits}
use Rattle.st_types.specs.declared.st_type.StType.{StType}
use Rattle.st_types.specs.declared.elem.Elem.TheVariants as elem
use Rattle.st_types.specs.declared.st_type.StType.TheVariants as type
use Rattle.plc_num.specs.Wrapping.{wrapped}
use Rattle.plc_num.proofs.WrappingLaws.{wrapped-fits, wrapped-wraps, wrapped-apart, Apart, apart_by, apart_coarser}
use Rattle.mem_image.specs.Laws.{AreApart}
use Rattle.st_tree.specs.declared.path.Path.{Path}
use Rattle.st_tree.specs.declared.path.Step.TheVariants as step
use Rattle.st_values.specs.Program.{Variable, Recipient, to_local, to_variable, Parameter, Routine, Program, class_variables}
use Rattle.st_values.specs.Value.{Value, number, reference, array, structure, Values, no_values, value_then, Members, no_members, member_then, element, Store}
use Rattle.st_values.specs.Initial.{initial_value}
use Rattle.st_values.specs.Shape.{Shape, Elementary, Enumeration, Reference, Interface, Array, Structure, Instance, shape_of, region_shape, Fields, no_fields, field_then}
use Rattle.st_meaning.specs.State.{in_store, Slot, holds, bound, unbound, Frame, State, Outcome, Done, push, write, into, go_on, ◌>>=◌}
use Rattle.st_meaning.specs.Call.{is_in_out, is_output, Given, for_local, for_variable, initial_slots, with_given, set_variables}
use Rattle.st_meaning.specs.st_frame.Promise.Calls.{recipient_variable, own_variable}
use Rattle.st_meaning.specs.st_frame.Promise.Types.{IsHeld}
use Rattle.stack_code.specs.declared.machine.Frame.{Frame as At}
use Rattle.stack_code.specs.declared.memory.Space.TheVariants.{Locals}
use Rattle.stack_code.specs.declared.memory.Address.{Address}
use Rattle.stack_code.specs.declared.memory.Word.{Word}
use Rattle.stack_code.specs.declared.code.MachineCode.{MachineCode}
use Rattle.stack_code.specs.Steps.{Goes, ◌>>=◌ as ◌>>=step◌, some_or_stuck, stuck}
use Rattle.stack_code.specs.Machine.{Config, jumps, on, reference as reference_in}
use Rattle.stack_code.specs.declared.memory.Word.TheVariants as word
use Rattle.stack_code.specs.declared.op.Op.TheVariants as op
use Rattle.mem_layout.specs.store_bytes.Place.{size, gap, alignment, greatest, ending}
use Rattle.mem_layout.specs.store_bytes.Spells.{Holds, Spells, Blank, count, EachSpells, Refers, Shows}
use Rattle.mem_layout.proofs.store_bytes.Moves.{kept_same, holds_moved, moved as spells_moved, ending_above}
use Rattle.mem_layout.proofs.store_bytes.Leaves.{holds_written, value_is, keeps_written, length-written}
use Rattle.code_cells.specs.declared.cell.Cell.{Cell}
use Rattle.code_cells.specs.declared.cell.Cell.TheVariants.{Does as does}
use Rattle.code_rules.specs.Bodies.{number_begins, value_begins, shape_begins, locals_begin, each_begins, fields_begin, in_block, guarded, parameter_in, parameters_in, argument_in, in_out_in, local_at, variable_at, own_kind}
use Rattle.code_rules.specs.Code.{class_of, bit}
use Rattle.code_rules.specs.Plan.{Tables}
use Rattle.code_rules.specs.Routines.{called_plan}
use Rattle.shown_memory.specs.Shown.{Layout, SlotShown, SlotsShown, path_word, word_at, kept_number, Located, located}
use Rattle.shown_memory.specs.Passing.{has_bit, AreOnce, IsGiven, recipient}
use Rattle.shown_memory.proofs.Geometry.{decoded_local}
use Rattle.memory_access.proofs.Narrow.{turns_of}
use Rattle.memory_access.proofs.Likes.{local_there}
use Rattle.memory_access.proofs.KeptAddresses.{KeptAddress}
use Rattle.value_runs.proofs.Ends.{Leads, Stands}
use Rattle.value_runs.proofs.Ends as ends
use Rattle.routine_entry.proofs.Writes.{sets_again, sets_commute}
use Rattle.routine_entry.proofs.Masks.{masked, asked_bit}

-- ---- the locals of the innermost call

abbrev pub with_last : Memory → List ℕ → Memory
with_last m image = record m { locals = m.locals ++ image ∷ [] }

abbrev pub at_last : Memory → ℕ → Address
at_last m i = record { space = Locals; index = length m.locals; offset = i }

pub last_get : {A : Type 0} (xs : List A) (x : A) → slice_get (xs ++ x ∷ []) (length xs) ≡ Some x
last_get [] x = refl
last_get (y ∷ ys) x = last_get ys x

pub last_set : {A : Type 0} (xs : List A) (x y : A) → slice_set (xs ++ x ∷ []) (length xs) y ≡ xs ++ y ∷ []
last_set [] x y = refl
last_set (z ∷ zs) x y = ap (λ l. z ∷ l) (last_set zs x y)

pub front_get : {A : Type 0} (xs ys : List A) (i : ℕ) (x : A) → slice_get xs i ≡ Some x → slice_get (xs ++ ys) i ≡ Some x
front_get [] ys i x e = cc
front_get (z ∷ zs) ys zero x e = e
front_get (z ∷ zs) ys (suc i) x e = front_get zs ys i x e

pub last_depth : {A : Type 0} (xs : List A) (x : A) → length (xs ++ x ∷ []) - 1 ≡ length xs
last_depth xs x = let h = length-append xs (x ∷ []) in omega (arith, h)

pub last_write : (e : Elem) (m : Memory) (image : List ℕ) (i : ℕ) (z : ℤ) → i + bytes e ≤ length image → write_bytes e (with_last m image) (at_last m i) z ≡ Goes (with_last m (written e image i z))
last_write e m image i z h =
    ap (λ x. x >>=step λ im. Goes (record (with_last m image) { locals = slice_set (m.locals ++ image ∷ []) (length m.locals) (written e im i z) })) (local_there (with_last m image) (length m.locals) i (bytes e) image (last_get m.locals image) h)
    ∙ ap (λ l. Goes (record m { locals = l })) (last_set m.locals image (written e image i z))

pub last_read : (e : Elem) (m : Memory) (image : List ℕ) (i : ℕ) → i + bytes e ≤ length image → read_bytes e (with_last m image) (at_last m i) ≡ Goes (number_at e image i)
last_read e m image i h = ap (λ x. x >>=step λ im. Goes (number_at e im i)) (local_there (with_last m image) (length m.locals) i (bytes e) image (last_get m.locals image) h)

-- bytes that are 0
pub record Zeros (image : List ℕ) (from : ℕ) : Type 0 where
  pub by : (j n : ℕ) → from ≤ j → j + n ≤ length image → Blank image j n

pub all_zeros : (n from : ℕ) → Zeros (replicate n 0) from
all_zeros n from = record { by = λ j m a b. range_of_zeros n j m (let l = length-replicate {A = ℕ} n 0 in omega (arith, b, l)) }

pub zeros_behind : (image image' : List ℕ) (from i n : ℕ) → KeepsBytes image image' i n → length image' ≡ length image → i + n ≤ from → Zeros image from → Zeros image' from
zeros_behind image image' from i n k long h z = record { by = λ j m a b. k.by j m (inl (omega (arith, h, a))) ∙ z.by j m a (omega (arith, long, b)) }

apart_in : (lo len j k u m : ℕ) → AreApart lo len u m → lo ≤ j → j + k ≤ lo + len → AreApart j k u m
apart_in lo len j k u m (inl h) a b = inl (omega (arith, h, b))
apart_in lo len j k u m (inr h) a b = inr (omega (arith, h, a))

pub keeps_two : {a b c : List ℕ} {i n j k : ℕ} (lo len : ℕ) → KeepsBytes a b i n → KeepsBytes b c j k → lo ≤ i → i + n ≤ lo + len → lo ≤ j → j + k ≤ lo + len → KeepsBytes a c lo len
keeps_two {i = i} {n = n} {j = j} {k = k} lo len x y h1 h2 h3 h4 = record { by = λ u m d. y.by u m (apart_in lo len j k u m d h3 h4) ∙ x.by u m (apart_in lo len i n u m d h1 h2) }

pub keeps_all : (a : List ℕ) (i n : ℕ) → KeepsBytes a a i n
keeps_all a i n = record { by = λ j m h. refl }

zero_bytes : (e : Elem) → bytes_of e (pos 0) ≡ replicate (bytes e) 0
unfolding bytes_of
zero_bytes elem.Bool = refl
zero_bytes elem.Sint = refl
zero_bytes elem.Int = refl
zero_bytes elem.Dint = refl
zero_bytes elem.Lint = refl
zero_bytes elem.Usint = refl
zero_bytes elem.Uint = refl
zero_bytes elem.Udint = refl
zero_bytes elem.Ulint = refl
zero_bytes elem.Byte = refl
zero_bytes elem.Word = refl
zero_bytes elem.Dword = refl
zero_bytes elem.Lword = refl
zero_bytes elem.Time = refl

-- a number of a kind comes back from eight bytes
pub through_word : (e : Elem) (z : ℤ) → Fits e z → wrapped e (wrapped elem.Ulint z) ≡ z
through_word e z f =
    let w = wrapped-wraps elem.Ulint z in
    let apart = apart_by (2 ^ 64) z (wrapped elem.Ulint z) w.turns w.differ in
    sym (wrapped-apart e z (wrapped elem.Ulint z) (apart_coarser (2 ^ (64 - bits e)) (2 ^ bits e) z (wrapped elem.Ulint z) (subst (λ n. Apart n z (wrapped elem.Ulint z)) (turns_of e) apart))) ∙ wrapped-fits e z f

-- ---- initial values

-- the block of a call, among the bytes of its caller
pub record BlockThere (m : Memory) (d block : ℕ) (bs : List ℕ) : Type 0 where
  pub image : List ℕ
  pub there : slice_get m.locals d ≡ Some image
  pub inside : block + length bs ≤ length image
  pub stands : slice_range image block (block + length bs) ≡ bs
  pub low : block + length bs < 4294967296

module _ (p : Program) where
  abbrev pub EachStarts : (Value → Type 0) → Values → Type 0
  EachStarts P no_values = Unit {0}
  EachStarts P (value_then v vs) = P v × EachStarts P vs

  -- the values with which locals may begin
  abbrev mutual
    pub Starts : Shape → Value → Type 0
    Starts (Elementary e) v = (z : ℤ) × (v ≡ number z) × Fits e z
    Starts (Enumeration name values) v = (z : ℤ) × (v ≡ number z) × Fits elem.Udint z
    Starts (Reference c name) v = v ≡ reference None
    Starts (Interface k name) v = v ≡ reference None
    Starts (Array low n sh) v = (vs : Values) × (v ≡ array low vs) × (count vs ≡ n) × EachStarts (Starts sh) vs
    Starts (Structure name fs) v = (ms : Members) × (v ≡ structure name ms) × FieldsStart fs ms
    Starts (Instance c name fs) v = ⊥

    pub FieldsStart : Fields → Members → Type 0
    FieldsStart no_fields ms = ms ≡ no_members
    FieldsStart (field_then x sh fs) ms = (w : Value) × (ws : Members) × (ms ≡ member_then x.name w ws) × Starts sh w × FieldsStart fs ws

  -- a variable, in-out or not
  abbrev pub StartsAt : Variable → Type 0
  StartsAt v = (is_in_out v.sort ≡ true) ⊎ ((is_in_out v.sort ≡ false) × ((sh : Shape) × (shape_of p v.kind ≡ Some sh) × Starts sh (initial_value p v)))

  abbrev pub AllStart : List Variable → Type 0
  AllStart [] = Unit {0}
  AllStart (v ∷ vs) = StartsAt v × AllStart vs

module _ (p : Program) (code : MachineCode) (now : ℕ) (n : ℕ) (own : Option Address) (around : List At) (under : List Word) (line ticks : ℕ) where
  abbrev pub at_cell : ℕ → List Word → Memory → Config
  at_cell pc ws m = record { here = record { routine = n; next = pc; own = own }; words = ws; around = around; memory = m; ticks = ticks }

  -- goes on from there
  abbrev pub Next : {A : Type 0} → (A → State → Memory → Config) → (A → State → Memory → Type 0) → Outcome A → ℕ → List Word → Memory → Type 0
  Next after shown o pc ws m = Leads code now (Goes (at_cell pc ws m)) after shown o

  module _ {A : Type 0} (after : A → State → Memory → Config) (shown : A → State → Memory → Type 0) (o : Outcome A) where
    pub local_next : (m : Memory) (image : List ℕ) (i pc : ℕ) (ws : List Word) → Stands code now n pc (does (op.Local i) line ∷ []) → Next after shown o (pc + 1) (word.Address (at_last m i) ∷ ws) (with_last m image) → Next after shown o pc ws (with_last m image)
    local_next m image i pc ws has h =
        ends.step_leads code now (op.Local i, line) has.0
        (subst (λ d. Next after shown o (pc + 1) (word.Address (record { space = Locals; index = d; offset = i }) ∷ ws) (with_last m image)) (sym (last_depth m.locals image)) h)

    -- a number is kept in the locals
    pub store_next : (e : Elem) (m : Memory) (image : List ℕ) (i pc : ℕ) (z : ℤ) (ws : List Word) → i + bytes e ≤ length image → Stands code now n pc (does (op.Local i) line ∷ (does (op.Store e) line ∷ []))
        → Next after shown o (pc + 1 + 1) ws (with_last m (written e image i (wrapped e z))) → Next after shown o pc (word.Number z ∷ ws) (with_last m image)
    store_next e m image i pc z ws fit has h =
        local_next m image i pc (word.Number z ∷ ws) (has.0, tt)
        (ends.step_leads code now (op.Store e, line) has.1.0
        (ends.goes_leads code now (write_bytes e (with_last m image) (at_last m i) (wrapped e z)) (with_last m (written e image i (wrapped e z))) _ (last_write e m image i (wrapped e z) fit) h))

    -- a new number where zeros were
    pub record Begun (image image' : List ℕ) (sh : Shape) (v : Value) (i : ℕ) : Type 0 where
      pub long : length image' ≡ length image
      pub keeps : KeepsBytes image image' i (size sh)
      pub spells : Spells (region_shape p) sh v image' i

    pub same_pc : (m : Memory) (ws : List Word) (pc pc' : ℕ) → pc' ≡ pc → Next after shown o pc' ws m → Next after shown o pc ws m
    same_pc m ws pc pc' e h = subst (λ j. Next after shown o j ws m) e h

    zero_next : (e : Elem) (sh : Shape) (image : List ℕ) (i : ℕ) → Fits e (pos 0) → size sh ≡ bytes e → ((im : List ℕ) → Holds e (pos 0) im i → Spells (region_shape p) sh (number (pos 0)) im i) → Zeros image i → i + size sh ≤ length image → Begun image image sh (number (pos 0)) i
    zero_next e sh image i fits wide spelled zeros room =
        record { long = refl; keeps = keeps_all image i (size sh); spells = spelled image (record { fits = fits; stands = zeros.by i (bytes e) (omega arith) (omega (arith, wide, room)) ∙ sym (zero_bytes e) }) }

    push_next : (e : Elem) (sh : Shape) (z : ℤ) (m : Memory) (image : List ℕ) (i pc : ℕ) → Fits e z → size sh ≡ bytes e → ((im : List ℕ) → Holds e z im i → Spells (region_shape p) sh (number z) im i) → i + size sh ≤ length image
        → Stands code now n pc (does (op.Push z) line ∷ (does (op.Local i) line ∷ (does (op.Store e) line ∷ []))) → ((image' : List ℕ) → Begun image image' sh (number z) i → Next after shown o (pc + 3) under (with_last m image')) → Next after shown o pc under (with_last m image)
    push_next e sh z m image i pc fits wide spelled room has k =
        let fit : i + bytes e ≤ length image = omega (arith, wide, room) in
        let new = written e image i z in
        let is : Begun image new sh (number z) i = record { long = length-written e z image i fit; keeps = subst (λ b. KeepsBytes image new i b) (sym wide) (keeps_written e z image i fit); spells = spelled new (holds_written e z image i fits fit) } in
        ends.step_leads code now (op.Push z, line) has.0
        (store_next e m image i (pc + 1) z under fit has.1
        (same_pc (with_last m (written e image i (wrapped e z))) under (pc + 1 + 1 + 1) (pc + 3) (omega arith)
        (subst (λ x. Next after shown o (pc + 3) under (with_last m (written e image i x))) (sym (wrapped-fits e z fits)) (k new is))))

    number_next : (e : Elem) (sh : Shape) (z : ℤ) (m : Memory) (image : List ℕ) (i pc : ℕ) → Fits e z → size sh ≡ bytes e → ((im : List ℕ) → Holds e z im i → Spells (region_shape p) sh (number z) im i) → Zeros image i → i + size sh ≤ length image
        → Stands code now n pc (number_begins line e (number z) i) → ((image' : List ℕ) → Begun image image' sh (number z) i → Next after shown o (pc + length (number_begins line e (number z) i)) under (with_last m image')) → Next after shown o pc under (with_last m image)
    number_next e sh (pos zero) m image i pc fits wide spelled zeros room has k = same_pc (with_last m image) under pc (pc + 0) (omega arith) (k image (zero_next e sh image i fits wide spelled zeros room))
    number_next e sh (pos (suc j)) m image i pc fits wide spelled zeros room has k = push_next e sh (pos (suc j)) m image i pc fits wide spelled room has k
    number_next e sh (negsuc j) m image i pc fits wide spelled zeros room has k = push_next e sh (negsuc j) m image i pc fits wide spelled room has k

    null_next : (image : List ℕ) (i : ℕ) → Zeros image i → i + 8 ≤ length image → Holds elem.Ulint (pos 0) image i
    null_next image i zeros room = record { fits = (omega arith, omega arith); stands = zeros.by i 8 (omega arith) room ∙ sym (zero_bytes elem.Ulint) }

    -- elements, one behind the other
    record EachBegun (image image' : List ℕ) (sh : Shape) (vs : Values) (i : ℕ) : Type 0 where
      long : length image' ≡ length image
      keeps : KeepsBytes image image' i (count vs * size sh)
      spells : (k : ℕ) → k < count vs → (w : Value) × (element vs k ≡ Some w) × Spells (region_shape p) sh w image' (i + k * size sh)

    record FieldsBegun (image image' : List ℕ) (offset : ℕ) (fs : Fields) (ms : Members) (at : ℕ) : Type 0 where
      long : length image' ≡ length image
      keeps : KeepsBytes image image' (at + offset) (ending offset fs - offset)
      each : EachSpells (region_shape p) offset fs ms image' at

    abbrev One : Shape → Type 0
    One sh = (v : Value) (m : Memory) (image : List ℕ) (i pc : ℕ) → Starts p sh v → Zeros image i → i + size sh ≤ length image
        → Stands code now n pc (value_begins line sh v i) → ((image' : List ℕ) → Begun image image' sh v i → Next after shown o (pc + length (value_begins line sh v i)) under (with_last m image')) → Next after shown o pc under (with_last m image)

    zeros_later : (image : List ℕ) (from to : ℕ) → from ≤ to → Zeros image from → Zeros image to
    zeros_later image from to l z = record { by = λ j q a b. z.by j q (omega (arith, l, a)) b }

    each_next : (sh : Shape) → One sh → (vs : Values) (m : Memory) (image : List ℕ) (i pc : ℕ) → EachStarts p (Starts p sh) vs → Zeros image i → i + count vs * size sh ≤ length image
        → Stands code now n pc (each_begins line (value_begins line sh) (size sh) vs i) → ((image' : List ℕ) → EachBegun image image' sh vs i → Next after shown o (pc + length (each_begins line (value_begins line sh) (size sh) vs i)) under (with_last m image')) → Next after shown o pc under (with_last m image)
    each_next sh one no_values m image i pc h zeros room has k =
        same_pc (with_last m image) under pc (pc + 0) (omega arith) (k image (record { long = refl; keeps = keeps_all image i (0 * size sh); spells = λ j l. absurd (omega (arith, l)) }))
    each_next sh one (value_then v vs) m image i pc h zeros room has k =
        let c = value_begins line sh v i in
        let d = each_begins line (value_begins line sh) (size sh) vs (i + size sh) in
        let wide : suc (count vs) * size sh ≡ count vs * size sh + size sh = suc-mul (count vs) (size sh) in
        one v m image i pc h.0 zeros (omega (arith, room, wide)) (ends.front code now n pc c d has)
        (λ image1 b.
        let long1 = b.long in
        each_next sh one vs m image1 (i + size sh) (pc + length c) h.1 (zeros_behind image image1 (i + size sh) i (size sh) b.keeps b.long (omega arith) (zeros_later image i (i + size sh) (omega arith) zeros)) (omega (arith, room, wide, long1)) (ends.back code now n pc c d has)
        (λ image2 x. same_pc (with_last m image2) under (pc + length c + length d) (pc + length (c ++ d)) (let l = length-append c d in omega (arith, l))
        (k image2 (record {
          long = x.long ∙ b.long;
          keeps = keeps_two i (suc (count vs) * size sh) b.keeps x.keeps (omega arith) (omega (arith, wide)) (omega arith) (omega (arith, wide));
          spells = λ j l. by image1 image2 j l b.spells x;
        }))))
      where
        by : (image1 image2 : List ℕ) (j : ℕ) → j < suc (count vs) → Spells (region_shape p) sh v image1 i → EachBegun image1 image2 sh vs (i + size sh) → (w : Value) × (element (value_then v vs) j ≡ Some w) × Spells (region_shape p) sh w image2 (i + j * size sh)
        by image1 image2 zero l first x =
            let at : i ≡ i + 0 * size sh = omega arith in
            (v, refl, subst (Spells (region_shape p) sh v image2) at (spells_moved (region_shape p) sh v image1 image2 i i (kept_same x.keeps i 0 (size sh) (inl (omega arith))) first))
        by image1 image2 (suc j) l first x =
            let w = x.spells j (omega (arith, l)) in
            let times : suc j * size sh ≡ j * size sh + size sh = suc-mul j (size sh) in
            let at : i + size sh + j * size sh ≡ i + suc j * size sh = omega (arith, times) in
            (w.0, w.1, subst (Spells (region_shape p) sh w.0 image2) at w.2)

    abbrev mutual_fields : Fields → Type 0
    mutual_fields fs = (offset : ℕ) (ms : Members) (m : Memory) (image : List ℕ) (at pc : ℕ) → FieldsStart p fs ms → Zeros image (at + offset) → at + ending offset fs ≤ length image
        → Stands code now n pc (fields_begin line offset fs ms at) → ((image' : List ℕ) → FieldsBegun image image' offset fs ms at → Next after shown o (pc + length (fields_begin line offset fs ms at)) under (with_last m image')) → Next after shown o pc under (with_last m image)

    -- one field, and those behind it
    field_next : (x : Variable) (sh : Shape) (fs : Fields) → One sh → mutual_fields fs → (offset : ℕ) (w : Value) (ws : Members) (m : Memory) (image : List ℕ) (at pc : ℕ) → Starts p sh w → FieldsStart p fs ws → Zeros image (at + offset) → at + ending offset (field_then x sh fs) ≤ length image
        → Stands code now n pc (fields_begin line offset (field_then x sh fs) (member_then x.name w ws) at) → ((image' : List ℕ) → FieldsBegun image image' offset (field_then x sh fs) (member_then x.name w ws) at → Next after shown o (pc + length (fields_begin line offset (field_then x sh fs) (member_then x.name w ws) at)) under (with_last m image')) → Next after shown o pc under (with_last m image)
    field_next x sh fs one rest offset w ws m image at pc h hs zeros room has k =
        let g = gap (alignment sh) offset in
        let here = at + (offset + g) in
        let next = offset + g + size sh in
        let c = value_begins line sh w here in
        let d = fields_begin line next fs ws at in
        let last = ending_above fs next in
        one w m image here pc h (zeros_later image (at + offset) here (omega arith) zeros) (omega (arith, room, last)) (ends.front code now n pc c d has)
        (λ image1 b.
        let long1 = b.long in
        rest next ws m image1 at (pc + length c) hs (zeros_behind image image1 (at + next) here (size sh) b.keeps b.long (omega arith) (zeros_later image (at + offset) (at + next) (omega arith) zeros)) (omega (arith, room, long1)) (ends.back code now n pc c d has)
        (λ image2 y. same_pc (with_last m image2) under (pc + length c + length d) (pc + length (c ++ d)) (let l = length-append c d in omega (arith, l))
        (k image2 (record {
          long = y.long ∙ b.long;
          keeps = keeps_two (at + offset) (ending next fs - offset) b.keeps y.keeps (omega arith) (omega (arith, last)) (omega arith) (omega (arith, last));
          each = (
            w,
            ws,
            refl,
            y.keeps.by (at + offset) g (inr (omega arith)) ∙ (b.keeps.by (at + offset) g (inr (omega arith)) ∙ zeros.by (at + offset) g (omega arith) (omega (arith, room, last))),
            spells_moved (region_shape p) sh w image1 image2 here here (kept_same y.keeps here 0 (size sh) (inl (omega arith))) b.spells,
            y.each,
          );
        }))))

    mutual
      value_next : (sh : Shape) (v : Value) (m : Memory) (image : List ℕ) (i pc : ℕ) → Starts p sh v → Zeros image i → i + size sh ≤ length image
          → Stands code now n pc (value_begins line sh v i) → ((image' : List ℕ) → Begun image image' sh v i → Next after shown o (pc + length (value_begins line sh v i)) under (with_last m image')) → Next after shown o pc under (with_last m image)
      value_next (Elementary e) v m image i pc h zeros room has k =
          subst (λ w. Stands code now n pc (number_begins line e w i) → ((image' : List ℕ) → Begun image image' (Elementary e) w i → Next after shown o (pc + length (number_begins line e w i)) under (with_last m image')) → Next after shown o pc under (with_last m image)) (sym h.1)
          (λ has k. number_next e (Elementary e) h.0 m image i pc h.2 refl (λ im x. (h.0, refl, x)) zeros room has k) has k
      value_next (Enumeration name values) v m image i pc h zeros room has k =
          subst (λ w. Stands code now n pc (number_begins line elem.Udint w i) → ((image' : List ℕ) → Begun image image' (Enumeration name values) w i → Next after shown o (pc + length (number_begins line elem.Udint w i)) under (with_last m image')) → Next after shown o pc under (with_last m image)) (sym h.1)
          (λ has k. number_next elem.Udint (Enumeration name values) h.0 m image i pc h.2 refl (λ im x. (h.0, refl, x)) zeros room has k) has k
      value_next (Reference c name) v m image i pc h zeros room has k =
          same_pc (with_last m image) under pc (pc + 0) (omega arith) (k image (record { long = refl; keeps = keeps_all image i 8; spells = (None, h, record { word = 0; refers = refl; holds = null_next image i zeros room }) }))
      value_next (Interface c name) v m image i pc h zeros room has k =
          same_pc (with_last m image) under pc (pc + 0) (omega arith) (k image (record { long = refl; keeps = keeps_all image i 8; spells = (None, h, record { word = 0; refers = refl; holds = null_next image i zeros room }) }))
      value_next (Array low l sh) v m image i pc h zeros room has k =
          let vs = h.0 in
          let many : count vs ≡ l = h.2 in
          let wide : count vs * size sh ≡ l * size sh = ap (λ y. y * size sh) many in
          subst (λ w. Stands code now n pc (value_begins line (Array low l sh) w i) → ((image' : List ℕ) → Begun image image' (Array low l sh) w i → Next after shown o (pc + length (value_begins line (Array low l sh) w i)) under (with_last m image')) → Next after shown o pc under (with_last m image)) (sym h.1)
          (λ has k. each_next sh (λ v m image i pc h zeros room has k. value_next sh v m image i pc h zeros room has k) vs m image i pc h.3 zeros (omega (arith, wide, room)) has
          (λ image' x. k image' (record { long = x.long; keeps = subst (KeepsBytes image image' i) wide x.keeps; spells = (vs, refl, many, λ j below. x.spells j (omega (arith, below, many))) }))) has k
      value_next (Structure name fs) v m image i pc h zeros room has k =
          let ms = h.0 in
          subst (λ w. Stands code now n pc (value_begins line (Structure name fs) w i) → ((image' : List ℕ) → Begun image image' (Structure name fs) w i → Next after shown o (pc + length (value_begins line (Structure name fs) w i)) under (with_last m image')) → Next after shown o pc under (with_last m image)) (sym h.1)
          (λ has k. fields_next fs 0 ms m image i pc h.2 (zeros_later image i (i + 0) (omega arith) zeros) (omega (arith, room)) has
          (λ image' x. k image' (record {
            long = x.long;
            keeps = record { by = λ u q d. x.keeps.by u q (apart_in i (size (Structure name fs)) (i + 0) (ending 0 fs - 0) u q d (omega arith) (omega arith)) };
            spells = (ms, refl, x.each, x.keeps.by (i + ending 0 fs) (gap (greatest fs) (ending 0 fs)) (inl (omega arith)) ∙ zeros.by (i + ending 0 fs) (gap (greatest fs) (ending 0 fs)) (omega arith) (omega (arith, room)));
          }))) has k
      value_next (Instance c name fs) v m image i pc h zeros room has k = absurd h

      fields_next : (fs : Fields) (offset : ℕ) (ms : Members) (m : Memory) (image : List ℕ) (at pc : ℕ) → FieldsStart p fs ms → Zeros image (at + offset) → at + ending offset fs ≤ length image
          → Stands code now n pc (fields_begin line offset fs ms at) → ((image' : List ℕ) → FieldsBegun image image' offset fs ms at → Next after shown o (pc + length (fields_begin line offset fs ms at)) under (with_last m image')) → Next after shown o pc under (with_last m image)
      fields_next no_fields offset ms m image at pc h zeros room has k = same_pc (with_last m image) under pc (pc + 0) (omega arith) (k image (record { long = refl; keeps = keeps_all image (at + offset) (offset - offset); each = h }))
      fields_next (field_then x sh fs) offset ms m image at pc h zeros room has k =
          subst (λ y. Stands code now n pc (fields_begin line offset (field_then x sh fs) y at) → ((image' : List ℕ) → FieldsBegun image image' offset (field_then x sh fs) y at → Next after shown o (pc + length (fields_begin line offset (field_then x sh fs) y at)) under (with_last m image')) → Next after shown o pc under (with_last m image)) (sym h.2)
          (λ has k. field_next x sh fs (λ v m image i pc h zeros room has k. value_next sh v m image i pc h zeros room has k) (λ offset ms m image at pc h zeros room has k. fields_next fs offset ms m image at pc h zeros room has k) offset h.0 h.1 m image at pc h.3 h.4 zeros room has k) has k

    pub record AllBegun (base : ℕ) (ls : List Layout) (image image' : List ℕ) (vs : List Variable) (i : ℕ) : Type 0 where
      pub long : length image' ≡ length image
      pub keeps : KeepsBytes image image' i (locals_end p i vs - i)
      pub slots : SlotsShown p base ls vs (initial_slots p vs) image' i

    abbrev started : Bool → Variable → ℕ → List Cell
    started b v i = if b then [] else shape_begins line (shape_of p v.kind) (initial_value p v) i

    abbrev slot_of : Bool → Variable → Slot
    slot_of b v = if b then unbound else holds (initial_value p v)

    variable_next : (base : ℕ) (ls : List Layout) (v : Variable) (m : Memory) (image : List ℕ) (i pc : ℕ) → StartsAt p v → Zeros image i → i + width p v ≤ length image → Stands code now n pc (started (is_in_out v.sort) v i)
        → ((image' : List ℕ) → length image' ≡ length image → KeepsBytes image image' i (width p v) → SlotShown p base ls v (slot_of (is_in_out v.sort) v) image' i → Next after shown o (pc + length (started (is_in_out v.sort) v i)) under (with_last m image')) → Next after shown o pc under (with_last m image)
    variable_next base ls v m image i pc (inl e) zeros room has k =
        let wide : width p v ≡ 8 = ap (λ b. if b then 8 else size_in (shape_of p v.kind)) e in
        subst (λ b. Stands code now n pc (started b v i) → ((image' : List ℕ) → length image' ≡ length image → KeepsBytes image image' i (width p v) → SlotShown p base ls v (slot_of b v) image' i → Next after shown o (pc + length (started b v i)) under (with_last m image')) → Next after shown o pc under (with_last m image)) (sym e)
        (λ has k. same_pc (with_last m image) under pc (pc + 0) (omega arith) (k image refl (keeps_all image i (width p v)) (e, null_next image i zeros (omega (arith, wide, room))))) has k
    variable_next base ls v m image i pc (inr h) zeros room has k =
        let wide : width p v ≡ size h.1.0 = ap (λ b. if b then 8 else size_in (shape_of p v.kind)) h.0 ∙ ap size_in h.1.1 in
        subst (λ b. Stands code now n pc (started b v i) → ((image' : List ℕ) → length image' ≡ length image → KeepsBytes image image' i (width p v) → SlotShown p base ls v (slot_of b v) image' i → Next after shown o (pc + length (started b v i)) under (with_last m image')) → Next after shown o pc under (with_last m image)) (sym h.0)
        (subst (λ sh. Stands code now n pc (shape_begins line sh (initial_value p v) i) → ((image' : List ℕ) → length image' ≡ length image → KeepsBytes image image' i (width p v) → SlotShown p base ls v (holds (initial_value p v)) image' i → Next after shown o (pc + length (shape_begins line sh (initial_value p v) i)) under (with_last m image')) → Next after shown o pc under (with_last m image)) (sym h.1.1)
        (λ has k. value_next h.1.0 (initial_value p v) m image i pc h.1.2 zeros (omega (arith, wide, room)) has (λ image' x. k image' x.long (subst (λ b. KeepsBytes image image' i b) (sym wide) x.keeps) (h.0, (h.1.0, h.1.1, x.spells))))) has k

    pub locals_next : (base : ℕ) (ls : List Layout) (vs : List Variable) (m : Memory) (image : List ℕ) (i pc : ℕ) → AllStart p vs → Zeros image i → locals_end p i vs ≤ length image
        → Stands code now n pc (locals_begin p line i vs) → ((image' : List ℕ) → AllBegun base ls image image' vs i → Next after shown o (pc + length (locals_begin p line i vs)) under (with_last m image')) → Next after shown o pc under (with_last m image)
    locals_next base ls [] m image i pc h zeros room has k = same_pc (with_last m image) under pc (pc + 0) (omega arith) (k image (record { long = refl; keeps = keeps_all image i (i - i); slots = tt }))
    locals_next base ls (v ∷ vs) m image i pc h zeros room has k =
        let w = width p v in
        let c = started (is_in_out v.sort) v i in
        let d = locals_begin p line (i + w) vs in
        let last = end_above p base vs (i + w) in
        variable_next base ls v m image i pc h.0 zeros (omega (arith, room, last)) (ends.front code now n pc c d has)
        (λ image1 long1 keeps1 slot1. locals_next base ls vs m image1 (i + w) (pc + length c) h.1 (zeros_behind image image1 (i + w) i w keeps1 long1 (omega arith) (record { by = λ j q a b. zeros.by j q (omega (arith, a)) b })) (omega (arith, room, long1)) (ends.back code now n pc c d has)
        (λ image2 x. same_pc (with_last m image2) under (pc + length c + length d) (pc + length (c ++ d)) (let l = length-append c d in omega (arith, l))
        (let tail_len = locals_end p (i + w) vs - (i + w) in
        k image2 (record {
          long = x.long ∙ long1;
          keeps = keeps_two i (locals_end p (i + w) vs - i) keeps1 x.keeps (omega arith) (omega (arith, last)) (omega arith) (omega (arith, last));
          slots = (slot_moved p base image1 image2 (i + w) tail_len x.keeps ls v (slot_of (is_in_out v.sort) v) i (inl (omega arith)) slot1, x.slots);
        }))))

    -- ---- the block of the call

    -- the address of a place in the block
    pub block_next : (base d block : ℕ) (bs image : List ℕ) (m : Memory) (at pc : ℕ) (ws : List Word) → BlockThere m (base + d) block bs → Holds elem.Ulint (pos (kept_number p base (record { space = Locals; index = base + d; offset = block }))) image 0 → 8 ≤ length image → at ≤ length bs
        → Stands code now n pc (in_block line at) → Next after shown o (pc + 1 + 1 + 1) (word.Address (record { space = Locals; index = base + d; offset = block + at }) ∷ ws) (with_last m image) → Next after shown o pc ws (with_last m image)
    block_next base d block bs image m at pc ws b held long fit has h =
        let low = b.low in
        local_next m image 0 pc ws (has.0, tt)
        (ends.step_leads code now (op.LoadRef, line) has.1.0
        (ends.goes_leads code now (read_bytes elem.Ulint (with_last m image) (at_last m 0)) (pos (kept_number p base (record { space = Locals; index = base + d; offset = block }))) _ (last_read elem.Ulint m image 0 long ∙ ap Goes (value_is elem.Ulint (pos (kept_number p base (record { space = Locals; index = base + d; offset = block }))) image 0 held))
        (subst (λ w. Next after shown o (pc + 1 + 1) (w ∷ ws) (with_last m image)) (sym (decoded_local (base + d) block (omega (arith, low))))
        (ends.step_leads code now (op.Offset at, line) has.1.1.0
        (ends.goes_leads code now (moved (record { space = Locals; index = base + d; offset = block }) at) (record { space = Locals; index = base + d; offset = block + at }) _ (ap (λ t. if t then Goes (record { space = Locals; index = base + d; offset = block + at }) else stuck) (lt-ltb (block + at) 4294967296 (omega (arith, low, fit)))) h)))))

    -- what is kept there
    pub block_read : (d block : ℕ) (bs image : List ℕ) (m : Memory) (at : ℕ) (z : ℤ) → BlockThere m d block bs → at + 8 ≤ length bs → Holds elem.Ulint z bs at → read_bytes elem.Ulint (with_last m image) (record { space = Locals; index = d; offset = block + at }) ≡ Goes z
    block_read d block bs image m at z b fit held =
        let inside = b.inside in
        let number_is : number_at elem.Ulint b.image (block + at) ≡ z = value_is elem.Ulint z b.image (block + at) (record { fits = held.fits; stands = sym (range_of_range b.image block (length bs) at 8 fit) ∙ (ap (λ i. slice_range i at (at + 8)) b.stands ∙ held.stands) }) in
        ap (λ i. i >>=step λ im. Goes (number_at elem.Ulint im (block + at))) (local_there (with_last m image) d (block + at) 8 b.image (front_get m.locals (image ∷ []) d b.image b.there) (omega (arith, inside, fit))) ∙ ap Goes number_is

    -- a bit of the mask decides
    pub guarded_next : (base d block : ℕ) (bs image : List ℕ) (m : Memory) (at mask i pc : ℕ) (c : List Cell) → BlockThere m (base + d) block bs → Holds elem.Ulint (pos (kept_number p base (record { space = Locals; index = base + d; offset = block }))) image 0 → 8 ≤ length image
        → at + 8 ≤ length bs → Holds elem.Ulint (pos mask) bs at → i < 64 → Stands code now n pc (guarded line at i c)
        → (has_bit mask i ≡ true → Next after shown o (pc + 7) under (with_last m image)) → (has_bit mask i ≡ false → Next after shown o (pc + length (guarded line at i c)) under (with_last m image)) → Next after shown o pc under (with_last m image)
    guarded_next base d block bs image m at mask i pc c b held long fit kept_mask small has set unset =
        block_next base d block bs image m at pc under b held long (omega (arith, fit)) (has.0, (has.1.0, (has.1.1.0, tt)))
        (ends.step_leads code now (op.Load elem.Ulint, line) has.1.1.1.0
        (ends.goes_leads code now (read_bytes elem.Ulint (with_last m image) (record { space = Locals; index = base + d; offset = block + at })) (pos mask) _ (block_read (base + d) block bs image m at (pos mask) b fit kept_mask)
        (ends.step_leads code now (op.Push (pos (bit i)), line) has.1.1.1.1.0
        (ends.step_leads code now (op.And elem.Ulint, line) has.1.1.1.1.1.0
        (subst (λ z. Next after shown o (pc + 1 + 1 + 1 + 1 + 1 + 1) (word.Number z ∷ under) (with_last m image)) (sym (masked mask i small kept_mask.fits))
        (ends.step_leads code now (op.JumpF (pc + 1 + 1 + 1 + 1 + 1 + 1 + 1 + length c), line) has.1.1.1.1.1.1.0
        (ends.same_start code now (ap (λ t. if t then jumps here (pc + 1 + 1 + 1 + 1 + 1 + 1 + 1 + length c) under else on here under) (asked_bit mask i)) (by (has_bit mask i) refl))))))))
      where
        here : Config
        here = at_cell (pc + 1 + 1 + 1 + 1 + 1 + 1) (word.Number (pos (if has_bit mask i then 2 ^ i else 0)) ∷ under) (with_last m image)

        by : (t : Bool) → has_bit mask i ≡ t → Leads code now (if not t then jumps (at_cell (pc + 1 + 1 + 1 + 1 + 1 + 1) (word.Number (pos (if has_bit mask i then 2 ^ i else 0)) ∷ under) (with_last m image)) (pc + 1 + 1 + 1 + 1 + 1 + 1 + 1 + length c) under else on (at_cell (pc + 1 + 1 + 1 + 1 + 1 + 1) (word.Number (pos (if has_bit mask i then 2 ^ i else 0)) ∷ under) (with_last m image)) under) after shown o
        by true e = same_pc (with_last m image) under (pc + 1 + 1 + 1 + 1 + 1 + 1 + 1) (pc + 7) (omega arith) (set e)
        by false e = same_pc (with_last m image) under (pc + 1 + 1 + 1 + 1 + 1 + 1 + 1 + length c) (pc + length (guarded line at i c)) (omega arith) (unset e)

    -- ---- one parameter

    input_next : (base d block : ℕ) (bs image : List ℕ) (m : Memory) (at off pc : ℕ) (e : Elem) (z : ℤ) → BlockThere m (base + d) block bs → Holds elem.Ulint (pos (kept_number p base (record { space = Locals; index = base + d; offset = block }))) image 0 → 8 ≤ length image
        → at + 8 ≤ length bs → Holds elem.Ulint (wrapped elem.Ulint z) bs at → Fits e z → off + bytes e ≤ length image → Stands code now n pc (in_block line at ++ (does (op.Load elem.Ulint) line ∷ (does (op.Local off) line ∷ (does (op.Store e) line ∷ []))))
        → Next after shown o (pc + 6) under (with_last m (written e image off z)) → Next after shown o pc under (with_last m image)
    input_next base d block bs image m at off pc e z b own_word long fit given fits room has h =
        block_next base d block bs image m at pc under b own_word long (omega (arith, fit)) (has.0, (has.1.0, (has.1.1.0, tt)))
        (ends.step_leads code now (op.Load elem.Ulint, line) has.1.1.1.0
        (ends.goes_leads code now (read_bytes elem.Ulint (with_last m image) (record { space = Locals; index = base + d; offset = block + at })) (wrapped elem.Ulint z) _ (block_read (base + d) block bs image m at (wrapped elem.Ulint z) b fit given)
        (store_next e m image off (pc + 1 + 1 + 1 + 1) (wrapped elem.Ulint z) under room has.1.1.1.1
        (same_pc (with_last m (written e image off (wrapped e (wrapped elem.Ulint z)))) under (pc + 1 + 1 + 1 + 1 + 1 + 1) (pc + 6) (omega arith)
        (subst (λ x. Next after shown o (pc + 6) under (with_last m (written e image off x))) (sym (through_word e z fits)) h)))))

    bound_next : (base d block : ℕ) (bs image : List ℕ) (m : Memory) (at off pc : ℕ) (w : Word) (z : ℤ) → BlockThere m (base + d) block bs → Holds elem.Ulint (pos (kept_number p base (record { space = Locals; index = base + d; offset = block }))) image 0 → 8 ≤ length image
        → at + 8 ≤ length bs → Holds elem.Ulint z bs at → reference_of z ≡ w → kept w ≡ Goes z → reference_in (w ∷ under) ≡ Goes (w, under) → off + 8 ≤ length image → Stands code now n pc (in_block line at ++ (does op.LoadRef line ∷ (does (op.Local off) line ∷ (does op.StoreRef line ∷ []))))
        → Next after shown o (pc + 6) under (with_last m (written elem.Ulint image off z)) → Next after shown o pc under (with_last m image)
    bound_next base d block bs image m at off pc w z b own_word long fit given decodes keeps refers room has h =
        block_next base d block bs image m at pc under b own_word long (omega (arith, fit)) (has.0, (has.1.0, (has.1.1.0, tt)))
        (ends.step_leads code now (op.LoadRef, line) has.1.1.1.0
        (ends.goes_leads code now (read_bytes elem.Ulint (with_last m image) (record { space = Locals; index = base + d; offset = block + at })) z _ (block_read (base + d) block bs image m at z b fit given)
        (subst (λ w. Next after shown o (pc + 1 + 1 + 1 + 1) (w ∷ under) (with_last m image)) (sym decodes)
        (local_next m image off (pc + 1 + 1 + 1 + 1) (w ∷ under) (has.1.1.1.1.0, tt)
        (ends.step_leads code now (op.StoreRef, line) has.1.1.1.1.1.0
        (ends.goes_leads code now (reference_in (w ∷ under)) (w, under) _ refers
        (ends.goes_leads code now (kept w) z _ keeps
        (ends.goes_leads code now (write_bytes elem.Ulint (with_last m image) (at_last m off) z) (with_last m (written elem.Ulint image off z)) _ (last_write elem.Ulint m image off z room)
        (same_pc (with_last m (written elem.Ulint image off z)) under (pc + 1 + 1 + 1 + 1 + 1 + 1) (pc + 6) (omega arith) h)))))))))

    -- so many bytes that stand behind the block to the locals
    copied_next : (base d block : ℕ) (bs image : List ℕ) (m : Memory) (at far off size_is pc : ℕ) → BlockThere m (base + d) block bs → Holds elem.Ulint (pos (kept_number p base (record { space = Locals; index = base + d; offset = block }))) image 0 → 8 ≤ length image
        → at + 8 ≤ length bs → Holds elem.Ulint (pos (kept_number p base (record { space = Locals; index = base + d; offset = block + far }))) bs at → reference_of (pos (kept_number p base (record { space = Locals; index = base + d; offset = block + far }))) ≡ word.Address (record { space = Locals; index = base + d; offset = block + far })
        → far + size_is ≤ length bs → off + size_is ≤ length image → Stands code now n pc (in_block line at ++ (does op.LoadRef line ∷ (does (op.Local off) line ∷ (does (op.Copy size_is) line ∷ []))))
        → Next after shown o (pc + 6) under (with_last m (replaced image off (slice_range bs far (far + size_is)))) → Next after shown o pc under (with_last m image)
    copied_next base d block bs image m at far off size_is pc b own_word long fit given decodes inside room has h =
        let from : Address = record { space = Locals; index = base + d; offset = block + far } in
        let z : ℤ = pos (kept_number p base from) in
        let whole = b.inside in
        let bytes_are : slice_range b.image (block + far) (block + far + size_is) ≡ slice_range bs far (far + size_is) = sym (range_of_range b.image block (length bs) far size_is inside) ∙ ap (λ l. slice_range l far (far + size_is)) b.stands in
        let copies : copy_bytes size_is (with_last m image) from (at_last m off) ≡ Goes (with_last m (replaced image off (slice_range bs far (far + size_is)))) =
        ap (λ i. i >>=step λ here. image_at (with_last m image) (at_last m off) size_is >>=step λ there. Goes (record (with_last m image) { locals = slice_set (m.locals ++ image ∷ []) (length m.locals) (replaced there off (slice_range here (block + far) (block + far + size_is))) })) (local_there (with_last m image) (base + d) (block + far) size_is b.image (front_get m.locals (image ∷ []) (base + d) b.image b.there) (omega (arith, whole, inside)))
        ∙ (ap (λ i. i >>=step λ there. Goes (record (with_last m image) { locals = slice_set (m.locals ++ image ∷ []) (length m.locals) (replaced there off (slice_range b.image (block + far) (block + far + size_is))) })) (local_there (with_last m image) (length m.locals) off size_is image (last_get m.locals image) room)
        ∙ (ap (λ y. Goes (record (with_last m image) { locals = slice_set (m.locals ++ image ∷ []) (length m.locals) (replaced image off y) })) bytes_are
        ∙ ap (λ l. Goes (record m { locals = l })) (last_set m.locals image (replaced image off (slice_range bs far (far + size_is)))))) in
        block_next base d block bs image m at pc under b own_word long (omega (arith, fit)) (has.0, (has.1.0, (has.1.1.0, tt)))
        (ends.step_leads code now (op.LoadRef, line) has.1.1.1.0
        (ends.goes_leads code now (read_bytes elem.Ulint (with_last m image) (record { space = Locals; index = base + d; offset = block + at })) z _ (block_read (base + d) block bs image m at z b fit given)
        (subst (λ w. Next after shown o (pc + 1 + 1 + 1 + 1) (w ∷ under) (with_last m image)) (sym decodes)
        (local_next m image off (pc + 1 + 1 + 1 + 1) (word.Address from ∷ under) (has.1.1.1.1.0, tt)
        (ends.step_leads code now (op.Copy size_is, line) has.1.1.1.1.1.0
        (ends.goes_leads code now (copy_bytes size_is (with_last m image) from (at_last m off)) (with_last m (replaced image off (slice_range bs far (far + size_is)))) _ copies
        (same_pc (with_last m (replaced image off (slice_range bs far (far + size_is)))) under (pc + 1 + 1 + 1 + 1 + 1 + 1) (pc + 6) (omega arith) h)))))))

-- ---- what is given, and to which

module _ (P : Given → Type 0) where
  abbrev pub AllGiven : List Given → Type 0
  AllGiven [] = Unit {0}
  AllGiven (g ∷ gs) = P g × AllGiven gs

  -- what is given to one is taken out
  pub record Taken (given : List Given) (to : Recipient) : Type 0 where
    pub it : Given
    pub left : List Given
    pub is : recipient it ≡ to
    pub holds_it : P it
    pub all : AllGiven left
    pub once : AreOnce left
    pub none : IsGiven left to → ⊥
    pub others : (x : Recipient) → x ≢ to → IsGiven given x → IsGiven left x
    pub before : (x : Recipient) → IsGiven left x → IsGiven given x
    pub same : (ss : List Slot) (n : ℕ) (slot : Slot) → it ≡ for_local n slot → with_given ss given ≡ with_given (slice_set ss n slot) left
    pub same_slots : (ss : List Slot) (k : ℕ) (v : Value) → it ≡ for_variable k v → with_given ss given ≡ with_given ss left
    -- and what is written to the instance
    pub same_writes : (n : ℕ) (slot : Slot) → it ≡ for_local n slot → (own : Option Path) (line : ℕ) (s : State) → set_variables own given line s ≡ set_variables own left line s
    pub writes : (k : ℕ) (v : Value) → it ≡ for_variable k v → (own : Option Path) (line : ℕ) (s : State) → set_variables own given line s ≡ set_variables own (for_variable k v ∷ left) line s

  slots_commute : {A : Type 0} (xs : List A) (i j : ℕ) (x y : A) → i ≢ j → slice_set (slice_set xs i x) j y ≡ slice_set (slice_set xs j y) i x
  slots_commute [] i j x y h = refl
  slots_commute (z ∷ zs) zero zero x y h = absurd (h refl)
  slots_commute (z ∷ zs) zero (suc j) x y h = refl
  slots_commute (z ∷ zs) (suc i) zero x y h = refl
  slots_commute (z ∷ zs) (suc i) (suc j) x y h = ap (λ l. z ∷ l) (slots_commute zs i j x y (λ e. h (ap suc e)))

  pub take_out : (given : List Given) (to : Recipient) → AllGiven given → AreOnce given → IsGiven given to → Taken given to
  take_out [] to a o h = absurd h
  take_out (g ∷ gs) to a o (inl e) = record {
    it = g;
    left = gs;
    is = e;
    holds_it = a.0;
    all = a.1;
    once = o.1;
    none = λ h. o.0 (subst (IsGiven gs) (sym e) h);
    others = λ x d h. ⊎_elim (λ q. absurd (d (sym q ∙ e))) (λ k. k) h;
    before = λ x h. inr h;
    same = λ ss n slot q. ap (λ y. with_given ss (y ∷ gs)) q;
    same_slots = λ ss k v q. ap (λ y. with_given ss (y ∷ gs)) q;
    same_writes = λ n slot q own line s. ap (λ y. set_variables own (y ∷ gs) line s) q;
    writes = λ k v q own line s. ap (λ y. set_variables own (y ∷ gs) line s) q;
  }
  take_out (g ∷ gs) to a o (inr h) =
      let t = take_out gs to a.1 o.1 h in
      let apart : recipient g ≢ to = λ e. o.0 (subst (IsGiven gs) (sym e) h) in
      record {
        it = t.it;
        left = g ∷ t.left;
        is = t.is;
        holds_it = t.holds_it;
        all = (a.0, t.all);
        once = ((λ k. o.0 (t.before (recipient g) k)), t.once);
        none = ⊎_elim (λ e. apart e) t.none;
        others = λ x d k. ⊎_elim (λ e. inl e) (λ k. inr (t.others x d k)) k;
        before = λ x k. ⊎_elim (λ e. inl e) (λ k. inr (t.before x k)) k;
        same = by g t.it t.left t.is apart t.same;
        same_slots = slots g t.it t.left t.same_slots;
        same_writes = locals g t.it t.left t.same_writes;
        writes = variables g t.it t.left t.is apart t.writes;
      }
    where
      slots : (g it : Given) (left : List Given) → ((ss : List Slot) (k : ℕ) (v : Value) → it ≡ for_variable k v → with_given ss gs ≡ with_given ss left) → (ss : List Slot) (k : ℕ) (v : Value) → it ≡ for_variable k v → with_given ss (g ∷ gs) ≡ with_given ss (g ∷ left)
      slots (for_local m s0) it left same ss k v q = same (slice_set ss m s0) k v q
      slots (for_variable j w) it left same ss k v q = same ss k v q

      locals : (g it : Given) (left : List Given) → ((n : ℕ) (slot : Slot) → it ≡ for_local n slot → (own : Option Path) (line : ℕ) (s : State) → set_variables own gs line s ≡ set_variables own left line s)
          → (n : ℕ) (slot : Slot) → it ≡ for_local n slot → (own : Option Path) (line : ℕ) (s : State) → set_variables own (g ∷ gs) line s ≡ set_variables own (g ∷ left) line s
      locals (for_local m s0) it left same n slot q own line s = same n slot q own line s
      locals (for_variable j w) it left same n slot q own line s = sets_again own j w gs left line s (λ t. same n slot q own line t)

      variables : (g it : Given) (left : List Given) → recipient it ≡ to → recipient g ≢ to → ((k : ℕ) (v : Value) → it ≡ for_variable k v → (own : Option Path) (line : ℕ) (s : State) → set_variables own gs line s ≡ set_variables own (for_variable k v ∷ left) line s)
          → (k : ℕ) (v : Value) → it ≡ for_variable k v → (own : Option Path) (line : ℕ) (s : State) → set_variables own (g ∷ gs) line s ≡ set_variables own (for_variable k v ∷ (g ∷ left)) line s
      variables (for_local m s0) it left is apart same k v q own line s = same k v q own line s ∙ sets_again own k v left (for_local m s0 ∷ left) line s (λ t. refl)
      variables (for_variable j w) it left is apart same k v q own line s =
          sets_again own j w gs (for_variable k v ∷ left) line s (λ t. same k v q own line t)
          ∙ sets_commute own j k w v left line s (λ e. apart (ap to_variable e ∙ (sym (ap recipient q) ∙ is)))

      by : (g it : Given) (left : List Given) → recipient it ≡ to → recipient g ≢ to → ((ss : List Slot) (n : ℕ) (slot : Slot) → it ≡ for_local n slot → with_given ss gs ≡ with_given (slice_set ss n slot) left)
          → (ss : List Slot) (n : ℕ) (slot : Slot) → it ≡ for_local n slot → with_given ss (g ∷ gs) ≡ with_given (slice_set ss n slot) (g ∷ left)
      by (for_local m s0) it left is apart same ss n slot q =
          same (slice_set ss m s0) n slot q ∙ ap (λ l. with_given l left) (slots_commute ss m n s0 slot (λ e. apart (ap to_local e ∙ (sym (ap recipient q) ∙ is))))
      by (for_variable k v) it left is apart same ss n slot q = same ss n slot q

false_true : false ≡ true → ⊥
false_true e = cc

pub get_below : {A : Type 0} (xs : List A) (j : ℕ) (q : A) → slice_get xs j ≡ Some q → j < length xs
get_below [] j q e = cc
get_below (y ∷ ys) zero q e = omega arith
get_below (y ∷ ys) (suc j) q e = let h = get_below ys j q e in omega (arith, h)

module _ (p : Program) (x : Routine) where
  -- no two parameters have one variable
  abbrev pub ParametersApart : Type 0
  ParametersApart = (i j : ℕ) (q r : Parameter) → slice_get x.parameters i ≡ Some q → slice_get x.parameters j ≡ Some r → q.to ≡ r.to → i ≡ j

module _ (p : Program) (base : ℕ) (x : Routine) (ls : List Layout) (start : Address) (bs : List ℕ) where
  -- a number
  abbrev pub NumberGiven : ℕ → Variable → Value → Type 0
  NumberGiven at v w = (e : Elem) × (z : ℤ) × KindIs v.kind e × ((sh : Shape) × (shape_of p v.kind ≡ Some sh) × IsNumber sh e) × (w ≡ number z) × Fits e z × Holds elem.Ulint (wrapped elem.Ulint z) bs at

  -- the word of a number
  abbrev pub NumberWord : ℕ → Variable → Value → Type 0
  NumberWord at v w = (e : Elem) × (z : ℤ) × KindIs v.kind e × (w ≡ number z) × Fits e z × Holds elem.Ulint (wrapped elem.Ulint z) bs at

  -- the word of a reference or an interface value
  pub record HeldWord (at : ℕ) (v : Variable) (w : Value) : Type 0 where
    pub path : Option Path
    pub word_is : ℕ
    pub held : IsHeld v.kind
    pub is : w ≡ reference path
    pub refers : Refers (region_shape p) path word_is
    pub decodes : reference_of (pos word_is) ≡ path_word p base path
    pub keeps : kept (path_word p base path) ≡ Goes (pos word_is)
    pub stands : Holds elem.Ulint (pos word_is) bs at

  -- a reference or an interface value
  pub record HeldGiven (at : ℕ) (v : Variable) (w : Value) : Type 0 where
    pub shape : Shape
    pub path : Option Path
    pub word_is : ℕ
    pub held : IsHeld v.kind
    pub has_shape : shape_of p v.kind ≡ Some shape
    pub address : IsAddress shape
    pub is : w ≡ reference path
    pub refers : Refers (region_shape p) path word_is
    pub decodes : reference_of (pos word_is) ≡ path_word p base path
    pub keeps : kept (path_word p base path) ≡ Goes (pos word_is)
    pub stands : Holds elem.Ulint (pos word_is) bs at

  -- a large value, and where it stands behind the block
  pub record LargeIn (at : ℕ) (v : Variable) (w : Value) : Type 0 where
    pub far : ℕ
    pub shape : Shape
    pub large : is_large v.kind ≡ true
    pub has_shape : shape_of p v.kind ≡ Some shape
    pub inside : far + size shape ≤ length bs
    pub spells : Spells (region_shape p) shape w (slice_range bs far (far + size shape)) 0
    pub decodes : reference_of (pos (kept_number p base (record start { offset = start.offset + far }))) ≡ word.Address (record start { offset = start.offset + far })
    pub stands : Holds elem.Ulint (pos (kept_number p base (record start { offset = start.offset + far }))) bs at

  -- a number, a reference, or the place of an in-out, and the word for it in the block
  abbrev pub SlotGiven : ℕ → Variable → Slot → Type 0
  SlotGiven at v (holds w) = (is_in_out v.sort ≡ false) × (NumberGiven at v w ⊎ (HeldGiven at v w ⊎ LargeIn at v w))
  SlotGiven at v (bound spot) = (is_in_out v.sort ≡ true) × ((l : Located) × (located p base ls spot ≡ Some l) × KeptAddress p base l.address × Holds elem.Ulint (pos (kept_number p base l.address)) bs at)
  SlotGiven at v unbound = (is_in_out v.sort ≡ true) × Holds elem.Ulint (pos 0) bs at

  pub record ForLocal (g : Given) : Type 0 where
    pub index : ℕ
    pub parameter : Parameter
    pub there : slice_get x.parameters index ≡ Some parameter
    pub local : ℕ
    pub to : parameter.to ≡ to_local local
    pub variable : Variable
    pub in_locals : slice_get x.locals local ≡ Some variable
    pub sorted : is_in_out parameter.sort ≡ is_in_out variable.sort
    pub slot : Slot
    pub is : g ≡ for_local local slot
    pub inside : of_parameter index + 8 ≤ length bs
    pub word : SlotGiven (of_parameter index) variable slot

  -- an input of a block
  pub record ForVariable (g : Given) : Type 0 where
    pub index : ℕ
    pub parameter : Parameter
    pub there : slice_get x.parameters index ≡ Some parameter
    pub number_is : ℕ
    pub to : parameter.to ≡ to_variable number_is
    pub variable : Variable
    pub in_instance : recipient_variable p x (to_variable number_is) ≡ Some variable
    pub value : Value
    pub is : g ≡ for_variable number_is value
    pub inside : of_parameter index + 8 ≤ length bs
    pub word : NumberWord (of_parameter index) variable value ⊎ (HeldWord (of_parameter index) variable value ⊎ LargeIn (of_parameter index) variable value)

  pub data ForOne (g : Given) : Type 0 where
    one_local : ForLocal g → ForOne g
    one_variable : ForVariable g → ForOne g

  abbrev index_of : (g : Given) → ForOne g → ℕ
  index_of g (one_local f) = f.index
  index_of g (one_variable f) = f.index

  abbrev parameter_of : (g : Given) → ForOne g → Parameter
  parameter_of g (one_local f) = f.parameter
  parameter_of g (one_variable f) = f.parameter

  one_there : (g : Given) (f : ForOne g) → slice_get x.parameters (index_of g f) ≡ Some (parameter_of g f)
  one_there g (one_local f) = f.there
  one_there g (one_variable f) = f.there

  one_to : (g : Given) (f : ForOne g) → (parameter_of g f).to ≡ recipient g
  one_to g (one_local f) = f.to ∙ sym (ap recipient f.is)
  one_to g (one_variable f) = f.to ∙ sym (ap recipient f.is)

  -- what is still to come from a parameter on
  pub record Pending (mask i : ℕ) (rest : List Given) : Type 0 where
    pub all : AllGiven ForOne rest
    pub once : AreOnce rest
    pub inputs : (j : ℕ) (q : Parameter) → slice_get x.parameters j ≡ Some q → is_output q.sort ≡ true → IsGiven rest q.to → ⊥
    pub marked : (j : ℕ) (q : Parameter) → i ≤ j → slice_get x.parameters j ≡ Some q → is_output q.sort ≡ false → has_bit mask j ≡ true → IsGiven rest q.to
    pub unmarked : (j : ℕ) (q : Parameter) → slice_get x.parameters j ≡ Some q → has_bit mask j ≡ false → IsGiven rest q.to → ⊥
    pub past : (j : ℕ) (q : Parameter) → j < i → slice_get x.parameters j ≡ Some q → IsGiven rest q.to → ⊥

  address_wide : (sh : Shape) → IsAddress sh → size sh ≡ 8
  address_wide (Reference c name) h = refl
  address_wide (Interface k name) h = refl
  address_wide sh h = absurd h

  address_spells : (sh : Shape) (o : Option Path) (w : ℕ) (im : List ℕ) (i : ℕ) → IsAddress sh → Refers (region_shape p) o w → Holds elem.Ulint (pos w) im i → Spells (region_shape p) sh (reference o) im i
  address_spells (Reference c name) o w im i h f k = (o, refl, record { word = w; refers = f; holds = k })
  address_spells (Interface n name) o w im i h f k = (o, refl, record { word = w; refers = f; holds = k })
  address_spells sh o w im i h f k = absurd h

  path_refers : (o : Option Path) (under : List Word) → reference_in (path_word p base o ∷ under) ≡ Goes (path_word p base o, under)
  path_refers None under = refl
  path_refers (Some q) under = by (located p base [] (in_store q))
    where
      by : (l : Option Located) → reference_in (word_at p base l ∷ under) ≡ Goes (word_at p base l, under)
      by None = refl
      by (Some l) = refl

  module _ (tables : Tables) where
    number_in : (t : StType) (e : Elem) (at : ℕ) (place : List Cell) → KindIs t e → argument_in (called_plan p tables x) x.line at t place ≡ in_block x.line at ++ (does (op.Load elem.Ulint) x.line ∷ (place ++ does (op.Store e) x.line ∷ []))
    number_in (type.Elementary k) e at place h = ap (λ k. in_block x.line at ++ (does (op.Load elem.Ulint) x.line ∷ (place ++ does (op.Store k) x.line ∷ []))) h
    number_in (type.Enumeration n) e at place h = ap (λ k. in_block x.line at ++ (does (op.Load elem.Ulint) x.line ∷ (place ++ does (op.Store k) x.line ∷ []))) (sym h)
    number_in t e at place h = absurd h

    at_number : (v : Variable) (e : Elem) (q : Parameter) (at k : ℕ) → q.to ≡ to_local k → is_in_out q.sort ≡ false → slice_get x.locals k ≡ Some v → KindIs v.kind e
        → parameter_in p (called_plan p tables x) x.line x 8 at q ≡ in_block x.line at ++ (does (op.Load elem.Ulint) x.line ∷ (does (op.Local (local_offset p 8 x.locals k)) x.line ∷ (does (op.Store e) x.line ∷ [])))
    at_number v e q at k to sorted there is =
        let a : parameter_in p (called_plan p tables x) x.line x 8 at q ≡ parameter_in p (called_plan p tables x) x.line x 8 at (record q { to = to_local k }) = ap (λ y. parameter_in p (called_plan p tables x) x.line x 8 at (record q { to = y })) to in
        let b : parameter_in p (called_plan p tables x) x.line x 8 at (record q { to = to_local k }) ≡ argument_in (called_plan p tables x) x.line at (kind_in (slice_get x.locals k)) (local_at p (called_plan p tables x) x.line x 8 k) = ap (λ b. if b then in_out_in x.line at (local_at p (called_plan p tables x) x.line x 8 k) else argument_in (called_plan p tables x) x.line at (kind_in (slice_get x.locals k)) (local_at p (called_plan p tables x) x.line x 8 k)) sorted in
        a ∙ (b ∙ (ap (λ o. argument_in (called_plan p tables x) x.line at (kind_in o) (local_at p (called_plan p tables x) x.line x 8 k)) there ∙ number_in v.kind e at (local_at p (called_plan p tables x) x.line x 8 k) is))

    own_kind_is : (k : ℕ) (v : Variable) → recipient_variable p x (to_variable k) ≡ Some v → own_kind p (called_plan p tables x) x.line x 8 k ≡ v.kind
    own_kind_is k v e = ap (λ o. kind_in o) (by x.class e)
      where
        by : (c : Option ℕ) → own_variable p c k ≡ Some v → slice_get (class_variables p (class_of c)) k ≡ Some v
        by None e = cc
        by (Some c) e = e

    large_in : (t : StType) (at : ℕ) (place : List Cell) → is_large t ≡ true → argument_in (called_plan p tables x) x.line at t place ≡ in_block x.line at ++ (does op.LoadRef x.line ∷ (place ++ does (op.Copy (bytes_of_type p t)) x.line ∷ []))
    large_in (type.Elementary e) at place h = cc
    large_in (type.Enumeration n) at place h = cc
    large_in (type.Reference c) at place h = cc
    large_in (type.Interface i) at place h = cc
    large_in (type.Instance c) at place h = cc
    large_in t at place h = refl

    at_large : (v : Variable) (q : Parameter) (at k : ℕ) → q.to ≡ to_local k → is_in_out q.sort ≡ false → slice_get x.locals k ≡ Some v → is_large v.kind ≡ true
        → parameter_in p (called_plan p tables x) x.line x 8 at q ≡ in_block x.line at ++ (does op.LoadRef x.line ∷ (does (op.Local (local_offset p 8 x.locals k)) x.line ∷ (does (op.Copy (bytes_of_type p v.kind)) x.line ∷ [])))
    at_large v q at k to sorted there large =
        let a : parameter_in p (called_plan p tables x) x.line x 8 at q ≡ parameter_in p (called_plan p tables x) x.line x 8 at (record q { to = to_local k }) = ap (λ y. parameter_in p (called_plan p tables x) x.line x 8 at (record q { to = y })) to in
        let b : parameter_in p (called_plan p tables x) x.line x 8 at (record q { to = to_local k }) ≡ argument_in (called_plan p tables x) x.line at (kind_in (slice_get x.locals k)) (local_at p (called_plan p tables x) x.line x 8 k) = ap (λ b. if b then in_out_in x.line at (local_at p (called_plan p tables x) x.line x 8 k) else argument_in (called_plan p tables x) x.line at (kind_in (slice_get x.locals k)) (local_at p (called_plan p tables x) x.line x 8 k)) sorted in
        a ∙ (b ∙ (ap (λ o. argument_in (called_plan p tables x) x.line at (kind_in o) (local_at p (called_plan p tables x) x.line x 8 k)) there ∙ large_in v.kind at (local_at p (called_plan p tables x) x.line x 8 k) large))

    at_large_variable : (q : Parameter) (v : Variable) (at k : ℕ) → q.to ≡ to_variable k → recipient_variable p x (to_variable k) ≡ Some v → is_large v.kind ≡ true
        → parameter_in p (called_plan p tables x) x.line x 8 at q ≡ in_block x.line at ++ (does op.LoadRef x.line ∷ (does (op.This (field_offset p (type.Instance (class_of x.class)) k)) x.line ∷ (does (op.Copy (bytes_of_type p v.kind)) x.line ∷ [])))
    at_large_variable q v at k to there large =
        let a : parameter_in p (called_plan p tables x) x.line x 8 at q ≡ parameter_in p (called_plan p tables x) x.line x 8 at (record q { to = to_variable k }) = ap (λ y. parameter_in p (called_plan p tables x) x.line x 8 at (record q { to = y })) to in
        a ∙ (ap (λ t. argument_in (called_plan p tables x) x.line at t (variable_at p (called_plan p tables x) x.line x 8 k)) (own_kind_is k v there) ∙ large_in v.kind at (variable_at p (called_plan p tables x) x.line x 8 k) large)

    at_place : (q : Parameter) (at k : ℕ) → q.to ≡ to_local k → is_in_out q.sort ≡ true → parameter_in p (called_plan p tables x) x.line x 8 at q ≡ in_block x.line at ++ (does op.LoadRef x.line ∷ (does (op.Local (local_offset p 8 x.locals k)) x.line ∷ (does op.StoreRef x.line ∷ [])))
    at_place q at k to sorted =
        let a : parameter_in p (called_plan p tables x) x.line x 8 at q ≡ parameter_in p (called_plan p tables x) x.line x 8 at (record q { to = to_local k }) = ap (λ y. parameter_in p (called_plan p tables x) x.line x 8 at (record q { to = y })) to in
        a ∙ ap (λ b. if b then in_out_in x.line at (local_at p (called_plan p tables x) x.line x 8 k) else argument_in (called_plan p tables x) x.line at (kind_in (slice_get x.locals k)) (local_at p (called_plan p tables x) x.line x 8 k)) sorted

    held_code : (t : StType) (at off : ℕ) → IsHeld t → argument_in (called_plan p tables x) x.line at t (does (op.Local off) x.line ∷ []) ≡ in_block x.line at ++ (does op.LoadRef x.line ∷ (does (op.Local off) x.line ∷ (does op.StoreRef x.line ∷ [])))
    held_code (type.Reference c) at off h = refl
    held_code (type.Interface i) at off h = refl
    held_code t at off h = absurd h

    at_reference : (v : Variable) (q : Parameter) (at k : ℕ) → q.to ≡ to_local k → is_in_out q.sort ≡ false → slice_get x.locals k ≡ Some v → IsHeld v.kind → parameter_in p (called_plan p tables x) x.line x 8 at q ≡ in_block x.line at ++ (does op.LoadRef x.line ∷ (does (op.Local (local_offset p 8 x.locals k)) x.line ∷ (does op.StoreRef x.line ∷ [])))
    at_reference v q at k to sorted there held =
        let a : parameter_in p (called_plan p tables x) x.line x 8 at q ≡ parameter_in p (called_plan p tables x) x.line x 8 at (record q { to = to_local k }) = ap (λ y. parameter_in p (called_plan p tables x) x.line x 8 at (record q { to = y })) to in
        let b : parameter_in p (called_plan p tables x) x.line x 8 at (record q { to = to_local k }) ≡ argument_in (called_plan p tables x) x.line at (kind_in (slice_get x.locals k)) (local_at p (called_plan p tables x) x.line x 8 k) = ap (λ b. if b then in_out_in x.line at (local_at p (called_plan p tables x) x.line x 8 k) else argument_in (called_plan p tables x) x.line at (kind_in (slice_get x.locals k)) (local_at p (called_plan p tables x) x.line x 8 k)) sorted in
        a ∙ (b ∙ (ap (λ o. argument_in (called_plan p tables x) x.line at (kind_in o) (local_at p (called_plan p tables x) x.line x 8 k)) there ∙ held_code v.kind at (local_offset p 8 x.locals k) held))

    at_variable : (q : Parameter) (v : Variable) (e : Elem) (at k : ℕ) → q.to ≡ to_variable k → recipient_variable p x (to_variable k) ≡ Some v → KindIs v.kind e
        → parameter_in p (called_plan p tables x) x.line x 8 at q ≡ in_block x.line at ++ (does (op.Load elem.Ulint) x.line ∷ (does (op.This (field_offset p (type.Instance (class_of x.class)) k)) x.line ∷ (does (op.Store e) x.line ∷ [])))
    at_variable q v e at k to there is =
        let a : parameter_in p (called_plan p tables x) x.line x 8 at q ≡ parameter_in p (called_plan p tables x) x.line x 8 at (record q { to = to_variable k }) = ap (λ y. parameter_in p (called_plan p tables x) x.line x 8 at (record q { to = y })) to in
        a ∙ (ap (λ t. argument_in (called_plan p tables x) x.line at t (variable_at p (called_plan p tables x) x.line x 8 k)) (own_kind_is k v there) ∙ number_in v.kind e at (variable_at p (called_plan p tables x) x.line x 8 k) is)

    held_variable : (t : StType) (at off : ℕ) → IsHeld t → argument_in (called_plan p tables x) x.line at t (does (op.This off) x.line ∷ []) ≡ in_block x.line at ++ (does op.LoadRef x.line ∷ (does (op.This off) x.line ∷ (does op.StoreRef x.line ∷ [])))
    held_variable (type.Reference c) at off h = refl
    held_variable (type.Interface i) at off h = refl
    held_variable t at off h = absurd h

    at_held_variable : (q : Parameter) (v : Variable) (at k : ℕ) → q.to ≡ to_variable k → recipient_variable p x (to_variable k) ≡ Some v → IsHeld v.kind
        → parameter_in p (called_plan p tables x) x.line x 8 at q ≡ in_block x.line at ++ (does op.LoadRef x.line ∷ (does (op.This (field_offset p (type.Instance (class_of x.class)) k)) x.line ∷ (does op.StoreRef x.line ∷ [])))
    at_held_variable q v at k to there held =
        let a : parameter_in p (called_plan p tables x) x.line x 8 at q ≡ parameter_in p (called_plan p tables x) x.line x 8 at (record q { to = to_variable k }) = ap (λ y. parameter_in p (called_plan p tables x) x.line x 8 at (record q { to = y })) to in
        a ∙ (ap (λ t. argument_in (called_plan p tables x) x.line at t (variable_at p (called_plan p tables x) x.line x 8 k)) (own_kind_is k v there) ∙ held_variable v.kind at (field_offset p (type.Instance (class_of x.class)) k) held)

  -- a value is written to a variable of the own instance, by the machine as a number and by the meaning
  pub record OwnWritten (is_there : ℕ → Bool) (own : Option Address) (own_path : Option Path) (s0 : State) (k : ℕ) (e : Elem) (z : ℤ) (value : Value) (rs : List (Option (List ℕ))) (st : Store) : Type 0 where
    pub begin : Address
    pub address : Address
    pub path : Path
    pub own_is : own ≡ Some begin
    pub path_is : own_path ≡ Some path
    pub moves : moved begin (field_offset p (type.Instance (class_of x.class)) k) ≡ Goes address
    pub regions' : List (Option (List ℕ))
    pub store' : Store
    pub by_bytes : (locals : List (List ℕ)) → write_bytes e (record { regions = rs; locals = locals }) address z ≡ Goes (record { regions = regions'; locals = locals })
    pub by_state : (line : ℕ) → write (into (in_store path) (step.Field k)) value line (record s0 { store = st }) ≡ Done tt (record s0 { store = store' })
    pub shows : Shows (region_shape p) is_there regions' store'

  -- the bytes of a large value are copied to a variable of the own instance
  pub record OwnCopied (is_there : ℕ → Bool) (own : Option Address) (own_path : Option Path) (s0 : State) (k size_is : ℕ) (value : Value) (bytes : List ℕ) (rs : List (Option (List ℕ))) (st : Store) : Type 0 where
    pub begin : Address
    pub address : Address
    pub path : Path
    pub own_is : own ≡ Some begin
    pub path_is : own_path ≡ Some path
    pub moves : moved begin (field_offset p (type.Instance (class_of x.class)) k) ≡ Goes address
    pub regions' : List (Option (List ℕ))
    pub store' : Store
    pub by_bytes : (locals : List (List ℕ)) (a : Address) (image : List ℕ) → image_at (record { regions = rs; locals = locals }) a size_is ≡ Goes image → slice_range image a.offset (a.offset + size_is) ≡ bytes → copy_bytes size_is (record { regions = rs; locals = locals }) a address ≡ Goes (record { regions = regions'; locals = locals })
    pub by_state : (line : ℕ) → write (into (in_store path) (step.Field k)) value line (record s0 { store = st }) ≡ Done tt (record s0 { store = store' })
    pub shows : Shows (region_shape p) is_there regions' store'

  module _ (tables : Tables) (code : MachineCode) (now : ℕ) (n : ℕ) (own : Option Address) (around : List At) (under : List Word) (ticks : ℕ) (after : Unit {0} → State → Memory → Config) (shown : Unit {0} → State → Memory → Type 0) (o : Outcome (Unit {0}))
      (is_there : ℕ → Bool) (own_path : Option Path) (s0 : State) (frame : Frame) (line0 : ℕ)
      (own_writes : (k : ℕ) (v : Variable) (e : Elem) (z : ℤ) (rs : List (Option (List ℕ))) (st : Store) → recipient_variable p x (to_variable k) ≡ Some v → KindIs v.kind e → Fits e z → Shows (region_shape p) is_there rs st → OwnWritten is_there own own_path s0 k e z (number z) rs st)
      (own_refers : (k : ℕ) (v : Variable) (o : Option Path) (w : ℕ) (rs : List (Option (List ℕ))) (st : Store) → recipient_variable p x (to_variable k) ≡ Some v → IsHeld v.kind → Refers (region_shape p) o w → Fits elem.Ulint (pos w) → Shows (region_shape p) is_there rs st → OwnWritten is_there own own_path s0 k elem.Ulint (pos w) (reference o) rs st)
      (own_copies : (k : ℕ) (v : Variable) (w : Value) (bytes : List ℕ) (sh : Shape) (rs : List (Option (List ℕ))) (st : Store) → recipient_variable p x (to_variable k) ≡ Some v → is_large v.kind ≡ true → shape_of p v.kind ≡ Some sh → length bytes ≡ size sh → Spells (region_shape p) sh w bytes 0 → Shows (region_shape p) is_there rs st → OwnCopied is_there own own_path s0 k (size sh) w bytes rs st)
      (d block mask : ℕ) (m : Memory) (b : BlockThere m (base + d) block bs) (few : length x.parameters < result_place) (mask_kept : Holds elem.Ulint (pos mask) bs of_mask) (room_block : 24 ≤ length bs) (apart : ParametersApart p x) (start_is : start ≡ record { space = Locals; index = base + d; offset = block }) where
    abbrev Regions_bytes : Type 0
    Regions_bytes = List (Option (List ℕ))

    abbrev Goes_on : ℕ → Regions_bytes → List ℕ → Type 0
    Goes_on pc rs image = Next p code now n own around under x.line ticks after shown o pc under (with_last (record m { regions = rs }) image)

    block_at : (rs : Regions_bytes) → BlockThere (record m { regions = rs }) (base + d) block bs
    block_at rs = record { image = b.image; there = b.there; inside = b.inside; stands = b.stands; low = b.low }

    -- the store so far, from which what is given still leads to the outcome
    pub record Reaches (rest : List Given) (rs : List (Option (List ℕ))) (st : Store) : Type 0 where
      pub shows : Shows (region_shape p) is_there rs st
      pub toward : o ≡ (set_variables own_path rest >>= λ _. push frame) line0 (record s0 { store = st })

    -- the locals of the routine so far
    pub record Entered (ss : List Slot) (image : List ℕ) : Type 0 where
      pub slots : SlotsShown p base ls x.locals ss image 8
      pub room : locals_end p 8 x.locals ≤ length image
      pub own_word : Holds elem.Ulint (pos (kept_number p base (record { space = Locals; index = base + d; offset = block }))) image 0

    -- what is written for one of them
    written_there : (k : ℕ) (v : Variable) (ss : List Slot) (slot : Slot) (image : List ℕ) (e : Elem) (z : ℤ) → Entered ss image → slice_get x.locals k ≡ Some v → bytes e ≡ width p v → Fits e z
        → ((im : List ℕ) → Holds e z im (local_offset p 8 x.locals k) → SlotShown p base ls v slot im (local_offset p 8 x.locals k)) → (local_offset p 8 x.locals k + bytes e ≤ length image) × (length (written e image (local_offset p 8 x.locals k) z) ≡ length image) × Entered (slice_set ss k slot) (written e image (local_offset p 8 x.locals k) z)
    written_there k v ss slot image e z h there wide fits shows =
        let off = local_offset p 8 x.locals k in
        let above = offset_above p base x.locals 8 k in
        let below = offset_below p base x.locals 8 k v there in
        let room = h.room in
        let fit : off + bytes e ≤ length image = omega (arith, below, room, wide) in
        let keeps = keeps_written e z image off fit in
        let same = length-written e z image off fit in (
          fit,
          same,
          record {
            slots = slot_given p base image (written e image off z) off (bytes e) keeps ls x.locals ss 8 k v slot h.slots there refl wide (shows (written e image off z) (holds_written e z image off fits fit));
            room = omega (arith, same, room);
            own_word = holds_moved {e = elem.Ulint} (kept_same keeps 0 0 8 (inl (omega (arith, above)))) h.own_word;
          },
        )

    -- what is copied there for one of them
    copied_there : (k : ℕ) (v : Variable) (ss : List Slot) (w : Value) (sh : Shape) (image bytes : List ℕ) → Entered ss image → slice_get x.locals k ≡ Some v → is_in_out v.sort ≡ false → shape_of p v.kind ≡ Some sh → length bytes ≡ size sh → Spells (region_shape p) sh w bytes 0
        → (local_offset p 8 x.locals k + size sh ≤ length image) × (length (replaced image (local_offset p 8 x.locals k) bytes) ≡ length image) × Entered (slice_set ss k (holds w)) (replaced image (local_offset p 8 x.locals k) bytes)
    copied_there k v ss w sh image bytes h there not_bound has_shape long spells =
        let off = local_offset p 8 x.locals k in
        let above = offset_above p base x.locals 8 k in
        let below = offset_below p base x.locals 8 k v there in
        let wide : width p v ≡ size sh = ap (λ b. if b then 8 else size_in (shape_of p v.kind)) not_bound ∙ ap size_in has_shape in
        let room = h.room in
        let fit : off + size sh ≤ length image = omega (arith, below, room, wide) in
        let keeps = keeps_there p base is_there now image bytes off (size sh) long fit in
        let same = length-replaced image bytes off (omega (arith, long, fit)) in (
          fit,
          same,
          record {
            slots = slot_given p base image (replaced image off bytes) off (size sh) keeps ls x.locals ss 8 k v (holds w) h.slots there refl (sym wide) (not_bound, (sh, has_shape, spelled_there p base is_there now sh w image bytes off long fit spells));
            room = omega (arith, same, room);
            own_word = holds_moved {e = elem.Ulint} (kept_same keeps 0 0 8 (inl (omega (arith, above)))) h.own_word;
          },
        )

    -- where a large value stands behind the block
    far_is : (far : ℕ) → record start { offset = start.offset + far } ≡ record { space = Locals; index = base + d; offset = block + far }
    far_is far = ap (λ (a : Address). record a { offset = a.offset + far }) start_is

    eight_in : (ss : List Slot) (image : List ℕ) → Entered ss image → 8 ≤ length image
    eight_in ss image h = let l = end_above p base x.locals 8 in let r = h.room in omega (arith, l, r)

    given_next : (g : Given) (f : ForLocal g) (ss : List Slot) (image : List ℕ) (rs : Regions_bytes) (pc : ℕ) → Entered ss image → Stands code now n pc (parameter_in p (called_plan p tables x) x.line x 8 (of_parameter f.index) f.parameter)
        → ((image' : List ℕ) → Entered (slice_set ss f.local f.slot) image' → length image' ≡ length image → Goes_on (pc + length (parameter_in p (called_plan p tables x) x.line x 8 (of_parameter f.index) f.parameter)) rs image') → Goes_on pc rs image
    given_next g f ss image rs pc h has k = by f.slot f.word has k
      where
        fit : of_parameter f.index + 8 ≤ length bs
        fit = f.inside

        eight : 8 ≤ length image
        eight = eight_in ss image h

        by : (slot : Slot) → SlotGiven (of_parameter f.index) f.variable slot → Stands code now n pc (parameter_in p (called_plan p tables x) x.line x 8 (of_parameter f.index) f.parameter)
            → ((image' : List ℕ) → Entered (slice_set ss f.local slot) image' → length image' ≡ length image → Goes_on (pc + length (parameter_in p (called_plan p tables x) x.line x 8 (of_parameter f.index) f.parameter)) rs image') → Goes_on pc rs image
        by (holds w) (not_bound, inl s) has k =
            let e = s.0 in
            let z = s.1 in
            let wide : width p f.variable ≡ bytes e = ap (λ b. if b then 8 else size_in (shape_of p f.variable.kind)) not_bound ∙ (ap size_in s.3.1 ∙ number_size s.3.0 e s.3.2) in
            let r = written_there f.local f.variable ss (holds w) image e z h f.in_locals (sym wide) s.5 (λ im i. (not_bound, (s.3.0, s.3.1, subst (λ y. Spells (region_shape p) s.3.0 y im (local_offset p 8 x.locals f.local)) (sym s.4) (spelled_number (region_shape p) s.3.0 e z im (local_offset p 8 x.locals f.local) s.3.2 i)))) in
            subst (λ c. Stands code now n pc c → (Goes_on (pc + length c) rs (written e image (local_offset p 8 x.locals f.local) z)) → Goes_on pc rs image) (sym (at_number tables f.variable e f.parameter (of_parameter f.index) f.local f.to (f.sorted ∙ not_bound) f.in_locals s.2))
            (λ has k. input_next p code now n own around under x.line ticks after shown o base d block bs image (record m { regions = rs }) (of_parameter f.index) (local_offset p 8 x.locals f.local) pc e z (block_at rs) h.own_word eight fit s.6 s.5 r.0 has k)
            has (k (written e image (local_offset p 8 x.locals f.local) z) r.2 r.1)
        by (holds w) (not_bound, inr (inr s)) has k =
            let off = local_offset p 8 x.locals f.local in
            let inside = s.inside in
            let bytes = slice_range bs s.far (s.far + size s.shape) in
            let long : length bytes ≡ size s.shape = length-range bs s.far (size s.shape) inside in
            let r = copied_there f.local f.variable ss w s.shape image bytes h f.in_locals not_bound s.has_shape long s.spells in
            let sized : bytes_of_type p f.variable.kind ≡ size s.shape = ap size_in s.has_shape in
            let given = subst (λ (a : Address). Holds elem.Ulint (pos (kept_number p base a)) bs (of_parameter f.index)) (far_is s.far) s.stands in
            let decodes = subst (λ (a : Address). reference_of (pos (kept_number p base a)) ≡ word.Address a) (far_is s.far) s.decodes in
            subst (λ c. Stands code now n pc c → (Goes_on (pc + length c) rs (replaced image off bytes)) → Goes_on pc rs image) (sym (at_large tables f.variable f.parameter (of_parameter f.index) f.local f.to (f.sorted ∙ not_bound) f.in_locals s.large ∙ ap (λ j. in_block x.line (of_parameter f.index) ++ (does op.LoadRef x.line ∷ (does (op.Local off) x.line ∷ (does (op.Copy j) x.line ∷ [])))) sized))
            (λ has k. copied_next p code now n own around under x.line ticks after shown o base d block bs image (record m { regions = rs }) (of_parameter f.index) s.far off (size s.shape) pc (block_at rs) h.own_word eight fit given decodes inside r.0 has k)
            has (k (replaced image off bytes) r.2 r.1)
        by (holds w) (not_bound, inr (inl s)) has k =
            let z : ℤ = pos s.word_is in
            let wide : width p f.variable ≡ 8 = ap (λ b. if b then 8 else size_in (shape_of p f.variable.kind)) not_bound ∙ (ap size_in s.has_shape ∙ address_wide s.shape s.address) in
            let r = written_there f.local f.variable ss (holds w) image elem.Ulint z h f.in_locals (sym wide) s.stands.fits (λ im i. (not_bound, (s.shape, s.has_shape, subst (λ y. Spells (region_shape p) s.shape y im (local_offset p 8 x.locals f.local)) (sym s.is) (address_spells s.shape s.path s.word_is im (local_offset p 8 x.locals f.local) s.address s.refers i)))) in
            subst (λ c. Stands code now n pc c → (Goes_on (pc + length c) rs (written elem.Ulint image (local_offset p 8 x.locals f.local) z)) → Goes_on pc rs image) (sym (at_reference tables f.variable f.parameter (of_parameter f.index) f.local f.to (f.sorted ∙ not_bound) f.in_locals s.held))
            (λ has k. bound_next p code now n own around under x.line ticks after shown o base d block bs image (record m { regions = rs }) (of_parameter f.index) (local_offset p 8 x.locals f.local) pc (path_word p base s.path) z (block_at rs) h.own_word eight fit s.stands s.decodes s.keeps (path_refers s.path under) r.0 has k)
            has (k (written elem.Ulint image (local_offset p 8 x.locals f.local) z) r.2 r.1)
        by (bound spot) s has k =
            let l = s.1.0 in
            let z : ℤ = pos (kept_number p base l.address) in
            let wide : width p f.variable ≡ 8 = ap (λ b. if b then 8 else size_in (shape_of p f.variable.kind)) s.0 in
            let r = written_there f.local f.variable ss (bound spot) image elem.Ulint z h f.in_locals (sym wide) s.1.3.fits (λ im i. (s.0, record { there = l; is = s.1.1; holds_word = i })) in
            subst (λ c. Stands code now n pc c → (Goes_on (pc + length c) rs (written elem.Ulint image (local_offset p 8 x.locals f.local) z)) → Goes_on pc rs image) (sym (at_place tables f.parameter (of_parameter f.index) f.local f.to (f.sorted ∙ s.0)))
            (λ has k. bound_next p code now n own around under x.line ticks after shown o base d block bs image (record m { regions = rs }) (of_parameter f.index) (local_offset p 8 x.locals f.local) pc (word.Address l.address) z (block_at rs) h.own_word eight fit s.1.3 s.1.2.decodes s.1.2.keeps refl r.0 has k)
            has (k (written elem.Ulint image (local_offset p 8 x.locals f.local) z) r.2 r.1)
        by unbound s has k =
            let wide : width p f.variable ≡ 8 = ap (λ b. if b then 8 else size_in (shape_of p f.variable.kind)) s.0 in
            let r = written_there f.local f.variable ss unbound image elem.Ulint (pos 0) h f.in_locals (sym wide) s.1.fits (λ im i. (s.0, i)) in
            subst (λ c. Stands code now n pc c → (Goes_on (pc + length c) rs (written elem.Ulint image (local_offset p 8 x.locals f.local) (pos 0))) → Goes_on pc rs image) (sym (at_place tables f.parameter (of_parameter f.index) f.local f.to (f.sorted ∙ s.0)))
            (λ has k. bound_next p code now n own around under x.line ticks after shown o base d block bs image (record m { regions = rs }) (of_parameter f.index) (local_offset p 8 x.locals f.local) pc word.Null (pos 0) (block_at rs) h.own_word eight fit s.1 refl refl refl r.0 has k)
            has (k (written elem.Ulint image (local_offset p 8 x.locals f.local) (pos 0)) r.2 r.1)

    -- what is written to the instance
    record Left_own (k : ℕ) (value : Value) (rs : Regions_bytes) (st : Store) : Type 0 where
      path : Path
      path_is : own_path ≡ Some path
      regions' : Regions_bytes
      store' : Store
      by_state : (line : ℕ) → write (into (in_store path) (step.Field k)) value line (record s0 { store = st }) ≡ Done tt (record s0 { store = store' })
      shows : Shows (region_shape p) is_there regions' store'

    -- an input of a block is written to the instance
    variable_given : (g : Given) (f : ForVariable g) (ss : List Slot) (image : List ℕ) (rs : Regions_bytes) (st : Store) (pc : ℕ) → Entered ss image → Shows (region_shape p) is_there rs st → Stands code now n pc (parameter_in p (called_plan p tables x) x.line x 8 (of_parameter f.index) f.parameter)
        → ((w : Left_own f.number_is f.value rs st) → Goes_on (pc + length (parameter_in p (called_plan p tables x) x.line x 8 (of_parameter f.index) f.parameter)) w.regions' image) → Goes_on pc rs image
    variable_given g f ss image rs st pc h sh has k = by f.word
      where
        by : NumberWord (of_parameter f.index) f.variable f.value ⊎ (HeldWord (of_parameter f.index) f.variable f.value ⊎ LargeIn (of_parameter f.index) f.variable f.value) → Goes_on pc rs image
        by (inl s) =
            let e = s.0 in
            let z = s.1 in
            let w = own_writes f.number_is f.variable e z rs st f.in_instance s.2 s.4 sh in
            let m' : Memory = record m { regions = rs } in
            subst (λ c. Stands code now n pc c → Goes_on (pc + length c) w.regions' image → Goes_on pc rs image) (sym (at_variable tables f.parameter f.variable e (of_parameter f.index) f.number_is f.to f.in_instance s.2))
            (λ has k.
            block_next p code now n own around under x.line ticks after shown o base d block bs image m' (of_parameter f.index) pc under (block_at rs) h.own_word (eight_in ss image h) (let l = f.inside in omega (arith, l)) (has.0, (has.1.0, (has.1.1.0, tt)))
            (ends.step_leads code now (op.Load elem.Ulint, x.line) has.1.1.1.0
            (ends.goes_leads code now (read_bytes elem.Ulint (with_last m' image) (record { space = Locals; index = base + d; offset = block + of_parameter f.index })) (wrapped elem.Ulint z) _ (block_read p code now n own around under x.line ticks after shown o (base + d) block bs image m' (of_parameter f.index) (wrapped elem.Ulint z) (block_at rs) f.inside s.5)
            (ends.step_leads code now (op.This (field_offset p (type.Instance (class_of x.class)) f.number_is), x.line) has.1.1.1.1.0
            (ends.same_start code now (ap (λ y. some_or_stuck y >>=step λ a. moved a (field_offset p (type.Instance (class_of x.class)) f.number_is) >>=step λ a. on (at_cell p code now n own around under x.line ticks (pc + 1 + 1 + 1 + 1) (word.Number (wrapped elem.Ulint z) ∷ under) (with_last m' image)) (word.Address a ∷ (word.Number (wrapped elem.Ulint z) ∷ under))) w.own_is)
            (ends.goes_leads code now (moved w.begin (field_offset p (type.Instance (class_of x.class)) f.number_is)) w.address _ w.moves
            (ends.step_leads code now (op.Store e, x.line) has.1.1.1.1.1.0
            (ends.goes_leads code now (write_bytes e (with_last m' image) w.address (wrapped e (wrapped elem.Ulint z))) (with_last (record m { regions = w.regions' }) image) _
            (ap (λ y. write_bytes e (with_last m' image) w.address y) (through_word e z s.4) ∙ w.by_bytes (m.locals ++ image ∷ []))
            (same_pc p code now n own around under x.line ticks after shown o (with_last (record m { regions = w.regions' }) image) under (pc + 1 + 1 + 1 + 1 + 1 + 1) (pc + 6) (omega arith) k)))))))))
            has (k (record { path = w.path; path_is = w.path_is; regions' = w.regions'; store' = w.store'; by_state = λ l. ap (λ v. write (into (in_store w.path) (step.Field f.number_is)) v l (record s0 { store = st })) s.3 ∙ w.by_state l; shows = w.shows }))
        by (inr (inr s)) =
            let inside = s.inside in
            let bytes = slice_range bs s.far (s.far + size s.shape) in
            let long : length bytes ≡ size s.shape = length-range bs s.far (size s.shape) inside in
            let w = own_copies f.number_is f.variable f.value bytes s.shape rs st f.in_instance s.large s.has_shape long s.spells sh in
            let m' : Memory = record m { regions = rs } in
            let from : Address = record { space = Locals; index = base + d; offset = block + s.far } in
            let z : ℤ = pos (kept_number p base from) in
            let whole = b.inside in
            let sized : bytes_of_type p f.variable.kind ≡ size s.shape = ap size_in s.has_shape in
            let given = subst (λ (a : Address). Holds elem.Ulint (pos (kept_number p base a)) bs (of_parameter f.index)) (far_is s.far) s.stands in
            let decodes = subst (λ (a : Address). reference_of (pos (kept_number p base a)) ≡ word.Address a) (far_is s.far) s.decodes in
            let bytes_are : slice_range b.image (block + s.far) (block + s.far + size s.shape) ≡ bytes = sym (range_of_range b.image block (length bs) s.far (size s.shape) inside) ∙ ap (λ l. slice_range l s.far (s.far + size s.shape)) b.stands in
            subst (λ c. Stands code now n pc c → Goes_on (pc + length c) w.regions' image → Goes_on pc rs image) (sym (at_large_variable tables f.parameter f.variable (of_parameter f.index) f.number_is f.to f.in_instance s.large ∙ ap (λ j. in_block x.line (of_parameter f.index) ++ (does op.LoadRef x.line ∷ (does (op.This (field_offset p (type.Instance (class_of x.class)) f.number_is)) x.line ∷ (does (op.Copy j) x.line ∷ [])))) sized))
            (λ has k.
            block_next p code now n own around under x.line ticks after shown o base d block bs image m' (of_parameter f.index) pc under (block_at rs) h.own_word (eight_in ss image h) (let l = f.inside in omega (arith, l)) (has.0, (has.1.0, (has.1.1.0, tt)))
            (ends.step_leads code now (op.LoadRef, x.line) has.1.1.1.0
            (ends.goes_leads code now (read_bytes elem.Ulint (with_last m' image) (record { space = Locals; index = base + d; offset = block + of_parameter f.index })) z _ (block_read p code now n own around under x.line ticks after shown o (base + d) block bs image m' (of_parameter f.index) z (block_at rs) f.inside given)
            (subst (λ y. Next p code now n own around under x.line ticks after shown o (pc + 1 + 1 + 1 + 1) (y ∷ under) (with_last m' image)) (sym decodes)
            (ends.step_leads code now (op.This (field_offset p (type.Instance (class_of x.class)) f.number_is), x.line) has.1.1.1.1.0
            (ends.same_start code now (ap (λ y. some_or_stuck y >>=step λ a. moved a (field_offset p (type.Instance (class_of x.class)) f.number_is) >>=step λ a. on (at_cell p code now n own around under x.line ticks (pc + 1 + 1 + 1 + 1) (word.Address from ∷ under) (with_last m' image)) (word.Address a ∷ (word.Address from ∷ under))) w.own_is)
            (ends.goes_leads code now (moved w.begin (field_offset p (type.Instance (class_of x.class)) f.number_is)) w.address _ w.moves
            (ends.step_leads code now (op.Copy (size s.shape), x.line) has.1.1.1.1.1.0
            (ends.goes_leads code now (copy_bytes (size s.shape) (with_last m' image) from w.address) (with_last (record m { regions = w.regions' }) image) _ (w.by_bytes (m.locals ++ image ∷ []) from b.image (local_there (with_last m' image) (base + d) (block + s.far) (size s.shape) b.image (front_get m.locals (image ∷ []) (base + d) b.image b.there) (omega (arith, whole, inside))) bytes_are)
            (same_pc p code now n own around under x.line ticks after shown o (with_last (record m { regions = w.regions' }) image) under (pc + 1 + 1 + 1 + 1 + 1 + 1) (pc + 6) (omega arith) k))))))))))
            has (k (record { path = w.path; path_is = w.path_is; regions' = w.regions'; store' = w.store'; by_state = w.by_state; shows = w.shows }))
        by (inr (inl s)) =
            let z : ℤ = pos s.word_is in
            let w = own_refers f.number_is f.variable s.path s.word_is rs st f.in_instance s.held s.refers s.stands.fits sh in
            let m' : Memory = record m { regions = rs } in
            let v = path_word p base s.path in
            subst (λ c. Stands code now n pc c → Goes_on (pc + length c) w.regions' image → Goes_on pc rs image) (sym (at_held_variable tables f.parameter f.variable (of_parameter f.index) f.number_is f.to f.in_instance s.held))
            (λ has k.
            block_next p code now n own around under x.line ticks after shown o base d block bs image m' (of_parameter f.index) pc under (block_at rs) h.own_word (eight_in ss image h) (let l = f.inside in omega (arith, l)) (has.0, (has.1.0, (has.1.1.0, tt)))
            (ends.step_leads code now (op.LoadRef, x.line) has.1.1.1.0
            (ends.goes_leads code now (read_bytes elem.Ulint (with_last m' image) (record { space = Locals; index = base + d; offset = block + of_parameter f.index })) z _ (block_read p code now n own around under x.line ticks after shown o (base + d) block bs image m' (of_parameter f.index) z (block_at rs) f.inside s.stands)
            (subst (λ y. Next p code now n own around under x.line ticks after shown o (pc + 1 + 1 + 1 + 1) (y ∷ under) (with_last m' image)) (sym s.decodes)
            (ends.step_leads code now (op.This (field_offset p (type.Instance (class_of x.class)) f.number_is), x.line) has.1.1.1.1.0
            (ends.same_start code now (ap (λ y. some_or_stuck y >>=step λ a. moved a (field_offset p (type.Instance (class_of x.class)) f.number_is) >>=step λ a. on (at_cell p code now n own around under x.line ticks (pc + 1 + 1 + 1 + 1) (v ∷ under) (with_last m' image)) (word.Address a ∷ (v ∷ under))) w.own_is)
            (ends.goes_leads code now (moved w.begin (field_offset p (type.Instance (class_of x.class)) f.number_is)) w.address _ w.moves
            (ends.step_leads code now (op.StoreRef, x.line) has.1.1.1.1.1.0
            (ends.goes_leads code now (reference_in (v ∷ under)) (v, under) _ (path_refers s.path under)
            (ends.goes_leads code now (kept v) z _ s.keeps
            (ends.goes_leads code now (write_bytes elem.Ulint (with_last m' image) w.address z) (with_last (record m { regions = w.regions' }) image) _ (w.by_bytes (m.locals ++ image ∷ []))
            (same_pc p code now n own around under x.line ticks after shown o (with_last (record m { regions = w.regions' }) image) under (pc + 1 + 1 + 1 + 1 + 1 + 1) (pc + 6) (omega arith) k))))))))))))
            has (k (record { path = w.path; path_is = w.path_is; regions' = w.regions'; store' = w.store'; by_state = λ l. ap (λ v. write (into (in_store w.path) (step.Field f.number_is)) v l (record s0 { store = st })) s.is ∙ w.by_state l; shows = w.shows }))

    abbrev codes : ℕ → List Parameter → List Cell
    codes i qs = parameters_in p (called_plan p tables x) x.line x 8 i qs

    abbrev code_of : Bool → ℕ → Parameter → List Cell
    code_of t i q = if t then [] else guarded x.line of_mask i (parameter_in p (called_plan p tables x) x.line x 8 (of_parameter i) q)

    -- the parameter that is next is none of those behind
    still_none : (i j : ℕ) (q r : Parameter) (rest : List Given) → slice_get x.parameters i ≡ Some q → slice_get x.parameters j ≡ Some r → j < suc i → (IsGiven rest q.to → ⊥) → (j < i → IsGiven rest r.to → ⊥) → IsGiven rest r.to → ⊥
    still_none i j q r rest e f l none before h = by (nat_eq j i) refl
      where
        by : (t : Bool) → nat_eq j i ≡ t → ⊥
        by true u = let same : j ≡ i = eqb-true j i u in let is : Some r ≡ Some q = sym f ∙ (ap (slice_get x.parameters) same ∙ e) in let d : r ≡ q = cc in none (subst (λ (y : Parameter). IsGiven rest y.to) d h)
        by false u = let other : j ≢ i = λ w. absurd (false_true (sym u ∙ eq-eqb j i w)) in before (omega (arith, l, other)) h

    abbrev Goes_past : ℕ → List Slot → List Given → List ℕ → Type 0
    Goes_past end ss rest image = (image' : List ℕ) (rs' : Regions_bytes) (st' : Store) → Entered (with_given ss rest) image' → Reaches [] rs' st' → length image' ≡ length image → Goes_on end rs' image'

    abbrev Goes_through : List Parameter → ℕ → ℕ → List Slot → List Given → List ℕ → Type 0
    Goes_through qs i pc ss rest image = Goes_past (pc + length (codes i qs)) ss rest image

    abbrev Loop : List Parameter → ℕ → Type 0
    Loop qs i = (rest : List Given) (ss : List Slot) (image : List ℕ) (rs : Regions_bytes) (st : Store) (pc : ℕ) → Pending mask i rest → Entered ss image → Reaches rest rs st → Stands code now n pc (codes i qs) → Goes_through qs i pc ss rest image → Goes_on pc rs image

    pub parameters_next : (qs : List Parameter) (i : ℕ) (rest : List Given) (ss : List Slot) (image : List ℕ) (rs : List (Option (List ℕ))) (st : Store) (pc : ℕ) → i + length qs ≡ length x.parameters → ((j : ℕ) → slice_get x.parameters (i + j) ≡ slice_get qs j) → Pending mask i rest → Entered ss image → Reaches rest rs st
        → Stands code now n pc (codes i qs) → Goes_through qs i pc ss rest image → Goes_on pc rs image
    parameters_next [] i rest ss image rs st pc count same w h re has k =
        same_pc p code now n own around under x.line ticks after shown o (with_last (record m { regions = rs }) image) under pc (pc + 0) (omega arith) (by rest w re k)
      where
        by : (rest : List Given) → Pending mask i rest → Reaches rest rs st → Goes_through [] i pc ss rest image → Goes_on (pc + 0) rs image
        by [] w re k = k image rs st h re refl
        by (g ∷ gs) w re k =
            let f = w.all.0 in
            let l = get_below x.parameters (index_of g f) (parameter_of g f) (one_there g f) in
            absurd (w.past (index_of g f) (parameter_of g f) (omega (arith, l, count)) (one_there g f) (inl (sym (one_to g f))))
    parameters_next (q ∷ qs) i rest ss image rs st pc count same w h re has k =
        by (is_output q.sort) refl has k (λ rest ss image rs st pc w h re has k. parameters_next qs (suc i) rest ss image rs st pc (omega (arith, count)) same' w h re has k)
      where
        there : slice_get x.parameters i ≡ Some q
        there = let e : i ≡ i + 0 = omega arith in ap (slice_get x.parameters) e ∙ same 0

        same' : (j : ℕ) → slice_get x.parameters (suc i + j) ≡ slice_get qs j
        same' j = let e : suc i + j ≡ i + suc j = omega arith in ap (slice_get x.parameters) e ∙ same (suc j)

        -- nothing is given to it
        skipped : (IsGiven rest q.to → ⊥) → Pending mask (suc i) rest
        skipped none = record {
          all = w.all;
          once = w.once;
          inputs = w.inputs;
          unmarked = w.unmarked;
          marked = λ j r l e f b. w.marked j r (omega (arith, l)) e f b;
          past = λ j r l e z. still_none i j q r rest there e l none (λ l' z. w.past j r l' e z) z;
        }

        to_next : (t : Bool) (image' : List ℕ) (rs' : Regions_bytes) → Goes_on (pc + length (code_of t i q ++ codes (suc i) qs)) rs' image' → Goes_on (pc + length (code_of t i q) + length (codes (suc i) qs)) rs' image'
        to_next t image' rs' z = let l = length-append (code_of t i q) (codes (suc i) qs) in same_pc p code now n own around under x.line ticks after shown o (with_last (record m { regions = rs' }) image') under (pc + length (code_of t i q) + length (codes (suc i) qs)) (pc + length (code_of t i q ++ codes (suc i) qs)) (omega (arith, l)) z

        onwards : (t : Bool) (rest' : List Given) (ss' : List Slot) (image' : List ℕ) (rs' : Regions_bytes) (st' : Store) → Loop qs (suc i) → Pending mask (suc i) rest' → Entered ss' image' → Reaches rest' rs' st' → length image' ≡ length image → with_given ss' rest' ≡ with_given ss rest → Stands code now n (pc + length (code_of t i q)) (codes (suc i) qs)
            → Goes_past (pc + length (code_of t i q ++ codes (suc i) qs)) ss rest image → Goes_on (pc + length (code_of t i q)) rs' image'
        onwards t rest' ss' image' rs' st' again w' h' re' long' is has k =
            again rest' ss' image' rs' st' (pc + length (code_of t i q)) w' h' re' has
            (λ image2 rs2 st2 h2 re2 long2. to_next t image2 rs2 (k image2 rs2 st2 (subst (λ l. Entered l image2) is h2) re2 (long2 ∙ long')))

        -- what is given to it
        pair : (j : ℕ) (r : Parameter) → slice_get x.parameters j ≡ Some r → r.to ≡ q.to → (j ≡ i) × (r ≡ q)
        pair j r e to =
            let same : j ≡ i = apart j i r q e there to in
            let is : Some r ≡ Some q = sym e ∙ (ap (slice_get x.parameters) same ∙ there) in
            let d : r ≡ q = cc in
            (same, d)

        eight : 8 ≤ length image
        eight = eight_in ss image h

        fits_mask : of_mask + 8 ≤ length bs
        fits_mask = omega (arith, room_block)

        back7 : Stands code now n pc (code_of false i q) → Stands code now n (pc + 7) (parameter_in p (called_plan p tables x) x.line x 8 (of_parameter i) q)
        back7 has = let e : pc + 1 + 1 + 1 + 1 + 1 + 1 + 1 ≡ pc + 7 = omega arith in subst (λ j. Stands code now n j (parameter_in p (called_plan p tables x) x.line x 8 (of_parameter i) q)) e has.1.1.1.1.1.1.1

        behind : (t : Taken ForOne rest q.to) → Pending mask (suc i) t.left
        behind t = record {
          all = t.all;
          once = t.once;
          inputs = λ j r e f z. w.inputs j r e f (t.before r.to z);
          unmarked = λ j r e f z. w.unmarked j r e f (t.before r.to z);
          marked = λ j r l e f b. t.others r.to (λ u. let v = pair j r e u in let same = v.0 in absurd (omega (arith, l, same))) (w.marked j r (omega (arith, l)) e f b);
          past = λ j r l e z. still_none i j q r t.left there e l t.none (λ l' z. w.past j r l' e (t.before r.to z)) z;
        }

        at_end : (k : ℕ) → k ≡ length (parameter_in p (called_plan p tables x) x.line x 8 (of_parameter i) q) → (image' : List ℕ) (rs' : Regions_bytes) → Goes_on (pc + length (code_of false i q)) rs' image' → Goes_on (pc + 7 + k) rs' image'
        at_end k e image' rs' z = same_pc p code now n own around under x.line ticks after shown o (with_last (record m { regions = rs' }) image') under (pc + 7 + k) (pc + length (code_of false i q)) (omega (arith, e)) z

        taken : Taken ForOne rest q.to → Stands code now n pc (code_of false i q ++ codes (suc i) qs) → Goes_past (pc + length (code_of false i q ++ codes (suc i) qs)) ss rest image → Loop qs (suc i) → Goes_on (pc + 7) rs image
        taken t has k again = one t.it t.holds_it refl
          where
            cp : ℕ → Parameter → List Cell
            cp j r = parameter_in p (called_plan p tables x) x.line x 8 (of_parameter j) r

            has_c : Stands code now n (pc + 7) (cp i q)
            has_c = back7 (ends.front code now n pc (code_of false i q) (codes (suc i) qs) has)

            has_r : Stands code now n (pc + length (code_of false i q)) (codes (suc i) qs)
            has_r = ends.back code now n pc (code_of false i q) (codes (suc i) qs) has

            one : (it : Given) → ForOne it → it ≡ t.it → Goes_on (pc + 7) rs image
            one it (one_local f) same =
                let z = pair f.index f.parameter f.there (f.to ∙ (sym (ap recipient f.is) ∙ (ap recipient same ∙ t.is))) in
                let is : t.it ≡ for_local f.local f.slot = sym same ∙ f.is in
                let code_is : cp f.index f.parameter ≡ cp i q = ap (λ j. cp j f.parameter) z.0 ∙ ap (cp i) z.1 in
                given_next it f ss image rs (pc + 7) h (subst (Stands code now n (pc + 7)) (sym code_is) has_c)
                (λ image' h' long'. at_end (length (cp f.index f.parameter)) (ap length code_is) image' rs
                (onwards false t.left (slice_set ss f.local f.slot) image' rs st again (behind t) h'
                (record { shows = re.shows; toward = re.toward ∙ ap (λ o. go_on o (λ _ u. push frame line0 u)) (t.same_writes f.local f.slot is own_path line0 (record s0 { store = st })) }) long' (sym (t.same ss f.local f.slot is)) has_r k))
            one it (one_variable f) same =
                let z = pair f.index f.parameter f.there (f.to ∙ (sym (ap recipient f.is) ∙ (ap recipient same ∙ t.is))) in
                let is : t.it ≡ for_variable f.number_is f.value = sym same ∙ f.is in
                let code_is : cp f.index f.parameter ≡ cp i q = ap (λ j. cp j f.parameter) z.0 ∙ ap (cp i) z.1 in
                variable_given it f ss image rs st (pc + 7) h re.shows (subst (Stands code now n (pc + 7)) (sym code_is) has_c)
                (λ w'. at_end (length (cp f.index f.parameter)) (ap length code_is) image w'.regions'
                (onwards false t.left ss image w'.regions' w'.store' again (behind t) h
                (record { shows = w'.shows; toward = re.toward ∙ ap (λ o. go_on o (λ _ u. push frame line0 u)) (t.writes f.number_is f.value is own_path line0 (record s0 { store = st }) ∙ first_write w') }) refl (sym (t.same_slots ss f.number_is f.value is)) has_r k))
              where
                first_write : (w' : Left_own f.number_is f.value rs st) → set_variables own_path (for_variable f.number_is f.value ∷ t.left) line0 (record s0 { store = st }) ≡ set_variables own_path t.left line0 (record s0 { store = w'.store' })
                first_write w' =
                    ap (λ o. set_variables o (for_variable f.number_is f.value ∷ t.left) line0 (record s0 { store = st })) w'.path_is
                    ∙ (ap (λ o. go_on o (λ _ u. set_variables (Some w'.path) t.left line0 u)) (w'.by_state line0)
                    ∙ ap (λ o. set_variables o t.left line0 (record s0 { store = w'.store' })) (sym w'.path_is))

        by : (t : Bool) → is_output q.sort ≡ t → Stands code now n pc (code_of t i q ++ codes (suc i) qs) → Goes_past (pc + length (code_of t i q ++ codes (suc i) qs)) ss rest image → Loop qs (suc i) → Goes_on pc rs image
        by true e has k again =
            same_pc p code now n own around under x.line ticks after shown o (with_last (record m { regions = rs }) image) under pc (pc + 0) (omega arith)
            (onwards true rest ss image rs st again (skipped (w.inputs i q there e)) h re refl refl (ends.back code now n pc [] (codes (suc i) qs) has) k)
        by false e has k again =
            guarded_next p code now n own around under x.line ticks after shown o base d block bs image (record m { regions = rs }) of_mask mask i pc (parameter_in p (called_plan p tables x) x.line x 8 (of_parameter i) q) (block_at rs) h.own_word eight fits_mask mask_kept (let l = get_below x.parameters i q there in omega (arith, l, few)) (ends.front code now n pc (code_of false i q) (codes (suc i) qs) has)
            (λ set. taken (take_out ForOne rest q.to w.all w.once (w.marked i q (omega arith) there e set)) has k again)
            (λ unset. onwards false rest ss image rs st again (skipped (w.unmarked i q there unset)) h re refl refl (ends.back code now n pc (code_of false i q) (codes (suc i) qs) has) k)
