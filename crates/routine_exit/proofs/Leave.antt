-- What a routine leaves in the block of its call.
use Rattle.std.proofs.Common.{◌≡◌, ◌≢◌, ◌≤◌, ◌<◌, ◌⊎◌, ℕ, zero, suc, ◌+◌, ◌-◌, ℤ, pos, Bool, true, false, List, [], ◌∷◌, ◌++◌, length, Option, Some, None, refl, sym, ap, ◌∙◌, subst, arith, inl, inr, ⊎_elim, length-append}
use Rattle.std.specs.Prelude.{if◌then◌else◌, slice_get, slice_set, slice_range, nat_eq}
use Rattle.std.proofs.lemmas.Bool.{eqb-true, eq-eqb}
use Rattle.mem_image.specs.Image.{replaced, written}
use Rattle.mem_image.proofs.PartLaws.{length-replaced, holds as range_replaced, length-range, range_of_range}
use Rattle.mem_layout.specs.store_bytes.StoreLaws.{Keeps as Keeps_bytes, IsAddress}
use Rattle.mem_layout.proofs.store_bytes.Leaves.{keeps_part, holds_written, value_is, keeps_written, length-written}
use Rattle.stack_code.specs.Memory.{image_at, copy as copy_bytes, Memory, write as write_bytes, read as read_bytes, kept, reference_of}
use Rattle.routine_entry.proofs.Entry.{last_get, block_read, with_last, at_last, last_read, front_get, BlockThere, block_next, guarded_next, local_next, same_pc, Next, at_cell, get_below}
use Rattle.memory_access.proofs.NumberKinds.{KindIs, kind_shape, word_sort, no_instance}
use Rattle.shown_memory.proofs.Locals.{number_spelled, number_size, block_there, block_put, below_put, slot_at, end_above, some_once}
use Rattle.st_meaning.specs.st_frame.Promise.Types.{IsNoInstance, IsHeld}
use Rattle.st_meaning.specs.st_frame.Promise.Declarations.{Each, LocalIs, RoutineIs, ParameterIs}
use Rattle.st_types.specs.declared.elem.Elem.{Elem}
use Rattle.st_types.specs.Elem.{bytes}
use Rattle.st_types.specs.Range.{Fits}
use Rattle.st_types.specs.declared.st_type.StType.{StType}
use Rattle.st_types.specs.declared.st_type.StType.TheOpen.{StType-F}
use Rattle.st_types.specs.declared.elem.Elem.TheVariants as elem
use Rattle.st_types.specs.declared.st_type.StType.TheVariants as type
use Rattle.plc_num.specs.Wrapping.{wrapped}
use Rattle.plc_num.proofs.WrappingLaws.{wrapped-wraps}
use Rattle.mem_image.specs.Laws.{AreApart}
use Rattle.st_tree.specs.declared.declaration.SectionSort.{SectionSort}
use Rattle.st_tree.specs.declared.path.Path.{Path}
use Rattle.st_tree.specs.declared.declaration.SectionSort.TheVariants as sort
use Rattle.st_values.specs.Program.{Variable, Recipient, to_local, to_variable, Parameter, Routine, Program}
use Rattle.st_values.specs.Value.{Value, number, reference}
use Rattle.st_values.specs.Shape.{Shape, Elementary, shape_of, region_shape, Reference, Interface}
use Rattle.st_values.specs.ShapeLaws.{Unfolds}
use Rattle.st_meaning.specs.State.{Slot, holds, bound, unbound, Frame, State, Outcome, held_by, frame_value, in_store}
use Rattle.st_meaning.specs.Call.{is_in_out, is_output}
use Rattle.st_meaning.specs.st_frame.Promise.Calls.{recipient_variable}
use Rattle.st_meaning.proofs.st_frame.Unfolded.{opened, within_bound}
use Rattle.stack_code.specs.declared.machine.Frame.{Frame as At}
use Rattle.stack_code.specs.declared.memory.Space.TheVariants.{Locals}
use Rattle.stack_code.specs.declared.memory.Address.{Address}
use Rattle.stack_code.specs.declared.memory.Word.{Word}
use Rattle.stack_code.specs.declared.code.MachineCode.{MachineCode}
use Rattle.stack_code.specs.Steps.{Goes, ◌>>=◌ as ◌>>=step◌}
use Rattle.stack_code.specs.Machine.{Config, leave}
use Rattle.stack_code.specs.declared.memory.Word.TheVariants as word
use Rattle.stack_code.specs.declared.op.Op.TheVariants as op
use Rattle.stack_code.specs.Machine as machine
use Rattle.mem_layout.specs.store_bytes.Spells.{Holds, Spells, Refers}
use Rattle.mem_layout.specs.store_bytes.Place.{size}
use Rattle.code_cells.specs.declared.cell.Cell.{Cell}
use Rattle.code_cells.specs.declared.cell.Cell.TheVariants.{Does as does}
use Rattle.code_rules.specs.Places.{bytes_of, is_large, kind_in, result_place, width, size_in, local_offset, locals_end, of_parameter, of_mask, of_result, of_own}
use Rattle.code_rules.specs.Bodies.{in_block, guarded, output_out, outputs_out, result_out, first_out, local_at}
use Rattle.code_rules.specs.Plan.{Tables}
use Rattle.code_rules.specs.Routines.{called_plan}
use Rattle.shown_memory.specs.Shown.{Kept, Open, Layout, layouts, SlotShown, SlotsShown, Shown, FramesShown, kept_number, value_word, path_word, word_at, Small, Located, located}
use Rattle.shown_memory.specs.Passing.{Keeps, has_bit, with_block, BlockLeft, IsWord, OwnHeld, Room, IsRoom, Asks, Below, RoomIs, RoomLeft, ResultRoom, RoomsAre, RoomsApart, ResultAsked, Filled, RestLeft}
use Rattle.memory_access.proofs.Likes.{local_there, length_set}
use Rattle.memory_access.proofs.KeptAddresses.{refers_kept}
use Rattle.memory_access.proofs.Worded.{large_no_word}
use Rattle.memory_access.proofs.Arguments.{eights_apart}
use Rattle.code_rules.specs.Code.{fetch_code, is_held}
use Rattle.mem_layout.proofs.store_bytes.Image.{spelling_laws}
use Rattle.mem_layout.proofs.store_bytes.Suits.{whole_range}
use Rattle.value_runs.proofs.Ends.{Leads, Stands}
use Rattle.value_runs.proofs.Ends as ends
use Rattle.routine_exit.proofs.Given.{each_at}

clash : true ≡ false → ⊥
clash e = cc

front_set : {A : Type 0} (xs ys : List A) (i : ℕ) (x y : A) → slice_get xs i ≡ Some y → slice_set (xs ++ ys) i x ≡ slice_set xs i x ++ ys
front_set [] ys i x y e = cc
front_set (z ∷ zs) ys zero x y e = refl
front_set (z ∷ zs) ys (suc i) x y e = ap (λ l. z ∷ l) (front_set zs ys i x y e)

module _ (p : Program) (base : ℕ) (is_there : ℕ → Bool) (now : ℕ) (k : Open) (ks : List Open) (block : ℕ) (rest : List Kept) where
  abbrev pub Block : List ℕ → State → Memory → Type 0
  Block bs s m = Shown p base is_there now (with_block p base k block bs rest ∷ ks) m s

  -- a word that is written to the block
  pub record Put (bs : List ℕ) (at : ℕ) (z : ℤ) (image : List ℕ) (s : State) (m : Memory) : Type 0 where
    pub left : List ℕ
    pub memory : Memory
    pub by_bytes : write_bytes elem.Ulint (with_last m image) (record { space = Locals; index = base + length ks; offset = block + at }) z ≡ Goes (with_last memory image)
    pub long : length left ≡ length bs
    pub word_there : Holds elem.Ulint z left at
    pub others : (j n : ℕ) → AreApart at 8 j n → j + n ≤ length bs → slice_range left j (j + n) ≡ slice_range bs j (j + n)
    pub shown : Block left s memory

  pub put : (bs : List ℕ) (at : ℕ) (z : ℤ) (last : List ℕ) (s : State) (m : Memory) → Block bs s m → at + 8 ≤ length bs → Fits elem.Ulint z → Put bs at z last s m
  put bs at z last s m sh h f =
      let b = block_there p base k ks s.frames m.locals block bs rest sh.frames in
      let image = b.0 in
      let image' = written elem.Ulint image (block + at) z in
      let within_b = b.2 in
      let fit : block + at + 8 ≤ length image = omega (arith, h, within_b) in
      let keeps = keeps_written elem.Ulint z image (block + at) fit in
      let long = length-written elem.Ulint z image (block + at) fit in
      let stands = holds_written elem.Ulint z image (block + at) f fit in
      record {
        left = slice_range image' block (block + length bs);
        memory = record m { locals = slice_set m.locals (base + length ks) image' };
        by_bytes = ap (λ x. x >>=step λ i. Goes (record (with_last m last) { locals = slice_set (m.locals ++ last ∷ []) (base + length ks) (written elem.Ulint i (block + at) z) })) (local_there (with_last m last) (base + length ks) (block + at) 8 image (front_get m.locals (last ∷ []) (base + length ks) image b.1) fit)
            ∙ ap (λ l. Goes (record m { locals = l })) (front_set m.locals (last ∷ []) (base + length ks) image' image b.1);
        long = length-range image' block (length bs) (omega (arith, long, within_b));
        word_there = record { fits = f; stands = range_of_range image' block (length bs) at 8 h ∙ stands.stands };
        others = λ j n apart l. range_of_range image' block (length bs) j n l ∙ (keeps.by (block + j) n (moved_apart j n apart) ∙ (sym (range_of_range image block (length bs) j n l) ∙ ap (λ x. slice_range x j (j + n)) b.3));
        shown = record { regions = sh.regions; frames = block_put p base k ks s.frames m.locals block bs rest image image' at 8 sh.frames b.1 long keeps h; deep = length_set m.locals (base + length ks) image' ∙ sh.deep; moment = sh.moment };
      }
    where
      moved_apart : (j n : ℕ) → AreApart at 8 j n → AreApart (block + at) 8 (block + j) n
      moved_apart j n h = ⊎_elim (λ l. inl (omega (arith, l))) (λ l. inr (omega (arith, l))) h

  -- bytes that are copied to a room in the block
  pub record PutBytes (bs : List ℕ) (at n : ℕ) (new image : List ℕ) (off : ℕ) (s : State) (m : Memory) : Type 0 where
    pub left : List ℕ
    pub memory : Memory
    pub by_bytes : copy_bytes n (with_last m image) (at_last m off) (record { space = Locals; index = base + length ks; offset = block + at }) ≡ Goes (with_last memory image)
    pub long : length left ≡ length bs
    pub there : slice_range left at (at + n) ≡ new
    pub others : (j i : ℕ) → AreApart at n j i → j + i ≤ length bs → slice_range left j (j + i) ≡ slice_range bs j (j + i)
    pub shown : Block left s memory

  pub put_bytes : (bs : List ℕ) (at off n : ℕ) (last : List ℕ) (s : State) (m : Memory) → Block bs s m → at + n ≤ length bs → off + n ≤ length last → PutBytes bs at n (slice_range last off (off + n)) last off s m
  put_bytes bs at off n last s m sh h fits =
      let b = block_there p base k ks s.frames m.locals block bs rest sh.frames in
      let image = b.0 in
      let new = slice_range last off (off + n) in
      let image' = replaced image (block + at) new in
      let within_b = b.2 in
      let fit : block + at + n ≤ length image = omega (arith, h, within_b) in
      let new_long : length new ≡ n = length-range last off n fits in
      let keeps : Keeps_bytes image image' (block + at) n = subst (Keeps_bytes image image' (block + at)) new_long (keeps_part image new (block + at) (omega (arith, fit, new_long))) in
      let long : length image' ≡ length image = length-replaced image new (block + at) (omega (arith, fit, new_long)) in
      let stands : slice_range image' (block + at) (block + at + n) ≡ new = subst (λ i. slice_range image' (block + at) (block + at + i) ≡ new) new_long (range_replaced image new (block + at) (omega (arith, fit, new_long))) in
      record {
        left = slice_range image' block (block + length bs);
        memory = record m { locals = slice_set m.locals (base + length ks) image' };
        by_bytes = ap (λ x. x >>=step λ here. image_at (with_last m last) (record { space = Locals; index = base + length ks; offset = block + at }) n >>=step λ there. Goes (record (with_last m last) { locals = slice_set (m.locals ++ last ∷ []) (base + length ks) (replaced there (block + at) (slice_range here off (off + n))) })) (local_there (with_last m last) (length m.locals) off n last (last_get m.locals last) fits)
            ∙ (ap (λ x. x >>=step λ there. Goes (record (with_last m last) { locals = slice_set (m.locals ++ last ∷ []) (base + length ks) (replaced there (block + at) new) })) (local_there (with_last m last) (base + length ks) (block + at) n image (front_get m.locals (last ∷ []) (base + length ks) image b.1) fit)
            ∙ ap (λ l. Goes (record m { locals = l })) (front_set m.locals (last ∷ []) (base + length ks) image' image b.1));
        long = length-range image' block (length bs) (omega (arith, long, within_b));
        there = range_of_range image' block (length bs) at n h ∙ stands;
        others = λ j i apart l. range_of_range image' block (length bs) j i l ∙ (keeps.by (block + j) i (moved_apart j i apart) ∙ (sym (range_of_range image block (length bs) j i l) ∙ ap (λ x. slice_range x j (j + i)) b.3));
        shown = record { regions = sh.regions; frames = block_put p base k ks s.frames m.locals block bs rest image image' at n sh.frames b.1 long keeps h; deep = length_set m.locals (base + length ks) image' ∙ sh.deep; moment = sh.moment };
      }
    where
      moved_apart : (j i : ℕ) → AreApart at n j i → AreApart (block + at) n (block + j) i
      moved_apart j i h = ⊎_elim (λ l. inl (omega (arith, l))) (λ l. inr (omega (arith, l))) h

  -- bytes that are copied to what is kept below the block
  pub record PutBelow (bs : List ℕ) (y : Kept) (behind : List Kept) (n off : ℕ) (image : List ℕ) (s : State) (m : Memory) : Type 0 where
    pub memory : Memory
    pub left : List ℕ
    pub by_bytes : copy_bytes n (with_last m image) (at_last m off) (record { space = Locals; index = base + length ks; offset = y.from }) ≡ Goes (with_last memory image)
    pub long : length left ≡ length y.bytes
    pub there : left ≡ slice_range image off (off + n)
    pub shown : Shown p base is_there now (with_block p base k block bs (record { from = y.from; bytes = left } ∷ behind) ∷ ks) memory s

  put_below : (bs : List ℕ) (y : Kept) (behind : List Kept) (off n : ℕ) (last : List ℕ) (s : State) (m : Memory) → Shown p base is_there now (with_block p base k block bs (y ∷ behind) ∷ ks) m s → length y.bytes ≡ n → off + n ≤ length last → PutBelow bs y behind n off last s m
  put_below bs y behind off n last s m sh room fits =
      let b = block_there p base k ks s.frames m.locals block bs (y ∷ behind) sh.frames in
      let image = b.0 in
      let within_b = b.2 in
      let new = slice_range last off (off + n) in
      let image' = replaced image y.from new in
      let under = below_of s.frames sh.frames in
      let fit : y.from + n ≤ length image = omega (arith, under, within_b, room) in
      let new_long : length new ≡ n = length-range last off n fits in
      let same_long : length new ≡ length y.bytes = new_long ∙ sym room in
      let keeps : Keeps_bytes image image' y.from (length y.bytes) = subst (Keeps_bytes image image' y.from) same_long (keeps_part image new y.from (omega (arith, fit, new_long))) in
      let long : length image' ≡ length image = length-replaced image new y.from (omega (arith, fit, new_long)) in
      let stands : slice_range image' y.from (y.from + length y.bytes) ≡ new = subst (λ i. slice_range image' y.from (y.from + i) ≡ new) same_long (range_replaced image new y.from (omega (arith, fit, new_long))) in
      record {
        memory = record m { locals = slice_set m.locals (base + length ks) image' };
        left = slice_range image' y.from (y.from + length y.bytes);
        by_bytes = ap (λ x. x >>=step λ here. image_at (with_last m last) (record { space = Locals; index = base + length ks; offset = y.from }) n >>=step λ there. Goes (record (with_last m last) { locals = slice_set (m.locals ++ last ∷ []) (base + length ks) (replaced there y.from (slice_range here off (off + n))) })) (local_there (with_last m last) (length m.locals) off n last (last_get m.locals last) fits)
            ∙ (ap (λ x. x >>=step λ there. Goes (record (with_last m last) { locals = slice_set (m.locals ++ last ∷ []) (base + length ks) (replaced there y.from new) })) (local_there (with_last m last) (base + length ks) y.from n image (front_get m.locals (last ∷ []) (base + length ks) image b.1) fit)
            ∙ ap (λ l. Goes (record m { locals = l })) (front_set m.locals (last ∷ []) (base + length ks) image' image b.1));
        long = length-range image' y.from (length y.bytes) (omega (arith, long, fit, room));
        there = stands;
        shown = record { regions = sh.regions; frames = below_put p base k ks s.frames m.locals block bs y behind image image' sh.frames b.1 long keeps; deep = length_set m.locals (base + length ks) image' ∙ sh.deep; moment = sh.moment };
      }
    where
      below_of : (fs : List Frame) → FramesShown p base (with_block p base k block bs (y ∷ behind) ∷ ks) fs m.locals → y.from + length y.bytes ≤ block
      below_of [] h = absurd h
      below_of (f ∷ fs) h = h.0.kept.1.0.below

  block_low : (bs : List ℕ) (s : State) (m : Memory) → Block bs s m → BlockThere m (base + length ks) block bs
  block_low bs s m sh = by s.frames sh.frames
    where
      by : (fs : List Frame) → FramesShown p base (with_block p base k block bs rest ∷ ks) fs m.locals → BlockThere m (base + length ks) block bs
      by [] h = absurd h
      by (f ∷ fs) h =
          let b = block_there p base k ks (f ∷ fs) m.locals block bs rest h in
          let a = h.0.kept.0.below in
          let r = h.0.room in
          let l = h.0.short in
          record { image = b.0; there = b.1; inside = b.2; stands = b.3; low = omega (arith, a, r, l) }

  module _ (code : MachineCode) (n : ℕ) (own : Option Address) (around : List At) (under : List Word) (x : Routine) {A : Type 0} (after : A → State → Memory → Config) (shown : A → State → Memory → Type 0) (o : Outcome A) (image : List ℕ) (mask : ℕ) (ticks : ℕ) (s : State)
      (own_word : Holds elem.Ulint (pos (kept_number p base (record { space = Locals; index = base + length ks; offset = block }))) image 0) (eight : 8 ≤ length image) where
    abbrev On : ℕ → Memory → Type 0
    On pc m = Next p code now n own around under x.line ticks after shown o pc under (with_last m image)

    -- the number of a local to the block
    number_out : (at off pc : ℕ) (e : Elem) (z : ℤ) (bs : List ℕ) (m : Memory) → Block bs s m → at + 8 ≤ length bs → off + bytes e ≤ length image → Holds e z image off
        → Stands code now n pc (does (op.Local off) x.line ∷ (does (op.Load e) x.line ∷ (in_block x.line at ++ does (op.Store elem.Ulint) x.line ∷ [])))
        → ((w : Put bs at (wrapped elem.Ulint z) image s m) → On (pc + 6) w.memory) → On pc m
    number_out at off pc e z bs m sh fit room held has h =
        let w = put bs at (wrapped elem.Ulint z) image s m sh fit (let f = wrapped-wraps elem.Ulint z in f.fits) in
        local_next p code now n own around under x.line ticks after shown o m image off pc under (has.0, tt)
        (ends.step_leads code now (op.Load e, x.line) has.1.0
        (ends.goes_leads code now (read_bytes e (with_last m image) (at_last m off)) z _ (last_read e m image off room ∙ ap Goes (value_is e z image off held))
        (block_next p code now n own around under x.line ticks after shown o base (length ks) block bs image m at (pc + 1 + 1) (word.Number z ∷ under) (block_low bs s m sh) own_word eight (omega (arith, fit)) (has.1.1.0, (has.1.1.1.0, (has.1.1.1.1.0, tt)))
        (ends.step_leads code now (op.Store elem.Ulint, x.line) has.1.1.1.1.1.0
        (ends.goes_leads code now (write_bytes elem.Ulint (with_last m image) (record { space = Locals; index = base + length ks; offset = block + at }) (wrapped elem.Ulint z)) (with_last w.memory image) _ w.by_bytes
        (same_pc p code now n own around under x.line ticks after shown o (with_last w.memory image) under (pc + 1 + 1 + 1 + 1 + 1 + 1) (pc + 6) (omega arith) (h w)))))))

    -- a reference of a local to the block
    reference_out : (at off pc : ℕ) (w : Word) (z : ℤ) (bs : List ℕ) (m : Memory) → Block bs s m → at + 8 ≤ length bs → off + 8 ≤ length image → Holds elem.Ulint z image off → reference_of z ≡ w → kept w ≡ Goes z → machine.reference (w ∷ under) ≡ Goes (w, under)
        → Stands code now n pc (does (op.Local off) x.line ∷ (does op.LoadRef x.line ∷ (in_block x.line at ++ does op.StoreRef x.line ∷ [])))
        → ((u : Put bs at z image s m) → On (pc + 6) u.memory) → On pc m
    reference_out at off pc w z bs m sh fit room held decodes keeps refers has h =
        let u = put bs at z image s m sh fit held.fits in
        local_next p code now n own around under x.line ticks after shown o m image off pc under (has.0, tt)
        (ends.step_leads code now (op.LoadRef, x.line) has.1.0
        (ends.goes_leads code now (read_bytes elem.Ulint (with_last m image) (at_last m off)) z _ (last_read elem.Ulint m image off room ∙ ap Goes (value_is elem.Ulint z image off held))
        (subst (λ v. Next p code now n own around under x.line ticks after shown o (pc + 1 + 1) (v ∷ under) (with_last m image)) (sym decodes)
        (block_next p code now n own around under x.line ticks after shown o base (length ks) block bs image m at (pc + 1 + 1) (w ∷ under) (block_low bs s m sh) own_word eight (omega (arith, fit)) (has.1.1.0, (has.1.1.1.0, (has.1.1.1.1.0, tt)))
        (ends.step_leads code now (op.StoreRef, x.line) has.1.1.1.1.1.0
        (ends.goes_leads code now (machine.reference (w ∷ under)) (w, under) _ refers
        (ends.goes_leads code now (kept w) z _ keeps
        (ends.goes_leads code now (write_bytes elem.Ulint (with_last m image) (record { space = Locals; index = base + length ks; offset = block + at }) z) (with_last u.memory image) _ u.by_bytes
        (same_pc p code now n own around under x.line ticks after shown o (with_last u.memory image) under (pc + 1 + 1 + 1 + 1 + 1 + 1) (pc + 6) (omega arith) (h u))))))))))

    -- the bytes of a large local to the room whose address the block has
    copied_out : (at off size_is pc : ℕ) (to : Address) (bs : List ℕ) (m m' : Memory) → Block bs s m → at + 8 ≤ length bs → Holds elem.Ulint (pos (kept_number p base to)) bs at → reference_of (pos (kept_number p base to)) ≡ word.Address to
        → copy_bytes size_is (with_last m image) (at_last m off) to ≡ Goes (with_last m' image)
        → Stands code now n pc (does (op.Local off) x.line ∷ (in_block x.line at ++ (does op.LoadRef x.line ∷ (does (op.Copy size_is) x.line ∷ []))))
        → On (pc + 6) m' → On pc m
    copied_out at off size_is pc to bs m m' sh fit given decodes copies has h =
        let b = block_low bs s m sh in
        local_next p code now n own around under x.line ticks after shown o m image off pc under (has.0, tt)
        (block_next p code now n own around under x.line ticks after shown o base (length ks) block bs image m at (pc + 1) (word.Address (at_last m off) ∷ under) b own_word eight (omega (arith, fit)) (has.1.0, (has.1.1.0, (has.1.1.1.0, tt)))
        (ends.step_leads code now (op.LoadRef, x.line) has.1.1.1.1.0
        (ends.goes_leads code now (read_bytes elem.Ulint (with_last m image) (record { space = Locals; index = base + length ks; offset = block + at })) (pos (kept_number p base to)) _ (block_read p code now n own around under x.line ticks after shown o (base + length ks) block bs image m at (pos (kept_number p base to)) b fit given)
        (subst (λ w. Next p code now n own around under x.line ticks after shown o (pc + 1 + 1 + 1 + 1 + 1) (w ∷ (word.Address (at_last m off) ∷ under)) (with_last m image)) (sym decodes)
        (ends.step_leads code now (op.Copy size_is, x.line) has.1.1.1.1.1.0
        (ends.goes_leads code now (copy_bytes size_is (with_last m image) (at_last m off) to) (with_last m' image) _ copies
        (same_pc p code now n own around under x.line ticks after shown o (with_last m' image) under (pc + 1 + 1 + 1 + 1 + 1 + 1) (pc + 6) (omega arith) h)))))))

  -- a local that is a reference
  held_slot : (ls : List Layout) (v : Variable) (slot : Slot) (image : List ℕ) (off : ℕ) → is_in_out v.sort ≡ false → IsHeld v.kind → SlotShown p base ls v slot image off → (o : Option Path) × (w : ℕ) × (slot ≡ holds (reference o)) × Refers (region_shape p) o w × Holds elem.Ulint (pos w) image off × (width p v ≡ 8)
  held_slot ls v (holds w) image off not held h = by v.kind held h.1.0 (within_bound p v.kind h.1.0 h.1.1) h.1.2 (ap (λ b. if b then 8 else size_in (shape_of p v.kind)) not ∙ ap size_in h.1.1)
    where
      one : (sh : Shape) → IsAddress sh → Spells (region_shape p) sh w image off → width p v ≡ size sh → (o : Option Path) × (u : ℕ) × (holds w ≡ holds (reference o)) × Refers (region_shape p) o u × Holds elem.Ulint (pos u) image off × (width p v ≡ 8)
      one (Reference c name) a h wide = (h.0, h.2.word, ap holds h.1, h.2.refers, h.2.holds, wide)
      one (Interface c name) a h wide = (h.0, h.2.word, ap holds h.1, h.2.refers, h.2.holds, wide)
      one sh a h wide = absurd a

      by : (t : StType) → IsHeld t → (sh : Shape) → Unfolds p t sh → Spells (region_shape p) sh w image off → width p v ≡ size sh → (o : Option Path) × (u : ℕ) × (holds w ≡ holds (reference o)) × Refers (region_shape p) o u × Holds elem.Ulint (pos u) image off × (width p v ≡ 8)
      by (type.Reference c) i sh u h wide = let o = opened p (type.Reference c) (StType-F.Reference c) sh (type.outs-Reference c) u in one sh (subst IsAddress (sym o.1) tt) h wide
      by (type.Interface c) i sh u h wide = let o = opened p (type.Interface c) (StType-F.Interface c) sh (type.outs-Interface c) u in one sh (subst IsAddress (sym o.1) tt) h wide
      by t i sh u h wide = absurd i
  held_slot ls v (bound spot) image off not held h = absurd (clash (sym h.0 ∙ not))
  held_slot ls v unbound image off not held h = absurd (clash (sym h.0 ∙ not))

  -- a local that is a number
  plain_slot : (ls : List Layout) (v : Variable) (slot : Slot) (image : List ℕ) (off : ℕ) (e : Elem) → is_in_out v.sort ≡ false → KindIs v.kind e → SlotShown p base ls v slot image off → (z : ℤ) × (slot ≡ holds (number z)) × Holds e z image off × (width p v ≡ bytes e)
  plain_slot ls v (holds w) image off e not kind h =
      let sh = h.1.0 in
      let n = kind_shape p v.kind e sh kind (within_bound p v.kind sh h.1.1) in
      let z = number_spelled (region_shape p) sh e w image off n h.1.2 in
      let wide : width p v ≡ bytes e = ap (λ b. if b then 8 else size_in (shape_of p v.kind)) not ∙ (ap size_in h.1.1 ∙ number_size sh e n) in
      (z.0, ap holds z.1, z.2, wide)
  plain_slot ls v (bound spot) image off e not kind h = absurd (clash (sym h.0 ∙ not))
  plain_slot ls v unbound image off e not kind h = absurd (clash (sym h.0 ∙ not))

  keeps_moved : (w : Word) (bs left : List ℕ) (at j : ℕ) → ((j n : ℕ) → AreApart at 8 j n → j + n ≤ length bs → slice_range left j (j + n) ≡ slice_range bs j (j + n)) → AreApart at 8 j 8 → j + 8 ≤ length bs → Keeps w bs j → Keeps w left j
  keeps_moved w bs left at j others apart fit h = record { z = h.z; is = h.is; holds_it = record { fits = h.holds_it.fits; stands = others j 8 apart fit ∙ h.holds_it.stands } }

  own_same : (o : Option ℤ) (bs left : List ℕ) → slice_range left of_own (of_own + 8) ≡ slice_range bs of_own (of_own + 8) → OwnHeld o bs → OwnHeld o left
  own_same None bs left e h = tt
  own_same (Some z) bs left e h = record { fits = h.fits; stands = e ∙ h.stands }

  value_kept_as : (w : Value) (z : ℤ) (a : Address) (v : Value) (left : List ℕ) (at : ℕ) → v ≡ w → ((a : Address) → kept (value_word p base a w) ≡ Goes z) → Holds elem.Ulint z left at → Keeps (value_word p base a v) left at
  value_kept_as w z a v left at e k h = subst (λ y. Keeps (value_word p base a y) left at) (sym e) (record { z = z; is = k a; holds_it = h })

  held_once : (slot : Slot) (o : Option Slot) (w v : Value) → o ≡ Some slot → slot ≡ holds w → held_by o ≡ Some v → v ≡ w
  held_once slot o w v e q h = let is : Some v ≡ Some w = sym h ∙ (ap held_by e ∙ ap (λ y. held_by (Some y)) q) in some_once is

  module _ (tables : Tables) (code : MachineCode) (n : ℕ) (own : Option Address) (around : List At) (under : List Word) (x : Routine) {A : Type 0} (after : A → State → Memory → Config) (shown : A → State → Memory → Type 0) (o : Outcome A) (image : List ℕ) (mask : ℕ) (ticks : ℕ) (s : State)
      (own_word : Holds elem.Ulint (pos (kept_number p base (record { space = Locals; index = base + length ks; offset = block }))) image 0) (room : locals_end p 8 x.locals ≤ length image) (f : Frame) (slots : SlotsShown p base (layouts (k ∷ ks)) x.locals f.locals image 8) (ok : RoutineIs p x)
      (bytes0 : List ℕ) (room_size : 24 ≤ length bytes0) (asked : (i : ℕ) → i < result_place → has_bit mask i ≡ true → of_parameter i + 8 ≤ length bytes0) (small : Small p) (few : length x.parameters < result_place) (asks : Asks)
      (rooms_are : RoomsAre p base x (record { space = Locals; index = base + length ks; offset = block }) bytes0 mask rest asks) where
    asked_at : (i : ℕ) (q : Parameter) → slice_get x.parameters i ≡ Some q → has_bit mask i ≡ true → of_parameter i + 8 ≤ length bytes0
    asked_at i q e set = asked i (let g = get_below x.parameters i q e in omega (arith, g, few)) set

    eight : 8 ≤ length image
    eight = let l = end_above p base x.locals 8 in omega (arith, l, room)

    abbrev At_pc : ℕ → Memory → Type 0
    At_pc pc m = Next p code now n own around under x.line ticks after shown o pc under (with_last m image)

    pub record Leaving (i : ℕ) (bs : List ℕ) (m : Memory) : Type 0 where
      pub long : length bs ≡ length bytes0
      pub mask_kept : Holds elem.Ulint (pos mask) bs of_mask
      pub own_stays : OwnHeld asks.own bs
      pub shows : Block bs s m
      pub outputs : (j c : ℕ) (q : Parameter) (v : Value) (a : Address) → j < i → slice_get x.parameters j ≡ Some q → q.sort ≡ sort.Output → q.to ≡ to_local c → has_bit mask j ≡ true → frame_value (Some f) c ≡ Some v → IsWord v → Keeps (value_word p base a v) bs (of_parameter j)
      -- the words that lead to rooms stay; the rooms of outputs that have been left are filled
      pub words : (r : Room) → IsRoom asks.rooms r → slice_range bs (of_parameter r.number) (of_parameter r.number + 8) ≡ slice_range bytes0 (of_parameter r.number) (of_parameter r.number + 8)
      pub filled : (r : Room) → IsRoom asks.rooms r → r.number < i → Filled p base x.parameters f bs r
      pub result_word : slice_range bs of_result (of_result + 8) ≡ slice_range bytes0 of_result (of_result + 8)

    abbrev code_of : Bool → ℕ → Parameter → List Cell
    code_of t i q = if t then guarded x.line of_mask i (output_out p (called_plan p tables x) x.line x 8 (of_parameter i) q) else []

    -- the local of an output
    number_local : (c : ℕ) (v : Variable) (e : Elem) → slice_get x.locals c ≡ Some v → is_in_out v.sort ≡ false → KindIs v.kind e → (z : ℤ) × (slot : Slot) × (slice_get f.locals c ≡ Some slot) × (slot ≡ holds (number z)) × Holds e z image (local_offset p 8 x.locals c) × (local_offset p 8 x.locals c + bytes e ≤ length image)
    number_local c v e there not kind =
        let a = slot_at p base (layouts (k ∷ ks)) x.locals f.locals image 8 c v slots there in
        let z = plain_slot (layouts (k ∷ ks)) v a.0 image (local_offset p 8 x.locals c) e not kind a.2 in
        let last = a.3 in
        let wide = z.3 in
        (z.0, a.0, a.1, z.1, z.2, omega (arith, last, wide, room))

    abbrev out_code : ℕ → StType → ℕ → List Cell
    out_code at t off = result_out (called_plan p tables x) x.line at t (does (op.Local off) x.line ∷ [])

    -- a local that goes to the block
    record OutAt (at : ℕ) (t : StType) (off : ℕ) (w : Value) : Type 0 where
      z : ℤ
      keeps : (a : Address) → kept (value_word p base a w) ≡ Goes z
      runs : (bs : List ℕ) (m : Memory) (pc : ℕ) → Block bs s m → at + 8 ≤ length bs → Stands code now n pc (out_code at t off) → ((u : Put bs at z image s m) → At_pc (pc + length (out_code at t off)) u.memory) → At_pc pc m

    number_code : (t : StType) (e : Elem) (at off : ℕ) → KindIs t e → out_code at t off ≡ does (op.Local off) x.line ∷ (does (op.Load e) x.line ∷ (in_block x.line at ++ does (op.Store elem.Ulint) x.line ∷ []))
    number_code (type.Elementary k) e at off h = ap (λ k. does (op.Local off) x.line ∷ (does (op.Load k) x.line ∷ (in_block x.line at ++ does (op.Store elem.Ulint) x.line ∷ []))) h
    number_code (type.Enumeration n) e at off h = ap (λ k. does (op.Local off) x.line ∷ (does (op.Load k) x.line ∷ (in_block x.line at ++ does (op.Store elem.Ulint) x.line ∷ []))) (sym h)
    number_code t e at off h = absurd h

    held_out : (t : StType) (at off : ℕ) → IsHeld t → out_code at t off ≡ does (op.Local off) x.line ∷ (does op.LoadRef x.line ∷ (in_block x.line at ++ does op.StoreRef x.line ∷ []))
    held_out (type.Reference c) at off h = refl
    held_out (type.Interface c) at off h = refl
    held_out t at off h = absurd h

    word_refers : (o : Option Path) → machine.reference (path_word p base o ∷ under) ≡ Goes (path_word p base o, under)
    word_refers None = refl
    word_refers (Some q) = by (located p base [] (in_store q))
      where
        by : (l : Option Located) → machine.reference (word_at p base l ∷ under) ≡ Goes (word_at p base l, under)
        by None = refl
        by (Some l) = refl

    -- no local is an instance
    local_plain : (c : ℕ) (v : Variable) → slice_get x.locals c ≡ Some v → is_in_out v.sort ≡ false → IsNoInstance v.kind
    local_plain c v there not = by x.locals c ok.locals there
      where
        by : (vs : List Variable) (c : ℕ) → Each (LocalIs p) vs → slice_get vs c ≡ Some v → IsNoInstance v.kind
        by [] c h e = cc
        by (y ∷ vs) zero h e = let d : y ≡ v = cc in let a = subst (LocalIs p) d h.0 not in no_instance p v.kind a.0 (within_bound p v.kind a.0 a.1) a.3
        by (y ∷ vs) (suc c) h e = by vs c h.1 e

    out_at : (at c : ℕ) (v : Variable) → slice_get x.locals c ≡ Some v → is_in_out v.sort ≡ false → ((e : Elem) × KindIs v.kind e) ⊎ IsHeld v.kind → (w : Value) × (slot : Slot) × (slice_get f.locals c ≡ Some slot) × (slot ≡ holds w) × OutAt at v.kind (local_offset p 8 x.locals c) w
    out_at at c v there not (inl e) =
        let off = local_offset p 8 x.locals c in
        let g = number_local c v e.0 there not e.1 in (
          number g.0,
          g.1,
          g.2,
          g.3,
          record {
            z = wrapped elem.Ulint g.0;
            keeps = λ a. refl;
            runs = λ bs m pc sh fit has h.
                subst (λ c. Stands code now n pc c → ((u : Put bs at (wrapped elem.Ulint g.0) image s m) → At_pc (pc + length c) u.memory) → At_pc pc m) (sym (number_code v.kind e.0 at off e.1))
                (λ has h. number_out code n own around under x after shown o image mask ticks s own_word eight at off pc e.0 g.0 bs m sh fit g.5 g.4 has h) has h;
          },
        )
    out_at at c v there not (inr held) =
        let off = local_offset p 8 x.locals c in
        let a = slot_at p base (layouts (k ∷ ks)) x.locals f.locals image 8 c v slots there in
        let g = held_slot (layouts (k ∷ ks)) v a.0 image off not held a.2 in
        let k = refers_kept p base small g.0 g.1 g.3 in
        let last = a.3 in
        let wide = g.5 in (
          reference g.0,
          a.0,
          a.1,
          g.2,
          record {
            z = pos g.1;
            keeps = λ a. k.1;
            runs = λ bs m pc sh fit has h.
                subst (λ c. Stands code now n pc c → ((u : Put bs at (pos g.1) image s m) → At_pc (pc + length c) u.memory) → At_pc pc m) (sym (held_out v.kind at off held))
                (λ has h. reference_out code n own around under x after shown o image mask ticks s own_word eight at off pc (path_word p base g.0) (pos g.1) bs m sh fit (omega (arith, last, wide, room)) g.4 k.0 k.1 (word_refers g.0) has h) has h;
          },
        )

    large_out_code : (t : StType) (at off : ℕ) → is_large t ≡ true → out_code at t off ≡ does (op.Local off) x.line ∷ (in_block x.line at ++ (does op.LoadRef x.line ∷ (does (op.Copy (bytes_of p t)) x.line ∷ [])))
    large_out_code t at off e = ap (λ b. if b then (does (op.Local off) x.line ∷ []) ++ (in_block x.line at ++ (does op.LoadRef x.line ∷ (does (op.Copy (bytes_of p t)) x.line ∷ []))) else (does (op.Local off) x.line ∷ []) ++ (fetch_code (called_plan p tables x) x.line 0 t ++ (in_block x.line at ++ (does (if is_held t then op.StoreRef else op.Store elem.Ulint) x.line ∷ [])))) e

    -- a local that is large
    record LargeLocal (c : ℕ) (v : Variable) (shape : Shape) : Type 0 where
      value : Value
      in_frame : (w : Value) → frame_value (Some f) c ≡ Some w → w ≡ value
      inside : local_offset p 8 x.locals c + size shape ≤ length image
      spells : Spells (region_shape p) shape value image (local_offset p 8 x.locals c)

    large_local : (c : ℕ) (v : Variable) (shape : Shape) → slice_get x.locals c ≡ Some v → is_in_out v.sort ≡ false → shape_of p v.kind ≡ Some shape → LargeLocal c v shape
    large_local c v shape there not has_shape =
        let a = slot_at p base (layouts (k ∷ ks)) x.locals f.locals image 8 c v slots there in
        by a.0 a.1 a.2 a.3
      where
        by : (slot : Slot) → slice_get f.locals c ≡ Some slot → SlotShown p base (layouts (k ∷ ks)) v slot image (local_offset p 8 x.locals c) → local_offset p 8 x.locals c + width p v ≤ locals_end p 8 x.locals → LargeLocal c v shape
        by (holds w) e h last =
            let same : h.1.0 ≡ shape = let d : Some h.1.0 ≡ Some shape = sym h.1.1 ∙ has_shape in some_once d in
            let wide : width p v ≡ size shape = ap (λ b. if b then 8 else size_in (shape_of p v.kind)) not ∙ ap size_in has_shape in
            record { value = w; in_frame = λ u g. held_once (holds w) (slice_get f.locals c) w u e refl g; inside = omega (arith, last, wide, room); spells = subst (λ z. Spells (region_shape p) z w image (local_offset p 8 x.locals c)) same h.1.2 }
        by (bound spot) e h last = absurd (clash (sym h.0 ∙ not))
        by unbound e h last = absurd (clash (sym h.0 ∙ not))

    -- bytes that spell a value, as they stand elsewhere
    spelled_in : (shape : Shape) (v : Value) (off : ℕ) (bytes : List ℕ) → bytes ≡ slice_range image off (off + size shape) → off + size shape ≤ length image → Spells (region_shape p) shape v image off → Spells (region_shape p) shape v bytes 0
    spelled_in shape v off bytes e fit h =
        let long : length bytes ≡ size shape = ap (λ (l : List ℕ). length l) e ∙ length-range image off (size shape) fit in
        (spelling_laws (region_shape p)).anywhere shape v image bytes off 0 (whole_range bytes (size shape) long ∙ e) h

    abbrev at_room : Room → Address
    at_room r = record { space = Locals; index = base + length ks; offset = block + r.far }

    -- what is not touched stays filled
    still_filled : (bs left : List ℕ) (a j : ℕ) (r : Room) → ((i n : ℕ) → AreApart a j i n → i + n ≤ length bs → slice_range left i (i + n) ≡ slice_range bs i (i + n)) → length bs ≡ length bytes0 → IsRoom asks.rooms r → ((shape : Shape) → shape_of p r.kind ≡ Some shape → AreApart a j r.far (size shape)) → Filled p base x.parameters f bs r → Filled p base x.parameters f left r
    still_filled bs left a j r others long is apart h n q v shape there to held has_shape =
        let g = rooms_are.each r is in
        let inside = g.inside in
        let same : g.shape ≡ shape = some_once (sym g.has_shape ∙ has_shape) in
        let fit : r.far + size shape ≤ length bs = subst (λ z. r.far + size z ≤ length bs) same (omega (arith, inside, long)) in
        subst (λ b. Spells (region_shape p) shape v b 0) (sym (others r.far (size shape) (apart shape has_shape) fit)) (h n q v shape there to held has_shape)

    out_is : (q : Parameter) (v : Variable) (at c : ℕ) → q.to ≡ to_local c → slice_get x.locals c ≡ Some v → output_out p (called_plan p tables x) x.line x 8 at q ≡ out_code at v.kind (local_offset p 8 x.locals c)
    out_is q v at c to there =
        let a : output_out p (called_plan p tables x) x.line x 8 at q ≡ output_out p (called_plan p tables x) x.line x 8 at (record q { to = to_local c }) = ap (λ y. output_out p (called_plan p tables x) x.line x 8 at (record q { to = y })) to in
        a ∙ ap (λ o. result_out (called_plan p tables x) x.line at (kind_in o) (local_at p (called_plan p tables x) x.line x 8 c)) there

    output_sort : (u : SectionSort) → is_output u ≡ true → u ≡ sort.Output
    output_sort sort.Output e = refl
    output_sort u e = cc

    pub outputs_next : (qs : List Parameter) (i : ℕ) (bs : List ℕ) (m : Memory) (pc : ℕ) → i + length qs ≡ length x.parameters → ((j : ℕ) → slice_get x.parameters (i + j) ≡ slice_get qs j) → Leaving i bs m → Stands code now n pc (outputs_out p (called_plan p tables x) x.line x 8 i qs)
        → ((bs' : List ℕ) (m' : Memory) → Leaving (length x.parameters) bs' m' → At_pc (pc + length (outputs_out p (called_plan p tables x) x.line x 8 i qs)) m') → At_pc pc m
    outputs_next [] i bs m pc count same l has h = same_pc p code now n own around under x.line ticks after shown o (with_last m image) under pc (pc + 0) (omega arith) (h bs m (let e : i ≡ length x.parameters = omega (arith, count) in subst (λ j. Leaving j bs m) e l))
    outputs_next (q ∷ qs) i bs m pc count same l has h =
        by (is_output q.sort) refl has h (λ bs m pc l has h. outputs_next qs (suc i) bs m pc (omega (arith, count)) same' l has h)
      where
        there : slice_get x.parameters i ≡ Some q
        there = let e : i ≡ i + 0 = omega arith in ap (slice_get x.parameters) e ∙ same 0

        same' : (j : ℕ) → slice_get x.parameters (suc i + j) ≡ slice_get qs j
        same' j = let e : suc i + j ≡ i + suc j = omega arith in ap (slice_get x.parameters) e ∙ same (suc j)

        rest_code : List Cell
        rest_code = outputs_out p (called_plan p tables x) x.line x 8 (suc i) qs

        -- a room is of this parameter, or of one before
        below_this : ((d : ℕ) → q.sort ≡ sort.Output → q.to ≡ to_local d → has_bit mask i ≡ true → ⊥) → (r : Room) → IsRoom asks.rooms r → r.number < suc i → r.number < i
        below_this no_room r is lt = by (nat_eq r.number i) refl
          where
            g : RoomIs p base x (record { space = Locals; index = base + length ks; offset = block }) rooms_are.low mask bytes0 r
            g = rooms_are.each r is

            by : (t : Bool) → nat_eq r.number i ≡ t → r.number < i
            by true e =
                let same : r.number ≡ i = eqb-true r.number i e in
                let q_is : g.parameter ≡ q = some_once (sym g.there ∙ (ap (slice_get x.parameters) same ∙ there)) in
                absurd (no_room g.local (ap (λ (y : Parameter). y.sort) (sym q_is) ∙ g.sorted) (ap (λ (y : Parameter). y.to) (sym q_is) ∙ g.to) (ap (has_bit mask) (sym same) ∙ g.asked))
            by false e = let other : r.number ≢ i = λ w. absurd (clash (sym (eq-eqb r.number i w) ∙ e)) in omega (arith, lt, other)

        -- what is known of those before, and of this one
        further : ((d : ℕ) (v : Value) (a : Address) → q.sort ≡ sort.Output → q.to ≡ to_local d → has_bit mask i ≡ true → frame_value (Some f) d ≡ Some v → IsWord v → Keeps (value_word p base a v) bs (of_parameter i)) → ((d : ℕ) → q.sort ≡ sort.Output → q.to ≡ to_local d → has_bit mask i ≡ true → ⊥) → Leaving (suc i) bs m
        further own_output no_room = record {
          long = l.long;
          mask_kept = l.mask_kept;
          own_stays = l.own_stays;
          shows = l.shows;
          outputs = λ j d r v a lt e out to set is w. among j d r v a lt e out to set is w (nat_eq j i) refl;
          words = l.words;
          filled = λ r is lt. l.filled r is (below_this no_room r is lt);
          result_word = l.result_word;
        }
          where
            among : (j d : ℕ) (r : Parameter) (v : Value) (a : Address) → j < suc i → slice_get x.parameters j ≡ Some r → r.sort ≡ sort.Output → r.to ≡ to_local d → has_bit mask j ≡ true → frame_value (Some f) d ≡ Some v → IsWord v → (t : Bool) → nat_eq j i ≡ t → Keeps (value_word p base a v) bs (of_parameter j)
            among j d r v a lt e out to set is word_is true u =
                let same : j ≡ i = eqb-true j i u in
                let q_is : Some r ≡ Some q = sym e ∙ (ap (slice_get x.parameters) same ∙ there) in
                let w : r ≡ q = some_once q_is in
                subst (λ y. Keeps (value_word p base a v) bs (of_parameter y)) (sym same) (own_output d v a (ap (λ (y : Parameter). y.sort) (sym w) ∙ out) (ap (λ (y : Parameter). y.to) (sym w) ∙ to) (ap (has_bit mask) (sym same) ∙ set) is word_is)
            among j d r v a lt e out to set is word_is false u = l.outputs j d r v a (let other : j ≢ i = λ w. absurd (clash (sym (eq-eqb j i w) ∙ u)) in omega (arith, lt, other)) e out to set is word_is

        -- the output is written: a word
        word_writes : (c0 : ℕ) (v0 : Variable) → slice_get x.locals c0 ≡ Some v0 → is_large v0.kind ≡ false → q.to ≡ to_local c0 → has_bit mask i ≡ true → is_output q.sort ≡ true → Stands code now n pc (code_of true i q) → ((w : Memory) → ((bs' : List ℕ) × Leaving (suc i) bs' w) → At_pc (pc + 7 + length (output_out p (called_plan p tables x) x.line x 8 (of_parameter i) q)) w) → At_pc (pc + 7) m
        word_writes c0 v0 in_locals0 word_sized to set is_out has h =
            let u = each_at (ParameterIs p x) x.parameters i q ok.parameters there in
            let v = u.0 in
            let in_locals : slice_get x.locals c0 ≡ Some v = sym (ap (recipient_variable p x) to) ∙ u.1 in
            let word_sized_v : is_large v.kind ≡ false = ap (λ (y : Variable). is_large y.kind) (some_once (sym in_locals ∙ in_locals0)) ∙ word_sized in
            let not : is_in_out v.sort ≡ false = ap is_in_out (u.2 ∙ output_sort q.sort is_out) in
            let at = of_parameter i in
            let off = local_offset p 8 x.locals c0 in
            let g = out_at at c0 v in_locals not (word_sort v.kind word_sized_v (u.4 (ap is_in_out (output_sort q.sort is_out)))) in
            let l_long = l.long in
            let fits = asked_at i q there set in
            let fit : at + 8 ≤ length bs = omega (arith, fits, l_long) in
            let has7 : Stands code now n (pc + 7) (output_out p (called_plan p tables x) x.line x 8 at q) = (let y : pc + 1 + 1 + 1 + 1 + 1 + 1 + 1 ≡ pc + 7 = omega arith in subst (λ j. Stands code now n j (output_out p (called_plan p tables x) x.line x 8 at q)) y has.1.1.1.1.1.1.1) in
            subst (λ c. Stands code now n (pc + 7) c → ((w : Memory) → ((bs' : List ℕ) × Leaving (suc i) bs' w) → At_pc (pc + 7 + length c) w) → At_pc (pc + 7) m) (sym (out_is q v at c0 to in_locals))
            (λ has h. g.4.runs bs m (pc + 7) l.shows fit has
            (λ w. h w.memory (w.left, after_put c0 g.0 g.4.z g.1 w to g.2 g.3 g.4.keeps to set)))
            has7 h
          where
            after_put : (c : ℕ) (value : Value) (z : ℤ) (slot : Slot) (w : Put bs (of_parameter i) z image s m) → q.to ≡ to_local c → slice_get f.locals c ≡ Some slot → slot ≡ holds value → ((a : Address) → kept (value_word p base a value) ≡ Goes z) → q.to ≡ to_local c0 → has_bit mask i ≡ true → Leaving (suc i) w.left w.memory
            after_put c value z slot w to in_frame is kept_so to0 set0 = record {
              long = w.long ∙ l.long;
              mask_kept = record { fits = l.mask_kept.fits; stands = w.others of_mask 8 (inr (omega arith)) (let g = l.long in omega (arith, g, room_size)) ∙ l.mask_kept.stands };
              own_stays = own_same asks.own bs w.left (w.others of_own 8 (inr (omega arith)) (let g = l.long in omega (arith, g, room_size))) l.own_stays;
              shows = w.shown;
              outputs = λ j d r v a lt e out to' set v_is word_is. among j d r v a lt e out to' set v_is word_is (nat_eq j i) refl;
              words = λ r is. w.others (of_parameter r.number) 8 (let d = not_this r is in eights_apart i r.number (λ e. d (sym e))) (word_inside r is) ∙ l.words r is;
              filled = λ r is lt. still_filled bs w.left (of_parameter i) 8 r w.others l.long is (λ shape e. inl (above_word r is)) (l.filled r is (let d = not_this r is in omega (arith, lt, d)));
              result_word = w.others of_result 8 (inr (omega arith)) (let g = l.long in omega (arith, g, room_size)) ∙ l.result_word;
            }
              where
                -- a room is of another output, since this one is a word
                not_this : (r : Room) → IsRoom asks.rooms r → r.number ≢ i
                not_this r is e =
                    let g = rooms_are.each r is in
                    let q_is : g.parameter ≡ q = some_once (sym g.there ∙ (ap (slice_get x.parameters) e ∙ there)) in
                    let c_is : to_local g.local ≡ to_local c0 = sym g.to ∙ (ap (λ (y : Parameter). y.to) q_is ∙ to0) in
                    let same_local : g.local ≡ c0 = cc in
                    let same_variable : g.variable ≡ v0 = some_once (sym g.in_locals ∙ (ap (slice_get x.locals) same_local ∙ in_locals0)) in
                    absurd (clash (sym g.large ∙ (ap is_large (sym g.kind_is) ∙ (ap (λ (y : Variable). is_large y.kind) same_variable ∙ word_sized))))

                word_inside : (r : Room) → IsRoom asks.rooms r → of_parameter r.number + 8 ≤ length bs
                word_inside r is = let g = rooms_are.each r is in let y = asked_at r.number g.parameter g.there g.asked in let z = l.long in omega (arith, y, z)

                above_word : (r : Room) → IsRoom asks.rooms r → of_parameter i + 8 ≤ r.far
                above_word r is = let g = rooms_are.each r is in let y = g.above in let z = rooms_are.words i (let b = get_below x.parameters i q there in omega (arith, b, few)) set0 in omega (arith, y, z)

                among : (j d : ℕ) (r : Parameter) (v : Value) (a : Address) → j < suc i → slice_get x.parameters j ≡ Some r → r.sort ≡ sort.Output → r.to ≡ to_local d → has_bit mask j ≡ true → frame_value (Some f) d ≡ Some v → IsWord v → (t : Bool) → nat_eq j i ≡ t → Keeps (value_word p base a v) w.left (of_parameter j)
                among j d r v a lt e out to' set v_is word_is true u =
                    let same : j ≡ i = eqb-true j i u in
                    let q_is : Some r ≡ Some q = sym e ∙ (ap (slice_get x.parameters) same ∙ there) in
                    let r_is : r ≡ q = some_once q_is in
                    let c_is : to_local d ≡ to_local c = sym to' ∙ (ap (λ (y : Parameter). y.to) r_is ∙ to) in
                    let d_is : d ≡ c = cc in
                    let value_is : v ≡ value = held_once slot (slice_get f.locals c) value v in_frame is (ap (λ y. held_by (slice_get f.locals y)) (sym d_is) ∙ v_is) in
                    subst (λ y. Keeps (value_word p base a v) w.left (of_parameter y)) (sym same) (value_kept_as value z a v w.left (of_parameter i) value_is kept_so w.word_there)
                among j d r v a lt e out to' set v_is word_is false u =
                    let other : j < i = (let other : j ≢ i = λ w. absurd (clash (sym (eq-eqb j i w) ∙ u)) in omega (arith, lt, other)) in
                    let below = asked_at j r e set in
                    let g = l.long in
                    keeps_moved (value_word p base a v) bs w.left (of_parameter i) (of_parameter j) w.others (inr (omega (arith, other))) (omega (arith, below, g)) (l.outputs j d r v a other e out to' set v_is word_is)

        -- a large one
        large_writes : (c0 : ℕ) (v0 : Variable) → slice_get x.locals c0 ≡ Some v0 → is_large v0.kind ≡ true → q.to ≡ to_local c0 → has_bit mask i ≡ true → is_output q.sort ≡ true → Stands code now n pc (code_of true i q) → ((w : Memory) → ((bs' : List ℕ) × Leaving (suc i) bs' w) → At_pc (pc + 7 + length (output_out p (called_plan p tables x) x.line x 8 (of_parameter i) q)) w) → At_pc (pc + 7) m
        large_writes c0 v0 in_locals large to set is_out has h =
            let u = each_at (ParameterIs p x) x.parameters i q ok.parameters there in
            let same_variable : u.0 ≡ v0 = some_once (sym (sym (ap (recipient_variable p x) to) ∙ u.1) ∙ in_locals) in
            let sort_is : q.sort ≡ sort.Output = output_sort q.sort is_out in
            let not : is_in_out v0.sort ≡ false = ap (λ (y : Variable). is_in_out y.sort) (sym same_variable) ∙ ap is_in_out (u.2 ∙ sort_is) in
            let r = rooms_are.outputs i c0 q v0 there sort_is to in_locals set large in
            let g = rooms_are.each r.0 r.1 in
            let q_is : g.parameter ≡ q = some_once (sym g.there ∙ (ap (slice_get x.parameters) r.2 ∙ there)) in
            let c_is : to_local g.local ≡ to_local c0 = sym g.to ∙ (ap (λ (y : Parameter). y.to) q_is ∙ to) in
            let local_is : g.local ≡ c0 = cc in
            let variable_is : g.variable ≡ v0 = some_once (sym g.in_locals ∙ (ap (slice_get x.locals) local_is ∙ in_locals)) in
            let kind_is : v0.kind ≡ r.0.kind = ap (λ (y : Variable). y.kind) (sym variable_is) ∙ g.kind_is in
            let has_shape : shape_of p v0.kind ≡ Some g.shape = ap (shape_of p) kind_is ∙ g.has_shape in
            let d = large_local c0 v0 g.shape in_locals not has_shape in
            let at = of_parameter i in
            let off = local_offset p 8 x.locals c0 in
            let l_long = l.long in
            let fits = asked_at i q there set in
            let fit : at + 8 ≤ length bs = omega (arith, fits, l_long) in
            let inside = g.inside in
            let w = put_bytes bs r.0.far off (size g.shape) image s m l.shows (omega (arith, inside, l_long)) d.inside in
            let size_is : bytes_of p v0.kind ≡ size g.shape = ap size_in has_shape in
            let word_is : Holds elem.Ulint (pos (kept_number p base (at_room r.0))) bs at = subst (λ j. Holds elem.Ulint (pos (kept_number p base (at_room r.0))) bs (of_parameter j)) r.2 (record { fits = g.word_there.fits; stands = l.words r.0 r.1 ∙ g.word_there.stands }) in
            let has7 : Stands code now n (pc + 7) (output_out p (called_plan p tables x) x.line x 8 at q) = (let y : pc + 1 + 1 + 1 + 1 + 1 + 1 + 1 ≡ pc + 7 = omega arith in subst (λ j. Stands code now n j (output_out p (called_plan p tables x) x.line x 8 at q)) y has.1.1.1.1.1.1.1) in
            subst (λ c. Stands code now n (pc + 7) c → ((w : Memory) → ((bs' : List ℕ) × Leaving (suc i) bs' w) → At_pc (pc + 7 + length c) w) → At_pc (pc + 7) m) (sym (out_is q v0 at c0 to in_locals ∙ (large_out_code v0.kind at off large ∙ ap (λ j. does (op.Local off) x.line ∷ (in_block x.line at ++ (does op.LoadRef x.line ∷ (does (op.Copy j) x.line ∷ [])))) size_is)))
            (λ has h. copied_out code n own around under x after shown o image mask ticks s own_word eight at off (size g.shape) (pc + 7) (at_room r.0) bs m w.memory l.shows fit word_is g.decodes w.by_bytes has
            (h w.memory (w.left, after_bytes r.0 r.1 r.2 g.shape g.has_shape d.value off d.in_frame w (spelled_in g.shape d.value off (slice_range w.left r.0.far (r.0.far + size g.shape)) w.there d.inside d.spells))))
            has7 h
          where
            after_bytes : (r : Room) → IsRoom asks.rooms r → r.number ≡ i → (shape : Shape) → shape_of p r.kind ≡ Some shape → (value : Value) (off : ℕ) → ((v : Value) → frame_value (Some f) c0 ≡ Some v → v ≡ value) → (w : PutBytes bs r.far (size shape) (slice_range image off (off + size shape)) image off s m)
                → Spells (region_shape p) shape value (slice_range w.left r.far (r.far + size shape)) 0 → Leaving (suc i) w.left w.memory
            after_bytes r is number_is shape has_shape value off in_frame w spells = record {
              long = w.long ∙ l.long;
              mask_kept = record { fits = l.mask_kept.fits; stands = w.others of_mask 8 (inr (omega (arith, far, wide))) (omega (arith, l_long, room_size)) ∙ l.mask_kept.stands };
              own_stays = own_same asks.own bs w.left (w.others of_own 8 (inr (omega (arith, far, wide))) (omega (arith, l_long, room_size))) l.own_stays;
              shows = w.shown;
              outputs = λ j d q' v a lt e out to' set v_is word_is. among j d q' v a lt e out to' set v_is word_is (nat_eq j i) refl;
              words = λ r' is'. w.others (of_parameter r'.number) 8 (inr (word_below r' is')) (word_inside r' is') ∙ l.words r' is';
              filled = λ r' is' lt. room_filled r' is' lt (rooms_are.apart r r' is is');
              result_word = w.others of_result 8 (inr (omega (arith, far, wide))) (omega (arith, l_long, room_size)) ∙ l.result_word;
            }
              where
                g : RoomIs p base x (record { space = Locals; index = base + length ks; offset = block }) rooms_are.low mask bytes0 r
                g = rooms_are.each r is

                far : rooms_are.low ≤ r.far
                far = g.above

                wide : 24 ≤ rooms_are.low
                wide = rooms_are.wide

                l_long : length bs ≡ length bytes0
                l_long = l.long

                word_below : (r' : Room) → IsRoom asks.rooms r' → of_parameter r'.number + 8 ≤ r.far
                word_below r' is' = let y = rooms_are.each r' is' in let z = rooms_are.words r'.number (let b = get_below x.parameters r'.number y.parameter y.there in omega (arith, b, few)) y.asked in omega (arith, z, far)

                word_inside : (r' : Room) → IsRoom asks.rooms r' → of_parameter r'.number + 8 ≤ length bs
                word_inside r' is' = let y = rooms_are.each r' is' in let z = asked_at r'.number y.parameter y.there y.asked in omega (arith, z, l_long)

                this_filled : Filled p base x.parameters f w.left r
                this_filled n q' v sh e to' held has =
                    let same : shape ≡ sh = some_once (sym has_shape ∙ has) in
                    let q_is : q' ≡ q = some_once (sym e ∙ (ap (slice_get x.parameters) number_is ∙ there)) in
                    let c_is : to_local n ≡ to_local c0 = sym to' ∙ (ap (λ (y : Parameter). y.to) q_is ∙ to) in
                    let local_is : n ≡ c0 = cc in
                    let value_is : v ≡ value = in_frame v (ap (λ y. frame_value (Some f) y) (sym local_is) ∙ held) in
                    subst (λ y. Spells (region_shape p) y v (slice_range w.left r.far (r.far + size y)) 0) same (subst (λ y. Spells (region_shape p) shape y (slice_range w.left r.far (r.far + size shape)) 0) (sym value_is) spells)

                room_filled : (r' : Room) → IsRoom asks.rooms r' → r'.number < suc i → (r ≡ r') ⊎ RoomsApart p base r r' → Filled p base x.parameters f w.left r'
                room_filled r' is' lt (inl same) = subst (Filled p base x.parameters f w.left) same this_filled
                room_filled r' is' lt (inr apart) =
                    let d = apart.numbers in
                    let other : r'.number ≢ i = λ e. d (number_is ∙ sym e) in
                    still_filled bs w.left r.far (size shape) r' w.others l.long is' (λ sh e. apart.bytes shape sh has_shape e) (l.filled r' is' (omega (arith, lt, other)))

                among : (j d : ℕ) (q' : Parameter) (v : Value) (a : Address) → j < suc i → slice_get x.parameters j ≡ Some q' → q'.sort ≡ sort.Output → q'.to ≡ to_local d → has_bit mask j ≡ true → frame_value (Some f) d ≡ Some v → IsWord v → (t : Bool) → nat_eq j i ≡ t → Keeps (value_word p base a v) w.left (of_parameter j)
                among j d q' v a lt e out to' set v_is word_is true u =
                    let same : j ≡ i = eqb-true j i u in
                    let q_is : q' ≡ q = some_once (sym e ∙ (ap (slice_get x.parameters) same ∙ there)) in
                    let c_is : to_local d ≡ to_local c0 = sym to' ∙ (ap (λ (y : Parameter). y.to) q_is ∙ to) in
                    let local_is : d ≡ c0 = cc in
                    let value_is : v ≡ value = in_frame v (ap (λ y. frame_value (Some f) y) (sym local_is) ∙ v_is) in
                    absurd (large_no_word p r.kind shape value (slice_range w.left r.far (r.far + size shape)) 0 g.large (within_bound p r.kind shape has_shape) spells (subst IsWord value_is word_is))
                among j d q' v a lt e out to' set v_is word_is false u =
                    let other : j < i = (let other : j ≢ i = λ w. absurd (clash (sym (eq-eqb j i w) ∙ u)) in omega (arith, lt, other)) in
                    let fits = asked_at j q' e set in
                    let y = rooms_are.words j (let b = get_below x.parameters j q' e in omega (arith, b, few)) set in
                    let k = l.outputs j d q' v a other e out to' set v_is word_is in
                    record { z = k.z; is = k.is; holds_it = record { fits = k.holds_it.fits; stands = w.others (of_parameter j) 8 (inr (omega (arith, y, far))) (omega (arith, fits, l_long)) ∙ k.holds_it.stands } }

        local_writes : (c0 : ℕ) → q.to ≡ to_local c0 → has_bit mask i ≡ true → is_output q.sort ≡ true → Stands code now n pc (code_of true i q) → ((w : Memory) → ((bs' : List ℕ) × Leaving (suc i) bs' w) → At_pc (pc + 7 + length (output_out p (called_plan p tables x) x.line x 8 (of_parameter i) q)) w) → At_pc (pc + 7) m
        local_writes c0 to set is_out has h =
            let u = each_at (ParameterIs p x) x.parameters i q ok.parameters there in
            let in_locals : slice_get x.locals c0 ≡ Some u.0 = sym (ap (recipient_variable p x) to) ∙ u.1 in
            sized (is_large u.0.kind) u.0 refl in_locals to set is_out has h
          where
            sized : (b : Bool) (v : Variable) → is_large v.kind ≡ b → slice_get x.locals c0 ≡ Some v → q.to ≡ to_local c0 → has_bit mask i ≡ true → is_output q.sort ≡ true → Stands code now n pc (code_of true i q) → ((w : Memory) → ((bs' : List ℕ) × Leaving (suc i) bs' w) → At_pc (pc + 7 + length (output_out p (called_plan p tables x) x.line x 8 (of_parameter i) q)) w) → At_pc (pc + 7) m
            sized true v e t to set is_out has h = large_writes c0 v t e to set is_out has h
            sized false v e t to set is_out has h = word_writes c0 v t e to set is_out has h

        -- that of a block stands in the instance
        writes : (to : Recipient) → q.to ≡ to → has_bit mask i ≡ true → is_output q.sort ≡ true → Stands code now n pc (code_of true i q) → ((w : Memory) → ((bs' : List ℕ) × Leaving (suc i) bs' w) → At_pc (pc + 7 + length (output_out p (called_plan p tables x) x.line x 8 (of_parameter i) q)) w) → At_pc (pc + 7) m
        writes (to_local c) to set is_out has h = local_writes c to set is_out has h
        writes (to_variable v) to set is_out has h =
            let none : output_out p (called_plan p tables x) x.line x 8 (of_parameter i) q ≡ [] = ap (λ y. output_out p (called_plan p tables x) x.line x 8 (of_parameter i) (record q { to = y })) to in
            let none_long : length (output_out p (called_plan p tables x) x.line x 8 (of_parameter i) q) ≡ 0 = ap length none in
            same_pc p code now n own around under x.line ticks after shown o (with_last m image) under (pc + 7) (pc + 7 + length (output_out p (called_plan p tables x) x.line x 8 (of_parameter i) q)) (omega (arith, none_long))
            (h m (bs, further (λ d w a out to'. absurd (no_local d v (sym to' ∙ to))) (λ d out to'. absurd (no_local d v (sym to' ∙ to)))))
          where
            no_local : (d v : ℕ) → to_local d ≡ to_variable v → ⊥
            no_local d v e = cc

        by : (t : Bool) → is_output q.sort ≡ t → Stands code now n pc (code_of t i q ++ outputs_out p (called_plan p tables x) x.line x 8 (suc i) qs) → ((bs' : List ℕ) (m' : Memory) → Leaving (length x.parameters) bs' m' → At_pc (pc + length (code_of t i q ++ outputs_out p (called_plan p tables x) x.line x 8 (suc i) qs)) m')
            → ((bs : List ℕ) (m : Memory) (pc : ℕ) → Leaving (suc i) bs m → Stands code now n pc (outputs_out p (called_plan p tables x) x.line x 8 (suc i) qs) → ((bs' : List ℕ) (m' : Memory) → Leaving (length x.parameters) bs' m' → At_pc (pc + length (outputs_out p (called_plan p tables x) x.line x 8 (suc i) qs)) m') → At_pc pc m) → At_pc pc m
        by false e has h again =
            same_pc p code now n own around under x.line ticks after shown o (with_last m image) under pc (pc + 0) (omega arith)
            (again bs m (pc + 0) (further (λ c v a out to. absurd (clash (sym (ap is_output out) ∙ e))) (λ d out. absurd (clash (sym (ap is_output out) ∙ e)))) (ends.back code now n pc [] rest_code has)
            (λ bs' m' l'. same_pc p code now n own around under x.line ticks after shown o (with_last m' image) under (pc + 0 + length rest_code) (pc + length rest_code) (omega arith) (h bs' m' l')))
        by true e has h again =
            let c = code_of true i q in
            let mask_fit : of_mask + 8 ≤ length bs = let g = l.long in omega (arith, g, room_size) in
            let to_next : (bs' : List ℕ) (m' : Memory) → Leaving (length x.parameters) bs' m' → At_pc (pc + length c + length rest_code) m' = λ bs' m' l'. same_pc p code now n own around under x.line ticks after shown o (with_last m' image) under (pc + length c + length rest_code) (pc + length (c ++ rest_code)) (let g = length-append c rest_code in omega (arith, g)) (h bs' m' l') in
            let has_r = ends.back code now n pc c rest_code has in
            guarded_next p code now n own around under x.line ticks after shown o base (length ks) block bs image m of_mask mask i pc (output_out p (called_plan p tables x) x.line x 8 (of_parameter i) q) (block_low bs s m l.shows) own_word eight mask_fit l.mask_kept (let g = get_below x.parameters i q there in omega (arith, g, few)) (ends.front code now n pc c rest_code has)
            (λ set. writes q.to refl set e (ends.front code now n pc c rest_code has) (λ w l'. same_pc p code now n own around under x.line ticks after shown o (with_last w image) under (pc + 7 + length (output_out p (called_plan p tables x) x.line x 8 (of_parameter i) q)) (pc + length c) (omega arith) (again l'.0 w (pc + length c) l'.1 has_r to_next)))
            (λ unset. again bs m (pc + length c) (further (λ d v a out to set. absurd (clash (sym set ∙ unset))) (λ d out to set. absurd (clash (sym set ∙ unset)))) has_r to_next)

    -- the result
    abbrev result_code : Option Variable → List Cell
    result_code o = first_out p (called_plan p tables x) x.line x 8 o

    abbrev variable_code : Bool → Variable → List Cell
    variable_code t v = if t then [] else guarded x.line of_mask result_place (result_out (called_plan p tables x) x.line of_result v.kind (local_at p (called_plan p tables x) x.line x 8 0))

    abbrev Ends : List Cell → ℕ → Type 0
    Ends c pc = (bs' : List ℕ) (rest' : List Kept) (m' : Memory) → BlockLeft p base (record { space = Locals; index = base + length ks; offset = block }) x.parameters (length bytes0) asks bs' mask f → RestLeft p base asks.result f rest rest' → Shown p base is_there now (with_block p base k block bs' rest' ∷ ks) m' s → At_pc (pc + length c) m'

    first_next : (bs : List ℕ) (m : Memory) (pc : ℕ) → Leaving (length x.parameters) bs m → Stands code now n pc (result_code (slice_get x.locals 0)) → Ends (result_code (slice_get x.locals 0)) pc → At_pc pc m
    first_next bs m pc l has h = by (slice_get x.locals 0) refl has h
      where
        outputs_of : (i d : ℕ) (q : Parameter) (v : Value) (a : Address) → slice_get x.parameters i ≡ Some q → q.sort ≡ sort.Output → q.to ≡ to_local d → has_bit mask i ≡ true → frame_value (Some f) d ≡ Some v → IsWord v → Keeps (value_word p base a v) bs (of_parameter i)
        outputs_of i d q v a e out to set is word_is = l.outputs i d q v a (get_below x.parameters i q e) e out to set is word_is

        filled_of : (r : Room) → IsRoom asks.rooms r → Filled p base x.parameters f bs r
        filled_of r is = l.filled r is (let g = rooms_are.each r is in get_below x.parameters r.number g.parameter g.there)

        rooms_of : (r : Room) → IsRoom asks.rooms r → RoomLeft p base (record { space = Locals; index = base + length ks; offset = block }) x.parameters f bs r
        rooms_of r is = let g = rooms_are.each r is in record { word_there = record { fits = g.word_there.fits; stands = l.words r is ∙ g.word_there.stands }; decodes = g.decodes; filled = filled_of r is }

        large_stays : (t : Below) → asks.result ≡ Some t → Holds elem.Ulint (pos (kept_number p base (record { space = Locals; index = base + length ks; offset = t.from }))) bs of_result
        large_stays t e = let a : ResultRoom p base x (record { space = Locals; index = base + length ks; offset = block }) mask bytes0 rest t = subst (ResultAsked p base x (record { space = Locals; index = base + length ks; offset = block }) mask bytes0 rest) e rooms_are.result in record { fits = a.word_there.fits; stands = l.result_word ∙ a.word_there.stands }

        nothing : ((v : Value) (a : Address) → has_bit mask result_place ≡ true → frame_value (Some f) 0 ≡ Some v → IsWord v → Keeps (value_word p base a v) bs of_result) → BlockLeft p base (record { space = Locals; index = base + length ks; offset = block }) x.parameters (length bytes0) asks bs mask f
        nothing r = record { long = l.long; own_stays = l.own_stays; outputs = outputs_of; rooms = rooms_of; result = r; large_result = large_stays }

        no_slot : (vs : List Variable) (ss : List Slot) (i : ℕ) (v : Value) → SlotsShown p base (layouts (k ∷ ks)) vs ss image i → slice_get vs 0 ≡ None → held_by (slice_get ss 0) ≡ Some v → ⊥
        no_slot [] [] i v h e q = cc
        no_slot [] (t ∷ ss) i v h e q = absurd h
        no_slot (w ∷ vs) [] i v h e q = absurd h
        no_slot (w ∷ vs) (t ∷ ss) i v h e q = cc

        no_value : (w : Variable) (slot : Slot) (i : ℕ) (v : Value) → SlotShown p base (layouts (k ∷ ks)) w slot image i → is_in_out w.sort ≡ true → held_by (Some slot) ≡ Some v → ⊥
        no_value w (holds y) i v h e q = clash (sym e ∙ h.0)
        no_value w (bound spot) i v h e q = cc
        no_value w unbound i v h e q = cc

        -- the rest stays where the result is not large
        rest_stays : (o : Option Below) → ResultAsked p base x (record { space = Locals; index = base + length ks; offset = block }) mask bytes0 rest o → ((t : Below) → o ≡ Some t → (v : Variable) → slice_get x.locals 0 ≡ Some v → is_in_out v.sort ≡ false → has_bit mask result_place ≡ true → is_large v.kind ≡ true → ⊥) → RestLeft p base o f rest rest
        rest_stays None a none = refl
        rest_stays (Some t) a none = absurd (none t refl a.variable a.in_locals a.no_place a.asked (ap is_large a.kind_is ∙ a.large))

        same_first : (v w : Variable) → slice_get x.locals 0 ≡ Some v → slice_get x.locals 0 ≡ Some w → v ≡ w
        same_first v w e g = some_once (sym e ∙ g)

        none_some : (t : Below) → None ≡ Some t → ⊥
        none_some t e = cc

        -- a word
        word_result : (v : Variable) → slice_get x.locals 0 ≡ Some v → is_in_out v.sort ≡ false → is_large v.kind ≡ false → has_bit mask result_place ≡ true → asks.result ≡ None → Stands code now n (pc + 7) (result_out (called_plan p tables x) x.line of_result v.kind (local_at p (called_plan p tables x) x.line x 8 0)) → Ends (variable_code false v) pc → At_pc (pc + 7) m
        word_result v e t word_sized set none here h =
            let off = local_offset p 8 x.locals 0 in
            let l_long = l.long in
            let fit : of_result + 8 ≤ length bs = omega (arith, l_long, room_size) in
            let c = result_out (called_plan p tables x) x.line of_result v.kind (local_at p (called_plan p tables x) x.line x 8 0) in
            let g = out_at of_result 0 v e t (word_sort v.kind word_sized (local_plain 0 v e t)) in
            g.4.runs bs m (pc + 7) l.shows fit here
            (λ w. same_pc p code now n own around under x.line ticks after shown o (with_last w.memory image) under (pc + 7 + length c) (pc + length (variable_code false v)) (omega arith) (h w.left rest w.memory (record {
              long = w.long ∙ l.long;
              own_stays = own_same asks.own bs w.left (w.others of_own 8 (inl (omega arith)) (omega (arith, l_long, room_size))) l.own_stays;
              outputs = λ i d q v a e out to set is word_is. keeps_moved (value_word p base a v) bs w.left of_result (of_parameter i) w.others (inl (omega arith)) (let b = asked_at i q e set in omega (arith, b, l_long)) (outputs_of i d q v a e out to set is word_is);
              rooms = λ r is. let g = rooms_of r is in record {
                word_there = record { fits = g.word_there.fits; stands = w.others (of_parameter r.number) 8 (inl (omega arith)) (let y = rooms_are.each r is in let b = asked_at r.number y.parameter y.there y.asked in omega (arith, b, l_long)) ∙ g.word_there.stands };
                decodes = g.decodes;
                filled = still_filled bs w.left of_result 8 r w.others l.long is (λ shape e. inl (let y = rooms_are.each r is in let far = y.above in let wide = rooms_are.wide in omega (arith, far, wide))) g.filled;
              };
              result = λ v a set is word_is. value_kept_as g.0 g.4.z a v w.left of_result (held_once g.1 (slice_get f.locals 0) g.0 v g.2 g.3 is) g.4.keeps w.word_there;
              large_result = λ t e. absurd (none_some t (sym none ∙ e));
            }) (subst (λ z. RestLeft p base z f rest rest) (sym none) refl) w.shown))

        -- a large one
        large_result : (v : Variable) (t : Below) → asks.result ≡ Some t → slice_get x.locals 0 ≡ Some v → is_in_out v.sort ≡ false → Stands code now n (pc + 7) (result_out (called_plan p tables x) x.line of_result v.kind (local_at p (called_plan p tables x) x.line x 8 0)) → Ends (variable_code false v) pc → At_pc (pc + 7) m
        large_result v t asked_t e not here h =
            let a : ResultRoom p base x (record { space = Locals; index = base + length ks; offset = block }) mask bytes0 rest t = subst (ResultAsked p base x (record { space = Locals; index = base + length ks; offset = block }) mask bytes0 rest) asked_t rooms_are.result in
            let kind_is : v.kind ≡ t.kind = ap (λ (y : Variable). y.kind) (same_first v a.variable e a.in_locals) ∙ a.kind_is in
            let has_shape : shape_of p v.kind ≡ Some a.shape = ap (shape_of p) kind_is ∙ a.has_shape in
            let large : is_large v.kind ≡ true = ap is_large kind_is ∙ a.large in
            let off = local_offset p 8 x.locals 0 in
            let to : Address = record { space = Locals; index = base + length ks; offset = t.from } in
            let l_long = l.long in
            let d = large_local 0 v a.shape e not has_shape in
            let shows : Shown p base is_there now (with_block p base k block bs (record { from = t.from; bytes = a.before } ∷ a.behind) ∷ ks) m s = subst (λ y. Shown p base is_there now (with_block p base k block bs y ∷ ks) m s) a.is l.shows in
            let w = put_below bs (record { from = t.from; bytes = a.before }) a.behind off (size a.shape) image s m shows a.long d.inside in
            let c = result_out (called_plan p tables x) x.line of_result v.kind (local_at p (called_plan p tables x) x.line x 8 0) in
            let size_is : bytes_of p v.kind ≡ size a.shape = ap size_in has_shape in
            let code_is : c ≡ does (op.Local off) x.line ∷ (in_block x.line of_result ++ (does op.LoadRef x.line ∷ (does (op.Copy (size a.shape)) x.line ∷ []))) = large_out_code v.kind of_result off large ∙ ap (λ j. does (op.Local off) x.line ∷ (in_block x.line of_result ++ (does op.LoadRef x.line ∷ (does (op.Copy j) x.line ∷ [])))) size_is in
            let code_long : length c ≡ 6 = ap (λ (l : List Cell). length l) code_is in
            let left_is : BlockLeft p base (record { space = Locals; index = base + length ks; offset = block }) x.parameters (length bytes0) asks bs mask f = nothing (λ u b set is word_is. absurd (large_no_word p v.kind a.shape d.value image off large (within_bound p v.kind a.shape has_shape) d.spells (subst IsWord (d.in_frame u is) word_is))) in
            let rest_is : RestLeft p base (Some t) f rest (record { from = t.from; bytes = w.left } ∷ a.behind) = record {
              before = a.before;
              behind = a.behind;
              bytes = w.left;
              was = a.is;
              is = refl;
              long = w.long;
              spells = λ u sh is has. subst (λ y. Spells (region_shape p) y u w.left 0) (some_once (sym a.has_shape ∙ has)) (subst (λ y. Spells (region_shape p) a.shape y w.left 0) (sym (d.in_frame u is)) (spelled_in a.shape d.value off w.left w.there d.inside d.spells));
            } in
            copied_out code n own around under x after shown o image mask ticks s own_word eight of_result off (size a.shape) (pc + 7) to bs m w.memory l.shows (omega (arith, l_long, room_size)) (record { fits = a.word_there.fits; stands = l.result_word ∙ a.word_there.stands }) a.decodes w.by_bytes (subst (Stands code now n (pc + 7)) code_is here)
            (same_pc p code now n own around under x.line ticks after shown o (with_last w.memory image) under (pc + 7 + 6) (pc + length (variable_code false v)) (omega (arith, code_long)) (h bs (record { from = t.from; bytes = w.left } ∷ a.behind) w.memory left_is (subst (λ y. RestLeft p base y f rest (record { from = t.from; bytes = w.left } ∷ a.behind)) (sym asked_t) rest_is) w.shown))

        with_variable : (v : Variable) (t : Bool) → slice_get x.locals 0 ≡ Some v → is_in_out v.sort ≡ t → Stands code now n pc (variable_code t v) → Ends (variable_code t v) pc → At_pc pc m
        with_variable v true e t has h =
            same_pc p code now n own around under x.line ticks after shown o (with_last m image) under pc (pc + 0) (omega arith)
            (h bs rest m (nothing (λ w a set is word_is. let g = slot_at p base (layouts (k ∷ ks)) x.locals f.locals image 8 0 v slots e in absurd (no_value v g.0 (local_offset p 8 x.locals 0) w g.2 t (sym (ap held_by g.1) ∙ is))))
            (rest_stays asks.result rooms_are.result (λ u asked_t w g not set large. clash (sym t ∙ (ap (λ (y : Variable). is_in_out y.sort) (same_first v w e g) ∙ not)))) l.shows)
        with_variable v false e t has h =
            let l_long = l.long in
            let mask_fit : of_mask + 8 ≤ length bs = omega (arith, l_long, room_size) in
            let c = result_out (called_plan p tables x) x.line of_result v.kind (local_at p (called_plan p tables x) x.line x 8 0) in
            guarded_next p code now n own around under x.line ticks after shown o base (length ks) block bs image m of_mask mask result_place pc c (block_low bs s m l.shows) own_word eight mask_fit l.mask_kept (omega arith) has
            (λ set.
            let here : Stands code now n (pc + 7) c = (let y : pc + 1 + 1 + 1 + 1 + 1 + 1 + 1 ≡ pc + 7 = omega arith in subst (λ j. Stands code now n j c) y has.1.1.1.1.1.1.1) in
            by_result asks.result refl rooms_are.result set here)
            (λ unset. h bs rest m (nothing (λ w a set is word_is. absurd (clash (sym set ∙ unset)))) (rest_stays asks.result rooms_are.result (λ u asked_t w g not set large. clash (sym set ∙ unset))) l.shows)
          where
            by_result : (y : Option Below) → asks.result ≡ y → ResultAsked p base x (record { space = Locals; index = base + length ks; offset = block }) mask bytes0 rest y → has_bit mask result_place ≡ true → Stands code now n (pc + 7) (result_out (called_plan p tables x) x.line of_result v.kind (local_at p (called_plan p tables x) x.line x 8 0)) → At_pc (pc + 7) m
            by_result None y a set here = word_result v e t (a set v e t) set y here h
            by_result (Some u) y a set here = large_result v u y e t here h

        by : (w : Option Variable) → slice_get x.locals 0 ≡ w → Stands code now n pc (result_code w) → Ends (result_code w) pc → At_pc pc m
        by None e has h =
            same_pc p code now n own around under x.line ticks after shown o (with_last m image) under pc (pc + 0) (omega arith)
            (h bs rest m (nothing (λ v a set is word_is. absurd (no_slot x.locals f.locals 8 v slots e is))) (rest_stays asks.result rooms_are.result (λ u asked_t w g not set large. no_first w (sym e ∙ g))) l.shows)
          where
            no_first : (w : Variable) → None ≡ Some w → ⊥
            no_first w e = cc
        by (Some v) e has h = with_variable v (is_in_out v.sort) e refl has h

    -- outputs, the result and back
    pub leaves_next : (m : Memory) (pc : ℕ) → Holds elem.Ulint (pos mask) bytes0 of_mask → Block bytes0 s m
        → Stands code now n pc (outputs_out p (called_plan p tables x) x.line x 8 0 x.parameters ++ (result_code (slice_get x.locals 0) ++ does (op.Ret 0) x.line ∷ []))
        → ((bs' : List ℕ) (rest' : List Kept) (m' : Memory) → BlockLeft p base (record { space = Locals; index = base + length ks; offset = block }) x.parameters (length bytes0) asks bs' mask f → RestLeft p base asks.result f rest rest' → Shown p base is_there now (with_block p base k block bs' rest' ∷ ks) m' s → Leads code now (leave (at_cell p code now n own around under x.line ticks (pc + length (outputs_out p (called_plan p tables x) x.line x 8 0 x.parameters) + length (result_code (slice_get x.locals 0))) under (with_last m' image)) around) after shown o) → At_pc pc m
    leaves_next m pc mask_kept shows has h =
        let co = outputs_out p (called_plan p tables x) x.line x 8 0 x.parameters in
        let cr = result_code (slice_get x.locals 0) in
        let has_r = ends.back code now n pc co (cr ++ does (op.Ret 0) x.line ∷ []) has in
        outputs_next x.parameters 0 bytes0 m pc (omega arith) (λ j. let e : 0 + j ≡ j = omega arith in ap (slice_get x.parameters) e)
        (record { long = refl; mask_kept = mask_kept; own_stays = rooms_are.own_held; shows = shows; outputs = λ j d q v a lt. absurd (omega (arith, lt)); words = λ r is. refl; filled = λ r is lt. absurd (omega (arith, lt)); result_word = refl }) (ends.front code now n pc co (cr ++ does (op.Ret 0) x.line ∷ []) has)
        (λ bs1 m1 l1. first_next bs1 m1 (pc + length co) l1 (ends.front code now n (pc + length co) cr (does (op.Ret 0) x.line ∷ []) has_r)
        (λ bs2 rest2 m2 left rest_left shows2. ends.step_leads code now (op.Ret 0, x.line) (let e = ends.back code now n (pc + length co) cr (does (op.Ret 0) x.line ∷ []) has_r in e.0) (h bs2 rest2 m2 left rest_left shows2)))
