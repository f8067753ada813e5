-- Reads and writes of the machine are those of the state that its memory shows.
use Rattle.std.proofs.Common.{◌≡◌, ◌≤◌, ◌<◌, ℕ, zero, suc, ◌+◌, ◌*◌, ℤ, pos, Bool, true, false, List, [], ◌∷◌, length, Option, Some, None, refl, sym, ap, ◌∙◌, subst, arith}
use Rattle.std.specs.Prelude.{if◌then◌else◌, ◌&&◌, slice_get, slice_set, nat_lt, nat_le, nat_eq, unsigned_abs, slice_range}
use Rattle.std.proofs.lemmas.Bool.{lt-ltb, le-leb, eqb-true, eq-eqb}
use Rattle.std.proofs.lemmas.Bool.Decides.{Decides-int_eq}
use Rattle.std.proofs.lemmas.Int.{ints}
use Rattle.st_types.specs.declared.elem.Elem.{Elem}
use Rattle.st_types.specs.Elem.{bytes}
use Rattle.st_types.specs.Range.{Fits}
use Rattle.st_types.specs.declared.elem.Elem.TheVariants as elem
use Rattle.mem_image.specs.Image.{value_at as number_at, written, replaced}
use Rattle.st_tree.specs.declared.path.Path.{Path}
use Rattle.st_tree.specs.declared.path.Step.{Step}
use Rattle.st_tree.specs.declared.path.Step.TheVariants as step
use Rattle.st_values.specs.Program.{Program, class_number}
use Rattle.st_values.specs.Value.{Value, number, reference, Store, member, with_member, value_at, value_with, at, put, ◌>>=◌ as ◌>>?◌}
use Rattle.st_values.specs.Shape.{Shape, Reference, Interface, Instance, Fields, region_shape, path_shape}
use Rattle.st_values.proofs.ValueLaws.{then_some}
use Rattle.st_meaning.specs.Operation.{same_step, same_steps, same_path, class_in}
use Rattle.st_meaning.specs.Call.{Enter, class_at_spot}
use Rattle.st_meaning.specs.State.{Spot, in_store, in_frame, State, Done, go_on, read, write, into, there as give_there, set_region, holds, held_by, frame_value, frame_at, frames_with, with_local}
use Rattle.stack_code.specs.Memory.{same_reference, Memory, read as read_bytes, write as write_bytes, image_at, there, holds as holds_bytes, with_image, copy, reference_of, kept}
use Rattle.stack_code.specs.declared.memory.Space.TheVariants.{Regions, Locals}
use Rattle.stack_code.specs.declared.memory.Address.{Address}
use Rattle.stack_code.specs.Steps.{Step as StepOf, Goes, ◌>>=◌, stuck, some_or_stuck}
use Rattle.stack_code.specs.Machine.{class_at}
use Rattle.stack_code.specs.declared.memory.Word.TheVariants as word
use Rattle.mem_layout.specs.store_bytes.PlaceLaws.{IsOwn}
use Rattle.mem_layout.proofs.store_bytes.Apart.{has_place, begins_once}
use Rattle.mem_layout.specs.store_bytes.Spells.{HoldsAddress, Names, Refers, Spells}
use Rattle.mem_layout.specs.store_bytes.Place.{size, Place, place_of, inner_place, part_place}
use Rattle.mem_layout.specs.store_bytes.StoreLaws.{IsNumber, IsAddress, Keeps}
use Rattle.mem_layout.proofs.store_bytes.Store.{laws_of_store}
use Rattle.mem_layout.proofs.store_bytes.Writes.{inner_within, write as bytes_write}
use Rattle.mem_layout.proofs.store_bytes.Moves.{read as bytes_read}
use Rattle.mem_layout.proofs.store_bytes.Leaves.{value_is, keeps_written, holds_written, length-written}
use Rattle.shown_memory.specs.Shown.{kept_number, layout_at, in_layout, Open, Layout, layouts, Located, located, path_word, word_at, Shown, Small}
use Rattle.shown_memory.proofs.Locals.{number_spelled, spelled_number, number_size, found, frames_put}
use Rattle.shown_memory.proofs.Geometry as geometry
use Rattle.memory_access.specs.Access.{Within}

-- ---- numbers

within : (o n long : ℕ) → o + n ≤ long → nat_le (o + n) long ≡ true
within o n long h = le-leb (o + n) long h

abbrev pub region_address : ℕ → ℕ → Address
region_address r o = record { space = Regions; index = r; offset = o }

pub image_there : (m : Memory) (r o n : ℕ) (image : List ℕ) → slice_get m.regions r ≡ Some (Some image) → o + n ≤ length image → image_at m (region_address r o) n ≡ Goes image
image_there m r o n image e h =
    ap (λ x. there x >>= λ i. holds_bytes i (region_address r o) n) e ∙ ap (λ b. if b then Goes image else stuck) (within o n (length image) h)

pub length_set : (xs : List (List ℕ)) (i : ℕ) (x : List ℕ) → length (slice_set xs i x) ≡ length xs
length_set [] i x = refl
length_set (y ∷ xs) zero x = refl
length_set (y ∷ xs) (suc i) x = ap suc (length_set xs i x)

abbrev pub local_address : ℕ → ℕ → Address
local_address d o = record { space = Locals; index = d; offset = o }

pub local_there : (m : Memory) (d o n : ℕ) (image : List ℕ) → slice_get m.locals d ≡ Some image → o + n ≤ length image → image_at m (local_address d o) n ≡ Goes image
local_there m d o n image e h = ap (λ x. some_or_stuck x >>= λ i. holds_bytes i (local_address d o) n) e ∙ ap (λ b. if b then Goes image else stuck) (within o n (length image) h)

pub read_region : (s : State) (q : Path) (v : Value) (line : ℕ) → at s.store q ≡ Some v → read (in_store q) line s ≡ Done v s
read_region s q v line e =
    let a = then_some (member s.store q.region) _ v e in
    ap (λ o. go_on (give_there o line s) (λ w t. give_there (value_at w q.steps) line t)) a.1 ∙ ap (λ o. give_there o line s) a.2

pub write_region : (s : State) (q : Path) (v : Value) (line : ℕ) (t : Store) → put s.store q v ≡ Some t → write (in_store q) v line s ≡ Done tt (record s { store = t })
write_region s q v line t e =
    let a = then_some (member s.store q.region) _ t e in
    let b = then_some (value_with a.0 q.steps v) _ t a.2 in
    let is : with_member s.store q.region b.0 ≡ t = let c : Some (with_member s.store q.region b.0) ≡ Some t = b.2 in cc in
    ap (λ o. go_on (give_there o line s) (λ w u. go_on (give_there (value_with w q.steps v) line u) (λ x y. set_region q.region x line y))) a.1
    ∙ (ap (λ o. go_on (give_there o line s) (λ x y. set_region q.region x line y)) b.1 ∙ ap (λ (c : Store). Done tt (record s { store = c })) is)

-- ---- steps, compared

clash : true ≡ false → ⊥
clash e = cc

both_hold : (a b : Bool) → (a && b) ≡ true → (a ≡ true) × (b ≡ true)
both_hold true true e = (refl, refl)
both_hold true false e = cc
both_hold false b e = cc

same_step_is : (s t : Step) → same_step s t ≡ true → s ≡ t
same_step_is (step.Field i) (step.Field j) e = ap step.Field (eqb-true i j e)
same_step_is (step.Element i) (step.Element j) e = ap step.Element ((Decides-int_eq i j).0 e)
same_step_is (step.Field i) (step.Element j) e = cc
same_step_is (step.Element i) (step.Field j) e = cc

same_step_self : (s : Step) → same_step s s ≡ true
same_step_self (step.Field i) = eq-eqb i i refl
same_step_self (step.Element i) = (Decides-int_eq i i).1 refl

same_steps_is : (ss ts : List Step) → same_steps ss ts ≡ true → ss ≡ ts
same_steps_is [] [] e = refl
same_steps_is [] (t ∷ ts) e = cc
same_steps_is (s ∷ ss) [] e = cc
same_steps_is (s ∷ ss) (t ∷ ts) e =
    let b = both_hold (same_step s t) (same_steps ss ts) e in
    let h = same_step_is s t b.0 in
    let k = same_steps_is ss ts b.1 in
    (λ i. h i ∷ k i)

same_steps_self : (ss : List Step) → same_steps ss ss ≡ true
same_steps_self [] = refl
same_steps_self (s ∷ ss) = ap (λ b. b && same_steps ss ss) (same_step_self s) ∙ same_steps_self ss

module _ (p : Program) (base : ℕ) (is_held : ℕ → Bool) (now : ℕ) where
  -- a number that is read
  pub record Loaded (spot : Spot) (e : Elem) (a : Address) (m : Memory) (s : State) : Type 0 where
    pub z : ℤ
    pub by_bytes : read_bytes e m a ≡ Goes z
    pub by_state : (line : ℕ) → read spot line s ≡ Done (number z) s

  pub load_like : (ks : List Open) (spot : Spot) (e : Elem) (l : Located) (m : Memory) (s : State) → Shown p base is_held now ks m s → located p base (layouts ks) spot ≡ Some l → Within p base is_held now spot → IsNumber l.shape e → Loaded spot e l.address m s
  load_like ks (in_store q) e l m s h at w n =
      let a = then_some (place_of (region_shape p) q) _ l at in
      let is : record { address = region_address q.region a.0.offset; shape = a.0.shape } ≡ l = let c : Some _ ≡ Some l = a.2 in cc in
      let k : IsNumber a.0.shape e = subst (λ (x : Located). IsNumber x.shape e) (sym is) n in
      let g = (laws_of_store (region_shape p) is_held m.regions s.store).loads h.regions q a.0 e w a.1 k in
      record {
        z = number_at e g.0 a.0.offset;
        by_bytes = subst (λ (x : Located). read_bytes e m x.address ≡ Goes (number_at e g.0 a.0.offset)) is (ap (λ i. i >>= λ image. Goes (number_at e image a.0.offset)) (image_there m q.region a.0.offset (bytes e) g.0 g.1 g.2));
        by_state = λ line. read_region s q (number (number_at e g.0 a.0.offset)) line g.3;
      }
  load_like ks (in_frame d n ss) e l m s h at w k =
      let a = then_some (in_layout p base (layout_at (layouts ks) d) n) _ l at in
      let b = then_some (inner_place a.0.shape ss) _ l a.2 in
      let is : record { address = local_address (base + d) (a.0.offset + b.0.offset); shape = b.0.shape } ≡ l = let c : Some _ ≡ Some l = b.2 in cc in
      let f = found p base ks s.frames m.locals d n a.0 h.frames a.1 in
      let r = bytes_read (region_shape p) ss a.0.shape f.value f.image a.0.offset b.0 f.spells b.1 in
      let z = number_spelled (region_shape p) b.0.shape e r.0 f.image (a.0.offset + b.0.offset) (subst (λ (x : Located). IsNumber x.shape e) (sym is) k) r.2 in
      let inside = inner_within ss a.0.shape b.0 b.1 in
      let wide = number_size b.0.shape e (subst (λ (x : Located). IsNumber x.shape e) (sym is) k) in
      let room = f.within in
      record {
        z = z.0;
        by_bytes = subst (λ (x : Located). read_bytes e m x.address ≡ Goes z.0) is
            (ap (λ i. i >>= λ image. Goes (number_at e image (a.0.offset + b.0.offset))) (local_there m (base + d) (a.0.offset + b.0.offset) (bytes e) f.image f.in_images (omega (arith, inside, wide, room))) ∙ ap Goes (value_is e z.0 f.image (a.0.offset + b.0.offset) z.2));
        by_state = λ line. ap (λ o. go_on (give_there (frame_value o n) line s) (λ v t. give_there (value_at v ss) line t)) f.in_frames
            ∙ (ap (λ o. go_on (give_there (held_by o) line s) (λ v t. give_there (value_at v ss) line t)) f.in_locals ∙ (ap (λ o. give_there o line s) r.1 ∙ ap (λ v. Done v s) z.1));
      }

  -- a number that is written
  pub record Kept_number (ks : List Open) (spot : Spot) (e : Elem) (a : Address) (z : ℤ) (m : Memory) (s : State) : Type 0 where
    pub memory : Memory
    pub state : State
    pub by_bytes : write_bytes e m a z ≡ Goes memory
    pub by_state : (line : ℕ) → write spot (number z) line s ≡ Done tt state
    pub same_ticks : state.ticks ≡ s.ticks
    pub shows : Shown p base is_held now ks memory state

  pub store_like : (ks : List Open) (spot : Spot) (e : Elem) (l : Located) (z : ℤ) (m : Memory) (s : State) → Shown p base is_held now ks m s → located p base (layouts ks) spot ≡ Some l → Within p base is_held now spot → IsNumber l.shape e → Fits e z → Kept_number ks spot e l.address z m s
  store_like ks (in_store q) e l z m s h at w n f =
      let a = then_some (place_of (region_shape p) q) _ l at in
      let is : record { address = region_address q.region a.0.offset; shape = a.0.shape } ≡ l = let c : Some _ ≡ Some l = a.2 in cc in
      let k : IsNumber a.0.shape e = subst (λ (x : Located). IsNumber x.shape e) (sym is) n in
      let g = (laws_of_store (region_shape p) is_held m.regions s.store).stores h.regions q a.0 e z w a.1 k f in
      let m' : Memory = record m { regions = slice_set m.regions q.region (Some (written e g.0 a.0.offset z)) } in
      record {
        memory = m';
        state = record s { store = g.3.store' };
        by_bytes = subst (λ (x : Located). write_bytes e m x.address z ≡ Goes m') is (ap (λ i. i >>= λ image. Goes (with_image Regions m q.region (written e image a.0.offset z))) (image_there m q.region a.0.offset (bytes e) g.0 g.1 g.2));
        by_state = λ line. write_region s q (number z) line g.3.store' g.3.is;
        same_ticks = refl;
        shows = record { regions = g.3.shows; frames = h.frames; deep = h.deep; moment = h.moment };
      }
  store_like ks (in_frame d n ss) e l z m s h at w k fits =
      let a = then_some (in_layout p base (layout_at (layouts ks) d) n) _ l at in
      let b = then_some (inner_place a.0.shape ss) _ l a.2 in
      let is : record { address = local_address (base + d) (a.0.offset + b.0.offset); shape = b.0.shape } ≡ l = let c : Some _ ≡ Some l = b.2 in cc in
      let f = found p base ks s.frames m.locals d n a.0 h.frames a.1 in
      let i = a.0.offset + b.0.offset in
      let num : IsNumber b.0.shape e = subst (λ (x : Located). IsNumber x.shape e) (sym is) k in
      let inside = inner_within ss a.0.shape b.0 b.1 in
      let wide = number_size b.0.shape e num in
      let room = f.within in
      let fit : i + bytes e ≤ length f.image = omega (arith, inside, wide, room) in
      let image' = written e f.image i z in
      let keeps = keeps_written e z f.image i fit in
      let put = bytes_write (region_shape p) ss a.0.shape f.value (number z) f.image image' a.0.offset b.0 f.spells b.1 (subst (λ n. Keeps f.image image' i n) (sym wide) keeps) (spelled_number (region_shape p) b.0.shape e z image' i num (holds_written e z f.image i fits fit)) in
      let frame' = record f.frame { locals = slice_set f.frame.locals n (holds put.0) } in
      let m' : Memory = record m { locals = slice_set m.locals (base + d) image' } in
      record {
        memory = m';
        state = record s { frames = frames_with s.frames d frame' };
        by_bytes = subst (λ (x : Located). write_bytes e m x.address z ≡ Goes m') is (ap (λ x. x >>= λ image. Goes (with_image Locals m (base + d) (written e image i z))) (local_there m (base + d) i (bytes e) f.image f.in_images fit));
        by_state = λ line.
            ap (λ o. go_on (give_there (frame_value o n) line s) (λ v t. go_on (give_there (value_with v ss (number z)) line t) (λ w u. Done tt (record u { frames = with_local u.frames d n w (frame_at u.frames d) })))) f.in_frames
            ∙ (ap (λ o. go_on (give_there (held_by o) line s) (λ v t. go_on (give_there (value_with v ss (number z)) line t) (λ w u. Done tt (record u { frames = with_local u.frames d n w (frame_at u.frames d) })))) f.in_locals
            ∙ (ap (λ o. go_on (give_there o line s) (λ w u. Done tt (record u { frames = with_local u.frames d n w (frame_at u.frames d) }))) put.1
            ∙ ap (λ o. Done tt (record s { frames = with_local s.frames d n put.0 o })) f.in_frames));
        same_ticks = refl;
        shows = record { regions = h.regions; frames = frames_put p base ks s.frames m.locals d n a.0 f.image image' f.frame i (bytes e) put.0 h.frames a.1 f.in_frames f.in_images (length-written e z f.image i fit) keeps (omega arith) (omega (arith, inside, wide)) put.2; deep = length_set m.locals (base + d) image' ∙ h.deep; moment = h.moment };
      }

  -- a value of a region that is copied to a place of a region, as it stands
  pub record Copied (ks : List Open) (q q' : Path) (a a' : Address) (n : ℕ) (m : Memory) (s : State) : Type 0 where
    pub value : Value
    pub memory : Memory
    pub state : State
    pub by_bytes : copy n m a a' ≡ Goes memory
    pub reads : (line : ℕ) → read (in_store q) line s ≡ Done value s
    pub writes : (line : ℕ) → write (in_store q') value line s ≡ Done tt state
    pub same_ticks : state.ticks ≡ s.ticks
    pub shows : Shown p base is_held now ks memory state

  pub copy_like : (ks : List Open) (q q' : Path) (l l' : Located) (m : Memory) (s : State) → Shown p base is_held now ks m s → located p base (layouts ks) (in_store q) ≡ Some l → located p base (layouts ks) (in_store q') ≡ Some l' → is_held q.region ≡ true → is_held q'.region ≡ true → l.shape ≡ l'.shape → Copied ks q q' l.address l'.address (size l.shape) m s
  copy_like ks q q' l l' m s h at at' w w' same =
      let a = then_some (place_of (region_shape p) q) _ l at in
      let b = then_some (place_of (region_shape p) q') _ l' at' in
      let is : record { address = region_address q.region a.0.offset; shape = a.0.shape } ≡ l = let c : Some _ ≡ Some l = a.2 in cc in
      let is' : record { address = region_address q'.region b.0.offset; shape = b.0.shape } ≡ l' = let c : Some _ ≡ Some l' = b.2 in cc in
      let shape_is : a.0.shape ≡ b.0.shape = ap (λ (x : Located). x.shape) is ∙ (same ∙ sym (ap (λ (x : Located). x.shape) is')) in
      let g = (laws_of_store (region_shape p) is_held m.regions s.store).copies h.regions q q' a.0 b.0 w w' a.1 b.1 shape_is in
      let n = size a.0.shape in
      let m' : Memory = record m { regions = slice_set m.regions q'.region (Some (replaced g.1 b.0.offset (slice_range g.0 a.0.offset (a.0.offset + n)))) } in
      let put : List ℕ → List ℕ → StepOf Memory = λ here there. Goes (with_image Regions m q'.region (replaced there b.0.offset (slice_range here a.0.offset (a.0.offset + n)))) in
      record {
        value = g.2;
        memory = m';
        state = record s { store = g.8.store' };
        by_bytes = subst (λ (x : Located). copy (size x.shape) m x.address l'.address ≡ Goes m') is
            (subst (λ (x : Located). copy n m (region_address q.region a.0.offset) x.address ≡ Goes m') is'
            (ap (λ i. i >>= λ here. image_at m (region_address q'.region b.0.offset) n >>= λ there. put here there) (image_there m q.region a.0.offset n g.0 g.3 g.5)
            ∙ ap (λ i. i >>= λ there. put g.0 there) (image_there m q'.region b.0.offset n g.1 g.4 g.6)));
        reads = λ line. read_region s q g.2 line g.7;
        writes = λ line. write_region s q' g.2 line g.8.store' g.8.is;
        same_ticks = refl;
        shows = record { regions = g.8.shows; frames = h.frames; deep = h.deep; moment = h.moment };
      }

  -- ---- what the number stands for that is kept of a reference

  -- it leads to an instance, which has a place
  pub refers_named : (o : Option Path) (w : ℕ) → Refers (region_shape p) o w → (q : Path) → o ≡ Some q → (l : Located) × (located p base [] (in_store q) ≡ Some l)
  refers_named None w h q e = cc
  refers_named (Some q') w h q e =
      let d : q' ≡ q = cc in
      let f : Place → Option Located = λ x. Some (record { address = record { space = Regions; index = q'.region; offset = x.offset }; shape = x.shape }) in
      let a : located p base [] (in_store q') ≡ Some (record { address = record { space = Regions; index = q'.region; offset = h.offset }; shape = place_shape h }) = ap (λ o. o >>? f) h.place in
      subst (λ x. (l : Located) × (located p base [] (in_store x) ≡ Some l)) d (record { address = record { space = Regions; index = q'.region; offset = h.offset }; shape = place_shape h }, a)
    where
      place_shape : Names (region_shape p) q' w → Shape
      place_shape n = Instance n.class n.name n.fields

  pub refers_word : (o : Option Path) (w : ℕ) → Small p → Refers (region_shape p) o w → reference_of (pos w) ≡ path_word p base o
  refers_word None w small h = ap (λ n. reference_of (pos n)) h
  refers_word (Some q) w small h =
      let a = then_some (region_shape p q.region) _ _ h.place in
      let inside = inner_within q.steps a.0 (record { offset = h.offset; shape = Instance h.class h.name h.fields }) a.2 in
      let whole = small.size_fits q.region a.0 a.1 in
      let few = small.few q.region a.0 a.1 in
      let put : Place → Option Located = λ x. Some (record { address = record { space = Regions; index = q.region; offset = x.offset }; shape = x.shape }) in
      ap (λ n. reference_of (pos n)) h.word ∙ (geometry.decoded_region q.region h.offset few (omega (arith, inside, whole)) ∙ sym (ap (λ o. word_at p base (o >>? put)) h.place))

  -- the number that is kept of a reference to an instance, or of NULL
  pub record PathKept (o : Option Path) : Type 0 where
    pub w : ℕ
    pub keeps : kept (path_word p base o) ≡ Goes (pos w)
    pub refers : Refers (region_shape p) o w
    pub fits : Fits elem.Ulint (pos w)

  -- where the path of an instance leads
  pub record InstanceAt (q : Path) : Type 0 where
    pub offset : ℕ
    pub class : ℕ
    pub name : List ℕ
    pub fields : Fields
    pub place : place_of (region_shape p) q ≡ Some (record { offset = offset; shape = Instance class name fields })
    pub is : located p base [] (in_store q) ≡ Some (record { address = record { space = Regions; index = q.region; offset = offset }; shape = Instance class name fields })

  pub instance_at : (q : Path) (c : ℕ) (name : List ℕ) (fs : Fields) → path_shape p q ≡ Some (Instance c name fs) → InstanceAt q
  instance_at q c name fs e =
      let a = then_some (region_shape p q.region) _ (Instance c name fs) e in
      let b = has_place q.steps a.0 (Instance c name fs) a.2 in
      let there : place_of (region_shape p) q ≡ Some (record { offset = b.0; shape = Instance c name fs }) = ap (λ o. o >>? λ sh. inner_place sh q.steps) a.1 ∙ b.1 in
      let put : Place → Option Located = λ x. Some (record { address = record { space = Regions; index = q.region; offset = x.offset }; shape = x.shape }) in
      record { offset = b.0; class = c; name = name; fields = fs; place = there; is = ap (λ o. o >>? put) there }

  -- an instance begins within the first 2 ^ 32 bytes
  instance_low : (q : Path) → Small p → (x : InstanceAt q) → (q.region < 2147483647) × (x.offset < 4294967296)
  instance_low q small x =
      let a = then_some (region_shape p q.region) _ _ x.place in
      let inside = inner_within q.steps a.0 (record { offset = x.offset; shape = Instance x.class x.name x.fields }) a.2 in
      let whole = small.size_fits q.region a.0 a.1 in
      (small.few q.region a.0 a.1, omega (arith, inside, whole))

  pub path_kept : (o : Option Path) → Small p → ((q : Path) → o ≡ Some q → InstanceAt q) → PathKept o
  path_kept None small k = record { w = 0; keeps = refl; refers = refl; fits = (omega (arith, ints), omega (arith, ints)) }
  path_kept (Some q) small k =
      let x = k q refl in
      let low = instance_low q small x in
      let l0 = low.0 in
      let l1 = low.1 in
      let n = q.region * 4294967296 + x.offset + 1 in
      let lt : nat_lt n 9223372036854775808 ≡ true = lt-ltb n 9223372036854775808 (omega (arith, l0, l1)) in
      let word_is : path_word p base (Some q) ≡ word.Address (record { space = Regions; index = q.region; offset = x.offset }) = ap (word_at p base) x.is in
      record {
        w = n;
        keeps = ap kept word_is ∙ ap (λ b. if b then Goes (pos n) else stuck) lt;
        refers = record { offset = x.offset; class = x.class; name = x.name; fields = x.fields; place = x.place; word = refl };
        fits = (omega (arith, ints), omega (arith, ints, l0, l1));
      }

  -- a place lies within the first 2 ^ 32 bytes of its region, or of the locals of its call
  pub place_room : (ks : List Open) (spot : Spot) (l : Located) (m : Memory) (s : State) → Small p → Shown p base is_held now ks m s → located p base (layouts ks) spot ≡ Some l → l.address.offset + size l.shape < 4294967296
  place_room ks (in_store q) l m s small h e =
      let a = then_some (place_of (region_shape p) q) _ l e in
      let b = then_some (region_shape p q.region) _ a.0 a.1 in
      let is : record { address = region_address q.region a.0.offset; shape = a.0.shape } ≡ l = let c : Some _ ≡ Some l = a.2 in cc in
      let inside = inner_within q.steps b.0 a.0 b.2 in
      let whole = small.size_fits q.region b.0 b.1 in
      subst (λ (x : Located). x.address.offset + size x.shape < 4294967296) is (omega (arith, inside, whole))
  place_room ks (in_frame d n ss) l m s small h e =
      let a = then_some (in_layout p base (layout_at (layouts ks) d) n) _ l e in
      let b = then_some (inner_place a.0.shape ss) _ l a.2 in
      let is : record { address = local_address (base + d) (a.0.offset + b.0.offset); shape = b.0.shape } ≡ l = let c : Some _ ≡ Some l = b.2 in cc in
      let f = found p base ks s.frames m.locals d n a.0 h.frames a.1 in
      let inside = inner_within ss a.0.shape b.0 b.1 in
      let room = f.within in
      let short = f.short in
      subst (λ (x : Located). x.address.offset + size x.shape < 4294967296) is (omega (arith, inside, room, short))

  -- the address that an in-out keeps of a place is read again
  pub decoded_place : (ks : List Layout) (spot : Spot) (l : Located) → Small p → located p base ks spot ≡ Some l → l.address.offset < 4294967296 → reference_of (pos (kept_number p base l.address)) ≡ word.Address l.address
  decoded_place ks (in_store q) l small e low =
      let a = then_some (place_of (region_shape p) q) _ l e in
      let b = then_some (region_shape p q.region) _ a.0 a.1 in
      let is : record { address = region_address q.region a.0.offset; shape = a.0.shape } ≡ l = let c : Some _ ≡ Some l = a.2 in cc in
      subst (λ (x : Located). reference_of (pos (kept_number p base x.address)) ≡ word.Address x.address) is (geometry.decoded_region q.region a.0.offset (small.few q.region b.0 b.1) (subst (λ (x : Located). x.address.offset < 4294967296) (sym is) low))
  decoded_place ks (in_frame d n ss) l small e low =
      let a = then_some (in_layout p base (layout_at ks d) n) _ l e in
      let b = then_some (inner_place a.0.shape ss) _ l a.2 in
      let is : record { address = local_address (base + d) (a.0.offset + b.0.offset); shape = b.0.shape } ≡ l = let c : Some _ ≡ Some l = b.2 in cc in
      subst (λ (x : Located). reference_of (pos (kept_number p base x.address)) ≡ word.Address x.address) is (geometry.decoded_local (base + d) (a.0.offset + b.0.offset) (subst (λ (x : Located). x.address.offset < 4294967296) (sym is) low))

  -- bytes that spell a reference
  address_held : (sh : Shape) (v : Value) (image : List ℕ) (i : ℕ) → IsAddress sh → Spells (region_shape p) sh v image i → (o : Option Path) × (v ≡ reference o) × HoldsAddress (region_shape p) o image i
  address_held (Reference c name) v image i h s = s
  address_held (Interface k name) v image i h s = s
  address_held sh v image i h s = absurd h

  address_spelled : (sh : Shape) (o : Option Path) (image : List ℕ) (i : ℕ) → IsAddress sh → HoldsAddress (region_shape p) o image i → Spells (region_shape p) sh (reference o) image i
  address_spelled (Reference c name) o image i h s = (o, refl, s)
  address_spelled (Interface k name) o image i h s = (o, refl, s)
  address_spelled sh o image i h s = absurd h

  address_size : (sh : Shape) → IsAddress sh → size sh ≡ 8
  address_size (Reference c name) h = refl
  address_size (Interface k name) h = refl
  address_size sh h = absurd h

  -- a reference that is read
  pub record Loaded_reference (ks : List Open) (spot : Spot) (a : Address) (m : Memory) (s : State) : Type 0 where
    pub z : ℤ
    pub o : Option Path
    pub by_bytes : read_bytes elem.Ulint m a ≡ Goes z
    pub is : reference_of z ≡ path_word p base o
    pub names : (q : Path) → o ≡ Some q → (l : Located) × (located p base [] (in_store q) ≡ Some l)
    pub by_state : (line : ℕ) → read spot line s ≡ Done (reference o) s

  pub loadref_like : (ks : List Open) (spot : Spot) (l : Located) (m : Memory) (s : State) → Small p → Shown p base is_held now ks m s → located p base (layouts ks) spot ≡ Some l → Within p base is_held now spot → IsAddress l.shape → Loaded_reference ks spot l.address m s
  loadref_like ks (in_store q) l m s small h at w n =
      let a = then_some (place_of (region_shape p) q) _ l at in
      let is : record { address = region_address q.region a.0.offset; shape = a.0.shape } ≡ l = let c : Some _ ≡ Some l = a.2 in cc in
      let k : IsAddress a.0.shape = subst (λ (x : Located). IsAddress x.shape) (sym is) n in
      let g = (laws_of_store (region_shape p) is_held m.regions s.store).loads_reference h.regions q a.0 w a.1 k in
      record {
        z = number_at elem.Ulint g.0 a.0.offset;
        o = g.1;
        by_bytes = subst (λ (x : Located). read_bytes elem.Ulint m x.address ≡ Goes (number_at elem.Ulint g.0 a.0.offset)) is (ap (λ i. i >>= λ image. Goes (number_at elem.Ulint image a.0.offset)) (image_there m q.region a.0.offset 8 g.0 g.3 g.4));
        is = ap reference_of g.5 ∙ refers_word g.1 g.2 small g.6;
        names = refers_named g.1 g.2 g.6;
        by_state = λ line. read_region s q (reference g.1) line g.7;
      }
  loadref_like ks (in_frame d n ss) l m s small h at w k =
      let a = then_some (in_layout p base (layout_at (layouts ks) d) n) _ l at in
      let b = then_some (inner_place a.0.shape ss) _ l a.2 in
      let is : record { address = local_address (base + d) (a.0.offset + b.0.offset); shape = b.0.shape } ≡ l = let c : Some _ ≡ Some l = b.2 in cc in
      let f = found p base ks s.frames m.locals d n a.0 h.frames a.1 in
      let r = bytes_read (region_shape p) ss a.0.shape f.value f.image a.0.offset b.0 f.spells b.1 in
      let i = a.0.offset + b.0.offset in
      let kind : IsAddress b.0.shape = subst (λ (x : Located). IsAddress x.shape) (sym is) k in
      let g = address_held b.0.shape r.0 f.image i kind r.2 in
      let inside = inner_within ss a.0.shape b.0 b.1 in
      let wide = address_size b.0.shape kind in
      let room = f.within in
      let z_is : number_at elem.Ulint f.image i ≡ pos g.2.word = value_is elem.Ulint (pos g.2.word) f.image i g.2.holds in
      record {
        z = pos g.2.word;
        o = g.0;
        by_bytes = subst (λ (x : Located). read_bytes elem.Ulint m x.address ≡ Goes (pos g.2.word)) is
            (ap (λ j. j >>= λ image. Goes (number_at elem.Ulint image i)) (local_there m (base + d) i 8 f.image f.in_images (omega (arith, inside, wide, room))) ∙ ap Goes z_is);
        is = refers_word g.0 g.2.word small g.2.refers;
        names = refers_named g.0 g.2.word g.2.refers;
        by_state = λ line. ap (λ o. go_on (give_there (frame_value o n) line s) (λ v t. give_there (value_at v ss) line t)) f.in_frames
            ∙ (ap (λ o. go_on (give_there (held_by o) line s) (λ v t. give_there (value_at v ss) line t)) f.in_locals ∙ (ap (λ o. give_there o line s) r.1 ∙ ap (λ v. Done v s) g.1));
      }

  -- a reference that is written
  pub record Stored_reference (ks : List Open) (spot : Spot) (o : Option Path) (a : Address) (m : Memory) (s : State) : Type 0 where
    pub w : ℕ
    pub keeps : kept (path_word p base o) ≡ Goes (pos w)
    pub memory : Memory
    pub state : State
    pub by_bytes : write_bytes elem.Ulint m a (pos w) ≡ Goes memory
    pub by_state : (line : ℕ) → write spot (reference o) line s ≡ Done tt state
    pub same_ticks : state.ticks ≡ s.ticks
    pub shows : Shown p base is_held now ks memory state

  pub storeref_like : (ks : List Open) (spot : Spot) (l : Located) (o : Option Path) (m : Memory) (s : State) → PathKept o → Shown p base is_held now ks m s → located p base (layouts ks) spot ≡ Some l → Within p base is_held now spot → IsAddress l.shape → Stored_reference ks spot o l.address m s
  storeref_like ks (in_store q) l o m s keep h at w n =
      let a = then_some (place_of (region_shape p) q) _ l at in
      let is : record { address = region_address q.region a.0.offset; shape = a.0.shape } ≡ l = let c : Some _ ≡ Some l = a.2 in cc in
      let k : IsAddress a.0.shape = subst (λ (x : Located). IsAddress x.shape) (sym is) n in
      let g = (laws_of_store (region_shape p) is_held m.regions s.store).stores_reference h.regions q a.0 o keep.w w a.1 k keep.refers keep.fits in
      let m' : Memory = record m { regions = slice_set m.regions q.region (Some (written elem.Ulint g.0 a.0.offset (pos keep.w))) } in
      record {
        w = keep.w;
        keeps = keep.keeps;
        memory = m';
        state = record s { store = g.3.store' };
        by_bytes = subst (λ (x : Located). write_bytes elem.Ulint m x.address (pos keep.w) ≡ Goes m') is (ap (λ i. i >>= λ image. Goes (with_image Regions m q.region (written elem.Ulint image a.0.offset (pos keep.w)))) (image_there m q.region a.0.offset 8 g.0 g.1 g.2));
        by_state = λ line. write_region s q (reference o) line g.3.store' g.3.is;
        same_ticks = refl;
        shows = record { regions = g.3.shows; frames = h.frames; deep = h.deep; moment = h.moment };
      }
  storeref_like ks (in_frame d n ss) l o m s keep h at w k =
      let a = then_some (in_layout p base (layout_at (layouts ks) d) n) _ l at in
      let b = then_some (inner_place a.0.shape ss) _ l a.2 in
      let is : record { address = local_address (base + d) (a.0.offset + b.0.offset); shape = b.0.shape } ≡ l = let c : Some _ ≡ Some l = b.2 in cc in
      let f = found p base ks s.frames m.locals d n a.0 h.frames a.1 in
      let i = a.0.offset + b.0.offset in
      let kind : IsAddress b.0.shape = subst (λ (x : Located). IsAddress x.shape) (sym is) k in
      let inside = inner_within ss a.0.shape b.0 b.1 in
      let wide = address_size b.0.shape kind in
      let room = f.within in
      let fit : i + 8 ≤ length f.image = omega (arith, inside, wide, room) in
      let image' = written elem.Ulint f.image i (pos keep.w) in
      let keeps = keeps_written elem.Ulint (pos keep.w) f.image i fit in
      let put = bytes_write (region_shape p) ss a.0.shape f.value (reference o) f.image image' a.0.offset b.0 f.spells b.1 (subst (λ n. Keeps f.image image' i n) (sym wide) keeps) (address_spelled b.0.shape o image' i kind (record { word = keep.w; refers = keep.refers; holds = holds_written elem.Ulint (pos keep.w) f.image i keep.fits fit })) in
      let frame' = record f.frame { locals = slice_set f.frame.locals n (holds put.0) } in
      let m' : Memory = record m { locals = slice_set m.locals (base + d) image' } in
      record {
        w = keep.w;
        keeps = keep.keeps;
        memory = m';
        state = record s { frames = frames_with s.frames d frame' };
        by_bytes = subst (λ (x : Located). write_bytes elem.Ulint m x.address (pos keep.w) ≡ Goes m') is (ap (λ x. x >>= λ image. Goes (with_image Locals m (base + d) (written elem.Ulint image i (pos keep.w)))) (local_there m (base + d) i 8 f.image f.in_images fit));
        by_state = λ line.
            ap (λ o'. go_on (give_there (frame_value o' n) line s) (λ v t. go_on (give_there (value_with v ss (reference o)) line t) (λ w u. Done tt (record u { frames = with_local u.frames d n w (frame_at u.frames d) })))) f.in_frames
            ∙ (ap (λ o'. go_on (give_there (held_by o') line s) (λ v t. go_on (give_there (value_with v ss (reference o)) line t) (λ w u. Done tt (record u { frames = with_local u.frames d n w (frame_at u.frames d) })))) f.in_locals
            ∙ (ap (λ o'. go_on (give_there o' line s) (λ w u. Done tt (record u { frames = with_local u.frames d n w (frame_at u.frames d) }))) put.1
            ∙ ap (λ o'. Done tt (record s { frames = with_local s.frames d n put.0 o' })) f.in_frames));
        same_ticks = refl;
        shows = record { regions = h.regions; frames = frames_put p base ks s.frames m.locals d n a.0 f.image image' f.frame i 8 put.0 h.frames a.1 f.in_frames f.in_images (length-written elem.Ulint (pos keep.w) f.image i fit) keeps (omega arith) (omega (arith, inside, wide)) put.2; deep = length_set m.locals (base + d) image' ∙ h.deep; moment = h.moment };
      }

  -- ---- whether two references are equal

  one_place : (q r : Path) (x y : Place) → q.region ≡ r.region → place_of (region_shape p) q ≡ Some x → place_of (region_shape p) r ≡ Some y → IsOwn x.shape → IsOwn y.shape → x.offset ≡ y.offset → q.steps ≡ r.steps
  one_place q r x y same e f i j at =
      let a = then_some (region_shape p q.region) _ x e in
      let b = then_some (region_shape p r.region) _ y f in
      let d : Some a.0 ≡ Some b.0 = sym a.1 ∙ (ap (region_shape p) same ∙ b.1) in
      let one : a.0 ≡ b.0 = cc in
      begins_once q.steps r.steps a.0 x y a.2 (ap (λ sh. inner_place sh r.steps) one ∙ b.2) i j at

  -- one path leads to one place
  same_place : (q r : Path) (x y : Place) → q.region ≡ r.region → q.steps ≡ r.steps → place_of (region_shape p) q ≡ Some x → place_of (region_shape p) r ≡ Some y → x.offset ≡ y.offset
  same_place q r x y h k e f =
      let d : Some x ≡ Some y = sym e ∙ ((λ i. region_shape p (h i) >>? λ sh. inner_place sh (k i)) ∙ f) in
      let is : x ≡ y = cc in
      ap (λ (z : Place). z.offset) is

  pub compared_paths : (o o' : Option Path) → ((q : Path) → o ≡ Some q → InstanceAt q) → ((q : Path) → o' ≡ Some q → InstanceAt q) → same_reference (path_word p base o) (path_word p base o') ≡ same_path o o'
  compared_paths None None h k = refl
  compared_paths None (Some r) h k = ap (same_reference word.Null) (ap (word_at p base) (k r refl).is)
  compared_paths (Some q) None h k = ap (λ w. same_reference w word.Null) (ap (word_at p base) (h q refl).is)
  compared_paths (Some q) (Some r) h k =
      let x = h q refl in
      let y = k r refl in
      let a : Address = record { space = Regions; index = q.region; offset = x.offset } in
      ap (λ w. same_reference w (path_word p base (Some r))) (ap (word_at p base) x.is)
      ∙ (ap (same_reference (word.Address a)) (ap (word_at p base) y.is) ∙ by x y (nat_eq q.region r.region) refl)
    where
      steps_by : (x : InstanceAt q) (y : InstanceAt r) → q.region ≡ r.region → (b c : Bool) → nat_eq x.offset y.offset ≡ b → same_steps q.steps r.steps ≡ c → b ≡ c
      steps_by x y s true true e f = refl
      steps_by x y s false false e f = refl
      steps_by x y s true false e f =
          let z = one_place q r (record { offset = x.offset; shape = Instance x.class x.name x.fields }) (record { offset = y.offset; shape = Instance y.class y.name y.fields }) s x.place y.place tt tt (eqb-true x.offset y.offset e) in
          absurd (clash (sym (subst (λ ts. same_steps q.steps ts ≡ true) z (same_steps_self q.steps)) ∙ f))
      steps_by x y s false true e f =
          let z = same_place q r (record { offset = x.offset; shape = Instance x.class x.name x.fields }) (record { offset = y.offset; shape = Instance y.class y.name y.fields }) s (same_steps_is q.steps r.steps f) x.place y.place in
          absurd (clash (sym (eq-eqb x.offset y.offset z) ∙ e))

      by : (x : InstanceAt q) (y : InstanceAt r) (b : Bool) → nat_eq q.region r.region ≡ b → (nat_eq q.region r.region && nat_eq x.offset y.offset) ≡ (nat_eq q.region r.region && same_steps q.steps r.steps)
      by x y false e = ap (λ b. b && nat_eq x.offset y.offset) e ∙ sym (ap (λ b. b && same_steps q.steps r.steps) e)
      by x y true e = ap (λ b. nat_eq q.region r.region && b) (steps_by x y (eqb-true q.region r.region e) (nat_eq x.offset y.offset) (same_steps q.steps r.steps) refl refl)

  -- ---- the class of an instance

  pub class_like : (enter : Enter) (ks : List Open) (q : Path) (l : Located) (c : ℕ) (name : List ℕ) (fs : Fields) (m : Memory) (s : State) → Shown p base is_held now ks m s → located p base (layouts ks) (in_store q) ≡ Some l → is_held q.region ≡ true → l.shape ≡ Instance c name fs → class_number p name ≡ Some c
      → (class_at m l.address ≡ Goes c) × ((line : ℕ) → class_at_spot p enter (in_store q) line s ≡ Done c s)
  class_like enter ks q l c name fs m s h at w sh n =
      let a = then_some (place_of (region_shape p) q) _ l at in
      let is : record { address = region_address q.region a.0.offset; shape = a.0.shape } ≡ l = let e : Some _ ≡ Some l = a.2 in cc in
      let k : a.0.shape ≡ Instance c name fs = ap (λ (x : Located). x.shape) is ∙ sh in
      let laws = laws_of_store (region_shape p) is_held m.regions s.store in
      let g = laws.loads_class h.regions q a.0 c name fs w a.1 k in
      let v = laws.stands h.regions q a.0 w a.1 in
      let spelled = subst (λ x. Spells (region_shape p) x v.value v.image a.0.offset) k v.spells in
      let here : read_bytes elem.Ulint m l.address ≡ Goes (pos c) =
      subst (λ (x : Located). read_bytes elem.Ulint m x.address ≡ Goes (pos c)) is
      (ap (λ i. i >>= λ image. Goes (number_at elem.Ulint image a.0.offset)) (image_there m q.region a.0.offset 8 g.0 g.1 g.2) ∙ ap Goes g.3) in (
        ap (λ x. x >>= λ z. Goes (unsigned_abs z)) here,
        λ line. ap (λ o. go_on o (λ v t. give_there (class_in v >>? class_number p) line t)) (read_region s q v.value line v.reads)
            ∙ (ap (λ x. give_there (class_in x >>? class_number p) line s) spelled.1 ∙ ap (λ o. give_there o line s) n),
      )

  -- ---- one step further

  pub located_into : (ks : List Layout) (spot : Spot) (t : Step) (l : Located) (x : Place) → located p base ks spot ≡ Some l → part_place l.shape t ≡ Some x → located p base ks (into spot t) ≡ Some (record { address = record l.address { offset = l.address.offset + x.offset }; shape = x.shape })
  located_into ks spot t l x e f = geometry.located_into p base ks spot t l x e f
