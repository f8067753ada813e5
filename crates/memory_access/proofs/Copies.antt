-- Whole values are copied: from a place, or from bytes that are kept behind the locals, to a place, or behind the locals.
use Rattle.std.proofs.Common.{◌≡◌, ◌≤◌, ℕ, ◌+◌, Bool, List, [], ◌∷◌, length, Some, refl, sym, ap, ◌∙◌, subst, arith}
use Rattle.std.specs.Prelude.{slice_set, slice_range}
use Rattle.mem_image.specs.Image.{replaced}
use Rattle.mem_image.proofs.PartLaws.{length-range, length-replaced, holds as range_replaced}
use Rattle.st_values.specs.Program.{Program}
use Rattle.st_values.specs.Value.{Value, value_at, value_with, at, put}
use Rattle.st_values.specs.Shape.{Shape, region_shape}
use Rattle.st_values.proofs.ValueLaws.{then_some}
use Rattle.st_meaning.specs.State.{Spot, in_store, in_frame, Frame, State, Done, go_on, write, there as give_there, holds, held_by, frame_value, frame_at, frames_with, with_local}
use Rattle.stack_code.specs.declared.memory.Space.TheVariants.{Locals}
use Rattle.stack_code.specs.declared.memory.Address.{Address}
use Rattle.stack_code.specs.Steps.{Goes, ◌>>=◌}
use Rattle.stack_code.specs.Memory.{Memory, image_at, with_image, copy}
use Rattle.mem_layout.specs.store_bytes.Place.{size, place_of, inner_place}
use Rattle.mem_layout.specs.store_bytes.Spells.{Spells}
use Rattle.mem_layout.specs.store_bytes.StoreLaws.{Keeps}
use Rattle.mem_layout.proofs.store_bytes.Store.{laws_of_store}
use Rattle.mem_layout.proofs.store_bytes.Image.{spelling_laws}
use Rattle.mem_layout.proofs.store_bytes.Leaves.{keeps_part}
use Rattle.mem_layout.proofs.store_bytes.Suits.{whole_range}
use Rattle.mem_layout.proofs.store_bytes.Moves.{read as bytes_read}
use Rattle.mem_layout.proofs.store_bytes.Writes.{inner_within, write as bytes_write}
use Rattle.shown_memory.proofs.Locals.{found, frames_put, kept_room, block_there}
use Rattle.shown_memory.specs.Shown.{Kept, Open, layouts, layout_at, in_layout, Located, located, Shown, FramesShown}
use Rattle.memory_access.specs.Access.{Within, PlaceBytes, PlacePut}
use Rattle.memory_access.proofs.Likes.{region_address, image_there, local_address, local_there, length_set, read_region, write_region}

module _ (p : Program) (base : ℕ) (is_held : ℕ → Bool) (now : ℕ) where
  -- ---- a place as a source

  pub place_bytes : (ks : List Open) (spot : Spot) (l : Located) (m : Memory) (s : State) → Shown p base is_held now ks m s → located p base (layouts ks) spot ≡ Some l → Within p base is_held now spot → PlaceBytes p base is_held now spot l m s
  place_bytes ks (in_store q) l m s h e w =
      let a = then_some (place_of (region_shape p) q) _ l e in
      let is : record { address = region_address q.region a.0.offset; shape = a.0.shape } ≡ l = let c : Some _ ≡ Some l = a.2 in cc in
      let g = (laws_of_store (region_shape p) is_held m.regions s.store).stands h.regions q a.0 w a.1 in
      subst (λ (x : Located). PlaceBytes p base is_held now (in_store q) x m s) is
      (record { value = g.value; image = g.image; inside = g.within; there = image_there m q.region a.0.offset (size a.0.shape) g.image g.there g.within; spells = g.spells; reads = λ line. read_region s q g.value line g.reads })
  place_bytes ks (in_frame d n ss) l m s h e w =
      let a = then_some (in_layout p base (layout_at (layouts ks) d) n) _ l e in
      let b = then_some (inner_place a.0.shape ss) _ l a.2 in
      let is : record { address = local_address (base + d) (a.0.offset + b.0.offset); shape = b.0.shape } ≡ l = let c : Some _ ≡ Some l = b.2 in cc in
      let f = found p base ks s.frames m.locals d n a.0 h.frames a.1 in
      let r = bytes_read (region_shape p) ss a.0.shape f.value f.image a.0.offset b.0 f.spells b.1 in
      let inside = inner_within ss a.0.shape b.0 b.1 in
      let room = f.within in
      let fit : a.0.offset + b.0.offset + size b.0.shape ≤ length f.image = omega (arith, inside, room) in
      subst (λ (x : Located). PlaceBytes p base is_held now (in_frame d n ss) x m s) is
      (record {
        value = r.0;
        image = f.image;
        inside = fit;
        there = local_there m (base + d) (a.0.offset + b.0.offset) (size b.0.shape) f.image f.in_images fit;
        spells = r.2;
        reads = λ line. ap (λ o. go_on (give_there (frame_value o n) line s) (λ v t. give_there (value_at v ss) line t)) f.in_frames
            ∙ (ap (λ o. go_on (give_there (held_by o) line s) (λ v t. give_there (value_at v ss) line t)) f.in_locals ∙ ap (λ o. give_there o line s) r.1);
      })

  -- ---- a place as a target

  -- what is put somewhere is spelled there
  pub spelled_there : (sh : Shape) (v : Value) (image bytes : List ℕ) (i : ℕ) → length bytes ≡ size sh → i + size sh ≤ length image → Spells (region_shape p) sh v bytes 0 → Spells (region_shape p) sh v (replaced image i bytes) i
  spelled_there sh v image bytes i long fit spells =
      let same : slice_range (replaced image i bytes) i (i + length bytes) ≡ bytes = range_replaced image bytes i (omega (arith, long, fit)) in
      let whole : slice_range bytes 0 (0 + size sh) ≡ bytes = whole_range bytes (size sh) long in
      (spelling_laws (region_shape p)).anywhere sh v bytes (replaced image i bytes) 0 i (ap (λ n. slice_range (replaced image i bytes) i (i + n)) (sym long) ∙ (same ∙ sym whole)) spells

  pub keeps_there : (image bytes : List ℕ) (i n : ℕ) → length bytes ≡ n → i + n ≤ length image → Keeps image (replaced image i bytes) i n
  keeps_there image bytes i n long fit = subst (Keeps image (replaced image i bytes) i) long (keeps_part image bytes i (omega (arith, long, fit)))

  pub place_put : (ks : List Open) (spot : Spot) (l : Located) (v : Value) (bytes : List ℕ) (m : Memory) (s : State) → Shown p base is_held now ks m s → located p base (layouts ks) spot ≡ Some l → Within p base is_held now spot → length bytes ≡ size l.shape → Spells (region_shape p) l.shape v bytes 0 → PlacePut p base is_held now ks spot l v bytes m s
  place_put ks (in_store q) l v bytes m s h e w long spells =
      let a = then_some (place_of (region_shape p) q) _ l e in
      let is : record { address = region_address q.region a.0.offset; shape = a.0.shape } ≡ l = let c : Some _ ≡ Some l = a.2 in cc in
      let laws = laws_of_store (region_shape p) is_held m.regions s.store in
      let g = laws.stands h.regions q a.0 w a.1 in
      let long' : length bytes ≡ size a.0.shape = long ∙ sym (ap (λ (x : Located). size x.shape) is) in
      let spells' : Spells (region_shape p) a.0.shape v bytes 0 = subst (λ (x : Located). Spells (region_shape p) x.shape v bytes 0) (sym is) spells in
      let fit = g.within in
      let put = laws.puts h.regions q a.0 g.image (replaced g.image a.0.offset bytes) v w a.1 g.there (keeps_there g.image bytes a.0.offset (size a.0.shape) long' fit) (length-replaced g.image bytes a.0.offset (omega (arith, long', fit))) (spelled_there a.0.shape v g.image bytes a.0.offset long' fit spells') in
      subst (λ (x : Located). PlacePut p base is_held now ks (in_store q) x v bytes m s) is
      (record {
        image = g.image;
        state = record s { store = put.store' };
        there = image_there m q.region a.0.offset (size a.0.shape) g.image g.there fit;
        writes = λ line. write_region s q v line put.store' put.is;
        same_ticks = refl;
        shows = record { regions = put.shows; frames = h.frames; deep = h.deep; moment = h.moment };
      })
  place_put ks (in_frame d n ss) l v bytes m s h e w long spells =
      let a = then_some (in_layout p base (layout_at (layouts ks) d) n) _ l e in
      let b = then_some (inner_place a.0.shape ss) _ l a.2 in
      let is : record { address = local_address (base + d) (a.0.offset + b.0.offset); shape = b.0.shape } ≡ l = let c : Some _ ≡ Some l = b.2 in cc in
      let f = found p base ks s.frames m.locals d n a.0 h.frames a.1 in
      let i = a.0.offset + b.0.offset in
      let long' : length bytes ≡ size b.0.shape = long ∙ sym (ap (λ (x : Located). size x.shape) is) in
      let spells' : Spells (region_shape p) b.0.shape v bytes 0 = subst (λ (x : Located). Spells (region_shape p) x.shape v bytes 0) (sym is) spells in
      let inside = inner_within ss a.0.shape b.0 b.1 in
      let room = f.within in
      let fit : i + size b.0.shape ≤ length f.image = omega (arith, inside, room) in
      let image' = replaced f.image i bytes in
      let keeps = keeps_there f.image bytes i (size b.0.shape) long' fit in
      let put = bytes_write (region_shape p) ss a.0.shape f.value v f.image image' a.0.offset b.0 f.spells b.1 keeps (spelled_there b.0.shape v f.image bytes i long' fit spells') in
      let frame' = record f.frame { locals = slice_set f.frame.locals n (holds put.0) } in
      subst (λ (x : Located). PlacePut p base is_held now ks (in_frame d n ss) x v bytes m s) is
      (record {
        image = f.image;
        state = record s { frames = frames_with s.frames d frame' };
        there = local_there m (base + d) i (size b.0.shape) f.image f.in_images fit;
        writes = λ line.
            ap (λ o. go_on (give_there (frame_value o n) line s) (λ v' t. go_on (give_there (value_with v' ss v) line t) (λ w u. Done tt (record u { frames = with_local u.frames d n w (frame_at u.frames d) })))) f.in_frames
            ∙ (ap (λ o. go_on (give_there (held_by o) line s) (λ v' t. go_on (give_there (value_with v' ss v) line t) (λ w u. Done tt (record u { frames = with_local u.frames d n w (frame_at u.frames d) })))) f.in_locals
            ∙ (ap (λ o. go_on (give_there o line s) (λ w u. Done tt (record u { frames = with_local u.frames d n w (frame_at u.frames d) }))) put.1
            ∙ ap (λ o. Done tt (record s { frames = with_local s.frames d n put.0 o })) f.in_frames));
        same_ticks = refl;
        shows = record { regions = h.regions; frames = frames_put p base ks s.frames m.locals d n a.0 f.image image' f.frame i (size b.0.shape) put.0 h.frames a.1 f.in_frames f.in_images (length-replaced f.image bytes i (omega (arith, long', fit))) keeps (omega arith) (omega (arith, inside)) put.2; deep = length_set m.locals (base + d) image' ∙ h.deep; moment = h.moment };
      })

  -- ---- from place to place, whether in regions or in locals, and within one of them too

  pub record Assigned (ks : List Open) (to : Spot) (a b : Address) (n : ℕ) (v : Value) (m : Memory) (s : State) : Type 0 where
    pub memory : Memory
    pub state : State
    pub by_bytes : copy n m a b ≡ Goes memory
    pub writes : (line : ℕ) → write to v line s ≡ Done tt state
    pub same_ticks : state.ticks ≡ s.ticks
    pub shows : Shown p base is_held now ks memory state

  -- bytes that stand at an address, and spell a value
  pub copy_from : (ks : List Open) (to : Spot) (l : Located) (a : Address) (v : Value) (image : List ℕ) (m : Memory) (s : State) → Shown p base is_held now ks m s → located p base (layouts ks) to ≡ Some l → Within p base is_held now to → image_at m a (size l.shape) ≡ Goes image → a.offset + size l.shape ≤ length image → Spells (region_shape p) l.shape v (slice_range image a.offset (a.offset + size l.shape)) 0
      → Assigned ks to a l.address (size l.shape) v m s
  copy_from ks to l a v image m s h e w there fit spells =
      let bytes = slice_range image a.offset (a.offset + size l.shape) in
      let long = length-range image a.offset (size l.shape) fit in
      let x = place_put ks to l v bytes m s h e w long spells in
      record {
        memory = with_image l.address.space m l.address.index (replaced x.image l.address.offset bytes);
        state = x.state;
        by_bytes = ap (λ i. i >>= λ here. image_at m l.address (size l.shape) >>= λ there. Goes (with_image l.address.space m l.address.index (replaced there l.address.offset (slice_range here a.offset (a.offset + size l.shape))))) there
            ∙ ap (λ i. i >>= λ there. Goes (with_image l.address.space m l.address.index (replaced there l.address.offset bytes))) x.there;
        writes = x.writes;
        same_ticks = x.same_ticks;
        shows = x.shows;
      }

  -- what stands in an image, by its own bytes
  taken_out : (sh : Shape) (v : Value) (image : List ℕ) (i : ℕ) → i + size sh ≤ length image → Spells (region_shape p) sh v image i → Spells (region_shape p) sh v (slice_range image i (i + size sh)) 0
  taken_out sh v image i fit spells =
      let long = length-range image i (size sh) fit in
      (spelling_laws (region_shape p)).anywhere sh v image (slice_range image i (i + size sh)) i 0 (whole_range (slice_range image i (i + size sh)) (size sh) long) spells

  pub copy_place : (ks : List Open) (from to : Spot) (l l' : Located) (m : Memory) (s : State) → Shown p base is_held now ks m s → located p base (layouts ks) from ≡ Some l → located p base (layouts ks) to ≡ Some l' → Within p base is_held now from → Within p base is_held now to → l.shape ≡ l'.shape
      → (x : PlaceBytes p base is_held now from l m s) × Assigned ks to l.address l'.address (size l'.shape) x.value m s
  copy_place ks from to l l' m s h e e' w w' same =
      let x = place_bytes ks from l m s h e w in
      let n : size l.shape ≡ size l'.shape = ap size same in
      let fit = x.inside in (
        x,
        copy_from ks to l' l.address x.value x.image m s h e' w' (ap (image_at m l.address) (sym n) ∙ x.there) (omega (arith, n, fit))
            (subst (λ k. Spells (region_shape p) l'.shape x.value (slice_range x.image l.address.offset (l.address.offset + k)) 0) n
            (subst (λ sh. Spells (region_shape p) sh x.value (slice_range x.image l.address.offset (l.address.offset + size l.shape)) 0) same (taken_out l.shape x.value x.image l.address.offset x.inside x.spells))),
      )

  -- ---- values that are kept behind the locals

  abbrev pub behind_locals : List Open → ℕ → Address
  behind_locals ks offset = local_address (base + length ks) offset

  pub record KeptThere (k : Open) (ks : List Open) (l : Located) (v : Value) (m : Memory) (s : State) : Type 0 where
    pub memory : Memory
    pub bytes : List ℕ
    pub by_bytes : copy (size l.shape) m l.address (behind_locals ks k.free) ≡ Goes memory
    pub long : length bytes ≡ size l.shape
    pub spells : Spells (region_shape p) l.shape v bytes 0
    pub shows : Shown p base is_held now (record k { free = k.free + size l.shape; kept = record { from = k.free; bytes = bytes } ∷ k.kept } ∷ ks) memory s

  -- from a place
  pub keep_place : (k : Open) (ks : List Open) (from : Spot) (l : Located) (m : Memory) (s : State) → Shown p base is_held now (k ∷ ks) m s → located p base (layouts (k ∷ ks)) from ≡ Some l → Within p base is_held now from → k.free + size l.shape ≤ k.long
      → (x : PlaceBytes p base is_held now from l m s) × KeptThere k ks l x.value m s
  keep_place k ks from l m s h e w room = (place_bytes (k ∷ ks) from l m s h e w, by (place_bytes (k ∷ ks) from l m s h e w) s.frames refl h.frames)
    where
      by : (x : PlaceBytes p base is_held now from l m s) (fs : List Frame) → s.frames ≡ fs → FramesShown p base (k ∷ ks) fs m.locals → KeptThere k ks l x.value m s
      by x [] q g = absurd g
      by x (f ∷ fs) q g =
          let o = g.0 in
          let n = size l.shape in
          let old = slice_range x.image l.address.offset (l.address.offset + n) in
          let long = length-range x.image l.address.offset n x.inside in
          let image_long = o.long in
          let fit : k.free + n ≤ length o.image = omega (arith, image_long, room) in
          let image' = replaced o.image k.free old in
          let same = length-replaced o.image old k.free (omega (arith, long, fit)) in
          let keeps = keeps_there o.image old k.free n long fit in
          let m' : Memory = record m { locals = slice_set m.locals (base + length ks) image' } in
          let bytes = slice_range image' k.free (k.free + n) in
          let frames = kept_room p base n k ks (f ∷ fs) m.locals o.image image' g o.there same keeps room in
          record {
            memory = m';
            bytes = bytes;
            by_bytes = ap (λ i. i >>= λ here. image_at m (behind_locals ks k.free) n >>= λ there. Goes (with_image Locals m (base + length ks) (replaced there k.free (slice_range here l.address.offset (l.address.offset + n))))) x.there
                ∙ ap (λ i. i >>= λ there. Goes (with_image Locals m (base + length ks) (replaced there k.free old))) (local_there m (base + length ks) k.free n o.image o.there fit);
            long = length-range image' k.free n (omega (arith, same, fit));
            spells = taken_out l.shape x.value image' k.free (omega (arith, same, fit)) (spelled_there l.shape x.value o.image old k.free long fit (taken_out l.shape x.value x.image l.address.offset x.inside x.spells));
            shows = record { regions = h.regions; frames = subst (λ y. FramesShown p base (record k { free = k.free + n; kept = record { from = k.free; bytes = bytes } ∷ k.kept } ∷ ks) y (slice_set m.locals (base + length ks) image')) (sym q) frames; deep = length_set m.locals (base + length ks) image' ∙ h.deep; moment = h.moment };
          }

  -- and to a place
  pub put_kept : (k : Open) (ks : List Open) (at : ℕ) (bytes : List ℕ) (rest : List Kept) (to : Spot) (l : Located) (v : Value) (m : Memory) (s : State) → Shown p base is_held now (record k { kept = record { from = at; bytes = bytes } ∷ rest } ∷ ks) m s → located p base (layouts (k ∷ ks)) to ≡ Some l → Within p base is_held now to
      → length bytes ≡ size l.shape → Spells (region_shape p) l.shape v bytes 0 → Assigned (record k { kept = record { from = at; bytes = bytes } ∷ rest } ∷ ks) to (behind_locals ks at) l.address (size l.shape) v m s
  put_kept k ks at bytes rest to l v m s h e w long spells =
      let b = block_there p base k ks s.frames m.locals at bytes rest h.frames in
      let inside = b.2 in
      let fit : at + size l.shape ≤ length b.0 = omega (arith, long, inside) in
      copy_from (record k { kept = record { from = at; bytes = bytes } ∷ rest } ∷ ks) to l (behind_locals ks at) v b.0 m s h e w (local_there m (base + length ks) at (size l.shape) b.0 b.1 fit) fit
      (subst (λ xs. Spells (region_shape p) l.shape v xs 0) (sym (ap (λ n. slice_range b.0 at (at + n)) (sym long) ∙ b.3)) spells)
