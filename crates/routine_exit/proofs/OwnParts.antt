-- Variables of the own instance, written before a routine has its frame.
use Rattle.std.proofs.Common.{length, arith, ◌≡◌, ◌<◌, ℕ, ◌+◌, ℤ, pos, Bool, true, List, [], ◌∷◌, ◌++◌, Option, Some, None, refl, sym, ap, ◌∙◌, subst}
use Rattle.std.specs.Prelude.{slice_range, slice_get, slice_set}
use Rattle.mem_image.specs.Image.{replaced, written}
use Rattle.mem_image.proofs.PartLaws.{length-replaced}
use Rattle.st_values.specs.Value.{Value, number, Store, reference}
use Rattle.st_values.specs.Shape.{shape_of, Shape, Instance, region_shape}
use Rattle.st_values.proofs.ShapeLaws.{shape_laws}
use Rattle.st_meaning.proofs.st_frame.Unfolded.{within_bound}
use Rattle.stack_code.specs.Memory.{Memory, image_at, copy as copy_bytes, write as write_bytes, with_image, moved}
use Rattle.mem_layout.specs.store_bytes.Spells.{Spells, Shows, Refers}
use Rattle.code_rules.specs.Places.{is_large, field_offset}
use Rattle.memory_access.proofs.Copies.{keeps_there, spelled_there}
use Rattle.memory_access.proofs.Worded.{large_plain}
use Rattle.routine_entry.proofs.Entry.{OwnCopied, OwnWritten}
use Rattle.memory_access.proofs.NumberKinds.{KindIs, kind_plain, kind_shape}
use Rattle.st_types.specs.declared.elem.Elem.{Elem}
use Rattle.st_types.specs.Elem.{bytes}
use Rattle.st_types.specs.Range.{Fits}
use Rattle.st_types.specs.declared.st_type.StType.{StType}
use Rattle.st_types.specs.declared.elem.Elem.TheVariants as elem
use Rattle.st_types.specs.declared.st_type.StType.TheVariants as type
use Rattle.st_tree.specs.declared.path.Path.{Path}
use Rattle.st_tree.specs.declared.path.Step.TheVariants as step
use Rattle.st_values.specs.Program.{Variable, Routine, Program, class_variables}
use Rattle.st_values.specs.ShapeLaws.{Unfolds}
use Rattle.st_values.proofs.ValueLaws.{then_some}
use Rattle.st_meaning.specs.State.{Spot, in_store, State, Done, into, write}
use Rattle.st_meaning.specs.st_frame.Good.{Names}
use Rattle.st_meaning.specs.st_frame.Promise.Programs.{ProgramIs}
use Rattle.st_meaning.specs.st_frame.Promise.Calls.{own_variable}
use Rattle.st_meaning.specs.st_frame.Promise.Types.{IsNoInstance, IsHeld}
use Rattle.st_meaning.proofs.st_frame.Spots.{Meets, exactly, member_meets, by_name, as_plain, spot_shape}
use Rattle.stack_code.specs.declared.memory.Space.TheVariants.{Regions}
use Rattle.stack_code.specs.declared.memory.Address.{Address}
use Rattle.stack_code.specs.Steps.{Goes, ◌>>=◌}
use Rattle.mem_layout.specs.store_bytes.Place.{place_of, size}
use Rattle.mem_layout.proofs.store_bytes.Writes.{part_within, inner_within}
use Rattle.mem_layout.specs.store_bytes.StoreLaws.{IsNumber, IsAddress}
use Rattle.mem_layout.proofs.store_bytes.Store.{laws_of_store}
use Rattle.code_rules.specs.Code.{class_of}
use Rattle.shown_memory.proofs.Parts.{located_known, variable_part}
use Rattle.shown_memory.specs.Shown.{Layout, Located, located, Small}
use Rattle.shown_memory.proofs.Geometry as geometry
use Rattle.memory_access.proofs.Likes.{image_there, write_region}

some_located : {a b : Located} → Some a ≡ Some b → a ≡ b
some_located e = cc

module _ (p : Program) (fine : ProgramIs p) (is_there : ℕ → Bool) (W : ℕ → Type 0) (base : ℕ) where
  -- a variable of an instance lies where its class, or a base, has it: `part_lies` of a path
  pub own_part : (small : Small p) (y : Path) (c k : ℕ) (v : Variable) (l : Located) → Names p y (type.Instance c) → slice_get (class_variables p c) k ≡ Some v → located p base [] (in_store y) ≡ Some l
      → (moved l.address (field_offset p (type.Instance c) k) ≡ Goes (record l.address { offset = l.address.offset + field_offset p (type.Instance c) k }))
      × ((sh : Shape) × (located p base [] (into (in_store y) (step.Field k)) ≡ Some (record { address = record l.address { offset = l.address.offset + field_offset p (type.Instance c) k }; shape = sh })))
  own_part small y c k v l n e at =
      let a = then_some (place_of (region_shape p) y) _ l at in
      let b = then_some (region_shape p y.region) _ a.0 a.1 in
      let is : record { address = record { space = Regions; index = y.region; offset = a.0.offset }; shape = a.0.shape } ≡ l = some_located a.2 in
      let inside = inner_within y.steps b.0 a.0 b.2 in
      let whole = small.size_fits y.region b.0 b.1 in
      let room : l.address.offset + size l.shape < 4294967296 = subst (λ (x : Located). x.address.offset + size x.shape < 4294967296) is (omega (arith, inside, whole)) in
      let here = geometry.spot_located p base [] (in_store y) (Instance n.class n.name n.fields) n.there in
      let shape_is : Instance n.class n.name n.fields ≡ l.shape = sym here.2 ∙ ap (λ (x : Located). x.shape) (some_located (sym here.1 ∙ at)) in
      let meets : Meets p (Some l.shape) (type.Instance c) = subst (λ o. Meets p o (type.Instance c)) (n.there ∙ ap (λ sh. Some sh) shape_is) (by_name p fine y c n) in
      let part = variable_part p fine (type.Instance c) v.kind k l.shape (v, e, refl) meets (located_known p base [] (in_store y) l at) in
      let part_inside = part_within l.shape (step.Field k) part.place part.there in
      let o = part.offset in
      let next = geometry.located_into p base [] (in_store y) (step.Field k) l part.place at part.there in
      (geometry.moved_by p fine l.address (field_offset p (type.Instance c) k) (omega (arith, room, part_inside, o)), (part.place.shape, next ∙ ap (λ n. Some (record { address = record l.address { offset = l.address.offset + n }; shape = part.place.shape })) (sym o)))

  -- a number that is written to a region, whatever the locals are
  pub record Region_written (q : Path) (e : Elem) (a : Address) (z : ℤ) (s0 : State) (rs : List (Option (List ℕ))) (st : Store) : Type 0 where
    pub regions' : List (Option (List ℕ))
    pub store' : Store
    pub by_bytes : (locals : List (List ℕ)) → write_bytes e (record { regions = rs; locals = locals }) a z ≡ Goes (record { regions = regions'; locals = locals })
    pub by_state : (line : ℕ) → write (in_store q) (number z) line (record s0 { store = st }) ≡ Done tt (record s0 { store = store' })
    pub shows : Shows (region_shape p) is_there regions' store'

  pub region_written : (q : Path) (e : Elem) (l : Located) (z : ℤ) (s0 : State) (rs : List (Option (List ℕ))) (st : Store) → Shows (region_shape p) is_there rs st → located p base [] (in_store q) ≡ Some l → is_there q.region ≡ true → IsNumber l.shape e → Fits e z
      → Region_written q e l.address z s0 rs st
  region_written q e l z s0 rs st h at w n f =
      let a = then_some (place_of (region_shape p) q) _ l at in
      let here : Located = record { address = record { space = Regions; index = q.region; offset = a.0.offset }; shape = a.0.shape } in
      let is : here ≡ l = some_located a.2 in
      let k : IsNumber a.0.shape e = subst (λ (x : Located). IsNumber x.shape e) (sym is) n in
      let g = (laws_of_store (region_shape p) is_there rs st).stores h q a.0 e z w a.1 k f in
      let rs' : List (Option (List ℕ)) = slice_set rs q.region (Some (written e g.0 a.0.offset z)) in
      record {
        regions' = rs';
        store' = g.3.store';
        by_bytes = λ locals. subst (λ (x : Located). write_bytes e (record { regions = rs; locals = locals }) x.address z ≡ Goes (record { regions = rs'; locals = locals })) is
            (ap (λ i. i >>= λ image. Goes (with_image Regions (record { regions = rs; locals = locals }) q.region (written e image a.0.offset z))) (image_there (record { regions = rs; locals = locals }) q.region a.0.offset (bytes e) g.0 g.1 g.2));
        by_state = λ line. write_region (record s0 { store = st }) q (number z) line g.3.store' g.3.is;
        shows = g.3.shows;
      }

  -- and a reference
  pub record Reference_written (q : Path) (a : Address) (w : ℕ) (path : Option Path) (s0 : State) (rs : List (Option (List ℕ))) (st : Store) : Type 0 where
    pub regions' : List (Option (List ℕ))
    pub store' : Store
    pub by_bytes : (locals : List (List ℕ)) → write_bytes elem.Ulint (record { regions = rs; locals = locals }) a (pos w) ≡ Goes (record { regions = regions'; locals = locals })
    pub by_state : (line : ℕ) → write (in_store q) (reference path) line (record s0 { store = st }) ≡ Done tt (record s0 { store = store' })
    pub shows : Shows (region_shape p) is_there regions' store'

  pub reference_written : (q : Path) (l : Located) (w : ℕ) (path : Option Path) (s0 : State) (rs : List (Option (List ℕ))) (st : Store) → Shows (region_shape p) is_there rs st → located p base [] (in_store q) ≡ Some l → is_there q.region ≡ true → IsAddress l.shape → Refers (region_shape p) path w → Fits elem.Ulint (pos w)
      → Reference_written q l.address w path s0 rs st
  reference_written q l w path s0 rs st h at there_is n refers f =
      let a = then_some (place_of (region_shape p) q) _ l at in
      let here : Located = record { address = record { space = Regions; index = q.region; offset = a.0.offset }; shape = a.0.shape } in
      let is : here ≡ l = some_located a.2 in
      let k : IsAddress a.0.shape = subst (λ (x : Located). IsAddress x.shape) (sym is) n in
      let g = (laws_of_store (region_shape p) is_there rs st).stores_reference h q a.0 path w there_is a.1 k refers f in
      let rs' : List (Option (List ℕ)) = slice_set rs q.region (Some (written elem.Ulint g.0 a.0.offset (pos w))) in
      record {
        regions' = rs';
        store' = g.3.store';
        by_bytes = λ locals. subst (λ (x : Located). write_bytes elem.Ulint (record { regions = rs; locals = locals }) x.address (pos w) ≡ Goes (record { regions = rs'; locals = locals })) is
            (ap (λ i. i >>= λ image. Goes (with_image Regions (record { regions = rs; locals = locals }) q.region (written elem.Ulint image a.0.offset (pos w)))) (image_there (record { regions = rs; locals = locals }) q.region a.0.offset 8 g.0 g.1 g.2));
        by_state = λ line. write_region (record s0 { store = st }) q (reference path) line g.3.store' g.3.is;
        shows = g.3.shows;
      }

  -- the own instance of a routine, and its address
  pub record OwnThere (x : Routine) (q : Option Path) (own : Option Address) (c : ℕ) : Type 0 where
    pub path : Path
    pub place : Located
    pub path_is : q ≡ Some path
    pub own_is : own ≡ Some place.address
    pub is : located p base [] (in_store path) ≡ Some place
    pub names : Names p path (type.Instance c)
    pub there : is_there path.region ≡ true

  pub own_written : (small : Small p) (ls : List Layout) (start : Address) (bs : List ℕ) (x : Routine) (q : Option Path) (own : Option Address) (s0 : State) → ((c : ℕ) → x.class ≡ Some c → OwnThere x q own c) → (k : ℕ) (v : Variable) (e : Elem) (z : ℤ) (rs : List (Option (List ℕ))) (st : Store)
      → own_variable p x.class k ≡ Some v → KindIs v.kind e → Fits e z → Shows (region_shape p) is_there rs st → OwnWritten p base x ls start bs is_there own q s0 k e z (number z) rs st
  own_written small ls start bs x q own s0 have k v e z rs st there kind fits shows = by x.class refl there
    where
      by : (c : Option ℕ) → x.class ≡ c → own_variable p c k ≡ Some v → OwnWritten p base x ls start bs is_there own q s0 k e z (number z) rs st
      by None is there = cc
      by (Some c) is there =
          let o = have c is in
          let part = own_part small o.path c k v o.place o.names there o.is in
          let spot : Spot = into (in_store o.path) (step.Field k) in
          let m = member_meets p fine [] (in_store o.path) c k v (by_name p fine o.path c o.names) there in
          let a = as_plain p fine (spot_shape p [] spot) v.kind (kind_plain v.kind e kind) m in
          let l = geometry.spot_located p base [] spot a.0 a.2 in
          let same : l.0 ≡ record { address = record o.place.address { offset = o.place.address.offset + field_offset p (type.Instance c) k }; shape = part.1.0 } = some_located (sym l.1 ∙ part.1.1) in
          let n : IsNumber part.1.0 e = kind_shape p v.kind e part.1.0 kind (subst (Unfolds p v.kind) (sym l.2 ∙ ap (λ (y : Located). y.shape) same) a.1) in
          let w = region_written (record o.path { steps = o.path.steps ++ step.Field k ∷ [] }) e (record { address = record o.place.address { offset = o.place.address.offset + field_offset p (type.Instance c) k }; shape = part.1.0 }) z s0 rs st shows part.1.1 o.there n fits in
          record {
            begin = o.place.address;
            address = record o.place.address { offset = o.place.address.offset + field_offset p (type.Instance c) k };
            path = o.path;
            own_is = o.own_is;
            path_is = o.path_is;
            moves = ap (λ j. moved o.place.address (field_offset p (type.Instance (class_of j)) k)) is ∙ part.0;
            regions' = w.regions';
            store' = w.store';
            by_bytes = w.by_bytes;
            by_state = w.by_state;
            shows = w.shows;
          }

  pub own_referred : (small : Small p) (ls : List Layout) (start : Address) (bs : List ℕ) (x : Routine) (q : Option Path) (own : Option Address) (s0 : State) → ((c : ℕ) → x.class ≡ Some c → OwnThere x q own c) → (k : ℕ) (v : Variable) (path : Option Path) (w : ℕ) (rs : List (Option (List ℕ))) (st : Store)
      → own_variable p x.class k ≡ Some v → IsHeld v.kind → Refers (region_shape p) path w → Fits elem.Ulint (pos w) → Shows (region_shape p) is_there rs st → OwnWritten p base x ls start bs is_there own q s0 k elem.Ulint (pos w) (reference path) rs st
  own_referred small ls start bs x q own s0 have k v path w rs st there held refers fits shows = by x.class refl there
    where
      no_instance : (t : StType) → IsHeld t → IsNoInstance t
      no_instance (type.Reference c) h = tt
      no_instance (type.Interface c) h = tt
      no_instance t h = absurd h

      by : (c : Option ℕ) → x.class ≡ c → own_variable p c k ≡ Some v → OwnWritten p base x ls start bs is_there own q s0 k elem.Ulint (pos w) (reference path) rs st
      by None is there = cc
      by (Some c) is there =
          let o = have c is in
          let part = own_part small o.path c k v o.place o.names there o.is in
          let spot : Spot = into (in_store o.path) (step.Field k) in
          let m = member_meets p fine [] (in_store o.path) c k v (by_name p fine o.path c o.names) there in
          let a = as_plain p fine (spot_shape p [] spot) v.kind (no_instance v.kind held) m in
          let l = geometry.spot_located p base [] spot a.0 a.2 in
          let same : l.0 ≡ record { address = record o.place.address { offset = o.place.address.offset + field_offset p (type.Instance c) k }; shape = part.1.0 } = some_located (sym l.1 ∙ part.1.1) in
          let n : IsAddress part.1.0 = geometry.held_shape p fine part.1.0 v.kind held (exactly part.1.0 (subst (Unfolds p v.kind) (sym l.2 ∙ ap (λ (y : Located). y.shape) same) a.1) refl) in
          let u = reference_written (record o.path { steps = o.path.steps ++ step.Field k ∷ [] }) (record { address = record o.place.address { offset = o.place.address.offset + field_offset p (type.Instance c) k }; shape = part.1.0 }) w path s0 rs st shows part.1.1 o.there n refers fits in
          record {
            begin = o.place.address;
            address = record o.place.address { offset = o.place.address.offset + field_offset p (type.Instance c) k };
            path = o.path;
            own_is = o.own_is;
            path_is = o.path_is;
            moves = ap (λ j. moved o.place.address (field_offset p (type.Instance (class_of j)) k)) is ∙ part.0;
            regions' = u.regions';
            store' = u.store';
            by_bytes = u.by_bytes;
            by_state = u.by_state;
            shows = u.shows;
          }

  -- bytes that are copied to a region
  pub record Region_copied (q : Path) (a : Address) (size_is : ℕ) (v : Value) (bytes : List ℕ) (s0 : State) (rs : List (Option (List ℕ))) (st : Store) : Type 0 where
    pub regions' : List (Option (List ℕ))
    pub store' : Store
    pub by_bytes : (locals : List (List ℕ)) (from : Address) (image : List ℕ) → image_at (record { regions = rs; locals = locals }) from size_is ≡ Goes image → slice_range image from.offset (from.offset + size_is) ≡ bytes → copy_bytes size_is (record { regions = rs; locals = locals }) from a ≡ Goes (record { regions = regions'; locals = locals })
    pub by_state : (line : ℕ) → write (in_store q) v line (record s0 { store = st }) ≡ Done tt (record s0 { store = store' })
    pub shows : Shows (region_shape p) is_there regions' store'

  region_copied : (q : Path) (l : Located) (v : Value) (bytes : List ℕ) (s0 : State) (rs : List (Option (List ℕ))) (st : Store) → Shows (region_shape p) is_there rs st → located p base [] (in_store q) ≡ Some l → is_there q.region ≡ true → length bytes ≡ size l.shape → Spells (region_shape p) l.shape v bytes 0
      → Region_copied q l.address (size l.shape) v bytes s0 rs st
  region_copied q l v bytes s0 rs st h at there_is long spells =
      let a = then_some (place_of (region_shape p) q) _ l at in
      let here : Located = record { address = record { space = Regions; index = q.region; offset = a.0.offset }; shape = a.0.shape } in
      let is : here ≡ l = some_located a.2 in
      let laws = laws_of_store (region_shape p) is_there rs st in
      let g = laws.stands h q a.0 there_is a.1 in
      let long' : length bytes ≡ size a.0.shape = long ∙ sym (ap (λ (x : Located). size x.shape) is) in
      let spells' : Spells (region_shape p) a.0.shape v bytes 0 = subst (λ (x : Located). Spells (region_shape p) x.shape v bytes 0) (sym is) spells in
      let fit = g.within in
      let image' = replaced g.image a.0.offset bytes in
      let put = laws.puts h q a.0 g.image image' v there_is a.1 g.there (keeps_there p base is_there 0 g.image bytes a.0.offset (size a.0.shape) long' fit) (length-replaced g.image bytes a.0.offset (omega (arith, long', fit))) (spelled_there p base is_there 0 a.0.shape v g.image bytes a.0.offset long' fit spells') in
      subst (λ (x : Located). Region_copied q x.address (size x.shape) v bytes s0 rs st) is
      (record {
        regions' = slice_set rs q.region (Some image');
        store' = put.store';
        by_bytes = λ locals from image there same.
            let n = size a.0.shape in
            let m : Memory = record { regions = rs; locals = locals } in
            let target : Address = record { space = Regions; index = q.region; offset = a.0.offset } in
            ap (λ i. i >>= λ here. image_at m target n >>= λ t. Goes (with_image Regions m q.region (replaced t a.0.offset (slice_range here from.offset (from.offset + n))))) there
            ∙ (ap (λ i. i >>= λ t. Goes (with_image Regions m q.region (replaced t a.0.offset (slice_range image from.offset (from.offset + n))))) (image_there m q.region a.0.offset n g.image g.there fit)
            ∙ ap (λ y. Goes (with_image Regions m q.region (replaced g.image a.0.offset y))) same);
        by_state = λ line. write_region (record s0 { store = st }) q v line put.store' put.is;
        shows = put.shows;
      })

  pub own_copied : (small : Small p) (ls : List Layout) (start : Address) (bs : List ℕ) (x : Routine) (q : Option Path) (own : Option Address) (s0 : State) → ((c : ℕ) → x.class ≡ Some c → OwnThere x q own c) → (k : ℕ) (v : Variable) (w : Value) (bytes : List ℕ) (sh : Shape) (rs : List (Option (List ℕ))) (st : Store)
      → own_variable p x.class k ≡ Some v → is_large v.kind ≡ true → shape_of p v.kind ≡ Some sh → length bytes ≡ size sh → Spells (region_shape p) sh w bytes 0 → Shows (region_shape p) is_there rs st → OwnCopied p base x ls start bs is_there own q s0 k (size sh) w bytes rs st
  own_copied small ls start bs x q own s0 have k v w bytes sh rs st there large has_shape long spells shows = by x.class refl there
    where
      by : (c : Option ℕ) → x.class ≡ c → own_variable p c k ≡ Some v → OwnCopied p base x ls start bs is_there own q s0 k (size sh) w bytes rs st
      by None is there = cc
      by (Some c) is there =
          let o = have c is in
          let part = own_part small o.path c k v o.place o.names there o.is in
          let spot : Spot = into (in_store o.path) (step.Field k) in
          let m = member_meets p fine [] (in_store o.path) c k v (by_name p fine o.path c o.names) there in
          let a = as_plain p fine (spot_shape p [] spot) v.kind (large_plain v.kind large) m in
          let l = geometry.spot_located p base [] spot a.0 a.2 in
          let same : l.0 ≡ record { address = record o.place.address { offset = o.place.address.offset + field_offset p (type.Instance c) k }; shape = part.1.0 } = some_located (sym l.1 ∙ part.1.1) in
          let un : Unfolds p v.kind part.1.0 = subst (Unfolds p v.kind) (sym l.2 ∙ ap (λ (y : Located). y.shape) same) a.1 in
          let shape_is : sh ≡ part.1.0 = shape_laws.once p v.kind sh part.1.0 (within_bound p v.kind sh has_shape) un in
          let g = region_copied (record o.path { steps = o.path.steps ++ step.Field k ∷ [] }) (record { address = record o.place.address { offset = o.place.address.offset + field_offset p (type.Instance c) k }; shape = part.1.0 }) w bytes s0 rs st shows part.1.1 o.there (long ∙ ap size shape_is) (subst (λ y. Spells (region_shape p) y w bytes 0) shape_is spells) in
          subst (λ j. OwnCopied p base x ls start bs is_there own q s0 k j w bytes rs st) (sym (ap size shape_is))
          (record {
            begin = o.place.address;
            address = record o.place.address { offset = o.place.address.offset + field_offset p (type.Instance c) k };
            path = o.path;
            own_is = o.own_is;
            path_is = o.path_is;
            moves = ap (λ j. moved o.place.address (field_offset p (type.Instance (class_of j)) k)) is ∙ part.0;
            regions' = g.regions';
            store' = g.store';
            by_bytes = g.by_bytes;
            by_state = g.by_state;
            shows = g.shows;
          })
