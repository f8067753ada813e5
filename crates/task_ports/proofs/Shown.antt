-- Inputs and outputs on images, and in the store that the images show.
use Rattle.std.proofs.Common.{◌≡◌, ◌≤◌, ◌<◌, ◌+◌, ◌*◌, ◌/◌, ◌%◌, ◌^◌, ℕ, ℤ, pos, Bool, true, false, List, [], ◌∷◌, Option, Some, None, refl, sym, ap, ap₂, ◌∙◌, subst, length, map, arith}
use Rattle.std.specs.Prelude.{◌-◌, ◌&&◌, nat_eq, nat_le, nat_lt, if◌then◌else◌, filter, slice_get, slice_set, unsigned_abs, max}
use Rattle.std.specs.List.{range_with_len}
use Rattle.std.proofs.lemmas.Nat.{pow_pos}
use Rattle.st_types.specs.declared.elem.Elem.{Elem}
use Rattle.st_types.specs.Elem.{bytes}
use Rattle.st_types.specs.Range.{Fits}
use Rattle.st_tree.specs.declared.address.Width.{Width}
use Rattle.st_tree.specs.declared.address.Area.TheVariants as area
use Rattle.st_tree.specs.Address.{width_of, bit_of}
use Rattle.plc_num.specs.Wrapping.{wrapped}
use Rattle.mem_image.specs.Image.{value_at, written}
use Rattle.st_values.specs.Program.{Program}
use Rattle.st_values.specs.Value.{Path, Value, number, Store, at, put}
use Rattle.st_values.specs.Shape.{Elementary, region_shape}
use Rattle.st_rules.specs.Chains.{is_among}
use Rattle.st_meaning.specs.ProcessImage.{Located, located_of, is_in, is_bit, is_shown, bytes_in, size_of, first_byte, input_byte, input_number, input_value, or_same, latch, byte_of, share, number_or_zero, output_byte, covered, collect}
use Rattle.mem_layout.specs.store_bytes.Place.{Place, place_of}
use Rattle.mem_layout.specs.store_bytes.Spells.{Shows}
use Rattle.mem_layout.proofs.store_bytes.Store.{laws_of_store}
use Rattle.task_ports.specs.declared.ports.Port.{Port}
use Rattle.task_ports.specs.Ports.{bytes_or, region_bytes, HasRoom, PortFits, PortsFit, port_input, with_value, latched_one, latched, port_number, port_share, collected_byte, collected, EndsWithin}
use Rattle.task_ports.specs.TaskPorts.{IsPort, ArePorts, is_latched, ArePortsAmong}
use Rattle.task_ports.specs.PortLaws.{held, PortLaws, AllPortLaws}
use Rattle.task_ports.proofs.PortLaws.{input_fits}

second : (a b : Bool) → (a && b) ≡ true → b ≡ true
second true b e = e
second false b e = absurd cc

-- ---- what an address says

abbrev input_by : List ℕ → Width → ℕ → Elem → ℕ → ℤ
input_by input w f e t = if is_bit w then pos (input_byte input f / t % 2) else wrapped e (pos (input_number input f (bytes_in w)))

abbrev share_by : Width → ℕ → ℕ → ℤ → ℕ → ℕ
share_by w f t z b = if is_bit w then (if nat_eq b f then unsigned_abs z * t else 0) else (if nat_le f b && nat_lt b (f + bytes_in w) then byte_of z (bytes_in w) (b - f) else 0)

module _ (p : Program) (x : Port) (l : Located) (k : IsPort p x l) where
  input_is : (input : List ℕ) → port_input input x ≡ input_value input l
  input_is input =
      ap (λ w. input_by input w x.first x.elem x.weight) k.width
      ∙ ap (λ f. input_by input (width_of l.address) f x.elem x.weight) k.first
      ∙ ap (λ e. input_by input (width_of l.address) (first_byte l.address) e x.weight) k.elem
      ∙ ap (input_by input (width_of l.address) (first_byte l.address) l.elem) k.weight

  share_is : (z : ℤ) (b : ℕ) → port_share x z b ≡ share l.address z b
  share_is z b =
      ap (λ w. share_by w x.first x.weight z b) k.width
      ∙ ap (λ f. share_by (width_of l.address) f x.weight z b) k.first
      ∙ ap (λ t. share_by (width_of l.address) (first_byte l.address) t z b) k.weight

  end_is : x.first + bytes_in x.width ≡ first_byte l.address + size_of l.address
  end_is = ap₂ (λ f w. f + bytes_in w) k.first k.width

  some_weight : 0 < x.weight
  some_weight = (let t = pow_pos (bit_of l.address) in let w = k.weight in omega arith)

module _ (p : Program) (fs : List ℕ) where
  abbrev Show : List (Option (List ℕ)) → Store → Type 0
  Show images s = Shows (region_shape p) (held fs) images s

  -- ---- one port

  there : (x : Port) (l : Located) (images : List (Option (List ℕ))) (s : Store) → IsPort p x l → is_among l.path.region fs ≡ true → Show images s
      → (image : List ℕ) × (slice_get images l.path.region ≡ Some (Some image)) × (x.offset + bytes l.elem ≤ length image) × (at s l.path ≡ Some (number (value_at l.elem image x.offset)))
  there x l images s k h i = (laws_of_store (region_shape p) (held fs) images s).loads i l.path (record { offset = x.offset; shape = Elementary l.elem }) l.elem h k.place refl

  fits : (x : Port) (l : Located) (images : List (Option (List ℕ))) (s : Store) → IsPort p x l → is_among l.path.region fs ≡ true → Show images s → PortFits images x
  fits x l images s k h i =
      let w = there x l images s k h i in
      let is : slice_get images x.region ≡ Some (Some w.0) = ap (slice_get images) k.region ∙ w.1 in
      let same : region_bytes images x.region ≡ w.0 = ap bytes_or is in
      record {
        room = record {
          is = is ∙ ap (λ b. Some (Some b)) (sym same);
          within = subst (λ b. x.offset + bytes x.elem ≤ length b) (sym same) (subst (λ e. x.offset + bytes e ≤ length w.0) (sym k.elem) w.2);
        };
        some = some_weight p x l k;
      }

  number_is : (x : Port) (l : Located) (images : List (Option (List ℕ))) (s : Store) → IsPort p x l → is_among l.path.region fs ≡ true → Show images s → port_number images x ≡ number_or_zero (at s l.path)
  number_is x l images s k h i =
      let w = there x l images s k h i in
      let same : region_bytes images x.region ≡ w.0 = ap bytes_or (ap (slice_get images) k.region ∙ w.1) in
      ap₂ (λ e b. value_at e b x.offset) k.elem same ∙ sym (ap number_or_zero w.3)

  put_shown : (x : Port) (l : Located) (input : List ℕ) (images : List (Option (List ℕ))) (s : Store) → IsPort p x l → is_among l.path.region fs ≡ true → Show images s
      → Show (latched_one input x images) (or_same s (put s l.path (number (input_value input l))))
  put_shown x l input images s k h i =
      let z = input_value input l in
      let fit : Fits l.elem z = subst (λ e. Fits e z) k.elem (subst (Fits x.elem) (input_is p x l k input) (input_fits input x)) in
      let w = (laws_of_store (region_shape p) (held fs) images s).stores i l.path (record { offset = x.offset; shape = Elementary l.elem }) l.elem z h k.place refl fit in
      let stored = w.3 in
      let bytes_are : region_bytes images l.path.region ≡ w.0 = ap bytes_or w.1 in
      let images_are : latched_one input x images ≡ slice_set images l.path.region (Some (written l.elem w.0 x.offset z)) =
      ap (λ r. with_value images r x.offset x.elem (port_input input x)) k.region
      ∙ ap₂ (λ e v. with_value images l.path.region x.offset e v) k.elem (input_is p x l k input)
      ∙ ap (λ b. slice_set images l.path.region (Some (written l.elem b x.offset z))) bytes_are in
      let left : or_same s (put s l.path (number z)) ≡ stored.store' = ap (or_same s) stored.is in
      subst (Show (latched_one input x images)) (sym left) (subst (λ is. Show is stored.store') (sym images_are) stored.shows)

  -- ---- ports that pass a test, one by one

  all_fit : (f : Located → Bool) → ((l : Located) → f l ≡ true → is_among l.path.region fs ≡ true) → (ls : List Located) (xs : List Port) (images : List (Option (List ℕ))) (s : Store) → Show images s → ArePorts p xs (filter f ls) → PortsFit images xs
  all_fit f sub [] [] images s i ports = tt
  all_fit f sub [] (x ∷ xs) images s i ports = absurd ports
  all_fit f sub (l ∷ ls) xs images s i ports = by (λ ys h. all_fit f sub ls ys images s i h) (f l) refl xs ports
    where
      by : ((ys : List Port) → ArePorts p ys (filter f ls) → PortsFit images ys) → (b : Bool) → f l ≡ b → (ys : List Port) → ArePorts p ys (if b then l ∷ filter f ls else filter f ls) → PortsFit images ys
      by rest false e ys h = rest ys h
      by rest true e [] h = absurd h
      by rest true e (y ∷ ys) h = (fits y l images s h.0 (sub l e) i, rest ys h.1)

  all_latched : (ls : List Located) (xs : List Port) (input : List ℕ) (images : List (Option (List ℕ))) (s : Store) → Show images s → ArePorts p xs (filter (is_latched fs) ls) → Show (latched xs input images) (latch ls fs input s)
  all_latched [] [] input images s i ports = i
  all_latched [] (x ∷ xs) input images s i ports = absurd ports
  all_latched (l ∷ ls) xs input images s i ports = by (λ ys is t j h. all_latched ls ys input is t j h) (is_latched fs l) refl xs ports
    where
      by : ((ys : List Port) (is : List (Option (List ℕ))) (t : Store) → Show is t → ArePorts p ys (filter (is_latched fs) ls) → Show (latched ys input is) (latch ls fs input t)) → (b : Bool) → is_latched fs l ≡ b → (ys : List Port)
          → ArePorts p ys (if b then l ∷ filter (is_latched fs) ls else filter (is_latched fs) ls) → Show (latched ys input images) (latch ls fs input (if b then or_same s (put s l.path (number (input_value input l))) else s))
      by rest false e ys h = rest ys images s i h
      by rest true e [] h = absurd h
      by rest true e (y ∷ ys) h = rest ys (latched_one input y images) _ (put_shown y l input images s h.0 (second (is_in area.Input l) (is_among l.path.region fs) e) i) h.1

  all_collected : (ls : List Located) (xs : List Port) (images : List (Option (List ℕ))) (s : Store) (b : ℕ) → Show images s → ArePorts p xs (filter (is_shown fs) ls) → collected_byte xs images b ≡ output_byte ls fs s b
  all_collected [] [] images s b i ports = refl
  all_collected [] (x ∷ xs) images s b i ports = absurd ports
  all_collected (l ∷ ls) xs images s b i ports = by (λ ys h. all_collected ls ys images s b i h) (is_shown fs l) refl xs ports
    where
      by : ((ys : List Port) → ArePorts p ys (filter (is_shown fs) ls) → collected_byte ys images b ≡ output_byte ls fs s b) → (c : Bool) → is_shown fs l ≡ c → (ys : List Port)
          → ArePorts p ys (if c then l ∷ filter (is_shown fs) ls else filter (is_shown fs) ls) → collected_byte ys images b ≡ (if c then share l.address (number_or_zero (at s l.path)) b else 0) + output_byte ls fs s b
      by rest false e ys h = (let w = rest ys h in omega arith)
      by rest true e [] h = absurd h
      by rest true e (y ∷ ys) h =
          ap₂ (λ m n. m + n) (ap (λ z. port_share y z b) (number_is y l images s h.0 (second (is_in area.Output l) (is_among l.path.region fs) e) i) ∙ share_is p y l h.0 (number_or_zero (at s l.path)) b) (rest ys h.1)

  all_within : (n : ℕ) (ls : List Located) (xs : List Port) → covered ls fs ≤ n → ArePorts p xs (filter (is_shown fs) ls) → EndsWithin n xs
  all_within n [] [] m ports = tt
  all_within n [] (x ∷ xs) m ports = absurd ports
  all_within n (l ∷ ls) xs m ports = by (λ ys h. (let w : max (if is_shown fs l then first_byte l.address + size_of l.address else 0) (covered ls fs) ≤ n = m in all_within n ls ys (omega arith) h)) (is_shown fs l) refl m xs ports
    where
      by : ((ys : List Port) → ArePorts p ys (filter (is_shown fs) ls) → EndsWithin n ys) → (c : Bool) → is_shown fs l ≡ c → max (if c then first_byte l.address + size_of l.address else 0) (covered ls fs) ≤ n → (ys : List Port)
          → ArePorts p ys (if c then l ∷ filter (is_shown fs) ls else filter (is_shown fs) ls) → EndsWithin n ys
      by rest false e m ys h = rest ys h
      by rest true e m [] h = absurd h
      by rest true e m (y ∷ ys) h = (let s = end_is p y l h.0 in omega arith, rest ys h.1)

  map_as : (f g : ℕ → ℕ) → ((n : ℕ) → f n ≡ g n) → (ns : List ℕ) → map f ns ≡ map g ns
  map_as f g h [] = refl
  map_as f g h (n ∷ ns) = ap₂ (λ x xs. x ∷ xs) (h n) (map_as f g h ns)

pub port_laws : AllPortLaws
port_laws p fs inputs outputs end is = record {
  inputs_fit = λ images s i. all_fit p fs (is_latched fs) (λ l e. second (is_in area.Input l) (is_among l.path.region fs) e) (located_of p) inputs images s i is.latched;
  outputs_fit = λ images s i. all_fit p fs (is_shown fs) (λ l e. second (is_in area.Output l) (is_among l.path.region fs) e) (located_of p) outputs images s i is.shown;
  within = all_within p fs end (located_of p) outputs (let e = is.ends in omega arith) is.shown;
  latches = λ input images s i. all_latched p fs (located_of p) inputs input images s i is.latched;
  byte = λ images s b i. all_collected p fs (located_of p) outputs images s b i is.shown;
  collects = λ images s i.
      map_as p fs (collected_byte outputs images) (output_byte (located_of p) fs s) (λ b. all_collected p fs (located_of p) outputs images s b i is.shown) (range_with_len 0 end)
      ∙ ap (λ n. map (output_byte (located_of p) fs s) (range_with_len 0 n)) is.ends;
}
