-- What is found by an offset is what the path leads to after the change.
use Rattle.std.proofs.Common.{◌≡◌, ◌≤◌, ◌<◌, ℕ, zero, suc, ◌+◌, ◌-◌, ◌*◌, ◌/◌, ◌%◌, ℤ, pos, Bool, true, false, List, [], ◌∷◌, Option, Some, None, refl, sym, ap, ap₂, ◌∙◌, subst, arith}
use Rattle.std.specs.Prelude.{nat_lt, if◌then◌else◌, option_map, ◌+ℤ◌, ◌-ℤ◌}
use Rattle.std.proofs.lemmas.Bool.{lt-ltb, ltb-true}
use Rattle.std.proofs.lemmas.Int.{ints}
use Rattle.std.proofs.lemmas.Nat.{div-mul-add}
use Rattle.std.proofs.Math.Nat.{mod-eq-sub-div-mul}
use Rattle.st_change.proofs.carry_places.Carried.{natural_is}
use Rattle.plc_text.specs.Words.{same}
use Rattle.st_tree.specs.declared.path.Step.TheVariants as step
use Rattle.st_values.specs.Program.{Program}
use Rattle.st_values.specs.Value.{Path, Step, ◌>>=◌, place_of_index}
use Rattle.st_values.specs.Shape.{Shape, Elementary, Enumeration, Reference, Interface, Array, Structure, Instance, Fields, no_fields, field_then, field, element_shape}
use Rattle.st_values.proofs.ValueLaws.{then_some}
use Rattle.mem_layout.specs.store_bytes.Place.{gap, alignment, size, Place, field_place, element_place, part_place, inner_place}
use Rattle.mem_layout.proofs.store_bytes.Moves.{Element, element_is, ending_above}
use Rattle.mem_layout.proofs.store_bytes.Writes.{no_regions, inner_within}
use Rattle.st_change.specs.From.{Pairs, new_name, Way, by_name, by_index, field_name, field_number, field_named, part_by, way_of, step_of, ways_of, steps_of, pairs_of, new_way, new_ways}
use Rattle.st_change.specs.Laws.{Distinct, DistinctFields}
use Rattle.st_change.proofs.carry_places.Origins.{field_there}
use Rattle.carry_moves.specs.CarryMoves.{Lies, named_place}
use Rattle.image_moves.specs.Ways.{further, of_size}
use Rattle.carry_moves.specs.Found.{Found, instance_at, field_lies, start_of, at_element, at_index, inside, found, found_in}

-- ---- steps that lead through both shapes

module _ (old new : Program) where
  abbrev pub new_steps : Shape → Shape → List Step → Option (List Step)
  new_steps sh z ss = ways_of sh ss >>= λ os. new_ways old new z os >>= λ ws. steps_of z ws

  abbrev after_step : Shape → Shape → Way → List Step → Shape → Option (List Step)
  after_step z y w rest z' = step_of z w >>= λ t. new_steps y z' rest >>= λ ts. Some (t ∷ ts)

  abbrev step_then : Shape → List Step → Shape → Way → Option (List Step)
  step_then z rest y w = new_way old new z w >>= λ w'. part_by z w' >>= λ z'. after_step z y w' rest z'

  abbrev no_steps : Option (List Step)
  no_steps = None

  none_then : {A : Type 0} (o : Option A) → (o >>= λ a. no_steps) ≡ None
  none_then None = refl
  none_then (Some a) = refl

  new_steps_next : (sh z y : Shape) (w : Way) (s : Step) (rest : List Step) → way_of sh s ≡ Some w → part_by sh w ≡ Some y → new_steps sh z (s ∷ rest) ≡ step_then z rest y w
  new_steps_next sh z y w s rest e f =
      ap (λ o. (o >>= λ u. part_by sh u >>= λ x. ways_of x rest >>= λ us. Some (u ∷ us)) >>= λ os. new_ways old new z os >>= λ ws. steps_of z ws) e
      ∙ ap (λ o. (o >>= λ x. ways_of x rest >>= λ us. Some (w ∷ us)) >>= λ os. new_ways old new z os >>= λ ws. steps_of z ws) f
      ∙ by_ways (ways_of y rest)
    where
      last : (w' : Way) (z' : Shape) (t : Option (List Way)) → part_by z w' ≡ Some z' → ((t >>= λ ws. Some (w' ∷ ws)) >>= λ ws. steps_of z ws) ≡ (step_of z w' >>= λ s'. (t >>= λ ws. steps_of z' ws) >>= λ ts. Some (s' ∷ ts))
      last w' z' None p = sym (none_then (step_of z w'))
      last w' z' (Some ws) p = ap (λ o. step_of z w' >>= λ s'. o >>= λ x. steps_of x ws >>= λ ts. Some (s' ∷ ts)) p

      by_part : (os : List Way) (w' : Way) (o : Option Shape) → part_by z w' ≡ o → ((o >>= λ x. new_ways old new x os >>= λ ws. Some (w' ∷ ws)) >>= λ ws. steps_of z ws)
          ≡ (o >>= λ z'. step_of z w' >>= λ t. (new_ways old new z' os >>= λ ws. steps_of z' ws) >>= λ ts. Some (t ∷ ts))
      by_part os w' None p = refl
      by_part os w' (Some z') p = last w' z' (new_ways old new z' os) p

      by_new : (os : List Way) (o : Option Way) → ((o >>= λ w'. part_by z w' >>= λ x. new_ways old new x os >>= λ ws. Some (w' ∷ ws)) >>= λ ws. steps_of z ws)
          ≡ (o >>= λ w'. part_by z w' >>= λ z'. step_of z w' >>= λ t. (new_ways old new z' os >>= λ ws. steps_of z' ws) >>= λ ts. Some (t ∷ ts))
      by_new os None = refl
      by_new os (Some w') = by_part os w' (part_by z w') refl

      no_ways : (o : Option Way) → None ≡ (o >>= λ w'. part_by z w' >>= λ z'. step_of z w' >>= λ t. no_steps >>= λ ts. Some (t ∷ ts))
      no_ways None = refl
      no_ways (Some w') = no_part (part_by z w') (step_of z w')
        where
          no_part : (o : Option Shape) (p : Option Step) → None ≡ (o >>= λ z'. p >>= λ t. no_steps >>= λ ts. Some (t ∷ ts))
          no_part None p = refl
          no_part (Some z') None = refl
          no_part (Some z') (Some t) = refl

      by_ways : (o : Option (List Way)) → ((o >>= λ us. Some (w ∷ us)) >>= λ os. new_ways old new z os >>= λ ws. steps_of z ws)
          ≡ (new_way old new z w >>= λ w'. part_by z w' >>= λ z'. step_of z w' >>= λ t. (o >>= λ os. new_ways old new z' os >>= λ ws. steps_of z' ws) >>= λ ts. Some (t ∷ ts))
      by_ways None = no_ways (new_way old new z w)
      by_ways (Some os) = by_new os (new_way old new z w)

  -- ---- what steps lead to

  abbrev pub meant : Shape → Option (List Step) → Found
  meant z o = o >>= λ ts. inner_place z ts >>= λ x. instance_at x.shape x.offset

  instance_further : (sh : Shape) (n a : ℕ) → instance_at sh (n + a) ≡ further n (instance_at sh a)
  instance_further (Elementary e) n a = refl
  instance_further (Enumeration name values) n a = refl
  instance_further (Reference c name) n a = refl
  instance_further (Interface i name) n a = refl
  instance_further (Array l m y) n a = refl
  instance_further (Structure name fs) n a = refl
  instance_further (Instance c name fs) n a = refl

  abbrev joined : Place → Place → Place
  joined x y = record { offset = x.offset + y.offset; shape = y.shape }

  abbrev placed : Option Place → List Step → Option Place
  placed p ts = p >>= λ x. inner_place x.shape ts >>= λ y. Some (joined x y)

  abbrev instance_of : Option Place → Found
  instance_of p = p >>= λ x. instance_at x.shape x.offset

  meant_next : (z z' : Shape) (t : Step) (n : ℕ) (o : Option (List Step)) → part_place z t ≡ Some (record { offset = n; shape = z' }) → meant z (o >>= λ ts. Some (t ∷ ts)) ≡ further n (meant z' o)
  meant_next z z' t n None e = refl
  meant_next z z' t n (Some ts) e =
      ap (λ p. instance_of (placed p ts)) e ∙ by (inner_place z' ts)
    where
      by : (p : Option Place) → instance_of (p >>= λ y. Some (joined (record { offset = n; shape = z' }) y)) ≡ further n (instance_of p)
      by None = refl
      by (Some y) = instance_further y.shape n y.offset

  meant_none : (z : Shape) (o : Option (List Step)) → o ≡ None → meant z o ≡ None
  meant_none z o e = ap (meant z) e

  -- ---- the old side

  -- a field with its number has its name, and is the one that holds what lies in it
  record FieldAt (gs : Fields) (at k a : ℕ) (x : Place) (z : Shape) : Type 0 where
    name : List ℕ
    named : field_name gs k ≡ Some name
    there : field gs k ≡ Some x.shape
    low : at ≤ x.offset
    holds : found_in old new at gs z (x.offset + a) ≡ inside old new (found old new x.shape) z name a

  field_at : (gs : Fields) (at k a : ℕ) (x : Place) (z : Shape) → field_place at gs k ≡ Some x → a < size x.shape → FieldAt gs at k a x z
  field_at no_fields at k a x z e h = cc
  field_at (field_then v sh gs) at zero a x z e h =
      let from = at + gap (alignment sh) at in
      let is : record { offset = from; shape = sh } ≡ x = cc in
      subst (λ (y : Place). FieldAt (field_then v sh gs) at zero a y z) is
      (record {
        name = v.name;
        named = refl;
        there = refl;
        low = omega arith;
        holds =
            let small : a < size sh = subst (λ (y : Place). a < size y.shape) (sym is) h in
            let back : from + a - from ≡ a = omega arith in
            ap (λ b. if b then inside old new (found old new sh) z v.name (from + a - from) else found_in old new (from + size sh) gs z (from + a)) (lt-ltb (from + a) (from + size sh) (omega (arith, small)))
            ∙ ap (inside old new (found old new sh) z v.name) back;
      })
  field_at (field_then v sh gs) at (suc k) a x z e h =
      let behind = at + gap (alignment sh) at + size sh in
      let r = field_at gs behind k a x z e h in
      record {
        name = r.name;
        named = r.named;
        there = r.there;
        low = omega (arith, r.low);
        holds = past (nat_lt (x.offset + a) behind) refl r.low ∙ r.holds;
      }
    where
      past : (b : Bool) → nat_lt (x.offset + a) (at + gap (alignment sh) at + size sh) ≡ b → at + gap (alignment sh) at + size sh ≤ x.offset
          → (if b then inside old new (found old new sh) z v.name (x.offset + a - (at + gap (alignment sh) at)) else found_in old new (at + gap (alignment sh) at + size sh) gs z (x.offset + a)) ≡ found_in old new (at + gap (alignment sh) at + size sh) gs z (x.offset + a)
      past true e low = let lt = ltb-true (x.offset + a) (at + gap (alignment sh) at + size sh) e in absurd (omega arith)
      past false e low = refl

  -- ---- the new side

  -- a name means a field, a number and a place, or nothing
  record FieldIs (fs : Fields) (at : ℕ) (n : List ℕ) (x : Lies) : Type 0 where
    number : ℕ
    numbered : field_number fs n ≡ Some number
    named : field_named fs n ≡ Some x.shape
    place : field_place at fs number ≡ Some (record { offset = start_of x; shape = x.shape })

  field_is : (fs : Fields) (at : ℕ) (n : List ℕ) (x : Lies) → named_place at fs n ≡ Some x → FieldIs fs at n x
  field_is no_fields at n x e = cc
  field_is (field_then v sh fs) at n x e = by (same v.name n) refl e (field_is fs (at + gap (alignment sh) at + size sh) n x)
    where
      behind : ℕ
      behind = at + gap (alignment sh) at + size sh

      by : (b : Bool) → same v.name n ≡ b → (if b then Some (record { begins = at; shape = sh }) else named_place behind fs n) ≡ Some x → (named_place behind fs n ≡ Some x → FieldIs fs behind n x) → FieldIs (field_then v sh fs) at n x
      by true q e g =
          let is : record { begins = at; shape = sh } ≡ x = cc in
          subst (λ (y : Lies). FieldIs (field_then v sh fs) at n y) is (record { number = 0; numbered = ap (λ b. if b then Some 0 else option_map suc (field_number fs n)) q; named = ap (λ b. if b then Some sh else field_named fs n) q; place = refl })
      by false q e g =
          let r = g e in
          record {
            number = suc r.number;
            numbered = ap (λ b. if b then Some 0 else option_map suc (field_number fs n)) q ∙ ap (option_map suc) r.numbered;
            named = ap (λ b. if b then Some sh else field_named fs n) q ∙ r.named;
            place = r.place;
          }

  no_field : (fs : Fields) (at : ℕ) (n : List ℕ) → named_place at fs n ≡ None → field_named fs n ≡ None
  no_field no_fields at n e = refl
  no_field (field_then v sh fs) at n e = by (same v.name n) e (no_field fs (at + gap (alignment sh) at + size sh) n)
    where
      behind : ℕ
      behind = at + gap (alignment sh) at + size sh

      by : (b : Bool) → (if b then Some (record { begins = at; shape = sh }) else named_place behind fs n) ≡ None → (named_place behind fs n ≡ None → field_named fs n ≡ None) → (if b then Some sh else field_named fs n) ≡ None
      by true e g = cc
      by false e g = g e

  -- what is reached by a name
  by_field : (z y : Shape) (n : List ℕ) (rest : List Step) (f : Shape → Found) → ((z' : Shape) → f z' ≡ meant z' (new_steps y z' rest))
      → (field_lies z n >>= λ x. further (start_of x) (f x.shape)) ≡ meant z (part_by z (by_name n) >>= λ z'. after_step z y (by_name n) rest z')
  by_field (Elementary e) y n rest f h = refl
  by_field (Enumeration name values) y n rest f h = refl
  by_field (Reference c name) y n rest f h = refl
  by_field (Interface i name) y n rest f h = refl
  by_field (Array l m w) y n rest f h = refl
  by_field (Structure name fs) y n rest f h = by (named_place 0 fs n) refl
    where
      by : (o : Option Lies) → named_place 0 fs n ≡ o → (o >>= λ x. further (start_of x) (f x.shape)) ≡ meant (Structure name fs) (field_named fs n >>= λ z'. after_step (Structure name fs) y (by_name n) rest z')
      by None e = sym (ap (λ o. meant (Structure name fs) (o >>= λ z'. after_step (Structure name fs) y (by_name n) rest z')) (no_field fs 0 n e))
      by (Some x) e =
          let r = field_is fs 0 n x e in
          ap (further (start_of x)) (h x.shape)
          ∙ sym (meant_next (Structure name fs) x.shape (step.Field r.number) (start_of x) (new_steps y x.shape rest) r.place)
          ∙ sym (ap₂ (λ o p. meant (Structure name fs) (o >>= λ z'. option_map step.Field p >>= λ t. new_steps y z' rest >>= λ ts. Some (t ∷ ts))) r.named r.numbered)
  by_field (Instance c name fs) y n rest f h = by (named_place 8 fs n) refl
    where
      by : (o : Option Lies) → named_place 8 fs n ≡ o → (o >>= λ x. further (start_of x) (f x.shape)) ≡ meant (Instance c name fs) (field_named fs n >>= λ z'. after_step (Instance c name fs) y (by_name n) rest z')
      by None e = sym (ap (λ o. meant (Instance c name fs) (o >>= λ z'. after_step (Instance c name fs) y (by_name n) rest z')) (no_field fs 8 n e))
      by (Some x) e =
          let r = field_is fs 8 n x e in
          ap (further (start_of x)) (h x.shape)
          ∙ sym (meant_next (Instance c name fs) x.shape (step.Field r.number) (start_of x) (new_steps y x.shape rest) r.place)
          ∙ sym (ap₂ (λ o p. meant (Instance c name fs) (o >>= λ z'. option_map step.Field p >>= λ t. new_steps y z' rest >>= λ ts. Some (t ∷ ts))) r.named r.numbered)

  by_name_meant : (z y : Shape) (o : List ℕ) (rest : List Step) (a : ℕ) → ((z' : Shape) → found old new y z' a ≡ meant z' (new_steps y z' rest)) → inside old new (found old new y) z o a ≡ meant z (step_then z rest y (by_name o))
  by_name_meant z y o rest a h = by (new_name (pairs_of old new z) o)
    where
      by : (p : Option (List ℕ)) → (p >>= λ n. field_lies z n >>= λ x. further (start_of x) (found old new y x.shape a)) ≡ meant z (option_map by_name p >>= λ w'. part_by z w' >>= λ z'. after_step z y w' rest z')
      by None = refl
      by (Some n) = by_field z y n rest (λ w. found old new y w a) h

  -- what is reached by an index
  by_index_meant : (z y : Shape) (i : ℤ) (rest : List Step) (f : Shape → Found) → ((z' : Shape) → f z' ≡ meant z' (new_steps y z' rest)) → at_index f z i ≡ meant z (step_then z rest y (by_index i))
  by_index_meant (Elementary e) y i rest f h = refl
  by_index_meant (Enumeration name values) y i rest f h = refl
  by_index_meant (Reference c name) y i rest f h = refl
  by_index_meant (Interface c name) y i rest f h = refl
  by_index_meant (Structure name fs) y i rest f h = refl
  by_index_meant (Instance c name fs) y i rest f h = refl
  by_index_meant (Array low n z') y i rest f h = by (place_of_index low i) refl
    where
      within : (j : ℕ) (b : Bool) → place_of_index low i ≡ Some j → nat_lt j n ≡ b → (if b then further (j * size z') (f z') else None) ≡ meant (Array low n z') ((if b then Some z' else None) >>= λ w. after_step (Array low n z') y (by_index i) rest w)
      within j false e q = refl
      within j true e q =
          ap (further (j * size z')) (h z')
          ∙ sym (meant_next (Array low n z') z' (step.Element i) (j * size z') (new_steps y z' rest) (ap (element_place n z') e ∙ ap (λ b. if b then Some (record { offset = j * size z'; shape = z' }) else None) q))

      by : (o : Option ℕ) → place_of_index low i ≡ o → at_element n z' f o ≡ meant (Array low n z') (element_shape n z' o >>= λ w. after_step (Array low n z') y (by_index i) rest w)
      by None e = refl
      by (Some j) e = within j (nat_lt j n) e refl

  -- ---- the whole way

  sized : (s : ℕ) (f : Found) → 0 < s → of_size s f ≡ f
  sized zero f h = absurd (omega arith)
  sized (suc s) f h = refl

  elements_meant : (l : ℤ) (m : ℕ) (y z : Shape) (i : ℤ) (x : Place) (b : ℕ) (rest : List Step) → part_place (Array l m y) (step.Element i) ≡ Some x → b < size x.shape → ((z' : Shape) → found old new x.shape z' b ≡ meant z' (new_steps x.shape z' rest))
      → found old new (Array l m y) z (x.offset + b) ≡ meant z (new_steps (Array l m y) z (step.Element i ∷ rest))
  elements_meant l m y z i x b rest e h g =
      let p = element_is no_regions m y (place_of_index l i) x e in
      subst (λ (x : Place). b < size x.shape → ((z' : Shape) → found old new x.shape z' b ≡ meant z' (new_steps x.shape z' rest)) → found old new (Array l m y) z (x.offset + b) ≡ meant z (new_steps (Array l m y) z (step.Element i ∷ rest))) p.place (by p.index p.is p.within) h g
    where
      by : (k : ℕ) → place_of_index l i ≡ Some k → k < m → b < size y → ((z' : Shape) → found old new y z' b ≡ meant z' (new_steps y z' rest)) → found old new (Array l m y) z (k * size y + b) ≡ meant z (new_steps (Array l m y) z (step.Element i ∷ rest))
      by k is lt h g =
          let s = size y in
          let q : (k * s + b) / s ≡ k = div-mul-add k s b h in
          let r : (k * s + b) % s ≡ b = mod-eq-sub-div-mul (k * s + b) s ∙ ap (λ d. k * s + b - d * s) q ∙ omega arith in
          let d : i -ℤ l ≡ pos k = natural_is (i -ℤ l) k is in
          let at : l +ℤ pos k ≡ i = omega (arith, ints) in
          let there : element_shape m y (place_of_index l i) ≡ Some y = ap (element_shape m y) is ∙ ap (λ t. if t then Some y else None) (lt-ltb k m lt) in
          sized s (at_index (λ w. found old new y w ((k * s + b) % s)) z (l +ℤ pos ((k * s + b) / s))) (omega (arith, h))
          ∙ ap₂ (λ u v. at_index (λ w. found old new y w u) z (l +ℤ pos v)) r q
          ∙ ap (at_index (λ w. found old new y w b) z) at
          ∙ by_index_meant z y i rest (λ w. found old new y w b) g
          ∙ sym (ap (meant z) (new_steps_next (Array l m y) z y (by_index i) (step.Element i) rest refl there))

  instance_inside : (c : ℕ) (name : List ℕ) (gs : Fields) (z : Shape) (a : ℕ) → 0 < a → found old new (Instance c name gs) z a ≡ found_in old new 8 gs z a
  instance_inside c name gs z zero h = absurd (omega arith)
  instance_inside c name gs z (suc a) h = refl

  step_meant : (sh z : Shape) (s : Step) (x : Place) (b : ℕ) (rest : List Step) → Distinct sh → part_place sh s ≡ Some x → b < size x.shape → ((z' : Shape) → found old new x.shape z' b ≡ meant z' (new_steps x.shape z' rest))
      → found old new sh z (x.offset + b) ≡ meant z (new_steps sh z (s ∷ rest))
  step_meant (Elementary t) z s x b rest d e h g = cc
  step_meant (Enumeration name values) z s x b rest d e h g = cc
  step_meant (Reference c name) z s x b rest d e h g = cc
  step_meant (Interface i name) z s x b rest d e h g = cc
  step_meant (Array l m y) z (step.Field k) x b rest d e h g = cc
  step_meant (Array l m y) z (step.Element i) x b rest d e h g = elements_meant l m y z i x b rest e h g
  step_meant (Structure name gs) z (step.Element i) x b rest d e h g = cc
  step_meant (Structure name gs) z (step.Field k) x b rest d e h g =
      let r = field_at gs 0 k b x z e h in
      let f = field_there gs k x.shape d r.there in
      let n : f.0 ≡ r.name = let u = f.1 in let v = r.named in cc in
      r.holds ∙ by_name_meant z x.shape r.name rest b g
      ∙ sym (ap (meant z) (new_steps_next (Structure name gs) z x.shape (by_name r.name) (step.Field k) rest (ap (option_map by_name) r.named) (subst (λ m. field_named gs m ≡ Some x.shape) n f.2)))
  step_meant (Instance c name gs) z (step.Element i) x b rest d e h g = cc
  step_meant (Instance c name gs) z (step.Field k) x b rest d e h g =
      let r = field_at gs 8 k b x z e h in
      let f = field_there gs k x.shape d r.there in
      let n : f.0 ≡ r.name = let u = f.1 in let v = r.named in cc in
      instance_inside c name gs z (x.offset + b) (omega (arith, r.low)) ∙ r.holds ∙ by_name_meant z x.shape r.name rest b g
      ∙ sym (ap (meant z) (new_steps_next (Instance c name gs) z x.shape (by_name r.name) (step.Field k) rest (ap (option_map by_name) r.named) (subst (λ m. field_named gs m ≡ Some x.shape) n f.2)))

  part_is_distinct : (sh : Shape) (s : Step) (x : Place) → Distinct sh → part_place sh s ≡ Some x → Distinct x.shape
  part_is_distinct (Elementary t) s x d e = cc
  part_is_distinct (Enumeration name values) s x d e = cc
  part_is_distinct (Reference c name) s x d e = cc
  part_is_distinct (Interface i name) s x d e = cc
  part_is_distinct (Array l m y) (step.Field k) x d e = cc
  part_is_distinct (Array l m y) (step.Element i) x d e = let p = element_is no_regions m y (place_of_index l i) x e in subst (λ (u : Place). Distinct u.shape) p.place d
  part_is_distinct (Structure name gs) (step.Element i) x d e = cc
  part_is_distinct (Structure name gs) (step.Field k) x d e = each gs 0 k x d e
    where
      each : (gs : Fields) (at k : ℕ) (x : Place) → DistinctFields gs → field_place at gs k ≡ Some x → Distinct x.shape
      each no_fields at k x d e = cc
      each (field_then v sh gs) at zero x d e = let is : record { offset = at + gap (alignment sh) at; shape = sh } ≡ x = cc in subst (λ (u : Place). Distinct u.shape) is d.1
      each (field_then v sh gs) at (suc k) x d e = each gs (at + gap (alignment sh) at + size sh) k x d.2 e
  part_is_distinct (Instance c name gs) (step.Element i) x d e = cc
  part_is_distinct (Instance c name gs) (step.Field k) x d e = each gs 8 k x d e
    where
      each : (gs : Fields) (at k : ℕ) (x : Place) → DistinctFields gs → field_place at gs k ≡ Some x → Distinct x.shape
      each no_fields at k x d e = cc
      each (field_then v sh gs) at zero x d e = let is : record { offset = at + gap (alignment sh) at; shape = sh } ≡ x = cc in subst (λ (u : Place). Distinct u.shape) is d.1
      each (field_then v sh gs) at (suc k) x d e = each gs (at + gap (alignment sh) at + size sh) k x d.2 e

  pub found_is : (ss : List Step) (sh z : Shape) (a c : ℕ) (n : List ℕ) (gs : Fields) → Distinct sh → inner_place sh ss ≡ Some (record { offset = a; shape = Instance c n gs }) → found old new sh z a ≡ meant z (new_steps sh z ss)
  found_is [] sh z a c n gs d e =
      let here : record { offset = 0; shape = sh } ≡ record { offset = a; shape = Instance c n gs } = cc in
      let zero_is : 0 ≡ a = ap (λ (p : Place). p.offset) here in
      let shape_is : sh ≡ Instance c n gs = ap (λ (p : Place). p.shape) here in
      subst (λ b. found old new sh z b ≡ meant z (new_steps sh z [])) zero_is (subst (λ u. found old new u z 0 ≡ meant z (new_steps u z [])) (sym shape_is) refl)
  found_is (s ∷ rest) sh z a c n gs d e =
      let x = then_some (part_place sh s) _ (record { offset = a; shape = Instance c n gs }) e in
      let y = then_some (inner_place x.0.shape rest) _ (record { offset = a; shape = Instance c n gs }) x.2 in
      let here : record { offset = x.0.offset + y.0.offset; shape = y.0.shape } ≡ record { offset = a; shape = Instance c n gs } = cc in
      let offset_is : x.0.offset + y.0.offset ≡ a = ap (λ (p : Place). p.offset) here in
      let shape_is : y.0.shape ≡ Instance c n gs = ap (λ (p : Place). p.shape) here in
      let last : inner_place x.0.shape rest ≡ Some (record { offset = y.0.offset; shape = Instance c n gs }) = y.1 ∙ ap (λ u. Some (record { offset = y.0.offset; shape = u })) shape_is in
      let within = inner_within rest x.0.shape (record { offset = y.0.offset; shape = Instance c n gs }) last in
      let wide = ending_above gs 8 in
      let small : y.0.offset < size x.0.shape = omega arith in
      subst (λ b. found old new sh z b ≡ meant z (new_steps sh z (s ∷ rest))) offset_is
      (step_meant sh z s x.0 y.0.offset rest d x.1 small (λ z'. found_is rest x.0.shape z' y.0.offset c n gs (part_is_distinct sh s x.0 d x.1) last))
