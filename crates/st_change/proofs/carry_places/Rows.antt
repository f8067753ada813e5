-- What is carried is a row of writes.
use Rattle.std.proofs.Common.{◌≡◌, ◌<◌, ℕ, zero, suc, ℤ, pos, Bool, true, false, List, [], ◌∷◌, ◌++◌, Some, None, refl, sym, ap, ap₂, ◌∙◌, subst, arith}
use Rattle.std.specs.Prelude.{if◌then◌else◌, not, ◌&&◌, ◌+ℤ◌, ◌-ℤ◌}
use Rattle.std.proofs.lemmas.Bool.{lt-ltb}
use Rattle.std.proofs.lemmas.Int.{ints}
use Rattle.st_tree.specs.declared.path.Step.{Step}
use Rattle.st_tree.specs.declared.path.Step.TheVariants as step
use Rattle.st_values.specs.Program.{Variable, Program}
use Rattle.st_values.specs.Value.{Value, number, reference, array, structure, instance, Values, no_values, value_then, Members, no_members, member_then, ◌>>=◌, element, with_element, with_element_at, with_member, natural, place_of_index, part, with_part, value_at, value_with}
use Rattle.st_values.specs.Shape.{Shape, Elementary, Enumeration, Reference, Interface, Array, Structure, Instance, Fields, no_fields, field_then, element_shape, shape_part, shape_at}
use Rattle.st_meaning.specs.st_frame.Good.{Fit, FitAll, FitEach}
use Rattle.st_meaning.specs.st_frame.Promise.Declarations.{Each}
use Rattle.st_meaning.proofs.st_frame.Values.{element_of}
use Rattle.st_change.specs.From.{old_name, structure_pairs, class_pairs}
use Rattle.st_change.specs.Carry.{Old, old_element, field_before, variable_before, before_by, stays, carry, carry_elements, carry_members}
use Rattle.st_change.proofs.Names.{then_is, then_some}
use Rattle.st_change.proofs.Members.{each_both}
use Rattle.st_change.specs.carry_places.Places.{old_part, old_along, free_step, none_stays}
use Rattle.st_change.specs.carry_places.Writes.{Write, written, is_single, Carries}
use Rattle.st_change.proofs.carry_places.Carried.{natural_is}

-- ---- rows one after the other

both_written : (xs ys : List Write) (v w u : Value) → written v xs ≡ Some w → written w ys ≡ Some u → written v (xs ++ ys) ≡ Some u
both_written [] ys v w u e f = let d : v ≡ w = cc in subst (λ x. written x ys ≡ Some u) (sym d) f
both_written (x ∷ xs) ys v w u e f =
    let a = then_some (value_with v x.steps x.value) (λ n. written n xs) w e in
    then_is (value_with v x.steps x.value) (λ n. written n (xs ++ ys)) a.0 u a.1 (both_written xs ys a.0 w u a.2 f)

-- ---- rows into the first part of a value, and into the others

-- the write behind one more step
abbrev below : Step → Write → Write
below s w = record { steps = s ∷ w.steps; value = w.value }

abbrev all_below : Step → List Write → List Write
all_below s [] = []
all_below s (w ∷ ws) = below s w ∷ all_below s ws

abbrev moved_steps : (Step → Step) → List Step → List Step
moved_steps move [] = []
moved_steps move (s ∷ ss) = move s ∷ ss

-- the write behind another first step
abbrev moved : (Step → Step) → Write → Write
moved move w = record { steps = moved_steps move w.steps; value = w.value }

abbrev all_moved : (Step → Step) → List Write → List Write
all_moved move [] = []
all_moved move (w ∷ ws) = moved move w ∷ all_moved move ws

-- the write does not replace all
abbrev is_deep : List Step → Bool
is_deep [] = false
is_deep (s ∷ ss) = true

module _ (old new : Program) (keeping : Bool) where
  -- A value `whole h xs` has the first part `h`, behind the step `s`; its other parts are those of `rest xs`, each behind another step.
  record Parts (A : Type 0) (rest : A → Value) (whole : Value → A → Value) (s : Step) (move : Step → Step) (few sh x : Shape) : Type 0 where
    first : (h : Value) (xs : A) → part (whole h xs) s ≡ Some h
    first_put : (h u : Value) (xs : A) → with_part (whole h xs) s u ≡ whole u xs
    first_shape : shape_part sh s ≡ Some x
    next : (h : Value) (xs : A) (t : Step) (w : Value) → part (rest xs) t ≡ Some w → part (whole h xs) (move t) ≡ Some w
    next_put : (h : Value) (xs : A) (t : Step) (w u : Value) → part (rest xs) t ≡ Some w → (ys : A) × (with_part (rest xs) t u ≡ rest ys) × (with_part (whole h xs) (move t) u ≡ whole h ys)
    next_end : (h : Value) (xs ys : A) → rest xs ≡ rest ys → whole h xs ≡ whole h ys
    next_shape : (t : Step) (y : Shape) → shape_part few t ≡ Some y → shape_part sh (move t) ≡ Some y
    next_free : (t : Step) → free_step old new keeping few t ≡ free_step old new keeping sh (move t)
    next_old : (o : Old) (t : Step) → old_part old new few o t ≡ old_part old new sh o (move t)
    many : (xs : A) → is_single (rest xs) ≡ false

  -- what is carried to a single value is single
  pub carry_single : (sh : Shape) (o : Old) (h : Value) → is_single (carry old new keeping sh o h) ≡ true → is_single h ≡ true
  carry_single sh o (number z) e = refl
  carry_single sh o (reference r) e = refl
  carry_single (Array low n sh) o (array l hs) e = e
  carry_single (Structure name fs) o (structure m hs) e = e
  carry_single (Instance c name fs) o (instance m hs) e = e
  carry_single sh o h e = e

  module _ {A : Type 0} (rest : A → Value) (whole : Value → A → Value) (s : Step) (move : Step → Step) (few sh x : Shape) (parts : Parts A rest whole s move few sh x) where
    below_written : (ws : List Write) (xs : A) (h u : Value) → written h ws ≡ Some u → written (whole h xs) (all_below s ws) ≡ Some (whole u xs)
    below_written [] xs h u e = let d : h ≡ u = cc in ap (λ w. Some (whole w xs)) d
    below_written (w ∷ ws) xs h u e =
        let a = then_some (value_with h w.steps w.value) (λ n. written n ws) u e in
        let one : value_with (whole h xs) (s ∷ w.steps) w.value ≡ Some (whole a.0 xs) =
        then_is (part (whole h xs) s) _ h (whole a.0 xs) (parts.first h xs)
        (then_is (value_with h w.steps w.value) _ a.0 (whole a.0 xs) a.1 (ap Some (parts.first_put h a.0 xs))) in
        then_is (value_with (whole h xs) (s ∷ w.steps) w.value) (λ n. written n (all_below s ws)) (whole a.0 xs) (whole u xs) one (below_written ws xs a.0 u a.2)

    moved_written : (ws : List Write) (h : Value) (xs ys : A) → Each (λ w. is_deep w.steps ≡ true) ws → written (rest xs) ws ≡ Some (rest ys) → written (whole h xs) (all_moved move ws) ≡ Some (whole h ys)
    moved_written [] h xs ys d e = let q : rest xs ≡ rest ys = cc in ap Some (parts.next_end h xs ys q)
    moved_written (w ∷ ws) h xs ys d e = by w.steps w.value d.0 e (λ zs. moved_written ws h zs ys d.1)
      where
        by : (ss : List Step) (v : Value) → is_deep ss ≡ true → (value_with (rest xs) ss v >>= λ n. written n ws) ≡ Some (rest ys)
            → ((zs : A) → written (rest zs) ws ≡ Some (rest ys) → written (whole h zs) (all_moved move ws) ≡ Some (whole h ys))
            → (value_with (whole h xs) (moved_steps move ss) v >>= λ n. written n (all_moved move ws)) ≡ Some (whole h ys)
        by [] v f k go = cc
        by (t ∷ ts) v f k go =
            let a = then_some (value_with (rest xs) (t ∷ ts) v) (λ n. written n ws) (rest ys) k in
            let b = then_some (part (rest xs) t) (λ u. value_with u ts v >>= λ u'. Some (with_part (rest xs) t u')) a.0 a.1 in
            let c = then_some (value_with b.0 ts v) (λ u'. Some (with_part (rest xs) t u')) a.0 b.2 in
            let put = parts.next_put h xs t b.0 c.0 b.1 in
            let is : a.0 ≡ rest put.0 = let z = c.2 in let y = put.1 in cc in
            let one : value_with (whole h xs) (move t ∷ ts) v ≡ Some (whole h put.0) =
            then_is (part (whole h xs) (move t)) _ b.0 (whole h put.0) (parts.next h xs t b.0 b.1)
            (then_is (value_with b.0 ts v) _ c.0 (whole h put.0) c.1 (ap Some put.2)) in
            then_is (value_with (whole h xs) (move t ∷ ts) v) (λ n. written n (all_moved move ws)) (whole h put.0) (whole h ys) one
            (go put.0 (subst (λ n. written n ws ≡ Some (rest ys)) is a.2))

    -- ---- they are what is carried there

    module _ (o : Old) where
      below_carries : (h : Value) (xs : A) (w : Write) → free_step old new keeping sh s ≡ true → Carries old new keeping x (old_part old new sh o s) h w → Carries old new keeping sh o (whole h xs) (below s w)
      below_carries h xs w f c = record {
        leaf = c.leaf;
        was = c.was;
        there = then_is (shape_part sh s) (λ y. shape_at y w.steps) x c.leaf parts.first_shape c.there;
        holds = then_is (part (whole h xs) s) (λ v. value_at v w.steps) h c.was (parts.first h xs) c.holds;
        single = c.single;
        free = ap₂ (λ b y. b && none_stays old new keeping y w.steps) f parts.first_shape ∙ c.free;
        is = c.is ∙ ap (λ y. carry old new keeping c.leaf (y >>= λ z. old_along old new z (old_part old new sh o s) w.steps) c.was) (sym parts.first_shape);
      }

      all_below_carry : (ws : List Write) (h : Value) (xs : A) → free_step old new keeping sh s ≡ true → Each (Carries old new keeping x (old_part old new sh o s) h) ws → Each (Carries old new keeping sh o (whole h xs)) (all_below s ws)
      all_below_carry [] h xs f c = tt
      all_below_carry (w ∷ ws) h xs f c = (below_carries h xs w f c.0, all_below_carry ws h xs f c.1)

      deep : (xs : A) (w : Write) → Carries old new keeping few o (rest xs) w → is_deep w.steps ≡ true
      deep xs w c = by w.steps c.holds
        where
          single : is_single c.was ≡ true
          single = carry_single c.leaf (old_along old new few o w.steps) c.was (ap is_single (sym c.is) ∙ c.single)

          by : (ss : List Step) → value_at (rest xs) ss ≡ Some c.was → is_deep ss ≡ true
          by [] e =
              let d : rest xs ≡ c.was = cc in
              let q : false ≡ true = sym (parts.many xs) ∙ ap is_single d ∙ single in
              cc
          by (t ∷ ts) e = refl

      all_deep : (ws : List Write) (xs : A) → Each (Carries old new keeping few o (rest xs)) ws → Each (λ w. is_deep w.steps ≡ true) ws
      all_deep [] xs c = tt
      all_deep (w ∷ ws) xs c = (deep xs w c.0, all_deep ws xs c.1)

      moved_carries : (h : Value) (xs : A) (w : Write) → Carries old new keeping few o (rest xs) w → Carries old new keeping sh o (whole h xs) (moved move w)
      moved_carries h xs w c = by w.steps (deep xs w c) c.there c.holds c.free c.is
        where
          by : (ss : List Step) → is_deep ss ≡ true → shape_at few ss ≡ Some c.leaf → value_at (rest xs) ss ≡ Some c.was → none_stays old new keeping (Some few) ss ≡ true
              → w.value ≡ carry old new keeping c.leaf (old_along old new few o ss) c.was → Carries old new keeping sh o (whole h xs) (record { steps = moved_steps move ss; value = w.value })
          by [] d e f g k = absurd cc
          by (t ∷ ts) d e f g k =
              let a = then_some (shape_part few t) (λ y. shape_at y ts) c.leaf e in
              let b = then_some (part (rest xs) t) (λ v. value_at v ts) c.was f in
              let y = parts.next_shape t a.0 a.1 in
              record {
                leaf = c.leaf;
                was = c.was;
                there = then_is (shape_part sh (move t)) (λ z. shape_at z ts) a.0 c.leaf y a.2;
                holds = then_is (part (whole h xs) (move t)) (λ v. value_at v ts) b.0 c.was (parts.next h xs t b.0 b.1) b.2;
                single = c.single;
                free = ap₂ (λ q z. q && none_stays old new keeping z ts) (sym (parts.next_free t)) (y ∙ sym a.1) ∙ g;
                is = k ∙ ap₂ (λ z p. carry old new keeping c.leaf (z >>= λ r. old_along old new r p ts) c.was) (a.1 ∙ sym y) (parts.next_old o t);
              }

      all_moved_carry : (ws : List Write) (h : Value) (xs : A) → Each (Carries old new keeping few o (rest xs)) ws → Each (Carries old new keeping sh o (whole h xs)) (all_moved move ws)
      all_moved_carry [] h xs c = tt
      all_moved_carry (w ∷ ws) h xs c = (moved_carries h xs w c.0, all_moved_carry ws h xs c.1)

  -- ---- the values with parts

  place_self : (i : ℤ) → place_of_index i i ≡ Some 0
  place_self i = let d : i -ℤ i ≡ pos 0 = omega (arith, ints) in ap natural d

  place_next : (i k : ℤ) (n : ℕ) → place_of_index (i +ℤ pos 1) k ≡ Some n → place_of_index i k ≡ Some (suc n)
  place_next i k n e =
      let a : k -ℤ (i +ℤ pos 1) ≡ pos n = natural_is (k -ℤ (i +ℤ pos 1)) n e in
      let d : k -ℤ i ≡ pos (suc n) = omega (arith, ints) in
      ap natural d

  array_first : (i : ℤ) (n : ℕ) (x : Shape) → element_shape (suc n) x (place_of_index i i) ≡ Some x
  array_first i n x = let d : 0 < suc n = omega arith in ap (element_shape (suc n) x) (place_self i) ∙ ap (λ t. if t then Some x else None) (lt-ltb 0 (suc n) d)

  array_next : (i k : ℤ) (n : ℕ) (x y : Shape) → element_shape n x (place_of_index (i +ℤ pos 1) k) ≡ Some y → element_shape (suc n) x (place_of_index i k) ≡ Some y
  array_next i k n x y e =
      let a = element_of new n x y (place_of_index (i +ℤ pos 1) k) e in
      let d : suc a.0 < suc n = let q = a.2 in omega (arith, q) in
      ap (element_shape (suc n) x) (place_next i k a.0 a.1) ∙ ap (λ t. if t then Some x else None) (lt-ltb (suc a.0) (suc n) d) ∙ ap Some a.3

  abbrev same_step : Step → Step
  same_step s = s

  abbrev later : Step → Step
  later (step.Field k) = step.Field (suc k)
  later (step.Element i) = step.Element i

  module _ (i : ℤ) (n : ℕ) (x : Shape) where
    abbrev few_elements : Values → Value
    few_elements hs = array (i +ℤ pos 1) hs

    abbrev elements : Value → Values → Value
    elements h hs = array i (value_then h hs)

    element_there : (h : Value) (hs : Values) (t : Step) (w : Value) → part (few_elements hs) t ≡ Some w → part (elements h hs) t ≡ Some w
    element_there h hs (step.Element k) w e =
        let a = then_some (place_of_index (i +ℤ pos 1) k) (λ j. element hs j) w e in
        then_is (place_of_index i k) (λ j. element (value_then h hs) j) (suc a.0) w (place_next i k a.0 a.1) a.2
    element_there h hs (step.Field k) w e = cc

    element_put : (h : Value) (hs : Values) (t : Step) (w u : Value) → part (few_elements hs) t ≡ Some w → (ys : Values) × (with_part (few_elements hs) t u ≡ few_elements ys) × (with_part (elements h hs) t u ≡ elements h ys)
    element_put h hs (step.Element k) w u e =
        let a = then_some (place_of_index (i +ℤ pos 1) k) (λ j. element hs j) w e in (
          with_element hs a.0 u,
          ap (λ o. array (i +ℤ pos 1) (with_element_at hs o u)) a.1,
          ap (λ o. array i (with_element_at (value_then h hs) o u)) (place_next i k a.0 a.1),
        )
    element_put h hs (step.Field k) w u e = cc

    element_end : (h : Value) (xs ys : Values) → few_elements xs ≡ few_elements ys → elements h xs ≡ elements h ys
    element_end h xs ys e = let d : xs ≡ ys = cc in ap (elements h) d

    element_shapes : (t : Step) (y : Shape) → shape_part (Array (i +ℤ pos 1) n x) t ≡ Some y → shape_part (Array i (suc n) x) t ≡ Some y
    element_shapes (step.Element k) y e = array_next i k n x y e
    element_shapes (step.Field k) y e = cc

    element_olds : (o : Old) (t : Step) → old_part old new (Array (i +ℤ pos 1) n x) o t ≡ old_part old new (Array i (suc n) x) o t
    element_olds o (step.Element k) = refl
    element_olds o (step.Field k) = refl

    element_parts : Parts Values few_elements elements (step.Element i) same_step (Array (i +ℤ pos 1) n x) (Array i (suc n) x) x
    element_parts = record {
      first = λ h hs. then_is (place_of_index i i) (λ j. element (value_then h hs) j) 0 h (place_self i) refl;
      first_put = λ h u hs. ap (λ o. array i (with_element_at (value_then h hs) o u)) (place_self i);
      first_shape = array_first i n x;
      next = element_there;
      next_put = element_put;
      next_end = element_end;
      next_shape = element_shapes;
      next_free = λ t. refl;
      next_old = element_olds;
      many = λ hs. refl;
    }

  module _ (name m n : List ℕ) (v : Variable) (x : Shape) (fs : Fields) where
    abbrev fields : Value → Members → Value
    fields h hs = structure m (member_then n h hs)

    field_there : (h : Value) (hs : Members) (t : Step) (w : Value) → part (structure m hs) t ≡ Some w → part (fields h hs) (later t) ≡ Some w
    field_there h hs (step.Field k) w e = e
    field_there h hs (step.Element k) w e = cc

    field_put : (h : Value) (hs : Members) (t : Step) (w u : Value) → part (structure m hs) t ≡ Some w → (ys : Members) × (with_part (structure m hs) t u ≡ structure m ys) × (with_part (fields h hs) (later t) u ≡ fields h ys)
    field_put h hs (step.Field k) w u e = (with_member hs k u, refl, refl)
    field_put h hs (step.Element k) w u e = cc

    field_shapes : (t : Step) (y : Shape) → shape_part (Structure name fs) t ≡ Some y → shape_part (Structure name (field_then v x fs)) (later t) ≡ Some y
    field_shapes (step.Field k) y e = e
    field_shapes (step.Element k) y e = cc

    field_free : (t : Step) → free_step old new keeping (Structure name fs) t ≡ free_step old new keeping (Structure name (field_then v x fs)) (later t)
    field_free (step.Field k) = refl
    field_free (step.Element k) = refl

    field_olds : (o : Old) (t : Step) → old_part old new (Structure name fs) o t ≡ old_part old new (Structure name (field_then v x fs)) o (later t)
    field_olds o (step.Field k) = refl
    field_olds o (step.Element k) = refl

    field_parts : Parts Members (structure m) fields (step.Field 0) later (Structure name fs) (Structure name (field_then v x fs)) x
    field_parts = record {
      first = λ h hs. refl;
      first_put = λ h u hs. refl;
      first_shape = refl;
      next = field_there;
      next_put = field_put;
      next_end = λ h xs ys e. let d : xs ≡ ys = cc in ap (fields h) d;
      next_shape = field_shapes;
      next_free = field_free;
      next_old = field_olds;
      many = λ hs. refl;
    }

  module _ (c : ℕ) (name m n : List ℕ) (v : Variable) (x : Shape) (fs : Fields) where
    abbrev variables : Value → Members → Value
    variables h hs = instance m (member_then n h hs)

    variable_there : (h : Value) (hs : Members) (t : Step) (w : Value) → part (instance m hs) t ≡ Some w → part (variables h hs) (later t) ≡ Some w
    variable_there h hs (step.Field k) w e = e
    variable_there h hs (step.Element k) w e = cc

    variable_put : (h : Value) (hs : Members) (t : Step) (w u : Value) → part (instance m hs) t ≡ Some w → (ys : Members) × (with_part (instance m hs) t u ≡ instance m ys) × (with_part (variables h hs) (later t) u ≡ variables h ys)
    variable_put h hs (step.Field k) w u e = (with_member hs k u, refl, refl)
    variable_put h hs (step.Element k) w u e = cc

    variable_shapes : (t : Step) (y : Shape) → shape_part (Instance c name fs) t ≡ Some y → shape_part (Instance c name (field_then v x fs)) (later t) ≡ Some y
    variable_shapes (step.Field k) y e = e
    variable_shapes (step.Element k) y e = cc

    variable_free : (t : Step) → free_step old new keeping (Instance c name fs) t ≡ free_step old new keeping (Instance c name (field_then v x fs)) (later t)
    variable_free (step.Field k) = refl
    variable_free (step.Element k) = refl

    variable_olds : (o : Old) (t : Step) → old_part old new (Instance c name fs) o t ≡ old_part old new (Instance c name (field_then v x fs)) o (later t)
    variable_olds o (step.Field k) = refl
    variable_olds o (step.Element k) = refl

    variable_parts : Parts Members (instance m) variables (step.Field 0) later (Instance c name fs) (Instance c name (field_then v x fs)) x
    variable_parts = record {
      first = λ h hs. refl;
      first_put = λ h u hs. refl;
      first_shape = refl;
      next = variable_there;
      next_put = variable_put;
      next_end = λ h xs ys e. let d : xs ≡ ys = cc in ap (variables h) d;
      next_shape = variable_shapes;
      next_free = variable_free;
      next_old = variable_olds;
      many = λ hs. refl;
    }

  -- ---- rows of what is carried

  -- a row of writes into a value, which makes this one of it
  pub record Row (sh : Shape) (o : Old) (held made : Value) : Type 0 where
    pub ws : List Write
    pub each : Each (Carries old new keeping sh o held) ws
    pub makes : written held ws ≡ Some made

  row_joined : (sh : Shape) (o : Old) (held between made : Value) (xs ys : List Write) → Each (Carries old new keeping sh o held) xs → Each (Carries old new keeping sh o held) ys
      → written held xs ≡ Some between → written between ys ≡ Some made → Row sh o held made
  row_joined sh o held between made xs ys c d e f =
      record { ws = xs ++ ys; each = each_both (Carries old new keeping sh o held) xs ys c d; makes = both_written xs ys held between made e f }

  -- a row into the first part, where this does not stay, and one into the others
  row_of : {A : Type 0} (rest : A → Value) (whole : Value → A → Value) (s : Step) (move : Step → Step) (few sh x : Shape) → Parts A rest whole s move few sh x → (o : Old) (h u : Value) (hs us : A) (b : Bool)
      → free_step old new keeping sh s ≡ not b → Row x (old_part old new sh o s) h u → Row few o (rest hs) (rest us) → Row sh o (whole h hs) (whole (if b then h else u) us)
  row_of rest whole s move few sh x p o h u hs us true f a b =
      record {
        ws = all_moved move b.ws;
        each = all_moved_carry rest whole s move few sh x p o b.ws h hs b.each;
        makes = moved_written rest whole s move few sh x p b.ws h hs us (all_deep rest whole s move few sh x p o b.ws hs b.each) b.makes;
      }
  row_of rest whole s move few sh x p o h u hs us false f a b =
      row_joined sh o (whole h hs) (whole u hs) (whole u us) (all_below s a.ws) (all_moved move b.ws) (all_below_carry rest whole s move few sh x p o a.ws h hs f a.each)
      (all_moved_carry rest whole s move few sh x p o b.ws h hs b.each) (below_written rest whole s move few sh x p a.ws hs h u a.makes)
      (moved_written rest whole s move few sh x p b.ws u hs us (all_deep rest whole s move few sh x p o b.ws hs b.each) b.makes)

  row_single : (sh : Shape) (o : Old) (held made : Value) → is_single made ≡ true → made ≡ carry old new keeping sh o held → Row sh o held made
  row_single sh o held made f e = record {
    ws = record { steps = []; value = made } ∷ [];
    each = (record { leaf = sh; was = held; there = refl; holds = refl; single = f; free = refl; is = e }, tt);
    makes = refl;
  }

  row_none : (sh : Shape) (o : Old) (held : Value) → Row sh o held held
  row_none sh o held = record { ws = []; each = tt; makes = refl }

  mutual
    pub row : (h : Value) (sh : Shape) (o : Old) → Fit new sh h → Row sh o h (carry old new keeping sh o h)
    row (number z) (Elementary e) o g = row_single (Elementary e) o (number z) _ refl refl
    row (number z) (Enumeration name values) o g = row_single (Enumeration name values) o (number z) _ refl refl
    row (reference r) (Reference c name) o g = row_single (Reference c name) o (reference r) _ refl refl
    row (reference r) (Interface i name) o g = row_single (Interface i name) o (reference r) _ refl refl
    row (array l hs) (Array low n sh) o g = subst (λ i. Row (Array low n sh) o (array i hs) (array i (carry_elements old new keeping sh o low hs))) g.0 (elements_row hs n sh o low g.1)
    row (structure m hs) (Structure name fs) o g = fields_row hs fs name m o g.1
    row (instance m hs) (Instance c name fs) o g = variables_row hs fs c name m o g.1
    row h sh o g = absurd g

    elements_row : (hs : Values) (n : ℕ) (sh : Shape) (o : Old) (i : ℤ) → FitAll new n sh hs → Row (Array i n sh) o (array i hs) (array i (carry_elements old new keeping sh o i hs))
    elements_row no_values zero sh o i g = row_none (Array i zero sh) o (array i no_values)
    elements_row no_values (suc n) sh o i g = absurd g
    elements_row (value_then h hs) zero sh o i g = absurd g
    elements_row (value_then h hs) (suc n) sh o i g =
        row_of (few_elements i n sh) (elements i n sh) (step.Element i) same_step (Array (i +ℤ pos 1) n sh) (Array i (suc n) sh) sh (element_parts i n sh) o h (carry old new keeping sh (old_element o i) h) hs
        (carry_elements old new keeping sh o (i +ℤ pos 1) hs) false refl (row h sh (old_element o i) g.0) (elements_row hs n sh o (i +ℤ pos 1) g.1)

    fields_row : (hs : Members) (fs : Fields) (name m : List ℕ) (o : Old) → FitEach new fs hs
        → Row (Structure name fs) o (structure m hs) (structure m (carry_members old new keeping fs (structure_pairs old new name) (field_before name o) hs))
    fields_row no_members no_fields name m o g = row_none (Structure name no_fields) o (structure m no_members)
    fields_row no_members (field_then v sh fs) name m o g = absurd g
    fields_row (member_then n h hs) no_fields name m o g = absurd g
    fields_row (member_then n h hs) (field_then v sh fs) name m o g =
        let from = before_by (field_before name o) (old_name (structure_pairs old new name) v.name) in
        row_of (structure m) (fields name m n v sh fs) (step.Field 0) later (Structure name fs) (Structure name (field_then v sh fs)) sh (field_parts name m n v sh fs) o h (carry old new keeping sh from h) hs
        (carry_members old new keeping fs (structure_pairs old new name) (field_before name o) hs) (stays old new keeping v) refl (row h sh from g.1) (fields_row hs fs name m o g.2)

    variables_row : (hs : Members) (fs : Fields) (c : ℕ) (name m : List ℕ) (o : Old) → FitEach new fs hs
        → Row (Instance c name fs) o (instance m hs) (instance m (carry_members old new keeping fs (class_pairs old new c) (variable_before name o) hs))
    variables_row no_members no_fields c name m o g = row_none (Instance c name no_fields) o (instance m no_members)
    variables_row no_members (field_then v sh fs) c name m o g = absurd g
    variables_row (member_then n h hs) no_fields c name m o g = absurd g
    variables_row (member_then n h hs) (field_then v sh fs) c name m o g =
        let from = before_by (variable_before name o) (old_name (class_pairs old new c) v.name) in
        row_of (instance m) (variables c name m n v sh fs) (step.Field 0) later (Instance c name fs) (Instance c name (field_then v sh fs)) sh (variable_parts c name m n v sh fs) o h (carry old new keeping sh from h) hs
        (carry_members old new keeping fs (class_pairs old new c) (variable_before name o) hs) (stays old new keeping v) refl (row h sh from g.1) (variables_row hs fs c name m o g.2)
