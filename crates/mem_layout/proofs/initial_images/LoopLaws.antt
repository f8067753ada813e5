-- Elements and variables that are filled one after the other.
use Rattle.std.proofs.Common.{◌≡◌, ◌≤◌, ◌<◌, ℕ, zero, suc, ◌+◌, ◌-◌, ◌*◌, ◌/◌, List, [], ◌∷◌, length, take, drop, Option, Some, None, refl, sym, ap, ◌∙◌, subst, arith, inl}
use Rattle.std.specs.Borrow.{Bor}
use Rattle.std.specs.Prelude.{slice_get, slice_range, option_map}
use Rattle.std.proofs.Math.Nat.{mul-div_cancel}
use Rattle.st_tree.specs.declared.path.Step.TheVariants as step
use Rattle.st_tree.specs.declared.program.Note.{Note}
use Rattle.st_tree.specs.Initial.{Initial, FieldInits}
use Rattle.st_rules.specs.Chains.{◌or_else◌}
use Rattle.st_types.specs.declared.st_type.StType.{StType}
use Rattle.st_values.specs.Program.{Variable, Program}
use Rattle.st_values.specs.Value.{Value, value_then}
use Rattle.st_values.specs.Shape.{Shape, Fields, no_fields, field_then, fields_by, shape_within, region_shape}
use Rattle.st_values.specs.ShapeLaws.{Unfolds}
use Rattle.st_values.specs.Initial.{given_for, elements, init, inits}
use Rattle.st_values.proofs.ValueLaws.{one_some}
use Rattle.program_tables.specs.declared.st_initial.variables.Variable as held
use Rattle.program_tables.specs.st_initial.Members.{items_at}
use Rattle.program_tables.specs.st_initial.Variables.{variables_of}
use Rattle.program_tables.proofs.st_initial.WalkLaws.{positive}
use Rattle.mem_layout.specs.store_bytes.Place.{gap, alignment, size, ending, Place, field_place, part_place}
use Rattle.mem_layout.specs.store_bytes.Image.{image_of}
use Rattle.mem_layout.specs.store_bytes.InitialLaws.{EachGiven, IsInRange, AreInRange}
use Rattle.mem_layout.proofs.store_bytes.Initial.{initial_laws}
use Rattle.mem_layout.proofs.store_bytes.Moves.{ending_above}
use Rattle.mem_layout.proofs.store_bytes.Suits.{suits_laws}
use Rattle.mem_layout.specs.Layout.{IsSmall, EachIsSmall, HasShape, IsPart}
use Rattle.mem_layout.proofs.EntryLaws.{next_of}
use Rattle.mem_layout.specs.initial_images.Private.Fill.{IsRoom, FillsAt, FillsFields, FillsElements, CanFill, CanFillElements, CanFillFields, Filled, ElementsFilled}
use Rattle.mem_layout.proofs.initial_images.FillLaws.{keeps_all, room_part, room_kept, fields_last, fields_next, elements_last, elements_next}
use Rattle.mem_layout.proofs.initial_images.TypeLaws.{has_shape}

-- ---- what is given to elements

elements_at : (f : Option (Initial Note) → Value) (m k : ℕ) (is : List (Initial Note)) → elements f (suc m) (drop k is) ≡ value_then (f (slice_get is k)) (elements f m (drop (suc k) is))
elements_at f m zero [] = refl
elements_at f m zero (i ∷ is) = refl
elements_at f m (suc k) [] = refl
elements_at f m (suc k) (i ∷ is) = elements_at f m k is

pub elements_taken : (f : Option (Initial Note) → Value) (n : ℕ) (is : List (Initial Note)) → elements f n (take n is) ≡ elements f n is
elements_taken f zero is = refl
elements_taken f (suc n) [] = refl
elements_taken f (suc n) (i ∷ is) = ap (value_then (f (Some i))) (elements_taken f n is)

pub given_taken : (P : Option (Initial Note) → Type 0) (n : ℕ) (is : List (Initial Note)) → EachGiven P is → EachGiven P (take n is)
given_taken P zero is h = tt
given_taken P (suc n) [] h = tt
given_taken P (suc n) (i ∷ is) h = (h.0, given_taken P n is h.1)

pub given_at : (P : Option (Initial Note) → Type 0) → P None → (is : List (Initial Note)) → EachGiven P is → (k : ℕ) → P (slice_get is k)
given_at P none [] h k = none
given_at P none (i ∷ is) h zero = h.0
given_at P none (i ∷ is) h (suc k) = given_at P none is h.1 k

-- ---- elements, of which some are left

module _ (regions : ℕ → Option Shape) (sh : Shape) where
  -- there is room for those that are left, and what fills them makes the whole
  pub record ElementsLeft (is : List (Initial Note)) (n k off at : ℕ) (whole im : List ℕ) : Type 0 where
    pub room : IsRoom im at ((n - k) * size sh)
    pub long : length im ≡ length whole
    pub rest : (im' : List ℕ) → FillsElements regions sh (elements (init sh) (n - k) (drop k is)) at im im' → FillsElements regions sh (elements (init sh) n is) off whole im'

  pub elements_begun : (is : List (Initial Note)) (n off : ℕ) (im : List ℕ) → IsRoom im off (n * size sh) → ElementsLeft is n 0 off off im im
  elements_begun is n off im r =
      let e : n - 0 ≡ n = omega arith in
      record {
        room = subst (λ m. IsRoom im off (m * size sh)) (sym e) r;
        long = refl;
        rest = λ im' g. subst (λ m. FillsElements regions sh (elements (init sh) m is) off im im') e g;
      }

  -- as many bytes as the next one and those behind it
  many : (n k s : ℕ) → k < n → (n - k) * s ≡ s + (n - (k + 1)) * s
  many n k s lt =
      let e : n - k ≡ suc (n - (k + 1)) = omega (arith, lt) in
      let f : suc (n - (k + 1)) * s ≡ s + (n - (k + 1)) * s = grind arith in
      ap (λ m. m * s) e ∙ f

  pub element_room : (is : List (Initial Note)) (n k off at : ℕ) (whole a : List ℕ) → k < n → ElementsLeft is n k off at whole a → IsRoom a at (size sh)
  element_room is n k off at whole a lt left =
      let all = many n k (size sh) lt in
      let r = room_part a at ((n - k) * size sh) 0 (size sh) left.room (omega (arith, all)) in
      let here : at + 0 ≡ at = omega arith in
      subst (λ i. IsRoom a i (size sh)) here r

  pub element_filled : (is : List (Initial Note)) (n k off at at' : ℕ) (whole a b : List ℕ) → k < n → ElementsLeft is n k off at whole a → FillsAt regions sh (init sh (slice_get is k)) at a b → at' ≡ at + size sh → ElementsLeft is n (k + 1) off at' whole b
  element_filled is n k off at at' whole a b lt left f e =
      let all = many n k (size sh) lt in
      let left_over = (n - (k + 1)) * size sh in
      let r = room_part a at ((n - k) * size sh) (size sh) left_over left.room (omega (arith, all)) in
      let end : at + size sh ≤ at + size sh = omega arith in
      let kept = room_kept a b at (size sh) (at + size sh) left_over f.keeps f.long (inl end) r in
      let more : suc (n - (k + 1)) ≡ n - k = omega (arith, lt) in
      let next : k + 1 ≡ suc k = omega arith in
      record {
        room = subst (λ i. IsRoom b i left_over) (sym e) kept;
        long = f.long ∙ left.long;
        rest = λ im' g.
            let w = init sh (slice_get is k) in
            let ws = elements (init sh) (n - (k + 1)) (drop (suc k) is) in
            let g' : FillsElements regions sh ws (at + size sh) b im' = subst (λ i. FillsElements regions sh ws i b im') e (subst (λ j. FillsElements regions sh (elements (init sh) (n - (k + 1)) (drop j is)) at' b im') next g) in
            let h = elements_next regions sh w ws at a b im' f g' in
            let h' : FillsElements regions sh (elements (init sh) (suc (n - (k + 1))) (drop k is)) at a im' = subst (λ vs. FillsElements regions sh vs at a im') (sym (elements_at (init sh) (n - (k + 1)) k is)) h in
            left.rest im' (subst (λ m. FillsElements regions sh (elements (init sh) m (drop k is)) at a im') more h');
      }

  pub elements_ended : (is : List (Initial Note)) (n k off at : ℕ) (whole im : List ℕ) → n ≤ k → ElementsLeft is n k off at whole im → FillsElements regions sh (elements (init sh) n is) off whole im
  elements_ended is n k off at whole im h left =
      let z : 0 ≡ n - k = omega (arith, h) in
      left.rest im (subst (λ m. FillsElements regions sh (elements (init sh) m (drop k is)) at im im) z (elements_last regions sh at im))

-- ---- what has no bytes

no_items : (xs : List ℕ) → length xs ≡ 0 → xs ≡ []
no_items [] h = refl
no_items (x ∷ xs) h = absurd (omega (arith, h))

module _ (p : Program) where
  nothing_filled : (sh : Shape) (given : Option (Initial Note)) (i : ℕ) (im : List ℕ) → size sh ≡ 0 → IsInRange sh given → FillsAt (region_shape p) sh (init sh given) i im im
  nothing_filled sh given i im e h =
      let regions = region_shape p in
      let v = init sh given in
      let s = (initial_laws p).suits regions sh given h in
      let laws = suits_laws regions in
      let empty : image_of regions sh v ≡ [] = no_items (image_of regions sh v) (laws.long sh v s ∙ e) in
      let z : i + size sh - i ≡ 0 = omega (arith, e) in
      let none : slice_range im i (i + size sh) ≡ [] = rw z refl in
      record { spells = laws.spelled sh v im i s (none ∙ sym empty); keeps = keeps_all im i (size sh); long = refl }

  pub nothing_each : (sh : Shape) (n : ℕ) (is : List (Initial Note)) (i : ℕ) (im : List ℕ) → size sh ≡ 0 → IsInRange sh None → EachGiven (IsInRange sh) is → FillsElements (region_shape p) sh (elements (init sh) n is) i im im
  nothing_each sh zero is i im e h hs = elements_last (region_shape p) sh i im
  nothing_each sh (suc n) [] i im e h hs =
      elements_next (region_shape p) sh (init sh None) (elements (init sh) n []) i im im im (nothing_filled sh None i im e h) (nothing_each sh n [] (i + size sh) im e h tt)
  nothing_each sh (suc n) (g ∷ gs) i im e h hs =
      elements_next (region_shape p) sh (init sh (Some g)) (elements (init sh) n gs) i im im im (nothing_filled sh (Some g) i im e hs.0) (nothing_each sh n gs (i + size sh) im e h hs.1)

-- ---- the elements of a type

module _ (p : Program) (n : ℕ) (t : StType) (many bytes : ℕ) (gs : List (Initial Note)) (i : ℕ) (im : List ℕ) (q : CanFillElements p n t many bytes gs i im) where
  pub size_is : (element : ℕ) → (HasShape p t → (sh : Shape) → Unfolds p t sh → element ≡ size sh) → element ≡ size q.shape
  size_is element f = f (has_shape p n t q.shape q.deep q.unfolds q.small) q.shape (record { depth = n; by = q.unfolds })

  pub end_is : (element end : ℕ) → element ≡ size q.shape → (element ≡ 0 → ⊥) → end ≡ bytes / element → end ≡ many
  end_is element end s ne e =
      let some : 0 < size q.shape = subst (λ m. 0 < m) s (positive element ne) in
      e ∙ (ap (λ m. bytes / m) s ∙ (ap (λ b. b / size q.shape) q.bytes-are ∙ mul-div_cancel many some))

  pub element_can : (is : List (Initial Note)) (end k at : ℕ) (a : List ℕ) → is ≡ take end gs → k < many → ElementsLeft (region_shape p) q.shape is many k i at im a → CanFill p n t (slice_get is k) at a
  element_can is end k at a e lt left =
      let each : EachGiven (IsInRange q.shape) is = subst (EachGiven (IsInRange q.shape)) (sym e) (given_taken (IsInRange q.shape) end gs q.each) in
      let long = left.long in
      let few = q.few in
      record {
        shape = q.shape;
        unfolds = q.unfolds;
        deep = q.deep;
        small = q.small;
        range = given_at (IsInRange q.shape) q.none is each k;
        room = element_room (region_shape p) q.shape is many k i at im a lt left;
        few = omega (arith, long, few);
      }

  pub next_low : (is : List (Initial Note)) (k at : ℕ) (a : List ℕ) → k < many → ElementsLeft (region_shape p) q.shape is many k i at im a → at + size q.shape < 4294967296
  next_low is k at a lt left =
      let room = element_room (region_shape p) q.shape is many k i at im a lt left in
      let within = room.within in
      let long = left.long in
      let few = q.few in
      omega (arith, within, long, few)

  pub next_element : (is : List (Initial Note)) (k at at' element : ℕ) (a b : List ℕ) → k < many → ElementsLeft (region_shape p) q.shape is many k i at im a → element ≡ size q.shape → at' ≡ at + element → Filled p n t (slice_get is k) at a b
      → ElementsLeft (region_shape p) q.shape is many (k + 1) i at' im b
  next_element is k at at' element a b lt left s e f = element_filled (region_shape p) q.shape is many k i at at' im a b lt left (f.by q.shape q.unfolds) (e ∙ ap (λ m. at + m) s)

  elements_filled : (a : List ℕ) → FillsElements (region_shape p) q.shape (elements (init q.shape) many gs) i im a → ElementsFilled p n t many gs i im a
  elements_filled a f = record {
    by = λ sh u. let same : q.shape ≡ sh = one_some (shape_within p n t) q.shape sh q.unfolds u in subst (λ s. FillsElements (region_shape p) s (elements (init s) many gs) i im a) same f;
  }

  pub all_elements : (is : List (Initial Note)) (end k at : ℕ) (a : List ℕ) → end ≡ many → is ≡ take end gs → end ≤ k → ElementsLeft (region_shape p) q.shape is many k i at im a → ElementsFilled p n t many gs i im a
  all_elements is end k at a m e h left =
      let f = elements_ended (region_shape p) q.shape is many k i at im a (subst (λ x. x ≤ k) m h) left in
      let vs : elements (init q.shape) many is ≡ elements (init q.shape) many gs = ap (elements (init q.shape) many) e ∙ (ap (λ x. elements (init q.shape) many (take x gs)) m ∙ elements_taken (init q.shape) many gs) in
      elements_filled a (subst (λ xs. FillsElements (region_shape p) q.shape xs i im a) vs f)

  pub no_bytes : (element : ℕ) → element ≡ size q.shape → element ≡ 0 → ElementsFilled p n t many gs i im im
  no_bytes element s z = elements_filled im (nothing_each p q.shape many gs i im (sym s ∙ z) q.none q.each)

-- ---- variables that are lent

pub lent : (o : Option (Bor (List held.Variable))) (x : Bor (List held.Variable)) (list : List held.Variable) → o ≡ Some x → list ≡ x.now → variables_of (items_at (option_map (λ vs. vs.now) o)) ≡ variables_of list
lent o x list e f = ap (λ y. variables_of (items_at (option_map (λ (vs : Bor (List held.Variable)). vs.now) y))) e ∙ ap variables_of (sym f)

-- ---- variables, of which some are left

abbrev offset_in : Option Place → ℕ
offset_in None = 0
offset_in (Some x) = x.offset

module _ (p : Program) (n : ℕ) where
  -- there is room for those that are left, and what fills them makes the whole
  pub record FieldsLeft (start : ℕ) (fs : Fields) (vs : List Variable) (gs : FieldInits Note) (k i : ℕ) (whole im : List ℕ) : Type 0 where
    pub off : ℕ
    pub left : Fields
    pub unfolds : fields_by (shape_within p n) vs ≡ Some left
    pub places : (j : ℕ) → field_place start fs (k + j) ≡ field_place off left j
    pub small : EachIsSmall left
    pub range : AreInRange left gs
    pub room : IsRoom im (i + off) (ending off left - off)
    pub long : length im ≡ length whole
    pub rest : (im' : List ℕ) → FillsFields (region_shape p) off left (inits left gs) i im im' → FillsFields (region_shape p) start fs (inits fs gs) i whole im'

  pub fields_begun : (t : StType) (vs : List Variable) (gs : FieldInits Note) (i : ℕ) (im : List ℕ) (q : CanFillFields p n t vs gs i im) → FieldsLeft q.start q.fields vs gs 0 i im im
  fields_begun t vs gs i im q = record {
    off = q.start;
    left = q.fields;
    unfolds = q.unfolds;
    places = λ j. let z : 0 + j ≡ j = omega arith in ap (field_place q.start q.fields) z;
    small = q.small;
    range = q.range;
    room = q.room;
    long = refl;
    rest = λ im' g. g;
  }

  -- the next variable and what is left behind it
  record FieldNext (start : ℕ) (fs : Fields) (v : Variable) (vs : List Variable) (gs : FieldInits Note) (k i : ℕ) (whole im : List ℕ) : Type 0 where
    off : ℕ
    shape : Shape
    behind : Fields
    unfolds : shape_within p n v.kind ≡ Some shape
    more : fields_by (shape_within p n) vs ≡ Some behind
    places : (j : ℕ) → field_place start fs (k + j) ≡ field_place off (field_then v shape behind) j
    small : IsSmall shape × EachIsSmall behind
    range : IsInRange shape (given_for v.name gs or_else v.initial) × AreInRange behind gs
    room : IsRoom im (i + off) (ending off (field_then v shape behind) - off)
    long : length im ≡ length whole
    rest : (im' : List ℕ) → FillsFields (region_shape p) off (field_then v shape behind) (inits (field_then v shape behind) gs) i im im' → FillsFields (region_shape p) start fs (inits fs gs) i whole im'

  next_field : (start : ℕ) (fs : Fields) (v : Variable) (vs : List Variable) (gs : FieldInits Note) (k i : ℕ) (whole im : List ℕ) → FieldsLeft start fs (v ∷ vs) gs k i whole im → FieldNext start fs v vs gs k i whole im
  next_field start fs v vs gs k i whole im l =
      let x = next_of p n v vs l.left l.unfolds in
      record {
        off = l.off;
        shape = x.shape;
        behind = x.behind;
        unfolds = x.unfolds;
        more = x.more;
        places = λ j. l.places j ∙ ap (λ hs. field_place l.off hs j) x.is;
        small = subst EachIsSmall x.is l.small;
        range = subst (λ hs. AreInRange hs gs) x.is l.range;
        room = subst (λ hs. IsRoom im (i + l.off) (ending l.off hs - l.off)) x.is l.room;
        long = l.long;
        rest = λ im' g. l.rest im' (subst (λ hs. FillsFields (region_shape p) l.off hs (inits hs gs) i im im') (sym x.is) g);
      }

  -- it lies there, and there is room for it
  pub record FieldThere (start : ℕ) (fs : Fields) (v : Variable) (given : Option (Initial Note)) (k i : ℕ) (im : List ℕ) : Type 0 where
    pub from : ℕ
    pub shape : Shape
    pub place : field_place start fs k ≡ Some (record { offset = from; shape = shape })
    pub can : CanFill p n v.kind given (i + from) im

  pub field_there : (start : ℕ) (fs : Fields) (v : Variable) (vs : List Variable) (gs : FieldInits Note) (k i : ℕ) (whole im : List ℕ) → n ≤ 65 → length whole < 4294967296 → FieldsLeft start fs (v ∷ vs) gs k i whole im → FieldThere start fs v (given_for v.name gs or_else v.initial) k i im
  field_there start fs v vs gs k i whole im d lt l =
      let x = next_field start fs v vs gs k i whole im l in
      let gp = gap (alignment x.shape) x.off in
      let from = x.off + gp in
      let above : from + size x.shape ≤ ending (from + size x.shape) x.behind = ending_above x.behind (from + size x.shape) in
      let r = room_part im (i + x.off) (ending (from + size x.shape) x.behind - x.off) gp (size x.shape) x.room (omega (arith, above)) in
      let at : i + x.off + gp ≡ i + from = omega arith in
      let here : k + 0 ≡ k = omega arith in
      let len = x.long in
      record {
        from = from;
        shape = x.shape;
        place = ap (field_place start fs) (sym here) ∙ x.places 0;
        can = record { shape = x.shape; unfolds = x.unfolds; deep = d; small = x.small.0; range = x.range.0; room = subst (λ j. IsRoom im j (size x.shape)) at r; few = omega (arith, len, lt) };
      }

  pub field_low : (start : ℕ) (fs : Fields) (v : Variable) (given : Option (Initial Note)) (k i : ℕ) (im : List ℕ) (x : FieldThere start fs v given k i im) → i + x.from < 4294967296
  field_low start fs v given k i im x =
      let within = x.can.room.within in
      let few = x.can.few in
      omega (arith, within, few)

  pub field_filled : (start : ℕ) (fs : Fields) (v : Variable) (vs : List Variable) (gs : FieldInits Note) (given : Option (Initial Note)) (k i from : ℕ) (sh : Shape) (whole a b : List ℕ) → FieldsLeft start fs (v ∷ vs) gs k i whole a
      → field_place start fs k ≡ Some (record { offset = from; shape = sh }) → given ≡ (given_for v.name gs or_else v.initial) → Filled p n v.kind given (i + from) a b → FieldsLeft start fs vs gs (k + 1) i whole b
  field_filled start fs v vs gs given k i from sh whole a b l e g f =
      let x = next_field start fs v vs gs k i whole a l in
      let regions = region_shape p in
      let gp = gap (alignment x.shape) x.off in
      let from' = x.off + gp in
      let behind = from' + size x.shape in
      let here : k ≡ k + 0 = omega arith in
      let at : from ≡ from' = ap offset_in (sym e ∙ (ap (field_place start fs) here ∙ x.places 0)) in
      let w = init x.shape (given_for v.name gs or_else v.initial) in
      let one : FillsAt regions x.shape w (i + from') a b = subst (λ m. FillsAt regions x.shape w (i + m) a b) at (subst (λ o. FillsAt regions x.shape (init x.shape o) (i + from) a b) g (f.by x.shape x.unfolds)) in
      let above : behind ≤ ending behind x.behind = ending_above x.behind behind in
      let left_over = ending behind x.behind - behind in
      let r = room_part a (i + x.off) (ending behind x.behind - x.off) (gp + size x.shape) left_over x.room (omega (arith, above)) in
      let place : i + x.off + (gp + size x.shape) ≡ i + behind = omega arith in
      let r' : IsRoom a (i + behind) left_over = subst (λ j. IsRoom a j left_over) place r in
      let end : i + from' + size x.shape ≤ i + behind = omega arith in
      record {
        off = behind;
        left = x.behind;
        unfolds = x.more;
        places = λ j. let s : k + 1 + j ≡ k + suc j = omega arith in ap (field_place start fs) s ∙ x.places (suc j);
        small = x.small.1;
        range = x.range.1;
        room = room_kept a b (i + from') (size x.shape) (i + behind) left_over one.keeps one.long (inl end) r';
        long = one.long ∙ x.long;
        rest = λ im' h. x.rest im' (fields_next regions x.off v x.shape x.behind w (inits x.behind gs) i a b im' x.room one h);
      }

  pub fields_ended : (start : ℕ) (fs : Fields) (vs : List Variable) (gs : FieldInits Note) (k i : ℕ) (whole im : List ℕ) → vs ≡ [] → FieldsLeft start fs vs gs k i whole im → FillsFields (region_shape p) start fs (inits fs gs) i whole im
  fields_ended start fs vs gs k i whole im e l =
      let s : Some no_fields ≡ Some l.left = sym (ap (fields_by (shape_within p n)) e) ∙ l.unfolds in
      let none : no_fields ≡ l.left = cc in
      l.rest im (subst (λ hs. FillsFields (region_shape p) l.off hs (inits hs gs) i im im) none (fields_last (region_shape p) l.off i im))

-- ---- what a layout tells of a field

part_from : (p : Program) (r : ℕ × StType) (o : Option Place) (from : ℕ) (sh : Shape) → o ≡ Some (record { offset = from; shape = sh }) → IsPart p (Some r) o → r.0 ≡ from
part_from p r None from sh e h = absurd h
part_from p r (Some x) from sh e h = let q : x.offset ≡ from = ap offset_in e in h.0 ∙ q

part_there : (p : Program) (o : Option Place) (x : Place) → o ≡ Some x → IsPart p None o → ⊥
part_there p None x e h = cc
part_there p (Some y) x e h = h

module _ (p : Program) (n : ℕ) (t : StType) (vs : List Variable) (gs : FieldInits Note) (i : ℕ) (im : List ℕ) (q : CanFillFields p n t vs gs i im) where
  -- the answer is of the k-th field
  place_is : (k field from : ℕ) (sh : Shape) → field ≡ k → field_place q.start q.fields k ≡ Some (record { offset = from; shape = sh }) → part_place q.has.shape (step.Field field) ≡ Some (record { offset = from; shape = sh })
  place_is k field from sh e h = ap (λ m. part_place q.has.shape (step.Field m)) e ∙ (q.parts k ∙ h)

  pub from_is : (k field from : ℕ) (sh : Shape) (n : ℕ) (kind : StType) → field ≡ k → field_place q.start q.fields k ≡ Some (record { offset = from; shape = sh }) → (HasShape p t → (s : Shape) → Unfolds p t s → IsPart p (Some (n, kind)) (part_place s (step.Field field))) → n ≡ from
  from_is k field from sh n kind e h f =
      part_from p (n, kind) (part_place q.has.shape (step.Field field)) from sh (place_is k field from sh e h) (f q.has q.has.shape (record { depth = 65; by = q.has.unfolds }))

  pub always_there : (k field from : ℕ) (sh : Shape) → field ≡ k → field_place q.start q.fields k ≡ Some (record { offset = from; shape = sh }) → (HasShape p t → (s : Shape) → Unfolds p t s → IsPart p None (part_place s (step.Field field))) → ⊥
  always_there k field from sh e h f =
      part_there p (part_place q.has.shape (step.Field field)) (record { offset = from; shape = sh }) (place_is k field from sh e h) (f q.has q.has.shape (record { depth = 65; by = q.has.unfolds }))
