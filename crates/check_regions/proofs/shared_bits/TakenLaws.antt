-- Bits of variables as spans: which bits are shared is told by the marks of their spans.
use Rattle.std.proofs.Common.{◌≡◌, ◌≤◌, ℕ, zero, suc, ◌+◌, ◌*◌, Bool, true, false, List, [], ◌∷◌, ◌++◌, map, refl, sym, ap, ◌∙◌, arith, lit≤, append-nil}
use Rattle.std.specs.Prelude.{nat_le, nat_lt, not, ◌||◌, ◌&&◌, flat_map, if◌then◌else◌, Option, Some, None}
use Rattle.std.specs.List.{list_any, list_all}
use Rattle.std.proofs.lemmas.Bool.Decides.{nat_tests}
use Rattle.std.proofs.lemmas.List.Concat.{flat_map-append}
use Rattle.std.proofs.lemmas.List.Folds.{list_any-append, list_all-append}
use Rattle.st_tree.specs.Address.{index_of, width_of, bit_of, area_of}
use Rattle.st_tree.specs.declared.address.Area.{Area}
use Rattle.st_tree.specs.declared.address.Area.TheVariants as area
use Rattle.st_tree.specs.declared.address.Width.{Width}
use Rattle.st_tree.specs.declared.address.Width.TheVariants as width
use Rattle.st_tree.specs.declared.declaration.Item.{Item}
use Rattle.st_tree.specs.declared.declaration.Section.{Section}
use Rattle.st_tree.specs.declared.name.Name.{Name}
use Rattle.st_rules.proofs.Booleans.{both, and-both}
use Rattle.st_rules.specs.Modifiers.{written_access}
use Rattle.st_unit_rules.specs.declared_names.Variables.{Written, declares_constants, section_access, item_written, section_written, sections_written}
use Rattle.st_unit_rules.specs.Addresses.{Bits, bits_at, bits_of, same_area, share, is_shared, shares_bits, may_be_located, variable_bits, all_bits}
use Rattle.st_unit_rules.specs.VariableRules.{image_bytes, width_bits, width_bytes, has_bit_above_seven, passes_the_image}
use Rattle.check_regions.specs.declared.shared_bits.span.Span.{Span}
use Rattle.check_regions.specs.shared_bits.Taken.{is_between, has_mark, covers, is_inside, Takes}
use Rattle.check_regions.specs.shared_bits.Private.Spans.{span_by, span_of, spans_of, spans_over, any_from, Marks, shares, TakesSpans, is_located, item_spans, section_spans, sections_spans}

-- ---- tests over a range

nothing_from : (a n : ℕ) (f : ℕ → Bool) → ((j : ℕ) → f j ≡ false) → any_from a n f ≡ false
nothing_from a zero f h = refl
nothing_from a (suc n) f h = ap (λ b. b || any_from (a + 1) n f) (h a) ∙ nothing_from (a + 1) n f h

or_four : (a b c d : Bool) → ((a || b) || (c || d)) ≡ ((a || c) || (b || d))
or_four true b c d = refl
or_four false true true d = refl
or_four false true false d = refl
or_four false false c d = refl

either_from : (a n : ℕ) (f g : ℕ → Bool) → any_from a n (λ j. f j || g j) ≡ (any_from a n f || any_from a n g)
either_from a zero f g = refl
either_from a (suc n) f g = ap (λ b. (f a || g a) || b) (either_from (a + 1) n f g) ∙ or_four (f a) (g a) (any_from (a + 1) n f) (any_from (a + 1) n g)

same_from : (a n : ℕ) (f g : ℕ → Bool) → ((j : ℕ) → f j ≡ g j) → any_from a n f ≡ any_from a n g
same_from a zero f g h = refl
same_from a (suc n) f g h = ap (λ b. b || any_from (a + 1) n f) (h a) ∙ ap (λ b. g a || b) (same_from (a + 1) n f g h)

-- both ranges have a number in common
abbrev meets : ℕ → ℕ → ℕ → ℕ → Bool
meets a n c m = nat_lt a (c + m) && nat_lt c (a + n) && nat_lt 0 n && nat_lt 0 m

meets_next : (a n c m : ℕ) → (is_between c m a || meets (a + 1) n c m) ≡ meets a (suc n) c m
meets_next a n c m = grind (arith, nat_tests)

meets_none : (a c m : ℕ) → false ≡ meets a 0 c m
meets_none a c m = grind (arith, nat_tests)

meet : (a n c m : ℕ) → any_from a n (is_between c m) ≡ meets a n c m
meet a zero c m = meets_none a c m
meet a (suc n) c m = ap (λ b. is_between c m a || b) (meet (a + 1) n c m) ∙ meets_next a n c m

-- ---- one pair of bits

or_no : (b : Bool) → (b || false) ≡ b
or_no true = refl
or_no false = refl

-- one of so many bits of an area passes the test with its mark
abbrev range_any : Area → ℕ → ℕ → (ℕ → Bool) → Bool
range_any area.Input first count test = false
range_any area.Output first count test = any_from first count test
range_any area.Memory first count test = any_from (2_056 + first) count test

same_both : (a n c m : ℕ) → 1 ≤ n → 1 ≤ m → meets a n c m ≡ (nat_lt a (c + m) && nat_lt c (a + n))
same_both a n c m h k = grind (arith, nat_tests)

moved_both : (a n c m : ℕ) → 1 ≤ n → 1 ≤ m → meets (2_056 + a) n (2_056 + c) m ≡ (nat_lt a (c + m) && nat_lt c (a + n))
moved_both a n c m h k = grind (arith, nat_tests)

apart_first : (a n c m : ℕ) → a + n ≤ 2_056 → meets a n (2_056 + c) m ≡ false
apart_first a n c m h = grind (arith, nat_tests)

apart_second : (a n c m : ℕ) → c + m ≤ 2_056 → meets (2_056 + a) n c m ≡ false
apart_second a n c m h = grind (arith, nat_tests)

one_span : (a n c m : ℕ) → any_from a n (λ j. is_between c m j || false) ≡ meets a n c m
one_span a n c m = same_from a n (λ j. is_between c m j || false) (is_between c m) (λ j. or_no (is_between c m j)) ∙ meet a n c m

-- there is a bit, and they lie within
record Lies (p : Area) (first count : ℕ) : Type 0 where
  some : 1 ≤ count
  within : first + count ≤ 8 * image_bytes p + 8

lies : (b : Bits) → is_inside b ≡ true → Lies b.area b.first b.count
lies b h = let q = both (nat_le 1 b.count) (nat_le (b.first + b.count) (8 * image_bytes b.area + 8)) h in record { some = grind (arith, nat_tests); within = grind (arith, nat_tests) }

pair : (p q : Area) (a n c m : ℕ) → Lies p a n → Lies q c m → range_any p a n (λ j. list_any (spans_over j) (span_by q c m)) ≡ (same_area p q && nat_lt a (c + m) && nat_lt c (a + n))
pair area.Input q a n c m h k = refl
pair area.Output area.Input a n c m h k = nothing_from a n (λ j. false) (λ j. refl)
pair area.Output area.Output a n c m h k = one_span a n c m ∙ same_both a n c m h.some k.some
pair area.Output area.Memory a n c m h k = let w = h.within in one_span a n (2_056 + c) m ∙ apart_first a n c m (omega arith)
pair area.Memory area.Input a n c m h k = nothing_from (2_056 + a) n (λ j. false) (λ j. refl)
pair area.Memory area.Output a n c m h k = let w = k.within in one_span (2_056 + a) n c m ∙ apart_second a n c m (omega arith)
pair area.Memory area.Memory a n c m h k = one_span (2_056 + a) n (2_056 + c) m ∙ moved_both a n c m h.some k.some

range_none : (p : Area) (a n : ℕ) → range_any p a n (λ j. false) ≡ false
range_none area.Input a n = refl
range_none area.Output a n = nothing_from a n (λ j. false) (λ j. refl)
range_none area.Memory a n = nothing_from (2_056 + a) n (λ j. false) (λ j. refl)

range_either : (p : Area) (a n : ℕ) (f g h : ℕ → Bool) → ((j : ℕ) → f j ≡ (g j || h j)) → range_any p a n f ≡ (range_any p a n g || range_any p a n h)
range_either area.Input a n f g h e = refl
range_either area.Output a n f g h e = same_from a n f (λ j. g j || h j) e ∙ either_from a n g h
range_either area.Memory a n f g h e = same_from (2_056 + a) n f (λ j. g j || h j) e ∙ either_from (2_056 + a) n g h

-- ---- lists of bits

all_parts : (b : Bits) (bs : List Bits) → list_all is_inside (b ∷ bs) ≡ true → (is_inside b ≡ true) × (list_all is_inside bs ≡ true)
all_parts b bs h = both (is_inside b) (list_all is_inside bs) h

shared_is : (b : Bits) (taken : List Bits) → is_inside b ≡ true → list_all is_inside taken ≡ true → range_any b.area b.first b.count (λ j. list_any (spans_over j) (spans_of taken)) ≡ is_shared taken b
shared_is b [] h k = range_none b.area b.first b.count
shared_is b (x ∷ xs) h k =
    let q = all_parts x xs k in
    range_either b.area b.first b.count (λ j. list_any (spans_over j) (spans_of (x ∷ xs))) (λ j. list_any (spans_over j) (span_of x)) (λ j. list_any (spans_over j) (spans_of xs)) (λ j. list_any-append (spans_over j) (span_of x) (spans_of xs))
    ∙ ap (λ r. r || range_any b.area b.first b.count (λ j. list_any (spans_over j) (spans_of xs))) (pair b.area x.area b.first b.count x.first x.count (lies b h) (lies x (q.0)))
    ∙ ap (λ r. share b x || r) (shared_is b xs h (q.1))

span_shares : (p : Area) (a n : ℕ) (taken rest : List Span) → shares taken (span_by p a n ++ rest) ≡ (range_any p a n (λ j. list_any (spans_over j) taken) || shares (taken ++ span_by p a n) rest)
span_shares area.Input a n taken rest = ap (λ ss. shares ss rest) (sym (append-nil taken))
span_shares area.Output a n taken rest = refl
span_shares area.Memory a n taken rest = refl

if_or : (a b : Bool) → (if a then true else b) ≡ (a || b)
if_or true b = refl
if_or false b = refl

spans_push : (taken : List Bits) (b : Bits) → spans_of (taken ++ b ∷ []) ≡ spans_of taken ++ span_of b
spans_push taken b = flat_map-append span_of taken (b ∷ []) ∙ ap (λ ss. spans_of taken ++ ss) (append-nil (span_of b))

inside_push : (taken : List Bits) (b : Bits) → list_all is_inside taken ≡ true → is_inside b ≡ true → list_all is_inside (taken ++ b ∷ []) ≡ true
inside_push taken b h k = list_all-append is_inside taken (b ∷ []) ∙ and-both (list_all is_inside taken) (list_all is_inside (b ∷ [])) h (and-both (is_inside b) true k refl)

bits_share : (bs taken : List Bits) → list_all is_inside taken ≡ true → list_all is_inside bs ≡ true → shares_bits taken bs ≡ shares (spans_of taken) (spans_of bs)
bits_share [] taken h k = refl
bits_share (b ∷ bs) taken h k =
    let q = all_parts b bs k in
    if_or (is_shared taken b) (shares_bits (taken ++ b ∷ []) bs)
    ∙ ap (λ r. r || shares_bits (taken ++ b ∷ []) bs) (sym (shared_is b taken (q.0) h))
    ∙ ap (λ r. range_any b.area b.first b.count (λ j. list_any (spans_over j) (spans_of taken)) || r) (bits_share bs (taken ++ b ∷ []) (inside_push taken b h (q.0)) (q.1) ∙ ap (λ ss. shares ss (spans_of bs)) (spans_push taken b))
    ∙ sym (span_shares b.area b.first b.count (spans_of taken) (spans_of bs))

-- ---- marks of bits

mark_is : (p : Area) (a n j : ℕ) → list_any (spans_over j) (span_by p a n) ≡ has_mark p a n j
mark_is area.Input a n j = refl
mark_is area.Output a n j = or_no (is_between a n j)
mark_is area.Memory a n j = or_no (is_between (2_056 + a) n j)

marks_are : (bs : List Bits) (j : ℕ) → list_any (spans_over j) (spans_of bs) ≡ list_any (covers j) bs
marks_are [] j = refl
marks_are (b ∷ bs) j = list_any-append (spans_over j) (span_of b) (spans_of bs) ∙ ap (λ r. r || list_any (spans_over j) (spans_of bs)) (mark_is b.area b.first b.count j) ∙ ap (λ r. covers j b || r) (marks_are bs j)

marks_of : (marks : List Bool) (taken : List Bits) → Takes marks taken → Marks marks (spans_of taken)
marks_of marks taken t = record { same = λ j. t.same j ∙ sym (marks_are taken j) }

spans_append : (xs ys : List Bits) → spans_of (xs ++ ys) ≡ spans_of xs ++ spans_of ys
spans_append xs ys = flat_map-append span_of xs ys

-- what is told of spans is told of their bits
module _ (old new : List Bool) (found : Bool) (bs : List Bits) (inside : list_all is_inside bs ≡ true) (takes : TakesSpans old new false found (spans_of bs)) (taken : List Bits) (t : Takes old taken) where
  pub shared_told : found ≡ shares_bits taken bs
  shared_told =
      sym (or_no found)
      ∙ takes.told (spans_of taken) [] (marks_of old taken t)
      ∙ ap (shares (spans_of taken)) (append-nil (spans_of bs))
      ∙ sym (bits_share bs taken t.inside inside)

  pub taken_then : Takes new (taken ++ bs)
  taken_then = record {
    inside = list_all-append is_inside taken bs ∙ and-both (list_all is_inside taken) (list_all is_inside bs) t.inside inside;
    same = λ j. (takes.marks (spans_of taken) (marks_of old taken t)).same j ∙ ap (list_any (spans_over j)) (sym (spans_append taken bs)) ∙ marks_are (taken ++ bs) j;
  }

-- ---- addresses

width_fits : (w : Width) → width_bits w ≤ 8 * width_bytes w
width_fits width.Bit = lit≤ tt
width_fits width.Byte = lit≤ tt
width_fits width.Word = lit≤ tt
width_fits width.DoubleWord = lit≤ tt
width_fits width.LongWord = lit≤ tt

width_some : (w : Width) → 1 ≤ width_bits w
width_some width.Bit = lit≤ tt
width_some width.Byte = lit≤ tt
width_some width.Word = lit≤ tt
width_some width.DoubleWord = lit≤ tt
width_some width.LongWord = lit≤ tt

fits_then : (index bytes bit bits image : ℕ) → bits ≤ 8 * bytes → 1 ≤ bits → nat_lt 7 bit ≡ false → nat_lt image (index * bytes + bytes) ≡ false → (nat_le 1 bits && nat_le (index * bytes * 8 + bit + bits) (8 * image + 8)) ≡ true
fits_then index bytes bit bits image h k l m =
    let seven : bit ≤ 7 = grind (arith, nat_tests) in
    let image_fits : index * bytes + bytes ≤ image = grind (arith, nat_tests) in
    let last : index * bytes * 8 + bit + bits ≤ 8 * image + 8 = omega arith in
    grind (arith, nat_tests)

address_inside : (text : List ℕ) (a b : Bool) → has_bit_above_seven text ≡ a → passes_the_image text ≡ b → list_all is_inside (if a || b then [] else bits_at text ∷ []) ≡ true
address_inside text true b h k = refl
address_inside text false true h k = refl
address_inside text false false h k =
    and-both (is_inside (bits_at text)) true
    (fits_then (index_of text) (width_bytes (width_of text)) (bit_of text) (width_bits (width_of text)) (image_bytes (area_of text)) (width_fits (width_of text)) (width_some (width_of text)) h k) refl

pub bits_inside : (address : Option (List ℕ)) → list_all is_inside (bits_of address) ≡ true
bits_inside None = refl
bits_inside (Some text) = address_inside text (has_bit_above_seven text) (passes_the_image text) refl refl

-- ---- variables of sections

module _ (s : Section ℕ) (item : Item ℕ) where
  abbrev written_as : Name → Written
  written_as n = record { sort = s.sort; constant = declares_constants s; access = section_access s.sort (written_access s.modifiers); name = n; item = item }

  name_bits : (b : Bool) → is_located s ≡ b → (ns : List Name) → spans_of (all_bits (map written_as ns)) ≡ (if b then flat_map (λ n. spans_of (bits_of item.address)) ns else [])
  name_bits true e [] = refl
  name_bits false e [] = refl
  name_bits true e (n ∷ ns) = spans_append (variable_bits (written_as n)) (all_bits (map written_as ns)) ∙ ap (λ b. spans_of (if b then bits_of item.address else []) ++ spans_of (all_bits (map written_as ns))) e ∙ ap (λ ss. spans_of (bits_of item.address) ++ ss) (name_bits true e ns)
  name_bits false e (n ∷ ns) = spans_append (variable_bits (written_as n)) (all_bits (map written_as ns)) ∙ ap (λ b. spans_of (if b then bits_of item.address else []) ++ spans_of (all_bits (map written_as ns))) e ∙ name_bits false e ns

all_append : (xs ys : List Written) → all_bits (xs ++ ys) ≡ all_bits xs ++ all_bits ys
all_append xs ys = flat_map-append variable_bits xs ys

items_bits : (s : Section ℕ) (b : Bool) → is_located s ≡ b → (items : List (Item ℕ)) → spans_of (all_bits (flat_map (item_written s) items)) ≡ (if b then flat_map item_spans items else [])
items_bits s true e [] = refl
items_bits s false e [] = refl
items_bits s true e (i ∷ is) =
    ap spans_of (all_append (item_written s i) (flat_map (item_written s) is)) ∙ spans_append (all_bits (item_written s i)) (all_bits (flat_map (item_written s) is))
    ∙ ap (λ ss. ss ++ spans_of (all_bits (flat_map (item_written s) is))) (name_bits s i true e i.names) ∙ ap (λ ss. item_spans i ++ ss) (items_bits s true e is)
items_bits s false e (i ∷ is) =
    ap spans_of (all_append (item_written s i) (flat_map (item_written s) is)) ∙ spans_append (all_bits (item_written s i)) (all_bits (flat_map (item_written s) is))
    ∙ ap (λ ss. ss ++ spans_of (all_bits (flat_map (item_written s) is))) (name_bits s i false e i.names) ∙ items_bits s false e is

pub sections_bits : (ss : List (Section ℕ)) → spans_of (all_bits (sections_written ss)) ≡ sections_spans ss
sections_bits [] = refl
sections_bits (s ∷ ss) =
    ap spans_of (all_append (section_written s) (sections_written ss)) ∙ spans_append (all_bits (section_written s)) (all_bits (sections_written ss))
    ∙ ap (λ xs. xs ++ spans_of (all_bits (sections_written ss))) (items_bits s (is_located s) refl s.items) ∙ ap (λ xs. section_spans s ++ xs) (sections_bits ss)

one_inside : (b : Bool) (address : Option (List ℕ)) → list_all is_inside (if b then bits_of address else []) ≡ true
one_inside true address = bits_inside address
one_inside false address = refl

pub all_inside : (ws : List Written) → list_all is_inside (all_bits ws) ≡ true
all_inside [] = refl
all_inside (w ∷ ws) =
    list_all-append is_inside (variable_bits w) (all_bits ws)
    ∙ and-both (list_all is_inside (variable_bits w)) (list_all is_inside (all_bits ws)) (one_inside (may_be_located w.sort && not w.constant) w.item.address) (all_inside ws)
