-- Entries that grow by a field.
use Rattle.std.proofs.Common.{◌≡◌, ◌≤◌, ◌<◌, ℕ, suc, ◌+◌, Bool, true, false, List, [], ◌∷◌, ◌++◌, length, get_or, drop, drop-cons, Some, refl, sym, ap, ◌∙◌, subst, arith}
use Rattle.std.specs.Prelude.{max, if◌then◌else◌}
use Rattle.std.proofs.lemmas.List.{drop_all}
use Rattle.st_values.specs.Program.{Variable, Program}
use Rattle.st_values.specs.Value.{◌>>=◌}
use Rattle.st_values.specs.Shape as shape
use Rattle.st_values.specs.Shape.{Shape, Elementary, Enumeration, Reference, Array, Structure, Instance, Fields, no_fields, field_then, fields_by, shape_within}
use Rattle.st_values.proofs.ValueLaws.{then_some}
use Rattle.program_tables.specs.declared.st_initial.variables.Variable as held
use Rattle.program_tables.specs.st_initial.Variables.{variable_of, variables_of}
use Rattle.mem_layout.specs.store_bytes.Place.{gap, alignment, greatest, size, ending}
use Rattle.mem_layout.specs.store_bytes.PlaceLaws.{joined}
use Rattle.mem_layout.proofs.store_bytes.Moves.{ending_above}
use Rattle.mem_layout.specs.declared.sizes.Field.{Field}
use Rattle.mem_layout.specs.declared.sizes.Measure.{Measure}
use Rattle.mem_layout.specs.declared.sizes.Entry.{Entry}
use Rattle.mem_layout.specs.declared.entries.Laid.{Laid}
use Rattle.mem_layout.specs.Layout.{IsSmall, EachIsSmall}
use Rattle.mem_layout.specs.Private.Table.{start, wide, Rows, IsMeasure}
use Rattle.mem_layout.specs.Private.Entry.{IsLaid, IsFinished, Going}

abbrev pub one : Variable → Shape → Fields
one v sh = field_then v sh no_fields

pub ending_more : (fs : Fields) (off : ℕ) (v : Variable) (sh : Shape) → ending off (joined fs (one v sh)) ≡ ending off fs + gap (alignment sh) (ending off fs) + size sh
ending_more no_fields off v sh = refl
ending_more (field_then w t fs) off v sh = ending_more fs (off + gap (alignment t) off + size t) v sh

max_assoc : (a b c : ℕ) → max a (max b c) ≡ max (max a b) c
max_assoc a b c = omega arith

greatest_more : (fs : Fields) (v : Variable) (sh : Shape) → 1 ≤ alignment sh → greatest (joined fs (one v sh)) ≡ max (greatest fs) (alignment sh)
greatest_more no_fields v sh h = omega (arith, h)
greatest_more (field_then w t fs) v sh h = ap (max (alignment t)) (greatest_more fs v sh h) ∙ max_assoc (alignment t) (greatest fs) (alignment sh)

pub some_greatest : (fs : Fields) → 1 ≤ greatest fs
some_greatest no_fields = omega arith
some_greatest (field_then v sh fs) = let h = some_greatest fs in omega (arith, h)

pub some_alignment : (sh : Shape) → 1 ≤ alignment sh
some_alignment (Elementary e) = omega arith
some_alignment (Enumeration name values) = omega arith
some_alignment (Reference c name) = omega arith
some_alignment (shape.Interface k name) = omega arith
some_alignment (Array low n sh) = some_alignment sh
some_alignment (Structure name fs) = some_greatest fs
some_alignment (Instance c name fs) = omega arith

some_wide : (class : Bool) (fs : Fields) → 0 < wide class fs
some_wide true fs = omega arith
some_wide false fs = some_greatest fs

rows_more : (rows : List Field) (fs : Fields) (off : ℕ) (r : Field) (v : Variable) (sh : Shape) → Rows off rows fs → r.kind ≡ v.kind → r.offset ≡ ending off fs + gap (alignment sh) (ending off fs) → Rows off (rows ++ r ∷ []) (joined fs (one v sh))
rows_more [] no_fields off r v sh h k o = (o, k, tt)
rows_more [] (field_then w t fs) off r v sh h k o = absurd h
rows_more (q ∷ rows) no_fields off r v sh h k o = absurd h
rows_more (q ∷ rows) (field_then w t fs) off r v sh h k o = (h.0, h.1, rows_more rows fs (off + gap (alignment t) off + size t) r v sh h.2 k o)

pub laid_more : (off : ℕ) (fs : Fields) (l l' : Laid) (v : Variable) (sh : Shape) (m : Measure) (r : Field) → IsLaid off fs l → IsMeasure sh m → r.offset ≡ l.end + gap m.alignment l.end → r.kind ≡ v.kind → l'.end ≡ r.offset + m.size → l'.fields ≡ l.fields ++ r ∷ [] → l'.greatest ≡ max l.greatest m.alignment
    → IsLaid off (joined fs (one v sh)) l'
laid_more off fs l l' v sh m r h s o k d f g =
    let a : r.offset ≡ ending off fs + gap (alignment sh) (ending off fs) = o ∙ (ap (λ n. l.end + gap n l.end) s.alignment-is ∙ ap (λ n. n + gap (alignment sh) n) h.end-is) in
    record {
      rows = subst (λ rs. Rows off rs (joined fs (one v sh))) (sym f) (rows_more l.fields fs off r v sh h.rows k a);
      end-is = d ∙ (ap (λ n. n + m.size) a ∙ (ap (λ n. ending off fs + gap (alignment sh) (ending off fs) + n) s.size-is ∙ sym (ending_more fs off v sh)));
      greatest-is = g ∙ (ap (λ n. max n m.alignment) h.greatest-is ∙ (ap (max (greatest fs)) s.alignment-is ∙ sym (greatest_more fs v sh (some_alignment sh))));
    }

-- there is room for the padding and for the field
pub room : (off : ℕ) (fs : Fields) (l : Laid) (sh : Shape) (m : Measure) → IsLaid off fs l → IsMeasure sh m → ending off fs + gap (alignment sh) (ending off fs) + size sh < 4294967296
    → (0 < m.alignment) × (l.end + gap m.alignment l.end < 4294967296) × (l.end + gap m.alignment l.end + m.size < 4294967296)
room off fs l sh m h s lt =
    let a : l.end + gap m.alignment l.end ≡ ending off fs + gap (alignment sh) (ending off fs) = ap (λ n. l.end + gap n l.end) s.alignment-is ∙ ap (λ n. n + gap (alignment sh) n) h.end-is in
    let b = some_alignment sh in
    let c = s.alignment-is in
    let d = s.size-is in
    (omega (arith, b, c), omega (arith, a, lt), omega (arith, a, d, lt))

pub first_laid : (class : Bool) (l : Laid) → l.fields ≡ [] → l.end ≡ start class → l.greatest ≡ 1 → IsLaid (start class) no_fields l
first_laid class l f e g = record { rows = subst (λ rs. Rows (start class) rs no_fields) (sym f) tt; end-is = e; greatest-is = g }

pub wide_is : (class : Bool) (off : ℕ) (fs : Fields) (l : Laid) (n : ℕ) → IsLaid off fs l → n ≡ (if class then 8 else l.greatest) → n ≡ wide class fs
wide_is true off fs l n h e = e
wide_is false off fs l n h e = e ∙ h.greatest-is

pub finished_is : (class : Bool) (fs : Fields) (l : Laid) (e : Entry) → IsLaid (start class) fs l → e.fields ≡ l.fields → e.measure.alignment ≡ wide class fs → e.measure.size ≡ l.end + gap e.measure.alignment l.end → IsFinished class fs e
finished_is class fs l e h f a s = record {
  rows = subst (λ rs. Rows (start class) rs fs) (sym f) h.rows;
  size-is = s ∙ (ap (λ n. l.end + gap n l.end) a ∙ ap (λ n. n + gap (wide class fs) n) h.end-is);
  alignment-is = a;
}

pub finished_fits : (class : Bool) (fs : Fields) (l : Laid) (n : ℕ) → IsLaid (start class) fs l → n ≡ wide class fs → ending (start class) fs + gap (wide class fs) (ending (start class) fs) < 4294967296 → (0 < n) × (l.end + gap n l.end < 4294967296)
finished_fits class fs l n h a lt =
    let s : l.end + gap n l.end ≡ ending (start class) fs + gap (wide class fs) (ending (start class) fs) = ap (λ n. l.end + gap n l.end) a ∙ ap (λ n. n + gap (wide class fs) n) h.end-is in
    let w = some_wide class fs in
    (omega (arith, w, a), omega (arith, s, lt))

-- ---- going over the variables

no_more : (fs : Fields) → joined fs no_fields ≡ fs
no_more no_fields = refl
no_more (field_then v sh fs) = ap (field_then v sh) (no_more fs)

joined_assoc : (fs gs hs : Fields) → joined (joined fs gs) hs ≡ joined fs (joined gs hs)
joined_assoc no_fields gs hs = refl
joined_assoc (field_then v sh fs) gs hs = ap (field_then v sh) (joined_assoc fs gs hs)

pub going_first : (p : Program) (n : ℕ) (off : ℕ) (fs : Fields) (vs : List Variable) (l : Laid) → fields_by (shape_within p n) vs ≡ Some fs → IsLaid off no_fields l → Going p n off fs vs l
going_first p n off fs vs l u h = record { so-far = no_fields; rest = fs; is = refl; unfolds = u; laid = h }

-- the next variable
pub record Next (p : Program) (n : ℕ) (v : Variable) (vs : List Variable) (rest : Fields) : Type 0 where
  pub shape : Shape
  pub behind : Fields
  pub unfolds : shape_within p n v.kind ≡ Some shape
  pub more : fields_by (shape_within p n) vs ≡ Some behind
  pub is : rest ≡ field_then v shape behind

pub next_of : (p : Program) (n : ℕ) (v : Variable) (vs : List Variable) (rest : Fields) → fields_by (shape_within p n) (v ∷ vs) ≡ Some rest → Next p n v vs rest
next_of p n v vs rest e =
    let a = then_some (shape_within p n v.kind) (λ sh. fields_by (shape_within p n) vs >>= λ rest. Some (field_then v sh rest)) rest e in
    let b = then_some (fields_by (shape_within p n) vs) (λ rest. Some (field_then v a.0 rest)) rest a.2 in
    let c = b.2 in
    record { shape = a.0; behind = b.0; unfolds = a.1; more = b.1; is = cc }

pub going_on : (p : Program) (n : ℕ) (off : ℕ) (fs : Fields) (v : Variable) (vs : List Variable) (l l' : Laid) → Going p n off fs (v ∷ vs) l → ((sh : Shape) (gs : Fields) → shape_within p n v.kind ≡ Some sh → IsLaid off gs l → IsLaid off (joined gs (one v sh)) l') → Going p n off fs vs l'
going_on p n off fs v vs l l' g f =
    let x = next_of p n v vs g.rest g.unfolds in
    record {
      so-far = joined g.so-far (one v x.shape);
      rest = x.behind;
      is = g.is ∙ (ap (joined g.so-far) x.is ∙ sym (joined_assoc g.so-far (one v x.shape) x.behind));
      unfolds = x.more;
      laid = f x.shape g.so-far x.unfolds g.laid;
    }

pub going_last : (p : Program) (n : ℕ) (off : ℕ) (fs : Fields) (vs : List Variable) (l : Laid) → vs ≡ [] → Going p n off fs vs l → IsLaid off fs l
going_last p n off fs vs l e g =
    let q : Some no_fields ≡ Some g.rest = sym (ap (fields_by (shape_within p n)) e) ∙ g.unfolds in
    let r : no_fields ≡ g.rest = cc in
    subst (λ hs. IsLaid off hs l) (sym (g.is ∙ (ap (joined g.so-far) (sym r) ∙ no_more g.so-far))) g.laid

pub variables_cut : (vs : List held.Variable) (i : ℕ) (x : held.Variable) → i < length vs → x ≡ get_or vs i x → variables_of (drop i vs) ≡ variable_of x ∷ variables_of (drop (i + 1) vs)
variables_cut vs i x h e =
    let next : suc i ≡ i + 1 = omega arith in
    ap variables_of (drop-cons vs i x h ∙ (ap (λ y. y ∷ drop (suc i) vs) (sym e) ∙ ap (λ n. x ∷ drop n vs) next))

pub variables_done : (vs : List held.Variable) (i : ℕ) → length vs ≤ i → variables_of (drop i vs) ≡ []
variables_done vs i h = ap variables_of (drop_all i vs h)

-- ---- what is left is small and has room

pub small_joined : (fs : Fields) (v : Variable) (sh : Shape) (gs : Fields) → EachIsSmall (joined fs (field_then v sh gs)) → IsSmall sh
small_joined no_fields v sh gs h = h.0
small_joined (field_then w t fs) v sh gs h = small_joined fs v sh gs h.1

pub ending_joined : (fs : Fields) (off : ℕ) (v : Variable) (sh : Shape) (gs : Fields) → ending off fs + gap (alignment sh) (ending off fs) + size sh ≤ ending off (joined fs (field_then v sh gs))
ending_joined no_fields off v sh gs = ending_above gs (off + gap (alignment sh) off + size sh)
ending_joined (field_then w t fs) off v sh gs = ending_joined fs (off + gap (alignment t) off + size t) v sh gs

-- the next variable has room, where all have
pub record HasRoom (p : Program) (n : ℕ) (off : ℕ) (v : Variable) (l : Laid) : Type 0 where
  pub shape : Shape
  pub so-far : Fields
  pub unfolds : shape_within p n v.kind ≡ Some shape
  pub small : IsSmall shape
  pub laid : IsLaid off so-far l
  pub fits : ending off so-far + gap (alignment shape) (ending off so-far) + size shape < 4294967296

pub has_room : (p : Program) (n : ℕ) (off : ℕ) (fs : Fields) (v : Variable) (vs : List Variable) (l : Laid) (m : ℕ) → Going p n off fs (v ∷ vs) l → EachIsSmall fs → ending off fs + m < 4294967296 → HasRoom p n off v l
has_room p n off fs v vs l m g s lt =
    let x = next_of p n v vs g.rest g.unfolds in
    let is : fs ≡ joined g.so-far (field_then v x.shape x.behind) = g.is ∙ ap (joined g.so-far) x.is in
    let e = ending_joined g.so-far off v x.shape x.behind in
    let w : ending off fs ≡ ending off (joined g.so-far (field_then v x.shape x.behind)) = ap (ending off) is in
    record {
      shape = x.shape;
      so-far = g.so-far;
      unfolds = x.unfolds;
      small = small_joined g.so-far v x.shape x.behind (subst EachIsSmall is s);
      laid = g.laid;
      fits = omega (arith, e, w, lt);
    }
