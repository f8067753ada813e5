-- Windows of the bytes: what is read in one, and what a write into one leaves.
use Rattle.std.proofs.Common.{◌≡◌, ℕ, zero, suc, ◌+◌, ◌-◌, ◌*◌, ◌<◌, ◌≤◌, ◌^◌, List, [], ◌∷◌, ◌++◌, length, take, drop, inl, inr, refl, sym, ap, ◌∙◌, arith, length-append, length-drop, get_or, ℤ, pos}
use Rattle.std.specs.Prelude.{slice_range, slice_get, slice_set, Option, Some, None}
use Rattle.std.specs.Option.{option_map}
use Rattle.std.proofs.Math.Seq.{take-append-add}
use Rattle.std.proofs.lemmas.Nat.{mul-le}
use Rattle.std.proofs.lemmas.List.{append_assoc, drop-drop, drop-append-le, drop-take, length-take-le, take-take}
use Rattle.std.proofs.lemmas.Option.{slice_get-get_or, get_or_from_slice_get, slice_get_within}
use Rattle.st_types.specs.declared.elem.Elem.{Elem}
use Rattle.st_types.specs.Elem as kinds
use Rattle.plc_num.specs.Wrapping.{wrapped}
use Rattle.mem_image.specs.Image.{replaced, value_at, bytes_of, low_first}
use Rattle.mem_image.proofs.PartLaws.{replaced_is, leaves, length-range, range_of_range}
use Rattle.mem_image.proofs.ValueLaws.{spells_once}
use Rattle.machine_memory.specs.Locals.{Calls}
use Rattle.machine_memory.specs.Private.Windows.{windows, AreShort, IsLaid}

-- a write into a window is a write at that place of the window
pub window_put : (bytes : List ℕ) (b n off : ℕ) (part : List ℕ) → off + length part ≤ n → b + n ≤ length bytes
    → slice_range (replaced bytes (b + off) part) b (b + n) ≡ replaced (slice_range bytes b (b + n)) off part
window_put bytes b n off part h inside =
    let X : List ℕ = drop b bytes in
    let k : ℕ = off + length part in
    let R : List ℕ = drop (b + off + length part) bytes in
    let size : length X ≡ length bytes - b = length-drop b bytes in
    let front_len : length (take off X) ≡ off = length-take-le off X (omega (arith, size)) in
    let rest_is : R ≡ drop k X = ap (λ i. drop i bytes) (let e : b + off + length part ≡ b + k = omega arith in e) ∙ sym (drop-drop k b bytes) in
    let cut : drop b (take (b + off) bytes ++ (part ++ R)) ≡ take off X ++ (part ++ R) =
    drop-append-le b (take (b + off) bytes) (part ++ R) (omega (arith, length-take-le (b + off) bytes (omega arith))) ∙ ap (λ l. l ++ (part ++ R)) (drop-take b off bytes) in
    let whole : drop b (replaced bytes (b + off) part) ≡ (take off X ++ part) ++ drop k X =
    ap (drop b) (replaced_is bytes (b + off) part (omega arith) ∙ append_assoc (take (b + off) bytes) part R) ∙ cut ∙ ap (λ r. take off X ++ (part ++ r)) rest_is ∙ sym (append_assoc (take off X) part (drop k X)) in
    let short : b + n - b ≡ n = omega arith in
    let size_front : length (take off X ++ part) ≡ k = length-append (take off X) part ∙ ap (λ i. i + length part) front_len in
    let reach : n ≡ length (take off X ++ part) + (n - k) = omega (arith, size_front) in
    let left : take n ((take off X ++ part) ++ drop k X) ≡ (take off X ++ part) ++ take (n - k) (drop k X) =
    ap (λ i. take i ((take off X ++ part) ++ drop k X)) reach ∙ take-append-add (take off X ++ part) (drop k X) (n - k) in
    let within : length (take n X) ≡ n = length-take-le n X (omega (arith, size)) in
    let front : n ≡ k + (n - k) = omega arith in
    let tail : drop k (take n X) ≡ take (n - k) (drop k X) = ap (λ i. drop k (take i X)) front ∙ drop-take k (n - k) X in
    let right : replaced (take n X) off part ≡ (take off X ++ part) ++ take (n - k) (drop k X) =
    replaced_is (take n X) off part (omega (arith, within)) ∙ ap (λ l. (l ++ part) ++ drop k (take n X)) (take-take off n X (omega arith)) ∙ ap (λ l. (take off X ++ part) ++ l) tail in
    ap (λ i. take i (drop b (replaced bytes (b + off) part))) short ∙ ap (take n) whole ∙ left ∙ sym right ∙ ap (λ i. replaced (take i X) off part) (sym short)

pub length-windows : (s : ℕ) (bytes : List ℕ) (b : ℕ) (ns : List ℕ) → length (windows s bytes b ns) ≡ length ns
length-windows s bytes b [] = refl
length-windows s bytes b (n ∷ ns) = let h = length-windows s bytes (b + s) ns in omega (arith, h)

-- the d-th window
pub window_get : (s : ℕ) (bytes : List ℕ) (b : ℕ) (ns : List ℕ) (d : ℕ) → slice_get (windows s bytes b ns) d ≡ option_map (λ n. slice_range bytes (b + d * s) (b + d * s + n)) (slice_get ns d)
window_get s bytes b [] d = refl
window_get s bytes b (n ∷ ns) zero = let e : b + 0 * s ≡ b = omega arith in rw e refl
window_get s bytes b (n ∷ ns) (suc d) =
    let e : b + s + d * s ≡ b + suc d * s = omega arith in
    window_get s bytes (b + s) ns d ∙ ap (λ i. option_map (λ n. slice_range bytes i (i + n)) (slice_get ns d)) e

pub short_at : (s : ℕ) (ns : List ℕ) (d n : ℕ) → AreShort s ns → slice_get ns d ≡ Some n → n ≤ s
short_at s [] d n h e = absurd (cc)
short_at s (m ∷ ns) zero n h e = let same : m ≡ n = cc in omega (arith, h.0)
short_at s (m ∷ ns) (suc d) n h e = short_at s ns d n h.1 e

-- a write before or after the windows leaves them
untouched : (s : ℕ) (bytes : List ℕ) (at : ℕ) (part : List ℕ) (b : ℕ) (ns : List ℕ) → at + length part ≤ length bytes → at + length part ≤ b → windows s (replaced bytes at part) b ns ≡ windows s bytes b ns
untouched s bytes at part b [] h low = refl
untouched s bytes at part b (n ∷ ns) h low =
    let here = leaves bytes part at b n h (inl low) in
    let more = untouched s bytes at part (b + s) ns h (omega arith) in
    rw (here, more) refl

cons_is : {x y : List ℕ} {xs ys : List (List ℕ)} → x ≡ y → xs ≡ ys → x ∷ xs ≡ y ∷ ys
cons_is e f = rw (e, f) refl

-- a write beyond the windows leaves them
pub untouched_below : (s : ℕ) (bytes : List ℕ) (at : ℕ) (part : List ℕ) (b : ℕ) (ns : List ℕ) → AreShort s ns → at + length part ≤ length bytes → b + length ns * s ≤ at → windows s (replaced bytes at part) b ns ≡ windows s bytes b ns
untouched_below s bytes at part b [] short h low = refl
untouched_below s bytes at part b (n ∷ ns) short h low =
    let size : length (n ∷ ns) * s ≡ s + length ns * s = omega arith in
    cons_is (leaves bytes part at b n h (inr (omega (arith, short.0)))) (untouched_below s bytes at part (b + s) ns short.1 h (omega arith))

pub windows_more : (s : ℕ) (bytes : List ℕ) (b : ℕ) (ns : List ℕ) (m at : ℕ) → at ≡ b + length ns * s → windows s bytes b (ns ++ m ∷ []) ≡ windows s bytes b ns ++ slice_range bytes at (at + m) ∷ []
windows_more s bytes b [] m at e = let h : b ≡ at = omega arith in ap (λ i. slice_range bytes i (i + m) ∷ []) h
windows_more s bytes b (n ∷ ns) m at e =
    let size : length (n ∷ ns) * s ≡ s + length ns * s = omega arith in
    cons_is refl (windows_more s bytes (b + s) ns m at (omega arith))

pub windows_take : (s : ℕ) (bytes : List ℕ) (b k : ℕ) (ns : List ℕ) → windows s bytes b (take k ns) ≡ take k (windows s bytes b ns)
windows_take s bytes b zero ns = refl
windows_take s bytes b (suc k) [] = refl
windows_take s bytes b (suc k) (n ∷ ns) = cons_is refl (windows_take s bytes (b + s) k ns)

pub short_more : (s : ℕ) (ns : List ℕ) (m : ℕ) → AreShort s ns → m ≤ s → AreShort s (ns ++ m ∷ [])
short_more s [] m h k = (k, tt)
short_more s (n ∷ ns) m h k = (h.0, short_more s ns m h.1 k)

pub short_take : (s k : ℕ) (ns : List ℕ) → AreShort s ns → AreShort s (take k ns)
short_take s zero ns h = tt
short_take s (suc k) [] h = tt
short_take s (suc k) (n ∷ ns) h = (h.0, short_take s k ns h.1)

pub put : (s : ℕ) (bytes : List ℕ) (b : ℕ) (ns : List ℕ) (d n off at base : ℕ) (part : List ℕ) → AreShort s ns → slice_get ns d ≡ Some n → off + length part ≤ n → b + length ns * s ≤ length bytes → at ≡ base + off → base ≡ b + d * s
    → windows s (replaced bytes at part) b ns ≡ slice_set (windows s bytes b ns) d (replaced (slice_range bytes base (base + n)) off part)
put s bytes b [] d n off at base part short is h inside at_is base_is = absurd (cc)
put s bytes b (m ∷ ns) zero n off at base part short is h inside at_is base_is =
    let here_is : b ≡ base = omega arith in
    let at_here : at ≡ b + off = omega arith in
    let same : m ≡ n = cc in
    let size : length (m ∷ ns) * s ≡ s + length ns * s = omega arith in
    let fits : n ≤ s = omega (arith, short.0) in
    let here : slice_range (replaced bytes at part) b (b + m) ≡ replaced (slice_range bytes base (base + n)) off part =
    ap (λ i. slice_range (replaced bytes i part) b (b + m)) at_here ∙ window_put bytes b m off part (omega arith) (omega arith) ∙ ap (λ i. replaced (slice_range bytes i (i + m)) off part) here_is ∙ ap (λ k. replaced (slice_range bytes base (base + k)) off part) same in
    cons_is here (untouched s bytes at part (b + s) ns (omega arith) (omega arith))
put s bytes b (m ∷ ns) (suc d) n off at base part short is h inside at_is base_is =
    let size : length (m ∷ ns) * s ≡ s + length ns * s = omega arith in
    let step : suc d * s ≡ s + d * s = omega arith in
    let fits : n ≤ s = short_at s ns d n short.1 is in
    let reach : d * s + s ≤ length ns * s = room s ns d n is in
    let here = leaves bytes part at b m (omega arith) (inr (omega (arith, short.0))) in
    let more = put s bytes (b + s) ns d n off at base part short.1 is h (omega arith) at_is (omega arith) in
    cons_is here more
  where
    room : (s : ℕ) (ns : List ℕ) (d n : ℕ) → slice_get ns d ≡ Some n → d * s + s ≤ length ns * s
    room s [] d n e = absurd (cc)
    room s (m ∷ ns) zero n e = omega arith
    room s (m ∷ ns) (suc d) n e = let h = room s ns d n e in omega (arith, h)

-- what is known of an open call's window, where the windows show as ls
pub record Here (s : ℕ) (bytes : List ℕ) (ns : List ℕ) (ls : List (List ℕ)) (d : ℕ) : Type 0 where
  pub n : ℕ
  pub get : slice_get ns d ≡ Some n
  pub short : n ≤ s
  pub within : d * s + s ≤ length bytes
  pub small : d * s + s < 2 ^ 32
  pub all : length ns * s ≤ length bytes
  pub is : get_or ls d [] ≡ slice_range bytes (d * s) (d * s + n)
  pub size : length (get_or ls d []) ≡ n

pub here : (s : ℕ) (bytes : List ℕ) (capacity : ℕ) (ns : List ℕ) (ls : List (List ℕ)) (d : ℕ) → IsLaid s (length bytes) capacity ns → windows s bytes 0 ns ≡ ls → d < length ls → Here s bytes ns ls d
here s bytes capacity ns ls d laid shows lt' =
    let lt : d < length ns = omega (arith, length-windows s bytes 0 ns, ap length shows) in
    let get : slice_get ns d ≡ Some (get_or ns d 0) = slice_get-get_or ns d 0 lt in
    let n : ℕ = get_or ns d 0 in
    let fits : n ≤ s = short_at s ns d n laid.short get in
    let base : 0 + d * s ≡ d * s = omega arith in
    let most : (d + 1) * s ≤ 65 * s = mul-le (d + 1) s 65 s (omega (arith, laid.few)) (omega arith) in
    let most_all : length ns * s ≤ 65 * s = mul-le (length ns) s 65 s laid.few (omega arith) in
    let inside : d * s + s ≤ length bytes = omega (arith, laid.room) in
    let at : slice_get (windows s bytes 0 ns) d ≡ Some (slice_range bytes (d * s) (d * s + n)) =
    window_get s bytes 0 ns d ∙ ap (option_map (λ m. slice_range bytes (0 + d * s) (0 + d * s + m))) get ∙ ap (λ i. Some (slice_range bytes i (i + n))) base in
    let is : get_or ls d [] ≡ slice_range bytes (d * s) (d * s + n) = ap (λ l. get_or l d []) (sym shows) ∙ get_or_from_slice_get (windows s bytes 0 ns) d (slice_range bytes (d * s) (d * s + n)) [] at in
    record { n = n; get = get; short = fits; within = inside; small = omega (arith, laid.small); all = omega (arith, laid.room); is = is; size = ap length is ∙ length-range bytes (d * s) n (omega arith) }

-- what is written at a place of the window
pub put_here : (s : ℕ) (bytes : List ℕ) (capacity : ℕ) (ns : List ℕ) (ls : List (List ℕ)) (d off : ℕ) (part : List ℕ) (h : Here s bytes ns ls d) → IsLaid s (length bytes) capacity ns → windows s bytes 0 ns ≡ ls → off + length part ≤ length (get_or ls d [])
    → windows s (replaced bytes (d * s + off) part) 0 ns ≡ slice_set ls d (replaced (get_or ls d []) off part)
put_here s bytes capacity ns ls d off part h laid shows fits =
    let base : 0 + d * s ≡ d * s = omega arith in
    let size = h.size in
    put s bytes 0 ns d h.n off (d * s + off) (d * s) part laid.short h.get (omega arith) (omega (arith, h.all)) refl (sym base)
    ∙ ap (λ w. slice_set (windows s bytes 0 ns) d (replaced w off part)) (sym h.is)
    ∙ ap (λ w. slice_set w d (replaced (get_or ls d []) off part)) shows

-- a part of the window is a part of the bytes
pub part_here : (s : ℕ) (bytes : List ℕ) (ns : List ℕ) (ls : List (List ℕ)) (d off m : ℕ) (h : Here s bytes ns ls d) → off + m ≤ length (get_or ls d [])
    → slice_range (get_or ls d []) off (off + m) ≡ slice_range bytes (d * s + off) (d * s + off + m)
part_here s bytes ns ls d off m h fits =
    let size = h.size in
    ap (λ w. slice_range w off (off + m)) h.is ∙ range_of_range bytes (d * s) h.n off m (omega arith)

pub value_here : (e : Elem) (s : ℕ) (bytes : List ℕ) (ns : List ℕ) (ls : List (List ℕ)) (d off : ℕ) (h : Here s bytes ns ls d) → off + kinds.bytes e ≤ length (get_or ls d [])
    → value_at e bytes (d * s + off) ≡ value_at e (get_or ls d []) off
unfolding value_at
value_here e s bytes ns ls d off h fits = ap (λ l. wrapped e (pos (low_first l))) (sym (part_here s bytes ns ls d off (kinds.bytes e) h fits))

pub spelled : (e : Elem) (v : ℤ) → length (bytes_of e v) ≡ kinds.bytes e
spelled e v = ((spells_once e v (bytes_of e v)).1 refl).count

pub same_calls : (a b : List (List ℕ)) (s t : ℕ) → a ≡ b → s ≡ t → let v : Calls = record { locals = a; stride = s } in let w : Calls = record { locals = b; stride = t } in v ≡ w
same_calls a b s t e f = rw (e, f) refl

pub length_at : (s : ℕ) (bytes : List ℕ) (capacity : ℕ) (ns : List ℕ) (ls : List (List ℕ)) (d : ℕ) → IsLaid s (length bytes) capacity ns → windows s bytes 0 ns ≡ ls → option_map length (slice_get ls d) ≡ slice_get ns d
length_at s bytes capacity ns ls d laid shows = ap (λ l. option_map length (slice_get l d)) (sym shows) ∙ ap (option_map length) (window_get s bytes 0 ns d) ∙ by_cases (slice_get ns d) refl
  where
    by_cases : (o : Option ℕ) → slice_get ns d ≡ o → option_map length (option_map (λ n. slice_range bytes (0 + d * s) (0 + d * s + n)) o) ≡ o
    by_cases None e = refl
    by_cases (Some n) e =
        let fits : n ≤ s = short_at s ns d n laid.short e in
        let most : (d + 1) * s ≤ 65 * s = mul-le (d + 1) s 65 s (omega (arith, laid.few, slice_get_within ns d n e)) (omega arith) in
        ap Some (length-range bytes (0 + d * s) n (omega (arith, laid.room)))
