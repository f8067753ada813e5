-- The outputs with their numbers, and their bytes.
use Rattle.std.proofs.Common.{◌≡◌, ℕ, ◌+◌, ◌<◌, ◌≤◌, Bool, true, false, List, [], ◌∷◌, ◌++◌, refl, sym, ap, ◌∙◌, arith, append_assoc, append-nil, drop, get_or, length, map}
use Rattle.std.specs.Prelude.{max, if◌then◌else◌}
use Rattle.std.specs.List.{range_with_len}
use Rattle.std.proofs.lemmas.List.FromFn.{map-range_with_len_more}
use Rattle.st_rules.proofs.ListLaws.{drop-at, drop-end}
use Rattle.st_values.specs.Value.{Store, at}
use Rattle.st_meaning.specs.ProcessImage.{Located, is_shown, number_or_zero, first_byte, size_of, share, output_byte, covered, collect}
use Rattle.process_image.specs.declared.located.Located.{Located as CodeLocated}
use Rattle.process_image.specs.declared.outputs.Shown.{Shown as CodeShown}
use Rattle.process_image.specs.Located.{seen, all_seen}
use Rattle.process_image.specs.Private.Shown.{Shown, all_shown, one_shown, shown_in, byte_in, covered_by}

-- ---- the definitions by parts

byte_of_one : (h : Bool) (x : Shown) (rest : List Shown) (b : ℕ) → (if h then share x.address x.number b else 0) + byte_in rest b ≡ byte_in ((if h then x ∷ [] else []) ++ rest) b
byte_of_one true x rest b = refl
byte_of_one false x rest b = omega arith

pub byte_is : (xs : List Located) (fs : List ℕ) (s : Store) (b : ℕ) → output_byte xs fs s b ≡ byte_in (shown_in fs s xs) b
byte_is [] fs s b = refl
byte_is (x ∷ xs) fs s b =
    ap (λ n. (if is_shown fs x then share x.address (number_or_zero (at s x.path)) b else 0) + n) (byte_is xs fs s b)
    ∙ byte_of_one (is_shown fs x) (record { address = x.address; number = number_or_zero (at s x.path) }) (shown_in fs s xs) b

covered_by_one : (h : Bool) (x : Shown) (rest : List Shown) → max (if h then first_byte x.address + size_of x.address else 0) (covered_by rest) ≡ covered_by ((if h then x ∷ [] else []) ++ rest)
covered_by_one true x rest = refl
covered_by_one false x rest = omega arith

pub covered_is : (xs : List Located) (fs : List ℕ) (s : Store) → covered xs fs ≡ covered_by (shown_in fs s xs)
covered_is [] fs s = refl
covered_is (x ∷ xs) fs s =
    ap (max (if is_shown fs x then first_byte x.address + size_of x.address else 0)) (covered_is xs fs s)
    ∙ covered_by_one (is_shown fs x) (record { address = x.address; number = number_or_zero (at s x.path) }) (shown_in fs s xs)

-- ---- loops

pub shown_next : (fs : List ℕ) (s : Store) (xs : List CodeLocated) (i : ℕ) (x : CodeLocated) (before after all : List Shown) → i < length xs → x ≡ get_or xs i x
    → before ++ shown_in fs s (all_seen (drop i xs)) ≡ all → after ≡ before ++ one_shown fs s (seen x) → after ++ shown_in fs s (all_seen (drop (i + 1) xs)) ≡ all
shown_next fs s xs i x before after all l e inv h =
    ap (λ us. us ++ shown_in fs s (all_seen (drop (i + 1) xs))) h
    ∙ append_assoc before (one_shown fs s (seen x)) (shown_in fs s (all_seen (drop (i + 1) xs)))
    ∙ sym (ap (λ us. before ++ shown_in fs s (all_seen us)) (drop-at xs i x l e))
    ∙ inv

pub shown_end : (fs : List ℕ) (s : Store) (xs : List CodeLocated) (i : ℕ) (before all : List Shown) → length xs ≤ i → before ++ shown_in fs s (all_seen (drop i xs)) ≡ all → before ≡ all
shown_end fs s xs i before all l inv = sym (append-nil before) ∙ sym (ap (λ us. before ++ shown_in fs s (all_seen us)) (drop-end xs i l)) ∙ inv

pub byte_next : (b : ℕ) (xs : List CodeShown) (i : ℕ) (x : CodeShown) (sum n more all : ℕ) → i < length xs → x ≡ get_or xs i x
    → sum + byte_in (all_shown (drop i xs)) b ≡ all → n ≡ share x.address.now x.number b → more ≡ sum + n → more + byte_in (all_shown (drop (i + 1) xs)) b ≡ all
byte_next b xs i x sum n more all l e inv h m =
    let first : byte_in (all_shown (drop i xs)) b ≡ share x.address.now x.number b + byte_in (all_shown (drop (i + 1) xs)) b = ap (λ us. byte_in (all_shown us) b) (drop-at xs i x l e) in
    omega arith

pub byte_end : (b : ℕ) (xs : List CodeShown) (i : ℕ) (sum all : ℕ) → length xs ≤ i → sum + byte_in (all_shown (drop i xs)) b ≡ all → sum ≡ all
byte_end b xs i sum all l inv =
    let none : byte_in (all_shown (drop i xs)) b ≡ 0 = ap (λ us. byte_in (all_shown us) b) (drop-end xs i l) in
    omega arith

pub covered_next : (xs : List CodeShown) (i : ℕ) (x : CodeShown) (most over more all : ℕ) → i < length xs → x ≡ get_or xs i x
    → max most (covered_by (all_shown (drop i xs))) ≡ all → over ≡ first_byte x.address.now + size_of x.address.now → more ≡ max over most → max more (covered_by (all_shown (drop (i + 1) xs))) ≡ all
covered_next xs i x most over more all l e inv h m =
    let first : covered_by (all_shown (drop i xs)) ≡ max (first_byte x.address.now + size_of x.address.now) (covered_by (all_shown (drop (i + 1) xs))) = ap (λ us. covered_by (all_shown us)) (drop-at xs i x l e) in
    omega arith

pub covered_end : (xs : List CodeShown) (i : ℕ) (most all : ℕ) → length xs ≤ i → max most (covered_by (all_shown (drop i xs))) ≡ all → most ≡ all
covered_end xs i most all l inv =
    let none : covered_by (all_shown (drop i xs)) ≡ 0 = ap (λ us. covered_by (all_shown us)) (drop-end xs i l) in
    omega arith

-- ---- all bytes

map_as : (f g : ℕ → ℕ) → ((n : ℕ) → f n ≡ g n) → (ns : List ℕ) → map f ns ≡ map g ns
map_as f g h [] = refl
map_as f g h (n ∷ ns) = ap (λ x. x ∷ map f ns) (h n) ∙ ap (λ xs. g n ∷ xs) (map_as f g h ns)

pub collected : (xs : List Located) (fs : List ℕ) (s : Store) (shown : List Shown) (bytes : List ℕ) → shown ≡ shown_in fs s xs → bytes ≡ map (byte_in shown) (range_with_len 0 (covered_by shown))
    → bytes ≡ collect xs fs s
collected xs fs s shown bytes e h =
    h
    ∙ ap (λ m. map (byte_in shown) (range_with_len 0 m)) (ap covered_by e ∙ sym (covered_is xs fs s))
    ∙ ap (λ ys. map (byte_in ys) (range_with_len 0 (covered xs fs))) e
    ∙ sym (map_as (output_byte xs fs s) (byte_in (shown_in fs s xs)) (λ b. byte_is xs fs s b) (range_with_len 0 (covered xs fs)))

pub bytes_next : (shown : List Shown) (n : ℕ) (bytes after : List ℕ) (x : ℕ) → bytes ≡ map (byte_in shown) (range_with_len 0 n) → x ≡ byte_in shown n → after ≡ bytes ++ x ∷ [] → after ≡ map (byte_in shown) (range_with_len 0 (n + 1))
bytes_next shown n bytes after x e h a =
    a ∙ ap (λ ys. ys ++ x ∷ []) e ∙ ap (λ y. map (byte_in shown) (range_with_len 0 n) ++ y ∷ []) h ∙ sym (map-range_with_len_more (byte_in shown) 0 n n (omega arith))
