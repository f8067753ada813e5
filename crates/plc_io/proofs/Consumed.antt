-- What is told of a source from which some bytes were read.
use Rattle.std.proofs.Common.{◌≡◌, ◌∙◌, ℕ, ◌+◌, ◌-◌, ◌<◌, ◌≤◌, List, [], ◌∷◌, ◌++◌, Option, Some, None, Err, refl, sym, ap, length, drop, arith, length-append}
use Rattle.std.specs.Prelude.{◌↔◌, ◌⊎◌, Result, Vec, IfSome}
use Rattle.std.specs.declared.alloc.Global.{Global}
use Rattle.std.proofs.Math.Seq.{drop-append_seam}
use Rattle.std.specs.Io.KnownBytes.{Consumes, IsAtEnd}
use Rattle.plc_io.specs.Faults.{Rose}
use Rattle.plc_io.specs.Reading.{IsAnswerTo}
use Rattle.plc_io.specs.Told.{WhereTold}
use Rattle.plc_io.specs.declared.reading.ReadError.{ReadError}
use Rattle.plc_io.specs.declared.reading.ReadError.TheVariants.{ReadFault, TooLong, NoMemory}

where_read : (a b : Option (List ℕ)) (z : List ℕ) (P : List ℕ → List ℕ → Type 0) → Consumes a b z → ((rest : List ℕ) → P (z ++ rest) rest) → WhereTold a b P
where_read None b z P h f = tt
where_read (Some u) None z P h f = absurd h
where_read (Some u) (Some w) z P h f = rw h (f w)

read_length : (z rest : List ℕ) → length (z ++ rest) - length rest ≡ length z
read_length z rest = omega (arith, length-append z rest)

pub gone : (a b : Option (List ℕ)) (z : List ℕ) → Consumes a b z → WhereTold a b (λ bytes rest. rest ≡ drop (length bytes - length rest) bytes)
gone a b z h = where_read a b z (λ bytes rest. rest ≡ drop (length bytes - length rest) bytes) h (λ rest. rw (read_length z rest) (sym (drop-append_seam z rest)))

pub too_long : (a b : Option (List ℕ)) (z : List ℕ) (n limit : ℕ) (e : ReadError) → Consumes a b z → length z ≡ n → ((e ≡ TooLong) ↔ (limit < n))
    → WhereTold a b (λ bytes rest. (◌≡◌ {A = Result (Vec ℕ Global) ReadError} (Err e) (Err TooLong)) ↔ (limit < length bytes - length rest))
too_long a b z n limit e h len q =
    let said : (◌≡◌ {A = Result (Vec ℕ Global) ReadError} (Err e) (Err TooLong)) ↔ (limit < n) = ((λ p. q.0 (cc)), (λ more. ap Err (q.1 more))) in
    where_read a b z (λ bytes rest. (◌≡◌ {A = Result (Vec ℕ Global) ReadError} (Err e) (Err TooLong)) ↔ (limit < length bytes - length rest)) h
    (λ rest. rw (read_length z rest, len) said)

pub at_most : (a b : Option (List ℕ)) (z : List ℕ) (n limit : ℕ) → Consumes a b z → length z ≡ n → n ≤ limit + 1 → WhereTold a b (λ bytes rest. length bytes ≤ length rest + limit + 1)
at_most a b z n limit h len most = where_read a b z (λ bytes rest. length bytes ≤ length rest + limit + 1) h (λ rest. omega (arith, length-append z rest))

pub answered : (a b : Option (List ℕ)) (z : List ℕ) (n limit : ℕ) (e : ReadError) (Fault : Type 0) → Consumes a b z → length z ≡ n → (e ≡ ReadFault → Fault) → ((e ≡ TooLong) ↔ (limit < n)) → (Fault → ⊥)
    → IfSome a (λ bytes. IsAnswerTo bytes limit (Err e))
answered None b z n limit e Fault h len fault q none = tt
answered (Some u) None z n limit e Fault h len fault q none = absurd h
answered (Some u) (Some w) z n limit ReadFault Fault h len fault q none = none (fault refl)
answered (Some u) (Some w) z n limit TooLong Fault h len fault q none = let more : limit < n = q.0 refl in let whole = length-append z w in rw h (omega arith)
answered (Some u) (Some w) z n limit NoMemory Fault h len fault q none = tt

none_left : (ys w : List ℕ) → ys ++ w ≡ [] → (ys ≡ []) × (w ≡ [])
none_left [] w h = (refl, h)
none_left (y ∷ ys) w h = cc

pub all_read : (a b c : Option (List ℕ)) (xs ys vs : List ℕ) → Consumes a b xs → Consumes b c ys → IsAtEnd b → vs ≡ xs ++ ys → WhereTold a c (λ bytes rest. (bytes ≡ vs) × (rest ≡ []))
all_read None b c xs ys vs p q e is = tt
all_read (Some u) None c xs ys vs p q e is = absurd p
all_read (Some u) (Some v) None xs ys vs p q e is = absurd q
all_read (Some u) (Some v) (Some w) xs ys vs p q e is =
    let left = none_left ys w (sym q ∙ e) in
    (p ∙ ap (λ t. xs ++ t) (e ∙ sym left.0) ∙ sym is, left.1)

-- a fault in the second of two calls is one in both
pub rose_later : (old mid new : ℕ) → old ≤ mid → Rose mid new → Rose old new
rose_later old mid new h r = grind arith
