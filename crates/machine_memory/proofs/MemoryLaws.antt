-- Accesses to locals, by the depth and the length of the call.
use Rattle.std.proofs.Common.{◌≡◌, ℕ, ℤ, ◌+◌, ◌≤◌, true, List, [], ◌∷◌, ◌≢◌, zero, suc, refl, sym, ap, subst, ◌∙◌, length, get_or, arith, rules}
use Rattle.std.specs.Prelude.{Option, Some, None, slice_get, slice_set, nat_le}
use Rattle.std.specs.Option.{option_map}
use Rattle.std.proofs.lemmas.Option.{get_or_from_slice_get}
use Rattle.std.proofs.lemmas.List.{set-set, set_comm, set-get_or}
use Rattle.machine_memory.specs.Private.There.{region_or, there_or}
use Rattle.st_types.specs.declared.elem.Elem.{Elem}
use Rattle.st_types.specs.Elem.{bytes}
use Rattle.mem_image.specs.Image.{written, replaced, value_at}
use Rattle.mem_image.proofs.ValueLaws.{reads_within}
use Rattle.st_types.specs.Range.{Fits}
use Rattle.stack_code.specs.declared.memory.Space.TheVariants.{Locals}
use Rattle.stack_code.specs.declared.memory.Address.{Address}
use Rattle.stack_code.specs.Steps.{Goes, ◌>>=◌, some_or_stuck, asks}
use Rattle.stack_code.specs.Memory.{Memory, image_in, image_at, with_image, holds, read, write}

some_of : (o : Option (List ℕ)) (n : ℕ) → Some n ≡ option_map length o → (image : List ℕ) × (o ≡ Some image) × (length image ≡ n)
some_of None n e = absurd (cc)
some_of (Some x) n e = (x, refl, (let h : n ≡ length x = cc in sym h))

at_most : (a b : ℕ) → a ≤ b → nat_le a b ≡ true
at_most a b h = search rules

-- what stands at a place of an open call
pub local_at : (m : Memory) (a : Address) (n len : ℕ) → a.space ≡ Locals → Some len ≡ option_map length (slice_get m.locals a.index) → a.offset + n ≤ len
    → image_at m a n ≡ Goes (get_or m.locals a.index [])
local_at m a n len is e h =
    let f = some_of (slice_get m.locals a.index) len e in
    let fits : a.offset + n ≤ length f.0 = omega (arith, f.2) in
    let test = at_most (a.offset + n) (length f.0) fits in
    let same = get_or_from_slice_get m.locals a.index f.0 [] f.1 in
    let found : image_in a.space m a.index ≡ Goes f.0 = ap (λ t. image_in t m a.index) is ∙ ap some_or_stuck f.1 in
    ap (λ s. s >>= λ image. holds image a n) found ∙ ap (λ b. asks b f.0) test ∙ ap Goes (sym same)

pub local_written : (e : Elem) (m : Memory) (a : Address) (v : ℤ) (len : ℕ) → a.space ≡ Locals → Some len ≡ option_map length (slice_get m.locals a.index) → a.offset + bytes e ≤ len
    → write e m a v ≡ Goes (with_image Locals m a.index (written e (get_or m.locals a.index []) a.offset v))
local_written e m a v len is some h =
    ap (λ s. s >>= λ image. Goes (with_image a.space m a.index (written e image a.offset v))) (local_at m a (bytes e) len is some h)
    ∙ ap (λ t. Goes (with_image t m a.index (written e (get_or m.locals a.index []) a.offset v))) is

get_other : {X : Type 0} (xs : List X) (i j : ℕ) (x : X) → i ≢ j → slice_get (slice_set xs i x) j ≡ slice_get xs j
get_other [] i j x ne = refl
get_other (y ∷ ys) zero zero x ne = absurd (ne refl)
get_other (y ∷ ys) zero (suc j) x ne = refl
get_other (y ∷ ys) (suc i) zero x ne = refl
get_other (y ∷ ys) (suc i) (suc j) x ne = get_other ys i j x (λ e. ne (ap suc e))

-- a region that was taken, while another one was written, and put back
pub put_back : (rs rs1 rs2 rs3 : List (Option (List ℕ))) (from to off : ℕ) (image part : List ℕ) → (from ≡ to → ⊥) → slice_get rs from ≡ Some (Some image) → rs1 ≡ slice_set rs from None
    → rs2 ≡ slice_set rs1 to (Some (replaced (region_or rs1 to) off part)) → rs3 ≡ slice_set rs2 from (Some image) → rs3 ≡ slice_set rs to (Some (replaced (region_or rs to) off part))
put_back rs rs1 rs2 rs3 from to off image part ne is taken wrote put =
    let back : to ≢ from = λ e. ne (sym e) in
    let w : List ℕ → Option (List ℕ) = λ base. Some (replaced base off part) in
    let same : region_or rs1 to ≡ region_or rs to = ap (λ l. region_or l to) taken ∙ ap there_or (get_other rs from to None ne) in
    let whole : slice_set rs from (Some image) ≡ rs = ap (slice_set rs from) (sym (get_or_from_slice_get rs from (Some image) None is)) ∙ set-get_or rs from None in
    put ∙ ap (λ l. slice_set l from (Some image)) (wrote ∙ ap (λ b. slice_set rs1 to (w b)) same)
    ∙ set_comm rs1 to from (w (region_or rs to)) (Some image) back
    ∙ ap (λ l. slice_set (slice_set l from (Some image)) to (w (region_or rs to))) taken
    ∙ ap (λ l. slice_set l to (w (region_or rs to))) (set-set rs from None (Some image) ∙ whole)

pub local_read : (e : Elem) (m : Memory) (a : Address) (len : ℕ) (v : ℤ) → a.space ≡ Locals → Some len ≡ option_map length (slice_get m.locals a.index) → a.offset + bytes e ≤ len → v ≡ value_at e (get_or m.locals a.index []) a.offset
    → read e m a ≡ Goes v
local_read e m a len v is some h same =
    ap (λ s. s >>= λ image. Goes (value_at e image a.offset)) (local_at m a (bytes e) len is some h) ∙ ap Goes (sym same)

pub fits_read : (e : Elem) (image : List ℕ) (at : ℕ) (v : ℤ) → v ≡ value_at e image at → Fits e v
fits_read e image at v same = let P : ℤ → Type 0 = λ w. Fits e w in subst P (sym same) (reads_within e image at)
