-- Frames of the code, the outermost first, against those of the meaning, the innermost first.
use Rattle.std.proofs.Common.{◌≡◌, ◌≤◌, ◌<◌, ℕ, zero, suc, ◌+◌, ◌-◌, true, false, List, [], ◌∷◌, ◌++◌, length, Option, Some, None, refl, sym, ap, ◌∙◌, arith, Bor}
use Rattle.std.specs.Prelude.{slice_get, slice_set, option_map, nat_eq, if◌then◌else◌}
use Rattle.std.specs.Option.{option_copied}
use Rattle.std.proofs.lemmas.Bool.{ne_eqb, eq-eqb}
use Rattle.std.proofs.lemmas.Option.{slice_get-map}
use Rattle.st_meaning.specs.State.{Spot, Frame, frame_at, frames_with, frame_value, held_by, spot_in, local_spot_in}
use Rattle.run_state.specs.declared.state.Frame.{Frame as CodeFrame}
use Rattle.run_state.specs.declared.state.Slot.{Slot as CodeSlot}
use Rattle.run_state.specs.State.{frame_of, slot_of, stack}
use Rattle.run_state.specs.Private.Frames.{top_of}

pub stack-push : (below : List Frame) (fs : List CodeFrame) (f : CodeFrame) → stack below (fs ++ f ∷ []) ≡ frame_of f ∷ stack below fs
stack-push below [] f = refl
stack-push below (g ∷ fs) f = stack-push (frame_of g ∷ below) fs f

eq_same : (n : ℕ) → nat_eq n n ≡ true
eq_same n = eq-eqb n n refl

eq_less : (d n : ℕ) → d < n → nat_eq d n ≡ false
eq_less d n h = ne_eqb d n (λ e. omega arith)

eq_more : (d n : ℕ) → n < d → nat_eq d n ≡ false
eq_more d n h = ne_eqb d n (λ e. omega arith)

top_at : (f : Frame) (fs : List Frame) → frame_at (f ∷ fs) (length fs) ≡ Some f
top_at f fs = ap (λ b. if b then Some f else frame_at fs (length fs)) (eq_same (length fs))

below_at : (f : Frame) (fs : List Frame) (d : ℕ) → d < length fs → frame_at (f ∷ fs) d ≡ frame_at fs d
below_at f fs d h = ap (λ b. if b then Some f else frame_at fs d) (eq_less d (length fs) h)

past_at : (fs : List Frame) (d : ℕ) → length fs ≤ d → frame_at fs d ≡ None
past_at [] d h = refl
past_at (f ∷ fs) d h =
    let k : length fs < d = omega arith in
    let j : length fs ≤ d = omega arith in
    ap (λ b. if b then Some f else frame_at fs d) (eq_more d (length fs) k) ∙ past_at fs d j

deep_at : (below : List Frame) (fs : List CodeFrame) (d : ℕ) → d < length below → frame_at (stack below fs) d ≡ frame_at below d
deep_at below [] d h = refl
deep_at below (f ∷ fs) d h =
    let k : d < length (frame_of f ∷ below) = omega arith in
    deep_at (frame_of f ∷ below) fs d k ∙ below_at (frame_of f) below d h

at_from : (below : List Frame) (fs : List CodeFrame) (i : ℕ) → frame_at (stack below fs) (length below + i) ≡ option_map frame_of (slice_get fs i)
at_from below [] i = let h : length below ≤ length below + i = omega arith in past_at below (length below + i) h
at_from below (f ∷ fs) zero =
    let z : length below + 0 ≡ length below = omega arith in
    let k : length below < length (frame_of f ∷ below) = omega arith in
    ap (frame_at (stack (frame_of f ∷ below) fs)) z ∙ deep_at (frame_of f ∷ below) fs (length below) k ∙ top_at (frame_of f) below
at_from below (f ∷ fs) (suc i) =
    let z : length below + suc i ≡ length (frame_of f ∷ below) + i = omega arith in
    ap (frame_at (stack (frame_of f ∷ below) fs)) z ∙ at_from (frame_of f ∷ below) fs i

-- the call of a depth
pub stack-at : (fs : List CodeFrame) (i : ℕ) → frame_at (stack [] fs) i ≡ option_map frame_of (slice_get fs i)
stack-at fs i = let z : i ≡ 0 + i = omega arith in ap (frame_at (stack [] fs)) z ∙ at_from [] fs i

deep_with : (below : List Frame) (fs : List CodeFrame) (d : ℕ) (g : Frame) → d < length below → frames_with (stack below fs) d g ≡ stack (frames_with below d g) fs
deep_with below [] d g h = refl
deep_with below (f ∷ fs) d g h =
    let k : d < length (frame_of f ∷ below) = omega arith in
    deep_with (frame_of f ∷ below) fs d g k ∙ ap (λ b. stack (if b then g ∷ below else frame_of f ∷ frames_with below d g) fs) (eq_less d (length below) h)

past_with : (fs : List Frame) (d : ℕ) (g : Frame) → length fs ≤ d → frames_with fs d g ≡ fs
past_with [] d g h = refl
past_with (f ∷ fs) d g h =
    let k : length fs < d = omega arith in
    let j : length fs ≤ d = omega arith in
    ap (λ b. if b then g ∷ fs else f ∷ frames_with fs d g) (eq_more d (length fs) k) ∙ ap (λ l. f ∷ l) (past_with fs d g j)

with_from : (below : List Frame) (fs : List CodeFrame) (i : ℕ) (g : CodeFrame) → frames_with (stack below fs) (length below + i) (frame_of g) ≡ stack below (slice_set fs i g)
with_from below [] i g = let h : length below ≤ length below + i = omega arith in past_with below (length below + i) (frame_of g) h
with_from below (f ∷ fs) zero g =
    let z : length below + 0 ≡ length below = omega arith in
    let k : length below < length (frame_of f ∷ below) = omega arith in
    ap (λ d. frames_with (stack (frame_of f ∷ below) fs) d (frame_of g)) z
    ∙ deep_with (frame_of f ∷ below) fs (length below) (frame_of g) k
    ∙ ap (λ b. stack (if b then frame_of g ∷ below else frame_of f ∷ frames_with below (length below) (frame_of g)) fs) (eq_same (length below))
with_from below (f ∷ fs) (suc i) g =
    let z : length below + suc i ≡ length (frame_of f ∷ below) + i = omega arith in
    ap (λ d. frames_with (stack (frame_of f ∷ below) fs) d (frame_of g)) z ∙ with_from (frame_of f ∷ below) fs i g

-- another call in its place
pub stack-with : (fs : List CodeFrame) (i : ℕ) (g : CodeFrame) → frames_with (stack [] fs) i (frame_of g) ≡ stack [] (slice_set fs i g)
stack-with fs i g = let z : i ≡ 0 + i = omega arith in ap (λ d. frames_with (stack [] fs) d (frame_of g)) z ∙ with_from [] fs i g

length-stack : (below : List Frame) (fs : List CodeFrame) → length (stack below fs) ≡ length below + length fs
length-stack below [] = omega arith
length-stack below (f ∷ fs) = let h = length-stack (frame_of f ∷ below) fs in omega arith

last_at : (fs : List Frame) → frame_at fs (length fs - 1) ≡ top_of fs
last_at [] = refl
last_at (f ∷ fs) = let h : length (f ∷ fs) - 1 ≡ length fs = omega arith in ap (frame_at (f ∷ fs)) h ∙ top_at f fs

-- the last is the innermost
pub top-is : (fs : List CodeFrame) → option_map frame_of (slice_get fs (length fs - 1)) ≡ top_of (stack [] fs)
top-is fs =
    let h : length fs - 1 ≡ length (stack [] fs) - 1 = omega (arith, length-stack [] fs) in
    sym (stack-at fs (length fs - 1)) ∙ ap (frame_at (stack [] fs)) h ∙ last_at (stack [] fs)

pub seen : (o : Option (Bor CodeFrame)) → option_map frame_of (option_copied o) ≡ option_map (λ f. frame_of f.now) o
seen None = refl
seen (Some b) = refl

pub slot_at : (f : CodeFrame) (n : ℕ) (o : Option CodeSlot) → slice_get f.locals n ≡ o → slice_get (frame_of f).locals n ≡ option_map slot_of o
slot_at f n o e = slice_get-map slot_of f.locals n ∙ ap (option_map slot_of) e

-- ---- where a local is

abbrev pub spot_at_top : ℕ → ℕ → Option Frame → Option Spot
spot_at_top d n None = None
spot_at_top d n (Some f) = spot_in d n (slice_get f.locals n)

by_top : (fs : List Frame) (n : ℕ) → local_spot_in fs n ≡ spot_at_top (length fs - 1) n (top_of fs)
by_top [] n = refl
by_top (f ∷ fs) n = let h : length fs ≡ length (f ∷ fs) - 1 = omega arith in ap (λ d. spot_in d n (slice_get f.locals n)) h

pub spot_is : (fs : List CodeFrame) (n d : ℕ) (f : CodeFrame) (o : Option CodeSlot) → Some (frame_of f) ≡ top_of (stack [] fs) → slice_get f.locals n ≡ o → d ≡ length fs - 1
    → local_spot_in (stack [] fs) n ≡ spot_in d n (option_map slot_of o)
spot_is fs n d f o e k q =
    let deep : length (stack [] fs) - 1 ≡ d = omega (arith, length-stack [] fs, q) in
    by_top (stack [] fs) n ∙ ap (spot_at_top (length (stack [] fs) - 1) n) (sym e) ∙ ap (spot_in (length (stack [] fs) - 1) n) (slot_at f n o k) ∙ ap (λ m. spot_in m n (option_map slot_of o)) deep

pub no_spot : (fs : List CodeFrame) (n : ℕ) → None ≡ top_of (stack [] fs) → local_spot_in (stack [] fs) n ≡ None
no_spot fs n e = by_top (stack [] fs) n ∙ ap (spot_at_top (length (stack [] fs) - 1) n) (sym e)

-- ---- what a local holds

pub local_is : (fs : List CodeFrame) (d n : ℕ) (f : CodeFrame) (o : Option CodeSlot) → slice_get fs d ≡ Some f → slice_get f.locals n ≡ o → frame_value (frame_at (stack [] fs) d) n ≡ held_by (option_map slot_of o)
local_is fs d n f o e k = ap (λ x. frame_value x n) (stack-at fs d ∙ ap (option_map frame_of) e) ∙ ap held_by (slot_at f n o k)

pub no_local : (fs : List CodeFrame) (d n : ℕ) → slice_get fs d ≡ None → frame_value (frame_at (stack [] fs) d) n ≡ None
no_local fs d n e = ap (λ x. frame_value x n) (stack-at fs d ∙ ap (option_map frame_of) e)
