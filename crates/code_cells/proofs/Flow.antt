-- What code finds, by its parts.
use Rattle.std.proofs.Common.{◌≡◌, ℕ, suc, ◌+◌, List, [], ◌∷◌, ◌++◌, length, Option, Some, refl, sym, ap, ◌∙◌, subst, arith}
use Rattle.std.specs.Prelude.{slice_get}
use Rattle.stack_code.specs.declared.op.Kind.{Kind}
use Rattle.stack_code.specs.declared.op.Op.{Op}
use Rattle.stack_code.specs.Validity.{after}
use Rattle.code_cells.specs.declared.cell.Cell.{Cell}
use Rattle.code_cells.specs.declared.cell.Cell.TheVariants.{Does as does}
use Rattle.code_cells.specs.Cell.{behind}
use Rattle.code_cells.specs.Found.{before, Stream, then_found, kinds_or_none, found, from, Mark, GoesOn, Does, Fits, AllFit, marks_behind, Takes}

pub from_append : (a b : List Cell) (out : Stream) → from (a ++ b) out ≡ from a (from b out)
from_append [] b out = refl
from_append (c ∷ a) b out = ap (λ next. then_found (found c next) next) (from_append a b out)

-- behind the code
pub from_past : (a : List Cell) (out : Stream) (n : ℕ) → from a out (length a + n) ≡ out n
from_past [] out n = let e : 0 + n ≡ n = omega arith in ap out e
from_past (c ∷ a) out n = let e : length (c ∷ a) + n ≡ suc (length a + n) = omega arith in ap (from (c ∷ a) out) e ∙ from_past a out n

-- at a place that is the code's length and so much more
pub from_at : (a : List Cell) (out : Stream) (k n : ℕ) → k ≡ length a + n → from a out k ≡ out n
from_at a out k n e = ap (from a out) e ∙ from_past a out n

pub all_fit_append : (marks : List Mark) (a b : List Cell) (out : Stream) → AllFit marks a (from b out) → AllFit (marks_behind marks a (from b out)) b out → AllFit marks (a ++ b) out
all_fit_append marks [] b out h k = k
all_fit_append marks (c ∷ a) b out h k =
    subst (λ next. Fits ((c, found c next) ∷ marks) c (found c next) next × AllFit ((c, found c next) ∷ marks) (a ++ b) out) (sym (from_append a b out))
    (h.0, all_fit_append ((c, found c (from a (from b out))) ∷ marks) a b out h.1 k)

pub marks_past : (marks : List Mark) (a : List Cell) (out : Stream) (n : ℕ) → slice_get (marks_behind marks a out) (length a + n) ≡ slice_get marks n
marks_past marks [] out n = let e : 0 + n ≡ n = omega arith in ap (slice_get marks) e
marks_past marks (c ∷ a) out n =
    let more = (c, found c (from a out)) ∷ marks in
    let e : length (c ∷ a) + n ≡ length a + suc n = omega arith in
    ap (slice_get (marks_behind more a out)) e ∙ marks_past more a out (suc n)

pub marks_append : (marks : List Mark) (a b : List Cell) (out : Stream) → marks_behind marks (a ++ b) out ≡ marks_behind (marks_behind marks a (from b out)) b out
marks_append marks [] b out = refl
marks_append marks (c ∷ a) b out =
    ap (λ next. marks_behind ((c, found c next) ∷ marks) (a ++ b) out) (from_append a b out) ∙ marks_append ((c, found c (from a (from b out))) ∷ marks) a b out

-- ---- code that takes kinds to others

pub nothing : (ks : List Kind) → Takes [] ks ks
nothing ks = record { finds = λ out h. h; fits = λ marks out h. tt }

pub both : {a b : List Cell} {ks mid left : List Kind} → Takes a ks mid → Takes b mid left → Takes (a ++ b) ks left
both {a = a} {b = b} {ks = ks} {mid = mid} {left = left} h k = record {
  finds = λ out e. ap (λ s. s 0) (from_append a b out) ∙ h.finds (from b out) (k.finds out e);
  fits = λ marks out e. all_fit_append marks a b out (h.fits marks (from b out) (k.finds out e)) (k.fits (marks_behind marks a (from b out)) out e);
}

-- one cell
pub one : (c : Cell) (ks left : List Kind) → ((marks : List Mark) (out : Stream) → out 0 ≡ Some left → (found c out ≡ ks) × Fits marks c ks out) → Takes (c ∷ []) ks left
one c ks left h = record {
  finds = λ out e. ap Some (h [] out e).0;
  fits = λ marks out e. (subst (λ x. Fits ((c, found c out) ∷ marks) c x out) (sym (h ((c, found c out) ∷ marks) out e).0) (h ((c, found c out) ∷ marks) out e).1, tt);
}

-- an instruction that goes on with what it leaves
pub does_takes : (o : Op) (line : ℕ) (ks left : List Kind) → before o left ≡ ks → after o ks ≡ Some left → ((next : Option (List Kind)) → GoesOn (after o ks) next → Does o ks next) → Takes (does o line ∷ []) ks left
does_takes o line ks left b a h = one (does o line) ks left (λ marks out e. (ap (λ x. before o (kinds_or_none x)) e ∙ b, h (out 0) (record { ks = left; leaves = a; finds = e })))

-- one more cell before
pub then_takes : {a : List Cell} {c : Cell} {ks mid left : List Kind} → Takes (c ∷ []) ks mid → Takes a mid left → Takes (c ∷ a) ks left
then_takes h k = both h k
