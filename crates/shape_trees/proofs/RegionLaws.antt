-- The shapes of regions, so far.
use Rattle.std.proofs.Common.{◌≡◌, ◌≤◌, ◌<◌, ℕ, zero, suc, ◌+◌, true, List, [], ◌∷◌, ◌++◌, length, get_or, Option, Some, None, refl, sym, ap, ◌∙◌, subst, arith, inl, inr, ◌⊎◌, length-append}
use Rattle.std.proofs.lemmas.Option.{slice_get_past, slice_get_read, slice_get-map}
use Rattle.std.specs.Prelude.{slice_get, option_map}
use Rattle.st_tree.specs.declared.program.Program.{Program as CheckedProgram}
use Rattle.st_tree.specs.declared.program.RegionDecl.{RegionDecl}
use Rattle.st_values.specs.Shape.{Shape, shape_within, region_shape}
use Rattle.st_values.specs.Shape as plain
use Rattle.st_values.specs.Value.{◌>>=◌}
use Rattle.st_values.specs.View.{program_of, region_of}
use Rattle.shape_trees.specs.declared.shape.Shape.{Shape as CodeShape}
use Rattle.shape_trees.specs.Shape.{shape_of}
use Rattle.shape_trees.specs.Numbers.{is_numbered_at}
use Rattle.shape_trees.specs.Unfolding.{joined, shape_in, AreShapes}
use Rattle.shape_trees.specs.Private.Unfolding.{IsFound}

at_end : {A : Type 0} (xs : List A) (x : A) → slice_get (xs ++ x ∷ []) (length xs) ≡ Some x
at_end [] x = refl
at_end (y ∷ xs) x = at_end xs x

before_end : {A : Type 0} (xs ys : List A) (k : ℕ) → k < length xs → slice_get (xs ++ ys) k ≡ slice_get xs k
before_end [] ys k h = absurd (omega arith)
before_end (x ∷ xs) ys zero h = refl
before_end (x ∷ xs) ys (suc k) h = before_end xs ys k (omega arith)

split : (a b : ℕ) → (a < b) ⊎ (b ≤ a)
split zero zero = inr (omega arith)
split zero (suc b) = inl (omega arith)
split (suc a) zero = inr (omega arith)
split (suc a) (suc b) = elim (split a b) [ inl p ↦ inl (omega arith) | inr p ↦ inr (omega arith) ]

-- the shape of a number, and its numbers
pub record IsShape (p : CheckedProgram) (all : List (Option CodeShape)) (r : ℕ) : Type 0 where
  pub is : shape_in all r ≡ region_shape (program_of p) r
  pub numbered : is_numbered_at (program_of p) (joined (slice_get all r)) ≡ true

-- the shapes of the first regions are there
pub record ShapesSoFar (p : CheckedProgram) (n : ℕ) (all : List (Option CodeShape)) : Type 0 where
  pub long : length all ≡ n
  pub each : (r : ℕ) → r < n → IsShape p all r

pub none_shaped : (p : CheckedProgram) → ShapesSoFar p 0 []
none_shaped p = record { long = refl; each = λ r h. absurd (omega arith) }

region_is : (p : CheckedProgram) (r : ℕ) (o : Option RegionDecl) → slice_get p.regions r ≡ o → region_shape (program_of p) r ≡ (option_map region_of o >>= λ x. plain.shape_of (program_of p) x.variable.kind)
region_is p r o e = ap (λ q. q >>= λ x. plain.shape_of (program_of p) x.variable.kind) (slice_get-map region_of p.regions r ∙ ap (option_map region_of) e)

pub one_shaped : (p : CheckedProgram) (n : ℕ) (all new : List (Option CodeShape)) (decl : RegionDecl) (x : Option CodeShape) → n < length p.regions → decl ≡ get_or p.regions n decl → ShapesSoFar p n all → new ≡ all ++ x ∷ [] → IsFound (program_of p) (shape_within (program_of p) 65 decl.kind) x → ShapesSoFar p (n + 1) new
one_shaped p n all new decl x l d so_far e found = subst (λ (ys : List (Option CodeShape)). ShapesSoFar p (n + 1) ys) (sym e) longer
  where
    here : IsShape p (all ++ x ∷ []) (length all)
    here =
        let g = so_far.long in
        record {
          is =
              ap (λ o. option_map shape_of (joined o)) (at_end all x) ∙ found.is
              ∙ sym (region_is p n (Some decl) (slice_get_read p.regions (length p.regions) n decl refl l d)) ∙ ap (region_shape (program_of p)) (sym g);
          numbered = ap (λ o. is_numbered_at (program_of p) (joined o)) (at_end all x) ∙ found.numbered;
        }

    by : (r : ℕ) → r < n + 1 → (r < n) ⊎ (n ≤ r) → IsShape p (all ++ x ∷ []) r
    by r h (inl q) =
        let g = so_far.long in
        let same = before_end all (x ∷ []) r (omega (arith, g, q)) in
        let was = so_far.each r q in
        record { is = ap (λ o. option_map shape_of (joined o)) same ∙ was.is; numbered = ap (λ o. is_numbered_at (program_of p) (joined o)) same ∙ was.numbered }
    by r h (inr q) = let g = so_far.long in let s : length all ≡ r = omega (arith, g, q, h) in subst (λ (k : ℕ). IsShape p (all ++ x ∷ []) k) s here

    longer : ShapesSoFar p (n + 1) (all ++ x ∷ [])
    longer =
        let g = so_far.long in
        let m : length all + 1 ≡ n + 1 = omega (arith, g) in
        record { long = length-append all (x ∷ []) ∙ m; each = λ r h. by r h (split r n) }

pub all_shaped : (p : CheckedProgram) (n : ℕ) (all : List (Option CodeShape)) → length p.regions ≤ n → ShapesSoFar p n all → AreShapes (program_of p) all
all_shaped p n all h so_far = record { by = λ r. (one r (split r n)).is; numbered = λ r. (one r (split r n)).numbered }
  where
    one : (r : ℕ) → (r < n) ⊎ (n ≤ r) → IsShape p all r
    one r (inl q) = so_far.each r q
    one r (inr q) =
        let g = so_far.long in
        let past = slice_get_past all r (omega (arith, g, q)) in
        record {
          is = ap (λ o. option_map shape_of (joined o)) past ∙ sym (region_is p r None (slice_get_past p.regions r (omega (arith, h, q))));
          numbered = ap (λ o. is_numbered_at (program_of p) (joined o)) past;
        }
