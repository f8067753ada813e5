-- The greatest offset, one part after the other.
use Rattle.std.proofs.Common.{◌≡◌, ℕ, ◌+◌, ◌<◌, ◌≤◌, List, [], ◌∷◌, length, drop, get_or, refl, ap, ◌∙◌, arith}
use Rattle.std.specs.Prelude.{max}
use Rattle.st_rules.proofs.ListLaws.{drop-at, drop-end}
use Rattle.st_tree.specs.declared.expression.Argument.{Argument as CodeArgument}
use Rattle.st_tree.specs.declared.program.Note.{Note}
use Rattle.st_tree.specs.declared.statement.Branch.{Branch}
use Rattle.st_tree.specs.declared.statement.Case.{Case as CodeCase}
use Rattle.st_tree.specs.Expression.{Argument, Positional, Input, Output, Arguments, argument_then, argument_of, arguments_of}
use Rattle.st_tree.specs.Statement.{branch_of, branches_of, case_branch_of, cases_of}
use Rattle.st_values.specs.Program.{Parameter}
use Rattle.code_rules.specs.Plan.{Plan}
use Rattle.code_rules.specs.Tops.{arguments_top, branches_top, cases_top, effects_top, outputs_top}
use Rattle.codegen_parts.specs.Steps.{free_behind, left_behind}
use Rattle.codegen_tops.specs.Steps.{argument_top, output_top, branch_top}

-- one part more
pub more : (most top new rest whole total : ℕ) → new ≡ max most top → whole ≡ max top rest → max most whole ≡ total → max new rest ≡ total
more most top new rest whole total n h inv = omega (arith, n, h, inv)

-- all parts
pub ended : (most free whole total : ℕ) → whole ≡ free → max most whole ≡ total → max most free ≡ total
ended most free whole total h inv = omega (arith, h, inv)

-- a loop over items: one more, and none that is left
module _ {X : Type 0} (top : List X → ℕ) (xs : List X) (n : ℕ) where
  pub top_next : (x : X) (most one new total : ℕ) → n < length xs → x ≡ get_or xs n x → top (x ∷ drop (n + 1) xs) ≡ max one (top (drop (n + 1) xs)) → new ≡ max most one → max most (top (drop n xs)) ≡ total → max new (top (drop (n + 1) xs)) ≡ total
  top_next x most one new total l g s m inv = more most one new (top (drop (n + 1) xs)) (top (drop n xs)) total m (ap top (drop-at xs n x l g) ∙ s) inv

  pub top_end : (most free new total : ℕ) → top [] ≡ free → length xs ≤ n → new ≡ max most free → max most (top (drop n xs)) ≡ total → new ≡ total
  top_end most free new total b l m inv = m ∙ ended most free (top (drop n xs)) total (ap top (drop-end xs n l) ∙ b) inv

module _ (w : Plan) where
  arguments_step : (free : ℕ) (ps left : List Parameter) (x : Argument Note) (xs : Arguments Note) → arguments_top w free ps left (argument_then x xs) ≡ max (argument_top w free x) (arguments_top w (free_behind w free ps left x) ps (left_behind left x) xs)
  arguments_step free ps left (Positional e) xs = refl
  arguments_step free ps left (Input a name e) xs = refl
  arguments_step free ps left (Output a name b r ss) xs = omega arith

  pub arguments_next : (ps : List Parameter) (xs : List (CodeArgument Note)) (n : ℕ) (x : CodeArgument Note) (free next : ℕ) (left rest : List Parameter) (most top new total : ℕ) → n < length xs → x ≡ get_or xs n x → top ≡ argument_top w free (argument_of x) → new ≡ max most top
      → rest ≡ left_behind left (argument_of x) → next ≡ free_behind w free ps left (argument_of x)
      → max most (arguments_top w free ps left (arguments_of (drop n xs))) ≡ total → max new (arguments_top w next ps rest (arguments_of (drop (n + 1) xs))) ≡ total
  arguments_next ps xs n x free next left rest most top new total l g t m a b inv =
      let others = arguments_of (drop (n + 1) xs) in
      let y = argument_of x in
      let tail : arguments_top w next ps rest others ≡ arguments_top w (free_behind w free ps left y) ps (left_behind left y) others =
      ap (λ k. arguments_top w k ps rest others) b ∙ ap (λ k. arguments_top w (free_behind w free ps left y) ps k others) a in
      let whole : arguments_top w free ps left (arguments_of (drop n xs)) ≡ max (argument_top w free y) (arguments_top w (free_behind w free ps left y) ps (left_behind left y) others) =
      ap (λ zs. arguments_top w free ps left (arguments_of zs)) (drop-at xs n x l g) ∙ arguments_step free ps left y others in
      omega (arith, tail, whole, t, m, inv)

  outputs_step : (free : ℕ) (x : Argument Note) (xs : Arguments Note) → outputs_top w free (argument_then x xs) ≡ max (output_top w free x) (outputs_top w free xs)
  outputs_step free (Positional e) xs = omega arith
  outputs_step free (Input a name e) xs = omega arith
  outputs_step free (Output a name b r ss) xs = omega arith

  pub outputs_next : (xs : List (CodeArgument Note)) (n : ℕ) (x : CodeArgument Note) (free most top new total : ℕ) → n < length xs → x ≡ get_or xs n x → top ≡ output_top w free (argument_of x) → new ≡ max most top
      → max most (outputs_top w free (arguments_of (drop n xs))) ≡ total → max new (outputs_top w free (arguments_of (drop (n + 1) xs))) ≡ total
  outputs_next xs n x free most top new total l g t m inv =
      let whole = ap (λ zs. outputs_top w free (arguments_of zs)) (drop-at xs n x l g) ∙ outputs_step free (argument_of x) (arguments_of (drop (n + 1) xs)) in
      omega (arith, whole, t, m, inv)

  pub branches_next : (bs : List (Branch Note)) (n : ℕ) (b : Branch Note) (free most top new total : ℕ) → n < length bs → b ≡ get_or bs n b → top ≡ branch_top w free (branch_of b).0 (branch_of b).1 → new ≡ max most top
      → max most (branches_top w free (branches_of (drop n bs))) ≡ total → max new (branches_top w free (branches_of (drop (n + 1) bs))) ≡ total
  branches_next bs n b free most top new total l g t m inv =
      let whole = ap (λ zs. branches_top w free (branches_of zs)) (drop-at bs n b l g) in
      omega (arith, whole, t, m, inv)

  pub cases_next : (cs : List (CodeCase Note)) (n : ℕ) (x : CodeCase Note) (free most top new total : ℕ) → n < length cs → x ≡ get_or cs n x → top ≡ effects_top w free (case_branch_of x).1 → new ≡ max most top
      → max most (cases_top w free (cases_of (drop n cs))) ≡ total → max new (cases_top w free (cases_of (drop (n + 1) cs))) ≡ total
  cases_next cs n x free most top new total l g t m inv =
      let whole = ap (λ zs. cases_top w free (cases_of zs)) (drop-at cs n x l g) in
      omega (arith, whole, t, m, inv)
