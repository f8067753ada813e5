-- Code behind code, and arguments one after the other.
use Rattle.std.proofs.Common.{◌≡◌, ℕ, ◌+◌, ◌<◌, List, [], ◌++◌, length, drop, get_or, sym, ap, ◌∙◌, append_assoc, append-nil}
use Rattle.st_rules.proofs.ListLaws.{drop-at}
use Rattle.st_tree.specs.declared.expression.Argument.{Argument as CodeArgument}
use Rattle.st_tree.specs.declared.program.Note.{Note}
use Rattle.st_tree.specs.Expression.{argument_then, argument_of, arguments_of}
use Rattle.code_cells.specs.declared.cell.Cell.{Cell}

pub two : (old mid new x y : List Cell) → mid ≡ old ++ x → new ≡ mid ++ y → new ≡ old ++ (x ++ y)
two old mid new x y h k = k ∙ ap (λ z. z ++ y) h ∙ append_assoc old x y

pub nothing : (old : List Cell) → old ≡ old ++ []
nothing old = sym (append-nil old)

-- what is seen of something adds no code
pub adds_nothing : {A : Type 0} (f : A → List Cell) (old : List Cell) (x y : A) → x ≡ y → f y ≡ [] → old ≡ old ++ f x
adds_nothing f old x y e q = nothing old ∙ ap (λ z. old ++ z) (sym (ap f e ∙ q))

-- code of one, then of the rest
pub then_rest : (old mid this rest whole total : List Cell) → mid ≡ old ++ this → whole ≡ this ++ rest → (old ++ whole) ≡ total → (mid ++ rest) ≡ total
then_rest old mid this rest whole total m h inv = ap (λ y. y ++ rest) m ∙ append_assoc old this rest ∙ ap (λ y. old ++ y) (sym h) ∙ inv

pub next_arguments : (xs : List (CodeArgument Note)) (n : ℕ) (x : CodeArgument Note) → n < length xs → x ≡ get_or xs n x → arguments_of (drop n xs) ≡ argument_then (argument_of x) (arguments_of (drop (n + 1) xs))
next_arguments xs n x l g = ap arguments_of (drop-at xs n x l g)
