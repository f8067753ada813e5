-- The kinds of a routine, from lists that are turned round.
use Rattle.std.proofs.Common.{◌≡◌, ◌≤◌, ℕ, List, [], ◌∷◌, length, map, reverse, Option, Some, option_map, refl, sym, ap, ◌∙◌, subst}
use Rattle.std.specs.Prelude.{slice_get}
use Rattle.std.proofs.lemmas.List.{reverse-reverse, length-reverse}
use Rattle.std.proofs.lemmas.Option.{slice_get-map}
use Rattle.stack_code.specs.declared.op.Kind.{Kind}
use Rattle.code_cells.specs.declared.cell.Cell.{Cell}
use Rattle.code_cells.specs.Found.{all_found, ended}

twice : (xs : List (List Kind)) → map Some xs ≡ map (λ ks. Some (reverse ks)) (map reverse xs)
twice [] = refl
twice (x ∷ xs) = ap (λ y. Some y ∷ map Some xs) (sym (reverse-reverse x)) ∙ ap (λ ys. Some (reverse (reverse x)) ∷ ys) (twice xs)

pub kinds_turned : (kinds : List (Option (List Kind))) (found : List (List Kind)) (cells lent : List Cell) → kinds ≡ map Some (reverse found) → map reverse (reverse found) ≡ all_found (reverse lent) ended → lent ≡ cells
    → kinds ≡ map (λ ks. Some (reverse ks)) (all_found (reverse cells) ended)
kinds_turned kinds found cells lent h f e =
    h ∙ twice (reverse found) ∙ ap (map (λ ks. Some (reverse ks))) (f ∙ ap (λ cs. all_found (reverse cs) ended) e)

pub roomy : (kinds shown : List (Option (List Kind))) (all : List (List Kind)) (most room : ℕ) → shown ≡ kinds → kinds ≡ map (λ ks. Some (reverse ks)) all → room ≡ most → ((n : ℕ) (ks : List Kind) → slice_get shown n ≡ Some (Some ks) → length ks ≤ most)
    → (n : ℕ) (ks : List Kind) → slice_get all n ≡ Some ks → length ks ≤ room
roomy kinds shown all most room q h r f n ks e =
    let at : slice_get shown n ≡ Some (Some (reverse ks)) = ap (λ xs. slice_get xs n) (q ∙ h) ∙ slice_get-map (λ ls. Some (reverse ls)) all n ∙ ap (option_map (λ ls. Some (reverse ls))) e in
    subst (λ m. length ks ≤ m) (sym r) (subst (λ m. m ≤ most) (length-reverse ks) (f n (reverse ks) at))
