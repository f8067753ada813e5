-- Calls: what their arguments, in-outs and large outputs add, one by one.
use Rattle.std.proofs.Common.{◌≡◌, ℕ, suc, ◌+◌, ◌<◌, List, ◌∷◌, ◌++◌, length, drop, get_or, refl, sym, ap, ◌∙◌, arith, add-one}
use Rattle.std.specs.Prelude.{if◌then◌else◌}
use Rattle.st_tree.specs.declared.expression.Argument.{Argument as CodeArgument}
use Rattle.st_tree.specs.declared.program.Note.{Note}
use Rattle.st_tree.specs.Expression.{Argument, Positional, Input, Output, Arguments, argument_then, argument_of, arguments_of}
use Rattle.st_values.specs.Program.{Parameter}
use Rattle.st_meaning.specs.Call.{is_in_out}
use Rattle.code_cells.specs.declared.cell.Cell.{Cell}
use Rattle.code_rules.specs.Plan.{Plan}
use Rattle.code_rules.specs.Code.{behind_outputs, bit, given_bits, output_rooms, same_bits, same_code}
use Rattle.codegen_parts.specs.Steps.{argument_number, number_behind, left_behind, room_behind, room_code, one_same_code}
use Rattle.codegen_parts.proofs.CodeLaws.{then_rest, next_arguments}

given_step : (ps : List Parameter) (i : ℕ) (left : List Parameter) (x : Argument Note) (xs : Arguments Note)
    → given_bits ps i left (argument_then x xs) ≡ bit (argument_number i left x) + given_bits ps (number_behind i left x) (left_behind left x) xs
given_step ps i left (Positional e) xs = refl
given_step ps i left (Input a name e) xs = refl
given_step ps i left (Output a name b r ss) xs = refl

pub given_next : (ps : List Parameter) (xs : List (CodeArgument Note)) (n : ℕ) (x : CodeArgument Note) (i j : ℕ) (left rest : List Parameter) (number mask more total : ℕ) → n < length xs → x ≡ get_or xs n x
    → number ≡ argument_number i left (argument_of x) → more ≡ mask + bit number → j ≡ number_behind i left (argument_of x) → rest ≡ left_behind left (argument_of x)
    → mask + given_bits ps i left (arguments_of (drop n xs)) ≡ total → more + given_bits ps j rest (arguments_of (drop (n + 1) xs)) ≡ total
given_next ps xs n x i j left rest number mask more total l g a m b d inv =
    let one = bit (argument_number i left (argument_of x)) in
    let others = given_bits ps (number_behind i left (argument_of x)) (left_behind left (argument_of x)) (arguments_of (drop (n + 1) xs)) in
    let sum : given_bits ps i left (arguments_of (drop n xs)) ≡ one + others = ap (given_bits ps i left) (next_arguments xs n x l g) ∙ given_step ps i left (argument_of x) (arguments_of (drop (n + 1) xs)) in
    let more_is : more ≡ mask + one = m ∙ ap (λ k. mask + bit k) a in
    let rest_is : given_bits ps j rest (arguments_of (drop (n + 1) xs)) ≡ others = ap (λ k. given_bits ps k rest (arguments_of (drop (n + 1) xs))) b ∙ ap (λ k. given_bits ps (number_behind i left (argument_of x)) k (arguments_of (drop (n + 1) xs))) d in
    omega (arith, sum, more_is, rest_is, inv)

pub same_next_bits : (i j mask more : ℕ) (q : Parameter) (rest : List Parameter) (total : ℕ) → more ≡ mask + (if is_in_out q.sort then bit i else 0) → j ≡ i + 1 → mask + same_bits i (q ∷ rest) ≡ total → more + same_bits j rest ≡ total
same_next_bits i j mask more q rest total m n inv =
    let next : same_bits j rest ≡ same_bits (suc i) rest = ap (λ k. same_bits k rest) (n ∙ add-one i) in
    let sum : same_bits i (q ∷ rest) ≡ (if is_in_out q.sort then bit i else 0) + same_bits (suc i) rest = refl in
    omega (arith, m, next, sum, inv)

module _ (w : Plan) where
  room_step : (free : ℕ) (x : Argument Note) (xs : Arguments Note) → behind_outputs w free (argument_then x xs) ≡ behind_outputs w (room_behind w free x) xs
  room_step free (Positional e) xs = refl
  room_step free (Input a name e) xs = refl
  room_step free (Output a name b r ss) xs = refl

  pub rooms_next : (xs : List (CodeArgument Note)) (n : ℕ) (x : CodeArgument Note) (free next total : ℕ) → n < length xs → x ≡ get_or xs n x → next ≡ room_behind w free (argument_of x)
      → behind_outputs w free (arguments_of (drop n xs)) ≡ total → behind_outputs w next (arguments_of (drop (n + 1) xs)) ≡ total
  rooms_next xs n x free next total l g e inv =
      ap (λ k. behind_outputs w k (arguments_of (drop (n + 1) xs))) e ∙ sym (ap (behind_outputs w free) (next_arguments xs n x l g) ∙ room_step free (argument_of x) (arguments_of (drop (n + 1) xs))) ∙ inv

module _ (w : Plan) (line : ℕ) where
  output_rooms_step : (block free : ℕ) (x : Argument Note) (xs : Arguments Note) → output_rooms w line block free (argument_then x xs) ≡ room_code line block free x ++ output_rooms w line block (room_behind w free x) xs
  output_rooms_step block free (Positional e) xs = refl
  output_rooms_step block free (Input a name e) xs = refl
  output_rooms_step block free (Output a name b r ss) xs = refl

  pub output_rooms_next : (block : ℕ) (xs : List (CodeArgument Note)) (n : ℕ) (x : CodeArgument Note) (free next : ℕ) (old mid total : List Cell) → n < length xs → x ≡ get_or xs n x
      → mid ≡ old ++ room_code line block free (argument_of x) → next ≡ room_behind w free (argument_of x)
      → (old ++ output_rooms w line block free (arguments_of (drop n xs))) ≡ total → (mid ++ output_rooms w line block next (arguments_of (drop (n + 1) xs))) ≡ total
  output_rooms_next block xs n x free next old mid total l g m e inv =
      let others = arguments_of (drop (n + 1) xs) in
      ap (λ k. mid ++ output_rooms w line block k others) e
      ∙ then_rest old mid _ _ _ total m (ap (output_rooms w line block free) (next_arguments xs n x l g) ∙ output_rooms_step block free (argument_of x) others) inv

  pub same_next : (block i j : ℕ) (q : Parameter) (rest : List Parameter) (old mid total : List Cell) → mid ≡ old ++ one_same_code w line block i q → j ≡ i + 1
      → (old ++ same_code w line block i (q ∷ rest)) ≡ total → (mid ++ same_code w line block j rest) ≡ total
  same_next block i j q rest old mid total m n inv =
      ap (λ k. mid ++ same_code w line block k rest) (n ∙ add-one i) ∙ then_rest old mid (one_same_code w line block i q) (same_code w line block (suc i) rest) (same_code w line block i (q ∷ rest)) total m refl inv
