-- The words on top of the room.
use Rattle.std.proofs.Common.{◌≡◌, ℕ, zero, suc, ◌+◌, ◌-◌, ◌≤◌, ◌<◌, Bool, true, false, List, [], ◌∷◌, ◌++◌, length, take, drop, reverse, refl, sym, ap, ◌∙◌, arith, get_or, length-drop}
use Rattle.std.specs.Prelude.{Option, nat_le}
use Rattle.std.proofs.Math.Seq.{drop-append_seam, take-suc}
use Rattle.std.proofs.lemmas.List.{reverse-append, length-reverse, take-append-drop, take-take, length-take-le}
use Rattle.std.proofs.lemmas.Bool.{le-leb}
use Rattle.std.specs.Prelude.{Ok, Err}
use Rattle.std.specs.declared.result.Result.{Result}
use Rattle.stack_code.specs.declared.machine.Ending.{Ending}
use Rattle.machine_memory.specs.Answers.{settled, called}
use Rattle.stack_code.specs.declared.memory.Address.{Address}
use Rattle.stack_code.specs.declared.memory.Word.{Word}
use Rattle.stack_code.specs.Steps.{broken}
use Rattle.stack_code.specs.Machine.{operands, instance_in}

-- without the n words on top
pub dropped : {X : Type 0} (xs : List X) (top n : ℕ) → top ≤ length xs → n ≤ top → drop n (reverse (take top xs)) ≡ reverse (take (top - n) xs)
dropped xs top n h k =
    let ys = take top xs in
    let size : length ys ≡ top = length-take-le top xs h in
    let above : length (reverse (drop (top - n) ys)) ≡ n = length-reverse (drop (top - n) ys) ∙ length-drop (top - n) ys ∙ omega (arith, size) in
    ap (λ l. drop n (reverse l)) (sym (take-append-drop (top - n) ys)) ∙ ap (drop n) (reverse-append (take (top - n) ys) (drop (top - n) ys))
    ∙ ap (λ i. drop i (reverse (drop (top - n) ys) ++ reverse (take (top - n) ys))) (sym above) ∙ drop-append_seam (reverse (drop (top - n) ys)) (reverse (take (top - n) ys))
    ∙ ap reverse (take-take (top - n) top xs (omega arith))

-- the word under n others
pub under : (xs : List Word) (top n : ℕ) (w : Word) → top ≤ length xs → n < top → w ≡ get_or xs (top - 1 - n) w → drop n (reverse (take top xs)) ≡ w ∷ drop (n + 1) (reverse (take top xs))
under xs top n w h lt e =
    let at : top - n ≡ suc (top - 1 - n) = omega arith in
    let left : top - (n + 1) ≡ top - 1 - n = omega arith in
    dropped xs top n h (omega arith) ∙ ap (λ i. reverse (take i xs)) at ∙ ap reverse (take-suc xs (top - 1 - n) w (omega arith)) ∙ reverse-append (take (top - 1 - n) xs) (get_or xs (top - 1 - n) w ∷ [])
    ∙ ap (λ x. x ∷ reverse (take (top - 1 - n) xs)) (sym e) ∙ ap (λ i. w ∷ reverse (take i xs)) (sym left) ∙ ap (λ l. w ∷ l) (sym (dropped xs top (n + 1) h (omega arith)))

pub called_at : (result : Result (Option Address) Ending) (n : ℕ) (ws : List Word) (w : Word) → n < length ws → drop n ws ≡ w ∷ drop (n + 1) ws → instance_in w ≡ settled result → operands n ws ≡ called result n ws
called_at (Ok own) n ws w lt e i = let enough : nat_le n (length ws) ≡ true = le-leb n (length ws) (omega arith) in rw (enough, e, i) refl
called_at (Err x) n ws w lt e i = let enough : nat_le n (length ws) ≡ true = le-leb n (length ws) (omega arith) in rw (enough, e, i) refl

past : (n : ℕ) (ws : List Word) → length ws ≤ n → drop n ws ≡ []
past zero [] h = refl
past (suc n) [] h = refl
past zero (w ∷ ws) h = absurd (omega arith)
past (suc n) (w ∷ ws) h = past n ws (omega arith)

pub operands_none : (n : ℕ) (ws : List Word) → length ws ≤ n → operands n ws ≡ broken
operands_none n ws h = by (nat_le n (length ws)) refl
  where
    by : (b : Bool) → nat_le n (length ws) ≡ b → operands n ws ≡ broken
    by false e = rw e refl
    by true e = let none = past n ws h in rw (e, none) refl
