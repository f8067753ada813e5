-- Arguments as they are written, one after the other.
use Rattle.std.proofs.Common.{◌≡◌, ℕ, suc, ◌+◌, Bool, true, false, List, ◌∷◌, refl, sym, arith, ap, ◌∙◌}
use Rattle.std.specs.Prelude.{if◌then◌else◌}
use Rattle.st_tree.specs.Expression.{Argument, Positional, Input, Output, Arguments, argument_then}
use Rattle.st_rules.specs.Calls.{Head, unnamed, names_input, names_output, heads, is_unnamed, count_unnamed}
use Rattle.check_calls.specs.Private.Heads.{head_of}

pub heads_of_one : (x : Argument ℕ) (xs : Arguments ℕ) → heads (argument_then x xs) ≡ head_of x ∷ heads xs
heads_of_one (Positional e) xs = refl
heads_of_one (Input l n e) xs = refl
heads_of_one (Output l n k r ss) xs = refl

pub count_one : (h : Head) (hs : List Head) → count_unnamed (h ∷ hs) ≡ (if is_unnamed h then suc (count_unnamed hs) else count_unnamed hs)
count_one unnamed hs = refl
count_one (names_input l n) hs = refl
count_one (names_output l n) hs = refl
