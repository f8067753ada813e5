-- One argument as it is written.
use Rattle.std.specs.Prelude.{ℕ}
use Rattle.st_tree.specs.Expression.{Argument, Positional, Input, Output}
use Rattle.st_rules.specs.Calls.{Head, unnamed, names_input, names_output}

abbrev pub head_of : Argument ℕ → Head
head_of (Positional e) = unnamed
head_of (Input l n e) = names_input l n
head_of (Output l n k r ss) = names_output l n
