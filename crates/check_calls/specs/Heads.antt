-- Arguments as they are written, as the code tells them.
use Rattle.std.specs.Prelude.{List, map}
use Rattle.st_rules.specs.Calls.{unnamed, names_input, names_output}
use Rattle.st_rules.specs.Calls as calls
use Rattle.check_calls.specs.declared.heads.Head.{Head}
use Rattle.check_calls.specs.declared.heads.Head.TheVariants as code

abbrev pub head : Head → calls.Head
head code.Unnamed = unnamed
head (code.Input l n) = names_input l n.now
head (code.Output l n) = names_output l n.now

abbrev pub heads_told : List Head → List calls.Head
heads_told hs = map head hs
