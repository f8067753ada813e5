-- A call with its place and its arguments; a value that is written at a place.
use Rattle.st_types.specs.declared.st_type.StType.{StType}
use Rattle.st_tree.specs.declared.expression.Root.{Root}
use Rattle.st_tree.specs.declared.program.Note.{Note}
use Rattle.st_tree.specs.Expression.{Selectors, Arguments}
use Rattle.st_values.specs.Program.{Program}
use Rattle.st_values.specs.Value.{Value}
use Rattle.st_meaning.specs.State.{Spot, Frame, Run, ◌>>=◌, write}
use Rattle.st_meaning.specs.Call.{Callee, callee_of, Enter, call, call_value, call_effect}
use Rattle.st_meaning.specs.Expression.{place, operand, arguments, outputs}

-- the place is evaluated, and the value is written there
abbrev pub written : Run Spot → Value → Run (Unit {0})
written place v = do
  spot ← place
  write spot v

module _ (p : Program) (enter : Enter) where
  abbrev pub called_by : Callee → Root Note → Selectors Note → Arguments Note → Run Frame
  called_by c r ss xs = call p enter c (place p enter r ss) (λ ps. arguments p enter ps ps xs) (λ ps own f. outputs p enter ps own f xs)

  -- what the expression of a call gives
  abbrev pub called_value : StType → Root Note → Selectors Note → Arguments Note → Run Value
  called_value t r ss xs = call_value (callee_of r ss) t (operand p enter xs) (called_by (callee_of r ss) r ss xs)

  -- what the statement of a call does
  abbrev pub called_effect : Root Note → Selectors Note → Arguments Note → Run (Unit {0})
  called_effect r ss xs = call_effect (callee_of r ss) (operand p enter xs) (called_by (callee_of r ss) r ss xs)
