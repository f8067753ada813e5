-- What may be none, and arguments one by one.
use Rattle.std.specs.Prelude.{List, ◌++◌, Option, option_map}
use Rattle.st_tree.specs.declared.program.Note.{Note}
use Rattle.st_tree.specs.Expression.{Argument, Positional, Input, Output}
use Rattle.st_values.specs.Program.{Parameter, Program}
use Rattle.st_meaning.specs.Call.{parameter_named, next_parameter, behind_next}
use Rattle.st_meaning.specs.st_frame.Use.{Called, Owner, Use, is_bound, bound_uses, expression_uses, owner_uses, place_uses}
use Rattle.body_uses.specs.declared.uses.Called.{Called as CodeCalled}
use Rattle.body_uses.specs.declared.uses.Owner.{Owner as CodeOwner}
use Rattle.body_uses.specs.Uses.{called_of, owner_of}

abbrev pub called_if : Option CodeCalled → Option Called
called_if c = option_map called_of c

abbrev pub owner_if : Option CodeOwner → Option Owner
owner_if o = option_map owner_of o

module _ (p : Program) where
  -- what one argument uses
  abbrev pub one_argument : List Parameter → List Parameter → Argument Note → List Use
  one_argument ps left (Positional e) = bound_uses (is_bound (next_parameter left)) e ++ expression_uses p e
  one_argument ps left (Input a name e) = bound_uses (is_bound (parameter_named ps a)) e ++ expression_uses p e
  one_argument ps left (Output a name b r ss) = owner_uses r ss ++ place_uses p r ss

-- the parameters that are left behind an argument
abbrev pub behind_argument : List Parameter → Argument Note → List Parameter
behind_argument left (Positional e) = behind_next left
behind_argument left (Input a name e) = left
behind_argument left (Output a name b r ss) = left
