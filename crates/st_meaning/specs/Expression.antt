-- Values and places of expressions (IEC 61131-3:2013, 7.3.2).
use Rattle.std.specs.Prelude.{pos, if◌then◌else◌, List, [], ◌∷◌, Option, Some, None}
use Rattle.plc_text.specs.declared.fault.FaultKind.TheVariants as fault
use Rattle.st_types.specs.declared.st_type.StType.{StType}
use Rattle.st_types.specs.declared.st_type.StType.TheVariants as type
use Rattle.plc_num.specs.Arithmetic.{difference}
use Rattle.plc_num.specs.Bits.{complement}
use Rattle.st_tree.specs.declared.expression.Operator.{Operator}
use Rattle.st_tree.specs.declared.expression.Root.{Root}
use Rattle.st_tree.specs.declared.path.Path.{Path}
use Rattle.st_tree.specs.declared.path.Step.TheVariants as step
use Rattle.st_tree.specs.declared.program.Note.{Note}
use Rattle.st_tree.specs.declared.program.Target.{Target}
use Rattle.st_tree.specs.declared.program.Target.TheVariants as target
use Rattle.st_tree.specs.Duration.{milliseconds}
use Rattle.st_tree.specs.Expression.{Expression, Int, Typed, Time, True, False, Null, Place, Call, Enumerator, Ref, Now, Paren, Not, Negate, Chain, Expressions, no_expressions, expression_then, Selector, Field, Index, Selectors, no_selectors, selector_then, Argument, Positional, Input, Output, Arguments, no_arguments, argument_then, Tails, no_tails, tail_then}
use Rattle.st_tree.specs.Expression as tree
use Rattle.st_tree.specs.Number.{number_of}
use Rattle.st_values.specs.Program.{Parameter, Program}
use Rattle.st_values.specs.Value.{Value, number, reference}
use Rattle.st_values.specs.Initial.{constant}
use Rattle.st_meaning.specs.State.{Spot, Frame, Run, ◌>>=◌, ◌>>◌, gives, fails, some_or, moment, into, read, write, path_of}
use Rattle.st_meaning.specs.Operation.{number_in, elem_of, literal_value, operation, is_decided}
use Rattle.st_meaning.specs.Place.{root_note, root_spot, followed, part_named, index_in, element_kind}
use Rattle.st_meaning.specs.Call.{Given, given_value, given_place, is_in_out, parameter_named, next_parameter, behind_next, output_value, callee_of, Enter, call, call_value}

abbrev pub selector_note : Selector Note → Note
selector_note (Field a name) = a
selector_note (Index a es) = a
selector_note (tree.Target a) = a

-- a place of an instance's type means a reference to the instance
abbrev pub place_value : StType → Run Spot → Run Value
place_value (type.Instance c) place = do
  spot ← place
  gives (reference (path_of spot))
place_value t place = do
  spot ← place
  read spot

-- a constant or an enumerator has no place
abbrev pub name_value : Target → StType → Run Spot → Run Value
name_value (target.Constant z) t place = gives (number z)
name_value (target.Enumerator k) t place = gives (number (pos k))
name_value _ t place = place_value t place

-- the right operand is evaluated only where the left one does not decide
abbrev pub operated : Operator → StType → Value → Run Value → Run Value
operated o t x right = if is_decided o x then gives x else (do y ← right; operation o (elem_of t) x y)

-- what is given to a parameter: a value, or the place itself
abbrev pub passed : Option Parameter → Run Value → Run Spot → Run Given
passed None value place = fails fault.Null
passed (Some q) value place = if is_in_out q.sort then (do spot ← place; gives (given_place q.to spot)) else (do v ← value; gives (given_value q.to v))

abbrev pub output_of : Option Parameter → Option Path → Frame → Run Value
output_of None own f = fails fault.Null
output_of (Some q) own f = output_value q.to own f

-- a place: what its root stands for, and then along the selectors
abbrev pub placed : Root Note → (StType → Spot → Run Spot) → Run Spot
placed r along = do
  spot ← root_spot r
  along (root_note r).kind spot

module _ (p : Program) (enter : Enter) where
  abbrev mutual
    -- from the left to the right
    pub along : Selectors Note → StType → Spot → Run Spot
    along no_selectors t spot = gives spot
    along (selector_then s ss) t spot = do
      part ← selected s t spot
      along ss (selector_note s).kind part

    pub selected : Selector Note → StType → Spot → Run Spot
    selected (Field a name) t spot = part_named t spot a.target
    selected (Index a es) t spot = indexed es t spot
    selected (tree.Target a) t spot = followed t spot

    -- each index is checked when it is evaluated
    pub indexed : Expressions Note → StType → Spot → Run Spot
    indexed no_expressions t spot = gives spot
    indexed (expression_then e es) t spot = do
      v ← value e
      i ← some_or fault.Index (index_in t (number_in v))
      indexed es (element_kind t) (into spot (step.Element i))

    pub value : Expression Note → Run Value
    value (Int a digits) = gives (number (pos (number_of digits)))
    value (Typed a k literal) = gives (number (literal_value literal))
    value (Time a text) = gives (number (pos (milliseconds text)))
    value (True a) = gives (number (pos 1))
    value (False a) = gives (number (pos 0))
    value (Null a) = gives (reference None)
    value (Place a r ss) = name_value a.target a.kind (placed r (along ss))
    value (Call a r ss xs) =
        let callee = callee_of r ss in
        call_value callee a.kind (operand xs) (call p enter callee (placed r (along ss)) (λ ps. arguments ps ps xs) (λ ps own f. outputs ps own f xs))
    value (Enumerator a t b name) = gives (number (constant a.target))
    value (Ref a r ss) = do
      spot ← placed r (along ss)
      gives (reference (path_of spot))
    value (Now a) = do
      t ← moment
      gives (number (pos t))
    value (Paren a e) = value e
    value (Not a e) = do
      v ← value e
      gives (number (complement (elem_of a.kind) (number_in v)))
    value (Negate a e) = do
      v ← value e
      gives (number (difference (elem_of a.kind) (pos 0) (number_in v)))
    value (Chain a e ts) = do
      v ← value e
      chained v ts

    -- operators of one level group to the left
    pub chained : Value → Tails Note → Run Value
    chained v no_tails = gives v
    chained v (tail_then a o e ts) = do
      w ← operated o a.kind v (value e)
      chained w ts

    -- the place that is bound to an in-out
    pub bound_place : Expression Note → Run Spot
    bound_place (Place a r ss) = placed r (along ss)
    bound_place _ = fails fault.Null

    -- the operand of a conversion
    pub operand : Arguments Note → Run Value
    operand (argument_then (Positional e) xs) = value e
    operand _ = fails fault.Null

    -- in written order; `left` are the parameters of the arguments without a name that are still to come
    pub arguments : List Parameter → List Parameter → Arguments Note → Run (List Given)
    arguments ps left no_arguments = gives []
    arguments ps left (argument_then (Positional e) xs) = do
      g ← passed (next_parameter left) (value e) (bound_place e)
      rest ← arguments ps (behind_next left) xs
      gives (g ∷ rest)
    arguments ps left (argument_then (Input a name e) xs) = do
      g ← passed (parameter_named ps a) (value e) (bound_place e)
      rest ← arguments ps left xs
      gives (g ∷ rest)
    arguments ps left (argument_then (Output a name b r ss) xs) = arguments ps left xs

    -- in written order: each output is read, then its place is evaluated, then it is written
    pub outputs : List Parameter → Option Path → Frame → Arguments Note → Run (Unit {0})
    outputs ps own f no_arguments = gives tt
    outputs ps own f (argument_then (Output a name b r ss) xs) = do
      v ← output_of (parameter_named ps a) own f
      spot ← placed r (along ss)
      write spot v
      outputs ps own f xs
    outputs ps own f (argument_then x xs) = outputs ps own f xs

  abbrev pub place : Root Note → Selectors Note → Run Spot
  place r ss = placed r (along ss)
