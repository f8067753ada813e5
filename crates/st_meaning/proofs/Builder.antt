-- Words to write checked programs by hand.
use Rattle.std.proofs.Common.{ℕ, suc, ℤ, true, false, List, [], ◌∷◌, Option, Some, None}
use Rattle.st_types.specs.declared.elem.Elem.TheVariants as elem
use Rattle.st_types.specs.declared.st_type.StType.{StType}
use Rattle.st_types.specs.declared.st_type.StType.TheVariants as type
use Rattle.st_tree.specs.declared.declaration.SectionSort.{SectionSort}
use Rattle.st_tree.specs.declared.declaration.SectionSort.TheVariants as sort
use Rattle.st_tree.specs.declared.expression.Operator.{Operator}
use Rattle.st_tree.specs.declared.expression.Root.TheVariants as root
use Rattle.st_tree.specs.declared.program.Note.{Note}
use Rattle.st_tree.specs.declared.program.TaskDecl.{TaskDecl}
use Rattle.st_tree.specs.declared.program.Target.{Target}
use Rattle.st_tree.specs.declared.program.Target.TheVariants as target
use Rattle.st_tree.specs.Expression.{Expression, Int, Place, Call, Chain, Selector, Field, Selectors, no_selectors, selector_then, Argument, Positional, Input, Output, Arguments, no_arguments, arguments, selectors, tail_then, no_tails}
use Rattle.st_tree.specs.Expression as tree
use Rattle.st_tree.specs.Initial as initial
use Rattle.st_tree.specs.Initial.{Initial}
use Rattle.st_tree.specs.Reads.{no_marks}
use Rattle.st_tree.specs.Statement.{Statement, Assign, Statements, statements, If, branch_then, no_branches, Nothing, Else, Otherwise}
use Rattle.st_tree.specs.Statement as effect
use Rattle.st_values.specs.Program.{Variable, to_local, Parameter, Routine, a_block, a_program, Class, Region}

abbrev pub bool : StType
bool = type.Elementary elem.Bool

abbrev pub int : StType
int = type.Elementary elem.Int

abbrev pub dint : StType
dint = type.Elementary elem.Dint

abbrev pub ulint : StType
ulint = type.Elementary elem.Ulint

abbrev pub usint : StType
usint = type.Elementary elem.Usint

abbrev pub note : StType → Target → Note
note t x = record { line = 0; kind = t; target = x }

abbrev pub typed : StType → Note
typed t = note t target.Nothing

-- ---- expressions

-- an int in decimal digits
abbrev pub lit : StType → List ℕ → Expression Note
lit t digits = Int (typed t) digits

-- a variable
abbrev pub var : StType → Target → Expression Note
var t x = Place (typed t) (root.Name (note t x) []) no_selectors

-- a place that begins with a variable
abbrev pub at : StType → StType → Target → List (Selector Note) → Expression Note
at t start x ss = Place (typed t) (root.Name (note start x) []) (selectors ss)

abbrev pub dot : StType → Target → List ℕ → Selector Note
dot t x name = Field (note t x) name

abbrev pub index : StType → Expression Note → Selector Note
index t e = tree.Index (typed t) (tree.expression_then e tree.no_expressions)

abbrev pub caret : StType → Selector Note
caret t = tree.Target (typed t)

abbrev pub op : StType → Expression Note → Operator → Expression Note → Expression Note
op t a o b = Chain (typed t) a (tail_then (typed t) o b no_tails)

abbrev pub ref : StType → StType → Target → List (Selector Note) → Expression Note
ref t start x ss = tree.Ref (typed t) (root.Name (note start x) []) (selectors ss)

-- ---- calls

abbrev pub arg : ℕ → Expression Note → Argument Note
arg k e = Input (note (type.Elementary elem.Dint) (target.Parameter k)) [] e

abbrev pub out : ℕ → StType → Target → Argument Note
out k t x = Output (note t (target.Parameter k)) [] (typed t) (root.Name (note t x) []) no_selectors

-- of a function, or of a bare method
abbrev pub invoke : StType → Target → List ℕ → List (Argument Note) → Expression Note
invoke t x name xs = Call (typed t) (root.Name (note t x) name) no_selectors (arguments xs)

-- behind a place that begins with a variable
abbrev pub send : StType → StType → Target → List (Selector Note) → List (Argument Note) → Expression Note
send t start x ss xs = Call (typed t) (root.Name (note start x) []) (selectors ss) (arguments xs)

abbrev pub send_this : StType → StType → List (Selector Note) → List (Argument Note) → Expression Note
send_this t own ss xs = Call (typed t) (root.This (typed own)) (selectors ss) (arguments xs)

abbrev pub send_super : StType → StType → List (Selector Note) → List (Argument Note) → Expression Note
send_super t base ss xs = Call (typed t) (root.Super (typed base)) (selectors ss) (arguments xs)

-- ---- statements

abbrev pub set : ℕ → StType → Target → Expression Note → Statement Note
set line t x e = Assign line (typed t) (root.Name (note t x) []) no_selectors e

abbrev pub set_at : ℕ → StType → StType → Target → List (Selector Note) → Expression Note → Statement Note
set_at line t start x ss e = Assign line (typed t) (root.Name (note start x) []) (selectors ss) e

abbrev pub attempt : ℕ → StType → StType → Target → List (Selector Note) → Expression Note → Statement Note
attempt line t start x ss e = effect.Attempt line (typed t) (root.Name (note start x) []) (selectors ss) e

abbrev pub when : ℕ → Expression Note → List (Statement Note) → List (Statement Note) → Statement Note
when line e a b = If line (branch_then e (statements a) no_branches) (Else (statements b))

-- ---- declarations

abbrev pub variable : SectionSort → List ℕ → StType → Option (List ℕ) → Variable
variable s name t address = record { name = name; sort = s; kind = t; initial = None; marks = no_marks; address = address }

abbrev pub own : List ℕ → StType → Variable
own name t = variable sort.Var name t None

abbrev pub located : List ℕ → StType → List ℕ → Variable
located name t address = variable sort.Var name t (Some address)

-- an initial value that is a number
abbrev pub starting : Variable → ℤ → Variable
starting v z = record v { initial = Some (initial.Value (Int (note v.kind (target.Constant z)) [])) }

abbrev pub parameters_from : ℕ → List Variable → List Parameter
parameters_from n [] = []
parameters_from n (v ∷ vs) = record { sort = v.sort; to = to_local n } ∷ parameters_from (suc n) vs

-- a method or function with a result: its parameters stand behind it
abbrev pub method : List ℕ → ℕ → Option ℕ → StType → List Variable → List (Statement Note) → Routine
method name line c t ps ss = record { name = name; line = line; class = c; parameters = parameters_from 1 ps; locals = variable sort.Var name t None ∷ ps; body = statements ss }

abbrev pub no_body : List ℕ → ℕ → Routine
no_body name c = record { name = name; line = 0; class = Some c; parameters = []; locals = []; body = statements [] }

abbrev pub class : List ℕ → ℕ → List ℕ → List ℕ → List Variable → List Routine → Class
class name c bases interfaces vs ms = record { name = name; sort = a_block; chain = c ∷ bases; interfaces = interfaces; own = vs; methods = ms; body = no_body name c }

abbrev pub program_class : List ℕ → ℕ → List Variable → List (Statement Note) → Class
program_class name c vs ss = record { name = name; sort = a_program; chain = c ∷ []; interfaces = []; own = vs; methods = []; body = record { name = name; line = 1; class = Some c; parameters = []; locals = []; body = statements ss } }

abbrev pub global : Variable → Region
global v = record { program = false; variable = v }

abbrev pub instance_of : List ℕ → ℕ → Region
instance_of name c = record { program = true; variable = variable sort.Global name (type.Instance c) None }

abbrev pub task : List ℕ → List ℕ → TaskDecl
task name rs = record { name = name; interval = None; priority = None; programs = rs }
