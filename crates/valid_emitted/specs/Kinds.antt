-- The operand kinds of values.
use Rattle.std.specs.Prelude.{◌≡◌, ℕ, Bool, true, if◌then◌else◌, List, [], ◌∷◌, Option, Some, slice_get}
use Rattle.st_types.specs.declared.st_type.StType.{StType}
use Rattle.st_tree.specs.declared.expression.Root.{Root}
use Rattle.st_tree.specs.declared.program.Note.{Note}
use Rattle.st_tree.specs.Expression.{Selectors, Arguments}
use Rattle.st_values.specs.Program.{Variable, Parameter, Program}
use Rattle.st_meaning.specs.Call.{from_class, Callee, a_conversion, a_function, a_body, is_in_out, number_to}
use Rattle.st_meaning.specs.Place.{root_note}
use Rattle.st_meaning.specs.st_frame.Promise.Names.{Scope, RootIs}
use Rattle.st_meaning.specs.st_frame.Promise.Expressions.{CalledAlong, ArgumentsFit}
use Rattle.st_meaning.specs.st_frame.Use.{Called, called_parameters}
use Rattle.stack_code.specs.declared.op.Kind.{Kind}
use Rattle.stack_code.specs.declared.op.Kind.TheVariants.{Num, Addr}
use Rattle.code_rules.specs.declared.local.LocalPlace.{LocalPlace}
use Rattle.code_rules.specs.Plan.{Plan}
use Rattle.code_rules.specs.Code.{is_held}

-- an address or a reference, or a number
abbrev pub kind_of_held : Bool → Kind
kind_of_held held = if held then Addr else Num

abbrev pub kind_at : StType → Kind
kind_at t = kind_of_held (is_held t)

-- a plan knows the locals of a routine, and what calls declare
pub record PlanIs (p : Program) (g : Scope) (w : Plan) : Type 0 where
  pub locals : (n : ℕ) (v : Variable) → slice_get g.locals n ≡ Some v → (l : LocalPlace) × (slice_get w.locals n ≡ Some l)
  pub parameters : (k : Option Called) → w.parameters k ≡ called_parameters p k

-- ---- calls, by what is called alone

-- the in-outs of a base's body are locals of the body that calls it
abbrev pub SamesFit : Plan → List Parameter → Type 0
SamesFit w [] = Unit {0}
SamesFit w (q ∷ qs) = (is_in_out q.sort ≡ true → (l : LocalPlace) × (slice_get w.locals (number_to q.to) ≡ Some l)) × SamesFit w qs

abbrev pub AsksTarget : Callee → Type 0
AsksTarget a_conversion = ⊥
AsksTarget (a_function k) = ⊥
AsksTarget c = Unit {0}

abbrev pub GivenFits : Plan → Callee → List Parameter → Type 0
GivenFits w (a_body (from_class d)) ps = SamesFit w ps
GivenFits w c ps = Unit {0}

pub record CallFits (p : Program) (g : Scope) (w : Plan) (c : Callee) (r : Root Note) (ss : Selectors Note) (ps : List Parameter) (xs : Arguments Note) : Type 0 where
  pub target : AsksTarget c → RootIs p g r × CalledAlong p g ss (root_note r).kind
  pub given : GivenFits w c ps
  pub arguments : ArgumentsFit p g ps ps xs
