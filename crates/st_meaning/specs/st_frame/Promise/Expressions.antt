-- Expressions: each has the type of its note, whatever stands in it.
use Rattle.std.specs.Prelude.{◌≡◌, ℕ, pos, List, Option}
use Rattle.st_types.specs.declared.elem.Elem.{Elem}
use Rattle.st_types.specs.declared.elem.Elem.TheVariants as elem
use Rattle.st_types.specs.declared.st_type.StType.{StType, out-StType}
use Rattle.st_types.specs.declared.st_type.StType.TheVariants as type
use Rattle.st_types.specs.Range.{Fits}
use Rattle.st_tree.specs.declared.expression.Root.{Root}
use Rattle.st_tree.specs.declared.program.Note.{Note}
use Rattle.st_tree.specs.Duration.{milliseconds}
use Rattle.st_tree.specs.Expression.{Expression, Int, Typed, Time, True, False, Null, Place, Call, Enumerator, Ref, Now, Paren, Not, Negate, Chain, Expressions, no_expressions, expression_then, Selector, Field, Index, Selectors, no_selectors, selector_then, Positional, Input, Output, Arguments, no_arguments, argument_then, Tails, no_tails, tail_then}
use Rattle.st_tree.specs.Expression as tree
use Rattle.st_tree.specs.Number.{number_of}
use Rattle.st_values.specs.Initial.{constant}
use Rattle.st_values.specs.Program.{Parameter, Routine, Program}
use Rattle.st_meaning.specs.Operation.{literal_value}
use Rattle.st_meaning.specs.Place.{root_note}
use Rattle.st_meaning.specs.Call.{callee_of, parameter_named, next_parameter, behind_next}
use Rattle.st_meaning.specs.Expression.{selector_note}
use Rattle.st_meaning.specs.st_frame.Use.{called_of, called_parameters, last_kind}
use Rattle.st_meaning.specs.st_frame.Promise.Types.{NumberIs, IsElementary, IsBool, IsHeld}
use Rattle.st_meaning.specs.st_frame.Promise.Names.{Scope, RootIs}
use Rattle.st_meaning.specs.st_frame.Promise.Places.{PartIs, LastIs, TargetIs, ElementIs, NamedIs}
use Rattle.st_meaning.specs.st_frame.Promise.Operators.{OperationIs, NegatedIs}
use Rattle.st_meaning.specs.st_frame.Promise.Calls.{kind, Suits, Leaves, MayTake, MayLeave, GivenOnce, CallIs, CallResultIs, ConversionIs}

module _ (p : Program) (g : Scope) where
  abbrev mutual
    -- ---- what stands behind a name

    pub AlongIs : Selectors Note → StType → Type 0
    AlongIs no_selectors t = Unit {0}
    AlongIs (selector_then s ss) t = SelectorIs s t × AlongIs ss (selector_note s).kind

    pub SelectorIs : Selector Note → StType → Type 0
    SelectorIs (Field a name) t = PartIs p t a.target a.kind
    SelectorIs (Index a es) t = IndexIs es t a.kind
    SelectorIs (tree.Target a) t = TargetIs t a.kind

    pub IndexIs : Expressions Note → StType → StType → Type 0
    IndexIs no_expressions t u = t ≡ u
    IndexIs (expression_then e es) t u = ExpressionIs e × IsElementary (kind e) × ((w : StType) × ElementIs (out-StType t) w × IndexIs es w u)

    -- a place, or one with a method's name behind it
    pub CalledAlong : Selectors Note → StType → Type 0
    CalledAlong no_selectors t = Unit {0}
    CalledAlong (selector_then (Field a name) no_selectors) t = LastIs p t a.target a.kind
    CalledAlong (selector_then s ss) t = SelectorIs s t × CalledAlong ss (selector_note s).kind

    -- ---- expressions

    pub ExpressionIs : Expression Note → Type 0
    ExpressionIs (Int a digits) = (e : Elem) × (a.kind ≡ type.Elementary e) × Fits e (pos (number_of digits))
    ExpressionIs (Typed a k literal) = (a.kind ≡ type.Elementary k) × Fits k (literal_value literal)
    ExpressionIs (Time a text) = (a.kind ≡ type.Elementary elem.Time) × Fits elem.Time (pos (milliseconds text))
    ExpressionIs (True a) = IsBool a.kind
    ExpressionIs (False a) = IsBool a.kind
    ExpressionIs (Null a) = IsHeld a.kind
    ExpressionIs (Place a r ss) = NamedIs p a.target a.kind (RootIs p g r × AlongIs ss (root_note r).kind × (last_kind (root_note r).kind ss ≡ a.kind))
    ExpressionIs (Call a r ss xs) =
        let ps = called_parameters p (called_of r ss) in
        ConversionIs (callee_of r ss) a.kind
        × CallIs p g (callee_of r ss) (OperandIs xs) (RootIs p g r × CalledAlong ss (root_note r).kind) (last_kind (root_note r).kind ss) (called_of r ss) (CallResultIs (callee_of r ss) a.kind (λ x. ArgumentsBy (Suits p x) (Leaves p x) ps ps xs)) (ArgumentsBy MayTake MayLeave ps ps xs × GivenOnce ps xs)
    ExpressionIs (Enumerator a t b name) = NumberIs p a.kind (constant a.target)
    ExpressionIs (Ref a r ss) = RootIs p g r × AlongIs ss (root_note r).kind × ((c : ℕ) × (last_kind (root_note r).kind ss ≡ type.Instance c) × (a.kind ≡ type.Reference c))
    ExpressionIs (Now a) = a.kind ≡ type.Elementary elem.Time
    ExpressionIs (Paren a e) = ExpressionIs e × (kind e ≡ a.kind)
    ExpressionIs (Not a e) = ExpressionIs e × (kind e ≡ a.kind) × IsElementary a.kind
    ExpressionIs (Negate a e) = NegatedIs a e (ExpressionIs e × (kind e ≡ a.kind) × IsElementary a.kind)
    ExpressionIs (Chain a e ts) = ExpressionIs e × TailsAre (kind e) ts a.kind

    pub TailsAre : StType → Tails Note → StType → Type 0
    TailsAre t no_tails w = t ≡ w
    TailsAre t (tail_then a o e ts) w = ExpressionIs e × OperationIs p o t (kind e) a.kind × TailsAre a.kind ts w

    -- ---- arguments

    -- what a conversion converts
    pub OperandIs : Arguments Note → Type 0
    OperandIs (argument_then (Positional e) xs) = ExpressionIs e × IsElementary (kind e)
    OperandIs _ = ⊥

    -- each argument is right, and so is what it gives, or what it takes of an output; `left` are the parameters of the arguments without a
    -- name that are still to come
    pub ArgumentsBy : (Option Parameter → Expression Note → Type 0) → (Option Parameter → StType → Type 0) → List Parameter → List Parameter → Arguments Note → Type 0
    ArgumentsBy gives leaves ps left no_arguments = Unit {0}
    ArgumentsBy gives leaves ps left (argument_then (Positional e) xs) = ExpressionIs e × gives (next_parameter left) e × ArgumentsBy gives leaves ps (behind_next left) xs
    ArgumentsBy gives leaves ps left (argument_then (Input a name e) xs) = ExpressionIs e × gives (parameter_named ps a) e × ArgumentsBy gives leaves ps left xs
    ArgumentsBy gives leaves ps left (argument_then (Output a name b r ss) xs) =
        RootIs p g r × AlongIs ss (root_note r).kind × leaves (parameter_named ps a) (last_kind (root_note r).kind ss) × ArgumentsBy gives leaves ps left xs

  -- by the variables of a routine that may be entered
  abbrev pub ArgumentsAre : Routine → List Parameter → List Parameter → Arguments Note → Type 0
  ArgumentsAre x ps left xs = ArgumentsBy (Suits p x) (Leaves p x) ps left xs

  -- by what is declared alone
  abbrev pub ArgumentsFit : List Parameter → List Parameter → Arguments Note → Type 0
  ArgumentsFit ps left xs = ArgumentsBy MayTake MayLeave ps left xs

  -- a place of this type
  abbrev pub PlaceIs : Root Note → Selectors Note → StType → Type 0
  PlaceIs r ss t = RootIs p g r × AlongIs ss (root_note r).kind × (last_kind (root_note r).kind ss ≡ t)
