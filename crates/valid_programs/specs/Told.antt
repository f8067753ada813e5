-- When two plans give a program the same code.
use Rattle.std.specs.Prelude.{◌≡◌, ℕ, ℤ, true, List, Option, Some, None, slice_get}
use Rattle.st_types.specs.declared.st_type.StType.{StType}
use Rattle.st_types.specs.declared.st_type.StType.TheVariants as type
use Rattle.st_tree.specs.declared.expression.Root.{Root}
use Rattle.st_tree.specs.declared.program.Note.{Note}
use Rattle.st_tree.specs.Expression.{Expression, Int, Typed, Time, True, False, Null, Place, Call, Enumerator, Ref, Now, Paren, Not, Negate, Chain, Expressions, no_expressions, expression_then, Selector, Field, Index, Selectors, no_selectors, selector_then, Positional, Input, Output, Arguments, no_arguments, argument_then, Tails, no_tails, tail_then}
use Rattle.st_tree.specs.Expression as tree
use Rattle.st_tree.specs.Statement.{Statement, Empty, Assign, Attempt, Exit, Continue, Return, If, Case, For, While, Repeat, Statements, no_statements, statement_then, Branches, no_branches, branch_then, Cases, no_cases, case_then, Otherwise, Nothing, Else}
use Rattle.st_tree.specs.Statement as effect
use Rattle.st_values.specs.Program.{Variable, Routine, Program, class_variables, lookup, body_of}
use Rattle.st_values.specs.Initial.{note_of}
use Rattle.st_meaning.specs.Call.{Callee, a_conversion, callee_of}
use Rattle.st_meaning.specs.Expression.{selector_note}
use Rattle.st_meaning.specs.Place.{root_note}
use Rattle.st_meaning.specs.st_frame.Use.{Called, called_of}
use Rattle.st_meaning.specs.st_frame.Promise.Calls.{IsDeclared, IsFound}
use Rattle.code_rules.specs.Places.{is_large}
use Rattle.code_rules.specs.Plan.{Plan}

-- Two plans are alike: in the sizes of the types of which K holds, in offsets, and in what calls may name.
pub record Alike (p : Program) (K : StType → Type 0) (w v : Plan) : Type 0 where
  pub sizes : (t : StType) → K t → w.size_of t ≡ v.size_of t
  pub instances : (c : ℕ) → w.size_of (type.Instance c) ≡ v.size_of (type.Instance c)
  pub fields : (t : StType) (k : ℕ) → w.field_of t k ≡ v.field_of t k
  pub kinds : (t : StType) (k : ℕ) → w.kind_of t k ≡ v.kind_of t k
  pub class : w.class ≡ v.class
  pub locals : w.locals ≡ v.locals
  pub parameters : (k : Option Called) → w.parameters k ≡ v.parameters k
  pub functions : (k : ℕ) (x : Routine) → slice_get p.functions k ≡ Some x → w.tables.function_routine k ≡ v.tables.function_routine k
  pub slots : (d : ℕ) (name : List ℕ) → IsDeclared p (type.Instance d) name → w.tables.method_slot d name ≡ v.tables.method_slot d name
  pub body_slot : w.tables.body_slot ≡ v.tables.body_slot
  pub numbers : (i : ℕ) (name : List ℕ) → IsDeclared p (type.Interface i) name → w.tables.method_number i name ≡ v.tables.method_number i name
  pub methods : (d : ℕ) (name : List ℕ) (x : Routine) → lookup p d name ≡ Some x → w.tables.method_routine d name ≡ v.tables.method_routine d name
  pub bodies : (d : ℕ) (x : Routine) → body_of p d ≡ Some x → w.tables.body_routine d ≡ v.tables.body_routine d
  pub targets : (t : StType) → w.tables.conversion_target t ≡ v.tables.conversion_target t

-- K holds of the type of each variable of an instance, and of those of the elements of arrays
pub record Covers (p : Program) (K : StType → Type 0) : Type 0 where
  pub variables : (c k : ℕ) (x : Variable) → slice_get (class_variables p c) k ≡ Some x → K x.kind
  pub elements : (low high : ℤ) (t : StType) → K (type.Array low high t) → K t

-- of a type whose values no word holds
abbrev pub IfLarge : (StType → Type 0) → StType → Type 0
IfLarge K t = is_large t ≡ true → K t

-- what is called is there
abbrev pub IsFoundIn : Program → Option Called → Type 0
IsFoundIn p None = ⊥
IsFoundIn p (Some k) = IsFound p k

abbrev pub CallCovered : Program → Callee → Option Called → Type 0
CallCovered p a_conversion k = Unit {0}
CallCovered p c k = IsFoundIn p k

-- ---- K holds of the types of a tree, and what it calls is there

module _ (p : Program) (K : StType → Type 0) where
  abbrev mutual
    pub WayCovered : Selectors Note → Type 0
    WayCovered no_selectors = Unit {0}
    WayCovered (selector_then s ss) = IfLarge K (selector_note s).kind × StepCovered s × WayCovered ss

    pub StepCovered : Selector Note → Type 0
    StepCovered (Field a name) = Unit {0}
    StepCovered (Index a es) = AreCovered es
    StepCovered (tree.Target a) = Unit {0}

    pub AreCovered : Expressions Note → Type 0
    AreCovered no_expressions = Unit {0}
    AreCovered (expression_then e es) = (IfLarge K (note_of e).kind × PartsCovered e) × AreCovered es

    pub PartsCovered : Expression Note → Type 0
    PartsCovered (Int a digits) = Unit {0}
    PartsCovered (Typed a k literal) = Unit {0}
    PartsCovered (Time a text) = Unit {0}
    PartsCovered (True a) = Unit {0}
    PartsCovered (False a) = Unit {0}
    PartsCovered (Null a) = Unit {0}
    PartsCovered (Place a r ss) = (IfLarge K (root_note r).kind × WayCovered ss)
    PartsCovered (Call a r ss xs) = CallCovered p (callee_of r ss) (called_of r ss) × (IfLarge K (root_note r).kind × WayCovered ss) × GivenCovered xs
    PartsCovered (Enumerator a t b name) = Unit {0}
    PartsCovered (Ref a r ss) = (IfLarge K (root_note r).kind × WayCovered ss)
    PartsCovered (Now a) = Unit {0}
    PartsCovered (Paren a e) = (IfLarge K (note_of e).kind × PartsCovered e)
    PartsCovered (Not a e) = (IfLarge K (note_of e).kind × PartsCovered e)
    PartsCovered (Negate a e) = (IfLarge K (note_of e).kind × PartsCovered e)
    PartsCovered (Chain a e ts) = (IfLarge K (note_of e).kind × PartsCovered e) × TailsCovered ts

    pub TailsCovered : Tails Note → Type 0
    TailsCovered no_tails = Unit {0}
    TailsCovered (tail_then a o e ts) = (IfLarge K (note_of e).kind × PartsCovered e) × TailsCovered ts

    pub GivenCovered : Arguments Note → Type 0
    GivenCovered no_arguments = Unit {0}
    GivenCovered (argument_then (Positional e) xs) = (IfLarge K (note_of e).kind × PartsCovered e) × GivenCovered xs
    GivenCovered (argument_then (Input a name e) xs) = (IfLarge K (note_of e).kind × PartsCovered e) × GivenCovered xs
    GivenCovered (argument_then (Output a name b r ss) xs) = (IfLarge K (root_note r).kind × WayCovered ss) × GivenCovered xs

  abbrev pub IsCovered : Expression Note → Type 0
  IsCovered e = IfLarge K (note_of e).kind × PartsCovered e

  abbrev pub PlaceCovered : Root Note → Selectors Note → Type 0
  PlaceCovered r ss = IfLarge K (root_note r).kind × WayCovered ss

  abbrev pub ByCovered : Option (Expression Note) → Type 0
  ByCovered None = Unit {0}
  ByCovered (Some e) = IsCovered e

  abbrev mutual
    pub EffectCovered : Statement Note → Type 0
    EffectCovered (Empty line) = Unit {0}
    EffectCovered (Assign line a r ss e) = IfLarge K a.kind × PlaceCovered r ss × IsCovered e
    EffectCovered (Attempt line a r ss e) = PlaceCovered r ss × IsCovered e
    EffectCovered (effect.Call line a r ss xs) = CallCovered p (callee_of r ss) (called_of r ss) × PlaceCovered r ss × GivenCovered xs
    EffectCovered (Exit line) = Unit {0}
    EffectCovered (Continue line) = Unit {0}
    EffectCovered (Return line) = Unit {0}
    EffectCovered (If line branches otherwise) = BranchesCovered branches × OtherwiseCovered otherwise
    EffectCovered (Case line e cases otherwise) = IsCovered e × CasesCovered cases × OtherwiseCovered otherwise
    EffectCovered (For line a name from end by body) = IsCovered from × IsCovered end × ByCovered by × EffectsCovered body
    EffectCovered (While line e body) = IsCovered e × EffectsCovered body
    EffectCovered (Repeat line body e) = EffectsCovered body × IsCovered e

    pub EffectsCovered : Statements Note → Type 0
    EffectsCovered no_statements = Unit {0}
    EffectsCovered (statement_then s ss) = EffectCovered s × EffectsCovered ss

    pub BranchesCovered : Branches Note → Type 0
    BranchesCovered no_branches = Unit {0}
    BranchesCovered (branch_then e body bs) = IsCovered e × EffectsCovered body × BranchesCovered bs

    pub CasesCovered : Cases Note → Type 0
    CasesCovered no_cases = Unit {0}
    CasesCovered (case_then labels body cs) = EffectsCovered body × CasesCovered cs

    pub OtherwiseCovered : Otherwise Note → Type 0
    OtherwiseCovered Nothing = Unit {0}
    OtherwiseCovered (Else body) = EffectsCovered body

  -- of a routine: K holds of the types of its locals
  pub record RoutineCovered (r : Routine) : Type 0 where
    pub locals : (n : ℕ) (x : Variable) → slice_get r.locals n ≡ Some x → K x.kind
    pub body : EffectsCovered r.body
