-- Statements: each finds what it changes and asks for, of types that serve.
use Rattle.std.specs.Prelude.{Option, Some, None}
use Rattle.st_types.specs.declared.st_type.StType.{StType}
use Rattle.st_tree.specs.declared.program.Note.{Note}
use Rattle.st_tree.specs.Expression.{Expression}
use Rattle.st_tree.specs.Statement.{Statement, Empty, Assign, Attempt, Exit, Continue, Return, If, Case, For, While, Repeat, Statements, no_statements, statement_then, Branches, no_branches, branch_then, Cases, no_cases, case_then, Otherwise, Nothing, Else}
use Rattle.st_tree.specs.Statement as effect
use Rattle.st_values.specs.Program.{Program}
use Rattle.st_meaning.specs.Place.{root_note}
use Rattle.st_meaning.specs.Call.{callee_of}
use Rattle.st_meaning.specs.st_frame.Use.{called_of, called_parameters, last_kind}
use Rattle.st_meaning.specs.st_frame.Promise.Types.{IsElementary, IsBool, IsNumeric, IsHeld, IsNamed, IsPath, IsNoInstance, Widens}
use Rattle.st_meaning.specs.st_frame.Promise.Names.{Scope, NameIs, RootIs}
use Rattle.st_meaning.specs.st_frame.Promise.Calls.{kind, GivenOnce, CallIs}
use Rattle.st_meaning.specs.st_frame.Promise.Expressions.{CalledAlong, ExpressionIs, OperandIs, ArgumentsFit, ArgumentsAre, PlaceIs}

module _ (p : Program) (g : Scope) where
  abbrev pub ConditionIs : Expression Note → Type 0
  ConditionIs e = ExpressionIs p g e × IsBool (kind e)

  abbrev pub StepIs : Option (Expression Note) → StType → Type 0
  StepIs None t = Unit {0}
  StepIs (Some e) t = ExpressionIs p g e × Widens p (kind e) t

  abbrev mutual
    pub StatementIs : Statement Note → Type 0
    StatementIs (Empty line) = Unit {0}
    StatementIs (Assign line a r ss e) = PlaceIs p g r ss a.kind × IsNoInstance a.kind × ExpressionIs p g e × Widens p (kind e) a.kind
    StatementIs (Attempt line a r ss e) = PlaceIs p g r ss a.kind × IsHeld a.kind × ExpressionIs p g e × IsPath (kind e) × IsNamed p a.kind
    StatementIs (effect.Call line a r ss xs) =
        let ps = called_parameters p (called_of r ss) in
        CallIs p g (callee_of r ss) (OperandIs p g xs) (RootIs p g r × CalledAlong p g ss (root_note r).kind) (last_kind (root_note r).kind ss) (called_of r ss) (λ x. ArgumentsAre p g x ps ps xs) (ArgumentsFit p g ps ps xs × GivenOnce ps xs)
    StatementIs (Exit line) = Unit {0}
    StatementIs (Continue line) = Unit {0}
    StatementIs (Return line) = Unit {0}
    StatementIs (If line branches otherwise) = BranchesAre branches × OtherwiseIs otherwise
    StatementIs (Case line e cases otherwise) = ExpressionIs p g e × IsNumeric (kind e) × CasesAre cases × OtherwiseIs otherwise
    StatementIs (For line a name from to by body) =
        NameIs p g a.target a.kind × IsElementary a.kind × ExpressionIs p g from × Widens p (kind from) a.kind × ExpressionIs p g to × Widens p (kind to) a.kind × StepIs by a.kind × StatementsAre body
    StatementIs (While line e body) = ConditionIs e × StatementsAre body
    StatementIs (Repeat line body e) = StatementsAre body × ConditionIs e

    pub StatementsAre : Statements Note → Type 0
    StatementsAre no_statements = Unit {0}
    StatementsAre (statement_then s ss) = StatementIs s × StatementsAre ss

    pub BranchesAre : Branches Note → Type 0
    BranchesAre no_branches = Unit {0}
    BranchesAre (branch_then e body bs) = ConditionIs e × StatementsAre body × BranchesAre bs

    pub CasesAre : Cases Note → Type 0
    CasesAre no_cases = Unit {0}
    CasesAre (case_then labels body cs) = StatementsAre body × CasesAre cs

    pub OtherwiseIs : Otherwise Note → Type 0
    OtherwiseIs Nothing = Unit {0}
    OtherwiseIs (Else body) = StatementsAre body
