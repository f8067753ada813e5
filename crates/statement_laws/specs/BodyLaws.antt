-- Bodies that break no rule are as the meaning asks.
use Rattle.std.specs.Prelude.{◌≡◌, ℕ, []}
use Rattle.st_tree.specs.Statement.{Statements}
use Rattle.st_rules.specs.Scope.{Scope}
use Rattle.st_rules.specs.Statements.{body_faults, typed_statements}
use Rattle.st_values.specs.Program.{Program}
use Rattle.st_meaning.specs.st_frame.Promise.Names.{Scope as Around}
use Rattle.st_meaning.specs.st_frame.Promise.Statements.{StatementsAre}
use Rattle.accepted_texts.specs.formed_units.Formed.{FormedBody}
use Rattle.place_laws.specs.Agrees.{Agrees}

pub record BodyLaws : Type 0 where
  -- where the rules and the meaning agree on what names are
  pub bodies : (s : Scope) (p : Program) (g : Around) (ss : Statements ℕ) → Agrees s p g → FormedBody ss → body_faults s ss ≡ [] → StatementsAre p g (typed_statements s ss)
