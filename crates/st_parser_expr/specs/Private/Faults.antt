-- The answers where nesting is not counted.
use Rattle.std.specs.Prelude.{ℕ, List, nat_lt, if◌then◌else◌}
use Rattle.st_tree.specs.Grammar.{Lexeme}
use Rattle.st_parser_expr.specs.declared.stop.Fault.{Fault}
use Rattle.st_parser_expr.specs.declared.stop.Fault.TheVariants as fault
use Rattle.st_parser_expr.specs.declared.stop.ParseError.{ParseError}
use Rattle.st_parser_expr.specs.declared.stop.ParseError.TheVariants.{Syntax, TooDeep, NoMemory}
use Rattle.st_parser_expr.specs.Parse.{Refused}

abbrev pub HasFault : List Lexeme → ℕ → Fault → Type 0
HasFault ts start (fault.Syntax p) = Refused ts start p
HasFault ts start fault.NoMemory = Unit {0}

abbrev pub error_of : Fault → ParseError
error_of (fault.Syntax p) = Syntax p
error_of fault.NoMemory = NoMemory

-- where the lexemes up to and with q were read
abbrev pub deep_error_of : Fault → ℕ → ParseError
deep_error_of (fault.Syntax p) q = if nat_lt q p then TooDeep q else Syntax p
deep_error_of fault.NoMemory q = NoMemory
