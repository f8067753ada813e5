-- The command line as clap knows it.
use Rattle.std.specs.Prelude.{◌≡◌, ◌==◌, ℕ, Bool, true, false, List, [], ◌∷◌, Some, map, codes}
use Rattle.std.specs.Borrow.{Bor}
use Rattle.clap.specs.Words.{App, Rule, Text, new_app, new_rule, with_rule}
use Rattle.clap.specs.declared.builder.value_parser.ValueParser.TheVariants.{Names}

-- the word begins with `-`
abbrev pub is_flag : List ℕ → Bool
is_flag [] = false
is_flag (byte ∷ rest) = byte == 45

-- a word that has to be there, one of the names
abbrev pub name_rule : Bor (List (Bor Text)) → Rule
name_rule names =
    record (new_rule (codes "command")) { required = true; parser = Some (Names names) }

-- the program, with that word and no flag
abbrev pub bare_app : App
bare_app = record (new_app (codes "plc")) {
  top = record (new_app (codes "plc")).top { no_binary_name = true; disable_help_flag = true };
}

abbrev pub order_app : Bor (List (Bor Text)) → App
order_app names = with_rule bare_app (name_rule names)

-- it takes the names of the commands
pub record TakesOrders (app : App) : Type 0 where
  pub names : Bor (List (Bor Text))
  pub listed : map (λ name. name.now) names.now ≡ codes "check" ∷ codes "play" ∷ []
  pub shape : app ≡ order_app names
