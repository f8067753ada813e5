-- What lexemes may follow one another, without their trees: a form for each rule of the grammar, and one machine for all of them, over
-- a stack of the forms that are still wanted, from the top. One terminal tells which way a form goes.
use Rattle.std.specs.Prelude.{◌≡◌, suc, Bool, true, false, ◌&&◌, ◌||◌, List, [], ◌∷◌, Option, Some, None, is_some, length}
use Rattle.st_tree.specs.declared.terminal.Terminal.{Terminal}
use Rattle.st_tree.specs.Grammar.{Lexeme}
use Rattle.st_parser_expr.specs.Private.Machine.{Ending}
use Rattle.st_parser_stmt.specs.Private.Machine as s
use Rattle.st_parser_stmt.specs.Private.Numbers.{same_terminal}

pub data Form : Type 0 where
  -- this terminal
  one : Terminal → Form
  -- one of these terminals, as this one is
  one_of : (S : Terminal → Bool) → (s : Terminal) → S s ≡ true → Form
  -- the first, and behind it the second
  both : Form → Form → Form
  -- this terminal where it comes
  may : Terminal → Form
  -- the form where it begins
  option : Form → Form
  -- the form as often as it begins
  several : Form → Form
  -- the first, which takes some lexeme, where it begins, else the second
  either : Form → Form → Form
  -- what the machine of statements and initial values wants
  inside : s.State → Form

abbrev pub State : Type 0
State = List Form

-- it may take nothing
abbrev pub nullable : Form → Bool
nullable (one s) = false
nullable (one_of S s p) = false
nullable (both a b) = nullable a && nullable b
nullable (may s) = true
nullable (option a) = true
nullable (several a) = true
nullable (either a b) = nullable b
nullable (inside k) = s.accepts k

-- whether it may begin with the terminal
abbrev pub starts : Form → Terminal → Bool
starts (one s) t = same_terminal s t
starts (one_of S s p) t = S t
starts (both a b) t = starts a t || (nullable a && starts b t)
starts (may s) t = same_terminal s t
starts (option a) t = starts a t
starts (several a) t = starts a t
starts (either a b) t = starts a t || starts b t
starts (inside k) t = is_some (s.advance k t)

abbrev pub choose : Bool → Option State → Option State → Option State
choose true o other = o
choose false o other = other

abbrev pub on_terminal : Bool → State → Option State
on_terminal true K = Some K
on_terminal false K = None

-- the machine of statements goes on, or gives way where it wants nothing more
abbrev pub on_inside : Option s.State → Bool → State → Option State → Option State
on_inside (Some k) b K other = Some (inside k ∷ K)
on_inside None true K other = other
on_inside None false K other = None

-- what is wanted behind the terminal where the form is wanted and then K; the last argument where the form gives way
abbrev pub step : Form → Terminal → State → Option State → Option State
step (one s) t K other = on_terminal (same_terminal s t) K
step (one_of S s p) t K other = on_terminal (S t) K
step (both a b) t K other = step a t (b ∷ K) (step b t K other)
step (may s) t K other = choose (same_terminal s t) (Some K) other
step (option a) t K other = choose (starts a t) (step a t K other) other
step (several a) t K other = choose (starts a t) (step a t (several a ∷ K) other) other
step (either a b) t K other = choose (starts a t) (step a t K None) (step b t K other)
step (inside k) t K other = on_inside (s.advance k t) (s.accepts k) K other

-- what is wanted behind the terminal, or none where it may not come
abbrev pub advance : State → Terminal → Option State
advance [] t = None
advance (a ∷ K) t = step a t K (advance K t)

-- nothing more is wanted
abbrev pub accepts : State → Bool
accepts [] = true
accepts (a ∷ K) = nullable a && accepts K

abbrev pub go_on : Option State → (State → Ending) → Ending → Ending
go_on None f ending = ending
go_on (Some K) f ending = f K

-- whether nothing more is wanted at the first lexeme that may not come, and how many are left from there
abbrev pub machine : State → List Lexeme → Ending
machine K [] = (accepts K, 0)
machine K (t ∷ ts) = go_on (advance K t.terminal) (λ K'. machine K' ts) (accepts K, suc (length ts))
