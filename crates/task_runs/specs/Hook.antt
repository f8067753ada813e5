-- What a hook is given, and what a run of it is in the program.
use Rattle.std.specs.Prelude.{Bool, List, [], ◌∷◌, length, Some, take}
use Rattle.st_tree.specs.declared.path.Path.{Path}
use Rattle.st_values.specs.Program.{Routine, Program}
use Rattle.st_meaning.specs.State.{Frame, Run, ◌>>=◌, spend}
use Rattle.st_meaning.specs.Enter.{enter, most_calls}
use Rattle.st_change.specs.Hook.{given_flags}

-- the inputs of a hook begin with these flags
abbrev pub flags_of : Routine → Bool → Bool → List Bool
flags_of x first second = take (length x.parameters) (first ∷ (second ∷ []))

-- what a hook does: a tick, and the call
abbrev pub hook_run : Program → Routine → Path → List Bool → Run Frame
hook_run p x y flags = spend >>= λ _. enter p most_calls x (Some y) (given_flags x.parameters flags)
