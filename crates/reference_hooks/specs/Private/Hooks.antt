-- Hooks one by one.
use Rattle.std.specs.Prelude.{◌≡◌, ℕ, Bool, false, List, Some}
use Rattle.plc_text.specs.Words.{same}
use Rattle.st_tree.specs.declared.declaration.Member.{Member}
use Rattle.st_tree.specs.declared.declaration.Member.TheVariants as member
use Rattle.st_tree.specs.declared.path.Path.{Path}
use Rattle.st_tree.specs.declared.program.Note.{Note}
use Rattle.st_values.specs.Program.{Routine, Program}
use Rattle.st_meaning.specs.State.{Frame, Run, ◌>>◌, spend}
use Rattle.st_meaning.specs.Enter.{enter}
use Rattle.st_change.specs.Hook.{Hook, When, at_init, at_exit, at_reinit, hook_name, given_flags}
use Rattle.run_state.specs.declared.state.Stop.{Stop}
use Rattle.run_state.specs.declared.state.Stop.TheVariants as stop
use Rattle.reference_hooks.specs.declared.hooks.Halt.{Halt}
use Rattle.reference_hooks.specs.declared.hooks.Halt.TheVariants as halt
use Rattle.reference_hooks.specs.declared.tables.When.{When as CodeWhen}
use Rattle.reference_hooks.specs.declared.tables.When.TheVariants as code

abbrev pub when_of : CodeWhen → When
when_of code.Init = at_init
when_of code.Exit = at_exit
when_of code.Reinit = at_reinit

-- whether a member is the hook
abbrev pub is_hook : When → Member Note → Bool
is_hook w (member.Method m) = same m.name.text (hook_name w)
is_hook w (member.Section s) = false

-- the hook of a class on an instance
abbrev pub hook_of : When → Path → List Bool → ℕ → Hook
hook_of w q fs c = record { path = q; class = c; when = w; flags = fs }

-- a tick, and the call, where so many calls may be open with it
abbrev pub hook_call : Program → ℕ → Routine → Path → List Bool → Run Frame
hook_call p room r q fs = spend >> enter p room r (Some q) (given_flags r.parameters fs)

-- why hooks stop, where a call of a hook of the class of this name did
abbrev pub Stops : List ℕ → Stop → Halt → Type 0
Stops name (stop.Fault f) (halt.Stopped s) = (s.class ≡ name) × (s.fault ≡ f)
Stops name stop.NoMemory (halt.Stopped s) = ⊥
Stops name x halt.NoMemory = Unit {0}
