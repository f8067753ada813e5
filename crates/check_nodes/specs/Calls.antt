-- Calls, from what is found out about their places and their arguments.
use Rattle.std.specs.Prelude.{◌≡◌, ℕ, Bool, List, map}
use Rattle.st_tree.specs.declared.expression.Root.{Root}
use Rattle.st_tree.specs.declared.program.Target.TheVariants.{Nothing}
use Rattle.st_tree.specs.Expression.{Selectors, Call, expression_of, place_of, arguments_of}
use Rattle.st_rules.specs.Faults.{least, earlier}
use Rattle.st_rules.specs.Scope.{Scope}
use Rattle.st_rules.specs.Places.{root_line, too_many_selectors}
use Rattle.st_rules.specs.Calls.{Callee, Head, call_matches, call_type, call_without_result, callee_faults}
use Rattle.st_rules.specs.Expressions.{note}
use Rattle.check_nodes.specs.declared.calls.Prepared.{Prepared}
use Rattle.check_nodes.specs.declared.found.Checked.{Checked}
use Rattle.check_nodes.specs.declared.lists.Arguments.{Arguments}
use Rattle.check_nodes.specs.declared.wholes.CheckedPlace.{CheckedPlace}
use Rattle.check_nodes.specs.Slots.{slots, used}

pub record IsPrepared (x : Prepared) (s : Scope) (line : ℕ) (on_super : Bool) (c : Callee) (hs : List Head) : Type 0 where
  pub told : x.told ≡ call_type c
  pub own : x.least ≡ least (callee_faults s line on_super c hs)
  pub without_result : x.of_result ≡ least (call_without_result line c)
  pub matches : slots x.slots.items ≡ map used (call_matches s c hs)

pub record Finishes (c : Checked) (s : Scope) (line : ℕ) (r : Root ℕ) (ss : Selectors ℕ) (call : Prepared) (place : CheckedPlace) (arguments : Arguments) : Type 0 where
  pub told : c.told ≡ call.told
  pub broken : c.least ≡ earlier (earlier (earlier (earlier place.least (least (too_many_selectors s (root_line r) ss))) call.least) arguments.least) call.of_result
  pub tree : expression_of c.tree ≡ Call (note line call.told Nothing) (place_of place.place).0 (place_of place.place).1 (arguments_of arguments.arguments)
