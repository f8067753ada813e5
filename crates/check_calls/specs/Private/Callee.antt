-- Where a selector leads, on the way to what is called.
use Rattle.std.specs.Prelude.{ℕ}
use Rattle.st_tree.specs.declared.expression.Root.{Root}
use Rattle.st_tree.specs.Expression.{Selectors}
use Rattle.st_rules.specs.Scope.{Scope}
use Rattle.st_rules.specs.Calls as calls
use Rattle.check_places.specs.Standing.{standing}
use Rattle.check_calls.specs.declared.callee.Leads.{Leads}
use Rattle.check_calls.specs.declared.callee.Leads.TheVariants.{On, To}
use Rattle.check_calls.specs.Callee.{called}

-- what is called where these selectors are left
abbrev pub leads : Scope → Root ℕ → Leads → Selectors ℕ → calls.Callee
leads s r (On b) ss = calls.callee_along s r (standing b) ss
leads s r (To c) ss = called c
