use Rattle.std.proofs.Common.{◌≡◌, length}
use Rattle.st_tree.specs.Initial.{fields_of}
use Rattle.st_unit_rules.specs.Worth.{given_named}
use Rattle.default_values.proofs.given_values.given.given_for.Given as goal

abbrev pub invariant-fields : goal.invariant-fields
invariant-fields l = given_named l.name (fields_of l.left) ≡ given_named l.name (fields_of l.fields)

abbrev pub decreases-fields : goal.decreases-fields
decreases-fields l = length l.left
