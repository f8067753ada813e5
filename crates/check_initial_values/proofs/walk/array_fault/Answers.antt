use Rattle.st_tree.specs.Initial.{parts_of}
use Rattle.st_unit_rules.specs.Initials.{list_of_no_array, more_values_than_elements, count_parts}
use Rattle.check_initial_values.specs.Lent.{lent}
use Rattle.check_initial_values.proofs.Parts.{joined}
use Rattle.check_initial_values.proofs.walk.array_fault.Goals as goal

pub returns : goal.returns
returns c =
    joined _ _ _ (list_of_no_array c.args.line (lent c.args.kind)) (more_values_than_elements c.args.line (lent c.args.kind) (count_parts (parts_of c.args.parts.now))) c.earlier.ensures c.no_array_fault.ensures
    (c.in_ok-of_count.ensures _ c.count_parts.ensures)
