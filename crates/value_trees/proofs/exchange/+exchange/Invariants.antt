use Rattle.std.proofs.Common.{◌+◌, ◌*◌, length}
use Rattle.value_trees.proofs.exchange.+exchange.Given as goal

abbrev pub decreases-exchange_at : goal.decreases-exchange_at
decreases-exchange_at l = 3 * length l.steps.now

abbrev pub decreases-exchange_in_array : goal.decreases-exchange_in_array
decreases-exchange_in_array l = 3 * length l.rest.now + 2

abbrev pub decreases-exchange_in_members : goal.decreases-exchange_in_members
decreases-exchange_in_members l = 3 * length l.rest.now + 2

abbrev pub decreases-exchange_element : goal.decreases-exchange_element
decreases-exchange_element l = 3 * length l.rest.now + 1

abbrev pub decreases-exchange_member : goal.decreases-exchange_member
decreases-exchange_member l = 3 * length l.rest.now + 1
