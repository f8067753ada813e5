use Rattle.std.proofs.Common.{◌+◌, ◌*◌, length}
use Rattle.st_parser_stmt.proofs.InitialRules.{FieldsSoFar, PartsSoFar}
use Rattle.st_parser_stmt.proofs.initial.+initial.Given as goal

abbrev pub decreases-initial_value : goal.decreases-initial_value
decreases-initial_value l = 16 * length l.tokens.now + 10

abbrev pub decreases-fields : goal.decreases-fields
decreases-fields l = 16 * length l.tokens.now + 5

abbrev pub decreases-field : goal.decreases-field
decreases-field l = 16 * length l.tokens.now + 14

abbrev pub decreases-array : goal.decreases-array
decreases-array l = 16 * length l.tokens.now + 5

abbrev pub decreases-part : goal.decreases-part
decreases-part l = 16 * length l.tokens.now + 14

abbrev pub invariant-fields-loop-found : goal.invariant-fields-loop-found
invariant-fields-loop-found l = FieldsSoFar l.found l.initial.tokens l.tokens

abbrev pub decreases-fields-loop-found : goal.decreases-fields-loop-found
decreases-fields-loop-found l = length l.tokens

abbrev pub invariant-array-loop-found : goal.invariant-array-loop-found
invariant-array-loop-found l = PartsSoFar l.found l.initial.tokens l.tokens

abbrev pub decreases-array-loop-found : goal.decreases-array-loop-found
decreases-array-loop-found l = length l.tokens
