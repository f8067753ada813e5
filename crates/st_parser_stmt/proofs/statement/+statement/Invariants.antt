use Rattle.std.proofs.Common.{◌+◌, ◌*◌, length}
use Rattle.st_parser_stmt.proofs.Rules.{BranchesSoFar, CasesSoFar, CaseBodySoFar, BodySoFar}
use Rattle.st_parser_stmt.proofs.statement.+statement.Given as goal

abbrev pub decreases-statement : goal.decreases-statement
decreases-statement l = 16 * length l.tokens.now + 10

abbrev pub decreases-conditional : goal.decreases-conditional
decreases-conditional l = 16 * length l.tokens.now + 5

abbrev pub decreases-branches : goal.decreases-branches
decreases-branches l = 16 * length l.tokens.now + 13

abbrev pub decreases-otherwise : goal.decreases-otherwise
decreases-otherwise l = 16 * length l.tokens.now + 14

abbrev pub decreases-selection : goal.decreases-selection
decreases-selection l = 16 * length l.tokens.now + 5

abbrev pub decreases-cases : goal.decreases-cases
decreases-cases l = 16 * length l.tokens.now + 13

abbrev pub decreases-case_body : goal.decreases-case_body
decreases-case_body l = 16 * length l.tokens.now + 12

abbrev pub decreases-counting : goal.decreases-counting
decreases-counting l = 16 * length l.tokens.now + 5

abbrev pub decreases-looping : goal.decreases-looping
decreases-looping l = 16 * length l.tokens.now + 5

abbrev pub decreases-repeating : goal.decreases-repeating
decreases-repeating l = 16 * length l.tokens.now + 5

abbrev pub decreases-body : goal.decreases-body
decreases-body l = 16 * length l.tokens.now + 12

abbrev pub decreases-body_until : goal.decreases-body_until
decreases-body_until l = 16 * length l.tokens.now + 13

abbrev pub invariant-body-loop-alloc : goal.invariant-body-loop-alloc
invariant-body-loop-alloc l = BodySoFar l.found l.fn.tokens l.tokens

abbrev pub decreases-body-loop-alloc : goal.decreases-body-loop-alloc
decreases-body-loop-alloc l = length l.tokens

abbrev pub invariant-branches-loop-found : goal.invariant-branches-loop-found
invariant-branches-loop-found l = BranchesSoFar l.found l.fn.tokens l.tokens

abbrev pub decreases-branches-loop-found : goal.decreases-branches-loop-found
decreases-branches-loop-found l = length l.tokens

abbrev pub invariant-case_body-loop-alloc : goal.invariant-case_body-loop-alloc
invariant-case_body-loop-alloc l = CaseBodySoFar l.found l.fn.tokens l.tokens

abbrev pub decreases-case_body-loop-alloc : goal.decreases-case_body-loop-alloc
decreases-case_body-loop-alloc l = length l.tokens

abbrev pub invariant-cases-loop-found : goal.invariant-cases-loop-found
invariant-cases-loop-found l = CasesSoFar l.found l.fn.tokens l.tokens

abbrev pub decreases-cases-loop-found : goal.decreases-cases-loop-found
decreases-cases-loop-found l = length l.tokens
