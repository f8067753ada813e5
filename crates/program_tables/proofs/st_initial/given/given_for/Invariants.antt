use Rattle.program_tables.proofs.st_initial.GivenLaws.{FieldSought}
use Rattle.program_tables.proofs.st_initial.given.given_for.Given as goal

abbrev pub invariant-loop-field : goal.invariant-loop-field
invariant-loop-field l = FieldSought l.name l.fields l.field-index
