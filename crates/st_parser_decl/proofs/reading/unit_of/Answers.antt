use Rattle.st_parser_decl.proofs.Stopping as s
use Rattle.st_parser_decl.proofs.reading.unit_of.Goals as goal
use Rattle.st_parser_decl.proofs.reading.unit_of.Goals.{in-Ok-whole, in-Err-whole}

pub returns-after-whole-2-clause-err : goal.returns-after-whole-2-clause-err
returns-after-whole-2-clause-err c = elim c.match-whole-2.branch [
  | in-Ok-whole w ↦ rw w.result-is (s.deep_unit c.args.lexemes.now c.in-Some.deep w.in-Ok-whole.field-0 c.in-Some.ensures.found w.in-Ok-whole.ensures.ok)
  | in-Err-whole w ↦ rw (w.result-is, w.deep_cause.ensures) (s.deep_stop c.args.lexemes.now c.in-Some.deep w.in-Err-whole.stop c.in-Some.ensures.found w.in-Err-whole.ensures.err)
]
