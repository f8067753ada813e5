use Rattle.st_values.specs.View.{program_of}
use Rattle.reference_journal.proofs.LoadLaws.{Firsts}
use Rattle.reference_journal.proofs.loading.footprints_of.Given as goal

abbrev pub invariant-loop-t : goal.invariant-loop-t
invariant-loop-t l = Firsts (program_of l.program) l.all.items l.t
