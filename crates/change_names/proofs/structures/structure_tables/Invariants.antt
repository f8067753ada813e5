use Rattle.st_change.specs.From.{structure_pairs}
use Rattle.st_values.specs.View.{program_of}
use Rattle.change_names.proofs.ListLaws.{MappedTo}
use Rattle.change_names.proofs.structures.structure_tables.Given as goal

abbrev pub invariant-loop-decl : goal.invariant-loop-decl
invariant-loop-decl l = MappedTo (λ d. structure_pairs (program_of l.old.program.now) (program_of l.new.program.now) d.name.text) l.types l.decl-index l.tables.items
