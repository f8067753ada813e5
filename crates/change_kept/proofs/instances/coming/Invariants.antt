use Rattle.std.specs.Prelude.{not}
use Rattle.st_change.specs.Counterpart.{kept}
use Rattle.st_values.specs.View.{program_of}
use Rattle.change_kept.specs.declared.instances.Owner.TheVariants as owner
use Rattle.change_kept.proofs.InstanceLaws.{RegionsLeft}
use Rattle.change_kept.proofs.instances.coming.Given as goal

abbrev pub invariant-loop-r : goal.invariant-loop-r
invariant-loop-r l = RegionsLeft (program_of l.c.new.program.now) (λ r. not (kept (program_of l.c.old.program.now) (program_of l.c.new.program.now) r)) owner.Last l.r l.found.items
