use Rattle.change_images.specs.Apply.{plan_of}
use Rattle.change_images.proofs.Steps.{CarriedBelow}
use Rattle.change_images.proofs.carrying.carry_regions.Given as goal

abbrev pub invariant-loop-region : goal.invariant-loop-region
invariant-loop-region g l = CarriedBelow (g.R.Relocates.by l.relocation) l.olds (plan_of l.plan) l.initial.news l.region l.news
