use Rattle.std.proofs.Common.{◌≡◌, sym, subst, ap}
use Rattle.change_images.specs.Apply.{plan_of, carried_at, source_of, Lies}
use Rattle.change_images.proofs.Steps.{nothing_at}
use Rattle.change_images.proofs.carrying.carry_step.Goals as goal

pub carry_region-requires-clause-lies : goal.carry_region-requires-clause-lies
carry_region-requires-clause-lies g c = subst (Lies c.args.olds.now c.args.news.now c.args.region) (sym c.in-Some.ensures) c.requires.lies

pub returns-in-None : goal.returns-in-None
returns-in-None g c = nothing_at (g.R.Relocates.by c.args.relocation.now) c.args.olds.now c.args.news.now c.args.region _ c.in-None.ensures c.requires.region
