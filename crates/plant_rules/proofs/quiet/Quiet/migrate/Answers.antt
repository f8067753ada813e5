use Rattle.std.proofs.Common.{subst, sym}
use Rattle.plant_rules.specs.Meaning.{Whole}
use Rattle.plant_rules.proofs.quiet.Quiet.migrate.Goals as goal

pub apply-requires-clause-whole : goal.apply-requires-clause-whole
apply-requires-clause-whole g c =
    subst (λ v. Whole (g.P.Controlled.meaning.fit v) (g.P.Controlled.meaning.region_total v) c.args.self.regions) (sym c.deref.ensures) c.requires.whole
