use Rattle.check_limits.proofs.type_sizes.sizes.TypeSizes.build.Goals as goal

pub returns : goal.returns
returns c = λ s k q. record { long = c.in_ok-levels.ensures.long; levels = c.in_ok-levels.ensures.levels s q (c.in_ok-chains.ensures s k q) }
