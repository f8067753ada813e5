use Rattle.std.proofs.Common.{◌≡◌, suc, List, length, subst}
use Rattle.check_limits.specs.declared.type_sizes.levels.Level.{Level}
use Rattle.check_limits.specs.type_sizes.Levels.{IsLevel, AreLevels, AreChainsOf}
use Rattle.check_limits.proofs.type_sizes.RoundLaws.{levels_next}
use Rattle.check_limits.proofs.type_sizes.sizes.levels_of.Goals as goal

pub loop-step-preserved : goal.loop-step-preserved
loop-step-preserved c =
    levels_next c.args.names.now c.args.chains.now c.loop-step.levels.items c.push.new.self.items c.loop-step._step c.in_ok-level.level c.in_ok-push.ensures.items
    (λ s. subst (λ (ls : List Level). AreLevels s ls → s.names ≡ c.args.names.now → AreChainsOf s c.args.chains.now → IsLevel s (suc (length ls)) c.in_ok-level.level) c.deref.ensures.value (λ a q h. c.in_ok-level.ensures s a q h))
    c.loop-step.invariant
