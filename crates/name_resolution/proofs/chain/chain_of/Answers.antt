use Rattle.std.proofs.Common.{◌≡◌, ◌<◌, ℕ, Option, false, subst, sym, ◌∙◌, arith}
use Rattle.name_resolution.specs.Private.Chain.{is_held}
use Rattle.name_resolution.proofs.ChainLaws.{ClimbsOn, goes_on}
use Rattle.name_resolution.proofs.chain.chain_of.Goals as goal

pub classes-preserved : goal.classes-preserved
classes-preserved c =
    let more : 0 < c.classes.left = omega arith in
    let new : is_held c.classes.held c.in-Some.at ≡ false = cc in
    let at_class = subst (λ (n : Option ℕ). ClimbsOn c.args.bases.now c.args.class c.classes.held c.classes.chain.items c.classes.left n) c.in-Some.is c.classes.invariant in
    goes_on c.args.bases.now c.args.class c.classes.held c.classes.chain.items c.classes.left c.in-Some.at c.hold.new.held c.push.new.self.items c.base_of-next.result more new c.in_ok-hold.ensures c.in_ok-push.ensures.items c.base_of-next.ensures at_class
