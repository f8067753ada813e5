use Rattle.std.proofs.Common.{◌≤◌, sym, subst, length}
use Rattle.plant_core.proofs.CauseLaws.{at_once, misses_of, early_of, idle_of}
use Rattle.plant_core.proofs.hub.Core.place_once.Goals as goal

pub early-requires : goal.early-requires
early-requires g c =
    record { from = c.requires.from; to = subst (λ z. c.args.play ≤ length z.script.plays) (sym c.self.view_is) c.requires.to }

pub returns-in-None : goal.returns-in-None
returns-in-None g c =
    let k = at_once _ _ _ _ _ c.self.view_is c.self.invariant in
    record { idle-is = idle_of _ _ _ _ _ k c.requires.once c.if-is_done.ensures; none-waits = λ q w. c.in-None.ensures q (misses_of _ _ _ _ _ _ k w) }

pub returns-in-Some : goal.returns-in-Some
returns-in-Some g c =
    let k = at_once _ _ _ _ _ c.self.view_is c.self.invariant in
    early_of _ _ _ _ _ _ k (idle_of _ _ _ _ _ k c.requires.once c.if-is_done.ensures) c.in-Some.ensures
