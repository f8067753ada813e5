use Rattle.std.proofs.Common.{sym, subst}
use Rattle.plant_core.specs.Hub.{HasShortInputs}
use Rattle.plant_core.proofs.hub.Core.new.Goals as goal

pub begun_with-requires-clause-inputs : goal.begun_with-requires-clause-inputs
begun_with-requires-clause-inputs g c =
    subst (λ z. HasShortInputs z.plays) (sym c.in_ok-ledger.ensures.script-is) c.requires.inputs
