use Rattle.std.proofs.Common.{sym}
use Rattle.st_rules.proofs.SignatureLaws.{other_lengths, two_then, two_else}
use Rattle.st_rules.proofs.signature.has_init_inputs.Goals as goal

pub returns-then-parameters-ne2 : goal.returns-then-parameters-ne2
returns-then-parameters-ne2 g c = sym (other_lengths g.V.PartialEq.eq c.args.parameters.now _ c.if-parameters-ne2.true)

pub returns-then-retains : goal.returns-then-retains
returns-then-retains g c =
    two_then g.V.PartialEq.eq c.args.parameters.now c.index-parameters-0.result c.index-parameters-1.result _ _ _ _ c.if-parameters-ne2.false c.index-parameters-0.is c.index-parameters-1.is
    c.is_hook_input-retains.ensures c.is_hook_input-copies.ensures c.if-retains.true

pub returns-else-retains : goal.returns-else-retains
returns-else-retains g c =
    two_else g.V.PartialEq.eq c.args.parameters.now c.index-parameters-0.result c.index-parameters-1.result _ _ _ c.if-parameters-ne2.false c.index-parameters-0.is c.index-parameters-1.is
    c.is_hook_input-retains.ensures c.if-retains.false
