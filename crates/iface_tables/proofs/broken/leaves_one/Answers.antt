use Rattle.std.proofs.Common.{ℕ, List, [], sym, ap, ◌∙◌}
use Rattle.std.specs.Prelude.{not}
use Rattle.iface_tables.specs.Private.Broken as broken
use Rattle.iface_tables.proofs.TargetLaws.{any_found, any_next}
use Rattle.iface_tables.proofs.broken.leaves_one.Goals as goal

pub returns-then-not-is_met : goal.returns-then-not-is_met
returns-then-not-is_met g c =
    any_found (λ m (name : List ℕ). not (broken.is_met g.V.PartialEq.eq c.args.classes.now c.args.prototypes.now c.args.signatures.now c.args.class c.args.interface m)) c.args.names.now c.loop-method.method [] _ c.loop-method-test.true
    (ap not (sym c.is_met.ensures ∙ c.if-not-is_met.true)) c.loop-method.invariant

pub loop-method-preserved : goal.loop-method-preserved
loop-method-preserved g c =
    any_next (λ m (name : List ℕ). not (broken.is_met g.V.PartialEq.eq c.args.classes.now c.args.prototypes.now c.args.signatures.now c.args.class c.args.interface m)) c.args.names.now c.loop-method.method [] _ c.loop-method-test.true
    (ap not (sym c.is_met.ensures ∙ c.if-not-is_met.false)) c.loop-method.invariant
