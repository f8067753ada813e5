use Rattle.std.proofs.Common.{◌<◌, ◌≤◌, [], length, arith, sym, ap, ◌∙◌}
use Rattle.iface_tables.specs.Private.Broken as broken
use Rattle.iface_tables.proofs.TargetLaws.{any_found, any_next, any_none}
use Rattle.iface_tables.proofs.broken.leaves_any.Goals as goal

pub returns-then-leaves_interface : goal.returns-then-leaves_interface
returns-then-leaves_interface g c =
    let l : c.loop-interface.interface < length c.args.prototypes.now = omega (arith, c.requires, c.interface_count-count.ensures, c.loop-interface-test.true) in
    any_found (broken.leaves_interface g.V.PartialEq.eq c.args.classes.now c.args.prototypes.now c.args.signatures.now c.args.class) c.args.prototypes.now c.loop-interface.interface [] _ l
    (sym (ap (broken.leaves_interface g.V.PartialEq.eq c.args.classes.now c.args.prototypes.now c.args.signatures.now c.args.class c.loop-interface.interface) c.names_at-names.ensures) ∙ sym c.leaves_interface.ensures ∙ c.if-leaves_interface.true)
    c.loop-interface.invariant

pub loop-interface-preserved : goal.loop-interface-preserved
loop-interface-preserved g c =
    let l : c.loop-interface.interface < length c.args.prototypes.now = omega (arith, c.requires, c.interface_count-count.ensures, c.loop-interface-test.true) in
    any_next (broken.leaves_interface g.V.PartialEq.eq c.args.classes.now c.args.prototypes.now c.args.signatures.now c.args.class) c.args.prototypes.now c.loop-interface.interface [] _ l
    (sym (ap (broken.leaves_interface g.V.PartialEq.eq c.args.classes.now c.args.prototypes.now c.args.signatures.now c.args.class c.loop-interface.interface) c.names_at-names.ensures) ∙ sym c.leaves_interface.ensures ∙ c.if-leaves_interface.false)
    c.loop-interface.invariant

pub returns : goal.returns
returns g c =
    let l : length c.args.prototypes.now ≤ c.loop-interface.interface = omega (arith, c.requires, c.interface_count-count.ensures, c.loop-interface-test.false) in
    any_none (broken.leaves_interface g.V.PartialEq.eq c.args.classes.now c.args.prototypes.now c.args.signatures.now c.args.class) c.args.prototypes.now c.loop-interface.interface [] _ l c.loop-interface.invariant
