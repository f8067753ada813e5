use Rattle.check_signatures.specs.unit_signatures.Private.Parameters.{AreWeighed, parameter_tells, section_parameters}
use Rattle.check_signatures.proofs.unit_signatures.AddLaws.{adds_begun, adds_next, adds_ended}
use Rattle.check_signatures.proofs.unit_signatures.ParameterLaws.{weighed_stay, parameter_stays}
use Rattle.check_signatures.proofs.unit_signatures.parameters.parameters.Goals as goal

pub loop-section-init : goal.loop-section-init
loop-section-init c = adds_begun parameter_tells (AreWeighed c.args.weighed.now) _ _ c.new-list.ensures

pub loop-section-preserved : goal.loop-section-preserved
loop-section-preserved c =
    adds_next parameter_tells (AreWeighed c.args.weighed.now) (weighed_stay c.args.weighed.now) parameter_stays (section_parameters c.args.weighed.now c.args.s.now) c.args.sections.now _ _ _ _ _ _ c.loop-section.section-index c.section-item.result c.loop-section-test.true
    c.section-item.is c.loop-section.invariant c.in_ok-add_section.ensures

pub returns : goal.returns
returns c =
    adds_ended parameter_tells (AreWeighed c.args.weighed.now) (weighed_stay c.args.weighed.now) parameter_stays (section_parameters c.args.weighed.now c.args.s.now) c.args.sections.now _ _ _ _ c.loop-section.section-index c.loop-section-test.false c.loop-section.invariant
