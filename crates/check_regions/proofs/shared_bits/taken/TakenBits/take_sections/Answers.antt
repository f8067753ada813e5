use Rattle.std.proofs.Common.{Bool, false, List, sym, subst}
use Rattle.st_unit_rules.specs.Addresses.{all_bits}
use Rattle.st_unit_rules.specs.declared_names.Variables.{sections_written}
use Rattle.check_regions.specs.shared_bits.Taken.{Takes}
use Rattle.check_regions.proofs.shared_bits.StepLaws.{takes_same}
use Rattle.check_regions.proofs.shared_bits.TakenLaws.{all_inside, sections_bits, shared_told, taken_then}
use Rattle.check_regions.proofs.shared_bits.taken.TakenBits.take_sections.Goals as goal

pub returns-clause-shared : goal.returns-clause-shared
returns-clause-shared c = λ taken t.
    shared_told c.self.inside.marks.items c.take_all.new.marks.items c.take_all.result (all_bits (sections_written c.args.sections.now)) (all_inside (sections_written c.args.sections.now))
    (takes_same _ _ false _ _ _ (sym (sections_bits c.args.sections.now)) c.take_all.ensures.takes) taken (subst (λ (m : List Bool). Takes m taken) (sym c.self.view_is) t)

pub returns-clause-taken : goal.returns-clause-taken
returns-clause-taken c = λ taken t.
    taken_then c.self.inside.marks.items c.take_all.new.marks.items c.take_all.result (all_bits (sections_written c.args.sections.now)) (all_inside (sections_written c.args.sections.now))
    (takes_same _ _ false _ _ _ (sym (sections_bits c.args.sections.now)) c.take_all.ensures.takes) taken (subst (λ (m : List Bool). Takes m taken) (sym c.self.view_is) t)
