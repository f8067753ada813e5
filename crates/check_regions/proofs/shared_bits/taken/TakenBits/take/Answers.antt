use Rattle.std.proofs.Common.{Bool, false, List, sym, subst}
use Rattle.st_unit_rules.specs.Addresses.{bits_of}
use Rattle.check_regions.specs.shared_bits.Taken.{Takes}
use Rattle.check_regions.proofs.shared_bits.StepLaws.{takes_same}
use Rattle.check_regions.proofs.shared_bits.TakenLaws.{bits_inside, shared_told, taken_then}
use Rattle.check_regions.proofs.shared_bits.taken.TakenBits.take.Goals as goal

pub returns-clause-shared : goal.returns-clause-shared
returns-clause-shared c = λ taken t.
    shared_told c.self.inside.marks.items c.take_if.new.marks.items c.take_if.result (bits_of c.args.address.now) (bits_inside c.args.address.now)
    (takes_same _ _ false _ _ _ c.span_of.ensures.spans c.take_if.ensures.takes) taken (subst (λ (m : List Bool). Takes m taken) (sym c.self.view_is) t)

pub returns-clause-taken : goal.returns-clause-taken
returns-clause-taken c = λ taken t.
    taken_then c.self.inside.marks.items c.take_if.new.marks.items c.take_if.result (bits_of c.args.address.now) (bits_inside c.args.address.now)
    (takes_same _ _ false _ _ _ c.span_of.ensures.spans c.take_if.ensures.takes) taken (subst (λ (m : List Bool). Takes m taken) (sym c.self.view_is) t)
