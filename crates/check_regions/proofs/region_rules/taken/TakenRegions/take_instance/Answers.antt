use Rattle.std.proofs.Common.{◌++◌, sym, ◌∙◌, subst}
use Rattle.std.specs.Prelude.{flat_map}
use Rattle.st_unit_rules.specs.declared_names.Declarations.{of_instance}
use Rattle.st_unit_rules.specs.DeclarationRules.{region_bits}
use Rattle.check_regions.specs.shared_bits.Taken.{Takes}
use Rattle.check_regions.proofs.region_rules.TakenLaws.{holds_more}
use Rattle.check_regions.proofs.region_rules.taken.TakenRegions.take_instance.Goals as goal

pub returns-clause-taken : goal.returns-clause-taken
returns-clause-taken c = λ decls before x g h.
    holds_more c.args.self.now c.count.new.self decls before (of_instance x) c.values_given-own.result h
    (subst (λ b. Takes b (flat_map (region_bits decls) before ++ region_bits decls (of_instance x))) (sym c.count.ensures.bits)
    (subst (λ bs. Takes c.take_program-shared.new.bits (flat_map (region_bits decls) before ++ bs)) g.bits-are (c.take_program-shared.ensures.taken (flat_map (region_bits decls) before) h.bits-are)))
    c.count.ensures.count c.count.ensures.values (c.values_given-own.ensures ∙ g.values-are)
