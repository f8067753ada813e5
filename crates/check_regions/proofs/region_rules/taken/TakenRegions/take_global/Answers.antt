use Rattle.std.proofs.Common.{Bool, [], ◌∷◌, ◌++◌, sym, ap, ◌∙◌, subst}
use Rattle.std.specs.Prelude.{flat_map, if◌then◌else◌}
use Rattle.st_unit_rules.specs.declared_names.Declarations.{of_global}
use Rattle.st_unit_rules.specs.declaration_list.Written.{written_of}
use Rattle.st_unit_rules.specs.DeclarationRules.{region_bits, unit}
use Rattle.st_unit_rules.specs.Limits.{values_of}
use Rattle.check_regions.specs.shared_bits.Taken.{Takes}
use Rattle.check_limits.specs.type_sizes.Size.{capped}
use Rattle.check_regions.specs.region_rules.Taken.{Holds}
use Rattle.check_regions.proofs.region_rules.TakenLaws.{holds_more}
use Rattle.check_regions.proofs.region_rules.taken.TakenRegions.take_global.Goals as goal

pub returns-clause-taken : goal.returns-clause-taken
returns-clause-taken c = λ decls before m k h.
    subst (λ (b : Bool). Holds c.count.new.self decls (before ++ (if b then [] else of_global (written_of c.args.written.now) ∷ []))) (sym c.if-is_constant.false ∙ c.is_constant.ensures)
    (holds_more c.args.self.now c.count.new.self decls before (of_global (written_of c.args.written.now)) c.values_of-own.result h
    (subst (λ b. Takes b (flat_map (region_bits decls) before ++ region_bits decls (of_global (written_of c.args.written.now)))) (sym c.count.ensures.bits) (c.take_variable-shared.ensures.taken (flat_map (region_bits decls) before) h.bits-are))
    c.count.ensures.count c.count.ensures.values (c.values_of-own.ensures (unit decls) m ∙ ap (λ t. capped (values_of (unit decls) t)) k))
