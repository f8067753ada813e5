use Rattle.std.proofs.Common.{refl}
use Rattle.st_unit_rules.specs.DeclarationRules.{unit}
use Rattle.st_unit_rules.specs.declaration_list.Written.{written_of}
use Rattle.global_rules.proofs.GlobalLaws.{global_least}
use Rattle.global_rules.proofs.RegionLaws.{has_region, regions_more}
use Rattle.global_rules.proofs.globals.check_global.Goals as goal

pub returns-clause-fault : goal.returns-clause-fault
returns-clause-fault c = λ before h.
    global_least _ _ _ c.args.tables.now.decls before c.args.name.now c.args.shared.now c.requires.shared c.own_fault-own.ensures
    (c.take_global-fault.ensures.fault c.args.tables.now.decls before (c.sizes-sizes.ensures (unit c.args.tables.now.decls) refl refl) c.requires.shared.kind h.taken-is) c.earlier.ensures

pub returns-clause-regions : goal.returns-clause-regions
returns-clause-regions c = λ before h.
    regions_more _ _ c.args.tables.now.decls before (written_of c.args.name.now) _ (c.take_global-fault.ensures.taken c.args.tables.now.decls before (c.sizes-sizes.ensures (unit c.args.tables.now.decls) refl refl) c.requires.shared.kind h.taken-is)
    (has_region c.args.tables.now.decls c.args.s.now c.args.shared.now.kind (written_of c.args.name.now) c.requires.scope c.requires.shared.kind _ _ c.in_ok-region.ensures) c.in_ok-add_region.ensures h
