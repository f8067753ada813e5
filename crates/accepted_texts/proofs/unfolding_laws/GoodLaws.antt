-- In a unit that breaks no rule no global and no program's variable is too deep.
use Rattle.std.proofs.Common.{◌≡◌, ℕ, true, false, List, [], ◌++◌, sym, ap, ◌∙◌}
use Rattle.std.specs.Prelude.{if◌then◌else◌, flat_map, filter}
use Rattle.st_tree.specs.declared.configuration.InstanceSpec.{InstanceSpec}
use Rattle.st_tree.specs.declared.declaration.Item.{Item}
use Rattle.st_tree.specs.declared.declaration.ProgramDecl.{ProgramDecl}
use Rattle.st_tree.specs.declared.unit.Decl.{Decl}
use Rattle.st_rules.specs.Scope.{Scope}
use Rattle.st_unit_rules.specs.declared_names.Declarations.{Global, Region, declarations, programs_in}
use Rattle.st_unit_rules.specs.declared_names.UnitNames.{unit_names, unit_scope, program_scope}
use Rattle.st_unit_rules.specs.declared_names.Variables.{Written, sections_written, is_kept_written}
use Rattle.st_unit_rules.specs.declared_names.WrittenTypes.{type_written}
use Rattle.st_unit_rules.specs.Checked.{unit_regions}
use Rattle.st_unit_rules.specs.DeclarationRules.{item_too_deep, program_faults, program_limits, global_faults}
use Rattle.st_unit_rules.specs.Limits.{has_depth_told, too_deep}
use Rattle.st_unit_rules.specs.UnitRefusal.{BreaksNothing}
use Rattle.st_unit_rules.specs.VariableRules.{of_globals, item_faults}
use Rattle.resolution_order.specs.told_laws.ToldLaws.{Every}
use Rattle.accepted_texts.proofs.unfolding_laws.ListLaws.{every_one, every_means}
use Rattle.accepted_texts.proofs.unfolding_laws.CycleLaws.{none_in, none_of_each, not_deep, variable_not_deep}
use Rattle.accepted_texts.proofs.unfolding_laws.RegionLaws.{OfRegion, each_program, each_region}

module _ (decls : List (Decl ℕ)) where
  abbrev pub unit : Scope
  unit = unit_scope decls (unit_names decls)

  abbrev pub GoodItem : Item ℕ → Type 0
  GoodItem item = has_depth_told unit 65 (type_written unit item.kind) ≡ false

  abbrev pub GoodProgram : ProgramDecl ℕ → Type 0
  GoodProgram d = Every (λ (w : Written). has_depth_told (program_scope decls (unit_names decls) d) 64 (type_written (program_scope decls (unit_names decls) d) w.item.kind) ≡ false) (filter is_kept_written (sections_written d.sections))

  -- ---- each declaration

  module _ (good : BreaksNothing decls) where
    global_good : (before : List Region) (g : Global) → global_faults decls before g ≡ [] → g.first ≡ true → GoodItem g.item
    global_good before g h q =
        let front = none_in _ _ h in
        let own = none_in _ _ front.0 in
        let first : item_faults unit of_globals g.section g.item ++ item_too_deep decls unit g.item ≡ [] = sym (ap (λ b. if b then item_faults unit of_globals g.section g.item ++ item_too_deep decls unit g.item else []) q) ∙ own.1 in
        variable_not_deep decls good unit 64 _ g.item.kind (none_in (item_faults unit of_globals g.section g.item) (item_too_deep decls unit g.item) first).1

    program_good : (d : ProgramDecl ℕ) → program_faults decls d ≡ [] → GoodProgram d
    program_good d h =
        let s = program_scope decls (unit_names decls) d in
        let kept = filter is_kept_written (sections_written d.sections) in
        let but_body = none_in _ _ h in
        let limits = none_in _ (program_limits decls s d) but_body.0 in
        let deep = none_in (flat_map (λ w. too_deep s (declarations decls) 63 d.line w.item.kind) kept) _ limits.1 in
        every_means (λ (w : Written). too_deep s (declarations decls) 63 d.line w.item.kind ≡ []) (λ (w : Written). has_depth_told s 64 (type_written s w.item.kind) ≡ false)
        (λ w e. not_deep decls good s 63 d.line w.item.kind e) kept (none_of_each (λ (w : Written). too_deep s (declarations decls) 63 d.line w.item.kind) kept deep.0)

  pub programs_good : BreaksNothing decls → Every GoodProgram (programs_in decls)
  programs_good good = each_program decls GoodProgram (program_good good) good

  -- ---- regions

  abbrev pub GoodRegion : Region → Type 0
  GoodRegion u = OfRegion (λ so constant item. GoodItem item) (λ x. Unit {0}) u

  pub regions_good : BreaksNothing decls → Every GoodRegion (unit_regions decls)
  regions_good good = each_region decls (λ so constant item. GoodItem item) (λ x. Unit {0}) (global_good good) (λ x c h. every_one (λ (i : InstanceSpec). Unit {0}) (λ i. tt) c.instances) good
