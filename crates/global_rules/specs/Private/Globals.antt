-- A global from its parts.
use Rattle.std.specs.Prelude.{◌≡◌, ℕ, Bool, true, false, if◌then◌else◌, Option, Some, None}
use Rattle.plc_text.specs.declared.code.Code.{Code}
use Rattle.st_types.specs.declared.st_type.StType.{StType}
use Rattle.st_tree.specs.declared.program.RegionDecl.{RegionDecl}
use Rattle.st_rules.specs.Faults.{least, earlier}
use Rattle.st_rules.specs.Scope.{Scope}
use Rattle.st_unit_rules.specs.declared_names.Variables.{Written}
use Rattle.st_unit_rules.specs.declared.declaration_list.written.WrittenName.{WrittenName}
use Rattle.section_rules.specs.Headings.{heading_faults}
use Rattle.st_unit_rules.specs.VariableRules.{of_globals}
use Rattle.global_rules.specs.declared.shared.SharedItem.{SharedItem}
use Rattle.global_rules.specs.Private.Regions.{IsRegion}

-- what the section breaks, and the item with its first name
abbrev pub IsOwn : Option (Code × ℕ) → SharedItem → WrittenName → Type 0
IsOwn o c w = o ≡ (if w.first then earlier (least (heading_faults of_globals w.section.now)) c.least else least (heading_faults of_globals w.section.now))

-- a constant makes no region
abbrev pub region_when : Bool → Option RegionDecl → Scope → Option StType → Written → Type 0
region_when true o s t w = o ≡ None
region_when false None s t w = ⊥
region_when false (Some r) s t w = IsRegion r s t w
