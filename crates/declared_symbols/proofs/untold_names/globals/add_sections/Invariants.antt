use Rattle.std.proofs.Common.{take}
use Rattle.std.specs.Prelude.{flat_map}
use Rattle.st_unit_rules.specs.declared_names.Variables.{section_written}
use Rattle.declared_symbols.specs.untold_names.Private.Adds.{AddsGlobals}
use Rattle.declared_symbols.proofs.untold_names.globals.add_sections.Given as goal

abbrev pub invariant-loop-section : goal.invariant-loop-section
invariant-loop-section l = AddsGlobals l.fn.list l.list l.first l.region (flat_map section_written (take l.section-index l.sections))
