use Rattle.std.proofs.Common.{List, ℕ, None, false, subst}
use Rattle.st_tree.specs.declared.declaration.Section.{Section}
use Rattle.st_unit_rules.specs.declared_names.Variables.{sections_written}
use Rattle.type_resolution.specs.declared_variables.Globals.{AddsGlobals}
use Rattle.symbol_table.specs.unit_names.Private.Known.{scope_in}
use Rattle.symbol_table.proofs.unit_names.GlobalLaws.{configuration_added}
use Rattle.symbol_table.proofs.unit_names.globals.add_configuration.Goals as goal

pub returns : goal.returns
returns c =
    let s = scope_in c.args.known.now None false in
    configuration_added s c.args.list.now c.add_sections.new.list c.add_sections-2.new.list c.args.region c.in_ok-own.own c.in_ok-all.all c.args.configuration.now c.resource_globals.result.now c.resource_globals.ensures
    (subst (λ (ss : List (Section ℕ)). AddsGlobals s c.args.list.now c.add_sections.new.list c.args.region c.in_ok-own.own (sections_written ss)) c.as_slice.ensures c.in_ok-own.ensures) c.in_ok-all.ensures
