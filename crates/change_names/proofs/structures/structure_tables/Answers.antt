use Rattle.std.proofs.Common.{map, ap, ◌∙◌}
use Rattle.st_change.specs.From.{structure_pairs}
use Rattle.st_values.specs.View.{program_of}
use Rattle.change_names.proofs.ListLaws.{one_mapped, all_mapped}
use Rattle.change_names.proofs.StructureLaws.{by_types}
use Rattle.change_names.proofs.structures.structure_tables.Goals as goal

pub loop-decl-preserved : goal.loop-decl-preserved
loop-decl-preserved c =
    one_mapped (λ d. structure_pairs (program_of c.args.old.now.program.now) (program_of c.args.new.now.program.now) d.name.text) c.as_slice-types.result.now c.loop-decl.decl-index c.loop-decl.tables.items c.push.new.self.items c.decl-item.result c.in_ok-table.table
    c.loop-decl-test.true c.decl-item.is c.loop-decl.invariant c.in_ok-push.ensures.items (c.in_ok-table.ensures ∙ c.in_ok-pairs.ensures)

pub returns : goal.returns
returns c =
    all_mapped (λ d. structure_pairs (program_of c.args.old.now.program.now) (program_of c.args.new.now.program.now) d.name.text) c.as_slice-types.result.now c.loop-decl.decl-index c.loop-decl.tables.items c.loop-decl-test.false c.loop-decl.invariant
    ∙ ap (map (λ d. structure_pairs (program_of c.args.old.now.program.now) (program_of c.args.new.now.program.now) d.name.text)) c.as_slice-types.ensures
    ∙ by_types (structure_pairs (program_of c.args.old.now.program.now) (program_of c.args.new.now.program.now)) c.args.new.now.program.now
