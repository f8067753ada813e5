use Rattle.std.proofs.Common.{map, refl}
use Rattle.st_unit_rules.specs.declared_names.Declarations.{entries_in}
use Rattle.st_unit_rules.specs.declared_names.UnitNames.{parts_declared}
use Rattle.symbol_table.specs.unit_names.Private.Known.{decls_of, names_of}
use Rattle.symbol_table.proofs.unit_names.KnownLaws.{split_next, split_ended, parts_split}
use Rattle.symbol_table.proofs.unit_names.parts.declared_parts.Goals as goal

pub loop-decl-preserved : goal.loop-decl-preserved
loop-decl-preserved c =
    let k = c.args.known.now in
    split_next (λ ds. map (λ t. parts_declared (decls_of k) (names_of k) t.body) (entries_in ds)) (parts_split k) c.args.decls.now c.loop-decl.decl-index c.decl-item.result c.loop-decl.list _ c.loop-decl-test.true c.decl-item.is
    c.in_ok-add_parts.ensures c.loop-decl.invariant

pub returns : goal.returns
returns c =
    let k = c.args.known.now in
    split_ended (λ ds. map (λ t. parts_declared (decls_of k) (names_of k) t.body) (entries_in ds)) refl c.args.decls.now c.loop-decl.decl-index c.loop-decl.list c.loop-decl-test.false c.loop-decl.invariant
