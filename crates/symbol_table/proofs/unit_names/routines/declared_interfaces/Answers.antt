use Rattle.std.proofs.Common.{map, refl}
use Rattle.st_rules.specs.Interfaces.{interfaces_in}
use Rattle.st_unit_rules.specs.declared_names.UnitNames.{interface_declared}
use Rattle.symbol_table.specs.unit_names.Private.Known.{decls_of, names_of}
use Rattle.symbol_table.proofs.unit_names.KnownLaws.{split_next, split_ended, interfaces_split}
use Rattle.symbol_table.proofs.unit_names.routines.declared_interfaces.Goals as goal

pub loop-decl-preserved : goal.loop-decl-preserved
loop-decl-preserved c =
    let k = c.args.known.now in
    split_next (λ ds. map (interface_declared (decls_of k) (names_of k)) (interfaces_in ds)) (interfaces_split k) c.args.decls.now c.loop-decl.decl-index c.decl-item.result c.loop-decl.list _ c.loop-decl-test.true c.decl-item.is
    c.in_ok-add_interface.ensures c.loop-decl.invariant

pub returns : goal.returns
returns c =
    let k = c.args.known.now in
    split_ended (λ ds. map (interface_declared (decls_of k) (names_of k)) (interfaces_in ds)) refl c.args.decls.now c.loop-decl.decl-index c.loop-decl.list c.loop-decl-test.false c.loop-decl.invariant
