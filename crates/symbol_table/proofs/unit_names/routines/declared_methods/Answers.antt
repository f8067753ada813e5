use Rattle.std.proofs.Common.{map, refl}
use Rattle.st_rules.specs.Classes.{methods_in}
use Rattle.st_unit_rules.specs.declared_names.UnitNames.{method_declared}
use Rattle.symbol_table.specs.unit_names.Private.Known.{decls_of, names_of}
use Rattle.symbol_table.proofs.unit_names.KnownLaws.{split_next, split_ended, methods_split}
use Rattle.symbol_table.proofs.unit_names.routines.declared_methods.Goals as goal

pub loop-member-preserved : goal.loop-member-preserved
loop-member-preserved c =
    let k = c.args.known.now in
    split_next (λ ms. map (method_declared (decls_of k) (names_of k) c.args.class) (methods_in ms)) (methods_split k c.args.class) c.args.members.now c.loop-member.member-index c.member-item.result c.loop-member.list _ c.loop-member-test.true
    c.member-item.is c.in_ok-add_method.ensures c.loop-member.invariant

pub returns : goal.returns
returns c =
    let k = c.args.known.now in
    split_ended (λ ms. map (method_declared (decls_of k) (names_of k) c.args.class) (methods_in ms)) refl c.args.members.now c.loop-member.member-index c.loop-member.list c.loop-member-test.false c.loop-member.invariant
