use Rattle.std.proofs.Common.{ap}
use Rattle.check_classes.proofs.class_rules.PartLaws.{trees_are}
use Rattle.check_classes.proofs.class_rules.classes.trees_of.Goals as goal

pub returns : goal.returns
returns c =
    trees_are c.args.tables.now.decls c.args.number c.args.class.now _ _ _ _ _ _ _ c.requires (ap (λ u. u.decls) c.class_tables-classes.ensures) c.in_ok-base.ensures c.as_slice-used.ensures c.in_ok-interfaces.ensures (c.home-home.ensures c.args.tables.now.decls) c.as_slice-list.ensures c.in_ok-members.ensures
    c.as_slice-text.ensures c.in_ok-body.ensures
