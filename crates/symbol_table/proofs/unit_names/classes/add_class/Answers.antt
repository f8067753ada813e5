use Rattle.std.proofs.Common.{◌++◌, ◌∷◌, [], ap, ◌∙◌}
use Rattle.symbol_table.specs.unit_names.Private.Known.{decls_of, names_of}
use Rattle.symbol_table.proofs.unit_names.ClassLaws.{class_lent}
use Rattle.symbol_table.proofs.unit_names.classes.add_class.Goals as goal

pub returns : goal.returns
returns c =
    let k = c.args.known.now in
    c.in_ok-push.ensures.ok
    ∙ ap (λ y. c.args.list.now ++ y ∷ [])
    (class_lent (decls_of k) (names_of k) c.args.untold.now c.args.number c.args.class.now c.in-Some.names.now c.in_ok-s.s c.as_slice.result.now c.as_slice-members.result.now c.in_ok-variables.variables c.in_ok-methods.methods c.requires.untold
    c.requires.class c.in-Some.ensures c.in_ok-s.ensures c.as_slice.ensures c.as_slice-members.ensures c.in_ok-variables.ensures c.in_ok-methods.ensures)
