use Rattle.std.proofs.Common.{ℕ, List, Option, sym, subst}
use Rattle.st_rules.specs.Classes.{classes_in}
use Rattle.declared_symbols.specs.class_chains.Private.Known.{AreKnown}
use Rattle.declared_symbols.proofs.class_chains.CellLaws.{known_grows, known_put}
use Rattle.declared_symbols.proofs.class_chains.chains.learn.Goals as goal

pub returns-clause-work : goal.returns-clause-work
returns-clause-work c =
    let classes = classes_in c.args.classes.now.decls in
    let cells = c.next_first.new.work.cells.items in
    let stays = known_grows classes c.args.work.now.cells.items cells c.args.work.now.firsts.items c.in_ok-first.ensures.grows c.requires.work in
    known_put classes cells c.next_first.new.work.firsts.items c.put.new.firsts.items c.args.class c.in_ok-first.first c.put.ensures c.in_ok-first.ensures.first
    (subst (λ (fs : List (Option ℕ)). AreKnown cells classes fs) (sym c.in_ok-first.ensures.firsts) stays)
