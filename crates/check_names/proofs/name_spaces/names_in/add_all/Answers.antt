use Rattle.std.proofs.Common.{◌∷◌, [], refl}
use Rattle.st_rules.proofs.ListLaws.{left_next, left_end}
use Rattle.check_names.proofs.name_spaces.NameLaws.{lent_next}
use Rattle.check_names.specs.name_spaces.NamesIn.{names_of}
use Rattle.check_names.proofs.name_spaces.names_in.add_all.Goals as goal

pub loop-name-preserved : goal.loop-name-preserved
loop-name-preserved c =
    left_next (λ ns. ns) c.args.names.now c.loop-name.name-index c.name-item.result (names_of c.loop-name.list.items) _ (c.name-item.result ∷ []) _
    c.loop-name-test.true c.name-item.is refl (lent_next c.loop-name.list.items _ _ c.in_ok-push.ensures.items) c.loop-name.invariant

pub returns : goal.returns
returns c = left_end (λ ns. ns) c.args.names.now c.loop-name.name-index (names_of c.loop-name.list.items) _ refl c.loop-name-test.false c.loop-name.invariant
