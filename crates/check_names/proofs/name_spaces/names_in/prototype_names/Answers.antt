use Rattle.std.proofs.Common.{◌∷◌, [], map, refl}
use Rattle.st_rules.proofs.ListLaws.{left_next, left_end}
use Rattle.check_names.proofs.name_spaces.NameLaws.{lent_next}
use Rattle.check_names.specs.name_spaces.NamesIn.{names_of}
use Rattle.check_names.proofs.name_spaces.names_in.prototype_names.Goals as goal

pub loop-method-preserved : goal.loop-method-preserved
loop-method-preserved c =
    left_next (map (λ m. m.name)) c.args.methods.now c.loop-method.method-index c.method-item.result (names_of c.loop-method.list.items) _ (c.method-item.result.name ∷ []) _
    c.loop-method-test.true c.method-item.is refl (lent_next c.loop-method.list.items _ _ c.in_ok-push.ensures.items) c.loop-method.invariant

pub returns : goal.returns
returns c = left_end (map (λ m. m.name)) c.args.methods.now c.loop-method.method-index (names_of c.loop-method.list.items) _ refl c.loop-method-test.false c.loop-method.invariant
