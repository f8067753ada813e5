use Rattle.std.proofs.Common.{List, map, length, subst}
use Rattle.st_rules.specs.declared.names.DeclaredField.{DeclaredField}
use Rattle.st_unit_rules.specs.Limits.{kinds_told}
use Rattle.check_limits.specs.type_sizes.Levels.{Tells}
use Rattle.check_limits.proofs.type_sizes.RoundLaws.{FitsPart, sizes_next, structures_are}
use Rattle.check_limits.proofs.type_sizes.rounds.structures_of.Goals as goal

pub loop-part-preserved : goal.loop-part-preserved
loop-part-preserved c =
    sizes_next (FitsPart (length c.args.levels.now)) c.args.levels.now c.args.parts.now c.loop-part.sizes.items c.push.new.self.items c.loop-part.part-index c.part-item.result c.structure.result c.loop-part-test.true
    c.part-item.is c.in_ok-push.ensures.items
    (λ s a. (c.fields_size.result, c.structure.ensures, subst (λ (fs : List DeclaredField). Tells s (length c.args.levels.now) c.fields_size.result (kinds_told s (map (λ f. f.kind) fs))) c.field_list.ensures (c.fields_size.ensures s a)))
    c.loop-part.invariant

pub returns : goal.returns
returns c = λ s a q. structures_are c.args.levels.now c.args.parts.now c.loop-part.sizes.items c.loop-part.part-index c.loop-part-test.false c.loop-part.invariant s a q
