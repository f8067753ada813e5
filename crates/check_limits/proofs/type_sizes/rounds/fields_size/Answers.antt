use Rattle.std.proofs.Common.{List, true, map, length, subst}
use Rattle.st_rules.specs.declared.names.DeclaredField.{DeclaredField}
use Rattle.st_unit_rules.specs.Limits.{kinds_told}
use Rattle.check_limits.specs.type_sizes.Levels.{Tells}
use Rattle.check_limits.proofs.type_sizes.RoundLaws.{kinds_next, kinds_ended, filter_all}
use Rattle.check_limits.proofs.type_sizes.rounds.fields_size.Goals as goal

pub loop-field-preserved : goal.loop-field-preserved
loop-field-preserved c =
    kinds_next (λ f. f.kind) (λ f. true) c.args.levels.now c.args.fields.now c.loop-field.size c.with_kind-size.result c.loop-field.field-index c.field-item.result c.loop-field-test.true c.field-item.is
    (λ s ts a h. c.with_kind-size.ensures s ts a h) c.loop-field.invariant

pub returns : goal.returns
returns c = λ s a.
    subst (λ (fs : List DeclaredField). Tells s (length c.args.levels.now) c.loop-field.size (kinds_told s (map (λ f. f.kind) fs))) (filter_all c.args.fields.now)
    (kinds_ended (λ f. f.kind) (λ f. true) c.args.levels.now c.args.fields.now c.loop-field.size c.loop-field.field-index c.loop-field-test.false c.loop-field.invariant s a)
