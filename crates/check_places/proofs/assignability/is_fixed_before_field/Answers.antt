use Rattle.std.proofs.Common.{◌≡◌, sym, ap, ◌∙◌, false}
use Rattle.std.specs.Prelude.{◌||◌}
use Rattle.st_rules.specs.Scope.{sought, dot_qualifier}
use Rattle.st_rules.specs.Places.{qualifies, is_no_variable}
use Rattle.check_places.proofs.assignability.is_fixed_before_field.Goals as goal

pub returns-then-qualifies : goal.returns-then-qualifies
returns-then-qualifies c =
    let q : c.qualifies.result ≡ qualifies c.args.s.now (dot_qualifier c.args.s.now c.args.name.now) = c.qualifies.ensures c.args.s.now ∙ ap (qualifies c.args.s.now) c.dot_qualifier.ensures in
    sym (ap (λ t. t || is_no_variable c.args.s.now (sought c.args.s.now false c.args.name.now)) (sym q ∙ c.if-qualifies.true))

pub returns-else-qualifies : goal.returns-else-qualifies
returns-else-qualifies c =
    let q : c.qualifies.result ≡ qualifies c.args.s.now (dot_qualifier c.args.s.now c.args.name.now) = c.qualifies.ensures c.args.s.now ∙ ap (qualifies c.args.s.now) c.dot_qualifier.ensures in
    c.is_fixed_name.ensures ∙ sym (ap (λ t. t || is_no_variable c.args.s.now (sought c.args.s.now false c.args.name.now)) (sym q ∙ c.if-qualifies.false))
