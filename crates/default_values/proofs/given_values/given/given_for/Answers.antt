use Rattle.std.proofs.Common.{rules, ◌≡◌, true, false, ◌∷◌}
use Rattle.plc_text.specs.Words.{same}
use Rattle.default_values.proofs.given_values.GivenLaws.{found_here, sought_behind}
use Rattle.default_values.proofs.given_values.given.given_for.Goals as goal

pub returns-then-eq : goal.returns-then-eq
returns-then-eq c =
    let parts : c.fields.left.now ≡ c.in-Some.field.now ∷ c.in-Some.behind.now = search rules in
    let yes : same c.in-Some.field.now.name c.args.name.now ≡ true = search rules in
    found_here c.args.name.now c.in-Some.field.now c.in-Some.behind.now c.fields.left.now c.args.fields.now parts c.fields.invariant _ c.value_in.ensures yes

pub fields-preserved : goal.fields-preserved
fields-preserved c =
    let parts : c.fields.left.now ≡ c.in-Some.field.now ∷ c.in-Some.behind.now = search rules in
    let fails : same c.in-Some.field.now.name c.args.name.now ≡ false = search rules in
    sought_behind c.args.name.now c.in-Some.field.now c.in-Some.behind.now c.fields.left.now c.args.fields.now parts c.fields.invariant fails
