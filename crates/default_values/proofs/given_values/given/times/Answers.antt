use Rattle.std.proofs.Common.{◌≡◌, ℕ, ◌<◌, ◌^◌, List, ap, ◌∙◌, subst}
use Rattle.std.specs.Prelude.{min, SomeIff}
use Rattle.st_tree.specs.Number.{number_of}
use Rattle.default_values.proofs.given_values.GivenLaws.{one_time, many_times}
use Rattle.default_values.proofs.given_values.given.times.Goals as goal

pub returns-in-One : goal.returns-in-One
returns-in-One c = one_time _ _ c.in-One.is

pub returns-in-Repeated : goal.returns-in-Repeated
returns-in-Repeated c = λ n h.
    ap (λ x. min x n) c.unwrap_or.ensures
    ∙ many_times _ _ c.in-Repeated.digits _ c.wide_number.result c.in-Repeated.is
    (subst (λ (t : List ℕ). SomeIff c.wide_number.result (number_of t < 2 ^ 128) (number_of t)) c.as_str.ensures c.wide_number.ensures) n h
