use Rattle.std.proofs.Common.{sym, ap, ◌∙◌}
use Rattle.st_tree.specs.Initial.{initial_of}
use Rattle.st_values.specs.View.{program_of}
use Rattle.std.specs.Prelude.{option_map}
use Rattle.program_tables.proofs.st_initial.WalkLaws.{given_copied, from_nothing, region_starts, region_there}
use Rattle.program_tables.proofs.st_initial.region_numbers.initial.Goals as goal

pub returns-clause-numbers : goal.returns-clause-numbers
returns-clause-numbers c = λ sh e.
    from_nothing _ _ _ (c.in_ok-push_type.ensures (program_of c.args.p.now) c.in_ok-members.ensures) c.new-out.ensures.items
    ∙ region_starts c.args.p.now c.args.region c.in-Some.decl.now _ _ (sym c.in-Some.ensures.value) (ap (λ ss. record { region = c.args.region; steps = ss }) c.new.ensures)
    (given_copied c.as_ref-given.result ∙ ap (option_map initial_of) c.as_ref-given.ensures.value) (sh, e)

pub returns-clause-nothing : goal.returns-clause-nothing
returns-clause-nothing c = λ n. absurd (region_there c.args.p.now c.args.region c.in-Some.decl.now (sym c.in-Some.ensures.value) n)
