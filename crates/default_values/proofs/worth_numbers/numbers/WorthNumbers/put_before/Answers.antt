use Rattle.std.proofs.Common.{rules, ◌≡◌, ◌+◌, ◌<◌, ℕ, sym, subst}
use Rattle.default_values.specs.worth_numbers.Numbers.{GivesLonger}
use Rattle.default_values.proofs.worth_numbers.ListLaws.{longer_run, longer_worths}
use Rattle.default_values.proofs.worth_numbers.numbers.WorthNumbers.put_before.Goals as goal

pub returns-then-behind-eq0 : goal.returns-then-behind-eq0
returns-then-behind-eq0 c = longer_worths _ _ _ _ _ _ c.in_ok-listed.ensures

pub returns-in-Some : goal.returns-in-Some
returns-in-Some c =
    let some : 0 < c.args.behind.count = search rules in
    let same : c.args.first ≡ c.args.behind.first = search rules in
    let sum : c.in-Some.count ≡ c.args.behind.count + c.args.count = search rules in
    subst (λ (n : ℕ). GivesLonger c.args.self.now c.args.self.now c.args.count c.args.first c.args.behind (record { count = n; first = c.args.behind.first; rest = c.args.behind.rest })) (sym sum)
    (longer_worths _ _ _ _ _ _ (longer_run c.args.self.now c.args.count c.args.first c.args.behind some same))
