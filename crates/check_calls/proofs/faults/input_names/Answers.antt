use Rattle.std.proofs.Common.{◌≡◌, ◌<◌, ◌+◌, ◌-◌, ◌∷◌, length, drop, sym, ap, ◌∙◌, arith}
use Rattle.std.specs.Prelude.{◌||◌}
use Rattle.std.specs.List.{list_any}
use Rattle.st_rules.specs.Calls.{gives_input}
use Rattle.st_rules.proofs.ListLaws.{drop-at}
use Rattle.check_calls.specs.Heads.{head, heads_told}
use Rattle.check_calls.proofs.faults.input_names.Goals as goal

pub heads-preserved : goal.heads-preserved
heads-preserved c =
    let here : c.heads.i - 1 < length c.args.heads.now = omega arith in
    let next : c.heads.i - 1 + 1 ≡ c.heads.i = omega arith in
    record {
      within = omega arith;
      noted = λ q. c.in_ok-add_input.ensures q
          ∙ ap (λ t. gives_input q (head c.index-heads-i.result) || t) (c.heads.invariant.noted q)
          ∙ sym (ap (λ hs. list_any (gives_input q) (heads_told hs)) (drop-at c.args.heads.now (c.heads.i - 1) c.index-heads-i.result here c.index-heads-i.is ∙ ap (λ n. c.index-heads-i.result ∷ drop n c.args.heads.now) next));
    }
