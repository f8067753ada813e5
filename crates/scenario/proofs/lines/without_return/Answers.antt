use Rattle.std.proofs.Common.{[], ◌∷◌}
use Rattle.std.proofs.lemmas.Bool.Decides.{Decides-eqb}
use Rattle.std.proofs.lemmas.Slice.Eq.{strip_suffix_is}
use Rattle.scenario.proofs.EndLaws.{stripped}
use Rattle.scenario.proofs.lines.without_return.Goals as goal

pub returns : goal.returns
returns c =
    let is = strip_suffix_is Decides-eqb c.args.bytes.now (13 ∷ []) c.strip_suffix.result c.strip_suffix.ensures.cases in
    rw c.unwrap_or.ensures (stripped c.args.bytes c.strip_suffix.result is)
