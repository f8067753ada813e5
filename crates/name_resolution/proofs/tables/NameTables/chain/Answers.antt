use Rattle.std.proofs.Common.{◌+◌, ℕ, List, Option, [], Some, ap, ◌∙◌, length}
use Rattle.st_rules.specs.Chains.{climb}
use Rattle.name_resolution.specs.Tables.{Told}
use Rattle.st_rules.specs.Upward.{base_in}
use Rattle.name_resolution.proofs.ChainLaws.{if_ok_along}
use Rattle.name_resolution.proofs.TableLaws.{chain_is}
use Rattle.name_resolution.proofs.tables.NameTables.chain.Goals as goal

pub returns : goal.returns
returns c = λ s holds. if_ok_along c.chain_of.result (λ v. v.items) _ _
    (ap (λ (bs : List (Option ℕ)). climb (base_in bs) (length bs + 1) [] (Some c.args.class)) c.deref.ensures.value ∙ ap (λ (t : Told). climb (base_in t.bases) (length t.bases + 1) [] (Some c.args.class)) c.self.view_is ∙ chain_is c.args.self.now s holds c.args.class) c.chain_of.ensures
