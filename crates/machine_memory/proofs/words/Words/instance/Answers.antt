use Rattle.std.proofs.Common.{◌≡◌, ◌+◌, ◌∷◌, sym, ap, ◌∙◌, arith, take, drop, reverse, length}
use Rattle.std.proofs.lemmas.List.{length-reverse, length-take-le}
use Rattle.machine_memory.proofs.WordLaws.{under, called_at}
use Rattle.machine_memory.proofs.words.Words.instance.Goals as goal

pub returns-clause-value : goal.returns-clause-value
returns-clause-value c =
    let l = c.self.inside in
    let ws = c.args.self.now.words in
    let n = c.args.n in
    let w = c.index.result.now in
    let shows : reverse (take l.top l.items.items) ≡ ws = ap (λ v. v.words) c.self.view_is in
    let size : length ws ≡ l.top = ap length (sym shows) ∙ length-reverse (take l.top l.items.items) ∙ length-take-le l.top l.items.items c.self.invariant in
    let below : drop n ws ≡ w ∷ drop (n + 1) ws = ap (drop n) (sym shows) ∙ under l.items.items l.top n w c.self.invariant c.if-n-self.false c.index.ensures ∙ ap (λ xs. w ∷ drop (n + 1) xs) shows in
    called_at c.instance_in.result n ws w (omega arith) below c.instance_in.ensures
