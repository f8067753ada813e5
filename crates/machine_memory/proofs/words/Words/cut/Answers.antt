use Rattle.std.proofs.Common.{◌≡◌, ◌≤◌, ◌-◌, sym, ap, ◌∙◌, arith, take, drop, reverse, length}
use Rattle.machine_memory.specs.Words.{Stack}
use Rattle.std.proofs.lemmas.List.{length-reverse, length-take-le}
use Rattle.machine_memory.proofs.WordLaws.{dropped}
use Rattle.machine_memory.proofs.words.Words.cut.Goals as goal

pub returns : goal.returns
returns c =
    let l = c.self.inside in
    let shows : reverse (take l.top l.items.items) ≡ c.args.self.now.words = ap (λ v. v.words) c.self.view_is in
    let size : length c.args.self.now.words ≡ l.top = ap length (sym shows) ∙ length-reverse (take l.top l.items.items) ∙ length-take-le l.top l.items.items c.self.invariant in
    let low : c.args.n ≤ l.top = omega (arith, c.requires) in
    let words : reverse (take (l.top - c.args.n) l.items.items) ≡ drop c.args.n c.args.self.now.words = sym (dropped l.items.items l.top c.args.n c.self.invariant low) ∙ ap (drop c.args.n) shows in
    ap (λ ws. let s : Stack = record { words = ws; room = length l.items.items } in s) words ∙ ap (λ r. let s : Stack = record { words = drop c.args.n c.args.self.now.words; room = r } in s) (ap (λ v. v.room) c.self.view_is)
