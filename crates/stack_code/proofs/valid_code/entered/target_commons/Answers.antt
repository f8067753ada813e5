use Rattle.std.proofs.Common.{◌≡◌, suc, [], ◌∷◌, ◌++◌, drop, get_or, ◌+◌, arith, sym, ap, subst, ◌∙◌}
use Rattle.std.proofs.Math.Seq.{drop-cons}
use Rattle.std.proofs.lemmas.List.{append-nil}
use Rattle.std.proofs.Math.ListN.{drop_of_length-le}
use Rattle.stack_code.specs.declared.code.InterfaceTarget.{InterfaceTarget}
use Rattle.stack_code.specs.valid_code.Private.Calls.{Shares}
use Rattle.stack_code.specs.valid_code.Private.Entered.{common_at, targets_of}
use Rattle.stack_code.proofs.valid_code.EnteredLaws.{targets_append}
use Rattle.stack_code.proofs.valid_code.entered.target_commons.Goals as goal

pub entries-preserved : goal.entries-preserved
entries-preserved c =
    let table = c.args.code.now.targets in
    let entries = c.args.entries.now in
    let j = c.entries.entry-index in
    let none : InterfaceTarget = record { class = 0; interface = 0; method = 0; routine = 0 } in
    let t = get_or entries j none in
    let next : j + 1 ≡ suc j = omega arith in
    let cut : drop j entries ≡ t ∷ drop (j + 1) entries = drop-cons entries j none c.entries-test.true ∙ ap (λ n. t ∷ drop n entries) (sym next) in
    λ i m. (let inv = c.entries.invariant i m in
    (inv.0 ++ targets_of table (t ∷ []) i m, targets_append table (drop (j + 1) entries) t i m inv.0 ∙ ap (λ l. inv.0 ++ targets_of table l i m) (sym cut) ∙ inv.1, c.in_ok-note_target.ensures i m inv.0 inv.2))

pub returns : goal.returns
returns c =
    let table = c.args.code.now.targets in
    let entries = c.args.entries.now in
    let done : drop c.entries.entry-index entries ≡ [] = drop_of_length-le entries c.entries-test.false in
    λ i m. (let inv = c.entries.invariant i m in
    let all : inv.0 ≡ targets_of table entries i m = sym (append-nil inv.0) ∙ ap (λ l. inv.0 ++ targets_of table l i m) (sym done) ∙ inv.1 in
    subst (λ l. Shares c.args.code.now l (common_at c.entries.commons (i, m))) all inv.2)
