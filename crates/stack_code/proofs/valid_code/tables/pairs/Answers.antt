use Rattle.std.proofs.Common.{◌≡◌, suc, ◌||◌, ◌∷◌, drop, ◌+◌, get_or, arith, sym, ap, ◌∙◌}
use Rattle.std.specs.HashSet.{contains}
use Rattle.std.proofs.Math.Seq.{drop-cons}
use Rattle.stack_code.specs.declared.code.Conformance.{Conformance}
use Rattle.stack_code.specs.valid_code.Private.Tables.{same_pair, is_conforming}
use Rattle.stack_code.proofs.valid_code.TableLaws.{found_or_left}
use Rattle.stack_code.proofs.valid_code.tables.pairs.Goals as goal

pub entries-preserved : goal.entries-preserved
entries-preserved c =
    let table = c.args.table.now in
    let i = c.entries.entry-index in
    let none : Conformance = record { class = 0; target = 0 } in
    let p = get_or table i none in
    let next : i + 1 ≡ suc i = omega arith in
    let cut : drop i table ≡ p ∷ drop (i + 1) table = drop-cons table i none c.entries-test.true ∙ ap (λ n. p ∷ drop n table) (sym next) in
    λ class target. found_or_left (same_pair (p.class, p.target) (class, target)) (contains same_pair c.entries.found (class, target)) (is_conforming class target (drop (i + 1) table)) _ _
    (c.in_ok-note_pair.ensures (class, target))
    (ap (λ l. contains same_pair c.entries.found (class, target) || is_conforming class target l) (sym cut) ∙ c.entries.invariant class target)
