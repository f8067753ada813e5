use Rattle.std.proofs.Common.{◌≡◌, suc, ◌∷◌, drop, ◌-◌, ◌<◌, get_or, arith, sym, ap, ◌∙◌, length}
use Rattle.std.specs.Prelude.{nat_eq, Some, cond}
use Rattle.std.proofs.Math.Seq.{drop-cons}
use Rattle.stack_code.specs.declared.code.InterfaceTarget.{InterfaceTarget}
use Rattle.stack_code.specs.Machine.{first_target}
use Rattle.stack_code.specs.valid_code.Private.Tables.{same_implemented}
use Rattle.stack_code.proofs.valid_code.TableLaws.{grouped}
use Rattle.stack_code.proofs.valid_code.tables.implementations.Goals as goal

pub entries-preserved : goal.entries-preserved
entries-preserved c =
    let table = c.args.table.now in
    let k = c.entries.left - 1 in
    let none : InterfaceTarget = record { class = 0; interface = 0; method = 0; routine = 0 } in
    let t = get_or table k none in
    let within : k < length table = omega (arith, c.entries.invariant.0, c.entries-test.true) in
    let next : suc k ≡ c.entries.left = omega (arith, c.entries-test.true) in
    let cut : drop k table ≡ t ∷ drop c.entries.left table = drop-cons table k none within ∙ ap (λ n. t ∷ drop n table) next in (
      omega (arith, c.entries.invariant.0),
      λ class interface method.
          c.in_ok-note_implementation.ensures (class, (interface, method))
          ∙ ap (λ o. cond (same_implemented (t.class, (t.interface, t.method)) (class, (interface, method))) (Some t.routine) o) (c.entries.invariant.1 class interface method)
          ∙ grouped (nat_eq t.class class) (nat_eq t.interface interface) (nat_eq t.method method) (Some t.routine) (first_target (drop c.entries.left table) class interface method)
          ∙ ap (λ l. first_target l class interface method) (sym cut),
    )
