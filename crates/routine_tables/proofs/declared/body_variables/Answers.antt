use Rattle.std.proofs.Common.{◌≡◌, ◌≤◌, ◌<◌, ◌-◌, Some, None, length, reverse, sym, ap, ◌∙◌, subst}
use Rattle.std.specs.Prelude.{slice_get}
use Rattle.st_tree.specs.declared.program.Program.{Program}
use Rattle.st_rules.specs.Classes.{chain}
use Rattle.st_values.specs.Program.{class_at, chain_of}
use Rattle.st_values.specs.View as view
use Rattle.st_values.specs.View.{program_of}
use Rattle.program_tables.specs.st_initial.Variables.{variables_of}
use Rattle.program_tables.proofs.ClassLaws.{class_climbs}
use Rattle.routine_tables.proofs.EntryLaws.{variables_of_class, variables_of_program}
use Rattle.routine_tables.specs.Private.Declared.{program_declared}
use Rattle.routine_tables.proofs.declared.body_variables.Goals as goal

pub returns-then-class-classes : goal.returns-then-class-classes
returns-then-class-classes c =
    let p = c.args.program.now in
    let h : c.args.class < length p.classes = subst (λ n. c.args.class < n) (ap length c.as_slice-classes.ensures) c.if-class-classes.true in
    c.in_ok-all.ensures
    ∙ ap (λ cs. view.declared_along c.as_slice-classes.result.now (reverse cs)) (c.deref.ensures.value ∙ c.in_ok-chain.ensures ∙ ap (λ (q : Program). chain_of (class_at (program_of q) c.args.class)) c.requires ∙ class_climbs p c.args.class h)
    ∙ ap (λ ds. view.declared_along ds (reverse (chain p.classes c.args.class))) c.as_slice-classes.ensures
    ∙ variables_of_class p c.args.class h

pub returns-in_ok-all-in-Some : goal.returns-in_ok-all-in-Some
returns-in_ok-all-in-Some c =
    let p = c.args.program.now in
    let q : length c.as_slice-classes.result.now ≡ length p.classes = ap length c.as_slice-classes.ensures in
    let e : slice_get p.programs (c.args.class - length p.classes) ≡ Some c.in-Some.decl.now = ap (λ n. slice_get p.programs (c.args.class - n)) (sym q) ∙ sym c.in-Some.ensures.value in
    let h : length p.classes ≤ c.args.class = subst (λ n. n ≤ c.args.class) q c.if-class-classes.false in
    c.in_ok-all-in-Some.ensures ∙ ap view.variables_in c.as_slice.ensures ∙ ap program_declared (sym e) ∙ variables_of_program p c.args.class h

pub returns-in-None : goal.returns-in-None
returns-in-None c =
    let p = c.args.program.now in
    let q : length c.as_slice-classes.result.now ≡ length p.classes = ap length c.as_slice-classes.ensures in
    let e : slice_get p.programs (c.args.class - length p.classes) ≡ None = ap (λ n. slice_get p.programs (c.args.class - n)) (sym q) ∙ sym c.in-None.ensures.value in
    let h : length p.classes ≤ c.args.class = subst (λ n. n ≤ c.args.class) q c.if-class-classes.false in
    ap variables_of c.new.ensures.items ∙ ap program_declared (sym e) ∙ variables_of_program p c.args.class h
