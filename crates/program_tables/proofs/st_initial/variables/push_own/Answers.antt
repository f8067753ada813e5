use Rattle.std.proofs.Common.{◌≡◌, ◌≤◌, ◌-◌, ◌++◌, OnOk, Some, None, length, refl, sym, ap, ◌∙◌, subst, append-nil}
use Rattle.std.specs.Prelude.{slice_get}
use Rattle.std.proofs.lemmas.Option.{slice_get_read}
use Rattle.st_values.specs.Program.{class_at, own_of}
use Rattle.st_values.specs.View.{is_kept, those, variables_in, sections_in, program_of}
use Rattle.program_tables.specs.st_initial.Variables.{variables_of}
use Rattle.program_tables.proofs.st_initial.VariableLaws.{class_owns, program_owns}
use Rattle.program_tables.proofs.st_initial.variables.push_own.Goals as goal

pub returns-then-class-classes : goal.returns-then-class-classes
returns-then-class-classes c =
    let p = c.args.program.now in
    let d = c.index-classes-class.result in
    let e : slice_get p.classes c.args.class ≡ Some d =
    subst (λ xs. slice_get xs c.args.class ≡ Some d) c.as_slice-classes.ensures (slice_get_read c.as_slice-classes.result.now (length c.as_slice-classes.result.now) c.args.class d refl c.if-class-classes.true c.index-classes-class.is) in
    let k : those is_kept (variables_in (sections_in c.as_slice.result.now)) ≡ own_of (class_at (program_of p) c.args.class) =
    ap (λ ms. those is_kept (variables_in (sections_in ms))) c.as_slice.ensures ∙ ap (λ x. those is_kept (variables_in (sections_in x.members))) (sym c.index-classes-class.is)
    ∙ sym (class_owns p c.args.class d e) in
    subst (λ vs. OnOk c.push_members.result (variables_of c.push_members.new.out.items ≡ variables_of c.args.out.now.items ++ vs)) k c.push_members.ensures

pub returns-in-Some : goal.returns-in-Some
returns-in-Some c =
    let p = c.args.program.now in
    let d = c.in-Some.decl.now in
    let q : length c.as_slice-classes.result.now ≡ length p.classes = ap length c.as_slice-classes.ensures in
    let e : slice_get p.programs (c.args.class - length p.classes) ≡ Some d = ap (λ n. slice_get p.programs (c.args.class - n)) (sym q) ∙ sym c.in-Some.ensures.value in
    let h : length p.classes ≤ c.args.class = subst (λ n. n ≤ c.args.class) q c.if-class-classes.false in
    let k : those is_kept (variables_in c.as_slice-in-Some.result.now) ≡ own_of (class_at (program_of p) c.args.class) =
    ap (λ ss. those is_kept (variables_in ss)) c.as_slice-in-Some.ensures ∙ sym (program_owns p c.args.class (Some d) h e) in
    subst (λ vs. OnOk c.push_sections.result (variables_of c.push_sections.new.out.items ≡ variables_of c.args.out.now.items ++ vs)) k c.push_sections.ensures

pub returns-in-None : goal.returns-in-None
returns-in-None c =
    let p = c.args.program.now in
    let q : length c.as_slice-classes.result.now ≡ length p.classes = ap length c.as_slice-classes.ensures in
    let e : slice_get p.programs (c.args.class - length p.classes) ≡ None = ap (λ n. slice_get p.programs (c.args.class - n)) (sym q) ∙ sym c.in-None.ensures.value in
    let h : length p.classes ≤ c.args.class = subst (λ n. n ≤ c.args.class) q c.if-class-classes.false in
    sym (append-nil (variables_of c.args.out.now.items)) ∙ ap (λ vs. variables_of c.args.out.now.items ++ vs) (sym (program_owns p c.args.class None h e))
