use Rattle.std.proofs.Common.{◌≡◌, ◌++◌, OnOk, true, false, sym, ap, ◌∙◌, subst, append-nil}
use Rattle.st_rules.specs.Modifiers.{is_constant}
use Rattle.st_values.specs.View.{is_kept, items_in}
use Rattle.program_tables.specs.st_initial.Variables.{variables_of}
use Rattle.program_tables.specs.st_initial.Private.Kept.{kept_in}
use Rattle.program_tables.proofs.st_initial.VariableLaws.{section_keeps, section_loses}
use Rattle.program_tables.proofs.st_initial.variables.push_section.Goals as goal

pub returns-then-is_kept : goal.returns-then-is_kept
returns-then-is_kept c =
    let s = c.args.section.now in
    let a : is_constant s.modifiers ≡ false = ap is_constant (sym c.as_slice.ensures) ∙ sym c.is_constant.ensures ∙ c.if-is_constant.false in
    let b : is_kept s.sort ≡ true = sym c.is_kept.ensures ∙ c.if-is_kept.true in
    let k : items_in s.sort c.as_slice-then-is_kept.result.now ≡ kept_in s = ap (items_in s.sort) c.as_slice-then-is_kept.ensures ∙ sym (section_keeps s a b) in
    subst (λ vs. OnOk c.push_items.result (variables_of c.push_items.new.out.items ≡ variables_of c.args.out.now.items ++ vs)) k c.push_items.ensures

pub returns-else-is_kept : goal.returns-else-is_kept
returns-else-is_kept c =
    let s = c.args.section.now in
    let a : is_constant s.modifiers ≡ false = ap is_constant (sym c.as_slice.ensures) ∙ sym c.is_constant.ensures ∙ c.if-is_constant.false in
    let b : is_kept s.sort ≡ false = sym c.is_kept.ensures ∙ c.if-is_kept.false in
    sym (append-nil (variables_of c.args.out.now.items)) ∙ ap (λ vs. variables_of c.args.out.now.items ++ vs) (sym (section_loses s a b))
