use Rattle.std.proofs.Common.{◌≡◌, Some, None, sym, ◌∙◌, ap}
use Rattle.st_parser_expr.specs.Private.Promises.{next_terminal}
use Rattle.st_parser_decl.specs.Private.Sections.{modifier_of}
use Rattle.st_parser_decl.proofs.SectionSteps as t
use Rattle.st_parser_decl.proofs.section.next_modifier.Goals as goal

pub returns-in_err-modifier-clause-none : goal.returns-in_err-modifier-clause-none
returns-in_err-modifier-clause-none c =
    let next : next_terminal c.args.tokens.now ≡ Some c.in_ok-peek.field-0 = sym c.peek.ensures ∙ c.in_ok-peek.was in
    let none : modifier_of c.in_ok-peek.field-0 ≡ None = sym c.modifier_of.ensures ∙ c.in_err-modifier.was in
    rw c.from_residual-in_err-modifier.ensures (t.no_modifier c.args.words c.args.tokens.now c.in_ok-peek.field-0 next none)

pub returns-then-may_stand-clause-some : goal.returns-then-may_stand-clause-some
returns-then-may_stand-clause-some c =
    let next : next_terminal c.args.tokens.now ≡ Some c.in_ok-peek.field-0 = sym c.peek.ensures ∙ c.in_ok-peek.was in
    let is : modifier_of c.in_ok-peek.field-0 ≡ Some c.in_ok-modifier.modifier = sym c.modifier_of.ensures ∙ c.in_ok-modifier.was in
    (sym c.if-may_stand.ensures, next ∙ ap Some (sym (t.modifier_back _ _ is)))

pub returns-else-may_stand-clause-none : goal.returns-else-may_stand-clause-none
returns-else-may_stand-clause-none c =
    let next : next_terminal c.args.tokens.now ≡ Some c.in_ok-peek.field-0 = sym c.peek.ensures ∙ c.in_ok-peek.was in
    let is : modifier_of c.in_ok-peek.field-0 ≡ Some c.in_ok-modifier.modifier = sym c.modifier_of.ensures ∙ c.in_ok-modifier.was in
    t.not_allowed c.args.words c.args.tokens.now c.in_ok-peek.field-0 c.in_ok-modifier.modifier next is (sym c.if-may_stand.ensures)
