use Rattle.std.proofs.Common.{◌+◌, ◌-◌, length, ap, ◌∙◌, subst, arith}
use Rattle.std.proofs.lemmas.Result.{on_ok_weaker}
use Rattle.st_tree.specs.Expression.{expression_of}
use Rattle.st_tree.specs.Statement.{statement_of, statements_of}
use Rattle.code_rules.specs.Bodies.{effect_code}
use Rattle.codegen_tables.specs.Context.{plan_in}
use Rattle.codegen_body.specs.Backward.{targets_at, Within}
use Rattle.codegen_body.proofs.BackLaws.{branch_goes, branch_seen, case_goes, case_seen, branches_next, cases_next, built_behind, call_statement_goes, if_goes, more_behind, statements_next, case_goes_whole}
use Rattle.codegen_body.proofs.LoopLaws.{while_goes, repeat_goes, for_goes}
use Rattle.codegen_body.proofs.statements.+bodies.Goals as goal

pub emit_branch-returns : goal.emit_branch-returns
emit_branch-returns t c =
    branch_seen (plan_in c.args.c.now) c.args.line c.args.free (targets_at c.args.end c.args.to) c.args.end c.args.branch.now c.as_slice.result.now _ _ c.as_slice.ensures
    (branch_goes (plan_in c.args.c.now) c.args.line c.args.free c.args.to c.args.end c.requires.behind (expression_of c.args.branch.now.condition) (statements_of c.as_slice.result.now) c.args.cells.now.items c.push.new.cells.items c.emit_body.new.cells.items c.push-2.new.cells.items c.emit_condition.new.cells.items c.in_ok-far.far c.len-at.result c.in-Some.past
    (c.in_ok-far.ensures ∙ ap (λ n. n - c.args.end) (c.len.ensures ∙ c.args.cells.now.ok.0)) c.in_ok-push.ensures (c.len-at.ensures ∙ c.push.new.cells.ok.0) c.in_ok-emit_body.ensures
    (let x = c.in-Some.ensures in let y = c.in_ok-past.ensures in let z = c.len-2.ensures ∙ c.emit_body.new.cells.ok.0 in x.1 ∙ ap (λ n. n + 1) (y ∙ ap (λ n. n - c.len-at.result) z)) c.in_ok-push-2.ensures c.in_ok-emit_condition.ensures)

pub emit_body-statements-preserved : goal.emit_body-statements-preserved
emit_body-statements-preserved t c =
    let h = c.statements.invariant in
    let p = c.statements-test.true in
    let w = h.within in
    let b = h.behind in
    let m = more_behind c.statements.cells.items c.emit_statement.new.cells.items (effect_code (plan_in c.args.c.now) (targets_at (length c.statements.cells.items) c.args.to) c.args.free (statement_of c.index-body-i.result)) c.in_ok-emit_statement.ensures in
    record {
      within = omega (arith, w);
      behind = omega (arith, b, m);
      done = statements_next (plan_in c.args.c.now) c.args.free c.args.to c.args.cells.now.items c.args.body.now c.statements.i c.index-body-i.result c.statements.cells.items c.emit_statement.new.cells.items (subst (Within c.args.to) c.args.cells.now.ok.0 c.requires) p (omega (arith, p, w)) c.index-body-i.is h.done c.in_ok-emit_statement.ensures;
    }

pub emit_branches-branches-preserved : goal.emit_branches-branches-preserved
emit_branches-branches-preserved t c =
    let h = c.branches.invariant in
    let p = c.branches-test.true in
    let w = h.within in
    record {
      within = omega (arith, w);
      done = branches_next (plan_in c.args.c.now) c.args.line c.args.free (targets_at c.args.end c.args.to) c.args.end c.args.branches.now c.branches.i c.index-branches-i.result _ _ _ p (omega (arith, p, w)) c.index-branches-i.is h.done c.in_ok-emit_branch.ensures;
      behind = built_behind c.in_ok-emit_branch.ensures h.behind;
    }

pub emit_case-returns : goal.emit_case-returns
emit_case-returns t c =
    case_seen (plan_in c.args.c.now) c.args.line c.args.free (targets_at c.args.end c.args.to) c.args.end c.args.case.now c.as_slice-2.result.now c.as_slice.result.now _ _ c.as_slice-2.ensures c.as_slice.ensures
    (case_goes (plan_in c.args.c.now) c.args.line c.args.free c.args.to c.args.end c.requires.behind c.as_slice-2.result.now (statements_of c.as_slice.result.now) c.args.cells.now.items c.push.new.cells.items c.emit_body.new.cells.items c.does.new.cells.items c.push-2.new.cells.items c.emit_labels.new.cells.items c.in_ok-far.far c.len-at.result c.in-Some.past
    (c.in_ok-far.ensures ∙ ap (λ n. n - c.args.end) (c.len.ensures ∙ c.args.cells.now.ok.0)) c.in_ok-push.ensures (c.len-at.ensures ∙ c.push.new.cells.ok.0) c.in_ok-emit_body.ensures
    (let x = c.in-Some.ensures in let y = c.in_ok-past.ensures in let z = c.len-2.ensures ∙ c.emit_body.new.cells.ok.0 in x.1 ∙ ap (λ n. n + 2) (y ∙ ap (λ n. n - c.len-at.result) z)) c.in_ok-does.ensures c.in_ok-push-2.ensures c.in_ok-emit_labels.ensures)

pub emit_cases-cases-preserved : goal.emit_cases-cases-preserved
emit_cases-cases-preserved t c =
    let h = c.cases.invariant in
    let p = c.cases-test.true in
    let w = h.within in
    record {
      within = omega (arith, w);
      done = cases_next (plan_in c.args.c.now) c.args.line c.args.free (targets_at c.args.end c.args.to) c.args.end c.args.cases.now c.cases.i c.index-cases-i.result _ _ _ p (omega (arith, p, w)) c.index-cases-i.is h.done c.in_ok-emit_case.ensures;
      behind = built_behind c.in_ok-emit_case.ensures h.behind;
    }

pub emit_statement-returns-in-Call : goal.emit_statement-returns-in-Call
emit_statement-returns-in-Call t c =
    on_ok_weaker c.emit_call_statement.result (λ h. call_statement_goes (plan_in c.args.c.now) c.args.free c.args.to c.args.s.now c.args.cells.now.items c.in-Call.line c.in-Call.field-1 c.in-Call.place c.in-Call.arguments c.as_slice.result.now c.emit_call_statement.new.cells.items
    c.in-Call.is c.as_slice.ensures h) c.emit_call_statement.ensures

pub emit_statement-returns-in_ok-emit_branches-in-If : goal.emit_statement-returns-in_ok-emit_branches-in-If
emit_statement-returns-in_ok-emit_branches-in-If t c =
    on_ok_weaker c.does.result (λ h. if_goes (plan_in c.args.c.now) c.args.free c.args.to c.args.s.now c.args.cells.now.items c.len-end.result (c.len-end.ensures ∙ c.args.cells.now.ok.0) c.in-If.line c.in-If.branches c.as_slice-in-If.result.now c.in-If.otherwise c.emit_otherwise.new.cells.items c.emit_branches.new.cells.items c.does.new.cells.items
    c.in-If.is c.as_slice-in-If.ensures c.in_ok-emit_otherwise-in-If.ensures c.in_ok-emit_branches-in-If.ensures h) c.does.ensures

pub emit_statement-returns-in_ok-emit_condition-in-Case : goal.emit_statement-returns-in_ok-emit_condition-in-Case
emit_statement-returns-in_ok-emit_condition-in-Case t c =
    on_ok_weaker c.does-in-Case-2.result (λ h. case_goes_whole (plan_in c.args.c.now) c.args.free c.args.to c.args.s.now c.args.cells.now.items c.len-end-in-Case.result (c.len-end-in-Case.ensures ∙ c.args.cells.now.ok.0) c.in-Case.line c.in-Case.e c.in-Case.cases c.as_slice-in-Case.result.now c.in-Case.otherwise c.emit_otherwise-in-Case.new.cells.items c.does-in-Case.new.cells.items c.emit_cases.new.cells.items c.emit_condition.new.cells.items c.does-in-Case-2.new.cells.items
    c.in-Case.is c.as_slice-in-Case.ensures c.in_ok-emit_otherwise-in-Case.ensures c.in_ok-does-in-Case.ensures c.in_ok-emit_cases-in-Case.ensures c.in_ok-emit_condition-in-Case.ensures h) c.does-in-Case-2.ensures

pub emit_statement-returns-in_ok-emit_body-in-While : goal.emit_statement-returns-in_ok-emit_body-in-While
emit_statement-returns-in_ok-emit_body-in-While t c =
    let within = subst (Within c.args.to) c.args.cells.now.ok.0 c.requires in
    on_ok_weaker c.close_while.result (λ h. while_goes (plan_in c.args.c.now) c.args.free c.args.to c.args.s.now c.args.cells.now.items c.len-end-in-While.result (c.len-end-in-While.ensures ∙ c.args.cells.now.ok.0) within c.in-While.line c.len.result c.in-While.e c.in-While.body c.as_slice-in-While.result.now
    c.push.new.cells.items _ _ c.in-While.is c.as_slice-in-While.ensures c.in_ok-push-in-While.ensures (c.len.ensures ∙ c.push.new.cells.ok.0) c.in_ok-emit_body-in-While.ensures h) c.close_while.ensures

pub emit_statement-returns-in_ok-emit_body-in-Repeat : goal.emit_statement-returns-in_ok-emit_body-in-Repeat
emit_statement-returns-in_ok-emit_body-in-Repeat t c =
    let within = subst (Within c.args.to) c.args.cells.now.ok.0 c.requires in
    on_ok_weaker c.close_repeat.result (λ h. repeat_goes (plan_in c.args.c.now) c.args.free c.args.to c.args.s.now c.args.cells.now.items c.len-end-in-Repeat.result (c.len-end-in-Repeat.ensures ∙ c.args.cells.now.ok.0) within c.in-Repeat.line c.len-in-Repeat.result c.in-Repeat.e c.in-Repeat.body c.as_slice-in-Repeat.result.now
    _ _ _ c.in-Repeat.is c.as_slice-in-Repeat.ensures c.in_ok-open_repeat-in-Repeat.ensures.code (c.len-in-Repeat.ensures ∙ c.open_repeat.new.cells.ok.0) c.in_ok-emit_body-in-Repeat.ensures h) c.close_repeat.ensures

pub emit_statement-returns-in_ok-close_for-in-For : goal.emit_statement-returns-in_ok-close_for-in-For
emit_statement-returns-in_ok-close_for-in-For t c =
    let within = subst (Within c.args.to) c.args.cells.now.ok.0 c.requires in
    on_ok_weaker c.begin_for.result (λ h. for_goes (plan_in c.args.c.now) c.args.free c.args.to c.args.s.now c.args.cells.now.items c.len-end-in-For.result (c.len-end-in-For.ensures ∙ c.args.cells.now.ok.0) within c.in-For.line c.len-in-For.result c.in_ok-behind-in-For.behind c.in-For.a c.in-For.field-2 c.in-For.from c.in-For.last c.in-For.by
    c.in-For.body c.as_slice-in-For.result.now c.count_kinds-kinds.result c.open_for.new.cells.items c.emit_body-in-For.new.cells.items c.close_for.new.cells.items c.begin_for.new.cells.items c.in-For.is c.as_slice-in-For.ensures c.count_kinds-kinds.ensures c.in_ok-behind-in-For.ensures c.in_ok-open_for-in-For.ensures (c.len-in-For.ensures ∙ c.open_for.new.cells.ok.0) c.in_ok-emit_body-in-For.ensures c.in_ok-close_for-in-For.ensures h) c.begin_for.ensures
