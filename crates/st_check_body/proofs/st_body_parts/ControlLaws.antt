-- What stands before DO in a FOR, from its parts.
use Rattle.std.proofs.Common.{◌≡◌, ℕ, false, List, Option, ◌++◌, refl, sym, ap, ◌∙◌, subst}
use Rattle.std.specs.Prelude.{option_map}
use Rattle.plc_text.specs.declared.code.Code.{Code}
use Rattle.st_types.specs.declared.st_type.StType.{StType}
use Rattle.st_tree.specs.declared.program.Note.{Note}
use Rattle.st_tree.specs.Expression.{Expression, expression_of}
use Rattle.st_rules.specs.declared.asked.Asked.{Asked}
use Rattle.st_rules.specs.Faults.{Faults, least, earlier}
use Rattle.st_rules.specs.Literals.{asked_of}
use Rattle.st_rules.specs.Scope.{Scope, sought}
use Rattle.st_rules.specs.Scope as scope
use Rattle.st_rules.specs.Expressions.{note, meant_target, type_of, typed, expression_faults}
use Rattle.st_rules.specs.Statements.{control_type, control_asked, control_faults, step_faults}
use Rattle.check_nodes.specs.declared.found.Checked.{Checked}
use Rattle.check_nodes.specs.Found.{Finds}
use Rattle.st_check_body.specs.declared.st_body_parts.found.CheckedControl.{CheckedControl}
use Rattle.st_check_body.specs.declared.st_body_parts.found.CheckedStep.{CheckedStep}
use Rattle.st_check_body.specs.st_body_parts.Found.{ControlFinds, StepFinds}
use Rattle.st_check_body.proofs.st_body_parts.Parts.{joined}

pub control_arm : (c : CheckedControl) (s : Scope) (line : ℕ) (name : List ℕ) (from to : Expression ℕ) (by : Option (Expression ℕ)) (m : Option scope.Meant) (asked : Asked) (t w : Option StType) (x y : Checked) (st : CheckedStep) (own u v : Option (Code × ℕ)) →
    m ≡ sought s false name → own ≡ least (control_faults s line name) → t ≡ control_type m → asked ≡ asked_of t →
    Finds x (type_of s asked from) (expression_faults s asked from) (typed s asked from) → Finds y (type_of s asked to) (expression_faults s asked to) (typed s asked to) → StepFinds st s asked by → w ≡ control_type m →
    u ≡ earlier own x.least → v ≡ earlier u y.least → c.least ≡ earlier v st.least → c.note ≡ note line w (meant_target m) → c.from ≡ x.tree → c.to ≡ y.tree → c.by ≡ st.step → ControlFinds c s line name from to by
control_arm c s line name from to by m asked t w x y st own u v hm ho ht ha f g k hw hu hv h hn hf hl hb =
    let a : asked ≡ control_asked s name = ha ∙ ap asked_of (ht ∙ ap control_type hm) in
    let first : Finds x (type_of s (control_asked s name) from) (expression_faults s (control_asked s name) from) (typed s (control_asked s name) from) = subst (λ (d : Asked). Finds x (type_of s d from) (expression_faults s d from) (typed s d from)) a f in
    let last : Finds y (type_of s (control_asked s name) to) (expression_faults s (control_asked s name) to) (typed s (control_asked s name) to) = subst (λ (d : Asked). Finds y (type_of s d to) (expression_faults s d to) (typed s d to)) a g in
    let step : StepFinds st s (control_asked s name) by = subst (λ (d : Asked). StepFinds st s d by) a k in
    record {
      broken = joined c.least v st.least (control_faults s line name ++ expression_faults s (control_asked s name) from ++ expression_faults s (control_asked s name) to) (step_faults s (control_asked s name) by) h
          (joined v u y.least (control_faults s line name ++ expression_faults s (control_asked s name) from) (expression_faults s (control_asked s name) to) hv
          (joined u own x.least (control_faults s line name) (expression_faults s (control_asked s name) from) hu ho first.least) last.least) step.broken;
      note_is = hn ∙ ap (λ d. note line d (meant_target m)) (hw ∙ ap control_type hm) ∙ ap (λ d. note line (control_type (sought s false name)) (meant_target d)) hm;
      from_is = ap expression_of hf ∙ first.tree;
      to_is = ap expression_of hl ∙ last.tree;
      by_is = ap (option_map expression_of) hb ∙ step.step_is;
    }
