-- Assignments and calls as statements.
use Rattle.std.proofs.Common.{◌≡◌, ℕ, ◌+◌, Bool, true, false, List, ◌++◌, None, refl, sym, ap, ◌∙◌}
use Rattle.std.specs.Prelude.{◌&&◌}
use Rattle.st_types.specs.declared.st_type.StType.{StType}
use Rattle.st_tree.specs.declared.expression.Root.{Root}
use Rattle.st_tree.specs.declared.program.Note.{Note}
use Rattle.st_tree.specs.Expression.{Expression, Arguments, Selectors}
use Rattle.st_values.specs.Initial.{note_of}
use Rattle.st_meaning.specs.Call.{Callee, a_conversion, a_function, a_method, a_body, callee_of}
use Rattle.call_steps.specs.Callee.{callee_seen}
use Rattle.code_cells.specs.declared.cell.Cell.{Cell}
use Rattle.code_rules.specs.Plan.{Plan}
use Rattle.code_rules.specs.Places.{room_of}
use Rattle.code_rules.specs.Code.{is_conversion, keep_code, place_code, value_code}
use Rattle.code_rules.specs.Bodies.{assigned_code, call_code, called_effect_code}
use Rattle.codegen_parts.specs.declared.calls.CallPlan.{CallPlan}
use Rattle.codegen_parts.specs.CallPlans.{IsCallPlan, entered_code}
use Rattle.codegen_expr.specs.Sources.{IsSource}
use Rattle.codegen_expr.proofs.CallLaws.{effect_parts}
use Rattle.codegen_body.specs.Backward.{dropped_code}

-- a target whose way calls something
pub loud : (a b q : Bool) → q ≡ false → (a && (b && q)) ≡ false
loud false b q e = refl
loud true false q e = refl
loud true true q e = e

module _ (w : Plan) (line free : ℕ) where
  converts : (c : Callee) (xs : Arguments Note) (called : List Cell) → is_conversion c ≡ true → dropped_code w line free xs ≡ called_effect_code w line free c xs called
  converts a_conversion xs called e = refl
  converts (a_function k) xs called e = cc
  converts (a_method s name) xs called e = cc
  converts (a_body s) xs called e = cc

  enters : (c : Callee) (xs : Arguments Note) (called : List Cell) → is_conversion c ≡ false → called ≡ called_effect_code w line free c xs called
  enters a_conversion xs called e = cc
  enters (a_function k) xs called e = refl
  enters (a_method s name) xs called e = refl
  enters (a_body s) xs called e = refl

  module _ (r : Root Note) (ss : Selectors Note) (xs : Arguments Note) (k : CallPlan) (h : IsCallPlan w r ss xs free k) (c0 c1 : List Cell) where
    pub conversion_goes : is_conversion (callee_seen k.callee) ≡ true → c1 ≡ c0 ++ dropped_code w line free xs → c1 ≡ c0 ++ call_code w line free r ss xs
    conversion_goes n e = e ∙ ap (λ y. c0 ++ y) (converts (callee_of r ss) xs _ (sym (ap is_conversion h.callee) ∙ n))

    pub call_goes : is_conversion (callee_seen k.callee) ≡ false → c1 ≡ c0 ++ entered_code w line free k None r ss xs → c1 ≡ c0 ++ call_code w line free r ss xs
    call_goes n e = e ∙ ap (λ y. c0 ++ y) (effect_parts w line free r ss xs free k h ∙ enters (callee_of r ss) xs _ (sym (ap is_conversion h.callee) ∙ n))

  module _ (t : StType) (r : Root Note) (ss : Selectors Note) (e : Expression Note) (b : Bool) (c0 c1 : List Cell) where
    pub copied_goes : (q : Root Note) (qs : Selectors Note) → b ≡ true → IsSource e q qs → c1 ≡ c0 ++ (place_code w line free q qs ++ (place_code w line free r ss ++ keep_code w line t)) → c1 ≡ c0 ++ assigned_code w line free t r ss e b
    copied_goes q qs y s h = h ∙ ap (λ x. c0 ++ (x ++ (place_code w line free r ss ++ keep_code w line t))) (sym (s.code w line free)) ∙ ap (λ x. c0 ++ assigned_code w line free t r ss e x) (sym y)

    pub kept_goes : b ≡ false → c1 ≡ c0 ++ (value_code w line free e ++ (place_code w line (free + room_of w.size_of (note_of e).kind) r ss ++ keep_code w line t)) → c1 ≡ c0 ++ assigned_code w line free t r ss e b
    kept_goes n h = h ∙ ap (λ x. c0 ++ assigned_code w line free t r ss e x) (sym n)
