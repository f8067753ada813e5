-- Constant expressions that are initial values, and names in lists.
use Rattle.std.proofs.Common.{◌≡◌, ℕ, Bool, List, ◌++◌, Option, sym, ap, ◌∙◌, subst}
use Rattle.std.specs.List.{list_any}
use Rattle.plc_text.specs.Words.{same}
use Rattle.plc_text.specs.declared.code.Code.{Code}
use Rattle.plc_text.specs.declared.code.Code.TheVariants.{E05, E07, E10}
use Rattle.st_types.specs.declared.st_type.StType.{StType}
use Rattle.st_tree.specs.declared.expression.Expr.{Expr}
use Rattle.st_tree.specs.declared.initial.FieldInit.{FieldInit}
use Rattle.st_tree.specs.declared.program.Note.{Note}
use Rattle.st_tree.specs.Expression.{Expression, expression_of}
use Rattle.st_tree.specs.Initial.{Initial, Value, initial_of, field_of, field_of-is}
use Rattle.st_rules.specs.declared.asked.Asked.{Asked}
use Rattle.st_rules.specs.Faults.{least, earlier, when}
use Rattle.st_rules.specs.Literals.{asked_of}
use Rattle.st_rules.specs.Scope.{Scope}
use Rattle.st_unit_rules.specs.declared_names.Constants.{constant_faults, constant_value}
use Rattle.st_unit_rules.specs.Initials.{Given, given_by, is_not_found, is_out_of_access, field_not_found, field_named_twice, field_out_of_access, outcome_target, with_note, typed_constant}
use Rattle.constant_folding.specs.constant_values.Outcome.{outcome}
use Rattle.st_check_expr.specs.declared.constants.Constant.{Constant}
use Rattle.st_check_expr.specs.Constants.{IsConstant}
use Rattle.check_initial_values.specs.declared.found.CheckedInitial.{CheckedInitial}
use Rattle.check_initial_values.specs.Worth.{noted}
use Rattle.check_initial_values.specs.Private.Found.{ValueChecks}
use Rattle.check_initial_values.specs.Private.Names.{name_faults}
use Rattle.check_initial_values.proofs.Parts.{joined}

pub value_checks : (c : CheckedInitial) (s : Scope) (t copy : Option StType) (e : Expression ℕ) (asked : Asked) (x : Constant) (tree : Expr Note) → copy ≡ t → asked ≡ asked_of copy → IsConstant x s asked e → c.least ≡ x.least
    → initial_of c.tree ≡ Value (expression_of tree) → expression_of tree ≡ with_note (noted (outcome_target (outcome x.value))) (expression_of x.tree) → ValueChecks c s t e
value_checks c s t copy e asked x tree p q f l i w =
    let at : asked ≡ asked_of t = q ∙ ap asked_of p in
    let g : IsConstant x s (asked_of t) e = subst (λ (a : Asked). IsConstant x s a e) at f in
    record {
      least = l ∙ g.least;
      tree = i ∙ ap (λ y. Value y) (w ∙ ap (λ v. with_note (noted (outcome_target v)) (expression_of x.tree)) g.value ∙ ap (with_note (noted (outcome_target (constant_value s (asked_of t) e)))) g.tree);
    }

-- ---- names

pub name_found : (s : Scope) (t : Option StType) (line : ℕ) (names : List (List ℕ)) (name : List ℕ) (g : Given) (not_found twice out : Bool) (x y z p r : Option (Code × ℕ)) → g ≡ given_by s t name → not_found ≡ is_not_found g
    → twice ≡ list_any (same name) names → out ≡ is_out_of_access s g → x ≡ least (when not_found E05 line) → y ≡ least (when twice E07 line) → z ≡ least (when out E10 line) → p ≡ earlier x y → r ≡ earlier p z
    → r ≡ least (name_faults s t line names name)
name_found s t line names name g not_found twice out x y z p r is n d o a b c e f =
    let given = given_by s t name in
    joined r p z (field_not_found line given ++ field_named_twice line names name) (field_out_of_access s line given) f
    (joined p x y (field_not_found line given) (field_named_twice line names name) e
    (a ∙ ap (λ v. least (when v E05 line)) (n ∙ ap is_not_found is))
    (b ∙ ap (λ v. least (when v E07 line)) d))
    (c ∙ ap (λ v. least (when v E10 line)) (o ∙ ap (is_out_of_access s) is))

as_field : Note → List ℕ → Initial Note → Note × List ℕ × Initial Note
as_field n name i = (n, name, i)

pub field_made : (f : FieldInit Note) (n : Note) (name : List ℕ) (i : Initial Note) → f.note ≡ n → f.name ≡ name → initial_of f.value ≡ i → field_of f ≡ (n, name, i)
unfolding as_field
field_made f n name i p q r = field_of-is f ∙ ap (λ m. as_field m f.name (initial_of f.value)) p ∙ ap (λ ns. as_field n ns (initial_of f.value)) q ∙ ap (as_field n name) r
