-- The typed tree of an expression tells its value.
use Rattle.std.proofs.Common.{◌≡◌, ℕ, Bool, true, false, List, Option, Some, None, refl, sym, ap, ◌∙◌}
use Rattle.std.specs.Prelude.{pos, if◌then◌else◌, ◌&&◌}
use Rattle.plc_num.specs.Arithmetic.{difference}
use Rattle.plc_num.specs.Bits.{complement}
use Rattle.st_types.specs.declared.elem.Elem.{Elem}
use Rattle.st_types.specs.declared.st_type.StType.{StType}
use Rattle.st_types.specs.declared.st_type.StType.TheVariants as type
use Rattle.st_tree.specs.declared.expression.Root.{Root}
use Rattle.st_tree.specs.declared.expression.Root.TheVariants as root
use Rattle.st_tree.specs.declared.program.Target.TheVariants as target
use Rattle.st_tree.specs.Expression.{Expression, Int, Typed, Time, True, False, Null, Place, Call, Enumerator, Ref, Now, Paren, Not, Negate, Chain, Field, Selectors, no_selectors, selector_then, Positional, Input, Output, Arguments, no_arguments, argument_then, Tails, no_tails, tail_then}
use Rattle.st_rules.specs.declared.asked.Asked.{Asked}
use Rattle.st_rules.specs.declared.asked.Asked.TheVariants.{Anything}
use Rattle.st_rules.specs.declared.names.DeclaredRoutine.{DeclaredRoutine}
use Rattle.st_rules.specs.Kinds.{is_arithmetic, operation_type, unary_type, takes_not, takes_minus}
use Rattle.st_rules.specs.Literals.{number_asked}
use Rattle.st_rules.specs.Scope.{Scope, Meant, a_variable, a_function, an_enumerator, sought, method_routine, prototype_routine, is_block_at}
use Rattle.st_rules.specs.Scope as scope
use Rattle.st_rules.specs.Places.{Standing, untold, a_value, own_instance, no_base, an_enumeration, Part, a_field, a_member, a_prototype, a_value_of, part_of, selected, root_standing}
use Rattle.st_rules.specs.Places as places
use Rattle.st_rules.specs.Calls.{Callee, a_body, base_body, no_base_body, not_callable, block_body, called_type, routine_callee, meant_callee, part_callee, own_callee, standing_callee, callee_along, name_callee, callee, conversion_named, heads, Matched, first_match, asked_by, call_matches}
use Rattle.st_rules.specs.Expressions.{is_int, is_untyped, front_asked, operand_asked, asked_behind, type_of, typed, typed_row, typed_root, typed_along, typed_arguments, told, note}
use Rattle.st_unit_rules.specs.declared_names.Constants.{Outcome, cannot_be_told, operated, outcome_map, kind_in, constant_value, row_value, operand_value, converted_value}
use Rattle.constant_folding.specs.constant_values.Noted.{conversion_at, converted_by, noted_value, noted_row, noted_operand}
use Rattle.constant_folding.specs.constant_values.ValueLaws.{ValueLaws}
use Rattle.constant_folding.proofs.constant_values.NotedLaws.{negated_other}

-- what cannot be told is noted as the kind that operations have then
noted-kind : (o : Option StType) → kind_in (Some (told o)) ≡ kind_in o
unfolding told
noted-kind None = refl
noted-kind (Some t) = refl

module _ (s : Scope) where
  -- ---- calls

  -- what is no conversion has no value
  abbrev IsUntold : Callee → Type 0
  IsUntold c = (x : Outcome) → converted_value c x ≡ cannot_be_told

  one-untold : (b : Bool) (c d : Callee) → IsUntold c → IsUntold d → IsUntold (if b then c else d)
  one-untold true c d h k = h
  one-untold false c d h k = k

  block-untold : (c : ℕ) → IsUntold (block_body s c)
  block-untold c = one-untold (is_block_at s c) (a_body c) not_callable (λ x. refl) (λ x. refl)

  type-untold : (t : Option StType) → IsUntold (called_type s t)
  type-untold None x = refl
  type-untold (Some (type.Instance c)) x = block-untold c x
  type-untold (Some t) x = refl

  routine-untold : (r : Option DeclaredRoutine) → IsUntold (routine_callee s r)
  routine-untold None x = refl
  routine-untold (Some r) x = refl

  meant-untold : (m : Option Meant) → IsUntold (meant_callee s m)
  meant-untold None x = refl
  meant-untold (Some (a_variable c v)) x = type-untold v.kind x
  meant-untold (Some (scope.a_method id)) x = routine-untold (method_routine s id) x
  meant-untold (Some (a_function k r)) x = refl
  meant-untold (Some (an_enumerator n k)) x = refl

  part-untold : (p : Option Part) → IsUntold (part_callee s p)
  part-untold None x = refl
  part-untold (Some (a_field k t)) x = type-untold t x
  part-untold (Some (a_member d v)) x = type-untold v.kind x
  part-untold (Some (places.a_method id)) x = routine-untold (method_routine s id) x
  part-untold (Some (a_prototype id)) x = routine-untold (prototype_routine s id) x
  part-untold (Some (a_value_of n k)) x = refl

  own-untold : (r : Root ℕ) (c : ℕ) → IsUntold (own_callee s r c)
  own-untold (root.Super l) c = one-untold (is_block_at s c) (base_body c) no_base_body (λ x. refl) (λ x. refl)
  own-untold (root.This l) c = block-untold c
  own-untold (root.Name l name) c = block-untold c

  standing-untold : (r : Root ℕ) (b : Standing) → IsUntold (standing_callee s r b)
  standing-untold r untold x = refl
  standing-untold r (a_value t) x = type-untold (Some t) x
  standing-untold r (own_instance c) x = own-untold r c x
  standing-untold r no_base x = refl
  standing-untold r (an_enumeration n) x = refl

  along-untold : (r : Root ℕ) (b : Standing) (ss : Selectors ℕ) → IsUntold (callee_along s r b ss)
  along-untold r b no_selectors x = standing-untold r b x
  along-untold r b (selector_then (Field l name) no_selectors) x = part-untold (part_of s b true name) x
  along-untold r b (selector_then y ss) x = along-untold r (selected s b y) ss x

  named-call : (c : Option (Elem × Elem)) (m : Option Meant) (x : Outcome) → converted_by c x ≡ converted_value (name_callee s c m) x
  named-call (Some c) m x = refl
  named-call None m x = sym (meant-untold m x)

  call-value : (r : Root ℕ) (ss : Selectors ℕ) (x : Outcome) → converted_by (conversion_at (typed_root s true r ss) (typed_along s true (root_standing s r ss) ss)) x ≡ converted_value (callee s r ss) x
  unfolding typed_root callee
  call-value (root.Name l name) no_selectors x = named-call (conversion_named name) (sought s true name) x
  call-value (root.This l) no_selectors x = sym (standing-untold (root.This l) (root_standing s (root.This l) no_selectors) x)
  call-value (root.Super l) no_selectors x = sym (standing-untold (root.Super l) (root_standing s (root.Super l) no_selectors) x)
  call-value r (selector_then y ss) x = sym (along-untold r (root_standing s r (selector_then y ss)) (selector_then y ss) x)

  -- ---- signs

  not-int : (e : Expression ℕ) → is_int e ≡ false → (asked : Asked) → is_int (typed s asked e) ≡ false
  not-int (Int j digits) h asked = absurd (cc)
  not-int (Negate j (Int i digits)) h asked = refl
  not-int (Negate j e) h asked = refl
  not-int e h asked = refl

  minus-value : (l : ℕ) (e : Expression ℕ) (asked : Asked) → noted_value (typed s asked e) ≡ constant_value s asked e → is_int e ≡ false
      → noted_value (Negate (note l (unary_type takes_minus (type_of s asked e)) target.Nothing) (typed s asked e))
      ≡ outcome_map (difference (kind_in (unary_type takes_minus (type_of s asked e))) (pos 0)) (constant_value s asked e)
  minus-value l e asked h k =
      negated_other (note l (unary_type takes_minus (type_of s asked e)) target.Nothing) (typed s asked e) (not-int e k asked)
      ∙ ap (λ d. outcome_map (difference d (pos 0)) (noted_value (typed s asked e))) (noted-kind (unary_type takes_minus (type_of s asked e)))
      ∙ ap (outcome_map (difference (kind_in (unary_type takes_minus (type_of s asked e))) (pos 0))) h

  sign-value : (l : ℕ) (e : Expression ℕ) (asked : Asked) → ((a : Asked) → noted_value (typed s a e) ≡ constant_value s a e) → noted_value (typed s asked (Negate l e)) ≡ constant_value s asked (Negate l e)
  sign-value l (Int k digits) asked h = refl
  sign-value l e asked h = minus-value l e (front_asked (is_untyped e) (number_asked asked)) (h (front_asked (is_untyped e) (number_asked asked))) refl

  -- ---- all together

  mutual
    value : (e : Expression ℕ) (asked : Asked) → noted_value (typed s asked e) ≡ constant_value s asked e
    value (Int l digits) asked = refl
    value (Typed l k literal) asked = refl
    value (Time l text) asked = refl
    value (True l) asked = refl
    value (False l) asked = refl
    value (Null l) asked = refl
    value (Place l r ss) asked = refl
    value (Call l r ss xs) asked =
        let ms = call_matches s (callee s r ss) (heads xs) in
        call-value r ss (noted_operand (typed_arguments s ms xs)) ∙ ap (converted_value (callee s r ss)) (value-operand xs ms)
    value (Enumerator l t k name) asked = refl
    value (Ref l r ss) asked = refl
    value (Now l) asked = refl
    value (Paren l e) asked = value e asked
    value (Not l e) asked =
        ap (λ d. outcome_map (complement d) (noted_value (typed s Anything e))) (noted-kind (unary_type takes_not (type_of s Anything e)))
        ∙ ap (outcome_map (complement (kind_in (unary_type takes_not (type_of s Anything e))))) (value e Anything)
    value (Negate l e) asked = sign-value l e asked (value e)
    value (Chain l e ts) asked =
        let front = front_asked (is_untyped e) (asked_behind s asked ts) in
        value-row ts (is_untyped e) front (type_of s front e) (noted_value (typed s front e)) ∙ ap (λ x. row_value s (is_untyped e) front (type_of s front e) x ts) (value e front)

    value-row : (ts : Tails ℕ) (u : Bool) (asked : Asked) (t : Option StType) (x : Outcome) → noted_row x (typed_row s u asked t ts) ≡ row_value s u asked t x ts
    value-row no_tails u asked t x = refl
    value-row (tail_then l o e ts) u asked t x =
        let inner = operand_asked u (is_untyped e) asked t in
        let w = operation_type o t (type_of s inner e) in
        let v = is_arithmetic o && u && is_untyped e in
        ap (λ d. noted_row (operated o d l x (noted_value (typed s inner e))) (typed_row s v asked w ts)) (noted-kind w)
        ∙ ap (λ y. noted_row (operated o (kind_in w) l x y) (typed_row s v asked w ts)) (value e inner)
        ∙ value-row ts v asked w (operated o (kind_in w) l x (constant_value s inner e))

    value-operand : (xs : Arguments ℕ) (ms : List Matched) → noted_operand (typed_arguments s ms xs) ≡ operand_value s (asked_by (first_match ms)) xs
    value-operand no_arguments ms = refl
    value-operand (argument_then (Positional e) xs) ms = value e (asked_by (first_match ms))
    value-operand (argument_then (Input l name e) xs) ms = refl
    value-operand (argument_then (Output l name k r ss) xs) ms = refl

pub value-laws : ValueLaws
value-laws = record { value = λ s asked e. value s e asked }
