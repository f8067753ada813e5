-- An expression that breaks no rule is as it is promised, and its kind is the type that the rules give.
use Rattle.std.proofs.Common.{◌≡◌, ℕ, suc, Bool, true, false, List, [], Option, Some, None, refl, sym, ap, ◌∙◌, subst}
use Rattle.std.specs.Prelude.{◌&&◌, if◌then◌else◌}
use Rattle.std.specs.Option.{is_none}
use Rattle.plc_text.specs.declared.code.Code.TheVariants.{E07}
use Rattle.st_types.specs.declared.st_type.StType.{StType, out-StType}
use Rattle.st_types.specs.declared.st_type.StType.TheOpen.{StType-F}
use Rattle.st_tree.specs.declared.expression.Operator.{Operator}
use Rattle.st_tree.specs.Expression.{Expression, Expressions, expression_then, Selector, Field, Index, Selectors, selector_then, Tails, tail_then}
use Rattle.st_tree.specs.Expression as tree
use Rattle.st_rules.specs.declared.asked.Asked.{Asked}
use Rattle.st_rules.specs.declared.asked.Asked.TheVariants.{Anything, Wanted, Untold}
use Rattle.st_rules.specs.Kinds.{element_type, element_at_level, is_elementary, is_number, is_arithmetic, operation_type}
use Rattle.st_rules.specs.Literals.{asked_of, number_asked}
use Rattle.st_rules.specs.Scope.{Scope}
use Rattle.st_rules.specs.Places.{Standing, standing_of, standing_type, part_of, part_type, selector_faults, selected, super_without_base, index_on_no_array, indices_on_no_array, count_expressions, indexed}
use Rattle.st_rules.specs.Places as places
use Rattle.st_rules.specs.Expressions.{told, typed, typed_row, typed_along, typed_selector, typed_indices, part_note, part_target, standing_note, type_of, row_type, row_faults, index_unsuited, line_of, is_untyped, front_asked, operand_asked, operands_unsuited, unsuited_line, row_unsuited}
use Rattle.st_values.specs.Program.{Program}
use Rattle.st_meaning.specs.Expression.{selector_note}
use Rattle.st_meaning.specs.st_frame.Use.{last_kind}
use Rattle.st_meaning.specs.st_frame.Promise.Types.{IsElementary}
use Rattle.st_meaning.specs.st_frame.Promise.Names.{Scope as Around}
use Rattle.st_meaning.specs.st_frame.Promise.Places.{PartIs, TargetIs, ElementIs}
use Rattle.st_meaning.specs.st_frame.Promise.Operators.{OperationIs}
use Rattle.st_meaning.specs.st_frame.Promise.Calls.{kind}
use Rattle.st_meaning.specs.st_frame.Promise.Expressions.{AlongIs, SelectorIs, IndexIs, ExpressionIs, TailsAre}
use Rattle.place_laws.specs.Agrees.{Agrees}
use Rattle.place_laws.proofs.Words.{none_in, not_when, passes}
use Rattle.place_laws.proofs.Notes.{kind_told}
use Rattle.place_laws.proofs.Operators.{elementary_one, operation}
use Rattle.place_laws.proofs.Literals.{AsksForTold}
use Rattle.place_laws.proofs.Places.{StandsAs, stands_told, stands_of, told_as, field_found, target_found}

-- ---- what is asked for is told

pub asks_number : (asked : Asked) → AsksForTold asked → AsksForTold (number_asked asked)
unfolding number_asked
asks_number Anything h = tt
asks_number (Wanted t) h = by (is_elementary is_number t)
  where
    by : (b : Bool) → AsksForTold (if b then Wanted t else Anything)
    by true = tt
    by false = tt
asks_number Untold h = absurd h

pub asks_of : (o : Option StType) (t : StType) → o ≡ Some t → AsksForTold (asked_of o)
unfolding asked_of
asks_of None t h = cc
asks_of (Some u) t h = tt

pub asks_front : (b : Bool) (asked : Asked) → AsksForTold asked → AsksForTold (front_asked b asked)
unfolding front_asked
asks_front true asked h = h
asks_front false asked h = tt

pub asks_operand : (u b : Bool) (asked : Asked) (t : StType) → AsksForTold asked → AsksForTold (operand_asked u b asked (Some t))
unfolding operand_asked asked_of
asks_operand true true asked t h = h
asks_operand false true asked t h = tt
asks_operand u false asked t h = tt

index_one : (l : ℕ) (t : StType) → index_unsuited l (Some t) ≡ [] → IsElementary t
unfolding index_unsuited
index_one l t h = elementary_one is_number t (passes (is_elementary is_number t) E07 l h)

row_takes : (e : Expression ℕ) (l : ℕ) (o : Operator) (t u : StType) → row_unsuited e l o (Some t) (Some u) ≡ [] → operands_unsuited (unsuited_line (is_untyped e) (line_of e) l (Some t) (Some u)) o (Some t) (Some u) ≡ []
row_takes e l o t u h = h

element_of : (l : ℕ) (t : StType) → index_on_no_array l (Some t) ≡ [] → (w : StType) × (element_type t ≡ Some w) × ElementIs (out-StType t) w
element_of l t h = by (out-StType t) (not_when (is_none (element_at_level (out-StType t))) E07 l h)
  where
    by : (o : StType-F StType) → is_none (element_at_level o) ≡ false → (w : StType) × (element_at_level o ≡ Some w) × ElementIs o w
    by (StType-F.Array low high of) q = (of, refl, refl)
    by _ q = cc

module _ (s : Scope) (p : Program) (g : Around) (a : Agrees s p g) where
  -- an expression with its type
  pub record Right (asked : Asked) (e : Expression ℕ) : Type 0 where
    pub kind : StType
    pub told : type_of s asked e ≡ Some kind
    pub is : ExpressionIs p g (typed s asked e)

  pub noted_kind : (asked : Asked) (e : Expression ℕ) (t : StType) → type_of s asked e ≡ Some t → kind (typed s asked e) ≡ t
  noted_kind asked e t h = kind_told s asked e ∙ told_as (type_of s asked e) t h

  -- ---- selectors

  pub record Ahead (b : Standing) (t : StType) (ss : Selectors ℕ) : Type 0 where
    pub ends : StType
    pub stands : StandsAs (places.along s b ss) ends
    pub last : last_kind t (typed_along s false b ss) ≡ ends
    pub is : AlongIs p g (typed_along s false b ss) t

  pub record Stepped (b : Standing) (t : StType) (x : Selector ℕ) : Type 0 where
    pub ends : StType
    pub stands : StandsAs (selected s b x) ends
    pub noted : (selector_note (typed_selector s false b x)).kind ≡ ends
    pub is : SelectorIs p g (typed_selector s false b x) t

  pub field_step : (l line : ℕ) (b : Standing) (t : StType) (n : List ℕ) → StandsAs b t → selector_faults s line false b (Field l n) ≡ [] → Stepped b t (Field l n)
  unfolding selector_faults selected part_note
  field_step l line b t n h f =
      let q = field_found s p g a l b t n h f in
      let k = told_as (part_type (part_of s b false n)) q.0 q.1 in
      record { ends = q.0; stands = stands_of (part_type (part_of s b false n)) q.0 q.1; noted = k; is = subst (PartIs p t (part_target (part_of s b false n))) (sym k) q.2 }

  pub target_step : (l line : ℕ) (b : Standing) (t : StType) → StandsAs b t → selector_faults s line false b (tree.Target l) ≡ [] → Stepped b t (tree.Target l)
  unfolding standing_note
  target_step l line b t h f =
      let q = target_found s p g a line l false b t h f in
      let k = told_as (standing_type (selected s b (tree.Target l))) q.0 (stands_told (selected s b (tree.Target l)) q.0 q.1) in
      record { ends = q.0; stands = q.1; noted = k; is = subst (TargetIs t) (sym k) q.2 }

  -- what the indices lead to
  pub record Indexed (t : StType) (es : Expressions ℕ) : Type 0 where
    pub ends : StType
    pub told : indexed (count_expressions es) (Some t) ≡ Some ends
    pub is : IndexIs p g (typed_indices s es) t ends

  pub index_step : (l line : ℕ) (b : Standing) (t : StType) (es : Expressions ℕ) → StandsAs b t → (indices_on_no_array line (count_expressions es) (Some t) ≡ [] → Indexed t es) → selector_faults s line false b (Index l es) ≡ [] → Stepped b t (Index l es)
  unfolding selector_faults selected standing_note
  index_step l line b t es h each f =
      let e = stands_told b t h in
      let q = each (sym (ap (indices_on_no_array line (count_expressions es)) e) ∙ (none_in (super_without_base line b) _ f).1) in
      let told : indexed (count_expressions es) (standing_type b) ≡ Some q.ends = ap (indexed (count_expressions es)) e ∙ q.told in
      let stands = stands_of (indexed (count_expressions es) (standing_type b)) q.ends told in
      let k = told_as (standing_type (standing_of (indexed (count_expressions es) (standing_type b)))) q.ends (stands_told _ q.ends stands) in
      record { ends = q.ends; stands = stands; noted = k; is = subst (IndexIs p g (typed_indices s es) t) (sym k) q.is }

  pub next : (b : Standing) (t : StType) (x : Selector ℕ) (ss : Selectors ℕ) (o : Stepped b t x) → Ahead (selected s b x) o.ends ss → Ahead b t (selector_then x ss)
  next b t x ss o r =
      record {
        ends = r.ends;
        stands = r.stands;
        last = ap (λ k. last_kind k (typed_along s false (selected s b x) ss)) o.noted ∙ r.last;
        is = (o.is, subst (AlongIs p g (typed_along s false (selected s b x) ss)) (sym o.noted) r.is);
      }

  pub indexed_next : (line : ℕ) (t : StType) (e : Expression ℕ) (es : Expressions ℕ) → Right Anything e → index_unsuited (line_of e) (type_of s Anything e) ≡ [] → ((w : StType) → indices_on_no_array line (count_expressions es) (Some w) ≡ [] → Indexed w es) → indices_on_no_array line (suc (count_expressions es)) (Some t) ≡ [] → Indexed t (expression_then e es)
  indexed_next line t e es r u each f =
      let q = none_in (index_on_no_array line (Some t)) (indices_on_no_array line (count_expressions es) (element_type t)) f in
      let w = element_of line t q.0 in
      let z = each w.0 (sym (ap (indices_on_no_array line (count_expressions es)) w.1) ∙ q.1) in
      record {
        ends = z.ends;
        told = ap (indexed (count_expressions es)) w.1 ∙ z.told;
        is = (r.is, subst IsElementary (sym (noted_kind Anything e r.kind r.told)) (index_one (line_of e) r.kind (sym (ap (index_unsuited (line_of e)) r.told) ∙ u)), (w.0, w.2, z.is));
      }

  -- ---- operators

  pub record Rowed (untyped : Bool) (asked : Asked) (t : StType) (ts : Tails ℕ) : Type 0 where
    pub kind : StType
    pub told : row_type s untyped asked (Some t) ts ≡ Some kind
    pub is : TailsAre p g t (typed_row s untyped asked (Some t) ts) kind

  pub row_next : (untyped : Bool) (asked : Asked) (t : StType) (l : ℕ) (o : Operator) (e : Expression ℕ) (ts : Tails ℕ) → Right (operand_asked untyped (is_untyped e) asked (Some t)) e
      → row_unsuited e l o (Some t) (type_of s (operand_asked untyped (is_untyped e) asked (Some t)) e) ≡ []
      → ((w : StType) → row_faults s (is_arithmetic o && untyped && is_untyped e) asked (Some w) ts ≡ [] → Rowed (is_arithmetic o && untyped && is_untyped e) asked w ts)
      → row_faults s (is_arithmetic o && untyped && is_untyped e) asked (operation_type o (Some t) (type_of s (operand_asked untyped (is_untyped e) asked (Some t)) e)) ts ≡ []
      → Rowed untyped asked t (tail_then l o e ts)
  row_next untyped asked t l o e ts r u each f =
      let inner = operand_asked untyped (is_untyped e) asked (Some t) in
      let w = operation p _ o t r.kind (sym (ap (row_unsuited e l o (Some t)) r.told) ∙ u) in
      let told : operation_type o (Some t) (type_of s inner e) ≡ Some w.0 = ap (operation_type o (Some t)) r.told ∙ w.1 in
      let z = each w.0 (sym (ap (λ x. row_faults s (is_arithmetic o && untyped && is_untyped e) asked x ts) told) ∙ f) in
      let k = told_as (operation_type o (Some t) (type_of s inner e)) w.0 told in
      record {
        kind = z.kind;
        told = ap (λ x. row_type s (is_arithmetic o && untyped && is_untyped e) asked x ts) told ∙ z.told;
        is = (
          r.is,
          subst (λ x. OperationIs p o t x (Rattle.st_rules.specs.Expressions.told (operation_type o (Some t) (type_of s inner e)))) (sym (noted_kind inner e r.kind r.told)) (subst (OperationIs p o t r.kind) (sym k) w.2),
          subst (λ x. TailsAre p g x (typed_row s (is_arithmetic o && untyped && is_untyped e) asked (operation_type o (Some t) (type_of s inner e)) ts) z.kind) (sym k) (subst (λ x. TailsAre p g w.0 (typed_row s (is_arithmetic o && untyped && is_untyped e) asked x ts) z.kind) (sym told) z.is),
        );
      }
