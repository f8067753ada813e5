-- A constant expression whose names are all told and that breaks no rule has a type, and comes to a number of it.
use Rattle.std.proofs.Common.{◌≡◌, ℕ, Bool, true, false, List, [], ◌++◌, Option, Some, None, refl, sym, ap, ◌∙◌, subst, arith}
use Rattle.std.specs.Prelude.{pos, if◌then◌else◌, ◌&&◌, option_map}
use Rattle.std.specs.Option.{is_some}
use Rattle.plc_num.specs.Arithmetic.{difference}
use Rattle.plc_num.specs.Bits.{complement}
use Rattle.plc_num.specs.Conversion.{converted}
use Rattle.st_types.specs.declared.elem.Elem.{Elem}
use Rattle.st_types.specs.declared.elem.Elem.TheVariants as elem
use Rattle.st_types.specs.declared.st_type.StType.{StType}
use Rattle.st_types.specs.declared.st_type.StType.TheVariants as type
use Rattle.st_tree.specs.declared.expression.Operator.{Operator}
use Rattle.st_tree.specs.declared.expression.Root.{Root}
use Rattle.st_tree.specs.declared.expression.Root.TheVariants as root
use Rattle.st_tree.specs.declared.program.Target.{Target}
use Rattle.st_tree.specs.declared.program.Target.TheVariants as target
use Rattle.st_tree.specs.Duration.{milliseconds}
use Rattle.st_tree.specs.Expression.{Expression, Int, Typed, Time, True, False, Null, Place, Call, Enumerator, Ref, Now, Paren, Not, Negate, Chain, Field, Selectors, no_selectors, selector_then, Arguments, Tails, no_tails, tail_then}
use Rattle.st_rules.specs.declared.asked.Asked.{Asked}
use Rattle.st_rules.specs.declared.asked.Asked.TheVariants.{Anything, Wanted, Untold}
use Rattle.st_rules.specs.declared.names.DeclaredVariable.{DeclaredVariable}
use Rattle.st_rules.specs.Kinds.{boolean, time, is_arithmetic, operation_type, unary_type, takes_not, takes_minus}
use Rattle.st_rules.specs.Literals.{int_type, negative_type, number_asked, asked_of, typed_literal_type, literal_number, null_type}
use Rattle.st_rules.specs.Scope.{Scope, Meant, a_variable, a_function, an_enumerator, Qualifier, values_of, of_untold, no_qualifier, sought, type_qualifier, dot_qualifier, value_of}
use Rattle.st_rules.specs.Scope as scope
use Rattle.st_rules.specs.Places.{a_value_of, part_type, root_standing, placed, selected, standing_of, standing_type, meant_type, qualified_standing, part_of, place_type}
use Rattle.st_rules.specs.Calls.{value_unsuited, a_conversion, callee, call_type, heads, first_match, asked_by, call_matches}
use Rattle.st_rules.specs.Expressions.{line_of, is_untyped, front_asked, operand_asked, asked_behind, type_of, row_type, row_unsuited, unsuited_line, operand_unsuited, faults, row_faults, whole_target, qualified_target, value_target, part_target, note_of_value, enumerator_type, value_type, enumerator_target}
use Rattle.st_unit_rules.specs.declared_names.Constants.{Outcome, comes_to, is_told, value_faults, zero_divisor, operated, outcome_map, kind_in, constant_value, row_value, operand_value, converted_value, target_value, names_are_told, operands_are_told, no_constant_part, no_constant_operand, no_constant_argument}
use Rattle.st_values.specs.Program.{Program}
use Rattle.st_meaning.specs.st_frame.Promise.Types.{NumberIs}
use Rattle.st_meaning.proofs.st_frame.OfTypes.{wraps_fit, bit_fits, converted_fits}
use Rattle.accepted_texts.proofs.told_units.TypeLaws.{HasItsType, ValuesHaveTypes, AsksForTold, none-of, asks-number, asks-of, asks-front, asks-operand, asks-anything, conversion-called, passes}
use Rattle.place_laws.specs.Agrees.{ConstantIs}
use Rattle.place_laws.proofs.Operators.{operation}
use Rattle.place_laws.proofs.Literals.{AsksForTold as AsksLiteral, int_is, negative_is, typed_is, time_is, null_held}
use Rattle.constant_laws.proofs.Numbers.{OutcomeOf, Right, number_of_type, literal_fits, literal_right, typed_right, lasting, held, unary, operated_of, assigned_number}

there : (o : Option StType) → is_some o ≡ true → (t : StType) × (o ≡ Some t)
there None h = absurd (cc)
there (Some t) h = (t, refl)

chosen : (b : Bool) (t u : Target) → is_told (if b then t else u) ≡ true → is_told u ≡ false → (b ≡ true) × (is_told t ≡ true)
chosen true t u h k = (refl, h)
chosen false t u h k = absurd (cc)

split : (a b : Bool) → (a && b) ≡ true → (a ≡ true) × (b ≡ true)
split true b h = (refl, h)
split false b h = absurd (cc)

asks_literal : (asked : Asked) → AsksForTold asked → AsksLiteral asked
asks_literal Anything h = tt
asks_literal (Wanted t) h = tt
asks_literal Untold h = absurd h

module _ (p : Program) where
  -- ---- what names mean

  -- what is told of a constant is a number of its type
  abbrev pub ConstantFits : StType → Target → Type 0
  ConstantFits t target.Nothing = Unit {0}
  ConstantFits t x = ConstantIs p x t

  abbrev pub ValueFits : DeclaredVariable → Type 0
  ValueFits v = v.constant ≡ true → (t : StType) → v.kind ≡ Some t → ConstantFits t v.target

  fitting : (t : StType) (x : Target) → ConstantFits t x → OutcomeOf p t (target_value x)
  fitting t (target.Constant z) h = number_of_type p t z h.0
  fitting t (target.Enumerator k) h = absurd h
  fitting t _ h = tt

  abbrev pub MeantFits : Option Meant → Type 0
  MeantFits (Some (a_variable c v)) = ValueFits v
  MeantFits (Some (an_enumerator n k)) = NumberIs p (type.Enumeration n) (pos k)
  MeantFits _ = Unit {0}

  pub record ScopeFits (s : Scope) : Type 0 where
    pub each : (called : Bool) (name : List ℕ) → MeantFits (sought s called name)
    pub values : (n : ℕ) (name : List ℕ) (k : ℕ) → value_of s n name ≡ Some k → NumberIs p (type.Enumeration n) (pos k)

  module _ (s : Scope) where
    meant_right : (m : Option Meant) → HasItsType m → MeantFits m → is_told (value_target m) ≡ true → Right p (standing_type (standing_of (meant_type m))) (target_value (value_target m))
    meant_right None w f h = absurd (cc)
    meant_right (Some (a_variable c v)) w f h =
        let q = chosen v.constant v.target _ h refl in
        let t = there v.kind (w q.0 q.1) in
        record {
          kind = t.0;
          told = ap (λ o. standing_type (standing_of o)) t.1;
          value = subst (λ b. OutcomeOf p t.0 (target_value (if b then v.target else target.Nothing))) (sym q.0) (fitting t.0 v.target (f q.0 t.0 t.1));
        }
    meant_right (Some (scope.a_method id)) w f h = absurd (cc)
    meant_right (Some (a_function k r)) w f h = absurd (cc)
    meant_right (Some (an_enumerator n k)) w f h = record { kind = type.Enumeration n; told = refl; value = f }

    module _ (fit : ScopeFits s) where
      value_right : (n : ℕ) (name : List ℕ) (o : Option ℕ) → value_of s n name ≡ o → is_told (part_target (option_map (a_value_of n) o)) ≡ true
          → Right p (standing_type (standing_of (part_type (option_map (a_value_of n) o)))) (target_value (part_target (option_map (a_value_of n) o)))
      value_right n name None e h = absurd (cc)
      value_right n name (Some k) e h = record { kind = type.Enumeration n; told = refl; value = fit.values n name k e }

      none_qualified : (t : Option StType) (n : List ℕ) → is_told (qualified_target s (standing_of t) n) ≡ true → ⊥
      none_qualified None n h = cc
      none_qualified (Some t) n h = cc

      qualified_right : (q : Qualifier) (name n : List ℕ) → is_told (qualified_target s (qualified_standing s q name) n) ≡ true
          → Right p (standing_type (standing_of (part_type (part_of s (qualified_standing s q name) false n)))) (target_value (qualified_target s (qualified_standing s q name) n))
      unfolding part_of
      qualified_right (values_of k) name n h = value_right k n (value_of s k n) refl h
      qualified_right of_untold name n h = absurd (cc)
      qualified_right no_qualifier name n h = absurd (none_qualified (meant_type (sought s false name)) n h)

      place_right : ValuesHaveTypes s → (r : Root ℕ) (ss : Selectors ℕ) → is_told (whole_target s r ss) ≡ true → Right p (place_type s r ss) (target_value (whole_target s r ss))
      unfolding whole_target root_standing placed selected
      place_right w (root.Name l name) no_selectors h = meant_right (sought s false name) (w.each name) (fit.each false name) h
      place_right w (root.Name l name) (selector_then (Field j n) no_selectors) h = qualified_right (dot_qualifier s name) name n h
      place_right w r ss h = absurd (cc)

      hash_value : (n : ℕ) (name : List ℕ) (o : Option ℕ) → value_of s n name ≡ o → is_told (enumerator_target s o) ≡ true → Right p (value_type s n o) (target_value (enumerator_target s o))
      hash_value n name None e h = absurd (cc)
      hash_value n name (Some k) e h = record { kind = type.Enumeration n; told = refl; value = fit.values n name k e }

      hash_right : (q : Qualifier) (name : List ℕ) → is_told (note_of_value s q name) ≡ true → Right p (enumerator_type s q name) (target_value (note_of_value s q name))
      unfolding note_of_value enumerator_type
      hash_right (values_of k) name h = hash_value k name (value_of s k name) refl h
      hash_right of_untold name h = absurd (cc)
      hash_right no_qualifier name h = absurd (cc)

    -- ---- expressions

    -- what is known of an expression where no rule is broken
    record Known (e : Expression ℕ) : Type 0 where
      by : (asked : Asked) → AsksForTold asked → faults s asked e ≡ [] → Right p (type_of s asked e) (constant_value s asked e)

    record KnownRow (ts : Tails ℕ) : Type 0 where
      asks : (u : Bool) (a : Asked) (t : Option StType) (asked : Asked) → row_faults s u a t ts ≡ [] → AsksForTold asked → AsksForTold (asked_behind s asked ts)
      by : (u : Bool) (asked : Asked) (t : StType) (x : Outcome) → AsksForTold asked → row_faults s u asked (Some t) ts ≡ [] → OutcomeOf p t x → Right p (row_type s u asked (Some t) ts) (row_value s u asked (Some t) x ts)

    -- ---- signs

    not_known : (l : ℕ) (e : Expression ℕ) → Known e → Known (Not l e)
    not_known l e k = record {
      by = λ asked h f.
          let q = none-of (faults s Anything e) (operand_unsuited (line_of e) takes_not (type_of s Anything e)) f in
          unary p takes_not complement (λ e z. wraps_fit e _) (line_of e) (type_of s Anything e) (constant_value s Anything e) (k.by Anything tt q.0) q.1;
    }

    asks_minus : (e : Expression ℕ) (asked : Asked) → AsksForTold asked → AsksForTold (front_asked (is_untyped e) (number_asked asked))
    asks_minus e asked h = asks-front (is_untyped e) (number_asked asked) (asks-number asked h)

    minus_right : (e : Expression ℕ) (inner : Asked) → Known e → AsksForTold inner → faults s inner e ++ operand_unsuited (line_of e) takes_minus (type_of s inner e) ≡ []
        → Right p (unary_type takes_minus (type_of s inner e)) (outcome_map (difference (kind_in (unary_type takes_minus (type_of s inner e))) (pos 0)) (constant_value s inner e))
    minus_right e inner k h f =
        let q = none-of (faults s inner e) (operand_unsuited (line_of e) takes_minus (type_of s inner e)) f in
        unary p takes_minus (λ e. difference e (pos 0)) (λ e z. wraps_fit e _) (line_of e) (type_of s inner e) (constant_value s inner e) (k.by inner h q.0) q.1

    negate_known : (l : ℕ) (e : Expression ℕ) → Known e → Known (Negate l e)
    negate_known l (Int j digits) k = record { by = λ asked h f. literal_right p (negative_type asked) _ (negative_is l asked digits h f) }
    negate_known l e k = record { by = λ asked h f. minus_right e (front_asked (is_untyped e) (number_asked asked)) k (asks_minus e asked h) f }

    -- ---- rows of operators

    no_row : KnownRow no_tails
    no_row = record { asks = λ u a t asked f h. h; by = λ u asked t x h f g. record { kind = t; told = refl; value = g } }

    module _ (l : ℕ) (o : Operator) (e : Expression ℕ) (ts : Tails ℕ) (k : Known e) (r : KnownRow ts) where
      record Parts (u : Bool) (asked : Asked) (t : Option StType) : Type 0 where
        operand : faults s (operand_asked u (is_untyped e) asked t) e ≡ []
        suits : row_unsuited e l o t (type_of s (operand_asked u (is_untyped e) asked t) e) ≡ []
        rest : row_faults s (is_arithmetic o && u && is_untyped e) asked (operation_type o t (type_of s (operand_asked u (is_untyped e) asked t) e)) ts ≡ []

      parts : (u : Bool) (asked : Asked) (t : Option StType) → row_faults s u asked t (tail_then l o e ts) ≡ [] → Parts u asked t
      parts u asked t f =
          let inner = operand_asked u (is_untyped e) asked t in
          let a = faults s inner e in
          let b = row_unsuited e l o t (type_of s inner e) in
          let c = row_faults s (is_arithmetic o && u && is_untyped e) asked (operation_type o t (type_of s inner e)) ts in
          let p = none-of (a ++ b) c f in
          let q = none-of a b p.0 in
          record { operand = q.0; suits = q.1; rest = p.1 }

      row_asks : (u : Bool) (a : Asked) (t : Option StType) (asked : Asked) → row_faults s u a t (tail_then l o e ts) ≡ [] → AsksForTold asked → (b : Bool) → is_untyped e ≡ b
          → AsksForTold (if b then (if is_arithmetic o then number_asked (asked_behind s asked ts) else Anything) else asked_of (type_of s Anything e))
      row_asks u a t asked f h true q = picked (is_arithmetic o)
        where
          picked : (b : Bool) → AsksForTold (if b then number_asked (asked_behind s asked ts) else Anything)
          picked true = asks-number (asked_behind s asked ts) (r.asks _ a _ asked (parts u a t f).rest h)
          picked false = tt
      row_asks u a t asked f h false q =
          asks-of (type_of s Anything e)
          (let z = k.by Anything tt (sym (ap (λ x. faults s x e) (ap (λ b. operand_asked u b a t) q ∙ asks-anything u a t)) ∙ (parts u a t f).operand) in ap is_some z.told)

      -- behind an operand of a known type
      onward : (u : Bool) (asked : Asked) (t v : StType) (i : Option StType) (x y : Outcome) → i ≡ Some v → AsksForTold asked → OutcomeOf p t x → OutcomeOf p v y
          → row_unsuited e l o (Some t) i ≡ [] → row_faults s (is_arithmetic o && u && is_untyped e) asked (operation_type o (Some t) i) ts ≡ []
          → Right p (row_type s (is_arithmetic o && u && is_untyped e) asked (operation_type o (Some t) i) ts) (row_value s (is_arithmetic o && u && is_untyped e) asked (operation_type o (Some t) i) (operated o (kind_in (operation_type o (Some t) i)) l x y) ts)
      onward u asked t v i x y q h a b c d =
          let w = operation p (unsuited_line (is_untyped e) (line_of e) l (Some t) (Some v)) o t v (subst (λ j. row_unsuited e l o (Some t) j ≡ []) q c) in
          let z : operation_type o (Some t) i ≡ Some w.0 = ap (operation_type o (Some t)) q ∙ w.1 in
          let n = is_arithmetic o && u && is_untyped e in
          subst (λ j. Right p (row_type s n asked j ts) (row_value s n asked j (operated o (kind_in j) l x y) ts)) (sym z)
          (r.by n asked w.0 (operated o (kind_in (Some w.0)) l x y) h (subst (λ j. row_faults s n asked j ts ≡ []) z d) (operated_of p o t v w.0 l x y w.2 a b))

      row_known : KnownRow (tail_then l o e ts)
      row_known = record {
        asks = λ u a t asked f h. row_asks u a t asked f h (is_untyped e) refl;
        by = λ u asked t x h f g.
            let inner = operand_asked u (is_untyped e) asked (Some t) in
            let c = parts u asked (Some t) f in
            let d = k.by inner (asks-operand u (is_untyped e) asked (Some t) h refl) c.operand in
            onward u asked t d.kind (type_of s inner e) x (constant_value s inner e) d.told h g d.value c.suits c.rest;
      }

    module _ (l : ℕ) (e : Expression ℕ) (ts : Tails ℕ) (k : Known e) (r : KnownRow ts) where
      behind : (u : Bool) (a : Asked) (o : Option StType) (x : Outcome) → AsksForTold a → Right p o x → row_faults s u a o ts ≡ [] → Right p (row_type s u a o ts) (row_value s u a o x ts)
      behind u a o x h w f =
          subst (λ j. Right p (row_type s u a j ts) (row_value s u a j x ts)) (sym w.told)
          (r.by u a w.kind x h (subst (λ j. row_faults s u a j ts ≡ []) w.told f) w.value)

      chain_known : Known (Chain l e ts)
      chain_known = record {
        by = λ asked h f.
            let a = front_asked (is_untyped e) (asked_behind s asked ts) in
            let q = none-of (faults s a e) (row_faults s (is_untyped e) a (type_of s a e) ts) f in
            let g = asks-front (is_untyped e) (asked_behind s asked ts) (r.asks _ _ _ asked q.1 h) in
            behind (is_untyped e) a (type_of s a e) (constant_value s a e) g (k.by a g q.0) q.1;
      }

    -- ---- conversions

    converted_right : (b : Elem) (x : Outcome) → OutcomeOf p (type.Elementary b) (outcome_map (converted b) x)
    converted_right b (comes_to z) = converted_fits b z
    converted_right b _ = tt

    call_known : (l : ℕ) (r : Root ℕ) (ss : Selectors ℕ) (xs : Arguments ℕ) (a b : Elem) → callee s r ss ≡ a_conversion a b → Known (Call l r ss xs)
    unfolding call_type
    call_known l r ss xs a b e = record {
      by = λ asked h f.
          let x = operand_value s (asked_by (first_match (call_matches s (callee s r ss) (heads xs)))) xs in
          subst (λ c. Right p (call_type c) (converted_value c x)) (sym e) (record { kind = type.Elementary b; told = refl; value = converted_right b x });
    }

    -- ---- all together

    module _ (w : ValuesHaveTypes s) (fit : ScopeFits s) where
      mutual
        known : (e : Expression ℕ) → names_are_told s e ≡ true → no_constant_part s e ≡ [] → Known e
        known (Int l digits) h n = record { by = λ asked a f. literal_right p (int_type asked digits) _ (int_is l asked digits a f) }
        known (Typed l k literal) h n = record { by = λ asked a f. let q = typed_is l k literal f in typed_right p (typed_literal_type k literal) k (literal_number literal) q.0 (literal_fits k literal q.1) }
        known (Time l text) h n = record { by = λ asked a f. record { kind = time; told = refl; value = lasting p (milliseconds text) (time_is l text f) } }
        known (True l) h n = record { by = λ asked a f. record { kind = boolean; told = refl; value = bit_fits elem.Bool 1 (omega arith) } }
        known (False l) h n = record { by = λ asked a f. record { kind = boolean; told = refl; value = bit_fits elem.Bool 0 (omega arith) } }
        known (Null l) h n = record { by = λ asked a f. record { kind = null_type asked; told = refl; value = held p (null_type asked) (pos 0) (null_held asked) } }
        known (Place l r ss) h n = record { by = λ asked a f. place_right fit w r ss h }
        known (Call l r ss xs) h n = let c = conversion-called s l r ss (no_constant_argument s xs) n in call_known l r ss xs c.0.0 c.0.1 c.1
        known (Enumerator l t k name) h n = record { by = λ asked a f. hash_right fit (type_qualifier s t) name h }
        known (Ref l r ss) h n = absurd (cc)
        known (Now l) h n = absurd (cc)
        known (Paren l e) h n = let k = known e h n in record { by = k.by }
        known (Not l e) h n = not_known l e (known e h n)
        known (Negate l e) h n = negate_known l e (known e h n)
        known (Chain l e ts) h n =
            let t = split (names_are_told s e) (operands_are_told s ts) h in
            let c = none-of (no_constant_part s e) (no_constant_operand s ts) n in
            chain_known l e ts (known e t.0 c.0) (known_row ts t.1 c.1)

        known_row : (ts : Tails ℕ) → operands_are_told s ts ≡ true → no_constant_operand s ts ≡ [] → KnownRow ts
        known_row no_tails h n = no_row
        known_row (tail_then l o e ts) h n =
            let t = split (names_are_told s e) (operands_are_told s ts) h in
            let c = none-of (no_constant_part s e) (no_constant_operand s ts) n in
            row_known l o e ts (known e t.0 c.0) (known_row ts t.1 c.1)

      assigned : (t u : StType) (x : Outcome) (l : ℕ) → value_unsuited s l (Wanted u) (Some t) ≡ [] → OutcomeOf p t x → OutcomeOf p u x
      unfolding value_unsuited
      assigned t u (comes_to z) l h n = assigned_number p s t u z (passes _ _ l h) n
      assigned t u _ l h n = tt

      -- what is wanted as a value of this type
      pub wanted_value : (u : StType) (e : Expression ℕ) → names_are_told s e ≡ true → value_faults s (Wanted u) e ≡ [] → OutcomeOf p u (constant_value s (Wanted u) e)
      wanted_value u e h f =
          let a = faults s (Wanted u) e in
          let b = value_unsuited s (line_of e) (Wanted u) (type_of s (Wanted u) e) in
          let c = no_constant_part s e in
          let q = none-of (a ++ b ++ c) (zero_divisor s (constant_value s (Wanted u) e)) f in
          let r = none-of (a ++ b) c q.0 in
          let t = none-of a b r.0 in
          let k = (known e h r.1).by (Wanted u) tt t.0 in
          assigned k.kind u (constant_value s (Wanted u) e) (line_of e) (subst (λ o. value_unsuited s (line_of e) (Wanted u) o ≡ []) k.told t.1) k.value
