-- A constant expression whose names are all told and that breaks no rule comes to a value, or divides by zero.
use Rattle.std.proofs.Common.{◌≡◌, ℕ, Bool, true, false, [], ◌++◌, Option, None, refl, sym, ap, ◌∙◌, subst}
use Rattle.std.specs.Prelude.{pos, if◌then◌else◌, ◌&&◌}
use Rattle.std.specs.Option.{is_some}
use Rattle.plc_num.specs.Arithmetic.{difference}
use Rattle.plc_num.specs.Bits.{complement}
use Rattle.plc_num.specs.Conversion.{converted}
use Rattle.st_types.specs.declared.elem.Elem.{Elem}
use Rattle.st_types.specs.declared.st_type.StType.{StType}
use Rattle.st_types.specs.declared.st_type.StType.TheVariants as type
use Rattle.st_tree.specs.declared.expression.Operator.{Operator}
use Rattle.st_tree.specs.declared.expression.Root.{Root}
use Rattle.st_tree.specs.Expression.{Expression, Int, Typed, Time, True, False, Null, Place, Call, Enumerator, Ref, Now, Paren, Not, Negate, Chain, Selectors, Positional, Input, Output, Arguments, no_arguments, argument_then, Tails, no_tails, tail_then}
use Rattle.st_rules.specs.declared.asked.Asked.{Asked}
use Rattle.st_rules.specs.declared.asked.Asked.TheVariants.{Anything, Wanted}
use Rattle.st_rules.specs.Kinds.{is_arithmetic, operation_type, unary_type, takes_not, takes_minus}
use Rattle.st_rules.specs.Literals.{int_type, number_asked, asked_of}
use Rattle.st_rules.specs.Scope.{Scope, type_qualifier}
use Rattle.st_rules.specs.Places.{root_line, root_standing, too_many_selectors}
use Rattle.st_rules.specs.Calls.{value_unsuited, a_conversion, callee, is_on_super, heads, first_match, later_matches, asked_by, call_matches, call_type, call_without_result, callee_faults}
use Rattle.st_rules.specs.Expressions.{too_many_operators, line_of, is_untyped, front_asked, operand_asked, asked_behind, type_of, row_type, row_unsuited, operand_unsuited, faults, row_faults, along_faults, argument_faults, given_unsuited, called_root_faults, whole_target, note_of_value}
use Rattle.st_unit_rules.specs.declared_names.Constants.{Outcome, comes_to, divides_by_zero, cannot_be_told, if_none, told_value, value_faults, constant_faults, zero_divisor, operated, kind_in, constant_value, row_value, operand_value, converted_value, names_are_told, operands_are_told, arguments_are_told, no_constant_part, no_constant_operand, no_constant_argument}
use Rattle.accepted_texts.specs.told_units.Formed.{HasNames, HaveNamesIn, HaveNames}
use Rattle.accepted_texts.proofs.told_units.Outcomes.{IsSettled, operated-settled, mapped-settled, literal-settled, int-settled, negative-settled, time-settled, target-settled, first-operand}
use Rattle.accepted_texts.proofs.told_units.TypeLaws.{ValuesHaveTypes, AsksForTold, none-of, asks-number, asks-of, asks-front, asks-operand, asks-anything, int-told, negative-told, literal-told, operation-told, unary-told, place-told, enumerator-told, conversion-called, conversion-type, operand-asked}

split : (a b : Bool) → (a && b) ≡ true → (a ≡ true) × (b ≡ true)
split true b h = (refl, h)
split false b h = absurd (cc)

same-operand : (e x : Expression ℕ) (xs ys : Arguments ℕ) → argument_then (Positional e) xs ≡ argument_then (Positional x) ys → e ≡ x
same-operand e x xs ys q = cc

module _ (s : Scope) where
  -- what is known of an expression where no rule is broken
  record Known (e : Expression ℕ) : Type 0 where
    kind : (asked : Asked) → AsksForTold asked → faults s asked e ≡ [] → is_some (type_of s asked e) ≡ true
    value : (asked : Asked) → AsksForTold asked → faults s asked e ≡ [] → IsSettled (constant_value s asked e)

  record KnownRow (ts : Tails ℕ) : Type 0 where
    asks : (u : Bool) (a : Asked) (t : Option StType) (asked : Asked) → row_faults s u a t ts ≡ [] → AsksForTold asked → AsksForTold (asked_behind s asked ts)
    kind : (u : Bool) (asked : Asked) (t : Option StType) → AsksForTold asked → is_some t ≡ true → row_faults s u asked t ts ≡ [] → is_some (row_type s u asked t ts) ≡ true
    value : (u : Bool) (asked : Asked) (t : Option StType) (x : Outcome) → AsksForTold asked → is_some t ≡ true → row_faults s u asked t ts ≡ [] → IsSettled x → IsSettled (row_value s u asked t x ts)

  -- of the operand of a conversion
  record KnownOperand (xs : Arguments ℕ) : Type 0 where
    value : (e : Expression ℕ) (ys : Arguments ℕ) → xs ≡ argument_then (Positional e) ys → Known e

  -- ---- signs

  not-known : (l : ℕ) (e : Expression ℕ) → Known e → Known (Not l e)
  not-known l e k = record {
    kind = λ asked h f. inner f;
    value = λ asked h f. mapped-settled (complement (kind_in (unary_type takes_not (type_of s Anything e)))) (constant_value s Anything e) (k.value Anything tt (parts f).0);
  }
    where
      parts : faults s Anything (Not l e) ≡ [] → (faults s Anything e ≡ []) × (operand_unsuited (line_of e) takes_not (type_of s Anything e) ≡ [])
      parts f = none-of (faults s Anything e) (operand_unsuited (line_of e) takes_not (type_of s Anything e)) f

      inner : faults s Anything (Not l e) ≡ [] → is_some (unary_type takes_not (type_of s Anything e)) ≡ true
      inner f = unary-told (line_of e) takes_not (type_of s Anything e) (k.kind Anything tt (parts f).0) (parts f).1

  minus-kind : (l : ℕ) (e : Expression ℕ) (inner : Asked) → Known e → AsksForTold inner → faults s inner e ++ operand_unsuited (line_of e) takes_minus (type_of s inner e) ≡ [] → is_some (unary_type takes_minus (type_of s inner e)) ≡ true
  minus-kind l e inner k h f =
      let p = none-of (faults s inner e) (operand_unsuited (line_of e) takes_minus (type_of s inner e)) f in
      unary-told (line_of e) takes_minus (type_of s inner e) (k.kind inner h p.0) p.1

  asks-minus : (e : Expression ℕ) (asked : Asked) → AsksForTold asked → AsksForTold (front_asked (is_untyped e) (number_asked asked))
  asks-minus e asked h = asks-front (is_untyped e) (number_asked asked) (asks-number asked h)

  negate-known : (l : ℕ) (e : Expression ℕ) → Known e → Known (Negate l e)
  negate-known l (Int j digits) k = record { kind = λ asked h f. negative-told asked h; value = λ asked h f. negative-settled l digits asked h f }
  negate-known l e k = record {
    kind = λ asked h f. minus-kind l e (front_asked (is_untyped e) (number_asked asked)) k (asks-minus e asked h) f;
    value = λ asked h f.
        let inner = front_asked (is_untyped e) (number_asked asked) in
        mapped-settled (difference (kind_in (unary_type takes_minus (type_of s inner e))) (pos 0)) (constant_value s inner e) (k.value inner (asks-minus e asked h) (none-of (faults s inner e) (operand_unsuited (line_of e) takes_minus (type_of s inner e)) f).0);
  }

  -- ---- rows of operators

  no-row : KnownRow no_tails
  no-row = record { asks = λ u a t asked f h. h; kind = λ u asked t h k f. k; value = λ u asked t x h k f g. g }

  module _ (l : ℕ) (o : Operator) (e : Expression ℕ) (ts : Tails ℕ) (k : Known e) (r : KnownRow ts) where
    inner-of : Bool → Asked → Option StType → Asked
    inner-of u asked t = operand_asked u (is_untyped e) asked t

    still : Bool → Bool
    still u = is_arithmetic o && u && is_untyped e

    record Parts (u : Bool) (asked : Asked) (t : Option StType) : Type 0 where
      operand : faults s (operand_asked u (is_untyped e) asked t) e ≡ []
      suits : row_unsuited e l o t (type_of s (operand_asked u (is_untyped e) asked t) e) ≡ []
      rest : row_faults s (is_arithmetic o && u && is_untyped e) asked (operation_type o t (type_of s (operand_asked u (is_untyped e) asked t) e)) ts ≡ []

    parts : (u : Bool) (asked : Asked) (t : Option StType) → row_faults s u asked t (tail_then l o e ts) ≡ [] → Parts u asked t
    parts u asked t f =
        let inner = operand_asked u (is_untyped e) asked t in
        let a = faults s inner e in
        let b = row_unsuited e l o t (type_of s inner e) in
        let c = row_faults s (is_arithmetic o && u && is_untyped e) asked (operation_type o t (type_of s inner e)) ts in
        let p = none-of (a ++ b) c f in
        let q = none-of a b p.0 in
        record { operand = q.0; suits = q.1; rest = p.1 }

    row-asks : (u : Bool) (a : Asked) (t : Option StType) (asked : Asked) → row_faults s u a t (tail_then l o e ts) ≡ [] → AsksForTold asked → (b : Bool) → is_untyped e ≡ b
        → AsksForTold (if b then (if is_arithmetic o then number_asked (asked_behind s asked ts) else Anything) else asked_of (type_of s Anything e))
    row-asks u a t asked f h true q = chosen (is_arithmetic o)
      where
        chosen : (b : Bool) → AsksForTold (if b then number_asked (asked_behind s asked ts) else Anything)
        chosen true = asks-number (asked_behind s asked ts) (r.asks _ a _ asked (parts u a t f).rest h)
        chosen false = tt
    row-asks u a t asked f h false q =
        asks-of (type_of s Anything e)
        (k.kind Anything tt (sym (ap (λ x. faults s x e) (ap (λ b. operand_asked u b a t) q ∙ asks-anything u a t)) ∙ (parts u a t f).operand))

    module _ (u : Bool) (asked : Asked) (t : Option StType) (h : AsksForTold asked) (g : is_some t ≡ true) (f : row_faults s u asked t (tail_then l o e ts) ≡ []) where
      asks-inner : AsksForTold (operand_asked u (is_untyped e) asked t)
      asks-inner = asks-operand u (is_untyped e) asked t h g

      here : is_some (operation_type o t (type_of s (operand_asked u (is_untyped e) asked t) e)) ≡ true
      here =
          let p = parts u asked t f in
          operation-told _ o t (type_of s (operand_asked u (is_untyped e) asked t) e) g (k.kind (operand_asked u (is_untyped e) asked t) asks-inner p.operand) p.suits

    row-known : KnownRow (tail_then l o e ts)
    row-known = record {
      asks = λ u a t asked f h. row-asks u a t asked f h (is_untyped e) refl;
      kind = λ u asked t h g f.
          r.kind (is_arithmetic o && u && is_untyped e) asked (operation_type o t (type_of s (operand_asked u (is_untyped e) asked t) e)) h (here u asked t h g f) (parts u asked t f).rest;
      value = λ u asked t x h g f z.
          let inner = operand_asked u (is_untyped e) asked t in
          let w = operation_type o t (type_of s inner e) in
          r.value (is_arithmetic o && u && is_untyped e) asked w (operated o (kind_in w) l x (constant_value s inner e)) h (here u asked t h g f) (parts u asked t f).rest
          (operated-settled o (kind_in w) l x (constant_value s inner e) z (k.value inner (asks-inner u asked t h g f) (parts u asked t f).operand));
    }

  module _ (l : ℕ) (e : Expression ℕ) (ts : Tails ℕ) (k : Known e) (r : KnownRow ts) where
    module _ (asked : Asked) (h : AsksForTold asked) (f : faults s asked (Chain l e ts) ≡ []) where
      front : Asked
      front = front_asked (is_untyped e) (asked_behind s asked ts)

      both : (faults s (front_asked (is_untyped e) (asked_behind s asked ts)) e ≡ [])
          × (row_faults s (is_untyped e) (front_asked (is_untyped e) (asked_behind s asked ts)) (type_of s (front_asked (is_untyped e) (asked_behind s asked ts)) e) ts ≡ [])
      both = none-of (faults s (front_asked (is_untyped e) (asked_behind s asked ts)) e) _ f

      asks-first : AsksForTold (front_asked (is_untyped e) (asked_behind s asked ts))
      asks-first = asks-front (is_untyped e) (asked_behind s asked ts) (r.asks _ _ _ asked both.1 h)

      first-told : is_some (type_of s (front_asked (is_untyped e) (asked_behind s asked ts)) e) ≡ true
      first-told = k.kind (front_asked (is_untyped e) (asked_behind s asked ts)) asks-first both.0

    chain-known : Known (Chain l e ts)
    chain-known = record {
      kind = λ asked h f.
          let a = front_asked (is_untyped e) (asked_behind s asked ts) in
          r.kind (is_untyped e) a (type_of s a e) (asks-first asked h f) (first-told asked h f) (both asked h f).1;
      value = λ asked h f.
          let a = front_asked (is_untyped e) (asked_behind s asked ts) in
          r.value (is_untyped e) a (type_of s a e) (constant_value s a e) (asks-first asked h f) (first-told asked h f) (both asked h f).1 (k.value a (asks-first asked h f) (both asked h f).0);
    }

  -- ---- conversions

  -- the rules of a call, one sort after the other
  record CallParts (l : ℕ) (r : Root ℕ) (ss : Selectors ℕ) (xs : Arguments ℕ) : Type 0 where
    called : callee_faults s l (is_on_super r ss) (callee s r ss) (heads xs) ≡ []
    given : argument_faults s (call_matches s (callee s r ss) (heads xs)) xs ≡ []

  call-parts : (l : ℕ) (r : Root ℕ) (ss : Selectors ℕ) (xs : Arguments ℕ) (asked : Asked) → faults s asked (Call l r ss xs) ≡ [] → CallParts l r ss xs
  call-parts l r ss xs asked f =
      let a = called_root_faults s r ss in
      let b = along_faults s (root_line r) true (root_standing s r ss) ss in
      let c = too_many_selectors s (root_line r) ss in
      let d = callee_faults s l (is_on_super r ss) (callee s r ss) (heads xs) in
      let g = argument_faults s (call_matches s (callee s r ss) (heads xs)) xs in
      let h = call_without_result l (callee s r ss) in
      let p = none-of (a ++ b ++ c ++ d ++ g) h f in
      let q = none-of (a ++ b ++ c ++ d) g p.0 in
      let w = none-of (a ++ b ++ c) d q.0 in
      record { called = w.1; given = q.1 }

  given-settled : (r : Root ℕ) (ss : Selectors ℕ) (l : ℕ) (xs : Arguments ℕ) (a b : Elem) → callee s r ss ≡ a_conversion a b → KnownOperand xs → HaveNames xs → CallParts l r ss xs
      → IsSettled (operand_value s (asked_by (first_match (call_matches s (callee s r ss) (heads xs)))) xs)
  given-settled r ss l xs a b e k n p =
      let f = sym (ap (λ c. callee_faults s l (is_on_super r ss) c (heads xs)) e) ∙ p.called in
      let o = first-operand s l (is_on_super r ss) a b xs n f in
      let ms = call_matches s (callee s r ss) (heads xs) in
      let m = first_match ms in
      let x = o.0 in
      let ys = o.1 in
      let g : argument_faults s ms (argument_then (Positional x) ys) ≡ [] = sym (ap (argument_faults s ms) o.2) ∙ p.given in
      let q = none-of (faults s (asked_by m) x) (given_unsuited s m x (type_of s (asked_by m) x)) (none-of (faults s (asked_by m) x ++ given_unsuited s m x (type_of s (asked_by m) x)) (argument_faults s (later_matches ms) ys) g).0 in
      let w = asks f x ys o.2 in
      subst (λ zs. IsSettled (operand_value s (asked_by m) zs)) (sym o.2) ((k.value x ys o.2).value (asked_by m) (subst AsksForTold (sym w) tt) q.0)
    where
      asks : callee_faults s l (is_on_super r ss) (a_conversion a b) (heads xs) ≡ [] → (x : Expression ℕ) (ys : Arguments ℕ) → xs ≡ argument_then (Positional x) ys
          → asked_by (first_match (call_matches s (callee s r ss) (heads xs))) ≡ Wanted (type.Elementary a)
      asks f x ys q =
          ap (λ c. asked_by (first_match (call_matches s c (heads xs)))) e
          ∙ ap (λ zs. asked_by (first_match (call_matches s (a_conversion a b) (heads zs)))) q
          ∙ operand-asked s l (is_on_super r ss) a b (heads ys) (sym (ap (λ zs. callee_faults s l (is_on_super r ss) (a_conversion a b) (heads zs)) q) ∙ f)

  call-known : (l : ℕ) (r : Root ℕ) (ss : Selectors ℕ) (xs : Arguments ℕ) (a b : Elem) → callee s r ss ≡ a_conversion a b → KnownOperand xs → HaveNames xs → Known (Call l r ss xs)
  call-known l r ss xs a b e k n = record {
    kind = λ asked h f. ap (λ c. is_some (call_type c)) e ∙ conversion-type s a b;
    value = λ asked h f.
        let x = operand_value s (asked_by (first_match (call_matches s (callee s r ss) (heads xs)))) xs in
        subst IsSettled (sym (ap (λ c. converted_value c x) e)) (mapped-settled (converted b) x (given-settled r ss l xs a b e k n (call-parts l r ss xs asked f)));
  }

  -- ---- all together

  mutual
    known : ValuesHaveTypes s → (e : Expression ℕ) → HasNames e → names_are_told s e ≡ true → no_constant_part s e ≡ [] → Known e
    known w (Int l digits) n h p = record { kind = λ asked a f. int-told asked digits a; value = λ asked a f. int-settled l digits (int_type asked digits) f }
    known w (Typed l k literal) n h p = record { kind = λ asked a f. literal-told l k literal f; value = λ asked a f. literal-settled l k literal f }
    known w (Time l text) n h p = record { kind = λ asked a f. refl; value = λ asked a f. time-settled l text f }
    known w (True l) n h p = record { kind = λ asked a f. refl; value = λ asked a f. tt }
    known w (False l) n h p = record { kind = λ asked a f. refl; value = λ asked a f. tt }
    known w (Null l) n h p = record { kind = λ asked a f. refl; value = λ asked a f. tt }
    known w (Place l r ss) n h p = record { kind = λ asked a f. place-told s w r ss h; value = λ asked a f. target-settled (whole_target s r ss) h }
    known w (Call l r ss xs) n h p =
        let c = conversion-called s l r ss (no_constant_argument s xs) p in
        call-known l r ss xs c.0.0 c.0.1 c.1 (known-operand w xs n h c.2) n
    known w (Enumerator l t k name) n h p = record { kind = λ asked a f. enumerator-told s (type_qualifier s t) name h; value = λ asked a f. target-settled (note_of_value s (type_qualifier s t) name) h }
    known w (Ref l r ss) n h p = absurd (cc)
    known w (Now l) n h p = absurd (cc)
    known w (Paren l e) n h p = let k = known w e n h p in record { kind = k.kind; value = k.value }
    known w (Not l e) n h p = not-known l e (known w e n h p)
    known w (Negate l e) n h p = negate-known l e (known w e n h p)
    known w (Chain l e ts) n h p =
        let t = split (names_are_told s e) (operands_are_told s ts) h in
        let c = none-of (no_constant_part s e) (no_constant_operand s ts) p in
        chain-known l e ts (known w e n.0 t.0 c.0) (known-row w ts n.1 t.1 c.1)

    known-row : ValuesHaveTypes s → (ts : Tails ℕ) → HaveNamesIn ts → operands_are_told s ts ≡ true → no_constant_operand s ts ≡ [] → KnownRow ts
    known-row w no_tails n h p = no-row
    known-row w (tail_then l o e ts) n h p =
        let t = split (names_are_told s e) (operands_are_told s ts) h in
        let c = none-of (no_constant_part s e) (no_constant_operand s ts) p in
        row-known l o e ts (known w e n.0 t.0 c.0) (known-row w ts n.1 t.1 c.1)

    known-operand : ValuesHaveTypes s → (xs : Arguments ℕ) → HaveNames xs → arguments_are_told s xs ≡ true → no_constant_argument s xs ≡ [] → KnownOperand xs
    known-operand w no_arguments n h p = record { value = λ x ys q. absurd (cc) }
    known-operand w (argument_then (Positional e) xs) n h p =
        let t = split (names_are_told s e) (arguments_are_told s xs) h in
        let c = none-of (no_constant_part s e) (no_constant_argument s xs) p in
        let k = known w e n.0 t.0 c.0 in
        record { value = λ x ys q. subst Known (same-operand e x xs ys q) k }
    known-operand w (argument_then (Input l name e) xs) n h p = record { value = λ x ys q. absurd (cc) }
    known-operand w (argument_then (Output l name k r ss) xs) n h p = record { value = λ x ys q. absurd (cc) }

  -- what a constant expression breaks, part by part
  pub record BreaksNone (asked : Asked) (e : Expression ℕ) : Type 0 where
    pub whole : value_faults s asked e ≡ []
    pub expression : faults s asked e ≡ []
    pub parts : no_constant_part s e ≡ []
    pub divisor : zero_divisor s (constant_value s asked e) ≡ []

  pub breaks-none : (asked : Asked) (e : Expression ℕ) → constant_faults s asked e ≡ [] → BreaksNone asked e
  unfolding constant_faults
  breaks-none asked e f =
      let own = none-of (value_faults s asked e) (too_many_operators e) f in
      let p = none-of (faults s asked e ++ value_unsuited s (line_of e) asked (type_of s asked e) ++ no_constant_part s e) (zero_divisor s (constant_value s asked e)) own.0 in
      let q = none-of (faults s asked e ++ value_unsuited s (line_of e) asked (type_of s asked e)) (no_constant_part s e) p.0 in
      record { whole = own.0; expression = (none-of (faults s asked e) (value_unsuited s (line_of e) asked (type_of s asked e)) q.0).0; parts = q.1; divisor = p.1 }

  -- the type and the value of a constant expression that breaks no rule, where all its names are told
  pub comes-to : ValuesHaveTypes s → (asked : Asked) (e : Expression ℕ) → HasNames e → AsksForTold asked → names_are_told s e ≡ true → constant_faults s asked e ≡ [] → is_some (told_value s asked e) ≡ true
  unfolding told_value
  comes-to w asked e n a h f =
      let b = breaks-none asked e f in
      ap (λ b. is_some (if b then if_none (value_faults s asked e) (constant_value s asked e) else None)) h
      ∙ ap (λ fs. is_some (if_none fs (constant_value s asked e))) b.whole
      ∙ has (constant_value s asked e) ((known w e n h b.parts).value asked a b.expression) b.divisor
    where
      has : (x : Outcome) → IsSettled x → zero_divisor s x ≡ [] → is_some (if_none [] x) ≡ true
      has (comes_to z) i d = refl
      has (divides_by_zero l) i d = absurd (cc)
      has cannot_be_told i d = absurd i

  pub kind-of : ValuesHaveTypes s → (asked : Asked) (e : Expression ℕ) → HasNames e → AsksForTold asked → names_are_told s e ≡ true → constant_faults s asked e ≡ [] → is_some (type_of s asked e) ≡ true
  kind-of w asked e n a h f = let b = breaks-none asked e f in (known w e n h b.parts).kind asked a b.expression
