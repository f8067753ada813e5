-- Where all names of a constant expression are told, nothing of it changes in a scope that tells more.
use Rattle.std.proofs.Common.{◌≡◌, ℕ, ℤ, Bool, true, false, List, [], ◌∷◌, ◌++◌, Option, Some, None, refl, sym, ap, ◌∙◌}
use Rattle.std.specs.Prelude.{pos, if◌then◌else◌, ◌&&◌, ◌||◌, not, option_map}
use Rattle.std.specs.Option.{is_some, is_none}
use Rattle.plc_num.specs.Arithmetic.{difference}
use Rattle.plc_num.specs.Bits.{complement}
use Rattle.st_types.specs.declared.elem.Elem.{Elem}
use Rattle.st_types.specs.declared.st_type.StType.{StType}
use Rattle.st_tree.specs.declared.expression.Operator.{Operator}
use Rattle.st_tree.specs.declared.expression.Root.{Root}
use Rattle.st_tree.specs.declared.expression.Root.TheVariants as root
use Rattle.st_tree.specs.Expression.{Expression, Int, Typed, Time, True, False, Null, Place, Call, Enumerator, Ref, Now, Paren, Not, Negate, Chain, Field, Selectors, no_selectors, selector_then, Positional, Input, Output, Arguments, no_arguments, argument_then, Tails, no_tails, tail_then}
use Rattle.st_rules.specs.declared.asked.Asked.{Asked}
use Rattle.st_rules.specs.declared.asked.Asked.TheVariants.{Anything, Wanted, Untold}
use Rattle.st_rules.specs.declared.modifiers.Access.{Access}
use Rattle.st_rules.specs.declared.modifiers.Access.TheVariants.{Public, Protected, Private}
use Rattle.st_rules.specs.declared.names.DeclaredNames.{DeclaredNames}
use Rattle.st_rules.specs.declared.names.DeclaredVariable.{DeclaredVariable}
use Rattle.st_rules.specs.Faults.{Faults, at, when}
use Rattle.plc_text.specs.declared.code.Code.TheVariants.{E05, E08, E10}
use Rattle.st_rules.specs.Kinds.{is_arithmetic, operation_type, unary_type, takes_not, takes_minus}
use Rattle.st_rules.specs.Literals.{number_asked, asked_of}
use Rattle.st_rules.specs.Scope.{Scope, Meant, a_variable, a_function, an_enumerator, Qualifier, values_of, of_untold, no_qualifier, sought, type_qualifier, dot_qualifier, value_of, is_text_under, may_use}
use Rattle.st_rules.specs.Scope as scope
use Rattle.st_rules.specs.Places.{an_enumeration, a_value_of, part_type, root_line, root_standing, root_faults, whole_faults, placed, selected, standing_of, meant_type, name_faults, body_variable_in_a_method, qualified_standing, part_of, part_faults, place_type, is_fixed, is_no_variable, qualifies, standing_type, selector_faults, too_many_selectors, super_without_base, target_faults, holds_instances_if_told, qualified_faults, is_outer_output}
use Rattle.st_rules.specs.Calls.{a_conversion, callee, name_callee, is_on_super, conversion_named, heads, Matched, first_match, later_matches, asked_by, binds, matched_type, value_unsuited, bound_to_another_type, bound_no_variable, is_bindable_place, output_unsuited, call_matches, callee_faults, call_without_result, call_type}
use Rattle.st_rules.specs.Expressions.{is_untyped, front_asked, operand_asked, asked_behind, type_of, row_type, note_of_value, whole_target, qualified_target, part_target, value_target, is_conversion, faults, row_faults, along_faults, argument_faults, called_root_faults, given_unsuited, enumerator_type, value_type, enumerator_target, enumerator_not_found, operand_unsuited, row_unsuited, line_of}
use Rattle.st_unit_rules.specs.declared_names.WrittenTypes.{bound_value, is_number_type}
use Rattle.st_unit_rules.specs.declared_names.Constants.{Outcome, if_none, told_value, zero_divisor, target_value, is_told, constant_value, row_value, operand_value, converted_value, operated, kind_in, outcome_map, no_constant_part, no_constant_operand, no_constant_argument, no_constant_place, is_constant_place, is_constant_meaning, names_are_told, operands_are_told, arguments_are_told}

-- a scope in which other names and other locals are told
abbrev pub more : Scope → DeclaredNames → List DeclaredVariable → Scope
more s names locals = record s { names = names; locals = locals }

-- what is told in the one is told in the other
pub record Lookups (s : Scope) (names : DeclaredNames) (locals : List DeclaredVariable) : Type 0 where
  pub names_stay : (name : List ℕ) → is_told (value_target (sought s false name)) ≡ true → sought (more s names locals) false name ≡ sought s false name
  pub dots_stay : (name : List ℕ) (n : ℕ) → dot_qualifier s name ≡ values_of n → dot_qualifier (more s names locals) name ≡ values_of n
  pub types_stay : (name : List ℕ) (n : ℕ) → type_qualifier s name ≡ values_of n → type_qualifier (more s names locals) name ≡ values_of n
  pub values_stay : (n : ℕ) (name : List ℕ) → value_of (more s names locals) n name ≡ value_of s n name

-- ---- truth values and lists

both : (a b : Bool) → (a && b) ≡ true → (a ≡ true) × (b ≡ true)
both true b h = (refl, h)
both false b h = absurd (cc)

none-of : (fs gs : Faults) → fs ++ gs ≡ [] → (fs ≡ []) × (gs ≡ [])
none-of [] gs h = (refl, h)
none-of (f ∷ fs) gs h = absurd (cc)

joined : {a a' b b' : Faults} → a ≡ a' → b ≡ b' → a ++ b ≡ a' ++ b'
joined {a = a} {a' = a'} {b = b} {b' = b'} p q = ap (λ x. x ++ b) p ∙ ap (λ y. a' ++ y) q

joined-bits : {a a' b b' : Bool} → a ≡ a' → b ≡ b' → (a && b) ≡ (a' && b')
joined-bits {a = a} {a' = a'} {b = b} {b' = b'} p q = ap (λ x. x && b) p ∙ ap (λ y. a' && y) q

module _ (s : Scope) (names : DeclaredNames) (locals : List DeclaredVariable) where
  -- ---- what hangs on the declarations alone

  use-same : (a : Access) (d : ℕ) → may_use (more s names locals) a d ≡ may_use s a d
  unfolding is_text_under
  use-same Public d = refl
  use-same Protected d = refl
  use-same Private d = refl

  value-same : (l : ℕ) (asked : Asked) (t : Option StType) → value_unsuited (more s names locals) l asked t ≡ value_unsuited s l asked t
  unfolding value_unsuited
  value-same l Anything t = refl
  value-same l (Wanted u) None = refl
  value-same l (Wanted u) (Some t) = refl
  value-same l Untold t = refl

  bound-same : (l : ℕ) (u t : Option StType) → bound_to_another_type (more s names locals) l u t ≡ bound_to_another_type s l u t
  bound-same l None t = refl
  bound-same l (Some u) None = refl
  bound-same l (Some u) (Some t) = refl

  output-same : (l : ℕ) (u t : Option StType) → output_unsuited (more s names locals) l u t ≡ output_unsuited s l u t
  unfolding output_unsuited
  output-same l None t = refl
  output-same l (Some u) None = refl
  output-same l (Some u) (Some t) = refl

  selectors-same : (l : ℕ) (ss : Selectors ℕ) → too_many_selectors (more s names locals) l ss ≡ too_many_selectors s l ss
  unfolding too_many_selectors
  selectors-same l ss = refl

  conversion-same : (l : ℕ) (on_super : Bool) (a b : Elem) (xs : Arguments ℕ) → callee_faults (more s names locals) l on_super (a_conversion a b) (heads xs) ≡ callee_faults s l on_super (a_conversion a b) (heads xs)
  unfolding callee_faults
  conversion-same l on_super a b no_arguments = refl
  conversion-same l on_super a b (argument_then (Positional e) xs) = refl
  conversion-same l on_super a b (argument_then (Input k n e) xs) = refl
  conversion-same l on_super a b (argument_then (Output k n j r ss) xs) = refl

  matches-same : (a b : Elem) (xs : Arguments ℕ) → call_matches (more s names locals) (a_conversion a b) (heads xs) ≡ call_matches s (a_conversion a b) (heads xs)
  unfolding call_matches
  matches-same a b xs = refl

  -- ---- names

  name-same : (l : ℕ) (m : Option Meant) → is_told (value_target m) ≡ true → name_faults (more s names locals) l false m ≡ name_faults s l false m
  name-same l None h = absurd (cc)
  name-same l (Some (a_variable None v)) h = refl
  name-same l (Some (a_variable (Some d) v)) h = ap (λ b. when (not b) E10 l ++ body_variable_in_a_method s l v) (use-same v.access d)
  name-same l (Some (scope.a_method id)) h = absurd (cc)
  name-same l (Some (a_function k r)) h = absurd (cc)
  name-same l (Some (an_enumerator n k)) h = refl

  -- ---- places

  -- what is said of a place is the same in both scopes
  record SamePlace (r : Root ℕ) (ss : Selectors ℕ) : Type 0 where
    roots : root_faults (more s names locals) false r ss ≡ root_faults s false r ss
    along : (l : ℕ) → along_faults (more s names locals) l false (root_standing (more s names locals) r ss) ss ≡ along_faults s l false (root_standing s r ss) ss
    whole : whole_faults (more s names locals) r ss ≡ whole_faults s r ss
    kind : place_type (more s names locals) r ss ≡ place_type s r ss
    meant : whole_target (more s names locals) r ss ≡ whole_target s r ss
    constant : is_constant_place (more s names locals) r ss ≡ is_constant_place s r ss
    fixed : is_fixed (more s names locals) r ss ≡ is_fixed s r ss

  same-name : (l : ℕ) (name : List ℕ) → is_told (value_target (sought s false name)) ≡ true → sought (more s names locals) false name ≡ sought s false name → SamePlace (root.Name l name) no_selectors
  unfolding root_standing root_faults whole_faults placed whole_target is_fixed too_many_selectors
  same-name l name h e = record {
    roots = ap (λ m. name_faults (more s names locals) l false m) e ∙ name-same l (sought s false name) h;
    along = λ k. refl;
    whole = ap (λ m. super_without_base l (standing_of (meant_type m)) ++ too_many_selectors s l no_selectors) e;
    kind = ap (λ m. standing_type (standing_of (meant_type m))) e;
    meant = ap value_target e;
    constant = ap (λ m. is_constant_meaning s m) e;
    fixed = ap (λ m. is_no_variable s m || false) e;
  }

  value-faults : (l q : ℕ) (o : Option ℕ) → part_faults (more s names locals) l (an_enumeration q) (option_map (a_value_of q) o) ≡ part_faults s l (an_enumeration q) (option_map (a_value_of q) o)
  unfolding part_faults
  value-faults l q None = refl
  value-faults l q (Some k) = refl

  same-value : (l k q : ℕ) (name n : List ℕ) → dot_qualifier s name ≡ values_of q → dot_qualifier (more s names locals) name ≡ values_of q → value_of (more s names locals) q n ≡ value_of s q n
      → SamePlace (root.Name l name) (selector_then (Field k n) no_selectors)
  unfolding root_standing root_faults whole_faults placed whole_target is_fixed too_many_selectors selected part_of selector_faults
  same-value l k q name n d e v =
      let b' : root_standing (more s names locals) (root.Name l name) (selector_then (Field k n) no_selectors) ≡ an_enumeration q = ap (λ x. qualified_standing (more s names locals) x name) e in
      let b : root_standing s (root.Name l name) (selector_then (Field k n) no_selectors) ≡ an_enumeration q = ap (λ x. qualified_standing s x name) d in
      let f : qualifies s (dot_qualifier s name) ≡ true = ap (λ x. qualifies s x) d in
      let f' : qualifies s (dot_qualifier (more s names locals) name) ≡ true = ap (λ x. qualifies s x) e in
      record {
        roots = ap (λ x. qualified_faults (more s names locals) l x name) e ∙ sym (ap (λ x. qualified_faults s l x name) d);
        along = λ j.
            ap (λ x. part_faults (more s names locals) k x (part_of (more s names locals) x false n) ++ [] ++ []) b'
            ∙ ap (λ o. part_faults (more s names locals) k (an_enumeration q) (option_map (a_value_of q) o) ++ [] ++ []) v
            ∙ ap (λ x. x ++ [] ++ []) (value-faults k q (value_of s q n))
            ∙ sym (ap (λ x. part_faults s k x (part_of s x false n) ++ [] ++ []) b);
        whole =
            ap (λ x. super_without_base l (standing_of (part_type (part_of (more s names locals) x false n))) ++ too_many_selectors s l (selector_then (Field k n) no_selectors)) b'
            ∙ ap (λ o. super_without_base l (standing_of (part_type (option_map (a_value_of q) o))) ++ too_many_selectors s l (selector_then (Field k n) no_selectors)) v
            ∙ sym (ap (λ x. super_without_base l (standing_of (part_type (part_of s x false n))) ++ too_many_selectors s l (selector_then (Field k n) no_selectors)) b);
        kind =
            ap (λ x. standing_type (standing_of (part_type (part_of (more s names locals) x false n)))) b'
            ∙ ap (λ o. standing_type (standing_of (part_type (option_map (a_value_of q) o)))) v
            ∙ sym (ap (λ x. standing_type (standing_of (part_type (part_of s x false n)))) b);
        meant =
            ap (λ x. qualified_target (more s names locals) x n) b'
            ∙ ap (λ o. part_target (option_map (a_value_of q) o)) v
            ∙ sym (ap (λ x. qualified_target s x n) b);
        constant = f' ∙ sym f;
        fixed =
            ap (λ x. x || is_no_variable s (sought (more s names locals) false name) || is_outer_output (more s names locals) (part_of (more s names locals) (root_standing (more s names locals) (root.Name l name) (selector_then (Field k n) no_selectors)) false n)) f'
            ∙ sym (ap (λ x. x || is_no_variable s (sought s false name) || is_outer_output s (part_of s (root_standing s (root.Name l name) (selector_then (Field k n) no_selectors)) false n)) f);
      }

  no-value : (t : Option StType) (n : List ℕ) → is_told (qualified_target s (standing_of t) n) ≡ true → ⊥
  no-value None n h = cc
  no-value (Some t) n h = cc

  told-value : (q : Qualifier) (name n : List ℕ) → dot_qualifier s name ≡ q → is_told (qualified_target s (qualified_standing s q name) n) ≡ true → (k : ℕ) × (dot_qualifier s name ≡ values_of k)
  told-value (values_of k) name n e h = (k, e)
  told-value of_untold name n e h = absurd (cc)
  told-value no_qualifier name n e h = absurd (no-value (meant_type (sought s false name)) n h)

  same-place : Lookups s names locals → (r : Root ℕ) (ss : Selectors ℕ) → is_told (whole_target s r ss) ≡ true → SamePlace r ss
  unfolding whole_target root_standing
  same-place k (root.Name l name) no_selectors h = same-name l name h (k.names_stay name h)
  same-place k (root.Name l name) (selector_then (Field j n) no_selectors) h =
      let t = told-value (dot_qualifier s name) name n refl h in
      same-value l j t.0 name n t.1 (k.dots_stay name t.0 t.1) (k.values_stay t.0 n)
  same-place k r ss h = absurd (cc)

  -- ---- enumerators behind `#`

  told-enumerator : (q : Qualifier) (t name : List ℕ) → type_qualifier s t ≡ q → is_told (note_of_value s q name) ≡ true → (k : ℕ) × (type_qualifier s t ≡ values_of k)
  unfolding note_of_value
  told-enumerator (values_of k) t name e h = (k, e)
  told-enumerator of_untold t name e h = absurd (cc)
  told-enumerator no_qualifier t name e h = absurd (cc)

  record SameEnumerator (l k : ℕ) (t name : List ℕ) : Type 0 where
    kind : enumerator_type (more s names locals) (type_qualifier (more s names locals) t) name ≡ enumerator_type s (type_qualifier s t) name
    meant : note_of_value (more s names locals) (type_qualifier (more s names locals) t) name ≡ note_of_value s (type_qualifier s t) name
    broken : enumerator_not_found (more s names locals) l k (type_qualifier (more s names locals) t) name ≡ enumerator_not_found s l k (type_qualifier s t) name

  same-enumerator : Lookups s names locals → (l k : ℕ) (t name : List ℕ) → is_told (note_of_value s (type_qualifier s t) name) ≡ true → SameEnumerator l k t name
  unfolding note_of_value enumerator_type enumerator_not_found
  same-enumerator look l k t name h =
      let w = told-enumerator (type_qualifier s t) t name refl h in
      let d : type_qualifier s t ≡ values_of w.0 = w.1 in
      let e : type_qualifier (more s names locals) t ≡ values_of w.0 = look.types_stay t w.0 d in
      let v = look.values_stay w.0 name in
      record {
        kind = ap (λ q. enumerator_type (more s names locals) q name) e ∙ ap (λ o. value_type s w.0 o) v ∙ sym (ap (λ q. enumerator_type s q name) d);
        meant = ap (λ q. note_of_value (more s names locals) q name) e ∙ ap (λ o. enumerator_target s o) v ∙ sym (ap (λ q. note_of_value s q name) d);
        broken = ap (λ q. enumerator_not_found (more s names locals) l k q name) e ∙ ap (λ o. when (is_none o) E05 k) v ∙ sym (ap (λ q. enumerator_not_found s l k q name) d);
      }

  -- ---- expressions

  record SameExpression (e : Expression ℕ) : Type 0 where
    kinds : (asked : Asked) → type_of (more s names locals) asked e ≡ type_of s asked e
    broken : (asked : Asked) → faults (more s names locals) asked e ≡ faults s asked e
    values : (asked : Asked) → constant_value (more s names locals) asked e ≡ constant_value s asked e
    parts : no_constant_part (more s names locals) e ≡ no_constant_part s e
    told : names_are_told (more s names locals) e ≡ names_are_told s e
    bindable : is_bindable_place (more s names locals) e ≡ is_bindable_place s e

  record SameRow (ts : Tails ℕ) : Type 0 where
    wanted : (asked : Asked) → asked_behind (more s names locals) asked ts ≡ asked_behind s asked ts
    kinds : (u : Bool) (asked : Asked) (t : Option StType) → row_type (more s names locals) u asked t ts ≡ row_type s u asked t ts
    broken : (u : Bool) (asked : Asked) (t : Option StType) → row_faults (more s names locals) u asked t ts ≡ row_faults s u asked t ts
    values : (u : Bool) (asked : Asked) (t : Option StType) (x : Outcome) → row_value (more s names locals) u asked t x ts ≡ row_value s u asked t x ts
    parts : no_constant_operand (more s names locals) ts ≡ no_constant_operand s ts
    told : operands_are_told (more s names locals) ts ≡ operands_are_told s ts

  record SameArguments (xs : Arguments ℕ) : Type 0 where
    broken : (ms : List Matched) → argument_faults (more s names locals) ms xs ≡ argument_faults s ms xs
    values : (asked : Asked) → operand_value (more s names locals) asked xs ≡ operand_value s asked xs
    parts : no_constant_argument (more s names locals) xs ≡ no_constant_argument s xs
    told : arguments_are_told (more s names locals) xs ≡ arguments_are_told s xs

  along-same : (r : Root ℕ) (ss : Selectors ℕ) → SamePlace r ss → (asked : Asked) (l : ℕ) → faults (more s names locals) asked (Place l r ss) ≡ faults s asked (Place l r ss)
  along-same r ss p asked l = joined (joined p.roots (p.along (root_line r))) p.whole

  place-expression : (l : ℕ) (r : Root ℕ) (ss : Selectors ℕ) → SamePlace r ss → SameExpression (Place l r ss)
  place-expression l r ss p = record {
    kinds = λ asked. p.kind;
    broken = λ asked. along-same r ss p asked l;
    values = λ asked. ap target_value p.meant;
    parts = ap (λ b. when (not b) E05 (root_line r)) p.constant;
    told = ap is_told p.meant;
    bindable = ap not p.fixed;
  }

  not-expression : (l : ℕ) (e : Expression ℕ) → SameExpression e → SameExpression (Not l e)
  not-expression l e x = record {
    kinds = λ asked. ap (λ t. unary_type takes_not t) (x.kinds Anything);
    broken = λ asked. joined (x.broken Anything) (ap (λ t. operand_unsuited (line_of e) takes_not t) (x.kinds Anything));
    values = λ asked.
        ap (λ t. outcome_map (complement (kind_in (unary_type takes_not t))) (constant_value (more s names locals) Anything e)) (x.kinds Anything)
        ∙ ap (λ v. outcome_map (complement (kind_in (unary_type takes_not (type_of s Anything e)))) v) (x.values Anything);
    parts = x.parts;
    told = x.told;
    bindable = refl;
  }

  minus-value : (asked : Asked) (e : Expression ℕ) → SameExpression e
      → outcome_map (difference (kind_in (unary_type takes_minus (type_of (more s names locals) asked e))) (pos 0)) (constant_value (more s names locals) asked e)
      ≡ outcome_map (difference (kind_in (unary_type takes_minus (type_of s asked e))) (pos 0)) (constant_value s asked e)
  minus-value asked e x =
      ap (λ t. outcome_map (difference (kind_in (unary_type takes_minus t)) (pos 0)) (constant_value (more s names locals) asked e)) (x.kinds asked)
      ∙ ap (λ v. outcome_map (difference (kind_in (unary_type takes_minus (type_of s asked e))) (pos 0)) v) (x.values asked)

  minus-faults : (asked : Asked) (e : Expression ℕ) → SameExpression e
      → faults (more s names locals) asked e ++ operand_unsuited (line_of e) takes_minus (type_of (more s names locals) asked e)
      ≡ faults s asked e ++ operand_unsuited (line_of e) takes_minus (type_of s asked e)
  minus-faults asked e x = joined (x.broken asked) (ap (λ t. operand_unsuited (line_of e) takes_minus t) (x.kinds asked))

  negate-expression : (l : ℕ) (e : Expression ℕ) → SameExpression e → SameExpression (Negate l e)
  negate-expression l (Int k digits) x = record { kinds = λ asked. refl; broken = λ asked. refl; values = λ asked. refl; parts = refl; told = refl; bindable = refl }
  negate-expression l e x = record {
    kinds = λ asked. ap (λ t. unary_type takes_minus t) (x.kinds (front_asked (is_untyped e) (number_asked asked)));
    broken = λ asked. minus-faults (front_asked (is_untyped e) (number_asked asked)) e x;
    values = λ asked. minus-value (front_asked (is_untyped e) (number_asked asked)) e x;
    parts = x.parts;
    told = x.told;
    bindable = refl;
  }

  -- ---- rows of operators

  no-row : SameRow no_tails
  no-row = record { wanted = λ asked. refl; kinds = λ u asked t. refl; broken = λ u asked t. refl; values = λ u asked t x. refl; parts = refl; told = refl }

  row-same : (l : ℕ) (o : Operator) (e : Expression ℕ) (ts : Tails ℕ) → SameExpression e → SameRow ts → SameRow (tail_then l o e ts)
  row-same l o e ts x r = record {
    wanted = λ asked.
        ap (λ a. if is_untyped e then (if is_arithmetic o then number_asked a else Anything) else asked_of (type_of (more s names locals) Anything e)) (r.wanted asked)
        ∙ ap (λ t. if is_untyped e then (if is_arithmetic o then number_asked (asked_behind s asked ts) else Anything) else asked_of t) (x.kinds Anything);
    kinds = λ u asked t.
        ap (λ k. row_type (more s names locals) (is_arithmetic o && u && is_untyped e) asked (operation_type o t k) ts) (x.kinds (operand_asked u (is_untyped e) asked t))
        ∙ r.kinds (is_arithmetic o && u && is_untyped e) asked (operation_type o t (type_of s (operand_asked u (is_untyped e) asked t) e));
    broken = λ u asked t.
        joined
        (joined (x.broken (operand_asked u (is_untyped e) asked t)) (ap (λ k. row_unsuited e l o t k) (x.kinds (operand_asked u (is_untyped e) asked t))))
        (ap (λ k. row_faults (more s names locals) (is_arithmetic o && u && is_untyped e) asked (operation_type o t k) ts) (x.kinds (operand_asked u (is_untyped e) asked t))
        ∙ r.broken (is_arithmetic o && u && is_untyped e) asked (operation_type o t (type_of s (operand_asked u (is_untyped e) asked t) e)));
    values = λ u asked t v. row-values l o e ts x r u asked t v;
    parts = joined x.parts r.parts;
    told = joined-bits x.told r.told;
  }
    where
      row-values : (l : ℕ) (o : Operator) (e : Expression ℕ) (ts : Tails ℕ) → SameExpression e → SameRow ts → (u : Bool) (asked : Asked) (t : Option StType) (v : Outcome)
          → row_value (more s names locals) u asked t v (tail_then l o e ts) ≡ row_value s u asked t v (tail_then l o e ts)
      row-values l o e ts x r u asked t v =
          let inner = operand_asked u (is_untyped e) asked t in
          let still = is_arithmetic o && u && is_untyped e in
          ap (λ k. row_value (more s names locals) still asked (operation_type o t k) (operated o (kind_in (operation_type o t k)) l v (constant_value (more s names locals) inner e)) ts) (x.kinds inner)
          ∙ ap (λ y. row_value (more s names locals) still asked (operation_type o t (type_of s inner e)) (operated o (kind_in (operation_type o t (type_of s inner e))) l v y) ts) (x.values inner)
          ∙ r.values still asked (operation_type o t (type_of s inner e)) (operated o (kind_in (operation_type o t (type_of s inner e))) l v (constant_value s inner e))

  chain-expression : (l : ℕ) (e : Expression ℕ) (ts : Tails ℕ) → SameExpression e → SameRow ts → SameExpression (Chain l e ts)
  chain-expression l e ts x r = record {
    kinds = λ asked.
        let u = is_untyped e in
        let front = front_asked u (asked_behind s asked ts) in
        ap (λ a. row_type (more s names locals) u (front_asked u a) (type_of (more s names locals) (front_asked u a) e) ts) (r.wanted asked)
        ∙ ap (λ t. row_type (more s names locals) u front t ts) (x.kinds front)
        ∙ r.kinds u front (type_of s front e);
    broken = λ asked.
        let u = is_untyped e in
        let front = front_asked u (asked_behind s asked ts) in
        ap (λ a. faults (more s names locals) (front_asked u a) e ++ row_faults (more s names locals) u (front_asked u a) (type_of (more s names locals) (front_asked u a) e) ts) (r.wanted asked)
        ∙ joined (x.broken front) (ap (λ t. row_faults (more s names locals) u front t ts) (x.kinds front) ∙ r.broken u front (type_of s front e));
    values = λ asked.
        let u = is_untyped e in
        let front = front_asked u (asked_behind s asked ts) in
        ap (λ a. row_value (more s names locals) u (front_asked u a) (type_of (more s names locals) (front_asked u a) e) (constant_value (more s names locals) (front_asked u a) e) ts) (r.wanted asked)
        ∙ ap (λ t. row_value (more s names locals) u front t (constant_value (more s names locals) front e) ts) (x.kinds front)
        ∙ ap (λ v. row_value (more s names locals) u front (type_of s front e) v ts) (x.values front)
        ∙ r.values u front (type_of s front e) (constant_value s front e);
    parts = joined x.parts r.parts;
    told = joined-bits x.told r.told;
    bindable = refl;
  }

  -- ---- arguments

  no-arguments : SameArguments no_arguments
  no-arguments = record { broken = λ ms. refl; values = λ asked. refl; parts = refl; told = refl }

  given-same : (m : Matched) (e : Expression ℕ) → SameExpression e → given_unsuited (more s names locals) m e (type_of (more s names locals) (asked_by m) e) ≡ given_unsuited s m e (type_of s (asked_by m) e)
  unfolding given_unsuited
  given-same m e x =
      ap (λ t. given_unsuited (more s names locals) m e t) (x.kinds (asked_by m))
      ∙ ap (λ fs. if binds m then fs else value_unsuited (more s names locals) (line_of e) (asked_by m) (type_of s (asked_by m) e))
      (joined (bound-same (line_of e) (matched_type m) (type_of s (asked_by m) e)) (ap (λ b. when (not b) E08 (line_of e)) x.bindable))
      ∙ ap (λ fs. if binds m then bound_to_another_type s (line_of e) (matched_type m) (type_of s (asked_by m) e) ++ bound_no_variable s (line_of e) e else fs) (value-same (line_of e) (asked_by m) (type_of s (asked_by m) e))

  positional-same : (e : Expression ℕ) (xs : Arguments ℕ) → SameExpression e → SameArguments xs → SameArguments (argument_then (Positional e) xs)
  positional-same e xs x r = record {
    broken = λ ms. joined (joined (x.broken (asked_by (first_match ms))) (given-same (first_match ms) e x)) (r.broken (later_matches ms));
    values = λ asked. x.values asked;
    parts = joined x.parts r.parts;
    told = joined-bits x.told r.told;
  }

  input-same : (l : ℕ) (name : List ℕ) (e : Expression ℕ) (xs : Arguments ℕ) → SameExpression e → SameArguments xs → SameArguments (argument_then (Input l name e) xs)
  input-same l name e xs x r = record {
    broken = λ ms. joined (joined (x.broken (asked_by (first_match ms))) (given-same (first_match ms) e x)) (r.broken (later_matches ms));
    values = λ asked. refl;
    parts = joined x.parts r.parts;
    told = joined-bits x.told r.told;
  }

  target-same : (r : Root ℕ) (ss : Selectors ℕ) → SamePlace r ss → target_faults (more s names locals) r ss ≡ target_faults s r ss
  unfolding target_faults
  target-same r ss p = joined (ap (λ b. when b E08 (root_line r)) p.fixed) (ap (λ t. when (holds_instances_if_told s t) E08 (root_line r)) p.kind)

  output-argument : (l : ℕ) (name : List ℕ) (k : ℕ) (r : Root ℕ) (ss : Selectors ℕ) (xs : Arguments ℕ) → SamePlace r ss → SameArguments xs → SameArguments (argument_then (Output l name k r ss) xs)
  output-argument l name k r ss xs p x = record {
    broken = λ ms.
        joined
        (joined (joined (joined (joined p.roots (p.along (root_line r))) p.whole) (target-same r ss p))
        (ap (λ t. output_unsuited (more s names locals) (root_line r) (matched_type (first_match ms)) t) p.kind ∙ output-same (root_line r) (matched_type (first_match ms)) (place_type s r ss)))
        (x.broken (later_matches ms));
    values = λ asked. refl;
    parts = joined (ap (λ b. when (not b) E05 (root_line r)) p.constant) x.parts;
    told = joined-bits (ap is_told p.meant) x.told;
  }

  -- ---- conversions

  conversion-callee : (l : ℕ) (name : List ℕ) (c : Elem × Elem) (t : Scope) → conversion_named name ≡ Some c → callee t (root.Name l name) no_selectors ≡ a_conversion c.0 c.1
  unfolding callee
  conversion-callee l name c t e = ap (λ x. name_callee t x (sought t true name)) e

  root-unsought : (l : ℕ) (name : List ℕ) (c : Elem × Elem) (t : Scope) → conversion_named name ≡ Some c → called_root_faults t (root.Name l name) no_selectors ≡ []
  unfolding called_root_faults
  root-unsought l name c t e = ap (λ x. if is_some x then [] else root_faults t true (root.Name l name) no_selectors) e

  call-expression : (l k : ℕ) (name : List ℕ) (c : Elem × Elem) (xs : Arguments ℕ) → conversion_named name ≡ Some c → SameArguments xs → SameExpression (Call l (root.Name k name) no_selectors xs)
  call-expression l k name c xs e x =
      let f' = conversion-callee k name c (more s names locals) e in
      let f = conversion-callee k name c s e in
      record {
        kinds = λ asked. ap (λ y. call_type y) f' ∙ sym (ap (λ y. call_type y) f);
        broken = λ asked.
            joined
            (joined
            (joined
            (joined (joined (root-unsought k name c (more s names locals) e ∙ sym (root-unsought k name c s e)) refl) (selectors-same k no_selectors))
            (ap (λ y. callee_faults (more s names locals) l (is_on_super (root.Name k name) no_selectors) y (heads xs)) f' ∙ conversion-same l (is_on_super (root.Name k name) no_selectors) c.0 c.1 xs ∙ sym (ap (λ y. callee_faults s l (is_on_super (root.Name k name) no_selectors) y (heads xs)) f)))
            (ap (λ y. argument_faults (more s names locals) (call_matches (more s names locals) y (heads xs)) xs) f' ∙ ap (λ ms. argument_faults (more s names locals) ms xs) (matches-same c.0 c.1 xs)
            ∙ x.broken (call_matches s (a_conversion c.0 c.1) (heads xs)) ∙ sym (ap (λ y. argument_faults s (call_matches s y (heads xs)) xs) f)))
            (ap (λ y. call_without_result l y) f' ∙ sym (ap (λ y. call_without_result l y) f));
        values = λ asked.
            ap (λ y. converted_value y (operand_value (more s names locals) (asked_by (first_match (call_matches (more s names locals) y (heads xs)))) xs)) f'
            ∙ ap (λ ms. converted_value (a_conversion c.0 c.1) (operand_value (more s names locals) (asked_by (first_match ms)) xs)) (matches-same c.0 c.1 xs)
            ∙ ap (λ v. converted_value (a_conversion c.0 c.1) v) (x.values (asked_by (first_match (call_matches s (a_conversion c.0 c.1) (heads xs)))))
            ∙ sym (ap (λ y. converted_value y (operand_value s (asked_by (first_match (call_matches s y (heads xs)))) xs)) f);
        parts = ap (λ fs. if is_some (conversion_named name) then fs else at E05 l) x.parts;
        told = x.told;
        bindable = refl;
      }

  no-conversion : (l : ℕ) (b : Bool) (fs : Faults) → (if b then fs else at E05 l) ≡ [] → (b ≡ true) × (fs ≡ [])
  no-conversion l true fs h = (refl, h)
  no-conversion l false fs h = absurd (cc)

  is-conversion : (name : List ℕ) (o : Option (Elem × Elem)) → conversion_named name ≡ o → is_some o ≡ true → (c : Elem × Elem) × (conversion_named name ≡ Some c)
  is-conversion name None e h = absurd (cc)
  is-conversion name (Some c) e h = (c, e)

  call-same : (l : ℕ) (r : Root ℕ) (ss : Selectors ℕ) (xs : Arguments ℕ) → is_conversion s r ss ≡ true → SameArguments xs → SameExpression (Call l r ss xs)
  call-same l (root.Name k name) no_selectors xs h x = let c = is-conversion name (conversion_named name) refl h in call-expression l k name c.0 xs c.1 x
  call-same l r ss xs h x = absurd (cc)

  -- ---- all together

  mutual
    heart : Lookups s names locals → (e : Expression ℕ) → names_are_told s e ≡ true → no_constant_part s e ≡ [] → SameExpression e
    heart look (Int l digits) h p = record { kinds = λ asked. refl; broken = λ asked. refl; values = λ asked. refl; parts = refl; told = refl; bindable = refl }
    heart look (Typed l k literal) h p = record { kinds = λ asked. refl; broken = λ asked. refl; values = λ asked. refl; parts = refl; told = refl; bindable = refl }
    heart look (Time l text) h p = record { kinds = λ asked. refl; broken = λ asked. refl; values = λ asked. refl; parts = refl; told = refl; bindable = refl }
    heart look (True l) h p = record { kinds = λ asked. refl; broken = λ asked. refl; values = λ asked. refl; parts = refl; told = refl; bindable = refl }
    heart look (False l) h p = record { kinds = λ asked. refl; broken = λ asked. refl; values = λ asked. refl; parts = refl; told = refl; bindable = refl }
    heart look (Null l) h p = record { kinds = λ asked. refl; broken = λ asked. refl; values = λ asked. refl; parts = refl; told = refl; bindable = refl }
    heart look (Place l r ss) h p = place-expression l r ss (same-place look r ss h)
    heart look (Call l r ss xs) h p = let c = no-conversion l (is_conversion s r ss) (no_constant_argument s xs) p in call-same l r ss xs c.0 (heart-arguments look xs h c.1)
    heart look (Enumerator l t k name) h p =
        let x = same-enumerator look l k t name h in
        record { kinds = λ asked. x.kind; broken = λ asked. x.broken; values = λ asked. ap target_value x.meant; parts = refl; told = ap is_told x.meant; bindable = refl }
    heart look (Ref l r ss) h p = absurd (cc)
    heart look (Now l) h p = absurd (cc)
    heart look (Paren l e) h p =
        let x = heart look e h p in
        record { kinds = x.kinds; broken = x.broken; values = x.values; parts = x.parts; told = x.told; bindable = refl }
    heart look (Not l e) h p = not-expression l e (heart look e h p)
    heart look (Negate l e) h p = negate-expression l e (heart look e h p)
    heart look (Chain l e ts) h p =
        let t = both (names_are_told s e) (operands_are_told s ts) h in
        let c = none-of (no_constant_part s e) (no_constant_operand s ts) p in
        chain-expression l e ts (heart look e t.0 c.0) (heart-row look ts t.1 c.1)

    heart-row : Lookups s names locals → (ts : Tails ℕ) → operands_are_told s ts ≡ true → no_constant_operand s ts ≡ [] → SameRow ts
    heart-row look no_tails h p = no-row
    heart-row look (tail_then l o e ts) h p =
        let t = both (names_are_told s e) (operands_are_told s ts) h in
        let c = none-of (no_constant_part s e) (no_constant_operand s ts) p in
        row-same l o e ts (heart look e t.0 c.0) (heart-row look ts t.1 c.1)

    heart-arguments : Lookups s names locals → (xs : Arguments ℕ) → arguments_are_told s xs ≡ true → no_constant_argument s xs ≡ [] → SameArguments xs
    heart-arguments look no_arguments h p = no-arguments
    heart-arguments look (argument_then (Positional e) xs) h p =
        let t = both (names_are_told s e) (arguments_are_told s xs) h in
        let c = none-of (no_constant_part s e) (no_constant_argument s xs) p in
        positional-same e xs (heart look e t.0 c.0) (heart-arguments look xs t.1 c.1)
    heart-arguments look (argument_then (Input l name e) xs) h p =
        let t = both (names_are_told s e) (arguments_are_told s xs) h in
        let c = none-of (no_constant_part s e) (no_constant_argument s xs) p in
        input-same l name e xs (heart look e t.0 c.0) (heart-arguments look xs t.1 c.1)
    heart-arguments look (argument_then (Output l name k r ss) xs) h p =
        let t = both (is_told (whole_target s r ss)) (arguments_are_told s xs) h in
        let c = none-of (no_constant_place s r ss) (no_constant_argument s xs) p in
        output-argument l name k r ss xs (same-place look r ss t.0) (heart-arguments look xs t.1 c.1)

  -- ---- what is told

  if-told : (b : Bool) (fs gs hs : Faults) (v : Outcome) (z : ℤ) → (if b then if_none (fs ++ gs ++ hs) v else None) ≡ Some z → (b ≡ true) × (gs ≡ [])
  if-told false fs gs hs v z h = absurd (cc)
  if-told true [] [] hs v z h = (refl, refl)
  if-told true [] (g ∷ gs) hs v z h = absurd (cc)
  if-told true (f ∷ fs) gs hs v z h = absurd (cc)

  abbrev early-faults : Scope → Asked → Expression ℕ → Faults
  early-faults t asked e = faults t asked e ++ value_unsuited t (line_of e) asked (type_of t asked e)

  same-told : (asked : Asked) (e : Expression ℕ) → SameExpression e → told_value (more s names locals) asked e ≡ told_value s asked e
  unfolding told_value
  same-told asked e x =
      ap (λ b. if b then if_none (early-faults (more s names locals) asked e ++ no_constant_part (more s names locals) e ++ zero_divisor s (constant_value (more s names locals) asked e)) (constant_value (more s names locals) asked e) else None) x.told
      ∙ ap (λ v. if names_are_told s e then if_none (early-faults (more s names locals) asked e ++ no_constant_part (more s names locals) e ++ zero_divisor s v) v else None) (x.values asked)
      ∙ ap (λ fs. if names_are_told s e then if_none (fs ++ zero_divisor s (constant_value s asked e)) (constant_value s asked e) else None)
      (joined (joined (x.broken asked) (ap (λ t. value_unsuited (more s names locals) (line_of e) asked t) (x.kinds asked) ∙ value-same (line_of e) asked (type_of s asked e))) x.parts)

  told-parts : (asked : Asked) (e : Expression ℕ) (z : ℤ) → told_value s asked e ≡ Some z → (names_are_told s e ≡ true) × (no_constant_part s e ≡ [])
  unfolding told_value
  told-parts asked e z h = if-told (names_are_told s e) (early-faults s asked e) (no_constant_part s e) (zero_divisor s (constant_value s asked e)) (constant_value s asked e) z h

  pub value-stays : Lookups s names locals → (asked : Asked) (e : Expression ℕ) (z : ℤ) → told_value s asked e ≡ Some z → told_value (more s names locals) asked e ≡ Some z
  value-stays look asked e z h =
      let p = told-parts asked e z h in
      same-told asked e (heart look e p.0 p.1) ∙ h

  if-number : (b : Bool) (o : Option ℤ) (z : ℤ) → (if b then o else None) ≡ Some z → o ≡ Some z
  if-number true o z h = h
  if-number false o z h = absurd (cc)

  pub bound-stays : Lookups s names locals → (e : Expression ℕ) (z : ℤ) → bound_value s e ≡ Some z → bound_value (more s names locals) e ≡ Some z
  bound-stays look e z h =
      let p = told-parts Anything e z (if-number (is_number_type (type_of s Anything e)) (told_value s Anything e) z h) in
      let x = heart look e p.0 p.1 in
      ap (λ t. if is_number_type t then told_value (more s names locals) Anything e else None) (x.kinds Anything)
      ∙ ap (λ o. if is_number_type (type_of s Anything e) then o else None) (same-told Anything e x)
      ∙ h
