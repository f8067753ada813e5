-- Parts of expressions by their variants, and operands and arguments one by one.
use Rattle.std.proofs.Common.{◌≡◌, ℕ, ◌+◌, ◌<◌, ◌≤◌, Bool, true, false, List, ◌++◌, Option, None, length, get_or, drop, refl, sym, ap, ◌∙◌}
use Rattle.std.specs.Prelude.{if◌then◌else◌}
use Rattle.plc_text.specs.declared.code.Code.{Code}
use Rattle.plc_text.specs.declared.code.Code.TheVariants.{E05}
use Rattle.st_types.specs.declared.elem.Elem.{Elem}
use Rattle.st_tree.specs.declared.expression.Argument.{Argument as CodeArgument}
use Rattle.st_tree.specs.declared.expression.Argument.TheVariants as argument
use Rattle.st_tree.specs.declared.expression.Expr.{Expr}
use Rattle.st_tree.specs.declared.expression.Expr.TheVariants as code
use Rattle.st_tree.specs.declared.expression.Literal.{Literal}
use Rattle.st_tree.specs.declared.expression.Place.{Place as CodePlace}
use Rattle.st_tree.specs.declared.expression.Tail.{Tail}
use Rattle.st_tree.specs.Expression.{Expression, Argument, Positional, Input, Output, Arguments, argument_then, expression_of, argument_of, arguments_of, place_of, place_of-is, selectors_of, tail_of, tail_of-operand, tails_of, argument_of-Positional, argument_of-Input, argument_of-Output, expression_of-Int, expression_of-Typed, expression_of-Time, expression_of-True, expression_of-False, expression_of-Null, expression_of-Place, expression_of-Call, expression_of-Enumerator, expression_of-Ref, expression_of-Now, expression_of-Paren, expression_of-Not, expression_of-Negate, expression_of-Chain}
use Rattle.st_rules.specs.Expressions.{is_conversion}
use Rattle.st_rules.specs.Faults.{Faults, at, earlier, least}
use Rattle.st_rules.specs.Scope.{Scope}
use Rattle.st_rules.proofs.FaultLaws.{earlier-assoc, earlier-none, least-append}
use Rattle.st_rules.proofs.ListLaws.{drop-at, drop-end}
use Rattle.st_unit_rules.specs.declared_names.Constants.{no_constant_part, no_constant_place, no_constant_operand, no_constant_argument}
use Rattle.constant_folding.specs.constant_rules.Private.Parts.{argument_part, call_part, place_part}

-- ---- literals

pub no_part_int : (s : Scope) (l : ℕ) (digits : List ℕ) → None ≡ least (no_constant_part s (expression_of (code.Int l digits)))
no_part_int s l digits = ap (λ x. least (no_constant_part s x)) (sym (expression_of-Int l digits))

pub no_part_typed : (s : Scope) (l : ℕ) (k : Elem) (x : Literal) → None ≡ least (no_constant_part s (expression_of (code.Typed l k x)))
no_part_typed s l k x = ap (λ x. least (no_constant_part s x)) (sym (expression_of-Typed l k x))

pub no_part_time : (s : Scope) (l : ℕ) (text : List ℕ) → None ≡ least (no_constant_part s (expression_of (code.Time l text)))
no_part_time s l text = ap (λ x. least (no_constant_part s x)) (sym (expression_of-Time l text))

pub no_part_true : (s : Scope) (l : ℕ) → None ≡ least (no_constant_part s (expression_of (code.True l)))
no_part_true s l = ap (λ x. least (no_constant_part s x)) (sym (expression_of-True l))

pub no_part_false : (s : Scope) (l : ℕ) → None ≡ least (no_constant_part s (expression_of (code.False l)))
no_part_false s l = ap (λ x. least (no_constant_part s x)) (sym (expression_of-False l))

pub no_part_null : (s : Scope) (l : ℕ) → None ≡ least (no_constant_part s (expression_of (code.Null l)))
no_part_null s l = ap (λ x. least (no_constant_part s x)) (sym (expression_of-Null l))

pub no_part_enumerator : (s : Scope) (l : ℕ) (t : List ℕ) (k : ℕ) (n : List ℕ) → None ≡ least (no_constant_part s (expression_of (code.Enumerator l t k n)))
no_part_enumerator s l t k n = ap (λ x. least (no_constant_part s x)) (sym (expression_of-Enumerator l t k n))

pub ruleset leaf_parts = (no_part_int, no_part_typed, no_part_time, no_part_true, no_part_false, no_part_null, no_part_enumerator)

-- ---- one part

seen : (s : Scope) (r : Option (Code × ℕ)) (e : Expr ℕ) (x : Expression ℕ) → expression_of e ≡ x → r ≡ least (no_constant_part s x) → r ≡ least (no_constant_part s (expression_of e))
seen s r e x h k = k ∙ ap (λ y. least (no_constant_part s y)) (sym h)

module _ (s : Scope) (r : Option (Code × ℕ)) (e : Expr ℕ) (l : ℕ) where
  pub paren_arm : (i inner : Expr ℕ) → e ≡ code.Paren l i → inner ≡ i → r ≡ least (no_constant_part s (expression_of inner)) → r ≡ least (no_constant_part s (expression_of e))
  paren_arm i inner h g k = seen s r e _ (ap expression_of h ∙ expression_of-Paren l i) (k ∙ ap (λ x. least (no_constant_part s (expression_of x))) g)

  pub not_arm : (i inner : Expr ℕ) → e ≡ code.Not l i → inner ≡ i → r ≡ least (no_constant_part s (expression_of inner)) → r ≡ least (no_constant_part s (expression_of e))
  not_arm i inner h g k = seen s r e _ (ap expression_of h ∙ expression_of-Not l i) (k ∙ ap (λ x. least (no_constant_part s (expression_of x))) g)

  pub negate_arm : (i inner : Expr ℕ) → e ≡ code.Negate l i → inner ≡ i → r ≡ least (no_constant_part s (expression_of inner)) → r ≡ least (no_constant_part s (expression_of e))
  negate_arm i inner h g k = seen s r e _ (ap expression_of h ∙ expression_of-Negate l i) (k ∙ ap (λ x. least (no_constant_part s (expression_of x))) g)

  pub chain_arm : (i inner : Expr ℕ) (ts us : List (Tail ℕ)) (a b : Option (Code × ℕ)) → e ≡ code.Chain l i ts → inner ≡ i → us ≡ ts → a ≡ least (no_constant_part s (expression_of inner)) → b ≡ least (no_constant_operand s (tails_of us)) → r ≡ earlier a b
      → r ≡ least (no_constant_part s (expression_of e))
  chain_arm i inner ts us a b h g f k m q =
      seen s r e _ (ap expression_of h ∙ expression_of-Chain l i ts)
      (q ∙ ap (λ x. earlier x b) (k ∙ ap (λ x. least (no_constant_part s (expression_of x))) g) ∙ ap (earlier (least (no_constant_part s (expression_of i)))) (m ∙ ap (λ xs. least (no_constant_operand s (tails_of xs))) f)
      ∙ sym (least-append (no_constant_part s (expression_of i)) (no_constant_operand s (tails_of ts))))

  pub place_arm : (p : CodePlace ℕ) → e ≡ code.Place l p → r ≡ least (place_part s (place_of p)) → r ≡ least (no_constant_part s (expression_of e))
  place_arm p h k = seen s r e _ (ap expression_of h ∙ expression_of-Place l p) k

  pub call_arm : (p : CodePlace ℕ) (xs ys : List (CodeArgument ℕ)) → e ≡ code.Call l p xs → ys ≡ xs → r ≡ least (call_part s l (place_of p) (arguments_of ys)) → r ≡ least (no_constant_part s (expression_of e))
  call_arm p xs ys h g k = seen s r e _ (ap expression_of h ∙ expression_of-Call l p xs) (k ∙ ap (λ zs. least (call_part s l (place_of p) (arguments_of zs))) g)

  pub ref_arm : (p : CodePlace ℕ) → e ≡ code.Ref l p → r ≡ least (at E05 l) → r ≡ least (no_constant_part s (expression_of e))
  ref_arm p h k = seen s r e _ (ap expression_of h ∙ expression_of-Ref l p) k

  pub now_arm : e ≡ code.Now l → r ≡ least (at E05 l) → r ≡ least (no_constant_part s (expression_of e))
  now_arm h k = seen s r e _ (ap expression_of h ∙ expression_of-Now l) k

-- ---- places and calls

pub place_seen : (s : Scope) (r : Option (Code × ℕ)) (p : CodePlace ℕ) → r ≡ least (no_constant_place s p.root (selectors_of p.selectors)) → r ≡ least (place_part s (place_of p))
place_seen s r p h = h ∙ ap (λ q. least (place_part s q)) (sym (place_of-is p))

chosen : (b : Bool) (xs ys : Faults) → (if b then least xs else least ys) ≡ least (if b then xs else ys)
chosen true xs ys = refl
chosen false xs ys = refl

pub call_seen : (s : Scope) (r o : Option (Code × ℕ)) (l : ℕ) (p : CodePlace ℕ) (xs : Arguments ℕ) → o ≡ least (no_constant_argument s xs) → r ≡ (if is_conversion s p.root (selectors_of p.selectors) then o else least (at E05 l)) → r ≡ least (call_part s l (place_of p) xs)
call_seen s r o l p xs e h =
    h ∙ ap (λ x. if is_conversion s p.root (selectors_of p.selectors) then x else least (at E05 l)) e ∙ chosen (is_conversion s p.root (selectors_of p.selectors)) (no_constant_argument s xs) (at E05 l)
    ∙ ap (λ q. least (call_part s l q xs)) (sym (place_of-is p))

-- ---- operands one by one

module _ (s : Scope) (ts : List (Tail ℕ)) where
  pub record OperandsTo (found : Option (Code × ℕ)) (i : ℕ) : Type 0 where
    pub rest : earlier found (least (no_constant_operand s (tails_of (drop i ts)))) ≡ least (no_constant_operand s (tails_of ts))

  pub operands_begun : OperandsTo None 0
  operands_begun = record { rest = refl }

  pub operands_next : (found f more : Option (Code × ℕ)) (i : ℕ) (t : Tail ℕ) → i < length ts → t ≡ get_or ts i t → f ≡ least (no_constant_part s (expression_of t.operand)) → more ≡ earlier found f → OperandsTo found i → OperandsTo more (i + 1)
  operands_next found f more i t l e h m o = record {
    rest =
        ap (λ y. earlier y (least (no_constant_operand s (tails_of (drop (i + 1) ts))))) m
        ∙ sym (earlier-assoc found f (least (no_constant_operand s (tails_of (drop (i + 1) ts)))))
        ∙ ap (earlier found)
        (ap (λ y. earlier y (least (no_constant_operand s (tails_of (drop (i + 1) ts))))) (h ∙ ap (λ x. least (no_constant_part s x)) (sym (tail_of-operand t)))
        ∙ sym (least-append (no_constant_part s (tail_of t).2) (no_constant_operand s (tails_of (drop (i + 1) ts)))))
        ∙ ap (λ us. earlier found (least (no_constant_operand s (tails_of us)))) (sym (drop-at ts i t l e)) ∙ o.rest;
  }

  pub operands_ended : (found : Option (Code × ℕ)) (i : ℕ) → length ts ≤ i → OperandsTo found i → found ≡ least (no_constant_operand s (tails_of ts))
  operands_ended found i l o = sym (earlier-none found) ∙ ap (λ us. earlier found (least (no_constant_operand s (tails_of us)))) (sym (drop-end ts i l)) ∙ o.rest

-- ---- arguments one by one

argument_first : (s : Scope) (x : Argument ℕ) (xs : Arguments ℕ) → no_constant_argument s (argument_then x xs) ≡ argument_part s x ++ no_constant_argument s xs
argument_first s (Positional e) xs = refl
argument_first s (Input l name e) xs = refl
argument_first s (Output l name k r ss) xs = refl

pub positional_seen : (s : Scope) (r : Option (Code × ℕ)) (x : CodeArgument ℕ) (e : Expr ℕ) → x ≡ argument.Positional e → r ≡ least (no_constant_part s (expression_of e)) → r ≡ least (argument_part s (argument_of x))
positional_seen s r x e h k = k ∙ ap (λ y. least (argument_part s y)) (sym (ap argument_of h ∙ argument_of-Positional e))

pub input_seen : (s : Scope) (r : Option (Code × ℕ)) (x : CodeArgument ℕ) (l : ℕ) (n : List ℕ) (e : Expr ℕ) → x ≡ argument.Input l n e → r ≡ least (no_constant_part s (expression_of e)) → r ≡ least (argument_part s (argument_of x))
input_seen s r x l n e h k = k ∙ ap (λ y. least (argument_part s y)) (sym (ap argument_of h ∙ argument_of-Input l n e))

pub output_seen : (s : Scope) (r : Option (Code × ℕ)) (x : CodeArgument ℕ) (l : ℕ) (n : List ℕ) (b : ℕ) (p : CodePlace ℕ) → x ≡ argument.Output l n b p → r ≡ least (place_part s (place_of p)) → r ≡ least (argument_part s (argument_of x))
output_seen s r x l n b p h k = k ∙ ap (λ y. least (argument_part s y)) (sym (ap argument_of h ∙ argument_of-Output l n b p))

module _ (s : Scope) (xs : List (CodeArgument ℕ)) where
  pub record ArgumentsTo (found : Option (Code × ℕ)) (i : ℕ) : Type 0 where
    pub rest : earlier found (least (no_constant_argument s (arguments_of (drop i xs)))) ≡ least (no_constant_argument s (arguments_of xs))

  pub arguments_begun : ArgumentsTo None 0
  arguments_begun = record { rest = refl }

  pub arguments_next : (found f more : Option (Code × ℕ)) (i : ℕ) (x : CodeArgument ℕ) → i < length xs → x ≡ get_or xs i x → f ≡ least (argument_part s (argument_of x)) → more ≡ earlier found f → ArgumentsTo found i → ArgumentsTo more (i + 1)
  arguments_next found f more i x l e h m o = record {
    rest =
        ap (λ y. earlier y (least (no_constant_argument s (arguments_of (drop (i + 1) xs))))) m
        ∙ sym (earlier-assoc found f (least (no_constant_argument s (arguments_of (drop (i + 1) xs)))))
        ∙ ap (earlier found)
        (ap (λ y. earlier y (least (no_constant_argument s (arguments_of (drop (i + 1) xs))))) h
        ∙ sym (least-append (argument_part s (argument_of x)) (no_constant_argument s (arguments_of (drop (i + 1) xs))))
        ∙ ap least (sym (argument_first s (argument_of x) (arguments_of (drop (i + 1) xs)))))
        ∙ ap (λ ys. earlier found (least (no_constant_argument s (arguments_of ys)))) (sym (drop-at xs i x l e)) ∙ o.rest;
  }

  pub arguments_ended : (found : Option (Code × ℕ)) (i : ℕ) → length xs ≤ i → ArgumentsTo found i → found ≡ least (no_constant_argument s (arguments_of xs))
  arguments_ended found i l o = sym (earlier-none found) ∙ ap (λ ys. earlier found (least (no_constant_argument s (arguments_of ys)))) (sym (drop-end xs i l)) ∙ o.rest
