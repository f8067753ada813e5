-- One operand more in a row.
use Rattle.std.proofs.Common.{◌≡◌, ℕ, Bool, true, false, List, [], ◌∷◌, ◌++◌, Option, Some, None, refl, sym, ap, ◌∙◌, map}
use Rattle.std.specs.Prelude.{◌&&◌, if◌then◌else◌}
use Rattle.st_types.specs.declared.st_type.StType.{StType}
use Rattle.st_tree.specs.declared.expression.Operator.{Operator}
use Rattle.st_tree.specs.declared.program.Note.{Note}
use Rattle.st_tree.specs.declared.program.Target.TheVariants.{Nothing}
use Rattle.st_tree.specs.Expression.{Expression, Chain, Tails, no_tails, tail_then, tail_of, tails_of, tails, expression_of}
use Rattle.plc_text.specs.declared.code.Code.{Code}
use Rattle.st_rules.specs.declared.asked.Asked.{Asked}
use Rattle.st_rules.specs.declared.asked.Asked.TheVariants.{Anything}
use Rattle.st_rules.specs.Faults.{least, earlier}
use Rattle.st_rules.specs.Kinds.{is_arithmetic, operation_type}
use Rattle.st_rules.specs.Scope.{Scope}
use Rattle.st_rules.specs.Expressions.{note, is_untyped, front_asked, asked_behind, operand_asked, line_of, row_unsuited, type_of, faults, typed, row_type, row_faults, typed_row}
use Rattle.st_rules.proofs.FaultLaws.{least-append, earlier-none}
use Rattle.check_nodes.specs.declared.found.Checked.{Checked}
use Rattle.check_nodes.specs.declared.rows.Row.{Row}
use Rattle.check_nodes.specs.Found.{Checks}
use Rattle.check_nodes.specs.Rows.{Begins, Joins, Closes}
use Rattle.st_check_expr.specs.Private.Rows.{Keeps, Whole, row_rest, tails_onto, first_typed}
use Rattle.st_check_expr.proofs.Parts.{three_parts}

pub onto_append : (ts us : List (Note × Operator × Expression Note)) (rest : Tails Note) → tails_onto (ts ++ us) rest ≡ tails_onto ts (tails_onto us rest)
onto_append [] us rest = refl
onto_append (t ∷ ts) us rest = ap (tail_then t.0 t.1 t.2) (onto_append ts us rest)

pub onto_nothing : (ts : List (Note × Operator × Expression Note)) → tails_onto ts no_tails ≡ tails ts
onto_nothing [] = refl
onto_nothing (t ∷ ts) = ap (tail_then t.0 t.1 t.2) (onto_nothing ts)

abbrev whole_of : Option StType → Option (Code × ℕ) → Expression Note → Tails Note → Whole
whole_of a b c d = (a, b, c, d)

whole_is : {a a' : Option StType} {b b' : Option (Code × ℕ)} {c c' : Expression Note} {d d' : Tails Note} → a ≡ a' → b ≡ b' → c ≡ c' → d ≡ d' → whole_of a b c d ≡ whole_of a' b' c' d'
whole_is {a' = a'} {b = b} {b' = b'} {c = c} {c' = c'} {d = d} p q r t =
    ap (λ (x : Option StType). whole_of x b c d) p ∙ ap (λ (x : Option (Code × ℕ)). whole_of a' x c d) q ∙ ap (λ (x : Expression Note). whole_of a' b' x d) r ∙ ap (λ (x : Tails Note). whole_of a' b' c' x) t

module _ (s : Scope) (asked : Asked) (before r : Row) (y : Checked) (l : ℕ) (o : Operator) (e : Expression ℕ)
    (j : Joins r l o (line_of e) (is_untyped e) before y) (f : Checks y s (operand_asked before.untyped (is_untyped e) asked before.told) e) where
  abbrev inner : Asked
  inner = operand_asked before.untyped (is_untyped e) asked before.told

  told_is : r.told ≡ operation_type o before.told (type_of s inner e)
  told_is = j.told ∙ ap (operation_type o before.told) f.told

  -- what depends on the row's state alone
  state : {X : Type 0} (of : Bool → Option StType → X) → of r.untyped r.told ≡ of (is_arithmetic o && before.untyped && is_untyped e) (operation_type o before.told (type_of s inner e))
  state of = ap (λ u. of u r.told) j.untyped ∙ ap (of (is_arithmetic o && before.untyped && is_untyped e)) told_is

  least_is : r.least ≡ earlier (earlier before.least (least (faults s inner e))) (least (row_unsuited e l o before.told (type_of s inner e)))
  least_is = j.least
      ∙ ap (λ x. earlier (earlier before.least x) (least (row_unsuited e l o before.told y.told))) f.least
      ∙ ap (λ t. earlier (earlier before.least (least (faults s inner e))) (least (row_unsuited e l o before.told t))) f.told

  tails_are : map tail_of r.tails ≡ map tail_of before.tails ++ (note l (operation_type o before.told (type_of s inner e)) Nothing, o, typed s inner e) ∷ []
  tails_are = j.tails
      ∙ ap (λ t. map tail_of before.tails ++ (note l (operation_type o before.told t) Nothing, o, expression_of y.tree) ∷ []) f.told
      ∙ ap (λ x. map tail_of before.tails ++ (note l (operation_type o before.told (type_of s inner e)) Nothing, o, x) ∷ []) f.tree

  pub row_goes : (ts : Tails ℕ) → row_rest s asked r ts ≡ row_rest s asked before (tail_then l o e ts)
  unfolding row_rest
  row_goes ts = whole_is
      (state (λ u t. row_type s u asked t ts))
      (ap (λ x. earlier x (least (row_faults s r.untyped asked r.told ts))) least_is
      ∙ ap (λ fs. earlier (earlier (earlier before.least (least (faults s inner e))) (least (row_unsuited e l o before.told (type_of s inner e)))) (least fs)) (state (λ u t. row_faults s u asked t ts))
      ∙ sym (three_parts before.least (faults s inner e) (row_unsuited e l o before.told (type_of s inner e)) _))
      j.first
      (ap (λ xs. tails_onto xs (typed_row s r.untyped asked r.told ts)) tails_are
      ∙ ap (λ rest. tails_onto (map tail_of before.tails ++ (note l (operation_type o before.told (type_of s inner e)) Nothing, o, typed s inner e) ∷ []) rest) (state (λ u t. typed_row s u asked t ts))
      ∙ onto_append (map tail_of before.tails) _ _)

-- ---- what is kept

pub keeps_nothing : (s : Scope) (ts : Tails ℕ) → Keeps None s ts
keeps_nothing s ts = record { checks = λ c e h k. absurd (cc h) }

pub keeps_on : (kept : Option Checked) (s : Scope) (l : ℕ) (o : Operator) (e : Expression ℕ) (ts : Tails ℕ) → is_untyped e ≡ true → Keeps kept s (tail_then l o e ts) → Keeps kept s ts
keeps_on kept s l o e ts u k = record { checks = λ c x h p. k.checks c x h (ap (λ b. if b then first_typed ts else Some e) u ∙ p) }

-- what is kept is the operand whose turn it is
pub kept_is : (y : Checked) (s : Scope) (l : ℕ) (o : Operator) (e : Expression ℕ) (ts : Tails ℕ) → is_untyped e ≡ false → Keeps (Some y) s (tail_then l o e ts) → Checks y s Anything e
kept_is y s l o e ts u k = k.checks y e refl (ap (λ b. if b then first_typed ts else Some e) u)

-- a typed operand is asked for nothing
pub asked_alone : (untyped : Bool) (e : Expression ℕ) (asked : Asked) (t : Option StType) → is_untyped e ≡ false → operand_asked untyped (is_untyped e) asked t ≡ Anything
unfolding operand_asked
asked_alone untyped e asked t u = ap (λ b. operand_asked untyped b asked t) u

-- ---- the whole row

module _ (s : Scope) (asked : Asked) (l : ℕ) (e : Expression ℕ) (ts : Tails ℕ) (front : Asked) (b r : Row) (x c : Checked)
    (w : front ≡ front_asked (is_untyped e) (asked_behind s asked ts)) (begins : Begins b (is_untyped e) x) (f : Checks x s front e)
    (goes : row_rest s front r no_tails ≡ row_rest s front b ts) (closes : Closes c l r) where
  -- a part of the whole
  part : {X : Type 0} (of : Whole → X) → of (row_rest s front r no_tails) ≡ of (row_rest s front b ts)
  part of = ap of goes

  begun : {X : Type 0} (of : Bool → Option StType → X) → of b.untyped b.told ≡ of (is_untyped e) (type_of s front e)
  begun of = ap (λ u. of u b.told) begins.is_untyped ∙ ap (of (is_untyped e)) (begins.told ∙ f.told)

  told_whole : r.told ≡ row_type s (is_untyped e) front (type_of s front e) ts
  unfolding row_rest
  told_whole = part (λ p. p.0) ∙ begun (λ u t. row_type s u front t ts)

  least_whole : r.least ≡ least (faults s front e ++ row_faults s (is_untyped e) front (type_of s front e) ts)
  unfolding row_rest
  least_whole = sym (earlier-none r.least) ∙ part (λ p. p.1)
      ∙ ap (λ z. earlier z (least (row_faults s b.untyped front b.told ts))) (begins.least ∙ f.least)
      ∙ begun (λ u t. earlier (least (faults s front e)) (least (row_faults s u front t ts)))
      ∙ sym (least-append (faults s front e) (row_faults s (is_untyped e) front (type_of s front e) ts))

  first_whole : expression_of r.first ≡ typed s front e
  unfolding row_rest
  first_whole = part (λ p. p.2) ∙ begins.first ∙ f.tree

  tails_whole : tails_of r.tails ≡ typed_row s (is_untyped e) front (type_of s front e) ts
  unfolding row_rest
  tails_whole = sym (onto_nothing (map tail_of r.tails)) ∙ part (λ p. p.3)
      ∙ ap (λ us. tails_onto us (typed_row s b.untyped front b.told ts)) begins.tails
      ∙ begun (λ u t. typed_row s u front t ts)

  asked_so : {X : Type 0} (of : Asked → X) → of front ≡ of (front_asked (is_untyped e) (asked_behind s asked ts))
  asked_so of = ap of w

  pub row_checks : Checks c s asked (Chain l e ts)
  row_checks = record {
    told = closes.told ∙ told_whole ∙ asked_so (λ a. row_type s (is_untyped e) a (type_of s a e) ts);
    least = closes.least ∙ least_whole ∙ asked_so (λ a. least (faults s a e ++ row_faults s (is_untyped e) a (type_of s a e) ts));
    tree = closes.tree
        ∙ ap (λ t. Chain (note l t Nothing) (expression_of r.first) (tails_of r.tails)) told_whole
        ∙ ap (λ x. Chain (note l (row_type s (is_untyped e) front (type_of s front e) ts) Nothing) x (tails_of r.tails)) first_whole
        ∙ ap (λ us. Chain (note l (row_type s (is_untyped e) front (type_of s front e) ts) Nothing) (typed s front e) us) tails_whole
        ∙ asked_so (λ a. Chain (note l (row_type s (is_untyped e) a (type_of s a e) ts) Nothing) (typed s a e) (typed_row s (is_untyped e) a (type_of s a e) ts));
  }
