-- Code behind code, by the forms of the tree.
use Rattle.std.proofs.Common.{◌≡◌, ℕ, suc, ◌+◌, ◌-◌, ◌<◌, List, [], ◌∷◌, ◌++◌, length, Some, drop, get_or, refl, sym, ap, ◌∙◌, arith, append_assoc, length-append}
use Rattle.std.specs.Prelude.{slice_get, slice_set}
use Rattle.std.proofs.Math.Seq.{set-append_seam}
use Rattle.st_rules.proofs.ListLaws.{drop-at}
use Rattle.st_types.specs.declared.elem.Elem.{Elem}
use Rattle.st_types.specs.declared.st_type.StType.{StType, out-StType}
use Rattle.st_tree.specs.declared.expression.Argument.{Argument as CodeArgument}
use Rattle.st_tree.specs.declared.expression.Argument.TheVariants as argument
use Rattle.st_tree.specs.declared.expression.Expr.{Expr}
use Rattle.st_tree.specs.declared.expression.Expr.TheVariants as code
use Rattle.st_tree.specs.declared.expression.Operator.{Operator}
use Rattle.st_tree.specs.declared.expression.Operator.TheVariants as operator
use Rattle.st_tree.specs.declared.expression.Place.{Place as CodePlace}
use Rattle.st_tree.specs.declared.expression.Selector.{Selector as CodeSelector}
use Rattle.st_tree.specs.declared.expression.Tail.{Tail}
use Rattle.st_tree.specs.declared.program.Note.{Note}
use Rattle.st_tree.specs.Expression.{Expression, Positional, argument_then, expression_of, expression_of-Not, expression_of-Chain, argument_of, argument_of-Positional, argument_of-Input, argument_of-Output, arguments_of, tail_of, tail_of-is, tails_of, tail_then, selectors_of, place_of, place_of-is}
use Rattle.st_values.specs.Initial.{note_of}
use Rattle.st_meaning.specs.Operation.{elem_of}
use Rattle.st_meaning.specs.Place.{root_note}
use Rattle.stack_code.specs.declared.op.Op.{Op}
use Rattle.stack_code.specs.declared.op.Op.TheVariants as op
use Rattle.code_cells.specs.declared.cell.Cell.{Cell}
use Rattle.code_cells.specs.declared.cell.Cell.TheVariants.{Does as does, Skips as skips, SkipsAt0 as skips_at_0}
use Rattle.code_rules.specs.Plan.{Plan}
use Rattle.code_rules.specs.Code.{number_kind, operator_code, inverted, operated_code, root_code, along_code, place_code, index_op, converted_code, operand_code, value_code, chained_code}
use Rattle.codegen_parts.proofs.CodeLaws.{two, nothing}

module _ (w : Plan) (line free : ℕ) where
  pub place_goes : (q : CodePlace Note) (ss : List (CodeSelector Note)) (a : Note) (old mid new : List Cell) → ss ≡ q.selectors → a ≡ root_note q.root → mid ≡ old ++ root_code w line q.root
      → new ≡ mid ++ along_code w line free (selectors_of ss) a.kind → new ≡ old ++ place_code w line free (place_of q).0 (place_of q).1
  place_goes q ss a old mid new h n m k =
      two old mid new (root_code w line q.root) (along_code w line free (selectors_of ss) a.kind) m k
      ∙ ap (λ x. old ++ (root_code w line q.root ++ along_code w line free (selectors_of ss) x.kind)) n
      ∙ ap (λ x. old ++ place_code w line free q.root (selectors_of x)) h
      ∙ ap (λ x. old ++ place_code w line free x.0 x.1) (sym (place_of-is q))

  pub not_goes : (e : Expr Note) (a : Note) (inner i : Expr Note) (o : Elem) (old mid new : List Cell) → e ≡ code.Not a inner → i ≡ inner → mid ≡ old ++ value_code w line free (expression_of i)
      → o ≡ elem_of a.kind → new ≡ mid ++ does (op.Not o) line ∷ [] → new ≡ old ++ value_code w line free (expression_of e)
  not_goes e a inner i o old mid new q h m n k =
      two old mid new (value_code w line free (expression_of i)) (does (op.Not o) line ∷ []) m k
      ∙ ap (λ x. old ++ (value_code w line free (expression_of x) ++ does (op.Not o) line ∷ [])) h
      ∙ ap (λ x. old ++ (value_code w line free (expression_of inner) ++ does (op.Not x) line ∷ [])) n
      ∙ ap (λ x. old ++ value_code w line free x) (sym (ap expression_of q ∙ expression_of-Not a inner))

  pub chain_goes : (e : Expr Note) (a : Note) (first f g : Expr Note) (ts us : List (Tail Note)) (n : Note) (old mid new : List Cell) → e ≡ code.Chain a first ts → f ≡ first → g ≡ first → us ≡ ts → n ≡ note_of (expression_of g)
      → mid ≡ old ++ value_code w line free (expression_of f) → new ≡ mid ++ chained_code w line free n.kind (tails_of us) → new ≡ old ++ value_code w line free (expression_of e)
  chain_goes e a first f g ts us n old mid new q h i u d m k =
      two old mid new (value_code w line free (expression_of f)) (chained_code w line free n.kind (tails_of us)) m k
      ∙ ap (λ x. old ++ (value_code w line free (expression_of x) ++ chained_code w line free n.kind (tails_of us))) h
      ∙ ap (λ x. old ++ (value_code w line free (expression_of first) ++ chained_code w line free x.kind (tails_of us))) (d ∙ ap (λ y. note_of (expression_of y)) i)
      ∙ ap (λ x. old ++ (value_code w line free (expression_of first) ++ chained_code w line free (note_of (expression_of first)).kind (tails_of x))) u
      ∙ ap (λ x. old ++ value_code w line free x) (sym (ap expression_of q ∙ expression_of-Chain a first ts))

  pub index_goes : (e : Expression Note) (kind : StType) (o : Op) (old mid new : List Cell) → mid ≡ old ++ value_code w line free e → o ≡ index_op w (out-StType kind) → new ≡ mid ++ does o line ∷ []
      → new ≡ old ++ (value_code w line free e ++ does (index_op w (out-StType kind)) line ∷ [])
  index_goes e kind o old mid new m h k = two old mid new (value_code w line free e) (does o line ∷ []) m k ∙ ap (λ x. old ++ (value_code w line free e ++ does x line ∷ [])) h

  -- ---- conversions

  module _ (x : CodeArgument Note) (xs : List (CodeArgument Note)) (t : StType) (old : List Cell) where
    pub positional_goes : (v : Expr Note) (n : Note) (f g : Elem) (mid new : List Cell) → Some x ≡ slice_get xs 0 → x ≡ argument.Positional v → n ≡ note_of (expression_of v) → f ≡ number_kind n.kind → g ≡ elem_of t
        → mid ≡ old ++ value_code w line free (expression_of v) → new ≡ mid ++ does (op.Conv f g) line ∷ [] → new ≡ old ++ converted_code line (arguments_of xs) t (operand_code w line free (arguments_of xs))
    positional_goes v n f g mid new h q d e i m k = by xs h
      where
        at_end : new ≡ old ++ (value_code w line free (expression_of v) ++ does (op.Conv (number_kind (note_of (expression_of v)).kind) (elem_of t)) line ∷ [])
        at_end =
            two old mid new (value_code w line free (expression_of v)) (does (op.Conv f g) line ∷ []) m k
            ∙ ap (λ y. old ++ (value_code w line free (expression_of v) ++ does (op.Conv y g) line ∷ [])) (e ∙ ap (λ y. number_kind y.kind) d)
            ∙ ap (λ y. old ++ (value_code w line free (expression_of v) ++ does (op.Conv (number_kind (note_of (expression_of v)).kind) y) line ∷ [])) i

        by : (ys : List (CodeArgument Note)) → Some x ≡ slice_get ys 0 → new ≡ old ++ converted_code line (arguments_of ys) t (operand_code w line free (arguments_of ys))
        by [] h = cc
        by (y ∷ ys) h =
            let same : y ≡ x = cc in
            let is : argument_of y ≡ Positional (expression_of v) = ap argument_of (same ∙ q) ∙ argument_of-Positional v in
            at_end ∙ ap (λ z. old ++ converted_code line (argument_then z (arguments_of ys)) t (operand_code w line free (argument_then z (arguments_of ys)))) (sym is)

    pub input_goes : (a : Note) (n : List ℕ) (v : Expr Note) → Some x ≡ slice_get xs 0 → x ≡ argument.Input a n v → old ≡ old ++ converted_code line (arguments_of xs) t (operand_code w line free (arguments_of xs))
    input_goes a n v h q = by xs h
      where
        by : (ys : List (CodeArgument Note)) → Some x ≡ slice_get ys 0 → old ≡ old ++ converted_code line (arguments_of ys) t (operand_code w line free (arguments_of ys))
        by [] h = cc
        by (y ∷ ys) h =
            let same : y ≡ x = cc in
            nothing old ∙ ap (λ z. old ++ converted_code line (argument_then z (arguments_of ys)) t (operand_code w line free (argument_then z (arguments_of ys)))) (sym (ap argument_of (same ∙ q) ∙ argument_of-Input a n v))

    pub output_goes : (a : Note) (n : List ℕ) (b : Note) (p : CodePlace Note) → Some x ≡ slice_get xs 0 → x ≡ argument.Output a n b p → old ≡ old ++ converted_code line (arguments_of xs) t (operand_code w line free (arguments_of xs))
    output_goes a n b p h q = by xs h
      where
        by : (ys : List (CodeArgument Note)) → Some x ≡ slice_get ys 0 → old ≡ old ++ converted_code line (arguments_of ys) t (operand_code w line free (arguments_of ys))
        by [] h = cc
        by (y ∷ ys) h =
            let same : y ≡ x = cc in
            nothing old ∙ ap (λ z. old ++ converted_code line (argument_then z (arguments_of ys)) t (operand_code w line free (argument_then z (arguments_of ys)))) (sym (ap argument_of (same ∙ q) ∙ argument_of-Output a n b p))

  -- ---- operators

  pub chained_next : (ts : List (Tail Note)) (i : ℕ) (x : Tail Note) (kind : StType) (old mid total : List Cell) → i < length ts → x ≡ get_or ts i x
      → mid ≡ old ++ operated_code line (tail_of x).1 kind (tail_of x).0.kind (value_code w line free (tail_of x).2)
      → (old ++ chained_code w line free kind (tails_of (drop i ts))) ≡ total → (mid ++ chained_code w line free x.note.kind (tails_of (drop (i + 1) ts))) ≡ total
  chained_next ts i x kind old mid total l g m inv =
      let this = operated_code line x.operator kind x.note.kind (value_code w line free (expression_of x.operand)) in
      let rest = chained_code w line free x.note.kind (tails_of (drop (i + 1) ts)) in
      let next : tails_of (drop i ts) ≡ tail_then x.note x.operator (expression_of x.operand) (tails_of (drop (i + 1) ts)) =
      ap tails_of (drop-at ts i x l g) ∙ ap (λ y. tail_then y.0 y.1 y.2 (tails_of (drop (i + 1) ts))) (tail_of-is x) in
      let mid_is : mid ≡ old ++ this = m ∙ ap (λ y. old ++ operated_code line y.1 kind y.0.kind (value_code w line free y.2)) (tail_of-is x) in
      ap (λ y. y ++ rest) mid_is ∙ append_assoc old this rest ∙ ap (λ y. old ++ chained_code w line free kind y) (sym next) ∙ inv

  tail_as : (x : Tail Note) (kind : StType) (old new : List Cell) (o : Operator) → x.operator ≡ o → new ≡ old ++ operated_code line o kind x.note.kind (value_code w line free (expression_of x.operand))
      → new ≡ old ++ operated_code line (tail_of x).1 kind (tail_of x).0.kind (value_code w line free (tail_of x).2)
  tail_as x kind old new o e h =
      h ∙ ap (λ y. old ++ operated_code line y kind x.note.kind (value_code w line free (expression_of x.operand))) (sym e)
      ∙ ap (λ y. old ++ operated_code line y.1 kind y.0.kind (value_code w line free y.2)) (sym (tail_of-is x))

  -- another cell in the place of one
  put_at : (a b : List Cell) (y z : Cell) (k : ℕ) → k ≡ length a → slice_set (a ++ y ∷ b) k z ≡ a ++ z ∷ b
  put_at a b y z k e = ap (λ n. slice_set (a ++ y ∷ b) n z) e ∙ set-append_seam a y b z

  pub and_goes : (x : Tail Note) (kind : StType) (a0 a1 a2 a3 a4 new : List Cell) (at n : ℕ) → x.operator ≡ operator.AndThen → at ≡ length a0 → n ≡ length a4
      → a1 ≡ a0 ++ does op.Dup line ∷ [] → a2 ≡ a1 ++ skips_at_0 0 line ∷ [] → a3 ≡ a2 ++ does op.Drop line ∷ [] → a4 ≡ a3 ++ value_code w line free (expression_of x.operand)
      → new ≡ slice_set a4 (at + 1) (skips_at_0 (n - at - 2) line)
      → new ≡ a0 ++ operated_code line (tail_of x).1 kind (tail_of x).0.kind (value_code w line free (tail_of x).2)
  and_goes x kind a0 a1 a2 a3 a4 new at n o l m h1 h2 h3 h4 h = tail_as x kind a0 new operator.AndThen o whole
    where
      v : List Cell
      v = value_code w line free (expression_of x.operand)

      before : a4 ≡ (a0 ++ does op.Dup line ∷ []) ++ (skips_at_0 0 line ∷ (does op.Drop line ∷ v))
      before =
          two a1 a3 a4 (skips_at_0 0 line ∷ (does op.Drop line ∷ [])) v (two a1 a2 a3 (skips_at_0 0 line ∷ []) (does op.Drop line ∷ []) h2 h3) h4
          ∙ ap (λ z. z ++ (skips_at_0 0 line ∷ (does op.Drop line ∷ v))) h1

      front : at + 1 ≡ length (a0 ++ does op.Dup line ∷ [])
      front = let e : length (a0 ++ does op.Dup line ∷ []) ≡ length a0 + 1 = length-append a0 (does op.Dup line ∷ []) in omega (arith, e, l)

      far : n - at - 2 ≡ suc (length v)
      far =
          let e : length a4 ≡ length (a0 ++ does op.Dup line ∷ []) + suc (suc (length v)) = ap length before ∙ length-append (a0 ++ does op.Dup line ∷ []) (skips_at_0 0 line ∷ (does op.Drop line ∷ v)) in
          omega (arith, e, front, m)

      whole : new ≡ a0 ++ (does op.Dup line ∷ (skips_at_0 (suc (length v)) line ∷ (does op.Drop line ∷ v)))
      whole =
          h ∙ ap (λ z. slice_set z (at + 1) (skips_at_0 (n - at - 2) line)) before
          ∙ put_at (a0 ++ does op.Dup line ∷ []) (does op.Drop line ∷ v) (skips_at_0 0 line) (skips_at_0 (n - at - 2) line) (at + 1) front
          ∙ ap (λ z. (a0 ++ does op.Dup line ∷ []) ++ (skips_at_0 z line ∷ (does op.Drop line ∷ v))) far
          ∙ append_assoc a0 (does op.Dup line ∷ []) (skips_at_0 (suc (length v)) line ∷ (does op.Drop line ∷ v))

  pub or_goes : (x : Tail Note) (kind : StType) (a0 a1 a2 a3 a4 a5 new : List Cell) (at n : ℕ) → x.operator ≡ operator.OrElse → at ≡ length a0 → n ≡ length a5
      → a1 ≡ a0 ++ does op.Dup line ∷ [] → a2 ≡ a1 ++ skips_at_0 1 line ∷ [] → a3 ≡ a2 ++ skips 0 line ∷ [] → a4 ≡ a3 ++ does op.Drop line ∷ [] → a5 ≡ a4 ++ value_code w line free (expression_of x.operand)
      → new ≡ slice_set a5 (at + 2) (skips (n - at - 3) line)
      → new ≡ a0 ++ operated_code line (tail_of x).1 kind (tail_of x).0.kind (value_code w line free (tail_of x).2)
  or_goes x kind a0 a1 a2 a3 a4 a5 new at n o l m h1 h2 h3 h4 h5 h = tail_as x kind a0 new operator.OrElse o whole
    where
      v : List Cell
      v = value_code w line free (expression_of x.operand)

      head : List Cell
      head = does op.Dup line ∷ (skips_at_0 1 line ∷ [])

      before : a5 ≡ (a0 ++ head) ++ (skips 0 line ∷ (does op.Drop line ∷ v))
      before =
          two a2 a4 a5 (skips 0 line ∷ (does op.Drop line ∷ [])) v (two a2 a3 a4 (skips 0 line ∷ []) (does op.Drop line ∷ []) h3 h4) h5
          ∙ ap (λ z. z ++ (skips 0 line ∷ (does op.Drop line ∷ v))) (two a0 a1 a2 (does op.Dup line ∷ []) (skips_at_0 1 line ∷ []) h1 h2)

      front : at + 2 ≡ length (a0 ++ head)
      front = let e : length (a0 ++ head) ≡ length a0 + 2 = length-append a0 head in omega (arith, e, l)

      far : n - at - 3 ≡ suc (length v)
      far =
          let e : length a5 ≡ length (a0 ++ head) + suc (suc (length v)) = ap length before ∙ length-append (a0 ++ head) (skips 0 line ∷ (does op.Drop line ∷ v)) in
          omega (arith, e, front, m)

      whole : new ≡ a0 ++ (does op.Dup line ∷ (skips_at_0 1 line ∷ (skips (suc (length v)) line ∷ (does op.Drop line ∷ v))))
      whole =
          h ∙ ap (λ z. slice_set z (at + 2) (skips (n - at - 3) line)) before
          ∙ put_at (a0 ++ head) (does op.Drop line ∷ v) (skips 0 line) (skips (n - at - 3) line) (at + 2) front
          ∙ ap (λ z. (a0 ++ head) ++ (skips z line ∷ (does op.Drop line ∷ v))) far
          ∙ append_assoc a0 head (skips (suc (length v)) line ∷ (does op.Drop line ∷ v))

  -- an operator that evaluates both
  abbrev Strict : Operator → Type 0
  Strict operator.AndThen = ⊥
  Strict operator.OrElse = ⊥
  Strict o = Unit {0}

  strict : (o : Operator) → (o ≡ operator.AndThen → ⊥) → (o ≡ operator.OrElse → ⊥) → Strict o
  strict operator.AndThen h k = h refl
  strict operator.OrElse h k = k refl
  strict o h k = tt

  operated : (o : Operator) (t u : StType) (right : List Cell) → Strict o → right ++ (does (operator_code o t u) line ∷ inverted line o t) ≡ operated_code line o t u right
  operated operator.AndThen t u right h = absurd h
  operated operator.OrElse t u right h = absurd h
  operated o t u right h = refl

  pub strict_goes : (x : Tail Note) (kind : StType) (old mid new : List Cell) → (x.operator ≡ operator.AndThen → ⊥) → (x.operator ≡ operator.OrElse → ⊥) → mid ≡ old ++ value_code w line free (expression_of x.operand)
      → new ≡ mid ++ (does (operator_code x.operator kind x.note.kind) line ∷ inverted line x.operator kind)
      → new ≡ old ++ operated_code line (tail_of x).1 kind (tail_of x).0.kind (value_code w line free (tail_of x).2)
  strict_goes x kind old mid new a b m k =
      tail_as x kind old new x.operator refl (two old mid new (value_code w line free (expression_of x.operand)) (does (operator_code x.operator kind x.note.kind) line ∷ inverted line x.operator kind) m k
      ∙ ap (λ z. old ++ z) (operated x.operator kind x.note.kind (value_code w line free (expression_of x.operand)) (strict x.operator a b)))
