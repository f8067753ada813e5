-- CASE: labels, of which each goes past the rest where it holds, and what stands behind them.
use Rattle.std.proofs.Common.{◌≡◌, ℕ, suc, ◌+◌, List, [], ◌∷◌, ◌++◌, length, Option, Some, None, refl, sym, ap, ◌∙◌, arith}
use Rattle.st_tree.specs.declared.program.Note.{Note}
use Rattle.st_tree.specs.declared.statement.Label.{Label}
use Rattle.st_tree.specs.declared.statement.LabelEnd.{LabelEnd}
use Rattle.stack_code.specs.declared.op.Kind.{Kind}
use Rattle.stack_code.specs.declared.op.Kind.TheVariants.{Num}
use Rattle.stack_code.specs.declared.op.Op.TheVariants as op
use Rattle.stack_code.specs.Validity.{after}
use Rattle.code_cells.specs.declared.cell.Cell.{Cell}
use Rattle.code_cells.specs.declared.cell.Cell.TheVariants.{Does as does, Skips as skips}
use Rattle.code_cells.specs.Cell.{Targets, behind}
use Rattle.code_cells.specs.Found.{Stream, kinds_or_none, from, Mark, GoesOn, AllFit, Free}
use Rattle.code_cells.proofs.Flow.{from_append, from_at, all_fit_append}
use Rattle.code_cells.proofs.Forms.{stays, Leaves, free_before}
use Rattle.code_rules.specs.Bodies.{label_code, labels_code}

abbrev a_number : Option (List Kind)
a_number = Some (Num ∷ [])

-- code of a label that finds a number and leaves it, and goes so many cells past its end where it holds
record Chooses (n : ℕ) (cs : List Cell) : Type 0 where
  finds : (out : Stream) → out 0 ≡ a_number → out n ≡ a_number → from cs out 0 ≡ a_number
  fits : (marks : List Mark) (out : Stream) → out 0 ≡ a_number → out n ≡ a_number → AllFit marks cs out

twice : (ks : List Kind) → ks ≡ Num ∷ [] → GoesOn (after op.Dup ks) (Some (Num ∷ ks))
twice ks e = record { ks = Num ∷ Num ∷ []; leaves = ap (after op.Dup) e; finds = ap (λ x. Some (Num ∷ x)) e }

module _ (line : ℕ) where
  one_label : (l : Label Note) (left : ℕ) → Chooses (suc left) (label_code line l left)
  one_label l left = by l.last
    where
      same : (out : Stream) → out 0 ≡ a_number → out (suc left) ≡ a_number → out 0 ≡ Some (kinds_or_none (out (suc left)))
      same out a b = a ∙ ap (λ x. Some (kinds_or_none x)) (sym b)

      by : (o : Option (LabelEnd Note)) → Chooses (suc left) (label_code line (record l { last = o }) left)
      by None = record {
        finds = λ out a b. ap (λ x. Some (kinds_or_none x)) b;
        fits = λ marks out a b. (
          twice _ (ap kinds_or_none b),
          (
            record { ks = _; leaves = refl; finds = refl },
            (
              record { ks = _; leaves = refl; finds = refl },
              (
                (record { ks = _; leaves = refl; finds = refl }, record { ks = _; leaves = refl; finds = same out a b }),
                (stays _ _ b, tt),
              ),
            ),
          ),
        );
      }
      by (Some last) = record {
        finds = λ out a b. ap (λ x. Some (kinds_or_none x)) b;
        fits = λ marks out a b. (
          twice _ (ap kinds_or_none b),
          (
            record { ks = _; leaves = refl; finds = refl },
            (
              record { ks = _; leaves = refl; finds = refl },
              (
                (record { ks = _; leaves = refl; finds = refl }, record { ks = _; leaves = refl; finds = same out a b }),
                (
                  twice _ (ap kinds_or_none b),
                  (
                    record { ks = _; leaves = refl; finds = refl },
                    (
                      record { ks = _; leaves = refl; finds = refl },
                      (
                        (record { ks = _; leaves = refl; finds = refl }, record { ks = _; leaves = refl; finds = same out a b }),
                        (stays _ _ b, tt),
                      ),
                    ),
                  ),
                ),
              ),
            ),
          ),
        );
      }

  all_labels : (ls : List (Label Note)) → Chooses 1 (labels_code line ls)
  all_labels [] = record { finds = λ out a b. a; fits = λ marks out a b. tt }
  all_labels (l ∷ ls) =
      let rest = all_labels ls in
      let this = one_label l (length (labels_code line ls)) in
      let at : (out : Stream) → out 1 ≡ a_number → from (labels_code line ls) out (suc (length (labels_code line ls))) ≡ a_number = λ out b. from_at (labels_code line ls) out (suc (length (labels_code line ls))) 1 (omega arith) ∙ b in
      record {
        finds = λ out a b. ap (λ s. s 0) (from_append (label_code line l (length (labels_code line ls))) (labels_code line ls) out) ∙ this.finds (from (labels_code line ls) out) (rest.finds out a b) (at out b);
        fits = λ marks out a b. all_fit_append marks (label_code line l (length (labels_code line ls))) (labels_code line ls) out (this.fits marks (from (labels_code line ls) out) (rest.finds out a b) (at out b)) (rest.fits _ out a b);
      }

  -- labels, past the body where none holds, the body without the number, past the rest
  pub case_leaves : {to : Targets} {body rest : List Cell} (ls : List (Label Note)) → Leaves (behind (1 + length rest) to) body [] → Leaves to rest (Num ∷ [])
      → Leaves to (labels_code line ls ++ (skips (2 + length body) line ∷ (does op.Drop line ∷ (body ++ skips (length rest) line ∷ rest)))) (Num ∷ [])
  case_leaves {to = to} {body = body} {rest = rest} ls h k = record {
    finds = λ out f. ap (λ s. s 0) (from_append (labels_code line ls) tail out) ∙ labels.finds (from tail out) (at_skip out f) (at_drop out f);
    fits = λ marks out f.
        all_fit_append marks (labels_code line ls) tail out (labels.fits marks (from tail out) (at_skip out f) (at_drop out f)) (
          stays _ _ (at_rest out f),
          (
            stays _ _ (at_body out f),
            all_fit_append _ body (skips (length rest) line ∷ rest) out (h.fits _ (from (skips (length rest) line ∷ rest) out) (free out f))
                (stays (from rest out (length rest)) [] (from_at rest out (length rest) 0 (omega arith) ∙ f.goes_on), k.fits _ out f),
          ),
        );
  }
    where
      tail : List Cell
      tail = skips (2 + length body) line ∷ (does op.Drop line ∷ (body ++ skips (length rest) line ∷ rest))

      labels : Chooses 1 (labels_code line ls)
      labels = all_labels ls

      free : (out : Stream) → Free to out → Free (behind (1 + length rest) to) (from (skips (length rest) line ∷ rest) out)
      free out f = free_before to (skips (length rest) line ∷ rest) out (1 + length rest) (omega arith) (ap (λ x. Some (kinds_or_none x)) (from_at rest out (length rest) 0 (omega arith) ∙ f.goes_on)) f

      at_body : (out : Stream) → Free to out → from (body ++ skips (length rest) line ∷ rest) out 0 ≡ Some []
      at_body out f = ap (λ s. s 0) (from_append body (skips (length rest) line ∷ rest) out) ∙ h.finds (from (skips (length rest) line ∷ rest) out) (free out f)

      at_drop : (out : Stream) → Free to out → from tail out 1 ≡ a_number
      at_drop out f = ap (λ x. Some (Num ∷ kinds_or_none x)) (at_body out f)

      -- two past the body the rest begins
      at_rest : (out : Stream) → Free to out → from (does op.Drop line ∷ (body ++ skips (length rest) line ∷ rest)) out (2 + length body) ≡ a_number
      at_rest out f =
          let e : 2 + length body ≡ suc (suc (length body)) = omega arith in
          ap (from (does op.Drop line ∷ (body ++ skips (length rest) line ∷ rest)) out) e
          ∙ ap (λ s. s (suc (length body))) (from_append body (skips (length rest) line ∷ rest) out) ∙ from_at body (from (skips (length rest) line ∷ rest) out) (suc (length body)) 1 (omega arith) ∙ k.finds out f

      at_skip : (out : Stream) → Free to out → from tail out 0 ≡ a_number
      at_skip out f = ap (λ x. Some (kinds_or_none x)) (at_rest out f)
