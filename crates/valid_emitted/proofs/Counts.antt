-- FOR: the test by the step's sign, the step that may wrap, and the loop.
use Rattle.std.proofs.Common.{◌≡◌, ℕ, suc, ◌+◌, pos, List, [], ◌∷◌, ◌++◌, length, Some, refl, ap, ◌∙◌, subst, arith, append_assoc, length-append}
use Rattle.st_types.specs.declared.elem.Elem.{Elem}
use Rattle.stack_code.specs.declared.op.Kind.{Kind}
use Rattle.stack_code.specs.declared.op.Kind.TheVariants.{Num, Addr}
use Rattle.stack_code.specs.declared.op.Op.{Op}
use Rattle.stack_code.specs.declared.op.Op.TheVariants as op
use Rattle.code_cells.specs.declared.cell.Cell.{Cell}
use Rattle.code_cells.specs.declared.cell.Cell.TheVariants.{Does as does, Skips as skips, SkipsAt0 as skips_at_0, Returns as returns}
use Rattle.code_cells.specs.Cell.{Targets}
use Rattle.code_cells.specs.Found.{Stream, kinds_or_none, from, Mark, AllFit, Takes, Free}
use Rattle.code_cells.proofs.Flow.{both, does_takes, from_append, from_at, all_fit_append}
use Rattle.code_cells.proofs.Forms.{stays, Leaves, before_leaves}
use Rattle.code_cells.proofs.Loops.{in_loop, loop_leaves}
use Rattle.code_rules.specs.Bodies.{within_code, advance_code}

-- one part or the other, where the number on top is 0
pub either_takes : (a b : List Cell) (line : ℕ) (ks left : List Kind) → Takes a ks left → Takes b ks left → Takes (skips_at_0 (suc (length a)) line ∷ (a ++ (skips (length b) line ∷ b))) (Num ∷ ks) left
either_takes a b line ks left h k = record {
  finds = λ out e. ap (λ x. Some (Num ∷ kinds_or_none x)) (at_a out e);
  fits = λ marks out e. (
    (
      record { ks = ks; leaves = ap (λ x. Some (kinds_or_none x)) (at_a out e); finds = at_a out e },
      record { ks = ks; leaves = ap (λ x. Some (kinds_or_none x)) (at_a out e); finds = ap (λ s. s (suc (length a))) (from_append a rest out) ∙ from_at a (from rest out) (suc (length a)) 1 (omega arith) ∙ k.finds out e },
    ),
    all_fit_append _ a rest out (h.fits _ (from rest out) (at_skip out e)) (stays (from b out (length b)) left (past_b out e), k.fits _ out e),
  );
}
  where
    rest : List Cell
    rest = skips (length b) line ∷ b

    past_b : (out : Stream) → out 0 ≡ Some left → from b out (length b) ≡ Some left
    past_b out e = from_at b out (length b) 0 (omega arith) ∙ e

    at_skip : (out : Stream) → out 0 ≡ Some left → from rest out 0 ≡ Some left
    at_skip out e = ap (λ x. Some (kinds_or_none x)) (past_b out e)

    at_a : (out : Stream) → out 0 ≡ Some left → from (a ++ rest) out 0 ≡ Some ks
    at_a out e = ap (λ s. s 0) (from_append a rest out) ∙ h.finds (from rest out) (at_skip out e)

-- code that leaves no operands at its end, nor one cell past it
pub record Past (cs : List Cell) (ks : List Kind) : Type 0 where
  pub finds : (out : Stream) → out 0 ≡ Some [] → out 1 ≡ Some [] → from cs out 0 ≡ Some ks
  pub fits : (marks : List Mark) (out : Stream) → out 0 ≡ Some [] → out 1 ≡ Some [] → AllFit marks cs out

before_past : {a b : List Cell} {ks mid : List Kind} → Takes a ks mid → Past b mid → Past (a ++ b) ks
before_past {a = a} {b = b} h k = record {
  finds = λ out d e. ap (λ s. s 0) (from_append a b out) ∙ h.finds (from b out) (k.finds out d e);
  fits = λ marks out d e. all_fit_append marks a b out (h.fits marks (from b out) (k.finds out d e)) (k.fits _ out d e);
}

module _ (line : ℕ) (place : List Cell) (places : (ks : List Kind) → Takes place ks (Addr ∷ ks)) (e : Elem) where
  kept : Takes (place ++ does (op.Store e) line ∷ []) (Num ∷ []) []
  kept = both (places (Num ∷ [])) (does_takes (op.Store e) line (Addr ∷ Num ∷ []) [] refl refl (λ next h. h))

  long : length (place ++ does (op.Store e) line ∷ []) ≡ length place + 1
  long = length-append place (does (op.Store e) line ∷ [])

  -- where the sum did not wrap it is kept; else too, and past the cell behind
  wrapped : Past (skips_at_0 (length place + 2) line ∷ (place ++ (does (op.Store e) line ∷ (skips (length place + 2) line ∷ (place ++ does (op.Store e) line ∷ []))))) (Num ∷ Num ∷ [])
  wrapped = subst (λ x. Past (skips_at_0 (length place + 2) line ∷ x) (Num ∷ Num ∷ [])) (append_assoc place (does (op.Store e) line ∷ []) after_store) (record {
    finds = λ out a b. ap (λ x. Some (Num ∷ kinds_or_none x)) (at_first out a b);
    fits = λ marks out a b. (
      (
        record { ks = Num ∷ []; leaves = ap (λ x. Some (kinds_or_none x)) (at_first out a b); finds = at_first out a b },
        record { ks = Num ∷ []; leaves = ap (λ x. Some (kinds_or_none x)) (at_first out a b); finds = ap (λ s. s (length place + 2)) (from_append keeps after_store out) ∙ from_at keeps (from after_store out) (length place + 2) 1 (omega (arith, long)) ∙ kept.finds out a },
      ),
      all_fit_append _ keeps after_store out (kept.fits _ (from after_store out) (at_skip out b)) (stays (from keeps out (length place + 2)) [] (past_keeps out b), kept.fits _ out a),
    );
  })
    where
      keeps : List Cell
      keeps = place ++ does (op.Store e) line ∷ []

      after_store : List Cell
      after_store = skips (length place + 2) line ∷ keeps

      past_keeps : (out : Stream) → out 1 ≡ Some [] → from keeps out (length place + 2) ≡ Some []
      past_keeps out b = from_at keeps out (length place + 2) 1 (omega (arith, long)) ∙ b

      at_skip : (out : Stream) → out 1 ≡ Some [] → from after_store out 0 ≡ Some []
      at_skip out b = ap (λ x. Some (kinds_or_none x)) (past_keeps out b)

      at_first : (out : Stream) → out 0 ≡ Some [] → out 1 ≡ Some [] → from (keeps ++ after_store) out 0 ≡ Some (Num ∷ [])
      at_first out a b = ap (λ s. s 0) (from_append keeps after_store out) ∙ kept.finds (from after_store out) (at_skip out b)

  module _ (free : ℕ) (to by : Elem) where
    pub advance_past : Past (advance_code line free e by place) []
    advance_past =
        before_past (places []) (before_past
        (both (does_takes (op.Load e) line (Addr ∷ []) (Num ∷ []) refl refl (λ next h. h)) (both (does_takes (op.Local (free + 8)) line (Num ∷ []) (Addr ∷ Num ∷ []) refl refl (λ next h. h))
        (both (does_takes (op.Load by) line (Addr ∷ Num ∷ []) (Num ∷ Num ∷ []) refl refl (λ next h. h)) (does_takes (op.AddC e) line (Num ∷ Num ∷ []) (Num ∷ Num ∷ []) refl refl (λ next h. h)))))
        wrapped)

    compared : (o : Op) → Takes (does o line ∷ []) (Num ∷ Num ∷ []) (Num ∷ []) → Takes (place ++ (does (op.Load e) line ∷ (does (op.Local free) line ∷ (does (op.Load to) line ∷ (does o line ∷ []))))) [] (Num ∷ [])
    compared o h =
        both (places []) (both (does_takes (op.Load e) line (Addr ∷ []) (Num ∷ []) refl refl (λ next h. h)) (both (does_takes (op.Local free) line (Num ∷ []) (Addr ∷ Num ∷ []) refl refl (λ next h. h))
        (both (does_takes (op.Load to) line (Addr ∷ Num ∷ []) (Num ∷ Num ∷ []) refl refl (λ next h. h)) h)))

    pub within_takes : Takes (within_code line free e to by place) [] (Num ∷ [])
    within_takes =
        both (does_takes (op.Local (free + 8)) line [] (Addr ∷ []) refl refl (λ next h. h)) (both (does_takes (op.Load by) line (Addr ∷ []) (Num ∷ []) refl refl (λ next h. h)) (both (does_takes (op.Push (pos 0)) line (Num ∷ []) (Num ∷ Num ∷ []) refl refl (λ next h. h))
        (both (does_takes op.Lt line (Num ∷ Num ∷ []) (Num ∷ []) refl refl (λ next h. h)) (either_takes _ _ line [] (Num ∷ []) (compared op.Ge (does_takes op.Ge line (Num ∷ Num ∷ []) (Num ∷ []) refl refl (λ next h. h))) (compared op.Le (does_takes op.Le line (Num ∷ Num ∷ []) (Num ∷ []) refl refl (λ next h. h)))))))

-- the test, past body and step where it does not hold, and back
pub count_leaves : (to : Targets) (test cb advance : List Cell) (line n : ℕ) → n ≡ 1 + length test + 1 + length cb + length advance → Takes test [] (Num ∷ []) → Past advance []
    → Leaves (record { to_exit = length advance + 1; to_continue = 0; to_return = length advance + 1 + to.to_return }) cb []
    → Leaves to (does op.Tick line ∷ (test ++ (skips_at_0 (length cb + length advance + 1) line ∷ (cb ++ (advance ++ returns n line ∷ []))))) []
count_leaves to test cb advance line n e t a h =
    let skip = skips_at_0 (length cb + length advance + 1) line in
    let whole : length (test ++ (skip ∷ (cb ++ advance))) ≡ length test + suc (length cb + length advance) =
    length-append test (skip ∷ (cb ++ advance)) ∙ ap (λ x. length test + suc x) (length-append cb advance) in
    let long : n ≡ suc (length (test ++ (skip ∷ (cb ++ advance)))) = omega (arith, e, whole) in
    subst (λ x. Leaves to (does op.Tick line ∷ x) []) (append_assoc test (skip ∷ (cb ++ advance)) (returns n line ∷ []) ∙ ap (λ x. test ++ (skip ∷ x)) (append_assoc cb advance (returns n line ∷ [])))
    (loop_leaves to (test ++ (skip ∷ (cb ++ advance))) line n long (before_leaves t inner))
  where
    inner : Leaves (in_loop to) (skips_at_0 (length cb + length advance + 1) line ∷ (cb ++ advance)) (Num ∷ [])
    inner = record {
      finds = λ out f. ap (λ x. Some (Num ∷ kinds_or_none x)) (at_body out f);
      fits = λ marks out f. (
        (
          record { ks = []; leaves = ap (λ x. Some (kinds_or_none x)) (at_body out f); finds = at_body out f },
          record { ks = []; leaves = ap (λ x. Some (kinds_or_none x)) (at_body out f); finds = from_at (cb ++ advance) out (length cb + length advance + 1) 1 (let l : length (cb ++ advance) ≡ length cb + length advance = length-append cb advance in omega (arith, l)) ∙ f.exits },
        ),
        all_fit_append _ cb advance out (h.fits _ (from advance out) (free out f)) (a.fits _ out f.goes_on f.exits),
      );
    }
      where
        free : (out : Stream) → Free (in_loop to) out → Free (record { to_exit = length advance + 1; to_continue = 0; to_return = length advance + 1 + to.to_return }) (from advance out)
        free out f = record {
          goes_on = a.finds out f.goes_on f.exits;
          exits = from_at advance out (length advance + 1) 1 refl ∙ f.exits;
          continues = a.finds out f.goes_on f.exits;
          returns = from_at advance out (length advance + 1 + to.to_return) (1 + to.to_return) (omega arith) ∙ f.returns;
        }

        at_body : (out : Stream) → Free (in_loop to) out → from (cb ++ advance) out 0 ≡ Some []
        at_body out f = ap (λ s. s 0) (from_append cb advance out) ∙ h.finds (from advance out) (free out f)
