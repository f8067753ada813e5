-- Forms of code in which jumps go past parts.
use Rattle.std.proofs.Common.{◌≡◌, ℕ, suc, ◌+◌, List, [], ◌∷◌, ◌++◌, length, Option, Some, refl, sym, ap, ◌∙◌, arith}
use Rattle.stack_code.specs.declared.op.Kind.{Kind}
use Rattle.stack_code.specs.declared.op.Kind.TheVariants.{Num}
use Rattle.stack_code.specs.declared.op.Op.TheVariants as op
use Rattle.stack_code.specs.Validity.{after}
use Rattle.code_cells.specs.declared.cell.Cell.{Cell}
use Rattle.code_cells.specs.declared.cell.Cell.TheVariants.{Does as does, Skips as skips, SkipsAt0 as skips_at_0, Returns as returns}
use Rattle.code_cells.specs.Cell.{Targets, behind}
use Rattle.code_cells.specs.Found.{before, Stream, kinds_or_none, found, from, Mark, GoesOn, AllFit, marks_behind, Takes, Free}
use Rattle.code_cells.proofs.Flow.{from_append, from_at, all_fit_append}

pub is_there : (x : Option (List Kind)) (ks : List Kind) → x ≡ Some ks → x ≡ Some (kinds_or_none x)
is_there x ks e = e ∙ ap (λ y. Some (kinds_or_none y)) (sym e)

pub kinds_there : (x : Option (List Kind)) (ks : List Kind) → x ≡ Some ks → kinds_or_none x ≡ ks
kinds_there x ks e = ap kinds_or_none e

-- the same where something is found
pub stays : (x : Option (List Kind)) (ks : List Kind) → x ≡ Some ks → GoesOn (Some (kinds_or_none x)) x
stays x ks e = record { ks = kinds_or_none x; leaves = refl; finds = is_there x ks e }

-- ---- AND_THEN and OR_ELSE

pub and_then_takes : (right : List Cell) (line : ℕ) (ks : List Kind) → Takes right ks (Num ∷ ks) → Takes (does op.Dup line ∷ (skips_at_0 (suc (length right)) line ∷ (does op.Drop line ∷ right))) (Num ∷ ks) (Num ∷ ks)
and_then_takes right line ks r = record {
  finds = λ out e. ap (λ x. Some (Num ∷ kinds_or_none x)) (r.finds out e);
  fits = λ marks out e.
      let s = from right out in
      let here = r.finds out e in
      let past : s (length right) ≡ Some (Num ∷ kinds_or_none (s 0)) = from_at right out (length right) 0 (omega arith) ∙ e ∙ ap (λ x. Some (Num ∷ kinds_or_none x)) (sym here) in
      (record { ks = _; leaves = refl; finds = refl }, ((record { ks = _; leaves = refl; finds = refl }, record { ks = _; leaves = refl; finds = past }), (stays (s 0) ks here, r.fits _ out e)));
}

pub or_else_takes : (right : List Cell) (line : ℕ) (ks : List Kind) → Takes right ks (Num ∷ ks) → Takes (does op.Dup line ∷ (skips_at_0 1 line ∷ (skips (suc (length right)) line ∷ (does op.Drop line ∷ right)))) (Num ∷ ks) (Num ∷ ks)
or_else_takes right line ks r = record {
  finds = λ out e. ap (λ x. Some (kinds_or_none x)) (past out e);
  fits = λ marks out e.
      let s = from right out in
      let here = r.finds out e in
      let stay : s (length right) ≡ Some (Num ∷ kinds_or_none (s 0)) = past out e ∙ ap (λ x. Some (Num ∷ kinds_or_none x)) (sym here) in
      let same : Some (kinds_or_none (s (length right))) ≡ Some (Num ∷ kinds_or_none (s 0)) = ap (λ x. Some (kinds_or_none x)) stay in
      let twice : after op.Dup (kinds_or_none (s (length right))) ≡ Some (Num ∷ kinds_or_none (s (length right))) = ap (λ x. after op.Dup (kinds_or_none x)) stay ∙ ap (λ x. Some (Num ∷ kinds_or_none x)) (sym stay) in (
        record { ks = _; leaves = twice; finds = refl },
        (
          (record { ks = _; leaves = refl; finds = refl }, record { ks = _; leaves = refl; finds = sym same }),
          (
            stays (s (length right)) _ stay,
            (stays (s 0) ks here, r.fits _ out e),
          ),
        ),
      );
}
  where
    past : (out : Stream) → out 0 ≡ Some (Num ∷ ks) → from right out (length right) ≡ Some (Num ∷ ks)
    past out e = from_at right out (length right) 0 (omega arith) ∙ e

-- ---- statements

-- code of statements that finds operand kinds
pub record Leaves (to : Targets) (cs : List Cell) (ks : List Kind) : Type 0 where
  pub finds : (out : Stream) → Free to out → from cs out 0 ≡ Some ks
  pub fits : (marks : List Mark) (out : Stream) → Free to out → AllFit marks cs out

pub takes_leaves : (to : Targets) {cs : List Cell} {ks : List Kind} → Takes cs ks [] → Leaves to cs ks
takes_leaves to h = record { finds = λ out f. h.finds out f.goes_on; fits = λ marks out f. h.fits marks out f.goes_on }

pub before_leaves : {to : Targets} {a b : List Cell} {ks mid : List Kind} → Takes a ks mid → Leaves to b mid → Leaves to (a ++ b) ks
before_leaves {to = to} {a = a} {b = b} h k = record {
  finds = λ out f. ap (λ s. s 0) (from_append a b out) ∙ h.finds (from b out) (k.finds out f);
  fits = λ marks out f. all_fit_append marks a b out (h.fits marks (from b out) (k.finds out f)) (k.fits (marks_behind marks a (from b out)) out f);
}

-- before more statements
pub free_before : (to : Targets) (b : List Cell) (out : Stream) (n : ℕ) → n ≡ length b → from b out 0 ≡ Some [] → Free to out → Free (behind n to) (from b out)
free_before to b out n e h f = record {
  goes_on = h;
  exits = from_at b out (n + to.to_exit) to.to_exit (omega (arith, e)) ∙ f.exits;
  continues = from_at b out (n + to.to_continue) to.to_continue (omega (arith, e)) ∙ f.continues;
  returns = from_at b out (n + to.to_return) to.to_return (omega (arith, e)) ∙ f.returns;
}

pub then_leaves : {to : Targets} {a b : List Cell} {ks : List Kind} → Leaves (behind (length b) to) a ks → Leaves to b [] → Leaves to (a ++ b) ks
then_leaves {to = to} {a = a} {b = b} h k = record {
  finds = λ out f. ap (λ s. s 0) (from_append a b out) ∙ h.finds (from b out) (free_before to b out (length b) refl (k.finds out f) f);
  fits = λ marks out f. all_fit_append marks a b out (h.fits marks (from b out) (free_before to b out (length b) refl (k.finds out f) f)) (k.fits (marks_behind marks a (from b out)) out f);
}

pub exit_leaves : (to : Targets) (line : ℕ) → Leaves to (skips to.to_exit line ∷ []) []
exit_leaves to line = record { finds = λ out f. ap (λ x. Some (kinds_or_none x)) f.exits; fits = λ marks out f. (stays (out to.to_exit) [] f.exits, tt) }

pub continue_leaves : (to : Targets) (line : ℕ) → Leaves to (skips to.to_continue line ∷ []) []
continue_leaves to line = record { finds = λ out f. ap (λ x. Some (kinds_or_none x)) f.continues; fits = λ marks out f. (stays (out to.to_continue) [] f.continues, tt) }

pub return_leaves : (to : Targets) (line : ℕ) → Leaves to (skips to.to_return line ∷ []) []
return_leaves to line = record { finds = λ out f. ap (λ x. Some (kinds_or_none x)) f.returns; fits = λ marks out f. (stays (out to.to_return) [] f.returns, tt) }

-- body; skip past the rest; rest: the rest finds what the branch's test left to it
-- where the number on top is 0, past a body and the jump behind it; `ks` is found by the body and by the rest
pub choice_leaves : {to : Targets} {body rest : List Cell} {ks : List Kind} (line : ℕ) → Leaves (behind (1 + length rest) to) body ks → Leaves to rest ks
    → Leaves to (skips_at_0 (suc (length body)) line ∷ (body ++ skips (length rest) line ∷ rest)) (Num ∷ ks)
choice_leaves {to = to} {body = body} {rest = rest} {ks = ks} line h k = record {
  finds = λ out f. ap (λ x. Some (Num ∷ kinds_or_none x)) (at_body out f);
  fits = λ marks out f. (
    (
      record { ks = ks; leaves = ap (λ x. Some (kinds_or_none x)) (at_body out f); finds = at_body out f },
      record { ks = ks; leaves = ap (λ x. Some (kinds_or_none x)) (at_body out f); finds = ap (λ s. s (suc (length body))) (from_append body (skips (length rest) line ∷ rest) out) ∙ from_at body (behind_body out) (suc (length body)) 1 (omega arith) ∙ k.finds out f },
    ),
    all_fit_append _ body (skips (length rest) line ∷ rest) out (h.fits _ (behind_body out) (free out f))
        (stays (from rest out (length rest)) [] (from_at rest out (length rest) 0 (omega arith) ∙ f.goes_on), k.fits _ out f),
  );
}
  where
    behind_body : Stream → Stream
    behind_body out = from (skips (length rest) line ∷ rest) out

    free : (out : Stream) → Free to out → Free (behind (1 + length rest) to) (from (skips (length rest) line ∷ rest) out)
    free out f = free_before to (skips (length rest) line ∷ rest) out (1 + length rest) (omega arith) (ap (λ x. Some (kinds_or_none x)) (from_at rest out (length rest) 0 (omega arith) ∙ f.goes_on)) f

    at_body : (out : Stream) → Free to out → from (body ++ skips (length rest) line ∷ rest) out 0 ≡ Some ks
    at_body out f = ap (λ s. s 0) (from_append body (skips (length rest) line ∷ rest) out) ∙ h.finds (from (skips (length rest) line ∷ rest) out) (free out f)
