-- Loops: code whose last cell leads back to a TICK.
use Rattle.std.proofs.Common.{◌≡◌, ℕ, suc, ◌+◌, List, [], ◌∷◌, ◌++◌, length, Some, sym, ap, ◌∙◌, subst, arith, length-append, append_assoc, inl, inr}
use Rattle.std.specs.Prelude.{slice_get, ◌⊎◌}
use Rattle.stack_code.specs.declared.op.Kind.TheVariants.{Num}
use Rattle.stack_code.specs.declared.op.Op.TheVariants as op
use Rattle.code_cells.specs.declared.cell.Cell.{Cell}
use Rattle.code_cells.specs.declared.cell.Cell.TheVariants.{Does as does, SkipsAt0 as skips_at_0, Returns as returns, ReturnsAt0 as returns_at_0}
use Rattle.code_cells.specs.Cell.{Targets, behind}
use Rattle.code_cells.specs.Found.{Stream, kinds_or_none, found, from, Mark, AllFit, marks_behind, Takes, Free}
use Rattle.code_cells.proofs.Flow.{from_append, from_at, all_fit_append, marks_past}
use Rattle.code_cells.proofs.Forms.{stays, Leaves, before_leaves}

-- in a loop whose last cell leads back
abbrev pub in_loop : Targets → Targets
in_loop to = record { to_exit = 1; to_continue = 0; to_return = 1 + to.to_return }

-- the mark of the first cell of code, seen from behind it
pub mark_first : (c : Cell) (a : List Cell) (out : Stream) (marks : List Mark) → slice_get (marks_behind marks (c ∷ a) out) (length a) ≡ Some (c, found c (from a out))
mark_first c a out marks =
    let more = (c, found c (from a out)) ∷ marks in
    let e : length a ≡ length a + 0 = omega arith in
    ap (slice_get (marks_behind more a out)) e ∙ marks_past more a out 0

module _ (to : Targets) (middle : List Cell) (line n : ℕ) (e : n ≡ suc (length middle)) (h : Leaves (in_loop to) middle []) where
  free_in : (out : Stream) → Free to out → Free (in_loop to) (from (returns n line ∷ []) out)
  free_in out f = record {
    goes_on = ap (λ x. Some (kinds_or_none x)) f.goes_on;
    exits = f.goes_on;
    continues = ap (λ x. Some (kinds_or_none x)) f.goes_on;
    returns = let k : 1 + to.to_return ≡ suc to.to_return = omega arith in ap (from (returns n line ∷ []) out) k ∙ f.returns;
  }

  at_middle : (out : Stream) → Free to out → from (middle ++ returns n line ∷ []) out 0 ≡ Some []
  at_middle out f = ap (λ s. s 0) (from_append middle (returns n line ∷ []) out) ∙ h.finds (from (returns n line ∷ []) out) (free_in out f)

  pub loop_leaves : Leaves to (does op.Tick line ∷ (middle ++ returns n line ∷ [])) []
  loop_leaves = record {
    finds = λ out f. ap (λ x. Some (kinds_or_none x)) (at_middle out f);
    fits = λ marks out f.
        let first : Mark = (does op.Tick line, kinds_or_none (from (middle ++ returns n line ∷ []) out 0)) in
        let last = marks_behind (first ∷ marks) middle (from (returns n line ∷ []) out) in
        let k : length middle ≡ length middle + 0 = omega arith in
        let at : slice_get ((returns n line, kinds_or_none (out 0)) ∷ last) n ≡ Some (does op.Tick line, kinds_or_none (out 0)) =
        ap (slice_get ((returns n line, kinds_or_none (out 0)) ∷ last)) e
        ∙ ap (slice_get last) k ∙ marks_past (first ∷ marks) middle (from (returns n line ∷ []) out) 0
        ∙ ap (λ x. Some (does op.Tick line, kinds_or_none x)) (at_middle out f ∙ sym f.goes_on) in
        (stays _ [] (at_middle out f), all_fit_append (first ∷ marks) middle (returns n line ∷ []) out (h.fits _ _ (free_in out f)) (record { line = line; there = at }, tt));
  }

-- the condition, past the body and the jump back where it does not hold, the body, and back
pub while_leaves : (to : Targets) (condition body : List Cell) (line n : ℕ) → n ≡ 1 + length condition + 1 + length body → Takes condition [] (Num ∷ []) → Leaves (in_loop to) body []
    → Leaves to (does op.Tick line ∷ (condition ++ (skips_at_0 (suc (length body)) line ∷ (body ++ returns n line ∷ [])))) []
while_leaves to condition body line n e c h =
    let middle = condition ++ (skips_at_0 (suc (length body)) line ∷ body) in
    let long : n ≡ suc (length middle) = let l : length middle ≡ length condition + suc (length body) = length-append condition (skips_at_0 (suc (length body)) line ∷ body) in omega (arith, l, e) in
    subst (λ x. Leaves to (does op.Tick line ∷ x) []) (append_assoc condition (skips_at_0 (suc (length body)) line ∷ body) (returns n line ∷ []))
    (loop_leaves to middle line n long (before_leaves c ended_or_on))
  where
    ended_or_on : Leaves (in_loop to) (skips_at_0 (suc (length body)) line ∷ body) (Num ∷ [])
    ended_or_on = record {
      finds = λ out f. ap (λ x. Some (Num ∷ kinds_or_none x)) (h.finds out f);
      fits = λ marks out f. (
        (
          record { ks = []; leaves = ap (λ x. Some (kinds_or_none x)) (h.finds out f); finds = h.finds out f },
          record { ks = []; leaves = ap (λ x. Some (kinds_or_none x)) (h.finds out f); finds = from_at body out (suc (length body)) 1 (omega arith) ∙ f.exits },
        ),
        h.fits _ out f,
      );
    }

-- ---- REPEAT: back to the first cell of body and test

-- code that is empty or begins with a TICK
abbrev pub Ticked : List Cell → Type 0
Ticked cs = (cs ≡ []) ⊎ ((line : ℕ) × (rest : List Cell) × (cs ≡ does op.Tick line ∷ rest))

-- the same behind which a TICK stands
record Begins (cs : List Cell) : Type 0 where
  line : ℕ
  rest : List Cell
  is : cs ≡ does op.Tick line ∷ rest

begins : (a b : List Cell) (line : ℕ) → Ticked a → Begins (a ++ does op.Tick line ∷ b)
begins a b line (inl e) = record { line = line; rest = b; is = ap (λ x. x ++ does op.Tick line ∷ b) e }
begins a b line (inr x) = record { line = x.0; rest = x.1 ++ does op.Tick line ∷ b; is = ap (λ y. y ++ does op.Tick line ∷ b) x.2 }

-- back to the first cell where the number on top is 0
pub until_leaves : (to : Targets) (middle : List Cell) (first line n : ℕ) (rest : List Cell) → middle ≡ does op.Tick first ∷ rest → n ≡ length middle
    → ((out : Stream) → (out 0 ≡ Some (Num ∷ [])) → Free to (λ k. out (suc k)) → (from middle out 0 ≡ Some []) × ((marks : List Mark) → AllFit marks middle out)) → Leaves to (middle ++ returns_at_0 n line ∷ []) []
until_leaves to middle first line n rest q e h = record {
  finds = λ out f. ap (λ s. s 0) (from_append middle (returns_at_0 n line ∷ []) out) ∙ (inner out f).0;
  fits = λ marks out f.
      let s = from (returns_at_0 n line ∷ []) out in
      let last = marks_behind marks middle s in
      let k : n ≡ suc (length rest) = let l : length middle ≡ suc (length rest) = ap length q in omega (arith, e, l) in
      let at : slice_get ((returns_at_0 n line, Num ∷ kinds_or_none (out 0)) ∷ last) n ≡ Some (does op.Tick first, kinds_or_none (out 0)) =
      ap (slice_get ((returns_at_0 n line, Num ∷ kinds_or_none (out 0)) ∷ last)) k
      ∙ ap (λ m. slice_get (marks_behind marks m s) (length rest)) q
      ∙ mark_first (does op.Tick first) rest s marks
      ∙ ap (λ x. Some (does op.Tick first, x)) (tick_finds out f ∙ sym (ap kinds_or_none f.goes_on)) in
      all_fit_append marks middle (returns_at_0 n line ∷ []) out ((inner out f).1 marks) ((stays (out 0) [] f.goes_on, record { line = first; there = at }), tt);
}
  where
    inner : (out : Stream) → Free to out → (from middle (from (returns_at_0 n line ∷ []) out) 0 ≡ Some []) × ((marks : List Mark) → AllFit marks middle (from (returns_at_0 n line ∷ []) out))
    inner out f = h (from (returns_at_0 n line ∷ []) out) (ap (λ x. Some (Num ∷ kinds_or_none x)) f.goes_on) f

    tick_finds : (out : Stream) → Free to out → kinds_or_none (from rest (from (returns_at_0 n line ∷ []) out) 0) ≡ []
    tick_finds out f = ap (λ m. kinds_or_none (from m (from (returns_at_0 n line ∷ []) out) 0)) (sym q) ∙ ap kinds_or_none (inner out f).0

-- TICK; body; TICK; condition; back
pub repeat_leaves : (to : Targets) (condition body : List Cell) (line n : ℕ) → n ≡ length body + 1 + length condition → Ticked body → Takes condition [] (Num ∷ [])
    → Leaves (record { to_exit = 1 + length condition + 1; to_continue = 0; to_return = 1 + length condition + 1 + to.to_return }) body []
    → Leaves to (body ++ (does op.Tick line ∷ (condition ++ returns_at_0 n line ∷ []))) []
repeat_leaves to condition body line n e t c h =
    let b = begins body condition line t in
    let long : n ≡ length (body ++ does op.Tick line ∷ condition) = let l : length (body ++ does op.Tick line ∷ condition) ≡ length body + suc (length condition) = length-append body (does op.Tick line ∷ condition) in omega (arith, l, e) in
    subst (λ x. Leaves to x []) (append_assoc body (does op.Tick line ∷ condition) (returns_at_0 n line ∷ [])) (until_leaves to (body ++ does op.Tick line ∷ condition) b.line line n b.rest b.is long inside)
  where
    inside : (out : Stream) → (out 0 ≡ Some (Num ∷ [])) → Free to (λ k. out (suc k)) → (from (body ++ does op.Tick line ∷ condition) out 0 ≡ Some []) × ((marks : List Mark) → AllFit marks (body ++ does op.Tick line ∷ condition) out)
    inside out top f =
        let s = from (does op.Tick line ∷ condition) out in
        let here : s 0 ≡ Some [] = ap (λ x. Some (kinds_or_none x)) (c.finds out top) in
        let free : Free (record { to_exit = 1 + length condition + 1; to_continue = 0; to_return = 1 + length condition + 1 + to.to_return }) s = record {
          goes_on = here;
          exits = from_at (does op.Tick line ∷ condition) out (1 + length condition + 1) 1 (omega arith) ∙ f.goes_on;
          continues = here;
          returns = from_at (does op.Tick line ∷ condition) out (1 + length condition + 1 + to.to_return) (suc to.to_return) (omega arith) ∙ f.returns;
        } in (
          ap (λ x. x 0) (from_append body (does op.Tick line ∷ condition) out) ∙ h.finds s free,
          λ marks. all_fit_append marks body (does op.Tick line ∷ condition) out (h.fits marks s free) (stays _ [] (c.finds out top), c.fits _ out top),
        )
