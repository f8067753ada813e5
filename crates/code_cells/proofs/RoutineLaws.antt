-- Code whose cells fit makes a valid routine.
use Rattle.std.proofs.Common.{◌≡◌, ◌≤◌, ℕ, zero, suc, ◌+◌, ◌-◌, List, [], ◌∷◌, ◌++◌, length, reverse, map, Option, Some, None, option_map, refl, sym, ap, ◌∙◌, subst, arith, inl, inr}
use Rattle.std.specs.Prelude.{◌⊎◌, slice_get}
use Rattle.std.proofs.lemmas.List.{reverse-reverse}
use Rattle.stack_code.specs.declared.op.Kind.{Kind}
use Rattle.stack_code.specs.declared.op.Kind.TheVariants.{Addr}
use Rattle.stack_code.specs.declared.op.Op.{Op}
use Rattle.stack_code.specs.declared.op.Op.TheVariants as op
use Rattle.stack_code.specs.declared.code.RoutineCode.{RoutineCode}
use Rattle.stack_code.specs.declared.code.MachineCode.{MachineCode}
use Rattle.stack_code.specs.Validity.{after, listed, kinds_at, Leads, IsForward, IsFine, IsCall, MayEnterMethod, MayEnterTarget, IsValidRoutine}
use Rattle.code_cells.specs.declared.cell.Cell.{Cell}
use Rattle.code_cells.specs.declared.cell.Cell.TheVariants.{Does as does, Skips as skips, SkipsAt0 as skips_at_0, Returns as returns, ReturnsAt0 as returns_at_0}
use Rattle.code_cells.specs.Cell.{settled, settled_from}
use Rattle.code_cells.specs.Found.{Stream, kinds_or_none, found, from, ended, all_found, Mark, TicksAt, GoesOn, Calls, Does, Fits, AllFit}
use Rattle.code_cells.specs.Settled.{Settles, IsCalled, EntersCalled, Whole}

kinds_are : (cells : List Cell) (n : ℕ) → listed (slice_get (map (λ ks. Some (reverse ks)) (all_found cells ended)) n) ≡ from cells ended n
kinds_are [] n = refl
kinds_are (c ∷ cs) zero = ap Some (reverse-reverse (found c (from cs ended)))
kinds_are (c ∷ cs) (suc n) = kinds_are cs n

found_at : (cells : List Cell) (n : ℕ) → slice_get (all_found cells ended) n ≡ from cells ended n
found_at [] n = refl
found_at (c ∷ cs) zero = refl
found_at (c ∷ cs) (suc n) = found_at cs n

abbrev op_at : ℕ → Option Cell → Option Op
op_at pc None = None
op_at pc (Some c) = Some (settled pc c).0

ops_are : (pc : ℕ) (cells : List Cell) (n : ℕ) → slice_get (map (λ x. x.0) (settled_from pc cells)) n ≡ op_at (pc + n) (slice_get cells n)
ops_are pc [] n = refl
ops_are pc (c ∷ cs) zero = let e : pc ≡ pc + 0 = omega arith in ap (λ k. Some (settled k c).0) e
ops_are pc (c ∷ cs) (suc n) = let e : pc + 1 + n ≡ pc + suc n = omega arith in ops_are (pc + 1) cs n ∙ ap (λ k. op_at k (slice_get cs n)) e

lengths : (pc : ℕ) (cells : List Cell) → (length (settled_from pc cells) ≡ length cells) × (length (all_found cells ended) ≡ length cells)
lengths pc [] = (refl, refl)
lengths pc (c ∷ cs) = (ap suc (lengths (pc + 1) cs).0, ap suc (lengths pc cs).1)

length_map : {A B : Type 0} (f : A → B) (xs : List A) → length (map f xs) ≡ length xs
length_map f [] = refl
length_map f (x ∷ xs) = ap suc (length_map f xs)

-- ---- a cell by its place

-- so many cells back from a place: within the code, or among the marks before it
record Back (marks : List Mark) (cells : List Cell) (out : Stream) (n i : ℕ) (x : Mark) : Type 0 where
  by : ((i ≤ n) × (slice_get cells (n - i) ≡ Some x.0) × (from cells out (n - i) ≡ Some x.1)) ⊎ ((suc n ≤ i) × (slice_get marks (i - suc n) ≡ Some x))

record At (marks : List Mark) (cells : List Cell) (out : Stream) (n : ℕ) (c : Cell) : Type 0 where
  ks : List Kind
  here : from cells out n ≡ Some ks
  seen : List Mark
  next : Stream
  fits : Fits seen c ks next
  onward : (k : ℕ) → next k ≡ from cells out (suc (n + k))
  back : (i : ℕ) (x : Mark) → slice_get seen i ≡ Some x → Back marks cells out n i x

at_place : (marks : List Mark) (cells : List Cell) (out : Stream) (n : ℕ) (c : Cell) → AllFit marks cells out → slice_get cells n ≡ Some c → At marks cells out n c
at_place marks [] out n c h e = cc
at_place marks (d ∷ cs) out zero c h e =
    let same : d ≡ c = cc in
    let f = found d (from cs out) in
    subst (At marks (d ∷ cs) out zero) same (record {
      ks = f;
      here = refl;
      seen = (d, f) ∷ marks;
      next = from cs out;
      fits = h.0;
      onward = λ k. let q : k ≡ 0 + k = omega arith in ap (from cs out) q;
      back = λ i x q. before i x q;
    })
  where
    before : (i : ℕ) (x : Mark) → slice_get ((d, found d (from cs out)) ∷ marks) i ≡ Some x → Back marks (d ∷ cs) out zero i x
    before zero x q =
        let a : Some d ≡ Some x.0 = ap (option_map (λ m. m.0)) q in
        let b : Some (found d (from cs out)) ≡ Some x.1 = ap (option_map (λ m. m.1)) q in
        record { by = inl (omega arith, a, b) }
    before (suc i) x q = record { by = inr (omega arith, let z : suc i - 1 ≡ i = omega arith in ap (slice_get marks) z ∙ q) }
at_place marks (d ∷ cs) out (suc n) c h e =
    let r = at_place ((d, found d (from cs out)) ∷ marks) cs out n c h.1 e in
    record {
      ks = r.ks;
      here = r.here;
      seen = r.seen;
      next = r.next;
      fits = r.fits;
      onward = λ k. let q : suc (n + k) ≡ suc n + k = omega arith in r.onward k ∙ ap (from cs out) q;
      back = λ i x q. further i x (r.back i x q).by;
    }
  where
    further : (i : ℕ) (x : Mark) → ((i ≤ n) × (slice_get cs (n - i) ≡ Some x.0) × (from cs out (n - i) ≡ Some x.1)) ⊎ ((suc n ≤ i) × (slice_get ((d, found d (from cs out)) ∷ marks) (i - suc n) ≡ Some x)) → Back marks (d ∷ cs) out (suc n) i x
    further i x (inl q) =
        let l = q.0 in
        let z : suc n - i ≡ suc (n - i) = omega (arith, l) in
        record { by = inl (omega (arith, l), ap (slice_get (d ∷ cs)) z ∙ q.1, ap (from (d ∷ cs) out) z ∙ q.2) }
    further i x (inr q) = split (i - suc n) refl q.0 q.1
      where
        split : (j : ℕ) → i - suc n ≡ j → suc n ≤ i → slice_get ((d, found d (from cs out)) ∷ marks) j ≡ Some x → Back marks (d ∷ cs) out (suc n) i x
        split zero z l q =
            let y : suc n - i ≡ 0 = omega (arith, z, l) in
            let a : Some d ≡ Some x.0 = ap (option_map (λ m. m.0)) q in
            let b : Some (found d (from cs out)) ≡ Some x.1 = ap (option_map (λ m. m.1)) q in
            record { by = inl (omega (arith, z, l), ap (slice_get (d ∷ cs)) y ∙ a, ap (from (d ∷ cs) out) y ∙ b) }
        split (suc j) z l q = record { by = inr (omega (arith, z, l), let y : i - suc (suc n) ≡ j = omega (arith, z) in ap (slice_get marks) y ∙ q) }

-- ---- the rule for an instruction

module _ (code : MachineCode) (r : RoutineCode) (rets : r.rets ≡ []) (enters : EntersCalled code r) where
  leads : {left next : Option (List Kind)} {to : ℕ} → GoesOn left next → next ≡ kinds_at r to → Leads r left to
  leads g e = record { ks = g.ks; leaves = g.leaves; finds = sym e ∙ g.finds }

  called_fine : (at n : ℕ) (ks : List Kind) (next : Option (List Kind)) (may : ℕ → Type 0) → Calls n ks next → next ≡ kinds_at r (at + 1) → ((k : ℕ) (x : RoutineCode) → may k → slice_get code.routines k ≡ Some x → IsCalled x) → IsCall code r at n ks may
  called_fine at n ks next may h e f = record {
    args = Addr ∷ [];
    below = h.left;
    finds = h.args;
    count = sym h.count;
    enters = λ k x m s. let c = f k x m s in (ap reverse (sym c.args), record { ks = h.left; leaves = ap (λ ls. Some (reverse ls ++ h.left)) c.rets; finds = sym e ∙ h.finds });
  }

  does_fine : (at : ℕ) (o : Op) (ks : List Kind) (next : Option (List Kind)) → slice_get r.ops at ≡ Some o → Does o ks next → next ≡ kinds_at r (at + 1) → IsFine code r at o ks
  does_fine at (op.Jump to) ks next s h e = absurd h
  does_fine at (op.JumpF to) ks next s h e = absurd h
  does_fine at (op.Ret n) ks next s h e = (h.0 ∙ sym (ap reverse rets), h.1 ∙ sym (ap length h.0))
  does_fine at op.End ks next s h e = h
  does_fine at (op.Call k n) ks next s h e = called_fine at n ks next (λ j. j ≡ k) h e (λ j x m q. enters.call at k n x s (ap (slice_get code.routines) (sym m) ∙ q))
  does_fine at (op.CallM c m n) ks next s h e = called_fine at n ks next (MayEnterMethod code c m) h e (λ j x y q. enters.method at c m n j x s y q)
  does_fine at (op.CallI i m n) ks next s h e = called_fine at n ks next (MayEnterTarget code i m) h e (λ j x y q. enters.target at i m n j x s y q)
  does_fine at o ks next s h e = leads h e

  module _ (cells : List Cell) (settles : Settles r cells) (whole : Whole cells) where
    kinds : (n : ℕ) → from cells ended n ≡ kinds_at r n
    kinds n = sym (ap (λ xs. listed (slice_get xs n)) settles.kinds ∙ kinds_are cells n)

    ops : (n : ℕ) → slice_get r.ops n ≡ op_at n (slice_get cells n)
    ops n = ap (λ xs. slice_get xs n) settles.ops ∙ ops_are 0 cells n ∙ (let e : 0 + n ≡ n = omega arith in ap (λ k. op_at k (slice_get cells n)) e)

    -- a jump back leads to a TICK
    back_leads : (at n : ℕ) (c : Cell) (a : At [] cells ended at c) (left : Option (List Kind)) (ks : List Kind) → left ≡ Some ks → TicksAt a.seen n ks → Leads r left (at - n) × IsForward r at (at - n)
    back_leads at n c a left ks l t = by (a.back n (does op.Tick t.line, ks) t.there).by
      where
        by : ((n ≤ at) × (slice_get cells (at - n) ≡ Some (does op.Tick t.line)) × (from cells ended (at - n) ≡ Some ks)) ⊎ ((suc at ≤ n) × (slice_get {X = Mark} [] (n - suc at) ≡ Some (does op.Tick t.line, ks))) → Leads r left (at - n) × IsForward r at (at - n)
        by (inl q) = (record { ks = ks; leaves = l; finds = sym (kinds (at - n)) ∙ q.2 }, inr (ops (at - n) ∙ ap (op_at (at - n)) q.1))
        by (inr q) = let z = q.1 in cc

    fine_at : (at : ℕ) (c : Cell) → slice_get r.ops at ≡ Some (settled at c).0 → (a : At [] cells ended at c) → IsFine code r at (settled at c).0 a.ks
    fine_at at (does o line) s a = does_fine at o a.ks (a.next 0) s a.fits (a.onward 0 ∙ kinds (suc (at + 0)) ∙ (let e : suc (at + 0) ≡ at + 1 = omega arith in ap (kinds_at r) e))
    fine_at at (skips n line) s a = (leads a.fits (a.onward n ∙ kinds (suc (at + n)) ∙ (let e : suc (at + n) ≡ at + 1 + n = omega arith in ap (kinds_at r) e)), inl (omega arith))
    fine_at at (skips_at_0 n line) s a = (
      leads a.fits.1 (a.onward n ∙ kinds (suc (at + n)) ∙ (let e : suc (at + n) ≡ at + 1 + n = omega arith in ap (kinds_at r) e)),
      leads a.fits.0 (a.onward 0 ∙ kinds (suc (at + 0)) ∙ (let e : suc (at + 0) ≡ at + 1 = omega arith in ap (kinds_at r) e)),
      inl (omega arith),
    )
    fine_at at (returns n line) s a = back_leads at n (returns n line) a (Some a.ks) a.ks refl a.fits
    fine_at at (returns_at_0 n line) s a =
        let g = a.fits.0 in
        let same : g.ks ≡ kinds_or_none (a.next 0) = sym (ap kinds_or_none g.finds) in
        let b = back_leads at n (returns_at_0 n line) a (after (op.JumpF 0) a.ks) (kinds_or_none (a.next 0)) (g.leaves ∙ ap Some same) a.fits.1 in
        (b.0, leads g (a.onward 0 ∙ kinds (suc (at + 0)) ∙ (let e : suc (at + 0) ≡ at + 1 = omega arith in ap (kinds_at r) e)), b.1)

    by_cell : (at : ℕ) (o : Op) (ks : List Kind) (c : Option Cell) → slice_get cells at ≡ c → op_at at c ≡ Some o → slice_get r.ops at ≡ Some o → kinds_at r at ≡ Some ks → IsFine code r at o ks
    by_cell at o ks None q e s k = cc
    by_cell at o ks (Some c) q e s k =
        let a = at_place [] cells ended at c whole.fits q in
        let same : (settled at c).0 ≡ o = let x = e in cc in
        let kinds_same : a.ks ≡ ks = let x : Some a.ks ≡ Some ks = sym a.here ∙ kinds at ∙ k in cc in
        subst (λ x. IsFine code r at x ks) same (subst (λ x. IsFine code r at (settled at c).0 x) kinds_same (fine_at at c (s ∙ ap Some (sym same)) a))

    pub routine_valid : IsValidRoutine code r
    routine_valid = record {
      lists = ap length settles.kinds ∙ length_map (λ ks. Some (reverse ks)) (all_found cells ended) ∙ (lengths 0 cells).1 ∙ sym (ap length settles.ops ∙ length_map (λ x. x.0) (settled_from 0 cells) ∙ (lengths 0 cells).0);
      lines = ap length settles.lines ∙ length_map (λ x. x.1) (settled_from 0 cells) ∙ sym (ap length settles.ops ∙ length_map (λ x. x.0) (settled_from 0 cells));
      start = sym (kinds 0) ∙ whole.starts;
      room = λ at ks h. settles.room at ks (found_at cells at ∙ kinds at ∙ h);
      each = λ at o ks s h. by_cell at o ks (slice_get cells at) refl (sym (ops at) ∙ s) s h;
    }
