-- The number of a version counts the changes that were carried out, each of which is a play.
use Rattle.std.proofs.Common.{◌≡◌, ◌≤◌, ◌+◌, ℕ, zero, suc, List, [], ◌∷◌, ◌++◌, Option, Some, None, Bool, true, false, fold, refl, sym, ap, ◌∙◌, subst, arith, slice_set}
use Rattle.std.specs.Prelude.{slice_index_or, slice_get}
use Rattle.cycle_journal.specs.declared.play.Play.{Play}
use Rattle.cycle_journal.specs.declared.play.Play.TheVariants as play
use Rattle.cycle_journal.specs.declared.entry.CycleReply.{CycleReply}
use Rattle.plant_rules.specs.Meaning.{Contents, Meaning, Frames}
use Rattle.plant_rules.specs.History.{Past, Script, Step, Happening, answered, begun, finished, wanted, quieted, changed, resumed, denied, reset, Stage, idle, open_by, done, Turn, free, wanted_by, under_way, State, stage_at, with_stage, is_change, at_play, finish_of, after, then_step, Follows, LegalFrom, opening}
use Rattle.plant_rules.specs.plant_history.Running.{loads_in, changes_done, one_change, changes_of}
use Rattle.plant_rules.proofs.plant_history.Running.{idle_done, turn_play, Sane, sane_step, Marked, marked_step}

-- how many of the plays are changes that are done
abbrev done_one : Play → Stage → ℕ
done_one x done = one_change x
done_one x idle = 0
done_one x (open_by w t c) = 0

abbrev done_changes : List Play → List Stage → ℕ
done_changes [] gs = 0
done_changes (x ∷ xs) [] = 0
done_changes (x ∷ xs) (g ∷ gs) = done_one x g + done_changes xs gs

one_up : (x : Play) (g : Stage) → done_one x g ≤ one_change x
one_up x idle = omega arith
one_up x (open_by w t c) = omega arith
one_up x done = omega arith

done_few : (xs : List Play) (gs : List Stage) → done_changes xs gs ≤ changes_of xs
done_few [] gs = omega arith
done_few (x ∷ xs) [] = omega arith
done_few (x ∷ xs) (g ∷ gs) = let a = one_up x g in let b = done_few xs gs in omega (arith, a, b)

is_one : (x : Play) → is_change (Some x) ≡ true → one_change x ≡ 1
is_one (play.Change n source) e = refl
is_one (play.Cycle n now input) e = cc
is_one (play.Reset n) e = cc

none_one : (x : Play) (g : Stage) → (g ≡ done → ⊥) → done_one x g ≡ 0
none_one x idle n = refl
none_one x (open_by w t c) n = refl
none_one x done n = absurd (n refl)

one_left : (xs : List Play) (gs : List Stage) (i : ℕ) → is_change (slice_get xs i) ≡ true → (slice_index_or gs i done ≡ done → ⊥) → done_changes xs gs + 1 ≤ changes_of xs
one_left [] gs i e n = cc
one_left (x ∷ xs) [] i e n = absurd (n refl)
one_left (x ∷ xs) (g ∷ gs) zero e n = let a = is_one x e in let b = none_one x g n in let c = done_few xs gs in omega (arith, a, b, c)
one_left (x ∷ xs) (g ∷ gs) (suc i) e n = let a = one_up x g in let b = one_left xs gs i e n in omega (arith, a, b)

set_more : (xs : List Play) (gs : List Stage) (i : ℕ) → done_changes xs gs ≤ done_changes xs (slice_set gs i done)
set_more [] gs i = omega arith
set_more (x ∷ xs) [] i = omega arith
set_more (x ∷ xs) (g ∷ gs) zero = let a = one_up x g in omega (arith, a)
set_more (x ∷ xs) (g ∷ gs) (suc i) = let a = set_more xs gs i in omega (arith, a)

set_one : (xs : List Play) (gs : List Stage) (i : ℕ) → is_change (slice_get xs i) ≡ true → slice_index_or gs i done ≡ idle → done_changes xs gs + 1 ≤ done_changes xs (slice_set gs i done)
set_one [] gs i e n = cc
set_one (x ∷ xs) [] i e n = absurd (idle_done (sym n))
set_one (x ∷ xs) (g ∷ gs) zero e n = let a = is_one x e in let b : done_one x g ≡ 0 = ap (λ z. done_one x z) n in omega (arith, a, b)
set_one (x ∷ xs) (g ∷ gs) (suc i) e n = let b = set_one xs gs i e n in omega (arith, b)

set_idle : (xs : List Play) (gs : List Stage) (i : ℕ) (h : Stage) → slice_index_or gs i done ≡ idle → done_changes xs gs ≤ done_changes xs (slice_set gs i h)
set_idle [] gs i h n = omega arith
set_idle (x ∷ xs) [] i h n = omega arith
set_idle (x ∷ xs) (g ∷ gs) zero h n = let b : done_one x g ≡ 0 = ap (λ z. done_one x z) n in omega (arith, b)
set_idle (x ∷ xs) (g ∷ gs) (suc i) h n = let b = set_idle xs gs i h n in omega (arith, b)

module _ {W : Type 0} (m : Meaning W) (script : Script) where
  with_more : (gs : List Stage) (p : ℕ) → done_changes script.plays gs ≤ done_changes script.plays (with_stage gs p done)
  with_more gs zero = omega arith
  with_more gs (suc p) = set_more script.plays gs p

  with_one : (gs : List Stage) (p : ℕ) → is_change (at_play m script p) ≡ true → stage_at gs p ≡ idle → done_changes script.plays gs + 1 ≤ done_changes script.plays (with_stage gs p done)
  with_one gs zero e n = absurd (idle_done (sym n))
  with_one gs (suc p) e n = set_one script.plays gs p e n

  with_idle : (gs : List Stage) (p : ℕ) (h : Stage) → stage_at gs p ≡ idle → done_changes script.plays gs ≤ done_changes script.plays (with_stage gs p h)
  with_idle gs zero h n = omega arith
  with_idle gs (suc p) h n = set_idle script.plays gs p h n

  with_left : (gs : List Stage) (p : ℕ) → is_change (at_play m script p) ≡ true → stage_at gs p ≡ idle → done_changes script.plays gs + 1 ≤ changes_of script.plays
  with_left gs zero e n = absurd (idle_done (sym n))
  with_left gs (suc p) e n = one_left script.plays gs p e (λ d. idle_done (sym n ∙ d))

  -- so many changes were carried out since a version of this number, and each is a play that is done
  pub record Counted (s : State W) (first k : ℕ) : Type 0 where
    pub is : m.number s.version ≡ first + k
    pub below : k ≤ done_changes script.plays s.stages

  counted_on : (s s' : State W) (first k n j : ℕ) → m.number s'.version ≡ m.number s.version + j → n ≡ k + j → done_changes script.plays s.stages + j ≤ done_changes script.plays s'.stages → Counted s first k → Counted s' first n
  counted_on s s' first k n j e i b c = let a = c.is in let d = c.below in record { is = omega (arith, e, i, a); below = omega (arith, i, b, d) }

  pub counted_few : (s : State W) (first k : ℕ) → Counted s first k → m.number s.version ≤ first + changes_of script.plays
  counted_few s first k c = let a = c.is in let b = c.below in let d = done_few script.plays s.stages in omega (arith, a, b, d)

  pub counted_left : (s : State W) (first k p : ℕ) → Counted s first k → is_change (at_play m script p) ≡ true → stage_at s.stages p ≡ idle → m.number s.version + 1 ≤ first + changes_of script.plays
  counted_left s first k p c e n = let a = c.is in let b = c.below in let d = with_left s.stages p e n in omega (arith, a, b, d)

module _ {W : Type 0} (m : Meaning W) (frames : Frames m) (script : Script) where
  same_number : (x : ℕ) → x ≡ x + 0
  same_number x = omega arith

  more_by : (a b : ℕ) → a ≤ b → a + 0 ≤ b
  more_by a b h = omega (arith, h)

  counted_step : (s : State W) (w p : ℕ) (h : Happening W) (first k n : ℕ) → Sane m frames script s → Marked script s.stages s.turn s.entries → Follows m script s w p h → n ≡ k + loads_in h → Counted m script s first k
      → Counted m script (after m script s w p h) first n
  counted_step s w p (answered a) first k n sane marked f i c = counted_on m script s (after m script s w p (answered a)) first k n 0 (same_number _) i (more_by _ _ (with_more m script s.stages p)) c
  counted_step s w p (begun t v d) first k n sane marked f i c =
      counted_on m script s (after m script s w p (begun t v d)) first k n 0 (same_number _) i (more_by _ _ (with_idle m script s.stages p (open_by w t d) f.0.next.idle-is)) c
  counted_step s w p (finished r) first k n sane marked f i c =
      subst (λ (g : Stage). Counted m script (finish_of m script g s p r) first n) (sym f.2)
      (counted_on m script s (finish_of m script (open_by w f.0 f.1) s p r) first k n 0 (same_number _) i (more_by _ _ (with_more m script s.stages p)) c)
  counted_step s w p (wanted v) first k n sane marked f i c = counted_on m script s (after m script s w p (wanted v)) first k n 0 (same_number _) i (more_by _ _ (omega arith)) c
  counted_step s w p (quieted d) first k n sane marked f i c = counted_on m script s (after m script s w p (quieted d)) first k n 0 (same_number _) i (more_by _ _ (omega arith)) c
  counted_step s w p (changed q d) first k n sane marked f i c =
      counted_on m script s (after m script s w p (changed q d)) first k n 1 (frames.next-number s.version q f.2.0 s.store d f.2.2) i
      (with_one m script s.stages p (sane.changes p (ap turn_play f.1)) (marked.turns p (ap turn_play f.1)).0) c
  counted_step s w p (resumed e) first k n sane marked f i c = counted_on m script s (after m script s w p (resumed e)) first k n 0 (same_number _) i (more_by _ _ (with_more m script s.stages p)) c
  counted_step s w p (denied a) first k n sane marked f i c = counted_on m script s (after m script s w p (denied a)) first k n 0 (same_number _) i (more_by _ _ (with_more m script s.stages p)) c
  counted_step s w p (reset a) first k n sane marked f i c = counted_on m script s (after m script s w p (reset a)) first k n 0 (same_number _) i (more_by _ _ (with_more m script s.stages p)) c

  pub counted_fold : (s : State W) (es : List (Step W)) (first k n : ℕ) → Sane m frames script s → Marked script s.stages s.turn s.entries → LegalFrom m script s es → n ≡ k + changes_done es → Counted m script s first k
      → Counted m script (fold (then_step m script) s es) first n
  counted_fold s [] first k n sane marked l i c = counted_on m script s s first k n 0 (same_number _) i (more_by _ _ (omega arith)) c
  counted_fold s (e ∷ es) first k n sane marked l i c =
      counted_fold (then_step m script s e) es first (k + loads_in e.what) n (sane_step m frames script s e.who e.play e.what sane l.0) (marked_step m frames script s e.who e.play e.what sane marked l.0) l.1 (omega (arith, i))
      (counted_step s e.who e.play e.what first k (k + loads_in e.what) sane marked l.0 refl c)

  pub counted_opening : (v : Past W) → Counted m script (opening v) (m.number v.first) 0
  counted_opening v = record { is = same_number _; below = omega arith }
