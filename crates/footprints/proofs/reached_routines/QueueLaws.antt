-- What stands in the queue, and that all that is reached does at its end.
use Rattle.std.proofs.Common.{◌≡◌, ◌<◌, ◌≤◌, ℕ, ◌+◌, List, [], length, Some, None, refl, sym, ◌∙◌, subst, ⊎_elim, arith}
use Rattle.std.specs.Prelude.{slice_get}
use Rattle.std.proofs.lemmas.Option.{slice_get_within}
use Rattle.st_tree.specs.declared.program.Program.{Program as CheckedProgram}
use Rattle.st_rules.proofs.Booleans.{none≢some, some-same}
use Rattle.st_values.specs.Program.{Routine, Program}
use Rattle.st_values.specs.View.{program_of}
use Rattle.st_meaning.specs.Enter.{programs_of}
use Rattle.st_meaning.specs.st_frame.Use.{calls, routine_uses}
use Rattle.st_meaning.specs.st_frame.Footprint.{Has, Reached, begins, called}
use Rattle.program_tables.specs.Routine.{routine_of}
use Rattle.program_tables.specs.declared.routine.RoutineId.{RoutineId}
use Rattle.program_tables.proofs.ClassLaws.{past_end, within_get}
use Rattle.program_tables.proofs.RoutineLaws.{below}
use Rattle.footprints.specs.reached_routines.Reached.{IsListed, IsReached}
use Rattle.footprints.specs.reached_routines.Private.Adds.{Adds, Via, Begins, EnteredIn, Queue}
use Rattle.footprints.proofs.reached_routines.AddLaws.{kept_listed, listed}

module _ (q : CheckedProgram) (task : ℕ) where
  abbrev p : Program
  p = program_of q

  pub queue_begun : (regions : List ℕ) (none ids : List RoutineId) → none ≡ [] → regions ≡ programs_of p task → Adds q (Via regions (Begins p)) none ids → Queue q task 0 ids
  queue_begun regions none ids n e h0 = record {
    sound = λ k i g. ⊎_elim (λ o. absurd (none≢some (subst (λ z. slice_get z k ≡ Some i) n o))) (λ v. begins v.0 v.1 v.2) (h.only k i g);
    begun = λ r v. listed q (Via (programs_of p task) (Begins p)) none ids h r v;
    done = λ k i g l r v. absurd (omega (arith, l));
  }
    where
      h : Adds q (Via (programs_of p task) (Begins p)) none ids
      h = subst (λ z. Adds q (Via z (Begins p)) none ids) e h0

  pub queue_next : (n : ℕ) (id : RoutineId) (a b : List RoutineId) → slice_get a n ≡ Some id → Queue q task n a → Adds q (EnteredIn p (routine_of q id)) a b → Queue q task (n + 1) b
  queue_next n id a b e t s = record {
    sound = λ k i g. ⊎_elim (λ o. t.sound k i o) (λ v. called v.2.0 (t.sound n id e) (subst (Has (routine_uses p (routine_of q id))) v.2.1 v.1) v.2.2) (s.only k i g);
    begun = λ r v. kept_listed q s.kept (t.begun r v);
    done = by;
  }
    where
      -- what stands at a place up to this one stood there
      stood : (k : ℕ) (i : RoutineId) → slice_get b k ≡ Some i → k ≤ n → slice_get a k ≡ Some i
      stood k i g l =
          let w = slice_get_within a n id e in
          let x = within_get a k (omega (arith, l, w)) in
          let same : x.0 ≡ i = some-same (sym (s.kept k x.0 x.1) ∙ g) in
          subst (λ z. slice_get a k ≡ Some z) same x.1

      here : (k : ℕ) (i : RoutineId) → slice_get b k ≡ Some i → k ≡ n → (r : Routine) → EnteredIn p (routine_of q i) r → IsListed q b r
      here k i g m r v =
          let stands : slice_get a n ≡ Some i = subst (λ z. slice_get a z ≡ Some i) m (stood k i g (omega (arith, m))) in
          let same : i ≡ id = some-same (sym stands ∙ e) in
          listed q (EnteredIn p (routine_of q id)) a b s r (subst (λ z. EnteredIn p (routine_of q z) r) same v)

      by : (k : ℕ) (i : RoutineId) → slice_get b k ≡ Some i → k < n + 1 → (r : Routine) → EnteredIn p (routine_of q i) r → IsListed q b r
      by k i g l r v =
          ⊎_elim
          (λ x. let w = x.0 in kept_listed q s.kept (t.done k i (stood k i g (omega (arith, w))) w r v))
          (λ x. let w = x.0 in here k i g (omega (arith, w, l)) r v)
          (below k n)

  pub queue_ended : (n : ℕ) (ids : List RoutineId) → slice_get ids n ≡ None → Queue q task n ids → IsReached q task ids
  queue_ended n ids e t = record { sound = t.sound; complete = all }
    where
      short : length ids ≤ n
      short = past_end ids n e

      all : (r : Routine) → Reached p task r → IsListed q ids r
      all r (begins region h g) = t.begun r (region, h, g)
      all r (called {b = b} k reached h g) =
          let at = all b reached in
          let w = slice_get_within ids at.place at.id at.there in
          t.done at.place at.id at.there (omega (arith, short, w)) r (calls k, subst (λ z. Has (routine_uses p z) (calls k)) (sym at.is) h, (k, refl, g))
