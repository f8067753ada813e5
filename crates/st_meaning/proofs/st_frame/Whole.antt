-- A call on any instance keeps a whole store good: the induction where the footprint is all regions.
use Rattle.std.proofs.Common.{◌≡◌, ◌≤◌, ℕ, pos, List, [], ◌∷◌, Some, refl, sym, ◌∙◌, subst, arith, inl, inr}
use Rattle.std.proofs.lemmas.Int.{ints}
use Rattle.st_types.specs.declared.elem.Elem.TheVariants as elem
use Rattle.st_types.specs.declared.st_type.StType.TheVariants as type
use Rattle.st_types.specs.Range.{Fits}
use Rattle.st_values.specs.Program.{Routine, Program}
use Rattle.st_values.specs.Value.{Path, Store}
use Rattle.st_meaning.specs.State.{holds, bound, unbound, Frame, State, Outcome, Done, Fault}
use Rattle.st_meaning.specs.Operation.{truth}
use Rattle.st_meaning.specs.Call.{Given, for_local, for_variable}
use Rattle.st_meaning.specs.Enter.{enter}
use Rattle.st_meaning.specs.st_frame.Good.{Names, Good}
use Rattle.st_meaning.specs.st_frame.Promise.Types.{IsNoInstance}
use Rattle.st_meaning.specs.st_frame.Promise.Declarations.{Each, RoutineIs}
use Rattle.st_meaning.specs.st_frame.Promise.Programs.{ProgramIs}
use Rattle.st_meaning.specs.st_frame.Use.{Use, names, follows, calls, changes, the_region, the_instances, routine_uses}
use Rattle.st_meaning.specs.st_frame.Footprint.{Has}
use Rattle.st_meaning.specs.st_frame.FrameLaws.{last_moment, FlagFits}
use Rattle.st_meaning.proofs.st_frame.OfTypes.{OfKind, truth_is, to_place}
use Rattle.st_meaning.proofs.st_frame.Unfolded.{within_bound}
use Rattle.st_meaning.proofs.st_frame.Spots.{OwnIs, GivenIs, GivenAre}
use Rattle.st_meaning.proofs.st_frame.Obeys.{Both}
use Rattle.st_meaning.proofs.st_frame.Bodies.{All, Covered, entered_is, local_kind}
use Rattle.st_meaning.proofs.st_frame.Entered.{calls_obey}

pub all_of : (P : Use → Type 0) (us : List Use) → ((u : Use) → Has us u → P u) → All P us
all_of P [] h = tt
all_of P (u ∷ us) h = (h u (inl refl), all_of P us (λ v k. h v (inr k)))

pub timely : (now : ℕ) → now ≤ last_moment → Fits elem.Time (pos now)
timely now h = (omega (arith, ints), omega (arith, ints))

abbrev Any : ℕ → Type 0
Any r = Unit {0}

module _ (p : Program) (fine : ProgramIs p) where
  free : (u : Use) → Covered p Any Any (RoutineIs p) u
  free (names r) = tt
  free (follows t) = λ q n. tt
  free (calls k) = λ x e. entered_is p fine k x e
  free (changes (the_region r)) = tt
  free (changes (the_instances t)) = λ q n. tt

  all_free : (us : List Use) → All (Covered p Any Any (RoutineIs p)) us
  all_free us = all_of _ us (λ u h. free u)

  -- what a flag is given to has a shape, for the routine is right
  flag_given : (r : Routine) → RoutineIs p r → (x : Given) → FlagFits r x → GivenIs p fine Any Any [] r.class r.locals x
  flag_given r ok (for_local n (holds w)) h =
      let l = local_kind p fine r n h.0 ok h.1 h.2 in
      let k : OfKind p Any h.0.kind (truth h.4.0) = truth_is p Any h.0.kind h.4.0 h.3 in
      (h.0, h.1, (h.2, (l.0, l.1, l.2, to_place p Any h.0.kind l.0 w (subst IsNoInstance (sym h.3) tt) (within_bound p h.0.kind l.0 l.1) (subst (OfKind p Any h.0.kind) (sym h.4.1) k))))
  flag_given r ok (for_local n (bound s)) h = absurd h
  flag_given r ok (for_local n unbound) h = absurd h
  flag_given r ok (for_variable k w) h = absurd h

  flags_given : (r : Routine) → RoutineIs p r → (xs : List Given) → Each (FlagFits r) xs → GivenAre p fine Any Any [] r.class r.locals xs
  flags_given r ok [] h = tt
  flags_given r ok (x ∷ xs) h = (flag_given r ok x h.0, flags_given r ok xs h.1)

  ended : (s : Store) (o : Outcome Frame) (f : Frame) (s' : State) (Q : Frame → Type 0) → Both p fine Any Any s s [] Q o o → o ≡ Done f s' → Good p s → Good p s'.store
  ended s (Done g t) f s' Q h e good =
      let d : t ≡ s' = cc in
      subst (λ x. Good p x.store) d (record { regions = h.2.long ∙ good.regions; each = λ r. h.2.good r tt })
  ended s (Fault k line) f s' Q h e good = cc

pub call_keeps : (p : Program) (room : ℕ) (r : Routine) (c : ℕ) (q : Path) (given : List Given) (line now n : ℕ) (s : Store) (f : Frame) (s' : State) → ProgramIs p → now ≤ last_moment
    → RoutineIs p r → r.class ≡ Some c → Names p q (type.Instance c) → Each (FlagFits r) given
    → Good p s → enter p room r (Some q) given line (record { store = s; frames = []; ticks = n; now = now }) ≡ Done f s' → Good p s'.store
call_keeps p room r c q given line now n s f s' fine m is t named flags good e =
    let own : OwnIs p fine Any Any r.class (Some q) = subst (λ o. OwnIs p fine Any Any o (Some q)) (sym t) (named, tt, tt) in
    let h = (calls_obey p fine Any Any s s (RoutineIs p) (λ x k. (k, all_free p fine (routine_uses p x))) room).by [] r (Some q) given is own (flags_given p fine r is given flags) in
    ended p fine s _ f s' _ (h.by line (record { store = s; frames = []; ticks = n; now = now }) (record { store = s; frames = []; ticks = n; now = now })
    (record { same_frames = refl; same_ticks = refl; same_now = refl; timely = timely now m; frames = tt; good = λ x y. good.each x; agree = λ x y. refl; stays = λ x y. refl; stays' = λ x y. refl; long = refl; long' = refl })) e good
