-- Calls and programs stay within the footprint: by recursion on the calls that may still be open.
use Rattle.std.proofs.Common.{◌≡◌, ℕ, zero, suc, List, [], ◌∷◌, Option, Some, None, refl, sym, ap, ◌∙◌, subst, inl, inr}
use Rattle.std.specs.Prelude.{slice_get}
use Rattle.plc_text.specs.declared.fault.FaultKind.TheVariants as fault
use Rattle.st_types.specs.declared.st_type.StType.TheVariants as type
use Rattle.st_types.specs.declared.st_type.StType.TheOpen.{StType-F}
use Rattle.st_tree.specs.declared.path.Step.TheVariants as step
use Rattle.st_values.specs.Program.{Variable, Routine, Program, body_of}
use Rattle.st_values.specs.Value.{Path, Store, ◌>>=◌ as ◌>>?◌}
use Rattle.st_values.specs.ShapeLaws.{Unfolds}
use Rattle.st_values.proofs.ValueLaws.{then_some, one_some}
use Rattle.st_meaning.specs.State.{in_store, Frame, State, pop_from, pop, into}
use Rattle.st_meaning.specs.Call.{Given, for_local, for_variable, class_of_kind, initial_slots, frame_of, set_variables}
use Rattle.st_meaning.specs.Enter.{enter, most_calls, program_body, run_programs}
use Rattle.st_meaning.specs.st_frame.Use.{routine_uses}
use Rattle.st_meaning.specs.st_frame.Footprint.{Has}
use Rattle.st_meaning.specs.st_frame.Good.{Names}
use Rattle.st_meaning.specs.st_frame.Promise.Names.{Scope}
use Rattle.st_meaning.specs.st_frame.Promise.Declarations.{scope_of, RoutineIs}
use Rattle.st_meaning.specs.st_frame.Promise.Programs.{TaskRegionIs, ProgramIs}
use Rattle.st_meaning.proofs.st_frame.Unfolded.{opened, region_is}
use Rattle.st_meaning.proofs.st_frame.OfTypes.{to_place}
use Rattle.st_meaning.proofs.st_frame.Spots.{spot_shape, as_plain, by_name, member_meets, SlotsAre, OwnIs, FrameIs, FramesAre, GivenAre, initial_fit, given_fit}
use Rattle.st_meaning.proofs.st_frame.Obeys.{Anything, Alike, Both, Obeys, then_both, then_obeys, gives_obeys, fails_obeys, some_obeys, write_obeys, with_frames}
use Rattle.st_meaning.proofs.st_frame.Bodies.{All, Covered, CallsObey}
use Rattle.st_meaning.proofs.st_frame.Effects.{body_obeys}

module _ (p : Program) (fine : ProgramIs p) where
  -- the body of a program that a task names, and the instance on which it runs
  pub program_is : (r : ℕ) (b : Routine) → TaskRegionIs p r → program_body p r ≡ Some b → (c : ℕ) × (body_of p c ≡ Some b) × Names p (record { region = r; steps = [] }) (type.Instance c)
  program_is r b h e =
      let a = then_some (slice_get p.regions r) _ b e in
      let d : a.0 ≡ h.region = one_some (slice_get p.regions r) a.0 h.region a.1 h.there in
      let k : class_of_kind a.0.variable.kind ≡ h.class = ap (λ x. class_of_kind x.variable.kind) d ∙ ap class_of_kind h.kind in
      let s = region_is p fine.regions r h.region h.there in
      let o = opened p (type.Instance h.class) (StType-F.Instance h.class) s.0 (type.outs-Instance h.class) (subst (λ t. Unfolds p t s.0) h.kind s.2) in (
        h.class,
        subst (λ c. body_of p c ≡ Some b) k a.2,
        record { class = h.class; name = o.0.name; fields = o.1; there = ap (λ x. x >>? λ y. Some y) s.1 ∙ ap Some o.3; meets = fine.itself h.class o.0 o.2 },
      )

  module _ (F W : ℕ → Type 0) (base base' : Store) (R : Routine → Type 0) where
    -- inputs of a block are written to its instance
    pub set_obeys : (gs : List Scope) (this : Option ℕ) (own : Option Path) (vs : List Variable) (xs : List Given) → OwnIs p fine F W this own → GivenAre p fine F W gs this vs xs → Obeys p fine F W base base' gs (set_variables own xs) Anything
    set_obeys gs this own vs [] o h = gives_obeys p fine F W base base' tt
    set_obeys gs this own vs (for_local n s ∷ xs) o h = set_obeys gs this own vs xs o h.1
    set_obeys gs None own vs (for_variable k w ∷ xs) o h = absurd h.0
    set_obeys gs (Some c) own vs (for_variable k w ∷ xs) o h =
        then_obeys p fine F W base base' (some_obeys p fine F W base base' fault.Null own) (λ q e.
        let n = subst (OwnIs p fine F W (Some c)) e o in
        let m = member_meets p fine gs (in_store q) c k h.0.0 (by_name p fine q c n.0) h.0.1 in
        let a = as_plain p fine (spot_shape p gs (into (in_store q) (step.Field k))) h.0.0.kind h.0.2 m in
        then_obeys p fine F W base base' (write_obeys p fine F W base base' (into (in_store q) (step.Field k)) a.0 w a.2 n.1 n.2 (to_place p F h.0.0.kind a.0 w h.0.2 a.1 h.0.3)) (λ _ _.
        set_obeys gs (Some c) own vs xs o h.1))

    pub pops : (g : Scope) (gs : List Scope) (line : ℕ) (s s' : State) (fs fs' : List Frame) → fs ≡ fs' → FramesAre p fine F W (g ∷ gs) fs → Alike p fine F W base base' (g ∷ gs) s s'
        → Both p fine F W base base' gs (λ f. SlotsAre p fine F W gs g.locals f.locals) (pop_from fs line s) (pop_from fs' line s')
    pops g gs line s s' [] fs' e h i = absurd h
    pops g gs line s s' (f ∷ fs) [] e h i = cc
    pops g gs line s s' (f ∷ fs) (f' ∷ fs') e h i =
        let a : f ≡ f' = cc in
        let b : fs ≡ fs' = cc in
        (a, h.0.slots, with_frames p fine F W base base' (g ∷ gs) gs s s' fs fs' b h.1 i)

    module _ (closed : (r : Routine) → R r → RoutineIs p r × All (Covered p F W R) (routine_uses p r)) where
      pub enters : (room : ℕ) → CallsObey p fine F W base base' R (enter p room) → (gs : List Scope) (r : Routine) (q : Option Path) (xs : List Given) → R r → OwnIs p fine F W r.class q → GivenAre p fine F W gs r.class r.locals xs
          → Obeys p fine F W base base' gs (enter p (suc room) r q xs) (λ f. SlotsAre p fine F W gs r.locals f.locals)
      enters room inner gs r q xs k n given =
          let c = closed r k in
          let frame = frame_of p r q xs in
          let is : FrameIs p fine F W gs (scope_of r) frame =
          record { own = n; slots = given_fit p fine F W gs r.class r.locals xs (initial_slots p r.locals) (initial_fit p fine F W gs r.locals c.0.locals) given } in
          let h = body_obeys p fine F W base base' R (enter p room) inner (scope_of r) gs r.body c.0.body c.1 in
          then_obeys p fine F W base base' (set_obeys gs r.class q r.locals xs n given) (λ _ _. record {
            by = λ line s s' i.
                then_both p fine F W base base' (scope_of r ∷ gs) gs Anything (λ (x : Frame). SlotsAre p fine F W gs r.locals x.locals) _ _ (λ _. pop line)
                (h.by line (record s { frames = frame ∷ s.frames }) (record s' { frames = frame ∷ s'.frames })
                (with_frames p fine F W base base' gs (scope_of r ∷ gs) s s' (frame ∷ s.frames) (frame ∷ s'.frames) (ap (λ fs. frame ∷ fs) i.same_frames) (is, i.frames) i))
                (λ _ t t' _ j. pops (scope_of r) gs line t t' t.frames t'.frames j.same_frames j.frames j);
          })

      pub calls_obey : (room : ℕ) → CallsObey p fine F W base base' R (enter p room)
      calls_obey zero = record { by = λ gs r q xs k n given. fails_obeys p fine F W base base' }
      calls_obey (suc room) = record { by = enters room (calls_obey room) }

      pub programs_obey : (rs : List ℕ) → ((r : ℕ) → Has rs r → TaskRegionIs p r × F r × W r × ((b : Routine) → program_body p r ≡ Some b → R b))
          → Obeys p fine F W base base' [] (run_programs p rs) Anything
      programs_obey [] h = gives_obeys p fine F W base base' tt
      programs_obey (r ∷ rs) h =
          let here = h r (inl refl) in
          then_obeys p fine F W base base' (some_obeys p fine F W base base' fault.Null (program_body p r)) (λ b e.
          let n = program_is r b here.0 e in
          then_obeys p fine F W base base' ((calls_obey (suc most_calls)).by [] b (Some (record { region = r; steps = [] })) [] (here.3 b e)
          (subst (λ o. OwnIs p fine F W o (Some (record { region = r; steps = [] }))) (sym (fine.bodies_own n.0 b n.1)) (n.2, here.1, here.2)) tt) (λ _ _.
          programs_obey rs (λ q k. h q (inr k))))
