-- Steps that run alike from states which agree on a footprint, and stay within it.
use Rattle.std.proofs.Common.{◌≡◌, ◌≢◌, ◌⊎◌, ℕ, zero, suc, pos, Bool, true, false, List, [], ◌∷◌, Option, Some, None, refl, sym, ap, ◌∙◌, subst, arith, inl, inr, ⊎_elim}
use Rattle.std.specs.Prelude.{if◌then◌else◌, nat_eq, slice_get}
use Rattle.std.proofs.lemmas.Bool.{eqb-true, eq-eqb}
use Rattle.plc_text.specs.declared.fault.FaultKind.{FaultKind}
use Rattle.plc_text.specs.declared.fault.FaultKind.TheVariants as fault
use Rattle.st_types.specs.declared.elem.Elem.TheVariants as elem
use Rattle.st_types.specs.Range.{Fits}
use Rattle.st_types.specs.declared.st_type.StType.TheVariants as type
use Rattle.st_values.specs.Program.{Variable, Program}
use Rattle.st_values.specs.Value.{Path, Value, Store, member, with_member, names_of, value_at, value_with}
use Rattle.st_values.specs.Shape.{Shape, region_shape}
use Rattle.st_values.proofs.ValueLaws.{then_some, one_some, member_put, member_stays, names_stay}
use Rattle.st_meaning.specs.State.{Spot, in_store, in_frame, Frame, State, Outcome, Done, Fault, Run, go_on, ◌>>=◌, gives, fails, at_line, some_or, spend_from, spend, moment, region_value, set_region, frame_at, frame_value, local_value, with_local, set_local, own_in, own, local_spot_in, local_spot, read, write}
use Rattle.st_meaning.specs.Loop.{Flow, goes_on, exits, continues, returns, unless_left, after_turn, turns, loop, turns_until, loop_until}
use Rattle.st_meaning.specs.st_frame.Good.{Names, Fit, GoodAt}
use Rattle.st_meaning.specs.st_frame.Promise.Names.{Scope}
use Rattle.st_meaning.specs.st_frame.Promise.Programs.{ProgramIs}
use Rattle.st_meaning.proofs.st_frame.Values.{fit_at, fit_with}
use Rattle.st_meaning.proofs.st_frame.Spots.{scope_at, local_shape, spot_shape, Within, SpotIs, OwnIs, FramesAre, local_fits, local_replaced, place_of_local}

abbrev pub Anything : {A : Type 0} → A → Type 0
Anything a = Unit {0}

module _ (p : Program) (fine : ProgramIs p) (F W : ℕ → Type 0) (base base' : Store) where
  -- Two states that are equal but for the regions outside the footprint, which are as at the beginning. What is not written is too.
  pub record Alike (gs : List Scope) (s s' : State) : Type 0 where
    pub same_frames : s.frames ≡ s'.frames
    pub same_ticks : s.ticks ≡ s'.ticks
    pub same_now : s.now ≡ s'.now
    pub timely : Fits elem.Time (pos s.now)
    pub frames : FramesAre p fine F W gs s.frames
    pub good : (r : ℕ) → F r → GoodAt p (region_shape p r) (member s.store r)
    pub agree : (r : ℕ) → F r → member s.store r ≡ member s'.store r
    pub stays : (r : ℕ) → (W r → ⊥) → member s.store r ≡ member base r
    pub stays' : (r : ℕ) → (W r → ⊥) → member s'.store r ≡ member base' r
    pub long : names_of s.store ≡ names_of base
    pub long' : names_of s'.store ≡ names_of base'

  abbrev pub Both : {A : Type 0} → List Scope → (A → Type 0) → Outcome A → Outcome A → Type 0
  Both gs Q (Done a s) (Done b s') = (a ≡ b) × Q a × Alike gs s s'
  Both gs Q (Fault k line) (Fault k' line') = (k ≡ k') × (line ≡ line')
  Both gs Q _ _ = ⊥

  -- From such states a step ends alike, in such states, with an answer of which this holds.
  pub record Obeys {A : Type 0} (gs : List Scope) (m : Run A) (Q : A → Type 0) : Type 0 where
    pub by : (line : ℕ) (s s' : State) → Alike gs s s' → Both gs Q (m line s) (m line s')

  pub then_both : {A B : Type 0} (gs hs : List Scope) (Q : A → Type 0) (R : B → Type 0) (o o' : Outcome A) (f : A → State → Outcome B) → Both gs Q o o' → ((a : A) (s s' : State) → Q a → Alike gs s s' → Both hs R (f a s) (f a s')) → Both hs R (go_on o f) (go_on o' f)
  then_both gs hs Q R (Done a s) (Done b s') f h k = subst (λ x. Both hs R (f a s) (f x s')) h.0 (k a s s' h.1 h.2)
  then_both gs hs Q R (Fault q line) (Fault q' line') f h k = h
  then_both gs hs Q R (Done a s) (Fault q' line') f h k = absurd h
  then_both gs hs Q R (Fault q line) (Done b s') f h k = absurd h

  pub then_obeys : {A B : Type 0} {gs : List Scope} {m : Run A} {f : A → Run B} {Q : A → Type 0} {R : B → Type 0} → Obeys gs m Q → ((a : A) → Q a → Obeys gs (f a) R) → Obeys gs (m >>= f) R
  then_obeys {gs = gs} {m = m} {f = f} {Q = Q} {R = R} h k =
      record { by = λ line s s' i. then_both gs gs Q R (m line s) (m line s') (λ a. f a line) (h.by line s s' i) (λ a t t' q j. (k a q).by line t t' j) }

  weaker : {A : Type 0} (gs : List Scope) (Q R : A → Type 0) (o o' : Outcome A) → Both gs Q o o' → ((a : A) → Q a → R a) → Both gs R o o'
  weaker gs Q R (Done a s) (Done b s') h k = (h.0, k a h.1, h.2)
  weaker gs Q R (Fault q line) (Fault q' line') h k = h
  weaker gs Q R (Done a s) (Fault q' line') h k = absurd h
  weaker gs Q R (Fault q line) (Done b s') h k = absurd h

  pub obeys_less : {A : Type 0} {gs : List Scope} {m : Run A} {Q R : A → Type 0} → Obeys gs m Q → ((a : A) → Q a → R a) → Obeys gs m R
  obeys_less {gs = gs} {m = m} {Q = Q} {R = R} h k = record { by = λ line s s' i. weaker gs Q R (m line s) (m line s') (h.by line s s' i) k }

  pub gives_obeys : {A : Type 0} {gs : List Scope} {a : A} {Q : A → Type 0} → Q a → Obeys gs (gives a) Q
  gives_obeys q = record { by = λ line s s' i. (refl, q, i) }

  pub fails_obeys : {A : Type 0} {gs : List Scope} {k : FaultKind} {Q : A → Type 0} → Obeys gs (fails k) Q
  fails_obeys = record { by = λ line s s' i. (refl, refl) }

  pub some_obeys : {A : Type 0} {gs : List Scope} (k : FaultKind) (o : Option A) → Obeys gs (some_or k o) (λ a. o ≡ Some a)
  some_obeys k None = fails_obeys
  some_obeys k (Some a) = gives_obeys refl

  pub if_obeys : {A : Type 0} {gs : List Scope} {m n : Run A} {Q : A → Type 0} (b : Bool) → Obeys gs m Q → Obeys gs n Q → Obeys gs (if b then m else n) Q
  if_obeys true h k = h
  if_obeys false h k = k

  pub test_obeys : {A : Type 0} {gs : List Scope} {m n : Run A} {Q : A → Type 0} (b : Bool) → (b ≡ true → Obeys gs m Q) → (b ≡ false → Obeys gs n Q) → Obeys gs (if b then m else n) Q
  test_obeys true h k = h refl
  test_obeys false h k = k refl

  pub line_obeys : {A : Type 0} {gs : List Scope} {m : Run A} {Q : A → Type 0} (n : ℕ) → Obeys gs m Q → Obeys gs (at_line n m) Q
  line_obeys n h = record { by = λ line s s' i. h.by n s s' i }

  -- what is read the same from both states, and known of
  looks : {A : Type 0} (gs : List Scope) (Q : A → Type 0) (k : FaultKind) (o o' : Option A) (line : ℕ) (s s' : State) → o ≡ o' → ((a : A) → o ≡ Some a → Q a) → Alike gs s s' → Both gs Q (some_or k o line s) (some_or k o' line s')
  looks gs Q k None None line s s' e q i = (refl, refl)
  looks gs Q k (Some a) (Some b) line s s' e q i = (let h : a ≡ b = cc in h, q a refl, i)
  looks gs Q k None (Some b) line s s' e q i = cc
  looks gs Q k (Some a) None line s s' e q i = cc

  with_ticks : (gs : List Scope) (s s' : State) (n n' : ℕ) → n ≡ n' → Alike gs s s' → Alike gs (record s { ticks = n }) (record s' { ticks = n' })
  with_ticks gs s s' n n' e i = record { same_frames = i.same_frames; same_ticks = e; same_now = i.same_now; timely = i.timely; frames = i.frames; good = i.good; agree = i.agree; stays = i.stays; stays' = i.stays'; long = i.long; long' = i.long' }

  spends : (gs : List Scope) (n n' : ℕ) (line : ℕ) (s s' : State) → n ≡ n' → Alike gs s s' → Both gs Anything (spend_from n line s) (spend_from n' line s')
  spends gs zero zero line s s' e i = (refl, refl)
  spends gs zero (suc m) line s s' e i = absurd (omega arith)
  spends gs (suc n) zero line s s' e i = absurd (omega arith)
  spends gs (suc n) (suc m) line s s' e i = (refl, tt, with_ticks gs s s' n m (omega arith) i)

  pub spend_obeys : {gs : List Scope} → Obeys gs spend Anything
  spend_obeys {gs} = record { by = λ line s s' i. spends gs s.ticks s'.ticks line s s' i.same_ticks i }

  pub moment_obeys : {gs : List Scope} → Obeys gs moment (λ n. Fits elem.Time (pos n))
  moment_obeys = record { by = λ line s s' i. (i.same_now, i.timely, i) }

  -- ---- regions

  pub region_obeys : {gs : List Scope} (r : ℕ) → F r → Obeys gs (region_value r) (λ v. (sh : Shape) → region_shape p r ≡ Some sh → Fit p sh v)
  region_obeys {gs} r f =
      record { by = λ line s s' i. looks gs (λ v. (sh : Shape) → region_shape p r ≡ Some sh → Fit p sh v) fault.Null (member s.store r) (member s'.store r) line s s' (i.agree r f) (λ v e sh k. fits s s' i v e sh k) i }
    where
      fits : (s s' : State) → Alike gs s s' → (v : Value) → member s.store r ≡ Some v → (sh : Shape) → region_shape p r ≡ Some sh → Fit p sh v
      fits s s' i v e sh k = let g = (i.good r f).by sh k in subst (Fit p sh) (one_some (member s.store r) g.0 v g.1 e) g.2

  -- a region is replaced, in both
  region_kept : (gs : List Scope) (r : ℕ) (sh : Shape) (v : Value) → F r → W r → region_shape p r ≡ Some sh → Fit p sh v → (s s' : State) → Alike gs s s' → Alike gs (record s { store = with_member s.store r v }) (record s' { store = with_member s'.store r v })
  region_kept gs r sh v f w e k s s' i = record {
    same_frames = i.same_frames;
    same_ticks = i.same_ticks;
    same_now = i.same_now;
    timely = i.timely;
    frames = i.frames;
    good = λ q g. ⊎_elim (λ d. good_here q d) (λ n. subst (GoodAt p (region_shape p q)) (sym (member_stays s.store r q v n)) (i.good q g)) (same_or q);
    agree = λ q g. ⊎_elim (λ d. agree_here q d) (λ n. member_stays s.store r q v n ∙ i.agree q g ∙ sym (member_stays s'.store r q v n)) (same_or q);
    stays = λ q n. member_stays s.store r q v (λ d. n (subst W d w)) ∙ i.stays q n;
    stays' = λ q n. member_stays s'.store r q v (λ d. n (subst W d w)) ∙ i.stays' q n;
    long = names_stay s.store r v ∙ i.long;
    long' = names_stay s'.store r v ∙ i.long';
  }
    where
      there : (x : Value) × (member s.store r ≡ Some x)
      there = let g = (i.good r f).by sh e in (g.0, g.1)

      by : (q : ℕ) (b : Bool) → nat_eq r q ≡ b → (r ≡ q) ⊎ (r ≢ q)
      by q true d = inl (eqb-true r q d)
      by q false d = inr (λ c. let x = eq-eqb r q c in let y : true ≡ false = sym x ∙ d in cc)

      same_or : (q : ℕ) → (r ≡ q) ⊎ (r ≢ q)
      same_or q = by q (nat_eq r q) refl

      good_here : (q : ℕ) → r ≡ q → GoodAt p (region_shape p q) (member (with_member s.store r v) q)
      good_here q d = subst (λ x. GoodAt p (region_shape p x) (member (with_member s.store r v) x)) d
          (record { by = λ u y. (v, member_put s.store r there.0 v there.1, subst (λ x. Fit p x v) (one_some (region_shape p r) sh u e y) k) })

      agree_here : (q : ℕ) → r ≡ q → member (with_member s.store r v) q ≡ member (with_member s'.store r v) q
      agree_here q d = subst (λ x. member (with_member s.store r v) x ≡ member (with_member s'.store r v) x) d
          (member_put s.store r there.0 v there.1 ∙ sym (member_put s'.store r there.0 v (sym (i.agree r f) ∙ there.1)))

  pub set_region_obeys : {gs : List Scope} (r : ℕ) (sh : Shape) (v : Value) → F r → W r → region_shape p r ≡ Some sh → Fit p sh v → Obeys gs (set_region r v) Anything
  set_region_obeys {gs} r sh v f w e k = record { by = λ line s s' i. (refl, tt, region_kept gs r sh v f w e k s s' i) }

  -- ---- locals and the own instance

  pub with_frames : (gs hs : List Scope) (s s' : State) (fs fs' : List Frame) → fs ≡ fs' → FramesAre p fine F W hs fs → Alike gs s s' → Alike hs (record s { frames = fs }) (record s' { frames = fs' })
  with_frames gs hs s s' fs fs' e k i = record { same_frames = e; same_ticks = i.same_ticks; same_now = i.same_now; timely = i.timely; frames = k; good = i.good; agree = i.agree; stays = i.stays; stays' = i.stays'; long = i.long; long' = i.long' }

  pub local_obeys : {gs : List Scope} (d n : ℕ) (sh : Shape) → local_shape p (scope_at gs d) n ≡ Some sh → Obeys gs (local_value d n) (λ v. Fit p sh v)
  local_obeys {gs} d n sh e =
      record { by = λ line s s' i. looks gs (λ v. Fit p sh v) fault.Null (frame_value (frame_at s.frames d) n) (frame_value (frame_at s'.frames d) n) line s s' (ap (λ fs. frame_value (frame_at fs d) n) i.same_frames) (λ v k. local_fits p fine F W gs s.frames d n sh v i.frames e k) i }

  pub set_local_obeys : {gs : List Scope} (d n : ℕ) (sh : Shape) (v : Value) → local_shape p (scope_at gs d) n ≡ Some sh → Fit p sh v → Obeys gs (set_local d n v) Anything
  set_local_obeys {gs} d n sh v e k =
      record { by = λ line s s' i. (refl, tt, with_frames gs gs s s' (with_local s.frames d n v (frame_at s.frames d)) (with_local s'.frames d n v (frame_at s'.frames d)) (ap (λ fs. with_local fs d n v (frame_at fs d)) i.same_frames) (local_replaced p fine F W gs s.frames d n sh v i.frames e k) i) }

  -- what the own instance is
  abbrev pub OwnKnown : ℕ → Path → Type 0
  OwnKnown c q = Names p q (type.Instance c) × F q.region × W q.region

  pub own_obeys : {g : Scope} {gs : List Scope} (c : ℕ) → g.this ≡ Some c → Obeys (g ∷ gs) own (OwnKnown c)
  own_obeys {g} {gs} c t = record { by = λ line s s' i. looks (g ∷ gs) (OwnKnown c) fault.Null (own_in s.frames) (own_in s'.frames) line s s' (ap own_in i.same_frames) (of s.frames i.frames) i }
    where
      of : (fs : List Frame) → FramesAre p fine F W (g ∷ gs) fs → (q : Path) → own_in fs ≡ Some q → OwnKnown c q
      of [] h q e = absurd h
      of (f ∷ fs) h q e = subst (λ o. OwnIs p fine F W (Some c) o) e (subst (λ o. OwnIs p fine F W o f.own) t h.0.own)

  pub local_spot_obeys : {g : Scope} {gs : List Scope} (n : ℕ) (v : Variable) → slice_get g.locals n ≡ Some v → Obeys (g ∷ gs) (local_spot n) (λ spot. SpotIs p fine F W (g ∷ gs) spot v.kind × Within W spot)
  local_spot_obeys {g} {gs} n v e =
      record { by = λ line s s' i. looks (g ∷ gs) (λ spot. SpotIs p fine F W (g ∷ gs) spot v.kind × Within W spot) fault.Null (local_spot_in s.frames n) (local_spot_in s'.frames n) line s s' (ap (λ fs. local_spot_in fs n) i.same_frames) (of s.frames i.frames) i }
    where
      of : (fs : List Frame) → FramesAre p fine F W (g ∷ gs) fs → (spot : Spot) → local_spot_in fs n ≡ Some spot → SpotIs p fine F W (g ∷ gs) spot v.kind × Within W spot
      of [] h spot q = cc
      of (f ∷ fs) h spot q = place_of_local p fine F W gs g f fs n v spot h e q

  -- ---- places are read and written

  pub read_obeys : {gs : List Scope} (spot : Spot) (sh : Shape) → spot_shape p gs spot ≡ Some sh → Within F spot → Obeys gs (read spot) (λ v. Fit p sh v)
  read_obeys (in_store q) sh h n =
      let a = then_some (region_shape p q.region) _ sh h in
      then_obeys (region_obeys q.region n) (λ v k. obeys_less (some_obeys fault.Null (value_at v q.steps)) (λ w e. fit_at p q.steps a.0 v sh w (k a.0 a.1) a.2 e))
  read_obeys {gs} (in_frame d n ss) sh h near =
      let a = then_some (local_shape p (scope_at gs d) n) _ sh h in
      then_obeys (local_obeys d n a.0 a.1) (λ v k. obeys_less (some_obeys fault.Null (value_at v ss)) (λ w e. fit_at p ss a.0 v sh w k a.2 e))

  pub write_obeys : {gs : List Scope} (spot : Spot) (sh : Shape) (new : Value) → spot_shape p gs spot ≡ Some sh → Within F spot → Within W spot → Fit p sh new → Obeys gs (write spot new) Anything
  write_obeys (in_store q) sh new h n w k =
      let a = then_some (region_shape p q.region) _ sh h in
      then_obeys (region_obeys q.region n) (λ v l.
      then_obeys (some_obeys fault.Null (value_with v q.steps new)) (λ v' e.
      set_region_obeys q.region a.0 v' n w a.1 (fit_with p q.steps a.0 v sh new v' (l a.0 a.1) a.2 k e)))
  write_obeys {gs} (in_frame d n ss) sh new h near w k =
      let a = then_some (local_shape p (scope_at gs d) n) _ sh h in
      then_obeys (local_obeys d n a.0 a.1) (λ v l.
      then_obeys (some_obeys fault.Null (value_with v ss new)) (λ v' e.
      set_local_obeys d n a.0 v' a.1 (fit_with p ss a.0 v sh new v' l a.2 k e)))

  -- ---- loops

  pub after_obeys : {gs : List Scope} (f : Flow) (again : Run Flow) → Obeys gs again Anything → Obeys gs (after_turn f again) Anything
  after_obeys goes_on again h = h
  after_obeys continues again h = h
  after_obeys exits again h = gives_obeys tt
  after_obeys returns again h = gives_obeys tt

  pub unless_obeys : {gs : List Scope} (f : Flow) (rest : Run Flow) → Obeys gs rest Anything → Obeys gs (unless_left f rest) Anything
  unless_obeys goes_on rest h = h
  unless_obeys exits rest h = gives_obeys tt
  unless_obeys continues rest h = gives_obeys tt
  unless_obeys returns rest h = gives_obeys tt

  turns_obey : {gs : List Scope} (n : ℕ) (test : Run Bool) (body : Run Flow) → Obeys gs test Anything → Obeys gs body Anything → Obeys gs (turns n test body) Anything
  turns_obey zero test body h k = fails_obeys
  turns_obey (suc n) test body h k =
      let again = turns_obey n test body h k in
      then_obeys spend_obeys (λ _ _. then_obeys h (λ b _. if_obeys b (then_obeys k (λ f _. after_obeys f (turns n test body) again)) (gives_obeys tt)))

  pub loop_obeys : {gs : List Scope} (test : Run Bool) (body : Run Flow) → Obeys gs test Anything → Obeys gs body Anything → Obeys gs (loop test body) Anything
  loop_obeys {gs} test body h k =
      record { by = λ line s s' i. subst (λ n. Both gs Anything (turns s.ticks test body line s) (turns n test body line s')) i.same_ticks ((turns_obey s.ticks test body h k).by line s s' i) }

  until_obey : {gs : List Scope} (n : ℕ) (body : Run Flow) (test : Run Bool) → Obeys gs body Anything → Obeys gs test Anything → Obeys gs (turns_until n body test) Anything
  until_obey zero body test h k = fails_obeys
  until_obey (suc n) body test h k =
      let again = until_obey n body test h k in
      then_obeys h (λ f _. after_obeys f _ (then_obeys spend_obeys (λ _ _. then_obeys k (λ b _. if_obeys b (gives_obeys tt) again))))

  pub until_obeys : {gs : List Scope} (body : Run Flow) (test : Run Bool) → Obeys gs body Anything → Obeys gs test Anything → Obeys gs (loop_until body test) Anything
  until_obeys {gs} body test h k =
      record { by = λ line s s' i. subst (λ n. Both gs Anything (turns_until (suc s.ticks) body test line s) (turns_until (suc n) body test line s')) i.same_ticks ((until_obey (suc s.ticks) body test h k).by line s s' i) }
