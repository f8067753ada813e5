-- Disjoint equals serial.
use Rattle.std.proofs.Common.{◌≡◌, ◌≢◌, ◌≤◌, ◌<◌, ℕ, suc, true, false, List, [], ◌∷◌, ◌++◌, length, Option, Some, None, Ok, Err, refl, sym, ap, ◌∙◌, subst, inl, inr, ⊎_elim, arith}
use Rattle.std.specs.Prelude.{if◌then◌else◌, nat_eq, Result}
use Rattle.std.specs.List.{filter}
use Rattle.std.proofs.lemmas.Bool.Decides.{nat_tests}
use Rattle.std.proofs.lemmas.List.Elements.{filter-append}
use Rattle.plc_text.specs.declared.refusal.Refusal.{Refusal}
use Rattle.cycle_journal.specs.Interleaving.{Phase, Lane, changes, task_named, is_in, has_play, times, IsPhase, InPhases, numbers_of}
use Rattle.cycle_journal.specs.Play.{play_numbered}
use Rattle.cycle_journal.specs.declared.entry.Answer.{Answer}
use Rattle.cycle_journal.specs.declared.entry.Answer.TheVariants as answer
use Rattle.cycle_journal.specs.declared.entry.Entry.{Entry}
use Rattle.cycle_journal.specs.declared.play.Play.{Play}
use Rattle.cycle_journal.specs.declared.play.Play.TheVariants as play
use Rattle.st_change.specs.StoreLaws.{Timely}
use Rattle.plant_rules.specs.Meaning.{Contents, Meaning, Has, Frames}
use Rattle.plant_rules.specs.One.{OneState, loads, One, cycle_without_task, cycle_held, cycle_run, reset_without_task, reset_done, change_loaded, change_refused, change_without_memory, Runs}
use Rattle.plant_rules.specs.History.{is_change}
use Rattle.serial_laws.specs.Disjoint.{OneChange, HasNoChange, IsOneChange, Apart, DisjointRuns, entry_in, NoneWanted, SerialRuns}
use Rattle.serial_laws.proofs.PhaseRuns.{ran, IsFine, IsTimely, AreTimely}
use Rattle.serial_laws.proofs.SameRuns.{number_inside, split_entries, none_wanted, split_run, runs_ran, ran_keeps, same_lane_entries, same_state}

-- the one number of a phase of one play
pub only : (plays : List Play) (phase : Phase) (ns : List ℕ) → phase.1 ≡ suc phase.0 → IsPhase plays phase ns → ns ≡ phase.0 ∷ []
only plays phase ns e is = by ns (λ p h. let k = number_inside plays phase ns is p h in same p k.0 k.1) (is.once phase.0 ∙ ap (λ b. if b then 1 else 0) here)
  where
    here : has_play phase.0 phase ≡ true
    here = let h : phase.0 < phase.1 = omega arith in grind (arith, nat_tests)

    same : (p : ℕ) → phase.0 ≤ p → p < phase.1 → p ≡ phase.0
    same p l h = omega arith

    itself : (n : ℕ) → nat_eq n n ≡ true
    itself n = grind arith

    first : (p n : ℕ) (rest : List ℕ) → p ≡ n → times n (p ∷ rest) ≡ suc (times n rest)
    first p n rest i = ap (λ b. length (if b then p ∷ filter (λ m. nat_eq m n) rest else filter (λ m. nat_eq m n) rest)) (ap (λ z. nat_eq z n) i ∙ itself n)

    by : (ns : List ℕ) → ((p : ℕ) → Has ns p → p ≡ phase.0) → times phase.0 ns ≡ 1 → ns ≡ phase.0 ∷ []
    by [] h t = cc
    by (p ∷ []) h t = ap (λ z. z ∷ []) (h p (inl refl))
    by (p ∷ (q ∷ qs)) h t =
        let one = first p phase.0 (q ∷ qs) (h p (inl refl)) in
        let two = first q phase.0 qs (h q (inr (inl refl))) in
        absurd (omega arith)

pub one_entry : (es : List Entry) (n : ℕ) → numbers_of es ≡ n ∷ [] → (e : Entry) × (es ≡ e ∷ []) × (e.play ≡ n)
one_entry [] n h = cc
one_entry (e ∷ []) n h = let i : e.play ≡ n = cc in (e, refl, i)
one_entry (e ∷ (f ∷ fs)) n h = cc

pub same_entry : (e f : Entry) → e.version ≡ f.version → e.play ≡ f.play → e.answer ≡ f.answer → e ≡ f
same_entry e f v p a =
    ap (λ z. record { version = z; play = e.play; answer = e.answer }) v ∙ (ap (λ z. record { version = f.version; play = z; answer = e.answer }) p ∙ ap (λ z. record { version = f.version; play = f.play; answer = z }) a)

pub no_changes : (plays : List Play) (es : List Entry) → ((e : ℕ) → Has (numbers_of es) e → is_change (play_numbered plays e) ≡ false) → filter (entry_in plays changes) es ≡ []
no_changes plays [] h = refl
no_changes plays (e ∷ es) h = ap (λ b. if b then e ∷ filter (entry_in plays changes) es else filter (entry_in plays changes) es) (none (play_numbered plays e.play) (h e.play (inl refl))) ∙ no_changes plays es (λ n k. h n (inr k))
  where
    none : (o : Option Play) → is_change o ≡ false → is_in changes o ≡ false
    none None i = refl
    none (Some (play.Cycle n now input)) i = refl
    none (Some (play.Reset n)) i = refl
    none (Some (play.Change n source)) i = cc

module _ {W : Type 0} (m : Meaning W) (frames : Frames m) (one_change : OneChange m) (sources : List (List ℕ)) (plays : List Play) (timely : AreTimely m frames sources plays (0, 0)) where
  -- ---- changes

  same_loads : (a : OneState W) (q r : W) (c d : Contents) → q ≡ r → c ≡ d → (answer.Loaded (m.number q) ≡ answer.Loaded (m.number r)) × (loads m a q c ≡ loads m a r d)
  same_loads a q r c d e f = (ap (λ z. answer.Loaded (m.number z)) e, ap (λ z. loads m a z c) e ∙ ap (λ z. loads m a r z) f)

  first_of : (x y : W × Contents) → ◌≡◌ {A = Result (W × Contents) Refusal} (Ok x) (Ok y) → x ≡ y
  first_of x y e = cc

  second_of : (x y : Refusal) → ◌≡◌ {A = Result (W × Contents) Refusal} (Err x) (Err y) → x ≡ y
  second_of x y e = cc

  never : (x : W × Contents) (y : Refusal) → ◌≡◌ {A = Result (W × Contents) Refusal} (Ok x) (Err y) → ⊥
  never x y e = cc

  two_changes : (a b d : OneState W) (x : Play) (p q : Answer) → is_change (Some x) ≡ true → p ≢ answer.RefusedMemory → q ≢ answer.RefusedMemory → One m sources a x p b → One m sources a x q d → (p ≡ q) × (b ≡ d)
  two_changes a b d x p q is np nq (cycle_without_task e) k = cc
  two_changes a b d x p q is np nq (cycle_held t e h) k = cc
  two_changes a b d x p q is np nq (cycle_run t e h) k = cc
  two_changes a b d x p q is np nq (reset_without_task e) k = cc
  two_changes a b d x p q is np nq (reset_done t e) k = cc
  two_changes a b d x p q is np nq change_without_memory k = absurd (np refl)
  two_changes a b d x p q is np nq (change_loaded text v c e h) (change_loaded text' v' c' e' h') =
      let some : Some text ≡ Some text' = sym e ∙ e' in
      let same : text ≡ text' = cc in
      let pair = first_of (v, c) (v', c') (one_change.by a.version text a.store (Ok (v, c)) (Ok (v', c')) h (subst (λ z. m.changed a.version z a.store (Ok (v', c'))) (sym same) h')) in
      same_loads a v v' c c' (ap (λ z. z.0) pair) (ap (λ z. z.1) pair)
  two_changes a b d x p q is np nq (change_loaded text v c e h) (change_refused text' r e' h') =
      let some : Some text ≡ Some text' = sym e ∙ e' in
      let same : text ≡ text' = cc in
      absurd (never (v, c) r (one_change.by a.version text a.store (Ok (v, c)) (Err r) h (subst (λ z. m.changed a.version z a.store (Err r)) (sym same) h')))
  two_changes a b d x p q is np nq (change_loaded text v c e h) change_without_memory = absurd (nq refl)
  two_changes a b d x p q is np nq (change_refused text r e h) (change_loaded text' v c e' h') =
      let some : Some text ≡ Some text' = sym e ∙ e' in
      let same : text ≡ text' = cc in
      absurd (never (v, c) r (sym (one_change.by a.version text a.store (Err r) (Ok (v, c)) h (subst (λ z. m.changed a.version z a.store (Ok (v, c))) (sym same) h'))))
  two_changes a b d x p q is np nq (change_refused text r e h) (change_refused text' r' e' h') =
      let some : Some text ≡ Some text' = sym e ∙ e' in
      let same : text ≡ text' = cc in
      (ap answer.Refused (second_of r r' (one_change.by a.version text a.store (Err r) (Err r') h (subst (λ z. m.changed a.version z a.store (Err r')) (sym same) h'))), refl)
  two_changes a b d x p q is np nq (change_refused text r e h) change_without_memory = absurd (nq refl)

  change_fine : (a b : OneState W) (x : Play) (p : Answer) → is_change (Some x) ≡ true → IsFine m frames sources plays a → One m sources a x p b → IsFine m frames sources plays b
  change_fine a b x p is f (cycle_without_task e) = cc
  change_fine a b x p is f (cycle_held t e h) = cc
  change_fine a b x p is f (cycle_run t e h) = cc
  change_fine a b x p is f (reset_without_task e) = cc
  change_fine a b x p is f (reset_done t e) = cc
  change_fine a b x p is f (change_loaded text v c e h) = record { right = frames.next-right a.version v text a.store c h; whole = frames.next-whole a.version v text a.store c f.right f.whole h }
  change_fine a b x p is f (change_refused text r e h) = f
  change_fine a b x p is f change_without_memory = f

  -- ---- one phase

  pub record Alike (es fs : List Entry) (b d : OneState W) : Type 0 where
    pub state : b ≡ d
    pub lanes : (lane : Lane) → filter (entry_in plays lane) es ≡ filter (entry_in plays lane) fs
    pub fine : IsFine m frames sources plays d

  change_phase : (phase : Phase) (a b d : OneState W) (es fs : List Entry) → IsOneChange plays phase → IsFine m frames sources plays a → IsPhase plays phase (numbers_of es) → IsPhase plays phase (numbers_of fs) → NoneWanted es → NoneWanted fs
      → Runs m sources plays a es b → Runs m sources plays a fs d → Alike es fs b d
  change_phase phase a b d es fs is fine i j ne nf r s =
      let e = one_entry es phase.0 (only plays phase (numbers_of es) is.0 i) in
      let f = one_entry fs phase.0 (only plays phase (numbers_of fs) is.0 j) in
      by e.0 f.0 e.1 f.1 e.2 f.2 (subst (λ z. Runs m sources plays a z b) e.1 r) (subst (λ z. Runs m sources plays a z d) f.1 s) (subst NoneWanted e.1 ne) (subst NoneWanted f.1 nf)
    where
      by : (e f : Entry) → es ≡ e ∷ [] → fs ≡ f ∷ [] → e.play ≡ phase.0 → f.play ≡ phase.0 → Runs m sources plays a (e ∷ []) b → Runs m sources plays a (f ∷ []) d → NoneWanted (e ∷ []) → NoneWanted (f ∷ []) → Alike es fs b d
      by e f p q g h r s ne nf =
          let some : Some r.0 ≡ Some s.0 = sym r.2 ∙ (ap (play_numbered plays) (g ∙ sym h) ∙ s.2) in
          let same : s.0 ≡ r.0 = cc in
          let change : is_change (Some r.0) ≡ true = ap is_change (sym r.2) ∙ (ap (λ n. is_change (play_numbered plays n)) g ∙ is.1) in
          let k = two_changes a r.1 s.1 r.0 e.answer f.answer change ne.0 nf.0 r.4 (subst (λ z. One m sources a z f.answer s.1) same s.4) in
          let entries : e ≡ f = same_entry e f (r.3 ∙ sym s.3) (g ∙ sym h) k.0 in
          record {
            state = sym r.5 ∙ (k.1 ∙ s.5);
            lanes = λ lane. ap (filter (entry_in plays lane)) (p ∙ (ap (λ z. z ∷ []) entries ∙ sym q));
            fine = subst (λ z. IsFine m frames sources plays z) s.5 (change_fine a s.1 s.0 f.answer (ap (λ z. is_change (Some z)) same ∙ change) fine s.4);
          }

  cycle_phase : (phase : Phase) (a b d : OneState W) (es fs : List Entry) → HasNoChange plays phase → Apart plays m a.version phase → IsFine m frames sources plays a → IsPhase plays phase (numbers_of es) → IsPhase plays phase (numbers_of fs)
      → Runs m sources plays a es b → Runs m sources plays a fs d → Alike es fs b d
  cycle_phase phase a b d es fs calm apart fine i j r s =
      let calm-es : (e : ℕ) → Has (numbers_of es) e → is_change (play_numbered plays e) ≡ false = λ e h. let k = number_inside plays phase (numbers_of es) i e h in calm e k.0 k.1 in
      let calm-fs : (e : ℕ) → Has (numbers_of fs) e → is_change (play_numbered plays e) ≡ false = λ e h. let k = number_inside plays phase (numbers_of fs) j e h in calm e k.0 k.1 in
      let x = runs_ran m frames one_change sources plays timely es a b calm-es r in
      let y = runs_ran m frames one_change sources plays timely fs a d calm-fs s in
      let state = same_state m frames one_change sources plays timely phase calm a fine apart (numbers_of es) (numbers_of fs) i j in
      record {
        state = x.1 ∙ (state ∙ sym y.1);
        lanes = λ lane. by lane calm-es calm-fs x.0 y.0;
        fine = subst (λ z. IsFine m frames sources plays z) (sym y.1) (ran_keeps m frames one_change sources plays timely (numbers_of fs) a fine).fine;
      }
    where
      by : (lane : Lane) → ((e : ℕ) → Has (numbers_of es) e → is_change (play_numbered plays e) ≡ false) → ((e : ℕ) → Has (numbers_of fs) e → is_change (play_numbered plays e) ≡ false) → es ≡ (ran m frames sources plays a (numbers_of es)).0
          → fs ≡ (ran m frames sources plays a (numbers_of fs)).0 → filter (entry_in plays lane) es ≡ filter (entry_in plays lane) fs
      by changes c k e f = no_changes plays es c ∙ sym (no_changes plays fs k)
      by (task_named n) c k e f =
          ap (filter (entry_in plays (task_named n))) e
          ∙ (same_lane_entries m frames one_change sources plays timely phase calm a fine apart (numbers_of es) (numbers_of fs) i j n ∙ sym (ap (filter (entry_in plays (task_named n))) f))

  -- ---- all phases

  pub serial : (phases : List Phase) (a b d : OneState W) (es fs : List Entry) → IsFine m frames sources plays a → DisjointRuns plays m sources phases a fs d → InPhases plays phases (numbers_of es) → Runs m sources plays a es b → NoneWanted es → NoneWanted fs
      → (b ≡ d) × ((lane : Lane) → filter (entry_in plays lane) es ≡ filter (entry_in plays lane) fs)
  serial [] a b d es fs fine k i r ne nf =
      let none : es ≡ [] = empty es i in
      (sym (subst (λ z. Runs m sources plays a z b) none r) ∙ k.1, λ lane. ap (filter (entry_in plays lane)) (none ∙ sym k.0))
    where
      empty : (es : List Entry) → numbers_of es ≡ [] → es ≡ []
      empty [] e = refl
      empty (x ∷ xs) e = cc
  serial (phase ∷ phases) a b d es fs fine k i r ne nf =
      let s = split_entries es i.0 i.1 i.2 in
      let t = split_run m frames one_change sources plays timely s.front s.back a b (subst (λ z. Runs m sources plays a z b) s.is r) in
      let ne' = none_wanted s.front s.back (subst NoneWanted s.is ne) in
      let nf' = none_wanted k.0 k.1 (subst NoneWanted k.3 nf) in
      let phase_es : IsPhase plays phase (numbers_of s.front) = subst (λ z. IsPhase plays phase z) (sym s.front-is) i.3 in
      let first : Alike s.front k.0 t.mid k.2 =
      ⊎_elim
      (λ is. change_phase phase a t.mid k.2 s.front k.0 is fine phase_es k.4 ne'.0 nf'.0 t.first k.5)
      (λ is. cycle_phase phase a t.mid k.2 s.front k.0 is.0 is.1 fine phase_es k.4 t.first k.5)
      k.6 in
      let rest = serial phases k.2 b d s.back k.1 first.fine k.7 (subst (λ z. InPhases plays phases z) (sym s.back-is) i.4) (subst (λ (z : OneState W). Runs m sources plays z s.back b) first.state t.rest) ne'.1 nf'.1 in (
        rest.0,
        λ lane.
            ap (filter (entry_in plays lane)) s.is
            ∙ (filter-append (entry_in plays lane) s.front s.back
            ∙ (ap (λ z. z ++ filter (entry_in plays lane) s.back) (first.lanes lane)
            ∙ (ap (λ z. filter (entry_in plays lane) k.0 ++ z) (rest.1 lane) ∙ (sym (filter-append (entry_in plays lane) k.0 k.1) ∙ ap (filter (entry_in plays lane)) (sym k.3))))),
      )

-- ---- the law

module _ {W : Type 0} (m : Meaning W) (frames : Frames m) (one_change : OneChange m) where
  timely_of : (sources : List (List ℕ)) (plays : List Play) (o : Option Play) → ((x : Play) → o ≡ Some x → Timely x) → IsTimely m frames sources plays o
  timely_of sources plays None h = tt
  timely_of sources plays (Some (play.Cycle n now input)) h = h (play.Cycle n now input) refl
  timely_of sources plays (Some (play.Reset n)) h = tt
  timely_of sources plays (Some (play.Change n source)) h = tt

  pub serial_runs : SerialRuns m
  serial_runs = record {
    serial = λ sources plays phases a b d es fs timely right whole i r k ne nf.
        serial m frames one_change sources plays (λ n. timely_of sources plays (play_numbered plays n) (λ x e. timely n x e)) phases a b d es fs (record { right = right; whole = whole }) k i r ne nf;
  }
