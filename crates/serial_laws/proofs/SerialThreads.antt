-- Disjoint equals serial, of runs on one thread.
use Rattle.std.proofs.Common.{◌≡◌, ◌≢◌, ◌≤◌, ◌<◌, ℕ, zero, suc, Bool, true, false, List, [], ◌∷◌, ◌++◌, Some, refl, sym, ap, ◌∙◌, subst, inl, inr, ⊎_elim}
use Rattle.std.specs.Prelude.{◌⊎◌, if◌then◌else◌}
use Rattle.std.specs.List.{filter}
use Rattle.std.proofs.lemmas.List.Elements.{filter-append}
use Rattle.plc_text.specs.declared.refusal.Refusal.{Refusal}
use Rattle.cycle_journal.specs.Interleaving.{Phase, Lane, Interleaves, changes, task_named as lane, in_lane, IsPhase, InPhases, numbers_of}
use Rattle.cycle_journal.specs.Play.{play_numbered}
use Rattle.cycle_journal.specs.declared.entry.Answer.{Answer}
use Rattle.cycle_journal.specs.declared.entry.Answer.TheVariants as answer
use Rattle.cycle_journal.specs.declared.entry.CycleReply.{CycleReply}
use Rattle.cycle_journal.specs.declared.entry.CycleReply.TheVariants as reply
use Rattle.cycle_journal.specs.declared.entry.Entry.{Entry}
use Rattle.cycle_journal.specs.declared.play.Play.{Play}
use Rattle.cycle_journal.specs.Summary.{summary}
use Rattle.st_values.specs.Program.{Program}
use Rattle.st_values.specs.Value.{Store, Members, no_members, member_then, member, names_of}
use Rattle.st_meaning.specs.st_frame.Promise.Programs.{ProgramIs}
use Rattle.st_change.specs.OneThread.{Controller, One, cycle_without_task, cycle_held, cycle_run, reset_without_task, reset_done, change_loaded, change_refused, change_stopped, change_without_memory, cycle_answer, is_held, loaded, Steps, OneThread}
use Rattle.st_change.specs.Hook.{ran}
use Rattle.st_change.specs.Change.{start}
use Rattle.st_change.specs.Laws.{Judges}
use Rattle.st_change.specs.StoreLaws.{Promises, IsGood, Timely}
use Rattle.st_change.proofs.Answers.{one_answer}
use Rattle.st_change.proofs.Stores.{plays_good, store_laws}
use Rattle.plant_rules.specs.Meaning.{Has}
use Rattle.plant_rules.specs.History.{is_change}
use Rattle.serial_laws.specs.Disjoint.{HasNoChange, IsOneChange, entry_in, NoneWanted}
use Rattle.serial_laws.proofs.SameRuns.{number_inside, split_entries, none_wanted}
use Rattle.serial_laws.proofs.SerialRuns.{only, one_entry, same_entry, no_changes}
use Rattle.serial_laws.specs.Threads.{AreAlike, AreApart, DisjointSteps, AreDisjoint, first, DisjointThread, SerialThreads}
use Rattle.serial_laws.proofs.Summaries.{split_steps, disjoint_phases, disjoint_steps, same_summary}
use Rattle.serial_laws.proofs.TaskSteps.{ctl, LaneRuns, same_local, lane_alone, IsTouched, stays, InPhase}

same_members : (a b : Members) → names_of a ≡ names_of b → ((r : ℕ) → member a r ≡ member b r) → a ≡ b
same_members no_members no_members n h = refl
same_members no_members (member_then m w ws) n h = cc
same_members (member_then m w ws) no_members n h = cc
same_members (member_then m w ws) (member_then k v vs) n h =
    let first : Some w ≡ Some v = h zero in
    let one : w ≡ v = cc in
    let name : m ≡ k = cc in
    let names : names_of ws ≡ names_of vs = cc in
    let rest = same_members ws vs names (λ r. h (suc r)) in
    ap (λ x. member_then x w ws) name ∙ (ap (λ x. member_then k x ws) one ∙ ap (member_then k v) rest)

not_memory : (r : CycleReply) → cycle_answer r ≢ answer.RefusedMemory
not_memory (reply.Done ticks outputs) e = cc
not_memory (reply.Fault f) e = cc

module _ (plays : List Play) where
  numbers_filter : (l : Lane) (es : List Entry) → numbers_of (filter (entry_in plays l) es) ≡ filter (in_lane plays l) (numbers_of es)
  numbers_filter l [] = refl
  numbers_filter l (e ∷ es) = by (in_lane plays l e.play) (numbers_filter l es)
    where
      by : (b : Bool) → numbers_of (filter (entry_in plays l) es) ≡ filter (in_lane plays l) (numbers_of es) → numbers_of (if b then e ∷ filter (entry_in plays l) es else filter (entry_in plays l) es) ≡ (if b then e.play ∷ filter (in_lane plays l) (numbers_of es) else filter (in_lane plays l) (numbers_of es))
      by true k = ap (λ z. e.play ∷ z) k
      by false k = k

  module _ (Accepts : List ℕ → Program → Type 0) (Refuses : List ℕ → Refusal → Type 0) (sources : List (List ℕ)) (judges : Judges Accepts Refuses) (promises : Promises Accepts) (timely : (n : ℕ) (x : Play) → play_numbered plays n ≡ Some x → Timely x) where
    abbrev Goes : Controller → List Entry → Controller → Type 0
    Goes c es d = Steps Accepts Refuses sources plays c es d

    calm_answer : (c d : Controller) (x : Play) (a : Answer) → One Accepts Refuses sources c x a d → is_change (Some x) ≡ false → a ≢ answer.RefusedMemory
    calm_answer c d x a (cycle_without_task e) calm = λ i. cc
    calm_answer c d x a (cycle_held t e k) calm = λ i. cc
    calm_answer c d x a (cycle_run {name} {now} {input} t fs e k f) calm = not_memory _
    calm_answer c d x a (reset_without_task e) calm = λ i. cc
    calm_answer c d x a (reset_done t e) calm = λ i. cc
    calm_answer c d x a (change_loaded text q t k e f g) calm = cc
    calm_answer c d x a (change_refused text q e f) calm = cc
    calm_answer c d x a (change_stopped text q class kind line e f g) calm = cc
    calm_answer c d x a change_without_memory calm = cc

    -- two runs of the same plays, none a change, are the same
    same_steps : (es fs : List Entry) (c d e : Controller) → ((n : ℕ) → Has (numbers_of es) n → is_change (play_numbered plays n) ≡ false) → numbers_of es ≡ numbers_of fs → Goes c es d → Goes c fs e → (es ≡ fs) × (d ≡ e)
    same_steps [] [] c d e calm n s t = (refl, sym s ∙ t)
    same_steps [] (y ∷ ys) c d e calm n s t = cc
    same_steps (x ∷ xs) [] c d e calm n s t = cc
    same_steps (x ∷ xs) (y ∷ ys) c d e calm n s t =
        let first : x.play ≡ y.play = cc in
        let more : numbers_of xs ≡ numbers_of ys = cc in
        let some : Some s.0 ≡ Some t.0 = sym s.2 ∙ (ap (play_numbered plays) first ∙ t.2) in
        let same : t.0 ≡ s.0 = cc in
        let none : is_change (Some s.0) ≡ false = ap is_change (sym s.2) ∙ calm x.play (inl refl) in
        let one = subst (λ z. One Accepts Refuses sources c z y.answer t.1) same t.4 in
        let k = one_answer Accepts Refuses sources judges c s.1 t.1 s.0 x.answer y.answer s.4 one (calm_answer c s.1 s.0 x.answer s.4 none) (calm_answer c t.1 s.0 y.answer one none) in
        let rest = same_steps xs ys s.1 d e (λ m h. calm m (inr h)) more s.5 (subst (λ (z : Controller). Goes z ys e) (sym k.1) t.5) in
        (ap (λ z. z ∷ xs) (same_entry x y (s.3 ∙ sym t.3) first k.0) ∙ ap (λ z. y ∷ z) rest.0, rest.1)

    -- ---- one phase

    pub record Phased (es fs : List Entry) (d e : Controller) : Type 0 where
      pub alike : AreAlike d e
      pub lanes : (l : Lane) → filter (entry_in plays l) es ≡ filter (entry_in plays l) fs
      pub good : IsGood d

    all_inside : (phase : Phase) (c : Controller) (fine : ProgramIs c.program) (apart : AreApart plays c.program phase) (es : List Entry) → ((p : ℕ) → Has (numbers_of es) p → (phase.0 ≤ p) × (p < phase.1))
        → InPhase Accepts Refuses sources plays timely c.version c.program c.gone fine phase apart es
    all_inside phase c fine apart [] h = tt
    all_inside phase c fine apart (e ∷ es) h = let k = h e.play (inl refl) in (k.0, k.1, all_inside phase c fine apart es (λ p w. h p (inr w)))

    module _ (phase : Phase) (c : Controller) (good : IsGood c) (h' : List (List ℕ)) (alike : (n : List ℕ) → is_held c.held n ≡ is_held h' n) (es fs : List Entry) (d e : Controller) (i : IsPhase plays phase (numbers_of es)) (j : IsPhase plays phase (numbers_of fs))
        (steps : Goes c es d) (steps' : Goes (record c { held = h' }) fs e) where
      module _ (calm : HasNoChange plays phase) (apart : AreApart plays c.program phase) where
        calm-es : (n : ℕ) → Has (numbers_of es) n → is_change (play_numbered plays n) ≡ false
        calm-es n h = let k = number_inside plays phase (numbers_of es) i n h in calm n k.0 k.1

        calm-fs : (n : ℕ) → Has (numbers_of fs) n → is_change (play_numbered plays n) ≡ false
        calm-fs n h = let k = number_inside plays phase (numbers_of fs) j n h in calm n k.0 k.1

        abbrev LaneOf : List ℕ → List Entry → Controller → Type 0
        LaneOf n xs x = LaneRuns Accepts Refuses sources plays timely c.version c.program c.gone good.program phase apart n xs x c.store h'

        lane-es : (n : List ℕ) → LaneOf n es d
        lane-es n =
            lane_alone Accepts Refuses sources plays timely c.version c.program c.gone good.program phase apart calm n es c.store c.held c.store h' d steps (all_inside phase c good.program apart es (number_inside plays phase (numbers_of es) i)) good.store
            (record { held = alike n; agree = λ cy t q r m. refl })

        lane-fs : (n : List ℕ) → LaneOf n fs e
        lane-fs n =
            lane_alone Accepts Refuses sources plays timely c.version c.program c.gone good.program phase apart calm n fs c.store h' c.store h' e steps' (all_inside phase c good.program apart fs (number_inside plays phase (numbers_of fs) j)) good.store
            (same_local Accepts Refuses sources plays timely c.version c.program c.gone good.program phase apart n c.store h')

        numbers-same : (n : List ℕ) → numbers_of (filter (entry_in plays (lane n)) es) ≡ numbers_of (filter (entry_in plays (lane n)) fs)
        numbers-same n = numbers_filter (lane n) es ∙ (i.in_order (lane n) ∙ (sym (j.in_order (lane n)) ∙ sym (numbers_filter (lane n) fs)))

        lane-calm : (n : List ℕ) (m : ℕ) → Has (numbers_of (filter (entry_in plays (lane n)) es)) m → is_change (play_numbered plays m) ≡ false
        lane-calm n m h = calm-es m (of_filter (in_lane plays (lane n)) (numbers_of es) m (subst (λ z. Has z m) (numbers_filter (lane n) es) h))
          where
            of_filter : (f : ℕ → Bool) (xs : List ℕ) (r : ℕ) → Has (filter f xs) r → Has xs r
            of_filter f [] r h = absurd h
            of_filter f (x ∷ xs) r h = by (f x) h (λ k. of_filter f xs r k)
              where
                by : (b : Bool) → Has (if b then x ∷ filter f xs else filter f xs) r → (Has (filter f xs) r → Has xs r) → (r ≡ x) ⊎ Has xs r
                by true (inl q) rest = inl q
                by true (inr k) rest = inr (rest k)
                by false k rest = inr (rest k)

        both : (n : List ℕ) → (filter (entry_in plays (lane n)) es ≡ filter (entry_in plays (lane n)) fs)
            × (ctl Accepts Refuses sources plays timely c.version c.program c.gone good.program phase apart (lane-es n).store' (lane-es n).held' ≡ ctl Accepts Refuses sources plays timely c.version c.program c.gone good.program phase apart (lane-fs n).store' (lane-fs n).held')
        both n = same_steps (filter (entry_in plays (lane n)) es) (filter (entry_in plays (lane n)) fs) _ _ _ (lane-calm n) (numbers-same n) (lane-es n).steps (lane-fs n).steps

        -- the stores and held tasks at the end, by any lane
        abbrev none : List ℕ
        none = []

        held-same : (n : List ℕ) → is_held d.held n ≡ is_held e.held n
        held-same n =
            ap (λ (z : Controller). is_held z.held n) (lane-es n).is
            ∙ ((lane-es n).local.held ∙ (ap (λ (z : Controller). is_held z.held n) (both n).1 ∙ (sym (lane-fs n).local.held ∙ sym (ap (λ (z : Controller). is_held z.held n) (lane-fs n).is))))

        touched-same : (r : ℕ) → IsTouched Accepts Refuses sources plays timely c.version c.program c.gone good.program phase apart r → member d.store r ≡ member e.store r
        touched-same r t =
            let n = t.name in
            ap (λ (z : Controller). member z.store r) (lane-es n).is
            ∙ ((lane-es n).local.agree t.cycles t.task t.named r t.touched
            ∙ (ap (λ (z : Controller). member z.store r) (both n).1 ∙ (sym ((lane-fs n).local.agree t.cycles t.task t.named r t.touched) ∙ sym (ap (λ (z : Controller). member z.store r) (lane-fs n).is))))

        region-same : (r : ℕ) → member d.store r ≡ member e.store r
        region-same r =
            ⊎_elim (touched-same r)
            (λ x. ⊎_elim (touched-same r) (λ y. x ∙ sym y)
            (stays Accepts Refuses sources plays timely c.version c.program c.gone good.program phase apart calm fs c.store h' e r steps' (all_inside phase c good.program apart fs (number_inside plays phase (numbers_of fs) j)) good.store))
            (stays Accepts Refuses sources plays timely c.version c.program c.gone good.program phase apart calm es c.store c.held d r steps (all_inside phase c good.program apart es (number_inside plays phase (numbers_of es) i)) good.store)

        store-same : d.store ≡ e.store
        store-same =
            let x = lane-es none in
            let y = lane-fs none in
            let a : names_of d.store ≡ names_of x.store = ap (λ (z : Controller). names_of z.store) x.is in
            let b : names_of e.store ≡ names_of y.store = ap (λ (z : Controller). names_of z.store) y.is in
            same_members d.store e.store (a ∙ (x.good.regions ∙ (sym y.good.regions ∙ sym b))) region-same

        pub cycle_phase : Phased es fs d e
        cycle_phase =
            let x = lane-es none in
            let y = lane-fs none in
            record {
              alike = record {
                held = e.held;
                is = ends x.is y.is;
                same = held-same;
              };
              lanes = λ l. by l;
              good = subst IsGood (sym x.is) (record { program = good.program; hooks = good.hooks; store = x.good });
            }
          where
            ends : d ≡ ctl Accepts Refuses sources plays timely c.version c.program c.gone good.program phase apart (lane-es none).store (lane-es none).held → e ≡ ctl Accepts Refuses sources plays timely c.version c.program c.gone good.program phase apart (lane-fs none).store (lane-fs none).held
                → e ≡ record d { held = e.held }
            ends p q =
                q
                ∙ (ap (λ z. record { version = c.version; program = c.program; store = z; held = (lane-fs none).held; gone = c.gone }) (sym (ap (λ (z : Controller). z.store) q) ∙ sym store-same)
                ∙ (ap (λ z. record { version = c.version; program = c.program; store = d.store; held = z; gone = c.gone }) (sym (ap (λ (z : Controller). z.held) q))
                ∙ ap (λ (z : Controller). record { version = z.version; program = z.program; store = d.store; held = e.held; gone = z.gone }) (sym p)))

            by : (l : Lane) → filter (entry_in plays l) es ≡ filter (entry_in plays l) fs
            by changes = no_changes plays es calm-es ∙ sym (no_changes plays fs calm-fs)
            by (lane n) = (both n).0

      -- ---- a change

      -- a change does not look at the tasks that are held
      pub record Moved (x : Play) (a : Answer) (d0 : Controller) : Type 0 where
        pub after : Controller
        pub one : One Accepts Refuses sources (record c { held = h' }) x a after
        pub alike-is : AreAlike d0 after

      moved : (x : Play) (a : Answer) (d0 : Controller) → is_change (Some x) ≡ true → One Accepts Refuses sources c x a d0 → Moved x a d0
      moved x a d0 is (cycle_without_task q) = cc
      moved x a d0 is (cycle_held t q k) = cc
      moved x a d0 is (cycle_run t gs q k f) = cc
      moved x a d0 is (reset_without_task q) = cc
      moved x a d0 is (reset_done t q) = cc
      moved x a d0 is (change_loaded text p s ticks q f g) = record { after = loaded c p s; one = change_loaded text p s ticks q f g; alike-is = record { held = []; is = refl; same = λ n. refl } }
      moved x a d0 is (change_refused text r q f) = record { after = record c { held = h' }; one = change_refused text r q f; alike-is = record { held = h'; is = refl; same = alike } }
      moved x a d0 is (change_stopped text p class kind line q f g) =
          record { after = record c { held = h' }; one = change_stopped text p class kind line q f g; alike-is = record { held = h'; is = refl; same = alike } }
      moved x a d0 is change_without_memory = record { after = record c { held = h' }; one = change_without_memory; alike-is = record { held = h'; is = refl; same = alike } }

      pub change_phase : IsOneChange plays phase → NoneWanted es → NoneWanted fs → Phased es fs d e
      change_phase is ne nf =
          let x = one_entry es phase.0 (only plays phase (numbers_of es) is.0 i) in
          let y = one_entry fs phase.0 (only plays phase (numbers_of fs) is.0 j) in
          by x.0 y.0 x.1 y.1 x.2 y.2 (subst (λ z. Goes c z d) x.1 steps) (subst (λ z. Goes (record c { held = h' }) z e) y.1 steps') (subst NoneWanted x.1 ne) (subst NoneWanted y.1 nf)
        where
          by : (x y : Entry) → es ≡ x ∷ [] → fs ≡ y ∷ [] → x.play ≡ phase.0 → y.play ≡ phase.0 → Goes c (x ∷ []) d → Goes (record c { held = h' }) (y ∷ []) e → NoneWanted (x ∷ []) → NoneWanted (y ∷ []) → Phased es fs d e
          by x y p q g h r s ne nf =
              let some : Some r.0 ≡ Some s.0 = sym r.2 ∙ (ap (play_numbered plays) (g ∙ sym h) ∙ s.2) in
              let same : s.0 ≡ r.0 = cc in
              let change : is_change (Some r.0) ≡ true = ap is_change (sym r.2) ∙ (ap (λ n. is_change (play_numbered plays n)) g ∙ is.1) in
              let m = moved r.0 x.answer r.1 change r.4 in
              let k = one_answer Accepts Refuses sources judges (record c { held = h' }) m.after s.1 r.0 x.answer y.answer m.one (subst (λ z. One Accepts Refuses sources (record c { held = h' }) z y.answer s.1) same s.4) ne.0 nf.0 in
              let entries : x ≡ y = same_entry x y (r.3 ∙ sym s.3) (g ∙ sym h) k.0 in
              let alike0 : AreAlike r.1 e = subst (λ (z : Controller). AreAlike r.1 z) (k.1 ∙ s.5) m.alike-is in
              record {
                alike = subst (λ (z : Controller). AreAlike z e) r.5 alike0;
                lanes = λ l. ap (filter (entry_in plays l)) (p ∙ (ap (λ z. z ∷ []) entries ∙ sym q));
                good = subst IsGood r.5 (plays_good Accepts Refuses sources promises c r.1 r.0 x.answer (timely x.play r.0 r.2) r.4 good);
              }

    -- ---- all phases

    -- Two runs from states that are alike, of phases that are disjoint: each task has the same entries, and the ends are alike.
    pub serial : (phases : List Phase) (c : Controller) (h' : List (List ℕ)) (d e : Controller) (es fs : List Entry) → IsGood c → ((n : List ℕ) → is_held c.held n ≡ is_held h' n) → DisjointSteps plays Accepts Refuses sources phases (record c { held = h' }) fs e
        → InPhases plays phases (numbers_of es) → Goes c es d → NoneWanted es → NoneWanted fs → AreAlike d e × ((l : Lane) → filter (entry_in plays l) es ≡ filter (entry_in plays l) fs)
    serial [] c h' d e es fs good alike k i r ne nf =
        let none : es ≡ [] = empty es i in
        let is : c ≡ d = subst (λ z. Goes c z d) none r in (
          subst (λ (z : Controller). AreAlike z e) is (subst (λ (z : Controller). AreAlike c z) k.1 (record { held = h'; is = refl; same = alike })),
          λ l. ap (filter (entry_in plays l)) (none ∙ sym k.0),
        )
      where
        empty : (es : List Entry) → numbers_of es ≡ [] → es ≡ []
        empty [] q = refl
        empty (x ∷ xs) q = cc
    serial (phase ∷ phases) c h' d e es fs good alike k i r ne nf =
        let s = split_entries es i.0 i.1 i.2 in
        let t = split_steps Accepts Refuses sources plays s.front s.back c d (subst (λ z. Goes c z d) s.is r) in
        let ne' = none_wanted s.front s.back (subst NoneWanted s.is ne) in
        let nf' = none_wanted k.0 k.1 (subst NoneWanted k.3 nf) in
        let phase_es : IsPhase plays phase (numbers_of s.front) = subst (λ z. IsPhase plays phase z) (sym s.front-is) i.3 in
        let first : Phased s.front k.0 t.mid k.2 =
        ⊎_elim
        (λ is. change_phase phase c good h' alike s.front k.0 t.mid k.2 phase_es k.4 t.first k.5 is ne'.0 nf'.0)
        (λ is. cycle_phase phase c good h' alike s.front k.0 t.mid k.2 phase_es k.4 t.first k.5 is.0 is.1)
        k.6 in
        let next : DisjointSteps plays Accepts Refuses sources phases (record t.mid { held = first.alike.held }) k.1 e = subst (λ (z : Controller). DisjointSteps plays Accepts Refuses sources phases z k.1 e) first.alike.is k.7 in
        let rest = serial phases t.mid first.alike.held d e s.back k.1 first.good first.alike.same next (subst (λ z. InPhases plays phases z) (sym s.back-is) i.4) t.rest ne'.1 nf'.1 in (
          rest.0,
          λ l.
              ap (filter (entry_in plays l)) s.is
              ∙ (filter-append (entry_in plays l) s.front s.back
              ∙ (ap (λ z. z ++ filter (entry_in plays l) s.back) (first.lanes l)
              ∙ (ap (λ z. filter (entry_in plays l) k.0 ++ z) (rest.1 l) ∙ (sym (filter-append (entry_in plays l) k.0 k.1) ∙ ap (filter (entry_in plays l)) (sym k.3))))),
        )

    same_start : (s t : Store) (n k : ℕ) → ran s n ≡ ran t k → s ≡ t
    same_start s t n k q = cc

    -- A run on one thread that interleaves the phases, and one whose phases are disjoint, neither with a change that found no memory.
    pub threads_serial : (text : List ℕ) (phases : List Phase) (es fs : List Entry) → (j : OneThread Accepts Refuses sources text plays es) → Interleaves plays phases es → (k : DisjointThread plays Accepts Refuses sources text phases fs) → NoneWanted es → NoneWanted fs
        → AreAlike j.end k.end × ((l : Lane) → filter (entry_in plays l) es ≡ filter (entry_in plays l) fs)
    threads_serial text phases es fs j inter k ne nf =
        let p : k.program ≡ j.program = judges.one_program text k.program j.program k.accepted j.accepted in
        let s : k.store ≡ j.store = same_start k.store j.store k.ticks j.ticks (sym k.started ∙ (ap start p ∙ j.started)) in
        let fine = promises.program text j.program j.accepted in
        let hooks = promises.hooks text j.program j.accepted in
        let good = store_laws.start j.program j.store j.ticks fine hooks j.started in
        let steps : DisjointSteps plays Accepts Refuses sources phases (first plays Accepts Refuses sources j.program j.store) fs k.end =
        subst (λ z. DisjointSteps plays Accepts Refuses sources phases (first plays Accepts Refuses sources j.program z) fs k.end) s (subst (λ z. DisjointSteps plays Accepts Refuses sources phases (first plays Accepts Refuses sources z k.store) fs k.end) p k.steps) in
        serial phases (first plays Accepts Refuses sources j.program j.store) [] j.end k.end es fs (record { program = fine; hooks = hooks; store = good }) (λ n. refl) steps inter j.steps ne nf

    -- Their summaries are equal.
    pub summaries_serial : (n : ℕ) (text : List ℕ) (phases : List Phase) (es fs : List Entry) → OneThread Accepts Refuses sources text plays es → Interleaves plays phases es → DisjointThread plays Accepts Refuses sources text phases fs → NoneWanted es → NoneWanted fs
        → summary n plays es ≡ summary n plays fs
    summaries_serial n text phases es fs j inter k ne nf =
        let both = threads_serial text phases es fs j inter k ne nf in
        let version : j.end.version ≡ k.end.version = sym (ap (λ (z : Controller). z.version) both.0.is) in
        same_summary Accepts Refuses sources plays n phases (first plays Accepts Refuses sources j.program j.store) (first plays Accepts Refuses sources k.program k.store) j.end k.end es fs refl refl j.steps inter k.steps version both.1

-- ---- the laws

module _ (Accepts : List ℕ → Program → Type 0) (Refuses : List ℕ → Refusal → Type 0) where
  module _ (sources : List (List ℕ)) (plays : List Play) where
    -- steps of phases that are disjoint
    disjoint_from : (phases : List Phase) (c d : Controller) (es : List Entry) → Steps Accepts Refuses sources plays c es d → InPhases plays phases (numbers_of es) → AreDisjoint plays Accepts Refuses sources phases c es
        → DisjointSteps plays Accepts Refuses sources phases c es d
    disjoint_from [] c d [] r i h = (refl, r)
    disjoint_from [] c d (x ∷ xs) r i h = cc
    disjoint_from (phase ∷ phases) c d es r i h =
        let s = split_entries es i.0 i.1 i.2 in
        let t = split_steps Accepts Refuses sources plays s.front s.back c d (subst (λ z. Steps Accepts Refuses sources plays c z d) s.is r) in
        let is : IsPhase plays phase (numbers_of s.front) = subst (λ z. IsPhase plays phase z) (sym s.front-is) i.3 in
        let rest = disjoint_from phases t.mid d s.back t.rest (subst (λ z. InPhases plays phases z) (sym s.back-is) i.4) (h.1 s.front s.back t.mid s.is is t.first) in
        (s.front, s.back, t.mid, s.is, is, t.first, h.0, rest)

  pub serial_threads : Judges Accepts Refuses → Promises Accepts → SerialThreads Accepts Refuses
  serial_threads judges promises = record {
    serial = λ sources text plays phases es fs timely j i k ne nf. threads_serial plays Accepts Refuses sources judges promises timely text phases es fs j i k ne nf;
    summaries = λ sources n text plays phases es fs timely j i k ne nf. summaries_serial plays Accepts Refuses sources judges promises timely n text phases es fs j i k ne nf;
    disjoint = λ sources text plays phases fs k i h. record {
      program = k.program;
      accepted = k.accepted;
      store = k.store;
      ticks = k.ticks;
      started = k.started;
      end = k.end;
      steps = disjoint_from sources plays phases (first plays Accepts Refuses sources k.program k.store) k.end fs k.steps i h;
    };
    thread = λ sources text plays phases fs k. (
      record {
        program = k.program;
        accepted = k.accepted;
        store = k.store;
        ticks = k.ticks;
        started = k.started;
        end = k.end;
        steps = disjoint_steps Accepts Refuses sources plays phases (first plays Accepts Refuses sources k.program k.store) k.end fs k.steps;
      },
      disjoint_phases Accepts Refuses sources plays phases (first plays Accepts Refuses sources k.program k.store) k.end fs k.steps,
    );
  }
