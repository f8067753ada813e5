-- One play in the terms of versions is one play of the meaning.
use Rattle.std.proofs.Common.{◌≡◌, ◌≤◌, ◌<◌, ℕ, zero, suc, ◌+◌, Bool, true, false, List, [], ◌∷◌, ◌++◌, length, Some, None, refl, sym, ap, ◌∙◌, subst, inl, inr, arith}
use Rattle.std.specs.Prelude.{◌⊎◌}
use Rattle.std.proofs.lemmas.Bool.{cases_lt}
use Rattle.plc_text.specs.declared.refusal.Refusal.{Refusal}
use Rattle.cycle_journal.specs.declared.entry.Answer.{Answer}
use Rattle.cycle_journal.specs.declared.entry.Answer.TheVariants as answer
use Rattle.cycle_journal.specs.declared.entry.CycleReply.{CycleReply}
use Rattle.cycle_journal.specs.declared.entry.CycleReply.TheVariants as reply
use Rattle.cycle_journal.specs.declared.entry.Entry.{Entry}
use Rattle.cycle_journal.specs.declared.play.Play.{Play}
use Rattle.cycle_journal.specs.declared.play.Play.TheVariants as play
use Rattle.st_rules.specs.Chains.{is_among}
use Rattle.st_values.specs.Program.{Program, Region}
use Rattle.st_values.specs.Value.{Store, Members, no_members, member_then, member, names_of}
use Rattle.st_values.specs.Shape.{region_shape}
use Rattle.st_meaning.proofs.Faults.{faults_leave}
use Rattle.st_meaning.specs.st_frame.Footprint.{Footprint, Writes}
use Rattle.st_meaning.specs.st_frame.Good.{GoodAt, Good, region_names}
use Rattle.st_meaning.proofs.st_frame.Footprints.{footprint_laws}
use Rattle.st_meaning.proofs.st_frame.Frame.{frame_laws}
use Rattle.st_change.specs.OneThread.{Controller, One, cycle_without_task, cycle_held, cycle_run, reset_without_task, reset_done, change_loaded, change_refused, change_stopped, change_without_memory, cycle_answer, held_after, is_held, released, since, removed, still_gone, hook_refusal, task_named, Steps}
use Rattle.st_change.specs.StoreLaws.{Timely}
use Rattle.st_change.proofs.Stores.{store_laws}
use Rattle.plant_rules.specs.Meaning.{Contents, bytes_at, Has, FitOn, Whole, last_moment}
use Rattle.plant_rules.specs.One as version
use Rattle.plant_rules.specs.One.{OneState, answer_of, begins}
use Rattle.mem_layout.specs.loaded_meaning.Version.{Version, plain, reads_of, writes_of, store_of, decoded_in, encoded, images_of, image_there, rewritten, FitAt, IsRight, cycle_of, left_after, meaning}
use Rattle.mem_layout.proofs.loaded_meaning.Stores.{has?, among, same_members, names_store, no_member, member_store, member_same, whole_good, region_has, image_at, rewritten_in, rewritten_out, encoded_value}
use Rattle.mem_layout.proofs.loaded_meaning.Frames.{to_has, from_has, left_fit, changes_only, images_whole, loaded_frames}
use Rattle.thread_laws.specs.Controllers.{controller_of, ListsAre, IsWholeState}
use Rattle.serial_laws.specs.Disjoint.{AreTimely}
use Rattle.thread_laws.specs.Threads.{LoadsFirst, IsStep, IsThread}
use Rattle.thread_laws.proofs.HeldTasks.{held_more, released_are, since_loaded}

-- ---- stores

no_member_by : (s : Members) (rs : List Region) (r : ℕ) → names_of s ≡ region_names rs → length rs ≤ r → member s r ≡ None
no_member_by no_members rs r e h = refl
no_member_by (member_then n w ws) [] r e h = cc
no_member_by (member_then n w ws) (x ∷ xs) zero e h = absurd (omega arith)
no_member_by (member_then n w ws) (x ∷ xs) (suc r) e h = let rest : names_of ws ≡ region_names xs = cc in no_member_by ws xs r rest (omega arith)

module _ (v : Version) (right : IsRight v) where
  -- a good store is spelled by its images
  pub images_spell : (s : Store) → Good (plain v) s → store_of (plain v) (images_of (plain v) s) ≡ s
  images_spell s good = same_members (store_of (plain v) (images_of (plain v) s)) s (names_store (plain v) (images_of (plain v) s) ∙ sym good.regions) (λ r. by r (cases_lt r (length (plain v).regions)))
    where
      by : (r : ℕ) → (r < length (plain v).regions) ⊎ (length (plain v).regions ≤ r) → member (store_of (plain v) (images_of (plain v) s)) r ≡ member s r
      by r (inr h) = no_member (plain v) (images_of (plain v) s) r h ∙ sym (no_member_by s (plain v).regions r good.regions h)
      by r (inl h) =
          let sh = region_has (plain v) right.promise r h in
          let x = (good.each r).by sh.0 sh.1 in
          member_store (plain v) (images_of (plain v) s) r h
          ∙ (ap (λ o. Some (decoded_in (plain v) (region_shape (plain v) r) o)) (image_at (plain v) s r h)
          ∙ (ap (λ o. Some (decoded_in (plain v) (region_shape (plain v) r) (Some (encoded (plain v) (region_shape (plain v) r) o)))) x.1
          ∙ (ap Some (encoded_value (plain v) right.sized r sh.0 x.0 sh.1 x.2) ∙ sym x.1)))

  module _ (t now : ℕ) (input : List ℕ) (low : t < length (plain v).tasks) (timely : now ≤ last_moment) (c : Contents) (whole : Whole (FitAt (plain v)) (length (plain v).regions) c) where
    fit_on : FitOn (FitAt (plain v)) (reads_of v t) c
    fit_on r h = whole.1 r (right.below t low r (from_has (reads_of v t) r h))

    before : Good (plain v) (store_of (plain v) c)
    before = whole_good (plain v) right.sized.small c whole

    written_has : (r : ℕ) → is_among r (writes_of v t) ≡ false → Writes (plain v) t r → ⊥
    written_has r n w = let e : true ≡ false = sym (among (writes_of v t) r (to_has (writes_of v t) r ((right.written t low).complete r w))) ∙ n in cc

    -- what a cycle leaves is spelled by the bytes that it leaves
    spelled : (a : CycleReply) (s : Store) → a ≡ (cycle_of v t now input c).0 → s ≡ (cycle_of v t now input c).1 → s ≡ store_of (plain v) (left_after v t c a s)
    spelled (reply.Fault f) s e i = i ∙ faults_leave (plain v) (reads_of v t) t now input (store_of (plain v) c) f (sym e)
    spelled (reply.Done ticks outputs) s e i = sym (same_members (store_of (plain v) (rewritten (plain v) (writes_of v t) 0 c s)) s names (λ r. by r (cases_lt r (length (plain v).regions)) (has? (writes_of v t) r)))
      where
        good_s : Good (plain v) s
        good_s = subst (λ z. Good (plain v) z) (sym i) (frame_laws.good (plain v) (reads_of v t) t now input (store_of (plain v) c) right.promise (right.footprint t low) timely before)

        names : names_of (store_of (plain v) (rewritten (plain v) (writes_of v t) 0 c s)) ≡ names_of s
        names = names_store (plain v) (rewritten (plain v) (writes_of v t) 0 c s) ∙ sym good_s.regions

        good_on : (r : ℕ) → Footprint (plain v) t r → GoodAt (plain v) (region_shape (plain v) r) (member (store_of (plain v) c) r)
        good_on r h = before.each r

        stays : (r : ℕ) → (Writes (plain v) t r → ⊥) → member s r ≡ member (store_of (plain v) c) r
        stays r n = ap (λ z. member z r) i ∙ (frame_laws.elsewhere (plain v) (reads_of v t) t now input (store_of (plain v) c) right.promise (right.footprint t low) timely good_on).1 r n

        by : (r : ℕ) → (r < length (plain v).regions) ⊎ (length (plain v).regions ≤ r) → (Has (writes_of v t) r) ⊎ (is_among r (writes_of v t) ≡ false)
            → member (store_of (plain v) (rewritten (plain v) (writes_of v t) 0 c s)) r ≡ member s r
        by r (inr h) w = no_member (plain v) (rewritten (plain v) (writes_of v t) 0 c s) r h ∙ sym (no_member_by s (plain v).regions r good_s.regions h)
        by r (inl h) (inr n) = member_same (plain v) (rewritten (plain v) (writes_of v t) 0 c s) c r (rewritten_out (plain v) (writes_of v t) c s r n) ∙ sym (stays r (written_has r n))
        by r (inl h) (inl w) =
            let sh = region_has (plain v) right.promise r h in
            let x = (good_s.each r).by sh.0 sh.1 in
            let there = whole.1 r h in
            member_store (plain v) (rewritten (plain v) (writes_of v t) 0 c s) r h
            ∙ (ap (λ o. Some (decoded_in (plain v) (region_shape (plain v) r) o)) (rewritten_in (plain v) (writes_of v t) c s r w)
            ∙ (ap (λ o. Some (decoded_in (plain v) (region_shape (plain v) r) (image_there (plain v) r o (member s r)))) there.1
            ∙ (ap (λ o. Some (decoded_in (plain v) (region_shape (plain v) r) (image_there (plain v) r (Some there.0) o))) x.1
            ∙ (ap Some (encoded_value (plain v) right.sized r sh.0 x.0 sh.1 x.2) ∙ sym x.1))))

    left_whole : Whole (FitAt (plain v)) (length (plain v).regions) (left_after v t c (cycle_of v t now input c).0 (cycle_of v t now input c).1)
    left_whole =
        let only = changes_only v t c (cycle_of v t now input c).0 (cycle_of v t now input c).1 in (
          only.0 ∙ whole.0,
          λ r h. by r h (has? (writes_of v t) r),
        )
      where
        by : (r : ℕ) → r < length (plain v).regions → (Has (writes_of v t) r) ⊎ (is_among r (writes_of v t) ≡ false)
            → (bytes : List ℕ) × (bytes_at (left_after v t c (cycle_of v t now input c).0 (cycle_of v t now input c).1) r ≡ Some bytes) × FitAt (plain v) r bytes
        by r h (inl w) = left_fit v right t low now input timely c fit_on r (to_has (reads_of v t) r ((right.footprint t low).complete r (footprint_laws.writes_read (plain v) t r ((right.written t low).sound r (from_has (writes_of v t) r w)))))
        by r h (inr n) =
            let only = changes_only v t c (cycle_of v t now input c).0 (cycle_of v t now input c).1 in
            let x = whole.1 r h in
            (x.0, only.1 r (λ w. let e : true ≡ false = sym (among (writes_of v t) r w) ∙ n in cc) ∙ x.1, x.2)

-- ---- answers

answers_same : (r : CycleReply) → cycle_answer r ≡ answer_of r
answers_same (reply.Done ticks outputs) = refl
answers_same (reply.Fault f) = refl

held_same : (r : CycleReply) (name : List ℕ) (f : List ℕ → Bool) (hs : List (List ℕ)) → ((n : List ℕ) → f n ≡ is_held hs n) → (n : List ℕ) → version.held_after r name f n ≡ is_held (held_after r name hs) n
held_same (reply.Done ticks outputs) name f hs e n = e n
held_same (reply.Fault fault) name f hs e n = held_more name n f hs (e n)

-- ---- rows

module _ (Accepts : List ℕ → Program → Type 0) (Refuses : List ℕ → Refusal → Type 0) (sources : List (List ℕ)) where
  -- the state stays
  stays : (a : OneState Version) (held : List (List ℕ)) (gone : List (List ℕ × ℕ)) (x : Play) (ans : Answer) → ListsAre a held gone → IsWholeState a
      → One Accepts Refuses sources (controller_of a held gone) x ans (controller_of a held gone) → IsStep Accepts Refuses sources a held gone x ans a
  stays a held gone x ans lists sound one = record { held-after = held; gone-after = gone; one = one; lists = lists; whole = sound }

  tasks_below : (a : OneState Version) (name : List ℕ) (t : ℕ) → IsWholeState a → task_named (plain a.version) name ≡ Some t → t < length (plain a.version).tasks
  tasks_below a name t sound e = (loaded_frames Accepts Refuses).named-below a.version name t sound.right e

  pub row : (a b : OneState Version) (held : List (List ℕ)) (gone : List (List ℕ × ℕ)) (x : Play) (ans : Answer) → ListsAre a held gone → IsWholeState a → Timely x
      → version.One (meaning Accepts Refuses) sources a x ans b → IsStep Accepts Refuses sources a held gone x ans b
  row a b held gone x ans lists sound timely (version.cycle_without_task {name} {now} {input} e) =
      subst (λ n. IsStep Accepts Refuses sources a held gone (play.Cycle name now input) (answer.NoTask n) a) (sym (lists.since-are name))
      (stays a held gone (play.Cycle name now input) (answer.NoTask (since gone name)) lists sound (cycle_without_task e))
  row a b held gone x ans lists sound timely (version.cycle_held {name} {now} {input} t e h) =
      stays a held gone (play.Cycle name now input) answer.Held lists sound (cycle_held t e (sym (lists.held-are name) ∙ h))
  row a b held gone x ans lists sound timely (version.cycle_run {name} {now} {input} t e h) =
      let v = a.version in
      let low = tasks_below a name t sound e in
      let r : CycleReply = (cycle_of v t now input a.store).0 in
      let s : Store = (cycle_of v t now input a.store).1 in
      let left : Contents = left_after v t a.store r s in
      let after : OneState Version = version.has_run (meaning Accepts Refuses) a name t now input in
      let one : One Accepts Refuses sources (controller_of a held gone) (play.Cycle name now input) (cycle_answer r) (record (controller_of a held gone) { store = s; held = held_after r name held }) =
      cycle_run t (reads_of v t) e (sym (lists.held-are name) ∙ h) (sound.right.footprint t low) in
      record {
        held-after = held_after r name held;
        gone-after = gone;
        one =
            subst (λ z. One Accepts Refuses sources (controller_of a held gone) (play.Cycle name now input) z (controller_of after (held_after r name held) gone)) (answers_same r)
            (subst (λ z. One Accepts Refuses sources (controller_of a held gone) (play.Cycle name now input) (cycle_answer r) (record (controller_of a held gone) { store = z; held = held_after r name held }))
            (spelled v sound.right t now input low timely a.store sound.whole r s refl refl) one);
        lists = record { held-are = held_same r name a.held held lists.held-are; since-are = lists.since-are };
        whole = record { right = sound.right; whole = left_whole v sound.right t now input low timely a.store sound.whole };
      }
  row a b held gone x ans lists sound timely (version.reset_without_task {name} e) =
      subst (λ n. IsStep Accepts Refuses sources a held gone (play.Reset name) (answer.NoTask n) a) (sym (lists.since-are name))
      (stays a held gone (play.Reset name) (answer.NoTask (since gone name)) lists sound (reset_without_task e))
  row a b held gone x ans lists sound timely (version.reset_done {name} t e) = record {
    held-after = released held name;
    gone-after = gone;
    one = reset_done t e;
    lists = record { held-are = released_are name a.held held lists.held-are; since-are = lists.since-are };
    whole = record { right = sound.right; whole = sound.whole };
  }
  row a b held gone x ans lists sound timely (version.change_loaded {name} {source} text q d e h) =
      let v = a.version in
      let n = h.number in
      let before = whole_good (plain v) sound.right.sized.small a.store sound.whole in
      let good = store_laws.change (plain v) (plain q) (store_of (plain v) a.store) h.store h.ticks sound.right.promise h.right.promise sound.right.hooks h.right.hooks before h.changes in
      let spells : h.store ≡ store_of (plain q) d = sym (ap (store_of (plain q)) h.images ∙ images_spell q h.right h.store good) in
      let next : ℕ → Store → Controller = λ k s. record {
        version = k;
        program = plain q;
        store = s;
        held = [];
        gone = removed k (plain q) (plain v).tasks ++ still_gone (plain q) gone;
      } in
      let one : One Accepts Refuses sources (controller_of a held gone) (play.Change name source) (answer.Loaded (v.number + 1)) (next (v.number + 1) h.store) = change_loaded text (plain q) h.store h.ticks e h.accepted h.changes in
      record {
        held-after = [];
        gone-after = removed q.number (plain q) (plain v).tasks ++ still_gone (plain q) gone;
        one =
            subst (λ s. One Accepts Refuses sources (controller_of a held gone) (play.Change name source) (answer.Loaded q.number) (next q.number s)) spells
            (subst (λ k. One Accepts Refuses sources (controller_of a held gone) (play.Change name source) (answer.Loaded k) (next k h.store)) (sym n) one);
        lists = record { held-are = λ y. refl; since-are = λ y. since_loaded q.number (plain q) (plain v).tasks gone a.since y (lists.since-are y) };
        whole = record { right = h.right; whole = subst (λ z. Whole (FitAt (plain q)) (length (plain q).regions) z) (sym h.images) (images_whole q h.right h.store good) };
      }
  row a b held gone x ans lists sound timely (version.change_refused {name} {source} text r e (inl h)) =
      stays a held gone (play.Change name source) (answer.Refused r) lists sound (change_refused text r e h)
  row a b held gone x ans lists sound timely (version.change_refused {name} {source} text r e (inr h)) =
      subst (λ z. IsStep Accepts Refuses sources a held gone (play.Change name source) (answer.Refused z) a) (sym h.refusal)
      (stays a held gone (play.Change name source) (answer.Refused (hook_refusal h.class h.kind h.line)) lists sound (change_stopped text h.program h.class h.kind h.line e h.accepted h.stops))
  row a b held gone x ans lists sound timely (version.change_without_memory {name} {source}) =
      stays a held gone (play.Change name source) answer.RefusedMemory lists sound change_without_memory

  -- ---- runs

  pub record AreSteps (plays : List Play) (a : OneState Version) (held : List (List ℕ)) (gone : List (List ℕ × ℕ)) (es : List Entry) (b : OneState Version) : Type 0 where
    pub held-after : List (List ℕ)
    pub gone-after : List (List ℕ × ℕ)
    pub steps : Steps Accepts Refuses sources plays (controller_of a held gone) es (controller_of b held-after gone-after)
    pub lists : ListsAre b held-after gone-after
    pub whole : IsWholeState b

  pub steps : (plays : List Play) → AreTimely plays → (es : List Entry) (a b : OneState Version) (held : List (List ℕ)) (gone : List (List ℕ × ℕ)) → ListsAre a held gone → IsWholeState a
      → version.Runs (meaning Accepts Refuses) sources plays a es b → AreSteps plays a held gone es b
  steps plays timely [] a b held gone lists sound r =
      subst (λ (z : OneState Version). AreSteps plays a held gone [] z) r (record { held-after = held; gone-after = gone; steps = refl; lists = lists; whole = sound })
  steps plays timely (e ∷ es) a b held gone lists sound r =
      let one = row a r.1 held gone r.0 e.answer lists sound (timely e.play r.0 r.2) r.4 in
      let rest = steps plays timely es r.1 b one.held-after one.gone-after one.lists one.whole r.5 in
      record {
        held-after = rest.held-after;
        gone-after = rest.gone-after;
        steps = (r.0, controller_of r.1 one.held-after one.gone-after, r.2, r.3, one.one, rest.steps);
        lists = rest.lists;
        whole = rest.whole;
      }

  -- all regions of a first version are there and fit
  pub first_whole : (text : List ℕ) (v : Version) (c : Contents) → LoadsFirst Accepts Refuses text v c → Whole (FitAt (plain v)) (length (plain v).regions) c
  first_whole text v c first =
      subst (λ z. Whole (FitAt (plain v)) (length (plain v).regions) z) (sym first.images)
      (images_whole v first.right first.store (store_laws.start (plain v) first.store first.ticks first.right.promise first.right.hooks first.started))

  -- a run of One from a first load is a run on one thread
  pub one_thread : (text : List ℕ) (plays : List Play) (es : List Entry) (v : Version) (c : Contents) (b : OneState Version) → AreTimely plays → LoadsFirst Accepts Refuses text v c
      → version.Runs (meaning Accepts Refuses) sources plays (begins v c) es b → IsThread Accepts Refuses sources text plays es b
  one_thread text plays es v c b timely first runs =
      let good = store_laws.start (plain v) first.store first.ticks first.right.promise first.right.hooks first.started in
      let spells : store_of (plain v) c ≡ first.store = ap (store_of (plain v)) first.images ∙ images_spell v first.right first.store good in
      let all = steps plays timely es (begins v c) b [] [] (record { held-are = λ n. refl; since-are = λ n. refl }) (record { right = first.right; whole = first_whole text v c first }) runs in
      record {
        thread = record {
          program = plain v;
          accepted = first.accepted;
          store = first.store;
          ticks = first.ticks;
          started = first.started;
          end = controller_of b all.held-after all.gone-after;
          steps =
              subst (λ s. Steps Accepts Refuses sources plays (record { version = 1; program = plain v; store = s; held = []; gone = [] }) es (controller_of b all.held-after all.gone-after)) spells
              (subst (λ k. Steps Accepts Refuses sources plays (record { version = k; program = plain v; store = store_of (plain v) c; held = []; gone = [] }) es (controller_of b all.held-after all.gone-after)) first.number all.steps);
        };
        end = record { held = all.held-after; gone = all.gone-after; is = refl; lists = all.lists };
        whole = all.whole;
      }
