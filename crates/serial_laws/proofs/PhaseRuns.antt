-- In a phase of cycles and resets each task's entries hang on its own plays alone.
use Rattle.std.proofs.Common.{◌≡◌, ◌≤◌, ◌<◌, ℕ, zero, suc, Bool, true, false, List, [], ◌∷◌, length, Option, Some, None, refl, sym, ap, ◌∙◌, subst, inl, inr, ⊎_elim, arith}
use Rattle.std.specs.Prelude.{◌⊎◌, ◌||◌, ◌&&◌, not, if◌then◌else◌, nat_eq}
use Rattle.std.specs.List.{filter}
use Rattle.std.proofs.lemmas.Bool.{eqb-true}
use Rattle.std.proofs.lemmas.Slice.Eq.{bytes_eq-Decides}
use Rattle.plc_text.specs.Words.{same}
use Rattle.cycle_journal.specs.Interleaving.{Phase, task_named, is_in, in_lane}
use Rattle.cycle_journal.specs.Play.{play_numbered}
use Rattle.cycle_journal.specs.declared.entry.Answer.{Answer}
use Rattle.cycle_journal.specs.declared.entry.Answer.TheVariants as answer
use Rattle.cycle_journal.specs.declared.entry.CycleReply.{CycleReply}
use Rattle.cycle_journal.specs.declared.entry.CycleReply.TheVariants as reply
use Rattle.cycle_journal.specs.declared.entry.Entry.{Entry}
use Rattle.cycle_journal.specs.declared.play.Play.{Play}
use Rattle.cycle_journal.specs.declared.play.Play.TheVariants as play
use Rattle.plant_rules.specs.Meaning.{Contents, Meaning, bytes_at, Has, AgreeOn, FitOn, Whole, Frames, last_moment}
use Rattle.plant_rules.specs.One.{OneState, answer_of, held_after, held_without, has_run, One, cycle_without_task, cycle_held, cycle_run, reset_without_task, reset_done, change_loaded, change_refused, change_without_memory}
use Rattle.plant_rules.specs.History.{is_change, entry}
use Rattle.serial_laws.specs.Disjoint.{Cycles, Apart, entry_in}

-- ---- names and lists

pub same_is : (a b : List ℕ) → same a b ≡ true → a ≡ b
same_is a b e = (bytes_eq-Decides a b).0 e

pub is_same : (a : List ℕ) → same a a ≡ true
is_same a = (bytes_eq-Decides a a).1 refl

pub true_false : {A : Type 0} → (b : Bool) → b ≡ true → b ≡ false → A
true_false b e f = absurd (cc)

decided : (b : Bool) → (b ≡ true) ⊎ (b ≡ false)
decided true = inl refl
decided false = inr refl

not_same : (a b : List ℕ) → (a ≡ b → ⊥) → same a b ≡ false
not_same a b n = ⊎_elim (λ e. absurd (n (same_is a b e))) (λ e. e) (decided (same a b))

pub flipped : (a b : List ℕ) → same a b ≡ false → same b a ≡ false
flipped a b e = not_same b a (λ i. true_false (same a b) (ap (same a) i ∙ is_same a) e)

pub has? : (xs : List ℕ) (r : ℕ) → (Has xs r) ⊎ (Has xs r → ⊥)
has? [] r = inr (λ h. h)
has? (x ∷ xs) r = ⊎_elim (λ e. inl (inl (eqb-true r x e))) (λ e. ⊎_elim (λ h. inl (inr h)) (λ n. inr (λ h. ⊎_elim (λ i. differs i e) (λ k. n k) h)) (has? xs r)) (decided (nat_eq r x))
  where
    differs : r ≡ x → nat_eq r x ≡ false → ⊥
    differs i e = let s : nat_eq r r ≡ true = grind arith in true_false (nat_eq r x) (ap (λ z. nat_eq r z) (sym i) ∙ s) e

pub same_contents : (c d : Contents) → length c ≡ length d → ((r : ℕ) → bytes_at c r ≡ bytes_at d r) → c ≡ d
same_contents [] [] n h = refl
same_contents [] (y ∷ ys) n h = absurd (omega arith)
same_contents (x ∷ xs) [] n h = absurd (omega arith)
same_contents (x ∷ xs) (y ∷ ys) n h =
    let rest = same_contents xs ys (omega arith) (λ r. h (suc r)) in
    ap (λ z. z ∷ xs) (h zero) ∙ ap (λ zs. y ∷ zs) rest

module _ {W : Type 0} (m : Meaning W) (frames : Frames m) (sources : List (List ℕ)) (plays : List Play) where
  -- ---- one step as a function

  abbrev pub cycle_step : OneState W → List ℕ → ℕ → List ℕ → Option ℕ → Bool → Answer × OneState W
  cycle_step a name now input None h = (answer.NoTask (a.since name), a)
  cycle_step a name now input (Some t) true = (answer.Held, a)
  cycle_step a name now input (Some t) false = (answer_of (m.reply_of a.version t now input a.store), has_run m a name t now input)

  abbrev pub reset_step : OneState W → List ℕ → Option ℕ → Answer × OneState W
  reset_step a name None = (answer.NoTask (a.since name), a)
  reset_step a name (Some t) = (answer.Released, record a { held = held_without name a.held })

  abbrev pub stepped : OneState W → Option Play → Answer × OneState W
  stepped a (Some (play.Cycle name now input)) = cycle_step a name now input (m.named a.version name) (a.held name)
  stepped a (Some (play.Reset name)) = reset_step a name (m.named a.version name)
  stepped a _ = (answer.Held, a)

  pub one_steps : (a b : OneState W) (x : Play) (ans : Answer) → One m sources a x ans b → is_change (Some x) ≡ false → stepped a (Some x) ≡ (ans, b)
  one_steps a b x ans (cycle_without_task {name} {now} {input} e) n = ap (λ o. cycle_step a name now input o (a.held name)) e
  one_steps a b x ans (cycle_held {name} {now} {input} t e h) n = ap (λ o. cycle_step a name now input o (a.held name)) e ∙ ap (λ z. cycle_step a name now input (Some t) z) h
  one_steps a b x ans (cycle_run {name} {now} {input} t e h) n = ap (λ o. cycle_step a name now input o (a.held name)) e ∙ ap (λ z. cycle_step a name now input (Some t) z) h
  one_steps a b x ans (reset_without_task {name} e) n = ap (λ o. reset_step a name o) e
  one_steps a b x ans (reset_done {name} t e) n = ap (λ o. reset_step a name o) e
  one_steps a b x ans (change_loaded text q d e h) n = cc
  one_steps a b x ans (change_refused text r e h) n = cc
  one_steps a b x ans change_without_memory n = cc

  abbrev after_play : OneState W → ℕ → OneState W
  after_play a p = (stepped a (play_numbered plays p)).1

  abbrev pub ran : OneState W → List ℕ → List Entry × OneState W
  ran a [] = ([], a)
  ran a (n ∷ ns) =
      let s = stepped a (play_numbered plays n) in
      let rest = ran s.1 ns in
      (entry (m.number a.version) n s.0 ∷ rest.0, rest.1)

  -- ---- what stays right

  pub record IsFine (a : OneState W) : Type 0 where
    pub right : m.right a.version
    pub whole : Whole (m.fit a.version) (m.region_total a.version) a.store

  fit_reads : (a : OneState W) (t : ℕ) → IsFine a → t < m.tasks a.version → FitOn (m.fit a.version) (m.reads a.version t) a.store
  fit_reads a t f low r h = f.whole.1 r (frames.reads-below a.version t r f.right low h)

  -- a cycle leaves all regions there and fit
  left_whole : (a : OneState W) (t now : ℕ) (input : List ℕ) → IsFine a → t < m.tasks a.version → now ≤ last_moment → Whole (m.fit a.version) (m.region_total a.version) (m.left_by a.version t now input a.store)
  left_whole a t now input f low timely =
      let only = frames.elsewhere a.version t now input a.store in
      (only.0 ∙ f.whole.0, λ r h. ⊎_elim (λ w. frames.keeps a.version t now input a.store f.right low timely (fit_reads a t f low) r (frames.writes-read a.version t r f.right low w)) (λ n. let x = f.whole.1 r h in (x.0, only.1 r n ∙ x.1, x.2)) (has? (m.writes a.version t) r))

  abbrev pub IsTimely : Option Play → Type 0
  IsTimely (Some (play.Cycle name now input)) = now ≤ last_moment
  IsTimely _ = Unit {0}

  -- what a step keeps: the version, and what is known of it
  pub record Steps (a b : OneState W) : Type 0 where
    pub version : b.version ≡ a.version
    pub since : b.since ≡ a.since
    pub fine : IsFine b

  cycle_keeps : (a : OneState W) (name : List ℕ) (now : ℕ) (input : List ℕ) (o : Option ℕ) (h : Bool) → m.named a.version name ≡ o → IsFine a → now ≤ last_moment → Steps a (cycle_step a name now input o h).1
  cycle_keeps a name now input None h e f timely = record { version = refl; since = refl; fine = f }
  cycle_keeps a name now input (Some t) true e f timely = record { version = refl; since = refl; fine = f }
  cycle_keeps a name now input (Some t) false e f timely =
      record { version = refl; since = refl; fine = record { right = f.right; whole = left_whole a t now input f (frames.named-below a.version name t f.right e) timely } }

  reset_keeps : (a : OneState W) (name : List ℕ) (o : Option ℕ) → IsFine a → Steps a (reset_step a name o).1
  reset_keeps a name None f = record { version = refl; since = refl; fine = f }
  reset_keeps a name (Some t) f = record { version = refl; since = refl; fine = record { right = f.right; whole = f.whole } }

  pub keeps : (a : OneState W) (o : Option Play) → IsFine a → IsTimely o → Steps a (stepped a o).1
  keeps a None f timely = record { version = refl; since = refl; fine = f }
  keeps a (Some (play.Cycle name now input)) f timely = cycle_keeps a name now input (m.named a.version name) (a.held name) refl f timely
  keeps a (Some (play.Reset name)) f timely = reset_keeps a name (m.named a.version name) f
  keeps a (Some (play.Change name source)) f timely = record { version = refl; since = refl; fine = f }

  module _ (phase : Phase) where
    -- two states that are the same for a task
    pub record Local (n : List ℕ) (a b : OneState W) : Type 0 where
      pub version : a.version ≡ b.version
      pub since : a.since ≡ b.since
      pub held : a.held n ≡ b.held n
      pub agree : Cycles plays phase n → (t : ℕ) → m.named a.version n ≡ Some t → AgreeOn (m.reads a.version t) a.store b.store

    -- a play of the task in both
    held_equal : (r s : CycleReply) (n : List ℕ) (f g : List ℕ → Bool) → r ≡ s → f n ≡ g n → held_after r n f n ≡ held_after s n g n
    held_equal (reply.Done ticks outputs) s n f g e h = h ∙ ap (λ z. held_after z n g n) e
    held_equal (reply.Fault fault) s n f g e h = ap (λ z. same n n || z) h ∙ ap (λ z. held_after z n g n) e

    both_run : (a b : OneState W) (n : List ℕ) (t now : ℕ) (input : List ℕ) → a.version ≡ b.version → m.named a.version n ≡ Some t → IsFine a → now ≤ last_moment → AgreeOn (m.reads a.version t) a.store b.store
        → (m.reply_of a.version t now input a.store ≡ m.reply_of b.version t now input b.store) × AgreeOn (m.reads a.version t) (m.left_by a.version t now input a.store) (m.left_by b.version t now input b.store)
    both_run a b n t now input v e f timely agree =
        subst (λ w. (m.reply_of a.version t now input a.store ≡ m.reply_of w t now input b.store) × AgreeOn (m.reads a.version t) (m.left_by a.version t now input a.store) (m.left_by w t now input b.store)) v
        (let low = frames.named-below a.version n t f.right e in
        let l = frames.local a.version t now input a.store b.store f.right low timely (fit_reads a t f low) agree in (
          l.0,
          λ r h. ⊎_elim (λ w. l.1 r w) (λ k. (frames.elsewhere a.version t now input a.store).1 r k ∙ (agree r h ∙ sym ((frames.elsewhere a.version t now input b.store).1 r k))) (has? (m.writes a.version t) r),
        ))

    own_cycle : (a b : OneState W) (n : List ℕ) (now : ℕ) (input : List ℕ) → (o : Option ℕ) (h : Bool) → m.named a.version n ≡ o → a.held n ≡ h → Cycles plays phase n → IsFine a → now ≤ last_moment → Local n a b
        → ((cycle_step a n now input o h).0 ≡ (cycle_step b n now input o h).0) × Local n (cycle_step a n now input o h).1 (cycle_step b n now input o h).1
    own_cycle a b n now input None h e g c f timely l = (ap (λ z. answer.NoTask (z n)) l.since, l)
    own_cycle a b n now input (Some t) true e g c f timely l = (refl, l)
    own_cycle a b n now input (Some t) false e g c f timely l =
        let r = both_run a b n t now input l.version e f timely (l.agree c t e) in (
          ap answer_of r.0,
          record {
            version = l.version;
            since = l.since;
            held = held_equal (m.reply_of a.version t now input a.store) (m.reply_of b.version t now input b.store) n a.held b.held r.0 l.held;
            agree = λ k u i. let s : Some t ≡ Some u = sym e ∙ i in let same : t ≡ u = cc in subst (λ z. AgreeOn (m.reads a.version z) (m.left_by a.version t now input a.store) (m.left_by b.version t now input b.store)) same r.1;
          },
        )

    own_reset : (a b : OneState W) (n : List ℕ) (o : Option ℕ) → Local n a b → ((reset_step a n o).0 ≡ (reset_step b n o).0) × Local n (reset_step a n o).1 (reset_step b n o).1
    own_reset a b n None l = (ap (λ z. answer.NoTask (z n)) l.since, l)
    own_reset a b n (Some t) l = (refl, record { version = l.version; since = l.since; held = ap (λ z. not (same n n) && z) l.held; agree = l.agree })

    -- of the task's own lane
    own : (a b : OneState W) (n : List ℕ) (o : Option Play) → ((now : ℕ) (input : List ℕ) → o ≡ Some (play.Cycle n now input) → Cycles plays phase n) → is_in (task_named n) o ≡ true → IsFine a → IsTimely o → Local n a b
        → ((stepped a o).0 ≡ (stepped b o).0) × Local n (stepped a o).1 (stepped b o).1
    own a b n None c i f timely l = cc
    own a b n (Some (play.Change name source)) c i f timely l = cc
    own a b n (Some (play.Cycle name now input)) c i f timely l =
        let e : n ≡ name = same_is n name i in
        let named : m.named b.version name ≡ m.named a.version name = ap (λ z. m.named z name) (sym l.version) in
        let l' : Local name a b = subst (λ z. Local z a b) e l in
        let k : Cycles plays phase name = subst (λ z. Cycles plays phase z) e (c now input (ap (λ z. Some (play.Cycle z now input)) (sym e))) in
        let x = own_cycle a b name now input (m.named a.version name) (a.held name) refl refl k f timely l' in
        subst (λ z. ((stepped a (Some (play.Cycle name now input))).0 ≡ (stepped b (Some (play.Cycle name now input))).0) × Local z (stepped a (Some (play.Cycle name now input))).1 (stepped b (Some (play.Cycle name now input))).1) (sym e)
        (subst (λ h. ((stepped a (Some (play.Cycle name now input))).0 ≡ (cycle_step b name now input (m.named b.version name) h).0) × Local name (stepped a (Some (play.Cycle name now input))).1 (cycle_step b name now input (m.named b.version name) h).1) l'.held
        (subst (λ o. ((stepped a (Some (play.Cycle name now input))).0 ≡ (cycle_step b name now input o (a.held name)).0) × Local name (stepped a (Some (play.Cycle name now input))).1 (cycle_step b name now input o (a.held name)).1) (sym named) x))
    own a b n (Some (play.Reset name)) c i f timely l =
        let e : n ≡ name = same_is n name i in
        let named : m.named b.version name ≡ m.named a.version name = ap (λ z. m.named z name) (sym l.version) in
        let l' : Local name a b = subst (λ z. Local z a b) e l in
        subst (λ z. ((stepped a (Some (play.Reset name))).0 ≡ (stepped b (Some (play.Reset name))).0) × Local z (stepped a (Some (play.Reset name))).1 (stepped b (Some (play.Reset name))).1) (sym e)
        (subst (λ o. ((stepped a (Some (play.Reset name))).0 ≡ (reset_step b name o).0) × Local name (stepped a (Some (play.Reset name))).1 (reset_step b name o).1) (sym named) (own_reset a b name (m.named a.version name) l'))

    -- a play of another task leaves what the task sees
    other_held : (r : CycleReply) (k n : List ℕ) (f : List ℕ → Bool) → same k n ≡ false → held_after r k f n ≡ f n
    other_held (reply.Done ticks outputs) k n f e = refl
    other_held (reply.Fault fault) k n f e = ap (λ z. z || f n) e

    other_cycle : (a : OneState W) (n k : List ℕ) (now : ℕ) (input : List ℕ) (o : Option ℕ) (h : Bool) → Apart plays m a.version phase → m.named a.version k ≡ o → Cycles plays phase k → same k n ≡ false → Local n a (cycle_step a k now input o h).1
    other_cycle a n k now input None h apart e c s = record { version = refl; since = refl; held = refl; agree = λ d t i r x. refl }
    other_cycle a n k now input (Some u) true apart e c s = record { version = refl; since = refl; held = refl; agree = λ d t i r x. refl }
    other_cycle a n k now input (Some u) false apart e c s = record {
      version = refl;
      since = refl;
      held = sym (other_held (m.reply_of a.version u now input a.store) k n a.held s);
      agree = λ d t i r x. sym ((frames.elsewhere a.version u now input a.store).1 r (λ w. apart k n u t r c d (λ j. true_false (same k n) (ap (same k) (sym j) ∙ is_same k) s) e i w x));
    }

    other_reset : (a : OneState W) (n k : List ℕ) (o : Option ℕ) → same k n ≡ false → Local n a (reset_step a k o).1
    other_reset a n k None s = record { version = refl; since = refl; held = refl; agree = λ d t i r x. refl }
    other_reset a n k (Some u) s = record { version = refl; since = refl; held = sym (ap (λ z. not z && a.held n) s); agree = λ d t i r x. refl }

    other : (a : OneState W) (n : List ℕ) (o : Option Play) → Apart plays m a.version phase → ((k : List ℕ) (now : ℕ) (input : List ℕ) → o ≡ Some (play.Cycle k now input) → Cycles plays phase k) → is_in (task_named n) o ≡ false → Local n a (stepped a o).1
    other a n None apart c i = record { version = refl; since = refl; held = refl; agree = λ d t i r x. refl }
    other a n (Some (play.Change name source)) apart c i = record { version = refl; since = refl; held = refl; agree = λ d t i r x. refl }
    other a n (Some (play.Cycle name now input)) apart c i = other_cycle a n name now input (m.named a.version name) (a.held name) apart refl (c name now input refl) (flipped n name i)
    other a n (Some (play.Reset name)) apart c i = other_reset a n name (m.named a.version name) (flipped n name i)

    pub then_local : (n : List ℕ) (a b c : OneState W) → Local n a b → Local n b c → Local n a c
    then_local n a b c l k = record {
      version = l.version ∙ k.version;
      since = l.since ∙ k.since;
      held = l.held ∙ k.held;
      agree = λ d t e r h. l.agree d t e r h ∙ k.agree d t (sym (ap (λ z. m.named z n) l.version) ∙ e) r (subst (λ z. Has (m.reads z t) r) l.version h);
    }

    pub back_local : (n : List ℕ) (a b : OneState W) → Local n a b → Local n b a
    back_local n a b l = record {
      version = sym l.version;
      since = sym l.since;
      held = sym l.held;
      agree = λ d t e r h. sym (l.agree d t (ap (λ z. m.named z n) l.version ∙ e) r (subst (λ z. Has (m.reads z t) r) (sym l.version) h));
    }

    -- ---- a whole phase

    abbrev pub InPhase : List ℕ → Type 0
    InPhase [] = Unit {0}
    InPhase (n ∷ ns) = (phase.0 ≤ n) × (n < phase.1) × InPhase ns

    abbrev pub AreTimely : Type 0
    AreTimely = (n : ℕ) → IsTimely (play_numbered plays n)

    pub cycle_of : (p : ℕ) (o : Option Play) → play_numbered plays p ≡ o → phase.0 ≤ p → p < phase.1 → (k : List ℕ) (now : ℕ) (input : List ℕ) → o ≡ Some (play.Cycle k now input) → Cycles plays phase k
    cycle_of p o e l h k now input i = record { number = p; low = l; high = h; now = now; input = input; is = e ∙ i }

    pub record LaneIs (n : List ℕ) (es : List Entry) (end : OneState W) (alone : List Entry × OneState W) : Type 0 where
      pub entries : filter (entry_in plays (task_named n)) es ≡ alone.0
      pub local : Local n end alone.1

    -- the entries of a task are those of its plays alone
    pub lane_alone : (n : List ℕ) (ns : List ℕ) (a b : OneState W) → AreTimely → InPhase ns → Apart plays m a.version phase → IsFine a → Local n a b
        → LaneIs n (ran a ns).0 (ran a ns).1 (ran b (filter (in_lane plays (task_named n)) ns))
    lane_alone n [] a b timely inside apart f l = record { entries = refl; local = l }
    lane_alone n (p ∷ ns) a b timely inside apart f l =
        let k = keeps a (play_numbered plays p) f (timely p) in
        let apart' : Apart plays m (stepped a (play_numbered plays p)).1.version phase = subst (λ z. Apart plays m z phase) (sym k.version) apart in
        by (in_lane plays (task_named n) p) refl (λ c h. lane_alone n ns (stepped a (play_numbered plays p)).1 c timely inside.2 apart' k.fine h)
      where
        by : (x : Bool) → in_lane plays (task_named n) p ≡ x → ((c : OneState W) → Local n (after_play a p) c → LaneIs n (ran (after_play a p) ns).0 (ran (after_play a p) ns).1 (ran c (filter (in_lane plays (task_named n)) ns)))
            → LaneIs n (ran a (p ∷ ns)).0 (ran a (p ∷ ns)).1 (ran b (if x then p ∷ filter (in_lane plays (task_named n)) ns else filter (in_lane plays (task_named n)) ns))
        by true q rest =
            let x = own a b n (play_numbered plays p) (λ now input i. cycle_of p (play_numbered plays p) refl inside.0 inside.1 n now input i) q f (timely p) l in
            let r = rest (stepped b (play_numbered plays p)).1 x.1 in
            let first : entry (m.number a.version) p (stepped a (play_numbered plays p)).0 ≡ entry (m.number b.version) p (stepped b (play_numbered plays p)).0 =
            ap (λ z. entry (m.number z) p (stepped a (play_numbered plays p)).0) l.version ∙ ap (λ z. entry (m.number b.version) p z) x.0 in
            record {
              entries =
                  ap (λ z. if z then entry (m.number a.version) p (stepped a (play_numbered plays p)).0 ∷ filter (entry_in plays (task_named n)) (ran (after_play a p) ns).0 else filter (entry_in plays (task_named n)) (ran (after_play a p) ns).0) q
                  ∙ (ap (λ z. z ∷ filter (entry_in plays (task_named n)) (ran (after_play a p) ns).0) first ∙ ap (λ z. entry (m.number b.version) p (stepped b (play_numbered plays p)).0 ∷ z) r.entries);
              local = r.local;
            }
        by false q rest =
            let o = other a n (play_numbered plays p) apart (λ k now input i. cycle_of p (play_numbered plays p) refl inside.0 inside.1 k now input i) q in
            let r = rest b (then_local n (after_play a p) a b (back_local n a (after_play a p) o) l) in
            record {
              entries = ap (λ z. if z then entry (m.number a.version) p (stepped a (play_numbered plays p)).0 ∷ filter (entry_in plays (task_named n)) (ran (after_play a p) ns).0 else filter (entry_in plays (task_named n)) (ran (after_play a p) ns).0) q ∙ r.entries;
              local = r.local;
            }
