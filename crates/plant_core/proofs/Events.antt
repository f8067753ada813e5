-- Each other event keeps what a core keeps.
use Rattle.std.proofs.Common.{◌≡◌, ℕ, zero, suc, List, [], ◌∷◌, ◌++◌, length, None, Some, Option, Bool, true, slice_set, slice_index_or, refl, sym, ap, ◌∙◌, subst, inr, arith, length-set, length-append}
use Rattle.std.proofs.lemmas.Option.{slice_get_within}
use Rattle.cycle_journal.specs.declared.entry.Answer.{Answer}
use Rattle.cycle_journal.specs.declared.entry.Answer.TheVariants as answer
use Rattle.cycle_journal.specs.declared.entry.Entry.{Entry}
use Rattle.plc_text.specs.declared.refusal.Refusal.{Refusal}
use Rattle.plant_rules.specs.Meaning.{Contents, Meaning, Frames, bytes_at}
use Rattle.plant_rules.specs.Next.{AllKits}
use Rattle.plant_rules.specs.One.{since_by}
use Rattle.plant_rules.specs.History.{Past, Script, answered, wanted, quieted, changed, resumed, denied, reset, State, idle, open_by, done, Turn, free, wanted_by, under_way, stage_at, with_stage, at_play, task_of, is_change, entry, loaded_by, held_with, IsOpen, Follows, state_of, with_event}
use Rattle.plant_rules.proofs.plant_history.Running.{with_other, idle_done, reset_not_change}
use Rattle.plant_core.specs.play_order.Progress.{marked}
use Rattle.plant_core.specs.declared.stage.Status.TheVariants.{Done}
use Rattle.plant_core.specs.declared.stage.Ongoing.{Ongoing}
use Rattle.plant_core.specs.declared.stage.Ongoing.TheVariants as ongoing
use Rattle.plant_core.specs.Stage.{turn_of, events_made}
use Rattle.plant_core.specs.Private.Tasks.{AreHeld, AreFree, AreRenewed}
use Rattle.plant_core.specs.Private.Keeping.{Fields, AtHome, IsHome, IsSpare, Holds, Fixed, Kept}
use Rattle.plant_core.proofs.Stages.{done_marked, room_to, room_turn, same_done, same_all, altered, Turning, turning_free, holds_same, home_on, spare_on, kept_event}
use Rattle.plant_core.proofs.CycleLaws.{status_done}

-- the play has its entry now
abbrev pub noted_fields : {W K : Type 0} → Fields W K → ℕ → Entry → Fields W K
noted_fields f p e = record f { status = slice_set f.status p Done; progress = marked f.progress p; entries = f.entries ++ e ∷ [] }

wanted_same : (p w q w' : ℕ) → wanted_by p w ≡ wanted_by q w' → q ≡ p
wanted_same p w q w' e = cc

wanted_away : (p w q w' : ℕ) (c : Contents) → wanted_by p w ≡ under_way q w' c → ⊥
wanted_away p w q w' c e = cc

away_wanted : (p w q w' : ℕ) (c : Contents) → under_way p w c ≡ wanted_by q w' → ⊥
away_wanted p w q w' c e = cc

away_same : (p w q w' : ℕ) (c d : Contents) → under_way p w c ≡ under_way q w' d → (q ≡ p) × (d ≡ c)
away_same p w q w' c d e = (cc, cc)

entries_more : (es es' : List Entry) (v v' : ℕ) (p : ℕ) (a : Answer) → es ≡ es' → v ≡ v' → es ++ entry v p a ∷ [] ≡ es' ++ entry v' p a ∷ []
entries_more es es' v v' p a e i = cc

same_bytes : (a b : Contents) → length a ≡ length b → ((r : ℕ) → bytes_at a r ≡ bytes_at b r) → a ≡ b
same_bytes [] [] e f = refl
same_bytes [] (y ∷ ys) e f = absurd (omega (arith, e))
same_bytes (x ∷ xs) [] e f = absurd (omega (arith, e))
same_bytes (x ∷ xs) (y ∷ ys) e f = let h = same_bytes xs ys (omega (arith, e)) (λ r. f (suc r)) in let g : x ≡ y = f zero in cc

fixed_noted : {W K : Type 0} (m : Meaning W) (script : Script) (f f' : Fields W K) (p : ℕ) → f'.progress.script ≡ f.progress.script → f'.status ≡ slice_set f.status p Done → Fixed m script f → Fixed m script f'
fixed_noted m script f f' p e i k = record { script-is = e ∙ k.script-is; status-all = ap length i ∙ (length-set f.status p Done ∙ k.status-all); inputs = k.inputs }

module _ {W K : Type 0} (good : W → ℕ → K → Type 0) (m : Meaning W) (frames : Frames m) where
  -- an entry that changes nothing else
  pub kept_answered : (f : Fields W K) (v : Past W) (w p n : ℕ) (a : Answer) → Kept f good m v → n ≡ m.number (state_of m v).version
      → Follows m v.script (state_of m v) w p (answered a) → Kept (noted_fields f p (entry n p a)) good m (with_event v w p (answered a))
  kept_answered f v w p n a k num follows =
      let s = state_of m v in
      let gs = with_stage s.stages p done in
      let es = s.entries ++ entry (m.number s.version) p a ∷ [] in
      let f' = noted_fields f p (entry n p a) in
      let is = follows.0.idle-is in
      let same = same_done s.stages p is in
      let h = k.holds in
      kept_event f f' good m v w p (answered a) k follows
      (holds_same m v.script good s gs s.turn s.held es f f' same (turning_free m v.script (altered m v.script s gs s.turn s.held es) follows.1) h refl refl refl refl
      (spare_on m v.script s gs s.held es s.turn f.for_change f.nothing h.spare-is)
      (home_on m v.script s gs s.held es s.turn f.home same h.home-is)
      (status_done f.status s.stages p h.stages-are) (done_marked s.stages p f.progress.done h.done-are) h.turn-is h.held-are (entries_more f.entries s.entries n (m.number s.version) p a h.entries-are num))
      (fixed_noted m v.script f f' p refl refl k.fixed)
      (rw length-append (room_to s.stages s.turn s.turn p idle done 1 (length f.entries) f.entry_room (length v.history) f.event_room is idle_done (omega arith) (omega arith) k.room))

  -- ---- changes and resets

  spare_with : (s : State W) (script : Script) (u : Turn) (o : Option W) (e : Option Contents) → s.turn ≡ u → IsSpare m script s s.turn o e → IsSpare m script s u o e
  spare_with s script u o e i k = subst (λ (z : Turn). IsSpare m script s z o e) i k

  home_with : (s : State W) (script : Script) (u : Turn) (home : Contents) → s.turn ≡ u → IsHome m script s s.turn home → IsHome m script s u home
  home_with s script u home e k = subst (λ (z : Turn). IsHome m script s z home) e k

  pub kept_wanted : (f : Fields W K) (v : Past W) (w p : ℕ) (ver : W) → Kept f good m v → Follows m v.script (state_of m v) w p (wanted ver)
      → Kept (record f { ongoing = ongoing.Wanted p w }) good m (with_event v w p (wanted ver))
  kept_wanted f v w p ver k follows =
      let s = state_of m v in
      let u = wanted_by p w in
      let f' = record f { ongoing = ongoing.Wanted p w } in
      let h = k.holds in
      let same = same_all s.stages in
      let turning : Turning m v.script (altered m v.script s s.stages u s.held s.entries) = record {
        waits = λ q w' e. let i = wanted_same p w q w' e in (subst (λ (z : ℕ). stage_at s.stages z ≡ idle) (sym i) follows.0.idle-is, subst (λ (z : ℕ). is_change (at_play m v.script z) ≡ true) (sym i) follows.2);
        changes = λ q w' c e. absurd (wanted_away p w q w' c e);
      } in
      let made : events_made s.turn ≡ 0 = ap events_made follows.1 in
      kept_event f f' good m v w p (wanted ver) k follows
      (holds_same m v.script good s s.stages u s.held s.entries f f' same turning h refl refl refl refl
      (spare_on m v.script s s.stages s.held s.entries u f.for_change f.nothing (spare_with s v.script free f.for_change f.nothing follows.1 h.spare-is))
      (home_on m v.script s s.stages s.held s.entries u f.home same (home_with s v.script free f.home follows.1 h.home-is))
      h.stages-are h.done-are refl h.held-are h.entries-are)
      record { script-is = k.fixed.script-is; status-all = k.fixed.status-all; inputs = k.fixed.inputs }
      (room_turn s.stages s.turn u (length f.entries) f.entry_room (length v.history) f.event_room (omega (arith, made)) k.room)

  pub kept_denied : (f : Fields W K) (v : Past W) (w p n : ℕ) (a : Answer) → Kept f good m v → n ≡ m.number (state_of m v).version → Follows m v.script (state_of m v) w p (denied a)
      → Kept (record (noted_fields f p (entry n p a)) { ongoing = ongoing.Free }) good m (with_event v w p (denied a))
  kept_denied f v w p n a k num follows =
      let s = state_of m v in
      let gs = with_stage s.stages p done in
      let es = s.entries ++ entry (m.number s.version) p a ∷ [] in
      let f' = record (noted_fields f p (entry n p a)) { ongoing = ongoing.Free } in
      let h = k.holds in
      let is = (h.sound.waits p w follows.0).0 in
      let same = same_done s.stages p is in
      let made : events_made s.turn ≡ 1 = ap events_made follows.0 in
      kept_event f f' good m v w p (denied a) k follows
      (holds_same m v.script good s gs free s.held es f f' same (turning_free m v.script (altered m v.script s gs free s.held es) refl) h refl refl refl refl
      (spare_on m v.script s gs s.held es free f.for_change f.nothing (spare_with s v.script (wanted_by p w) f.for_change f.nothing follows.0 h.spare-is))
      (home_on m v.script s gs s.held es free f.home same (home_with s v.script (wanted_by p w) f.home follows.0 h.home-is))
      (status_done f.status s.stages p h.stages-are) (done_marked s.stages p f.progress.done h.done-are) refl h.held-are (entries_more f.entries s.entries n (m.number s.version) p a h.entries-are num))
      (fixed_noted m v.script f f' p refl refl k.fixed)
      (rw length-append (room_to s.stages s.turn free p idle done 1 (length f.entries) f.entry_room (length v.history) f.event_room is idle_done (omega arith) (omega (arith, made)) k.room))

  pub kept_reset : (f : Fields W K) (v : Past W) (w p n : ℕ) (a : Answer) (held : List Bool) → Kept f good m v → n ≡ m.number (state_of m v).version → Follows m v.script (state_of m v) w p (reset a)
      → AreHeld f.progress.names held (held_with m v.script a (task_of (at_play m v.script p)) (state_of m v).held)
      → Kept (record (noted_fields f p (entry n p a)) { held = held }) good m (with_event v w p (reset a))
  kept_reset f v w p n a held k num follows held-is =
      let s = state_of m v in
      let gs = with_stage s.stages p done in
      let es = s.entries ++ entry (m.number s.version) p a ∷ [] in
      let hs = held_with m v.script a (task_of (at_play m v.script p)) s.held in
      let f' = record (noted_fields f p (entry n p a)) { held = held } in
      let h = k.holds in
      let is = follows.0.idle-is in
      let same = same_done s.stages p is in
      let other = λ (q : ℕ) (c : is_change (at_play m v.script q) ≡ true). with_other s.stages p q done (λ i. reset_not_change (at_play m v.script p) follows.1 (subst (λ (z : ℕ). is_change (at_play m v.script z) ≡ true) i c)) in
      let turning : Turning m v.script (altered m v.script s gs s.turn hs es) = record {
        waits = λ q w' e. let o = h.sound.waits q w' e in (other q o.1 ∙ o.0, o.1);
        changes = λ q w' c e. let o = h.sound.changes q w' c e in (other q o.1 ∙ o.0, o.1, o.2, λ t x. o.3 t record { play = x.play; who = x.who; contents = x.contents; is = same.back x.play x.who t x.contents x.is });
      } in
      kept_event f f' good m v w p (reset a) k follows
      (holds_same m v.script good s gs s.turn hs es f f' same turning h refl refl refl refl
      (spare_on m v.script s gs hs es s.turn f.for_change f.nothing h.spare-is)
      (home_on m v.script s gs hs es s.turn f.home same h.home-is)
      (status_done f.status s.stages p h.stages-are) (done_marked s.stages p f.progress.done h.done-are) h.turn-is held-is (entries_more f.entries s.entries n (m.number s.version) p a h.entries-are num))
      (fixed_noted m v.script f f' p refl refl k.fixed)
      (rw length-append (room_to s.stages s.turn s.turn p idle done 1 (length f.entries) f.entry_room (length v.history) f.event_room is idle_done (omega arith) (omega arith) k.room))

  -- where no cycle is open, what is at home is the store
  pub all_home : (f : Fields W K) (v : Past W) (w p : ℕ) → Kept f good m v → (state_of m v).turn ≡ wanted_by p w → ((t : ℕ) → IsOpen m v.script (state_of m v) t → ⊥) → f.home ≡ (state_of m v).store
  all_home f v w p k e none-open =
      let s = state_of m v in
      let home = home_with s v.script (wanted_by p w) f.home e k.holds.home-is in
      same_bytes f.home s.store (home.total ∙ sym k.holds.sound.whole.0) (λ r. home.here r (λ x. none-open x.task x.by))

  pub kept_quieted : (f : Fields W K) (v : Past W) (w p : ℕ) (c : Contents) (o : Ongoing) → Kept f good m v → turn_of o ≡ under_way p w c → Follows m v.script (state_of m v) w p (quieted c)
      → Kept (record f { for_change = None; home = []; nothing = None; ongoing = o }) good m (with_event v w p (quieted c))
  kept_quieted f v w p c o k is follows =
      let s = state_of m v in
      let u = under_way p w c in
      let f' = record f { for_change = None; home = []; nothing = None; ongoing = o } in
      let h = k.holds in
      let same = same_all s.stages in
      let was = h.sound.waits p w follows.0 in
      let turning : Turning m v.script (altered m v.script s s.stages u s.held s.entries) = record {
        waits = λ q w' e. absurd (away_wanted p w q w' c e);
        changes = λ q w' d e. let i = away_same p w q w' c d e in (
          subst (λ (z : ℕ). stage_at s.stages z ≡ idle) (sym i.0) was.0,
          subst (λ (z : ℕ). is_change (at_play m v.script z) ≡ true) (sym i.0) was.1,
          i.1 ∙ follows.2,
          λ t x. follows.1 t record { play = x.play; who = x.who; contents = x.contents; is = x.is },
        );
      } in
      let made : events_made s.turn ≡ 1 = ap events_made follows.0 in
      kept_event f f' good m v w p (quieted c) k follows
      (holds_same m v.script good s s.stages u s.held s.entries f f' same turning h refl refl refl refl tt refl h.stages-are h.done-are is h.held-are h.entries-are)
      record { script-is = k.fixed.script-is; status-all = k.fixed.status-all; inputs = k.fixed.inputs }
      (room_turn s.stages s.turn u (length f.entries) f.entry_room (length v.history) f.event_room (omega (arith, made)) k.room)

  pub kept_resumed : (f : Fields W K) (v : Past W) (w p n : ℕ) (r : Refusal) (of : W) (home' nothing' : Contents) → Kept f good m v → n ≡ m.number (state_of m v).version → of ≡ (state_of m v).version → home' ≡ (state_of m v).store → nothing' ≡ []
      → Follows m v.script (state_of m v) w p (resumed r)
      → Kept (record (noted_fields f p (entry n p (answer.Refused r))) { for_change = Some of; home = home'; nothing = Some nothing'; ongoing = ongoing.Free }) good m (with_event v w p (resumed r))
  kept_resumed f v w p n r of home' nothing' k num of-is home-is empty follows =
      let s = state_of m v in
      let gs = with_stage s.stages p done in
      let es = s.entries ++ entry (m.number s.version) p (answer.Refused r) ∷ [] in
      let f' = record (noted_fields f p (entry n p (answer.Refused r))) { for_change = Some of; home = home'; nothing = Some nothing'; ongoing = ongoing.Free } in
      let h = k.holds in
      let was = h.sound.changes p w follows.0 follows.1 in
      let is = was.0 in
      let same = same_done s.stages p is in
      let made : events_made s.turn ≡ 2 = ap events_made follows.1 in
      let home : AtHome m v.script (altered m v.script s gs free s.held es) home' = record {
        total = ap length home-is ∙ h.sound.whole.0;
        here = λ q out. ap (λ z. bytes_at z q) home-is;
        out = λ q x. absurd (was.3 x.task record { play = x.by.play; who = x.by.who; contents = x.by.contents; is = same.back x.by.play x.by.who x.task x.by.contents x.by.is });
      } in
      kept_event f f' good m v w p (resumed r) k follows
      (holds_same m v.script good s gs free s.held es f f' same (turning_free m v.script (altered m v.script s gs free s.held es) refl) h refl refl refl refl
      (ap Some of-is, ap Some empty) home
      (status_done f.status s.stages p h.stages-are) (done_marked s.stages p f.progress.done h.done-are) refl h.held-are (entries_more f.entries s.entries n (m.number s.version) p (answer.Refused r) h.entries-are num))
      (fixed_noted m v.script f f' p refl refl k.fixed)
      (rw length-append (room_to s.stages s.turn free p idle done 1 (length f.entries) f.entry_room (length v.history) f.event_room is idle_done (omega arith) (omega (arith, made)) k.room))

  pub kept_changed : (f : Fields W K) (v : Past W) (w p n n' : ℕ) (q : W) (d nothing' : Contents) (o : W) (kits : List (Option K)) (held : List Bool) (since : List ℕ) → Kept f good m v → n ≡ m.number (state_of m v).version → n' ≡ m.number q
      → o ≡ q → nothing' ≡ [] → AllKits kits (m.tasks q) (good q) → Follows m v.script (state_of m v) w p (changed q d)
      → AreFree f.held held (length held) → AreRenewed m f.progress.names (state_of m v).version q n' f.since since (length since)
      → Kept (record (noted_fields f p (entry n p (answer.Loaded n'))) { kits = kits; loaded = q; for_change = Some o; home = d; nothing = Some nothing'; ongoing = ongoing.Free; held = held; since = since }) good m (with_event v w p (changed q d))
  kept_changed f v w p n n' q d nothing' o kits held since k num num' spare empty all follows released renewed =
      let s = state_of m v in
      let gs = with_stage s.stages p done in
      let f' = record (noted_fields f p (entry n p (answer.Loaded n'))) { kits = kits; loaded = q; for_change = Some o; home = d; nothing = Some nothing'; ongoing = ongoing.Free; held = held; since = since } in
      let h = k.holds in
      let was = h.sound.changes p w follows.0 follows.1 in
      let is = was.0 in
      let same = same_done s.stages p is in
      let next = loaded_by m v.script s p q d in
      let none-open : (t : ℕ) → IsOpen m v.script next t → ⊥ = λ t x. was.3 t record { play = x.play; who = x.who; contents = x.contents; is = same.back x.play x.who t x.contents x.is } in
      let none-at : (p' w' t : ℕ) (c : Contents) → stage_at gs p' ≡ open_by w' t c → ⊥ = λ p' w' t c e. none-open t record { play = p'; who = w'; contents = c; is = e } in
      let comes = follows.2 in
      let whole = frames.next-whole s.version q comes.0 s.store d h.sound.right h.sound.whole comes.2 in
      let turning = turning_free m v.script next refl in
      let made : events_made s.turn ≡ 2 = ap events_made follows.1 in
      let few : length held ≡ length f.progress.names = released.same ∙ h.held-are.total in
      let many : length since ≡ length f.progress.names = renewed.same ∙ h.since-are.total in
      let holds : Holds m v.script f' good next = record {
        sound = record {
          right = frames.next-right s.version q comes.0 s.store d comes.2;
          whole = whole;
          below = λ t x. absurd (none-open t x);
          cycles = λ p' w' t c e. absurd (none-at p' w' t c e);
          agrees = λ p' w' t c e. absurd (none-at p' w' t c e);
          apart = λ p' w' t c p'' w'' t'' c'' e. absurd (none-at p' w' t c e);
          waits = turning.waits;
          changes = turning.changes;
        };
        loaded-is = refl;
        spare-is = (ap Some spare, ap Some empty);
        home-is = record { total = whole.0; here = λ r out. refl; out = λ r x. absurd (none-open x.task x.by) };
        stages-are = status_done f.status s.stages p h.stages-are;
        done-are = done_marked s.stages p f.progress.done h.done-are;
        turn-is = refl;
        held-are = record { total = few; each = λ j name at. let low = slice_get_within f.progress.names j name at in released.each j (omega (arith, low, few)) };
        since-are = record {
          total = many;
          each = λ j name at.
              let low = slice_get_within f.progress.names j name at in
              renewed.each j name (omega (arith, low, many)) at ∙ (ap (λ z. since_by (m.named q name) (m.named s.version name) z (slice_index_or f.since j 0)) num' ∙ ap (λ z. since_by (m.named q name) (m.named s.version name) (m.number q) z) (h.since-are.each j name at));
        };
        entries-are = entries_more f.entries s.entries n (m.number s.version) p (answer.Loaded n') h.entries-are num ∙ ap (λ z. s.entries ++ entry (m.number s.version) p (answer.Loaded z) ∷ []) num';
        kits-all = all.total;
        kits-are = λ t b. let x = all.each t b in inr (x.0, x.1, x.2, none-open t);
      } in
      kept_event f f' good m v w p (changed q d) k follows holds
      (fixed_noted m v.script f f' p refl refl k.fixed)
      (rw length-append (room_to s.stages s.turn free p idle done 1 (length f.entries) f.entry_room (length v.history) f.event_room is idle_done (omega arith) (omega (arith, made)) k.room))
