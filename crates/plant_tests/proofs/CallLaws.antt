-- A table goes on with every event of its core.
use Rattle.std.proofs.Common.{◌≡◌, ◌≤◌, ◌<◌, ◌+◌, ℕ, zero, suc, List, [], ◌∷◌, length, Option, Some, None, Result, Ok, replicate, slice_index_or, slice_get, slice_set, inl, inr, refl, sym, ap, ◌∙◌, subst, arith, length-set}
use Rattle.std.proofs.lemmas.List.{get_or-set_other, get_or-set_same, length-replicate}
use mathlib.Core.Logic.{dite}
use native.Mathlib.Decide.{ℕ_discrete}
use Rattle.std.specs.Map.{values_of}
use Rattle.plc_text.specs.declared.refusal.Refusal.{Refusal}
use Rattle.plc_text.specs.declared.denied.Denied.{Denied}
use Rattle.plc_text.specs.declared.denied.Denied.TheVariants as denial
use Rattle.cycle_journal.specs.declared.entry.Answer.{Answer}
use Rattle.cycle_journal.specs.declared.entry.CycleReply.{CycleReply}
use Rattle.cycle_journal.specs.declared.play.Play.{Play}
use Rattle.cycle_journal.specs.Interleaving.{Phase}
use Rattle.plant_rules.specs.Meaning.{Contents, Meaning, Frames, Whole}
use Rattle.plant_rules.specs.Denial.{OnRefused}
use Rattle.plant_rules.specs.History.{Past, Script, Step, Happening, answered, begun, finished, wanted, quieted, changed, resumed, denied, reset, Stage, idle, open_by, done, Turn, free, wanted_by, under_way, State, stage_at, source_of, at_play, finish_of, after, state_of, with_event, script_of, past, ComesTo, Denies, Legal}
use Rattle.plant_rules.specs.plant_history.Running.{HistoryLaws}
use Rattle.plant_rules.proofs.plant_history.AllLaws.{history_laws}
use Rattle.plant_rules.proofs.plant_history.Running.{idle_done, within, with_same, free_away, wanted_away}
use Rattle.plant_core.specs.declared.answers.Wish.{Wish}
use Rattle.plant_core.specs.declared.answers.ResetDone.{ResetDone}
use Rattle.plant_core.specs.declared.answers.ResetDone.TheVariants as resets
use Rattle.plant_core.specs.Answers.{play_of, denial_of, ResetAs}
use Rattle.plant_core.specs.Claim.{HasClaimed, HasRun}
use Rattle.plant_core.specs.Hub.{Sound}
use Rattle.plant_core.proofs.Stages.{state_more}
use Rattle.plant_tests.specs.Calls.{Taken, Drafted, drafted, Away, IsHeld, IsDrafted, IsAway, IsTable}

Some_is : {A : Type 0} (a b : A) → Some a ≡ Some b → a ≡ b
Some_is a b e = cc

None_Some : {A : Type 0} (a : A) → None ≡ Some a → ⊥
None_Some a e = cc

none_at : {A : Type 0} (n k : ℕ) (x : A) → slice_index_or (replicate n None) k None ≡ Some x → ⊥
none_at zero k x e = None_Some x e
none_at (suc n) zero x e = None_Some x e
none_at (suc n) (suc k) x e = none_at n k x e

-- an event that ends no claim
abbrev pub IsNoFinish : {W : Type 0} → Happening W → Type 0
IsNoFinish h = (r : CycleReply) → h ≡ finished r → ⊥

pub no_answered : {W : Type 0} (a : Answer) → IsNoFinish {W = W} (answered a)
no_answered a r e = cc

pub no_reset : {W : Type 0} (a : Answer) → IsNoFinish {W = W} (reset a)
no_reset a r e = cc

no_begun : {W : Type 0} (t : ℕ) (v : W) (c : Contents) → IsNoFinish {W = W} (begun t v c)
no_begun t v c r e = cc

no_wanted : {W : Type 0} (v : W) → IsNoFinish {W = W} (wanted v)
no_wanted v r e = cc

no_quieted : {W : Type 0} (c : Contents) → IsNoFinish {W = W} (quieted c)
no_quieted c r e = cc

no_changed : {W : Type 0} (v : W) (d : Contents) → IsNoFinish {W = W} (changed v d)
no_changed v d r e = cc

no_resumed : {W : Type 0} (x : Refusal) → IsNoFinish {W = W} (resumed x)
no_resumed x r e = cc

no_denied : {W : Type 0} (a : Answer) → IsNoFinish {W = W} (denied a)
no_denied a r e = cc

-- a play of what contracts see is one of the core
pub is_there : {W : Type 0} (v v0 : Past W) (p : ℕ) → v ≡ v0 → p ≤ length v0.script.plays → p ≤ length v.script.plays
is_there v v0 p e h = subst (λ (z : Past _). p ≤ length z.script.plays) (sym e) h

module _ {W : Type 0} (m : Meaning W) where
  finish_turn : (script : Script) (g : Stage) (s : State W) (p : ℕ) (r : CycleReply) → (finish_of m script g s p r).turn ≡ s.turn
  finish_turn script idle s p r = refl
  finish_turn script (open_by w t c) s p r = refl
  finish_turn script done s p r = refl

  finish_version : (script : Script) (g : Stage) (s : State W) (p : ℕ) (r : CycleReply) → (finish_of m script g s p r).version ≡ s.version
  finish_version script idle s p r = refl
  finish_version script (open_by w t c) s p r = refl
  finish_version script done s p r = refl

  turn_more : (v : Past W) (p : ℕ) (h : Happening W) → (state_of m (with_event v 0 p h)).turn ≡ (after m v.script (state_of m v) 0 p h).turn
  turn_more v p h = ap (λ (s : State W). s.turn) (state_more m v 0 p h)

  version_more : (v : Past W) (p : ℕ) (h : Happening W) → (state_of m (with_event v 0 p h)).version ≡ (after m v.script (state_of m v) 0 p h).version
  version_more v p h = ap (λ (s : State W). s.version) (state_more m v 0 p h)

  draft_stays : (script : Script) (s s' : State W) (d : Drafted W) → s'.version ≡ s.version → IsDrafted m script s d → IsDrafted m script s' d
  draft_stays script s s' d e k = record {
    text-is = k.text-is;
    low = subst (λ (z : W). m.number d.base ≤ m.number z) (sym e) k.low;
    same = λ i. k.same (i ∙ ap m.number e) ∙ sym e;
  }

  -- the next version has the next number
  draft_older : (script : Script) (s s' : State W) (d : Drafted W) → m.number s'.version ≡ m.number s.version + 1 → IsDrafted m script s d → IsDrafted m script s' d
  draft_older script s s' d e k =
      let low : m.number d.base ≤ m.number s.version = k.low in
      record { text-is = k.text-is; low = omega (arith, e, low); same = λ i. absurd (omega (arith, e, low, i)) }

  away_stays : (script : Script) (s s' : State W) (q : Away W) → s'.turn ≡ s.turn → s'.version ≡ s.version → IsAway m script s q → IsAway m script s' q
  away_stays script s s' q turn version k = record {
    under = turn ∙ (k.under ∙ ap (λ (u : Turn). under_way (play_of u) 0 q.regions) (sym turn));
    old-is = k.old-is ∙ sym version;
    base-is = k.base-is;
    text-is = ap (λ (u : Turn). source_of script.sources (at_play m script (play_of u))) turn ∙ k.text-is;
    whole = k.whole;
  }

  held_begun : (v : Past W) (p : ℕ) (c : Taken W) → HasClaimed m v.script (state_of m v) p c.task c.play c.now c.input c.of c.carrier → IsHeld m v.script (state_of m (with_event v 0 p (begun c.task c.of c.carrier))) p c
  held_begun v p c k =
      let here = within (state_of m v).stages p idle k.may.next.idle-is idle_done in
      record {
        play-is = k.play-is;
        run = record {
          open-is = ap (λ (s : State W). stage_at s.stages p) (state_more m v 0 p (begun c.task c.of c.carrier)) ∙ with_same (state_of m v).stages p (open_by 0 c.task c.carrier) here.0 here.1;
          of-is = k.of-is ∙ sym (version_more v p (begun c.task c.of c.carrier));
          below = k.below;
          now-is = k.now-is;
          input-is = k.input-is;
          timely = k.timely;
          reply-is = refl;
          left-is = refl;
          fits = k.fits;
          rest-out = k.rest-out;
          total = k.total;
        };
      }

  -- what a claim of the table has run to is what the core takes back
  pub ran_of : (script : Script) (s : State W) (p : ℕ) (c : Taken W) (p' t' now' : ℕ) (input' : List ℕ) (of' : W) (taken' : Contents) (reply' : CycleReply) (left' : Contents) → IsHeld m script s p c
      → p' ≡ c.play → t' ≡ c.task → now' ≡ c.now → input' ≡ c.input → of' ≡ c.of → taken' ≡ c.carrier → reply' ≡ m.reply_of c.of c.task c.now c.input c.carrier → left' ≡ m.left_by c.of c.task c.now c.input c.carrier
      → HasRun m script s 0 p' t' now' input' of' taken' reply' left'
  ran_of script s p c p' t' now' input' of' taken' reply' left' k e1 e2 e3 e4 e5 e6 e7 e8 = rw (e1, e2, e3, e4, e5, e6, e7, e8, k.play-is) k.run

  pub denies_in : (v v0 : Past W) (p q n : ℕ) (a : Answer) → v ≡ v0 → q ≡ p → (n ≡ m.number (state_of m v0).version → Denies m v0.script (state_of m v0) p a) → n ≡ m.number (state_of m v).version → Denies m v.script (state_of m v) q a
  denies_in v v0 p q n a e i h = subst (λ (z : Past W). n ≡ m.number (state_of m z).version → Denies m z.script (state_of m z) q a) (sym e) (subst (λ (x : ℕ). n ≡ m.number (state_of m v0).version → Denies m v0.script (state_of m v0) x a) (sym i) h)

  pub text_ready : (v v0 : Past W) (p n : ℕ) (names names' : List (List ℕ × List ℕ)) (text : List ℕ) → v ≡ v0 → ((sources : List (List ℕ)) → source_of sources (at_play m v0.script p) ≡ slice_get sources n) → values_of names ≡ v.script.sources
      → names' ≡ names → slice_get (values_of names') n ≡ Some text → source_of v.script.sources (at_play m v.script p) ≡ Some text
  text_ready v v0 p n names names' text e h are same at =
      let here : (sources : List (List ℕ)) → source_of sources (at_play m v.script p) ≡ slice_get sources n = subst (λ (z : Past W). (sources : List (List ℕ)) → source_of sources (at_play m z.script p) ≡ slice_get sources n) (sym e) h in
      let texts : v.script.sources ≡ values_of names' = sym are ∙ ap (λ (x : List (List ℕ × List ℕ)). values_of x) (sym same) in
      here v.script.sources ∙ (ap (λ (x : List (List ℕ)). slice_get x n) texts ∙ at)

  pub denied_by : (why : Denied) (w : W) (text : List ℕ) (script : Script) (s : State W) (p : ℕ) → OnRefused why (m.denied w text) → w ≡ s.version → source_of script.sources (at_play m script p) ≡ Some text → Denies m script s p (denial_of why)
  denied_by (denial.Refused r) w text script s p h e t = inl (text, r, t, subst (λ (z : W). m.denied z text r) e h, refl)
  denied_by denial.NoMemory w text script s p h e t = inr refl

  -- what a change of the table comes to on its contents is what it comes to in the core
  pub comes_of : (script : Script) (s : State W) (q : Away W) (r : Result (W × Contents) Refusal) → IsAway m script s q → Sound m script s → m.changed q.old q.text q.regions r → ComesTo m script s (play_of s.turn) r
  comes_of script s q r k sound h =
      let store : q.regions ≡ s.store = (sound.changes (play_of s.turn) 0 q.regions k.under).2 in
      (q.text, k.text-is, subst (λ (c : Contents). m.changed s.version q.text c r) store (subst (λ (w : W). m.changed w q.text q.regions r) k.old-is h))

module _ {W : Type 0} (m : Meaning W) (frames : Frames m) where
  pub next_number : (script : Script) (s : State W) (q : Away W) (x : W) (d : Contents) → IsAway m script s q → m.changed q.old q.text q.regions (Ok (x, d)) → m.number x ≡ m.number s.version + 1
  next_number script s q x d k h = frames.next-number q.old x q.text q.regions d h ∙ ap (λ (z : W). m.number z + 1) k.old-is

  -- a claim stays open until its own play is finished
  held_stays : (v : Past W) (p : ℕ) (h : Happening W) (q : ℕ) (c : Taken W) → m.right v.first → Legal m (with_event v 0 p h) → ((r : CycleReply) → p ≡ q → h ≡ finished r → ⊥) → IsHeld m v.script (state_of m v) q c
      → IsHeld m v.script (state_of m (with_event v 0 p h)) q c
  held_stays v p h q c right legal out k =
      let laws : HistoryLaws m = history_laws m frames in
      let more : List (Step W) = record { who = 0; play = p; what = h } ∷ [] in
      let e = laws.stays-open v more 0 q c.task c.carrier right legal k.run.open-is ((λ r w i j. out r i j), tt) in
      record {
        play-is = k.play-is;
        run = record {
          open-is = e.0;
          of-is = k.run.of-is ∙ sym e.1;
          below = k.run.below;
          now-is = k.run.now-is;
          input-is = k.run.input-is;
          timely = k.run.timely;
          reply-is = k.run.reply-is;
          left-is = k.run.left-is;
          fits = k.run.fits;
          rest-out = k.run.rest-out;
          total = k.run.total;
        };
      }

  module _ {C D Q : Type 0} {plays : List Play} {sources : List (List ℕ)} {claim_of : C → Taken W} {ready : C → Type 0} {draft_of : D → Drafted W} {fresh : D → Type 0} {away_of : Q → Away W} {unused : Q → Type 0} where
    -- nothing happened
    pub same : (v v' : Past W) (claims : List (Option C)) (wish : Option Wish) (draft : Option D) (quiet : Option Q)
        → v' ≡ v → IsTable m v plays sources claims claim_of ready wish draft draft_of fresh quiet away_of unused
        → IsTable m v' plays sources claims claim_of ready wish draft draft_of fresh quiet away_of unused
    same v v' claims wish draft quiet e k = subst (λ (z : Past W). IsTable m z plays sources claims claim_of ready wish draft draft_of fresh quiet away_of unused) (sym e) k

    -- some of what was handed out is given up
    pub less : (v : Past W) (claims : List (Option C)) (wish : Option Wish) (draft : Option D) (quiet : Option Q) (wish' : Option Wish) (draft' : Option D) (quiet' : Option Q)
        → ((w : Wish) → wish' ≡ Some w → wish ≡ Some w) → ((d : D) → draft' ≡ Some d → draft ≡ Some d) → ((q : Q) → quiet' ≡ Some q → quiet ≡ Some q) → IsTable m v plays sources claims claim_of ready wish draft draft_of fresh quiet away_of unused
        → IsTable m v plays sources claims claim_of ready wish' draft' draft_of fresh quiet' away_of unused
    less v claims wish draft quiet wish' draft' quiet' a b c k = record { right = k.right; plays-are = k.plays-are; sources-are = k.sources-are; total = k.total; claims-are = k.claims-are; wish-is = λ w i. k.wish-is w (a w i); draft-is = λ d i. k.draft-is d (b d i); quiet-is = λ q i. k.quiet-is q (c q i) }

    -- what was handed out is given up, one or two at a time
    pub no_draft : (v : Past W) (claims : List (Option C)) (wish : Option Wish) (draft : Option D) (quiet : Option Q) → IsTable m v plays sources claims claim_of ready wish draft draft_of fresh quiet away_of unused
        → IsTable m v plays sources claims claim_of ready wish None draft_of fresh quiet away_of unused
    no_draft v claims wish draft quiet k = less v claims wish draft quiet wish None quiet (λ w i. i) (λ d i. absurd (None_Some d i)) (λ q i. i) k

    pub no_wish : (v : Past W) (claims : List (Option C)) (wish : Option Wish) (draft : Option D) (quiet : Option Q) → IsTable m v plays sources claims claim_of ready wish draft draft_of fresh quiet away_of unused
        → IsTable m v plays sources claims claim_of ready None draft draft_of fresh quiet away_of unused
    no_wish v claims wish draft quiet k = less v claims wish draft quiet None draft quiet (λ w i. absurd (None_Some w i)) (λ d i. i) (λ q i. i) k

    -- the wish came back
    pub wish_kept : (v v' : Past W) (claims : List (Option C)) (wish : Option Wish) (draft : Option D) (quiet : Option Q) (w : Wish)
        → v' ≡ v → Some w ≡ wish → IsTable m v plays sources claims claim_of ready wish draft draft_of fresh quiet away_of unused
        → IsTable m v' plays sources claims claim_of ready (Some w) draft draft_of fresh quiet away_of unused
    wish_kept v v' claims wish draft quiet w e i k = same v v' claims (Some w) draft quiet e (less v claims wish draft quiet (Some w) draft quiet (λ w' j. sym i ∙ j) (λ d j. j) (λ q j. j) k)

    -- a new table
    pub began_empty : (v : Past W) (n : ℕ)
        → m.right v.first → plays ≡ v.script.plays → sources ≡ v.script.sources → n ≡ length plays + 1
        → IsTable m v plays sources (replicate n None) claim_of ready None None draft_of fresh None away_of unused
    began_empty v n right p s e = record { right = right; plays-are = p; sources-are = s; total = length-replicate n None ∙ e; claims-are = λ q c i. absurd (none_at n q c i); wish-is = λ w i. absurd (None_Some w i); draft-is = λ d i. absurd (None_Some d i); quiet-is = λ q i. absurd (None_Some q i) }

    -- of what a new core is made
    pub new_table : (v : Past W) (items : List (Option C)) (n : ℕ) (first : W) (contents : Contents) (ours : List Play) (texts : List (List ℕ)) (phases : List Phase)
        → v ≡ past first contents (script_of ours texts phases) [] → items ≡ replicate n None → n ≡ length plays + 1 → m.right first → ours ≡ plays → texts ≡ sources
        → IsTable m v plays sources items claim_of ready None None draft_of fresh None away_of unused
    new_table v items n first contents ours texts phases e i size right p s = subst (λ (z : Past W). IsTable m z plays sources items claim_of ready None None draft_of fresh None away_of unused) (sym e) (subst (λ (xs : List (Option C)). IsTable m (past first contents (script_of ours texts phases) []) plays sources xs claim_of ready None None draft_of fresh None away_of unused) (sym i) (began_empty (past first contents (script_of ours texts phases) []) n right (sym p) (sym s) size))

    -- an event of another play, or of none that was handed out
    pub calm : (v v' : Past W) (p : ℕ) (h : Happening W) (claims : List (Option C)) (wish : Option Wish) (draft : Option D) (quiet : Option Q)
        → v' ≡ with_event v 0 p h → Legal m v' → (after m v.script (state_of m v) 0 p h).turn ≡ (state_of m v).turn → (after m v.script (state_of m v) 0 p h).version ≡ (state_of m v).version → IsNoFinish h → IsTable m v plays sources claims claim_of ready wish draft draft_of fresh quiet away_of unused
        → IsTable m v' plays sources claims claim_of ready wish draft draft_of fresh quiet away_of unused
    calm v v' p h claims wish draft quiet e legal turn version out k =
        let l : Legal m (with_event v 0 p h) = subst (λ (z : Past W). Legal m z) e legal in
        let turn' = turn_more m v p h in
        let version' = version_more m v p h in
        subst (λ (z : Past W). IsTable m z plays sources claims claim_of ready wish draft draft_of fresh quiet away_of unused) (sym e)
        (record {
          right = k.right;
          plays-are = k.plays-are;
          sources-are = k.sources-are;
          total = k.total;
          claims-are = λ n' c i. let had = k.claims-are n' c i in (held_stays v p h n' (claim_of c) k.right l (λ r i' j. out r j) had.0, had.1);
          wish-is = λ w i. (turn' ∙ turn) ∙ k.wish-is w i;
          draft-is = λ d i. let had = k.draft-is d i in (draft_stays m v.script (state_of m v) (state_of m (with_event v 0 p h)) (draft_of d) (version' ∙ version) had.0, had.1);
          quiet-is = λ q i. let had = k.quiet-is q i in (away_stays m v.script (state_of m v) (state_of m (with_event v 0 p h)) (away_of q) (turn' ∙ turn) (version' ∙ version) had.0, had.1);
        })

    -- a claim began
    pub began : (v v' : Past W) (p : ℕ) (c : C) (claims : List (Option C)) (wish : Option Wish) (draft : Option D) (quiet : Option Q)
        → v' ≡ with_event v 0 p (begun (claim_of c).task (claim_of c).of (claim_of c).carrier) → Legal m v' → p < length claims → HasClaimed m v.script (state_of m v) p (claim_of c).task (claim_of c).play (claim_of c).now (claim_of c).input (claim_of c).of (claim_of c).carrier → ready c → IsTable m v plays sources claims claim_of ready wish draft draft_of fresh quiet away_of unused
        → IsTable m v' plays sources (slice_set claims p (Some c)) claim_of ready wish draft draft_of fresh quiet away_of unused
    began v v' p c claims wish draft quiet e legal low claimed ok k =
        let l : Legal m (with_event v 0 p (begun (claim_of c).task (claim_of c).of (claim_of c).carrier)) = subst (λ (z : Past W). Legal m z) e legal in
        let turn' = turn_more m v p (begun (claim_of c).task (claim_of c).of (claim_of c).carrier) in
        let version' = version_more m v p (begun (claim_of c).task (claim_of c).of (claim_of c).carrier) in
        let no = no_begun (claim_of c).task (claim_of c).of (claim_of c).carrier in
        subst (λ (z : Past W). IsTable m z plays sources (slice_set claims p (Some c)) claim_of ready wish draft draft_of fresh quiet away_of unused) (sym e)
        (record {
          right = k.right;
          plays-are = k.plays-are;
          sources-are = k.sources-are;
          total = length-set claims p (Some c) ∙ k.total;
          claims-are = λ q c' i. dite (ℕ_discrete q p)
              (λ j. let is = Some_is c c' (sym (get_or-set_same claims p (Some c) None low) ∙ (ap (λ (n : ℕ). slice_index_or (slice_set claims p (Some c)) n None) (sym j) ∙ i)) in
              subst (λ (x : C). IsHeld m v.script (state_of m (with_event v 0 p (begun (claim_of c).task (claim_of c).of (claim_of c).carrier))) q (claim_of x) × ready x) is
              (subst (λ (n : ℕ). IsHeld m v.script (state_of m (with_event v 0 p (begun (claim_of c).task (claim_of c).of (claim_of c).carrier))) n (claim_of c)) (sym j) (held_begun m v p (claim_of c) claimed), ok))
              (λ ne. let had = k.claims-are q c' (sym (get_or-set_other claims p q (Some c) None ne) ∙ i) in (held_stays v p (begun (claim_of c).task (claim_of c).of (claim_of c).carrier) q (claim_of c') k.right l (λ r i' j. no r j) had.0, had.1));
          wish-is = λ w i. turn' ∙ k.wish-is w i;
          draft-is = λ d i. let had = k.draft-is d i in (draft_stays m v.script (state_of m v) (state_of m (with_event v 0 p (begun (claim_of c).task (claim_of c).of (claim_of c).carrier))) (draft_of d) version' had.0, had.1);
          quiet-is = λ q i. let had = k.quiet-is q i in (away_stays m v.script (state_of m v) (state_of m (with_event v 0 p (begun (claim_of c).task (claim_of c).of (claim_of c).carrier))) (away_of q) turn' version' had.0, had.1);
        })

    -- a claim ended
    pub ended : (v v' : Past W) (p : ℕ) (r : CycleReply) (c : C) (n : ℕ) (claims : List (Option C)) (wish : Option Wish) (draft : Option D) (quiet : Option Q)
        → v' ≡ with_event v 0 p (finished r) → Legal m v' → n < length claims → slice_index_or claims n None ≡ Some c → p ≡ (claim_of c).play → IsTable m v plays sources claims claim_of ready wish draft draft_of fresh quiet away_of unused
        → IsTable m v' plays sources (slice_set claims n None) claim_of ready wish draft draft_of fresh quiet away_of unused
    ended v v' p r c n claims wish draft quiet e legal low there of k =
        let l : Legal m (with_event v 0 p (finished r)) = subst (λ (z : Past W). Legal m z) e legal in
        let turn' = turn_more m v p (finished r) in
        let version' = version_more m v p (finished r) in
        let own : p ≡ n = of ∙ (k.claims-are n c there).0.play-is in
        let turn = finish_turn m v.script (stage_at (state_of m v).stages p) (state_of m v) p r in
        let version = finish_version m v.script (stage_at (state_of m v).stages p) (state_of m v) p r in
        subst (λ (z : Past W). IsTable m z plays sources (slice_set claims n None) claim_of ready wish draft draft_of fresh quiet away_of unused) (sym e)
        (record {
          right = k.right;
          plays-are = k.plays-are;
          sources-are = k.sources-are;
          total = length-set claims n None ∙ k.total;
          claims-are = λ q c' i. dite (ℕ_discrete q n)
              (λ j. absurd (None_Some c' (sym (get_or-set_same claims n None None low) ∙ (ap (λ (x : ℕ). slice_index_or (slice_set claims n None) x None) (sym j) ∙ i))))
              (λ ne. let had = k.claims-are q c' (sym (get_or-set_other claims n q None None ne) ∙ i) in (held_stays v p (finished r) q (claim_of c') k.right l (λ r' j j'. ne (sym j ∙ own)) had.0, had.1));
          wish-is = λ w i. turn' ∙ (turn ∙ k.wish-is w i);
          draft-is = λ d i. let had = k.draft-is d i in (draft_stays m v.script (state_of m v) (state_of m (with_event v 0 p (finished r))) (draft_of d) (version' ∙ version) had.0, had.1);
          quiet-is = λ q i. let had = k.quiet-is q i in (away_stays m v.script (state_of m v) (state_of m (with_event v 0 p (finished r))) (away_of q) (turn' ∙ turn) (version' ∙ version) had.0, had.1);
        })

    -- the play has a slot
    pub slot_low : (v : Past W) (n : ℕ) (claims : List (Option C)) (wish : Option Wish) (draft : Option D) (quiet : Option Q)
        → n ≤ length v.script.plays → IsTable m v plays sources claims claim_of ready wish draft draft_of fresh quiet away_of unused
        → n < length claims
    slot_low v n claims wish draft quiet h k = let t : length claims ≡ length plays + 1 = k.total in let e : length plays ≡ length v.script.plays = ap length k.plays-are in omega (arith, t, e, h)

    -- a claim is given up
    pub took : (v : Past W) (n : ℕ) (claims : List (Option C)) (wish : Option Wish) (draft : Option D) (quiet : Option Q)
        → n < length claims → IsTable m v plays sources claims claim_of ready wish draft draft_of fresh quiet away_of unused
        → IsTable m v plays sources (slice_set claims n None) claim_of ready wish draft draft_of fresh quiet away_of unused
    took v n claims wish draft quiet low k = record {
      right = k.right;
      plays-are = k.plays-are;
      sources-are = k.sources-are;
      total = length-set claims n None ∙ k.total;
      claims-are = λ q c i. dite (ℕ_discrete q n)
          (λ j. absurd (None_Some c (sym (get_or-set_same claims n None None low) ∙ (ap (λ (x : ℕ). slice_index_or (slice_set claims n None) x None) (sym j) ∙ i))))
          (λ ne. k.claims-are q c (sym (get_or-set_other claims n q None None ne) ∙ i));
      wish-is = k.wish-is;
      draft-is = k.draft-is;
      quiet-is = k.quiet-is;
    }

    -- a change is wanted
    pub wished : (v v' : Past W) (p : ℕ) (x : W) (w : Wish) (claims : List (Option C)) (wish : Option Wish) (draft : Option D) (quiet : Option Q)
        → v' ≡ with_event v 0 p (wanted x) → Legal m v' → w.play ≡ p → (state_of m v).turn ≡ free → IsTable m v plays sources claims claim_of ready wish draft draft_of fresh quiet away_of unused
        → IsTable m v' plays sources claims claim_of ready (Some w) draft draft_of fresh quiet away_of unused
    wished v v' p x w claims wish draft quiet e legal of isfree k =
        let l : Legal m (with_event v 0 p (wanted x)) = subst (λ (z : Past W). Legal m z) e legal in
        let turn' = turn_more m v p (wanted x) in
        let version' = version_more m v p (wanted x) in
        let no = no_wanted x in
        subst (λ (z : Past W). IsTable m z plays sources claims claim_of ready (Some w) draft draft_of fresh quiet away_of unused) (sym e)
        (record {
          right = k.right;
          plays-are = k.plays-are;
          sources-are = k.sources-are;
          total = k.total;
          claims-are = λ n' c i. let had = k.claims-are n' c i in (held_stays v p (wanted x) n' (claim_of c) k.right l (λ r i' j. no r j) had.0, had.1);
          wish-is = λ w' i. turn' ∙ (ap (λ (n : ℕ). wanted_by n 0) (sym of) ∙ ap (λ (z : Wish). wanted_by z.play 0) (Some_is w w' i));
          draft-is = λ d i. let had = k.draft-is d i in (draft_stays m v.script (state_of m v) (state_of m (with_event v 0 p (wanted x))) (draft_of d) version' had.0, had.1);
          quiet-is = λ q i. absurd (free_away _ _ _ (sym isfree ∙ (k.quiet-is q i).0.under));
        })

    -- a change is under way
    pub quieted_now : (v v' : Past W) (p : ℕ) (q : Q) (claims : List (Option C)) (wish : Option Wish) (draft : Option D) (quiet : Option Q)
        → v' ≡ with_event v 0 p (quieted (away_of q).regions) → Legal m v' → (away_of q).old ≡ (state_of m v).version → (away_of q).base ≡ (away_of q).old → source_of v.script.sources (at_play m v.script p) ≡ Some (away_of q).text → Whole (m.fit (away_of q).old) (m.region_total (away_of q).old) (away_of q).regions → unused q → IsTable m v plays sources claims claim_of ready wish draft draft_of fresh quiet away_of unused
        → IsTable m v' plays sources claims claim_of ready None None draft_of fresh (Some q) away_of unused
    quieted_now v v' p q claims wish draft quiet e legal old base text whole ok k =
        let l : Legal m (with_event v 0 p (quieted (away_of q).regions)) = subst (λ (z : Past W). Legal m z) e legal in
        let turn' = turn_more m v p (quieted (away_of q).regions) in
        let version' = version_more m v p (quieted (away_of q).regions) in
        let no = no_quieted (away_of q).regions in
        let played = ap play_of turn' in
        subst (λ (z : Past W). IsTable m z plays sources claims claim_of ready None None draft_of fresh (Some q) away_of unused) (sym e)
        (record {
          right = k.right;
          plays-are = k.plays-are;
          sources-are = k.sources-are;
          total = k.total;
          claims-are = λ n' c i. let had = k.claims-are n' c i in (held_stays v p (quieted (away_of q).regions) n' (claim_of c) k.right l (λ r i' j. no r j) had.0, had.1);
          wish-is = λ w i. absurd (None_Some w i);
          draft-is = λ d i. absurd (None_Some d i);
          quiet-is = λ q' i. subst (λ (x : Q). IsAway m v.script (state_of m (with_event v 0 p (quieted (away_of q).regions))) (away_of x) × unused x) (Some_is q q' i) (
            record {
              under = turn' ∙ ap (λ (n : ℕ). under_way n 0 (away_of q).regions) (sym played);
              old-is = old ∙ sym version';
              base-is = base;
              text-is = ap (λ (n : ℕ). source_of v.script.sources (at_play m v.script n)) played ∙ text;
              whole = whole;
            },
            ok,
          );
        })

    -- the change of a draft is under way
    pub quiet_began : {X : Type 0} (base_of : X → W) (text_of : X → List ℕ) (fine : X → Type 0) (v v' : Past W) (p n : ℕ) (x y : X) (q : Q) (claims : List (Option C)) (wish : Option Wish) (draft : Option D) (quiet : Option Q)
        → v' ≡ with_event v 0 p (quieted (away_of q).regions) → Legal m v' → (away_of q).old ≡ (state_of m v).version → y ≡ x → base_of x ≡ (state_of m v).version → (away_of q).base ≡ base_of y → (away_of q).text ≡ text_of y → (fine y → unused q)
        → p ≡ n → IsDrafted m v.script (state_of m v) (drafted n (base_of x) (text_of x)) × fine x → Whole (m.fit (away_of q).old) (m.region_total (away_of q).old) (away_of q).regions → IsTable m v plays sources claims claim_of ready wish draft draft_of fresh quiet away_of unused
        → IsTable m v' plays sources claims claim_of ready None None draft_of fresh (Some q) away_of unused
    quiet_began base_of text_of fine v v' p n x y q claims wish draft quiet e legal old same-change based base text unspent same-play had whole k =
        let is_based : (away_of q).base ≡ (away_of q).old = base ∙ (ap base_of same-change ∙ (based ∙ sym old)) in
        let is_text : source_of v.script.sources (at_play m v.script p) ≡ Some (away_of q).text = ap (λ (i : ℕ). source_of v.script.sources (at_play m v.script i)) same-play ∙ (had.0.text-is ∙ ap Some (ap text_of (sym same-change) ∙ sym text)) in
        quieted_now v v' p q claims wish draft quiet e legal old is_based is_text whole (unspent (subst fine (sym same-change) had.1)) k

    -- a change ended
    pub changed_now : (v v' : Past W) (p : ℕ) (x : W) (d c : Contents) (claims : List (Option C)) (wish : Option Wish) (draft : Option D) (quiet : Option Q)
        → v' ≡ with_event v 0 p (changed x d) → Legal m v' → (state_of m v).turn ≡ under_way p 0 c → m.number x ≡ m.number (state_of m v).version + 1 → IsTable m v plays sources claims claim_of ready wish draft draft_of fresh quiet away_of unused
        → IsTable m v' plays sources claims claim_of ready wish draft draft_of fresh None away_of unused
    changed_now v v' p x d c claims wish draft quiet e legal under number k =
        let l : Legal m (with_event v 0 p (changed x d)) = subst (λ (z : Past W). Legal m z) e legal in
        let turn' = turn_more m v p (changed x d) in
        let version' = version_more m v p (changed x d) in
        let no = no_changed x d in
        subst (λ (z : Past W). IsTable m z plays sources claims claim_of ready wish draft draft_of fresh None away_of unused) (sym e)
        (record {
          right = k.right;
          plays-are = k.plays-are;
          sources-are = k.sources-are;
          total = k.total;
          claims-are = λ n' c i. let had = k.claims-are n' c i in (held_stays v p (changed x d) n' (claim_of c) k.right l (λ r i' j. no r j) had.0, had.1);
          wish-is = λ w i. absurd (wanted_away _ _ _ _ _ (sym (k.wish-is w i) ∙ under));
          draft-is = λ y i. let had = k.draft-is y i in (draft_older m v.script (state_of m v) (state_of m (with_event v 0 p (changed x d))) (draft_of y) (ap m.number version' ∙ number) had.0, had.1);
          quiet-is = λ q i. absurd (None_Some q i);
        })

    -- a change was refused
    pub resumed_now : (v v' : Past W) (p : ℕ) (x : Refusal) (c : Contents) (claims : List (Option C)) (wish : Option Wish) (draft : Option D) (quiet : Option Q)
        → v' ≡ with_event v 0 p (resumed x) → Legal m v' → (state_of m v).turn ≡ under_way p 0 c → IsTable m v plays sources claims claim_of ready wish draft draft_of fresh quiet away_of unused
        → IsTable m v' plays sources claims claim_of ready wish draft draft_of fresh None away_of unused
    resumed_now v v' p x c claims wish draft quiet e legal under k =
        let l : Legal m (with_event v 0 p (resumed x)) = subst (λ (z : Past W). Legal m z) e legal in
        let turn' = turn_more m v p (resumed x) in
        let version' = version_more m v p (resumed x) in
        let no = no_resumed x in
        subst (λ (z : Past W). IsTable m z plays sources claims claim_of ready wish draft draft_of fresh None away_of unused) (sym e)
        (record {
          right = k.right;
          plays-are = k.plays-are;
          sources-are = k.sources-are;
          total = k.total;
          claims-are = λ n' c i. let had = k.claims-are n' c i in (held_stays v p (resumed x) n' (claim_of c) k.right l (λ r i' j. no r j) had.0, had.1);
          wish-is = λ w i. absurd (wanted_away _ _ _ _ _ (sym (k.wish-is w i) ∙ under));
          draft-is = λ d i. let had = k.draft-is d i in (draft_stays m v.script (state_of m v) (state_of m (with_event v 0 p (resumed x))) (draft_of d) version' had.0, had.1);
          quiet-is = λ q i. absurd (None_Some q i);
        })

    -- a change was denied
    pub denied_now : (v v' : Past W) (p : ℕ) (a : Answer) (claims : List (Option C)) (wish : Option Wish) (draft : Option D) (quiet : Option Q)
        → v' ≡ with_event v 0 p (denied a) → Legal m v' → (state_of m v).turn ≡ wanted_by p 0 → IsTable m v plays sources claims claim_of ready wish draft draft_of fresh quiet away_of unused
        → IsTable m v' plays sources claims claim_of ready None draft draft_of fresh quiet away_of unused
    denied_now v v' p a claims wish draft quiet e legal turn k =
        let l : Legal m (with_event v 0 p (denied a)) = subst (λ (z : Past W). Legal m z) e legal in
        let turn' = turn_more m v p (denied a) in
        let version' = version_more m v p (denied a) in
        let no = no_denied a in
        subst (λ (z : Past W). IsTable m z plays sources claims claim_of ready None draft draft_of fresh quiet away_of unused) (sym e)
        (record {
          right = k.right;
          plays-are = k.plays-are;
          sources-are = k.sources-are;
          total = k.total;
          claims-are = λ n' c i. let had = k.claims-are n' c i in (held_stays v p (denied a) n' (claim_of c) k.right l (λ r i' j. no r j) had.0, had.1);
          wish-is = λ w i. absurd (None_Some w i);
          draft-is = λ d i. let had = k.draft-is d i in (draft_stays m v.script (state_of m v) (state_of m (with_event v 0 p (denied a))) (draft_of d) version' had.0, had.1);
          quiet-is = λ q i. absurd (wanted_away _ _ _ _ _ (sym turn ∙ (k.quiet-is q i).0.under));
        })

    -- a change was prepared
    pub readied : (v : Past W) (claims : List (Option C)) (wish : Option Wish) (draft : Option D) (quiet : Option Q) (d : D)
        → source_of v.script.sources (at_play m v.script (draft_of d).play) ≡ Some (draft_of d).text → (draft_of d).base ≡ (state_of m v).version → fresh d → IsTable m v plays sources claims claim_of ready wish draft draft_of fresh quiet away_of unused
        → IsTable m v plays sources claims claim_of ready wish (Some d) draft_of fresh quiet away_of unused
    readied v claims wish draft quiet d text base ok k = let e : m.number (draft_of d).base ≡ m.number (state_of m v).version = ap m.number base in record {
      right = k.right;
      plays-are = k.plays-are;
      sources-are = k.sources-are;
      total = k.total;
      claims-are = k.claims-are;
      wish-is = k.wish-is;
      draft-is = λ d' i. subst (λ (x : D). IsDrafted m v.script (state_of m v) (draft_of x) × fresh x) (Some_is d d' i) (record { text-is = text; low = omega (arith, e); same = λ j. base }, ok);
      quiet-is = k.quiet-is;
    }

    -- a change did not begin, and its wish came back
    pub rewished : (v v' : Past W) (claims : List (Option C)) (wish : Option Wish) (draft : Option D) (quiet : Option Q) (w : Wish)
        → v' ≡ v → Some w ≡ wish → IsTable m v plays sources claims claim_of ready wish draft draft_of fresh quiet away_of unused
        → IsTable m v' plays sources claims claim_of ready (Some w) None draft_of fresh quiet away_of unused
    rewished v v' claims wish draft quiet w e i k = same v v' claims (Some w) None quiet e (less v claims wish draft quiet (Some w) None quiet (λ w' j. sym i ∙ j) (λ d j. absurd (None_Some d j)) (λ q j. j) k)

    -- a change did not begin, and all came back
    pub restored : (v v' : Past W) (claims : List (Option C)) (wish : Option Wish) (draft : Option D) (quiet : Option Q) (w : Wish) (d : D)
        → v' ≡ v → Some w ≡ wish → Some d ≡ draft → IsTable m v plays sources claims claim_of ready wish draft draft_of fresh quiet away_of unused
        → IsTable m v' plays sources claims claim_of ready (Some w) (Some d) draft_of fresh quiet away_of unused
    restored v v' claims wish draft quiet w d e i n k = same v v' claims (Some w) (Some d) quiet e (less v claims wish draft quiet (Some w) (Some d) quiet (λ w' j. sym i ∙ j) (λ d' j. sym n ∙ j) (λ q j. j) k)

    -- a reset
    pub after_reset : (made : ResetDone) (v v' : Past W) (p : ℕ) (claims : List (Option C)) (wish : Option Wish) (draft : Option D) (quiet : Option Q)
        → ResetAs m v v' 0 p made → Legal m v' → IsTable m v plays sources claims claim_of ready wish draft draft_of fresh quiet away_of unused
        → IsTable m v' plays sources claims claim_of ready wish draft draft_of fresh quiet away_of unused
    after_reset resets.Twice v v' p claims wish draft quiet h legal k = same v v' claims wish draft quiet h.0 k
    after_reset (resets.Early q) v v' p claims wish draft quiet h legal k = same v v' claims wish draft quiet h.0 k
    after_reset resets.Made v v' p claims wish draft quiet h legal k = calm v v' p (reset h.0) claims wish draft quiet h.3 legal refl refl (no_reset h.0) k
