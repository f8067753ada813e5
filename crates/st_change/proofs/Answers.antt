-- A play has one answer.
use Rattle.std.proofs.Common.{◌≡◌, ◌≢◌, ℕ, List, Option, Some, refl, sym, ap, ◌∙◌, subst}
use Rattle.std.specs.Prelude.{slice_get}
use Rattle.plc_text.specs.declared.refusal.Refusal.{Refusal}
use Rattle.cycle_journal.specs.declared.entry.Answer.{Answer}
use Rattle.cycle_journal.specs.declared.entry.Answer.TheVariants as answer
use Rattle.cycle_journal.specs.declared.play.Play.{Play}
use Rattle.st_values.specs.Program.{Program}
use Rattle.st_meaning.specs.Cycle.{cycle}
use Rattle.st_meaning.specs.st_frame.Footprint.{IsFootprint}
use Rattle.st_meaning.proofs.st_frame.Footprints.{footprint_laws}
use Rattle.st_change.specs.Hook.{ran, stopped}
use Rattle.st_change.specs.Change.{change}
use Rattle.st_change.specs.OneThread.{Controller, task_named, loaded, cycle_answer, after_cycle, hook_refusal, One, cycle_without_task, cycle_held, cycle_run, reset_without_task, reset_done, change_loaded, change_refused, change_stopped, change_without_memory}
use Rattle.st_change.specs.Laws.{Judges}

some_same : {A : Type 0} (o : Option A) (a b : A) → o ≡ Some a → o ≡ Some b → a ≡ b
some_same o a b e f = cc

module _ (Accepts : List ℕ → Program → Type 0) (Refuses : List ℕ → Refusal → Type 0) (sources : List (List ℕ)) (judges : Judges Accepts Refuses) where
  pub one_answer : (c d e : Controller) (p : Play) (a b : Answer) → One Accepts Refuses sources c p a d → One Accepts Refuses sources c p b e → a ≢ answer.RefusedMemory → b ≢ answer.RefusedMemory → (a ≡ b) × (d ≡ e)
  one_answer c d e p a b (cycle_without_task h) (cycle_without_task k) m n = (refl, refl)
  one_answer c d e p a b (cycle_without_task h) (cycle_held u k l) m n = absurd (cc)
  one_answer c d e p a b (cycle_without_task h) (cycle_run u gs k l f) m n = absurd (cc)
  one_answer c d e p a b (cycle_held t h i) (cycle_without_task k) m n = absurd (cc)
  one_answer c d e p a b (cycle_held t h i) (cycle_held u k l) m n = (refl, refl)
  one_answer c d e p a b (cycle_held t h i) (cycle_run u gs k l f) m n = absurd (cc)
  one_answer c d e p a b (cycle_run t fs h i g) (cycle_without_task k) m n = absurd (cc)
  one_answer c d e p a b (cycle_run t fs h i g) (cycle_held u k l) m n = absurd (cc)
  one_answer c d e p a b (cycle_run {name} {now} {input} t fs h i g) (cycle_run u gs k l f) m n =
      let q : u ≡ t = some_same (task_named c.program name) u t k h in
      let f' = subst (λ x. IsFootprint c.program x gs) q f in
      let r : cycle c.program fs t now input c.store ≡ cycle c.program gs u now input c.store =
      footprint_laws.one_cycle c.program t fs gs now input c.store g f' ∙ ap (λ x. cycle c.program gs x now input c.store) (sym q) in
      (ap (λ o. cycle_answer o.0) r, ap (after_cycle c name) r)
  one_answer c d e p a b (reset_without_task h) (reset_without_task k) m n = (refl, refl)
  one_answer c d e p a b (reset_without_task h) (reset_done u k) m n = absurd (cc)
  one_answer c d e p a b (reset_done t h) (reset_without_task k) m n = absurd (cc)
  one_answer c d e p a b (reset_done t h) (reset_done u k) m n = (refl, refl)
  one_answer c d e p a b (change_loaded {source = source} text q s ticks h acc g) (change_loaded other r t left k acc' f) m n =
      let x : text ≡ other = some_same (slice_get sources source) text other h k in
      let y : q ≡ r = judges.one_program text q r acc (subst (λ z. Accepts z r) (sym x) acc') in
      let w : ran s ticks ≡ ran t left = sym g ∙ ap (λ z. change c.program z c.store) y ∙ f in
      let v : s ≡ t = cc in
      (refl, ap (λ z. loaded c z s) y ∙ ap (loaded c r) v)
  one_answer c d e p a b (change_loaded {source = source} text q s ticks h acc g) (change_refused other r k ref) m n =
      let x : text ≡ other = some_same (slice_get sources source) text other h k in
      absurd (judges.not_both text q r acc (subst (λ z. Refuses z r) (sym x) ref))
  one_answer c d e p a b (change_loaded {source = source} text q s ticks h acc g) (change_stopped other r class kind line k acc' f) m n =
      let x : text ≡ other = some_same (slice_get sources source) text other h k in
      let y : q ≡ r = judges.one_program text q r acc (subst (λ z. Accepts z r) (sym x) acc') in
      let w : ran s ticks ≡ stopped class kind line = sym g ∙ ap (λ z. change c.program z c.store) y ∙ f in
      absurd (cc)
  one_answer c d e p a b (change_refused {source = source} text r h ref) (change_loaded other q s ticks k acc g) m n =
      let x : text ≡ other = some_same (slice_get sources source) text other h k in
      absurd (judges.not_both text q r (subst (λ z. Accepts z q) (sym x) acc) ref)
  one_answer c d e p a b (change_refused {source = source} text r h ref) (change_refused other r' k ref') m n =
      let x : text ≡ other = some_same (slice_get sources source) text other h k in
      (ap answer.Refused (judges.one_refusal text r r' ref (subst (λ z. Refuses z r') (sym x) ref')), refl)
  one_answer c d e p a b (change_refused {source = source} text r h ref) (change_stopped other q class kind line k acc f) m n =
      let x : text ≡ other = some_same (slice_get sources source) text other h k in
      absurd (judges.not_both text q r (subst (λ z. Accepts z q) (sym x) acc) ref)
  one_answer c d e p a b (change_stopped {source = source} text q class kind line h acc g) (change_loaded other r s ticks k acc' f) m n =
      let x : text ≡ other = some_same (slice_get sources source) text other h k in
      let y : q ≡ r = judges.one_program text q r acc (subst (λ z. Accepts z r) (sym x) acc') in
      let w : stopped class kind line ≡ ran s ticks = sym g ∙ ap (λ z. change c.program z c.store) y ∙ f in
      absurd (cc)
  one_answer c d e p a b (change_stopped {source = source} text q class kind line h acc g) (change_refused other r k ref) m n =
      let x : text ≡ other = some_same (slice_get sources source) text other h k in
      absurd (judges.not_both text q r acc (subst (λ z. Refuses z r) (sym x) ref))
  one_answer c d e p a b (change_stopped {source = source} text q class kind line h acc g) (change_stopped other r class' kind' line' k acc' f) m n =
      let x : text ≡ other = some_same (slice_get sources source) text other h k in
      let y : q ≡ r = judges.one_program text q r acc (subst (λ z. Accepts z r) (sym x) acc') in
      let w : stopped class kind line ≡ stopped class' kind' line' = sym g ∙ ap (λ z. change c.program z c.store) y ∙ f in
      let u1 : class ≡ class' = cc in
      let u2 : kind ≡ kind' = cc in
      let u3 : line ≡ line' = cc in
      (ap (λ z. answer.Refused (hook_refusal z kind line)) u1 ∙ ap (λ z. answer.Refused (hook_refusal class' z line)) u2 ∙ ap (λ z. answer.Refused (hook_refusal class' kind' z)) u3, refl)
  one_answer c d e p a b change_without_memory y m n = absurd (m refl)
  one_answer c d e p a b x change_without_memory m n = absurd (n refl)
