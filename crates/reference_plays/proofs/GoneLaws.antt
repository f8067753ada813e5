-- Tasks that are gone, of two lists one behind the other.
use Rattle.std.proofs.Common.{◌≡◌, ℕ, ◌+◌, ◌<◌, ◌≤◌, Bool, true, false, List, [], ◌∷◌, ◌++◌, refl, sym, ap, ◌∙◌, cond, ◌||◌, map, drop, get_or, length}
use Rattle.std.proofs.lemmas.List.{append_assoc, append-nil}
use Rattle.st_rules.proofs.ListLaws.{drop-at, drop-end}
use Rattle.reference_plays.specs.declared.controller.Gone.{Gone}
use Rattle.reference_plays.specs.Controller.{gone_of}
use Rattle.std.specs.Prelude.{if◌then◌else◌}
use Rattle.std.specs.List.{list_any}
use Rattle.plc_text.specs.Words.{same}
use Rattle.st_tree.specs.declared.program.TaskDecl.{TaskDecl}
use Rattle.st_values.specs.Program.{Program}
use Rattle.st_change.specs.OneThread.{has_task, removed, still_gone}

or_if : (b c : Bool) → (b || c) ≡ (if b then true else c)
or_if true c = refl
or_if false c = refl

pub any_task : (name : List ℕ) (ds : List TaskDecl) → list_any (λ d. same d.name name) ds ≡ has_task ds name
any_task name [] = refl
any_task name (d ∷ ds) = or_if (same d.name name) (list_any (λ m. same m.name name) ds) ∙ ap (λ c. if same d.name name then true else c) (any_task name ds)

apart : {A : Type 0} (b : Bool) (x : A) (xs ys : List A) → (if b then xs ++ ys else x ∷ xs ++ ys) ≡ (if b then xs else x ∷ xs) ++ ys
apart true x xs ys = refl
apart false x xs ys = refl

pub removed_both : (version : ℕ) (p : Program) (ds es : List TaskDecl) → removed version p (ds ++ es) ≡ removed version p ds ++ removed version p es
removed_both version p [] es = refl
removed_both version p (d ∷ ds) es =
    ap (λ xs. if has_task p.tasks d.name then xs else (d.name, version) ∷ xs) (removed_both version p ds es)
    ∙ apart (has_task p.tasks d.name) (d.name, version) (removed version p ds) (removed version p es)

pub still_gone_both : (p : Program) (gs hs : List (List ℕ × ℕ)) → still_gone p (gs ++ hs) ≡ still_gone p gs ++ still_gone p hs
still_gone_both p [] hs = refl
still_gone_both p (g ∷ gs) hs =
    ap (λ xs. if has_task p.tasks g.0 then xs else g ∷ xs) (still_gone_both p gs hs) ∙ apart (has_task p.tasks g.0) g (still_gone p gs) (still_gone p hs)

-- ---- loops: what was added and what is left make the whole

-- one more
joins : {A : Type 0} (before now after x rest whole : List A) → after ≡ now ++ x → now ++ (x ++ rest) ≡ before ++ whole → after ++ rest ≡ before ++ whole
joins before now after x rest whole e h = ap (λ xs. xs ++ rest) e ∙ append_assoc now x rest ∙ h

ends : {A : Type 0} (before now rest whole : List A) → rest ≡ [] → now ++ rest ≡ before ++ whole → now ≡ before ++ whole
ends before now rest whole e h = sym (append-nil now) ∙ ap (λ xs. now ++ xs) (sym e) ∙ h

module _ (version : ℕ) (p : Program) (ds : List TaskDecl) (before : List (List ℕ × ℕ)) where
  pub record RemovedLeft (k : ℕ) (now : List (List ℕ × ℕ)) : Type 0 where
    pub by : now ++ removed version p (drop k ds) ≡ before ++ removed version p ds

  pub removed_begun : RemovedLeft 0 before
  removed_begun = record { by = refl }

  pub removed_next : (k : ℕ) (d : TaskDecl) (now after : List (List ℕ × ℕ)) → k < length ds → d ≡ get_or ds k d → RemovedLeft k now → after ≡ now ++ removed version p (d ∷ []) → RemovedLeft (k + 1) after
  removed_next k d now after l is left added = record {
    by = joins before now after (removed version p (d ∷ [])) (removed version p (drop (k + 1) ds)) (removed version p ds) added
        (ap (λ xs. now ++ xs) (sym (removed_both version p (d ∷ []) (drop (k + 1) ds)) ∙ ap (removed version p) (sym (drop-at ds k d l is))) ∙ left.by);
  }

  pub removed_ended : (k : ℕ) (now : List (List ℕ × ℕ)) → length ds ≤ k → RemovedLeft k now → now ≡ before ++ removed version p ds
  removed_ended k now l left = ends before now (removed version p (drop k ds)) (removed version p ds) (ap (removed version p) (drop-end ds k l)) left.by

module _ (p : Program) (gs : List Gone) (before : List (List ℕ × ℕ)) where
  pub record GoneLeft (k : ℕ) (now : List (List ℕ × ℕ)) : Type 0 where
    pub by : now ++ still_gone p (map gone_of (drop k gs)) ≡ before ++ still_gone p (map gone_of gs)

  pub gone_begun : GoneLeft 0 before
  gone_begun = record { by = refl }

  pub gone_on : (k : ℕ) (g : Gone) (now after : List (List ℕ × ℕ)) → k < length gs → g ≡ get_or gs k g → GoneLeft k now → after ≡ now ++ still_gone p (gone_of g ∷ []) → GoneLeft (k + 1) after
  gone_on k g now after l is left added = record {
    by = joins before now after (still_gone p (gone_of g ∷ [])) (still_gone p (map gone_of (drop (k + 1) gs))) (still_gone p (map gone_of gs)) added
        (ap (λ xs. now ++ xs) (sym (still_gone_both p (gone_of g ∷ []) (map gone_of (drop (k + 1) gs))) ∙ ap (λ xs. still_gone p (map gone_of xs)) (sym (drop-at gs k g l is))) ∙ left.by);
  }

  pub gone_ended : (k : ℕ) (now : List (List ℕ × ℕ)) → length gs ≤ k → GoneLeft k now → now ≡ before ++ still_gone p (map gone_of gs)
  gone_ended k now l left = ends before now (still_gone p (map gone_of (drop k gs))) (still_gone p (map gone_of gs)) (ap (λ xs. still_gone p (map gone_of xs)) (drop-end gs k l)) left.by
