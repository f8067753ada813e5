-- Tasks by their names.
use Rattle.std.proofs.Common.{◌≡◌, ℕ, suc, ◌+◌, ◌<◌, ◌≤◌, Bool, true, false, cond, ◌||◌, List, [], ◌∷◌, ◌++◌, Some, refl, sym, ap, ◌∙◌, add-one, drop, get_or, length, map}
use Rattle.std.specs.Prelude.{if◌then◌else◌}
use Rattle.std.specs.List.{list_any, position_from}
use Rattle.plc_text.specs.Words.{same}
use Rattle.st_rules.proofs.ListLaws.{drop-at, drop-end}
use Rattle.st_tree.specs.declared.program.TaskDecl.{TaskDecl}
use Rattle.st_change.specs.OneThread.{task_from, is_held, released, since}
use Rattle.reference_plays.specs.declared.controller.Gone.{Gone}
use Rattle.reference_plays.specs.Controller.{gone_of}

-- ---- tasks of a program

pub task_at : (name : List ℕ) (t : ℕ) (ds : List TaskDecl) → position_from (λ d. same d.name name) t ds ≡ task_from t ds name
task_at name t [] = refl
task_at name t (d ∷ ds) = ap (cond (same d.name name) (Some t)) (ap (λ n. position_from (λ x. same x.name name) n ds) (add-one t) ∙ task_at name (suc t) ds)

-- ---- tasks that are held

or_if : (b c : Bool) → (b || c) ≡ (if b then true else c)
or_if true c = refl
or_if false c = refl

pub any_held : (name : List ℕ) (ns : List (List ℕ)) → list_any (λ n. same n name) ns ≡ is_held ns name
any_held name [] = refl
any_held name (n ∷ ns) = or_if (same n name) (list_any (λ m. same m name) ns) ∙ ap (λ c. if same n name then true else c) (any_held name ns)

before : (b : Bool) (n : List ℕ) (xs ys : List (List ℕ)) → (if b then xs ++ ys else n ∷ xs ++ ys) ≡ (if b then xs else n ∷ xs) ++ ys
before true n xs ys = refl
before false n xs ys = refl

pub released_both : (name : List ℕ) (ns ms : List (List ℕ)) → released (ns ++ ms) name ≡ released ns name ++ released ms name
released_both name [] ms = refl
released_both name (n ∷ ns) ms =
    ap (λ x. if same n name then x else n ∷ x) (released_both name ns ms) ∙ before (same n name) n (released ns name) (released ms name)

-- ---- tasks that are gone

by_test : (g : Gone) (gs : List Gone) (name : List ℕ) (b : Bool) → same g.name name ≡ b → since (map gone_of (g ∷ gs)) name ≡ (if b then g.version else since (map gone_of gs) name)
by_test g gs name b e = ap (λ x. if x then g.version else since (map gone_of gs) name) e

module _ (gs : List Gone) (i : ℕ) (g : Gone) (name : List ℕ) (w : ℕ) (inside : i < length gs) (is : g ≡ get_or gs i g) (inv : since (map gone_of (drop i gs)) name ≡ w) where
  first : since (map gone_of (g ∷ drop (i + 1) gs)) name ≡ w
  first = ap (λ xs. since (map gone_of xs) name) (sym (drop-at gs i g inside is)) ∙ inv

  pub gone_next : same g.name name ≡ false → since (map gone_of (drop (i + 1) gs)) name ≡ w
  gone_next e = sym (by_test g (drop (i + 1) gs) name false e) ∙ first

  pub gone_found : same g.name name ≡ true → g.version ≡ w
  gone_found e = sym (by_test g (drop (i + 1) gs) name true e) ∙ first

pub gone_never : (gs : List Gone) (i : ℕ) (name : List ℕ) (w : ℕ) → since (map gone_of (drop i gs)) name ≡ w → length gs ≤ i → 0 ≡ w
gone_never gs i name w inv l = ap (λ xs. since (map gone_of xs) name) (sym (drop-end gs i l)) ∙ inv
