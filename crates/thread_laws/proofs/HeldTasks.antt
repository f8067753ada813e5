-- Tasks that are held and tasks that are gone: functions and lists.
use Rattle.std.proofs.Common.{◌≡◌, ℕ, suc, Bool, true, false, List, [], ◌∷◌, ◌++◌, Option, Some, None, refl, sym, ap, ◌∙◌}
use Rattle.std.specs.Prelude.{◌||◌, ◌&&◌, not, if◌then◌else◌, is_some}
use Rattle.std.proofs.lemmas.Slice.Eq.{bytes_eq-Decides}
use Rattle.plc_text.specs.Words.{same}
use Rattle.st_tree.specs.declared.program.TaskDecl.{TaskDecl}
use Rattle.st_values.specs.Program.{Program}
use Rattle.st_change.specs.OneThread.{task_from, is_held, released, since, has_task, still_gone, removed}
use Rattle.plant_rules.specs.One.{held_without, since_by}

same_is : (a b : List ℕ) → same a b ≡ true → a ≡ b
same_is a b e = (bytes_eq-Decides a b).0 e

is_same : (a b : List ℕ) → a ≡ b → same a b ≡ true
is_same a b e = (bytes_eq-Decides a b).1 e

true_false : {A : Type 0} → (b : Bool) → b ≡ true → b ≡ false → A
true_false b e f = absurd (cc)

or_if : (b c : Bool) → (b || c) ≡ (if b then true else c)
or_if true c = refl
or_if false c = refl

pub held_more : (n x : List ℕ) (f : List ℕ → Bool) (hs : List (List ℕ)) → f x ≡ is_held hs x → (same n x || f x) ≡ is_held (n ∷ hs) x
held_more n x f hs e = ap (λ b. same n x || b) e ∙ or_if (same n x) (is_held hs x)

-- without the tasks of a name
without : (hs : List (List ℕ)) (n x : List ℕ) → is_held (released hs n) x ≡ (not (same n x) && is_held hs x)
without [] n x = by (same n x)
  where
    by : (b : Bool) → false ≡ (not b && false)
    by true = refl
    by false = refl
without (h ∷ hs) n x = by (same h n) (same h x) (same n x) refl refl refl (without hs n x)
  where
    by : (a b c : Bool) → same h n ≡ a → same h x ≡ b → same n x ≡ c → is_held (released hs n) x ≡ (not (same n x) && is_held hs x)
        → is_held (if a then released hs n else h ∷ released hs n) x ≡ (not c && (if b then true else is_held hs x))
    by true b true p q r k = k ∙ ap (λ z. not z && is_held hs x) r
    by true true false p q r k = true_false (same n x) (is_same n x (sym (same_is h n p) ∙ same_is h x q)) r
    by true false false p q r k = k ∙ ap (λ z. not z && is_held hs x) r
    by false true true p q r k = true_false (same h n) (is_same h n (same_is h x q ∙ sym (same_is n x r))) p
    by false true false p q r k = ap (λ z. if z then true else is_held (released hs n) x) q
    by false false c p q r k = ap (λ z. if z then true else is_held (released hs n) x) q ∙ (k ∙ ap (λ z. not z && is_held hs x) r)

pub released_are : (n : List ℕ) (f : List ℕ → Bool) (hs : List (List ℕ)) → ((x : List ℕ) → f x ≡ is_held hs x) → (x : List ℕ) → held_without n f x ≡ is_held (released hs n) x
released_are n f hs e x = ap (λ b. not (same n x) && b) (e x) ∙ sym (without hs n x)

-- ---- tasks that are gone

has_named : (ds : List TaskDecl) (k : ℕ) (n : List ℕ) → has_task ds n ≡ is_some (task_from k ds n)
has_named [] k n = refl
has_named (d ∷ ds) k n = by (same d.name n) (has_named ds (suc k) n)
  where
    by : (b : Bool) → has_task ds n ≡ is_some (task_from (suc k) ds n) → (if b then true else has_task ds n) ≡ is_some (if b then Some k else task_from (suc k) ds n)
    by true e = refl
    by false e = e

module _ (v : ℕ) (next : Program) where
  since_still : (gs : List (List ℕ × ℕ)) (n : List ℕ) → since (still_gone next gs) n ≡ (if has_task next.tasks n then 0 else since gs n)
  since_still [] n = by (has_task next.tasks n) 0
    where
      by : (b : Bool) (z : ℕ) → z ≡ (if b then z else z)
      by true z = refl
      by false z = refl
  since_still (g ∷ gs) n = by (has_task next.tasks g.0) (same g.0 n) (has_task next.tasks n) refl refl refl (since_still gs n)
    where
      by : (a b c : Bool) → has_task next.tasks g.0 ≡ a → same g.0 n ≡ b → has_task next.tasks n ≡ c → since (still_gone next gs) n ≡ (if has_task next.tasks n then 0 else since gs n)
          → since (if a then still_gone next gs else g ∷ still_gone next gs) n ≡ (if c then 0 else (if b then g.1 else since gs n))
      by true b true p q r k = k ∙ ap (λ z. if z then 0 else since gs n) r
      by true true false p q r k = true_false (has_task next.tasks n) (sym (ap (has_task next.tasks) (same_is g.0 n q)) ∙ p) r
      by true false false p q r k = k ∙ ap (λ z. if z then 0 else since gs n) r
      by false true true p q r k = true_false (has_task next.tasks n) r (sym (ap (has_task next.tasks) (same_is g.0 n q)) ∙ p)
      by false true false p q r k = ap (λ z. if z then g.1 else since (still_gone next gs) n) q
      by false false c p q r k = ap (λ z. if z then g.1 else since (still_gone next gs) n) q ∙ (k ∙ ap (λ z. if z then 0 else since gs n) r)

  since_removed : (ds : List TaskDecl) (gs : List (List ℕ × ℕ)) (n : List ℕ) → since (removed v next ds ++ gs) n ≡ (if has_task ds n && not (has_task next.tasks n) then v else since gs n)
  since_removed [] gs n = refl
  since_removed (d ∷ ds) gs n = by (has_task next.tasks d.name) (same d.name n) (has_task next.tasks n) refl refl refl (since_removed ds gs n)
    where
      rest : Bool → Bool → ℕ
      rest h c = if h && not c then v else since gs n

      never : (h : Bool) → (if h && not true then v else since gs n) ≡ since gs n
      never true = refl
      never false = refl

      by : (a b c : Bool) → has_task next.tasks d.name ≡ a → same d.name n ≡ b → has_task next.tasks n ≡ c → since (removed v next ds ++ gs) n ≡ (if has_task ds n && not (has_task next.tasks n) then v else since gs n)
          → since ((if a then removed v next ds else (d.name, v) ∷ removed v next ds) ++ gs) n ≡ (if (if b then true else has_task ds n) && not c then v else since gs n)
      by true true true p q r k = k ∙ (ap (λ z. if has_task ds n && not z then v else since gs n) r ∙ never (has_task ds n))
      by true true false p q r k = true_false (has_task next.tasks n) (sym (ap (has_task next.tasks) (same_is d.name n q)) ∙ p) r
      by true false c p q r k = k ∙ ap (λ z. if has_task ds n && not z then v else since gs n) r
      by false true true p q r k = true_false (has_task next.tasks n) r (sym (ap (has_task next.tasks) (same_is d.name n q)) ∙ p)
      by false true false p q r k = ap (λ z. if z then v else since (removed v next ds ++ gs) n) q
      by false false c p q r k = ap (λ z. if z then v else since (removed v next ds ++ gs) n) q ∙ (k ∙ ap (λ z. if has_task ds n && not z then v else since gs n) r)

  pub since_loaded : (ds : List TaskDecl) (gs : List (List ℕ × ℕ)) (f : List ℕ → ℕ) (n : List ℕ) → f n ≡ since gs n
      → since_by (task_from 0 next.tasks n) (task_from 0 ds n) v (f n) ≡ since (removed v next ds ++ still_gone next gs) n
  since_loaded ds gs f n e =
      sym (since_removed ds (still_gone next gs) n
      ∙ (ap (λ z. if has_task ds n && not (has_task next.tasks n) then v else z) (since_still gs n)
      ∙ (ap (λ z. if z && not (has_task next.tasks n) then v else (if has_task next.tasks n then 0 else since gs n)) (has_named ds 0 n)
      ∙ (ap (λ z. if is_some (task_from 0 ds n) && not z then v else (if z then 0 else since gs n)) (has_named next.tasks 0 n)
      ∙ (by (task_from 0 next.tasks n) (task_from 0 ds n) (since gs n) ∙ ap (λ z. since_by (task_from 0 next.tasks n) (task_from 0 ds n) v z) (sym e))))))
    where
      by : (a b : Option ℕ) (s : ℕ) → (if is_some b && not (is_some a) then v else (if is_some a then 0 else s)) ≡ since_by a b v s
      by (Some t) (Some u) s = refl
      by (Some t) None s = refl
      by None (Some u) s = refl
      by None None s = refl
