-- Tables with an entry for each routine.
use Rattle.std.proofs.Common.{◌≡◌, ◌≤◌, ◌<◌, ℕ, zero, suc, ◌+◌, List, [], ◌∷◌, ◌++◌, length, Option, Some, None, refl, sym, ap, ◌∙◌, subst, arith, inl, inr, ◌⊎◌, length-append}
use Rattle.std.specs.Prelude.{slice_get}
use Rattle.std.proofs.lemmas.Option.{slice_get_past}
use Rattle.st_tree.specs.declared.program.Program.{Program as CheckedProgram}
use Rattle.st_values.specs.Program.{Routine, body_in}
use Rattle.st_values.specs.View.{program_of}
use Rattle.program_tables.specs.st_initial.Variables.{variables_of}
use Rattle.program_tables.specs.Routine.{members_of, method_in, or_empty, routine_of}
use Rattle.program_tables.specs.declared.routine.RoutineId.{RoutineId}
use Rattle.program_tables.specs.declared.routine.RoutineId.TheVariants as id
use Rattle.routine_tables.specs.declared.entry.Entry.{Entry}
use Rattle.routine_tables.specs.declared.tables.RoutineTables.{RoutineTables}
use Rattle.routine_tables.specs.Parameters.{parameters_of}
use Rattle.routine_tables.specs.Tables.{IsIn, items_at, parameters_at, locals_at, Holds}
use Rattle.routine_tables.proofs.EntryLaws.{function_is, method_is, body_is}

-- ---- the first ones

at_end : {A : Type 0} (xs : List A) (x : A) → slice_get (xs ++ x ∷ []) (length xs) ≡ Some x
at_end [] x = refl
at_end (y ∷ xs) x = at_end xs x

before_end : {A : Type 0} (xs ys : List A) (k : ℕ) → k < length xs → slice_get (xs ++ ys) k ≡ slice_get xs k
before_end [] ys k h = absurd (omega arith)
before_end (x ∷ xs) ys zero h = refl
before_end (x ∷ xs) ys (suc k) h = before_end xs ys k (omega arith)

split : (k n : ℕ) → k < n + 1 → (k < n) ⊎ (k ≡ n)
split k n h = less k n (omega arith)
  where
    less : (a b : ℕ) → a ≤ b → (a < b) ⊎ (a ≡ b)
    less zero zero h = inr refl
    less zero (suc b) h = inl (omega arith)
    less (suc a) zero h = absurd (omega arith)
    less (suc a) (suc b) h = elim (less a b (omega arith)) [ inl p ↦ inl (omega arith) | inr p ↦ inr (ap suc p) ]

below : (a b : ℕ) → (a < b) ⊎ (b ≤ a)
below zero zero = inr (omega arith)
below zero (suc b) = inl (omega arith)
below (suc a) zero = inr (omega arith)
below (suc a) (suc b) = elim (below a b) [ inl p ↦ inl (omega arith) | inr p ↦ inr (omega arith) ]

-- the first so many items are as they should be
pub record Firsts {A : Type 0} (is : ℕ → Option A → Type 0) (all : List A) (n : ℕ) : Type 0 where
  pub long : length all ≡ n
  pub each : (k : ℕ) → k < n → is k (slice_get all k)

module _ {A : Type 0} (is : ℕ → Option A → Type 0) where
  firsts_none : Firsts is [] 0
  firsts_none = record { long = refl; each = λ k h. absurd (omega arith) }

  firsts_more : (all : List A) (n : ℕ) (x : A) → Firsts is all n → is n (Some x) → Firsts is (all ++ x ∷ []) (n + 1)
  firsts_more all n x f e =
      let l = f.long in
      let m : length all + 1 ≡ n + 1 = omega (arith, l) in
      record { long = length-append all (x ∷ []) ∙ m; each = λ k h. by k (split k n h) }
    where
      by : (k : ℕ) → (k < n) ⊎ (k ≡ n) → is k (slice_get (all ++ x ∷ []) k)
      by k (inl p) = let l = f.long in subst (λ (o : Option A). is k o) (sym (before_end all (x ∷ []) k (omega (arith, l, p)))) (f.each k p)
      by k (inr p) =
          let q : length all ≡ k = f.long ∙ sym p in
          let r : Some x ≡ slice_get (all ++ x ∷ []) k = sym (at_end all x) ∙ ap (slice_get (all ++ x ∷ [])) q in
          subst (λ (o : Option A). is k o) r (subst (λ (j : ℕ). is j (Some x)) (sym p) e)

  firsts_all : (all : List A) (n : ℕ) → Firsts is all n → ((k : ℕ) → n ≤ k → is k None) → (k : ℕ) → is k (slice_get all k)
  firsts_all all n f none k = by (below k n)
    where
      by : (k < n) ⊎ (n ≤ k) → is k (slice_get all k)
      by (inl p) = f.each k p
      by (inr p) = let l = f.long in subst (λ (o : Option A). is k o) (sym (slice_get_past all k (omega (arith, l, p)))) (none k p)

-- ---- entries

pub record Entries (of : ℕ → Routine) (all : List Entry) (n : ℕ) : Type 0 where
  pub firsts : Firsts (λ k o. IsIn o (of k)) all n

pub none_yet : (of : ℕ → Routine) → Entries of [] 0
none_yet of = record { firsts = firsts_none (λ k o. IsIn o (of k)) }

pub one_more : (of : ℕ → Routine) (all : List Entry) (n : ℕ) (e : Entry) → Entries of all n → parameters_of e.parameters ≡ (of n).parameters → variables_of e.locals ≡ (of n).locals → Entries of (all ++ e ∷ []) (n + 1)
one_more of all n e es q l = record { firsts = firsts_more (λ k o. IsIn o (of k)) all n e es.firsts (record { parameters = q; locals = l }) }

pub all_entries : (of : ℕ → Routine) (all : List Entry) (n : ℕ) → Entries of all n → ((k : ℕ) → n ≤ k → IsIn None (of k)) → (k : ℕ) → IsIn (slice_get all k) (of k)
all_entries of all n es none = firsts_all (λ k o. IsIn o (of k)) all n es.firsts none

-- ---- rows of entries

pub record Rows (of : ℕ → ℕ → Routine) (all : List (List Entry)) (n : ℕ) : Type 0 where
  pub firsts : Firsts (λ c o. (m : ℕ) → IsIn (slice_get (items_at o) m) (of c m)) all n

pub no_rows_yet : (of : ℕ → ℕ → Routine) → Rows of [] 0
no_rows_yet of = record { firsts = firsts_none (λ c o. (m : ℕ) → IsIn (slice_get (items_at o) m) (of c m)) }

pub one_row_more : (of : ℕ → ℕ → Routine) (all : List (List Entry)) (n : ℕ) (es : List Entry) → Rows of all n → ((m : ℕ) → IsIn (slice_get es m) (of n m)) → Rows of (all ++ es ∷ []) (n + 1)
one_row_more of all n es rows h = record { firsts = firsts_more (λ c o. (m : ℕ) → IsIn (slice_get (items_at o) m) (of c m)) all n es rows.firsts h }

pub all_rows : (of : ℕ → ℕ → Routine) (all : List (List Entry)) (n : ℕ) → Rows of all n → ((c : ℕ) → n ≤ c → (m : ℕ) → IsIn None (of c m)) → (c m : ℕ) → IsIn (slice_get (items_at (slice_get all c)) m) (of c m)
all_rows of all n rows none c = firsts_all (λ c o. (m : ℕ) → IsIn (slice_get (items_at o) m) (of c m)) all n rows.firsts none c

-- ---- past all

is_empty : (class : Option ℕ) → IsIn None (or_empty class None)
is_empty class = record { parameters = refl; locals = refl }

module _ (p : CheckedProgram) where
  pub no_function : (k : ℕ) → length p.functions ≤ k → IsIn None (routine_of p (id.Function k))
  no_function k h = subst (λ (r : Routine). IsIn None r) (sym (function_is p k None (slice_get_past p.functions k h))) (is_empty None)

  pub no_member : (c m : ℕ) → length (members_of (slice_get p.classes c)) ≤ m → IsIn None (routine_of p (id.Method c m))
  no_member c m h = subst (λ (r : Routine). IsIn None r) (sym (method_is p c m None (ap method_in (slice_get_past (members_of (slice_get p.classes c)) m h)))) (is_empty (Some c))

  pub no_class : (c m : ℕ) → length p.classes ≤ c → IsIn None (routine_of p (id.Method c m))
  no_class c m h =
      let e : slice_get p.classes c ≡ None = slice_get_past p.classes c h in
      subst (λ (r : Routine). IsIn None r) (sym (method_is p c m None (ap (λ o. method_in (slice_get (members_of o) m)) e))) (is_empty (Some c))

  pub no_body : (c : ℕ) → length (program_of p).classes ≤ c → IsIn None (routine_of p (id.Body c))
  no_body c h = subst (λ (r : Routine). IsIn None r) (sym (body_is p c ∙ ap (λ o. or_empty (Some c) (body_in o)) (slice_get_past (program_of p).classes c h))) (is_empty (Some c))

  pub holds : (t : RoutineTables) → ((k : ℕ) → IsIn (slice_get t.functions k) (routine_of p (id.Function k))) → ((c m : ℕ) → IsIn (slice_get (items_at (slice_get t.methods c)) m) (routine_of p (id.Method c m)))
      → ((c : ℕ) → IsIn (slice_get t.bodies c) (routine_of p (id.Body c))) → Holds p t
  holds t f m b = record { parameters = by; locals = on }
    where
      by : (i : RoutineId) → parameters_at t i ≡ (routine_of p i).parameters
      by (id.Function k) = (f k).parameters
      by (id.Method c x) = (m c x).parameters
      by (id.Body c) = (b c).parameters

      on : (i : RoutineId) → locals_at t i ≡ (routine_of p i).locals
      on (id.Function k) = (f k).locals
      on (id.Method c x) = (m c x).locals
      on (id.Body c) = (b c).locals
