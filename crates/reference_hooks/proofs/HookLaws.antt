-- The hooks that classes declare themselves, in a table.
use Rattle.std.proofs.Common.{◌≡◌, ◌≤◌, ◌<◌, ℕ, zero, suc, ◌+◌, ◌-◌, Bool, true, false, cond, List, [], ◌∷◌, ◌++◌, length, map, Option, Some, None, refl, sym, ap, ◌∙◌, arith, inl, inr, ◌⊎◌, length-append}
use Rattle.std.proofs.lemmas.Option.{slice_get_past}
use Rattle.std.specs.Prelude.{if◌then◌else◌, option_map, slice_get}
use Rattle.std.specs.List.{position_from}
use Rattle.plc_text.specs.Words.{same}
use Rattle.st_tree.specs.declared.declaration.ClassDecl.{ClassDecl}
use Rattle.st_tree.specs.declared.declaration.InterfaceDecl.{InterfaceDecl}
use Rattle.st_tree.specs.declared.declaration.Member.{Member}
use Rattle.st_tree.specs.declared.declaration.Member.TheVariants as member
use Rattle.st_tree.specs.declared.declaration.ProgramDecl.{ProgramDecl}
use Rattle.st_tree.specs.declared.program.Note.{Note}
use Rattle.st_tree.specs.declared.program.Program.{Program as CheckedProgram}
use Rattle.st_rules.specs.Classes.{methods_in}
use Rattle.st_values.specs.Program as plain
use Rattle.st_values.specs.Program.{Routine, Class, class_at, body_in, named, own_method}
use Rattle.st_values.specs.View.{classes_from, method_of, program_of, programs_from}
use Rattle.st_change.specs.Hook.{When, hook_name, class_name}
use Rattle.program_tables.specs.declared.routine.RoutineId.{RoutineId}
use Rattle.program_tables.specs.declared.routine.RoutineId.TheVariants as id
use Rattle.program_tables.specs.Routine.{members_of, method_in, or_empty, routine_of}
use Rattle.program_tables.proofs.ClassLaws.{class_is_there, no_method}
use Rattle.reference_hooks.specs.Tables.{id_at, AreOwn}
use Rattle.reference_hooks.specs.Private.Hooks.{is_hook}

-- ---- lists

suc_both : (b : Bool) (i : ℕ) (o : Option ℕ) → cond b (Some (suc i)) (option_map suc o) ≡ option_map suc (cond b (Some i) o)
suc_both true i o = refl
suc_both false i o = refl

at_end : {A : Type 0} (xs : List A) (x : A) → slice_get (xs ++ x ∷ []) (length xs) ≡ Some x
at_end [] x = refl
at_end (y ∷ xs) x = at_end xs x

before_end : {A : Type 0} (xs ys : List A) (k : ℕ) → k < length xs → slice_get (xs ++ ys) k ≡ slice_get xs k
before_end [] ys k h = absurd (omega arith)
before_end (x ∷ xs) ys zero h = refl
before_end (x ∷ xs) ys (suc k) h = before_end xs ys k (omega arith)

split : (a b : ℕ) → (a < b) ⊎ (b ≤ a)
split zero zero = inr (omega arith)
split zero (suc b) = inl (omega arith)
split (suc a) zero = inr (omega arith)
split (suc a) (suc b) = elim (split a b) [ inl p ↦ inl (omega arith) | inr p ↦ inr (omega arith) ]

-- ---- the hook among the members

module _ (w : When) where
  abbrev the_method : ℕ → Option (Member Note) → Routine
  the_method c o = or_empty (Some c) (option_map (method_of c) (method_in o))

  behind_one : (c : ℕ) (x : Member Note) (xs : List (Member Note)) (o : Option ℕ) → option_map (λ k. the_method c (slice_get (x ∷ xs) k)) (option_map suc o) ≡ option_map (λ k. the_method c (slice_get xs k)) o
  behind_one c x xs None = refl
  behind_one c x xs (Some k) = refl

  one_further : (i : ℕ) (ms : List (Member Note)) → position_from (is_hook w) (suc i) ms ≡ option_map suc (position_from (is_hook w) i ms)
  one_further i [] = refl
  one_further i (m ∷ ms) =
      let e : suc i + 1 ≡ suc (i + 1) = omega arith in
      ap (λ n. cond (is_hook w m) (Some (suc i)) (position_from (is_hook w) n ms)) e
      ∙ ap (cond (is_hook w m) (Some (suc i))) (one_further (i + 1) ms)
      ∙ suc_both (is_hook w m) i (position_from (is_hook w) (i + 1) ms)

  named_first : (c : ℕ) (ms : List (Member Note)) → option_map (λ k. the_method c (slice_get ms k)) (position_from (is_hook w) 0 ms) ≡ named (map (method_of c) (methods_in ms)) (hook_name w)
  named_first c [] = refl
  named_first c (member.Section s ∷ ms) =
      ap (option_map (λ k. the_method c (slice_get (member.Section s ∷ ms) k))) (one_further 0 ms)
      ∙ behind_one c (member.Section s) ms (position_from (is_hook w) 0 ms)
      ∙ named_first c ms
  named_first c (member.Method m ∷ ms) =
      ap (λ o. option_map (λ k. the_method c (slice_get (member.Method m ∷ ms) k)) (cond (same m.name.text (hook_name w)) (Some 0) o)) (one_further 0 ms)
      ∙ at (named_first c ms) (same m.name.text (hook_name w))
    where
      at : option_map (λ k. the_method c (slice_get ms k)) (position_from (is_hook w) 0 ms) ≡ named (map (method_of c) (methods_in ms)) (hook_name w) → (b : Bool)
          → option_map (λ k. the_method c (slice_get (member.Method m ∷ ms) k)) (cond b (Some 0) (option_map suc (position_from (is_hook w) 0 ms))) ≡ (if b then Some (method_of c m) else named (map (method_of c) (methods_in ms)) (hook_name w))
      at f true = refl
      at f false = behind_one c (member.Method m) ms (position_from (is_hook w) 0 ms) ∙ f

  module _ (p : CheckedProgram) (c : ℕ) where
    method_is : (k : ℕ) → routine_of p (id.Method c k) ≡ the_method c (slice_get (members_of (slice_get p.classes c)) k)
    unfolding routine_of
    method_is k = refl

    no_class : slice_get p.classes c ≡ None → option_map (routine_of p) None ≡ own_method (program_of p) (hook_name w) c
    no_class e = sym (no_method p c (hook_name w) (past p.classes c e))
      where
        past : {A : Type 0} (xs : List A) (k : ℕ) → slice_get xs k ≡ None → length xs ≤ k
        past [] k h = omega arith
        past (x ∷ xs) zero h = absurd cc
        past (x ∷ xs) (suc k) h = let l = past xs k h in omega (arith, l)

    module _ (d : ClassDecl Note) (there : slice_get p.classes c ≡ Some d) where
      own_is : option_map (λ k. the_method c (slice_get d.members k)) (position_from (is_hook w) 0 d.members) ≡ own_method (program_of p) (hook_name w) c
      own_is = named_first c d.members ∙ sym (ap (λ q. plain.method_of q (hook_name w)) (class_is_there p c d there))

      as_method : (o : Option ℕ) → option_map (routine_of p) (option_map (id.Method c) o) ≡ option_map (λ k. the_method c (slice_get d.members k)) o
      as_method None = refl
      as_method (Some k) = ap Some (method_is k ∙ ap (λ q. the_method c (slice_get (members_of q) k)) there)

    own_by : (o : Option (ClassDecl Note)) → slice_get p.classes c ≡ o → option_map (routine_of p) (option_map (id.Method c) (position_from (is_hook w) 0 (members_of (slice_get p.classes c)))) ≡ own_method (program_of p) (hook_name w) c
    own_by None e = ap (λ q. option_map (routine_of p) (option_map (id.Method c) (position_from (is_hook w) 0 (members_of q)))) e ∙ no_class e
    own_by (Some d) e =
        ap (λ q. option_map (routine_of p) (option_map (id.Method c) (position_from (is_hook w) 0 (members_of q)))) e
        ∙ as_method d e (position_from (is_hook w) 0 d.members) ∙ own_is d e

    -- what is found among the members
    pub own_found : (ms : List (Member Note)) (o : Option ℕ) → ms ≡ members_of (slice_get p.classes c) → o ≡ position_from (is_hook w) 0 ms → option_map (routine_of p) (option_map (id.Method c) o) ≡ own_method (program_of p) (hook_name w) c
    own_found ms o is e =
        ap (λ k. option_map (routine_of p) (option_map (id.Method c) k)) (e ∙ ap (position_from (is_hook w) 0) is) ∙ own_by (slice_get p.classes c) refl

  -- ---- the table

  -- the first so many classes have their entries
  pub record OwnSoFar (p : CheckedProgram) (n : ℕ) (ids : List (Option RoutineId)) : Type 0 where
    pub long : length ids ≡ n
    pub each : (c : ℕ) → c < n → option_map (routine_of p) (id_at (slice_get ids c)) ≡ own_method (program_of p) (hook_name w) c

  module _ (p : CheckedProgram) where
    pub own_none : OwnSoFar p 0 []
    own_none = record { long = refl; each = λ c h. absurd (omega arith) }

    pub own_next : (n : ℕ) (ids : List (Option RoutineId)) (x : Option RoutineId) → OwnSoFar p n ids → option_map (routine_of p) x ≡ own_method (program_of p) (hook_name w) n → OwnSoFar p (n + 1) (ids ++ x ∷ [])
    own_next n ids x so_far e =
        let l = so_far.long in
        let m : length ids + 1 ≡ n + 1 = omega (arith, l) in
        record { long = length-append ids (x ∷ []) ∙ m; each = λ c h. by c h (split c n) }
      where
        by : (c : ℕ) → c < n + 1 → (c < n) ⊎ (n ≤ c) → option_map (routine_of p) (id_at (slice_get (ids ++ x ∷ []) c)) ≡ own_method (program_of p) (hook_name w) c
        by c h (inl q) = let l = so_far.long in ap (λ o. option_map (routine_of p) (id_at o)) (before_end ids (x ∷ []) c (omega (arith, l, q))) ∙ so_far.each c q
        by c h (inr q) =
            let l = so_far.long in
            let at : c ≡ length ids = omega (arith, l, q, h) in
            let is : n ≡ c = omega (arith, q, h) in
            ap (λ k. option_map (routine_of p) (id_at (slice_get (ids ++ x ∷ []) k))) at
            ∙ ap (λ o. option_map (routine_of p) (id_at o)) (at_end ids x) ∙ e ∙ ap (own_method (program_of p) (hook_name w)) is

    pub own_all : (n : ℕ) (ids : List (Option RoutineId)) → length p.classes ≤ n → OwnSoFar p n ids → AreOwn p w ids
    own_all n ids h so_far = record { by = λ c. at c (split c n) }
      where
        at : (c : ℕ) → (c < n) ⊎ (n ≤ c) → option_map (routine_of p) (id_at (slice_get ids c)) ≡ own_method (program_of p) (hook_name w) c
        at c (inl q) = so_far.each c q
        at c (inr q) =
            let l = so_far.long in
            ap (λ o. option_map (routine_of p) (id_at o)) (slice_get_past ids c (omega (arith, l, q)))
            ∙ sym (no_method p c (hook_name w) (omega (arith, h, q)))

-- ---- the name of a class, which its body has too

abbrev name_in : Option Class → List ℕ
name_in None = []
name_in (Some k) = k.name

abbrev body_name : Option Class → List ℕ
body_name None = []
body_name (Some k) = k.body.name

by_classes : (classes : List (ClassDecl Note)) (interfaces : List (InterfaceDecl Note)) (c : ℕ) (ds : List (ClassDecl Note)) (rest : List Class) → ((k : ℕ) → body_name (slice_get rest k) ≡ name_in (slice_get rest k)) → (k : ℕ) → body_name (slice_get (classes_from classes interfaces c ds ++ rest) k) ≡ name_in (slice_get (classes_from classes interfaces c ds ++ rest) k)
by_classes classes interfaces c [] rest h k = h k
by_classes classes interfaces c (d ∷ ds) rest h zero = refl
by_classes classes interfaces c (d ∷ ds) rest h (suc k) = by_classes classes interfaces (suc c) ds rest h k

by_programs : (c : ℕ) (ds : List (ProgramDecl Note)) (k : ℕ) → body_name (slice_get (programs_from c ds) k) ≡ name_in (slice_get (programs_from c ds) k)
by_programs c [] k = refl
by_programs c (d ∷ ds) zero = refl
by_programs c (d ∷ ds) (suc k) = by_programs (suc c) ds k

module _ (p : CheckedProgram) (c : ℕ) where
  of_body : (o : Option Class) → (or_empty (Some c) (body_in o)).name ≡ body_name o
  of_body None = refl
  of_body (Some k) = refl

  of_class : class_name (program_of p) c ≡ name_in (class_at (program_of p) c)
  of_class = refl

  pub body_named : (routine_of p (id.Body c)).name ≡ class_name (program_of p) c
  unfolding routine_of
  body_named =
      of_body (class_at (program_of p) c)
      ∙ by_classes p.classes p.interfaces 0 p.classes (programs_from (length p.classes) p.programs) (by_programs (length p.classes) p.programs) c
      ∙ sym of_class
