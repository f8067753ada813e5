-- What is read of a declaration is what its routine has.
use Rattle.std.proofs.Common.{◌≡◌, ◌≤◌, ◌<◌, ℕ, zero, suc, ◌+◌, ◌-◌, Bool, true, false, List, [], ◌∷◌, length, Option, Some, None, refl, sym, ap, ◌∙◌, subst, arith, ◌⊎◌, inl, inr}
use Rattle.std.specs.Prelude.{if◌then◌else◌, nat_lt, option_map, slice_get}
use Rattle.std.proofs.lemmas.Option.{slice_get-map}
use Rattle.std.proofs.lemmas.Bool.Decides.{nat_tests}
use Rattle.st_tree.specs.declared.declaration.FunctionDecl.{FunctionDecl}
use Rattle.st_tree.specs.declared.declaration.Method.{Method}
use Rattle.st_tree.specs.declared.declaration.ProgramDecl.{ProgramDecl}
use Rattle.st_tree.specs.declared.program.Note.{Note}
use Rattle.st_tree.specs.declared.program.Program.{Program as CheckedProgram}
use Rattle.st_tree.specs.Statement.{statements_of}
use Rattle.st_values.specs.Program.{body_in, body_of}
use Rattle.st_values.specs.View.{method_of, function_of, programs_from, program_of}
use Rattle.program_tables.specs.declared.routine.RoutineId.TheVariants as id
use Rattle.program_tables.specs.Routine.{method_at, or_empty, routine_of}
use Rattle.program_tables.specs.Private.Text.{function_text, method_text, class_text, program_text, body_text, function_line, method_line, class_line, program_line, body_line, function_name, method_name, class_name, program_name, body_name}
use Rattle.program_tables.proofs.ClassLaws.{within_get, class_is_there, program_at}

pub below : (a b : ℕ) → ((a < b) × (nat_lt a b ≡ true)) ⊎ ((b ≤ a) × (nat_lt a b ≡ false))
below a b = at (nat_lt a b) refl
  where
    at : (t : Bool) → nat_lt a b ≡ t → ((a < b) × (nat_lt a b ≡ true)) ⊎ ((b ≤ a) × (nat_lt a b ≡ false))
    at true e = let h : a < b = grind (arith, nat_tests) in inl (h, e)
    at false e = let h : b ≤ a = grind (arith, nat_tests) in inr (h, e)

module _ (p : CheckedProgram) where
  -- ---- functions

  function_statements : (k : ℕ) (o : Option (FunctionDecl Note)) → statements_of (function_text o) ≡ (or_empty None (option_map function_of o)).body
  function_statements k None = refl
  function_statements k (Some f) = refl

  pub text_of_function : (k : ℕ) → statements_of (function_text (slice_get p.functions k)) ≡ (routine_of p (id.Function k)).body
  unfolding routine_of
  text_of_function k = function_statements k (slice_get p.functions k) ∙ ap (λ o. (or_empty None o).body) (sym (slice_get-map function_of p.functions k))

  function_begins : (k : ℕ) (o : Option (FunctionDecl Note)) → function_line o ≡ (or_empty None (option_map function_of o)).line
  function_begins k None = refl
  function_begins k (Some f) = refl

  pub line_of_function : (k : ℕ) → function_line (slice_get p.functions k) ≡ (routine_of p (id.Function k)).line
  unfolding routine_of
  line_of_function k = function_begins k (slice_get p.functions k) ∙ ap (λ o. (or_empty None o).line) (sym (slice_get-map function_of p.functions k))

  -- ---- methods

  method_statements : (c : ℕ) (o : Option (Method Note)) → statements_of (method_text o) ≡ (or_empty (Some c) (option_map (method_of c) o)).body
  method_statements c None = refl
  method_statements c (Some m) = refl

  pub text_of_method : (c m : ℕ) → statements_of (method_text (method_at p.classes c m)) ≡ (routine_of p (id.Method c m)).body
  unfolding routine_of
  text_of_method c m = method_statements c (method_at p.classes c m)

  method_begins : (c : ℕ) (o : Option (Method Note)) → method_line o ≡ (or_empty (Some c) (option_map (method_of c) o)).line
  method_begins c None = refl
  method_begins c (Some m) = refl

  pub line_of_method : (c m : ℕ) → method_line (method_at p.classes c m) ≡ (routine_of p (id.Method c m)).line
  unfolding routine_of
  line_of_method c m = method_begins c (method_at p.classes c m)

  -- ---- bodies

  program_statements : (x c k : ℕ) (ds : List (ProgramDecl Note)) → statements_of (program_text (slice_get ds k)) ≡ (or_empty (Some x) (body_in (slice_get (programs_from c ds) k))).body
  program_statements x c k [] = refl
  program_statements x c zero (d ∷ ds) = refl
  program_statements x c (suc k) (d ∷ ds) = program_statements x (suc c) k ds

  program_begins : (x c k : ℕ) (ds : List (ProgramDecl Note)) → program_line (slice_get ds k) ≡ (or_empty (Some x) (body_in (slice_get (programs_from c ds) k))).line
  program_begins x c k [] = refl
  program_begins x c zero (d ∷ ds) = refl
  program_begins x c (suc k) (d ∷ ds) = program_begins x (suc c) k ds

  pub text_of_body : (c : ℕ) → statements_of (body_text p c) ≡ (routine_of p (id.Body c)).body
  unfolding routine_of
  text_of_body c = at (below c (length p.classes))
    where
      at : ((c < length p.classes) × (nat_lt c (length p.classes) ≡ true)) ⊎ ((length p.classes ≤ c) × (nat_lt c (length p.classes) ≡ false)) → statements_of (body_text p c) ≡ (or_empty (Some c) (body_of (program_of p) c)).body
      at (inl h) =
          let d = within_get p.classes c h.0 in
          ap (λ b. statements_of (if b then class_text (slice_get p.classes c) else program_text (slice_get p.programs (c - length p.classes)))) h.1
          ∙ ap (λ o. statements_of (class_text o)) d.1
          ∙ ap (λ o. (or_empty (Some c) (body_in o)).body) (sym (class_is_there p c d.0 d.1))
      at (inr h) =
          ap (λ b. statements_of (if b then class_text (slice_get p.classes c) else program_text (slice_get p.programs (c - length p.classes)))) h.1
          ∙ program_statements c (length p.classes) (c - length p.classes) p.programs
          ∙ ap (λ o. (or_empty (Some c) (body_in o)).body) (sym (program_at p c h.0))

  pub line_of_body : (c : ℕ) → body_line p c ≡ (routine_of p (id.Body c)).line
  unfolding routine_of
  line_of_body c = at (below c (length p.classes))
    where
      at : ((c < length p.classes) × (nat_lt c (length p.classes) ≡ true)) ⊎ ((length p.classes ≤ c) × (nat_lt c (length p.classes) ≡ false)) → body_line p c ≡ (or_empty (Some c) (body_of (program_of p) c)).line
      at (inl h) =
          let d = within_get p.classes c h.0 in
          ap (λ b. if b then class_line (slice_get p.classes c) else program_line (slice_get p.programs (c - length p.classes))) h.1
          ∙ ap (λ o. class_line o) d.1
          ∙ ap (λ o. (or_empty (Some c) (body_in o)).line) (sym (class_is_there p c d.0 d.1))
      at (inr h) =
          ap (λ b. if b then class_line (slice_get p.classes c) else program_line (slice_get p.programs (c - length p.classes))) h.1
          ∙ program_begins c (length p.classes) (c - length p.classes) p.programs
          ∙ ap (λ o. (or_empty (Some c) (body_in o)).line) (sym (program_at p c h.0))

  -- ---- names

  function_named : (k : ℕ) (o : Option (FunctionDecl Note)) → function_name o ≡ (or_empty None (option_map function_of o)).name
  function_named k None = refl
  function_named k (Some f) = refl

  pub name_of_function : (k : ℕ) → function_name (slice_get p.functions k) ≡ (routine_of p (id.Function k)).name
  unfolding routine_of
  name_of_function k = function_named k (slice_get p.functions k) ∙ ap (λ o. (or_empty None o).name) (sym (slice_get-map function_of p.functions k))

  method_named : (c : ℕ) (o : Option (Method Note)) → method_name o ≡ (or_empty (Some c) (option_map (method_of c) o)).name
  method_named c None = refl
  method_named c (Some m) = refl

  pub name_of_method : (c m : ℕ) → method_name (method_at p.classes c m) ≡ (routine_of p (id.Method c m)).name
  unfolding routine_of
  name_of_method c m = method_named c (method_at p.classes c m)

  program_named : (x c k : ℕ) (ds : List (ProgramDecl Note)) → program_name (slice_get ds k) ≡ (or_empty (Some x) (body_in (slice_get (programs_from c ds) k))).name
  program_named x c k [] = refl
  program_named x c zero (d ∷ ds) = refl
  program_named x c (suc k) (d ∷ ds) = program_named x (suc c) k ds

  pub name_of_body : (c : ℕ) → body_name p c ≡ (routine_of p (id.Body c)).name
  unfolding routine_of
  name_of_body c = at (below c (length p.classes))
    where
      at : ((c < length p.classes) × (nat_lt c (length p.classes) ≡ true)) ⊎ ((length p.classes ≤ c) × (nat_lt c (length p.classes) ≡ false)) → body_name p c ≡ (or_empty (Some c) (body_of (program_of p) c)).name
      at (inl h) =
          let d = within_get p.classes c h.0 in
          ap (λ b. if b then class_name (slice_get p.classes c) else program_name (slice_get p.programs (c - length p.classes))) h.1
          ∙ ap (λ o. class_name o) d.1
          ∙ ap (λ o. (or_empty (Some c) (body_in o)).name) (sym (class_is_there p c d.0 d.1))
      at (inr h) =
          ap (λ b. if b then class_name (slice_get p.classes c) else program_name (slice_get p.programs (c - length p.classes))) h.1
          ∙ program_named c (length p.classes) (c - length p.classes) p.programs
          ∙ ap (λ o. (or_empty (Some c) (body_in o)).name) (sym (program_at p c h.0))

  -- ---- classes

  function_class : (o : Option (FunctionDecl Note)) → None ≡ (or_empty None (option_map function_of o)).class
  function_class None = refl
  function_class (Some f) = refl

  pub class_of_function : (k : ℕ) → None ≡ (routine_of p (id.Function k)).class
  unfolding routine_of
  class_of_function k = function_class (slice_get p.functions k) ∙ ap (λ o. (or_empty None o).class) (sym (slice_get-map function_of p.functions k))

  method_class : (c : ℕ) (o : Option (Method Note)) → Some c ≡ (or_empty (Some c) (option_map (method_of c) o)).class
  method_class c None = refl
  method_class c (Some m) = refl

  pub class_of_method : (c m : ℕ) → Some c ≡ (routine_of p (id.Method c m)).class
  unfolding routine_of
  class_of_method c m = method_class c (method_at p.classes c m)

  program_class : (c k : ℕ) (ds : List (ProgramDecl Note)) → Some (c + k) ≡ (or_empty (Some (c + k)) (body_in (slice_get (programs_from c ds) k))).class
  program_class c k [] = refl
  program_class c zero (d ∷ ds) = let e : c + 0 ≡ c = omega arith in ap Some e
  program_class c (suc k) (d ∷ ds) =
      let e : suc c + k ≡ c + suc k = omega arith in
      subst (λ (x : ℕ). Some x ≡ (or_empty (Some x) (body_in (slice_get (programs_from (suc c) ds) k))).class) e (program_class (suc c) k ds)

  pub class_of_body : (c : ℕ) → Some c ≡ (routine_of p (id.Body c)).class
  unfolding routine_of
  class_of_body c = at (below c (length p.classes))
    where
      at : ((c < length p.classes) × (nat_lt c (length p.classes) ≡ true)) ⊎ ((length p.classes ≤ c) × (nat_lt c (length p.classes) ≡ false)) → Some c ≡ (or_empty (Some c) (body_of (program_of p) c)).class
      at (inl h) =
          let d = within_get p.classes c h.0 in
          ap (λ o. (or_empty (Some c) (body_in o)).class) (sym (class_is_there p c d.0 d.1))
      at (inr h) =
          let l = h.0 in
          let e : length p.classes + (c - length p.classes) ≡ c = omega (arith, l) in
          subst (λ (x : ℕ). Some x ≡ (or_empty (Some x) (body_in (slice_get (programs_from (length p.classes) p.programs) (c - length p.classes)))).class) e (program_class (length p.classes) (c - length p.classes) p.programs)
          ∙ ap (λ o. (or_empty (Some c) (body_in o)).class) (sym (program_at p c h.0))
