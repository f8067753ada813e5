-- What a declaration gives is what its routine has.
use Rattle.std.proofs.Common.{◌≡◌, ◌≤◌, ◌<◌, ℕ, zero, suc, ◌-◌, Bool, true, false, List, [], ◌∷◌, ◌++◌, length, reverse, Option, Some, None, refl, sym, ap, ◌∙◌, subst, arith, append_assoc, ◌⊎◌, inl, inr}
use Rattle.std.specs.Prelude.{if◌then◌else◌, nat_lt, option_map, slice_get}
use Rattle.std.proofs.lemmas.Option.{slice_get-map}
use Rattle.st_tree.specs.declared.declaration.FunctionDecl.{FunctionDecl}
use Rattle.st_tree.specs.declared.declaration.Method.{Method}
use Rattle.st_tree.specs.declared.declaration.ProgramDecl.{ProgramDecl}
use Rattle.st_tree.specs.declared.program.Note.{Note}
use Rattle.st_tree.specs.declared.program.Program.{Program as CheckedProgram}
use Rattle.st_rules.specs.Classes.{chain}
use Rattle.st_values.specs.Program.{Variable, Routine, body_in, body_of}
use Rattle.st_values.specs.View.{method_of, function_of, programs_from, program_of, those, is_of_body, declared_along}
use Rattle.st_values.specs.View as view
use Rattle.program_tables.specs.declared.routine.RoutineId.TheVariants as id
use Rattle.program_tables.specs.Routine.{method_at, or_empty, routine_of}
use Rattle.program_tables.proofs.ClassLaws.{within_get, class_is_there, program_at}
use Rattle.program_tables.proofs.RoutineLaws.{below}
use Rattle.routine_tables.specs.Private.Declared.{parameters, locals, program_declared, body_variables}

pub locals_joined : (r q o : List Variable) → (r ++ q) ++ o ≡ r ++ (q ++ o)
locals_joined r q o = append_assoc r q o

module _ (p : CheckedProgram) where
  -- ---- functions

  pub function_is : (k : ℕ) (o : Option (FunctionDecl Note)) → slice_get p.functions k ≡ o → routine_of p (id.Function k) ≡ or_empty None (option_map function_of o)
  unfolding routine_of
  function_is k o e = ap (or_empty None) (slice_get-map function_of p.functions k ∙ ap (option_map function_of) e)

  pub function_parameters : (k : ℕ) (f : FunctionDecl Note) → slice_get p.functions k ≡ Some f → parameters f.name.text f.result f.sections ≡ (routine_of p (id.Function k)).parameters
  function_parameters k f e = ap (λ (r : Routine). r.parameters) (sym (function_is k (Some f) e))

  pub function_locals : (k : ℕ) (f : FunctionDecl Note) → slice_get p.functions k ≡ Some f → locals f.name.text f.result f.sections ≡ (routine_of p (id.Function k)).locals
  function_locals k f e = ap (λ (r : Routine). r.locals) (sym (function_is k (Some f) e))

  pub no_function_parameters : (k : ℕ) → slice_get p.functions k ≡ None → [] ≡ (routine_of p (id.Function k)).parameters
  no_function_parameters k e = ap (λ (r : Routine). r.parameters) (sym (function_is k None e))

  pub no_function_locals : (k : ℕ) → slice_get p.functions k ≡ None → [] ≡ (routine_of p (id.Function k)).locals
  no_function_locals k e = ap (λ (r : Routine). r.locals) (sym (function_is k None e))

  -- ---- methods

  pub method_is : (c m : ℕ) (o : Option (Method Note)) → method_at p.classes c m ≡ o → routine_of p (id.Method c m) ≡ or_empty (Some c) (option_map (method_of c) o)
  unfolding routine_of
  method_is c m o e = ap (λ x. or_empty (Some c) (option_map (method_of c) x)) e

  pub method_parameters : (c k : ℕ) (m : Method Note) → method_at p.classes c k ≡ Some m → parameters m.name.text m.result m.sections ≡ (routine_of p (id.Method c k)).parameters
  method_parameters c k m e = ap (λ (r : Routine). r.parameters) (sym (method_is c k (Some m) e))

  pub method_locals : (c k : ℕ) (m : Method Note) → method_at p.classes c k ≡ Some m → locals m.name.text m.result m.sections ≡ (routine_of p (id.Method c k)).locals
  method_locals c k m e = ap (λ (r : Routine). r.locals) (sym (method_is c k (Some m) e))

  pub no_method_parameters : (c k : ℕ) → method_at p.classes c k ≡ None → [] ≡ (routine_of p (id.Method c k)).parameters
  no_method_parameters c k e = ap (λ (r : Routine). r.parameters) (sym (method_is c k None e))

  pub no_method_locals : (c k : ℕ) → method_at p.classes c k ≡ None → [] ≡ (routine_of p (id.Method c k)).locals
  no_method_locals c k e = ap (λ (r : Routine). r.locals) (sym (method_is c k None e))

  -- ---- bodies

  pub body_is : (c : ℕ) → routine_of p (id.Body c) ≡ or_empty (Some c) (body_of (program_of p) c)
  unfolding routine_of
  body_is c = refl

  record HasVariables (r : Routine) (vs : List Variable) : Type 0 where
    parameters : view.body_parameters 0 0 vs ≡ r.parameters
    locals : those is_of_body vs ≡ r.locals

  program_has : (x c k : ℕ) (ds : List (ProgramDecl Note)) → HasVariables (or_empty (Some x) (body_in (slice_get (programs_from c ds) k))) (program_declared (slice_get ds k))
  program_has x c k [] = record { parameters = refl; locals = refl }
  program_has x c zero (d ∷ ds) = record { parameters = refl; locals = refl }
  program_has x c (suc k) (d ∷ ds) = program_has x (suc c) k ds

  abbrev when_below : ℕ → Bool → List Variable
  when_below c b = if b then declared_along p.classes (reverse (chain p.classes c)) else program_declared (slice_get p.programs (c - length p.classes))

  body_has : (c : ℕ) → HasVariables (routine_of p (id.Body c)) (body_variables p c)
  body_has c = subst (λ (r : Routine). HasVariables r (body_variables p c)) (sym (body_is c)) (at (below c (length p.classes)))
    where
      at : ((c < length p.classes) × (nat_lt c (length p.classes) ≡ true)) ⊎ ((length p.classes ≤ c) × (nat_lt c (length p.classes) ≡ false)) → HasVariables (or_empty (Some c) (body_of (program_of p) c)) (body_variables p c)
      at (inl h) =
          let d = within_get p.classes c h.0 in
          subst (λ (b : Bool). HasVariables (or_empty (Some c) (body_of (program_of p) c)) (when_below c b)) (sym h.1)
          (subst (λ o. HasVariables (or_empty (Some c) (body_in o)) (when_below c true)) (sym (class_is_there p c d.0 d.1)) (record { parameters = refl; locals = refl }))
      at (inr h) =
          subst (λ (b : Bool). HasVariables (or_empty (Some c) (body_of (program_of p) c)) (when_below c b)) (sym h.1)
          (subst (λ o. HasVariables (or_empty (Some c) (body_in o)) (when_below c false)) (sym (program_at p c h.0)) (program_has c (length p.classes) (c - length p.classes) p.programs))

  pub parameters_of_body : (c : ℕ) → view.body_parameters 0 0 (body_variables p c) ≡ (routine_of p (id.Body c)).parameters
  parameters_of_body c = (body_has c).parameters

  pub locals_of_body : (c : ℕ) → those is_of_body (body_variables p c) ≡ (routine_of p (id.Body c)).locals
  locals_of_body c = (body_has c).locals

  -- ---- which variables they are

  pub variables_of_class : (c : ℕ) → c < length p.classes → declared_along p.classes (reverse (chain p.classes c)) ≡ body_variables p c
  variables_of_class c h = ap (when_below c) (at (below c (length p.classes)))
    where
      at : ((c < length p.classes) × (nat_lt c (length p.classes) ≡ true)) ⊎ ((length p.classes ≤ c) × (nat_lt c (length p.classes) ≡ false)) → true ≡ nat_lt c (length p.classes)
      at (inl k) = sym k.1
      at (inr k) = let l = k.0 in absurd (omega (arith, h, l))

  pub variables_of_program : (c : ℕ) → length p.classes ≤ c → program_declared (slice_get p.programs (c - length p.classes)) ≡ body_variables p c
  variables_of_program c h = ap (when_below c) (at (below c (length p.classes)))
    where
      at : ((c < length p.classes) × (nat_lt c (length p.classes) ≡ true)) ⊎ ((length p.classes ≤ c) × (nat_lt c (length p.classes) ≡ false)) → false ≡ nat_lt c (length p.classes)
      at (inl k) = let l = k.0 in absurd (omega (arith, h, l))
      at (inr k) = sym k.1
