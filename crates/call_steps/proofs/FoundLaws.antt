-- What is found on an instance, in whatever order one looks.
use Rattle.std.proofs.Common.{◌≡◌, ℕ, Option, Some, None, Err, option_map, refl, sym, ap, ◌∙◌}
use Rattle.plc_text.specs.declared.fault.FaultKind.TheVariants.{Null}
use Rattle.st_tree.specs.declared.path.Path.{Path}
use Rattle.st_tree.specs.declared.program.Program.{Program as CheckedProgram}
use Rattle.st_values.specs.Program.{Routine, Program, body_of}
use Rattle.st_values.specs.Value.{Value, ◌>>=◌ as ◌>>?◌}
use Rattle.st_meaning.specs.State.{Spot, State, Outcome, Done, Fault, go_on, gives, there, path_of}
use Rattle.run_state.specs.declared.state.Stop.{Stop}
use Rattle.run_state.specs.declared.state.Stop.TheVariants as stop
use Rattle.run_state.specs.Places.{spot_value}
use Rattle.run_state.specs.State.{Shows}
use Rattle.run_state.proofs.Stores.{read-is}
use Rattle.run_state.proofs.Faults.{faulted}
use Rattle.call_steps.specs.declared.found.Found.{Found as CodeFound}
use Rattle.call_steps.specs.Found.{Found, found_of, class_there, on_instance, on_base}
use Rattle.call_steps.specs.Private.Found.{class_in_value, class_if_there, found_on, found_by}

module _ (p : Program) (line : ℕ) (s : State) where
  pub class_is : (spot : Spot) → class_there p spot line s ≡ there (class_if_there p (spot_value s spot)) line s
  class_is spot = ap (λ o. go_on o (λ v. there (class_in_value p v) line)) (read-is spot line s) ∙ of (spot_value s spot)
    where
      of : (o : Option Value) → go_on (there o line s) (λ v. there (class_in_value p v) line) ≡ there (class_if_there p o) line s
      of None = refl
      of (Some v) = refl

  -- the routine of a class, with the instance
  abbrev from_class : (ℕ → Option Routine) → Path → ℕ → State → Outcome Found
  from_class sought q c t = go_on (there (sought c) line t) (λ r. gives (record { routine = r; own = q }) line)

  in_class : (sought : ℕ → Option Routine) (q : Path) (o : Option ℕ) → go_on (there o line s) (from_class sought q) ≡ there (o >>? λ c. found_on (sought c) (Some q)) line s
  in_class sought q None = refl
  in_class sought q (Some c) = of (sought c)
    where
      of : (o : Option Routine) → go_on (there o line s) (λ r. gives (record { routine = r; own = q }) line) ≡ there (found_on o (Some q)) line s
      of None = refl
      of (Some r) = refl

  no_path : (sought : ℕ → Option Routine) (o : Option ℕ) → Fault Null line ≡ there (o >>? λ c. found_on (sought c) None) line s
  no_path sought None = refl
  no_path sought (Some c) = of (sought c)
    where
      of : (o : Option Routine) → Fault Null line ≡ there (found_on o None) line s
      of None = refl
      of (Some r) = refl

  pub on_is : (sought : ℕ → Option Routine) (spot : Spot) → on_instance p sought spot line s ≡ there (found_by p sought s spot) line s
  on_is sought spot = of (path_of spot)
    where
      of : (q : Option Path) → go_on (there q line s) (λ own t. go_on (class_there p spot line t) (from_class sought own)) ≡ there (class_if_there p (spot_value s spot) >>? λ c. found_on (sought c) q) line s
      of None = no_path sought (class_if_there p (spot_value s spot))
      of (Some own) = ap (λ o. go_on o (from_class sought own)) (class_is spot) ∙ in_class sought own (class_if_there p (spot_value s spot))

  pub base_is : (d : ℕ) (spot : Spot) → on_base p d spot line s ≡ there (found_on (body_of p d) (path_of spot)) line s
  base_is d spot = of (path_of spot) (body_of p d)
    where
      of : (q : Option Path) (b : Option Routine) → go_on (there q line s) (λ own t. go_on (there b line t) (λ r. gives (record { routine = r; own = own }) line)) ≡ there (found_on b q) line s
      of None None = refl
      of None (Some r) = refl
      of (Some own) None = refl
      of (Some own) (Some r) = refl

-- ---- the answers

module _ (p : CheckedProgram) (o : Outcome Found) (found : Option Found) (line : ℕ) (s : State) (is : o ≡ there found line s) where
  pub shows_found : (f : CodeFound) → option_map (found_of p) (Some f) ≡ found → o ≡ Done (found_of p f) s
  shows_found f e = is ∙ ap (λ x. there x line s) (sym e)

  pub shows_nothing : (e : Stop) → option_map (found_of p) None ≡ found → e ≡ stop.Fault (record { kind = Null; line = line }) → Shows {C = CodeFound} (found_of p) (Err e) o s
  shows_nothing e n h = faulted (found_of p) e Null line o s h (is ∙ ap (λ x. there x line s) (sym n))
