-- The first program of a task, and then the rest.
use Rattle.std.proofs.Common.{◌≡◌, ℕ, suc, ◌+◌, ◌<◌, ◌≤◌, List, [], ◌∷◌, Option, Some, None, Result, refl, subst, sym, ap, ◌∙◌, add-one, drop, drop-cons, get_or, length, option_map}
use Rattle.std.specs.Prelude.{slice_get}
use Rattle.std.proofs.lemmas.Option.{slice_get-map}
use Rattle.st_rules.proofs.ListLaws.{drop-end}
use Rattle.st_tree.specs.declared.program.Program.{Program as CheckedProgram}
use Rattle.st_tree.specs.declared.program.RegionDecl.{RegionDecl}
use Rattle.st_values.specs.Program.{Program, Routine, body_of}
use Rattle.st_values.specs.View.{program_of, region_of}
use Rattle.st_values.specs.Value.{◌>>=◌ as ◌>>?◌}
use Rattle.st_meaning.specs.Call.{class_of_kind}
use Rattle.st_meaning.specs.State.{State, Outcome, Done, Fault, go_on, there}
use Rattle.st_meaning.specs.Enter.{enter, most_calls, program_body, run_programs}
use Rattle.run_state.specs.declared.state.Stop.{Stop}
use Rattle.run_state.specs.State.{Agrees}
use Rattle.reference_tasks.specs.Private.Programs.{one_program, in_order}

-- the same under another name
pub agrees_so : {A : Type 0} (r : Result A Stop) (o w : Outcome A) (t : State) → w ≡ o → Agrees r o t → Agrees r w t
agrees_so r o w t e h = subst (λ x. Agrees r x t) (sym e) h

one_by_one : {A B C : Type 0} (o : Outcome A) (f : A → State → Outcome B) (g : B → State → Outcome C) → go_on (go_on o f) g ≡ go_on o (λ a s. go_on (f a s) g)
one_by_one (Done a s) f g = refl
one_by_one (Fault k l) f g = refl

as_well : {A B : Type 0} (o : Outcome A) (f g : A → State → Outcome B) → ((a : A) (s : State) → f a s ≡ g a s) → go_on o f ≡ go_on o g
as_well (Done a s) f g h = h a s
as_well (Fault k l) f g h = refl

-- a program of a task, and then what goes on behind it
programs_first : (p : Program) (r : ℕ) (line : ℕ) (s : State) (rest : State → Outcome (Unit {0}))
    → go_on (there (program_body p r) line s) (λ body u. go_on (enter p (suc most_calls) body (Some (record { region = r; steps = [] })) [] line u) (λ frame v. rest v))
    ≡ go_on (one_program p (suc most_calls) r line s) (λ a u. rest u)
programs_first p r line s rest =
    as_well (there (program_body p r) line s) _ _ (λ body u. sym (one_by_one (enter p (suc most_calls) body (Some (record { region = r; steps = [] })) [] line u) (λ frame v. Done tt v) (λ a v. rest v)))
    ∙ sym (one_by_one (there (program_body p r) line s) (λ body u. go_on (enter p (suc most_calls) body (Some (record { region = r; steps = [] })) [] line u) (λ frame v. Done tt v)) (λ a u. rest u))

-- the programs of a task are run in order
pub as_ordered : (p : Program) (rs : List ℕ) (line : ℕ) (s : State) → run_programs p rs line s ≡ in_order p (suc most_calls) rs line s
as_ordered p [] line s = refl
as_ordered p (r ∷ rs) line s =
    programs_first p r line s (run_programs p rs line)
    ∙ as_well (one_program p (suc most_calls) r line s) _ _ (λ a u. as_ordered p rs line u)

drop-number : (rs : List ℕ) (i r : ℕ) → i < length rs → r ≡ get_or rs i 0 → drop i rs ≡ r ∷ drop (i + 1) rs
drop-number rs i r l e = drop-cons rs i 0 l ∙ ap (λ y. y ∷ drop (suc i) rs) (sym e) ∙ ap (λ n. r ∷ drop n rs) (sym (add-one i))

module _ (p : Program) (room line : ℕ) (s : State) (i : ℕ) (rs : List ℕ) where
  pub programs_at : (r : ℕ) → i < length rs → r ≡ get_or rs i 0 → in_order p room (drop i rs) line s ≡ go_on (one_program p room r line s) (λ a u. in_order p room (drop (i + 1) rs) line u)
  programs_at r l e = ap (λ us. in_order p room us line s) (drop-number rs i r l e)

  pub programs_end : (w : Outcome (Unit {0})) → in_order p room (drop i rs) line s ≡ w → length rs ≤ i → w ≡ Done tt s
  programs_end w h l = sym h ∙ ap (λ us. in_order p room us line s) (drop-end rs i l)

-- ---- the body of a region's program

pub region_body : (q : CheckedProgram) (region : ℕ) → program_body (program_of q) region ≡ (slice_get q.regions region >>? λ d. body_of (program_of q) (class_of_kind d.kind))
region_body q region = ap (λ o. o >>? λ x. body_of (program_of q) (class_of_kind x.variable.kind)) (slice_get-map region_of q.regions region) ∙ mapped (slice_get q.regions region)
  where
    mapped : (o : Option RegionDecl) → (option_map region_of o >>? λ x. body_of (program_of q) (class_of_kind x.variable.kind)) ≡ (o >>? λ d. body_of (program_of q) (class_of_kind d.kind))
    mapped None = refl
    mapped (Some d) = refl

module _ (p q : CheckedProgram) (region : ℕ) where
  pub begins_with : (d : RegionDecl) (o : Option Routine) → q ≡ p → slice_get p.regions region ≡ Some d → o ≡ body_of (program_of q) (class_of_kind d.kind) → o ≡ program_body (program_of q) region
  begins_with d o same here found =
      found ∙ sym (region_body q region ∙ ap (λ z. z >>? λ x. body_of (program_of q) (class_of_kind x.kind)) (ap (λ (x : CheckedProgram). slice_get x.regions region) same ∙ here))

  pub begins_with_none : q ≡ p → slice_get p.regions region ≡ None → None ≡ program_body (program_of q) region
  begins_with_none same here =
      sym (region_body q region ∙ ap (λ z. z >>? λ x. body_of (program_of q) (class_of_kind x.kind)) (ap (λ (x : CheckedProgram). slice_get x.regions region) same ∙ here))
