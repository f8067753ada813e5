-- The code of a program is valid.
use Rattle.std.proofs.Common.{◌≡◌, ◌<◌, ℕ, ◌+◌, ◌*◌, Bool, length, Option, Some, sym, ap, ◌∙◌, subst, arith}
use Rattle.std.specs.Prelude.{slice_get}
use Rattle.st_values.specs.Program.{Program}
use Rattle.st_meaning.specs.st_frame.Promise.Declarations.{scope_of, RoutineIs}
use Rattle.st_meaning.specs.st_frame.Promise.Programs.{ProgramIs}
use Rattle.stack_code.specs.declared.op.Op.TheVariants as op
use Rattle.stack_code.specs.declared.code.RoutineCode.{RoutineCode}
use Rattle.stack_code.specs.declared.code.MachineCode.{MachineCode}
use Rattle.stack_code.specs.Validity.{IsValidRoutine, IsValid}
use Rattle.code_cells.specs.Settled.{IsCalled, EntersCalled, Whole}
use Rattle.code_cells.proofs.RoutineLaws.{routine_valid}
use Rattle.code_rules.specs.Plan.{Plan}
use Rattle.code_rules.specs.Places.{locals_end}
use Rattle.valid_emitted.proofs.Effects.{effects_leave}
use Rattle.valid_emitted.proofs.Routines.{called_whole, program_whole, hook_whole, at_end}
use Rattle.call_forms.specs.Tables.{Form, for_calls, for_runs, for_hooks, routine_in, forms, runs_from}
use Rattle.valid_programs.specs.Compiled.{code_by, IsRoutine, CompiledIs, IsPlanOf, HasPrograms}
use Rattle.valid_programs.proofs.Entering.{Only, only_called, called_only, program_only, hook_only}
use Rattle.valid_programs.proofs.Numbers.{there_of, below_of, called_form, slot_below, TargetsBelow, targets_below, target_below, first_below, body_below, row_below}

one_there : {A : Type 0} {o : Option A} {a b : A} → o ≡ Some a → o ≡ Some b → a ≡ b
one_there e f = let g = sym e ∙ f in cc

module _ (p : Program) (fine : ProgramIs p) (programs : HasPrograms p) (lives : ℕ → Bool) (plans : Form → Plan) (code : MachineCode) (right : (n : ℕ) (f : Form) → slice_get (forms p) n ≡ Some f → RoutineIs p (routine_in f) × IsPlanOf p f (plans f)) (is : CompiledIs p lives plans code) where
  abbrev Few : ℕ → Type 0
  Few k = k < runs_from p

  few_there : (k : ℕ) → Few k → k < length code.routines
  few_there k h = let c = called_form p k h in let l = below_of (forms p) k (for_calls c.0) c.1 in let n = is.count in omega (arith, l, n)

  -- what calls may enter takes a block and leaves no words
  is_called : (k : ℕ) (x : RoutineCode) → Few k → slice_get code.routines k ≡ Some x → IsCalled x
  is_called k x h e =
      let c = called_form p k h in
      let r = is.routines k (for_calls c.0) c.1 in
      subst IsCalled (one_there r.1 e) (record { args = r.2.args; rets = r.2.rets })

  only_few : (f : Form) (w : Plan) → IsPlanOf p f w → Only Few (code_by p w f)
  only_few (for_calls x) w h = called_only Few w h.functions h.methods h.bodies p x.line x 8
  only_few (for_runs x) w h = program_only Few w h.functions h.methods h.bodies p x.line x 0
  only_few (for_hooks x) w h = hook_only Few w h.functions h.methods h.bodies p x.line x (8 * length x.parameters)

  whole_of : (f : Form) (w : Plan) → IsPlanOf p f w → RoutineIs p (routine_in f) → Whole (code_by p w f)
  whole_of (for_calls x) w h r = called_whole p (scope_of x) w h.knows x.line x 8 (effects_leave p (scope_of x) w h.knows fine at_end (locals_end p 8 x.locals) x.body r.body)
  whole_of (for_runs x) w h r = program_whole p (scope_of x) w h.knows x.line x 0 (effects_leave p (scope_of x) w h.knows fine at_end (locals_end p 0 x.locals) x.body r.body)
  whole_of (for_hooks x) w h r =
      hook_whole p (scope_of x) w h.knows x.line x (8 * length x.parameters) (effects_leave p (scope_of x) w h.knows fine at_end (locals_end p (8 * length x.parameters) x.locals) x.body r.body)

  -- what an instruction of a routine calls by number
  few_called : (n : ℕ) (f : Form) (r : RoutineCode) (at k m : ℕ) → slice_get (forms p) n ≡ Some f → IsRoutine p (plans f) f r → slice_get r.ops at ≡ Some (op.Call k m) → Few k
  few_called n f r at k m e h o = only_called Few 0 (code_by p (plans f) f) at k m (only_few f (plans f) (right n f e).1) (sym (ap (λ ops. slice_get ops at) h.settles.ops) ∙ o)

  enters_called : (n : ℕ) (f : Form) (r : RoutineCode) → slice_get (forms p) n ≡ Some f → IsRoutine p (plans f) f r → EntersCalled code r
  enters_called n f r e h = record {
    call = λ at k m x o t. is_called k x (few_called n f r at k m e h o) t;
    method = λ at c s m k x o y t. is_called k x (slot_below p lives code.slots y.0 s k is.slots y.2) t;
    target = λ at i j m k x o y t. is_called k x (first_below p code.targets y.0 i j k (subst (TargetsBelow p) (sym is.targets) (targets_below p lives 0 p.classes)) y.1) t;
  }

  form_of : (n : ℕ) (r : RoutineCode) → slice_get code.routines n ≡ Some r → (f : Form) × (slice_get (forms p) n ≡ Some f) × IsRoutine p (plans f) f r
  form_of n r e =
      let l = below_of code.routines n r e in
      let c = is.count in
      let f = there_of (forms p) n (omega (arith, l, c)) in
      let x = is.routines n f.0 f.1 in
      (f.0, f.1, subst (IsRoutine p (plans f.0) f.0) (one_there x.1 e) x.2)

  routine_is_valid : (n : ℕ) (r : RoutineCode) → slice_get code.routines n ≡ Some r → IsValidRoutine code r
  routine_is_valid n r e =
      let f = form_of n r e in
      let k = right n f.0 f.1 in
      routine_valid code r f.2.rets (enters_called n f.0 r f.1 f.2) (code_by p (plans f.0) f.0) f.2.settles (whole_of f.0 (plans f.0) k.1 k.0)

  pub program_valid : IsValid code
  program_valid = record {
    routines = λ k r e. routine_is_valid k r e;
    calls = λ j r at k n e o. let f = form_of j r e in few_there k (few_called j f.0 r at k n f.1 f.2 o);
    slots = λ c s k e. few_there k (slot_below p lives code.slots c s k is.slots e);
    targets = λ i t e. few_there t.routine (target_below p code.targets i t (subst (TargetsBelow p) (sym is.targets) (targets_below p lives 0 p.classes)) e);
    bodies = λ i b e.
        let h = body_below p programs 0 p.regions i b (λ j x q. let z : 0 + j ≡ j = omega arith in ap (slice_get p.regions) z ∙ q) (sym (ap (λ bs. slice_get bs i) is.bodies) ∙ e) in
        let c = is.count in
        omega (arith, h, c);
    methods = λ i m e.
        let h = row_below p 0 p.classes i m (λ n k q. let z : 0 + n ≡ n = omega arith in ap (slice_get p.classes) z ∙ q) (sym (ap (λ ms. slice_get ms i) is.methods) ∙ e) in
        let c = is.count in
        omega (arith, h, c);
  }
