-- The code of programs and hooks, as runs begin it.
use Rattle.std.proofs.Common.{◌≡◌, ℕ, zero, suc, ◌+◌, ◌*◌, Bool, true, false, List, [], ◌∷◌, ◌++◌, length, Some, refl, sym, ap, ◌∙◌, subst, arith}
use Rattle.std.specs.Prelude.{if◌then◌else◌, map, slice_get}
use Rattle.st_meaning.specs.st_frame.OutputPlaces.{OutputsPlaced}
use Rattle.st_values.specs.Program.{Parameter, Routine, Class, Region, Program, class_at, body_of, body_in}
use Rattle.st_values.specs.Value.{Store, ◌>>=◌ as ◌>>?◌}
use Rattle.st_meaning.specs.Call.{class_of_kind}
use Rattle.st_meaning.specs.st_frame.Promise.Programs.{ProgramIs}
use Rattle.st_meaning.specs.st_frame.Promise.Declarations.{RoutineIs, scope_of}
use Rattle.st_meaning.specs.st_frame.Use.{routine_uses}
use Rattle.st_meaning.proofs.st_frame.Bodies.{All, Covered}
use Rattle.stack_code.specs.declared.code.Body.{Body}
use Rattle.stack_code.specs.declared.code.MachineCode.{MachineCode}
use Rattle.code_rules.specs.Bodies.{program_code, hook_code}
use Rattle.code_rules.specs.Plan.{plan_of}
use Rattle.shown_memory.specs.Shown.{Small}
use Rattle.call_forms.specs.Tables.{for_calls, for_runs, for_hooks, those, so_many, is_hook, is_program, methods_of, methods_before, bodies_of, forms, run_at, hook_at, bodies_at, entry_of, numbers_for, tables_of, CodeIs}
use Rattle.table_laws.proofs.TableLaws.{get_those, get_front, get_behind, get_mapped, map_long, get_method, cells_stand}
use Rattle.task_runs.proofs.Tasks.{ProgramCode, EntryIs}
use Rattle.task_runs.proofs.Hooks.{HookCode}

some_once : {A : Type 0} {a b : A} → Some a ≡ Some b → a ≡ b
some_once e = cc

numbers_long : (qs : List Parameter) → length (numbers_for qs) ≡ length qs
numbers_long [] = refl
numbers_long (q ∷ qs) = ap suc (numbers_long qs)

module _ (p : Program) where
  -- the body of a program as runs enter it
  run_form : (c : ℕ) (k : Class) → class_at p c ≡ Some k → is_program k ≡ true → slice_get (forms p) (run_at p c) ≡ Some (for_runs k.body)
  run_form c k e t =
      let fs = map for_calls p.functions in
      let ms = map for_calls (methods_of p.classes) in
      let bs = map for_calls (bodies_of p.classes) in
      let rs = map for_runs (bodies_of (those is_program p.classes)) in
      let hs = map for_hooks (those is_hook (methods_of p.classes)) in
      let i = so_many is_program p.classes c in
      let lf = map_long for_calls p.functions in
      let lm = map_long for_calls (methods_of p.classes) in
      let lb = map_long for_calls (bodies_of p.classes) in
      let lc = map_long (λ (k : Class). k.body) p.classes in
      let at : run_at p c ≡ length fs + (length ms + (length bs + i)) = omega (arith, lf, lm, lb, lc) in
      ap (slice_get (forms p)) at
      ∙ (get_behind fs (ms ++ (bs ++ (rs ++ hs))) (length ms + (length bs + i))
      ∙ (get_behind ms (bs ++ (rs ++ hs)) (length bs + i)
      ∙ (get_behind bs (rs ++ hs) i
      ∙ get_front rs hs i (for_runs k.body) (get_mapped for_runs (bodies_of (those is_program p.classes)) i k.body (get_mapped (λ (k : Class). k.body) (those is_program p.classes) i k (get_those is_program p.classes c k e t))))))

  hook_form : (c j : ℕ) (k : Class) (r : Routine) → class_at p c ≡ Some k → slice_get k.methods j ≡ Some r → is_hook r ≡ true → slice_get (forms p) (hook_at p c j) ≡ Some (for_hooks r)
  hook_form c j k r e f t =
      let fs = map for_calls p.functions in
      let ms = map for_calls (methods_of p.classes) in
      let bs = map for_calls (bodies_of p.classes) in
      let rs = map for_runs (bodies_of (those is_program p.classes)) in
      let hs = map for_hooks (those is_hook (methods_of p.classes)) in
      let i = so_many is_hook (methods_of p.classes) (methods_before p.classes c + j) in
      let lf = map_long for_calls p.functions in
      let lm = map_long for_calls (methods_of p.classes) in
      let lb = map_long for_calls (bodies_of p.classes) in
      let lc = map_long (λ (k : Class). k.body) p.classes in
      let lr = map_long for_runs (bodies_of (those is_program p.classes)) in
      let lp = map_long (λ (k : Class). k.body) (those is_program p.classes) in
      let at : hook_at p c j ≡ length fs + (length ms + (length bs + (length rs + i))) = omega (arith, lf, lm, lb, lc, lr, lp) in
      ap (slice_get (forms p)) at
      ∙ (get_behind fs (ms ++ (bs ++ (rs ++ hs))) (length ms + (length bs + (length rs + i)))
      ∙ (get_behind ms (bs ++ (rs ++ hs)) (length bs + (length rs + i))
      ∙ (get_behind bs (rs ++ hs) (length rs + i)
      ∙ (get_behind rs hs i
      ∙ get_mapped for_hooks (those is_hook (methods_of p.classes)) i r (get_those is_hook (methods_of p.classes) (methods_before p.classes c + j) r (get_method p p.classes c j k r e f) t)))))

  -- the row of a program instance
  get_body : (from i : ℕ) (xs : List Region) (x : Region) → slice_get xs i ≡ Some x → x.program ≡ true → slice_get (bodies_at p from xs) (so_many (λ (y : Region). y.program) xs i) ≡ Some (record { region = from + i; routine = run_at p (class_of_kind x.variable.kind) })
  get_body from i [] x e t = cc
  get_body from zero (y ∷ xs) x e t =
      let d : y ≡ x = some_once e in
      let at : from ≡ from + 0 = omega arith in
      let row : ℕ → Region → Body = λ n z. record { region = n; routine = run_at p (class_of_kind z.variable.kind) } in
      ap (λ b. slice_get ((if b then row from y ∷ [] else []) ++ bodies_at p (suc from) xs) 0) (ap (λ (z : Region). z.program) d ∙ t)
      ∙ (ap (λ (z : Region). Some (row from z)) d ∙ ap (λ n. Some (row n x)) at)
  get_body from (suc i) (y ∷ xs) x e t = by y.program (get_body (suc from) i xs x e t)
    where
      moved_on : suc from + i ≡ from + suc i
      moved_on = omega arith

      by : (b : Bool) → slice_get (bodies_at p (suc from) xs) (so_many (λ (y : Region). y.program) xs i) ≡ Some (record { region = suc from + i; routine = run_at p (class_of_kind x.variable.kind) })
          → slice_get ((if b then record { region = from; routine = run_at p (class_of_kind y.variable.kind) } ∷ [] else []) ++ bodies_at p (suc from) xs) (if b then suc (so_many (λ (y : Region). y.program) xs i) else so_many (λ (y : Region). y.program) xs i) ≡ Some (record { region = from + suc i; routine = run_at p (class_of_kind x.variable.kind) })
      by true h = h ∙ ap (λ n. Some (record { region = n; routine = run_at p (class_of_kind x.variable.kind) })) moved_on
      by false h = h ∙ ap (λ n. Some (record { region = n; routine = run_at p (class_of_kind x.variable.kind) })) moved_on

module _ (p : Program) (fine : ProgramIs p) (is_there : ℕ → Bool) (W : ℕ → Type 0) (first : Store) (R : Routine → Type 0) (code : MachineCode) (small : Small p)
    (closed : (r : Routine) → R r → RoutineIs p r × All (Covered p (λ r. is_there r ≡ true) W R) (routine_uses p r)) (placed_so : OutputsPlaced p) (lives : ℕ → Bool) (is : CodeIs p lives code) where
  -- a program instance has its entry, and the code there is its program's
  pub entry_is : (now r : ℕ) (x : Region) (k : Class) → slice_get p.regions r ≡ Some x → x.program ≡ true → class_at p (class_of_kind x.variable.kind) ≡ Some k → is_program k ≡ true → EntryIs p fine is_there W first R code now 0 (tables_of p) small closed placed_so r (entry_of p r)
  entry_is now r x k e t f u =
      let c = class_of_kind x.variable.kind in
      let at : 0 + r ≡ r = omega arith in
      let form = is.routines (run_at p c) (for_runs k.body) (run_form p c k f u) in
      record {
        body = record { region = 0 + r; routine = run_at p c };
        there = ap (λ l. slice_get l (entry_of p r)) is.bodies ∙ get_body p 0 r p.regions x e t;
        region = at;
        code_is = λ b h.
            let same : k.body ≡ b = some_once (sym (ap body_in f) ∙ (sym (ap (λ o. o >>? λ x. body_of p (class_of_kind x.variable.kind)) e) ∙ h)) in
            subst (λ b. ProgramCode p fine is_there W first R code now 0 (tables_of p) small closed placed_so b (run_at p c)) same
            (record { routine = form.0; there = form.1; room = form.2.room; behind = form.2.behind; short = form.2.short; stands = cells_stand form.0 (program_code p (plan_of p (tables_of p) (scope_of k.body) 0) k.body.line k.body 0) form.2.ops form.2.lines code now (run_at p c) form.1 });
      }

  -- and a hook has its code
  pub hook_code_is : (c j : ℕ) (k : Class) (r : Routine) → class_at p c ≡ Some k → slice_get k.methods j ≡ Some r → is_hook r ≡ true → HookCode p fine is_there W first R code (tables_of p) small closed placed_so r (hook_at p c j)
  hook_code_is c j k r e f t =
      let form = is.routines (hook_at p c j) (for_hooks r) (hook_form p c j k r e f t) in
      record {
        routine = form.0;
        there = form.1;
        line = form.2.line;
        args = ap length form.2.args ∙ numbers_long r.parameters;
        room = form.2.room;
        behind = form.2.behind;
        short = form.2.short;
        stands = cells_stand form.0 (hook_code p (plan_of p (tables_of p) (scope_of r) (8 * length r.parameters)) r.line r (8 * length r.parameters)) form.2.ops form.2.lines code 0 (hook_at p c j) form.1;
      }
