-- Code that is made by plans as good as the program's own is its code.
use Rattle.std.proofs.Common.{◌≡◌, ◌≤◌, ℕ, ◌+◌, ◌*◌, length, Bool, List, [], ◌∷◌, map, Some, refl, ap, ◌∙◌, subst}
use Rattle.std.specs.Prelude.{slice_get}
use Rattle.st_values.specs.Program.{Program}
use Rattle.stack_code.specs.declared.code.RoutineCode.{RoutineCode}
use Rattle.stack_code.specs.declared.code.MachineCode.{MachineCode}
use Rattle.code_cells.specs.declared.cell.Cell.{Cell}
use Rattle.code_cells.specs.Cell.{settled, settled_from}
use Rattle.st_types.specs.declared.st_type.StType.{StType}
use Rattle.st_meaning.specs.st_frame.Promise.Declarations.{scope_of}
use Rattle.code_rules.specs.Plan.{Plan, plan_of}
use Rattle.code_rules.specs.Places.{locals_end}
use Rattle.call_forms.specs.Tables.{Form, for_calls, for_runs, for_hooks, start_of, routine_in, forms, tables_of, ops_of, lines_of, FormIs, CodeIs}
use Rattle.valid_programs.specs.Compiled.{IsRoutine, CompiledIs, IsToldBy}
use Rattle.valid_programs.specs.Told.{Alike, Covers, RoutineCovered}
use Rattle.valid_programs.proofs.Told.{called_same, program_same, hook_same, effects_top_same}

same_ops : (pc : ℕ) (cs : List Cell) → map (λ x. x.0) (settled_from pc cs) ≡ ops_of pc cs
same_ops pc [] = refl
same_ops pc (c ∷ cs) = ap (λ os. (settled pc c).0 ∷ os) (same_ops (pc + 1) cs)

same_lines : (pc : ℕ) (cs : List Cell) → map (λ x. x.1) (settled_from pc cs) ≡ lines_of pc cs
same_lines pc [] = refl
same_lines pc (c ∷ cs) = ap (λ ls. (settled pc c).1 ∷ ls) (same_lines (pc + 1) cs)

form_is : (p : Program) (w : Plan) (f : Form) (r : RoutineCode) → IsToldBy p f w → IsRoutine p w f r → FormIs p (tables_of p) f r
form_is p w f r t h = record {
  line = h.line;
  args = h.args;
  rets = h.rets;
  ops = h.settles.ops ∙ same_ops 0 _ ∙ ap (ops_of 0) t.code;
  lines = h.settles.lines ∙ same_lines 0 _ ∙ ap (lines_of 0) t.code;
  room = h.room;
  behind = subst (λ n. n ≤ r.locals) t.behind h.behind;
  short = h.short;
}

pub code_is : (p : Program) (lives : ℕ → Bool) (plans : Form → Plan) (code : MachineCode) → ((n : ℕ) (f : Form) → slice_get (forms p) n ≡ Some f → IsToldBy p f (plans f)) → CompiledIs p lives plans code → CodeIs p lives code
code_is p lives plans code told is = record {
  routines = λ n f e. let r = is.routines n f e in (r.0, r.1, form_is p (plans f) f r.0 (told n f e) r.2);
  slots = is.slots;
  targets = is.targets;
  conforms = is.conforms;
  bodies = is.bodies;
  methods = is.methods;
}

pub told_by : (p : Program) (K : StType → Type 0) → Covers p K → (f : Form) (w : Plan) → Alike p K w (plan_of p (tables_of p) (scope_of (routine_in f)) (start_of f)) → RoutineCovered p K (routine_in f) → IsToldBy p f w
told_by p K covers (for_calls x) w a h = record { code = called_same p K covers w _ a x.line x 8 h; behind = effects_top_same p K covers w _ a (locals_end p 8 x.locals) x.body h.body }
told_by p K covers (for_runs x) w a h = record { code = program_same p K covers w _ a x.line x 0 h; behind = effects_top_same p K covers w _ a (locals_end p 0 x.locals) x.body h.body }
told_by p K covers (for_hooks x) w a h =
    record { code = hook_same p K covers w _ a x.line x (8 * length x.parameters) h; behind = effects_top_same p K covers w _ a (locals_end p (8 * length x.parameters) x.locals) x.body h.body }
