use Rattle.std.proofs.Common.{◌≡◌, ◌<◌, ◌≤◌, ◌-◌, ◌++◌, ◌∷◌, ℕ, suc, List, [], refl, sym, ap, subst, ◌∙◌, arith, take, length, get_or, set, replicate}
use Rattle.std.specs.Prelude.{slice_get, Some, MatchOption}
use Rattle.std.proofs.lemmas.Option.{slice_get-get_or, slice_get_past}
use Rattle.stack_code.specs.declared.code.RoutineCode.{RoutineCode}
use Rattle.stack_code.specs.declared.memory.Word.{Word}
use Rattle.stack_code.specs.Steps.{Stops}
use Rattle.stack_code.specs.Machine.{hook, hook_begun, with_arguments, flag, Gives, IsStuck}
use Rattle.cycle_machine.proofs.RunLaws.{started, stuck_at_once, ended_at_once, begun_is, hook_starts, hook_late, hook_full, no_hook}
use Rattle.cycle_machine.proofs.room.run_hook_body.Goals as goal

pub returns-then-routine-routines-clause-ends : goal.returns-then-routine-routines-clause-ends
returns-then-routine-routines-clause-ends c =
    let a = c.args in
    let code = a.code.now in
    let routines : c.as_slice-routines.result.now ≡ code.routines = c.as_slice-routines.ensures ∙ ap (λ x. x.routines) c.code.ensures.same in
    stuck_at_once code 0 a.regions.now (hook_begun code a.regions.now a.routine a.own a.flags.0 a.flags.1 a.ticks) (no_hook code a.regions.now a.routine a.own a.flags.0 a.flags.1 a.ticks (slice_get_past code.routines a.routine (subst (λ rs. length rs ≤ a.routine) routines c.if-routine-routines.true)))

pub returns-then-ticks-eq0-clause-ends : goal.returns-then-ticks-eq0-clause-ends
returns-then-ticks-eq0-clause-ends c =
    let a = c.args in
    let code = a.code.now in
    let routines : c.as_slice-routines.result.now ≡ code.routines = c.as_slice-routines.ensures ∙ ap (λ x. x.routines) c.code.ensures.same in
    let within : a.routine < length code.routines = subst (λ rs. a.routine < length rs) routines c.if-routine-routines.false in
    let r : RoutineCode = c.index-routines-routine.result in
    let is : slice_get code.routines a.routine ≡ Some r =
    slice_get-get_or code.routines a.routine r within ∙ ap Some (ap (λ rs. get_or rs a.routine r) (sym routines) ∙ sym c.index-routines-routine.is) in
    ended_at_once code 0 a.regions.now a.regions.now (hook_begun code a.regions.now a.routine a.own a.flags.0 a.flags.1 a.ticks) _ (ap (hook_begun code a.regions.now a.routine a.own a.flags.0 a.flags.1) c.if-ticks-eq0.true ∙ hook_late code a.regions.now a.routine a.own a.flags.0 a.flags.1 r is) refl

pub push-requires-2-clause-short : goal.push-requires-2-clause-short
push-requires-2-clause-short c =
    let a = c.args in
    let code = a.code.now in
    let routines : c.as_slice-routines.result.now ≡ code.routines = c.as_slice-routines.ensures ∙ ap (λ x. x.routines) c.code.ensures.same in
    let within : a.routine < length code.routines = subst (λ rs. a.routine < length rs) routines c.if-routine-routines.false in
    let r : RoutineCode = c.index-routines-routine.result in
    let is : slice_get code.routines a.routine ≡ Some r =
    slice_get-get_or code.routines a.routine r within ∙ ap Some (ap (λ rs. get_or rs a.routine r) (sym routines) ∙ sym c.index-routines-routine.is) in
    omega (arith, c.requires.locals.each a.routine r is, ap (λ v. v.bytes) c.room.view_is, ap (λ v. v.stride) c.begin.ensures.locals, ap (λ v. v.stride) c.push.ensures)

pub returns-in-Err-clause-ends : goal.returns-in-Err-clause-ends
returns-in-Err-clause-ends c =
    let a = c.args in
    let code = a.code.now in
    let routines : c.as_slice-routines.result.now ≡ code.routines = c.as_slice-routines.ensures ∙ ap (λ x. x.routines) c.code.ensures.same in
    let within : a.routine < length code.routines = subst (λ rs. a.routine < length rs) routines c.if-routine-routines.false in
    let r : RoutineCode = c.index-routines-routine.result in
    let is : slice_get code.routines a.routine ≡ Some r =
    slice_get-get_or code.routines a.routine r within ∙ ap Some (ap (λ rs. get_or rs a.routine r) (sym routines) ∙ sym c.index-routines-routine.is) in
    let zeros : List ℕ = replicate r.locals 0 in
    let first : c.push.new.self.locals ≡ [] ∷ [] = ap (λ v. v.locals) c.push.ensures ∙ ap (λ l. l ++ [] ∷ []) (ap (λ v. v.locals) c.begin.ensures.locals) in
    let both : c.push-2.new.self.locals ≡ [] ∷ zeros ∷ [] = ap (λ v. v.locals) c.push-2.ensures ∙ ap (λ l. l ++ zeros ∷ []) first in
    let flags : List Word = flag a.flags.0 ∷ flag a.flags.1 ∷ [] in
    let count : c.len.result ≡ length r.args = c.len.ensures in
    let tick : a.ticks ≡ suc (a.ticks - 1) = omega (arith, c.if-ticks-eq0.false) in
    let given : with_arguments 0 (take (length r.args) flags) zeros ≡ with_arguments 0 (take c.len.result flags) (get_or c.push-2.new.self.locals 1 []) =
    ap (λ n. with_arguments 0 (take n flags) zeros) (sym count) ∙ ap (λ l. with_arguments 0 (take c.len.result flags) (get_or l 1 [])) (sym both) in
    stuck_at_once code 0 a.regions.now (hook_begun code a.regions.now a.routine a.own a.flags.0 a.flags.1 a.ticks) (ap (hook_begun code a.regions.now a.routine a.own a.flags.0 a.flags.1) tick ∙ hook_full code a.regions.now a.routine a.own a.flags.0 a.flags.1 r (a.ticks - 1) is (given ∙ c.in-Err.ensures.value ∙ ap Stops c.in-Err.ensures.stuck))

pub run-outcome-requires-clause-begun : goal.run-outcome-requires-clause-begun
run-outcome-requires-clause-begun c =
    let a = c.args in
    let code = a.code.now in
    let routines : c.as_slice-routines.result.now ≡ code.routines = c.as_slice-routines.ensures ∙ ap (λ x. x.routines) c.code.ensures.same in
    let within : a.routine < length code.routines = subst (λ rs. a.routine < length rs) routines c.if-routine-routines.false in
    let r : RoutineCode = c.index-routines-routine.result in
    let is : slice_get code.routines a.routine ≡ Some r =
    slice_get-get_or code.routines a.routine r within ∙ ap Some (ap (λ rs. get_or rs a.routine r) (sym routines) ∙ sym c.index-routines-routine.is) in
    let zeros : List ℕ = replicate r.locals 0 in
    let first : c.push.new.self.locals ≡ [] ∷ [] = ap (λ v. v.locals) c.push.ensures ∙ ap (λ l. l ++ [] ∷ []) (ap (λ v. v.locals) c.begin.ensures.locals) in
    let both : c.push-2.new.self.locals ≡ [] ∷ zeros ∷ [] = ap (λ v. v.locals) c.push-2.ensures ∙ ap (λ l. l ++ zeros ∷ []) first in
    let flags : List Word = flag a.flags.0 ∷ flag a.flags.1 ∷ [] in
    let count : c.len.result ≡ length r.args = c.len.ensures in
    let tick : a.ticks ≡ suc (a.ticks - 1) = omega (arith, c.if-ticks-eq0.false) in
    let given : with_arguments 0 (take (length r.args) flags) zeros ≡ with_arguments 0 (take c.len.result flags) (get_or c.push-2.new.self.locals 1 []) =
    ap (λ n. with_arguments 0 (take n flags) zeros) (sym count) ∙ ap (λ l. with_arguments 0 (take c.len.result flags) (get_or l 1 [])) (sym both) in
    let here = c.begin.ensures.here in
    let image : List ℕ = get_or c.write_flags.new.locals.locals 1 [] in
    let locals : c.write_flags.new.locals.locals ≡ [] ∷ image ∷ [] = c.in-Ok.ensures.others ∙ ap (λ l. set l 1 image) both in
    let words : c.begin.new.self.words.words ≡ [] = ap (λ v. v.words) c.begin.ensures.words in
    record {
      routine = r;
      is = ap (λ f. slice_get code.routines f.routine) here ∙ is;
      first = ap (λ f. f.next) here;
      words = words;
      around = c.begin.ensures.frames;
      tall = omega (arith, ap length locals);
    }

pub returns-clause-ends : goal.returns-clause-ends
returns-clause-ends c =
    let a = c.args in
    let code = a.code.now in
    let routines : c.as_slice-routines.result.now ≡ code.routines = c.as_slice-routines.ensures ∙ ap (λ x. x.routines) c.code.ensures.same in
    let within : a.routine < length code.routines = subst (λ rs. a.routine < length rs) routines c.if-routine-routines.false in
    let r : RoutineCode = c.index-routines-routine.result in
    let is : slice_get code.routines a.routine ≡ Some r =
    slice_get-get_or code.routines a.routine r within ∙ ap Some (ap (λ rs. get_or rs a.routine r) (sym routines) ∙ sym c.index-routines-routine.is) in
    let zeros : List ℕ = replicate r.locals 0 in
    let first : c.push.new.self.locals ≡ [] ∷ [] = ap (λ v. v.locals) c.push.ensures ∙ ap (λ l. l ++ [] ∷ []) (ap (λ v. v.locals) c.begin.ensures.locals) in
    let both : c.push-2.new.self.locals ≡ [] ∷ zeros ∷ [] = ap (λ v. v.locals) c.push-2.ensures ∙ ap (λ l. l ++ zeros ∷ []) first in
    let flags : List Word = flag a.flags.0 ∷ flag a.flags.1 ∷ [] in
    let count : c.len.result ≡ length r.args = c.len.ensures in
    let tick : a.ticks ≡ suc (a.ticks - 1) = omega (arith, c.if-ticks-eq0.false) in
    let given : with_arguments 0 (take (length r.args) flags) zeros ≡ with_arguments 0 (take c.len.result flags) (get_or c.push-2.new.self.locals 1 []) =
    ap (λ n. with_arguments 0 (take n flags) zeros) (sym count) ∙ ap (λ l. with_arguments 0 (take c.len.result flags) (get_or l 1 [])) (sym both) in
    let here = c.begin.ensures.here in
    let image : List ℕ = get_or c.write_flags.new.locals.locals 1 [] in
    let locals : c.write_flags.new.locals.locals ≡ [] ∷ image ∷ [] = c.in-Ok.ensures.others ∙ ap (λ l. set l 1 image) both in
    let words : c.begin.new.self.words.words ≡ [] = ap (λ v. v.words) c.begin.ensures.words in
    subst (λ left. MatchOption c.run-outcome.result (IsStuck (hook code a.regions.now a.routine a.own a.flags.0 a.flags.1 a.ticks)) (λ outcome. Gives (hook code a.regions.now a.routine a.own a.flags.0 a.flags.1 a.ticks) outcome left)) (sym c.swap-2.ensures.x_after)
    (started code 0 a.regions.now c.run-outcome.new.self.regions (hook_begun code a.regions.now a.routine a.own a.flags.0 a.flags.1 a.ticks) _ c.run-outcome.result
    (ap (hook_begun code a.regions.now a.routine a.own a.flags.0 a.flags.1) tick ∙ hook_starts code a.regions.now a.routine a.own a.flags.0 a.flags.1 r (a.ticks - 1) image _ is (given ∙ c.in-Ok.ensures.value) (begun_is a.routine r _ _ _ a.regions.now _ _ _ (a.ticks - 1) _ _ here words c.begin.ensures.frames c.swap.ensures.y_after locals c.begin.ensures.ticks))
    c.run-outcome.ensures.ends)
