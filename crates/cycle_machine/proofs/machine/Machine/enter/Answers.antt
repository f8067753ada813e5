use Rattle.std.proofs.Common.{◌≡◌, ◌<◌, ◌+◌, ◌++◌, ◌∷◌, ℕ, List, [], sym, ap, subst, ◌∙◌, arith, take, drop, reverse, length, get_or, set, replicate}
use Rattle.std.specs.Prelude.{slice_get, Some}
use Rattle.std.proofs.lemmas.Option.{slice_get-get_or}
use Rattle.stack_code.specs.declared.code.RoutineCode.{RoutineCode}
use Rattle.stack_code.specs.declared.memory.Word.{Word}
use Rattle.stack_code.specs.Steps.{Goes}
use Rattle.stack_code.specs.Machine.{Config, with_arguments, depth, onward}
use Rattle.cycle_machine.specs.Private.Machine.{config}
use Rattle.cycle_machine.proofs.CallLaws.{last_is, set_last, entered, same_config}
use Rattle.cycle_machine.proofs.machine.Machine.enter.Goals as goal

pub returns-clause-value : goal.returns-clause-value
returns-clause-value c =
    let a = c.args in
    let ls : List (List ℕ) = a.self.now.locals.locals in
    let here : Config = config a.self.now in
    let routine : RoutineCode = get_or c.as_slice-routines.result.now a.routine c.index-routines-routine.result in
    let zeros : List ℕ = replicate routine.locals 0 in
    let d : ℕ = c.depth-depth.result in
    let items : c.as_slice-routines.result.now ≡ a.code.now.routines = c.as_slice-routines.ensures ∙ ap (λ x. x.routines) c.code.ensures.same in
    let within : a.routine < length a.code.now.routines = subst (λ rs. a.routine < length rs) items c.if-routine-routines.false in
    let is : slice_get a.code.now.routines a.routine ≡ Some routine =
    slice_get-get_or a.code.now.routines a.routine c.index-routines-routine.result within ∙ ap (λ rs. Some (get_or rs a.routine c.index-routines-routine.result)) (sym items) in
    let size : d ≡ length ls = c.depth-depth.ensures.value in
    let more : c.push.new.self.locals ≡ ls ++ zeros ∷ [] = ap (λ v. v.locals) c.push.ensures in
    let image : List ℕ = get_or c.write_arguments.new.locals.locals d [] in
    let args : List Word = reverse (take a.n a.self.now.words.words) in
    let began : get_or c.push.new.self.locals d [] ≡ zeros = ap (λ l. get_or l d []) more ∙ last_is ls zeros [] d size in
    let wrote : with_arguments 0 args zeros ≡ Goes image = ap (with_arguments 0 args) (sym began) ∙ c.in_ok-write_arguments.ensures.value in
    let after : c.write_arguments.new.locals.locals ≡ ls ++ image ∷ [] = c.in_ok-write_arguments.ensures.others ∙ ap (λ l. set l d image) more ∙ set_last ls zeros image d size in
    let few : depth here < 64 = omega (arith, c.if-depth-gt-MOST_CALLS.false, c.requires.tall) in
    let words : c.cut.new.self.words ≡ drop (a.n + 1) a.self.now.words.words = ap (λ v. v.words) c.cut.ensures in
    let frames : c.push-2.new.self ≡ onward a.self.now.here ∷ a.self.now.frames = c.push-2.ensures in
    entered a.code.now a.routine routine a.own args (drop (a.n + 1) a.self.now.words.words) a.line here image is few wrote
    ∙ ap Goes (sym (same_config (record { routine = a.routine; next = 0; own = a.own }) _ _ _ _ a.self.now.regions _ _ a.self.now.ticks words frames after))
