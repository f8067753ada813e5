use Rattle.std.proofs.Common.{◌≡◌, ◌<◌, ◌≤◌, ◌++◌, ◌∷◌, ℕ, List, [], sym, ap, subst, ◌∙◌, arith, length, get_or, replicate}
use Rattle.std.specs.Prelude.{slice_get, Some, MatchOption}
use Rattle.std.proofs.lemmas.Option.{slice_get-get_or, slice_get_past}
use Rattle.stack_code.specs.declared.code.RoutineCode.{RoutineCode}
use Rattle.stack_code.specs.declared.code.Body.{Body}
use Rattle.stack_code.specs.Machine.{machine, body_begun, Gives, IsStuck}
use Rattle.cycle_machine.proofs.RunLaws.{started, stuck_at_once, begun_is, body_starts, no_body}
use Rattle.cycle_machine.proofs.room.run_body.Goals as goal

pub returns-then-entry-bodies-clause-ends : goal.returns-then-entry-bodies-clause-ends
returns-then-entry-bodies-clause-ends c =
    let a = c.args in
    let code = a.code.now in
    let bodies : c.as_slice-bodies.result.now ≡ code.bodies = c.as_slice-bodies.ensures ∙ ap (λ x. x.bodies) c.code.ensures.same in
    stuck_at_once code a.now a.regions.now (body_begun code a.regions.now a.entry a.ticks) (no_body code a.regions.now a.entry a.ticks (slice_get_past code.bodies a.entry (subst (λ bs. length bs ≤ a.entry) bodies c.if-entry-bodies.true)))

pub bounds-as_slice-body : goal.bounds-as_slice-body
bounds-as_slice-body c =
    let a = c.args in
    let code = a.code.now in
    let bodies : c.as_slice-bodies.result.now ≡ code.bodies = c.as_slice-bodies.ensures ∙ ap (λ x. x.bodies) c.code.ensures.same in
    let none : Body = record { region = 0; routine = 0 } in
    let within : a.entry < length code.bodies = subst (λ bs. a.entry < length bs) bodies c.if-entry-bodies.false in
    let body : Body = get_or c.as_slice-bodies.result.now a.entry none in
    let at : slice_get code.bodies a.entry ≡ Some body = slice_get-get_or code.bodies a.entry none within ∙ ap (λ bs. Some (get_or bs a.entry none)) (sym bodies) in
    let inside : body.routine < length code.routines = c.code.ensures.valid.bodies a.entry body at in
    let routines : c.as_slice.result.now ≡ code.routines = c.as_slice.ensures ∙ ap (λ x. x.routines) c.code-2.ensures.same in
    subst (λ rs. body.routine < length rs) (sym routines) inside

pub push-requires-clause-short : goal.push-requires-clause-short
push-requires-clause-short c =
    let a = c.args in
    let code = a.code.now in
    let bodies : c.as_slice-bodies.result.now ≡ code.bodies = c.as_slice-bodies.ensures ∙ ap (λ x. x.bodies) c.code.ensures.same in
    let none : Body = record { region = 0; routine = 0 } in
    let within : a.entry < length code.bodies = subst (λ bs. a.entry < length bs) bodies c.if-entry-bodies.false in
    let body : Body = get_or c.as_slice-bodies.result.now a.entry none in
    let at : slice_get code.bodies a.entry ≡ Some body = slice_get-get_or code.bodies a.entry none within ∙ ap (λ bs. Some (get_or bs a.entry none)) (sym bodies) in
    let inside : body.routine < length code.routines = c.code.ensures.valid.bodies a.entry body at in
    let routines : c.as_slice.result.now ≡ code.routines = c.as_slice.ensures ∙ ap (λ x. x.routines) c.code-2.ensures.same in
    let r : RoutineCode = c.index-as_slice-body.result in
    let is : slice_get code.routines body.routine ≡ Some r =
    slice_get-get_or code.routines body.routine r inside ∙ ap Some (ap (λ rs. get_or rs body.routine r) (sym routines) ∙ sym c.index-as_slice-body.is) in
    omega (arith, c.requires.locals.each body.routine r is, ap (λ v. v.bytes) c.room.view_is, ap (λ v. v.stride) c.begin.ensures.locals)

pub run-outcome-requires-clause-begun : goal.run-outcome-requires-clause-begun
run-outcome-requires-clause-begun c =
    let a = c.args in
    let code = a.code.now in
    let bodies : c.as_slice-bodies.result.now ≡ code.bodies = c.as_slice-bodies.ensures ∙ ap (λ x. x.bodies) c.code.ensures.same in
    let none : Body = record { region = 0; routine = 0 } in
    let within : a.entry < length code.bodies = subst (λ bs. a.entry < length bs) bodies c.if-entry-bodies.false in
    let body : Body = get_or c.as_slice-bodies.result.now a.entry none in
    let at : slice_get code.bodies a.entry ≡ Some body = slice_get-get_or code.bodies a.entry none within ∙ ap (λ bs. Some (get_or bs a.entry none)) (sym bodies) in
    let inside : body.routine < length code.routines = c.code.ensures.valid.bodies a.entry body at in
    let routines : c.as_slice.result.now ≡ code.routines = c.as_slice.ensures ∙ ap (λ x. x.routines) c.code-2.ensures.same in
    let r : RoutineCode = c.index-as_slice-body.result in
    let is : slice_get code.routines body.routine ≡ Some r =
    slice_get-get_or code.routines body.routine r inside ∙ ap Some (ap (λ rs. get_or rs body.routine r) (sym routines) ∙ sym c.index-as_slice-body.is) in
    let here = c.begin.ensures.here in
    let zeros : List ℕ = replicate r.locals 0 in
    let locals : c.push.new.self.locals ≡ zeros ∷ [] = ap (λ v. v.locals) c.push.ensures ∙ ap (λ l. l ++ zeros ∷ []) (ap (λ v. v.locals) c.begin.ensures.locals) in
    let words : c.begin.new.self.words.words ≡ [] = ap (λ v. v.words) c.begin.ensures.words in
    record {
      routine = r;
      is = ap (λ f. slice_get code.routines f.routine) here ∙ is;
      first = ap (λ f. f.next) here;
      words = words;
      around = c.begin.ensures.frames;
      tall = omega (arith, ap length locals);
    }

pub returns-clause-ends : goal.returns-clause-ends
returns-clause-ends c =
    let a = c.args in
    let code = a.code.now in
    let bodies : c.as_slice-bodies.result.now ≡ code.bodies = c.as_slice-bodies.ensures ∙ ap (λ x. x.bodies) c.code.ensures.same in
    let none : Body = record { region = 0; routine = 0 } in
    let within : a.entry < length code.bodies = subst (λ bs. a.entry < length bs) bodies c.if-entry-bodies.false in
    let body : Body = get_or c.as_slice-bodies.result.now a.entry none in
    let at : slice_get code.bodies a.entry ≡ Some body = slice_get-get_or code.bodies a.entry none within ∙ ap (λ bs. Some (get_or bs a.entry none)) (sym bodies) in
    let inside : body.routine < length code.routines = c.code.ensures.valid.bodies a.entry body at in
    let routines : c.as_slice.result.now ≡ code.routines = c.as_slice.ensures ∙ ap (λ x. x.routines) c.code-2.ensures.same in
    let r : RoutineCode = c.index-as_slice-body.result in
    let is : slice_get code.routines body.routine ≡ Some r =
    slice_get-get_or code.routines body.routine r inside ∙ ap Some (ap (λ rs. get_or rs body.routine r) (sym routines) ∙ sym c.index-as_slice-body.is) in
    let here = c.begin.ensures.here in
    let zeros : List ℕ = replicate r.locals 0 in
    let locals : c.push.new.self.locals ≡ zeros ∷ [] = ap (λ v. v.locals) c.push.ensures ∙ ap (λ l. l ++ zeros ∷ []) (ap (λ v. v.locals) c.begin.ensures.locals) in
    let words : c.begin.new.self.words.words ≡ [] = ap (λ v. v.words) c.begin.ensures.words in
    subst (λ left. MatchOption c.run-outcome.result (IsStuck (machine code a.regions.now a.entry a.now a.ticks)) (λ outcome. Gives (machine code a.regions.now a.entry a.now a.ticks) outcome left)) (sym c.swap-2.ensures.x_after)
    (started code a.now a.regions.now c.run-outcome.new.self.regions (body_begun code a.regions.now a.entry a.ticks) _ c.run-outcome.result
    (body_starts code a.regions.now a.entry a.ticks body r _ at is (begun_is body.routine r _ _ _ a.regions.now _ _ _ a.ticks _ _ here words c.begin.ensures.frames c.swap.ensures.y_after locals c.begin.ensures.ticks))
    c.run-outcome.ensures.ends)
