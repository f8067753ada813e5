-- Runs, one instruction after another.
use Rattle.std.proofs.Common.{◌≡◌, ℕ, zero, suc, ◌+◌, ◌*◌, ◌^◌, ◌≤◌, ◌<◌, List, [], ◌∷◌, ◌++◌, length, map, replicate, reverse, take, get_or, refl, sym, ap, subst, ◌∙◌, arith, length-append}
use Rattle.std.specs.Prelude.{Option, Some, None, Bool, MatchOption, slice_get}
use Rattle.std.proofs.lemmas.Nat.{mul-le}
use Rattle.std.proofs.lemmas.List.{length-map}
use Rattle.std.proofs.lemmas.Option.{slice_get_within, slice_get-get_or}
use Rattle.stack_code.specs.declared.machine.Frame.{Frame}
use Rattle.stack_code.specs.declared.machine.Ending.{Ending}
use Rattle.stack_code.specs.declared.machine.Ending.TheVariants.{Stuck, Broken}
use Rattle.stack_code.specs.declared.op.Kind.{Kind}
use Rattle.stack_code.specs.declared.op.Op.{Op}
use Rattle.stack_code.specs.declared.code.RoutineCode.{RoutineCode}
use Rattle.stack_code.specs.declared.code.MachineCode.{MachineCode}
use Rattle.stack_code.specs.Steps.{Step, Goes, Stops, faults}
use Rattle.stack_code.specs.Machine.{Config, exec, begun, body_begun, hook_begun, with_arguments, flag, step, act, follow, Ends, IsStuck, Gives}
use Rattle.stack_code.specs.declared.memory.Space.TheVariants.{Regions}
use Rattle.stack_code.specs.declared.memory.Address.{Address}
use Rattle.stack_code.specs.declared.memory.Word.{Word}
use Rattle.stack_code.specs.declared.code.Body.{Body}
use Rattle.plc_text.specs.declared.fault.FaultKind.TheVariants as fault
use Rattle.stack_code.specs.declared.machine.Outcome.{Outcome}
use Rattle.stack_code.specs.declared.machine.Ending.TheVariants.{Ended}
use Rattle.stack_code.specs.Validity.{IsValid, kinds_at, kind_of}
use Rattle.stack_code.proofs.Sound.{Typed, Pending, Sound, step_sound, cell_of}
use Rattle.stack_code.proofs.Ends.{Deep, Lower, On, rank, step_low}
use Rattle.cycle_machine.specs.Room.{widest}
use Rattle.cycle_machine.specs.Private.Machine.{config, IsBegun}
use Rattle.cycle_machine.specs.declared.machine.Machine.{Machine}

-- a run from one state comes to another, whose operands and calls are as they should be
pub record Running (code : MachineCode) (now : ℕ) (start c : Config) : Type 0 where
  pub reaches : (m : ℕ) → (j : ℕ) × (exec code now j start ≡ exec code now m c)
  pub typed : Typed code c
  pub deep : Deep c

pub begins : (code : MachineCode) (now : ℕ) (c : Config) → IsValid code → IsBegun code c → Running code now c c
begins code now c valid b =
    record {
      reaches = λ m. (m, refl);
      typed = record {
        r = b.routine;
        ks = [];
        rest = [];
        is = b.is;
        finds = ap (kinds_at b.routine) b.first ∙ (valid.routines c.here.routine b.routine b.is).start;
        shows = ap (map kind_of) b.words;
        waits = subst (λ fs. Pending code b.routine fs []) (sym b.around) refl;
      };
      deep = record { tall = omega (arith, ap length b.around, b.tall); few = omega (arith, ap length b.around) };
    }

pub goes_on : (code : MachineCode) (now : ℕ) (start c c' : Config) → IsValid code → Running code now start c → step code now c ≡ Goes c' → Running code now start c' × (rank code c' < rank code c)
goes_on code now start c c' valid run e =
    let sound : Typed code c' = subst (Sound code) e (step_sound code now valid c run.typed) in
    let low : Lower code c c' = subst (On (Lower code c)) e (step_low code now valid c run.typed run.deep) in
    (record { reaches = λ m. (let x = run.reaches (suc m) in (x.0, x.1 ∙ ap (λ s. follow s c.memory.regions (exec code now m)) e)); typed = sound; deep = low.deep }, low.falls)

pub stops : (code : MachineCode) (now : ℕ) (start c : Config) (x : Ending) → Running code now start c → step code now c ≡ Stops x → (n : ℕ) × (exec code now n start ≡ Ends x c.memory.regions)
stops code now start c x run e = let y = run.reaches 1 in (y.0, y.1 ∙ ap (λ s. follow s c.memory.regions (exec code now 0)) e)

-- what the run comes to where it stops
pub gives : (code : MachineCode) (now : ℕ) (start c : Config) (outcome : Outcome) (left : List (Option (List ℕ))) → Running code now start c → step code now c ≡ Stops (Ended outcome) → left ≡ c.memory.regions
    → Gives (λ n. exec code now n start) outcome left
gives code now start c outcome left run e kept = let x = stops code now start c (Ended outcome) run e in record { count = x.0; ends = x.1 ∙ ap (Ends (Ended outcome)) (sym kept) }

pub gets_stuck : (code : MachineCode) (now : ℕ) (start c : Config) → Running code now start c → step code now c ≡ Stops Stuck → IsStuck (λ n. exec code now n start)
gets_stuck code now start c run e = let x = stops code now start c Stuck run e in (x.0, c.memory.regions, x.1)

-- it never wants for an operand
pub never_broken : (code : MachineCode) (now : ℕ) (start c : Config) → IsValid code → Running code now start c → step code now c ≡ Stops Broken → ⊥
never_broken code now start c valid run e = subst (Sound code) e (step_sound code now valid c run.typed)

widest_most : (rs : List RoutineCode) (k : ℕ) (r : RoutineCode) → slice_get rs k ≡ Some r → r.room ≤ widest rs
widest_most [] k r e = absurd (cc)
widest_most (x ∷ rs) zero r e = let same : x ≡ r = cc in omega (arith, ap (λ y. y.room) same)
widest_most (x ∷ rs) (suc k) r e = omega (arith, widest_most rs k r e)

pending_short : (code : MachineCode) → IsValid code → (fs : List Frame) (r : RoutineCode) (rest : List Kind) → Pending code r fs rest → length rest ≤ length fs * widest code.routines
pending_short code valid [] r rest p = omega (arith, ap length p)
pending_short code valid (f ∷ fs) r rest p =
    let W = widest code.routines in
    let more = pending_short code valid fs p.0 p.2 p.6 in
    let short = (valid.routines f.routine p.0 p.3).room f.next (reverse r.rets ++ p.1) p.4 in
    let most = widest_most code.routines f.routine p.0 p.3 in
    let size : length (f ∷ fs) * W ≡ W + length fs * W = omega arith in
    omega (arith, ap length p.5, length-append p.1 p.2, length-append (reverse r.rets) p.1)

-- the operands are few enough for the room
pub words_fit : (code : MachineCode) → IsValid code → (c : Config) → Typed code c → Deep c → length c.words ≤ 65 * widest code.routines
words_fit code valid c t deep =
    let W = widest code.routines in
    let rest = pending_short code valid c.around t.r t.rest t.waits in
    let here = (valid.routines c.here.routine t.r t.is).room c.here.next t.ks t.finds in
    let most = widest_most code.routines c.here.routine t.r t.is in
    let all : (length c.around + 1) * W ≤ 65 * W = mul-le (length c.around + 1) W 65 W (omega (arith, deep.few)) (omega arith) in
    let size : length c.words ≡ length t.ks + length t.rest = sym (length-map c.words kind_of) ∙ ap length t.shows ∙ length-append t.ks t.rest in
    omega arith

pub step_is : (code : MachineCode) (now : ℕ) (c : Config) (r : RoutineCode) (o : Op) (line : ℕ) → slice_get code.routines c.here.routine ≡ Some r → slice_get r.ops c.here.next ≡ Some o → slice_get r.lines c.here.next ≡ Some line
    → step code now c ≡ act code now o line c
step_is code now c r o line is cell at = rw (is, cell, at) refl

-- a routine that fits the room
pub record Within (r : RoutineCode) (stride most : ℕ) : Type 0 where
  pub locals : r.locals ≤ stride
  pub operands : r.room ≤ most
  pub short : length r.ops < 2 ^ 32

pub widest_least : (rs : List RoutineCode) (stride most : ℕ) → ((k : ℕ) (r : RoutineCode) → k < length rs → slice_get rs k ≡ Some r → Within r stride most) → widest rs ≤ most
widest_least [] stride most h = omega arith
widest_least (r ∷ rs) stride most h =
    let here = h 0 r (omega arith) refl in
    let more = widest_least rs stride most (λ k s lt e. h (suc k) s (omega arith) e) in
    omega (arith, here.operands)

pub same_some : (x y : RoutineCode) → Some x ≡ Some y → x ≡ y
same_some x y e = cc

pub found_again : (rs : List RoutineCode) (k : ℕ) (x r : RoutineCode) → x ≡ get_or rs k x → slice_get rs k ≡ Some r → x ≡ r
found_again rs k x r found e = found ∙ same_some (get_or rs k x) r (sym (slice_get-get_or rs k x (slice_get_within rs k r e)) ∙ e)

-- the routine of a call, from a list of all of them
pub routine_at : (code : MachineCode) (c : Config) (routines : List RoutineCode) (r : RoutineCode) → Typed code c → routines ≡ code.routines → r ≡ get_or routines c.here.routine r → slice_get code.routines c.here.routine ≡ Some r
routine_at code c routines r t items found =
    slice_get-get_or code.routines c.here.routine r (slice_get_within code.routines c.here.routine t.r t.is) ∙ ap Some (ap (λ rs. get_or rs c.here.routine r) (sym items) ∙ sym found)

pub routine_within : (code : MachineCode) (c : Config) (routines : List RoutineCode) → Typed code c → routines ≡ code.routines → c.here.routine < length routines
routine_within code c routines t items = subst (λ rs. c.here.routine < length rs) (sym items) (slice_get_within code.routines c.here.routine t.r t.is)

-- where a call stands there is an instruction, with a line
pub at_place : (code : MachineCode) (c : Config) (r : RoutineCode) → IsValid code → Typed code c → slice_get code.routines c.here.routine ≡ Some r → (c.here.next < length r.ops) × (c.here.next < length r.lines)
at_place code c r valid t is =
    let same : t.r ≡ r = same_some t.r r (sym t.is ∙ is) in
    let cell = cell_of code t.r c.here.next t.ks (valid.routines c.here.routine t.r t.is) t.finds in
    subst (λ x. (c.here.next < length x.ops) × (c.here.next < length x.lines)) same (slice_get_within t.r.ops c.here.next cell.0 cell.2, slice_get_within t.r.lines c.here.next cell.1 cell.3)

module _ (code : MachineCode) (now : ℕ) (c : Config) (valid : IsValid code) (t : Typed code c) (r : RoutineCode) (is : slice_get code.routines c.here.routine ≡ Some r) where
  pub op_within : (ops : List Op) → ops ≡ r.ops → c.here.next < length ops
  op_within ops e = subst (λ os. c.here.next < length os) (sym e) (at_place code c r valid t is).0

  pub line_within : (lines : List ℕ) → lines ≡ r.lines → c.here.next < length lines
  line_within lines e = subst (λ ls. c.here.next < length ls) (sym e) (at_place code c r valid t is).1

  pub does : (ops : List Op) (lines : List ℕ) (o : Op) (line : ℕ) → ops ≡ r.ops → lines ≡ r.lines → step code now c ≡ act code now (get_or ops c.here.next o) (get_or lines c.here.next line) c
  does ops lines o line e f =
      let at = at_place code c r valid t is in
      step_is code now c r (get_or ops c.here.next o) (get_or lines c.here.next line) is
      (slice_get-get_or r.ops c.here.next o at.0 ∙ ap (λ os. Some (get_or os c.here.next o)) (sym e))
      (slice_get-get_or r.lines c.here.next line at.1 ∙ ap (λ ls. Some (get_or ls c.here.next line)) (sym f))

-- the invariant of a run
pub record InRun (code : MachineCode) (now : ℕ) (start m : Machine) : Type 0 where
  pub running : Running code now (config start) (config m)
  pub room : m.words.room ≡ start.words.room
  pub stride : m.locals.stride ≡ start.locals.stride

-- a run that begins in a state comes to what comes of the state
pub started : (code : MachineCode) (now : ℕ) (regions left : List (Option (List ℕ))) (s : Step Config) (c : Config) (result : Option Outcome) → s ≡ Goes c
    → MatchOption result (IsStuck (λ n. exec code now n c)) (λ o. Gives (λ n. exec code now n c) o left)
    → MatchOption result (IsStuck (λ n. follow s regions (exec code now n))) (λ o. Gives (λ n. follow s regions (exec code now n)) o left)
started code now regions left s c None e h = (h.0, h.1, ap (λ x. follow x regions (exec code now h.0)) e ∙ h.2)
started code now regions left s c (Some o) e h = record { count = h.count; ends = ap (λ x. follow x regions (exec code now h.count)) e ∙ h.ends }

-- one that does not begin
pub stuck_at_once : (code : MachineCode) (now : ℕ) (regions : List (Option (List ℕ))) (s : Step Config) → s ≡ Stops Stuck → IsStuck (λ n. follow s regions (exec code now n))
stuck_at_once code now regions s e = (0, regions, ap (λ x. follow x regions (exec code now 0)) e)

pub ended_at_once : (code : MachineCode) (now : ℕ) (regions left : List (Option (List ℕ))) (s : Step Config) (o : Outcome) → s ≡ Stops (Ended o) → left ≡ regions → Gives (λ n. follow s regions (exec code now n)) o left
ended_at_once code now regions left s o e same = record { count = 0; ends = ap (λ x. follow x regions (exec code now 0)) e ∙ ap (Ends (Ended o)) (sym same) }

pub begun_is : (k : ℕ) (routine : RoutineCode) (own : Option Address) (ws : List Word) (fs : List Frame) (regions rs : List (Option (List ℕ))) (ls ms : List (List ℕ)) (ticks t : ℕ) (here : Frame)
    → here ≡ (let f : Frame = record { routine = k; next = 0; own = own } in f) → ws ≡ [] → fs ≡ [] → rs ≡ regions → ls ≡ ms → t ≡ ticks
    → (let c : Config = record { here = here; words = ws; around = fs; memory = record { regions = rs; locals = ls }; ticks = t } in c) ≡ begun k routine own ms regions ticks
begun_is k routine own ws fs regions rs ls ms ticks t here h e f g l u = rw (h, e, f, g, l, u) refl

-- a body's run begins
pub body_starts : (code : MachineCode) (regions : List (Option (List ℕ))) (entry ticks : ℕ) (body : Body) (r : RoutineCode) (c : Config) → slice_get code.bodies entry ≡ Some body → slice_get code.routines body.routine ≡ Some r
    → c ≡ begun body.routine r (Some (record { space = Regions; index = body.region; offset = 0 })) (replicate r.locals 0 ∷ []) regions ticks → body_begun code regions entry ticks ≡ Goes c
body_starts code regions entry ticks body r c at is same = rw (at, is, same) refl

pub no_body : (code : MachineCode) (regions : List (Option (List ℕ))) (entry ticks : ℕ) → slice_get code.bodies entry ≡ None → body_begun code regions entry ticks ≡ Stops Stuck
no_body code regions entry ticks at = rw at refl

-- a hook's run begins
module _ (code : MachineCode) (regions : List (Option (List ℕ))) (k : ℕ) (own : Address) (first second : Bool) where
  pub hook_starts : (r : RoutineCode) (left : ℕ) (image : List ℕ) (c : Config) → slice_get code.routines k ≡ Some r → with_arguments 0 (take (length r.args) (flag first ∷ flag second ∷ [])) (replicate r.locals 0) ≡ Goes image
      → c ≡ begun k r (Some own) ([] ∷ image ∷ []) regions left → hook_begun code regions k own first second (suc left) ≡ Goes c
  hook_starts r left image c is wrote same = rw (is, wrote, same) refl

  pub hook_late : (r : RoutineCode) → slice_get code.routines k ≡ Some r → hook_begun code regions k own first second 0 ≡ faults fault.Watchdog r.line
  hook_late r is = rw is refl

  pub hook_full : (r : RoutineCode) (left : ℕ) → slice_get code.routines k ≡ Some r → with_arguments 0 (take (length r.args) (flag first ∷ flag second ∷ [])) (replicate r.locals 0) ≡ Stops Stuck
      → hook_begun code regions k own first second (suc left) ≡ Stops Stuck
  hook_full r left is wrote = rw (is, wrote) refl

  pub no_hook : (ticks : ℕ) → slice_get code.routines k ≡ None → hook_begun code regions k own first second ticks ≡ Stops Stuck
  no_hook ticks at = rw at refl
