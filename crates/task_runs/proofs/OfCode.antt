-- Where code has what is asked of a program's code, runs of a task and of a hook do what they mean.
use Rattle.std.proofs.Common.{◌≡◌, ◌≤◌, ℕ, ◌+◌, Bool, true, List, [], ◌∷◌, length, Option, Some, refl, sym, ap, ◌∙◌, subst, inl, inr, arith}
use Rattle.std.specs.Prelude.{map, slice_get}
use Rattle.st_types.specs.declared.st_type.StType.TheVariants as type
use Rattle.st_tree.specs.declared.path.Path.{Path}
use Rattle.stack_code.specs.declared.memory.Address.{Address}
use Rattle.stack_code.specs.Machine.{Gives, hook}
use Rattle.st_meaning.specs.State.{in_store, Frame}
use Rattle.st_meaning.specs.State as meaning
use Rattle.stack_code.specs.declared.machine.Outcome.TheVariants as outcome
use Rattle.st_meaning.specs.st_frame.Use.{Use, the_instances, follows, routine_uses, names, calls, changes, the_region}
use Rattle.st_meaning.proofs.st_frame.Bodies.{All, Covered, entered_is}
use Rattle.st_meaning.proofs.st_frame.Whole.{all_of, timely}
use Rattle.st_meaning.specs.st_frame.Promise.Declarations.{RoutineIs, Each}
use Rattle.st_change.specs.StoreLaws.{IsFlag}
use Rattle.task_runs.specs.Hook.{hook_run, flags_of}
use Rattle.task_runs.proofs.Hooks.{hook_runs}
use Rattle.st_rules.specs.Chains.{is_among}
use Rattle.st_values.specs.Program.{Class, Program, Routine, class_at}
use Rattle.st_values.specs.Value.{Store}
use Rattle.st_values.specs.Shape.{Shape, region_shape}
use Rattle.st_values.specs.Program as program
use Rattle.st_meaning.specs.Call.{class_of_kind}
use Rattle.st_meaning.specs.Cycle.{begun, all_ticks}
use Rattle.st_meaning.specs.Enter.{run_task, programs_of}
use Rattle.st_meaning.specs.st_frame.Footprint.{Has, Reached, Footprint, Writes, IsFootprint}
use Rattle.st_meaning.specs.st_frame.FrameLaws.{last_moment}
use Rattle.st_meaning.specs.st_frame.Good.{GoodOn, Names}
use Rattle.st_meaning.specs.st_frame.Promise.Calls.{HasInstance}
use Rattle.st_meaning.specs.st_frame.Promise.Programs.{ProgramIs, TaskRegionIs}
use Rattle.stack_code.specs.declared.code.MachineCode.{MachineCode}
use Rattle.mem_layout.specs.store_bytes.Spells.{Shows}
use Rattle.shown_memory.specs.Shown.{located, Small}
use Rattle.st_meaning.specs.st_frame.OutputPlaces.{OutputsPlaced}
use Rattle.call_forms.specs.Tables.{entry_of, hook_at, is_hook, is_program, tables_of, CodeIs}
use Rattle.table_laws.proofs.TableLaws.{tables_are}
use Rattle.task_runs.specs.Task.{EndsAs, BodiesRun, TaskRuns, HookRuns}
use Rattle.task_runs.proofs.Away.{More, alone, at_alone, alone_more, others_away, bodies_left, hook_left}
use Rattle.task_runs.proofs.Entries.{entry_is, hook_code_is}
use Rattle.task_runs.proofs.Tasks.{EntriesAre, closed_in, task_runs}

of_sort : (k : Class) → k.sort ≡ program.a_program → is_program k ≡ true
of_sort k e = ap (λ s. is_program (record k { sort = s })) e

module _ (p : Program) (fine : ProgramIs p) (small : Small p) (placed_so : OutputsPlaced p) (lives : ℕ → Bool) (living : (c : ℕ) → HasInstance p c → lives c ≡ true) (code : MachineCode) (is : CodeIs p lives code) where
  entries_are : (task now : ℕ) (fs : List ℕ) (foot : IsFootprint p task fs) (store : Store) (rs : List ℕ) → ((r : ℕ) → Has rs r → TaskRegionIs p r)
      → EntriesAre p fine (λ r. is_among r fs) (Writes p task) store (Reached p task) code now 0 (tables_of p) small (closed_in p fine task fs foot) placed_so rs (map (entry_of p) rs)
  entries_are task now fs foot store [] h = tt
  entries_are task now fs foot store (r ∷ rs) h =
      let t = h r (inl refl) in
      let at : class_of_kind t.region.variable.kind ≡ t.class = ap class_of_kind t.kind in (
        entry_is p fine (λ r. is_among r fs) (Writes p task) store (Reached p task) code small (closed_in p fine task fs foot) placed_so lives is now r t.region t.text t.there t.marked (ap (class_at p) at ∙ t.class_there) (of_sort t.text t.sort),
        entries_are task now fs foot store rs (λ q g. h q (inr g)),
      )

  -- on the images of its footprint alone
  shown_alone : (fs : List ℕ) (store : Store) (regions : List (Option (List ℕ))) → Shows (region_shape p) (λ r. is_among r fs) regions store → Shows (region_shape p) (λ r. is_among r fs) (alone (λ r. is_among r fs) 0 regions) store
  shown_alone fs store regions shows = record {
    region = λ r sh held is. let g = shows.region r sh held is in record { value = g.value; image = g.image; there = at_alone (λ r. is_among r fs) 0 regions r (Some g.image) (let z : 0 + r ≡ r = omega arith in subst (λ j. is_among j fs ≡ true) (sym z) held) g.there; stands = g.stands; long = g.long; spells = g.spells };
  }

  -- The programs of a task in order, with all the ticks of a cycle, on images of its footprint; the other regions stay.
  pub task_of_code : (task now : ℕ) (fs : List ℕ) → IsFootprint p task fs → (store : Store) (regions : List (Option (List ℕ))) → now ≤ last_moment → GoodOn p (Footprint p task) store → Shows (region_shape p) (λ r. is_among r fs) regions store
      → TaskRuns p code now all_ticks (map (entry_of p) (programs_of p task)) fs regions (run_task p task 0 (begun store now))
  task_of_code task now fs foot store regions in_time good shows =
      by (run_task p task 0 (begun store now))
      (task_runs p fine task fs foot code now (tables_of p) small placed_so store (alone (λ r. is_among r fs) 0 regions) (map (entry_of p) (programs_of p task)) in_time good (shown_alone fs store regions shows)
      (tables_are p fine (λ r. is_among r fs) (Writes p task) store (Reached p task) code now 0 lives is living)
      (entries_are task now fs foot store (programs_of p task) (λ r h. fine.tasks task r h)))
    where
      entries : List ℕ
      entries = map (entry_of p) (programs_of p task)

      few : List (Option (List ℕ))
      few = alone (λ r. is_among r fs) 0 regions

      by : (o : meaning.Outcome (Unit {0})) → EndsAs (BodiesRun code now entries few all_ticks) p (λ r. is_among r fs) o → TaskRuns p code now all_ticks entries fs regions o
      by (meaning.Done a t) h =
          let left = bodies_left code now entries few regions all_ticks (outcome.Done t.ticks) h.0 (alone_more (λ r. is_among r fs) regions) h.1 in
          record {
            outcome_is = outcome.Done t.ticks;
            after = left.left';
            runs = left.run;
            came = (
              refl,
              record { region = λ r sh held is. let g = h.2.region r sh held is in record { value = g.value; image = g.image; there = left.follows.more.by r g.image g.there; stands = g.stands; long = g.long; spells = g.spells } },
              record { long = left.follows.long; stay = λ r other. (left.follows.away r (others_away (λ r. is_among r fs) regions r other)).1 },
            );
          }
      by (meaning.Fault kind line) h =
          let left = bodies_left code now entries few regions all_ticks (outcome.Fault (record { kind = kind; line = line })) h.0 (alone_more (λ r. is_among r fs) regions) h.1 in
          record { outcome_is = outcome.Fault (record { kind = kind; line = line }); after = left.left'; runs = left.run; came = refl }

  -- ---- hooks: every region is there, and each may be written

  any_use : (u : Use) → Covered p (λ r. true ≡ true) (λ r. Unit {0}) (RoutineIs p) u
  any_use (names g) = refl
  any_use (follows t) = λ q n. refl
  any_use (calls c) = λ y e. entered_is p fine c y e
  any_use (changes (the_region g)) = tt
  any_use (changes (the_instances t)) = λ q n. tt

  closed_all : (x : Routine) → RoutineIs p x → RoutineIs p x × All (Covered p (λ r. true ≡ true) (λ r. Unit {0}) (RoutineIs p)) (routine_uses p x)
  closed_all x k = (k, all_of _ (routine_uses p x) (λ u h. any_use u))

  -- A hook of an instance, on images of all regions.
  pub hook_of_code : (c j d ticks : ℕ) (k : Class) (x : Routine) (y : Path) (own : Address) (first second : Bool) (store : Store) (regions : List (Option (List ℕ))) → class_at p c ≡ Some k → slice_get k.methods j ≡ Some x → is_hook x ≡ true → RoutineIs p x
      → x.class ≡ Some d → Each (IsFlag x) x.parameters → length x.parameters ≤ 2 → Names p y (type.Instance d) → (sh : Shape) → located p 1 [] (in_store y) ≡ Some (record { address = own; shape = sh })
      → GoodOn p (λ r. true ≡ true) store → Shows (region_shape p) (λ r. true) regions store
      → HookRuns p code (hook_at p c j) own first second ticks regions (hook_run p x y (flags_of x first second) x.line (record (begun store 0) { ticks = ticks }))
  hook_of_code c j d ticks k x y own first second store regions there member is_one right class flags few named_so sh at good shows =
      by (hook_run p x y (flags_of x first second) x.line (record (begun store 0) { ticks = ticks }))
      (hook_runs p fine (λ r. true) (λ r. Unit {0}) store (RoutineIs p) code (tables_of p) small (λ x k. closed_all x k) placed_so x (hook_at p c j) d y own first second (record (begun store 0) { ticks = ticks }) regions
      (hook_code_is p fine (λ r. true) (λ r. Unit {0}) store (RoutineIs p) code small (λ x k. closed_all x k) placed_so lives is c j k x there member is_one)
      right class flags few named_so refl tt sh at
      (record { same_frames = refl; same_ticks = refl; same_now = refl; timely = timely 0 (omega arith); frames = tt; good = good; agree = λ r f. refl; stays = λ r n. refl; stays' = λ r n. refl; long = refl; long' = refl })
      refl refl shows
      (tables_are p fine (λ r. true) (λ r. Unit {0}) store (RoutineIs p) code 0 1 lives is living))
    where
      all_more : More regions regions
      all_more = record { by = λ r image e. e }

      by : (o : meaning.Outcome Frame) → EndsAs (Gives (hook code regions (hook_at p c j) own first second ticks)) p (λ r. true) o → HookRuns p code (hook_at p c j) own first second ticks regions o
      by (meaning.Done f t) h =
          let left = hook_left code (hook_at p c j) own first second ticks regions regions (outcome.Done t.ticks) h.0 all_more h.1 in
          record {
            outcome_is = outcome.Done t.ticks;
            after = left.left';
            runs = left.gives;
            came = (refl, record { region = λ r sh held is. let g = h.2.region r sh held is in record { value = g.value; image = g.image; there = left.follows.more.by r g.image g.there; stands = g.stands; long = g.long; spells = g.spells } }, left.follows.long);
          }
      by (meaning.Fault kind line) h =
          let left = hook_left code (hook_at p c j) own first second ticks regions regions (outcome.Fault (record { kind = kind; line = line })) h.0 all_more h.1 in
          record { outcome_is = outcome.Fault (record { kind = kind; line = line }); after = left.left'; runs = left.gives; came = (refl, left.follows.long) }
