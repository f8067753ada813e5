-- What holds of accepted programs, put together.
use Rattle.std.proofs.Common.{◌≡◌, ℕ, List, map, Some, subst, arith}
use Rattle.std.specs.Prelude.{slice_get}
use Rattle.st_tree.specs.Reads.{no_marks}
use Rattle.st_values.specs.Program.{Variable, TypeEntry, Program}
use Rattle.st_values.specs.Shape.{fields_of}
use Rattle.st_values.specs.View.{program_of}
use Rattle.st_meaning.proofs.st_frame.Frame.{frame_laws}
use Rattle.st_meaning.proofs.st_frame.Values.{good_laws}
use Rattle.st_change.proofs.carry_places.Places.{place_laws}
use Rattle.st_change.proofs.Paths.{path_laws}
use Rattle.st_change.proofs.Same.{same_laws}
use Rattle.st_change.proofs.Stores.{hooks_good, start_good, change_good}
use Rattle.resolution_order.specs.told_laws.ToldLaws.{Every}
use Rattle.accepted_texts.specs.st_accepted.Accepted.{most_bytes}
use Rattle.accepted_texts.proofs.formed_texts.Texts.{formed_text_laws}
use Rattle.accepted_texts.proofs.sized_units.Told.{few_values, parts_are_told}
use Rattle.accepted_texts.proofs.sized_units.Whole.{sized_unit_laws}
use Rattle.initial_laws.proofs.Names.{Unique}
use Rattle.promise_laws.proofs.Whole.{promise_laws}
use Rattle.program_laws.specs.Accepted.{IsAccepted}
use Rattle.program_laws.specs.Cycles.{AcceptedCycles}
use Rattle.program_laws.specs.Layouts.{CalledHaveShapes, AcceptedLayouts}
use Rattle.program_laws.specs.Paths.{AcceptedPaths}
use Rattle.program_laws.specs.Stores.{AcceptedStores}
use Rattle.program_laws.proofs.Apart.{NamesOnce, names_once, names_differ, paired}
use Rattle.program_laws.proofs.Layouts.{regions_unfold, part_shaped}
use Rattle.program_laws.proofs.Locals.{functions_shaped, methods_shaped, bodies_shaped}
use Rattle.program_laws.proofs.Stores.{kept, play_sound, run_sound}
use Rattle.program_laws.proofs.TypeNames.{types_unique, fields_unmarked}
use Rattle.program_laws.proofs.Unmarked.{Known, unmarked}

pub accepted_cycles : AcceptedCycles
accepted_cycles = record {
  latched = λ p fs task input s a g. frame_laws.latched p fs task input s (kept p a).program g;
  local = λ p fs task now input s t a f l g h. frame_laws.local p fs task now input s t (kept p a).program f l g h;
  elsewhere = λ p fs task now input s a f l g. frame_laws.elsewhere p fs task now input s (kept p a).program f l g;
  keeps = λ p fs task now input s a f l g. frame_laws.keeps p fs task now input s (kept p a).program f l g;
  good = λ p fs task now input s a f l g. frame_laws.good p fs task now input s (kept p a).program f l g;
  few_outputs = λ p fs a. sized_unit_laws.covered_few p (kept p a).outputs fs;
  bytes = λ p fs s b a g. sized_unit_laws.bytes p (kept p a).program (kept p a).outputs fs s g b;
}

pub accepted_stores : AcceptedStores
accepted_stores = record {
  initial = λ p a. good_laws.initial p (kept p a).program;
  hooks = λ p hs s t n m a on g e. hooks_good p (kept p a).program (kept p a).hooks hs s n on g t m e;
  start = λ p s n a e. start_good p (kept p a).program (kept p a).hooks s n e;
  change = λ old new before s n a b g e. change_good old new (kept old a).program (kept new b).program (kept old a).hooks (kept new b).hooks before s n g e;
  play = play_sound;
  run = run_sound;
}

-- ---- paths

module _ (p : Program) (a : IsAccepted p) where
  once : NamesOnce p
  once =
      let x = a.accepted in
      subst NamesOnce x.seen (names_once x.accepted.whole.decls x.program x.accepted.good.nothing x.accepted.checked)

  known : Known p
  known =
      let x = a.accepted in
      let decls = x.accepted.whole.decls in
      let good = x.accepted.good.nothing in
      record {
        once = once;
        numbered = (kept p a).program.numbered;
        types = subst (λ (q : Program). Unique (map (λ (t : TypeEntry). t.name) q.types)) x.seen (types_unique decls good x.program x.accepted.checked);
        fields = subst (λ (q : Program). (n : ℕ) (y : TypeEntry) (vs : List Variable) → slice_get q.types n ≡ Some y → fields_of y.body ≡ Some vs → Every (λ (v : Variable). v.marks ≡ no_marks) vs) x.seen (fields_unmarked x.program);
        shapes = (regions_unfold p (kept p a).sized.shapes).shapes;
      }

pub accepted_paths : AcceptedPaths
accepted_paths = record {
  differ = λ decls p good checked. names_differ (program_of p) (names_once decls p good checked);
  paired = λ before after old new g h c d. paired (program_of old) (program_of new) (names_once before old g c) (names_once after new h d);
  names = λ p a. names_differ p (once p a);
  pairs = λ old new a b. paired old new (once old a) (once new b);
  inverse = λ old new a b. path_laws.inverse old new (paired old new (once old a) (once new b));
  counterparts = λ old new a b. path_laws.counterparts old new (paired old new (once old a) (once new b));
  origin = λ old new before q v a g. place_laws.origin old new before q v (names_differ new (once new a)) g;
  number = λ old new keeping before held q r leaf a. place_laws.number old new keeping before held q r leaf (names_differ new (once new a));
  unmarked = λ p a m. unmarked p (known p a) m;
  stays = λ p s a m g. same_laws.stays p s (unmarked p (known p a) m) (good_laws.initial p (kept p a).program) g;
}

-- ---- layouts

called : (p : Program) → IsAccepted p → CalledHaveShapes p
called p a =
    let x = a.accepted in
    let decls = x.accepted.whole.decls in
    let good = x.accepted.good.nothing in
    let checked = x.accepted.checked in
    let fine = formed_text_laws.standard a.text x.accepted.whole x.accepted.is_unit in
    let parts = parts_are_told decls (formed_text_laws.told most_bytes decls fine good) in
    let few = few_values most_bytes decls (omega arith) fine in
    let right = (promise_laws.held a.text x.program x.accepted).program in
    let sizes = sized_unit_laws.accepted_locals a.text x.program x.accepted in
    let here : CalledHaveShapes (program_of x.program) =
    record {
      functions = functions_shaped decls x.program checked good parts few right sizes;
      methods = methods_shaped decls x.program checked good parts few right sizes;
      bodies = bodies_shaped decls x.program checked good parts few right sizes;
    } in
    subst CalledHaveShapes x.seen here

pub accepted_layouts : AcceptedLayouts
accepted_layouts = record {
  shapes = λ p a. (kept p a).sized.shapes;
  starts = λ p a. (kept p a).starts;
  unfolds = λ p a. regions_unfold p (kept p a).sized.shapes;
  called = called;
  parts = λ p q t sh a e f. part_shaped p q t sh (kept p a).sized.shapes e f;
}
