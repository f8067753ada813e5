-- What is carried on images is what is carried in stores.
use Rattle.std.proofs.Common.{◌≡◌, ◌≤◌, ◌<◌, ℕ, zero, suc, ◌+◌, ℤ, Bool, true, false, List, [], ◌∷◌, length, Option, Some, None, refl, sym, ap, ap₂, ◌∙◌, subst, arith}
use Rattle.std.specs.Prelude.{if◌then◌else◌, slice_get}
use Rattle.plc_text.specs.declared.fault.FaultKind.{FaultKind}
use Rattle.st_types.specs.declared.st_type.StType.{StType}
use Rattle.st_values.specs.Program.{Program}
use Rattle.st_values.specs.Value.{Value, Store, member, ◌>>=◌}
use Rattle.st_values.specs.Initial.{initial_store}
use Rattle.st_values.specs.Shape.{Shape, region_shape}
use Rattle.mem_layout.specs.store_bytes.Place.{size}
use Rattle.mem_layout.specs.store_bytes.Spells.{Spells, ShowsAt, Shows}
use Rattle.st_meaning.specs.st_frame.Good.{Good}
use Rattle.st_meaning.specs.st_frame.Promise.Declarations.{Each}
use Rattle.st_meaning.specs.Cycle.{all_ticks}
use Rattle.st_change.specs.From.{old_region}
use Rattle.st_change.specs.Hook.{Hook, Ran, ran, stopped, go_on, routine_of, run_hook, run_hooks}
use Rattle.st_change.specs.Carry.{Old, carry}
use Rattle.st_change.specs.Change as change
use Rattle.st_change.specs.Change.{region_before, carry_store}
use Rattle.st_change.proofs.Settled.{carry_laws}
use Rattle.st_change.specs.carry_places.Places.{region_goes}
use Rattle.st_change.proofs.carry_places.Places.{place_laws}
use Rattle.image_moves.specs.Moves.{Moves, moved}
use Rattle.carry_moves.specs.Addresses.{Relocates}
use Rattle.carry_moves.specs.CarryMoves.{moves_of}
use Rattle.carry_moves.specs.MoveLaws.{Spelled}
use Rattle.carry_moves.proofs.Whole.{carries}
use Rattle.change_images.specs.Images.{Images, every, Clean, Source, moves_from, region_moves, moved_from, carried_from, carried_image, carry_from, carry_images}
use Rattle.st_change.specs.StoreLaws.{IsHook}
use Rattle.st_change.proofs.Hooks.{exits_are, inits_are, reinits_are}
use Rattle.change_images.specs.Phases.{Left, left, faulted, then_left, HookRun, run_all, Agrees, RunsHooks, change_images}
use Rattle.change_images.specs.ImageLaws.{ImageLaws}

carried_at : (relocated : ℕ → ℤ → ℤ) (plan : ℕ → Source) (olds : Images) (is : Images) (r k m : ℕ) (i : Option (List ℕ)) → m ≡ r + k → slice_get is k ≡ Some i → slice_get (carry_from relocated plan olds r is) k ≡ Some (carried_image relocated olds (plan m) i)
carried_at relocated plan olds [] r k m i e h = cc
carried_at relocated plan olds (x ∷ is) r zero m i e h =
    let a : x ≡ i = cc in
    let b : r ≡ m = omega arith in
    ap₂ (λ u v. Some (carried_image relocated olds (plan u) v)) b a
carried_at relocated plan olds (x ∷ is) r (suc k) m i e h = carried_at relocated plan olds is (suc r) k m i (omega arith) h

module _ (old new : Program) (aim : StType → ℕ) (relocated : ℕ → ℤ → ℤ) (keeping : Bool) (rel : Relocates old new aim relocated) (olds news : Images) (before held : Store)
    (show : Shows (region_shape old) every olds before) where
  -- an image of the length of a shape that spells a value
  record Shown (sh : Shape) (v : Value) (image : List ℕ) : Type 0 where
    long : length image ≡ size sh
    spells : Spells (region_shape new) sh v image 0

  region_shown : (r : ℕ) (sh : Shape) (h : Value) (image : List ℕ) → region_shape new r ≡ Some sh → Shown sh h image → Shown sh (carry old new keeping sh (region_before old new before r) h) (carried_from relocated olds (moves_from old new aim keeping r) image)
  region_shown r sh h image e s = by (old_region old new r)
    where
      stay : Shown sh (carry old new keeping sh None h) image
      stay = subst (λ v. Shown sh v image) (sym (place_laws.nothing old new keeping sh h)) s

      from : (o : ℕ) (x : Shape) → region_shape old o ≡ Some x → Shown sh (carry old new keeping sh (member before o >>= λ v. Some (x, v)) h) (carried_from relocated olds (region_shape new r >>= λ y. Some (o, moves_of old new aim keeping y x 0 0)) image)
      from o x q =
          let a = show.region o x refl q in
          let c = carries old new aim relocated keeping rel a.image sh x a.value h image 0 0 a.spells s.spells (omega (arith, a.long)) (omega (arith, s.long)) in
          subst (λ w. Shown sh (carry old new keeping sh (w >>= λ v. Some (x, v)) h) (carried_from relocated olds (region_shape new r >>= λ y. Some (o, moves_of old new aim keeping y x 0 0)) image)) (sym a.stands)
          (subst (λ w. Shown sh (carry old new keeping sh (Some (x, a.value)) h) (carried_from relocated olds (w >>= λ y. Some (o, moves_of old new aim keeping y x 0 0)) image)) (sym e)
          (subst (λ w. Shown sh (carry old new keeping sh (Some (x, a.value)) h) (moved_from relocated (moves_of old new aim keeping sh x 0 0) w image)) (sym a.there) (record { long = c.long ∙ s.long; spells = c.spells })))

      shaped : (o : ℕ) (p : Option Shape) → region_shape old o ≡ p → Shown sh (carry old new keeping sh (p >>= λ x. member before o >>= λ v. Some (x, v)) h) (carried_from relocated olds (p >>= λ x. region_shape new r >>= λ y. Some (o, moves_of old new aim keeping y x 0 0)) image)
      shaped o None q = stay
      shaped o (Some x) q = from o x q

      by : (p : Option ℕ) → Shown sh (carry old new keeping sh (p >>= λ o. region_shape old o >>= λ x. member before o >>= λ v. Some (x, v)) h)
          (carried_from relocated olds (p >>= λ o. region_shape old o >>= λ x. region_shape new r >>= λ y. Some (o, moves_of old new aim keeping y x 0 0)) image)
      by None = stay
      by (Some o) = shaped o (region_shape old o) refl

  shown : Shows (region_shape new) every news held → Shows (region_shape new) every (carry_images relocated (region_moves old new aim keeping) olds news) (carry_store old new keeping before held)
  shown h = record { region = λ r sh held_is e. at r sh e (h.region r sh refl e) }
    where
      at : (r : ℕ) (sh : Shape) → region_shape new r ≡ Some sh → ShowsAt (region_shape new) news held r sh → ShowsAt (region_shape new) (carry_images relocated (region_moves old new aim keeping) olds news) (carry_store old new keeping before held) r sh
      at r sh e a =
          let c = by (region_goes old new keeping r (slice_get new.regions r)) in
          record {
            image = carried_from relocated olds (region_moves old new aim keeping r) a.image;
            value = if region_goes old new keeping r (slice_get new.regions r) then carry old new keeping sh (region_before old new before r) a.value else a.value;
            there = carried_at relocated (region_moves old new aim keeping) olds news 0 r r (Some a.image) (omega arith) a.there;
            stands = place_laws.region old new keeping before held r sh a.value e a.stands;
            long = c.long;
            spells = c.spells;
          }
        where
          by : (b : Bool) → Shown sh (if b then carry old new keeping sh (region_before old new before r) a.value else a.value) (carried_from relocated olds (if b then moves_from old new aim keeping r else None) a.image)
          by true = region_shown r sh a.value a.image e (record { long = a.long; spells = a.spells })
          by false = record { long = a.long; spells = a.spells }

pub carried : (old new : Program) (aim : StType → ℕ) (relocated : ℕ → ℤ → ℤ) (keeping : Bool) (olds news : Images) (before held : Store) → Relocates old new aim relocated → Clean old olds before → Clean new news held
    → Clean new (carry_images relocated (region_moves old new aim keeping) olds news) (carry_store old new keeping before held)
carried old new aim relocated keeping olds news before held rel a b =
    record { shows = shown old new aim relocated keeping rel olds news before held a.shows b.shows; good = carry_laws.store old new keeping before held a.good b.good }

-- ---- phases

-- what goes on agrees
pub then_agrees : (p q : Program) (x : Left) (r : Ran) (f : Images → ℕ → Left) (g : Store → ℕ → Ran) → Agrees p x r → ((is : Images) (s : Store) (n : ℕ) → Clean p is s → Agrees q (f is n) (g s n)) → Agrees q (then_left x f) (go_on r g)
then_agrees p q (left is n) (ran s m) f g a h = subst (λ k. Agrees q (f is n) (g s k)) a.0 (h is s n a.1)
then_agrees p q (faulted c k l) (stopped d j m) f g a h = a
then_agrees p q (left is n) (stopped d j m) f g a h = absurd a
then_agrees p q (faulted c k l) (ran s m) f g a h = absurd a

pub hooks_agree : (p : Program) (run : HookRun) → RunsHooks p run → (hs : List Hook) → Each (IsHook p) hs → (is : Images) (s : Store) (n : ℕ) → Clean p is s → Agrees p (run_all run hs is n) (run_hooks p hs s n)
hooks_agree p run R [] on is s n c = (refl, c)
hooks_agree p run R (h ∷ hs) on is s n c =
    then_agrees p p (run h is n) (run_hook p h (routine_of p h) s n) (run_all run hs) (run_hooks p hs) (R.by h is s n on.0 c) (λ is s n c. hooks_agree p run R hs on.1 is s n c)

pub changes : (old new : Program) (aim : StType → ℕ) (relocated : ℕ → ℤ → ℤ) (run_old run_new : HookRun) (fresh olds : Images) (before : Store) → Relocates old new aim relocated → RunsHooks old run_old → RunsHooks new run_new
    → Clean old olds before → Clean new fresh (initial_store new) → Agrees new (change_images old new aim relocated run_old run_new fresh olds) (change.change old new before)
changes old new aim relocated run_old run_new fresh olds before rel R S a b =
    then_agrees old new _ _ _ _ (hooks_agree old run_old R _ (exits_are old new) olds before all_ticks a) (λ o1 s1 n1 c1.
    then_agrees new new _ _ _ _ (hooks_agree new run_new S _ (inits_are old new) _ _ n1 (carried old new aim relocated true o1 fresh s1 (initial_store new) rel c1 b)) (λ i3 s3 n3 c3.
    hooks_agree new run_new S _ (reinits_are old new) _ _ n3 (carried old new aim relocated false o1 i3 s1 s3 rel c1 c3)))

pub image_laws : ImageLaws
image_laws = record { carries = carried; changes = changes }
