-- The plan's moves lie within clean images, and the phases by it are the change.
use Rattle.std.proofs.Common.{◌≡◌, ◌≤◌, ◌<◌, ℕ, zero, suc, ◌+◌, ℤ, Bool, true, false, List, [], ◌∷◌, length, Option, Some, None, Result, Ok, Err, refl, sym, ap, ap₂, ◌∙◌, subst, arith}
use Rattle.std.specs.Prelude.{if◌then◌else◌, slice_get, option_map}
use Rattle.std.proofs.lemmas.Option.{slice_get_within}
use Rattle.st_types.specs.declared.st_type.StType.{StType}
use Rattle.st_values.specs.Program.{Program}
use Rattle.st_values.specs.Value.{Store, ◌>>=◌}
use Rattle.st_values.specs.Initial.{initial_store}
use Rattle.st_values.specs.Shape.{Shape, region_shape}
use Rattle.mem_layout.specs.store_bytes.Place.{size}
use Rattle.st_meaning.specs.Cycle.{all_ticks}
use Rattle.st_change.specs.From.{old_region}
use Rattle.st_change.specs.Hook.{Ran, ran, stopped}
use Rattle.st_change.specs.Change as change
use Rattle.st_change.specs.Change.{carry_store}
use Rattle.st_change.specs.carry_places.Places.{region_goes}
use Rattle.image_moves.specs.Moves.{Moves, no_moves, moved, AreWithin}
use Rattle.image_moves.specs.Merged.{merged}
use Rattle.image_moves.proofs.MoveFacts.{merged_does}
use Rattle.carry_moves.specs.Addresses.{Relocates}
use Rattle.carry_moves.specs.CarryMoves.{moves_of}
use Rattle.carry_moves.proofs.Within.{moves_within}
use Rattle.change_images.specs.Images.{Images, every, Clean, Source, moves_from, region_moves, moved_from, carried_image, carry_from, carry_images}
use Rattle.st_change.proofs.Hooks.{exits_are, inits_are, reinits_are}
use Rattle.change_images.specs.Phases.{Left, left, faulted, HookRun, Agrees, RunsHooks}
use Rattle.change_images.proofs.CarriedImages.{carried, then_agrees, hooks_agree}
use Rattle.change_images.specs.Apply.{long_at, Lies, PlanLies, IsStop, IsChanged, phases_by}
use Rattle.change_images.specs.ChangeLaws.{DoesAs, SourceDoes, IsPlanOf, IsOutcome, ChangeLaws}
use Rattle.change_images.specs.declared.hooks.Halt.{Halt}
use Rattle.change_images.proofs.Steps.{same_lists, each_carried}

module _ (old new : Program) (aim : StType → ℕ) (keeping : Bool) (olds news : Images) (before held : Store) (a : Clean old olds before) (b : Clean new news held) where
  plain_lies : (r : ℕ) → Lies olds news r (region_moves old new aim keeping r)
  plain_lies r = by (region_goes old new keeping r (slice_get new.regions r))
    where
      both : (o : ℕ) (x sh : Shape) → region_shape old o ≡ Some x → region_shape new r ≡ Some sh → Lies olds news r (Some (o, moves_of old new aim keeping sh x 0 0))
      both o x sh p q =
          let u = a.shows.region o x refl p in
          let v = b.shows.region r sh refl q in
          let source : long_at (slice_get olds o) ≡ size x = ap long_at u.there ∙ u.long in
          let target : long_at (slice_get news r) ≡ size sh = ap long_at v.there ∙ v.long in
          (slice_get_within olds o (Some u.image) u.there, subst (λ n. AreWithin (moves_of old new aim keeping sh x 0 0) n (long_at (slice_get news r))) (sym source) (subst (AreWithin (moves_of old new aim keeping sh x 0 0) (size x)) (sym target) (moves_within old new aim keeping sh x)))

      new_side : (o : ℕ) (x : Shape) (q : Option Shape) → region_shape old o ≡ Some x → region_shape new r ≡ q → Lies olds news r (q >>= λ sh. Some (o, moves_of old new aim keeping sh x 0 0))
      new_side o x None p q = tt
      new_side o x (Some sh) p q = both o x sh p q

      old_side : (o : ℕ) (p : Option Shape) → region_shape old o ≡ p → Lies olds news r (p >>= λ x. region_shape new r >>= λ sh. Some (o, moves_of old new aim keeping sh x 0 0))
      old_side o None p = tt
      old_side o (Some x) p = new_side o x (region_shape new r) p refl

      from : (o : Option ℕ) → Lies olds news r (o >>= λ o. region_shape old o >>= λ x. region_shape new r >>= λ sh. Some (o, moves_of old new aim keeping sh x 0 0))
      from None = tt
      from (Some o) = old_side o (region_shape old o) refl

      by : (c : Bool) → Lies olds news r (if c then moves_from old new aim keeping r else None)
      by false = tt
      by true = from (old_region old new r)

  plan_lies : (plan : ℕ → Source) → ((r : ℕ) → SourceDoes (plan r) (region_moves old new aim keeping r)) → PlanLies plan olds news
  plan_lies plan h = record { by = λ r lt. by r (plan r) (region_moves old new aim keeping r) (h r) (plain_lies r) }
    where
      by : (r : ℕ) (p s : Source) → SourceDoes p s → Lies olds news r s → Lies olds news r p
      by r None s d x = tt
      by r (Some a) None d x = absurd d
      by r (Some a) (Some b) d x = (
        subst (λ o. o < length olds) (sym d.0) x.0,
        subst (λ o. AreWithin a.1 (long_at (slice_get olds o)) (long_at (slice_get news r))) (sym d.0) (d.1.within _ _ x.1),
      )

  plan_same : (relocated : ℕ → ℤ → ℤ) (plan : ℕ → Source) → ((r : ℕ) → SourceDoes (plan r) (region_moves old new aim keeping r)) → carry_images relocated plan olds news ≡ carry_images relocated (region_moves old new aim keeping) olds news
  plan_same relocated plan h = same_lists _ _ (λ k.
      each_carried relocated olds plan news 0 k k (omega arith)
      ∙ by k (plan k) (region_moves old new aim keeping k) (slice_get news k) refl (h k) (plain_lies k)
      ∙ sym (each_carried relocated olds (region_moves old new aim keeping) news 0 k k (omega arith)))
    where
      from : (new_ms ms : Moves) (o : Option (Option (List ℕ))) (im : List ℕ) → DoesAs new_ms ms → AreWithin ms (long_at o) (length im) → moved_from relocated new_ms o im ≡ moved_from relocated ms o im
      from new_ms ms (Some (Some source)) im d w = d.same relocated source im (length source) (length im) 0 0 w (omega arith) (omega arith)
      from new_ms ms (Some None) im d w = refl
      from new_ms ms None im d w = refl

      nothing : (o : Option (Option (List ℕ))) (im : List ℕ) → moved_from relocated no_moves o im ≡ im
      nothing (Some (Some source)) im = refl
      nothing (Some None) im = refl
      nothing None im = refl

      by : (k : ℕ) (p s : Source) (o : Option (Option (List ℕ))) → slice_get news k ≡ o → SourceDoes p s → Lies olds news k s → option_map (carried_image relocated olds p) o ≡ option_map (carried_image relocated olds s) o
      by k p s None e d x = refl
      by k p s (Some None) e d x = refl
      by k None None (Some (Some im)) e d x = refl
      by k (Some a) None (Some (Some im)) e d x = absurd d
      by k None (Some b) (Some (Some im)) e d x = ap (λ y. Some (Some y)) (sym (nothing (slice_get olds b.0) im) ∙ from no_moves b.1 (slice_get olds b.0) im d (subst (λ o. AreWithin b.1 (long_at (slice_get olds b.0)) (long_at o)) e x.1))
      by k (Some a) (Some b) (Some (Some im)) e d x =
          ap (λ y. Some (Some y)) (ap (λ o. moved_from relocated a.1 (slice_get olds o) im) d.0 ∙ from a.1 b.1 (slice_get olds b.0) im d.1 (subst (λ o. AreWithin b.1 (long_at (slice_get olds b.0)) (long_at o)) e x.1))

carried_by : (old new : Program) (aim : StType → ℕ) (relocated : ℕ → ℤ → ℤ) (keeping : Bool) (plan : ℕ → Source) (olds news : Images) (before held : Store) → Relocates old new aim relocated → ((r : ℕ) → SourceDoes (plan r) (region_moves old new aim keeping r))
    → Clean old olds before → Clean new news held → Clean new (carry_images relocated plan olds news) (carry_store old new keeping before held)
carried_by old new aim relocated keeping plan olds news before held rel h a b =
    subst (λ is. Clean new is (carry_store old new keeping before held)) (sym (plan_same old new aim keeping olds news before held a b relocated plan h)) (carried old new aim relocated keeping olds news before held rel a b)

phases_agree : (old new : Program) (aim : StType → ℕ) (relocated : ℕ → ℤ → ℤ) (run_old run_new : HookRun) (kept copied : ℕ → Source) (fresh olds : Images) (before : Store) → Relocates old new aim relocated → RunsHooks old run_old → RunsHooks new run_new
    → IsPlanOf old new aim kept copied → Clean old olds before → Clean new fresh (initial_store new)
    → Agrees new (phases_by run_old run_new relocated (change.exits old new (change.leaving old new)) (change.inits old new (change.coming old new)) (change.reinits old new (change.coming old new)) kept copied fresh olds) (change.change old new before)
phases_agree old new aim relocated run_old run_new kept copied fresh olds before rel R S plan a b =
    then_agrees old new _ _ _ _ (hooks_agree old run_old R _ (exits_are old new) olds before all_ticks a) (λ o1 s1 n1 c1.
    then_agrees new new _ _ _ _ (hooks_agree new run_new S _ (inits_are old new) _ _ n1 (carried_by old new aim relocated true kept o1 fresh s1 (initial_store new) rel plan.kept-is c1 b)) (λ i3 s3 n3 c3.
    hooks_agree new run_new S _ (reinits_are old new) _ _ n3 (carried_by old new aim relocated false copied o1 i3 s1 s3 rel plan.copied-is c1 c3)))

outcome_is : (old new : Program) (result : Result Images (Images × Halt)) (olds : Images) (x : Left) (r : Ran) → IsChanged old new result olds x → Agrees new x r → IsOutcome old new result olds r
outcome_is old new (Ok news) olds (left js m) (ran s n) c a = (s, n, refl, subst (λ is. Clean new is s) (sym c) a.1)
outcome_is old new (Err back) olds (faulted class kind line) (stopped d k l) c a = (d, k, l, refl, c.0, subst (λ x. IsStop old new back.1 x k l) a.0 (subst (λ x. IsStop old new back.1 class x l) a.1 (subst (λ x. IsStop old new back.1 class kind x) a.2 c.1)))
outcome_is old new (Ok news) olds (left js m) (stopped d k l) c a = absurd a
outcome_is old new (Ok news) olds (faulted class kind line) r c a = absurd c
outcome_is old new (Err back) olds (left js m) r c a = absurd c
outcome_is old new (Err back) olds (faulted class kind line) (ran s n) c a = absurd a

pub change_laws : ChangeLaws
change_laws = record {
  merges = λ ms. record {
    within = λ s d w. (merged_does (λ k z. z) [] ms s d).within w;
    same = λ relocated source image s d i j w p q. (merged_does relocated source ms s d).same i j image w p q;
  };
  lies = λ old new aim kept copied olds news before held plan a b. (plan_lies old new aim true olds news before held a b kept plan.kept-is, plan_lies old new aim false olds news before held a b copied plan.copied-is);
  phases = phases_agree;
  outcome = outcome_is;
}
