-- A change of a program to itself keeps all regions, calls no hook and leaves the store.
use Rattle.std.proofs.Common.{◌≡◌, ◌<◌, ℕ, zero, suc, ◌+◌, Bool, true, false, List, [], ◌∷◌, length, ◌++◌, Some, refl, sym, ap, ap₂, ◌∙◌, subst, arith}
use Rattle.std.specs.Prelude.{if◌then◌else◌, ◌&&◌, ◌||◌, not, option_map, slice_get}
use Rattle.std.proofs.lemmas.Cmp.{int_eq_equiv}
use Rattle.std.proofs.lemmas.Bool.{eq-eqb}
use Rattle.plc_text.specs.declared.refusal.Refusal.{Refusal}
use Rattle.cycle_journal.specs.declared.entry.CycleReply.{CycleReply}
use Rattle.cycle_journal.specs.declared.entry.CycleReply.TheVariants as reply
use Rattle.st_types.specs.Elem.{name as elem_name}
use Rattle.st_tree.specs.declared.path.Path.{Path}
use Rattle.st_values.specs.Program.{Region, Program}
use Rattle.st_values.specs.Value.{Value, Store, Members, no_members, member_then, member, names_of}
use Rattle.st_values.specs.Shape.{Shape, Elementary, Enumeration, Reference, Interface, Array, Structure, Instance, Fields, no_fields, field_then, same_shape, same_fields, region_shape, has_instance}
use Rattle.st_values.specs.Initial.{initial_store}
use Rattle.st_meaning.specs.Cycle.{all_ticks, cycle}
use Rattle.st_meaning.specs.st_frame.Good.{Fit, Good, region_names}
use Rattle.st_change.specs.From.{Pairs, old_name, structure_pairs, class_pairs, region_name, region_pairs, old_region, new_region}
use Rattle.st_change.specs.Counterpart.{has_fresh, a_field_is_fresh, is_fresh, equal_shapes, keeps, kept, was_kept_as, was_kept}
use Rattle.st_change.specs.Instances.{Member, members_first, owner_first, walk_region, of_regions}
use Rattle.st_change.specs.Carry.{carry}
use Rattle.st_change.specs.Hook.{ran, go_on, run_hooks}
use Rattle.st_change.specs.Change.{leaving, coming, region_before, carried_region, carry_regions, carry_store, exits, inits, reinits, change}
use Rattle.st_change.specs.CarryLaws.{Settled, FieldsSettled}
use Rattle.st_change.specs.OneThread.{cycle_answer, cycle_without_task, cycle_held, cycle_run, reset_without_task, reset_done, change_loaded, change_refused, change_stopped, change_without_memory}
use Rattle.st_change.specs.SameLaws.{AreUnmarked, IsUnmarked, SameLaws, is_refused, RefusalsLeave}
use Rattle.st_change.proofs.Names.{then_is, old_new, region_number_of}
use Rattle.st_change.proofs.Settled.{same_self, names_self, same_region}

-- ---- a shape is equal to itself

mutual
  shape_self : (sh : Shape) → same_shape sh sh ≡ true
  shape_self (Elementary e) = same_self (elem_name e)
  shape_self (Enumeration n vs) = ap₂ (λ a b. a && b) (same_self n) (names_self vs)
  shape_self (Reference c n) = same_self n
  shape_self (Interface i n) = same_self n
  shape_self (Array low n sh) = ap₂ (λ a b. a && (b && same_shape sh sh)) (int_eq_equiv.refl low) (eq-eqb n n refl) ∙ shape_self sh
  shape_self (Structure n fs) = ap (λ b. b && same_fields fs fs) (same_self n) ∙ fields_self fs
  shape_self (Instance c n fs) = ap (λ b. b && same_fields fs fs) (same_self n) ∙ fields_self fs

  fields_self : (fs : Fields) → same_fields fs fs ≡ true
  fields_self no_fields = refl
  fields_self (field_then v sh fs) = ap₂ (λ a b. a && (b && same_fields fs fs)) (same_self v.name) (shape_self sh) ∙ fields_self fs

module _ (p : Program) where
  -- ---- where no variable is marked, none is fresh

  mutual
    none_fresh : (sh : Shape) → Settled p sh → has_fresh sh ≡ false
    none_fresh (Elementary e) h = refl
    none_fresh (Enumeration n vs) h = refl
    none_fresh (Reference c n) h = refl
    none_fresh (Interface i n) h = refl
    none_fresh (Array low n sh) h = none_fresh sh h
    none_fresh (Structure n fs) h = no_field_fresh (structure_pairs p p n) fs h
    none_fresh (Instance c n fs) h = no_field_fresh (class_pairs p p c) fs h

    no_field_fresh : (ps : Pairs) (fs : Fields) → FieldsSettled p ps fs → a_field_is_fresh fs ≡ false
    no_field_fresh ps no_fields h = refl
    no_field_fresh ps (field_then v sh fs) h =
        ap₂ (λ a b. ((a && has_instance sh) || b) || a_field_is_fresh fs) h.1 (none_fresh sh h.3) ∙ no_field_fresh ps fs h.4

  unmarked_at : (xs : List Region) (r : ℕ) (x : Region) → AreUnmarked xs → slice_get xs r ≡ Some x → (x.variable.marks.init_on_change ≡ false) × (x.variable.marks.no_copy ≡ false)
  unmarked_at [] r x h e = cc
  unmarked_at (y ∷ xs) zero x h e = let d : y ≡ x = cc in subst (λ z. (z.variable.marks.init_on_change ≡ false) × (z.variable.marks.no_copy ≡ false)) d (h.0, h.1)
  unmarked_at (y ∷ xs) (suc r) x h e = unmarked_at xs r x h.2 e

  there_at : (xs : List Region) (r : ℕ) → r < length xs → (x : Region) × (slice_get xs r ≡ Some x)
  there_at [] r h = absurd (omega arith)
  there_at (x ∷ xs) zero h = (x, refl)
  there_at (x ∷ xs) (suc r) h = there_at xs r (omega arith)

  within_at : (xs : List Region) (r : ℕ) (x : Region) → slice_get xs r ≡ Some x → r < length xs
  within_at [] r x e = cc
  within_at (y ∷ xs) zero x e = omega arith
  within_at (y ∷ xs) (suc r) x e = let h = within_at xs r x e in omega (arith, h)

  module _ (fine : IsUnmarked p) where
    -- ---- each region comes from itself

    region_itself : (r : ℕ) (x : Region) → slice_get p.regions r ≡ Some x → (old_region p p r ≡ Some r) × (new_region p p r ≡ Some r)
    region_itself r x e =
        let n = x.variable.name in
        let named : region_name p r ≡ Some n = ap (option_map (λ y. y.variable.name)) e in
        let old = fine.settles.regions r n named in
        let number = region_number_of p.regions r n fine.settles.differ.regions named in (
          then_is (region_name p r) _ n r named (then_is (old_name (region_pairs p p) n) _ n r old number),
          then_is (region_name p r) _ n r named (then_is _ _ n r (old_new (region_pairs p p) n n old) number),
        )

    keeps_at : (r : ℕ) (x : Region) (sh : Shape) → slice_get p.regions r ≡ Some x → region_shape p r ≡ Some sh → kept p p r ≡ true
    unfolding kept
    keeps_at r x sh e f =
        let m = unmarked_at p.regions r x fine.regions e in
        ap₂ (keeps p p r) e (region_itself r x e).0
        ∙ ap (λ o. equal_shapes o o && not (is_fresh x.variable o)) f
        ∙ ap₂ (λ a b. a && not ((b && has_instance sh) || has_fresh sh)) (shape_self sh) m.0
        ∙ ap not (none_fresh sh (fine.settles.shapes r sh f))

    pub each_kept : (r : ℕ) → r < length p.regions → kept p p r ≡ true
    each_kept r h = let x = there_at p.regions r h in let sh = fine.shapes r h in keeps_at r x.0 sh.0 x.1 sh.1

    each_was_kept : (r : ℕ) → r < length p.regions → was_kept p p r ≡ true
    each_was_kept r h = let x = there_at p.regions r h in ap (was_kept_as p p) (region_itself r x.0 x.1).1 ∙ each_kept r h

    -- ---- no instance leaves or comes

    none_of : (test : ℕ → Bool) (walk : Shape → Path → List Member) (r : ℕ) (xs : List Region) → ((k : ℕ) → r + k < r + length xs → test (r + k) ≡ false) → of_regions p test walk r xs ≡ []
    none_of test walk r [] h = refl
    none_of test walk r (x ∷ xs) h =
        let z : r + 0 ≡ r = omega arith in
        let first : test r ≡ false = subst (λ n. test n ≡ false) z (h 0 (omega arith)) in
        let rest = none_of test walk (suc r) xs (λ k l. let q : r + suc k ≡ suc r + k = omega arith in subst (λ n. test n ≡ false) q (h (suc k) (omega arith))) in
        ap₂ (λ b ms. (if b then walk_region walk (region_shape p r) r else []) ++ ms) first rest

    pub none_leave : leaving p p ≡ []
    none_leave = none_of (λ r. not (was_kept p p r)) owner_first 0 p.regions (λ k l. ap not (each_was_kept (0 + k) (omega (arith, l))))

    pub none_come : coming p p ≡ []
    none_come = none_of (λ r. not (kept p p r)) members_first 0 p.regions (λ k l. ap not (each_kept (0 + k) (omega (arith, l))))

    -- ---- the store stays

    -- these are the regions from number r on, and the values that they have
    record From (s : Store) (r : ℕ) (xs : List Region) (ms : Members) : Type 0 where
      regions : (k : ℕ) → slice_get xs k ≡ slice_get p.regions (r + k)
      values : (k : ℕ) → member ms k ≡ member s (r + k)
      names : names_of ms ≡ region_names xs

    next_from : (s : Store) (r : ℕ) (x : Region) (xs : List Region) (n : List ℕ) (v : Value) (ms : Members) → From s r (x ∷ xs) (member_then n v ms) → From s (suc r) xs ms
    next_from s r x xs n v ms h = record {
      regions = λ k. let q : r + suc k ≡ suc r + k = omega arith in h.regions (suc k) ∙ ap (slice_get p.regions) q;
      values = λ k. let q : r + suc k ≡ suc r + k = omega arith in h.values (suc k) ∙ ap (member s) q;
      names = let e = h.names in cc;
    }

    module _ (s : Store) (good : Good p s) where
      fit_at : (r : ℕ) (sh : Shape) (v : Value) → region_shape p r ≡ Some sh → member s r ≡ Some v → Fit p sh v
      fit_at r sh v e f = let g = (good.each r).by sh e in let d : g.0 ≡ v = let a = g.1 in cc in subst (Fit p sh) d g.2

    kept_regions : (s : Store) (held : Store) → Good p s → Good p held → (r : ℕ) (xs : List Region) (ms hs : Members) → From s r xs ms → From held r xs hs → carry_regions p p true s r xs hs ≡ ms
    kept_regions s held g k r [] no_members no_members h i = refl
    kept_regions s held g k r [] (member_then n v ms) hs h i = let e = h.names in cc
    kept_regions s held g k r [] no_members (member_then m w hs) h i = let e = i.names in cc
    kept_regions s held g k r (x ∷ xs) no_members hs h i = let e = h.names in cc
    kept_regions s held g k r (x ∷ xs) (member_then n v ms) no_members h i = let e = i.names in cc
    kept_regions s held g k r (x ∷ xs) (member_then n v ms) (member_then m w hs) h i =
        let z : r + 0 ≡ r = omega arith in
        let here : slice_get p.regions r ≡ Some x = ap (slice_get p.regions) (sym z) ∙ sym (h.regions 0) in
        let value : member s r ≡ Some v = ap (member s) (sym z) ∙ sym (h.values 0) in
        let holds : member held r ≡ Some w = ap (member held) (sym z) ∙ sym (i.values 0) in
        let l = within_at p.regions r x here in
        let sh = fine.shapes r l in
        let u = unmarked_at p.regions r x fine.regions here in
        let before : region_before p p s r ≡ Some (sh.0, v) =
        then_is (old_region p p r) _ r (sh.0, v) (region_itself r x here).0 (then_is (region_shape p r) _ sh.0 (sh.0, v) sh.1 (then_is (member s r) _ v (sh.0, v) value refl)) in
        let carried : carried_region p p true (region_shape p r) x (region_before p p s r) w ≡ v =
        ap₂ (λ o b. carried_region p p true o x b w) sh.1 before
        ∙ ap₂ (λ a b. if a || (b && false) then w else carry p p true sh.0 (Some (sh.0, v)) w) u.0 u.1
        ∙ same_region p fine.settles true r sh.0 v w sh.1 (fit_at s g r sh.0 v sh.1 value) (fit_at held k r sh.0 w sh.1 holds) in
        let name : m ≡ n = let a = h.names in let b = i.names in cc in
        ap₂ (λ b c. member_then m (if b then c else w) (carry_regions p p true s (suc r) xs hs)) (each_kept r l) carried
        ∙ ap₂ (λ a b. member_then a v b) name (kept_regions s held g k (suc r) xs ms hs (next_from s r x xs n v ms h) (next_from held r x xs m w hs i))

    -- where all regions are kept nothing is carried into others
    others : (s : Store) (r : ℕ) (xs : List Region) (hs : Members) → ((k : ℕ) → r + k < r + length xs → kept p p (r + k) ≡ true) → carry_regions p p false s r xs hs ≡ hs
    others s r xs no_members h = refl
    others s r [] (member_then n w hs) h = refl
    others s r (x ∷ xs) (member_then n w hs) h =
        let z : r + 0 ≡ r = omega arith in
        let first : kept p p r ≡ true = subst (λ n. kept p p n ≡ true) z (h 0 (omega arith)) in
        let rest = others s (suc r) xs hs (λ k l. let q : r + suc k ≡ suc r + k = omega arith in subst (λ n. kept p p n ≡ true) q (h (suc k) (omega arith))) in
        ap₂ (λ b c. member_then n (if not b then carried_region p p false (region_shape p r) x (region_before p p s r) w else w) c) first rest

    whole : (s : Store) → Good p s → From s 0 p.regions s
    whole s g = record { regions = λ k. let q : k ≡ 0 + k = omega arith in ap (slice_get p.regions) q; values = λ k. let q : k ≡ 0 + k = omega arith in ap (member s) q; names = g.regions }

    pub store_stays : (s : Store) → Good p (initial_store p) → Good p s → change p p s ≡ ran s all_ticks
    store_stays s g h =
        let first : carry_store p p true s (initial_store p) ≡ s = kept_regions s (initial_store p) h g 0 p.regions s (initial_store p) (whole s h) (whole (initial_store p) g) in
        let last : carry_store p p false s s ≡ s = others s 0 p.regions s (λ k l. each_kept (0 + k) (omega (arith, l))) in
        ap (λ ms.
        go_on (run_hooks p (exits p p ms) s all_ticks) (λ s1 n1.
        go_on (run_hooks p (inits p p (coming p p)) (carry_store p p true s1 (initial_store p)) n1) (λ s3 n3. run_hooks p (reinits p p (coming p p)) (carry_store p p false s1 s3) n3))) none_leave
        ∙ ap (λ ms. go_on (run_hooks p (inits p p ms) (carry_store p p true s (initial_store p)) all_ticks) (λ s3 n3. run_hooks p (reinits p p ms) (carry_store p p false s s3) n3)) none_come
        ∙ ap (λ t. ran (carry_store p p false s t) all_ticks) first
        ∙ ap (λ t. ran t all_ticks) last

pub same_laws : SameLaws
same_laws = record {
  keeps = λ p r h l. each_kept p h r l;
  none_leave = λ p h. none_leave p h;
  none_come = λ p h. none_come p h;
  stays = λ p s h g k. store_stays p h s g k;
}

-- ---- refusals

never_refused : (x : CycleReply) → is_refused (cycle_answer x) ≡ true → ⊥
never_refused (reply.Done ticks outputs) e = cc
never_refused (reply.Fault fault) e = cc

module _ (Accepts : List ℕ → Program → Type 0) (Refuses : List ℕ → Refusal → Type 0) (sources : List (List ℕ)) where
  pub refusals_leave : RefusalsLeave Accepts Refuses sources
  refusals_leave c d p a e (cycle_without_task h) = refl
  refusals_leave c d p a e (cycle_held t h i) = refl
  refusals_leave c d p a e (cycle_run {name} {now} {input} t fs h i g) = absurd (never_refused (cycle c.program fs t now input c.store).0 e)
  refusals_leave c d p a e (reset_without_task h) = refl
  refusals_leave c d p a e (reset_done t h) = absurd cc
  refusals_leave c d p a e (change_loaded text q s ticks h acc g) = absurd cc
  refusals_leave c d p a e (change_refused text r h ref) = refl
  refusals_leave c d p a e (change_stopped text q class kind line h acc g) = refl
  refusals_leave c d p a e change_without_memory = refl
