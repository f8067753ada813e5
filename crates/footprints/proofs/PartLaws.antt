-- What is collected is the footprint, or what is written.
use Rattle.std.proofs.Common.{◌≡◌, ℕ, true, List, length, refl, sym, subst, ⊎_elim}
use Rattle.st_values.specs.Program.{Program}
use Rattle.st_values.specs.View.{program_of}
use Rattle.st_meaning.specs.st_frame.Use.{the_region, the_instances, Use, names, follows, calls, changes}
use Rattle.st_meaning.specs.st_frame.Footprint.{Has, Touches, Alters, Footprint, own_program, touched, Writes, latched, altered, IsFootprint}
use Rattle.st_meaning.specs.st_frame.Footprint as footprint
use Rattle.region_instances.specs.Instances.{RegionsUnfold}
use Rattle.footprints.specs.Footprints.{IsWritten}
use Rattle.footprints.specs.declared.tables.Tables.{Tables}
use Rattle.footprints.specs.declared.walk.Part.TheVariants as part
use Rattle.footprints.specs.Private.Holders.{AreAllHolders}
use Rattle.footprints.specs.Private.Inputs.{are_inputs, marked, IsInput}
use Rattle.footprints.specs.Private.Puts.{Puts, Via}
use Rattle.footprints.specs.Private.Tables.{AreTables}
use Rattle.footprints.specs.Private.Walk.{InUse, AreCollected}
use Rattle.footprints.proofs.PutLaws.{put_there}
use Rattle.footprints.proofs.HolderLaws.{held_contains, contains_held}
use Rattle.footprints.proofs.InputLaws.{input_held, held_input}

module _ (p : Program) (lists : List (List ℕ)) (l : length lists ≡ length p.classes) (all : AreAllHolders p (length p.regions) lists) where
  touches : (u : Use) (r : ℕ) → InUse p lists part.Touched u r → Touches p u r
  touches (names g) r h = h
  touches (follows t) r h = held_contains p lists l all t r h
  touches (calls c) r h = absurd h
  touches (changes o) r h = absurd h

  touched_by : (u : Use) (r : ℕ) → Touches p u r → InUse p lists part.Touched u r
  touched_by (names g) r h = h
  touched_by (follows t) r h = contains_held p lists l all t r h
  touched_by (calls c) r h = absurd h
  touched_by (changes o) r h = absurd h

  alters : (u : Use) (r : ℕ) → InUse p lists part.Altered u r → Alters p u r
  alters (names g) r h = absurd h
  alters (follows t) r h = absurd h
  alters (calls c) r h = absurd h
  alters (changes (the_region g)) r h = h
  alters (changes (the_instances t)) r h = held_contains p lists l all t r h

  altered_by : (u : Use) (r : ℕ) → Alters p u r → InUse p lists part.Altered u r
  altered_by (names g) r h = absurd h
  altered_by (follows t) r h = absurd h
  altered_by (calls c) r h = absurd h
  altered_by (changes (the_region g)) r h = h
  altered_by (changes (the_instances t)) r h = contains_held p lists l all t r h

  module _ (task : ℕ) where
    footprint_of : (regions : List ℕ) → AreCollected p lists part.Touched task regions → IsFootprint p task regions
    footprint_of regions is = record {
      sound = λ r h. ⊎_elim (λ o. own_program o) (λ v. touched v.0 v.2.0 v.1 v.2.1 (touches v.2.0 r v.2.2)) (is.sound r h);
      complete = complete;
    }
      where
        complete : (r : ℕ) → Footprint p task r → Has regions r
        complete r (own_program h) = is.programs r h
        complete r (touched b u reached h t) = is.texts r b reached (u, h, touched_by u r t)

    module _ (read a b : List ℕ) (reads : IsFootprint p task read) (is : AreCollected p lists part.Altered task a) (puts : Puts (Via read (IsInput (are_inputs p))) a b) where
      written : (r : ℕ) → Has b r → Writes p task r
      written r h = ⊎_elim (λ o. first r o) (λ v. second r v.0 v.1 v.2.0 v.2.1) (puts.only r h)
        where
          first : (r : ℕ) → Has a r → Writes p task r
          first r o = ⊎_elim (λ k. footprint.Writes.own_program k) (λ v. altered v.0 v.2.0 v.1 v.2.1 (alters v.2.0 r v.2.2)) (is.sound r o)

          second : (r x : ℕ) → Has read x → r ≡ x → marked (are_inputs p) x ≡ true → Writes p task r
          second r x k e m =
              let i = input_held p r (subst (λ z. marked (are_inputs p) z ≡ true) (sym e) m) in
              latched i.0 i.1 i.2 i.3 (reads.sound r (subst (Has read) (sym e) k))

      all_written : (r : ℕ) → Writes p task r → Has b r
      all_written r (footprint.Writes.own_program h) = puts.kept r (is.programs r h)
      all_written r (latched x h i e f) = put_there (Via read (IsInput (are_inputs p))) a b puts r (r, reads.complete r f, (refl, held_input p r (x, h, i, e)))
      all_written r (altered c u reached h t) = puts.kept r (is.texts r c reached (u, h, altered_by u r t))

      writes_of : IsWritten p task b
      writes_of = record { sound = written; complete = all_written }

module _ (t : Tables) (is : AreTables t) where
  abbrev q : Program
  q = program_of t.program.now

  pub is_footprint : (task : ℕ) (marks list : List ℕ) → AreCollected q t.holders.items part.Touched task marks → list ≡ marks → RegionsUnfold q → IsFootprint q task list
  is_footprint task marks list h e u = subst (IsFootprint q task) (sym e) (footprint_of q t.holders.items is.all_classes (is.holders u) task marks h)

  pub is_written : (task : ℕ) (read a b list : List ℕ) → (RegionsUnfold q → IsFootprint q task read) → AreCollected q t.holders.items part.Altered task a → Puts (Via read (IsInput t.inputs.items)) a b → list ≡ b → RegionsUnfold q → IsWritten q task list
  is_written task read a b list reads h puts e u =
      subst (IsWritten q task) (sym e)
      (writes_of q t.holders.items is.all_classes (is.holders u) task read a b (reads u) h (subst (λ m. Puts (Via read (IsInput m)) a b) is.inputs puts))
