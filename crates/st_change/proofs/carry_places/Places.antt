-- The laws of places.
use Rattle.std.proofs.Common.{◌≡◌, Bool, true, Some, sym, ap, ap₂, ◌∙◌}
use Rattle.std.specs.Prelude.{if◌then◌else◌, ◌&&◌}
use Rattle.st_types.specs.Elem.{name as elem_name}
use Rattle.st_tree.specs.declared.path.Path.{Path}
use Rattle.st_values.specs.Program.{Program}
use Rattle.st_values.specs.Value.{Value, number, Store, member, value_at, at}
use Rattle.st_values.specs.Shape.{Shape, Elementary, Enumeration, shape_at, region_shape, path_shape}
use Rattle.st_meaning.specs.st_frame.Good.{Fit, Good}
use Rattle.st_meaning.proofs.st_frame.Values.{fit_at, there_at}
use Rattle.st_change.specs.From.{old_path}
use Rattle.st_change.specs.Carry.{carry}
use Rattle.st_change.specs.Change.{carry_store}
use Rattle.st_change.specs.Laws.{NamesDiffer}
use Rattle.st_change.proofs.Names.{then_is, then_some}
use Rattle.st_change.proofs.Settled.{same_self, names_self}
use Rattle.st_change.specs.carry_places.Places.{alike_along, is_number, old_at, goes}
use Rattle.st_change.specs.carry_places.PlaceLaws.{PlaceLaws}
use Rattle.st_change.proofs.carry_places.Carried.{place_carried, nothing_carried, whole_region_carried, store_carried}
use Rattle.st_change.proofs.carry_places.Origins.{origin}
use Rattle.st_change.proofs.carry_places.OldValues.{old_value}

-- what stands in a good store at a path of the program, and that it fits
there : (p : Program) (s : Store) (q : Path) (leaf : Shape) → Good p s → path_shape p q ≡ Some leaf → (v : Value) × (at s q ≡ Some v) × Fit p leaf v
there p s q leaf g e =
    let a = then_some (region_shape p q.region) (λ sh. shape_at sh q.steps) leaf e in
    let h = (g.each q.region).by a.0 a.1 in
    let b = there_at p q.steps a.0 h.0 leaf h.2 a.2 in
    (b.0, then_is (member s q.region) (λ v. value_at v q.steps) h.0 b.0 h.1 b.1, fit_at p q.steps a.0 h.0 leaf b.0 h.2 a.2 b.1)

module _ (old new : Program) (keeping : Bool) where
  -- a number, or an enumerator, of the same type goes on
  same_number : (leaf : Shape) (v h : Value) → is_number leaf ≡ true → Fit old leaf v → Fit new leaf h → carry old new keeping leaf (Some (leaf, v)) h ≡ v
  same_number (Elementary e) (number z) (number y) n f g = ap (λ b. number (if b then z else y)) (same_self (elem_name e))
  same_number (Enumeration name vs) (number z) (number y) n f g = ap₂ (λ a b. number (if a && b then z else y)) (same_self name) (names_self vs)
  same_number (Elementary e) (number z) h n f g = absurd g
  same_number (Enumeration name vs) (number z) h n f g = absurd g
  same_number (Elementary e) v h n f g = absurd f
  same_number (Enumeration name vs) v h n f g = absurd f
  same_number sh v h n f g = cc

  number_goes : (before held : Store) (q r : Path) (leaf : Shape) → NamesDiffer new → Good old before → Good new held → old_path old new q ≡ Some r → alike_along (region_shape new q.region) (region_shape old r.region) q.steps r.steps ≡ true → goes old new keeping q ≡ true
      → path_shape new q ≡ Some leaf → path_shape old r ≡ Some leaf → is_number leaf ≡ true → at (carry_store old new keeping before held) q ≡ at before r
  number_goes before held q r leaf n b g e k f s t i =
      let v = there old before r leaf b t in
      let h = there new held q leaf g s in
      let from : old_at old new before q ≡ Some (leaf, v.0) = old_value old new before q (leaf, v.0) n b (record { path = r; is_old = e; shape = t; value = v.1; alike = k }) in
      store_carried old new keeping before held q leaf h.0 g s h.1
      ∙ ap₂ (λ c o. Some (if c then carry old new keeping leaf o h.0 else h.0)) f from
      ∙ ap Some (same_number leaf v.0 h.0 i v.2 h.2)
      ∙ sym v.1

pub place_laws : PlaceLaws
place_laws = record {
  place = λ old new keeping sh leaf o held h ss g e f. place_carried old new keeping ss sh leaf o held h g e f;
  nothing = λ old new keeping sh held. nothing_carried old new keeping held sh;
  region = whole_region_carried;
  store = store_carried;
  origin = λ old new before q a n g. (origin old new before q a n g, old_value old new before q a n g);
  number = number_goes;
}
