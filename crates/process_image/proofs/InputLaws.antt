-- What is put at a path, and what is put nowhere.
use Rattle.std.proofs.Common.{◌≡◌, ℤ, false, List, [], ◌∷◌, Option, Some, None, refl, ap, sym, ◌∙◌}
use Rattle.std.specs.Prelude.{is_some}
use Rattle.st_values.specs.Value.{number, Path, Step, Value, Store, member, with_member, part, with_part, value_at, value_with, at, put, ◌>>=◌ as ◌>>?◌}
use Rattle.run_state.specs.Places.{spot_value}
use Rattle.st_meaning.specs.State.{Spot, State, Done, in_store, go_on, there, write}
use Rattle.st_meaning.specs.ProcessImage.{or_same}
use Rattle.process_image.specs.Private.Inputs.{with_store}

put_part : (q : Path) (s t : State) (v : Value) (o : Option Value) → go_on (there o 0 s) (λ w u. Done (tt {0}) (record u { store = with_member u.store q.region w })) ≡ Done (tt {0}) t
    → t ≡ with_store s (or_same s.store (o >>? λ w. Some (with_member s.store q.region w)))
put_part q s t v None e = absurd cc
put_part q s t v (Some w) e = cc

put_member : (q : Path) (new : Value) (s t : State) (o : Option Value)
    → go_on (there o 0 s) (λ v u. go_on (there (value_with v q.steps new) 0 u) (λ w x. Done (tt {0}) (record x { store = with_member x.store q.region w }))) ≡ Done (tt {0}) t
    → t ≡ with_store s (or_same s.store (o >>? λ v. value_with v q.steps new >>? λ w. Some (with_member s.store q.region w)))
put_member q new s t None e = absurd cc
put_member q new s t (Some v) e = put_part q s t v (value_with v q.steps new) e

-- what was written is put
pub put_there : (s t : State) (q : Path) (new : Value) → write (in_store q) new 0 s ≡ Done (tt {0}) t → t ≡ with_store s (or_same s.store (put s.store q new))
put_there s t q new e = put_member q new s t (member s.store q.region) e

-- where nothing stands, nothing is put
no_step : (v : Value) (s : Step) (ss : List Step) (new : Value) → ((w : Value) → value_at w ss ≡ None → value_with w ss new ≡ None) → (o : Option Value)
    → (o >>? λ w. value_at w ss) ≡ None → (o >>? λ w. value_with w ss new >>? λ x. Some (with_part v s x)) ≡ None
no_step v s ss new rest None h = refl
no_step v s ss new rest (Some w) h = ap (λ p. p >>? λ x. Some (with_part v s x)) (rest w h)

no_part : (ss : List Step) (v : Value) (new : Value) → value_at v ss ≡ None → value_with v ss new ≡ None
no_part [] v new e = absurd cc
no_part (s ∷ ss) v new e = no_step v s ss new (λ w h. no_part ss w new h) (part v s) e

no_member : (q : Path) (st : Store) (new : Value) (o : Option Value) → (o >>? λ v. value_at v q.steps) ≡ None → (o >>? λ v. value_with v q.steps new >>? λ w. Some (with_member st q.region w)) ≡ None
no_member q st new None e = refl
no_member q st new (Some v) e = ap (λ p. p >>? λ w. Some (with_member st q.region w)) (no_part q.steps v new e)

pub nowhere : (s : State) (q : Path) (new : Value) → at s.store q ≡ None → s ≡ with_store s (or_same s.store (put s.store q new))
nowhere s q new e = ap (λ o. with_store s (or_same s.store o)) (sym (no_member q s.store new (member s.store q.region) e))

none_of : (o : Option Value) → is_some o ≡ false → o ≡ None
none_of None e = refl
none_of (Some v) e = absurd cc

pub nowhere_so : (s : State) (sp : Spot) (q : Path) (new : Value) → sp ≡ in_store q → is_some (spot_value s sp) ≡ false → s ≡ with_store s (or_same s.store (put s.store q new))
nowhere_so s sp q new e h = nowhere s q new (none_of (at s.store q) (ap (λ x. is_some (spot_value s x)) (sym e) ∙ h))

pub put_so : (s t : State) (sp : Spot) (q : Path) (z w : ℤ) → sp ≡ in_store q → z ≡ w → write sp (number z) 0 s ≡ Done (tt {0}) t → t ≡ with_store s (or_same s.store (put s.store q (number w)))
put_so s t sp q z w e h d = put_there s t q (number w) (sym (ap (λ x. write x (number w) 0 s) e) ∙ sym (ap (λ y. write sp (number y) 0 s) h) ∙ d)
