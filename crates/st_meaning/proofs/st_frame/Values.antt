-- Values that fit their shapes, read and replaced by paths, and stores that are good.
use Rattle.std.proofs.Common.{◌≡◌, ◌≢◌, ◌<◌, ℕ, zero, suc, Bool, true, false, List, [], ◌∷◌, ◌++◌, Option, Some, None, refl, sym, ap, ◌∙◌, subst, arith}
use Rattle.std.specs.Prelude.{if◌then◌else◌, slice_get, nat_lt, nat_eq}
use Rattle.std.proofs.lemmas.Bool.{eqb-true, eq-eqb}
use borrow.Author.Tests.{ltb-true}
use Rattle.st_tree.specs.declared.path.Step.{Step}
use Rattle.st_tree.specs.declared.path.Step.TheVariants as step
use Rattle.st_tree.specs.declared.program.Note.{Note}
use Rattle.st_tree.specs.Initial.{Initial, FieldInits}
use Rattle.st_values.specs.Program.{Variable, Region, Program}
use Rattle.st_rules.specs.Chains.{◌or_else◌}
use Rattle.st_values.specs.Shape.{Shape, Elementary, Enumeration, Reference, Interface, Array, Structure, Instance, Fields, no_fields, field_then, field, element_shape, shape_part, shape_at, shape_of, region_shape, path_shape}
use Rattle.st_values.specs.Value.{Path, Value, number, reference, array, structure, instance, Values, no_values, value_then, Members, no_members, member_then, Store, names_of, ◌>>=◌, element, with_element, with_element_at, member, with_member, place_of_index, part, with_part, value_at, value_with, put}
use Rattle.st_values.specs.Initial.{list_given, fields_given, given_for, elements, init, inits, init_of, initial_value, initial_regions, initial_store}
use Rattle.st_values.proofs.ValueLaws.{then_some, one_some, made, Put, put_in, names_stay, member_put, member_stays}
use Rattle.st_meaning.specs.st_frame.Good.{Fit, FitAll, FitEach, GoodAt, region_names, Good, GoodOn}
use Rattle.st_meaning.specs.st_frame.Promise.Declarations.{Each, StartsRight, StartRight, VariableFits}
use Rattle.st_meaning.specs.st_frame.Promise.Programs.{ProgramIs}
use Rattle.st_meaning.specs.st_frame.GoodLaws.{GoodLaws}

pub if_some : {A : Type 0} (b : Bool) (t u : A) → (if b then Some t else None) ≡ Some u → (b ≡ true) × (t ≡ u)
if_some true t u e = (refl, cc)
if_some false t u e = cc

differ : (a b : ℕ) → nat_eq a b ≡ false → a ≢ b
differ a b w i = let q = eq-eqb a b i in cc

module _ (p : Program) where
  -- ---- fields and elements

  pub field_fits : (fs : Fields) (ms : Members) (k : ℕ) (sh : Shape) (w : Value) → FitEach p fs ms → field fs k ≡ Some sh → member ms k ≡ Some w → Fit p sh w
  field_fits no_fields no_members k sh w h e f = cc
  field_fits no_fields (member_then n v ms) k sh w h e f = absurd h
  field_fits (field_then v x fs) no_members k sh w h e f = absurd h
  field_fits (field_then v x fs) (member_then n y ms) zero sh w h e f = let a : x ≡ sh = cc in let b : y ≡ w = cc in subst (λ z. Fit p z w) a (subst (λ z. Fit p x z) b h.1)
  field_fits (field_then v x fs) (member_then n y ms) (suc k) sh w h e f = field_fits fs ms k sh w h.2 e f

  field_there : (fs : Fields) (ms : Members) (k : ℕ) (sh : Shape) → FitEach p fs ms → field fs k ≡ Some sh → (w : Value) × (member ms k ≡ Some w)
  field_there no_fields no_members k sh h e = cc
  field_there no_fields (member_then n v ms) k sh h e = absurd h
  field_there (field_then v x fs) no_members k sh h e = absurd h
  field_there (field_then v x fs) (member_then n y ms) zero sh h e = (y, refl)
  field_there (field_then v x fs) (member_then n y ms) (suc k) sh h e = field_there fs ms k sh h.2 e

  field_replaced : (fs : Fields) (ms : Members) (k : ℕ) (sh : Shape) (new : Value) → FitEach p fs ms → field fs k ≡ Some sh → Fit p sh new → FitEach p fs (with_member ms k new)
  field_replaced no_fields no_members k sh new h e f = cc
  field_replaced no_fields (member_then n v ms) k sh new h e f = absurd h
  field_replaced (field_then v x fs) no_members k sh new h e f = absurd h
  field_replaced (field_then v x fs) (member_then n y ms) zero sh new h e f = let a : sh ≡ x = cc in (h.0, subst (λ z. Fit p z new) a f, h.2)
  field_replaced (field_then v x fs) (member_then n y ms) (suc k) sh new h e f = (h.0, h.1, field_replaced fs ms k sh new h.2 e f)

  pub element_fits : (n : ℕ) (sh : Shape) (vs : Values) (k : ℕ) (w : Value) → FitAll p n sh vs → element vs k ≡ Some w → Fit p sh w
  element_fits zero sh no_values k w h e = cc
  element_fits zero sh (value_then v vs) k w h e = absurd h
  element_fits (suc n) sh no_values k w h e = absurd h
  element_fits (suc n) sh (value_then v vs) zero w h e = let a : v ≡ w = cc in subst (Fit p sh) a h.0
  element_fits (suc n) sh (value_then v vs) (suc k) w h e = element_fits n sh vs k w h.1 e

  element_there : (n : ℕ) (sh : Shape) (vs : Values) (k : ℕ) → FitAll p n sh vs → k < n → (w : Value) × (element vs k ≡ Some w)
  element_there zero sh vs k h e = absurd (omega arith)
  element_there (suc n) sh no_values k h e = absurd h
  element_there (suc n) sh (value_then v vs) zero h e = (v, refl)
  element_there (suc n) sh (value_then v vs) (suc k) h e = element_there n sh vs k h.1 (omega arith)

  element_replaced : (n : ℕ) (sh : Shape) (vs : Values) (k : ℕ) (new : Value) → FitAll p n sh vs → Fit p sh new → FitAll p n sh (with_element vs k new)
  element_replaced zero sh no_values k new h f = tt
  element_replaced zero sh (value_then v vs) k new h f = absurd h
  element_replaced (suc n) sh no_values k new h f = absurd h
  element_replaced (suc n) sh (value_then v vs) zero new h f = (f, h.1)
  element_replaced (suc n) sh (value_then v vs) (suc k) new h f = (h.0, element_replaced n sh vs k new h.1 f)

  pub element_of : (n : ℕ) (x sh : Shape) (o : Option ℕ) → element_shape n x o ≡ Some sh → (k : ℕ) × (o ≡ Some k) × (k < n) × (x ≡ sh)
  element_of n x sh None e = cc
  element_of n x sh (Some k) e = let a = if_some (nat_lt k n) x sh e in (k, refl, ltb-true k n a.0, a.1)

  -- ---- steps

  step_read : (sh : Shape) (v : Value) (s : Step) (part_shape : Shape) (w : Value) → Fit p sh v → shape_part sh s ≡ Some part_shape → part v s ≡ Some w → Fit p part_shape w
  step_read (Elementary e) (number z) s x w h f g = cc
  step_read (Enumeration name vs) (number z) s x w h f g = cc
  step_read (Reference c name) (reference o) s x w h f g = cc
  step_read (Interface i name) (reference o) s x w h f g = cc
  step_read (Array low n sh) (array l vs) (step.Field k) x w h f g = cc
  step_read (Array low n sh) (array l vs) (step.Element i) x w h f g =
      let a = element_of n sh x (place_of_index low i) f in
      let b = then_some (place_of_index l i) (λ k. element vs k) w g in
      subst (λ y. Fit p y w) a.3 (element_fits n sh vs b.0 w h.1 b.2)
  step_read (Structure name fs) (structure m ms) (step.Field k) x w h f g = field_fits fs ms k x w h.1 f g
  step_read (Structure name fs) (structure m ms) (step.Element i) x w h f g = cc
  step_read (Instance c name fs) (instance m ms) (step.Field k) x w h f g = field_fits fs ms k x w h.1 f g
  step_read (Instance c name fs) (instance m ms) (step.Element i) x w h f g = cc
  step_read sh v s x w h f g = absurd h

  step_there : (sh : Shape) (v : Value) (s : Step) (x : Shape) → Fit p sh v → shape_part sh s ≡ Some x → (w : Value) × (part v s ≡ Some w)
  step_there (Elementary e) (number z) s x h f = cc
  step_there (Enumeration name vs) (number z) s x h f = cc
  step_there (Reference c name) (reference o) s x h f = cc
  step_there (Interface i name) (reference o) s x h f = cc
  step_there (Array low n sh) (array l vs) (step.Field k) x h f = cc
  step_there (Array low n sh) (array l vs) (step.Element i) x h f =
      let a = element_of n sh x (place_of_index low i) f in
      let b = element_there n sh vs a.0 h.1 a.2 in
      (b.0, ap (λ m. place_of_index m i >>= λ k. element vs k) (sym h.0) ∙ ap (λ o. o >>= λ k. element vs k) a.1 ∙ b.1)
  step_there (Structure name fs) (structure m ms) (step.Field k) x h f = field_there fs ms k x h.1 f
  step_there (Structure name fs) (structure m ms) (step.Element i) x h f = cc
  step_there (Instance c name fs) (instance m ms) (step.Field k) x h f = field_there fs ms k x h.1 f
  step_there (Instance c name fs) (instance m ms) (step.Element i) x h f = cc
  step_there sh v s x h f = absurd h

  at_replaced : (n : ℕ) (sh : Shape) (vs : Values) (o : Option ℕ) (new : Value) → FitAll p n sh vs → Fit p sh new → FitAll p n sh (with_element_at vs o new)
  at_replaced n sh vs None new h f = h
  at_replaced n sh vs (Some k) new h f = element_replaced n sh vs k new h f

  step_written : (sh : Shape) (v : Value) (s : Step) (x : Shape) (new : Value) → Fit p sh v → shape_part sh s ≡ Some x → Fit p x new → Fit p sh (with_part v s new)
  step_written (Elementary e) (number z) s x new h f g = cc
  step_written (Enumeration name vs) (number z) s x new h f g = cc
  step_written (Reference c name) (reference o) s x new h f g = cc
  step_written (Interface i name) (reference o) s x new h f g = cc
  step_written (Array low n sh) (array l vs) (step.Field k) x new h f g = cc
  step_written (Array low n sh) (array l vs) (step.Element i) x new h f g =
      let a = element_of n sh x (place_of_index low i) f in
      (h.0, at_replaced n sh vs (place_of_index l i) new h.1 (subst (λ y. Fit p y new) (sym a.3) g))
  step_written (Structure name fs) (structure m ms) (step.Field k) x new h f g = (h.0, field_replaced fs ms k x new h.1 f g)
  step_written (Structure name fs) (structure m ms) (step.Element i) x new h f g = cc
  step_written (Instance c name fs) (instance m ms) (step.Field k) x new h f g = (h.0, field_replaced fs ms k x new h.1 f g)
  step_written (Instance c name fs) (instance m ms) (step.Element i) x new h f g = cc
  step_written sh v s x new h f g = absurd h

  -- ---- ways

  pub fit_at : (ss : List Step) (sh : Shape) (v : Value) (x : Shape) (w : Value) → Fit p sh v → shape_at sh ss ≡ Some x → value_at v ss ≡ Some w → Fit p x w
  fit_at [] sh v x w h e f = let a : sh ≡ x = cc in let b : v ≡ w = cc in subst (λ z. Fit p z w) a (subst (Fit p sh) b h)
  fit_at (s ∷ ss) sh v x w h e f =
      let a = then_some (shape_part sh s) _ x e in
      let b = then_some (part v s) _ w f in
      fit_at ss a.0 b.0 x w (step_read sh v s a.0 b.0 h a.1 b.1) a.2 b.2

  pub there_at : (ss : List Step) (sh : Shape) (v : Value) (x : Shape) → Fit p sh v → shape_at sh ss ≡ Some x → (w : Value) × (value_at v ss ≡ Some w)
  there_at [] sh v x h e = (v, refl)
  there_at (s ∷ ss) sh v x h e =
      let a = then_some (shape_part sh s) _ x e in
      let b = step_there sh v s a.0 h a.1 in
      let c = there_at ss a.0 b.0 x (step_read sh v s a.0 b.0 h a.1 b.1) a.2 in
      (c.0, ap (λ o. o >>= λ w. value_at w ss) b.1 ∙ c.1)

  pub fit_with : (ss : List Step) (sh : Shape) (v : Value) (x : Shape) (new v' : Value) → Fit p sh v → shape_at sh ss ≡ Some x → Fit p x new → value_with v ss new ≡ Some v' → Fit p sh v'
  fit_with [] sh v x new v' h e k f = let a : x ≡ sh = cc in let b : new ≡ v' = cc in subst (λ z. Fit p z v') a (subst (Fit p x) b k)
  fit_with (s ∷ ss) sh v x new v' h e k f =
      let a = then_some (shape_part sh s) _ x e in
      let m = made v new v' s ss f in
      subst (Fit p sh) m.is (step_written sh v s a.0 m.becomes h a.1 (fit_with ss a.0 m.was x new m.becomes (step_read sh v s a.0 m.was h a.1 m.there) a.2 k m.below))

  pub shape_further : (ss : List Step) (sh x : Shape) (s : Step) (y : Shape) → shape_at sh ss ≡ Some x → shape_part x s ≡ Some y → shape_at sh (ss ++ s ∷ []) ≡ Some y
  shape_further [] sh x s y e f = let a : sh ≡ x = cc in ap (λ o. o >>= λ z. Some z) (ap (λ z. shape_part z s) a ∙ f)
  shape_further (r ∷ ss) sh x s y e f =
      let a = then_some (shape_part sh r) _ x e in
      ap (λ o. o >>= λ z. shape_at z (ss ++ s ∷ [])) a.1 ∙ shape_further ss a.0 x s y a.2 f

  pub path_further : (q : Path) (x : Shape) (s : Step) (y : Shape) → path_shape p q ≡ Some x → shape_part x s ≡ Some y → path_shape p (record q { steps = q.steps ++ s ∷ [] }) ≡ Some y
  path_further q x s y e f =
      let a = then_some (region_shape p q.region) _ x e in
      ap (λ o. o >>= λ z. shape_at z (q.steps ++ s ∷ [])) a.1 ∙ shape_further q.steps a.0 x s y a.2 f

  -- ---- stores

  -- what fits is put into a store that is good on some regions
  pub put_on : (F : ℕ → Type 0) (s t : Store) (q : Path) (sh : Shape) (new : Value) → GoodOn p F s → path_shape p q ≡ Some sh → Fit p sh new → put s q new ≡ Some t → GoodOn p F t
  put_on F s t q sh new g e k f r h =
      let m = put_in s t q new f in
      let a = then_some (region_shape p q.region) _ sh e in
      subst (λ u. GoodAt p (region_shape p r) (member u r)) m.is (by r (nat_eq q.region r) refl a m h)
    where
      by : (r : ℕ) (b : Bool) → nat_eq q.region r ≡ b → (x : Shape) × (region_shape p q.region ≡ Some x) × (shape_at x q.steps ≡ Some sh) → (m : Put s t q new) → F r → GoodAt p (region_shape p r) (member (with_member s q.region m.becomes) r)
      by r true w a m h =
          let d = eqb-true q.region r w in
          subst (λ i. GoodAt p (region_shape p i) (member (with_member s q.region m.becomes) i)) d
          (record {
            by = λ x i.
                let y : a.0 ≡ x = one_some (region_shape p q.region) a.0 x a.1 i in
                let old = (g q.region (subst F (sym d) h)).by a.0 a.1 in
                let z : old.0 ≡ m.was = one_some (member s q.region) old.0 m.was old.1 m.there in (
                  m.becomes,
                  member_put s q.region m.was m.becomes m.there,
                  subst (λ u. Fit p u m.becomes) y (fit_with q.steps a.0 m.was sh new m.becomes (subst (Fit p a.0) z old.2) a.2 k m.below),
                );
          })
      by r false w a m h =
          subst (GoodAt p (region_shape p r)) (sym (member_stays s q.region r m.becomes (differ q.region r w))) (g r h)

  pub good_put : (s t : Store) (q : Path) (sh : Shape) (new : Value) → Good p s → path_shape p q ≡ Some sh → Fit p sh new → put s q new ≡ Some t → Good p t
  good_put s t q sh new g e k f =
      let m = put_in s t q new f in
      record {
        regions = subst (λ u. names_of u ≡ region_names p.regions) m.is (names_stay s q.region m.becomes ∙ g.regions);
        each = λ r. put_on (λ i. Unit {0}) s t q sh new (λ i h. g.each i) e k f r tt;
      }

  -- ---- initial values

  all_start : (f : Option (Initial Note) → Value) (sh : Shape) → Fit p sh (f None) → (n : ℕ) (is : List (Initial Note)) → Each (λ i. Fit p sh (f (Some i))) is → FitAll p n sh (elements f n is)
  all_start f sh h zero is k = tt
  all_start f sh h (suc n) [] k = (h, all_start f sh h n [] tt)
  all_start f sh h (suc n) (i ∷ is) k = (k.0, all_start f sh h n is k.1)

  mapped_each : {A : Type 0} (P Q : A → Type 0) → ((x : A) → P x → Q x) → (xs : List A) → Each P xs → Each Q xs
  mapped_each P Q f [] h = tt
  mapped_each P Q f (x ∷ xs) h = (f x h.0, mapped_each P Q f xs h.1)

  mutual
    pub init_fits : (sh : Shape) (i : Option (Initial Note)) → StartsRight sh i → Fit p sh (init sh i)
    init_fits (Elementary e) i h = h
    init_fits (Enumeration name values) i h = h
    init_fits (Reference c name) i h = tt
    init_fits (Interface k name) i h = tt
    init_fits (Array low n sh) i h =
        (refl, all_start (init sh) sh (init_fits sh None h.0) n (list_given i) (mapped_each _ _ (λ j k. init_fits sh (Some j) k) (list_given i) h.1))
    init_fits (Structure name fs) i h = (refl, inits_fit fs (fields_given i) h)
    init_fits (Instance c name fs) i h = (refl, inits_fit fs (fields_given i) h)

    inits_fit : (fs : Fields) (gs : FieldInits Note) → StartRight fs gs → FitEach p fs (inits fs gs)
    inits_fit no_fields gs h = tt
    inits_fit (field_then v sh fs) gs h = (refl, init_fits sh (given_for v.name gs or_else v.initial) h.0, inits_fit fs gs h.1)

  pub value_fits : (v : Variable) (sh : Shape) → shape_of p v.kind ≡ Some sh → StartsRight sh v.initial → Fit p sh (initial_value p v)
  value_fits v sh e h = subst (λ o. Fit p sh (init_of o v.initial)) (sym e) (init_fits sh v.initial h)

  names_are : (xs : List Region) → names_of (initial_regions p xs) ≡ region_names xs
  names_are [] = refl
  names_are (x ∷ xs) = ap (λ ns. x.variable.name ∷ ns) (names_are xs)

  each_starts : (xs : List Region) (r : ℕ) → Each (λ x. VariableFits p x.variable) xs → GoodAt p (slice_get xs r >>= λ x. shape_of p x.variable.kind) (member (initial_regions p xs) r)
  each_starts [] r h = record { by = λ sh e. cc }
  each_starts (x ∷ xs) zero h =
      record {
        by = λ sh e.
            let a : h.0.0 ≡ sh = one_some (shape_of p x.variable.kind) h.0.0 sh h.0.1 e in
            (initial_value p x.variable, refl, subst (λ y. Fit p y (initial_value p x.variable)) a (value_fits x.variable h.0.0 h.0.1 h.0.2));
      }
  each_starts (x ∷ xs) (suc r) h = each_starts xs r h.1

  pub initial_good : ProgramIs p → Good p (initial_store p)
  initial_good ok = record { regions = names_are p.regions; each = λ r. each_starts p.regions r ok.regions }

pub good_laws : GoodLaws
good_laws = record {
  read = λ p sh x v w ss h e f. fit_at p ss sh v x w h e f;
  written = λ p sh x v new v' ss h e k f. fit_with p ss sh v x new v' h e k f;
  there = λ p sh x v ss h e. there_at p ss sh v x h e;
  initial = initial_good;
  put = good_put;
}
