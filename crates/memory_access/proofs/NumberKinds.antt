-- Types whose values are numbers, and as which numbers these are kept; what is of no instance's type.
use Rattle.std.proofs.Common.{◌≡◌, ℕ, ℤ, false, refl, sym, subst, inl, inr}
use Rattle.std.specs.Prelude.{◌⊎◌}
use Rattle.st_types.specs.declared.elem.Elem.{Elem}
use Rattle.st_types.specs.declared.elem.Elem.TheVariants as elem
use Rattle.st_types.specs.Range.{Fits}
use Rattle.st_types.specs.declared.st_type.StType.{StType}
use Rattle.st_types.specs.declared.st_type.StType.TheOpen.{StType-F}
use Rattle.st_types.specs.declared.st_type.StType.TheVariants as type
use Rattle.st_values.specs.Program.{Program}
use Rattle.st_values.specs.Value.{Value, number}
use Rattle.st_values.specs.Shape.{Shape, Elementary, Enumeration, Instance, has_instance}
use Rattle.st_values.specs.ShapeLaws.{Unfolds}
use Rattle.st_meaning.specs.st_frame.Good.{Fit}
use Rattle.st_meaning.specs.st_frame.Promise.Types.{IsNoInstance, IsHeld}
use Rattle.st_meaning.proofs.st_frame.OfTypes.{OfKind}
use Rattle.st_meaning.proofs.st_frame.Unfolded.{opened}
use Rattle.mem_layout.specs.store_bytes.StoreLaws.{IsNumber}
use Rattle.code_rules.specs.Places.{is_large}
use Rattle.shown_memory.specs.Shown.{Small}
use Rattle.memory_access.proofs.Worded.{numeric_value, enumerator_fits}

-- the kind of the number that a value of a numeric type is
abbrev pub KindIs : StType → Elem → Type 0
KindIs (type.Elementary e) k = e ≡ k
KindIs (type.Enumeration n) k = k ≡ elem.Udint
KindIs _ k = ⊥

pub kind_plain : (t : StType) (e : Elem) → KindIs t e → IsNoInstance t
kind_plain (type.Elementary k) e h = tt
kind_plain (type.Enumeration n) e h = tt
kind_plain t e h = absurd h

-- what a word holds is a number or leads to an instance
pub word_sort : (t : StType) → is_large t ≡ false → IsNoInstance t → ((e : Elem) × KindIs t e) ⊎ IsHeld t
word_sort (type.Elementary e) h i = inl (e, refl)
word_sort (type.Enumeration n) h i = inl (elem.Udint, refl)
word_sort (type.Reference c) h i = inr tt
word_sort (type.Interface c) h i = inr tt
word_sort (type.Instance c) h i = absurd i
word_sort t h i = cc

-- what holds no instance is of no instance's type
pub no_instance : (p : Program) (t : StType) (sh : Shape) → Unfolds p t sh → has_instance sh ≡ false → IsNoInstance t
no_instance p (type.Instance c) sh u e =
    let a = opened p (type.Instance c) (StType-F.Instance c) sh (type.outs-Instance c) u in
    let b : has_instance (Instance c a.0.name a.1) ≡ false = subst (λ y. has_instance y ≡ false) a.3 e in
    cc
no_instance p t sh u e = tt

module _ (p : Program) where
  pub kind_shape : (t : StType) (e : Elem) (sh : Shape) → KindIs t e → Unfolds p t sh → IsNumber sh e
  kind_shape (type.Elementary k) e sh h u =
      let o : sh ≡ Elementary k = opened p (type.Elementary k) (StType-F.Elementary k) sh (type.outs-Elementary k) u in
      subst (λ y. IsNumber y e) (sym o) h
  kind_shape (type.Enumeration n) e sh h u =
      let o = opened p (type.Enumeration n) (StType-F.Enumeration n) sh (type.outs-Enumeration n) u in
      subst (λ y. IsNumber y e) (sym o.2) h
  kind_shape t e sh h u = absurd h

  pub kind_value : (F : ℕ → Type 0) → Small p → (t : StType) (e : Elem) (w : Value) → KindIs t e → OfKind p F t w → (z : ℤ) × (w ≡ number z) × Fits e z
  kind_value F small (type.Elementary k) e w h typed =
      let z = numeric_value p F (type.Elementary k) w tt typed in
      let o : typed.0 ≡ Elementary k = opened p (type.Elementary k) (StType-F.Elementary k) typed.0 (type.outs-Elementary k) typed.1 in
      let f : Fit p (Elementary k) w = subst (λ y. Fit p y w) o typed.2 in
      let g : Fits k z.0 = subst (λ v. Fit p (Elementary k) v) z.1 f in
      (z.0, z.1, subst (λ y. Fits y z.0) h g)
  kind_value F small (type.Enumeration n) e w h typed =
      let z = numeric_value p F (type.Enumeration n) w tt typed in
      (z.0, z.1, subst (λ y. Fits y z.0) (sym h) (enumerator_fits p F small n z.0 (subst (OfKind p F (type.Enumeration n)) z.1 typed)))
  kind_value F small t e w h typed = absurd h
