-- A structure or an instance has a shape where the types of its parts have one.
use Rattle.std.proofs.Common.{◌≡◌, ℕ, zero, suc, List, [], ◌∷◌, Option, Some, None, refl, ap, ◌∙◌}
use Rattle.std.specs.Prelude.{slice_get}
use Rattle.st_types.specs.declared.st_type.StType.{StType}
use Rattle.st_types.specs.declared.st_type.StType.TheVariants as type
use Rattle.st_types.specs.declared.st_type.StType.TheOpen.{StType-F}
use Rattle.st_types.specs.declared.elem.Elem.TheVariants as kind
use Rattle.st_rules.specs.Expressions.{told}
use Rattle.st_values.specs.Program.{Variable, Class, TypeEntry, Program, class_at, class_variables}
use Rattle.st_values.specs.Value.{◌>>=◌}
use Rattle.st_values.specs.Shape.{Shape, Elementary, Structure, Instance, Fields, no_fields, field_then, fields_of, fields_by, simple_shape, shape_by, shape_within}
use Rattle.resolution_order.specs.told_laws.ToldLaws.{Every}

pub record Shaped (f : StType → Option Shape) (t : StType) : Type 0 where
  pub shape : Shape
  pub is : f t ≡ Some shape

abbrev pub ShapedVariable : (StType → Option Shape) → Variable → Type 0
ShapedVariable f v = Shaped f v.kind

-- what is not told is shown as DINT, which has a shape
pub plain_shaped : (p : Program) (n : ℕ) → Shaped (shape_within p n) (type.Elementary kind.Dint)
plain_shaped p zero = record { shape = Elementary kind.Dint; is = ap (simple_shape p) (type.outs-Elementary kind.Dint) }
plain_shaped p (suc n) = record { shape = Elementary kind.Dint; is = ap (shape_by p (shape_within p n)) (type.outs-Elementary kind.Dint) }

pub told_shaped : (p : Program) (n : ℕ) (o : Option StType) → ((t : StType) → o ≡ Some t → Shaped (shape_within p n) t) → Shaped (shape_within p n) (told o)
unfolding told
told_shaped p n None h = plain_shaped p n
told_shaped p n (Some t) h = h t refl

pub fields_shaped : (f : StType → Option Shape) (vs : List Variable) → Every (ShapedVariable f) vs → (fs : Fields) × (fields_by f vs ≡ Some fs)
fields_shaped f [] h = (no_fields, refl)
fields_shaped f (v ∷ vs) h =
    let r = fields_shaped f vs h.1 in (
      field_then v h.0.shape r.0,
      ap (λ o. o >>= λ sh. fields_by f vs >>= λ rest. Some (field_then v sh rest)) h.0.is ∙ ap (λ o. o >>= λ rest. Some (field_then v h.0.shape rest)) r.1,
    )

module _ (p : Program) (f : StType → Option Shape) where
  pub structure_shaped : (n : ℕ) (x : TypeEntry) (vs : List Variable) → slice_get p.types n ≡ Some x → fields_of x.body ≡ Some vs → Every (ShapedVariable f) vs → (sh : Shape) × (shape_by p f (StType-F.Structure n) ≡ Some sh)
  structure_shaped n x vs e k h =
      let r = fields_shaped f vs h in (
        Structure x.name r.0,
        ap (λ o. o >>= λ y. fields_of y.body >>= λ ws. fields_by f ws >>= λ gs. Some (Structure y.name gs)) e
            ∙ ap (λ o. o >>= λ ws. fields_by f ws >>= λ gs. Some (Structure x.name gs)) k
            ∙ ap (λ o. o >>= λ gs. Some (Structure x.name gs)) r.1,
      )

  pub instance_shaped : (c : ℕ) (k : Class) → class_at p c ≡ Some k → Every (ShapedVariable f) (class_variables p c) → (sh : Shape) × (shape_by p f (StType-F.Instance c) ≡ Some sh)
  instance_shaped c k e h =
      let r = fields_shaped f (class_variables p c) h in (
        Instance c k.name r.0,
        ap (λ o. o >>= λ y. fields_by f (class_variables p c) >>= λ gs. Some (Instance c y.name gs)) e ∙ ap (λ o. o >>= λ gs. Some (Instance c k.name gs)) r.1,
      )
