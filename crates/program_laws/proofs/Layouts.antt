-- What layouts ask of accepted programs.
use Rattle.std.proofs.Common.{◌≡◌, ℕ, zero, suc, Bool, true, false, List, [], ◌∷◌, Option, Some, None, sym, ap, ◌∙◌, subst}
use Rattle.std.specs.Prelude.{slice_get, nat_lt, if◌then◌else◌}
use Rattle.st_types.specs.declared.st_type.StType.{StType}
use Rattle.st_tree.specs.declared.path.Path.{Path}
use Rattle.st_tree.specs.declared.path.Step.{Step}
use Rattle.st_tree.specs.declared.path.Step.TheVariants as step
use Rattle.st_rules.proofs.Booleans.{none≢some, some-same}
use Rattle.st_values.specs.Program.{Region, Program}
use Rattle.st_values.specs.Shape.{Shape, Elementary, Enumeration, Reference, Interface, Array, Structure, Instance, Fields, no_fields, field_then, field, element_shape, shape_part, shape_at, shape_of, region_shape, path_shape}
use Rattle.st_values.specs.Value.{◌>>=◌, place_of_index}
use Rattle.st_values.proofs.ValueLaws.{then_some}
use Rattle.region_instances.specs.Instances.{RegionsUnfold}
use Rattle.mem_layout.specs.Layout.{IsSmall, EachIsSmall, HasShape, AllHaveShapes, RegionsHaveShapes}

-- ---- regions

shaped_at : (p : Program) (xs : List Region) (r : ℕ) (x : Region) → AllHaveShapes p xs → slice_get xs r ≡ Some x → HasShape p x.variable.kind
shaped_at p [] r x h e = absurd (none≢some e)
shaped_at p (y ∷ xs) zero x h e = subst (λ (z : Region). HasShape p z.variable.kind) (some-same e) h.0
shaped_at p (y ∷ xs) (suc r) x h e = shaped_at p xs r x h.1 e

of_region : (p : Program) (r : ℕ) (x : Region) → slice_get p.regions r ≡ Some x → region_shape p r ≡ shape_of p x.variable.kind
of_region p r x e = ap (λ o. o >>= λ (z : Region). shape_of p z.variable.kind) e

pub regions_unfold : (p : Program) → RegionsHaveShapes p → RegionsUnfold p
regions_unfold p h = record { shapes = λ r x e. let s = shaped_at p p.regions r x h e in (s.shape, of_region p r x e ∙ s.unfolds) }

-- ---- parts

field_small : (fs : Fields) (k : ℕ) (sh : Shape) → EachIsSmall fs → field fs k ≡ Some sh → IsSmall sh
field_small no_fields k sh h e = absurd (none≢some e)
field_small (field_then v x fs) zero sh h e = subst IsSmall (some-same e) h.0
field_small (field_then v x fs) (suc k) sh h e = field_small fs k sh h.1 e

element_small : (n : ℕ) (x sh : Shape) (o : Option ℕ) → IsSmall x → element_shape n x o ≡ Some sh → IsSmall sh
element_small n x sh None h e = absurd (none≢some e)
element_small n x sh (Some k) h e = by (nat_lt k n) e
  where
    by : (b : Bool) → (if b then Some x else None) ≡ Some sh → IsSmall sh
    by true q = subst IsSmall (some-same q) h
    by false q = absurd (none≢some q)

part_small : (whole : Shape) (s : Step) (sh : Shape) → IsSmall whole → shape_part whole s ≡ Some sh → IsSmall sh
part_small (Array low n x) (step.Element i) sh h e = element_small n x sh (place_of_index low i) h.1 e
part_small (Array low n x) (step.Field k) sh h e = absurd (none≢some e)
part_small (Structure name fs) (step.Field k) sh h e = field_small fs k sh h.1 e
part_small (Structure name fs) (step.Element i) sh h e = absurd (none≢some e)
part_small (Instance c name fs) (step.Field k) sh h e = field_small fs k sh h.1 e
part_small (Instance c name fs) (step.Element i) sh h e = absurd (none≢some e)
part_small (Elementary x) s sh h e = absurd (none≢some e)
part_small (Enumeration name vs) s sh h e = absurd (none≢some e)
part_small (Reference c name) s sh h e = absurd (none≢some e)
part_small (Interface i name) s sh h e = absurd (none≢some e)

parts_small : (whole : Shape) (ss : List Step) (sh : Shape) → IsSmall whole → shape_at whole ss ≡ Some sh → IsSmall sh
parts_small whole [] sh h e = subst IsSmall (some-same e) h
parts_small whole (s ∷ ss) sh h e =
    let a = then_some (shape_part whole s) (λ part. shape_at part ss) sh e in
    parts_small a.0 ss sh (part_small whole s a.0 h a.1) a.2

-- the type of what a path leads to can be laid out
pub part_shaped : (p : Program) (q : Path) (t : StType) (sh : Shape) → RegionsHaveShapes p → path_shape p q ≡ Some sh → shape_of p t ≡ Some sh → HasShape p t
part_shaped p q t sh h e f =
    let a = then_some (region_shape p q.region) (λ x. shape_at x q.steps) sh e in
    let b = then_some (slice_get p.regions q.region) (λ (x : Region). shape_of p x.variable.kind) a.0 a.1 in
    let s = shaped_at p p.regions q.region b.0 h b.1 in
    let whole : IsSmall a.0 = subst IsSmall (some-same (sym s.unfolds ∙ b.2)) s.small in
    record { shape = sh; unfolds = f; small = parts_small a.0 q.steps sh whole a.2 }
