-- Sizes of types by the tables.
use Rattle.std.proofs.Common.{◌≡◌, ◌<◌, ℕ, suc, ◌*◌, ℤ, Bool, Some, sym, ap, ◌∙◌, subst, arith}
use Rattle.std.specs.Prelude.{slice_get}
use Rattle.st_types.specs.declared.elem.Elem.{Elem}
use Rattle.st_types.specs.declared.st_type.StType.{StType}
use Rattle.st_types.specs.declared.st_type.StType.TheVariants as type
use Rattle.st_types.specs.Elem.{bytes}
use Rattle.st_values.specs.Program.{Program}
use Rattle.st_values.specs.Shape.{Shape, extent, shape_within}
use Rattle.st_values.proofs.ShapeLaws.{one_deeper}
use Rattle.mem_layout.specs.store_bytes.Place.{size}
use Rattle.mem_layout.specs.Layout.{IsSmall}
use Rattle.mem_layout.specs.declared.sizes.Measure.{Measure}
use Rattle.mem_layout.specs.declared.sizes.Entry.{Entry}
use Rattle.mem_layout.specs.declared.sizes.Tables.{Tables}
use Rattle.mem_layout.specs.Private.Table.{list_of, named, IsMeasure, AreTables, Reach}
use Rattle.mem_layout.proofs.Unfold.{elementary_is, enumeration_is, reference_is, interface_is, array_opens}

-- elements that take bytes are few where the array is small
pub few : (n e : ℕ) → (0 < e) → n * e < 4294967296 → n < 4294967296
few n e h lt = grind arith

pub none : (n : ℕ) → n * 0 ≡ 0
none n = omega arith

pub elementary_measure : (p : Program) (n : ℕ) (t : StType) (e : Elem) (sh : Shape) (m : Measure) → t ≡ type.Elementary e → m.size ≡ bytes e → m.alignment ≡ bytes e → shape_within p n t ≡ Some sh → IsMeasure sh m
elementary_measure p n t e sh m q a b h =
    let is = elementary_is p n t e sh q h in
    subst (λ s. IsMeasure s m) (sym is) (record { size-is = a; alignment-is = b })

pub enumeration_measure : (p : Program) (n : ℕ) (t : StType) (k : ℕ) (sh : Shape) (m : Measure) → t ≡ type.Enumeration k → m.size ≡ 4 → m.alignment ≡ 4 → shape_within p n t ≡ Some sh → IsMeasure sh m
enumeration_measure p n t k sh m q a b h =
    let is = enumeration_is p n t k sh q h in
    subst (λ s. IsMeasure s m) (sym is.2) (record { size-is = a; alignment-is = b })

pub reference_measure : (p : Program) (n : ℕ) (t : StType) (c : ℕ) (sh : Shape) (m : Measure) → t ≡ type.Reference c → m.size ≡ 8 → m.alignment ≡ 8 → shape_within p n t ≡ Some sh → IsMeasure sh m
reference_measure p n t c sh m q a b h =
    let is = reference_is p n t c sh q h in
    subst (λ s. IsMeasure s m) (sym is.1) (record { size-is = a; alignment-is = b })

pub interface_measure : (p : Program) (n : ℕ) (t : StType) (i : ℕ) (sh : Shape) (m : Measure) → t ≡ type.Interface i → m.size ≡ 8 → m.alignment ≡ 8 → shape_within p n t ≡ Some sh → IsMeasure sh m
interface_measure p n t i sh m q a b h =
    let is = interface_is p n t i sh q h in
    subst (λ s. IsMeasure s m) (sym is.1) (record { size-is = a; alignment-is = b })

pub entry_measure : (p : Program) (tables : Tables) (class : Bool) (n : ℕ) (t : StType) (k : ℕ) (sh : Shape) (m : Measure) → t ≡ named class k → AreTables p tables → (e : Entry) × (slice_get (list_of tables class) k ≡ Some (Some e)) × (m ≡ e.measure) → shape_within p n t ≡ Some sh → IsMeasure sh m
entry_measure p tables class n t k sh m q f x h =
    let l = f.entry class k x.0 n sh x.1 (ap (shape_within p n) (sym q) ∙ h) in
    subst (IsMeasure sh) (sym x.2) l.measure

pub array_measure : (p : Program) (n : ℕ) (t : StType) (low high : ℤ) (of : StType) (sh : Shape) (element : Measure) (m : Measure) → t ≡ type.Array low high of → ((n : ℕ) (e : Shape) → shape_within p n of ≡ Some e → IsMeasure e element) → m.size ≡ extent low high * element.size → m.alignment ≡ element.alignment → shape_within p n t ≡ Some sh → IsMeasure sh m
array_measure p n t low high of sh element m q f a b h =
    let o = array_opens p n t low high of sh q h in
    let e = f o.depth o.element o.unfolds in
    subst (λ s. IsMeasure s m) (sym o.is) (record { size-is = a ∙ ap (λ x. extent low high * x) e.size-is; alignment-is = b ∙ e.alignment-is })

-- what is reached so deep is reached less deep
pub reach_less : (p : Program) (n : ℕ) (t : Tables) → Reach p (suc n) t → Reach p n t
reach_less p n t r = record { entry = λ class k sh h s. r.entry class k sh ((one_deeper p n).by (named class k) sh h) s }

pub reach_under : (p : Program) (n m : ℕ) (t : Tables) → n ≡ suc m → Reach p n t → Reach p m t
reach_under p n m t e r = reach_less p m t (subst (λ x. Reach p x t) e r)

pub entry_there : (p : Program) (tables : Tables) (class : Bool) (n : ℕ) (t : StType) (k : ℕ) (sh : Shape) → t ≡ named class k → Reach p n tables → shape_within p n t ≡ Some sh → IsSmall sh → (e : Entry) × (slice_get (list_of tables class) k ≡ Some (Some e))
entry_there p tables class n t k sh q r h s = r.entry class k sh (ap (shape_within p n) (sym q) ∙ h) s

pub record SmallArray (p : Program) (tables : Tables) (low high : ℤ) (of : StType) : Type 0 where
  pub depth : ℕ
  pub reach : Reach p depth tables
  pub element : Shape
  pub unfolds : shape_within p depth of ≡ Some element
  pub small : IsSmall element
  pub few : extent low high * size element < 4294967296

pub small_array : (p : Program) (tables : Tables) (n : ℕ) (t : StType) (low high : ℤ) (of : StType) (sh : Shape) → t ≡ type.Array low high of → Reach p n tables → shape_within p n t ≡ Some sh → IsSmall sh → SmallArray p tables low high of
small_array p tables n t low high of sh q r h s =
    let o = array_opens p n t low high of sh q h in
    let u = subst IsSmall o.is s in
    record { depth = o.depth; reach = reach_under p n o.depth tables o.deep r; element = o.element; unfolds = o.unfolds; small = u.1; few = u.0 }
