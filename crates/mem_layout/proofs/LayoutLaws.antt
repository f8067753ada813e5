-- What the tables of a layout tell of its program.
use Rattle.std.proofs.Common.{◌≡◌, ◌<◌, ℕ, zero, suc, List, [], ◌∷◌, length, get_or, Option, Some, None, refl, sym, ap, ◌∙◌, subst, arith}
use Rattle.std.specs.Prelude.{slice_get, map}
use Rattle.std.proofs.lemmas.Option.{slice_get-get_or}
use Rattle.st_types.specs.declared.st_type.StType.{StType}
use Rattle.st_tree.specs.declared.program.RegionDecl.{RegionDecl}
use Rattle.st_values.specs.Program.{Region, Program}
use Rattle.st_values.specs.Value.{Path, Step, ◌>>=◌}
use Rattle.st_values.specs.Shape.{Shape, shape_of, region_shape, shape_within}
use Rattle.st_values.specs.ShapeLaws.{Unfolds}
use Rattle.st_values.specs.View.{region_of}
use Rattle.st_values.proofs.ShapeLaws.{shape_laws}
use Rattle.mem_image.specs.declared.at.At.{At}
use Rattle.mem_layout.specs.store_bytes.Place.{size, Place, part_place, inner_place, place_of}
use Rattle.mem_layout.specs.declared.sizes.Measure.{Measure}
use Rattle.mem_layout.specs.declared.sizes.Tables.{Tables}
use Rattle.mem_layout.specs.declared.layout.Region.{Region as Row}
use Rattle.mem_layout.specs.Layout as plain
use Rattle.mem_layout.specs.Layout.{IsSmall, HasShape, AllHaveShapes, RegionsHaveShapes, IsPlace, IsSizeOf, IsPart}
use Rattle.mem_layout.specs.Private.Table.{IsMeasure, AreTables, Reach}
use Rattle.mem_layout.specs.Private.Place.{offset_of, LeadsAt}
use Rattle.mem_layout.specs.Private.Way.{Begins, IsWay}
use Rattle.mem_layout.specs.Private.Regions.{IsRegion, AreRegions, HasRows, IsLayout}
use Rattle.mem_layout.proofs.PlaceLaws.{some_offset, no_offset}

-- ---- types

same_shape : (p : Program) (t : StType) (h : HasShape p t) (sh : Shape) → Unfolds p t sh → h.shape ≡ sh
same_shape p t h sh u = shape_laws.once p t h.shape sh (record { depth = 65; by = h.unfolds }) u

pub measured : (p : Program) (t : Tables) (rs : List Row) (kind : StType) (m : Measure) → IsLayout p t rs → HasShape p kind → ((n : ℕ) (sh : Shape) → AreTables p t → Reach p n t → shape_within p n kind ≡ Some sh → IsSmall sh → IsMeasure sh m)
    → (sh : Shape) → Unfolds p kind sh → IsMeasure sh m
measured p t rs kind m l h f sh u = subst (λ s. IsMeasure s m) (same_shape p kind h sh u) (f 65 h.shape l.tables l.reach h.unfolds h.small)

part_of : (p : Program) (r : _) (o : Option Place) → LeadsAt p 64 r o → IsPart p r o
part_of p None None h = tt
part_of p None (Some x) h = absurd h
part_of p (Some r) None h = absurd h
part_of p (Some r) (Some x) h = (h.0, record { depth = 64; by = h.1 })

pub parted : (p : Program) (t : Tables) (rs : List Row) (kind : StType) (s : Step) (r : _) → IsLayout p t rs → HasShape p kind → ((n : ℕ) (sh : Shape) → AreTables p t → Reach p (suc n) t → shape_within p (suc n) kind ≡ Some sh → IsSmall sh → LeadsAt p n r (part_place sh s))
    → (sh : Shape) → Unfolds p kind sh → IsPart p r (part_place sh s)
parted p t rs kind s r l h f sh u = subst (λ z. IsPart p r (part_place z s)) (same_shape p kind h sh u) (part_of p r (part_place h.shape s) (f 64 h.shape l.tables l.reach h.unfolds h.small))

-- ---- regions

pub with_rows : (p : Program) (t : Tables) (rs : List Row) → IsLayout p t rs → RegionsHaveShapes p → HasRows p t rs
with_rows p t rs l h = record { tables = l.tables; reach = l.reach; regions-are = l.regions-are h }

region_at : (p : Program) (xs : List Region) (rs : List Row) (r : ℕ) (y : Row) → AreRegions p xs rs → slice_get rs r ≡ Some y → (x : Region) × (slice_get xs r ≡ Some x) × IsRegion p x y
region_at p [] [] r y h e = cc
region_at p [] (z ∷ zs) r y h e = absurd h
region_at p (x ∷ xs) [] r y h e = absurd h
region_at p (x ∷ xs) (z ∷ zs) zero y h e = let is : z ≡ y = cc in (x, refl, subst (IsRegion p x) is h.0)
region_at p (x ∷ xs) (z ∷ zs) (suc r) y h e = region_at p xs zs r y h.1 e

region_past : (p : Program) (xs : List Region) (rs : List Row) (r : ℕ) → AreRegions p xs rs → slice_get rs r ≡ None → slice_get xs r ≡ None
region_past p [] [] r h e = refl
region_past p [] (z ∷ zs) r h e = absurd h
region_past p (x ∷ xs) [] r h e = absurd h
region_past p (x ∷ xs) (z ∷ zs) zero h e = cc
region_past p (x ∷ xs) (z ∷ zs) (suc r) h e = region_past p xs zs r h.1 e

region_shaped : (p : Program) (t : Tables) (rs : List Row) (r : ℕ) (y : Row) → HasRows p t rs → slice_get rs r ≡ Some y → (h : HasShape p y.kind) × (region_shape p r ≡ Some h.shape) × (y.size ≡ size h.shape)
region_shaped p t rs r y l e =
    let x = region_at p p.regions rs r y l.regions-are e in
    let i = x.2 in
    let there : region_shape p r ≡ shape_of p x.0.variable.kind = ap (λ o. o >>= λ (z : Region). shape_of p z.variable.kind) x.1 in
    (i.has, there ∙ (ap (shape_of p) (sym i.kind-is) ∙ i.has.unfolds), i.size-is)

region_none : (p : Program) (t : Tables) (rs : List Row) (r : ℕ) → HasRows p t rs → slice_get rs r ≡ None → region_shape p r ≡ None
region_none p t rs r l e = ap (λ o. o >>= λ (z : Region). shape_of p z.variable.kind) (region_past p p.regions rs r l.regions-are e)

pub sized : (p : Program) (t : Tables) (rs : List Row) (r : ℕ) (y : Row) → HasRows p t rs → slice_get rs r ≡ Some y → IsSizeOf p r y.size
sized p t rs r y l e = let h = region_shaped p t rs r y l e in record { shape = h.0.shape; is = h.1; size-is = h.2 }

-- a region of the program has a row
pub rows_there : (p : Program) (t : Tables) (rs : List Row) (r : ℕ) → HasRows p t rs → r < length p.regions → slice_get rs r ≡ None → ⊥
rows_there p t rs r l h e =
    let n = region_past p p.regions rs r l.regions-are e in
    go p.regions r h n
  where
    go : (xs : List Region) (r : ℕ) → r < length xs → slice_get xs r ≡ None → ⊥
    go [] r h e = omega arith
    go (x ∷ xs) zero h e = cc
    go (x ∷ xs) (suc r) h e = go xs r (omega arith) e

-- ---- places

pub no_region : (p : Program) (t : Tables) (rs : List Row) (q : Path) → HasRows p t rs → slice_get rs q.region ≡ None → place_of (region_shape p) q ≡ None
no_region p t rs q l e = ap (λ o. o >>= λ sh. inner_place sh q.steps) (region_none p t rs q.region l e)

pub missing : (p : Program) (t : Tables) (rs : List Row) (q : Path) (y : Row) → HasRows p t rs → slice_get rs q.region ≡ Some y → ((n : ℕ) (sh : Shape) → AreTables p t → Reach p (suc n) t → shape_within p (suc n) y.kind ≡ Some sh → IsSmall sh → None ≡ offset_of (inner_place sh q.steps))
    → place_of (region_shape p) q ≡ None
missing p t rs q y l e f =
    let h = region_shaped p t rs q.region y l e in
    ap (λ o. o >>= λ sh. inner_place sh q.steps) h.1 ∙ no_offset (inner_place h.0.shape q.steps) (f 64 h.0.shape l.tables l.reach h.0.unfolds h.0.small)

pub placed : (p : Program) (t : Tables) (rs : List Row) (q : Path) (y : Row) (n : ℕ) → HasRows p t rs → slice_get rs q.region ≡ Some y → ((m : ℕ) (sh : Shape) → AreTables p t → Reach p (suc m) t → shape_within p (suc m) y.kind ≡ Some sh → IsSmall sh → Some n ≡ offset_of (inner_place sh q.steps))
    → IsPlace p q (record { region = q.region; offset = n })
placed p t rs q y n l e f =
    let h = region_shaped p t rs q.region y l e in
    let x = some_offset (inner_place h.0.shape q.steps) n (f 64 h.0.shape l.tables l.reach h.0.unfolds h.0.small) in
    record { place = x.0; is = ap (λ o. o >>= λ sh. inner_place sh q.steps) h.1 ∙ x.1; region = refl; offset = x.2 }

-- ---- paths

pub nothing_there : (p : Program) (t : Tables) (rs : List Row) (at : At) → HasRows p t rs → slice_get rs at.region ≡ None → (q : Path) → plain.Begins p at q → ⊥
nothing_there p t rs at l e q b =
    let n = no_region p t rs q l (ap (slice_get rs) (sym b.is.region) ∙ e) in
    let i = b.is.is in
    cc

pub nothing_begins : (p : Program) (t : Tables) (rs : List Row) (at : At) (y : Row) → HasRows p t rs → slice_get rs at.region ≡ Some y → ((sh : Shape) → AreTables p t → Reach p 65 t → shape_within p 65 y.kind ≡ Some sh → IsSmall sh → IsWay sh at.offset None) → (q : Path) → plain.Begins p at q → ⊥
nothing_begins p t rs at y l e f q b =
    let h = region_shaped p t rs at.region y l e in
    let w = f h.0.shape l.tables l.reach h.0.unfolds h.0.small in
    let own : region_shape p q.region ≡ Some h.0.shape = ap (region_shape p) (sym b.is.region) ∙ h.1 in
    let there : place_of (region_shape p) q ≡ inner_place h.0.shape q.steps = ap (λ o. o >>= λ sh. inner_place sh q.steps) own in
    w q.steps (record { place = b.is.place; leads = sym there ∙ b.is.is; own = b.own; at = sym b.is.offset })

pub begins_there : (p : Program) (t : Tables) (rs : List Row) (at : At) (y : Row) (ss : List Step) → HasRows p t rs → slice_get rs at.region ≡ Some y → ((sh : Shape) → AreTables p t → Reach p 65 t → shape_within p 65 y.kind ≡ Some sh → IsSmall sh → IsWay sh at.offset (Some ss)) → plain.Begins p at (record { region = at.region; steps = ss })
begins_there p t rs at y ss l e f =
    let h = region_shaped p t rs at.region y l e in
    let w : Begins h.0.shape at.offset ss = f h.0.shape l.tables l.reach h.0.unfolds h.0.small in
    let i : IsPlace p (record { region = at.region; steps = ss }) at = record { place = w.place; is = ap (λ o. o >>= λ sh. inner_place sh ss) h.1 ∙ w.leads; region = refl; offset = sym w.at } in
    record { is = i; own = w.own }

-- ---- the rows, one by one

shape_at : (p : Program) (ds : List RegionDecl) (i : ℕ) (d : RegionDecl) → AllHaveShapes p (map region_of ds) → slice_get ds i ≡ Some d → HasShape p d.kind
shape_at p [] i d h e = cc
shape_at p (x ∷ xs) zero d h e = let is : x ≡ d = cc in subst (λ (z : RegionDecl). HasShape p z.kind) is h.0
shape_at p (x ∷ xs) (suc i) d h e = shape_at p xs i d h.1 e

pub region_row : (p : Program) (t : Tables) (d : RegionDecl) (m : Measure) (kind : StType) → AreTables p t → Reach p 65 t → HasShape p d.kind → ((n : ℕ) (sh : Shape) → AreTables p t → Reach p n t → shape_within p n d.kind ≡ Some sh → IsSmall sh → IsMeasure sh m) → kind ≡ d.kind → IsRegion p (region_of d) (record { kind = kind; size = m.size })
region_row p t d m kind a r h f k =
    let i = f 65 h.shape a r h.unfolds h.small in
    let own : HasShape p kind = record { shape = h.shape; unfolds = ap (shape_of p) k ∙ h.unfolds; small = h.small } in
    record { kind-is = k; has = own; size-is = i.size-is }

pub decl_shape : (p : Program) (ds : List RegionDecl) (i : ℕ) (d : RegionDecl) → AllHaveShapes p (map region_of ds) → i < length ds → d ≡ get_or ds i d → HasShape p d.kind
decl_shape p ds i d h lt e = shape_at p ds i d h (slice_get-get_or ds i d lt ∙ ap Some (sym e))
