-- What the promise says of regions, addresses and tasks holds of the program of a good unit that is formed.
use Rattle.std.proofs.Common.{◌≡◌, ◌≤◌, ◌<◌, ℕ, zero, suc, ◌+◌, Bool, true, false, List, [], ◌∷◌, ◌++◌, map, length, Option, Some, None, refl, sym, ap, ◌∙◌, subst, inl, inr, arith}
use Rattle.std.specs.Prelude.{if◌then◌else◌, filter, option_map, slice_get}
use Rattle.std.proofs.lemmas.List.{length-map}
use Rattle.std.proofs.lemmas.Option.{slice_get-map}
use Rattle.st_types.specs.declared.elem.Elem.{Elem}
use Rattle.st_types.specs.declared.elem.Elem.TheVariants as kind
use Rattle.st_types.specs.declared.st_type.StType.{StType, out-StType}
use Rattle.st_types.specs.declared.st_type.StType.TheVariants as type
use Rattle.st_types.specs.declared.st_type.StType.TheOpen.{StType-F}
use Rattle.st_tree.specs.Address.{width_of}
use Rattle.st_tree.specs.declared.configuration.InstanceSpec.{InstanceSpec}
use Rattle.st_tree.specs.declared.declaration.ProgramDecl.{ProgramDecl}
use Rattle.st_tree.specs.declared.path.Step.TheVariants as step
use Rattle.st_tree.specs.declared.program.Program.{Program}
use Rattle.st_tree.specs.declared.program.RegionDecl.{RegionDecl}
use Rattle.st_tree.specs.declared.program.TaskDecl.{TaskDecl}
use Rattle.st_tree.specs.declared.unit.Decl.{Decl}
use Rattle.st_rules.specs.Classes.{classes_in}
use Rattle.st_rules.specs.Expressions.{told}
use Rattle.st_rules.specs.Scope.{Scope}
use Rattle.st_rules.proofs.Booleans.{false≢true, none≢some, some-same}
use Rattle.st_unit_rules.specs.declared_names.Declarations.{Region, of_global, of_instance, programs_in, configurations_in}
use Rattle.st_unit_rules.specs.declared_names.UnitNames.{unit_names, program_scope}
use Rattle.st_unit_rules.specs.declared_names.Variables.{Written, sections_written, is_kept_written}
use Rattle.st_unit_rules.specs.declared_names.WrittenTypes.{type_written}
use Rattle.st_unit_rules.specs.Checked.{Each, TypedClass, TypedProgram, TypedRegion, GlobalRegion, InstanceRegion, TypedTask, IsChecked, unit_regions, region_of_task, tasks_of}
use Rattle.st_unit_rules.specs.ConfigurationRules.{runs_in}
use Rattle.st_unit_rules.specs.RefusalLaws.{IsGood}
use Rattle.st_unit_rules.specs.UnitRefusal.{BreaksNothing}
use Rattle.st_unit_rules.specs.VariableRules.{of_program, width_bits, is_elementary_of_width}
use Rattle.st_values.specs.Program as seen
use Rattle.st_values.specs.Program.{Variable, class_at, class_variables}
use Rattle.st_values.specs.Shape.{Shape, Elementary, Instance, Fields, no_fields, field_then, field, fields_by, shape_by, shape_of, shape_within, shape_at, region_shape, path_shape}
use Rattle.st_values.specs.Value.{Path, ◌>>=◌}
use Rattle.st_values.specs.View.{region_of, program_of, those, is_kept, variables_in}
use Rattle.st_values.proofs.ShapeLaws.{mapped_some}
use Rattle.st_values.proofs.ValueLaws.{then_some}
use Rattle.st_meaning.specs.Call.{class_of_kind}
use Rattle.st_meaning.specs.Enter.{programs_of, programs_in as programs_at}
use Rattle.st_meaning.specs.Operation.{elem_of}
use Rattle.st_meaning.specs.ProcessImage.{Located, located, located_variables, located_in, located_from, located_of}
use Rattle.st_meaning.specs.st_frame.Footprint.{Has}
use Rattle.st_meaning.specs.st_frame.Promise.Programs.{TaskRegionIs}
use Rattle.resolution_order.specs.told_laws.ToldLaws.{Every}
use Rattle.accepted_texts.proofs.unfolding_laws.ListLaws.{every_append, every_at, every_means, every_passing, if_there, if_found, each_get, each_long, from_long}
use Rattle.accepted_texts.proofs.unfolding_laws.ChainLaws.{program_seen}
use Rattle.accepted_texts.proofs.unfolding_laws.RegionLaws.{OfRegion, each_program, each_region}
use Rattle.accepted_texts.proofs.unfolding_laws.UnfoldingLaws.{unfolding_laws}
use Rattle.accepted_texts.proofs.sized_units.Addresses.{WrittenPlaced, unit, GlobalPlaced, global_placed, ProgramPlaced, program_placed}
use Rattle.accepted_texts.proofs.sized_units.Depths.{type_is}
use Rattle.accepted_texts.proofs.sized_units.Instances.{found_named, names_of_programs, IsFound, instances_found}
use Rattle.accepted_texts.proofs.sized_units.Kept.{program_variables}
use Rattle.accepted_texts.proofs.sized_units.Outputs.{every_has}
use Rattle.accepted_texts.proofs.sized_units.Regions.{regions_few}
use Rattle.accepted_texts.proofs.sized_units.Variables.{IsOf, kept_of}

-- ---- types of addresses

abbrev IsElementary : StType → Type 0
IsElementary t = (e : Elem) × (t ≡ type.Elementary e)

elementary_of : (n : ℕ) (t : StType) (o : StType-F StType) → out-StType t ≡ o → is_elementary_of_width n (Some t) ≡ true → IsElementary t
elementary_of n t (StType-F.Elementary e) q h = (e, type_is t (StType-F.Elementary e) q ∙ type.rolls-Elementary e)
elementary_of n t (StType-F.Enumeration k) q h = let s = type_is t (StType-F.Enumeration k) q ∙ type.rolls-Enumeration k in absurd (false≢true (sym (ap (λ u. is_elementary_of_width n (Some u)) s) ∙ h))
elementary_of n t (StType-F.Structure k) q h = let s = type_is t (StType-F.Structure k) q ∙ type.rolls-Structure k in absurd (false≢true (sym (ap (λ u. is_elementary_of_width n (Some u)) s) ∙ h))
elementary_of n t (StType-F.Instance k) q h = let s = type_is t (StType-F.Instance k) q ∙ type.rolls-Instance k in absurd (false≢true (sym (ap (λ u. is_elementary_of_width n (Some u)) s) ∙ h))
elementary_of n t (StType-F.Reference k) q h = let s = type_is t (StType-F.Reference k) q ∙ type.rolls-Reference k in absurd (false≢true (sym (ap (λ u. is_elementary_of_width n (Some u)) s) ∙ h))
elementary_of n t (StType-F.Interface k) q h = let s = type_is t (StType-F.Interface k) q ∙ type.rolls-Interface k in absurd (false≢true (sym (ap (λ u. is_elementary_of_width n (Some u)) s) ∙ h))
elementary_of n t (StType-F.Array low high of) q h = let s = type_is t (StType-F.Array low high of) q ∙ type.rolls-Array low high of in absurd (false≢true (sym (ap (λ u. is_elementary_of_width n (Some u)) s) ∙ h))

told_elementary : (n : ℕ) (t : Option StType) → is_elementary_of_width n t ≡ true → IsElementary (told t)
unfolding told
told_elementary n None h = (kind.Dint, refl)
told_elementary n (Some t) h = elementary_of n t (out-StType t) refl h

-- ---- shapes

fields_at : (f : StType → Option Shape) (vs : List Variable) (fs : Fields) (k : ℕ) (v : Variable) (sh : Shape) → fields_by f vs ≡ Some fs → slice_get vs k ≡ Some v → f v.kind ≡ Some sh → field fs k ≡ Some sh
fields_at f [] fs k v sh e i h = absurd (none≢some i)
fields_at f (x ∷ vs) fs zero v sh e i h =
    let a = then_some (f x.kind) (λ s. fields_by f vs >>= λ rest. Some (field_then x s rest)) fs e in
    let b = then_some (fields_by f vs) (λ rest. Some (field_then x a.0 rest)) fs a.2 in
    let same : Some a.0 ≡ Some sh = sym a.1 ∙ (ap (λ (y : Variable). f y.kind) (some-same i) ∙ h) in
    ap (λ fields. field fields zero) (sym (some-same b.2)) ∙ same
fields_at f (x ∷ vs) fs (suc k) v sh e i h =
    let a = then_some (f x.kind) (λ s. fields_by f vs >>= λ rest. Some (field_then x s rest)) fs e in
    let b = then_some (fields_by f vs) (λ rest. Some (field_then x a.0 rest)) fs a.2 in
    ap (λ fields. field fields (suc k)) (sym (some-same b.2)) ∙ fields_at f vs b.0 k v sh b.1 i h

-- ---- variables with addresses

-- it is a variable of these, counted from k on, in region r
record AmongThese (r k : ℕ) (vs : List Variable) (x : Located) : Type 0 where
  number : ℕ
  variable : Variable
  there : slice_get vs number ≡ Some variable
  path : x.path ≡ record { region = r; steps = step.Field (k + number) ∷ [] }
  kind_is : variable.kind ≡ type.Elementary x.elem

module _ (s : Scope) where
  one_right : (q : Path) (v : Variable) (o : Option (List ℕ)) → ((text : List ℕ) → o ≡ Some text → IsElementary v.kind) → Every (λ (x : Located). (x.path ≡ q) × (v.kind ≡ type.Elementary x.elem)) (located q v o)
  one_right q v None f = tt
  one_right q v (Some text) f = let e = f text refl in ((refl, e.1 ∙ ap type.Elementary (sym (ap elem_of e.1))), tt)

  later : (r k : ℕ) (v : Variable) (vs : List Variable) (x : Located) → AmongThese r (suc k) vs x → AmongThese r k (v ∷ vs) x
  later r k v vs x h =
      let z : suc k + h.number ≡ k + suc h.number = omega arith in
      record { number = suc h.number; variable = h.variable; there = h.there; path = h.path ∙ ap (λ n. record { region = r; steps = step.Field n ∷ [] }) z; kind_is = h.kind_is }

  variables_right : (r k : ℕ) (vs : List Variable) → Every (λ (v : Variable). (text : List ℕ) → v.address ≡ Some text → IsElementary v.kind) vs → Every (AmongThese r k vs) (located_variables r k vs)
  variables_right r k [] h = tt
  variables_right r k (v ∷ vs) h =
      every_append (AmongThese r k (v ∷ vs)) (located (record { region = r; steps = step.Field k ∷ [] }) v v.address) (located_variables r (suc k) vs)
      (every_means (λ (x : Located). (x.path ≡ record { region = r; steps = step.Field k ∷ [] }) × (v.kind ≡ type.Elementary x.elem)) (AmongThese r k (v ∷ vs))
      (λ x i. let z : k ≡ k + 0 = omega arith in record { number = 0; variable = v; there = refl; path = i.0 ∙ ap (λ n. record { region = r; steps = step.Field n ∷ [] }) z; kind_is = i.1 })
      (located (record { region = r; steps = step.Field k ∷ [] }) v v.address) (one_right (record { region = r; steps = step.Field k ∷ [] }) v v.address h.0))
      (every_means (AmongThese r (suc k) vs) (AmongThese r k (v ∷ vs)) (later r k v vs) (located_variables r (suc k) vs) (variables_right r (suc k) vs h.1))

  -- the variables that a program keeps, by what the rules say of those that are written
  kept_elementary : (vs : List Variable) (ws : List Written) → Each (IsOf s) vs ws → Every (WrittenPlaced s of_program) ws → Every (λ (v : Variable). (text : List ℕ) → v.address ≡ Some text → IsElementary v.kind) vs
  kept_elementary [] [] h p = tt
  kept_elementary [] (w ∷ ws) h p = absurd h
  kept_elementary (v ∷ vs) [] h p = absurd h
  kept_elementary (v ∷ vs) (w ∷ ws) h p = (
    λ text e. subst IsElementary (sym h.0.kind) (told_elementary (width_bits (width_of text)) (type_written s w.item.kind) (p.0 text (sym h.0.address ∙ e)).wide),
    kept_elementary vs ws h.1 p.1,
  )

  every_kept : (P : Written → Type 0) (ws : List Written) → Every P ws → Every P (filter is_kept_written ws)
  every_kept P ws h = every_passing P is_kept_written ws (every_means P (λ w. is_kept_written w ≡ true → P w) (λ w i q. i) ws h)

module _ (decls : List (Decl ℕ)) (p : Program) (good : IsGood decls) (checked : IsChecked decls p) where
  abbrev pp : seen.Program
  pp = program_of p

  -- ---- how many regions there are

  pub few_regions : length pp.regions < 2147483648
  few_regions =
      let a = length-map p.regions region_of in
      let b = each_long (TypedRegion decls) (unit_regions decls) p.regions checked.regions in
      let c = regions_few decls good.nothing in
      omega (arith, a, b, c)

  -- ---- instances of programs

  record InstanceAt (r : ℕ) (x : InstanceSpec) (d : RegionDecl) : Type 0 where
    class : ℕ
    text : seen.Class
    kept : List Variable
    kind_is : d.kind ≡ type.Instance class
    there : class_at pp class ≡ Some text
    marked : text.sort ≡ seen.a_program
    variables : class_variables pp class ≡ kept
    right : Every (λ (v : Variable). (a : List ℕ) → v.address ≡ Some a → IsElementary v.kind) kept

  instance_at : (r : ℕ) (x : InstanceSpec) (d : RegionDecl) → InstanceRegion decls x d → IsFound decls x → InstanceAt r x d
  unfolding told
  instance_at r x d h k =
      let found = found_named (λ (y : ProgramDecl ℕ). y.name.text) x.program.text (programs_in decls) k.0 k.1 in
      let y = if_there (TypedProgram decls) (slice_get (programs_in decls) k.0) (slice_get p.programs k.0) found.0 found.1 (each_get (TypedProgram decls) (programs_in decls) p.programs k.0 checked.programs) in
      let class = program_seen p k.0 y.0 y.1 in
      let long = from_long (TypedClass decls) 0 (classes_in decls) p.classes checked.classes in
      let s = program_scope decls (unit_names decls) found.0 in
      let placed = every_at (ProgramPlaced decls) (programs_in decls) k.0 found.0 (each_program decls (ProgramPlaced decls) (program_placed decls) good.nothing) found.1 in
      record {
        class = length p.classes + k.0;
        text = class.0;
        kept = those is_kept (variables_in y.0.sections);
        kind_is = h.kind ∙ (ap (λ o. told (option_map (λ j. type.Instance (length (classes_in decls) + j)) o)) k.1 ∙ ap (λ n. type.Instance (n + k.0)) (sym long));
        there = class.1;
        marked = class.2.sort;
        variables = program_variables pp (length p.classes + k.0) class.0 class.1 class.2.chain ∙ class.2.own;
        right = kept_elementary s (those is_kept (variables_in y.0.sections)) (filter is_kept_written (sections_written found.0.sections)) (kept_of s found.0.sections y.0.sections y.2.sections)
            (every_kept s (WrittenPlaced s of_program) (sections_written found.0.sections) placed);
      }

  -- ---- regions as the rules have them

  abbrev RegionPlaced : Region → Type 0
  RegionPlaced u = OfRegion (GlobalPlaced decls) (IsFound decls) u

  regions_placed : Every RegionPlaced (unit_regions decls)
  regions_placed = each_region decls (GlobalPlaced decls) (IsFound decls) (global_placed decls) (instances_found decls) good.nothing

  -- ---- addresses

  abbrev IsRight : Located → Type 0
  IsRight x = path_shape pp x.path ≡ Some (Elementary x.elem)

  elementary_shape : (n : ℕ) (t : StType) (e : Elem) → t ≡ type.Elementary e → shape_within pp (suc n) t ≡ Some (Elementary e)
  elementary_shape n t e q = ap (shape_within pp (suc n)) q ∙ ap (shape_by pp (shape_within pp n)) (type.outs-Elementary e)

  global_right : (r : ℕ) (w : Written) (d : RegionDecl) → slice_get pp.regions r ≡ Some (region_of d) → GlobalRegion decls w d → RegionPlaced (of_global w) → Every IsRight (located_in pp r (region_of d))
  global_right r w d i h k =
      let x = region_of d in
      let q : Path = record { region = r; steps = [] } in
      let e : located_in pp r x ≡ located q x.variable x.variable.address =
      ap (λ b. if b then located_variables r 0 (class_variables pp (class_of_kind x.variable.kind)) else located q x.variable x.variable.address) h.program in
      let all = one_right (unit decls) q x.variable x.variable.address (λ text a. subst IsElementary (sym h.kind) (told_elementary (width_bits (width_of text)) (type_written (unit decls) w.item.kind) (k.0 text (sym h.address ∙ a)).wide)) in
      subst (Every IsRight) (sym e)
      (every_means (λ (y : Located). (y.path ≡ q) × (x.variable.kind ≡ type.Elementary y.elem)) IsRight
      (λ y f. ap (path_shape pp) f.0 ∙ (ap (λ o. (o >>= λ z. shape_of pp z.variable.kind) >>= λ sh. shape_at sh []) i ∙ ap (λ o. o >>= λ sh. shape_at sh []) (elementary_shape 64 x.variable.kind y.elem f.1)))
      (located q x.variable x.variable.address) all)

  instance_right : (r : ℕ) (x : InstanceSpec) (d : RegionDecl) → slice_get pp.regions r ≡ Some (region_of d) → InstanceRegion decls x d → RegionPlaced (of_instance x) → Every IsRight (located_in pp r (region_of d))
  instance_right r x d i h k =
      let at = instance_at r x d h k in
      let v = (region_of d).variable in
      let own : class_variables pp (class_of_kind d.kind) ≡ at.kept = ap (λ t. class_variables pp (class_of_kind t)) at.kind_is ∙ at.variables in
      let e : located_in pp r (region_of d) ≡ located_variables r 0 at.kept =
      ap (λ b. if b then located_variables r 0 (class_variables pp (class_of_kind d.kind)) else located (record { region = r; steps = [] }) v v.address) h.program ∙ ap (located_variables r 0) own in
      let sh = unfolding_laws.regions decls p good checked r (region_of d) i in
      let of : shape_within pp 65 (type.Instance at.class) ≡ Some sh.0 = ap (shape_within pp 65) (sym at.kind_is) ∙ (sym (ap (λ o. o >>= λ z. shape_of pp z.variable.kind) i) ∙ sh.1) in
      let by : shape_by pp (shape_within pp 64) (StType-F.Instance at.class) ≡ Some sh.0 = sym (ap (shape_by pp (shape_within pp 64)) (type.outs-Instance at.class)) ∙ of in
      let a = then_some (class_at pp at.class) (λ z. fields_by (shape_within pp 64) (class_variables pp at.class) >>= λ fields. Some (Instance at.class z.name fields)) sh.0 by in
      let b = then_some (fields_by (shape_within pp 64) (class_variables pp at.class)) (λ fields. Some (Instance at.class a.0.name fields)) sh.0 a.2 in
      let fields : fields_by (shape_within pp 64) at.kept ≡ Some b.0 = sym (ap (fields_by (shape_within pp 64)) at.variables) ∙ b.1 in
      subst (Every IsRight) (sym e)
      (every_means (AmongThese r 0 at.kept) IsRight
      (λ y f.
      let z : 0 + f.number ≡ f.number = omega arith in
      let part : field b.0 f.number ≡ Some (Elementary y.elem) = fields_at (shape_within pp 64) at.kept b.0 f.number f.variable (Elementary y.elem) fields f.there (elementary_shape 63 f.variable.kind y.elem f.kind_is) in
      ap (path_shape pp) f.path
      ∙ (ap (λ o. o >>= λ w. shape_at w (step.Field (0 + f.number) ∷ [])) sh.1
      ∙ (ap (λ w. shape_at w (step.Field (0 + f.number) ∷ [])) (sym (some-same b.2))
      ∙ (ap (λ n. field b.0 n >>= λ w. shape_at w []) z ∙ ap (λ o. o >>= λ w. shape_at w []) part))))
      (located_variables r 0 at.kept) (variables_right (program_scope decls (unit_names decls) (found_named (λ (c : ProgramDecl ℕ). c.name.text) x.program.text (programs_in decls) k.0 k.1).0) r 0 at.kept at.right))

  region_right : (r : ℕ) (u : Region) (d : RegionDecl) → slice_get pp.regions r ≡ Some (region_of d) → TypedRegion decls u d → RegionPlaced u → Every IsRight (located_in pp r (region_of d))
  region_right r (of_global w) d i h k = global_right r w d i h k
  region_right r (of_instance x) d i h k = instance_right r x d i h k

  all_right : (r : ℕ) (us : List Region) (ds : List RegionDecl) → ((j : ℕ) → slice_get pp.regions (r + j) ≡ slice_get (map region_of ds) j) → Each (TypedRegion decls) us ds → Every RegionPlaced us → Every IsRight (located_from pp r (map region_of ds))
  all_right r [] [] i h k = tt
  all_right r [] (d ∷ ds) i h k = absurd h
  all_right r (u ∷ us) [] i h k = absurd h
  all_right r (u ∷ us) (d ∷ ds) i h k =
      let z : r ≡ r + 0 = omega arith in
      every_append IsRight (located_in pp r (region_of d)) (located_from pp (suc r) (map region_of ds))
      (region_right r u d (ap (slice_get pp.regions) z ∙ i 0) h.0 k.0)
      (all_right (suc r) us ds (λ j. let w : suc r + j ≡ r + suc j = omega arith in ap (slice_get pp.regions) w ∙ i (suc j)) h.1 k.1)

  pub located_right : (x : Located) → Has (located_of pp) x → IsRight x
  located_right x h =
      every_has IsRight (located_of pp) x (all_right 0 (unit_regions decls) p.regions (λ j. let z : 0 + j ≡ j = omega arith in ap (slice_get pp.regions) z) checked.regions regions_placed) h

  -- ---- tasks

  record TaskPlace (n r : ℕ) (rs : List Region) : Type 0 where
    number : ℕ
    instance : InstanceSpec
    is : r ≡ n + number
    there : slice_get rs number ≡ Some (of_instance instance)

  task_place : (task : List ℕ) (n : ℕ) (rs : List Region) (r : ℕ) → Has (region_of_task decls task n rs) r → TaskPlace n r rs
  task_place task n [] r h = absurd h
  task_place task n (of_global w ∷ rs) r h =
      let t = task_place task (suc n) rs r h in
      let z : suc n + t.number ≡ n + suc t.number = omega arith in
      record { number = suc t.number; instance = t.instance; is = t.is ∙ z; there = t.there }
  task_place task n (of_instance x ∷ rs) r h = by (runs_in task x) h (task_place task (suc n) rs r)
    where
      behind : TaskPlace (suc n) r rs → TaskPlace n r (of_instance x ∷ rs)
      behind t = let z : suc n + t.number ≡ n + suc t.number = omega arith in record { number = suc t.number; instance = t.instance; is = t.is ∙ z; there = t.there }

      by : (b : Bool) → Has (if b then n ∷ region_of_task decls task (suc n) rs else region_of_task decls task (suc n) rs) r → (Has (region_of_task decls task (suc n) rs) r → TaskPlace (suc n) r rs) → TaskPlace n r (of_instance x ∷ rs)
      by true (inl e) f = let z : n ≡ n + 0 = omega arith in record { number = 0; instance = x; is = e ∙ z; there = refl }
      by true (inr k) f = behind (f k)
      by false k f = behind (f k)

  task_right : (r : ℕ) (x : InstanceSpec) → slice_get (unit_regions decls) r ≡ Some (of_instance x) → TaskRegionIs pp r
  task_right r x e =
      let d = if_there (TypedRegion decls) (slice_get (unit_regions decls) r) (slice_get p.regions r) (of_instance x) e (each_get (TypedRegion decls) (unit_regions decls) p.regions r checked.regions) in
      let at = instance_at r x d.0 d.2 (every_at RegionPlaced (unit_regions decls) r (of_instance x) regions_placed e) in
      record {
        region = region_of d.0;
        class = at.class;
        text = at.text;
        there = slice_get-map region_of p.regions r ∙ ap (option_map region_of) d.1;
        marked = d.2.program;
        kind = at.kind_is;
        class_there = at.there;
        sort = at.marked;
      }

  pub tasks_right : (t r : ℕ) → Has (programs_of pp t) r → TaskRegionIs pp r
  tasks_right t r h = by (slice_get p.tasks t) refl h
    where
      by : (o : Option TaskDecl) → slice_get p.tasks t ≡ o → Has (programs_at o) r → TaskRegionIs pp r
      by None e k = absurd k
      by (Some y) e k =
          let x = if_found (TypedTask decls) (slice_get (tasks_of decls (configurations_in decls)) t) (slice_get p.tasks t) y e (each_get (TypedTask decls) (tasks_of decls (configurations_in decls)) p.tasks t checked.tasks) in
          let place = task_place x.0.name.text 0 (unit_regions decls) r (subst (λ rs. Has rs r) x.2.programs k) in
          let z : r ≡ place.number = let i = place.is in omega (arith, i) in
          task_right r place.instance (ap (slice_get (unit_regions decls)) z ∙ place.there)
