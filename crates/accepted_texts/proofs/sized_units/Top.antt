-- The checked program of a good unit is sized.
use Rattle.std.proofs.Common.{◌≡◌, ◌≤◌, ◌<◌, ℕ, suc, ◌+◌, true, false, List, [], ◌∷◌, ◌++◌, map, length, Option, Some, None, refl, sym, ap, ◌∙◌, subst, arith}
use Rattle.std.specs.Prelude.{if◌then◌else◌, filter, option_map, slice_get}
use Rattle.std.specs.List.{list_any}
use Rattle.std.proofs.lemmas.Option.{slice_get-map, slice_get_within}
use Rattle.plc_text.specs.Words.{same}
use Rattle.st_types.specs.declared.elem.Elem.TheVariants as kind
use Rattle.st_types.specs.declared.st_type.StType.{StType}
use Rattle.st_types.specs.declared.st_type.StType.TheVariants as type
use Rattle.st_types.specs.declared.st_type.StType.TheOpen.{StType-F}
use Rattle.st_tree.specs.declared.configuration.InstanceSpec.{InstanceSpec}
use Rattle.st_tree.specs.declared.configuration.TaskSpec.{TaskSpec}
use Rattle.st_tree.specs.declared.declaration.Item.{Item}
use Rattle.st_tree.specs.declared.declaration.ProgramDecl.{ProgramDecl}
use Rattle.st_tree.specs.declared.program.Program.{Program}
use Rattle.st_tree.specs.declared.program.RegionDecl.{RegionDecl}
use Rattle.st_tree.specs.declared.unit.Decl.{Decl}
use Rattle.st_rules.specs.declared.names.DeclaredVariable.{DeclaredVariable}
use Rattle.st_rules.specs.Classes.{classes_in}
use Rattle.st_rules.specs.Expressions.{told}
use Rattle.st_rules.specs.Named.{first_place}
use Rattle.st_rules.specs.Scope.{Scope, is_of_instance}
use Rattle.st_unit_rules.specs.declared_names.Declarations.{Global, Region, of_global, of_instance, programs_in, configurations_in}
use Rattle.st_unit_rules.specs.declared_names.UnitNames.{unit_names, unit_scope, program_scope}
use Rattle.st_unit_rules.specs.declared_names.Variables.{Written, sections_written, is_kept_written}
use Rattle.st_unit_rules.specs.declared_names.WrittenTypes.{type_written}
use Rattle.st_unit_rules.specs.Checked.{Each, TypedClass, TypedProgram, TypedRegion, GlobalRegion, InstanceRegion, TypedTask, IsChecked, unit_regions, tasks_of, region_of_task}
use Rattle.st_unit_rules.specs.DeclarationRules.{region_values, program_values, global_faults, item_too_deep}
use Rattle.st_unit_rules.specs.Limits.{sum_of, kinds_told, values_within, has_depth_told, values_of as counted_values}
use Rattle.st_unit_rules.specs.UnitRefusal.{BreaksNothing}
use Rattle.st_unit_rules.specs.VariableRules.{of_globals, item_faults}
use Rattle.st_values.specs.Program as seen
use Rattle.st_values.specs.Program.{Class, class_at, class_variables}
use Rattle.st_values.specs.Value.{◌>>=◌}
use Rattle.st_values.specs.Shape.{Shape, Elementary, Instance, region_shape, shape_by, shape_of, shape_within, fields_by}
use Rattle.st_values.specs.View.{those, is_kept, variables_in, region_of, program_of}
use Rattle.st_values.proofs.ShapeLaws.{mapped_some, shape_laws}
use Rattle.st_values.proofs.ValueLaws.{then_some}
use Rattle.st_meaning.specs.Enter.{programs_of, programs_in as programs_at}
use Rattle.st_meaning.specs.st_frame.Footprint.{Has}
use Rattle.resolution_order.specs.told_laws.ToldLaws.{Every}
use Rattle.resolution_order.proofs.told_laws.LocalTelling.{local_laws}
use Rattle.mem_layout.specs.Layout.{HasShape, AllHaveShapes}
use Rattle.accepted_texts.proofs.unfolding_laws.CycleLaws.{none_in, variable_not_deep}
use Rattle.accepted_texts.proofs.unfolding_laws.RegionLaws.{OfRegion, each_region}
use Rattle.accepted_texts.proofs.unfolding_laws.GoodLaws.{GoodProgram, programs_good}
use Rattle.accepted_texts.proofs.unfolding_laws.UnfoldingLaws.{unfolding_laws}
use Rattle.accepted_texts.proofs.unfolding_laws.ListLaws.{every_at, every_one, every_mapped, every_means, there_below, if_there, if_found, each_get, from_long}
use Rattle.accepted_texts.proofs.unfolding_laws.DeclaredLaws.{scope}
use Rattle.accepted_texts.proofs.unfolding_laws.ChainLaws.{IsProgram, program_seen}
use Rattle.mem_layout.specs.loaded_meaning.Sized.{values_of, IsSized}
use Rattle.accepted_texts.proofs.sized_units.Counted.{Sums, Keeps, Within, counted, fields_within}
use Rattle.accepted_texts.proofs.sized_units.Few.{few_classes}
use Rattle.accepted_texts.proofs.sized_units.Kept.{EnumerationsAreFew, PartsAreTold, program_told, kind_declared, members_kinds, program_variables, keeps}
use Rattle.accepted_texts.proofs.sized_units.Instances.{found_named}
use Rattle.accepted_texts.proofs.sized_units.Parts.{part_small, few_elements}
use Rattle.accepted_texts.proofs.sized_units.Regions.{regions_few, region_few, tasks_busy, region_runs, a_region}
use Rattle.accepted_texts.proofs.sized_units.Sound.{Sound, ToldSound, written_sound, unit_sound}
use Rattle.accepted_texts.proofs.sized_units.Depths.{Counts, counts, counts_below, few_dimensions}
use Rattle.accepted_texts.proofs.sized_units.Shown.{Alike, alike_sums, kept_alike}
use Rattle.accepted_texts.proofs.sized_units.Sizes.{size_within}

-- what is not told counts for nothing
told_values : (s : Scope) (vs : List DeclaredVariable) → Every (Counts s) (map kind_declared vs) → sum_of s (map (values_within s 66) (kinds_told s (map kind_declared vs))) ≤ sum_of s (map (λ (v : DeclaredVariable). counted_values s v.kind) vs)
told_values s [] c = omega arith
told_values s (v ∷ vs) c = by v.kind c.0 (told_values s vs c.1)
  where
    by : (o : Option StType) → Counts s o → sum_of s (map (values_within s 66) (kinds_told s (map kind_declared vs))) ≤ sum_of s (map (λ (w : DeclaredVariable). counted_values s w.kind) vs)
        → sum_of s (map (values_within s 66) (kinds_told s (o ∷ map kind_declared vs))) ≤ counted_values s o + sum_of s (map (λ (w : DeclaredVariable). counted_values s w.kind) vs)
    by None f h = omega (arith, h)
    by (Some t) f h = let e = f t refl in omega (arith, e, h)

module _ (decls : List (Decl ℕ)) (p : Program) (checked : IsChecked decls p) (good : BreaksNothing decls) (all_told : PartsAreTold decls) (few : EnumerationsAreFew decls) where
  abbrev pp : seen.Program
  pp = program_of p

  abbrev unit : Scope
  unit = scope decls []

  abbrev Small : Shape → Type 0
  Small sh = Within unit pp (Sound decls) 131072 sh

  plain_small : (sh : Shape) → shape_of pp (type.Elementary kind.Dint) ≡ Some sh → Small sh
  plain_small sh e =
      let k : Some (Elementary kind.Dint) ≡ Some sh = sym (ap (shape_by pp (shape_within pp 64)) (type.outs-Elementary kind.Dint)) ∙ e in
      let q : Elementary kind.Dint ≡ sh = cc in
      subst Small q (record { values = omega arith; filled = tt; counted = tt })

  told_small : (o : Option StType) (sh : Shape) → ((t : StType) → o ≡ Some t → shape_of pp t ≡ Some sh → Small sh) → shape_of pp (told o) ≡ Some sh → Small sh
  unfolding told
  told_small None sh f e = plain_small sh e
  told_small (Some t) sh f e = f t refl e

  -- ---- globals

  -- the type of a global is within the limits
  abbrev WithinLimits : Item ℕ → Type 0
  WithinLimits item = Counts unit (type_written unit item.kind)

  of_first : (before : List Region) (g : Global) → global_faults decls before g ≡ [] → g.first ≡ true → WithinLimits g.item
  of_first before g h q =
      let front = none_in _ _ h in
      let own = none_in _ _ front.0 in
      let first : item_faults unit of_globals g.section g.item ++ item_too_deep decls unit g.item ≡ [] = sym (ap (λ b. if b then item_faults unit of_globals g.section g.item ++ item_too_deep decls unit g.item else []) q) ∙ own.1 in
      let deep = (none_in (item_faults unit of_globals g.section g.item) (item_too_deep decls unit g.item) first).1 in
      counts unit (type_written unit g.item.kind) (few_dimensions unit decls good _ g.item.kind deep) (variable_not_deep decls good unit 64 _ g.item.kind deep)

  global_small : (w : Written) (d : RegionDecl) (sh : Shape) → GlobalRegion decls w d → WithinLimits w.item → region_values decls (of_global w) ≤ 131072 → shape_of pp d.kind ≡ Some sh → Small sh
  global_small w d sh h limits l e =
      told_small (type_written unit w.item.kind) sh
      (λ t q k.
      let g = subst (ToldSound decls) q (written_sound decls unit w.item.kind (unit_sound decls)) in
      let c = counted unit pp (Sound decls) (keeps decls p checked good all_told few []) 65 t sh g k in
      let v = c.values in
      let i : region_values decls (of_global w) ≡ values_within unit 66 t = limits t q in
      record { values = omega (arith, v, i, l); filled = c.filled; counted = c.counted })
      (sym (ap (shape_of pp) h.kind) ∙ e)

  -- ---- instances of programs

  -- the types of what a program keeps are within the limits
  program_counts : (k : ℕ) (x : ProgramDecl ℕ) → slice_get (programs_in decls) k ≡ Some x
      → Every (Counts (program_scope decls (unit_names decls) x)) (map kind_declared (filter is_of_instance (program_scope decls (unit_names decls) x).locals))
  unfolding program_scope
  program_counts k x there =
      let s = program_scope decls (unit_names decls) x in
      let ws = sections_written x.sections in
      let settled = (local_laws.program (unit_scope decls (unit_names decls)) x.sections).settled in
      let kinds = sym (members_kinds s 0 0 ws) ∙ ap (λ vs. map kind_declared (filter is_of_instance vs)) settled in
      let deep = every_at (GoodProgram decls) (programs_in decls) k x (programs_good decls good) there in
      subst (Every (Counts s)) kinds
      (every_mapped (Counts s) (λ (w : Written). type_written s w.item.kind) (filter is_kept_written ws)
      (every_means (λ (w : Written). has_depth_told s 64 (type_written s w.item.kind) ≡ false) (λ (w : Written). Counts s (type_written s w.item.kind)) (λ w. counts_below s (type_written s w.item.kind)) (filter is_kept_written ws) deep))

  program_sums : (k : ℕ) (x : ProgramDecl ℕ) (y : _) → slice_get (programs_in decls) k ≡ Some x → TypedProgram decls x y
      → Sums (program_scope decls (unit_names decls) x) pp (Sound decls) (those is_kept (variables_in y.sections)) (kinds_told (program_scope decls (unit_names decls) x) (map kind_declared (filter is_of_instance (program_scope decls (unit_names decls) x).locals)))
  unfolding program_scope
  program_sums k x y there typed =
      let s = program_scope decls (unit_names decls) x in
      let ws = sections_written x.sections in
      let settled = (local_laws.program (unit_scope decls (unit_names decls)) x.sections).settled in
      let alike = kept_alike decls s (unit_sound decls) x.sections y.sections typed.sections (program_told decls all_told k x there) in
      let kinds = sym (members_kinds s 0 0 ws) ∙ ap (λ vs. map kind_declared (filter is_of_instance vs)) settled in
      alike_sums decls s pp (those is_kept (variables_in y.sections)) _ (subst (Each (Alike decls) (those is_kept (variables_in y.sections))) kinds alike)

  program_keeps : (x : ProgramDecl ℕ) → Keeps (program_scope decls (unit_names decls) x) pp (Sound decls)
  unfolding program_scope
  program_keeps x = keeps decls p checked good all_told few (program_scope decls (unit_names decls) x).locals

  program_small : (k : ℕ) (x : ProgramDecl ℕ) (y : _) (class : Class) (c : ℕ) (sh : Shape) → slice_get (programs_in decls) k ≡ Some x → TypedProgram decls x y → class_at pp c ≡ Some class → IsProgram c y class → c < 4294967296
      → program_values decls (Some x) ≤ 131072 → shape_of pp (type.Instance c) ≡ Some sh → Small sh
  program_small k x y class c sh there typed at is below l e =
      let s = program_scope decls (unit_names decls) x in
      let f = shape_within pp 64 in
      let F = values_within s 66 in
      let h : shape_by pp f (StType-F.Instance c) ≡ Some sh = sym (ap (shape_by pp f) (type.outs-Instance c)) ∙ e in
      let a = then_some (class_at pp c) (λ z. fields_by f (class_variables pp c) >>= λ fields. Some (Instance c z.name fields)) sh h in
      let b = then_some (fields_by f (class_variables pp c)) (λ fields. Some (Instance c a.0.name fields)) sh a.2 in
      let q : Instance c a.0.name b.0 ≡ sh = let i = b.2 in cc in
      let own : class_variables pp c ≡ those is_kept (variables_in y.sections) = program_variables pp c class at is.chain ∙ is.own in
      let sum = program_sums k x y there typed in
      let all = fields_within s pp (Sound decls) f F (λ t z g i. counted s pp (Sound decls) (program_keeps x) 65 t z g (shape_laws.deeper pp 64 t z i)) (those is_kept (variables_in y.sections)) b.0 sum.each (sym (ap (fields_by f) own) ∙ b.1) in
      let v = all.values in
      let j = sum.sum F in
      let z = told_values s (filter is_of_instance s.locals) (program_counts k x there) in
      let size : values_of (Instance c a.0.name b.0) ≤ 131072 = omega (arith, v, j, z, l) in
      subst Small q (record { values = size; filled = all.filled; counted = (below, all.counted) })

  instance_small : (x : InstanceSpec) (d : RegionDecl) (sh : Shape) → InstanceRegion decls x d → region_values decls (of_instance x) ≤ 131072 → shape_of pp d.kind ≡ Some sh → Small sh
  instance_small x d sh h l e =
      told_small (option_map (λ k. type.Instance (length (classes_in decls) + k)) (first_place x.program.text (map (λ (y : ProgramDecl ℕ). y.name.text) (programs_in decls)))) sh
      (λ t q i.
      let m = mapped_some (λ k. type.Instance (length (classes_in decls) + k)) (first_place x.program.text (map (λ (y : ProgramDecl ℕ). y.name.text) (programs_in decls))) t q in
      let found = found_named (λ (y : ProgramDecl ℕ). y.name.text) x.program.text (programs_in decls) m.0 m.1 in
      let y = if_there (TypedProgram decls) (slice_get (programs_in decls) m.0) (slice_get p.programs m.0) found.0 found.1 (each_get (TypedProgram decls) (programs_in decls) p.programs m.0 checked.programs) in
      let class = program_seen p m.0 y.0 y.1 in
      let long = from_long (TypedClass decls) 0 (classes_in decls) p.classes checked.classes in
      let within = slice_get_within (programs_in decls) m.0 found.0 found.1 in
      let few_all = few_classes decls good in
      let c : length (classes_in decls) + m.0 ≡ length p.classes + m.0 = omega (arith, long) in
      let below : length p.classes + m.0 < 4294967296 = omega (arith, long, within, few_all) in
      let values : program_values decls (Some found.0) ≤ 131072 = subst (λ o. program_values decls o ≤ 131072) found.2 l in
      let shape : shape_of pp (type.Instance (length p.classes + m.0)) ≡ Some sh = ap (λ n. shape_of pp (type.Instance n)) (sym c) ∙ (ap (shape_of pp) m.2 ∙ i) in
      program_small m.0 found.0 y.0 class.0 (length p.classes + m.0) sh found.1 y.2 class.1 class.2 below values shape)
      (sym (ap (shape_of pp) h.kind) ∙ e)

  -- ---- all regions

  region_small : (u : Region) (d : RegionDecl) (sh : Shape) → OfRegion (λ so constant item. WithinLimits item) (λ x. Unit {0}) u → TypedRegion decls u d → region_values decls u ≤ 131072 → shape_of pp d.kind ≡ Some sh → Small sh
  region_small (of_global w) d sh k h l e = global_small w d sh h k l e
  region_small (of_instance x) d sh k h l e = instance_small x d sh h l e

  record At (r : ℕ) (sh : Shape) : Type 0 where
    below : r < 1024
    small : Small sh

  all_limited : Every (OfRegion (λ so constant item. WithinLimits item) (λ x. Unit {0})) (unit_regions decls)
  all_limited = each_region decls (λ so constant item. WithinLimits item) (λ x. Unit {0}) of_first (λ x c h. every_one (λ (i : InstanceSpec). Unit {0}) (λ i. tt) c.instances) good

  at : (r : ℕ) (sh : Shape) → region_shape pp r ≡ Some sh → At r sh
  at r sh e =
      let a = then_some (slice_get pp.regions r) (λ x. shape_of pp x.variable.kind) sh e in
      let d = mapped_some region_of (slice_get p.regions r) a.0 (sym (slice_get-map region_of p.regions r) ∙ a.1) in
      let u = if_found (TypedRegion decls) (slice_get (unit_regions decls) r) (slice_get p.regions r) d.0 d.1 (each_get (TypedRegion decls) (unit_regions decls) p.regions r checked.regions) in
      let below = slice_get_within (unit_regions decls) r u.0 u.1 in
      let most = regions_few decls good in
      record {
        below = omega (arith, below, most);
        small = region_small u.0 d.0 sh (every_at (OfRegion (λ so constant item. WithinLimits item) (λ x. Unit {0})) (unit_regions decls) r u.0 all_limited u.1) u.2 (region_few decls good r u.0 u.1) (ap (λ (x : seen.Region). shape_of pp x.variable.kind) d.2 ∙ a.2);
      }

  -- ---- tasks

  busy : (t : ℕ) → t < length pp.tasks → (r : ℕ) × Has (programs_of pp t) r
  busy t l =
      let there = there_below p.tasks t l in
      let x = if_found (TypedTask decls) (slice_get (tasks_of decls (configurations_in decls)) t) (slice_get p.tasks t) there.item there.there (each_get (TypedTask decls) (tasks_of decls (configurations_in decls)) p.tasks t checked.tasks) in
      let some = every_at (λ (y : TaskSpec). list_any (region_runs decls y.name.text) (unit_regions decls) ≡ true) (tasks_of decls (configurations_in decls)) t x.0 (tasks_busy decls good) x.1 in
      let r = a_region decls x.0.name.text 0 (unit_regions decls) some in
      let same : programs_of pp t ≡ region_of_task decls x.0.name.text 0 (unit_regions decls) = ap programs_at there.there ∙ x.2.programs in
      (r.0, subst (λ rs. Has rs r.0) (sym same) r.1)

  -- ---- all

  shapes_of : (xs : List seen.Region) → ((r : ℕ) (x : seen.Region) → slice_get xs r ≡ Some x → HasShape pp x.variable.kind) → AllHaveShapes pp xs
  shapes_of [] f = tt
  shapes_of (x ∷ xs) f = (f 0 x refl, shapes_of xs (λ r. f (suc r)))

  region_has : (configured : configurations_in decls ≡ [] → ⊥) (r : ℕ) (x : seen.Region) → slice_get pp.regions r ≡ Some x → HasShape pp x.variable.kind
  region_has configured r x e =
      let h = unfolding_laws.regions decls p (record { nothing = good; configured = configured }) checked r x e in
      let w = (at r h.0 h.1).small in
      record { shape = h.0; unfolds = sym (ap (λ o. o >>= λ y. shape_of pp y.variable.kind) e) ∙ h.1; small = part_small h.0 w.values w.filled }

  pub sized : (configurations_in decls ≡ [] → ⊥) → IsSized pp
  sized configured = record {
    shapes = shapes_of pp.regions (region_has configured);
    small = λ r sh e.
        let a = (at r sh e).small.values in
        let b = size_within sh in
        omega (arith, a, b);
    few = λ r sh e. (at r sh e).below;
    values = λ r sh e. (at r sh e).small.values;
    elements = λ r sh e. let w = (at r sh e).small in few_elements sh w.values w.filled;
    counted = λ r sh e. (at r sh e).small.counted;
    busy = busy;
  }
