-- The type of each region of a checked program of a good unit has a shape.
use Rattle.std.proofs.Common.{◌≡◌, ℕ, suc, ◌+◌, false, List, [], map, length, Option, Some, None, refl, sym, ap, ◌∙◌, subst, arith}
use Rattle.std.specs.Prelude.{filter, option_map, slice_get}
use Rattle.std.proofs.lemmas.List.{length-map}
use Rattle.std.proofs.lemmas.Option.{slice_get-map}
use Rattle.st_types.specs.declared.st_type.StType.{StType}
use Rattle.st_types.specs.declared.st_type.StType.TheVariants as type
use Rattle.st_tree.specs.declared.configuration.InstanceSpec.{InstanceSpec}
use Rattle.st_tree.specs.declared.declaration.ProgramDecl.{ProgramDecl}
use Rattle.st_tree.specs.declared.program.Note.{Note}
use Rattle.st_tree.specs.declared.program.Program.{Program}
use Rattle.st_tree.specs.declared.program.RegionDecl.{RegionDecl}
use Rattle.st_tree.specs.declared.unit.Decl.{Decl}
use Rattle.st_rules.specs.Classes.{classes_in}
use Rattle.st_rules.specs.Expressions.{told}
use Rattle.st_rules.specs.Named.{first_place}
use Rattle.st_rules.specs.Scope.{Scope}
use Rattle.st_rules.proofs.ClassLaws.{first_place_within}
use Rattle.st_unit_rules.specs.declared_names.Declarations.{Region, of_global, of_instance, programs_in}
use Rattle.st_unit_rules.specs.declared_names.UnitNames.{unit_names, unit_scope, program_scope, program_locals}
use Rattle.st_unit_rules.specs.declared_names.Variables.{Written, sections_written, is_kept_written}
use Rattle.st_unit_rules.specs.declared_names.WrittenTypes.{type_written}
use Rattle.st_unit_rules.specs.Checked.{TypedClass, TypedProgram, TypedRegion, GlobalRegion, InstanceRegion, IsChecked, unit_regions}
use Rattle.st_unit_rules.specs.Limits.{has_depth_told}
use Rattle.st_unit_rules.specs.UnitRefusal.{BreaksNothing}
use Rattle.st_values.specs.Program as values
use Rattle.st_values.specs.Program.{Class, class_at, own_of}
use Rattle.st_values.specs.Value.{◌>>=◌}
use Rattle.st_values.specs.Shape.{Shape, region_shape, shape_by, shape_of, shape_within}
use Rattle.st_values.specs.View.{region_of, program_of}
use Rattle.st_values.proofs.ShapeLaws.{mapped_some}
use Rattle.resolution_order.specs.told_laws.ToldLaws.{Every}
use Rattle.accepted_texts.specs.unfolding_laws.UnfoldingLaws.{UnfoldingLaws}
use Rattle.accepted_texts.proofs.unfolding_laws.ListLaws.{every_at, every_if_passing, there_below, if_there, if_found, each_get, from_long}
use Rattle.accepted_texts.proofs.unfolding_laws.NumberLaws.{unit_numbered}
use Rattle.accepted_texts.proofs.unfolding_laws.ViewLaws.{kept_shown}
use Rattle.accepted_texts.proofs.unfolding_laws.ChainLaws.{IsProgram, program_seen, variables_every}
use Rattle.accepted_texts.proofs.unfolding_laws.ShapedLaws.{Shaped, ShapedVariable, told_shaped, instance_shaped}
use Rattle.accepted_texts.proofs.unfolding_laws.StepLaws.{written_has}
use Rattle.accepted_texts.proofs.unfolding_laws.DepthLaws.{shaped}
use Rattle.accepted_texts.proofs.unfolding_laws.GoodLaws.{GoodItem, GoodProgram, GoodRegion, programs_good, regions_good}

module _ (decls : List (Decl ℕ)) (p : Program) (checked : IsChecked decls p) where
  abbrev unit : Scope
  unit = unit_scope decls (unit_names decls)

  abbrev Has : ℕ → StType → Type 0
  Has n t = Shaped (shape_within (program_of p) n) t

  -- ---- globals

  global_has : (w : Written) (r : RegionDecl) → GlobalRegion decls w r → GoodItem decls w.item → Has 65 r.kind
  global_has w r h good = subst (Has 65) (sym h.kind) (written_has decls p checked [] 65 (shaped decls p checked [] 65) unit (unit_numbered decls) w.item.kind good)

  -- ---- instances of programs

  module _ (n : ℕ) where
    abbrev OwnShaped : ℕ → Type 0
    OwnShaped c = Every (ShapedVariable (shape_within (program_of p) n)) (own_of (class_at (program_of p) c))

    -- a program's scope is that of the unit with its locals
    program_has : (x : ProgramDecl ℕ) (y : ProgramDecl Note) → TypedProgram decls x y
        → Every (λ (w : Written). has_depth_told (program_scope decls (unit_names decls) x) n (type_written (program_scope decls (unit_names decls) x) w.item.kind) ≡ false) (filter is_kept_written (sections_written x.sections))
        → (k : Class) (c : ℕ) → class_at (program_of p) c ≡ Some k → IsProgram c y k → Has (suc n) (type.Instance c)
    unfolding program_scope
    program_has x y t good k c e is =
        let s = program_scope decls (unit_names decls) x in
        let locals = program_locals unit x.sections in
        let shape = shape_within (program_of p) n in
        let kept = every_if_passing (λ (w : Written). has_depth_told s n (type_written s w.item.kind) ≡ false) is_kept_written (sections_written x.sections) good in
        let own = kept_shown s (λ o. has_depth_told s n o ≡ false) (Has n) (written_has decls p checked locals n (shaped decls p checked locals n) s (unit_numbered decls)) x.sections y.sections t.sections kept in
        let mine : OwnShaped c = subst (λ o. Every (ShapedVariable shape) (own_of o)) (sym e) (subst (Every (ShapedVariable shape)) (sym is.own) own) in
        let along : Every OwnShaped k.chain = subst (Every OwnShaped) (sym is.chain) (mine, tt) in
        let r = instance_shaped (program_of p) shape c k e (variables_every p (ShapedVariable shape) c k e along) in
        record { shape = r.0; is = ap (shape_by (program_of p) (shape_within (program_of p) n)) (type.outs-Instance c) ∙ r.1 }

  instance_at : BreaksNothing decls → (name : List ℕ) (o : Option ℕ) → first_place name (map (λ (d : ProgramDecl ℕ). d.name.text) (programs_in decls)) ≡ o → Has 65 (told (option_map (λ k. type.Instance (length (classes_in decls) + k)) o))
  instance_at good name None e = told_shaped (program_of p) 65 None (λ t q. absurd (cc))
  instance_at good name (Some k) e =
      let a = first_place_within name (map (λ (d : ProgramDecl ℕ). d.name.text) (programs_in decls)) k e in
      let b = length-map (programs_in decls) (λ (d : ProgramDecl ℕ). d.name.text) in
      let x = there_below (programs_in decls) k (omega (arith, a, b)) in
      let y = if_there (TypedProgram decls) (slice_get (programs_in decls) k) (slice_get p.programs k) x.item x.there (each_get (TypedProgram decls) (programs_in decls) p.programs k checked.programs) in
      let good_one = every_at (GoodProgram decls) (programs_in decls) k x.item (programs_good decls good) x.there in
      let class = program_seen p k y.0 y.1 in
      let here : Has 65 (type.Instance (length p.classes + k)) = program_has 64 x.item y.0 y.2 good_one class.0 (length p.classes + k) class.1 class.2 in
      let there : Has 65 (type.Instance (length (classes_in decls) + k)) = subst (λ m. Has 65 (type.Instance (m + k))) (from_long (TypedClass decls) 0 (classes_in decls) p.classes checked.classes) here in
      told_shaped (program_of p) 65 (Some (type.Instance (length (classes_in decls) + k))) (λ t q. subst (Has 65) (let w : type.Instance (length (classes_in decls) + k) ≡ t = cc in w) there)

  instance_has : BreaksNothing decls → (x : InstanceSpec) (r : RegionDecl) → InstanceRegion decls x r → Has 65 r.kind
  instance_has good x r h = subst (Has 65) (sym h.kind) (instance_at good x.program.text (first_place x.program.text (map (λ (d : ProgramDecl ℕ). d.name.text) (programs_in decls))) refl)

  -- ---- all regions

  region_has : BreaksNothing decls → (u : Region) (r : RegionDecl) → GoodRegion decls u → TypedRegion decls u r → Has 65 r.kind
  region_has good (of_global w) r g h = global_has w r h g
  region_has good (of_instance x) r g h = instance_has good x r h

  seen : (r : ℕ) (x : values.Region) (d : RegionDecl) → slice_get (program_of p).regions r ≡ Some x → region_of d ≡ x → Has 65 d.kind → (sh : Shape) × (region_shape (program_of p) r ≡ Some sh)
  seen r x d e q h = (h.shape, ap (λ o. o >>= λ y. shape_of (program_of p) y.variable.kind) (e ∙ ap Some (sym q)) ∙ h.is)

  unfolds : BreaksNothing decls → (r : ℕ) (x : values.Region) → slice_get (program_of p).regions r ≡ Some x → (sh : Shape) × (region_shape (program_of p) r ≡ Some sh)
  unfolds good r x e =
      let d = mapped_some region_of (slice_get p.regions r) x (sym (slice_get-map region_of p.regions r) ∙ e) in
      let u = if_found (TypedRegion decls) (slice_get (unit_regions decls) r) (slice_get p.regions r) d.0 d.1 (each_get (TypedRegion decls) (unit_regions decls) p.regions r checked.regions) in
      seen r x d.0 e d.2 (region_has good u.0 d.0 (every_at (GoodRegion decls) (unit_regions decls) r u.0 (regions_good decls good) u.1) u.2)

pub unfolding_laws : UnfoldingLaws
unfolding_laws = record { regions = λ decls p good checked r x e. unfolds decls p checked good.nothing r x e }
