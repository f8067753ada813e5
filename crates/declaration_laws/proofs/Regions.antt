-- The type of each region unfolds, and its initial value has the shape.
use Rattle.std.proofs.Common.{◌≡◌, ℕ, Bool, true, List, [], ◌∷◌, Some, sym, ap, ◌∙◌, subst}
use Rattle.std.specs.Prelude.{option_map, slice_get}
use Rattle.std.specs.Option.{is_some}
use Rattle.std.proofs.lemmas.Option.{slice_get-map}
use Rattle.st_tree.specs.declared.configuration.InstanceSpec.{InstanceSpec}
use Rattle.st_tree.specs.declared.declaration.Item.{Item}
use Rattle.st_tree.specs.declared.declaration.SectionSort.{SectionSort}
use Rattle.st_tree.specs.declared.program.Program.{Program as Checked}
use Rattle.st_tree.specs.declared.program.RegionDecl.{RegionDecl}
use Rattle.st_tree.specs.declared.unit.Decl.{Decl}
use Rattle.st_tree.specs.Initial.{initial_of}
use Rattle.st_rules.specs.Scope.{Scope}
use Rattle.st_unit_rules.specs.Checked.{TypedRegion, IsChecked, unit_regions}
use Rattle.st_unit_rules.specs.declared_names.Declarations.{Declaration, an_entry, a_global, an_interface, a_class, a_function, a_program, a_configuration, Region, of_global, of_instance, declarations}
use Rattle.st_unit_rules.specs.declared_names.UnitNames.{unit_names, unit_scope}
use Rattle.st_unit_rules.specs.declared_names.WrittenTypes.{type_written}
use Rattle.st_unit_rules.specs.Initials.{typed_initial}
use Rattle.st_unit_rules.specs.RefusalLaws.{IsGood}
use Rattle.st_unit_rules.specs.VariableRules.{of_globals}
use Rattle.st_values.specs.Program as seen
use Rattle.st_values.specs.Program.{Program}
use Rattle.st_values.specs.Shape.{shape_of}
use Rattle.st_values.specs.Value.{◌>>=◌}
use Rattle.st_values.specs.View.{initial_in, region_of, program_of}
use Rattle.st_values.proofs.ShapeLaws.{mapped_some}
use Rattle.st_meaning.specs.st_frame.Promise.Declarations.{Each, VariableFits}
use Rattle.resolution_order.specs.told_laws.ToldLaws.{Every}
use Rattle.accepted_texts.specs.formed_units.Formed.{FormedItem, IsFormed}
use Rattle.accepted_texts.specs.told_units.Formed.{IsFormedDeclaration}
use Rattle.accepted_texts.proofs.formed_texts.Texts.{formed_text_laws}
use Rattle.accepted_texts.proofs.formed_texts.Units.{FormedPart, all_parts}
use Rattle.accepted_texts.proofs.sized_units.Variables.{given_same}
use Rattle.accepted_texts.proofs.unfolding_laws.ListLaws.{every_at, every_both, every_from, every_one, if_found, each_get}
use Rattle.accepted_texts.proofs.unfolding_laws.RegionLaws.{OfRegion, OfGlobal, all_regions}
use Rattle.accepted_texts.proofs.unfolding_laws.UnfoldingLaws.{unfolding_laws}
use Rattle.constant_laws.specs.Given.{GivenIs}
use Rattle.initial_laws.proofs.Items.{ItemFine, global_fine}
use Rattle.initial_laws.proofs.Knowing.{all_told, all_given, unit_knows, given_is}
use Rattle.initial_laws.proofs.Places.{PlacedAt, all_at, rules_at}
use Rattle.constant_laws.proofs.Starts.{starts}

-- what holds of each of a list
pub each_every : {A : Type 0} (P : A → Type 0) (xs : List A) → Every P xs → Each P xs
each_every P [] h = tt
each_every P (x ∷ xs) h = (h.0, each_every P xs h.1)

module _ (most : ℕ) (decls : List (Decl ℕ)) (p : Checked) (fine : IsFormed most decls) (good : IsGood decls) (checked : IsChecked decls p) where
  abbrev unit : Scope
  unit = unit_scope decls (unit_names decls)

  abbrev Seen : Program
  Seen = program_of p

  -- ---- globals

  abbrev GlobalSays : SectionSort → Bool → Item ℕ → Type 0
  GlobalSays so constant item = ItemFine unit of_globals so item × FormedItem item × (is_some (type_written unit item.kind) ≡ true)

  abbrev Anything : InstanceSpec → Type 0
  Anything x = Unit {0}

  abbrev FormedAt : Declaration → Type 0
  FormedAt d = FormedPart most d × IsFormedDeclaration d

  global_says : (d : Declaration) → PlacedAt decls d → FormedAt d → OfGlobal GlobalSays Anything d
  global_says (a_global g) h f = λ first.
      let own = global_fine decls good.nothing (h.item).regions g (rules_at decls good.nothing (a_global g) h) first in
      (own, f.0, (all_told most decls p fine good.nothing checked).unit.written g.item.kind (f.1).0 own.kind)
  global_says (a_configuration c) h f = every_one Anything (λ x. tt) c.instances
  global_says (an_entry t) h f = tt
  global_says (an_interface d) h f = tt
  global_says (a_class d) h f = tt
  global_says (a_function d) h f = tt
  global_says (a_program d) h f = tt

  regions_say : Every (λ u. OfRegion GlobalSays Anything u) (unit_regions decls)
  regions_say =
      all_regions decls GlobalSays Anything
      (every_both (PlacedAt decls) FormedAt (OfGlobal GlobalSays Anything) global_says (declarations decls) (all_at decls)
      (every_both (FormedPart most) IsFormedDeclaration FormedAt (λ d a b. (a, b)) (declarations decls) (all_parts most decls fine) (formed_text_laws.arguments most decls fine).declared))

  -- ---- what a region begins with

  abbrev Begins : RegionDecl → Type 0
  Begins d = GivenIs Seen d.kind (initial_in d.initial)

  region_begins : (u : Region) (d : RegionDecl) → OfRegion GlobalSays Anything u → TypedRegion decls u d → Begins d
  region_begins (of_global w) d f h =
      let t = type_written unit w.item.kind in
      subst (λ o. GivenIs Seen d.kind o) (sym (given_same unit w.item.kind w.item.initial d.initial h.initial))
      (subst (λ k. GivenIs Seen k (option_map (λ j. typed_initial unit t (initial_of j)) w.item.initial)) (sym h.kind)
      (given_is most decls p fine good.nothing checked unit (unit_knows most decls p fine good.nothing checked) t f.2 w.item.initial f.1.initial f.0.initial))
  region_begins (of_instance x) d f h = subst (λ o. GivenIs Seen d.kind (initial_in o)) (sym h.initial) tt

  region_fits : (r : ℕ) (x : seen.Region) → slice_get Seen.regions r ≡ Some x → VariableFits Seen x.variable
  region_fits r x e =
      let d = mapped_some region_of (slice_get p.regions r) x (sym (slice_get-map region_of p.regions r) ∙ e) in
      let u = if_found (TypedRegion decls) (slice_get (unit_regions decls) r) (slice_get p.regions r) d.0 d.1 (each_get (TypedRegion decls) (unit_regions decls) p.regions r checked.regions) in
      let says = every_at (λ v. OfRegion GlobalSays Anything v) (unit_regions decls) r u.0 regions_say u.1 in
      let given : GivenIs Seen x.variable.kind x.variable.initial = subst (λ (y : seen.Region). GivenIs Seen y.variable.kind y.variable.initial) d.2 (region_begins u.0 d.0 says u.2) in
      let sh = unfolding_laws.regions decls p good checked r x e in
      let shaped : shape_of Seen x.variable.kind ≡ Some sh.0 = sym (ap (λ o. o >>= λ y. shape_of Seen y.variable.kind) e) ∙ sh.1 in
      (sh.0, shaped, starts Seen (all_given most decls p fine good.nothing checked) 65 x.variable.kind sh.0 shaped x.variable.initial given)

  pub regions_fit : Each (λ (x : seen.Region). VariableFits Seen x.variable) Seen.regions
  regions_fit = each_every (λ (x : seen.Region). VariableFits Seen x.variable) Seen.regions (every_from (λ (x : seen.Region). VariableFits Seen x.variable) Seen.regions region_fits)
