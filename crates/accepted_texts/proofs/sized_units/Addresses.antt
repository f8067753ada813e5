-- What the rules say of an address: it may stand there, its type is as wide, and it lies within its image; and of the type of an item.
use Rattle.std.proofs.Common.{◌≡◌, ℕ, Bool, true, false, List, [], ◌++◌, Option, Some, None, sym, ap, ◌∙◌, subst}
use Rattle.std.specs.Prelude.{if◌then◌else◌, not, ◌&&◌, flat_map, option_map}
use Rattle.plc_text.specs.declared.code.Code.TheVariants.{E14}
use Rattle.st_types.specs.declared.st_type.StType.{StType}
use Rattle.st_tree.specs.Address.{width_of}
use Rattle.st_tree.specs.Initial.{initial_of}
use Rattle.st_tree.specs.declared.declaration.Item.{Item}
use Rattle.st_tree.specs.declared.declaration.ProgramDecl.{ProgramDecl}
use Rattle.st_tree.specs.declared.declaration.Section.{Section}
use Rattle.st_tree.specs.declared.declaration.SectionSort.{SectionSort}
use Rattle.st_tree.specs.declared.unit.Decl.{Decl}
use Rattle.st_rules.specs.Scope.{Scope, is_external}
use Rattle.st_rules.proofs.Booleans.{none≢some, some-same}
use Rattle.st_unit_rules.specs.declared_names.Declarations.{Global, Region, item_line}
use Rattle.st_unit_rules.specs.declared_names.UnitNames.{unit_names, unit_scope, program_scope}
use Rattle.st_unit_rules.specs.declared_names.Variables.{Written, item_written, section_written, sections_written, declares_constants}
use Rattle.st_unit_rules.specs.declared_names.WrittenTypes.{type_written, type_faults}
use Rattle.st_unit_rules.specs.Cycles.{inner_cycles}
use Rattle.st_unit_rules.specs.DeclarationRules.{item_too_deep, global_faults, program_faults, program_limits}
use Rattle.st_unit_rules.specs.VariableRules.{Home, of_globals, of_program, may_hold_instances, instance_out_of_place, instance_of_abstract_class, bad_constant, may_have_address, width_bits, address_out_of_place, is_elementary_of_width, address_of_another_width, has_bit_above_seven, bit_above_seven, passes_the_image, address_past_the_image, address_faults, external_faults, initial_if_given, item_faults, section_faults, sections_faults}
use Rattle.resolution_order.specs.told_laws.ToldLaws.{Every}
use Rattle.accepted_texts.proofs.unfolding_laws.CycleLaws.{none_in, none_of_each, not_when}
use Rattle.accepted_texts.proofs.unfolding_laws.ListLaws.{every_one, every_means, every_mapped, every_joined}
use Rattle.accepted_texts.proofs.sized_units.Regions.{not_false}

-- where an address may stand or not, at a variable of this type
pub record IsPlaced (may : Bool) (t : Option StType) (text : List ℕ) : Type 0 where
  pub allowed : may ≡ true
  pub wide : is_elementary_of_width (width_bits (width_of text)) t ≡ true
  pub low : has_bit_above_seven text ≡ false
  pub within : passes_the_image text ≡ false

by_address : (line : ℕ) (may : Bool) (t : Option StType) (o : Option (List ℕ)) → address_faults line may t o ≡ [] → (text : List ℕ) → o ≡ Some text → IsPlaced may t text
by_address line may t None h text e = absurd (none≢some e)
by_address line may t (Some u) h text e =
    let last = none_in _ (address_past_the_image line u) h in
    let bit = none_in _ (bit_above_seven line u) last.0 in
    let two = none_in (address_out_of_place line may) (address_of_another_width line u t) bit.0 in
    let as_wide = is_elementary_of_width (width_bits (width_of u)) t in
    subst (IsPlaced may t) (some-same e)
    (record {
      allowed = not_false may (not_when (not may) E14 line two.0);
      wide = not_false as_wide (not_when (not as_wide) E14 line two.1);
      low = not_when (has_bit_above_seven u) E14 line bit.1;
      within = not_when (passes_the_image u) E14 line last.1;
    })

module _ (s : Scope) (home : Home) where
  -- the address of an item in a section of this sort, of constants or not
  abbrev pub ItemPlaced : SectionSort → Bool → Item ℕ → Type 0
  ItemPlaced so constant item = (text : List ℕ) → item.address ≡ Some text → IsPlaced (may_have_address home so && not constant) (type_written s item.kind) text

  abbrev pub WrittenPlaced : Written → Type 0
  WrittenPlaced w = ItemPlaced w.sort w.constant w.item

  item_placed : (x : Section ℕ) (item : Item ℕ) → item_faults s home x item ≡ [] → ItemPlaced x.sort (declares_constants x) item
  unfolding item_faults
  item_placed x item h =
      let line = item_line item in
      let t = type_written s item.kind in
      let may = may_have_address home x.sort && not (declares_constants x) in
      let a = none_in _ (initial_if_given s t (option_map initial_of item.initial)) h in
      let b = none_in _ (if is_external x.sort then external_faults s item else []) a.0 in
      by_address line may t item.address (none_in _ (address_faults line may t item.address) b.0).1

  -- the type of an item breaks no rule
  pub item_typed : (x : Section ℕ) (item : Item ℕ) → item_faults s home x item ≡ [] → type_faults s item.kind ≡ []
  unfolding item_faults
  item_typed x item h =
      let line = item_line item in
      let t = type_written s item.kind in
      let i = option_map initial_of item.initial in
      let a = none_in _ (initial_if_given s t i) h in
      let b = none_in _ (if is_external x.sort then external_faults s item else []) a.0 in
      let c = none_in _ (address_faults line (may_have_address home x.sort && not (declares_constants x)) t item.address) b.0 in
      let d = none_in _ (if declares_constants x then bad_constant line t i else []) c.0 in
      let e = none_in _ (instance_of_abstract_class line s.classes x.sort t) d.0 in
      (none_in (type_faults s item.kind) (instance_out_of_place line (may_hold_instances home x.sort) t) e.0).0

  section_placed : (x : Section ℕ) → section_faults s home x ≡ [] → Every WrittenPlaced (section_written x)
  section_placed x h =
      let items = none_in _ (flat_map (item_faults s home x) x.items) h in
      every_joined WrittenPlaced (item_written x) x.items
      (every_means (λ item. item_faults s home x item ≡ []) (λ item. Every WrittenPlaced (item_written x item))
      (λ item e. every_mapped WrittenPlaced _ item.names (every_one _ (λ n. item_placed x item e) item.names)) x.items
      (none_of_each (item_faults s home x) x.items items.1))

  pub sections_placed : (ss : List (Section ℕ)) → sections_faults s home ss ≡ [] → Every WrittenPlaced (sections_written ss)
  unfolding sections_faults
  sections_placed ss h =
      every_joined WrittenPlaced section_written ss
      (every_means (λ x. section_faults s home x ≡ []) (λ x. Every WrittenPlaced (section_written x)) section_placed ss
      (none_of_each (section_faults s home) ss h))

module _ (decls : List (Decl ℕ)) where
  abbrev pub unit : Scope
  unit = unit_scope decls (unit_names decls)

  first_good : (before : List Region) (g : Global) → global_faults decls before g ≡ [] → g.first ≡ true → item_faults unit of_globals g.section g.item ≡ []
  first_good before g h q =
      let front = none_in _ _ h in
      let own = none_in _ _ front.0 in
      let first : item_faults unit of_globals g.section g.item ++ item_too_deep decls unit g.item ≡ [] = sym (ap (λ b. if b then item_faults unit of_globals g.section g.item ++ item_too_deep decls unit g.item else []) q) ∙ own.1 in
      (none_in (item_faults unit of_globals g.section g.item) (item_too_deep decls unit g.item) first).0

  -- of a global
  abbrev pub GlobalPlaced : SectionSort → Bool → Item ℕ → Type 0
  GlobalPlaced so constant item = ItemPlaced unit of_globals so constant item × (type_faults unit item.kind ≡ [])

  pub global_placed : (before : List Region) (g : Global) → global_faults decls before g ≡ [] → g.first ≡ true → GlobalPlaced g.section.sort (declares_constants g.section) g.item
  global_placed before g h q =
      let good = first_good before g h q in
      (item_placed unit of_globals g.section g.item good, item_typed unit of_globals g.section g.item good)

  abbrev pub ProgramPlaced : ProgramDecl ℕ → Type 0
  ProgramPlaced d = Every (WrittenPlaced (program_scope decls (unit_names decls) d) of_program) (sections_written d.sections)

  pub program_placed : (d : ProgramDecl ℕ) → program_faults decls d ≡ [] → ProgramPlaced d
  program_placed d h =
      let s = program_scope decls (unit_names decls) d in
      let but_body = none_in _ _ h in
      let but_limits = none_in _ (program_limits decls s d) but_body.0 in
      let but_cycles = none_in _ (inner_cycles (sections_written d.sections)) but_limits.0 in
      let sections = none_in _ (sections_faults s of_program d.sections) but_cycles.0 in
      sections_placed s of_program d.sections sections.1
