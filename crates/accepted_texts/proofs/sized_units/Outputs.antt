-- The variables with addresses of a checked program have just the bits that the rules compare, so its outputs share none.
use Rattle.std.proofs.Common.{◌≡◌, ◌≤◌, ◌<◌, ℕ, suc, ◌+◌, ◌*◌, Bool, true, false, List, [], ◌∷◌, ◌++◌, map, length, Option, Some, None, refl, sym, ap, ◌∙◌, subst, inl, inr, arith, ltb-false}
use Rattle.std.specs.Prelude.{◌⊎◌, if◌then◌else◌, not, ◌&&◌, nat_eq, nat_le, nat_lt, filter, flat_map, option_map, slice_get}
use Rattle.std.specs.Option.{is_some}
use Rattle.std.proofs.lemmas.List.{map-append}
use Rattle.st_types.specs.declared.elem.Elem.{Elem}
use Rattle.st_types.specs.declared.elem.Elem.TheVariants as kind
use Rattle.st_types.specs.declared.st_type.StType.{StType, out-StType}
use Rattle.st_types.specs.declared.st_type.StType.TheVariants as type
use Rattle.st_types.specs.declared.st_type.StType.TheOpen.{StType-F}
use Rattle.st_types.specs.Elem.{bits}
use Rattle.st_tree.specs.Address.{area_of, width_of, index_of, bit_of}
use Rattle.st_tree.specs.declared.address.Area.{Area}
use Rattle.st_tree.specs.declared.address.Area.TheVariants as area
use Rattle.st_tree.specs.declared.address.Width.{Width}
use Rattle.st_tree.specs.declared.address.Width.TheVariants as width
use Rattle.st_tree.specs.declared.configuration.InstanceSpec.{InstanceSpec}
use Rattle.st_tree.specs.declared.declaration.Item.{Item}
use Rattle.st_tree.specs.declared.declaration.ProgramDecl.{ProgramDecl}
use Rattle.st_tree.specs.declared.declaration.Section.{Section}
use Rattle.st_tree.specs.declared.declaration.SectionSort.{SectionSort}
use Rattle.st_tree.specs.declared.declaration.SectionSort.TheVariants as sort
use Rattle.st_tree.specs.declared.path.Step.TheVariants as step
use Rattle.st_tree.specs.declared.program.Program.{Program}
use Rattle.st_tree.specs.declared.program.RegionDecl.{RegionDecl}
use Rattle.st_tree.specs.declared.unit.Decl.{Decl}
use Rattle.st_rules.specs.Classes.{classes_in}
use Rattle.st_rules.specs.Expressions.{told}
use Rattle.st_rules.specs.Scope.{Scope, is_instance_sort}
use Rattle.st_rules.proofs.Booleans.{false≢true, or-neither}
use Rattle.st_unit_rules.specs.Addresses.{Bits, bits_at, bits_of, may_be_located, variable_bits, all_bits}
use Rattle.st_unit_rules.specs.declared_names.Declarations.{Declaration, an_entry, a_global, an_interface, a_class, a_function, a_program, a_configuration, Region, of_global, of_instance, declarations, programs_in}
use Rattle.st_unit_rules.specs.declared_names.UnitNames.{unit_names, program_scope}
use Rattle.st_unit_rules.specs.declared_names.Variables.{Written, item_written, section_written, sections_written, is_kept_written}
use Rattle.st_unit_rules.specs.declared_names.WrittenTypes.{type_written}
use Rattle.st_unit_rules.specs.Checked.{Each, TypedClass, TypedProgram, TypedRegion, GlobalRegion, InstanceRegion, IsChecked, unit_regions}
use Rattle.st_unit_rules.specs.DeclarationRules.{program_bits, region_bits}
use Rattle.st_unit_rules.specs.DeclarationRules as rules
use Rattle.st_unit_rules.specs.UnitRefusal.{BreaksNothing}
use Rattle.st_unit_rules.specs.VariableRules.{Home, of_globals, of_program, may_have_address, width_bits, width_bytes, image_bytes, is_elementary_of_width, has_bit_above_seven, passes_the_image}
use Rattle.st_values.specs.Program as seen
use Rattle.st_values.specs.Program.{Variable, class_variables}
use Rattle.st_values.specs.Value.{Path}
use Rattle.st_values.specs.View.{region_of, program_of, those, is_kept, variables_in}
use Rattle.st_meaning.specs.Call.{class_of_kind}
use Rattle.st_meaning.specs.Operation.{elem_of}
use Rattle.st_meaning.specs.ProcessImage.{Located, located, located_variables, located_in, located_from, located_of, same_area, is_in, is_bit, bytes_in, size_of, first_byte}
use Rattle.st_meaning.specs.st_frame.Footprint.{Has}
use Rattle.mem_layout.specs.loaded_meaning.Outputs.{first_bit, bit_count, has_bit, OutputsAre}
use Rattle.resolution_order.specs.told_laws.ToldLaws.{Every}
use Rattle.accepted_texts.proofs.unfolding_laws.ListLaws.{every_append, every_one, every_means, every_both, every_at, every_mapped, every_joined, if_there, each_get, from_long}
use Rattle.accepted_texts.proofs.unfolding_laws.ChainLaws.{program_seen}
use Rattle.accepted_texts.proofs.unfolding_laws.RegionLaws.{OfRegion, OfGlobal, OfProgram, all_programs, each_program, all_regions, each_region}
use Rattle.accepted_texts.specs.formed_units.Formed as formed
use Rattle.accepted_texts.specs.formed_units.Formed.{IfThere, FormedAddress, FormedItem, FormedVars, IsFormed}
use Rattle.accepted_texts.specs.told_units.Formed.{IsFormedType, IsFormedDeclaration}
use Rattle.accepted_texts.specs.told_units.Told.{AllIsTold}
use Rattle.accepted_texts.proofs.formed_texts.Units.{over, FormedPart, all_parts, formed_unit}
use Rattle.accepted_texts.proofs.sized_units.Addresses.{IsPlaced, ItemPlaced, WrittenPlaced, unit, GlobalPlaced, global_placed, ProgramPlaced, program_placed}
use Rattle.accepted_texts.proofs.sized_units.Bits.{bit_in, bit_once}
use Rattle.accepted_texts.proofs.sized_units.Depths.{type_is}
use Rattle.accepted_texts.proofs.sized_units.Instances.{found_named, IsFound, instances_found}
use Rattle.accepted_texts.proofs.sized_units.Kept.{program_told, program_variables}
use Rattle.accepted_texts.proofs.sized_units.Told.{parts_are_told}
use Rattle.accepted_texts.proofs.sized_units.Variables.{IsOf, kept_of}

-- ---- a variable with an address

-- what holds of each
pub record IsLocated (x : Located) : Type 0 where
  pub formed : FormedAddress x.address
  pub low : bit_of x.address < 8
  pub within : passes_the_image x.address ≡ false
  pub single : is_bit (width_of x.address) ≡ true → x.elem ≡ kind.Bool

abbrev bits_located : Located → Bits
bits_located x = bits_at x.address

-- variables with addresses that have these bits
record Takes (xs : List Located) (bs : List Bits) : Type 0 where
  each : Every IsLocated xs
  same : map bits_located xs ≡ bs

both_take : (xs ys : List Located) (bs cs : List Bits) → Takes xs bs → Takes ys cs → Takes (xs ++ ys) (bs ++ cs)
both_take xs ys bs cs h k = record {
  each = every_append IsLocated xs ys h.each k.each;
  same = map-append bits_located xs ys ∙ (ap (λ us. us ++ map bits_located ys) h.same ∙ ap (λ us. bs ++ us) k.same);
}

one_bit : (e : Elem) → nat_eq (bits e) 1 ≡ true → e ≡ kind.Bool
one_bit kind.Bool h = refl
one_bit kind.Sint h = cc
one_bit kind.Int h = cc
one_bit kind.Dint h = cc
one_bit kind.Lint h = cc
one_bit kind.Usint h = cc
one_bit kind.Uint h = cc
one_bit kind.Udint h = cc
one_bit kind.Ulint h = cc
one_bit kind.Byte h = cc
one_bit kind.Word h = cc
one_bit kind.Dword h = cc
one_bit kind.Lword h = cc
one_bit kind.Time h = cc

bool_of : (t : StType) (o : StType-F StType) → out-StType t ≡ o → is_elementary_of_width 1 (Some t) ≡ true → elem_of t ≡ kind.Bool
bool_of t (StType-F.Elementary e) q h = let s = type_is t (StType-F.Elementary e) q ∙ type.rolls-Elementary e in ap elem_of s ∙ one_bit e (sym (ap (λ u. is_elementary_of_width 1 (Some u)) s) ∙ h)
bool_of t (StType-F.Enumeration k) q h = let s = type_is t (StType-F.Enumeration k) q ∙ type.rolls-Enumeration k in absurd (false≢true (sym (ap (λ u. is_elementary_of_width 1 (Some u)) s) ∙ h))
bool_of t (StType-F.Structure k) q h = let s = type_is t (StType-F.Structure k) q ∙ type.rolls-Structure k in absurd (false≢true (sym (ap (λ u. is_elementary_of_width 1 (Some u)) s) ∙ h))
bool_of t (StType-F.Instance k) q h = let s = type_is t (StType-F.Instance k) q ∙ type.rolls-Instance k in absurd (false≢true (sym (ap (λ u. is_elementary_of_width 1 (Some u)) s) ∙ h))
bool_of t (StType-F.Reference k) q h = let s = type_is t (StType-F.Reference k) q ∙ type.rolls-Reference k in absurd (false≢true (sym (ap (λ u. is_elementary_of_width 1 (Some u)) s) ∙ h))
bool_of t (StType-F.Interface k) q h = let s = type_is t (StType-F.Interface k) q ∙ type.rolls-Interface k in absurd (false≢true (sym (ap (λ u. is_elementary_of_width 1 (Some u)) s) ∙ h))
bool_of t (StType-F.Array low high of) q h = let s = type_is t (StType-F.Array low high of) q ∙ type.rolls-Array low high of in absurd (false≢true (sym (ap (λ u. is_elementary_of_width 1 (Some u)) s) ∙ h))

told_bool : (t : Option StType) → is_some t ≡ true → is_elementary_of_width 1 t ≡ true → elem_of (told t) ≡ kind.Bool
unfolding told
told_bool None i h = absurd (false≢true i)
told_bool (Some t) i h = bool_of t (out-StType t) refl h

single_bool : (t : Option StType) (w : Width) → is_some t ≡ true → is_elementary_of_width (width_bits w) t ≡ true → is_bit w ≡ true → elem_of (told t) ≡ kind.Bool
single_bool t width.Bit i h b = told_bool t i h
single_bool t width.Byte i h b = cc
single_bool t width.Word i h b = cc
single_bool t width.DoubleWord i h b = cc
single_bool t width.LongWord i h b = cc

abbrev AddressFormed : Written → Type 0
AddressFormed w = IfThere FormedAddress w.item.address

-- what may have an address here has bits
record Admits (home : Home) : Type 0 where
  located : (so : SectionSort) (c : Bool) → (may_have_address home so && not c) ≡ true → (may_be_located so && not c) ≡ true

-- what is written has a type that is told
abbrev IsToldIn : Scope → Item ℕ → Type 0
IsToldIn s item = is_some (type_written s item.kind) ≡ true

module _ (s : Scope) (home : Home) (admits : Admits home) where
  one_takes : (q : Path) (v : Variable) (w : Written) → v.address ≡ w.item.address → v.kind ≡ told (type_written s w.item.kind) → WrittenPlaced s home w → AddressFormed w → IsToldIn s w.item → Takes (located q v v.address) (variable_bits w)
  one_takes q v w e k placed formed known = subst (λ o. Takes (located q v o) (variable_bits w)) (sym e) (by w.item.address placed formed)
    where
      nothing : (b : Bool) → Takes [] (if b then bits_of None else [])
      nothing true = record { each = tt; same = refl }
      nothing false = record { each = tt; same = refl }

      by : (o : Option (List ℕ)) → ((text : List ℕ) → o ≡ Some text → IsPlaced (may_have_address home w.sort && not w.constant) (type_written s w.item.kind) text) → IfThere FormedAddress o
          → Takes (located q v o) (if may_be_located w.sort && not w.constant then bits_of o else [])
      by None p f = nothing (may_be_located w.sort && not w.constant)
      by (Some text) p f =
          let i = p text refl in
          let here = admits.located w.sort w.constant i.allowed in
          let there = or-neither (has_bit_above_seven text) (passes_the_image text) i.low i.within in
          let few = ltb-false 7 (bit_of text) i.low in
          let x : Located = record { path = q; elem = elem_of v.kind; address = text } in
          let each : IsLocated x = record { formed = f; low = omega (arith, few); within = i.within; single = λ b. ap elem_of k ∙ single_bool (type_written s w.item.kind) (width_of text) known i.wide b } in
          subst (Takes (x ∷ [])) (sym (ap (λ b. if b then bits_of (Some text) else []) here ∙ ap (λ b. if b then [] else bits_at text ∷ []) there)) (record { each = (each, tt); same = refl })

globals_admit : Admits of_globals
globals_admit = record { located = by }
  where
    by : (so : SectionSort) (c : Bool) → (may_have_address of_globals so && not c) ≡ true → (may_be_located so && not c) ≡ true
    by sort.Global c h = h
    by sort.Var c h = cc
    by sort.Input c h = cc
    by sort.Output c h = cc
    by sort.InOut c h = cc
    by sort.Temp c h = cc
    by sort.External c h = cc

programs_admit : Admits of_program
programs_admit = record { located = by }
  where
    by : (so : SectionSort) (c : Bool) → (may_have_address of_program so && not c) ≡ true → (may_be_located so && not c) ≡ true
    by sort.Var c h = h
    by sort.Global c h = cc
    by sort.Input c h = cc
    by sort.Output c h = cc
    by sort.InOut c h = cc
    by sort.Temp c h = cc
    by sort.External c h = cc

-- what may have an address in a program is kept
kept_placed : (so : SectionSort) (c : Bool) → (may_have_address of_program so && not c) ≡ true → (is_instance_sort so && not c) ≡ true
kept_placed sort.Var c h = h
kept_placed sort.Global c h = cc
kept_placed sort.Input c h = cc
kept_placed sort.Output c h = cc
kept_placed sort.InOut c h = cc
kept_placed sort.Temp c h = cc
kept_placed sort.External c h = cc

-- ---- the variables of a program

module _ (s : Scope) where
  -- what is not kept has no address
  none_takes : (w : Written) → is_kept_written w ≡ false → WrittenPlaced s of_program w → variable_bits w ≡ []
  none_takes w h placed = by w.item.address placed
    where
      nothing : (b : Bool) → (if b then bits_of None else []) ≡ []
      nothing true = refl
      nothing false = refl

      by : (o : Option (List ℕ)) → ((text : List ℕ) → o ≡ Some text → IsPlaced (may_have_address of_program w.sort && not w.constant) (type_written s w.item.kind) text) → (if may_be_located w.sort && not w.constant then bits_of o else []) ≡ []
      by None p = nothing (may_be_located w.sort && not w.constant)
      by (Some text) p = absurd (false≢true (sym h ∙ kept_placed w.sort w.constant (p text refl).allowed))

  abbrev IsKnown : Written → Type 0
  IsKnown w = is_kept_written w ≡ true → IsToldIn s w.item

  variables_take : (r k : ℕ) (vs : List Variable) (ws : List Written) → Each (IsOf s) vs (filter is_kept_written ws) → Every (WrittenPlaced s of_program) ws → Every AddressFormed ws → Every IsKnown ws → Takes (located_variables r k vs) (all_bits ws)
  variables_take r k [] [] h p f t = record { each = tt; same = refl }
  variables_take r k (v ∷ vs) [] h p f t = absurd h
  variables_take r k vs (w ∷ ws) h p f t = by (is_kept_written w) refl vs h (λ j us g. variables_take r j us ws g p.1 f.1 t.1)
    where
      by : (b : Bool) → is_kept_written w ≡ b → (us : List Variable) → Each (IsOf s) us (if b then w ∷ filter is_kept_written ws else filter is_kept_written ws)
          → ((j : ℕ) (zs : List Variable) → Each (IsOf s) zs (filter is_kept_written ws) → Takes (located_variables r j zs) (all_bits ws)) → Takes (located_variables r k us) (variable_bits w ++ all_bits ws)
      by true e [] g rest = absurd g
      by true e (u ∷ us) g rest =
          both_take (located (record { region = r; steps = step.Field k ∷ [] }) u u.address) (located_variables r (suc k) us) (variable_bits w) (all_bits ws)
          (one_takes s of_program programs_admit (record { region = r; steps = step.Field k ∷ [] }) u w g.0.address g.0.kind p.0 f.0 (t.0 e)) (rest (suc k) us g.1)
      by false e us g rest = subst (λ bs. Takes (located_variables r k us) (bs ++ all_bits ws)) (sym (none_takes w e p.0)) (rest k us g)

-- ---- the addresses that are written are formed

module _ (most : ℕ) (decls : List (Decl ℕ)) (all_formed : IsFormed most decls) where
  global_formed : (d : Declaration) → FormedPart most d → OfGlobal (λ so constant item. IfThere FormedAddress item.address) (λ x. Unit {0}) d
  global_formed (a_global g) h = λ q. h.address
  global_formed (a_configuration c) h = every_one (λ (x : InstanceSpec). Unit {0}) (λ x. tt) c.instances
  global_formed (an_entry t) h = tt
  global_formed (an_interface d) h = tt
  global_formed (a_class d) h = tt
  global_formed (a_function d) h = tt
  global_formed (a_program d) h = tt

  abbrev ProgramFormed : ProgramDecl ℕ → Type 0
  ProgramFormed d = Every AddressFormed (sections_written d.sections)

  sections_formed : (ss : List (Section ℕ)) → formed.Every FormedVars ss → Every AddressFormed (sections_written ss)
  sections_formed ss h =
      every_joined AddressFormed section_written ss
      (over FormedVars (λ x. Every AddressFormed (section_written x))
      (λ x k. every_joined AddressFormed (item_written x) x.items
      (over FormedItem (λ item. Every AddressFormed (item_written x item)) (λ item i. every_mapped AddressFormed _ item.names (every_one _ (λ n. i.address) item.names)) x.items k.section.items)) ss h)

  program_formed : (d : Declaration) → FormedPart most d → OfProgram ProgramFormed d
  program_formed (a_program d) h = sections_formed d.sections h.sections
  program_formed (an_entry t) h = tt
  program_formed (a_global g) h = tt
  program_formed (an_interface d) h = tt
  program_formed (a_class d) h = tt
  program_formed (a_function d) h = tt
  program_formed (a_configuration d) h = tt

  regions_formed : Every (OfRegion (λ so constant item. IfThere FormedAddress item.address) (λ x. Unit {0})) (unit_regions decls)
  regions_formed =
      all_regions decls (λ so constant item. IfThere FormedAddress item.address) (λ x. Unit {0})
      (every_means (FormedPart most) (OfGlobal (λ so constant item. IfThere FormedAddress item.address) (λ x. Unit {0})) global_formed (declarations decls) (all_parts most decls all_formed))

  kind_formed : (d : Declaration) → IsFormedDeclaration d → OfGlobal (λ so constant item. IsFormedType item.kind) (λ x. Unit {0}) d
  kind_formed (a_global g) h = λ q. h.0
  kind_formed (a_configuration c) h = every_one (λ (x : InstanceSpec). Unit {0}) (λ x. tt) c.instances
  kind_formed (an_entry t) h = tt
  kind_formed (an_interface d) h = tt
  kind_formed (a_class d) h = tt
  kind_formed (a_function d) h = tt
  kind_formed (a_program d) h = tt

  kinds_formed : Every (OfRegion (λ so constant item. IsFormedType item.kind) (λ x. Unit {0})) (unit_regions decls)
  kinds_formed =
      all_regions decls (λ so constant item. IsFormedType item.kind) (λ x. Unit {0})
      (every_means IsFormedDeclaration (OfGlobal (λ so constant item. IsFormedType item.kind) (λ x. Unit {0})) kind_formed (declarations decls) (formed_unit most decls all_formed).declared)

  programs_formed : Every ProgramFormed (programs_in decls)
  programs_formed = all_programs decls ProgramFormed (every_means (FormedPart most) (OfProgram ProgramFormed) program_formed (declarations decls) (all_parts most decls all_formed))

-- ---- regions

module _ (most : ℕ) (decls : List (Decl ℕ)) (p : Program) (all_formed : IsFormed most decls) (good : BreaksNothing decls) (checked : IsChecked decls p) (all : AllIsTold decls) where
  abbrev pp : seen.Program
  pp = program_of p

  abbrev GlobalFormed : SectionSort → Bool → Item ℕ → Type 0
  GlobalFormed so constant item = IfThere FormedAddress item.address × IsFormedType item.kind

  abbrev GlobalFine : SectionSort → Bool → Item ℕ → Type 0
  GlobalFine so constant item = ItemPlaced (unit decls) of_globals so constant item × IfThere FormedAddress item.address × IsToldIn (unit decls) item

  abbrev RegionFine : Region → Type 0
  RegionFine u = OfRegion GlobalFine (IsFound decls) u

  globals_formed : Every (OfRegion GlobalFormed (λ x. Unit {0})) (unit_regions decls)
  globals_formed =
      every_both (OfRegion (λ so constant item. IfThere FormedAddress item.address) (λ x. Unit {0})) (OfRegion (λ so constant item. IsFormedType item.kind) (λ x. Unit {0})) (OfRegion GlobalFormed (λ x. Unit {0})) join (unit_regions decls)
      (regions_formed most decls all_formed) (kinds_formed most decls all_formed)
    where
      join : (u : Region) → OfRegion (λ so constant item. IfThere FormedAddress item.address) (λ x. Unit {0}) u → OfRegion (λ so constant item. IsFormedType item.kind) (λ x. Unit {0}) u → OfRegion GlobalFormed (λ x. Unit {0}) u
      join (of_global w) h k = (h, k)
      join (of_instance x) h k = tt

  regions_fine : Every RegionFine (unit_regions decls)
  regions_fine =
      every_both (OfRegion (GlobalPlaced decls) (IsFound decls)) (OfRegion GlobalFormed (λ x. Unit {0})) RegionFine join (unit_regions decls)
      (each_region decls (GlobalPlaced decls) (IsFound decls) (global_placed decls) (instances_found decls) good) globals_formed
    where
      join : (u : Region) → OfRegion (GlobalPlaced decls) (IsFound decls) u → OfRegion GlobalFormed (λ x. Unit {0}) u → RegionFine u
      join (of_global w) h k = (h.0, k.0, all.unit.written w.item.kind k.1 h.1)
      join (of_instance x) h k = h

  global_takes : (r : ℕ) (w : Written) (d : RegionDecl) → GlobalRegion decls w d → RegionFine (of_global w) → Takes (located_in pp r (region_of d)) (variable_bits w)
  global_takes r w d h k =
      let x = region_of d in
      let e : located_in pp r x ≡ located (record { region = r; steps = [] }) x.variable x.variable.address =
      ap (λ b. if b then located_variables r 0 (class_variables pp (class_of_kind x.variable.kind)) else located (record { region = r; steps = [] }) x.variable x.variable.address) h.program in
      subst (λ us. Takes us (variable_bits w)) (sym e) (one_takes (unit decls) of_globals globals_admit (record { region = r; steps = [] }) x.variable w h.address h.kind k.0 k.1 k.2)

  instance_takes : (r : ℕ) (x : InstanceSpec) (d : RegionDecl) → InstanceRegion decls x d → RegionFine (of_instance x) → Takes (located_in pp r (region_of d)) (program_bits decls (rules.program_of decls x))
  unfolding told program_scope
  instance_takes r x d h k =
      let found = found_named (λ (y : ProgramDecl ℕ). y.name.text) x.program.text (programs_in decls) k.0 k.1 in
      let y = if_there (TypedProgram decls) (slice_get (programs_in decls) k.0) (slice_get p.programs k.0) found.0 found.1 (each_get (TypedProgram decls) (programs_in decls) p.programs k.0 checked.programs) in
      let class = program_seen p k.0 y.0 y.1 in
      let long = from_long (TypedClass decls) 0 (classes_in decls) p.classes checked.classes in
      let kept = those is_kept (variables_in y.0.sections) in
      let kind : d.kind ≡ type.Instance (length p.classes + k.0) = h.kind ∙ (ap (λ o. told (option_map (λ j. type.Instance (length (classes_in decls) + j)) o)) k.1 ∙ ap (λ n. type.Instance (n + k.0)) (sym long)) in
      let own : class_variables pp (class_of_kind d.kind) ≡ kept = ap (λ t. class_variables pp (class_of_kind t)) kind ∙ (program_variables pp (length p.classes + k.0) class.0 class.1 class.2.chain ∙ class.2.own) in
      let v = (region_of d).variable in
      let e : located_in pp r (region_of d) ≡ located_variables r 0 kept =
      ap (λ b. if b then located_variables r 0 (class_variables pp (class_of_kind d.kind)) else located (record { region = r; steps = [] }) v v.address) h.program ∙ ap (located_variables r 0) own in
      let s = program_scope decls (unit_names decls) found.0 in
      let placed = every_at (ProgramPlaced decls) (programs_in decls) k.0 found.0 (each_program decls (ProgramPlaced decls) (program_placed decls) good) found.1 in
      let formed = every_at (ProgramFormed most decls all_formed) (programs_in decls) k.0 found.0 (programs_formed most decls all_formed) found.1 in
      subst (λ us. Takes us (program_bits decls (rules.program_of decls x))) (sym e)
      (subst (λ o. Takes (located_variables r 0 kept) (program_bits decls o)) (sym found.2)
      (variables_take s r 0 kept (sections_written found.0.sections) (kept_of s found.0.sections y.0.sections y.2.sections) placed formed (program_told decls (parts_are_told decls all) k.0 found.0 found.1)))

  region_takes : (r : ℕ) (u : Region) (d : RegionDecl) → TypedRegion decls u d → RegionFine u → Takes (located_in pp r (region_of d)) (region_bits decls u)
  region_takes r (of_global w) d h k = global_takes r w d h k
  region_takes r (of_instance x) d h k = instance_takes r x d h k

  all_take : (r : ℕ) (us : List Region) (ds : List RegionDecl) → Each (TypedRegion decls) us ds → Every RegionFine us → Takes (located_from pp r (map region_of ds)) (flat_map (region_bits decls) us)
  all_take r [] [] h k = record { each = tt; same = refl }
  all_take r [] (d ∷ ds) h k = absurd h
  all_take r (u ∷ us) [] h k = absurd h
  all_take r (u ∷ us) (d ∷ ds) h k =
      both_take (located_in pp r (region_of d)) (located_from pp (suc r) (map region_of ds)) (region_bits decls u) (flat_map (region_bits decls) us)
      (region_takes r u d h.0 k.0) (all_take (suc r) us ds h.1 k.1)

  program_takes : Takes (located_of pp) (flat_map (region_bits decls) (unit_regions decls))
  program_takes = all_take 0 (unit_regions decls) p.regions checked.regions regions_fine

-- ---- the bits of the image

widths_same : (w : Width) → width_bytes w ≡ bytes_in w
widths_same width.Bit = refl
widths_same width.Byte = refl
widths_same width.Word = refl
widths_same width.DoubleWord = refl
widths_same width.LongWord = refl

image_small : (a : Area) → same_area a area.Output ≡ true → image_bytes a ≡ 256
image_small area.Output h = refl
image_small area.Input h = cc
image_small area.Memory h = cc

first_same : (w : Width) (i j : ℕ) → (w ≡ width.Bit) ⊎ (j ≡ 0) → i * bytes_in w * 8 + (if is_bit w then j else 0) ≡ i * width_bytes w * 8 + j
first_same width.Bit i j h = refl
first_same width.Byte i j (inl e) = cc
first_same width.Word i j (inl e) = cc
first_same width.DoubleWord i j (inl e) = cc
first_same width.LongWord i j (inl e) = cc
first_same width.Byte i j (inr e) = ap (λ k. i * 1 * 8 + k) (sym e)
first_same width.Word i j (inr e) = ap (λ k. i * 2 * 8 + k) (sym e)
first_same width.DoubleWord i j (inr e) = ap (λ k. i * 4 * 8 + k) (sym e)
first_same width.LongWord i j (inr e) = ap (λ k. i * 8 * 8 + k) (sym e)

count_same : (w : Width) → (if is_bit w then 1 else bytes_in w * 8) ≡ width_bits w
count_same width.Bit = refl
count_same width.Byte = refl
count_same width.Word = refl
count_same width.DoubleWord = refl
count_same width.LongWord = refl

bit_same : (n : ℕ) (x : Located) → IsLocated x → has_bit n x ≡ bit_in n (bits_located x)
bit_same n x h =
    let w = width_of x.address in
    let first : first_bit x.address ≡ (bits_located x).first = first_same w (index_of x.address) (bit_of x.address) h.formed in
    let count : bit_count x.address ≡ (bits_located x).count = count_same w in
    ap (λ k. is_in area.Output x && (nat_le k n && nat_lt n (k + bit_count x.address))) first
    ∙ ap (λ k. is_in area.Output x && (nat_le (bits_located x).first n && nat_lt n ((bits_located x).first + k))) count

counts_same : (n : ℕ) (xs : List Located) → Every IsLocated xs → length (filter (has_bit n) xs) ≡ length (filter (bit_in n) (map bits_located xs))
counts_same n [] h = refl
counts_same n (x ∷ xs) h = by (has_bit n x) (bit_in n (bits_located x)) (bit_same n x h.0) (counts_same n xs h.1)
  where
    by : (a b : Bool) → a ≡ b → length (filter (has_bit n) xs) ≡ length (filter (bit_in n) (map bits_located xs))
        → length (if a then x ∷ filter (has_bit n) xs else filter (has_bit n) xs) ≡ length (if b then bits_located x ∷ filter (bit_in n) (map bits_located xs) else filter (bit_in n) (map bits_located xs))
    by true true e k = ap suc k
    by false false e k = k
    by true false e k = cc
    by false true e k = cc

pub every_has : {A : Type 0} (P : A → Type 0) (xs : List A) (x : A) → Every P xs → Has xs x → P x
every_has P [] x h k = absurd k
every_has P (y ∷ xs) x h (inl e) = subst P (sym e) h.0
every_has P (y ∷ xs) x h (inr k) = every_has P xs x h.1 k

ends_within : (x : Located) → IsLocated x → is_in area.Output x ≡ true → first_byte x.address + size_of x.address ≤ 256
ends_within x h out =
    let i = index_of x.address in
    let w = width_of x.address in
    let end = ltb-false (image_bytes (area_of x.address)) (i * width_bytes w + width_bytes w) h.within in
    subst (λ k. i * bytes_in w + bytes_in w ≤ k) (image_small (area_of x.address) out) (subst (λ k. i * k + k ≤ image_bytes (area_of x.address)) (widths_same w) end)

pub outputs_are : (most : ℕ) (decls : List (Decl ℕ)) (p : Program) → IsFormed most decls → BreaksNothing decls → IsChecked decls p → AllIsTold decls → OutputsAre (program_of p)
outputs_are most decls p all_formed good checked all =
    let t = program_takes most decls p all_formed good checked all in
    record {
      within = λ x k out. ends_within x (every_has IsLocated (located_of (program_of p)) x t.each k) out;
      apart = λ n.
          let c = counts_same n (located_of (program_of p)) t.each in
          let e = ap (λ bs. length (filter (bit_in n) bs)) t.same in
          let o = bit_once decls good n in
          omega (arith, c, e, o);
      single = λ x k b. let h = every_has IsLocated (located_of (program_of p)) x t.each k in (h.low, h.single b);
    }
