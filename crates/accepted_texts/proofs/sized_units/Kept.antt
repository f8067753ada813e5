-- What a checked program keeps of the types of its unit.
use Rattle.std.proofs.Common.{◌≡◌, ◌≤◌, ◌<◌, ℕ, zero, ◌+◌, Bool, true, false, List, [], ◌∷◌, ◌++◌, map, reverse, length, Option, Some, refl, sym, ap, ◌∙◌, subst, arith, append-nil, append_assoc}
use Rattle.std.specs.Prelude.{if◌then◌else◌, flat_map, filter, option_map, slice_get, ◌&&◌, not}
use Rattle.std.specs.Option.{is_some}
use Rattle.std.proofs.lemmas.List.{length-map, map-append, reverse-append}
use Rattle.std.proofs.lemmas.List.Elements.{filter-append}
use Rattle.std.proofs.lemmas.Option.{slice_get-map, slice_get_within}
use Rattle.st_types.specs.declared.st_type.StType.{StType, out-StType}
use Rattle.st_types.specs.declared.st_type.StType.TheOpen.{StType-F}
use Rattle.st_tree.specs.declared.declaration.ClassDecl.{ClassDecl}
use Rattle.st_tree.specs.declared.declaration.FieldGroup.{FieldGroup}
use Rattle.st_tree.specs.declared.declaration.ProgramDecl.{ProgramDecl}
use Rattle.st_tree.specs.declared.declaration.TypeBody.{TypeBody}
use Rattle.st_tree.specs.declared.declaration.TypeBody.TheVariants as body
use Rattle.st_tree.specs.declared.declaration.TypeDecl.{TypeDecl}
use Rattle.st_tree.specs.declared.name.Name.{Name}
use Rattle.st_tree.specs.declared.program.Note.{Note}
use Rattle.st_tree.specs.declared.program.Program.{Program}
use Rattle.st_tree.specs.declared.program.Target.{Target}
use Rattle.st_tree.specs.declared.unit.Decl.{Decl}
use Rattle.st_rules.specs.declared.names.DeclaredField.{DeclaredField}
use Rattle.st_rules.specs.declared.names.DeclaredVariable.{DeclaredVariable}
use Rattle.st_rules.specs.Classes.{classes_in, chain}
use Rattle.st_rules.specs.Scope.{Scope, parts_of, field_list, variables_of, is_instance_sort, is_of_instance}
use Rattle.st_rules.proofs.Booleans.{some-same}
use Rattle.st_unit_rules.specs.declared_names.Declarations.{entries_in, programs_in}
use Rattle.st_unit_rules.specs.declared_names.UnitNames.{unit_names, unit_scope, class_scope, program_scope, class_declared, group_declared, written_above}
use Rattle.st_unit_rules.specs.declared_names.Variables as written
use Rattle.st_unit_rules.specs.declared_names.Variables.{Written, declared_each, member_targets, sections_written, is_kept_written, is_body_written}
use Rattle.st_unit_rules.specs.declared_names.WrittenTypes.{type_written}
use Rattle.st_unit_rules.specs.Checked.{Each, TypedTypeBody, TypedEntry, TypedClass, IsChecked}
use Rattle.st_unit_rules.specs.Limits.{kinds_told, field_kinds, variable_kinds}
use Rattle.st_unit_rules.specs.UnitRefusal.{BreaksNothing}
use Rattle.st_values.specs.Program as seen
use Rattle.st_values.specs.Program.{Variable, Class, TypeEntry, class_at, chain_of, own_of, own_variables, class_variables}
use Rattle.st_values.specs.Shape as shape
use Rattle.st_values.specs.Shape.{fields_of}
use Rattle.st_values.specs.View.{sections_in, groups_in, texts, type_body, type_entry, class_of, program_of}
use Rattle.resolution_order.specs.told_laws.ToldLaws.{Every}
use Rattle.resolution_order.proofs.told_laws.LocalTelling.{local_laws}
use Rattle.accepted_texts.proofs.unfolding_laws.ListLaws.{every_append, every_front, every_back, every_means, if_there, each_get, from_get}
use Rattle.accepted_texts.proofs.unfolding_laws.NumberLaws.{IsStructure, IsEnumeration, IsClass, opened}
use Rattle.accepted_texts.proofs.unfolding_laws.DeclaredLaws.{targets_long, scope, fields_are, members_are, members_say}
use Rattle.accepted_texts.proofs.unfolding_laws.ChainLaws.{chain_there, chain_same, sections_typed, class_seen}
use Rattle.accepted_texts.proofs.unfolding_laws.StepLaws.{structure_typed}
use Rattle.accepted_texts.proofs.sized_units.Counted.{sums, Sums, Keeps}
use Rattle.accepted_texts.proofs.sized_units.Few.{few_classes}
use Rattle.accepted_texts.proofs.sized_units.Sound.{Sound, element_sound, unit_sound}
use Rattle.accepted_texts.proofs.sized_units.Variables.{each_append}
use Rattle.accepted_texts.proofs.sized_units.Shown.{Alike, alike_sums, groups_alike, kept_alike}

-- what the length of a text gives and no rule: an enumeration has so few values
pub record EnumerationsAreFew (decls : List (Decl ℕ)) : Type 0 where
  pub few : (n : ℕ) (t : TypeDecl ℕ) (values : List Name) → slice_get (entries_in decls) n ≡ Some t → t.body ≡ body.Enumeration values → length values ≤ 4_294_967_296

-- what is told of all that a type may contain
pub record PartsAreTold (decls : List (Decl ℕ)) : Type 0 where
  pub fields : (n : ℕ) (t : TypeDecl ℕ) (gs : List (FieldGroup ℕ)) → slice_get (entries_in decls) n ≡ Some t → t.body ≡ body.Structure gs
      → Every (λ (g : FieldGroup ℕ). is_some (type_written (unit_scope decls (unit_names decls)) g.kind) ≡ true) gs
  pub variables : (c : ℕ) (d : ClassDecl ℕ) → slice_get (classes_in decls) c ≡ Some d → Every (λ (v : DeclaredVariable). is_some v.kind ≡ true) (class_declared decls (unit_names decls) c d).variables
  pub programs : (k : ℕ) (d : ProgramDecl ℕ) → slice_get (programs_in decls) k ≡ Some d → Every (λ (v : DeclaredVariable). is_some v.kind ≡ true) (program_scope decls (unit_names decls) d).locals

abbrev pub kind_declared : DeclaredVariable → Option StType
kind_declared v = v.kind

-- ---- variables that are declared, by what is written

module _ (s : Scope) where
  declared_kinds : (ts : List Target) (ws : List Written) → length ts ≡ length ws → map kind_declared (filter is_of_instance (declared_each s ts ws)) ≡ map (λ (w : Written). type_written s w.item.kind) (filter is_kept_written ws)
  declared_kinds [] [] e = refl
  declared_kinds [] (w ∷ ws) e = absurd (omega (arith, e))
  declared_kinds (t ∷ ts) [] e = absurd (omega (arith, e))
  declared_kinds (t ∷ ts) (w ∷ ws) e = by (declared_kinds ts ws (let q : length ts ≡ length ws = omega (arith, e) in q)) (is_instance_sort w.sort && not w.constant)
    where
      by : map kind_declared (filter is_of_instance (declared_each s ts ws)) ≡ map (λ (x : Written). type_written s x.item.kind) (filter is_kept_written ws) → (b : Bool)
          → map kind_declared (if b then written.declared_with s t w ∷ filter is_of_instance (declared_each s ts ws) else filter is_of_instance (declared_each s ts ws))
          ≡ map (λ (x : Written). type_written s x.item.kind) (if b then w ∷ filter is_kept_written ws else filter is_kept_written ws)
      by h true = ap (λ os. type_written s w.item.kind ∷ os) h
      by h false = h

  pub members_kinds : (k l : ℕ) (ws : List Written) → map kind_declared (filter is_of_instance (declared_each s (member_targets s k l ws) ws)) ≡ map (λ (w : Written). type_written s w.item.kind) (filter is_kept_written ws)
  members_kinds k l ws = declared_kinds (member_targets s k l ws) ws (targets_long s k l ws)

-- what a program keeps has types that are told
module _ (decls : List (Decl ℕ)) (all_told : PartsAreTold decls) where
  pub program_told : (k : ℕ) (x : ProgramDecl ℕ) → slice_get (programs_in decls) k ≡ Some x
      → Every (λ (w : Written). is_kept_written w ≡ true → is_some (type_written (program_scope decls (unit_names decls) x) w.item.kind) ≡ true) (sections_written x.sections)
  unfolding program_scope
  program_told k x there =
      let settled = (local_laws.program (unit_scope decls (unit_names decls)) x.sections).settled in
      members_say (program_scope decls (unit_names decls) x) (λ o. is_some o ≡ true) 0 0 (sections_written x.sections)
      (every_means (λ (v : DeclaredVariable). is_some v.kind ≡ true) (λ (v : DeclaredVariable). is_of_instance v ≡ true → is_some v.kind ≡ true) (λ v h i. h) _
      (subst (Every (λ (v : DeclaredVariable). is_some v.kind ≡ true)) (sym settled) (all_told.programs k x there)))

-- ---- what checked declarations are

enumeration_same : (decls : List (Decl ℕ)) (ns : List Name) (b : TypeBody Note) → TypedTypeBody decls (body.Enumeration ns) b → b ≡ body.Enumeration ns
enumeration_same decls ns (body.Enumeration ms) h = ap body.Enumeration h
enumeration_same decls ns (body.Alias t) h = absurd h
enumeration_same decls ns (body.Structure gs) h = absurd h

module _ (decls : List (Decl ℕ)) (p : Program) (checked : IsChecked decls p) (good : BreaksNothing decls) (all_told : PartsAreTold decls) (few : EnumerationsAreFew decls) (locals : List DeclaredVariable) where
  abbrev s : Scope
  s = scope decls locals

  abbrev pp : seen.Program
  pp = program_of p

  entry_seen : (n : ℕ) (x : TypeEntry) (y : _) → slice_get pp.types n ≡ Some x → slice_get p.types n ≡ Some y → type_entry y ≡ x
  entry_seen n x y e k = some-same (sym (slice_get-map type_entry p.types n ∙ ap (option_map type_entry) k) ∙ e)

  -- ---- enumerations and structures

  enumeration_few : (t : StType) (n : ℕ) (x : TypeEntry) (values : List (List ℕ)) → out-StType t ≡ StType-F.Enumeration n → Sound decls t → slice_get pp.types n ≡ Some x → shape.values_of x.body ≡ Some values → length values ≤ 4294967296
  enumeration_few t n x values q g e v =
      let w : IsEnumeration decls n = opened decls t (StType-F.Enumeration n) zero q g.numbered in
      let y = if_there (TypedEntry decls) (slice_get (entries_in decls) n) (slice_get p.types n) w.entry w.there (each_get (TypedEntry decls) (entries_in decls) p.types n checked.types) in
      let b = enumeration_same decls w.values y.0.body (subst (λ z. TypedTypeBody decls z y.0.body) w.is y.2.body) in
      let same = entry_seen n x y.0 e y.1 in
      let these : Some (texts w.values) ≡ Some values = sym (ap (λ z. shape.values_of (type_body z)) b) ∙ (ap (λ (z : TypeEntry). shape.values_of z.body) same ∙ v) in
      let long = ap length (some-same these) in
      let l = length-map w.values (λ (m : Name). m.text) in
      let f = few.few n w.entry w.values w.there w.is in
      omega (arith, long, l, f)

  structure_sums : (t : StType) (n : ℕ) (x : TypeEntry) (vs : List Variable) → out-StType t ≡ StType-F.Structure n → Sound decls t → slice_get pp.types n ≡ Some x → fields_of x.body ≡ Some vs → Sums s pp (Sound decls) vs (field_kinds s n)
  structure_sums t n x vs q g e v =
      let w : IsStructure decls n = opened decls t (StType-F.Structure n) zero q g.numbered in
      let y = if_there (TypedEntry decls) (slice_get (entries_in decls) n) (slice_get p.types n) w.entry w.there (each_get (TypedEntry decls) (entries_in decls) p.types n checked.types) in
      let b = structure_typed decls w.groups y.0.body (subst (λ z. TypedTypeBody decls z y.0.body) w.is y.2.body) in
      let same = entry_seen n x y.0 e y.1 in
      let these : Some (groups_in b.0) ≡ Some vs = sym (ap (λ z. fields_of (type_body z)) b.1) ∙ (ap (λ (z : TypeEntry). fields_of z.body) same ∙ v) in
      let alike = groups_alike decls (unit_sound decls) w.groups b.0 b.2 (all_told.fields n w.entry w.groups w.there w.is) in
      let kinds : map (λ (f : DeclaredField). f.kind) (flat_map (group_declared decls (unit_names decls)) w.groups) ≡ map (λ (f : DeclaredField). f.kind) (field_list (parts_of s n)) = ap (map (λ (f : DeclaredField). f.kind)) (sym (fields_are decls locals n w)) in
      subst (λ us. Sums s pp (Sound decls) us (field_kinds s n)) (some-same these)
      (subst (λ os. Sums s pp (Sound decls) (groups_in b.0) (kinds_told s os)) kinds
      (alike_sums decls s pp (groups_in b.0) _ alike))

  -- ---- classes

  abbrev OwnAlike : ℕ → Type 0
  OwnAlike b = Each (Alike decls) (own_of (class_at pp b)) (map kind_declared (filter is_of_instance (variables_of s b)))

  own_alike : (b : ℕ) → IsClass decls b → OwnAlike b
  own_alike b w =
      let q : 0 + b ≡ b = omega arith in
      let cs = class_scope decls (unit_names decls) b in
      let y = if_there (TypedClass decls (0 + b)) (slice_get (classes_in decls) b) (slice_get p.classes b) w.item w.there (from_get (TypedClass decls) 0 (classes_in decls) p.classes b checked.classes) in
      let typed : TypedClass decls b w.item y.0 = subst (λ c. TypedClass decls c w.item y.0) q y.2 in
      let ws = sections_written (written.sections_in w.item.members) in
      let k = length (filter is_kept_written (written_above decls (unit_names decls) b)) in
      let l = length (filter is_body_written (written_above decls (unit_names decls) b)) in
      let told = members_say cs (λ o. is_some o ≡ true) k l ws
      (every_means (λ (v : DeclaredVariable). is_some v.kind ≡ true) (λ (v : DeclaredVariable). is_of_instance v ≡ true → is_some v.kind ≡ true) (λ v h i. h) _ (all_told.variables b w.item w.there)) in
      let alike = kept_alike decls cs (unit_sound decls) (written.sections_in w.item.members) (sections_in y.0.members) (sections_typed decls b w.item.members y.0.members typed.members) told in
      let kinds = ap (λ vs. map kind_declared (filter is_of_instance vs)) (members_are decls locals b w.item w.there) ∙ members_kinds cs k l ws in
      subst (λ o. Each (Alike decls) (own_of o) (map kind_declared (filter is_of_instance (variables_of s b)))) (sym (class_seen p b y.0 y.1))
      (subst (Each (Alike decls) (own_of (Some (class_of p.classes p.interfaces b y.0)))) (sym kinds) alike)

  along : (cs : List ℕ) → Every (IsClass decls) cs → Each (Alike decls) (own_variables pp cs) (map kind_declared (filter is_of_instance (flat_map (variables_of s) cs)))
  along [] h = tt
  along (c ∷ cs) h =
      let rest = flat_map (variables_of s) cs in
      let e = ap (map kind_declared) (filter-append is_of_instance (variables_of s c) rest) ∙ map-append kind_declared (filter is_of_instance (variables_of s c)) (filter is_of_instance rest) in
      subst (Each (Alike decls) (own_variables pp (c ∷ cs))) (sym e)
      (each_append (Alike decls) (own_of (class_at pp c)) (own_variables pp cs) _ _ (own_alike c h.0) (along cs h.1))

-- the order of classes in a chain does not count
module _ (pp : seen.Program) where
  own_append : (xs ys : List ℕ) → own_variables pp (xs ++ ys) ≡ own_variables pp xs ++ own_variables pp ys
  own_append [] ys = refl
  own_append (x ∷ xs) ys = ap (λ vs. own_of (class_at pp x) ++ vs) (own_append xs ys) ∙ sym (append_assoc (own_of (class_at pp x)) (own_variables pp xs) (own_variables pp ys))

  sums_append : (f : StType → ℕ) (xs ys : List Variable) → sums f (xs ++ ys) ≡ sums f xs + sums f ys
  sums_append f [] ys = omega arith
  sums_append f (x ∷ xs) ys = let k = sums_append f xs ys in omega (arith, k)

  turned : (c : ℕ) (cs : List ℕ) → own_variables pp (reverse (c ∷ cs)) ≡ own_variables pp (reverse cs) ++ (own_of (class_at pp c) ++ [])
  turned c cs = ap (own_variables pp) (reverse-append (c ∷ []) cs) ∙ own_append (reverse cs) (c ∷ [])

  -- a program has no base
  pub program_variables : (c : ℕ) (k : Class) → class_at pp c ≡ Some k → k.chain ≡ c ∷ [] → class_variables pp c ≡ k.own
  unfolding class_variables
  program_variables c k e q =
      ap (λ o. own_variables pp (reverse (chain_of o))) e
      ∙ ap (λ cs. own_variables pp (reverse cs)) q
      ∙ turned c []
      ∙ append-nil (own_of (class_at pp c))
      ∙ ap own_of e

  every_turned : (P : Variable → Type 0) (cs : List ℕ) → Every P (own_variables pp cs) → Every P (own_variables pp (reverse cs))
  every_turned P [] h = tt
  every_turned P (c ∷ cs) h =
      subst (Every P) (sym (turned c cs))
      (every_append P (own_variables pp (reverse cs)) (own_of (class_at pp c) ++ []) (every_turned P cs (every_back P (own_of (class_at pp c)) (own_variables pp cs) h))
      (every_append P (own_of (class_at pp c)) [] (every_front P (own_of (class_at pp c)) (own_variables pp cs) h) tt))

  sums_turned : (f : StType → ℕ) (cs : List ℕ) → sums f (own_variables pp (reverse cs)) ≡ sums f (own_variables pp cs)
  sums_turned f [] = refl
  sums_turned f (c ∷ cs) =
      let a = ap (sums f) (turned c cs) in
      let b = sums_append f (own_variables pp (reverse cs)) (own_of (class_at pp c) ++ []) in
      let d = sums_append f (own_of (class_at pp c)) [] in
      let e = sums_append f (own_of (class_at pp c)) (own_variables pp cs) in
      let k = sums_turned f cs in
      omega (arith, a, b, d, e, k)

  pub sums_reversed : (s : Scope) (G : StType → Type 0) (cs : List ℕ) (kinds : List StType) → Sums s pp G (own_variables pp cs) kinds → Sums s pp G (own_variables pp (reverse cs)) kinds
  sums_reversed s G cs kinds h = record {
    each = every_turned (λ (v : Variable). G v.kind) cs h.each;
    sum = λ f. let a = sums_turned f cs in let b = h.sum f in omega (arith, a, b);
  }

module _ (decls : List (Decl ℕ)) (p : Program) (checked : IsChecked decls p) (good : BreaksNothing decls) (all_told : PartsAreTold decls) (few : EnumerationsAreFew decls) (locals : List DeclaredVariable) where
  class_sums : (c : ℕ) → IsClass decls c → Sums (scope decls locals) (program_of p) (Sound decls) (class_variables (program_of p) c) (variable_kinds (scope decls locals) c)
  unfolding class_variables
  class_sums c w =
      let cs = chain (classes_in decls) c in
      let there = chain_there (classes_in decls) c (slice_get_within (classes_in decls) c w.item w.there) in
      let y = if_there (TypedClass decls (0 + c)) (slice_get (classes_in decls) c) (slice_get p.classes c) w.item w.there (from_get (TypedClass decls) 0 (classes_in decls) p.classes c checked.classes) in
      let same : chain_of (class_at (program_of p) c) ≡ cs = ap chain_of (class_seen p c y.0 y.1) ∙ chain_same decls (classes_in decls) p.classes checked.classes c in
      let a = alike_sums decls (scope decls locals) (program_of p) (own_variables (program_of p) cs) _ (along decls p checked good all_told few locals cs there) in
      subst (λ ds. Sums (scope decls locals) (program_of p) (Sound decls) (own_variables (program_of p) (reverse ds)) (variable_kinds (scope decls locals) c)) (sym same)
      (sums_reversed (program_of p) (scope decls locals) (Sound decls) cs (variable_kinds (scope decls locals) c) a)

  class_below : (c : ℕ) → IsClass decls c → c < 4294967296
  class_below c w =
      let l = slice_get_within (classes_in decls) c w.item w.there in
      let m = few_classes decls good in
      omega (arith, l, m)

  pub keeps : Keeps (scope decls locals) (program_of p) (Sound decls)
  keeps = record {
    element = λ t of low high e g. element_sound decls t of low high e g;
    enumeration = enumeration_few decls p checked good all_told few locals;
    structure = structure_sums decls p checked good all_told few locals;
    instance = λ t c e g. class_sums c (opened decls t (StType-F.Instance c) zero e g.numbered);
    class = λ t c e g. class_below c (opened decls t (StType-F.Instance c) zero e g.numbered);
  }
