-- No two regions have one name.
use Rattle.std.proofs.Common.{◌≡◌, ℕ, Bool, true, false, List, [], ◌∷◌, ◌++◌, map, refl, sym, ap, ◌∙◌, subst}
use Rattle.std.specs.Prelude.{flat_map, if◌then◌else◌}
use Rattle.std.specs.List.{list_any}
use Rattle.std.proofs.lemmas.List.{map-append, append_assoc}
use Rattle.plc_text.specs.Words.{same}
use Rattle.st_tree.specs.declared.configuration.Configuration.{Configuration}
use Rattle.st_tree.specs.declared.configuration.InstanceSpec.{InstanceSpec}
use Rattle.st_tree.specs.declared.declaration.Item.{Item}
use Rattle.st_tree.specs.declared.declaration.Section.{Section}
use Rattle.st_tree.specs.declared.declaration.TypeDecl.{TypeDecl}
use Rattle.st_tree.specs.declared.name.Name.{Name}
use Rattle.st_tree.specs.declared.program.Program.{Program as Checked}
use Rattle.st_tree.specs.declared.program.RegionDecl.{RegionDecl}
use Rattle.st_tree.specs.declared.unit.Decl.{Decl}
use Rattle.st_tree.specs.declared.unit.Decl.TheVariants as declaration
use Rattle.st_rules.proofs.Booleans.{neither}
use Rattle.st_unit_rules.specs.Checked.{Each, TypedRegion, IsChecked, regions_from, unit_regions}
use Rattle.st_unit_rules.specs.declared_names.Declarations.{Declaration, an_entry, a_global, an_interface, a_class, a_function, a_program, a_configuration, Placed, Region, of_global, of_instance, declarations_of, placed, place_each, placed_from, regions_of, instances_of, is_first_configuration, globals_of_item, globals_of_section, configuration_globals}
use Rattle.st_unit_rules.specs.declared_names.Variables.{Written, item_written, section_written, sections_written}
use Rattle.st_unit_rules.specs.DeclarationRules.{sort_faults}
use Rattle.st_unit_rules.specs.NameRules.{is_named, texts, section_names, declared_twice, configuration_name_faults}
use Rattle.st_unit_rules.specs.UnitRefusal.{BreaksNothing}
use Rattle.st_values.specs.View.{region_of, program_of}
use Rattle.resolution_order.specs.told_laws.ToldLaws.{Every}
use Rattle.accepted_texts.proofs.unfolding_laws.CycleLaws.{none_in, none_there}
use Rattle.accepted_texts.proofs.unfolding_laws.ListLaws.{every_append, every_back, every_from, every_front, every_means}
use Rattle.declaration_laws.proofs.Numbered.{text_of, put, not_before, unique_append}
use Rattle.initial_laws.proofs.Names.{Differ, Unique, not_turned, written_texts, section_texts, twice_differ}
use Rattle.program_laws.proofs.Differing.{turned, region_texts}

-- ---- names that are new

none_any : (n : List ℕ) (ns : List (List ℕ)) → list_any (same n) ns ≡ false → Differ n ns
none_any n [] h = tt
none_any n (m ∷ ns) h = let q = neither (same n m) (list_any (same n) ns) h in (q.0, none_any n ns q.1)

-- names of which none stands twice, nor before
record AreNew (before ns : List (List ℕ)) : Type 0 where
  unique : Unique ns
  others : Every (λ n. Differ n before) ns

-- ---- the names of regions, by declarations

abbrev text_in : Region → List ℕ
text_in (of_global w) = w.name.text
text_in (of_instance x) = x.name.text

abbrev declared_texts : List Declaration → List (List ℕ)
declared_texts ds = map text_of ds

-- some of the names
record IsPart (part whole : List (List ℕ)) : Type 1 where
  every : (P : List ℕ → Type 0) → Every P whole → Every P part
  unique : Unique whole → Unique part

written_regions : (w : Written) (b : Bool) (rs : List Region) (ns : List (List ℕ)) → IsPart (map text_in rs) ns → IsPart (map text_in ((if b then [] else of_global w ∷ []) ++ rs)) (w.name.text ∷ ns)
written_regions w true rs ns h = record { every = λ P k. h.every P k.1; unique = λ k. h.unique k.1 }
written_regions w false rs ns h = record { every = λ P k. (k.0, h.every P k.1); unique = λ k. (h.every (λ m. same w.name.text m ≡ false) k.0, h.unique k.1) }

no_region : (n : List ℕ) (rs : List Region) (ns : List (List ℕ)) → IsPart (map text_in rs) ns → IsPart (map text_in rs) (n ∷ ns)
no_region n rs ns h = record { every = λ P k. h.every P k.1; unique = λ k. h.unique k.1 }

-- of declarations some are regions, which have their names
regions_part : (ds : List Declaration) → IsPart (map text_in (flat_map regions_of ds)) (declared_texts ds)
regions_part [] = record { every = λ P k. tt; unique = λ k. tt }
regions_part (a_global g ∷ ds) = written_regions g.written g.written.constant (flat_map regions_of ds) (declared_texts ds) (regions_part ds)
regions_part (an_entry t ∷ ds) = no_region t.name.text (flat_map regions_of ds) (declared_texts ds) (regions_part ds)
regions_part (an_interface i ∷ ds) = no_region i.name.text (flat_map regions_of ds) (declared_texts ds) (regions_part ds)
regions_part (a_class c ∷ ds) = no_region c.name.text (flat_map regions_of ds) (declared_texts ds) (regions_part ds)
regions_part (a_function f ∷ ds) = no_region f.name.text (flat_map regions_of ds) (declared_texts ds) (regions_part ds)
regions_part (a_program p ∷ ds) = no_region p.name.text (flat_map regions_of ds) (declared_texts ds) (regions_part ds)
regions_part (a_configuration c ∷ ds) = no_region c.name.text (flat_map regions_of ds) (declared_texts ds) (regions_part ds)

-- ---- globals have the names of their sections

item_texts : (s : Section ℕ) (item : Item ℕ) (first : Bool) (ws : List Written) → declared_texts (globals_of_item s item first ws) ≡ written_texts ws
item_texts s item first [] = refl
item_texts s item first (w ∷ ws) = ap (λ ns. w.name.text ∷ ns) (item_texts s item false ws)

section_declared : (s : Section ℕ) (items : List (Item ℕ)) → declared_texts (flat_map (λ (item : Item ℕ). globals_of_item s item true (item_written s item)) items) ≡ written_texts (flat_map (item_written s) items)
section_declared s [] = refl
section_declared s (item ∷ items) =
    map-append text_of (globals_of_item s item true (item_written s item)) (flat_map (λ (x : Item ℕ). globals_of_item s x true (item_written s x)) items)
    ∙ (ap (λ ns. ns ++ declared_texts (flat_map (λ (x : Item ℕ). globals_of_item s x true (item_written s x)) items)) (item_texts s item true (item_written s item))
    ∙ (ap (λ ns. written_texts (item_written s item) ++ ns) (section_declared s items) ∙ sym (map-append (λ (w : Written). w.name.text) (item_written s item) (flat_map (item_written s) items))))

sections_declared : (ss : List (Section ℕ)) → declared_texts (flat_map globals_of_section ss) ≡ written_texts (sections_written ss)
sections_declared [] = refl
sections_declared (s ∷ ss) =
    map-append text_of (globals_of_section s) (flat_map globals_of_section ss)
    ∙ (ap (λ ns. ns ++ declared_texts (flat_map globals_of_section ss)) (section_declared s s.items)
    ∙ (ap (λ ns. written_texts (section_written s) ++ ns) (sections_declared ss) ∙ sym (map-append (λ (w : Written). w.name.text) (section_written s) (sections_written ss))))

-- ---- the names that a declaration of the text puts there

abbrev instance_texts : Configuration ℕ → List (List ℕ)
instance_texts c = texts (map (λ (x : InstanceSpec). x.name) c.instances)

-- its own, and those of its instances
abbrev instances_put : Decl ℕ → List (List ℕ)
instances_put (declaration.Configuration c) = instance_texts c
instances_put _ = []

entry_texts : (ts : List (TypeDecl ℕ)) → declared_texts (map an_entry ts) ≡ texts (map (λ (t : TypeDecl ℕ). t.name) ts)
entry_texts [] = refl
entry_texts (t ∷ ts) = ap (λ ns. t.name.text ∷ ns) (entry_texts ts)

one_section : (s : Section ℕ) → sections_written (s ∷ []) ≡ section_written s
one_section s = behind (section_written s)
  where
    behind : (ws : List Written) → ws ++ [] ≡ ws
    behind [] = refl
    behind (w ∷ ws) = ap (λ us. w ∷ us) (behind ws)

put_both : (d : Decl ℕ) (P : List ℕ → Type 0) → Every P (put d) → Every P (declared_texts (declarations_of d)) × Every P (instances_put d)
put_both (declaration.Types l ts) P h = (subst (Every P) (sym (entry_texts ts)) h, tt)
put_both (declaration.Globals s) P h =
    (subst (Every P) (section_texts (sections_written (s ∷ [])) ∙ (ap written_texts (one_section s) ∙ sym (section_declared s s.items))) h, tt)
put_both (declaration.Interface d) P h = (h, tt)
put_both (declaration.Class d) P h = (h, tt)
put_both (declaration.Function d) P h = (h, tt)
put_both (declaration.Program d) P h = (h, tt)
put_both (declaration.Configuration c) P h =
    let ws = sections_written (configuration_globals c) in
    let globals = map (λ (w : Written). w.name) ws in
    let all = subst (Every P) (map-append (λ (n : Name). n.text) globals (map (λ (x : InstanceSpec). x.name) c.instances)) h.1 in (
      (h.0, subst (Every P) (section_texts ws ∙ sym (sections_declared (configuration_globals c))) (every_front P (texts globals) (instance_texts c) all)),
      every_back P (texts globals) (instance_texts c) all,
    )

-- ---- what the rules say of names

-- those of a configuration's instances
abbrev InstancesNew : List (List ℕ) → Declaration → Type 0
InstancesNew before (a_configuration c) = declared_twice (before ++ c.name.text ∷ texts (section_names (configuration_globals c))) (map (λ (x : InstanceSpec). x.name) c.instances) ≡ []
InstancesNew before _ = Unit {0}

record NamesNew (x : Placed) : Type 0 where
  own : is_named (text_of x.declaration) x.before ≡ false
  instances : InstancesNew x.before x.declaration

-- of those that one declaration of the text makes
each_new : (e : List Declaration) (b : List (List ℕ)) (r : List Region) (ds : List Declaration) → Every NamesNew (place_each e b r ds) → AreNew b (declared_texts ds)
each_new e b r [] h = record { unique = tt; others = tt }
each_new e b r (d ∷ ds) h =
    let k = each_new (e ++ d ∷ []) (b ++ text_of d ∷ []) (r ++ regions_of d) ds h.1 in
    record {
      unique = (every_means (λ n. Differ n (b ++ text_of d ∷ [])) (λ n. same (text_of d) n ≡ false) (λ n j. not_turned n (text_of d) (every_back (λ m. same n m ≡ false) b (text_of d ∷ []) j).0) (declared_texts ds) k.others, k.unique);
      others = (none_any (text_of d) b h.0.own, every_means (λ n. Differ n (b ++ text_of d ∷ [])) (λ n. Differ n b) (λ n j. every_front (λ m. same n m ≡ false) b (text_of d ∷ []) j) (declared_texts ds) k.others);
    }

-- its regions, with those of its instances behind them
abbrev own_regions : Bool → Decl ℕ → List Region
own_regions first d = flat_map regions_of (declarations_of d) ++ instances_of first d

instances_named : (xs : List InstanceSpec) → map text_in (map of_instance xs) ≡ texts (map (λ (x : InstanceSpec). x.name) xs)
instances_named [] = refl
instances_named (x ∷ xs) = ap (λ ns. x.name.text ∷ ns) (instances_named xs)

record OwnNew (before : List (List ℕ)) (first : Bool) (d : Decl ℕ) : Type 1 where
  new : AreNew before (map text_in (own_regions first d))
  put-there : (P : List ℕ → Type 0) → Every P (put d) → Every P (map text_in (own_regions first d))

-- without instances
declared_alone : (before : List (List ℕ)) (first : Bool) (d : Decl ℕ) → instances_of first d ≡ [] → AreNew before (declared_texts (declarations_of d)) → OwnNew before first d
declared_alone before first d q h =
    let part = regions_part (declarations_of d) in
    let own = map text_in (flat_map regions_of (declarations_of d)) in
    let is : own ≡ map text_in (own_regions first d) = sym (ap (λ rs. map text_in (flat_map regions_of (declarations_of d) ++ rs)) q ∙ (map-append text_in (flat_map regions_of (declarations_of d)) [] ∙ behind own)) in
    record {
      new = record { unique = subst Unique is (part.unique h.unique); others = subst (Every (λ n. Differ n before)) is (part.every (λ n. Differ n before) h.others) };
      put-there = λ P k. subst (Every P) is (part.every P (put_both d P k).0);
    }
  where
    behind : (ns : List (List ℕ)) → ns ++ [] ≡ ns
    behind [] = refl
    behind (n ∷ ns) = ap (λ ms. n ∷ ms) (behind ns)

-- with the instances of a configuration
with_instances : (before : List (List ℕ)) (c : Configuration ℕ) → InstancesNew before (a_configuration c) → AreNew before (declared_texts (declarations_of (declaration.Configuration c))) → OwnNew before true (declaration.Configuration c)
with_instances before c i h =
    let d = declaration.Configuration c in
    let names = map (λ (x : InstanceSpec). x.name) c.instances in
    let ws = sections_written (configuration_globals c) in
    let here = c.name.text ∷ texts (section_names (configuration_globals c)) in
    let declared = declared_texts (declarations_of d) in
    let front = map text_in (flat_map regions_of (declarations_of d)) in
    let part = regions_part (declarations_of d) in
    let q = twice_differ (before ++ here) names i in
    let all_before = every_front (λ b. Differ b (texts names)) before here q.others in
    let all_here = every_back (λ b. Differ b (texts names)) before here q.others in
    let same_here : here ≡ declared = ap (λ ns. c.name.text ∷ ns) (section_texts ws ∙ sym (sections_declared (configuration_globals c))) in
    let between = part.every (λ b. Differ b (texts names)) (subst (Every (λ b. Differ b (texts names))) same_here all_here) in
    let is : front ++ texts names ≡ map text_in (own_regions true d) = sym (map-append text_in (flat_map regions_of (declarations_of d)) (map of_instance c.instances) ∙ ap (λ ns. front ++ ns) (instances_named c.instances)) in
    record {
      new = record {
        unique = subst Unique is (unique_append front (texts names) (part.unique h.unique) q.unique between);
        others = subst (Every (λ n. Differ n before)) is (every_append (λ n. Differ n before) front (texts names) (part.every (λ n. Differ n before) h.others) (turned before (texts names) all_before));
      };
      put-there = λ P k. let both = put_both d P k in subst (Every P) is (every_append P front (texts names) (part.every P both.0) both.1);
    }

abbrev NoConfiguration : Decl ℕ → Type 0
NoConfiguration (declaration.Configuration c) = ⊥
NoConfiguration _ = Unit {0}

no_instances : (first : Bool) (d : Decl ℕ) → NoConfiguration d → instances_of first d ≡ []
no_instances false d h = refl
no_instances true (declaration.Types l ts) h = refl
no_instances true (declaration.Globals s) h = refl
no_instances true (declaration.Interface d) h = refl
no_instances true (declaration.Class d) h = refl
no_instances true (declaration.Function d) h = refl
no_instances true (declaration.Program d) h = refl
no_instances true (declaration.Configuration c) h = absurd h

other_new : (e : List Declaration) (b : List (List ℕ)) (r : List Region) (d : Decl ℕ) (first : Bool) → NoConfiguration d → Every NamesNew (place_each e b r (declarations_of d)) → OwnNew b first d
other_new e b r d first n h = declared_alone b first d (no_instances first d n) (each_new e b r (declarations_of d) h)

own_new : (e : List Declaration) (b : List (List ℕ)) (r : List Region) (d : Decl ℕ) (first : Bool) → Every NamesNew (place_each e b r (declarations_of d)) → OwnNew b first d
own_new e b r (declaration.Configuration c) true h = with_instances b c h.0.instances (each_new e b r (declarations_of (declaration.Configuration c)) h)
own_new e b r (declaration.Configuration c) false h = declared_alone b false (declaration.Configuration c) refl (each_new e b r (declarations_of (declaration.Configuration c)) h)
own_new e b r (declaration.Types l ts) first h = other_new e b r (declaration.Types l ts) first tt h
own_new e b r (declaration.Globals s) first h = other_new e b r (declaration.Globals s) first tt h
own_new e b r (declaration.Interface d) first h = other_new e b r (declaration.Interface d) first tt h
own_new e b r (declaration.Class d) first h = other_new e b r (declaration.Class d) first tt h
own_new e b r (declaration.Function d) first h = other_new e b r (declaration.Function d) first tt h
own_new e b r (declaration.Program d) first h = other_new e b r (declaration.Program d) first tt h

module _ (decls : List (Decl ℕ)) where
  -- ---- all regions

  from_new : (e : List Declaration) (b : List (List ℕ)) (r : List Region) (ds : List (Decl ℕ)) → Every NamesNew (placed_from e b r ds) → AreNew b (map text_in (regions_from decls e ds))
  from_new e b r [] h = record { unique = tt; others = tt }
  from_new e b r (d ∷ ds) h =
      let first = is_first_configuration e in
      let here = place_each e b r (declarations_of d) in
      let r' = r ++ (flat_map regions_of (declarations_of d) ++ instances_of first d) in
      let later = placed_from (e ++ declarations_of d) (b ++ put d) r' ds in
      let own = own_new e b r d first (every_front NamesNew here later h) in
      let rest = from_new (e ++ declarations_of d) (b ++ put d) r' ds (every_back NamesNew here later h) in
      let rs = regions_from decls (e ++ declarations_of d) ds in
      let front = map text_in (own_regions first d) in
      let behind = map text_in rs in
      let apart = every_means (λ n. Differ n (b ++ put d)) (λ n. Differ n (put d)) (λ n k. every_back (λ m. same n m ≡ false) b (put d) k) behind rest.others in
      let before = every_means (λ n. Differ n (b ++ put d)) (λ n. Differ n b) (λ n k. every_front (λ m. same n m ≡ false) b (put d) k) behind rest.others in
      let between = own.put-there (λ m. Differ m behind) (turned behind (put d) apart) in
      let is : front ++ behind ≡ map text_in (regions_from decls e (d ∷ ds)) =
      sym (map-append text_in (own_regions first d) rs) ∙ ap (map text_in) (append_assoc (flat_map regions_of (declarations_of d)) (instances_of first d) rs) in
      record {
        unique = subst Unique is (unique_append front behind own.new.unique rest.unique between);
        others = subst (Every (λ n. Differ n b)) is (every_append (λ n. Differ n b) front behind own.new.others before);
      }

  module _ (good : BreaksNothing decls) where
    instances_new : (i : ℕ) (x : Placed) (d : Declaration) → sort_faults decls i x d ≡ [] → InstancesNew x.before d
    instances_new i x (a_configuration c) h =
        let a = none_in _ _ h in
        let b = none_in _ _ a.0 in
        let n = none_in (configuration_name_faults x.before c) _ b.0 in
        let m = none_in _ _ n.0 in
        (none_in (declared_twice (x.before ++ c.name.text ∷ texts (section_names (configuration_globals c))) (map (λ (y : InstanceSpec). y.name) c.instances)) _ m.0).0
    instances_new i x (an_entry t) h = tt
    instances_new i x (a_global g) h = tt
    instances_new i x (an_interface d) h = tt
    instances_new i x (a_class d) h = tt
    instances_new i x (a_function f) h = tt
    instances_new i x (a_program p) h = tt

    names_new : Every NamesNew (placed decls)
    names_new =
        every_from NamesNew (placed decls)
        (λ i x e. record { own = not_before decls good i x e; instances = instances_new i x x.declaration (none_there decls good i x e).1 })

    unit_unique : Unique (map text_in (unit_regions decls))
    unfolding placed
    unit_unique = (from_new [] [] [] decls names_new).unique

    one_text : (u : Region) (d : RegionDecl) → TypedRegion decls u d → d.name ≡ text_in u
    one_text (of_global w) d h = h.name
    one_text (of_instance x) d h = h.name

    texts_seen : (us : List Region) (ds : List RegionDecl) → Each (TypedRegion decls) us ds → region_texts (map region_of ds) ≡ map text_in us
    texts_seen [] [] h = refl
    texts_seen [] (d ∷ ds) h = absurd h
    texts_seen (u ∷ us) [] h = absurd h
    texts_seen (u ∷ us) (d ∷ ds) h = ap (λ n. n ∷ region_texts (map region_of ds)) (one_text u d h.0) ∙ ap (λ ns. text_in u ∷ ns) (texts_seen us ds h.1)

    pub regions_unique : (p : Checked) → IsChecked decls p → Unique (region_texts (program_of p).regions)
    regions_unique p checked = subst Unique (sym (texts_seen (unit_regions decls) p.regions checked.regions)) unit_unique
