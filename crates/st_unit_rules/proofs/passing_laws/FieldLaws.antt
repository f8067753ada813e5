-- What stands before a declaration, where those before it were passed one by one.
use Rattle.std.proofs.Common.{◌≡◌, ℕ, List, [], ◌∷◌, ◌++◌, refl, sym, ap, ◌∙◌, append-nil}
use Rattle.std.specs.Prelude.{Bool, true, false, map, flat_map}
use Rattle.std.proofs.lemmas.List.{append_assoc, map-append}
use Rattle.st_tree.specs.declared.declaration.Item.{Item}
use Rattle.st_tree.specs.declared.declaration.Section.{Section}
use Rattle.st_tree.specs.declared.declaration.TypeDecl.{TypeDecl}
use Rattle.st_tree.specs.declared.name.Name.{Name}
use Rattle.st_tree.specs.declared.unit.Decl.{Decl}
use Rattle.st_tree.specs.declared.unit.Decl.TheVariants as declaration
use Rattle.st_unit_rules.specs.declared_names.Declarations.{Declaration, Region, a_class, a_configuration, a_function, a_global, a_program, an_entry, an_interface, configuration_globals, declarations_of, globals_of_item, globals_of_section, instances_of, is_first_configuration, name_of, names_put, regions_of}
use Rattle.st_unit_rules.specs.declared_names.Variables.{Written, item_written, section_written, sections_written}
use Rattle.st_unit_rules.specs.passing_laws.Passing.{At, after_decl, instance_names, with_any, with_each}

abbrev pub texts_of : List Declaration → List (List ℕ)
texts_of ds = map (λ d. (name_of d).text) ds

pub earlier_any : (a : At) (d : Declaration) → (with_any a d).earlier ≡ a.earlier ++ d ∷ []
earlier_any a (an_entry t) = refl
earlier_any a (a_global g) = refl
earlier_any a (an_interface i) = refl
earlier_any a (a_class c) = refl
earlier_any a (a_function f) = refl
earlier_any a (a_program p) = refl
earlier_any a (a_configuration c) = refl

pub names_any : (a : At) (d : Declaration) → (with_any a d).names ≡ a.names ++ (name_of d).text ∷ []
names_any a (an_entry t) = refl
names_any a (a_global g) = refl
names_any a (an_interface i) = refl
names_any a (a_class c) = refl
names_any a (a_function f) = refl
names_any a (a_program p) = refl
names_any a (a_configuration c) = refl

pub regions_any : (a : At) (d : Declaration) → (with_any a d).regions ≡ a.regions ++ regions_of d
regions_any a (an_entry t) = refl
regions_any a (a_global g) = refl
regions_any a (an_interface i) = refl
regions_any a (a_class c) = refl
regions_any a (a_function f) = refl
regions_any a (a_program p) = refl
regions_any a (a_configuration c) = refl

pub earlier_each : (a : At) (ds : List Declaration) → (with_each a ds).earlier ≡ a.earlier ++ ds
earlier_each a [] = sym (append-nil a.earlier)
earlier_each a (d ∷ ds) = earlier_each (with_any a d) ds ∙ ap (λ es. es ++ ds) (earlier_any a d) ∙ append_assoc a.earlier (d ∷ []) ds

pub names_each : (a : At) (ds : List Declaration) → (with_each a ds).names ≡ a.names ++ texts_of ds
names_each a [] = sym (append-nil a.names)
names_each a (d ∷ ds) = names_each (with_any a d) ds ∙ ap (λ ns. ns ++ texts_of ds) (names_any a d) ∙ append_assoc a.names ((name_of d).text ∷ []) (texts_of ds)

pub regions_each : (a : At) (ds : List Declaration) → (with_each a ds).regions ≡ a.regions ++ flat_map regions_of ds
regions_each a [] = sym (append-nil a.regions)
regions_each a (d ∷ ds) = regions_each (with_any a d) ds ∙ ap (λ rs. rs ++ flat_map regions_of ds) (regions_any a d) ∙ append_assoc a.regions (regions_of d) (flat_map regions_of ds)

-- ---- the names that a declaration of the text puts

entry_names : (ts : List (TypeDecl ℕ)) → texts_of (map an_entry ts) ≡ map (λ n. n.text) (map (λ t. t.name) ts)
entry_names [] = refl
entry_names (t ∷ ts) = ap (λ ns. t.name.text ∷ ns) (entry_names ts)

written_names : List Written → List (List ℕ)
written_names ws = map (λ n. n.text) (map (λ w. w.name) ws)

item_names : (s : Section ℕ) (item : Item ℕ) (first : Bool) (ws : List Written) → texts_of (globals_of_item s item first ws) ≡ written_names ws
unfolding written_names
item_names s item first [] = refl
item_names s item first (w ∷ ws) = ap (λ ns. w.name.text ∷ ns) (item_names s item false ws)

names_append : (vs ws : List Written) → written_names (vs ++ ws) ≡ written_names vs ++ written_names ws
unfolding written_names
names_append [] ws = refl
names_append (v ∷ vs) ws = ap (λ ns. v.name.text ∷ ns) (names_append vs ws)

texts_append : (ds es : List Declaration) → texts_of (ds ++ es) ≡ texts_of ds ++ texts_of es
texts_append [] es = refl
texts_append (d ∷ ds) es = ap (λ ns. (name_of d).text ∷ ns) (texts_append ds es)

items_names : (s : Section ℕ) (items : List (Item ℕ)) → texts_of (flat_map (λ item. globals_of_item s item true (item_written s item)) items) ≡ written_names (flat_map (item_written s) items)
unfolding written_names
items_names s [] = refl
items_names s (i ∷ is) =
    texts_append (globals_of_item s i true (item_written s i)) (flat_map (λ item. globals_of_item s item true (item_written s item)) is)
    ∙ ap (λ ns. ns ++ texts_of (flat_map (λ item. globals_of_item s item true (item_written s item)) is)) (item_names s i true (item_written s i))
    ∙ ap (λ ns. written_names (item_written s i) ++ ns) (items_names s is)
    ∙ sym (names_append (item_written s i) (flat_map (item_written s) is))

sections_names : (ss : List (Section ℕ)) → texts_of (flat_map globals_of_section ss) ≡ written_names (sections_written ss)
unfolding written_names
sections_names [] = refl
sections_names (s ∷ ss) =
    texts_append (globals_of_section s) (flat_map globals_of_section ss)
    ∙ ap (λ ns. ns ++ texts_of (flat_map globals_of_section ss)) (items_names s s.items)
    ∙ ap (λ ns. written_names (section_written s) ++ ns) (sections_names ss)
    ∙ sym (names_append (section_written s) (sections_written ss))

-- with those of its instances
pub put_names : (d : Decl ℕ) → texts_of (declarations_of d) ++ map (λ n. n.text) (instance_names d) ≡ map (λ n. n.text) (names_put d)
unfolding written_names
put_names (declaration.Types l ts) = append-nil (texts_of (map an_entry ts)) ∙ entry_names ts
put_names (declaration.Globals s) =
    append-nil (texts_of (globals_of_section s)) ∙ items_names s s.items ∙ ap written_names (sym (append-nil (section_written s)))
put_names (declaration.Interface i) = refl
put_names (declaration.Class c) = refl
put_names (declaration.Function f) = refl
put_names (declaration.Program p) = refl
put_names (declaration.Configuration c) =
    ap (λ ns. c.name.text ∷ (ns ++ map (λ n. n.text) (map (λ x. x.name) c.instances))) (sections_names (configuration_globals c))
    ∙ ap (λ ns. c.name.text ∷ ns) (sym (map-append (λ (n : Name). n.text) (map (λ w. w.name) (sections_written (configuration_globals c))) (map (λ x. x.name) c.instances)))

-- ---- behind a declaration of the text

pub earlier_after : (a : At) (d : Decl ℕ) → (after_decl a d).earlier ≡ a.earlier ++ declarations_of d
earlier_after a d = earlier_each a (declarations_of d)

pub names_after : (a : At) (d : Decl ℕ) → (after_decl a d).names ≡ a.names ++ map (λ n. n.text) (names_put d)
names_after a d =
    ap (λ ns. ns ++ map (λ n. n.text) (instance_names d)) (names_each a (declarations_of d))
    ∙ append_assoc a.names (texts_of (declarations_of d)) (map (λ n. n.text) (instance_names d))
    ∙ ap (λ ns. a.names ++ ns) (put_names d)

pub regions_after : (a : At) (d : Decl ℕ) → (after_decl a d).regions ≡ a.regions ++ (flat_map regions_of (declarations_of d) ++ instances_of (is_first_configuration a.earlier) d)
regions_after a d =
    ap (λ rs. rs ++ instances_of (is_first_configuration a.earlier) d) (regions_each a (declarations_of d))
    ∙ append_assoc a.regions (flat_map regions_of (declarations_of d)) (instances_of (is_first_configuration a.earlier) d)
