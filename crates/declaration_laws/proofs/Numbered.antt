-- No two declarations of a unit have one name, so that a class is found by its name; and each class conforms to itself.
use Rattle.std.proofs.Common.{◌≡◌, ℕ, zero, suc, Bool, true, false, List, [], ◌∷◌, ◌++◌, map, Some, refl, sym, ap, ◌∙◌, subst, inl, inr, nat_eq}
use Rattle.std.specs.Prelude.{flat_map, option_map, slice_get, if◌then◌else◌}
use Rattle.std.specs.List.{list_any}
use Rattle.std.proofs.lemmas.Bool.{eq-eqb}
use Rattle.plc_text.specs.Words.{same}
use Rattle.plc_text.specs.declared.code.Code.TheVariants.{E04}
use Rattle.st_types.specs.declared.st_type.StType.TheVariants as type
use Rattle.st_tree.specs.declared.declaration.ClassDecl.{ClassDecl}
use Rattle.st_tree.specs.declared.declaration.InterfaceDecl.{InterfaceDecl}
use Rattle.st_tree.specs.declared.declaration.Item.{Item}
use Rattle.st_tree.specs.declared.declaration.ProgramDecl.{ProgramDecl}
use Rattle.st_tree.specs.declared.declaration.Section.{Section}
use Rattle.st_tree.specs.declared.declaration.TypeDecl.{TypeDecl}
use Rattle.st_tree.specs.declared.name.Name.{Name}
use Rattle.st_tree.specs.declared.program.Note.{Note}
use Rattle.st_tree.specs.declared.program.Program.{Program as Checked}
use Rattle.st_tree.specs.declared.unit.Decl.{Decl}
use Rattle.st_tree.specs.declared.unit.Decl.TheVariants as declaration
use Rattle.st_rules.specs.Chains.{is_among}
use Rattle.st_rules.specs.Classes.{classes_in}
use Rattle.st_rules.specs.Named.{first_place}
use Rattle.st_rules.proofs.Booleans.{neither, none≢some, some-same, or-first}
use Rattle.st_rules.proofs.InterfaceLaws.{conforms_to_itself}
use Rattle.st_unit_rules.specs.Checked.{Each, EachFrom, TypedClass, TypedProgram, IsChecked}
use Rattle.st_unit_rules.specs.declared_names.Declarations.{Declaration, an_entry, a_class, a_program, Region, Placed, declarations_of, declarations, placed, place_each, placed_from, regions_of, instances_of, is_first_configuration, globals_of_item, globals_of_section, configuration_globals, name_of, names_put, programs_in}
use Rattle.st_unit_rules.specs.declared_names.Variables.{Written, item_written, section_written, sections_written}
use Rattle.st_unit_rules.specs.NameRules.{is_named, declared_before}
use Rattle.st_unit_rules.specs.UnitRefusal.{BreaksNothing, faults_of}
use Rattle.st_unit_rules.specs.DeclarationRules.{declaration_faults}
use Rattle.st_values.specs.Program.{Class, class_at, class_names, class_number, conforms}
use Rattle.st_values.specs.View.{classes_from, programs_from, program_of}
use Rattle.st_meaning.specs.st_frame.Footprint.{Has}
use Rattle.resolution_order.specs.told_laws.ToldLaws.{Every}
use Rattle.accepted_texts.proofs.sized_units.Outputs.{every_has}
use Rattle.accepted_texts.proofs.unfolding_laws.CycleLaws.{none_in, not_when, all_placed}
use Rattle.accepted_texts.proofs.unfolding_laws.ListLaws.{every_append, every_both, every_flat, every_from, every_front, every_joined, every_mapped, every_means}
use Rattle.class_laws.proofs.Above.{at_number, conforms_class, back}
use Rattle.initial_laws.proofs.Fields.{has_front, has_back}
use Rattle.initial_laws.proofs.Members.{all_has, mapped_has}
use Rattle.initial_laws.proofs.Names.{same_self, not_turned, Differ, Unique}
use Rattle.initial_laws.proofs.Places.{sorts_from}

-- ---- each before those behind it

abbrev pub Pairs : {X : Type 0} → (X → X → Type 0) → List X → Type 0
Pairs R [] = Unit {0}
Pairs R (x ∷ xs) = Every (R x) xs × Pairs R xs

pairs_append : {X : Type 0} (R : X → X → Type 0) (xs ys : List X) → Pairs R xs → Pairs R ys → Every (λ x. Every (R x) ys) xs → Pairs R (xs ++ ys)
pairs_append R [] ys a b c = b
pairs_append R (x ∷ xs) ys a b c = (every_append (R x) xs ys a.0 c.0, pairs_append R xs ys a.1 b c.1)

pub pairs_back : {X : Type 0} (R : X → X → Type 0) (xs ys : List X) → Pairs R (xs ++ ys) → Pairs R ys
pairs_back R [] ys h = h
pairs_back R (x ∷ xs) ys h = pairs_back R xs ys h.1

pairs_map : {X Y : Type 0} (R : Y → Y → Type 0) (f : X → Y) (xs : List X) → Pairs (λ x y. R (f x) (f y)) xs → Pairs R (map f xs)
pairs_map R f [] h = tt
pairs_map R f (x ∷ xs) h = (every_mapped (R (f x)) f xs h.0, pairs_map R f xs h.1)

-- ---- the names before a declaration

abbrev pub text_of : Declaration → List ℕ
text_of d = (name_of d).text

abbrev pub put : Decl ℕ → List (List ℕ)
put d = map (λ (n : Name). n.text) (names_put d)

-- the names that there are go on being there
abbrev Keeps : List (List ℕ) → Placed → Type 0
Keeps b x = (n : List ℕ) → Has b n → Has x.before n

abbrev Follows : Placed → Placed → Type 0
Follows x y = Has y.before (text_of x.declaration)

each_keeps : (e : List Declaration) (b : List (List ℕ)) (r : List Region) (ds : List Declaration) → Every (Keeps b) (place_each e b r ds)
each_keeps e b r [] = tt
each_keeps e b r (d ∷ ds) =
    ((λ n h. h), every_means (Keeps (b ++ text_of d ∷ [])) (Keeps b) (λ x k n h. k n (has_front b (text_of d ∷ []) n h)) (place_each (e ++ d ∷ []) (b ++ text_of d ∷ []) (r ++ regions_of d) ds) (each_keeps (e ++ d ∷ []) (b ++ text_of d ∷ []) (r ++ regions_of d) ds))

each_follows : (e : List Declaration) (b : List (List ℕ)) (r : List Region) (ds : List Declaration) → Pairs Follows (place_each e b r ds)
each_follows e b r [] = tt
each_follows e b r (d ∷ ds) = (
  every_means (Keeps (b ++ text_of d ∷ [])) (λ y. Has y.before (text_of d)) (λ y k. k (text_of d) (has_back b (text_of d ∷ []) (text_of d) (inl refl))) (place_each (e ++ d ∷ []) (b ++ text_of d ∷ []) (r ++ regions_of d) ds) (each_keeps (e ++ d ∷ []) (b ++ text_of d ∷ []) (r ++ regions_of d) ds),
  each_follows (e ++ d ∷ []) (b ++ text_of d ∷ []) (r ++ regions_of d) ds,
)

each_has : (Q : Declaration → Type 0) (e : List Declaration) (b : List (List ℕ)) (r : List Region) (ds : List Declaration) → Every Q ds → Every (λ (x : Placed). Q x.declaration) (place_each e b r ds)
each_has Q e b r [] h = tt
each_has Q e b r (d ∷ ds) h = (h.0, each_has Q (e ++ d ∷ []) (b ++ text_of d ∷ []) (r ++ regions_of d) ds h.1)

-- ---- what a declaration of the text puts there

abbrev IsPut : List (List ℕ) → Declaration → Type 0
IsPut ns d = Has ns (text_of d)

item_put : (ns : List (List ℕ)) (s : Section ℕ) (item : Item ℕ) (first : Bool) (ws : List Written) → Every (λ (w : Written). Has ns w.name.text) ws → Every (IsPut ns) (globals_of_item s item first ws)
item_put ns s item first [] h = tt
item_put ns s item first (w ∷ ws) h = (h.0, item_put ns s item false ws h.1)

section_put : (ns : List (List ℕ)) (s : Section ℕ) → Every (λ (w : Written). Has ns w.name.text) (section_written s) → Every (IsPut ns) (globals_of_section s)
section_put ns s h =
    every_joined (IsPut ns) (λ (item : Item ℕ). globals_of_item s item true (item_written s item)) s.items
    (every_means (λ (item : Item ℕ). Every (λ (w : Written). Has ns w.name.text) (item_written s item)) (λ (item : Item ℕ). Every (IsPut ns) (globals_of_item s item true (item_written s item))) (λ item k. item_put ns s item true (item_written s item) k) s.items
    (every_flat (λ (w : Written). Has ns w.name.text) (item_written s) s.items h))

sections_put : (ns : List (List ℕ)) (ss : List (Section ℕ)) → Every (λ (w : Written). Has ns w.name.text) (sections_written ss) → Every (IsPut ns) (flat_map globals_of_section ss)
sections_put ns ss h =
    every_joined (IsPut ns) globals_of_section ss
    (every_means (λ (s : Section ℕ). Every (λ (w : Written). Has ns w.name.text) (section_written s)) (λ (s : Section ℕ). Every (IsPut ns) (globals_of_section s)) (section_put ns) ss
    (every_flat (λ (w : Written). Has ns w.name.text) section_written ss h))

written_texts : (ws : List Written) → Every (λ (w : Written). Has (map (λ (n : Name). n.text) (map (λ (w : Written). w.name) ws)) w.name.text) ws
written_texts ws =
    every_means (Has ws) (λ (w : Written). Has (map (λ (n : Name). n.text) (map (λ (w : Written). w.name) ws)) w.name.text)
    (λ w h. mapped_has (λ (n : Name). n.text) (map (λ (w : Written). w.name) ws) w.name (mapped_has (λ (w : Written). w.name) ws w h)) ws (all_has ws)

entry_texts : (ts : List (TypeDecl ℕ)) → Every (λ (t : TypeDecl ℕ). Has (map (λ (n : Name). n.text) (map (λ (t : TypeDecl ℕ). t.name) ts)) t.name.text) ts
entry_texts ts =
    every_means (Has ts) (λ (t : TypeDecl ℕ). Has (map (λ (n : Name). n.text) (map (λ (t : TypeDecl ℕ). t.name) ts)) t.name.text)
    (λ t h. mapped_has (λ (n : Name). n.text) (map (λ (t : TypeDecl ℕ). t.name) ts) t.name (mapped_has (λ (t : TypeDecl ℕ). t.name) ts t h)) ts (all_has ts)

one_section : (s : Section ℕ) → Every (λ (w : Written). Has (put (declaration.Globals s)) w.name.text) (section_written s)
one_section s = every_front (λ (w : Written). Has (put (declaration.Globals s)) w.name.text) (section_written s) [] (written_texts (sections_written (s ∷ [])))

puts : (d : Decl ℕ) → Every (IsPut (put d)) (declarations_of d)
puts (declaration.Types l ts) = every_mapped (IsPut (put (declaration.Types l ts))) an_entry ts (entry_texts ts)
puts (declaration.Globals s) = section_put (put (declaration.Globals s)) s (one_section s)
puts (declaration.Interface d) = (inl refl, tt)
puts (declaration.Class d) = (inl refl, tt)
puts (declaration.Function d) = (inl refl, tt)
puts (declaration.Program d) = (inl refl, tt)
puts (declaration.Configuration c) =
    let ws = sections_written (configuration_globals c) in
    let ns = put (declaration.Configuration c) in (
      inl refl,
      sections_put ns (configuration_globals c)
          (every_means (λ (w : Written). Has ws w) (λ (w : Written). Has ns w.name.text)
          (λ w h. inr (mapped_has (λ (n : Name). n.text) _ w.name (has_front (map (λ (w : Written). w.name) ws) _ w.name (mapped_has (λ (w : Written). w.name) ws w h)))) ws (all_has ws)),
    )

-- ---- all declarations

from_keeps : (e : List Declaration) (b : List (List ℕ)) (r : List Region) (ds : List (Decl ℕ)) → Every (Keeps b) (placed_from e b r ds)
from_keeps e b r [] = tt
from_keeps e b r (d ∷ ds) =
    let r' = r ++ (flat_map regions_of (declarations_of d) ++ instances_of (is_first_configuration e) d) in
    every_append (Keeps b) (place_each e b r (declarations_of d)) (placed_from (e ++ declarations_of d) (b ++ put d) r' ds) (each_keeps e b r (declarations_of d))
    (every_means (Keeps (b ++ put d)) (Keeps b) (λ x k n h. k n (has_front b (put d) n h)) (placed_from (e ++ declarations_of d) (b ++ put d) r' ds) (from_keeps (e ++ declarations_of d) (b ++ put d) r' ds))

from_follows : (e : List Declaration) (b : List (List ℕ)) (r : List Region) (ds : List (Decl ℕ)) → Pairs Follows (placed_from e b r ds)
from_follows e b r [] = tt
from_follows e b r (d ∷ ds) =
    let r' = r ++ (flat_map regions_of (declarations_of d) ++ instances_of (is_first_configuration e) d) in
    let rest = placed_from (e ++ declarations_of d) (b ++ put d) r' ds in
    pairs_append Follows (place_each e b r (declarations_of d)) rest (each_follows e b r (declarations_of d)) (from_follows (e ++ declarations_of d) (b ++ put d) r' ds)
    (every_means (λ (x : Placed). Has (put d) (text_of x.declaration)) (λ (x : Placed). Every (Follows x) rest)
    (λ x h. every_means (Keeps (b ++ put d)) (Follows x) (λ y k. k (text_of x.declaration) (has_back b (put d) (text_of x.declaration) h)) rest (from_keeps (e ++ declarations_of d) (b ++ put d) r' ds))
    (place_each e b r (declarations_of d)) (each_has (IsPut (put d)) e b r (declarations_of d) (puts d)))

none_same : (n : List ℕ) (ns : List (List ℕ)) (m : List ℕ) → list_any (same n) ns ≡ false → Has ns m → same n m ≡ false
none_same n [] m h k = absurd k
none_same n (x ∷ ns) m h (inl e) = ap (same n) e ∙ (neither (same n x) (list_any (same n) ns) h).0
none_same n (x ∷ ns) m h (inr k) = none_same n ns m (neither (same n x) (list_any (same n) ns) h).1 k

abbrev pub Differs : Declaration → Declaration → Type 0
Differs d e = same (text_of d) (text_of e) ≡ false

module _ (decls : List (Decl ℕ)) (good : BreaksNothing decls) where
  abbrev pub NotBefore : Placed → Type 0
  NotBefore x = is_named (text_of x.declaration) x.before ≡ false

  pub not_before : (i : ℕ) (x : Placed) → slice_get (placed decls) i ≡ Some x → NotBefore x
  unfolding declaration_faults
  not_before i x e =
      let all = sym (ap (faults_of decls i) e) ∙ good.good i in
      let a = none_in _ _ all in
      let b = none_in _ _ a.0 in
      let c = none_in _ _ b.0 in
      let d = none_in (declared_before x.before (name_of x.declaration)) _ c.0 in
      not_when (is_named (text_of x.declaration) x.before) E04 (name_of x.declaration).line d.0

  pairs_differ : (xs : List Placed) → Pairs Follows xs → Every NotBefore xs → Pairs (λ (x y : Placed). Differs x.declaration y.declaration) xs
  pairs_differ [] f n = tt
  pairs_differ (x ∷ xs) f n = (
    every_both (Follows x) NotBefore (λ (y : Placed). Differs x.declaration y.declaration) (λ y a b. not_turned (text_of y.declaration) (text_of x.declaration) (none_same (text_of y.declaration) y.before (text_of x.declaration) b a)) xs f.0 n.1,
    pairs_differ xs f.1 n.1,
  )

  pub all_differ : Pairs Differs (declarations decls)
  unfolding placed
  all_differ =
      subst (Pairs Differs) (all_placed decls)
      (pairs_map Differs (λ (x : Placed). x.declaration) (placed decls) (pairs_differ (placed decls) (from_follows [] [] [] decls) (every_from NotBefore (placed decls) not_before)))

-- ---- classes and programs

abbrev class_texts : List (Decl ℕ) → List (List ℕ)
class_texts ds = map (λ (d : ClassDecl ℕ). d.name.text) (classes_in ds)

abbrev program_texts : List (Decl ℕ) → List (List ℕ)
program_texts ds = map (λ (d : ProgramDecl ℕ). d.name.text) (programs_in ds)

record NamesDiffer (ds : List (Decl ℕ)) : Type 0 where
  classes : Unique (class_texts ds)
  programs : Unique (program_texts ds)
  between : Every (λ c. Differ c (program_texts ds)) (class_texts ds)

names_differ : (ds : List (Decl ℕ)) → Pairs Differs (flat_map declarations_of ds) → NamesDiffer ds
names_differ [] h = record { classes = tt; programs = tt; between = tt }
names_differ (declaration.Class d ∷ ds) h =
    let r = names_differ ds h.1 in
    let all = sorts_from (Differs (a_class d)) ds h.0 in
    record {
      classes = (every_mapped (λ m. same d.name.text m ≡ false) (λ (c : ClassDecl ℕ). c.name.text) (classes_in ds) all.classes, r.classes);
      programs = r.programs;
      between = (every_mapped (λ m. same d.name.text m ≡ false) (λ (c : ProgramDecl ℕ). c.name.text) (programs_in ds) all.programs, r.between);
    }
names_differ (declaration.Program d ∷ ds) h =
    let r = names_differ ds h.1 in
    let all = sorts_from (Differs (a_program d)) ds h.0 in
    let turned = every_means (λ c. same d.name.text c ≡ false) (λ c. same c d.name.text ≡ false) (λ c q. not_turned d.name.text c q) (class_texts ds) (every_mapped (λ m. same d.name.text m ≡ false) (λ (c : ClassDecl ℕ). c.name.text) (classes_in ds) all.classes) in
    record {
      classes = r.classes;
      programs = (every_mapped (λ m. same d.name.text m ≡ false) (λ (c : ProgramDecl ℕ). c.name.text) (programs_in ds) all.programs, r.programs);
      between = every_both (λ c. same c d.name.text ≡ false) (λ c. Differ c (program_texts ds)) (λ c. Differ c (d.name.text ∷ program_texts ds)) (λ c a b. (a, b)) (class_texts ds) turned r.between;
    }
names_differ (declaration.Types l ts ∷ ds) h = let r = names_differ ds (pairs_back Differs (map an_entry ts) (flat_map declarations_of ds) h) in record { classes = r.classes; programs = r.programs; between = r.between }
names_differ (declaration.Globals s ∷ ds) h = let r = names_differ ds (pairs_back Differs (globals_of_section s) (flat_map declarations_of ds) h) in record { classes = r.classes; programs = r.programs; between = r.between }
names_differ (declaration.Interface d ∷ ds) h = let r = names_differ ds h.1 in record { classes = r.classes; programs = r.programs; between = r.between }
names_differ (declaration.Function d ∷ ds) h = let r = names_differ ds h.1 in record { classes = r.classes; programs = r.programs; between = r.between }
names_differ (declaration.Configuration c ∷ ds) h = let r = names_differ ds (pairs_back Differs (flat_map globals_of_section (configuration_globals c)) (flat_map declarations_of ds) h.1) in record { classes = r.classes; programs = r.programs; between = r.between }

pub unique_append : (as' bs : List (List ℕ)) → Unique as' → Unique bs → Every (λ a. Differ a bs) as' → Unique (as' ++ bs)
unique_append [] bs u v w = v
unique_append (a ∷ as') bs u v w = (every_append (λ m. same a m ≡ false) as' bs u.0 w.0, unique_append as' bs u.1 v w.1)

place_of : (ns : List (List ℕ)) (c : ℕ) (n : List ℕ) → Unique ns → slice_get ns c ≡ Some n → first_place n ns ≡ Some c
place_of [] c n u e = absurd (none≢some e)
place_of (m ∷ ns) zero n u e = ap (λ b. if b then Some 0 else option_map suc (first_place n ns)) (same_self m n (some-same e))
place_of (m ∷ ns) (suc c) n u e =
    let d = every_has (λ x. same m x ≡ false) ns n u.0 (get_has ns c n e) in
    ap (λ b. if b then Some 0 else option_map suc (first_place n ns)) d ∙ ap (option_map suc) (place_of ns c n u.1 e)
  where
    get_has : (xs : List (List ℕ)) (i : ℕ) (x : List ℕ) → slice_get xs i ≡ Some x → Has xs x
    get_has [] i x q = absurd (none≢some q)
    get_has (y ∷ xs) zero x q = inl (sym (some-same q))
    get_has (y ∷ xs) (suc i) x q = inr (get_has xs i x q)

module _ (decls : List (Decl ℕ)) (good : BreaksNothing decls) (p : Checked) (checked : IsChecked decls p) where
  class_names_seen : (n : ℕ) (xs : List (ClassDecl ℕ)) (ys : List (ClassDecl Note)) (cs : List (ClassDecl Note)) (is : List (InterfaceDecl Note)) (rest : List Class) → EachFrom (TypedClass decls) n xs ys → class_names (classes_from cs is n ys ++ rest) ≡ map (λ (d : ClassDecl ℕ). d.name.text) xs ++ class_names rest
  class_names_seen n [] [] cs is rest h = refl
  class_names_seen n [] (y ∷ ys) cs is rest h = absurd h
  class_names_seen n (x ∷ xs) [] cs is rest h = absurd h
  class_names_seen n (x ∷ xs) (y ∷ ys) cs is rest h =
      ap (λ (m : Name). m.text ∷ class_names (classes_from cs is (suc n) ys ++ rest)) h.0.name ∙ ap (λ ns. x.name.text ∷ ns) (class_names_seen (suc n) xs ys cs is rest h.1)

  program_names_seen : (n : ℕ) (xs : List (ProgramDecl ℕ)) (ys : List (ProgramDecl Note)) → Each (TypedProgram decls) xs ys → class_names (programs_from n ys) ≡ map (λ (d : ProgramDecl ℕ). d.name.text) xs
  program_names_seen n [] [] h = refl
  program_names_seen n [] (y ∷ ys) h = absurd h
  program_names_seen n (x ∷ xs) [] h = absurd h
  program_names_seen n (x ∷ xs) (y ∷ ys) h = ap (λ (m : Name). m.text ∷ class_names (programs_from (suc n) ys)) h.0.name ∙ ap (λ ns. x.name.text ∷ ns) (program_names_seen (suc n) xs ys h.1)

  all_names : class_names (program_of p).classes ≡ class_texts decls ++ program_texts decls
  all_names =
      class_names_seen 0 (classes_in decls) p.classes p.classes p.interfaces (programs_from _ p.programs) checked.classes
      ∙ ap (λ ns. class_texts decls ++ ns) (program_names_seen _ (programs_in decls) p.programs checked.programs)

  all_unique : Unique (class_texts decls ++ program_texts decls)
  unfolding declarations
  all_unique = let r = names_differ decls (all_differ decls good) in unique_append (class_texts decls) (program_texts decls) r.classes r.programs r.between

  name_at : (cs : List Class) (c : ℕ) (k : Class) → slice_get cs c ≡ Some k → slice_get (class_names cs) c ≡ Some k.name
  name_at [] c k e = absurd (none≢some e)
  name_at (x ∷ cs) zero k e = ap (λ (y : Class). Some y.name) (some-same e)
  name_at (x ∷ cs) (suc c) k e = name_at cs c k e

  -- a class is found by its name
  pub numbered : (c : ℕ) (k : Class) → class_at (program_of p) c ≡ Some k → class_number (program_of p) k.name ≡ Some c
  unfolding class_number
  numbered c k e = place_of (class_names (program_of p).classes) c k.name (subst Unique (sym all_names) all_unique) (name_at (program_of p).classes c k e)

-- each class conforms to itself
pub conforms_itself : (p : Checked) (c : ℕ) (k : Class) → class_at (program_of p) c ≡ Some k → conforms (program_of p) c (type.Instance c) ≡ true
conforms_itself p c k e = elim (at_number p c k e) [
  | inl a ↦ back p c k (type.Instance c) e (conforms_class p c k (type.Instance c) a tt (conforms_to_itself p.interfaces p.classes c))
  | inr a ↦ back p c k (type.Instance c) e (subst (λ l. is_among c l ≡ true) (sym a.chain) (or-first (nat_eq c c) false (eq-eqb c c refl)))
]
