-- What can be told in groups is what can be told one by one.
use Rattle.std.proofs.Common.{◌≡◌, ℕ, zero, suc, ◌+◌, Bool, true, false, List, [], ◌∷◌, ◌++◌, map, length, refl, sym, ap, ◌∙◌, arith, append-nil}
use Rattle.std.specs.Prelude.{if◌then◌else◌, flat_map}
use Rattle.std.proofs.lemmas.List.{append_assoc}
use Rattle.std.proofs.lemmas.Grind.{flat_map-append}
use Rattle.st_tree.specs.declared.declaration.ClassDecl.{ClassDecl}
use Rattle.st_tree.specs.declared.declaration.Item.{Item}
use Rattle.st_tree.specs.declared.declaration.Section.{Section}
use Rattle.st_tree.specs.declared.declaration.TypeDecl.{TypeDecl}
use Rattle.st_tree.specs.declared.name.Name.{Name}
use Rattle.st_tree.specs.declared.unit.Decl.{Decl}
use Rattle.st_tree.specs.declared.unit.Decl.TheVariants as declaration
use Rattle.st_unit_rules.specs.declared_names.Variables.{Written, declares_constants, item_written, section_written, sections_written, sections_in}
use Rattle.st_unit_rules.specs.declared_names.Declarations.{Global, Declaration, an_entry, a_global, an_interface, a_class, a_function, declarations_of, declarations, globals_of_section, configuration_globals}
use Rattle.st_unit_rules.specs.declaration_list.Written.{written_in, names_from, names_in_item, names_in_section, names_in_sections}
use Rattle.st_unit_rules.proofs.declaration_list.GlobalLaws.{written_are, globals_are}
use Rattle.resolution_order.specs.telling_list.Jobs.{Job, Numbers, of_class, of_entry, of_interface, of_global, of_member, member_jobs, global_jobs, jobs_of, behind, jobs_from, first_numbers, jobs_in}
use Rattle.resolution_order.specs.telling_groups.Groups.{Group, globals_of, members_of, each_name, jobs_of_group}
use Rattle.resolution_order.specs.telling_groups.Private.Listed.{group_at, groups_named, groups_of, groups_from, groups_in}

-- what can be told by groups
abbrev pub told_by : List Group → List Job
told_by gs = flat_map jobs_of_group gs

abbrev jobs_named : (ℕ → Written → Job) → ℕ → List Written → List Job
jobs_named job n [] = []
jobs_named job n (w ∷ ws) = (if w.constant then job n w ∷ [] else []) ++ jobs_named job (suc n) ws

chosen : (c : Bool) (j : Job) (rest all : List Job) → rest ≡ (if c then all else []) → (if c then j ∷ [] else []) ++ rest ≡ (if c then j ∷ all else [])
chosen true j rest all h = ap (λ xs. j ∷ xs) h
chosen false j rest all h = h

no-job : (c : Bool) (none : List Job) → none ≡ (if c then none else none)
no-job true none = refl
no-job false none = refl

one-group : (c : Bool) (g : Group) → flat_map jobs_of_group ((if c then g ∷ [] else []) ++ []) ≡ (if c then jobs_of_group g else [])
one-group true g = append-nil (jobs_of_group g)
one-group false g = refl

shifted : (n k : ℕ) → n + suc k ≡ suc n + k
shifted n k = omega arith

module _ (group : ℕ → Section ℕ → Item ℕ → Group) (job : ℕ → Written → Job) (made : (n : ℕ) (s : Section ℕ) (item : Item ℕ) → jobs_of_group (group n s item) ≡ each_name job n (item_written s item)) where
  -- ---- one item

  others : (s : Section ℕ) (item : Item ℕ) (n : ℕ) (ws : List Written) → groups_named group n (names_from s item false ws) ≡ []
  others s item n [] = refl
  others s item n (w ∷ ws) = others s item (suc n) ws

  item-jobs : (s : Section ℕ) (item : Item ℕ) (n : ℕ) (xs : List Name) → jobs_named job n (map (written_in s item) xs) ≡ (if declares_constants s then each_name job n (map (written_in s item) xs) else [])
  item-jobs s item n [] = no-job (declares_constants s) []
  item-jobs s item n (x ∷ xs) =
      chosen (declares_constants s) (job n (written_in s item x)) (jobs_named job (suc n) (map (written_in s item) xs)) (each_name job (suc n) (map (written_in s item) xs)) (item-jobs s item (suc n) xs)

  item-named : (s : Section ℕ) (item : Item ℕ) (n : ℕ) (xs : List Name) → item_written s item ≡ map (written_in s item) xs
      → told_by (groups_named group n (names_from s item true (map (written_in s item) xs))) ≡ jobs_named job n (map (written_in s item) xs)
  item-named s item n [] e = refl
  item-named s item n (x ∷ xs) e =
      ap (λ gs. told_by ((if declares_constants s then group n s item ∷ [] else []) ++ gs)) (others s item (suc n) (map (written_in s item) xs))
      ∙ one-group (declares_constants s) (group n s item)
      ∙ ap (λ js. if declares_constants s then js else []) (made n s item ∙ ap (each_name job n) e)
      ∙ sym (item-jobs s item n (x ∷ xs))

  -- ---- names and what is written of them

  record Same (gs : List Global) (ws : List Written) : Type 0 where
    long : length gs ≡ length ws
    told : (n : ℕ) → told_by (groups_named group n gs) ≡ jobs_named job n ws

  groups-append : (n : ℕ) (gs hs : List Global) → groups_named group n (gs ++ hs) ≡ groups_named group n gs ++ groups_named group (n + length gs) hs
  groups-append n [] hs = ap (λ m. groups_named group m hs) (plain n)
    where
      plain : (n : ℕ) → n ≡ n + 0
      plain n = omega arith
  groups-append n (g ∷ gs) hs =
      ap (λ xs. group_at group n g ++ xs) (groups-append (suc n) gs hs)
      ∙ ap (λ m. group_at group n g ++ (groups_named group (suc n) gs ++ groups_named group m hs)) (sym (shifted n (length gs)))
      ∙ sym (append_assoc (group_at group n g) (groups_named group (suc n) gs) (groups_named group (n + suc (length gs)) hs))

  jobs-append : (n : ℕ) (ws vs : List Written) → jobs_named job n (ws ++ vs) ≡ jobs_named job n ws ++ jobs_named job (n + length ws) vs
  jobs-append n [] vs = ap (λ m. jobs_named job m vs) (plain n)
    where
      plain : (n : ℕ) → n ≡ n + 0
      plain n = omega arith
  jobs-append n (w ∷ ws) vs =
      ap (λ xs. (if w.constant then job n w ∷ [] else []) ++ xs) (jobs-append (suc n) ws vs)
      ∙ ap (λ m. (if w.constant then job n w ∷ [] else []) ++ (jobs_named job (suc n) ws ++ jobs_named job m vs)) (sym (shifted n (length ws)))
      ∙ sym (append_assoc (if w.constant then job n w ∷ [] else []) (jobs_named job (suc n) ws) (jobs_named job (n + suc (length ws)) vs))

  length-append : {X : Type 0} (xs ys : List X) → length (xs ++ ys) ≡ length xs + length ys
  length-append [] ys = plain (length ys)
    where
      plain : (n : ℕ) → n ≡ 0 + n
      plain n = omega arith
  length-append (x ∷ xs) ys = more (length (xs ++ ys)) (length xs) (length ys) (length-append xs ys)
    where
      more : (a b c : ℕ) → a ≡ b + c → suc a ≡ suc b + c
      more a b c h = omega (arith, h)

  same-append : (gs hs : List Global) (ws vs : List Written) → Same gs ws → Same hs vs → Same (gs ++ hs) (ws ++ vs)
  same-append gs hs ws vs a b = record {
    long = length-append gs hs ∙ ap (λ n. n + length hs) a.long ∙ ap (λ n. length ws + n) b.long ∙ sym (length-append ws vs);
    told = λ n.
        ap told_by (groups-append n gs hs)
        ∙ flat_map-append jobs_of_group (groups_named group n gs) (groups_named group (n + length gs) hs)
        ∙ ap (λ xs. xs ++ told_by (groups_named group (n + length gs) hs)) (a.told n)
        ∙ ap (λ xs. jobs_named job n ws ++ xs) (b.told (n + length gs))
        ∙ ap (λ m. jobs_named job n ws ++ jobs_named job (n + m) vs) a.long
        ∙ sym (jobs-append n ws vs);
  }

  same-flat : {X : Type 0} (f : X → List Global) (h : X → List Written) → ((x : X) → Same (f x) (h x)) → (xs : List X) → Same (flat_map f xs) (flat_map h xs)
  same-flat f h e [] = record { long = refl; told = λ n. refl }
  same-flat f h e (x ∷ xs) = same-append (f x) (flat_map f xs) (h x) (flat_map h xs) (e x) (same-flat f h e xs)

  names-long : (s : Section ℕ) (item : Item ℕ) (first : Bool) (ws : List Written) → length (names_from s item first ws) ≡ length ws
  names-long s item first [] = refl
  names-long s item first (w ∷ ws) = ap (λ n. suc n) (names-long s item false ws)

  same-item : (s : Section ℕ) (item : Item ℕ) → Same (names_in_item s item) (item_written s item)
  same-item s item = record { long = names-long s item true (item_written s item); told = λ n. item-named s item n item.names refl }

  same-section : (s : Section ℕ) → Same (names_in_section s) (section_written s)
  same-section s = same-flat (names_in_item s) (item_written s) (same-item s) s.items

  same-sections : (ss : List (Section ℕ)) → Same (names_in_sections ss) (sections_written ss)
  same-sections ss = same-flat names_in_section section_written same-section ss

  pub sections-told : (n : ℕ) (ss : List (Section ℕ)) → told_by (groups_named group n (names_in_sections ss)) ≡ jobs_named job n (sections_written ss)
  sections-told n ss = (same-sections ss).told n

-- ---- constants of a class

members-named : (c n : ℕ) (ws : List Written) → jobs_named (of_member c) n ws ≡ member_jobs c n ws
members-named c n [] = refl
members-named c n (w ∷ ws) = ap (λ xs. (if w.constant then of_member c n w ∷ [] else []) ++ xs) (members-named c (suc n) ws) ∙ put w.constant
  where
    put : (b : Bool) → (if b then of_member c n w ∷ [] else []) ++ member_jobs c (suc n) ws ≡ (if b then of_member c n w ∷ member_jobs c (suc n) ws else member_jobs c (suc n) ws)
    put true = refl
    put false = refl

members-told : (c : ℕ) (ss : List (Section ℕ)) → told_by (groups_named (members_of c) 0 (names_in_sections ss)) ≡ member_jobs c 0 (sections_written ss)
members-told c ss = sections-told (members_of c) (of_member c) (λ n s item. refl) 0 ss ∙ members-named c 0 (sections_written ss)

-- ---- globals among the declarations

abbrev behind_all : Numbers → List Global → Numbers
behind_all n [] = n
behind_all n (g ∷ gs) = behind_all (record n { globals = suc n.globals }) gs

groups-of-globals : (n : Numbers) (gs : List Global) (ds : List Declaration) → groups_from n (map a_global gs ++ ds) ≡ groups_named globals_of n.globals gs ++ groups_from (behind_all n gs) ds
groups-of-globals n [] ds = refl
groups-of-globals n (g ∷ gs) ds =
    ap (λ xs. group_at globals_of n.globals g ++ xs) (groups-of-globals (record n { globals = suc n.globals }) gs ds)
    ∙ sym (append_assoc (group_at globals_of n.globals g) (groups_named globals_of (suc n.globals) gs) (groups_from (behind_all (record n { globals = suc n.globals }) gs) ds))

jobs-of-globals : (n : Numbers) (gs : List Global) (ds : List Declaration) → jobs_from n (map a_global gs ++ ds) ≡ jobs_named of_global n.globals (map (λ g. g.written) gs) ++ jobs_from (behind_all n gs) ds
jobs-of-globals n [] ds = refl
jobs-of-globals n (g ∷ gs) ds =
    ap (λ xs. global_jobs n.globals g.written ++ xs) (jobs-of-globals (record n { globals = suc n.globals }) gs ds)
    ∙ sym (append_assoc (global_jobs n.globals g.written) (jobs_named of_global (suc n.globals) (map (λ g. g.written) gs)) (jobs_from (behind_all (record n { globals = suc n.globals }) gs) ds))

-- what is so of the declarations behind
abbrev Rests : List Declaration → Type 0
Rests ds = (n : Numbers) → told_by (groups_from n ds) ≡ jobs_from n ds

globals-told : (ss : List (Section ℕ)) (ds : List Declaration) → Rests ds → Rests (map a_global (names_in_sections ss) ++ ds)
globals-told ss ds h n =
    ap told_by (groups-of-globals n (names_in_sections ss) ds)
    ∙ flat_map-append jobs_of_group (groups_named globals_of n.globals (names_in_sections ss)) (groups_from (behind_all n (names_in_sections ss)) ds)
    ∙ ap (λ xs. xs ++ told_by (groups_from (behind_all n (names_in_sections ss)) ds)) (sections-told globals_of of_global (λ n s item. refl) n.globals ss)
    ∙ ap (λ xs. jobs_named of_global n.globals (sections_written ss) ++ xs) (h (behind_all n (names_in_sections ss)))
    ∙ ap (λ ws. jobs_named of_global n.globals ws ++ jobs_from (behind_all n (names_in_sections ss)) ds) (sym (written_are ss))
    ∙ sym (jobs-of-globals n (names_in_sections ss) ds)

sections-rest : (ss : List (Section ℕ)) (ds : List Declaration) → Rests ds → Rests (flat_map globals_of_section ss ++ ds)
sections-rest ss ds h n =
    ap (λ xs. told_by (groups_from n (xs ++ ds))) (sym (globals_are ss))
    ∙ globals-told ss ds h n
    ∙ ap (λ xs. jobs_from n (xs ++ ds)) (globals_are ss)

-- ---- declarations

entries-rest : (ts : List (TypeDecl ℕ)) (ds : List Declaration) → Rests ds → Rests (map an_entry ts ++ ds)
entries-rest [] ds h n = h n
entries-rest (t ∷ ts) ds h n = ap (λ xs. of_entry n.types n.entries t ∷ xs) (entries-rest ts ds h (behind n (an_entry t)))

class-rest : (d : ClassDecl ℕ) (ds : List Declaration) → Rests ds → Rests (a_class d ∷ ds)
class-rest d ds h n =
    ap (λ xs. of_class n.types n.classes ∷ xs)
    (flat_map-append jobs_of_group (groups_named (members_of n.classes) 0 (names_in_sections (sections_in d.members))) (groups_from (behind n (a_class d)) ds)
    ∙ ap (λ xs. xs ++ told_by (groups_from (behind n (a_class d)) ds)) (members-told n.classes (sections_in d.members))
    ∙ ap (λ xs. member_jobs n.classes 0 (sections_written (sections_in d.members)) ++ xs) (h (behind n (a_class d))))

one-section : (s : Section ℕ) (ds : List Declaration) → Rests ds → Rests (globals_of_section s ++ ds)
one-section s ds h n =
    ap (λ xs. told_by (groups_from n (xs ++ ds))) (sym (append-nil (globals_of_section s)))
    ∙ sections-rest (s ∷ []) ds h n
    ∙ ap (λ xs. jobs_from n (xs ++ ds)) (append-nil (globals_of_section s))

declaration-rest : (d : Decl ℕ) (ds : List Declaration) → Rests ds → Rests (declarations_of d ++ ds)
declaration-rest (declaration.Types l ts) ds h n = entries-rest ts ds h n
declaration-rest (declaration.Globals s) ds h n = one-section s ds h n
declaration-rest (declaration.Interface i) ds h n = ap (λ xs. of_interface n.types n.interfaces ∷ xs) (h (behind n (an_interface i)))
declaration-rest (declaration.Class c) ds h n = class-rest c ds h n
declaration-rest (declaration.Function f) ds h n = h (behind n (a_function f))
declaration-rest (declaration.Program p) ds h n = h n
declaration-rest (declaration.Configuration c) ds h n = sections-rest (configuration_globals c) ds h n

all-rest : (decls : List (Decl ℕ)) → Rests (flat_map declarations_of decls)
all-rest [] n = refl
all-rest (d ∷ decls) n = declaration-rest d (flat_map declarations_of decls) (all-rest decls) n

-- the groups of a unit tell what can be told of it
pub groups-tell : (decls : List (Decl ℕ)) → told_by (groups_in decls) ≡ jobs_in decls
unfolding groups_in jobs_in declarations
groups-tell decls = all-rest decls first_numbers
