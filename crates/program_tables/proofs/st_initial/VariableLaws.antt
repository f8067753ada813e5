-- The variables that classes and structures have.
use Rattle.std.proofs.Common.{◌≡◌, ◌≤◌, ◌<◌, ℕ, zero, suc, ◌+◌, ◌-◌, true, false, List, [], ◌∷◌, ◌++◌, length, reverse, get_or, drop, Option, Some, None, refl, sym, ap, ◌∙◌, arith, drop-cons}
use Rattle.std.specs.Prelude.{if◌then◌else◌, option_map, option_and_then, slice_get}
use Rattle.std.proofs.lemmas.List.{append-nil, append_assoc, reverse-append}
use Rattle.std.proofs.lemmas.List.Elements.{filter-append}
use Rattle.std.proofs.lemmas.Option.{slice_get-map}
use Rattle.st_tree.specs.declared.declaration.ClassDecl.{ClassDecl}
use Rattle.st_tree.specs.declared.declaration.Item.{Item}
use Rattle.st_tree.specs.declared.declaration.ProgramDecl.{ProgramDecl}
use Rattle.st_tree.specs.declared.declaration.Section.{Section}
use Rattle.st_tree.specs.declared.declaration.SectionSort.{SectionSort}
use Rattle.st_tree.specs.declared.declaration.SectionSort.TheVariants as sort
use Rattle.st_tree.specs.declared.declaration.TypeDecl.{TypeDecl}
use Rattle.st_tree.specs.declared.marks.Marks.{Marks}
use Rattle.st_tree.specs.declared.name.Name.{Name}
use Rattle.st_tree.specs.declared.program.Note.{Note}
use Rattle.st_tree.specs.declared.program.Program.{Program as CheckedProgram}
use Rattle.st_rules.specs.Modifiers.{is_constant}
use Rattle.st_rules.specs.Classes.{chain}
use Rattle.st_rules.proofs.ListLaws.{drop-at, drop-end}
use Rattle.st_values.specs.Program.{Variable, Program, class_at, own_of, own_variables}
use Rattle.st_values.specs.Shape.{fields_of}
use Rattle.st_values.specs.View.{kind_of, initial_in, named_variables, items_in, sorted_items, variables_in, is_kept, those, sections_in, programs_from, type_entry, program_of}
use Rattle.program_tables.proofs.ClassLaws.{class_is_there, program_at}
use Rattle.program_tables.specs.st_initial.Variables.{or_none, fields_at}
use Rattle.program_tables.specs.st_initial.Private.Kept.{kept_in}

-- ---- sections

named_kept : (s : SectionSort) (item : Item Note) (m : Marks) (ns : List Name) → is_kept s ≡ true → those is_kept (named_variables s item m ns) ≡ named_variables s item m ns
named_kept s item m [] k = refl
named_kept s item m (n ∷ ns) k =
    let v : Variable = record { name = n.text; sort = s; kind = kind_of item.kind; initial = initial_in item.initial; marks = m; address = item.address } in
    let vs = named_variables s item (record m { renamed_from = None }) ns in
    ap (λ b. if b then v ∷ those is_kept vs else those is_kept vs) k ∙ ap (λ ws. v ∷ ws) (named_kept s item (record m { renamed_from = None }) ns k)

named_lost : (s : SectionSort) (item : Item Note) (m : Marks) (ns : List Name) → is_kept s ≡ false → those is_kept (named_variables s item m ns) ≡ []
named_lost s item m [] k = refl
named_lost s item m (n ∷ ns) k =
    let v : Variable = record { name = n.text; sort = s; kind = kind_of item.kind; initial = initial_in item.initial; marks = m; address = item.address } in
    let vs = named_variables s item (record m { renamed_from = None }) ns in
    ap (λ b. if b then v ∷ those is_kept vs else those is_kept vs) k ∙ named_lost s item (record m { renamed_from = None }) ns k

items_kept : (s : SectionSort) (items : List (Item Note)) → is_kept s ≡ true → those is_kept (items_in s items) ≡ items_in s items
items_kept s [] k = refl
items_kept s (i ∷ is) k =
    filter-append (λ v. is_kept v.sort) (named_variables s i i.marks i.names) (items_in s is)
    ∙ ap (λ vs. vs ++ those is_kept (items_in s is)) (named_kept s i i.marks i.names k)
    ∙ ap (λ vs. named_variables s i i.marks i.names ++ vs) (items_kept s is k)

items_lost : (s : SectionSort) (items : List (Item Note)) → is_kept s ≡ false → those is_kept (items_in s items) ≡ []
items_lost s [] k = refl
items_lost s (i ∷ is) k =
    filter-append (λ v. is_kept v.sort) (named_variables s i i.marks i.names) (items_in s is)
    ∙ ap (λ vs. vs ++ those is_kept (items_in s is)) (named_lost s i i.marks i.names k)
    ∙ items_lost s is k

sorted_kept : (s : SectionSort) (items : List (Item Note)) → is_kept s ≡ true → those is_kept (sorted_items s items) ≡ items_in s items
sorted_kept sort.External items k = cc
sorted_kept s items k = items_kept s items k

sorted_lost : (s : SectionSort) (items : List (Item Note)) → is_kept s ≡ false → those is_kept (sorted_items s items) ≡ []
sorted_lost sort.External items k = refl
sorted_lost s items k = items_lost s items k

-- what a section keeps
pub constant_keeps : (s : Section Note) → is_constant s.modifiers ≡ true → kept_in s ≡ []
constant_keeps s c = ap (λ b. those is_kept (if b then [] else sorted_items s.sort s.items)) c

pub section_keeps : (s : Section Note) → is_constant s.modifiers ≡ false → is_kept s.sort ≡ true → kept_in s ≡ items_in s.sort s.items
section_keeps s c k = ap (λ b. those is_kept (if b then [] else sorted_items s.sort s.items)) c ∙ sorted_kept s.sort s.items k

pub section_loses : (s : Section Note) → is_constant s.modifiers ≡ false → is_kept s.sort ≡ false → kept_in s ≡ []
section_loses s c k = ap (λ b. those is_kept (if b then [] else sorted_items s.sort s.items)) c ∙ sorted_lost s.sort s.items k

pub next_section : (s : Section Note) (ss : List (Section Note)) → those is_kept (variables_in (s ∷ ss)) ≡ kept_in s ++ those is_kept (variables_in ss)
next_section s ss = filter-append (λ v. is_kept v.sort) (if is_constant s.modifiers then [] else sorted_items s.sort s.items) (variables_in ss)

-- ---- classes and programs

abbrev pub declared_own : Option (ProgramDecl Note) → List Variable
declared_own None = []
declared_own (Some d) = those is_kept (variables_in d.sections)

program_own : (c k : ℕ) (ds : List (ProgramDecl Note)) → own_of (slice_get (programs_from c ds) k) ≡ declared_own (slice_get ds k)
program_own c k [] = refl
program_own c zero (d ∷ ds) = refl
program_own c (suc k) (d ∷ ds) = program_own (suc c) k ds

module _ (p : CheckedProgram) where
  pub class_owns : (c : ℕ) (d : ClassDecl Note) → slice_get p.classes c ≡ Some d → own_of (class_at (program_of p) c) ≡ those is_kept (variables_in (sections_in d.members))
  class_owns c d e = ap own_of (class_is_there p c d e)

  pub program_owns : (c : ℕ) (o : Option (ProgramDecl Note)) → length p.classes ≤ c → slice_get p.programs (c - length p.classes) ≡ o → own_of (class_at (program_of p) c) ≡ declared_own o
  program_owns c o h e = ap own_of (program_at p c h) ∙ program_own (length p.classes) (c - length p.classes) p.programs ∙ ap declared_own e

  pub fields_there : (n : ℕ) (o : Option (TypeDecl Note)) → slice_get p.types n ≡ o → fields_at (program_of p) n ≡ or_none (option_and_then (λ t. fields_of t.body) (option_map type_entry o))
  fields_there n o e = ap (λ x. or_none (option_and_then (λ t. fields_of t.body) x)) (slice_get-map type_entry p.types n ∙ ap (option_map type_entry) e)

-- ---- the variables along a chain

own_both : (p : Program) (cs ds : List ℕ) → own_variables p (cs ++ ds) ≡ own_variables p cs ++ own_variables p ds
own_both p [] ds = refl
own_both p (c ∷ cs) ds = ap (λ vs. own_of (class_at p c) ++ vs) (own_both p cs ds) ∙ sym (append_assoc (own_of (class_at p c)) (own_variables p cs) (own_variables p ds))

-- one class more, before the others
pub own_more : (p : Program) (c : ℕ) (cs : List ℕ) → own_variables p (reverse (c ∷ cs)) ≡ own_variables p (reverse cs) ++ own_of (class_at p c)
own_more p c cs =
    ap (own_variables p) (reverse-append (c ∷ []) cs) ∙ own_both p (reverse cs) (c ∷ []) ∙ ap (λ vs. own_variables p (reverse cs) ++ vs) (append-nil (own_of (class_at p c)))

-- one class less is left
pub own_down : (p : Program) (chain : List ℕ) (left : ℕ) (a b : List Variable) → 0 < left → left ≤ length chain → a ≡ own_variables p (reverse (drop left chain)) → b ≡ a ++ own_of (class_at p (get_or chain (left - 1) 0))
    → b ≡ own_variables p (reverse (drop (left - 1) chain))
own_down p chain left a b l m is more =
    let x = get_or chain (left - 1) 0 in
    let h : left - 1 < length chain = omega arith in
    let n : suc (left - 1) ≡ left = omega arith in
    more ∙ ap (λ v. v ++ own_of (class_at p x)) is ∙ sym (own_more p x (drop left chain))
    ∙ ap (λ cs. own_variables p (reverse cs)) (sym (drop-cons chain (left - 1) 0 h ∙ ap (λ k. x ∷ drop k chain) n))

-- ---- loops

-- what was added and what the rest gives are the whole: one item more, and the end
pub loop_step : {X V : Type 0} (all : List X → List V) (one : X → List V) (xs : List X) (i : ℕ) (x : X) (a b t : List V) → ((y : X) (ys : List X) → all (y ∷ ys) ≡ one y ++ all ys) → i < length xs → x ≡ get_or xs i x → a ++ all (drop i xs) ≡ t → b ≡ a ++ one x
    → b ++ all (drop (i + 1) xs) ≡ t
loop_step all one xs i x a b t more h e left is =
    ap (λ v. v ++ all (drop (i + 1) xs)) is ∙ append_assoc a (one x) (all (drop (i + 1) xs)) ∙ ap (λ v. a ++ v) (sym (ap all (drop-at xs i x h e) ∙ more x (drop (i + 1) xs))) ∙ left

pub loop_end : {X V : Type 0} (all : List X → List V) (xs : List X) (i : ℕ) (a t : List V) → all [] ≡ [] → length xs ≤ i → a ++ all (drop i xs) ≡ t → a ≡ t
loop_end all xs i a t none h left = sym (append-nil a) ∙ ap (λ v. a ++ v) (sym (ap all (drop-end xs i h) ∙ none)) ∙ left
