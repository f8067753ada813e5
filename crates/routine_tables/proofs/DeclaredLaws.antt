-- The variables that sections and classes declare.
use Rattle.std.proofs.Common.{◌≡◌, ◌≤◌, ◌<◌, ℕ, suc, ◌-◌, true, false, List, [], ◌∷◌, ◌++◌, length, reverse, get_or, drop, Option, Some, None, refl, sym, ap, ◌∙◌, arith, drop-cons}
use Rattle.std.specs.Prelude.{if◌then◌else◌, slice_get}
use Rattle.std.proofs.lemmas.List.{append-nil, append_assoc, reverse-append}
use Rattle.st_tree.specs.declared.declaration.ClassDecl.{ClassDecl}
use Rattle.st_tree.specs.declared.declaration.Item.{Item}
use Rattle.st_tree.specs.declared.declaration.Section.{Section}
use Rattle.st_tree.specs.declared.declaration.SectionSort.{SectionSort}
use Rattle.st_tree.specs.declared.declaration.SectionSort.TheVariants as sort
use Rattle.st_tree.specs.declared.program.Note.{Note}
use Rattle.st_rules.specs.Modifiers.{is_constant}
use Rattle.st_values.specs.Program.{Variable}
use Rattle.st_values.specs.View.{items_in, sorted_items, variables_in, sections_in, declared_by, declared_along}
use Rattle.program_tables.specs.Routine.{members_of}
use Rattle.routine_tables.specs.Private.Declared.{is_external, section_variables}

sorted_external : (s : SectionSort) (items : List (Item Note)) → is_external s ≡ true → sorted_items s items ≡ []
sorted_external sort.External items e = refl
sorted_external s items e = cc

sorted_other : (s : SectionSort) (items : List (Item Note)) → is_external s ≡ false → sorted_items s items ≡ items_in s items
sorted_other sort.External items e = cc
sorted_other s items e = refl

pub constant_section : (s : Section Note) → is_constant s.modifiers ≡ true → section_variables s ≡ []
constant_section s c = ap (λ b. if b then [] else sorted_items s.sort s.items) c

pub external_section : (s : Section Note) → is_constant s.modifiers ≡ false → is_external s.sort ≡ true → section_variables s ≡ []
external_section s c e = ap (λ b. if b then [] else sorted_items s.sort s.items) c ∙ sorted_external s.sort s.items e

pub other_section : (s : Section Note) → is_constant s.modifiers ≡ false → is_external s.sort ≡ false → section_variables s ≡ items_in s.sort s.items
other_section s c e = ap (λ b. if b then [] else sorted_items s.sort s.items) c ∙ sorted_other s.sort s.items e

-- ---- along a chain

along_both : (classes : List (ClassDecl Note)) (cs ds : List ℕ) → declared_along classes (cs ++ ds) ≡ declared_along classes cs ++ declared_along classes ds
along_both classes [] ds = refl
along_both classes (c ∷ cs) ds = ap (λ vs. declared_by (slice_get classes c) ++ vs) (along_both classes cs ds) ∙ sym (append_assoc (declared_by (slice_get classes c)) (declared_along classes cs) (declared_along classes ds))

along_more : (classes : List (ClassDecl Note)) (c : ℕ) (cs : List ℕ) → declared_along classes (reverse (c ∷ cs)) ≡ declared_along classes (reverse cs) ++ declared_by (slice_get classes c)
along_more classes c cs =
    ap (declared_along classes) (reverse-append (c ∷ []) cs) ∙ along_both classes (reverse cs) (c ∷ []) ∙ ap (λ vs. declared_along classes (reverse cs) ++ vs) (append-nil (declared_by (slice_get classes c)))

-- one class less is left
pub along_down : (classes : List (ClassDecl Note)) (chain : List ℕ) (left : ℕ) (a b : List Variable) → 0 < left → left ≤ length chain → a ≡ declared_along classes (reverse (drop left chain)) → b ≡ a ++ declared_by (slice_get classes (get_or chain (left - 1) 0))
    → b ≡ declared_along classes (reverse (drop (left - 1) chain))
along_down classes chain left a b l m is more =
    let x = get_or chain (left - 1) 0 in
    let h : left - 1 < length chain = omega arith in
    let n : suc (left - 1) ≡ left = omega arith in
    more ∙ ap (λ v. v ++ declared_by (slice_get classes x)) is ∙ sym (along_more classes x (drop left chain))
    ∙ ap (λ cs. declared_along classes (reverse cs)) (sym (drop-cons chain (left - 1) 0 h ∙ ap (λ k. x ∷ drop k chain) n))

pub declared_is : (o : Option (ClassDecl Note)) → variables_in (sections_in (members_of o)) ≡ declared_by o
declared_is None = refl
declared_is (Some d) = refl
