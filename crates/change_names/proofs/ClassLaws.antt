-- Classes by name and number, and the variables of their chains with old names.
use Rattle.std.proofs.Common.{◌≡◌, ◌≤◌, ◌<◌, ℕ, zero, suc, ◌+◌, ◌-◌, Bool, true, false, List, [], ◌∷◌, ◌++◌, length, reverse, Option, Some, None, refl, sym, ap, ap₂, ◌∙◌, inl, inr, ◌⊎◌, arith, append_assoc, append-nil}
use Rattle.std.proofs.lemmas.List.{reverse-append}
use Rattle.std.proofs.lemmas.Option.{slice_get_past}
use Rattle.std.specs.Prelude.{◌↔◌, IsTrue, not, if◌then◌else◌, option_map, slice_get}
use Rattle.st_tree.specs.declared.declaration.ClassDecl.{ClassDecl}
use Rattle.st_tree.specs.declared.declaration.ClassSort.{ClassSort}
use Rattle.st_tree.specs.declared.declaration.ClassSort.TheVariants as class_sort
use Rattle.st_tree.specs.declared.declaration.ProgramDecl.{ProgramDecl}
use Rattle.st_tree.specs.declared.program.Note.{Note}
use Rattle.st_tree.specs.declared.program.Program.{Program as CheckedProgram}
use Rattle.st_values.specs.Program.{Variable, a_program, Class, Program, class_at, class_number, own_of, chain_of}
use Rattle.st_values.specs.View.{sort_of, class_of, program_of, programs_from}
use Rattle.st_values.specs.Value.{◌>>=◌}
use Rattle.st_change.specs.From.{same_flag, is_program, of_sort, old_class, from, pairs_by, own_pairs, chain_pairs, class_pairs}
use Rattle.program_tables.proofs.ClassLaws.{within_get, class_is_there, program_at, count_classes}
use Rattle.change_names.specs.declared.change_pairs.sources.Pair.{Pair}
use Rattle.change_names.specs.change_pairs.Pairs.{pairs_of}
use Rattle.change_names.specs.Private.Classes.{own_pairs_at, AreOwnPairs}
use Rattle.change_names.proofs.ListLaws.{split}

names_of_programs : (c k : ℕ) (ds : List (ProgramDecl Note)) → option_map (λ k. k.name) (slice_get (programs_from c ds) k) ≡ option_map (λ d. d.name.text) (slice_get ds k)
names_of_programs c k [] = refl
names_of_programs c zero (d ∷ ds) = refl
names_of_programs c (suc k) (d ∷ ds) = names_of_programs (suc c) k ds

pub class_named : (p : CheckedProgram) (c : ℕ) (o : Option (ClassDecl Note)) → c < length p.classes → slice_get p.classes c ≡ o → option_map (λ k. k.name) (class_at (program_of p) c) ≡ option_map (λ d. d.name.text) o
class_named p c o h e =
    let a = within_get p.classes c h in
    ap (option_map (λ k. k.name)) (class_is_there p c a.0 a.1) ∙ ap (option_map (λ d. d.name.text)) (sym a.1 ∙ e)

pub program_named : (p : CheckedProgram) (c : ℕ) (o : Option (ProgramDecl Note)) → length p.classes ≤ c → slice_get p.programs (c - length p.classes) ≡ o → option_map (λ k. k.name) (class_at (program_of p) c) ≡ option_map (λ d. d.name.text) o
program_named p c o h e =
    ap (option_map (λ k. k.name)) (program_at p c h) ∙ names_of_programs (length p.classes) (c - length p.classes) p.programs ∙ ap (option_map (λ d. d.name.text)) e

-- ---- which numbers are those of programs

programs_sort : (c k : ℕ) (ds : List (ProgramDecl Note)) (x : Class) → slice_get (programs_from c ds) k ≡ Some x → is_program x.sort ≡ true
programs_sort c k [] x e = absurd cc
programs_sort c zero (d ∷ ds) x e = let s : x.sort ≡ a_program = cc in ap is_program s
programs_sort c (suc k) (d ∷ ds) x e = programs_sort (suc c) k ds x e

sort_named : (s : ClassSort) → is_program (sort_of s) ≡ false
sort_named class_sort.Class = refl
sort_named class_sort.FunctionBlock = refl

class_sort_is : (p : CheckedProgram) (c : ℕ) (x : Class) → c < length p.classes → class_at (program_of p) c ≡ Some x → is_program x.sort ≡ false
class_sort_is p c x h e =
    let a = within_get p.classes c h in
    let s = sym e ∙ class_is_there p c a.0 a.1 in
    let y : x ≡ class_of p.classes p.interfaces c a.0 = cc in
    ap (λ (z : Class). is_program z.sort) y ∙ sort_named a.0.sort

pub sort_is : (p : CheckedProgram) (c : ℕ) (x : Class) (b : Bool) → IsTrue b ↔ (length p.classes ≤ c) → class_at (program_of p) c ≡ Some x → b ≡ is_program x.sort
sort_is p c x true h e = sym (programs_sort (length p.classes) (c - length p.classes) p.programs x (sym (program_at p c (h.0 refl)) ∙ e))
sort_is p c x false h e = by (split c (length p.classes))
  where
    by : (c < length p.classes) ⊎ (length p.classes ≤ c) → false ≡ is_program x.sort
    by (inl l) = sym (class_sort_is p c x l e)
    by (inr l) = let bad : false ≡ true = h.1 l in cc

-- whether two are of one sort
pub sorts_then : (a b x y : Bool) → a ≡ x → b ≡ y → a ≡ true → b ≡ same_flag x y
sorts_then a b x y e f t = f ∙ sym (ap (λ z. same_flag z y) (sym e ∙ t))

pub sorts_else : (a b x y : Bool) → a ≡ x → b ≡ y → a ≡ false → not b ≡ same_flag x y
sorts_else a b x y e f t = ap not f ∙ sym (ap (λ z. same_flag z y) (sym e ∙ t))

-- the old class of the name, where it is of the sort
old_by : (k : Class) (o : Option Class) (b : Bool) → ((c : Class) → o ≡ Some c → b ≡ same_flag (is_program k.sort) (is_program c.sort)) → of_sort k.sort o ≡ (if b then o else None)
old_by k None true h = refl
old_by k None false h = refl
old_by k (Some c) b h = sym (ap (λ d. if d then Some c else None) (h c refl))

module _ (old : Program) (k : Class) where
  pub old_none : None ≡ class_number old k.name → old_class old k ≡ None
  old_none e = sym (ap (λ o. of_sort k.sort (o >>= λ c. class_at old c)) e)

  pub old_found : (d : ℕ) (b : Bool) → Some d ≡ class_number old k.name → ((c : Class) → class_at old d ≡ Some c → b ≡ same_flag (is_program k.sort) (is_program c.sort)) → old_class old k ≡ (if b then class_at old d else None)
  old_found d b e h = sym (ap (λ o. of_sort k.sort (o >>= λ c. class_at old c)) e) ∙ old_by k (class_at old d) b h

-- the same by the tables of the old program and the name of a class
pub unnamed : (k : Class) (o : Option Class) → None ≡ option_map (λ c. c.name) o → o ≡ Some k → ⊥
unnamed k None n e = absurd cc
unnamed k (Some c) n e = absurd cc

named_so : (k : Class) (o : Option Class) (name : List ℕ) → Some name ≡ option_map (λ c. c.name) o → o ≡ Some k → name ≡ k.name
named_so k o name n e = let s : Some name ≡ Some k.name = n ∙ ap (option_map (λ c. c.name)) e in cc

module _ (t p : CheckedProgram) (e : t ≡ p) (k : Class) (o : Option Class) (name : List ℕ) (n : Some name ≡ option_map (λ c. c.name) o) (is : o ≡ Some k) where
  number_is : (d : Option ℕ) → d ≡ class_number (program_of t) name → d ≡ class_number (program_of p) k.name
  number_is d h = h ∙ ap (λ (q : CheckedProgram). class_number (program_of q) name) e ∙ ap (class_number (program_of p)) (named_so k o name n is)

  pub not_there : None ≡ class_number (program_of t) name → old_class (program_of p) k ≡ None
  not_there h = old_none (program_of p) k (number_is None h)

  pub found_there : (d : ℕ) (b : Bool) → Some d ≡ class_number (program_of t) name → ((c : Class) → class_at (program_of p) d ≡ Some c → b ≡ same_flag (is_program k.sort) (is_program c.sort)) → old_class (program_of p) k ≡ (if b then class_at (program_of p) d else None)
  found_there d b h f = old_found (program_of p) k d b (number_is (Some d) h) f

-- ---- what a class declares itself

-- the variables of a class, and those of its old one
pub own_with : (old : Program) (o : Option Class) (vs ws : List Variable) → vs ≡ own_of o → ((k : Class) → o ≡ Some k → ws ≡ own_of (old_class old k)) → pairs_by (from vs ws) vs ≡ own_pairs old o
own_with old None vs ws e h = ap (λ a. pairs_by (from a ws) a) e
own_with old (Some k) vs ws e h = ap₂ (λ a b. pairs_by (from a b) a) e (h k refl)

pub own_none : (old : Program) (o : Option Class) → [] ≡ own_of o → [] ≡ own_pairs old o
own_none old None e = refl
own_none old (Some k) e = ap (λ vs. pairs_by (from k.own (own_of (old_class old k))) vs) e

pub past_none : (p : CheckedProgram) (k : ℕ) → length p.classes + length p.programs ≤ k → class_at (program_of p) k ≡ None
past_none p k h = let l = count_classes p in slice_get_past (program_of p).classes k (omega (arith, l, h))

pub no_own_past : (p : CheckedProgram) (k : ℕ) → length p.classes + length p.programs ≤ k → [] ≡ own_of (class_at (program_of p) k)
no_own_past p k h = sym (ap own_of (past_none p k h))

-- ---- chains

module _ (old new : Program) where
  pub along_both : (cs ds : List ℕ) → chain_pairs old new (cs ++ ds) ≡ chain_pairs old new cs ++ chain_pairs old new ds
  along_both [] ds = refl
  along_both (c ∷ cs) ds = ap (λ ps. own_pairs old (class_at new c) ++ ps) (along_both cs ds) ∙ sym (append_assoc (own_pairs old (class_at new c)) (chain_pairs old new cs) (chain_pairs old new ds))

  -- what was added, and what the rest of the chain gives, is the whole
  pub record ChainLeft (c : ℕ) (left : List ℕ) (pairs : List Pair) : Type 0 where
    pub whole : pairs_of pairs ++ chain_pairs old new (reverse left) ≡ class_pairs old new c

  module _ (c : ℕ) where
    pub chain_begin : (left : List ℕ) (pairs : List Pair) → left ≡ chain_of (class_at new c) → pairs ≡ [] → ChainLeft c left pairs
    unfolding class_pairs
    chain_begin left pairs e f = record { whole = ap (λ ps. pairs_of ps ++ chain_pairs old new (reverse left)) f ∙ ap (λ cs. chain_pairs old new (reverse cs)) e }

    pub chain_next : (left behind : List ℕ) (d : ℕ) (own : List (List Pair)) (pairs more : List Pair) → left ≡ behind ++ d ∷ [] → AreOwnPairs old new own → pairs_of more ≡ pairs_of pairs ++ own_pairs_at own d → ChainLeft c left pairs → ChainLeft c behind more
    chain_next left behind d own pairs more e are p h = record {
      whole =
          ap (λ ps. ps ++ chain_pairs old new (reverse behind)) (p ∙ ap (λ ps. pairs_of pairs ++ ps) (are.by d))
          ∙ append_assoc (pairs_of pairs) (own_pairs old (class_at new d)) (chain_pairs old new (reverse behind))
          ∙ sym (ap (λ cs. pairs_of pairs ++ chain_pairs old new cs) (ap reverse e ∙ reverse-append behind (d ∷ [])))
          ∙ h.whole;
    }

    pub chain_end : (left : List ℕ) (pairs : List Pair) → left ≡ [] → ChainLeft c left pairs → pairs_of pairs ≡ class_pairs old new c
    chain_end left pairs e h = sym (append-nil (pairs_of pairs)) ∙ sym (ap (λ cs. pairs_of pairs ++ chain_pairs old new (reverse cs)) e) ∙ h.whole

  pub no_pairs_past : (c : ℕ) → class_at new c ≡ None → [] ≡ class_pairs old new c
  unfolding class_pairs
  no_pairs_past c e = sym (ap (λ o. chain_pairs old new (reverse (chain_of o))) e)
