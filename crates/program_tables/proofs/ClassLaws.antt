-- The classes and programs of a program, as its meaning sees them.
use Rattle.std.proofs.Common.{◌≡◌, ◌≤◌, ◌<◌, ℕ, zero, suc, ◌+◌, ◌-◌, Bool, true, false, List, [], ◌∷◌, ◌++◌, length, map, Option, Some, None, refl, sym, ap, ◌∙◌, subst, arith, length-append}
use Rattle.std.specs.Prelude.{if◌then◌else◌, option_map, option_and_then, slice_get}
use Rattle.std.specs.List.{list_any}
use Rattle.std.proofs.lemmas.Option.{slice_get_past}
use Rattle.plc_text.specs.Words.{same}
use Rattle.st_types.specs.declared.st_type.StType.TheVariants as type
use Rattle.st_tree.specs.declared.declaration.ClassDecl.{ClassDecl}
use Rattle.st_tree.specs.declared.declaration.InterfaceDecl.{InterfaceDecl}
use Rattle.st_tree.specs.declared.declaration.ProgramDecl.{ProgramDecl}
use Rattle.st_tree.specs.declared.program.Note.{Note}
use Rattle.st_tree.specs.declared.program.Program.{Program as CheckedProgram}
use Rattle.st_rules.specs.Named.{first_place}
use Rattle.st_rules.specs.Chains.{◌or_else◌, climb}
use Rattle.st_rules.specs.Classes.{base_of, chain, class_named}
use Rattle.st_rules.specs.Interfaces.{implements_itself, conforms}
use Rattle.st_values.specs.Program.{Class, class_at, class_names, class_number, chain_of, conforming, method_of, own_method}
use Rattle.st_values.specs.View.{class_of, classes_from, programs_from, program_of}
use Rattle.program_tables.specs.Private.Places.{class_name, program_name}
use Rattle.program_tables.specs.Private.Found.{count}

-- ---- lists

pub past_end : {X : Type 0} (xs : List X) (i : ℕ) → slice_get xs i ≡ None → length xs ≤ i
past_end [] i h = omega arith
past_end (x ∷ xs) zero h = cc
past_end (x ∷ xs) (suc i) h = let p = past_end xs i h in omega (arith, p)

front_get : {A : Type 0} (xs ys : List A) (k : ℕ) (x : A) → slice_get xs k ≡ Some x → slice_get (xs ++ ys) k ≡ Some x
front_get [] ys k x e = cc
front_get (y ∷ xs) ys zero x e = e
front_get (y ∷ xs) ys (suc k) x e = front_get xs ys k x e

back_get : {A : Type 0} (xs ys : List A) (k : ℕ) → length xs ≤ k → slice_get (xs ++ ys) k ≡ slice_get ys (k - length xs)
back_get [] ys k h = let e : k ≡ k - 0 = omega arith in ap (slice_get ys) e
back_get (x ∷ xs) ys zero h = absurd (omega arith)
back_get (x ∷ xs) ys (suc k) h =
    let e : k - length xs ≡ suc k - suc (length xs) = omega arith in
    back_get xs ys k (omega arith) ∙ ap (slice_get ys) e

pub within_get : {A : Type 0} (xs : List A) (k : ℕ) → k < length xs → (x : A) × (slice_get xs k ≡ Some x)
within_get [] k h = absurd (omega arith)
within_get (x ∷ xs) zero h = (x, refl)
within_get (x ∷ xs) (suc k) h = within_get xs k (omega arith)

-- ---- classes

module _ (classes : List (ClassDecl Note)) (interfaces : List (InterfaceDecl Note)) where
  classes_long : (c : ℕ) (ds : List (ClassDecl Note)) → length (classes_from classes interfaces c ds) ≡ length ds
  classes_long c [] = refl
  classes_long c (d ∷ ds) = ap suc (classes_long (suc c) ds)

  class_there : (c k : ℕ) (ds : List (ClassDecl Note)) (d : ClassDecl Note) → slice_get ds k ≡ Some d → slice_get (classes_from classes interfaces c ds) k ≡ Some (class_of classes interfaces (c + k) d)
  class_there c k [] d e = cc
  class_there c zero (x ∷ ds) d e =
      let a : x ≡ d = cc in
      let b : c ≡ c + 0 = omega arith in
      ap (λ y. Some (class_of classes interfaces c y)) a ∙ ap (λ n. Some (class_of classes interfaces n d)) b
  class_there c (suc k) (x ∷ ds) d e =
      let b : suc c + k ≡ c + suc k = omega arith in
      class_there (suc c) k ds d e ∙ ap (λ n. Some (class_of classes interfaces n d)) b

  names_of_classes : (c : ℕ) (ds : List (ClassDecl Note)) → class_names (classes_from classes interfaces c ds) ≡ map class_name ds
  names_of_classes c [] = refl
  names_of_classes c (d ∷ ds) = ap (λ ns. d.name.text ∷ ns) (names_of_classes (suc c) ds)

-- ---- programs

programs_long : (c : ℕ) (ds : List (ProgramDecl Note)) → length (programs_from c ds) ≡ length ds
programs_long c [] = refl
programs_long c (d ∷ ds) = ap suc (programs_long (suc c) ds)

names_of_programs : (c : ℕ) (ds : List (ProgramDecl Note)) → class_names (programs_from c ds) ≡ map program_name ds
names_of_programs c [] = refl
names_of_programs c (d ∷ ds) = ap (λ ns. d.name.text ∷ ns) (names_of_programs (suc c) ds)

program_method : (c k : ℕ) (name : List ℕ) (ds : List (ProgramDecl Note)) → method_of (slice_get (programs_from c ds) k) name ≡ None
program_method c k name [] = refl
program_method c zero name (d ∷ ds) = refl
program_method c (suc k) name (d ∷ ds) = program_method (suc c) k name ds

program_interface : (c k i : ℕ) (ds : List (ProgramDecl Note)) → conforming (type.Interface i) (slice_get (programs_from c ds) k) ≡ false
program_interface c k i [] = refl
program_interface c zero i (d ∷ ds) = refl
program_interface c (suc k) i (d ∷ ds) = program_interface (suc c) k i ds

abbrev pub only : {X : Type 0} → ℕ → Option X → List ℕ
only c None = []
only c (Some d) = c ∷ []

program_chain : (c k : ℕ) (ds : List (ProgramDecl Note)) → chain_of (slice_get (programs_from c ds) k) ≡ only (c + k) (slice_get ds k)
program_chain c k [] = refl
program_chain c zero (d ∷ ds) = let e : c ≡ c + 0 = omega arith in ap (λ n. n ∷ []) e
program_chain c (suc k) (d ∷ ds) = let e : suc c + k ≡ c + suc k = omega arith in program_chain (suc c) k ds ∙ ap (λ n. only n (slice_get ds k)) e

module _ (p : CheckedProgram) where
  pub class_is_there : (c : ℕ) (d : ClassDecl Note) → slice_get p.classes c ≡ Some d → class_at (program_of p) c ≡ Some (class_of p.classes p.interfaces c d)
  class_is_there c d e =
      let b : 0 + c ≡ c = omega arith in
      front_get (classes_from p.classes p.interfaces 0 p.classes) (programs_from (length p.classes) p.programs) c (class_of p.classes p.interfaces (0 + c) d) (class_there p.classes p.interfaces 0 c p.classes d e)
      ∙ ap (λ n. Some (class_of p.classes p.interfaces n d)) b

  pub program_at : (c : ℕ) → length p.classes ≤ c → class_at (program_of p) c ≡ slice_get (programs_from (length p.classes) p.programs) (c - length p.classes)
  program_at c h =
      let l = classes_long p.classes p.interfaces 0 p.classes in
      back_get (classes_from p.classes p.interfaces 0 p.classes) (programs_from (length p.classes) p.programs) c (subst (λ n. n ≤ c) (sym l) h)
      ∙ ap (λ n. slice_get (programs_from (length p.classes) p.programs) (c - n)) l

  pub count_classes : length (program_of p).classes ≡ count p
  count_classes =
      let a = length-append (classes_from p.classes p.interfaces 0 p.classes) (programs_from (length p.classes) p.programs) in
      let b = classes_long p.classes p.interfaces 0 p.classes in
      let c = programs_long (length p.classes) p.programs in
      omega (arith, a, b, c)

  pub class_climbs : (c : ℕ) → c < length p.classes → chain_of (class_at (program_of p) c) ≡ chain p.classes c
  class_climbs c h = let a = within_get p.classes c h in ap chain_of (class_is_there c a.0 a.1)

  pub program_climbs : (c : ℕ) → length p.classes ≤ c → chain_of (class_at (program_of p) c) ≡ only c (slice_get p.programs (c - length p.classes))
  program_climbs c h =
      let n : length p.classes + (c - length p.classes) ≡ c = omega arith in
      ap chain_of (program_at c h) ∙ program_chain (length p.classes) (c - length p.classes) p.programs ∙ ap (λ m. only m (slice_get p.programs (c - length p.classes))) n

  pub no_method : (c : ℕ) (name : List ℕ) → length p.classes ≤ c → own_method (program_of p) name c ≡ None
  no_method c name h = ap (λ o. method_of o name) (program_at c h) ∙ program_method (length p.classes) (c - length p.classes) name p.programs

  pub no_interface : (c i : ℕ) → length p.classes ≤ c → conforming (type.Interface i) (class_at (program_of p) c) ≡ false
  no_interface c i h = ap (conforming (type.Interface i)) (program_at c h) ∙ program_interface (length p.classes) (c - length p.classes) i p.programs

  -- ---- the number of a name

  shift_one : (b : Bool) (n : ℕ) (o q : Option ℕ) → ◌≡◌ {A = Option ℕ} (if b then Some 0 else option_map suc (o or_else option_map (λ k. n + k) q)) ((if b then Some 0 else option_map suc o) or_else option_map (λ k. suc n + k) q)
  shift_one true n o q = refl
  shift_one false n (Some k) q = refl
  shift_one false n None None = refl
  shift_one false n None (Some k) = let e : suc (n + k) ≡ suc n + k = omega arith in ap Some e

  zero_on : (q : Option ℕ) → q ≡ option_map (λ k. 0 + k) q
  zero_on None = refl
  zero_on (Some k) = let e : k ≡ 0 + k = omega arith in ap Some e

  first_of_both : (name : List ℕ) (xs ys : List (List ℕ)) → first_place name (xs ++ ys) ≡ (first_place name xs or_else option_map (λ k. length xs + k) (first_place name ys))
  first_of_both name [] ys = zero_on (first_place name ys)
  first_of_both name (x ∷ xs) ys = ap (λ o. if same x name then Some 0 else option_map suc o) (first_of_both name xs ys) ∙ shift_one (same x name) (length xs) (first_place name xs) (first_place name ys)

  names_of_both : (xs ys : List Class) → class_names (xs ++ ys) ≡ class_names xs ++ class_names ys
  names_of_both [] ys = refl
  names_of_both (x ∷ xs) ys = ap (λ ns. x.name ∷ ns) (names_of_both xs ys)

  names_long : (ds : List (ClassDecl Note)) → length (map class_name ds) ≡ length ds
  names_long [] = refl
  names_long (d ∷ ds) = ap suc (names_long ds)

  pub number_of_name : (name : List ℕ) → class_number (program_of p) name ≡ (class_named p.classes name or_else option_map (λ k. length p.classes + k) (first_place name (map program_name p.programs)))
  unfolding class_number
  number_of_name name =
      let cs = classes_from p.classes p.interfaces 0 p.classes in
      let ps = programs_from (length p.classes) p.programs in
      ap (first_place name) (names_of_both cs ps ∙ ap (λ ns. ns ++ class_names ps) (names_of_classes p.classes p.interfaces 0 p.classes) ∙ ap (λ ns. map class_name p.classes ++ ns) (names_of_programs (length p.classes) p.programs))
      ∙ first_of_both name (map class_name p.classes) (map program_name p.programs)
      ∙ ap (λ n. class_named p.classes name or_else option_map (λ k. n + k) (first_place name (map program_name p.programs))) (names_long p.classes)

  -- ---- past all classes

  no_base : (c : ℕ) → length p.classes ≤ c → base_of p.classes c ≡ None
  no_base c h = ap (λ o. option_and_then (λ class. option_and_then (λ base. class_named p.classes base.text) class.base) o) (slice_get_past p.classes c h)

  ends : (k : ℕ) (held : List ℕ) (o : Option ℕ) → o ≡ None → climb (base_of p.classes) k held o ≡ []
  ends zero held o e = refl
  ends (suc k) held o e = ap (climb (base_of p.classes) (suc k) held) e

  pub chain_past : (c : ℕ) → length p.classes ≤ c → chain p.classes c ≡ c ∷ []
  unfolding chain
  chain_past c h = ap (λ cs. c ∷ cs) (ends (length p.classes) (c ∷ []) (base_of p.classes c) (no_base c h))

  pub above_conforms : (c i : ℕ) → list_any (implements_itself p.classes p.interfaces i) (chain p.classes c) ≡ conforms p.classes p.interfaces c (type.Interface i)
  unfolding conforms
  above_conforms c i = refl
