-- The classes and programs of a checked program, with their chains and their variables, by the unit that it is of.
use Rattle.std.proofs.Common.{◌≡◌, ℕ, zero, suc, ◌+◌, ◌<◌, Bool, true, false, List, [], ◌∷◌, map, reverse, length, Option, Some, None, refl, sym, ap, ◌∙◌, subst, arith}
use Rattle.std.specs.Prelude.{if◌then◌else◌, option_and_then, slice_get}
use Rattle.st_tree.specs.declared.declaration.ClassDecl.{ClassDecl}
use Rattle.st_tree.specs.declared.declaration.InterfaceDecl.{InterfaceDecl}
use Rattle.st_tree.specs.declared.declaration.Member.{Member}
use Rattle.st_tree.specs.declared.declaration.Member.TheVariants as member
use Rattle.st_tree.specs.declared.declaration.ProgramDecl.{ProgramDecl}
use Rattle.st_tree.specs.declared.name.Used.{Used}
use Rattle.st_tree.specs.declared.program.Note.{Note}
use Rattle.st_tree.specs.declared.program.Program.{Program}
use Rattle.st_tree.specs.declared.unit.Decl.{Decl}
use Rattle.st_rules.specs.Chains.{is_among, climb}
use Rattle.st_rules.specs.Classes.{class_named, base_of, chain}
use Rattle.st_rules.specs.Named.{first_place}
use Rattle.st_rules.proofs.Booleans.{none≢some, some-same}
use Rattle.st_rules.proofs.ClassLaws.{bases_within}
use Rattle.st_unit_rules.specs.declared_names.UnitNames.{unit_names, class_scope}
use Rattle.st_unit_rules.specs.declared_names.Variables as written
use Rattle.st_unit_rules.specs.Checked.{Each, EachFrom, IfThere, TypedUsed, TypedSection, TypedMember, TypedClass, class_meant}
use Rattle.st_values.specs.Program.{Variable, a_program, Class, class_at, chain_of, own_of, own_variables, class_variables}
use Rattle.st_values.specs.View.{variables_in, is_kept, those, sections_in, class_of, classes_from, programs_from, program_of}
use Rattle.resolution_order.specs.told_laws.ToldLaws.{Every}
use Rattle.accepted_texts.proofs.unfolding_laws.ListLaws.{every_append, every_reversed, There, there_below, front_get, back_get, from_get, from_long}

-- ---- chains

climb_same : (above other : ℕ → Option ℕ) → ((c : ℕ) → above c ≡ other c) → (n : ℕ) (held : List ℕ) (o : Option ℕ) → climb above n held o ≡ climb other n held o
climb_same above other h zero held o = refl
climb_same above other h (suc n) held None = refl
climb_same above other h (suc n) held (Some c) =
    ap (λ cs. if is_among c held then [] else c ∷ cs) (ap (climb above n (c ∷ held)) (h c) ∙ climb_same above other h n (c ∷ held) (other c))

module _ (classes : List (ClassDecl ℕ)) where
  climb_there : (n : ℕ) (held : List ℕ) (o : Option ℕ) → ((c : ℕ) → o ≡ Some c → c < length classes) → Every (There (ClassDecl ℕ) classes) (climb (base_of classes) n held o)
  climb_there zero held o h = tt
  climb_there (suc n) held None h = tt
  climb_there (suc n) held (Some c) h =
      by (there_below classes c (h c refl)) (climb_there n (c ∷ held) (base_of classes c) (λ b e. ((bases_within classes).within c b e).1)) (is_among c held)
    where
      by : There (ClassDecl ℕ) classes c → Every (There (ClassDecl ℕ) classes) (climb (base_of classes) n (c ∷ held) (base_of classes c)) → (b : Bool)
          → Every (There (ClassDecl ℕ) classes) (if b then [] else c ∷ climb (base_of classes) n (c ∷ held) (base_of classes c))
      by t k true = tt
      by t k false = (t, k)

  pub chain_there : (c : ℕ) → c < length classes → Every (There (ClassDecl ℕ) classes) (chain classes c)
  unfolding chain
  chain_there c h = climb_there (suc (length classes)) [] (Some c) (λ d e. subst (λ (k : ℕ). k < length classes) (some-same e) h)

-- ---- the same bases

module _ (decls : List (Decl ℕ)) where
  names_same : (n : ℕ) (xs : List (ClassDecl ℕ)) (ys : List (ClassDecl Note)) → EachFrom (TypedClass decls) n xs ys → map (λ (d : ClassDecl Note). d.name.text) ys ≡ map (λ (d : ClassDecl ℕ). d.name.text) xs
  names_same n [] [] h = refl
  names_same n [] (y ∷ ys) h = absurd h
  names_same n (x ∷ xs) [] h = absurd h
  names_same n (x ∷ xs) (y ∷ ys) h = ap (λ z. z.text ∷ map (λ (d : ClassDecl Note). d.name.text) ys) h.0.name ∙ ap (λ ns. x.name.text ∷ ns) (names_same (suc n) xs ys h.1)

  module _ (xs : List (ClassDecl ℕ)) (ys : List (ClassDecl Note)) (each : EachFrom (TypedClass decls) 0 xs ys) where
    base_named : (o : Option (Used ℕ)) (q : Option (Used Note)) → IfThere (TypedUsed (class_meant decls)) o q → option_and_then (λ (b : Used Note). class_named ys b.text) q ≡ option_and_then (λ (b : Used ℕ). class_named xs b.text) o
    base_named None None h = refl
    base_named None (Some b) h = absurd h
    base_named (Some a) None h = absurd h
    base_named (Some a) (Some b) h = ap (class_named ys) h.1 ∙ ap (first_place a.text) (names_same 0 xs ys each)

    base_in : (c : ℕ) (o : Option (ClassDecl ℕ)) (q : Option (ClassDecl Note)) → IfThere (TypedClass decls c) o q →
        option_and_then (λ (d : ClassDecl Note). option_and_then (λ (b : Used Note). class_named ys b.text) d.base) q ≡ option_and_then (λ (d : ClassDecl ℕ). option_and_then (λ (b : Used ℕ). class_named xs b.text) d.base) o
    base_in c None None h = refl
    base_in c None (Some b) h = absurd h
    base_in c (Some a) None h = absurd h
    base_in c (Some a) (Some b) h = base_named a.base b.base h.base

    pub base_same : (c : ℕ) → base_of ys c ≡ base_of xs c
    base_same c = base_in (0 + c) (slice_get xs c) (slice_get ys c) (from_get (TypedClass decls) 0 xs ys c each)

    pub chain_same : (c : ℕ) → chain ys c ≡ chain xs c
    unfolding chain
    chain_same c = ap (λ n. climb (base_of ys) (suc n) [] (Some c)) (from_long (TypedClass decls) 0 xs ys each) ∙ climb_same (base_of ys) (base_of xs) base_same (suc (length xs)) [] (Some c)

  -- the sections among the members
  pub sections_typed : (c : ℕ) (xs : List (Member ℕ)) (ys : List (Member Note)) → Each (TypedMember decls c) xs ys → Each (TypedSection (class_scope decls (unit_names decls) c)) (written.sections_in xs) (sections_in ys)
  sections_typed c [] [] h = tt
  sections_typed c [] (y ∷ ys) h = absurd h
  sections_typed c (x ∷ xs) [] h = absurd h
  sections_typed c (member.Section x ∷ xs) (member.Section y ∷ ys) h = (h.0, sections_typed c xs ys h.1)
  sections_typed c (member.Method x ∷ xs) (member.Method y ∷ ys) h = sections_typed c xs ys h.1
  sections_typed c (member.Section x ∷ xs) (member.Method y ∷ ys) h = absurd h.0
  sections_typed c (member.Method x ∷ xs) (member.Section y ∷ ys) h = absurd h.0

-- ---- classes and programs as they are seen

module _ (classes : List (ClassDecl Note)) (interfaces : List (InterfaceDecl Note)) where
  class_from : (c : ℕ) (ds : List (ClassDecl Note)) (i : ℕ) (d : ClassDecl Note) → slice_get ds i ≡ Some d → slice_get (classes_from classes interfaces c ds) i ≡ Some (class_of classes interfaces (c + i) d)
  class_from c [] i d e = absurd (none≢some e)
  class_from c (x ∷ ds) zero d e =
      let q : c ≡ c + 0 = omega arith in
      ap (λ y. Some (class_of classes interfaces c y)) (some-same e) ∙ ap (λ n. Some (class_of classes interfaces n d)) q
  class_from c (x ∷ ds) (suc i) d e =
      let q : suc c + i ≡ c + suc i = omega arith in
      class_from (suc c) ds i d e ∙ ap (λ n. Some (class_of classes interfaces n d)) q

  classes_long : (c : ℕ) (ds : List (ClassDecl Note)) → length ds ≡ length (classes_from classes interfaces c ds)
  classes_long c [] = refl
  classes_long c (d ∷ ds) = ap suc (classes_long (suc c) ds)

-- a program among the classes
pub record IsProgram (c : ℕ) (d : ProgramDecl Note) (k : Class) : Type 0 where
  pub sort : k.sort ≡ a_program
  pub chain : k.chain ≡ c ∷ []
  pub own : k.own ≡ those is_kept (variables_in d.sections)

program_from : (c : ℕ) (ds : List (ProgramDecl Note)) (i : ℕ) (d : ProgramDecl Note) → slice_get ds i ≡ Some d → (k : Class) × (slice_get (programs_from c ds) i ≡ Some k) × IsProgram (c + i) d k
program_from c [] i d e = absurd (none≢some e)
program_from c (x ∷ ds) zero d e =
    let q : c ≡ c + 0 = omega arith in
    (_, refl, record { sort = refl; chain = ap (λ n. n ∷ []) q; own = ap (λ (y : ProgramDecl Note). those is_kept (variables_in y.sections)) (some-same e) })
program_from c (x ∷ ds) (suc i) d e =
    let q : suc c + i ≡ c + suc i = omega arith in
    let r = program_from (suc c) ds i d e in
    (r.0, r.1, subst (λ n. IsProgram n d r.0) q r.2)

module _ (p : Program) where
  pub class_seen : (c : ℕ) (d : ClassDecl Note) → slice_get p.classes c ≡ Some d → class_at (program_of p) c ≡ Some (class_of p.classes p.interfaces c d)
  class_seen c d e =
      let q : 0 + c ≡ c = omega arith in
      front_get (classes_from p.classes p.interfaces 0 p.classes) (programs_from (length p.classes) p.programs) c (class_of p.classes p.interfaces (0 + c) d) (class_from p.classes p.interfaces 0 p.classes c d e)
      ∙ ap (λ n. Some (class_of p.classes p.interfaces n d)) q

  pub program_seen : (i : ℕ) (d : ProgramDecl Note) → slice_get p.programs i ≡ Some d → (k : Class) × (class_at (program_of p) (length p.classes + i) ≡ Some k) × IsProgram (length p.classes + i) d k
  program_seen i d e =
      let r = program_from (length p.classes) p.programs i d e in
      (r.0, back_get (classes_from p.classes p.interfaces 0 p.classes) (programs_from (length p.classes) p.programs) i (length p.classes) (classes_long p.classes p.interfaces 0 p.classes) ∙ r.1, r.2)

  -- each variable of a class, where each is that the classes of its chain declare
  own_every : (R : Variable → Type 0) (cs : List ℕ) → Every (λ c. Every R (own_of (class_at (program_of p) c))) cs → Every R (own_variables (program_of p) cs)
  own_every R [] h = tt
  own_every R (c ∷ cs) h = every_append R (own_of (class_at (program_of p) c)) (own_variables (program_of p) cs) h.0 (own_every R cs h.1)

  pub variables_every : (R : Variable → Type 0) (c : ℕ) (k : Class) → class_at (program_of p) c ≡ Some k → Every (λ b. Every R (own_of (class_at (program_of p) b))) k.chain → Every R (class_variables (program_of p) c)
  unfolding class_variables
  variables_every R c k e h =
      own_every R (reverse (chain_of (class_at (program_of p) c)))
      (every_reversed (λ b. Every R (own_of (class_at (program_of p) b))) (chain_of (class_at (program_of p) c))
      (subst (λ o. Every (λ b. Every R (own_of (class_at (program_of p) b))) (chain_of o)) (sym e) h))
