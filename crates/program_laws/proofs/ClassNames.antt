-- No two variables of an instance have one name, those of its bases among them.
use Rattle.std.proofs.Common.{◌≡◌, ◌≤◌, ◌<◌, ℕ, zero, suc, ◌+◌, true, false, List, [], ◌∷◌, ◌++◌, reverse, length, Option, Some, None, refl, sym, ap, ◌∙◌, subst, inl, inr, arith}
use Rattle.std.specs.Prelude.{◌||◌, not, drop, filter, flat_map, slice_get}
use Rattle.std.proofs.lemmas.Grind.{flat_map-append}
use Rattle.std.proofs.lemmas.List.{map-append, reverse-append}
use Rattle.std.proofs.lemmas.Option.{slice_get_within}
use Rattle.plc_text.specs.Words.{same}
use Rattle.plc_text.specs.declared.code.Code.TheVariants.{E04}
use Rattle.st_tree.specs.declared.declaration.ClassDecl.{ClassDecl}
use Rattle.st_tree.specs.declared.declaration.InterfaceDecl.{InterfaceDecl}
use Rattle.st_tree.specs.declared.declaration.ProgramDecl.{ProgramDecl}
use Rattle.st_tree.specs.declared.declaration.SectionSort.{SectionSort}
use Rattle.st_tree.specs.declared.declaration.SectionSort.TheVariants as sort
use Rattle.st_tree.specs.declared.program.Note.{Note}
use Rattle.st_tree.specs.declared.program.Program.{Program as Checked}
use Rattle.st_tree.specs.declared.unit.Decl.{Decl}
use Rattle.st_rules.specs.Classes.{classes_in, base_of, chain, method_names}
use Rattle.st_rules.specs.Scope.{Scope, is_external, is_instance_sort}
use Rattle.st_rules.proofs.Booleans.{both, neither, true≢false}
use Rattle.st_rules.proofs.ClassLaws.{chain-base_law, chain-top_law}
use Rattle.st_unit_rules.specs.Checked.{Each, EachFrom, TypedClass, TypedProgram, IsChecked}
use Rattle.st_unit_rules.specs.declared_names.Declarations.{programs_in}
use Rattle.st_unit_rules.specs.declared_names.UnitNames.{unit_names, class_scope, program_scope}
use Rattle.st_unit_rules.specs.declared_names.Variables.{Written, sections_written, sections_in, is_kept_written}
use Rattle.st_unit_rules.specs.DeclarationRules.{program_faults}
use Rattle.st_unit_rules.specs.NameRules.{is_named, section_names, member_names, member_name_faults, space_faults, own_variables, of_class, of_bases, variable_texts, variable_of_base}
use Rattle.st_unit_rules.specs.UnitRefusal.{BreaksNothing}
use Rattle.st_values.specs.Program as seen
use Rattle.st_values.specs.Program.{Variable, Class, Program, class_at, chain_of, own_of, class_variables}
use Rattle.st_values.specs.View.{those, is_kept, variables_in, classes_from, programs_from, program_of}
use Rattle.st_values.specs.View as view
use Rattle.resolution_order.specs.told_laws.ToldLaws.{Every}
use Rattle.accepted_texts.proofs.sized_units.Kept.{program_variables}
use Rattle.accepted_texts.proofs.sized_units.Variables.{IsOf, kept_of}
use Rattle.accepted_texts.proofs.unfolding_laws.ChainLaws.{chain_same, chain_there, sections_typed, class_seen}
use Rattle.accepted_texts.proofs.unfolding_laws.CycleLaws.{none_in, none_of_each, not_when}
use Rattle.accepted_texts.proofs.unfolding_laws.ListLaws.{There, every_append, every_at, every_flat, every_joined, every_mapped, every_means, every_one, every_from, every_reversed, if_there, if_found, from_get}
use Rattle.accepted_texts.proofs.unfolding_laws.RegionLaws.{each_program}
use Rattle.class_laws.proofs.Above.{at_number}
use Rattle.declaration_laws.proofs.Numbered.{unique_append}
use Rattle.initial_laws.proofs.Items.{class_fine, on_no_cycle}
use Rattle.initial_laws.proofs.Names.{Differ, Unique, written_texts, section_texts, space_unique, sections_unique}
use Rattle.program_laws.proofs.Differing.{turned, fewer_every, passing_unique, variable_names}

-- what an instance keeps is no external
kept_here : (so : SectionSort) → is_instance_sort so ≡ true → not (is_external so) ≡ true
kept_here sort.Var h = refl
kept_here sort.Input h = refl
kept_here sort.Output h = refl
kept_here sort.InOut h = refl
kept_here sort.Temp h = refl
kept_here sort.Global h = refl
kept_here sort.External h = absurd (true≢false (sym h))

kept_own : (w : Written) → is_kept_written w ≡ true → not (is_external w.sort) ≡ true
kept_own w k = kept_here w.sort (both (is_instance_sort w.sort) (not w.constant) k).0

-- a variable as it is seen has the name that is written
own_names : (s : Scope) (vs : List Variable) (ws : List Written) → Each (IsOf s) vs ws → variable_names vs ≡ written_texts ws
own_names s [] [] h = refl
own_names s [] (w ∷ ws) h = absurd h
own_names s (v ∷ vs) [] h = absurd h
own_names s (v ∷ vs) (w ∷ ws) h = ap (λ n. n ∷ variable_names vs) h.0.name ∙ ap (λ ns. w.name.text ∷ ns) (own_names s vs ws h.1)

differ_behind : (n : List ℕ) (ns : List (List ℕ)) → Differ n ns → Differ n (ns ++ [])
differ_behind n ns h = every_append (λ m. same n m ≡ false) ns [] h tt

module _ (decls : List (Decl ℕ)) (good : BreaksNothing decls) where
  abbrev classes : List (ClassDecl ℕ)
  classes = classes_in decls

  abbrev written : ClassDecl ℕ → List Written
  written d = sections_written (sections_in d.members)

  -- the names of the variables that instances of a class keep
  abbrev kept_texts : ClassDecl ℕ → List (List ℕ)
  kept_texts d = written_texts (filter is_kept_written (written d))

  abbrev texts_at : ℕ → List (List ℕ)
  texts_at c = of_class kept_texts (slice_get classes c)

  abbrev base_texts : ℕ → List (List ℕ)
  base_texts c = of_class variable_texts (slice_get classes c)

  -- ---- one class

  own_unique : (c : ℕ) (d : ClassDecl ℕ) → slice_get classes c ≡ Some d → Unique (kept_texts d)
  unfolding member_name_faults
  own_unique c d e =
      let a = none_in _ _ (class_fine decls good c d e).names in
      let b = none_in (space_faults (member_names d.members)) _ a.0 in
      passing_unique (λ (w : Written). w.name.text) is_kept_written (written d) (sections_unique d.members (space_unique (member_names d.members) b.0))

  narrow_one : (P : List ℕ → Type 0) (o : Option (ClassDecl ℕ)) → Every P (of_class variable_texts o) → Every P (of_class kept_texts o)
  narrow_one P None h = tt
  narrow_one P (Some x) h = fewer_every P (λ (w : Written). w.name.text) (λ (w : Written). not (is_external w.sort)) is_kept_written kept_own (written x) h

  narrow : (P : List ℕ → Type 0) (bs : List ℕ) → Every P (flat_map base_texts bs) → Every P (flat_map texts_at bs)
  narrow P bs h =
      every_joined P texts_at bs (every_means (λ b. Every P (base_texts b)) (λ b. Every P (texts_at b)) (λ b k. narrow_one P (slice_get classes b) k) bs (every_flat P base_texts bs h))

  -- no variable has the name of one of a base
  apart_from_bases : (c : ℕ) (d : ClassDecl ℕ) → slice_get classes c ≡ Some d → Every (λ n. Differ n (flat_map texts_at (drop 1 (chain classes c)))) (kept_texts d)
  unfolding member_name_faults
  apart_from_bases c d e =
      let bs = drop 1 (chain classes c) in
      let variables = of_bases classes variable_texts c in
      let methods = of_bases classes method_names c in
      let P = λ (n : List ℕ). Differ n (flat_map texts_at bs) in
      let a = none_in _ _ (class_fine decls good c d e).names in
      let g = none_in _ (flat_map (variable_of_base variables methods) (own_variables d.members)) a.0 in
      let each : Every (λ (w : Written). P w.name.text) (own_variables d.members) =
      every_means (λ (w : Written). variable_of_base variables methods w ≡ []) (λ (w : Written). P w.name.text)
      (λ w k. narrow (λ m. same w.name.text m ≡ false) bs (none_any w.name.text variables (neither (is_named w.name.text variables) (is_named w.name.text methods) (not_when (is_named w.name.text variables || is_named w.name.text methods) E04 w.name.line k)).0))
      (own_variables d.members) (none_of_each (variable_of_base variables methods) (own_variables d.members) g.1) in
      fewer_every P (λ (w : Written). w.name.text) (λ (w : Written). not (is_external w.sort)) is_kept_written kept_own (written d) (every_mapped P (λ (w : Written). w.name.text) (own_variables d.members) each)
    where
      none_any : (n : List ℕ) (ns : List (List ℕ)) → is_named n ns ≡ false → Differ n ns
      none_any n [] h = tt
      none_any n (m ∷ ns) h = let q = neither (same n m) (is_named n ns) h in (q.0, none_any n ns q.1)

  -- ---- along a chain

  -- each class has different names, and others than those behind it
  abbrev Along : List ℕ → Type 0
  Along [] = Unit {0}
  Along (c ∷ cs) = Unique (texts_at c) × Every (λ n. Differ n (flat_map texts_at cs)) (texts_at c) × Along cs

  here : (c : ℕ) (tail : List ℕ) → chain classes c ≡ c ∷ tail → Along tail → Along (c ∷ tail)
  here c tail q h = by (slice_get classes c) refl
    where
      by : (o : Option (ClassDecl ℕ)) → slice_get classes c ≡ o → Unique (of_class kept_texts o) × Every (λ n. Differ n (flat_map texts_at tail)) (of_class kept_texts o) × Along tail
      by None e = (tt, tt, h)
      by (Some d) e = (own_unique c d e, subst (λ l. Every (λ n. Differ n (flat_map texts_at (drop 1 l))) (kept_texts d)) q (apart_from_bases c d e), h)

  along_next : (n c : ℕ) → ((b : ℕ) → length (chain classes b) < n → Along (chain classes b)) → length (chain classes c) ≤ n → Along (chain classes c)
  along_next n c below l = by (base_of classes c) refl
    where
      by : (o : Option ℕ) → base_of classes c ≡ o → Along (chain classes c)
      by None e = let q = chain-top_law classes c e in subst Along (sym q) (here c [] q tt)
      by (Some b) e =
          let q = chain-base_law classes c b e (on_no_cycle decls good c) in
          let long = ap length q in
          let shorter : length (chain classes b) < n = omega (arith, l, long) in
          subst Along (sym q) (here c (chain classes b) q (below b shorter))

  along_within : (n c : ℕ) → length (chain classes c) ≤ n → Along (chain classes c)
  along_within zero c l = along_next zero c (λ b h. absurd (omega (arith, h))) l
  along_within (suc n) c l = along_next (suc n) c (λ b h. along_within n b (omega (arith, h))) l

  along : (c : ℕ) → Along (chain classes c)
  along c = along_within (length (chain classes c)) c (omega arith)

  -- those of the bases first
  base_first : (cs : List ℕ) → Along cs → Unique (flat_map texts_at (reverse cs))
  base_first [] h = tt
  base_first (c ∷ cs) h =
      let own = texts_at c in
      let behind : Every (λ b. Differ b (own ++ [])) (flat_map texts_at cs) = every_means (λ b. Differ b own) (λ b. Differ b (own ++ [])) (λ b k. differ_behind b own k) (flat_map texts_at cs) (turned own (flat_map texts_at cs) h.1) in
      let before : Every (λ b. Differ b (own ++ [])) (flat_map texts_at (reverse cs)) =
      every_joined (λ b. Differ b (own ++ [])) texts_at (reverse cs)
      (every_reversed (λ b. Every (λ n. Differ n (own ++ [])) (texts_at b)) cs (every_flat (λ b. Differ b (own ++ [])) texts_at cs behind)) in
      subst (λ l. Unique (flat_map texts_at l)) (sym (reverse-append (c ∷ []) cs))
      (subst Unique (sym (flat_map-append texts_at (reverse cs) (c ∷ [])))
      (unique_append (flat_map texts_at (reverse cs)) (own ++ []) (base_first cs h.2) (unique_append own [] h.0 tt (every_one (λ a. Differ a []) (λ a. tt) own)) before))

  -- ---- as they are seen

  module _ (p : Checked) (checked : IsChecked decls p) where
    abbrev Seen : Program
    Seen = program_of p

    class_texts : (d : ClassDecl ℕ) (c : ℕ) (y : ClassDecl Note) → TypedClass decls c d y → variable_names (those is_kept (variables_in (view.sections_in y.members))) ≡ kept_texts d
    class_texts d c y t =
        let s = class_scope decls (unit_names decls) c in
        own_names s (those is_kept (variables_in (view.sections_in y.members))) (filter is_kept_written (written d)) (kept_of s (sections_in d.members) (view.sections_in y.members) (sections_typed decls c d.members y.members t.members))

    texts_seen : (b : ℕ) → There (ClassDecl ℕ) classes b → variable_names (own_of (class_at Seen b)) ≡ texts_at b
    texts_seen b t =
        let z : 0 + b ≡ b = omega arith in
        let y = if_there (TypedClass decls (0 + b)) (slice_get classes b) (slice_get p.classes b) t.item t.there (from_get (TypedClass decls) 0 classes p.classes b checked.classes) in
        let typed : TypedClass decls b t.item y.0 = subst (λ n. TypedClass decls n t.item y.0) z y.2 in
        ap (λ o. variable_names (own_of o)) (class_seen p b y.0 y.1) ∙ (class_texts t.item b y.0 typed ∙ sym (ap (of_class kept_texts) t.there))

    along_seen : (cs : List ℕ) → Every (There (ClassDecl ℕ) classes) cs → variable_names (seen.own_variables Seen cs) ≡ flat_map texts_at cs
    along_seen [] h = refl
    along_seen (c ∷ cs) h =
        map-append (λ (v : Variable). v.name) (own_of (class_at Seen c)) (seen.own_variables Seen cs)
        ∙ (ap (λ ns. ns ++ variable_names (seen.own_variables Seen cs)) (texts_seen c h.0) ∙ ap (λ ns. texts_at c ++ ns) (along_seen cs h.1))

    -- ---- the variables that programs keep

    abbrev OwnUnique : Class → Type 0
    OwnUnique k = Unique (variable_names k.own)

    abbrev Fine : ClassDecl ℕ → Type 0
    Fine d = Unique (kept_texts d)

    classes_own : (cs : List (ClassDecl Note)) (is : List (InterfaceDecl Note)) (n : ℕ) (xs : List (ClassDecl ℕ)) (ys : List (ClassDecl Note)) → EachFrom (TypedClass decls) n xs ys → Every Fine xs → Every OwnUnique (classes_from cs is n ys)
    classes_own cs is n [] [] h f = tt
    classes_own cs is n [] (y ∷ ys) h f = absurd h
    classes_own cs is n (x ∷ xs) [] h f = absurd h
    classes_own cs is n (x ∷ xs) (y ∷ ys) h f = (subst Unique (sym (class_texts x n y h.0)) f.0, classes_own cs is (suc n) xs ys h.1 f.1)

    abbrev ProgramFine : ProgramDecl ℕ → Type 0
    ProgramFine d = Unique (written_texts (filter is_kept_written (sections_written d.sections)))

    program_fine : (d : ProgramDecl ℕ) → program_faults decls d ≡ [] → ProgramFine d
    program_fine d h =
        let a = none_in _ _ h in
        let b = none_in _ _ a.0 in
        let c = none_in _ _ b.0 in
        let e = none_in (space_faults (section_names d.sections)) _ c.0 in
        passing_unique (λ (w : Written). w.name.text) is_kept_written (sections_written d.sections) (subst Unique (section_texts (sections_written d.sections)) (space_unique (section_names d.sections) e.0))

    programs_own : (n : ℕ) (xs : List (ProgramDecl ℕ)) (ys : List (ProgramDecl Note)) → Each (TypedProgram decls) xs ys → Every ProgramFine xs → Every OwnUnique (programs_from n ys)
    programs_own n [] [] h f = tt
    programs_own n [] (y ∷ ys) h f = absurd h
    programs_own n (x ∷ xs) [] h f = absurd h
    programs_own n (x ∷ xs) (y ∷ ys) h f =
        let s = program_scope decls (unit_names decls) x in
        let names = own_names s (those is_kept (variables_in y.sections)) (filter is_kept_written (sections_written x.sections)) (kept_of s x.sections y.sections h.0.sections) in
        (subst Unique (sym names) f.0, programs_own (suc n) xs ys h.1 f.1)

    all_own : Every OwnUnique Seen.classes
    all_own =
        every_append OwnUnique (classes_from p.classes p.interfaces 0 p.classes) (programs_from (length p.classes) p.programs)
        (classes_own p.classes p.interfaces 0 classes p.classes checked.classes (every_from Fine classes own_unique))
        (programs_own (length p.classes) (programs_in decls) p.programs checked.programs (each_program decls ProgramFine program_fine good))

    -- ---- all variables of an instance

    class_unique : (c : ℕ) (y : ClassDecl Note) → slice_get p.classes c ≡ Some y → Unique (variable_names (class_variables Seen c))
    unfolding class_variables
    class_unique c y e =
        let x = if_found (TypedClass decls (0 + c)) (slice_get classes c) (slice_get p.classes c) y e (from_get (TypedClass decls) 0 classes p.classes c checked.classes) in
        let cs = chain classes c in
        let same_chain : chain_of (class_at Seen c) ≡ cs = ap chain_of (class_seen p c y e) ∙ chain_same decls classes p.classes checked.classes c in
        let there = every_reversed (There (ClassDecl ℕ) classes) cs (chain_there classes c (slice_get_within classes c x.0 x.1)) in
        subst (λ l. Unique (variable_names (seen.own_variables Seen (reverse l)))) (sym same_chain) (subst Unique (sym (along_seen (reverse cs) there)) (base_first cs (along c)))

    none_unique : (c : ℕ) → class_at Seen c ≡ None → Unique (variable_names (class_variables Seen c))
    unfolding class_variables
    none_unique c e = subst (λ o. Unique (variable_names (seen.own_variables Seen (reverse (chain_of o))))) (sym e) tt

    pub classes_unique : (c : ℕ) → Unique (variable_names (class_variables Seen c))
    classes_unique c = by (class_at Seen c) refl
      where
        by : (o : Option Class) → class_at Seen c ≡ o → Unique (variable_names (class_variables Seen c))
        by None e = none_unique c e
        by (Some k) e = elim (at_number p c k e) [
          | inl a ↦ class_unique c a.decl a.there
          | inr a ↦ subst (λ vs. Unique (variable_names vs)) (sym (program_variables Seen c k e a.chain)) (every_at OwnUnique Seen.classes c k all_own e)
        ]
