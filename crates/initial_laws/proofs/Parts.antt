-- What declarations say of each field of a structure and each variable that an instance keeps, said of every part of a type.
use Rattle.std.proofs.Common.{◌≡◌, ℕ, suc, ◌+◌, Bool, true, false, List, [], ◌∷◌, reverse, length, Option, Some, None, refl, sym, ap, ◌∙◌, subst, arith}
use Rattle.std.specs.Prelude.{filter, option_map, slice_get, if◌then◌else◌}
use Rattle.std.proofs.lemmas.Option.{slice_get-map}
use Rattle.st_types.specs.declared.st_type.StType.{StType}
use Rattle.st_types.specs.declared.st_type.StType.TheVariants as type
use Rattle.st_tree.specs.declared.declaration.ClassDecl.{ClassDecl}
use Rattle.st_tree.specs.declared.declaration.FieldGroup.{FieldGroup}
use Rattle.st_tree.specs.declared.declaration.InterfaceDecl.{InterfaceDecl}
use Rattle.st_tree.specs.declared.declaration.ProgramDecl.{ProgramDecl}
use Rattle.st_tree.specs.declared.declaration.Section.{Section}
use Rattle.st_tree.specs.declared.declaration.SectionSort.TheVariants as sort
use Rattle.st_tree.specs.declared.declaration.TypeBody.{TypeBody}
use Rattle.st_tree.specs.declared.declaration.TypeBody.TheVariants as body
use Rattle.st_tree.specs.declared.declaration.TypeDecl.{TypeDecl}
use Rattle.st_tree.specs.declared.name.Name.{Name}
use Rattle.st_tree.specs.declared.program.Note.{Note}
use Rattle.st_tree.specs.declared.program.Program.{Program as Checked}
use Rattle.st_tree.specs.declared.unit.Decl.{Decl}
use Rattle.st_tree.specs.Initial.{initial_of}
use Rattle.st_tree.specs.Reads.{no_marks}
use Rattle.st_rules.specs.Classes.{classes_in}
use Rattle.st_rules.specs.Expressions.{told}
use Rattle.st_rules.specs.Scope.{Scope}
use Rattle.st_rules.proofs.Booleans.{none≢some, some-same}
use Rattle.st_unit_rules.specs.Checked.{Each, TypedSection, TypedGroup, TypedEntry, TypedTypeBody, TypedClass, TypedProgram, IsChecked}
use Rattle.st_unit_rules.specs.declared_names.Declarations.{entries_in, programs_in}
use Rattle.st_unit_rules.specs.declared_names.UnitNames.{unit_names, unit_scope}
use Rattle.st_unit_rules.specs.declared_names.Variables.{Written, sections_written, is_kept_written}
use Rattle.st_unit_rules.specs.declared_names.WrittenTypes.{type_written}
use Rattle.st_unit_rules.specs.Initials.{typed_initial}
use Rattle.st_values.specs.Program.{Variable, TypeEntry, Class, Program, class_at, own_of, own_variables, chain_of, class_variables}
use Rattle.st_values.specs.Shape.{fields_of}
use Rattle.st_values.specs.View.{kind_of, initial_in, those, is_kept, sections_in, variables_in, group_variables, groups_in, type_body, type_entry, classes_from, programs_from, program_of}
use Rattle.st_values.proofs.ShapeLaws.{mapped_some}
use Rattle.resolution_order.specs.told_laws.ToldLaws.{Every}
use Rattle.accepted_texts.proofs.sized_units.Outputs.{every_has}
use Rattle.accepted_texts.proofs.sized_units.Variables.{IsOf, given_same, kept_of}
use Rattle.accepted_texts.proofs.unfolding_laws.ChainLaws.{variables_every}
use Rattle.accepted_texts.proofs.unfolding_laws.ViewLaws.{kind_shown}
use Rattle.accepted_texts.proofs.unfolding_laws.ListLaws.{every_append, every_at, every_one, every_from, if_found, each_get, from_get}
use Rattle.constant_laws.specs.Given.{IsPart}

-- ---- what an instance keeps, by what is written

module _ (s : Scope) (R : Variable → Type 0) (F : Written → Type 0) (by_one : (v : Variable) (w : Written) → IsOf s v w → is_kept_written w ≡ true → F w → R v) where
  each_kept : (vs : List Variable) (ws : List Written) → Each (IsOf s) vs ws → Every (λ (w : Written). (is_kept_written w ≡ true) × F w) ws → Every R vs
  each_kept [] [] h f = tt
  each_kept [] (w ∷ ws) h f = absurd h
  each_kept (v ∷ vs) [] h f = absurd h
  each_kept (v ∷ vs) (w ∷ ws) h f = (by_one v w h.0 f.0.0 f.0.1, each_kept vs ws h.1 f.1)

  only_kept : (ws : List Written) → Every F ws → Every (λ (w : Written). (is_kept_written w ≡ true) × F w) (filter is_kept_written ws)
  only_kept [] f = tt
  only_kept (w ∷ ws) f = by (is_kept_written w) refl (only_kept ws f.1)
    where
      by : (b : Bool) → is_kept_written w ≡ b → Every (λ (u : Written). (is_kept_written u ≡ true) × F u) (filter is_kept_written ws) → Every (λ (u : Written). (is_kept_written u ≡ true) × F u) (if b then w ∷ filter is_kept_written ws else filter is_kept_written ws)
      by true e r = ((e, f.0), r)
      by false e r = r

  pub kept_says : (xs : List (Section ℕ)) (ys : List (Section Note)) → Each (TypedSection s) xs ys → Every F (sections_written xs) → Every R (those is_kept (variables_in ys))
  kept_says xs ys t f = each_kept (those is_kept (variables_in ys)) (filter is_kept_written (sections_written xs)) (kept_of s xs ys t) (only_kept (sections_written xs) f)

-- ---- fields, by what is written

module _ (s : Scope) where
  -- the variable is a field of the group
  pub record FieldOf (v : Variable) (g : FieldGroup ℕ) : Type 0 where
    pub kind : v.kind ≡ told (type_written s g.kind)
    pub initial : v.initial ≡ option_map (λ i. typed_initial s (type_written s g.kind) (initial_of i)) g.initial

  module _ (R : Variable → Type 0) (F : FieldGroup ℕ → Type 0) (by_one : (v : Variable) (g : FieldGroup ℕ) → FieldOf v g → F g → R v) where
    group_says : (g : FieldGroup ℕ) (h : FieldGroup Note) → TypedGroup s g h → F g → (ns : List Name) → Every R (group_variables h ns)
    group_says g h t f [] = tt
    group_says g h t f (n ∷ ns) =
        let v : Variable = record { name = n.text; sort = sort.Var; kind = kind_of h.kind; initial = initial_in h.initial; marks = no_marks; address = None } in
        (by_one v g (record { kind = kind_shown s g.kind h.kind t.kind; initial = given_same s g.kind g.initial h.initial t.initial }) f, group_says g h t f ns)

    pub groups_say : (gs : List (FieldGroup ℕ)) (hs : List (FieldGroup Note)) → Each (TypedGroup s) gs hs → Every F gs → Every R (groups_in hs)
    groups_say [] [] t f = tt
    groups_say [] (h ∷ hs) t f = absurd t
    groups_say (g ∷ gs) [] t f = absurd t
    groups_say (g ∷ gs) (h ∷ hs) t f = every_append R (group_variables h h.names) (groups_in hs) (group_says g h t.0 f.0 h.names) (groups_say gs hs t.1 f.1)

module _ (decls : List (Decl ℕ)) (p : Checked) (checked : IsChecked decls p) (R : Variable → Type 0) where
  abbrev Seen : Program
  Seen = program_of p

  -- ---- structures

  abbrev pub FieldsSay : Type 0
  FieldsSay = (n : ℕ) (t : TypeDecl ℕ) (gs : List (FieldGroup ℕ)) (hs : List (FieldGroup Note)) → slice_get (entries_in decls) n ≡ Some t → t.body ≡ body.Structure gs → Each (TypedGroup (unit_scope decls (unit_names decls))) gs hs → Every R (groups_in hs)

  module _ (fields : FieldsSay) where
    of_body : (n : ℕ) (t : TypeDecl ℕ) (a : TypeBody ℕ) (b : TypeBody Note) (vs : List Variable) → slice_get (entries_in decls) n ≡ Some t → t.body ≡ a → TypedTypeBody decls a b → fields_of (type_body b) ≡ Some vs → Every R vs
    of_body n t (body.Alias x) (body.Alias y) vs e q h f = absurd (none≢some f)
    of_body n t (body.Enumeration ns) (body.Enumeration ms) vs e q h f = absurd (none≢some f)
    of_body n t (body.Structure gs) (body.Structure hs) vs e q h f = subst (Every R) (some-same f) (fields n t gs hs e q h)
    of_body n t (body.Alias x) (body.Enumeration ms) vs e q h f = absurd h
    of_body n t (body.Alias x) (body.Structure hs) vs e q h f = absurd h
    of_body n t (body.Enumeration ns) (body.Alias y) vs e q h f = absurd h
    of_body n t (body.Enumeration ns) (body.Structure hs) vs e q h f = absurd h
    of_body n t (body.Structure gs) (body.Alias y) vs e q h f = absurd h
    of_body n t (body.Structure gs) (body.Enumeration ms) vs e q h f = absurd h

    pub structure_says : (n : ℕ) (x : TypeEntry) (vs : List Variable) → slice_get Seen.types n ≡ Some x → fields_of x.body ≡ Some vs → Every R vs
    structure_says n x vs e f =
        let y = mapped_some type_entry (slice_get p.types n) x (sym (slice_get-map type_entry p.types n) ∙ e) in
        let t = if_found (TypedEntry decls) (slice_get (entries_in decls) n) (slice_get p.types n) y.0 y.1 (each_get (TypedEntry decls) (entries_in decls) p.types n checked.types) in
        of_body n t.0 (t.0).body (y.0).body vs t.1 refl (t.2).body (ap (λ (z : TypeEntry). fields_of z.body) y.2 ∙ f)

  -- ---- classes and programs

  abbrev OwnSays : Class → Type 0
  OwnSays k = Every R k.own

  classes_own : (cs : List (ClassDecl Note)) (is : List (InterfaceDecl Note)) (n : ℕ) (ds : List (ClassDecl Note)) → Every (λ (d : ClassDecl Note). Every R (those is_kept (variables_in (sections_in d.members)))) ds → Every OwnSays (classes_from cs is n ds)
  classes_own cs is n [] h = tt
  classes_own cs is n (d ∷ ds) h = (h.0, classes_own cs is (suc n) ds h.1)

  programs_own : (n : ℕ) (ds : List (ProgramDecl Note)) → Every (λ (d : ProgramDecl Note). Every R (those is_kept (variables_in d.sections))) ds → Every OwnSays (programs_from n ds)
  programs_own n [] h = tt
  programs_own n (d ∷ ds) h = (h.0, programs_own (suc n) ds h.1)

  pub record Says : Type 0 where
    pub fields : FieldsSay
    pub classes : (c : ℕ) (d : ClassDecl ℕ) (y : ClassDecl Note) → slice_get (classes_in decls) c ≡ Some d → TypedClass decls c d y → Every R (those is_kept (variables_in (sections_in y.members)))
    pub programs : (k : ℕ) (d : ProgramDecl ℕ) (y : ProgramDecl Note) → slice_get (programs_in decls) k ≡ Some d → TypedProgram decls d y → Every R (those is_kept (variables_in y.sections))

  module _ (says : Says) where
    class_own : (c : ℕ) (y : ClassDecl Note) → slice_get p.classes c ≡ Some y → Every R (those is_kept (variables_in (sections_in y.members)))
    class_own c y e =
        let z : 0 + c ≡ c = omega arith in
        let d = if_found (TypedClass decls (0 + c)) (slice_get (classes_in decls) c) (slice_get p.classes c) y e (from_get (TypedClass decls) 0 (classes_in decls) p.classes c checked.classes) in
        says.classes c d.0 y d.1 (subst (λ n. TypedClass decls n d.0 y) z d.2)

    program_own : (k : ℕ) (y : ProgramDecl Note) → slice_get p.programs k ≡ Some y → Every R (those is_kept (variables_in y.sections))
    program_own k y e =
        let d = if_found (TypedProgram decls) (slice_get (programs_in decls) k) (slice_get p.programs k) y e (each_get (TypedProgram decls) (programs_in decls) p.programs k checked.programs) in
        says.programs k d.0 y d.1 d.2

    all_own : Every OwnSays Seen.classes
    all_own =
        every_append OwnSays (classes_from p.classes p.interfaces 0 p.classes) (programs_from (length p.classes) p.programs)
        (classes_own p.classes p.interfaces 0 p.classes (every_from (λ (d : ClassDecl Note). Every R (those is_kept (variables_in (sections_in d.members)))) p.classes class_own))
        (programs_own (length p.classes) p.programs (every_from (λ (d : ProgramDecl Note). Every R (those is_kept (variables_in d.sections))) p.programs program_own))

    none_say : (c : ℕ) → class_at Seen c ≡ None → Every R (class_variables Seen c)
    unfolding class_variables
    none_say c e = subst (λ q. Every R (own_variables Seen (reverse (chain_of q)))) (sym e) tt

    own_says : (c : ℕ) → Every R (own_of (class_at Seen c))
    own_says c = by (class_at Seen c) refl
      where
        by : (o : Option Class) → class_at Seen c ≡ o → Every R (own_of o)
        by None e = tt
        by (Some k) e = every_at OwnSays Seen.classes c k all_own e

    -- each variable of an instance
    pub variables_say : (c : ℕ) → Every R (class_variables Seen c)
    variables_say c = by (class_at Seen c) refl
      where
        by : (o : Option Class) → class_at Seen c ≡ o → Every R (class_variables Seen c)
        by None e = none_say c e
        by (Some k) e = variables_every p R c k e (every_one (λ b. Every R (own_of (class_at Seen b))) own_says k.chain)

    -- every part of a type
    pub parts_say : (t : StType) (v : Variable) → IsPart Seen t v → R v
    parts_say (type.Structure n) v h = every_has R h.1 v (structure_says says.fields n h.0 h.1 h.2 h.3) h.4
    parts_say (type.Instance c) v h = every_has R (class_variables Seen c) v (variables_say c) h
    parts_say _ v h = absurd h
