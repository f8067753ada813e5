-- Programs one by one, and the one of a name.
use Rattle.std.proofs.Common.{◌≡◌, ℕ, zero, suc, ◌+◌, ◌<◌, ◌≤◌, Bool, true, false, List, [], ◌∷◌, ◌++◌, Option, Some, None, length, get_or, take, map, refl, sym, ap, ◌∙◌, subst, arith, append-nil, Bor}
use Rattle.std.specs.Prelude.{filter, option_map, slice_get, if◌then◌else◌}
use Rattle.std.specs.Map.{keys_of}
use Rattle.std.proofs.lemmas.List.{map-append, length-map}
use Rattle.plc_text.specs.Words.{same}
use Rattle.st_tree.specs.declared.declaration.ProgramDecl.{ProgramDecl}
use Rattle.st_tree.specs.declared.declaration.Section.{Section}
use Rattle.st_tree.specs.declared.unit.Decl.{Decl}
use Rattle.st_tree.specs.declared.unit.Decl.TheVariants as declaration
use Rattle.st_rules.specs.declared.names.DeclaredVariable.{DeclaredVariable}
use Rattle.st_rules.specs.Classes.{classes_in}
use Rattle.st_rules.specs.Named.{first_place}
use Rattle.st_rules.specs.Scope.{Scope, first_named, is_of_instance}
use Rattle.st_rules.proofs.Booleans.{none≢some, some-same}
use Rattle.st_rules.proofs.ListLaws.{take-at, take-end}
use Rattle.st_unit_rules.specs.declared_names.Declarations.{programs_in}
use Rattle.st_unit_rules.specs.declared_names.UnitNames.{unit_names, unit_scope, program_scope, program_locals}
use Rattle.st_unit_rules.specs.declared_names.Variables.{sections_written}
use Rattle.st_unit_rules.specs.Addresses.{all_bits}
use Rattle.st_unit_rules.specs.Checked.{Each}
use Rattle.st_unit_rules.specs.Limits.{sum_of, values_of}
use Rattle.class_rows.specs.Index.{Indexes}
use Rattle.check_names.specs.name_spaces.NamesIn.{names_of}
use Rattle.check_limits.specs.declared.type_sizes.sizes.TypeSizes.{TypeSizes}
use Rattle.check_limits.specs.type_sizes.Size.{capped}
use Rattle.check_limits.specs.type_sizes.Sizes.{Measures}
use Rattle.check_regions.specs.declared.region_rules.programs.InstancedProgram.{InstancedProgram}
use Rattle.check_regions.specs.region_rules.Taken.{IsInstanced}
use Rattle.symbol_table.specs.unit_tables.Scopes.{scope_in}
use Rattle.check_configurations.specs.declared.program_instances.programs.UnitPrograms.{UnitPrograms}
use Rattle.check_configurations.specs.program_instances.Programs.{Has, HasPrograms, IsProgramNamed}

-- ---- what an instance of a program takes

pub instanced_is : (decls : List (Decl ℕ)) (p : ProgramDecl ℕ) (sizes : TypeSizes) (locals : List DeclaredVariable) (values : ℕ) (sections : Bor (List (Section ℕ))) →
    ((s : Scope) → s.classes ≡ classes_in decls → s.names ≡ unit_names decls → Measures sizes s) →
    locals ≡ program_locals (scope_in decls None false []) sections.now →
    ((s : Scope) → Measures sizes s → values ≡ capped (suc (sum_of s (map (λ v. values_of s v.kind) (filter is_of_instance locals))))) →
    sections.now ≡ p.sections →
    IsInstanced decls (Some (record { values = values; sections = sections })) (Some p)
unfolding program_scope
instanced_is decls p sizes locals values sections measures told counted e =
    let s = program_scope decls (unit_names decls) p in
    let same_locals : locals ≡ s.locals = told ∙ ap (program_locals (unit_scope decls (unit_names decls))) e in
    record {
      values-are = counted s (measures s refl refl) ∙ ap (λ vs. capped (suc (sum_of s (map (λ v. values_of s v.kind) (filter is_of_instance vs))))) same_locals;
      bits-are = ap (λ ss. all_bits (sections_written ss)) e;
    }

-- ---- lists that are related

module _ {A B : Type 0} (R : A → B → Type 0) where
  each_more : (as' : List A) (bs : List B) (a : A) (b : B) → Each R as' bs → R a b → Each R (as' ++ a ∷ []) (bs ++ b ∷ [])
  each_more [] [] a b h r = (r, tt)
  each_more (x ∷ xs) (y ∷ ys) a b h r = (h.0, each_more xs ys a b (h.1) r)
  each_more [] (y ∷ ys) a b h r = absurd h
  each_more (x ∷ xs) [] a b h r = absurd h

  each_long : (as' : List A) (bs : List B) → Each R as' bs → length as' ≡ length bs
  each_long [] [] h = refl
  each_long (x ∷ xs) (y ∷ ys) h = ap suc (each_long xs ys (h.1))
  each_long [] (y ∷ ys) h = absurd h
  each_long (x ∷ xs) [] h = absurd h

  -- there is one for what stands at a place
  record At (as' : List A) (k : ℕ) (b : B) : Type 0 where
    item : A
    there : slice_get as' k ≡ Some item
    related : R item b

  each_at : (as' : List A) (bs : List B) (k : ℕ) (b : B) → Each R as' bs → slice_get bs k ≡ Some b → At as' k b
  each_at [] [] k b h e = absurd (none≢some e)
  each_at (x ∷ xs) (y ∷ ys) zero b h e = record { item = x; there = refl; related = subst (R x) (some-same e) (h.0) }
  each_at (x ∷ xs) (y ∷ ys) (suc k) b h e = let t = each_at xs ys k b (h.1) e in record { item = t.item; there = t.there; related = t.related }
  each_at [] (y ∷ ys) k b h e = absurd h
  each_at (x ∷ xs) [] k b h e = absurd h

-- ---- one program more

nothing_indexed : (pairs : List (List ℕ × ℕ)) → pairs ≡ [] → Indexes pairs []
nothing_indexed pairs e = record {
  found = λ name k p. absurd (none≢some (ap (λ (ps : List (List ℕ × ℕ)). slice_get (keys_of ps) p.0) (sym e) ∙ p.1));
  missing = λ name h. refl;
}

pub has_none : (t : UnitPrograms) (decls : List (Decl ℕ)) → t.names.items ≡ [] → t.programs.items ≡ [] → t.places ≡ [] → Has t decls []
has_none t decls n p i = record {
  names-are = ap names_of n;
  take = subst (λ gs. Each (λ g p. IsInstanced decls (Some g) (Some p)) gs []) (sym p) tt;
  places-are = nothing_indexed t.places i;
}

pub has_more : (t t' : UnitPrograms) (decls : List (Decl ℕ)) (p : ProgramDecl ℕ) (g : InstancedProgram) (place : ℕ) → place ≡ length t.programs.items →
    ((names : List (List ℕ)) → Indexes t.places names → place ≡ length names → Indexes t'.places (names ++ p.name.text ∷ [])) →
    IsInstanced decls (Some g) (Some p) →
    t'.programs.items ≡ t.programs.items ++ g ∷ [] →
    names_of t'.names.items ≡ names_of t.names.items ++ p.name ∷ [] →
    (ps : List (ProgramDecl ℕ)) → Has t decls ps → Has t' decls (ps ++ p ∷ [])
has_more t t' decls p g place at index instanced pushed named ps h = record {
  names-are = named ∙ ap (λ ns. ns ++ p.name ∷ []) h.names-are ∙ sym (map-append (λ (q : ProgramDecl ℕ). q.name) ps (p ∷ []));
  take =
      subst (λ gs. Each (λ g p. IsInstanced decls (Some g) (Some p)) gs (ps ++ p ∷ [])) (sym pushed)
      (each_more (λ g p. IsInstanced decls (Some g) (Some p)) t.programs.items ps g p h.take instanced);
  places-are =
      subst (λ ns. Indexes t'.places ns) (sym (map-append (λ (q : ProgramDecl ℕ). q.name.text) ps (p ∷ [])))
      (index (map (λ p. p.name.text) ps) h.places-are
      (at ∙ each_long (λ g p. IsInstanced decls (Some g) (Some p)) t.programs.items ps h.take ∙ sym (length-map ps (λ (q : ProgramDecl ℕ). q.name.text))));
}

pub no_program : (t : UnitPrograms) (decls : List (Decl ℕ)) (ps : List (ProgramDecl ℕ)) → Has t decls ps → Has t decls (ps ++ [])
no_program t decls ps h = subst (λ qs. Has t decls qs) (sym (append-nil ps)) h

-- ---- the declarations of the text

programs_in-append : (xs ys : List (Decl ℕ)) → programs_in (xs ++ ys) ≡ programs_in xs ++ programs_in ys
programs_in-append [] ys = refl
programs_in-append (declaration.Types l ts ∷ xs) ys = programs_in-append xs ys
programs_in-append (declaration.Globals s ∷ xs) ys = programs_in-append xs ys
programs_in-append (declaration.Interface i ∷ xs) ys = programs_in-append xs ys
programs_in-append (declaration.Class c ∷ xs) ys = programs_in-append xs ys
programs_in-append (declaration.Function f ∷ xs) ys = programs_in-append xs ys
programs_in-append (declaration.Program p ∷ xs) ys = ap (λ ps. p ∷ ps) (programs_in-append xs ys)
programs_in-append (declaration.Configuration c ∷ xs) ys = programs_in-append xs ys

module _ (decls ds : List (Decl ℕ)) (i : ℕ) where
  pub programs_next : (t t' : UnitPrograms) (d : Decl ℕ) → i < length ds → d ≡ get_or ds i d → ((ps : List (ProgramDecl ℕ)) → Has t decls ps → Has t' decls (ps ++ programs_in (d ∷ []))) →
      Has t decls (programs_in (take i ds)) → Has t' decls (programs_in (take (i + 1) ds))
  programs_next t t' d l e step h =
      subst (λ ps. Has t' decls ps) (sym (ap programs_in (take-at ds i d l e) ∙ programs_in-append (take i ds) (d ∷ []))) (step (programs_in (take i ds)) h)

  pub programs_ended : (t : UnitPrograms) → length ds ≤ i → ds ≡ decls → Has t decls (programs_in (take i ds)) → HasPrograms t decls
  programs_ended t l e h = record { all = subst (λ xs. Has t decls (programs_in xs)) (take-end ds i l ∙ e) h }

-- ---- the program of a name

module _ {X : Type 0} (name_of : X → List ℕ) (name : List ℕ) where
  record There (xs : List X) (k : ℕ) : Type 0 where
    item : X
    there : slice_get xs k ≡ Some item
    named : first_named name_of name xs ≡ Some item

  there_at : (x : X) (xs : List X) (b : Bool) (o : Option ℕ) (k : ℕ) → same (name_of x) name ≡ b → ((j : ℕ) → o ≡ Some j → There xs j) →
      ◌≡◌ {A = Option ℕ} (if b then Some 0 else option_map suc o) (Some k) → There (x ∷ xs) k
  there_at x xs true o zero e f h = record { item = x; there = refl; named = ap (λ (b : Bool). if b then Some x else first_named name_of name xs) e }
  there_at x xs true o (suc k) e f h = let q : 0 ≡ suc k = some-same h in absurd (omega arith)
  there_at x xs false None k e f h = absurd (none≢some h)
  there_at x xs false (Some j) k e f h =
      let q : suc j ≡ k = some-same h in
      let t = f j refl in
      subst (λ i. There (x ∷ xs) i) q (record { item = t.item; there = t.there; named = ap (λ (b : Bool). if b then Some x else first_named name_of name xs) e ∙ t.named })

  there_is : (xs : List X) (k : ℕ) → first_place name (map name_of xs) ≡ Some k → There xs k
  there_is [] k h = absurd (none≢some h)
  there_is (x ∷ xs) k h = there_at x xs (same (name_of x) name) (first_place name (map name_of xs)) k refl (λ j. there_is xs j) h

  none_at : (x : X) (rest : Option X) (b : Bool) (o : Option ℕ) → (o ≡ None → rest ≡ None) → ◌≡◌ {A = Option ℕ} (if b then Some 0 else option_map suc o) None → (if b then Some x else rest) ≡ None
  none_at x rest true o f h = absurd (none≢some (sym h))
  none_at x rest false None f h = f refl
  none_at x rest false (Some j) f h = absurd (none≢some (sym h))

  none_is : (xs : List X) → first_place name (map name_of xs) ≡ None → first_named name_of name xs ≡ None
  none_is [] h = refl
  none_is (x ∷ xs) h = none_at x (first_named name_of name xs) (same (name_of x) name) (first_place name (map name_of xs)) (none_is xs) h

module _ (t : UnitPrograms) (decls : List (Decl ℕ)) (name : List ℕ) (h : HasPrograms t decls) where
  pub named_at : (place : ℕ) (r : Option (ℕ × InstancedProgram)) → ((names : List (List ℕ)) → Indexes t.places names → Some place ≡ first_place name names) →
      r ≡ option_map (λ g. (place, g)) (slice_get t.programs.items place) → IsProgramNamed decls name r
  named_at place r first e =
      let placed = sym (first (map (λ p. p.name.text) (programs_in decls)) h.all.places-are) in
      let p = there_is (λ (q : ProgramDecl ℕ). q.name.text) name (programs_in decls) place placed in
      let g = each_at (λ g p. IsInstanced decls (Some g) (Some p)) t.programs.items (programs_in decls) place p.item h.all.take p.there in
      subst (λ q. IsProgramNamed decls name q) (sym (e ∙ ap (option_map (λ (x : InstancedProgram). (place, x))) g.there))
      (record { number-is = sym placed; takes = subst (λ o. IsInstanced decls (Some g.item) o) (sym p.named) g.related })

  pub named_none : ((names : List (List ℕ)) → Indexes t.places names → None ≡ first_place name names) → IsProgramNamed decls name None
  named_none first =
      let placed = sym (first (map (λ p. p.name.text) (programs_in decls)) h.all.places-are) in
      record { number-is = sym placed; takes = subst (λ o. IsInstanced decls None o) (sym (none_is (λ (q : ProgramDecl ℕ). q.name.text) name (programs_in decls) placed)) (record { values-are = refl; bits-are = refl }) }
