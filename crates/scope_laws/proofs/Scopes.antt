-- Where the text of a class, a method, a function or a program stands, the rules and the meaning agree on what names are.
use Rattle.std.proofs.Common.{◌≡◌, ℕ, zero, suc, Bool, true, false, List, [], ◌∷◌, length, reverse, Option, Some, None, refl, sym, ap, ◌∙◌, subst, inl, inr, nat_eq}
use Rattle.std.specs.Prelude.{if◌then◌else◌, not, ◌&&◌, ◌||◌, filter, option_map, option_and_then, slice_get}
use Rattle.std.specs.List.{list_any}
use Rattle.std.specs.Option.{is_none, is_some}
use Rattle.std.proofs.lemmas.Bool.{eq-eqb}
use Rattle.std.proofs.lemmas.Option.{slice_get-map}
use Rattle.plc_text.specs.Words.{same}
use Rattle.plc_text.specs.declared.code.Code.TheVariants.{E05, E10}
use Rattle.st_types.specs.declared.st_type.StType.{StType}
use Rattle.st_types.specs.declared.st_type.StType.TheVariants as type
use Rattle.st_tree.specs.declared.declaration.ClassDecl.{ClassDecl}
use Rattle.st_tree.specs.declared.declaration.InterfaceDecl.{InterfaceDecl}
use Rattle.st_tree.specs.declared.declaration.SectionSort.{SectionSort}
use Rattle.st_tree.specs.declared.declaration.SectionSort.TheVariants as sort
use Rattle.st_tree.specs.declared.name.Used.{Used}
use Rattle.st_tree.specs.declared.program.Program.{Program as Checked}
use Rattle.st_tree.specs.declared.program.Target.TheVariants as target
use Rattle.st_tree.specs.declared.unit.Decl.{Decl}
use Rattle.st_rules.specs.declared.ids.MethodId.{MethodId}
use Rattle.st_rules.specs.declared.ids.PrototypeId.{PrototypeId}
use Rattle.st_rules.specs.declared.names.DeclaredGlobal.{DeclaredGlobal}
use Rattle.st_rules.specs.declared.names.DeclaredGlobal.TheVariants as global
use Rattle.st_rules.specs.declared.names.DeclaredType.{DeclaredType}
use Rattle.st_rules.specs.declared.names.DeclaredVariable.{DeclaredVariable}
use Rattle.st_rules.specs.Calls.{block_parameters, has_in_outs, is_in_out_sort}
use Rattle.st_rules.specs.Chains.{is_among, nearest, ◌or_else◌, directly}
use Rattle.st_rules.specs.Classes.{classes_in, base_of, chain, class_named, lookup}
use Rattle.st_rules.specs.ClassRules.{class_faults}
use Rattle.st_rules.specs.Interfaces.{interfaces_in, interface_lookup, own_prototype, prototype_names, prototype_id, prototype_within, first_with, has_prototype, extended, interfaces_named}
use Rattle.st_rules.specs.Named.{first_place}
use Rattle.st_rules.specs.Places.{Standing, untold, own_instance, no_base, is_told, super_standing, name_out_of_access, member_out_of_access, body_variable_in_a_method}
use Rattle.st_rules.specs.Scope.{Scope, Meant, a_variable, a_function, an_enumerator, of_untold, qualifier_type, first_named, global_name, global_meaning, global_named, is_global_variable, is_external, is_instance_sort, is_body_sort, is_of_body, is_of_instance, is_inherited, variables_of, variable_named, type_named, of_class, own_entry, base_entry, class_entry, local_entry, entry, method_meaning, enumerator_meaning, only_enumerator, meaning_behind, sought, type_qualifier, dot_qualifier, instance_entry, instance_variable}
use Rattle.st_rules.specs.Scope as rules
use Rattle.st_rules.proofs.Booleans.{none≢some, some-same, true≢false, false≢true, either, or-first, or-second}
use Rattle.st_rules.proofs.ClassLaws.{bases_within, chain_law}
use Rattle.st_unit_rules.specs.declared_names.Declarations.{of_global}
use Rattle.st_unit_rules.specs.declared_names.UnitNames.{unit_names, unit_scope, class_scope, class_declared}
use Rattle.st_unit_rules.specs.declared_names.Variables as written
use Rattle.st_unit_rules.specs.declared_names.Variables.{Written, sections_written}
use Rattle.st_unit_rules.specs.declared_names.WrittenTypes.{type_written}
use Rattle.st_unit_rules.specs.Checked.{Each, TypedRegion, unit_regions, IsChecked}
use Rattle.st_unit_rules.specs.DeclarationRules.{signatures, base_not_found}
use Rattle.st_unit_rules.specs.UnitRefusal.{BreaksNothing}
use Rattle.st_unit_rules.specs.Worth.{same_worth}
use Rattle.st_values.specs.Program as seen
use Rattle.st_values.specs.Program.{Variable, Parameter, Routine, class_variables, conforms, body_of}
use Rattle.st_values.specs.View.{is_of_body as of_body, those, declared_along, body_parameters, class_of, region_of, program_of}
use Rattle.st_meaning.specs.Call.{is_in_out}
use Rattle.st_meaning.specs.st_frame.Use.{a_method_of, the_function}
use Rattle.st_meaning.specs.st_frame.Promise.Types.{Serves, same_place}
use Rattle.st_meaning.specs.st_frame.Promise.Names.{Scope as Around, NameIs}
use Rattle.st_meaning.specs.st_frame.Promise.Calls.{SameInOuts}
use Rattle.resolution_order.specs.told_laws.ToldLaws.{Every}
use Rattle.accepted_texts.specs.formed_units.Formed.{IsFormed}
use Rattle.accepted_texts.specs.told_units.Told.{HasValue, IsToldVariable, IsToldGlobal, AllIsTold}
use Rattle.accepted_texts.proofs.unfolding_laws.CycleLaws.{none_in, not_when}
use Rattle.accepted_texts.proofs.unfolding_laws.ListLaws.{There, there_below, if_there, each_get}
use Rattle.accepted_texts.proofs.unfolding_laws.ChainLaws.{chain_same, class_seen}
use Rattle.accepted_texts.proofs.unfolding_laws.DeclaredLaws.{variables_in_class, members_are}
use Rattle.accepted_texts.proofs.unfolding_laws.NumberLaws.{IsClass}
use Rattle.accepted_texts.proofs.told_units.Whole.{class-rules}
use Rattle.class_laws.proofs.Above.{NoCycle, variables_above, back}
use Rattle.class_laws.proofs.Narrow as Narrow
use Rattle.class_laws.proofs.Same.{assignable_same, bindable_same}
use Rattle.place_laws.specs.Agrees.{Runs, ConstantIs, OneOf, HasPlace, MethodIs, MeantIs, MemberAgrees, Agrees, TakesBy}
use Rattle.place_laws.proofs.Places.{told_as}
use Rattle.scope_laws.specs.Agreement.{HasNumbers, MeetsInterfaces}
use Rattle.scope_laws.proofs.Blocks as Blocks
use Rattle.scope_laws.proofs.Entered.{function_runs, method_runs, interface_runs}
use Rattle.name_laws.proofs.Fields.{field_shown}
use Rattle.name_laws.proofs.Globals.{GlobalAt, globals_are}
use Rattle.name_laws.proofs.PlaceTypes.{KindFine, place_named}
use Rattle.name_laws.proofs.Members.{class_typed, body_locals, class_rows, locals_above}
use Rattle.name_laws.proofs.Routines.{told_there, kind_seen}
use Rattle.name_laws.proofs.Rows.{outside, SeenAt, MemberRow, found_row, found_named, every_named}

-- ---- in-outs among parameters

in_out_test : (x : SectionSort) → is_in_out x ≡ is_in_out_sort x
in_out_test sort.InOut = refl
in_out_test sort.Var = refl
in_out_test sort.Input = refl
in_out_test sort.Output = refl
in_out_test sort.Temp = refl
in_out_test sort.Global = refl
in_out_test sort.External = refl

abbrev AnyInOut : List Parameter → Bool
AnyInOut qs = list_any (λ (q : Parameter). is_in_out q.sort) qs

taken_in_out : (p : seen.Program) (vs : List DeclaredVariable) (qs : List Parameter) → TakesBy p None vs qs → length vs ≡ length qs → AnyInOut qs ≡ true → list_any (λ (v : DeclaredVariable). is_in_out_sort v.sort) vs ≡ true
taken_in_out p [] [] t l h = absurd (false≢true h)
taken_in_out p [] (q ∷ qs) t l h = cc
taken_in_out p (v ∷ vs) [] t l h = absurd t
taken_in_out p (v ∷ vs) (q ∷ qs) t l h = elim (either (is_in_out q.sort) (AnyInOut qs) h) [
  | inl e ↦ or-first (is_in_out_sort v.sort) (list_any (λ (w : DeclaredVariable). is_in_out_sort w.sort) vs) (ap is_in_out_sort (sym (t.0).sort) ∙ (sym (in_out_test q.sort) ∙ e))
  | inr e ↦ or-second (is_in_out_sort v.sort) (list_any (λ (w : DeclaredVariable). is_in_out_sort w.sort) vs) (taken_in_out p vs qs t.1 (shorter l) e)
]
  where
    shorter : suc (length vs) ≡ suc (length qs) → length vs ≡ length qs
    shorter e = cc

abbrev InOutThere : List Variable → Type 0
InOutThere vs = (k l n : ℕ) (w : Variable) → slice_get (those of_body vs) n ≡ Some w → is_in_out w.sort ≡ true → AnyInOut (body_parameters k l vs) ≡ true

in_out_next : (x : SectionSort) (v : Variable) (vs : List Variable) → InOutThere vs → InOutThere (record v { sort = x } ∷ vs)
in_out_next sort.InOut v vs h k l n w e f = refl
in_out_next sort.Input v vs h k l n w e f = h (suc k) l n w e f
in_out_next sort.Output v vs h k l n w e f = h (suc k) l n w e f
in_out_next sort.Temp v vs h k l zero w e f = absurd (true≢false (sym f ∙ ap (λ (x : Variable). is_in_out x.sort) (sym (some-same e))))
in_out_next sort.Temp v vs h k l (suc n) w e f = h k (suc l) n w e f
in_out_next sort.Var v vs h k l n w e f = h (suc k) l n w e f
in_out_next sort.Global v vs h k l n w e f = h (suc k) l n w e f
in_out_next sort.External v vs h k l n w e f = h (suc k) l n w e f

in_out_there : (vs : List Variable) → InOutThere vs
in_out_there [] k l n w e f = absurd (none≢some e)
in_out_there (v ∷ vs) k l n w e f = in_out_next v.sort v vs (in_out_there vs) k l n w e f

-- ---- bases

super_found : Option ℕ → Standing
super_found None = untold
super_found (Some b) = own_instance b

super_at : Option ℕ → Option (ClassDecl ℕ) → Standing
super_at b None = untold
super_at b (Some d) = if is_none d.base then no_base else super_found b

super_seen : (s : Scope) (c : ℕ) → super_standing s (Some c) ≡ super_at (base_of s.classes c) (slice_get s.classes c)
unfolding super_found super_at
super_seen s c = refl

base_told : (s : Scope) (decls : List (Decl ℕ)) (d : ClassDecl ℕ) → base_not_found decls d.base ≡ [] → is_told s (super_at (option_and_then (λ (b : Used ℕ). class_named (classes_in decls) b.text) d.base) (Some d)) ≡ true
unfolding super_found super_at
base_told s decls d h = by d.base h
  where
    named : (o : Option ℕ) → is_none o ≡ false → is_told s (super_found o) ≡ true
    named (Some b) e = refl
    named None e = cc

    by : (o : Option (Used ℕ)) → base_not_found decls o ≡ [] → is_told s (if is_none o then no_base else super_found (option_and_then (λ (b : Used ℕ). class_named (classes_in decls) b.text) o)) ≡ true
    by None e = refl
    by (Some b) e = named (class_named (classes_in decls) b.text) (not_when (is_none (class_named (classes_in decls) b.text)) E05 b.note e)

-- ---- an interface in which something is found is there

interface_range : (is : List (InterfaceDecl ℕ)) (i : ℕ) (name : List ℕ) (id : PrototypeId) → interface_lookup is i name ≡ Some id → There (InterfaceDecl ℕ) is i
unfolding interface_lookup
interface_range is i name id e = by (length is) (slice_get is i) refl e
  where
    by : (n : ℕ) (o : Option (InterfaceDecl ℕ)) → slice_get is i ≡ o → prototype_within is name n i ≡ Some id → There (InterfaceDecl ℕ) is i
    by n (Some d) q f = record { item = d; there = q }
    by zero None q f = absurd (none≢some f)
    by (suc n) None q f =
        let own : own_prototype is name i ≡ None = ap (λ o. option_map (prototype_id i) (option_and_then (λ (d : InterfaceDecl ℕ). first_place name (prototype_names d)) o)) q in
        let none : extended is i ≡ [] = ap (λ o. Rattle.std.specs.Prelude.unwrap_or (option_map (λ (d : InterfaceDecl ℕ). interfaces_named is d.bases) o) []) q in
        absurd (none≢some (sym (ap (λ o. o or_else option_and_then (prototype_within is name n) (first_with (has_prototype is name) (extended is i))) own ∙ ap (λ ks. option_and_then (prototype_within is name n) (first_with (has_prototype is name) ks)) none) ∙ f))

-- ---- types are told

hash_told : (name : List ℕ) (ts : List DeclaredType) → Every (λ (t : DeclaredType). is_some t.kind ≡ true) ts → qualifier_type (type_named name ts) ≡ of_untold → ⊥
hash_told name [] h e = cc
hash_told name (t ∷ ts) h e = by (same t.name name) (hash_told name ts h.1) e
  where
    kind : (o : Option StType) → is_some o ≡ true → rules.qualifier_kind o ≡ of_untold → ⊥
    kind None i f = false≢true i
    kind (Some (type.Enumeration n)) i f = cc
    kind (Some _) i f = cc

    by : (b : Bool) → (qualifier_type (type_named name ts) ≡ of_untold → ⊥) → qualifier_type (if b then Some t else type_named name ts) ≡ of_untold → ⊥
    by true k f = kind t.kind h.0 f
    by false k f = k f

module _ (most : ℕ) (decls : List (Decl ℕ)) (p : Checked) (checked : IsChecked decls p) (well : IsFormed most decls) (good : BreaksNothing decls) (all : AllIsTold decls) (free : NoCycle p)
    (rules_good : (c : ℕ) → class_faults same_worth (classes_in decls) (signatures decls) c ≡ []) (meets : MeetsInterfaces decls p)
  where
    abbrev pp : seen.Program
    pp = program_of p

    abbrev xs : List (ClassDecl ℕ)
    xs = classes_in decls

    chain_among : (c d : ℕ) → is_among d (chain xs c) ≡ true → is_among d (chain p.classes c) ≡ true
    chain_among c d h = subst (λ l. is_among d l ≡ true) (sym (chain_same decls xs p.classes checked.classes c)) h

    conforms_up : (c d : ℕ) → IsClass decls c → is_among d (chain xs c) ≡ true → conforms pp c (type.Instance d) ≡ true
    conforms_up c d t h =
        let y = class_typed decls p checked c t.item t.there in
        back p c (class_of p.classes p.interfaces c y.0) (type.Instance d) (class_seen p c y.0 y.1) (chain_among c d h)

    -- a class in which variables are declared is there
    declaring : (s : Scope) → s.names ≡ unit_names decls → (d : ℕ) (name : List ℕ) (pass : DeclaredVariable → Bool) (v : DeclaredVariable) → variable_named name (filter pass (variables_of s d)) ≡ Some v → IsClass decls d
    unfolding variables_in_class
    declaring s q d name pass v e = by (slice_get s.names.classes d) refl e
      where
        by : (o : Option Rattle.st_rules.specs.declared.names.DeclaredClass.DeclaredClass) → slice_get s.names.classes d ≡ o → variable_named name (filter pass (variables_in_class o)) ≡ Some v → There (ClassDecl ℕ) (classes_in decls) d
        by None r f = absurd (none≢some f)
        by (Some k) r f = Blocks.told_there most decls p checked well good all free d k (ap (λ (a : Rattle.st_rules.specs.declared.names.DeclaredNames.DeclaredNames). slice_get a.classes d) (sym q) ∙ r)

    module _ (c : Option ℕ) (m : Bool) (ls : List DeclaredVariable) where
      abbrev s : Scope
      s = record (unit_scope decls (unit_names decls)) { class = c; in_method = m; locals = ls }

      variables_are : (d : ℕ) (t : IsClass decls d) → variables_of s d ≡ (class_declared decls (unit_names decls) d t.item).variables
      variables_are d t = members_are decls [] d t.item t.there

      class_told : (d : ℕ) (t : IsClass decls d) → Every IsToldVariable (variables_of s d)
      class_told d t = subst (Every IsToldVariable) (sym (variables_are d t)) (all.variables d t.item t.there)

      abbrev RowOf : ℕ → Written → DeclaredVariable → Type 0
      RowOf d = MemberRow (class_scope decls (unit_names decls) d) (class_variables pp d) (body_locals decls p checked d)

      class_row : (d : ℕ) (t : IsClass decls d) → Each (RowOf d) (sections_written (written.sections_in t.item.members)) (variables_of s d)
      class_row d t = subst (Each (RowOf d) (sections_written (written.sections_in t.item.members))) (sym (variables_are d t)) (class_rows decls p checked most well d t.item t.there)

      -- ---- a variable of an instance

      filtered_told : (pass : DeclaredVariable → Bool) (vs : List DeclaredVariable) → Every IsToldVariable vs → Every IsToldVariable (filter pass vs)
      filtered_told pass [] h = tt
      filtered_told pass (v ∷ vs) h = by (pass v) (filtered_told pass vs h.1)
        where
          by : (b : Bool) → Every IsToldVariable (filter pass vs) → Every IsToldVariable (if b then v ∷ filter pass vs else filter pass vs)
          by true k = (h.0, k)
          by false k = k

      both_of : (a b : Bool) → (a && not b) ≡ true → (a ≡ true) × (b ≡ false)
      both_of true false h = (refl, refl)
      both_of true true h = cc
      both_of false b h = cc

      member_is : (k d : ℕ) (name : List ℕ) (v : DeclaredVariable) → IsClass decls k → is_among d (chain xs k) ≡ true → variable_named name (filter is_of_instance (variables_of s d)) ≡ Some v → MemberAgrees pp k v
      member_is k d name v u h e =
          let t = declaring s refl d name is_of_instance v e in
          let r = found_row (RowOf d) is_of_instance name (sections_written (written.sections_in t.item.members)) (variables_of s d) v (class_row d t) e in
          let row = r.1 in
          let q = both_of (is_instance_sort v.sort) v.constant r.2 in
          let n = row.variable (sym row.row.1 ∙ q.1) (ap is_instance_sort (sym row.row.4) ∙ q.0) in
          let y = told_there v.kind (every_named IsToldVariable name (filter is_of_instance (variables_of s d)) v (filtered_told is_of_instance (variables_of s d) (class_told d t)) e).0 in
          record {
            kind = y.0;
            told = y.1;
            number = n.0;
            target = n.1;
            is = (n.2.variable, variables_above p free k d n.0 n.2.variable (conforms_up k d u h) n.2.there, kind_seen pp (class_scope decls (unit_names decls) d) r.0 n.2.variable y.0 n.2.of (sym row.row.2 ∙ y.1));
          }

      nearest_in : {X : Type 0} (has : ℕ → Option X) (cs : List ℕ) (x : X) → nearest has cs ≡ Some x → (d : ℕ) × (is_among d cs ≡ true) × (has d ≡ Some x)
      nearest_in has [] x h = absurd (none≢some h)
      nearest_in has (d ∷ cs) x h = by (has d) refl (nearest_in has cs x) h
        where
          by : (o : Option _) → has d ≡ o → (nearest has cs ≡ Some x → (e : ℕ) × (is_among e cs ≡ true) × (has e ≡ Some x)) → (o or_else nearest has cs) ≡ Some x → (e : ℕ) × (is_among e (d ∷ cs) ≡ true) × (has e ≡ Some x)
          by (Some y) q r f = (d, or-first (nat_eq d d) (is_among d cs) (eq-eqb d d refl), q ∙ f)
          by None q r f = let t = r f in (t.0, or-second (nat_eq t.0 d) (is_among t.0 cs) t.1, t.2)

      chain_there : (k d : ℕ) → is_among d (chain xs k) ≡ true → IsClass decls d → IsClass decls k
      chain_there k d h t = elim ((chain_law xs k d).0 h) [
        | inl q ↦ subst (IsClass decls) q t
        | inr q ↦ there_below xs k (Rattle.scope_laws.proofs.Entered.above_range most decls p checked well good all d k q)
      ]

      member_agrees : (k : ℕ) (name : List ℕ) (x : ℕ × DeclaredVariable) → instance_variable s k name ≡ Some x → MemberAgrees pp k x.1
      unfolding instance_variable
      member_agrees k name x e =
          let d = nearest_in (instance_entry s name) (chain xs k) x e in
          let v = Rattle.st_values.proofs.ShapeLaws.mapped_some (λ w. (d.0, w)) (variable_named name (filter is_of_instance (variables_of s d.0))) x d.2 in
          let t = declaring s refl d.0 name is_of_instance v.0 v.1 in
          subst (λ y. MemberAgrees pp k y.1) v.2 (member_is k d.0 name v.0 (chain_there k d.0 d.1 t) d.1 v.1)

      -- ---- the scope and the text

      module _ (g : Around) (mine : (k : ℕ) → c ≡ Some k → IsClass decls k) (this : (k : ℕ) → c ≡ Some k → g.this ≡ Some k) (locals_told : Every IsToldVariable ls) (locals_fine : Every (KindFine decls p checked good all) ls)
          (locals_placed : (n : List ℕ) (v : DeclaredVariable) → variable_named n ls ≡ Some v → is_external v.sort ≡ false → v.constant ≡ false → (t : StType) → v.kind ≡ Some t → NameIs pp g v.target t × HasPlace v.target)
          (in_body : m ≡ false → (k : ℕ) → c ≡ Some k → g.locals ≡ body_locals decls p checked k) (numbers : HasNumbers pp s)
        where
          pub record IsPlaced (v : DeclaredVariable) : Type 0 where
            pub kind : StType
            pub told : v.kind ≡ Some kind
            pub value : HasValue v
            pub place : v.constant ≡ false → NameIs pp g v.target kind × HasPlace v.target

          placed : (v : DeclaredVariable) → IsToldVariable v → ((t : StType) → v.kind ≡ Some t → v.constant ≡ false → NameIs pp g v.target t × HasPlace v.target) → IsPlaced v
          placed v h f = let y = told_there v.kind h.0 in record { kind = y.0; told = y.1; value = h.1; place = λ e. f y.0 y.1 e }

          -- ---- variables of classes

          not_both : (a b : Bool) → (a && b) ≡ false → b ≡ true → a ≡ false
          not_both true b h e = sym e ∙ h
          not_both false b h e = refl

          member_place : (k d : ℕ) → c ≡ Some k → is_among d (chain xs k) ≡ true → (w : Written) (v : DeclaredVariable) → RowOf d w v → is_external v.sort ≡ false → (m && is_of_body v) ≡ false → (t : StType) → v.kind ≡ Some t → v.constant ≡ false → NameIs pp g v.target t × HasPlace v.target
          member_place k d q h w v r x a t e f = by (is_instance_sort w.sort) (is_body_sort w.sort) refl refl
            where
              plain : w.constant ≡ false
              plain = sym r.row.1 ∙ f

              kind : (y : Variable) → Rattle.accepted_texts.proofs.sized_units.Variables.IsOf (class_scope decls (unit_names decls) d) y w → y.kind ≡ t
              kind y i = kind_seen (program_of p) (class_scope decls (unit_names decls) d) w y t i (sym r.row.2 ∙ e)

              as_variable : (n : ℕ) × (v.target ≡ target.Variable n) × SeenAt (class_scope decls (unit_names decls) d) (class_variables (program_of p) d) n w → NameIs (program_of p) g v.target t × HasPlace v.target
              as_variable n =
                  subst (λ z. NameIs (program_of p) g z t × HasPlace z) (sym n.1)
                  (subst (λ o. Rattle.st_meaning.specs.st_frame.Promise.Names.OwnVariableIs (program_of p) o n.0 t) (sym (this k q)) (n.2.variable, variables_above p free k d n.0 n.2.variable (conforms_up k d (mine k q) h) n.2.there, kind n.2.variable n.2.of), tt)

              as_local : (m ≡ false) → (n : ℕ) × (v.target ≡ target.Local n) × SeenAt (class_scope decls (unit_names decls) d) (body_locals decls p checked d) n w → NameIs (program_of p) g v.target t × HasPlace v.target
              as_local b n =
                  subst (λ z. NameIs (program_of p) g z t × HasPlace z) (sym n.1)
                  ((n.2.variable, ap (λ l. slice_get l n.0) (in_body b k q) ∙ locals_above decls p checked free k d n.0 n.2.variable (chain_among k d h) n.2.there, kind n.2.variable n.2.of), tt)

              by : (i j : Bool) → is_instance_sort w.sort ≡ i → is_body_sort w.sort ≡ j → NameIs (program_of p) g v.target t × HasPlace v.target
              by true j i l = as_variable (r.variable plain i)
              by false true i l = as_local (not_both m (is_of_body v) a (ap (λ z. is_body_sort v.sort && not z) f ∙ (ap (λ z. is_body_sort z && true) r.row.4 ∙ ap (λ z. z && true) l))) (r.local plain l)
              by false false i l = absurd (true≢false (sym (outside w.sort r.inside i l) ∙ (ap is_external (sym r.row.4) ∙ x)))

          -- ---- entries

          abbrev OnePlaced : Option ℕ → DeclaredVariable → Type 0
          OnePlaced None v = is_external v.sort ≡ false → IsPlaced v
          OnePlaced (Some d) v = is_external v.sort ≡ false → (m && is_of_body v) ≡ false → IsPlaced v

          abbrev EntryPlaced : Option (Option ℕ × DeclaredVariable) → Type 0
          EntryPlaced None = Unit {0}
          EntryPlaced (Some e) = OnePlaced e.0 e.1

          either_placed : (a b : Option (Option ℕ × DeclaredVariable)) → EntryPlaced a → EntryPlaced b → EntryPlaced (a or_else b)
          either_placed None b h k = k
          either_placed (Some e) b h k = h

          nearest_placed : (has : ℕ → Option (Option ℕ × DeclaredVariable)) (cs : List ℕ) → ((d : ℕ) → is_among d cs ≡ true → EntryPlaced (has d)) → EntryPlaced (nearest has cs)
          nearest_placed has [] h = tt
          nearest_placed has (d ∷ cs) h = either_placed (has d) (nearest has cs) (h d (or-first (nat_eq d d) (is_among d cs) (eq-eqb d d refl))) (nearest_placed has cs (λ e q. h e (or-second (nat_eq e d) (is_among e cs) q)))

          local_one : (name : List ℕ) (o : Option DeclaredVariable) → variable_named name ls ≡ o → EntryPlaced (option_map (λ v. (None, v)) o)
          local_one name None e = tt
          local_one name (Some v) e = λ x. placed v (every_named IsToldVariable name ls v locals_told e) (λ t q f. locals_placed name v e x f t q)

          own_one : (k : ℕ) → c ≡ Some k → (name : List ℕ) (o : Option DeclaredVariable) → variable_named name (variables_of s k) ≡ o → EntryPlaced (of_class s k o)
          own_one k q name None e = tt
          own_one k q name (Some v) e = λ x a.
              let t = mine k q in
              let r = found_named (RowOf k) name (sections_written (written.sections_in t.item.members)) (variables_of s k) v (class_row k t) e in
              placed v (every_named IsToldVariable name (variables_of s k) v (class_told k t) e) (λ u z f. member_place k k q ((chain_law xs k k).1 (inl refl)) r.0 v r.1 x a u z f)

          base_one : (k d : ℕ) → c ≡ Some k → is_among d (chain xs k) ≡ true → (name : List ℕ) (o : Option DeclaredVariable) → variable_named name (filter is_inherited (variables_of s d)) ≡ o → EntryPlaced (of_class s d o)
          base_one k d q h name None e = tt
          base_one k d q h name (Some v) e = λ x a.
              let t = declaring s refl d name is_inherited v e in
              let r = found_row (RowOf d) is_inherited name (sections_written (written.sections_in t.item.members)) (variables_of s d) v (class_row d t) e in
              placed v (every_named IsToldVariable name (filter is_inherited (variables_of s d)) v (filtered_told is_inherited (variables_of s d) (class_told d t)) e) (λ u z f. member_place k d q h r.0 v r.1 x a u z f)

          class_one : (name : List ℕ) (o : Option ℕ) → c ≡ o → EntryPlaced (class_entry s name o)
          class_one name None q = tt
          class_one name (Some k) q =
              either_placed (own_entry s name k) (nearest (base_entry s name) (chain xs k)) (own_one k q name (variable_named name (variables_of s k)) refl)
              (nearest_placed (base_entry s name) (chain xs k) (λ d h. base_one k d q h name (variable_named name (filter is_inherited (variables_of s d))) refl))

          entry_placed : (name : List ℕ) → EntryPlaced (entry s name)
          entry_placed name = either_placed (local_entry s name) (class_entry s name c) (local_one name (variable_named name ls) refl) (class_one name c refl)

          -- ---- what a name means

          abbrev HasPlaces : List ℕ → Option Meant → Type 0
          HasPlaces name None = Unit {0}
          HasPlaces name (Some (a_variable d v)) = IsPlaced v
          HasPlaces name (Some (rules.a_method id)) = (k : ℕ) × (c ≡ Some k) × MethodIs s pp (a_method_of (type.Instance k) name) id
          HasPlaces name (Some (a_function k r)) = Runs pp (the_function k) r.parameters r.outcome
          HasPlaces name (Some (an_enumerator n k)) = Unit {0}

          places_or : (name : List ℕ) (a b : Option Meant) → HasPlaces name a → HasPlaces name b → HasPlaces name (a or_else b)
          places_or name None b h k = k
          places_or name (Some x) b h k = h

          region_place : (r : ℕ) (w : Written) (t : StType) → slice_get (unit_regions decls) r ≡ Some (of_global w) → type_written (unit_scope decls (unit_names decls)) w.item.kind ≡ Some t → NameIs pp g (target.Region r) t
          region_place r w t e q =
              let d = if_there (TypedRegion decls) (slice_get (unit_regions decls) r) (slice_get p.regions r) (of_global w) e (each_get (TypedRegion decls) (unit_regions decls) p.regions r checked.regions) in
              subst (λ o. Rattle.st_meaning.specs.st_frame.Promise.Names.RegionIs o t) (sym (slice_get-map region_of p.regions r ∙ ap (option_map region_of) d.1)) (d.2.kind ∙ told_as (type_written (unit_scope decls (unit_names decls)) w.item.kind) t q)

          global_places : (name : List ℕ) (x : DeclaredGlobal) → GlobalAt decls x → IsToldGlobal x → HasPlaces name (Some (global_meaning x))
          global_places name (global.Variable v) h t = placed v t (λ u q f. let r = h.2 f in subst (λ z. NameIs pp g z u × HasPlace z) (sym r.1) (region_place r.0 h.0 u r.2 (sym h.1 ∙ q), tt))
          global_places name (global.Function k r) h t = function_runs most decls p checked well good all k h.0 r h.1 h.2

          globals_placed : (name n : List ℕ) (xs : List DeclaredGlobal) → Every (GlobalAt decls) xs → Every IsToldGlobal xs → HasPlaces name (global_named n xs)
          globals_placed name n [] h t = tt
          globals_placed name n (x ∷ xs) h t = by (same (global_name x) n) (globals_placed name n xs h.1 t.1)
            where
              by : (b : Bool) → HasPlaces name (global_named n xs) → HasPlaces name (option_map global_meaning (if b then Some x else first_named global_name n xs))
              by true k = global_places name x h.0 t.0
              by false k = k

          unit_globals : (name n : List ℕ) → HasPlaces name (global_named n (unit_names decls).globals)
          unit_globals name n = globals_placed name n (unit_names decls).globals (globals_are decls good) all.globals

          method_place : (k : ℕ) → c ≡ Some k → (name : List ℕ) (o : Option MethodId) → lookup xs k name ≡ o → HasPlaces name (option_map rules.a_method o)
          method_place k q name None e = tt
          method_place k q name (Some id) e = let r = method_runs most decls p checked well good all rules_good k name id e in (k, q, record { routine = r.0; declared = r.1; runs = r.2 })

          methods_placed : (name : List ℕ) (o : Option ℕ) → c ≡ o → HasPlaces name (option_and_then (λ k. option_map rules.a_method (lookup xs k name)) o)
          methods_placed name None q = tt
          methods_placed name (Some k) q = method_place k q name (lookup xs k name) refl

          only_placed : (name : List ℕ) (ys : List (ℕ × ℕ)) → HasPlaces name (only_enumerator ys)
          only_placed name [] = tt
          only_placed name (y ∷ []) = tt
          only_placed name (y ∷ (z ∷ ys)) = tt

          of_entry : (l : ℕ) (name : List ℕ) (d : Option ℕ) (v : DeclaredVariable) → OnePlaced d v → is_external v.sort ≡ false → name_out_of_access s l (Some (a_variable d v)) ≡ [] → IsPlaced v
          of_entry l name None v h x f = h x
          of_entry l name (Some d) v h x f = h x (not_when (m && is_of_body v) E10 l (none_in (member_out_of_access s l d v) (body_variable_in_a_method s l v) f).1)

          behind_placed : (l : ℕ) (called : Bool) (name : List ℕ) (o : Option (Option ℕ × DeclaredVariable)) → EntryPlaced o → name_out_of_access s l (meaning_behind s called name o) ≡ [] → HasPlaces name (meaning_behind s called name o)
          behind_placed l called name (Some e) h f = by (is_external (e.1).sort) refl f
            where
              by : (b : Bool) → is_external (e.1).sort ≡ b → name_out_of_access s l (if b then global_named (e.1).name (unit_names decls).globals else Some (a_variable e.0 e.1)) ≡ [] → HasPlaces name (if b then global_named (e.1).name (unit_names decls).globals else Some (a_variable e.0 e.1))
              by true q i = unit_globals name (e.1).name
              by false q i = of_entry l name e.0 e.1 h q i
          behind_placed l called name None h f =
              places_or name (if called then method_meaning s name else None) (global_named name (unit_names decls).globals or_else enumerator_meaning s name) (by called)
              (places_or name (global_named name (unit_names decls).globals) (enumerator_meaning s name) (unit_globals name name) (only_placed name _))
            where
              by : (b : Bool) → HasPlaces name (if b then method_meaning s name else None)
              by true = methods_placed name c refl
              by false = tt

          sought_placed : (l : ℕ) (called : Bool) (name : List ℕ) → name_out_of_access s l (sought s called name) ≡ [] → HasPlaces name (sought s called name)
          unfolding sought
          sought_placed l called name f = behind_placed l called name (entry s name) (entry_placed name) f

          meant : (called : Bool) (name : List ℕ) (o : Option Meant) → sought s called name ≡ o → HasPlaces name o → MeantIs s pp g name o
          meant called name None e h = tt
          meant called name (Some (a_variable d v)) e h = record { kind = h.kind; told = h.told; means = by v.constant refl }
            where
              by : (b : Bool) → v.constant ≡ b → OneOf b (ConstantIs (program_of p) v.target h.kind) (NameIs (program_of p) g v.target h.kind × HasPlace v.target)
              by true q = numbers.constant called name d v e q (h.value q) h.kind h.told
              by false q = h.place q
          meant called name (Some (rules.a_method id)) e h = (h.0, h.1, this h.0 h.1, h.2)
          meant called name (Some (a_function k r)) e h = h
          meant called name (Some (an_enumerator n k)) e h = numbers.enumerator called name n k e

          -- ---- qualifiers and bases

          hash : (name : List ℕ) → type_qualifier s name ≡ of_untold → ⊥
          unfolding type_qualifier
          hash name e = hash_told name (unit_names decls).types all.types e

          dot : (name : List ℕ) → dot_qualifier s name ≡ of_untold → ⊥
          unfolding dot_qualifier
          dot name e = by (is_some (entry s name) || list_any (is_global_variable name) (unit_names decls).globals) e
            where
              by : (b : Bool) → (if b then rules.no_qualifier else type_qualifier s name) ≡ of_untold → ⊥
              by true f = cc
              by false f = hash name f

          base : (k b : ℕ) → c ≡ Some k → base_of xs k ≡ Some b → conforms pp k (type.Instance b) ≡ true
          base k b q e = conforms_up k b (mine k q) ((chain_law xs k b).1 (inr (directly k b e)))

          super : (k : ℕ) → c ≡ Some k → is_told s (super_standing s (Some k)) ≡ true
          super k q =
              let t = mine k q in
              let r = class-rules decls good k t.item t.there in
              let up : base_of xs k ≡ option_and_then (λ (b : Used ℕ). class_named xs b.text) t.item.base = ap (option_and_then (λ (d : ClassDecl ℕ). option_and_then (λ (b : Used ℕ). class_named xs b.text) d.base)) t.there in
              ap (is_told s) (super_seen s k) ∙ (ap (λ b. is_told s (super_at b (slice_get xs k))) up ∙ (ap (λ o. is_told s (super_at (option_and_then (λ (b : Used ℕ). class_named xs b.text) t.item.base) o)) t.there ∙ base_told s decls t.item (base_rule r.0 k t.item r.1)))
            where
              base_rule : (i k : ℕ) (d : ClassDecl ℕ) → Rattle.st_unit_rules.specs.DeclarationRules.class_declaration_faults decls i k d ≡ [] → base_not_found decls d.base ≡ []
              base_rule i k d h =
                  let a = none_in _ _ h in
                  let b = none_in _ _ a.0 in
                  let e = none_in _ _ b.0 in
                  let f = none_in _ _ e.0 in
                  let j = none_in _ _ f.0 in
                  let l = none_in _ _ j.0 in
                  let n = none_in _ _ l.0 in
                  let o = none_in _ _ n.0 in
                  (none_in _ (base_not_found decls d.base) o.0).1

          -- ---- in-outs that SUPER() hands on

          same_in_outs : (k b : ℕ) → c ≡ Some k → base_of xs k ≡ Some b → (m && has_in_outs s b) ≡ false → SameInOuts pp g.locals b
          same_in_outs k b q e f = record { by = λ x n w i j z. by m refl x n w i j z }
            where
              there_b : There (ClassDecl ℕ) (classes_in decls) b
              there_b = there_below (classes_in decls) b ((bases_within (classes_in decls)).within k b e).1

              shown : (x : Routine) → body_of (program_of p) b ≡ Some x → Blocks.BodyShown most decls p checked well good all free b x
              shown x i = Blocks.body_shown most decls p checked well good all free b there_b.item x there_b.there i

              by : (y : Bool) → m ≡ y → (x : Routine) (n : ℕ) (w : Variable) → body_of (program_of p) b ≡ Some x → slice_get x.locals n ≡ Some w → is_in_out w.sort ≡ true → (v : Variable) × (slice_get g.locals n ≡ Some v) × (is_in_out v.sort ≡ true) × Serves (program_of p) v.kind w.kind
              by false y x n w i j z =
                  (w, ap (λ l. slice_get l n) (in_body y k q) ∙ locals_above decls p checked free k b n w (chain_among k b ((chain_law (classes_in decls) k b).1 (inr (directly k b e)))) (ap (λ l. slice_get l n) (sym (shown x i).locals) ∙ j), z, same_place)
              by true y x n w i j z =
                  let a = Blocks.block_takes most decls p checked well good all free s refl refl b there_b.item there_b.there in
                  let u = in_out_there (declared_along p.classes (reverse (chain p.classes b))) 0 0 n w (ap (λ l. slice_get l n) (sym (shown x i).locals) ∙ j) z in
                  absurd (true≢false (sym (taken_in_out (program_of p) (block_parameters s b) (body_parameters 0 0 (declared_along p.classes (reverse (chain p.classes b)))) a.0 a.1 u) ∙ (sym (ap (λ h. h && has_in_outs s b) y) ∙ f)))

          -- ---- all of it

          pub agrees : Agrees s pp g
          agrees = record {
            name = λ l called name f. meant called name (sought s called name) refl (sought_placed l called name f);
            dot = dot;
            hash = hash;
            this = this;
            base = base;
            bases = λ k q. let t = mine k q in (t.item, t.there);
            super = super;
            field = λ n name f e. let x = field_shown decls p checked all ls n name f e in record { kind = x.kind; told = x.told; is = x.is };
            member = member_agrees;
            value = numbers.value;
            named = place_named decls p checked good all c m ls mine locals_fine;
            widens = λ t u h. Narrow.widens p t u (assignable_same decls p checked t u ∙ h);
            serves = λ t u h. Narrow.serves p t u (bindable_same decls p checked t u ∙ h);
            method = λ k name id e. let r = method_runs most decls p checked well good all rules_good k name id e in (record { routine = r.0; declared = r.1; runs = r.2 }, record { routine = r.0; declared = r.1; runs = r.3 });
            prototype = λ i name id e. let r = interface_runs most decls p checked well good all rules_good meets i name id (interface_range (interfaces_in decls) i name id e) e in record { routine = r.0; declared = r.1; runs = r.2 };
            body = λ k h. Blocks.block_runs most decls p checked well good all free s refl refl k h;
            base_body = λ k b q e h f. let t = there_below xs b ((bases_within xs).within k b e).1 in (Blocks.base_runs most decls p checked well good all free s refl refl b t.item t.there, same_in_outs k b q e f);
          }
