-- The body of a block takes the parameters that its chain declares, those of its bases first.
use Rattle.std.proofs.Common.{◌≡◌, ◌≤◌, ℕ, suc, ◌+◌, Bool, true, false, List, [], ◌∷◌, ◌++◌, reverse, length, Option, Some, None, refl, sym, ap, ◌∙◌, subst, inl, arith, append-nil, ltb-false}
use Rattle.std.specs.Prelude.{if◌then◌else◌, not, ◌&&◌, nat_lt, filter, flat_map, slice_get}
use Rattle.std.proofs.lemmas.List.Elements.{filter-append}
use Rattle.std.proofs.lemmas.Option.{slice_get_within}
use Rattle.plc_text.specs.declared.code.Code.TheVariants.{E16}
use Rattle.st_types.specs.declared.st_type.StType.{StType}
use Rattle.st_types.specs.declared.st_type.StType.TheVariants as type
use Rattle.st_tree.specs.declared.declaration.ClassDecl.{ClassDecl}
use Rattle.st_tree.specs.declared.declaration.SectionSort.{SectionSort}
use Rattle.st_tree.specs.declared.declaration.SectionSort.TheVariants as sort
use Rattle.st_tree.specs.declared.program.Program.{Program as Checked}
use Rattle.st_tree.specs.declared.unit.Decl.{Decl}
use Rattle.st_tree.specs.Declarations.{is_global}
use Rattle.st_rules.specs.declared.names.DeclaredClass.{DeclaredClass}
use Rattle.st_rules.specs.declared.names.DeclaredNames.{DeclaredNames}
use Rattle.st_rules.specs.declared.names.DeclaredVariable.{DeclaredVariable}
use Rattle.st_rules.specs.declared.signature.ResultType.TheVariants as outcome
use Rattle.st_rules.specs.Calls as calls
use Rattle.st_rules.specs.Calls.{block_parameters}
use Rattle.st_rules.specs.Chains.{is_among}
use Rattle.st_rules.specs.Classes.{classes_in, chain}
use Rattle.st_rules.specs.Numbered.{each_numbered}
use Rattle.st_rules.specs.Scope.{Scope, is_external, is_block_at, variables_of}
use Rattle.st_rules.specs.Signatures.{is_parameter_sort}
use Rattle.st_rules.proofs.Booleans.{none≢some, some-same, true≢false}
use Rattle.st_unit_rules.specs.declared_names.UnitNames.{unit_names, class_scope, class_declared, names_from}
use Rattle.st_unit_rules.specs.declared_names.Variables as written
use Rattle.st_unit_rules.specs.declared_names.Variables.{Written, sections_written, is_body_written}
use Rattle.st_unit_rules.specs.Checked.{Each, IsChecked}
use Rattle.st_unit_rules.specs.DeclarationRules.{item_too_deep, body_locals as body_declared, class_too_deep, class_limits}
use Rattle.st_unit_rules.specs.Limits.{all_values, too_many_methods, too_many_parameters, too_many_locals, too_many_bases}
use Rattle.st_unit_rules.specs.UnitRefusal.{BreaksNothing}
use Rattle.st_values.specs.Program as seen
use Rattle.st_values.specs.Program.{Variable, to_local, to_variable, Parameter, Routine, class_variables, conforms, body_of}
use Rattle.st_values.specs.View.{is_kept, is_of_body, those, variables_in, sections_in, declared_by, declared_along, body_parameters, class_of, program_of}
use Rattle.st_meaning.specs.st_frame.Footprint.{Enters, by_body, by_base}
use Rattle.st_meaning.specs.st_frame.Use.{Called, a_body_of, the_body_from, called_parameters}
use Rattle.st_meaning.specs.st_frame.Promise.Calls.{IsLiving, Answers, most_parameters}
use Rattle.resolution_order.specs.told_laws.ToldLaws.{Every}
use Rattle.resolution_order.proofs.told_laws.Telling.{told_laws}
use Rattle.accepted_texts.specs.formed_units.Formed.{IsFormed}
use Rattle.accepted_texts.specs.told_units.Told.{IsToldVariable, AllIsTold}
use Rattle.accepted_texts.proofs.unfolding_laws.CycleLaws.{none_in, not_when}
use Rattle.accepted_texts.proofs.unfolding_laws.ListLaws.{There, there_below, every_reversed}
use Rattle.accepted_texts.proofs.unfolding_laws.ChainLaws.{chain_there, chain_same, sections_typed, class_seen}
use Rattle.accepted_texts.proofs.unfolding_laws.DeclaredLaws.{variables_in_class}
use Rattle.accepted_texts.proofs.told_units.Inner.{IsRow, AreRows, members-rows}
use Rattle.accepted_texts.proofs.told_units.Whole.{class-rules}
use Rattle.accepted_texts.proofs.sized_units.Variables.{IsOf, is_variable, all_of}
use Rattle.class_laws.proofs.Above.{NoCycle, variables_above, back}
use Rattle.class_laws.proofs.Derived.{derived_begins}
use Rattle.place_laws.specs.Agrees.{Declares, FillsBy, TakesBy, Gives, Runs}
use Rattle.scope_laws.proofs.Entered.{conforming}
use Rattle.name_laws.proofs.Members.{class_typed, kept_by, body_locals, locals_above}
use Rattle.name_laws.proofs.Routines.{told_there as kind_there, kind_seen}
use Rattle.name_laws.proofs.Rows.{From, from_first, from_next, inside_of, no_constant, no_external, Headed, first_of, skipped}
use Rattle.name_laws.proofs.Stands.{IsInside, sections_inside, members_inside, class_formed}
use Rattle.scope_laws.proofs.Texts.{class_there}

-- ---- what a body declares, along its classes

module _ (p : seen.Program) (o : Option Routine) (kept bodies : List Variable) where
  -- where the variables and the locals of the routine are
  pub record Has : Type 0 where
    pub variables : (x : Routine) → o ≡ Some x → (c : ℕ) × (x.class ≡ Some c) × (class_variables p c ≡ kept)
    pub locals : (x : Routine) → o ≡ Some x → x.locals ≡ bodies

  -- all of these parameters, and no more
  pub record TakesAll (vs : List DeclaredVariable) (qs : List Parameter) : Type 0 where
    pub takes : TakesBy p o vs qs
    pub long : length vs ≡ length qs

  module _ (has : Has) where
    fills_variable : (d : DeclaredVariable) (k : ℕ) (v : Variable) (x : SectionSort) (t : StType) → d.kind ≡ Some t → x ≡ d.sort → d.constant ≡ false → slice_get kept k ≡ Some v → v.kind ≡ t → FillsBy p o d (record { sort = x; to = to_variable k })
    fills_variable d k v x t e s c h i = by o refl
      where
        declares : Declares d (record { sort = x; to = to_variable k })
        declares = record { kind = t; told = e; sort = s }

        by : (q : Option Routine) → o ≡ q → FillsBy p q d (record { sort = x; to = to_variable k })
        by None f = declares
        by (Some r) f =
            let w = has.variables r f in
            record { declares = declares; plain = c; there = (v, ap (λ z. Rattle.st_meaning.specs.st_frame.Promise.Calls.own_variable p z k) w.1 ∙ (ap (λ l. slice_get l k) w.2 ∙ h), i) }

    fills_local : (d : DeclaredVariable) (k : ℕ) (v : Variable) (x : SectionSort) (t : StType) → d.kind ≡ Some t → x ≡ d.sort → d.constant ≡ false → slice_get bodies k ≡ Some v → v.kind ≡ t → FillsBy p o d (record { sort = x; to = to_local k })
    fills_local d k v x t e s c h i = by o refl
      where
        declares : Declares d (record { sort = x; to = to_local k })
        declares = record { kind = t; told = e; sort = s }

        by : (q : Option Routine) → o ≡ q → FillsBy p q d (record { sort = x; to = to_local k })
        by None f = declares
        by (Some r) f = record { declares = declares; plain = c; there = (v, ap (λ l. slice_get l k) (has.locals r f) ∙ h, i) }

    add_one : (v : DeclaredVariable) (q : Parameter) (vs : List DeclaredVariable) (qs : List Parameter) → FillsBy p o v q → TakesAll vs qs → TakesAll (v ∷ vs) (q ∷ qs)
    add_one v q vs qs h k = record { takes = (h, k.takes); long = ap suc k.long }

    module _ (s : Scope) where
      -- what stands behind, from whatever numbers
      abbrev Behind : List DeclaredVariable → List Variable → Type 0
      Behind more us = (k l : ℕ) → From kept (those is_kept us) k → From bodies (those is_of_body us) l → TakesAll more (body_parameters k l us)

      drop_one : (d : DeclaredVariable) (ds : List DeclaredVariable) (qs : List Parameter) → calls.is_parameter d ≡ false → TakesAll ds qs → (rest : List DeclaredVariable) → ds ≡ rest → TakesAll rest qs
      drop_one d ds qs e h rest q = subst (λ l. TakesAll l qs) q h

      -- by the sort of the first variable
      member_next : (x : SectionSort) (v : Variable) (us : List Variable) (w : Written) (d : DeclaredVariable) (more : List DeclaredVariable) → IsOf s (record v { sort = x }) w → IsRow s w d → IsToldVariable d → IsInside w → w.constant ≡ false → is_external w.sort ≡ false
          → Behind more us → (k l : ℕ) → From kept (those is_kept (record v { sort = x } ∷ us)) k → From bodies (those is_of_body (record v { sort = x } ∷ us)) l
          → TakesAll (if is_parameter_sort x then d ∷ more else more) (body_parameters k l (record v { sort = x } ∷ us))
      member_next sort.Input v us w d more h r t i c e rest k l a b =
          let y = kind_there d.kind t.0 in
          add_one d _ more _ (fills_variable d k (record v { sort = sort.Input }) sort.Input y.0 y.1 (h.sort ∙ sym r.4) (r.1 ∙ c) (from_first kept (those is_kept us) k (record v { sort = sort.Input }) a) (kind_seen p s w (record v { sort = sort.Input }) y.0 h (sym r.2 ∙ y.1))) (rest (suc k) l (from_next kept (those is_kept us) k (record v { sort = sort.Input }) a) b)
      member_next sort.Output v us w d more h r t i c e rest k l a b =
          let y = kind_there d.kind t.0 in
          add_one d _ more _ (fills_variable d k (record v { sort = sort.Output }) sort.Output y.0 y.1 (h.sort ∙ sym r.4) (r.1 ∙ c) (from_first kept (those is_kept us) k (record v { sort = sort.Output }) a) (kind_seen p s w (record v { sort = sort.Output }) y.0 h (sym r.2 ∙ y.1))) (rest (suc k) l (from_next kept (those is_kept us) k (record v { sort = sort.Output }) a) b)
      member_next sort.InOut v us w d more h r t i c e rest k l a b =
          let y = kind_there d.kind t.0 in
          add_one d _ more _ (fills_local d l (record v { sort = sort.InOut }) sort.InOut y.0 y.1 (h.sort ∙ sym r.4) (r.1 ∙ c) (from_first bodies (those is_of_body us) l (record v { sort = sort.InOut }) b) (kind_seen p s w (record v { sort = sort.InOut }) y.0 h (sym r.2 ∙ y.1))) (rest k (suc l) a (from_next bodies (those is_of_body us) l (record v { sort = sort.InOut }) b))
      member_next sort.Temp v us w d more h r t i c e rest k l a b = rest k (suc l) a (from_next bodies (those is_of_body us) l (record v { sort = sort.Temp }) b)
      member_next sort.Var v us w d more h r t i c e rest k l a b = rest (suc k) l (from_next kept (those is_kept us) k (record v { sort = sort.Var }) a) b
      member_next sort.Global v us w d more h r t i c e rest k l a b = absurd (true≢false (ap is_global h.sort ∙ i))
      member_next sort.External v us w d more h r t i c e rest k l a b = absurd (true≢false (ap is_external h.sort ∙ e))

      parameter_test : (w : Written) (d : DeclaredVariable) (v : Variable) → IsRow s w d → IsOf s v w → w.constant ≡ false → calls.is_parameter d ≡ is_parameter_sort v.sort
      parameter_test w d v r h c = ap (λ z. is_parameter_sort d.sort && not z) (r.1 ∙ c) ∙ (ap (λ z. is_parameter_sort z && true) (r.4 ∙ sym h.sort) ∙ and_true (is_parameter_sort v.sort))
        where
          and_true : (b : Bool) → (b && true) ≡ b
          and_true true = refl
          and_true false = refl

      no_parameter : (w : Written) (d : DeclaredVariable) → IsRow s w d → is_variable w ≡ false → calls.is_parameter d ≡ false
      no_parameter w d r h = ap (λ z. is_parameter_sort z && not d.constant) r.4 ∙ (ap (λ z. is_parameter_sort w.sort && not z) r.1 ∙ by w.constant w.sort h)
        where
          by : (b : Bool) (x : SectionSort) → (not b && not (is_external x)) ≡ false → (is_parameter_sort x && not b) ≡ false
          by true sort.Input q = refl
          by true sort.Output q = refl
          by true sort.InOut q = refl
          by true sort.Var q = refl
          by true sort.Temp q = refl
          by true sort.Global q = refl
          by true sort.External q = refl
          by false sort.External q = refl
          by false sort.Input q = cc
          by false sort.Output q = cc
          by false sort.InOut q = cc
          by false sort.Var q = cc
          by false sort.Temp q = cc
          by false sort.Global q = cc

      append_in : (d : DeclaredVariable) (ds more : List DeclaredVariable) (b : Bool) → calls.is_parameter d ≡ b → (if b then d ∷ (filter calls.is_parameter ds ++ more) else (filter calls.is_parameter ds ++ more)) ≡ filter calls.is_parameter (d ∷ ds) ++ more
      append_in d ds more true e = ap (λ b. (if b then d ∷ filter calls.is_parameter ds else filter calls.is_parameter ds) ++ more) (sym e)
      append_in d ds more false e = ap (λ b. (if b then d ∷ filter calls.is_parameter ds else filter calls.is_parameter ds) ++ more) (sym e)

      -- those of a class, and then those behind
      takes_members : (ws : List Written) (ds : List DeclaredVariable) (vs us : List Variable) (more : List DeclaredVariable) → AreRows s ws ds → Every IsToldVariable ds → Every IsInside ws → Each (IsOf s) vs (filter is_variable ws) → Behind more us
          → Behind (filter calls.is_parameter ds ++ more) (vs ++ us)
      takes_members [] [] [] us more r t i e rest = rest
      takes_members [] [] (v ∷ vs) us more r t i e rest = absurd e
      takes_members [] (d ∷ ds) vs us more r t i e rest = absurd r
      takes_members (w ∷ ws) [] vs us more r t i e rest = absurd r
      takes_members (w ∷ ws) (d ∷ ds) vs us more r t i e rest = by w.constant (is_external w.sort) refl refl (λ vs' e'. takes_members ws ds vs' us more r.1 t.1 i.1 e' rest)
        where
          unseen : is_variable w ≡ false → ((vs' : List Variable) → Each (IsOf s) vs' (filter is_variable ws) → Behind (filter calls.is_parameter ds ++ more) (vs' ++ us)) → Behind (filter calls.is_parameter (d ∷ ds) ++ more) (vs ++ us)
          unseen q rec = λ k l a b. subst (λ z. TakesAll z (body_parameters k l (vs ++ us))) (append_in d ds more false (no_parameter w d r.0 q)) (rec vs (skipped s vs w ws q e) k l a b)

          shown : w.constant ≡ false → is_external w.sort ≡ false → ((vs' : List Variable) → Each (IsOf s) vs' (filter is_variable ws) → Behind (filter calls.is_parameter ds ++ more) (vs' ++ us)) → Headed s vs w (filter is_variable ws) → Behind (filter calls.is_parameter (d ∷ ds) ++ more) (vs ++ us)
          shown c x rec g =
              let z = parameter_test w d g.first r.0 g.of c in
              subst (λ l. Behind (filter calls.is_parameter (d ∷ ds) ++ more) (l ++ us)) (sym g.are)
              (λ k l a b. subst (λ y. TakesAll y (body_parameters k l (g.first ∷ (g.rest ++ us)))) (append_in d ds more (is_parameter_sort (g.first).sort) z)
              (member_next (g.first).sort g.first (g.rest ++ us) w d (filter calls.is_parameter ds ++ more) g.of r.0 t.0 i.0 c x (rec g.rest g.others) k l a b))

          by : (a b : Bool) → w.constant ≡ a → is_external w.sort ≡ b → ((vs' : List Variable) → Each (IsOf s) vs' (filter is_variable ws) → Behind (filter calls.is_parameter ds ++ more) (vs' ++ us)) → Behind (filter calls.is_parameter (d ∷ ds) ++ more) (vs ++ us)
          by true b c x rec = unseen (no_constant w c) rec
          by false true c x rec = unseen (no_external w c x) rec
          by false false c x rec = shown c x rec (first_of s vs w ws (inside_of w c x) e)

-- what is not there is no block
unfoldable block_sort : Option DeclaredClass → Bool
block_sort None = false
block_sort (Some k) = Rattle.st_rules.specs.ClassRules.is_block_sort k.sort

block_seen : (s : Scope) (c : ℕ) → is_block_at s c ≡ block_sort (slice_get s.names.classes c)
unfolding block_sort
block_seen s c = refl

none_block : (s : Scope) (c : ℕ) → slice_get s.names.classes c ≡ None → is_block_at s c ≡ false
unfolding block_sort
none_block s c e = block_seen s c ∙ ap block_sort e

abbrev classes_told : DeclaredNames → List DeclaredClass
classes_told a = a.classes

numbered_long : {X Y : Type 0} (f : ℕ → X → Y) (n : ℕ) (ys : List X) → length (each_numbered (λ k y. f k y ∷ []) n ys) ≡ length ys
numbered_long f n [] = refl
numbered_long f n (y ∷ ys) = ap suc (numbered_long f (suc n) ys)

-- ---- in a unit

module _ (most : ℕ) (decls : List (Decl ℕ)) (p : Checked) (checked : IsChecked decls p) (well : IsFormed most decls) (good : BreaksNothing decls) (all : AllIsTold decls) (free : NoCycle p) where
  abbrev pp : seen.Program
  pp = program_of p

  abbrev xs : List (ClassDecl ℕ)
  xs = classes_in decls

  -- the parameters that classes declare, in the unit
  abbrev declared_parameters : List ℕ → List DeclaredVariable
  declared_parameters cs = flat_map (λ d. filter calls.is_parameter (variables_in_class (slice_get (unit_names decls).classes d))) cs

  takes_along : (o : Option Routine) (kept bodies : List Variable) → Has pp o kept bodies → (cs : List ℕ) → Every (There (ClassDecl ℕ) xs) cs → (k l : ℕ) → From kept (those is_kept (declared_along p.classes cs)) k → From bodies (those is_of_body (declared_along p.classes cs)) l
      → TakesAll pp o kept bodies (declared_parameters cs) (body_parameters k l (declared_along p.classes cs))
  unfolding variables_in_class
  takes_along o kept bodies has [] h k l a b = record { takes = tt; long = refl }
  takes_along o kept bodies has (c ∷ cs) h k l a b =
      let d = (h.0).item in
      let y = class_typed decls p checked c d (h.0).there in
      let s = class_scope decls (unit_names decls) c in
      let ss = written.sections_in d.members in
      let ys = sections_in (y.0).members in
      let own : declared_by (slice_get p.classes c) ≡ variables_in ys = ap declared_by y.1 in
      let ds = (class_declared decls (unit_names decls) c d).variables in
      let rest = declared_parameters cs in
      let r = takes_members pp o kept bodies has s (sections_written ss) ds (variables_in ys) (declared_along p.classes cs) rest (members-rows s _ _ (sections_written ss)) (all.variables c d (h.0).there)
      (sections_inside ss (members_inside d.members (class_formed most decls well c d (h.0).there).members)) (all_of s ss ys (sections_typed decls c d.members (y.0).members (y.2).members))
      (λ k' l' a' b'. takes_along o kept bodies has cs h.1 k' l' a' b') in
      let whole : declared_along p.classes (c ∷ cs) ≡ variables_in ys ++ declared_along p.classes cs = ap (λ l. l ++ declared_along p.classes cs) own in
      let mine : filter calls.is_parameter ds ++ rest ≡ declared_parameters (c ∷ cs) = ap (λ o. filter calls.is_parameter (variables_in_class o) ++ rest) (sym (class_there decls c d (h.0).there)) in
      subst (λ z. TakesAll pp o kept bodies z (body_parameters k l (declared_along p.classes (c ∷ cs)))) mine
      (subst (λ z. TakesAll pp o kept bodies (filter calls.is_parameter ds ++ rest) (body_parameters k l z)) (sym whole)
      (r k l (subst (λ z. From kept (those is_kept z) k) whole a) (subst (λ z. From bodies (those is_of_body z) l) whole b)))

  -- ---- the body of a class

  chains_are : (c : ℕ) → chain p.classes c ≡ chain xs c
  chains_are c = chain_same decls xs p.classes checked.classes c

  -- the body as it is seen
  pub record BodyShown (c : ℕ) (x : Routine) : Type 0 where
    pub class : x.class ≡ Some c
    pub parameters : x.parameters ≡ body_parameters 0 0 (declared_along p.classes (reverse (chain p.classes c)))
    pub locals : x.locals ≡ body_locals decls p checked c

  pub body_shown : (c : ℕ) (d : ClassDecl ℕ) (x : Routine) → slice_get xs c ≡ Some d → body_of pp c ≡ Some x → BodyShown c x
  body_shown c d x e f =
      let y = class_typed decls p checked c d e in
      let q : (class_of p.classes p.interfaces c y.0).body ≡ x = some-same (sym (ap Rattle.st_values.specs.Program.body_in (class_seen p c y.0 y.1)) ∙ f) in
      subst (BodyShown c) q (record { class = refl; parameters = refl; locals = refl })

  pub body_there : (c : ℕ) (d : ClassDecl ℕ) → slice_get xs c ≡ Some d → (x : Routine) × (body_of pp c ≡ Some x)
  body_there c d e = let y = class_typed decls p checked c d e in ((class_of p.classes p.interfaces c y.0).body, ap Rattle.st_values.specs.Program.body_in (class_seen p c y.0 y.1))

  kept_own : (c : ℕ) → There (ClassDecl ℕ) xs c → those is_kept (declared_by (slice_get p.classes c)) ≡ kept_by decls p checked c
  kept_own c t =
      let y = class_typed decls p checked c t.item t.there in
      ap (λ o. those is_kept (declared_by o)) y.1 ∙ sym (ap Rattle.st_values.specs.Program.own_of (class_seen p c y.0 y.1))

  kept_declared : (cs : List ℕ) → Every (There (ClassDecl ℕ) xs) cs → those is_kept (declared_along p.classes cs) ≡ seen.own_variables pp cs
  kept_declared [] h = refl
  kept_declared (c ∷ cs) h =
      filter-append (λ (v : Variable). is_kept v.sort) (declared_by (slice_get p.classes c)) (declared_along p.classes cs)
      ∙ (ap (λ l. l ++ those is_kept (declared_along p.classes cs)) (kept_own c h.0) ∙ ap (λ l. kept_by decls p checked c ++ l) (kept_declared cs h.1))

  bases_up : (c : ℕ) (d : ClassDecl ℕ) → slice_get xs c ≡ Some d → Every (There (ClassDecl ℕ) xs) (reverse (chain xs c))
  bases_up c d e = every_reversed (There (ClassDecl ℕ) xs) (chain xs c) (chain_there xs c (slice_get_within xs c d e))

  variables_are : (c : ℕ) (d : ClassDecl ℕ) → slice_get xs c ≡ Some d → those is_kept (declared_along p.classes (reverse (chain p.classes c))) ≡ class_variables pp c
  unfolding class_variables
  variables_are c d e =
      let y = class_typed decls p checked c d e in
      ap (λ cs. those is_kept (declared_along p.classes (reverse cs))) (chains_are c)
      ∙ (kept_declared (reverse (chain xs c)) (bases_up c d e)
      ∙ ap (λ cs. seen.own_variables pp (reverse cs)) (sym (chains_are c) ∙ sym (ap seen.chain_of (class_seen p c y.0 y.1))))

  -- what conforms has the variables and the locals at the same numbers
  above_variables : (x c : ℕ) (d : ClassDecl ℕ) → slice_get xs c ≡ Some d → conforms pp x (type.Instance c) ≡ true → From (class_variables pp x) (those is_kept (declared_along p.classes (reverse (chain p.classes c)))) 0
  above_variables x c d e h = record { by = λ j v f. let z : 0 + j ≡ j = omega arith in ap (slice_get (class_variables pp x)) z ∙ variables_above p free x c j v h (ap (λ l. slice_get l j) (sym (variables_are c d e)) ∙ f) }

  above_locals : (x c : ℕ) → is_among c (chain p.classes x) ≡ true → From (body_locals decls p checked x) (body_locals decls p checked c) 0
  above_locals x c h = record { by = λ j v f. let z : 0 + j ≡ j = omega arith in ap (slice_get (body_locals decls p checked x)) z ∙ locals_above decls p checked free x c j v h f }

  parameters_of : (s : Scope) → s.classes ≡ xs → s.names ≡ unit_names decls → (c : ℕ) → block_parameters s c ≡ declared_parameters (reverse (chain xs c))
  unfolding block_parameters variables_in_class
  parameters_of s e f c = ap (λ k. flat_map (λ d. filter calls.is_parameter (variables_of s d)) (reverse (chain k c))) e ∙ ap (λ a. flat_map (λ d. filter calls.is_parameter (variables_in_class (slice_get (classes_told a) d))) (reverse (chain xs c))) f

  -- a class as a block
  class_takes : (o : Option Routine) (x c : ℕ) (d : ClassDecl ℕ) → slice_get xs c ≡ Some d → conforms pp x (type.Instance c) ≡ true → is_among c (chain p.classes x) ≡ true → Has pp o (class_variables pp x) (body_locals decls p checked x)
      → TakesAll pp o (class_variables pp x) (body_locals decls p checked x) (declared_parameters (reverse (chain xs c))) (body_parameters 0 0 (declared_along p.classes (reverse (chain p.classes c))))
  class_takes o x c d e h m has =
      subst (λ z. TakesAll pp o (class_variables pp x) (body_locals decls p checked x) (declared_parameters (reverse (chain xs c))) (body_parameters 0 0 (declared_along p.classes (reverse z)))) (sym (chains_are c))
      (takes_along o (class_variables pp x) (body_locals decls p checked x) has (reverse (chain xs c)) (bases_up c d e) 0 0
      (subst (λ z. From (class_variables pp x) (those is_kept (declared_along p.classes (reverse z))) 0) (chains_are c) (above_variables x c d e h))
      (subst (λ z. From (body_locals decls p checked x) (those is_of_body (declared_along p.classes (reverse z))) 0) (chains_are c) (above_locals x c m)))

  itself_among : (c : ℕ) → is_among c (chain p.classes c) ≡ true
  itself_among c = (Rattle.st_rules.proofs.ClassLaws.chain_law p.classes c c).1 (inl refl)

  itself_conforms : (c : ℕ) (d : ClassDecl ℕ) → slice_get xs c ≡ Some d → conforms pp c (type.Instance c) ≡ true
  itself_conforms c d e = let y = class_typed decls p checked c d e in back p c (class_of p.classes p.interfaces c y.0) (type.Instance c) (class_seen p c y.0 y.1) (itself_among c)

  none_has : (c : ℕ) → Has pp None (class_variables pp c) (body_locals decls p checked c)
  none_has c = record { variables = λ x e. absurd (none≢some e); locals = λ x e. absurd (none≢some e) }

  some_has : (c : ℕ) (x : Routine) → BodyShown c x → Has pp (Some x) (class_variables pp c) (body_locals decls p checked c)
  some_has c x b = record {
    variables = λ y e. (c, ap (λ (z : Routine). z.class) (sym (some-same e)) ∙ b.class, refl);
    locals = λ y e. ap (λ (z : Routine). z.locals) (sym (some-same e)) ∙ b.locals;
  }

  few_declared : (c : ℕ) (d : ClassDecl ℕ) → slice_get xs c ≡ Some d → length (declared_parameters (reverse (chain xs c))) ≤ most_parameters
  few_declared c d e =
      let s = class_scope decls (unit_names decls) c in
      let r = class-rules decls good c d e in
      let n = length (block_parameters s c) in
      let bodies = none_in _ _ r.1 in
      let limits = none_in _ (class_limits decls s r.0 c d) bodies.0 in
      let last = none_in _ (flat_map (λ (w : Written). item_too_deep decls s w.item) (filter is_body_written (sections_written (written.sections_in d.members)))) limits.1 in
      let deep = none_in _ (class_too_deep decls s r.0 c d) last.0 in
      let bases = none_in _ (too_many_bases d.line xs c) deep.0 in
      let locals = none_in _ (too_many_locals d.line (all_values s (body_declared decls s c))) bases.0 in
      let few = none_in (too_many_methods d.line _) (too_many_parameters d.line n) locals.0 in
      let l = ltb-false 32 n (not_when (nat_lt 32 n) E16 d.line few.1) in
      let z : n ≡ length (declared_parameters (reverse (chain xs c))) = ap length (parameters_of s refl refl c) in
      omega (arith, l, z)

  few_shown : (c : ℕ) (d : ClassDecl ℕ) (x : Routine) → slice_get xs c ≡ Some d → BodyShown c x → length x.parameters ≤ most_parameters
  few_shown c d x e b =
      let t = class_takes None c c d e (itself_conforms c d e) (itself_among c) (none_has c) in
      let n = t.long in
      let m = ap length b.parameters in
      let l = few_declared c d e in
      omega (arith, n, m, l)

  told_long : length (unit_names decls).classes ≡ length xs
  unfolding names_from
  told_long = ap (λ (a : DeclaredNames). length a.classes) (sym (told_laws.settled decls)) ∙ numbered_long (class_declared decls (unit_names decls)) 0 xs

  -- a class of which something is told is there
  pub told_there : (c : ℕ) (k : DeclaredClass) → slice_get (unit_names decls).classes c ≡ Some k → There (ClassDecl ℕ) xs c
  told_there c k e =
      let l = slice_get_within (unit_names decls).classes c k e in
      let n = told_long in
      there_below xs c (omega (arith, l, n))

  -- ---- bodies that a call may enter

  module _ (s : Scope) (classes_same : s.classes ≡ xs) (names_same : s.names ≡ unit_names decls) where
    block_there : (c : ℕ) → is_block_at s c ≡ true → There (ClassDecl ℕ) xs c
    block_there c h = by (slice_get s.names.classes c) refl
      where
        by : (o : Option DeclaredClass) → slice_get s.names.classes c ≡ o → There (ClassDecl ℕ) (classes_in decls) c
        by None e = absurd (true≢false (sym h ∙ none_block s c e))
        by (Some k) e = told_there c k (ap (λ (a : DeclaredNames). slice_get a.classes c) (sym names_same) ∙ e)

    abbrev Suits : Called → ℕ → Routine → Type 0
    Suits k c x = Answers pp k (λ y. TakesBy pp (Some y) (block_parameters s c) (called_parameters pp (Some k)) × Gives y outcome.Nothing) x

    called_are : (c : ℕ) (x : Routine) → BodyShown c x → body_of pp c ≡ Some x → called_parameters pp (Some (a_body_of (type.Instance c))) ≡ body_parameters 0 0 (declared_along p.classes (reverse (chain p.classes c)))
    called_are c x b e = ap Rattle.st_meaning.specs.st_frame.Use.parameters_of e ∙ b.parameters

    block_enters : (c : ℕ) (t : There (ClassDecl ℕ) xs c) (x : Routine) (n : Enters pp (a_body_of (type.Instance c)) x) → IsLiving pp n → Suits (a_body_of (type.Instance c)) c x
    block_enters c t x (by_body d m e) l =
        let w = conforming most decls p checked well good all d c (slice_get_within xs c t.item t.there) m in
        let u = there_below xs d w.within in
        let b = body_shown d u.item x u.there e in
        let o = body_there c t.item t.there in
        let q = body_shown c t.item o.0 t.there o.1 in
        let among : is_among c (chain p.classes d) ≡ true = subst (λ z. is_among c z ≡ true) (sym (chains_are d)) w.among in
        let a = class_takes (Some x) d c t.item t.there m among (some_has d x b) in
        let r = derived_begins p free d c (class_of p.classes p.interfaces d (class_typed decls p checked d u.item u.there).0) (class_of p.classes p.interfaces c (class_typed decls p checked c t.item t.there).0)
        (class_seen p d _ (class_typed decls p checked d u.item u.there).1) (class_seen p c _ (class_typed decls p checked c t.item t.there).1) m in
        let called = called_are c o.0 q o.1 in
        record {
          rest = r.0;
          begins = b.parameters ∙ (r.1 ∙ ap (λ z. z ++ r.0) (sym called));
          few = few_shown d u.item x u.there b;
          suits = (subst (λ z. TakesBy pp (Some x) z (called_parameters pp (Some (a_body_of (type.Instance c))))) (sym (parameters_of s classes_same names_same c)) (subst (TakesBy pp (Some x) (declared_parameters (reverse (chain xs c)))) (sym called) a.takes), tt);
        }

    pub block_runs : (c : ℕ) → is_block_at s c ≡ true → Runs pp (a_body_of (type.Instance c)) (block_parameters s c) outcome.Nothing
    block_runs c h =
        let t = block_there c h in
        let o = body_there c t.item t.there in
        let q = body_shown c t.item o.0 t.there o.1 in
        let a = class_takes None c c t.item t.there (itself_conforms c t.item t.there) (itself_among c) (none_has c) in
        record {
          found = λ x i m. let w = conforming most decls p checked well good all x c (slice_get_within xs c t.item t.there) m in let u = there_below xs x w.within in body_there x u.item u.there;
          told = tt;
          declared = subst (λ z. TakesBy pp None z (called_parameters pp (Some (a_body_of (type.Instance c))))) (sym (parameters_of s classes_same names_same c)) (subst (TakesBy pp None (declared_parameters (reverse (chain xs c)))) (sym (called_are c o.0 q o.1)) a.takes);
          enters = block_enters c t;
        }

    -- the declared parameters of a body, all of them
    pub block_takes : (c : ℕ) (d : ClassDecl ℕ) → slice_get xs c ≡ Some d → TakesBy pp None (block_parameters s c) (body_parameters 0 0 (declared_along p.classes (reverse (chain p.classes c)))) × (length (block_parameters s c) ≡ length (body_parameters 0 0 (declared_along p.classes (reverse (chain p.classes c)))))
    block_takes c d e =
        let a = class_takes None c c d e (itself_conforms c d e) (itself_among c) (none_has c) in
        subst (λ z. TakesBy pp None z (body_parameters 0 0 (declared_along p.classes (reverse (chain p.classes c)))) × (length z ≡ length (body_parameters 0 0 (declared_along p.classes (reverse (chain p.classes c)))))) (sym (parameters_of s classes_same names_same c)) (a.takes, a.long)

    base_enters : (b : ℕ) (d : ClassDecl ℕ) → slice_get xs b ≡ Some d → (x : Routine) (n : Enters pp (the_body_from b) x) → IsLiving pp n → Answers pp (the_body_from b) (λ y. TakesBy pp (Some y) [] (called_parameters pp (Some (the_body_from b))) × Gives y outcome.Nothing) x
    base_enters b d e x (by_base f) l = record {
      rest = [];
      begins = sym (append-nil x.parameters) ∙ ap (λ z. z ++ []) (sym (ap Rattle.st_meaning.specs.st_frame.Use.parameters_of f));
      few = few_shown b d x e (body_shown b d x e f);
      suits = (tt, tt);
    }

    pub base_runs : (b : ℕ) (d : ClassDecl ℕ) → slice_get xs b ≡ Some d → Runs pp (the_body_from b) [] outcome.Nothing
    base_runs b d e = record { found = body_there b d e; told = tt; declared = tt; enters = base_enters b d e }
