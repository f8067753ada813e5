-- The locals of the bodies of function blocks and programs unfold, begin in range and hold no instance.
use Rattle.std.proofs.Common.{◌≡◌, ℕ, ◌+◌, Bool, true, false, List, [], ◌∷◌, Option, Some, None, refl, sym, ap, ◌∙◌, subst, arith}
use Rattle.std.specs.Prelude.{◌&&◌, not, flat_map, filter, slice_get}
use Rattle.st_tree.specs.declared.declaration.ClassDecl.{ClassDecl}
use Rattle.st_tree.specs.declared.declaration.ProgramDecl.{ProgramDecl}
use Rattle.st_tree.specs.declared.declaration.Section.{Section}
use Rattle.st_tree.specs.declared.declaration.SectionSort.{SectionSort}
use Rattle.st_tree.specs.declared.declaration.SectionSort.TheVariants as sort
use Rattle.st_tree.specs.declared.program.Note.{Note}
use Rattle.st_tree.specs.declared.program.Program.{Program as Checked}
use Rattle.st_tree.specs.declared.unit.Decl.{Decl}
use Rattle.st_rules.specs.declared.names.DeclaredVariable.{DeclaredVariable}
use Rattle.st_rules.specs.Classes.{classes_in}
use Rattle.st_rules.specs.Scope.{Scope, is_external, is_body_sort}
use Rattle.st_rules.proofs.Booleans.{both, true≢false, false≢true}
use Rattle.st_unit_rules.specs.Checked.{Each, TypedSection, TypedClass, TypedProgram, IsChecked}
use Rattle.st_unit_rules.specs.declared_names.Declarations.{a_program, item_line}
use Rattle.st_unit_rules.specs.declared_names.UnitNames.{unit_names, program_scope}
use Rattle.st_unit_rules.specs.declared_names.Variables.{Written, sections_written, sections_in, is_body_written}
use Rattle.st_unit_rules.specs.DeclarationRules.{class_home, item_too_deep, program_limits}
use Rattle.st_unit_rules.specs.UnitRefusal.{BreaksNothing}
use Rattle.st_unit_rules.specs.VariableRules.{Home, of_program, may_hold_instances}
use Rattle.st_values.specs.Program.{Variable, Program}
use Rattle.st_values.specs.View.{sections_in as seen_sections, those, is_of_body, variables_in, declared_by, declared_along, program_of}
use Rattle.st_meaning.specs.Call.{is_in_out}
use Rattle.st_meaning.specs.st_frame.Promise.Declarations.{LocalIs}
use Rattle.resolution_order.specs.told_laws.ToldLaws.{Every}
use Rattle.accepted_texts.specs.formed_units.Formed.{IsFormed}
use Rattle.accepted_texts.proofs.sized_units.Variables.{IsOf, is_variable, all_of}
use Rattle.accepted_texts.proofs.told_units.Law.{program-rules}
use Rattle.accepted_texts.proofs.unfolding_laws.ChainLaws.{sections_typed}
use Rattle.accepted_texts.proofs.unfolding_laws.CycleLaws.{none_in, none_of_each, variable_not_deep}
use Rattle.accepted_texts.proofs.unfolding_laws.ListLaws.{every_append, every_both, every_if_passing, every_means, every_passing, if_found, from_get}
use Rattle.initial_laws.proofs.Initials.{Knows}
use Rattle.initial_laws.proofs.Items.{class_fine}
use Rattle.initial_laws.proofs.Knowing.{inside, Facts, class_knows, program_knows, class_says, program_says}
use Rattle.declaration_laws.proofs.Locals.{local_is, temp_closed}
use Rattle.initial_laws.proofs.Places.{PlacedAt}

body_sorts : (so : SectionSort) → is_of_body so ≡ is_body_sort so
body_sorts sort.Var = refl
body_sorts sort.Input = refl
body_sorts sort.Output = refl
body_sorts sort.InOut = refl
body_sorts sort.Temp = refl
body_sorts sort.External = refl
body_sorts sort.Global = refl

-- what is no in-out is a temporary variable
body_closed : (h : Home) (so : SectionSort) → is_of_body so ≡ true → is_in_out so ≡ false → may_hold_instances h so ≡ false
body_closed h sort.Temp b e = temp_closed h
body_closed h sort.InOut b e = absurd (true≢false e)
body_closed h sort.Var b e = absurd (false≢true b)
body_closed h sort.Input b e = absurd (false≢true b)
body_closed h sort.Output b e = absurd (false≢true b)
body_closed h sort.External b e = absurd (false≢true b)
body_closed h sort.Global b e = absurd (false≢true b)

module _ (most : ℕ) (decls : List (Decl ℕ)) (p : Checked) (fine : IsFormed most decls) (good : BreaksNothing decls) (checked : IsChecked decls p) where
  abbrev Seen : Program
  Seen = program_of p

  -- of the body's own
  abbrev InBody : Variable → Type 0
  InBody v = is_of_body v.sort ≡ true → LocalIs Seen v

  module _ (c : Option ℕ) (m : Bool) (ls : List DeclaredVariable) (h : Home) where
    abbrev s : Scope
    s = inside most decls p fine good checked c m ls

    abbrev Says : Written → Type 0
    Says w = Facts most decls p fine good checked s h w × (is_body_written w ≡ true → item_too_deep decls s w.item ≡ [])

    each_in_body : Knows Seen s → (vs : List Variable) (ws : List Written) → Each (IsOf s) vs ws → Every (λ (w : Written). (is_variable w ≡ true) × Says w) ws → Every InBody vs
    each_in_body k [] [] i f = tt
    each_in_body k [] (w ∷ ws) i f = absurd i
    each_in_body k (v ∷ vs) [] i f = absurd i
    each_in_body k (v ∷ vs) (w ∷ ws) i f = (
      λ b.
          let so : is_of_body w.sort ≡ true = sym (ap is_of_body (i.0).sort) ∙ b in
          let plain = both (not w.constant) (not (is_external w.sort)) f.0.0 in
          let body : is_body_written w ≡ true = ap (λ z. z && not w.constant) (sym (body_sorts w.sort) ∙ so) ∙ plain.0 in
          local_is most decls p fine good checked c m ls h k v w i.0 (f.0.1).0 (variable_not_deep decls good s 64 (item_line w.item) w.item.kind ((f.0.1).1 body)) (λ e. body_closed h w.sort so e),
      each_in_body k vs ws i.1 f.1,
    )

    pub section_bodies : Knows Seen s → (xs : List (Section ℕ)) (ys : List (Section Note)) → Each (TypedSection s) xs ys → Every (Facts most decls p fine good checked s h) (sections_written xs)
        → flat_map (λ (w : Written). item_too_deep decls s w.item) (filter is_body_written (sections_written xs)) ≡ [] → Every InBody (variables_in ys)
    section_bodies k xs ys t f d =
        let ws = sections_written xs in
        let depths = every_if_passing (λ (w : Written). item_too_deep decls s w.item ≡ []) is_body_written ws (none_of_each (λ (w : Written). item_too_deep decls s w.item) (filter is_body_written ws) d) in
        let all = every_both (Facts most decls p fine good checked s h) (λ (w : Written). is_body_written w ≡ true → item_too_deep decls s w.item ≡ []) Says (λ w a b. (a, b)) ws f depths in
        each_in_body k (variables_in ys) (filter is_variable ws) (all_of s xs ys t)
        (every_passing (λ (w : Written). (is_variable w ≡ true) × Says w) is_variable ws (every_means Says (λ (w : Written). is_variable w ≡ true → (is_variable w ≡ true) × Says w) (λ w g e. (e, g)) ws all))

  -- ---- function blocks, with what their bases declare

  class_in_body : (c : ℕ) → Every InBody (declared_by (slice_get p.classes c))
  class_in_body c = by (slice_get p.classes c) refl
    where
      by : (o : Option (ClassDecl Note)) → slice_get p.classes c ≡ o → Every InBody (declared_by o)
      by None e = tt
      by (Some y) e =
          let z : 0 + c ≡ c = omega arith in
          let d = if_found (TypedClass decls (0 + c)) (slice_get (classes_in decls) c) (slice_get p.classes c) y e (from_get (TypedClass decls) 0 (classes_in decls) p.classes c checked.classes) in
          let t : TypedClass decls c d.0 y = subst (λ n. TypedClass decls n d.0 y) z d.2 in
          section_bodies (Some c) false [] (class_home decls (d.0).sort) (class_knows most decls p fine good checked c d.0 d.1) (sections_in (d.0).members) (seen_sections y.members) (sections_typed decls c (d.0).members y.members t.members)
          (class_says most decls p fine good checked c d.0 d.1) (class_fine decls good c d.0 d.1).depths

  along : (cs : List ℕ) → Every InBody (declared_along p.classes cs)
  along [] = tt
  along (c ∷ cs) = every_append InBody (declared_by (slice_get p.classes c)) (declared_along p.classes cs) (class_in_body c) (along cs)

  pub block_locals : (cs : List ℕ) → Every (LocalIs Seen) (those is_of_body (declared_along p.classes cs))
  block_locals cs = every_passing (LocalIs Seen) (λ (v : Variable). is_of_body v.sort) (declared_along p.classes cs) (along cs)

  -- ---- programs

  pub program_bodies : (d : ProgramDecl ℕ) (y : ProgramDecl Note) → PlacedAt decls (a_program d) → TypedProgram decls d y → Every (LocalIs Seen) (those is_of_body (variables_in y.sections))
  unfolding program_scope
  program_bodies d y h t =
      let s = program_scope decls (unit_names decls) d in
      let rules = program-rules decls good h.place h.item d h.there h.is in
      let but_body = none_in _ _ rules in
      let limits = none_in _ (program_limits decls s d) but_body.0 in
      let depths = none_in _ (flat_map (λ (w : Written). item_too_deep decls s w.item) (filter is_body_written (sections_written d.sections))) limits.1 in
      every_passing (LocalIs Seen) (λ (v : Variable). is_of_body v.sort) (variables_in y.sections)
      (section_bodies None false _ of_program (program_knows most decls p fine good checked h.place h.item d h.there h.is) d.sections y.sections t.sections (program_says most decls p fine good checked d h) depths.1)
