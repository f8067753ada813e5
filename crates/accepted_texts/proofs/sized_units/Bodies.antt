-- The locals of the body of a block, with those of its bases, have no more values than the rules count of them.
use Rattle.std.proofs.Common.{◌≡◌, ◌≤◌, ℕ, ◌+◌, Bool, true, false, List, [], ◌∷◌, ◌++◌, map, reverse, length, Some, refl, sym, ap, ◌∙◌, subst, inl, inr, arith, ltb-false}
use Rattle.std.specs.Prelude.{if◌then◌else◌, not, ◌&&◌, nat_lt, filter, flat_map, slice_get}
use Rattle.std.specs.Option.{is_some}
use Rattle.std.proofs.lemmas.List.{reverse-append}
use Rattle.std.proofs.lemmas.List.Elements.{filter-append}
use Rattle.std.proofs.lemmas.Option.{slice_get_within}
use Rattle.plc_text.specs.declared.code.Code.TheVariants.{E16}
use Rattle.st_tree.specs.declared.declaration.ClassDecl.{ClassDecl}
use Rattle.st_tree.specs.declared.declaration.SectionSort.{SectionSort}
use Rattle.st_tree.specs.declared.declaration.SectionSort.TheVariants as sort
use Rattle.st_tree.specs.declared.program.Note.{Note}
use Rattle.st_tree.specs.declared.program.Program.{Program}
use Rattle.st_tree.specs.declared.unit.Decl.{Decl}
use Rattle.st_rules.specs.declared.names.DeclaredVariable.{DeclaredVariable}
use Rattle.st_rules.specs.Classes.{classes_in, chain}
use Rattle.st_rules.specs.Scope as rules
use Rattle.st_rules.specs.Scope.{Scope, variables_of, is_external, is_body_sort}
use Rattle.st_unit_rules.specs.declared_names.UnitNames.{unit_names, class_scope, class_declared, written_above}
use Rattle.st_unit_rules.specs.declared_names.Variables as written
use Rattle.st_unit_rules.specs.declared_names.Variables.{Written, sections_written, is_kept_written, is_body_written}
use Rattle.st_unit_rules.specs.declared_names.WrittenTypes.{type_written}
use Rattle.st_unit_rules.specs.Checked.{Each, TypedClass, IsChecked}
use Rattle.st_unit_rules.specs.DeclarationRules.{item_too_deep, body_locals, class_too_deep, class_limits}
use Rattle.st_unit_rules.specs.Limits.{sum_of, all_values, too_many_locals, too_many_bases}
use Rattle.st_unit_rules.specs.Limits as limits
use Rattle.st_unit_rules.specs.UnitRefusal.{BreaksNothing}
use Rattle.st_values.specs.Program as seen
use Rattle.st_values.specs.Program.{Variable, a_program, Class, class_at}
use Rattle.st_values.specs.View.{those, is_of_body, variables_in, sections_in, declared_by, declared_along, program_of}
use Rattle.resolution_order.specs.told_laws.ToldLaws.{Every}
use Rattle.accepted_texts.proofs.unfolding_laws.ListLaws.{every_means, every_passing, if_there, if_found, from_get}
use Rattle.accepted_texts.proofs.unfolding_laws.CycleLaws.{none_in, none_of_each, not_when}
use Rattle.accepted_texts.proofs.unfolding_laws.NumberLaws.{IsClass}
use Rattle.accepted_texts.proofs.unfolding_laws.DeclaredLaws.{scope, members_are}
use Rattle.accepted_texts.proofs.unfolding_laws.ChainLaws.{chain_there, chain_same, sections_typed}
use Rattle.accepted_texts.specs.told_units.Told.{AllIsTold}
use Rattle.accepted_texts.proofs.told_units.Inner.{members-rows}
use Rattle.accepted_texts.proofs.told_units.Whole.{class-rules}
use Rattle.accepted_texts.specs.sized_units.Locals.{values_of_locals}
use Rattle.accepted_texts.proofs.sized_units.Kept.{EnumerationsAreFew}
use Rattle.accepted_texts.proofs.sized_units.Locals.{in_out_same, all_values_append, locals_append, written_values, CountsWritten, all_small, rows_values, rows_told, type_counts, both_fine, SeenClass, class_or_program}
use Rattle.accepted_texts.proofs.sized_units.Scopes.{all_values_same, all_variables_same}
use Rattle.accepted_texts.proofs.sized_units.Variables.{IsOf, is_variable, test_twice, all_of, those_of}

body_sort : (c : Bool) (so : SectionSort) → ((not c && not (is_external so)) && is_of_body so) ≡ (is_body_sort so && not c)
body_sort true sort.Var = refl
body_sort true sort.Input = refl
body_sort true sort.Output = refl
body_sort true sort.InOut = refl
body_sort true sort.Temp = refl
body_sort true sort.Global = refl
body_sort true sort.External = refl
body_sort false sort.Var = refl
body_sort false sort.Input = refl
body_sort false sort.Output = refl
body_sort false sort.InOut = refl
body_sort false sort.Temp = refl
body_sort false sort.Global = refl
body_sort false sort.External = refl

-- the order of classes in a chain does not count
module _ (p : seen.Program) (classes : List (ClassDecl Note)) where
  abbrev values_along : List ℕ → ℕ
  values_along cs = values_of_locals p (those is_of_body (declared_along classes cs))

  declared_append : (xs ys : List ℕ) → values_along (xs ++ ys) ≡ values_along xs + values_along ys
  declared_append [] ys = omega arith
  declared_append (x ∷ xs) ys =
      let own = declared_by (slice_get classes x) in
      let test = λ (v : Variable). is_of_body v.sort in
      let a = ap (values_of_locals p) (filter-append test own (declared_along classes (xs ++ ys))) ∙ locals_append p (those is_of_body own) (those is_of_body (declared_along classes (xs ++ ys))) in
      let b = ap (values_of_locals p) (filter-append test own (declared_along classes xs)) ∙ locals_append p (those is_of_body own) (those is_of_body (declared_along classes xs)) in
      let k = declared_append xs ys in
      omega (arith, a, b, k)

  declared_turned : (cs : List ℕ) → values_along (reverse cs) ≡ values_along cs
  declared_turned [] = refl
  declared_turned (c ∷ cs) =
      let a : values_along (reverse (c ∷ cs)) ≡ values_along (reverse cs ++ c ∷ []) = ap values_along (reverse-append (c ∷ []) cs) in
      let b = declared_append (reverse cs) (c ∷ []) in
      let d = declared_append (c ∷ []) cs in
      let k = declared_turned cs in
      omega (arith, a, b, d, k)

module _ (decls : List (Decl ℕ)) (p : Program) (checked : IsChecked decls p) (good : BreaksNothing decls) (all : AllIsTold decls) (few : EnumerationsAreFew decls) where
  abbrev pp : seen.Program
  pp = program_of p

  abbrev unit : Scope
  unit = scope decls []

  -- what is counted in a class is what is counted in the unit
  values_in_class : (b : ℕ) (vs : List DeclaredVariable) → all_values (class_scope decls (unit_names decls) b) vs ≡ all_values unit vs
  values_in_class b [] = refl
  values_in_class b (v ∷ vs) =
      let k = values_in_class b vs in
      let z = class_scope decls (unit_names decls) b in
      let i = ap (λ c. if c then 1 else limits.values_of z v.kind) (sym (in_out_same z v.sort) ∙ in_out_same unit v.sort) ∙ ap (λ n. if limits.is_in_out unit v.sort then 1 else n) (all_values_same unit (Some b) false [] v.kind) in
      omega (arith, i, k)

  -- what the rules of a class say of its body
  record BodyLimited (c : ℕ) (d : ClassDecl ℕ) : Type 0 where
    number : all_values (class_scope decls (unit_names decls) c) (body_locals decls (class_scope decls (unit_names decls) c) c) ≤ 1024
    depths : Every (λ (w : Written). item_too_deep decls (class_scope decls (unit_names decls) c) w.item ≡ []) (filter is_body_written (sections_written (written.sections_in d.members)))

  body_limited : (c : ℕ) (d : ClassDecl ℕ) → slice_get (classes_in decls) c ≡ Some d → BodyLimited c d
  body_limited c d e =
      let s = class_scope decls (unit_names decls) c in
      let r = class-rules decls good c d e in
      let kept = filter is_body_written (sections_written (written.sections_in d.members)) in
      let count = all_values s (body_locals decls s c) in
      let bodies = none_in _ _ r.1 in
      let all_limits = none_in _ (class_limits decls s r.0 c d) bodies.0 in
      let last = none_in _ (flat_map (λ (w : Written). item_too_deep decls s w.item) kept) all_limits.1 in
      let deep = none_in _ (class_too_deep decls s r.0 c d) last.0 in
      let bases = none_in _ (too_many_bases d.line (classes_in decls) c) deep.0 in
      let locals = none_in _ (too_many_locals d.line count) bases.0 in
      record {
        number = ltb-false 1024 count (not_when (nat_lt 1024 count) E16 d.line locals.1);
        depths = none_of_each (λ (w : Written). item_too_deep decls s w.item) kept last.1;
      }

  -- ---- the locals that a class declares itself

  own_small : (b : ℕ) → IsClass decls b → values_of_locals pp (those is_of_body (declared_by (slice_get p.classes b))) ≤ all_values unit (filter rules.is_of_body (variables_of unit b))
  own_small b w =
      let s = class_scope decls (unit_names decls) b in
      let q : 0 + b ≡ b = omega arith in
      let y = if_there (TypedClass decls (0 + b)) (slice_get (classes_in decls) b) (slice_get p.classes b) w.item w.there (from_get (TypedClass decls) 0 (classes_in decls) p.classes b checked.classes) in
      let typed : TypedClass decls b w.item y.0 = subst (λ c. TypedClass decls c w.item y.0) q y.2 in
      let xs = written.sections_in w.item.members in
      let ys = sections_in y.0.members in
      let ws = sections_written xs in
      let k = length (filter is_kept_written (written_above decls (unit_names decls) b)) in
      let l = length (filter is_body_written (written_above decls (unit_names decls) b)) in
      let rows = members-rows s k l ws in
      let own = (class_declared decls (unit_names decls) b w.item).variables in
      let told = rows_told decls p checked good all few (Some b) false [] ws own rows (all.variables b w.item w.there) in
      let told_kept = every_passing (λ (u : Written). is_some (type_written s u.item.kind) ≡ true) is_body_written ws (every_means (λ (u : Written). is_some (type_written s u.item.kind) ≡ true) (λ (u : Written). is_body_written u ≡ true → is_some (type_written s u.item.kind) ≡ true) (λ u i h. i) ws told) in
      let counted = every_means (λ (u : Written). item_too_deep decls s u.item ≡ []) (CountsWritten decls p checked good all few (Some b) false []) (λ u e. type_counts decls p checked good all few (Some b) false [] _ u.item.kind e) (filter is_body_written ws) (body_limited b w.item w.there).depths in
      let alike = subst (Each (IsOf s) (those is_of_body (variables_in ys)))
      (test_twice is_variable (λ (u : Written). is_of_body u.sort) is_body_written (λ u. body_sort u.constant u.sort) ws)
      (those_of s is_of_body (variables_in ys) (filter is_variable ws) (all_of s xs ys (sections_typed decls b w.item.members y.0.members typed.members))) in
      let counts = map (written_values decls p checked good all few (Some b) false []) (filter is_body_written ws) in
      let a : values_of_locals pp (those is_of_body (variables_in ys)) ≤ sum_of s counts = all_small decls p checked good all few (Some b) false [] (those is_of_body (variables_in ys)) (filter is_body_written ws) alike (both_fine decls p checked good all few (Some b) false [] (filter is_body_written ws) told_kept counted) in
      let e : sum_of s counts ≡ all_values s (filter rules.is_of_body own) = rows_values decls p checked good all few (Some b) false [] is_body_written rules.is_of_body same_tests ws own rows in
      let f = values_in_class b (filter rules.is_of_body own) in
      let g = ap (λ vs. all_values unit (filter rules.is_of_body vs)) (members_are decls [] b w.item w.there) in
      let h : values_of_locals pp (those is_of_body (declared_by (slice_get p.classes b))) ≡ values_of_locals pp (those is_of_body (variables_in ys)) = ap (λ o. values_of_locals pp (those is_of_body (declared_by o))) y.1 in
      omega (arith, a, e, f, g, h)
    where
      same_tests : (u : Written) (v : DeclaredVariable) → v.constant ≡ u.constant → v.sort ≡ u.sort → is_body_written u ≡ rules.is_of_body v
      same_tests u v i j = ap (λ z. is_body_sort z && not u.constant) (sym j) ∙ ap (λ z. is_body_sort v.sort && not z) (sym i)

  along_small : (cs : List ℕ) → Every (IsClass decls) cs → values_along pp p.classes cs ≤ all_values unit (filter rules.is_of_body (flat_map (variables_of unit) cs))
  along_small [] h = omega arith
  along_small (b ∷ cs) h =
      let rest = flat_map (variables_of unit) cs in
      let own = own_small b h.0 in
      let k = along_small cs h.1 in
      let e = ap (all_values unit) (filter-append rules.is_of_body (variables_of unit b) rest) ∙ all_values_append unit (filter rules.is_of_body (variables_of unit b)) (filter rules.is_of_body rest) in
      let test = λ (v : Variable). is_of_body v.sort in
      let one = ap (values_of_locals pp) (filter-append test (declared_by (slice_get p.classes b)) (declared_along p.classes cs)) ∙ locals_append pp (those is_of_body (declared_by (slice_get p.classes b))) (those is_of_body (declared_along p.classes cs)) in
      omega (arith, own, k, e, one)

  body_small : (c : ℕ) (k : Class) → SeenClass p.classes p.interfaces 0 p.classes c k → values_of_locals pp k.body.locals ≤ 1024
  body_small c k h =
      let s = class_scope decls (unit_names decls) c in
      let z : 0 + c ≡ c = omega arith in
      let d = if_found (TypedClass decls (0 + c)) (slice_get (classes_in decls) c) (slice_get p.classes c) h.decl h.there (from_get (TypedClass decls) 0 (classes_in decls) p.classes c checked.classes) in
      let cs = chain (classes_in decls) c in
      let there = chain_there (classes_in decls) c (slice_get_within (classes_in decls) c d.0 d.1) in
      let a = along_small cs there in
      let turned = declared_turned pp p.classes cs in
      let limit = (body_limited c d.0 d.1).number in
      let e = values_in_class c (body_locals decls s c) in
      let f : all_values unit (body_locals decls s c) ≡ all_values unit (filter rules.is_of_body (flat_map (variables_of unit) cs)) = ap (λ vs. all_values unit (filter rules.is_of_body vs)) (all_variables_same unit (Some c) false [] cs) in
      let g : values_of_locals pp k.body.locals ≡ values_along pp p.classes (reverse cs) =
      ap (λ (y : Class). values_of_locals pp y.body.locals) (sym h.is) ∙ (ap (λ n. values_along pp p.classes (reverse (chain p.classes n))) z ∙ ap (λ bs. values_along pp p.classes (reverse bs)) (chain_same decls (classes_in decls) p.classes checked.classes c)) in
      omega (arith, a, turned, limit, e, f, g)

  pub bodies_small : (c : ℕ) (k : Class) → class_at pp c ≡ Some k → (k.sort ≡ a_program → ⊥) → values_of_locals pp k.body.locals ≤ 1024
  bodies_small c k e n = elim (class_or_program p.classes p.interfaces 0 p.classes (length p.classes) p.programs c k e) [
    | inl q ↦ body_small c k q
    | inr q ↦ absurd (n q.marked)
  ]
