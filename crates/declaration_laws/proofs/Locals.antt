-- The locals of routines unfold, begin in range and hold no instance.
use Rattle.std.proofs.Common.{◌≡◌, ℕ, Bool, true, false, List, [], ◌∷◌, ◌++◌, Option, Some, None, refl, sym, ap, ◌∙◌}
use Rattle.std.specs.Prelude.{◌&&◌, not, flat_map, filter, if◌then◌else◌}
use Rattle.std.specs.Option.{is_some}
use Rattle.std.proofs.lemmas.List.Concat.{flat_map-append}
use Rattle.plc_text.specs.declared.code.Code.TheVariants.{E07}
use Rattle.st_types.specs.declared.st_type.StType.{StType}
use Rattle.st_tree.specs.declared.declaration.Item.{Item}
use Rattle.st_tree.specs.declared.declaration.Section.{Section}
use Rattle.st_tree.specs.declared.declaration.SectionSort.{SectionSort}
use Rattle.st_tree.specs.declared.declaration.SectionSort.TheVariants as sort
use Rattle.st_tree.specs.declared.program.Note.{Note}
use Rattle.st_tree.specs.declared.program.Program.{Program as Checked}
use Rattle.st_tree.specs.declared.type_spec.TypeSpec.{TypeSpec}
use Rattle.st_tree.specs.declared.unit.Decl.{Decl}
use Rattle.st_tree.specs.Declarations.{is_global}
use Rattle.st_tree.specs.Reads.{no_marks}
use Rattle.st_rules.specs.declared.names.DeclaredVariable.{DeclaredVariable}
use Rattle.st_rules.specs.Expressions.{told}
use Rattle.st_rules.specs.Scope.{Scope, is_external}
use Rattle.st_rules.proofs.Booleans.{both, true≢false, false≢true}
use Rattle.st_unit_rules.specs.Checked.{Each, IfThere, TypedSpec, TypedSection, IsChecked}
use Rattle.st_unit_rules.specs.declared_names.Declarations.{item_line}
use Rattle.st_unit_rules.specs.declared_names.UnitNames.{unit_names, unit_scope}
use Rattle.st_unit_rules.specs.declared_names.Variables.{Written, item_written, section_written, sections_written}
use Rattle.st_unit_rules.specs.declared_names.WrittenTypes.{type_written, type_faults}
use Rattle.st_unit_rules.specs.DeclarationRules.{items_in, item_too_deep, result_too_deep}
use Rattle.st_unit_rules.specs.Limits.{has_depth_told}
use Rattle.st_unit_rules.specs.UnitRefusal.{BreaksNothing}
use Rattle.st_unit_rules.specs.VariableRules.{Home, of_class, of_block, of_program, of_routine, of_prototype, of_globals, may_hold_instances, holds_instances_told, instance_out_of_place, result_faults}
use Rattle.st_values.specs.Program.{Variable, Program}
use Rattle.st_values.specs.Shape.{shape_of, shape_within}
use Rattle.st_values.specs.View.{those, negated, is_parameter, variables_in, result_of, kind_of, program_of}
use Rattle.st_meaning.specs.Call.{is_in_out}
use Rattle.st_meaning.specs.st_frame.Promise.Declarations.{LocalIs}
use Rattle.resolution_order.specs.told_laws.ToldLaws.{Every}
use Rattle.accepted_texts.specs.formed_units.Formed.{IsFormed}
use Rattle.accepted_texts.proofs.sized_units.Scopes.{depth_same}
use Rattle.accepted_texts.proofs.sized_units.Variables.{IsOf, is_variable, all_of}
use Rattle.accepted_texts.proofs.unfolding_laws.CycleLaws.{none_in, none_of_each, not_when, variable_not_deep}
use Rattle.accepted_texts.proofs.unfolding_laws.DepthLaws.{shaped}
use Rattle.accepted_texts.proofs.unfolding_laws.ListLaws.{every_append, every_both, every_joined, every_mapped, every_means, every_one, every_passing}
use Rattle.accepted_texts.proofs.unfolding_laws.NumberLaws.{ToldNumbered, written_numbered, unit_numbered}
use Rattle.accepted_texts.proofs.unfolding_laws.ShapedLaws.{Shaped}
use Rattle.accepted_texts.proofs.unfolding_laws.ViewLaws.{kind_shown}
use Rattle.constant_laws.specs.Given.{GivenIs}
use Rattle.initial_laws.proofs.Initials.{Knows}
use Rattle.initial_laws.proofs.Items.{IsLocalSort}
use Rattle.initial_laws.proofs.Knowing.{inside, Facts, all_given, written_begins}
use Rattle.initial_laws.proofs.NoInstances.{none_told, without}
use Rattle.constant_laws.proofs.Starts.{starts}

-- ---- where instances may be

routine_closed : (so : SectionSort) → is_in_out so ≡ false → is_external so ≡ false → is_global so ≡ false → may_hold_instances of_routine so ≡ false
routine_closed sort.Var a b c = refl
routine_closed sort.Input a b c = refl
routine_closed sort.Output a b c = refl
routine_closed sort.Temp a b c = refl
routine_closed sort.InOut a b c = absurd (true≢false a)
routine_closed sort.External a b c = absurd (true≢false b)
routine_closed sort.Global a b c = absurd (true≢false c)

pub temp_closed : (h : Home) → may_hold_instances h sort.Temp ≡ false
temp_closed of_class = refl
temp_closed of_block = refl
temp_closed of_program = refl
temp_closed of_routine = refl
temp_closed of_prototype = refl
temp_closed of_globals = refl

pub not_both : (a b : Bool) → (not a && b) ≡ false → a ≡ false → b ≡ false
not_both false b h e = h
not_both true b h e = absurd (true≢false e)

-- neither a constant nor an external
pub variable_sort : (w : Written) → is_variable w ≡ true → is_external w.sort ≡ false
variable_sort w h = by (is_external w.sort) (both (not w.constant) (not (is_external w.sort)) h).1
  where
    by : (b : Bool) → not b ≡ true → b ≡ false
    by false q = refl
    by true q = absurd (false≢true q)

module _ (most : ℕ) (decls : List (Decl ℕ)) (p : Checked) (fine : IsFormed most decls) (good : BreaksNothing decls) (checked : IsChecked decls p) where
  abbrev unit : Scope
  unit = unit_scope decls (unit_names decls)

  abbrev Seen : Program
  Seen = program_of p

  module _ (c : Option ℕ) (m : Bool) (ls : List DeclaredVariable) where
    abbrev s : Scope
    s = inside most decls p fine good checked c m ls

    abbrev pub Shallow : TypeSpec ℕ → Type 0
    Shallow t = has_depth_told s 65 (type_written s t) ≡ false

    -- ---- one local

    shape_told : (o : Option StType) → is_some o ≡ true → ToldNumbered decls o → has_depth_told s 65 o ≡ false → Shaped (shape_within Seen 65) (told o)
    unfolding told
    shape_told None h n d = absurd (false≢true h)
    shape_told (Some u) h n d = shaped decls p checked [] 65 u n (sym (depth_same unit c m ls 65 u) ∙ d)

    pub shape_is : (t : TypeSpec ℕ) → is_some (type_written s t) ≡ true → Shallow t → Shaped (shape_within Seen 65) (told (type_written s t))
    shape_is t h d = shape_told (type_written s t) h (written_numbered decls s t (unit_numbered decls)) d

    -- of a type that unfolds and holds no instance
    local_by : (v : Variable) (o : Option StType) → v.kind ≡ told o → Shaped (shape_within Seen 65) (told o) → holds_instances_told o ≡ false → GivenIs Seen v.kind v.initial → LocalIs Seen v
    local_by v o q h n g =
        let is : shape_of Seen v.kind ≡ Some h.shape = ap (shape_of Seen) q ∙ h.is in
        λ i. (h.shape, is, starts Seen (all_given most decls p fine good checked) 65 v.kind h.shape is v.initial g, without decls p good checked 65 (told o) h.shape (none_told o n) h.is)

    pub local_is : (h : Home) → Knows Seen s → (v : Variable) (w : Written) → IsOf s v w → Facts most decls p fine good checked s h w → Shallow w.item.kind → (is_in_out w.sort ≡ false → may_hold_instances h w.sort ≡ false) → LocalIs Seen v
    local_is h k v w i f d closed = λ e.
        let none = not_both (may_hold_instances h w.sort) (holds_instances_told (type_written s w.item.kind)) f.0.instances (closed (sym (ap is_in_out i.sort) ∙ e)) in
        local_by v (type_written s w.item.kind) i.kind (shape_is w.item.kind f.2 d) none (written_begins most decls p fine good checked s k h v w i f.0 f.1 f.2) e

    -- ---- how deep they are

    abbrev DeepEnough : Written → Type 0
    DeepEnough w = is_external w.sort ≡ false → Shallow w.item.kind

    item_depth : (item : Item ℕ) → item_too_deep decls s item ≡ [] → Shallow item.kind
    item_depth item f = variable_not_deep decls good s 64 (item_line item) item.kind f

    abbrev within : Section ℕ → Bool
    within x = not (is_external x.sort)

    sections_depth : (ss : List (Section ℕ)) → flat_map (item_too_deep decls s) (items_in (filter within ss)) ≡ [] → Every DeepEnough (sections_written ss)
    sections_depth [] f = tt
    sections_depth (x ∷ ss) f = by (is_external x.sort) refl (sections_depth ss) f
      where
        by : (b : Bool) → is_external x.sort ≡ b → (flat_map (item_too_deep decls s) (items_in (filter within ss)) ≡ [] → Every DeepEnough (sections_written ss))
            → flat_map (item_too_deep decls s) (items_in (if not b then x ∷ filter within ss else filter within ss)) ≡ [] → Every DeepEnough (section_written x ++ sections_written ss)
        by true e g f =
            every_append DeepEnough (section_written x) (sections_written ss)
            (every_joined DeepEnough (item_written x) x.items (every_one (λ item. Every DeepEnough (item_written x item)) (λ item. every_mapped DeepEnough _ item.names (every_one _ (λ n z. absurd (true≢false (sym e ∙ z))) item.names)) x.items)) (g f)
        by false e g f =
            let q = none_in (flat_map (item_too_deep decls s) x.items) (flat_map (item_too_deep decls s) (items_in (filter within ss))) (sym (flat_map-append (item_too_deep decls s) x.items (items_in (filter within ss))) ∙ f) in
            every_append DeepEnough (section_written x) (sections_written ss)
            (every_joined DeepEnough (item_written x) x.items
            (every_means (λ item. item_too_deep decls s item ≡ []) (λ item. Every DeepEnough (item_written x item)) (λ item h. every_mapped DeepEnough _ item.names (every_one _ (λ n z. item_depth item h) item.names)) x.items
            (none_of_each (item_too_deep decls s) x.items q.0))) (g q.1)

    -- ---- the locals of a routine

    abbrev RoutineSays : Written → Type 0
    RoutineSays w = Facts most decls p fine good checked s of_routine w × DeepEnough w × IsLocalSort w

    each_local : Knows Seen s → (vs : List Variable) (ws : List Written) → Each (IsOf s) vs ws → Every (λ (w : Written). (is_variable w ≡ true) × RoutineSays w) ws → Every (LocalIs Seen) vs
    each_local k [] [] h f = tt
    each_local k [] (w ∷ ws) h f = absurd h
    each_local k (v ∷ vs) [] h f = absurd h
    each_local k (v ∷ vs) (w ∷ ws) h f =
        let external = variable_sort w f.0.0 in
        (local_is of_routine k v w h.0 (f.0.1).0 ((f.0.1).1 external) (λ e. routine_closed w.sort e external (f.0.1).2), each_local k vs ws h.1 f.1)

    only_variables : (ws : List Written) → Every RoutineSays ws → Every (λ (w : Written). (is_variable w ≡ true) × RoutineSays w) (filter is_variable ws)
    only_variables ws f = every_passing (λ (w : Written). (is_variable w ≡ true) × RoutineSays w) is_variable ws (every_means RoutineSays (λ (w : Written). is_variable w ≡ true → (is_variable w ≡ true) × RoutineSays w) (λ w g e. (e, g)) ws f)

    pub variables_are : Knows Seen s → (xs : List (Section ℕ)) (ys : List (Section Note)) → Each (TypedSection s) xs ys → Every (Facts most decls p fine good checked s of_routine) (sections_written xs)
        → Every IsLocalSort (sections_written xs) → flat_map (item_too_deep decls s) (items_in (filter within xs)) ≡ [] → Every (LocalIs Seen) (variables_in ys)
    variables_are k xs ys t f l d =
        let ws = sections_written xs in
        let rest = every_both DeepEnough IsLocalSort (λ (w : Written). DeepEnough w × IsLocalSort w) (λ w a b. (a, b)) ws (sections_depth xs d) l in
        let all = every_both (Facts most decls p fine good checked s of_routine) (λ (w : Written). DeepEnough w × IsLocalSort w) RoutineSays (λ w a b. (a, b.0, b.1)) ws f rest in
        each_local k (variables_in ys) (filter is_variable ws) (all_of s xs ys t) (only_variables ws all)

    -- the result is one
    pub result_is : (name : List ℕ) (line : ℕ) (o : Option (TypeSpec ℕ)) (q : Option (TypeSpec Note)) → IfThere (TypedSpec s) o q → ((t : TypeSpec ℕ) → o ≡ Some t → is_some (type_written s t) ≡ true) → result_faults s line o ≡ [] → result_too_deep decls s line o ≡ []
        → Every (LocalIs Seen) (result_of name q)
    result_is name line None None h t f d = tt
    result_is name line None (Some y) h t f d = absurd h
    result_is name line (Some x) None h t f d = absurd h
    result_is name line (Some x) (Some y) h t f d =
        let instances = none_in (type_faults s x) (instance_out_of_place line false (type_written s x)) f in
        let none = not_when (holds_instances_told (type_written s x)) E07 line instances.1 in
        let v : Variable = record { name = name; sort = sort.Var; kind = kind_of y; initial = None; marks = no_marks; address = None } in
        (local_by v (type_written s x) (kind_shown s x y h) (shape_is x (t x refl) (variable_not_deep decls good s 64 line x d)) none tt, tt)

  -- parameters stand before the others
  pub in_order : (first vs : List Variable) → Every (LocalIs Seen) first → Every (LocalIs Seen) vs → Every (LocalIs Seen) (first ++ (those is_parameter vs ++ those (negated is_parameter) vs))
  in_order first vs a b =
      every_append (LocalIs Seen) first (those is_parameter vs ++ those (negated is_parameter) vs) a
      (every_append (LocalIs Seen) (those is_parameter vs) (those (negated is_parameter) vs) (some is_parameter) (some (negated is_parameter)))
    where
      some : (test : SectionSort → Bool) → Every (LocalIs Seen) (those test vs)
      some test = every_passing (LocalIs Seen) (λ (v : Variable). test v.sort) vs (every_means (LocalIs Seen) (λ (v : Variable). test v.sort ≡ true → LocalIs Seen v) (λ v h e. h) vs b)
