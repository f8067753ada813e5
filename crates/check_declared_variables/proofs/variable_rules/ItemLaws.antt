-- An item from its parts.
use Rattle.std.proofs.Common.{◌≡◌, ℕ, Bool, true, false, List, [], ◌++◌, Option, Some, None, refl, sym, ap, ◌∙◌, subst}
use Rattle.std.specs.Prelude.{if◌then◌else◌, option_map}
use Rattle.plc_text.specs.declared.code.Code.{Code}
use Rattle.st_types.specs.declared.st_type.StType.{StType}
use Rattle.st_tree.specs.declared.declaration.ClassDecl.{ClassDecl}
use Rattle.st_tree.specs.declared.declaration.Item.{Item}
use Rattle.st_tree.specs.declared.declaration.Section.{Section}
use Rattle.st_tree.specs.declared.initial.Init.{Init}
use Rattle.st_tree.specs.declared.program.Note.{Note}
use Rattle.st_tree.specs.declared.type_spec.TypeSpec.{TypeSpec}
use Rattle.st_tree.specs.Initial.{Initial, initial_of}
use Rattle.st_rules.specs.declared.names.DeclaredNames.{DeclaredNames}
use Rattle.st_rules.specs.Faults.{Faults, least, earlier}
use Rattle.st_rules.specs.Scope.{Scope, is_external}
use Rattle.st_rules.proofs.FaultLaws.{least-append, earlier-assoc}
use Rattle.st_unit_rules.specs.declared_names.Declarations.{item_line}
use Rattle.st_unit_rules.specs.declared_names.Variables.{declares_constants}
use Rattle.st_unit_rules.specs.declared_names.WrittenTypes.{type_written, type_faults}
use Rattle.st_unit_rules.specs.Checked.{IfThere, TypedInitial, TypedItem, TypedSpec}
use Rattle.st_unit_rules.specs.Initials.{typed_initial}
use Rattle.st_unit_rules.specs.VariableRules.{Home, may_hold_instances, may_have_address, instance_out_of_place, instance_of_abstract_class, bad_constant, address_faults, external_faults, initial_if_given, item_faults, result_faults}
use Rattle.check_initial_values.proofs.Parts.{joined}
use Rattle.check_declared_variables.specs.declared.type_rules.types.CheckedType.{CheckedType}
use Rattle.check_declared_variables.specs.type_rules.Types.{ChecksType}
use Rattle.check_declared_variables.specs.declared.variable_rules.given.CheckedGiven.{CheckedGiven}
use Rattle.check_declared_variables.specs.declared.variable_rules.items.CheckedItem.{CheckedItem}
use Rattle.check_declared_variables.specs.declared.variable_rules.items.Head.{Head}
use Rattle.check_declared_variables.specs.declared.variable_rules.results.CheckedResult.{CheckedResult}
use Rattle.check_declared_variables.specs.variable_rules.Given.{ChecksGiven}
use Rattle.check_declared_variables.specs.variable_rules.Items.{ChecksItem}
use Rattle.check_declared_variables.specs.variable_rules.Results.{ChecksResult}
use Rattle.check_declared_variables.specs.variable_rules.Private.Items.{IsHead, IsItem, external_if}
use Rattle.check_declared_variables.specs.variable_rules.Private.Results.{IsResult}
use Rattle.check_declared_variables.specs.variable_rules.Private.Rules.{constant_faults, own_faults, may_be_located}
use Rattle.check_declared_variables.proofs.variable_rules.ExternalLaws.{externals_are}

-- ---- initial values that may be given

module _ (s : Scope) (t : Option StType) where
  pub given_typed : (kind : TypeSpec ℕ) (i : Option (Init ℕ)) (j : Option (Init Note)) → t ≡ type_written s kind → option_map initial_of j ≡ option_map (typed_initial s t) (option_map initial_of i) → IfThere (TypedInitial s kind) i j
  given_typed kind None None e h = tt
  given_typed kind (Some i) (Some j) e h = some_is (initial_of j) (typed_initial s t (initial_of i)) h ∙ ap (λ u. typed_initial s u (initial_of i)) e
    where
      some_is : (a b : Initial Note) → Some a ≡ Some b → a ≡ b
      some_is a b h = cc
  given_typed kind None (Some j) e h = absurd (cc h)
  given_typed kind (Some i) None e h = absurd (cc h)

-- ---- items

parts : (a b c d e f g : Faults) → least (a ++ b ++ c ++ d ++ e ++ f ++ g) ≡ earlier (earlier (least a) (earlier (least (b ++ c ++ d ++ e)) (least f))) (least g)
parts a b c d e f g =
    least-append (a ++ b ++ c ++ d ++ e ++ f) g
    ∙ ap (λ x. earlier x (least g)) (least-append (a ++ b ++ c ++ d ++ e) f ∙ ap (λ x. earlier x (least f)) five ∙ sym (earlier-assoc (least a) (least (b ++ c ++ d ++ e)) (least f)))
  where
    five : least (a ++ b ++ c ++ d ++ e) ≡ earlier (least a) (least (b ++ c ++ d ++ e))
    five =
        least-append (a ++ b ++ c ++ d) e
        ∙ ap (λ x. earlier x (least e)) (least-append (a ++ b ++ c) d ∙ ap (λ x. earlier x (least d)) (least-append (a ++ b) c ∙ ap (λ x. earlier x (least c)) (least-append a b) ∙ sym (earlier-assoc (least a) (least b) (least c)))
        ∙ sym (earlier-assoc (least a) (earlier (least b) (least c)) (least d)))
        ∙ sym (earlier-assoc (least a) (earlier (earlier (least b) (least c)) (least d)) (least e))
        ∙ ap (earlier (least a)) (sym (least-append (b ++ c ++ d) e ∙ ap (λ x. earlier x (least e)) (least-append (b ++ c) d ∙ ap (λ x. earlier x (least d)) (least-append b c))))

module _ (s : Scope) (h : Home) (section : Section ℕ) (item : Item ℕ) where
  abbrev kind : Option StType
  kind = type_written s item.kind

  external_is : least (external_if s.names section item kind) ≡ least (if is_external section.sort then external_faults s item else [])
  external_is = ap (λ fs. least (if is_external section.sort then fs else [])) (externals_are s item)

  least_is : least (item_faults s h section item) ≡ earlier (earlier (least (type_faults s item.kind)) (earlier (least (own_faults s.classes h section item (item_line item) kind)) (least (external_if s.names section item kind))))
      (least (initial_if_given s kind (option_map initial_of item.initial)))
  unfolding item_faults
  least_is =
      parts (type_faults s item.kind) (instance_out_of_place (item_line item) (may_hold_instances h section.sort) kind) (instance_of_abstract_class (item_line item) s.classes section.sort kind)
      (constant_faults section (item_line item) kind (option_map initial_of item.initial)) (address_faults (item_line item) (may_be_located h section) kind item.address)
      (if is_external section.sort then external_faults s item else []) (initial_if_given s kind (option_map initial_of item.initial))
      ∙ ap (λ x. earlier (earlier (least (type_faults s item.kind)) (earlier (least (own_faults s.classes h section item (item_line item) kind)) x)) (least (initial_if_given s kind (option_map initial_of item.initial)))) (sym external_is)

  pub item_checks : (c : CheckedItem) (head : Head) (found : CheckedType) (given : CheckedGiven) (classes : List (ClassDecl ℕ)) (names : DeclaredNames) (line : ℕ) (own external rules : Option (Code × ℕ)) → names ≡ s.names → classes ≡ s.classes
      → ChecksType found s item.kind → ChecksGiven given s found.kind (option_map initial_of item.initial) → line ≡ item_line item → own ≡ least (own_faults classes h section item line found.kind)
      → external ≡ least (external_if names section item found.kind) → rules ≡ earlier own external → IsHead head item → IsItem c head found rules given → ChecksItem c s h section item
  item_checks c head found given classes names line own external rules n k t g l o e r same w =
      let own_is : own ≡ least (own_faults s.classes h section item (item_line item) kind) =
      o ∙ ap (λ cs. least (own_faults cs h section item line found.kind)) k ∙ ap (λ m. least (own_faults s.classes h section item m found.kind)) l
      ∙ ap (λ u. least (own_faults s.classes h section item (item_line item) u)) t.kind in
      let external_found : external ≡ least (external_if s.names section item kind) = e ∙ ap (λ ns. least (external_if ns section item found.kind)) n ∙ ap (λ u. least (external_if s.names section item u)) t.kind in
      let given_found : given.least ≡ least (initial_if_given s kind (option_map initial_of item.initial)) = g.least ∙ ap (λ u. least (initial_if_given s u (option_map initial_of item.initial))) t.kind in
      record {
        least = w.least
            ∙ ap (λ x. earlier (earlier found.least x) given.least) (r ∙ ap (λ x. earlier x external) own_is ∙ ap (earlier (least (own_faults s.classes h section item (item_line item) kind))) external_found)
            ∙ ap (λ x. earlier (earlier x (earlier (least (own_faults s.classes h section item (item_line item) kind)) (least (external_if s.names section item kind)))) given.least) t.least
            ∙ ap (earlier (earlier (least (type_faults s item.kind)) (earlier (least (own_faults s.classes h section item (item_line item) kind)) (least (external_if s.names section item kind))))) given_found
            ∙ sym least_is;
        tree = record {
          marks = w.marks ∙ same.marks;
          names = w.names ∙ same.names;
          address = w.address ∙ same.address;
          kind = subst (λ (u : TypeSpec Note). TypedSpec s item.kind u) (sym w.kind) t.tree;
          initial = subst (λ (j : Option (Init Note)). IfThere (TypedInitial s item.kind) item.initial j) (sym w.initial) (given_typed s found.kind item.kind item.initial given.initial t.kind g.initial);
        };
      }

-- ---- results

module _ (s : Scope) (line : ℕ) (c : CheckedResult) where
  pub result_there : (found : CheckedType) (t : TypeSpec ℕ) (o : Option (TypeSpec ℕ)) → o ≡ Some t → ChecksType found s t → IsResult c line found → ChecksResult c s line o
  result_there found t o e f w = subst (λ (x : Option (TypeSpec ℕ)). ChecksResult c s line x) (sym e) (record {
    least = joined c.least found.least (least (instance_out_of_place line false found.kind)) (type_faults s t) (instance_out_of_place line false (type_written s t)) w.least f.least
        (ap (λ u. least (instance_out_of_place line false u)) f.kind);
    result = subst (λ (x : Option (TypeSpec Note)). IfThere (TypedSpec s) (Some t) x) (sym w.result) f.tree;
  })

  pub no_result : (o : Option (TypeSpec ℕ)) → o ≡ None → c.least ≡ None → c.result ≡ None → ChecksResult c s line o
  no_result o e l r = subst (λ (x : Option (TypeSpec ℕ)). ChecksResult c s line x) (sym e) (record {
    least = l;
    result = subst (λ (x : Option (TypeSpec Note)). IfThere (TypedSpec s) None x) (sym r) tt;
  })
