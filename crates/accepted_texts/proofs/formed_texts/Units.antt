-- In a formed unit arguments with a name have one that is not empty, wherever a type, a value or a result is written.
use Rattle.std.proofs.Common.{◌≡◌, ℕ, Bool, true, false, List, [], ◌∷◌, Option, Some, None, sym, subst}
use Rattle.std.specs.Prelude.{flat_map, option_map, slice_get}
use Rattle.st_tree.specs.declared.initial.Init.{Init}
use Rattle.st_tree.specs.declared.type_spec.ArraySpec.{ArraySpec}
use Rattle.st_tree.specs.declared.type_spec.TypeSpec.{TypeSpec}
use Rattle.st_tree.specs.declared.declaration.ClassDecl.{ClassDecl}
use Rattle.st_tree.specs.declared.declaration.FieldGroup.{FieldGroup}
use Rattle.st_tree.specs.declared.declaration.InterfaceDecl.{InterfaceDecl}
use Rattle.st_tree.specs.declared.declaration.Item.{Item}
use Rattle.st_tree.specs.declared.declaration.Member.{Member}
use Rattle.st_tree.specs.declared.declaration.Member.TheVariants as member
use Rattle.st_tree.specs.declared.declaration.Method.{Method}
use Rattle.st_tree.specs.declared.declaration.Prototype.{Prototype}
use Rattle.st_tree.specs.declared.declaration.Section.{Section}
use Rattle.st_tree.specs.declared.declaration.TypeBody.{TypeBody}
use Rattle.st_tree.specs.declared.declaration.TypeBody.TheVariants as body
use Rattle.st_tree.specs.declared.declaration.TypeDecl.{TypeDecl}
use Rattle.st_tree.specs.declared.name.Name.{Name}
use Rattle.st_tree.specs.declared.unit.Decl.{Decl}
use Rattle.st_tree.specs.declared.unit.Decl.TheVariants as declaration
use Rattle.st_tree.specs.Expression.{Expression, Int, Typed, Time, True, False, Null, Place, Call, Enumerator, Ref, Now, Paren, Not, Negate, Chain, Positional, Input, Output, Arguments, no_arguments, argument_then, Tails, no_tails, tail_then, expression_of}
use Rattle.st_tree.specs.Initial as init
use Rattle.st_tree.specs.Initial.{Initial, initial_of}
use Rattle.st_rules.specs.Classes.{classes_in, methods_in}
use Rattle.st_rules.specs.Scope.{Scope}
use Rattle.st_unit_rules.specs.declared_names.Declarations.{Declaration, an_entry, a_global, an_interface, a_class, a_function, a_program, a_configuration, Placed, placed, declarations, declarations_of, globals_of_item, globals_of_section, configuration_globals, resource_globals}
use Rattle.st_unit_rules.specs.declared_names.UnitNames.{unit_names, class_scope, method_scope, function_scope, prototype_scope, program_scope}
use Rattle.st_unit_rules.specs.declared_names.Variables.{Written, item_written, section_written, sections_written, sections_in}
use Rattle.resolution_order.specs.told_laws.ToldLaws.{Every}
use Rattle.accepted_texts.proofs.unfolding_laws.CycleLaws.{all_placed}
use Rattle.accepted_texts.proofs.unfolding_laws.ListLaws.{every_append, every_at, every_means, every_map, every_mapped, every_joined}
use Rattle.accepted_texts.specs.told_units.Told.{WrittenIn, in_class, in_method, in_function, in_prototype, in_program, IsFormedUnit}
use Rattle.accepted_texts.specs.told_units.Formed.{IsName, HasNames, HaveNamesIn, HaveNames, HaveNamesInBounds, IsFormedType, IsFormedResult, IsFormedInitial, IsFormedWritten, IsFormedBody, IsFormedDeclaration}
use Rattle.accepted_texts.specs.formed_units.Formed as formed
use Rattle.accepted_texts.specs.formed_units.Formed.{NotEmpty, IfThere, Formed, FormedTails, FormedArguments, FormedBounds, FormedArray, FormedType, FormedStart, FormedResult, FormedItem, FormedVars, FormedGlobals, FormedGroup, FormedTypeBody, FormedEntry, FormedPrototype, FormedInterface, FormedMethod, FormedMember, FormedClass, FormedFunction, FormedProgram, FormedDecl, IsFormed}

-- ---- lists

pub over : {X : Type 0} (P Q : X → Type 0) → ((x : X) → P x → Q x) → (xs : List X) → formed.Every P xs → Every Q xs
over P Q f [] h = tt
over P Q f (x ∷ xs) h = (f x h.0, over P Q f xs h.1)

-- ---- expressions

is_name : (n : List ℕ) → NotEmpty n → IsName n
is_name [] h = h
is_name (c ∷ cs) h = tt

mutual
  pub has_names : (e : Expression ℕ) → Formed e → HasNames e
  has_names (Call l r ss xs) h = have_names xs h.1.1
  has_names (Paren l e) h = has_names e h
  has_names (Not l e) h = has_names e h
  has_names (Negate l e) h = has_names e h
  has_names (Chain l e ts) h = (has_names e h.0, have_names_in ts h.1)
  has_names (Int l d) h = tt
  has_names (Typed l k v) h = tt
  has_names (Time l t) h = tt
  has_names (True l) h = tt
  has_names (False l) h = tt
  has_names (Null l) h = tt
  has_names (Place l r ss) h = tt
  has_names (Enumerator l t k n) h = tt
  has_names (Ref l r ss) h = tt
  has_names (Now l) h = tt

  have_names_in : (ts : Tails ℕ) → FormedTails ts → HaveNamesIn ts
  have_names_in no_tails h = tt
  have_names_in (tail_then l o e ts) h = (has_names e h.0, have_names_in ts h.1)

  have_names : (xs : Arguments ℕ) → FormedArguments xs → HaveNames xs
  have_names no_arguments h = tt
  have_names (argument_then (Positional e) xs) h = (has_names e h.0, have_names xs h.1)
  have_names (argument_then (Input l name e) xs) h = (is_name name h.0.0, has_names e h.0.1, have_names xs h.1)
  have_names (argument_then (Output l name k r ss) xs) h = have_names xs h.1

type_formed : (t : TypeSpec ℕ) → FormedType t → IsFormedType t
type_formed t h =
    every_joined HaveNamesInBounds (λ (a : ArraySpec ℕ). a.bounds) t.arrays
    (over FormedArray (λ (a : ArraySpec ℕ). Every HaveNamesInBounds a.bounds)
    (λ a k. over FormedBounds HaveNamesInBounds (λ b j. (has_names (expression_of b.low) j.low, has_names (expression_of b.high) j.high)) a.bounds k.bounds) t.arrays h.arrays)

initial_formed : (i : Initial ℕ) → formed.FormedInitial i → IsFormedInitial (Some i)
initial_formed (init.Value e) h = has_names e h
initial_formed (init.Array l ps) h = tt
initial_formed (init.Fields l fs) h = tt

start_formed : (o : Option (Init ℕ)) → FormedStart o → IsFormedInitial (option_map initial_of o)
start_formed None h = tt
start_formed (Some i) h = initial_formed (initial_of i) h

-- ---- sections

item_formed : (x : Section ℕ) (item : Item ℕ) → FormedItem item → Every IsFormedWritten (item_written x item)
item_formed x item h = every_mapped IsFormedWritten _ item.names (same item.names)
  where
    same : (ns : List Name) → Every (λ (n : Name). IsFormedType item.kind × IsFormedInitial (option_map initial_of item.initial)) ns
    same [] = tt
    same (n ∷ ns) = ((type_formed item.kind h.kind, start_formed item.initial h.initial), same ns)

section_formed : (ss : List (Section ℕ)) → formed.Every FormedVars ss → Every IsFormedWritten (sections_written ss)
section_formed ss h =
    every_joined IsFormedWritten section_written ss
    (over FormedVars (λ x. Every IsFormedWritten (section_written x))
    (λ x k. every_joined IsFormedWritten (item_written x) x.items (over FormedItem (λ item. Every IsFormedWritten (item_written x item)) (item_formed x) x.items k.section.items)) ss h)

-- ---- members

methods_formed : (ms : List (Member ℕ)) → formed.Every FormedMember ms → Every FormedMethod (methods_in ms)
methods_formed [] h = tt
methods_formed (member.Method m ∷ ms) h = (h.0, methods_formed ms h.1)
methods_formed (member.Section x ∷ ms) h = methods_formed ms h.1

pub sections_formed : (ms : List (Member ℕ)) → formed.Every FormedMember ms → formed.Every FormedVars (sections_in ms)
sections_formed [] h = tt
sections_formed (member.Section x ∷ ms) h = (h.0, sections_formed ms h.1)
sections_formed (member.Method m ∷ ms) h = sections_formed ms h.1

module _ (most : ℕ) where
  abbrev pub FormedPart : Declaration → Type 0
  FormedPart (an_entry t) = FormedEntry most t
  FormedPart (a_global g) = FormedItem g.item
  FormedPart (an_interface d) = FormedInterface d
  FormedPart (a_class d) = FormedClass d
  FormedPart (a_function f) = FormedFunction f
  FormedPart (a_program d) = FormedProgram d
  FormedPart (a_configuration c) = Unit {0}

  globals_formed : (s : Section ℕ) (item : Item ℕ) (first : Bool) (ws : List Written) → FormedItem item → Every FormedPart (globals_of_item s item first ws)
  globals_formed s item first [] h = tt
  globals_formed s item first (w ∷ ws) h = (h, globals_formed s item false ws h)

  section_parts : (s : Section ℕ) → FormedGlobals s → Every FormedPart (globals_of_section s)
  section_parts s h =
      every_joined FormedPart (λ (item : Item ℕ). globals_of_item s item true (item_written s item)) s.items
      (over FormedItem (λ item. Every FormedPart (globals_of_item s item true (item_written s item))) (λ item k. globals_formed s item true (item_written s item) k) s.items h.section.items)

  all_globals : (ss : List (Section ℕ)) → Every FormedGlobals ss → Every FormedPart (flat_map globals_of_section ss)
  all_globals ss h = every_joined FormedPart globals_of_section ss (every_means FormedGlobals (λ s. Every FormedPart (globals_of_section s)) section_parts ss h)

  resource_formed : (o : Option _) → IfThere (λ (r : Rattle.st_tree.specs.declared.configuration.Resource.Resource ℕ). formed.Every FormedGlobals r.globals) o → Every FormedGlobals (resource_globals o)
  resource_formed None h = tt
  resource_formed (Some r) h = over FormedGlobals FormedGlobals (λ s k. k) r.globals h

  decl_parts : (d : Decl ℕ) → FormedDecl most d → Every FormedPart (declarations_of d)
  decl_parts (declaration.Types l ts) h = every_mapped FormedPart an_entry ts (over (FormedEntry most) (λ t. FormedPart (an_entry t)) (λ t k. k) ts h)
  decl_parts (declaration.Globals s) h = section_parts s h
  decl_parts (declaration.Interface d) h = (h, tt)
  decl_parts (declaration.Class d) h = (h, tt)
  decl_parts (declaration.Function d) h = (h, tt)
  decl_parts (declaration.Program d) h = (h, tt)
  decl_parts (declaration.Configuration c) h = (tt, all_globals (configuration_globals c) (every_append FormedGlobals c.globals (resource_globals c.resource) (over FormedGlobals FormedGlobals (λ s k. k) c.globals h.globals) (resource_formed c.resource h.resource)))

  classes_formed : (ds : List (Decl ℕ)) → IsFormed most ds → Every FormedClass (classes_in ds)
  classes_formed [] h = tt
  classes_formed (declaration.Class d ∷ ds) h = (h.0, classes_formed ds h.1)
  classes_formed (declaration.Types l ts ∷ ds) h = classes_formed ds h.1
  classes_formed (declaration.Globals s ∷ ds) h = classes_formed ds h.1
  classes_formed (declaration.Interface d ∷ ds) h = classes_formed ds h.1
  classes_formed (declaration.Function d ∷ ds) h = classes_formed ds h.1
  classes_formed (declaration.Program d ∷ ds) h = classes_formed ds h.1
  classes_formed (declaration.Configuration c ∷ ds) h = classes_formed ds h.1

  module _ (decls : List (Decl ℕ)) (h : IsFormed most decls) where
    pub all_parts : Every FormedPart (declarations decls)
    unfolding declarations
    all_parts = every_joined FormedPart declarations_of decls (over (FormedDecl most) (λ d. Every FormedPart (declarations_of d)) decl_parts decls h)

    pub part_at : (i : ℕ) (x : Placed) (d : Declaration) → slice_get (placed decls) i ≡ Some x → x.declaration ≡ d → FormedPart d
    part_at i x d e q =
        subst FormedPart q
        (every_at (λ (y : Placed). FormedPart y.declaration) (placed decls) i x (every_map FormedPart (λ (y : Placed). y.declaration) (placed decls) (subst (Every FormedPart) (sym (all_placed decls)) all_parts)) e)

    pub class_at : (c : ℕ) (d : ClassDecl ℕ) → slice_get (classes_in decls) c ≡ Some d → FormedClass d
    class_at c d e = every_at FormedClass (classes_in decls) c d (classes_formed decls h) e

    pub method_at : (c : ℕ) (d : ClassDecl ℕ) (k : ℕ) (m : Method ℕ) → slice_get (classes_in decls) c ≡ Some d → slice_get (methods_in d.members) k ≡ Some m → FormedMethod m
    method_at c d k m e f = every_at FormedMethod (methods_in d.members) k m (methods_formed d.members (class_at c d e).members) f

    pub prototype_at : (i : ℕ) (x : Placed) (d : InterfaceDecl ℕ) (k : ℕ) (m : Prototype ℕ) → slice_get (placed decls) i ≡ Some x → x.declaration ≡ an_interface d → slice_get d.methods k ≡ Some m → FormedPrototype m
    prototype_at i x d k m e q f = every_at FormedPrototype d.methods k m (over FormedPrototype FormedPrototype (λ y j. j) d.methods (part_at i x (an_interface d) e q).methods) f

    result_formed : (o : Option (TypeSpec ℕ)) → FormedResult o → IsFormedResult o
    result_formed None k = tt
    result_formed (Some t) k = type_formed t k

    body_formed : (b : TypeBody ℕ) → FormedTypeBody most b → IsFormedBody b
    body_formed (body.Alias u) j = type_formed u j
    body_formed (body.Enumeration ns) j = tt
    body_formed (body.Structure gs) j = over FormedGroup (λ (g : FieldGroup ℕ). IsFormedType g.kind) (λ g k. type_formed g.kind k.kind) gs j

    declared_formed : (d : Declaration) → FormedPart d → IsFormedDeclaration d
    declared_formed (an_entry t) k = body_formed t.body k.body
    declared_formed (a_global g) k = (type_formed g.item.kind k.kind, start_formed g.item.initial k.initial)
    declared_formed (an_interface d) k = tt
    declared_formed (a_class d) k = tt
    declared_formed (a_function d) k = tt
    declared_formed (a_program d) k = tt
    declared_formed (a_configuration d) k = tt

    inner_formed : (s : Scope) (r : Option (TypeSpec ℕ)) (ss : List (Section ℕ)) → WrittenIn decls s r ss → Every IsFormedWritten (sections_written ss)
    inner_formed s r ss (in_class c d e) = section_formed (sections_in d.members) (sections_formed d.members (class_at c d e).members)
    inner_formed s r ss (in_method c d k m e f) = section_formed m.sections (method_at c d k m e f).sections
    inner_formed s r ss (in_function i x f e q) = section_formed f.sections (part_at i x (a_function f) e q).sections
    inner_formed s r ss (in_prototype i x d k m e q f) = section_formed m.sections (prototype_at i x d k m e q f).sections
    inner_formed s r ss (in_program i x p e q) = section_formed p.sections (part_at i x (a_program p) e q).sections

    results_formed : (s : Scope) (r : Option (TypeSpec ℕ)) (ss : List (Section ℕ)) → WrittenIn decls s r ss → IsFormedResult r
    results_formed s r ss (in_class c d e) = tt
    results_formed s r ss (in_method c d k m e f) = result_formed m.result (method_at c d k m e f).result
    results_formed s r ss (in_function i x f e q) = result_formed f.result (part_at i x (a_function f) e q).result
    results_formed s r ss (in_prototype i x d k m e q f) = result_formed m.result (prototype_at i x d k m e q f).result
    results_formed s r ss (in_program i x p e q) = tt

    pub formed_unit : IsFormedUnit decls
    formed_unit = record {
      declared = every_means FormedPart IsFormedDeclaration declared_formed (declarations decls) all_parts;
      inner = inner_formed;
      results = results_formed;
    }
