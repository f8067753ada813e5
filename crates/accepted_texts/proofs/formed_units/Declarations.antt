-- Declarations that are spelled are formed.
use Rattle.std.proofs.Common.{◌≡◌, ◌≤◌, ℕ, ◌+◌, Bool, List, [], ◌∷◌, length, Option, Some, None, sym, ap, subst, arith}
use Rattle.std.specs.Prelude.{◌||◌}
use Rattle.st_tree.specs.declared.terminal.Terminal.TheVariants as x
use Rattle.st_tree.specs.declared.name.Name.{Name}
use Rattle.st_tree.specs.declared.name.Used.{Used}
use Rattle.st_tree.specs.declared.initial.Init.{Init}
use Rattle.st_tree.specs.declared.type_spec.TypeSpec.{TypeSpec}
use Rattle.st_tree.specs.declared.declaration.Modifier.{Modifier}
use Rattle.st_tree.specs.declared.declaration.Item.{Item}
use Rattle.st_tree.specs.declared.declaration.Section.{Section}
use Rattle.st_tree.specs.declared.declaration.FieldGroup.{FieldGroup}
use Rattle.st_tree.specs.declared.declaration.TypeBody.{TypeBody}
use Rattle.st_tree.specs.declared.declaration.TypeBody.TheVariants as type
use Rattle.st_tree.specs.declared.declaration.TypeDecl.{TypeDecl}
use Rattle.st_tree.specs.declared.declaration.Prototype.{Prototype}
use Rattle.st_tree.specs.declared.declaration.InterfaceDecl.{InterfaceDecl}
use Rattle.st_tree.specs.declared.declaration.Method.{Method}
use Rattle.st_tree.specs.declared.declaration.Member.{Member}
use Rattle.st_tree.specs.declared.declaration.Member.TheVariants as members
use Rattle.st_tree.specs.declared.declaration.ClassSort.{ClassSort}
use Rattle.st_tree.specs.declared.declaration.ClassSort.TheVariants as classes
use Rattle.st_tree.specs.declared.declaration.ClassDecl.{ClassDecl}
use Rattle.st_tree.specs.declared.declaration.FunctionDecl.{FunctionDecl}
use Rattle.st_tree.specs.declared.declaration.ProgramDecl.{ProgramDecl}
use Rattle.st_tree.specs.declared.configuration.Setting.{Setting}
use Rattle.st_tree.specs.declared.configuration.SettingValue.{SettingValue}
use Rattle.st_tree.specs.declared.configuration.SettingValue.TheVariants as settings
use Rattle.st_tree.specs.declared.configuration.TaskSpec.{TaskSpec}
use Rattle.st_tree.specs.declared.configuration.InstanceSpec.{InstanceSpec}
use Rattle.st_tree.specs.declared.configuration.Resource.{Resource}
use Rattle.st_tree.specs.declared.configuration.Configuration.{Configuration}
use Rattle.st_tree.specs.declared.unit.Decl.{Decl}
use Rattle.st_tree.specs.declared.unit.Decl.TheVariants as decls
use Rattle.st_tree.specs.Statement.{statements_of}
use Rattle.st_tree.specs.Grammar.{Lexeme, Phrase, ◌⋆◌, sign, spelled, at, name, optional, each, type_spec, initial, body}
use Rattle.st_tree.specs.Initial.{initial_of}
use Rattle.st_tree.specs.Declarations.{more_names, names, start_value, result, modifier_terminal, is_keep, is_access, modifier_in, section_terminal, address, item, section, vars, globals, field_group, type_body, type_decl, used, more_used, used_names, is_class_word, is_method_word, prototype, extended, interface, method, member, base, implemented, head, class_of, function, program, setting_value, setting, more_settings, task_settings, task, instance, tasks, resource, configuration, declaration}
use Rattle.accepted_texts.specs.formed_units.Formed.{Every, IfThere, FormedType, FormedInitial, FormedName, FormedStart, FormedResult, FormedNames, FormedAddress, FormedItem, FormedSection, FormedVars, FormedGlobals, FormedGroup, FormedTypeBody, FormedEntry, FormedBody, FormedPrototype, FormedInterface, FormedMethod, FormedMember, FormedClass, FormedFunction, FormedProgram, FormedConfiguration, FormedDecl, IsFormed}
use Rattle.accepted_texts.proofs.formed_units.Gives.{Fine, Gives, then, means, nothing_gives, sign_gives, spelled_gives, address_spelled, at_gives, marked_gives, word_gives, name_gives, optional_gives, each_gives}
use Rattle.accepted_texts.proofs.formed_units.Expressions.{behind, before}
use Rattle.accepted_texts.proofs.formed_units.Statements.{type_gives, initial_gives, body_gives}

-- as many lexemes are taken as there are names, at least
more_names_long : (ns : List Name) (ts rest : List Lexeme) → more_names ns ts rest → length ns + length rest ≤ length ts
more_names_long [] ts rest w = let k : length ts ≡ length rest = ap length w in omega (arith, k)
more_names_long (n ∷ ns) ts rest w =
    let k = more_names_long ns w.2.0 rest w.2.2 in
    let a = ap length w.1.2 in
    let b = ap length w.2.1.1.2 in
    omega (arith, k, a, b)

names_long : (ns : List Name) (ts rest : List Lexeme) → names ns ts rest → length ns ≤ length ts
names_long [] ts rest w = absurd w
names_long (n ∷ ns) ts rest w =
    let k = more_names_long ns w.0 rest w.2 in
    let b = ap length w.1.1.2 in
    omega (arith, k, b)

module _ (most : ℕ) where
  more_names_gives : (ns : List Name) → Gives most (more_names ns) (Every FormedName ns)
  more_names_gives [] ts rest h w = nothing_gives most ts rest h w
  more_names_gives (n ∷ ns) ts rest h w = behind most x.Comma (name n ⋆ more_names ns) (FormedName n × Every FormedName ns) (then most (name n) (more_names ns) (FormedName n) (Every FormedName ns) (name_gives most n) (more_names_gives ns)) ts rest h w

  names_gives : (ns : List Name) → Gives most (names ns) (FormedNames ns × (length ns ≤ most))
  names_gives [] ts rest h w = absurd w
  names_gives (n ∷ ns) ts rest h w =
      let a = then most (name n) (more_names ns) (FormedName n) (Every FormedName ns) (name_gives most n) (more_names_gives ns) ts rest h w in
      let l = names_long (n ∷ ns) ts rest w in
      let m = h.1 in
      (a.0, (record { some = tt; each = a.1 }, omega (arith, l, m)))

  start_gives : (o : Option (Init ℕ)) → Gives most (start_value o) (FormedStart o)
  start_gives None ts rest h w = nothing_gives most ts rest h w
  start_gives (Some i) ts rest h w = behind most x.Assign (initial (initial_of i)) (FormedInitial (initial_of i)) (initial_gives most (initial_of i)) ts rest h w

  pub result_gives : (o : Option (TypeSpec ℕ)) → Gives most (result o) (FormedResult o)
  result_gives None ts rest h w = nothing_gives most ts rest h w
  result_gives (Some t) ts rest h w = behind most x.Colon (type_spec t) (FormedType t) (type_gives most t) ts rest h w

  pub modifiers_give : (allowed : Modifier → Bool) (ms : List Modifier) → Gives most (each (modifier_in allowed) ms) (Every (λ (m : Modifier). Unit {0}) ms)
  modifiers_give allowed ms = each_gives most (modifier_in allowed) (λ m. Unit {0}) (λ m ts rest h w. sign_gives most (modifier_terminal m) ts rest h w.1) ms

  -- ---- sections

  address_gives : (o : Option (List ℕ)) → Gives most (address o) (IfThere FormedAddress o)
  address_gives None ts rest h w = nothing_gives most ts rest h w
  address_gives (Some text) ts rest h w = behind most x.At (spelled x.Address text) (FormedAddress text) (address_spelled most text) ts rest h w

  typed_gives : (t : TypeSpec ℕ) (o : Option (Init ℕ)) → Gives most (sign x.Colon ⋆ type_spec t ⋆ start_value o ⋆ sign x.Semicolon) (FormedType t × FormedStart o)
  typed_gives t o =
      behind most x.Colon (type_spec t ⋆ start_value o ⋆ sign x.Semicolon) (FormedType t × FormedStart o)
      (then most (type_spec t) (start_value o ⋆ sign x.Semicolon) (FormedType t) (FormedStart o) (type_gives most t) (before most (start_value o) x.Semicolon (FormedStart o) (start_gives o)))

  item_gives : (i : Item ℕ) → Gives most (item i) (FormedItem i)
  item_gives i =
      marked_gives most i.marks (names i.names ⋆ address i.address ⋆ sign x.Colon ⋆ type_spec i.kind ⋆ start_value i.initial ⋆ sign x.Semicolon) (FormedItem i)
      (means most _ ((FormedNames i.names × (length i.names ≤ most)) × (IfThere FormedAddress i.address × (FormedType i.kind × FormedStart i.initial))) (FormedItem i) (λ k. record { names = k.0.0; address = k.1.0; kind = k.1.1.0; initial = k.1.1.1 })
      (then most (names i.names) (address i.address ⋆ sign x.Colon ⋆ type_spec i.kind ⋆ start_value i.initial ⋆ sign x.Semicolon) (FormedNames i.names × (length i.names ≤ most)) (IfThere FormedAddress i.address × (FormedType i.kind × FormedStart i.initial)) (names_gives i.names)
      (then most (address i.address) (sign x.Colon ⋆ type_spec i.kind ⋆ start_value i.initial ⋆ sign x.Semicolon) (IfThere FormedAddress i.address) (FormedType i.kind × FormedStart i.initial) (address_gives i.address) (typed_gives i.kind i.initial))))

  section_gives : (allowed : Modifier → Bool) (s : Section ℕ) → Gives most (section allowed s) (FormedSection s)
  section_gives allowed s =
      at_gives most s.line (sign (section_terminal s.sort) ⋆ each (modifier_in allowed) s.modifiers ⋆ each item s.items ⋆ sign x.EndVar) (FormedSection s)
      (behind most (section_terminal s.sort) (each (modifier_in allowed) s.modifiers ⋆ each item s.items ⋆ sign x.EndVar) (FormedSection s)
      (means most _ (Every (λ (m : Modifier). Unit {0}) s.modifiers × Every FormedItem s.items) (FormedSection s) (λ k. record { items = k.1 })
      (then most (each (modifier_in allowed) s.modifiers) (each item s.items ⋆ sign x.EndVar) (Every (λ (m : Modifier). Unit {0}) s.modifiers) (Every FormedItem s.items) (modifiers_give allowed s.modifiers)
      (before most (each item s.items) x.EndVar (Every FormedItem s.items) (each_gives most item FormedItem item_gives s.items)))))

  pub vars_give : (s : Section ℕ) → Gives most (vars s) (FormedVars s)
  vars_give s ts rest h w = let a = section_gives (λ m. is_keep m || is_access m) s ts rest h w.1 in (a.0, record { local = w.0; section = a.1 })

  pub globals_give : (s : Section ℕ) → Gives most (globals s) (FormedGlobals s)
  globals_give s ts rest h w = let a = section_gives is_keep s ts rest h w.1 in (a.0, record { global = w.0; section = a.1 })

  -- ---- types

  group_gives : (g : FieldGroup ℕ) → Gives most (field_group g) (FormedGroup g)
  group_gives g =
      means most _ ((FormedNames g.names × (length g.names ≤ most)) × (FormedType g.kind × FormedStart g.initial)) (FormedGroup g) (λ k. record { names = k.0.0; kind = k.1.0; initial = k.1.1 })
      (then most (names g.names) (sign x.Colon ⋆ type_spec g.kind ⋆ start_value g.initial ⋆ sign x.Semicolon) (FormedNames g.names × (length g.names ≤ most)) (FormedType g.kind × FormedStart g.initial) (names_gives g.names) (typed_gives g.kind g.initial))

  type_body_gives : (b : TypeBody ℕ) → Gives most (type_body b) (FormedTypeBody most b)
  type_body_gives (type.Alias t) = before most (type_spec t) x.Semicolon (FormedType t) (type_gives most t)
  type_body_gives (type.Enumeration ns) =
      behind most x.Open (names ns ⋆ sign x.Close ⋆ sign x.Semicolon) (FormedNames ns × (length ns ≤ most))
      (means most _ ((FormedNames ns × (length ns ≤ most)) × Unit {0}) (FormedNames ns × (length ns ≤ most)) (λ k. k.0)
      (then most (names ns) (sign x.Close ⋆ sign x.Semicolon) (FormedNames ns × (length ns ≤ most)) (Unit {0}) (names_gives ns) (behind most x.Close (sign x.Semicolon) (Unit {0}) (sign_gives most x.Semicolon))))
  type_body_gives (type.Structure gs) =
      behind most x.Struct (each field_group gs ⋆ sign x.EndStruct ⋆ optional x.Semicolon) (Every FormedGroup gs)
      (means most _ (Every FormedGroup gs × Unit {0}) (Every FormedGroup gs) (λ k. k.0)
      (then most (each field_group gs) (sign x.EndStruct ⋆ optional x.Semicolon) (Every FormedGroup gs) (Unit {0}) (each_gives most field_group FormedGroup group_gives gs) (behind most x.EndStruct (optional x.Semicolon) (Unit {0}) (optional_gives most x.Semicolon))))

  pub entry_gives : (t : TypeDecl ℕ) → Gives most (type_decl t) (FormedEntry most t)
  entry_gives t =
      means most _ (FormedName t.name × FormedTypeBody most t.body) (FormedEntry most t) (λ k. record { name = k.0; body = k.1 })
      (then most (name t.name) (sign x.Colon ⋆ type_body t.body) (FormedName t.name) (FormedTypeBody most t.body) (name_gives most t.name) (behind most x.Colon (type_body t.body) (FormedTypeBody most t.body) (type_body_gives t.body)))

  -- ---- interfaces and classes

  abbrev Nothing : Type 0
  Nothing = Unit {0}

  prototype_gives : (m : Prototype ℕ) → Gives most (prototype m) (FormedPrototype m)
  prototype_gives m =
      at_gives most m.line (sign x.Method ⋆ name m.name ⋆ result m.result ⋆ optional x.Semicolon ⋆ each vars m.sections ⋆ sign x.EndMethod) (FormedPrototype m)
      (behind most x.Method (name m.name ⋆ result m.result ⋆ optional x.Semicolon ⋆ each vars m.sections ⋆ sign x.EndMethod) (FormedPrototype m)
      (means most _ (FormedName m.name × (FormedResult m.result × (Nothing × Every FormedVars m.sections))) (FormedPrototype m) (λ k. record { name = k.0; result = k.1.0; sections = k.1.1.1 })
      (then most (name m.name) (result m.result ⋆ optional x.Semicolon ⋆ each vars m.sections ⋆ sign x.EndMethod) (FormedName m.name) (FormedResult m.result × (Nothing × Every FormedVars m.sections)) (name_gives most m.name)
      (then most (result m.result) (optional x.Semicolon ⋆ each vars m.sections ⋆ sign x.EndMethod) (FormedResult m.result) (Nothing × Every FormedVars m.sections) (result_gives m.result)
      (then most (optional x.Semicolon) (each vars m.sections ⋆ sign x.EndMethod) Nothing (Every FormedVars m.sections) (optional_gives most x.Semicolon)
      (before most (each vars m.sections) x.EndMethod (Every FormedVars m.sections) (each_gives most vars FormedVars vars_give m.sections)))))))

  used_gives : (u : Used ℕ) → Gives most (used u) Nothing
  used_gives u ts rest h w = ((word_gives most u.text ts rest h w.1).0, tt)

  more_used_gives : (us : List (Used ℕ)) → Gives most (more_used us) Nothing
  more_used_gives [] ts rest h w = nothing_gives most ts rest h w
  more_used_gives (u ∷ us) ts rest h w = ((behind most x.Comma (used u ⋆ more_used us) (Nothing × Nothing) (then most (used u) (more_used us) Nothing Nothing (used_gives u) (more_used_gives us)) ts rest h w).0, tt)

  used_names_give : (us : List (Used ℕ)) → Gives most (used_names us) Nothing
  used_names_give [] ts rest h w = absurd w
  used_names_give (u ∷ us) ts rest h w = ((then most (used u) (more_used us) Nothing Nothing (used_gives u) (more_used_gives us) ts rest h w).0, tt)

  extended_gives : (us : List (Used ℕ)) → Gives most (extended us) Nothing
  extended_gives [] ts rest h w = nothing_gives most ts rest h w
  extended_gives (u ∷ us) ts rest h w = behind most x.Extends (used_names (u ∷ us)) Nothing (used_names_give (u ∷ us)) ts rest h w

  implemented_gives : (us : List (Used ℕ)) → Gives most (implemented us) Nothing
  implemented_gives [] ts rest h w = nothing_gives most ts rest h w
  implemented_gives (u ∷ us) ts rest h w = behind most x.Implements (used_names (u ∷ us)) Nothing (used_names_give (u ∷ us)) ts rest h w

  base_gives : (o : Option (Used ℕ)) → Gives most (base o) Nothing
  base_gives None ts rest h w = nothing_gives most ts rest h w
  base_gives (Some u) ts rest h w = behind most x.Extends (used u) Nothing (used_gives u) ts rest h w

  interface_gives : (i : InterfaceDecl ℕ) → Gives most (interface i) (FormedInterface i)
  interface_gives i =
      at_gives most i.line (sign x.Interface ⋆ name i.name ⋆ extended i.bases ⋆ each prototype i.methods ⋆ sign x.EndInterface) (FormedInterface i)
      (behind most x.Interface (name i.name ⋆ extended i.bases ⋆ each prototype i.methods ⋆ sign x.EndInterface) (FormedInterface i)
      (means most _ (FormedName i.name × (Nothing × Every FormedPrototype i.methods)) (FormedInterface i) (λ k. record { name = k.0; methods = k.1.1 })
      (then most (name i.name) (extended i.bases ⋆ each prototype i.methods ⋆ sign x.EndInterface) (FormedName i.name) (Nothing × Every FormedPrototype i.methods) (name_gives most i.name)
      (then most (extended i.bases) (each prototype i.methods ⋆ sign x.EndInterface) Nothing (Every FormedPrototype i.methods) (extended_gives i.bases)
      (before most (each prototype i.methods) x.EndInterface (Every FormedPrototype i.methods) (each_gives most prototype FormedPrototype prototype_gives i.methods))))))

  method_gives : (m : Method ℕ) → Gives most (method m) (FormedMethod m)
  method_gives m ts rest h w =
      let allowed : Modifier → Bool = λ z. is_access z || is_method_word z in
      let words = Every (λ (z : Modifier). Unit {0}) m.modifiers in
      let inner = FormedName m.name × (FormedResult m.result × (Nothing × (Every FormedVars m.sections × FormedBody (statements_of m.body)))) in
      let a = behind most x.Method (each (modifier_in allowed) m.modifiers ⋆ name m.name ⋆ result m.result ⋆ optional x.Semicolon ⋆ each vars m.sections ⋆ body (statements_of m.body) ⋆ sign x.EndMethod) (words × inner)
      (then most (each (modifier_in allowed) m.modifiers) (name m.name ⋆ result m.result ⋆ optional x.Semicolon ⋆ each vars m.sections ⋆ body (statements_of m.body) ⋆ sign x.EndMethod) words inner (modifiers_give allowed m.modifiers)
      (then most (name m.name) (result m.result ⋆ optional x.Semicolon ⋆ each vars m.sections ⋆ body (statements_of m.body) ⋆ sign x.EndMethod) (FormedName m.name) (FormedResult m.result × (Nothing × (Every FormedVars m.sections × FormedBody (statements_of m.body)))) (name_gives most m.name)
      (then most (result m.result) (optional x.Semicolon ⋆ each vars m.sections ⋆ body (statements_of m.body) ⋆ sign x.EndMethod) (FormedResult m.result) (Nothing × (Every FormedVars m.sections × FormedBody (statements_of m.body))) (result_gives m.result)
      (then most (optional x.Semicolon) (each vars m.sections ⋆ body (statements_of m.body) ⋆ sign x.EndMethod) Nothing (Every FormedVars m.sections × FormedBody (statements_of m.body)) (optional_gives most x.Semicolon)
      (then most (each vars m.sections) (body (statements_of m.body) ⋆ sign x.EndMethod) (Every FormedVars m.sections) (FormedBody (statements_of m.body)) (each_gives most vars FormedVars vars_give m.sections)
      (before most (body (statements_of m.body)) x.EndMethod (FormedBody (statements_of m.body)) (body_gives most (statements_of m.body)))))))) ts rest h w.1 in
      (a.0, record { name = a.1.1.0; result = a.1.1.1.0; sections = a.1.1.1.1.1.0; body = a.1.1.1.1.1.1 })

  member_gives : (m : Member ℕ) → Gives most (member m) (FormedMember m)
  member_gives (members.Section s) ts rest h w = vars_give s ts rest h w
  member_gives (members.Method m) ts rest h w = method_gives m ts rest h w

  head_gives : (c : ClassDecl ℕ) → Gives most (head c) (FormedName c.name)
  head_gives c ts rest h w =
      let a = modifiers_give is_class_word c.modifiers ts w.0 h w.1 in
      let b = name_gives most c.name w.0 w.2.0 a.0 w.2.1 in
      let d = base_gives c.base w.2.0 w.2.2.0 b.0 w.2.2.1 in
      let e = implemented_gives c.interfaces w.2.2.0 rest d.0 w.2.2.2 in
      (e.0, b.1)

  class_of_gives : (s : ClassSort) (c : ClassDecl ℕ) → Gives most (class_of s c) (FormedClass c)
  class_of_gives classes.Class c ts rest h w =
      let a = behind most x.Class (head c ⋆ each member c.members ⋆ sign x.EndClass) (FormedName c.name × Every FormedMember c.members)
      (then most (head c) (each member c.members ⋆ sign x.EndClass) (FormedName c.name) (Every FormedMember c.members) (head_gives c)
      (before most (each member c.members) x.EndClass (Every FormedMember c.members) (each_gives most member FormedMember member_gives c.members))) ts rest h w.1 in
      (a.0, record { name = a.1.0; members = a.1.1; body = subst (λ b. FormedBody (statements_of b)) (sym w.0) tt })
  class_of_gives classes.FunctionBlock c ts rest h w =
      let a = behind most x.FunctionBlock (head c ⋆ each member c.members ⋆ body (statements_of c.body) ⋆ sign x.EndFunctionBlock) (FormedName c.name × (Every FormedMember c.members × FormedBody (statements_of c.body)))
      (then most (head c) (each member c.members ⋆ body (statements_of c.body) ⋆ sign x.EndFunctionBlock) (FormedName c.name) (Every FormedMember c.members × FormedBody (statements_of c.body)) (head_gives c)
      (then most (each member c.members) (body (statements_of c.body) ⋆ sign x.EndFunctionBlock) (Every FormedMember c.members) (FormedBody (statements_of c.body)) (each_gives most member FormedMember member_gives c.members)
      (before most (body (statements_of c.body)) x.EndFunctionBlock (FormedBody (statements_of c.body)) (body_gives most (statements_of c.body))))) ts rest h w in
      (a.0, record { name = a.1.0; members = a.1.1.0; body = a.1.1.1 })

  -- ---- functions, programs, configurations

  function_gives : (f : FunctionDecl ℕ) → Gives most (function f) (FormedFunction f)
  function_gives f ts rest h w =
      let a = behind most x.Function (name f.name ⋆ result f.result ⋆ optional x.Semicolon ⋆ each vars f.sections ⋆ body (statements_of f.body) ⋆ sign x.EndFunction) (FormedName f.name × (FormedResult f.result × (Nothing × (Every FormedVars f.sections × FormedBody (statements_of f.body)))))
      (then most (name f.name) (result f.result ⋆ optional x.Semicolon ⋆ each vars f.sections ⋆ body (statements_of f.body) ⋆ sign x.EndFunction) (FormedName f.name) (FormedResult f.result × (Nothing × (Every FormedVars f.sections × FormedBody (statements_of f.body)))) (name_gives most f.name)
      (then most (result f.result) (optional x.Semicolon ⋆ each vars f.sections ⋆ body (statements_of f.body) ⋆ sign x.EndFunction) (FormedResult f.result) (Nothing × (Every FormedVars f.sections × FormedBody (statements_of f.body))) (result_gives f.result)
      (then most (optional x.Semicolon) (each vars f.sections ⋆ body (statements_of f.body) ⋆ sign x.EndFunction) Nothing (Every FormedVars f.sections × FormedBody (statements_of f.body)) (optional_gives most x.Semicolon)
      (then most (each vars f.sections) (body (statements_of f.body) ⋆ sign x.EndFunction) (Every FormedVars f.sections) (FormedBody (statements_of f.body)) (each_gives most vars FormedVars vars_give f.sections)
      (before most (body (statements_of f.body)) x.EndFunction (FormedBody (statements_of f.body)) (body_gives most (statements_of f.body))))))) ts rest h w.1 in
      (a.0, record { name = a.1.0; result = a.1.1.0; sections = a.1.1.1.1.0; body = a.1.1.1.1.1 })

  program_gives : (p : ProgramDecl ℕ) → Gives most (program p) (FormedProgram p)
  program_gives p ts rest h w =
      let a = behind most x.Program (name p.name ⋆ each vars p.sections ⋆ body (statements_of p.body) ⋆ sign x.EndProgram) (FormedName p.name × (Every FormedVars p.sections × FormedBody (statements_of p.body)))
      (then most (name p.name) (each vars p.sections ⋆ body (statements_of p.body) ⋆ sign x.EndProgram) (FormedName p.name) (Every FormedVars p.sections × FormedBody (statements_of p.body)) (name_gives most p.name)
      (then most (each vars p.sections) (body (statements_of p.body) ⋆ sign x.EndProgram) (Every FormedVars p.sections) (FormedBody (statements_of p.body)) (each_gives most vars FormedVars vars_give p.sections)
      (before most (body (statements_of p.body)) x.EndProgram (FormedBody (statements_of p.body)) (body_gives most (statements_of p.body))))) ts rest h w.1 in
      (a.0, record { name = a.1.0; sections = a.1.1.0; body = a.1.1.1 })

  setting_value_gives : (v : SettingValue) → Gives most (setting_value v) Nothing
  setting_value_gives (settings.Int digits) ts rest h w = ((spelled_gives most x.Int digits ts rest h w).0, tt)
  setting_value_gives (settings.Time text) ts rest h w = ((spelled_gives most x.Duration text ts rest h w).0, tt)

  setting_gives : (s : Setting) → Gives most (setting s) Nothing
  setting_gives s ts rest h w = ((then most (name s.name) (sign x.Assign ⋆ at s.line (setting_value s.value)) (FormedName s.name) Nothing (name_gives most s.name) (behind most x.Assign (at s.line (setting_value s.value)) Nothing (at_gives most s.line (setting_value s.value) Nothing (setting_value_gives s.value))) ts rest h w).0, tt)

  more_settings_give : (ss : List Setting) → Gives most (more_settings ss) Nothing
  more_settings_give [] ts rest h w = nothing_gives most ts rest h w
  more_settings_give (s ∷ ss) ts rest h w = ((behind most x.Comma (setting s ⋆ more_settings ss) (Nothing × Nothing) (then most (setting s) (more_settings ss) Nothing Nothing (setting_gives s) (more_settings_give ss)) ts rest h w).0, tt)

  task_settings_give : (ss : List Setting) → Gives most (task_settings ss) Nothing
  task_settings_give [] ts rest h w = nothing_gives most ts rest h w
  task_settings_give (s ∷ ss) ts rest h w = ((then most (setting s) (more_settings ss) Nothing Nothing (setting_gives s) (more_settings_give ss) ts rest h w).0, tt)

  task_gives : (t : TaskSpec) → Gives most (task t) Nothing
  task_gives t ts rest h w = (
    (behind most x.Task (name t.name ⋆ sign x.Open ⋆ task_settings t.settings ⋆ sign x.Close ⋆ sign x.Semicolon) (FormedName t.name × (Nothing × Nothing))
        (then most (name t.name) (sign x.Open ⋆ task_settings t.settings ⋆ sign x.Close ⋆ sign x.Semicolon) (FormedName t.name) (Nothing × Nothing) (name_gives most t.name)
        (behind most x.Open (task_settings t.settings ⋆ sign x.Close ⋆ sign x.Semicolon) (Nothing × Nothing)
        (then most (task_settings t.settings) (sign x.Close ⋆ sign x.Semicolon) Nothing Nothing (task_settings_give t.settings) (behind most x.Close (sign x.Semicolon) Nothing (sign_gives most x.Semicolon))))) ts rest h w.1).0,
    tt,
  )

  instance_gives : (i : InstanceSpec) → Gives most (instance i) Nothing
  instance_gives i ts rest h w = (
    (behind most x.Program (name i.name ⋆ sign x.With ⋆ name i.task ⋆ sign x.Colon ⋆ name i.program ⋆ sign x.Semicolon) (FormedName i.name × (FormedName i.task × FormedName i.program))
        (then most (name i.name) (sign x.With ⋆ name i.task ⋆ sign x.Colon ⋆ name i.program ⋆ sign x.Semicolon) (FormedName i.name) (FormedName i.task × FormedName i.program) (name_gives most i.name)
        (behind most x.With (name i.task ⋆ sign x.Colon ⋆ name i.program ⋆ sign x.Semicolon) (FormedName i.task × FormedName i.program)
        (then most (name i.task) (sign x.Colon ⋆ name i.program ⋆ sign x.Semicolon) (FormedName i.task) (FormedName i.program) (name_gives most i.task)
        (behind most x.Colon (name i.program ⋆ sign x.Semicolon) (FormedName i.program) (before most (name i.program) x.Semicolon (FormedName i.program) (name_gives most i.program)))))) ts rest h w.1).0,
    tt,
  )

  tasks_give : (c : Configuration ℕ) → Gives most (tasks c) Nothing
  tasks_give c ts rest h w =
      ((then most (each task c.tasks) (each instance c.instances) (Every (λ (t : TaskSpec). Nothing) c.tasks) (Every (λ (i : InstanceSpec). Nothing) c.instances) (each_gives most task (λ t. Nothing) task_gives c.tasks) (each_gives most instance (λ i. Nothing) instance_gives c.instances) ts rest h w).0, tt)

  resource_gives : (o : Option (Resource ℕ)) (P : Phrase) → Gives most P Nothing → Gives most (resource o P) (IfThere (λ (r : Resource ℕ). Every FormedGlobals r.globals) o)
  resource_gives None P f ts rest h w = f ts rest h w
  resource_gives (Some r) P f ts rest h w =
      let a = behind most x.Resource (name r.name ⋆ sign x.On ⋆ name r.processor ⋆ each globals r.globals ⋆ P ⋆ sign x.EndResource) (FormedName r.name × (FormedName r.processor × (Every FormedGlobals r.globals × Nothing)))
      (then most (name r.name) (sign x.On ⋆ name r.processor ⋆ each globals r.globals ⋆ P ⋆ sign x.EndResource) (FormedName r.name) (FormedName r.processor × (Every FormedGlobals r.globals × Nothing)) (name_gives most r.name)
      (behind most x.On (name r.processor ⋆ each globals r.globals ⋆ P ⋆ sign x.EndResource) (FormedName r.processor × (Every FormedGlobals r.globals × Nothing))
      (then most (name r.processor) (each globals r.globals ⋆ P ⋆ sign x.EndResource) (FormedName r.processor) (Every FormedGlobals r.globals × Nothing) (name_gives most r.processor)
      (then most (each globals r.globals) (P ⋆ sign x.EndResource) (Every FormedGlobals r.globals) Nothing (each_gives most globals FormedGlobals globals_give r.globals) (before most P x.EndResource Nothing f))))) ts rest h w in
      (a.0, a.1.1.1.0)

  configuration_gives : (c : Configuration ℕ) → Gives most (configuration c) (FormedConfiguration c)
  configuration_gives c ts rest h w =
      let inside = IfThere (λ (r : Resource ℕ). Every FormedGlobals r.globals) c.resource in
      let a = behind most x.Configuration (name c.name ⋆ each globals c.globals ⋆ resource c.resource (tasks c) ⋆ sign x.EndConfiguration) (FormedName c.name × (Every FormedGlobals c.globals × inside))
      (then most (name c.name) (each globals c.globals ⋆ resource c.resource (tasks c) ⋆ sign x.EndConfiguration) (FormedName c.name) (Every FormedGlobals c.globals × inside) (name_gives most c.name)
      (then most (each globals c.globals) (resource c.resource (tasks c) ⋆ sign x.EndConfiguration) (Every FormedGlobals c.globals) inside (each_gives most globals FormedGlobals globals_give c.globals)
      (before most (resource c.resource (tasks c)) x.EndConfiguration inside (resource_gives c.resource (tasks c) (tasks_give c))))) ts rest h w.1 in
      (a.0, record { name = a.1.0; globals = a.1.1.0; resource = a.1.1.1 })

  declaration_gives : (d : Decl ℕ) → Gives most (declaration d) (FormedDecl most d)
  declaration_gives (decls.Types line ds) ts rest h w = behind most x.Type (each type_decl ds ⋆ sign x.EndType) (Every (FormedEntry most) ds) (before most (each type_decl ds) x.EndType (Every (FormedEntry most) ds) (each_gives most type_decl (FormedEntry most) entry_gives ds)) ts rest h w.1
  declaration_gives (decls.Globals s) ts rest h w = globals_give s ts rest h w
  declaration_gives (decls.Interface i) ts rest h w = interface_gives i ts rest h w
  declaration_gives (decls.Class c) ts rest h w = class_of_gives c.sort c ts rest h w.1
  declaration_gives (decls.Function f) ts rest h w = function_gives f ts rest h w
  declaration_gives (decls.Program p) ts rest h w = program_gives p ts rest h w
  declaration_gives (decls.Configuration c) ts rest h w = configuration_gives c ts rest h w

  -- what lexemes spell is formed, where each of them is and there are at most so many
  pub derived : (ds : List (Decl ℕ)) (ts rest : List Lexeme) → Fine most ts → each declaration ds ts rest → IsFormed most ds
  derived ds ts rest h w = (each_gives most declaration (FormedDecl most) declaration_gives ds ts rest h w).1
