-- Signatures, one after the other.
use Rattle.std.proofs.Common.{◌≡◌, ℕ, zero, suc, ◌+◌, ◌<◌, ◌≤◌, Bool, true, false, List, [], ◌∷◌, ◌++◌, Option, Some, None, map, take, length, get_or, refl, sym, ap, ◌∙◌, subst, arith, append-nil, append_assoc}
use Rattle.std.specs.Prelude.{flat_map}
use Rattle.st_rules.proofs.ListLaws.{take-at, take-end}
use Rattle.st_tree.specs.declared.configuration.Configuration.{Configuration}
use Rattle.st_tree.specs.declared.declaration.ClassDecl.{ClassDecl}
use Rattle.st_tree.specs.declared.declaration.FunctionDecl.{FunctionDecl}
use Rattle.st_tree.specs.declared.declaration.InterfaceDecl.{InterfaceDecl}
use Rattle.st_tree.specs.declared.declaration.ProgramDecl.{ProgramDecl}
use Rattle.st_tree.specs.declared.declaration.TypeDecl.{TypeDecl}
use Rattle.st_tree.specs.declared.declaration.Member.{Member}
use Rattle.st_tree.specs.declared.declaration.Member.TheVariants as member
use Rattle.st_tree.specs.declared.declaration.Method.{Method}
use Rattle.st_tree.specs.declared.declaration.Prototype.{Prototype}
use Rattle.st_tree.specs.declared.declaration.Section.{Section}
use Rattle.st_tree.specs.declared.name.Name.{Name}
use Rattle.st_tree.specs.declared.type_spec.TypeSpec.{TypeSpec}
use Rattle.st_tree.specs.declared.unit.Decl.{Decl}
use Rattle.st_tree.specs.declared.unit.Decl.TheVariants as declaration
use Rattle.st_rules.specs.declared.signature.Parameter.{Parameter}
use Rattle.st_rules.specs.declared.signature.ResultType.{ResultType}
use Rattle.st_rules.specs.declared.signature.Signature.{Signature}
use Rattle.st_rules.specs.Classes.{classes_in, methods_in}
use Rattle.st_rules.specs.Interfaces.{interfaces_in}
use Rattle.st_rules.specs.Numbered.{each_numbered}
use Rattle.st_rules.specs.Scope.{Scope}
use Rattle.st_rules.specs.Signatures as signatures
use Rattle.st_unit_rules.specs.declared_names.WrittenTypes.{type_written}
use Rattle.st_unit_rules.specs.Worth.{Worth}
use Rattle.default_values.specs.declared.worth_numbers.node.Node.{Node}
use Rattle.default_values.specs.worth_numbers.Numbers.{Grows, HasWorth}
use Rattle.default_values.proofs.worth_numbers.TableLaws.{grows_self, worth_stays}
use Rattle.default_values.specs.numbered_signatures.Alike.{AreAlike, IsAlikeParameter, IsAlike}
use Rattle.check_signatures.specs.declared.unit_signatures.weighed.Weighed.{Weighed}
use Rattle.check_signatures.specs.unit_signatures.Private.Adds.{Adds}
use Rattle.check_signatures.specs.unit_signatures.Private.Parameters.{AreWeighed, parameter_tells, value_in, section_parameters, result_in}
use Rattle.check_signatures.specs.unit_signatures.Private.Routines.{signature_tells, list_tells, signature_of, TellsSignature, TellsRoutine, routine_scope, method_signature, prototype_signature, class_signatures, interface_signatures, classes_from, AddsClass}
use Rattle.check_signatures.proofs.unit_signatures.AddLaws.{alike_more, adds_begun, adds_none, adds_as, adds_through, adds_one, adds_next, adds_ended}
use Rattle.check_signatures.proofs.unit_signatures.ParameterLaws.{weighed_stay, parameter_stays}

pub signature_stays : (a b : List Node) → Grows a b → (x : Signature ℕ) (y : Signature Worth) → signature_tells a x y → signature_tells b x y
signature_stays a b g x y h = record { result = h.result; parameters = alike_more (parameter_tells a) (parameter_tells b) (parameter_stays a b g) x.parameters y.parameters h.parameters }

pub list_stays : (a b : List Node) → Grows a b → (xs : List (Signature ℕ)) (ys : List (Signature Worth)) → list_tells a xs ys → list_tells b xs ys
list_stays a b g xs ys h = alike_more (signature_tells a) (signature_tells b) (signature_stays a b g) xs ys h

-- ---- one signature

result_same : (w : Weighed) (s : Scope) (o : Option (TypeSpec ℕ)) → result_in s o ≡ signatures.result_type (type_written s) (value_in w s) o
result_same w s None = refl
result_same w s (Some t) = refl

module _ (w : Weighed) (old new : List Node) where
  pub signature_told : (s : Scope) (o : Option (TypeSpec ℕ)) (sections : List (Section ℕ)) (r : ResultType) (ps : List (Parameter ℕ)) → r ≡ result_in s o → Adds parameter_tells (AreWeighed w) old new [] ps (flat_map (section_parameters w s) sections)
      → TellsSignature w old new s o sections (record { result = r; parameters = ps })
  signature_told s o sections r ps e h = record { grows = h.grows; told = λ a. record { result = e ∙ result_same w s o; parameters = h.told a [] tt } }

  pub routine_told : (c : Option ℕ) (m : Bool) (name : Name) (o : Option (TypeSpec ℕ)) (sections : List (Section ℕ)) (s : Scope) (x : Signature ℕ) → s ≡ routine_scope w.tables.now.decls c m name o sections
      → TellsSignature w old new s o sections x → TellsRoutine w old new c m name o sections x
  routine_told c m name o sections s x e h = record { grows = h.grows; told = λ a. subst (λ (t : Scope). signature_tells new x (signature_of w t o sections)) e (h.told a) }

-- ---- methods of a class

module _ (w : Weighed) where
  pub method_added : (old new : List Node) (xs ys : List (Signature ℕ)) (c : ℕ) (x : Member ℕ) (m : Method ℕ) (ss : List (Section ℕ)) (y : Signature ℕ) → x ≡ member.Method m → ss ≡ m.sections → TellsRoutine w old new (Some c) true m.name m.result ss y → ys ≡ xs ++ y ∷ []
      → Adds signature_tells (AreWeighed w) old new xs ys (map (method_signature w c) (methods_in (x ∷ [])))
  method_added old new xs ys c x m ss y q e h p =
      subst (λ (z : Member ℕ). Adds signature_tells (AreWeighed w) old new xs ys (map (method_signature w c) (methods_in (z ∷ [])))) (sym q)
      (adds_one signature_tells (AreWeighed w) (weighed_stay w) signature_stays old new xs ys y (method_signature w c m) h.grows
      (subst (λ (ts : List (Section ℕ)). AreWeighed w old → signature_tells new y (signature_of w (routine_scope w.tables.now.decls (Some c) true m.name m.result ts) m.result ts)) e h.told) p)

  pub section_adds_none : (nodes : List Node) (xs : List (Signature ℕ)) (c : ℕ) (x : Member ℕ) (s : Section ℕ) → x ≡ member.Section s → Adds signature_tells (AreWeighed w) nodes nodes xs xs (map (method_signature w c) (methods_in (x ∷ [])))
  section_adds_none nodes xs c x s q =
      adds_none signature_tells (AreWeighed w) nodes xs (map (method_signature w c) (methods_in (x ∷ []))) (ap (λ (z : Member ℕ). map (method_signature w c) (methods_in (z ∷ []))) q)

  -- the methods of one member
  abbrev pub of_member : ℕ → Member ℕ → List (Signature Worth)
  of_member c m = map (method_signature w c) (methods_in (m ∷ []))

  members_are : (c : ℕ) (ms : List (Member ℕ)) → flat_map (of_member c) ms ≡ map (method_signature w c) (methods_in ms)
  members_are c [] = refl
  members_are c (member.Method m ∷ ms) = ap (λ ys. method_signature w c m ∷ ys) (members_are c ms)
  members_are c (member.Section s ∷ ms) = members_are c ms

  pub members_next : (c : ℕ) (ms : List (Member ℕ)) (a b d : List Node) (ys us : List (Signature ℕ)) (i : ℕ) (m : Member ℕ) → i < length ms → m ≡ get_or ms i m → Adds signature_tells (AreWeighed w) a b [] ys (flat_map (of_member c) (take i ms))
      → Adds signature_tells (AreWeighed w) b d ys us (of_member c m) → Adds signature_tells (AreWeighed w) a d [] us (flat_map (of_member c) (take (i + 1) ms))
  members_next c ms a b d ys us i m l e p q = adds_next signature_tells (AreWeighed w) (weighed_stay w) signature_stays (of_member c) ms a b d [] ys us i m l e p q

  pub members_ended : (c : ℕ) (ms : List (Member ℕ)) (a b : List Node) (ys : List (Signature ℕ)) (i : ℕ) → length ms ≤ i → Adds signature_tells (AreWeighed w) a b [] ys (flat_map (of_member c) (take i ms))
      → Adds signature_tells (AreWeighed w) a b [] ys (map (method_signature w c) (methods_in ms))
  members_ended c ms a b ys i l h =
      adds_as signature_tells (AreWeighed w) a b [] ys (flat_map (of_member c) ms) (map (method_signature w c) (methods_in ms)) (members_are c ms)
      (adds_ended signature_tells (AreWeighed w) (weighed_stay w) signature_stays (of_member c) ms a b [] ys i l h)

  -- ---- methods of an interface

  pub prototype_added : (old new : List Node) (xs ys : List (Signature ℕ)) (m : Prototype ℕ) (ss : List (Section ℕ)) (y : Signature ℕ) → ss ≡ m.sections → TellsRoutine w old new None false m.name m.result ss y → ys ≡ xs ++ y ∷ []
      → Adds signature_tells (AreWeighed w) old new xs ys (prototype_signature w m ∷ [])
  prototype_added old new xs ys m ss y e h p =
      adds_one signature_tells (AreWeighed w) (weighed_stay w) signature_stays old new xs ys y (prototype_signature w m) h.grows
      (subst (λ (ts : List (Section ℕ)). AreWeighed w old → signature_tells new y (signature_of w (routine_scope w.tables.now.decls None false m.name m.result ts) m.result ts)) e h.told) p

  abbrev pub of_prototype : Prototype ℕ → List (Signature Worth)
  of_prototype m = prototype_signature w m ∷ []

  prototypes_are : (ms : List (Prototype ℕ)) → flat_map of_prototype ms ≡ map (prototype_signature w) ms
  prototypes_are [] = refl
  prototypes_are (m ∷ ms) = ap (λ ys. prototype_signature w m ∷ ys) (prototypes_are ms)

  pub prototypes_next : (ms : List (Prototype ℕ)) (a b d : List Node) (ys us : List (Signature ℕ)) (i : ℕ) (m : Prototype ℕ) → i < length ms → m ≡ get_or ms i m → Adds signature_tells (AreWeighed w) a b [] ys (flat_map of_prototype (take i ms))
      → Adds signature_tells (AreWeighed w) b d ys us (of_prototype m) → Adds signature_tells (AreWeighed w) a d [] us (flat_map of_prototype (take (i + 1) ms))
  prototypes_next ms a b d ys us i m l e p q = adds_next signature_tells (AreWeighed w) (weighed_stay w) signature_stays of_prototype ms a b d [] ys us i m l e p q

  pub prototypes_ended : (ms : List (Prototype ℕ)) (a b : List Node) (ys : List (Signature ℕ)) (i : ℕ) → length ms ≤ i → Adds signature_tells (AreWeighed w) a b [] ys (flat_map of_prototype (take i ms))
      → Adds signature_tells (AreWeighed w) a b [] ys (map (prototype_signature w) ms)
  prototypes_ended ms a b ys i l h =
      adds_as signature_tells (AreWeighed w) a b [] ys (flat_map of_prototype ms) (map (prototype_signature w) ms) (prototypes_are ms)
      (adds_ended signature_tells (AreWeighed w) (weighed_stay w) signature_stays of_prototype ms a b [] ys i l h)

  -- ---- lists of signatures

  -- the list of one more class or interface
  pub list_added : (old new : List Node) (xs ys : List (List (Signature ℕ))) (list : List (Signature ℕ)) (more : List (Signature Worth)) → Adds signature_tells (AreWeighed w) old new [] list more → ys ≡ xs ++ list ∷ [] → Adds list_tells (AreWeighed w) old new xs ys (more ∷ [])
  list_added old new xs ys list more h p = adds_one list_tells (AreWeighed w) (weighed_stay w) list_stays old new xs ys list more h.grows (λ a. h.told a [] tt) p

  abbrev pub of_interface : Decl ℕ → List (List (Signature Worth))
  of_interface d = map (interface_signatures w) (interfaces_in (d ∷ []))

  pub interface_added : (old new : List Node) (xs ys : List (List (Signature ℕ))) (d : Decl ℕ) (i : InterfaceDecl ℕ) (ms : List (Prototype ℕ)) (list : List (Signature ℕ)) → d ≡ declaration.Interface i → ms ≡ i.methods
      → Adds signature_tells (AreWeighed w) old new [] list (map (prototype_signature w) ms) → ys ≡ xs ++ list ∷ [] → Adds list_tells (AreWeighed w) old new xs ys (of_interface d)
  interface_added old new xs ys d i ms list q e h p =
      subst (λ (x : Decl ℕ). Adds list_tells (AreWeighed w) old new xs ys (of_interface x)) (sym q)
      (subst (λ (ns : List (Prototype ℕ)). Adds list_tells (AreWeighed w) old new xs ys (map (prototype_signature w) ns ∷ [])) e (list_added old new xs ys list (map (prototype_signature w) ms) h p))

  pub types_no_interface : (nodes : List Node) (xs : List (List (Signature ℕ))) (d : Decl ℕ) (l : ℕ) (ts : List (TypeDecl ℕ)) → d ≡ declaration.Types l ts → Adds list_tells (AreWeighed w) nodes nodes xs xs (of_interface d)
  types_no_interface nodes xs d l ts q = adds_none list_tells (AreWeighed w) nodes xs (of_interface d) (ap of_interface q)

  pub globals_no_interface : (nodes : List Node) (xs : List (List (Signature ℕ))) (d : Decl ℕ) (s : Section ℕ) → d ≡ declaration.Globals s → Adds list_tells (AreWeighed w) nodes nodes xs xs (of_interface d)
  globals_no_interface nodes xs d s q = adds_none list_tells (AreWeighed w) nodes xs (of_interface d) (ap of_interface q)

  pub class_no_interface : (nodes : List Node) (xs : List (List (Signature ℕ))) (d : Decl ℕ) (c : ClassDecl ℕ) → d ≡ declaration.Class c → Adds list_tells (AreWeighed w) nodes nodes xs xs (of_interface d)
  class_no_interface nodes xs d c q = adds_none list_tells (AreWeighed w) nodes xs (of_interface d) (ap of_interface q)

  pub function_no_interface : (nodes : List Node) (xs : List (List (Signature ℕ))) (d : Decl ℕ) (f : FunctionDecl ℕ) → d ≡ declaration.Function f → Adds list_tells (AreWeighed w) nodes nodes xs xs (of_interface d)
  function_no_interface nodes xs d f q = adds_none list_tells (AreWeighed w) nodes xs (of_interface d) (ap of_interface q)

  pub program_no_interface : (nodes : List Node) (xs : List (List (Signature ℕ))) (d : Decl ℕ) (p : ProgramDecl ℕ) → d ≡ declaration.Program p → Adds list_tells (AreWeighed w) nodes nodes xs xs (of_interface d)
  program_no_interface nodes xs d p q = adds_none list_tells (AreWeighed w) nodes xs (of_interface d) (ap of_interface q)

  pub configuration_no_interface : (nodes : List Node) (xs : List (List (Signature ℕ))) (d : Decl ℕ) (c : Configuration ℕ) → d ≡ declaration.Configuration c → Adds list_tells (AreWeighed w) nodes nodes xs xs (of_interface d)
  configuration_no_interface nodes xs d c q = adds_none list_tells (AreWeighed w) nodes xs (of_interface d) (ap of_interface q)

  interfaces_are : (ds : List (Decl ℕ)) → flat_map of_interface ds ≡ map (interface_signatures w) (interfaces_in ds)
  interfaces_are [] = refl
  interfaces_are (declaration.Interface i ∷ ds) = ap (λ ys. interface_signatures w i ∷ ys) (interfaces_are ds)
  interfaces_are (declaration.Types l ts ∷ ds) = interfaces_are ds
  interfaces_are (declaration.Class c ∷ ds) = interfaces_are ds
  interfaces_are (declaration.Globals s ∷ ds) = interfaces_are ds
  interfaces_are (declaration.Function f ∷ ds) = interfaces_are ds
  interfaces_are (declaration.Program p ∷ ds) = interfaces_are ds
  interfaces_are (declaration.Configuration c ∷ ds) = interfaces_are ds

  pub interfaces_next : (ds : List (Decl ℕ)) (a b e : List Node) (ys us : List (List (Signature ℕ))) (i : ℕ) (d : Decl ℕ) → i < length ds → d ≡ get_or ds i d → Adds list_tells (AreWeighed w) a b [] ys (flat_map of_interface (take i ds))
      → Adds list_tells (AreWeighed w) b e ys us (of_interface d) → Adds list_tells (AreWeighed w) a e [] us (flat_map of_interface (take (i + 1) ds))
  interfaces_next ds a b e ys us i d l q p h = adds_next list_tells (AreWeighed w) (weighed_stay w) list_stays of_interface ds a b e [] ys us i d l q p h

  pub interfaces_ended : (ds : List (Decl ℕ)) (a b : List Node) (ys : List (List (Signature ℕ))) (i : ℕ) → length ds ≤ i → Adds list_tells (AreWeighed w) a b [] ys (flat_map of_interface (take i ds))
      → Adds list_tells (AreWeighed w) a b [] ys (map (interface_signatures w) (interfaces_in ds))
  interfaces_ended ds a b ys i l h =
      adds_as list_tells (AreWeighed w) a b [] ys (flat_map of_interface ds) (map (interface_signatures w) (interfaces_in ds)) (interfaces_are ds)
      (adds_ended list_tells (AreWeighed w) (weighed_stay w) list_stays of_interface ds a b [] ys i l h)

  -- ---- classes

  classes_append : (ds es : List (Decl ℕ)) → classes_in (ds ++ es) ≡ classes_in ds ++ classes_in es
  classes_append [] es = refl
  classes_append (declaration.Class c ∷ ds) es = ap (λ cs. c ∷ cs) (classes_append ds es)
  classes_append (declaration.Types l ts ∷ ds) es = classes_append ds es
  classes_append (declaration.Globals s ∷ ds) es = classes_append ds es
  classes_append (declaration.Interface i ∷ ds) es = classes_append ds es
  classes_append (declaration.Function f ∷ ds) es = classes_append ds es
  classes_append (declaration.Program p ∷ ds) es = classes_append ds es
  classes_append (declaration.Configuration c ∷ ds) es = classes_append ds es

  length_append : {X : Type 0} (xs ys : List X) → length (xs ++ ys) ≡ length xs + length ys
  length_append [] ys = plain (length ys)
    where
      plain : (n : ℕ) → n ≡ 0 + n
      plain n = omega arith
  length_append (x ∷ xs) ys = more (length (xs ++ ys)) (length xs) (length ys) (length_append xs ys)
    where
      more : (a b c : ℕ) → a ≡ b + c → suc a ≡ suc b + c
      more a b c h = omega (arith, h)

  classes_split : (n : ℕ) (cs es : List (ClassDecl ℕ)) → classes_from w n (cs ++ es) ≡ classes_from w n cs ++ classes_from w (n + length cs) es
  classes_split n [] es = ap (λ m. classes_from w m es) (plain n)
    where
      plain : (n : ℕ) → n ≡ n + 0
      plain n = omega arith
  classes_split n (c ∷ cs) es =
      ap (λ ys. class_signatures w n c ∷ ys) (classes_split (suc n) cs es ∙ ap (λ m. classes_from w (suc n) cs ++ classes_from w m es) (shifted n (length cs)))
    where
      shifted : (n k : ℕ) → suc n + k ≡ n + suc k
      shifted n k = omega arith

  pub class_added : (old new : List Node) (xs ys : List (List (Signature ℕ))) (n after : ℕ) (d : Decl ℕ) (c : ClassDecl ℕ) (ms : List (Member ℕ)) (list : List (Signature ℕ)) → d ≡ declaration.Class c → ms ≡ c.members
      → Adds signature_tells (AreWeighed w) old new [] list (map (method_signature w n) (methods_in ms)) → ys ≡ xs ++ list ∷ [] → after ≡ suc n → AddsClass w old new xs ys n after d
  class_added old new xs ys n after d c ms list q e h p k =
      subst (λ (x : Decl ℕ). AddsClass w old new xs ys n after x) (sym q) (record {
        adds = subst (λ (ns : List (Member ℕ)). Adds list_tells (AreWeighed w) old new xs ys (map (method_signature w n) (methods_in ns) ∷ [])) e (list_added old new xs ys list (map (method_signature w n) (methods_in ms)) h p);
        number = k ∙ more n;
      })
    where
      more : (n : ℕ) → suc n ≡ n + 1
      more n = omega arith

  pub adds_no_class : (nodes : List Node) (xs : List (List (Signature ℕ))) (n : ℕ) (d : Decl ℕ) → classes_in (d ∷ []) ≡ [] → AddsClass w nodes nodes xs xs n n d
  adds_no_class nodes xs n d q = record {
    adds = adds_none list_tells (AreWeighed w) nodes xs (classes_from w n (classes_in (d ∷ []))) (ap (classes_from w n) q);
    number = plain n ∙ ap (λ (cs : List (ClassDecl ℕ)). n + length cs) (sym q);
  }
    where
      plain : (n : ℕ) → n ≡ n + 0
      plain n = omega arith

  pub types_no_class : (nodes : List Node) (xs : List (List (Signature ℕ))) (n : ℕ) (d : Decl ℕ) (l : ℕ) (ts : List (TypeDecl ℕ)) → d ≡ declaration.Types l ts → AddsClass w nodes nodes xs xs n n d
  types_no_class nodes xs n d l ts q = adds_no_class nodes xs n d (ap (λ (e : Decl ℕ). classes_in (e ∷ [])) q)

  pub globals_no_class : (nodes : List Node) (xs : List (List (Signature ℕ))) (n : ℕ) (d : Decl ℕ) (s : Section ℕ) → d ≡ declaration.Globals s → AddsClass w nodes nodes xs xs n n d
  globals_no_class nodes xs n d s q = adds_no_class nodes xs n d (ap (λ (e : Decl ℕ). classes_in (e ∷ [])) q)

  pub interface_no_class : (nodes : List Node) (xs : List (List (Signature ℕ))) (n : ℕ) (d : Decl ℕ) (i : InterfaceDecl ℕ) → d ≡ declaration.Interface i → AddsClass w nodes nodes xs xs n n d
  interface_no_class nodes xs n d i q = adds_no_class nodes xs n d (ap (λ (e : Decl ℕ). classes_in (e ∷ [])) q)

  pub function_no_class : (nodes : List Node) (xs : List (List (Signature ℕ))) (n : ℕ) (d : Decl ℕ) (f : FunctionDecl ℕ) → d ≡ declaration.Function f → AddsClass w nodes nodes xs xs n n d
  function_no_class nodes xs n d f q = adds_no_class nodes xs n d (ap (λ (e : Decl ℕ). classes_in (e ∷ [])) q)

  pub program_no_class : (nodes : List Node) (xs : List (List (Signature ℕ))) (n : ℕ) (d : Decl ℕ) (p : ProgramDecl ℕ) → d ≡ declaration.Program p → AddsClass w nodes nodes xs xs n n d
  program_no_class nodes xs n d p q = adds_no_class nodes xs n d (ap (λ (e : Decl ℕ). classes_in (e ∷ [])) q)

  pub configuration_no_class : (nodes : List Node) (xs : List (List (Signature ℕ))) (n : ℕ) (d : Decl ℕ) (c : Configuration ℕ) → d ≡ declaration.Configuration c → AddsClass w nodes nodes xs xs n n d
  configuration_no_class nodes xs n d c q = adds_no_class nodes xs n d (ap (λ (e : Decl ℕ). classes_in (e ∷ [])) q)

  -- so many declarations
  pub record ClassesTo (old now : List Node) (ds : List (Decl ℕ)) (i number : ℕ) (xs : List (List (Signature ℕ))) : Type 0 where
    pub adds : Adds list_tells (AreWeighed w) old now [] xs (classes_from w 0 (classes_in (take i ds)))
    pub count : number ≡ length (classes_in (take i ds))

  pub classes_begun : (nodes : List Node) (ds : List (Decl ℕ)) (xs : List (List (Signature ℕ))) → xs ≡ [] → ClassesTo nodes nodes ds 0 0 xs
  classes_begun nodes ds xs e = record { adds = adds_begun list_tells (AreWeighed w) nodes xs e; count = refl }

  pub classes_next : (a b e : List Node) (ds : List (Decl ℕ)) (i number after : ℕ) (d : Decl ℕ) (xs ys : List (List (Signature ℕ))) → i < length ds → d ≡ get_or ds i d → ClassesTo a b ds i number xs → AddsClass w b e xs ys number after d
      → ClassesTo a e ds (i + 1) after ys
  classes_next a b e ds i number after d xs ys l q h k =
      let split : classes_in (take (i + 1) ds) ≡ classes_in (take i ds) ++ classes_in (d ∷ []) = ap classes_in (take-at ds i d l q) ∙ classes_append (take i ds) (d ∷ []) in
      record {
        adds =
            adds_as list_tells (AreWeighed w) a e [] ys (classes_from w 0 (classes_in (take i ds)) ++ classes_from w number (classes_in (d ∷ []))) (classes_from w 0 (classes_in (take (i + 1) ds)))
            (ap (λ n. classes_from w 0 (classes_in (take i ds)) ++ classes_from w n (classes_in (d ∷ []))) (h.count ∙ plain (length (classes_in (take i ds))))
            ∙ sym (classes_split 0 (classes_in (take i ds)) (classes_in (d ∷ []))) ∙ ap (classes_from w 0) (sym split))
            (adds_through list_tells (AreWeighed w) (weighed_stay w) list_stays a b e [] xs ys (classes_from w 0 (classes_in (take i ds))) (classes_from w number (classes_in (d ∷ []))) h.adds k.adds);
        count = k.number ∙ ap (λ n. n + length (classes_in (d ∷ []))) h.count ∙ sym (length_append (classes_in (take i ds)) (classes_in (d ∷ []))) ∙ ap (λ (cs : List (ClassDecl ℕ)). length cs) (sym split);
      }
    where
      plain : (n : ℕ) → n ≡ 0 + n
      plain n = omega arith

  pub classes_ended : (a b : List Node) (ds : List (Decl ℕ)) (i number : ℕ) (xs : List (List (Signature ℕ))) → length ds ≤ i → ClassesTo a b ds i number xs → Adds list_tells (AreWeighed w) a b [] xs (classes_from w 0 (classes_in ds))
  classes_ended a b ds i number xs l h = adds_as list_tells (AreWeighed w) a b [] xs (classes_from w 0 (classes_in (take i ds))) (classes_from w 0 (classes_in ds)) (ap (λ es. classes_from w 0 (classes_in es)) (take-end ds i l)) h.adds
