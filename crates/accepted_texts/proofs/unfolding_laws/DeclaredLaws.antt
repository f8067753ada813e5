-- What a unit says of the fields of its structures and of the variables of its classes, all told.
use Rattle.std.proofs.Common.{◌≡◌, ℕ, suc, ◌+◌, Bool, true, false, List, [], ◌∷◌, length, Option, Some, None, refl, sym, ap, ◌∙◌, subst, arith}
use Rattle.std.specs.Prelude.{if◌then◌else◌, flat_map, option_map, slice_get}
use Rattle.std.proofs.lemmas.Option.{slice_get-map}
use Rattle.st_types.specs.declared.st_type.StType.{StType}
use Rattle.st_tree.specs.declared.declaration.ClassDecl.{ClassDecl}
use Rattle.st_tree.specs.declared.declaration.FieldGroup.{FieldGroup}
use Rattle.st_tree.specs.declared.declaration.TypeDecl.{TypeDecl}
use Rattle.st_tree.specs.declared.name.Name.{Name}
use Rattle.st_tree.specs.declared.program.Target.{Target}
use Rattle.st_tree.specs.declared.unit.Decl.{Decl}
use Rattle.st_rules.specs.declared.names.DeclaredClass.{DeclaredClass}
use Rattle.st_rules.specs.declared.names.DeclaredField.{DeclaredField}
use Rattle.st_rules.specs.declared.names.DeclaredNames.{DeclaredNames}
use Rattle.st_rules.specs.declared.names.DeclaredVariable.{DeclaredVariable}
use Rattle.st_rules.specs.declared.names.TypeParts.{TypeParts}
use Rattle.st_rules.specs.declared.names.TypeParts.TheVariants as parts
use Rattle.st_rules.specs.Classes.{classes_in}
use Rattle.st_rules.specs.Scope.{Scope, parts_of, field_list, variables_of, is_instance_sort, is_body_sort, is_of_instance}
use Rattle.st_unit_rules.specs.declared_names.Declarations.{entries_in}
use Rattle.st_unit_rules.specs.declared_names.UnitNames.{unit_scope, class_scope, group_declared, parts_declared, class_declared, names_from, unit_names}
use Rattle.st_unit_rules.specs.declared_names.Variables.{Written, sections_written, sections_in, declared_each, member_targets, is_kept_written}
use Rattle.st_unit_rules.specs.declared_names.WrittenTypes.{type_written}
use Rattle.resolution_order.specs.told_laws.ToldLaws.{Every}
use Rattle.resolution_order.proofs.told_laws.Telling.{told_laws}
use Rattle.accepted_texts.proofs.unfolding_laws.ListLaws.{numbered_get, every_flat, every_map, every_means}
use Rattle.accepted_texts.proofs.unfolding_laws.NumberLaws.{IsStructure}

-- ---- variables as they are declared

either_long : (n : ℕ) (b : Bool) (ts us : List Target) → length ts ≡ n → length us ≡ n → length (if b then ts else us) ≡ n
either_long n true ts us h k = h
either_long n false ts us h k = k

module _ (s : Scope) where
  pub targets_long : (k l : ℕ) (ws : List Written) → length (member_targets s k l ws) ≡ length ws
  targets_long k l [] = refl
  targets_long k l (w ∷ ws) =
      either_long (suc (length ws)) w.constant _ _ (ap suc (targets_long k l ws))
      (either_long (suc (length ws)) (is_instance_sort w.sort) _ _ (ap suc (targets_long (suc k) l ws))
      (either_long (suc (length ws)) (is_body_sort w.sort) _ _ (ap suc (targets_long k (suc l) ws)) (ap suc (targets_long k l ws))))

  module _ (P : Option StType → Type 0) where
    each_says : (ts : List Target) (ws : List Written) → length ts ≡ length ws → Every (λ (v : DeclaredVariable). is_of_instance v ≡ true → P v.kind) (declared_each s ts ws)
        → Every (λ (w : Written). is_kept_written w ≡ true → P (type_written s w.item.kind)) ws
    each_says ts [] e h = tt
    each_says [] (w ∷ ws) e h = absurd (omega (arith, e))
    each_says (t ∷ ts) (w ∷ ws) e h = (h.0, each_says ts ws (let q : length ts ≡ length ws = omega (arith, e) in q) h.1)

    pub members_say : (k l : ℕ) (ws : List Written) → Every (λ (v : DeclaredVariable). is_of_instance v ≡ true → P v.kind) (declared_each s (member_targets s k l ws) ws)
        → Every (λ (w : Written). is_kept_written w ≡ true → P (type_written s w.item.kind)) ws
    members_say k l ws h = each_says (member_targets s k l ws) ws (targets_long k l ws) h

-- ---- look-ups in a scope

unfoldable pub parts_in : Option TypeParts → TypeParts
parts_in None = parts.Nothing
parts_in (Some p) = p

unfoldable pub variables_in_class : Option DeclaredClass → List DeclaredVariable
variables_in_class None = []
variables_in_class (Some class) = class.variables

parts_are : (s : Scope) (n : ℕ) (p : TypeParts) → slice_get s.names.parts n ≡ Some p → parts_of s n ≡ p
unfolding parts_in
parts_are s n p e = ap parts_in e

variables_are : (s : Scope) (c : ℕ) (d : DeclaredClass) → slice_get s.names.classes c ≡ Some d → variables_of s c ≡ d.variables
unfolding variables_in_class
variables_are s c d e = ap variables_in_class e

-- ---- all that a unit tells

module _ (decls : List (Decl ℕ)) (locals : List DeclaredVariable) where
  abbrev pub scope : Scope
  scope = record (unit_scope decls (unit_names decls)) { locals = locals }

  parts_there : (n : ℕ) (t : TypeDecl ℕ) → slice_get (entries_in decls) n ≡ Some t → slice_get (names_from decls (unit_names decls)).parts n ≡ Some (parts_declared decls (unit_names decls) t.body)
  unfolding names_from
  parts_there n t e = slice_get-map (λ (d : TypeDecl ℕ). parts_declared decls (unit_names decls) d.body) (entries_in decls) n ∙ ap (option_map (λ (d : TypeDecl ℕ). parts_declared decls (unit_names decls) d.body)) e

  class_there : (c : ℕ) (d : ClassDecl ℕ) → slice_get (classes_in decls) c ≡ Some d → slice_get (names_from decls (unit_names decls)).classes c ≡ Some (class_declared decls (unit_names decls) c d)
  unfolding names_from
  class_there c d e =
      let q : 0 + c ≡ c = omega arith in
      numbered_get (class_declared decls (unit_names decls)) 0 (classes_in decls) c d e ∙ ap (λ k. Some (class_declared decls (unit_names decls) k d)) q

  pub fields_are : (n : ℕ) (h : IsStructure decls n) → field_list (parts_of scope n) ≡ flat_map (group_declared decls (unit_names decls)) h.groups
  fields_are n h =
      ap field_list
      (parts_are scope n (parts_declared decls (unit_names decls) h.entry.body) (ap (λ (a : DeclaredNames). slice_get a.parts n) (sym (told_laws.settled decls)) ∙ parts_there n h.entry h.there)
      ∙ ap (parts_declared decls (unit_names decls)) h.is)

  pub members_are : (c : ℕ) (d : ClassDecl ℕ) → slice_get (classes_in decls) c ≡ Some d → variables_of scope c ≡ (class_declared decls (unit_names decls) c d).variables
  members_are c d e = variables_are scope c (class_declared decls (unit_names decls) c d) (ap (λ (a : DeclaredNames). slice_get a.classes c) (sym (told_laws.settled decls)) ∙ class_there c d e)

  module _ (P : Option StType → Type 0) where
    pub fields_say : (n : ℕ) (h : IsStructure decls n) → Every (λ (f : DeclaredField). P f.kind) (field_list (parts_of scope n))
        → Every (λ (g : FieldGroup ℕ). Every (λ (m : Name). P (type_written (unit_scope decls (unit_names decls)) g.kind)) g.names) h.groups
    fields_say n h k =
        every_means (λ g. Every (λ (f : DeclaredField). P f.kind) (group_declared decls (unit_names decls) g)) (λ g. Every (λ (m : Name). P (type_written (unit_scope decls (unit_names decls)) g.kind)) g.names)
        (λ g j. every_map (λ (f : DeclaredField). P f.kind) _ g.names j) h.groups
        (every_flat (λ (f : DeclaredField). P f.kind) (group_declared decls (unit_names decls)) h.groups (subst (Every (λ (f : DeclaredField). P f.kind)) (fields_are n h) k))

    pub class_says : (c : ℕ) (d : ClassDecl ℕ) → slice_get (classes_in decls) c ≡ Some d → Every (λ (v : DeclaredVariable). is_of_instance v ≡ true → P v.kind) (variables_of scope c)
        → Every (λ (w : Written). is_kept_written w ≡ true → P (type_written (class_scope decls (unit_names decls) c) w.item.kind)) (sections_written (sections_in d.members))
    class_says c d e h =
        members_say (class_scope decls (unit_names decls) c) P _ _ (sections_written (sections_in d.members)) (subst (Every (λ (v : DeclaredVariable). is_of_instance v ≡ true → P v.kind)) (members_are c d e) h)
