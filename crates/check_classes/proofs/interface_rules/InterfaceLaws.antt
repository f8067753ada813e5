-- An interface from its parts.
use Rattle.std.proofs.Common.{◌≡◌, ℕ, List, ◌++◌, Option, refl, sym, ap, ◌∙◌, subst}
use Rattle.std.specs.Prelude.{flat_map, length}
use Rattle.plc_text.specs.declared.code.Code.{Code}
use Rattle.st_tree.specs.declared.declaration.InterfaceDecl.{InterfaceDecl}
use Rattle.st_tree.specs.declared.declaration.Prototype.{Prototype}
use Rattle.st_tree.specs.declared.name.Name.{Name}
use Rattle.st_tree.specs.declared.name.Used.{Used}
use Rattle.st_tree.specs.declared.program.Note.{Note}
use Rattle.st_tree.specs.declared.unit.Decl.{Decl}
use Rattle.st_tree.specs.declared.unit.Unit.{Unit}
use Rattle.st_rules.specs.Faults.{Faults, least, earlier}
use Rattle.st_rules.specs.InterfaceRules.{interface_faults}
use Rattle.st_rules.specs.Interfaces.{interfaces_in}
use Rattle.st_rules.proofs.FaultLaws.{least-append, earlier-assoc}
use Rattle.st_unit_rules.specs.Checked.{Each, TypedPrototype, TypedUsed, interface_meant}
use Rattle.st_unit_rules.specs.DeclarationRules.{interface_declaration_faults, interface_not_found, prototype_faults}
use Rattle.st_unit_rules.specs.Limits.{too_many_methods, too_many_interfaces_above}
use Rattle.st_unit_rules.specs.NameRules.{prototype_name_faults}
use Rattle.check_classes.specs.declared.base_rules.used.CheckedInterfaces.{CheckedInterfaces}
use Rattle.check_classes.specs.base_rules.Used.{ChecksInterfaces}
use Rattle.check_classes.specs.declared.interface_rules.interfaces.Broken.{Broken}
use Rattle.check_classes.specs.declared.interface_rules.interfaces.CheckedInterface.{CheckedInterface}
use Rattle.check_classes.specs.declared.interface_rules.prototypes.CheckedPrototypes.{CheckedPrototypes}
use Rattle.check_classes.specs.interface_rules.Interfaces.{ChecksInterface}
use Rattle.check_classes.specs.interface_rules.Prototypes.{ChecksPrototypes}
use Rattle.check_classes.specs.interface_rules.Private.Interfaces.{IsInterface, count_faults}

-- the least of all is that of the parts in their order
joined_parts : (a b c d e f : Faults) → least (a ++ b ++ c ++ d ++ e ++ f) ≡ earlier (earlier (earlier (earlier (least a) (least b)) (least c)) (least d)) (least (e ++ f))
joined_parts a b c d e f =
    least-append (a ++ b ++ c ++ d ++ e) f
    ∙ ap (λ x. earlier x (least f)) (least-append (a ++ b ++ c ++ d) e)
    ∙ sym (earlier-assoc (least (a ++ b ++ c ++ d)) (least e) (least f))
    ∙ ap (earlier (least (a ++ b ++ c ++ d))) (sym (least-append e f))
    ∙ ap (λ x. earlier x (least (e ++ f)))
    (least-append (a ++ b ++ c) d ∙ ap (λ x. earlier x (least d)) (least-append (a ++ b) c ∙ ap (λ x. earlier x (least c)) (least-append a b)))

module _ (decls : List (Decl ℕ)) (k : ℕ) (d : InterfaceDecl ℕ) where
  pub interface_checks : (c : CheckedInterface) (own : Name) (broken : Broken) (above : CheckedInterfaces) (methods : CheckedPrototypes) → own ≡ d.name → broken.names ≡ least (prototype_name_faults d) → broken.cycle ≡ least (interface_faults (interfaces_in decls) k)
      → broken.counts ≡ least (count_faults decls k d) → ChecksInterfaces above decls d.bases → ChecksPrototypes methods decls d.methods → IsInterface c d.line own broken above methods → ChecksInterface c decls k d
  interface_checks c own broken above methods o n b m i p w = record {
    least = w.least
        ∙ ap (λ x. earlier (earlier (earlier (earlier x above.least) broken.cycle) methods.least) broken.counts) n
        ∙ ap (λ x. earlier (earlier (earlier (earlier (least (prototype_name_faults d)) x) broken.cycle) methods.least) broken.counts) i.least
        ∙ ap (λ x. earlier (earlier (earlier (earlier (least (prototype_name_faults d)) (least (flat_map (interface_not_found decls) d.bases))) x) methods.least) broken.counts) b
        ∙ ap (λ x. earlier (earlier (earlier (earlier (least (prototype_name_faults d)) (least (flat_map (interface_not_found decls) d.bases))) (least (interface_faults (interfaces_in decls) k))) x) broken.counts) p.least
        ∙ ap (earlier (earlier (earlier (earlier (least (prototype_name_faults d)) (least (flat_map (interface_not_found decls) d.bases))) (least (interface_faults (interfaces_in decls) k))) (least (flat_map (prototype_faults decls) d.methods)))) m
        ∙ sym (joined_parts (prototype_name_faults d) (flat_map (interface_not_found decls) d.bases) (interface_faults (interfaces_in decls) k) (flat_map (prototype_faults decls) d.methods)
        (too_many_methods d.line (length d.methods)) (too_many_interfaces_above d.line (interfaces_in decls) k));
    tree = record {
      line = w.line;
      name = w.name ∙ o;
      bases = subst (λ (us : List (Used Note)). Each (TypedUsed (interface_meant decls)) d.bases us) (sym w.bases) i.trees;
      methods = subst (λ (ms : List (Prototype Note)). Each (TypedPrototype decls) d.methods ms) (sym w.methods) p.trees;
    };
  }

  pub counts_found : (ms : List (Prototype ℕ)) (methods above r : Option (Code × ℕ)) → ms ≡ d.methods → methods ≡ least (too_many_methods d.line (length ms)) → above ≡ least (too_many_interfaces_above d.line (interfaces_in decls) k) → r ≡ earlier methods above
      → r ≡ least (count_faults decls k d)
  counts_found ms methods above r m n a e =
      e
      ∙ ap (λ x. earlier x above) (n ∙ ap (λ xs. least (too_many_methods d.line (length xs))) m)
      ∙ ap (earlier (least (too_many_methods d.line (length d.methods)))) a
      ∙ sym (least-append (too_many_methods d.line (length d.methods)) (too_many_interfaces_above d.line (interfaces_in decls) k))

-- the same by the tables of a unit
pub interface_found : (tables heights classes interfaces : Unit) (k : ℕ) (d : InterfaceDecl ℕ) (c : CheckedInterface) (own : Name) (broken : Broken) (above : CheckedInterfaces) (protos : CheckedPrototypes) (us : List (Used ℕ)) (ms : List (Prototype ℕ)) → heights ≡ tables → classes ≡ tables
    → interfaces ≡ tables → own ≡ d.name → broken.names ≡ least (prototype_name_faults d) → us ≡ d.bases → ChecksInterfaces above classes.decls us → ms ≡ d.methods → ChecksPrototypes protos tables.decls ms
    → broken.cycle ≡ least (interface_faults (interfaces_in interfaces.decls) k) → broken.counts ≡ least (count_faults heights.decls k d) → IsInterface c d.line own broken above protos → ChecksInterface c tables.decls k d
interface_found tables heights classes interfaces k d c own broken above protos us ms h p q o n u a m b i e w =
    interface_checks tables.decls k d c own broken above protos o n (i ∙ ap (λ (x : Unit). least (interface_faults (interfaces_in x.decls) k)) q) (e ∙ ap (λ (x : Unit). least (count_faults x.decls k d)) h)
    (subst (λ (x : Unit). ChecksInterfaces above x.decls d.bases) p (subst (λ (xs : List (Used ℕ)). ChecksInterfaces above classes.decls xs) u a))
    (subst (λ (xs : List (Prototype ℕ)). ChecksPrototypes protos tables.decls xs) m b) w
