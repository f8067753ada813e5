-- Names in headings and what they mean.
use Rattle.std.proofs.Common.{◌≡◌, ℕ, List, Bool, Option, Some, None, refl, sym, ap, ◌∙◌, subst}
use Rattle.std.specs.Prelude.{option_map, flat_map}
use Rattle.std.specs.Option.{is_none}
use Rattle.plc_text.specs.declared.code.Code.TheVariants.{E05}
use Rattle.st_types.specs.declared.st_type.StType.{StType}
use Rattle.st_types.specs.declared.st_type.StType.TheVariants as type
use Rattle.st_tree.specs.declared.name.Used.{Used}
use Rattle.st_tree.specs.declared.program.Note.{Note}
use Rattle.st_tree.specs.declared.unit.Decl.{Decl}
use Rattle.st_rules.specs.Faults.{Faults, least, when}
use Rattle.st_rules.specs.Classes.{classes_in, class_named}
use Rattle.st_rules.specs.Interfaces.{interfaces_in, interface_named}
use Rattle.st_unit_rules.specs.Checked.{Each, IfThere, TypedUsed, class_meant, interface_meant}
use Rattle.st_unit_rules.specs.DeclarationRules.{base_not_found, interface_not_found}
use Rattle.check_classes.specs.declared.base_rules.used.CheckedBase.{CheckedBase}
use Rattle.check_classes.specs.declared.base_rules.used.CheckedInterfaces.{CheckedInterfaces}
use Rattle.check_classes.specs.declared.base_rules.used.CheckedUsed.{CheckedUsed}
use Rattle.check_classes.specs.base_rules.Used.{ChecksUsed, ChecksBase, ChecksInterfaces}
use Rattle.check_classes.specs.base_rules.Private.Used.{IsUsed, IsBase}

none-mapped : {A B : Type 0} (f : A → B) (o : Option A) → is_none (option_map f o) ≡ is_none o
none-mapped f None = refl
none-mapped f (Some a) = refl

pub used_interface : (decls : List (Decl ℕ)) (c : CheckedUsed) (used : Used ℕ) (kind : Option StType) → kind ≡ interface_meant decls used.text → IsUsed c used kind → ChecksUsed (interface_not_found decls used) (interface_meant decls) c.least used c.used
used_interface decls c used kind e w = record {
  least = w.least ∙ ap (λ b. least (when b E05 used.note)) (ap is_none e ∙ none-mapped type.Interface (interface_named (interfaces_in decls) used.text));
  tree = (w.note ∙ ap (λ k. Rattle.st_rules.specs.Expressions.note used.note k Rattle.st_tree.specs.declared.program.Target.TheVariants.Nothing) e, w.text);
}

pub used_class : (decls : List (Decl ℕ)) (c : CheckedBase) (found : CheckedUsed) (base : Option (Used ℕ)) (used : Used ℕ) (kind : Option StType) → base ≡ Some used → kind ≡ class_meant decls used.text → IsUsed found used kind → IsBase c found → ChecksBase c decls base
used_class decls c found base used kind b e w k =
    subst (λ (o : Option (Used ℕ)). ChecksBase c decls o) (sym b) (record {
      least = k.least ∙ w.least ∙ ap (λ t. least (when t E05 used.note)) (ap is_none e ∙ none-mapped type.Instance (class_named (classes_in decls) used.text));
      tree = subst (λ (o : Option (Used Note)). IfThere (TypedUsed (class_meant decls)) (Some used) o) (sym k.base) (w.note ∙ ap (λ t. Rattle.st_rules.specs.Expressions.note used.note t Rattle.st_tree.specs.declared.program.Target.TheVariants.Nothing) e, w.text);
    })

pub interfaces_ended : (x : CheckedInterfaces) (decls : List (Decl ℕ)) (list : List (Used ℕ)) → x.least ≡ least (flat_map (interface_not_found decls) list) → Each (TypedUsed (interface_meant decls)) list x.interfaces → ChecksInterfaces x decls list
interfaces_ended x decls list l t = record { least = l; trees = t }
