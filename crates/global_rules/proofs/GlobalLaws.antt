-- A global from its parts.
use Rattle.std.proofs.Common.{◌≡◌, ℕ, List, Bool, true, false, Option, Some, None, refl, sym, ap, ◌∙◌, subst}
use Rattle.std.specs.Prelude.{if◌then◌else◌, [], ◌++◌}
use Rattle.plc_text.specs.declared.code.Code.{Code}
use Rattle.st_tree.specs.declared.unit.Decl.{Decl}
use Rattle.st_rules.specs.Faults.{Faults, least, earlier}
use Rattle.st_rules.proofs.FaultLaws.{least-append, earlier-none}
use Rattle.st_unit_rules.specs.declared_names.Declarations.{Region, region_of_global}
use Rattle.st_unit_rules.specs.declared.declaration_list.written.WrittenName.{WrittenName}
use Rattle.st_unit_rules.specs.declaration_list.Written.{written_of, global_of}
use Rattle.st_unit_rules.specs.DeclarationRules.{unit, item_too_deep, regions_faults, global_faults}
use Rattle.st_unit_rules.specs.VariableRules.{of_globals, item_faults}
use Rattle.section_rules.specs.Headings.{heading_faults}
use Rattle.global_rules.specs.declared.shared.SharedItem.{SharedItem}
use Rattle.global_rules.specs.Shared.{ChecksShared}
use Rattle.global_rules.specs.Private.Globals.{IsOwn}

own_least : (b : Bool) (h i : Faults) (o : Option (Code × ℕ)) → o ≡ least i → least (h ++ (if b then i else [])) ≡ (if b then earlier (least h) o else least h)
own_least true h i o e = least-append h i ∙ ap (earlier (least h)) (sym e)
own_least false h i o e = least-append h [] ∙ earlier-none (least h)

pub global_least : (o own fault : Option (Code × ℕ)) (decls : List (Decl ℕ)) (before : List Region) (w : WrittenName) (shared : SharedItem) → ChecksShared shared decls w.section.now w.item.now → IsOwn own shared w
    → fault ≡ least (regions_faults decls before (region_of_global (written_of w))) → o ≡ earlier own fault → o ≡ least (global_faults decls before (global_of w))
global_least o own fault decls before w shared c i f e =
    let heading : Faults = heading_faults of_globals w.section.now in
    let items : Faults = item_faults (unit decls) of_globals w.section.now w.item.now ++ item_too_deep decls (unit decls) w.item.now in
    let regions : Faults = regions_faults decls before (region_of_global (written_of w)) in
    e ∙ ap (earlier own) f ∙ ap (λ x. earlier x (least regions)) (i ∙ sym (own_least w.first heading items shared.least c.least)) ∙ sym (least-append (heading ++ (if w.first then items else [])) regions)
