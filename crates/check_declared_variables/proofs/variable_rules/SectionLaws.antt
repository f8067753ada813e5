-- A section from its items.
use Rattle.std.proofs.Common.{◌≡◌, ℕ, List, ◌++◌, Option, refl, sym, ap, ◌∙◌, subst}
use Rattle.std.specs.Prelude.{flat_map}
use Rattle.plc_text.specs.declared.code.Code.{Code}
use Rattle.st_tree.specs.declared.declaration.Item.{Item}
use Rattle.st_tree.specs.declared.declaration.Section.{Section}
use Rattle.st_tree.specs.declared.declaration.Modifier.{Modifier}
use Rattle.st_tree.specs.declared.program.Note.{Note}
use Rattle.st_rules.specs.Faults.{least, earlier}
use Rattle.st_rules.specs.Scope.{Scope}
use Rattle.st_unit_rules.specs.Checked.{Each, TypedItem, TypedSection}
use Rattle.st_unit_rules.specs.VariableRules.{Home, item_faults, heading_faults, section_faults, sections_faults}
use Rattle.section_rules.specs.Headings as headings
use Rattle.check_initial_values.proofs.Parts.{joined}
use Rattle.check_declared_variables.specs.declared.variable_rules.sections.CheckedItems.{CheckedItems}
use Rattle.check_declared_variables.specs.declared.variable_rules.sections.CheckedSection.{CheckedSection}
use Rattle.check_declared_variables.specs.declared.variable_rules.sections.CheckedSections.{CheckedSections}
use Rattle.check_declared_variables.specs.variable_rules.Sections.{ChecksSection, ChecksSections}
use Rattle.check_declared_variables.specs.variable_rules.Private.Sections.{ItemsFind, IsSection}
use Rattle.check_declared_variables.proofs.variable_rules.EachLaws.{EachTo, each_least, each_trees}

pub items_ended : (x : CheckedItems) (s : Scope) (h : Home) (section : Section ℕ) (items : List (Item ℕ)) → x.least ≡ least (flat_map (item_faults s h section) items) → Each (TypedItem s) items x.items → ItemsFind x s h section items
items_ended x s h section items l t = record { least = l; items = t }

pub section_checks : (c : CheckedSection) (s : Scope) (h : Home) (section : Section ℕ) (words : List Modifier) (heading : Option (Code × ℕ)) (list : List (Item ℕ)) (found : CheckedItems) → words ≡ section.modifiers → heading ≡ least (headings.heading_faults h section) → list ≡ section.items
    → ItemsFind found s h section list → IsSection c section words heading found → ChecksSection c s h section
section_checks c s h section words heading list found m e q g w =
    let f : ItemsFind found s h section section.items = subst (λ (is : List (Item ℕ)). ItemsFind found s h section is) q g in record {
      least = joined c.least heading found.least (heading_faults s h section) (flat_map (item_faults s h section) section.items) w.least e f.least;
      tree = record {
        line = w.line;
        sort = w.sort;
        modifiers = w.modifiers ∙ m;
        items = subst (λ (ys : List (Item Note)). Each (TypedItem s) section.items ys) (sym w.items) f.items;
      };
    }

pub sections_ended : (x : CheckedSections) (s : Scope) (h : Home) (list : List (Section ℕ)) → x.least ≡ least (flat_map (section_faults s h) list) → Each (TypedSection s) list x.sections → ChecksSections x s h list
unfolding sections_faults
sections_ended x s h list l t = record { least = l; trees = t }
