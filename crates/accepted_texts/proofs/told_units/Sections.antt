-- Sections that break no rule: all that they declare breaks none.
use Rattle.std.proofs.Common.{◌≡◌, ℕ, List, [], sym, ap, ◌∙◌}
use Rattle.std.specs.Prelude.{if◌then◌else◌, flat_map, option_map}
use Rattle.st_tree.specs.declared.declaration.Item.{Item}
use Rattle.st_tree.specs.declared.declaration.Section.{Section}
use Rattle.st_tree.specs.declared.name.Name.{Name}
use Rattle.st_tree.specs.Initial.{initial_of}
use Rattle.st_rules.specs.Scope.{Scope}
use Rattle.st_unit_rules.specs.declared_names.Declarations.{item_line}
use Rattle.st_unit_rules.specs.declared_names.Variables.{Written, item_written, section_written, sections_written, declares_constants, section_access}
use Rattle.st_rules.specs.Modifiers.{written_access}
use Rattle.st_unit_rules.specs.declared_names.WrittenTypes.{type_written}
use Rattle.st_unit_rules.specs.VariableRules.{Home, item_faults, heading_faults, section_faults, sections_faults, bad_constant}
use Rattle.resolution_order.specs.told_laws.ToldLaws.{Every}
use Rattle.accepted_texts.proofs.unfolding_laws.ListLaws.{every_joined, every_one, every_means, every_mapped}
use Rattle.accepted_texts.proofs.unfolding_laws.CycleLaws.{none_in, none_of_each}
use Rattle.accepted_texts.proofs.told_units.Written.{item-parts}
use Rattle.accepted_texts.proofs.told_units.Inner.{IsGoodWritten}
use Rattle.accepted_texts.proofs.told_units.TypeLaws.{ValuesHaveTypes}

abbrev item_named : Section ℕ → Item ℕ → Name → Written
item_named s item n = record { sort = s.sort; constant = declares_constants s; access = section_access s.sort (written_access s.modifiers); name = n; item = item }

module _ (s : Scope) (values : ValuesHaveTypes s) (h : Home) where
  name-good : (section : Section ℕ) (item : Item ℕ) → item_faults s h section item ≡ [] → (n : Name) → IsGoodWritten s (item_named section item n)
  name-good section item f n =
      let p = item-parts s values h section item f in
      let i = option_map initial_of item.initial in
      (p.kind, λ q. (item_line item, sym (ap (λ b. if b then bad_constant (item_line item) (type_written s item.kind) i else []) q) ∙ p.constant), p.initial)

  item-good : (section : Section ℕ) (item : Item ℕ) → item_faults s h section item ≡ [] → Every (IsGoodWritten s) (item_written section item)
  item-good section item f = every_mapped (IsGoodWritten s) (item_named section item) item.names (every_one (λ n. IsGoodWritten s (item_named section item n)) (name-good section item f) item.names)

  section-good : (section : Section ℕ) → section_faults s h section ≡ [] → Every (IsGoodWritten s) (section_written section)
  section-good section f =
      every_joined (IsGoodWritten s) (item_written section) section.items
      (every_means (λ item. item_faults s h section item ≡ []) (λ item. Every (IsGoodWritten s) (item_written section item)) (item-good section) section.items
      (none_of_each (item_faults s h section) section.items (none_in (heading_faults s h section) (flat_map (item_faults s h section) section.items) f).1))

  pub sections-good : (ss : List (Section ℕ)) → sections_faults s h ss ≡ [] → Every (IsGoodWritten s) (sections_written ss)
  unfolding sections_faults
  sections-good ss f =
      every_joined (IsGoodWritten s) section_written ss
      (every_means (λ x. section_faults s h x ≡ []) (λ x. Every (IsGoodWritten s) (section_written x)) section-good ss (none_of_each (section_faults s h) ss f))
