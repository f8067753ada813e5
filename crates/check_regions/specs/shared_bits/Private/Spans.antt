-- Marks in a row.
use Rattle.std.specs.Prelude.{◌≡◌, ℕ, zero, suc, ◌+◌, ◌*◌, nat_le, nat_lt, Bool, false, not, ◌&&◌, ◌||◌, if◌then◌else◌, List, [], ◌∷◌, ◌++◌, flat_map, Option, Some, None}
use Rattle.std.specs.List.{list_any}
use Rattle.st_tree.specs.Address.{index_of, width_of, bit_of}
use Rattle.st_tree.specs.declared.address.Area.{Area}
use Rattle.st_tree.specs.declared.address.Area.TheVariants as area
use Rattle.st_tree.specs.declared.declaration.Item.{Item}
use Rattle.st_tree.specs.declared.declaration.Section.{Section}
use Rattle.st_unit_rules.specs.Addresses.{Bits, bits_of, may_be_located}
use Rattle.st_unit_rules.specs.VariableRules.{width_bytes, has_bit_above_seven, passes_the_image}
use Rattle.st_unit_rules.specs.declared_names.Variables.{declares_constants}
use Rattle.check_regions.specs.declared.shared_bits.span.Span.{Span}
use Rattle.check_regions.specs.shared_bits.Taken.{marked, is_between}

-- ---- addresses

abbrev pub lies_within : List ℕ → Bool
lies_within text = not (has_bit_above_seven text || passes_the_image text)

abbrev pub first_bit : List ℕ → ℕ
first_bit text = index_of text * width_bytes (width_of text) * 8 + bit_of text

abbrev pub span_by : Area → ℕ → ℕ → List Span
span_by area.Input first count = []
span_by area.Output first count = record { start = first; width = count } ∷ []
span_by area.Memory first count = record { start = 2_056 + first; width = count } ∷ []

abbrev pub span_of : Bits → List Span
span_of b = span_by b.area b.first b.count

abbrev pub spans_of : List Bits → List Span
spans_of bs = flat_map span_of bs

abbrev pub if_there : Option Span → List Span
if_there None = []
if_there (Some s) = s ∷ []

-- ---- marks

-- from the first on, before the end
abbrev pub within : ℕ → ℕ → ℕ → Bool
within first end j = nat_le first j && nat_lt j end

abbrev pub spans_over : ℕ → Span → Bool
spans_over j s = is_between s.start s.width j

-- one of so many marks from the first on passes the test
abbrev pub any_from : ℕ → ℕ → (ℕ → Bool) → Bool
any_from first zero test = false
any_from first (suc n) test = test first || any_from (first + 1) n test

pub record Marks (marks : List Bool) (spans : List Span) : Type 0 where
  pub same : (j : ℕ) → marked marks j ≡ list_any (spans_over j) spans

-- one of the spans takes a mark that the ones before it took
abbrev pub shares : List Span → List Span → Bool
shares taken [] = false
shares taken (s ∷ ss) = any_from s.start s.width (λ j. list_any (spans_over j) taken) || shares (taken ++ s ∷ []) ss

-- what taking these spans does: they are marked, and whether one was shared is told with any spans behind
pub record TakesSpans (old new : List Bool) (shared found : Bool) (ss : List Span) : Type 0 where
  pub marks : (taken : List Span) → Marks old taken → Marks new (taken ++ ss)
  pub told : (taken rest : List Span) → Marks old taken → (found || shares (taken ++ ss) rest) ≡ (shared || shares taken (ss ++ rest))

-- ---- variables

abbrev pub item_spans : Item ℕ → List Span
item_spans item = flat_map (λ n. spans_of (bits_of item.address)) item.names

abbrev pub is_located : Section ℕ → Bool
is_located s = may_be_located s.sort && not (declares_constants s)

abbrev pub section_spans : Section ℕ → List Span
section_spans s = if is_located s then flat_map item_spans s.items else []

abbrev pub sections_spans : List (Section ℕ) → List Span
sections_spans ss = flat_map section_spans ss
