-- A type of a unit has numbers of what the unit declares, and no empty array.
use Rattle.std.proofs.Common.{◌≡◌, ◌<◌, ℕ, ℤ, pos, negsuc, true, List, Option, Some, None, refl, sym, ap, subst, arith}
use Rattle.std.specs.Prelude.{T, ◌-ℤ◌, ◌≤ℤ◌, int_le}
use Rattle.std.specs.Int.Signed.{le_z_yes}
use Rattle.std.proofs.lemmas.Int.{ints}
use Rattle.st_types.specs.declared.st_type.StType.{StType, out-StType}
use Rattle.st_types.specs.declared.st_type.StType.TheOpen.{StType-F}
use Rattle.st_tree.specs.declared.type_spec.TypeSpec.{TypeSpec}
use Rattle.st_tree.specs.declared.unit.Decl.{Decl}
use Rattle.st_rules.specs.declared.names.DeclaredType.{DeclaredType}
use Rattle.st_rules.specs.Scope.{Scope}
use Rattle.st_unit_rules.specs.declared_names.UnitNames.{unit_names}
use Rattle.st_unit_rules.specs.declared_names.WrittenTypes.{type_written}
use Rattle.st_values.specs.Shape.{extent, count_to}
use Rattle.accepted_texts.proofs.unfolding_laws.NumberLaws.{Numbered, ToldNumbered, TypesNumbered, element_numbered, written_numbered, unit_numbered}
use Rattle.accepted_texts.proofs.sized_units.Spans.{Spans, ToldSpans, TypesSpan, element_spans, written_spans, unit_spans}

-- bounds in order have an index between them
some_extent : (low high : ℤ) → int_le low high ≡ true → 0 < extent low high
some_extent low high e = go (high -ℤ low) refl (le_z_yes (subst T (sym e) tt))
  where
    go : (y : ℤ) → high -ℤ low ≡ y → low ≤ℤ high → 0 < extent low high
    go (pos m) r h = let c : extent low high ≡ count_to (pos m) = ap count_to r in omega (arith, c)
    go (negsuc m) r h = absurd (omega (arith, ints, h, r))

module _ (decls : List (Decl ℕ)) where
  pub record Sound (t : StType) : Type 0 where
    pub numbered : Numbered decls t
    pub spans : Spans t

  abbrev pub ToldSound : Option StType → Type 0
  ToldSound None = Unit {0}
  ToldSound (Some t) = Sound t

  pub record TypesSound (ts : List DeclaredType) : Type 0 where
    pub numbered : TypesNumbered decls ts
    pub span : TypesSpan ts

  both : (o : Option StType) → ToldNumbered decls o → ToldSpans o → ToldSound o
  both None n h = tt
  both (Some t) n h = record { numbered = n; spans = h }

  pub written_sound : (s : Scope) (t : TypeSpec ℕ) → TypesSound s.names.types → ToldSound (type_written s t)
  written_sound s t h = both (type_written s t) (written_numbered decls s t h.numbered) (written_spans s t h.span)

  pub unit_sound : TypesSound (unit_names decls).types
  unit_sound = record { numbered = unit_numbered decls; span = unit_spans decls }

  pub element_sound : (t of : StType) (low high : ℤ) → out-StType t ≡ StType-F.Array low high of → Sound t → (0 < extent low high) × Sound of
  element_sound t of low high e h =
      let s = element_spans t of low high e h.spans in
      (some_extent low high s.0, record { numbered = element_numbered decls t of low high e h.numbered; spans = s.1 })
