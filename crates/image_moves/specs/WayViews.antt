-- The code's ways as plain ones.
use Rattle.std.specs.Prelude.{◌≡◌, ℕ, List, [], ◌∷◌, map, Option}
use Rattle.std.proofs.Common.{sym, ◌∙◌, ap}
use Rattle.image_moves.specs.Ways.{Stride, Way, nowhere, instance, fields, elements, Parts, no_parts, part_then}
use Rattle.image_moves.specs.declared.ways.Stride.{Stride as CodeStride}
use Rattle.image_moves.specs.declared.ways.Way.TheOpen.{Way-F, Part-F}
use Rattle.image_moves.specs.declared.ways.Way.TheFolds.{fold-Way, fold-Part, fold-roll-Way, fold_out-Part}
use Rattle.image_moves.specs.declared.ways.Way.{Way as CodeWay}
use Rattle.image_moves.specs.declared.ways.Way.TheVariants as code
use Rattle.image_moves.specs.declared.ways.Part.{Part as CodePart}

abbrev pub stride_of : CodeStride → Stride
stride_of s = record { old = s.old; new = s.new; skip = s.skip; lead = s.lead; count = s.count }

pub record Piece : Type 0 where
  pub start : ℕ
  pub end : ℕ
  pub target : ℕ
  pub way : Way

abbrev pub listed : List Piece → Parts
listed [] = no_parts
listed (p ∷ ps) = part_then p.start p.end p.target p.way (listed ps)

abbrev pub way_level : Way-F Way Piece → Way
way_level Way-F.Nowhere = nowhere
way_level (Way-F.Instance o ps) = instance o (listed ps)
way_level (Way-F.Fields ps) = fields (listed ps)
way_level (Way-F.Elements s w) = elements (stride_of s) w

abbrev pub part_level : Part-F Way Piece → Piece
part_level p = record { start = p.start; end = p.end; target = p.target; way = p.way }

unfoldable pub way_of : CodeWay → Way
way_of = fold-Way Way Piece way_level part_level

unfoldable pub piece_of : CodePart → Piece
piece_of = fold-Part Way Piece way_level part_level

abbrev pub parts_of : List CodePart → Parts
parts_of ps = listed (map piece_of ps)

pub way-Nowhere : way_of code.Nowhere ≡ nowhere
unfolding way_of piece_of
way-Nowhere = ap way_of (sym code.rolls-Nowhere) ∙ fold-roll-Way _ _ way_level part_level Way-F.Nowhere

pub way-Instance : (o : Option ℕ) (ps : List CodePart) → way_of (code.Instance o ps) ≡ instance o (parts_of ps)
unfolding way_of piece_of
way-Instance o ps = ap way_of (sym (code.rolls-Instance o ps)) ∙ fold-roll-Way _ _ way_level part_level (Way-F.Instance o ps)

pub way-Fields : (ps : List CodePart) → way_of (code.Fields ps) ≡ fields (parts_of ps)
unfolding way_of piece_of
way-Fields ps = ap way_of (sym (code.rolls-Fields ps)) ∙ fold-roll-Way _ _ way_level part_level (Way-F.Fields ps)

pub way-Elements : (s : CodeStride) (w : CodeWay) → way_of (code.Elements s w) ≡ elements (stride_of s) (way_of w)
unfolding way_of piece_of
way-Elements s w = ap way_of (sym (code.rolls-Elements s w)) ∙ fold-roll-Way _ _ way_level part_level (Way-F.Elements s w)

pub piece-is : (p : CodePart) → piece_of p ≡ record { start = p.start; end = p.end; target = p.target; way = way_of p.way }
unfolding way_of piece_of
piece-is p = fold_out-Part _ _ way_level part_level p

pub ruleset way_views = (way-Nowhere, way-Instance, way-Fields, way-Elements, piece-is)
