use Rattle.std.proofs.Common.{refl}
use Rattle.st_unit_rules.specs.declaration_list.Written.{written_of}
use Rattle.global_rules.proofs.RegionLaws.{all_marks, other_marks}
use Rattle.global_rules.proofs.regions.marks_of.Goals as goal

pub returns-then-is_first_name : goal.returns-then-is_first_name
returns-then-is_first_name c = all_marks (written_of c.args.name.now) _ _ c.is_first_name.ensures c.as_slice.ensures _ c.if-is_first_name.true c.in_ok-marks.ensures

pub returns-else-is_first_name : goal.returns-else-is_first_name
returns-else-is_first_name c = other_marks (written_of c.args.name.now) _ _ c.is_first_name.ensures c.as_slice.ensures _ _ c.if-is_first_name.false c.in_ok-marks.ensures refl
