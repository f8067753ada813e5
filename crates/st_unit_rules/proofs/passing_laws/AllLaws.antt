-- All laws of passing declarations.
use Rattle.st_unit_rules.specs.passing_laws.PassingLaws.{PassingLaws}
use Rattle.st_unit_rules.proofs.passing_laws.FaultLaws.{all_good, one_bad}
use Rattle.st_unit_rules.proofs.passing_laws.SortLaws.{all_classes, all_functions, all_interfaces, all_programs, all_regions, all_types}

pub laws : PassingLaws
laws = record {
  good = all_good;
  bad = one_bad;
  types = all_types;
  classes = all_classes;
  interfaces = all_interfaces;
  functions = all_functions;
  programs = all_programs;
  regions = all_regions;
}
