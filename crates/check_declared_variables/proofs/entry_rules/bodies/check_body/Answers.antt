use Rattle.check_declared_variables.proofs.entry_rules.BodyLaws.{alias_arm, enumeration_arm, structure_arm}
use Rattle.check_declared_variables.proofs.entry_rules.bodies.check_body.Goals as goal

pub returns-in_ok-own-in-Alias : goal.returns-in_ok-own-in-Alias
returns-in_ok-own-in-Alias c = alias_arm _ _ _ _ _ _ _ c.requires.unit _ _ _ _ _ c.in-Alias.is c.requires.sizes c.in_ok-found-in-Alias.ensures c.in_ok-own-in-Alias.ensures c.too_deep-depth.ensures c.alias_of.ensures

pub returns-in_ok-c-in-Enumeration : goal.returns-in_ok-c-in-Enumeration
returns-in_ok-c-in-Enumeration c = enumeration_arm _ _ _ _ _ _ _ c.requires.unit _ _ c.in-Enumeration.is c.as_slice.ensures c.in_ok-c-in-Enumeration.ensures

pub returns-in_ok-found-in-Structure : goal.returns-in_ok-found-in-Structure
returns-in_ok-found-in-Structure c =
    structure_arm _ _ _ _ _ _ _ c.requires.unit _ _ _ _ _ c.in-Structure.is c.as_slice-in-Structure.ensures c.requires.sizes c.in_ok-found-in-Structure.ensures c.structure_too_deep-depth.ensures c.structure_of.ensures
