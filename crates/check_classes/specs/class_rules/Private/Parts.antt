-- A class from its parts.
use Rattle.std.specs.Prelude.{◌≡◌, ℕ, Option}
use Rattle.plc_text.specs.declared.code.Code.{Code}
use Rattle.st_tree.specs.declared.declaration.ClassDecl.{ClassDecl}
use Rattle.st_rules.specs.Faults.{earlier}
use Rattle.check_classes.specs.declared.class_rules.parts.Broken.{Broken}
use Rattle.check_classes.specs.declared.class_rules.parts.CheckedClass.{CheckedClass}
use Rattle.check_classes.specs.declared.class_rules.parts.Heading.{Heading}
use Rattle.check_classes.specs.declared.class_rules.parts.Trees.{Trees}

pub record IsHeading (h : Heading) (d : ClassDecl ℕ) : Type 0 where
  pub line : h.line ≡ d.line
  pub sort : h.sort ≡ d.sort
  pub modifiers : h.modifiers ≡ d.modifiers
  pub name : h.name ≡ d.name

-- in the order in which the rules stand
abbrev pub least_of : Broken → Trees → Option (Code × ℕ)
least_of b p =
    earlier (earlier (earlier (earlier (earlier (earlier (earlier (earlier (earlier (earlier b.words b.names) p.base.least) p.interfaces.least) b.bases) b.concrete) p.members.sections) b.cycles) p.members.methods) b.limits) p.body.least

pub record IsClass (c : CheckedClass) (h : Heading) (b : Broken) (p : Trees) : Type 0 where
  pub least : c.least ≡ least_of b p
  pub line : c.class.line ≡ h.line
  pub sort : c.class.sort ≡ h.sort
  pub modifiers : c.class.modifiers ≡ h.modifiers
  pub name : c.class.name ≡ h.name
  pub base : c.class.base ≡ p.base.base
  pub interfaces : c.class.interfaces ≡ p.interfaces.interfaces
  pub members : c.class.members ≡ p.members.members
  pub body : c.class.body ≡ p.body.body
