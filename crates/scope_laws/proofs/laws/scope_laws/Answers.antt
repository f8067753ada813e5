use Rattle.accepted_texts.proofs.formed_texts.Texts.{formed_text_laws}
use Rattle.scope_laws.proofs.Instances.{function_agrees, body_agrees}
use Rattle.scope_laws.proofs.Texts.{class_rules_good}
use Rattle.scope_laws.proofs.laws.scope_laws.Goals as goal

pub returns : goal.returns
returns c = record {
  functions = λ most decls p w g h f m. function_agrees most decls p h w g (formed_text_laws.told most decls w g) f (class_rules_good decls g) m;
  bodies = λ most decls p w g h f m. body_agrees most decls p h w g (formed_text_laws.told most decls w g) f (class_rules_good decls g) m;
}
