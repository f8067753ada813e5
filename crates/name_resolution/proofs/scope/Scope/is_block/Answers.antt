use Rattle.std.proofs.Common.{ap, ◌∙◌}
use Rattle.st_rules.specs.Scope.{Scope}
use Rattle.name_resolution.specs.Private.Routines.{is_block}
use Rattle.name_resolution.proofs.TableLaws.{block_is}
use Rattle.name_resolution.proofs.scope.Scope.is_block.Goals as goal

pub returns : goal.returns
returns c = c.is_block.ensures ∙ ap (λ (s : Scope). is_block s.names.classes c.args.class) c.self.view_is ∙ block_is c.args.self.now c.args.class
