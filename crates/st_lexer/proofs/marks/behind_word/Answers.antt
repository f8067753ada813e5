use Rattle.std.proofs.Common.{sym, ap, drop, ◌∙◌}
use Rattle.std.proofs.lemmas.List.{take_rest}
use Rattle.st_lexer.proofs.PartLaws.{behind_all_is}
use Rattle.st_lexer.proofs.marks.behind_word.Goals as goal

pub returns : goal.returns
returns c = take_rest c.args.text.now c.run.result ∙ ap (λ n. drop n c.args.text.now) c.run.ensures.value ∙ sym (behind_all_is _ c.args.text.now)
