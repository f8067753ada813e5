use Rattle.std.proofs.Common.{◌∙◌, sym, ap, map, option_map}
use Rattle.clap.specs.Words.{app_of}
use Rattle.console.proofs.console_words.WordLaws.{error_orders_nothing, matches_one_word, word_is_there, word_orders}
use Rattle.console.proofs.console_words.words.read.Goals as goal

pub returns : goal.returns
returns c = error_orders_nothing (app_of c.in_ok-command.command) c.in_ok-command.ensures (map (λ word. word.now) c.args.words.now) c.requires c.in-Err.error
    c.in-Err.ensures.kinds (λ h. c.in_default.not-OutOfMemory (c.kind.ensures ∙ h))

pub returns-in-Some : goal.returns-in-Some
returns-in-Some c =
    let one = matches_one_word (app_of c.in_ok-command.command) c.in_ok-command.ensures (map (λ word. word.now) c.args.words.now) c.requires c.in-Ok.matches
    c.in-Ok.ensures.kinds c.in-Ok.ensures.matches in
    c.order_of_name.ensures ∙ word_orders (map (λ word. word.now) c.args.words.now) c.in-Ok.matches one c.in-Some.name.now
    (sym (ap (option_map (λ s. s.now)) c.in-Some.is) ∙ c.get_str.ensures)

pub returns-in-Ok : goal.returns-in-Ok
returns-in-Ok c =
    let one = matches_one_word (app_of c.in_ok-command.command) c.in_ok-command.ensures (map (λ word. word.now) c.args.words.now) c.requires c.in-Ok.matches
    c.in-Ok.ensures.kinds c.in-Ok.ensures.matches in
    absurd (word_is_there (map (λ word. word.now) c.args.words.now) c.in-Ok.matches one
    (sym (ap (option_map (λ s. s.now)) c.in-None.is) ∙ c.get_str.ensures))
