use Rattle.std.proofs.Common.{◌≡◌, ◌∙◌, rules, ap, ap₂, false, true, map, Option, Some, codes, [], ◌∷◌}
use Rattle.clap.specs.Words.{Rule, app_of, new_rule, rule_of, with_rule}
use Rattle.clap.specs.Simple.{app_of_fields, on_top}
use Rattle.clap.specs.declared.builder.arg.Arg.{Arg}
use Rattle.clap.specs.declared.builder.value_parser.ValueParser.{ValueParser}
use Rattle.clap.specs.declared.builder.value_parser.ValueParser.TheVariants.{Names}
use Rattle.console.specs.console_words.Private.Words.{bare_app, name_rule}
use Rattle.console.proofs.console_words.words.command_line.Goals as goal

pub returns : goal.returns
returns c =
    let names = c.as_slice.result in
    let given = c.value_parser-name.ensures.given in
    let others = c.value_parser-name.ensures.others in
    let parser : c.value_parser-name.result.value_parser ≡ Some (Names names) = given.1 ∙ ap Some given.2 in
    let required : rule_of c.required.result ≡ record (new_rule (codes "command")) { required = true } =
    ap rule_of c.required.ensures ∙ ap (λ (r : Rule). record r { required = true }) c.new.ensures.rule in
    let name_is : rule_of c.value_parser-name.result ≡ name_rule names =
    ap rule_of others ∙ ap₂ (λ (p : Option ValueParser) (r : Rule). record r { parser = p }) parser required in
    let global : c.value_parser-name.result.global ≡ false =
    ap (λ (a : Arg). a.global) others ∙ ap (λ (a : Arg). a.global) c.required.ensures ∙ c.new.ensures.optional.1 in
    let bare : app_of c.disable_help_flag.result ≡ bare_app =
    ap app_of_fields c.disable_help_flag.ensures ∙ ap (on_top (λ s. record s { disable_help_flag = true })) (
    ap app_of_fields c.no_binary_name.ensures ∙ ap (on_top (λ s. record s { no_binary_name = true })) c.new-2.ensures.app) in
    let listed : map (λ name. name.now) names.now ≡ codes "check" ∷ codes "play" ∷ [] = search rules in
    record {
      names = names;
      listed = listed;
      shape = c.in_ok-command.ensures.shape global ∙ ap₂ with_rule bare name_is;
    }
