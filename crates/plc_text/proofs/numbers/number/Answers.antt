use Rattle.std.proofs.Common.{◌≡◌, ◌∙◌, sym, true}
use Rattle.std.specs.Result.{result_ok}
use Rattle.std.proofs.lemmas.Str.Parse.{parse_digits}
use Rattle.plc_text.specs.Words.{is_number}
use Rattle.plc_text.proofs.NumberLaws.{numerals, all_digits, number-parse, number_in-from}
use Rattle.plc_text.proofs.numbers.number.Goals as goal

pub returns-then-is_number : goal.returns-then-is_number
returns-then-is_number c =
    let word = c.args.word.now in
    let is : is_number word ≡ true = cc in
    let read = parse_digits numerals 32 word c.parse.result c.parse.ensures.value.0 (all_digits word is) in
    c.ok.ensures.value ∙ sym (number_in-from word (result_ok c.parse.result) (number-parse word c.parse.result read is))
