-- What the words of the command line order.
use Rattle.std.specs.Prelude.{ℕ, List, [], ◌∷◌, Option, Some, None, codes, if◌then◌else◌}
use Rattle.std.specs.Str.{bytes_eq}
use Rattle.console.specs.declared.console_words.words.Order.{Order}
use Rattle.console.specs.declared.console_words.words.Order.TheVariants.{Check, Play}

-- the command of this name
abbrev pub order_of_name : List ℕ → Option Order
order_of_name name =
    if bytes_eq name (codes "check") then Some Check
    else (if bytes_eq name (codes "play") then Some Play else None)

-- the command whose name is the one word
abbrev pub order_named : List (List ℕ) → Option Order
order_named [] = None
order_named (word ∷ []) = order_of_name word
order_named (word ∷ next ∷ rest) = None
