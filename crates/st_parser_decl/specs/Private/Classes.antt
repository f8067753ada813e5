-- The words of the functions over classes.
use Rattle.st_tree.specs.Grammar.{Phrase, ◌⋆◌, name, each}
use Rattle.st_tree.specs.Declarations.{modifier_in, is_class_word, base, implemented}
use Rattle.st_parser_decl.specs.declared.class.ClassHead.{ClassHead}

-- { ABSTRACT | FINAL } name [EXTENDS name] [IMPLEMENTS names]
abbrev pub Headed : ClassHead → Phrase
Headed h = each (modifier_in is_class_word) h.modifiers ⋆ name h.name ⋆ base h.base ⋆ implemented h.interfaces
