-- The scan for nesting.
use Rattle.st_tree.specs.declared.terminal.Terminal.{Terminal}
use Rattle.st_tree.specs.Nesting.{open_with, signs_with, ends_operand}
use Rattle.st_parser_expr.specs.declared.depth.Depth.{Depth}

-- behind one more lexeme
abbrev pub behind : Depth → Terminal → Depth
behind d t = record { brackets = open_with t d.brackets; signs = signs_with t d.ended d.signs; ended = ends_operand t }
