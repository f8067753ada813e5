-- Two derivations, written out: what the grammar says of `1 + 2 * 3` and of `a[1].b := F(c := 4);`.
use Rattle.std.proofs.Common.{ℕ, List, [], ◌∷◌, refl, lit≤, lit<}
use Rattle.std.specs.Prelude.{codes}
use Rattle.st_tree.specs.declared.terminal.Terminal.{Terminal}
use Rattle.st_tree.specs.declared.terminal.Terminal.TheVariants as x
use Rattle.st_tree.specs.declared.expression.Operator.TheVariants as o
use Rattle.st_tree.specs.declared.expression.Root.TheVariants as roots
use Rattle.st_tree.specs.Expression as expr
use Rattle.st_tree.specs.Expression.{Expression, tail_then, no_tails, no_selectors, selector_then, expression_then, no_expressions, argument_then, no_arguments}
use Rattle.st_tree.specs.Statement as stmt
use Rattle.st_tree.specs.Reads.{no_marks}
use Rattle.st_tree.specs.Grammar.{Lexeme, expression, statement}

-- a lexeme of line 1
abbrev lexeme_of : Terminal → List ℕ → Lexeme
lexeme_of s text = record { terminal = s; text = text; line = 1; marks = no_marks }

abbrev number : List ℕ → Expression ℕ
number digits = expr.Int 1 digits

abbrev one : Lexeme
one = lexeme_of x.Int (codes "1")

abbrev two : Lexeme
two = lexeme_of x.Int (codes "2")

abbrev three : Lexeme
three = lexeme_of x.Int (codes "3")

abbrev plus : Lexeme
plus = lexeme_of x.Plus (codes "+")

abbrev times : Lexeme
times = lexeme_of x.Times (codes "*")

-- the product is one operand of the sum
sum_of_product : expression
    (expr.Chain 1 (number (codes "1")) (tail_then 1 o.Plus (expr.Chain 1 (number (codes "2")) (tail_then 1 o.Times (number (codes "3")) no_tails)) no_tails)) 0
    (one ∷ plus ∷ two ∷ times ∷ three ∷ []) []
sum_of_product = (
  refl,
  (
    5,
    lit≤ tt,
    lit< tt,
    (
      plus ∷ two ∷ times ∷ three ∷ [],
      (refl, (one, (refl, refl), refl)),
      (
        refl,
        (
          two ∷ times ∷ three ∷ [],
          (plus, (refl, refl), refl),
          (
            [],
            (
              refl,
              (
                6,
                lit≤ tt,
                lit< tt,
                (
                  times ∷ three ∷ [],
                  (refl, (two, (refl, refl), refl)),
                  (refl, (three ∷ [], (times, (refl, refl), refl), ([], (refl, (three, (refl, refl), refl)), refl))),
                ),
              ),
            ),
            refl,
          ),
        ),
      ),
    ),
  ),
)

abbrev a : Lexeme
a = lexeme_of x.Word (codes "A")

abbrev open_bracket : Lexeme
open_bracket = lexeme_of x.OpenBracket (codes "[")

abbrev close_bracket : Lexeme
close_bracket = lexeme_of x.CloseBracket (codes "]")

abbrev dot : Lexeme
dot = lexeme_of x.Dot (codes ".")

abbrev b : Lexeme
b = lexeme_of x.Word (codes "B")

abbrev assigns : Lexeme
assigns = lexeme_of x.Assign (codes ":=")

abbrev f : Lexeme
f = lexeme_of x.Word (codes "F")

abbrev opens : Lexeme
opens = lexeme_of x.Open (codes "(")

abbrev c : Lexeme
c = lexeme_of x.Word (codes "C")

abbrev close : Lexeme
close = lexeme_of x.Close (codes ")")

abbrev semicolon : Lexeme
semicolon = lexeme_of x.Semicolon (codes ";")

abbrev four : Lexeme
four = lexeme_of x.Int (codes "4")

-- what stands behind the target, and behind `:=`
abbrev assigned : List Lexeme
assigned = f ∷ opens ∷ c ∷ assigns ∷ four ∷ close ∷ semicolon ∷ []

-- a target with selectors, and a call with a named input
assignment : statement
    (stmt.Assign 1 1 (roots.Name 1 (codes "A")) (selector_then (expr.Index 1 (expression_then (number (codes "1")) no_expressions)) (selector_then (expr.Field 1 (codes "B")) no_selectors))
    (expr.Call 1 (roots.Name 1 (codes "F")) no_selectors (argument_then (expr.Input 1 (codes "C") (number (codes "4"))) no_arguments)))
    (a ∷ open_bracket ∷ one ∷ close_bracket ∷ dot ∷ b ∷ assigns ∷ assigned) []
assignment = (
  refl,
  (
    assigns ∷ assigned,
    (
      refl,
      (
        open_bracket ∷ one ∷ close_bracket ∷ dot ∷ b ∷ assigns ∷ assigned,
        (refl, (a, (refl, refl), refl)),
        (
          dot ∷ b ∷ assigns ∷ assigned,
          (
            refl,
            (
              one ∷ close_bracket ∷ dot ∷ b ∷ assigns ∷ assigned,
              (open_bracket, refl, refl),
              (
                close_bracket ∷ dot ∷ b ∷ assigns ∷ assigned,
                (close_bracket ∷ dot ∷ b ∷ assigns ∷ assigned, (refl, (one, (refl, refl), refl)), refl),
                (close_bracket, refl, refl),
              ),
            ),
          ),
          (assigns ∷ assigned, (b ∷ assigns ∷ assigned, (dot, refl, refl), (refl, (b, (refl, refl), refl))), refl),
        ),
      ),
    ),
    (
      assigned,
      (assigns, refl, refl),
      (
        semicolon ∷ [],
        (
          refl,
          (
            opens ∷ c ∷ assigns ∷ four ∷ close ∷ semicolon ∷ [],
            (refl, (f, (refl, refl), refl)),
            (
              opens ∷ c ∷ assigns ∷ four ∷ close ∷ semicolon ∷ [],
              refl,
              (
                c ∷ assigns ∷ four ∷ close ∷ semicolon ∷ [],
                (opens, refl, refl),
                (
                  close ∷ semicolon ∷ [],
                  (
                    close ∷ semicolon ∷ [],
                    (
                      assigns ∷ four ∷ close ∷ semicolon ∷ [],
                      (refl, (c, (refl, refl), refl)),
                      (four ∷ close ∷ semicolon ∷ [], (assigns, refl, refl), (refl, (four, (refl, refl), refl))),
                    ),
                    refl,
                  ),
                  (close, refl, refl),
                ),
              ),
            ),
          ),
        ),
        (semicolon, refl, refl),
      ),
    ),
  ),
)
