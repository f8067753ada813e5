-- Expressions, types, initial values and statements that are spelled are formed.
use Rattle.std.proofs.Common.{◌≡◌, ℕ, suc, Some}
use Rattle.st_types.specs.declared.elem.Elem.TheVariants as kind
use Rattle.st_tree.specs.declared.terminal.Terminal.TheVariants as x
use Rattle.st_tree.specs.declared.expression.Literal.{Literal}
use Rattle.st_tree.specs.declared.expression.Literal.TheVariants as literals
use Rattle.st_tree.specs.declared.expression.Root.{Root}
use Rattle.st_tree.specs.declared.expression.Root.TheVariants as roots
use Rattle.st_tree.specs.Expression as expr
use Rattle.st_tree.specs.Expression.{Expression, Expressions, no_expressions, expression_then, Selector, Selectors, no_selectors, selector_then, Argument, Arguments, no_arguments, argument_then, Tails, no_tails, tail_then}
use Rattle.st_tree.specs.Grammar.{Phrase, ◌⋆◌, sign, word, at, operator_of, level, operator_at, literal, root, expression, first_tail, tails, selectors, selector, more_expressions, arguments, more_arguments, argument}
use Rattle.accepted_texts.specs.formed_units.Formed.{NotEmpty, FormedRoot, Formed, FormedTails, FormedEach, FormedAlong, FormedSelector, FormedArguments, FormedArgument}
use Rattle.accepted_texts.proofs.formed_units.Gives.{Gives, then, nothing_gives, lexeme_gives, sign_gives, spelled_gives, at_gives, word_gives}

module _ (most : ℕ) where
  pub literal_gives : (v : Literal) → Gives most (literal v) (Unit {0})
  literal_gives (literals.Int digits) ts rest h w = ((spelled_gives most x.Int digits ts rest h w).0, tt)
  literal_gives (literals.Negative digits) ts rest h w = ((then most _ _ _ _ (sign_gives most x.Minus) (spelled_gives most x.Int digits) ts rest h w).0, tt)
  literal_gives literals.True ts rest h w = sign_gives most x.True ts rest h w
  literal_gives literals.False ts rest h w = sign_gives most x.False ts rest h w

  pub root_gives : (r : Root ℕ) → Gives most (root r) (FormedRoot r)
  root_gives (roots.Name line n) ts rest h w = word_gives most n ts rest h w.1
  root_gives (roots.This line) ts rest h w = sign_gives most x.This ts rest h w.1
  root_gives (roots.Super line) ts rest h w = sign_gives most x.Super ts rest h w.1

  -- a sign is passed over
  pub behind : (s : _) (P : Phrase) (X : Type 0) → Gives most P X → Gives most (sign s ⋆ P) X
  behind s P X f ts rest h w = let a = sign_gives most s ts w.0 h w.1 in f w.0 rest a.0 w.2

  pub before : (P : Phrase) (s : _) (X : Type 0) → Gives most P X → Gives most (P ⋆ sign s) X
  before P s X f ts rest h w = let a = f ts w.0 h w.1 in let b = sign_gives most s w.0 rest a.0 w.2 in (b.0, a.1)

  operator_gives : (k : ℕ) (p : _) (P : Phrase) (X : Type 0) → Gives most P X → Gives most (operator_at k p ⋆ P) X
  operator_gives k p P X f ts rest h w = let a = lexeme_gives most (λ t. (operator_of t.terminal ≡ Some p) × (level p ≡ k)) (Unit {0}) (λ t n c. tt) ts w.0 h w.1 in f w.0 rest a.0 w.2

  mutual
    pub expression_gives : (e : Expression ℕ) (l : ℕ) → Gives most (expression e l) (Formed e)
    expression_gives (expr.Int line digits) l ts rest h w = ((spelled_gives most x.Int digits ts rest h w.1).0, tt)
    expression_gives (expr.Typed line k v) l ts rest h w = behind (x.Kind k) (sign x.Hash ⋆ literal v) (Unit {0}) (behind x.Hash (literal v) (Unit {0}) (literal_gives v)) ts rest h w.1
    expression_gives (expr.Time line text) l ts rest h w = ((spelled_gives most x.Duration text ts rest h w.1).0, tt)
    expression_gives (expr.True line) l ts rest h w = sign_gives most x.True ts rest h w.1
    expression_gives (expr.False line) l ts rest h w = sign_gives most x.False ts rest h w.1
    expression_gives (expr.Null line) l ts rest h w = sign_gives most x.Null ts rest h w.1
    expression_gives (expr.Place line r s) l ts rest h w = then most (root r) (selectors s) (FormedRoot r) (FormedAlong s) (root_gives r) (selectors_gives s) ts rest h w.1
    expression_gives (expr.Call line r s xs) l ts rest h w =
        then most (root r) (selectors s ⋆ sign x.Open ⋆ arguments xs ⋆ sign x.Close) (FormedRoot r) (FormedAlong s × FormedArguments xs) (root_gives r)
        (then most (selectors s) (sign x.Open ⋆ arguments xs ⋆ sign x.Close) (FormedAlong s) (FormedArguments xs) (selectors_gives s)
        (behind x.Open (arguments xs ⋆ sign x.Close) (FormedArguments xs) (before (arguments xs) x.Close (FormedArguments xs) (arguments_gives xs)))) ts rest h w.1
    expression_gives (expr.Enumerator line t later n) l ts rest h w =
        then most (word t) (sign x.Hash ⋆ at later (word n)) (NotEmpty t) (NotEmpty n) (word_gives most t) (behind x.Hash (at later (word n)) (NotEmpty n) (at_gives most later (word n) (NotEmpty n) (word_gives most n))) ts rest h w.1
    expression_gives (expr.Ref line r s) l ts rest h w =
        behind x.Ref (sign x.Open ⋆ root r ⋆ selectors s ⋆ sign x.Close) (FormedRoot r × FormedAlong s) (behind x.Open (root r ⋆ selectors s ⋆ sign x.Close) (FormedRoot r × FormedAlong s)
        (then most (root r) (selectors s ⋆ sign x.Close) (FormedRoot r) (FormedAlong s) (root_gives r) (before (selectors s) x.Close (FormedAlong s) (selectors_gives s)))) ts rest h w.1
    expression_gives (expr.Now line) l ts rest h w = behind (x.Kind kind.Time) (sign x.Open ⋆ sign x.Close) (Unit {0}) (behind x.Open (sign x.Close) (Unit {0}) (sign_gives most x.Close)) ts rest h w.1
    expression_gives (expr.Paren line e) l ts rest h w = behind x.Open (expression e 0 ⋆ sign x.Close) (Formed e) (before (expression e 0) x.Close (Formed e) (expression_gives e 0)) ts rest h w.1
    expression_gives (expr.Not line e) l ts rest h w = behind x.Not (expression e 7) (Formed e) (expression_gives e 7) ts rest h w.1
    expression_gives (expr.Negate line e) l ts rest h w = behind x.Minus (expression e 7) (Formed e) (expression_gives e 7) ts rest h w.1
    expression_gives (expr.Chain line e es) l ts rest h w =
        then most (expression e (suc w.1.0)) (first_tail es line w.1.0) (Formed e) (FormedTails es) (expression_gives e (suc w.1.0)) (first_tail_gives es line w.1.0) ts rest h w.1.3

    first_tail_gives : (ts : Tails ℕ) (row k : ℕ) → Gives most (first_tail ts row k) (FormedTails ts)
    first_tail_gives no_tails row k ts rest h w = absurd w
    first_tail_gives (tail_then line p e es) row k ts rest h w = operator_gives k p (expression e (suc k) ⋆ tails es row k) (Formed e × FormedTails es) (then most (expression e (suc k)) (tails es row k) (Formed e) (FormedTails es) (expression_gives e (suc k)) (tails_gives es row k)) ts rest h w.1

    tails_gives : (ts : Tails ℕ) (row k : ℕ) → Gives most (tails ts row k) (FormedTails ts)
    tails_gives no_tails row k ts rest h w = nothing_gives most ts rest h w
    tails_gives (tail_then line p e es) row k ts rest h w = operator_gives k p (expression e (suc k) ⋆ tails es row k) (Formed e × FormedTails es) (then most (expression e (suc k)) (tails es row k) (Formed e) (FormedTails es) (expression_gives e (suc k)) (tails_gives es row k)) ts rest h w.1

    pub selectors_gives : (s : Selectors ℕ) → Gives most (selectors s) (FormedAlong s)
    selectors_gives no_selectors ts rest h w = nothing_gives most ts rest h w
    selectors_gives (selector_then s ss) ts rest h w = then most (selector s) (selectors ss) (FormedSelector s) (FormedAlong ss) (selector_gives s) (selectors_gives ss) ts rest h w

    selector_gives : (s : Selector ℕ) → Gives most (selector s) (FormedSelector s)
    selector_gives (expr.Field line n) ts rest h w = behind x.Dot (at line (word n)) (NotEmpty n) (at_gives most line (word n) (NotEmpty n) (word_gives most n)) ts rest h w
    selector_gives (expr.Index line no_expressions) ts rest h w = absurd (w.1.2.1)
    selector_gives (expr.Index line (expression_then e es)) ts rest h w =
        behind x.OpenBracket ((expression e 0 ⋆ more_expressions es) ⋆ sign x.CloseBracket) (Formed e × FormedEach es)
        (before (expression e 0 ⋆ more_expressions es) x.CloseBracket (Formed e × FormedEach es) (then most (expression e 0) (more_expressions es) (Formed e) (FormedEach es) (expression_gives e 0) (more_expressions_gives es))) ts rest h w.1
    selector_gives (expr.Target line) ts rest h w = sign_gives most x.Caret ts rest h w.1

    more_expressions_gives : (es : Expressions ℕ) → Gives most (more_expressions es) (FormedEach es)
    more_expressions_gives no_expressions ts rest h w = nothing_gives most ts rest h w
    more_expressions_gives (expression_then e es) ts rest h w = behind x.Comma (expression e 0 ⋆ more_expressions es) (Formed e × FormedEach es) (then most (expression e 0) (more_expressions es) (Formed e) (FormedEach es) (expression_gives e 0) (more_expressions_gives es)) ts rest h w

    pub arguments_gives : (xs : Arguments ℕ) → Gives most (arguments xs) (FormedArguments xs)
    arguments_gives no_arguments ts rest h w = nothing_gives most ts rest h w
    arguments_gives (argument_then a xs) ts rest h w = then most (argument a) (more_arguments xs) (FormedArgument a) (FormedArguments xs) (argument_gives a) (more_arguments_gives xs) ts rest h w

    more_arguments_gives : (xs : Arguments ℕ) → Gives most (more_arguments xs) (FormedArguments xs)
    more_arguments_gives no_arguments ts rest h w = nothing_gives most ts rest h w
    more_arguments_gives (argument_then a xs) ts rest h w = behind x.Comma (argument a ⋆ more_arguments xs) (FormedArgument a × FormedArguments xs) (then most (argument a) (more_arguments xs) (FormedArgument a) (FormedArguments xs) (argument_gives a) (more_arguments_gives xs)) ts rest h w

    argument_gives : (a : Argument ℕ) → Gives most (argument a) (FormedArgument a)
    argument_gives (expr.Positional e) ts rest h w = expression_gives e 0 ts rest h w
    argument_gives (expr.Input line n e) ts rest h w =
        then most (at line (word n)) (sign x.Assign ⋆ expression e 0) (NotEmpty n) (Formed e) (at_gives most line (word n) (NotEmpty n) (word_gives most n)) (behind x.Assign (expression e 0) (Formed e) (expression_gives e 0)) ts rest h w
    argument_gives (expr.Output line n later r s) ts rest h w =
        then most (at line (word n)) (sign x.Sends ⋆ at later (root r ⋆ selectors s)) (NotEmpty n) (FormedRoot r × FormedAlong s) (at_gives most line (word n) (NotEmpty n) (word_gives most n))
        (behind x.Sends (at later (root r ⋆ selectors s)) (FormedRoot r × FormedAlong s) (at_gives most later (root r ⋆ selectors s) (FormedRoot r × FormedAlong s) (then most (root r) (selectors s) (FormedRoot r) (FormedAlong s) (root_gives r) (selectors_gives s)))) ts rest h w
