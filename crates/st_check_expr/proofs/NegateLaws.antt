-- A sign before what is no int.
use Rattle.std.proofs.Common.{◌≡◌, ◌++◌, ℕ, false, refl}
use Rattle.st_tree.specs.declared.program.Target.TheVariants.{Nothing}
use Rattle.st_tree.specs.Expression.{Expression, Int, Typed, Time, True, False, Null, Place, Call, Enumerator, Ref, Now, Paren, Not, Negate, Chain}
use Rattle.st_rules.specs.declared.asked.Asked.{Asked}
use Rattle.st_rules.specs.Kinds.{takes_minus, unary_type}
use Rattle.st_rules.specs.Literals.{number_asked}
use Rattle.st_rules.specs.Scope.{Scope}
use Rattle.st_rules.specs.Expressions.{is_int, is_untyped, line_of, front_asked, operand_unsuited, note, type_of, faults, typed}

module _ (s : Scope) (asked : Asked) (l : ℕ) where
  abbrev pub inner : Expression ℕ → Asked
  inner e = front_asked (is_untyped e) (number_asked asked)

  -- what a sign before an expression is that is no int
  pub record SignIs (e : Expression ℕ) : Type 0 where
    pub told : type_of s asked (Negate l e) ≡ unary_type takes_minus (type_of s (inner e) e)
    pub broken : faults s asked (Negate l e) ≡ faults s (inner e) e ++ operand_unsuited (line_of e) takes_minus (type_of s (inner e) e)
    pub tree : typed s asked (Negate l e) ≡ Negate (note l (unary_type takes_minus (type_of s (inner e) e)) Nothing) (typed s (inner e) e)

  pub sign_is : (e : Expression ℕ) → is_int e ≡ false → SignIs e
  sign_is (Int k digits) h = absurd (cc h)
  sign_is (Typed k t x) h = record { told = refl; broken = refl; tree = refl }
  sign_is (Time k x) h = record { told = refl; broken = refl; tree = refl }
  sign_is (True k) h = record { told = refl; broken = refl; tree = refl }
  sign_is (False k) h = record { told = refl; broken = refl; tree = refl }
  sign_is (Null k) h = record { told = refl; broken = refl; tree = refl }
  sign_is (Place k r ss) h = record { told = refl; broken = refl; tree = refl }
  sign_is (Call k r ss xs) h = record { told = refl; broken = refl; tree = refl }
  sign_is (Enumerator k t m n) h = record { told = refl; broken = refl; tree = refl }
  sign_is (Ref k r ss) h = record { told = refl; broken = refl; tree = refl }
  sign_is (Now k) h = record { told = refl; broken = refl; tree = refl }
  sign_is (Paren k e) h = record { told = refl; broken = refl; tree = refl }
  sign_is (Not k e) h = record { told = refl; broken = refl; tree = refl }
  sign_is (Negate k e) h = record { told = refl; broken = refl; tree = refl }
  sign_is (Chain k e ts) h = record { told = refl; broken = refl; tree = refl }
