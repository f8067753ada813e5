-- Which rule of declarations a terminal chooses.
use Rattle.std.proofs.Common.{◌≡◌, Bool, true, false, ◌||◌, List, [], ◌∷◌, Option, Some, refl, ◌∙◌, ap}
use Rattle.st_types.specs.declared.elem.Elem.{Elem}
use Rattle.st_types.specs.declared.elem.Elem.TheVariants as kind
use Rattle.st_tree.specs.declared.terminal.Terminal.{Terminal}
use Rattle.st_tree.specs.declared.terminal.Terminal.TheVariants as x
use Rattle.st_tree.specs.Grammar.{Lexeme, Phrase}
use Rattle.st_parser_expr.specs.declared.stop.Stop.{Stop}
use Rattle.st_parser_expr.specs.Private.Promises.{next_terminal}
use Rattle.st_parser_stmt.specs.Private.Numbers.{same_terminal, number}
use Rattle.st_parser_decl.specs.Private.Form.{Form, either, State, nullable, starts, machine}
use Rattle.st_parser_decl.specs.Private.Rules as w
use Rattle.st_parser_decl.specs.Private.Promises.{first_in, Parses, Fails, FailsInside}
use Rattle.st_parser_decl.proofs.FormLaws.{machine-first, machine-second}
use Rattle.st_parser_decl.proofs.Steps.{first_is}

-- of the forms of the whole, this one is meant
pub record Chooses (a whole : Form) (ts : List Lexeme) : Type 0 where
  pub begins : first_in (starts whole) ts ≡ true
  pub passes : (K : State) → machine (whole ∷ K) ts ≡ machine (a ∷ K) ts

either_first : (a b : Form) (ts : List Lexeme) → first_in (starts a) ts ≡ true → first_in (starts (either a b)) ts ≡ true
either_first a b [] h = cc
either_first a b (t ∷ ts) h = ap (λ v. v || starts b t.terminal) h

either_second : (a b : Form) (ts : List Lexeme) → first_in (starts a) ts ≡ false → first_in (starts (either a b)) ts ≡ first_in (starts b) ts
either_second a b [] h = refl
either_second a b (t ∷ ts) h = ap (λ v. v || starts b t.terminal) h

chosen : (a : Form) (ts : List Lexeme) → first_in (starts a) ts ≡ true → Chooses a a ts
chosen a ts h = record { begins = h; passes = λ K. refl }

first : {a b : Form} {ts : List Lexeme} → nullable a ≡ false → first_in (starts a) ts ≡ true → Chooses a (either a b) ts
first {a = a} {b = b} {ts = ts} n h = record { begins = either_first a b ts h; passes = λ K. machine-first a b K ts n h }

second : {a b c : Form} {ts : List Lexeme} → first_in (starts b) ts ≡ false → Chooses a c ts → Chooses a (either b c) ts
second {b = b} {c = c} {ts = ts} h z = record { begins = either_second b c ts h ∙ z.begins; passes = λ K. machine-second b c K ts h ∙ z.passes K }

pub parses_chosen : {P : Phrase} {a whole : Form} {ts rest : List Lexeme} → Chooses a whole ts → Parses P a ts rest → (first_in (starts whole) ts ≡ true) × Parses P whole ts rest
parses_chosen z r = (z.begins, record { spelled = r.spelled; passes = λ K. z.passes K ∙ r.passes K; shorter = r.shorter })

pub chosen_fails : {a whole : Form} {ts : List Lexeme} {stop : Stop} → Chooses a whole ts → Fails a ts stop → FailsInside whole ts stop
chosen_fails z f = record { begins = λ n e. z.begins; fails = record { stops = λ n e K. z.passes K ∙ f.stops n e K } }

-- ---- the declarations

pub types : (ts : List Lexeme) → next_terminal ts ≡ Some x.Type → Chooses w.types w.declaration ts
unfolding w.declaration w.types same_terminal number
types ts h = first refl (first_is (starts w.types) x.Type ts h)

pub globals : (ts : List Lexeme) → next_terminal ts ≡ Some x.VarGlobal → Chooses w.globals w.declaration ts
unfolding w.declaration w.types w.globals same_terminal number
globals ts h = second (first_is (starts w.types) x.VarGlobal ts h) (first refl (first_is (starts w.globals) x.VarGlobal ts h))

pub interface : (ts : List Lexeme) → next_terminal ts ≡ Some x.Interface → Chooses w.interface w.declaration ts
unfolding w.declaration w.types w.globals w.interface same_terminal number
interface ts h =
    second (first_is (starts w.types) x.Interface ts h)
    (second (first_is (starts w.globals) x.Interface ts h)
    (first refl (first_is (starts w.interface) x.Interface ts h)))

pub class : (ts : List Lexeme) → next_terminal ts ≡ Some x.Class → Chooses w.class w.declaration ts
unfolding w.declaration w.types w.globals w.interface w.class same_terminal number
class ts h =
    second (first_is (starts w.types) x.Class ts h)
    (second (first_is (starts w.globals) x.Class ts h)
    (second (first_is (starts w.interface) x.Class ts h)
    (first refl (first_is (starts w.class) x.Class ts h))))

pub block : (ts : List Lexeme) → next_terminal ts ≡ Some x.FunctionBlock → Chooses w.block w.declaration ts
unfolding w.declaration w.types w.globals w.interface w.class w.block same_terminal number
block ts h =
    second (first_is (starts w.types) x.FunctionBlock ts h)
    (second (first_is (starts w.globals) x.FunctionBlock ts h)
    (second (first_is (starts w.interface) x.FunctionBlock ts h)
    (second (first_is (starts w.class) x.FunctionBlock ts h)
    (first refl (first_is (starts w.block) x.FunctionBlock ts h)))))

pub function : (ts : List Lexeme) → next_terminal ts ≡ Some x.Function → Chooses w.function w.declaration ts
unfolding w.declaration w.types w.globals w.interface w.class w.block w.function same_terminal number
function ts h =
    second (first_is (starts w.types) x.Function ts h)
    (second (first_is (starts w.globals) x.Function ts h)
    (second (first_is (starts w.interface) x.Function ts h)
    (second (first_is (starts w.class) x.Function ts h)
    (second (first_is (starts w.block) x.Function ts h)
    (first refl (first_is (starts w.function) x.Function ts h))))))

pub program : (ts : List Lexeme) → next_terminal ts ≡ Some x.Program → Chooses w.program w.declaration ts
unfolding w.declaration w.types w.globals w.interface w.class w.block w.function w.program same_terminal number
program ts h =
    second (first_is (starts w.types) x.Program ts h)
    (second (first_is (starts w.globals) x.Program ts h)
    (second (first_is (starts w.interface) x.Program ts h)
    (second (first_is (starts w.class) x.Program ts h)
    (second (first_is (starts w.block) x.Program ts h)
    (second (first_is (starts w.function) x.Program ts h)
    (first refl (first_is (starts w.program) x.Program ts h)))))))

pub configuration : (ts : List Lexeme) → next_terminal ts ≡ Some x.Configuration → Chooses w.configuration w.declaration ts
unfolding w.declaration w.types w.globals w.interface w.class w.block w.function w.program w.configuration same_terminal number
configuration ts h =
    second (first_is (starts w.types) x.Configuration ts h)
    (second (first_is (starts w.globals) x.Configuration ts h)
    (second (first_is (starts w.interface) x.Configuration ts h)
    (second (first_is (starts w.class) x.Configuration ts h)
    (second (first_is (starts w.block) x.Configuration ts h)
    (second (first_is (starts w.function) x.Configuration ts h)
    (second (first_is (starts w.program) x.Configuration ts h)
    (chosen w.configuration ts (first_is (starts w.configuration) x.Configuration ts h))))))))

-- a declaration begins with it
abbrev pub begins_declaration : Option Terminal → Bool
begins_declaration (Some x.Type) = true
begins_declaration (Some x.VarGlobal) = true
begins_declaration (Some x.Interface) = true
begins_declaration (Some x.Class) = true
begins_declaration (Some x.FunctionBlock) = true
begins_declaration (Some x.Function) = true
begins_declaration (Some x.Program) = true
begins_declaration (Some x.Configuration) = true
begins_declaration _ = false

pub no_declaration : (ts : List Lexeme) → begins_declaration (next_terminal ts) ≡ false → first_in (starts w.declaration) ts ≡ false
unfolding w.declaration w.types w.globals w.interface w.class w.block w.function w.program w.configuration same_terminal number
no_declaration [] h = refl
no_declaration (t ∷ ts) h = at t.terminal h
  where
    kinds : (k : Elem) → starts w.declaration (x.Kind k) ≡ false
    kinds kind.Bool = refl
    kinds _ = refl

    at : (u : Terminal) → begins_declaration (Some u) ≡ false → starts w.declaration u ≡ false
    at (x.Kind k) h = kinds k
    at x.Type h = cc
    at x.VarGlobal h = cc
    at x.Interface h = cc
    at x.Class h = cc
    at x.FunctionBlock h = cc
    at x.Function h = cc
    at x.Program h = cc
    at x.Configuration h = cc
    at _ h = refl
