-- What the call over all lexemes has to show.
use Rattle.std.proofs.Common.{◌≡◌, ℕ, ◌-◌, ◌<◌, ◌≤◌, Bool, true, false, List, [], ◌∷◌, length, refl, sym, ◌∙◌, ap, subst, arith}
use Rattle.st_tree.specs.declared.unit.Decl.{Decl}
use Rattle.st_tree.specs.Grammar.{Lexeme, each}
use Rattle.st_tree.specs.Declarations.{declaration}
use Rattle.st_tree.specs.Nesting.{NoneDeep}
use Rattle.st_tree.specs.Beginnings.{StopsAt, IsUnit}
use Rattle.st_parser_expr.specs.declared.stop.Stop.{Stop}
use Rattle.st_parser_expr.specs.declared.stop.Stop.TheVariants.{Left, NoMemory}
use Rattle.st_parser_expr.specs.Private.Promises.{IsWithin}
use Rattle.st_parser_decl.specs.Private.Form.{machine}
use Rattle.st_parser_decl.specs.Private.Rules as w
use Rattle.st_parser_decl.specs.Private.Promises.{Parses, Fails}
use Rattle.st_parser_decl.specs.Reading.{HasCause}
use Rattle.st_parser_decl.specs.Private.Causes.{NoUnitLeft, HasStop, none_deep_cause_of}
use Rattle.st_parser_decl.proofs.Units.{top, accepted, stopped, left-within}

ended : (rest : List Lexeme) → machine [] rest ≡ (true, length rest)
ended [] = refl
ended (t ∷ ts) = refl

none_left : (rest : List Lexeme) → length rest ≤ 0 → rest ≡ []
none_left [] h = refl
none_left (t ∷ ts) h = absurd (omega arith)

pub read_whole : (ds : List (Decl ℕ)) (ts rest : List Lexeme) → Parses (each declaration ds) w.unit ts rest → length rest ≤ 0 → each declaration ds ts []
read_whole ds ts rest r h = subst (λ u. each declaration ds ts u) (none_left rest h) r.spelled

no_unit : (ts : List Lexeme) (v : Bool) (left : ℕ) → machine top ts ≡ (v, left) → ((v ≡ true) × (left ≡ 0) → ⊥) → IsUnit ts → ⊥
no_unit ts v left h not u =
    let same : (true, 0) ≡ (v, left) = sym (accepted ts u.0 u.1) ∙ h in
    not (sym (ap (λ p. p.0) same), sym (ap (λ p. p.1) same))

-- declarations were read, and some lexemes are left
pub left_over : (ds : List (Decl ℕ)) (ts rest : List Lexeme) → Parses (each declaration ds) w.unit ts rest → 0 < length rest → NoUnitLeft ts (length rest)
left_over ds ts rest r some =
    let run : machine top ts ≡ (true, length rest) = r.passes [] ∙ ended rest in
    record {
      within = r.shorter;
      stops = stopped ts true (length rest) (length ts - length rest) run (let s = r.shorter in omega arith);
      no_unit = no_unit ts true (length rest) run (λ z. absurd (let e = z.1 in omega arith));
    }

pub failed : (ts : List Lexeme) (stop : Stop) → Fails w.unit ts stop → HasStop ts stop
failed ts NoMemory f = tt
failed ts (Left n) f =
    let run : machine top ts ≡ (false, n) = f.stops n refl [] in
    let fits : n ≤ length ts = left-within ts false n run in
    record {
      within = fits;
      stops = stopped ts false n (length ts - n) run (omega arith);
      no_unit = no_unit ts false n run (λ z. let bad : false ≡ true = z.0 in cc);
    }

pub within : (ts : List Lexeme) (all : ℕ) (stop : Stop) → all ≡ length ts → HasStop ts stop → IsWithin all stop
within ts all NoMemory e h = tt
within ts all (Left n) e h = let w = h.within in omega arith

-- where none is too deep
pub none_deep_stopped : (ts : List Lexeme) (all : ℕ) (stop : Stop) → all ≡ length ts → NoneDeep ts all → HasStop ts stop → HasCause ts (none_deep_cause_of all stop)
none_deep_stopped ts all NoMemory e none_deep h = tt
none_deep_stopped ts all (Left n) e none_deep h =
    record { stops = subst (λ m. StopsAt IsUnit ts (m - n)) (sym e) h.stops; no_unit = h.no_unit; none_deep = λ j less deep. none_deep j (omega arith) deep }
