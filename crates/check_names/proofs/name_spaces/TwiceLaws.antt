-- Names one by one: those that were looked at are held, and the first fault of all is that which was found or that of those left.
use Rattle.std.proofs.Common.{◌≡◌, ℕ, ◌+◌, ◌<◌, ◌≤◌, List, [], ◌∷◌, ◌++◌, Option, None, Bor, length, get_or, take, drop, refl, sym, ap, ◌∙◌, subst, append_assoc, append-nil}
use Rattle.plc_text.specs.declared.code.Code.{Code}
use Rattle.st_tree.specs.declared.name.Name.{Name}
use Rattle.st_rules.specs.Faults.{earlier, least}
use Rattle.st_rules.proofs.FaultLaws.{earlier-none}
use Rattle.st_rules.proofs.ListLaws.{drop-at, take-at, drop-end}
use Rattle.st_unit_rules.specs.NameRules.{texts, declared_twice}
use Rattle.check_names.specs.name_spaces.Held.{Holds}
use Rattle.check_names.specs.name_spaces.NamesIn.{names_of}

-- so many names were looked at
pub record TwiceTo (start held : List (List ℕ)) (found : Option (Code × ℕ)) (names : List (Bor Name)) (i : ℕ) : Type 0 where
  pub holds : (before : List (List ℕ)) → Holds start before → Holds held (before ++ texts (names_of (take i names)))
  pub rest : (before : List (List ℕ)) → Holds start before → earlier found (least (declared_twice (before ++ texts (names_of (take i names))) (names_of (drop i names)))) ≡ least (declared_twice before (names_of names))

-- what one more name does
pub record NameStep (held held' : List (List ℕ)) (found found' : Option (Code × ℕ)) (n : Name) : Type 0 where
  pub step : (before : List (List ℕ)) (rest : List Name) → Holds held before → Holds held' (before ++ n.text ∷ []) × (earlier found' (least (declared_twice (before ++ n.text ∷ []) rest)) ≡ earlier found (least (declared_twice before (n ∷ rest))))

pub begun : (start held : List (List ℕ)) (names : List (Bor Name)) → held ≡ start → TwiceTo start held None names 0
begun start held names e = record {
  holds = λ before h. subst (λ (ns : List (List ℕ)). Holds held ns) (sym (append-nil before)) (subst (λ (hs : List (List ℕ)). Holds hs before) (sym e) h);
  rest = λ before h. ap (λ ns. least (declared_twice ns (names_of names))) (append-nil before);
}

pushed : (xs : List (Bor Name)) (b : Bor Name) → texts (names_of (xs ++ b ∷ [])) ≡ texts (names_of xs) ++ b.now.text ∷ []
pushed [] b = refl
pushed (x ∷ xs) b = ap (λ ns. x.now.text ∷ ns) (pushed xs b)

pub next : (start held held' : List (List ℕ)) (found found' : Option (Code × ℕ)) (names : List (Bor Name)) (i : ℕ) (b : Bor Name) → i < length names → b ≡ get_or names i b → NameStep held held' found found' b.now
    → TwiceTo start held found names i → TwiceTo start held' found' names (i + 1)
next start held held' found found' names i b l e s t = record {
  holds = λ before h. subst (λ (ns : List (List ℕ)). Holds held' ns) (joined before) ((s.step (before ++ texts (names_of (take i names))) [] (t.holds before h)).0);
  rest = λ before h.
      ap (λ ns. earlier found' (least (declared_twice ns (names_of (drop (i + 1) names))))) (sym (joined before))
      ∙ (s.step (before ++ texts (names_of (take i names))) (names_of (drop (i + 1) names)) (t.holds before h)).1
      ∙ ap (λ ds. earlier found (least (declared_twice (before ++ texts (names_of (take i names))) (names_of ds)))) (sym (drop-at names i b l e))
      ∙ t.rest before h;
}
  where
    joined : (before : List (List ℕ)) → before ++ texts (names_of (take i names)) ++ b.now.text ∷ [] ≡ before ++ texts (names_of (take (i + 1) names))
    joined before =
        append_assoc before (texts (names_of (take i names))) (b.now.text ∷ [])
        ∙ ap (λ ns. before ++ ns) (sym (ap (λ xs. texts (names_of xs)) (take-at names i b l e) ∙ pushed (take i names) b))

pub ended : (start held : List (List ℕ)) (found : Option (Code × ℕ)) (names : List (Bor Name)) (i : ℕ) → length names ≤ i → TwiceTo start held found names i
    → (before : List (List ℕ)) → Holds start before → found ≡ least (declared_twice before (names_of names))
ended start held found names i l t before h =
    sym (earlier-none found)
    ∙ ap (λ ds. earlier found (least (declared_twice (before ++ texts (names_of (take i names))) (names_of ds)))) (sym (drop-end names i l))
    ∙ t.rest before h
