-- Names of a configuration one by one.
use Rattle.std.proofs.Common.{◌≡◌, ℕ, ◌+◌, ◌<◌, ◌≤◌, Bool, List, [], ◌∷◌, ◌++◌, Option, None, Bor, map, length, get_or, take, drop, refl, sym, ap, ◌∙◌, subst, append_assoc, append-nil}
use Rattle.std.specs.Prelude.{flat_map, ◌||◌}
use Rattle.std.proofs.lemmas.List.{map-append}
use Rattle.std.proofs.lemmas.Grind.{flat_map-append}
use Rattle.std.proofs.lemmas.List.Folds.{list_any-append}
use Rattle.plc_text.specs.declared.code.Code.{Code}
use Rattle.plc_text.specs.declared.code.Code.TheVariants.{E04}
use Rattle.plc_text.specs.Words.{same}
use Rattle.st_tree.specs.declared.configuration.InstanceSpec.{InstanceSpec}
use Rattle.st_tree.specs.declared.declaration.Section.{Section}
use Rattle.st_tree.specs.declared.name.Name.{Name}
use Rattle.st_rules.specs.Faults.{earlier, least, when}
use Rattle.st_rules.proofs.FaultLaws.{earlier-none}
use Rattle.st_rules.proofs.ListLaws.{drop-at, drop-end, take-at, take-end}
use Rattle.st_unit_rules.specs.declared_names.Variables.{section_written, sections_written}
use Rattle.st_unit_rules.specs.NameRules.{is_named, texts, section_names, declared_twice, name_of_conversion}
use Rattle.check_names.specs.name_spaces.Held.{Holds}
use Rattle.check_names.specs.name_spaces.NamesIn.{names_of}
use Rattle.check_names.proofs.name_spaces.NameLaws.{twice_next}
use Rattle.check_names.specs.name_rules.Configurations.{instance_names, conversion_of_instance}

-- ---- names that are held one by one

pub record HoldsTo {X : Type 0} (text_of : X → List ℕ) (start held : List (List ℕ)) (xs : List X) (i : ℕ) : Type 0 where
  pub holds : (before : List (List ℕ)) → Holds start before → Holds held (before ++ map text_of (take i xs))

module _ {X : Type 0} (text_of : X → List ℕ) (start : List (List ℕ)) (xs : List X) where
  pub held_begun : (held : List (List ℕ)) → held ≡ start → HoldsTo text_of start held xs 0
  held_begun held e = record { holds = λ before h. subst (λ (ns : List (List ℕ)). Holds held ns) (sym (append-nil before)) (subst (λ (hs : List (List ℕ)). Holds hs before) (sym e) h) }

  pub held_next : (held more : List (List ℕ)) (i : ℕ) (x : X) → i < length xs → x ≡ get_or xs i x → ((before : List (List ℕ)) → Holds held before → Holds more (before ++ text_of x ∷ []))
      → HoldsTo text_of start held xs i → HoldsTo text_of start more xs (i + 1)
  held_next held more i x l e step t = record {
    holds = λ before h.
        subst (λ (ns : List (List ℕ)). Holds more ns)
        (append_assoc before (map text_of (take i xs)) (text_of x ∷ []) ∙ ap (λ ns. before ++ ns) (sym (ap (map text_of) (take-at xs i x l e) ∙ map-append text_of (take i xs) (x ∷ []))))
        (step (before ++ map text_of (take i xs)) (t.holds before h));
  }

  pub held_ended : (held : List (List ℕ)) (i : ℕ) → length xs ≤ i → HoldsTo text_of start held xs i → (before : List (List ℕ)) → Holds start before → Holds held (before ++ map text_of xs)
  held_ended held i l t before h = subst (λ (ys : List X). Holds held (before ++ map text_of ys)) (take-end xs i l) (t.holds before h)

-- ---- the names of a configuration

section_names_append : (xs ys : List (Section ℕ)) → section_names (xs ++ ys) ≡ section_names xs ++ section_names ys
section_names_append xs ys = ap (map (λ w. w.name)) (flat_map-append section_written xs ys) ∙ map-append (λ w. w.name) (sections_written xs) (sections_written ys)

pub own_are : (name : List ℕ) (gs rs : List (Section ℕ)) → name ∷ texts (section_names gs) ++ texts (section_names rs) ≡ name ∷ texts (section_names (gs ++ rs))
own_are name gs rs = ap (λ ns. name ∷ ns) (sym (ap texts (section_names_append gs rs) ∙ map-append (λ n. n.text) (section_names gs) (section_names rs)))

-- ---- instances one by one

pub instance_step : (found t : Option (Code × ℕ)) (a b : Bool) (names mine : List (List ℕ)) (n : Name) (rest : List Name) → a ≡ is_named n.text names → b ≡ is_named n.text mine → t ≡ least (when (a || b) E04 n.line)
    → earlier (earlier found t) (least (declared_twice (names ++ (mine ++ n.text ∷ [])) rest)) ≡ earlier found (least (declared_twice (names ++ mine) (n ∷ rest)))
instance_step found t a b names mine n rest e f h =
    ap (λ ns. earlier (earlier found t) (least (declared_twice ns rest))) (sym (append_assoc names mine (n.text ∷ [])))
    ∙ twice_next found t (a || b) (names ++ mine) n rest (ap (λ x. x || b) e ∙ ap (λ x. is_named n.text names || x) f ∙ sym (list_any-append (same n.text) names mine)) h

pub record InstancesTo (before start own : List (List ℕ)) (found : Option (Code × ℕ)) (xs : List InstanceSpec) (i : ℕ) : Type 0 where
  pub holds : (mine : List (List ℕ)) → Holds start mine → Holds own (mine ++ texts (instance_names (take i xs)))
  pub rest : (names mine : List (List ℕ)) → Holds before names → Holds start mine
      → earlier found (least (declared_twice (names ++ (mine ++ texts (instance_names (take i xs)))) (instance_names (drop i xs)))) ≡ least (declared_twice (names ++ mine) (instance_names xs))

-- what one more instance does
pub record InstanceStep (before own own' : List (List ℕ)) (found found' : Option (Code × ℕ)) (n : Name) : Type 0 where
  pub step : (names mine : List (List ℕ)) (rest : List Name) → Holds before names → Holds own mine → Holds own' (mine ++ n.text ∷ [])
      × (earlier found' (least (declared_twice (names ++ (mine ++ n.text ∷ [])) rest)) ≡ earlier found (least (declared_twice (names ++ mine) (n ∷ rest))))

module _ (before start : List (List ℕ)) (xs : List InstanceSpec) where
  pub instances_begun : (own : List (List ℕ)) → own ≡ start → InstancesTo before start own None xs 0
  instances_begun own e = record {
    holds = λ mine h. subst (λ (ns : List (List ℕ)). Holds own ns) (sym (append-nil mine)) (subst (λ (hs : List (List ℕ)). Holds hs mine) (sym e) h);
    rest = λ names mine h k. ap (λ ns. least (declared_twice (names ++ ns) (instance_names xs))) (append-nil mine);
  }

  pub instances_next : (own own' : List (List ℕ)) (found found' : Option (Code × ℕ)) (i : ℕ) (x : InstanceSpec) → i < length xs → x ≡ get_or xs i x → InstanceStep before own own' found found' x.name
      → InstancesTo before start own found xs i → InstancesTo before start own' found' xs (i + 1)
  instances_next own own' found found' i x l e s t = record {
    holds = λ mine h. subst (λ (ns : List (List ℕ)). Holds own' ns) (joined mine) ((s.step before (mine ++ texts (instance_names (take i xs))) [] (record { same = λ name. refl }) (t.holds mine h)).0);
    rest = λ names mine h k.
        ap (λ ns. earlier found' (least (declared_twice (names ++ ns) (instance_names (drop (i + 1) xs))))) (sym (joined mine))
        ∙ (s.step names (mine ++ texts (instance_names (take i xs))) (instance_names (drop (i + 1) xs)) h (t.holds mine k)).1
        ∙ ap (λ ds. earlier found (least (declared_twice (names ++ (mine ++ texts (instance_names (take i xs)))) (instance_names ds)))) (sym (drop-at xs i x l e))
        ∙ t.rest names mine h k;
  }
    where
      joined : (mine : List (List ℕ)) → mine ++ texts (instance_names (take i xs)) ++ x.name.text ∷ [] ≡ mine ++ texts (instance_names (take (i + 1) xs))
      joined mine =
          append_assoc mine (texts (instance_names (take i xs))) (x.name.text ∷ [])
          ∙ ap (λ ns. mine ++ ns) (sym (ap (λ ys. texts (instance_names ys)) (take-at xs i x l e) ∙ ap texts (map-append (λ y. y.name) (take i xs) (x ∷ [])) ∙ map-append (λ n. n.text) (instance_names (take i xs)) (x.name ∷ [])))

  pub instances_ended : (own : List (List ℕ)) (found : Option (Code × ℕ)) (i : ℕ) → length xs ≤ i → InstancesTo before start own found xs i
      → (names mine : List (List ℕ)) → Holds before names → Holds start mine → found ≡ least (declared_twice (names ++ mine) (instance_names xs))
  instances_ended own found i l t names mine h k =
      sym (earlier-none found)
      ∙ ap (λ ds. earlier found (least (declared_twice (names ++ (mine ++ texts (instance_names (take i xs)))) (instance_names ds)))) (sym (drop-end xs i l))
      ∙ t.rest names mine h k

-- ---- rules of instances

pub conversions_are : (xs : List InstanceSpec) → flat_map conversion_of_instance xs ≡ flat_map name_of_conversion (instance_names xs)
conversions_are [] = refl
conversions_are (x ∷ xs) = ap (λ fs. name_of_conversion x.name ++ fs) (conversions_are xs)

-- ---- names that are lent

abbrev pub text_lent : Bor Name → List ℕ
text_lent n = n.now.text

pub texts_lent : (ns : List (Bor Name)) → map text_lent ns ≡ texts (names_of ns)
texts_lent [] = refl
texts_lent (n ∷ ns) = ap (λ ts. n.now.text ∷ ts) (texts_lent ns)
