-- One selector more, and whole places.
use Rattle.std.proofs.Common.{◌≡◌, ℕ, Bool, false, List, [], ◌∷◌, ◌++◌, Option, None, refl, sym, ap, ◌∙◌, map}
use Rattle.std.specs.Prelude.{option_and_then}
use Rattle.plc_text.specs.declared.code.Code.{Code}
use Rattle.st_tree.specs.declared.expression.Root.{Root}
use Rattle.st_tree.specs.declared.program.Note.{Note}
use Rattle.st_tree.specs.declared.program.Target.TheVariants.{Nothing}
use Rattle.st_tree.specs.Expression.{Selector, Field, Index, Selectors, no_selectors, selector_then, selector_of, selectors, selectors_of, place_of, expression_of, expressions_of}
use Rattle.st_tree.specs.Expression as tree
use Rattle.st_rules.specs.declared.asked.Asked.{Asked}
use Rattle.st_rules.specs.Faults.{Faults, least, earlier}
use Rattle.st_rules.specs.Scope.{Scope}
use Rattle.st_rules.specs.Places as places
use Rattle.st_rules.specs.Places.{is_last, root_line, root_faults, root_standing, selected, selector_faults, whole_faults, place_type}
use Rattle.st_rules.specs.Expressions.{note, whole_target, reference_to, reference_to_no_instance, along_faults, typed_root, typed_along, selector_index_faults, typed_selector, standing_note}
use Rattle.st_rules.proofs.FaultLaws.{earlier-none}
use Rattle.check_places.specs.declared.standing.Standing.{Standing}
use Rattle.check_places.specs.Standing.{standing}
use Rattle.check_nodes.specs.declared.along.Along.{Along}
use Rattle.check_nodes.specs.declared.along.CheckedSelector.{CheckedSelector}
use Rattle.check_nodes.specs.declared.found.Checked.{Checked}
use Rattle.check_nodes.specs.declared.lists.Indices.{Indices}
use Rattle.check_nodes.specs.declared.wholes.CheckedPlace.{CheckedPlace}
use Rattle.check_nodes.specs.Along.{Starts, Extends, IsField, IsIndex, IsTarget}
use Rattle.check_nodes.specs.Found.{Checks}
use Rattle.check_nodes.specs.Wholes.{root_part, Wholes, Refers}
use Rattle.check_nodes.specs.Wholes as wholes
use Rattle.st_check_expr.specs.Walk.{PlaceFinds}
use Rattle.st_check_expr.specs.Private.Along.{SelectorFinds, AlongGoes, AlongFinds, along_rest, selectors_onto}
use Rattle.st_check_expr.specs.Private.Lists.{IndicesFind}
use Rattle.st_check_expr.proofs.Parts.{both, two_parts, joined}

pub selectors_append : (xs ys : List (Selector Note)) (rest : Selectors Note) → selectors_onto (xs ++ ys) rest ≡ selectors_onto xs (selectors_onto ys rest)
selectors_append [] ys rest = refl
selectors_append (x ∷ xs) ys rest = ap (selector_then x) (selectors_append xs ys rest)

pub selectors_nothing : (xs : List (Selector Note)) → selectors_onto xs no_selectors ≡ selectors xs
selectors_nothing [] = refl
selectors_nothing (x ∷ xs) = ap (selector_then x) (selectors_nothing xs)

module _ (s : Scope) (line : ℕ) (here : Bool) (before x : Along) (next : Standing) (one : CheckedSelector) (sel : Selector ℕ)
    (e : Extends x before next one) (n : standing next ≡ selected s (standing before.standing) sel) (f : SelectorFinds one s line here (standing before.standing) sel) where
  abbrev b : places.Standing
  b = standing before.standing

  abbrev own : Bool → Faults
  own h = selector_faults s line h b sel ++ selector_index_faults s sel

  pub along_goes : AlongGoes s line here before x sel
  unfolding along_rest
  along_goes = record {
    whole = λ called ss h. both
        (ap (λ r. earlier r (least (along_faults s line called (standing x.standing) ss))) (e.least ∙ ap (earlier before.least) f.broken)
        ∙ ap (λ (t : places.Standing). earlier (earlier before.least (least (own here))) (least (along_faults s line called t ss))) (e.standing_is ∙ n)
        ∙ sym (two_parts before.least (own here) (along_faults s line called (selected s b sel) ss))
        ∙ ap (λ l. earlier before.least (least (own l ++ along_faults s line called (selected s b sel) ss))) (sym h))
        (ap (λ xs. selectors_onto xs (typed_along s called (standing x.standing) ss)) (e.selectors ∙ ap (λ t. map selector_of before.selectors ++ t ∷ []) f.tree)
        ∙ selectors_append (map selector_of before.selectors) (typed_selector s here b sel ∷ []) (typed_along s called (standing x.standing) ss)
        ∙ ap (λ (t : places.Standing). selectors_onto (map selector_of before.selectors) (selector_then (typed_selector s here b sel) (typed_along s called t ss))) (e.standing_is ∙ n)
        ∙ ap (λ l. selectors_onto (map selector_of before.selectors) (selector_then (typed_selector s l b sel) (typed_along s called (selected s b sel) ss))) (sym h));
  }

-- ---- the selectors of a place

pub started_so : (s : Scope) (line : ℕ) (called : Bool) (x : Along) (b : Standing) (ss : Selectors ℕ) → Starts x b →
    along_rest s line called x ss ≡ ((least (along_faults s line called (standing b) ss)), (typed_along s called (standing b) ss))
unfolding along_rest
started_so s line called x b ss st = both
    (ap (λ r. earlier r (least (along_faults s line called (standing x.standing) ss))) st.least ∙ ap (λ (t : places.Standing). least (along_faults s line called t ss)) st.standing_is)
    (ap (λ xs. selectors_onto xs (typed_along s called (standing x.standing) ss)) st.selectors ∙ ap (λ (t : places.Standing). typed_along s called t ss) st.standing_is)

pub along_found : (s : Scope) (line : ℕ) (called : Bool) (x : Along) (b : places.Standing) (ss : Selectors ℕ) →
    along_rest s line called x no_selectors ≡ ((least (along_faults s line called b ss)), (typed_along s called b ss)) → AlongFinds x s line called b ss
unfolding along_rest
along_found s line called x b ss h = record {
  broken = sym (earlier-none x.least) ∙ ap (λ p. p.0) h;
  tree = sym (selectors_nothing (map selector_of x.selectors)) ∙ ap (λ p. p.1) h;
}

-- ---- one selector

pub field_finds : (c : CheckedSelector) (s : Scope) (line : ℕ) (called : Bool) (b : places.Standing) (own : Option (Code × ℕ)) (l : ℕ) (name : List ℕ) →
    IsField c s called b own l name → own ≡ least (selector_faults s line called b (Field l name)) → SelectorFinds c s line called b (Field l name)
field_finds c s line called b own l name f h = record { broken = joined c.least own None (selector_faults s line called b (Field l name)) [] (f.least ∙ sym (earlier-none own)) h refl; tree = f.tree }

pub target_finds : (c : CheckedSelector) (s : Scope) (line : ℕ) (called : Bool) (b : places.Standing) (next : Standing) (own : Option (Code × ℕ)) (l : ℕ) →
    IsTarget c s (standing next) own l → standing next ≡ selected s b (tree.Target l) → own ≡ least (selector_faults s line called b (tree.Target l)) → SelectorFinds c s line called b (tree.Target l)
target_finds c s line called b next own l f n h = record {
  broken = joined c.least own None (selector_faults s line called b (tree.Target l)) [] (f.least ∙ sym (earlier-none own)) h refl;
  tree = f.tree ∙ ap (λ (t : places.Standing). tree.Target (standing_note s l t)) n;
}

pub index_finds : (c : CheckedSelector) (s : Scope) (line : ℕ) (called : Bool) (b : places.Standing) (next : Standing) (own : Option (Code × ℕ)) (l : ℕ) (es : tree.Expressions ℕ) (xs : Indices) →
    IsIndex c s (standing next) own l xs → standing next ≡ selected s b (Index l es) → own ≡ least (selector_faults s line called b (Index l es)) → IndicesFind xs s es → SelectorFinds c s line called b (Index l es)
index_finds c s line called b next own l es xs f n h g = record {
  broken = joined c.least own xs.least (selector_faults s line called b (Index l es)) (selector_index_faults s (Index l es)) f.least h g.broken;
  tree = f.tree ∙ ap (λ (t : places.Standing). Index (standing_note s l t) (expressions_of xs.expressions)) n ∙ ap (λ ys. Index (standing_note s l (selected s b (Index l es))) ys) g.tree;
}

-- ---- places

pub place_finds : (x : CheckedPlace) (s : Scope) (called : Bool) (r : Root ℕ) (ss : Selectors ℕ) (of_root : Option (Code × ℕ)) (typed : Root Note) (along : Along) →
    wholes.Begins x of_root typed along → of_root ≡ least (root_part s called r ss) → typed ≡ typed_root s called r ss → AlongFinds along s (root_line r) called (root_standing s r ss) ss → PlaceFinds x s called r ss
place_finds x s called r ss of_root typed along b h t f = record {
  broken = joined x.least of_root along.least (root_part s called r ss) (along_faults s (root_line r) called (root_standing s r ss) ss) b.least h f.broken;
  tree = b.place ∙ both t f.tree;
}

pub place_checks : (c : Checked) (s : Scope) (asked : Asked) (l : ℕ) (r : Root ℕ) (ss : Selectors ℕ) (x : CheckedPlace) → Wholes c s l r ss x → PlaceFinds x s false r ss → Checks c s asked (tree.Place l r ss)
place_checks c s asked l r ss x w f = record {
  told = w.told;
  least = joined c.least x.least (least (whole_faults s r ss)) (root_part s false r ss ++ along_faults s (root_line r) false (root_standing s r ss) ss) (whole_faults s r ss) w.least f.broken refl;
  tree = w.tree ∙ ap (λ (p : Root Note × Selectors Note). tree.Place (note l (place_type s r ss) (whole_target s r ss)) p.0 p.1) f.tree;
}

pub ref_checks : (c : Checked) (s : Scope) (asked : Asked) (l : ℕ) (r : Root ℕ) (ss : Selectors ℕ) (x : CheckedPlace) → Refers c s l r ss x → PlaceFinds x s false r ss → Checks c s asked (tree.Ref l r ss)
ref_checks c s asked l r ss x w f = record {
  told = w.told;
  least = joined c.least (earlier x.least (least (whole_faults s r ss))) (least (reference_to_no_instance (root_line r) (place_type s r ss))) (root_part s false r ss ++ along_faults s (root_line r) false (root_standing s r ss) ss ++ whole_faults s r ss) (reference_to_no_instance (root_line r) (place_type s r ss)) w.least
      (joined _ x.least (least (whole_faults s r ss)) (root_part s false r ss ++ along_faults s (root_line r) false (root_standing s r ss) ss) (whole_faults s r ss) refl f.broken refl) refl;
  tree = w.tree ∙ ap (λ (p : Root Note × Selectors Note). tree.Ref (note l (option_and_then reference_to (place_type s r ss)) Nothing) p.0 p.1) f.tree;
}
