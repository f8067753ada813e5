-- Settings one by one: those that were looked at are held, and the first fault of all is that which was found or that of those left.
use Rattle.std.proofs.Common.{◌≡◌, ℕ, ◌+◌, ◌<◌, ◌≤◌, Bool, List, [], ◌∷◌, ◌++◌, Option, None, length, get_or, take, drop, refl, sym, ap, ◌∙◌, subst}
use Rattle.std.specs.Prelude.{not, ◌||◌}
use Rattle.std.proofs.lemmas.List.{map-append}
use Rattle.plc_text.specs.declared.code.Code.{Code}
use Rattle.plc_text.specs.declared.code.Code.TheVariants.{E15}
use Rattle.st_tree.specs.declared.configuration.Setting.{Setting}
use Rattle.st_rules.specs.Faults.{earlier, least, when}
use Rattle.st_rules.proofs.FaultLaws.{earlier-assoc, earlier-none, least-append}
use Rattle.st_rules.proofs.ListLaws.{drop-at, take-at, drop-end}
use Rattle.st_unit_rules.specs.NameRules.{is_named}
use Rattle.st_unit_rules.specs.ConfigurationRules.{suits_setting, bad_setting, setting_past_its_limit, settings_faults}
use Rattle.check_names.specs.name_spaces.Held.{Holds}
use Rattle.check_configurations.specs.config_rules.Private.Names.{setting_names}

pub setting_next : (found bad past : Option (Code × ℕ)) (b : Bool) (before : List (List ℕ)) (x : Setting) (rest : List Setting) → b ≡ (not (suits_setting x.name.text x.value) || is_named x.name.text before)
    → bad ≡ least (when b E15 x.name.line) → past ≡ least (setting_past_its_limit x.line x.value)
    → earlier (earlier found (earlier bad past)) (least (settings_faults (before ++ x.name.text ∷ []) rest)) ≡ earlier found (least (settings_faults before (x ∷ rest)))
setting_next found bad past b before x rest e h k =
    let D = least (settings_faults (before ++ x.name.text ∷ []) rest) in
    sym (earlier-assoc found (earlier bad past) D)
    ∙ ap (λ y. earlier found (earlier y D)) (ap (λ y. earlier y past) (h ∙ ap (λ b. least (when b E15 x.name.line)) e) ∙ ap (earlier (least (bad_setting before x))) k ∙ sym (least-append (bad_setting before x) (setting_past_its_limit x.line x.value)))
    ∙ ap (earlier found) (sym (least-append (bad_setting before x ++ setting_past_its_limit x.line x.value) (settings_faults (before ++ x.name.text ∷ []) rest)))

-- so many settings were looked at
pub record SettingsTo (held : List (List ℕ)) (found : Option (Code × ℕ)) (xs : List Setting) (i : ℕ) : Type 0 where
  pub holds : Holds held (setting_names (take i xs))
  pub rest : earlier found (least (settings_faults (setting_names (take i xs)) (drop i xs))) ≡ least (settings_faults [] xs)

pub settings_begun : (held : List (List ℕ)) (xs : List Setting) → Holds held [] → SettingsTo held None xs 0
settings_begun held xs h = record { holds = h; rest = refl }

pub settings_next : (held held' : List (List ℕ)) (found found' : Option (Code × ℕ)) (xs : List Setting) (i : ℕ) (x : Setting) → i < length xs → x ≡ get_or xs i x
    → ((before : List (List ℕ)) (rest : List Setting) → Holds held before → Holds held' (before ++ x.name.text ∷ []) × (earlier found' (least (settings_faults (before ++ x.name.text ∷ []) rest)) ≡ earlier found (least (settings_faults before (x ∷ rest)))))
    → SettingsTo held found xs i → SettingsTo held' found' xs (i + 1)
settings_next held held' found found' xs i x l e step t =
    let names : setting_names (take (i + 1) xs) ≡ setting_names (take i xs) ++ x.name.text ∷ [] = ap setting_names (take-at xs i x l e) ∙ map-append (λ (y : Setting). y.name.text) (take i xs) (x ∷ []) in
    let s = step (setting_names (take i xs)) (drop (i + 1) xs) t.holds in
    record {
      holds = subst (λ (ns : List (List ℕ)). Holds held' ns) (sym names) (s.0);
      rest = ap (λ ns. earlier found' (least (settings_faults ns (drop (i + 1) xs)))) names ∙ s.1 ∙ ap (λ ds. earlier found (least (settings_faults (setting_names (take i xs)) ds))) (sym (drop-at xs i x l e)) ∙ t.rest;
    }

pub settings_ended : (held : List (List ℕ)) (found : Option (Code × ℕ)) (xs : List Setting) (i : ℕ) → length xs ≤ i → SettingsTo held found xs i → found ≡ least (settings_faults [] xs)
settings_ended held found xs i l t = sym (earlier-none found) ∙ ap (λ ds. earlier found (least (settings_faults (setting_names (take i xs)) ds))) (sym (drop-end xs i l)) ∙ t.rest
