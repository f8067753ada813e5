-- Names that pass a test, as they are lent and as they are written.
use Rattle.std.proofs.Common.{◌≡◌, ℕ, suc, Bool, true, false, List, [], ◌∷◌, map, length, refl, sym, ap, ◌∙◌}
use Rattle.std.specs.Prelude.{filter, cond}
use Rattle.st_unit_rules.specs.declared_names.Variables.{Written, is_parameter_written}
use Rattle.st_unit_rules.specs.declared.declaration_list.written.WrittenName.{WrittenName}
use Rattle.st_unit_rules.specs.declaration_list.Written.{written_of}

one_more : (w : WrittenName) (ws : List WrittenName) (b : Bool) → length (filter (λ x. is_parameter_written (written_of x)) ws) ≡ length (filter is_parameter_written (map written_of ws))
    → length (cond b (w ∷ filter (λ x. is_parameter_written (written_of x)) ws) (filter (λ x. is_parameter_written (written_of x)) ws))
    ≡ length (cond b (written_of w ∷ filter is_parameter_written (map written_of ws)) (filter is_parameter_written (map written_of ws)))
one_more w ws true h = ap (λ n. suc n) h
one_more w ws false h = h

pub filtered : (ws : List WrittenName) → length (filter (λ w. is_parameter_written (written_of w)) ws) ≡ length (filter is_parameter_written (map written_of ws))
filtered [] = refl
filtered (w ∷ ws) = one_more w ws (is_parameter_written (written_of w)) (filtered ws)
