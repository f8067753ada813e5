-- Fields without a space are split at the spaces between them.
use Rattle.std.proofs.Common.{◌≡◌, ◌≢◌, ℕ, eqb, false, List, [], ◌∷◌, ◌++◌, refl, ap, arith}
use Rattle.std.proofs.lemmas.Bool.Decides.{nat_tests}
use Rattle.plc_text.specs.Fields.{first_field, behind_field}
use Rattle.plc_text.proofs.LineLaws.{HoldsNo}

differs : (a b : ℕ) → a ≢ b → eqb a b ≡ false
differs a b h = grind (arith, nat_tests)

pub first_field-space : (field rest : List ℕ) → HoldsNo 32 field → first_field (field ++ 32 ∷ rest) ≡ field
first_field-space [] rest h = refl
first_field-space (b ∷ field) rest h =
    let no = differs b 32 h.0 in
    rw no (ap (λ w. b ∷ w) (first_field-space field rest h.1))

pub behind_field-space : (field rest : List ℕ) → HoldsNo 32 field → behind_field (field ++ 32 ∷ rest) ≡ rest
behind_field-space [] rest h = refl
behind_field-space (b ∷ field) rest h =
    let no = differs b 32 h.0 in
    rw no (behind_field-space field rest h.1)

pub first_field-all : (field : List ℕ) → HoldsNo 32 field → first_field field ≡ field
first_field-all [] h = refl
first_field-all (b ∷ field) h =
    let no = differs b 32 h.0 in
    rw no (ap (λ w. b ∷ w) (first_field-all field h.1))

pub behind_field-all : (field : List ℕ) → HoldsNo 32 field → behind_field field ≡ []
behind_field-all [] h = refl
behind_field-all (b ∷ field) h =
    let no = differs b 32 h.0 in
    rw no (behind_field-all field h.1)
