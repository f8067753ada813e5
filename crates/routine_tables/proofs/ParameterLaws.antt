-- One variable more among the parameters.
use Rattle.std.proofs.Common.{◌≡◌, ℕ, suc, true, false, List, ◌∷◌, refl, ap}
use Rattle.std.specs.Prelude.{if◌then◌else◌}
use Rattle.st_tree.specs.declared.declaration.SectionSort.TheVariants as sort
use Rattle.st_values.specs.Program.{Variable, to_local, to_variable}
use Rattle.st_values.specs.View.{is_parameter, those, local_parameters, body_parameters}

pub is_local : (v : Variable) (rest : List Variable) (n : ℕ) → is_parameter v.sort ≡ true → local_parameters n (those is_parameter (v ∷ rest)) ≡ record { sort = v.sort; to = to_local n } ∷ local_parameters (suc n) (those is_parameter rest)
is_local v rest n e = ap (λ b. local_parameters n (if b then v ∷ those is_parameter rest else those is_parameter rest)) e

pub no_local : (v : Variable) (rest : List Variable) (n : ℕ) → is_parameter v.sort ≡ false → local_parameters n (those is_parameter (v ∷ rest)) ≡ local_parameters n (those is_parameter rest)
no_local v rest n e = ap (λ b. local_parameters n (if b then v ∷ those is_parameter rest else those is_parameter rest)) e

module _ (v : Variable) (rest : List Variable) (k l : ℕ) where
  pub body_input : v.sort ≡ sort.Input → body_parameters k l (v ∷ rest) ≡ record { sort = sort.Input; to = to_variable k } ∷ body_parameters (suc k) l rest
  body_input e = rw e refl

  pub body_output : v.sort ≡ sort.Output → body_parameters k l (v ∷ rest) ≡ record { sort = sort.Output; to = to_variable k } ∷ body_parameters (suc k) l rest
  body_output e = rw e refl

  pub body_in_out : v.sort ≡ sort.InOut → body_parameters k l (v ∷ rest) ≡ record { sort = sort.InOut; to = to_local l } ∷ body_parameters k (suc l) rest
  body_in_out e = rw e refl

  pub body_temp : v.sort ≡ sort.Temp → body_parameters k l (v ∷ rest) ≡ body_parameters k (suc l) rest
  body_temp e = rw e refl

  pub body_var : v.sort ≡ sort.Var → body_parameters k l (v ∷ rest) ≡ body_parameters (suc k) l rest
  body_var e = rw e refl

  pub body_external : v.sort ≡ sort.External → body_parameters k l (v ∷ rest) ≡ body_parameters (suc k) l rest
  body_external e = rw e refl

  pub body_global : v.sort ≡ sort.Global → body_parameters k l (v ∷ rest) ≡ body_parameters (suc k) l rest
  body_global e = rw e refl
