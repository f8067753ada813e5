-- FOR without its body: its parts one behind the other.
use Rattle.std.proofs.Common.{◌≡◌, ℕ, suc, ◌+◌, pos, List, [], ◌∷◌, ◌++◌, length, Option, ap, ◌∙◌, arith, append_assoc, length-append}
use Rattle.st_tree.specs.declared.program.Note.{Note}
use Rattle.st_tree.specs.Expression.{Expression}
use Rattle.stack_code.specs.declared.op.Op.{Op}
use Rattle.stack_code.specs.declared.op.Op.TheVariants as op
use Rattle.code_cells.specs.declared.cell.Cell.{Cell}
use Rattle.code_cells.specs.declared.cell.Cell.TheVariants.{Does as does, Skips as skips, SkipsAt0 as skips_at_0}
use Rattle.code_rules.specs.Plan.{Plan}
use Rattle.code_rules.specs.Code.{value_code}
use Rattle.code_rules.specs.Bodies.{advance_code, step_code, within_code}
use Rattle.codegen_parts.proofs.CodeLaws.{two}
use Rattle.codegen_body.specs.declared.counting.CountKinds.{CountKinds}
use Rattle.codegen_body.specs.Counting.{compared_code, head_code, kept_code, raised_code, stored_code}

module _ (line free : ℕ) (k : CountKinds) (place : List Cell) where
  abbrev sign : ℕ → ℕ → List Cell
  sign step past = does (op.Local step) line ∷ (does (op.Load k.step) line ∷ (does (op.Push (pos 0)) line ∷ (does op.Lt line ∷ (skips_at_0 past line ∷ []))))

  abbrev test : Op → List Cell
  test o = compared_code line free k.variable k.end place o

  pub within_goes : (c0 c1 c2 c3 c4 : List Cell) (step long past beyond : ℕ) → step ≡ free + 8 → long ≡ length place → past ≡ long + 4 → beyond ≡ past + 1
      → c1 ≡ c0 ++ (does (op.Local step) line ∷ (does (op.Load k.step) line ∷ (does (op.Push (pos 0)) line ∷ (does op.Lt line ∷ (skips_at_0 beyond line ∷ [])))))
      → c2 ≡ c1 ++ compared_code line free k.variable k.end place op.Ge → c3 ≡ c2 ++ skips past line ∷ [] → c4 ≡ c3 ++ compared_code line free k.variable k.end place op.Le
      → c4 ≡ c0 ++ within_code line free k.variable k.end k.step place
  within_goes c0 c1 c2 c3 c4 step long past beyond s l p b h1 h2 h3 h4 =
      let ge : length (test op.Ge) ≡ length place + 4 = length-append place (does (op.Load k.variable) line ∷ (does (op.Local free) line ∷ (does (op.Load k.end) line ∷ (does op.Ge line ∷ [])))) in
      let le : length (test op.Le) ≡ length place + 4 = length-append place (does (op.Load k.variable) line ∷ (does (op.Local free) line ∷ (does (op.Load k.end) line ∷ (does op.Le line ∷ [])))) in
      let past_is : past ≡ length (test op.Le) = omega (arith, le, p, l) in
      let beyond_is : beyond ≡ suc (length (test op.Ge)) = omega (arith, ge, b, p, l) in
      two c0 c1 c4 (sign step beyond) (test op.Ge ++ (skips past line ∷ test op.Le)) h1 (two c1 c2 c4 (test op.Ge) (skips past line ∷ test op.Le) h2 (two c2 c3 c4 (skips past line ∷ []) (test op.Le) h3 h4))
      ∙ ap (λ n. c0 ++ (sign n beyond ++ (test op.Ge ++ (skips past line ∷ test op.Le)))) s
      ∙ ap (λ n. c0 ++ (sign (free + 8) n ++ (test op.Ge ++ (skips past line ∷ test op.Le)))) beyond_is
      ∙ ap (λ n. c0 ++ (sign (free + 8) (suc (length (test op.Ge))) ++ (test op.Ge ++ (skips n line ∷ test op.Le)))) past_is

  abbrev stored : List Cell
  stored = stored_code line k.variable place

  pub advance_goes : (c0 c1 c2 c3 c4 c5 : List Cell) (step long past : ℕ) → step ≡ free + 8 → long ≡ length place → past ≡ long + 2 → c1 ≡ c0 ++ raised_code line step k.variable k.step place → c2 ≡ c1 ++ skips_at_0 past line ∷ []
      → c3 ≡ c2 ++ stored_code line k.variable place → c4 ≡ c3 ++ skips past line ∷ [] → c5 ≡ c4 ++ stored_code line k.variable place → c5 ≡ c0 ++ advance_code line free k.variable k.step place
  advance_goes c0 c1 c2 c3 c4 c5 step long past s l p h1 h2 h3 h4 h5 =
      let past_is : past ≡ length place + 2 = p ∙ ap (λ n. n + 2) l in
      let sum : ℕ → List Cell = λ n. does (op.Load k.variable) line ∷ (does (op.Local n) line ∷ (does (op.Load k.step) line ∷ (does (op.AddC k.variable) line ∷ []))) in
      let rest : ℕ → List Cell = λ n. skips_at_0 n line ∷ (place ++ (does (op.Store k.variable) line ∷ (skips n line ∷ stored))) in
      two c0 c1 c5 (place ++ sum step) (skips_at_0 past line ∷ (stored ++ (skips past line ∷ stored))) h1
      (two c1 c2 c5 (skips_at_0 past line ∷ []) (stored ++ (skips past line ∷ stored)) h2 (two c2 c3 c5 stored (skips past line ∷ stored) h3 (two c3 c4 c5 (skips past line ∷ []) stored h4 h5)))
      ∙ ap (λ y. c0 ++ y) (append_assoc place (sum step) (skips_at_0 past line ∷ (stored ++ (skips past line ∷ stored)))
      ∙ ap (λ y. place ++ (sum step ++ (skips_at_0 past line ∷ y))) (append_assoc place (does (op.Store k.variable) line ∷ []) (skips past line ∷ stored))
      ∙ ap (λ n. place ++ (sum n ++ rest past)) s ∙ ap (λ n. place ++ (sum (free + 8) ++ rest n)) past_is)

pub head_goes : (w : Plan) (line free : ℕ) (k : CountKinds) (place : List Cell) (from to : Expression Note) (by : Option (Expression Note)) (c0 c1 c2 c3 c4 c5 c6 : List Cell) (step : ℕ) → step ≡ free + 8
    → c1 ≡ c0 ++ value_code w line free from → c2 ≡ c1 ++ value_code w line free to → c3 ≡ c2 ++ kept_code line free k.end → c4 ≡ c3 ++ step_code w line step by → c5 ≡ c4 ++ kept_code line step k.step
    → c6 ≡ c5 ++ stored_code line k.variable place → c6 ≡ c0 ++ head_code w line free k place from to by
head_goes w line free k place from to by c0 c1 c2 c3 c4 c5 c6 step s h1 h2 h3 h4 h5 h6 =
    let behind : ℕ → List Cell = λ n. step_code w line n by ++ (kept_code line n k.step ++ stored_code line k.variable place) in
    two c0 c1 c6 _ (value_code w line free to ++ (kept_code line free k.end ++ behind step)) h1
    (two c1 c2 c6 _ (kept_code line free k.end ++ behind step) h2 (two c2 c3 c6 _ (behind step) h3 (two c3 c4 c6 _ (kept_code line step k.step ++ stored_code line k.variable place) h4 (two c4 c5 c6 _ (stored_code line k.variable place) h5 h6))))
    ∙ ap (λ n. c0 ++ (value_code w line free from ++ (value_code w line free to ++ (kept_code line free k.end ++ behind n)))) s
