-- Lines that are written, and those that are left.
use Rattle.std.proofs.Common.{◌≡◌, ◌+◌, ℕ, suc, List, [], ◌∷◌, ◌++◌, Option, refl, sym, ap, ◌∙◌, length, map, arith, append_assoc, append-nil, add-one}
use Rattle.std.specs.Prelude.{codes, Vec}
use Rattle.std.specs.declared.alloc.Global.{Global}
use Rattle.plc_text.specs.Lines.{text_of, ended}
use Rattle.st_tree.specs.declared.program.RegionDecl.{RegionDecl}
use Rattle.st_tree.specs.declared.program.TaskDecl.{TaskDecl}
use Rattle.st_values.specs.Program.{Program}
use Rattle.st_values.specs.Shape.{region_shape}
use Rattle.st_values.specs.View.{region_of}
use Rattle.shape_trees.specs.declared.shape.Shape.{Shape as CodeShape}
use Rattle.shape_trees.specs.Unfolding.{AreShapes, shape_in}
use Rattle.list_report.specs.Listed.{values_at, region_line, region_lines, name_at, names_at, task_line, task_lines, lists}

nothing : {A : Type 0} (xs : List A) → length xs ≡ 0 → xs ≡ []
nothing [] e = refl
nothing (x ∷ xs) e = absurd (omega arith)

-- one more line
line_next : (text text' line : List ℕ) (lines : List (List ℕ)) (whole : List ℕ) → text' ≡ text ++ ended line → text ++ text_of (line ∷ lines) ≡ whole → text' ++ text_of lines ≡ whole
line_next text text' line lines whole e w = ap (λ t. t ++ text_of lines) e ∙ append_assoc text (ended line) (text_of lines) ∙ w

pub regions_next : (p : Program) (shapes : List (Option CodeShape)) (r n values : ℕ) (ls qs : List RegionDecl) (x : RegionDecl) (text text' whole : List ℕ) → AreShapes p shapes → ls ≡ x ∷ qs
    → values ≡ values_at (shape_in shapes r) → text' ≡ text ++ ended (region_line (region_of x) values) → n ≡ r + 1 → text ++ text_of (region_lines p r (map region_of ls)) ≡ whole → text' ++ text_of (region_lines p n (map region_of qs)) ≡ whole
regions_next p shapes r n values ls qs x text text' whole are e v t k w =
    let same : text' ≡ text ++ ended (region_line (region_of x) (values_at (region_shape p r))) = t ∙ ap (λ m. text ++ ended (region_line (region_of x) m)) (v ∙ ap values_at (are.by r)) in
    ap (λ m. text' ++ text_of (region_lines p m (map region_of qs))) (k ∙ add-one r)
    ∙ line_next text text' (region_line (region_of x) (values_at (region_shape p r))) (region_lines p (suc r) (map region_of qs)) whole same (sym (ap (λ ys. text ++ text_of (region_lines p r (map region_of ys))) e) ∙ w)

pub regions_end : (p : Program) (r : ℕ) (ls : List RegionDecl) (text whole : List ℕ) → length ls ≡ 0 → text ++ text_of (region_lines p r (map region_of ls)) ≡ whole → text ≡ whole
regions_end p r ls text whole e w = sym (append-nil text) ∙ sym (ap (λ ys. text ++ text_of (region_lines p r (map region_of ys))) (nothing ls e)) ∙ w

pub names_next : (p : Program) (r : ℕ) (rs qs : List ℕ) (text one text' whole : List ℕ) → rs ≡ r ∷ qs → one ≡ text ++ codes " " → text' ≡ one ++ name_at p r → text ++ names_at p rs ≡ whole → text' ++ names_at p qs ≡ whole
names_next p r rs qs text one text' whole e o t w =
    ap (λ x. x ++ names_at p qs) (t ∙ ap (λ x. x ++ name_at p r) o)
    ∙ append_assoc (text ++ codes " ") (name_at p r) (names_at p qs)
    ∙ append_assoc text (codes " ") (name_at p r ++ names_at p qs)
    ∙ ap (λ x. text ++ x) (sym (append_assoc (codes " ") (name_at p r) (names_at p qs)))
    ∙ sym (ap (λ ys. text ++ names_at p ys) e)
    ∙ w

pub names_end : (p : Program) (rs : List ℕ) (text whole : List ℕ) → length rs ≡ 0 → text ++ names_at p rs ≡ whole → text ≡ whole
names_end p rs text whole e w = sym (append-nil text) ∙ sym (ap (λ ys. text ++ names_at p ys) (nothing rs e)) ∙ w

pub tasks_next : (p : Program) (ts us : List TaskDecl) (t : TaskDecl) (fss gss : List (Vec ℕ Global)) (fs : Vec ℕ Global) (footprint text text' whole : List ℕ) → ts ≡ t ∷ us → fss ≡ fs ∷ gss → footprint ≡ fs.items
    → text' ≡ text ++ ended (task_line p t footprint) → text ++ text_of (task_lines p ts (lists fss)) ≡ whole → text' ++ text_of (task_lines p us (lists gss)) ≡ whole
tasks_next p ts us t fss gss fs footprint text text' whole e f i k w =
    line_next text text' (task_line p t fs.items) (task_lines p us (lists gss)) whole (k ∙ ap (λ x. text ++ ended (task_line p t x)) i)
    (sym (ap (λ ys. text ++ text_of (task_lines p ys (lists fss))) e ∙ ap (λ gs. text ++ text_of (task_lines p (t ∷ us) (lists gs))) f) ∙ w)

pub tasks_end : (p : Program) (ts : List TaskDecl) (fss : List (Vec ℕ Global)) (text whole : List ℕ) → length ts ≡ 0 → text ++ text_of (task_lines p ts (lists fss)) ≡ whole → text ≡ whole
tasks_end p ts fss text whole e w = sym (append-nil text) ∙ sym (ap (λ ys. text ++ text_of (task_lines p ys (lists fss))) (nothing ts e)) ∙ w

no_line : (p : Program) (ts : List TaskDecl) → task_lines p ts [] ≡ []
no_line p [] = refl
no_line p (t ∷ ts) = refl

pub tasks_short : (p : Program) (ts : List TaskDecl) (fss : List (Vec ℕ Global)) (text whole : List ℕ) → length fss ≡ 0 → text ++ text_of (task_lines p ts (lists fss)) ≡ whole → text ≡ whole
tasks_short p ts fss text whole e w = sym (append-nil text) ∙ sym (ap (λ gs. text ++ text_of (task_lines p ts (lists gs))) (nothing fss e) ∙ ap (λ ls. text ++ text_of ls) (no_line p ts)) ∙ w
