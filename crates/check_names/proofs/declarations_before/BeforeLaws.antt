-- One declaration more.
use Rattle.std.proofs.Common.{◌≡◌, ℕ, suc, ◌+◌, Bool, true, false, List, [], ◌∷◌, ◌++◌, Option, refl, sym, ap, ◌∙◌, arith}
use Rattle.std.specs.Prelude.{if◌then◌else◌, filter, length}
use Rattle.plc_text.specs.declared.code.Code.{Code}
use Rattle.st_rules.specs.Faults.{Faults, least, earlier}
use Rattle.st_rules.proofs.FaultLaws.{least-append}
use Rattle.st_unit_rules.specs.declared_names.Declarations.{Declaration, is_entry, is_interface, is_class, is_configuration}
use Rattle.check_names.specs.name_spaces.Held.{Holds}
use Rattle.check_names.specs.declared.declarations_before.before.Counts.{Counts}
use Rattle.check_names.specs.declared.declarations_before.before.DeclarationsBefore.{DeclarationsBefore}
use Rattle.check_names.specs.declarations_before.Before.{StandsBefore}
use Rattle.check_names.specs.declarations_before.Private.Counts.{CountsTo, one_if}

counted_end : (test : Declaration → Bool) (d : Declaration) (b : Bool) → length (if b then d ∷ [] else []) ≡ one_if b + 0
counted_end test d true = refl
counted_end test d false = refl

counted_here : (test : Declaration → Bool) (x d : Declaration) (xs ys : List Declaration) (n : ℕ) (b : Bool) → length ys ≡ n + length xs → length (if b then x ∷ ys else ys) ≡ n + length (if b then x ∷ xs else xs)
counted_here test x d xs ys n true h = omega (arith, h)
counted_here test x d xs ys n false h = h

-- how many pass the test, with one more
pub counted_more : (test : Declaration → Bool) (xs : List Declaration) (d : Declaration) → length (filter test (xs ++ d ∷ [])) ≡ one_if (test d) + length (filter test xs)
counted_more test [] d = counted_end test d (test d)
counted_more test (x ∷ xs) d = counted_here test x d (filter test xs) (filter test (xs ++ d ∷ [])) (one_if (test d)) (test x) (counted_more test xs d)

length_more : (xs : List Declaration) (d : Declaration) → length (xs ++ d ∷ []) ≡ length xs + 1
length_more [] d = refl
length_more (x ∷ xs) d = let h : length (xs ++ d ∷ []) ≡ length xs + 1 = length_more xs d in omega (arith, h)

one_counted : (test : Declaration → Bool) (earlier : List Declaration) (d : Declaration) (n o k : ℕ) → n ≡ k → k ≡ one_if (test d) + o → o ≡ length (filter test earlier) → n ≡ length (filter test (earlier ++ d ∷ []))
one_counted test earlier d n o k e f g = e ∙ f ∙ ap (λ m. one_if (test d) + m) g ∙ sym (counted_more test earlier d)

pub passes : (old new : DeclarationsBefore) (c : Counts) (d : Declaration) (earlier : List Declaration) (names more : List (List ℕ)) → Holds new.names more → new.count ≡ old.count + 1 → CountsTo c old d → new.entries ≡ c.entries → new.interfaces ≡ c.interfaces
    → new.classes ≡ c.classes → new.configurations ≡ c.configurations → StandsBefore old earlier names → StandsBefore new (earlier ++ d ∷ []) more
passes old new c d earlier names more h n w e i k f b = record {
  names = h;
  count = n ∙ ap (λ m. m + 1) b.count ∙ sym (length_more earlier d);
  entries = one_counted is_entry earlier d new.entries old.entries c.entries e w.entries b.entries;
  interfaces = one_counted is_interface earlier d new.interfaces old.interfaces c.interfaces i w.interfaces b.interfaces;
  classes = one_counted is_class earlier d new.classes old.classes c.classes k w.classes b.classes;
  configurations = one_counted is_configuration earlier d new.configurations old.configurations c.configurations f w.configurations b.configurations;
}

-- the least of four parts
pub least_four : (x y z w : Faults) (a b k m e f g : Option (Code × ℕ)) → a ≡ least x → b ≡ least y → k ≡ least z → m ≡ least w → e ≡ earlier a b → f ≡ earlier e k → g ≡ earlier f m → g ≡ least (((x ++ y) ++ z) ++ w)
least_four x y z w a b k m e f g ha hb hk hm he hf hg =
    hg ∙ ap (λ t. earlier t m) (hf ∙ ap (λ t. earlier t k) (he ∙ ap (λ t. earlier t b) ha ∙ ap (earlier (least x)) hb) ∙ ap (earlier (earlier (least x) (least y))) hk)
    ∙ ap (earlier (earlier (earlier (least x) (least y)) (least z))) hm
    ∙ sym (least-append ((x ++ y) ++ z) w ∙ ap (λ t. earlier t (least w)) (least-append (x ++ y) z ∙ ap (λ t. earlier t (least z)) (least-append x y)))
