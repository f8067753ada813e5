-- What is given, arm by arm.
use Rattle.std.proofs.Common.{◌≡◌, ℕ, ◌+◌, ◌-◌, ◌<◌, ◌^◌, true, false, List, [], ◌∷◌, ◌++◌, Option, Some, None, map, refl, sym, ap, ◌∙◌, arith}
use Rattle.std.specs.Prelude.{min, SomeIff, unwrap_or, if◌then◌else◌}
use Rattle.plc_text.specs.Words.{same}
use Rattle.st_tree.specs.declared.expression.Expr.{Expr}
use Rattle.st_tree.specs.declared.initial.Init.{Init}
use Rattle.st_tree.specs.declared.initial.Init.TheVariants as code
use Rattle.st_tree.specs.declared.initial.Part.{Part as CodePart}
use Rattle.st_tree.specs.declared.initial.Part.TheVariants as part
use Rattle.st_tree.specs.declared.initial.FieldInit.{FieldInit}
use Rattle.st_tree.specs.Initial.{Initial, Part, initial_of, part_of, parts_of, fields_of, field_of, initial_of-Value, initial_of-Array, initial_of-Fields, part_of-One, part_of-Repeated, field_of-name, field_of-value}
use Rattle.st_tree.specs.Number.{number_of}
use Rattle.st_unit_rules.specs.Initials.{part_count}
use Rattle.st_unit_rules.specs.Worth.{list_given, parts_listed, given_for, given_named}
use Rattle.default_values.specs.given_values.Lists.{given_by, rooms}

pub array_parts : (i : Init ℕ) (l : ℕ) (ps rs : List (CodePart ℕ)) → i ≡ code.Array l ps → rs ≡ ps → list_given (Some (initial_of i)) ≡ parts_listed (parts_of rs)
array_parts i l ps rs e r = ap (λ x. list_given (Some x)) (ap initial_of e ∙ initial_of-Array l ps) ∙ ap (λ x. parts_listed (parts_of x)) (sym r)

pub value_parts : (i : Init ℕ) (x : Expr ℕ) → i ≡ code.Value x → list_given (Some (initial_of i)) ≡ []
value_parts i x e = ap (λ y. list_given (Some y)) (ap initial_of e ∙ initial_of-Value x)

pub fields_parts : (i : Init ℕ) (l : ℕ) (fs : List (FieldInit ℕ)) → i ≡ code.Fields l fs → list_given (Some (initial_of i)) ≡ []
fields_parts i l fs e = ap (λ y. list_given (Some y)) (ap initial_of e ∙ initial_of-Fields l fs)

pub fields_fields : (i : Init ℕ) (l : ℕ) (fs rs : List (FieldInit ℕ)) → i ≡ code.Fields l fs → rs ≡ fs → (name : List ℕ) → given_for name (Some (initial_of i)) ≡ given_named name (fields_of rs)
fields_fields i l fs rs e r name = ap (λ x. given_for name (Some x)) (ap initial_of e ∙ initial_of-Fields l fs) ∙ ap (λ x. given_named name (fields_of x)) (sym r)

pub value_fields : (i : Init ℕ) (x : Expr ℕ) → i ≡ code.Value x → (name : List ℕ) → given_for name (Some (initial_of i)) ≡ None
value_fields i x e name = ap (λ y. given_for name (Some y)) (ap initial_of e ∙ initial_of-Value x)

pub array_fields : (i : Init ℕ) (l : ℕ) (ps : List (CodePart ℕ)) → i ≡ code.Array l ps → (name : List ℕ) → given_for name (Some (initial_of i)) ≡ None
array_fields i l ps e name = ap (λ y. given_for name (Some y)) (ap initial_of e ∙ initial_of-Array l ps)

pub one_value : (p : CodePart ℕ) (i : Init ℕ) → p ≡ part.One i → initial_of i ≡ given_by (part_of p)
one_value p i e = sym (ap given_by (ap part_of e ∙ part_of-One i))

pub repeated_value : (p : CodePart ℕ) (l : ℕ) (digits : List ℕ) (i : Init ℕ) → p ≡ part.Repeated l digits i → initial_of i ≡ given_by (part_of p)
repeated_value p l digits i e = sym (ap given_by (ap part_of e ∙ part_of-Repeated l digits i))

pub one_time : (p : CodePart ℕ) (i : Init ℕ) → p ≡ part.One i → (n : ℕ) → n < 2 ^ 128 → min 1 n ≡ min (part_count (part_of p)) n
one_time p i e n h = ap (λ x. min x n) (sym (ap part_count (ap part_of e ∙ part_of-One i)))

capped : (o : Option ℕ) (x n : ℕ) → SomeIff o (x < 2 ^ 128) x → n < 2 ^ 128 → min (unwrap_or o 340282366920938463463374607431768211455) n ≡ min x n
capped None x n f h = let g : 340282366920938463463374607431768211456 < x + 1 = by_not in omega (arith, g, h)
  where
    by_not : 340282366920938463463374607431768211456 < x + 1
    by_not = omega (arith, f)
capped (Some v) x n f h = ap (λ y. min y n) f.1

pub many_times : (p : CodePart ℕ) (l : ℕ) (digits : List ℕ) (i : Init ℕ) (o : Option ℕ) → p ≡ part.Repeated l digits i → SomeIff o (number_of digits < 2 ^ 128) (number_of digits)
    → (n : ℕ) → n < 2 ^ 128 → min (unwrap_or o 340282366920938463463374607431768211455) n ≡ min (part_count (part_of p)) n
many_times p l digits i o e f n h = capped o (number_of digits) n f h ∙ ap (λ x. min x n) (sym (ap part_count (ap part_of e ∙ part_of-Repeated l digits i)))

-- ---- values for names

module _ (name : List ℕ) (x : FieldInit ℕ) (xs all : List (FieldInit ℕ)) where
  named_next : given_named name (fields_of (x ∷ xs)) ≡ (if same x.name name then Some (initial_of x.value) else given_named name (fields_of xs))
  named_next = λ i. if same (field_of-name x i) name then Some (field_of-value x i) else given_named name (fields_of xs)

  pub named_here : same x.name name ≡ true → given_named name (fields_of (x ∷ xs)) ≡ Some (initial_of x.value)
  named_here t = named_next ∙ ap (λ b. if b then Some (initial_of x.value) else given_named name (fields_of xs)) t

  pub named_behind : same x.name name ≡ false → given_named name (fields_of (x ∷ xs)) ≡ given_named name (fields_of xs)
  named_behind f = named_next ∙ ap (λ b. if b then Some (initial_of x.value) else given_named name (fields_of xs)) f

module _ (name : List ℕ) (x : FieldInit ℕ) (xs left all : List (FieldInit ℕ)) (parts : left ≡ x ∷ xs) (so_far : given_named name (fields_of left) ≡ given_named name (fields_of all)) where
  pub found_here : (v : Init ℕ) → v ≡ x.value → same x.name name ≡ true → Some (initial_of v) ≡ given_named name (fields_of all)
  found_here v e t = ap (λ i. Some (initial_of i)) e ∙ sym (named_here name x xs all t) ∙ sym (ap (λ l. given_named name (fields_of l)) parts) ∙ so_far

  pub sought_behind : same x.name name ≡ false → given_named name (fields_of xs) ≡ given_named name (fields_of all)
  sought_behind f = sym (named_behind name x xs all f) ∙ sym (ap (λ l. given_named name (fields_of l)) parts) ∙ so_far

-- ---- rooms

pub next_room : (before : List ℕ) (room used : ℕ) (p : CodePart ℕ) (ps : List (CodePart ℕ)) (all : List ℕ) → used ≡ min (part_count (part_of p)) room
    → before ++ rooms room (map part_of (p ∷ ps)) ≡ all → (before ++ room ∷ []) ++ rooms (room - used) (map part_of ps) ≡ all
next_room before room used p ps all u e =
    let d : room - used ≡ room - part_count (part_of p) = omega (arith, u) in
    grouped before room (rooms (room - used) (map part_of ps)) ∙ ap (λ r. before ++ room ∷ rooms r (map part_of ps)) d ∙ e
  where
    grouped : (xs : List ℕ) (y : ℕ) (ys : List ℕ) → (xs ++ y ∷ []) ++ ys ≡ xs ++ y ∷ ys
    grouped [] y ys = refl
    grouped (x ∷ xs) y ys = ap (λ zs. x ∷ zs) (grouped xs y ys)
