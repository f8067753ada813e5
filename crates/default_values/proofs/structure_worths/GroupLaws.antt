-- The fields of a structure, group by group.
use Rattle.std.proofs.Common.{Bor, ◌≡◌, ℕ, ◌+◌, ◌<◌, ◌≤◌, List, [], ◌∷◌, ◌++◌, Option, Some, None, map, take, length, get_or, refl, sym, ap, ◌∙◌, subst, arith}
use Rattle.std.specs.Prelude.{option_map}
use Rattle.std.specs.Option.{option_copied}
use Rattle.st_types.specs.declared.st_type.StType.{StType}
use Rattle.st_tree.specs.declared.declaration.FieldGroup.{FieldGroup}
use Rattle.st_tree.specs.declared.declaration.TypeDecl.{TypeDecl}
use Rattle.st_tree.specs.declared.initial.Init.{Init}
use Rattle.st_tree.specs.Initial.{Initial, initial_of}
use Rattle.default_values.specs.given_values.Lent.{lent}
use Rattle.st_rules.specs.Scope.{Scope}
use Rattle.st_rules.proofs.ListLaws.{take-at}
use Rattle.st_unit_rules.specs.declared_names.WrittenTypes.{type_written}
use Rattle.st_unit_rules.specs.Worth.{Worth, typed_worth, worth_within}
use Rattle.default_values.specs.declared.worth_numbers.node.Node.{Node}
use Rattle.default_values.specs.worth_numbers.Numbers.{Grows}
use Rattle.default_values.proofs.worth_numbers.TableLaws.{grows_self, grows_through}
use Rattle.default_values.specs.declared.initial_worths.structures.Group.{Group}
use Rattle.default_values.specs.declared.initial_worths.structures.Structure.{Structure}
use Rattle.default_values.specs.initial_worths.Structures.{IsTold, IsGroup, IsNamed, AreGroups, AreStructures}
use Rattle.default_values.specs.initial_worths.Found.{Finds}
use Rattle.default_values.proofs.initial_worths.PutLaws.{told_stays, groups_stay, structures_stay}
use Rattle.default_values.specs.structure_worths.Unweighed.{AreKinds}
use Rattle.default_values.specs.structure_worths.Private.Groups.{WeighsGroup, WeighsGroups}

-- what is lent of an initial value
pub lent_as : (o : Option (Bor (Init ℕ))) (i : Option (Init ℕ)) → option_copied o ≡ i → lent o ≡ option_map initial_of i
lent_as None i e = ap (option_map initial_of) e
lent_as (Some b) i e = ap (option_map initial_of) e

-- ---- one group

pub kind_weighed : (old new : List Node) (xs : List Structure) (unit : Scope) (steps : ℕ) (x : Group) (t : StType) (i : Option (Initial ℕ)) (w : Option ℕ) → x.kind ≡ Some t → i ≡ option_map initial_of x.declared.now.initial
    → Finds old new xs steps w (λ u e. worth_within u e steps unit t i) → WeighsGroup old new xs unit steps x w
kind_weighed old new xs unit steps x t i w q v h = record {
  grows = h.grows;
  told = λ e a m. subst (λ (o : Option Worth). IsTold new w o) (λ k. typed_worth unit e (worth_within unit e steps) unit (sym q k) (v k)) (h.told unit e a m);
}

pub no_kind : (nodes : List Node) (xs : List Structure) (unit : Scope) (steps : ℕ) (x : Group) → x.kind ≡ None → WeighsGroup nodes nodes xs unit steps x None
no_kind nodes xs unit steps x q = record {
  grows = grows_self nodes;
  told = λ e a m. subst (λ (o : Option StType). IsTold nodes None (typed_worth unit e (worth_within unit e steps) unit o (option_map initial_of x.declared.now.initial))) (sym q) tt;
}

-- ---- group by group

declared_more : (ys : List Group) (y : Group) → map (λ (g : Group). g.declared.now) (ys ++ y ∷ []) ≡ map (λ (g : Group). g.declared.now) ys ++ y.declared.now ∷ []
declared_more [] y = refl
declared_more (z ∷ ys) y = ap (λ gs. z.declared.now ∷ gs) (declared_more ys y)

kinds_more : (unit : Scope) (ys : List Group) (y : Group) → AreKinds unit ys → y.kind ≡ type_written unit y.declared.now.kind → AreKinds unit (ys ++ y ∷ [])
kinds_more unit [] y h k = (k, tt)
kinds_more unit (z ∷ ys) y h k = (h.0, kinds_more unit ys y h.1 k)

kinds_front : (unit : Scope) (xs : List Group) (x : Group) → AreKinds unit (xs ++ x ∷ []) → AreKinds unit xs
kinds_front unit [] x h = tt
kinds_front unit (z ∷ xs) x h = (h.0, kinds_front unit xs x h.1)

kinds_last : (unit : Scope) (xs : List Group) (x : Group) → AreKinds unit (xs ++ x ∷ []) → x.kind ≡ type_written unit x.declared.now.kind
kinds_last unit [] x h = h.0
kinds_last unit (z ∷ xs) x h = kinds_last unit xs x h.1

groups_more : (nodes : List Node) (unit : Scope) (e : List (TypeDecl ℕ)) (k : ℕ) (ys : List Group) (y : Group) → AreGroups nodes unit e k ys → IsNamed nodes unit e k y → AreGroups nodes unit e k (ys ++ y ∷ [])
groups_more nodes unit e k [] y h n = (n, tt)
groups_more nodes unit e k (z ∷ ys) y h n = (h.0, groups_more nodes unit e k ys y h.1 n)

module _ (xs : List Structure) (unit : Scope) (steps : ℕ) where
  pub no_groups : (nodes : List Node) → WeighsGroups nodes nodes xs unit steps [] []
  no_groups nodes = record { grows = grows_self nodes; declared = refl; kinds = λ h. tt; groups = λ e a m h. tt }

  pub one_group : (old mid new : List Node) (gs : List Group) (x : Group) (ys : List Group) (y : Group) (w : Option ℕ) → WeighsGroups old mid xs unit steps gs ys → WeighsGroup mid new xs unit steps x w
      → y.declared.now ≡ x.declared.now → y.kind ≡ x.kind → y.worth ≡ w → WeighsGroups old new xs unit steps (gs ++ x ∷ []) (ys ++ y ∷ [])
  one_group old mid new gs x ys y w so_far h d k v = record {
    grows = grows_through old mid new so_far.grows h.grows;
    declared = declared_more ys y ∙ (λ i. so_far.declared i ++ d i ∷ []) ∙ sym (declared_more gs x);
    kinds = λ a. kinds_more unit ys y (so_far.kinds (kinds_front unit gs x a)) (kind_of a);
    groups = λ e a m b. groups_more new unit e steps ys y (groups_stay mid new h.grows unit e steps ys (so_far.groups e a m (kinds_front unit gs x b))) (λ some. record { kind = kind_of b; worth = worth_of e a m b });
  }
    where
      kind_of : AreKinds unit (gs ++ x ∷ []) → y.kind ≡ type_written unit y.declared.now.kind
      kind_of a = k ∙ kinds_last unit gs x a ∙ ap (λ (g : FieldGroup ℕ). type_written unit g.kind) (sym d)

      worth_of : (e : List (TypeDecl ℕ)) → AreStructures old unit e steps xs → steps ≤ 66 → AreKinds unit (gs ++ x ∷ [])
          → IsTold new y.worth (typed_worth unit e (worth_within unit e steps) unit (type_written unit y.declared.now.kind) (option_map initial_of y.declared.now.initial))
      worth_of e a m b =
          subst (λ (n : Option ℕ). IsTold new n (typed_worth unit e (worth_within unit e steps) unit (type_written unit y.declared.now.kind) (option_map initial_of y.declared.now.initial))) (sym v)
          (subst (λ (o : Option Worth). IsTold new w o) (λ i. typed_worth unit e (worth_within unit e steps) unit ((sym k ∙ kind_of b) i) (option_map initial_of (sym d i).initial))
          (h.told e (structures_stay old mid so_far.grows unit e steps xs a) m))

  pub groups_next : (old mid new : List Node) (gs : List Group) (i : ℕ) (x : Group) (ys zs : List Group) (y : Group) (w : Option ℕ) → i < length gs → x ≡ get_or gs i x → WeighsGroups old mid xs unit steps (take i gs) ys → WeighsGroup mid new xs unit steps x w
      → zs ≡ ys ++ y ∷ [] → y.declared.now ≡ x.declared.now → y.kind ≡ x.kind → y.worth ≡ w → WeighsGroups old new xs unit steps (take (i + 1) gs) zs
  groups_next old mid new gs i x ys zs y w l e h k p d t v =
      subst (λ (us : List Group). WeighsGroups old new xs unit steps us zs) (sym (take-at gs i x l e))
      (subst (λ (us : List Group). WeighsGroups old new xs unit steps (take i gs ++ x ∷ []) us) (sym p) (one_group old mid new (take i gs) x ys y w h k d t v))
