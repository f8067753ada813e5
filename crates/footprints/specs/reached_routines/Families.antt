-- Classes and interfaces, to which classes conform.
use Rattle.std.specs.Prelude.{ℕ, Bool, true, false, ◌&&◌, if◌then◌else◌, Option, Some, None, nat_eq}
use Rattle.std.specs.Bool.{beq}
use Rattle.st_types.specs.declared.st_type.StType.{StType}
use Rattle.st_types.specs.declared.st_type.StType.TheVariants as type

-- a class or an interface: whether it is an interface, and its number
abbrev pub Family : Type 0
Family = Bool × ℕ

-- the class or interface of a type
abbrev pub family_of : StType → Option Family
family_of (type.Instance d) = Some (false, d)
family_of (type.Reference d) = Some (false, d)
family_of (type.Interface i) = Some (true, i)
family_of _ = None

abbrev pub kind_of : Family → StType
kind_of f = if f.0 then type.Interface f.1 else type.Instance f.1

abbrev pub same_family : Family → Family → Bool
same_family a b = beq a.0 b.0 && nat_eq a.1 b.1
