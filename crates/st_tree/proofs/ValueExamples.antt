-- Values by example.
use Rattle.std.proofs.Common.{◌≡◌, [], ◌∷◌, refl, codes}
use Rattle.st_tree.specs.Marks.{old_name}
use Rattle.st_tree.specs.declared.address.Area.TheVariants as area
use Rattle.st_tree.specs.declared.address.Width.TheVariants as width
use Rattle.st_tree.specs.declared.duration.TimeUnit.TheVariants.{Hour, Millisecond}
use Rattle.st_tree.specs.Number.{number_of}
use Rattle.st_tree.specs.Duration.{parts_of, milliseconds}
use Rattle.st_tree.specs.Address.{area_of, width_of, index_of, bit_of}

number-1 : number_of (codes "02") ≡ 2
number-1 = refl

number-2 : number_of (codes "1_000") ≡ 1000
number-2 = refl

number-3 : number_of (codes "2#1_01") ≡ 5
number-3 = refl

number-4 : number_of (codes "8#17") ≡ 15
number-4 = refl

number-5 : number_of (codes "16#fF_0") ≡ 4080
number-5 = refl

time-1 : milliseconds (codes "T#1d2h3m4s5ms") ≡ 93784005
time-1 = refl

time-2 : milliseconds (codes "time#5Ms") ≡ 5
time-2 = refl

time-3 : milliseconds (codes "T#1m_2s") ≡ 62000
time-3 = refl

time-4 : milliseconds (codes "t#2m7ms") ≡ 120007
time-4 = refl

parts-1 : parts_of (codes "t#12H_30ms") ≡ (12, Hour) ∷ (30, Millisecond) ∷ []
parts-1 = refl

area-1 : area_of (codes "%ix0.1") ≡ area.Input
area-1 = refl

width-1 : width_of (codes "%i0.1") ≡ width.Bit
width-1 = refl

width-2 : width_of (codes "%qd4") ≡ width.DoubleWord
width-2 = refl

index-1 : index_of (codes "%I12.3") ≡ 12
index-1 = refl

bit-1 : bit_of (codes "%mx12.3") ≡ 3
bit-1 = refl

index-2 : index_of (codes "%qd40") ≡ 40
index-2 = refl

bit-2 : bit_of (codes "%qd40") ≡ 0
bit-2 = refl

old_name-1 : old_name (codes "{ renamed_from  Ab1 }") ≡ codes "Ab1"
old_name-1 = refl
