-- Words and their types. A word is a number from 0 to 2^32 - 1.
use Rattle.std.specs.Prelude.{ℕ, ◌+◌, ◌-◌, ◌^◌, ◌%◌, ◌<◌, Bool, true, false, ℤ, if◌then◌else◌, nat_lt}
use Rattle.std.specs.Int.{cast_signed, cast_unsigned, w32}
use Rattle.hlo_num.specs.declared.word.Ty.{Ty}
use Rattle.hlo_num.specs.declared.word.Ty.TheVariants.{Char, UChar, Short, UShort, Int, UInt, Long, ULong}

-- a number that a word can hold
abbrev pub IsWord : ℕ → Type 0
IsWord n = n < 2 ^ 32

-- a word read as signed, in two's complement
abbrev pub signed : ℕ → ℤ
signed w = cast_signed w32 w

-- the word whose signed reading this number is
abbrev pub word_of : ℤ → ℕ
word_of z = cast_unsigned w32 z

-- the low k bits of a word, extended by 0
abbrev pub extend_zero : ℕ → ℕ → ℕ
extend_zero k w = w % 2 ^ k

-- the low k bits of a word, extended by their highest bit
abbrev pub extend_sign : ℕ → ℕ → ℕ
extend_sign k w = if nat_lt (w % 2 ^ k) (2 ^ (k - 1)) then w % 2 ^ k else w % 2 ^ k + (2 ^ 32 - 2 ^ k)

-- a word converted to a type (C90, 6.2.1.2): the narrow types keep their bits and extend them, the others keep the word
abbrev pub convert : Ty → ℕ → ℕ
convert Char w = extend_sign 8 w
convert UChar w = extend_zero 8 w
convert Short w = extend_sign 16 w
convert UShort w = extend_zero 16 w
convert Int w = w
convert UInt w = w
convert Long w = w
convert ULong w = w

-- the types whose values are narrower than a word
abbrev pub is_narrow : Ty → Bool
is_narrow Char = true
is_narrow UChar = true
is_narrow Short = true
is_narrow UShort = true
is_narrow Int = false
is_narrow UInt = false
is_narrow Long = false
is_narrow ULong = false

-- the integral promotions (C90, 6.2.1.1): int holds each value of a narrow type
abbrev pub promote : Ty → Ty
promote Char = Int
promote UChar = Int
promote Short = Int
promote UShort = Int
promote Int = Int
promote UInt = UInt
promote Long = Long
promote ULong = ULong

-- the usual arithmetic conversions (C90, 6.2.1.5), on promoted types
abbrev pub usual : Ty → Ty → Ty
usual ULong b = ULong
usual a ULong = ULong
usual Long UInt = ULong
usual UInt Long = ULong
usual Long b = Long
usual a Long = Long
usual UInt b = UInt
usual a UInt = UInt
usual a b = Int
