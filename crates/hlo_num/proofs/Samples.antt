-- The definitions at values that are known from C.
use Rattle.std.proofs.Common.{◌≡◌, refl}
use Rattle.std.specs.Prelude.{Ok, Err}
use Rattle.hlo_num.specs.declared.word.Op.TheVariants as op
use Rattle.hlo_num.specs.declared.word.Trap.TheVariants as trap
use Rattle.hlo_num.specs.declared.word.Ty.TheVariants.{Char, UChar, Short, UShort, Int, UInt, Long, ULong}
use Rattle.hlo_num.specs.Words.{convert, promote, usual}
use Rattle.hlo_num.specs.Operators.{operate}

-- 2147483647 + 1 wraps to -2147483648
wraps : operate op.AddS 2147483647 1 ≡ Ok 2147483648
wraps = refl

-- -7 / 2 is -3 and -7 % 2 is -1
truncates : operate op.DivS 4294967289 2 ≡ Ok 4294967293
truncates = refl

keeps_sign : operate op.RemS 4294967289 2 ≡ Ok 4294967295
keeps_sign = refl

-- -2147483648 / -1 and its remainder trap, but not unsigned
no_quotient : operate op.DivS 2147483648 4294967295 ≡ Err trap.Quotient
no_quotient = refl

no_remainder : operate op.RemS 2147483648 4294967295 ≡ Err trap.Quotient
no_remainder = refl

unsigned_quotient : operate op.DivU 2147483648 4294967295 ≡ Ok 0
unsigned_quotient = refl

by_zero : operate op.RemU 5 0 ≡ Err trap.Divide
by_zero = refl

-- -8 >> 1 is -4, and a count of 32 traps
arithmetic : operate op.ShrS 4294967288 1 ≡ Ok 4294967292
arithmetic = refl

logical : operate op.ShrU 4294967288 1 ≡ Ok 2147483644
logical = refl

too_far : operate op.Shl 1 32 ≡ Err trap.Shift
too_far = refl

-- -1 < 0 as int, and not as unsigned
signed_less : operate op.LtS 4294967295 0 ≡ Ok 1
signed_less = refl

unsigned_less : operate op.LtU 4294967295 0 ≡ Ok 0
unsigned_less = refl

-- -5 - -7 is 2
difference : operate op.SubS 4294967291 4294967289 ≡ Ok 2
difference = refl

-- (char)200 is -56, (unsigned char)-1 is 255, (short)40000 is -25536
to_char : convert Char 200 ≡ 4294967240
to_char = refl

to_uchar : convert UChar 4294967295 ≡ 255
to_uchar = refl

to_short : convert Short 40000 ≡ 4294941760
to_short = refl

-- long and unsigned int meet in unsigned long
long_meets_unsigned : usual (promote Long) UInt ≡ ULong
long_meets_unsigned = refl

char_is_int : usual (promote Char) (promote UShort) ≡ Int
char_is_int = refl
