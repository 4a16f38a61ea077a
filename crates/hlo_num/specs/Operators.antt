-- What the binary operators give, on words.
use Rattle.std.specs.Prelude.{ℕ, ◌+◌, ◌-◌, ◌*◌, ◌/◌, ◌%◌, ◌^◌, ◌&&◌, Bool, true, false, if◌then◌else◌, nat_lt, nat_le, ◌==◌, not, bit_and, bit_or}
use Rattle.std.specs.Prelude.{bit_xor, int_lt, int_le, int_div, int_rem, Result, Ok, Err}
use Rattle.std.specs.Int.{int_shr}
use Rattle.hlo_num.specs.Words.{signed, word_of}
use Rattle.hlo_num.specs.declared.word.Op.{Op}
use Rattle.hlo_num.specs.declared.word.Op.TheVariants as op
use Rattle.hlo_num.specs.declared.word.Trap.{Trap}
use Rattle.hlo_num.specs.declared.word.Trap.TheVariants as trap

-- 1 where a test holds, else 0
abbrev pub truth : Bool → ℕ
truth true = 1
truth false = 0

-- -2147483648 by -1, whose quotient no word holds
abbrev pub overflows : ℕ → ℕ → Bool
overflows a b = (a == 2 ^ 31) && (b == 2 ^ 32 - 1)

-- a division or remainder, by its value where it has one; signed, it may also overflow
abbrev pub divided : Bool → ℕ → ℕ → ℕ → Result ℕ Trap
divided is_signed a b quotient = if b == 0 then Err trap.Divide else (if is_signed && overflows a b then Err trap.Quotient else Ok quotient)

-- a shift, by its value where the count is below 32
abbrev pub shifted : ℕ → ℕ → Result ℕ Trap
shifted count value = if nat_lt count 32 then Ok value else Err trap.Shift

-- an operator on two words: a word, or the one trap that stands in its place (C90, 6.3.5 to 6.3.12).
-- Sums, differences, products and left shifts are modulo 2^32, division truncates toward zero, comparisons give 1 or 0
abbrev pub operate : Op → ℕ → ℕ → Result ℕ Trap
operate op.AddS a b = Ok ((a + b) % 2 ^ 32)
operate op.AddU a b = Ok ((a + b) % 2 ^ 32)
operate op.SubS a b = Ok ((a + (2 ^ 32 - b)) % 2 ^ 32)
operate op.SubU a b = Ok ((a + (2 ^ 32 - b)) % 2 ^ 32)
operate op.MulS a b = Ok ((a * b) % 2 ^ 32)
operate op.MulU a b = Ok ((a * b) % 2 ^ 32)
operate op.DivS a b = divided true a b (word_of (int_div (signed a) (signed b)))
operate op.DivU a b = divided false a b (a / b)
operate op.RemS a b = divided true a b (word_of (int_rem (signed a) (signed b)))
operate op.RemU a b = divided false a b (a % b)
operate op.And a b = Ok (bit_and a b)
operate op.Or a b = Ok (bit_or a b)
operate op.Xor a b = Ok (bit_xor a b)
operate op.Shl a b = shifted b ((a * 2 ^ b) % 2 ^ 32)
operate op.ShrS a b = shifted b (word_of (int_shr (signed a) b))
operate op.ShrU a b = shifted b (a / 2 ^ b)
operate op.Eq a b = Ok (truth (a == b))
operate op.Ne a b = Ok (truth (not (a == b)))
operate op.LtS a b = Ok (truth (int_lt (signed a) (signed b)))
operate op.LtU a b = Ok (truth (nat_lt a b))
operate op.LeS a b = Ok (truth (int_le (signed a) (signed b)))
operate op.LeU a b = Ok (truth (nat_le a b))
