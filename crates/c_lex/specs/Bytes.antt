-- The classes of bytes, digits and line feeds.
use Rattle.std.specs.Prelude.{ℕ, ◌+◌, ◌-◌, Bool, true, false, nat_lt, nat_le, ◌==◌, ◌&&◌, ◌||◌, if◌then◌else◌, List, [], ◌∷◌, Option, Some, None}
use Rattle.c_lex.specs.declared.phase.Class.{Class}
use Rattle.c_lex.specs.declared.phase.Class.TheVariants as class
use Rattle.c_lex.specs.declared.phase.Base.{Base}
use Rattle.c_lex.specs.declared.phase.Base.TheVariants.{Octal, Decimal, Hex}

-- from the byte low to the byte high
abbrev pub between : ℕ → ℕ → ℕ → Bool
between low high c = nat_le low c && nat_le c high

-- space, tab, vertical tab, form feed and CR; LF; letters and `_`; digits; and the marks `#`, `"`, `'`, `/`
unfoldable pub class_of : ℕ → Class
class_of c =
    if c == 32 then class.Blank else if c == 9 then class.Blank else if c == 11 then class.Blank else if c == 12 then class.Blank
    else if c == 13 then class.Blank else if c == 10 then class.Feed
    else if between 97 122 c then class.Letter else if between 65 90 c then class.Letter else if c == 95 then class.Letter
    else if c == 48 then class.Zero else if between 49 57 c then class.Digit
    else if c == 35 then class.Hash else if c == 34 then class.Quote else if c == 39 then class.Apostrophe
    else if c == 47 then class.Slash else class.Other

abbrev pub is_digit : Class → Bool
is_digit class.Zero = true
is_digit class.Digit = true
is_digit _ = false

-- what a name goes on with: letters, `_` and digits
abbrev pub in_word : Class → Bool
in_word class.Letter = true
in_word class.Zero = true
in_word class.Digit = true
in_word _ = false

-- what stands in the run of a number: letters, `_`, digits and `.`
abbrev pub in_run : ℕ → Bool
in_run c = in_word (class_of c) || c == 46

abbrev pub radix : Base → ℕ
radix Octal = 8
radix Decimal = 10
radix Hex = 16

-- a letter as a hexadecimal digit
abbrev pub letter_value : ℕ → Option ℕ
letter_value c = if between 97 102 c then Some (c - 87) else if between 65 70 c then Some (c - 55) else None

-- a byte as a hexadecimal digit
abbrev pub value_by : Class → ℕ → Option ℕ
value_by class.Zero c = Some 0
value_by class.Digit c = Some (c - 48)
value_by class.Letter c = letter_value c
value_by _ c = None

-- a value below a limit
abbrev pub below : ℕ → Option ℕ → Option ℕ
below n (Some d) = if nat_lt d n then Some d else None
below n None = None

-- the value of a byte as a digit of a base, where it is one
abbrev pub digit_of : Base → ℕ → Option ℕ
digit_of b c = below (radix b) (value_by (class_of c) c)

-- `x` or `X`, `u` or `U`, `l` or `L`
abbrev pub is_x : ℕ → Bool
is_x c = c == 120 || c == 88

abbrev pub is_u : ℕ → Bool
is_u c = c == 117 || c == 85

abbrev pub is_l : ℕ → Bool
is_l c = c == 108 || c == 76

-- how many LFs there are
abbrev pub feeds : List ℕ → ℕ
feeds [] = 0
feeds (c ∷ cs) = (if c == 10 then 1 else 0) + feeds cs
