-- The pieces that a text is made of, each by its bytes (ISO C90, 6.1).
use Rattle.std.specs.Prelude.{ℕ, ◌≡◌, ◌+◌, ◌*◌, ◌^◌, ◌<◌, ◌≤◌, Bool, true, false, nat_lt, ◌==◌, ◌&&◌, ◌||◌, not, if◌then◌else◌, List, [], ◌∷◌, ◌++◌}
use Rattle.std.specs.Prelude.{length, Option, Some, None, is_some}
use Rattle.hlo_num.specs.declared.word.Ty.{Ty}
use Rattle.hlo_num.specs.declared.word.Ty.TheVariants.{Int, UInt, Long, ULong}
use Rattle.c_tree.specs.declared.token.Header.{Header}
use Rattle.c_tree.specs.declared.token.Reserved.{Reserved}
use Rattle.c_tree.specs.declared.token.Punct.{Punct}
use Rattle.c_lex.specs.declared.phase.Base.{Base}
use Rattle.c_lex.specs.declared.phase.Base.TheVariants.{Octal, Decimal, Hex}
use Rattle.c_lex.specs.declared.phase.Class.TheVariants as class
use Rattle.c_lex.specs.declared.phase.Place.{Place}
use Rattle.c_lex.specs.declared.phase.Context.{Context}
use Rattle.c_lex.specs.declared.phase.Context.TheVariants.{Fresh, Used, Hash, Include}
use Rattle.c_lex.specs.declared.phase.Piece.{Piece}
use Rattle.c_lex.specs.declared.phase.Piece.TheVariants as piece
use Rattle.c_lex.specs.Bytes.{class_of, is_digit, in_word, in_run, radix, digit_of, is_x, is_u, is_l, feeds}
use Rattle.c_lex.specs.Spelling.{word_spelling, punct_spelling, header_spelling, include_spelling, word_named, is_left_out, punct_named, same}

-- a letter, or an identifier and a letter or a digit (6.1.2)
pub data IsIdentifier : List ℕ → Type 0 where
  letter : {c : ℕ} → class_of c ≡ class.Letter → IsIdentifier (c ∷ [])
  longer_name : {us : List ℕ} (c : ℕ) → IsIdentifier us → in_word (class_of c) ≡ true → IsIdentifier (us ++ c ∷ [])

-- the digits of a number that a word can hold, with their base and value (6.1.3.2)
pub data IsDigits : Base → ℕ → List ℕ → Type 0 where
  zero_digit : {c : ℕ} → class_of c ≡ class.Zero → IsDigits Octal 0 (c ∷ [])
  first_decimal : {c d : ℕ} → class_of c ≡ class.Digit → digit_of Decimal c ≡ Some d → IsDigits Decimal d (c ∷ [])
  first_hex : {z x c d : ℕ} → class_of z ≡ class.Zero → is_x x ≡ true → digit_of Hex c ≡ Some d → IsDigits Hex d (z ∷ x ∷ c ∷ [])
  next_digit : {b : Base} {v : ℕ} {us : List ℕ} (c d : ℕ) → IsDigits b v us → digit_of b c ≡ Some d → v * radix b + d < 2 ^ 32
      → IsDigits b (v * radix b + d) (us ++ c ∷ [])

-- digits and a suffix: whether it has a `u`, and whether it has an `l`
pub data IsInteger : Base → ℕ → Bool → Bool → List ℕ → Type 0 where
  plain : {b : Base} {v : ℕ} {us : List ℕ} → IsDigits b v us → IsInteger b v false false us
  with_u : {b : Base} {v : ℕ} {l : Bool} {us : List ℕ} (c : ℕ) → IsInteger b v false l us → is_u c ≡ true → IsInteger b v true l (us ++ c ∷ [])
  with_l : {b : Base} {v : ℕ} {u : Bool} {us : List ℕ} (c : ℕ) → IsInteger b v u false us → is_l c ≡ true → IsInteger b v u true (us ++ c ∷ [])

-- the first type of the list for a base and a suffix that holds the value
abbrev pub integer_type : Base → Bool → Bool → ℕ → Ty
integer_type b true true v = ULong
integer_type b true false v = UInt
integer_type b false true v = if nat_lt v (2 ^ 31) then Long else ULong
integer_type Decimal false false v = if nat_lt v (2 ^ 31) then Int else ULong
integer_type b false false v = if nat_lt v (2 ^ 31) then Int else UInt

-- what stands behind a backslash for one byte
abbrev pub escape_of : ℕ → Option ℕ
escape_of c =
    if c == 39 then Some 39 else if c == 34 then Some 34 else if c == 63 then Some 63 else if c == 92 then Some 92
    else if c == 97 then Some 7 else if c == 98 then Some 8 else if c == 102 then Some 12 else if c == 110 then Some 10
    else if c == 114 then Some 13 else if c == 116 then Some 9 else if c == 118 then Some 11 else None

-- `'`, a backslash and one to three octal digits; how many, and their value
pub data IsOctalEscape : ℕ → ℕ → List ℕ → Type 0 where
  first_octal : {c d : ℕ} → digit_of Octal c ≡ Some d → IsOctalEscape 1 d (39 ∷ 92 ∷ c ∷ [])
  next_octal : {n v : ℕ} {us : List ℕ} (c d : ℕ) → IsOctalEscape n v us → n < 3 → digit_of Octal c ≡ Some d → v * 8 + d < 256
      → IsOctalEscape (n + 1) (v * 8 + d) (us ++ c ∷ [])

-- `'`, `\x` and hexadecimal digits, with their value
pub data IsHexEscape : ℕ → List ℕ → Type 0 where
  first_hex_digit : {c d : ℕ} → digit_of Hex c ≡ Some d → IsHexEscape d (39 ∷ 92 ∷ 120 ∷ c ∷ [])
  next_hex_digit : {v : ℕ} {us : List ℕ} (c d : ℕ) → IsHexEscape v us → digit_of Hex c ≡ Some d → v * 16 + d < 256 → IsHexEscape (v * 16 + d) (us ++ c ∷ [])

-- a byte that stands for itself between `'` and `'`
abbrev pub is_plain : ℕ → Bool
is_plain c = not (c == 39 || (c == 92 || c == 10))

-- `'` and one byte or escape, with its value (6.1.3.4)
pub data IsQuoted : ℕ → List ℕ → Type 0 where
  plain_byte : {c : ℕ} → is_plain c ≡ true → IsQuoted c (39 ∷ c ∷ [])
  simple_escape : {c v : ℕ} → escape_of c ≡ Some v → IsQuoted v (39 ∷ 92 ∷ c ∷ [])
  octal_escape : {n v : ℕ} {us : List ℕ} → IsOctalEscape n v us → IsQuoted v us
  hex_escape : {v : ℕ} {us : List ℕ} → IsHexEscape v us → IsQuoted v us

-- whether a `*` with a `/` behind it is among the bytes
abbrev pub begins_with : ℕ → List ℕ → Bool
begins_with a [] = false
begins_with a (c ∷ cs) = c == a

abbrev pub has_close : List ℕ → Bool
has_close [] = false
has_close (c ∷ cs) = (c == 42 && begins_with 47 cs) || has_close cs

-- from `/*` to the next `*/` (6.1.9)
abbrev pub IsComment : List ℕ → Type 0
IsComment us = (body : List ℕ) × (us ≡ 47 ∷ 42 ∷ (body ++ 42 ∷ 47 ∷ [])) × (has_close (body ++ 42 ∷ []) ≡ false)

-- whether a line is no directive, so far
abbrev pub is_code : Context → Bool
is_code Fresh = true
is_code Used = true
is_code _ = false

-- whether a line may end here: not behind `#include` without a header
abbrev pub may_end : Context → Bool
may_end (Include p) = false
may_end _ = true

-- the pieces that may stand in a context, by their bytes. A directive is `#` alone, `#include` with a
-- header, or `#` and a decimal digit with the rest of its line; blanks and comments within it hold no LF
pub data IsPiece : Context → Piece → List ℕ → Type 0 where
  blank : {w : Context} {c : ℕ} → class_of c ≡ class.Blank → IsPiece w piece.Blank (c ∷ [])
  feed : {w : Context} {c : ℕ} → class_of c ≡ class.Feed → may_end w ≡ true → IsPiece w piece.Feed (c ∷ [])
  comment : {w : Context} {us : List ℕ} → IsComment us → (is_code w ≡ false → feeds us ≡ 0) → IsPiece w piece.Comment us
  hash : {c : ℕ} → class_of c ≡ class.Hash → IsPiece Fresh piece.Hash (c ∷ [])
  include_word : {p : Place} → IsPiece (Hash p) piece.IncludeWord include_spelling
  header : {p : Place} (h : Header) → IsPiece (Include p) (piece.HeaderName h) (header_spelling h)
  marker : {p : Place} {c : ℕ} {us : List ℕ} → is_digit (class_of c) ≡ true → feeds us ≡ 0 → IsPiece (Hash p) piece.Marker (c ∷ us)
  name : {w : Context} {us : List ℕ} → is_code w ≡ true → IsIdentifier us → length us ≤ 255 → word_named us ≡ None → is_left_out us ≡ false
      → IsPiece w piece.Name us
  word : {w : Context} → is_code w ≡ true → (r : Reserved) → IsPiece w (piece.Word r) (word_spelling r)
  number : {w : Context} {b : Base} {v : ℕ} {u l : Bool} {us : List ℕ} → is_code w ≡ true → IsInteger b v u l us
      → IsPiece w (piece.Number v (integer_type b u l v)) us
  character : {w : Context} {v : ℕ} {us : List ℕ} → is_code w ≡ true → IsQuoted v us → IsPiece w (piece.Character v) (us ++ 39 ∷ [])
  punctuator : {w : Context} → is_code w ≡ true → (m : Punct) → IsPiece w (piece.Punct m) (punct_spelling m)

-- whether a byte behind a piece of these bytes makes it longer, or begins a comment with it
abbrev pub longer : Piece → List ℕ → ℕ → Bool
longer piece.Name us c = in_word (class_of c)
longer (piece.Word r) us c = in_word (class_of c)
longer (piece.Number v t) us c = in_run c
longer (piece.Punct m) us c = is_some (punct_named (us ++ c ∷ [])) || (same us (47 ∷ []) && c == 42)
longer piece.Marker us c = not (c == 10)
longer _ us c = false

-- the piece is the longest one that stands there
abbrev pub IsLongest : Piece → List ℕ → List ℕ → Type 0
IsLongest x us [] = Unit {0}
IsLongest x us (c ∷ cs) = longer x us c ≡ false
