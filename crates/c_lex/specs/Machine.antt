-- Reading byte by byte.
use Rattle.std.specs.Prelude.{ℕ, ◌≡◌, ◌+◌, ◌*◌, ◌^◌, Bool, true, false, nat_lt, ◌==◌, ◌&&◌, ◌||◌, not, if◌then◌else◌, List, [], ◌∷◌, ◌++◌, length, drop}
use Rattle.std.specs.Prelude.{Option, Some, None, Result, Ok, Err}
use Rattle.c_tree.specs.declared.token.Token.{Token}
use Rattle.c_tree.specs.declared.token.Header.{Header}
use Rattle.c_tree.specs.declared.token.Header.TheVariants.{Stdio, Stdlib}
use Rattle.c_tree.specs.declared.token.Reserved.{Reserved}
use Rattle.c_tree.specs.declared.token.Punct.{Punct}
use Rattle.c_tree.specs.declared.token.Punct.TheVariants as punct
use Rattle.c_lex.specs.declared.phase.Class.{Class}
use Rattle.c_lex.specs.declared.phase.Class.TheVariants as class
use Rattle.c_lex.specs.declared.phase.Base.{Base}
use Rattle.c_lex.specs.declared.phase.Base.TheVariants.{Octal, Decimal, Hex}
use Rattle.c_lex.specs.declared.phase.Tail.{Tail}
use Rattle.c_lex.specs.declared.phase.Tail.TheVariants as tail
use Rattle.c_lex.specs.declared.phase.Place.{Place}
use Rattle.c_lex.specs.declared.phase.Context.{Context}
use Rattle.c_lex.specs.declared.phase.Context.TheVariants.{Fresh, Used, Hash, Include, Closed}
use Rattle.c_lex.specs.declared.phase.Piece.{Piece}
use Rattle.c_lex.specs.declared.phase.Piece.TheVariants as piece
use Rattle.c_lex.specs.declared.phase.Phase.{Phase}
use Rattle.c_lex.specs.declared.phase.Phase.TheVariants as phase
use Rattle.c_lex.specs.declared.fault.LexKind.{LexKind}
use Rattle.c_lex.specs.declared.fault.LexKind.TheVariants.{BadByte, Directive, OpenComment, BadChar, BadNumber, TooBig, LeftOut, LongName}
use Rattle.c_lex.specs.Bytes.{class_of, in_word, radix, digit_of, is_x, is_u, is_l}
use Rattle.c_lex.specs.Spelling.{punct_spelling, header_spelling, include_spelling, word_named, is_left_out, punct_named}
use Rattle.c_lex.specs.Pieces.{integer_type, escape_of, is_code, may_end}
use Rattle.c_lex.specs.Text.{past, after, tokens_of, told_line}

-- what a byte behind the digits of a number is
abbrev pub tail_by : Class → ℕ → Tail
tail_by class.Letter c = if is_u c then tail.Unsigned else if is_l c then tail.Long else tail.Inside
tail_by class.Zero c = tail.Inside
tail_by class.Digit c = tail.Inside
tail_by _ c = if c == 46 then tail.Inside else tail.Outside

abbrev pub tail_of : ℕ → Tail
tail_of c = tail_by (class_of c) c

-- a punctuator of these bytes, or no piece
abbrev pub sign : Option Punct → Result Phase LexKind
sign (Some m) = Ok (phase.Punct m)
sign None = Err BadByte

abbrev pub decimal : Option ℕ → Result Phase LexKind
decimal (Some d) = Ok (phase.Digits Decimal d)
decimal None = Err BadByte

-- a byte begins a piece on a line that is no directive
abbrev pub enter_code : Class → ℕ → Result Phase LexKind
enter_code class.Blank c = Ok (phase.Whole piece.Blank)
enter_code class.Feed c = Ok (phase.Whole piece.Feed)
enter_code class.Letter c = Ok phase.Name
enter_code class.Zero c = Ok phase.Zero
enter_code class.Digit c = decimal (digit_of Decimal c)
enter_code class.Hash c = Err BadByte
enter_code class.Quote c = Err LeftOut
enter_code class.Apostrophe c = Ok phase.Quote
enter_code class.Slash c = Ok phase.Slash
enter_code class.Other c = sign (punct_named (c ∷ []))

abbrev pub enter_fresh : Class → ℕ → Result Phase LexKind
enter_fresh class.Hash c = Ok (phase.Whole piece.Hash)
enter_fresh k c = enter_code k c

-- behind the `#` of a directive
abbrev pub enter_hash : Class → ℕ → Result Phase LexKind
enter_hash class.Blank c = Ok (phase.Whole piece.Blank)
enter_hash class.Feed c = Ok (phase.Whole piece.Feed)
enter_hash class.Slash c = Ok phase.Slash
enter_hash class.Zero c = Ok phase.Marker
enter_hash class.Digit c = Ok phase.Marker
enter_hash class.Letter c = if c == 105 then Ok phase.IncludeWord else Err Directive
enter_hash _ c = Err Directive

-- behind `include`
abbrev pub enter_include : Class → ℕ → Result Phase LexKind
enter_include class.Blank c = Ok (phase.Whole piece.Blank)
enter_include class.Slash c = Ok phase.Slash
enter_include class.Other c = if c == 60 then Ok (phase.HeaderName Stdio) else Err Directive
enter_include _ c = Err Directive

-- behind a whole directive
abbrev pub enter_closed : Class → ℕ → Result Phase LexKind
enter_closed class.Blank c = Ok (phase.Whole piece.Blank)
enter_closed class.Feed c = Ok (phase.Whole piece.Feed)
enter_closed class.Slash c = Ok phase.Slash
enter_closed _ c = Err Directive

-- a byte begins a piece
abbrev pub enter : Context → ℕ → Result Phase LexKind
enter Fresh c = enter_fresh (class_of c) c
enter Used c = enter_code (class_of c) c
enter (Hash p) c = enter_hash (class_of c) c
enter (Include p) c = enter_include (class_of c) c
enter Closed c = enter_closed (class_of c) c

abbrev pub goes : Phase → Result (Option Phase) LexKind
goes ph = Ok (Some ph)

abbrev pub stops : Result (Option Phase) LexKind
stops = Ok None

abbrev pub slash : Context → ℕ → Result (Option Phase) LexKind
slash w c = if c == 42 then goes (phase.Comment false) else if is_code w && c == 61 then goes (phase.Punct punct.DivideAssign) else stops

abbrev pub comment_byte : Context → Bool → ℕ → Result (Option Phase) LexKind
comment_byte w star c =
    if star && c == 47 then goes (phase.Whole piece.Comment)
    else if not (is_code w) && c == 10 then Err Directive else goes (phase.Comment (c == 42))

abbrev pub name_byte : List ℕ → ℕ → Result (Option Phase) LexKind
name_byte us c = if in_word (class_of c) then (if nat_lt (length us) 255 then goes phase.Name else Err LongName) else stops

-- a byte behind the digits of a number
abbrev pub suffix : Base → ℕ → Bool → Bool → Tail → Result (Option Phase) LexKind
suffix b v false l tail.Unsigned = goes (phase.Suffix b v true l)
suffix b v true l tail.Unsigned = Err BadNumber
suffix b v u false tail.Long = goes (phase.Suffix b v u true)
suffix b v u true tail.Long = Err BadNumber
suffix b v u l tail.Inside = Err BadNumber
suffix b v u l tail.Outside = stops

-- a digit, by its value, or another byte
abbrev pub digit_byte : Base → ℕ → Option ℕ → Tail → Result (Option Phase) LexKind
digit_byte b v (Some d) t = if nat_lt (v * radix b + d) (2 ^ 32) then goes (phase.Digits b (v * radix b + d)) else Err TooBig
digit_byte b v None t = suffix b v false false t

abbrev pub zero_byte : ℕ → Result (Option Phase) LexKind
zero_byte c = if is_x c then goes phase.HexMark else digit_byte Octal 0 (digit_of Octal c) (tail_of c)

abbrev pub hex_mark_byte : Option ℕ → Result (Option Phase) LexKind
hex_mark_byte (Some d) = goes (phase.Digits Hex d)
hex_mark_byte None = Err BadNumber

abbrev pub quote_byte : ℕ → Result (Option Phase) LexKind
quote_byte c = if c == 92 then goes phase.Escape else if c == 39 || c == 10 then Err BadChar else goes (phase.Body c)

abbrev pub simple : Option ℕ → Result (Option Phase) LexKind
simple (Some v) = goes (phase.Body v)
simple None = Err BadChar

abbrev pub octal_or_simple : Option ℕ → ℕ → Result (Option Phase) LexKind
octal_or_simple (Some d) c = goes (phase.OctalDigits 1 d)
octal_or_simple None c = simple (escape_of c)

abbrev pub escape_byte : ℕ → Result (Option Phase) LexKind
escape_byte c = if c == 120 then goes phase.HexEscape else octal_or_simple (digit_of Octal c) c

abbrev pub hex_escape_byte : Option ℕ → Result (Option Phase) LexKind
hex_escape_byte (Some d) = goes (phase.HexDigits d)
hex_escape_byte None = Err BadChar

-- the `'` that ends a character constant
abbrev pub body_byte : ℕ → ℕ → Result (Option Phase) LexKind
body_byte v c = if c == 39 then goes (phase.Whole (piece.Character v)) else stops

abbrev pub octal_byte : ℕ → ℕ → ℕ → Option ℕ → Result (Option Phase) LexKind
octal_byte n v c (Some d) = if nat_lt n 3 && nat_lt (v * 8 + d) 256 then goes (phase.OctalDigits (n + 1) (v * 8 + d)) else stops
octal_byte n v c None = body_byte v c

abbrev pub hex_byte : ℕ → ℕ → Option ℕ → Result (Option Phase) LexKind
hex_byte v c (Some d) = if nat_lt (v * 16 + d) 256 then goes (phase.HexDigits (v * 16 + d)) else stops
hex_byte v c None = body_byte v c

abbrev pub sign_byte : Option Punct → Result (Option Phase) LexKind
sign_byte (Some m) = goes (phase.Punct m)
sign_byte None = stops

-- one more byte of a fixed word, by what is left of the word
abbrev pub spelled : Piece → Phase → List ℕ → ℕ → Result (Option Phase) LexKind
spelled x ph [] c = stops
spelled x ph (d ∷ []) c = if c == d then goes (phase.Whole x) else stops
spelled x ph (d ∷ e ∷ rest) c = if c == d then goes ph else stops

-- the two headers part behind `<std`
abbrev pub header_byte : Header → ℕ → ℕ → Result (Option Phase) LexKind
header_byte Stdio at c = if at == 4 && c == 108 then goes (phase.HeaderName Stdlib) else spelled (piece.HeaderName Stdio) (phase.HeaderName Stdio)
    (drop at (header_spelling Stdio)) c
header_byte Stdlib at c = spelled (piece.HeaderName Stdlib) (phase.HeaderName Stdlib) (drop at (header_spelling Stdlib)) c

abbrev pub marker_byte : ℕ → Result (Option Phase) LexKind
marker_byte c = if c == 10 then stops else goes phase.Marker

-- what a byte does to an open piece: it goes on, it ends before the byte, or nothing goes on so
abbrev pub step : Context → Phase → List ℕ → ℕ → Result (Option Phase) LexKind
step w (phase.Whole x) us c = stops
step w phase.Slash us c = slash w c
step w (phase.Comment star) us c = comment_byte w star c
step w phase.Name us c = name_byte us c
step w phase.Zero us c = zero_byte c
step w (phase.Digits b v) us c = digit_byte b v (digit_of b c) (tail_of c)
step w phase.HexMark us c = hex_mark_byte (digit_of Hex c)
step w (phase.Suffix b v u l) us c = suffix b v u l (tail_of c)
step w phase.Quote us c = quote_byte c
step w phase.Escape us c = escape_byte c
step w phase.HexEscape us c = hex_escape_byte (digit_of Hex c)
step w (phase.OctalDigits n v) us c = octal_byte n v c (digit_of Octal c)
step w (phase.HexDigits v) us c = hex_byte v c (digit_of Hex c)
step w (phase.Body v) us c = body_byte v c
step w (phase.Punct m) us c = sign_byte (punct_named (punct_spelling m ++ c ∷ []))
step w phase.IncludeWord us c = spelled piece.IncludeWord phase.IncludeWord (drop (length us) include_spelling) c
step w (phase.HeaderName h) us c = header_byte h (length us) c
step w phase.Marker us c = marker_byte c

abbrev pub name_piece : Option Reserved → Bool → Result Piece LexKind
name_piece (Some r) out = Ok (piece.Word r)
name_piece None true = Err LeftOut
name_piece None false = Ok piece.Name

abbrev pub slash_piece : Bool → Result Piece LexKind
slash_piece true = Ok (piece.Punct punct.Slash)
slash_piece false = Err Directive

-- the piece that ends here, if it may
abbrev pub close : Context → Phase → List ℕ → Result Piece LexKind
close w (phase.Whole x) us = Ok x
close w phase.Slash us = slash_piece (is_code w)
close w (phase.Comment star) us = Err OpenComment
close w phase.Name us = name_piece (word_named us) (is_left_out us)
close w phase.Zero us = Ok (piece.Number 0 (integer_type Octal false false 0))
close w (phase.Digits b v) us = Ok (piece.Number v (integer_type b false false v))
close w phase.HexMark us = Err BadNumber
close w (phase.Suffix b v u l) us = Ok (piece.Number v (integer_type b u l v))
close w (phase.Punct m) us = Ok (piece.Punct m)
close w phase.IncludeWord us = Err Directive
close w (phase.HeaderName h) us = Err Directive
close w phase.Marker us = Ok piece.Marker
close w _ us = Err BadChar

-- all tokens, or a fault with the bytes from it on
pub data Reading : Type 0 where
  Tokens : List Token → Reading
  Fault : LexKind → ℕ → List ℕ → Reading

abbrev pub before : List Token → Reading → Reading
before out (Tokens ts) = Tokens (out ++ ts)
before out (Fault k line rest) = Fault k line rest

-- the end of the text, between two pieces
abbrev pub ended : Bool → Place → Reading
ended true p = Tokens []
ended false p = Fault Directive p.line []

-- a byte at the start of a piece, and then the others by `go`
abbrev pub entered : Result Phase LexKind → Context → Place → ℕ → List ℕ → (Context → Place → List ℕ → Phase → Reading) → Reading
entered (Ok ph) w p c cs go = go w p (c ∷ []) ph
entered (Err k) w p c cs go = Fault k p.line (c ∷ cs)

-- the end of the text in an open piece
abbrev pub finished : Result Piece LexKind → Context → Place → List ℕ → Reading
finished (Ok x) w p us = before (tokens_of x w p us) (ended (may_end (after x w p us)) (past p us))
finished (Err k) w p us = Fault k (told_line k p us) []

-- an open piece ends before a byte, which begins the next
abbrev pub closed : Result Piece LexKind → Context → Place → List ℕ → ℕ → List ℕ → (Context → Place → List ℕ → Phase → Reading) → Reading
closed (Ok x) w p us c cs go = before (tokens_of x w p us) (entered (enter (after x w p us) c) (after x w p us) (past p us) c cs go)
closed (Err k) w p us c cs go = Fault k (told_line k p us) (c ∷ cs)

abbrev pub follow : Result (Option Phase) LexKind → Result Piece LexKind → Context → Place → List ℕ → ℕ → List ℕ → (Context → Place → List ℕ → Phase → Reading)
    → Reading
follow (Ok (Some ph)) x w p us c cs go = go w p (us ++ c ∷ []) ph
follow (Ok None) x w p us c cs go = closed x w p us c cs go
follow (Err k) x w p us c cs go = Fault k (told_line k p us) (c ∷ cs)

-- the rest of a text, behind the bytes us of an open piece
abbrev pub run : List ℕ → Context → Place → List ℕ → Phase → Reading
run [] w p us ph = finished (close w ph us) w p us
run (c ∷ cs) w p us ph = follow (step w ph us c) (close w ph us) w p us c cs (run cs)

-- a text from between two pieces on
abbrev pub read : List ℕ → Context → Place → Reading
read [] w p = ended (may_end w) p
read (c ∷ cs) w p = entered (enter w c) w p c cs (run cs)

-- the bytes of a piece lead to a phase
pub data Gets (w : Context) : List ℕ → Phase → Type 0 where
  first_byte : (c : ℕ) {ph : Phase} → enter w c ≡ Ok ph → Gets w (c ∷ []) ph
  next_byte : {us : List ℕ} {ph : Phase} (c : ℕ) {ph2 : Phase} → Gets w us ph → step w ph us c ≡ Ok (Some ph2) → Gets w (us ++ c ∷ []) ph2
