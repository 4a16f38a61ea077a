-- Texts of the lexical grammar, their tokens, and what is wrong with any other text.
use Rattle.std.specs.Prelude.{ℕ, ◌≡◌, ◌+◌, ◌*◌, ◌^◌, ◌≤◌, Bool, true, false, ◌==◌, if◌then◌else◌, List, [], ◌∷◌, ◌++◌, length, Option, Some, None}
use Rattle.hlo_num.specs.declared.word.Ty.TheVariants.{Char, Int}
use Rattle.hlo_num.specs.Words.{convert}
use Rattle.c_tree.specs.declared.token.Token.{Token}
use Rattle.c_tree.specs.declared.token.TokenKind.{TokenKind}
use Rattle.c_tree.specs.declared.token.TokenKind.TheVariants as kind
use Rattle.c_lex.specs.declared.phase.Base.{Base}
use Rattle.c_lex.specs.declared.phase.Place.{Place}
use Rattle.c_lex.specs.declared.phase.Context.{Context}
use Rattle.c_lex.specs.declared.phase.Context.TheVariants.{Fresh, Used, Hash, Include, Closed}
use Rattle.c_lex.specs.declared.phase.Piece.{Piece}
use Rattle.c_lex.specs.declared.phase.Piece.TheVariants as piece
use Rattle.c_lex.specs.declared.fault.LexKind.{LexKind}
use Rattle.c_lex.specs.declared.fault.LexFault.{LexFault}
use Rattle.c_lex.specs.declared.fault.LexFault.TheVariants.{At, Memory}
use Rattle.c_lex.specs.declared.fault.LexKind.TheVariants.{BadByte, Directive, OpenComment, BadChar, BadNumber, TooBig, LeftOut, LongName}
use Rattle.c_lex.specs.Bytes.{class_of, is_digit, in_word, radix, digit_of, feeds}
use Rattle.c_lex.specs.Spelling.{is_left_out}
use Rattle.c_lex.specs.Pieces.{IsIdentifier, IsDigits, is_code, may_end, has_close, IsPiece, IsLongest}

-- the place behind these bytes
abbrev pub past : Place → List ℕ → Place
past p us = record { at = p.at + length us; line = p.line + feeds us }

-- what stands before the place behind a piece
abbrev pub after : Piece → Context → Place → List ℕ → Context
after piece.Feed w p us = Fresh
after piece.Comment w p us = if feeds us == 0 then w else Fresh
after piece.Blank w p us = w
after piece.Hash w p us = Hash p
after piece.IncludeWord (Hash h) p us = Include h
after piece.IncludeWord w p us = w
after (piece.HeaderName h) w p us = Closed
after piece.Marker w p us = Closed
after _ w p us = Used

-- the bytes from one place to another are a token
abbrev pub token : TokenKind → Place → Place → Token
token k p q = record { kind = k; line = p.line; from = p.at; to = q.at }

-- the tokens of a piece: an include line is one token, from its `#` to its header's end
abbrev pub tokens_of : Piece → Context → Place → List ℕ → List Token
tokens_of (piece.HeaderName h) (Include o) p us = token (kind.Include h) o (past p us) ∷ []
tokens_of piece.Name w p us = token (kind.Name us) p (past p us) ∷ []
tokens_of (piece.Word r) w p us = token (kind.Word r) p (past p us) ∷ []
tokens_of (piece.Punct m) w p us = token (kind.Punct m) p (past p us) ∷ []
tokens_of (piece.Number v t) w p us = token (kind.Constant (record { 0 = v }) t) p (past p us) ∷ []
tokens_of (piece.Character v) w p us = token (kind.Constant (record { 0 = convert Char v }) Int) p (past p us) ∷ []
tokens_of _ w p us = []

-- pieces, each the longest that stands there, up to bytes of which E holds, with the context and the place there
pub data Pieces (E : Context → Place → List ℕ → Type 0) : Context → Place → List Token → List ℕ → Type 0 where
  ending : {w : Context} {p : Place} {cs : List ℕ} → E w p cs → Pieces E w p [] cs
  then_piece : {w : Context} {p : Place} {x : Piece} {us cs : List ℕ} {ts : List Token} → IsPiece w x us → IsLongest x us cs
      → Pieces E (after x w p us) (past p us) ts cs → Pieces E w p (tokens_of x w p us ++ ts) (us ++ cs)

-- nothing is left, and no directive is open
abbrev pub AtEnd : Context → Place → List ℕ → Type 0
AtEnd w p cs = (cs ≡ []) × (may_end w ≡ true)

abbrev pub start : Place
start = record { at = 0; line = 1 }

-- the bytes are a text of the grammar, and these are its tokens
abbrev pub IsText : List Token → List ℕ → Type 0
IsText ts bs = Pieces AtEnd Fresh start ts bs

abbrev pub first : List ℕ → Option ℕ
first [] = None
first (c ∷ cs) = Some c

abbrev pub begins : (ℕ → Bool) → Option ℕ → Bool
begins test (Some c) = test c
begins test None = false

-- an open comment
abbrev pub IsOpenComment : List ℕ → Type 0
IsOpenComment us = (vs : List ℕ) × (us ≡ 47 ∷ 42 ∷ vs) × (has_close vs ≡ false)

-- why nothing goes on with this byte, or ends here, behind the first bytes of a piece
pub data Cause : Context → List ℕ → Option ℕ → LexKind → Type 0 where
  no_piece : {w : Context} {c : ℕ} → is_code w ≡ true → (c == 34) ≡ false → Cause w [] (Some c) BadByte
  quote : {w : Context} → is_code w ≡ true → Cause w [] (Some 34) LeftOut
  left_out : {w : Context} {us : List ℕ} {o : Option ℕ} → is_code w ≡ true → is_left_out us ≡ true → begins (λ c. in_word (class_of c)) o ≡ false
      → Cause w us o LeftOut
  long_name : {w : Context} {us : List ℕ} {c : ℕ} → is_code w ≡ true → IsIdentifier us → length us ≡ 255 → in_word (class_of c) ≡ true
      → Cause w us (Some c) LongName
  too_big : {w : Context} {b : Base} {v : ℕ} {us : List ℕ} {c : ℕ} (d : ℕ) → is_code w ≡ true → IsDigits b v us → digit_of b c ≡ Some d
      → 2 ^ 32 ≤ v * radix b + d → Cause w us (Some c) TooBig
  bad_number : {w : Context} {a : ℕ} {us : List ℕ} {o : Option ℕ} → is_code w ≡ true → is_digit (class_of a) ≡ true
      → ((b : Base) (v c d : ℕ) → IsDigits b v (a ∷ us) → o ≡ Some c → digit_of b c ≡ Some d → ⊥) → Cause w (a ∷ us) o BadNumber
  bad_char : {w : Context} {us : List ℕ} {o : Option ℕ} → is_code w ≡ true → Cause w (39 ∷ us) o BadChar
  open_comment : {w : Context} {us : List ℕ} → IsOpenComment us → Cause w us None OpenComment
  directive : {w : Context} {us : List ℕ} {o : Option ℕ} → is_code w ≡ false → (o ≡ None → IsOpenComment us → ⊥) → Cause w us o Directive

-- the line on which a fault is told: an open comment's first, or that of the place behind the bytes read
abbrev pub told_line : LexKind → Place → List ℕ → ℕ
told_line OpenComment p us = p.line
told_line k p us = (past p us).line

-- the first bytes of a piece, and then what is wrong
abbrev pub Breaks : LexKind → ℕ → List ℕ → Context → Place → List ℕ → Type 0
Breaks k line rest w p cs = (us : List ℕ) × (cs ≡ us ++ rest) × Cause w us (first rest) k × (line ≡ told_line k p us)

-- some text of the grammar begins with these bytes
abbrev pub Continues : List ℕ → Type 0
Continues us = (ts : List Token) × (vs : List ℕ) × IsText ts (us ++ vs)

-- what stands before the rest can be continued; with its first byte it can't, and where nothing is left it is
-- no text. The kind is that of the piece which is open there, and the line is that of the first byte of the rest,
-- but for an open comment's, which is told where it begins
pub record IsFault (bs : List ℕ) (line : ℕ) (k : LexKind) : Type 0 where
  pub front : List ℕ
  pub rest : List ℕ
  pub whole : bs ≡ front ++ rest
  pub continues : Continues front
  pub stops : (c : ℕ) (more : List ℕ) → rest ≡ c ∷ more → Continues (front ++ c ∷ []) → ⊥
  pub refused : (ts : List Token) → IsText ts bs → ⊥
  pub counted : (k ≡ OpenComment → ⊥) → line ≡ 1 + feeds front
  pub pieces : List Token
  pub cause : Pieces (Breaks k line rest) Fresh start pieces bs

-- a refusal is a fault of the text, or want of memory
abbrev pub IsFaultOf : List ℕ → LexFault → Type 0
IsFaultOf bs (At line k) = IsFault bs line k
IsFaultOf bs Memory = Unit {0}
