-- Where the tokens of a text stand.
use Rattle.std.specs.Prelude.{ℕ, ◌≡◌, ◌+◌, ◌<◌, ◌≤◌, Bool, List, [], ◌∷◌, ◌++◌, ◌⊎◌, length, take}
use Rattle.std.specs.List.{slice_range}
use Rattle.hlo_num.specs.declared.word.Ty.{Ty}
use Rattle.hlo_num.specs.declared.word.Ty.TheVariants.{Char, Int}
use Rattle.hlo_num.specs.Words.{convert}
use Rattle.c_tree.specs.declared.token.Token.{Token}
use Rattle.c_tree.specs.declared.token.TokenKind.{TokenKind}
use Rattle.c_tree.specs.declared.token.TokenKind.TheVariants as kind
use Rattle.c_lex.specs.declared.phase.Base.{Base}
use Rattle.c_lex.specs.Bytes.{feeds}
use Rattle.c_lex.specs.Spelling.{word_spelling, punct_spelling, header_spelling}
use Rattle.c_lex.specs.Pieces.{IsIdentifier, IsInteger, integer_type, IsQuoted}

-- a number's bytes, with its value and type
abbrev pub IsNumeral : ℕ → Ty → List ℕ → Type 0
IsNumeral v t us = (b : Base) × (u : Bool) × (l : Bool) × IsInteger b v u l us × (t ≡ integer_type b u l v)

-- a character constant's bytes, with its value as a signed char, and its type
abbrev pub IsCharacter : ℕ → Ty → List ℕ → Type 0
IsCharacter v t us = (c : ℕ) × (vs : List ℕ) × (us ≡ vs ++ 39 ∷ []) × IsQuoted c vs × (v ≡ convert Char c) × (t ≡ Int)

-- the bytes of a token of a kind; an include line's are those from its `#` to its header's end
abbrev pub IsLexeme : TokenKind → List ℕ → Type 0
IsLexeme (kind.Include h) us = (gap : List ℕ) × (us ≡ (35 ∷ gap) ++ header_spelling h)
IsLexeme (kind.Name n) us = (us ≡ n) × IsIdentifier us
IsLexeme (kind.Word r) us = us ≡ word_spelling r
IsLexeme (kind.Punct m) us = us ≡ punct_spelling m
IsLexeme (kind.Constant w t) us = IsNumeral w.0 t us ⊎ IsCharacter w.0 t us

-- a token stands at its own bytes, behind a place, on the line that the LFs before it tell
pub record IsSpan (bs : List ℕ) (low : ℕ) (t : Token) : Type 0 where
  pub ordered : low ≤ t.from
  pub some_bytes : t.from < t.to
  pub inside : t.to ≤ length bs
  pub lexeme : IsLexeme t.kind (slice_range bs t.from t.to)
  pub line : t.line ≡ 1 + feeds (take t.from bs)

-- the tokens stand in order, none over another
abbrev pub AreSpans : List ℕ → ℕ → List Token → Type 0
AreSpans bs low [] = Unit {0}
AreSpans bs low (t ∷ ts) = IsSpan bs low t × AreSpans bs t.to ts
