-- What is known of the bytes read, in each phase.
use Rattle.std.proofs.Common.{ℕ, ◌≡◌, ◌≤◌, Bool, true, false, ◌==◌, List, [], ◌∷◌, ◌++◌, length, Option, Some, None, Result, Ok, Err}
use Rattle.c_lex.specs.declared.phase.Class.TheVariants as class
use Rattle.c_lex.specs.declared.phase.Place.{Place}
use Rattle.c_lex.specs.declared.phase.Context.{Context}
use Rattle.c_lex.specs.declared.phase.Context.TheVariants.{Hash, Include}
use Rattle.c_lex.specs.declared.phase.Piece.{Piece}
use Rattle.c_lex.specs.declared.phase.Phase.{Phase}
use Rattle.c_lex.specs.declared.phase.Phase.TheVariants as phase
use Rattle.c_lex.specs.declared.fault.LexKind.{LexKind}
use Rattle.c_lex.specs.Bytes.{class_of, is_digit, is_x, feeds}
use Rattle.c_lex.specs.Spelling.{punct_spelling, header_spelling, include_spelling, same}
use Rattle.c_lex.specs.Pieces.{IsIdentifier, IsDigits, IsInteger, IsOctalEscape, IsHexEscape, IsQuoted, has_close, is_code, IsPiece, longer}
use Rattle.c_tree.specs.declared.token.Token.{Token}
use Rattle.c_lex.specs.Text.{Cause, Pieces, AtEnd}
use Rattle.c_lex.specs.Machine.{close}

-- whether the last byte is a star
abbrev pub ends_star : List ℕ → Bool
ends_star [] = false
ends_star (c ∷ []) = c == 42
ends_star (c ∷ d ∷ cs) = ends_star (d ∷ cs)

-- the bytes begin with a digit
abbrev pub Numeric : List ℕ → Type 0
Numeric us = (a : ℕ) × (cs : List ℕ) × (us ≡ a ∷ cs) × (is_digit (class_of a) ≡ true)

abbrev pub Fine : Context → Phase → List ℕ → Type 0
Fine w (phase.Whole x) us = IsPiece w x us × ((c : ℕ) → longer x us c ≡ false)
Fine w phase.Slash us = us ≡ 47 ∷ []
Fine w (phase.Comment star) us = (vs : List ℕ) × (us ≡ 47 ∷ 42 ∷ vs) × (has_close vs ≡ false) × (ends_star vs ≡ star) × (is_code w ≡ false → feeds us ≡ 0)
Fine w phase.Name us = (is_code w ≡ true) × IsIdentifier us × (length us ≤ 255)
Fine w phase.Zero us = (is_code w ≡ true) × (c : ℕ) × (us ≡ c ∷ []) × (class_of c ≡ class.Zero)
Fine w (phase.Digits b v) us = (is_code w ≡ true) × IsDigits b v us × Numeric us
Fine w phase.HexMark us = (is_code w ≡ true) × (z : ℕ) × (x : ℕ) × (us ≡ z ∷ x ∷ []) × (class_of z ≡ class.Zero) × (is_x x ≡ true)
Fine w (phase.Suffix b v u l) us = (is_code w ≡ true) × IsInteger b v u l us × Numeric us
Fine w phase.Quote us = (is_code w ≡ true) × (us ≡ 39 ∷ [])
Fine w phase.Escape us = (is_code w ≡ true) × (us ≡ 39 ∷ 92 ∷ [])
Fine w phase.HexEscape us = (is_code w ≡ true) × (us ≡ 39 ∷ 92 ∷ 120 ∷ [])
Fine w (phase.OctalDigits n v) us = (is_code w ≡ true) × IsOctalEscape n v us
Fine w (phase.HexDigits v) us = (is_code w ≡ true) × IsHexEscape v us
Fine w (phase.Body v) us = (is_code w ≡ true) × IsQuoted v us
Fine w (phase.Punct m) us = (is_code w ≡ true) × (us ≡ punct_spelling m) × (same us (47 ∷ []) ≡ false) × (a : ℕ) × (vs : List ℕ) × (us ≡ a ∷ vs)
Fine w phase.IncludeWord us = (p : Place) × (w ≡ Hash p) × (d : ℕ) × (rest : List ℕ) × (include_spelling ≡ us ++ d ∷ rest)
Fine w (phase.HeaderName h) us = (p : Place) × (w ≡ Include p) × (d : ℕ) × (rest : List ℕ) × (header_spelling h ≡ us ++ d ∷ rest)
Fine w phase.Marker us = (p : Place) × (w ≡ Hash p) × (c : ℕ) × (cs : List ℕ) × (us ≡ c ∷ cs) × (is_digit (class_of c) ≡ true) × (feeds cs ≡ 0)

-- a first byte: the phase is right, or nothing begins so
abbrev pub EnterGood : Context → ℕ → Result Phase LexKind → Type 0
EnterGood w c (Ok ph) = Fine w ph (c ∷ [])
EnterGood w c (Err k) = Cause w [] (Some c) k

-- the end of a piece, before a byte or at the end of the text
abbrev pub SeamGood : Context → List ℕ → ℕ → Result Piece LexKind → Type 0
SeamGood w us c (Ok x) = longer x us c ≡ false
SeamGood w us c (Err k) = Cause w us (Some c) k

abbrev pub CloseGood : Context → List ℕ → Result Piece LexKind → Type 0
CloseGood w us (Ok x) = IsPiece w x us
CloseGood w us (Err k) = Cause w us None k

-- one more byte
abbrev pub Steps : Context → Result Piece LexKind → List ℕ → ℕ → Result (Option Phase) LexKind → Type 0
Steps w x us c (Ok (Some ph)) = Fine w ph (us ++ c ∷ [])
Steps w x us c (Ok None) = SeamGood w us c x
Steps w x us c (Err k) = Cause w us (Some c) k

abbrev pub StepGood : Context → Phase → List ℕ → ℕ → Result (Option Phase) LexKind → Type 0
StepGood w ph us c r = Steps w (close w ph us) us c r

-- the bytes are the beginning of a text
abbrev pub Alive : Context → Place → List ℕ → Type 0
Alive w p us = (ts : List Token) × (vs : List ℕ) × Pieces AtEnd w p ts (us ++ vs)
