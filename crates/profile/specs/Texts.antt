-- The text of a profile: a first line, a line for each count, and a last line, each ended by a line feed.
use Rattle.std.specs.Prelude.{◌≡◌, ℕ, ◌+◌, ◌^◌, ◌<◌, List, [], ◌∷◌, ◌++◌, codes, length, min}
use Rattle.std.specs.List.{AllByRecursion, join_with_byte}
use Rattle.std.specs.Fmt.{decimal}
use Rattle.hlo_num.specs.Name.{IsName}
use Rattle.text_lines.specs.Lines.{HasNoFeed}
use Rattle.profile.specs.Names.{Names, with_entry, with_site}

-- `entry NAME COUNT`, or `site NAME K COUNT`
pub data Line : Type 0 where
  Entry : List ℕ → ℕ → Line
  Site : List ℕ → ℕ → ℕ → Line

abbrev pub IsLine : Line → Type 0
IsLine (Entry n c) = IsName n × (c < 2 ^ 32)
IsLine (Site n k c) = IsName n × (k < 2 ^ 32) × (c < 2 ^ 32)

abbrev pub line_words : Line → List (List ℕ)
line_words (Entry n c) = codes "entry" ∷ n ∷ decimal c ∷ []
line_words (Site n k c) = codes "site" ∷ n ∷ decimal k ∷ decimal c ∷ []

-- a line without its line feed
abbrev pub line_bytes : Line → List ℕ
line_bytes l = join_with_byte 32 (line_words l)

abbrev pub lines_text : List Line → List ℕ
lines_text [] = []
lines_text (l ∷ ls) = line_bytes l ++ 10 ∷ lines_text ls

-- the text
abbrev pub text : List Line → List ℕ
text ls = codes "profile 1" ++ 10 ∷ (lines_text ls ++ (codes "end" ++ 10 ∷ []))

-- what a line sets, and all lines in order: a later one replaces what an earlier one set
abbrev pub set_by : Line → Names → Names
set_by (Entry n c) ns = with_entry n c ns
set_by (Site n k c) ns = with_site n k c ns

abbrev pub set_by_all : List Line → Names → Names
set_by_all [] ns = ns
set_by_all (l ∷ ls) ns = set_by_all ls (set_by l ns)

-- the bytes are the text of lines that set this
pub record IsTextOf (bytes : List ℕ) (ns : Names) : Type 0 where
  pub lines : List Line
  pub are : AllByRecursion IsLine lines
  pub spelled : bytes ≡ text lines
  pub set : ns ≡ set_by_all lines []

-- some text begins with these bytes
pub record Begins (bytes : List ℕ) : Type 0 where
  pub lines : List Line
  pub are : AllByRecursion IsLine lines
  pub rest : List ℕ
  pub spelled : text lines ≡ bytes ++ rest

-- whole lines
abbrev pub ended : List (List ℕ) → List ℕ
ended [] = []
ended (l ∷ ls) = l ++ 10 ∷ ended ls

-- the number of the line behind so many lines, from 1; 4294967295 stands for all from there on
abbrev pub line_number : ℕ → ℕ
line_number n = min (n + 1) 4294967295

-- The first line that doesn't fit: some text goes on with the lines before it, and none goes on with this line, or this
-- line isn't ended, or none is left while each text has more.
pub record DoesNotFit (bytes : List ℕ) (number : ℕ) : Type 0 where
  pub before : List (List ℕ)
  pub here : List ℕ
  pub bytes_are : bytes ≡ ended before ++ here
  pub number_is : number ≡ line_number (length before)
  pub feeds : AllByRecursion HasNoFeed before
  pub fits : Begins (ended before)
  pub ends : HasNoFeed here → (lines : List Line) → AllByRecursion IsLine lines → bytes ≡ text lines → ⊥
  pub goes_on : (line rest : List ℕ) → here ≡ line ++ 10 ∷ rest → HasNoFeed line → Begins (ended before ++ (line ++ 10 ∷ [])) → ⊥
