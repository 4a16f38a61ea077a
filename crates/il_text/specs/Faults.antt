-- What is wrong with a text: its lines.
use Rattle.std.specs.Prelude.{ℕ, ◌≡◌, ◌+◌, ◌-◌, ◌^◌, min, List, [], ◌∷◌, ◌++◌, length, ⊤}
use Rattle.il_text.specs.declared.fault.IlFault.{IlFault}
use Rattle.il_text.specs.declared.fault.IlFault.TheVariants.{At, Memory}
use Rattle.il_text.specs.declared.fault.IlKind.TheVariants as kind
use Rattle.il_text.specs.declared.partial.Partial.{Partial}
use Rattle.il_text.specs.declared.partial.Place.TheVariants as place
use Rattle.il_text.specs.declared.line.Line.{Line}
use Rattle.il_text.specs.FitPartials.{IsFitPartial}
use Rattle.il_text.specs.Partials.{partial_lines}
use Rattle.il_text.specs.Texts.{line_bytes, lines_text}

-- line k counted from 0, as a fault tells it
abbrev pub line_number : ℕ → ℕ
line_number k = min (k + 1) (2 ^ 32 - 1)

-- one more line
pub record IsNextLine (f : Partial) (bytes : List ℕ) (g : Partial) : Type 0 where
  pub fit : IsFitPartial g
  pub line : Line
  pub lines : partial_lines g ≡ partial_lines f ++ line ∷ []
  pub spelled : bytes ≡ line_bytes line

-- no partial program within the limits of the language goes on with these bytes as its next line
abbrev pub NoNextLine : Partial → List ℕ → Type 0
NoNextLine f bytes = (g : Partial) (l : Line) → IsFitPartial g → partial_lines g ≡ partial_lines f ++ l ∷ [] → bytes ≡ line_bytes l → ⊥

abbrev pub IsNoNextLine : Partial → List ℕ → ℕ → IlFault → Type 0
IsNoNextLine f bytes n (At m kind.Line) = (m ≡ n) × NoNextLine f bytes
IsNoNextLine f bytes n (At m kind.Order) = ⊥
IsNoNextLine f bytes n (At m (kind.Invalid flaw)) = ⊥
IsNoNextLine f bytes n (At m kind.NoMain) = ⊥
IsNoNextLine f bytes n Memory = ⊤

-- the text is that of this partial program, which ends with its last line
pub record IsWhole (b : List ℕ) (f : Partial) : Type 0 where
  pub fit : IsFitPartial f
  pub done : f.place ≡ place.Done
  pub text : b ≡ lines_text (partial_lines f)

-- The lines before are the partial program of a text within the limits of the language, and no such partial program goes on with the next line:
-- what follows has no whole line, or its line is no next one. And the text doesn't end there.
pub record IsFirstBadLine (b : List ℕ) (n : ℕ) : Type 0 where
  pub partial : Partial
  pub fit : IsFitPartial partial
  pub rest : List ℕ
  pub text : b ≡ lines_text (partial_lines partial) ++ rest
  pub number : n ≡ line_number (length (partial_lines partial))
  pub no_line : (bytes behind : List ℕ) → rest ≡ bytes ++ 10 ∷ behind → NoNextLine partial bytes
  pub no_end : rest ≡ [] → partial.place ≡ place.Done → ⊥

abbrev pub IsLineFault : List ℕ → IlFault → Type 0
IsLineFault b (At n kind.Line) = IsFirstBadLine b n
IsLineFault b (At n kind.Order) = ⊥
IsLineFault b (At n (kind.Invalid flaw)) = ⊥
IsLineFault b (At n kind.NoMain) = ⊥
IsLineFault b Memory = ⊤
