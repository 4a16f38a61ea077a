-- What the reader's functions do, by the machine.
use Rattle.std.specs.Prelude.{ℕ, ◌≡◌, ◌+◌, ◌≤◌, List, [], ◌∷◌, ◌++◌, length, drop, ⊤, Result, Ok, Err}
use Rattle.std.specs.List.{slice_range}
use Rattle.c_tree.specs.declared.token.Token.{Token}
use Rattle.c_lex.specs.declared.phase.Place.{Place}
use Rattle.c_lex.specs.declared.phase.Context.{Context}
use Rattle.c_lex.specs.declared.phase.Piece.{Piece}
use Rattle.c_lex.specs.declared.phase.Phase.{Phase}
use Rattle.c_lex.specs.declared.fault.LexKind.{LexKind}
use Rattle.c_lex.specs.declared.fault.LexFault.{LexFault}
use Rattle.c_lex.specs.declared.fault.LexFault.TheVariants.{At, Memory}
use Rattle.c_lex.specs.declared.reader.Reader.{Reader}
use Rattle.c_lex.specs.Text.{past, after, tokens_of, told_line}
use Rattle.c_lex.specs.Machine.{Reading, Tokens, Fault, before, run, Gets}

-- what is read of the open piece
abbrev pub open_bytes : List ℕ → Reader → List ℕ
open_bytes b r = slice_range b r.start.at r.here.at

-- the reader's piece is open there in the text
pub record IsOpen (b : List ℕ) (r : Reader) : Type 0 where
  pub ordered : r.start.at ≤ r.here.at
  pub within : r.here.at ≤ length b
  pub lines : r.here.line ≤ r.here.at + 1
  pub place : r.here ≡ past r.start (open_bytes b r)
  pub leads : Gets r.context (open_bytes b r) r.phase

-- what the machine says of the bytes left
abbrev pub left : List ℕ → Reader → Reading
left b r = run (drop r.here.at b) r.context r.start (open_bytes b r) r.phase

-- the reader behind the first byte of a piece
abbrev pub opened : Result Phase LexKind → Context → Place → ℕ → Result Reader LexFault
opened (Ok ph) w p c = Ok (record { context = w; start = p; here = past p (c ∷ []); phase = ph })
opened (Err k) w p c = Err (At p.line k)

-- a piece ends: its tokens are added, and the context behind it is told
abbrev pub Ends : Result Piece LexKind → Context → Place → List ℕ → List Token → List Token → Result Context LexFault → Type 0
Ends (Ok x) w p us out new (Ok w2) = (new ≡ out ++ tokens_of x w p us) × (w2 ≡ after x w p us)
Ends (Ok x) w p us out new (Err e) = e ≡ Memory
Ends (Err k) w p us out new (Ok w2) = ⊥
Ends (Err k) w p us out new (Err e) = e ≡ At (told_line k p us) k

-- the machine stops with this fault
abbrev pub Faults : Reading → LexFault → Type 0
Faults x (At line k) = (rest : List ℕ) × (x ≡ Fault k line rest)
Faults x Memory = Unit {0}

-- one byte is read
abbrev pub Advances : List ℕ → Reader → List Token → List Token → Result Reader LexFault → Type 0
Advances b r out new (Ok r2) = IsOpen b r2 × (r2.here.at ≡ r.here.at + 1) × (before out (left b r) ≡ before new (left b r2))
Advances b r out new (Err e) = Faults (left b r) e

-- the text ends
abbrev pub Finishes : List ℕ → Reader → List Token → List Token → Result ⊤ LexFault → Type 0
Finishes b r out new (Ok u) = before out (left b r) ≡ Tokens new
Finishes b r out new (Err e) = Faults (left b r) e
