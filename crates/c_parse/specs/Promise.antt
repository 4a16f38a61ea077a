-- What the parser promises on a list of tokens.
use Rattle.std.specs.Prelude.{ℕ, zero, suc, ◌≡◌, ◌+◌, ◌<◌, ◌≤◌, List, [], ◌∷◌, ◌++◌, take, length, Result, Ok, Err}
use Rattle.c_tree.specs.declared.token.Token.{Token}
use Rattle.c_tree.specs.declared.declaration.Module.{Module}
use Rattle.c_parse.specs.declared.fault.ParseFault.{ParseFault}
use Rattle.c_parse.specs.declared.fault.ParseFault.TheVariants as faults
use Rattle.c_parse.specs.declared.fault.ParseKind.{ParseKind}
use Rattle.c_parse.specs.declared.fault.ParseKind.TheVariants as kinds
use Rattle.c_parse.specs.Modules.{IsModule}

-- the tokens spell the module; some height, which is at least 1, bounds its trees
abbrev pub Spells : Module → List Token → Type 0
Spells m ws = (n : ℕ) × IsModule (suc n) m ws

-- how high a statement or an expression may be
unfoldable pub limit : ℕ
limit = 256

-- they spell it, and no statement or expression in it is higher than the limit
abbrev pub IsAccepted : Module → List Token → Type 0
IsAccepted m ws = IsModule limit m ws

-- some module begins with these tokens
abbrev pub Continues : List Token → Type 0
Continues us = (m : Module) × (vs : List Token) × Spells m (us ++ vs)

-- some module that is accepted begins with these tokens
abbrev pub GoesOn : List Token → Type 0
GoesOn us = (m : Module) × (vs : List Token) × IsAccepted m (us ++ vs)

-- the fault is Unexpected where no module at all continues with the token at that place, or ends there; otherwise
-- it is Deep: some module does, but each such module is too high
abbrev pub Cause : ParseKind → List Token → ℕ → Type 0
Cause kinds.Unexpected ts at = (at < length ts → Continues (take (at + 1) ts) → ⊥) × (at ≡ length ts → (m : Module) → Spells m ts → ⊥)
Cause kinds.Deep ts at = (at < length ts → Continues (take (at + 1) ts)) × (at ≡ length ts → (m : Module) × Spells m ts)

-- the first place, from 0, with whose token no accepted module goes on; the length of the list stands for its end
pub record IsFault (kind : ParseKind) (ts : List Token) (at : ℕ) : Type 0 where
  pub within : at ≤ length ts
  pub before : GoesOn (take at ts)
  pub here : at < length ts → GoesOn (take (at + 1) ts) → ⊥
  pub whole : at ≡ length ts → (m : Module) → IsAccepted m ts → ⊥
  pub cause : Cause kind ts at

-- the line at a place: its token's, and at the end the last token's
abbrev pub line_at : List Token → ℕ → ℕ
line_at [] at = 0
line_at (t ∷ []) at = t.line
line_at (t ∷ u ∷ ts) zero = t.line
line_at (t ∷ u ∷ ts) (suc at) = line_at (u ∷ ts) at

-- the answer for these tokens
abbrev pub Answers : List Token → Result Module ParseFault → Type 0
Answers ts (Ok m) = IsAccepted m ts × ((other : Module) → Spells other ts → m ≡ other)
Answers ts (Err (faults.At line kind)) = (at : ℕ) × IsFault kind ts at × (line ≡ line_at ts at)
Answers ts (Err faults.Memory) = Unit {0}
