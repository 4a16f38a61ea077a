-- The lines of a text, each as its words: what stands between its spaces. A line inside a block begins with two empty words.
use Rattle.std.specs.Prelude.{ℕ, ◌≡◌, ◌++◌, ◌<◌, List, [], ◌∷◌, codes, ⊤}
use Rattle.hlo_num.specs.Name.{IsName}
use Rattle.hlo_num.specs.Words.{IsWord}
use Rattle.il_core.specs.Limits.{IsPid, IsInstr, IsWithinLimits}
use Rattle.il_core.specs.Object.{IsTrimmed}
use Rattle.il_core.specs.Ranges.{AreWords, AreConstants, numbers_of, end_numbers}
use Rattle.il_core.specs.Text.{block, instr_parts, end_parts, object_parts, routine_parts}
use Rattle.il_text.specs.declared.line.NamedObject.{NamedObject}
use Rattle.il_text.specs.declared.line.NamedRoutine.{NamedRoutine}
use Rattle.il_text.specs.declared.statement.Statement.{Statement}
use Rattle.il_text.specs.declared.statement.Statement.TheVariants as statement
use Rattle.il_text.specs.declared.line.Line.{Line}
use Rattle.il_text.specs.declared.line.Line.TheVariants.{First, Object, Routine, Label, Inside, Close, Done}

abbrev pub statement_parts : Statement → List (List ℕ)
statement_parts (statement.Instr i) = instr_parts i
statement_parts (statement.End e) = end_parts e

-- within the limits of one line
abbrev pub IsFitStatement : Statement → Type 0
IsFitStatement (statement.Instr i) = IsInstr i × AreWords (numbers_of i)
IsFitStatement (statement.End e) = AreWords (end_numbers e)

abbrev pub line_words : Line → List (List ℕ)
line_words First = codes "hlo-il" ∷ codes "1" ∷ []
line_words (Object o) = object_parts o.name o.object
line_words (Routine r) = routine_parts r.name r.routine
line_words (Label n) = (block n ++ 58 ∷ []) ∷ []
line_words (Inside s) = [] ∷ [] ∷ statement_parts s
line_words Close = codes "end" ∷ []
line_words Done = codes "done" ∷ []

-- an object that a line can tell
pub record IsFitObject (o : NamedObject) : Type 0 where
  pub name : IsName o.name
  pub pid : IsPid o.object.pid
  pub words : IsWord o.object.words
  pub some : 0 < o.object.words
  pub trimmed : IsTrimmed o.object.words o.object.init
  pub init : AreConstants o.object.init

-- a routine's first line tells no blocks
pub record IsFitHeader (r : NamedRoutine) : Type 0 where
  pub name : IsName r.name
  pub limits : IsWithinLimits r.routine
  pub entry : IsWord r.routine.entry
  pub blocks : r.routine.blocks ≡ []

abbrev pub IsFitLine : Line → Type 0
IsFitLine First = ⊤
IsFitLine (Object o) = IsFitObject o
IsFitLine (Routine r) = IsFitHeader r
IsFitLine (Label n) = IsWord n
IsFitLine (Inside s) = IsFitStatement s
IsFitLine Close = ⊤
IsFitLine Done = ⊤
