-- The kinds of lines, and what a reader of a kind has to answer.
use Rattle.std.specs.Prelude.{ℕ, ◌≡◌, List, [], ◌∷◌, Option, Some, codes}
use Rattle.il_text.specs.Heads.{object_tail, routine_tail}
use Rattle.il_text.specs.Lines.{IsFitObject, IsFitHeader, IsFitStatement, statement_parts}
use Rattle.il_text.specs.declared.line.Kind.{Kind}
use Rattle.il_text.specs.declared.line.Kind.TheVariants as kind
use Rattle.il_text.specs.declared.line.Line.{Line}
use Rattle.il_text.specs.declared.line.Line.TheVariants as line
use Rattle.il_text.specs.declared.line.NamedObject.{NamedObject}
use Rattle.il_text.specs.declared.line.NamedRoutine.{NamedRoutine}
use Rattle.il_text.specs.declared.statement.Statement.{Statement}

-- the first word of a kind's lines
abbrev pub kind_text : Kind → List ℕ
kind_text kind.Inside = []
kind_text kind.First = codes "hlo-il"
kind_text kind.Object = codes "object"
kind_text kind.Routine = codes "routine"
kind_text kind.Close = codes "end"
kind_text kind.Done = codes "done"

-- each line of this kind that goes on with these words
abbrev pub AnswersKind : Kind → List (List ℕ) → Option Line → Type 0
AnswersKind kind.Inside ws r = (s : Statement) → IsFitStatement s → ws ≡ [] ∷ statement_parts s → r ≡ Some (line.Inside s)
AnswersKind kind.First ws r = ws ≡ codes "1" ∷ [] → r ≡ Some line.First
AnswersKind kind.Object ws r = (x : NamedObject) → IsFitObject x → ws ≡ object_tail x → r ≡ Some (line.Object x)
AnswersKind kind.Routine ws r = (x : NamedRoutine) → IsFitHeader x → ws ≡ routine_tail x → r ≡ Some (line.Routine x)
AnswersKind kind.Close ws r = ws ≡ [] → r ≡ Some line.Close
AnswersKind kind.Done ws r = ws ≡ [] → r ≡ Some line.Done
