-- Partials of texts: what their lines are, and how they go on.
use Rattle.std.specs.Prelude.{ℕ, ◌+◌, ◌==◌, nat_lt, List, [], ◌∷◌, ◌++◌, Option, Some, None, if◌then◌else◌, length, map, flat_map}
use Rattle.il_core.specs.Limits.{max_routines, max_size}
use Rattle.il_core.specs.declared.instr.Block.{Block}
use Rattle.il_core.specs.declared.instr.Instr.{Instr}
use Rattle.il_text.specs.declared.partial.Partial.{Partial}
use Rattle.il_text.specs.declared.partial.Place.{Place}
use Rattle.il_text.specs.declared.partial.Place.TheVariants as place
use Rattle.il_text.specs.declared.line.Line.{Line}
use Rattle.il_text.specs.declared.line.Line.TheVariants as line
use Rattle.il_text.specs.declared.line.NamedObject.{NamedObject}
use Rattle.il_text.specs.declared.line.NamedRoutine.{NamedRoutine}
use Rattle.il_text.specs.declared.statement.Statement.{Statement}
use Rattle.il_text.specs.declared.statement.Statement.TheVariants as statement

-- a routine without its blocks, as its first line tells it
abbrev pub header : NamedRoutine → NamedRoutine
header r = record r { routine = record r.routine { blocks = [] } }

-- block b
abbrev pub block_lines : ℕ → Block → List Line
block_lines b x = line.Label b ∷ map (λ i. line.Inside (statement.Instr i)) x.instrs ++ line.Inside (statement.End x.end) ∷ []

-- blocks from number b on
abbrev pub blocks_lines : ℕ → List Block → List Line
blocks_lines b [] = []
blocks_lines b (x ∷ xs) = block_lines b x ++ blocks_lines (b + 1) xs

-- a routine up to its end
abbrev pub open_lines : NamedRoutine → List Line
open_lines r = line.Routine (header r) ∷ blocks_lines 0 r.routine.blocks

abbrev pub routine_lines : NamedRoutine → List Line
routine_lines r = open_lines r ++ line.Close ∷ []

-- what stands behind the objects and the routines that are ended
abbrev pub place_lines : Place → List Line
place_lines place.Start = []
place_lines place.Outside = []
place_lines (place.InRoutine r n) = open_lines r
place_lines (place.InBlock r n is) = open_lines r ++ line.Label (length r.routine.blocks) ∷ map (λ i. line.Inside (statement.Instr i)) is
place_lines place.Done = line.Done ∷ []

abbrev pub inner_lines : List NamedObject → List NamedRoutine → List Line
inner_lines os rs = map (λ o. line.Object o) os ++ flat_map routine_lines rs

-- the lines of a partial program
abbrev pub lines_of : Place → List NamedObject → List NamedRoutine → List Line
lines_of place.Start os rs = []
lines_of p os rs = line.First ∷ inner_lines os rs ++ place_lines p

abbrev pub partial_lines : Partial → List Line
partial_lines f = lines_of f.place f.objects f.routines

-- Going on by one line.

-- between objects and routines
abbrev pub outside : List NamedObject → List NamedRoutine → Line → Option Partial
outside os rs (line.Object o) = if length rs == 0 then Some (record { objects = os ++ o ∷ []; routines = rs; place = place.Outside }) else None
outside os rs (line.Routine r) = if nat_lt (length rs) max_routines then Some (record { objects = os; routines = rs; place = place.InRoutine r 0 }) else None
outside os rs line.Done = Some (record { objects = os; routines = rs; place = place.Done })
outside os rs _ = None

-- before a label or a routine's end
abbrev pub in_routine : List NamedObject → List NamedRoutine → NamedRoutine → ℕ → Line → Option Partial
in_routine os rs r n (line.Label k) = if k == length r.routine.blocks then Some (record { objects = os; routines = rs; place = place.InBlock r n [] }) else None
in_routine os rs r n line.Close = Some (record { objects = os; routines = rs ++ r ∷ []; place = place.Outside })
in_routine os rs r n _ = None

abbrev pub with_block : NamedRoutine → Block → NamedRoutine
with_block r x = record r { routine = record r.routine { blocks = r.routine.blocks ++ x ∷ [] } }

-- inside a block
abbrev pub in_block : NamedRoutine → ℕ → List Instr → Statement → Option Place
in_block r n is (statement.Instr i) = if nat_lt (n + length is) max_size then Some (place.InBlock r n (is ++ i ∷ [])) else None
in_block r n is (statement.End e) = if nat_lt (n + length is) max_size then Some
    (place.InRoutine (with_block r (record { instrs = is; end = e })) (n + length is + 1)) else None

abbrev pub at_place : List NamedObject → List NamedRoutine → Option Place → Option Partial
at_place os rs None = None
at_place os rs (Some p) = Some (record { objects = os; routines = rs; place = p })

-- the partial program with one more line
abbrev pub next_at : Place → List NamedObject → List NamedRoutine → Line → Option Partial
next_at place.Start os rs line.First = Some (record { objects = os; routines = rs; place = place.Outside })
next_at place.Start os rs _ = None
next_at place.Outside os rs l = outside os rs l
next_at (place.InRoutine r n) os rs l = in_routine os rs r n l
next_at (place.InBlock r n is) os rs (line.Inside s) = at_place os rs (in_block r n is s)
next_at (place.InBlock r n is) os rs _ = None
next_at place.Done os rs l = None

abbrev pub next : Partial → Line → Option Partial
next f l = next_at f.place f.objects f.routines l
