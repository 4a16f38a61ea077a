-- The lines of a program that was read are its text.
use Rattle.std.proofs.Common.{◌≡◌, ℕ, ◌+◌, List, [], ◌∷◌, ◌++◌, Option, Some, None, map, refl, sym, ◌∙◌, ap, subst, append_assoc, append-nil}
use Rattle.std.specs.Prelude.{flat_map, Contains, codes}
use Rattle.std.specs.List.{AllByRecursion, join_with_byte}
use Rattle.std.proofs.lemmas.Grind.{flat_map-append}
use Rattle.il_core.specs.declared.instr.Block.{Block}
use Rattle.il_core.specs.declared.instr.Instr.{Instr}
use Rattle.il_core.specs.declared.shape.ShapeRow.{ShapeRow}
use Rattle.il_core.specs.declared.program.IlProgram.{IlProgram}
use Rattle.il_core.specs.Object.{ObjectParts}
use Rattle.il_core.specs.Program.{name_at, name_of_row}
use Rattle.il_core.specs.Text as text
use Rattle.il_text.specs.declared.partial.Place.TheVariants.{Done}
use Rattle.il_text.specs.declared.line.Line.{Line}
use Rattle.il_text.specs.declared.line.Line.TheVariants as line
use Rattle.il_text.specs.declared.line.NamedObject.{NamedObject}
use Rattle.il_text.specs.declared.line.NamedRoutine.{NamedRoutine}
use Rattle.il_text.specs.declared.statement.Statement.{Statement}
use Rattle.il_text.specs.declared.statement.Statement.TheVariants as statement
use Rattle.il_text.specs.Assembled.{object_row, routine_row, HasPartsOf}
use Rattle.il_text.specs.Partials.{block_lines, blocks_lines, open_lines, routine_lines, inner_lines, lines_of}
use Rattle.il_text.specs.Lines.{statement_parts}
use Rattle.il_text.specs.Mnemonics.{mnemonic_text}
use Rattle.il_text.specs.Parts.{dest_of, name_of, operands_of}
use Rattle.il_text.specs.Texts.{line_bytes, lines_text}
use Rattle.il_text.proofs.Programs.{Rising, row_found, object_rows_in, routine_rows_in}
use Rattle.il_text.proofs.StatementForms.{by_parts}

pub text_append : (ls ms : List Line) → lines_text (ls ++ ms) ≡ lines_text ls ++ lines_text ms
text_append ls ms = flat_map-append (λ l. line_bytes l ++ 10 ∷ []) ls ms

abbrev bytes_of : List (List ℕ) → List ℕ
bytes_of ps = join_with_byte 32 ([] ∷ [] ∷ ps) ++ 10 ∷ []

indented_gets : (o : Option ℕ) (p : List ℕ) (ps : List (List ℕ)) → bytes_of (text.gets_if_some o (p ∷ ps)) ≡ text.indented (text.gets_if_some o (p ∷ ps))
indented_gets None p ps = refl
indented_gets (Some d) p ps = refl

inside_text : (s : Statement) → bytes_of (statement_parts s) ≡ text.indented (statement_parts s)
inside_text s = subst (λ ps. bytes_of ps ≡ text.indented ps) (sym (by_parts s)) (indented_gets (dest_of s) (mnemonic_text (name_of s)) (operands_of s))

instrs_text : (is : List Instr) → lines_text (map (λ i. line.Inside (statement.Instr i)) is) ≡ flat_map (λ i. text.indented (text.instr_parts i)) is
instrs_text [] = refl
instrs_text (i ∷ is) = ap (λ bs. bs ++ lines_text (map (λ j. line.Inside (statement.Instr j)) is)) (inside_text (statement.Instr i)) ∙ ap
    (λ bs. text.indented (text.instr_parts i) ++ bs) (instrs_text is)

block_text : (b : ℕ) (x : Block) → lines_text (block_lines b x) ≡ text.block_text b x
block_text b x =
    ap (λ bs. text.line ((text.block b ++ 58 ∷ []) ∷ []) ++ bs)
    (text_append (map (λ i. line.Inside (statement.Instr i)) x.instrs) (line.Inside (statement.End x.end) ∷ [])
    ∙ ap (λ bs. bs ++ lines_text (line.Inside (statement.End x.end) ∷ [])) (instrs_text x.instrs)
    ∙ ap (λ bs. flat_map (λ i. text.indented (text.instr_parts i)) x.instrs ++ bs)
    (append-nil (bytes_of (text.end_parts x.end)) ∙ inside_text (statement.End x.end)))
    ∙ sym (append_assoc (text.line ((text.block b ++ 58 ∷ []) ∷ [])) (flat_map (λ i. text.indented (text.instr_parts i)) x.instrs)
    (text.indented (text.end_parts x.end)))

blocks_text : (b : ℕ) (xs : List Block) → lines_text (blocks_lines b xs) ≡ text.blocks_text b xs
blocks_text b [] = refl
blocks_text b (x ∷ xs) = text_append (block_lines b x) (blocks_lines (b + 1) xs) ∙ ap (λ bs. bs ++ lines_text (blocks_lines (b + 1) xs)) (block_text b x) ∙ ap
    (λ bs. text.block_text b x ++ bs) (blocks_text (b + 1) xs)

pub routine_text : (r : NamedRoutine) → lines_text (routine_lines r) ≡ text.routine_text r.name r.routine
routine_text r =
    text_append (open_lines r) (line.Close ∷ [])
    ∙ ap (λ bs. bs ++ text.line (codes "end" ∷ [])) (ap (λ bs. text.line (text.routine_parts r.name r.routine) ++ bs) (blocks_text 0 r.routine.blocks))

-- the names are those of the rows
object_named : (rows : List ShapeRow) (o : NamedObject) → Rising rows → Contains rows (object_row o) → name_at rows o.object.pid ≡ o.name
object_named rows o h c = ap name_of_row (row_found rows (object_row o) h c)

routine_named : (rows : List ShapeRow) (r : NamedRoutine) → Rising rows → Contains rows (routine_row r) → name_at rows r.routine.pid ≡ r.name
routine_named rows r h c = ap name_of_row (row_found rows (routine_row r) h c)

objects_text : (rows : List ShapeRow) (os : List NamedObject) → Rising rows → AllByRecursion (λ o. Contains rows (object_row o)) os
    → lines_text (map (λ o. line.Object o) os) ≡ flat_map (λ (o : ObjectParts). text.line (text.object_parts (name_at rows o.pid) o)) (map (λ o. o.object) os)
objects_text rows [] h k = refl
objects_text rows (o ∷ os) h k =
    ap (λ bs. text.line (text.object_parts o.name o.object) ++ bs) (objects_text rows os h k.1)
    ∙ ap (λ name. text.line (text.object_parts name o.object) ++ flat_map (λ (x : ObjectParts). text.line (text.object_parts (name_at rows x.pid) x))
    (map (λ x. x.object) os)) (sym (object_named rows o h k.0))

routines_text : (rows : List ShapeRow) (rs : List NamedRoutine) → Rising rows → AllByRecursion (λ r. Contains rows (routine_row r)) rs
    → lines_text (flat_map routine_lines rs) ≡ text.routines_text rows (map (λ r. r.routine) rs)
routines_text rows [] h k = refl
routines_text rows (r ∷ rs) h k =
    text_append (routine_lines r) (flat_map routine_lines rs)
    ∙ ap (λ bs. bs ++ lines_text (flat_map routine_lines rs)) (routine_text r)
    ∙ ap (λ bs. text.routine_text r.name r.routine ++ bs) (routines_text rows rs h k.1)
    ∙ ap (λ name. text.routine_text name r.routine ++ text.routines_text rows (map (λ x. x.routine) rs)) (sym (routine_named rows r h k.0))

whole : (rows : List ShapeRow) (os : List NamedObject) (rs : List NamedRoutine) → Rising rows → AllByRecursion (λ o. Contains rows (object_row o)) os
    → AllByRecursion (λ r. Contains rows (routine_row r)) rs
    → lines_text (lines_of Done os rs) ≡ text.head_text rows (map (λ o. o.object) os) ++ text.routines_text rows (map (λ r. r.routine) rs) ++ text.done_text
whole rows os rs h a b =
    let first : List ℕ = text.line (codes "hlo-il" ∷ codes "1" ∷ []) in
    let objects : List ℕ = flat_map (λ (o : ObjectParts). text.line (text.object_parts (name_at rows o.pid) o)) (map (λ o. o.object) os) in
    ap (λ bs. first ++ bs)
    (text_append (inner_lines os rs) (line.Done ∷ [])
    ∙ ap (λ bs. bs ++ text.done_text) (text_append (map (λ o. line.Object o) os) (flat_map routine_lines rs)
    ∙ ap (λ bs. bs ++ lines_text (flat_map routine_lines rs)) (objects_text rows os h a)
    ∙ ap (λ bs. objects ++ bs) (routines_text rows rs h b)))
    ∙ sym (append_assoc first (objects ++ text.routines_text rows (map (λ r. r.routine) rs)) text.done_text)
    ∙ ap (λ bs. bs ++ text.done_text) (sym (append_assoc first objects (text.routines_text rows (map (λ r. r.routine) rs))))

-- the text of the program
pub program_text : (os : List NamedObject) (rs : List NamedRoutine) (p : IlProgram) → HasPartsOf os rs p → lines_text (lines_of Done os rs) ≡ text.text p
program_text os rs p h =
    whole p.shapes os rs h.rising (object_rows_in os rs p.shapes h.rows) (routine_rows_in os rs p.shapes h.rows)
    ∙ ap (λ xs. text.head_text p.shapes xs ++ text.routines_text p.shapes (map (λ r. r.routine) rs) ++ text.done_text) (sym h.objects)
    ∙ ap (λ xs. text.head_text p.shapes p.objects ++ text.routines_text p.shapes xs ++ text.done_text) (sym h.routines)
