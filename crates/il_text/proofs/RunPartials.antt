-- The lines of a partial program lead to that partial program, and to no other.
use Rattle.std.proofs.Common.{◌≡◌, ℕ, ◌+◌, ◌<◌, ◌≤◌, List, [], ◌∷◌, ◌++◌, length, map, Option, Some, None, refl, sym, ◌∙◌, ap, subst, append-nil}
use Rattle.std.proofs.Common.{append_assoc, length-append, arith}
use Rattle.std.specs.Prelude.{flat_map}
use Rattle.std.specs.List.{AllByRecursion}
use Rattle.std.proofs.lemmas.Bool.{eq-eqb, lt-ltb}
use Rattle.std.proofs.lemmas.List.Sums.{sum_by-cons}
use Rattle.il_core.specs.Limits.{max_routines, max_size}
use Rattle.il_core.specs.declared.instr.Block.{Block}
use Rattle.il_core.specs.declared.instr.Instr.{Instr}
use Rattle.il_core.specs.Size.{block_size, blocks_size, size}
use Rattle.il_text.specs.declared.partial.Partial.{Partial}
use Rattle.il_text.specs.declared.partial.Place.{Place}
use Rattle.il_text.specs.declared.partial.Place.TheVariants.{Start, Outside, InRoutine, InBlock, Done}
use Rattle.il_text.specs.declared.line.Line.{Line}
use Rattle.il_text.specs.declared.line.Line.TheVariants as line
use Rattle.il_text.specs.declared.line.NamedObject.{NamedObject}
use Rattle.il_text.specs.declared.line.NamedRoutine.{NamedRoutine}
use Rattle.il_text.specs.declared.statement.Statement.TheVariants as statement
use Rattle.il_text.specs.Partials.{header, block_lines, blocks_lines, open_lines, routine_lines, place_lines, inner_lines, lines_of, partial_lines}
use Rattle.il_text.specs.Partials.{with_block, next}
use Rattle.il_text.specs.FitPartials.{IsFitRoutine, IsFitBlock, IsFitPlace, IsRoomAt, IsFitPartial}

abbrev partial : List NamedObject → List NamedRoutine → Place → Partial
partial os rs p = record { objects = os; routines = rs; place = p }

abbrev and_next : Option Partial → Line → Option Partial
and_next None l = None
and_next (Some f) l = next f l

-- the partial program behind these lines
abbrev pub run : Option Partial → List Line → Option Partial
run o [] = o
run o (l ∷ ls) = run (and_next o l) ls

pub run_append : (o : Option Partial) (xs ys : List Line) → run o (xs ++ ys) ≡ run (run o xs) ys
run_append o [] ys = refl
run_append o (x ∷ xs) ys = run_append (and_next o x) xs ys

-- two stretches of lines, one after another
then_run : (o : Option Partial) (xs ys : List Line) (f : Partial) (g : Option Partial) → run o xs ≡ Some f → run (Some f) ys ≡ g → run o (xs ++ ys) ≡ g
then_run o xs ys f g e h = run_append o xs ys ∙ ap (λ q. run q ys) e ∙ h

-- one line, and then more
then_next : (f g : Partial) (l : Line) (ls : List Line) (o : Option Partial) → next f l ≡ Some g → run (Some g) ls ≡ o → run (Some f) (l ∷ ls) ≡ o
then_next f g l ls o e h = ap (λ q. run q ls) e ∙ h

next_instr : (os : List NamedObject) (rs : List NamedRoutine) (r : NamedRoutine) (n : ℕ) (is : List Instr) (i : Instr) → n + length is < max_size
    → next (partial os rs (InBlock r n is)) (line.Inside (statement.Instr i)) ≡ Some (partial os rs (InBlock r n (is ++ i ∷ [])))
next_instr os rs r n is i lt = rw (lt-ltb (n + length is) max_size (omega arith)) refl

next_end : (os : List NamedObject) (rs : List NamedRoutine) (r : NamedRoutine) (n : ℕ) (x : Block) → n + length x.instrs < max_size
    → next (partial os rs (InBlock r n x.instrs)) (line.Inside (statement.End x.end)) ≡ Some
    (partial os rs (InRoutine (with_block r x) (n + length x.instrs + 1)))
next_end os rs r n x lt = rw (lt-ltb (n + length x.instrs) max_size (omega arith)) refl

next_label : (os : List NamedObject) (rs : List NamedRoutine) (r : NamedRoutine) (n : ℕ)
    → next (partial os rs (InRoutine r n)) (line.Label (length r.routine.blocks)) ≡ Some (partial os rs (InBlock r n []))
next_label os rs r n = rw (eq-eqb (length r.routine.blocks) (length r.routine.blocks) refl) refl

next_routine : (os : List NamedObject) (rs : List NamedRoutine) (r : NamedRoutine) → length rs < max_routines
    → next (partial os rs Outside) (line.Routine r) ≡ Some (partial os rs (InRoutine r 0))
next_routine os rs r lt = rw (lt-ltb (length rs) max_routines (omega arith)) refl

abbrev instr_lines : List Instr → List Line
instr_lines is = map (λ i. line.Inside (statement.Instr i)) is

run_instrs : (os : List NamedObject) (rs : List NamedRoutine) (r : NamedRoutine) (n : ℕ) (is js : List Instr) → n + length is + length js ≤ max_size
    → run (Some (partial os rs (InBlock r n is))) (instr_lines js) ≡ Some (partial os rs (InBlock r n (is ++ js)))
run_instrs os rs r n is [] h = ap (λ l. Some (partial os rs (InBlock r n l))) (sym (append-nil is))
run_instrs os rs r n is (j ∷ js) h =
    let lt : n + length is < max_size = omega arith in
    let len = length-append is (j ∷ []) in
    then_next (partial os rs (InBlock r n is)) (partial os rs (InBlock r n (is ++ j ∷ []))) (line.Inside (statement.Instr j)) (instr_lines js) _
    (next_instr os rs r n is j lt)
    (run_instrs os rs r n (is ++ j ∷ []) js (omega (arith, len)) ∙ ap (λ l. Some (partial os rs (InBlock r n l))) (append_assoc is (j ∷ []) js))

run_block : (os : List NamedObject) (rs : List NamedRoutine) (r : NamedRoutine) (n : ℕ) (x : Block) → n + block_size x ≤ max_size
    → run (Some (partial os rs (InRoutine r n))) (block_lines (length r.routine.blocks) x) ≡ Some
    (partial os rs (InRoutine (with_block r x) (n + block_size x)))
run_block os rs r n x h =
    then_next (partial os rs (InRoutine r n)) (partial os rs (InBlock r n [])) (line.Label (length r.routine.blocks))
    (instr_lines x.instrs ++ line.Inside (statement.End x.end) ∷ []) _ (next_label os rs r n)
    (then_run (Some (partial os rs (InBlock r n []))) (instr_lines x.instrs) (line.Inside (statement.End x.end) ∷ []) (partial os rs (InBlock r n x.instrs)) _
    (run_instrs os rs r n [] x.instrs (omega arith))
    (next_end os rs r n x (omega arith) ∙ ap (λ m. Some (partial os rs (InRoutine (with_block r x) m))) (omega arith)))

-- a routine with more blocks
abbrev with_blocks : NamedRoutine → List Block → NamedRoutine
with_blocks r xs = record r { routine = record r.routine { blocks = r.routine.blocks ++ xs } }

more_blocks : (r : NamedRoutine) (x : Block) (xs : List Block) → with_blocks (with_block r x) xs ≡ with_blocks r (x ∷ xs)
more_blocks r x xs = ap (λ bs. let q : NamedRoutine = record r { routine = record r.routine { blocks = bs } } in q) (append_assoc r.routine.blocks (x ∷ []) xs)

no_blocks : (r : NamedRoutine) → with_blocks r [] ≡ r
no_blocks r = ap (λ bs. let q : NamedRoutine = record r { routine = record r.routine { blocks = bs } } in q) (append-nil r.routine.blocks)

run_blocks : (os : List NamedObject) (rs : List NamedRoutine) (r : NamedRoutine) (n b : ℕ) (xs : List Block) → b ≡ length r.routine.blocks
    → n + blocks_size xs ≤ max_size
    → run (Some (partial os rs (InRoutine r n))) (blocks_lines b xs) ≡ Some (partial os rs (InRoutine (with_blocks r xs) (n + blocks_size xs)))
run_blocks os rs r n b [] e h = ap (λ q. Some (partial os rs (InRoutine q n))) (sym (no_blocks r)) ∙ ap
    (λ m. Some (partial os rs (InRoutine (with_blocks r []) m)))
    (omega arith)
run_blocks os rs r n b (x ∷ xs) e h =
    let total : blocks_size (x ∷ xs) ≡ block_size x + blocks_size xs = sum_by-cons block_size x xs in
    let len = length-append r.routine.blocks (x ∷ []) in
    then_run (Some (partial os rs (InRoutine r n))) (block_lines b x) (blocks_lines (b + 1) xs)
    (partial os rs (InRoutine (with_block r x) (n + block_size x))) _
    (subst (λ k. run (Some (partial os rs (InRoutine r n))) (block_lines k x) ≡ Some (partial os rs (InRoutine (with_block r x) (n + block_size x)))) (sym e)
    (run_block os rs r n x (omega (arith, total))))
    (run_blocks os rs (with_block r x) (n + block_size x) (b + 1) xs (omega (arith, len)) (omega (arith, total))
    ∙ ap (λ q. Some (partial os rs (InRoutine q (n + block_size x + blocks_size xs)))) (more_blocks r x xs)
    ∙ ap (λ m. Some (partial os rs (InRoutine (with_blocks r (x ∷ xs)) m))) (omega (arith, total)))

run_open : (os : List NamedObject) (rs : List NamedRoutine) (r : NamedRoutine) → length rs < max_routines → IsFitRoutine r
    → run (Some (partial os rs Outside)) (open_lines r) ≡ Some (partial os rs (InRoutine r (size r.routine)))
run_open os rs r lt h =
    then_next (partial os rs Outside) (partial os rs (InRoutine (header r) 0)) (line.Routine (header r)) (blocks_lines 0 r.routine.blocks) _
    (next_routine os rs (header r) lt)
    (run_blocks os rs (header r) 0 0 r.routine.blocks refl (omega (arith, h.limits.size)) ∙ ap (λ m. Some (partial os rs (InRoutine r m))) (omega arith))

run_routine : (os : List NamedObject) (rs : List NamedRoutine) (r : NamedRoutine) → length rs < max_routines → IsFitRoutine r
    → run (Some (partial os rs Outside)) (routine_lines r) ≡ Some (partial os (rs ++ r ∷ []) Outside)
run_routine os rs r lt h = then_run (Some (partial os rs Outside)) (open_lines r) (line.Close ∷ []) (partial os rs (InRoutine r (size r.routine))) _
    (run_open os rs r lt h) refl

run_routines : (os : List NamedObject) (rs xs : List NamedRoutine) → length rs + length xs ≤ max_routines → AllByRecursion IsFitRoutine xs
    → run (Some (partial os rs Outside)) (flat_map routine_lines xs) ≡ Some (partial os (rs ++ xs) Outside)
run_routines os rs [] le h = ap (λ l. Some (partial os l Outside)) (sym (append-nil rs))
run_routines os rs (x ∷ xs) le h =
    let len = length-append rs (x ∷ []) in
    then_run (Some (partial os rs Outside)) (routine_lines x) (flat_map routine_lines xs) (partial os (rs ++ x ∷ []) Outside) _
    (run_routine os rs x (omega arith) h.0)
    (run_routines os (rs ++ x ∷ []) xs (omega (arith, len)) h.1 ∙ ap (λ l. Some (partial os l Outside)) (append_assoc rs (x ∷ []) xs))

run_objects : (os xs : List NamedObject) → run (Some (partial os [] Outside)) (map (λ o. line.Object o) xs) ≡ Some (partial (os ++ xs) [] Outside)
run_objects os [] = ap (λ l. Some (partial l [] Outside)) (sym (append-nil os))
run_objects os (x ∷ xs) = run_objects (os ++ x ∷ []) xs ∙ ap (λ l. Some (partial l [] Outside)) (append_assoc os (x ∷ []) xs)

run_inner : (os : List NamedObject) (rs : List NamedRoutine) → length rs ≤ max_routines → AllByRecursion IsFitRoutine rs
    → run (Some (partial [] [] Outside)) (inner_lines os rs) ≡ Some (partial os rs Outside)
run_inner os rs le h = then_run (Some (partial [] [] Outside)) (map (λ o. line.Object o) os) (flat_map routine_lines rs) (partial os [] Outside) _
    (run_objects [] os) (run_routines os [] rs (omega arith) h)

abbrev pub at_start : Partial
at_start = partial [] [] Start

run_to : (os : List NamedObject) (rs : List NamedRoutine) (p : Place) → length rs ≤ max_routines → AllByRecursion IsFitRoutine rs
    → run (Some (partial os rs Outside)) (place_lines p) ≡ Some (partial os rs p)
    → run (Some at_start) (line.First ∷ inner_lines os rs ++ place_lines p) ≡ Some (partial os rs p)
run_to os rs p le h e = then_run (Some (partial [] [] Outside)) (inner_lines os rs) (place_lines p) (partial os rs Outside) _ (run_inner os rs le h) e

run_in_block : (os : List NamedObject) (rs : List NamedRoutine) (r : NamedRoutine) (n : ℕ) (is : List Instr) → length rs < max_routines → IsFitRoutine r
    → n ≡ size r.routine → IsFitBlock n is
    → run (Some (partial os rs Outside)) (place_lines (InBlock r n is)) ≡ Some (partial os rs (InBlock r n is))
run_in_block os rs r n is lt h e b =
    then_run (Some (partial os rs Outside)) (open_lines r) (line.Label (length r.routine.blocks) ∷ instr_lines is) (partial os rs (InRoutine r n)) _
    (run_open os rs r lt h ∙ ap (λ m. Some (partial os rs (InRoutine r m))) (sym e))
    (then_next (partial os rs (InRoutine r n)) (partial os rs (InBlock r n [])) (line.Label (length r.routine.blocks)) (instr_lines is) _ (next_label os rs r n)
    (run_instrs os rs r n [] is (omega (arith, b.room))))

run_at : (p : Place) (os : List NamedObject) (rs : List NamedRoutine) → AllByRecursion IsFitRoutine rs → IsFitPlace p → IsRoomAt p os rs
    → run (Some at_start) (lines_of p os rs) ≡ Some (partial os rs p)
run_at Start os rs h k room = ap (λ l. Some (partial l [] Start)) (sym room.0) ∙ ap (λ l. Some (partial os l Start)) (sym room.1)
run_at Outside os rs h k room = run_to os rs Outside room h refl
run_at (InRoutine r n) os rs h k room = run_to os rs (InRoutine r n) (omega arith) h
    (run_open os rs r room k.0 ∙ ap (λ m. Some (partial os rs (InRoutine r m))) (sym k.1))
run_at (InBlock r n is) os rs h k room = run_to os rs (InBlock r n is) (omega arith) h (run_in_block os rs r n is room k.0 k.1 k.2)
run_at Done os rs h k room = run_to os rs Done room h refl

-- the lines of a partial program that fits lead to it
pub run_partial : (f : Partial) → IsFitPartial f → run (Some at_start) (partial_lines f) ≡ Some f
run_partial f h = run_at f.place f.objects f.routines h.routines h.place h.room

-- what follows a partial program is told by its lines and the next one
pub next_told : (f g : Partial) (l : Line) → IsFitPartial f → IsFitPartial g → partial_lines g ≡ partial_lines f ++ l ∷ [] → next f l ≡ Some g
next_told f g l h k e = sym (run_append (Some at_start) (partial_lines f) (l ∷ []) ∙ ap (λ o. run o (l ∷ [])) (run_partial f h)) ∙ ap
    (λ ls. run (Some at_start) ls)
    (sym e) ∙ run_partial g k

-- two partial programs with the same lines are one
pub same_partial : (f g : Partial) → IsFitPartial f → IsFitPartial g → partial_lines f ≡ partial_lines g → f ≡ g
same_partial f g h k e = let s : Some f ≡ Some g = sym (run_partial f h) ∙ ap (λ ls. run (Some at_start) ls) e ∙ run_partial g k in cc s
