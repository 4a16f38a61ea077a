-- The routine of a function: parameters are its first registers, each local takes the next register, or array, at its
-- declarator, and behind the body stands a return without a value.
use Rattle.std.specs.Prelude.{ℕ, suc, List, [], ◌∷◌, Bool, true, false, Option, Some, None, length, is_some, slice_get, slice_index, take}
use Rattle.il_core.specs.declared.instr.Instr.TheVariants as instr
use Rattle.il_core.specs.declared.instr.End.{End}
use Rattle.il_core.specs.declared.instr.End.TheVariants as ends
use Rattle.il_core.specs.Routine.{RoutineParts}
use Rattle.c_typed.specs.declared.function.Local.{Local}
use Rattle.c_typed.specs.Trees as tree
use Rattle.c_typed.specs.Trees.{Stmt, Sections, Function}
use Rattle.lower_laws.specs.Code.{Code, blocks_of, Numbers, past_end, past_label, word}
use Rattle.lower_laws.specs.Layouts.{Outline, Layout}
use Rattle.lower_laws.specs.Expressions.{past}
use Rattle.lower_laws.specs.Switches.{labels_past, labels_open, tests_past}
use Rattle.lower_laws.specs.Statements.{optional_past, optional_open, condition_past, no_value_past, open_behind, stmt_past, stmt_code}

-- the next register at each declarator of a statement in order, in front of those of what follows
abbrev mutual
  pub declarators : Outline → Stmt → Bool → Numbers → List ℕ → List ℕ
  declarators y tree.Empty opened n k = k
  declarators y (tree.Sequence s t) opened n k = declarators y s opened n (declarators y t (open_behind s opened) (stmt_past y s opened n) k)
  declarators y (tree.Declaration x e) opened n k = n.reg ∷ k
  declarators y (tree.Expression e) opened n k = k
  declarators y (tree.If e s) opened n k = declarators y s true (past_end (past e n)) k
  declarators y (tree.IfElse e s t) opened n k =
      let first = past_end (past e n) in
      declarators y s true first (declarators y t true (past_end (stmt_past y s true first)) k)
  declarators y (tree.Switch e ss) opened n k = section_declarators y ss false (past_end (tests_past ss (past e n))) k
  declarators y (tree.While e s) opened n k = declarators y s true (past_end (past e (past_label opened n))) k
  declarators y (tree.Do s e) opened n k = declarators y s true (past_label opened n) k
  declarators y (tree.For a b c s) opened n k =
      declarators y s true (condition_past b (past_label (optional_open a opened) (optional_past a n))) k
  declarators y tree.Break opened n k = k
  declarators y tree.Continue opened n k = k
  declarators y (tree.Return e) opened n k = k

  pub section_declarators : Outline → Sections → Bool → Numbers → List ℕ → List ℕ
  section_declarators y tree.End opened n k = k
  section_declarators y (tree.Section ls s rest) opened n k =
      let inside = labels_open ls opened in
      let there = labels_past ls opened n in
      declarators y s inside there (section_declarators y rest (open_behind s inside) (stmt_past y s inside there) k)

-- which locals are arrays, and how long these are
abbrev pub is_some_array : Option Local → Bool
is_some_array None = false
is_some_array (Some x) = is_some x.length

abbrev pub with_length : Option ℕ → List ℕ → List ℕ
with_length None k = k
with_length (Some n) k = n ∷ k

abbrev pub array_lengths : List Local → List ℕ
array_lengths [] = []
array_lengths (x ∷ xs) = with_length x.length (array_lengths xs)

-- arrays are numbered in the order of their declarators
abbrev pub arrays_before : List Local → ℕ → ℕ
arrays_before xs n = length (array_lengths (take n xs))

abbrev pub outline_of : Function → Outline
outline_of f = record { is_array = λ x. is_some_array (slice_get f.locals x); value = is_some f.result }

-- a body begins with block 0 open
abbrev pub first_numbers : Function → Numbers
first_numbers f = record { reg = length f.params; block = 0; site = 0; size = 0 }

abbrev pub layout_of : (ℕ → ℕ) → Function → Layout
layout_of count f =
    let y = outline_of f in
    record {
      outline = y;
      register = slice_index (declarators y f.body true (first_numbers f) []);
      array = arrays_before f.locals;
      count = count;
    }

-- behind the body, and behind the routine
abbrev pub body_past : Function → Numbers
body_past f = stmt_past (outline_of f) f.body true (first_numbers f)

abbrev pub last_numbers : Function → Numbers
last_numbers f = no_value_past (outline_of f).value (body_past f)

-- the return behind the body, which ends the last block
abbrev pub last_code : Bool → Numbers → Code
last_code false n = record { here = record { instrs = []; end = ends.Return None }; later = [] }
last_code true n = record { here = record { instrs = instr.Const n.reg (word 0) ∷ []; end = ends.Return (Some n.reg) }; later = [] }

-- Outside of loops and switches `break` and `continue` lead to no block; a module that types has none there.
abbrev pub nowhere : Function → End
nowhere f = ends.Jump (suc (body_past f).block)

abbrev pub body_code : Layout → Function → Code
body_code y f = stmt_code y (nowhere f) (nowhere f) f.body true (first_numbers f) (last_code y.outline.value (body_past f))

-- the routine of a function, with the counts of its entry and of its call sites
abbrev pub lowered : ℕ → (ℕ → ℕ) → Function → RoutineParts
lowered entry count f =
    let y = layout_of count f in
    record {
      pid = f.pid;
      params = length f.params;
      value = y.outline.value;
      regs = (last_numbers f).reg;
      entry = entry;
      arrays = array_lengths f.locals;
      blocks = blocks_of (body_code y f);
    }
