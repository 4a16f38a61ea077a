-- The operands of instructions and ends: the registers that they read and write, the arrays, objects, routines and blocks
-- that they name, whether they can trap, and the same instruction under other names.
use Rattle.std.specs.Prelude.{ℕ, Bool, true, false, not, List, [], ◌∷◌, Option, Some, None, nat_eq, option_map}
use Rattle.std.specs.List.{list_any}
use Rattle.hlo_num.specs.declared.word.Op.{Op}
use Rattle.hlo_num.specs.declared.word.Op.TheVariants as op
use Rattle.il_core.specs.declared.instr.Block.{Block}
use Rattle.il_core.specs.declared.instr.Instr.{Instr}
use Rattle.il_core.specs.declared.instr.Instr.TheVariants.{Const, Move, Conv, Bin, Get, Set, GetX, SetX, GetA, SetA, Clear, Turn, Call, GetChar, PutChar}
use Rattle.il_core.specs.declared.instr.End.{End}
use Rattle.il_core.specs.declared.instr.End.TheVariants as ends
use Rattle.il_core.specs.World.{each}
use Rattle.il_core.specs.Meaning.{is_among}

-- ---- registers

-- the registers that an instruction reads, in the order of its text
abbrev pub sources : Instr → List ℕ
sources (Const d v) = []
sources (Move d s) = s ∷ []
sources (Conv d t s) = s ∷ []
sources (Bin o d a b) = a ∷ b ∷ []
sources (Get d g) = []
sources (Set g s) = s ∷ []
sources (GetX d g i) = i ∷ []
sources (SetX g i s) = i ∷ s ∷ []
sources (GetA d a i) = i ∷ []
sources (SetA a i s) = i ∷ s ∷ []
sources (Clear r c a m) = []
sources Turn = []
sources (Call dest callee count args) = args
sources (GetChar d) = []
sources (PutChar d s) = s ∷ []

-- the register that gets a word, where one does
abbrev pub destination : Instr → Option ℕ
destination (Const d v) = Some d
destination (Move d s) = Some d
destination (Conv d t s) = Some d
destination (Bin o d a b) = Some d
destination (Get d g) = Some d
destination (Set g s) = None
destination (GetX d g i) = Some d
destination (SetX g i s) = None
destination (GetA d a i) = Some d
destination (SetA a i s) = None
destination (Clear r c a m) = None
destination Turn = None
destination (Call dest callee count args) = dest
destination (GetChar d) = Some d
destination (PutChar d s) = Some d

-- the register that an end reads, where it reads one
abbrev pub end_source : End → Option ℕ
end_source (ends.Jump t) = None
end_source (ends.Branch r t u) = Some r
end_source (ends.Loop t) = None
end_source (ends.Return r) = r
end_source (ends.Exit r) = Some r

-- whether a number is that one, where there is one
abbrev pub is_named : Option ℕ → ℕ → Bool
is_named None x = false
is_named (Some d) x = nat_eq x d

-- whether an instruction, and an end, reads a register
abbrev pub reads : Instr → ℕ → Bool
reads i x = list_any (nat_eq x) (sources i)

abbrev pub end_reads : End → ℕ → Bool
end_reads e x = is_named (end_source e) x

-- whether an instruction writes a register: it is the destination, or `clear` sets it to 0
abbrev pub writes : Instr → ℕ → Bool
writes (Const d v) x = nat_eq x d
writes (Move d s) x = nat_eq x d
writes (Conv d t s) x = nat_eq x d
writes (Bin o d a b) x = nat_eq x d
writes (Get d g) x = nat_eq x d
writes (Set g s) x = false
writes (GetX d g i) x = nat_eq x d
writes (SetX g i s) x = false
writes (GetA d a i) x = nat_eq x d
writes (SetA a i s) x = false
writes (Clear r c a m) x = is_among r c x
writes Turn x = false
writes (Call dest callee count args) x = is_named dest x
writes (GetChar d) x = nat_eq x d
writes (PutChar d s) x = nat_eq x d

-- ---- arrays, objects and routines

-- the local array whose element an instruction reads
abbrev pub array_read : Instr → Option ℕ
array_read (GetA d a i) = Some a
array_read _ = None

-- whether an instruction writes into a local array
abbrev pub writes_array : Instr → ℕ → Bool
writes_array (SetA a i s) x = nat_eq x a
writes_array (Clear r c a m) x = is_among a m x
writes_array _ x = false

-- the local array of which it reads or writes one element
abbrev pub array_of : Instr → Option ℕ
array_of (GetA d a i) = Some a
array_of (SetA a i s) = Some a
array_of _ = None

-- the object, by its PID, that an instruction itself reads, and that it writes
abbrev pub object_read : Instr → Option ℕ
object_read (Get d g) = Some g
object_read (GetX d g i) = Some g
object_read _ = None

abbrev pub object_written : Instr → Option ℕ
object_written (Set g s) = Some g
object_written (SetX g i s) = Some g
object_written _ = None

-- the object that it names in one way or the other
abbrev pub object_of : Instr → Option ℕ
object_of (Get d g) = Some g
object_of (Set g s) = Some g
object_of (GetX d g i) = Some g
object_of (SetX g i s) = Some g
object_of _ = None

-- the routine that it calls, by its PID
abbrev pub callee_of : Instr → Option ℕ
callee_of (Call dest callee count args) = Some callee
callee_of _ = None

-- ---- traps

-- whether an operator traps on some words: quotients and remainders, and shifts
abbrev pub operator_can_trap : Op → Bool
operator_can_trap op.DivS = true
operator_can_trap op.DivU = true
operator_can_trap op.RemS = true
operator_can_trap op.RemU = true
operator_can_trap op.Shl = true
operator_can_trap op.ShrS = true
operator_can_trap op.ShrU = true
operator_can_trap _ = false

-- whether an instruction itself traps on some words: such an operator, or an access by an index
abbrev pub can_trap : Instr → Bool
can_trap (Bin o d a b) = operator_can_trap o
can_trap (GetX d g i) = true
can_trap (SetX g i s) = true
can_trap (GetA d a i) = true
can_trap (SetA a i s) = true
can_trap _ = false

-- whether all that an instruction does is to write registers: it can't trap, and leaves arrays, objects, input, output
-- and turns as they are
abbrev pub is_pure : Instr → Bool
is_pure (Const d v) = true
is_pure (Move d s) = true
is_pure (Conv d t s) = true
is_pure (Bin o d a b) = not (operator_can_trap o)
is_pure (Get d g) = true
is_pure (Clear r c a m) = nat_eq m 0
is_pure _ = false

-- ---- targets of ends

-- the later blocks that an end can go on at, in the order of its text
abbrev pub jumps : End → List ℕ
jumps (ends.Jump t) = t ∷ []
jumps (ends.Branch r t u) = t ∷ u ∷ []
jumps _ = []

-- the block that it goes back to
abbrev pub loops_to : End → Option ℕ
loops_to (ends.Loop t) = Some t
loops_to _ = None

-- all blocks that it names
abbrev pub targets : End → List ℕ
targets (ends.Jump t) = t ∷ []
targets (ends.Branch r t u) = t ∷ u ∷ []
targets (ends.Loop t) = t ∷ []
targets (ends.Return r) = []
targets (ends.Exit r) = []

-- ---- other names

-- Other names for registers, local arrays and PIDs, other counts of calls, and other numbers of blocks.
pub record Names : Type 0 where
  pub reg : ℕ → ℕ
  pub array : ℕ → ℕ
  pub pid : ℕ → ℕ
  pub count : ℕ → ℕ
  pub block : ℕ → ℕ

-- nothing has another name
abbrev pub as_is : Names
as_is = record { reg = λ x. x; array = λ x. x; pid = λ x. x; count = λ x. x; block = λ x. x }

-- an instruction under other names
abbrev pub renamed : Names → Instr → Instr
renamed m (Const d v) = Const (m.reg d) v
renamed m (Move d s) = Move (m.reg d) (m.reg s)
renamed m (Conv d t s) = Conv (m.reg d) t (m.reg s)
renamed m (Bin o d a b) = Bin o (m.reg d) (m.reg a) (m.reg b)
renamed m (Get d g) = Get (m.reg d) (m.pid g)
renamed m (Set g s) = Set (m.pid g) (m.reg s)
renamed m (GetX d g i) = GetX (m.reg d) (m.pid g) (m.reg i)
renamed m (SetX g i s) = SetX (m.pid g) (m.reg i) (m.reg s)
renamed m (GetA d a i) = GetA (m.reg d) (m.array a) (m.reg i)
renamed m (SetA a i s) = SetA (m.array a) (m.reg i) (m.reg s)
renamed m (Clear r c a l) = Clear (m.reg r) c (m.array a) l
renamed m Turn = Turn
renamed m (Call dest callee count args) = Call (option_map m.reg dest) (m.pid callee) (m.count count) (each m.reg args)
renamed m (GetChar d) = GetChar (m.reg d)
renamed m (PutChar d s) = PutChar (m.reg d) (m.reg s)

-- an end under other names
abbrev pub renamed_end : Names → End → End
renamed_end m (ends.Jump t) = ends.Jump (m.block t)
renamed_end m (ends.Branch r t u) = ends.Branch (m.reg r) (m.block t) (m.block u)
renamed_end m (ends.Loop t) = ends.Loop (m.block t)
renamed_end m (ends.Return r) = ends.Return (option_map m.reg r)
renamed_end m (ends.Exit r) = ends.Exit (m.reg r)

-- an end with other numbers of blocks alone
abbrev pub retargeted : (ℕ → ℕ) → End → End
retargeted to (ends.Jump t) = ends.Jump (to t)
retargeted to (ends.Branch r t u) = ends.Branch r (to t) (to u)
retargeted to (ends.Loop t) = ends.Loop (to t)
retargeted to (ends.Return r) = ends.Return r
retargeted to (ends.Exit r) = ends.Exit r

abbrev pub retargeted_block : (ℕ → ℕ) → Block → Block
retargeted_block to x = record { instrs = x.instrs; end = retargeted to x.end }
