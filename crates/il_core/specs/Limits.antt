-- The limits of the language, and those that each routine keeps. The code has the same numbers in `limits`.
use Rattle.std.specs.Prelude.{ℕ, ◌^◌, ◌<◌, ◌≤◌, IsTrue, length, sum, ⊤}
use Rattle.std.specs.List.{AllByRecursion}
use Rattle.hlo_num.specs.Words.{is_narrow}
use Rattle.il_core.specs.declared.instr.Block.{Block}
use Rattle.il_core.specs.declared.instr.Instr.{Instr}
use Rattle.il_core.specs.declared.instr.Instr.TheVariants.{Conv, Get, Set, GetX, SetX, Call}
use Rattle.il_core.specs.Routine.{RoutineParts}
use Rattle.il_core.specs.Size.{size}

-- PIDs: all are below this
abbrev pub max_pids : ℕ
max_pids = 2 ^ 17

-- routines of a program at one time
abbrev pub max_routines : ℕ
max_routines = 2 ^ 12

-- names from the modules of a program
abbrev pub max_names : ℕ
max_names = 2 ^ 16

-- parameters of a routine, and arguments of a call
abbrev pub max_parameters : ℕ
max_parameters = 31

-- registers of a routine
abbrev pub max_registers : ℕ
max_registers = 2 ^ 15

-- local arrays of a routine
abbrev pub max_arrays : ℕ
max_arrays = 2 ^ 12

-- elements of a routine's local arrays together, of one array, and of the arrays at file scope over all modules
abbrev pub max_elements : ℕ
max_elements = 2 ^ 20

-- the size of a routine: its instructions and the ends of its blocks
abbrev pub max_size : ℕ
max_size = 2 ^ 16

abbrev pub IsPid : ℕ → Type 0
IsPid pid = pid < max_pids

-- conversions are to narrow types, PIDs are in their range, and a call has no more arguments than a routine may have parameters
abbrev pub IsInstr : Instr → Type 0
IsInstr (Conv d t s) = IsTrue (is_narrow t)
IsInstr (Get d g) = IsPid g
IsInstr (Set g s) = IsPid g
IsInstr (GetX d g i) = IsPid g
IsInstr (SetX g i s) = IsPid g
IsInstr (Call dest callee count args) = IsPid callee × (length args ≤ max_parameters)
IsInstr _ = ⊤

abbrev pub IsBlock : Block → Type 0
IsBlock b = AllByRecursion IsInstr b.instrs

pub record IsWithinLimits (r : RoutineParts) : Type 0 where
  pub pid : IsPid r.pid
  pub params : r.params ≤ max_parameters
  pub regs : r.regs ≤ max_registers
  pub arrays : length r.arrays ≤ max_arrays
  pub elements : sum r.arrays ≤ max_elements
  pub size : size r ≤ max_size
  pub instrs : AllByRecursion IsBlock r.blocks
