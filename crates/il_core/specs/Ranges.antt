-- The numbers of a program, each of which its type holds in 32 bits.
use Rattle.std.specs.Prelude.{ℕ, ◌++◌, List, [], ◌∷◌, option_to_list}
use Rattle.std.specs.List.{AllByRecursion}
use Rattle.hlo_num.specs.Words.{IsWord}
use Rattle.hlo_num.specs.declared.word.Word.{Word}
use Rattle.il_core.specs.declared.instr.Block.{Block}
use Rattle.il_core.specs.declared.instr.Instr.{Instr}
use Rattle.il_core.specs.declared.instr.Instr.TheVariants.{Const, Move, Conv, Bin, Get, Set, GetX, SetX, GetA, SetA, Clear, Turn, Call, GetChar, PutChar}
use Rattle.il_core.specs.declared.instr.End.{End}
use Rattle.il_core.specs.declared.instr.End.TheVariants as ends
use Rattle.il_core.specs.declared.program.IlProgram.{IlProgram}
use Rattle.il_core.specs.Object.{ObjectParts}
use Rattle.il_core.specs.Routine.{RoutineParts}

abbrev pub AreWords : List ℕ → Type 0
AreWords ns = AllByRecursion IsWord ns

abbrev pub AreConstants : List Word → Type 0
AreConstants ws = AllByRecursion (λ w. IsWord w.0) ws

-- the numbers in an instruction
abbrev pub numbers_of : Instr → List ℕ
numbers_of (Const d w) = d ∷ w.0 ∷ []
numbers_of (Move d s) = d ∷ s ∷ []
numbers_of (Conv d t s) = d ∷ s ∷ []
numbers_of (Bin o d a b) = d ∷ a ∷ b ∷ []
numbers_of (Get d g) = d ∷ g ∷ []
numbers_of (Set g s) = g ∷ s ∷ []
numbers_of (GetX d g i) = d ∷ g ∷ i ∷ []
numbers_of (SetX g i s) = g ∷ i ∷ s ∷ []
numbers_of (GetA d a i) = d ∷ a ∷ i ∷ []
numbers_of (SetA a i s) = a ∷ i ∷ s ∷ []
numbers_of (Clear r c a m) = r ∷ c ∷ a ∷ m ∷ []
numbers_of Turn = []
numbers_of (Call dest callee count args) = option_to_list dest ++ callee ∷ count ∷ args
numbers_of (GetChar d) = d ∷ []
numbers_of (PutChar d s) = d ∷ s ∷ []

-- the numbers in an end
abbrev pub end_numbers : End → List ℕ
end_numbers (ends.Jump t) = t ∷ []
end_numbers (ends.Branch r t u) = r ∷ t ∷ u ∷ []
end_numbers (ends.Loop t) = t ∷ []
end_numbers (ends.Return r) = option_to_list r
end_numbers (ends.Exit r) = r ∷ []

abbrev pub IsBlockOfWords : Block → Type 0
IsBlockOfWords b = AllByRecursion (λ i. AreWords (numbers_of i)) b.instrs × AreWords (end_numbers b.end)

-- the numbers of a routine that no limit keeps smaller
pub record IsRoutineOfWords (r : RoutineParts) : Type 0 where
  pub entry : IsWord r.entry
  pub blocks : AllByRecursion IsBlockOfWords r.blocks

pub record IsObjectOfWords (o : ObjectParts) : Type 0 where
  pub words : IsWord o.words
  pub init : AreConstants o.init

-- all numbers of a program
pub record IsProgramOfWords (p : IlProgram) : Type 0 where
  pub objects : AllByRecursion IsObjectOfWords p.objects
  pub routines : AllByRecursion IsRoutineOfWords p.routines
