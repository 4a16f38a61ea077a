-- What a valid routine has to meet: its conditions one by one, in the order of the text, and those of one instruction or
-- end in the order of the flaws.
use Rattle.std.specs.Prelude.{ℕ, ◌+◌, ◌&&◌, Bool, true, false, not, nat_lt, nat_le, nat_eq, List, [], ◌∷◌, ◌++◌, Option, Some, None, is_some}
use Rattle.std.specs.Prelude.{if◌then◌else◌, length, flat_map, option_to_list}
use Rattle.std.specs.List.{list_all}
use Rattle.std.specs.Bool.{beq}
use Rattle.il_core.specs.declared.instr.Block.{Block}
use Rattle.il_core.specs.declared.instr.Instr.{Instr}
use Rattle.il_core.specs.declared.instr.Instr.TheVariants.{GetA, SetA, Clear, Call}
use Rattle.il_core.specs.declared.instr.End.{End}
use Rattle.il_core.specs.declared.instr.End.TheVariants as ends
use Rattle.il_core.specs.declared.shape.ShapeRow.{ShapeRow}
use Rattle.il_core.specs.declared.shape.Shape.{Shape}
use Rattle.il_core.specs.declared.shape.Shape.TheVariants as shape
use Rattle.il_core.specs.Routine.{RoutineParts}
use Rattle.il_core.specs.Operands.{destination, object_of, sources}
use Rattle.il_core.specs.Program.{shape_at}
use Rattle.il_check.specs.declared.flaw.Flaw.{Flaw}
use Rattle.il_check.specs.declared.flaw.Flaw.TheVariants.{Params, Register, Array, Object, Callee, Arguments, Result, Target, ReturnKind}

-- whether a condition is met, and the flaw where it isn't
abbrev pub Condition : Type 0
Condition = Bool × Flaw

-- the flaw of the first condition that isn't met
abbrev pub first_broken : List Condition → Option Flaw
first_broken [] = None
first_broken (c ∷ cs) = if c.0 then first_broken cs else Some c.1

-- registers exist
abbrev pub exist : ℕ → List ℕ → Bool
exist regs ns = list_all (λ n. nat_lt n regs) ns

abbrev pub is_object : Option Shape → Bool
is_object None = false
is_object (Some (shape.Object words)) = true
is_object (Some (shape.Routine params value)) = false

abbrev pub is_routine : Option Shape → Bool
is_routine None = false
is_routine (Some (shape.Object words)) = false
is_routine (Some (shape.Routine params value)) = true

-- how many parameters a routine has
abbrev pub params_of : Option Shape → ℕ
params_of None = 0
params_of (Some (shape.Object words)) = 0
params_of (Some (shape.Routine params value)) = params

-- whether a routine gives a value
abbrev pub gives_value : Option Shape → Bool
gives_value None = false
gives_value (Some (shape.Object words)) = false
gives_value (Some (shape.Routine params value)) = value

-- what is called with so many arguments, for a value or for none
abbrev pub callee_conditions : Option Shape → ℕ → Bool → List Condition
callee_conditions s count wanted = (is_routine s, Callee) ∷ (nat_eq (params_of s) count, Arguments) ∷ (beq (gives_value s) wanted, Result) ∷ []

-- the registers that an instruction names exist: of `clear` the range ends within them
abbrev pub registers_exist : ℕ → Instr → Bool
registers_exist regs (Clear r c a m) = nat_le (r + c) regs
registers_exist regs i = exist regs (option_to_list (destination i)) && exist regs (sources i)

-- an object, where one is named
abbrev pub object_conditions : List ShapeRow → Option ℕ → List Condition
object_conditions rows None = []
object_conditions rows (Some g) = (is_object (shape_at rows g), Object) ∷ []

-- what else an instruction names
abbrev pub named_conditions : List ShapeRow → ℕ → Instr → List Condition
named_conditions rows arrays (GetA d a i) = (nat_lt a arrays, Array) ∷ []
named_conditions rows arrays (SetA a i s) = (nat_lt a arrays, Array) ∷ []
named_conditions rows arrays (Clear r c a m) = (nat_le (a + m) arrays, Array) ∷ []
named_conditions rows arrays (Call dest p count args) = callee_conditions (shape_at rows p) (length args) (is_some dest)
named_conditions rows arrays i = object_conditions rows (object_of i)

abbrev pub instr_conditions : List ShapeRow → ℕ → ℕ → Instr → List Condition
instr_conditions rows regs arrays i = (registers_exist regs i, Register) ∷ named_conditions rows arrays i

-- block t comes after block b, of so many
abbrev pub is_later : ℕ → ℕ → ℕ → Bool
is_later blocks b t = nat_lt b t && nat_lt t blocks

abbrev pub end_conditions : ℕ → Bool → ℕ → ℕ → End → List Condition
end_conditions regs value blocks b (ends.Jump t) = (is_later blocks b t, Target) ∷ []
end_conditions regs value blocks b (ends.Branch r t u) = (nat_lt r regs, Register) ∷ (is_later blocks b t && is_later blocks b u, Target) ∷ []
end_conditions regs value blocks b (ends.Loop t) = (nat_le t b, Target) ∷ []
end_conditions regs value blocks b (ends.Return None) = (not value, ReturnKind) ∷ []
end_conditions regs value blocks b (ends.Return (Some r)) = (nat_lt r regs, Register) ∷ (value, ReturnKind) ∷ []
end_conditions regs value blocks b (ends.Exit r) = (nat_lt r regs, Register) ∷ []

-- the block of number b, of so many
abbrev pub block_conditions : List ShapeRow → RoutineParts → ℕ → Block → List Condition
block_conditions rows r b x =
    flat_map (λ i. instr_conditions rows r.regs (length r.arrays) i) x.instrs ++ end_conditions r.regs r.value (length r.blocks) b x.end

-- blocks from number b on
abbrev pub blocks_conditions : List ShapeRow → RoutineParts → ℕ → List Block → List Condition
blocks_conditions rows r b [] = []
blocks_conditions rows r b (x ∷ xs) = block_conditions rows r b x ++ blocks_conditions rows r (b + 1) xs

-- all of a routine: a routine without blocks lacks the target of each call
abbrev pub conditions : List ShapeRow → RoutineParts → List Condition
conditions rows r = (nat_le r.params r.regs, Params) ∷ (nat_lt 0 (length r.blocks), Target) ∷ blocks_conditions rows r 0 r.blocks
