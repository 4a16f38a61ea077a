-- Reading bytes from their front.
use Rattle.std.specs.Prelude.{ℕ, zero, suc, ◌+◌, ◌-◌, ◌*◌, ◌^◌, Bool, true, false, ◌==◌, ◌&&◌, List, [], ◌∷◌, Option, Some, None, nat_lt, nat_le}
use Rattle.std.specs.Prelude.{if◌then◌else◌, length, sum}
use Rattle.hlo_num.specs.declared.word.Op.{Op}
use Rattle.hlo_num.specs.declared.word.Op.TheVariants.{AddS, AddU, SubS, SubU, MulS, MulU, DivS, DivU, RemS, RemU, And, Or, Xor, Shl, ShrS, ShrU, Eq}
use Rattle.hlo_num.specs.declared.word.Op.TheVariants.{Ne, LtS, LtU, LeS, LeU}
use Rattle.hlo_num.specs.declared.word.Ty.{Ty}
use Rattle.hlo_num.specs.declared.word.Ty.TheVariants.{Char, UChar, Short, UShort}
use Rattle.il_core.specs.Limits.{max_arrays, max_elements, max_parameters, max_pids, max_registers, max_size}
use Rattle.il_core.specs.declared.instr.Block.{Block}
use Rattle.il_core.specs.declared.instr.Instr.{Instr}
use Rattle.il_core.specs.declared.instr.Instr.TheVariants.{Const, Move, Conv, Bin, Get, Set, GetX, SetX, GetA, SetA, Clear, Turn, Call, GetChar, PutChar}
use Rattle.il_core.specs.declared.instr.End.{End}
use Rattle.il_core.specs.declared.instr.End.TheVariants.{Jump, Branch, Loop, Return, Exit}
use Rattle.il_core.specs.Routine.{RoutineParts}
use Rattle.il_core.specs.Size.{size}
use Rattle.compact_form.specs.declared.opcode.Opcode.{Opcode}
use Rattle.compact_form.specs.declared.opcode.Opcode.TheVariants as code
use Rattle.compact_form.specs.declared.opcode.EndCode.{EndCode}
use Rattle.compact_form.specs.declared.opcode.EndCode.TheVariants as end_code
use Rattle.compact_form.specs.Compact.{place_of, number_of}

-- a value and the bytes behind it, or nothing
abbrev pub Reply : Type 0 → Type 0
Reply A = Option (A × List ℕ)

abbrev pub goes : {A B : Type 0} → Reply A → (A → List ℕ → Reply B) → Reply B
goes None go = None
goes (Some x) go = go x.0 x.1

-- one number, whose spelling has at most so many bytes with more behind them
abbrev pub number_more : ℕ → Reply ℕ → Reply ℕ
number_more b None = None
number_more b (Some x) = if x.0 == 0 then None else Some ((b - 128) + 128 * x.0, x.1)

abbrev pub number_in : ℕ → List ℕ → Reply ℕ
number_in more [] = None
number_in zero (b ∷ bs) = if nat_lt b 128 then Some (b, bs) else None
number_in (suc more) (b ∷ bs) = if nat_lt b 128 then Some (b, bs) else (if nat_lt b 256 then number_more b (number_in more bs) else None)

abbrev pub below : ℕ → ℕ → List ℕ → Reply ℕ
below bound n rest = if nat_lt n bound then Some (n, rest) else None

unfoldable pub read_number : List ℕ → Reply ℕ
read_number bs = goes (number_in 4 bs) (λ n rest. below (2 ^ 32) n rest)

abbrev pub read_pair : List ℕ → Reply (ℕ × ℕ)
read_pair bs = goes (read_number bs) (λ a r. goes (read_number r) (λ b s. Some ((a, b), s)))

abbrev pub read_triple : List ℕ → Reply (ℕ × ℕ × ℕ)
read_triple bs = goes (read_number bs) (λ a r. goes (read_pair r) (λ x s. Some ((a, x.0, x.1), s)))

-- so many items, one after another
abbrev pub read_list : {X : Type 0} → (List ℕ → Reply X) → ℕ → List ℕ → Reply (List X)
read_list p zero bs = Some ([], bs)
read_list p (suc n) bs = goes (p bs) (λ x r. goes (read_list p n r) (λ xs s. Some (x ∷ xs, s)))

-- a list of at most so many items behind its length
abbrev pub list_up_to : {X : Type 0} → (List ℕ → Reply X) → ℕ → ℕ → List ℕ → Reply (List X)
list_up_to p most n rest = if nat_le n most then read_list p n rest else None

abbrev pub read_counted : {X : Type 0} → (List ℕ → Reply X) → ℕ → List ℕ → Reply (List X)
read_counted p most bs = goes (read_number bs) (λ n rest. list_up_to p most n rest)

-- ---- opcodes

abbrev pub byte_of : Opcode → ℕ
byte_of code.Const = 0x00
byte_of code.Move = 0x01
byte_of code.Conv = 0x02
byte_of code.Get = 0x03
byte_of code.Set = 0x04
byte_of code.GetX = 0x05
byte_of code.SetX = 0x06
byte_of code.GetA = 0x07
byte_of code.SetA = 0x08
byte_of code.Clear = 0x09
byte_of code.Turn = 0x0a
byte_of code.CallVoid = 0x0b
byte_of code.CallValue = 0x0c
byte_of code.GetChar = 0x0d
byte_of code.PutChar = 0x0e
byte_of (code.Bin o) = 0x10 + place_of o

abbrev pub end_byte_of : EndCode → ℕ
end_byte_of end_code.Jump = 0x40
end_byte_of end_code.Branch = 0x41
end_byte_of end_code.Loop = 0x42
end_byte_of end_code.ReturnVoid = 0x43
end_byte_of end_code.ReturnValue = 0x44
end_byte_of end_code.Exit = 0x45

-- the first of these values that has this number
abbrev pub first_of_number : {X : Type 0} → (X → ℕ) → ℕ → List X → Option X
first_of_number number n [] = None
first_of_number number n (x ∷ xs) = if number x == n then Some x else first_of_number number n xs

abbrev pub operators : List Op
operators = AddS ∷ AddU ∷ SubS ∷ SubU ∷ MulS ∷ MulU ∷ DivS ∷ DivU ∷ RemS ∷ RemU ∷ And ∷ Or ∷ Xor ∷ Shl ∷ ShrS ∷ ShrU ∷ Eq ∷ Ne ∷ LtS ∷ LtU ∷ LeS ∷ LeU ∷ []

abbrev pub operator_at : ℕ → Option Op
operator_at n = first_of_number place_of n operators

abbrev pub fixed_codes : List Opcode
fixed_codes = code.Const ∷ code.Move ∷ code.Conv ∷ code.Get ∷ code.Set ∷ code.GetX ∷ code.SetX ∷ code.GetA ∷ code.SetA ∷ code.Clear ∷ code.Turn ∷ code.CallVoid
    ∷ code.CallValue ∷ code.GetChar ∷ code.PutChar ∷ []

abbrev pub bin_code : Option Op → Option Opcode
bin_code None = None
bin_code (Some o) = Some (code.Bin o)

abbrev pub opcode_at : ℕ → Option Opcode
opcode_at b = if nat_lt b 16 then first_of_number byte_of b fixed_codes else bin_code (operator_at (b - 16))

abbrev pub end_codes : List EndCode
end_codes = end_code.Jump ∷ end_code.Branch ∷ end_code.Loop ∷ end_code.ReturnVoid ∷ end_code.ReturnValue ∷ end_code.Exit ∷ []

abbrev pub end_code_at : ℕ → Option EndCode
end_code_at b = first_of_number end_byte_of b end_codes

abbrev pub narrow_types : List Ty
narrow_types = Char ∷ UChar ∷ Short ∷ UShort ∷ []

abbrev pub narrow_at : ℕ → Option Ty
narrow_at n = first_of_number number_of n narrow_types

-- ---- instructions

abbrev pub with_some : {A B : Type 0} → Option A → (A → Reply B) → Reply B
with_some None go = None
with_some (Some x) go = go x

-- a value that is kept where a test holds
abbrev pub kept : {A : Type 0} → Bool → A → List ℕ → Reply A
kept test x rest = if test then Some (x, rest) else None

abbrev pub is_pid : ℕ → Bool
is_pid n = nat_lt n max_pids

abbrev pub read_args : Option ℕ → ℕ × ℕ × ℕ → List ℕ → Reply Instr
read_args dest x rest =
    if is_pid x.0 then goes (list_up_to read_number max_parameters x.2 rest) (λ args s. Some (Call dest x.0 x.1 args, s)) else None

abbrev pub read_call : Option ℕ → List ℕ → Reply Instr
read_call dest bs = goes (read_triple bs) (λ x rest. read_args dest x rest)

abbrev pub read_operands : Opcode → List ℕ → Reply Instr
read_operands code.Const bs = goes (read_pair bs) (λ x r. Some (Const x.0 (record { 0 = x.1 }), r))
read_operands code.Move bs = goes (read_pair bs) (λ x r. Some (Move x.0 x.1, r))
read_operands code.Conv bs = goes (read_triple bs) (λ x r. with_some (narrow_at x.1) (λ t. Some (Conv x.0 t x.2, r)))
read_operands code.Get bs = goes (read_pair bs) (λ x r. kept (is_pid x.1) (Get x.0 x.1) r)
read_operands code.Set bs = goes (read_pair bs) (λ x r. kept (is_pid x.0) (Set x.0 x.1) r)
read_operands code.GetX bs = goes (read_triple bs) (λ x r. kept (is_pid x.1) (GetX x.0 x.1 x.2) r)
read_operands code.SetX bs = goes (read_triple bs) (λ x r. kept (is_pid x.0) (SetX x.0 x.1 x.2) r)
read_operands code.GetA bs = goes (read_triple bs) (λ x r. Some (GetA x.0 x.1 x.2, r))
read_operands code.SetA bs = goes (read_triple bs) (λ x r. Some (SetA x.0 x.1 x.2, r))
read_operands code.Clear bs = goes (read_pair bs) (λ x r. goes (read_pair r) (λ y s. Some (Clear x.0 x.1 y.0 y.1, s)))
read_operands code.Turn bs = Some (Turn, bs)
read_operands code.CallVoid bs = read_call None bs
read_operands code.CallValue bs = goes (read_number bs) (λ d r. read_call (Some d) r)
read_operands code.GetChar bs = goes (read_number bs) (λ d r. Some (GetChar d, r))
read_operands code.PutChar bs = goes (read_pair bs) (λ x r. Some (PutChar x.0 x.1, r))
read_operands (code.Bin o) bs = goes (read_triple bs) (λ x r. Some (Bin o x.0 x.1 x.2, r))

abbrev pub read_instr : List ℕ → Reply Instr
read_instr [] = None
read_instr (b ∷ bs) = with_some (opcode_at b) (λ k. read_operands k bs)

abbrev pub read_end_operands : EndCode → List ℕ → Reply End
read_end_operands end_code.Jump bs = goes (read_number bs) (λ t r. Some (Jump t, r))
read_end_operands end_code.Branch bs = goes (read_triple bs) (λ x r. Some (Branch x.0 x.1 x.2, r))
read_end_operands end_code.Loop bs = goes (read_number bs) (λ t r. Some (Loop t, r))
read_end_operands end_code.ReturnVoid bs = Some (Return None, bs)
read_end_operands end_code.ReturnValue bs = goes (read_number bs) (λ x r. Some (Return (Some x), r))
read_end_operands end_code.Exit bs = goes (read_number bs) (λ x r. Some (Exit x, r))

abbrev pub read_end : List ℕ → Reply End
read_end [] = None
read_end (b ∷ bs) = with_some (end_code_at b) (λ k. read_end_operands k bs)

-- ---- blocks and routines

abbrev pub read_block : List ℕ → Reply Block
read_block bs = goes (read_counted read_instr max_size bs) (λ is r. goes (read_end r) (λ e s. Some (record { instrs = is; end = e }, s)))

abbrev pub flag_at : ℕ → Option Bool
flag_at n = if n == 0 then Some false else (if n == 1 then Some true else None)

-- the limits of the language that a routine's own numbers keep
abbrev pub is_within : RoutineParts → Bool
is_within r = (is_pid r.pid && nat_le r.params max_parameters) &&
    (nat_le r.regs max_registers && (nat_le (sum r.arrays) max_elements && nat_le (size r) max_size))

abbrev pub read_lists : ℕ × ℕ × ℕ → ℕ × ℕ → Bool → List ℕ → Reply RoutineParts
read_lists x y value bs =
    goes (read_counted read_number max_arrays bs) (λ arrays r. goes (read_counted read_block max_size r) (λ blocks s.
    let parts : RoutineParts = record { pid = x.0; params = x.1; value = value; regs = y.0; entry = y.1; arrays = arrays; blocks = blocks } in
    kept (is_within parts) parts s))

abbrev pub read_routine : List ℕ → Reply RoutineParts
read_routine bs = goes (read_triple bs) (λ x r. goes (read_pair r) (λ y s. with_some (flag_at x.2) (λ value. read_lists x y value s)))

-- the routine whose form is all of the bytes
abbrev pub whole : Reply RoutineParts → Option RoutineParts
whole None = None
whole (Some x) = if length x.1 == 0 then Some x.0 else None
