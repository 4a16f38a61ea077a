-- The table of refusals: the status and the line of each, for all commands; and those of a program's ending.
use Rattle.std.specs.Prelude.{ℕ, ◌-◌, ◌^◌, ◌⊎◌, ◌++◌, nat_lt, List, [], ◌∷◌, Option, take, if◌then◌else◌, codes, decimal, option_map, unwrap_or, flat_map}
use Rattle.std.specs.Borrow.{Bor}
use Rattle.std.specs.Io.KnownBytes.{Appends}
use Rattle.std.specs.List.{slice_get}
use Rattle.c_lex.specs.declared.fault.LexKind.{LexKind}
use Rattle.c_lex.specs.declared.fault.LexKind.TheVariants.{BadByte, Directive, OpenComment, BadChar, BadNumber, TooBig, LeftOut, LongName}
use Rattle.c_module.specs.declared.fault.FileFault.TheVariants as file_fault
use Rattle.c_module.specs.declared.fault.ModuleFault.{ModuleFault}
use Rattle.c_module.specs.declared.fault.ModuleFault.TheVariants as module_fault
use Rattle.c_module.specs.declared.fault.ProgramFault.{ProgramFault}
use Rattle.c_module.specs.declared.fault.ProgramFault.TheVariants as program_fault
use Rattle.c_parse.specs.declared.fault.ParseKind.{ParseKind}
use Rattle.c_parse.specs.declared.fault.ParseKind.TheVariants.{Unexpected, Deep}
use Rattle.c_types.specs.declared.fault.TypeKind.{TypeKind}
use Rattle.c_types.specs.declared.fault.TypeKind.TheVariants as kinds
use Rattle.hex.specs.Hex.{encode_lower}
use Rattle.hlo_num.specs.declared.word.Trap.{Trap}
use Rattle.hlo_num.specs.declared.word.Trap.TheVariants.{Divide, Quotient, Shift, Index}
use Rattle.hlo_words.specs.declared.settings.WordsFault.{WordsFault}
use Rattle.hlo_words.specs.declared.settings.WordsFault.TheVariants as words_fault
use Rattle.il_check.specs.declared.flaw.Flaw.{Flaw}
use Rattle.il_check.specs.declared.flaw.Flaw.TheVariants as flaws
use Rattle.il_run.specs.declared.ending.Ending.{Ending}
use Rattle.il_run.specs.declared.ending.Ending.TheVariants.{Exit, Trapped, OutOfTurns}
use Rattle.il_run.specs.declared.ending.RunFault.{RunFault}
use Rattle.il_run.specs.declared.ending.RunFault.TheVariants as run_fault
use Rattle.il_text.specs.declared.fault.IlKind.{IlKind}
use Rattle.il_text.specs.declared.fault.IlKind.TheVariants as il_kinds
use Rattle.linker.specs.declared.fault.LinkFault.{LinkFault}
use Rattle.linker.specs.declared.fault.LinkFault.TheVariants.{Undefined, NoMain, MainType}
use Rattle.naim_core.specs.declared.event.Failure.{Failure}
use Rattle.naim_core.specs.declared.event.Failure.TheVariants as failure
use Rattle.outside.specs.Faults.{Rose}
use Rattle.sym_tables.specs.Table.{Table}
use Rattle.hlo_cmd.specs.declared.print.PrintFault.{PrintFault}
use Rattle.hlo_cmd.specs.declared.print.PrintFault.TheVariants as print_fault
use Rattle.hlo_cmd.specs.declared.profiles.ProfileFault.{ProfileFault}
use Rattle.hlo_cmd.specs.declared.profiles.ProfileFault.TheVariants as profile_fault
use Rattle.hlo_cmd.specs.declared.report.Report.{Report}
use Rattle.hlo_cmd.specs.declared.refusal.Refusal.{Refusal}
use Rattle.hlo_cmd.specs.declared.refusal.Refusal.TheVariants as refusal
use Rattle.hlo_cmd.specs.declared.refusal.TextFault.{TextFault}
use Rattle.hlo_cmd.specs.declared.refusal.TextFault.TheVariants as texts

-- a sink gained exactly these bytes, or a front of them where its count of faults rose
pub record SaysFront (before after : Option (List ℕ)) (old_count new_count : ℕ) (bytes : List ℕ) : Type 0 where
  pub rose : Rose old_count new_count
  pub front : ℕ
  pub said : Appends before after (take front bytes)

abbrev pub Says : Option (List ℕ) → Option (List ℕ) → ℕ → ℕ → List ℕ → Type 0
Says before after old_count new_count bytes = Appends before after bytes ⊎ SaysFront before after old_count new_count bytes

-- the line of a fault with a place
abbrev pub place_line : List ℕ → ℕ → List ℕ → List ℕ
place_line file line kind = codes "hlo: " ++ (file ++ (codes ":" ++ (decimal line ++ (codes ": " ++ (kind ++ 10 ∷ [])))))

-- the name of a kind of lexical fault
abbrev pub lexical_kind : LexKind → List ℕ
lexical_kind BadByte = codes "BadByte"
lexical_kind Directive = codes "Directive"
lexical_kind OpenComment = codes "OpenComment"
lexical_kind BadChar = codes "BadChar"
lexical_kind BadNumber = codes "BadNumber"
lexical_kind TooBig = codes "TooBig"
lexical_kind LeftOut = codes "LeftOut"
lexical_kind LongName = codes "LongName"

-- the name of a kind of syntax fault
abbrev pub syntax_kind : ParseKind → List ℕ
syntax_kind Unexpected = codes "Unexpected"
syntax_kind Deep = codes "Deep"

-- the name of a rule of types or linkage
abbrev pub type_kind : TypeKind → List ℕ
type_kind kinds.Specifiers = codes "Specifiers"
type_kind kinds.Undeclared = codes "Undeclared"
type_kind kinds.Redeclared = codes "Redeclared"
type_kind kinds.TypeClash = codes "TypeClash"
type_kind kinds.Duplicate = codes "Duplicate"
type_kind kinds.Linkage = codes "Linkage"
type_kind kinds.Library = codes "Library"
type_kind kinds.ArraySize = codes "ArraySize"
type_kind kinds.Initialiser = codes "Initialiser"
type_kind kinds.TooMany = codes "TooMany"
type_kind kinds.NotConstant = codes "NotConstant"
type_kind kinds.ConstTrap = codes "ConstTrap"
type_kind kinds.EnumRange = codes "EnumRange"
type_kind kinds.NotObject = codes "NotObject"
type_kind kinds.NotFunction = codes "NotFunction"
type_kind kinds.Arguments = codes "Arguments"
type_kind kinds.VoidValue = codes "VoidValue"
type_kind kinds.NotLvalue = codes "NotLvalue"
type_kind kinds.ConstWrite = codes "ConstWrite"
type_kind kinds.BreakOutside = codes "BreakOutside"
type_kind kinds.ContinueOutside = codes "ContinueOutside"
type_kind kinds.CaseOutside = codes "CaseOutside"
type_kind kinds.CaseRepeat = codes "CaseRepeat"
type_kind kinds.ReturnValue = codes "ReturnValue"
type_kind kinds.NoName = codes "NoName"

-- the name of a flaw of a routine
abbrev pub flaw_name : Flaw → List ℕ
flaw_name flaws.Params = codes "Params"
flaw_name flaws.Register = codes "Register"
flaw_name flaws.Array = codes "Array"
flaw_name flaws.Object = codes "Object"
flaw_name flaws.Callee = codes "Callee"
flaw_name flaws.Arguments = codes "Arguments"
flaw_name flaws.Result = codes "Result"
flaw_name flaws.Target = codes "Target"
flaw_name flaws.ReturnKind = codes "ReturnKind"

-- the name of what is wrong with a text of IL
abbrev pub il_kind : IlKind → List ℕ
il_kind il_kinds.Line = codes "Line"
il_kind il_kinds.Order = codes "Order"
il_kind (il_kinds.Invalid flaw) = flaw_name flaw
il_kind il_kinds.NoMain = codes "NoMain"

-- the line that tells what is wrong with a program's text
abbrev pub text_line : TextFault → List ℕ
text_line texts.TooLong = codes "hlo: il: TooLong" ++ 10 ∷ []
text_line (texts.At line kind) = place_line (codes "il") line (il_kind kind)

-- ---- refusals

-- the bytes of the name of a PID, none where no name has it
abbrev pub name_of : Table → ℕ → List ℕ
name_of syms pid = unwrap_or (option_map (λ e. e.0) (slice_get syms pid)) []

-- the line that tells what is wrong with the bytes of a file that should be a module, where the modules have these names
abbrev pub module_line : Table → List ℕ → ModuleFault → List ℕ
module_line syms file module_fault.TooLong = codes "hlo: " ++ (file ++ (codes ": TooLong" ++ 10 ∷ []))
module_line syms file (module_fault.Lexical line kind) = place_line file line (lexical_kind kind)
module_line syms file (module_fault.Syntax line kind) = place_line file line (syntax_kind kind)
module_line syms file (module_fault.Typing line kind) = place_line file line (type_kind kind)
module_line syms file (module_fault.TooLarge pid) = codes "hlo: " ++ (name_of syms pid ++ (codes ": TooLarge" ++ 10 ∷ []))

-- the line that tells why modules with these names don't link
abbrev pub link_line : Table → LinkFault → List ℕ
link_line syms (Undefined pid) = codes "hlo: link: Undefined " ++ (name_of syms pid ++ 10 ∷ [])
link_line syms NoMain = codes "hlo: link: NoMain" ++ 10 ∷ []
link_line syms MainType = codes "hlo: link: MainType" ++ 10 ∷ []

-- the line that tells that a file can't be read
abbrev pub unread_line : List ℕ → List ℕ
unread_line file = codes "hlo: cannot read " ++ (file ++ 10 ∷ [])

-- the line that tells the first line of a profile that doesn't fit
abbrev pub profile_line : ℕ → List ℕ
profile_line n = codes "hlo: profile: line " ++ (decimal n ++ 10 ∷ [])

-- the lines that name nothing
abbrev pub usage_line : List ℕ
usage_line = codes "hlo: usage" ++ 10 ∷ []

abbrev pub unwritten_line : List ℕ
unwritten_line = codes "hlo: cannot write" ++ 10 ∷ []

-- a line of numbers, each behind its words
abbrev pub counts_line : List (List ℕ × ℕ) → List ℕ
counts_line counts = flat_map (λ c. c.0 ++ decimal c.1) counts ++ 10 ∷ []

-- the line that tells that the scratch disk failed
abbrev pub repository_line : List ℕ
repository_line = codes "hlo: repository failed" ++ 10 ∷ []

-- the line that tells that the record at this place has other bytes than those that were put there, by their SHA-256
abbrev pub damaged_line : ℕ → List ℕ → List ℕ → List ℕ
damaged_line place kept found =
    codes "hlo: repository damaged at " ++ (decimal place ++ (codes ": kept " ++ (encode_lower kept ++ (codes " found " ++ (encode_lower found ++ 10 ∷ [])))))

-- the lines that tell a record whose bytes are no routine's, and a routine that isn't the one that was put out
abbrev pub unreadable_line : ℕ → List ℕ
unreadable_line place = counts_line ((codes "hlo: repository unreadable at ", place) ∷ [])

abbrev pub unfit_line : ℕ → List ℕ
unfit_line pid = counts_line ((codes "hlo: repository unfit: routine ", pid) ∷ [])

-- the line that tells a routine whose compact form is longer than the limit
abbrev pub small_line : ℕ → ℕ → ℕ → List ℕ
small_line pid need limit =
    counts_line ((codes "hlo: limit too small: routine ", pid) ∷ (codes " needs ", need) ∷ (codes ", limit ", limit) ∷ [])

-- the line of a report
abbrev pub stats_line : Report → List ℕ
stats_line r = counts_line ((codes "stats: peak ", r.charged_peak) ∷ (codes " under ", r.under_peak) ∷ (codes " compactions ", r.compactions)
    ∷ (codes " offloads ", r.offloads) ∷ (codes " reloads ", r.reloads) ∷ (codes " cost ", r.cost_before) ∷ (codes " ", r.cost_after) ∷ [])

abbrev pub no_input_line : List ℕ
no_input_line = codes "hlo: cannot read input" ++ 10 ∷ []

abbrev pub memory_line : List ℕ
memory_line = codes "hlo: out of memory" ++ 10 ∷ []

-- the line of each refusal, where the modules have these names
abbrev pub refusal_line : Table → Refusal → List ℕ
refusal_line syms refusal.Usage = usage_line
refusal_line syms (refusal.Module file fault) = module_line syms file.now fault
refusal_line syms (refusal.Link fault) = link_line syms fault
refusal_line syms (refusal.Profile line) = profile_line line
refusal_line syms (refusal.Text fault) = text_line fault
refusal_line syms (refusal.CannotRead file) = unread_line file.now
refusal_line syms refusal.CannotWrite = unwritten_line
refusal_line syms refusal.Repository = repository_line
refusal_line syms (refusal.Damaged place kept found) = damaged_line place kept found
refusal_line syms (refusal.Unreadable place) = unreadable_line place
refusal_line syms (refusal.Unfit pid) = unfit_line pid
refusal_line syms (refusal.TooSmall pid need limit) = small_line pid need limit
refusal_line syms refusal.CannotReadInput = no_input_line
refusal_line syms refusal.Memory = memory_line

-- its status
abbrev pub refusal_status : Refusal → ℕ
refusal_status refusal.Usage = 2
refusal_status (refusal.Module file fault) = 3
refusal_status (refusal.Link fault) = 3
refusal_status (refusal.Profile line) = 4
refusal_status (refusal.Text fault) = 14
refusal_status (refusal.CannotRead file) = 5
refusal_status refusal.CannotWrite = 6
refusal_status refusal.Repository = 7
refusal_status (refusal.Damaged place kept found) = 8
refusal_status (refusal.Unreadable place) = 8
refusal_status (refusal.Unfit pid) = 8
refusal_status (refusal.TooSmall pid need limit) = 9
refusal_status refusal.CannotReadInput = 11
refusal_status refusal.Memory = 10

-- the refusal of words that give no settings, of files that give no program, of a loader that stopped, of a text that wasn't
-- put out, and of a program that didn't run to its end
abbrev pub words_refusal : WordsFault → Refusal
words_refusal words_fault.Usage = refusal.Usage
words_refusal words_fault.Memory = refusal.Memory

abbrev pub profile_refusal : Bor (List ℕ) → ProfileFault → Refusal
profile_refusal name (profile_fault.Line line) = refusal.Profile line
profile_refusal name profile_fault.CannotRead = refusal.CannotRead name
profile_refusal name profile_fault.Memory = refusal.Memory

abbrev pub program_refusal : ProgramFault → Refusal
program_refusal (program_fault.File file (file_fault.NoModule fault)) = refusal.Module file fault
program_refusal (program_fault.File file file_fault.CannotRead) = refusal.CannotRead file
program_refusal (program_fault.File file file_fault.Memory) = refusal.Memory
program_refusal (program_fault.Link fault) = refusal.Link fault
program_refusal program_fault.Memory = refusal.Memory

abbrev pub loader_refusal : Failure → Refusal
loader_refusal failure.Repository = refusal.Repository
loader_refusal (failure.Damaged place kept found) = refusal.Damaged place kept found
loader_refusal (failure.Unreadable place) = refusal.Unreadable place
loader_refusal (failure.Unfit pid) = refusal.Unfit pid
loader_refusal (failure.TooSmall pid need limit) = refusal.TooSmall pid need limit
loader_refusal failure.Memory = refusal.Memory

abbrev pub print_refusal : PrintFault → Refusal
print_refusal print_fault.Output = refusal.CannotWrite
print_refusal print_fault.Memory = refusal.Memory

abbrev pub run_refusal : RunFault → Refusal
run_refusal run_fault.Input = refusal.CannotReadInput
run_refusal run_fault.Output = refusal.CannotWrite
run_refusal run_fault.Memory = refusal.Memory

-- ---- endings

-- a word as a signed number
abbrev pub signed_decimal : ℕ → List ℕ
signed_decimal w = if nat_lt w (2 ^ 31) then decimal w else 45 ∷ decimal (2 ^ 32 - w)

-- the name of a trap
abbrev pub trap_name : Trap → List ℕ
trap_name Divide = codes "divide"
trap_name Quotient = codes "quotient"
trap_name Shift = codes "shift"
trap_name Index = codes "index"

-- the line that tells the word that a program exits with
abbrev pub exit_line : ℕ → List ℕ
exit_line w = codes "hlo: exit " ++ (signed_decimal w ++ 10 ∷ [])

-- the line that tells how a program ended
abbrev pub ending_line : Ending → List ℕ
ending_line (Exit w) = exit_line w.0
ending_line (Trapped t) = codes "hlo: trap " ++ (trap_name t ++ 10 ∷ [])
ending_line OutOfTurns = codes "hlo: out of turns" ++ 10 ∷ []

-- its status
abbrev pub ending_status : Ending → ℕ
ending_status (Exit w) = 0
ending_status (Trapped t) = 12
ending_status OutOfTurns = 13
