-- The parts of a switch: its labels, and the tests of its cases.
use Rattle.std.specs.Prelude.{ℕ, suc, List, [], ◌∷◌, Bool, true, if◌then◌else◌}
use Rattle.hlo_num.specs.declared.word.Op.TheVariants as op
use Rattle.il_core.specs.declared.instr.Instr.TheVariants as instr
use Rattle.il_core.specs.declared.instr.End.TheVariants as ends
use Rattle.c_typed.specs.declared.statement.Label.{Label}
use Rattle.c_typed.specs.declared.statement.Label.TheVariants as labels
use Rattle.c_typed.specs.Trees as tree
use Rattle.c_typed.specs.Trees.{Sections}
use Rattle.lower_laws.specs.Code.{Code, put, close, Numbers, past_new, past_end, past_label, label}

-- Labels in a row each begin a block. `opened` says whether a block is open before them.
abbrev pub labels_past : List Label → Bool → Numbers → Numbers
labels_past [] opened n = n
labels_past (l ∷ ls) opened n = labels_past ls true (past_label opened n)

abbrev pub labels_open : List Label → Bool → Bool
labels_open [] opened = opened
labels_open (l ∷ ls) opened = true

abbrev pub labels_code : List Label → Bool → Numbers → Code → Code
labels_code [] opened n k = k
labels_code (l ∷ ls) opened n k = label opened n (labels_code ls true (past_label opened n) k)

-- the block of the first of some labels that passes a test, and `none` where no label does
abbrev pub label_block : (Label → Bool) → List Label → Bool → Numbers → ℕ → ℕ
label_block is [] opened n none = none
label_block is (l ∷ ls) opened n none =
    if is l then (past_label opened n).block else label_block is ls true (past_label opened n) none

-- the test of a case is a constant, a comparison and a branch; the default has none
abbrev pub test_past : Numbers → Numbers
test_past n = past_end (past_new (past_new n))

abbrev pub label_tests_past : List Label → Numbers → Numbers
label_tests_past [] n = n
label_tests_past (labels.Case c ∷ ls) n = label_tests_past ls (test_past n)
label_tests_past (labels.Default ∷ ls) n = label_tests_past ls n

abbrev pub tests_past : Sections → Numbers → Numbers
tests_past tree.End n = n
tests_past (tree.Section ls s rest) n = tests_past rest (label_tests_past ls n)

-- the tests of the word in register x against the cases of labels in a row; `there` are the numbers at the labels, and n
-- those at the tests
abbrev pub label_tests : ℕ → List Label → Bool → Numbers → Numbers → Code → Code
label_tests x [] opened there n k = k
label_tests x (labels.Case c ∷ ls) opened there n k =
    put (instr.Const n.reg c) (put (instr.Bin op.Eq (suc n.reg) x n.reg) (close (ends.Branch (suc n.reg) (past_label opened there).block (suc n.block))
    (label_tests x ls true (past_label opened there) (test_past n) k)))
label_tests x (labels.Default ∷ ls) opened there n k = label_tests x ls true (past_label opened there) n k
