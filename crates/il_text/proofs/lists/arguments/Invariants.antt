use Rattle.std.proofs.Common.{◌≤◌, length}
use Rattle.hlo_num.specs.Words.{IsWord}
use Rattle.il_core.specs.Limits.{max_parameters}
use Rattle.il_core.specs.Text.{reg}
use Rattle.text_lines.specs.Words.{words_left}
use Rattle.il_text.proofs.ReadLists.{IsReadSoFar}
use Rattle.il_text.proofs.lists.arguments.Given as goal

abbrev pub invariant-loop-left : goal.invariant-loop-left
invariant-loop-left l = record { read : IsReadSoFar reg IsWord (words_left l.fn.words) (words_left l.left) l.args; few : length l.args ≤ max_parameters }

abbrev pub decreases-loop-left : goal.decreases-loop-left
decreases-loop-left l = length (words_left l.left)
