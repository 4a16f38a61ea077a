use Rattle.std.proofs.Common.{◌≡◌, ◌≤◌, length, sum}
use Rattle.std.specs.Fmt.{decimal}
use Rattle.hlo_num.specs.Words.{IsWord}
use Rattle.il_core.specs.Limits.{max_arrays, max_elements}
use Rattle.text_lines.specs.Words.{words_left}
use Rattle.il_text.proofs.ReadLists.{IsReadSoFar}
use Rattle.il_text.proofs.lists.lengths.Given as goal

abbrev pub invariant-loop-left : goal.invariant-loop-left
invariant-loop-left l = record {
  read : IsReadSoFar decimal IsWord (words_left l.fn.words) (words_left l.left) l.lens;
  few : length l.lens ≤ max_arrays;
  total :
      l.elements ≡ sum l.lens;
  small : sum l.lens ≤ max_elements;
}

abbrev pub decreases-loop-left : goal.decreases-loop-left
decreases-loop-left l = length (words_left l.left)
