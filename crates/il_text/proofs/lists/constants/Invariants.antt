use Rattle.std.proofs.Common.{◌≡◌, ◌≤◌, length}
use Rattle.hlo_num.specs.declared.word.Word.{Word}
use Rattle.hlo_num.specs.Words.{IsWord}
use Rattle.il_core.specs.Object.{ends_with_zero}
use Rattle.il_core.specs.Text.{word}
use Rattle.text_lines.specs.Words.{words_left}
use Rattle.il_text.proofs.ReadLists.{IsReadSoFar}
use Rattle.il_text.proofs.lists.constants.Given as goal

abbrev pub invariant-loop-left : goal.invariant-loop-left
invariant-loop-left l = record {
  read : IsReadSoFar word (λ (w : Word). IsWord w.0) (words_left l.fn.words) (words_left l.left) l.init;
  few : length l.init ≤
      l.object_words;
  last : l.ends_with_zero ≡ ends_with_zero l.init;
}

abbrev pub decreases-loop-left : goal.decreases-loop-left
decreases-loop-left l = length (words_left l.left)
