-- Lines as words and as bytes.
use Rattle.std.proofs.Common.{◌≡◌, []}
use Rattle.il_text.specs.declared.line.Line.{Line}
use Rattle.il_text.specs.declared.line.Line.TheVariants.{First, Object, Routine, Label, Inside, Close, Done}
use Rattle.il_text.specs.Lines.{IsFitLine, line_words}
use Rattle.text_lines.specs.Lines.{HasNoFeed}
use Rattle.il_text.specs.Texts.{line_bytes}
use Rattle.text_lines.specs.Words.{words_of}
use Rattle.il_text.proofs.PlainWords.{line_plain}
use Rattle.text_lines.proofs.Spaceless.{words_joined, join_no_feed}

some_words : (l : Line) → line_words l ≡ [] → ⊥
some_words First e = absurd cc
some_words (Object o) e = absurd cc
some_words (Routine r) e = absurd cc
some_words (Label n) e = absurd cc
some_words (Inside s) e = absurd cc
some_words Close e = absurd cc
some_words Done e = absurd cc

-- the words of a line that fits
pub words_of_line : (l : Line) → IsFitLine l → words_of (line_bytes l) ≡ line_words l
words_of_line l h = words_joined (line_words l) (some_words l) (line_plain l h)

pub line_no_feed : (l : Line) → IsFitLine l → HasNoFeed (line_bytes l)
line_no_feed l h = join_no_feed (line_words l) (line_plain l h)
