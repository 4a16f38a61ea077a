-- Lines and their words.
use Rattle.std.proofs.Common.{◌≡◌, ℕ, List, [], ◌∷◌, refl, sym, ap, ◌∙◌}
use Rattle.std.specs.Prelude.{codes}
use Rattle.std.specs.List.{join_with_byte}
use Rattle.text_lines.specs.Lines.{HasNoFeed}
use Rattle.text_lines.specs.Words.{words_of}
use Rattle.text_lines.proofs.Spaceless.{ArePlain, decimal_plain, name_plain, join_words, words_joined, join_no_feed}
use Rattle.profile.specs.Texts.{Line, Entry, Site, IsLine, line_words, line_bytes}

words_plain : (l : Line) → IsLine l → ArePlain (line_words l)
words_plain (Entry n c) h = (refl, (name_plain n (h.0).1, (decimal_plain c h.1, tt)))
words_plain (Site n k c) h = (refl, (name_plain n (h.0).1, (decimal_plain k h.1, (decimal_plain c h.2, tt))))

some_words : (l : Line) → line_words l ≡ [] → ⊥
some_words (Entry n c) e = absurd cc
some_words (Site n k c) e = absurd cc

pub spelled : (bs : List ℕ) (l : Line) → words_of bs ≡ line_words l → bs ≡ line_bytes l
spelled bs l e = sym (join_words bs) ∙ ap (join_with_byte 32) e

pub taken_apart : (bs : List ℕ) (l : Line) → IsLine l → bs ≡ line_bytes l → words_of bs ≡ line_words l
taken_apart bs l h e = ap words_of e ∙ words_joined (line_words l) (some_words l) (words_plain l h)

pub no_feed : (l : Line) → IsLine l → HasNoFeed (line_bytes l)
no_feed l h = join_no_feed (line_words l) (words_plain l h)

not_end_words : (l : Line) → line_words l ≡ codes "end" ∷ [] → ⊥
not_end_words (Entry n c) e = absurd cc
not_end_words (Site n k c) e = absurd cc

-- no line is the last one
pub not_end : (l : Line) → IsLine l → line_bytes l ≡ codes "end" → ⊥
not_end l h e = not_end_words l (sym (taken_apart (line_bytes l) l h refl) ∙ ap words_of e)
