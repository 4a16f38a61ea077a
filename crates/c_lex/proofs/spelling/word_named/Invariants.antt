use Rattle.std.proofs.Common.{◌≡◌, drop}
use Rattle.c_lex.specs.Spelling.{named, word_spelling, words, word_named}
use Rattle.c_lex.proofs.spelling.word_named.Given as goal

-- no word before the index is spelled so
abbrev pub invariant-loop-r : goal.invariant-loop-r
invariant-loop-r l = record { items : l.r-items ≡ words; none_before : word_named l.us ≡ named word_spelling (drop l.r-index words) l.us }
