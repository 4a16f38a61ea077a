-- Lines of a text as bytes.
use Rattle.std.specs.Prelude.{ℕ, List, [], ◌∷◌, ◌++◌, flat_map}
use Rattle.std.specs.List.{join_with_byte}
use Rattle.il_text.specs.declared.line.Line.{Line}
use Rattle.il_text.specs.Lines.{line_words}

-- a line without its LF
abbrev pub line_bytes : Line → List ℕ
line_bytes l = join_with_byte 32 (line_words l)

abbrev pub lines_text : List Line → List ℕ
lines_text ls = flat_map (λ l. line_bytes l ++ 10 ∷ []) ls
