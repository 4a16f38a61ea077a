-- What is known at calls, in words.
use Rattle.std.specs.Prelude.{ℕ, List, Option, map, option_map}
use Rattle.hlo_num.specs.declared.word.Word.{Word}

-- the words of one call's arguments
abbrev pub words_at : List (Option Word) → List (Option ℕ)
words_at ws = map (λ o. option_map (λ (w : Word). w.0) o) ws

-- the words of all calls' arguments
abbrev pub words_of : List (List (Option Word)) → List (List (Option ℕ))
words_of known = map words_at known
