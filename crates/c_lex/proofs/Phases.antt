-- Each phase, by its lemmas.
use Rattle.std.proofs.Common.{ℕ, refl, List, [], ◌∷◌, None}
use Rattle.c_lex.specs.declared.phase.Base.TheVariants.{Octal, Hex}
use Rattle.c_lex.specs.declared.phase.Context.{Context}
use Rattle.c_lex.specs.declared.phase.Place.{Place}
use Rattle.c_lex.specs.declared.phase.Phase.{Phase}
use Rattle.c_lex.specs.declared.phase.Phase.TheVariants as phase
use Rattle.c_lex.specs.Bytes.{digit_of}
use Rattle.c_lex.specs.Pieces.{is_code, number, plain}
use Rattle.c_lex.specs.Machine.{enter, step, close}
use Rattle.c_lex.proofs.Fine.{Fine, EnterGood, StepGood, CloseGood, Alive}
use Rattle.c_lex.specs.Machine.{Gets}
use Rattle.c_lex.proofs.LinePhases as line
use Rattle.c_lex.proofs.NamePhases as named
use Rattle.c_lex.proofs.NumberPhases as numeric
use Rattle.c_lex.proofs.CharacterPhases as quoted
use Rattle.c_lex.proofs.Lives.{living}

pub enter_good : (w : Context) (c : ℕ) → EnterGood w c (enter w c)
enter_good w c = line.enter_good w c

pub step_good : (w : Context) (ph : Phase) (us : List ℕ) (c : ℕ) → Fine w ph us → Gets w us ph → StepGood w ph us c (step w ph us c)
step_good w (phase.Whole x) us c f g = f.1 c
step_good w phase.Slash us c f g = line.slash_good w us c f
step_good w (phase.Comment star) us c f g = line.comment_good w star us c f
step_good w phase.Name us c f g = named.name_good w us c f
step_good w phase.Zero us c f g = numeric.zero_step w us c f g
step_good w (phase.Digits b v) us c f g = numeric.digits_step w b v us c f g
step_good w phase.HexMark us c f g = numeric.mark_step w us c f g (digit_of Hex c) refl
step_good w (phase.Suffix b v u l) us c f g = numeric.suffix_step w b v u l us c f g
step_good w phase.Quote us c f g = quoted.quote_good w us c f
step_good w phase.Escape us c f g = quoted.escape_good w us c f
step_good w phase.HexEscape us c f g = quoted.hex_escape_good w us c f (digit_of Hex c) refl
step_good w (phase.OctalDigits n v) us c f g = quoted.octal_good w n v us c f (digit_of Octal c) refl
step_good w (phase.HexDigits v) us c f g = quoted.hex_good w v us c f (digit_of Hex c) refl
step_good w (phase.Body v) us c f g = quoted.body_good w v us c f
step_good w (phase.Punct m) us c f g = named.sign_good w m us c f
step_good w phase.IncludeWord us c f g = line.include_good w us c f
step_good w (phase.HeaderName h) us c f g = line.header_good w h us c f
step_good w phase.Marker us c f g = line.marker_good w us c f

pub close_good : (w : Context) (ph : Phase) (us : List ℕ) → Fine w ph us → Gets w us ph → CloseGood w us (close w ph us)
close_good w (phase.Whole x) us f g = f.0
close_good w phase.Slash us f g = line.slash_close w us f (is_code w) refl
close_good w (phase.Comment star) us f g = line.comment_close w star us f
close_good w phase.Name us f g = named.name_close w us f
close_good w phase.Zero us f g = numeric.zero_close w us f
close_good w (phase.Digits b v) us f g = number f.0 (plain f.1)
close_good w phase.HexMark us f g = numeric.mark_close w us f
close_good w (phase.Suffix b v u l) us f g = number f.0 f.1
close_good w phase.Quote us f g = quoted.bad w us None f.0 ([], f.1)
close_good w phase.Escape us f g = quoted.bad w us None f.0 (92 ∷ [], f.1)
close_good w phase.HexEscape us f g = quoted.bad w us None f.0 (92 ∷ 120 ∷ [], f.1)
close_good w (phase.OctalDigits n v) us f g = quoted.bad w us None f.0 (quoted.octal_opens f.1)
close_good w (phase.HexDigits v) us f g = quoted.bad w us None f.0 (quoted.hex_opens f.1)
close_good w (phase.Body v) us f g = quoted.bad w us None f.0 (quoted.quoted_opens f.1)
close_good w (phase.Punct m) us f g = named.sign_close w m us f
close_good w phase.IncludeWord us f g = line.include_close w us f
close_good w (phase.HeaderName h) us f g = line.header_close w h us f
close_good w phase.Marker us f g = line.marker_close w us f

pub alive : (w : Context) (p : Place) (ph : Phase) (us : List ℕ) → Fine w ph us → Alive w p us
alive w p ph us f = living w p ph us f
