-- What follows a partial program.
use Rattle.std.proofs.Common.{◌≡◌, ℕ, ◌+◌, ◌-◌, ◌^◌, min, List, [], ◌∷◌, ◌++◌, length, Some, None, sym, ◌∙◌, ap, subst, append-nil, append_assoc}
use Rattle.std.proofs.Common.{length-append, arith, false}
use Rattle.std.specs.Prelude.{◌==◌}
use Rattle.std.specs.List.{join_with_byte}
use Rattle.std.proofs.lemmas.Grind.{flat_map-append}
use Rattle.il_text.specs.declared.fault.IlFault.{IlFault}
use Rattle.il_text.specs.declared.fault.IlFault.TheVariants.{At, Memory}
use Rattle.il_text.specs.declared.fault.IlKind.TheVariants as kind
use Rattle.il_text.specs.declared.partial.Partial.{Partial}
use Rattle.il_text.specs.declared.partial.Place.TheVariants as place
use Rattle.il_text.specs.declared.line.Line.{Line}
use Rattle.il_text.specs.Faults.{line_number, IsNextLine, NoNextLine, IsNoNextLine, IsFirstBadLine, IsLineFault}
use Rattle.text_lines.specs.Lines.{HasNoFeed}
use Rattle.il_text.specs.FitPartials.{IsFitPartial}
use Rattle.il_text.specs.Partials.{partial_lines, next}
use Rattle.il_text.specs.Lines.{IsFitLine, line_words}
use Rattle.il_text.specs.Texts.{line_bytes, lines_text}
use Rattle.text_lines.specs.Words.{words_of}
use Rattle.il_text.proofs.FitLines.{AreFit, partial_fit, fit_last}
use Rattle.il_text.proofs.GrowPartials.{grow}
use Rattle.il_text.proofs.LineBytes.{words_of_line, line_no_feed}
use Rattle.text_lines.proofs.Spaceless.{join_words, same_line, no_line}
use Rattle.il_text.proofs.RunPartials.{next_told}

last_fit : (f g : Partial) (l : Line) → IsFitPartial g → partial_lines g ≡ partial_lines f ++ l ∷ [] → IsFitLine l
last_fit f g l h e = fit_last (partial_lines f) l (subst AreFit e (partial_fit g h))

-- where the bytes are no line
pub no_words : (f : Partial) (bytes : List ℕ) → ((l : Line) → IsFitLine l → words_of bytes ≡ line_words l → ⊥) → NoNextLine f bytes
no_words f bytes none = λ g l h e is. let k = last_fit f g l h e in none l k (ap words_of is ∙ words_of_line l k)

-- where the partial program doesn't go on with their line
pub no_step : (f : Partial) (line : Line) (bytes : List ℕ) → IsFitPartial f → ((l : Line) → IsFitLine l → words_of bytes ≡ line_words l → line ≡ l)
    → next f line ≡ None → NoNextLine f bytes
no_step f line bytes fits only none = λ g l h e is.
    let k = last_fit f g l h e in
    let same = only l k (ap words_of is ∙ words_of_line l k) in
    let told : None ≡ Some g = sym none ∙ ap (λ m. next f m) same ∙ next_told f g l fits h e in
    absurd (cc told)

-- where it does
pub one_step : (f g : Partial) (line : Line) (bytes : List ℕ) → IsFitPartial f → IsFitLine line → words_of bytes ≡ line_words line → next f line ≡ Some g
    → IsNextLine f bytes g
one_step f g line bytes fits fit words told =
    let r = grow f line g fits fit told in
    record { fit = r.fit; line = line; lines = r.lines; spelled = sym (join_words bytes) ∙ ap (λ ws. join_with_byte 32 ws) words }

more_text : (ls : List Line) (l : Line) → lines_text (ls ++ l ∷ []) ≡ lines_text ls ++ (line_bytes l ++ 10 ∷ [])
more_text ls l = flat_map-append (λ m. line_bytes m ++ 10 ∷ []) ls (l ∷ []) ∙ ap (λ bs. lines_text ls ++ bs) (append-nil (line_bytes l ++ 10 ∷ []))

-- the text goes over to the next partial program
pub text_goes_on : (f g : Partial) (b rest bytes behind : List ℕ) → IsNextLine f bytes g → b ≡ lines_text (partial_lines f) ++ rest
    → rest ≡ bytes ++ 10 ∷ behind
    → b ≡ lines_text (partial_lines g) ++ behind
text_goes_on f g b rest bytes behind n e split =
    e ∙ ap (λ l. lines_text (partial_lines f) ++ l) (split ∙ ap (λ l. l ++ 10 ∷ behind) n.spelled ∙ sym (append_assoc (line_bytes n.line) (10 ∷ []) behind))
    ∙ sym (append_assoc (lines_text (partial_lines f)) (line_bytes n.line ++ 10 ∷ []) behind)
    ∙ ap (λ l. l ++ behind) (sym (more_text (partial_lines f) n.line) ∙ ap lines_text (sym n.lines))

pub number_goes_on : (f g : Partial) (bytes : List ℕ) (n m : ℕ) → IsNextLine f bytes g → n ≡ line_number (length (partial_lines f))
    → m ≡ min (n + 1) (2 ^ 32 - 1)
    → m ≡ line_number (length (partial_lines g))
number_goes_on f g bytes n m h e is = let len : length (partial_lines g) ≡ length (partial_lines f) + 1 = ap length h.lines ∙ length-append (partial_lines f)
    (h.line ∷ []) in omega (arith, len, e, is)

pub no_line_in : (bytes behind : List ℕ) → bytes ++ 10 ∷ behind ≡ [] → ⊥
no_line_in [] behind e = absurd cc
no_line_in (x ∷ bytes) behind e = absurd cc

-- the first bad line, where a line follows
pub bad_line : (f : Partial) (b rest bytes behind : List ℕ) (n : ℕ) → IsFitPartial f → b ≡ lines_text (partial_lines f) ++ rest
    → n ≡ line_number (length (partial_lines f)) → rest ≡ bytes ++ 10 ∷ behind → HasNoFeed bytes → NoNextLine f bytes → IsFirstBadLine b n
bad_line f b rest bytes behind n h e number split plain none = record {
  partial = f;
  fit = h;
  rest = rest;
  text = e;
  number = number;
  no_line = λ bytes' behind' is. λ g l fits lines spelled.
      let same = same_line bytes bytes' behind behind' plain (subst HasNoFeed (sym spelled) (line_no_feed l (last_fit f g l fits lines))) (sym split ∙ is) in
      none g l fits lines (same.0 ∙ spelled);
  no_end = λ nothing done. no_line_in bytes behind (sym split ∙ nothing);
}

-- the first bad line, where no line follows
pub no_more_lines : (f : Partial) (b rest : List ℕ) (n : ℕ) → IsFitPartial f → b ≡ lines_text (partial_lines f) ++ rest
    → n ≡ line_number (length (partial_lines f))
    → HasNoFeed rest → (rest ≡ [] → f.place ≡ place.Done → ⊥) → IsFirstBadLine b n
no_more_lines f b rest n h e number plain end = record {
  partial = f;
  fit = h;
  rest = rest;
  text = e;
  number = number;
  no_line = λ bytes behind is. absurd (no_line bytes rest behind plain is);
  no_end = end;
}

pub not_nothing : (xs : List ℕ) → (length xs == 0) ≡ false → xs ≡ [] → ⊥
not_nothing [] h e = absurd cc
not_nothing (x ∷ xs) h e = absurd cc

-- a fault in the next line
pub bad_next : (f : Partial) (b rest bytes behind : List ℕ) (n : ℕ) (fault : IlFault) → IsFitPartial f → b ≡ lines_text (partial_lines f) ++ rest
    → n ≡ line_number (length (partial_lines f)) → rest ≡ bytes ++ 10 ∷ behind → HasNoFeed bytes → IsNoNextLine f bytes n fault → IsLineFault b fault
bad_next f b rest bytes behind n (At m kind.Line) h e number split plain none = bad_line f b rest bytes behind m h e (none.0 ∙ number) split plain none.1
bad_next f b rest bytes behind n (At m kind.Order) h e number split plain none = none
bad_next f b rest bytes behind n (At m (kind.Invalid flaw)) h e number split plain none = none
bad_next f b rest bytes behind n (At m kind.NoMain) h e number split plain none = none
bad_next f b rest bytes behind n Memory h e number split plain none = tt
