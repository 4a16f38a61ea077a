-- What a whole text has before the reader: the lines that are left.
use Rattle.std.proofs.Common.{◌≡◌, ℕ, List, [], ◌∷◌, ◌++◌, Option, Some, None, refl, sym, ◌∙◌, ap, subst, append-nil, append_assoc}
use Rattle.il_text.specs.declared.fault.IlFault.{IlFault}
use Rattle.il_text.specs.declared.fault.IlFault.TheVariants.{At, Memory}
use Rattle.il_text.specs.declared.fault.IlKind.TheVariants as kind
use Rattle.il_text.specs.declared.partial.Partial.{Partial}
use Rattle.il_text.specs.declared.line.Line.{Line}
use Rattle.il_text.specs.Faults.{NoNextLine, IsNoNextLine, IsWhole}
use Rattle.text_lines.specs.Lines.{HasNoFeed}
use Rattle.il_text.specs.FitPartials.{IsFitPartial}
use Rattle.il_text.specs.Partials.{partial_lines, next}
use Rattle.il_text.specs.Lines.{IsFitLine, line_words}
use Rattle.il_text.specs.Texts.{line_bytes, lines_text}
use Rattle.text_lines.specs.Words.{words_of}
use Rattle.il_text.proofs.FitLines.{AreFit, partial_fit}
use Rattle.il_text.proofs.GrowPartials.{grow}
use Rattle.il_text.proofs.LineBytes.{words_of_line, line_no_feed}
use Rattle.text_lines.proofs.Spaceless.{same_line, no_line}
use Rattle.il_text.proofs.NextLines.{no_line_in}
use Rattle.il_text.proofs.RunPartials.{run, run_append, run_partial, at_start, same_partial}

-- a partial program of the text of f, with the bytes of the lines that are left
pub record IsAhead (f partial : Partial) (rest : List ℕ) : Type 0 where
  pub ahead : List Line
  pub lines : partial_lines f ≡ partial_lines partial ++ ahead
  pub text : rest ≡ lines_text ahead

-- a line follows, and these lines behind it
record Follows (f partial : Partial) (bytes behind : List ℕ) : Type 0 where
  pub line : Line
  pub more : List Line
  pub fit : IsFitLine line
  pub lines : partial_lines f ≡ partial_lines partial ++ line ∷ more
  pub spelled : bytes ≡ line_bytes line
  pub text : behind ≡ lines_text more

fit_there : (ls : List Line) (l : Line) (ms : List Line) → AreFit (ls ++ l ∷ ms) → IsFitLine l
fit_there [] l ms h = h.0
fit_there (m ∷ ls) l ms h = fit_there ls l ms h.1

follows_at : (f partial : Partial) (ls : List Line) (rest bytes behind : List ℕ) → IsFitPartial f → partial_lines f ≡ partial_lines partial ++ ls
    → rest ≡ lines_text ls
    → rest ≡ bytes ++ 10 ∷ behind → HasNoFeed bytes → Follows f partial bytes behind
follows_at f partial [] rest bytes behind h e is split plain = absurd (no_line_in bytes behind (sym split ∙ is))
follows_at f partial (l ∷ ls) rest bytes behind h e is split plain =
    let fit = fit_there (partial_lines partial) l ls (subst AreFit e (partial_fit f h)) in
    let same = same_line bytes (line_bytes l) behind (lines_text ls) plain (line_no_feed l fit)
    (sym split ∙ is ∙ append_assoc (line_bytes l) (10 ∷ []) (lines_text ls)) in
    record { line = l; more = ls; fit = fit; lines = e; spelled = same.0; text = same.1 }

follows : (f partial : Partial) (rest bytes behind : List ℕ) → IsFitPartial f → IsAhead f partial rest → rest ≡ bytes ++ 10 ∷ behind → HasNoFeed bytes
    → Follows f partial bytes behind
follows f partial rest bytes behind h a split plain = follows_at f partial a.ahead rest bytes behind h a.lines a.text split plain

-- the lines of a read line are those of the text
pub each_step : (f g : Partial) (line l : Line) (bytes : List ℕ) → IsFitPartial f → IsFitLine line → next f line ≡ Some g → IsFitLine l → bytes ≡ line_bytes l
    → (words_of bytes ≡ line_words l → Some line ≡ Some l)
    → partial_lines g ≡ partial_lines f ++ l ∷ []
each_step f g line l bytes fits fit told k is only =
    let q = only (ap words_of is ∙ words_of_line l k) in
    let same : line ≡ l = cc q in
    (grow f line g fits fit told).lines ∙ ap (λ m. partial_lines f ++ m ∷ []) same

-- the next partial program is one of the text
pub ahead_goes_on : (b : List ℕ) (partial g : Partial) (rest bytes behind : List ℕ) → ((f : Partial) → IsWhole b f → IsAhead f partial rest)
    → rest ≡ bytes ++ 10 ∷ behind → HasNoFeed bytes
    → ((l : Line) → IsFitLine l → bytes ≡ line_bytes l → partial_lines g ≡ partial_lines partial ++ l ∷ []) → (f : Partial) → IsWhole b f → IsAhead f g behind
ahead_goes_on b partial g rest bytes behind a split plain each = λ f whole.
    let n = follows f partial rest bytes behind whole.fit (a f whole) split plain in
    record {
      ahead = n.more;
      lines = n.lines ∙ sym (append_assoc (partial_lines partial) (n.line ∷ []) n.more) ∙ ap (λ ls. ls ++ n.more) (sym (each n.line n.fit n.spelled));
      text = n.text;
    }

run_none : (ls : List Line) (f : Partial) → run None ls ≡ Some f → ⊥
run_none [] f e = absurd cc
run_none (l ∷ ls) f e = run_none ls f e

goes_on : (partial f : Partial) (l : Line) (ls : List Line) (o : Option Partial) → next partial l ≡ o → run o ls ≡ Some f
    → (g : Partial) × (next partial l ≡ Some g)
goes_on partial f l ls None e h = absurd (run_none ls f h)
goes_on partial f l ls (Some g) e h = (g, e)

-- a line of the text is no bad one
no_bad : (f partial : Partial) (bytes behind : List ℕ) → IsFitPartial f → IsFitPartial partial → Follows f partial bytes behind → NoNextLine partial bytes → ⊥
no_bad f partial bytes behind h k n none =
    let whole : run (Some partial) (n.line ∷ n.more) ≡ Some f = sym
    (run_append (Some at_start) (partial_lines partial) (n.line ∷ n.more) ∙ ap (λ o. run o (n.line ∷ n.more)) (run_partial partial k)) ∙ ap
    (λ ls. run (Some at_start) ls) (sym n.lines) ∙ run_partial f h in
    let g = goes_on partial f n.line n.more (next partial n.line) refl whole in
    let r = grow partial n.line g.0 k n.fit g.1 in
    none g.0 n.line r.fit r.lines n.spelled

pub only_memory : (f partial : Partial) (rest bytes behind : List ℕ) (n : ℕ) (fault : IlFault) → IsFitPartial f → IsFitPartial partial → IsAhead f partial rest
    → rest ≡ bytes ++ 10 ∷ behind → HasNoFeed bytes → IsNoNextLine partial bytes n fault → fault ≡ Memory
only_memory f partial rest bytes behind n (At m kind.Line) h k a split plain e =
    absurd (no_bad f partial bytes behind h k (follows f partial rest bytes behind h a split plain) e.1)
only_memory f partial rest bytes behind n (At m kind.Order) h k a split plain e = absurd e
only_memory f partial rest bytes behind n (At m (kind.Invalid flaw)) h k a split plain e = absurd e
only_memory f partial rest bytes behind n (At m kind.NoMain) h k a split plain e = absurd e
only_memory f partial rest bytes behind n Memory h k a split plain e = refl

ends_at : (f partial : Partial) (ls : List Line) (rest : List ℕ) → IsFitPartial f → IsFitPartial partial → partial_lines f ≡ partial_lines partial ++ ls
    → rest ≡ lines_text ls
    → HasNoFeed rest → (rest ≡ []) × (partial ≡ f)
ends_at f partial [] rest h k e is plain = (is, same_partial partial f k h (sym (e ∙ append-nil (partial_lines partial))))
ends_at f partial (l ∷ ls) rest h k e is plain = absurd (no_line (line_bytes l) rest (lines_text ls) plain
    (is ∙ append_assoc (line_bytes l) (10 ∷ []) (lines_text ls)))

-- where no line follows, the whole text was read
pub ends : (f partial : Partial) (rest : List ℕ) → IsFitPartial f → IsFitPartial partial → IsAhead f partial rest → HasNoFeed rest → (rest ≡ []) × (partial ≡ f)
ends f partial rest h k a plain = ends_at f partial a.ahead rest h k a.lines a.text plain
