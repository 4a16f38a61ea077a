-- The machine's answer is right: its tokens are the text's, and its fault is the first byte that no text goes on with.
use Rattle.std.proofs.Common.{ℕ, ◌≡◌, refl, sym, ◌∙◌, ap, subst, add-zero, Bool, true, false, List, [], ◌∷◌, ◌++◌, Option, Some, None, Result, Ok, Err}
use Rattle.c_tree.specs.declared.token.Token.{Token}
use Rattle.c_lex.specs.declared.phase.Context.{Context}
use Rattle.c_lex.specs.declared.phase.Context.TheVariants.{Fresh, Used, Hash, Include, Closed}
use Rattle.c_lex.specs.declared.phase.Place.{Place}
use Rattle.c_lex.specs.declared.phase.Piece.{Piece}
use Rattle.c_lex.specs.declared.phase.Phase.{Phase}
use Rattle.c_lex.specs.declared.fault.LexKind.{LexKind}
use Rattle.c_lex.specs.declared.fault.LexKind.TheVariants.{BadByte, Directive, OpenComment, BadChar, BadNumber, TooBig, LeftOut, LongName}
use Rattle.c_lex.specs.Pieces.{is_code, may_end, IsPiece, longer}
use Rattle.c_lex.specs.Text.{past, after, tokens_of, Pieces, ending, then_piece, AtEnd, Cause, directive, told_line, Breaks, IsOpenComment}
use Rattle.c_lex.specs.Machine.{enter, step, close, Reading, Tokens, Fault, before, ended, entered, finished, closed, follow, run}
use Rattle.list_laws.proofs.Elements.{onto}
use Rattle.c_lex.proofs.Fine.{Fine, EnterGood, SeamGood, StepGood, CloseGood}
use Rattle.c_lex.specs.Machine.{Gets, first_byte, next_byte}
use Rattle.c_lex.proofs.Phases.{enter_good, step_good, close_good, alive}

pub fine : {w : Context} {us : List ℕ} {ph : Phase} → Gets w us ph → Fine w ph us
fine {w} (first_byte c e) = subst (EnterGood w c) e (enter_good w c)
fine {w} (next_byte {us} {ph} c g e) = subst (StepGood w ph us c) e (step_good w ph us c (fine g) g)

pub record Stopped (cs : List ℕ) (w : Context) (p : Place) (us : List ℕ) (ph : Phase) (k : LexKind) (line : ℕ) (rest : List ℕ) : Type 0 where
  pub front : List ℕ
  pub is : cs ≡ front ++ rest
  pub more : (ts : List Token) × (vs : List ℕ) × Pieces AtEnd w p ts (us ++ (front ++ vs))
  pub again : (c : ℕ) (r1 r2 : List ℕ) → rest ≡ c ∷ r1 → run (front ++ c ∷ r2) w p us ph ≡ Fault k line (c ∷ r2)
  pub pieces : List Token
  pub cause : Pieces (Breaks k line rest) w p pieces (us ++ cs)

abbrev pub Judged : List ℕ → Context → Place → List ℕ → Phase → Reading → Type 0
Judged cs w p us ph (Tokens ts) = Pieces AtEnd w p ts (us ++ cs)
Judged cs w p us ph (Fault k line rest) = Stopped cs w p us ph k line rest

pub told_here : (k : LexKind) (p : Place) → p.line ≡ told_line k p []
told_here OpenComment p = refl
told_here BadByte p = sym (add-zero _)
told_here Directive p = sym (add-zero _)
told_here BadChar p = sym (add-zero _)
told_here BadNumber p = sym (add-zero _)
told_here TooBig p = sym (add-zero _)
told_here LeftOut p = sym (add-zero _)
told_here LongName p = sym (add-zero _)

open_include : (w : Context) → may_end w ≡ false → is_code w ≡ false
open_include (Include p) e = refl
open_include Fresh e = cc
open_include Used e = cc
open_include (Hash p) e = cc
open_include Closed e = cc

no_comment : IsOpenComment [] → ⊥
no_comment (vs, e, h) = cc

-- nothing more is read
stop_end : (w : Context) (p : Place) (us : List ℕ) (ph : Phase) (k : LexKind) → Gets w us ph → Cause w us None k → Stopped [] w p us ph k (told_line k p us) []
stop_end w p us ph k g h = record {
  front = [];
  is = refl;
  more = alive w p ph us (fine g);
  again = λ c r1 r2 e. absurd cc;
  pieces = [];
  cause = ending (us, refl, h, refl);
}

stop_here : (w : Context) (p : Place) (us : List ℕ) (ph : Phase) (c : ℕ) (cs : List ℕ) (k : LexKind) → Gets w us ph → Cause w us (Some c) k
    → ((r2 : List ℕ) → run (c ∷ r2) w p us ph ≡ Fault k (told_line k p us) (c ∷ r2)) → Stopped (c ∷ cs) w p us ph k (told_line k p us) (c ∷ cs)
stop_here w p us ph c cs k g h f = record {
  front = [];
  is = refl;
  more = alive w p ph us (fine g);
  again = λ d r1 r2 e. let q : c ≡ d = cc in subst (λ z. run (z ∷ r2) w p us ph ≡ Fault k (told_line k p us) (z ∷ r2)) q (f r2);
  pieces = [];
  cause = ending (us, refl, h, refl);
}

judge_end : (w : Context) (p : Place) (us : List ℕ) (ph : Phase) → Gets w us ph → (x : Result Piece LexKind) → close w ph us ≡ x
    → Judged [] w p us ph (finished x w p us)
judge_end w p us ph g (Err k) e = stop_end w p us ph k g (subst (CloseGood w us) e (close_good w ph us (fine g) g))
judge_end w p us ph g (Ok x) e = last (may_end (after x w p us)) refl
  where
    is_piece : IsPiece w x us
    is_piece = subst (CloseGood w us) e (close_good w ph us (fine g) g)

    last : (b : Bool) → may_end (after x w p us) ≡ b → Judged [] w p us ph (before (tokens_of x w p us) (ended b (past p us)))
    last true h = then_piece is_piece tt (ending (refl, h))
    last false h = record {
      front = [];
      is = refl;
      more = alive w p ph us (fine g);
      again = λ c r1 r2 q. absurd cc;
      pieces = tokens_of x w p us ++ [];
      cause = then_piece is_piece tt (ending ([], refl, directive (open_include (after x w p us) h) (λ _ o. no_comment o), told_here Directive (past p us)));
    }

-- the byte goes on in the piece
judge_on : (w : Context) (p : Place) (us : List ℕ) (ph ph2 : Phase) (c : ℕ) (cs : List ℕ) → step w ph us c ≡ Ok (Some ph2) → (x : Reading)
    → Judged cs w p (us ++ c ∷ []) ph2 x → Judged (c ∷ cs) w p us ph x
judge_on w p us ph ph2 c cs e (Tokens ts) j = subst (λ z. Pieces AtEnd w p ts z) (onto us c cs) j
judge_on w p us ph ph2 c cs e (Fault k line rest) j = record {
  front = c ∷ j.front;
  is = ap (λ z. c ∷ z) j.is;
  more = (j.more.0, j.more.1, subst (λ z. Pieces AtEnd w p j.more.0 z) (onto us c (j.front ++ j.more.1)) j.more.2);
  again = λ d r1 r2 h. ap (λ z. follow z (close w ph us) w p us c (j.front ++ d ∷ r2) (run (j.front ++ d ∷ r2))) e ∙ j.again d r1 r2 h;
  pieces = j.pieces;
  cause = subst (λ z. Pieces (Breaks k line rest) w p j.pieces z) (onto us c cs) j.cause;
}

-- the byte begins the next piece
judge_next : (w : Context) (p : Place) (us : List ℕ) (ph : Phase) (x : Piece) (c : ℕ) (cs : List ℕ) → Gets w us ph → step w ph us c ≡ Ok None
    → close w ph us ≡ Ok x → ((ph2 : Phase) → Gets (after x w p us) (c ∷ []) ph2
    → Judged cs (after x w p us) (past p us) (c ∷ []) ph2 (run cs (after x w p us) (past p us) (c ∷ []) ph2)) → (y : Result Phase LexKind)
    → enter (after x w p us) c ≡ y → Judged (c ∷ cs) w p us ph (before (tokens_of x w p us) (entered y (after x w p us) (past p us) c cs (run cs)))
judge_next w p us ph x c cs g e1 e2 ih y e3 = go y e3
  where
    is_piece : IsPiece w x us
    is_piece = subst (CloseGood w us) e2 (close_good w ph us (fine g) g)

    longest : longer x us c ≡ false
    longest = subst (SeamGood w us c) e2 (subst (StepGood w ph us c) e1 (step_good w ph us c (fine g) g))

    again : (r : List ℕ) → run (c ∷ r) w p us ph ≡ before (tokens_of x w p us) (entered (enter (after x w p us) c) (after x w p us) (past p us) c r (run r))
    again r = ap (λ z. follow z (close w ph us) w p us c r (run r)) e1 ∙ ap (λ z. closed z w p us c r (run r)) e2

    inner : (ph2 : Phase) → enter (after x w p us) c ≡ Ok ph2 → (z : Reading) → Judged cs (after x w p us) (past p us) (c ∷ []) ph2 z
        → Judged (c ∷ cs) w p us ph (before (tokens_of x w p us) z)
    inner ph2 h (Tokens ts) j = then_piece is_piece longest j
    inner ph2 h (Fault k line rest) j = record {
      front = c ∷ j.front;
      is = ap (λ z. c ∷ z) j.is;
      more = (tokens_of x w p us ++ j.more.0, j.more.1, then_piece is_piece longest j.more.2);
      again = λ d r1 r2 q. again (j.front ++ d ∷ r2) ∙ ap (λ z. before (tokens_of x w p us)
          (entered z (after x w p us) (past p us) c (j.front ++ d ∷ r2) (run (j.front ++ d ∷ r2)))) h ∙ ap (before (tokens_of x w p us)) (j.again d r1 r2 q);
      pieces = tokens_of x w p us ++ j.pieces;
      cause = then_piece is_piece longest j.cause;
    }

    go : (y : Result Phase LexKind) → enter (after x w p us) c ≡ y
        → Judged (c ∷ cs) w p us ph (before (tokens_of x w p us) (entered y (after x w p us) (past p us) c cs (run cs)))
    go (Ok ph2) h = inner ph2 h (run cs (after x w p us) (past p us) (c ∷ []) ph2) (ih ph2 (first_byte c h))
    go (Err k) h = record {
      front = [];
      is = refl;
      more = alive w p ph us (fine g);
      again = λ d r1 r2 q. let s : c ≡ d = cc in subst (λ z. run (z ∷ r2) w p us ph ≡ Fault k (past p us).line (z ∷ r2)) s
          (again r2 ∙ ap (λ z. before (tokens_of x w p us) (entered z (after x w p us) (past p us) c r2 (run r2))) h);
      pieces = tokens_of x w p us ++ [];
      cause = then_piece is_piece longest (ending ([], refl, subst (EnterGood (after x w p us) c) h (enter_good (after x w p us) c), told_here k (past p us)));
    }

abbrev Later : List ℕ → Type 0
Later cs = (w : Context) (p : Place) (us : List ℕ) (ph : Phase) → Gets w us ph → Judged cs w p us ph (run cs w p us ph)

pub judge : (cs : List ℕ) (w : Context) (p : Place) (us : List ℕ) (ph : Phase) → Gets w us ph → Judged cs w p us ph (run cs w p us ph)
judge [] w p us ph g = judge_end w p us ph g (close w ph us) refl
judge (c ∷ cs) w p us ph g = go (λ w2 p2 us2 ph2 h. judge cs w2 p2 us2 ph2 h) (step w ph us c) refl
  where
    seam : Later cs → step w ph us c ≡ Ok None → (x : Result Piece LexKind) → close w ph us ≡ x → Judged (c ∷ cs) w p us ph (closed x w p us c cs (run cs))
    seam ih e (Ok x) e2 = judge_next w p us ph x c cs g e e2 (λ ph2 h. ih (after x w p us) (past p us) (c ∷ []) ph2 h) (enter (after x w p us) c) refl
    seam ih e (Err k) e2 = stop_here w p us ph c cs k g (subst (SeamGood w us c) e2 (subst (StepGood w ph us c) e (step_good w ph us c (fine g) g)))
        (λ r. ap (λ z. follow z (close w ph us) w p us c r (run r)) e ∙ ap (λ z. closed z w p us c r (run r)) e2)

    go : Later cs → (y : Result (Option Phase) LexKind) → step w ph us c ≡ y → Judged (c ∷ cs) w p us ph (follow y (close w ph us) w p us c cs (run cs))
    go ih (Ok (Some ph2)) e = judge_on w p us ph ph2 c cs e (run cs w p (us ++ c ∷ []) ph2) (ih w p (us ++ c ∷ []) ph2 (next_byte c g e))
    go ih (Ok None) e = seam ih e (close w ph us) refl
    go ih (Err k) e = stop_here w p us ph c cs k g (subst (StepGood w ph us c) e (step_good w ph us c (fine g) g))
        (λ r. ap (λ z. follow z (close w ph us) w p us c r (run r)) e)
