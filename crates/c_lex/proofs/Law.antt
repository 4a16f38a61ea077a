-- What the machine says of a whole text.
use Rattle.std.proofs.Common.{ℕ, ◌≡◌, refl, sym, ◌∙◌, ap, subst, false, List, [], ◌∷◌, ◌++◌, append_assoc, None, Result, Ok, Err}
use Rattle.c_tree.specs.declared.token.Token.{Token}
use Rattle.c_lex.specs.declared.phase.Context.{Context}
use Rattle.c_lex.specs.declared.phase.Context.TheVariants.{Fresh}
use Rattle.c_lex.specs.declared.phase.Place.{Place}
use Rattle.c_lex.specs.declared.phase.Piece.{Piece}
use Rattle.c_lex.specs.declared.phase.Phase.{Phase}
use Rattle.c_lex.specs.declared.fault.LexKind.{LexKind}
use Rattle.c_lex.specs.declared.fault.LexFault.{LexFault}
use Rattle.c_lex.specs.declared.fault.LexFault.TheVariants.{At, Memory}
use Rattle.c_lex.specs.Pieces.{IsLongest, longer}
use Rattle.c_lex.specs.Text.{past, after, tokens_of, Pieces, ending, then_piece, AtEnd, IsText, start, Breaks, Continues, IsFault, IsFaultOf}
use Rattle.c_lex.specs.Machine.{enter, step, close, Reading, Tokens, Fault, before, ended, entered, closed, finished, follow, run, read}
use Rattle.c_lex.specs.Reading.{Faults}
use Rattle.c_lex.proofs.Fine.{EnterGood}
use Rattle.c_lex.specs.Machine.{Gets, first_byte}
use Rattle.c_lex.proofs.Gets.{gets_run}
use Rattle.c_lex.proofs.Phases.{enter_good}
use Rattle.c_lex.proofs.Judge.{Judged, judge, told_here}
use Rattle.c_lex.proofs.Spells.{spelled}
use Rattle.c_lex.proofs.SpanLemmas.{fault_line}

-- an open piece that ends here
ends : (w : Context) (p : Place) (x : Piece) (us : List ℕ) (ph : Phase) (cs : List ℕ) → close w ph us ≡ Ok x
    → ((c : ℕ) → longer x us c ≡ false → step w ph us c ≡ Ok None) → IsLongest x us cs
    → run cs w p us ph ≡ before (tokens_of x w p us) (read cs (after x w p us) (past p us))
ends w p x us ph [] e f l = ap (λ z. finished z w p us) e
ends w p x us ph (c ∷ cs) e f l = ap (λ z. follow z (close w ph us) w p us c cs (run cs)) (f c l) ∙ ap (λ z. closed z w p us c cs (run cs)) e

pub complete : {w : Context} {p : Place} {ts : List Token} {bs : List ℕ} → Pieces AtEnd w p ts bs → read bs w p ≡ Tokens ts
complete {w} {p} (ending (e, m)) = ap (λ z. read z w p) e ∙ ap (λ z. ended z p) m
complete {w} {p} (then_piece {x} {us} {cs} i l r) =
    let s = spelled i in
    gets_run p s.1 cs ∙ ends w p x us s.0 cs s.2 s.3 l ∙ ap (before (tokens_of x w p us)) (complete r)

pub one_list : {ts us : List Token} {bs : List ℕ} → IsText ts bs → IsText us bs → ts ≡ us
one_list {ts} {us} t u = let q : Tokens ts ≡ Tokens us = sym (complete t) ∙ complete u in cc

fault_at : (bs front rest : List ℕ) (k : LexKind) (line : ℕ) (pieces : List Token) → bs ≡ front ++ rest → read bs Fresh start ≡ Fault k line rest
    → Continues front → ((c : ℕ) (r1 r2 : List ℕ) → rest ≡ c ∷ r1 → read (front ++ c ∷ r2) Fresh start ≡ Fault k line (c ∷ r2))
    → Pieces (Breaks k line rest) Fresh start pieces bs → IsFault bs line k
fault_at bs front rest k line pieces e f g h j = record {
  front = front;
  rest = rest;
  whole = e;
  continues = g;
  stops = λ c more q (ts, vs, t).
      let a : read (front ++ c ∷ vs) Fresh start ≡ Tokens ts = ap (λ z. read z Fresh start) (sym (append_assoc front (c ∷ []) vs)) ∙ complete t in
      let b : read (front ++ c ∷ vs) Fresh start ≡ Fault k line (c ∷ vs) = h c more vs q in cc;
  refused = λ ts t. let a : read bs Fresh start ≡ Tokens ts = complete t in cc;
  counted = λ n. fault_line j n [] front (refl, refl) e;
  pieces = pieces;
  cause = j;
}

abbrev pub Right : List ℕ → Reading → Type 0
Right bs (Tokens ts) = IsText ts bs
Right bs (Fault k line rest) = IsFault bs line k

right_on : (c : ℕ) (cs : List ℕ) (ph : Phase) → enter Fresh c ≡ Ok ph → (x : Reading) → run cs Fresh start (c ∷ []) ph ≡ x → Judged cs Fresh start (c ∷ []) ph x
    → Right (c ∷ cs) x
right_on c cs ph e (Tokens ts) f j = j
right_on c cs ph e (Fault k line rest) f j =
    let g : Gets Fresh (c ∷ []) ph = first_byte c e in
    fault_at (c ∷ cs) (c ∷ j.front) rest k line j.pieces (ap (λ z. c ∷ z) j.is) (gets_run start g cs ∙ f) j.more
    (λ d r1 r2 q. gets_run start g (j.front ++ d ∷ r2) ∙ j.again d r1 r2 q) j.cause

pub law : (bs : List ℕ) → Right bs (read bs Fresh start)
law [] = ending (refl, refl)
law (c ∷ cs) = go (enter Fresh c) refl
  where
    go : (x : Result Phase LexKind) → enter Fresh c ≡ x → Right (c ∷ cs) (entered x Fresh start c cs (run cs))
    go (Ok ph) e = right_on c cs ph e (run cs Fresh start (c ∷ []) ph) refl (judge cs Fresh start (c ∷ []) ph (first_byte c e))
    go (Err k) e = fault_at (c ∷ cs) [] (c ∷ cs) k 1 [] refl (ap (λ z. entered z Fresh start c cs (run cs)) e) ([], [], ending (refl, refl))
        (λ d r1 r2 q. let s : c ≡ d = cc in subst (λ z. read (z ∷ r2) Fresh start ≡ Fault k 1 (z ∷ r2)) s (ap (λ z. entered z Fresh start c r2 (run r2)) e))
        (ending ([], refl, subst (EnterGood Fresh c) e (enter_good Fresh c), told_here k start))

-- what the machine's answers say of the text
pub tokens_right : (bs : List ℕ) (ts : List Token) → read bs Fresh start ≡ Tokens ts → IsText ts bs
tokens_right bs ts e = subst (Right bs) e (law bs)

pub fault_right : (bs : List ℕ) (e : LexFault) → Faults (read bs Fresh start) e → IsFaultOf bs e
fault_right bs (At line k) (rest, q) = subst (Right bs) q (law bs)
fault_right bs Memory h = tt

pub fault_only : (bs : List ℕ) (e : LexFault) → Faults (read bs Fresh start) e → (ts : List Token) → IsText ts bs → e ≡ Memory
fault_only bs (At line k) (rest, q) ts t = let a : Tokens ts ≡ Fault k line rest = sym (complete t) ∙ q in absurd cc
fault_only bs Memory h ts t = refl

pub before_faults : (out : List Token) (x y : Reading) (e : LexFault) → before out x ≡ y → Faults x e → Faults y e
before_faults out x y (At line k) s (rest, q) = (rest, sym s ∙ ap (before out) q)
before_faults out x y Memory s h = tt

pub before_none : (x : Reading) → before [] x ≡ x
before_none (Tokens ts) = refl
before_none (Fault k line rest) = refl
