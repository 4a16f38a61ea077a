-- One byte of the reader, by the machine.
use Rattle.std.proofs.Common.{ℕ, ◌≡◌, ◌+◌, ◌-◌, ◌<◌, ◌≤◌, ◌==◌, if◌then◌else◌, suc, refl, sym, ◌∙◌, ap, ap₂, subst, arith, Bool, true, false, List, []}
use Rattle.std.proofs.Common.{◌∷◌, ◌++◌, append_assoc, length, length-append, take, drop, get_or, Some, None, Result, Ok, Err}
use Rattle.std.specs.List.{slice_range}
use Rattle.std.proofs.Math.Seq.{drop-cons, take-suc}
use Rattle.std.proofs.lemmas.List.{length-drop, get_or-drop, nil_from_length}
use Rattle.std.proofs.lemmas.Bool.{eqb-true, eqb-false}
use Rattle.std.proofs.Math.Numerals.{add-one}
use Rattle.c_tree.specs.declared.token.Token.{Token}
use Rattle.c_lex.specs.declared.phase.Context.{Context}
use Rattle.c_lex.specs.declared.phase.Context.TheVariants.{Fresh}
use Rattle.c_lex.specs.declared.phase.Place.{Place}
use Rattle.c_lex.specs.declared.phase.Piece.{Piece}
use Rattle.c_lex.specs.declared.phase.Phase.{Phase}
use Rattle.c_lex.specs.declared.fault.LexKind.{LexKind}
use Rattle.c_lex.specs.declared.fault.LexFault.{LexFault}
use Rattle.c_lex.specs.declared.fault.LexFault.TheVariants.{At}
use Rattle.c_lex.specs.declared.reader.Reader.{Reader}
use Rattle.c_lex.specs.Bytes.{feeds}
use Rattle.c_lex.specs.Pieces.{IsPiece}
use Rattle.c_lex.specs.Text.{past, tokens_of, told_line, start}
use Rattle.c_lex.specs.Machine.{enter, step, close, Reading, Tokens, Fault, before, entered, closed, follow, run, read, Gets, first_byte, next_byte}
use Rattle.c_lex.specs.Reading.{open_bytes, IsOpen, left, opened, Ends, Faults, Advances}
use Rattle.c_lex.proofs.ByteLemmas.{feeds_more}
use Rattle.c_lex.proofs.Fine.{CloseGood}
use Rattle.c_lex.proofs.Phases.{close_good}
use Rattle.c_lex.proofs.Judge.{fine}

-- the piece that the bytes are
pub piece_of : (w : Context) (us : List ℕ) (ph : Phase) (x : Piece) → Gets w us ph → close w ph us ≡ Ok x → IsPiece w x us
piece_of w us ph x g e = subst (CloseGood w us) e (close_good w ph us (fine g) g)

-- places
place_eq : (p q : Place) → p.at ≡ q.at → p.line ≡ q.line → p ≡ q
place_eq p q e f = let made : ℕ → ℕ → Place = λ a l. record { at = a; line = l } in ap₂ made e f

past_more : (p : Place) (us vs : List ℕ) → past (past p us) vs ≡ past p (us ++ vs)
past_more p us vs = place_eq (past (past p us) vs) (past p (us ++ vs)) (omega (arith, length-append us vs)) (omega (arith, feeds_more us vs))

feeds_small : (c : ℕ) → feeds (c ∷ []) ≤ 1
feeds_small c = go (c == 10)
  where
    go : (b : Bool) → (if b then 1 else 0) + 0 ≤ 1
    go true = omega arith
    go false = omega arith

-- the bytes of a piece with one more
one_more : (b : List ℕ) (i j : ℕ) → i ≤ j → j < length b → slice_range b i (j + 1) ≡ slice_range b i j ++ get_or b j 0 ∷ []
one_more b i j h k =
    let room : j - i < length (drop i b) = omega (arith, length-drop i b) in
    let steps : (j + 1) - i ≡ suc (j - i) = omega arith in
    let there : get_or (drop i b) (j - i) 0 ≡ get_or b j 0 = get_or-drop i b (j - i) 0 ∙ (let q : i + (j - i) ≡ j = omega arith in ap (λ n. get_or b n 0) q) in
    ap (λ n. take n (drop i b)) steps ∙ take-suc (drop i b) (j - i) 0 room ∙ ap (λ x. take (j - i) (drop i b) ++ x ∷ []) there

one_byte : (b : List ℕ) (j : ℕ) → j < length b → slice_range b j (j + 1) ≡ get_or b j 0 ∷ []
one_byte b j k = let q : j - j ≡ 0 = omega arith in one_more b j j (omega arith) k ∙ ap (λ n. take n (drop j b) ++ get_or b j 0 ∷ []) q

next_byte_left : (b : List ℕ) (j : ℕ) → j < length b → drop j b ≡ get_or b j 0 ∷ drop (j + 1) b
next_byte_left b j k = drop-cons b j 0 k ∙ ap (λ n. get_or b j 0 ∷ drop n b) (sym (add-one j))

before_both : (out ts : List Token) (x : Reading) → before out (before ts x) ≡ before (out ++ ts) x
before_both out ts (Tokens us) = ap Tokens (sym (append_assoc out ts us))
before_both out ts (Fault k line rest) = refl

-- one byte of an open reader
module _ (b : List ℕ) (r : Reader) (o : IsOpen b r) (more : r.here.at < length b) where
  left_of : left b r ≡ follow (step r.context r.phase (open_bytes b r) (get_or b r.here.at 0)) (close r.context r.phase (open_bytes b r)) r.context r.start
      (open_bytes b r) (get_or b r.here.at 0) (drop (r.here.at + 1) b) (run (drop (r.here.at + 1) b))
  left_of = ap (λ z. run z r.context r.start (open_bytes b r) r.phase) (next_byte_left b r.here.at more)

  pub goes_on : (ph : Phase) (q : Place) (out : List Token) → step r.context r.phase (open_bytes b r) (get_or b r.here.at 0) ≡ Ok (Some ph)
      → q ≡ past r.here (get_or b r.here.at 0 ∷ []) → Advances b r out out (Ok (record { context = r.context; start = r.start; here = q; phase = ph }))
  goes_on ph q out e f = subst (λ z. Advances b r out out (Ok (record { context = r.context; start = r.start; here = z; phase = ph }))) (sym f) at_place
    where
      longer_bytes : slice_range b r.start.at (r.here.at + 1) ≡ open_bytes b r ++ get_or b r.here.at 0 ∷ []
      longer_bytes = one_more b r.start.at r.here.at o.ordered more

      at_place : Advances b r out out (Ok (record { context = r.context; start = r.start; here = past r.here (get_or b r.here.at 0 ∷ []); phase = ph }))
      at_place = (
        record {
          ordered = (let k : r.start.at ≤ r.here.at = o.ordered in omega (arith, k));
          within = omega (arith, more);
          lines = (let k : r.here.line ≤ r.here.at + 1 = o.lines in omega (arith, k, feeds_small (get_or b r.here.at 0)));
          place = ap (λ p. past p (get_or b r.here.at 0 ∷ [])) o.place ∙ past_more r.start (open_bytes b r) (get_or b r.here.at 0 ∷ []) ∙ ap (past r.start)
              (sym longer_bytes);
          leads = subst (λ z. Gets r.context z ph) (sym longer_bytes) (next_byte (get_or b r.here.at 0) o.leads e);
        },
        refl,
        ap (before out) (left_of
            ∙ ap (λ z. follow z (close r.context r.phase (open_bytes b r)) r.context r.start (open_bytes b r) (get_or b r.here.at 0) (drop (r.here.at + 1) b)
            (run (drop (r.here.at + 1) b))) e
            ∙ ap (λ z. run (drop (r.here.at + 1) b) r.context r.start z ph) (sym longer_bytes)),
      )

  pub goes_wrong : (k : LexKind) → step r.context r.phase (open_bytes b r) (get_or b r.here.at 0) ≡ Err k
      → Faults (left b r) (At (told_line k r.start (open_bytes b r)) k)
  goes_wrong k e = (
    get_or b r.here.at 0 ∷ drop (r.here.at + 1) b,
    left_of ∙ ap
        (λ z. follow z (close r.context r.phase (open_bytes b r)) r.context r.start (open_bytes b r) (get_or b r.here.at 0) (drop (r.here.at + 1) b)
        (run (drop (r.here.at + 1) b))) e,
  )

  ended_here : (x : Result Piece LexKind) → step r.context r.phase (open_bytes b r) (get_or b r.here.at 0) ≡ Ok None
      → close r.context r.phase (open_bytes b r) ≡ x
      → left b r ≡ closed x r.context r.start (open_bytes b r) (get_or b r.here.at 0) (drop (r.here.at + 1) b) (run (drop (r.here.at + 1) b))
  ended_here x e f = left_of ∙ ap (λ z. follow z (close r.context r.phase (open_bytes b r)) r.context r.start (open_bytes b r) (get_or b r.here.at 0)
      (drop (r.here.at + 1) b) (run (drop (r.here.at + 1) b))) e ∙ ap
      (λ z. closed z r.context r.start (open_bytes b r) (get_or b r.here.at 0) (drop (r.here.at + 1) b) (run (drop (r.here.at + 1) b))) f

  pub ends_wrong : (out new : List Token) (x : Result Piece LexKind) (e : LexFault) → step r.context r.phase (open_bytes b r) (get_or b r.here.at 0) ≡ Ok None
      → close r.context r.phase (open_bytes b r) ≡ x → Ends x r.context r.start (open_bytes b r) out new (Err e) → Faults (left b r) e
  ends_wrong out new (Ok x) e s f h = subst (Faults (left b r)) (sym h) tt
  ends_wrong out new (Err k) e s f h = subst (Faults (left b r)) (sym h) (get_or b r.here.at 0 ∷ drop (r.here.at + 1) b, ended_here (Err k) s f)

  pub ends_right : (out new : List Token) (w : Context) (x : Result Piece LexKind) → step r.context r.phase (open_bytes b r) (get_or b r.here.at 0) ≡ Ok None
      → close r.context r.phase (open_bytes b r) ≡ x → Ends x r.context r.start (open_bytes b r) out new (Ok w)
      → Advances b r out new (opened (enter w (get_or b r.here.at 0)) w r.here (get_or b r.here.at 0))
  ends_right out new w (Err k) s f h = absurd h
  ends_right out new w (Ok x) s f (h1, h2) = go (enter w (get_or b r.here.at 0)) refl
    where
      next_piece : left b r ≡ before (tokens_of x r.context r.start (open_bytes b r))
          (entered (enter w (get_or b r.here.at 0)) w r.here (get_or b r.here.at 0) (drop (r.here.at + 1) b) (run (drop (r.here.at + 1) b)))
      next_piece = ended_here (Ok x) s f
          ∙ ap (λ z. before (tokens_of x r.context r.start (open_bytes b r))
          (entered (enter z (get_or b r.here.at 0)) z (past r.start (open_bytes b r)) (get_or b r.here.at 0) (drop (r.here.at + 1) b)
          (run (drop (r.here.at + 1) b)))) (sym h2)
          ∙ ap (λ z. before (tokens_of x r.context r.start (open_bytes b r))
          (entered (enter w (get_or b r.here.at 0)) w z (get_or b r.here.at 0) (drop (r.here.at + 1) b) (run (drop (r.here.at + 1) b)))) (sym o.place)

      go : (y : Result Phase LexKind) → enter w (get_or b r.here.at 0) ≡ y → Advances b r out new (opened y w r.here (get_or b r.here.at 0))
      go (Ok ph) e = (
        record {
          ordered = omega arith;
          within = omega (arith, more);
          lines = (let k : r.here.line ≤ r.here.at + 1 = o.lines in omega (arith, k, feeds_small (get_or b r.here.at 0)));
          place = ap (past r.here) (sym (one_byte b r.here.at more));
          leads = subst (λ z. Gets w z ph) (sym (one_byte b r.here.at more)) (first_byte (get_or b r.here.at 0) e);
        },
        refl,
        ap (before out) (next_piece ∙ ap (λ z. before (tokens_of x r.context r.start (open_bytes b r))
            (entered z w r.here (get_or b r.here.at 0) (drop (r.here.at + 1) b) (run (drop (r.here.at + 1) b)))) e)
            ∙ before_both out (tokens_of x r.context r.start (open_bytes b r)) (run (drop (r.here.at + 1) b) w r.here (get_or b r.here.at 0 ∷ []) ph)
            ∙ ap (λ z. before z (run (drop (r.here.at + 1) b) w r.here (get_or b r.here.at 0 ∷ []) ph)) (sym h1)
            ∙ ap (λ z. before new (run (drop (r.here.at + 1) b) w r.here z ph)) (sym (one_byte b r.here.at more)),
      )
      go (Err k) e = (
        get_or b r.here.at 0 ∷ drop (r.here.at + 1) b,
        next_piece ∙ ap
            (λ z. before (tokens_of x r.context r.start (open_bytes b r))
            (entered z w r.here (get_or b r.here.at 0) (drop (r.here.at + 1) b) (run (drop (r.here.at + 1) b)))) e,
      )

-- the first byte of the text
pub begins_right : (b : List ℕ) → 0 < length b → (ph : Phase) → enter Fresh (get_or b 0 0) ≡ Ok ph → (r : Reader)
    → r ≡ record { context = Fresh; start = start; here = past start (get_or b 0 0 ∷ []); phase = ph } → IsOpen b r × (left b r ≡ read b Fresh start)
begins_right b h ph e r f = subst (λ z. IsOpen b z × (left b z ≡ read b Fresh start)) (sym f) (
  record {
    ordered = omega arith;
    within = omega (arith, h);
    lines = omega (arith, feeds_small (get_or b 0 0));
    place = ap (past start) (sym (one_byte b 0 h));
    leads = subst (λ z. Gets Fresh z ph) (sym (one_byte b 0 h)) (first_byte (get_or b 0 0) e);
  },
  ap (λ z. run (drop 1 b) Fresh start z ph) (one_byte b 0 h) ∙ sym
      (ap (λ z. read z Fresh start) (next_byte_left b 0 h) ∙ ap (λ z. entered z Fresh start (get_or b 0 0) (drop 1 b) (run (drop 1 b))) e),
)

pub begins_wrong : (b : List ℕ) → 0 < length b → (k : LexKind) → enter Fresh (get_or b 0 0) ≡ Err k → Faults (read b Fresh start) (At 1 k)
begins_wrong b h k e = (
  get_or b 0 0 ∷ drop 1 b,
  ap (λ z. read z Fresh start) (next_byte_left b 0 h) ∙ ap
      (λ z. entered z Fresh start (get_or b 0 0) (drop 1 b) (run (drop 1 b))) e,
)

pub open_right : (b : List ℕ) → 0 < length b → (r : Reader) → opened (enter Fresh (get_or b 0 0)) Fresh start (get_or b 0 0) ≡ Ok r
    → IsOpen b r × (left b r ≡ read b Fresh start)
open_right b h r e = go (enter Fresh (get_or b 0 0)) refl e
  where
    go : (x : Result Phase LexKind) → enter Fresh (get_or b 0 0) ≡ x → opened x Fresh start (get_or b 0 0) ≡ Ok r → IsOpen b r × (left b r ≡ read b Fresh start)
    go (Ok ph) f q = let s : record { context = Fresh; start = start; here = past start (get_or b 0 0 ∷ []); phase = ph } ≡ r = cc in begins_right b h ph f r
        (sym s)
    go (Err k) f q = absurd cc

pub open_wrong : (b : List ℕ) → 0 < length b → (e : LexFault) → opened (enter Fresh (get_or b 0 0)) Fresh start (get_or b 0 0) ≡ Err e
    → Faults (read b Fresh start) e
open_wrong b h e q = go (enter Fresh (get_or b 0 0)) refl q
  where
    go : (x : Result Phase LexKind) → enter Fresh (get_or b 0 0) ≡ x → opened x Fresh start (get_or b 0 0) ≡ Err e → Faults (read b Fresh start) e
    go (Ok ph) f q = absurd cc
    go (Err k) f q = let s : At 1 k ≡ e = cc in subst (Faults (read b Fresh start)) s (begins_wrong b h k f)

pub not_empty : (b : List ℕ) → (length b == 0) ≡ false → 0 < length b
not_empty b e = let k : length b ≡ 0 → ⊥ = eqb-false (length b) 0 e in omega (arith, k)

pub nothing_left : (b : List ℕ) → (length b == 0) ≡ true → b ≡ []
nothing_left b e = nil_from_length b (eqb-true (length b) 0 e)
