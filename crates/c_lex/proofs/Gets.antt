-- The phase that the bytes of a piece lead to.
use Rattle.std.proofs.Common.{ℕ, ◌≡◌, refl, sym, ◌∙◌, ap, subst, List, [], ◌∷◌, ◌++◌, append-nil, Option, Some, None, Result, Ok, Err}
use Rattle.c_lex.specs.declared.phase.Context.{Context}
use Rattle.c_lex.specs.declared.phase.Place.{Place}
use Rattle.c_lex.specs.declared.phase.Phase.{Phase}
use Rattle.c_lex.specs.declared.fault.LexKind.{LexKind}
use Rattle.c_lex.specs.Machine.{enter, step, close, read, run, follow, entered, Gets, first_byte, next_byte}
use Rattle.list_laws.proofs.Elements.{onto}

pub gets_run : {w : Context} (p : Place) {us : List ℕ} {ph : Phase} → Gets w us ph → (cs : List ℕ) → read (us ++ cs) w p ≡ run cs w p us ph
gets_run {w} p (first_byte c e) cs = ap (λ x. entered x w p c cs (run cs)) e
gets_run {w} p (next_byte {us} {ph} c g e) cs = ap (λ x. read x w p) (onto us c cs) ∙ gets_run p g (c ∷ cs) ∙ ap
    (λ x. follow x (close w ph us) w p us c cs (run cs)) e

-- the phase as a function of the bytes
abbrev pub onward : Result (Option Phase) LexKind → List ℕ → (List ℕ → Phase → Option Phase) → List ℕ → Option Phase
onward (Ok (Some ph)) us go vs = go vs ph
onward (Ok None) us go vs = None
onward (Err k) us go vs = None

abbrev pub reach : Context → List ℕ → List ℕ → Phase → Option Phase
reach w [] us ph = Some ph
reach w (c ∷ cs) us ph = onward (step w ph us c) us (reach w cs) (us ++ c ∷ [])

abbrev pub begun : Result Phase LexKind → ℕ → (List ℕ → Phase → Option Phase) → Option Phase
begun (Ok ph) c go = go (c ∷ []) ph
begun (Err k) c go = None

abbrev pub reached : Context → List ℕ → Option Phase
reached w [] = None
reached w (c ∷ cs) = begun (enter w c) c (reach w cs)

gets_reach : {w : Context} {us : List ℕ} {ph : Phase} → Gets w us ph → (cs : List ℕ) → reached w (us ++ cs) ≡ reach w cs us ph
gets_reach {w} (first_byte c e) cs = ap (λ x. begun x c (reach w cs)) e
gets_reach {w} (next_byte {us} {ph} c g e) cs = ap (reached w) (onto us c cs) ∙ gets_reach g (c ∷ cs) ∙ ap (λ x. onward x us (reach w cs) (us ++ c ∷ [])) e

pub one_phase : {w : Context} {us : List ℕ} {ph ph2 : Phase} → Gets w us ph → Gets w us ph2 → ph ≡ ph2
one_phase {ph} {ph2} g h = let q : Some ph ≡ Some ph2 = sym (gets_reach g []) ∙ gets_reach h [] in cc

gets_on : {w : Context} (cs us : List ℕ) (ph ph2 : Phase) → Gets w us ph → reach w cs us ph ≡ Some ph2 → Gets w (us ++ cs) ph2
gets_on {w} [] us ph ph2 g e = let q : ph ≡ ph2 = cc in subst (λ z. Gets w z ph2) (sym (append-nil us)) (subst (Gets w us) q g)
gets_on {w} (c ∷ cs) us ph ph2 g e = go (λ ph3 h k. gets_on cs (us ++ c ∷ []) ph3 ph2 h k) (step w ph us c) refl e
  where
    go : ((ph3 : Phase) → Gets w (us ++ c ∷ []) ph3 → reach w cs (us ++ c ∷ []) ph3 ≡ Some ph2 → Gets w ((us ++ c ∷ []) ++ cs) ph2)
        → (x : Result (Option Phase) LexKind) → step w ph us c ≡ x → onward x us (reach w cs) (us ++ c ∷ []) ≡ Some ph2 → Gets w (us ++ c ∷ cs) ph2
    go ih (Ok (Some ph3)) f k = subst (λ z. Gets w z ph2) (onto us c cs) (ih ph3 (next_byte c g f) k)
    go ih (Ok None) f k = cc
    go ih (Err x) f k = cc

-- bytes that the machine takes
pub takes : (w : Context) (us : List ℕ) (ph : Phase) → reached w us ≡ Some ph → Gets w us ph
takes w [] ph e = cc
takes w (c ∷ cs) ph e = go (enter w c) refl e
  where
    go : (x : Result Phase LexKind) → enter w c ≡ x → begun x c (reach w cs) ≡ Some ph → Gets w (c ∷ cs) ph
    go (Ok ph2) f k = gets_on cs (c ∷ []) ph2 ph (first_byte c f) k
    go (Err x) f k = cc
