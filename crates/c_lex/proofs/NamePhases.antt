-- Names, reserved words and punctuators.
use Rattle.std.proofs.Common.{ℕ, ◌≡◌, ◌<◌, ◌≤◌, refl, sym, ap, subst, Bool, true, false, nat_lt, ◌==◌, ◌&&◌, List, [], ◌∷◌, ◌++◌, length, length-append}
use Rattle.std.proofs.Common.{Option, Some, None, is_some, ltb-true, arith}
use Rattle.std.proofs.lemmas.Bool.{ltb-false}
use Rattle.c_tree.specs.declared.token.Reserved.{Reserved}
use Rattle.c_tree.specs.declared.token.Punct.{Punct}
use Rattle.c_lex.specs.declared.phase.Context.{Context}
use Rattle.c_lex.specs.declared.phase.Piece.TheVariants as piece
use Rattle.c_lex.specs.declared.phase.Phase.TheVariants as phase
use Rattle.c_lex.specs.Bytes.{class_of, in_word}
use Rattle.c_lex.specs.Spelling.{word_spelling, words, word_named, is_left_out, punct_spelling, punct_named, same}
use Rattle.c_lex.specs.Pieces.{IsIdentifier, longer_name, is_code, IsPiece, name, word, punctuator}
use Rattle.c_lex.specs.Text.{left_out, long_name}
use Rattle.c_lex.specs.Machine.{name_byte, name_piece, sign_byte}
use Rattle.std.proofs.lemmas.Bool.{or_from}
use Rattle.list_laws.proofs.Tests.{choose}
use Rattle.c_lex.proofs.Fine.{Fine, SeamGood, CloseGood, StepGood}
use Rattle.c_lex.proofs.ByteLemmas.{named_spells}
use Rattle.c_lex.proofs.LinePhases.{punct_spells}

pub word_spells : (us : List ℕ) (r : Reserved) → word_named us ≡ Some r → us ≡ word_spelling r
unfolding word_named
word_spells us r q = named_spells word_spelling words us r q

-- a name ends before a byte that stands in no name
name_seam : (w : Context) (us : List ℕ) (c : ℕ) → is_code w ≡ true → in_word (class_of c) ≡ false → (o : Option Reserved) (b : Bool) → is_left_out us ≡ b
    → SeamGood w us c (name_piece o b)
name_seam w us c h e (Some r) b l = e
name_seam w us c h e None true l = left_out h l e
name_seam w us c h e None false l = e

pub name_good : (w : Context) (us : List ℕ) (c : ℕ) → Fine w phase.Name us → StepGood w phase.Name us c (name_byte us c)
name_good w us c (h, i, le) =
    choose (StepGood w phase.Name us c) (in_word (class_of c)) _ _
    (λ e. choose (StepGood w phase.Name us c) (nat_lt (length us) 255) _ _
    (λ l. (h, longer_name c i e, (let k : length us < 255 = ltb-true _ _ l in omega (arith, length-append us (c ∷ [])))))
    (λ l. long_name h i (let k : 255 ≤ length us = ltb-false _ _ l in omega arith) e))
    (λ e. name_seam w us c h e (word_named us) (is_left_out us) refl)

name_end : (w : Context) (us : List ℕ) → is_code w ≡ true → IsIdentifier us → length us ≤ 255 → (o : Option Reserved) → word_named us ≡ o → (b : Bool)
    → is_left_out us ≡ b → CloseGood w us (name_piece o b)
name_end w us h i le (Some r) e b l = subst (λ z. IsPiece w (piece.Word r) z) (sym (word_spells us r e)) (word h r)
name_end w us h i le None e true l = left_out h l refl
name_end w us h i le None e false l = name h i le e l

pub name_close : (w : Context) (us : List ℕ) → Fine w phase.Name us → CloseGood w us (name_piece (word_named us) (is_left_out us))
name_close w us (h, i, le) = name_end w us h i le (word_named us) refl (is_left_out us) refl

-- a longer list isn't a single byte
not_single : (a : ℕ) (vs : List ℕ) (c : ℕ) → same (a ∷ vs ++ c ∷ []) (47 ∷ []) ≡ false
not_single a vs c = go (a == 47)
  where
    tail : (vs : List ℕ) → same (vs ++ c ∷ []) [] ≡ false
    tail [] = refl
    tail (b ∷ vs) = refl

    go : (x : Bool) → (x && same (vs ++ c ∷ []) []) ≡ false
    go true = tail vs
    go false = refl

single_and : (us : List ℕ) (c : ℕ) → same us (47 ∷ []) ≡ false → (same us (47 ∷ []) && c == 42) ≡ false
single_and us c e = rw e refl

pub sign_good : (w : Context) (m : Punct) (us : List ℕ) (c : ℕ) → Fine w (phase.Punct m) us
    → StepGood w (phase.Punct m) us c (sign_byte (punct_named (punct_spelling m ++ c ∷ [])))
sign_good w m us c (h, e, s, a, vs, f) = go (punct_named (punct_spelling m ++ c ∷ [])) (ap (λ z. punct_named (z ++ c ∷ [])) e)
  where
    go : (o : Option Punct) → punct_named (us ++ c ∷ []) ≡ o → StepGood w (phase.Punct m) us c (sign_byte o)
    go (Some n) q = (
      h,
      punct_spells (us ++ c ∷ []) n q,
      subst (λ z. same (z ++ c ∷ []) (47 ∷ []) ≡ false) (sym f) (not_single a vs c),
      a,
      vs ++ c ∷ [],
      ap
          (λ z. z ++ c ∷ []) f,
    )
    go None q = or_from _ _ (ap is_some q) (single_and us c s)

pub sign_close : (w : Context) (m : Punct) (us : List ℕ) → Fine w (phase.Punct m) us → IsPiece w (piece.Punct m) us
sign_close w m us (h, e, s, a, vs, f) = subst (λ z. IsPiece w (piece.Punct m) z) (sym e) (punctuator h m)
