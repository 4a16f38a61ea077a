-- What reading gives of a text that was written.
use Rattle.std.proofs.Common.{◌≡◌, ℕ, ◌^◌, ◌<◌, true, false, List, [], ◌∷◌, ◌++◌, Some, refl, sym, ap, ◌∙◌, subst, inl, inr, ◌⊎◌, arith}
use Rattle.std.specs.Prelude.{◌==◌, codes}
use Rattle.std.specs.Fmt.{decimal}
use Rattle.std.specs.List.{AllByRecursion, IsDistinct}
use Rattle.std.specs.Map.{keys_of}
use Rattle.std.proofs.lemmas.Bool.{cases_Bool, eqb-true}
use Rattle.std.proofs.lemmas.Fmt.{decimal_injective}
use Rattle.text_lines.specs.Lines.{HasNoFeed}
use Rattle.text_lines.proofs.Spaceless.{same_line}
use Rattle.profile.specs.Counts.{Profiled}
use Rattle.profile.specs.Names.{Names, same_name}
use Rattle.profile.specs.Reading.{IsReadAs}
use Rattle.profile.specs.Texts.{Line, Entry, Site, IsLine, line_words, line_bytes, lines_text, text, set_by_all, ended, DoesNotFit}
use Rattle.profile.specs.Writing.{AreOf, HasEachOnce, IsSameProfile, IsWritten}
use Rattle.profile.proofs.Fits.{end_feed, onto_line, split, strip, tail}
use Rattle.profile.proofs.Lines.{no_feed, not_end, taken_apart}
use Rattle.profile.proofs.SetAgain.{sets_again}

same_number : (m n : ℕ) → m < 2 ^ 32 → n < 2 ^ 32 → decimal m ≡ decimal n → m ≡ n
same_number m n h k e = decimal_injective m n (omega arith) (omega arith) e

same_words : (l m : Line) → IsLine l → IsLine m → line_words l ≡ line_words m → l ≡ m
same_words (Entry n c) (Entry m d) h k e =
    let p : n ≡ m = cc in
    let q : decimal c ≡ decimal d = cc in
    let r = same_number c d h.1 k.1 q in
    cc
same_words (Entry n c) (Site m k d) h j e = absurd cc
same_words (Site n k c) (Entry m d) h j e = absurd cc
same_words (Site n k c) (Site m j d) h i e =
    let p : n ≡ m = cc in
    let q : decimal k ≡ decimal j = cc in
    let r : decimal c ≡ decimal d = cc in
    let s = same_number k j h.1 i.1 q in
    let t = same_number c d h.2 i.2 r in
    cc

same_bytes : (l m : Line) → IsLine l → IsLine m → line_bytes l ≡ line_bytes m → l ≡ m
same_bytes l m h k e = same_words l m h k (sym (taken_apart (line_bytes m) l h (sym e)) ∙ taken_apart (line_bytes m) m k refl)

same_lines : (ls ms : List Line) → AllByRecursion IsLine ls → AllByRecursion IsLine ms → lines_text ls ++ tail ≡ lines_text ms ++ tail → ls ≡ ms
same_lines [] [] a b e = refl
same_lines [] (m ∷ ms) a b e =
    let q = same_line (codes "end") (line_bytes m) [] (lines_text ms ++ tail) end_feed (no_feed m b.0) (e ∙ split m ms tail) in
    absurd (not_end m b.0 (sym q.0))
same_lines (l ∷ ls) [] a b e =
    let q = same_line (line_bytes l) (codes "end") (lines_text ls ++ tail) [] (no_feed l a.0) end_feed (sym (split l ls tail) ∙ e) in
    absurd (not_end l a.0 q.0)
same_lines (l ∷ ls) (m ∷ ms) a b e =
    let q = same_line (line_bytes l) (line_bytes m) (lines_text ls ++ tail) (lines_text ms ++ tail) (no_feed l a.0) (no_feed m b.0)
    (sym (split l ls tail) ∙ e ∙ split m ms tail) in
    let first = same_bytes l m a.0 b.0 q.0 in
    let others = same_lines ls ms a.1 b.1 q.1 in
    cc

-- a text has one list of lines
pub same_text : (ls ms : List Line) → AllByRecursion IsLine ls → AllByRecursion IsLine ms → text ls ≡ text ms → ls ≡ ms
same_text ls ms a b e = same_lines ls ms a b (strip (lines_text ls ++ tail) (lines_text ms ++ tail) e)

-- the first line of some bytes, if a line feed stands there
abbrev FirstLine : List ℕ → Type 0
FirstLine bs = (line rest : List ℕ) × (bs ≡ line ++ 10 ∷ rest) × HasNoFeed line

first_line : (bs : List ℕ) → HasNoFeed bs ⊎ FirstLine bs
first_line [] = inl tt
first_line (b ∷ bs) = elim (cases_Bool (b == 10)) [
  | inl is ↦ inr ([], bs, ap (λ (c : ℕ). c ∷ bs) (eqb-true b 10 is), tt)
  | inr not ↦ elim (first_line bs) [
    | inl none ↦ inl ((λ e. absurd (let q : (b == 10) ≡ true = rw e refl in let r : true ≡ false = sym q ∙ not in cc)), none)
    | inr f ↦ inr (
      b ∷ f.0,
      f.1,
      ap (λ (l : List ℕ). b ∷ l) f.2,
      (
        (λ e.
            absurd (let q : (b == 10) ≡ true = rw e refl in let r : true ≡ false = sym q ∙ not in cc)),
        f.3,
      ),
    )
  ]
]

-- no line of a text doesn't fit
pub all_fit : (ls : List Line) → AllByRecursion IsLine ls → (bytes : List ℕ) (n : ℕ) → bytes ≡ text ls → DoesNotFit bytes n → ⊥
all_fit ls a bytes n e d = elim (first_line d.here) [
  | inl none ↦ d.ends none ls a e
  | inr f ↦
      d.goes_on f.0 f.1 f.2 f.3 (record {
        lines = ls;
        are = a;
        rest = f.1;
        spelled = sym e ∙ d.bytes_are ∙ ap (λ (t : List ℕ). ended d.before ++ t) f.2 ∙ sym (onto_line (ended d.before) f.0 f.1);
      })
]

module _ (ns : Names) (ls : List Line) (of : AreOf ns ls) (are : AllByRecursion IsLine ls) (bytes : List ℕ) (spelled : bytes ≡ text ls) where
  pub written : (p : Profiled) → p ≡ Some ns → IsWritten bytes p
  written p named = record { names = ns; named = named; lines = ls; of = of; are = are; spelled = spelled }

  pub read_again : AllByRecursion (λ e. HasEachOnce e.1) ns → IsDistinct same_name (keys_of ns) → (p q : Profiled) → p ≡ Some ns → IsReadAs bytes q
      → IsSameProfile p q
  read_again once distinct p q named r =
      let again = sets_again ns [] ls of once distinct in
      let lines = same_text (r.is_text).lines ls (r.is_text).are are (sym (r.is_text).spelled ∙ spelled) in
      let set = (r.is_text).set ∙ ap (λ (l : List Line). set_by_all l []) lines ∙ again.set in
      subst (λ (x : Profiled). IsSameProfile x q) (sym named) (subst (λ (x : Profiled). IsSameProfile (Some ns) x) (sym (r.named ∙ ap Some set)) again.same)
