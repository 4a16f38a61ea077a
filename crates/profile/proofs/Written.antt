-- What is written, line by line.
use Rattle.std.proofs.Common.{◌≡◌, ℕ, List, [], ◌∷◌, ◌++◌, refl, sym, ap, ◌∙◌, subst, append_assoc, append-nil}
use Rattle.std.specs.Prelude.{codes}
use Rattle.std.specs.List.{AllByRecursion}
use Rattle.profile.specs.Names.{Names, Tallied}
use Rattle.profile.specs.Texts.{Line, Entry, Site, IsLine, line_bytes, lines_text, text}
use Rattle.profile.proofs.Fits.{tail}
use Rattle.std.specs.List.Sorted.{IsPermutation, IsNonDecreasingBy}
use Rattle.profile.specs.Writing.{Adds, AddsBefore, AddsName, AddsNames, AreOf, AreOfName, HasEachOnce, site_lines}

all_append : (ls ms : List Line) → AllByRecursion IsLine ls → AllByRecursion IsLine ms → AllByRecursion IsLine (ls ++ ms)
all_append [] ms a b = b
all_append (l ∷ ls) ms a b = (a.0, all_append ls ms a.1 b)

lines_append : (ls ms : List Line) → lines_text (ls ++ ms) ≡ lines_text ls ++ lines_text ms
lines_append [] ms = refl
lines_append (l ∷ ls) ms =
    ap (λ (t : List ℕ). line_bytes l ++ 10 ∷ t) (lines_append ls ms) ∙ sym (append_assoc (line_bytes l) (10 ∷ lines_text ls) (lines_text ms))

pub adds_nothing : (bs : List ℕ) → Adds [] bs bs
adds_nothing bs = record { are = tt; bytes = sym (append-nil bs) }

pub adds_line : (l : Line) (old new : List ℕ) → IsLine l → new ≡ old ++ (line_bytes l ++ 10 ∷ []) → Adds (l ∷ []) old new
adds_line l old new h e = record { are = (h, tt); bytes = e }

pub adds_both : (ls ms : List Line) (old mid new : List ℕ) → Adds ls old mid → Adds ms mid new → Adds (ls ++ ms) old new
adds_both ls ms old mid new a b = record {
  are = all_append ls ms a.are b.are;
  bytes = b.bytes ∙ ap (λ (t : List ℕ). t ++ lines_text ms) a.bytes ∙ append_assoc old (lines_text ls) (lines_text ms)
      ∙ ap (λ (t : List ℕ). old ++ t) (sym (lines_append ls ms));
}

sites_snoc : (n : List ℕ) (ss : List (ℕ × ℕ)) (s : ℕ × ℕ) → site_lines n (ss ++ s ∷ []) ≡ site_lines n ss ++ Site n s.0 s.1 ∷ []
sites_snoc n [] s = refl
sites_snoc n (r ∷ ss) s = ap (λ (t : List Line). Site n r.0 r.1 ∷ t) (sites_snoc n ss s)

pub adds_site : (n : List ℕ) (ss ts : List (ℕ × ℕ)) (s : ℕ × ℕ) (old mid new : List ℕ) → ts ≡ ss ++ s ∷ [] → Adds (site_lines n ss) old mid
    → Adds (Site n s.0 s.1 ∷ []) mid new → Adds (site_lines n ts) old new
adds_site n ss ts s old mid new e a b =
    subst (λ (t : List Line). Adds t old new) (sym (ap (site_lines n) e ∙ sites_snoc n ss s))
    (adds_both (site_lines n ss) (Site n s.0 s.1 ∷ []) old mid new a b)

of_snoc : (ns : Names) (e : List ℕ × Tallied) (ls here : List Line) → AreOf ns ls → AreOfName e.0 e.1 here → AreOf (ns ++ e ∷ []) (ls ++ here)
of_snoc [] e ls here a b = (here, [], b, refl, ap (λ (t : List Line). t ++ here) a ∙ sym (append-nil here))
of_snoc (n ∷ ns) e ls here a b =
    (a.0, a.1 ++ here, a.2, of_snoc ns e a.1 here a.3 b, ap (λ (t : List Line). t ++ here) a.4 ∙ append_assoc a.0 a.1 here)

once_snoc : {X : Type 0} (P : X → Type 0) (xs : List X) (x : X) → AllByRecursion P xs → P x → AllByRecursion P (xs ++ x ∷ [])
once_snoc P [] x a h = (h, tt)
once_snoc P (y ∷ xs) x a h = (a.0, once_snoc P xs x a.1 h)

-- the lines of one name
pub adds_name : (n : List ℕ) (t : Tallied) (sites : List (ℕ × ℕ)) (old mid new : List ℕ) → IsPermutation t.sites sites → IsNonDecreasingBy (λ s. s.0) sites
    → HasEachOnce t → Adds (Entry n t.entry ∷ []) old mid → Adds (site_lines n sites) mid new → AddsName n t old new
adds_name n t sites old mid new each rising once a b = record {
  lines = Entry n t.entry ∷ site_lines n sites;
  of = record { sites = sites; each = each; rising = rising; are = refl };
  once = once;
  adds = adds_both (Entry n t.entry ∷ []) (site_lines n sites) old mid new a b;
}

-- no name yet
pub none_before : (ns : Names) (bs : List ℕ) → AddsBefore ns ns bs bs
none_before ns bs = record {
  done = [];
  whole = refl;
  adds = record { lines = []; of = refl; once = tt; adds = adds_nothing bs };
}

-- one name more
pub one_more_name : (ns left rest : Names) (e : List ℕ × Tallied) (old mid new : List ℕ) → left ≡ e ∷ rest → AddsBefore ns left old mid
    → AddsName e.0 e.1 mid new
    → AddsBefore ns rest old new
one_more_name ns left rest e old mid new is a b = record {
  done = a.done ++ e ∷ [];
  whole = a.whole ∙ ap (λ (l : Names). a.done ++ l) is ∙ sym (append_assoc a.done (e ∷ []) rest);
  adds = record {
    lines = a.adds.lines ++ b.lines;
    of = of_snoc a.done e a.adds.lines b.lines a.adds.of b.of;
    once = once_snoc (λ x. HasEachOnce x.1) a.done e a.adds.once b.once;
    adds = adds_both a.adds.lines b.lines old mid new a.adds.adds b.adds;
  };
}

-- all names
pub all_names : (ns left : Names) (old new : List ℕ) → left ≡ [] → AddsBefore ns left old new → AddsNames ns old new
all_names ns left old new none a =
    subst (λ (l : Names). AddsNames l old new) (sym (a.whole ∙ ap (λ (l : Names). a.done ++ l) none ∙ append-nil a.done)) a.adds

-- the first line
abbrev head : List ℕ
head = codes "profile 1" ++ 10 ∷ []

-- all lines between the first one and the last
pub whole_text : (ls : List Line) (none first all last : List ℕ) → none ≡ [] → first ≡ none ++ head → Adds ls first all → last ≡ all ++ tail → last ≡ text ls
whole_text ls none first all last e f a g =
    g ∙ ap (λ (t : List ℕ). t ++ tail) (a.bytes ∙ ap (λ (t : List ℕ). t ++ lines_text ls) (f ∙ ap (λ (t : List ℕ). t ++ head) e))
