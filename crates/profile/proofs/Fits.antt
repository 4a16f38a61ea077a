-- Which line of a text is the first that doesn't fit.
use Rattle.std.proofs.Common.{◌≡◌, ℕ, suc, ◌+◌, List, [], ◌∷◌, ◌++◌, Some, refl, sym, ap, ◌∙◌, length, map, append_assoc, min, inl, inr, ◌⊎◌, arith}
use Rattle.std.specs.Prelude.{codes}
use Rattle.std.specs.Option.{option_map}
use Rattle.std.specs.List.{AllByRecursion}
use Rattle.std.proofs.lemmas.List.{length-map}
use Rattle.text_lines.specs.Lines.{HasNoFeed}
use Rattle.text_lines.proofs.Spaceless.{plain_no_feed, join_no_feed, same_line, no_line}
use Rattle.profile.specs.Counts.{Profiled}
use Rattle.profile.specs.Names.{Names}
use Rattle.profile.specs.Texts.{Line, IsLine, line_bytes, lines_text, text, set_by, set_by_all, ended, line_number, Begins, DoesNotFit}
use Rattle.profile.specs.Reading.{IsReadAs, SoFar, behind_first}
use Rattle.profile.proofs.Lines.{no_feed, not_end}

-- the last line
abbrev pub tail : List ℕ
tail = codes "end" ++ 10 ∷ []

pub end_feed : HasNoFeed (codes "end")
end_feed = plain_no_feed (codes "end") [] refl tt

first_feed : HasNoFeed (codes "profile 1")
first_feed = join_no_feed (codes "profile" ∷ codes "1" ∷ []) (refl, (refl, tt))

pub split : (l : Line) (ls : List Line) (more : List ℕ) → lines_text (l ∷ ls) ++ more ≡ line_bytes l ++ 10 ∷ (lines_text ls ++ more)
split l ls more = append_assoc (line_bytes l) (10 ∷ lines_text ls) more

abbrev IsSomeLine : List ℕ → Type 0
IsSomeLine bytes = (l : Line) × IsLine l × (bytes ≡ line_bytes l)

-- what stands behind lines in a text is the last line, or a line
next : (ls ms : List Line) (line more : List ℕ) → AllByRecursion IsLine ls → AllByRecursion IsLine ms → HasNoFeed line
    → lines_text ms ++ tail ≡ lines_text ls ++ (line ++ 10 ∷ more) → (line ≡ codes "end") ⊎ IsSomeLine line
next [] [] line more a b nf e = inl (sym (same_line (codes "end") line [] more end_feed nf e).0)
next [] (m ∷ ms) line more a b nf e =
    let q = same_line (line_bytes m) line (lines_text ms ++ tail) more (no_feed m b.0) nf (sym (split m ms tail) ∙ e) in
    inr (m, b.0, sym q.0)
next (l ∷ ls) [] line more a b nf e =
    let q = same_line (codes "end") (line_bytes l) [] (lines_text ls ++ (line ++ 10 ∷ more)) end_feed (no_feed l a.0) (e ∙ split l ls (line ++ 10 ∷ more)) in
    absurd (not_end l a.0 (sym q.0))
next (l ∷ ls) (m ∷ ms) line more a b nf e =
    let q = same_line (line_bytes m) (line_bytes l) (lines_text ms ++ tail) (lines_text ls ++ (line ++ 10 ∷ more)) (no_feed m b.0) (no_feed l a.0)
    (sym (split m ms tail) ∙ e ∙ split l ls (line ++ 10 ∷ more)) in
    next ls ms line more a.1 b.1 nf q.1

-- nothing stands behind the last line
behind_end : (ls ms : List Line) (z : List ℕ) → AllByRecursion IsLine ls → AllByRecursion IsLine ms
    → lines_text ms ++ tail ≡ lines_text ls ++ (codes "end" ++ 10 ∷ z) → z ≡ []
behind_end [] [] z a b e = sym (same_line (codes "end") (codes "end") [] z end_feed end_feed e).1
behind_end [] (m ∷ ms) z a b e =
    let q = same_line (line_bytes m) (codes "end") (lines_text ms ++ tail) z (no_feed m b.0) end_feed (sym (split m ms tail) ∙ e) in
    absurd (not_end m b.0 q.0)
behind_end (l ∷ ls) [] z a b e =
    let q = same_line (codes "end") (line_bytes l) [] (lines_text ls ++ (codes "end" ++ 10 ∷ z)) end_feed (no_feed l a.0)
    (e ∙ split l ls (codes "end" ++ 10 ∷ z)) in
    absurd (not_end l a.0 (sym q.0))
behind_end (l ∷ ls) (m ∷ ms) z a b e =
    let q = same_line (line_bytes m) (line_bytes l) (lines_text ms ++ tail) (lines_text ls ++ (codes "end" ++ 10 ∷ z)) (no_feed m b.0) (no_feed l a.0)
    (sym (split m ms tail) ∙ e ∙ split l ls (codes "end" ++ 10 ∷ z)) in
    behind_end ls ms z a.1 b.1 q.1

-- each text has a whole line behind its lines
unfinished : (ls ms : List Line) (rest : List ℕ) → AllByRecursion IsLine ls → AllByRecursion IsLine ms → HasNoFeed rest
    → lines_text ms ++ tail ≡ lines_text ls ++ rest → ⊥
unfinished [] [] rest a b nf e = no_line (codes "end") rest [] nf (sym e)
unfinished [] (m ∷ ms) rest a b nf e = no_line (line_bytes m) rest (lines_text ms ++ tail) nf (sym e ∙ split m ms tail)
unfinished (l ∷ ls) [] rest a b nf e =
    let q = same_line (codes "end") (line_bytes l) [] (lines_text ls ++ rest) end_feed (no_feed l a.0) (e ∙ split l ls rest) in
    not_end l a.0 (sym q.0)
unfinished (l ∷ ls) (m ∷ ms) rest a b nf e =
    let q = same_line (line_bytes m) (line_bytes l) (lines_text ms ++ tail) (lines_text ls ++ rest) (no_feed m b.0) (no_feed l a.0)
    (sym (split m ms tail) ∙ e ∙ split l ls rest) in
    unfinished ls ms rest a.1 b.1 nf q.1

-- the lines that were read, with the first one
abbrev befores : List Line → List (List ℕ)
befores ls = codes "profile 1" ∷ map line_bytes ls

ended_lines : (ls : List Line) → ended (map line_bytes ls) ≡ lines_text ls
ended_lines [] = refl
ended_lines (l ∷ ls) = ap (λ (t : List ℕ). line_bytes l ++ 10 ∷ t) (ended_lines ls)

ended_befores : (ls : List Line) (more : List ℕ) → ended (befores ls) ++ more ≡ behind_first (lines_text ls ++ more)
ended_befores ls more = ap (λ (t : List ℕ). behind_first (t ++ more)) (ended_lines ls)

ended_snoc : (xs : List (List ℕ)) (x more : List ℕ) → ended (xs ++ x ∷ []) ++ more ≡ ended xs ++ (x ++ 10 ∷ more)
ended_snoc [] x more = append_assoc x (10 ∷ []) more
ended_snoc (y ∷ xs) x more = append_assoc y (10 ∷ ended (xs ++ x ∷ [])) more ∙ ap (λ (t : List ℕ). y ++ 10 ∷ t) (ended_snoc xs x more)
    ∙ sym (append_assoc y (10 ∷ ended xs) (x ++ 10 ∷ more))

feeds : (ls : List Line) → AllByRecursion IsLine ls → AllByRecursion HasNoFeed (map line_bytes ls)
feeds [] a = tt
feeds (l ∷ ls) a = (no_feed l a.0, feeds ls a.1)

feeds_snoc : (xs : List (List ℕ)) → AllByRecursion HasNoFeed xs → AllByRecursion HasNoFeed (xs ++ codes "end" ∷ [])
feeds_snoc [] a = (end_feed, tt)
feeds_snoc (x ∷ xs) a = (a.0, feeds_snoc xs a.1)

-- the same first line on both sides
pub strip : (a b : List ℕ) → behind_first a ≡ behind_first b → a ≡ b
strip a b e = (same_line (codes "profile 1") (codes "profile 1") a b first_feed first_feed e).1

pub onto_line : (xs line more : List ℕ) → (xs ++ (line ++ 10 ∷ [])) ++ more ≡ xs ++ (line ++ 10 ∷ more)
onto_line xs line more = append_assoc xs (line ++ 10 ∷ []) more ∙ ap (λ (t : List ℕ). xs ++ t) (append_assoc line (10 ∷ []) more)

-- a text that begins with the lines read and one more
begun : (ls : List Line) (line : List ℕ) (b : Begins (ended (befores ls) ++ (line ++ 10 ∷ [])))
    → lines_text b.lines ++ tail ≡ lines_text ls ++ (line ++ 10 ∷ b.rest)
begun ls line b = strip (lines_text b.lines ++ tail) (lines_text ls ++ (line ++ 10 ∷ b.rest))
    (b.spelled ∙ onto_line (ended (befores ls)) line b.rest ∙ ended_befores ls (line ++ 10 ∷ b.rest))

begins : (ls : List Line) → AllByRecursion IsLine ls → Begins (ended (befores ls))
begins ls a = record { lines = ls; are = a; rest = tail; spelled = sym (ended_befores ls tail) }

same_count : (ls : List Line) → suc (length ls) ≡ length (befores ls)
same_count ls = ap suc (sym (length-map ls line_bytes))

no_bytes : (xs more : List ℕ) → xs ++ 10 ∷ more ≡ [] → ⊥
no_bytes [] more e = absurd cc
no_bytes (x ∷ xs) more e = absurd cc

all_snoc : (ls : List Line) (l : Line) → AllByRecursion IsLine ls → IsLine l → AllByRecursion IsLine (ls ++ l ∷ [])
all_snoc [] l a h = (h, tt)
all_snoc (m ∷ ls) l a h = (a.0, all_snoc ls l a.1 h)

text_snoc : (ls : List Line) (l : Line) (more : List ℕ) → lines_text (ls ++ l ∷ []) ++ more ≡ lines_text ls ++ (line_bytes l ++ 10 ∷ more)
text_snoc [] l more = append_assoc (line_bytes l) (10 ∷ []) more
text_snoc (m ∷ ls) l more = split m (ls ++ l ∷ []) more ∙ ap (λ (t : List ℕ). line_bytes m ++ 10 ∷ t) (text_snoc ls l more)
    ∙ sym (split m ls (line_bytes l ++ 10 ∷ more))

set_snoc : (ls : List Line) (l : Line) (ns : Names) → set_by_all (ls ++ l ∷ []) ns ≡ set_by l (set_by_all ls ns)
set_snoc [] l ns = refl
set_snoc (m ∷ ls) l ns = set_snoc ls l (set_by m ns)

count_snoc : (ls : List Line) (l : Line) → suc (suc (length ls)) ≡ suc (length (ls ++ l ∷ []))
count_snoc [] l = refl
count_snoc (m ∷ ls) l = ap suc (count_snoc ls l)

count_snoc_bytes : (xs : List (List ℕ)) → suc (length xs) ≡ length (xs ++ codes "end" ∷ [])
count_snoc_bytes [] = refl
count_snoc_bytes (x ∷ xs) = ap suc (count_snoc_bytes xs)

capped_more : (k : ℕ) → min (line_number k + 1) 4294967295 ≡ line_number (suc k)
capped_more k = grind arith

module _ (b rest : List ℕ) (p : Profiled) (n : ℕ) (s : SoFar b rest p n) where
  bytes_are : behind_first b ≡ ended (befores s.lines) ++ rest
  bytes_are = ap behind_first s.spelled ∙ sym (ended_befores s.lines rest)

  number_is : n ≡ line_number (length (befores s.lines))
  number_is = s.counted ∙ ap line_number (same_count s.lines)

  pub no_more : HasNoFeed rest → DoesNotFit (behind_first b) n
  no_more nf = record {
    before = befores s.lines;
    here = rest;
    bytes_are = bytes_are;
    number_is = number_is;
    feeds = (first_feed, feeds s.lines s.are);
    fits = begins s.lines s.are;
    ends = λ nf1 ms a e. unfinished s.lines ms rest s.are a nf (sym (strip b (lines_text ms ++ tail) e) ∙ s.spelled);
    goes_on = λ line more e nf1 g. no_line line rest more nf e;
  }

  module _ (line behind : List ℕ) (e : rest ≡ line ++ 10 ∷ behind) (nf : HasNoFeed line) where
    pub bad_line : (line ≡ codes "end" → ⊥) → ((l : Line) → IsLine l → line ≡ line_bytes l → ⊥) → DoesNotFit (behind_first b) n
    bad_line not_last none = record {
      before = befores s.lines;
      here = rest;
      bytes_are = bytes_are;
      number_is = number_is;
      feeds = (first_feed, feeds s.lines s.are);
      fits = begins s.lines s.are;
      ends = λ nf1 ms a eq. no_line line rest behind nf1 e;
      goes_on = λ u more eq nf1 g.
          let same : u ≡ line = (same_line u line more behind nf1 nf (sym eq ∙ e)).0 in
          elim (next s.lines g.lines u g.rest s.are g.are nf1 (begun s.lines u g)) [
            | inl is ↦ not_last (sym same ∙ is)
            | inr some ↦ none some.0 some.1 (sym same ∙ some.2)
          ];
    }

    pub one_more : (l : Line) → IsLine l → line ≡ line_bytes l → (q : Profiled) → q ≡ option_map (set_by l) p → (m : ℕ) → m ≡ min (n + 1) 4294967295
        → SoFar b behind q m
    one_more l is spells q set m next_number = record {
      lines = s.lines ++ l ∷ [];
      are = all_snoc s.lines l s.are is;
      spelled = s.spelled ∙ ap (λ (t : List ℕ). lines_text s.lines ++ t) (e ∙ ap (λ (t : List ℕ). t ++ 10 ∷ behind) spells) ∙ sym (text_snoc s.lines l behind);
      set = set ∙ ap (option_map (set_by l)) s.set ∙ ap Some (sym (set_snoc s.lines l []));
      counted = next_number ∙ ap (λ (k : ℕ). min (k + 1) 4294967295) s.counted ∙ capped_more (suc (length s.lines)) ∙ ap line_number (count_snoc s.lines l);
    }

    module _ (is_end : line ≡ codes "end") where
      here_is : b ≡ lines_text s.lines ++ (codes "end" ++ 10 ∷ behind)
      here_is = s.spelled ∙ ap (λ (t : List ℕ). lines_text s.lines ++ t) (e ∙ ap (λ (t : List ℕ). t ++ 10 ∷ behind) is_end)

      pub is_read : behind ≡ [] → IsReadAs (behind_first b) p
      is_read none = record {
        names = set_by_all s.lines [];
        named = s.set;
        is_text = record {
          lines = s.lines;
          are = s.are;
          spelled = ap behind_first (here_is ∙ ap (λ (t : List ℕ). lines_text s.lines ++ (codes "end" ++ 10 ∷ t)) none);
          set = refl;
        };
      }

      ended_all : (more : List ℕ) → ended (befores s.lines ++ codes "end" ∷ []) ++ more ≡ behind_first (lines_text s.lines ++ (codes "end" ++ 10 ∷ more))
      ended_all more = ended_snoc (befores s.lines) (codes "end") more ∙ ended_befores s.lines (codes "end" ++ 10 ∷ more)

      pub more_behind : (behind ≡ [] → ⊥) → (m : ℕ) → m ≡ min (n + 1) 4294967295 → DoesNotFit (behind_first b) m
      more_behind some m next_number = record {
        before = befores s.lines ++ codes "end" ∷ [];
        here = behind;
        bytes_are = ap behind_first here_is ∙ sym (ended_all behind);
        number_is = next_number ∙ ap (λ (k : ℕ). min (k + 1) 4294967295) number_is ∙ capped_more (length (befores s.lines)) ∙ ap line_number
            (count_snoc_bytes (befores s.lines));
        feeds = feeds_snoc (befores s.lines) (first_feed, feeds s.lines s.are);
        fits = record {
          lines = s.lines;
          are = s.are;
          rest = [];
          spelled = sym (ended_all []);
        };
        ends = λ nf1 ms a eq. some (behind_end s.lines ms behind s.are a (sym (strip b (lines_text ms ++ tail) eq) ∙ here_is));
        goes_on = λ u more eq nf1 g.
            no_bytes u g.rest (behind_end s.lines g.lines (u ++ 10 ∷ g.rest) s.are g.are
            (strip (lines_text g.lines ++ tail) (lines_text s.lines ++ (codes "end" ++ 10 ∷ (u ++ 10 ∷ g.rest)))
            (g.spelled ∙ onto_line (ended (befores s.lines ++ codes "end" ∷ [])) u g.rest ∙ ended_all (u ++ 10 ∷ g.rest))));
      }

-- the first line of all
pub no_first : (b : List ℕ) → HasNoFeed b → DoesNotFit b 1
no_first b nf = record {
  before = [];
  here = b;
  bytes_are = refl;
  number_is = refl;
  feeds = tt;
  fits = record { lines = []; are = tt; rest = text []; spelled = refl };
  ends = λ nf1 ms a e. no_line (codes "profile 1") b (lines_text ms ++ tail) nf e;
  goes_on = λ line more e nf1 g. no_line line b more nf e;
}

pub bad_first : (b line behind : List ℕ) → b ≡ line ++ 10 ∷ behind → HasNoFeed line → (line ≡ codes "profile 1" → ⊥) → DoesNotFit b 1
bad_first b line behind e nf other = record {
  before = [];
  here = b;
  bytes_are = refl;
  number_is = refl;
  feeds = tt;
  fits = record { lines = []; are = tt; rest = text []; spelled = refl };
  ends = λ nf1 ms a eq. no_line line b behind nf1 e;
  goes_on = λ u more eq nf1 g.
      let same : u ≡ line = (same_line u line more behind nf1 nf (sym eq ∙ e)).0 in
      let first = same_line (codes "profile 1") u (lines_text g.lines ++ tail) g.rest first_feed nf1 (g.spelled ∙ append_assoc u (10 ∷ []) g.rest) in
      other (sym same ∙ sym first.0);
}

pub at_start : (b : List ℕ) → SoFar b b (Some []) 2
at_start b = record { lines = []; are = tt; spelled = refl; set = refl; counted = refl }
