-- Facts of the registers that instructions name decide what they do to facts.
use Rattle.std.proofs.Common.{◌≡◌, ℕ, ◌+◌, ◌<◌, ◌≤◌, List, [], ◌∷◌, ◌++◌, get_or, set, take, drop, length, refl, ap, sym, subst, ◌∙◌, arith}
use Rattle.std.proofs.Common.{append_assoc, length-set}
use Rattle.std.proofs.lemmas.List.{drop_all, drop_more, drop-set-lt, take_all, take_more_set, append-nil}
use Rattle.std.specs.Prelude.{Option, if◌then◌else◌, option_map}
use Rattle.std.specs.List.{AllByRecursion}
use Rattle.hlo_num.specs.Words.{convert}
use Rattle.il_core.specs.declared.instr.Instr.{Instr}
use Rattle.il_core.specs.declared.instr.Instr.TheVariants.{Const, Move, Conv, Bin, Get, Set, GetX, SetX, GetA, SetA, Clear, Turn, Call, GetChar, PutChar}
use Rattle.il_core.specs.Operands.{writes}
use Rattle.il_laws.specs.Facts.{Facts, known_result, gives, after, through}
use Rattle.il_laws.specs.Propagate.{constant, propagated, propagated_all}
use Rattle.const_prop.specs.Tables.{NamesRegisters, facts_in, Has}
use Rattle.list_laws.proofs.Elements.{drop_read, all_drop}

-- facts agree on the first n registers
pub record Agree (n : ℕ) (fs gs : Facts) : Type 0 where
  pub at : (x : ℕ) → x < n → fs x ≡ gs x

pub gives_same : (n : ℕ) (i : Instr) (fs gs : Facts) → NamesRegisters n i → Agree n fs gs → gives fs i ≡ gives gs i
gives_same n (Const d w) fs gs m h = refl
gives_same n (Move d s) fs gs m h = h.at s m.1
gives_same n (Conv d t s) fs gs m h = ap (option_map (convert t)) (h.at s m.1)
gives_same n (Bin o d a b) fs gs m h = ap (λ (p : Option ℕ). known_result o p (fs b)) (h.at a m.1) ∙ ap (λ (q : Option ℕ). known_result o (gs a) q) (h.at b m.2)
gives_same n (Get d g) fs gs m h = refl
gives_same n (Set g s) fs gs m h = refl
gives_same n (GetX d g i) fs gs m h = refl
gives_same n (SetX g i s) fs gs m h = refl
gives_same n (GetA d a i) fs gs m h = refl
gives_same n (SetA a i s) fs gs m h = refl
gives_same n (Clear r c a k) fs gs m h = refl
gives_same n Turn fs gs m h = refl
gives_same n (Call dest p count args) fs gs m h = refl
gives_same n (GetChar d) fs gs m h = refl
gives_same n (PutChar d s) fs gs m h = refl

propagated_same : (n : ℕ) (i : Instr) (fs gs : Facts) → NamesRegisters n i → Agree n fs gs → propagated fs i ≡ propagated gs i
propagated_same n (Const d w) fs gs m h = refl
propagated_same n (Move d s) fs gs m h = ap (constant (Move d s) d) (gives_same n (Move d s) fs gs m h)
propagated_same n (Conv d t s) fs gs m h = ap (constant (Conv d t s) d) (gives_same n (Conv d t s) fs gs m h)
propagated_same n (Bin o d a b) fs gs m h = ap (constant (Bin o d a b) d) (gives_same n (Bin o d a b) fs gs m h)
propagated_same n (Get d g) fs gs m h = refl
propagated_same n (Set g s) fs gs m h = refl
propagated_same n (GetX d g i) fs gs m h = refl
propagated_same n (SetX g i s) fs gs m h = refl
propagated_same n (GetA d a i) fs gs m h = refl
propagated_same n (SetA a i s) fs gs m h = refl
propagated_same n (Clear r c a k) fs gs m h = refl
propagated_same n Turn fs gs m h = refl
propagated_same n (Call dest p count args) fs gs m h = refl
propagated_same n (GetChar d) fs gs m h = refl
propagated_same n (PutChar d s) fs gs m h = refl

pub after_same : (n : ℕ) (i : Instr) (fs gs : Facts) → NamesRegisters n i → Agree n fs gs → Agree n (after i fs) (after i gs)
after_same n i fs gs m h =
    record {
      at = λ x lt. ap (λ (o : Option ℕ). if writes i x then o else fs x) (gives_same n i fs gs m h)
          ∙ ap (λ (o : Option ℕ). if writes i x then gives gs i else o) (h.at x lt);
    }

pub through_same : (n : ℕ) (is : List Instr) (fs gs : Facts) → AllByRecursion (NamesRegisters n) is → Agree n fs gs → Agree n (through is fs) (through is gs)
through_same n [] fs gs m h = h
through_same n (i ∷ is) fs gs m h = through_same n is (after i fs) (after i gs) m.1 (after_same n i fs gs m.0 h)

pub all_same : (n : ℕ) (is : List Instr) (fs gs : Facts) → AllByRecursion (NamesRegisters n) is → Agree n fs gs → propagated_all fs is ≡ propagated_all gs is
all_same n [] fs gs m h = refl
all_same n (i ∷ is) fs gs m h =
    ap (λ (j : Instr). j ∷ propagated_all (after i fs) is) (propagated_same n i fs gs m.0 h)
    ∙ ap (λ (js : List Instr). propagated gs i ∷ js) (all_same n is (after i fs) (after i gs) m.1 (after_same n i fs gs m.0 h))

-- ---- a loop over instructions

-- behind k instructions, the table has what leads to the facts behind all of them
pub record Passing (n : ℕ) (is : List Instr) (start : List (Option ℕ)) (k : ℕ) (t : List (Option ℕ)) : Type 0 where
  pub size : length t ≡ n
  pub facts : Agree n (through (drop k is) (facts_in t)) (through is (facts_in start))

module _ (n : ℕ) (is : List Instr) (start : List (Option ℕ)) (named : AllByRecursion (NamesRegisters n) is) where
  pub named_at : (k : ℕ) (i : Instr) → drop k is ≡ i ∷ drop (k + 1) is → NamesRegisters n i × AllByRecursion (NamesRegisters n) (drop (k + 1) is)
  named_at k i e = subst (AllByRecursion (NamesRegisters n)) e (all_drop (NamesRegisters n) k is named)

  module _ (k : ℕ) (i : Instr) (t u : List (Option ℕ)) (here : drop k is ≡ i ∷ drop (k + 1) is) (p : Passing n is start k t)
      (h : Has n u (after i (facts_in t))) where
    rest_named : AllByRecursion (NamesRegisters n) (drop (k + 1) is)
    rest_named = (named_at k i here).1

    agree : Agree n (facts_in u) (after i (facts_in t))
    agree = record { at = h.at }

    pub pass_more : Passing n is start (k + 1) u
    pass_more =
        record {
          size = h.size;
          facts = record {
            at = λ x lt. (through_same n (drop (k + 1) is) (facts_in u) (after i (facts_in t)) rest_named agree).at x lt
                ∙ ap (λ (js : List Instr). through js (facts_in t) x) (sym here) ∙ p.facts.at x lt;
          };
        }

    pub all_more : propagated_all (facts_in t) (drop k is) ≡ propagated (facts_in t) i ∷ propagated_all (facts_in u) (drop (k + 1) is)
    all_more =
        ap (propagated_all (facts_in t)) here
        ∙ ap (λ (js : List Instr). propagated (facts_in t) i ∷ js)
        (sym (all_same n (drop (k + 1) is) (facts_in u) (after i (facts_in t)) rest_named agree))

  pub pass_done : (k : ℕ) (t : List (Option ℕ)) → length is ≤ k → Passing n is start k t → Has n t (through is (facts_in start))
  pass_done k t past p =
      record {
        size = p.size;
        at = λ x lt. ap (λ (js : List Instr). through js (facts_in t) x) (sym (drop_all k is past)) ∙ p.facts.at x lt;
      }

-- the first k instructions are changed, and what is left is as it was
pub record Changing (n : ℕ) (is : List Instr) (start : List (Option ℕ)) (k : ℕ) (t : List (Option ℕ)) (now : List Instr) : Type 0 where
  pub passing : Passing n is start k t
  pub count : length now ≡ length is
  pub rest : drop k now ≡ drop k is
  pub whole : take k now ++ propagated_all (facts_in t) (drop k is) ≡ propagated_all (facts_in start) is

module _ (n : ℕ) (is : List Instr) (start : List (Option ℕ)) (named : AllByRecursion (NamesRegisters n) is) (k : ℕ) (i : Instr) (t : List (Option ℕ))
    (now : List Instr) (lt : k < length now) (read : i ≡ get_or now k i) (c : Changing n is start k t now) where
  here : drop k is ≡ i ∷ drop (k + 1) is
  here =
      let size = c.count in
      let e : i ∷ drop (k + 1) now ≡ drop k is = sym (drop_read now k i lt read) ∙ c.rest in
      let d : drop k is ≡ get_or is k i ∷ drop (k + 1) is = drop_more is k i (omega arith) in
      let same : i ≡ get_or is k i = cc in
      d ∙ ap (λ (j : Instr). j ∷ drop (k + 1) is) (sym same)

  pub change_named : NamesRegisters n i
  change_named = (named_at n is start named k i here).0

  pub change_more : (u : List (Option ℕ)) (j : Instr) → j ≡ propagated (facts_in t) i → Has n u (after i (facts_in t))
      → Changing n is start (k + 1) u (set now k j)
  change_more u j e h =
      record {
        passing = pass_more n is start named k i t u here c.passing h;
        count = length-set now k j ∙ c.count;
        rest = drop-set-lt (k + 1) now k j (omega arith) ∙ rest_more;
        whole = ap (λ (js : List Instr). js ++ propagated_all (facts_in u) (drop (k + 1) is)) (take_more_set now k j lt)
            ∙ append_assoc (take k now) (j ∷ []) (propagated_all (facts_in u) (drop (k + 1) is))
            ∙ ap (λ (i1 : Instr). take k now ++ i1 ∷ propagated_all (facts_in u) (drop (k + 1) is)) e
            ∙ ap (λ (js : List Instr). take k now ++ js) (sym (all_more n is start named k i t u here c.passing h)) ∙ c.whole;
      }
    where
      rest_more : drop (k + 1) now ≡ drop (k + 1) is
      rest_more = let e : i ∷ drop (k + 1) now ≡ i ∷ drop (k + 1) is = sym (drop_read now k i lt read) ∙ c.rest ∙ here in cc

pub change_done : (n : ℕ) (is : List Instr) (start : List (Option ℕ)) (k : ℕ) (t : List (Option ℕ)) (now : List Instr) → length now ≤ k
    → Changing n is start k t now → now ≡ propagated_all (facts_in start) is
change_done n is start k t now past c =
    let size = c.count in
    sym (append-nil now) ∙ ap (λ (js : List Instr). js ++ []) (sym (take_all k now past))
    ∙ ap (λ (js : List Instr). take k now ++ propagated_all (facts_in t) js) (sym (drop_all k is (omega arith))) ∙ c.whole

-- ---- what the loops take from the code

pub pass_step : (is : List Instr) (start : List (Option ℕ)) (k : ℕ) (i : Instr) (t u : List (Option ℕ)) → AllByRecursion (NamesRegisters (length start)) is
    → k < length is → i ≡ get_or is k i → Has (length t) u (after i (facts_in t)) → Passing (length start) is start k t
    → Passing (length start) is start (k + 1) u
pass_step is start k i t u named lt read h p =
    pass_more (length start) is start named k i t u (drop_read is k i lt read) p (subst (λ (n : ℕ). Has n u (after i (facts_in t))) p.size h)

pub change_step : (is : List Instr) (start : List (Option ℕ)) (k : ℕ) (i j : Instr) (t u : List (Option ℕ)) (now : List Instr)
    → AllByRecursion (NamesRegisters (length start)) is
    → k < length now → i ≡ get_or now k i → j ≡ propagated (facts_in t) i → Has (length t) u (after i (facts_in t)) → Changing (length start) is start k t now
    → Changing (length start) is start (k + 1) u (set now k j)
change_step is start k i j t u now named lt read e h c =
    change_more (length start) is start named k i t now lt read c u j e (subst (λ (n : ℕ). Has n u (after i (facts_in t))) c.passing.size h)
