-- Facts of the registers that instructions read before they write them decide what the instructions do to facts.
use Rattle.std.proofs.Common.{◌≡◌, ℕ, ◌<◌, List, [], ◌∷◌, ◌++◌, map, Bool, true, false, refl, ap, ◌∙◌, eq-eqb}
use Rattle.std.specs.Prelude.{Option, not, ◌||◌, ◌&&◌, if◌then◌else◌, option_map, nat_eq}
use Rattle.std.specs.List.{AllByRecursion, list_any}
use Rattle.hlo_num.specs.Words.{convert}
use Rattle.il_core.specs.declared.instr.Instr.{Instr}
use Rattle.il_core.specs.declared.instr.Instr.TheVariants.{Const, Move, Conv, Bin, Get, Set, GetX, SetX, GetA, SetA, Clear, Turn, Call, GetChar, PutChar}
use Rattle.il_core.specs.Operands.{reads, writes}
use Rattle.il_laws.specs.Facts.{Facts, known_result, gives, after, through, any_writes}
use Rattle.il_laws.specs.Known.{KnownSite, site_of, known_in}
use Rattle.il_laws.specs.Propagate.{constant, propagated, propagated_all}
use Rattle.const_prop.specs.Carried.{is_exposed}
use Rattle.const_prop.specs.Tables.{NamesRegisters}

pub or_left : (a b : Bool) → a ≡ true → (a || b) ≡ true
or_left true b e = refl
or_left false b e = absurd cc

pub or_right : (a b : Bool) → b ≡ true → (a || b) ≡ true
or_right true b e = refl
or_right false b e = e

any_here : (x : ℕ) (xs : List ℕ) → list_any (nat_eq x) (x ∷ xs) ≡ true
any_here x xs = or_left (nat_eq x x) (list_any (nat_eq x) xs) (eq-eqb x x refl)

any_there : (x y : ℕ) (xs : List ℕ) → list_any (nat_eq x) xs ≡ true → list_any (nat_eq x) (y ∷ xs) ≡ true
any_there x y xs e = or_right (nat_eq x y) (list_any (nat_eq x) xs) e

-- facts agree on those of n registers for which a test holds
pub record AgreeWhere (n : ℕ) (test : ℕ → Bool) (fs gs : Facts) : Type 0 where
  pub at : (x : ℕ) → x < n → test x ≡ true → fs x ≡ gs x

gives_by : (n : ℕ) (i : Instr) (fs gs : Facts) → NamesRegisters n i → AgreeWhere n (reads i) fs gs → gives fs i ≡ gives gs i
gives_by n (Const d w) fs gs m h = refl
gives_by n (Move d s) fs gs m h = h.at s m.1 (any_here s [])
gives_by n (Conv d t s) fs gs m h = ap (option_map (convert t)) (h.at s m.1 (any_here s []))
gives_by n (Bin o d a b) fs gs m h =
    ap (λ (p : Option ℕ). known_result o p (fs b)) (h.at a m.1 (any_here a (b ∷ [])))
    ∙ ap (λ (q : Option ℕ). known_result o (gs a) q) (h.at b m.2 (any_there b a (b ∷ []) (any_here b [])))
gives_by n (Get d g) fs gs m h = refl
gives_by n (Set g s) fs gs m h = refl
gives_by n (GetX d g i) fs gs m h = refl
gives_by n (SetX g i s) fs gs m h = refl
gives_by n (GetA d a i) fs gs m h = refl
gives_by n (SetA a i s) fs gs m h = refl
gives_by n (Clear r c a k) fs gs m h = refl
gives_by n Turn fs gs m h = refl
gives_by n (Call dest p count args) fs gs m h = refl
gives_by n (GetChar d) fs gs m h = refl
gives_by n (PutChar d s) fs gs m h = refl

propagated_by : (i : Instr) (fs gs : Facts) → gives fs i ≡ gives gs i → propagated fs i ≡ propagated gs i
propagated_by (Const d w) fs gs e = refl
propagated_by (Move d s) fs gs e = ap (constant (Move d s) d) e
propagated_by (Conv d t s) fs gs e = ap (constant (Conv d t s) d) e
propagated_by (Bin o d a b) fs gs e = ap (constant (Bin o d a b) d) e
propagated_by (Get d g) fs gs e = refl
propagated_by (Set g s) fs gs e = refl
propagated_by (GetX d g i) fs gs e = refl
propagated_by (SetX g i s) fs gs e = refl
propagated_by (GetA d a i) fs gs e = refl
propagated_by (SetA a i s) fs gs e = refl
propagated_by (Clear r c a k) fs gs e = refl
propagated_by Turn fs gs e = refl
propagated_by (Call dest p count args) fs gs e = refl
propagated_by (GetChar d) fs gs e = refl
propagated_by (PutChar d s) fs gs e = refl

args_by : (n : ℕ) (fs gs : Facts) (args : List ℕ) → AllByRecursion (λ x. x < n) args → AgreeWhere n (λ x. list_any (nat_eq x) args) fs gs
    → map fs args ≡ map gs args
args_by n fs gs [] m h = refl
args_by n fs gs (a ∷ args) m h =
    ap (λ (o : Option ℕ). o ∷ map fs args) (h.at a m.0 (any_here a args))
    ∙ ap (λ (os : List (Option ℕ)). gs a ∷ os) (args_by n fs gs args m.1 (record { at = λ x lt e. h.at x lt (any_there x a args e) }))

site_by : (n : ℕ) (i : Instr) (fs gs : Facts) → NamesRegisters n i → AgreeWhere n (reads i) fs gs → site_of fs i ≡ site_of gs i
site_by n (Const d w) fs gs m h = refl
site_by n (Move d s) fs gs m h = refl
site_by n (Conv d t s) fs gs m h = refl
site_by n (Bin o d a b) fs gs m h = refl
site_by n (Get d g) fs gs m h = refl
site_by n (Set g s) fs gs m h = refl
site_by n (GetX d g i) fs gs m h = refl
site_by n (SetX g i s) fs gs m h = refl
site_by n (GetA d a i) fs gs m h = refl
site_by n (SetA a i s) fs gs m h = refl
site_by n (Clear r c a k) fs gs m h = refl
site_by n Turn fs gs m h = refl
site_by n (Call dest p count args) fs gs m h =
    ap (λ (os : List (Option ℕ)). let s : KnownSite = record { callee = p; count = count; known = os } in s ∷ [])
    (args_by n fs gs args m.1 (record { at = h.at }))
site_by n (GetChar d) fs gs m h = refl
site_by n (PutChar d s) fs gs m h = refl

-- ---- one instruction, and those behind it

module _ (n : ℕ) (i : Instr) (is : List Instr) (fs gs : Facts) (named : NamesRegisters n i) (h : AgreeWhere n (is_exposed (i ∷ is)) fs gs) where
  pub on_reads : AgreeWhere n (reads i) fs gs
  on_reads = record { at = λ x lt e. h.at x lt (or_left (reads i x) (not (writes i x) && is_exposed is x) e) }

  gives_alike : gives fs i ≡ gives gs i
  gives_alike = gives_by n i fs gs named on_reads

  -- a register agrees behind the instruction where it agrees before, if nothing writes it
  after_by : (x : ℕ) → (writes i x ≡ false → fs x ≡ gs x) → after i fs x ≡ after i gs x
  after_by x k = go (writes i x) refl
    where
      go : (w : Bool) → writes i x ≡ w → (if w then gives fs i else fs x) ≡ (if w then gives gs i else gs x)
      go true e = gives_alike
      go false e = k e

  pub on_rest : AgreeWhere n (is_exposed is) (after i fs) (after i gs)
  on_rest =
      record {
        at = λ x lt e. after_by x (λ w. h.at x lt (or_right (reads i x) (not (writes i x) && is_exposed is x)
            (ap (λ (b : Bool). not b && is_exposed is x) w ∙ e)));
      }

-- what instructions become, what is known at their calls, and what is known behind them

pub all_by : (n : ℕ) (is : List Instr) (fs gs : Facts) → AllByRecursion (NamesRegisters n) is → AgreeWhere n (is_exposed is) fs gs
    → propagated_all fs is ≡ propagated_all gs is
all_by n [] fs gs m h = refl
all_by n (i ∷ is) fs gs m h =
    ap (λ (j : Instr). j ∷ propagated_all (after i fs) is) (propagated_by i fs gs (gives_alike n i is fs gs m.0 h))
    ∙ ap (λ (js : List Instr). propagated gs i ∷ js) (all_by n is (after i fs) (after i gs) m.1 (on_rest n i is fs gs m.0 h))

pub known_by : (n : ℕ) (is : List Instr) (fs gs : Facts) → AllByRecursion (NamesRegisters n) is → AgreeWhere n (is_exposed is) fs gs
    → known_in fs is ≡ known_in gs is
known_by n [] fs gs m h = refl
known_by n (i ∷ is) fs gs m h =
    ap (λ (ss : List KnownSite). ss ++ known_in (after i fs) is) (site_by n i fs gs m.0 (on_reads n i is fs gs m.0 h))
    ∙ ap (λ (ss : List KnownSite). site_of gs i ++ ss) (known_by n is (after i fs) (after i gs) m.1 (on_rest n i is fs gs m.0 h))

pub through_by : (n : ℕ) (is : List Instr) (fs gs : Facts) → AllByRecursion (NamesRegisters n) is → AgreeWhere n (is_exposed is) fs gs
    → (x : ℕ) → (any_writes is x ≡ false → fs x ≡ gs x) → through is fs x ≡ through is gs x
through_by n [] fs gs m h x k = k refl
through_by n (i ∷ is) fs gs m h x k =
    through_by n is (after i fs) (after i gs) m.1 (on_rest n i is fs gs m.0 h) x
    (λ quiet. after_by n i is fs gs m.0 h x (λ w. k (ap (λ (b : Bool). b || any_writes is x) w ∙ quiet)))
