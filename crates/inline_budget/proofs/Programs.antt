-- The summaries of a valid program's routines, which are within the limits, are what the choice asks.
use Rattle.std.proofs.Common.{◌≡◌, ℕ, suc, ◌≤◌, List, [], ◌∷◌, map, option_map, length, Bool, refl, ap, ◌∙◌, arith, ne_eqb}
use Rattle.std.specs.Prelude.{if◌then◌else◌, Option, Some, None}
use Rattle.std.specs.List.{AllByRecursion}
use Rattle.std.proofs.lemmas.List.{length-append}
use Rattle.std.proofs.lemmas.List.Sums.{sum_by-cons}
use Rattle.il_core.specs.declared.instr.Block.{Block}
use Rattle.il_core.specs.declared.instr.Instr.{Instr}
use Rattle.il_core.specs.declared.instr.Instr.TheVariants.{Const, Move, Conv, Bin, Get, Set, GetX, SetX, GetA, SetA, Clear, Turn, Call, GetChar, PutChar}
use Rattle.il_core.specs.declared.program.IlProgram.{IlProgram}
use Rattle.il_core.specs.Limits.{IsWithinLimits}
use Rattle.il_core.specs.Routine.{RoutineParts}
use Rattle.il_core.specs.Shapes.{IsRising, IsRisingFrom}
use Rattle.il_core.specs.Size.{block_size, blocks_size}
use Rattle.il_core.specs.Valid.{IsProgram, IsValid}
use Rattle.il_laws.specs.Facts.{Facts, after, facts_at}
use Rattle.il_laws.specs.Keeping.{Stands}
use Rattle.il_laws.specs.Known.{KnownSite, known_from, known_in, known_sites, site_of}
use Rattle.il_laws.proofs.Grown.{all_to}
use Rattle.il_laws.proofs.Programs.{valid_calls}
use Rattle.il_laws.proofs.Retargeted.{all_stand}
use Rattle.plan_laws.specs.Summary.{summaries, summary, summary_at}
use Rattle.plan_laws.proofs.GroupsFit.{summary_found}
use Rattle.inline_budget.specs.Linked.{AreApart, AreLinked, CallsKnown, HasSummary, IsSmall}

-- the PIDs are different

none_later : (n m : ℕ) (rs : List RoutineParts) → n ≤ m → IsRisingFrom (λ r. r.pid) m rs → summary_at (map summary rs) n ≡ None
none_later n m [] le h = refl
none_later n m (r ∷ rs) le h =
    let lt = h.0 in
    ap (λ (b : Bool). if b then Some (summary r) else summary_at (map summary rs) n) (ne_eqb r.pid n (λ same. absurd (omega arith)))
    ∙ none_later n r.pid rs (omega arith) h.1

apart_from : (m : ℕ) (rs : List RoutineParts) → IsRisingFrom (λ r. r.pid) m rs → AreApart (map summary rs)
apart_from m [] h = tt
apart_from m (r ∷ rs) h = (none_later r.pid r.pid rs (omega arith) h.1, apart_from r.pid rs h.1)

rising_apart : (rs : List RoutineParts) → IsRising (λ r. r.pid) rs → AreApart (map summary rs)
rising_apart [] h = tt
rising_apart (r ∷ rs) h = (none_later r.pid r.pid rs (omega arith) h, apart_from r.pid rs h)

-- each call's callee stands

module _ (p : IlProgram) (valid : IsProgram p) where
  calls_known : (rs : List RoutineParts) → AllByRecursion (IsValid p.shapes) rs → AllByRecursion (CallsKnown (summaries p)) (map summary rs)
  calls_known [] h = tt
  calls_known (r ∷ rs) h = (
    all_to (λ (x : KnownSite). Stands p x.callee) (λ x. HasSummary (summaries p) x.callee) (known_sites r)
        (λ x s. record { summary = summary s.routine; found = summary_found p.routines x.callee ∙ ap (λ (o : Option RoutineParts). option_map summary o) s.is })
        (all_stand p r 0 r.blocks (valid_calls p valid r h.0)),
    calls_known rs h.1,
  )

-- a routine has no more calls than instructions

site_most : (fs : Facts) (i : Instr) → length (site_of fs i) ≤ 1
site_most fs (Const d w) = omega arith
site_most fs (Move d s) = omega arith
site_most fs (Conv d t s) = omega arith
site_most fs (Bin o d a b) = omega arith
site_most fs (Get d g) = omega arith
site_most fs (Set g s) = omega arith
site_most fs (GetX d g i) = omega arith
site_most fs (SetX g i s) = omega arith
site_most fs (GetA d a i) = omega arith
site_most fs (SetA a i s) = omega arith
site_most fs (Clear r c a m) = omega arith
site_most fs Turn = omega arith
site_most fs (Call dest callee count args) = omega arith
site_most fs (GetChar d) = omega arith
site_most fs (PutChar d s) = omega arith

sites_in_block : (fs : Facts) (is : List Instr) → length (known_in fs is) ≤ length is
sites_in_block fs [] = omega arith
sites_in_block fs (i ∷ is) =
    let one = site_most fs i in
    let rest = sites_in_block (after i fs) is in
    let both = length-append (site_of fs i) (known_in (after i fs) is) in
    omega arith

sites_in_blocks : (r : RoutineParts) (b : ℕ) (xs : List Block) → length (known_from r b xs) ≤ blocks_size xs
sites_in_blocks r b [] = omega arith
sites_in_blocks r b (x ∷ xs) =
    let one = sites_in_block (facts_at r b) x.instrs in
    let rest = sites_in_blocks r (suc b) xs in
    let both = length-append (known_in (facts_at r b) x.instrs) (known_from r (suc b) xs) in
    let sum = sum_by-cons block_size x xs in
    omega arith

small_routine : (r : RoutineParts) → IsWithinLimits r → IsSmall (summary r)
small_routine r h =
    let sites = sites_in_blocks r 0 r.blocks in
    let size = h.size in
    record { size = h.size; regs = h.regs; arrays = h.arrays; elements = h.elements; sites = omega arith }

all_small : (rs : List RoutineParts) → AllByRecursion IsWithinLimits rs → AllByRecursion IsSmall (map summary rs)
all_small [] h = tt
all_small (r ∷ rs) h = (small_routine r h.0, all_small rs h.1)

pub linked_summaries : (p : IlProgram) → IsProgram p → AllByRecursion IsWithinLimits p.routines → AreLinked (summaries p)
linked_summaries p valid within =
    record {
      apart = rising_apart p.routines valid.routines;
      calls = calls_known p valid p.routines valid.each;
      small = all_small p.routines within;
    }
