-- The lines of counts, one routine and one call site after the other.
use Rattle.std.proofs.Common.{◌≡◌, ℕ, zero, suc, ◌+◌, ◌<◌, ◌≤◌, List, [], ◌∷◌, ◌++◌, Option, Some, None, Result, Ok, Err, IfErr, get_or, drop, take}
use Rattle.std.proofs.Common.{length, map, refl, ap, sym, ◌∙◌, subst, arith}
use Rattle.std.specs.Prelude.{option_map, flat_map}
use Rattle.std.specs.List.{range_with_len}
use Rattle.std.proofs.lemmas.List.{drop_more, length-map}
use Rattle.std.proofs.lemmas.List.Sums.{sum_by-cons}
use Rattle.std.specs.Io.KnownBytes.{Appends}
use Rattle.outside.specs.Taken.{TakesAll}
use Rattle.profile.specs.Writing.{IsWritten}
use Rattle.hlo_cmd.specs.declared.print.PrintFault.{PrintFault}
use Rattle.hlo_cmd.specs.declared.print.PrintFault.TheVariants as print_fault
use Rattle.il_core.specs.declared.instr.Block.{Block}
use Rattle.il_core.specs.declared.shape.ShapeRow.{ShapeRow}
use Rattle.il_core.specs.declared.instr.Instr.{Instr}
use Rattle.il_core.specs.declared.instr.Instr.TheVariants.{Const, Move, Conv, Bin, Get, Set, GetX, SetX, GetA, SetA, Clear, Turn, Call, GetChar, PutChar}
use Rattle.il_core.specs.Meaning.{MadeCall, sites_in, sites_of}
use Rattle.il_core.specs.Program.{name_at}
use Rattle.il_core.specs.Routine.{RoutineParts}
use Rattle.il_core.specs.Size.{block_size, blocks_size}
use Rattle.il_run.specs.Counts.{entry_count, site_count, sites_of_blocks}
use Rattle.profile.specs.Counts.{Profiled}
use Rattle.profile.specs.Names.{Names}
use Rattle.profile.specs.Texts.{Line, Entry, Site, set_by, set_by_all}
use Rattle.list_laws.proofs.Elements.{drop_read}
use Rattle.hlo_cmd.specs.Training.{counted_lines, PutsProfile, entered, routine_lines, site_lines_from, trained_lines}

pub set_all_append : (ls ms : List Line) (ns : Names) → set_by_all (ls ++ ms) ns ≡ set_by_all ms (set_by_all ls ns)
set_all_append [] ms ns = refl
set_all_append (l ∷ ls) ms ns = set_all_append ls ms (set_by l ns)

abbrev pub sets : List Line → Profiled → Profiled
sets ls o = option_map (set_by_all ls) o

pub sets_append : (ls ms : List Line) (o : Profiled) → sets (ls ++ ms) o ≡ sets ms (sets ls o)
sets_append ls ms None = refl
sets_append ls ms (Some ns) = ap Some (set_all_append ls ms ns)

pub sets_none : (o : Profiled) → sets [] o ≡ o
sets_none None = refl
sets_none (Some ns) = refl

-- one call site more
pub site_next : (n : List ℕ) (k : ℕ) (cs : List ℕ) (x : ℕ) (now new start : Profiled) → k < length cs → x ≡ get_or cs k x → new ≡ sets (Site n k x ∷ []) now
    → sets (site_lines_from n k (drop k cs)) now ≡ start → sets (site_lines_from n (k + 1) (drop (k + 1) cs)) new ≡ start
site_next n k cs x now new start lt read set before =
    ap (sets (site_lines_from n (k + 1) (drop (k + 1) cs))) set
    ∙ sym (sets_append (Site n k x ∷ []) (site_lines_from n (k + 1) (drop (k + 1) cs)) now)
    ∙ ap (λ (ds : List ℕ). sets (site_lines_from n k ds) now) (sym (drop_read cs k x lt read)) ∙ before

-- one routine more
pub routine_next : (shapes : List ShapeRow) (rs : List RoutineParts) (es : List ℕ) (ss : List (List ℕ)) (i : ℕ) (r : RoutineParts) (s : List ℕ)
    (now new start : Profiled)
    → i < length rs → r ≡ get_or rs i r → i < length es → i < length ss → s ≡ get_or ss i s
    → new ≡ sets (routine_lines (name_at shapes r.pid) (get_or es i 0) s) now
    → sets (counted_lines shapes (drop i rs) (drop i es) (drop i ss)) now ≡ start
    → sets (counted_lines shapes (drop (i + 1) rs) (drop (i + 1) es) (drop (i + 1) ss)) new ≡ start
routine_next shapes rs es ss i r s now new start lr ri le ls si set before =
    let e : ℕ = get_or es i 0 in
    let rest : List Line = counted_lines shapes (drop (i + 1) rs) (drop (i + 1) es) (drop (i + 1) ss) in
    ap (sets rest) set
    ∙ sym (sets_append (routine_lines (name_at shapes r.pid) e s) rest now)
    ∙ ap (λ (qs : List RoutineParts). sets (counted_lines shapes qs (e ∷ drop (i + 1) es) (s ∷ drop (i + 1) ss)) now) (sym (drop_read rs i r lr ri))
    ∙ ap (λ (ds : List ℕ). sets (counted_lines shapes (drop i rs) ds (s ∷ drop (i + 1) ss)) now) (sym (drop_more es i 0 le))
    ∙ ap (λ (ts : List (List ℕ)). sets (counted_lines shapes (drop i rs) (drop i es) ts) now) (sym (drop_read ss i s ls si))
    ∙ before

site_lines_are : (n : List ℕ) (f : ℕ → ℕ) (k count : ℕ)
    → site_lines_from n k (map f (range_with_len k count)) ≡ map (λ j. Site n j (f j)) (range_with_len k count)
site_lines_are n f k zero = refl
site_lines_are n f k (suc count) = ap (λ (ls : List Line). Site n k (f k) ∷ ls) (site_lines_are n f (k + 1) count)

-- the lines of counts are those of the calls that were counted
pub lines_are : (shapes : List ShapeRow) (calls : List MadeCall) (rs : List RoutineParts)
    → counted_lines shapes rs (map (λ r. entry_count calls r) rs) (map (λ r. map (λ k. site_count calls r k) (range_with_len 0 (sites_of_blocks r.blocks))) rs)
    ≡ flat_map (trained_lines shapes calls) rs
lines_are shapes calls [] = refl
lines_are shapes calls (r ∷ rs) =
    let n : List ℕ = name_at shapes r.pid in
    let count : ℕ = sites_of_blocks r.blocks in
    let counts : List ℕ = map (λ k. site_count calls r k) (range_with_len 0 count) in
    ap (λ (ls : List Line). Entry n (entered n (entry_count calls r)) ∷ (site_lines_from n 0 counts ++ ls)) (lines_are shapes calls rs)
    ∙ ap (λ (ls : List Line). Entry n (entered n (entry_count calls r)) ∷ (ls ++ flat_map (trained_lines shapes calls) rs))
    (site_lines_are n (λ k. site_count calls r k) 0 count)

-- a routine has no more call sites than instructions
sites_fit : (is : List Instr) → sites_of is ≤ length is
sites_fit [] = omega arith
sites_fit (i ∷ is) = let one = site_fits i in let rest = sites_fit is in omega arith
  where
    site_fits : (j : Instr) → sites_in j ≤ 1
    site_fits (Const d w) = omega arith
    site_fits (Move d s) = omega arith
    site_fits (Conv d t s) = omega arith
    site_fits (Bin o d a b) = omega arith
    site_fits (Get d g) = omega arith
    site_fits (Set g s) = omega arith
    site_fits (GetX d g x) = omega arith
    site_fits (SetX g x s) = omega arith
    site_fits (GetA d a x) = omega arith
    site_fits (SetA a x s) = omega arith
    site_fits (Clear r c a m) = omega arith
    site_fits Turn = omega arith
    site_fits (Call dest p count args) = omega arith
    site_fits (GetChar d) = omega arith
    site_fits (PutChar d s) = omega arith

pub sites_within : (bs : List Block) → sites_of_blocks bs ≤ blocks_size bs
sites_within [] = omega arith
sites_within (b ∷ bs) =
    let here = sites_fit b.instrs in
    let rest = sites_within bs in
    let sum : blocks_size (b ∷ bs) ≡ block_size b + blocks_size bs = sum_by-cons block_size b bs in
    omega arith

-- the counts of a routine's call sites are as many as these
pub sites_at : (rs : List RoutineParts) (ss : List (List ℕ)) (i : ℕ) (r : RoutineParts) (s : List ℕ) → map length ss ≡ map (λ q. sites_of_blocks q.blocks) rs
    → i < length rs
    → r ≡ get_or rs i r → s ≡ get_or ss i s → length s ≡ sites_of_blocks r.blocks
sites_at [] ss i r s same lt read got = absurd (omega arith)
sites_at (q ∷ rs) [] i r s same lt read got = absurd cc
sites_at (q ∷ rs) (t ∷ ss) zero r s same lt read got =
    let heads : length t ≡ sites_of_blocks q.blocks = cc in
    ap (λ (xs : List ℕ). length xs) got ∙ heads ∙ ap (λ (p : RoutineParts). sites_of_blocks p.blocks) (sym read)
sites_at (q ∷ rs) (t ∷ ss) (suc i) r s same lt read got =
    let tails : map length ss ≡ map (λ p. sites_of_blocks p.blocks) rs = cc in sites_at rs ss i r s tails (omega arith) read got

same_lengths : {X Y : Type 0} (f : X → ℕ) (g : Y → ℕ) (xs : List X) (ys : List Y) → map f xs ≡ map g ys → length xs ≡ length ys
same_lengths f g xs ys same = sym (length-map xs f) ∙ ap (λ (ns : List ℕ). length ns) same ∙ length-map ys g

-- as many rows of counts of call sites as routines
pub as_many : (rs : List RoutineParts) (ss : List (List ℕ)) → map length ss ≡ map (λ q. sites_of_blocks q.blocks) rs → length ss ≡ length rs
as_many rs ss same = same_lengths (λ (s : List ℕ). length s) (λ (q : RoutineParts). sites_of_blocks q.blocks) ss rs same

-- what was put out of a profile's text
pub puts : (names : Names) (before after : Option (List ℕ)) (r : Result (Unit {0}) PrintFault) (text bytes : List ℕ) (p : Profiled)
    → TakesAll before after r bytes → bytes ≡ text
    → IsWritten text p → p ≡ Some names → IfErr r (λ f. f ≡ print_fault.Output) → PutsProfile names before after r
puts names before after (Ok u) text bytes p took same written is none =
    record { text = text; written = subst (IsWritten text) is written; gained = subst (Appends before after) same took }
puts names before after (Err print_fault.Output) text bytes p took same written is none = (
  took.0,
  record {
    text = text;
    written = subst (IsWritten text) is written;
    gained = subst (λ (bs : List ℕ). Appends before after (take took.0 bs)) same
        took.1;
  },
)
puts names before after (Err print_fault.Memory) text bytes p took same written is none = absurd cc
