-- What the code puts down of a routine is its summary.
use Rattle.std.proofs.Common.{◌≡◌, ℕ, zero, suc, ◌+◌, ◌^◌, ◌<◌, ◌≤◌, List, [], ◌∷◌, ◌++◌, get_or, length, map, Bool, false, refl, ap, sym, ◌∙◌, arith}
use Rattle.std.specs.Prelude.{◌||◌, Option, replicate, flat_map, sum, ⊤}
use Rattle.std.proofs.lemmas.List.{get_or-replicate, length-replicate, length-map}
use Rattle.std.proofs.lemmas.List.Sums.{sum_by-cons}
use Rattle.hlo_num.specs.declared.word.Word.{Word}
use Rattle.il_core.specs.declared.instr.Block.{Block}
use Rattle.il_core.specs.declared.instr.Instr.{Instr}
use Rattle.il_core.specs.declared.instr.Instr.TheVariants.{Const, Move, Conv, Bin, Get, Set, GetX, SetX, GetA, SetA, Clear, Turn, Call, GetChar, PutChar}
use Rattle.il_core.specs.Operands.{end_reads}
use Rattle.il_core.specs.Routine.{RoutineParts}
use Rattle.il_core.specs.Size.{block_size, blocks_size, size, charge}
use Rattle.il_laws.specs.Facts.{Facts, after, facts_at, looped}
use Rattle.il_laws.specs.Known.{KnownSite, site_of, known_in, known_from, known_sites, site_constants}
use Rattle.il_laws.specs.Live.{any_reads, read_in}
use Rattle.il_laws.specs.Splice.{value_returns}
use Rattle.plan_laws.specs.Summary as plan
use Rattle.const_prop.specs.Sites.{words_at, words_of}
use Rattle.const_prop.proofs.Marked.{Marking, marks_done}
use Rattle.call_graph.specs.declared.summary.Site.{Site}
use Rattle.call_graph.specs.Calls.{call_of, calls_in, with_known}
use Rattle.call_graph.specs.Summaries as seen

-- ---- parameters that are read

tests_are : (f : ℕ → Bool) (x n : ℕ) (ms : List Bool) → length ms ≡ n → ((i : ℕ) → i < n → get_or ms i false ≡ f (x + i)) → ms ≡ plan.tests f x n
tests_are f x zero [] size at = refl
tests_are f x (suc n) [] size at = absurd (omega arith)
tests_are f x zero (m ∷ ms) size at = absurd (omega arith)
tests_are f x (suc n) (m ∷ ms) size at =
    let here : x + 0 ≡ x = omega arith in
    ap (λ (k : Bool). k ∷ ms) (at 0 (omega arith) ∙ ap f here)
    ∙ ap (λ (ks : List Bool). f x ∷ ks)
    (tests_are f (suc x) n ms (omega arith) (λ i lt. at (suc i) (omega arith) ∙ (let there : x + suc i ≡ suc x + i = omega arith in ap f there)))

abbrev block_reads : Block → ℕ → Bool
block_reads b x = any_reads b.instrs x || end_reads b.end x

pub reads_are : (bs : List Block) (n k : ℕ) (ms : List Bool) → length bs ≤ k → Marking Block block_reads bs (replicate n false) k ms
    → ms ≡ plan.tests (read_in bs) 0 n
reads_are bs n k ms past m =
    let done = marks_done Block block_reads bs (replicate n false) k ms past m in
    let size = length-replicate n false in
    tests_are (read_in bs) 0 n ms (done.size ∙ size)
    (λ i lt. (let same : i ≡ 0 + i = omega arith in
    done.at i (omega arith) ∙ ap (λ (b : Bool). b || read_in bs i) (get_or-replicate n i false false lt) ∙ ap (read_in bs) same))

-- ---- calls

-- the same calls, one by one
abbrev SameCalls : List Site → List KnownSite → Type 0
SameCalls [] [] = ⊤
SameCalls [] (w ∷ ws) = ⊥
SameCalls (s ∷ ss) [] = ⊥
SameCalls (s ∷ ss) (w ∷ ws) = (s.callee ≡ w.callee) × (s.count ≡ w.count) × SameCalls ss ws

same_append : (ss ts : List Site) (ws vs : List KnownSite) → SameCalls ss ws → SameCalls ts vs → SameCalls (ss ++ ts) (ws ++ vs)
same_append [] ts [] vs h k = k
same_append [] ts (w ∷ ws) vs h k = absurd h
same_append (s ∷ ss) ts [] vs h k = absurd h
same_append (s ∷ ss) ts (w ∷ ws) vs h k = (h.0, h.1, same_append ss ts ws vs h.2 k)

same_call : (fs : Facts) (i : Instr) → SameCalls (call_of i) (site_of fs i)
same_call fs (Const d w) = tt
same_call fs (Move d s) = tt
same_call fs (Conv d t s) = tt
same_call fs (Bin o d a b) = tt
same_call fs (Get d g) = tt
same_call fs (Set g s) = tt
same_call fs (GetX d g i) = tt
same_call fs (SetX g i s) = tt
same_call fs (GetA d a i) = tt
same_call fs (SetA a i s) = tt
same_call fs (Clear r c a m) = tt
same_call fs Turn = tt
same_call fs (Call dest p count args) = (refl, refl, tt)
same_call fs (GetChar d) = tt
same_call fs (PutChar d s) = tt

same_instrs : (fs : Facts) (is : List Instr) → SameCalls (flat_map call_of is) (known_in fs is)
same_instrs fs [] = tt
same_instrs fs (i ∷ is) =
    same_append (call_of i) (flat_map call_of is) (site_of fs i) (known_in (after i fs) is) (same_call fs i) (same_instrs (after i fs) is)

same_blocks : (r : RoutineParts) (b : ℕ) (xs : List Block) → SameCalls (calls_in xs) (known_from r b xs)
same_blocks r b [] = tt
same_blocks r b (x ∷ xs) =
    same_append (flat_map call_of x.instrs) (calls_in xs) (known_in (facts_at r b) x.instrs) (known_from r (suc b) xs)
    (same_instrs (facts_at r b) x.instrs) (same_blocks r (suc b) xs)

same_length : (ss : List Site) (ws : List KnownSite) → SameCalls ss ws → length ss ≡ length ws
same_length [] [] h = refl
same_length [] (w ∷ ws) h = absurd h
same_length (s ∷ ss) [] h = absurd h
same_length (s ∷ ss) (w ∷ ws) h = ap suc (same_length ss ws h.2)

abbrev words : List KnownSite → List (List (Option ℕ))
words ws = map (λ (s : KnownSite). s.known) ws

pair_up : (ks : List (List (Option Word))) (ss : List Site) (ws : List KnownSite) → SameCalls ss ws → words_of ks ≡ words ws
    → map seen.site_of (with_known ks ss) ≡ ws
pair_up [] [] [] h e = refl
pair_up [] [] (w ∷ ws) h e = absurd h
pair_up [] (s ∷ ss) [] h e = absurd h
pair_up [] (s ∷ ss) (w ∷ ws) h e = absurd cc
pair_up (k ∷ ks) [] [] h e = refl
pair_up (k ∷ ks) [] (w ∷ ws) h e = absurd h
pair_up (k ∷ ks) (s ∷ ss) [] h e = absurd h
pair_up (k ∷ ks) (s ∷ ss) (w ∷ ws) h e =
    let first : words_at k ≡ w.known = cc in
    let rest : words_of ks ≡ words ws = cc in
    let site : KnownSite = record { callee = s.callee; count = s.count; known = words_at k } in
    let same : site ≡ w =
    ap (λ (n : ℕ). let t : KnownSite = record { callee = n; count = s.count; known = words_at k } in t) h.0
    ∙ ap (λ (n : ℕ). let t : KnownSite = record { callee = w.callee; count = n; known = words_at k } in t) h.1
    ∙ ap (λ (ns : List (Option ℕ)). let t : KnownSite = record { callee = w.callee; count = w.count; known = ns } in t) first in
    ap (λ (t : KnownSite). t ∷ map seen.site_of (with_known ks ss)) same ∙ ap (λ (ts : List KnownSite). w ∷ ts) (pair_up ks ss ws h.2 rest)

pub known_length : (r : RoutineParts) (bs : List Block) (ks : List (List (Option Word))) → bs ≡ r.blocks → words_of ks ≡ site_constants r
    → length ks ≡ length (calls_in bs)
known_length r bs ks is e =
    let here = same_length (calls_in r.blocks) (known_sites r) (same_blocks r 0 r.blocks) in
    sym (length-map ks words_at) ∙ ap (λ (ws : List (List (Option ℕ))). length ws) e ∙ length-map (known_sites r) (λ (s : KnownSite). s.known)
    ∙ sym here ∙ ap (λ (xs : List Block). length (calls_in xs)) (sym is)

pub sites_are : (r : RoutineParts) (bs : List Block) (ks : List (List (Option Word))) (out : List Site) → bs ≡ r.blocks → words_of ks ≡ site_constants r
    → out ≡ with_known ks (calls_in bs) → map seen.site_of out ≡ known_sites r
sites_are r bs ks out is e made =
    ap (map seen.site_of) (made ∙ ap (λ (xs : List Block). with_known ks (calls_in xs)) is)
    ∙ pair_up ks (calls_in r.blocks) (known_sites r) (same_blocks r 0 r.blocks) e

-- ---- the whole

blocks_few : (xs : List Block) → length xs ≤ blocks_size xs
blocks_few [] = omega arith
blocks_few (x ∷ xs) = let h = blocks_few xs in let e = sum_by-cons block_size x xs in omega arith

pub few_blocks : (r : RoutineParts) (bs : List Block) → bs ≡ r.blocks → size r ≤ 2 ^ 16 → length bs ≤ 2 ^ 16
few_blocks r bs is most = let e = ap (λ (xs : List Block). length xs) is in let few = blocks_few r.blocks in omega arith

pub made : (r : RoutineParts) (bs : List Block) (arrays : List ℕ) (sz ch rt ar el : ℕ) (rd : List Bool) (lp : Bool) (st : List KnownSite) → bs ≡ r.blocks
    → arrays ≡ r.arrays → sz ≡ size r → ch ≡ charge r → rd ≡ plan.tests (read_in bs) 0 r.params → rt ≡ value_returns bs → ar ≡ length r.arrays
    → el ≡ sum arrays → lp ≡ looped bs 0 → st ≡ known_sites r
    → record {
      pid = r.pid;
      size = sz;
      charge = ch;
      params = r.params;
      reads = rd;
      returns = rt;
      regs = r.regs;
      arrays = ar;
      elements = el;
      entry = r.entry;
      start_loop = lp;
      sites = st;
    }
    ≡ plan.summary r
made r bs arrays sz ch rt ar el rd lp st is are e1 e2 e3 e4 e5 e6 e7 e8 =
    let f3 : rd ≡ plan.tests (read_in r.blocks) 0 r.params = e3 ∙ ap (λ (xs : List Block). plan.tests (read_in xs) 0 r.params) is in
    let f4 : rt ≡ value_returns r.blocks = e4 ∙ ap value_returns is in
    let f6 : el ≡ sum r.arrays = e6 ∙ ap (λ (xs : List ℕ). sum xs) are in
    let f7 : lp ≡ looped r.blocks 0 = e7 ∙ ap (λ (xs : List Block). looped xs 0) is in
    cc
