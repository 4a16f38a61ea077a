-- Marked blocks kept and renumbered.
use Rattle.std.proofs.lemmas.List.Sums.{sum_by-cons}
use Rattle.std.proofs.Common.{◌≡◌, ℕ, ◌^◌, zero, suc, ◌+◌, ◌<◌, ◌≤◌, List, [], ◌∷◌, ◌++◌, get_or, set, drop, length, map, Bool, true, false, refl, ap}
use Rattle.std.proofs.Common.{subst, sym, ◌∙◌, arith, inl, inr, append_assoc, length-set, slice_get}
use Rattle.std.specs.Prelude.{Some, if◌then◌else◌}
use Rattle.std.specs.List.{AllByRecursion}
use Rattle.std.proofs.lemmas.List.{drop_all, drop-set-lt, append-nil, get_or_push, get_or_append_left, length_push, ext_get_or}
use Rattle.std.proofs.lemmas.Bool.{cases_lt, false≢true}
use Rattle.il_core.specs.declared.instr.Block.{Block}
use Rattle.il_core.specs.declared.instr.End.{End}
use Rattle.il_core.specs.declared.instr.End.TheVariants as ends
use Rattle.il_core.specs.declared.shape.ShapeRow.{ShapeRow}
use Rattle.il_core.specs.Routine.{RoutineParts}
use Rattle.il_core.specs.Valid.{IsValid}
use Rattle.il_core.specs.Size.{block_size, blocks_size}
use Rattle.il_core.specs.Operands.{targets, retargeted, retargeted_block}
use Rattle.il_laws.specs.Edges.{one_if}
use Rattle.il_laws.specs.FlowLaws.{IsClosedSet}
use Rattle.il_laws.specs.Renumber.{place_of, kept, renumbered}
use Rattle.il_laws.specs.Unreachable.{drop_unreachable, goes_to, grown_from, grown, rounds, first_marked, reachable}
use Rattle.il_laws.proofs.FlowLaws.{reachable_is_least}
use Rattle.il_laws.proofs.Sound.{Targets, valid_sound}
use Rattle.const_prop.specs.Tables.{IsValidRoutine}
use Rattle.list_laws.proofs.Elements.{drop_read, all_drop}
use Rattle.const_prop.proofs.BlockSteps.{read_rest}
use Rattle.cleanup.specs.Marks.{IsClosed, AreLeast, EndsName, NamesBlocks, ArePlaces}

-- ---- places

pub place_zero : (ms : List Bool) → place_of ms 0 ≡ 0
place_zero [] = refl
place_zero (m ∷ ms) = refl

by_suc : (ms : List Bool) (k : ℕ) (m : Bool) → k < length ms → m ≡ get_or ms k m → place_of ms (suc k) ≡ place_of ms k + one_if m
by_suc [] k m lt e = absurd (omega arith)
by_suc (true ∷ ms) zero m lt e = let z = place_zero ms in let o : one_if m ≡ 1 = ap one_if e in omega arith
by_suc (false ∷ ms) zero m lt e = let z = place_zero ms in let o : one_if m ≡ 0 = ap one_if e in omega arith
by_suc (true ∷ ms) (suc k) m lt e = let h = by_suc ms k m (omega arith) e in omega arith
by_suc (false ∷ ms) (suc k) m lt e = by_suc ms k m (omega arith) e

pub place_next : (ms : List Bool) (k : ℕ) (m : Bool) → k < length ms → m ≡ get_or ms k m → place_of ms (k + 1) ≡ place_of ms k + one_if m
place_next ms k m lt e = let next : k + 1 ≡ suc k = omega arith in ap (place_of ms) next ∙ by_suc ms k m lt e

pub place_few : (ms : List Bool) (t : ℕ) → place_of ms t ≤ t
place_few [] t = omega arith
place_few (m ∷ ms) zero = omega arith
place_few (true ∷ ms) (suc t) = let h = place_few ms t in omega arith
place_few (false ∷ ms) (suc t) = let h = place_few ms t in omega arith

-- the places of the first k blocks
pub record Placing (ms : List Bool) (k n : ℕ) (ps : List ℕ) : Type 0 where
  pub next : n ≡ place_of ms k
  pub size : length ps ≡ k
  pub at : (t : ℕ) → t < k → get_or ps t 0 ≡ place_of ms t

pub placing_more : (ms : List Bool) (k n n1 : ℕ) (ps qs : List ℕ) (m : Bool) → k < length ms → m ≡ get_or ms k m → Placing ms k n ps → qs ≡ ps ++ n ∷ []
    → n1 ≡ n + one_if m → Placing ms (k + 1) n1 qs
placing_more ms k n n1 ps qs m lt read p push more =
    record {
      next = more ∙ ap (λ (j : ℕ). j + one_if m) p.next ∙ sym (place_next ms k m lt read);
      size = ap length push ∙ length_push ps n ∙ ap (λ (j : ℕ). j + 1) p.size;
      at = λ t less. ap (λ (rs : List ℕ). get_or rs t 0) push ∙ elim (cases_lt t k) [
        | inl before ↦ (let size = p.size in get_or_append_left ps (n ∷ []) 0 t (omega arith) ∙ p.at t before)
        | inr ge ↦ (let size = p.size in let here : k ≡ t = omega arith in get_or_push ps n 0 t (p.size ∙ here) ∙ p.next ∙ ap (place_of ms) here)
      ];
    }

-- ---- blocks that are kept

retargeted_same : (ms : List Bool) (ps : List ℕ) (x : Block) → ArePlaces ms ps → NamesBlocks (length ms) x.end
    → retargeted_block (λ t. get_or ps t 0) x ≡ retargeted_block (place_of ms) x
retargeted_same ms ps x a named = ap (λ (e : End). let y : Block = record { instrs = x.instrs; end = e } in y) (same x.end named)
  where
    same : (e : End) → NamesBlocks (length ms) e → retargeted (λ t. get_or ps t 0) e ≡ retargeted (place_of ms) e
    same (ends.Jump t) h = ap ends.Jump (a.at t h.0)
    same (ends.Branch r t u) h =
        ap (λ (v : ℕ). ends.Branch r v (get_or ps u 0)) (a.at t h.0) ∙ ap (λ (v : ℕ). ends.Branch r (place_of ms t) v) (a.at u h.1.0)
    same (ends.Loop t) h = ap ends.Loop (a.at t h.0)
    same (ends.Return r) h = refl
    same (ends.Exit r) h = refl

abbrev kept_if : Bool → Block → List Block
kept_if m y = if m then y ∷ [] else []

kept_next : (f : Block → Block) (ms : List Bool) (bs : List Block) (m : Bool) (x : Block)
    → map f (kept (m ∷ ms) (x ∷ bs)) ≡ kept_if m (f x) ++ map f (kept ms bs)
kept_next f ms bs true x = refl
kept_next f ms bs false x = refl

-- what is kept of the first b blocks, and what will be, are the renumbered blocks
pub record Keeping (ms : List Bool) (bs : List Block) (b : ℕ) (now out : List Block) : Type 0 where
  pub count : length now ≡ length bs
  pub rest : drop b now ≡ drop b bs
  pub whole : out ++ map (retargeted_block (place_of ms)) (kept (drop b ms) (drop b bs)) ≡ renumbered ms bs

ends_at : (n : ℕ) (bs : List Block) (b : ℕ) (x : Block) → EndsName n bs → drop b bs ≡ x ∷ drop (b + 1) bs → NamesBlocks n x.end
ends_at n bs b x named e =
    let all : EndsName n (x ∷ drop (b + 1) bs) = subst (EndsName n) e (all_drop (λ (y : Block). NamesBlocks n y.end) b bs named) in all.0

module _ (ms : List Bool) (bs : List Block) (b : ℕ) (d : Block) (now out : List Block) (ps : List ℕ) (size : length ms ≡ length bs)
    (named : EndsName (length bs) bs) (lt : b < length now) (read : d ≡ get_or now b d) (k : Keeping ms bs b now out) where
  abbrev x : Block
  x = get_or now b d

  here : drop b bs ≡ x ∷ drop (b + 1) bs
  here = read_rest bs now b x k.count lt k.rest (ap (λ (y : Block). get_or now b y) read)

  pub keep_named : (n : ℕ) → n ≡ length ms → NamesBlocks n x.end
  keep_named n e = subst (λ (m : ℕ). NamesBlocks m x.end) (sym (e ∙ size)) (ends_at (length bs) bs b x named here)

  pub keep_more : (m : Bool) (y : Block) (more : List Block) → m ≡ get_or ms b m → ArePlaces ms ps
      → more ≡ out ++ (if m then retargeted_block (λ t. get_or ps t 0) x ∷ [] else []) → Keeping ms bs (b + 1) (set now b y) more
  keep_more m y more mark a is =
      let count = k.count in
      let f = retargeted_block (place_of ms) in
      let tail : List Block = map f (kept (drop (b + 1) ms) (drop (b + 1) bs)) in
      let marks : drop b ms ≡ m ∷ drop (b + 1) ms = drop_read ms b m (omega arith) mark in
      let same = retargeted_same ms ps x a (keep_named (length ms) refl) in
      let rest_more : drop (b + 1) now ≡ drop (b + 1) bs =
      (let both : x ∷ drop (b + 1) now ≡ x ∷ drop (b + 1) bs = sym (drop_read now b x lt (ap (λ (z : Block). get_or now b z) read)) ∙ k.rest ∙ here in cc) in
      record {
        count = length-set now b y ∙ k.count;
        rest = drop-set-lt (b + 1) now b y (omega arith) ∙ rest_more;
        whole = ap (λ (zs : List Block). zs ++ tail) is
            ∙ ap (λ (z : Block). (out ++ kept_if m z) ++ tail) same
            ∙ append_assoc out (kept_if m (f x)) tail
            ∙ ap (λ (zs : List Block). out ++ zs) (sym (kept_next f (drop (b + 1) ms) (drop (b + 1) bs) m x))
            ∙ ap (λ (zs : List Block). out ++ map f (kept (m ∷ drop (b + 1) ms) zs)) (sym here)
            ∙ ap (λ (ns : List Bool). out ++ map f (kept ns (drop b bs))) (sym marks) ∙ k.whole;
      }

kept_none : (ms : List Bool) → kept ms [] ≡ []
kept_none [] = refl
kept_none (m ∷ ms) = refl

pub keep_done : (ms : List Bool) (bs : List Block) (b : ℕ) (now out : List Block) → length now ≤ b → Keeping ms bs b now out → out ≡ renumbered ms bs
keep_done ms bs b now out past k =
    let count = k.count in
    sym (append-nil out) ∙ ap (λ (zs : List Block). out ++ map (retargeted_block (place_of ms)) zs) (sym (kept_none (drop b ms)))
    ∙ ap (λ (zs : List Block). out ++ map (retargeted_block (place_of ms)) (kept (drop b ms) zs)) (sym (drop_all b bs (omega arith))) ∙ k.whole

-- ---- the least closed set is what is reachable

grown_length : (gone : ℕ → Bool) (b : ℕ) (ms : List Bool) → length (grown_from gone b ms) ≡ length ms
grown_length gone b [] = refl
grown_length gone b (m ∷ ms) = ap suc (grown_length gone (suc b) ms)

rounds_length : (bs : List Block) (n : ℕ) (ms : List Bool) → length (rounds bs n ms) ≡ length ms
rounds_length bs zero ms = refl
rounds_length bs (suc n) ms = rounds_length bs n (grown bs ms) ∙ grown_length (goes_to ms bs) 0 ms

map_length : (bs : List Block) → length (map (λ (y : Block). false) bs) ≡ length bs
map_length [] = refl
map_length (y ∷ bs) = ap suc (map_length bs)

first_length : (bs : List Block) → length (first_marked bs) ≡ length bs
first_length [] = refl
first_length (y ∷ bs) = ap suc (map_length bs)

to_or : (ms : List Bool) (t : ℕ) → slice_get ms t ≡ Some true → get_or ms t false ≡ true
to_or [] t e = absurd cc
to_or (m ∷ ms) zero e = cc
to_or (m ∷ ms) (suc t) e = to_or ms t e

to_get : (ms : List Bool) (t : ℕ) → get_or ms t false ≡ true → slice_get ms t ≡ Some true
to_get [] t e = absurd (false≢true e)
to_get (m ∷ ms) zero e = ap Some e
to_get (m ∷ ms) (suc t) e = to_get ms t e

all_by : (P Q : ℕ → Type 0) → ((t : ℕ) → P t → Q t) → (ts : List ℕ) → AllByRecursion P ts → AllByRecursion Q ts
all_by P Q f [] h = tt
all_by P Q f (t ∷ ts) h = (f t h.0, all_by P Q f ts h.1)

same_bools : (a b : Bool) → (a ≡ true → b ≡ true) → (b ≡ true → a ≡ true) → a ≡ b
same_bools true b f g = sym (f refl)
same_bools false true f g = g refl
same_bools false false f g = refl

pub least_is : (rows : List ShapeRow) (r : RoutineParts) (ms : List Bool) → IsValid rows r → AreLeast r.blocks ms → ms ≡ reachable r.blocks
least_is rows r ms valid l =
    let bs = r.blocks in
    let laws = reachable_is_least rows r valid in
    let size = rounds_length bs (length bs) (first_marked bs) ∙ first_length bs in
    let mine : IsClosedSet r (λ t. get_or ms t false ≡ true) = record { first = l.closed.first; goes = l.closed.goes } in
    let theirs : IsClosed bs (λ t. get_or (reachable bs) t false) =
    record {
      first = to_or (reachable bs) 0 laws.0.first;
      goes = λ t y e h. all_by (λ u. slice_get (reachable bs) u ≡ Some true) (λ u. get_or (reachable bs) u false ≡ true) (to_or (reachable bs)) (targets y.end)
          (laws.0.goes t y e (to_get (reachable bs) t h));
    } in
    ext_get_or false ms (reachable bs) (l.size ∙ sym size)
    (λ t lt. same_bools (get_or ms t false) (get_or (reachable bs) t false) (l.least (λ u. get_or (reachable bs) u false) theirs t)
    (λ h. laws.1 (λ u. get_or ms u false) mine t (to_get (reachable bs) t h)))

-- ---- whole routines

pub blocks_few : (xs : List Block) → length xs ≤ blocks_size xs
blocks_few [] = omega arith
blocks_few (x ∷ xs) = let h = blocks_few xs in let e = sum_by-cons block_size x xs in omega arith

pub all_from : (P : Block → Type 0) (xs : List Block) → ((i : ℕ) (y : Block) → slice_get xs i ≡ Some y → P y) → AllByRecursion P xs
all_from P [] h = tt
all_from P (x ∷ xs) h = (h 0 x refl, all_from P xs (λ i y e. h (suc i) y e))

pub names_end : (n : ℕ) (e : End) → Targets (λ u. u < n) e → NamesBlocks n e
names_end n (ends.Jump t) h = (h, tt)
names_end n (ends.Branch r t u) h = (h.0, (h.1, tt))
names_end n (ends.Loop t) h = (h, tt)
names_end n (ends.Return r) h = tt
names_end n (ends.Exit r) h = tt

pub valid_names : (r : RoutineParts) → IsValidRoutine r → EndsName (length r.blocks) r.blocks
valid_names r h =
    all_from (λ (y : Block). NamesBlocks (length r.blocks) y.end) r.blocks
    (λ i y e. names_end (length r.blocks) y.end ((valid_sound h.0 r h.1).inside i y e))

pub names_as : (r : RoutineParts) (items was : List Block) → IsValidRoutine r → was ≡ items → items ≡ r.blocks → EndsName (length was) was
names_as r items was h same is = subst (λ (bs : List Block). EndsName (length bs) bs) (sym (same ∙ is)) (valid_names r h)

pub some_as : (r : RoutineParts) (items was : List Block) → IsValidRoutine r → was ≡ items → items ≡ r.blocks → 0 < length was
some_as r items was h same is = subst (λ (bs : List Block). 0 < length bs) (sym (same ∙ is)) h.1.some_block

pub few_as : (r : RoutineParts) (items was : List Block) (ms : List Bool) → blocks_size r.blocks ≤ 2 ^ 16 → AreLeast was ms → was ≡ items → items ≡ r.blocks
    → length ms ≤ 2 ^ 16
few_as r items was ms less l same is =
    let size = l.size in
    let few = blocks_few was in
    let e = ap blocks_size (same ∙ is) in
    omega arith

pub size_as : (items was now : List Block) (ms : List Bool) → AreLeast was ms → was ≡ items → now ≡ items → length ms ≡ length now
size_as items was now ms l same same1 = l.size ∙ ap (λ (bs : List Block). length bs) (same ∙ sym same1)

pub dropped_is : (r : RoutineParts) (items was now out result : List Block) (ms : List Bool) → IsValidRoutine r → was ≡ items → items ≡ r.blocks
    → AreLeast was ms
    → now ≡ items → out ≡ renumbered ms now → result ≡ out → record r { blocks = result } ≡ drop_unreachable r
dropped_is r items was now out result ms h same is l same1 made last =
    let marks : ms ≡ reachable r.blocks = least_is h.0 r ms h.1 (subst (λ (bs : List Block). AreLeast bs ms) (same ∙ is) l) in
    ap (λ (bs : List Block). record r { blocks = bs })
    (last ∙ made ∙ ap (λ (ns : List Bool). renumbered ns now) marks ∙ ap (λ (bs : List Block). renumbered (reachable r.blocks) bs) (same1 ∙ is))
