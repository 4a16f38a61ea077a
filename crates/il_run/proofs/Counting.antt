-- One call more is counted where it belongs.
use Rattle.std.proofs.Common.{◌≡◌, ℕ, zero, suc, ◌+◌, ◌<◌, ◌≤◌, List, [], ◌∷◌, length, map, take, get_or, Bool, true, false, refl, ap, subst, sym, ◌∙◌}
use Rattle.std.proofs.Common.{arith, inl, inr, eq-eqb, ne_eqb, length-set, get_or-set_same, get_or-set_other, zero-add}
use Rattle.std.specs.Prelude.{◌&&◌, nat_eq, replicate, slice_set, if◌then◌else◌, Option, Some, None, IfSome}
use Rattle.std.specs.List.{range_with_len}
use Rattle.std.proofs.lemmas.Bool.{cases_eq}
use Rattle.std.proofs.lemmas.Option.{none-some, same_Some}
use Rattle.std.proofs.lemmas.List.{ext_get_or, get_or-map, length-map}
use Rattle.std.proofs.lemmas.List.FromFn.{get_or-map-range_with_len, length-map-range_with_len}
use mathlib.Core.Path.{fun_ext}
use Rattle.il_core.specs.declared.instr.Block.{Block}
use Rattle.il_core.specs.declared.instr.Instr.{Instr}
use Rattle.il_core.specs.declared.program.IlProgram.{IlProgram}
use Rattle.il_core.specs.Routine.{RoutineParts}
use Rattle.il_core.specs.Shapes.{IsRising, IsRisingFrom}
use Rattle.il_core.specs.Valid.{IsProgram}
use Rattle.il_core.specs.Meaning.{MadeCall, sites_of}
use Rattle.il_run.specs.declared.counts.Counts.{Counts}
use Rattle.il_run.specs.declared.counter.Counter.{Counter}
use Rattle.il_run.specs.Counts.{capped, how_many, entry_count, site_count, sites_of_blocks, counts_of, no_counts, raised, counted, HasShape, IsCounter}
use Rattle.il_run.specs.Counts.{Counted, CountsMore, StillCounts}
use Rattle.il_core.specs.Places.{sites_before}
use Rattle.il_run.specs.Machine.{routine_in, block_in, site_at, IsSite}
use Rattle.il_core.proofs.Places.{sites_take}
use Rattle.il_core.proofs.Found.{rising_at, rising_from_rising}

capped_more : (n m : ℕ) → m ≡ 1 + n → capped (capped n + 1) ≡ capped m
capped_more n m e = omega arith

test_no : (test : MadeCall → Bool) (c : MadeCall) (calls : List MadeCall) → test c ≡ false → how_many test (c ∷ calls) ≡ how_many test calls
test_no test c calls e = ap (λ (b : Bool). (if b then 1 else 0) + how_many test calls) e ∙ zero-add (how_many test calls)

test_yes : (test : MadeCall → Bool) (c : MadeCall) (calls : List MadeCall) → test c ≡ true → how_many test (c ∷ calls) ≡ 1 + how_many test calls
test_yes test c calls e = ap (λ (b : Bool). (if b then 1 else 0) + how_many test calls) e

module _ (calls : List MadeCall) (c : MadeCall) where
  abbrev row : List MadeCall → RoutineParts → List ℕ
  row cs r = map (λ k. site_count cs r k) (range_with_len 0 (sites_of_blocks r.blocks))

  -- the routine that is called, and the others
  entry_one : (r : RoutineParts) → c.callee ≡ r.pid → capped (entry_count calls r + 1) ≡ entry_count (c ∷ calls) r
  entry_one r e = capped_more _ _ (test_yes (λ d. nat_eq d.callee r.pid) c calls (eq-eqb c.callee r.pid e))

  entry_same : (r : RoutineParts) → (c.callee ≡ r.pid → ⊥) → entry_count (c ∷ calls) r ≡ entry_count calls r
  entry_same r ne = ap capped (test_no (λ d. nat_eq d.callee r.pid) c calls (ne_eqb c.callee r.pid ne))

  -- the site that calls, and the others
  site_one : (r : RoutineParts) (k : ℕ) → c.caller ≡ r.pid → c.site ≡ k → capped (site_count calls r k + 1) ≡ site_count (c ∷ calls) r k
  site_one r k e s = capped_more _ _ (test_yes (λ d. nat_eq d.caller r.pid && nat_eq d.site k) c calls
      (ap (λ (b : Bool). b && nat_eq c.site k) (eq-eqb c.caller r.pid e) ∙ eq-eqb c.site k s))

  and_no : (b : Bool) → (b && false) ≡ false
  and_no true = refl
  and_no false = refl

  site_same : (r : RoutineParts) (k : ℕ) → (c.caller ≡ r.pid → c.site ≡ k → ⊥) → site_count (c ∷ calls) r k ≡ site_count calls r k
  site_same r k ne = ap capped (test_no (λ d. nat_eq d.caller r.pid && nat_eq d.site k) c calls (elim (cases_eq c.caller r.pid) [
    | inl e ↦ ap (λ (b : Bool). nat_eq c.caller r.pid && b) (ne_eqb c.site k (ne e)) ∙ and_no (nat_eq c.caller r.pid)
    | inr other ↦ ap (λ (b : Bool). b && nat_eq c.site k) (ne_eqb c.caller r.pid other)
  ]))

  row_same : (r : RoutineParts) → (c.caller ≡ r.pid → ⊥) → row (c ∷ calls) r ≡ row calls r
  row_same r ne = ap (λ (f : ℕ → ℕ). map f (range_with_len 0 (sites_of_blocks r.blocks))) (fun_ext (λ k. site_same r k (λ e s. ne e)))

  row_at : (cs : List MadeCall) (r : RoutineParts) (i : ℕ) → i < sites_of_blocks r.blocks → get_or (row cs r) i 0 ≡ site_count cs r i
  row_at cs r i lt = get_or-map-range_with_len (λ k. site_count cs r k) 0 (sites_of_blocks r.blocks) i i 0 lt (zero-add i)

  row_length : (cs : List MadeCall) (r : RoutineParts) → length (row cs r) ≡ sites_of_blocks r.blocks
  row_length cs r = length-map-range_with_len (λ k. site_count cs r k) 0 (sites_of_blocks r.blocks)

  row_more : (r : RoutineParts) (k : ℕ) → c.caller ≡ r.pid → c.site ≡ k → k < sites_of_blocks r.blocks → raised (row calls r) k ≡ row (c ∷ calls) r
  row_more r k e s lt = ext_get_or 0 (raised (row calls r) k) (row (c ∷ calls) r)
      (length-set (row calls r) k _ ∙ row_length calls r ∙ sym (row_length (c ∷ calls) r))
      (λ i l.
      let within : i < sites_of_blocks r.blocks = omega (arith, length-set (row calls r) k (capped (get_or (row calls r) k 0 + 1)), row_length calls r) in
      elim (cases_eq i k) [
        | inl same ↦ ap (λ (n : ℕ). get_or (raised (row calls r) k) n 0) same ∙ get_or-set_same (row calls r) k _ 0 (omega (arith, row_length calls r)) ∙ ap
            (λ (n : ℕ). capped (n + 1)) (row_at calls r k lt) ∙ site_one r k e s ∙ sym (row_at (c ∷ calls) r k lt) ∙ ap
            (λ (n : ℕ). get_or (row (c ∷ calls) r) n 0) (sym same)
        | inr other ↦ get_or-set_other (row calls r) k i _ 0 other ∙ row_at calls r i within ∙ sym (site_same r i (λ _ t. other (sym t ∙ s))) ∙ sym
            (row_at (c ∷ calls) r i within)
      ])

  -- routines of greater PIDs
  entries_above : (n : ℕ) (rs : List RoutineParts) → IsRisingFrom (λ r. r.pid) n rs → c.callee ≤ n
      → map (λ r. entry_count (c ∷ calls) r) rs ≡ map (λ r. entry_count calls r) rs
  entries_above n [] h le = refl
  entries_above n (r ∷ rs) h le =
      let lt : n < r.pid = h.0 in
      λ i. entry_same r (λ e. omega arith) i ∷ entries_above r.pid rs h.1 (omega arith) i

  entries_more : (rs : List RoutineParts) (j : ℕ) (d : RoutineParts) → IsRising (λ r. r.pid) rs → j < length rs → c.callee ≡ (get_or rs j d).pid
      → raised (map (λ r. entry_count calls r) rs) j ≡ map (λ r. entry_count (c ∷ calls) r) rs
  entries_more [] j d h lt e = absurd (omega arith)
  entries_more (r ∷ rs) zero d h lt e = λ i. entry_one r e i ∷ sym (entries_above r.pid rs h (omega arith)) i
  entries_more (r ∷ rs) (suc j) d h lt e =
      let above = rising_at (λ (x : RoutineParts). x.pid) r.pid rs j d h (omega arith) in
      λ i. sym (entry_same r (λ s. omega (arith, above))) i ∷ entries_more rs j d (rising_from_rising (λ (x : RoutineParts). x.pid) r.pid rs h) (omega arith) e
      i

  rows_above : (n : ℕ) (rs : List RoutineParts) → IsRisingFrom (λ r. r.pid) n rs → c.caller ≤ n → map (λ r. row (c ∷ calls) r) rs ≡ map (λ r. row calls r) rs
  rows_above n [] h le = refl
  rows_above n (r ∷ rs) h le =
      let lt : n < r.pid = h.0 in
      λ i. row_same r (λ e. omega arith) i ∷ rows_above r.pid rs h.1 (omega arith) i

  rows_more : (rs : List RoutineParts) (j k : ℕ) (d : RoutineParts) → IsRising (λ r. r.pid) rs → j < length rs → c.caller ≡ (get_or rs j d).pid → c.site ≡ k
      → k < sites_of_blocks (get_or rs j d).blocks
      → slice_set (map (λ r. row calls r) rs) j (raised (get_or (map (λ r. row calls r) rs) j []) k) ≡ map (λ r. row (c ∷ calls) r) rs
  rows_more [] j k d h lt e s few = absurd (omega arith)
  rows_more (r ∷ rs) zero k d h lt e s few = λ i. row_more r k e s few i ∷ sym (rows_above r.pid rs h (omega arith)) i
  rows_more (r ∷ rs) (suc j) k d h lt e s few =
      let above = rising_at (λ (x : RoutineParts). x.pid) r.pid rs j d h (omega arith) in
      λ i. sym (row_same r (λ t. omega (arith, above))) i ∷ rows_more rs j k d (rising_from_rising (λ (x : RoutineParts). x.pid) r.pid rs h) (omega arith) e s
      few i

-- the counts of one call more
pub counted_more : (p : IlProgram) (calls : List MadeCall) (c : MadeCall) (i k j : ℕ) → IsProgram p → i < length p.routines → j < length p.routines
    → c.caller ≡ (routine_in p i).pid → c.site ≡ k → k < sites_of_blocks (routine_in p i).blocks → c.callee ≡ (routine_in p j).pid
    → counted (counts_of p calls) i k j ≡ counts_of p (c ∷ calls)
counted_more p calls c i k j valid lti ltj caller site few callee = λ x. record {
  entries = entries_more calls c p.routines j _ valid.routines ltj callee x;
  sites = rows_more calls c p.routines i k _ valid.routines lti caller site few x;
}

-- nothing was counted yet
none_yet : (rs : List RoutineParts) → replicate (length rs) 0 ≡ map (λ r. entry_count [] r) rs
none_yet [] = refl
none_yet (r ∷ rs) = λ i. 0 ∷ none_yet rs i

no_row : (r : RoutineParts) → replicate (sites_of_blocks r.blocks) 0 ≡ map (λ k. site_count [] r k) (range_with_len 0 (sites_of_blocks r.blocks))
no_row r = ext_get_or 0 _ _
    (Rattle.std.proofs.lemmas.List.length-replicate {A = ℕ} (sites_of_blocks r.blocks) 0 ∙ sym
    (length-map-range_with_len (λ k. site_count [] r k) 0 (sites_of_blocks r.blocks)))
    (λ i l.
    let lt : i < sites_of_blocks r.blocks = omega (arith, Rattle.std.proofs.lemmas.List.length-replicate {A = ℕ} (sites_of_blocks r.blocks) 0) in
    Rattle.std.proofs.lemmas.List.get_or-replicate (sites_of_blocks r.blocks) i 0 0 lt ∙ sym
    (get_or-map-range_with_len (λ k. site_count [] r k) 0 (sites_of_blocks r.blocks) i i 0 lt (zero-add i)))

no_rows : (rs : List RoutineParts)
    → map (λ r. replicate (sites_of_blocks r.blocks) 0) rs ≡ map (λ r. map (λ k. site_count [] r k) (range_with_len 0 (sites_of_blocks r.blocks))) rs
no_rows [] = refl
no_rows (r ∷ rs) = λ i. no_row r i ∷ no_rows rs i

pub none_counted : (p : IlProgram) → no_counts p ≡ counts_of p []
none_counted p = λ i. record { entries = none_yet p.routines i; sites = no_rows p.routines i }

-- the shape of counts
lengths_zero : (rs : List RoutineParts)
    → map length (map (λ (r : RoutineParts). replicate {A = ℕ} (sites_of_blocks r.blocks) 0) rs) ≡ map (λ r. sites_of_blocks r.blocks) rs
lengths_zero [] = refl
lengths_zero (r ∷ rs) = λ i. Rattle.std.proofs.lemmas.List.length-replicate {A = ℕ} (sites_of_blocks r.blocks) 0 i ∷ lengths_zero rs i

pub shape_new : (p : IlProgram) (c : Counts) → c ≡ no_counts p → HasShape p c
shape_new p c e = subst (λ (x : Counts). HasShape p x) (sym e)
    (record { entries = Rattle.std.proofs.lemmas.List.length-replicate {A = ℕ} (length p.routines) 0; sites = lengths_zero p.routines })

lengths_set : (xs : List (List ℕ)) (i : ℕ) (ys : List ℕ) → length ys ≡ length (get_or xs i []) → map length (slice_set xs i ys) ≡ map length xs
lengths_set [] i ys e = refl
lengths_set (x ∷ xs) zero ys e = λ j. e j ∷ map length xs
lengths_set (x ∷ xs) (suc i) ys e = λ j. length x ∷ lengths_set xs i ys e j

pub shape_counted : (p : IlProgram) (c : Counts) (i k j : ℕ) → HasShape p c → HasShape p (counted c i k j)
shape_counted p c i k j h = record {
  entries = length-set c.entries j _ ∙ h.entries;
  sites = lengths_set c.sites i _ (length-set (get_or c.sites i []) k _) ∙ h.sites;
}

pub sites_there : (p : IlProgram) (c : Counts) → HasShape p c → length c.sites ≡ length p.routines
sites_there p c h = sym (length-map c.sites length) ∙ ap length h.sites ∙ length-map p.routines (λ (r : RoutineParts). sites_of_blocks r.blocks)

pub row_there : (p : IlProgram) (c : Counts) (i : ℕ) (row : List ℕ) → HasShape p c → i < length p.routines → row ≡ get_or c.sites i row
    → length row ≡ sites_of_blocks (routine_in p i).blocks
row_there p c i row h lt e =
    ap length e ∙ sym (get_or-map length c.sites i row 0 (omega (arith, sites_there p c h))) ∙ ap (λ (xs : List ℕ). get_or xs i 0) h.sites
    ∙ get_or-map (λ (r : RoutineParts). sites_of_blocks r.blocks) p.routines i _ 0 lt

-- a site is one of its routine's
sites_few : (is : List Instr) (j : ℕ) → sites_of (take j is) ≤ sites_of is
sites_few [] zero = omega arith
sites_few [] (suc j) = omega arith
sites_few (i ∷ is) zero = omega arith
sites_few (i ∷ is) (suc j) = let more = sites_few is j in omega (arith, more)

before_within : (xs : List Block) (b k : ℕ) (d : Block) → b < length xs → sites_before xs b k + sites_of (get_or xs b d).instrs ≤ k + sites_of_blocks xs
before_within [] b k d lt = absurd (omega arith)
before_within (x ∷ xs) zero k d lt = omega arith
before_within (x ∷ xs) (suc b) k d lt = let more = before_within xs b (sites_of x.instrs + k) d (omega arith) in omega (arith, more)

pub site_within : (p : IlProgram) (i b j : ℕ) → IsSite p i b j → site_at (routine_in p i) b j < sites_of_blocks (routine_in p i).blocks
site_within p i b j s =
    omega (
      arith,
      s.one,
      sites_take (block_in (routine_in p i) b).instrs j s.call s.is,
      sites_few (block_in (routine_in p i) b).instrs (suc j),
      before_within
          (routine_in p i).blocks b 0 (record { instrs = []; end = Rattle.il_core.specs.declared.instr.End.TheVariants.Exit 0 }) s.in_routine,
    )

-- nothing was counted in a step
pub counts_none : (p : IlProgram) (o : Option Counter) → IfSome o (λ c. IsCounter p c) → CountsMore p o o []
counts_none p None h = tt
counts_none p (Some c) h = record { counter = h; counts = λ calls e. e }

pub counts_still : (p : IlProgram) (old new : Option Counter) (made : List MadeCall) → CountsMore p old new made → StillCounts p old new
counts_still p None None made h = tt
counts_still p None (Some new) made h = absurd h
counts_still p (Some old) None made h = absurd h
counts_still p (Some old) (Some new) made h = h.counter

pub still_first : (p : IlProgram) (o : Option Counter) → IfSome o (λ c. IsCounter p c) → StillCounts p o o
still_first p None h = tt
still_first p (Some c) h = h

pub still_counter : (p : IlProgram) (old new : Option Counter) → IfSome old (λ c. IsCounter p c) → StillCounts p old new → IfSome new (λ c. IsCounter p c)
still_counter p None None h s = tt
still_counter p None (Some new) h s = absurd s
still_counter p (Some old) None h s = absurd s
still_counter p (Some old) (Some new) h s = s

pub still_more : (p : IlProgram) (a b c : Option Counter) → StillCounts p a b → StillCounts p b c → StillCounts p a c
still_more p None None c h s = s
still_more p None (Some y) c h s = absurd h
still_more p (Some x) None c h s = absurd h
still_more p (Some x) (Some y) None h s = absurd s
still_more p (Some x) (Some y) (Some z) h s = s

pub counts_some : (p : IlProgram) (o : Option Counter) (old new : Counter) (made : List MadeCall) → o ≡ Some old → Counted p old new made
    → CountsMore p o (Some new) made
counts_some p None old new made e h = absurd (none-some old e)
counts_some p (Some x) old new made e h = subst (λ (c : Counter). Counted p c new made) (sym (same_Some x old e)) h
