-- Dead writes dropped, from the last instruction to the first, and from the last block to the first.
use Rattle.std.proofs.Common.{◌≡◌, ℕ, zero, suc, ◌+◌, ◌-◌, ◌*◌, ◌^◌, ◌<◌, ◌≤◌, List, [], ◌∷◌, ◌++◌, get_or, set, take, drop, length, Bool, true, false}
use Rattle.std.proofs.Common.{refl, ap, subst, sym, ◌∙◌, arith, inl, inr, append_assoc, slice_get}
use Rattle.std.specs.Prelude.{reverse, not, nat_eq, ◌||◌, Option, Some, None, if◌then◌else◌}
use Rattle.std.specs.List.{AllByRecursion}
use Rattle.std.proofs.Math.Nat.{mul-le-mul_right, mul_comm}
use Rattle.std.proofs.lemmas.Bool.{cases_eq, cases_lt}
use Rattle.std.proofs.lemmas.List.{reverse-append, drop-take, set_at, length-take-le, take_more, drop_more, get_or_append_left, get_or-take, append-nil}
use Rattle.std.proofs.lemmas.List.{take_all, drop_all, get_or_default, take_at}
use Rattle.std.proofs.lemmas.Slice.{take-put_mid_below, drop-put_mid}
use borrow.Rule.Slice.PartMut.{put_mid}
use mathlib.Core.Path.{fun_ext}
use Rattle.il_core.specs.declared.instr.Block.{Block}
use Rattle.il_core.specs.declared.instr.End.{End}
use Rattle.il_core.specs.declared.instr.End.TheVariants as ends
use Rattle.il_core.specs.declared.instr.Instr.{Instr}
use Rattle.il_core.specs.declared.instr.Instr.TheVariants.{Const, Move, Conv, Bin, Get, Set, GetX, SetX, GetA, SetA, Clear, Turn, Call, GetChar, PutChar}
use Rattle.il_core.specs.Operands.{end_source, jumps}
use Rattle.il_core.specs.Valid.{IsRegIfSome, IsValidEnd}
use Rattle.il_core.specs.Routine.{RoutineParts}
use Rattle.il_core.specs.Size.{blocks_size}
use Rattle.il_laws.specs.Live.{Live, is_dead, live_before, live_through, alive, read_in, live_at_end, live_at, alive_block, alive_blocks, drop_dead_writes}
use Rattle.il_laws.proofs.Places.{IsForward, AreForward}
use Rattle.il_laws.proofs.LiveStarts.{starts_at}
use Rattle.il_laws.proofs.Lists.{valid_block}
use Rattle.const_prop.specs.Tables.{NamesRegisters, AreNamed, IsValidRoutine}
use Rattle.list_laws.proofs.Elements.{drop_read}
use Rattle.const_prop.proofs.BlockSteps.{named_block}
use Rattle.cleanup.proofs.Folding.{end_block}
use Rattle.cleanup.proofs.Keeping.{blocks_few}
use Rattle.cleanup.specs.Bits.{has, row, live_behind, GoesForward, GoForward}
use Rattle.cleanup.specs.Ends.{ReadsRegister, EndsRead}

-- ---- instructions

pub through_last : (is : List Instr) (i : Instr) (live : Live) → live_through (is ++ i ∷ []) live ≡ live_through is (live_before i live)
through_last [] i live = refl
through_last (j ∷ is) i live = ap (λ (l : Live). λ x. live_before j l x) (through_last is i live)

kept_either : (k : Bool) (j : Instr) (xs ys : List Instr) → (if k then xs ++ ys else j ∷ (xs ++ ys)) ≡ (if k then xs else j ∷ xs) ++ ys
kept_either true j xs ys = refl
kept_either false j xs ys = refl

abbrev last_kept : Instr → Live → List Instr
last_kept i live = if is_dead i live then [] else i ∷ []

pub alive_last : (is : List Instr) (i : Instr) (live : Live) → alive (is ++ i ∷ []) live ≡ alive is (live_before i live) ++ last_kept i live
alive_last [] i live = refl
alive_last (j ∷ is) i live =
    ap (λ (l : Live). if is_dead j l then alive (is ++ i ∷ []) live else j ∷ alive (is ++ i ∷ []) live) (through_last is i live)
    ∙ ap (λ (js : List Instr). if is_dead j (live_through is (live_before i live)) then js else j ∷ js) (alive_last is i live)
    ∙ kept_either (is_dead j (live_through is (live_before i live))) j (alive is (live_before i live)) (last_kept i live)

pub all_front : {X : Type 0} (P : X → Type 0) (xs ys : List X) → AllByRecursion P (xs ++ ys) → AllByRecursion P xs
all_front P [] ys h = tt
all_front P (x ∷ xs) ys h = (h.0, all_front P xs ys h.1)

-- what is kept, and what will be
pub record Thinned (n : ℕ) (was : List Instr) (behind : Live) (is room : List Instr) (now : Live) : Type 0 where
  pub named : AllByRecursion (NamesRegisters n) is
  pub kept : (alive is now ++ reverse room) ≡ alive was behind
  pub live : (x : ℕ) → live_through is now x ≡ live_through was behind x

module _ (n : ℕ) (was : List Instr) (live : Live) (js is room : List Instr) (i : Instr) (now new : Live) (pop : js ≡ is ++ i ∷ [])
    (k : Thinned n was live js room now) (step : (x : ℕ) → new x ≡ live_before i now x) where
  same : new ≡ live_before i now
  same = fun_ext step

  named_rest : AllByRecursion (NamesRegisters n) is
  named_rest = all_front (NamesRegisters n) is (i ∷ []) (subst (AllByRecursion (NamesRegisters n)) pop k.named)

  live_rest : (x : ℕ) → live_through is new x ≡ live_through was live x
  live_rest x =
      ap (λ (l : Live). live_through is l x) same ∙ ap (λ (l : Live). l x) (sym (through_last is i now))
      ∙ ap (λ (ls : List Instr). live_through ls now x) (sym pop) ∙ k.live x

  rest_as : (tail : List Instr) → last_kept i now ≡ tail → (alive is new ++ (tail ++ reverse room)) ≡ alive was live
  rest_as tail e =
      ap (λ (l : Live). alive is l ++ (tail ++ reverse room)) same ∙ ap (λ (ts : List Instr). alive is (live_before i now) ++ (ts ++ reverse room)) (sym e)
      ∙ sym (append_assoc (alive is (live_before i now)) (last_kept i now) (reverse room))
      ∙ ap (λ (ls : List Instr). ls ++ reverse room) (sym (alive_last is i now))
      ∙ ap (λ (ls : List Instr). alive ls now ++ reverse room) (sym pop) ∙ k.kept

  pub keep_more : (more : List Instr) → more ≡ room ++ i ∷ [] → not (is_dead i now) ≡ true → Thinned n was live is more new
  keep_more more push kept =
      record {
        named = named_rest;
        kept = ap (λ (ls : List Instr). alive is new ++ reverse ls) push
            ∙ ap (λ (ls : List Instr). alive is new ++ ls) (reverse-append room (i ∷ []))
            ∙ rest_as (i ∷ []) (yes_kept (is_dead i now) kept);
        live = live_rest;
      }
    where
      yes_kept : (d : Bool) → not d ≡ true → (if d then [] else i ∷ []) ≡ i ∷ []
      yes_kept true e = absurd cc
      yes_kept false e = refl

  pub drop_more_dead : not (is_dead i now) ≡ false → Thinned n was live is room new
  drop_more_dead dead =
      record {
        named = named_rest;
        kept = rest_as [] (no_kept (is_dead i now) dead);
        live = live_rest;
      }
    where
      no_kept : (d : Bool) → not d ≡ false → (let e : List Instr = [] in if d then e else i ∷ e) ≡ []
      no_kept true e = refl
      no_kept false e = absurd cc

-- ---- rows

pub row_others : (ws vs : List ℕ) (b w t : ℕ) → length vs ≡ w → b * w + w ≤ length ws → (t ≡ b → ⊥)
    → row (put_mid (b * w) (b * w + w - b * w) ws vs) w t ≡ row ws w t
row_others ws vs b w t size room ne =
    let k : b * w + w - b * w ≡ w = omega arith in
    elim (cases_lt t b) [
      | inl less ↦ (let le : suc t * w ≤ b * w = mul-le-mul_right w less in
          let e : suc t * w ≡ t * w + w = omega arith in
          sym (drop-take (t * w) w (put_mid (b * w) (b * w + w - b * w) ws vs))
          ∙ ap (drop (t * w)) (take-put_mid_below (b * w) (b * w + w - b * w) ws vs (t * w + w) (omega arith) (omega arith))
          ∙ drop-take (t * w) w ws)
      | inr ge ↦ (let more : suc b ≤ t = omega arith in
          let le : suc b * w ≤ t * w = mul-le-mul_right w more in
          let e : suc b * w ≡ b * w + w = omega arith in
          ap (take w) (drop-put_mid (b * w) (b * w + w - b * w) ws vs (t * w) (omega arith) (omega arith) (omega arith)))
    ]

-- ---- registers that are named are among more

all_wide : {X : Type 0} (P Q : X → Type 0) → ((x : X) → P x → Q x) → (xs : List X) → AllByRecursion P xs → AllByRecursion Q xs
all_wide P Q f [] h = tt
all_wide P Q f (x ∷ xs) h = (f x h.0, all_wide P Q f xs h.1)

dest_wide : (n m : ℕ) → n ≤ m → (o : Option ℕ) → IsRegIfSome n o → IsRegIfSome m o
dest_wide n m le None h = tt
dest_wide n m le (Some d) h = omega arith

named_wide : (n m : ℕ) → n ≤ m → (i : Instr) → NamesRegisters n i → NamesRegisters m i
named_wide n m le (Const d w) h = omega arith
named_wide n m le (Move d s) h = (let e = h.0 in omega arith, let e = h.1 in omega arith)
named_wide n m le (Conv d t s) h = (let e = h.0 in omega arith, let e = h.1 in omega arith)
named_wide n m le (Bin o d a b) h = (let e = h.0 in omega arith, let e = h.1 in omega arith, let e = h.2 in omega arith)
named_wide n m le (Get d g) h = omega arith
named_wide n m le (Set g s) h = omega arith
named_wide n m le (GetX d g i) h = (let e = h.0 in omega arith, let e = h.1 in omega arith)
named_wide n m le (SetX g i s) h = (let e = h.0 in omega arith, let e = h.1 in omega arith)
named_wide n m le (GetA d a i) h = (let e = h.0 in omega arith, let e = h.1 in omega arith)
named_wide n m le (SetA a i s) h = (let e = h.0 in omega arith, let e = h.1 in omega arith)
named_wide n m le (Clear r c a k) h = omega arith
named_wide n m le Turn h = tt
named_wide n m le (Call dest p count args) h = (dest_wide n m le dest h.0, all_wide (λ x. x < n) (λ x. x < m) (λ x e. omega arith) args h.1)
named_wide n m le (GetChar d) h = omega arith
named_wide n m le (PutChar d s) h = (let e = h.0 in omega arith, let e = h.1 in omega arith)

named_instrs : (n m : ℕ) → n ≤ m → (is : List Instr) → AllByRecursion (NamesRegisters n) is → AllByRecursion (NamesRegisters m) is
named_instrs n m le is h = all_wide (NamesRegisters n) (NamesRegisters m) (named_wide n m le) is h

pub blocks_wide : (n m : ℕ) → n ≤ m → (bs : List Block) → AreNamed n bs → AreNamed m bs
blocks_wide n m le bs h =
    all_wide (λ (b : Block). AllByRecursion (NamesRegisters n) b.instrs) (λ b. AllByRecursion (NamesRegisters m) b.instrs)
    (λ b e. named_instrs n m le b.instrs e) bs h

pub ends_wide : (n m : ℕ) → n ≤ m → (bs : List Block) → EndsRead n bs → EndsRead m bs
ends_wide n m le bs h =
    all_wide (λ (b : Block). ReadsRegister n b.end) (λ b. ReadsRegister m b.end) (λ b e. dest_wide n m le (end_source b.end) e) bs h

-- ---- blocks

-- what is live behind a block, by the sets of later blocks
pub behind_is : (bs : List Block) (rs ws : List ℕ) (w b : ℕ) (e : End) → ((x : ℕ) → has rs x ≡ read_in bs x)
    → ((t : ℕ) → b < t → t < length bs → (x : ℕ) → has (row ws w t) x ≡ live_at bs t x) → GoesForward (length bs) b e
    → (x : ℕ) → live_behind (has rs) (λ t. has (row ws w t)) e x ≡ live_at_end bs (live_at bs) e x
behind_is bs rs ws w b (ends.Jump t) reads live fw x = ap (λ (k : Bool). k || false) (live t fw.0.0 fw.0.1 x)
behind_is bs rs ws w b (ends.Branch r t u) reads live fw x =
    ap (λ (k : Bool). nat_eq x r || (k || (has (row ws w u) x || false))) (live t fw.0.0 fw.0.1 x)
    ∙ ap (λ (k : Bool). nat_eq x r || (live_at bs t x || (k || false))) (live u fw.1.0.0 fw.1.0.1 x)
behind_is bs rs ws w b (ends.Loop t) reads live fw x = reads x
behind_is bs rs ws w b (ends.Return r) reads live fw x = refl
behind_is bs rs ws w b (ends.Exit r) reads live fw x = refl

-- the blocks from b on are changed, their sets are what is live at their starts, and what is left is as it was
pub record ThinnedFrom (bs : List Block) (w b : ℕ) (rows : List ℕ) (now : List Block) : Type 0 where
  pub within : b ≤ length bs
  pub whole : now ≡ take b bs ++ alive_blocks bs (live_at bs) (drop b bs)
  pub live : (t : ℕ) → b ≤ t → t < length bs → (x : ℕ) → has (row rows w t) x ≡ live_at bs t x

pub thin_start : (bs now : List Block) (w : ℕ) (rows : List ℕ) → now ≡ bs → ThinnedFrom bs w (length now) rows now
thin_start bs now w rows e =
    let size = ap (λ (xs : List Block). length xs) e in
    record {
      within = omega arith;
      whole = e ∙ sym (append-nil bs) ∙ ap (λ (xs : List Block). xs ++ []) (sym (take_all (length now) bs (omega arith)))
          ∙ ap (λ (xs : List Block). take (length now) bs ++ alive_blocks bs (live_at bs) xs) (sym (drop_all (length now) bs (omega arith)));
      live = λ t le lt x. absurd (omega arith);
    }

pub forward_end : (n b : ℕ) (e : End) → GoesForward n b e → IsForward b e
forward_end n b (ends.Jump t) h = h.0.0
forward_end n b (ends.Branch r t u) h = (h.0.0, h.1.0.0)
forward_end n b (ends.Loop t) h = tt
forward_end n b (ends.Return r) h = tt
forward_end n b (ends.Exit r) h = tt

forward_all : (n d : ℕ) (xs : List Block) → ((i : ℕ) (y : Block) → slice_get xs i ≡ Some y → GoesForward n (d + i) y.end) → AreForward d xs
forward_all n d [] h = tt
forward_all n d (x ∷ xs) h =
    let here : d + 0 ≡ d = omega arith in (
      forward_end n d x.end (subst (λ (t : ℕ). GoesForward n t x.end) here (h 0 x refl)),
      forward_all n (suc d) xs
          (λ i y e. let there : d + suc i ≡ suc d + i = omega arith in subst (λ (t : ℕ). GoesForward n t y.end) there (h (suc i) y e)),
    )

pub forward_blocks : (bs : List Block) → GoForward bs → AreForward 0 bs
forward_blocks bs fw =
    forward_all (length bs) 0 bs
    (λ i y e. let here : i ≡ 0 + i = omega arith in subst (λ (j : ℕ). GoesForward (length bs) j y.end) here (fw i y e))

get_of_drop : {X : Type 0} (xs : List X) (b : ℕ) (x : X) (ys : List X) → drop b xs ≡ x ∷ ys → slice_get xs b ≡ Some x
get_of_drop [] zero x ys e = absurd cc
get_of_drop [] (suc b) x ys e = absurd cc
get_of_drop (y ∷ xs) zero x ys e = let same : y ≡ x = cc in ap Some same
get_of_drop (y ∷ xs) (suc b) x ys e = get_of_drop xs b x ys e

-- block b, which is thinned next, is still as it was
pub read_next : (bs now : List Block) (w n b : ℕ) (rows : List ℕ) (x : Block) → n ≡ suc b → ThinnedFrom bs w n rows now → x ≡ get_or now b x
    → drop b bs ≡ x ∷ drop (b + 1) bs
read_next bs now w n b rows x next h read =
    let within = h.within in
    let size = length-take-le n bs within in
    let old : x ≡ get_or bs b x =
    read ∙ ap (λ (ys : List Block). get_or ys b x) h.whole
    ∙ get_or_append_left (take n bs) (alive_blocks bs (live_at bs) (drop n bs)) x b (omega arith) ∙ get_or-take n bs b x (omega arith) in
    drop_read bs b x (omega arith) old

module _ (bs now : List Block) (w n b : ℕ) (rows : List ℕ) (x : Block) (fw : GoForward bs) (next : n ≡ suc b) (h : ThinnedFrom bs w n rows now)
    (read : x ≡ get_or now b x) where
  here : drop b bs ≡ x ∷ drop (b + 1) bs
  here = read_next bs now w n b rows x next h read

  is : slice_get bs b ≡ Some x
  is = get_of_drop bs b x (drop (b + 1) bs) here

  pub next_forward : GoesForward (length bs) b x.end
  next_forward = fw b x is

  later : (t : ℕ) → b < t → t < length bs → (y : ℕ) → has (row rows w t) y ≡ live_at bs t y
  later t lt less y = h.live t (omega arith) less y

  module _ (rs set1 set2 : List ℕ) (y : Block) (reads : (z : ℕ) → has rs z ≡ read_in bs z)
      (behind : (z : ℕ) → has set1 z ≡ live_behind (has rs) (λ t. has (row rows w t)) x.end z)
      (made : y ≡ record { instrs = alive x.instrs (has set1); end = x.end }) (through : (z : ℕ) → has set2 z ≡ live_through x.instrs (has set1) z) where
    at_end : has set1 ≡ live_at_end bs (live_at bs) x.end
    at_end = fun_ext (λ z. behind z ∙ behind_is bs rs rows w b x.end reads later next_forward z)

    thinned : y ≡ alive_block bs (live_at bs) x
    thinned = made ∙ ap (λ (l : Live). let z : Block = record { instrs = alive x.instrs l; end = x.end } in z) at_end

    at_start : (z : ℕ) → has set2 z ≡ live_at bs b z
    at_start z =
        let same : 0 + b ≡ b = omega arith in
        through z ∙ ap (λ (l : Live). live_through x.instrs l z) at_end
        ∙ sym (ap (λ (l : Live). l z) (starts_at bs 0 bs b x is (forward_blocks bs fw)))
        ∙ ap (λ (t : ℕ). live_at bs t z) same

    pub thin_more : (rows1 : List ℕ) → row rows1 w b ≡ set2 → ((t : ℕ) → (t ≡ b → ⊥) → row rows1 w t ≡ row rows w t)
        → ThinnedFrom bs w b rows1 (set now b y)
    thin_more rows1 mine others =
        let within = h.within in
        let size : length (take b bs) ≡ b = length-take-le b bs (omega arith) in
        let rest : List Block = alive_blocks bs (live_at bs) (drop (b + 1) bs) in
        let more : suc b ≡ b + 1 = omega arith in
        let old : x ≡ get_or bs b x = (let e : x ∷ drop (b + 1) bs ≡ get_or bs b x ∷ drop (b + 1) bs = sym here ∙ drop_more bs b x (omega arith) in cc) in
        let front : take n bs ≡ take b bs ++ x ∷ [] =
        ap (λ (k : ℕ). take k bs) (next ∙ more) ∙ take_more bs b x (omega arith) ∙ ap (λ (z : Block). take b bs ++ z ∷ []) (sym old) in
        let all : now ≡ take b bs ++ x ∷ rest =
        h.whole ∙ ap (λ (k : ℕ). take n bs ++ alive_blocks bs (live_at bs) (drop k bs)) (next ∙ more)
        ∙ ap (λ (zs : List Block). zs ++ rest) front ∙ append_assoc (take b bs) (x ∷ []) rest in
        record {
          within = omega arith;
          whole = ap (λ (zs : List Block). set zs b y) all ∙ set_at (take b bs) x rest y b size
              ∙ ap (λ (z : Block). take b bs ++ z ∷ rest) thinned
              ∙ ap (λ (zs : List Block). take b bs ++ alive_blocks bs (live_at bs) zs) (sym here);
          live = λ t le lt z. elim (cases_eq t b) [
            | inl same ↦ ap (λ (u : ℕ). has (row rows1 w u) z) same ∙ ap (λ (s : List ℕ). has s z) mine ∙ at_start z
                ∙ ap (λ (u : ℕ). live_at bs u z) (sym same)
            | inr ne ↦ ap (λ (s : List ℕ). has s z) (others t ne) ∙ h.live t (omega arith) lt z
          ];
        }

-- ---- what the loop over blocks takes from the code

module _ (bs now : List Block) (w n : ℕ) (rows : List ℕ) (d : Block) (some : 0 < n) (size : length now ≡ length bs) (h : ThinnedFrom bs w n rows now)
    (read : d ≡ get_or now (n - 1) d) where
  abbrev b : ℕ
  b = n - 1

  abbrev x : Block
  x = get_or now b d

  next : n ≡ suc b
  next = omega arith

  again : x ≡ get_or now b x
  again = ap (λ (y : Block). get_or now b y) read

  pub step_rows : (w1 len : ℕ) → GoForward bs → w1 ≡ w → len ≡ w * length bs → AllByRecursion (λ t. t * w1 + w1 ≤ len) (jumps x.end)
  step_rows w1 len fw same room = all_wide (λ t. (b < t) × (t < length bs)) (λ t. t * w1 + w1 ≤ len)
      (λ t e. let lt = e.1 in let le : suc t * w1 ≤ length bs * w1 = mul-le-mul_right w1 lt in let more : suc t * w1 ≡ t * w1 + w1 = omega arith in
      let all : length bs * w1 ≡ len = ap (λ (k : ℕ). length bs * k) same ∙ mul_comm (length bs) w ∙ sym room in omega arith)
      (jumps x.end) (next_forward bs now w n b rows x fw next h again)

  pub step_named : (m : ℕ) → AreNamed m bs → AllByRecursion (NamesRegisters m) x.instrs
  step_named m named = named_block m bs b x named (read_next bs now w n b rows x next h again)

  pub step_end : (m : ℕ) → EndsRead m bs → ReadsRegister m x.end
  step_end m reads = end_block m bs b x reads (read_next bs now w n b rows x next h again)

  pub thin_step : (rows1 rs set1 set2 : List ℕ) (w1 w2 : ℕ) (e : Block) (y : Block) → GoForward bs → w1 ≡ w → w2 ≡ w → e ≡ get_or now b e
      → ((z : ℕ) → has rs z ≡ read_in bs z) → ((z : ℕ) → has set1 z ≡ live_behind (has rs) (λ t. has (row rows w1 t)) (get_or now b e).end z)
      → y ≡ record { instrs = alive x.instrs (has set1); end = x.end } → ((z : ℕ) → has set2 z ≡ live_through x.instrs (has set1) z)
      → row rows1 w2 b ≡ set2 → ((t : ℕ) → (t ≡ b → ⊥) → row rows1 w2 t ≡ row rows w2 t) → ThinnedFrom bs w b rows1 (set now b y)
  thin_step rows1 rs set1 set2 w1 w2 e y fw same same1 read1 reads behind made through mine others =
      let within = h.within in
      let one : get_or now b e ≡ x = get_or_default now b e d (omega arith) in
      thin_more bs now w n b rows x fw next h again rs set1 set2 y reads
      (λ z. behind z ∙ ap (λ (i : Block). live_behind (has rs) (λ t. has (row rows w1 t)) i.end z) one
      ∙ ap (λ (k : ℕ). live_behind (has rs) (λ t. has (row rows k t)) x.end z) same)
      made through rows1 (subst (λ (k : ℕ). row rows1 k b ≡ set2) same1 mine)
      (λ t ne. subst (λ (k : ℕ). row rows1 k t ≡ row rows k t) same1 (others t ne))

-- ---- whole routines

forward_valid : (n : ℕ) (value : Bool) (blocks b : ℕ) (e : End) → IsValidEnd n value blocks b e → GoesForward blocks b e
forward_valid n value blocks b (ends.Jump t) h = (h, tt)
forward_valid n value blocks b (ends.Branch r t u) h = (h.1, (h.2, tt))
forward_valid n value blocks b (ends.Loop t) h = tt
forward_valid n value blocks b (ends.Return r) h = tt
forward_valid n value blocks b (ends.Exit r) h = tt

pub forward_as : (r : RoutineParts) (items was : List Block) → IsValidRoutine r → was ≡ items → items ≡ r.blocks → GoForward was
forward_as r items was h same is =
    subst GoForward (sym (same ∙ is))
    (λ b x e. forward_valid r.regs r.value (length r.blocks) b x.end (valid_block h.0 r h.1 b x e).end)

pub few_blocks : (r : RoutineParts) (items was : List Block) → blocks_size r.blocks ≤ 2 ^ 16 → was ≡ items → items ≡ r.blocks → length was ≤ 2 ^ 16
few_blocks r items was less same is =
    let few = blocks_few was in
    let e = ap blocks_size (same ∙ is) in
    omega arith

pub thinned_is : (r : RoutineParts) (len : ℕ) (items was now rest result : List Block) → result ≡ take len (now ++ rest) → length now ≡ len → was ≡ items
    → items ≡ r.blocks → now ≡ alive_blocks was (live_at was) was → record r { blocks = result } ≡ drop_dead_writes r
thinned_is r len items was now rest result e size same is made =
    ap (λ (bs : List Block). record r { blocks = bs })
    (e ∙ take_at now rest len size ∙ made ∙ ap (λ (bs : List Block). alive_blocks bs (live_at bs) bs) (same ∙ is))
