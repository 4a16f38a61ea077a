-- What is found at a site, and that the sites before a splice stay where they are.
use Rattle.std.proofs.Common.{◌≡◌, ℕ, zero, suc, ◌+◌, ◌-◌, ◌<◌, ◌≤◌, List, [], ◌∷◌, ◌++◌, append_assoc, map, option_map, Bool, true, false, refl, ap}
use Rattle.std.proofs.Common.{ap₂, subst, sym, ◌∙◌, arith, length, slice_get, lt-ltb, ltb-true}
use Rattle.std.specs.Prelude.{nat_lt, if◌then◌else◌, Option, Some, None}
use Rattle.std.proofs.lemmas.Bool.{ltb-false, le-ltb}
use Rattle.std.proofs.lemmas.List.{length-append}
use Rattle.std.proofs.lemmas.Option.{none-some, same_Some}
use Rattle.il_core.specs.declared.instr.Block.{Block}
use Rattle.il_core.specs.declared.instr.Instr.{Instr}
use Rattle.il_core.specs.declared.instr.Instr.TheVariants.{Const, Move, Conv, Bin, Get, Set, GetX, SetX, GetA, SetA, Clear, Turn, Call, GetChar, PutChar}
use Rattle.il_core.specs.Routine.{RoutineParts}
use Rattle.il_core.specs.Meaning.{sites_in, sites_of}
use Rattle.il_core.specs.Operands.{callee_of}
use Rattle.il_laws.specs.Sites.{listed, callees_in, callees}
use Rattle.il_laws.specs.Splice.{Cut, cut_behind, cut_here, cut_at, Site, site_here, site_behind, site_at, moved_block, entering, resuming, copies}
use Rattle.il_laws.specs.Splice.{spliced, splice}
use Rattle.il_laws.proofs.Lists.{get_within, get_behind}
use Rattle.il_laws.proofs.SpliceBlocks.{call_of, whole, site_block, blocks_with}

-- how something was found
pub mapped : {X Y : Type 0} (f : X → Y) (o : Option X) (y : Y) → option_map f o ≡ Some y → (x : X) × (o ≡ Some x) × (f x ≡ y)
mapped f None y e = absurd (none-some y e)
mapped f (Some x) y e = (x, refl, same_Some (f x) y e)

if_some : {X : Type 0} (b : Bool) (o o1 : Option X) (x : X) (P : Type 0) → (b ≡ true → o ≡ Some x → P) → (b ≡ false → o1 ≡ Some x → P)
    → (if b then o else o1) ≡ Some x → P
if_some true o o1 x P h g e = h refl e
if_some false o o1 x P h g e = g refl e

-- the cut at a call
record IsHere (i : Instr) (is : List Instr) (c : Cut) : Type 0 where
  call : i ≡ call_of c
  before : c.before ≡ []
  after : c.after ≡ is

here : (i : Instr) (is : List Instr) (c : Cut) → cut_here i is ≡ Some c → IsHere i is c
here (Call dest p count args) is c e =
    let found : Cut = record { before = []; dest = dest; callee = p; count = count; args = args; after = is } in
    subst (IsHere (Call dest p count args) is) (same_Some found c e) (record { call = refl; before = refl; after = refl })
here (Const d v) is c e = absurd (none-some c e)
here (Move d s) is c e = absurd (none-some c e)
here (Conv d t s) is c e = absurd (none-some c e)
here (Bin o d a b) is c e = absurd (none-some c e)
here (Get d g) is c e = absurd (none-some c e)
here (Set g s) is c e = absurd (none-some c e)
here (GetX d g i) is c e = absurd (none-some c e)
here (SetX g i s) is c e = absurd (none-some c e)
here (GetA d a i) is c e = absurd (none-some c e)
here (SetA a i s) is c e = absurd (none-some c e)
here (Clear r m a l) is c e = absurd (none-some c e)
here Turn is c e = absurd (none-some c e)
here (GetChar d) is c e = absurd (none-some c e)
here (PutChar d s) is c e = absurd (none-some c e)

-- A cut is at call k: it gives the instructions, and k calls stand before it.
pub record IsCut (k : ℕ) (is : List Instr) (c : Cut) : Type 0 where
  pub instrs : is ≡ whole c
  pub number : k ≡ sites_of c.before

cut_first : (k : ℕ) (i : Instr) (is : List Instr) (c : Cut) → k < sites_in i → cut_here i is ≡ Some c → IsCut k (i ∷ is) c
cut_first k i is c lt e =
    let h = here i is c e in
    let one : sites_in i ≡ 1 = ap sites_in h.call in
    let none : sites_of c.before ≡ 0 = ap sites_of h.before in
    record {
      instrs = ap₂ {A = Instr} {B = List Instr} {C = List Instr} (λ j js. j ∷ js) h.call (sym h.after)
          ∙ ap (λ (js : List Instr). js ++ call_of c ∷ c.after) (sym h.before);
      number = omega arith;
    }

pub cut_is : (k : ℕ) (is : List Instr) (c : Cut) → cut_at k is ≡ Some c → IsCut k is c
cut_is k [] c e = absurd (none-some c e)
cut_is k (i ∷ is) c e =
    if_some (nat_lt k (sites_in i)) (cut_here i is) (option_map (cut_behind i) (cut_at (k - sites_in i) is)) c (IsCut k (i ∷ is) c)
    (λ b h. cut_first k i is c (ltb-true k (sites_in i) b) h)
    (λ b h.
    let m = mapped (cut_behind i) (cut_at (k - sites_in i) is) c h in
    let rest = cut_is (k - sites_in i) is m.0 m.1 in
    let number = rest.number in
    let ge = ltb-false k (sites_in i) b in
    subst (IsCut k (i ∷ is)) m.2 (record { instrs = ap (λ (js : List Instr). i ∷ js) rest.instrs; number = omega arith }))
    e

-- the calls of blocks
abbrev pub sites_before : List Block → ℕ
sites_before [] = 0
sites_before (x ∷ xs) = sites_of x.instrs + sites_before xs

-- A site has number k: it gives the blocks, and k calls stand before it.
pub record IsSite (k : ℕ) (bs : List Block) (s : Site) : Type 0 where
  pub blocks : bs ≡ blocks_with s
  pub number : k ≡ sites_before s.earlier + sites_of s.cut.before

pub site_is : (k : ℕ) (bs : List Block) (s : Site) → site_at k bs ≡ Some s → IsSite k bs s
site_is k [] s e = absurd (none-some s e)
site_is k (x ∷ xs) s e =
    if_some (nat_lt k (sites_of x.instrs)) (option_map (site_here x xs) (cut_at k x.instrs))
    (option_map (site_behind x) (site_at (k - sites_of x.instrs) xs)) s (IsSite k (x ∷ xs) s)
    (λ b h.
    let m = mapped (site_here x xs) (cut_at k x.instrs) s h in
    let c = cut_is k x.instrs m.0 m.1 in
    let number = c.number in
    subst (IsSite k (x ∷ xs)) m.2
    (record { blocks = ap (λ (is : List Instr). record { instrs = is; end = x.end } ∷ xs) c.instrs; number = omega arith }))
    (λ b h.
    let m = mapped (site_behind x) (site_at (k - sites_of x.instrs) xs) s h in
    let rest = site_is (k - sites_of x.instrs) xs m.0 m.1 in
    let number = rest.number in
    let ge = ltb-false k (sites_of x.instrs) b in
    subst (IsSite k (x ∷ xs)) m.2 (record { blocks = ap (λ (ys : List Block). x ∷ ys) rest.blocks; number = omega arith }))
    e

-- sites and callees are counted alike
callee_count : (i : Instr) → length (listed (callee_of i)) ≡ sites_in i
callee_count (Call dest p count args) = refl
callee_count (Const d v) = refl
callee_count (Move d s) = refl
callee_count (Conv d t s) = refl
callee_count (Bin o d a b) = refl
callee_count (Get d g) = refl
callee_count (Set g s) = refl
callee_count (GetX d g i) = refl
callee_count (SetX g i s) = refl
callee_count (GetA d a i) = refl
callee_count (SetA a i s) = refl
callee_count (Clear r m a l) = refl
callee_count Turn = refl
callee_count (GetChar d) = refl
callee_count (PutChar d s) = refl

pub callees_count : (is : List Instr) → length (callees_in is) ≡ sites_of is
callees_count [] = refl
callees_count (i ∷ is) =
    let both = length-append (listed (callee_of i)) (callees_in is) in
    let one = callee_count i in
    let rest = callees_count is in
    omega arith

all_count : (bs : List Block) → length (callees bs) ≡ sites_before bs
all_count [] = refl
all_count (x ∷ xs) =
    let both = length-append (callees_in x.instrs) (callees xs) in
    let one = callees_count x.instrs in
    let rest = all_count xs in
    omega arith

callees_append : (is js : List Instr) → callees_in (is ++ js) ≡ callees_in is ++ callees_in js
callees_append [] js = refl
callees_append (i ∷ is) js =
    ap (λ (ps : List ℕ). listed (callee_of i) ++ ps) (callees_append is js) ∙ sym (append_assoc (listed (callee_of i)) (callees_in is) (callees_in js))

all_append : (xs ys : List Block) → callees (xs ++ ys) ≡ callees xs ++ callees ys
all_append [] ys = refl
all_append (x ∷ xs) ys =
    ap (λ (ps : List ℕ). callees_in x.instrs ++ ps) (all_append xs ys) ∙ sym (append_assoc (callees_in x.instrs) (callees xs) (callees ys))

-- the callees of blocks of which one begins with these instructions: first those of the blocks before and of its start
starts_with : (xs ys : List Block) (is js : List Instr) (x : Block) → x.instrs ≡ is ++ js
    → callees (xs ++ x ∷ ys) ≡ (callees xs ++ callees_in is) ++ (callees_in js ++ callees ys)
starts_with xs ys is js x e =
    all_append xs (x ∷ ys)
    ∙ ap (λ (js1 : List Instr). callees xs ++ (callees_in js1 ++ callees ys)) e
    ∙ ap (λ (ps : List ℕ). callees xs ++ (ps ++ callees ys)) (callees_append is js)
    ∙ ap (λ (ps : List ℕ). callees xs ++ ps) (append_assoc (callees_in is) (callees_in js) (callees ys))
    ∙ sym (append_assoc (callees xs) (callees_in is) (callees_in js ++ callees ys))

front_count : (xs : List Block) (is : List Instr) → length (callees xs ++ callees_in is) ≡ sites_before xs + sites_of is
front_count xs is =
    let both = length-append (callees xs) (callees_in is) in
    let one = all_count xs in
    let two = callees_count is in
    omega arith

-- what site k calls
pub site_calls : (k : ℕ) (bs : List Block) (s : Site) → site_at k bs ≡ Some s → slice_get (callees bs) k ≡ Some s.cut.callee
site_calls k bs s e =
    let is = site_is k bs s e in
    let number = is.number in
    let before = sites_before s.earlier + sites_of s.cut.before in
    let here : k ≡ before + 0 = omega arith in
    let after = callees_in s.cut.after ++ callees s.later in
    ap (λ (ps : List ℕ). slice_get ps k)
    (ap callees is.blocks ∙ starts_with s.earlier s.later s.cut.before (call_of s.cut ∷ s.cut.after) (site_block s) refl)
    ∙ ap (λ (n : ℕ). slice_get ((callees s.earlier ++ callees_in s.cut.before) ++ s.cut.callee ∷ after) n) here
    ∙ get_behind (callees s.earlier ++ callees_in s.cut.before) (s.cut.callee ∷ after) before 0 (front_count s.earlier s.cut.before)

-- site k of blocks calls this routine
pub record CallsAt (bs : List Block) (k callee : ℕ) : Type 0 where
  pub site : Site
  pub is : site_at k bs ≡ Some site
  pub callee_is : site.cut.callee ≡ callee

record CutCalls (is : List Instr) (k callee : ℕ) (o : Option Cut) : Type 0 where
  cut : Cut
  found : o ≡ Some cut
  callee_is : cut.callee ≡ callee

one_callee : (p x k : ℕ) → slice_get (p ∷ []) k ≡ Some x → p ≡ x
one_callee p x zero e = same_Some p x e
one_callee p x (suc k) e = absurd (none-some x e)

here_found : (i : Instr) (is : List Instr) (k x : ℕ) → slice_get (listed (callee_of i)) k ≡ Some x → CutCalls (i ∷ is) k x (cut_here i is)
here_found (Call dest p count args) is k x e =
    record {
      cut = record { before = []; dest = dest; callee = p; count = count; args = args; after = is };
      found = refl;
      callee_is = one_callee p x k e;
    }
here_found (Const d v) is k x e = absurd (none-some x e)
here_found (Move d s) is k x e = absurd (none-some x e)
here_found (Conv d t s) is k x e = absurd (none-some x e)
here_found (Bin o d a b) is k x e = absurd (none-some x e)
here_found (Get d g) is k x e = absurd (none-some x e)
here_found (Set g s) is k x e = absurd (none-some x e)
here_found (GetX d g i) is k x e = absurd (none-some x e)
here_found (SetX g i s) is k x e = absurd (none-some x e)
here_found (GetA d a i) is k x e = absurd (none-some x e)
here_found (SetA a i s) is k x e = absurd (none-some x e)
here_found (Clear r m a l) is k x e = absurd (none-some x e)
here_found Turn is k x e = absurd (none-some x e)
here_found (GetChar d) is k x e = absurd (none-some x e)
here_found (PutChar d s) is k x e = absurd (none-some x e)

if_cut : (is : List Instr) (k x : ℕ) (b : Bool) (o o1 : Option Cut) → (b ≡ true → CutCalls is k x o) → (b ≡ false → CutCalls is k x o1)
    → CutCalls is k x (if b then o else o1)
if_cut is k x true o o1 h g = h refl
if_cut is k x false o o1 h g = g refl

cut_found : (is : List Instr) (k x : ℕ) → slice_get (callees_in is) k ≡ Some x → CutCalls is k x (cut_at k is)
cut_found [] k x e = absurd (none-some x e)
cut_found (i ∷ is) k x e =
    let count = callee_count i in
    if_cut (i ∷ is) k x (nat_lt k (sites_in i)) (cut_here i is) (option_map (cut_behind i) (cut_at (k - sites_in i) is))
    (λ b. let lt = ltb-true k (sites_in i) b in
    here_found i is k x (sym (get_within (listed (callee_of i)) (callees_in is) k (omega arith)) ∙ e))
    (λ b.
    let ge = ltb-false k (sites_in i) b in
    let as_sum : sites_in i + (k - sites_in i) ≡ k = omega arith in
    let rest = cut_found is (k - sites_in i) x
    (sym (get_behind (listed (callee_of i)) (callees_in is) (sites_in i) (k - sites_in i) count)
    ∙ ap (λ (n : ℕ). slice_get (listed (callee_of i) ++ callees_in is) n) as_sum ∙ e) in
    record {
      cut = cut_behind i rest.cut;
      found = ap (λ (o : Option Cut). option_map (cut_behind i) o) rest.found;
      callee_is = rest.callee_is;
    })

site_first : (k x : ℕ) (y : Block) (ys : List Block) → k < sites_of y.instrs → CutCalls y.instrs k x (cut_at k y.instrs) → CallsAt (y ∷ ys) k x
site_first k x y ys lt c =
    record {
      site = site_here y ys c.cut;
      is = ap (λ (b : Bool). if b then option_map (site_here y ys) (cut_at k y.instrs) else
          option_map (site_behind y) (site_at (k - sites_of y.instrs) ys)) (lt-ltb k (sites_of y.instrs) lt)
          ∙ ap (λ (o : Option Cut). option_map (site_here y ys) o) c.found;
      callee_is = c.callee_is;
    }

site_later : (k x : ℕ) (y : Block) (ys : List Block) → sites_of y.instrs ≤ k → CallsAt ys (k - sites_of y.instrs) x → CallsAt (y ∷ ys) k x
site_later k x y ys ge rest =
    record {
      site = site_behind y rest.site;
      is = ap (λ (b : Bool). if b then option_map (site_here y ys) (cut_at k y.instrs) else
          option_map (site_behind y) (site_at (k - sites_of y.instrs) ys)) (le-ltb k (sites_of y.instrs) ge)
          ∙ ap (λ (o : Option Site). option_map (site_behind y) o) rest.is;
      callee_is = rest.callee_is;
    }

by_test : (k n : ℕ) (P : Type 0) (b : Bool) → nat_lt k n ≡ b → (k < n → P) → (n ≤ k → P) → P
by_test k n P true e h g = h (ltb-true k n e)
by_test k n P false e h g = g (ltb-false k n e)

-- each callee's site is found
pub calls_site : (bs : List Block) (k x : ℕ) → slice_get (callees bs) k ≡ Some x → CallsAt bs k x
calls_site [] k x e = absurd (none-some x e)
calls_site (y ∷ ys) k x e =
    let count = callees_count y.instrs in
    let n = sites_of y.instrs in
    by_test k n (CallsAt (y ∷ ys) k x) (nat_lt k n) refl
    (λ lt. site_first k x y ys lt (cut_found y.instrs k x (sym (get_within (callees_in y.instrs) (callees ys) k (omega arith)) ∙ e)))
    (λ ge.
    let as_sum : n + (k - n) ≡ k = omega arith in
    site_later k x y ys ge (calls_site ys (k - n) x
    (sym (get_behind (callees_in y.instrs) (callees ys) n (k - n) count)
    ∙ ap (λ (m : ℕ). slice_get (callees_in y.instrs ++ callees ys) m) as_sum ∙ e)))

-- a splice leaves the callees of the sites before it
moved_callees : (b n : ℕ) (xs : List Block) → callees (map (moved_block b n) xs) ≡ callees xs
moved_callees b n [] = refl
moved_callees b n (x ∷ xs) = ap (λ (ps : List ℕ). callees_in x.instrs ++ ps) (moved_callees b n xs)

pub earlier_calls : (r q : RoutineParts) (j k : ℕ) (s : Site) → site_at k r.blocks ≡ Some s → j < k
    → slice_get (callees (splice r k q).blocks) j ≡ slice_get (callees r.blocks) j
earlier_calls r q j k s e lt =
    let is = site_is k r.blocks s e in
    let number = is.number in
    let b = length s.earlier in
    let n = length q.blocks in
    let front = callees s.earlier ++ callees_in s.cut.before in
    let count = front_count s.earlier s.cut.before in
    let behind = copies r.regs (length r.arrays) s q ++ resuming s n ∷ map (moved_block b n) s.later in
    let entry : List Instr = Turn ∷ Clear r.regs q.regs (length r.arrays) (length q.arrays) ∷ _ in
    ap (λ (o : Option Site). slice_get (callees (spliced r q o).blocks) j) e
    ∙ ap (λ (ps : List ℕ). slice_get ps j)
    (starts_with (map (moved_block b n) s.earlier) behind s.cut.before entry (entering r.regs (length r.arrays) s q) refl
    ∙ ap (λ (ps : List ℕ). (ps ++ callees_in s.cut.before) ++ (callees_in entry ++ callees behind)) (moved_callees b n s.earlier))
    ∙ get_within front (callees_in entry ++ callees behind) j (omega arith)
    ∙ sym (get_within front (s.cut.callee ∷ (callees_in s.cut.after ++ callees s.later)) j (omega arith))
    ∙ sym (ap (λ (ps : List ℕ). slice_get ps j)
    (ap callees is.blocks ∙ starts_with s.earlier s.later s.cut.before (call_of s.cut ∷ s.cut.after) (site_block s) refl))
