-- What is reached is closed under calls.
use Rattle.std.proofs.Common.{◌≡◌, ◌⊎◌, ℕ, zero, suc, ◌+◌, ◌<◌, ◌≤◌, List, [], ◌∷◌, map, Bool, true, false, refl, ap, ap₂, subst, sym, ◌∙◌, arith}
use Rattle.std.proofs.Common.{length, inl, inr, eq-eqb, ne_eqb, eqb-true}
use Rattle.std.specs.Prelude.{◌&&◌, ◌||◌, nat_eq, if◌then◌else◌, Some}
use Rattle.std.specs.List.{AllByRecursion}
use Rattle.std.proofs.lemmas.Bool.{cases_eq}
use Rattle.std.proofs.lemmas.Option.{none-some, same_Some}
use Rattle.std.proofs.lemmas.List.{length-map}
use Rattle.il_core.specs.declared.instr.Block.{Block}
use Rattle.il_core.specs.declared.instr.Instr.{Instr}
use Rattle.il_core.specs.declared.instr.Instr.TheVariants.{Const, Move, Conv, Bin, Get, Set, GetX, SetX, GetA, SetA, Clear, Turn, Call, GetChar, PutChar}
use Rattle.il_core.specs.declared.program.IlProgram.{IlProgram}
use Rattle.il_core.specs.Operands.{callee_of}
use Rattle.il_core.specs.Program.{found, routine_at, main_pid}
use Rattle.il_core.specs.Routine.{RoutineParts}
use Rattle.il_laws.specs.Edges.{one_if}
use Rattle.il_laws.specs.Reach.{Caller, caller_of, is_in, is_called, marked_too, call_rounds, reached, is_reached, is_live}
use Rattle.il_laws.specs.Runs.{Callable, IsCallIn, CallsIn, BlocksCallIn}
use Rattle.il_laws.specs.Sites.{listed, callees_in, callees}
use Rattle.il_core.proofs.Found.{found_here, found_there}
use Rattle.il_laws.proofs.SpliceBlocks.{all_front, all_rest}
use Rattle.std.proofs.lemmas.Bool.{or_left, or_right, or_cases}

-- the mark of the node with this number
abbrev marked : List Caller → List Bool → ℕ → Bool
marked [] ms x = false
marked (c ∷ cs) [] x = false
marked (c ∷ cs) (m ∷ ms) x = if nat_eq c.pid x then m else marked cs ms x

abbrev node : ℕ → List Caller → Caller → Type 0
node x cs c = found (λ z. z.pid) x cs ≡ Some c

-- what a marked node calls
called_by : (cs : List Caller) (ms : List Bool) (x q : ℕ) (c : Caller) → node x cs c → marked cs ms x ≡ true → is_in c.callees q ≡ true
    → is_called ms cs q ≡ true
called_by [] ms x q c e m h = absurd (none-some c e)
called_by (z ∷ cs) [] x q c e m h = absurd cc
called_by (z ∷ cs) (m ∷ ms) x q c e on h =
    elim (cases_eq z.pid x) [
      | inl same ↦ (let is : z ≡ c = same_Some z c (sym (found_here (λ (y : Caller). y.pid) x z cs same) ∙ e) in
          let mark : m ≡ true = sym (ap (λ (b : Bool). if b then m else marked cs ms x) (eq-eqb z.pid x same)) ∙ on in
          or_left (m && is_in z.callees q) (is_called ms cs q)
          (ap₂ {A = Bool} {B = Caller} {C = Bool} (λ b y. b && is_in y.callees q) mark is ∙ h))
      | inr ne ↦ (let rest = sym (ap (λ (b : Bool). if b then m else marked cs ms x) (ne_eqb z.pid x ne)) ∙ on in
          or_right (m && is_in z.callees q) (is_called ms cs q)
          (called_by cs ms x q c (sym (found_there (λ (y : Caller). y.pid) x z cs ne) ∙ e) rest h))
    ]

module _ (test : ℕ → Bool) where
  -- a node of which the test holds is marked then
  tested : (cs : List Caller) (ms : List Bool) (x : ℕ) (c : Caller) → length ms ≡ length cs → node x cs c → test x ≡ true
      → marked cs (marked_too test cs ms) x ≡ true
  tested [] ms x c size e h = absurd (none-some c e)
  tested (z ∷ cs) [] x c size e h = absurd (omega arith)
  tested (z ∷ cs) (m ∷ ms) x c size e h =
      let less : suc (length ms) ≡ suc (length cs) = size in
      elim (cases_eq z.pid x) [
        | inl same ↦ ap (λ (b : Bool). if b then m || test z.pid else marked cs (marked_too test cs ms) x) (eq-eqb z.pid x same)
            ∙ or_right m (test z.pid) (ap test same ∙ h)
        | inr ne ↦ ap (λ (b : Bool). if b then m || test z.pid else marked cs (marked_too test cs ms) x) (ne_eqb z.pid x ne)
            ∙ tested cs ms x c (omega arith) (sym (found_there (λ (y : Caller). y.pid) x z cs ne) ∙ e) h
      ]

  if_marked : (b m m1 k k1 : Bool) → (m ≡ true → m1 ≡ true) → (k ≡ true → k1 ≡ true) → (if b then m else k) ≡ true → (if b then m1 else k1) ≡ true
  if_marked true m m1 k k1 h g e = h e
  if_marked false m m1 k k1 h g e = g e

  -- a mark stays
  mark_stays : (cs : List Caller) (ms : List Bool) (x : ℕ) → marked cs ms x ≡ true → marked cs (marked_too test cs ms) x ≡ true
  mark_stays [] ms x e = e
  mark_stays (z ∷ cs) [] x e = e
  mark_stays (z ∷ cs) (m ∷ ms) x e =
      if_marked (nat_eq z.pid x) m (m || test z.pid) (marked cs ms x) (marked cs (marked_too test cs ms) x)
      (λ h. or_left m (test z.pid) h) (λ h. mark_stays cs ms x h) e

  too_length : (cs : List Caller) (ms : List Bool) → length (marked_too test cs ms) ≡ length ms ⊎ (length ms ≡ length cs → ⊥)
  too_length [] [] = inl refl
  too_length [] (m ∷ ms) = inr (λ e. omega arith)
  too_length (z ∷ cs) [] = inl refl
  too_length (z ∷ cs) (m ∷ ms) =
      elim (too_length cs ms) [
        | inl same ↦ inl (ap suc same)
        | inr ne ↦ inr (λ e. (let less : suc (length ms) ≡ suc (length cs) = e in ne (omega arith)))
      ]

  pub same_length : (cs : List Caller) (ms : List Bool) → length ms ≡ length cs → length (marked_too test cs ms) ≡ length cs
  same_length cs ms size = elim (too_length cs ms) [ inl same ↦ same ∙ size | inr ne ↦ absurd (ne size) ]

  abbrev count : List Bool → ℕ
  count [] = 0
  count (m ∷ ms) = one_if m + count ms

  -- nothing is added, or there are more marks
  abbrev More : List Caller → List Bool → Type 0
  More cs ms = (marked_too test cs ms ≡ ms) ⊎ (count ms < count (marked_too test cs ms))

  more_behind : (c : Caller) (cs : List Caller) (m : Bool) (ms : List Bool) (k : Bool) → test c.pid ≡ k → More cs ms → More (c ∷ cs) (m ∷ ms)
  more_behind c cs true ms k e (inl same) = inl (ap (λ (l : List Bool). true ∷ l) same)
  more_behind c cs true ms k e (inr less) = inr (omega arith)
  more_behind c cs false ms false e (inl same) = inl (ap₂ {A = Bool} {B = List Bool} {C = List Bool} (λ k l. k ∷ l) e same)
  more_behind c cs false ms false e (inr less) = inr (let one = ap one_if e in omega arith)
  more_behind c cs false ms true e (inl same) = inr (let one = ap one_if e in let size = ap count same in omega arith)
  more_behind c cs false ms true e (inr less) = inr (let one = ap one_if e in omega arith)

  pub more : (cs : List Caller) (ms : List Bool) → length ms ≡ length cs → More cs ms
  more [] [] size = inl refl
  more [] (m ∷ ms) size = absurd (omega arith)
  more (c ∷ cs) [] size = absurd (omega arith)
  more (c ∷ cs) (m ∷ ms) size =
      let less : suc (length ms) ≡ suc (length cs) = size in
      more_behind c cs m ms (test c.pid) refl (more cs ms (omega arith))

abbrev marks_in : List Bool → ℕ
marks_in [] = 0
marks_in (m ∷ ms) = one_if m + marks_in ms

few_marks : (ms : List Bool) → marks_in ms ≤ length ms
few_marks [] = omega arith
few_marks (true ∷ ms) = let less = few_marks ms in omega arith
few_marks (false ∷ ms) = let less = few_marks ms in omega arith

same_count : (test : ℕ → Bool) (ms : List Bool) → count test ms ≡ marks_in ms
same_count test [] = refl
same_count test (m ∷ ms) = ap (λ (n : ℕ). one_if m + n) (same_count test ms)

module _ (cs : List Caller) where
  abbrev next : List Bool → List Bool
  next ms = marked_too (is_called ms cs) cs ms

  rounds_length : (n : ℕ) (ms : List Bool) → length ms ≡ length cs → length (call_rounds cs n ms) ≡ length cs
  rounds_length zero ms size = size
  rounds_length (suc n) ms size = rounds_length n (next ms) (same_length (is_called ms cs) cs ms size)

  rounds_fixed : (n : ℕ) (ms : List Bool) → next ms ≡ ms → call_rounds cs n ms ≡ ms
  rounds_fixed zero ms e = refl
  rounds_fixed (suc n) ms e = ap (λ (l : List Bool). call_rounds cs n l) e ∙ rounds_fixed n ms e

  rounds_stay : (n : ℕ) (ms : List Bool) (x : ℕ) → marked cs ms x ≡ true → marked cs (call_rounds cs n ms) x ≡ true
  rounds_stay zero ms x e = e
  rounds_stay (suc n) ms x e = rounds_stay n (next ms) x (mark_stays (is_called ms cs) cs ms x e)

  -- a round adds nothing, or each one so far has added a mark
  rounds_more : (n : ℕ) (ms : List Bool) → length ms ≡ length cs
      → (next (call_rounds cs n ms) ≡ call_rounds cs n ms) ⊎ (marks_in ms + n ≤ marks_in (call_rounds cs n ms))
  rounds_more zero ms size = inr (omega arith)
  rounds_more (suc n) ms size =
      elim (more (is_called ms cs) cs ms size) [
        | inl same ↦ (let fixed : call_rounds cs n (next ms) ≡ ms = ap (λ (l : List Bool). call_rounds cs n l) same ∙ rounds_fixed n ms same in
            inl (ap next fixed ∙ same ∙ sym fixed))
        | inr less ↦ elim (rounds_more n (next ms) (same_length (is_called ms cs) cs ms size)) [
          | inl done ↦ inl done
          | inr many ↦ (let one = same_count (is_called ms cs) ms in
              let two = same_count (is_called ms cs) (next ms) in
              inr (omega arith))
        ]
      ]

  module _ (from : ℕ) where
    abbrev first : List Bool
    first = map (λ c. nat_eq c.pid from) cs

    first_size : length first ≡ length cs
    first_size = length-map cs (λ c. nat_eq c.pid from)

    reached_fixed : next (reached cs from) ≡ reached cs from
    reached_fixed =
        elim (rounds_more (suc (length cs)) first first_size) [
          | inl fixed ↦ fixed
          | inr many ↦ (let most = few_marks (reached cs from) in
              let size = rounds_length (suc (length cs)) first first_size in
              absurd (omega arith))
        ]

    first_marked : (ds : List Caller) (c : Caller) → node from ds c → marked ds (map (λ z. nat_eq z.pid from) ds) from ≡ true
    first_marked [] c e = absurd (none-some c e)
    first_marked (z ∷ ds) c e =
        let later = marked ds (map (λ y. nat_eq y.pid from) ds) from in
        elim (cases_eq z.pid from) [
          | inl same ↦ ap (λ (b : Bool). if b then nat_eq z.pid from else later) (eq-eqb z.pid from same) ∙ eq-eqb z.pid from same
          | inr ne ↦ ap (λ (b : Bool). if b then nat_eq z.pid from else later) (ne_eqb z.pid from ne)
              ∙ first_marked ds c (sym (found_there (λ (y : Caller). y.pid) from z ds ne) ∙ e)
        ]

    -- a node that is reached is marked
    reached_marked : (x : ℕ) (c : Caller) → node x cs c → is_reached cs from x ≡ true → marked cs (reached cs from) x ≡ true
    reached_marked x c e h =
        elim (or_cases (nat_eq x from) (is_called (reached cs from) cs x) h) [
          | inl same ↦ (let is : x ≡ from = eqb-true x from same in
              subst (λ (y : ℕ). marked cs (reached cs from) y ≡ true) (sym is)
              (rounds_stay (suc (length cs)) first from (first_marked cs c (subst (λ (y : ℕ). node y cs c) is e))))
          | inr called ↦ ap (λ (ms : List Bool). marked cs ms x) (sym reached_fixed)
              ∙ tested (is_called (reached cs from) cs) cs (reached cs from) x c (rounds_length (suc (length cs)) first first_size) e called
        ]

    -- and so is what it calls
    pub reached_calls : (x q : ℕ) (c : Caller) → node x cs c → is_reached cs from x ≡ true → is_in c.callees q ≡ true → is_reached cs from q ≡ true
    reached_calls x q c e h i =
        or_right (nat_eq q from) (is_called (reached cs from) cs q) (called_by cs (reached cs from) x q c e (reached_marked x c e h) i)

    pub reached_from : is_reached cs from from ≡ true
    reached_from = or_left (nat_eq from from) (is_called (reached cs from) cs from) (eq-eqb from from refl)

-- the calls of blocks, by their callees
module _ (may : Callable) where
  callee_in : (i : Instr) → AllByRecursion may (listed (callee_of i)) → IsCallIn may i
  callee_in (Call dest q count args) h = h.0
  callee_in (Const d v) h = tt
  callee_in (Move d s) h = tt
  callee_in (Conv d t s) h = tt
  callee_in (Bin o d a b) h = tt
  callee_in (Get d x) h = tt
  callee_in (Set x s) h = tt
  callee_in (GetX d x i) h = tt
  callee_in (SetX x i s) h = tt
  callee_in (GetA d a i) h = tt
  callee_in (SetA a i s) h = tt
  callee_in (Clear r c a m) h = tt
  callee_in Turn h = tt
  callee_in (GetChar d) h = tt
  callee_in (PutChar d s) h = tt

  calls_in : (is : List Instr) → AllByRecursion may (callees_in is) → CallsIn may is
  calls_in [] h = tt
  calls_in (i ∷ is) h =
      (callee_in i (all_front may (listed (callee_of i)) (callees_in is) h), calls_in is (all_rest may (listed (callee_of i)) (callees_in is) h))

  pub blocks_call : (bs : List Block) → AllByRecursion may (callees bs) → BlocksCallIn may bs
  blocks_call [] h = tt
  blocks_call (x ∷ xs) h =
      (calls_in x.instrs (all_front may (callees_in x.instrs) (callees xs) h), blocks_call xs (all_rest may (callees_in x.instrs) (callees xs) h))

in_later : (q x : ℕ) (xs : List ℕ) → is_in xs q ≡ true → is_in (x ∷ xs) q ≡ true
in_later q x xs e = or_right (nat_eq x q) (is_in xs q) e

all_later : (ys : List ℕ) (x : ℕ) (xs : List ℕ) → AllByRecursion (λ q. is_in xs q ≡ true) ys → AllByRecursion (λ q. is_in (x ∷ xs) q ≡ true) ys
all_later [] x xs h = tt
all_later (y ∷ ys) x xs h = (in_later y x xs h.0, all_later ys x xs h.1)

all_in : (xs : List ℕ) → AllByRecursion (λ q. is_in xs q ≡ true) xs
all_in [] = tt
all_in (x ∷ xs) = (or_left (nat_eq x x) (is_in xs x) (eq-eqb x x refl), all_later xs x xs (all_in xs))

found_caller : (x : ℕ) (rs : List RoutineParts) (r : RoutineParts) → routine_at rs x ≡ Some r → node x (map caller_of rs) (caller_of r)
found_caller x [] r e = absurd (none-some r e)
found_caller x (z ∷ rs) r e =
    elim (cases_eq z.pid x) [
      | inl same ↦ (let is : z ≡ r = same_Some z r (sym (found_here (λ (y : RoutineParts). y.pid) x z rs same) ∙ e) in
          found_here (λ (y : Caller). y.pid) x (caller_of z) (map caller_of rs) same ∙ ap (λ (y : RoutineParts). Some (caller_of y)) is)
      | inr ne ↦ found_there (λ (y : Caller). y.pid) x (caller_of z) (map caller_of rs) ne
          ∙ found_caller x rs r (sym (found_there (λ (y : RoutineParts). y.pid) x z rs ne) ∙ e)
    ]

all_mapped : {X : Type 0} (P Q : X → Type 0) (xs : List X) → ((x : X) → P x → Q x) → AllByRecursion P xs → AllByRecursion Q xs
all_mapped P Q [] g h = tt
all_mapped P Q (x ∷ xs) g h = (g x h.0, all_mapped P Q xs g h.1)

-- a live routine calls live ones alone
pub live_calls : (p : IlProgram) (x : ℕ) (r : RoutineParts) → is_live p x ≡ true → routine_at p.routines x ≡ Some r
    → BlocksCallIn (λ q. is_live p q ≡ true) r.blocks
live_calls p x r live e =
    let cs = map caller_of p.routines in
    let main = main_pid p.shapes in
    blocks_call (λ q. is_live p q ≡ true) r.blocks
    (all_mapped (λ q. is_in (callees r.blocks) q ≡ true) (λ q. is_live p q ≡ true) (callees r.blocks)
    (λ q h. reached_calls cs main x q (caller_of r) (found_caller x p.routines r e) live h) (all_in (callees r.blocks)))

pub main_live : (p : IlProgram) → is_live p (main_pid p.shapes) ≡ true
main_live p = reached_from (map caller_of p.routines) (main_pid p.shapes)
