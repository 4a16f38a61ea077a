-- The run from a place, one instruction or one end further.
use Rattle.std.proofs.Common.{◌≡◌, ℕ, zero, suc, ◌+◌, ◌<◌, ◌≤◌, List, [], ◌∷◌, take, drop, Bool, refl, ap, sym, ◌∙◌, arith, zero-add, add-zero, ne_eqb, eq-eqb}
use Rattle.std.specs.Prelude.{if◌then◌else◌, Option, Some}
use Rattle.il_core.specs.declared.instr.Block.{Block}
use Rattle.il_core.specs.declared.instr.Instr.{Instr}
use Rattle.il_core.specs.declared.program.IlProgram.{IlProgram}
use Rattle.il_core.specs.Routine.{RoutineParts}
use Rattle.il_core.specs.Program.{routine_at}
use Rattle.il_core.specs.World.{World, OutOfTurns, Outcome, Returns, Ends, Stuck, ended, turn, turn_at}
use Rattle.il_core.specs.Meaning.{Frame, frame_of, Lengths, lengths, Next, Act, step, steps, sites_in, sites_of, finish, enter, Recorder, noted, begin}
use Rattle.il_core.specs.Meaning.{exec, act_noting}
use Rattle.il_core.specs.Places.{sites_before, from_block, calls_of, backs_of, run_from}
use Rattle.il_core.proofs.Bound.{outcome_by, turn_alike, begin_alike, enter_alike, exec_alike}

same_outcome : {S : Type 0} (o : Outcome S) → outcome_by (λ l. l) o ≡ o
same_outcome (Returns v w) = refl
same_outcome (Ends e output log) = refl
same_outcome Stuck = refl

module _ {S : Type 0} (call : Act S) (back : ℕ → Next S) (n : Lengths) where
  -- blocks before the one that is wanted are passed over
  pass : (xs : List Block) (b k i u : ℕ) (f : Frame) (w : World S) → b + i ≤ u
      → enter call back n xs b k u f w ≡ enter call back n (drop i xs) (b + i) (sites_before xs i k) u f w
  pass xs b k zero u f w le = ap (λ (c : ℕ). enter call back n xs c k u f w) (sym (add-zero b))
  pass [] b k (suc i) u f w le = refl
  pass (x ∷ xs) b k (suc i) u f w le =
      let next : suc b + i ≡ b + suc i = omega arith in
      ap (λ (c : Bool). if c then steps call n k x.instrs (λ f1 w1. finish back (λ v f2 w2. enter call back n xs (suc b) (sites_of x.instrs + k) v f2 w2) x.end
      f1 w1) f w else enter call back n xs (suc b) (sites_of x.instrs + k) u f w) (ne_eqb u b (omega arith))
      ∙ pass xs (suc b) (sites_of x.instrs + k) i u f w (omega arith)
      ∙ ap (λ (c : ℕ). enter call back n (drop i xs) c (sites_before xs i (sites_of x.instrs + k)) u f w) next

  here : (xs : List Block) (b k : ℕ) (f : Frame) (w : World S) → enter call back n xs b k b f w ≡ from_block call back n xs b k 0 f w
  here [] b k f w = refl
  here (x ∷ xs) b k f w =
      ap (λ (c : Bool). if c then steps call n k x.instrs (λ f1 w1. finish back (λ v f2 w2. enter call back n xs (suc b) (sites_of x.instrs + k) v f2 w2) x.end
      f1 w1) f w else enter call back n xs (suc b) (sites_of x.instrs + k) b f w) (eq-eqb b b refl)
      ∙ ap (λ (c : ℕ). steps call n c x.instrs (λ f1 w1. finish back (λ v f2 w2. enter call back n xs (suc b) (sites_of x.instrs + k) v f2 w2) x.end f1 w1) f w)
      (sym (zero-add k))

  pass_all : (xs : List Block) (i u : ℕ) (f : Frame) (w : World S) → i ≤ u
      → enter call back n xs 0 0 u f w ≡ enter call back n (drop i xs) i (sites_before xs i 0) u f w
  pass_all xs i u f w le =
      pass xs 0 0 i u f w (omega arith) ∙ ap (λ (c : ℕ). enter call back n (drop i xs) c (sites_before xs i 0) u f w) (zero-add i)

  -- the run from the start of a block
  pub go_to : (xs : List Block) (u : ℕ) (f : Frame) (w : World S)
      → enter call back n xs 0 0 u f w ≡ from_block call back n (drop u xs) u (sites_before xs u 0) 0 f w
  go_to xs u f w = pass_all xs u u f w (omega arith) ∙ here (drop u xs) u (sites_before xs u 0) f w

  -- the blocks behind block b lead to the same later blocks as all do
  pub go_on : (all : List Block) (x : Block) (xs : List Block) (b u : ℕ) (f : Frame) (w : World S) → drop b all ≡ x ∷ xs → b < u
      → enter call back n xs (suc b) (sites_of x.instrs + sites_before all b 0) u f w ≡ from_block call back n (drop u all) u (sites_before all u 0) 0 f w
  go_on all x xs b u f w e lt =
      let k = sites_before all b 0 in
      sym (ap (λ (c : Bool). if c then steps call n k x.instrs (λ f1 w1. finish back (λ v f2 w2. enter call back n xs (suc b) (sites_of x.instrs + k) v f2 w2)
      x.end f1 w1) f w else enter call back n xs (suc b) (sites_of x.instrs + k) u f w) (ne_eqb u b (omega arith)))
      ∙ ap (λ (ys : List Block). enter call back n ys b k u f w) (sym e)
      ∙ sym (pass_all all b u f w (omega arith))
      ∙ go_to all u f w

pub sites_take : (is : List Instr) (j : ℕ) (i : Instr) → drop j is ≡ i ∷ drop (suc j) is → sites_of (take (suc j) is) ≡ sites_of (take j is) + sites_in i
sites_take [] zero i e = cc
sites_take [] (suc j) i e = cc
sites_take (y ∷ is) zero i e = let same : y ≡ i = cc in ap (λ (z : Instr). sites_in z + 0) same ∙ omega arith
sites_take (y ∷ is) (suc j) i e = let more = sites_take is j i e in omega (arith, more)

module _ {S : Type 0} (call : Act S) (back : ℕ → Next S) (n : Lengths) where
  -- one instruction further
  pub run_step : (x : Block) (xs : List Block) (b k j : ℕ) (i : Instr) (f : Frame) (w : World S) → drop j x.instrs ≡ i ∷ drop (suc j) x.instrs
      → from_block call back n (x ∷ xs) b k j f w ≡ step call n (sites_of (take j x.instrs) + k) i (λ f1 w1. from_block call back n (x ∷ xs) b k (suc j) f1 w1)
      f w
  run_step x xs b k j i f w e =
      let K = sites_of (take j x.instrs) + k in
      let go : Next S = λ f1 w1. finish back (λ u f2 w2. enter call back n xs (suc b) (sites_of x.instrs + k) u f2 w2) x.end f1 w1 in
      let count : sites_in i + K ≡ sites_of (take (suc j) x.instrs) + k = omega (arith, sites_take x.instrs j i e) in
      ap (λ (is : List Instr). steps call n K is go f w) e
      ∙ ap (λ (c : ℕ). step call n K i (λ f1 w1. steps call n c (drop (suc j) x.instrs) go f1 w1) f w) count

  -- the end of a block
  pub run_end : (x : Block) (xs : List Block) (b k j : ℕ) (f : Frame) (w : World S) → drop j x.instrs ≡ []
      → from_block call back n (x ∷ xs) b k j f w ≡ finish back (λ u f2 w2. enter call back n xs (suc b) (sites_of x.instrs + k) u f2 w2) x.end f w
  run_end x xs b k j f w e =
      ap (λ (is : List Instr). steps call n (sites_of (take j x.instrs) + k) is
      (λ f1 w1. finish back (λ u f2 w2. enter call back n xs (suc b) (sites_of x.instrs + k) u f2 w2) x.end f1 w1) f w) e

module _ {S : Type 0} (note : Recorder S) (p : IlProgram) where
  -- a run is the run of its blocks, with no bound
  pub exec_from : (r : RoutineParts) (u : ℕ) (f : Frame) (w : World S) → exec note p (suc w.turns) r u f w ≡ run_from note p r u 0 f w
  exec_from r u f w =
      let like = (enter_alike (λ (l : S). l) w.turns
      (λ k q args w1. turn (ended OutOfTurns) (λ w2. begin (exec note p w.turns) (routine_at p.routines q) args (noted note r.pid k q w2)) w1)
      (calls_of note p r)
      (λ v f1 w1. turn (ended OutOfTurns) (λ w2. exec note p w.turns r v f1 w2) w1)
      (backs_of note p r)
      (lengths p r) r.blocks 0 0 u
      (record {
        by = λ k q args w1 le. turn_alike (λ (l : S). l) w.turns w1.turns w1
            (λ w2. begin (exec note p w.turns) (routine_at p.routines q) args (noted note r.pid k q w2))
            (λ w2. act_noting note p q args (noted note r.pid k q w2)) le (λ w2 lt.
            begin_alike (λ (l : S). l) w2.turns w2.output (exec note p w.turns) (exec note p (suc w2.turns)) (noted note r.pid k q w2)
            (λ r1 u1 f1. exec_alike (λ (l : S). l) note note (λ a b c l. refl) p w.turns (suc w2.turns) r1 u1 f1 (noted note r.pid k q w2) (omega arith)
            (omega arith)) (routine_at p.routines q) args);
      })
      (λ v. record {
        by = λ f1 w1 le. turn_alike (λ (l : S). l) w.turns w1.turns w1 (λ w2. exec note p w.turns r v f1 w2)
            (λ w2. exec note p (suc w2.turns) r v f1 w2) le (λ w2 lt. exec_alike (λ (l : S). l) note note (λ a b c l. refl) p w.turns (suc w2.turns) r v f1 w2
            (omega arith) (omega arith));
      })).by f w (omega arith) in
      sym (like.0 ∙ same_outcome _) ∙ go_to (calls_of note p r) (backs_of note p r) (lengths p r) r.blocks u f w

  -- going back to a block, where a turn is left
  pub back_from : (r : RoutineParts) (u t : ℕ) (f : Frame) (w : World S) → w.turns ≡ suc t
      → backs_of note p r u f w ≡ run_from note p r u 0 f (record w { turns = t })
  back_from r u t f w e =
      ap (λ (c : ℕ). turn_at (ended OutOfTurns w) (λ w1. exec note p (suc w1.turns) r u f w1) w c) e ∙ exec_from r u f (record w { turns = t })

  -- a call, where a turn is left
  pub call_from : (r callee : RoutineParts) (k q t : ℕ) (args : List ℕ) (w : World S) → w.turns ≡ suc t → routine_at p.routines q ≡ Some callee
      → calls_of note p r k q args w ≡ run_from note p callee 0 0 (frame_of callee.params args) (noted note r.pid k q (record w { turns = t }))
  call_from r callee k q t args w e is =
      let w1 = noted note r.pid k q (record w { turns = t }) in
      ap (λ (c : ℕ). turn_at (ended OutOfTurns w) (λ w2. act_noting note p q args (noted note r.pid k q w2)) w c) e
      ∙ ap (λ (o : Option RoutineParts). begin (exec note p (suc t)) o args w1) is
      ∙ exec_from callee 0 (frame_of callee.params args) w1
