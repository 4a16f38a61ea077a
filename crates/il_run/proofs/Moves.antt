-- Each step keeps what is to come.
use Rattle.std.proofs.Common.{◌≡◌, ℕ, zero, suc, ◌+◌, ◌-◌, ◌<◌, ◌≤◌, List, [], ◌∷◌, ◌++◌, length, take, refl, ap, subst, sym, ◌∙◌, arith}
use Rattle.std.specs.Prelude.{slice_index, sum, Result, Ok, Err}
use Rattle.hlo_num.specs.declared.word.Trap.{Trap}
use Rattle.il_core.specs.declared.instr.Instr.{Instr}
use Rattle.il_core.specs.declared.instr.Instr.TheVariants.{Turn, GetChar, PutChar}
use Rattle.il_core.specs.declared.instr.End.{End}
use Rattle.il_core.specs.declared.instr.End.TheVariants as ends
use Rattle.il_core.specs.declared.program.IlProgram.{IlProgram}
use Rattle.il_core.specs.World.{World, Outcome, Returns, Ends, Stuck, Exit, Trapped, OutOfTurns, ended, each, from_list, turn_at, with_return}
use Rattle.il_core.specs.World.{first_byte, other_bytes, after_get, after_put, low_byte, choose}
use Rattle.il_core.specs.Meaning.{Frame, with_reg, frame_of, received, returned, Next, step, finish, Recorder, noted, run_of, lengths}
use Rattle.il_run.specs.declared.machine.Machine.{Machine}
use Rattle.il_run.specs.declared.machine.Suspended.{Suspended}
use Rattle.il_run.specs.declared.store.Store.{Store}
use Rattle.il_run.specs.declared.tables.Tables.{Tables}
use Rattle.il_core.specs.Places.{run_from, calls_of, backs_of}
use Rattle.il_run.specs.Plain.{Data, IsPlain, plain, frame_in, data_in, lengths_of, KeepsBelow, Executes, SetsReg}
use Rattle.il_run.specs.Words.{arrays_in}
use Rattle.il_run.specs.Machine.{routine_in, block_in, IsTabled, IsSuspended, Stacked, IsSound, frame_at, receive, resume, world_in, left, IsNext, site_at}
use Rattle.il_run.proofs.Arms.{sets_data, sets_below, reg_is}
use Rattle.il_core.proofs.Places.{back_from}
use Rattle.il_run.proofs.Places.{run_instr, run_finish, later, later_is, with_data, plain_step, lengths_are}
use Rattle.il_run.proofs.Words.{window_below, arrays_below}

module _ (p : IlProgram) where
  pub stacked_le : (lo le : ℕ) (ss : List Suspended) (hi he : ℕ) → Stacked p lo le ss hi he → (lo ≤ hi) × (le ≤ he)
  stacked_le lo le [] hi he s = let a : lo ≡ hi = s.0 in let b : le ≡ he = s.1 in (omega arith, omega arith)
  stacked_le lo le (x ∷ xs) hi he s = let r = stacked_le (lo + (routine_in p x.routine).regs) (le + sum (routine_in p x.routine).arrays) xs hi he s.1
      in (omega (arith, r.0), omega (arith, r.1))

  -- the frame of a waiting call lies below the last place
  frame_below : (xs ys us vs : List ℕ) (s : Suspended) (hi he : ℕ) → s.at_regs + (routine_in p s.routine).regs ≤ hi
      → s.at_elements + sum (routine_in p s.routine).arrays ≤ he → take hi xs ≡ take hi ys → take he us ≡ take he vs → frame_at p xs us s ≡ frame_at p ys vs s
  frame_below xs ys us vs s hi he a b e f = λ i. record {
    regs = window_below xs ys s.at_regs (routine_in p s.routine).regs hi e a i;
    arrays = arrays_below us vs s.at_elements (routine_in p s.routine).arrays he f b i;
  }

  pub stacked_push : (lo le : ℕ) (ss : List Suspended) (hi he : ℕ) (s : Suspended) → Stacked p lo le ss hi he → IsSuspended p hi he s
      → Stacked p lo le (ss ++ s ∷ []) (hi + (routine_in p s.routine).regs) (he + sum (routine_in p s.routine).arrays)
  stacked_push lo le [] hi he s st is = (
    subst (λ (n : ℕ). IsSuspended p n le s) (sym st.0) (subst (λ (n : ℕ). IsSuspended p hi n s) (sym st.1) is),
    (ap (λ (n : ℕ). n + (routine_in p s.routine).regs) st.0, ap (λ (n : ℕ). n + sum (routine_in p s.routine).arrays) st.1),
  )
  stacked_push lo le (x ∷ xs) hi he s st is = (
    st.0,
    stacked_push (lo + (routine_in p x.routine).regs) (le + sum (routine_in p x.routine).arrays) xs hi he s
        st.1 is,
  )

  pub record Popped (lo le : ℕ) (ss : List Suspended) (hi he : ℕ) (s : Suspended) : Type 0 where
    pub below : Stacked p lo le ss s.at_regs s.at_elements
    pub is : IsSuspended p s.at_regs s.at_elements s
    pub regs : s.at_regs + (routine_in p s.routine).regs ≡ hi
    pub elements : s.at_elements + sum (routine_in p s.routine).arrays ≡ he

  pub stacked_pop : (lo le : ℕ) (ss : List Suspended) (hi he : ℕ) (s : Suspended) → Stacked p lo le (ss ++ s ∷ []) hi he → Popped lo le ss hi he s
  stacked_pop lo le [] hi he s st = record {
    below = (sym st.0.at_regs, sym st.0.at_elements);
    is = record { at_regs = refl; at_elements = refl; place = st.0.place; dest = st.0.dest };
    regs = ap (λ (n : ℕ). n + (routine_in p s.routine).regs) st.0.at_regs ∙ st.1.0;
    elements = ap (λ (n : ℕ). n + sum (routine_in p s.routine).arrays) st.0.at_elements ∙ st.1.1;
  }
  stacked_pop lo le (x ∷ xs) hi he s st =
      let r = stacked_pop (lo + (routine_in p x.routine).regs) (le + sum (routine_in p x.routine).arrays) xs hi he s st.1 in
      record { below = (st.0, r.below); is = r.is; regs = r.regs; elements = r.elements }

module _ {S : Type 0} (note : Recorder S) (p : IlProgram) where
  -- words below the last place decide how the waiting calls go on
  pub resume_same : (lo le : ℕ) (ss : List Suspended) (hi he : ℕ) (xs ys us vs : List ℕ) (o : Outcome S) → Stacked p lo le ss hi he → take hi xs ≡ take hi ys
      → take he us ≡ take he vs → resume note p xs us ss o ≡ resume note p ys vs ss o
  resume_same lo le [] hi he xs ys us vs o s e f = refl
  resume_same lo le (x ∷ rest) hi he xs ys us vs o s e f =
      let bounds = stacked_le p (lo + (routine_in p x.routine).regs) (le + sum (routine_in p x.routine).arrays) rest hi he s.1 in
      ap (λ (g : Frame). with_return (resume note p xs us rest o) (λ v w. run_from note p (routine_in p x.routine) x.block x.instr (received g x.dest v) w))
      (frame_below p xs ys us vs x hi he (omega (arith, s.0.at_regs, bounds.0)) (omega (arith, s.0.at_elements, bounds.1)) e f)
      ∙ ap (λ (o1 : Outcome S). receive note p ys vs x o1) (resume_same (lo + (routine_in p x.routine).regs) (le + sum (routine_in p x.routine).arrays) rest hi
      he xs ys us vs o s.1 e f)

  pub resume_push : (xs us : List ℕ) (ss : List Suspended) (s : Suspended) (o : Outcome S)
      → resume note p xs us (ss ++ s ∷ []) o ≡ resume note p xs us ss (receive note p xs us s o)
  resume_push xs us [] s o = refl
  resume_push xs us (x ∷ rest) s o = ap (λ (o1 : Outcome S). receive note p xs us x o1) (resume_push xs us rest s o)

  pub resume_end : (xs us : List ℕ) (ss : List Suspended) (e : Rattle.il_core.specs.World.Ending) (output : List ℕ) (log : S)
      → resume note p xs us ss (Ends e output log) ≡ Ends e output log
  resume_end xs us [] e output log = refl
  resume_end xs us (x ∷ rest) e output log = ap (λ (o1 : Outcome S). receive note p xs us x o1) (resume_end xs us rest e output log)

-- what is left of a machine whose words below the current call stay
module _ {S : Type 0} (note : Recorder S) (p : IlProgram) (t : Tables) (tabled : IsTabled p t) (old : Machine) (sound : IsSound p t old) where
  -- the waiting calls see no difference
  below_same : (s : Store) (o : Outcome S) → KeepsBelow old.store s
      → resume note p old.store.regs.items old.store.elements.items old.stack.items o ≡ resume note p s.regs.items s.elements.items old.stack.items o
  below_same s o k = resume_same note p 0 0 old.stack.items old.store.at_regs old.store.at_elements old.store.regs.items s.regs.items old.store.elements.items
      s.elements.items o sound.stacked (sym k.regs) (sym k.elements)

  -- a register of the current call gets a word
  pub reg_left : (s : Store) (d v n : ℕ) (w : World S) → d < (routine_in p old.routine).regs → SetsReg old.store s d v
      → resume note p old.store.regs.items old.store.elements.items old.stack.items
      (run_from note p (routine_in p old.routine) old.block n (with_reg (frame_in old.store (routine_in p old.routine)) d v)
      (record w { objects = arrays_in old.store.words.items 0 t.objects.sizes.items }))
      ≡ resume note p s.regs.items s.elements.items old.stack.items
      (run_from note p (routine_in p old.routine) old.block n (frame_in s (routine_in p old.routine))
      (record w { objects = arrays_in s.words.items 0 t.objects.sizes.items }))
  reg_left s d v n w lt set =
      ap (λ (m : Data). resume note p old.store.regs.items old.store.elements.items old.stack.items
      (run_from note p (routine_in p old.routine) old.block n m.frame (record w { objects = m.objects })))
      (sym (sets_data old.store (routine_in p old.routine) t.objects.sizes.items sound.holds s d v lt set))
      ∙ below_same s (run_from note p (routine_in p old.routine) old.block n (frame_in s (routine_in p old.routine))
      (record w { objects = arrays_in s.words.items 0 t.objects.sizes.items }))
      (sets_below old.store (routine_in p old.routine) t.objects.sizes.items sound.holds s d v set)

  plain_run : (i : Instr) (w : World S) (result : Result Data Trap) → IsNext p old i → IsPlain i
      → w.objects ≡ arrays_in old.store.words.items 0 t.objects.sizes.items
      → plain (lengths_of (routine_in p old.routine) t.objects.sizes.items) i (data_in old.store (routine_in p old.routine) t.objects.sizes.items) ≡ result
      → run_from note p (routine_in p old.routine) old.block old.instr (frame_in old.store (routine_in p old.routine)) w ≡ with_data result w
      (λ f1 w1. run_from note p (routine_in p old.routine) old.block (suc old.instr) f1 w1)
  plain_run i w result next is objects effect =
      let r = routine_in p old.routine in
      let go : Next S = λ f1 w1. run_from note p r old.block (suc old.instr) f1 w1 in
      run_instr note p r old.block old.instr i (frame_in old.store r) w sound.place.in_routine next.is
      ∙ plain_step (calls_of note p r) (lengths p r) (site_at r old.block old.instr) i go (frame_in old.store r) w is
      ∙ ap (λ (os : ℕ → ℕ → ℕ). with_data (plain (lengths p r) i (record { frame = frame_in old.store r; objects = os })) w go) objects
      ∙ ap (λ (n : Rattle.il_core.specs.Meaning.Lengths). with_data (plain n i (data_in old.store r t.objects.sizes.items)) w go) (lengths_are p t r tabled)
      ∙ ap (λ (m : Result Data Trap). with_data m w go) effect

  -- a plain instruction
  pub plain_left : (i : Instr) (s : Store) (input output : List ℕ) (log : S) → IsNext p old i → IsPlain i
      → Executes (routine_in p old.routine) t.objects.sizes.items i old.store s (Ok tt)
      → left note p t old input output log ≡ left note p t (record old { store = s; instr = old.instr + 1 }) input output log
  plain_left i s input output log next is done =
      let r = routine_in p old.routine in
      let w = world_in note p t old input output log in
      ap (λ (o : Outcome S). resume note p old.store.regs.items old.store.elements.items old.stack.items o)
      (plain_run i w (Ok (data_in s r t.objects.sizes.items)) next is refl done.effect)
      ∙ below_same s (run_from note p r old.block (suc old.instr) (frame_in s r) (record w { objects = arrays_in s.words.items 0 t.objects.sizes.items }))
      done.below
      ∙ ap (λ (n : ℕ). resume note p s.regs.items s.elements.items old.stack.items
      (run_from note p r old.block n (frame_in s r) (record w { objects = arrays_in s.words.items 0 t.objects.sizes.items })))
      (let e : suc old.instr ≡ old.instr + 1 = omega arith in e)

  pub plain_trap : (i : Instr) (s : Store) (tr : Trap) (input output : List ℕ) (log : S) → IsNext p old i → IsPlain i
      → Executes (routine_in p old.routine) t.objects.sizes.items i old.store s (Err tr)
      → left note p t old input output log ≡ Ends (Trapped tr) output log
  plain_trap i s tr input output log next is done =
      ap (λ (o : Outcome S). resume note p old.store.regs.items old.store.elements.items old.stack.items o)
      (plain_run i (world_in note p t old input output log) (Err tr) next is refl done.effect)
      ∙ resume_end note p old.store.regs.items old.store.elements.items old.stack.items (Trapped tr) output log

  -- a turn
  turn_run : (w : World S) (n : ℕ) → IsNext p old Turn → w.turns ≡ n
      → run_from note p (routine_in p old.routine) old.block old.instr (frame_in old.store (routine_in p old.routine)) w
      ≡ turn_at (ended OutOfTurns w) (λ w1. run_from note p (routine_in p old.routine) old.block (suc old.instr) (frame_in old.store (routine_in p old.routine))
      w1) w n
  turn_run w n next e =
      let r = routine_in p old.routine in
      run_instr note p r old.block old.instr Turn (frame_in old.store r) w sound.place.in_routine next.is
      ∙ ap (λ (k : ℕ). turn_at (ended OutOfTurns w) (λ w1. run_from note p r old.block (suc old.instr) (frame_in old.store r) w1) w k) e

  pub turn_left : (input output : List ℕ) (log : S) → IsNext p old Turn → 0 < old.turns
      → left note p t old input output log ≡ left note p t (record old { instr = old.instr + 1; turns = old.turns - 1 }) input output log
  turn_left input output log next some =
      let r = routine_in p old.routine in
      ap (λ (o : Outcome S). resume note p old.store.regs.items old.store.elements.items old.stack.items o)
      (turn_run (world_in note p t old input output log) (suc (old.turns - 1)) next (omega arith))
      ∙ ap (λ (n : ℕ). resume note p old.store.regs.items old.store.elements.items old.stack.items
      (run_from note p r old.block n (frame_in old.store r) (record (world_in note p t old input output log) { turns = old.turns - 1 })))
      (let e : suc old.instr ≡ old.instr + 1 = omega arith in e)

  pub turn_over : (input output : List ℕ) (log : S) → IsNext p old Turn → old.turns ≡ 0 → left note p t old input output log ≡ Ends OutOfTurns output log
  turn_over input output log next none =
      ap (λ (o : Outcome S). resume note p old.store.regs.items old.store.elements.items old.stack.items o)
      (turn_run (world_in note p t old input output log) 0 next none)
      ∙ resume_end note p old.store.regs.items old.store.elements.items old.stack.items OutOfTurns output log

  -- the input and the output
  pub get_left : (d : ℕ) (s : Store) (input output : List ℕ) (log : S) → IsNext p old (GetChar d) → d < (routine_in p old.routine).regs
      → SetsReg old.store s d (first_byte input)
      → left note p t old input output log ≡ left note p t (record old { store = s; instr = old.instr + 1 }) (other_bytes input) output log
  get_left d s input output log next lt set =
      let r = routine_in p old.routine in
      let w : World S = world_in note p t old (other_bytes input) output log in
      ap (λ (o : Outcome S). resume note p old.store.regs.items old.store.elements.items old.stack.items o)
      (run_instr note p r old.block old.instr (GetChar d) (frame_in old.store r) (world_in note p t old input output log) sound.place.in_routine next.is)
      ∙ reg_left s d (first_byte input) (suc old.instr) w lt set
      ∙ ap (λ (n : ℕ). resume note p s.regs.items s.elements.items old.stack.items
      (run_from note p r old.block n (frame_in s r) (record w { objects = arrays_in s.words.items 0 t.objects.sizes.items })))
      (let e : suc old.instr ≡ old.instr + 1 = omega arith in e)

  pub put_left : (d x v b : ℕ) (s : Store) (input output : List ℕ) (log : S) → IsNext p old (PutChar d x) → d < (routine_in p old.routine).regs
      → x < (routine_in p old.routine).regs
      → v ≡ slice_index old.store.regs.items (old.store.at_regs + x) → b ≡ low_byte v → SetsReg old.store s d b
      → left note p t old input output log ≡ left note p t (record old { store = s; instr = old.instr + 1 }) input (output ++ b ∷ []) log
  put_left d x v b s input output log next lt ltx isv isb set =
      let r = routine_in p old.routine in
      let f = frame_in old.store r in
      let w : World S = world_in note p t old input (output ++ b ∷ []) log in
      let low : low_byte (f.regs x) ≡ b = ap low_byte (sym (isv ∙ reg_is old.store r t.objects.sizes.items sound.holds x ltx)) ∙ sym isb in
      ap (λ (o : Outcome S). resume note p old.store.regs.items old.store.elements.items old.stack.items o)
      (run_instr note p r old.block old.instr (PutChar d x) f (world_in note p t old input output log) sound.place.in_routine next.is
      ∙ ap (λ (c : ℕ). run_from note p r old.block (suc old.instr) (with_reg f d c)
      (record (world_in note p t old input output log) { output = output ++ c ∷ [] })) low)
      ∙ reg_left s d b (suc old.instr) w lt set
      ∙ ap (λ (n : ℕ). resume note p s.regs.items s.elements.items old.stack.items
      (run_from note p r old.block n (frame_in s r) (record w { objects = arrays_in s.words.items 0 t.objects.sizes.items })))
      (let e : suc old.instr ≡ old.instr + 1 = omega arith in e)

  -- the ends of blocks
  pub end_run : (e : End) (w : World S) → length (block_in (routine_in p old.routine) old.block).instrs ≤ old.instr
      → e ≡ (block_in (routine_in p old.routine) old.block).end
      → run_from note p (routine_in p old.routine) old.block old.instr (frame_in old.store (routine_in p old.routine)) w ≡ finish
      (backs_of note p (routine_in p old.routine)) (later note p (routine_in p old.routine) old.block) e (frame_in old.store (routine_in p old.routine)) w
  end_run e w le is =
      let r = routine_in p old.routine in
      run_finish note p r old.block old.instr (frame_in old.store r) w sound.place.in_routine le
      ∙ ap (λ (e1 : End). finish (backs_of note p r) (later note p r old.block) e1 (frame_in old.store r) w) (sym is)

  abbrev pub AtEnd : End → Type 0
  AtEnd e = (length (block_in (routine_in p old.routine) old.block).instrs ≤ old.instr) × (e ≡ (block_in (routine_in p old.routine) old.block).end)

  pub jump_left : (u : ℕ) (input output : List ℕ) (log : S) → AtEnd (ends.Jump u) → old.block < u
      → left note p t old input output log ≡ left note p t (record old { block = u; instr = 0 }) input output log
  jump_left u input output log here less =
      let r = routine_in p old.routine in
      let w = world_in note p t old input output log in
      ap (λ (o : Outcome S). resume note p old.store.regs.items old.store.elements.items old.stack.items o)
      (end_run (ends.Jump u) w here.0 here.1 ∙ later_is note p r old.block u (frame_in old.store r) w sound.place.in_routine less)

  choose_yes : {A : Type 0} (n : ℕ) (a b : A) → 0 < n → choose n a b ≡ a
  choose_yes zero a b h = absurd (omega arith)
  choose_yes (suc n) a b h = refl

  pub branch_left : (x u v c : ℕ) (input output : List ℕ) (log : S) → AtEnd (ends.Branch x u v) → x < (routine_in p old.routine).regs
      → c ≡ slice_index old.store.regs.items (old.store.at_regs + x) → 0 < c → old.block < u
      → left note p t old input output log ≡ left note p t (record old { block = u; instr = 0 }) input output log
  branch_left x u v c input output log here lt is some less =
      let r = routine_in p old.routine in
      let f = frame_in old.store r in
      let w = world_in note p t old input output log in
      ap (λ (o : Outcome S). resume note p old.store.regs.items old.store.elements.items old.stack.items o)
      (end_run (ends.Branch x u v) w here.0 here.1
      ∙ ap (λ (k : ℕ). choose k (later note p r old.block u f w) (later note p r old.block v f w))
      (sym (is ∙ reg_is old.store r t.objects.sizes.items sound.holds x lt))
      ∙ choose_yes c _ _ some
      ∙ later_is note p r old.block u f w sound.place.in_routine less)

  pub branch_zero : (x u v c : ℕ) (input output : List ℕ) (log : S) → AtEnd (ends.Branch x u v) → x < (routine_in p old.routine).regs
      → c ≡ slice_index old.store.regs.items (old.store.at_regs + x) → c ≡ 0 → old.block < v
      → left note p t old input output log ≡ left note p t (record old { block = v; instr = 0 }) input output log
  branch_zero x u v c input output log here lt is none less =
      let r = routine_in p old.routine in
      let f = frame_in old.store r in
      let w = world_in note p t old input output log in
      ap (λ (o : Outcome S). resume note p old.store.regs.items old.store.elements.items old.stack.items o)
      (end_run (ends.Branch x u v) w here.0 here.1
      ∙ ap (λ (k : ℕ). choose k (later note p r old.block u f w) (later note p r old.block v f w))
      (sym (is ∙ reg_is old.store r t.objects.sizes.items sound.holds x lt) ∙ none)
      ∙ later_is note p r old.block v f w sound.place.in_routine less)

  pub loop_left : (u : ℕ) (input output : List ℕ) (log : S) → AtEnd (ends.Loop u) → 0 < old.turns
      → left note p t old input output log ≡ left note p t (record old { block = u; instr = 0; turns = old.turns - 1 }) input output log
  loop_left u input output log here some =
      let r = routine_in p old.routine in
      let w = world_in note p t old input output log in
      ap (λ (o : Outcome S). resume note p old.store.regs.items old.store.elements.items old.stack.items o)
      (end_run (ends.Loop u) w here.0 here.1 ∙ back_from note p r u (old.turns - 1) (frame_in old.store r) w (omega arith))

  pub loop_over : (u : ℕ) (input output : List ℕ) (log : S) → AtEnd (ends.Loop u) → old.turns ≡ 0
      → left note p t old input output log ≡ Ends OutOfTurns output log
  loop_over u input output log here none =
      let r = routine_in p old.routine in
      let w = world_in note p t old input output log in
      ap (λ (o : Outcome S). resume note p old.store.regs.items old.store.elements.items old.stack.items o)
      (end_run (ends.Loop u) w here.0 here.1
      ∙ ap (λ (k : ℕ). turn_at (ended OutOfTurns w) (λ w1. Rattle.il_core.specs.Meaning.exec note p (suc w1.turns) r u (frame_in old.store r) w1) w k) none)
      ∙ resume_end note p old.store.regs.items old.store.elements.items old.stack.items OutOfTurns output log

  pub exit_left : (x c : ℕ) (input output : List ℕ) (log : S) → AtEnd (ends.Exit x) → x < (routine_in p old.routine).regs
      → c ≡ slice_index old.store.regs.items (old.store.at_regs + x) → left note p t old input output log ≡ Ends (Exit c) output log
  exit_left x c input output log here lt is =
      let r = routine_in p old.routine in
      ap (λ (o : Outcome S). resume note p old.store.regs.items old.store.elements.items old.stack.items o)
      (end_run (ends.Exit x) (world_in note p t old input output log) here.0 here.1
      ∙ ap (λ (k : ℕ). Ends (Exit k) output log) (sym (is ∙ reg_is old.store r t.objects.sizes.items sound.holds x lt)))
      ∙ resume_end note p old.store.regs.items old.store.elements.items old.stack.items (Exit c) output log
