-- Calls and returns keep what is to come.
use Rattle.std.proofs.Common.{◌≡◌, ℕ, suc, ◌+◌, ◌-◌, ◌<◌, ◌≤◌, List, [], ◌∷◌, ◌++◌, length, take, refl, ap, subst, sym, ◌∙◌, arith, length-append}
use Rattle.std.specs.declared.alloc.Global.{Global}
use Rattle.std.specs.Prelude.{Vec, sum, replicate, Option, Some, None}
use Rattle.std.proofs.lemmas.List.{take-take, take-append-le, length-replicate, length-take-le}
use Rattle.il_core.specs.declared.instr.Instr.TheVariants.{Call}
use Rattle.il_core.specs.declared.program.IlProgram.{IlProgram}
use Rattle.il_core.specs.Program.{routine_at}
use Rattle.il_core.specs.Valid.{IsRegIfSome}
use Rattle.il_core.specs.World.{World, Outcome, Returns, Ends, OutOfTurns, ended, each, from_list, turn_at, with_return}
use Rattle.il_core.specs.Meaning.{Frame, frame_of, received, act_noting, Recorder, noted}
use Rattle.il_core.proofs.Frames.{frame_full}
use Rattle.il_run.specs.declared.machine.Machine.{Machine}
use Rattle.il_run.specs.declared.machine.Suspended.{Suspended}
use Rattle.il_run.specs.declared.store.Store.{Store}
use Rattle.il_run.specs.declared.tables.Tables.{Tables}
use Rattle.il_core.specs.Places.{run_from, calls_of}
use Rattle.il_run.specs.Plain.{frame_in, KeepsBelow}
use Rattle.il_run.specs.Words.{window, arrays_in}
use Rattle.il_run.specs.Machine.{routine_in, IsNext, IsTabled, IsPlace, Stacked, IsSound, frame_at, receive, resume, world_in, left, site_at}
use Rattle.il_run.specs.Frames.{Enters, Leaves, Receives}
use Rattle.il_core.proofs.Places.{call_from}
use Rattle.il_run.proofs.Arms.{sets_below}
use Rattle.il_run.proofs.Places.{run_instr}
use Rattle.il_run.proofs.Moves.{Popped, stacked_pop, stacked_push, resume_same, resume_push, resume_end, reg_left}
use Rattle.il_run.proofs.Words.{window_call, arrays_call, window_below, arrays_below}

same_frame : (f g : ℕ → ℕ) (a b : ℕ → ℕ → ℕ) → f ≡ g → a ≡ b → ◌≡◌ {A = Frame} (record { regs = f; arrays = a }) (record { regs = g; arrays = b })
same_frame f g a b e h = λ i. record { regs = e i; arrays = h i }

front : (n : ℕ) (xs more ys : List ℕ) → ys ≡ xs ++ more → n ≤ length xs → take n ys ≡ take n xs
front n xs more ys e le = ap (λ (zs : List ℕ). take n zs) e ∙ take-append-le n xs more le

module _ {S : Type 0} (note : Recorder S) (p : IlProgram) (t : Tables) (tabled : IsTabled p t) (old : Machine) (sound : IsSound p t old) where
  module _ (dest : Option ℕ) (q count : ℕ) (args : List ℕ) where
    call_run : (w : World S) → IsNext p old (Call dest q count args)
        → run_from note p (routine_in p old.routine) old.block old.instr (frame_in old.store (routine_in p old.routine)) w
        ≡ with_return (calls_of note p (routine_in p old.routine) (site_at (routine_in p old.routine) old.block old.instr) q
        (each (frame_in old.store (routine_in p old.routine)).regs args) w)
        (λ v w1. run_from note p (routine_in p old.routine) old.block (suc old.instr) (received (frame_in old.store (routine_in p old.routine)) dest v) w1)
    call_run w next = run_instr note p (routine_in p old.routine) old.block old.instr (Call dest q count args) (frame_in old.store (routine_in p old.routine)) w
        sound.place.in_routine next.is

    pub call_over : (input output : List ℕ) (log : S) → IsNext p old (Call dest q count args) → old.turns ≡ 0
        → left note p t old input output log ≡ Ends OutOfTurns output log
    call_over input output log next none =
        let r = routine_in p old.routine in
        let w = world_in note p t old input output log in
        ap (λ (o : Outcome S). resume note p old.store.regs.items old.store.elements.items old.stack.items o)
        (call_run w next
        ∙ ap (λ (k : ℕ). with_return (turn_at (ended OutOfTurns w) (λ w1. act_noting note p q (each (frame_in old.store r).regs args)
        (noted note r.pid (site_at r old.block old.instr) q w1)) w k)
        (λ v w1. run_from note p r old.block (suc old.instr) (received (frame_in old.store r) dest v) w1)) none)
        ∙ resume_end note p old.store.regs.items old.store.elements.items old.stack.items OutOfTurns output log

    -- the call that waits
    abbrev pub waiting : Suspended
    waiting = record {
      routine = old.routine;
      block = old.block;
      instr = old.instr + 1;
      dest = dest;
      at_regs = old.store.at_regs;
      at_elements =
          old.store.at_elements;
    }

    pub call_left : (callee : ℕ) (s : Store) (stack : Vec Suspended Global) (vs input output : List ℕ) (log : S)
        → IsNext p old (Call dest q count args) → 0 < old.turns → routine_at p.routines q ≡ Some (routine_in p callee)
        → vs ≡ each (frame_in old.store (routine_in p old.routine)).regs args
        → length vs ≤ (routine_in p callee).params → length vs ≤ (routine_in p callee).regs
        → Enters old.store s vs (routine_in p callee).regs (sum (routine_in p callee).arrays)
        → stack.items ≡ old.stack.items ++ waiting ∷ []
        → left note p t old input output log
        ≡ left note p t (record { store = s; routine = callee; block = 0; instr = 0; stack = stack; turns = old.turns - 1 }) input output
        (note (routine_in p old.routine).pid (site_at (routine_in p old.routine) old.block old.instr) q log)
    call_left callee s stack vs input output log next some found isv taken few enters stacks =
        let r = routine_in p old.routine in
        let c = routine_in p callee in
        let xs = old.store.regs.items in
        let us = old.store.elements.items in
        let f = frame_in old.store r in
        let w = world_in note p t old input output log in
        let k = site_at r old.block old.instr in
        let w1 : World S = noted note r.pid k q (record w { turns = old.turns - 1 }) in
        let back : Frame → Outcome S → Outcome S = λ g o. with_return o (λ v w2. run_from note p r old.block (old.instr + 1) (received g dest v) w2) in
        let regs : from_list (each f.regs args) ≡ window s.regs.items s.at_regs c.regs =
        ap from_list (sym isv) ∙ sym (window_call xs vs c.regs (c.regs - length vs) few) ∙ ap (λ (ys : List ℕ). window ys (length xs) c.regs)
        (sym enters.all_regs) ∙ ap (λ (n : ℕ). window s.regs.items n c.regs) (sym enters.at_regs) in
        let arrays : (λ (a : ℕ) (i : ℕ). 0) ≡ arrays_in s.elements.items s.at_elements c.arrays =
        sym (arrays_call us c.arrays (sum c.arrays)) ∙ ap (λ (ys : List ℕ). arrays_in ys (length us) c.arrays) (sym enters.all_elements) ∙ ap
        (λ (n : ℕ). arrays_in s.elements.items n c.arrays) (sym enters.at_elements) in
        let front_regs : take old.store.at_regs xs ≡ take old.store.at_regs s.regs.items = sym
        (front old.store.at_regs xs _ s.regs.items enters.all_regs (omega arith)) in
        let front_elements : take old.store.at_elements us ≡ take old.store.at_elements s.elements.items = sym
        (front old.store.at_elements us _ s.elements.items enters.all_elements (omega arith)) in
        let whole_regs : take (length xs) s.regs.items ≡ take (length xs) xs = front (length xs) xs _ s.regs.items enters.all_regs (omega arith) in
        let whole_elements : take (length us) s.elements.items ≡ take (length us) us = front (length us) us _ s.elements.items enters.all_elements (omega arith)
        in
        let frame : f ≡ frame_at p s.regs.items s.elements.items waiting = same_frame _ _ _ _
        (window_below xs s.regs.items old.store.at_regs r.regs (length xs) (sym whole_regs) (omega arith))
        (arrays_below us s.elements.items old.store.at_elements r.arrays (length us) (sym whole_elements) (omega arith)) in
        ap (λ (o : Outcome S). resume note p xs us old.stack.items o)
        (call_run w next
        ∙ ap (λ (o : Outcome S). with_return o (λ v w2. run_from note p r old.block (suc old.instr) (received f dest v) w2))
        (call_from note p r c k q (old.turns - 1) (each f.regs args) w (omega arith) found)
        ∙ ap (λ (n : ℕ). with_return (run_from note p c 0 0 (frame_of c.params (each f.regs args)) w1)
        (λ v w2. run_from note p r old.block n (received f dest v) w2)) (let e : suc old.instr ≡ old.instr + 1 = omega arith in e)
        ∙ ap (λ (g : Frame). back f (run_from note p c 0 0 g w1)) (frame_full c.params (each f.regs args)
        (subst (λ (ys : List ℕ). length ys ≤ c.params) isv taken))
        ∙ ap (λ (g : Frame). back f (run_from note p c 0 0 g w1)) (same_frame _ _ _ _ regs arrays)
        ∙ ap (λ (os : ℕ → ℕ → ℕ). back f (run_from note p c 0 0 (frame_in s c) (record w1 { objects = os })))
        (ap (λ (ys : List ℕ). arrays_in ys 0 t.objects.sizes.items) (sym enters.words))
        ∙ ap (λ (g : Frame). back g (run_from note p c 0 0 (frame_in s c) (record w1 { objects = arrays_in s.words.items 0 t.objects.sizes.items }))) frame)
        ∙ resume_same note p 0 0 old.stack.items old.store.at_regs old.store.at_elements xs s.regs.items us s.elements.items
        (receive note p s.regs.items s.elements.items waiting (run_from note p c 0 0 (frame_in s c)
        (record w1 { objects = arrays_in s.words.items 0 t.objects.sizes.items }))) sound.stacked front_regs front_elements
        ∙ sym (resume_push note p s.regs.items s.elements.items old.stack.items waiting
        (run_from note p c 0 0 (frame_in s c) (record w1 { objects = arrays_in s.words.items 0 t.objects.sizes.items })))
        ∙ ap (λ (zs : List Suspended). resume note p s.regs.items s.elements.items zs
        (run_from note p c 0 0 (frame_in s c) (record w1 { objects = arrays_in s.words.items 0 t.objects.sizes.items }))) (sym stacks)

    pub call_sound : (callee : ℕ) (s : Store) (stack : Vec Suspended Global) (vs : List ℕ) → IsNext p old (Call dest q count args)
        → IsRegIfSome (routine_in p old.routine).regs dest
        → callee < length p.routines → 0 < length (routine_in p callee).blocks → length vs ≤ (routine_in p callee).regs
        → Enters old.store s vs (routine_in p callee).regs (sum (routine_in p callee).arrays) → stack.items ≡ old.stack.items ++ waiting ∷ []
        → IsSound p t (record { store = s; routine = callee; block = 0; instr = 0; stack = stack; turns = old.turns - 1 })
    call_sound callee s stack vs next isdest lt some few enters stacks =
        let c = routine_in p callee in
        let xs = old.store.regs.items in
        let us = old.store.elements.items in
        let at_regs : old.store.at_regs + (routine_in p old.routine).regs ≡ s.at_regs = sound.holds.regs ∙ sym enters.at_regs in
        let at_elements : old.store.at_elements + sum (routine_in p old.routine).arrays ≡ s.at_elements = sound.holds.elements ∙ sym enters.at_elements in
        record {
          place = record { in_program = lt; in_routine = some; in_block = omega arith };
          holds = record {
            regs = omega (
              arith,
              enters.at_regs,
              ap length enters.all_regs,
              length-append xs (vs ++ replicate (c.regs - length vs) 0),
              length-append vs
                  (replicate (c.regs - length vs) 0),
              length-replicate {A = ℕ} (c.regs - length vs) 0,
            );
            elements = omega (
              arith,
              enters.at_elements,
              ap length enters.all_elements,
              length-append us (replicate (sum c.arrays) 0),
              length-replicate {A = ℕ}
                  (sum c.arrays) 0,
            );
            words = sound.holds.words ∙ sym (ap length enters.words);
          };
          stacked = subst (λ (zs : List Suspended). Stacked p 0 0 zs s.at_regs s.at_elements) (sym stacks)
              (subst (λ (n : ℕ). Stacked p 0 0 (old.stack.items ++ waiting ∷ []) n s.at_elements) at_regs
              (subst (λ (n : ℕ). Stacked p 0 0 (old.stack.items ++ waiting ∷ []) (old.store.at_regs + (routine_in p old.routine).regs) n) at_elements
              (stacked_push p 0 0 old.stack.items old.store.at_regs old.store.at_elements waiting sound.stacked
              (record {
                at_regs = refl;
                at_elements = refl;
                place = record {
                  in_program = sound.place.in_program;
                  in_routine = sound.place.in_routine;
                  in_block
                      = omega (arith, next.within);
                };
                dest = isdest;
              }))));
        }

  module _ (rest : List Suspended) (y : Suspended) (stack : Vec Suspended Global) (is : old.stack.items ≡ rest ++ y ∷ []) (stacks : stack.items ≡ rest)
      (s1 : Store) (leaves : Leaves old.store s1 y.at_regs y.at_elements) where
    popped : Popped p 0 0 rest old.store.at_regs old.store.at_elements y
    popped = stacked_pop p 0 0 rest old.store.at_regs old.store.at_elements y
        (subst (λ (zs : List Suspended). Stacked p 0 0 zs old.store.at_regs old.store.at_elements) is sound.stacked)

    -- the machine after a call has left
    abbrev pub left_call : Machine
    left_call = record { store = s1; routine = y.routine; block = y.block; instr = y.instr; stack = stack; turns = old.turns }

    pub left_sound : IsSound p t left_call
    left_sound = record {
      place = popped.is.place;
      holds = record {
        regs = omega (
          arith,
          popped.regs,
          leaves.at_regs,
          ap length leaves.all_regs,
          length-take-le old.store.at_regs old.store.regs.items (omega arith),
          sound.holds.regs,
        );
        elements = omega (
          arith,
          popped.elements,
          leaves.at_elements,
          ap length leaves.all_elements,
          length-take-le old.store.at_elements
              old.store.elements.items (omega arith),
          sound.holds.elements,
        );
        words = sound.holds.words ∙ sym (ap length leaves.words);
      };
      stacked = subst (λ (zs : List Suspended). Stacked p 0 0 zs s1.at_regs s1.at_elements) (sym stacks)
          (subst (λ (n : ℕ). Stacked p 0 0 rest n s1.at_elements) (sym leaves.at_regs)
          (subst (λ (n : ℕ). Stacked p 0 0 rest y.at_regs n) (sym leaves.at_elements) popped.below));
    }

    pub left_dest : IsRegIfSome (routine_in p y.routine).regs y.dest
    left_dest = popped.is.dest

    frame_left : frame_at p old.store.regs.items old.store.elements.items y ≡ frame_in s1 (routine_in p y.routine)
    frame_left =
        let front_regs : take old.store.at_regs old.store.regs.items ≡ take old.store.at_regs s1.regs.items = sym
        (take-take old.store.at_regs old.store.at_regs old.store.regs.items (omega arith)) ∙ ap (λ (zs : List ℕ). take old.store.at_regs zs)
        (sym leaves.all_regs) in
        let front_elements : take old.store.at_elements old.store.elements.items ≡ take old.store.at_elements s1.elements.items = sym
        (take-take old.store.at_elements old.store.at_elements old.store.elements.items (omega arith)) ∙ ap (λ (zs : List ℕ). take old.store.at_elements zs)
        (sym leaves.all_elements) in
        same_frame _ _ _ _
        (window_below old.store.regs.items s1.regs.items y.at_regs (routine_in p y.routine).regs old.store.at_regs front_regs (omega (arith, popped.regs)) ∙ ap
        (λ (n : ℕ). window s1.regs.items n (routine_in p y.routine).regs) (sym leaves.at_regs))
        (arrays_below old.store.elements.items s1.elements.items y.at_elements (routine_in p y.routine).arrays old.store.at_elements front_elements
        (omega (arith, popped.elements)) ∙ ap (λ (n : ℕ). arrays_in s1.elements.items n (routine_in p y.routine).arrays) (sym leaves.at_elements))

    -- the call that waited goes on
    pub pop_left : (v : ℕ) (input output : List ℕ) (log : S)
        → resume note p old.store.regs.items old.store.elements.items old.stack.items (Returns v (world_in note p t old input output log))
        ≡ resume note p s1.regs.items s1.elements.items stack.items (run_from note p (routine_in p y.routine) y.block y.instr
        (received (frame_in s1 (routine_in p y.routine)) y.dest v) (world_in note p t left_call input output log))
    pop_left v input output log =
        let xs = old.store.regs.items in
        let us = old.store.elements.items in
        let w = world_in note p t old input output log in
        let front_regs : take y.at_regs xs ≡ take y.at_regs s1.regs.items = sym (take-take y.at_regs old.store.at_regs xs (omega (arith, popped.regs))) ∙ ap
        (λ (zs : List ℕ). take y.at_regs zs) (sym leaves.all_regs) in
        let front_elements : take y.at_elements us ≡ take y.at_elements s1.elements.items = sym
        (take-take y.at_elements old.store.at_elements us (omega (arith, popped.elements))) ∙ ap (λ (zs : List ℕ). take y.at_elements zs)
        (sym leaves.all_elements) in
        ap (λ (zs : List Suspended). resume note p xs us zs (Returns v w)) is
        ∙ resume_push note p xs us rest y (Returns v w)
        ∙ ap (λ (g : Frame). resume note p xs us rest (run_from note p (routine_in p y.routine) y.block y.instr (received g y.dest v) w)) frame_left
        ∙ ap (λ (ys : List ℕ). resume note p xs us rest (run_from note p (routine_in p y.routine) y.block y.instr
        (received (frame_in s1 (routine_in p y.routine)) y.dest v) (record w { objects = arrays_in ys 0 t.objects.sizes.items }))) (sym leaves.words)
        ∙ resume_same note p 0 0 rest y.at_regs y.at_elements xs s1.regs.items us s1.elements.items
        (run_from note p (routine_in p y.routine) y.block y.instr (received (frame_in s1 (routine_in p y.routine)) y.dest v)
        (world_in note p t left_call input output log)) popped.below front_regs front_elements
        ∙ ap (λ (zs : List Suspended). resume note p s1.regs.items s1.elements.items zs
        (run_from note p (routine_in p y.routine) y.block y.instr (received (frame_in s1 (routine_in p y.routine)) y.dest v)
        (world_in note p t left_call input output log))) (sym stacks)

-- a value is received where it is wanted
module _ {S : Type 0} (note : Recorder S) (p : IlProgram) (t : Tables) (tabled : IsTabled p t) (m : Machine) (sound : IsSound p t m) where
  pub receive_left : (dest : Option ℕ) (s : Store) (v : ℕ) (input output : List ℕ) (log : S) → IsRegIfSome (routine_in p m.routine).regs dest
      → Receives m.store s dest v
      → resume note p m.store.regs.items m.store.elements.items m.stack.items
      (run_from note p (routine_in p m.routine) m.block m.instr (received (frame_in m.store (routine_in p m.routine)) dest v)
      (world_in note p t m input output log))
      ≡ left note p t (record m { store = s }) input output log
  receive_left None s v input output log isdest got = ap (λ (s2 : Store). left note p t (record m { store = s2 }) input output log) (sym got)
  receive_left (Some d) s v input output log isdest got = reg_left note p t tabled m sound s d v m.instr (world_in note p t m input output log) isdest got

  pub moved_sound : (s : Store) → KeepsBelow m.store s → (b j turns : ℕ) → IsPlace p m.routine b j
      → IsSound p t (record m { store = s; block = b; instr = j; turns = turns })
  moved_sound s k b j turns place = record {
    place = place;
    holds = record {
      regs = omega (arith, k.at_regs, k.count_regs, sound.holds.regs);
      elements = omega (arith, k.at_elements, k.count_elements, sound.holds.elements);
      words = sound.holds.words ∙ sym k.count_words;
    };
    stacked = subst (λ (n : ℕ). Stacked p 0 0 m.stack.items n s.at_elements) (sym k.at_regs)
        (subst (λ (n : ℕ). Stacked p 0 0 m.stack.items m.store.at_regs n) (sym k.at_elements) sound.stacked);
  }

  pub receive_sound : (dest : Option ℕ) (s : Store) (v : ℕ) → IsRegIfSome (routine_in p m.routine).regs dest → Receives m.store s dest v
      → IsSound p t (record m { store = s })
  receive_sound None s v isdest got = subst (λ (s2 : Store). IsSound p t (record m { store = s2 })) (sym got) sound
  receive_sound (Some d) s v isdest got = moved_sound s (sets_below m.store (routine_in p m.routine) t.objects.sizes.items sound.holds s d v got) m.block
      m.instr m.turns sound.place
