-- Each step leads to a sound machine with less fuel.
use Rattle.std.proofs.Common.{◌≡◌, ℕ, zero, suc, ◌+◌, ◌-◌, ◌<◌, ◌≤◌, List, [], ◌∷◌, ◌++◌, length, drop, get_or, refl, ap, subst, sym, ◌∙◌, arith}
use Rattle.std.specs.declared.alloc.Global.{Global}
use Rattle.std.specs.Prelude.{Vec, slice_index, sum, sum_by, Option, Some, None, Ok, Err, MatchOption, ⊤}
use Rattle.std.proofs.Math.Nat.{le_refl}
use Rattle.std.proofs.lemmas.List.{get_or_read}
use Rattle.std.proofs.lemmas.List.Sums.{sum_by_push}
use Rattle.hlo_num.specs.declared.word.Trap.{Trap}
use Rattle.il_core.specs.Limits.{max_pids, max_size}
use Rattle.il_core.specs.declared.instr.Instr.{Instr}
use Rattle.il_core.specs.declared.instr.Instr.TheVariants.{Const, Move, Conv, Bin, Get, Set, GetX, SetX, GetA, SetA, Clear, Turn, Call, GetChar, PutChar}
use Rattle.il_core.specs.declared.instr.End.{End}
use Rattle.il_core.specs.declared.instr.End.TheVariants as ends
use Rattle.il_core.specs.declared.program.IlProgram.{IlProgram}
use Rattle.il_core.specs.Routine.{RoutineParts}
use Rattle.il_core.specs.Size.{blocks_size}
use Rattle.il_core.specs.Program.{routine_at}
use Rattle.il_core.specs.Valid.{IsProgram, IsRegIfSome, IsValidInstr, IsValidEnd, NamesObject, is_wanted}
use Rattle.std.specs.List.{AllByRecursion}
use Rattle.il_run.specs.Frames.{Enters, Leaves, Receives}
use Rattle.il_core.proofs.Found.{found_number}
use Rattle.il_core.proofs.Programs.{object_of, callee_fits, pid_small}
use Rattle.il_core.specs.World.{World, Outcome, Returns, Ends, each, Exit, Trapped, OutOfTurns, first_byte, other_bytes, low_byte}
use Rattle.il_core.specs.Meaning.{run_of, log_of, returned, MadeCall, add_call}
use Rattle.il_run.specs.declared.machine.Machine.{Machine}
use Rattle.il_run.specs.declared.machine.Suspended.{Suspended}
use Rattle.il_run.specs.declared.machine.Move.TheVariants as move
use Rattle.il_run.specs.declared.store.Store.{Store}
use Rattle.il_run.specs.declared.tables.Tables.{Tables}
use Rattle.il_run.specs.Plain.{Executes, Fits, IsPlain, KeepsBelow, SetsReg, frame_in}
use Rattle.il_run.specs.Machine.{routine_in, block_in, IsTabled, IsPlace, IsSound, GoesOn, IsNext, Over, resume, site_at, world_in, work, to_come, Moved}
use Rattle.il_run.proofs.Arms.{sets_below}
use Rattle.il_run.proofs.Places.{block_is_valid, routine_valid, work_step, work_later, work_whole, work_some}
use Rattle.il_run.proofs.Moves.{plain_left, plain_trap, turn_left, turn_over, get_left, put_left, jump_left, branch_left, branch_zero, loop_left}
use Rattle.il_run.proofs.Moves.{loop_over, exit_left, AtEnd, end_run}
use Rattle.il_run.proofs.Calls.{call_left, call_over, call_sound, waiting, moved_sound, left_call, left_sound, left_dest, pop_left, receive_left, receive_sound}

module _ (p : IlProgram) (t : Tables) (tabled : IsTabled p t) (old : Machine) (sound : IsSound p t old) where
  same_below : KeepsBelow old.store old.store
  same_below = record { at_regs = refl; at_elements = refl; regs = refl; elements = refl; count_regs = refl; count_elements = refl; count_words = refl }

  next_place : (i : Instr) → IsNext p old i → IsPlace p old.routine old.block (old.instr + 1)
  next_place i next = record { in_program = sound.place.in_program; in_routine = sound.place.in_routine; in_block = omega (arith, next.within) }

  -- one instruction less is left
  next_work : (i : Instr) → IsNext p old i → work (routine_in p old.routine) old.block (old.instr + 1) < work (routine_in p old.routine) old.block old.instr
  next_work i next = subst (λ (n : ℕ). work (routine_in p old.routine) old.block n < work (routine_in p old.routine) old.block old.instr)
      (let e : suc old.instr ≡ old.instr + 1 = omega arith in e) (work_step (routine_in p old.routine) old.block old.instr sound.place.in_routine next.within)

  pub turn_moves : IsNext p old Turn → 0 < old.turns → GoesOn p t old (record old { instr = old.instr + 1; turns = old.turns - 1 })
  turn_moves next some = record {
    sound = moved_sound {S = List MadeCall} add_call p t tabled old sound old.store same_below old.block (old.instr + 1) (old.turns - 1) (next_place Turn next);
    less = omega (arith, next_work Turn next);
    same = λ input output calls. turn_left add_call p t tabled old sound input output calls next some;
  }

  -- the program ends in one step
  pub record EndsAs (e : Rattle.il_core.specs.World.Ending) : Type 0 where
    pub by : (input output : List ℕ) (calls : List MadeCall) → Over e output calls (to_come p t old input output calls)

  ends_by : (e : Rattle.il_core.specs.World.Ending)
      → ((input output : List ℕ) (calls : List MadeCall) → to_come p t old input output calls ≡ Ends e output calls) → EndsAs e
  ends_by e h = record { by = λ input output calls. record { run = ap run_of (h input output calls); made = ap (log_of []) (h input output calls) } }

  pub turn_ends : IsNext p old Turn → old.turns ≡ 0 → EndsAs OutOfTurns
  turn_ends next none = ends_by _ (λ input output calls. turn_over add_call p t tabled old sound input output calls next none)

  pub get_moves : (d : ℕ) → IsNext p old (GetChar d) → d < (routine_in p old.routine).regs → Moved p t old (record old { instr = old.instr + 1 }) (move.Get d)
  get_moves d next lt = record {
    sound = moved_sound {S = List MadeCall} add_call p t tabled old sound old.store same_below old.block (old.instr + 1) old.turns
        (next_place (GetChar d) next);
    less = omega (arith, next_work (GetChar d) next);
    at = record { machine = old; way = record { sound = sound; no_more = le_refl _; same = λ input output calls. refl }; next = next };
    reg = lt;
    same = λ input output calls s set. get_left add_call p t tabled old sound d s input output calls next lt set;
  }

  pub put_moves : (d x v b : ℕ) (s : Store) → IsNext p old (PutChar d x) → d < (routine_in p old.routine).regs → x < (routine_in p old.routine).regs
      → v ≡ slice_index old.store.regs.items (old.store.at_regs + x) → b ≡ low_byte v → SetsReg old.store s d b
      → Moved p t old (record old { store = s; instr = old.instr + 1 }) (move.Put b)
  put_moves d x v b s next lt ltx isv isb set = record {
    sound = moved_sound {S = List MadeCall} add_call p t tabled old sound s
        (sets_below old.store (routine_in p old.routine) t.objects.sizes.items sound.holds s d b set) old.block (old.instr + 1) old.turns
        (next_place (PutChar d x) next);
    less = omega (arith, next_work (PutChar d x) next);
    same = λ input output calls. put_left add_call p t tabled old sound d x v b s input output calls next lt ltx isv isb set;
  }

  pub plain_moves : (i : Instr) (s : Store) → IsNext p old i → IsPlain i → Executes (routine_in p old.routine) t.objects.sizes.items i old.store s (Ok tt)
      → GoesOn p t old (record old { store = s; instr = old.instr + 1 })
  plain_moves i s next is done = record {
    sound = moved_sound {S = List MadeCall} add_call p t tabled old sound s done.below old.block (old.instr + 1) old.turns (next_place i next);
    less = omega (arith, next_work i next);
    same = λ input output calls. plain_left add_call p t tabled old sound i s input output calls next is done;
  }

  pub plain_ends : (i : Instr) (s : Store) (tr : Trap) → IsNext p old i → IsPlain i
      → Executes (routine_in p old.routine) t.objects.sizes.items i old.store s (Err tr) → EndsAs (Trapped tr)
  plain_ends i s tr next is done = ends_by _ (λ input output calls. plain_trap add_call p t tabled old sound i s tr input output calls next is done)

  pub call_ends : (dest : Option ℕ) (q count : ℕ) (args : List ℕ) → IsNext p old (Call dest q count args) → old.turns ≡ 0 → EndsAs OutOfTurns
  call_ends dest q count args next none = ends_by _ (λ input output calls. call_over add_call p t tabled old sound dest q count args input output calls next
      none)

  pub call_moves : (dest : Option ℕ) (q count : ℕ) (args : List ℕ) (callee : ℕ) (s : Store) (stack : Vec Suspended Global) (vs : List ℕ)
      → IsNext p old (Call dest q count args) → 0 < old.turns
      → IsRegIfSome (routine_in p old.routine).regs dest → routine_at p.routines q ≡ Some (routine_in p callee) → callee < length p.routines
      → 0 < length (routine_in p callee).blocks → blocks_size (routine_in p callee).blocks ≤ max_size
      → vs ≡ each (frame_in old.store (routine_in p old.routine)).regs args → length vs ≤ (routine_in p callee).params → length vs ≤ (routine_in p callee).regs
      → Enters old.store s vs (routine_in p callee).regs (sum (routine_in p callee).arrays)
      → stack.items ≡ old.stack.items ++ waiting {S = List MadeCall} add_call p t tabled old sound dest q count args ∷ []
      → Moved p t old (record { store = s; routine = callee; block = 0; instr = 0; stack = stack; turns = old.turns - 1 }) move.Called
  call_moves dest q count args callee s stack vs next some isdest found lt blocks few isv taken fit enters stacks = record {
    sound = call_sound {S = List MadeCall} add_call p t tabled old sound dest q count args callee s stack vs next isdest lt blocks fit enters stacks;
    less = omega (
      arith,
      next_work (Call dest q count args) next,
      work_whole (routine_in p callee) 0,
      ap (λ (zs : List Suspended). sum_by (λ (y : Suspended). work (routine_in p y.routine) y.block y.instr) zs) stacks,
      sum_by_push (λ (y : Suspended). work (routine_in p y.routine) y.block y.instr) old.stack.items
          (waiting {S = List MadeCall} add_call p t tabled old sound dest q count args),
    );
    called = record {
      others = old.stack.items;
      caller = waiting {S = List MadeCall} add_call p t tabled old sound dest q count args;
      last = stacks;
      instr = old.instr;
      before = refl;
      at = record {
        in_program = sound.place.in_program;
        in_routine = sound.place.in_routine;
        in_block = next.within;
        call = Call dest q count args;
        is =
            next.is;
        one = refl;
      };
    };
    same = λ input output calls. call_left {S = List MadeCall} add_call p t tabled old sound dest q count args callee s stack vs input output calls next some
        found isv taken fit enters stacks
        ∙ ap (λ (k : ℕ). to_come p t (record { store = s; routine = callee; block = 0; instr = 0; stack = stack; turns = old.turns - 1 }) input output
        (record { caller = (routine_in p old.routine).pid; site = site_at (routine_in p old.routine) old.block old.instr; callee = k } ∷ calls))
        (sym (found_number (λ (r : RoutineParts). r.pid) q p.routines (routine_in p callee) found));
  }

  later_place : (u : ℕ) → u < length (routine_in p old.routine).blocks → IsPlace p old.routine u 0
  later_place u lt = record { in_program = sound.place.in_program; in_routine = lt; in_block = omega arith }

  jumped : (u : ℕ) → old.block < u → u < length (routine_in p old.routine).blocks
      → ((input output : List ℕ) (calls : List MadeCall)
      → to_come p t old input output calls ≡ to_come p t (record old { block = u; instr = 0 }) input output calls)
      → GoesOn p t old (record old { block = u; instr = 0 })
  jumped u less lt same = record {
    sound = moved_sound {S = List MadeCall} add_call p t tabled old sound old.store same_below u 0 old.turns (later_place u lt);
    less = omega (arith, work_later (routine_in p old.routine) old.block old.instr u sound.place.in_routine sound.place.in_block less);
    same = same;
  }

  pub jump_moves : (u : ℕ) → AtEnd {S = List MadeCall} add_call p t tabled old sound (ends.Jump u) → old.block < u
      → u < length (routine_in p old.routine).blocks → GoesOn p t old (record old { block = u; instr = 0 })
  jump_moves u here less lt = jumped u less lt (λ input output calls. jump_left add_call p t tabled old sound u input output calls here less)

  pub branch_moves : (x u v c : ℕ) → AtEnd {S = List MadeCall} add_call p t tabled old sound (ends.Branch x u v) → x < (routine_in p old.routine).regs
      → c ≡ slice_index old.store.regs.items (old.store.at_regs + x) → 0 < c
      → old.block < u → u < length (routine_in p old.routine).blocks → GoesOn p t old (record old { block = u; instr = 0 })
  branch_moves x u v c here ltx is some less lt = jumped u less lt
      (λ input output calls. branch_left add_call p t tabled old sound x u v c input output calls here ltx is some less)

  pub branch_falls : (x u v c : ℕ) → AtEnd {S = List MadeCall} add_call p t tabled old sound (ends.Branch x u v) → x < (routine_in p old.routine).regs
      → c ≡ slice_index old.store.regs.items (old.store.at_regs + x) → c ≡ 0
      → old.block < v → v < length (routine_in p old.routine).blocks → GoesOn p t old (record old { block = v; instr = 0 })
  branch_falls x u v c here ltx is none less lt = jumped v less lt
      (λ input output calls. branch_zero add_call p t tabled old sound x u v c input output calls here ltx is none less)

  pub loop_moves : (u : ℕ) → AtEnd {S = List MadeCall} add_call p t tabled old sound (ends.Loop u) → 0 < old.turns
      → u < length (routine_in p old.routine).blocks → blocks_size (routine_in p old.routine).blocks ≤ max_size
      → GoesOn p t old (record old { block = u; instr = 0; turns = old.turns - 1 })
  loop_moves u here some lt few = record {
    sound = moved_sound {S = List MadeCall} add_call p t tabled old sound old.store same_below u 0 (old.turns - 1) (later_place u lt);
    less = omega (arith, work_whole (routine_in p old.routine) u);
    same = λ input output calls. loop_left add_call p t tabled old sound u input output calls here some;
  }

  pub loop_ends : (u : ℕ) → AtEnd {S = List MadeCall} add_call p t tabled old sound (ends.Loop u) → old.turns ≡ 0 → EndsAs OutOfTurns
  loop_ends u here none = ends_by _ (λ input output calls. loop_over add_call p t tabled old sound u input output calls here none)

  pub exit_ends : (x c : ℕ) → AtEnd {S = List MadeCall} add_call p t tabled old sound (ends.Exit x) → x < (routine_in p old.routine).regs
      → c ≡ slice_index old.store.regs.items (old.store.at_regs + x) → EndsAs (Exit c)
  exit_ends x c here lt is = ends_by _ (λ input output calls. exit_left add_call p t tabled old sound x c input output calls here lt is)

  -- what a return leads to: the waiting calls go on with the value
  return_run : (x : Option ℕ) (v : ℕ) (input output : List ℕ) (calls : List MadeCall) → AtEnd {S = List MadeCall} add_call p t tabled old sound (ends.Return x)
      → v ≡ returned (frame_in old.store (routine_in p old.routine)) x
      → to_come p t old input output calls ≡ resume add_call p old.store.regs.items old.store.elements.items old.stack.items
      (Returns v (world_in add_call p t old input output calls))
  return_run x v input output calls here is =
      let w : World (List MadeCall) = world_in add_call p t old input output calls in
      ap (λ (o : Outcome (List MadeCall)). resume add_call p old.store.regs.items old.store.elements.items old.stack.items o)
      (end_run add_call p t tabled old sound (ends.Return x) w here.0 here.1 ∙ ap (λ (k : ℕ). Returns k w) (sym is))

  pub return_ends : (x : Option ℕ) (v : ℕ) → AtEnd {S = List MadeCall} add_call p t tabled old sound (ends.Return x)
      → v ≡ returned (frame_in old.store (routine_in p old.routine)) x → old.stack.items ≡ [] → EndsAs (Exit v)
  return_ends x v here is none = record {
    by = λ input output calls.
        let e = return_run x v input output calls here is ∙ ap (λ (zs : List Suspended). resume add_call p old.store.regs.items old.store.elements.items zs
        (Returns v (world_in add_call p t old input output calls))) none in
        record { run = ap run_of e; made = ap (log_of []) e };
  }

  pub return_moves : (x : Option ℕ) (v : ℕ) (rest : List Suspended) (y : Suspended) (s1 s2 : Store) (stack : Vec Suspended Global)
      → AtEnd {S = List MadeCall} add_call p t tabled old sound (ends.Return x) → v ≡ returned (frame_in old.store (routine_in p old.routine)) x
      → old.stack.items ≡ rest ++ y ∷ [] → Leaves old.store s1 y.at_regs y.at_elements → Receives s1 s2 y.dest v → stack.items ≡ rest
      → GoesOn p t old (record { store = s2; routine = y.routine; block = y.block; instr = y.instr; stack = stack; turns = old.turns })
  return_moves x v rest y s1 s2 stack here is isy leaves got stacks =
      let m = left_call {S = List MadeCall} add_call p t tabled old sound rest y stack isy stacks s1 leaves in
      let msound = left_sound {S = List MadeCall} add_call p t tabled old sound rest y stack isy stacks s1 leaves in
      let isdest = left_dest {S = List MadeCall} add_call p t tabled old sound rest y stack isy stacks s1 leaves in
      let some = work_some (routine_in p old.routine) old.block old.instr sound.place.in_routine sound.place.in_block in
      record {
        sound = receive_sound {S = List MadeCall} add_call p t tabled m msound y.dest s2 v isdest got;
        less = omega (
          arith,
          some,
          ap (λ (zs : List Suspended). sum_by (λ (z : Suspended). work (routine_in p z.routine) z.block z.instr) zs) stacks,
          ap (λ (zs : List Suspended). sum_by (λ (z : Suspended). work (routine_in p z.routine) z.block z.instr) zs) isy,
          sum_by_push (λ (z : Suspended). work (routine_in p z.routine) z.block z.instr) rest y,
        );
        same = λ input output calls. return_run x v input output calls here is
            ∙ pop_left {S = List MadeCall} add_call p t tabled old sound rest y stack isy stacks s1 leaves v input output calls
            ∙ receive_left {S = List MadeCall} add_call p t tabled m msound y.dest s2 v input output calls isdest got;
      }

  waiting_fits : (regs n : ℕ) (dest : Option ℕ) (s : Store) → IsRegIfSome n dest → s.at_regs + n ≡ length s.regs.items
      → MatchOption dest ⊤ (λ d. s.at_regs + d < length s.regs.items)
  waiting_fits regs n None s h e = tt
  waiting_fits regs n (Some d) s h e = let lt : d < n = h in omega arith

  -- the register that receives is one of the waiting call's
  pub return_receives : (rest : List Suspended) (y : Suspended) (s1 : Store) (stack : Vec Suspended Global) → old.stack.items ≡ stack.items ++ y ∷ []
      → Leaves old.store s1 y.at_regs y.at_elements → MatchOption y.dest ⊤ (λ d. s1.at_regs + d < length s1.regs.items)
  return_receives rest y s1 stack isy leaves =
      let msound = left_sound {S = List MadeCall} add_call p t tabled old sound stack.items y stack isy refl s1 leaves in
      waiting_fits 0 (routine_in p y.routine).regs y.dest s1 (left_dest {S = List MadeCall} add_call p t tabled old sound stack.items y stack isy refl s1
      leaves) msound.holds.regs

-- instructions of a valid program fit
all_drop : {X : Type 0} (P : X → Type 0) (xs : List X) (j : ℕ) → AllByRecursion P xs → AllByRecursion P (drop j xs)
all_drop P xs zero all = all
all_drop P [] (suc j) all = tt
all_drop P (x ∷ xs) (suc j) all = all_drop P xs j all.1

module _ (p : IlProgram) (valid : IsProgram p) (t : Tables) (tabled : IsTabled p t) (m : Machine) (sound : IsSound p t m) where
  pub instr_valid : (i : Instr) → IsNext p m i → IsValidInstr p.shapes (routine_in p m.routine).regs (length (routine_in p m.routine).arrays) i
  instr_valid i next =
      let b = block_is_valid p valid m.routine m.block sound.place.in_program sound.place.in_routine in
      (subst (λ (is : List Instr). AllByRecursion (IsValidInstr p.shapes (routine_in p m.routine).regs (length (routine_in p m.routine).arrays)) is) next.is
      (all_drop _ (block_in (routine_in p m.routine) m.block).instrs m.instr b.instrs)).0

  has_object : (g : ℕ) → NamesObject p.shapes g → 0 < slice_index t.objects.sizes.items g
  has_object g named = subst (λ (n : ℕ). 0 < n) (sym (tabled.sizes g)) (object_of p valid g named)

  fits_of : (i : Instr) → IsValidInstr p.shapes (routine_in p m.routine).regs (length (routine_in p m.routine).arrays) i
      → Fits (routine_in p m.routine) t.objects.sizes.items i
  fits_of (Const d w) v = v
  fits_of (Move d s) v = v
  fits_of (Conv d y s) v = v
  fits_of (Bin o d a b) v = v
  fits_of (Get d g) v = (v.0, has_object g v.1)
  fits_of (Set g s) v = (v.0, has_object g v.1)
  fits_of (GetX d g i) v = (v.0, v.1, has_object g v.2)
  fits_of (SetX g i s) v = (v.0, v.1, has_object g v.2)
  fits_of (GetA d a i) v = v
  fits_of (SetA a i s) v = v
  fits_of (Clear r c a k) v = v
  fits_of Turn v = tt
  fits_of (Call dest q count args) v = v.1
  fits_of (GetChar d) v = v
  fits_of (PutChar d s) v = v

  pub fits : (i : Instr) → IsNext p m i → Fits (routine_in p m.routine) t.objects.sizes.items i
  fits i next = fits_of i (instr_valid i next)

  pub end_valid : IsValidEnd (routine_in p m.routine).regs (routine_in p m.routine).value (length (routine_in p m.routine).blocks) m.block
      (block_in (routine_in p m.routine) m.block).end
  end_valid = (block_is_valid p valid m.routine m.block sound.place.in_program sound.place.in_routine).end

  -- what a call needs of its callee, which stands at position i
  pub record Target (dest : Option ℕ) (q : ℕ) (args : List ℕ) (i : ℕ) : Type 0 where
    pub small : q < max_pids
    pub within : i < length p.routines
    pub found : routine_at p.routines q ≡ Some (routine_in p i)
    pub taken : length args ≤ (routine_in p i).params
    pub few : length args ≤ (routine_in p i).regs
    pub blocks : 0 < length (routine_in p i).blocks
    pub isdest : IsRegIfSome (routine_in p m.routine).regs dest
    pub regs : AllByRecursion (λ x. x < (routine_in p m.routine).regs) args

  pub target : (dest : Option ℕ) (q count : ℕ) (args : List ℕ) (i : ℕ) → IsNext p m (Call dest q count args) → i ≡ slice_index t.position.items q
      → Target dest q args i
  target dest q count args i next e =
      let v = instr_valid (Call dest q count args) next in
      let c = callee_fits p valid q (length args) (is_wanted dest) v.2 in
      let at = tabled.position q c.routine c.is in
      let same : routine_in p i ≡ c.routine = ap (λ (k : ℕ). routine_in p k) e ∙ at.1 in
      let params : (routine_in p i).params ≡ length args = ap (λ (r : RoutineParts). r.params) same ∙ c.params in
      let is_valid = routine_valid p valid i (subst (λ (n : ℕ). n < length p.routines) (sym e) at.0) in
      record {
        small = pid_small p valid q c.routine c.is;
        within = subst (λ (n : ℕ). n < length p.routines) (sym e) at.0;
        found = c.is ∙ ap Some (sym same);
        taken = omega (arith, params);
        few = omega (arith, is_valid.params);
        blocks = is_valid.some_block;
        isdest = v.0;
        regs = v.1;
      }

  -- the same at the position that is read
  pub target_read : (dest : Option ℕ) (q count : ℕ) (args : List ℕ) (i : ℕ) → IsNext p m (Call dest q count args) → i ≡ get_or t.position.items q i
      → Target dest q args i
  target_read dest q count args i next read =
      let first = target dest q count args (slice_index t.position.items q) next refl in
      target dest q count args i next (get_or_read t.position.items q i (omega (arith, first.small, tabled.pids)) read 0)

  -- the ends of a valid routine fit
  pub end_is : (e : End) → e ≡ (block_in (routine_in p m.routine) m.block).end
      → IsValidEnd (routine_in p m.routine).regs (routine_in p m.routine).value (length (routine_in p m.routine).blocks) m.block e
  end_is e is = subst (λ (x : End). IsValidEnd (routine_in p m.routine).regs (routine_in p m.routine).value (length (routine_in p m.routine).blocks) m.block x)
      (sym is) end_valid

-- an instruction that is none of the four is plain
pub plain_else : (i : Instr) → (i ≡ Turn → ⊥) → ((dest : Option ℕ) (q count : ℕ) (args : List ℕ) → i ≡ Call dest q count args → ⊥)
    → ((d : ℕ) → i ≡ GetChar d → ⊥) → ((d s : ℕ) → i ≡ PutChar d s → ⊥) → IsPlain i
plain_else (Const d w) a b c e = tt
plain_else (Move d s) a b c e = tt
plain_else (Conv d y s) a b c e = tt
plain_else (Bin o d x y) a b c e = tt
plain_else (Get d g) a b c e = tt
plain_else (Set g s) a b c e = tt
plain_else (GetX d g i) a b c e = tt
plain_else (SetX g i s) a b c e = tt
plain_else (GetA d x i) a b c e = tt
plain_else (SetA x i s) a b c e = tt
plain_else (Clear r n x k) a b c e = tt
plain_else Turn a b c e = a refl
plain_else (Call dest q count args) a b c e = b dest q count args refl
plain_else (GetChar d) a b c e = c d refl
plain_else (PutChar d s) a b c e = e d s refl

pub routine_read : (p : IlProgram) (rs : List RoutineParts) (i : ℕ) (r : RoutineParts) → rs ≡ p.routines → i < length p.routines → r ≡ get_or rs i r
    → routine_in p i ≡ r
routine_read p rs i r e lt read = sym (get_or_read p.routines i r lt (read ∙ ap (λ (xs : List RoutineParts). get_or xs i r) e) _)
