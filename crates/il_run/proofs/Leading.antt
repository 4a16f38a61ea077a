-- Going on, one step after another.
use Rattle.std.proofs.Common.{◌≡◌, ℕ, suc, ◌+◌, ◌<◌, List, ◌∷◌, length, drop, get_or, refl, ap, subst, sym, ◌∙◌, drop-cons}
use Rattle.std.proofs.Math.Nat.{le_of_lt, le_refl, le_trans, lt_of_lt_of_le}
use Rattle.std.proofs.lemmas.List.{get_or_read}
use Rattle.std.specs.declared.alloc.AllocError.{AllocError}
use Rattle.std.specs.Prelude.{◌^◌, IfOk, Option, Some, None, Result, Ok, Err}
use Rattle.hlo_num.specs.declared.word.Trap.{Trap}
use Rattle.il_core.specs.declared.instr.Block.{Block}
use Rattle.il_core.specs.declared.instr.Instr.{Instr}
use Rattle.il_core.specs.declared.program.IlProgram.{IlProgram}
use Rattle.il_core.specs.Routine.{RoutineParts}
use Rattle.il_core.specs.World.{Outcome}
use Rattle.il_core.specs.Meaning.{MadeCall}
use Rattle.il_core.specs.Valid.{IsProgram}
use Rattle.il_run.specs.declared.ending.Ending.TheVariants as ending
use Rattle.il_run.specs.declared.machine.Machine.{Machine}
use Rattle.il_run.specs.declared.machine.Move.{Move}
use Rattle.il_run.specs.declared.machine.Move.TheVariants.{Called, Get, Put, End}
use Rattle.il_run.specs.declared.store.Store.{Store}
use Rattle.il_run.specs.declared.tables.Tables.{Tables}
use Rattle.il_run.specs.Machine.{GoesOn, IsNext, IsPlace, IsSound, IsTabled, Leads, Moved, Over, RunsPlain, Steps}
use Rattle.il_run.specs.Machine.{block_in, ending_of, routine_in}
use Rattle.il_run.specs.Plain.{Executes, Fits, Holds, IsPlain}
use Rattle.il_run.proofs.Steps.{fits, plain_ends, plain_moves, routine_read}

module _ (p : IlProgram) (t : Tables) where
  pub leads_first : (m : Machine) → IsSound p t m → Leads p t m m
  leads_first m sound = record { sound = sound; no_more = le_refl _; same = λ input output calls. refl }

  leads_on : (a b c : Machine) → Leads p t a b → Leads p t b c → Leads p t a c
  leads_on a b c l h = record {
    sound = h.sound;
    no_more = le_trans h.no_more l.no_more;
    same = λ input output calls. l.same input output calls ∙ h.same input output calls;
  }

  goes_on : (a b c : Machine) → Leads p t a b → GoesOn p t b c → GoesOn p t a c
  goes_on a b c l h = record {
    sound = h.sound;
    less = lt_of_lt_of_le h.less l.no_more;
    same = λ input output calls. l.same input output calls ∙ h.same input output calls;
  }

  pub leads_more : (a b c : Machine) → Leads p t a b → GoesOn p t b c → Leads p t a c
  leads_more a b c l h = let g = goes_on a b c l h in record { sound = g.sound; no_more = le_of_lt g.less; same = g.same }

  -- what is asked for at the end of a way is asked for from its beginning
  pub moved_on : (a b c : Machine) (m : Move) → Leads p t a b → Moved p t b c m → Moved p t a c m
  moved_on a b c Called l h = record {
    sound = h.sound;
    less = lt_of_lt_of_le h.less l.no_more;
    called = h.called;
    same = λ input output calls. l.same input output calls ∙ h.same input output calls;
  }
  moved_on a b c (Get d) l h = record {
    sound = h.sound;
    less = lt_of_lt_of_le h.less l.no_more;
    at = record { machine = h.at.machine; way = leads_on a b h.at.machine l h.at.way; next = h.at.next };
    reg = h.reg;
    same = λ input output calls s set. l.same input output calls ∙ h.same input output calls s set;
  }
  moved_on a b c (Put x) l h = record {
    sound = h.sound;
    less = lt_of_lt_of_le h.less l.no_more;
    same = λ input output calls. l.same input output calls ∙ h.same input output calls;
  }
  moved_on a b c (End e) l h = λ input output calls.
      subst (λ (o : Outcome (List MadeCall)). Over (ending_of e) output calls o) (sym (l.same input output calls)) (h input output calls)

  pub steps_on : (a b c : Machine) (asked : Option Move) → Leads p t a b → Steps p t b c asked → Steps p t a c asked
  steps_on a b c None l h = goes_on a b c l h
  steps_on a b c (Some m) l h = moved_on a b c m l h

  pub steps_ok : (a b c : Machine) (r : Result (Option Move) AllocError)
      → Leads p t a b → IfOk r (λ asked. Steps p t b c asked) → IfOk r (λ asked. Steps p t a c asked)
  steps_ok a b c (Ok asked) l h = steps_on a b c asked l h
  steps_ok a b c (Err e) l h = tt

  -- from a machine on, the plain instructions of its block that stand before a place were executed
  pub record InRow (old now : Machine) (at : ℕ) : Type 0 where
    pub way : Leads p t old (record now { instr = at })
    pub routine : now.routine ≡ old.routine
    pub block : now.block ≡ old.block

  pub row_first : (old : Machine) → IsSound p t old → InRow old old old.instr
  row_first old sound = record { way = leads_first old sound; routine = refl; block = refl }

-- an instruction is read at a place of a list
pub record IsRead (is : List Instr) (at : ℕ) (i : Instr) : Type 0 where
  pub within : at < length is
  pub few : at < 2 ^ 63
  pub read : i ≡ get_or is at i

-- a machine stands in a block of a routine
pub record StandsIn (p : IlProgram) (m : Machine) (r : RoutineParts) (x : Block) : Type 0 where
  pub routine : r ≡ routine_in p m.routine
  pub block : x ≡ block_in (routine_in p m.routine) m.block

-- what is read in the machine's block comes next
pub next_read : (p : IlProgram) (m : Machine) (is : List Instr) (i : Instr)
    → is ≡ (block_in (routine_in p m.routine) m.block).instrs → IsRead is m.instr i → IsNext p m i
next_read p m is i same h = record {
  within = subst (λ (ys : List Instr). m.instr < length ys) same h.within;
  few = h.few;
  is = subst (λ (ys : List Instr). drop m.instr ys ≡ i ∷ drop (suc m.instr) ys) same
      (drop-cons is m.instr i h.within ∙ ap (λ (x : Instr). x ∷ drop (suc m.instr) is) (sym h.read));
}

-- the instructions of a block, from the machine on that stands in it
module _ (p : IlProgram) (t : Tables) (valid : IsProgram p) (tabled : IsTabled p t) (old : Machine) (r : RoutineParts) (is : List Instr)
    (same_routine : r ≡ routine_in p old.routine) (same_instrs : is ≡ (block_in (routine_in p old.routine) old.block).instrs) where
  row_routine : (now : Machine) (at : ℕ) → InRow p t old now at → r ≡ routine_in p now.routine
  row_routine now at row = same_routine ∙ ap (λ (k : ℕ). routine_in p k) (sym row.routine)

  row_instrs : (now : Machine) (at : ℕ) → InRow p t old now at → is ≡ (block_in (routine_in p now.routine) now.block).instrs
  row_instrs now at row =
      same_instrs
      ∙ ap (λ (k : ℕ). (block_in (routine_in p k) old.block).instrs) (sym row.routine)
      ∙ ap (λ (k : ℕ). (block_in (routine_in p now.routine) k).instrs) (sym row.block)

  row_next : (now : Machine) (at : ℕ) (i : Instr) → InRow p t old now at → IsRead is at i → IsNext p (record now { instr = at }) i
  row_next now at i row h = next_read p (record now { instr = at }) is i (row_instrs now at row) h

  pub row_fits : (now : Machine) (at : ℕ) (i : Instr) → InRow p t old now at → IsRead is at i → Fits r t.objects.sizes.items i
  row_fits now at i row h =
      subst (λ (x : RoutineParts). Fits x t.objects.sizes.items i) (sym (row_routine now at row))
      (fits p valid t tabled (record now { instr = at }) row.way.sound i (row_next now at i row h))

  pub row_holds : (now : Machine) (at : ℕ) → InRow p t old now at → Holds now.store r t.objects.sizes.items
  row_holds now at row =
      subst (λ (x : RoutineParts). Holds now.store x t.objects.sizes.items) (sym (row_routine now at row)) row.way.sound.holds

  -- one more was executed
  pub row_more : (now : Machine) (at : ℕ) (i : Instr) (s : Store) → InRow p t old now at → IsRead is at i → IsPlain i
      → Executes r t.objects.sizes.items i now.store s (Ok tt) → InRow p t old (record now { store = s }) (at + 1)
  row_more now at i s row h plain done =
      let here : Machine = record now { instr = at } in
      let done_here = subst (λ (x : RoutineParts). Executes x t.objects.sizes.items i now.store s (Ok tt)) (row_routine now at row) done in
      record {
        way = leads_more p t old here (record now { store = s; instr = at + 1 }) row.way
            (plain_moves p t tabled here row.way.sound i s (row_next now at i row h) plain done_here);
        routine = row.routine;
        block = row.block;
      }

  -- one of them traps
  pub row_traps : (now : Machine) (at : ℕ) (i : Instr) (s : Store) (trap : Trap) → InRow p t old now at → IsRead is at i → IsPlain i
      → Executes r t.objects.sizes.items i now.store s (Err trap) → Moved p t old old (End (ending.Trapped trap))
  row_traps now at i s trap row h plain done =
      let here : Machine = record now { instr = at } in
      let done_here = subst (λ (x : RoutineParts). Executes x t.objects.sizes.items i now.store s (Err trap)) (row_routine now at row) done in
      moved_on p t old here old (End (ending.Trapped trap)) row.way
      (plain_ends p t tabled here row.way.sound i s trap (row_next now at i row h) plain done_here).by

-- behind them the machine stands there still
pub still_stands : (p : IlProgram) (t : Tables) (old new : Machine) (r : RoutineParts) (x : Block)
    → StandsIn p old r x → RunsPlain p t old new → StandsIn p new r x
still_stands p t old new r x s runs = record {
  routine = s.routine ∙ ap (λ (k : ℕ). routine_in p k) (sym runs.routine);
  block = s.block
      ∙ ap (λ (k : ℕ). block_in (routine_in p k) old.block) (sym runs.routine)
      ∙ ap (λ (k : ℕ). block_in (routine_in p new.routine) k) (sym runs.block);
}

-- the routine and the block that are read are those of the machine
pub stands_read : (p : IlProgram) (m : Machine) (rs : List RoutineParts) (r : RoutineParts) (xs : List Block) (x : Block)
    → IsPlace p m.routine m.block m.instr → rs ≡ p.routines → r ≡ get_or rs m.routine r → xs ≡ r.blocks → x ≡ get_or xs m.block x
    → StandsIn p m r x
stands_read p m rs r xs x place same_routines read same_blocks found =
    let here : routine_in p m.routine ≡ r = routine_read p rs m.routine r same_routines place.in_program read in
    let blocks : xs ≡ (routine_in p m.routine).blocks = same_blocks ∙ ap (λ (q : RoutineParts). q.blocks) (sym here) in
    record {
      routine = sym here;
      block = get_or_read (routine_in p m.routine).blocks m.block x place.in_routine (found ∙ ap (λ (ys : List Block). get_or ys m.block x) blocks) _;
    }
