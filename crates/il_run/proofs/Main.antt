-- What is to come from a program as it starts is the call of its `main`.
use Rattle.std.proofs.Common.{◌≡◌, ℕ, suc, ◌+◌, ◌<◌, List, [], length, get_or, true, refl, ap, subst, sym, ◌∙◌, arith, inl, inr}
use Rattle.std.specs.declared.alloc.Global.{Global}
use Rattle.std.specs.Prelude.{Vec, slice_index, sum, replicate, Option, Some}
use Rattle.std.proofs.lemmas.Bool.{cases_lt}
use Rattle.std.proofs.lemmas.List.{get_or_read, length-replicate}
use mathlib.Core.Path.{fun_ext}
use Rattle.il_core.specs.Limits.{max_pids}
use Rattle.il_core.specs.declared.program.IlProgram.{IlProgram}
use Rattle.il_core.specs.Routine.{RoutineParts}
use Rattle.il_core.specs.Program.{routine_at, main_pid, initial_word}
use Rattle.il_core.specs.Valid.{IsProgram}
use Rattle.il_core.specs.World.{World}
use Rattle.il_core.specs.Meaning.{Frame, frame_of, begin, exec, at_start, MadeCall, add_call}
use Rattle.il_core.proofs.Frames.{frame_full}
use Rattle.il_run.specs.declared.machine.Machine.{Machine}
use Rattle.il_run.specs.declared.machine.Suspended.{Suspended}
use Rattle.il_run.specs.declared.store.Store.{Store}
use Rattle.il_run.specs.declared.tables.Tables.{Tables}
use Rattle.il_core.specs.Places.{run_from}
use Rattle.il_run.specs.Machine.{routine_in, IsTabled, Stacked, resume, world_in}
use Rattle.il_run.specs.Plain.{frame_in}
use Rattle.il_run.specs.Start.{HasWords, Starts}
use Rattle.il_run.specs.Words.{window, arrays_in}
use Rattle.il_core.proofs.Places.{exec_from}
use Rattle.il_core.proofs.Main.{main_shape}
use Rattle.il_run.proofs.Places.{routine_valid}
use Rattle.il_core.proofs.Programs.{callee_of, pid_small}
use Rattle.il_run.proofs.Words.{window_in, window_out, element_in, element_out, zeros}

zero_window : (k n : ℕ) → window (replicate k 0) 0 n ≡ (λ x. 0)
zero_window k n = fun_ext (λ x. elim (cases_lt x n) [
  | inl l ↦ window_in (replicate k 0) 0 n x l ∙ zeros k (0 + x)
  | inr g ↦ window_out (replicate k 0) 0 n x g
])

zero_arrays : (k : ℕ) (lens : List ℕ) → arrays_in (replicate k 0) 0 lens ≡ (λ a i. 0)
zero_arrays k lens = fun_ext (λ a. fun_ext (λ i. elim (cases_lt i (slice_index lens a))
    [ inl l ↦ element_in (replicate k 0) 0 lens a i l ∙ zeros k _ | inr g ↦ element_out (replicate k 0) 0 lens a i g ]))

module _ (p : IlProgram) (valid : IsProgram p) (t : Tables) (tabled : IsTabled p t) where
  -- where `main` stands
  pub record MainAt (i : ℕ) : Type 0 where
    pub small : main_pid p.shapes < max_pids
    pub within : i < length p.routines
    pub found : routine_at p.routines (main_pid p.shapes) ≡ Some (routine_in p i)
    pub blocks : 0 < length (routine_in p i).blocks

  main_is : (i : ℕ) → i ≡ slice_index t.position.items (main_pid p.shapes) → MainAt i
  main_is i e =
      let c = callee_of p valid (main_pid p.shapes) 0 true (main_shape p valid) in
      let at = tabled.position (main_pid p.shapes) c.routine c.is in
      let lt : i < length p.routines = subst (λ (n : ℕ). n < length p.routines) (sym e) at.0 in
      record {
        small = pid_small p valid (main_pid p.shapes) c.routine c.is;
        within = lt;
        found = c.is ∙ ap Some (sym (ap (λ (k : ℕ). routine_in p k) e ∙ at.1));
        blocks = (routine_valid p valid i lt).some_block;
      }

  pub main_small : main_pid p.shapes < max_pids
  main_small = (main_is (slice_index t.position.items (main_pid p.shapes)) refl).small

  pub main_at : (i q : ℕ) → q ≡ main_pid p.shapes → i ≡ get_or t.position.items q i → MainAt i
  main_at i q is read = main_is i (get_or_read t.position.items q i (omega (arith, main_small, tabled.pids)) read 0 ∙ ap
      (λ (n : ℕ). slice_index t.position.items n) is)

  pub starts : (i : ℕ) (s : Store) (stack : Vec Suspended Global) (turns : ℕ) → MainAt i → s.regs.items ≡ replicate (routine_in p i).regs 0
      → s.elements.items ≡ replicate (sum (routine_in p i).arrays) 0
      → length s.words.items ≡ sum t.objects.sizes.items → HasWords p.objects t.objects.sizes.items 0 s.words.items → s.at_regs ≡ 0 → s.at_elements ≡ 0
      → stack.items ≡ []
      → Starts p t turns (record { store = s; routine = i; block = 0; instr = 0; stack = stack; turns = turns })
  starts i s stack turns at regs elements count words at_regs at_elements none =
      let r = routine_in p i in
      let m : Machine = record { store = s; routine = i; block = 0; instr = 0; stack = stack; turns = turns } in
      let frame : frame_in s r ≡ frame_of r.params [] = (λ j. record {
        regs = (ap (λ (xs : List ℕ). window xs s.at_regs r.regs) regs ∙ ap (λ (n : ℕ). window (replicate r.regs 0) n r.regs) at_regs ∙ zero_window r.regs
            r.regs) j;
        arrays = (ap (λ (xs : List ℕ). arrays_in xs s.at_elements r.arrays) elements ∙ ap (λ (n : ℕ). arrays_in (replicate (sum r.arrays) 0) n r.arrays)
            at_elements ∙ zero_arrays (sum r.arrays) r.arrays) j;
      })
      ∙ sym (frame_full r.params [] (omega arith)) in
      let objects : arrays_in s.words.items 0 t.objects.sizes.items ≡ initial_word p.objects = fun_ext (λ g. fun_ext (λ j. words.by g j)) in
      record {
        sound = record {
          place = record { in_program = at.within; in_routine = at.blocks; in_block = omega arith };
          holds = record {
            regs = omega (arith, at_regs, ap length regs, length-replicate {A = ℕ} r.regs 0);
            elements = omega (arith, at_elements, ap length elements, length-replicate {A = ℕ} (sum r.arrays) 0);
            words = sym count;
          };
          stacked = subst (λ (zs : List Suspended). Stacked p 0 0 zs s.at_regs s.at_elements) (sym none) (sym at_regs, sym at_elements);
        };
        same = λ input.
            let w : World (List MadeCall) = at_start [] p input turns in
            ap (λ (zs : List Suspended). resume add_call p s.regs.items s.elements.items zs
            (run_from add_call p r 0 0 (frame_in s r) (world_in add_call p t m input [] []))) none
            ∙ ap (λ (f : Frame). run_from add_call p r 0 0 f (world_in add_call p t m input [] [])) frame
            ∙ ap (λ (os : ℕ → ℕ → ℕ). run_from add_call p r 0 0 (frame_of r.params []) (record w { objects = os })) objects
            ∙ sym (exec_from add_call p r 0 (frame_of r.params []) w)
            ∙ sym (ap (λ (o : Option RoutineParts). begin (exec add_call p (suc turns)) o [] w) at.found);
      }
