-- `main` keeps its PID through a pass, and so to the last program.
use Rattle.std.proofs.Common.{◌≡◌, ℕ, zero, suc, List, map, refl, ◌∙◌}
use Rattle.std.specs.Prelude.{flat_map}
use Rattle.il_core.specs.Program.{main_pid}
use Rattle.il_core.specs.Valid.{IsProgram, HasEachNameOnce}
use Rattle.il_core.specs.declared.program.IlProgram.{IlProgram}
use Rattle.il_core.specs.declared.shape.ShapeRow.{ShapeRow}
use Rattle.il_laws.proofs.KeptPrograms.{pruned_follows}
use Rattle.plan_laws.specs.Plan.{State, Pass, one_pass, states_of, passes_from, last_program}
use Rattle.plan_laws.proofs.Adding.{IsSound}
use Rattle.plan_laws.proofs.Passing.{added, pass_succeeds}

-- the pass's first program and its last one have this main; the others have the first one's shapes
pub record KeepsMain (main : ℕ) (x : Pass) : Type 0 where
  pub added : main_pid x.added.program.shapes ≡ main
  pub pruned : main_pid x.pruned.program.shapes ≡ main

-- a valid program with this main
pub record Ends (main : ℕ) (q : IlProgram) : Type 0 where
  pub valid : IsProgram q
  pub main_is : main_pid q.shapes ≡ main

module _ (names : List ShapeRow) (once : HasEachNameOnce names) where
  pub pass_main : (budget limit : ℕ) (st : State) → IsSound names st → KeepsMain (main_pid st.program.shapes) (one_pass names budget limit st)
  pass_main budget limit st sound =
      let x = one_pass names budget limit st in
      let h = pass_succeeds names once budget limit st sound in
      let one = (added names once budget limit st sound).grows.main in
      let gone = (pruned_follows x.simplified_again.program h.simplified_again.sound.valid).main in
      record { added = one; pruned = gone ∙ one }

  pub last_ends : (budget : ℕ) (limit : ℕ → ℕ) (left k : ℕ) (st : State) → IsSound names st
      → Ends (main_pid st.program.shapes)
      (last_program st.program (map (λ (z : State). z.program) (flat_map states_of (passes_from names budget limit k left st))))
  last_ends budget limit zero k st sound = record { valid = sound.valid; main_is = refl }
  last_ends budget limit (suc left) k st sound =
      let x = one_pass names budget (limit k) st in
      let h = pass_succeeds names once budget (limit k) st sound in
      let rest = last_ends budget limit left (suc k) x.pruned h.pruned.sound in
      record { valid = rest.valid; main_is = rest.main_is ∙ (pass_main budget (limit k) st sound).pruned }
