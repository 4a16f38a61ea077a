-- The calls of the choice inlined in a program, as a step of a pass.
use Rattle.std.specs.Prelude.{◌≡◌, ℕ, false, List, ⊤}
use Rattle.il_core.specs.declared.program.IlProgram.{IlProgram}
use Rattle.il_laws.specs.Keeping.{with_each}
use Rattle.naim_core.specs.declared.event.Failure.{Failure}
use Rattle.naim_core.specs.declared.event.Failure.TheVariants as failure
use Rattle.plan_laws.specs.Choosing.{choice}
use Rattle.plan_laws.specs.Inlining.{inlined_routine}
use Rattle.plan_laws.specs.Summary.{Summary, summaries}
use Rattle.inline_steps.specs.Linking.{are_usable}

-- each routine with the callees of the choice under a limit of the cost
abbrev pub inlined : ℕ → ℕ → IlProgram → IlProgram
inlined main limit p = with_each p (inlined_routine p.routines (choice (summaries p) main limit))

-- why a graph isn't taken: the choice or the groups may not be asked of it, or memory was wanting
abbrev pub CheckCause : List Summary → Failure → Type 0
CheckCause ss failure.Repository = ⊥
CheckCause ss (failure.Damaged place kept found) = ⊥
CheckCause ss (failure.Unreadable place) = ⊥
CheckCause ss (failure.Unfit q) = are_usable ss ≡ false
CheckCause ss (failure.TooSmall q need limit) = ⊥
CheckCause ss failure.Memory = ⊤
