use Rattle.std.proofs.Common.{◌∷◌}
use Rattle.std.specs.Prelude.{codes}
use Rattle.std.specs.Fmt.{decimal}
use Rattle.il_core.specs.Text.{value_name}
use Rattle.il_text.proofs.header.routine_head.Goals as goal

pub returns-clause-each : goal.returns-clause-each
returns-clause-each c = λ x ws h e.
    let r = c.in_ok-pid.ensures.each x.routine.pid (x.name ∷ codes "params" ∷ decimal x.routine.params ∷ value_name x.routine.value ∷ codes "regs" ∷ decimal
    x.routine.regs ∷ codes "entry" ∷ decimal x.routine.entry ∷ ws) h.limits.pid e in
    let s = c.in_ok-name.ensures.each x.name (codes "params" ∷ decimal x.routine.params ∷ value_name x.routine.value ∷ codes "regs" ∷ decimal x.routine.regs ∷
    codes "entry" ∷ decimal x.routine.entry ∷ ws) h.name r.1 in
    let t = c.in_ok-params.ensures.each x.routine.params x.routine.value (codes "regs" ∷ decimal x.routine.regs ∷ codes "entry" ∷ decimal x.routine.entry ∷ ws)
    h.limits.params s.1 in
    let u = c.in_ok-regs.ensures.each x.routine.regs x.routine.entry ws h.limits.regs h.entry t.2 in
    record { pid = r.0; name = s.0; params = t.0; value = t.1; regs = u.0; entry = u.1; rest = u.2 }
