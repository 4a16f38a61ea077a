use Rattle.std.proofs.Common.{◌∙◌, refl, sym, ap, ℕ, length, true, false}
use Rattle.std.proofs.lemmas.Bool.{true≢false}
use Rattle.std.specs.Prelude.{Option}
use Rattle.il_core.specs.Operands.{is_named}
use Rattle.const_prop.proofs.Noting.{note_next, end_taken, needed_done, took_nothing}
use Rattle.const_prop.proofs.carried.Taking.take_needed.Goals as goal

pub loop-instr-preserved : goal.loop-instr-preserved
loop-instr-preserved c =
    note_next (length c.args.self.now.takers.items) c.args.block.now.instrs c.args.self.now c.loop-instr.self c.note.new.self c.loop-instr.instr-index
    c.instr-item.result
    c.as_slice-instr-items.result.now c.as_slice-instr-items.ensures c.loop-instr-test.true c.instr-item.is c.loop-instr.invariant
    c.in_ok-note.ensures.taking c.in_ok-note.ensures.noted

pub returns-in_ok-take-clause-needed : goal.returns-in_ok-take-clause-needed
returns-in_ok-take-clause-needed c =
    needed_done (length c.args.self.now.takers.items) c.args.block.now.instrs c.args.self.now c.loop-instr.self c.take.new.self c.loop-instr.instr-index
    c.args.block.now
    c.as_slice-instr-items.result.now c.as_slice-instr-items.ensures refl c.loop-instr-test.false c.requires.fresh c.loop-instr.invariant
    c.in_ok-take.ensures.took
    (λ x lt e unwritten. end_taken (length c.args.self.now.takers.items) c.args.block.now.instrs c.args.self.now c.loop-instr.self c.take.new.self
    c.loop-instr.instr-index
    c.args.block.now.end c.source.result c.in-Some.register x c.source.ensures c.in-Some.is lt e c.loop-instr.invariant c.in_ok-take.ensures.here unwritten)

pub returns-in_default-clause-needed : goal.returns-in_default-clause-needed
returns-in_default-clause-needed c =
    needed_done (length c.args.self.now.takers.items) c.args.block.now.instrs c.args.self.now c.loop-instr.self c.loop-instr.self c.loop-instr.instr-index
    c.args.block.now
    c.as_slice-instr-items.result.now c.as_slice-instr-items.ensures refl c.loop-instr-test.false c.requires.fresh c.loop-instr.invariant
    (took_nothing c.loop-instr.self)
    (λ x lt e unwritten. absurd (true≢false (sym e ∙ ap (λ (o : Option ℕ). is_named o x) (sym c.source.ensures ∙ c.in_default.is))))
