use Rattle.std.proofs.Common.{◌≡◌, ◌≤◌, ℕ, List, ap, sym, ◌∙◌, subst, length}
use Rattle.std.specs.Prelude.{sum}
use Rattle.il_core.specs.Limits.{max_arrays, max_elements}
use Rattle.c_typed.specs.Views.{function_of}
use Rattle.lower_laws.specs.Functions.{lowered}
use Rattle.c_lower.specs.Drafts.{Fixed}
use Rattle.c_lower.specs.Settings.{fixed_of}
use Rattle.c_lower.proofs.Routines.{numbers_are, blocks_made, past_registers, past_size, past_instrs, kept, within, is_lowered}
use Rattle.c_lower.proofs.lowering.routine.Goals as goal
use Rattle.c_lower.proofs.lowering.routine.Goals.{then-regs-gt-REGISTERS-via-then-regs-gt-REGISTERS}
use Rattle.c_lower.proofs.lowering.routine.Goals.{then-regs-gt-REGISTERS-via-else-regs-gt-REGISTERS+then-size-gt-SIZE}

pub returns-then-regs-gt-REGISTERS-clause-too_large : goal.returns-then-regs-gt-REGISTERS-clause-too_large
returns-then-regs-gt-REGISTERS-clause-too_large c =
    let f = function_of c.args.f.now in
    let y = fixed_of c.args.c.now in
    let m = numbers_are y.count f y c.len-params.result c.new-writer.result.numbers c.body.new.self.numbers c.requires.setting c.len-params.ensures
    c.new-writer.ensures.numbers c.in-Ok.ensures.numbers in
    λ e. elim c.then-regs-gt-REGISTERS.branch [
      | then-regs-gt-REGISTERS-via-then-regs-gt-REGISTERS w ↦ past_registers c.args.entry y.count f c.body.new.self.numbers c.reg-regs.result m
          c.reg-regs.ensures w.if-regs-gt-REGISTERS.true
      | then-regs-gt-REGISTERS-via-else-regs-gt-REGISTERS+then-size-gt-SIZE w ↦ past_size c.lowered_sizes_are_numbers.ensures c.args.entry y.count f
          c.body.new.self.numbers c.size-size.result m c.size-size.ensures w.if-size-gt-SIZE.true
    ]

pub returns-then-not-blocks_keep_limits-clause-too_large : goal.returns-then-not-blocks_keep_limits-clause-too_large
returns-then-not-blocks_keep_limits-clause-too_large c =
    let f = function_of c.args.f.now in
    let y = fixed_of c.args.c.now in
    let b = blocks_made c.args.entry y.count f y c.len-params.result c.new-writer.result.numbers c.new-writer.result.draft c.body.new.self.draft
    c.into_blocks-blocks.result.items c.requires.bound c.requires.setting c.len-params.ensures c.new-writer.ensures.numbers
    c.new-writer.ensures.draft c.in-Ok.ensures.draft c.into_blocks-blocks.ensures in
    λ e. past_instrs (lowered c.args.entry y.count f) c.as_slice.result.now c.blocks_keep_limits.result
    (c.as_slice.ensures.value ∙ b) c.blocks_keep_limits.ensures c.if-not-blocks_keep_limits.true

pub invariant_of-result : goal.invariant_of-result
invariant_of-result c =
    let f = function_of c.args.f.now in
    let y = fixed_of c.args.c.now in
    let m = numbers_are y.count f y c.len-params.result c.new-writer.result.numbers c.body.new.self.numbers c.requires.setting c.len-params.ensures
    c.new-writer.ensures.numbers c.in-Ok.ensures.numbers in
    let b = blocks_made c.args.entry y.count f y c.len-params.result c.new-writer.result.numbers c.new-writer.result.draft c.body.new.self.draft
    c.into_blocks-blocks.result.items c.requires.bound c.requires.setting c.len-params.ensures c.new-writer.ensures.numbers
    c.new-writer.ensures.draft c.in-Ok.ensures.draft c.into_blocks-blocks.ensures in
    let blocks : c.from_vec-2.result ≡ c.as_slice.result.now = c.from_vec-2.ensures ∙ sym c.as_slice.ensures.value in
    let all = kept c.as_slice.result.now c.from_vec-2.result c.blocks_keep_limits.result blocks c.blocks_keep_limits.ensures
    c.if-not-blocks_keep_limits.false in
    within c.lowered_sizes_are_numbers.ensures c.args.entry y.count f c.from_vec-2.result c.len-params.result c.reg-regs.result c.size-size.result
    c.args.c.now.value c.from_vec.result (c.from_vec-2.ensures ∙ b) c.len-params.ensures (c.reg-regs.ensures ∙ ap (λ v. v.reg) m)
    (c.size-size.ensures ∙ ap (λ v. v.size) m) (c.from_vec.ensures ∙ c.requires.lengths) c.requires.pid c.requires.params
    (subst (λ (l : List ℕ). length l ≤ max_arrays) (sym c.from_vec.ensures) c.requires.arrays)
    (subst (λ (l : List ℕ). sum l ≤ max_elements) (sym c.from_vec.ensures) c.requires.elements) c.if-regs-gt-REGISTERS.false c.if-size-gt-SIZE.false all

pub returns-clause-routine : goal.returns-clause-routine
returns-clause-routine c =
    let f = function_of c.args.f.now in
    let y = fixed_of c.args.c.now in
    let m = numbers_are y.count f y c.len-params.result c.new-writer.result.numbers c.body.new.self.numbers c.requires.setting c.len-params.ensures
    c.new-writer.ensures.numbers c.in-Ok.ensures.numbers in
    let b = blocks_made c.args.entry y.count f y c.len-params.result c.new-writer.result.numbers c.new-writer.result.draft c.body.new.self.draft
    c.into_blocks-blocks.result.items c.requires.bound c.requires.setting c.len-params.ensures c.new-writer.ensures.numbers
    c.new-writer.ensures.draft c.in-Ok.ensures.draft c.into_blocks-blocks.ensures in
    is_lowered c.args.entry y.count f c.from_vec-2.result c.len-params.result c.reg-regs.result c.args.c.now.value c.from_vec.result
    (c.from_vec-2.ensures ∙ b) c.len-params.ensures (c.reg-regs.ensures ∙ ap (λ v. v.reg) m)
    (ap (λ (v : Fixed). v.outline.value) c.requires.setting) (c.from_vec.ensures ∙ c.requires.lengths)
