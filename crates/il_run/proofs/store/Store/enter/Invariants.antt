use Rattle.std.proofs.Common.{◌≡◌, ◌++◌, length, take}
use Rattle.il_core.specs.World.{each}
use Rattle.il_run.specs.Plain.{frame_in}
use Rattle.il_run.proofs.store.Store.enter.Given as goal

abbrev pub invariant-loop-x : goal.invariant-loop-x
invariant-loop-x l = record {
  regs : l.self.regs.items ≡ l.fn.self.regs.items ++ each (frame_in l.fn.self l.r).regs (take l.x-index l.args);
  elements : l.self.elements.items ≡ l.fn.self.elements.items;
  words : l.self.words.items ≡ l.fn.self.words.items;
  begins : l.self.at_regs ≡ l.fn.self.at_regs;
  at_regs : l.at_regs ≡ length l.fn.self.regs.items;
  at_elements : l.at_elements ≡ length l.fn.self.elements.items;
}
