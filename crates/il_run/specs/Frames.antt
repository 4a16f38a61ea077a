-- What calls and returns do to the words of a running program.
use Rattle.std.specs.Prelude.{◌≡◌, ℕ, ◌-◌, ◌++◌, List, length, take, replicate, Option, Some, None}
use Rattle.il_run.specs.declared.store.Store.{Store}
use Rattle.il_run.specs.Plain.{SetsReg}

-- a call began: its registers are the arguments and then 0, and all of its elements are 0
pub record Enters (old new : Store) (args : List ℕ) (regs elements : ℕ) : Type 0 where
  pub all_regs : new.regs.items ≡ old.regs.items ++ (args ++ replicate (regs - length args) 0)
  pub all_elements : new.elements.items ≡ old.elements.items ++ replicate elements 0
  pub words : new.words.items ≡ old.words.items
  pub at_regs : new.at_regs ≡ length old.regs.items
  pub at_elements : new.at_elements ≡ length old.elements.items

-- a call's words are gone, and the words of the call that waited are the last ones again
pub record Leaves (old new : Store) (regs elements : ℕ) : Type 0 where
  pub all_regs : new.regs.items ≡ take old.at_regs old.regs.items
  pub all_elements : new.elements.items ≡ take old.at_elements old.elements.items
  pub words : new.words.items ≡ old.words.items
  pub at_regs : new.at_regs ≡ regs
  pub at_elements : new.at_elements ≡ elements

-- a register gets the value where it is wanted
abbrev pub Receives : Store → Store → Option ℕ → ℕ → Type 0
Receives old new None v = new ≡ old
Receives old new (Some d) v = SetsReg old new d v
