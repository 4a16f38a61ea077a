-- What a step of the check promises: that it follows a rule.
use Rattle.std.specs.Prelude.{◌≡◌, Result, Ok, Err}
use Rattle.c_types.specs.declared.fault.TypeFault.{TypeFault}
use Rattle.c_types.specs.declared.fault.TypeFault.TheVariants as faults
use Rattle.c_types.specs.Rules.{Here, Reply, Gives, Breaks, Rule}

-- the fault that is told: the rule that is broken, or want of memory
abbrev pub Tells : {A : Type 0} → Reply A → TypeFault → Type 0
Tells reply (faults.At line kind) = reply ≡ Breaks line kind
Tells reply faults.Memory = Unit {0}

-- what the rule gives, and what is known then
abbrev pub Follows : {X A : Type 0} → (X → A) → Rule A → Here → Result X TypeFault → Here → Type 0
Follows view rule old (Ok x) new = rule old ≡ Gives (view x) new
Follows view rule old (Err fault) new = Tells (rule old) fault
