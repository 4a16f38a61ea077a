-- What the slot of a lock holds.
use Rattle.std.specs.Prelude.{Option, Some, None}
use Rattle.std.specs.declared.snapshot.Snapshot.{Snapshot}
use Rattle.named_lock.specs.declared.view.Intent.{Intent}
use Rattle.named_lock.specs.declared.view.Held.{Held}

-- nothing is to be done
abbrev pub at_rest : {N : Type 0} → Intent N
at_rest = record { mine = None; other = None; share = 0 }

-- the note that is to be left, or the one that there is
abbrev pub note_or : {N : Type 0} → Option (Snapshot N) → N → N
note_or None n = n
note_or (Some s) n = s.value

-- the slot without the state
abbrev pub empty : {S N : Type 0} → Held S N
empty = record { state = None; intent = at_rest }

-- the slot with the state, as its giver puts it there, and the note that the giver leaves
abbrev pub filled : {S N : Type 0} → S → N → Held S N
filled x n = record { state = Some x; intent = record { mine = Some (record { marker = record {}; value = n }); other = None; share = 0 } }
