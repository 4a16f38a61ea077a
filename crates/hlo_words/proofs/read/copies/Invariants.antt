use Rattle.std.proofs.Common.{◌≡◌, map, take}
use Rattle.hlo_words.proofs.read.copies.Given as goal

abbrev pub invariant-loop-name : goal.invariant-loop-name
invariant-loop-name l = l.files ≡ map (λ s. s.now) (take l.name-index l.names)
