use Rattle.std.proofs.Common.{◌≡◌, ◌+◌, ◌≤◌, drop}
use Rattle.c_types.specs.Specifiers as specs
use Rattle.c_types.proofs.specifiers.storages.Given as goal

abbrev pub invariant-loop-part : goal.invariant-loop-part
invariant-loop-part l = (l.n + specs.how_many (λ p. specs.is_storage (specs.storage_part p)) (drop l.part-index l.parts) ≡ specs.how_many
    (λ p. specs.is_storage (specs.storage_part p)) l.parts) × (l.n ≤ l.part-index)
