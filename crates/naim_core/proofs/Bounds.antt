-- The sums stay small.
use Rattle.std.proofs.Common.{◌≡◌, ℕ, ◌+◌, ◌*◌, ◌<◌, ◌≤◌, ◌^◌, nat_eq, List, [], ◌∷◌, length, Some, None, refl, sym, ap, arith, ◌∙◌}
use Rattle.std.proofs.Common.{sum_by, false}
use Rattle.std.specs.List.{IsDistinct}
use Rattle.std.specs.Map.{keys_of, values_of, lookup}
use Rattle.std.proofs.lemmas.List.Sums.{sum_by-cons, count_by-le-length}
use Rattle.std.proofs.lemmas.Map.Keys.{IsDistinct-tail}
use Rattle.naim_core.specs.Charges.{under_part, held_part, under_sum, held_sum}
use Rattle.naim_core.specs.Sound.{IsFitPool, IsSound, read_pins}
use Rattle.naim_core.specs.State.{Core, pool_at, readers_at, holds}
use Rattle.naim_core.specs.declared.event.Mode.TheVariants as mode
use Rattle.naim_core.specs.declared.pool.Pool.{Pool}
use Rattle.naim_core.specs.declared.pool.Stage.{Stage}
use Rattle.naim_core.specs.declared.pool.Stage.TheVariants as stage
use Rattle.list_laws.proofs.Entries.{other_number, number_itself, head_absent}

held_small : (limit : ℕ) (st : Stage) (e c : ℕ) → IsFitPool limit (record { stage = st; e = e; c = c })
    → held_part (record { stage = st; e = e; c = c }) ≤ 2 ^ 42
held_small limit stage.Free e c f = omega arith
held_small limit (stage.Read n) e c f = let a = f.shorter in let b = f.charge in omega arith
held_small limit (stage.Written room) e c f = let a = f.shorter in let b = f.charge in let d = f.stage_fits in omega arith
held_small limit stage.Compacted e c f = omega arith
held_small limit stage.Offloaded e c f = omega arith
held_small limit stage.Compacting e c f = let b = f.charge in omega arith
held_small limit stage.Offloading e c f = let a = f.shorter in let b = f.charge in omega arith
held_small limit (stage.Reloading mode.Read d) e c f = let a = f.shorter in let b = f.charge in omega arith
held_small limit (stage.Reloading (mode.Write room) d) e c f = let a = f.shorter in let b = f.charge in let k = f.stage_fits in omega arith

under_small : (limit : ℕ) (st : Stage) (e c : ℕ) → IsFitPool limit (record { stage = st; e = e; c = c })
    → under_part (record { stage = st; e = e; c = c }) ≤ 2 ^ 40
under_small limit stage.Free e c f = f.charge
under_small limit (stage.Read n) e c f = omega arith
under_small limit (stage.Written room) e c f = omega arith
under_small limit stage.Compacted e c f = let a = f.shorter in let b = f.charge in omega arith
under_small limit stage.Offloaded e c f = omega arith
under_small limit stage.Compacting e c f = let a = f.shorter in let b = f.charge in omega arith
under_small limit stage.Offloading e c f = omega arith
under_small limit (stage.Reloading m d) e c f = omega arith

held_bound : (limit : ℕ) (es : List (ℕ × Pool)) → IsDistinct nat_eq (keys_of es) → ((p : ℕ) (x : Pool) → lookup (nat_eq p) es ≡ Some x → IsFitPool limit x)
    → held_sum es ≤ length es * 2 ^ 42
held_bound limit [] d fits = omega arith
held_bound limit (e ∷ es) d fits =
    let rest = held_bound limit es (IsDistinct-tail nat_eq e.0 (keys_of es) d) (λ p x at. fits p x (let ne : nat_eq p e.0 ≡ false = other_number p e.0 (λ same.
    let none = head_absent e.0 es d in let k : Some x ≡ None = sym at ∙ (ap (λ i. lookup (nat_eq i) es) same ∙ none) in cc) in rw ne at)) in
    let here : held_part e.1 ≤ 2 ^ 42 = held_small limit e.1.stage e.1.e e.1.c (fits e.0 e.1 (rw (number_itself e.0) refl)) in
    let s = sum_by-cons held_part e.1 (values_of es) in
    let g : sum_by held_part (e.1 ∷ values_of es) ≤ length (e ∷ es) * 2 ^ 42 = omega arith in g

-- a pool that the next state has fits beside the sums
pub sums_fit : (s new : Core) (p : ℕ) (y : Pool) → IsSound s → IsSound new → s.limit ≤ 2 ^ 30 → pool_at new.pools p ≡ Some y
    → (under_sum s.pools + under_part y < 2 ^ 64) × (held_sum s.pools + held_part y < 2 ^ 64)
sums_fit s new p y sound next small at =
    let fits = next.forms_fit p y at in let u = under_small new.limit y.stage y.e y.c fits in let h = held_small new.limit y.stage y.e y.c fits in
    let a = sound.under_fits in let n = sound.slots in let b = held_bound s.limit s.pools sound.one_pool sound.forms_fit in (omega arith, omega arith)

pub held_total : (s : Core) → IsSound s → held_sum s.pools < 2 ^ 55
held_total s sound = let n = sound.slots in let b = held_bound s.limit s.pools sound.one_pool sound.forms_fit in omega arith

readers_pins : (st : Stage) → readers_at st ≤ read_pins st
readers_pins stage.Free = omega arith
readers_pins (stage.Read n) = omega arith
readers_pins (stage.Written n) = omega arith
readers_pins stage.Compacted = omega arith
readers_pins stage.Offloaded = omega arith
readers_pins stage.Compacting = omega arith
readers_pins stage.Offloading = omega arith
readers_pins (stage.Reloading m d) = omega arith

-- no more readers than workers
pub few_readers : (s : Core) (p : ℕ) (x : Pool) → IsSound s → length s.hands ≤ 64 → pool_at s.pools p ≡ Some x → readers_at x.stage < 2 ^ 31
few_readers s p x sound few at =
    let a = sound.readers p in let b = rw at at a in let c = count_by-le-length (λ h. holds h.read p) s.hands in let d = readers_pins x.stage in omega arith
