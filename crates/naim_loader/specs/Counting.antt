-- What events add to the peaks and counts.
use Rattle.std.specs.Prelude.{◌≡◌, length, Ok, Err, ℕ, ◌+◌, ◌-◌, ◌^◌, Bool, true, false, min, max, if◌then◌else◌}
use Rattle.naim_core.specs.Charges.{under_sum, held_sum}
use Rattle.naim_core.specs.State.{Core}
use Rattle.naim_core.specs.Sound.{IsSound, RecordsApart}
use Rattle.naim_core.specs.Steps.{step_of}
use Rattle.naim_core.specs.declared.event.Event.{Event}
use Rattle.naim_core.specs.declared.event.Event.TheVariants as event
use Rattle.naim_core.specs.declared.event.Refusal.{Refusal}
use Rattle.naim_loader.specs.declared.counters.Counters.{Counters}

abbrev pub is_compact_end : Event → Bool
is_compact_end (event.CompactEnd w p) = true
is_compact_end _ = false

abbrev pub is_offload_end : Event → Bool
is_offload_end (event.OffloadEnd w p) = true
is_offload_end _ = false

abbrev pub is_reload_end : Event → Bool
is_reload_end (event.ReloadEnd w p) = true
is_reload_end _ = false

-- one more where the test holds; a count at its last value, 2^64 - 1, stays there
abbrev pub one_more : Bool → ℕ → ℕ
one_more b n = if b then min (n + 1) (2 ^ 64 - 1) else n

-- after an event that made the state s: each peak is the greater of its old value and the value now, and the ends of moves are counted
abbrev pub counted : Event → Counters → Core → Counters
counted e c s = record {
  charged_peak = max c.charged_peak (under_sum s.pools + held_sum s.pools);
  under_peak = max c.under_peak (under_sum s.pools);
  compactions = one_more (is_compact_end e) c.compactions;
  offloads = one_more (is_offload_end e) c.offloads;
  reloads = one_more (is_reload_end e) c.reloads;
}

-- the event was taken, and counted
pub record Stepped (s : Core) (e : Event) (new : Core) (before after : Counters) : Type 0 where
  pub step : step_of s e ≡ Ok new
  pub sound : IsSound new
  pub apart : RecordsApart new
  pub limit : new.limit ≡ s.limit
  pub workers : length new.hands ≡ length s.hands
  pub counts : after ≡ counted e before new

-- the event was refused, and nothing has changed
pub record Refused (s : Core) (e : Event) (r : Refusal) (new : Core) (before after : Counters) : Type 0 where
  pub step : step_of s e ≡ Err r
  pub same : new ≡ s
  pub counts : after ≡ before

abbrev pub no_counts : Counters
no_counts = record { charged_peak = 0; under_peak = 0; compactions = 0; offloads = 0; reloads = 0 }
