-- Where the summary of a PID stands.
use Rattle.std.specs.Prelude.{◌≡◌, ℕ, List, Option, Some, None, slice_get, slice_index_or}
use Rattle.plan_laws.specs.Summary.{summary_at}
use Rattle.call_graph.specs.Summaries.{Seen}

abbrev pub seen_at : List Seen → Option ℕ → Option Seen
seen_at ss None = None
seen_at ss (Some k) = slice_get ss k

-- by PID, the places of the first summaries with them
pub record Finds (places : List (Option ℕ)) (ss : List Seen) : Type 0 where
  pub at : (pid : ℕ) → seen_at ss (slice_index_or places pid None) ≡ summary_at ss pid
