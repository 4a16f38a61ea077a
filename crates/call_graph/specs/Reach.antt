-- Summaries marked one after the other, by their places.
use Rattle.std.specs.Prelude.{◌≡◌, ℕ, suc, ◌<◌, ◌++◌, Bool, true, false, List, [], ◌∷◌, length, map, nat_eq, slice_index_or, slice_set, if◌then◌else◌}
use Rattle.il_laws.specs.Reach.{is_reached}
use Rattle.plan_laws.specs.Summary.{caller_of_summary}
use Rattle.call_graph.specs.declared.summary.Site.{Site}
use Rattle.call_graph.specs.declared.summary.Summary.{Summary}
use Rattle.call_graph.specs.Summaries.{summary_of}

-- the place of the first summary with a PID, or their number where there is none
abbrev pub place_of : List Summary → ℕ → ℕ
place_of [] pid = 0
place_of (s ∷ ss) pid = if nat_eq s.pid pid then 0 else suc (place_of ss pid)

-- a place noted where it is one and wasn't marked
abbrev pub noted : ℕ → List Bool → List ℕ → List ℕ
noted t ms fs = if slice_index_or ms t true then fs else fs ++ t ∷ []

-- the routines that are called, marked and noted in order
abbrev pub seen_all : List Summary → List Site → List Bool → List Bool
seen_all ss [] ms = ms
seen_all ss (s ∷ sites) ms = seen_all ss sites (slice_set ms (place_of ss s.callee) true)

abbrev pub noted_all : List Summary → List Site → List Bool → List ℕ → List ℕ
noted_all ss [] ms fs = fs
noted_all ss (s ∷ sites) ms fs = noted_all ss sites (slice_set ms (place_of ss s.callee) true) (noted (place_of ss s.callee) ms fs)

-- whether calls from one routine reach another
abbrev pub reaches : List Summary → ℕ → ℕ → Bool
reaches ss from pid = is_reached (map caller_of_summary (map summary_of ss)) from pid

-- marks of the summaries whose routines are reached
pub record AreReached (ss : List Summary) (from : ℕ) (ms : List Bool) : Type 0 where
  pub size : length ms ≡ length ss
  pub at : (i : ℕ) (d : Summary) → i < length ss → slice_index_or ms i false ≡ reaches ss from (slice_index_or ss i d).pid

-- the PIDs of the marked summaries, and of the others
abbrev pub marked_pids : List Bool → List Summary → List ℕ
marked_pids [] ss = []
marked_pids (m ∷ ms) [] = []
marked_pids (m ∷ ms) (s ∷ ss) = if m then s.pid ∷ marked_pids ms ss else marked_pids ms ss

abbrev pub other_pids : List Bool → List Summary → List ℕ
other_pids [] ss = []
other_pids (m ∷ ms) [] = []
other_pids (m ∷ ms) (s ∷ ss) = if m then other_pids ms ss else s.pid ∷ other_pids ms ss
