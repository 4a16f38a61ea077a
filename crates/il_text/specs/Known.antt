-- The sets of what was used.
use Rattle.std.specs.Prelude.{ℕ, ◌≡◌, List}
use Rattle.std.specs.BTreeSet.{contains}
use Rattle.std.specs.Cmp.Lexicographic.{slice_cmp}
use Rattle.std.specs.Ordering.{nat_cmp}
use denote.Ref.{Bor}
use Rattle.il_text.specs.declared.order.Used.{Used}
use Rattle.il_text.specs.Order.{Item, has_pid, has_name}

-- the sets have the PIDs and the names of these items, and no others
pub record Knows (used : Used) (items : List Item) : Type 0 where
  pub pids : (q : ℕ) → contains nat_cmp used.pids q ≡ has_pid items q
  pub names : (q : Bor (List ℕ)) → contains (λ x y. slice_cmp nat_cmp x.now y.now) used.names q ≡ has_name items q.now
