-- The order of a program's objects and routines.
use Rattle.std.specs.Prelude.{ℕ, ◌+◌, Bool, true, not, ◌==◌, ◌&&◌, nat_lt, List, [], ◌∷◌, ◌++◌, Option, Some, None, if◌then◌else◌, option_map, map}
use Rattle.std.specs.List.{list_any}
use Rattle.std.specs.Str.{bytes_eq}
use Rattle.il_text.specs.declared.line.NamedObject.{NamedObject}
use Rattle.il_text.specs.declared.line.NamedRoutine.{NamedRoutine}

-- what an object or a routine is known by
pub record Item : Type 0 where
  pub pid : ℕ
  pub name : List ℕ

abbrev pub object_item : NamedObject → Item
object_item o = record { pid = o.object.pid; name = o.name }

abbrev pub routine_item : NamedRoutine → Item
routine_item r = record { pid = r.routine.pid; name = r.name }

abbrev pub object_items : List NamedObject → List Item
object_items os = map object_item os

abbrev pub routine_items : List NamedRoutine → List Item
routine_items rs = map routine_item rs

abbrev pub has_pid : List Item → ℕ → Bool
has_pid items pid = list_any (λ y. y.pid == pid) items

abbrev pub has_name : List Item → List ℕ → Bool
has_name items name = list_any (λ y. bytes_eq y.name name) items

-- above the PID before in its list, if there is one
abbrev pub is_above : Option ℕ → ℕ → Bool
is_above None pid = true
is_above (Some before) pid = nat_lt before pid

-- above the one before, and neither PID nor name was used
abbrev pub is_placed : List Item → Option ℕ → Item → Bool
is_placed used before x = is_above before x.pid && (not (has_pid used x.pid) && not (has_name used x.name))

-- the first of these items that isn't placed, behind the items that were used
abbrev pub first_misplaced : List Item → Option ℕ → List Item → Option ℕ
first_misplaced used before [] = None
first_misplaced used before (x ∷ xs) = if is_placed used before x then option_map (λ k. k + 1) (first_misplaced (used ++ x ∷ []) (Some x.pid) xs) else Some 0
