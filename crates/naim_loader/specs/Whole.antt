-- What a loader keeps between calls: each pool's value stands in the form that the core's state tells.
use Rattle.std.specs.Prelude.{◌≡◌, ◌<◌, ◌≤◌, ◌^◌, ◌*◌, ℕ, Bool, true, List, length, Option, Some, None, nat_eq, is_none, ⊤}
use Rattle.std.specs.List.{IsDistinct}
use Rattle.std.specs.Map.{keys_of, lookup}
use Rattle.repository.specs.Record.{HasBytes}
use Rattle.naim_core.specs.State.{Core, pool_at}
use Rattle.naim_core.specs.Sound.{IsSound}
use Rattle.naim_core.specs.declared.pool.Pool.{Pool}
use Rattle.naim_loader.specs.declared.counters.Counters.{Counters}
use Rattle.naim_loader.specs.declared.home.Home.{Home}
use Rattle.naim_loader.specs.declared.table.Entry.{Entry}
use Rattle.naim_loader.specs.Forms.{LiesAs, is_filed}
use Rattle.naim_loader.specs.Home.{told, is_home}
use Rattle.naim_loader.specs.Paged.{IsGood}

module _ {T B : Type 0} (charge : T → ℕ) (spell : T → List ℕ) (is_value : T → Type 0) where
  -- The pool p with its value: its numbers are the value's. While no failure is kept, the value lies as the stage
  -- says, and over a disk that is trusted the disk has its record where the pool is offloaded.
  pub record Standing (limit : ℕ) (running trusted : Type 0) (on_disk : Option (List ℕ)) (p : ℕ) (x : Pool) (e : Entry T B) : Type 0 where
    pub below : p < 131072
    pub value : is_value e.value.value
    pub charge_is : x.e ≡ charge e.value.value
    pub length_is : x.c ≡ length (spell e.value.value)
    pub lies : running → LiesAs spell (p * limit) x.stage e.body e.value.value
    pub filed : running → trusted → is_filed x.stage ≡ true → HasBytes on_disk (p * limit) (spell e.value.value)

  -- a pool is there exactly where something is kept of it
  abbrev pub Stands : ℕ → Type 0 → Type 0 → Option (List ℕ) → ℕ → Option Pool → Option (Entry T B) → Type 0
  Stands limit running trusted on_disk p None None = ⊤
  Stands limit running trusted on_disk p None (Some e) = ⊥
  Stands limit running trusted on_disk p (Some x) None = ⊥
  Stands limit running trusted on_disk p (Some x) (Some e) = Standing limit running trusted on_disk p x e

pub record IsWhole {T B D : Type 0} (charge : T → ℕ) (spell : T → List ℕ) (is_value : T → Type 0) (bytes : D → Option (List ℕ)) (reach : D → ℕ)
    (honest : D → Bool)
    (limit : ℕ) (core : Core) (rows : List (ℕ × Entry T B)) (disk : Home D) (first : D) (counters : Counters) : Type 0 where
  pub limit_is : core.limit ≡ limit
  pub small : limit ≤ 2 ^ 30
  pub workers : 0 < length core.hands
  pub sound : IsSound core
  pub differ : IsDistinct nat_eq (keys_of rows)
  pub stands : (p : ℕ) → Stands charge spell is_value limit (core.failure ≡ None) (IsGood reach honest limit first) (bytes (told disk)) p (pool_at core.pools p)
      (lookup (nat_eq p) rows)
  pub home : core.failure ≡ None → is_home disk ≡ is_none core.disk
  pub good : IsGood reach honest limit first → IsGood reach honest limit (told disk)
  pub peak : counters.under_peak ≤ limit
