-- What contracts see of the fields.
use Rattle.std.specs.Prelude.{drop}
use Rattle.naim_core.specs.State.{Core}
use Rattle.naim_core.specs.declared.state.CoreState.TheInside.{Inside}

abbrev pub core_of : Inside → Core
core_of s = record {
  limit = s.limit;
  pools = s.pools;
  hands = s.hands.items;
  in_wave = s.in_wave;
  tasks = s.tasks.items;
  unclaimed = drop s.next s.tasks.items;
  done = s.done.items;
  disk = s.disk;
  failure = s.failure;
}
