use Rattle.std.proofs.Common.{◌≡◌, ◌+◌, ◌-◌, ◌≤◌, drop}
use Rattle.il_core.specs.Meaning.{sites_of}
use Rattle.inliner.specs.Places.{call_place}
use Rattle.inliner.proofs.place.find_call.Given as goal

abbrev pub invariant-loop-i : goal.invariant-loop-i
invariant-loop-i l = record {
  passed : l.passed ≤ l.number;
  count : l.passed + sites_of (drop l.i l.instrs) ≡ sites_of l.instrs;
  place : call_place l.i (l.number - l.passed) (drop l.i l.instrs) ≡ call_place 0 l.number l.instrs;
}
