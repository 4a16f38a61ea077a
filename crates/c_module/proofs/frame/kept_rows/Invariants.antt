use Rattle.std.proofs.Common.{◌≡◌}
use Rattle.c_module.specs.Frames as specs
use Rattle.c_module.proofs.frame.kept_rows.Given as goal

abbrev pub invariant-loop-row : goal.invariant-loop-row
invariant-loop-row l = record {
  kept : l.kept.items ≡ specs.kept_rows l.table l.objects l.yielded;
  others : l.others ≡ specs.marks_behind l.table l.yielded;
  left : l.left ≡ specs.objects_behind l.objects l.yielded;
}
