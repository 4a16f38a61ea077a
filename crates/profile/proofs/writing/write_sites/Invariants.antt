use Rattle.std.proofs.Common.{take}
use Rattle.profile.specs.Writing.{Adds, site_lines}
use Rattle.profile.proofs.writing.write_sites.Given as goal

abbrev pub invariant-loop-k : goal.invariant-loop-k
invariant-loop-k l = Adds (site_lines l.name (take l.k-index l.sites)) l.fn.out.items l.out.items
