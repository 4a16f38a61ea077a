use Rattle.std.proofs.Common.{◌≡◌, drop}
use Rattle.inliner.specs.Places.{site_place}
use Rattle.inliner.proofs.place.place_of.Given as goal

abbrev pub invariant-loop-b : goal.invariant-loop-b
invariant-loop-b l = site_place l.b l.left (drop l.b l.blocks) ≡ site_place 0 l.site l.blocks
