-- Where a call site is.
use Rattle.std.specs.Prelude.{◌≡◌, ℕ, suc, ◌-◌, ◌++◌, List, [], ◌∷◌, length, Option, Some, None, nat_lt, if◌then◌else◌}
use Rattle.il_core.specs.declared.instr.Block.{Block}
use Rattle.il_core.specs.declared.instr.Instr.{Instr}
use Rattle.il_core.specs.declared.instr.Instr.TheVariants.{Call}
use Rattle.il_core.specs.Meaning.{sites_in, sites_of}
use Rattle.il_laws.specs.Splice.{Cut, Site}
use Rattle.inliner.specs.declared.place.Place.{Place}

-- the place of call k among instructions, of which the first one has place i
abbrev pub call_place : ℕ → ℕ → List Instr → Option ℕ
call_place i k [] = None
call_place i k (x ∷ xs) = if nat_lt k (sites_in x) then Some i else call_place (suc i) (k - sites_in x) xs

-- a place in block b, where there is one, or else another
abbrev pub in_block : ℕ → Option ℕ → Option Place → Option Place
in_block b None other = other
in_block b (Some i) other = Some (record { block = b; instr = i })

-- the place of site k of blocks, of which the first one has number b
abbrev pub site_place : ℕ → ℕ → List Block → Option Place
site_place b k [] = None
site_place b k (x ∷ xs) = in_block b (call_place 0 k x.instrs) (site_place (suc b) (k - sites_of x.instrs) xs)

-- the instructions of a cut: those before the call, the call, those after it
abbrev pub uncut : Cut → List Instr
uncut c = c.before ++ Call c.dest c.callee c.count c.args ∷ c.after

-- a site is in these blocks, at this place
pub record IsAt (place : Place) (bs : List Block) (s : Site) : Type 0 where
  pub blocks : bs ≡ s.earlier ++ record { instrs = uncut s.cut; end = s.end } ∷ s.later
  pub block : place.block ≡ length s.earlier
  pub instr : place.instr ≡ length s.cut.before

-- a site is in this block, at this place
pub record IsIn (place : Place) (x : Block) (s : Site) : Type 0 where
  pub block_is : x ≡ record { instrs = uncut s.cut; end = s.end }
  pub block : place.block ≡ length s.earlier
  pub instr : place.instr ≡ length s.cut.before
