-- A pass where nothing may be spent, as it changes a program.
use Rattle.std.specs.Prelude.{List, [], ◌∷◌}
use Rattle.il_core.specs.declared.program.IlProgram.{IlProgram}
use Rattle.il_laws.specs.Keeping.{with_each}
use Rattle.il_laws.specs.Reach.{pruned}
use Rattle.il_laws.specs.Simplify.{simplify}

-- each routine simplified
abbrev pub simplified : IlProgram → IlProgram
simplified p = with_each p simplify

-- each routine simplified twice, and the dead ones gone
abbrev pub passed : IlProgram → IlProgram
passed p = pruned (simplified (simplified p))

-- The six programs of the pass: no clone is made and no call goes elsewhere, then all are simplified, nothing is inlined, all are
-- simplified again, and the dead ones go.
abbrev pub pass_programs : IlProgram → List IlProgram
pass_programs p = p ∷ p ∷ simplified p ∷ simplified p ∷ simplified (simplified p) ∷ passed p ∷ []
