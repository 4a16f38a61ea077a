-- The routine of `main` stands.
use Rattle.std.proofs.Common.{◌≡◌, true}
use Rattle.std.specs.Prelude.{codes, Contains}
use Rattle.il_core.specs.declared.program.IlProgram.{IlProgram}
use Rattle.il_core.specs.declared.shape.ShapeRow.{ShapeRow}
use Rattle.il_core.specs.Program.{main_pid}
use Rattle.il_core.specs.Valid.{IsProgram}
use Rattle.il_core.proofs.Main.{main_shape, once}
use Rattle.il_core.proofs.Programs.{callee_of}
use Rattle.il_laws.specs.Keeping.{Stands}

pub main_stands : (p : IlProgram) → IsProgram p → Stands p (main_pid p.shapes)
main_stands p valid =
    let c = callee_of p valid (main_pid p.shapes) 0 true (main_shape p valid) in
    record { routine = c.routine; is = c.is }

-- the row of that name has its PID
pub main_of_row : (p : IlProgram) → IsProgram p → (row : ShapeRow) → Contains p.shapes row → row.name ≡ codes "main" → main_pid p.shapes ≡ row.pid
main_of_row p valid row c e = once (codes "main") p.shapes c.0 row valid.names c.1 c.2 e
