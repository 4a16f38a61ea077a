-- The counts at a small program.
use Rattle.std.proofs.Common.{◌≡◌, [], ◌∷◌, refl, true}
use Rattle.std.specs.Prelude.{codes, Some}
use Rattle.il_core.specs.declared.instr.Instr.TheVariants.{Call}
use Rattle.il_core.specs.declared.instr.End.TheVariants.{Return}
use Rattle.il_core.specs.declared.shape.Shape.TheVariants as shape
use Rattle.il_core.specs.declared.program.IlProgram.{IlProgram}
use Rattle.il_core.specs.Meaning.{calls_made}
use Rattle.il_run.specs.Counts.{capped, counts_of, no_counts}

-- `main` calls a routine at two sites, and it is called by nobody
abbrev twice : IlProgram
twice = record {
  shapes = record { pid = 0; name = codes "main"; shape = shape.Routine 0 true } ∷ record { pid = 2; name = codes "f"; shape = shape.Routine 0 true } ∷ [];
  objects = [];
  routines = record {
    pid = 0;
    params = 0;
    value = true;
    regs = 2;
    entry = 1;
    arrays = [];
    blocks =
        record { instrs = Call (Some 0) 2 1 [] ∷ Call (Some 1) 2 1 [] ∷ []; end = Return (Some 1) } ∷ [];
  } ∷
      record { pid = 2; params = 0; value = true; regs = 1; entry = 1; arrays = []; blocks = record { instrs = []; end = Return (Some 0) } ∷ [] } ∷ [];
}

both_sites : counts_of twice (calls_made twice [] 2) ≡ record { entries = 0 ∷ 2 ∷ []; sites = (1 ∷ 1 ∷ []) ∷ [] ∷ [] }
both_sites = refl

-- a call for which no turn is left isn't counted
one_site : counts_of twice (calls_made twice [] 1) ≡ record { entries = 0 ∷ 1 ∷ []; sites = (1 ∷ 0 ∷ []) ∷ [] ∷ [] }
one_site = refl

no_call : no_counts twice ≡ record { entries = 0 ∷ 0 ∷ []; sites = (0 ∷ 0 ∷ []) ∷ [] ∷ [] }
no_call = refl

stops : capped 4294967296 ≡ 4294967295
stops = refl
