-- The calls of a routine in order, and what is known of their arguments.
use Rattle.std.specs.Prelude.{List, [], ◌∷◌, flat_map, Option}
use Rattle.hlo_num.specs.declared.word.Word.{Word}
use Rattle.il_core.specs.declared.instr.Block.{Block}
use Rattle.il_core.specs.declared.instr.Instr.{Instr}
use Rattle.il_core.specs.declared.instr.Instr.TheVariants.{Call}
use Rattle.call_graph.specs.declared.summary.Site.{Site}

-- a call, with nothing known
abbrev pub call_of : Instr → List Site
call_of (Call dest callee count args) = record { callee = callee; count = count; known = [] } ∷ []
call_of _ = []

abbrev pub calls_in : List Block → List Site
calls_in bs = flat_map (λ b. flat_map call_of b.instrs) bs

-- the calls with what is known at each
abbrev pub with_known : List (List (Option Word)) → List Site → List Site
with_known [] ss = []
with_known (k ∷ ks) [] = []
with_known (k ∷ ks) (s ∷ ss) = record { callee = s.callee; count = s.count; known = k } ∷ with_known ks ss
