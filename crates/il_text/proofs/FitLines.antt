-- The lines of a partial program that fits are lines that fit.
use Rattle.std.proofs.Common.{◌≡◌, ℕ, ◌+◌, ◌^◌, ◌<◌, ◌≤◌, List, [], ◌∷◌, ◌++◌, length, map, refl, arith}
use Rattle.std.specs.Prelude.{flat_map}
use Rattle.std.specs.List.{AllByRecursion}
use Rattle.std.proofs.lemmas.List.Sums.{sum_by-cons}
use Rattle.il_core.specs.declared.instr.Block.{Block}
use Rattle.il_core.specs.declared.instr.Instr.{Instr}
use Rattle.il_core.specs.Limits.{IsBlock, IsInstr, max_size}
use Rattle.il_core.specs.Ranges.{IsBlockOfWords, AreWords, numbers_of}
use Rattle.il_core.specs.Size.{block_size, blocks_size}
use Rattle.il_text.specs.declared.partial.Partial.{Partial}
use Rattle.il_text.specs.declared.partial.Place.{Place}
use Rattle.il_text.specs.declared.partial.Place.TheVariants.{Start, Outside, InRoutine, InBlock, Done}
use Rattle.il_text.specs.declared.line.Line.{Line}
use Rattle.il_text.specs.declared.line.Line.TheVariants as line
use Rattle.il_text.specs.declared.line.NamedObject.{NamedObject}
use Rattle.il_text.specs.declared.line.NamedRoutine.{NamedRoutine}
use Rattle.il_text.specs.declared.statement.Statement.TheVariants as statement
use Rattle.il_text.specs.Lines.{IsFitObject, IsFitLine, IsFitStatement}
use Rattle.il_text.specs.Partials.{block_lines, blocks_lines, open_lines, routine_lines, place_lines, inner_lines, lines_of, partial_lines}
use Rattle.il_text.specs.FitPartials.{IsFitRoutine, IsFitPlace, IsFitPartial}

abbrev pub AreFit : List Line → Type 0
AreFit ls = AllByRecursion IsFitLine ls

fit_append : (ls ms : List Line) → AreFit ls → AreFit ms → AreFit (ls ++ ms)
fit_append [] ms h k = k
fit_append (l ∷ ls) ms h k = (h.0, fit_append ls ms h.1 k)

pub fit_last : (ls : List Line) (l : Line) → AreFit (ls ++ l ∷ []) → IsFitLine l
fit_last [] l h = h.0
fit_last (m ∷ ls) l h = fit_last ls l h.1

instr_lines_fit : (is : List Instr) → AllByRecursion IsInstr is → AllByRecursion (λ i. AreWords (numbers_of i)) is
    → AreFit (map (λ i. line.Inside (statement.Instr i)) is)
instr_lines_fit [] h k = tt
instr_lines_fit (i ∷ is) h k = ((h.0, k.0), instr_lines_fit is h.1 k.1)

open_instrs_fit : (is : List Instr) → AllByRecursion (λ i. IsFitStatement (statement.Instr i)) is → AreFit (map (λ i. line.Inside (statement.Instr i)) is)
open_instrs_fit [] h = tt
open_instrs_fit (i ∷ is) h = (h.0, open_instrs_fit is h.1)

block_fit : (b : ℕ) (x : Block) → b < 2 ^ 32 → IsBlock x → IsBlockOfWords x → AreFit (block_lines b x)
block_fit b x lt h k = (
  lt,
  fit_append (map (λ i. line.Inside (statement.Instr i)) x.instrs) (line.Inside (statement.End x.end) ∷ [])
      (instr_lines_fit x.instrs h k.0) (k.1, tt),
)

blocks_fit : (b : ℕ) (xs : List Block) → b + blocks_size xs ≤ max_size → AllByRecursion IsBlock xs → AllByRecursion IsBlockOfWords xs
    → AreFit (blocks_lines b xs)
blocks_fit b [] le h k = tt
blocks_fit b (x ∷ xs) le h k =
    let total : blocks_size (x ∷ xs) ≡ block_size x + blocks_size xs = sum_by-cons block_size x xs in
    fit_append (block_lines b x) (blocks_lines (b + 1) xs) (block_fit b x (omega arith) h.0 k.0) (blocks_fit (b + 1) xs (omega (arith, total)) h.1 k.1)

open_fit : (r : NamedRoutine) → IsFitRoutine r → AreFit (open_lines r)
open_fit r h = (
  record {
    name = h.name;
    limits = record {
      pid = h.limits.pid;
      params = h.limits.params;
      regs = h.limits.regs;
      arrays = h.limits.arrays;
      elements =
          h.limits.elements;
      size = omega arith;
      instrs = tt;
    };
    entry = h.range.entry;
    blocks = refl;
  },
  blocks_fit 0 r.routine.blocks (omega (arith, h.limits.size)) h.limits.instrs h.range.blocks,
)

routines_fit : (rs : List NamedRoutine) → AllByRecursion IsFitRoutine rs → AreFit (flat_map routine_lines rs)
routines_fit [] h = tt
routines_fit (r ∷ rs) h = fit_append (routine_lines r) (flat_map routine_lines rs) (fit_append (open_lines r) (line.Close ∷ []) (open_fit r h.0) (tt, tt))
    (routines_fit rs h.1)

objects_fit : (os : List NamedObject) → AllByRecursion IsFitObject os → AreFit (map (λ o. line.Object o) os)
objects_fit [] h = tt
objects_fit (o ∷ os) h = (h.0, objects_fit os h.1)

pub blocks_few : (xs : List Block) → length xs ≤ blocks_size xs
blocks_few [] = omega arith
blocks_few (x ∷ xs) = let total : blocks_size (x ∷ xs) ≡ block_size x + blocks_size xs = sum_by-cons block_size x xs in omega (arith, total, blocks_few xs)

place_fit : (p : Place) → IsFitPlace p → AreFit (place_lines p)
place_fit Start h = tt
place_fit Outside h = tt
place_fit (InRoutine r n) h = open_fit r h.0
place_fit (InBlock r n is) h = fit_append (open_lines r) (line.Label (length r.routine.blocks) ∷ map (λ i. line.Inside (statement.Instr i)) is) (open_fit r h.0)
    (omega (arith, blocks_few r.routine.blocks, h.0.limits.size), open_instrs_fit is h.2.instrs)
place_fit Done h = (tt, tt)

inner_fit : (p : Place) (os : List NamedObject) (rs : List NamedRoutine) → IsFitPlace p → AllByRecursion IsFitObject os → AllByRecursion IsFitRoutine rs
    → AreFit (line.First ∷ inner_lines os rs ++ place_lines p)
inner_fit p os rs h a b = (
  tt,
  fit_append (inner_lines os rs) (place_lines p)
      (fit_append (map (λ o. line.Object o) os) (flat_map routine_lines rs) (objects_fit os a) (routines_fit rs b)) (place_fit p h),
)

at_fit : (p : Place) (os : List NamedObject) (rs : List NamedRoutine) → IsFitPlace p → AllByRecursion IsFitObject os → AllByRecursion IsFitRoutine rs
    → AreFit (lines_of p os rs)
at_fit Start os rs h a b = tt
at_fit Outside os rs h a b = inner_fit Outside os rs h a b
at_fit (InRoutine r n) os rs h a b = inner_fit (InRoutine r n) os rs h a b
at_fit (InBlock r n is) os rs h a b = inner_fit (InBlock r n is) os rs h a b
at_fit Done os rs h a b = inner_fit Done os rs h a b

pub partial_fit : (f : Partial) → IsFitPartial f → AreFit (partial_lines f)
partial_fit f h = at_fit f.place f.objects f.routines h.place h.objects h.routines
