-- Lines by their first words, and routines by the parts of their first lines.
use Rattle.std.proofs.Common.{◌≡◌, ℕ, ◌+◌, ◌≤◌, Bool, List, [], ◌∷◌, ◌++◌, Some, refl, sum, arith}
use Rattle.std.specs.Prelude.{codes}
use Rattle.std.proofs.lemmas.List.Sums.{sum_by-append}
use Rattle.il_core.specs.Limits.{max_elements}
use Rattle.il_core.specs.declared.instr.Block.{Block}
use Rattle.il_core.specs.Ranges.{AreWords}
use Rattle.il_core.specs.Text.{block}
use Rattle.il_text.specs.declared.line.Kind.{Kind}
use Rattle.il_text.specs.declared.line.Kind.TheVariants as kind
use Rattle.il_text.specs.declared.line.Line.{Line}
use Rattle.il_text.specs.declared.line.Line.TheVariants.{First, Object, Routine, Label, Inside, Close, Done}
use Rattle.il_text.specs.declared.line.NamedRoutine.{NamedRoutine}
use Rattle.il_text.specs.Kinds.{kind_text}
use Rattle.il_text.specs.Lines.{line_words}

pub words_of_sum : (ns : List ℕ) → sum ns ≤ max_elements → AreWords ns
words_of_sum [] h = tt
words_of_sum (n ∷ ns) h = let s : sum (n ∷ ns) ≡ (0 + n) + sum ns = sum_by-append (λ m. m) (n ∷ []) ns in (omega (arith, s), words_of_sum ns (omega (arith, s)))

routine_of : List ℕ → ℕ → ℕ → Bool → ℕ → ℕ → List ℕ → List Block → NamedRoutine
routine_of name pid params value regs entry arrays blocks = record {
  name = name;
  routine =
      record { pid = pid; params = params; value = value; regs = regs; entry = entry; arrays = arrays; blocks = blocks };
}

same_parts : (name name' : List ℕ) (pid pid' params params' : ℕ) (value value' : Bool) (regs regs' entry entry' : ℕ) (arrays arrays' : List ℕ)
    (blocks blocks' : List Block)
    → name ≡ name' → pid ≡ pid' → params ≡ params' → value ≡ value' → regs ≡ regs' → entry ≡ entry' → arrays ≡ arrays' → blocks ≡ blocks'
    → Some (routine_of name pid params value regs entry arrays blocks) ≡ Some (routine_of name' pid' params' value' regs' entry' arrays' blocks')
same_parts name name' pid pid' params params' value value' regs regs' entry entry' arrays arrays' blocks blocks' a b c d e f g h = cc

-- a routine is the one that has its parts
pub routine_told : (name : List ℕ) (pid params : ℕ) (value : Bool) (regs entry : ℕ) (arrays : List ℕ) (blocks : List Block) (x : NamedRoutine)
    → name ≡ x.name → pid ≡ x.routine.pid → params ≡ x.routine.params → value ≡ x.routine.value → regs ≡ x.routine.regs → entry ≡ x.routine.entry
    → arrays ≡ x.routine.arrays → blocks ≡ x.routine.blocks
    → (let r : NamedRoutine = record {
      name = name;
      routine = record {
        pid = pid;
        params = params;
        value = value;
        regs = regs;
        entry = entry;
        arrays = arrays;
        blocks = blocks;
      };
    } in Some r ≡ Some x)
unfolding routine_of
routine_told name pid params value regs entry arrays blocks x a b c d e f g h = same_parts name x.name pid x.routine.pid params x.routine.params value
    x.routine.value regs x.routine.regs entry x.routine.entry arrays x.routine.arrays blocks x.routine.blocks a b c d e f g h

-- what a label is
pub record IsLabel (first : List ℕ) (rest : List (List ℕ)) (l : Line) (n : ℕ) : Type 0 where
  pub line : l ≡ Label n
  pub word : first ≡ block n ++ 58 ∷ []
  pub alone : rest ≡ []

-- a line whose first word is that of no kind is a label
pub no_kind : (first : List ℕ) (rest : List (List ℕ)) (l : Line) → ((k : Kind) → first ≡ kind_text k → ⊥) → first ∷ rest ≡ line_words l
    → (n : ℕ) × IsLabel first rest l n
no_kind first rest First none e = let h : first ≡ codes "hlo-il" = cc e in absurd (none kind.First h)
no_kind first rest (Object x) none e = let h : first ≡ codes "object" = cc e in absurd (none kind.Object h)
no_kind first rest (Routine x) none e = let h : first ≡ codes "routine" = cc e in absurd (none kind.Routine h)
no_kind first rest (Label n) none e = let h : first ≡ block n ++ 58 ∷ [] = cc e in let t : rest ≡ [] = cc e in (n, record { line = refl; word = h; alone = t })
no_kind first rest (Inside s) none e = let h : first ≡ [] = cc e in absurd (none kind.Inside h)
no_kind first rest Close none e = let h : first ≡ codes "end" = cc e in absurd (none kind.Close h)
no_kind first rest Done none e = let h : first ≡ codes "done" = cc e in absurd (none kind.Done h)
