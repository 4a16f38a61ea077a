-- Coming to a place of a routine: what the code from there on does, and where a later basic block is found.
use Rattle.std.proofs.Common.{◌≡◌, ℕ, suc, ◌<◌, ◌≤◌, Bool, true, false, refl, sym, ap, ◌∙◌, arith}
use Rattle.il_core.specs.declared.instr.Instr.{Instr}
use Rattle.il_core.specs.declared.instr.End.{End}
use Rattle.il_core.specs.World.{World, choose}
use Rattle.il_core.specs.Meaning.{Frame, Lengths, Next, finish}
use Rattle.il_laws.specs.Runs.{Calls, does, pass}
use Rattle.c_typed.specs.Trees.{Stmt}
use Rattle.c_typed.specs.Statements as c_statements
use Rattle.lower_laws.specs.Bound.{Scope}
use Rattle.lower_laws.specs.Code.{Code, blocks_of, put, close, Numbers, past_end, past_label, label}
use Rattle.lower_laws.specs.Layouts.{Layout}
use Rattle.il_core.specs.declared.instr.End.TheVariants as ends
use Rattle.lower_laws.proofs.Frames.{if_yes, if_no}

-- What is fixed while a function runs: what calls and ways back do, in IL and in C, and the lengths that the routine and
-- the function know; where the locals are; and how many turns there are at most.
pub record Setting (S : Type 0) : Type 0 where
  pub call : Calls S
  pub back : ℕ → Next S
  pub c_call : Calls S
  pub c_again : Stmt → c_statements.Next S
  pub routine : Lengths
  pub function : Lengths
  pub layout : Layout
  pub scope : Scope
  pub most : ℕ

module _ {S : Type 0} (c : Setting S) where
  -- what code does, where its numbers are n
  abbrev pub goes : Code → Numbers → Next S
  goes k n f w =
      does c.call c.routine k.here.instrs
      (λ f1 w1. finish c.back (λ u f2 w2. pass c.call c.back c.routine k.later (suc n.block) u f2 w2) k.here.end f1 w1)
      f
      w

  -- what block t does, which is looked for from there on
  abbrev pub from : Code → Numbers → ℕ → Next S
  from k n t f w = pass c.call c.back c.routine (blocks_of k) n.block t f w

  pub arrives : (k : Code) (n : Numbers) (f : Frame) (w : World S) → from k n n.block f w ≡ goes k n f w
  arrives k n f w = if_yes n.block n.block _ _ refl

  -- block t is the same from the second place
  pub record Passes (t : ℕ) (n : Numbers) (k : Code) (n1 : Numbers) (k1 : Code) : Type 0 where
    pub by : (f : Frame) (w : World S) → from k n t f w ≡ from k1 n1 t f w

  pub passes_none : (t : ℕ) (n : Numbers) (k : Code) → Passes t n k n k
  passes_none t n k = record { by = λ f w. refl }

  pub passes_then : {t : ℕ} {n n1 n2 : Numbers} {k k1 k2 : Code} → Passes t n k n1 k1 → Passes t n1 k1 n2 k2 → Passes t n k n2 k2
  passes_then p q = record { by = λ f w. p.by f w ∙ q.by f w }

  -- an instruction, behind which the same block is open
  pub passes_put : {t : ℕ} {k : Code} (i : Instr) (n n1 : Numbers) → n1.block ≡ n.block → n.block < t → Passes t n (put i k) n1 k
  passes_put {t} {k} i n n1 same lt = record {
    by = λ f w. if_no t n.block _ _ (λ e. omega arith)
        ∙ ap (λ b. pass c.call c.back c.routine k.later (suc b) t f w) (sym same)
        ∙ sym (if_no t n1.block _ _ (λ e. omega (arith, same)));
  }

  -- the end of a block
  pub passes_close : {t : ℕ} {k : Code} (e : End) (n n1 : Numbers) → n1.block ≡ suc n.block → n.block < t → Passes t n (close e k) n1 k
  passes_close {t} {k} e n n1 same lt = record {
    by = λ f w. if_no t n.block _ _ (λ q. omega arith) ∙ ap (λ b. pass c.call c.back c.routine (blocks_of k) b t f w) (sym same);
  }

  pub passes_label : {t : ℕ} {k : Code} (opened : Bool) (n : Numbers) → (past_label opened n).block ≤ t
      → Passes t n (label opened n k) (past_label opened n) k
  passes_label true n le = passes_close _ n _ refl le
  passes_label {t} {k} false n le = passes_none t n k

  -- block t begins at the second place
  pub record Leads (t : ℕ) (n : Numbers) (k : Code) (n1 : Numbers) (k1 : Code) : Type 0 where
    pub by : (f : Frame) (w : World S) → from k n t f w ≡ goes k1 n1 f w

  pub leads_here : {k : Code} (n : Numbers) → Leads n.block n k n k
  leads_here {k} n = record { by = λ f w. arrives k n f w }

  pub leads_by : {n : Numbers} {k k1 : Code} (n1 : Numbers) → Passes n1.block n k n1 k1 → Leads n1.block n k n1 k1
  leads_by {n} {k} {k1} n1 p = record { by = λ f w. p.by f w ∙ arrives k1 n1 f w }

  -- a branch goes on at one of two places
  pub branch_is : {q v a b : ℕ} {k ka kb : Code} {na nb : Numbers} (f : Frame) (w : World S) (n n1 : Numbers)
      → n1.block ≡ suc n.block → f.regs q ≡ v → Leads a n1 k na ka → Leads b n1 k nb kb
      → goes (close (ends.Branch q a b) k) n f w ≡ choose v (goes ka na f w) (goes kb nb f w)
  branch_is {q} {v} {a} {b} {k} {ka} {kb} {na} {nb} f w n n1 same e la lb =
      ap (λ p. choose p (from k (past_end n) a f w) (from k (past_end n) b f w)) e
      ∙ ap (λ z. choose v (from k (record n1 { block = z }) a f w) (from k (record n1 { block = z }) b f w)) (sym same)
      ∙ ap (λ o. choose v o (from k n1 b f w)) (la.by f w)
      ∙ ap (λ o. choose v (goes ka na f w) o) (lb.by f w)

  pub jump_is : {t : ℕ} {k k1 : Code} {n1 : Numbers} (f : Frame) (w : World S) (n n0 : Numbers) → n0.block ≡ suc n.block
      → Leads t n0 k n1 k1 → goes (close (ends.Jump t) k) n f w ≡ goes k1 n1 f w
  jump_is {t} {k} {k1} {n1} f w n n0 same l = ap (λ z. from k (record n0 { block = z }) t f w) (sym same) ∙ l.by f w

  pub goes_label : (k : Code) (opened : Bool) (n : Numbers) (f : Frame) (w : World S)
      → goes (label opened n k) n f w ≡ goes k (past_label opened n) f w
  goes_label k true n f w = arrives k (past_end n) f w
  goes_label k false n f w = refl
