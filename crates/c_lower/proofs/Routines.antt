-- The routine that the code makes, and the limits that it passes.
use Rattle.std.proofs.Common.{◌≡◌, ℕ, ◌<◌, ◌≤◌, List, Bool, true, false, map, length, sym, ap, ◌∙◌, subst, arith}
use Rattle.std.specs.Prelude.{◌↔◌, IsTrue, Option, Some, None, Result, IfOk, IfErr, is_some, nat_le, slice_index, sum}
use Rattle.std.proofs.lemmas.Bool.Decides.{nat_tests}
use Rattle.std.specs.List.{AllByRecursion}
use Rattle.il_core.specs.declared.instr.Block.{Block}
use Rattle.il_core.specs.Limits.{IsBlock, IsWithinLimits, max_arrays, max_elements, max_parameters, max_pids, max_registers, max_size}
use Rattle.il_core.specs.Routine.{RoutineParts}
use Rattle.il_core.specs.Size.{size}
use Rattle.profile.specs.Counts.{Counts}
use Rattle.sym_tables.specs.declared.symbol.Symbol.{Symbol}
use Rattle.sym_tables.specs.Table.{Table}
use Rattle.std.specs.Option.{option_map}
use Rattle.c_typed.specs.Trees.{Function}
use Rattle.lower_laws.specs.Bound.{IsBound}
use Rattle.lower_laws.specs.Code.{Numbers}
use Rattle.lower_laws.specs.Functions.{array_lengths, last_numbers, lowered}
use Rattle.lower_laws.specs.Laws.{SizesAreNumbers}
use Rattle.c_lower.specs.declared.fault.LowerFault.{LowerFault}
use Rattle.c_lower.specs.declared.fault.LowerFault.TheVariants as faults
use Rattle.c_lower.specs.Drafts.{Draft, Fixed}
use Rattle.c_lower.specs.Lowering.{body_past, body_drafted, fixed, name_at, name_in, nothing, routine_of}
use Rattle.c_lower.specs.Settled.{settled}
use Rattle.c_lower.proofs.Whole.{blocks_are}

abbrev start : ℕ → Numbers
start params = record { reg = params; block = 0; site = 0; size = 0 }

pub numbers_are : (count : ℕ → ℕ) (f : Function) (y : Fixed) (params : ℕ) (n m : Numbers) → y ≡ fixed count f → params ≡ length f.params →
    n ≡ start params → m ≡ body_past y f.body n → m ≡ last_numbers f
numbers_are count f y params n m p q s e =
    e ∙ ap (λ v. body_past v f.body n) p ∙ ap (λ v. body_past (fixed count f) f.body v) (s ∙ ap start q)

pub blocks_made : (entry : ℕ) (count : ℕ → ℕ) (f : Function) (y : Fixed) (params : ℕ) (n : Numbers) (s d : Draft) (bs : List Block) → IsBound f →
    y ≡ fixed count f → params ≡ length f.params → n ≡ start params → s ≡ nothing →
    d ≡ body_drafted y f.body n s → bs ≡ map (settled (slice_index d.targets)) d.done → bs ≡ (lowered entry count f).blocks
blocks_made entry count f y params n s d bs bound p q e1 e2 e3 e4 =
    let is : d ≡ body_drafted (fixed count f) f.body (start (length f.params)) nothing =
    e3 ∙ ap (λ v. body_drafted v f.body n s) p ∙ ap (λ v. body_drafted (fixed count f) f.body v s) (e1 ∙ ap start q)
    ∙ ap (λ v. body_drafted (fixed count f) f.body (start (length f.params)) v) e2 in
    e4 ∙ ap (λ (v : Draft). map (settled (slice_index v.targets)) v.done) is ∙ blocks_are count f bound

pub past_registers : (entry : ℕ) (count : ℕ → ℕ) (f : Function) (m : Numbers) (regs : ℕ) → m ≡ last_numbers f → regs ≡ m.reg → max_registers < regs →
    IsWithinLimits (lowered entry count f) → ⊥
past_registers entry count f m regs p q h w = let e : m.reg ≡ (last_numbers f).reg = ap (λ (v : Numbers). v.reg) p in let r = w.regs in
    omega (arith, h, q, e, r)

pub past_size : SizesAreNumbers → (entry : ℕ) (count : ℕ → ℕ) (f : Function) (m : Numbers) (many : ℕ) → m ≡ last_numbers f → many ≡ m.size →
    max_size < many → IsWithinLimits (lowered entry count f) → ⊥
past_size law entry count f m many p q h w =
    let e : m.size ≡ (last_numbers f).size = ap (λ (v : Numbers). v.size) p in let s = law entry count f in let r = w.size in omega (arith, h, q, e, s, r)

pub past_instrs : (r : RoutineParts) (bs : List Block) (b : Bool) → bs ≡ r.blocks → (IsTrue b ↔ AllByRecursion IsBlock bs) → b ≡ false → IsWithinLimits r → ⊥
past_instrs r bs b p h e w = let t : true ≡ false = sym (h.1 (subst (λ l. AllByRecursion IsBlock l) (sym p) w.instrs)) ∙ e in absurd cc

pub kept : (bs cs : List Block) (b : Bool) → cs ≡ bs → (IsTrue b ↔ AllByRecursion IsBlock bs) → b ≡ true → AllByRecursion IsBlock cs
kept bs cs b p h e = subst (λ l. AllByRecursion IsBlock l) (sym p) (h.0 e)

pub within : SizesAreNumbers → (entry : ℕ) (count : ℕ → ℕ) (f : Function) (bs : List Block) (params regs many : ℕ) (value : Bool) (lengths : List ℕ) →
    bs ≡ (lowered entry count f).blocks → params ≡ length f.params → regs ≡ (last_numbers f).reg → many ≡ (last_numbers f).size →
    lengths ≡ array_lengths f.locals → f.pid < max_pids → length f.params ≤ max_parameters → length lengths ≤ max_arrays → sum lengths ≤ max_elements →
    regs ≤ max_registers → many ≤ max_size → AllByRecursion IsBlock bs →
    IsWithinLimits record { pid = f.pid; params = params; value = value; regs = regs; entry = entry; arrays = lengths; blocks = bs }
within law entry count f bs params regs many value lengths p q r s l pid few arrays elements h i all = record {
  pid = pid;
  params = omega (arith, q, few);
  regs = h;
  arrays = arrays;
  elements = elements;
  size = let e = law entry count f in
      subst (λ (v : List Block). size record {
        pid = f.pid;
        params = params;
        value = value;
        regs = regs;
        entry = entry;
        arrays = lengths;
        blocks = v;
      } ≤ max_size) (sym p) (omega (arith, e, s, i));
  instrs = all;
}

pub is_lowered : (entry : ℕ) (count : ℕ → ℕ) (f : Function) (bs : List Block) (params regs : ℕ) (value : Bool) (lengths : List ℕ) →
    bs ≡ (lowered entry count f).blocks → params ≡ length f.params → regs ≡ (last_numbers f).reg → value ≡ is_some f.result →
    lengths ≡ array_lengths f.locals →
    record { pid = f.pid; params = params; value = value; regs = regs; entry = entry; arrays = lengths; blocks = bs } ≡ lowered entry count f
is_lowered entry count f bs params regs value lengths p q r v l =
    λ i. record { pid = f.pid; params = q i; value = v i; regs = r i; entry = entry; arrays = l i; blocks = p i }

pub routine_is : (syms : Table) (counts : Counts) (f : Function) (name : List ℕ) (entry : ℕ) → name ≡ name_at syms f.pid → entry ≡ counts.entry name →
    lowered entry (λ k. counts.site name k) f ≡ routine_of syms counts f
unfolding routine_of
routine_is syms counts f name entry p q = ap (λ e. lowered e (counts.site name) f) q ∙ ap (λ n. lowered (counts.entry n) (counts.site n) f) p

pub past_pids : (syms : Table) (counts : Counts) (f : Function) → max_pids ≤ f.pid → IsWithinLimits (routine_of syms counts f) → ⊥
unfolding routine_of
past_pids syms counts f h w = let p = w.pid in omega (arith, h, p)

pub past_parameters : (syms : Table) (counts : Counts) (f : Function) → max_parameters < length f.params → IsWithinLimits (routine_of syms counts f) → ⊥
unfolding routine_of
past_parameters syms counts f h w = let p = w.params in omega (arith, h, p)

pub past_arrays : (syms : Table) (counts : Counts) (f : Function) (lengths : List ℕ) → lengths ≡ array_lengths f.locals → max_arrays < length lengths →
    IsWithinLimits (routine_of syms counts f) → ⊥
unfolding routine_of
past_arrays syms counts f lengths e h w = let p = w.arrays in let q = ap (λ (l : List ℕ). length l) e in omega (arith, h, p, q)

few_elements : (n m : ℕ) → nat_le n m ≡ false → n ≤ m → ⊥
few_elements n m h p = grind (arith, nat_tests)

pub past_elements : (syms : Table) (counts : Counts) (f : Function) (lengths : List ℕ) → lengths ≡ array_lengths f.locals →
    nat_le (sum lengths) max_elements ≡ false → IsWithinLimits (routine_of syms counts f) → ⊥
unfolding routine_of
past_elements syms counts f lengths e h w = few_elements (sum lengths) max_elements h (subst (λ (l : List ℕ). sum l ≤ max_elements) (sym e) w.elements)

-- what holds of a result for one routine holds for the same
pub ok_for : (r : Result RoutineParts LowerFault) (a b : RoutineParts) → a ≡ b → IfOk r (λ x. x ≡ a) → IfOk r (λ x. x ≡ b)
ok_for r a b p h = subst (λ v. IfOk r (λ x. x ≡ v)) p h

pub err_for : (r : Result RoutineParts LowerFault) (a b : RoutineParts) → a ≡ b → IfErr r (λ e. e ≡ faults.TooLarge → IsWithinLimits a → ⊥) →
    IfErr r (λ e. e ≡ faults.TooLarge → IsWithinLimits b → ⊥)
err_for r a b p h = subst (λ v. IfErr r (λ e. e ≡ faults.TooLarge → IsWithinLimits v → ⊥)) p h

-- the name that a table has for a PID
pub named : (o : Option (List ℕ × Symbol)) (x : List ℕ) → Some x ≡ option_map (λ e. e.0) o → x ≡ name_in o
named None x h = absurd cc
named (Some e) x h = cc
