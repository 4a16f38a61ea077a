-- Rules at file scope, and what rules give for sure.
use Rattle.std.proofs.Common.{◌≡◌, ℕ, Bool, true, false, List, [], refl}
use Rattle.std.specs.Prelude.{if◌then◌else◌}
use Rattle.c_typed.specs.Trees.{Function}
use Rattle.c_types.specs.declared.fault.TypeKind.{TypeKind}
use Rattle.c_types.specs.Rules.{Here, Reply, Gives, Breaks, Rule, ◌>>=◌, followed, give, broken, unless}
use Rattle.program_laws.specs.Growing.{Grows}
use Rattle.program_laws.proofs.Fine as fine
use Rattle.program_laws.proofs.Fine.{Any}
use Rattle.program_laws.proofs.Holding.{Holding, holding_after}
use Rattle.program_laws.proofs.Tables.{marked_grows, grows_then}

-- ## What a rule gives for sure, whatever state it begins in

abbrev pub SureHolds : {A : Type 0} → (A → Type 0) → Reply A → Type 0
SureHolds P (Gives a g) = P a
SureHolds P (Breaks line kind) = Unit {0}

pub record Sure {A : Type 0} (P : A → Type 0) (rule : Rule A) : Type 0 where
  pub by : (h : Here) → SureHolds P (rule h)

pub sure_and : {A B : Type 0} {P : A → Type 0} {Q : B → Type 0} {rule : Rule A} {next : A → Rule B} → Sure P rule
    → ((a : A) → P a → Sure Q (next a)) → Sure Q (rule >>= next)
sure_and {A} {B} {P} {Q} {rule} {next} p q = record { by = λ h. go (rule h) (p.by h) }
  where
    go : (r : Reply A) → SureHolds P r → SureHolds Q (followed r next)
    go (Gives a g) ok = (q a ok).by g
    go (Breaks line kind) ok = tt

pub sure_any : {A : Type 0} (rule : Rule A) → Sure Any rule
sure_any {A} rule = record { by = λ h. go (rule h) }
  where
    go : (r : Reply A) → SureHolds Any r
    go (Gives a g) = tt
    go (Breaks line kind) = tt

pub sure_gives : {A : Type 0} {P : A → Type 0} (a : A) → P a → Sure P (give a)
sure_gives a ok = record { by = λ h. ok }

pub sure_breaks : {A : Type 0} {P : A → Type 0} (line : ℕ) (kind : TypeKind) → Sure P (broken line kind)
sure_breaks line kind = record { by = λ h. tt }

pub sure_tests : (b : Bool) (line : ℕ) (kind : TypeKind) → Sure (λ u. b ≡ true) (unless b line kind)
sure_tests true line kind = record { by = λ h. refl }
sure_tests false line kind = record { by = λ h. tt }

-- ## Rules at file scope

module _ (number : ℕ) (has : ℕ → Type 0) (fs : List Function) where
  abbrev pub FileHolds : {A : Type 0} → Here → (A → Type 0) → Reply A → Type 0
  FileHolds o P (Gives a g) = Holding number has fs g × Grows o.syms g.syms × P a
  FileHolds o P (Breaks line kind) = Unit {0}

  pub record Files {A : Type 0} (P : A → Type 0) (rule : Rule A) : Type 0 where
    pub by : (h : Here) → Holding number has fs h → FileHolds h P (rule h)

  pub files_further : {A : Type 0} (P : A → Type 0) (o h : Here) → Grows o.syms h.syms → (r : Reply A) → FileHolds h P r → FileHolds o P r
  files_further P o h x (Gives a g) ok = (ok.0, grows_then o.syms h.syms g.syms x ok.1, ok.2)
  files_further P o h x (Breaks line kind) ok = tt

  pub files_and : {A B : Type 0} {P : A → Type 0} {Q : B → Type 0} {rule : Rule A} {next : A → Rule B} → Files P rule
      → ((a : A) → P a → Files Q (next a)) → Files Q (rule >>= next)
  files_and {A} {B} {P} {Q} {rule} {next} p q = record { by = λ h hold. go h (rule h) (p.by h hold) }
    where
      go : (h : Here) (r : Reply A) → FileHolds h P r → FileHolds h Q (followed r next)
      go h (Gives a g) ok = files_further Q h g ok.1 (next a g) ((q a ok.2).by g ok.0)
      go h (Breaks line kind) ok = tt

  -- a rule that declares nothing for the program
  pub files_quiet : {A : Type 0} {P : A → Type 0} {Q : A → Type 0} {rule : Rule A} → fine.Fine number [] Q rule → Sure P rule → Files P rule
  files_quiet {A} {P} {Q} {rule} p sure = record { by = λ h hold. go h hold (rule h) (p.by h hold.ok tt) (sure.by h) }
    where
      go : (h : Here) → Holding number has fs h → (r : Reply A) → fine.Holds number [] h Q r → SureHolds P r → FileHolds h P r
      go h hold (Gives a g) ok is = (holding_after number has fs h g ok.0 hold, marked_grows h.syms g.syms ok.0.table, is)
      go h hold (Breaks line kind) ok is = tt

  pub files_gives : {A : Type 0} {P : A → Type 0} (a : A) → P a → Files P (give a)
  files_gives a ok = files_quiet (fine.gives number [] {P = Any} a tt) (sure_gives a ok)

  pub files_breaks : {A : Type 0} {P : A → Type 0} (line : ℕ) (kind : TypeKind) → Files P (broken line kind)
  files_breaks line kind = record { by = λ h hold. tt }

  pub files_tests : (b : Bool) (line : ℕ) (kind : TypeKind) → Files (λ u. b ≡ true) (unless b line kind)
  files_tests b line kind = files_quiet (fine.tests number [] b line kind) (sure_tests b line kind)

  pub files_if : {A : Type 0} {P : A → Type 0} {x y : Rule A} (b : Bool) → Files P x → Files P y → Files P (if b then x else y)
  files_if true p q = p
  files_if false p q = q
