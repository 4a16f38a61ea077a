-- The labels and tests of a switch, whose labels stand in a row and are reached in the sections.
use Rattle.std.proofs.Common.{◌≡◌, ℕ, suc, ◌<◌, ◌≤◌, List, [], ◌∷◌, ◌++◌, length, get_or, ap, ◌∙◌, arith, Bool, true, refl, length-append, length-set}
use Rattle.std.proofs.Common.{get_or-set_same, get_or-set_other}
use Rattle.std.specs.Prelude.{slice_set}
use Rattle.hlo_num.specs.declared.word.Op.TheVariants as op
use Rattle.il_core.specs.declared.instr.Instr.TheVariants as instr
use Rattle.il_core.specs.declared.instr.End.TheVariants as ends
use Rattle.c_typed.specs.declared.statement.Label.{Label}
use Rattle.c_typed.specs.declared.statement.Label.TheVariants as labels
use Rattle.c_typed.specs.Statements.{is_default}
use Rattle.c_typed.specs.Trees as tree
use Rattle.c_typed.specs.Trees.{Sections}
use Rattle.lower_laws.specs.Code.{Code, Numbers, put, close, past_label}
use Rattle.lower_laws.specs.Layouts.{Outline, Layout}
use Rattle.lower_laws.specs.Statements.{open_behind, stmt_past, section_block, tests_code}
use Rattle.lower_laws.specs.Switches.{labels_past, labels_open, labels_code, label_block, test_past, label_tests_past, label_tests}
use Rattle.c_lower.specs.Drafts.{Draft, next_label, mark, reach}
use Rattle.c_lower.specs.Statements.{arrived, labels_at, labels_marked, cases_marked, default_in, or_label, default_label, case_tested, labels_tested}
use Rattle.c_lower.specs.Statements.{cases_tested, labels_arrived}
use Rattle.c_lower.proofs.Emits.{Grown, Emits, joined, grown_none, grown_then, grown_one, none, one_then, puts, closes, known, begins}

-- the label behind those of all sections
abbrev pub cases_at : Sections → ℕ → ℕ
cases_at tree.End at = at
cases_at (tree.Section ls a rest) at = cases_at rest (labels_at ls at)

pub labels_up : (ls : List Label) (at : ℕ) → at ≤ labels_at ls at
labels_up [] at = omega arith
labels_up (l ∷ ls) at = omega (arith, labels_up ls (suc at))

pub cases_up : (ss : Sections) (at : ℕ) → at ≤ cases_at ss at
cases_up tree.End at = omega arith
cases_up (tree.Section ls a rest) at = omega (arith, labels_up ls at, cases_up rest (labels_at ls at))

-- new labels in a row change no code
pub record Marked (f : ℕ → ℕ) (s s1 : Draft) : Type 0 where
  pub targets : Grown s.targets s1.targets
  pub locals : s1.locals ≡ s.locals
  pub code : (k : Code) → joined f s1 k ≡ joined f s k

marked_then : {f : ℕ → ℕ} {s s1 s2 : Draft} → Marked f s s1 → Marked f s1 s2 → Marked f s s2
marked_then p q = record { targets = grown_then p.targets q.targets; locals = q.locals ∙ p.locals; code = λ k. q.code k ∙ p.code k }

mark_one : (f : ℕ → ℕ) (s : Draft) → Marked f s (mark 0 s)
unfolding mark
mark_one f s = record { targets = grown_one s.targets 0; locals = refl; code = λ k. refl }

mark_size : (s : Draft) → length (mark 0 s).targets ≡ suc (length s.targets)
unfolding mark
mark_size s = omega (arith, length-append s.targets (0 ∷ []))

marked_labels : (f : ℕ → ℕ) (ls : List Label) (s : Draft) → Marked f s (labels_marked ls s)
marked_labels f [] s = record { targets = grown_none s.targets; locals = refl; code = λ k. refl }
marked_labels f (l ∷ ls) s = marked_then (mark_one f s) (marked_labels f ls (mark 0 s))

pub marked_cases : (f : ℕ → ℕ) (ss : Sections) (s : Draft) → Marked f s (cases_marked ss s)
marked_cases f tree.End s = record { targets = grown_none s.targets; locals = refl; code = λ k. refl }
marked_cases f (tree.Section ls a rest) s = marked_then (marked_labels f ls s) (marked_cases f rest (labels_marked ls s))

labels_size : (ls : List Label) (s : Draft) → length (labels_marked ls s).targets ≡ labels_at ls (length s.targets)
labels_size [] s = refl
labels_size (l ∷ ls) s = labels_size ls (mark 0 s) ∙ ap (λ n. labels_at ls n) (mark_size s)

pub cases_size : (ss : Sections) (s : Draft) → length (cases_marked ss s).targets ≡ cases_at ss (length s.targets)
cases_size tree.End s = refl
cases_size (tree.Section ls a rest) s = cases_size rest (labels_marked ls s) ∙ ap (λ n. cases_at rest n) (labels_size ls s)

-- f is right at the labels of a switch
abbrev pub LabelsAt : (ℕ → ℕ) → List Label → ℕ → Bool → Numbers → Type 0
LabelsAt f [] at opened n = Unit {0}
LabelsAt f (l ∷ ls) at opened n = (f at ≡ (past_label opened n).block) × LabelsAt f ls (suc at) true (past_label opened n)

abbrev pub CasesAt : (ℕ → ℕ) → Outline → Sections → ℕ → Bool → Numbers → Type 0
CasesAt f y tree.End at opened n = Unit {0}
CasesAt f y (tree.Section ls a rest) at opened n =
    let inside = labels_open ls opened in
    let there = labels_past ls opened n in
    LabelsAt f ls at opened n × CasesAt f y rest (labels_at ls at) (open_behind a inside) (stmt_past y a inside there)

-- the tests, to the blocks that f gives
abbrev pub labels_by : (ℕ → ℕ) → ℕ → List Label → ℕ → Numbers → Code → Code
labels_by f x [] at n k = k
labels_by f x (labels.Case c ∷ ls) at n k =
    put (instr.Const n.reg c)
    (put (instr.Bin op.Eq (suc n.reg) x n.reg) (close (ends.Branch (suc n.reg) (f at) (suc n.block)) (labels_by f x ls (suc at) (test_past n) k)))
labels_by f x (labels.Default ∷ ls) at n k = labels_by f x ls (suc at) n k

abbrev pub cases_by : (ℕ → ℕ) → ℕ → Sections → ℕ → Numbers → Code → Code
cases_by f x tree.End at n k = k
cases_by f x (tree.Section ls a rest) at n k = labels_by f x ls at n (cases_by f x rest (labels_at ls at) (label_tests_past ls n) k)

case_tests : {f r : ℕ → ℕ} (x : ℕ) (c : _) (at : ℕ) (n : Numbers) (s : Draft) →
    Emits f r (λ l. l) (λ k. put (instr.Const n.reg c)
    (put (instr.Bin op.Eq (suc n.reg) x n.reg) (close (ends.Branch (suc n.reg) (f at) (suc n.block)) k))) s (case_tested x c at n s)
case_tests {f = f} x c at n s =
    one_then (puts _ s) (one_then (puts _ _)
    (known (suc n.block) (λ v k. close (ends.Branch (suc n.reg) (f at) v) k) (closes (ends.Branch (suc n.reg) at (next_label _)) _)))

labels_tests : {f r : ℕ → ℕ} (x : ℕ) (ls : List Label) (at : ℕ) (n : Numbers) (s : Draft) →
    Emits f r (λ l. l) (labels_by f x ls at n) s (labels_tested x ls at n s)
labels_tests x [] at n s = none s
labels_tests x (labels.Case c ∷ ls) at n s = one_then (case_tests x c at n s) (labels_tests x ls (suc at) (test_past n) _)
labels_tests x (labels.Default ∷ ls) at n s = labels_tests x ls (suc at) n s

pub cases_tests : {f r : ℕ → ℕ} (x : ℕ) (ss : Sections) (at : ℕ) (n : Numbers) (s : Draft) →
    Emits f r (λ l. l) (cases_by f x ss at n) s (cases_tested x ss at n s)
cases_tests x tree.End at n s = none s
cases_tests x (tree.Section ls a rest) at n s = one_then (labels_tests x ls at n s) (cases_tests x rest (labels_at ls at) (label_tests_past ls n) _)

labels_right : (f : ℕ → ℕ) (x : ℕ) (ls : List Label) (at : ℕ) (opened : Bool) (there n : Numbers) (k : Code) → LabelsAt f ls at opened there →
    labels_by f x ls at n k ≡ label_tests x ls opened there n k
labels_right f x [] at opened there n k h = refl
labels_right f x (labels.Case c ∷ ls) at opened there n k h =
    ap (λ b. put (instr.Const n.reg c)
    (put (instr.Bin op.Eq (suc n.reg) x n.reg) (close (ends.Branch (suc n.reg) b (suc n.block)) (labels_by f x ls (suc at) (test_past n) k)))) h.0
    ∙ ap (λ j. put (instr.Const n.reg c)
    (put (instr.Bin op.Eq (suc n.reg) x n.reg) (close (ends.Branch (suc n.reg) (past_label opened there).block (suc n.block)) j)))
    (labels_right f x ls (suc at) true (past_label opened there) (test_past n) k h.1)
labels_right f x (labels.Default ∷ ls) at opened there n k h = labels_right f x ls (suc at) true (past_label opened there) n k h.1

pub cases_right : (f : ℕ → ℕ) (y : Layout) (x : ℕ) (ss : Sections) (at : ℕ) (opened : Bool) (there n : Numbers) (k : Code) →
    CasesAt f y.outline ss at opened there → cases_by f x ss at n k ≡ tests_code y x ss opened there n k
cases_right f y x tree.End at opened there n k h = refl
cases_right f y x (tree.Section ls a rest) at opened there n k h =
    let inside = labels_open ls opened in
    let after = labels_past ls opened there in
    labels_right f x ls at opened there n _ h.0
    ∙ ap (λ j. label_tests x ls opened there n j)
    (cases_right f y x rest (labels_at ls at) (open_behind a inside) (stmt_past y.outline a inside after) (label_tests_past ls n) k h.1)

default_of : (f : ℕ → ℕ) (ls : List Label) (at : ℕ) (opened : Bool) (n : Numbers) (l none : ℕ) → LabelsAt f ls at opened n → f l ≡ none →
    f (or_label (default_in ls at) l) ≡ label_block is_default ls opened n none
default_of f [] at opened n l none h e = e
default_of f (labels.Case c ∷ ls) at opened n l none h e = default_of f ls (suc at) true (past_label opened n) l none h.1 e
default_of f (labels.Default ∷ ls) at opened n l none h e = h.0

pub default_right : (f : ℕ → ℕ) (y : Outline) (ss : Sections) (at : ℕ) (opened : Bool) (n : Numbers) (l : ℕ) → CasesAt f y ss at opened n →
    f (default_label ss at l) ≡ section_block y is_default ss opened n (f l)
default_right f y tree.End at opened n l h = refl
default_right f y (tree.Section ls a rest) at opened n l h =
    let inside = labels_open ls opened in
    let there = labels_past ls opened n in
    default_of f ls at opened n _ _ h.0 (default_right f y rest (labels_at ls at) (open_behind a inside) (stmt_past y a inside there) l h.1)

-- f has the labels from lo up to hi, and those that came between two drafts
pub record Right (f r : ℕ → ℕ) (lo hi : ℕ) (s s1 : Draft) : Type 0 where
  pub row : (l : ℕ) → lo ≤ l → l < hi → l < length s1.targets → f l ≡ get_or s1.targets l 0
  pub labels : (l : ℕ) → length s.targets ≤ l → l < length s1.targets → f l ≡ get_or s1.targets l 0
  pub locals : (x : ℕ) → x < length s1.locals → r x ≡ get_or s1.locals x 0

-- The same as `Emits` for a piece that reaches the labels from lo up to hi, which are there before, and says P of them.
pub record Fills (f r : ℕ → ℕ) (d : List ℕ → List ℕ) (c : Code → Code) (P : Type 0) (lo hi : ℕ) (s s1 : Draft) : Type 0 where
  pub more : length s.targets ≤ length s1.targets
  pub before : (l : ℕ) → l < length s.targets → l < lo → get_or s1.targets l 0 ≡ get_or s.targets l 0
  pub behind : (l : ℕ) → l < length s.targets → hi ≤ l → get_or s1.targets l 0 ≡ get_or s.targets l 0
  pub locals : Grown s.locals s1.locals
  pub declares : (k : List ℕ) → s1.locals ++ k ≡ s.locals ++ d k
  pub says : Right f r lo hi s s1 → P
  pub code : Right f r lo hi s s1 → (k : Code) → joined f s1 k ≡ joined f s (c k)

-- a piece that reaches none of them
pub fills_none : {f r : ℕ → ℕ} {d : List ℕ → List ℕ} {c : Code → Code} {s s1 : Draft} (at : ℕ) → Emits f r d c s s1 → Fills f r d c (Unit {0}) at at s s1
fills_none at p = record {
  more = p.targets.more;
  before = λ l h i. p.targets.keeps l h;
  behind = λ l h i. p.targets.keeps l h;
  locals = p.locals;
  declares = p.declares;
  says = λ g. tt;
  code = λ g k. p.code (record { labels = g.labels; locals = g.locals }) k;
}

pub fills_then : {f r : ℕ → ℕ} {d e : List ℕ → List ℕ} {c k : Code → Code} {P Q : Type 0} {s s1 s2 : Draft} (lo mid hi : ℕ) → lo ≤ mid → mid ≤ hi →
    hi ≤ length s.targets →
    Fills f r d c P lo mid s s1 → Fills f r e k Q mid hi s1 s2 → Fills f r (λ l. d (e l)) (λ l. c (k l)) (P × Q) lo hi s s2
fills_then {f = f} {r = r} {d = d} {e = e} {c = c} {k = k} {s = s} {s1 = s1} {s2 = s2} lo mid hi a b room p q =
    let second : Right f r lo hi s s2 → Right f r mid hi s1 s2 = λ g. record {
      row = λ l h i j. let m : lo ≤ l = omega (arith, h, a) in g.row l m i j;
      labels = λ l h i. let m : length s.targets ≤ l = omega (arith, h, p.more) in g.labels l m i;
      locals = g.locals;
    } in
    let first : Right f r lo hi s s2 → Right f r lo mid s s1 = λ g. record {
      row = λ l h i j. let m : l < hi = omega (arith, i, b) in let t : l < length s2.targets = omega (arith, j, q.more) in g.row l h m t ∙ q.before l j i;
      labels = λ l h i. let t : l < length s2.targets = omega (arith, i, q.more) in let m : hi ≤ l = omega (arith, h, room) in g.labels l h t
          ∙ q.behind l i m;
      locals = λ x h. let t : x < length s2.locals = omega (arith, h, q.locals.more) in g.locals x t ∙ q.locals.keeps x h;
    } in
    record {
      more = omega (arith, p.more, q.more);
      before = λ l h i. let m : l < mid = omega (arith, i, a) in let t : l < length s1.targets = omega (arith, h, p.more) in q.before l t m ∙ p.before l h i;
      behind = λ l h i. let m : mid ≤ l = omega (arith, i, b) in let t : l < length s1.targets = omega (arith, h, p.more) in q.behind l t i ∙ p.behind l h m;
      locals = grown_then p.locals q.locals;
      declares = λ l. q.declares l ∙ p.declares (e l);
      says = λ g. (p.says (first g), q.says (second g));
      code = λ g l. q.code (second g) l ∙ p.code (first g) (k l);
    }

-- a label that was there is reached
reaches : {f r : ℕ → ℕ} {d : List ℕ → List ℕ} {c : Code → Code} {s s1 : Draft} (at b : ℕ) → at < length s.targets → Emits f r d c s s1 →
    Fills f r d c (f at ≡ b) at (suc at) s (reach at b s1)
unfolding reach
reaches {f = f} {r = r} {s = s} {s1 = s1} at b lt p =
    let size : length (slice_set s1.targets at b) ≡ length s1.targets = length-set s1.targets at b in
    let there : at < length s1.targets = omega (arith, lt, p.targets.more) in
    let within : at < length (slice_set s1.targets at b) = omega (arith, there, size) in
    record {
      more = omega (arith, size, p.targets.more);
      before = λ l h i. let ne : l ≡ at → ⊥ = λ e. omega (arith, e, i) in get_or-set_other s1.targets at l b 0 ne ∙ p.targets.keeps l h;
      behind = λ l h i. let ne : l ≡ at → ⊥ = λ e. omega (arith, e, i) in get_or-set_other s1.targets at l b 0 ne ∙ p.targets.keeps l h;
      locals = p.locals;
      declares = p.declares;
      says = λ g. g.row at (omega arith) (omega arith) within ∙ get_or-set_same s1.targets at b 0 there;
      code = λ g k. p.code (record {
        labels = λ l h i. let ne : l ≡ at → ⊥ = λ e. omega (arith, e, h, lt) in let t : l < length (slice_set s1.targets at b) = omega (arith, i, size) in
            g.labels l h t ∙ get_or-set_other s1.targets at l b 0 ne;
        locals = g.locals;
      }) k;
    }

pub labels_fill : {f r : ℕ → ℕ} (ls : List Label) (at : ℕ) (opened : Bool) (n : Numbers) (s : Draft) → labels_at ls at ≤ length s.targets →
    Fills f r (λ l. l) (labels_code ls opened n) (LabelsAt f ls at opened n) at (labels_at ls at) s (labels_arrived ls at opened n s)
labels_fill [] at opened n s w = fills_none at (none s)
labels_fill {f = f} {r = r} (l ∷ ls) at opened n s w =
    let up = labels_up ls (suc at) in
    let lt : at < length s.targets = omega (arith, up, w) in
    let p = reaches {f = f} {r = r} at (past_label opened n).block lt (begins opened n s) in
    let m : labels_at ls (suc at) ≤ length (arrived at opened n s).targets = omega (arith, w, p.more) in
    let q = labels_fill {f = f} {r = r} ls (suc at) true (past_label opened n) (arrived at opened n s) m in
    fills_then at (suc at) (labels_at ls (suc at)) (omega arith) up w p q
