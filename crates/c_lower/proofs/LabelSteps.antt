-- One more label in a row.
use Rattle.std.proofs.Common.{◌≡◌, ℕ, suc, ◌+◌, ◌<◌, Bool, true, List, [], ◌∷◌, length, drop, get_or, refl, sym, ap, ◌∙◌, add-one, drop-cons}
use Rattle.c_typed.specs.declared.statement.Label.{Label}
use Rattle.c_typed.specs.declared.statement.Label.TheVariants as labels
use Rattle.lower_laws.specs.Code.{Numbers, past_label}
use Rattle.lower_laws.specs.Switches.{labels_open, labels_past}
use Rattle.c_lower.specs.Drafts.{Draft, mark}
use Rattle.c_lower.specs.Statements.{arrived, labels_arrived, labels_at, labels_marked}

next : (ls : List Label) (i : ℕ) → i < length ls → drop i ls ≡ get_or ls i labels.Default ∷ drop (i + 1) ls
next ls i h = drop-cons ls i labels.Default h ∙ ap (λ n. get_or ls i labels.Default ∷ drop n ls) (sym (add-one i))

pub at_step : (ls : List Label) (i m m1 w : ℕ) → i < length ls → m1 ≡ suc m → labels_at (drop i ls) m ≡ w → labels_at (drop (i + 1) ls) m1 ≡ w
at_step ls i m m1 w h e p = ap (λ n. labels_at (drop (i + 1) ls) n) e ∙ sym (ap (λ l. labels_at l m) (next ls i h)) ∙ p

pub marked_step : (ls : List Label) (i : ℕ) (s s1 w : Draft) → i < length ls → s1 ≡ mark 0 s → labels_marked (drop i ls) s ≡ w →
    labels_marked (drop (i + 1) ls) s1 ≡ w
marked_step ls i s s1 w h e p = ap (λ n. labels_marked (drop (i + 1) ls) n) e ∙ sym (ap (λ l. labels_marked l s) (next ls i h)) ∙ p

open_still : (ls : List Label) → labels_open ls true ≡ true
open_still [] = refl
open_still (l ∷ ls) = refl

pub open_step : (ls : List Label) (i : ℕ) (o w : Bool) → i < length ls → labels_open (drop i ls) o ≡ w → labels_open (drop (i + 1) ls) true ≡ w
open_step ls i o w h p = open_still (drop (i + 1) ls) ∙ sym (ap (λ l. labels_open l o) (next ls i h)) ∙ p

pub past_step : (ls : List Label) (i : ℕ) (o : Bool) (n n1 w : Numbers) → i < length ls → n1 ≡ past_label o n → labels_past (drop i ls) o n ≡ w →
    labels_past (drop (i + 1) ls) true n1 ≡ w
past_step ls i o n n1 w h e p = ap (λ m. labels_past (drop (i + 1) ls) true m) e ∙ sym (ap (λ l. labels_past l o n) (next ls i h)) ∙ p

pub arrived_step : (ls : List Label) (i at at1 : ℕ) (o : Bool) (n n1 : Numbers) (s s1 w : Draft) → i < length ls → at1 ≡ suc at → n1 ≡ past_label o n →
    s1 ≡ arrived at o n s →
    labels_arrived (drop i ls) at o n s ≡ w → labels_arrived (drop (i + 1) ls) at1 true n1 s1 ≡ w
arrived_step ls i at at1 o n n1 s s1 w h e e1 e2 p =
    let rest = drop (i + 1) ls in
    ap (λ m. labels_arrived rest m true n1 s1) e ∙ ap (λ m. labels_arrived rest (suc at) true m s1) e1
    ∙ ap (λ m. labels_arrived rest (suc at) true (past_label o n) m) e2
    ∙ sym (ap (λ l. labels_arrived l at o n s) (next ls i h)) ∙ p
