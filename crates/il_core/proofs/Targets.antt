-- An end leads to blocks that it names, and the same end with other numbers of blocks leads to those.
use Rattle.std.proofs.Common.{◌≡◌, ℕ, zero, suc, [], ◌∷◌, true, refl, ap, sym, ◌∙◌}
use Rattle.std.specs.Prelude.{nat_eq, Some, ⊤}
use Rattle.std.specs.List.{list_any}
use Rattle.il_core.specs.declared.instr.End.{End}
use Rattle.il_core.specs.declared.instr.End.TheVariants as ends
use Rattle.il_core.specs.World.{World, choose}
use Rattle.il_core.specs.Meaning.{Frame, Next, finish}
use Rattle.il_core.specs.Operands.{end_reads, jumps, loops_to, retargeted}
use Rattle.il_core.proofs.Effects.{Way, On, Back, Over, lead, way, finish_is}
use Rattle.il_core.proofs.Following.{first_named, second_named}
use Rattle.il_core.proofs.Unread.{way_unread}

-- an end leads on to a block that it jumps to, or back to the one that it loops to
abbrev pub LeadsTo : {S : Type 0} → End → Way S → Type 0
LeadsTo e (On t) = list_any (nat_eq t) (jumps e) ≡ true
LeadsTo e (Back t) = loops_to e ≡ Some t
LeadsTo e (Over o) = ⊤

choose_leads : (v r t u : ℕ) → list_any (nat_eq (choose v t u)) (jumps (ends.Branch r t u)) ≡ true
choose_leads zero r t u = second_named t u
choose_leads (suc v) r t u = first_named t (u ∷ [])

module _ {S : Type 0} where
  pub way_leads : (e : End) (f : Frame) (w : World S) → LeadsTo e (way e f w)
  way_leads (ends.Jump t) f w = first_named t []
  way_leads (ends.Branch r t u) f w = choose_leads (f.regs r) r t u
  way_leads (ends.Loop t) f w = refl
  way_leads (ends.Return r) f w = tt
  way_leads (ends.Exit r) f w = tt

  lead_same : (back back1 on on1 : ℕ → Next S) (e : End) (f g : Frame) (w : World S) (x : Way S) → LeadsTo e x
      → ((t : ℕ) → list_any (nat_eq t) (jumps e) ≡ true → on t f w ≡ on1 t g w) → ((t : ℕ) → loops_to e ≡ Some t → back t f w ≡ back1 t g w)
      → lead back on x f w ≡ lead back1 on1 x g w
  lead_same back back1 on on1 e f g w (On t) at h hb = h t at
  lead_same back back1 on on1 e f g w (Back t) at h hb = hb t at
  lead_same back back1 on on1 e f g w (Over o) at h hb = refl

  -- Two frames that hold the same in the register that an end reads, and blocks that do the same where it can lead: the end
  -- does the same.
  pub finish_same : (back back1 on on1 : ℕ → Next S) (e : End) (f g : Frame) (w : World S)
      → ((x : ℕ) → end_reads e x ≡ true → f.regs x ≡ g.regs x)
      → ((t : ℕ) → list_any (nat_eq t) (jumps e) ≡ true → on t f w ≡ on1 t g w) → ((t : ℕ) → loops_to e ≡ Some t → back t f w ≡ back1 t g w)
      → finish back on e f w ≡ finish back1 on1 e g w
  finish_same back back1 on on1 e f g w same h hb =
      finish_is back on e f w
      ∙ lead_same back back1 on on1 e f g w (way e f w) (way_leads e f w) h hb
      ∙ ap (λ (x : Way S). lead back1 on1 x g w) (way_unread e f g w same)
      ∙ sym (finish_is back1 on1 e g w)

  pub finish_retargeted : (back on : ℕ → Next S) (to : ℕ → ℕ) (e : End) (f : Frame) (w : World S)
      → finish back on (retargeted to e) f w ≡ finish (λ t. back (to t)) (λ t. on (to t)) e f w
  finish_retargeted back on to (ends.Jump t) f w = refl
  finish_retargeted back on to (ends.Branch r t u) f w = refl
  finish_retargeted back on to (ends.Loop t) f w = refl
  finish_retargeted back on to (ends.Return r) f w = refl
  finish_retargeted back on to (ends.Exit r) f w = refl
