-- A caller with its callee spliced at a site does what it did.
use Rattle.std.proofs.Common.{◌≡◌, ℕ, zero, suc, ◌+◌, ◌-◌, ◌<◌, ◌≤◌, List, [], ◌∷◌, map, Bool, true, false, refl, ap, ap₂, subst, sym, ◌∙◌, arith}
use Rattle.std.proofs.Common.{length, slice_get, ne_eqb, eq-eqb, lt-ltb, inl, inr}
use Rattle.std.specs.Prelude.{if◌then◌else◌, Option, Some, None, get_or}
use Rattle.std.specs.List.{AllByRecursion}
use Rattle.std.proofs.lemmas.Bool.{cases_lt, cases_order, le-ltb}
use Rattle.std.proofs.lemmas.Bool.Decides.{nat_tests}
use Rattle.std.proofs.lemmas.Option.{slice_get_within}
use Rattle.il_core.specs.declared.instr.Block.{Block}
use Rattle.il_core.specs.declared.instr.Instr.{Instr}
use Rattle.il_core.specs.declared.instr.Instr.TheVariants.{Clear, Turn}
use Rattle.il_core.specs.declared.instr.End.{End}
use Rattle.il_core.specs.declared.instr.End.TheVariants as ends
use Rattle.il_core.specs.declared.shape.ShapeRow.{ShapeRow}
use Rattle.il_core.specs.Routine.{RoutineParts}
use Rattle.il_core.specs.Valid.{IsValidInstr, IsValidEnd, is_wanted}
use Rattle.il_core.specs.World.{World, OutOfTurns, Outcome, Returns, Exit, ended, turn, turn_at, choose, put, from_list, each, with_return}
use Rattle.il_core.specs.Meaning.{Frame, with_reg, frame_of, cleared, is_among, received, returned, Lengths, Next, finish}
use Rattle.il_core.specs.Operands.{as_is, renamed, retargeted}
use Rattle.il_laws.specs.Runs.{Calls, does, turned, run}
use Rattle.il_laws.specs.Splice.{Site, moved, passed, handed, copied_end}
use Rattle.il_laws.proofs.Alike.{CallsAlike, anything, anything_blocks}
use Rattle.il_laws.proofs.Places.{block_does, run_block}
use Rattle.il_laws.proofs.Induction.{Agree, Relation, related_agree}
use Rattle.il_laws.proofs.Lists.{get_in, valid_block, valid_are_forward}
use Rattle.il_laws.proofs.Returning.{Then, does_return, turn_return, choose_return}
use Rattle.il_laws.proofs.Same.{does_append}
use Rattle.il_laws.proofs.Renaming.{no_shift, shift_by, Holds, holds_received, SameLengths, does_meets, map_as_is, option_as_is}
use Rattle.il_laws.proofs.Sound.{none_block}
use Rattle.il_laws.proofs.SpliceBlocks as at

-- the frame after the moves of a call's arguments to the registers from d on
abbrev given : ℕ → List ℕ → Frame → Frame
given d [] g = g
given d (a ∷ args) g = given (suc d) args (with_reg g d (g.regs a))

given_arrays : (d : ℕ) (args : List ℕ) (g : Frame) → (given d args g).arrays ≡ g.arrays
given_arrays d [] g = refl
given_arrays d (a ∷ args) g = given_arrays (suc d) args (with_reg g d (g.regs a))

put_other : (f : ℕ → ℕ) (d v x : ℕ) → (x ≡ d → ⊥) → put f d v x ≡ f x
put_other f d v x ne = ap (λ (k : Bool). if k then v else f x) (ne_eqb x d ne)

put_same : (f : ℕ → ℕ) (d v : ℕ) → put f d v d ≡ v
put_same f d v = ap (λ (k : Bool). if k then v else f d) (eq-eqb d d refl)

given_low : (d : ℕ) (args : List ℕ) (g : Frame) (x : ℕ) → x < d → (given d args g).regs x ≡ g.regs x
given_low d [] g x lt = refl
given_low d (a ∷ args) g x lt =
    given_low (suc d) args (with_reg g d (g.regs a)) x (omega arith) ∙ put_other g.regs d (g.regs a) x (λ e. absurd (omega arith))

given_high : (d : ℕ) (args : List ℕ) (g : Frame) (x : ℕ) → d + length args ≤ x → (given d args g).regs x ≡ g.regs x
given_high d [] g x le = refl
given_high d (a ∷ args) g x le =
    let more : d + suc (length args) ≤ x = le in
    given_high (suc d) args (with_reg g d (g.regs a)) x (omega arith) ∙ put_other g.regs d (g.regs a) x (λ e. absurd (omega arith))

-- register d + i holds argument i, as the caller has it
given_at : (regs : ℕ) (e : Frame) (d : ℕ) (args : List ℕ) (g : Frame) → AllByRecursion (λ x. x < regs) args → regs ≤ d
    → ((x : ℕ) → x < regs → e.regs x ≡ g.regs x) → (i : ℕ) → i < length args
    → from_list (each e.regs args) i ≡ (given d args g).regs (d + i)
given_at regs e d [] g ok le same i lt = absurd (omega arith)
given_at regs e d (a ∷ args) g ok le same zero lt =
    let here : d ≡ d + 0 = omega arith in
    same a ok.0 ∙ sym (put_same g.regs d (g.regs a)) ∙ sym (given_low (suc d) args (with_reg g d (g.regs a)) d (omega arith))
    ∙ ap (λ (x : ℕ). (given d (a ∷ args) g).regs x) here
given_at regs e d (a ∷ args) g ok le same (suc i) lt =
    let less : suc i < suc (length args) = lt in
    let there : suc d + i ≡ d + suc i = omega arith in
    let still = λ (x : ℕ) (lx : x < regs). same x lx ∙ sym (put_other g.regs d (g.regs a) x (λ e1. absurd (omega arith))) in
    given_at regs e (suc d) args (with_reg g d (g.regs a)) ok.1 (omega arith) still i (omega arith)
    ∙ ap (λ (x : ℕ). (given d (a ∷ args) g).regs x) there

among_new : (r k x : ℕ) → x < k → is_among r k (r + x) ≡ true
among_new r k x lt = grind (arith, nat_tests)

among_old : (r k x : ℕ) → x < r → is_among r k x ≡ false
among_old r k x lt = grind (arith, nat_tests)

module _ {S : Type 0} where
  passed_does : (c : Calls S) (n : Lengths) (d : ℕ) (args : List ℕ) (go : Next S) (g : Frame) (w : World S)
      → does c n (passed d args) go g w ≡ go (given d args g) w
  passed_does c n d [] go g w = refl
  passed_does c n d (a ∷ args) go g w = passed_does c n (suc d) args go (with_reg g d (g.regs a)) w

  turn_at_same : (t : ℕ) (go go1 : World S → Outcome S) → ((w : World S) → w.turns ≤ t → go w ≡ go1 w) → (w : World S) (u : ℕ) → u ≤ t
      → turn_at (ended OutOfTurns w) go w u ≡ turn_at (ended OutOfTurns w) go1 w u
  turn_at_same t go go1 h w zero le = refl
  turn_at_same t go go1 h w (suc u) le = h (record w { turns = u }) (omega arith)

  -- The run of the caller and that of the new routine, under calls that do at the site what the callee's blocks do.
  module _
      (c : Calls S) (falls : (t : ℕ) → CallsAlike anything t c c) (rows : List ShapeRow)
      (r q : RoutineParts) (s : Site) (fits : at.Fits rows r q s) (n n1 nq : Lengths)
      (call_is : (args : List ℕ) (w : World S)
      → c s.cut.callee args w ≡ turn (ended OutOfTurns) (λ w1. run c nq q.blocks 0 (frame_of q.params args) w1) w)
      (caller_lengths : SameLengths as_is (length r.arrays) n n1)
      (callee_lengths : SameLengths (at.names rows r q s fits) (length q.arrays) nq n1) where
    abbrev old : ℕ → Next S
    old = run c n r.blocks

    abbrev new : ℕ → Next S
    new = run c n1 (at.new_blocks rows r q s fits)

    abbrev inner : ℕ → Next S
    inner = run c nq q.blocks

    -- numbers of blocks, as the lemmas on places have them
    abbrev b : ℕ
    b = at.at rows r q s fits

    abbrev size_q : ℕ
    size_q = at.many rows r q s fits

    abbrev rest : ℕ
    rest = at.rest rows r q s fits

    abbrev arrays : ℕ
    arrays = length r.arrays

    old_is : (t : ℕ) (y : Block) → slice_get r.blocks t ≡ Some y → old t ≡ block_does c n (turned old) old y
    old_is t y e = run_block anything c falls n r.blocks (anything_blocks r.blocks) (valid_are_forward rows r fits.valid) t y e

    new_is : (t : ℕ) (y : Block) → slice_get (at.new_blocks rows r q s fits) t ≡ Some y → new t ≡ block_does c n1 (turned new) new y
    new_is t y e =
        let bs = at.new_blocks rows r q s fits in
        run_block anything c falls n1 bs (anything_blocks bs) (at.new_forward rows r q s fits) t y e

    inner_is : (t : ℕ) (y : Block) → slice_get q.blocks t ≡ Some y → inner t ≡ block_does c nq (turned inner) inner y
    inner_is t y e = run_block anything c falls nq q.blocks (anything_blocks q.blocks) (valid_are_forward rows q fits.valid_q) t y e

    -- The callee inside the new routine, from the call to its return: e is the caller's frame at the call, and k what the
    -- caller does with the value.
    module _ (top : ℕ) (e : Frame) (k : Then S) where
      abbrev HoldsInner : Frame → Frame → Type 0
      HoldsInner h g = Holds r.regs arrays (at.names rows r q s fits) q.regs (length q.arrays) e h g

      abbrev Inner : Relation
      Inner t t1 h g = (t < size_q) × (t1 ≡ suc b + t) × HoldsInner h g

      abbrev inner_then : ℕ → Next S
      inner_then t h w = with_return (inner t h w) k

      module _ (comes : (v : ℕ) (h g : Frame) (w : World S) → w.turns ≤ top → HoldsInner h g
          → k v w ≡ new rest (received g s.cut.dest v) w) where
        returns_agree : (m t : ℕ) → m ≤ top → (x dest : Option ℕ) → IsValidEnd q.regs q.value size_q t (ends.Return x)
            → q.value ≡ is_wanted dest → dest ≡ s.cut.dest
            → Agree m HoldsInner (λ h w. k (returned h x) w)
            (λ g w. does c n1 (handed (at.names rows r q s fits) (ends.Return x) dest) (λ g1 w1. new rest g1 w1) g w)
        returns_agree m t le None None ok want same =
            record { by = λ h g w lw hold. comes 0 h g w (omega arith) hold ∙ ap (λ (d : Option ℕ). new rest (received g d 0) w) (sym same) }
        returns_agree m t le None (Some d) ok want same = let bad : false ≡ true = sym ok.1 ∙ want in absurd cc
        returns_agree m t le (Some x) None ok want same = let bad : true ≡ false = sym ok.1 ∙ want in absurd cc
        returns_agree m t le (Some x) (Some d) ok want same =
            record {
              by = λ h g w lw hold. comes (h.regs x) h g w (omega arith) hold
                  ∙ ap (λ (o : Option ℕ). new rest (received g o (h.regs x)) w) (sym same)
                  ∙ ap (λ (v : ℕ). new rest (with_reg g d v) w) (hold.reg x ok.0);
            }

        inner_end : (m t : ℕ) → m ≤ top → (x : End) → IsValidEnd q.regs q.value size_q t x → t < size_q
            → ((u u1 : ℕ) → t < u → Agree m (Inner u u1) (inner_then u) (new u1))
            → ((u u1 : ℕ) → Agree m (Inner u u1) (turned inner_then u) (turned new u1))
            → Agree m HoldsInner (λ h w. with_return (finish (turned inner) inner x h w) k)
            (λ g w. does c n1 (handed (at.names rows r q s fits) x s.cut.dest)
            (λ g1 w1. finish (turned new) new (copied_end (at.names rows r q s fits) (suc b) rest x) g1 w1) g w)
        inner_end m t le (ends.Jump u) ok lt later back =
            record { by = λ h g w lw hold. (later u (suc b + u) ok.0).by h g w lw (ok.1, refl, hold) }
        inner_end m t le (ends.Branch x u v) ok lt later back =
            record {
              by = λ h g w lw hold. choose_return (h.regs x) (inner u h w) (inner v h w) k
                  ∙ ap₂ {A = Outcome S} {B = Outcome S} {C = Outcome S} (λ o p. choose (h.regs x) o p)
                  ((later u (suc b + u) ok.1.0).by h g w lw (ok.1.1, refl, hold)) ((later v (suc b + v) ok.2.0).by h g w lw (ok.2.1, refl, hold))
                  ∙ ap (λ (i : ℕ). choose i (new (suc b + u) g w) (new (suc b + v) g w)) (hold.reg x ok.0);
            }
        inner_end m t le (ends.Loop u) ok lt later back =
            record {
              by = λ h g w lw hold. turn_return w (λ w1. inner u h w1) k
                  ∙ (back u (suc b + u)).by h g w lw (omega arith, refl, hold);
            }
        inner_end m t le (ends.Return x) ok lt later back = returns_agree m t le x s.cut.dest ok fits.wanted refl
        inner_end m t le (ends.Exit x) ok lt later back =
            record { by = λ h g w lw hold. ap (λ (v : ℕ). ended (Exit v) w) (hold.reg x ok) }

        inner_one : (m t t1 : ℕ) → m ≤ top
            → ((u u1 : ℕ) → t < u → Agree m (Inner u u1) (inner_then u) (new u1))
            → ((u u1 : ℕ) → Agree m (Inner u u1) (turned inner_then u) (turned new u1))
            → Agree m (Inner t t1) (inner_then t) (new t1)
        inner_one m t t1 le later back =
            let names = at.names rows r q s fits in
            record {
              by = λ h g w lw rel.
                  let y = get_or q.blocks t none_block in
                  let is = get_in q.blocks t none_block rel.0 in
                  let ok = valid_block rows q fits.valid_q t y is in
                  let leave : Next S = λ g1 w1. finish (turned new) new (copied_end names (suc b) rest y.end) g1 w1 in
                  ap (λ (a : Next S). with_return (a h w) k) (inner_is t y is)
                  ∙ does_return c nq y.instrs (λ f1 w1. finish (turned inner) inner y.end f1 w1) k h w
                  ∙ (does_meets r.regs arrays names.reg names.array names.count q.regs (length q.arrays) (shift_by r.regs)
                  (shift_by arrays) c falls nq n1 callee_lengths rows e m
                  y.instrs _ _ ok.instrs (inner_end m t le y.end ok.end rel.0 later back)).by h g w lw rel.2
                  ∙ ap (λ (a : Next S). a g w) (sym (does_append c n1 (map (renamed names) y.instrs) (handed names y.end s.cut.dest) leave))
                  ∙ ap (λ (a : Next S). a g w) (sym (new_is (suc b + t) (at.copy rows r q s fits y) (at.get_copy rows r q s fits t y is)))
                  ∙ ap (λ (u : ℕ). new u g w) (sym rel.1);
            }

        inner_agree : (t t1 : ℕ) → Agree top (Inner t t1) (inner_then t) (new t1)
        inner_agree t t1 = related_agree top size_q inner_then new Inner (λ u u1 h g rel. rel.0) inner_one t t1

    -- The caller, before and behind the call.
    abbrev HoldsOuter : Frame → Frame → Frame → Type 0
    HoldsOuter e f g = Holds 0 0 as_is r.regs arrays e f g

    abbrev Outer : Frame → Relation
    Outer e t t1 f g = (t < length r.blocks) × (t1 ≡ moved b size_q t) × HoldsOuter e f g

    module _ (e : Frame) (m t : ℕ)
        (later : (u u1 : ℕ) → t < u → Agree m (Outer e u u1) (old u) (new u1))
        (back : (u u1 : ℕ) → Agree m (Outer e u u1) (turned old u) (turned new u1)) where
      outer_end : (x : End) → IsValidEnd r.regs r.value (length r.blocks) t x → t < length r.blocks
          → Agree m (HoldsOuter e) (λ f w. finish (turned old) old x f w) (λ g w. finish (turned new) new (retargeted (moved b size_q) x) g w)
      outer_end (ends.Jump u) ok lt = record { by = λ f g w lw hold. (later u (moved b size_q u) ok.0).by f g w lw (ok.1, refl, hold) }
      outer_end (ends.Branch x u v) ok lt =
          record {
            by = λ f g w lw hold. ap₂ {A = Outcome S} {B = Outcome S} {C = Outcome S} (λ o p. choose (f.regs x) o p)
                ((later u (moved b size_q u) ok.1.0).by f g w lw (ok.1.1, refl, hold))
                ((later v (moved b size_q v) ok.2.0).by f g w lw (ok.2.1, refl, hold))
                ∙ ap (λ (i : ℕ). choose i (new (moved b size_q u) g w) (new (moved b size_q v) g w)) (hold.reg x ok.0);
          }
      outer_end (ends.Loop u) ok lt =
          record { by = λ f g w lw hold. (back u (moved b size_q u)).by f g w lw (omega arith, refl, hold) }
      outer_end (ends.Return None) ok lt = record { by = λ f g w lw hold. refl }
      outer_end (ends.Return (Some x)) ok lt = record { by = λ f g w lw hold. ap (λ (v : ℕ). Returns v w) (hold.reg x ok.0) }
      outer_end (ends.Exit x) ok lt = record { by = λ f g w lw hold. ap (λ (v : ℕ). ended (Exit v) w) (hold.reg x ok) }

    -- instructions of the caller stay as they are
    outer_does : (e : Frame) (m : ℕ) (is : List Instr) (x y : Next S) → AllByRecursion (IsValidInstr rows r.regs arrays) is
        → Agree m (HoldsOuter e) x y → Agree m (HoldsOuter e) (does c n is x) (does c n1 is y)
    outer_does e m is x y ok go =
        subst (λ (js : List Instr). Agree m (HoldsOuter e) (does c n is x) (does c n1 js y)) (map_as_is is)
        (does_meets 0 0 (λ x. x) (λ x. x) (λ x. x) r.regs arrays no_shift no_shift c falls n n1 caller_lengths rows e m is x y ok go)

    outer_plain : (e : Frame) (m t : ℕ) (y : Block) → slice_get r.blocks t ≡ Some y
        → slice_get (at.new_blocks rows r q s fits) (moved b size_q t) ≡ Some (at.move rows r q s fits y) → t < length r.blocks
        → ((u u1 : ℕ) → t < u → Agree m (Outer e u u1) (old u) (new u1))
        → ((u u1 : ℕ) → Agree m (Outer e u u1) (turned old u) (turned new u1))
        → Agree m (HoldsOuter e) (old t) (new (moved b size_q t))
    outer_plain e m t y is is1 lt later back =
        let ok = at.old_block rows r q s fits t y is in
        record {
          by = λ f g w lw hold. ap (λ (a : Next S). a f w) (old_is t y is)
              ∙ (outer_does e m y.instrs _ _ ok.instrs (outer_end e m t later back y.end ok.end lt)).by f g w lw hold
              ∙ ap (λ (a : Next S). a g w) (sym (new_is (moved b size_q t) (at.move rows r q s fits y) is1));
        }

    -- At the call: after `clear` and the moves, the callee's registers and arrays hold what they hold at a call.
    abbrev emptied : Frame → Frame
    emptied g = cleared g r.regs q.regs arrays (length q.arrays)

    emptied_low : (e f g : Frame) → HoldsOuter e f g → (x : ℕ) → x < r.regs → f.regs x ≡ (emptied g).regs x
    emptied_low e f g hold x lt = hold.reg x lt ∙ ap (λ (i : Bool). if i then 0 else g.regs x) (sym (among_old r.regs q.regs x lt))

    -- a parameter has its argument, and another register 0
    begins : (e f g : Frame) → AllByRecursion (λ x. x < r.regs) s.cut.args → HoldsOuter e f g → (x : ℕ) → x < q.regs
        → (frame_of q.params (each f.regs s.cut.args)).regs x ≡ (given r.regs s.cut.args (emptied g)).regs (r.regs + x)
    begins e f g ok hold x lt =
        let args = s.cut.args in
        let size = fits.args in
        elim (cases_lt x q.params) [
          | inl l ↦ ap (λ (k : Bool). if k then from_list (each f.regs args) x else 0) (lt-ltb x q.params l)
              ∙ given_at r.regs f r.regs args (emptied g) ok (omega arith) (emptied_low e f g hold) x (omega arith)
          | inr ge ↦ ap (λ (k : Bool). if k then from_list (each f.regs args) x else 0) (le-ltb x q.params ge)
              ∙ ap (λ (i : Bool). if i then 0 else g.regs (r.regs + x)) (sym (among_new r.regs q.regs x lt))
              ∙ sym (given_high r.regs args (emptied g) (r.regs + x) (omega arith))
        ]

    site_holds : (e f g : Frame) → AllByRecursion (λ x. x < r.regs) s.cut.args → HoldsOuter e f g
        → Holds r.regs arrays (at.names rows r q s fits) q.regs (length q.arrays) f (frame_of q.params (each f.regs s.cut.args))
        (given r.regs s.cut.args (emptied g))
    site_holds e f g ok hold =
        let kept = sym (given_arrays r.regs s.cut.args (emptied g)) in
        record {
          reg = λ x lt. begins e f g ok hold x lt;
          array = λ x lt. ap (λ (k : Bool). λ (i : ℕ). if k then 0 else g.arrays (arrays + x) i) (sym (among_new arrays (length q.arrays) x lt))
              ∙ ap (λ (z : ℕ → ℕ → ℕ). z (arrays + x)) kept;
          below = λ x lt. emptied_low e f g hold x lt ∙ sym (given_low r.regs s.cut.args (emptied g) x lt);
          array_below = λ x lt. hold.array x lt
              ∙ ap (λ (k : Bool). λ (i : ℕ). if k then 0 else g.arrays x i) (sym (among_old arrays (length q.arrays) x lt))
              ∙ ap (λ (z : ℕ → ℕ → ℕ). z x) kept;
        }

    outer_below : (e f h g : Frame) → Holds r.regs arrays (at.names rows r q s fits) q.regs (length q.arrays) f h g → HoldsOuter e f g
    outer_below e f h g hold =
        record {
          reg = λ x lt. hold.below x lt;
          array = λ x lt. hold.array_below x lt;
          below = λ x lt. absurd (omega arith);
          array_below = λ x lt. absurd (omega arith);
        }

    outer_received : (e f g : Frame) (dest : Option ℕ) (v : ℕ) → HoldsOuter e f g → HoldsOuter e (received f dest v) (received g dest v)
    outer_received e f g dest v hold =
        subst (λ (o : Option ℕ). HoldsOuter e (received f dest v) (received g o v)) (option_as_is dest)
        (holds_received 0 0 (λ x. x) (λ x. x) (λ x. x) r.regs arrays no_shift no_shift e f g dest v hold)

    module _ (e : Frame) (m : ℕ)
        (later : (u u1 : ℕ) → b < u → Agree m (Outer e u u1) (old u) (new u1))
        (back : (u u1 : ℕ) → Agree m (Outer e u u1) (turned old u) (turned new u1)) where
      abbrev old_end : Next S
      old_end f w = finish (turned old) old s.end f w

      abbrev after_call : Frame → Then S
      after_call f v w = does c n s.cut.after old_end (received f s.cut.dest v) w

      abbrev entered : Next S
      entered g w = new (suc b) g w

      site_inside : b < length r.blocks
      site_inside = slice_get_within r.blocks b (at.site_block s) (at.old_site rows r q s fits)

      -- behind the callee's blocks the caller goes on
      rest_agrees : Agree m (HoldsOuter e) (λ f w. does c n s.cut.after old_end f w) (new rest)
      rest_agrees =
          record {
            by = λ f g w lw hold.
                (outer_does e m s.cut.after _ _ (at.call_valid rows r q s fits).1
                (outer_end e m b later back s.end (at.site_valid rows r q s fits).end site_inside)).by f g w lw hold
                ∙ ap (λ (a : Next S). a g w) (sym (new_is rest (at.rest_block rows r q s fits) (at.get_rest rows r q s fits)));
          }

      comes_back : (f : Frame) (v : ℕ) (h g : Frame) (w : World S) → w.turns ≤ m
          → Holds r.regs arrays (at.names rows r q s fits) q.regs (length q.arrays) f h g
          → after_call f v w ≡ new rest (received g s.cut.dest v) w
      comes_back f v h g w lw hold =
          rest_agrees.by (received f s.cut.dest v) (received g s.cut.dest v) w lw (outer_received e f g s.cut.dest v (outer_below e f h g hold))

      inside_agrees : (f g : Frame) → HoldsOuter e f g → (w : World S) → w.turns ≤ m
          → with_return (inner 0 (frame_of q.params (each f.regs s.cut.args)) w) (after_call f)
          ≡ does c n1 (passed r.regs s.cut.args) entered (emptied g) w
      inside_agrees f g hold w lw =
          let here : suc b ≡ suc b + 0 = omega arith in
          let holds = site_holds e f g (at.call_valid rows r q s fits).0.1 hold in
          (inner_agree m f (after_call f) (comes_back f) 0 (suc b)).by (frame_of q.params (each f.regs s.cut.args))
          (given r.regs s.cut.args (emptied g)) w lw (fits.valid_q.some_block, here, holds)
          ∙ sym (passed_does c n1 r.regs s.cut.args entered (emptied g) w)

      abbrev entry : List Instr
      entry = Turn ∷ Clear r.regs q.regs arrays (length q.arrays) ∷ passed r.regs s.cut.args

      call_agrees : Agree m (HoldsOuter e) (λ f w. does c n (at.call_of s.cut ∷ s.cut.after) old_end f w) (λ g w. does c n1 entry entered g w)
      call_agrees =
          record {
            by = λ f g w lw hold. ap (λ (o : Outcome S). with_return o (after_call f)) (call_is (each f.regs s.cut.args) w)
                ∙ turn_return w (λ w1. inner 0 (frame_of q.params (each f.regs s.cut.args)) w1) (after_call f)
                ∙ turn_at_same m (λ w1. with_return (inner 0 (frame_of q.params (each f.regs s.cut.args)) w1) (after_call f))
                (λ w1. does c n1 (passed r.regs s.cut.args) entered (emptied g) w1) (λ w1 l1. inside_agrees f g hold w1 l1) w w.turns lw;
          }

      site_agrees : Agree m (HoldsOuter e) (old b) (new b)
      site_agrees =
          record {
            by = λ f g w lw hold. ap (λ (a : Next S). a f w) (old_is b (at.site_block s) (at.old_site rows r q s fits))
                ∙ ap (λ (a : Next S). a f w) (does_append c n s.cut.before (at.call_of s.cut ∷ s.cut.after) old_end)
                ∙ (outer_does e m s.cut.before _ _ (at.before_valid rows r q s fits) call_agrees).by f g w lw hold
                ∙ ap (λ (a : Next S). a g w) (sym (does_append c n1 s.cut.before entry entered))
                ∙ ap (λ (a : Next S). a g w) (sym (new_is b (at.first_block rows r q s fits) (at.get_first rows r q s fits)));
          }

    outer_one : (e : Frame) (m t t1 : ℕ)
        → ((u u1 : ℕ) → t < u → Agree m (Outer e u u1) (old u) (new u1))
        → ((u u1 : ℕ) → Agree m (Outer e u u1) (turned old u) (turned new u1))
        → Agree m (Outer e t t1) (old t) (new t1)
    outer_one e m t t1 later back =
        record {
          by = λ f g w lw rel. elim (cases_order t b) [
            | inl same ↦ (let there : moved b size_q t ≡ b = at.moved_same b size_q t (omega arith) ∙ same in
                ap (λ (u : ℕ). old u f w) same
                ∙ (site_agrees e m (λ u u1 lt. later u u1 (omega arith)) back).by f g w lw rel.2
                ∙ ap (λ (u : ℕ). new u g w) (sym there))
            | inr o ↦ elim o [
              | inl early ↦ (let y = get_or s.earlier t none_block in
                  let is = get_in s.earlier t none_block early in
                  let there : moved b size_q t ≡ t = at.moved_same b size_q t (omega arith) in
                  let is1 = ap (λ (u : ℕ). slice_get (at.new_blocks rows r q s fits) u) there ∙ at.get_earlier rows r q s fits t y is in
                  (outer_plain e m t y (at.old_earlier rows r q s fits t y is) is1 rel.0 later back).by f g w lw rel.2)
              | inr late ↦ (let i = t - suc b in
                  let as_sum : t ≡ suc b + i = omega arith in
                  let size = at.old_size rows r q s fits in
                  let lt = rel.0 in
                  let is = get_in s.later i none_block (omega arith) in
                  let y = get_or s.later i none_block in
                  let there : moved b size_q t ≡ suc b + i + suc size_q =
                  at.moved_later b size_q t late ∙ ap (λ (u : ℕ). u + suc size_q) as_sum in
                  let is0 = ap (λ (u : ℕ). slice_get r.blocks u) as_sum ∙ at.old_later rows r q s fits i y is in
                  let is1 = ap (λ (u : ℕ). slice_get (at.new_blocks rows r q s fits) u) there ∙ at.get_later rows r q s fits i y is in
                  (outer_plain e m t y is0 is1 rel.0 later back).by f g w lw rel.2)
            ]
          ] ∙ ap (λ (u : ℕ). new u g w) (sym rel.1);
        }

    -- the new routine does what the old one does
    pub spliced_run : (f : Frame) (w : World S) → old 0 f w ≡ new 0 f w
    spliced_run f w =
        (related_agree w.turns (length r.blocks) old new (Outer f) (λ t t1 f1 g1 rel. rel.0)
        (λ m t t1 le later back. outer_one f m t t1 later back) 0 0).by f f w (omega arith) (
          fits.valid.some_block,
          sym (at.moved_same b size_q 0 (omega arith)),
          record { reg = λ x lt. refl; array = λ x lt. refl; below = λ x lt. refl; array_below = λ x lt. refl },
        )
