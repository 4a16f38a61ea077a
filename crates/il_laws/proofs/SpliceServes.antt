-- What is spliced at a site serves in a valid program, where the body may stand in the callee's place.
use Rattle.std.proofs.Common.{◌≡◌, ℕ, ◌+◌, ◌<◌, List, [], ◌∷◌, map, Bool, true, false, refl, ap, subst, sym, ◌∙◌, arith, length, slice_get}
use Rattle.std.proofs.Common.{get_or-append-add, eqb-true}
use Rattle.std.specs.Prelude.{nat_eq, if◌then◌else◌, Option, Some}
use Rattle.std.specs.List.{AllByRecursion}
use Rattle.std.proofs.lemmas.List.{get_or_append_left}
use Rattle.std.proofs.lemmas.Option.{same_Some}
use Rattle.il_core.specs.declared.program.IlProgram.{IlProgram}
use Rattle.il_core.specs.Routine.{RoutineParts}
use Rattle.il_core.specs.Program.{routine_at}
use Rattle.il_core.specs.Valid.{IsProgram, IsValid, is_wanted}
use Rattle.il_core.specs.World.{World, OutOfTurns, Outcome, ended, turn}
use Rattle.il_core.specs.Meaning.{frame_of, lengths}
use Rattle.il_laws.specs.Runs.{run, called}
use Rattle.il_laws.specs.Serving.{Serves}
use Rattle.il_laws.specs.Keeping.{Stands, MayFollow, with_each, with_routine}
use Rattle.il_laws.specs.Sites.{callees}
use Rattle.il_laws.specs.Splice.{Site, spliced, splice}
use Rattle.il_laws.specs.Inline.{SiteBody, inlined, IsFalling}
use Rattle.il_laws.specs.SpliceLaws.{ServesSite, EachServes, with_routines, ServesThere}
use Rattle.il_laws.proofs.Alike.{anything, calls_fall}
use Rattle.il_laws.proofs.Keeps.{called_is}
use Rattle.il_core.proofs.Found.{found_number}
use Rattle.il_laws.proofs.Lists.{valid_block}
use Rattle.il_core.proofs.Programs.{callee_fits, routine_valid}
use Rattle.il_laws.proofs.Programs.{valid_calls}
use Rattle.il_laws.proofs.Serving.{serves_itself, serves_then, each_follows, routine_follows}
use Rattle.il_laws.proofs.SpliceBlocks.{call_of, site_block, blocks_with, all_rest, Fits}
use Rattle.il_laws.proofs.SpliceRuns.{spliced_run}
use Rattle.il_laws.proofs.SpliceSites.{site_is, calls_site, earlier_calls}
use Rattle.il_laws.proofs.SpliceValid.{spliced_valid}
use Rattle.il_laws.proofs.Lists.{get_behind}
use Rattle.il_core.specs.declared.instr.Block.{Block}
use Rattle.il_core.specs.Valid.{IsValidInstr}

module _ (p : IlProgram) (valid : IsProgram p) where
  -- a body that may stand in the callee's place fits the site
  pub body_fits : (r q0 q : RoutineParts) (s : Site) → IsValid p.shapes r → r.blocks ≡ blocks_with s
      → routine_at p.routines s.cut.callee ≡ Some q0 → Serves p q0 q → Fits p.shapes r q s
  body_fits r q0 q s ok blocks is serves =
      let at = length s.earlier in
      let here : at ≡ at + 0 = omega arith in
      let found : slice_get r.blocks at ≡ Some (site_block s) =
      ap (λ (bs : List Block). slice_get bs at) blocks ∙ ap (λ (t : ℕ). slice_get (blocks_with s) t) here
      ∙ get_behind s.earlier (site_block s ∷ s.later) at 0 refl in
      let block = valid_block p.shapes r ok at (site_block s) found in
      let call : AllByRecursion (IsValidInstr p.shapes r.regs (length r.arrays)) (call_of s.cut ∷ s.cut.after) =
      all_rest (IsValidInstr p.shapes r.regs (length r.arrays)) s.cut.before (call_of s.cut ∷ s.cut.after) block.instrs in
      let callee = callee_fits p valid s.cut.callee (length s.cut.args) (is_wanted s.cut.dest) call.0.2 in
      let same : callee.routine ≡ q0 = same_Some callee.routine q0 (sym callee.is ∙ is) in
      record {
        blocks = blocks;
        valid = ok;
        valid_q = serves.valid;
        args = sym callee.params ∙ ap (λ (z : RoutineParts). z.params) same ∙ sym serves.params;
        wanted = serves.value ∙ ap (λ (z : RoutineParts). z.value) (sym same) ∙ callee.value;
      }

  -- a call of the callee is a turn and the body's blocks
  call_is : (x : ℕ) (q0 q : RoutineParts) → routine_at p.routines x ≡ Some q0 → Serves p q0 q → (args : List ℕ) (w : World (Unit {0}))
      → called p x args w ≡ turn (ended OutOfTurns) (λ w1. run (called p) (lengths p q) q.blocks 0 (frame_of q.params args) w1) w
  call_is x q0 q is serves args w =
      called_is p (Stands p) x q0 is (valid_calls p valid q0 (routine_valid p valid x q0 is)) args w
      ∙ ap (λ (go : World (Unit {0}) → Outcome (Unit {0})). turn (ended OutOfTurns) go w) (λ i w1. serves.same args w1 i)
      ∙ ap (λ (k : ℕ). turn (ended OutOfTurns) (λ w1. run (called p) (lengths p q) q.blocks 0 (frame_of k args) w1) w) (sym serves.params)

  spliced_serves : (r q0 q : RoutineParts) (s : Site) → IsValid p.shapes r → r.blocks ≡ blocks_with s
      → routine_at p.routines s.cut.callee ≡ Some q0 → Serves p q0 q → Serves p r (spliced r q (Some s))
  spliced_serves r q0 q s ok blocks is serves =
      let fits = body_fits r q0 q s ok blocks is serves in
      let new = spliced r q (Some s) in
      record {
        pid = refl;
        params = refl;
        value = refl;
        valid = spliced_valid p.shapes r q s fits;
        same = λ args w. spliced_run (called p) (calls_fall p anything) p.shapes r q s fits (lengths p r) (lengths p new) (lengths p q)
            (call_is s.cut.callee q0 q is serves)
            (record { array = λ y lt. sym (get_or_append_left r.arrays q.arrays 0 y lt); object = λ y. refl })
            (record { array = λ y lt. sym (get_or-append-add r.arrays q.arrays y 0); object = λ y. refl })
            (frame_of r.params args) w;
      }

  -- what is spliced at site k serves
  pub splice_serves : (r q0 q : RoutineParts) (k callee : ℕ) → IsValid p.shapes r → slice_get (callees r.blocks) k ≡ Some callee
      → routine_at p.routines callee ≡ Some q0 → Serves p q0 q → Serves p r (splice r k q)
  splice_serves r q0 q k callee ok at is serves =
      let c = calls_site r.blocks k callee at in
      let there = ap (λ (x : ℕ). routine_at p.routines x) c.callee_is ∙ is in
      subst (λ (o : Option Site). Serves p r (spliced r q o)) (sym c.is)
      (spliced_serves r q0 q c.site ok (site_is k r.blocks c.site c.is).blocks there serves)

  -- the sites before the spliced one are served as before
  pub still_serve : (r q : RoutineParts) (k callee : ℕ) → slice_get (callees r.blocks) k ≡ Some callee → (bodies : List SiteBody)
      → AllByRecursion (λ b. b.site < k) bodies → AllByRecursion (ServesSite p r) bodies → AllByRecursion (ServesSite p (splice r k q)) bodies
  still_serve r q k callee at [] lt h = tt
  still_serve r q k callee at (a ∷ bodies) lt h =
      let c = calls_site r.blocks k callee at in
      let first = h.0 in (
        record {
          callee = first.callee;
          calls = earlier_calls r q a.site k c.site c.is lt.0 ∙ first.calls;
          origin = first.origin;
          is = first.is;
          serves = first.serves;
        },
        still_serve r q k callee at bodies lt.1 h.1,
      )

  pub inlined_serves : (r : RoutineParts) (bodies : List SiteBody) → IsValid p.shapes r → IsFalling bodies
      → AllByRecursion (ServesSite p r) bodies → Serves p r (inlined r bodies)
  inlined_serves r [] ok falls h = serves_itself p r ok
  inlined_serves r (a ∷ bodies) ok falls h =
      let first = h.0 in
      let r1 = splice r a.site a.body in
      let one = splice_serves r first.origin a.body a.site first.callee ok first.calls first.is first.serves in
      let rest = still_serve r a.body a.site first.callee first.calls bodies falls.0 h.1 in
      serves_then p r r1 (inlined r1 bodies) one (inlined_serves r1 bodies one.valid falls.1 rest)

  -- the laws
  pub splice_follows : (x k callee : ℕ) (r q : RoutineParts) → routine_at p.routines x ≡ Some r → slice_get (callees r.blocks) k ≡ Some callee
      → routine_at p.routines callee ≡ Some q → MayFollow p (with_routine p (splice r k q))
  splice_follows x k callee r q er at eq =
      let itself = serves_itself p q (routine_valid p valid callee q eq) in
      routine_follows p valid x r (splice r k q) er (splice_serves r q q k callee (routine_valid p valid x r er) at eq itself)

  pub inline_follows : (bodies : ℕ → List SiteBody) → EachServes p bodies → MayFollow p (with_each p (λ r. inlined r (bodies r.pid)))
  inline_follows bodies h =
      each_follows p valid (λ r. inlined r (bodies r.pid)) (λ x r e.
      let same = found_number (λ z. z.pid) x p.routines r e in
      let here = subst (λ (y : ℕ). AllByRecursion (ServesSite p r) (bodies y)) (sym same) (h.serves x r e) in
      inlined_serves r (bodies r.pid) (routine_valid p valid x r e) (h.falls r.pid) here)

-- Routines put in place one after the other: each one's place is its PID, so all are put there at once.
abbrev replaced_by : RoutineParts → RoutineParts → RoutineParts
replaced_by r1 z = if nat_eq z.pid r1.pid then r1 else z

abbrev replaced_in_turn : List RoutineParts → RoutineParts → RoutineParts
replaced_in_turn [] z = z
replaced_in_turn (r1 ∷ rs) z = replaced_in_turn rs (replaced_by r1 z)

map_map : (f g : RoutineParts → RoutineParts) (rs : List RoutineParts) → map g (map f rs) ≡ map (λ z. g (f z)) rs
map_map f g [] = refl
map_map f g (r ∷ rs) = ap (λ (zs : List RoutineParts). g (f r) ∷ zs) (map_map f g rs)

map_same : (rs : List RoutineParts) → map (λ z. z) rs ≡ rs
map_same [] = refl
map_same (r ∷ rs) = ap (λ (zs : List RoutineParts). r ∷ zs) (map_same rs)

at_once : (p : IlProgram) (rs : List RoutineParts) → with_each p (replaced_in_turn rs) ≡ with_routines p rs
at_once p [] = ap (λ (zs : List RoutineParts). record p { routines = zs }) (map_same p.routines)
at_once p (r1 ∷ rs) =
    ap (λ (zs : List RoutineParts). record p { routines = zs }) (sym (map_map (replaced_by r1) (replaced_in_turn rs) p.routines))
    ∙ at_once (with_routine p r1) rs

module _ (p : IlProgram) (valid : IsProgram p) where
  by_pid : (x : ℕ) (r z r1 : RoutineParts) (same : Bool) → nat_eq z.pid r1.pid ≡ same → routine_at p.routines x ≡ Some r → Serves p r z
      → ServesThere p r1 → Serves p r (if same then r1 else z)
  by_pid x r z r1 false e is s h = s
  by_pid x r z r1 true e is s h =
      let there : r1.pid ≡ x = sym (eqb-true z.pid r1.pid e) ∙ s.pid ∙ found_number (λ y. y.pid) x p.routines r is in
      h r (ap (λ (y : ℕ). routine_at p.routines y) there ∙ is)

  in_turn : (x : ℕ) (r z : RoutineParts) (rs : List RoutineParts) → routine_at p.routines x ≡ Some r → Serves p r z
      → AllByRecursion (ServesThere p) rs → Serves p r (replaced_in_turn rs z)
  in_turn x r z [] is s h = s
  in_turn x r z (r1 ∷ rs) is s h =
      in_turn x r (replaced_by r1 z) rs is (by_pid x r z r1 (nat_eq z.pid r1.pid) refl is s h.0) h.1

  pub wave_follows : (rs : List RoutineParts) → AllByRecursion (ServesThere p) rs → MayFollow p (with_routines p rs)
  wave_follows rs h =
      subst (λ (q : IlProgram). MayFollow p q) (at_once p rs)
      (each_follows p valid (replaced_in_turn rs) (λ x r e. in_turn x r r rs e (serves_itself p r (routine_valid p valid x r e)) h))
