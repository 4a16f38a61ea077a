-- A partial program with one more line has that line at the end of its lines, and fits where the line does.
use Rattle.std.proofs.Common.{◌≡◌, ℕ, ◌+◌, ◌<◌, ◌≤◌, List, [], ◌∷◌, ◌++◌, length, map, Option, Some, None, refl, sym, ◌∙◌, ap, subst, append-nil}
use Rattle.std.proofs.Common.{append_assoc, length-append, arith, inl, inr}
use Rattle.std.specs.Prelude.{flat_map, nat_lt, ◌==◌}
use Rattle.std.specs.List.{AllByRecursion}
use Rattle.std.proofs.lemmas.Bool.{cases_Bool, ltb-true, eqb-true}
use Rattle.std.proofs.lemmas.Grind.{flat_map-append}
use Rattle.std.proofs.lemmas.List.{map-append}
use Rattle.std.proofs.lemmas.List.Sums.{sum_by-append}
use Rattle.il_core.specs.declared.instr.Block.{Block}
use Rattle.il_core.specs.declared.instr.Instr.{Instr}
use Rattle.il_core.specs.declared.instr.End.{End}
use Rattle.il_core.specs.Limits.{IsBlock, IsInstr, max_routines, max_size}
use Rattle.il_core.specs.Ranges.{IsBlockOfWords, AreWords, numbers_of, end_numbers}
use Rattle.il_core.specs.Size.{block_size, blocks_size, size}
use Rattle.il_text.specs.declared.partial.Partial.{Partial}
use Rattle.il_text.specs.declared.partial.Place.{Place}
use Rattle.il_text.specs.declared.partial.Place.TheVariants.{Start, Outside, InRoutine, InBlock, Done}
use Rattle.il_text.specs.declared.line.Line.{Line}
use Rattle.il_text.specs.declared.line.Line.TheVariants as line
use Rattle.il_text.specs.declared.line.NamedObject.{NamedObject}
use Rattle.il_text.specs.declared.line.NamedRoutine.{NamedRoutine}
use Rattle.il_text.specs.declared.statement.Statement.{Statement}
use Rattle.il_text.specs.declared.statement.Statement.TheVariants as statement
use Rattle.il_text.specs.Lines.{IsFitObject, IsFitHeader, IsFitLine, IsFitStatement}
use Rattle.il_text.specs.Partials.{header, block_lines, blocks_lines, open_lines, routine_lines, inner_lines, lines_of, partial_lines, with_block, next}
use Rattle.il_text.specs.Partials.{next_at, outside, in_routine, in_block, at_place}
use Rattle.il_text.specs.FitPartials.{IsFitRoutine, IsFitBlock, IsFitPlace, IsRoomAt, IsFitPartial}

-- a partial program that fits, with one more line than these
pub record Grows (ls : List Line) (l : Line) (g : Partial) : Type 0 where
  pub fit : IsFitPartial g
  pub lines : partial_lines g ≡ ls ++ l ∷ []

abbrev partial : List NamedObject → List NamedRoutine → Place → Partial
partial os rs p = record { objects = os; routines = rs; place = p }

pub all_push : {X : Type 0} (P : X → Type 0) (xs : List X) (x : X) → AllByRecursion P xs → P x → AllByRecursion P (xs ++ x ∷ [])
all_push P [] x h k = (k, tt)
all_push P (y ∷ xs) x h k = (h.0, all_push P xs x h.1 k)

-- where what follows is the only change
behind : (os : List NamedObject) (rs : List NamedRoutine) (ps qs : List Line) (l : Line) → qs ≡ ps ++ l ∷ []
    → line.First ∷ inner_lines os rs ++ qs ≡ (line.First ∷ inner_lines os rs ++ ps) ++ l ∷ []
behind os rs ps qs l e = ap (λ ls. line.First ∷ ls) (ap (λ ls. inner_lines os rs ++ ls) e ∙ sym (append_assoc (inner_lines os rs) ps (l ∷ [])))

empty_list : {X : Type 0} (xs : List X) → length xs ≡ 0 → xs ≡ []
empty_list [] e = refl
empty_list (x ∷ xs) e = absurd (omega arith)

object_line : (os : List NamedObject) (x : NamedObject)
    → line.First ∷ inner_lines (os ++ x ∷ []) [] ++ [] ≡ (line.First ∷ inner_lines os [] ++ []) ++ line.Object x ∷ []
object_line os x = ap (λ ls. line.First ∷ ls)
    (append-nil (inner_lines (os ++ x ∷ []) []) ∙ append-nil (map (λ o. line.Object o) (os ++ x ∷ [])) ∙ map-append (λ o. line.Object o) os (x ∷ [])
    ∙ ap (λ ls. ls ++ line.Object x ∷ []) (sym (append-nil (inner_lines os []) ∙ append-nil (map (λ o. line.Object o) os))))

close_line : (os : List NamedObject) (rs : List NamedRoutine) (r : NamedRoutine)
    → line.First ∷ inner_lines os (rs ++ r ∷ []) ++ [] ≡ (line.First ∷ inner_lines os rs ++ open_lines r) ++ line.Close ∷ []
close_line os rs r = ap (λ ls. line.First ∷ ls)
    (append-nil (inner_lines os (rs ++ r ∷ []))
    ∙ ap (λ ls. map (λ o. line.Object o) os ++ ls) (flat_map-append routine_lines rs (r ∷ []) ∙ ap (λ ls. flat_map routine_lines rs ++ ls)
    (append-nil (routine_lines r)))
    ∙ sym (append_assoc (map (λ o. line.Object o) os) (flat_map routine_lines rs) (open_lines r ++ line.Close ∷ []))
    ∙ sym (append_assoc (inner_lines os rs) (open_lines r) (line.Close ∷ [])))

abbrev Told : Option Partial → List Line → Line → Partial → Type 0
Told o ls l g = o ≡ Some g → Grows ls l g

header_lines : (x : NamedRoutine) → x.routine.blocks ≡ [] → open_lines x ≡ line.Routine x ∷ []
header_lines x e =
    ap (λ bs. line.Routine (header x) ∷ blocks_lines 0 bs) e
    ∙ ap (λ bs. let q : NamedRoutine = record x { routine = record x.routine { blocks = bs } } in line.Routine q ∷ []) (sym e)

header_grows : (os : List NamedObject) (rs : List NamedRoutine) (x : NamedRoutine) → AllByRecursion IsFitObject os → AllByRecursion IsFitRoutine rs
    → length rs < max_routines → IsFitHeader x → Grows (line.First ∷ inner_lines os rs ++ []) (line.Routine x) (partial os rs (InRoutine x 0))
header_grows os rs x a b lt h = record {
  fit = record {
    objects = a;
    routines = b;
    place = (
      record { name = h.name; limits = h.limits; range = record { entry = h.entry; blocks = subst (AllByRecursion IsBlockOfWords) (sym h.blocks) tt } },
      ap blocks_size (sym h.blocks),
    );
    room = lt;
  };
  lines = behind os rs [] (open_lines x) (line.Routine x) (header_lines x h.blocks);
}

grow_outside : (os : List NamedObject) (rs : List NamedRoutine) (l : Line) (g : Partial) → AllByRecursion IsFitObject os → AllByRecursion IsFitRoutine rs
    → length rs ≤ max_routines → IsFitLine l → Told (outside os rs l) (line.First ∷ inner_lines os rs ++ []) l g
grow_outside os rs line.First g a b room h e = absurd cc
grow_outside os rs (line.Object x) g a b room h e = elim (cases_Bool (length rs == 0)) [
  | inl is ↦
      let s : Some (partial (os ++ x ∷ []) rs Outside) ≡ Some g = rw is at e in
      let same : partial (os ++ x ∷ []) rs Outside ≡ g = cc s in
      let none : rs ≡ [] = empty_list rs (eqb-true (length rs) 0 is) in
      subst (Grows (line.First ∷ inner_lines os rs ++ []) (line.Object x)) same (record {
        fit = record { objects = all_push IsFitObject os x a h; routines = b; place = tt; room = room };
        lines = subst (λ qs. line.First ∷ inner_lines (os ++ x ∷ []) qs ++ [] ≡ (line.First ∷ inner_lines os qs ++ []) ++ line.Object x ∷ []) (sym none)
            (object_line os x);
      })
  | inr not ↦ let s : None ≡ Some g = rw not at e in absurd (cc s)
]
grow_outside os rs (line.Routine x) g a b room h e = elim (cases_Bool (nat_lt (length rs) max_routines)) [
  | inl is ↦
      let s : Some (partial os rs (InRoutine x 0)) ≡ Some g = rw is at e in
      let same : partial os rs (InRoutine x 0) ≡ g = cc s in
      subst (Grows (line.First ∷ inner_lines os rs ++ []) (line.Routine x)) same (header_grows os rs x a b (ltb-true (length rs) max_routines is) h)
  | inr not ↦ let s : None ≡ Some g = rw not at e in absurd (cc s)
]
grow_outside os rs (line.Label k) g a b room h e = absurd cc
grow_outside os rs (line.Inside s) g a b room h e = absurd cc
grow_outside os rs line.Close g a b room h e = absurd cc
grow_outside os rs line.Done g a b room h e =
    let same : partial os rs Done ≡ g = cc e in
    subst (Grows (line.First ∷ inner_lines os rs ++ []) line.Done) same (record {
      fit = record { objects = a; routines = b; place = tt; room = room };
      lines = behind os rs [] (line.Done ∷ []) line.Done refl;
    })

grow_in_routine : (os : List NamedObject) (rs : List NamedRoutine) (r : NamedRoutine) (n : ℕ) (l : Line) (g : Partial) → AllByRecursion IsFitObject os
    → AllByRecursion IsFitRoutine rs → length rs < max_routines → IsFitRoutine r → n ≡ size r.routine
    → Told (in_routine os rs r n l) (line.First ∷ inner_lines os rs ++ open_lines r) l g
grow_in_routine os rs r n line.First g a b room h k e = absurd cc
grow_in_routine os rs r n (line.Object x) g a b room h k e = absurd cc
grow_in_routine os rs r n (line.Routine x) g a b room h k e = absurd cc
grow_in_routine os rs r n (line.Label m) g a b room h k e = elim (cases_Bool (m == length r.routine.blocks)) [
  | inl is ↦
      let s : Some (partial os rs (InBlock r n [])) ≡ Some g = rw is at e in
      let same : partial os rs (InBlock r n []) ≡ g = cc s in
      subst (Grows (line.First ∷ inner_lines os rs ++ open_lines r) (line.Label m)) same (record {
        fit = record { objects = a; routines = b; place = (h, k, record { room = omega (arith, k, h.limits.size); instrs = tt }); room = room };
        lines = behind os rs (open_lines r) (open_lines r ++ line.Label (length r.routine.blocks) ∷ []) (line.Label m)
            (ap (λ i. open_lines r ++ line.Label i ∷ []) (sym (eqb-true m (length r.routine.blocks) is)));
      })
  | inr not ↦ let s : None ≡ Some g = rw not at e in absurd (cc s)
]
grow_in_routine os rs r n (line.Inside s) g a b room h k e = absurd cc
grow_in_routine os rs r n line.Close g a b room h k e =
    let same : partial os (rs ++ r ∷ []) Outside ≡ g = cc e in
    subst (Grows (line.First ∷ inner_lines os rs ++ open_lines r) line.Close) same (record {
      fit = record { objects = a; routines = all_push IsFitRoutine rs r b h; place = tt; room = omega (arith, length-append rs (r ∷ [])) };
      lines = close_line os rs r;
    })
grow_in_routine os rs r n line.Done g a b room h k e = absurd cc

blocks_push : (b : ℕ) (xs : List Block) (x : Block) → blocks_lines b (xs ++ x ∷ []) ≡ blocks_lines b xs ++ block_lines (b + length xs) x
blocks_push b [] x = append-nil (block_lines b x) ∙ ap (λ n. block_lines n x) (omega arith)
blocks_push b (y ∷ xs) x =
    ap (λ ls. block_lines b y ++ ls) (blocks_push (b + 1) xs x ∙ ap (λ n. blocks_lines (b + 1) xs ++ block_lines n x) (omega arith))
    ∙ sym (append_assoc (block_lines b y) (blocks_lines (b + 1) xs) (block_lines (b + length (y ∷ xs)) x))

abbrev so_far : NamedRoutine → List Instr → List Line
so_far r is = open_lines r ++ line.Label (length r.routine.blocks) ∷ map (λ i. line.Inside (statement.Instr i)) is

block_ended : (r : NamedRoutine) (is : List Instr) (x : End)
    → open_lines (with_block r (record { instrs = is; end = x })) ≡ so_far r is ++ line.Inside (statement.End x) ∷ []
block_ended r is x =
    ap (λ ls. line.Routine (header r) ∷ ls) (blocks_push 0 r.routine.blocks (record { instrs = is; end = x }) ∙ ap
    (λ n. blocks_lines 0 r.routine.blocks ++ block_lines n (record { instrs = is; end = x })) (omega arith))
    ∙ sym (append_assoc (open_lines r) (line.Label (length r.routine.blocks) ∷ map (λ i. line.Inside (statement.Instr i)) is)
    (line.Inside (statement.End x) ∷ []))

instr_added : (r : NamedRoutine) (is : List Instr) (i : Instr) → so_far r (is ++ i ∷ []) ≡ so_far r is ++ line.Inside (statement.Instr i) ∷ []
instr_added r is i =
    ap (λ ls. open_lines r ++ line.Label (length r.routine.blocks) ∷ ls) (map-append (λ j. line.Inside (statement.Instr j)) is (i ∷ []))
    ∙ sym (append_assoc (open_lines r) (line.Label (length r.routine.blocks) ∷ map (λ j. line.Inside (statement.Instr j)) is)
    (line.Inside (statement.Instr i) ∷ []))

fit_instrs : (is : List Instr) → AllByRecursion (λ i. IsFitStatement (statement.Instr i)) is
    → AllByRecursion IsInstr is × AllByRecursion (λ i. AreWords (numbers_of i)) is
fit_instrs [] h = (tt, tt)
fit_instrs (i ∷ is) h = let r = fit_instrs is h.1 in ((h.0.0, r.0), (h.0.1, r.1))

size_push : (xs : List Block) (x : Block) → blocks_size (xs ++ x ∷ []) ≡ blocks_size xs + block_size x
size_push xs x = let s : blocks_size (xs ++ x ∷ []) ≡ blocks_size xs + (0 + block_size x) = sum_by-append block_size xs (x ∷ []) in omega (arith, s)

fit_block : (r : NamedRoutine) (n : ℕ) (is : List Instr) (x : End) → IsFitRoutine r → n ≡ size r.routine → n + length is < max_size
    → AllByRecursion (λ i. IsFitStatement (statement.Instr i)) is → AreWords (end_numbers x)
    → IsFitPlace (InRoutine (with_block r (record { instrs = is; end = x })) (n + length is + 1))
fit_block r n is x h k lt all w =
    let s = size_push r.routine.blocks (record { instrs = is; end = x }) in
    let f = fit_instrs is all in (
      record {
        name = h.name;
        limits = record {
          pid = h.limits.pid;
          params = h.limits.params;
          regs = h.limits.regs;
          arrays = h.limits.arrays;
          elements = h.limits.elements;
          size =
              omega (arith, s, k);
          instrs = all_push IsBlock r.routine.blocks (record { instrs = is; end = x }) h.limits.instrs f.0;
        };
        range = record { entry = h.range.entry; blocks = all_push IsBlockOfWords r.routine.blocks (record { instrs = is; end = x }) h.range.blocks (f.1, w) };
      },
      omega (arith, s, k),
    )

grow_in_block : (os : List NamedObject) (rs : List NamedRoutine) (r : NamedRoutine) (n : ℕ) (is : List Instr) (s : Statement) (g : Partial)
    → AllByRecursion IsFitObject os → AllByRecursion IsFitRoutine rs → length rs < max_routines → IsFitRoutine r → n ≡ size r.routine
    → IsFitBlock n is → IsFitStatement s → Told (at_place os rs (in_block r n is s)) (line.First ∷ inner_lines os rs ++ so_far r is) (line.Inside s) g
grow_in_block os rs r n is (statement.Instr i) g a b room h k fits f e = elim (cases_Bool (nat_lt (n + length is) max_size)) [
  | inl less ↦
      let s : Some (partial os rs (InBlock r n (is ++ i ∷ []))) ≡ Some g = rw less at e in
      let same : partial os rs (InBlock r n (is ++ i ∷ [])) ≡ g = cc s in
      let lt = ltb-true (n + length is) max_size less in
      subst (Grows (line.First ∷ inner_lines os rs ++ so_far r is) (line.Inside (statement.Instr i))) same (record {
        fit = record {
          objects = a;
          routines = b;
          place = (
            h,
            k,
            record {
              room = omega (arith, lt, length-append is (i ∷ []));
              instrs = all_push
                  (λ j. IsFitStatement (statement.Instr j)) is i fits.instrs f;
            },
          );
          room = room;
        };
        lines = behind os rs (so_far r is) (so_far r (is ++ i ∷ [])) (line.Inside (statement.Instr i)) (instr_added r is i);
      })
  | inr not ↦ let s : None ≡ Some g = rw not at e in absurd (cc s)
]
grow_in_block os rs r n is (statement.End x) g a b room h k fits f e = elim (cases_Bool (nat_lt (n + length is) max_size)) [
  | inl less ↦
      let s : Some (partial os rs (InRoutine (with_block r (record { instrs = is; end = x })) (n + length is + 1))) ≡ Some g = rw less at e in
      let same : partial os rs (InRoutine (with_block r (record { instrs = is; end = x })) (n + length is + 1)) ≡ g = cc s in
      subst (Grows (line.First ∷ inner_lines os rs ++ so_far r is) (line.Inside (statement.End x))) same (record {
        fit = record { objects = a; routines = b; place = fit_block r n is x h k (ltb-true (n + length is) max_size less) fits.instrs f; room = room };
        lines = behind os rs (so_far r is) (open_lines (with_block r (record { instrs = is; end = x }))) (line.Inside (statement.End x)) (block_ended r is x);
      })
  | inr not ↦ let s : None ≡ Some g = rw not at e in absurd (cc s)
]

start_grows : (os : List NamedObject) (rs : List NamedRoutine) (g : Partial) → (os ≡ []) × (rs ≡ []) → partial os rs Outside ≡ g → Grows [] line.First g
start_grows os rs g none same = subst (Grows [] line.First) (ap (λ l. partial l [] Outside) (sym none.0) ∙ ap (λ l. partial os l Outside) (sym none.1) ∙ same)
    (record {
      fit = record { objects = tt; routines = tt; place = tt; room = omega arith };
      lines = refl;
    })

grow_at : (p : Place) (os : List NamedObject) (rs : List NamedRoutine) (l : Line) (g : Partial) → AllByRecursion IsFitObject os → AllByRecursion IsFitRoutine rs
    → IsFitPlace p → IsRoomAt p os rs → IsFitLine l → Told (next_at p os rs l) (lines_of p os rs) l g
grow_at Start os rs line.First g a b p room h e = let same : partial os rs Outside ≡ g = cc e in start_grows os rs g room same
grow_at Start os rs (line.Object x) g a b p room h e = absurd cc
grow_at Start os rs (line.Routine x) g a b p room h e = absurd cc
grow_at Start os rs (line.Label k) g a b p room h e = absurd cc
grow_at Start os rs (line.Inside s) g a b p room h e = absurd cc
grow_at Start os rs line.Close g a b p room h e = absurd cc
grow_at Start os rs line.Done g a b p room h e = absurd cc
grow_at Outside os rs l g a b p room h e = grow_outside os rs l g a b room h e
grow_at (InRoutine r n) os rs l g a b p room h e = grow_in_routine os rs r n l g a b room p.0 p.1 e
grow_at (InBlock r n is) os rs (line.Inside s) g a b p room h e = grow_in_block os rs r n is s g a b room p.0 p.1 p.2 h e
grow_at (InBlock r n is) os rs line.First g a b p room h e = absurd cc
grow_at (InBlock r n is) os rs (line.Object x) g a b p room h e = absurd cc
grow_at (InBlock r n is) os rs (line.Routine x) g a b p room h e = absurd cc
grow_at (InBlock r n is) os rs (line.Label k) g a b p room h e = absurd cc
grow_at (InBlock r n is) os rs line.Close g a b p room h e = absurd cc
grow_at (InBlock r n is) os rs line.Done g a b p room h e = absurd cc
grow_at Done os rs l g a b p room h e = absurd cc

pub grow : (f : Partial) (l : Line) (g : Partial) → IsFitPartial f → IsFitLine l → next f l ≡ Some g → Grows (partial_lines f) l g
grow f l g h k e = grow_at f.place f.objects f.routines l g h.objects h.routines h.place h.room k e
