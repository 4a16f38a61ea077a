-- Clones that fit, added one after the other.
use Rattle.std.proofs.Common.{◌≡◌, ℕ, List, [], ◌∷◌, refl, ap, subst, sym, ◌∙◌}
use Rattle.std.specs.Prelude.{Option, Some}
use Rattle.il_core.specs.declared.program.IlProgram.{IlProgram}
use Rattle.il_core.specs.declared.shape.Shape.{Shape}
use Rattle.il_core.specs.declared.shape.Shape.TheVariants as shape
use Rattle.il_core.specs.declared.shape.ShapeRow.{ShapeRow}
use Rattle.il_core.specs.Program.{routine_at, shape_at}
use Rattle.il_core.specs.Routine.{RoutineParts}
use Rattle.il_core.specs.Valid.{IsProgram}
use Rattle.il_laws.specs.Clone.{make_clone}
use Rattle.il_laws.specs.CloneLaws.{IsAdded, ClonesAdded}
use Rattle.il_laws.specs.Growing.{NewClone, row_of, shape_row_of, with_copy, with_clone, with_clones, CloneFits, ClonesFit}
use Rattle.il_laws.specs.Keeping.{Stands, KeepsAct}
use Rattle.il_laws.proofs.CloneRows.{clone_is_right, row_stays}
use Rattle.il_laws.proofs.CloneValid.{clone_valid}
use Rattle.il_laws.proofs.Grown.{IsNext, grown, shape_left, shape_new, still_there, new_there, grown_follows, grown_main}
use Rattle.il_core.proofs.Programs.{routine_valid, shape_is}
use Rattle.il_laws.proofs.Serving.{follow_then}

-- a program with a clone that fits is one with one routine more
is_next : (p : IlProgram) → IsProgram p → (c : NewClone) (fits : CloneFits p c)
    → IsNext p (make_clone fits.callee c.pid c.fixed) (shape_row_of c fits.callee)
is_next p valid c fits =
    record {
      pid = refl;
      shape = refl;
      above = fits.above;
      name = fits.name;
      in_range = fits.pid;
      room = fits.room;
      ok = clone_valid p.shapes fits.callee c.pid c.fixed (routine_valid p valid c.callee fits.callee fits.is) fits.fixed;
    }

pub is_grown : (p : IlProgram) (c : NewClone) (fits : CloneFits p c)
    → with_clone p c ≡ grown p (make_clone fits.callee c.pid c.fixed) (shape_row_of c fits.callee)
is_grown p c fits = ap (λ (o : Option RoutineParts). with_copy p c o) fits.is

-- shapes and routines that stand stay
pub record Stays (p p1 : IlProgram) : Type 0 where
  pub shapes : (x : ℕ) (s : Shape) → shape_at p.shapes x ≡ Some s → shape_at p1.shapes x ≡ Some s
  pub routines : (x : ℕ) (r : RoutineParts) → routine_at p.routines x ≡ Some r → routine_at p1.routines x ≡ Some r

stands_still : (p p1 : IlProgram) → Stays p p1 → (x : ℕ) → Stands p x → Stands p1 x
stands_still p p1 stays x s = record { routine = s.routine; is = stays.routines x s.routine s.is }

-- a clone's row in a later program
added_stays : (p p1 : IlProgram) (c : NewClone) → KeepsAct p p1 → Stays p p1 → (callee : Stands p c.callee)
    → shape_at p.shapes c.callee ≡ Some (shape.Routine callee.routine.params callee.routine.value) → IsAdded p c → IsAdded p1 c
added_stays p p1 c keeps stays callee is added =
    record {
      stands = stands_still p p1 stays c.pid added.stands;
      shape = record {
        by = λ params value e.
            let was : shape_at p.shapes c.callee ≡ Some (shape.Routine params value) =
            is ∙ sym (stays.shapes c.callee (shape.Routine callee.routine.params callee.routine.value) is) ∙ e in
            stays.shapes c.pid (shape.Routine params value) (added.shape.by params value was);
      };
      right = row_stays p p1 (row_of c) keeps (λ s. callee) (λ s. added.stands) added.right;
    }

module _ (p : IlProgram) (valid : IsProgram p) (c : NewClone) (fits : CloneFits p c) where
  abbrev new : RoutineParts
  new = make_clone fits.callee c.pid c.fixed

  abbrev row : ShapeRow
  row = shape_row_of c fits.callee

  abbrev p1 : IlProgram
  p1 = grown p new row

  next : IsNext p new row
  next = is_next p valid c fits

  one_stays : Stays p p1
  one_stays =
      record {
        shapes = λ x s e. shape_left x p.shapes (row ∷ []) s e;
        routines = λ x r e. still_there p valid new row next x r e;
      }

  abbrev callee_stands : Stands p1 c.callee
  callee_stands = record { routine = fits.callee; is = one_stays.routines c.callee fits.callee fits.is }

  callee_shape : shape_at p1.shapes c.callee ≡ Some (shape.Routine fits.callee.params fits.callee.value)
  callee_shape =
      one_stays.shapes c.callee (shape.Routine fits.callee.params fits.callee.value) (shape_is p valid c.callee fits.callee fits.is)

  one_added : IsAdded p1 c
  one_added =
      record {
        stands = record { routine = new; is = new_there p valid new row next };
        shape = record {
          by = λ params value e. shape_new p valid new row next ∙ sym callee_shape ∙ e;
        };
        right = clone_is_right p1 (grown_follows p valid new row next).valid c.callee c.pid fits.callee c.fixed fits.fixed callee_stands.is
            (new_there p valid new row next);
      }

-- where a program may follow, what stood stands
then_stays : (p q r : IlProgram) → Stays p q → Stays q r → Stays p r
then_stays p q r a b =
    record {
      shapes = λ x s e. b.shapes x s (a.shapes x s e);
      routines = λ x one e. b.routines x one (a.routines x one e);
    }

record Grows (p p1 : IlProgram) (cs : List NewClone) : Type 0 where
  added : ClonesAdded p p1 cs
  stays : Stays p p1

all_grow : (p : IlProgram) → IsProgram p → (cs : List NewClone) → ClonesFit p cs → Grows p (with_clones p cs) cs
all_grow p valid [] fit =
    record {
      added = record {
        follows = record { act = record { by = λ x s s1 args w. refl }; valid = valid };
        stand = λ x r e. e;
        main = refl;
        clones = tt;
      };
      stays = record { shapes = λ x s e. e; routines = λ x r e. e };
    }
all_grow p valid (c ∷ cs) fit =
    let fits = fit.0 in
    let q = p1 p valid c fits in
    let is : with_clone p c ≡ q = is_grown p c fits in
    let one = one_stays p valid c fits in
    let n = next p valid c fits in
    let follows = grown_follows p valid (new p valid c fits) (row p valid c fits) n in
    let rest = all_grow q follows.valid cs (subst (λ (z : IlProgram). ClonesFit z cs) is fit.1) in
    let last = with_clones q cs in
    let first = added_stays q last c rest.added.follows.act rest.stays (callee_stands p valid c fits) (callee_shape p valid c fits)
    (one_added p valid c fits) in
    subst (λ (z : IlProgram). Grows p (with_clones z cs) (c ∷ cs)) (sym is)
    (record {
      added = record {
        follows = follow_then p q last (λ x s s2. stands_still p q one x s) follows rest.added.follows;
        stand = λ x r e. rest.stays.routines x r (one.routines x r e);
        main = rest.added.main ∙ grown_main p valid (new p valid c fits) (row p valid c fits) n;
        clones = (first, rest.added.clones);
      };
      stays = then_stays p q last one rest.stays;
    })

pub clones_follow : (p : IlProgram) → IsProgram p → (cs : List NewClone) → ClonesFit p cs → ClonesAdded p (with_clones p cs) cs
clones_follow p valid cs fit = (all_grow p valid cs fit).added
