-- Each call of the source comes where the program wants a byte.
use Rattle.std.proofs.Common.{◌≡◌, ℕ, ◌+◌, ◌≤◌, List, [], ◌∷◌, ◌++◌, length, take, drop, false, refl, ap, subst, sym, ◌∙◌, append_assoc, arith, inl}
use Rattle.std.proofs.Common.{inr, zero-add, add-zero}
use Rattle.std.specs.Prelude.{Option, Some, None, Ok, Err, ⊤}
use Rattle.std.specs.Io.KnownBytes.{Consumes, Keeps, prepend_known}
use Rattle.std.proofs.lemmas.List.{append-nil, append_cancel_right, take-append-drop, drop-drop, length-take-le, length-append}
use Rattle.std.proofs.lemmas.Option.{none-some, same_Some}
use Rattle.outside.specs.Asks.{NotesAsk, bytes_given, given, next_ask}
use Rattle.outside.specs.declared.source.Ask.{Ask}
use Rattle.il_core.specs.declared.program.IlProgram.{IlProgram}
use Rattle.il_run.specs.declared.input.Ahead.{Ahead}
use Rattle.il_run.specs.declared.machine.Machine.{Machine}
use Rattle.il_run.specs.declared.tables.Tables.{Tables}
use Rattle.il_run.specs.Machine.{ComesToGet, IsTabled}
use Rattle.il_run.specs.Run.{AreWanted, AsksAtGet, AsksWhereWanted, IfTold, Wants}
use Rattle.il_run.specs.Streams.{AsksOnce, IsGiven, NotesGiven, ahead}
use Rattle.il_run.proofs.Running.{Using, empty_ahead, none_ahead}

-- one call of the source that gave some bytes, or failed
noted_ok : (E : Type 0) (asks asks_now : Option (List Ask)) (n : ℕ) → NotesAsk {E = E} asks asks_now (Ok n) → NotesGiven asks asks_now n
noted_ok E None asks_now n h = tt
noted_ok E (Some xs) None n h = absurd h
noted_ok E (Some xs) (Some ys) n h = (next_ask {E = E} xs (Ok n), h, refl)

noted_err : {E : Type 0} (asks asks_now : Option (List Ask)) (e : E) → NotesAsk asks asks_now (Err e) → NotesGiven asks asks_now 0
noted_err None asks_now e h = tt
noted_err (Some xs) None e h = absurd h
noted_err {E} (Some xs) (Some ys) e h = (next_ask {E = E} xs (Err e), h, refl)

given_ok : (left left_now : Option (List ℕ)) (n : ℕ) (b : List ℕ) → Consumes left left_now (take n b) → n ≤ length b → IsGiven left left_now n
given_ok None left_now n b c le = tt
given_ok (Some xs) None n b c le = absurd c
given_ok (Some xs) (Some ys) n b c le =
    let many : length (take n b) ≡ n = length-take-le n b le in (
      omega (arith, ap length c, length-append (take n b) ys),
      sym (ap (λ (k : ℕ). drop k xs) (sym many) ∙ ap (λ (zs : List ℕ). drop (length (take n b)) zs) c ∙ Rattle.std.proofs.Math.Seq.drop-append_seam (take n b)
          ys),
    )

given_none : (left left_now : Option (List ℕ)) → Keeps left left_now → IsGiven left left_now 0
given_none None left_now k = tt
given_none (Some xs) None k = absurd k
given_none (Some xs) (Some ys) k = (omega arith, k)

pub once_ok : (E : Type 0) (a : Ahead) (left left_now : Option (List ℕ)) (asks asks_now : Option (List Ask)) (n : ℕ) (b : List ℕ) → a.next ≡ a.end
    → a.ended ≡ false → NotesAsk {E = E} asks asks_now (Ok n) → Consumes left left_now (take n b) → n ≤ length b → AsksOnce a left left_now asks asks_now
once_ok E a left left_now asks asks_now n b empty open_yet noted consumed le =
    record { empty = empty; open_yet = open_yet; count = n; noted = noted_ok E asks asks_now n noted; given = given_ok left left_now n b consumed le }

pub once_err : {E : Type 0} (a : Ahead) (left left_now : Option (List ℕ)) (asks asks_now : Option (List Ask)) (e : E) → a.next ≡ a.end → a.ended ≡ false
    → NotesAsk asks asks_now (Err e) → Keeps left left_now → AsksOnce a left left_now asks asks_now
once_err a left left_now asks asks_now e empty open_yet noted kept =
    record { empty = empty; open_yet = open_yet; count = 0; noted = noted_err asks asks_now e noted; given = given_none left left_now kept }

-- the calls so far came where bytes were wanted, and what they gave is what is gone
pub record Placed (p : IlProgram) (turns : ℕ) (old now : List Ask) (left : Option (List ℕ)) (bytes : List ℕ) : Type 0 where
  pub added : List Ask
  pub grew : now ≡ old ++ added
  pub wanted : AreWanted p turns bytes 0 added
  pub is_left : left ≡ Some (drop (given added) bytes)

abbrev pub PlacedIfTold : IlProgram → ℕ → Option (List Ask) → Option (List Ask) → Option (List ℕ) → List ℕ → Type 0
PlacedIfTold p turns None now left bytes = ⊤
PlacedIfTold p turns (Some old) None left bytes = ⊥
PlacedIfTold p turns (Some old) (Some now) left bytes = Placed p turns old now left bytes

placed_first : (p : IlProgram) (turns : ℕ) (asks : Option (List Ask)) (left : Option (List ℕ)) (bytes : List ℕ) → left ≡ Some bytes
    → PlacedIfTold p turns asks asks left bytes
placed_first p turns None left bytes e = tt
placed_first p turns (Some xs) left bytes e = record { added = []; grew = sym (append-nil xs); wanted = tt; is_left = e }

pub placed_start : (p : IlProgram) (turns : ℕ) (asks : Option (List Ask)) (left : Option (List ℕ))
    → IfTold left (λ bytes. PlacedIfTold p turns asks asks left bytes)
placed_start p turns asks None = tt
placed_start p turns asks (Some bytes) = placed_first p turns asks (Some bytes) bytes refl

pub placed_all : (p : IlProgram) (turns : ℕ) (old now : Option (List Ask)) (left : Option (List ℕ)) (bytes : List ℕ) → PlacedIfTold p turns old now left bytes
    → AsksWhereWanted p turns old now bytes
placed_all p turns None now left bytes h = tt
placed_all p turns (Some old) None left bytes h = absurd h
placed_all p turns (Some old) (Some now) left bytes h = record { added = h.added; grew = h.grew; wanted = h.wanted }

wanted_first : (p : IlProgram) (turns : ℕ) (asks : Option (List Ask)) (bytes : List ℕ) → AsksWhereWanted p turns asks asks bytes
wanted_first p turns None bytes = tt
wanted_first p turns (Some xs) bytes = record { added = []; grew = sym (append-nil xs); wanted = tt }

pub wanted_start : (p : IlProgram) (turns : ℕ) (asks : Option (List Ask)) (left : Option (List ℕ)) → IfTold left (AsksWhereWanted p turns asks asks)
wanted_start p turns asks None = tt
wanted_start p turns asks (Some bytes) = wanted_first p turns asks bytes

given_more : (xs : List Ask) (a : Ask) → given (xs ++ a ∷ []) ≡ given xs + bytes_given a.gave
given_more [] a = omega arith
given_more (x ∷ xs) a = let more = given_more xs a in omega (arith, more)

module _ (p : IlProgram) (turns : ℕ) (bytes : List ℕ) where
  wanted_more : (n : ℕ) (xs : List Ask) (a : Ask) → AreWanted p turns bytes n xs → Wants p turns (take (n + given xs) bytes)
      → AreWanted p turns bytes n (xs ++ a ∷ [])
  wanted_more n [] a h w = (subst (λ (k : ℕ). Wants p turns (take k bytes)) (add-zero n) w, tt)
  wanted_more n (x ∷ xs) a h w = (h.0, wanted_more (n + bytes_given x.gave) xs a h.1 (subst (λ (k : ℕ). Wants p turns (take k bytes)) (omega arith) w))

  once_more : (old asks : List Ask) (asks_now : Option (List Ask)) (left left_now : Option (List ℕ)) (n : ℕ) → (h : Placed p turns old asks left bytes)
      → Wants p turns (take (given h.added) bytes) → NotesGiven (Some asks) asks_now n → IsGiven left left_now n
      → PlacedIfTold p turns (Some old) asks_now left_now bytes
  once_more old asks None left left_now n h w noted gone = absurd noted
  once_more old asks (Some now) None left_now n h w noted gone = absurd (none-some _ h.is_left)
  once_more old asks (Some now) (Some xs) None n h w noted gone = absurd gone
  once_more old asks (Some now) (Some xs) (Some ys) n h w noted gone =
      let a : Ask = noted.0 in
      let is_xs : xs ≡ drop (given h.added) bytes = same_Some _ _ h.is_left in
      record {
        added = h.added ++ a ∷ [];
        grew = noted.1 ∙ ap (λ (l : List Ask). l ++ a ∷ []) h.grew ∙ append_assoc old h.added (a ∷ []);
        wanted = wanted_more 0 h.added a h.wanted (subst (λ (k : ℕ). Wants p turns (take k bytes)) (sym (zero-add (given h.added))) w);
        is_left = ap Some (gone.1 ∙ ap (λ (zs : List ℕ). drop n zs) is_xs ∙ drop-drop n (given h.added) bytes ∙ ap (λ (k : ℕ). drop k bytes)
            (ap (λ (k : ℕ). given h.added + k) (sym noted.2) ∙ sym (given_more h.added a)));
      }

  -- what was used is what was given
  used_given : (used rest : List ℕ) (n : ℕ) → bytes ≡ used ++ rest → rest ≡ drop n bytes → used ≡ take n bytes
  used_given used rest n split is = append_cancel_right used (take n bytes) rest
      (sym split ∙ sym (take-append-drop n bytes) ∙ ap (λ (zs : List ℕ). take n bytes ++ zs) (sym is))

  wants_here : (t : Tables) (m : Machine) (a : Ahead) (left : Option (List ℕ)) (n register : ℕ) → IsTabled p t
      → Using p t turns m (prepend_known (ahead a) left) bytes → ComesToGet p t m register → a.next ≡ a.end → left ≡ Some (drop n bytes)
      → Wants p turns (take n bytes)
  wants_here t m a left n register tabled u comes empty e =
      let known : prepend_known (ahead a) left ≡ Some (drop n bytes) = ap (λ (xs : List ℕ). prepend_known xs left) (empty_ahead a empty) ∙ none_ahead left ∙ e
      in
      subst (λ (xs : List ℕ). Wants p turns xs) (used_given u.used u.rest n u.split (same_Some _ _ (sym u.is_rest ∙ known)))
      (record {
        tables = t;
        machine = comes.machine;
        tabled = tabled;
        sound = comes.way.sound;
        register = register;
        output = u.output;
        calls = u.calls;
        next =
            comes.next;
        alike = λ more. u.alike more ∙ comes.way.same more u.output u.calls;
      })

  -- a round keeps this
  pub placed_more : (t : Tables) (m : Machine) (a : Ahead) (old asks asks_now : Option (List Ask)) (left left_now : Option (List ℕ)) → IsTabled p t
      → (a.ended ≡ false → Using p t turns m (prepend_known (ahead a) left) bytes)
      → PlacedIfTold p turns old asks left bytes → AsksAtGet p t m a left left_now asks asks_now → PlacedIfTold p turns old asks_now left_now bytes
  placed_more t m a old asks asks_now left left_now tabled u h (inl same) =
      subst (λ (o : Option (List Ask)). PlacedIfTold p turns old o left_now bytes) (sym same.1)
      (subst (λ (o : Option (List ℕ)). PlacedIfTold p turns old asks o bytes) (sym same.0) h)
  placed_more t m a None asks asks_now left left_now tabled u h (inr once) = tt
  placed_more t m a (Some old) None asks_now left left_now tabled u h (inr once) = absurd h
  placed_more t m a (Some old) (Some asks) asks_now left left_now tabled u h (inr once) =
      once_more old asks asks_now left left_now once.1.count h (wants_here t m a left (given h.added) once.0.0 tabled (u once.1.open_yet) once.0.1 once.1.empty
      h.is_left) once.1.noted once.1.given
