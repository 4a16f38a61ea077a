-- A machine that runs on, with the bytes that it asks for and puts out.
use Rattle.std.proofs.Common.{◌≡◌, Bool, true, false, ℕ, List, [], ◌∷◌, refl, ap, subst, sym, ◌∙◌}
use Rattle.std.specs.Prelude.{Option, Some, None, IfSome, MatchOption, ⊤}
use Rattle.std.specs.Io.KnownBytes.{Appends, Consumes, IsAtEnd, Keeps}
use Rattle.std.proofs.lemmas.Bool.{false≢true}
use Rattle.std.proofs.lemmas.List.{append-nil}
use Rattle.il_core.specs.declared.program.IlProgram.{IlProgram}
use Rattle.il_core.specs.World.{first_byte, other_bytes}
use Rattle.il_core.specs.Meaning.{MadeCall, add_call}
use Rattle.il_run.specs.declared.machine.Machine.{Machine}
use Rattle.il_run.specs.declared.store.Store.{Store}
use Rattle.il_run.specs.declared.tables.Tables.{Tables}
use Rattle.il_run.specs.Machine.{routine_in, IsTabled, to_come, Calls, PutsOut, WantsByte, call_into}
use Rattle.il_run.specs.Plain.{SetsReg}
use Rattle.il_run.specs.Counts.{CountsMore, IsCounter}
use Rattle.il_run.specs.Run.{Round, Uses}
use Rattle.il_run.specs.declared.counter.Counter.{Counter}
use Rattle.il_run.proofs.Counting.{counts_none}
use Rattle.il_run.proofs.Arms.{sets_below}
use Rattle.il_run.proofs.Calls.{moved_sound}
use Rattle.il_run.proofs.Running.{Appends_nil}

uses_none : (known : Option (List ℕ)) → Consumes known known []
uses_none None = tt
uses_none (Some xs) = refl

pub call_round : (p : IlProgram) (t : Tables) (old new : Machine) (counter counter_now : Option Counter) (known put : Option (List ℕ)) (ended : Bool)
    → (h : Calls p t old new) → CountsMore p counter counter_now (call_into p new h.called ∷ [])
    → Round p t old new counter counter_now known known put put ended
call_round p t old new counter counter_now known put ended h k = record {
  sound = h.sound;
  less = h.less;
  made = call_into p new h.called ∷ [];
  counted = k;
  goes = λ rest e. record {
    left = rest;
    out = [];
    is_left = e;
    is_out = Appends_nil put;
    same = λ output calls. h.same rest output calls ∙ ap
        (λ (o : List ℕ). to_come p t new rest o (call_into p new h.called ∷ calls)) (sym (append-nil output));
  };
  uses = λ e. record {
    bytes = [];
    out = [];
    consumed = uses_none known;
    alike = λ more output calls. h.same more output calls ∙ ap
        (λ (o : List ℕ). to_come p t new more o (call_into p new h.called ∷ calls)) (sym (append-nil output));
  };
}

pub put_round : (p : IlProgram) (t : Tables) (old new : Machine) (counter : Option Counter) (known put put_now : Option (List ℕ)) (ended : Bool) (b : ℕ)
    → PutsOut p t old new b → IfSome counter (λ c. IsCounter p c) → Appends put put_now (b ∷ [])
    → Round p t old new counter counter known known put put_now ended
put_round p t old new counter known put put_now ended b h k a = record {
  sound = h.sound;
  less = h.less;
  made = [];
  counted = counts_none p counter k;
  goes = λ rest e. record { left = rest; out = b ∷ []; is_left = e; is_out = a; same = λ output calls. h.same rest output calls };
  uses = λ e. record { bytes = []; out = b ∷ []; consumed = uses_none known; alike = λ more output calls. h.same more output calls };
}

-- the byte that was given is the first one left, or the end
pub record Given (rest : List ℕ) (known_now : Option (List ℕ)) (v : ℕ) : Type 0 where
  pub first : v ≡ first_byte rest
  pub others : known_now ≡ Some (other_bytes rest)

given_some : (rest ys : List ℕ) (b v : ℕ) → v ≡ b → rest ≡ b ∷ ys → Given rest (Some ys) v
given_some rest ys b v e h = subst (λ (xs : List ℕ). Given xs (Some ys) v) (sym h) (record { first = e; others = refl })

given_none : (rest ys : List ℕ) (v : ℕ) → v ≡ 4294967295 → rest ≡ [] → ys ≡ rest → Given rest (Some ys) v
given_none rest ys v e none h = subst (λ (xs : List ℕ). Given rest (Some xs) v) (sym (h ∙ none))
    (subst (λ (xs : List ℕ). Given xs (Some []) v) (sym none) (record { first = e; others = refl }))

gives : (rest : List ℕ) (known_now : Option (List ℕ)) (byte : Option ℕ) (v : ℕ) → MatchOption byte (v ≡ 4294967295) (λ b. v ≡ b)
    → MatchOption byte (IsAtEnd (Some rest) × IsAtEnd known_now × Keeps (Some rest) known_now) (λ b. Consumes (Some rest) known_now (b ∷ []))
    → Given rest known_now v
gives rest None None v e h = absurd h.2
gives rest None (Some b) v e h = absurd h
gives rest (Some ys) None v e h = given_none rest ys v e h.0 h.2
gives rest (Some ys) (Some b) v e h = given_some rest ys b v e h

get_uses : (p : IlProgram) (t : Tables) (old new : Machine) (s : Store) (known known_now : Option (List ℕ)) (ended : Bool) (d v : ℕ) (byte : Option ℕ)
    → MatchOption byte (ended ≡ true) (λ b. ⊤) → WantsByte p t old new d → SetsReg new.store s d v
    → MatchOption byte (v ≡ 4294967295) (λ b. v ≡ b)
    → MatchOption byte (IsAtEnd known × IsAtEnd known_now × Keeps known known_now) (λ b. Consumes known known_now (b ∷ [])) → ended ≡ false
    → Uses p t old (record new { store = s }) [] known known_now
get_uses p t old new s known known_now ended d v None at_end h set word given e = absurd (false≢true (sym e ∙ at_end))
get_uses p t old new s known known_now ended d v (Some b) at_end h set word given e = record {
  bytes = b ∷ [];
  out = [];
  consumed = given;
  alike = λ more output calls. h.same (b ∷ more) output calls s (subst (λ (n : ℕ). SetsReg new.store s d n) word set) ∙ ap
      (λ (o : List ℕ). to_come p t (record new { store = s }) more o calls) (sym (append-nil output));
}

pub get_round : (p : IlProgram) (t : Tables) (tabled : IsTabled p t) (old new : Machine) (s : Store) (counter : Option Counter)
    (known known_now put : Option (List ℕ)) (ended : Bool) (d v : ℕ) (byte : Option ℕ) → IfSome counter (λ c. IsCounter p c)
    → MatchOption byte (ended ≡ true) (λ b. ⊤) → WantsByte p t old new d → SetsReg new.store s d v
    → MatchOption byte (v ≡ 4294967295) (λ b. v ≡ b)
    → MatchOption byte (IsAtEnd known × IsAtEnd known_now × Keeps known known_now) (λ b. Consumes known known_now (b ∷ []))
    → Round p t old (record new { store = s }) counter counter known known_now put put ended
get_round p t tabled old new s counter known known_now put ended d v byte k at_end h set word given = record {
  sound = moved_sound {S = List MadeCall} add_call p t tabled new h.sound s
      (sets_below new.store (routine_in p new.routine) t.objects.sizes.items h.sound.holds s d v set) new.block new.instr new.turns h.sound.place;
  less = h.less;
  made = [];
  counted = counts_none p counter k;
  goes = λ rest e.
      let g = gives rest known_now byte v word (subst (λ (o : Option (List ℕ)). MatchOption byte (IsAtEnd o × IsAtEnd known_now × Keeps o known_now)
      (λ b. Consumes o known_now (b ∷ []))) e given) in
      record {
        left = other_bytes rest;
        out = [];
        is_left = g.others;
        is_out = Appends_nil put;
        same = λ output calls. h.same rest output calls s (subst (λ (n : ℕ). SetsReg new.store s d n) g.first set) ∙ ap
            (λ (o : List ℕ). to_come p t (record new { store = s }) (other_bytes rest) o calls) (sym (append-nil output));
      };
  uses = get_uses p t old new s known known_now ended d v byte at_end h set word given;
}
