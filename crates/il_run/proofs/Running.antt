-- A run holds what the meaning has, from round to round.
use Rattle.std.proofs.Common.{◌≡◌, Bool, true, false, ℕ, suc, ◌+◌, List, [], ◌∷◌, ◌++◌, length, take, refl, ap, subst, sym, ◌∙◌, arith, append_assoc}
use Rattle.std.specs.Prelude.{Option, Some, None, IfSome, min, Result, Err}
use Rattle.std.specs.Io.KnownBytes.{Appends, Consumes, Keeps, append_known, prepend_known}
use Rattle.std.proofs.KnownBytes.{Appends-trans}
use Rattle.il_core.specs.declared.program.IlProgram.{IlProgram}
use Rattle.il_core.specs.Program.{main_pid}
use Rattle.il_core.specs.Meaning.{MadeCall, add_call, act_noting, at_start, calls_made, log_of, run_of}
use Rattle.il_run.specs.declared.machine.Machine.{Machine}
use Rattle.il_run.specs.declared.tables.Tables.{Tables}
use Rattle.il_run.specs.Machine.{to_come, IsTabled}
use Rattle.std.proofs.lemmas.List.{append-nil, append_cancel_left, take-append-le, take_min, drop_all, length-take}
use Rattle.il_run.specs.declared.ending.Ending.{Ending}
use Rattle.il_run.specs.Start.{Starts}
use Rattle.il_run.specs.Counts.{CountsMore, counts_of, no_counts}
use Rattle.il_run.specs.Run.{AreCounted, EndsAs, IfTold, Round, LastRound, StopsWithin, AsksFor, FailedAsk, Uses}
use Rattle.il_run.specs.declared.counter.Counter.{Counter}
use Rattle.il_run.proofs.Counting.{none_counted}
use Rattle.il_core.proofs.Logging.{run_noted}
use Rattle.il_run.specs.Streams.{GainsFront, ahead}
use Rattle.il_run.specs.declared.input.Ahead.{Ahead}
use Rattle.std.proofs.lemmas.Bool.{false≢true}
use Rattle.std.proofs.lemmas.Option.{none-some, same_Some}
use Rattle.il_core.proofs.Bound.{Grows}
use Rattle.il_core.specs.Valid.{IsProgram}
use Rattle.il_core.proofs.Running.{has_run}
use Rattle.il_run.proofs.Growing.{output_grows}

-- the sink took more
pub record Grown (old new : Option (List ℕ)) : Type 0 where
  pub more : List ℕ
  pub gained : Appends old new more

-- the counts are those of these calls
abbrev pub CountsSo : IlProgram → Option Counter → List MadeCall → Type 0
CountsSo p counter calls = IfSome counter (λ c. c.counts ≡ counts_of p calls)

-- the program on these bytes goes on as the machine does with the known input, after the output that was put out and the calls that were counted
pub record Holding (p : IlProgram) (t : Tables) (turns : ℕ) (m : Machine) (counter : Option Counter) (known taken now : Option (List ℕ))
    (waiting bytes : List ℕ) : Type 0 where
  pub rest : List ℕ
  pub output : List ℕ
  pub calls : List MadeCall
  pub is_rest : known ≡ Some rest
  pub is_out : Appends taken (append_known now waiting) output
  pub counts : CountsSo p counter calls
  pub same : act_noting add_call p (main_pid p.shapes) [] (at_start [] p bytes turns) ≡ to_come p t m rest output calls
  pub grown : Grown taken now

counts_go : (p : IlProgram) (old new : Option Counter) (made calls : List MadeCall) → CountsMore p old new made → CountsSo p old calls
    → CountsSo p new (made ++ calls)
counts_go p None None made calls h c = tt
counts_go p None (Some new) made calls h c = absurd h
counts_go p (Some old) None made calls h c = absurd h
counts_go p (Some old) (Some new) made calls h c = h.counts calls c

pub round_holds : (p : IlProgram) (t : Tables) (turns : ℕ) (old new : Machine) (counter counter_now : Option Counter)
    (known known_now taken now after : Option (List ℕ)) (waiting waiting_now bytes : List ℕ) (ended : Bool)
    → Holding p t turns old counter known taken now waiting bytes
    → Round p t old new counter counter_now known known_now (append_known now waiting) (append_known after waiting_now) ended → GainsFront now after waiting
    → Holding p t turns new counter_now known_now taken after waiting_now bytes
round_holds p t turns old new counter counter_now known known_now taken now after waiting waiting_now bytes ended h r gains =
    let g = r.goes h.rest h.is_rest in
    record {
      rest = g.left;
      output = h.output ++ g.out;
      calls = r.made ++ h.calls;
      is_rest = g.is_left;
      is_out = Appends-trans taken (append_known now waiting) (append_known after waiting_now) h.output g.out h.is_out g.is_out;
      counts = counts_go p counter counter_now r.made h.calls r.counted h.counts;
      same = h.same ∙ g.same h.output h.calls;
      grown = record {
        more = h.grown.more ++ take gains.count waiting;
        gained = Appends-trans taken now after h.grown.more (take gains.count waiting)
            h.grown.gained gains.gained;
      };
    }

-- what waits is part of what was put out
flushed : (taken now after : Option (List ℕ)) (waiting output : List ℕ) → Appends taken (append_known now waiting) output → Appends now after waiting
    → Appends taken after output
flushed None now after waiting output h f = tt
flushed (Some xs) None after waiting output h f = absurd h
flushed (Some xs) (Some ys) None waiting output h f = absurd f
flushed (Some xs) (Some ys) (Some zs) waiting output h f = f ∙ h

pub round_ends : (p : IlProgram) (t : Tables) (turns : ℕ) (m : Machine) (e : Ending) (counter : Option Counter) (known taken now after : Option (List ℕ))
    (waiting bytes : List ℕ)
    → Holding p t turns m counter known taken now waiting bytes → LastRound p t m e now after waiting → EndsAs p turns e taken after bytes
round_ends p t turns m e counter known taken now after waiting bytes h l = record {
  output = h.output;
  run = sym (run_noted p bytes turns) ∙ ap run_of h.same ∙ (l.run h.rest h.output h.calls).run;
  gained = flushed taken now after waiting h.output h.is_out l.took;
}

counted_so : (p : IlProgram) (turns : ℕ) (counter : Option Counter) (bytes : List ℕ) (calls : List MadeCall) → CountsSo p counter calls
    → calls_made p bytes turns ≡ calls → AreCounted p turns counter bytes
counted_so p turns None bytes calls h e = tt
counted_so p turns (Some c) bytes calls h e = h ∙ ap (counts_of p) (sym e)

-- at the end the counts are those of all calls
pub round_counts : (p : IlProgram) (t : Tables) (turns : ℕ) (m : Machine) (e : Ending) (counter counter_now : Option Counter)
    (known taken now after : Option (List ℕ)) (waiting bytes : List ℕ)
    → Holding p t turns m counter known taken now waiting bytes → LastRound p t m e now after waiting → counter_now ≡ counter
    → AreCounted p turns counter_now bytes
round_counts p t turns m e counter counter_now known taken now after waiting bytes h l kept =
    subst (λ (o : Option Counter). AreCounted p turns o bytes) (sym kept)
    (counted_so p turns counter bytes h.calls h.counts (ap (log_of []) h.same ∙ (l.run h.rest h.output h.calls).made))

pub nothing_ahead : (xs : List ℕ) (left : Option (List ℕ)) (bytes : List ℕ) → xs ≡ [] → left ≡ Some bytes → prepend_known xs left ≡ Some bytes
nothing_ahead xs left bytes e l = ap (λ (ys : List ℕ). prepend_known ys left) e ∙ ap (λ (o : Option (List ℕ)). prepend_known [] o) l

pub nothing_waits : (taken : Option (List ℕ)) (xs : List ℕ) → xs ≡ [] → Appends taken (append_known taken xs) []
nothing_waits None xs e = tt
nothing_waits (Some ys) xs e = ap (λ (zs : List ℕ). ys ++ zs) e

pub Appends_nil : (taken : Option (List ℕ)) → Appends taken taken []
Appends_nil None = tt
Appends_nil (Some xs) = sym (append-nil xs)

-- at the start nothing is put out
counts_first : (p : IlProgram) (counter : Option Counter) → IfSome counter (λ c. c.counts ≡ no_counts p) → CountsSo p counter []
counts_first p None h = tt
counts_first p (Some c) h = h ∙ none_counted p

pub starts_holding : (p : IlProgram) (t : Tables) (turns : ℕ) (m : Machine) (counter : Option Counter) (known taken : Option (List ℕ)) (waiting bytes : List ℕ)
    → Starts p t turns m → IfSome counter (λ c. c.counts ≡ no_counts p) → known ≡ Some bytes → waiting ≡ []
    → Holding p t turns m counter known taken taken waiting bytes
starts_holding p t turns m counter known taken waiting bytes s zero_counts e none =
    record {
      rest = bytes;
      output = [];
      calls = [];
      is_rest = e;
      is_out = nothing_waits taken waiting none;
      counts = counts_first p counter zero_counts;
      same =
          sym (s.same bytes);
      grown = record { more = []; gained = Appends_nil taken };
    }

pub gains_nothing : (taken : Option (List ℕ)) (waiting : List ℕ) → GainsFront taken taken waiting
gains_nothing None waiting = record { count = 0; gained = tt }
gains_nothing (Some xs) waiting = record { count = 0; gained = sym (append-nil xs) }

take_behind : (g ys : List ℕ) (k : ℕ) → take (length g + k) (g ++ ys) ≡ g ++ take k ys
take_behind [] ys k = ap (λ (n : ℕ). take n ys) (let e : 0 + k ≡ k = omega arith in e)
take_behind (x ∷ xs) ys k = ap (λ (n : ℕ). take n (x ∷ (xs ++ ys))) (let e : suc (length xs) + k ≡ suc (length xs + k) = omega arith in e) ∙ ap
    (λ (zs : List ℕ). x ∷ zs) (take_behind xs ys k)

front_of : (g waiting more : List ℕ) (k : ℕ) → GainsFront (Some []) (Some (g ++ take k waiting)) (g ++ waiting ++ more)
front_of g waiting more k = record {
  count = length g + min k (length waiting);
  gained = sym (ap (λ (zs : List ℕ). take (length g + min k (length waiting)) zs) (append_assoc g waiting more) ∙ take_behind g (waiting ++ more)
      (min k (length waiting))
      ∙ ap (λ (zs : List ℕ). g ++ zs) (take-append-le (min k (length waiting)) waiting more (omega arith) ∙ take_min k waiting));
}

front_stays : (taken now after : Option (List ℕ)) (waiting output g whole : List ℕ) (k : ℕ) → Appends taken now g
    → Appends taken (append_known now waiting) output → Appends now after (take k waiting) → Grows output whole → GainsFront taken after whole
front_stays None now after waiting output g whole k a b c h = record { count = 0; gained = tt }
front_stays (Some xs) None after waiting output g whole k a b c h = absurd a
front_stays (Some xs) (Some ys) None waiting output g whole k a b c h = absurd c
front_stays (Some xs) (Some ys) (Some zs) waiting output g whole k a b c h =
    let out : output ≡ g ++ waiting = append_cancel_left xs output (g ++ waiting) (sym b ∙ ap (λ (l : List ℕ). l ++ waiting) a ∙ append_assoc xs g waiting) in
    let all : whole ≡ g ++ waiting ++ h.more = h.same ∙ ap (λ (l : List ℕ). l ++ h.more) out in
    let f = front_of g waiting h.more k in
    record {
      count = f.count;
      gained = c ∙ ap (λ (l : List ℕ). l ++ take k waiting) a ∙ append_assoc xs g (take k waiting) ∙ ap (λ (l : List ℕ). xs ++ l)
          (f.gained ∙ ap (λ (l : List ℕ). take f.count l) (sym all));
    }

-- after a fault the sink has a front of the output
pub round_stops : (p : IlProgram) (t : Tables) (turns : ℕ) (m : Machine) (counter : Option Counter) (known taken now after : Option (List ℕ))
    (waiting bytes : List ℕ)
    → IsProgram p → Holding p t turns m counter known taken now waiting bytes → GainsFront now after waiting → StopsWithin p turns taken after bytes
round_stops p t turns m counter known taken now after waiting bytes valid h g =
    let r = has_run p valid bytes turns in
    record {
      run = r.run;
      is_run = r.is;
      gained = front_stays taken now after waiting h.output h.grown.more r.run.output g.count h.grown.gained h.is_out g.gained
          (output_grows p t m h.rest h.output h.calls r.run (sym (ap run_of h.same) ∙ run_noted p bytes turns ∙ r.is));
    }

pub stops_first : (p : IlProgram) (turns : ℕ) (taken : Option (List ℕ)) (bytes : List ℕ) → IsProgram p → StopsWithin p turns taken taken bytes
stops_first p turns taken bytes valid = let r = has_run p valid bytes turns in record { run = r.run; is_run = r.is; gained = gains_nothing taken r.run.output }

pub if_told : (o : Option (List ℕ)) (P : List ℕ → Type 0) → ((bytes : List ℕ) → o ≡ Some bytes → P bytes) → IfTold o P
if_told None P h = tt
if_told (Some bytes) P h = h bytes refl

pub told_map : (o : Option (List ℕ)) (P Q : List ℕ → Type 0) → IfTold o P → ((bytes : List ℕ) → P bytes → Q bytes) → IfTold o Q
told_map None P Q a h = tt
told_map (Some bytes) P Q a h = h bytes a

pub told_both : (o : Option (List ℕ)) (C : Type 0) (P Q R : List ℕ → Type 0) → IfTold o P → (C → IfTold o Q)
    → ((bytes : List ℕ) → P bytes → (C → Q bytes) → R bytes) → IfTold o R
told_both None C P Q R a b h = tt
told_both (Some bytes) C P Q R a b h = h bytes a b

-- the bytes used so far, whatever follows them
pub record Using (p : IlProgram) (t : Tables) (turns : ℕ) (m : Machine) (known : Option (List ℕ)) (bytes : List ℕ) : Type 0 where
  pub used : List ℕ
  pub output : List ℕ
  pub calls : List MadeCall
  pub rest : List ℕ
  pub is_rest : known ≡ Some rest
  pub split : bytes ≡ used ++ rest
  pub alike : (more : List ℕ) → act_noting add_call p (main_pid p.shapes) [] (at_start [] p (used ++ more) turns) ≡ to_come p t m more output calls

pub starts_using : (p : IlProgram) (t : Tables) (turns : ℕ) (m : Machine) (known : Option (List ℕ)) (bytes : List ℕ) → Starts p t turns m → known ≡ Some bytes
    → Using p t turns m known bytes
starts_using p t turns m known bytes s e = record {
  used = [];
  output = [];
  calls = [];
  rest = bytes;
  is_rest = e;
  split = refl;
  alike = λ more. sym
      (s.same more);
}

record Left (known_now : Option (List ℕ)) (bs rest : List ℕ) : Type 0 where
  pub left : List ℕ
  pub is_left : known_now ≡ Some left
  pub split : rest ≡ bs ++ left

left_of : (known known_now : Option (List ℕ)) (bs rest : List ℕ) → Consumes known known_now bs → known ≡ Some rest → Left known_now bs rest
left_of None known_now bs rest c e = absurd (none-some rest e)
left_of (Some xs) None bs rest c e = absurd c
left_of (Some xs) (Some ys) bs rest c e = record { left = ys; is_left = refl; split = sym (same_Some xs rest e) ∙ c }

pub round_uses : (p : IlProgram) (t : Tables) (turns : ℕ) (old new : Machine) (made : List MadeCall) (known known_now : Option (List ℕ)) (bytes : List ℕ)
    → Using p t turns old known bytes → Uses p t old new made known known_now → Using p t turns new known_now bytes
round_uses p t turns old new made known known_now bytes h u =
    let l = left_of known known_now u.bytes h.rest u.consumed h.is_rest in
    record {
      used = h.used ++ u.bytes;
      output = h.output ++ u.out;
      calls = made ++ h.calls;
      rest = l.left;
      is_rest = l.is_left;
      split = h.split ∙ ap (λ (xs : List ℕ). h.used ++ xs) l.split ∙ sym (append_assoc h.used u.bytes l.left);
      alike = λ more. ap (λ (xs : List ℕ). act_noting add_call p (main_pid p.shapes) [] (at_start [] p xs turns)) (append_assoc h.used u.bytes more) ∙ h.alike
          (u.bytes ++ more) ∙ u.alike more h.output h.calls;
    }

kept_left : (xs left : Option (List ℕ)) (rest : List ℕ) → Keeps xs left → xs ≡ Some rest → left ≡ Some rest
kept_left None left rest k e = absurd (none-some rest e)
kept_left (Some xs) None rest k e = absurd k
kept_left (Some xs) (Some ys) rest k e = ap Some k ∙ e

pub none_ahead : (left : Option (List ℕ)) → prepend_known [] left ≡ left
none_ahead None = refl
none_ahead (Some xs) = refl

pub empty_ahead : (a : Ahead) → a.next ≡ a.end → ahead a ≡ []
empty_ahead a e = drop_all a.next (take a.end a.block.items) (omega (arith, length-take a.end a.block.items))

pub round_wants : (p : IlProgram) (t : Tables) (turns : ℕ) (m : Machine) (old new : Ahead) (known left : Option (List ℕ)) (bytes : List ℕ) → IsTabled p t
    → Using p t turns m known bytes → FailedAsk p t m old new known (prepend_known (ahead new) left) → AsksFor p turns left bytes
round_wants p t turns m old new known left bytes tabled h f = record {
  used = h.used;
  rest = h.rest;
  split = h.split;
  is_left = sym (ap (λ (xs : List ℕ). prepend_known xs left) (empty_ahead new f.at.now) ∙ none_ahead left) ∙ kept_left known (prepend_known (ahead new) left)
      h.rest f.kept h.is_rest;
  wants = record {
    tables = t;
    machine = f.comes.machine;
    tabled = tabled;
    sound = f.comes.way.sound;
    register = f.register;
    output = h.output;
    calls = h.calls;
    next = f.comes.next;
    alike = λ more. h.alike more ∙ f.comes.way.same more h.output h.calls;
  };
}

pub still_open : (a b : Bool) → (a ≡ true → b ≡ true) → b ≡ false → a ≡ false
still_open true b h e = absurd (false≢true (sym e ∙ h refl))
still_open false b h e = refl

pub same_fault : {T U E : Type 0} (a b : E) → ◌≡◌ {A = Result T E} (Err a) (Err b) → ◌≡◌ {A = Result U E} (Err a) (Err b)
same_fault a b e = let same : a ≡ b = cc in ap Err same
