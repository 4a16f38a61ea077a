-- From what a run came to, to what `runil` promises.
use Rattle.std.proofs.Common.{◌≡◌, ℕ, ◌⊎◌, List, Option, Some, Result, Ok, Err, refl, sym, ◌∙◌, ap, subst, inl, inr}
use Rattle.std.specs.Prelude.{MatchResult}
use Rattle.hlo_words.specs.Settings.{IsRunIlSettings}
use Rattle.hlo_words.specs.declared.settings.RunIlSettings.{RunIlSettings}
use Rattle.hlo_words.specs.declared.settings.WordsFault.{WordsFault}
use Rattle.hlo_words.specs.declared.settings.WordsFault.TheVariants as words_fault
use Rattle.hlo_words.proofs.Same.{same_runil}
use Rattle.il_core.specs.declared.program.IlProgram.{IlProgram}
use Rattle.il_core.specs.Meaning.{Run, il_run}
use Rattle.il_run.specs.declared.ending.Ending.{Ending}
use Rattle.il_run.specs.Machine.{ending_of}
use Rattle.il_run.specs.Run.{EndsAs, IfTold}
use Rattle.outside.specs.Faults.{Rose}
use Rattle.outside.specs.Told.{Told, Holds}
use Rattle.hlo_cmd.specs.Messages.{ending_status, refusal_status, words_refusal}
use Rattle.hlo_cmd.specs.RunIl.{ComesTo, HasNoSettings, HoldsProgram, HoldsProgramFault, IsOnlyProgramText, IsProgramText, IsRunIlCause, RunIlPromise}
use Rattle.hlo_cmd.specs.RunIl.{RunsToEnd, outcome_status}
use Rattle.hlo_cmd.specs.declared.refusal.Refusal.{Refusal}
use Rattle.hlo_cmd.specs.declared.refusal.Refusal.TheVariants.{Usage, Module, Link, Profile, Text, CannotRead, CannotWrite, Repository, Damaged}
use Rattle.hlo_cmd.specs.declared.refusal.Refusal.TheVariants.{Unreadable, Unfit, TooSmall, CannotReadInput, Memory}
use Rattle.hlo_cmd.specs.declared.refusal.TextFault.{TextFault}
use Rattle.hlo_cmd.proofs.Endings.{same_status}

same_some : {A : Type 0} {x y : A} → Some x ≡ Some y → x ≡ y
same_some e = cc

-- what a file that is told holds
held_text : (told : Told) (bytes : List ℕ) (p : IlProgram) → told ≡ Holds bytes → HoldsProgram told p → IsOnlyProgramText bytes p
held_text told bytes p e held = subst (λ t. HoldsProgram t p) e held

no_fault : (told : Told) (bytes : List ℕ) (p : IlProgram) (fault : TextFault) → told ≡ Holds bytes → IsProgramText bytes p → HoldsProgramFault told fault → ⊥
no_fault told bytes p fault e text held = let h = subst (λ t. HoldsProgramFault t fault) e held in h.none p text

module _ (name : List ℕ) (told : Told) (turns shelf shelf_now : ℕ) (left left_now : Option (List ℕ)) (input input_now : ℕ)
    (before after : Option (List ℕ)) (out out_now : ℕ) where
  Came : Result Ending Refusal → Type 0
  Came o = MatchResult o (RunsToEnd told turns left before after)
      (λ r. IsRunIlCause r name told turns shelf shelf_now left left_now input input_now before after out out_now)

  module _ (bytes : List ℕ) (is_told : told ≡ Holds bytes) (quiet : Rose shelf shelf_now → ⊥) where
    complete_outcome : (given output : List ℕ) (p : IlProgram) (e : Ending) → IsProgramText bytes p → left ≡ Some given
        → il_run p given turns ≡ Some (record { output = output; ending = ending_of e })
        → (Rose input input_now → ⊥) → (Rose out out_now → ⊥) → (o : Result Ending Refusal) → Came o → (outcome_status o ≡ ending_status e)
        ⊎ (outcome_status o ≡ 10)
    unfolding Came
    complete_outcome given output p e text is_left run calm calm_out (Ok d) h =
        let same : h.program ≡ p = (held_text told bytes h.program is_told h.held).only p text in
        let ends : EndsAs h.program turns d before after given = subst (λ l. IfTold l (EndsAs h.program turns d before after)) is_left h.ends in
        let both = sym ends.run ∙ ap (λ q. il_run q given turns) same ∙ run in
        inl (same_status d e (ap (λ (r : Run). r.ending) (same_some both)))
    complete_outcome given output p e text is_left run calm calm_out (Err Usage) h = absurd h
    complete_outcome given output p e text is_left run calm calm_out (Err (Module file fault)) h = absurd h
    complete_outcome given output p e text is_left run calm calm_out (Err (Link fault)) h = absurd h
    complete_outcome given output p e text is_left run calm calm_out (Err (Profile line)) h = absurd h
    complete_outcome given output p e text is_left run calm calm_out (Err (Text fault)) h = absurd (no_fault told bytes p fault is_told text h.0)
    complete_outcome given output p e text is_left run calm calm_out (Err (CannotRead file)) h = absurd (quiet h.1)
    complete_outcome given output p e text is_left run calm calm_out (Err CannotWrite) h = absurd (calm_out h.0)
    complete_outcome given output p e text is_left run calm calm_out (Err Repository) h = absurd h
    complete_outcome given output p e text is_left run calm calm_out (Err (Damaged place kept found)) h = absurd h
    complete_outcome given output p e text is_left run calm calm_out (Err (Unreadable place)) h = absurd h
    complete_outcome given output p e text is_left run calm calm_out (Err (Unfit pid)) h = absurd h
    complete_outcome given output p e text is_left run calm calm_out (Err (TooSmall pid need limit)) h = absurd h
    complete_outcome given output p e text is_left run calm calm_out (Err CannotReadInput) h = absurd (calm h.0)
    complete_outcome given output p e text is_left run calm calm_out (Err Memory) h = inr refl

    refused_outcome : ((p : IlProgram) → IsProgramText bytes p → ⊥) → (o : Result Ending Refusal) → Came o → (outcome_status o ≡ 14) ⊎ (outcome_status o ≡ 10)
    unfolding Came
    refused_outcome none (Ok d) h = absurd (none h.program (held_text told bytes h.program is_told h.held).text)
    refused_outcome none (Err Usage) h = absurd h
    refused_outcome none (Err (Module file fault)) h = absurd h
    refused_outcome none (Err (Link fault)) h = absurd h
    refused_outcome none (Err (Profile line)) h = absurd h
    refused_outcome none (Err (Text fault)) h = inl refl
    refused_outcome none (Err (CannotRead file)) h = absurd (quiet h.1)
    refused_outcome none (Err CannotWrite) h = absurd (none h.1.program (held_text told bytes h.1.program is_told h.1.held).text)
    refused_outcome none (Err Repository) h = absurd h
    refused_outcome none (Err (Damaged place kept found)) h = absurd h
    refused_outcome none (Err (Unreadable place)) h = absurd h
    refused_outcome none (Err (Unfit pid)) h = absurd h
    refused_outcome none (Err (TooSmall pid need limit)) h = absurd h
    refused_outcome none (Err CannotReadInput) h = absurd (none h.1.program (held_text told bytes h.1.program is_told h.1.held).text)
    refused_outcome none (Err Memory) h = inr refl

either_is : (s t m n : ℕ) → s ≡ t → (t ≡ m) ⊎ (t ≡ n) → (s ≡ m) ⊎ (s ≡ n)
either_is s t m n e (inl h) = inl (e ∙ h)
either_is s t m n e (inr h) = inr (e ∙ h)

-- words that gave no settings have none, or memory ran out
none_or_memory : (words : List (List ℕ)) (before after : Option (List ℕ)) (Said : List ℕ → Type 0) (status : ℕ) (f : WordsFault)
    → status ≡ refusal_status (words_refusal f)
    → (f ≡ words_fault.Usage → (s : RunIlSettings) → IsRunIlSettings words s → ⊥) → (s : RunIlSettings) → IsRunIlSettings words s → status ≡ 10
none_or_memory words before after Said status words_fault.Usage e none s asked = absurd (none refl s asked)
none_or_memory words before after Said status words_fault.Memory e none s asked = e

two_or_memory : (status : ℕ) (f : WordsFault) → status ≡ refusal_status (words_refusal f) → (status ≡ 2) ⊎ (status ≡ 10)
two_or_memory status words_fault.Usage e = inl e
two_or_memory status words_fault.Memory e = inr e

module _ (words : List (List ℕ)) (tells : List ℕ → Told) (shelf shelf_now : List ℕ
    → ℕ) (left left_now : Option (List ℕ)) (input input_now : ℕ) (before after : Option (List ℕ)) (out out_now : ℕ) (Said : List ℕ
    → Type 0) (status : ℕ) where
  Answer : Type 0
  Answer = HasNoSettings words before after Said status
      ⊎ ComesTo words tells shelf shelf_now left left_now input input_now before after out out_now Said status

  -- the outcome, by the settings that the words have
  came_to : (h : ComesTo words tells shelf shelf_now left left_now input input_now before after out out_now Said status) (s : RunIlSettings)
      → IsRunIlSettings words s
      → Came s.file (tells s.file) s.turns (shelf s.file) (shelf_now s.file) left left_now input input_now before after out out_now h.outcome
  unfolding Came
  came_to h s asked = subst
      (λ t. MatchResult h.outcome (RunsToEnd (tells t.file) t.turns left before after)
      (λ r. IsRunIlCause r t.file (tells t.file) t.turns (shelf t.file) (shelf_now t.file) left left_now input input_now before after out out_now))
      (same_runil words h.settings s h.asked asked) h.came

  complete : Answer → (s : RunIlSettings) (bytes given output : List ℕ) (p : IlProgram) (e : Ending) → IsRunIlSettings words s
      → tells s.file ≡ Holds bytes → IsProgramText bytes p
      → left ≡ Some given → il_run p given s.turns ≡ Some (record { output = output; ending = ending_of e })
      → (Rose (shelf s.file) (shelf_now s.file) → ⊥) → (Rose input input_now → ⊥) → (Rose out out_now → ⊥) → (status ≡ ending_status e) ⊎ (status ≡ 10)
  unfolding Answer
  complete (inl h) s bytes given output p e asked told text is_left run quiet calm calm_out = inr
      (none_or_memory words before after Said status h.fault h.status_is h.none s asked)
  complete (inr h) s bytes given output p e asked told text is_left run quiet calm calm_out =
      either_is status (outcome_status h.outcome) (ending_status e) 10 h.status_is
      (complete_outcome s.file (tells s.file) s.turns (shelf s.file)
      (shelf_now s.file) left left_now input input_now before after out out_now bytes told quiet given output p e text is_left run calm calm_out
      h.outcome (came_to h s asked))

  refuses : Answer → (s : RunIlSettings) (bytes : List ℕ) → IsRunIlSettings words s → tells s.file ≡ Holds bytes
      → ((p : IlProgram) → IsProgramText bytes p → ⊥)
      → (Rose (shelf s.file) (shelf_now s.file) → ⊥) → (status ≡ 14) ⊎ (status ≡ 10)
  unfolding Answer
  refuses (inl h) s bytes asked told none quiet = inr (none_or_memory words before after Said status h.fault h.status_is h.none s asked)
  refuses (inr h) s bytes asked told none quiet =
      either_is status (outcome_status h.outcome) 14 10 h.status_is
      (refused_outcome s.file (tells s.file) s.turns (shelf s.file)
      (shelf_now s.file) left left_now input input_now before after out out_now bytes told quiet none h.outcome (came_to h s asked))

  unusable : Answer → ((s : RunIlSettings) → IsRunIlSettings words s → ⊥) → (status ≡ 2) ⊎ (status ≡ 10)
  unfolding Answer
  unusable (inl h) none = two_or_memory status h.fault h.status_is
  unusable (inr h) none = absurd (none h.settings h.asked)

  -- what an answer promises
  pub promise : HasNoSettings words before after Said status
      ⊎ ComesTo words tells shelf shelf_now left left_now input input_now before after out out_now Said status
      → RunIlPromise words tells shelf shelf_now left left_now input input_now before after out out_now Said status
  unfolding Answer
  promise a = record { answered = a; complete = complete a; refuses = refuses a; unusable = unusable a }
