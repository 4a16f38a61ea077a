-- What `run` came to, and what it promises.
use Rattle.std.proofs.Common.{◌≡◌, ℕ, ◌⊎◌, false, List, Option, Some, None, nat_eq, refl, sym, ◌∙◌, ap, subst, inl, inr}
use Rattle.std.specs.Io.KnownBytes.{Appends, Keeps}
use Rattle.c_module.specs.Programs.{IsProgramOf}
use Rattle.c_module.specs.Told.{AreQuiet, AreRefused, AreWellFormedTexts}
use Rattle.c_module.specs.Verdict.{IsProgramCause, IsUnread, IsWant}
use Rattle.c_module.specs.declared.fault.FileFault.TheVariants as file_fault
use Rattle.c_module.specs.declared.fault.ProgramFault.{ProgramFault}
use Rattle.c_module.specs.declared.fault.ProgramFault.TheVariants.{File, Link, Memory}
use Rattle.c_typed.specs.Linked.{c90_run}
use Rattle.hlo_words.specs.declared.settings.RunSettings.{RunSettings}
use Rattle.hlo_words.specs.declared.settings.WordsFault.{WordsFault}
use Rattle.hlo_words.specs.declared.settings.WordsFault.TheVariants as words_fault
use Rattle.hlo_words.proofs.Same.{same_run}
use Rattle.il_core.specs.declared.program.IlProgram.{IlProgram}
use Rattle.il_core.specs.Meaning.{Run}
use Rattle.il_run.specs.declared.ending.Ending.{Ending}
use Rattle.il_run.specs.declared.ending.Ending.TheVariants.{Exit, Trapped, OutOfTurns}
use Rattle.il_run.specs.declared.ending.RunFault.{RunFault}
use Rattle.il_run.specs.declared.ending.RunFault.TheVariants as il_fault
use Rattle.il_run.specs.Machine.{ending_of}
use Rattle.il_run.specs.Run.{AsksFor, EndsAs, HasReason, IfTold, StopsWithin}
use Rattle.linker.specs.Linking.{refusal}
use Rattle.outside.specs.Told.{Told}
use Rattle.profile.specs.Counts.{flat_counts}
use Rattle.std.proofs.Math.Seq.{take-length}
use Rattle.std.proofs.Common.{length}
use Rattle.sym_tables.specs.Table.{Table}
use Rattle.hlo_cmd.specs.Messages.{ending_line, ending_status, program_refusal, refusal_line, refusal_status, run_refusal, words_refusal}
use Rattle.hlo_cmd.specs.Opt.{IsQuiet}
use Rattle.hlo_cmd.specs.Run.{AsksRun, AsksRunOf, IsEndingStatus, MeansEnding, MeansWithin, RunPromise, RunsWithin}
use Rattle.hlo_cmd.proofs.Endings.{same_status}
use Rattle.hlo_cmd.proofs.Opts.{not_quiet}
use Rattle.hlo_cmd.proofs.Sames.{one_program}
use Rattle.hlo_cmd.proofs.Verdicts.{IsLater, by_acceptance, by_fault, by_memory, by_words, not_both, want_is_memory}

-- the words ask for one list of files
same_files : (words f g : List (List ℕ)) → AsksRunOf words f → AsksRunOf words g → f ≡ g
same_files words f g (m, a) (n, b) = ap (λ (s : RunSettings). s.files) (same_run words _ _ a b)

pub if_told : (P Q : List ℕ → Type 0) (left : Option (List ℕ)) → ((bytes : List ℕ) → P bytes → Q bytes) → IfTold left P → IfTold left Q
if_told P Q None f h = tt
if_told P Q (Some bytes) f h = f bytes h

pub same_some : {A : Type 0} {x y : A} → Some x ≡ Some y → x ≡ y
same_some e = cc

pub not_ended : {A : Type 0} (status n : ℕ) → status ≡ n → nat_eq n 0 ≡ false → nat_eq n 12 ≡ false → nat_eq n 13 ≡ false → IsEndingStatus status → A
not_ended status n e a b c (inl h) = not_both status n 0 e h a
not_ended status n e a b c (inr (inl h)) = not_both status n 12 e h b
not_ended status n e a b c (inr (inr h)) = not_both status n 13 e h c

-- what a status says of itself
module _ (status : ℕ) where
  pub fault_status : (fault : ProgramFault) → status ≡ refusal_status (program_refusal fault) → (status ≡ 3) ⊎ ((status ≡ 5) ⊎ (status ≡ 10))
  fault_status (File file (file_fault.NoModule fault)) e = inl e
  fault_status (File file file_fault.CannotRead) e = inr (inl e)
  fault_status (File file file_fault.Memory) e = inr (inr e)
  fault_status (Link fault) e = inl e
  fault_status Memory e = inr (inr e)

  pub isnt : {A : Type 0} (n : ℕ) → (status ≡ 3) ⊎ ((status ≡ 5) ⊎ (status ≡ 10)) → status ≡ n → nat_eq 3 n ≡ false → nat_eq 5 n ≡ false
      → nat_eq 10 n ≡ false → A
  isnt n (inl e) h a b c = not_both status 3 n e h a
  isnt n (inr (inl e)) h a b c = not_both status 5 n e h b
  isnt n (inr (inr e)) h a b c = not_both status 10 n e h c

  pub isnt_ended : {A : Type 0} → (status ≡ 3) ⊎ ((status ≡ 5) ⊎ (status ≡ 10)) → IsEndingStatus status → A
  isnt_ended (inl e) h = not_ended status 3 e refl refl refl h
  isnt_ended (inr (inl e)) h = not_ended status 5 e refl refl refl h
  isnt_ended (inr (inr e)) h = not_ended status 10 e refl refl refl h

  pub known_fault : (status ≡ 3) ⊎ ((status ≡ 5) ⊎ (status ≡ 10)) → (status ≡ 3) ⊎ ((status ≡ 5) ⊎ ((status ≡ 6) ⊎ ((status ≡ 10) ⊎ (status ≡ 11))))
  known_fault (inl e) = inl e
  known_fault (inr (inl e)) = inr (inl e)
  known_fault (inr (inr e)) = inr (inr (inr (inl e)))

  -- an ending's status
  pub is_ending : (e : Ending) → status ≡ ending_status e → IsEndingStatus status
  is_ending (Exit w) e = inl e
  is_ending (Trapped t) e = inr (inl e)
  is_ending OutOfTurns e = inr (inr e)

  pub is_later : IsEndingStatus status → IsLater status
  is_later (inl e) = inl e
  is_later (inr (inl e)) = inr (inr (inr (inl e)))
  is_later (inr (inr e)) = inr (inr (inr (inr e)))

  pub isnt_ending : {A : Type 0} (n : ℕ) → IsEndingStatus status → status ≡ n → nat_eq 0 n ≡ false → nat_eq 12 n ≡ false → nat_eq 13 n ≡ false → A
  isnt_ending n (inl e) h a b c = not_both status 0 n e h a
  isnt_ending n (inr (inl e)) h a b c = not_both status 12 n e h b
  isnt_ending n (inr (inr e)) h a b c = not_both status 13 n e h c

  pub isnt_quiet : {A : Type 0} → IsEndingStatus status → IsQuiet status → A
  isnt_quiet (inl e) q = not_quiet status 0 e refl refl refl q
  isnt_quiet (inr (inl e)) q = not_quiet status 12 e refl refl refl q
  isnt_quiet (inr (inr e)) q = not_quiet status 13 e refl refl refl q

module _ (words : List (List ℕ)) (tells : List ℕ → Told) (shelf shelf_now : List ℕ
    → ℕ) (left left_now : Option (List ℕ)) (input input_now : ℕ) (before after : Option (List ℕ)) (out out_now : ℕ) (Said : List ℕ
    → Type 0) (status : ℕ) where
  pub run_words : (syms : Table) (fault : WordsFault) → status ≡ refusal_status (words_refusal fault) → Said (refusal_line syms (words_refusal fault))
      → (fault ≡ words_fault.Usage → (s : RunSettings) → AsksRun words s.turns s.files → ⊥) → Keeps before after
      → RunPromise words tells shelf shelf_now left left_now input input_now before after out out_now Said status
  run_words syms words_fault.Usage e said none kept = record {
    known = inr (inl e);
    ended = λ h. not_ended status 2 e refl refl refl h;
    unwritten = λ six. not_both status 2 6 e six refl;
    no_input = λ eleven. not_both status 2 11 e eleven refl;
    front = inl kept;
    quiet = λ q. kept;
    modules = by_words (AsksRunOf words) tells shelf shelf_now Said status syms words_fault.Usage e said
        (λ u files asked. none u (record { turns = asked.0; files = files }) asked.1);
    complete = λ turns files names given output ending asked formed links told run quiet calm calm_out. absurd
        (none refl (record { turns = turns; files = files }) asked);
  }
  run_words syms words_fault.Memory e said none kept = record {
    known = inr (inr (inr (inr (inr (inl e)))));
    ended = λ h. not_ended status 10 e refl refl refl h;
    unwritten = λ six. not_both status 10 6 e six refl;
    no_input = λ eleven. not_both status 10 11 e eleven refl;
    front = inl kept;
    quiet = λ q. kept;
    modules = by_memory (AsksRunOf words) tells shelf shelf_now Said status e said;
    complete = λ turns files names given output ending asked formed links told run quiet calm calm_out. inr e;
  }

  module _ (turns : ℕ) (files : List (List ℕ)) (asked : AsksRun words turns files) where
    -- where it is so of these settings, it is so of all that the words say
    of_asked : (Q : ℕ → List (List ℕ) → Type 0) → Q turns files → (m : ℕ) (fs : List (List ℕ)) → AsksRun words m fs → Q m fs
    of_asked Q h m fs also = subst (λ (s : RunSettings). Q s.turns s.files)
        (same_run words (record { turns = turns; files = files }) (record { turns = m; files = fs }) asked also) h

    pub run_fault : (syms : Table) (fault : ProgramFault) → status ≡ refusal_status (program_refusal fault) → Said (refusal_line syms (program_refusal fault))
        → IsProgramCause fault files tells shelf shelf_now syms → (AreQuiet shelf shelf_now files → IsUnread fault → ⊥)
        → ((names : Table) → AreWellFormedTexts tells files names → refusal names ≡ None → AreQuiet shelf shelf_now files → IsWant fault)
        → Keeps before after → RunPromise words tells shelf shelf_now left left_now input input_now before after out out_now Said status
    run_fault syms fault e said cause reads complete kept = record {
      known = inr (inr (known_fault status (fault_status status fault e)));
      ended = λ h. isnt_ended status (fault_status status fault e) h;
      unwritten = λ six. isnt status 6 (fault_status status fault e) six refl refl refl;
      no_input = λ eleven. isnt status 11 (fault_status status fault e) eleven refl refl refl;
      front = inl kept;
      quiet = λ q. kept;
      modules = by_fault (AsksRunOf words) tells shelf shelf_now Said status (same_files words) files (turns, asked) syms fault e said cause reads;
      complete = λ m fs names given output ending also formed links told run quiet calm calm_out.
          let at = same_files words fs files (m, also) (turns, asked) in
          inr (e ∙ want_is_memory fault
          (complete names (subst (λ l. AreWellFormedTexts tells l names) at formed) links (subst (AreQuiet shelf shelf_now) at quiet)));
    }

    module _ (program : IlProgram) (syms : Table) (from : IsProgramOf flat_counts tells files program syms) (never : AreRefused tells files → ⊥) where
      -- what the program does, the modules mean
      within : IfTold left (StopsWithin program turns before after) → RunsWithin tells left before after files turns
      within h = record {
        modules = from.modules;
        ts = from.ts;
        syms = syms;
        accepted = from.accepted;
        front = if_told (StopsWithin program turns before after) (MeansWithin from.ts syms turns before after) left
            (λ bytes stops. record { run = stops.run; is_run = sym (from.runs bytes turns) ∙ stops.is_run; gained = stops.gained }) h;
      }

      ending : (e : Ending) (bytes : List ℕ) → EndsAs program turns e before after bytes → MeansEnding from.ts syms turns e before after bytes
      ending e bytes h = record { output = h.output; run = sym (from.runs bytes turns) ∙ h.run; gained = h.gained }

      pub run_stopped : (fault : RunFault) → status ≡ refusal_status (run_refusal fault) → Said (refusal_line syms (run_refusal fault))
          → IfTold left (StopsWithin program turns before after) → HasReason fault input input_now out out_now
          → (fault ≡ il_fault.Input → IfTold left (AsksFor program turns left_now))
          → RunPromise words tells shelf shelf_now left left_now input input_now before after out out_now Said status
      run_stopped il_fault.Input e said stops rose wanted = record {
        known = inr (inr (inr (inr (inr (inr e)))));
        ended = λ h. not_ended status 11 e refl refl refl h;
        unwritten = λ six. not_both status 11 6 e six refl;
        no_input = λ eleven. (
          rose,
          record {
            turns = turns;
            files = files;
            asked = asked;
            holds = record { program = program; syms = syms; from = from; wanted = wanted refl };
          },
          said,
        );
        front = inr (record { turns = turns; files = files; asked = asked; holds = within stops });
        quiet = λ q. not_quiet status 11 e refl refl refl q;
        modules = by_acceptance (AsksRunOf words) tells shelf shelf_now Said status (same_files words) files (turns, asked) (inr (inr (inl e))) never;
        complete = λ m fs names given output ending also formed links told run quiet calm calm_out. absurd (calm rose);
      }
      run_stopped il_fault.Output e said stops rose wanted = record {
        known = inr (inr (inr (inr (inl e))));
        ended = λ h. not_ended status 6 e refl refl refl h;
        unwritten = λ six. (rose, record { turns = turns; files = files; asked = asked; holds = within stops }, said);
        no_input = λ eleven. not_both status 6 11 e eleven refl;
        front = inr (record { turns = turns; files = files; asked = asked; holds = within stops });
        quiet = λ q. not_quiet status 6 e refl refl refl q;
        modules = by_acceptance (AsksRunOf words) tells shelf shelf_now Said status (same_files words) files (turns, asked) (inr (inl e)) never;
        complete = λ m fs names given output ending also formed links told run quiet calm calm_out. absurd (calm_out rose);
      }
      run_stopped il_fault.Memory e said stops rose wanted = record {
        known = inr (inr (inr (inr (inr (inl e)))));
        ended = λ h. not_ended status 10 e refl refl refl h;
        unwritten = λ six. not_both status 10 6 e six refl;
        no_input = λ eleven. not_both status 10 11 e eleven refl;
        front = inr (record { turns = turns; files = files; asked = asked; holds = within stops });
        quiet = λ q. not_quiet status 10 e refl refl refl q;
        modules = by_memory (AsksRunOf words) tells shelf shelf_now Said status e said;
        complete = λ m fs names given output ending also formed links told run quiet calm calm_out. inr e;
      }

      -- told modules have one run, whose ending this is
      one_ending : (e : Ending) → IfTold left (EndsAs program turns e before after) → (names : Table) (given output : List ℕ) (d : Ending)
          → (formed : AreWellFormedTexts tells files names)
          → left ≡ Some given → c90_run formed.ts names given turns ≡ Some (record { output = output; ending = ending_of d })
          → ending_status e ≡ ending_status d
      one_ending e ends names given output d formed told run =
          let h : EndsAs program turns e before after given = subst (λ l. IfTold l (EndsAs program turns e before after)) told ends in
          let one = one_program tells files from.modules from.ts syms names from.accepted.hold formed in
          let same = ap (λ l. c90_run l syms given turns) one.0 ∙ ap (λ s. c90_run formed.ts s given turns) one.1 in
          let both = sym h.run ∙ from.runs given turns ∙ same ∙ run in
          same_status e d (ap (λ (r : Run). r.ending) (same_some both))

      Complete : ℕ → List (List ℕ) → Type 0
      Complete m fs = (names : Table) (given output : List ℕ) (d : Ending) → (formed : AreWellFormedTexts tells fs names) → left ≡ Some given
          → c90_run formed.ts names given m ≡ Some (record { output = output; ending = ending_of d }) → (status ≡ ending_status d) ⊎ (status ≡ 10)

      -- all of an output is a front of it
      whole : (e : Ending) → IfTold left (EndsAs program turns e before after) → IfTold left (StopsWithin program turns before after)
      whole e h = if_told (EndsAs program turns e before after) (StopsWithin program turns before after) left
          (λ bytes ends. record {
            run = record { output = ends.output; ending = ending_of e };
            is_run = ends.run;
            gained = record { count = length ends.output; gained = subst (Appends before after) (sym (take-length ends.output)) ends.gained };
          }) h

      pub run_ended : (e : Ending) → status ≡ ending_status e → Said (ending_line e) → IfTold left (EndsAs program turns e before after)
          → RunPromise words tells shelf shelf_now left left_now input input_now before after out out_now Said status
      unfolding Complete
      run_ended e is said ends =
          let at = is_ending status e is in
          let complete : Complete turns files = λ names given output d formed told run. inl (is ∙ one_ending e ends names given output d formed told run) in
          record {
            known = inl at;
            ended = λ h. record {
              ending = e;
              came = record {
                turns = turns;
                files = files;
                asked = asked;
                holds = record {
                  modules = from.modules;
                  ts = from.ts;
                  syms = syms;
                  accepted = from.accepted;
                  ends = if_told (EndsAs program turns e before after) (MeansEnding from.ts syms turns e before after) left (ending e) ends;
                };
              };
              status_is = is;
              said = said;
            };
            unwritten = λ six. isnt_ending status 6 at six refl refl refl;
            no_input = λ eleven. isnt_ending status 11 at eleven refl refl refl;
            front = inr (record { turns = turns; files = files; asked = asked; holds = within (whole e ends) });
            quiet = λ q. isnt_quiet status at q;
            modules = by_acceptance (AsksRunOf words) tells shelf shelf_now Said status (same_files words) files (turns, asked) (is_later status at) never;
            complete = λ m fs names given output d also formed links told run quiet calm calm_out.
                of_asked Complete complete m fs also names given output d formed told run;
          }
