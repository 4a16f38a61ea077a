-- What `train` came to, and what it promises.
use Rattle.std.proofs.Common.{◌≡◌, ℕ, ◌⊎◌, false, List, [], Option, Some, None, Err, nat_eq, refl, sym, ◌∙◌, ap, subst, inl, inr, length}
use Rattle.std.specs.Io.KnownBytes.{Appends, Keeps}
use Rattle.std.proofs.Math.Seq.{take-length}
use Rattle.c_module.specs.Programs.{IsProgramOf}
use Rattle.c_module.specs.Told.{AreQuiet, AreRefused, AreWellFormedTexts}
use Rattle.c_module.specs.Verdict.{IsProgramCause, IsUnread, IsWant}
use Rattle.c_module.specs.declared.fault.ProgramFault.{ProgramFault}
use Rattle.c_typed.specs.Linked.{c90_run}
use Rattle.hlo_words.specs.declared.settings.RunSettings.{RunSettings}
use Rattle.hlo_words.specs.declared.settings.WordsFault.{WordsFault}
use Rattle.hlo_words.specs.declared.settings.WordsFault.TheVariants as words_fault
use Rattle.hlo_words.proofs.Same.{same_train}
use Rattle.il_core.specs.declared.program.IlProgram.{IlProgram}
use Rattle.il_core.specs.Meaning.{Run, calls_made}
use Rattle.il_run.specs.declared.counts.Counts.{Counts}
use Rattle.il_run.specs.declared.ending.Ending.{Ending}
use Rattle.il_run.specs.declared.ending.RunFault.{RunFault}
use Rattle.il_run.specs.declared.ending.RunFault.TheVariants as il_fault
use Rattle.il_run.specs.Machine.{ending_of}
use Rattle.il_run.specs.Run.{AsksFor, IfTold}
use Rattle.linker.specs.Linking.{refusal}
use Rattle.outside.specs.Told.{Told}
use Rattle.profile.specs.Counts.{flat_counts}
use Rattle.profile.specs.Names.{Names}
use Rattle.profile.specs.Texts.{Line, set_by_all}
use Rattle.profile.specs.Writing.{IsWritten}
use Rattle.sym_tables.specs.Table.{Table}
use Rattle.hlo_cmd.specs.Messages.{ending_line, ending_status, print_refusal, program_refusal, refusal_line, refusal_status, run_refusal, words_refusal}
use Rattle.hlo_cmd.specs.Opt.{IsQuiet}
use Rattle.hlo_cmd.specs.Printing.{IsPrintCause}
use Rattle.hlo_cmd.specs.Run.{IsEndingStatus}
use Rattle.hlo_cmd.specs.Train.{AsksTrain, AsksTrainOf, TrainPromise, Trains, TrainsFront, TrainsOn}
use Rattle.hlo_cmd.specs.Training.{EndsCounted, IsInputCause, PutsFront, PutsProfile, PutsWhole, counted_lines, trained}
use Rattle.hlo_cmd.specs.declared.print.PrintFault.{PrintFault}
use Rattle.hlo_cmd.specs.declared.print.PrintFault.TheVariants as print_fault
use Rattle.hlo_cmd.proofs.Endings.{same_status}
use Rattle.hlo_cmd.proofs.ModuleRuns.{fault_status, if_told, is_ending, is_later, isnt, isnt_ended, isnt_ending, isnt_quiet, known_fault, not_ended, same_some}
use Rattle.hlo_cmd.proofs.Opts.{not_quiet}
use Rattle.hlo_cmd.proofs.Sames.{one_program}
use Rattle.hlo_cmd.proofs.Trainings.{lines_are}
use Rattle.hlo_cmd.proofs.Verdicts.{by_acceptance, by_fault, by_memory, by_words, not_both, want_is_memory}

-- the words ask for one list of files
same_files : (words f g : List (List ℕ)) → AsksTrainOf words f → AsksTrainOf words g → f ≡ g
same_files words f g (m, a) (n, b) = ap (λ (s : RunSettings). s.files) (same_train words _ _ a b)

-- a status at which nothing was put out isn't that one
stays_quiet : {A : Type 0} (status n : ℕ) → status ≡ n → nat_eq n 2 ≡ false → nat_eq n 3 ≡ false → nat_eq n 5 ≡ false → nat_eq n 11 ≡ false
    → IsQuiet status ⊎ (status ≡ 11) → A
stays_quiet status n e two three five eleven (inl q) = not_quiet status n e two three five q
stays_quiet status n e two three five eleven (inr h) = not_both status n 11 e h eleven

-- the names and counts that a program's counts set
abbrev pub names_of : IlProgram → Counts → Names
names_of p c = set_by_all (counted_lines p.shapes p.routines c.entries c.sites) []

-- a text of counts is one of the calls that were counted
trains_on : (p : IlProgram) (turns : ℕ) (e : Ending) (c : Counts) (text bytes : List ℕ) → IsWritten text (Some (names_of p c)) → EndsCounted p turns e c bytes
    → TrainsOn p turns e text bytes
trains_on p turns e c text bytes written h =
    let calls = calls_made p bytes turns in
    let same : names_of p c ≡ trained p calls = ap (names_of p) h.counts ∙ ap (λ (ls : List Line). set_by_all ls []) (lines_are p.shapes calls p.routines) in
    record { output = h.output; run = h.run; written = subst (λ (ns : Names). IsWritten text (Some ns)) same written }

module _ (words : List (List ℕ)) (tells : List ℕ → Told) (shelf shelf_now : List ℕ
    → ℕ) (left left_now : Option (List ℕ)) (input input_now : ℕ) (before after : Option (List ℕ)) (out out_now : ℕ) (Said : List ℕ
    → Type 0) (status : ℕ) where
  pub train_words : (syms : Table) (fault : WordsFault) → status ≡ refusal_status (words_refusal fault) → Said (refusal_line syms (words_refusal fault))
      → (fault ≡ words_fault.Usage → (s : RunSettings) → AsksTrain words s.turns s.files → ⊥) → Keeps before after
      → TrainPromise words tells shelf shelf_now left left_now input input_now before after out out_now Said status
  train_words syms words_fault.Usage e said none kept = record {
    known = inr (inl e);
    ended = λ h. not_ended status 2 e refl refl refl h;
    unwritten = λ six. not_both status 2 6 e six refl;
    no_input = λ eleven. not_both status 2 11 e eleven refl;
    front = inl kept;
    quiet = λ q. kept;
    modules = by_words (AsksTrainOf words) tells shelf shelf_now Said status syms words_fault.Usage e said
        (λ u files asked. none u (record { turns = asked.0; files = files }) asked.1);
    complete = λ turns files names given output ending asked formed links told run quiet calm calm_out. absurd
        (none refl (record { turns = turns; files = files }) asked);
  }
  train_words syms words_fault.Memory e said none kept = record {
    known = inr (inr (inr (inr (inr (inl e)))));
    ended = λ h. not_ended status 10 e refl refl refl h;
    unwritten = λ six. not_both status 10 6 e six refl;
    no_input = λ eleven. not_both status 10 11 e eleven refl;
    front = inl kept;
    quiet = λ q. kept;
    modules = by_memory (AsksTrainOf words) tells shelf shelf_now Said status e said;
    complete = λ turns files names given output ending asked formed links told run quiet calm calm_out. inr e;
  }

  module _ (turns : ℕ) (files : List (List ℕ)) (asked : AsksTrain words turns files) where
    -- where it is so of these settings, it is so of all that the words say
    of_asked : (Q : ℕ → List (List ℕ) → Type 0) → Q turns files → (m : ℕ) (fs : List (List ℕ)) → AsksTrain words m fs → Q m fs
    of_asked Q h m fs also = subst (λ (s : RunSettings). Q s.turns s.files)
        (same_train words (record { turns = turns; files = files }) (record { turns = m; files = fs }) asked also) h

    pub train_fault : (syms : Table) (fault : ProgramFault) → status ≡ refusal_status (program_refusal fault) → Said (refusal_line syms (program_refusal fault))
        → IsProgramCause fault files tells shelf shelf_now syms → (AreQuiet shelf shelf_now files → IsUnread fault → ⊥)
        → ((names : Table) → AreWellFormedTexts tells files names → refusal names ≡ None → AreQuiet shelf shelf_now files → IsWant fault)
        → Keeps before after → TrainPromise words tells shelf shelf_now left left_now input input_now before after out out_now Said status
    train_fault syms fault e said cause reads complete kept = record {
      known = inr (inr (known_fault status (fault_status status fault e)));
      ended = λ h. isnt_ended status (fault_status status fault e) h;
      unwritten = λ six. isnt status 6 (fault_status status fault e) six refl refl refl;
      no_input = λ eleven. isnt status 11 (fault_status status fault e) eleven refl refl refl;
      front = inl kept;
      quiet = λ q. kept;
      modules = by_fault (AsksTrainOf words) tells shelf shelf_now Said status (same_files words) files (turns, asked) syms fault e said cause reads;
      complete = λ m fs names given output ending also formed links told run quiet calm calm_out.
          let at = same_files words fs files (m, also) (turns, asked) in
          inr (e ∙ want_is_memory fault
          (complete names (subst (λ l. AreWellFormedTexts tells l names) at formed) links (subst (AreQuiet shelf shelf_now) at quiet)));
    }

    module _ (program : IlProgram) (syms : Table) (from : IsProgramOf flat_counts tells files program syms) (never : AreRefused tells files → ⊥) where
      pub train_stopped : (fault : RunFault) → status ≡ refusal_status (run_refusal fault) → Said (refusal_line syms (run_refusal fault))
          → IsInputCause fault input input_now → (fault ≡ il_fault.Input → IfTold left (AsksFor program turns left_now)) → Keeps before after
          → TrainPromise words tells shelf shelf_now left left_now input input_now before after out out_now Said status
      train_stopped il_fault.Input e said rose wanted kept = record {
        known = inr (inr (inr (inr (inr (inr e)))));
        ended = λ h. not_ended status 11 e refl refl refl h;
        unwritten = λ six. not_both status 11 6 e six refl;
        no_input = λ eleven. (
          rose,
          record {
            turns = turns;
            files = files;
            asked = asked;
            holds = record { program = program; syms = syms; from = from; wanted = wanted refl };
          },
          said,
        );
        front = inl kept;
        quiet = λ q. kept;
        modules = by_acceptance (AsksTrainOf words) tells shelf shelf_now Said status (same_files words) files (turns, asked) (inr (inr (inl e))) never;
        complete = λ m fs names given output ending also formed links told run quiet calm calm_out. absurd (calm rose);
      }
      train_stopped il_fault.Output e said rose wanted kept = absurd rose
      train_stopped il_fault.Memory e said rose wanted kept = record {
        known = inr (inr (inr (inr (inr (inl e)))));
        ended = λ h. not_ended status 10 e refl refl refl h;
        unwritten = λ six. not_both status 10 6 e six refl;
        no_input = λ eleven. not_both status 10 11 e eleven refl;
        front = inl kept;
        quiet = λ q. kept;
        modules = by_memory (AsksTrainOf words) tells shelf shelf_now Said status e said;
        complete = λ m fs names given output ending also formed links told run quiet calm calm_out. inr e;
      }

      module _ (e : Ending) (c : Counts) (ends : IfTold left (EndsCounted program turns e c)) where
        training : (text : List ℕ) → IsWritten text (Some (names_of program c)) → Trains tells left e text files turns
        training text written = record {
          program = program;
          syms = syms;
          from = from;
          ends = if_told (EndsCounted program turns e c) (TrainsOn program turns e text) left (λ bytes h. trains_on program turns e c text bytes written h)
              ends;
        }

        a_front : (k : ℕ) → PutsFront (names_of program c) k before after → TrainsFront words tells left before after
        a_front k h = record {
          ending = e;
          text = h.text;
          front = k;
          came = record { turns = turns; files = files; asked = asked; holds = training h.text h.written };
          gained = h.gained;
        }

        pub train_unwritten : (fault : PrintFault) → status ≡ refusal_status (print_refusal fault) → Said (refusal_line syms (print_refusal fault))
            → IsPrintCause fault out out_now → PutsProfile (names_of program c) before after (Err fault)
            → TrainPromise words tells shelf shelf_now left left_now input input_now before after out out_now Said status
        train_unwritten print_fault.Output is said rose put = record {
          known = inr (inr (inr (inr (inl is))));
          ended = λ h. not_ended status 6 is refl refl refl h;
          unwritten = λ six. (rose, a_front put.0 put.1, said);
          no_input = λ eleven. not_both status 6 11 is eleven refl;
          front = inr (a_front put.0 put.1);
          quiet = λ q. stays_quiet status 6 is refl refl refl refl q;
          modules = by_acceptance (AsksTrainOf words) tells shelf shelf_now Said status (same_files words) files (turns, asked) (inr (inl is)) never;
          complete = λ m fs names given output d also formed links told run quiet calm calm_out. absurd (calm_out rose);
        }
        train_unwritten print_fault.Memory is said rose put = record {
          known = inr (inr (inr (inr (inr (inl is)))));
          ended = λ h. not_ended status 10 is refl refl refl h;
          unwritten = λ six. not_both status 10 6 is six refl;
          no_input = λ eleven. not_both status 10 11 is eleven refl;
          front = inl put;
          quiet = λ q. put;
          modules = by_memory (AsksTrainOf words) tells shelf shelf_now Said status is said;
          complete = λ m fs names given output d also formed links told run quiet calm calm_out. inr is;
        }

        -- told modules have one run, whose ending this is
        one_ending : (names : Table) (given output : List ℕ) (d : Ending) → (formed : AreWellFormedTexts tells files names) → left ≡ Some given
            → c90_run formed.ts names given turns ≡ Some (record { output = output; ending = ending_of d }) → ending_status e ≡ ending_status d
        one_ending names given output d formed told run =
            let h : EndsCounted program turns e c given = subst (λ l. IfTold l (EndsCounted program turns e c)) told ends in
            let one = one_program tells files from.modules from.ts syms names from.accepted.hold formed in
            let same = ap (λ l. c90_run l syms given turns) one.0 ∙ ap (λ s. c90_run formed.ts s given turns) one.1 in
            let both = sym h.run ∙ from.runs given turns ∙ same ∙ run in
            same_status e d (ap (λ (r : Run). r.ending) (same_some both))

        Complete : ℕ → List (List ℕ) → Type 0
        Complete m fs = (names : Table) (given output : List ℕ) (d : Ending) → (formed : AreWellFormedTexts tells fs names) → left ≡ Some given
            → c90_run formed.ts names given m ≡ Some (record { output = output; ending = ending_of d }) → (status ≡ ending_status d) ⊎ (status ≡ 10)

        pub train_ended : status ≡ ending_status e → Said (ending_line e) → PutsWhole (names_of program c) before after
            → TrainPromise words tells shelf shelf_now left left_now input input_now before after out out_now Said status
        unfolding Complete
        train_ended is said put =
            let at = is_ending status e is in
            let complete : Complete turns files = λ names given output d formed told run. inl (is ∙ one_ending names given output d formed told run) in
            record {
              known = inl at;
              ended = λ h. record {
                ending = e;
                text = put.text;
                came = record { turns = turns; files = files; asked = asked; holds = training put.text put.written };
                gained = put.gained;
                status_is = is;
                said = said;
              };
              unwritten = λ six. isnt_ending status 6 at six refl refl refl;
              no_input = λ eleven. isnt_ending status 11 at eleven refl refl refl;
              front = inr (a_front (length put.text)
                  (record { text = put.text; written = put.written; gained = subst (Appends before after) (sym (take-length put.text)) put.gained }));
              quiet = λ q. ending_not_quiet at q;
              modules = by_acceptance (AsksTrainOf words) tells shelf shelf_now Said status (same_files words) files (turns, asked) (is_later status at) never;
              complete = λ m fs names given output d also formed links told run quiet calm calm_out.
                  of_asked Complete complete m fs also names given output d formed told run;
            }
          where
            ending_not_quiet : {A : Type 0} → IsEndingStatus status → IsQuiet status ⊎ (status ≡ 11) → A
            ending_not_quiet h (inl q) = isnt_quiet status h q
            ending_not_quiet h (inr eleven) = isnt_ending status 11 h eleven refl refl refl
