-- From a refusal of the words or of the files, and from acceptance, to what all commands over modules promise.
use Rattle.std.proofs.Common.{◌≡◌, ℕ, ◌⊎◌, true, false, List, refl, sym, ◌∙◌, ap, subst, inl, inr, nat_eq, true≢false}
use Rattle.std.proofs.lemmas.Bool.{eqb-false}
use Rattle.c_module.specs.Programs.{IsProgramOf}
use Rattle.c_module.specs.Told.{AreQuiet, AreRefused}
use Rattle.c_module.specs.Verdict.{IsProgramCause, IsUnread, IsWant}
use Rattle.c_module.specs.declared.fault.FileFault.TheVariants as file_fault
use Rattle.c_module.specs.declared.fault.ProgramFault.{ProgramFault}
use Rattle.c_module.specs.declared.fault.ProgramFault.TheVariants.{File, Link, Memory}
use Rattle.hlo_words.specs.declared.settings.WordsFault.{WordsFault}
use Rattle.hlo_words.specs.declared.settings.WordsFault.TheVariants as words_fault
use Rattle.il_core.specs.declared.program.IlProgram.{IlProgram}
use Rattle.outside.specs.Told.{Told}
use Rattle.profile.specs.Counts.{Counts, flat_counts}
use Rattle.sym_tables.specs.Table.{Table}
use Rattle.hlo_cmd.specs.Messages.{memory_line, program_refusal, refusal_line, refusal_status, words_refusal}
use Rattle.hlo_cmd.specs.Modules.{ModulesPromise}
use Rattle.hlo_cmd.specs.declared.refusal.Refusal.{Refusal}

-- a status isn't two numbers
pub not_both : {A : Type 0} (s m n : ℕ) → s ≡ m → s ≡ n → nat_eq m n ≡ false → A
not_both s m n e f apart = absurd (eqb-false m n apart (sym e ∙ f))

-- what no answer that succeeded allows
pub no_refusal : (A : Type 0) → (A → false ≡ true) → A → ⊥
no_refusal A f h = true≢false (sym (f h))

-- the status and the line of a refusal that is known as another one
pub status_by : (status : ℕ) (r s : Refusal) → r ≡ s → status ≡ refusal_status r → status ≡ refusal_status s
status_by status r s e h = h ∙ ap refusal_status e

pub said_by : (Said : List ℕ → Type 0) (syms : Table) (r s : Refusal) → r ≡ s → Said (refusal_line syms r) → Said (refusal_line syms s)
said_by Said syms r s e h = subst (λ x. Said (refusal_line syms x)) e h

-- the line under names that are known as others
pub said_under : (Said : List ℕ → Type 0) (old new : Table) (r : Refusal) → old ≡ new → Said (refusal_line old r) → Said (refusal_line new r)
said_under Said old new r e h = subst (λ s. Said (refusal_line s r)) e h

-- a program with the counts of the flat profile
pub flat_program : (counts : Counts) (tells : List ℕ → Told) (files : List (List ℕ)) (program : IlProgram) (syms : Table) → counts ≡ flat_counts
    → IsProgramOf counts tells files program syms
    → IsProgramOf flat_counts tells files program syms
flat_program counts tells files program syms e h = subst (λ k. IsProgramOf k tells files program syms) e h

-- want of memory has the status 10
pub want_is_memory : (fault : ProgramFault) → IsWant fault → refusal_status (program_refusal fault) ≡ 10
want_is_memory (File file (file_fault.NoModule fault)) h = absurd h
want_is_memory (File file file_fault.CannotRead) h = absurd h
want_is_memory (File file file_fault.Memory) h = refl
want_is_memory (Link fault) h = absurd h
want_is_memory Memory h = refl

-- the statuses at which the files were accepted, but for want of memory
abbrev pub IsLater : ℕ → Type 0
IsLater status = (status ≡ 0) ⊎ ((status ≡ 6) ⊎ ((status ≡ 11) ⊎ ((status ≡ 12) ⊎ (status ≡ 13))))

later_is_not : {A : Type 0} (s n : ℕ) → IsLater s → s ≡ n → nat_eq 0 n ≡ false → nat_eq 6 n ≡ false → nat_eq 11 n ≡ false → nat_eq 12 n ≡ false
    → nat_eq 13 n ≡ false → A
later_is_not s n (inl h) e a b c d f = not_both s 0 n h e a
later_is_not s n (inr (inl h)) e a b c d f = not_both s 6 n h e b
later_is_not s n (inr (inr (inl h))) e a b c d f = not_both s 11 n h e c
later_is_not s n (inr (inr (inr (inl h)))) e a b c d f = not_both s 12 n h e d
later_is_not s n (inr (inr (inr (inr h)))) e a b c d f = not_both s 13 n h e f

module _ (Asks : List (List ℕ) → Type 0) (tells : List ℕ → Told) (before after : List ℕ → ℕ) (Said : List ℕ → Type 0) (status : ℕ) where
  -- memory ran out, wherever
  pub by_memory : status ≡ 10 → Said memory_line → ModulesPromise Asks tells before after Said status
  by_memory e said = record {
    usage = λ two. not_both status 10 2 e two refl;
    refused = λ three. not_both status 10 3 e three refl;
    unread = λ five. not_both status 10 5 e five refl;
    memory = λ ten. said;
    unusable = λ none. inr e;
    refuses = λ files asked refused quiet. inr e;
  }

  -- the words give no settings
  pub by_words : (syms : Table) (fault : WordsFault) → status ≡ refusal_status (words_refusal fault) → Said (refusal_line syms (words_refusal fault))
      → (fault ≡ words_fault.Usage → (files : List (List ℕ)) → Asks files → ⊥) → ModulesPromise Asks tells before after Said status
  by_words syms words_fault.Usage e said none = record {
    usage = λ two. (none refl, said);
    refused = λ three. not_both status 2 3 e three refl;
    unread = λ five. not_both status 2 5 e five refl;
    memory = λ ten. not_both status 2 10 e ten refl;
    unusable = λ nothing. inl e;
    refuses = λ files asked refused quiet. absurd (none refl files asked);
  }
  by_words syms words_fault.Memory e said none = by_memory e said

  module _ (same : (f g : List (List ℕ)) → Asks f → Asks g → f ≡ g) (files : List (List ℕ)) (asked : Asks files) where
    -- the files are refused, or one couldn't be read, or memory ran out
    pub by_fault : (syms : Table) (fault : ProgramFault) → status ≡ refusal_status (program_refusal fault) → Said (refusal_line syms (program_refusal fault))
        → IsProgramCause fault files tells before after syms → (AreQuiet before after files → IsUnread fault → ⊥)
        → ModulesPromise Asks tells before after Said status
    by_fault syms (File file (file_fault.NoModule fault)) e said cause reads = record {
      usage = λ two. not_both status 3 2 e two refl;
      refused = λ three. record {
        files = files;
        asked = asked;
        holds = inl
            (record { file = file.now; fault = fault; names = syms; ends = cause; said = said });
      };
      unread = λ five. not_both status 3 5 e five refl;
      memory = λ ten. not_both status 3 10 e ten refl;
      unusable = λ none. absurd (none files asked);
      refuses = λ others also refused quiet. inl e;
    }
    by_fault syms (File file file_fault.CannotRead) e said cause reads = record {
      usage = λ two. not_both status 5 2 e two refl;
      refused = λ three. not_both status 5 3 e three refl;
      unread = λ five. record { files = files; asked = asked; holds = record { file = file.now; names = syms; ends = cause; said = said } };
      memory = λ ten. not_both status 5 10 e ten refl;
      unusable = λ none. absurd (none files asked);
      refuses = λ others also refused quiet. absurd (reads (subst (AreQuiet before after) (same others files also asked) quiet) tt);
    }
    by_fault syms (File file file_fault.Memory) e said cause reads = by_memory e said
    by_fault syms (Link fault) e said cause reads = record {
      usage = λ two. not_both status 3 2 e two refl;
      refused = λ three. record { files = files; asked = asked; holds = inr (record { fault = fault; names = syms; unlinked = cause; said = said }) };
      unread = λ five. not_both status 3 5 e five refl;
      memory = λ ten. not_both status 3 10 e ten refl;
      unusable = λ none. absurd (none files asked);
      refuses = λ others also refused quiet. inl e;
    }
    by_fault syms Memory e said cause reads = by_memory e said

    -- the files were accepted, and memory sufficed
    pub by_acceptance : IsLater status → (AreRefused tells files → ⊥) → ModulesPromise Asks tells before after Said status
    by_acceptance later accepted = record {
      usage = λ two. later_is_not status 2 later two refl refl refl refl refl;
      refused = λ three. later_is_not status 3 later three refl refl refl refl refl;
      unread = λ five. later_is_not status 5 later five refl refl refl refl refl;
      memory = λ ten. later_is_not status 10 later ten refl refl refl refl refl;
      unusable = λ none. absurd (none files asked);
      refuses = λ others also refused quiet. absurd (accepted (subst (AreRefused tells) (same others files also asked) refused));
    }
