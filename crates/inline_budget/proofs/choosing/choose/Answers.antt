use Rattle.std.proofs.Common.{◌∙◌, ℕ, ◌<◌, List, [], ◌∷◌, ◌++◌, map, length, drop, take, ap, ap₂, subst, sym}
use Rattle.std.specs.Prelude.{slice_index_or}
use Rattle.std.specs.List.{AllByRecursion}
use Rattle.call_graph.specs.Summaries.{summary_of}
use Rattle.call_graph.specs.declared.summary.Summary.{Summary}
use Rattle.plan_laws.specs.Summary as plan
use Rattle.inline_budget.specs.declared.choice.Choice.{Choice}
use Rattle.inline_budget.specs.declared.numbers.Numbers.{Numbers}
use Rattle.inline_budget.specs.declared.ranking.PlacedSite.{PlacedSite}
use Rattle.inline_budget.specs.Attempts.{IsWithin, numbers_at}
use Rattle.inline_budget.specs.Calls.{call_of, calls_of}
use Rattle.inline_budget.specs.Following.{IsIdle}
use Rattle.inline_budget.specs.Ranking.{placed}
use Rattle.inline_budget.specs.Tables.{brought}
use Rattle.inline_budget.proofs.Filled.{pids_below}
use Rattle.inline_budget.proofs.Seen.{all_seen}
use Rattle.inline_budget.proofs.Chosen.{none_chosen}
use Rattle.inline_budget.proofs.Offered.{back_is, calls_more, offered_brief, offered_callee, offered_caller, offered_callers, offered_extra}
use Rattle.inline_budget.proofs.Offered.{offered_inside, offering_end, offering_first, offering_passed, offering_refused, offering_taken, site_in}
use Rattle.inline_budget.proofs.choosing.choose.Goals as goal

pub returns-in_default : goal.returns-in_default
returns-in_default c =
    ap (λ (cs : List Choice). calls_of cs) c.new.ensures.items
    ∙ sym (none_chosen (map summary_of c.args.routines.now) c.args.main c.args.limit c.in_default.ensures.none)

pub own_numbers-requires : goal.own_numbers-requires
own_numbers-requires c =
    subst (λ (n : ℕ). AllByRecursion (λ (r : Summary). r.pid < n) c.args.routines.now) (sym c.past_pids-bound.ensures.past)
    (pids_below (λ (r : Summary). r.pid) c.args.routines.now)

pub extras-requires : goal.extras-requires
extras-requires c =
    subst (λ (n : ℕ). AllByRecursion (λ (r : Summary). r.pid < n) c.args.routines.now) (sym c.past_pids-bound.ensures.past)
    (pids_below (λ (r : Summary). r.pid) c.args.routines.now)

pub loop-site-init : goal.loop-site-init
loop-site-init c =
    offering_first (map summary_of c.args.routines.now) c.requires c.past_pids-bound.result
    (all_seen (λ (s : plan.Summary). s.pid < c.past_pids-bound.result) c.args.routines.now
    (subst (λ (n : ℕ). AllByRecursion (λ (r : Summary). r.pid < n) c.args.routines.now) (sym c.past_pids-bound.ensures.past)
    (pids_below (λ (r : Summary). r.pid) c.args.routines.now))) c.args.main c.args.limit c.deref-site-items.result.now
    (ap (λ (xs : List PlacedSite). map placed xs) c.deref-site-items.ensures.value ∙ c.in_ok-sites.ensures) (calls_of c.new-choices.result.items)
    (ap (λ (cs : List Choice). calls_of cs) c.new-choices.ensures.items) c.in_ok-numbers.numbers.items c.in_ok-numbers.ensures c.in_ok-callers.callers
    c.in_ok-callers.ensures c.in_ok-attempt.attempt.times.items c.in_ok-attempt.attempt.handed.items c.in_ok-attempt.attempt.queue.items
    c.in_ok-attempt.ensures.times c.in_ok-attempt.ensures.handed c.in_ok-attempt.ensures.queue c.in_ok-attempt.attempt.room c.in-Some.room
    c.in_ok-attempt.ensures.room c.in-Some.ensures.some

pub loop-site-preserved-then-not-is_candidate : goal.loop-site-preserved-then-not-is_candidate
loop-site-preserved-then-not-is_candidate c =
    offering_passed (map summary_of c.args.routines.now) c.requires c.args.main c.args.limit c.deref-site-items.result.now
    (ap (λ (xs : List PlacedSite). map placed xs) c.deref-site-items.ensures.value ∙ c.in_ok-sites.ensures) c.past_pids-bound.result
    (all_seen (λ (s : plan.Summary). s.pid < c.past_pids-bound.result) c.args.routines.now
    (subst (λ (n : ℕ). AllByRecursion (λ (r : Summary). r.pid < n) c.args.routines.now) (sym c.past_pids-bound.ensures.past)
    (pids_below (λ (r : Summary). r.pid) c.args.routines.now))) c.in_ok-extras.extras.items
    c.in_ok-extras.ensures.extras c.loop-site.site-index (calls_of c.loop-site.choices.items) c.loop-site.numbers.items c.loop-site.callers
    c.loop-site.attempt.times.items c.loop-site.attempt.handed.items c.loop-site.attempt.queue.items c.loop-site.attempt.room c.loop-site.invariant
    c.loop-site-test.true
    (sym c.is_candidate.ensures ∙ c.if-not-is_candidate.true)

pub candidate-call-requires-clause-numbers : goal.candidate-call-requires-clause-numbers
candidate-call-requires-clause-numbers c =
    subst (λ (ns : List Numbers). (site_in c.deref-site-items.result.now c.loop-site.site-index).callee < length ns) (sym c.as_slice.ensures.value)
    (offered_callee (map summary_of c.args.routines.now) c.requires c.args.main c.args.limit c.deref-site-items.result.now
    (ap (λ (xs : List PlacedSite). map placed xs) c.deref-site-items.ensures.value ∙ c.in_ok-sites.ensures) c.past_pids-bound.result
    (all_seen (λ (s : plan.Summary). s.pid < c.past_pids-bound.result) c.args.routines.now
    (subst (λ (n : ℕ). AllByRecursion (λ (r : Summary). r.pid < n) c.args.routines.now) (sym c.past_pids-bound.ensures.past)
    (pids_below (λ (r : Summary). r.pid) c.args.routines.now))) c.in_ok-extras.extras.items
    c.in_ok-extras.ensures.extras c.loop-site.site-index (calls_of c.loop-site.choices.items) c.loop-site.numbers.items c.loop-site.callers
    c.loop-site.attempt.times.items c.loop-site.attempt.handed.items c.loop-site.attempt.queue.items c.loop-site.attempt.room c.loop-site.invariant
    c.loop-site-test.true)

pub candidate-call-requires-clause-extras : goal.candidate-call-requires-clause-extras
candidate-call-requires-clause-extras c =
    subst (λ (es : List ℕ). (site_in c.deref-site-items.result.now c.loop-site.site-index).callee < length es) (sym c.as_slice-in-loop-site.ensures.value)
    (offered_extra (map summary_of c.args.routines.now) c.requires c.args.main c.args.limit c.deref-site-items.result.now
    (ap (λ (xs : List PlacedSite). map placed xs) c.deref-site-items.ensures.value ∙ c.in_ok-sites.ensures) c.past_pids-bound.result
    (all_seen (λ (s : plan.Summary). s.pid < c.past_pids-bound.result) c.args.routines.now
    (subst (λ (n : ℕ). AllByRecursion (λ (r : Summary). r.pid < n) c.args.routines.now) (sym c.past_pids-bound.ensures.past)
    (pids_below (λ (r : Summary). r.pid) c.args.routines.now))) c.in_ok-extras.extras.items
    c.in_ok-extras.ensures.extras c.loop-site.site-index (calls_of c.loop-site.choices.items) c.loop-site.numbers.items c.loop-site.callers
    c.loop-site.attempt.times.items c.loop-site.attempt.handed.items c.loop-site.attempt.queue.items c.loop-site.attempt.room c.loop-site.invariant
    c.loop-site-test.true)

pub candidate-call-requires-clause-within : goal.candidate-call-requires-clause-within
candidate-call-requires-clause-within c =
    subst (λ (ns : List Numbers). IsWithin (numbers_at ns (site_in c.deref-site-items.result.now c.loop-site.site-index).callee))
    (sym c.as_slice.ensures.value)
    (c.loop-site.invariant.choosing.idle.within (site_in c.deref-site-items.result.now c.loop-site.site-index).callee)

pub decide-requires-clause-idle : goal.decide-requires-clause-idle
decide-requires-clause-idle c =
    subst (λ (ns : List Numbers). IsIdle ns c.loop-site.attempt.times.items c.loop-site.attempt.handed.items c.loop-site.attempt.queue.items)
    (sym c.as_mut_slice.ensures.value) c.loop-site.invariant.choosing.idle

pub decide-requires-clause-calls : goal.decide-requires-clause-calls
decide-requires-clause-calls c =
    offered_callers (map summary_of c.args.routines.now) c.requires c.args.main c.args.limit c.deref-site-items.result.now
    (ap (λ (xs : List PlacedSite). map placed xs) c.deref-site-items.ensures.value ∙ c.in_ok-sites.ensures) c.past_pids-bound.result
    (all_seen (λ (s : plan.Summary). s.pid < c.past_pids-bound.result) c.args.routines.now
    (subst (λ (n : ℕ). AllByRecursion (λ (r : Summary). r.pid < n) c.args.routines.now) (sym c.past_pids-bound.ensures.past)
    (pids_below (λ (r : Summary). r.pid) c.args.routines.now))) c.in_ok-extras.extras.items
    c.in_ok-extras.ensures.extras c.loop-site.site-index (calls_of c.loop-site.choices.items) c.loop-site.numbers.items c.loop-site.callers
    c.loop-site.attempt.times.items c.loop-site.attempt.handed.items c.loop-site.attempt.queue.items c.loop-site.attempt.room c.loop-site.invariant

pub decide-requires-clause-caller : goal.decide-requires-clause-caller
decide-requires-clause-caller c =
    subst (λ (ns : List Numbers). c.candidate-call.result.caller < length ns) (sym c.as_mut_slice.ensures.value)
    (subst (λ (k : ℕ). k < length c.loop-site.numbers.items) (sym c.candidate-call.ensures.caller)
    (offered_caller (map summary_of c.args.routines.now) c.requires c.args.main c.args.limit c.deref-site-items.result.now
    (ap (λ (xs : List PlacedSite). map placed xs) c.deref-site-items.ensures.value ∙ c.in_ok-sites.ensures) c.past_pids-bound.result
    (all_seen (λ (s : plan.Summary). s.pid < c.past_pids-bound.result) c.args.routines.now
    (subst (λ (n : ℕ). AllByRecursion (λ (r : Summary). r.pid < n) c.args.routines.now) (sym c.past_pids-bound.ensures.past)
    (pids_below (λ (r : Summary). r.pid) c.args.routines.now))) c.in_ok-extras.extras.items
    c.in_ok-extras.ensures.extras c.loop-site.site-index (calls_of c.loop-site.choices.items) c.loop-site.numbers.items c.loop-site.callers
    c.loop-site.attempt.times.items c.loop-site.attempt.handed.items c.loop-site.attempt.queue.items c.loop-site.attempt.room c.loop-site.invariant
    c.loop-site-test.true))

pub decide-requires-clause-lists : goal.decide-requires-clause-lists
decide-requires-clause-lists c =
    c.loop-site.invariant.choosing.listed ∙ ap (λ (ns : List Numbers). length ns) (sym c.as_mut_slice.ensures.value)

pub decide-requires-clause-inside : goal.decide-requires-clause-inside
decide-requires-clause-inside c =
    subst (λ (ns : List Numbers). (y : ℕ) → AllByRecursion (λ x. x < length ns) (slice_index_or c.loop-site.callers y [])) (sym c.as_mut_slice.ensures.value)
    (offered_inside (map summary_of c.args.routines.now) c.requires c.args.main c.args.limit c.deref-site-items.result.now
    (ap (λ (xs : List PlacedSite). map placed xs) c.deref-site-items.ensures.value ∙ c.in_ok-sites.ensures) c.past_pids-bound.result
    (all_seen (λ (s : plan.Summary). s.pid < c.past_pids-bound.result) c.args.routines.now
    (subst (λ (n : ℕ). AllByRecursion (λ (r : Summary). r.pid < n) c.args.routines.now) (sym c.past_pids-bound.ensures.past)
    (pids_below (λ (r : Summary). r.pid) c.args.routines.now))) c.in_ok-extras.extras.items
    c.in_ok-extras.ensures.extras c.loop-site.site-index (calls_of c.loop-site.choices.items) c.loop-site.numbers.items c.loop-site.callers
    c.loop-site.attempt.times.items c.loop-site.attempt.handed.items c.loop-site.attempt.queue.items c.loop-site.attempt.room c.loop-site.invariant)

pub decide-requires-clause-by : goal.decide-requires-clause-by
decide-requires-clause-by c =
    offered_brief (map summary_of c.args.routines.now) c.requires c.args.main c.args.limit c.deref-site-items.result.now
    (ap (λ (xs : List PlacedSite). map placed xs) c.deref-site-items.ensures.value ∙ c.in_ok-sites.ensures) c.past_pids-bound.result
    (all_seen (λ (s : plan.Summary). s.pid < c.past_pids-bound.result) c.args.routines.now
    (subst (λ (n : ℕ). AllByRecursion (λ (r : Summary). r.pid < n) c.args.routines.now) (sym c.past_pids-bound.ensures.past)
    (pids_below (λ (r : Summary). r.pid) c.args.routines.now))) c.in_ok-extras.extras.items
    c.in_ok-extras.ensures.extras c.loop-site.site-index (calls_of c.loop-site.choices.items) c.loop-site.numbers.items c.loop-site.callers
    c.loop-site.attempt.times.items c.loop-site.attempt.handed.items c.loop-site.attempt.queue.items c.loop-site.attempt.room c.loop-site.invariant
    c.loop-site-test.true
    c.candidate-call.result.by
    (c.candidate-call.ensures.by
    ∙ ap₂ {A = List Numbers} {B = List ℕ} {C = Numbers} (λ ns es. brought ns es (site_in c.deref-site-items.result.now c.loop-site.site-index).callee)
    c.as_slice.ensures.value
    c.as_slice-in-loop-site.ensures.value)
    c.candidate-call.ensures.few

pub loop-site-preserved-then-not-branch : goal.loop-site-preserved-then-not-branch
loop-site-preserved-then-not-branch c =
    offering_refused (map summary_of c.args.routines.now) c.requires c.args.main c.args.limit c.deref-site-items.result.now
    (ap (λ (xs : List PlacedSite). map placed xs) c.deref-site-items.ensures.value ∙ c.in_ok-sites.ensures) c.past_pids-bound.result
    (all_seen (λ (s : plan.Summary). s.pid < c.past_pids-bound.result) c.args.routines.now
    (subst (λ (n : ℕ). AllByRecursion (λ (r : Summary). r.pid < n) c.args.routines.now) (sym c.past_pids-bound.ensures.past)
    (pids_below (λ (r : Summary). r.pid) c.args.routines.now))) c.in_ok-extras.extras.items
    c.in_ok-extras.ensures.extras c.loop-site.site-index (calls_of c.loop-site.choices.items) c.loop-site.numbers.items c.loop-site.callers
    c.loop-site.attempt.times.items c.loop-site.attempt.handed.items c.loop-site.attempt.queue.items c.loop-site.attempt.room c.loop-site.invariant
    c.loop-site-test.true
    (sym c.is_candidate.ensures ∙ c.if-not-is_candidate.false) c.candidate-call.result.by
    (c.candidate-call.ensures.by
    ∙ ap₂ {A = List Numbers} {B = List ℕ} {C = Numbers} (λ ns es. brought ns es (site_in c.deref-site-items.result.now c.loop-site.site-index).callee)
    c.as_slice.ensures.value
    c.as_slice-in-loop-site.ensures.value)
    c.as_mut_slice.result.now c.candidate-call.result.caller c.candidate-call.result.callee c.as_mut_slice.ensures.value c.candidate-call.ensures.caller
    c.candidate-call.ensures.callee (c.in_ok-decide.ensures.refused c.if-not-branch.true) c.decide.new.numbers
    (c.in_ok-decide.ensures.kept c.if-not-branch.true)
    (take c.loop-site.numbers.len (c.decide.new.numbers ++ drop (length c.decide.new.numbers) c.loop-site.numbers.items))
    (back_is c.loop-site.numbers.len c.decide.new.numbers c.loop-site.numbers.items c.loop-site.numbers.ok.0
    (ap (λ (ns : List Numbers). length ns) (c.in_ok-decide.ensures.kept c.if-not-branch.true ∙ c.as_mut_slice.ensures.value)))
    c.decide.new.self.times.items c.decide.new.self.handed.items c.decide.new.self.queue.items
    c.decide.new.self.room (c.in_ok-decide.ensures.room c.if-not-branch.true) c.in_ok-decide.ensures.idle

pub put-requires : goal.put-requires
put-requires c =
    subst (λ (k : ℕ). k < length c.loop-site.callers) (sym c.candidate-call.ensures.callee)
    (subst (λ (n : ℕ). (site_in c.deref-site-items.result.now c.loop-site.site-index).callee < n) (sym c.loop-site.invariant.choosing.listed)
    (offered_callee (map summary_of c.args.routines.now) c.requires c.args.main c.args.limit c.deref-site-items.result.now
    (ap (λ (xs : List PlacedSite). map placed xs) c.deref-site-items.ensures.value ∙ c.in_ok-sites.ensures) c.past_pids-bound.result
    (all_seen (λ (s : plan.Summary). s.pid < c.past_pids-bound.result) c.args.routines.now
    (subst (λ (n : ℕ). AllByRecursion (λ (r : Summary). r.pid < n) c.args.routines.now) (sym c.past_pids-bound.ensures.past)
    (pids_below (λ (r : Summary). r.pid) c.args.routines.now))) c.in_ok-extras.extras.items
    c.in_ok-extras.ensures.extras c.loop-site.site-index (calls_of c.loop-site.choices.items) c.loop-site.numbers.items c.loop-site.callers
    c.loop-site.attempt.times.items c.loop-site.attempt.handed.items c.loop-site.attempt.queue.items c.loop-site.attempt.room c.loop-site.invariant
    c.loop-site-test.true))

pub loop-site-preserved : goal.loop-site-preserved
loop-site-preserved c =
    offering_taken (map summary_of c.args.routines.now) c.requires c.args.main c.args.limit c.deref-site-items.result.now
    (ap (λ (xs : List PlacedSite). map placed xs) c.deref-site-items.ensures.value ∙ c.in_ok-sites.ensures) c.past_pids-bound.result
    (all_seen (λ (s : plan.Summary). s.pid < c.past_pids-bound.result) c.args.routines.now
    (subst (λ (n : ℕ). AllByRecursion (λ (r : Summary). r.pid < n) c.args.routines.now) (sym c.past_pids-bound.ensures.past)
    (pids_below (λ (r : Summary). r.pid) c.args.routines.now))) c.in_ok-extras.extras.items
    c.in_ok-extras.ensures.extras c.loop-site.site-index (calls_of c.loop-site.choices.items) c.loop-site.numbers.items c.loop-site.callers
    c.loop-site.attempt.times.items c.loop-site.attempt.handed.items c.loop-site.attempt.queue.items c.loop-site.attempt.room c.loop-site.invariant
    c.loop-site-test.true
    (sym c.is_candidate.ensures ∙ c.if-not-is_candidate.false) c.candidate-call.result.by
    (c.candidate-call.ensures.by
    ∙ ap₂ {A = List Numbers} {B = List ℕ} {C = Numbers} (λ ns es. brought ns es (site_in c.deref-site-items.result.now c.loop-site.site-index).callee)
    c.as_slice.ensures.value
    c.as_slice-in-loop-site.ensures.value)
    c.as_mut_slice.result.now c.candidate-call.result.caller c.candidate-call.result.callee c.as_mut_slice.ensures.value c.candidate-call.ensures.caller
    c.candidate-call.ensures.callee c.decide.new.numbers c.decide.new.self.room (c.in_ok-decide.ensures.taken c.if-not-branch.false) c.put.new.self
    c.in_ok-put.ensures (calls_of c.push.new.self.items)
    (ap (λ (cs : List Choice). calls_of cs) c.in_ok-push.ensures.items ∙ calls_more c.loop-site.choices.items c.choice.result
    ∙ ap (λ (d : Choice). calls_of c.loop-site.choices.items ++ call_of d ∷ [])
    (c.choice.ensures ∙ (λ j. record {
      caller = c.candidate-call.ensures.caller j;
      site = c.candidate-call.ensures.site j;
      callee = c.candidate-call.ensures.callee j;
    })))
    (take c.loop-site.numbers.len (c.decide.new.numbers ++ drop (length c.decide.new.numbers) c.loop-site.numbers.items))
    (back_is c.loop-site.numbers.len c.decide.new.numbers c.loop-site.numbers.items c.loop-site.numbers.ok.0
    ((c.in_ok-decide.ensures.taken c.if-not-branch.false).long ∙ ap (λ (ns : List Numbers). length ns) c.as_mut_slice.ensures.value))
    c.decide.new.self.times.items c.decide.new.self.handed.items c.decide.new.self.queue.items c.in_ok-decide.ensures.idle

pub returns : goal.returns
returns c =
    offering_end (map summary_of c.args.routines.now) c.requires c.args.main c.args.limit c.deref-site-items.result.now
    (ap (λ (xs : List PlacedSite). map placed xs) c.deref-site-items.ensures.value ∙ c.in_ok-sites.ensures) c.past_pids-bound.result
    (all_seen (λ (s : plan.Summary). s.pid < c.past_pids-bound.result) c.args.routines.now
    (subst (λ (n : ℕ). AllByRecursion (λ (r : Summary). r.pid < n) c.args.routines.now) (sym c.past_pids-bound.ensures.past)
    (pids_below (λ (r : Summary). r.pid) c.args.routines.now))) c.in_ok-extras.extras.items
    c.in_ok-extras.ensures.extras c.loop-site.site-index (calls_of c.loop-site.choices.items) c.loop-site.numbers.items c.loop-site.callers
    c.loop-site.attempt.times.items c.loop-site.attempt.handed.items c.loop-site.attempt.queue.items c.loop-site.attempt.room c.loop-site.invariant
    c.loop-site-test.false
