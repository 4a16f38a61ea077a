use Rattle.std.proofs.Common.{◌∙◌, le_trans, rules}
use Rattle.il_run.proofs.Running.{if_told, told_map, nothing_ahead, starts_holding, round_holds, round_ends, round_counts, round_stops, told_both}
use Rattle.il_run.proofs.Running.{starts_using, round_uses, round_wants, same_fault, still_open}
use Rattle.il_run.proofs.Asking.{asks_first, asks_turn}
use Rattle.il_run.proofs.Counting.{still_first, still_counter, still_more}
use Rattle.il_run.proofs.Placing.{placed_all, placed_start, placed_more}
use Rattle.il_run.proofs.rounds.Ready.drive.Goals as goal

pub rounds-init : goal.rounds-init
rounds-init g c = record {
  tabled = c.requires.ready.tabled;
  sound = c.requires.ready.starts.sound;
  fits = c.requires.ready.fits;
  at_end = search rules;
  told = if_told _ _ (λ bytes e. starts_holding _ _ _ _ _ _ _ _ bytes c.requires.ready.starts c.requires.none (nothing_ahead _ _ bytes c.requires.ready.none e)
      c.requires.ready.empty);
  using_so = λ e. if_told _ _ (λ bytes e1. starts_using _ _ _ _ _ bytes c.requires.ready.starts (nothing_ahead _ _ bytes c.requires.ready.none e1));
  placed = placed_start _ _ _ _;
  counter = c.requires.counter;
  still = still_first _ _ c.requires.counter;
  asks = asks_first _ _;
  input_later = search rules;
  output_later = search rules;
}

pub rounds-preserved : goal.rounds-preserved
rounds-preserved g c =
    let moved = rw c.in-None.is at c.in-Ok.ensures.moved in
    record {
      tabled = c.rounds.invariant.tabled;
      sound = moved.sound;
      fits = c.round-ended.ensures.fits;
      at_end = c.round-ended.ensures.ended;
      told = told_map _ _ _ c.rounds.invariant.told (λ bytes h. round_holds _ _ _ _ _ _ _ _ _ _ _ _ _ _ bytes _ h moved c.round-ended.ensures.front);
      using_so = λ e. told_map _ _ _ (c.rounds.invariant.using_so (still_open _ _ c.round-ended.ensures.shut e))
          (λ bytes h. round_uses _ _ _ _ _ _ _ _ bytes h (moved.uses e));
      placed = told_both _ _ _ _ _ c.rounds.invariant.placed c.rounds.invariant.using_so
          (λ bytes h u. placed_more _ _ bytes _ _ _ _ _ _ _ _ c.rounds.invariant.tabled u h c.round-ended.ensures.asked);
      counter = still_counter _ _ _ c.rounds.invariant.counter c.round-ended.ensures.counter;
      still = still_more _ _ _ _ c.rounds.invariant.still c.round-ended.ensures.counter;
      asks = rw c.in-Ok.is at (c.round-ended.ensures.asks _ c.rounds.invariant.asks);
      input_later = le_trans c.rounds.invariant.input_later c.round-ended.ensures.input_later;
      output_later = le_trans c.rounds.invariant.output_later c.round-ended.ensures.output_later;
    }

pub rounds-smaller : goal.rounds-smaller
rounds-smaller g c = let moved = rw c.in-None.is at c.in-Ok.ensures.moved in moved.less

pub returns-in-Some-clause-ends : goal.returns-in-Some-clause-ends
returns-in-Some-clause-ends g c =
    let last = rw c.in-Some.is at c.in-Ok.ensures.moved in
    told_map _ _ _ c.rounds.invariant.told (λ bytes h. round_ends _ _ _ _ _ _ _ _ _ _ _ bytes h last)

pub returns-in-Err-clause-stops : goal.returns-in-Err-clause-stops
returns-in-Err-clause-stops g c = told_map _ _ _ c.rounds.invariant.told
    (λ bytes h. round_stops _ _ _ _ _ _ _ _ _ _ bytes c.requires.valid h c.round-ended.ensures.front)

pub returns-in-Some-clause-asks : goal.returns-in-Some-clause-asks
returns-in-Some-clause-asks g c = asks_turn _ _ _ (rw c.in-Ok.is at (c.round-ended.ensures.asks _ c.rounds.invariant.asks))

pub returns-in-Err-clause-asks : goal.returns-in-Err-clause-asks
returns-in-Err-clause-asks g c = rw c.in-Err.is at (c.round-ended.ensures.asks _ c.rounds.invariant.asks)

pub returns-in-Err-clause-wanted : goal.returns-in-Err-clause-wanted
returns-in-Err-clause-wanted g c = λ e.
    let f = c.round-ended.ensures.wanted (c.in-Err.is ∙ same_fault c.in-Err.fault _ e) in
    told_map _ _ _ (c.rounds.invariant.using_so f.at.open_yet) (λ bytes h. round_wants _ _ _ _ _ _ _ _ bytes c.rounds.invariant.tabled h f)

pub returns-in-Some-clause-counted : goal.returns-in-Some-clause-counted
returns-in-Some-clause-counted g c =
    let last = rw c.in-Some.is at c.in-Ok.ensures.moved in
    let kept = rw c.in-Some.is at c.in-Ok.ensures.over in
    told_map _ _ _ c.rounds.invariant.told (λ bytes h. round_counts _ _ _ _ _ _ _ _ _ _ _ _ bytes h last kept)

pub returns-in-Some-clause-counter : goal.returns-in-Some-clause-counter
returns-in-Some-clause-counter g c = still_more _ _ _ _ c.rounds.invariant.still c.round-ended.ensures.counter

pub returns-in-Err-clause-counter : goal.returns-in-Err-clause-counter
returns-in-Err-clause-counter g c = still_more _ _ _ _ c.rounds.invariant.still c.round-ended.ensures.counter

pub returns-in-Some-clause-asks_wanted : goal.returns-in-Some-clause-asks_wanted
returns-in-Some-clause-asks_wanted g c = told_both _ _ _ _ _ c.rounds.invariant.placed c.rounds.invariant.using_so
    (λ bytes h u. placed_all _ _ _ _ _ bytes (placed_more _ _ bytes _ _ _ _ _ _ _ _ c.rounds.invariant.tabled u h c.round-ended.ensures.asked))

pub returns-in-Err-clause-asks_wanted : goal.returns-in-Err-clause-asks_wanted
returns-in-Err-clause-asks_wanted g c = told_both _ _ _ _ _ c.rounds.invariant.placed c.rounds.invariant.using_so
    (λ bytes h u. placed_all _ _ _ _ _ bytes (placed_more _ _ bytes _ _ _ _ _ _ _ _ c.rounds.invariant.tabled u h c.round-ended.ensures.asked))
