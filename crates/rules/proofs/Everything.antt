-- Every definition of the rules under one name, so that a claim about closed values says `unfolding everything` and computes.
-- Made by tools/everything. Assumes nothing.
use lib.Ieee.{add, sub, mul, div, lt, le, eq, of_int, of_bits, to_bits, round, fits}
use Rattle.doubles.specs.Doubles
use Rattle.rules.specs.Lists
use Rattle.rules.specs.Tolerance
use Rattle.rules.specs.Records
use Rattle.rules.specs.Done
use Rattle.rules.specs.Filling
use Rattle.rules.specs.Clock
use Rattle.rules.specs.Refusals
use Rattle.rules.specs.Floors
use Rattle.rules.specs.Queue
use Rattle.rules.specs.Edges
use Rattle.rules.specs.Submission
use Rattle.rules.specs.Advance
use Rattle.rules.specs.Cancel
use Rattle.rules.specs.Questions
use Rattle.rules.specs.TimeLeft
use Rattle.rules.specs.Histories
use Rattle.rules.specs.Told
use Rattle.rules.specs.Invariant
use Rattle.rules.specs.Cases

unfoldable pub everything : Unit {0}
unfolding add sub mul div lt le eq of_int of_bits to_bits round fits Doubles.larger Doubles.smaller Doubles.read_zero Doubles.is_finite Doubles.plain Doubles.nonneg Doubles.bits_of Lists.count Lists.those Lists.any Lists.all Lists.update Lists.at_each_crossing Lists.times Lists.write_front Lists.map_from Lists.sum Lists.crossings Tolerance.eps Records.route Records.own_path Records.has_id Records.of_id Records.contains Records.num_in_flight Records.waiting Records.owner_kind Records.owner_worker Records.same_owner Records.owner_before Records.before Records.tally_of Records.with_edges Records.with_in_flight Records.with_waiting Records.with_edge_load Records.with_clock Records.with_totals Records.with_tolerance Records.at_time Records.drain_noted Records.made_stale Records.on_tally Done.done_eps Done.is_done Done.time_to_done Done.sooner Filling.takes_part Filling.with_rate Filling.lone_rate Filling.entered Filling.share Filling.shares Filling.tighter_share Filling.blank_share Filling.smallest_share Filling.tighter Filling.tightest Filling.own_cap Filling.smallest_cap Filling.verdict Filling.rate_by Filling.limit_by Filling.names Filling.spend Filling.num_unfrozen Filling.seat Filling.start Filling.load Filling.winning_edge Filling.freezes Filling.freeze Filling.crossings_frozen Filling.frozen_by Filling.round Filling.rounds_until Filling.recompute_rates Clock.soonest Clock.ahead Clock.counts_in_loads Clock.crossings_by Clock.edge_loads Clock.with_rates Clock.ensure_rates Clock.latency_paid Clock.flowing_time Clock.moves Clock.bytes_flowing Clock.drained Clock.gain_moved Clock.deliver Clock.gain_busy Clock.pass_time Clock.drain_slots Clock.drain_to Clock.drained_to_clock Refusals.refusing Refusals.ascending Refusals.not_finite Refusals.not_an_amount Refusals.not_a_time Refusals.not_a_cap Refusals.not_a_floor Refusals.no_such_edge Refusals.too_long Refusals.is_full Refusals.read_cap Floors.with_floor Queue.same_completion Queue.inserted Queue.queued Queue.triples Queue.belongs Queue.ids_for Queue.collected Queue.taking Queue.take_completed Queue.owners Queue.pairs Queue.owners_with_completions Edges.edge_added Edges.add_edge Edges.wider Edges.no_widening Edges.edge_widened Edges.widen Submission.submitted_transfer Submission.placed Submission.count_submitted Submission.peak_taken Submission.submitted Submission.submit_capped Submission.submit Advance.later_than Advance.quiet Advance.done_now Advance.by_id Advance.done_list Advance.count_completed Advance.completed_one Advance.completed Advance.list_done Advance.advance Cancel.count_cancelled Cancel.owner_of Cancel.cancelled Cancel.cancel Questions.delay_until Questions.next_completion_delay Questions.new_share Questions.path_share Questions.share_or_cap Questions.time_at_share Questions.time_alone Questions.estimate Questions.estimate_new_capped Questions.estimate_new Questions.edge Questions.mean_over Questions.mean_in_flight Questions.rate_in Questions.rate Questions.limit_in Questions.bottleneck TimeLeft.settle TimeLeft.or_cannot_finish TimeLeft.remaining_in TimeLeft.behind TimeLeft.remaining Histories.call Histories.typed_cap Histories.typed_call Histories.zeros_read Histories.run Histories.journal Told.told_delay Told.told_limit Told.told_answer Told.told_edge Told.told Invariant.of_kind Cases.same Cases.gives_all Cases.holds Cases.eps_holds Cases.floor_holds Cases.holds_coarsely Cases.last_taken
everything = tt
