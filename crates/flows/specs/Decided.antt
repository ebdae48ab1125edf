-- Each function that this crate hands on is decided by its contract: any two outcomes that it allows, buffers among them, are equal. (01, How far each contract reaches) Statement only.
-- A line for each function, over its own generated contract.
use Rattle.rules.specs.Unique.{Decided, DecidedWith}
use Rattle.rules.proofs.Flows.new.Reads as flows_new
use Rattle.rules.proofs.Flows.new.Kinds as flows_new_kinds
use Rattle.rules.proofs.Flows.with_floor.Reads as flows_with_floor
use Rattle.rules.proofs.Flows.with_floor.Kinds as flows_with_floor_kinds
use Rattle.rules.proofs.Transfer.free.Reads as transfer_free
use Rattle.rules.proofs.Transfer.free.Kinds as transfer_free_kinds
use Rattle.rules.proofs.Tolerance.new.Reads as tolerance_new
use Rattle.rules.proofs.Tolerance.new.Kinds as tolerance_new_kinds
use Rattle.rules.proofs.Tolerance.eps.Reads as tolerance_eps
use Rattle.rules.proofs.Tolerance.eps.Kinds as tolerance_eps_kinds
use Rattle.edges.proofs.add_edge.Reads as add_edge
use Rattle.edges.proofs.add_edge.Kinds as add_edge_kinds
use Rattle.edges.proofs.widen.Reads as widen
use Rattle.edges.proofs.widen.Kinds as widen_kinds
use Rattle.cancel.proofs.cancel.Reads as cancel
use Rattle.cancel.proofs.cancel.Kinds as cancel_kinds
use Rattle.submission.proofs.submit_capped.Reads as submit_capped
use Rattle.submission.proofs.submit_capped.Kinds as submit_capped_kinds
use Rattle.submission.proofs.submit.Reads as submit
use Rattle.submission.proofs.submit.Kinds as submit_kinds
use Rattle.questions.proofs.next_completion_delay.Reads as next_completion_delay
use Rattle.questions.proofs.next_completion_delay.Kinds as next_completion_delay_kinds
use Rattle.questions.proofs.rate.Reads as rate
use Rattle.questions.proofs.rate.Kinds as rate_kinds
use Rattle.questions.proofs.bottleneck.Reads as bottleneck
use Rattle.questions.proofs.bottleneck.Kinds as bottleneck_kinds
use Rattle.time_left.proofs.settle.Reads as settle
use Rattle.time_left.proofs.settle.Kinds as settle_kinds
use Rattle.time_left.proofs.remaining.Reads as remaining
use Rattle.time_left.proofs.remaining.Kinds as remaining_kinds
use Rattle.estimates.proofs.estimate_new_capped.Reads as estimate_new_capped
use Rattle.estimates.proofs.estimate_new_capped.Kinds as estimate_new_capped_kinds
use Rattle.estimates.proofs.estimate_new.Reads as estimate_new
use Rattle.estimates.proofs.estimate_new.Kinds as estimate_new_kinds
use Rattle.questions.proofs.edge.Reads as edge
use Rattle.questions.proofs.edge.Kinds as edge_kinds
use Rattle.questions.proofs.mean_in_flight.Reads as mean_in_flight
use Rattle.questions.proofs.mean_in_flight.Kinds as mean_in_flight_kinds
use Rattle.totals.proofs.contains.Reads as contains
use Rattle.totals.proofs.contains.Kinds as contains_kinds
use Rattle.advance.proofs.advance.Reads as advance
use Rattle.advance.proofs.advance.Kinds as advance_kinds
use Rattle.collecting.proofs.take_completed.Reads as take_completed
use Rattle.collecting.proofs.take_completed.Kinds as take_completed_kinds
use Rattle.lists.proofs.owners_with_completions.Reads as owners_with_completions
use Rattle.lists.proofs.owners_with_completions.Kinds as owners_with_completions_kinds
use Rattle.totals.proofs.now.Reads as reads_now
use Rattle.totals.proofs.now.Kinds as reads_now_kinds
use Rattle.totals.proofs.rounds.Reads as rounds
use Rattle.totals.proofs.rounds.Kinds as rounds_kinds
use Rattle.totals.proofs.num_edges.Reads as num_edges
use Rattle.totals.proofs.num_edges.Kinds as num_edges_kinds
use Rattle.totals.proofs.num_in_flight.Reads as num_in_flight
use Rattle.totals.proofs.num_in_flight.Kinds as num_in_flight_kinds
use Rattle.totals.proofs.num_uncollected.Reads as num_uncollected
use Rattle.totals.proofs.num_uncollected.Kinds as num_uncollected_kinds
use Rattle.totals.proofs.peak_in_flight.Reads as peak_in_flight
use Rattle.totals.proofs.peak_in_flight.Kinds as peak_in_flight_kinds
use Rattle.totals.proofs.totals.Reads as totals
use Rattle.totals.proofs.totals.Kinds as totals_kinds
use Rattle.totals.proofs.submitted_counts.Reads as submitted_counts
use Rattle.totals.proofs.submitted_counts.Kinds as submitted_counts_kinds
use Rattle.totals.proofs.completed_counts.Reads as completed_counts
use Rattle.totals.proofs.completed_counts.Kinds as completed_counts_kinds
use Rattle.totals.proofs.cancelled_counts.Reads as cancelled_counts
use Rattle.totals.proofs.cancelled_counts.Kinds as cancelled_counts_kinds
use Rattle.totals.proofs.bytes_submitted.Reads as bytes_submitted
use Rattle.totals.proofs.bytes_submitted.Kinds as bytes_submitted_kinds
use Rattle.calls.proofs.make.Reads as make
use Rattle.calls.proofs.make.Kinds as make_kinds

pub record EachDecided : Type 0 where
  -- what a type makes of itself
  pub flows_new : Decided 0 flows_new_kinds.ps flows_new_kinds.r flows_new.Post
  pub flows_with_floor : Decided 0 flows_with_floor_kinds.ps flows_with_floor_kinds.r flows_with_floor.Post
  pub transfer_free : Decided 0 transfer_free_kinds.ps transfer_free_kinds.r transfer_free.Post
  pub tolerance_new : Decided 0 tolerance_new_kinds.ps tolerance_new_kinds.r tolerance_new.Post
  pub tolerance_eps : Decided 0 tolerance_eps_kinds.ps tolerance_eps_kinds.r tolerance_eps.Post
  -- calls and questions
  pub add_edge : Decided 0 add_edge_kinds.ps add_edge_kinds.r add_edge.Post
  pub widen : Decided 0 widen_kinds.ps widen_kinds.r widen.Post
  pub cancel : Decided 0 cancel_kinds.ps cancel_kinds.r cancel.Post
  pub submit_capped : Decided 1 submit_capped_kinds.ps submit_capped_kinds.r submit_capped.Post
  pub submit : Decided 1 submit_kinds.ps submit_kinds.r submit.Post
  pub next_completion_delay : Decided 0 next_completion_delay_kinds.ps next_completion_delay_kinds.r next_completion_delay.Post
  pub rate : Decided 0 rate_kinds.ps rate_kinds.r rate.Post
  pub bottleneck : Decided 0 bottleneck_kinds.ps bottleneck_kinds.r bottleneck.Post
  pub settle : Decided 0 settle_kinds.ps settle_kinds.r settle.Post
  pub remaining : Decided 0 remaining_kinds.ps remaining_kinds.r remaining.Post
  pub estimate_new_capped : Decided 1 estimate_new_capped_kinds.ps estimate_new_capped_kinds.r estimate_new_capped.Post
  pub estimate_new : Decided 1 estimate_new_kinds.ps estimate_new_kinds.r estimate_new.Post
  pub edge : Decided 0 edge_kinds.ps edge_kinds.r edge.Post
  pub mean_in_flight : Decided 0 mean_in_flight_kinds.ps mean_in_flight_kinds.r mean_in_flight.Post
  pub contains : Decided 0 contains_kinds.ps contains_kinds.r contains.Post
  -- with a lent buffer
  pub advance : DecidedWith 1 advance_kinds.ps advance_kinds.r advance.Post (λ κs e. e.1.1.0.now)
  pub take_completed : DecidedWith 1 take_completed_kinds.ps take_completed_kinds.r take_completed.Post (λ κs e. e.1.1.0.now)
  pub owners_with_completions : DecidedWith 1 owners_with_completions_kinds.ps owners_with_completions_kinds.r owners_with_completions.Post (λ κs e. e.1.0.now)
  pub make : DecidedWith 2 make_kinds.ps make_kinds.r make.Post (λ κs e. e.1.1.1.0.now)
  -- plain reads
  pub now : Decided 0 reads_now_kinds.ps reads_now_kinds.r reads_now.Post
  pub rounds : Decided 0 rounds_kinds.ps rounds_kinds.r rounds.Post
  pub num_edges : Decided 0 num_edges_kinds.ps num_edges_kinds.r num_edges.Post
  pub num_in_flight : Decided 0 num_in_flight_kinds.ps num_in_flight_kinds.r num_in_flight.Post
  pub num_uncollected : Decided 0 num_uncollected_kinds.ps num_uncollected_kinds.r num_uncollected.Post
  pub peak_in_flight : Decided 0 peak_in_flight_kinds.ps peak_in_flight_kinds.r peak_in_flight.Post
  pub totals : Decided 0 totals_kinds.ps totals_kinds.r totals.Post
  pub submitted_counts : Decided 0 submitted_counts_kinds.ps submitted_counts_kinds.r submitted_counts.Post
  pub completed_counts : Decided 0 completed_counts_kinds.ps completed_counts_kinds.r completed_counts.Post
  pub cancelled_counts : Decided 0 cancelled_counts_kinds.ps cancelled_counts_kinds.r cancelled_counts.Post
  pub bytes_submitted : Decided 0 bytes_submitted_kinds.ps bytes_submitted_kinds.r bytes_submitted.Post
