-- The metrics of a zone in Prometheus' text format, version 0.0.4, line by line.
use Rattle.std.specs.Prelude.{ℕ, ◌/◌, List, [], ◌∷◌, ◌++◌, codes, flat_map}
use Rattle.std.specs.Fmt.{decimal}
use Rattle.std.specs.List.{concat}
use Rattle.pools.specs.declared.interface.Figures.{Figures}
use Rattle.zone_view.specs.Counts.{count_at}
use Rattle.zone_view.specs.Labels.{reject_label, reject_message, reply_label}
use Rattle.zone_view.specs.declared.count.Count.{Count}
use Rattle.zone_view.specs.declared.count.Count.TheVariants as count
use Rattle.zone_view.specs.declared.figures.ServerFigures.{ServerFigures}
use Rattle.zone_view.specs.declared.figures.ZoneFigures.{ZoneFigures}
use Rattle.zone_view.specs.declared.reject.Reject.{Reject}
use Rattle.status_page.specs.Counted.{answers, ignored, label_of, rejects, replies, requests, turns}
use Rattle.status_page.specs.Texts.{address_text, label_text, numbered}
use Rattle.status_page.specs.declared.metrics_page.Kind.{Kind}
use Rattle.status_page.specs.declared.metrics_page.Kind.TheVariants.{Counter, Gauge}
use Rattle.status_page.specs.declared.metrics_page.PoolMetric.{PoolMetric}
use Rattle.status_page.specs.declared.metrics_page.PoolMetric.TheVariants.{Limit, Lent, Refusals}
use Rattle.status_page.specs.declared.metrics_page.PoolMetric.TheVariants.{Waits}
use Rattle.status_page.specs.declared.overview.About.{About}
use Rattle.status_page.specs.declared.overview.Overview.{Overview}

abbrev pub kind_text : Kind → List ℕ
kind_text Counter = codes "counter"
kind_text Gauge = codes "gauge"

-- the lines with what a metric means, and of what kind it is
abbrev pub family_parts : List ℕ → Kind → List ℕ → List (List ℕ)
family_parts name kind help =
    codes "# HELP " ∷ name ∷ codes " " ∷ help ∷ codes "\n# TYPE " ∷ name ∷ codes " "
    ∷ kind_text kind ∷ codes "\n" ∷ []

unfoldable pub family : List ℕ → Kind → List ℕ → List ℕ
family name kind help = concat (family_parts name kind help)

-- a metric without labels
unfoldable pub metric : List ℕ → Kind → List ℕ → ℕ → List ℕ
metric name kind help number =
    family name kind help ++ name ++ codes " " ++ decimal number ++ codes "\n"

-- a sample of a counter with one label
abbrev pub sample_parts : List ℕ → List ℕ → List ℕ → ℕ → List (List ℕ)
sample_parts name key value number =
    name ∷ codes "{" ∷ key ∷ codes "=\"" ∷ value ∷ codes "\"} " ∷ decimal number ∷ codes "\n"
    ∷ []

unfoldable pub sample : List ℕ → List ℕ → List ℕ → ℕ → List ℕ
sample name key value number = concat (sample_parts name key value number)

-- samples of a counter, one for each of these kinds, by its label
abbrev pub samples : List ℕ → List ℕ → List ℕ → List Count → List ℕ
samples name key numbers kinds =
    flat_map (λ what. sample name key (label_of what) (count_at what numbers)) kinds

-- a counter with a sample for each of these kinds
unfoldable pub labelled : List ℕ → List ℕ → List ℕ → List ℕ → List Count → List ℕ
labelled name help key numbers kinds = family name Counter help ++ samples name key numbers kinds

-- the name and the address of a zone, as labels
abbrev pub about_metric_parts : About → List (List ℕ)
about_metric_parts about =
    family (codes "gambyrei_zone_info") Gauge
    (codes "The zone: its gatekeeper identifier and its RAS address.")
    ∷ codes "gambyrei_zone_info{name=\"" ∷ label_text about.name
    ∷ codes "\",address=\"" ∷ address_text about.address ∷ codes "\"} 1\n" ∷ []

unfoldable pub about_metric : About → List ℕ
about_metric about = concat (about_metric_parts about)

-- the figures of a zone
abbrev pub figure_metric_parts : ZoneFigures → List (List ℕ)
figure_metric_parts figures =
    metric (codes "gambyrei_clock_seconds") Gauge
    (codes "Whole seconds since the zone began to be served.") (figures.clock / 1000)
    ∷ metric (codes "gambyrei_steps_total") Counter
    (codes "Steps of the zone.") figures.steps
    ∷ metric (codes "gambyrei_endpoints") Gauge
    (codes "Registered endpoints.") figures.endpoints
    ∷ metric (codes "gambyrei_calls") Gauge
    (codes "Open calls.") figures.calls
    ∷ metric (codes "gambyrei_kept_replies") Gauge
    (codes "Replies that are kept for repeated requests, or being made.") figures.kept
    ∷ metric (codes "gambyrei_bandwidth_in_use") Gauge
    (codes "Bandwidth of the open calls, in units of 100 bit/s.") figures.in_use
    ∷ metric (codes "gambyrei_bandwidth_limit") Gauge
    (codes "The most bandwidth that may be in use, in units of 100 bit/s.") figures.limit
    ∷ []

unfoldable pub figure_metrics : ZoneFigures → List ℕ
figure_metrics figures = concat (figure_metric_parts figures)

-- the figures of pools: their names, their kinds, what they mean, and their numbers
abbrev pub pool_name : PoolMetric → List ℕ
pool_name Limit = codes "gambyrei_pool_limit"
pool_name Lent = codes "gambyrei_pool_lent"
pool_name Refusals = codes "gambyrei_pool_refusals_total"
pool_name Waits = codes "gambyrei_pool_waits_total"

abbrev pub pool_kind : PoolMetric → Kind
pool_kind Limit = Gauge
pool_kind Lent = Gauge
pool_kind Refusals = Counter
pool_kind Waits = Counter

abbrev pub pool_help : PoolMetric → List ℕ
pool_help Limit = codes "The most bandwidth that a pool lends, in units of 100 bit/s."
pool_help Lent = codes "Bandwidth that a pool has lent, in units of 100 bit/s."
pool_help Refusals = codes "Requests that a pool refused."
pool_help Waits = codes "Requests that a pool answered by wait."

abbrev pub pool_number : PoolMetric → Figures → ℕ
pool_number Limit pool = pool.limit
pool_number Lent pool = pool.lent
pool_number Refusals pool = pool.refusals
pool_number Waits pool = pool.waits

-- a sample of a pool, whose label is its place
unfoldable pub pool_sample : PoolMetric → ℕ → Figures → List ℕ
pool_sample which place pool =
    pool_name which ++ codes "{pool=\"" ++ decimal place ++ codes "\"} "
    ++ decimal (pool_number which pool) ++ codes "\n"

-- one figure of each pool
unfoldable pub pool_metric : PoolMetric → List Figures → List ℕ
pool_metric which pools =
    family (pool_name which) (pool_kind which) (pool_help which)
    ++ numbered (pool_sample which) 0 pools

unfoldable pub pool_metrics : List Figures → List ℕ
pool_metrics pools =
    pool_metric Limit pools ++ pool_metric Lent pools ++ pool_metric Refusals pools
    ++ pool_metric Waits pools

-- a sample of the rejects, by message and reason
abbrev pub reject_sample_parts : Reject → ℕ → List (List ℕ)
reject_sample_parts which number =
    codes "gambyrei_rejects_total{message=\"" ∷ reply_label (reject_message which)
    ∷ codes "\",reason=\"" ∷ reject_label which ∷ codes "\"} " ∷ decimal number ∷ codes "\n" ∷ []

unfoldable pub reject_sample : Reject → ℕ → List ℕ
reject_sample which number = concat (reject_sample_parts which number)

unfoldable pub reject_samples : List ℕ → List Reject → List ℕ
reject_samples numbers kinds =
    flat_map (λ which. reject_sample which (count_at (count.Reject which) numbers)) kinds

unfoldable pub reject_metric : List ℕ → List ℕ
reject_metric numbers =
    family (codes "gambyrei_rejects_total") Counter
    (codes "Replies that rejected a request, by message and reason.")
    ++ reject_samples numbers rejects

-- what was counted of the steps of a zone
abbrev pub count_metric_parts : List ℕ → List (List ℕ)
count_metric_parts numbers =
    labelled (codes "gambyrei_requests_total")
    (codes "Requests that were read.") (codes "kind") numbers requests
    ∷ labelled (codes "gambyrei_replies_total")
    (codes "Messages that were to be sent.") (codes "kind") numbers replies
    ∷ reject_metric numbers
    ∷ labelled (codes "gambyrei_ignored_total")
    (codes "Datagrams that were ignored.") (codes "cause") numbers ignored
    ∷ labelled (codes "gambyrei_turns_total")
    (codes "Turns of the timers, by what they did.") (codes "deed") numbers turns
    ∷ labelled (codes "gambyrei_pool_answers_total")
    (codes "Answers of pools to requests for bandwidth.") (codes "answer") numbers answers
    ∷ metric (codes "gambyrei_repeats_total") Counter
    (codes "Datagrams that came before, so that their kept replies were sent again.")
    (count_at count.Repeat numbers)
    ∷ []

unfoldable pub count_metrics : List ℕ → List ℕ
count_metrics numbers = concat (count_metric_parts numbers)

-- what the server counted
abbrev pub server_metric_parts : ServerFigures → List (List ℕ)
server_metric_parts server =
    metric (codes "gambyrei_received_total") Counter
    (codes "Datagrams that were received.") server.received
    ∷ metric (codes "gambyrei_sent_total") Counter
    (codes "Datagrams that were sent.") server.sent
    ∷ metric (codes "gambyrei_dropped_total") Counter
    (codes "Replies that found no place on their way to the sender.") server.dropped
    ∷ metric (codes "gambyrei_refused_total") Counter
    (codes "Steps that were not made for want of memory.") server.refused
    ∷ metric (codes "gambyrei_receive_faults_total") Counter
    (codes "Receives that failed.") server.receive_faults
    ∷ metric (codes "gambyrei_send_faults_total") Counter
    (codes "Sends that failed.") server.send_faults
    ∷ []

unfoldable pub server_metrics : ServerFigures → List ℕ
server_metrics server = concat (server_metric_parts server)

-- all of it
abbrev pub metrics_of : About → Overview → List ℕ
metrics_of about overview =
    about_metric about ++ figure_metrics overview.figures ++ pool_metrics overview.pools.items
    ++ count_metrics overview.counts ++ server_metrics overview.server
