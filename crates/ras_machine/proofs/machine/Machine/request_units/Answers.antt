use Rattle.std.proofs.Common.{rules, ℕ, List, [], ◌≡◌, ◌∙◌, Some, None, ap, subst, sym}
use Rattle.std.specs.Option.{option_copied, unwrap_or}
use Rattle.ras_writing.specs.Replies.{encoding_of}
use Rattle.kept_replies.specs.Told.{identifier_in}
use Rattle.zone_events.specs.declared.outcome.Outcome.{Outcome}
use Rattle.zone_config.specs.declared.config.ConfigParts.{ConfigParts}
use Rattle.ras_machine.specs.State.{State}
use Rattle.zone_tables.specs.Tables.{Tables}
use Rattle.ras_machine.specs.inside.Parts.{state_of}
use Rattle.zone_tables.specs.Pools.{pools_after_answer}
use Rattle.ras_machine.specs.Keeping.{dropped_for, kept_with, plan_at, state_after}
use Rattle.zone_config.specs.Terms.{term_of}
use Rattle.ras_machine.specs.Machine.{Serving, note_at}
use Rattle.ras_requests.specs.Planned.{RequestsUnits, asker_of}
use Rattle.ras_requests.specs.Replies.{reply_of}
use Rattle.ras_requests.specs.Requests.{endpoint_of, seq_of}
use Rattle.zone_tables.specs.UnitRequests.{calls_after_answer, units_requested}
use Rattle.ras_machine.specs.Courses.{heard_at, Does}
use Rattle.ras_machine.specs.Soundness.{AreBornBefore}
use Rattle.ras_machine.specs.Steps.{IsTimely}
use Rattle.ras_machine.proofs.Asking.{does_answered}
use Rattle.ras_machine.proofs.Untold.{same_settings, untold}
use Rattle.ras_machine.proofs.machine.Machine.request_units.Goals as goal

pub keep-requires-clause-births : goal.keep-requires-clause-births
keep-requires-clause-births g c =
    subst (AreBornBefore c.self.inside.steps) (sym c.reserve.ensures.kept)
    (subst (λ (m : State). AreBornBefore m.steps m.kept) (sym c.self.view_is) c.requires.sound.born)

pub invariant_of-self-2 : goal.invariant_of-self-2
invariant_of-self-2 g c =
    let i = c.self.inside in
    let asked : c.request_units.new.self.config ≡ i.tables.config =
    ap (λ (z : Tables). z.config) c.in_ok-answer.ensures.tables in
    let heard : c.hear.new.tables.config ≡ c.request_units.new.self.config =
    ap (λ (z : Tables). z.config) c.hear.ensures.heard
    ∙ same_settings c.request_units.new.self c.args.job.occasion c.args.now
    (endpoint_of c.args.request) in
    let most : c.keep.new.kept.most ≡ i.kept.most =
    c.keep.ensures.most ∙ c.reserve.ensures.most in
    record {
      tables = c.hear.ensures.sound;
      kept = c.keep.ensures.sound;
      most = most ∙ (c.self.invariant.most
          ∙ ap (λ (config : ConfigParts). config.kept) (sym (heard ∙ asked)));
      clock = c.self.invariant.clock;
      least_number = c.self.invariant.least_number;
      most_number = c.self.invariant.most_number;
      steps = c.self.invariant.steps;
    }

pub in_buffer-kept_reply-requires-clause-untold : goal.in_buffer-kept_reply-requires-clause-untold
in_buffer-kept_reply-requires-clause-untold g c =
    ap identifier_in c.unit_reply-reply.ensures
    ∙ untold c.seq_of.result c.args.unit_request c.in_ok-answer.answer c.waits-waits.result c.delay-delay.result

pub returns-clause-does : goal.returns-clause-does
returns-clause-does g c plan asks =
    let i = c.self.inside in
    let now = c.args.now in
    let job = c.args.job in
    let q = c.args.unit_request in
    let request = c.args.request in
    let endpoint = endpoint_of request in
    let answer = c.in_ok-answer.answer in
    let w = c.waits-waits.result in
    let reply = c.unit_reply-reply.result in
    let old =
    state_of i.tables i.kept.kept i.clock i.interrogation_number i.next_pool_turn i.steps in
    let tables = c.hear.new.tables in
    let kept = c.keep.new.kept.kept in
    let asked : Tables = record i.tables {
      calls = calls_after_answer (asker_of request) q answer i.tables.calls;
      pools = pools_after_answer i.tables.pools (units_requested q) answer;
    } in
    let asker_is : c.unwrap-endpoint.result.now ≡ asker_of request =
    ap (λ w. unwrap_or w []) (sym (ap option_copied c.unwrap-endpoint.ensures) ∙ c.endpoint_of.ensures) in
    let asked_is : c.request_units.new.self ≡ asked =
    c.in_ok-answer.ensures.tables
    ∙ ap (λ (id : List ℕ). record i.tables {
      calls = calls_after_answer id q answer i.tables.calls;
      pools = pools_after_answer i.tables.pools (units_requested q) answer;
    }) asker_is in
    let tables_is : tables ≡ heard_at asked job.occasion now endpoint =
    c.hear.ensures.heard ∙ ap (λ (z : Tables). heard_at z job.occasion now endpoint) asked_is in
    let config_is = c.config-config.ensures.same in
    let term_is = c.term-term.ensures.same
    ∙ ap (λ (config : ConfigParts). term_of config now) config_is in
    let kept_is : kept ≡ kept_with i.kept.kept job.key job.occasion i.steps
    (state_after request reply w (term_of i.tables.config now)) =
    c.keep.ensures.kept
    ∙ (λ j. kept_with (c.reserve.ensures.kept j) job.key job.occasion i.steps
    ((c.state_after-state.ensures ∙ ap (state_after request reply w) term_is) j)) in
    let reply_is : reply ≡ reply_of (seq_of request) q answer w i.tables.config.delay =
    c.unit_reply-reply.ensures ∙ (λ j. reply_of (c.seq_of.ensures j) q answer w
    ((c.delay-delay.ensures ∙ ap (λ (config : ConfigParts). config.delay) config_is) j)) in
    let back = sym c.self.view_is in
    let does = does_answered old now job endpoint c.requires.endpoint request q answer w reply
    tables kept c.waits-waits.ensures c.in_ok-answer.ensures.answer
    (subst (λ (m : State). IsTimely m now job.occasion) back c.requires.timely)
    (subst (λ (m : State). AreBornBefore m.steps m.kept) back c.requires.sound.born)
    reply_is c.write_reserved.ensures.most tables_is kept_is plan
    (subst (λ (m : State). RequestsUnits m.tables request plan q) back asks) in
    let course = Serving (record {
      job = job;
      request = request;
      plan = plan_at job.occasion now endpoint plan;
    }) in
    let new : State = record old { tables = tables; kept = kept } in
    let bytes_is : c.from_vec-bytes.result ≡ encoding_of reply = search rules in
    let due : Outcome = record {
      answer = Some answer;
      output = Some (record { to = job.key.source; bytes = encoding_of reply });
      note = note_at job.occasion;
      dropped = dropped_for job.occasion;
      given = None;
    } in
    let outcome : Outcome = record {
      answer = Some answer;
      output = Some (record { to = job.key.source; bytes = c.from_vec-bytes.result });
      note = c.note-outcome.result;
      dropped = c.dropped-outcome.result;
      given = None;
    } in
    let outcome_is : due ≡ outcome = λ j. record {
      answer = Some answer;
      output = Some (record { to = job.key.source; bytes = sym bytes_is j });
      note = sym c.note-outcome.ensures j;
      dropped = sym c.dropped-outcome.ensures j;
      given = None;
    } in
    subst (λ (m : State). Does m now course outcome new) c.self.view_is
    (subst (λ (o : Outcome). Does old now course o new) outcome_is does)
