-- Whatever a request comes to, an identifier is handed out only to an endpoint that is told it.
use Rattle.std.proofs.Common.{◌≡◌, ◌==◌, ℕ, Bool, true, false, List, [], ◌∷◌, length, refl, sym}
use Rattle.std.proofs.Common.{ap, ◌∙◌, subst, cond, arith, Some, None}
use Rattle.std.specs.Prelude.{IfSome, IsSome, Option, filter, if◌then◌else◌, nat_le, nat_lt}
use Rattle.std.proofs.lemmas.Bool.Decides.{nat_tests}
use Rattle.std.specs.List.{AllByRecursion}
use Rattle.std.specs.FinMap.{get, insert, len}
use Rattle.keyed.specs.Maps.{update}
use Rattle.ras_module.specs.declared.address.Address.{Address}
use Rattle.ras_module.specs.declared.alias.Alias.{Alias}
use Rattle.ras_module.specs.declared.reason.GatekeeperRejectReason.TheVariants.{TerminalExcluded}
use Rattle.ras_module.specs.declared.reason.RegistrationRejectReason.{RegistrationRejectReason}
use Rattle.ras_module.specs.declared.reason.RegistrationRejectReason.TheVariants as reject
use reject.{DiscoveryRequired, InvalidCallSignalAddress, InvalidRasAddress, DuplicateAlias}
use reject.{ResourceUnavailable, FullRegistrationRequired}
use Rattle.ras_module.specs.declared.reply.Reply.{Reply}
use Rattle.ras_module.specs.declared.reply.Reply.TheVariants.{Gcf, Grj, Rcf}
use Rattle.ras_module.specs.declared.request.AdmissionRequest.{AdmissionRequest}
use Rattle.ras_module.specs.declared.request.BandwidthRequest.{BandwidthRequest}
use Rattle.ras_module.specs.declared.request.DisengageRequest.{DisengageRequest}
use Rattle.ras_module.specs.declared.request.GatekeeperRequest.{GatekeeperRequest}
use Rattle.ras_module.specs.declared.request.RegistrationRequest.{RegistrationRequest}
use Rattle.ras_module.specs.declared.request.Request.{Request}
use Rattle.ras_module.specs.declared.request.Request.TheVariants.{Grq, Rrq, Urq, Arq, Brq, Drq, Irr}
use Rattle.ras_module.specs.Aliases.{without_doubles}
use Rattle.registrations.specs.declared.registration.Registration.{Registration}
use Rattle.registrations.specs.Registry.{IsConsistent, Live, after_rewrite, at_address}
use Rattle.registrations.specs.Registry.{with_deadline}
use Rattle.registrations.specs.Agreement.{registered_elsewhere}
use Rattle.registrations.proofs.Consistent.{IsAt-found}
use Rattle.admission.specs.declared.call.Call.{Call}
use Rattle.admission.specs.declared.leg.Leg.{Leg}
use Rattle.admission.specs.Calls.{OpenCalls, leg_at, legs_of}
use Rattle.pools.specs.declared.interface.Figures.{Figures}
use Rattle.zone_config.specs.Networks.{pool_of}
use Rattle.zone_tables.specs.declared.entry.Entry.{Entry}
use Rattle.zone_tables.specs.Tables.{Tables, heard_now, with_live}
use Rattle.ras_writing.specs.Properties.{AreAliases, IsAddress, IsAlias, IsName}
use Rattle.ras_requests.specs.Arq.{admission_of, destination, making}
use Rattle.ras_requests.specs.Brq.{bandwidth_of, resizing, units_left, wanted}
use Rattle.ras_requests.specs.Drq.{disengagement_of}
use Rattle.ras_requests.specs.Grq.{discovery, is_foreign}
use Rattle.ras_requests.specs.Plans.{Plan, Served, Settled, Naming, Asking, hearing, unchanged}
use Rattle.ras_requests.specs.Requests.{plan_of}
use Rattle.ras_requests.specs.Rrq.{deadline, entering, full_registration}
use Rattle.ras_requests.specs.Rrq.{granted, has_moved, keep_alive, named, new_registration}
use Rattle.ras_requests.specs.Rrq.{registration, rejection, unless_held}
use Rattle.ras_requests.specs.Standing.{Standing, NoCall, NoLeg, HasLeg, standing}
use Rattle.ras_requests.specs.Urq.{departure, leaving}
use Rattle.ras_machine.specs.declared.job.Occasion.{Occasion}
use Rattle.ras_machine.specs.declared.job.Occasion.TheVariants.{Again, Anew, First}
use Rattle.ras_machine.specs.Keeping.{plan_at}
use Rattle.ras_machine.specs.Soundness.{MayRequestUnits}
use Rattle.record_laws.proofs.ReadRegistrations.{IsReadRegistration, IsReadRequest}
use Rattle.record_laws.proofs.ToldConfirms.{IsToldConfirm}
use Rattle.record_laws.proofs.ToldTables.{HasTellable, tables_changed}
use Rattle.record_laws.proofs.ToldTables.{tables_heard, tables_removed, tables_with}
use Rattle.record_laws.proofs.ToldTables.{tellable_came}

-- no identifier is handed out by a reply: it confirms no registration, or one that is there
abbrev pub HandsOutNone : Live → Reply → Type 0
HandsOutNone live (Rcf confirm) = IsToldConfirm confirm × IsSome (get live confirm.endpoint)
HandsOutNone live other = Unit {0}

-- this one is: it confirms a registration under it
abbrev pub HandsOut : List ℕ → Reply → Type 0
HandsOut id (Rcf confirm) = IsToldConfirm confirm × (confirm.endpoint ≡ id)
HandsOut id other = ⊥

-- a request is served, no identifier is handed out, and the registrations can be told then
pub record IsOldServed (z : Tables) (served : Served) : Type 0 where
  pub reply_is : HandsOutNone z.live served.reply
  pub tables_are : HasTellable served.tables

-- this one is handed out
pub record IsNewServed (id : List ℕ) (served : Served) : Type 0 where
  pub reply_is : HandsOut id served.reply
  pub tables_are : HasTellable served.tables

abbrev pub IsToldPlan : Tables → Plan → Type 0
IsToldPlan z (Settled served) = IsOldServed z served
IsToldPlan z (Naming named) = (id : List ℕ) → IsName id → IsNewServed id (named id)
IsToldPlan z (Asking ask lent refused) =
    ((units : ℕ) → IsOldServed z (lent units)) × IsOldServed z refused

-- a registration that is there under its own identifier
abbrev IsThere : Live → Option Registration → Type 0
IsThere live found = IfSome found (λ r. get live r.identifier ≡ Some r)

-- what holds of each item holds of those that pass a test, and of those without later doubles
filter_keeps : {A : Type 0} (P : A → Type 0) (test : A → Bool) (xs : List A)
    → AllByRecursion P xs → AllByRecursion P (filter test xs)
filter_keeps {A} P test [] h = tt
filter_keeps {A} P test (x ∷ xs) h = by_test (test x) (filter_keeps P test xs h.1) where
  by_test : (b : Bool) → AllByRecursion P (filter test xs)
      → AllByRecursion P (cond b (x ∷ filter test xs) (filter test xs))
  by_test true others = (h.0, others)
  by_test false others = others

without_doubles_keeps : (aliases : List Alias) → AllByRecursion IsAlias aliases
    → AllByRecursion IsAlias (without_doubles aliases)
without_doubles_keeps [] h = tt
without_doubles_keeps (alias ∷ aliases) h =
    (h.0, filter_keeps IsAlias _ (without_doubles aliases) (without_doubles_keeps aliases h.1))

module _ (z : Tables) (has : HasTellable z) where
  either : (b : Bool) (p q : Plan) → IsToldPlan z p → IsToldPlan z q
      → IsToldPlan z (if b then p else q)
  either true p q hp hq = hp
  either false p q hp hq = hq

  -- the calls and the pools change, and no registration
  calls_too : (calls : OpenCalls) (pools : List Figures)
      → HasTellable (record z { calls = calls; pools = pools })
  calls_too calls pools = record { answered = has.answered; each = has.each }

  -- GRQ
  discovers : (q : GatekeeperRequest) → IsOldServed z (unchanged z (discovery z q))
  discovers q = by_test (is_foreign z q.gatekeeper) where
    by_test : (b : Bool)
        → IsOldServed z (unchanged z (if b
        then Grj q.seq TerminalExcluded
        else Gcf (record {
          seq = q.seq;
          gatekeeper = z.config.identifier;
          ras = z.config.address;
        })))
    by_test true = record { reply_is = tt; tables_are = has }
    by_test false = record { reply_is = tt; tables_are = has }

  -- RRQ
  module _ (own : IsConsistent z.live) (now : ℕ) (q : RegistrationRequest)
      (read : IsReadRegistration q) where
    rejects : (reason : RegistrationRejectReason) → IsToldPlan z (rejection z q reason)
    rejects reason = record { reply_is = tt; tables_are = has }

    confirms : (call_signal : Address) (aliases : List Alias) (id : List ℕ)
        → IsAddress call_signal → AreAliases aliases → IsName id
        → IsToldConfirm (record {
          seq = q.seq;
          call_signal = call_signal;
          aliases = aliases;
          gatekeeper = z.config.identifier;
          endpoint = id;
          granted = granted z q.time_to_live;
        })
    confirms call_signal aliases id located few name = record {
      numbered = read.numbered;
      located = located;
      named = few;
      answered = has.answered;
      identified = name;
    }

    is_there : (r : Registration) → get z.live r.identifier ≡ Some r
        → IsSome (get z.live r.identifier)
    is_there r there = subst (λ (w : Option Registration). IsSome w) (sym there) refl

    -- keepAlive
    alive : (w : Option Registration) → IsThere z.live w → IsToldPlan z (keep_alive z now q w)
    alive None there = rejects FullRegistrationRequired
    alive (Some r) there =
        let old = has.each r.identifier r there in
        either (has_moved r q.ras) _ _ (rejects FullRegistrationRequired) (record {
          reply_is = (
            confirms r.call_signal r.aliases r.identifier old.located old.named old.identified,
            is_there r there,
          );
          tables_are = tables_changed z has r.identifier (with_deadline (deadline z now q))
              (λ r h. record {
                located = h.located;
                named = h.named;
                identified = h.identified;
              });
        })

    named_there : (endpoint : Option (List ℕ)) → IsThere z.live (named z endpoint)
    named_there None = tt
    named_there (Some id) = by_entry (get z.live id) refl where
      by_entry : (w : Option Registration) → get z.live id ≡ w → IsThere z.live w
      by_entry None is = tt
      by_entry (Some r) is = ap (get z.live) (own.own id r is) ∙ is

    -- a full registration
    enters : (e : Entry) → IsAddress e.call_signal → AreAliases e.aliases
        → (w : Option Registration) → IsThere z.live w → IsToldPlan z (entering z now q e w)
    enters e located few (Some r) there =
        let old = has.each r.identifier r there in
        let rewritten = tables_changed z has r.identifier
        (after_rewrite e.ras e.aliases (deadline z now q))
        (λ r h. record { located = h.located; named = few; identified = h.identified }) in
        record {
          reply_is = (
            confirms e.call_signal e.aliases r.identifier located few old.identified,
            is_there r there,
          );
          tables_are = tables_heard (with_live z (update z.live r.identifier
              (after_rewrite e.ras e.aliases (deadline z now q)))) rewritten now r.identifier;
        }
    enters e located few None there =
        either (len z.live == z.config.endpoints) _ _ (rejects ResourceUnavailable)
        (λ id name. record {
          reply_is = (confirms e.call_signal e.aliases id located few name, refl);
          tables_are = tables_with z has (insert z.live id (new_registration z now q e id))
              (tellable_came z.live has.each id (new_registration z now q e id) (record {
                located = located;
                named = few;
                identified = name;
              }));
        })

    address_there : (address : Address) → IsThere z.live (at_address z.live address)
    address_there address = by_entry (at_address z.live address) refl where
      by_entry : (w : Option Registration) → at_address z.live address ≡ w → IsThere z.live w
      by_entry None is = tt
      by_entry (Some r) is = (IsAt-found z.live own address r is).live_is

    held : (e : Entry) → IsAddress e.call_signal → AreAliases e.aliases
        → (aliases : List Alias) → IsToldPlan z (unless_held z now q e aliases)
    held e located few [] =
        enters e located few (at_address z.live e.call_signal) (address_there e.call_signal)
    held e located few (alias ∷ aliases) = rejects (DuplicateAlias (alias ∷ aliases))

    full : (call_signal ras : Option Address) (aliases : List Alias)
        → IfSome call_signal IsAddress → AllByRecursion IsAlias aliases
        → IsToldPlan z (full_registration z now q call_signal ras aliases)
    full None ras aliases located each = rejects InvalidCallSignalAddress
    full (Some call_signal) None aliases located each = rejects InvalidRasAddress
    full (Some call_signal) (Some ras) aliases located each =
        by_test (nat_lt 32 (length aliases)) refl where
          e : Entry
          e = record { call_signal = call_signal; ras = ras; aliases = aliases }

          by_test : (b : Bool) → nat_lt 32 (length aliases) ≡ b
              → IsToldPlan z (if b
              then rejection z q ResourceUnavailable
              else unless_held z now q e (registered_elsewhere z.live call_signal aliases))
          by_test true is = rejects ResourceUnavailable
          by_test false is =
              held e located (record { few = grind (arith, nat_tests, is); each = each })
              (registered_elsewhere z.live call_signal aliases)

    registers : IsToldPlan z (registration z now q)
    registers =
        either (is_foreign z q.gatekeeper) _ _ (rejects DiscoveryRequired)
        (either q.keep_alive _ _ (alive (named z q.endpoint) (named_there q.endpoint))
        (full q.call_signal q.ras (without_doubles q.aliases) read.located
        (without_doubles_keeps q.aliases read.named)))

  -- URQ
  departs : (seq : ℕ) (w : Option Registration) → IsToldPlan z (departure z seq w)
  departs seq None = record { reply_is = tt; tables_are = has }
  departs seq (Some r) =
      either (nat_lt 0 (legs_of z.calls r.identifier)) _ _
      (record { reply_is = tt; tables_are = has })
      (record { reply_is = tt; tables_are = tables_removed z has r.identifier })

  -- DRQ
  disengages : (q : DisengageRequest) (w : Option Registration) (leg : Option Leg)
      → IsToldPlan z (disengagement_of z q w leg)
  disengages q None leg = record { reply_is = tt; tables_are = has }
  disengages q (Some r) None = record { reply_is = tt; tables_are = has }
  disengages q (Some r) (Some leg) = record { reply_is = tt; tables_are = calls_too _ _ }

  -- ARQ
  makes : (q : AdmissionRequest) (pool : ℕ) (told : Address) → IsToldPlan z (making z q pool told)
  makes q pool told =
      either (len z.calls == z.config.calls) _ _ (record { reply_is = tt; tables_are = has })
      (either (wanted z q.asked == 0) _ _ (record { reply_is = tt; tables_are = calls_too _ _ })
      (either (units_left z == 0) _ _ (record { reply_is = tt; tables_are = has }) (
        λ units. record { reply_is = tt; tables_are = calls_too _ _ },
        record { reply_is = tt; tables_are = has },
      )))

  admits : (q : AdmissionRequest) (w : Option Registration) (stands : Standing)
      (told : Option Address) → IsToldPlan z (admission_of z q w stands told)
  admits q None stands told = record { reply_is = tt; tables_are = has }
  admits q (Some r) (HasLeg call leg) told = record { reply_is = tt; tables_are = has }
  admits q (Some r) (NoLeg call) None = record { reply_is = tt; tables_are = has }
  admits q (Some r) NoCall None = record { reply_is = tt; tables_are = has }
  admits q (Some r) (NoLeg call) (Some told) =
      either (length call.legs == 1) _ _ (record { reply_is = tt; tables_are = calls_too _ _ })
      (record { reply_is = tt; tables_are = has })
  admits q (Some r) NoCall (Some told) =
      makes q (pool_of z.config.networks r.call_signal.ip) told

  -- BRQ
  resizes : (q : BandwidthRequest) (call : Call) → IsToldPlan z (resizing z q call)
  resizes q call =
      either (nat_le (wanted z q.asked) call.units) _ _
      (record { reply_is = tt; tables_are = calls_too _ _ })
      (either (units_left z == 0) _ _ (record { reply_is = tt; tables_are = has }) (
        λ units. record { reply_is = tt; tables_are = calls_too _ _ },
        record { reply_is = tt; tables_are = has },
      ))

  bounds : (q : BandwidthRequest) (w : Option Registration) (stands : Standing)
      → IsToldPlan z (bandwidth_of z q w stands)
  bounds q None stands = record { reply_is = tt; tables_are = has }
  bounds q (Some r) NoCall = record { reply_is = tt; tables_are = has }
  bounds q (Some r) (NoLeg call) = record { reply_is = tt; tables_are = has }
  bounds q (Some r) (HasLeg call leg) = resizes q call

  -- what a request comes to, if it has a reply
  pub plan_is_told : IsConsistent z.live → (now : ℕ) (request : Request) → IsReadRequest request
      → IfSome (plan_of z now request) (IsToldPlan z)
  plan_is_told own now (Grq q) read = discovers q
  plan_is_told own now (Rrq q) read = registers own now q read
  plan_is_told own now (Urq q) read = departs q.seq (leaving z q.endpoint q.call_signal)
  plan_is_told own now (Arq q) read =
      let caller = get z.live q.endpoint in
      admits q caller (standing (get z.calls q.call) q.endpoint) (destination z q caller)
  plan_is_told own now (Brq q) read =
      bounds q (get z.live q.endpoint) (standing (get z.calls q.call) q.endpoint)
  plan_is_told own now (Drq q) read =
      disengages q (get z.live q.endpoint) (leg_at z.calls q.call q.endpoint)
  plan_is_told own now (Irr q) read = tt

-- that its endpoint was heard changes none of this
heard_old : (z : Tables) (now : ℕ) (id : List ℕ) (served : Served) → IsOldServed z served
    → IsOldServed z (record served {
      tables = with_live served.tables (heard_now now id served.tables.live);
    })
heard_old z now id served is = record {
  reply_is = is.reply_is;
  tables_are = tables_heard served.tables is.tables_are now id;
}

heard_too : (z : Tables) (now : ℕ) (endpoint : Option (List ℕ)) (plan : Plan)
    → IsToldPlan z plan → IsToldPlan z (hearing now endpoint plan)
heard_too z now None (Settled served) is =
    record { reply_is = is.reply_is; tables_are = is.tables_are }
heard_too z now (Some id) (Settled served) is = heard_old z now id served is
heard_too z now None (Naming named) is = is
heard_too z now (Some id) (Naming named) is =
    λ new name. record {
      reply_is = (is new name).reply_is;
      tables_are = tables_heard (named new).tables (is new name).tables_are now id;
    }
heard_too z now None (Asking ask lent refused) is = is
heard_too z now (Some id) (Asking ask lent refused) is =
    (λ units. heard_old z now id (lent units) (is.0 units), heard_old z now id refused is.1)

pub told_at : (z : Tables) (occasion : Occasion) (now : ℕ) (endpoint : Option (List ℕ))
    (plan : Plan) → IsToldPlan z plan → IsToldPlan z (plan_at occasion now endpoint plan)
told_at z (First dropped) now endpoint plan is = heard_too z now endpoint plan is
told_at z Anew now endpoint plan is = heard_too z now endpoint plan is
told_at z (Again born left) now endpoint plan is = is

-- ---- requests that may wait

-- no identifier is handed out by a plan
abbrev pub NamesNone : Plan → Type 0
NamesNone (Naming named) = ⊥
NamesNone other = Unit {0}

names_either : (b : Bool) (p q : Plan) → NamesNone p → NamesNone q → NamesNone (if b then p else q)
names_either true p q hp hq = hp
names_either false p q hp hq = hq

module _ (z : Tables) where
  making_names : (q : AdmissionRequest) (pool : ℕ) (told : Address)
      → NamesNone (making z q pool told)
  making_names q pool told =
      names_either (len z.calls == z.config.calls) _ _ tt
      (names_either (wanted z q.asked == 0) _ _ tt
      (names_either (units_left z == 0) _ _ tt tt))

  admission_names : (q : AdmissionRequest) (w : Option Registration) (stands : Standing)
      (told : Option Address) → NamesNone (admission_of z q w stands told)
  admission_names q None stands told = tt
  admission_names q (Some r) (HasLeg call leg) told = tt
  admission_names q (Some r) (NoLeg call) None = tt
  admission_names q (Some r) NoCall None = tt
  admission_names q (Some r) (NoLeg call) (Some told) =
      names_either (length call.legs == 1) _ _ tt tt
  admission_names q (Some r) NoCall (Some told) =
      making_names q (pool_of z.config.networks r.call_signal.ip) told

  bandwidth_names : (q : BandwidthRequest) (w : Option Registration) (stands : Standing)
      → NamesNone (bandwidth_of z q w stands)
  bandwidth_names q None stands = tt
  bandwidth_names q (Some r) NoCall = tt
  bandwidth_names q (Some r) (NoLeg call) = tt
  bandwidth_names q (Some r) (HasLeg call leg) =
      names_either (nat_le (wanted z q.asked) call.units) _ _ tt
      (names_either (units_left z == 0) _ _ tt tt)

  -- a request that may wait hands out none, and nothing that is read of it is told
  pub waiting_names : (now : ℕ) (request : Request) → MayRequestUnits request
      → IfSome (plan_of z now request) NamesNone
  waiting_names now (Arq q) may =
      let caller = get z.live q.endpoint in
      admission_names q caller (standing (get z.calls q.call) q.endpoint) (destination z q caller)
  waiting_names now (Brq q) may =
      bandwidth_names q (get z.live q.endpoint) (standing (get z.calls q.call) q.endpoint)
  waiting_names now (Grq q) may = absurd may
  waiting_names now (Rrq q) may = absurd may
  waiting_names now (Urq q) may = absurd may
  waiting_names now (Drq q) may = absurd may
  waiting_names now (Irr q) may = absurd may

pub waiting_read : (request : Request) → MayRequestUnits request → IsReadRequest request
waiting_read (Arq q) may = tt
waiting_read (Brq q) may = tt
waiting_read (Grq q) may = tt
waiting_read (Rrq q) may = absurd may
waiting_read (Urq q) may = tt
waiting_read (Drq q) may = tt
waiting_read (Irr q) may = tt
