-- What is printed of a server's run, and what in it is a fault.
use Rattle.std.specs.Prelude.{ℕ, ◌≡◌, ◌≢◌, ◌⊎◌, ◌++◌, List, Option, IfSome, Some, Ok, codes}
use Rattle.std.specs.Fmt.{decimal}
use Rattle.std.specs.Io.KnownBytes.{Appends}
use Rattle.books.specs.Chapters.{FinishedValue}
use Rattle.settings.specs.Settings.{settings_of}
use Rattle.settings.specs.declared.settings.Settings.{Settings}
use Rattle.surroundings.specs.Zones.{zone_set}
use Rattle.udp_server.specs.Served.{IsServed}
use Rattle.udp_server.specs.declared.report.Report.{Report}

-- something that should have been done wasn't: one of these counts isn't 0
abbrev pub HasFaults : {P : Type 0} → Report P → Type 0
HasFaults report =
    (report.dropped ≢ 0) ⊎ (report.refused ≢ 0)
    ⊎ (report.receive_faults ≢ 0) ⊎ (report.send_faults ≢ 0)

-- `NAME COUNT`
abbrev pub count_line : List ℕ → ℕ → List ℕ
count_line name count = name ++ codes " " ++ decimal count ++ codes "\n"

-- the counts that a report prints
pub record Counted : Type 0 where
  pub datagrams : ℕ
  pub turns : ℕ
  pub sent : ℕ
  pub dropped : ℕ
  pub refused : ℕ
  pub receive_faults : ℕ
  pub send_faults : ℕ

abbrev pub counts_of : {P : Type 0} → Report P → Counted
counts_of report = record {
  datagrams = report.datagrams;
  turns = report.turns;
  sent = report.sent;
  dropped = report.dropped;
  refused = report.refused;
  receive_faults = report.receive_faults;
  send_faults = report.send_faults;
}

-- each of them on a line of its own
abbrev pub counts_text : Counted → List ℕ
counts_text counts =
    count_line (codes "datagrams") counts.datagrams
    ++ count_line (codes "turns") counts.turns
    ++ count_line (codes "sent") counts.sent
    ++ count_line (codes "dropped") counts.dropped
    ++ count_line (codes "refused") counts.refused
    ++ count_line (codes "receive faults") counts.receive_faults
    ++ count_line (codes "send faults") counts.send_faults

abbrev pub report_text : {P : Type 0} → Report P → List ℕ
report_text report = counts_text (counts_of report)

-- Of a run of the zone that is set, a report was printed, once. Its datagrams and turns are those
-- of the run.
pub record IsRunPrinted (settings : Settings) (old new : Option (List ℕ)) : Type 0 where
  pub left : FinishedValue
  pub changes : ℕ
  pub counts : Counted
  pub run : IsServed (zone_set settings).state left counts.datagrams counts.turns changes
  pub text : Appends old new (counts_text counts)

-- Settings were read, those that the octets give, if these are known, and a run of their zone was
-- printed.
pub record IsServicePrinted (octets old new : Option (List ℕ)) : Type 0 where
  pub settings : Settings
  pub read : IfSome octets (λ octets. settings_of octets ≡ Some (Ok settings))
  pub printed : IsRunPrinted settings old new
