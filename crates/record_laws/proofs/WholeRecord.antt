-- An audit of the record of a run finds the steps of the run.
use Rattle.std.proofs.Common.{None, ◌≡◌, ◌≤◌, ◌<◌, ◌+◌, ℕ, List, [], ◌∷◌, ◌++◌, length, map, codes}
use Rattle.std.proofs.Common.{Option}
use Rattle.std.proofs.Common.{Result, refl, sym, ap, ◌∙◌, append_assoc}
use Rattle.std.proofs.Common.{arith, subst, ◌^◌}
use Rattle.zone_config.specs.Keys.{all_keys}
use Rattle.zone_events.specs.declared.event.Event.{Event}
use Rattle.zone_events.specs.declared.event.Event.TheVariants.{Datagram, Turn}
use Rattle.zone_events.specs.declared.outcome.Outcome.{Outcome}
use Rattle.ras_machine.specs.State.{State}
use Rattle.script.specs.declared.event.ScriptEvent.TheVariants as script
use Rattle.script.specs.declared.fault.ScriptFault.{ScriptFault}
use Rattle.script.specs.declared.line.Line.{Line}
use Rattle.script.specs.declared.line.Line.TheVariants.{Pool, Set}
use Rattle.script.specs.declared.read.Script.{Script}
use Rattle.script.specs.EventLines.{event_line}
use Rattle.script.specs.Prints.{lines_from}
use Rattle.record_audit.specs.Records.{Describes, GoesThrough, Opens, Standing, beginning}
use Rattle.record_audit.specs.Records.{nothing_said}
use Rattle.record_audit.specs.Lines.{begun_behind, lines_behind}
use Rattle.record_audit.specs.Records.{most_octets}
use Rattle.record_audit.specs.Written.{event_text}
use Rattle.record_audit.proofs.OneRun.{one_record}
use Rattle.record_audit.proofs.ReadingBack as reading
use Rattle.recording.specs.Records.{record_text, step_lines}
use Rattle.recording.specs.Zones.{ZoneParts, pool_line_text, setting_text, with_ends, zone_lines}
use Rattle.recording.specs.Zones.{zone_texts}
use Rattle.recording.proofs.WholeZones.{AreRead, entries_in, head_is, head_lines, named_in}
use Rattle.recording.proofs.WholeZones.{settings_in}
use Rattle.record_laws.specs.Outcomes.{outcome_text}
use Rattle.record_laws.specs.WholeRecords.{IsFoundAgain, IsToldZone, ToldRun, made, opened}
use Rattle.record_laws.specs.WholeRecords.{recorded, zone_behind}
use Rattle.record_laws.proofs.EventsRead.{event_is_a_line}
use Rattle.record_laws.proofs.OutcomesRead.{outcome_flat, read_back}
use Rattle.record_laws.proofs.Reached.{opening_reached}
use Rattle.record_laws.proofs.RecordLines.{AreLines, Steps, ends_append, goes_on, lines_append}
use Rattle.record_laws.proofs.RecordLines.{lines_are, none_begun}
use Rattle.record_laws.proofs.StepsThrough.{at, awaiting, counted, event_mark, event_through}
use Rattle.record_laws.proofs.StepsThrough.{few_steps}
use Rattle.record_laws.proofs.StepsThrough.{texts_from}
use Rattle.record_laws.proofs.ZoneThrough.{AreShort, are_lines, describing, pools_through}
use Rattle.record_laws.proofs.ZoneThrough.{settings_through, zone_through}

-- ---- the text of a record is its lines

event_flat : (event : Event) → event_line (script.Event event) ≡ event_text event ++ codes "\n"
event_flat (Datagram source bytes moment) = simp append_assoc
event_flat (Turn moment) = simp append_assoc

two_lines : (event outcome rest : List ℕ)
    → ((event ++ codes "\n") ++ (outcome ++ codes "\n")) ++ rest
    ≡ (event ++ codes "\n") ++ ((outcome ++ codes "\n") ++ rest)
two_lines event outcome rest = append_assoc (event ++ codes "\n") (outcome ++ codes "\n") rest

steps_text : (steps : List (Event × Outcome)) (number : ℕ)
    → lines_from step_lines number (map recorded steps) ≡ with_ends (texts_from number steps)
steps_text [] number = refl
steps_text (step ∷ steps) number =
    (λ i. (event_flat step.0 i ++ outcome_flat number step.1 i) ++ steps_text steps (number + 1) i)
    ∙ two_lines (event_text step.0) (outcome_text number step.1)
    (with_ends (texts_from (number + 1) steps))

steps_are_lines : (steps : List (Event × Outcome)) (s after : State) (number : ℕ)
    → number ≡ s.steps + 1 → ToldRun s steps after → AreLines (texts_from number steps)
steps_are_lines [] s after number is run = tt
steps_are_lines (step ∷ steps) s after number is run =
    let small : number < 2 ^ 64 =
    omega (arith, is, few_steps s step.0 step.1 run.1 run.2) in (
      event_is_a_line step.0 run.0.event_is,
      (
        (read_back number step.1 small run.0.outcome_is).no_end,
        steps_are_lines steps run.1 after (number + 1)
            (omega (arith, is, counted s step.0 step.1 run.1 run.2)) run.3,
      ),
    )

record_flat : (zone : ZoneParts) (steps : List (Event × Outcome))
    → record_text zone (map recorded steps) ≡ with_ends (zone_texts zone ++ texts_from 1 steps)
unfolding zone_lines
record_flat zone steps =
    ap (λ (t : List ℕ). with_ends (zone_texts zone) ++ t) (steps_text steps 1)
    ∙ sym (ends_append (zone_texts zone) (texts_from 1 steps))

-- ---- the lines of the zone

read_split : (xs ys : List Line) (ps qs : List (List ℕ)) → length xs ≡ length ps
    → AreRead (xs ++ ys) (ps ++ qs) → AreRead xs ps × AreRead ys qs
read_split [] ys [] qs same h = (tt, h)
read_split [] ys (p ∷ ps) qs same h = absurd (omega (arith, same))
read_split (x ∷ xs) ys [] qs same h = absurd (omega (arith, same))
read_split (x ∷ xs) ys (p ∷ ps) qs same h =
    let others = read_split xs ys ps qs (omega (arith, same)) h.1 in
    ((h.0, others.0), others.1)

short_split : (ps qs : List (List ℕ)) → AreShort (ps ++ qs) → AreShort ps × AreShort qs
short_split [] qs h = (tt, h)
short_split (p ∷ ps) qs h =
    let others = short_split ps qs h.1 in ((h.0, others.0), others.1)

module _ (zone : ZoneParts) (told : IsToldZone zone) where
  abbrev behind_zone : Standing
  behind_zone = describing (named_in zone) (settings_in zone) (entries_in zone)

  head_through : (lines : List (List ℕ)) (steps : Steps) (new : Standing)
      → GoesThrough behind_zone lines steps new
      → GoesThrough beginning (zone_texts zone ++ lines) steps new
  head_through lines steps new rest =
      let config = zone.config in
      let head = head_is zone told.zone_is in
      let settings = map (setting_text config) all_keys in
      let pools = map pool_line_text (entries_in zone) in
      let read = read_split (map Set (settings_in zone)) (map Pool (entries_in zone)) settings pools
      refl head.read.1 in
      let short = short_split settings pools told.short.1 in
      zone_through config ((settings ++ pools) ++ lines) steps new head.read.0 told.short.0
      (subst (λ (ls : List (List ℕ)). GoesThrough (describing (named_in zone) [] []) ls steps new)
      (sym (append_assoc settings pools lines))
      (settings_through (named_in zone) (pools ++ lines) steps new config all_keys [] read.0 short.0
      (pools_through (named_in zone) lines steps new (settings_in zone) (entries_in zone) []
      (omega (arith, head.few)) read.1 short.1 rest)))

  -- where an audit stands behind the whole record
  abbrev behind : List (Event × Outcome) → State → Standing
  behind [] after = behind_zone
  behind (step ∷ steps) after = at nothing_said after

  record_through : (steps : List (Event × Outcome)) (after : State)
      → ToldRun (opened zone) steps after
      → GoesThrough behind_zone (texts_from 1 steps) (map made steps) (behind steps after)
  record_through [] after run = (refl, refl)
  record_through (step ∷ steps) after run =
      let head = head_is zone told.zone_is in
      let mid = awaiting nothing_said (opened zone) step.0 in
      goes_on behind_zone mid (at nothing_said after) (event_text step.0)
      (outcome_text 1 step.1 ∷ texts_from 2 steps) [] (map made (step ∷ steps))
      (event_mark step.0) run.0.short_event
      (subst (λ (line : Option Line). Describes behind_zone line mid)
      (sym (reading.read_back step.0 run.0.event_is).back)
      (subst (λ (r : Result Script ScriptFault). Opens r (script.Event step.0) mid)
      (sym head.made) (told.pools, refl)))
      refl
      (event_through nothing_said step steps (opened zone) after 1 refl
      (opening_reached zone told) run)

  zone_known : (steps : List (Event × Outcome)) (after : State)
      → (behind steps after).zone ≡ zone_behind steps after
  zone_known [] after = refl
  zone_known (step ∷ steps) after = refl

  none_awaited : (steps : List (Event × Outcome)) (after : State)
      → (behind steps after).awaited ≡ None
  none_awaited [] after = refl
  none_awaited (step ∷ steps) after = refl

pub found_again : (zone : ZoneParts) (steps : List (Event × Outcome)) (after : State)
    → IsToldZone zone → ToldRun (opened zone) steps after → IsFoundAgain zone steps after
found_again zone steps after told run =
    let texts = zone_texts zone ++ texts_from 1 steps in
    let text = record_flat zone steps in
    let head = head_is zone told.zone_is in
    let lines = lines_append (zone_texts zone) (texts_from 1 steps)
    (are_lines (head_lines (named_in zone) (entries_in zone) (settings_in zone)) (zone_texts zone)
    head.read)
    (steps_are_lines steps (opened zone) after 1 refl run) in
    let through = subst (λ (t : List ℕ). GoesThrough beginning (lines_behind [] t) (map made steps)
    (behind zone told steps after)) (sym text)
    (subst (λ (ls : List (List ℕ)). GoesThrough beginning ls (map made steps)
    (behind zone told steps after)) (sym (lines_are texts lines))
    (head_through zone told (texts_from 1 steps) (map made steps)
    (behind zone told steps after) (record_through zone told steps after run))) in
    record {
      standing = behind zone told steps after;
      is_record = record {
        through = through;
        few = subst (λ (t : List ℕ). length (begun_behind [] t) ≤ most_octets) (sym text)
            (subst (λ (b : List ℕ). length b ≤ most_octets) (sym (none_begun texts lines))
            (omega arith));
      };
      zone_is = zone_known zone told steps after;
      whole = none_awaited zone told steps after;
      alone = λ others other is_record.
          one_record (lines_behind [] (record_text zone (map recorded steps))) others
          (map made steps) beginning other (behind zone told steps after) is_record.through through;
    }
