-- What the table `[serve]` sets.
use Rattle.std.specs.Prelude.{ℕ, Option, Some, None, Result, Ok, codes}
use Rattle.toml.specs.Data.{Data, Members, as_table, get_member}
use Rattle.settings.specs.declared.fault.Refusal.{Refusal}
use Rattle.settings.specs.declared.serve.ServeParts.{ServeParts}
use Rattle.settings.specs.declared.serve_key.ServeKey.{ServeKey}
use Rattle.settings.specs.declared.serve_key.ServeKey.TheVariants.{Receivers, Ring, Faults, Tick}
use Rattle.settings.specs.declared.serve_key.ServeKey.TheVariants.{Buffer}
use Rattle.settings.specs.declared.setting_key.SettingKey.TheVariants.{ServeTable, Serve}
use Rattle.settings.specs.declared.setting_key.SettingKey.TheVariants.{Status}
use Rattle.value_texts.specs.Texts as texts
use Rattle.settings.specs.ServeKeys.{name_of, least_of, most_of, default_of}
use Rattle.settings.specs.Ranges.{AreServeNumbers}
use Rattle.settings.specs.Values.{◌>>=◌, number_or, of_kind, optional_text}

-- the number of a key: that of the table, or its default
abbrev pub serve_number : Members → ServeKey → Result ℕ Refusal
serve_number table key =
    number_or (Serve key) (least_of key) (most_of key) (default_of key)
    (get_member (name_of key) table)

-- the numbers and the address of the status page, tested in this order
abbrev pub serve_parts : Members → Result ServeParts Refusal
serve_parts table = do
  receivers ← serve_number table Receivers
  ring ← serve_number table Ring
  faults ← serve_number table Faults
  tick ← serve_number table Tick
  buffer ← serve_number table Buffer
  status ← optional_text Status texts.address_of (get_member (codes "status") table)
  Ok (record {
    receivers = receivers;
    ring = ring;
    faults = faults;
    tick = tick;
    buffer = buffer;
    status = status;
  })

abbrev pub default_parts : ServeParts
default_parts = record {
  receivers = default_of Receivers;
  ring = default_of Ring;
  faults = default_of Faults;
  tick = default_of Tick;
  buffer = default_of Buffer;
  status = None;
}

-- the defaults stand in for a table that isn't there
unfoldable pub serve_of : Option Data → Result ServeParts Refusal
serve_of None = Ok default_parts
serve_of (Some value) = do
  table ← of_kind ServeTable (as_table value)
  serve_parts table

-- the numbers are in their ranges
abbrev pub AreInRange : ServeParts → Type 0
AreInRange parts =
    AreServeNumbers parts.receivers parts.ring parts.faults parts.tick parts.buffer
