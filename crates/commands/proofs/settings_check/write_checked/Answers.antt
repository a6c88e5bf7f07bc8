use Rattle.std.proofs.Common.{◌++◌, IsTrue, codes}
use Rattle.std.proofs.KnownBytes.{Appends-kept, Appends-trans}
use Rattle.std.proofs.lemmas.Result.{on_ok_weaker}
use Rattle.settings.specs.Listing.{settings_listing}
use Rattle.commands.proofs.settings_check.write_checked.Goals as goal

pub returns-clause-written : goal.returns-clause-written
returns-clause-written g c =
    let start = c.args.out.now.contents in
    let one = c.write_all.new.self.contents in
    let two = c.write_settings.new.out.contents in
    let end = c.flush.new.self.contents in
    let first = codes "settings: ok\n" in
    let listing = settings_listing c.args.settings.now in
    on_ok_weaker c.flush.result
    (λ (is : IsTrue c.flush.new.self.flushed). Appends-kept start two end (first ++ listing)
    (Appends-trans start one two first listing c.in_ok-write_all.ensures.bytes c.in_ok-write_settings.ensures)
    c.flush.ensures.bytes)
    c.flush.ensures.flushed
