use Rattle.surroundings.proofs.FlushedRecords.{begun_kept}
use Rattle.surroundings.proofs.record_file.begun.Goals as goal

pub returns-clause-text : goal.returns-clause-text
returns-clause-text g c =
    let behind = c.write_time.new.out.contents in
    let flushed = c.in_ok-flush.ensures in record {
      behind = behind;
      beginning = c.in_ok-write_time.ensures;
      begun = begun_kept behind c.args.zone.now c.args.most c.in_ok-record.record c.flush.new.self
          flushed.same flushed.open flushed.text c.in_ok-record.ensures;
    }
