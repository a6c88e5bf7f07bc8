use Rattle.zone_lock.proofs.lock.ZoneLock.figures.Goals as goal

pub returns-clause-figures : goal.returns-clause-figures
returns-clause-figures g c = record {
  held = _;
  kept = c.figures_locked.ensures.kept;
  figures = c.figures_locked.ensures.figures;
}

pub returns-clause-within : goal.returns-clause-within
returns-clause-within g c = c.figures_locked.ensures.figures.within
