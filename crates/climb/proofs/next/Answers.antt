use Rattle.climb.proofs.Climbs.{run_step, stepped}
use Rattle.climb.proofs.next.Goals as goal

pub narrow-next-requires : goal.narrow-next-requires
narrow-next-requires c =
    record {
      plate = c.requires.climbs.plate;
      relief = c.requires.climbs.relief;
      done = _;
      climbs =
          (run_step _ _ _ _ _ _ _ _ c.reach_of-reach.ensures c.requires.more c.next_run-run.ensures _ _ _
          c.requires.climbs.climbs).climbs;
    }

pub returns : goal.returns
returns c =
    stepped _ _ _ _ _ _ _ _ c.reach_of-reach.ensures c.requires.more c.next_run-run.ensures _ _
    _ c.requires.climbs.climbs _ _ _ c.narrow-next.ensures
