-- `chip::Chip::sector` meets its contract. Assumes nothing.
use Rattle.chip.proofs.Answers.{sector_long, sector_place, sector_in, sector_counts}
use Rattle.chip.proofs.Chip.sector.Goals as goal

pub unreachable-requires : goal.unreachable-requires
unreachable-requires c = c.in_default.ensures.cases (sector_long c.args.self c.args.ring.now c.args.sector.now c.in_ok-admission.ensures)

pub store-judgement-requires : goal.store-judgement-requires
store-judgement-requires c = sector_in _ _ _ c.in_ok-admission.ensures

pub counted-requires : goal.counted-requires
counted-requires c = sector_counts _ _ _ c.in_ok-admission.ensures

pub conclude-requires : goal.conclude-requires
conclude-requires c = sector_place _ _ _ c.in_ok-admission.ensures
