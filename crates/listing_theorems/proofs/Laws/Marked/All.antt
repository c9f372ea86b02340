-- The written rules give every case of the table.
-- Assumes nothing.
use Rattle.gap_runs.proofs.Laws.Runs.Examples.{starred as runs}
use Rattle.power.proofs.Laws.Cases.{cases as power}
use Rattle.command.proofs.Laws.Cases.{cases as command}
use Rattle.listing_theorems.specs.Marked.{Given, marked}
use Rattle.listing_theorems.proofs.Laws.Marked.Resuming.{resumed}
use Rattle.listing_theorems.proofs.Laws.Marked.Page.{page}

pub all_given : Given marked
unfolding Given
all_given = (
  power.like,
  (
    power.unlike,
    (
      power.above,
      (
        command.majority,
        (
          command.half,
          (
            command.minus,
            (
              power.fewer,
              (
                power.more,
                (
                  power.one,
                  (
                    power.two,
                    (
                      runs,
                      (
                        resumed.all_taken,
                        (
                          resumed.first,
                          (
                            resumed.second,
                            (
                              resumed.resume,
                              (
                                page,
                                tt,
                              ),
                            ),
                          ),
                        ),
                      ),
                    ),
                  ),
                ),
              ),
            ),
          ),
        ),
      ),
    ),
  ),
)
