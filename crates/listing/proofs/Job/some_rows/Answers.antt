-- `Job::some_rows` meets its contract: the rows lie in the file, and their run says what the lines are made of.
use Rattle.listing.specs.Pieces.{some_rows}
use Rattle.listing.proofs.Running.{chosen, shows}
use Rattle.listing.proofs.Job.some_rows.Goals as goal

pub run-ran-requires : goal.run-ran-requires
run-ran-requires c =
    let j = c.args.self.now in
    (chosen c.args.st.row _ _ j.lies j.few c.requires.room c.min-done.ensures c.rows_at_once-count.ensures).in_file

pub show-requires : goal.show-requires
show-requires c =
    let j = c.args.self.now in
    let h = chosen c.args.st.row _ _ j.lies j.few c.requires.room c.min-done.ensures c.rows_at_once-count.ensures in
    (shows j.settings j.bodies j.bytes.now c.args.st _ _ _ _ h c.requires.has_numbers _ _ c.run-ran.ensures).showing

pub returns : goal.returns
unfolding some_rows
returns c =
    let j = c.args.self.now in
    let h = chosen c.args.st.row _ _ j.lies j.few c.requires.room c.min-done.ensures c.rows_at_once-count.ensures in
    let f = shows j.settings j.bodies j.bytes.now c.args.st _ _ _ _ h c.requires.has_numbers _ _ c.run-ran.ensures in
    rw (← c.min-done.ensures, ← c.rows_at_once-count.ensures, ← f.rows) (rw c.sends_data.ensures at c.show.ensures)
