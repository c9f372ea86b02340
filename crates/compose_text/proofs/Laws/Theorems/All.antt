-- Every theorem, proved.
-- Assumes nothing.
use Rattle.compose_text.specs.Theorems.{Theorems}
use Rattle.compose_text.proofs.Laws.Theorems.OnAnswers.{one_answer, rest_stays, untouched, unread, too_long}
use Rattle.compose_text.proofs.Laws.Theorems.Sizes.{by_size, same_file}
use Rattle.compose_text.proofs.Laws.Theorems.Meaning.{means, makes}
use Rattle.compose_text.proofs.Laws.Theorems.Named.{named}

pub theorems : Theorems
theorems =
    record {
      one_answer = one_answer;
      by_size = by_size;
      same_file = same_file;
      rest_stays = rest_stays;
      untouched = untouched;
      too_long = too_long;
      unread = unread;
      named = named;
      means = means;
      makes = makes;
    }
