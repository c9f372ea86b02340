-- `words::line_end` meets its contract: a carriage return is left out only where the line feed stands right after it.
use Rattle.words.proofs.Turns.{end_open, end_empty, end_return, end_plain}
use Rattle.words.proofs.line_end.Goals as goal
use Rattle.words.proofs.line_end.Goals.{else-feed-text-via-then-feed-text+then-at-feed+else-text-feed-eq13, else-feed-text-via-then-feed-text+else-at-feed, else-feed-text-via-else-feed-text}

pub returns-then-text-feed-eq13 : goal.returns-then-text-feed-eq13
returns-then-text-feed-eq13 c = end_return _ _ _ c.requires c.if-feed-text.true c.if-at-feed.true c.if-text-feed-eq13.true

pub returns-else-feed-text : goal.returns-else-feed-text
returns-else-feed-text c =
    elim c.else-feed-text.branch [
      | else-feed-text-via-then-feed-text+then-at-feed+else-text-feed-eq13 w ↦
          end_plain _ _ _ c.requires w.if-feed-text.true w.if-at-feed.true w.if-text-feed-eq13.false
      | else-feed-text-via-then-feed-text+else-at-feed w ↦ end_empty _ _ _ c.requires w.if-feed-text.true w.if-at-feed.false
      | else-feed-text-via-else-feed-text w ↦ end_open _ _ _ c.requires w.if-feed-text.false
    ]
