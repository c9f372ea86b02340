-- `compose_text::finish` meets its contract.
use Rattle.std.proofs.Common.{◌≡◌, rules}
use Rattle.compose_text.specs.Composing.{by_writing}
use Rattle.compose_text.proofs.Ending.{over, written, by_name}
use Rattle.compose_text.proofs.finish.Goals as goal

pub returns-then-bodies-st : goal.returns-then-bodies-st
returns-then-bodies-st c = λ p s. over p s c.requires.room c.if-bodies-st.true

pub returns : goal.returns
returns c =
    λ p s. let e : c.map_err.result ≡ by_writing c.write.result =
    by_name c.write.result c.map_err.result _ c.map_err.ensures.cases (λ e d h. search rules) in
    rw e (written p s c.if-bodies-st.false c.settings_bytes-settings.ensures c.write.ensures)
