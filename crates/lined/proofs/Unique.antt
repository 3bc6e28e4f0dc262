-- No second result meets the public promise of this crate.
use mathlib.Core.Path.{sym, ◌∙◌}
use Rattle.model.proofs.Settles.{Settles}
use Rattle.lined.proofs.lined.Reads as lined

pub lined_result_unique : Settles lined.Post (λ κs r s. r)
lined_result_unique κs x r q s t e f = e.0 ∙ sym f.0

pub lined_words_unique : Settles lined.Post (λ κs r s. s.1.0.now)
lined_words_unique κs x r q s t e f = e.1 ∙ sym f.1
