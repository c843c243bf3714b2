-- `recency::Log::save` meets its contract. Assumes nothing.
use mathlib.Core.Path.{◌∙◌}
use Rattle.recency.proofs.Unchained.{save_rows, saved_pages, saved_marks}
use Rattle.recency.proofs.Log.save.Goals as goal

pub save-requires : goal.save-requires
save-requires c =
    save_rows c.requires

pub returns : goal.returns
returns c =
    record { list_after = c.save.ensures.list_after ∙ saved_pages _ _; kept_after = c.save.ensures.kept_after ∙ saved_marks _ _ }
